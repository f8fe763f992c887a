-- The chart of a grammar and a list of tokens as a list that is computed: the steps from an item, the steps from an item
-- and a made rule, and what these lead to from the facts that begin, until nothing is new. Also the live places, from
-- which it starts, and the tokens of its frontier. Assumes nothing.
use Rattle.std.proofs.Common.{ℕ, zero, suc, ◌+◌, ◌-◌, Bool, true, false, cond, ◌&&◌, ◌||◌, eqb, ltb, leb, List, [], ◌∷◌, ◌++◌, map, length, take, drop, Some, None, filter, Option, unwrap_or}
use Rattle.std.specs.List.{slice_get, flat_map}
use Rattle.grammar.specs.declared.Symbol.{Symbol}
use Rattle.grammar.specs.declared.Symbol.TheVariants.{Token, Argument}
use Rattle.grammar.specs.Grammar.{Grammar, Production, from_one, production_at}
use Rattle.chart.specs.Chart.{Reading, unread, read, Phrase, Rule, Fact, made, item, reading_at, read_as, left_read, with_argument, after_dot}
use Rattle.chart.specs.Sums.{same_phrase, rules_for, bare_rules, made_rules}

-- Whether two lists of phrases, two rules, two facts are equal.
abbrev pub same_phrases : List Phrase → List Phrase → Bool
same_phrases [] [] = true
same_phrases [] (Y ∷ Ys) = false
same_phrases (X ∷ Xs) [] = false
same_phrases (X ∷ Xs) (Y ∷ Ys) = same_phrase X Y && same_phrases Xs Ys

abbrev pub same_rule : Rule → Rule → Bool
same_rule r q = eqb r.place q.place && (same_phrase r.left q.left && same_phrases r.arguments q.arguments)

abbrev pub same_fact : Fact → Fact → Bool
same_fact (made r) (made q) = same_rule r q
same_fact (made r) (item q m a b c) = false
same_fact (item r l j i k) (made q) = false
same_fact (item r l j i k) (item q m a b c) = eqb k c && (eqb i b && (eqb j a && (eqb l m && same_rule r q)))

-- Whether x is in the list.
abbrev pub among : Fact → List Fact → Bool
among x [] = false
among x (y ∷ ys) = same_fact x y || among x ys

-- Whether xs begins with us.
abbrev pub begins_with : List ℕ → List ℕ → Bool
begins_with [] xs = true
begins_with (u ∷ us) [] = false
begins_with (u ∷ us) (x ∷ xs) = eqb u x && begins_with us xs

-- Whether the tokens of w from position j to position k are u.
abbrev pub reads : List ℕ → ℕ → ℕ → List ℕ → Bool
reads w j k u = leb k (length w) && (eqb (j + length u) k && begins_with u (drop j w))

-- What an item stands before: the end of its constituent; a token; ⟨d;s⟩ unread in X, the argument d; ⟨d;s⟩ read from
-- a to b; or a symbol that names no constituent of an argument.
pub data Before : Type 0 where
  ended : Before
  token : ℕ → Before
  unread_in : (d s : ℕ) → Phrase → Before
  read_in : (d s a b : ℕ) → Before
  nothing : Before

abbrev pub before_reading : ℕ → ℕ → Phrase → Option Reading → Before
before_reading d s X None = nothing
before_reading d s X (Some unread) = unread_in d s X
before_reading d s X (Some (read a b)) = read_in d s a b

abbrev pub before_argument : ℕ → ℕ → Option Phrase → Before
before_argument d s None = nothing
before_argument d s (Some X) = before_reading d s X (reading_at X s)

abbrev pub before_symbol : Rule → Option Symbol → Before
before_symbol r None = ended
before_symbol r (Some (Token t)) = token t
before_symbol r (Some (Argument d s)) = before_argument d s (from_one r.arguments d)

abbrev pub stands_before : Grammar → Rule → ℕ → ℕ → Before
stands_before g r l i = before_symbol r (after_dot g r l i)

abbrev pub is_token : ℕ → Option ℕ → Bool
is_token t None = false
is_token t (Some x) = eqb x t

-- The tokens from a to b.
abbrev pub between : List ℕ → ℕ → ℕ → List ℕ
between w a b = take (b - a) (drop a w)

-- What the steps from one item lead to.
abbrev pub steps_before : List ℕ → List Rule → Rule → ℕ → ℕ → ℕ → ℕ → Before → List Fact
steps_before w bares r l j i k ended = made (left_read r l j k) ∷ []
steps_before w bares r l j i k (token t) = cond (is_token t (slice_get w k)) (item r l j (suc i) (suc k) ∷ []) []
steps_before w bares r l j i k (unread_in d s X) = map (λ q. item q s k 0 k) (rules_for X bares)
steps_before w bares r l j i k (read_in d s a b) =
    cond (reads w a b (between w a b) && reads w k (k + (b - a)) (between w a b)) (item r l j (suc i) (k + (b - a)) ∷ []) []
steps_before w bares r l j i k nothing = []

abbrev pub steps : Grammar → List ℕ → List Rule → Fact → List Fact
steps g w bares (made r) = []
steps g w bares (item r l j i k) = steps_before w bares r l j i k (stands_before g r l i)

-- What the steps from an item and a made rule lead to.
abbrev pub combined : Rule → ℕ → ℕ → ℕ → ℕ → Rule → ℕ → ℕ → Phrase → Option Reading → List Fact
combined r l j i k q d s X None = []
combined r l j i k q d s X (Some unread) = []
combined r l j i k q d s X (Some (read a m)) = cond (same_phrase q.left (read_as X s k m)) (item (with_argument r d q.left) l j (suc i) m ∷ []) []

abbrev pub joins_before : Rule → ℕ → ℕ → ℕ → ℕ → Rule → Before → List Fact
joins_before r l j i k q ended = []
joins_before r l j i k q (token t) = []
joins_before r l j i k q (unread_in d s X) = cond (same_phrase q.left X) (item q s k 0 k ∷ []) [] ++ combined r l j i k q d s X (reading_at q.left s)
joins_before r l j i k q (read_in d s a b) = []
joins_before r l j i k q nothing = []

abbrev pub joins : Grammar → Fact → Fact → List Fact
joins g (made r) y = []
joins g (item r l j i k) (made q) = joins_before r l j i k q (stands_before g r l i)
joins g (item r l j i k) (item q m a b c) = []

-- What the steps from two facts lead to, whichever is the item.
abbrev pub paired : Grammar → Fact → Fact → List Fact
paired g x y = joins g x y ++ joins g y x

-- What x leads to, with the facts of the list.
abbrev pub leads_to : Grammar → List ℕ → List Rule → Fact → List Fact → List Fact
leads_to g w bares x facts = steps g w bares x ++ flat_map (paired g x) facts

-- Takes the facts of `todo` one by one: what is new goes to `done`, and what it leads to with `done` goes to `todo`. Nothing
-- where n facts were taken and some are left.
abbrev pub saturated : Grammar → List ℕ → List Rule → ℕ → List Fact → List Fact → Option (List Fact)
saturated g w bares zero done [] = Some done
saturated g w bares zero done (x ∷ todo) = None
saturated g w bares (suc n) done [] = Some done
saturated g w bares (suc n) done (x ∷ todo) = cond (among x done)
    (saturated g w bares n done todo)
    (saturated g w bares n (x ∷ done) (leads_to g w bares x (x ∷ done) ++ todo))

-- The items of the start category that begin.
abbrev pub begins : Grammar → List Rule → List Fact
begins g bares = map (λ r. item r 1 0 0 0) (filter (λ r. eqb r.left.category g.start) bares)

abbrev pub chart_within : ℕ → Grammar → List ℕ → List Rule → Option (List Fact)
chart_within n g w bares = saturated g w bares n [] (begins g bares)

-- Whether c is in the list of categories, and whether all of them are.
abbrev pub has : ℕ → List ℕ → Bool
has c [] = false
has c (d ∷ ds) = eqb c d || has c ds

abbrev pub has_all : List ℕ → List ℕ → Bool
has_all [] ds = true
has_all (c ∷ cs) ds = has c ds && has_all cs ds

-- What a place makes, where it makes anything of trees of the categories in the list.
abbrev pub result_from : List ℕ → Option Production → List ℕ
result_from cs None = []
result_from cs (Some q) = cond (has_all q.arguments cs) (q.result ∷ []) []

-- The categories that have a tree of height at most n.
abbrev pub with_trees : Grammar → ℕ → List ℕ
with_trees g zero = []
with_trees g (suc n) = flat_map (result_from (with_trees g n)) g.places

abbrev pub is_live : List ℕ → Option Production → Bool
is_live cs None = false
is_live cs (Some q) = has_all q.arguments cs

-- The numbers below n.
abbrev pub below : ℕ → List ℕ
below zero = []
below (suc n) = n ∷ below n

-- The live places: those that make something of trees of the categories that have trees. A category that has a tree has
-- one no higher than the number of categories.
abbrev pub live_places : Grammar → List ℕ
live_places g = filter (λ p. is_live (with_trees g (length g.dimensions)) (production_at g p)) (below (length g.places))

-- The chart, where it is found before 1,000 facts are taken.
abbrev pub chart_of : Grammar → List ℕ → Option (List Fact)
chart_of g w = chart_within 1000 g w (bare_rules g (live_places g))

abbrev pub facts_of : Grammar → List ℕ → List Fact
facts_of g w = unwrap_or (chart_of g w) []

abbrev pub rules_of : Grammar → List ℕ → List Rule
rules_of g w = bare_rules g (live_places g) ++ made_rules (facts_of g w)

-- The tokens that an item has next, and those of the frontier.
abbrev pub listed : Option ℕ → List ℕ
listed None = []
listed (Some t) = t ∷ []

abbrev pub next_before : List ℕ → ℕ → Before → List ℕ
next_before w k ended = []
next_before w k (token t) = cond (eqb k (length w)) (t ∷ []) []
next_before w k (unread_in d s X) = []
next_before w k (read_in d s a b) =
    let u = drop k w in
    cond (reads w a (a + length u) u && (reads w k (length w) u && ltb (a + length u) b)) (listed (slice_get w (a + length u))) []
next_before w k nothing = []

abbrev pub next : Grammar → List ℕ → Fact → List ℕ
next g w (made r) = []
next g w (item r l j i k) = next_before w k (stands_before g r l i)

abbrev pub frontier : Grammar → List ℕ → List ℕ
frontier g w = flat_map (next g w) (facts_of g w)

-- Whether the list has t and nothing else.
abbrev pub all_are : ℕ → List ℕ → Bool
all_are t [] = true
all_are t (x ∷ xs) = eqb x t && all_are t xs

abbrev pub only : ℕ → List ℕ → Bool
only t xs = has t xs && all_are t xs
