-- Finding the least heights by rounds: a category is found in the round in which some place of it has all its arguments found in
-- earlier rounds. A list holds for each category the round in which it was found, and 0 where it was not yet.
use Rattle.std.specs.Prelude.{◌≡◌, ℕ, zero, suc, ◌+◌, ◌<◌, ◌≤◌, Bool, false, cond, ◌||◌, List, [], ◌∷◌, length, take, Some, None, Option, ◌==◌, nat_le, slice_index}
use Rattle.std.specs.List.{AllByRecursion}
use Rattle.faults.specs.Limits.{most_arguments}
use Rattle.grammar.specs.Grammar.{Grammar, Production, production_at}
use Rattle.grammar.specs.Trees.{Tree, TreeOf, height}
use Rattle.faults.specs.Tests.{some_of}

-- The category was not found before round r.
abbrev pub late_in : List ℕ → ℕ → ℕ → Bool
late_in hs r c = slice_index hs c == 0 || nat_le r (slice_index hs c)

abbrev pub Found : List ℕ → ℕ → Type 0
Found hs c = 0 < slice_index hs c

abbrev pub Earlier : List ℕ → ℕ → ℕ → Type 0
Earlier hs r c = (0 < slice_index hs c) × (slice_index hs c < r)

-- What is found at place p in round r: its result, if that was not found yet and all its arguments were found before.
abbrev pub Finds : Grammar → List ℕ → ℕ → ℕ → Option ℕ → Type 0
Finds g hs r p None = (q : Production) → production_at g p ≡ Some q → q.result < length hs → some_of (late_in hs r) (take most_arguments q.arguments) ≡ false → Found hs q.result
Finds g hs r p (Some c) = (q : Production) × (production_at g p ≡ Some q) × (q.result ≡ c) × (c < length hs) × (slice_index hs c ≡ 0) × (some_of (late_in hs r) (take most_arguments q.arguments) ≡ false)

-- As round r begins: what is found was found before, at the height of some tree, and every tree lower than r was found.
pub record Begun (g : Grammar) (r : ℕ) (hs : List ℕ) : Type 0 where
  pub before : (c : ℕ) → slice_index hs c < r
  pub trees : (c : ℕ) → Found hs c → (t : Tree) × TreeOf g t c × (height t ≡ slice_index hs c)
  pub below : (t : Tree) (c : ℕ) → TreeOf g t c → height t < r → Found hs c × (slice_index hs c ≤ height t)

-- The same within round r, when n places have been passed.
pub record During (g : Grammar) (r n : ℕ) (hs : List ℕ) : Type 0 where
  pub upto : (c : ℕ) → slice_index hs c ≤ r
  pub trees : (c : ℕ) → Found hs c → (t : Tree) × TreeOf g t c × (height t ≡ slice_index hs c)
  pub below : (t : Tree) (c : ℕ) → TreeOf g t c → height t < r → Found hs c × (slice_index hs c ≤ height t)
  pub passed : (p : ℕ) (q : Production) → p < n → production_at g p ≡ Some q → AllByRecursion (Earlier hs r) q.arguments → Found hs q.result

-- Nothing is left to find.
abbrev pub Closed : Grammar → List ℕ → Type 0
Closed g hs = (p : ℕ) (q : Production) → production_at g p ≡ Some q → AllByRecursion (Found hs) q.arguments → Found hs q.result

-- How many categories were found.
abbrev pub found_count : List ℕ → ℕ
found_count [] = 0
found_count (zero ∷ hs) = found_count hs
found_count (suc h ∷ hs) = suc (found_count hs)

abbrev pub one_if : Bool → ℕ
one_if b = cond b 1 0

-- What round r makes of the heights hs: the next may begin, and a round that finds none is the last.
pub record Round (g : Grammar) (r : ℕ) (hs after : List ℕ) (any : Bool) : Type 0 where
  pub next : Begun g (r + 1) after
  pub more : found_count hs + one_if any ≤ found_count after
  pub last : any ≡ false → Closed g after
