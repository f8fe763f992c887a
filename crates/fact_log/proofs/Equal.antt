-- The derived == decides whether two things are the same.
use Rattle.std.proofs.Common.{◌≡◌, Bool, true, false, ◌&&◌, ◌==◌, Some, None, Option, Decides, refl}
use Rattle.std.specs.Option.{option_eq}
use Rattle.std.specs.Bool.{beq}
use Rattle.std.proofs.lemmas.Bool.Decides.{Decides-like, Decides-and, Decides-eqb}
use Rattle.cells.specs.contracts.FactPartialEq.TheImpl as fact
use Rattle.cells.specs.contracts.PhrasePartialEq.TheImpl as phrase
use Rattle.cells.proofs.Equal.{Tests, phrase_decides, fact_decides}
use Rattle.fact_log.specs.contracts.things.KeyPartialEq.TheImpl as key
use Rattle.fact_log.specs.contracts.things.ThingPartialEq.TheImpl as the_thing
use Rattle.fact_log.specs.declared.things.Key as keys
use Rattle.fact_log.specs.declared.things.Thing.{Thing}
use Rattle.fact_log.specs.declared.things.Thing.TheVariants.{Fact, Key, Due}

same_key : (x y : keys.Key) → x.made ≡ y.made → x.phrase ≡ y.phrase → x.constituent ≡ y.constituent → x.start ≡ y.start → x ≡ y
same_key x y m p l j =
    let z : ◌≡◌ {A = keys.Key} (record { made = x.made; phrase = x.phrase; constituent = x.constituent; start = x.start }) (record { made = y.made; phrase = y.phrase; constituent = y.constituent; start = y.start }) =
    cc in
    z

bool_decides : Tests Bool beq
bool_decides true true = (λ _. refl, λ _. refl)
bool_decides true false = (λ e. cc, λ e. cc)
bool_decides false true = (λ e. cc, λ e. cc)
bool_decides false false = (λ _. refl, λ _. refl)

key_decides : Tests keys.Key key.ghosts.eq
key_decides x y =
    let first = beq x.made y.made in
    let second = phrase.ghosts.eq x.phrase y.phrase in
    let third = x.constituent == y.constituent in
    let fourth = x.start == y.start in
    Decides-like (first && (second && (third && fourth))) (λ p. same_key x y p.0 p.1.0 p.1.1.0 p.1.1.1) (λ e. (cc, (cc, (cc, cc))))
    (Decides-and first (second && (third && fourth)) (bool_decides x.made y.made)
    (Decides-and second (third && fourth) (phrase_decides x.phrase y.phrase)
    (Decides-and third fourth (Decides-eqb x.constituent y.constituent) (Decides-eqb x.start y.start))))

pub thing_decides : Tests Thing the_thing.ghosts.eq
thing_decides (Fact x) (Fact y) = Decides-like (fact.ghosts.eq x y) (λ p. cc) (λ e. cc) (fact_decides x y)
thing_decides (Fact x) (Key y) = (λ e. cc, λ e. cc)
thing_decides (Key x) (Fact y) = (λ e. cc, λ e. cc)
thing_decides (Fact x) (Due n) = (λ e. cc, λ e. cc)
thing_decides (Key x) (Key y) = Decides-like (key.ghosts.eq x y) (λ p. cc) (λ e. cc) (key_decides x y)
thing_decides (Key x) (Due n) = (λ e. cc, λ e. cc)
thing_decides (Due m) (Fact y) = (λ e. cc, λ e. cc)
thing_decides (Due m) (Key y) = (λ e. cc, λ e. cc)
thing_decides (Due m) (Due n) = Decides-like (m == n) (λ p. cc) (λ e. cc) (Decides-eqb m n)

-- whether what is looked up is this thing
pub some_decides : (o : Option Thing) (t : Thing) → Decides (option_eq the_thing.ghosts.eq o (Some t)) (o ≡ Some t)
some_decides None t = (λ e. cc, λ e. cc)
some_decides (Some x) t = Decides-like (the_thing.ghosts.eq x t) (λ p. cc) (λ e. cc) (thing_decides x t)
