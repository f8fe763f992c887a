-- The lists of two answers are equal only if the answers are. Assumes nothing.
use Rattle.std.proofs.Common.{◌≡◌, ℕ, Some, None, Option, refl, ap, arith}
use Rattle.grammar.specs.declared.Place.{Place}
use Rattle.grammar.specs.declared.Symbol.{Symbol}
use Rattle.grammar.specs.declared.Symbol.TheVariants.{Token, Argument}
use Rattle.grammar.specs.Listed.{symbol_listed, place_listed}

pub symbols_apart : (x y : Symbol) → symbol_listed x ≡ symbol_listed y → x ≡ y
symbols_apart (Token s) (Token t) h = let same : s ≡ t = cc in ap Token same
symbols_apart (Token s) (Argument k l) h = absurd (let z : ◌≡◌ {A = ℕ} 0 1 = cc in omega arith)
symbols_apart (Argument k l) (Token t) h = absurd (let z : ◌≡◌ {A = ℕ} 0 1 = cc in omega arith)
symbols_apart (Argument k l) (Argument m n) h =
    let first : k ≡ m = cc in
    let second : l ≡ n = cc in
    λ i. Argument (first i) (second i)

pub places_apart : (x y : Option Place) → place_listed x ≡ place_listed y → x ≡ y
places_apart None None h = refl
places_apart None (Some p) h = absurd (let z : ◌≡◌ {A = ℕ} 0 1 = cc in omega arith)
places_apart (Some p) None h = absurd (let z : ◌≡◌ {A = ℕ} 0 1 = cc in omega arith)
places_apart (Some p) (Some q) h =
    let result : p.result ≡ q.result = cc in
    let function : p.function ≡ q.function = cc in
    λ i. Some (record { result = result i; function = function i })
