-- A file as its records, one after another. Assumes nothing.
use Rattle.std.specs.Prelude.{◌≡◌, ℕ, suc, ◌+◌, ◌*◌, true, List, [], ◌∷◌, ◌++◌, length, Some}
use Rattle.records.specs.declared.kinds.Kind.{Kind}
use Rattle.records.specs.Kinds.{kind_number, kind_of, body_fits, may_follow}
use Rattle.records.specs.Records.{Entry}

-- Bytes that begin, at offset o and after a record whose kind has the number `last`, with a record: two bytes for the
-- length of the kind and the body, two for a kind that may stand there, a body that fits it, and then the rest.
pub data Begins (o last : ℕ) : List ℕ → Entry → List ℕ → Type 0 where
  begins : {l₀ l₁ k₀ k₁ : ℕ} {body rest : List ℕ} {k : Kind} → l₀ + 256 * l₁ ≡ 2 + length body → kind_of (k₀ + 256 * k₁) ≡ Some k
      → body_fits k (length body) ≡ true → may_follow last k ≡ true
      → Begins o last (l₀ ∷ (l₁ ∷ (k₀ ∷ (k₁ ∷ (body ++ rest))))) (record { offset = o; kind = k; body = body }) rest

-- The bytes are these records, one after another, up to the end, with a record before the end.
pub data Spelled : List ℕ → ℕ → ℕ → List Entry → Type 0 where
  ended : {o k : ℕ} → Spelled [] o (suc k) []
  after : {bs rest : List ℕ} {o last : ℕ} {e : Entry} {es : List Entry} → Begins o last bs e rest
      → Spelled rest (o + 4 + length e.body) (kind_number e.kind) es → Spelled bs o last (e ∷ es)
