-- What one turn of reading keeps: what reading comes to from here decides what it comes to in all. Assumes nothing.
use Rattle.std.proofs.Common.{◌≡◌, ℕ, ◌<◌, ◌≤◌, true, false, cond, eqb, List, [], ◌∷◌, length, is_some, Some, None, Ok, Err, Option, sym, refl, ap, ◌∙◌, arith}
use Rattle.records.specs.declared.kinds.Kind.{Kind}
use Rattle.records.specs.declared.kinds.Kind.TheVariants.{Head, Category, Function, Constituent, Filled, Empty}
use Rattle.records.specs.Kinds.{kind_number, number_before, may_follow}
use Rattle.records.specs.Records.{Entry, after_entry, entry_at, entries_from, consed, read_from, reading}
use Rattle.records.proofs.Rows.{past, entries_more, entries_none, read_end, read_more}

pub record Leads (bs : List ℕ) (o last : ℕ) : Type 0 where
  pub fault : (f : List ℕ) → read_from bs o last ≡ Err f → reading bs ≡ Err f
  pub good : read_from bs o last ≡ Ok (entries_from bs o) → reading bs ≡ Ok (entries_from bs 0)

pub leads_first : (bs : List ℕ) → Leads bs 0 0
leads_first bs = record { fault = λ f h. h; good = λ h. h }

pub leads_more : (bs : List ℕ) (o last : ℕ) (e : Entry) → o < length bs → entry_at bs o ≡ Ok e → may_follow last e.kind ≡ true → Leads bs o last → Leads bs (after_entry e) (kind_number e.kind)
leads_more bs o last e h r f l =
    let step = read_more bs o last e h r f in
    record {
      fault = λ x t. l.fault x (step ∙ ap (consed e) t);
      good = λ t. l.good (step ∙ ap (consed e) t ∙ ap Ok (sym (entries_more bs o e r)));
    }

some_number : (m : Option Kind) → is_some m ≡ true → eqb (number_before m) 0 ≡ false
some_number None h = absurd (let z : ◌≡◌ {A = ℕ} 0 1 = cc in omega arith)
some_number (Some Head) h = refl
some_number (Some Category) h = refl
some_number (Some Function) h = refl
some_number (Some Constituent) h = refl
some_number (Some Filled) h = refl
some_number (Some Empty) h = refl

none_number : (m : Option Kind) → is_some m ≡ false → eqb (number_before m) 0 ≡ true
none_number None h = refl
none_number (Some k) h = absurd (let z : ◌≡◌ {A = ℕ} 0 1 = cc in omega arith)

-- the end of the file, after some record
pub ends_good : (bs : List ℕ) (o : ℕ) (before : Option Kind) → length bs ≤ o → is_some before ≡ true → Leads bs o (number_before before) → reading bs ≡ Ok (entries_from bs 0)
ends_good bs o before h some l =
    l.good (read_end bs o (number_before before) h
    ∙ ap (λ b. cond b (Err (3 ∷ o ∷ [])) (Ok [])) (some_number before some)
    ∙ ap Ok (sym (entries_none bs o _ (past bs o (omega arith)))))

-- and after none
pub ends_bad : (bs : List ℕ) (o : ℕ) (before : Option Kind) → length bs ≤ o → is_some before ≡ false → Leads bs o (number_before before) → reading bs ≡ Err (3 ∷ o ∷ [])
ends_bad bs o before h none l =
    l.fault _ (read_end bs o (number_before before) h ∙ ap (λ b. cond b (Err (3 ∷ o ∷ [])) (Ok [])) (none_number before none))
