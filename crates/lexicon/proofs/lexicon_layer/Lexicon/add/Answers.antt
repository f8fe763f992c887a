use Rattle.std.proofs.Common.{◌≡◌, ◌∷◌, [], refl, ap, ◌∙◌, arith, ◌≤◌, sym, subst}
use Rattle.std.proofs.Math.Bridge.{le_prop}
use Rattle.arrayvec.specs.ArrayVec.{array_vec_len}
use Rattle.lexicon.specs.declared.lexicon_layer.Lexicon.{Lexicon}
use Rattle.table.specs.declared.layer_refusal.LayerRefusal.{LayerRefusal}
use Rattle.table.specs.declared.layer_refusal.LayerRefusal.TheVariants.{NoRoom}
use Rattle.table.specs.Listed.{refusal_listed}
use Rattle.lexicon.specs.declared.lexicon_layer.Entry.{Entry}
use Rattle.lexicon.specs.Lexicon.{with_words, entries_of}
use Rattle.lexicon.proofs.Words.{one_more_lem, ended}
use Rattle.lexicon.proofs.lexicon_layer.Lexicon.add.Goals as goal

only : (x : LayerRefusal) → refusal_listed x ≡ 15 ∷ []
only NoRoom = refl

-- with the same entries a layer is the same
kept_whole : {S : Type 0} (s : Lexicon S) (es : _) (h : array_vec_len {T = Entry} es ≤ 64) → es ≡ s.entries → record { source = s.source; entries = es; whole = h } ≡ s
kept_whole {S} s es h e =
    subst (λ es. (h : array_vec_len es ≤ 64) → ◌≡◌ {A = Lexicon S} (record { source = s.source; entries = es; whole = h }) s) (sym e)
    (λ h. ap (λ (w : array_vec_len s.entries ≤ 64). record { source = s.source; entries = s.entries; whole = w }) (le_prop h s.whole)) h

pub returns : goal.returns
returns g c =
    let e : Entry = record { category = c.args.category; token = c.args.token } in
    let pushed = c.try_push.ensures in
    ended c.try_push.result c.map_err.result c.map_err.ensures.variant pushed.ok pushed.err pushed.full
    (λ ok more. record {
      room = omega (arith, pushed.variant.0 ok);
      over = refl {a = c.args.self.now.source};
      entries = more;
      means = ap (λ es. with_words es (g.S.Source.meaning c.args.self.now.source)) more
          ∙ one_more_lem (entries_of c.args.self.now) e (g.S.Source.meaning c.args.self.now.source);
    })
    (λ x kept full. (full, record { cause = only x; same = kept_whole c.args.self.now c.try_push.new.self _ kept }))
