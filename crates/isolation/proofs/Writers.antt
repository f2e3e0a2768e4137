-- Updates write a regular object if one of them is of it.
use Rattle.std.proofs.Common.{◌≡◌, ℕ, Bool, true, false, ◌||◌, eqb, List, [], ◌∷◌, None, refl, ◌∙◌, arith}
use Rattle.std.proofs.lemmas.Bool.Decides.{nat_tests}
use Rattle.record.specs.declared.row.Update.{Update}
use Rattle.record.specs.Updates.{put_by, last_put}
use Rattle.isolation.specs.Laws.{Writes}
use Rattle.isolation.proofs.Effects.{puts_over}

-- whether an update of a list is of object o
abbrev pub touches : List Update → ℕ → Bool
touches [] o = false
touches (u ∷ us) o = eqb u.object o || touches us o

untouched : (us : List Update) (o : ℕ) → touches us o ≡ false → last_put o us ≡ None
untouched [] o e = refl
untouched (u ∷ us) o e = puts_over o (put_by o None u) us ∙ grind (arith, nat_tests, untouched us o)

pub writes_touches : (regular : ℕ → Bool) (us : List Update) (o : ℕ) → Writes regular us o → touches us o ≡ true
writes_touches regular us o w = by (touches us o) refl
  where
    by : (x : Bool) → touches us o ≡ x → x ≡ true
    by true e = refl
    by false e = absurd (w.1 (untouched us o e))
