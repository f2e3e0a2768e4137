-- The first element that passes a test, as `position` has it.
use Rattle.std.proofs.Common.{◌≡◌, ℕ, ◌≤◌, Bool, cond, nat_lt, List, length, get_or, set, Option, Some, None, sym, refl, ap, ◌∙◌, inl, inr, arith}
use Rattle.std.specs.List.{position, position_or_len}
use Rattle.std.proofs.lemmas.Bool.{cases_Bool, ltb-false}
use Rattle.std.proofs.lemmas.List.{set_past, get_or_past}
use Rattle.std.proofs.lemmas.List.Recursion.{is_position_or_len}
use Rattle.std.proofs.lemmas.Option.{cond_some}
use Rattle.tables.specs.Places.{first_at}

module _ {X : Type 0} (p : X → Bool) (xs : List X) where
  pub first_at_is : first_at p xs ≡ position_or_len p xs
  first_at_is = is_position_or_len (first_at p) p refl (λ x rest. ap (λ n. cond (p x) 0 n) (omega arith)) xs

  past : position p xs ≡ None → length xs ≤ first_at p xs
  past e =
      rw first_at_is
      (elim (cases_Bool (nat_lt (position_or_len p xs) (length xs))) [
        | inl here ↦ let z : ◌≡◌ {A = Option ℕ} (Some (position_or_len p xs)) None = simp here at e in cc
        | inr there ↦ ltb-false _ _ there
      ])

  -- a read at the place that `position` finds is one at the first place, and where there is none, of the default
  pub got_found : (i : ℕ) (d : X) → position p xs ≡ Some i → get_or xs i d ≡ get_or xs (first_at p xs) d
  got_found i d e = ap (λ k. get_or xs k d) (sym (first_at_is ∙ (cond_some _ _ _ e).1))

  pub got_missed : (d : X) → position p xs ≡ None → d ≡ get_or xs (first_at p xs) d
  got_missed d e = sym (get_or_past xs (first_at p xs) d (past e))

  -- nothing is written where there is none
  pub set_missed : (y : X) → position p xs ≡ None → set xs (first_at p xs) y ≡ xs
  set_missed y e = set_past xs (first_at p xs) y (past e)
