-- Rows in an order that has grown, folded by a step that ends alike in either order: the value depends on the clock alone.
use Rattle.std.proofs.Common.{◌≡◌, ℕ, zero, suc, ◌<◌, ◌≤◌, List, [], ◌∷◌, ◌++◌, fold, sym, refl, ap, ◌∙◌, ⊎_elim, append_assoc, arith}
use Rattle.std.proofs.lemmas.Bool.Decides.{nat_tests}
use Rattle.std.proofs.lemmas.Bool.{cases_eq}
use Rattle.record.specs.declared.row.Row.{Row}
use Rattle.merging.specs.Order.{EitherOrder}
use Rattle.merging.proofs.Folds.{folded_append, folded_last}
use Rattle.isolation.proofs.Grown.{Grown, none, more, raise}

module _ (n : ℕ) (own : ℕ → ℕ → Row) {V : Type 0} (f : V → Row → V) (order : EitherOrder f) where
  -- the first k rows of board j
  abbrev firsts : ℕ → ℕ → List Row
  firsts j zero = []
  firsts j (suc k) = firsts j k ++ (own j k ∷ [])

  -- the rows below c, board after board
  abbrev in_turn : ℕ → (ℕ → ℕ) → List Row
  in_turn zero c = []
  in_turn (suc j) c = in_turn j c ++ firsts j (c j)

  in_turn_none : (m : ℕ) (c : ℕ → ℕ) → ((i : ℕ) → c i ≡ 0) → in_turn m c ≡ []
  in_turn_none zero c z = refl
  in_turn_none (suc m) c z = rw (z m, in_turn_none m c z)

  in_turn_past : (m : ℕ) (c d : ℕ → ℕ) (j : ℕ) → m ≤ j → ((i : ℕ) → d i ≡ raise c j i) → in_turn m d ≡ in_turn m c
  in_turn_past zero c d j h e = refl
  in_turn_past (suc m) c d j h e =
      let p : d m ≡ c m = grind (arith, nat_tests, e m) in rw (p, in_turn_past m c d j (omega arith) e)

  -- one row more of board j
  in_turn_raise : (m : ℕ) (c d : ℕ → ℕ) (v : V) (j : ℕ) → j < m → ((i : ℕ) → d i ≡ raise c j i) → fold f v (in_turn m d) ≡ f (fold f v (in_turn m c)) (own j (c j))
  in_turn_raise zero c d v j h e = absurd (omega arith)
  in_turn_raise (suc m) c d v j h e = ⊎_elim
      (λ (q : j ≡ m).
      let p : d m ≡ suc (c m) = grind (arith, nat_tests, e m) in
      rw (q, p, in_turn_past m c d j (omega arith) e, ← append_assoc (in_turn m c) (firsts m (c m)) (own m (c m) ∷ []))
      (folded_append f v (in_turn m c ++ firsts m (c m)) (own m (c m) ∷ [])))
      (λ (q : j ≡ m → ⊥).
      let p : d m ≡ c m = grind (arith, nat_tests, e m) in
      rw p (folded_append f v (in_turn m d) (firsts m (c m)) ∙ ap (λ w. fold f w (firsts m (c m))) (in_turn_raise m c d v j (omega arith) e)
      ∙ folded_last f order (fold f v (in_turn m c)) (own j (c j)) (firsts m (c m)) ∙ ap (λ w. f w (own j (c j))) (sym (folded_append f v (in_turn m c) (firsts m (c m))))))
      (cases_eq j m)

  by_clock : {c : ℕ → ℕ} {xs : List Row} → Grown n own c xs → (v : V) → fold f v xs ≡ fold f v (in_turn n c)
  by_clock {c} (none z) v = ap (fold f v) (sym (in_turn_none n c z))
  by_clock {c = d} (more {c} {xs = xs} a g b s e x) v =
      ap (fold f v) x ∙ folded_append f v xs (own a (c a) ∷ []) ∙ ap (λ w. f w (own a (c a))) (by_clock g v) ∙ sym (in_turn_raise n c d v a b e)

  pub merged : {c : ℕ → ℕ} {xs ys : List Row} → Grown n own c xs → Grown n own c ys → (v : V) → fold f v xs ≡ fold f v ys
  merged g h v = by_clock g v ∙ sym (by_clock h v)
