-- Folds: over two lists in a row, and by a step that ends alike in either order.
use Rattle.std.proofs.Common.{◌≡◌, ℕ, zero, suc, ◌<◌, Bool, true, false, cond, ◌≢◌, List, [], ◌∷◌, ◌++◌, length, get_or, set, fold, sym, refl, ap, ◌∙◌, ⊎_elim, arith}
use Rattle.std.specs.List.{flat_map, swap}
use Rattle.std.specs.List.Sorted.{IsPermutation}
use Rattle.std.proofs.lemmas.List.{set-get_or}
use Rattle.std.proofs.lemmas.List.Sorted.{IsPermutation-keeps}
use Rattle.std.proofs.lemmas.List.Sums.{fold-append}
use Rattle.std.proofs.lemmas.Bool.{cases_eq}
use Rattle.merging.specs.Order.{EitherOrder}

module _ {V X : Type 0} (f : V → X → V) where
  -- the second list goes on from where the first ends
  pub folded_append : (v : V) (xs ys : List X) → fold f v (xs ++ ys) ≡ fold f (fold f v xs) ys
  folded_append = fold-append f

  -- a list made of pieces is folded piece by piece
  pub folded_joined : {Y : Type 0} (g : Y → List X) (v : V) (ys : List Y) → fold f v (flat_map g ys) ≡ fold (λ w y. fold f w (g y)) v ys
  folded_joined g v [] = refl
  folded_joined g v (y ∷ ys) = folded_append v (g y) (flat_map g ys) ∙ folded_joined g (fold f v (g y)) ys

module _ {V X : Type 0} (f : V → X → V) (order : EitherOrder f) where
  -- what comes first may as well come last
  pub folded_last : (v : V) (x : X) (xs : List X) → fold f v (x ∷ xs) ≡ f (fold f v xs) x
  folded_last v x [] = refl
  folded_last v x (y ∷ xs) = ap (λ w. fold f w xs) (order v x y) ∙ folded_last (f v y) x xs

  -- what comes in the middle may as well come first, or last
  pub folded_to_front : (v : V) (xs : List X) (x : X) (ys : List X) → fold f v (xs ++ (x ∷ ys)) ≡ fold f v (x ∷ (xs ++ ys))
  folded_to_front v xs x ys =
      folded_append f v xs (x ∷ ys) ∙ ap (λ w. fold f w ys) (sym (folded_last v x xs)) ∙ sym (folded_append f (f v x) xs ys)

  pub folded_to_end : (v : V) (xs : List X) (x : X) (ys : List X) → fold f v (xs ++ (x ∷ ys)) ≡ fold f v ((xs ++ ys) ++ (x ∷ []))
  folded_to_end v xs x ys =
      folded_to_front v xs x ys ∙ folded_last v x (xs ++ ys) ∙ sym (folded_append f v (xs ++ ys) (x ∷ []))

  -- two lists may come in either order
  pub folded_order : EitherOrder (fold f)
  folded_order v [] ys = refl
  folded_order v (x ∷ xs) ys =
      folded_order (f v x) xs ys ∙ ap (λ w. fold f w xs) (folded_last v x ys)

  -- an element and one that comes later trade places
  first_traded : (v : V) (xs : List X) (j : ℕ) (a b : X) → j < length xs → fold f (f v a) (set xs j b) ≡ fold f (f v b) (set xs j a)
  first_traded v [] j a b h = absurd (omega arith)
  first_traded v (x ∷ xs) zero a b h = ap (λ w. fold f w xs) (order v a b)
  first_traded v (x ∷ xs) (suc j) a b h =
      ap (λ w. fold f w (set xs j b)) (order v a x) ∙ first_traded (f v x) xs j a b (omega arith) ∙ ap (λ w. fold f w (set xs j a)) (order v x b)

  traded : (v : V) (xs : List X) (i j : ℕ) (a b : X) → i < length xs → j < length xs → i ≢ j → fold f v (set (set xs i a) j b) ≡ fold f v (set (set xs i b) j a)
  traded v [] i j a b p q n = absurd (omega arith)
  traded v (x ∷ xs) zero zero a b p q n = absurd (n refl)
  traded v (x ∷ xs) zero (suc j) a b p q n = first_traded v xs j a b (omega arith)
  traded v (x ∷ xs) (suc i) zero a b p q n = first_traded v xs i b a (omega arith)
  traded v (x ∷ xs) (suc i) (suc j) a b p q n = traded (f v x) xs i j a b (omega arith) (omega arith) (λ e. n (ap suc e))

  folded_exchanged : (v : V) (xs : List X) (i j : ℕ) → i < length xs → j < length xs → fold f v (swap xs i j) ≡ fold f v xs
  folded_exchanged v [] i j p q = refl
  folded_exchanged v (d ∷ ys) i j p q =
      let xs : List X = d ∷ ys in
      let same : set (set xs i (get_or xs i d)) j (get_or xs j d) ≡ xs = ap (λ l. set l j (get_or xs j d)) (set-get_or xs i d) ∙ set-get_or xs j d in
      ⊎_elim
      (λ (e : i ≡ j). let at : get_or xs i d ≡ get_or xs j d = ap (λ k. get_or xs k d) e in cc)
      (λ (n : i ≢ j). traded v xs i j (get_or xs j d) (get_or xs i d) p q n ∙ ap (fold f v) same)
      (cases_eq i j)

  -- a list in another order ends alike
  pub folded_shuffled : (v : V) (xs ys : List X) → IsPermutation xs ys → fold f v ys ≡ fold f v xs
  folded_shuffled v xs ys =
      IsPermutation-keeps xs (λ l. fold f v l ≡ fold f v xs) refl (λ l i j p q h. folded_exchanged v l i j p q ∙ h) ys

  -- so does a step that passes some by
  pub order_where : (p : X → Bool) → EitherOrder (λ v x. cond (p x) (f v x) v)
  order_where p v x y = by (p x) (p y)
    where
      by : (b c : Bool) → cond c (f (cond b (f v x) v) y) (cond b (f v x) v) ≡ cond b (f (cond c (f v y) v) x) (cond c (f v y) v)
      by true true = order v x y
      by true false = refl
      by false true = refl
      by false false = refl
