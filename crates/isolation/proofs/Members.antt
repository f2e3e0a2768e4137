-- Who stands in a list of rows that has grown, and before whom.
use Rattle.std.proofs.Common.{◌≡◌, ℕ, suc, ◌+◌, ◌<◌, cond, eqb, ◌⊎◌, List, [], ◌∷◌, ◌++◌, map, length, sym, refl, ap, ◌∙◌, subst, inl, inr, ⊎_elim, arith}
use mathlib.Core.List.{Memᴰ}
use Rattle.std.proofs.lemmas.Bool.Decides.{nat_tests}
use Rattle.std.proofs.lemmas.List.{append_assoc, same_from_push, length-append, map-append}
use Rattle.record.specs.declared.row.Row.{Row}
use Rattle.record.specs.Clocks.{entry_of}
use Rattle.isolation.specs.Books.{Transaction}
use Rattle.isolation.specs.Values.{count_of}
use Rattle.isolation.proofs.Cases.{cases_both}
use Rattle.isolation.proofs.Grown.{Grown, none, more, Named}
use Rattle.isolation.proofs.Account.{name_of}

-- a list is empty or has a last element
last_view : {X : Type 0} (xs : List X) → (xs ≡ []) ⊎ ((ys : List X) × (z : X) × (xs ≡ ys ++ (z ∷ [])))
last_view [] = inl refl
last_view {X} (x ∷ xs) = inr (⊎_elim (λ (e : xs ≡ []). ([], x, ap (λ ys. x ∷ ys) e))
    (λ (v : (ys : List X) × (z : X) × (xs ≡ ys ++ (z ∷ []))). let (ys, z, e) = v in (x ∷ ys, z, ap (λ zs. x ∷ zs) e)) (last_view xs))

count_push : (j : ℕ) (xs : List Transaction) (x : Transaction) → count_of j (xs ++ (x ∷ [])) ≡ count_of j xs + cond (eqb x.home j) 1 0
count_push j [] x = grind (arith, nat_tests)
count_push j (y ∷ xs) x = ap (λ m. cond (eqb y.home j) 1 0 + m) (count_push j xs x) ∙ grind (arith, nat_tests)

module _ (n : ℕ) (own : ℕ → ℕ → Row) where
  -- every row below the clock stands in the list
  pub member : {c : ℕ → ℕ} {xs : List Row} → Grown n own c xs → (j i : ℕ) → i < c j → Memᴰ (own j i) xs
  member (none z) j i h = absurd (omega (arith, z j))
  member (more {c} {xs = xs} a g b s e x) j i h = rw x (⊎_elim
      (λ (p : (j ≡ a) × (i ≡ c a)). mathlib.Core.List.Memᴰ.append_right xs (mathlib.Core.List.Memᴰ.head (grind arith)))
      (λ (p : j ≡ a → i ≡ c a → ⊥). mathlib.Core.List.Memᴰ.append_left (own a (c a) ∷ []) (member g j i (grind (arith, nat_tests, e j, p))))
      (cases_both j a i (c a)))

  -- and no other
  pub from_member : {c : ℕ → ℕ} {xs : List Row} → Grown n own c xs → (q : Row) → Memᴰ q xs → (j : ℕ) × (i : ℕ) × (i < c j) × (q ≡ own j i)
  from_member (none z) q m = absurd (mathlib.Core.List.Memᴰ.not-nil m)
  from_member {c = d} (more {c} {xs = xs} a g b s e x) q m = ⊎_elim
      (λ (p : Memᴰ q xs). let (j, i, l, y) = from_member g q p in (j, i, grind (arith, nat_tests, e j), y))
      (λ (p : Memᴰ q (own a (c a) ∷ [])). (a, c a, grind (arith, nat_tests, e a), mathlib.Core.List.Memᴰ.eq_of_singleton p))
      (mathlib.Core.List.Memᴰ.append_cases xs (subst (Memᴰ q) x m))

  -- all that a row covers stands before it
  pub before : {c : ℕ → ℕ} {xs : List Row} → Grown n own c xs → (fs bs : List Row) (q : Row) → xs ≡ fs ++ (q ∷ bs) → (j i : ℕ) → i < entry_of q.start j → Memᴰ (own j i) fs
  before (none z) fs bs q y j i h = absurd (let e : 0 ≡ length fs + suc (length bs) = ap length y ∙ length-append fs (q ∷ bs) in omega arith)
  before (more {c} {xs = xs} a g b s e x) fs bs q y j i h = ⊎_elim
      (λ (v : bs ≡ []).
      let p = same_from_push xs fs (own a (c a)) q (sym x ∙ y ∙ ap (λ zs. fs ++ (q ∷ zs)) v) in
      let l : entry_of (own a (c a)).start j ≡ entry_of q.start j = ap (λ (r : Row). entry_of r.start j) p.1 in
      let m : Memᴰ (own j i) xs = member g j i (omega (arith, s j)) in rw p.0 at m)
      (λ (v : (ys : List Row) × (z : Row) × (bs ≡ ys ++ (z ∷ []))).
      let (ys, z, r) = v in
      let p = same_from_push xs (fs ++ (q ∷ ys)) (own a (c a)) z (sym x ∙ y ∙ ap (λ zs. fs ++ (q ∷ zs)) r ∙ sym (append_assoc fs (q ∷ ys) (z ∷ []))) in
      before g fs ys q p.0 j i h)
      (last_view bs)

  -- the clock counts the list by home
  pub counts : {c : ℕ → ℕ} {xs : List Row} → Grown n own c xs → Named own c → (j : ℕ) → count_of j (map name_of xs) ≡ c j
  counts (none z) named j = sym (z j)
  counts (more {c} {xs = xs} a g b s e x) named j =
      ap (λ ys. count_of j (map name_of ys)) x ∙ ap (count_of j) (map-append name_of xs (own a (c a) ∷ [])) ∙ count_push j (map name_of xs) (name_of (own a (c a)))
      ∙ grind (arith, nat_tests, counts g (λ i k h. named i k (grind (arith, nat_tests, e i))) j, e j, named a (c a))
