-- The values of shelves: two of one clock have the same.
use Rattle.std.proofs.Common.{◌≡◌, ℕ, ◌<◌, ◌≤◌, Bool, true, false, List, [], ◌∷◌, map, ℤ, None, fold, sym, refl, ap, ◌∙◌, arith}
use Rattle.std.proofs.lemmas.Bool.Decides.{nat_tests}
use Rattle.record.specs.declared.row.Update.{Update}
use Rattle.record.specs.declared.row.Row.{Row}
use Rattle.record.specs.Rows.{updates_of}
use Rattle.merging.specs.Order.{EitherOrder}
use Rattle.merging.specs.Values.{updated, value_after}
use Rattle.merging.proofs.Folds.{folded_append}
use Rattle.merging.proofs.Values.{value_order}
use Rattle.isolation.specs.Books.{Transaction, transaction, Seen, changes}
use Rattle.record.specs.Updates.{put_by, last_put}
use Rattle.isolation.specs.Values.{all_changes}
use Rattle.isolation.specs.Laws.{Writes}
use Rattle.isolation.specs.Machine.{Message, State, Alike}
use Rattle.isolation.proofs.Invariant.{Invariant}
use Rattle.isolation.proofs.Grown.{Grown, none, more}
use Rattle.isolation.proofs.Effects.{puts_over, alike_puts, alike_value}
use Rattle.isolation.proofs.LastWriter.{over, latest}
use Rattle.isolation.proofs.Merged.{merged}
use Rattle.isolation.proofs.Account.{name_of, Shelf, row, Account}

-- a fold goes row by row
abbrev pub by_row : {V : Type 0} → (V → Update → V) → V → Row → V
by_row f v r = fold f v (updates_of r)

-- two steps that do the same on the rows of a grown list
pub folded_same : {V : Type 0} (f g : V → Row → V) {n : ℕ} {own : ℕ → ℕ → Row} {c : ℕ → ℕ} {xs : List Row} → Grown n own c xs
    → ((j i : ℕ) → i < c j → (v : V) → f v (own j i) ≡ g v (own j i)) → (v : V) → fold f v xs ≡ fold g v xs
folded_same f g (none z) e v = refl
folded_same f g {own = own} (more {c} {xs = xs} a w b s d x) e v =
    ap (fold f v) x ∙ folded_append f v xs (own a (c a) ∷ []) ∙ e a (c a) (grind (arith, nat_tests, d a)) (fold f v xs)
    ∙ ap (λ y. g y (own a (c a))) (folded_same f g w (λ j i h. e j i (grind (arith, nat_tests, d j))) v)
    ∙ sym (folded_append g v xs (own a (c a) ∷ [])) ∙ ap (fold g v) (sym x)

changes_by_row : {V : Type 0} (es : List Seen) (f : V → Update → V) (v : V) (xs : List Row)
    → fold f v (all_changes es (map name_of xs)) ≡ fold (λ w q. fold f w (changes es (name_of q))) v xs
changes_by_row es f v [] = refl
changes_by_row es f v (x ∷ xs) =
    folded_append f v (changes es (name_of x)) (all_changes es (map name_of xs)) ∙ changes_by_row es f (fold f v (changes es (name_of x))) xs

module _ (regular : ℕ → Bool) (pref : ℕ → ℕ) (n : ℕ) (es : List Seen) (s : State) (R : Message → Type 0)
    (I : Invariant (Writes regular) pref s R) (A : Account regular n es s) where
  -- a committed transaction's updates have the effect of its row's
  pub row_content : (j i : ℕ) → i < s.got j j → Alike regular (changes es (transaction j (s.own j i).serial)) (updates_of (s.own j i))
  row_content j i h = A.contents j (s.own j i).serial (s.own j i).start (updates_of (s.own j i)) (row i h refl refl refl)

  name_is : (j i : ℕ) → i < s.got j j → name_of (s.own j i) ≡ transaction j (s.own j i).serial
  name_is j i h = ap (λ k. transaction k (s.own j i).serial) (I.own_named j i h).0

  name_content : (j i : ℕ) → i < s.got j j → Alike regular (changes es (name_of (s.own j i))) (updates_of (s.own j i))
  name_content j i h = rw (name_is j i h) (row_content j i h)

  module _ (c : ℕ → ℕ) (xs : List Transaction) (S : Shelf n s.own c xs) (room : (j : ℕ) → c j ≤ s.got j j) where
    -- the value of a shelf is that of its rows
    shelf_value : {V : Type 0} (f : V → Update → V) → ((us ws : List Update) → Alike regular us ws → (v : V) → fold f v us ≡ fold f v ws)
        → (v : V) → fold f v (all_changes es xs) ≡ fold (by_row f) v S.rows
    shelf_value f same v =
        ap (λ ys. fold f v (all_changes es ys)) S.same ∙ changes_by_row es f v S.rows
        ∙ folded_same (λ w q. fold f w (changes es (name_of q))) (by_row f) S.grown (λ j i h w. same _ _ (name_content j i (omega (arith, h, room j))) w) v

    pub shelf_puts : (o : ℕ) → regular o ≡ true → last_put o (all_changes es xs) ≡ fold (by_row (put_by o)) None S.rows
    shelf_puts o r = shelf_value (put_by o) (λ us ws L v. alike_puts regular us ws L o r v) None

    pub shelf_merges : {V : Type 0} (step : V → ℤ → V) (o e : ℕ) → regular o ≡ false → (v : V)
        → value_after step o e v (all_changes es xs) ≡ fold (by_row (updated step o e)) v S.rows
    shelf_merges step o e r v = shelf_value (updated step o e) (λ us ws L w. alike_value regular us ws L step o e r w) v

  module _ {c : ℕ → ℕ} {xs ys : List Row} (g : Grown n s.own c xs) (h : Grown n s.own c ys) where
    pub same_merges : {V : Type 0} (step : V → ℤ → V) → EitherOrder step → (o e : ℕ) (v : V)
        → fold (by_row (updated step o e)) v xs ≡ fold (by_row (updated step o e)) v ys
    same_merges step order o e v = merged n s.own (by_row (updated step o e)) (λ w q r. value_order step order o e w (updates_of q) (updates_of r)) g h v

    by_put : (o : ℕ) {zs : List Row} → Grown n s.own c zs → fold (by_row (put_by o)) None zs ≡ fold (λ v q. over v (last_put o (updates_of q))) None zs
    by_put o k = folded_same (by_row (put_by o)) (λ v q. over v (last_put o (updates_of q))) k (λ j i l v. puts_over o v (updates_of (s.own j i))) None

    pub same_puts : ((j : ℕ) → c j ≤ s.got j j) → (o : ℕ) → regular o ≡ true → fold (by_row (put_by o)) None xs ≡ fold (by_row (put_by o)) None ys
    same_puts room o r =
        by_put o g ∙ latest n s.own (λ q. last_put o (updates_of q)) g h
        (λ i k j m a b p q d. I.writers_ordered i k j m o (omega (arith, a, room i)) (omega (arith, b, room j)) (r, p) (r, q) d) ∙ sym (by_put o h)
