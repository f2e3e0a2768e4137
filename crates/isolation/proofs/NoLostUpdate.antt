-- No lost update: of two committed writers, one is in the other's snapshot.
use Rattle.std.proofs.Common.{◌≡◌, ℕ, ◌<◌, Bool, List, sym, ap, ◌∙◌, subst, inl, inr, ⊎_elim}
use mathlib.Core.List.{Memᴰ}
use Rattle.record.specs.Clocks.{entry_of}
use Rattle.record.specs.Rows.{updates_of}
use Rattle.isolation.specs.Books.{Transaction, transaction, Seen, snapshot, changes}
use Rattle.record.specs.Updates.{last_put}
use Rattle.isolation.specs.Laws.{Writes, NoLostUpdate}
use Rattle.isolation.specs.Machine.{Message, State}
use Rattle.isolation.proofs.Invariant.{Invariant}
use Rattle.isolation.proofs.ShelfValues.{row_content}
use Rattle.isolation.proofs.Account.{Account}
use Rattle.isolation.proofs.Shelves.{on_shelf, own_row, snap_of, name_is}

module _ (regular : ℕ → Bool) (pref : ℕ → ℕ) (n : ℕ) (es : List Seen) (s : State) (R : Message → Type 0)
    (I : Invariant (Writes regular) pref s R) (A : Account regular n es s) where
  row_writes : (x : Transaction) (i o : ℕ) → i < s.got x.home x.home → (s.own x.home i).serial ≡ x.serial → Writes regular (changes es x) o
      → Writes regular (updates_of (s.own x.home i)) o
  row_writes x i o h e w = (w.0, λ q. w.1 (sym (ap (λ t. last_put o (changes es (transaction x.home t))) e) ∙ (row_content regular pref n es s R I A x.home i h).puts o w.0 ∙ q))

  pub no_lost_update_holds : NoLostUpdate regular es
  no_lost_update_holds x y o a b wx wy d =
      let (i, l, e) = own_row regular pref n es s R I A x a in
      let (k, m, f) = own_row regular pref n es s R I A y b in
      ⊎_elim
      (λ (q : i < entry_of (s.own y.home k).start x.home). inl (subst (λ z. Memᴰ z (snapshot es y)) (name_is regular pref n es s R I A x i l e) (on_shelf regular pref n es s R I A _ _ (snap_of regular pref n es s R I A y.home k y.serial m f) x.home i q)))
      (λ (q : k < entry_of (s.own x.home i).start y.home). inr (subst (λ z. Memᴰ z (snapshot es x)) (name_is regular pref n es s R I A y k m f) (on_shelf regular pref n es s R I A _ _ (snap_of regular pref n es s R I A x.home i x.serial l e) y.home k q)))
      (I.writers_ordered x.home i y.home k o l m (row_writes x i o l e wx) (row_writes y k o m f wy)
      (λ p q. d (λ z. record { home = p z; serial = (sym e ∙ ap (λ j. (s.own j i).serial) p ∙ ap (λ j. (s.own y.home j).serial) q ∙ f) z })))
