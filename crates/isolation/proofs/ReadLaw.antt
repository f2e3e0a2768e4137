-- What an open transaction finds in its home's log has the values of its snapshot and its own updates.
use Rattle.std.proofs.Common.{◌≡◌, ℕ, ◌≤◌, Bool, true, false, List, ℤ, None, fold, filter, sym, refl, ap, ◌∙◌, arith}
use Rattle.std.specs.List.{flat_map}
use Rattle.record.specs.declared.row.Update.{Update}
use Rattle.record.specs.declared.row.Row.{Row}
use Rattle.record.specs.Clocks.{entry_of}
use Rattle.record.specs.Rows.{updates_of}
use Rattle.merging.specs.Order.{EitherOrder}
use Rattle.merging.specs.Values.{updated, value_after}
use Rattle.merging.proofs.Folds.{folded_append, folded_joined}
use Rattle.isolation.specs.Books.{transaction, Seen, snapshot, changes}
use Rattle.record.specs.Updates.{put_by, last_put}
use Rattle.isolation.specs.Values.{all_changes, visible}
use Rattle.isolation.specs.Laws.{Writes}
use Rattle.isolation.specs.Machine.{opened, Message, State, Alike}
use Rattle.record.specs.Updates.{is_covered}
use Rattle.isolation.specs.MachineLaw.{found}
use Rattle.isolation.proofs.Invariant.{Invariant}
use Rattle.isolation.proofs.Grown.{Grown, closed, alike, covered_part}
use Rattle.isolation.proofs.Effects.{alike_puts, alike_value}
use Rattle.isolation.proofs.ShelfValues.{by_row, shelf_puts, shelf_merges, same_puts, same_merges}
use Rattle.isolation.proofs.Account.{Shelf, Content, live, Account, within}

module _ (regular : ℕ → Bool) (pref : ℕ → ℕ) (n : ℕ) (es : List Seen) (s : State) (R : Message → Type 0)
    (I : Invariant (Writes regular) pref s R) (A : Account regular n es s)
    (b t : ℕ) (r : Row) (was : s.phase b t ≡ opened r) where
  content : Content s b t r.start (updates_of r)
  content = live r (grind arith) refl refl

  past : (j : ℕ) → entry_of r.start j ≤ s.got b j
  past = within (Writes regular) pref regular n es s R I A b t r.start (updates_of r) content

  room : (j : ℕ) → entry_of r.start j ≤ s.got j j
  room j = omega (arith, past j, I.got_own b j)

  snap : Shelf n s.own (entry_of r.start) (snapshot es (transaction b t))
  snap = A.snapshots b t r.start (updates_of r) content

  -- the rows of the log that the start clock covers
  abbrev seen : List Row
  seen = filter (is_covered r.start) (s.log b)

  seen_grown : Grown n s.own (entry_of r.start) seen
  seen_grown = alike n s.own
      (covered_part n s.own r.start (A.logs b) (λ j i h. I.own_named j i (omega (arith, h, I.got_own b j))) (closed n s.own snap.grown))
      (λ i. omega (arith, past i)) refl

  own_updates : Alike regular (changes es (transaction b t)) (updates_of r)
  own_updates = A.contents b t r.start (updates_of r) content

  -- a fold over what is found is one over what is visible, if it is over the rows and over the own updates
  found_fold : {V : Type 0} (f : V → Update → V) (v : V) → fold (by_row f) v seen ≡ fold f v (all_changes es (snapshot es (transaction b t)))
      → ((w : V) → fold f w (changes es (transaction b t)) ≡ fold f w (updates_of r)) → fold f v (found (s.log b) r) ≡ fold f v (visible es (transaction b t))
  found_fold f v rows own =
      let past-updates = all_changes es (snapshot es (transaction b t)) in
      folded_append f v (flat_map updates_of seen) (updates_of r) ∙ ap (λ x. fold f x (updates_of r)) (folded_joined f updates_of v seen ∙ rows)
      ∙ sym (own (fold f v past-updates)) ∙ sym (folded_append f v past-updates (changes es (transaction b t)))

  pub reads : (o : ℕ) → regular o ≡ true → last_put o (found (s.log b) r) ≡ last_put o (visible es (transaction b t))
  reads o q = found_fold (put_by o) None
      (same_puts regular pref n es s R I A seen_grown snap.grown room o q ∙ sym (shelf_puts regular pref n es s R I A (entry_of r.start) (snapshot es (transaction b t)) snap room o q))
      (alike_puts regular (changes es (transaction b t)) (updates_of r) own_updates o q)

  pub looks : {V : Type 0} (step : V → ℤ → V) → EitherOrder step → (o e : ℕ) → regular o ≡ false → (v : V)
      → value_after step o e v (found (s.log b) r) ≡ value_after step o e v (visible es (transaction b t))
  looks step order o e q v = found_fold (updated step o e) v
      (same_merges regular pref n es s R I A seen_grown snap.grown step order o e v ∙ sym (shelf_merges regular pref n es s R I A (entry_of r.start) (snapshot es (transaction b t)) snap room step o e q v))
      (alike_value regular (changes es (transaction b t)) (updates_of r) own_updates step o e q)
