-- A commit keeps the account: log, book and PROPAGATE gain the new row.
use Rattle.std.proofs.Common.{◌≡◌, ℕ, suc, ◌<◌, Bool, true, false, ◌&&◌, ◌||◌, eqb, ◌⊎◌, List, ◌∷◌, Some, sym, refl, ap, ◌∙◌, inl, inr, ⊎_elim, arith}
use Rattle.std.proofs.lemmas.Bool.Decides.{nat_tests}
use Rattle.std.proofs.lemmas.Bool.{cases_eq}
use Rattle.std.proofs.lemmas.List.{append-nil}
use Rattle.record.specs.declared.clock.Clock.{Clock}
use Rattle.record.specs.declared.row.Update.{Update}
use Rattle.record.specs.declared.row.Row.{Row}
use Rattle.record.specs.Clocks.{entry_of}
use Rattle.record.specs.Rows.{updates_of}
use Rattle.isolation.specs.Books.{transaction, propagated, Seen, has_propagated, book, snapshot, changes}
use Rattle.isolation.specs.Machine.{Holder, Message, State, numbered, with_locks, commits}
use Rattle.isolation.proofs.Invariant.{live_row, Invariant}
use Rattle.isolation.proofs.Grown.{Grown, more, stays, alike}
use Rattle.isolation.proofs.Account.{Shelf, Content, live, row, Account, shelf_stays, shelf_more, shelf_alike, within, unpropagated}

or_tells : (b h t v : ℕ) (x : Bool) → ((eqb b h && eqb t v) || x) ≡ true → ((b ≡ h) × (t ≡ v)) ⊎ (x ≡ true)
or_tells b h t v true e = inr refl
or_tells b h t v false e = inl (grind (arith, nat_tests))

module _ (Writes : List Update → ℕ → Type 0) (pref : ℕ → ℕ) (regular : ℕ → Bool) (n : ℕ) (es : List Seen) (s : State) (R : Message → Type 0)
    (I : Invariant Writes pref s R) (A : Account regular n es s)
    (b t : ℕ) (here : b < n) (r : Row) (ready : live_row (s.phase b t) ≡ Some r) (lock' : ℕ → ℕ → Holder) where
  abbrev s' : State
  s' = with_locks (commits s b t (numbered r (suc (s.got b b)))) lock'

  abbrev es' : List Seen
  es' = record { board = b; told = propagated t (suc (s.got b b)) } ∷ es

  same_row : (j k : ℕ) → k < s.got j j → s'.own j k ≡ s.own j k
  same_row j k h = grind (arith, nat_tests)

  -- the new row holds what the transaction held
  ready_as : (h v : ℕ) (st : Clock) (us : List Update) → h ≡ b → t ≡ v → r.start ≡ st → updates_of r ≡ us → Content s h v st us
  ready_as h v st us p q a u = live r (rw (p, ← q) ready) a u

  back : (h v : ℕ) (st : Clock) (us : List Update) → Content s' h v st us → Content s h v st us
  back h v st us (live q e a u) = live q (grind (arith, nat_tests)) a u
  back h v st us (row i l e a u) = ⊎_elim
      (λ (p : h ≡ b). ⊎_elim
      (λ (x : i ≡ s.got b b).
      let new : s'.own h i ≡ numbered r (suc (s.got b b)) = grind (arith, nat_tests) in
      ready_as h v st us p (sym (I.live_named b t r ready).1 ∙ sym (ap (λ (q : Row). q.serial) new) ∙ e) (sym (ap (λ (q : Row). q.start) new) ∙ a) (sym (ap updates_of new) ∙ u))
      (λ (x : i ≡ s.got b b → ⊥). old (grind (arith, nat_tests)))
      (cases_eq i (s.got b b)))
      (λ (p : h ≡ b → ⊥). old (grind (arith, nat_tests)))
      (cases_eq h b)
    where
      old : i < s.got h h → Content s h v st us
      old l' = let same = same_row h i l' in
          row i l' (sym (ap (λ (q : Row). q.serial) same) ∙ e) (sym (ap (λ (q : Row). q.start) same) ∙ a) (sym (ap updates_of same) ∙ u)

  logs : (p : ℕ) → Grown n s'.own (s'.got p) (s'.log p)
  logs p =
      let G = stays n s.own s'.own (A.logs p) (λ j k h. same_row j k (omega (arith, h, I.got_own p j))) in
      ⊎_elim
      (λ (q : p ≡ b). alike n s'.own
      (more b G here (λ i. grind (arith, nat_tests, within Writes pref regular n es s R I A b t r.start (updates_of r) (live r ready refl refl) i)) (λ i. refl) refl)
      (λ i. grind (arith, nat_tests)) (grind (arith, nat_tests)))
      (λ (q : p ≡ b → ⊥). alike n s'.own G (λ i. grind (arith, nat_tests)) (grind (arith, nat_tests)))
      (cases_eq p b)

  books : (p : ℕ) → Shelf n s'.own (s'.shown p) (book es' p)
  books p =
      let S = shelf_stays n s.own s'.own (s.shown p) (book es p) (A.books p) (λ j k h. same_row j k (omega (arith, h, I.shown_got p j, I.got_own p j))) in
      let f = unpropagated Writes pref regular n es s R I A b t (λ i e. grind arith) (has_propagated es b t) refl in
      ⊎_elim
      (λ (q : p ≡ b). shelf_more n s'.own (s.shown p) (s'.shown p) (book es p) (book es' p) S b here
      (λ i. grind (arith, nat_tests, I.live_start b t r ready i, I.own_shown b)) (λ i. grind (arith, nat_tests, I.own_shown b)) (grind (arith, nat_tests, I.own_shown b, I.live_named b t r)))
      (λ (q : p ≡ b → ⊥). shelf_alike n s'.own (s.shown p) (s'.shown p) (book es p) (book es' p) S (λ i. grind (arith, nat_tests)) (grind (arith, nat_tests)))
      (cases_eq p b)

  snapshots : (h v : ℕ) (st : Clock) (us : List Update) → Content s' h v st us → Shelf n s'.own (entry_of st) (snapshot es' (transaction h v))
  snapshots h v st us c =
      let S = shelf_stays n s.own s'.own (entry_of st) (snapshot es (transaction h v)) (A.snapshots h v st us (back h v st us c))
      (λ j k l. same_row j k (omega (arith, l, within Writes pref regular n es s R I A h v st us (back h v st us c) j, I.got_own h j))) in
      shelf_alike n s'.own (entry_of st) (entry_of st) (snapshot es (transaction h v)) (snapshot es' (transaction h v)) S (λ i. refl) (grind (arith, nat_tests))

  same_changes : (h v : ℕ) → changes es' (transaction h v) ≡ changes es (transaction h v)
  same_changes h v = grind (arith, nat_tests, append-nil)

  propagated_own : (h v : ℕ) → has_propagated es' h v ≡ true → (i : ℕ) × (i < s'.got h h) × ((s'.own h i).serial ≡ v)
  propagated_own h v e = ⊎_elim
      (λ (q : (b ≡ h) × (t ≡ v)). (s.got b b, grind (arith, nat_tests), grind (arith, nat_tests, I.live_named b t r)))
      (λ (q : has_propagated es h v ≡ true). let (i, l, x) = A.propagated_own h v q in (i, grind (arith, nat_tests), ap (λ (y : Row). y.serial) (same_row h i l) ∙ x))
      (or_tells b h t v (has_propagated es h v) e)

  pub account_commit : Account regular n es' s'
  account_commit = record {
    logs = logs;
    books = books;
    snapshots = snapshots;
    contents = λ h v st us c. rw (same_changes h v) (A.contents h v st us (back h v st us c));
    unstarted = λ h v e. same_changes h v ∙ A.unstarted h v (grind (arith, nat_tests));
    own_propagated = λ h i l. grind (arith, nat_tests, A.own_propagated h i, I.live_named b t r);
    propagated_own = propagated_own;
    bearers = λ h i l. grind (arith, nat_tests, A.bearers h i, I.live_named b t r);
    heard_shown = λ p h i d. grind (arith, nat_tests, A.heard_shown p h i);
  }
