-- A row that is taken keeps the account: the log gains it.
use Rattle.std.proofs.Common.{◌≡◌, ℕ, suc, ◌<◌, ◌≤◌, Bool, ◌≢◌, List, ◌∷◌, refl, ⊎_elim, arith}
use Rattle.std.proofs.lemmas.Bool.Decides.{nat_tests}
use Rattle.std.proofs.lemmas.Bool.{cases_eq}
use Rattle.std.proofs.lemmas.List.{append-nil}
use Rattle.record.specs.declared.clock.Clock.{Clock}
use Rattle.record.specs.declared.row.Update.{Update}
use Rattle.record.specs.declared.row.Row.{Row}
use Rattle.record.specs.Clocks.{entry_of}
use Rattle.isolation.specs.Books.{transaction, nothing, Seen, book, snapshot, changes}
use Rattle.isolation.specs.Machine.{Message, propagate, State, takes}
use Rattle.isolation.proofs.Invariant.{Invariant}
use Rattle.isolation.proofs.Grown.{more, alike}
use Rattle.isolation.proofs.Account.{Content, live, row, Account, shelf_alike}

module _ (Writes : List Update → ℕ → Type 0) (pref : ℕ → ℕ) (regular : ℕ → Bool) (n : ℕ) (es : List Seen) (s : State) (R : Message → Type 0)
    (I : Invariant Writes pref s R) (A : Account regular n es s)
    (p : ℕ) (r : Row) (here : r.home < n) (sent : R (propagate r)) (away : p ≢ r.home) (next : r.number ≡ suc (s.got p r.home))
    (past : (i : ℕ) → entry_of r.start i ≤ s.got p i) where
  abbrev s' : State
  s' = takes s p r

  abbrev es' : List Seen
  es' = record { board = p; told = nothing } ∷ es

  own_row : s.own r.home (s.got p r.home) ≡ r
  own_row = (I.propagate_own r (s.got p r.home) sent next).1

  back : (j v : ℕ) (st : Clock) (us : List Update) → Content s' j v st us → Content s j v st us
  back j v st us (live q e a u) = live q e a u
  back j v st us (row i l e a u) = row i (grind (arith, nat_tests)) e a u

  same_changes : (j v : ℕ) → changes es' (transaction j v) ≡ changes es (transaction j v)
  same_changes j v = grind (arith, nat_tests, append-nil)

  pub account_take : Account regular n es' s'
  account_take = record {
    logs = λ b. ⊎_elim
        (λ (q : b ≡ p). alike n s.own (more r.home (A.logs p) here (λ i. rw own_row (past i)) (λ i. refl) refl) (λ i. grind (arith, nat_tests)) (grind (arith, nat_tests, own_row)))
        (λ (q : b ≡ p → ⊥). alike n s.own (A.logs b) (λ i. grind (arith, nat_tests)) (grind (arith, nat_tests)))
        (cases_eq b p);
    books = λ b. shelf_alike n s.own (s.shown b) (s.shown b) (book es b) (book es' b) (A.books b) (λ i. refl) (grind (arith, nat_tests, append-nil));
    snapshots = λ j v st us c. shelf_alike n s.own (entry_of st) (entry_of st) (snapshot es (transaction j v)) (snapshot es' (transaction j v))
        (A.snapshots j v st us (back j v st us c)) (λ i. refl) (grind (arith, nat_tests));
    contents = λ j v st us c. rw (same_changes j v) (A.contents j v st us (back j v st us c));
    unstarted = λ j v e. rw (same_changes j v) (A.unstarted j v e);
    own_propagated = λ j i l. grind (arith, nat_tests, A.own_propagated j i);
    propagated_own = λ j v e. let (i, l, q) = A.propagated_own j v (grind (arith, nat_tests)) in (i, grind (arith, nat_tests), q);
    bearers = λ j i l. grind (arith, nat_tests, A.bearers j i);
    heard_shown = λ b j i d. grind (arith, nat_tests, A.heard_shown b j i);
  }
