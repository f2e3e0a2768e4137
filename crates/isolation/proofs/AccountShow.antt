-- A row that is shown keeps the account: the book gains its transaction.
use Rattle.std.proofs.Common.{◌≡◌, ℕ, suc, ◌<◌, ◌≤◌, Bool, ◌≢◌, List, ◌∷◌, refl, ⊎_elim, arith}
use Rattle.std.proofs.lemmas.Bool.Decides.{nat_tests}
use Rattle.std.proofs.lemmas.Bool.{cases_eq}
use Rattle.std.proofs.lemmas.List.{append-nil}
use Rattle.record.specs.declared.clock.Clock.{Clock}
use Rattle.record.specs.declared.row.Update.{Update}
use Rattle.record.specs.Clocks.{entry_of}
use Rattle.isolation.specs.Books.{transaction, heard, Seen, book, snapshot, changes}
use Rattle.isolation.specs.Machine.{Message, State, shows}
use Rattle.isolation.proofs.Invariant.{Invariant}
use Rattle.isolation.proofs.Account.{Content, live, row, Account, shelf_more, shelf_alike}

module _ (Writes : List Update → ℕ → Type 0) (pref : ℕ → ℕ) (regular : ℕ → Bool) (n : ℕ) (es : List Seen) (s : State) (R : Message → Type 0)
    (I : Invariant Writes pref s R) (A : Account regular n es s)
    (p h : ℕ) (here : h < n) (away : p ≢ h) (received : s.shown p h < s.got p h)
    (past : (i : ℕ) → entry_of (s.own h (s.shown p h)).start i ≤ s.shown p i) where
  abbrev s' : State
  s' = shows s p h

  abbrev es' : List Seen
  es' = record { board = p; told = heard h (suc (s.shown p h)) } ∷ es

  back : (j v : ℕ) (st : Clock) (us : List Update) → Content s' j v st us → Content s j v st us
  back j v st us (live q e a u) = live q e a u
  back j v st us (row i l e a u) = row i l e a u

  there : s.shown p h < s.got h h
  there = omega (arith, received, I.got_own p h)

  same_changes : (j v : ℕ) → changes es' (transaction j v) ≡ changes es (transaction j v)
  same_changes j v = grind (arith, nat_tests, append-nil)

  pub account_show : Account regular n es' s'
  account_show = record {
    logs = A.logs;
    books = λ b. ⊎_elim
        (λ (q : b ≡ p). shelf_more n s.own (s.shown b) (s'.shown b) (book es b) (book es' b) (A.books b) h here (λ i. grind (arith, past i))
        (λ i. grind (arith, nat_tests)) (grind (arith, nat_tests, A.heard_shown p h (s.shown p h) away, A.bearers h (s.shown p h) there, I.own_named h (s.shown p h) there)))
        (λ (q : b ≡ p → ⊥). shelf_alike n s.own (s.shown b) (s'.shown b) (book es b) (book es' b) (A.books b) (λ i. grind (arith, nat_tests)) (grind (arith, nat_tests)))
        (cases_eq b p);
    snapshots = λ j v st us c. shelf_alike n s.own (entry_of st) (entry_of st) (snapshot es (transaction j v)) (snapshot es' (transaction j v))
        (A.snapshots j v st us (back j v st us c)) (λ i. refl) (grind (arith, nat_tests));
    contents = λ j v st us c. rw (same_changes j v) (A.contents j v st us (back j v st us c));
    unstarted = λ j v e. rw (same_changes j v) (A.unstarted j v e);
    own_propagated = λ j i l. grind (arith, nat_tests, A.own_propagated j i);
    propagated_own = λ j v e. A.propagated_own j v (grind (arith, nat_tests));
    bearers = λ j i l. grind (arith, nat_tests, A.bearers j i);
    heard_shown = λ b j i d. grind (arith, nat_tests, A.heard_shown b j i);
  }
