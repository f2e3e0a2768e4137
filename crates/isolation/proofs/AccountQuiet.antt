-- An event that changes no book and no content keeps the account.
use Rattle.std.proofs.Common.{◌≡◌, ℕ, suc, ◌<◌, Bool, true, false, ltb, ◌≢◌, List, [], ◌∷◌, Some, refl, ◌∙◌, arith}
use Rattle.std.proofs.lemmas.Bool.Decides.{nat_tests}
use Rattle.std.proofs.lemmas.List.{append-nil}
use Rattle.record.specs.declared.clock.Clock.{Clock}
use Rattle.record.specs.declared.row.Update.{Update}
use Rattle.record.specs.declared.row.Row.{Row}
use Rattle.record.specs.Clocks.{entry_of}
use Rattle.isolation.specs.Books.{transaction, Told, Seen, has_propagated, has_heard, bearer, joins, book, starts, snapshot, adds, changes}
use Rattle.isolation.specs.Machine.{Phase, unknown, Holder, State, Quiet, silent, again, known}
use Rattle.isolation.proofs.Invariant.{live_row}
use Rattle.isolation.proofs.Account.{Content, live, row, Account, shelf_alike}

module _ (regular : ℕ → Bool) (n : ℕ) (es : List Seen) (s : State) (A : Account regular n es s) (b : ℕ) where
  joins_none : (w : Told) → Quiet s b w → joins es b w ≡ []
  joins_none _ silent = refl
  joins_none _ (again i l) = rw (A.own_propagated b i l)
  joins_none _ (known h i d l) = grind (arith, nat_tests, A.heard_shown b h i d)

  adds_none : (w : Told) → Quiet s b w → (v : ℕ) → adds w v ≡ []
  adds_none _ silent v = refl
  adds_none _ (again i l) v = refl
  adds_none _ (known h i d l) v = refl

  starts_none : (w : Told) → Quiet s b w → (v : ℕ) → starts w v ≡ false
  starts_none _ silent v = refl
  starts_none _ (again i l) v = refl
  starts_none _ (known h i d l) v = refl

  tells_old : (w : Told) → Quiet s b w → (j v : ℕ) → has_propagated (record { board = b; told = w } ∷ es) j v ≡ true → has_propagated es j v ≡ true
  tells_old _ silent j v e = grind (arith, nat_tests)
  tells_old _ (again i l) j v e = grind (arith, nat_tests, A.own_propagated b i l)
  tells_old _ (known h i d l) j v e = grind (arith, nat_tests)

  bearers_old : (w : Told) → Quiet s b w → (j i : ℕ) → i < s.got j j → bearer (record { board = b; told = w } ∷ es) j (suc i) ≡ transaction j (s.own j i).serial ∷ []
  bearers_old _ silent j i l = grind (arith, nat_tests, A.bearers j i)
  bearers_old _ (again k m) j i l = grind (arith, nat_tests, A.bearers j i)
  bearers_old _ (known h k d m) j i l = grind (arith, nat_tests, A.bearers j i)

  hears_old : (w : Told) → Quiet s b w → (p j i : ℕ) → p ≢ j → has_heard (record { board = b; told = w } ∷ es) p j (suc i) ≡ ltb i (s.shown p j)
  hears_old _ silent p j i x = grind (arith, nat_tests, A.heard_shown p j i)
  hears_old _ (again k m) p j i x = grind (arith, nat_tests, A.heard_shown p j i)
  hears_old _ (known h k d m) p j i x = grind (arith, nat_tests, A.heard_shown p j i)

  -- the locks may change, and one phase, as long as no content does
  module _ (w : Told) (q : Quiet s b w) (lock' : ℕ → ℕ → Holder) (phase' : ℕ → ℕ → Phase)
      (back : (j v : ℕ) (r : Row) → live_row (phase' j v) ≡ Some r → live_row (s.phase j v) ≡ Some r)
      (unknowns : (j v : ℕ) → phase' j v ≡ unknown → s.phase j v ≡ unknown) where
    abbrev s' : State
    s' = record { own = s.own; got = s.got; shown = s.shown; log = s.log; lock = lock'; phase = phase' }

    abbrev es' : List Seen
    es' = record { board = b; told = w } ∷ es

    content_back : (j v : ℕ) (st : Clock) (us : List Update) → Content s' j v st us → Content s j v st us
    content_back j v st us (live r e a u) = live r (back j v r e) a u
    content_back j v st us (row i l e a u) = row i l e a u

    same_changes : (j v : ℕ) → changes es' (transaction j v) ≡ changes es (transaction j v)
    same_changes j v = grind (arith, nat_tests, append-nil, adds_none w q v)

    pub account_quiet : Account regular n es' s'
    account_quiet = record {
      logs = A.logs;
      books = λ p. shelf_alike n s.own (s.shown p) (s.shown p) (book es p) (book es' p) (A.books p) (λ i. refl) (grind (arith, nat_tests, append-nil, joins_none w q));
      snapshots = λ j v st us c. shelf_alike n s.own (entry_of st) (entry_of st) (snapshot es (transaction j v)) (snapshot es' (transaction j v))
          (A.snapshots j v st us (content_back j v st us c)) (λ i. refl) (grind (arith, nat_tests, starts_none w q v));
      contents = λ j v st us c. rw (same_changes j v) (A.contents j v st us (content_back j v st us c));
      unstarted = λ j v e. same_changes j v ∙ A.unstarted j v (unknowns j v e);
      own_propagated = λ j i l. grind (arith, nat_tests, A.own_propagated j i);
      propagated_own = λ j v e. A.propagated_own j v (tells_old w q j v e);
      bearers = bearers_old w q;
      heard_shown = hears_old w q;
    }
