-- A row that another board takes into its log keeps the invariant.
use Rattle.std.proofs.Common.{◌≡◌, ℕ, suc, ◌≢◌, List, arith}
use Rattle.std.proofs.lemmas.Bool.Decides.{nat_tests}
use Rattle.record.specs.declared.row.Update.{Update}
use Rattle.record.specs.declared.row.Row.{Row}
use Rattle.isolation.specs.Machine.{Message, propagate, State, takes}
use Rattle.isolation.proofs.Invariant.{Invariant}

module _ (Writes : List Update → ℕ → Type 0) (pref : ℕ → ℕ) (s : State) (R : Message → Type 0) (I : Invariant Writes pref s R)
    (b : ℕ) (r : Row) (sent : R (propagate r)) (away : b ≢ r.home) (next : r.number ≡ suc (s.got b r.home)) where
  pub kept_take : Invariant Writes pref (takes s b r) R
  kept_take = record {
    shown_got = λ c j. grind (arith, nat_tests, I.shown_got, I.own_shown);
    own_shown = λ c. grind (arith, nat_tests, I.own_shown c);
    got_own = λ c j. grind (arith, nat_tests, I.got_own c j, I.propagate_own r (s.got b r.home) sent next);
    own_named = λ j i a. grind (arith, nat_tests, I.own_named j i);
    own_committed = λ j i a. grind (arith, nat_tests, I.own_committed j i);
    committed_own = λ h v i e. grind (arith, nat_tests, I.committed_own h v i);
    live_named = I.live_named;
    live_start = I.live_start;
    own_guard = λ j i o a w. grind (arith, nat_tests, I.own_guard j i o);
    lock_covers = λ h v o q ys e w l j i a x. grind (arith, nat_tests, I.lock_covers h v o q ys);
    home_lock = I.home_lock;
    vote_lock = I.vote_lock;
    noted_vote = I.noted_vote;
    owner_called = I.owner_called;
    prepare_called = I.prepare_called;
    prepare_true = I.prepare_true;
    vote_called = I.vote_called;
    abort_dead = I.abort_dead;
    propagate_own = λ q i x e. grind (arith, nat_tests, I.propagate_own q i);
    writers_ordered = λ h i j k o a c w x d. grind (arith, nat_tests, I.writers_ordered h i j k o);
  }
