-- Locks for a PREPARE keep the invariant.
use Rattle.std.proofs.Common.{ℕ, Bool, List, arith}
use Rattle.std.proofs.lemmas.Bool.Decides.{nat_tests}
use Rattle.record.specs.declared.row.Update.{Update}
use Rattle.record.specs.declared.row.Row.{Row}
use Rattle.isolation.specs.Machine.{Message, prepare, State, locks, with_locks, Wanted}
use Rattle.isolation.proofs.Invariant.{Invariant}

module _ (Writes : List Update → ℕ → Type 0) (pref : ℕ → ℕ) (s : State) (R : Message → Type 0) (I : Invariant Writes pref s R)
    (b : ℕ) (r : Row) (wants : ℕ → Bool) (asked : R (prepare r)) (W : Wanted Writes pref s b r wants) where
  pub kept_vote : Invariant Writes pref (with_locks s (locks s.lock b wants r.home r.serial)) R
  kept_vote = record {
    shown_got = I.shown_got;
    own_shown = I.own_shown;
    got_own = I.got_own;
    own_named = I.own_named;
    own_committed = I.own_committed;
    committed_own = I.committed_own;
    live_named = I.live_named;
    live_start = I.live_start;
    own_guard = λ j i o a w. grind (arith, nat_tests, I.own_guard j i o, W.clear o);
    lock_covers = λ h v o q ys e w l j i a x. grind (arith, nat_tests, I.lock_covers h v o q ys, W.clear o, I.own_guard j i o, I.prepare_true r q ys asked);
    home_lock = λ h v o q ys e w l. grind (arith, nat_tests, I.home_lock h v o q ys, W.clear o);
    vote_lock = λ h v o q ys e w x. grind (arith, nat_tests, I.vote_lock h v o q ys, W.clear o);
    noted_vote = I.noted_vote;
    owner_called = λ p o h v e. grind (arith, nat_tests, I.owner_called p o h v, W.clear o, I.prepare_called r asked);
    prepare_called = I.prepare_called;
    prepare_true = I.prepare_true;
    vote_called = I.vote_called;
    abort_dead = I.abort_dead;
    propagate_own = I.propagate_own;
    writers_ordered = I.writers_ordered;
  }
