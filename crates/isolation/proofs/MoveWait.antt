-- The slow commit keeps the invariant: the transaction waits, with the locks of its home.
use Rattle.std.proofs.Common.{◌≡◌, ℕ, Bool, false, List, arith}
use Rattle.std.proofs.lemmas.Bool.Decides.{nat_tests}
use Rattle.record.specs.declared.row.Update.{Update}
use Rattle.record.specs.declared.row.Row.{Row}
use Rattle.isolation.specs.Machine.{opened, waits, Message, State, locks, with_phase, with_locks, Wanted}
use Rattle.isolation.proofs.Invariant.{Invariant}

module _ (Writes : List Update → ℕ → Type 0) (pref : ℕ → ℕ) (s : State) (R : Message → Type 0) (I : Invariant Writes pref s R)
    (b t : ℕ) (r : Row) (wants said : ℕ → Bool) (was : s.phase b t ≡ opened r) (W : Wanted Writes pref s b r wants) (none : (p : ℕ) → said p ≡ false) where
  pub kept_wait : Invariant Writes pref (with_phase (with_locks s (locks s.lock b wants b t)) b t (waits r said)) R
  kept_wait = record {
    shown_got = I.shown_got;
    own_shown = I.own_shown;
    got_own = I.got_own;
    own_named = I.own_named;
    own_committed = λ j i a. grind (arith, nat_tests, I.own_committed j i);
    committed_own = λ h v i e. grind (arith, nat_tests, I.committed_own h v i);
    live_named = λ h v q e. grind (arith, nat_tests, I.live_named h v q, I.live_named b t r);
    live_start = λ h v q e j. grind (arith, nat_tests, I.live_start h v q, I.live_start b t r);
    own_guard = λ j i o a w. grind (arith, nat_tests, I.own_guard j i o, W.clear o);
    lock_covers = λ h v o q ys e w l j i a x. grind (arith, nat_tests, I.lock_covers h v o q ys, W.clear o, I.own_guard j i o, I.owner_called (pref o) o b t);
    home_lock = λ h v o q ys e w l. grind (arith, nat_tests, I.home_lock h v o q ys, W.clear o, W.all o);
    vote_lock = λ h v o q ys e w x. grind (arith, nat_tests, I.vote_lock h v o q ys, W.clear o, W.all o, I.vote_called (pref o) b t);
    noted_vote = λ h v p q ys e y. grind (arith, nat_tests, I.noted_vote h v p q ys, none p);
    owner_called = λ p o h v e. grind (arith, nat_tests, I.owner_called p o h v, W.clear o);
    prepare_called = λ q x. grind (arith, nat_tests, I.prepare_called q);
    prepare_true = λ q q' ys x e. grind (arith, nat_tests, I.prepare_true q q' ys);
    vote_called = λ p h v x. grind (arith, nat_tests, I.vote_called p h v);
    abort_dead = λ h v x. grind (arith, nat_tests, I.abort_dead h v);
    propagate_own = I.propagate_own;
    writers_ordered = I.writers_ordered;
  }
