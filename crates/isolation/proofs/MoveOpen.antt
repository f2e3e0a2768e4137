-- The moves of an open transaction keep the invariant: it starts, changes, ends without a row.
use Rattle.std.proofs.Common.{◌≡◌, ℕ, List, arith}
use Rattle.std.proofs.lemmas.Bool.Decides.{nat_tests}
use Rattle.record.specs.declared.row.Update.{Update}
use Rattle.record.specs.declared.row.Row.{Row}
use Rattle.record.specs.Clocks.{entry_of}
use Rattle.isolation.specs.Machine.{unknown, opened, dead, Message, State, with_phase}
use Rattle.isolation.proofs.Invariant.{Invariant}

module _ (Writes : List Update → ℕ → Type 0) (pref : ℕ → ℕ) (s : State) (R : Message → Type 0) (I : Invariant Writes pref s R)
    (b t : ℕ) (r : Row) (was : s.phase b t ≡ unknown) (home : r.home ≡ b) (serial : r.serial ≡ t) (clock : (j : ℕ) → entry_of r.start j ≡ s.shown b j) where
  pub kept_start : Invariant Writes pref (with_phase s b t (opened r)) R
  kept_start = record {
    shown_got = I.shown_got;
    own_shown = I.own_shown;
    got_own = I.got_own;
    own_named = I.own_named;
    own_committed = λ j i a. grind (arith, nat_tests, I.own_committed j i);
    committed_own = λ h v i e. grind (arith, nat_tests, I.committed_own h v i);
    live_named = λ h v q e. grind (arith, nat_tests, I.live_named h v q);
    live_start = λ h v q e j. grind (arith, nat_tests, I.live_start h v q, clock j);
    own_guard = I.own_guard;
    lock_covers = λ h v o q ys e w l j i a x. grind (arith, nat_tests, I.lock_covers h v o q ys);
    home_lock = λ h v o q ys e w l. grind (arith, nat_tests, I.home_lock h v o q ys);
    vote_lock = λ h v o q ys e w x. grind (arith, nat_tests, I.vote_lock h v o q ys);
    noted_vote = λ h v p q ys e y. grind (arith, nat_tests, I.noted_vote h v p q ys);
    owner_called = λ p o h v e. grind (arith, nat_tests, I.owner_called p o h v);
    prepare_called = λ q x. grind (arith, nat_tests, I.prepare_called q);
    prepare_true = λ q q' ys x e. grind (arith, nat_tests, I.prepare_true q q' ys);
    vote_called = λ p h v x. grind (arith, nat_tests, I.vote_called p h v);
    abort_dead = λ h v x. grind (arith, nat_tests, I.abort_dead h v);
    propagate_own = I.propagate_own;
    writers_ordered = I.writers_ordered;
  }

module _ (Writes : List Update → ℕ → Type 0) (pref : ℕ → ℕ) (s : State) (R : Message → Type 0) (I : Invariant Writes pref s R)
    (b t : ℕ) (r r' : Row) (was : s.phase b t ≡ opened r) (home : r'.home ≡ r.home) (serial : r'.serial ≡ r.serial) (clock : r'.start ≡ r.start) where
  pub kept_change : Invariant Writes pref (with_phase s b t (opened r')) R
  kept_change = record {
    shown_got = I.shown_got;
    own_shown = I.own_shown;
    got_own = I.got_own;
    own_named = I.own_named;
    own_committed = λ j i a. grind (arith, nat_tests, I.own_committed j i);
    committed_own = λ h v i e. grind (arith, nat_tests, I.committed_own h v i);
    live_named = λ h v q e. grind (arith, nat_tests, I.live_named h v q, I.live_named b t r);
    live_start = λ h v q e j. grind (arith, nat_tests, I.live_start h v q, I.live_start b t r);
    own_guard = I.own_guard;
    lock_covers = λ h v o q ys e w l j i a x. grind (arith, nat_tests, I.lock_covers h v o q ys);
    home_lock = λ h v o q ys e w l. grind (arith, nat_tests, I.home_lock h v o q ys);
    vote_lock = λ h v o q ys e w x. grind (arith, nat_tests, I.vote_lock h v o q ys);
    noted_vote = λ h v p q ys e y. grind (arith, nat_tests, I.noted_vote h v p q ys);
    owner_called = λ p o h v e. grind (arith, nat_tests, I.owner_called p o h v);
    prepare_called = λ q x. grind (arith, nat_tests, I.prepare_called q);
    prepare_true = λ q q' ys x e. grind (arith, nat_tests, I.prepare_true q q' ys);
    vote_called = λ p h v x. grind (arith, nat_tests, I.vote_called p h v);
    abort_dead = λ h v x. grind (arith, nat_tests, I.abort_dead h v);
    propagate_own = I.propagate_own;
    writers_ordered = I.writers_ordered;
  }

module _ (Writes : List Update → ℕ → Type 0) (pref : ℕ → ℕ) (s : State) (R : Message → Type 0) (I : Invariant Writes pref s R)
    (b t : ℕ) (r : Row) (was : s.phase b t ≡ opened r) where
  pub kept_drop : Invariant Writes pref (with_phase s b t dead) R
  kept_drop = record {
    shown_got = I.shown_got;
    own_shown = I.own_shown;
    got_own = I.got_own;
    own_named = I.own_named;
    own_committed = λ j i a. grind (arith, nat_tests, I.own_committed j i);
    committed_own = λ h v i e. grind (arith, nat_tests, I.committed_own h v i);
    live_named = λ h v q e. grind (arith, nat_tests, I.live_named h v q);
    live_start = λ h v q e j. grind (arith, nat_tests, I.live_start h v q);
    own_guard = I.own_guard;
    lock_covers = λ h v o q ys e w l j i a x. grind (arith, nat_tests, I.lock_covers h v o q ys);
    home_lock = λ h v o q ys e w l. grind (arith, nat_tests, I.home_lock h v o q ys);
    vote_lock = λ h v o q ys e w x. grind (arith, nat_tests, I.vote_lock h v o q ys);
    noted_vote = λ h v p q ys e y. grind (arith, nat_tests, I.noted_vote h v p q ys);
    owner_called = λ p o h v e. grind (arith, nat_tests, I.owner_called p o h v);
    prepare_called = λ q x. grind (arith, nat_tests, I.prepare_called q);
    prepare_true = λ q q' ys x e. grind (arith, nat_tests, I.prepare_true q q' ys);
    vote_called = λ p h v x. grind (arith, nat_tests, I.vote_called p h v);
    abort_dead = λ h v x. grind (arith, nat_tests, I.abort_dead h v);
    propagate_own = I.propagate_own;
    writers_ordered = I.writers_ordered;
  }
