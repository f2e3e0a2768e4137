-- A row that another board shows, which frees its locks there, keeps the invariant.
use Rattle.std.proofs.Common.{◌≡◌, ℕ, ◌<◌, ◌≢◌, List, arith}
use Rattle.std.proofs.lemmas.Bool.Decides.{nat_tests}
use Rattle.record.specs.declared.row.Update.{Update}
use Rattle.isolation.specs.Machine.{committed, Message, State, shows}
use Rattle.isolation.proofs.Invariant.{Invariant}

module _ (Writes : List Update → ℕ → Type 0) (pref : ℕ → ℕ) (s : State) (R : Message → Type 0) (I : Invariant Writes pref s R)
    (b home : ℕ) (away : b ≢ home) (received : s.shown b home < s.got b home) where
  shown_row : s.phase home (s.own home (s.shown b home)).serial ≡ committed (s.shown b home)
  shown_row = I.own_committed home (s.shown b home) (omega (arith, received, I.got_own b home))

  pub kept_show : Invariant Writes pref (shows s b home) R
  kept_show = record {
    shown_got = λ c j. grind (arith, nat_tests, I.shown_got, I.own_shown);
    own_shown = λ c. grind (arith, nat_tests, I.own_shown c);
    got_own = I.got_own;
    own_named = I.own_named;
    own_committed = I.own_committed;
    committed_own = I.committed_own;
    live_named = I.live_named;
    live_start = λ h v q e j. grind (arith, nat_tests, I.live_start h v q);
    own_guard = λ j i o a w. grind (arith, nat_tests, I.own_guard j i o, shown_row);
    lock_covers = λ h v o q ys e w l j i a x. grind (arith, nat_tests, I.lock_covers h v o q ys);
    home_lock = λ h v o q ys e w l. grind (arith, nat_tests, I.home_lock h v o q ys, shown_row);
    vote_lock = λ h v o q ys e w x. grind (arith, nat_tests, I.vote_lock h v o q ys, shown_row);
    noted_vote = I.noted_vote;
    owner_called = λ p o h v e. grind (arith, nat_tests, I.owner_called p o h v);
    prepare_called = I.prepare_called;
    prepare_true = I.prepare_true;
    vote_called = I.vote_called;
    abort_dead = I.abort_dead;
    propagate_own = I.propagate_own;
    writers_ordered = I.writers_ordered;
  }
