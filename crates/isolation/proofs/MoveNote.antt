-- A vote that arrives at the home keeps the invariant: a yes is noted, a no ends the transaction.
use Rattle.std.proofs.Common.{◌≡◌, ℕ, Bool, true, ◌⊎◌, List, arith}
use Rattle.std.proofs.lemmas.Bool.Decides.{nat_tests}
use Rattle.record.specs.declared.row.Update.{Update}
use Rattle.record.specs.declared.row.Row.{Row}
use Rattle.isolation.specs.Machine.{waits, dead, Message, vote_yes, State, frees, with_phase, with_locks}
use Rattle.isolation.proofs.Invariant.{Invariant}

module _ (Writes : List Update → ℕ → Type 0) (pref : ℕ → ℕ) (s : State) (R : Message → Type 0) (I : Invariant Writes pref s R)
    (b t : ℕ) (r : Row) (said said' : ℕ → Bool) (was : s.phase b t ≡ waits r said) (written : (p : ℕ) → said' p ≡ true → (said p ≡ true) ⊎ R (vote_yes p b t)) where
  pub kept_note : Invariant Writes pref (with_phase s b t (waits r said')) R
  kept_note = record {
    shown_got = I.shown_got;
    own_shown = I.own_shown;
    got_own = I.got_own;
    own_named = I.own_named;
    own_committed = λ j i a. grind (arith, nat_tests, I.own_committed j i);
    committed_own = λ h v i e. grind (arith, nat_tests, I.committed_own h v i);
    live_named = λ h v q e. grind (arith, nat_tests, I.live_named h v q, I.live_named b t r);
    live_start = λ h v q e j. grind (arith, nat_tests, I.live_start h v q, I.live_start b t r);
    own_guard = I.own_guard;
    lock_covers = λ h v o q ys e w l j i a x. grind (arith, nat_tests, I.lock_covers h v o q ys, I.lock_covers b t o r said was);
    home_lock = λ h v o q ys e w l. grind (arith, nat_tests, I.home_lock h v o q ys, I.home_lock b t o r said was);
    vote_lock = λ h v o q ys e w x. grind (arith, nat_tests, I.vote_lock h v o q ys, I.vote_lock b t o r said was);
    noted_vote = λ h v p q ys e y. grind (arith, nat_tests, I.noted_vote h v p q ys, I.noted_vote b t p r said was, written p);
    owner_called = λ p o h v e. grind (arith, nat_tests, I.owner_called p o h v);
    prepare_called = λ q x. grind (arith, nat_tests, I.prepare_called q);
    prepare_true = λ q q' ys x e. grind (arith, nat_tests, I.prepare_true q q' ys, I.prepare_true q r said);
    vote_called = λ p h v x. grind (arith, nat_tests, I.vote_called p h v);
    abort_dead = λ h v x. grind (arith, nat_tests, I.abort_dead h v);
    propagate_own = I.propagate_own;
    writers_ordered = I.writers_ordered;
  }

module _ (Writes : List Update → ℕ → Type 0) (pref : ℕ → ℕ) (s : State) (R : Message → Type 0) (I : Invariant Writes pref s R)
    (b t : ℕ) (r : Row) (said : ℕ → Bool) (was : s.phase b t ≡ waits r said) where
  pub kept_refuse : Invariant Writes pref (with_phase (with_locks s (frees s.lock b b t)) b t dead) R
  kept_refuse = record {
    shown_got = I.shown_got;
    own_shown = I.own_shown;
    got_own = I.got_own;
    own_named = I.own_named;
    own_committed = λ j i a. grind (arith, nat_tests, I.own_committed j i);
    committed_own = λ h v i e. grind (arith, nat_tests, I.committed_own h v i);
    live_named = λ h v q e. grind (arith, nat_tests, I.live_named h v q);
    live_start = λ h v q e j. grind (arith, nat_tests, I.live_start h v q);
    own_guard = λ j i o a w. grind (arith, nat_tests, I.own_guard j i o, I.own_committed j i);
    lock_covers = λ h v o q ys e w l j i a x. grind (arith, nat_tests, I.lock_covers h v o q ys);
    home_lock = λ h v o q ys e w l. grind (arith, nat_tests, I.home_lock h v o q ys);
    vote_lock = λ h v o q ys e w x. grind (arith, nat_tests, I.vote_lock h v o q ys);
    noted_vote = λ h v p q ys e y. grind (arith, nat_tests, I.noted_vote h v p q ys);
    owner_called = λ p o h v e. grind (arith, nat_tests, I.owner_called p o h v);
    prepare_called = λ q x. grind (arith, nat_tests, I.prepare_called q);
    prepare_true = λ q q' ys x e. grind (arith, nat_tests, I.prepare_true q q' ys);
    vote_called = λ p h v x. grind (arith, nat_tests, I.vote_called p h v);
    abort_dead = λ h v x. grind (arith, nat_tests, I.abort_dead h v);
    propagate_own = I.propagate_own;
    writers_ordered = I.writers_ordered;
  }
