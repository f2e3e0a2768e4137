-- The fast commit keeps the invariant.
use Rattle.std.proofs.Common.{◌≡◌, ℕ, suc, List, arith}
use Rattle.std.proofs.lemmas.Bool.Decides.{nat_tests}
use Rattle.record.specs.declared.row.Update.{Update}
use Rattle.record.specs.declared.row.Row.{Row}
use Rattle.record.specs.Rows.{updates_of}
use Rattle.isolation.specs.Machine.{opened, Message, State, numbered, commits, Clear}
use Rattle.isolation.proofs.Invariant.{Invariant}

module _ (Writes : List Update → ℕ → Type 0) (pref : ℕ → ℕ) (s : State) (R : Message → Type 0) (I : Invariant Writes pref s R)
    (b t : ℕ) (r : Row) (was : s.phase b t ≡ opened r)
    (near : (o : ℕ) → Writes (updates_of r) o → pref o ≡ b) (clear : (o : ℕ) → Writes (updates_of r) o → Clear Writes s b o r.start) where
  pub kept_commit : Invariant Writes pref (commits s b t (numbered r (suc (s.got b b)))) R
  kept_commit = record {
    shown_got = λ c j. grind (arith, nat_tests, I.shown_got, I.own_shown);
    own_shown = λ c. grind (arith, nat_tests, I.own_shown c);
    got_own = λ c j. grind (arith, nat_tests, I.got_own c j);
    own_named = λ j i a. grind (arith, nat_tests, I.own_named j i, I.live_named b t r);
    own_committed = λ j i a. grind (arith, nat_tests, I.own_committed j i, I.live_named b t r);
    committed_own = λ h v i e. grind (arith, nat_tests, I.committed_own h v i, I.live_named b t r);
    live_named = λ h v q e. grind (arith, nat_tests, I.live_named h v q);
    live_start = λ h v q e j. grind (arith, nat_tests, I.live_start h v q, I.own_shown);
    own_guard = λ j i o a w. grind (arith, nat_tests, I.own_guard j i o, near o);
    lock_covers = λ h v o q ys e w l j i a x. grind (arith, nat_tests, I.lock_covers h v o q ys, near o, clear o);
    home_lock = λ h v o q ys e w l. grind (arith, nat_tests, I.home_lock h v o q ys);
    vote_lock = λ h v o q ys e w x. grind (arith, nat_tests, I.vote_lock h v o q ys);
    noted_vote = λ h v p q ys e y. grind (arith, nat_tests, I.noted_vote h v p q ys);
    owner_called = λ p o h v e. grind (arith, nat_tests, I.owner_called p o h v);
    prepare_called = λ q x. grind (arith, nat_tests, I.prepare_called q);
    prepare_true = λ q q' ys x e. grind (arith, nat_tests, I.prepare_true q q' ys);
    vote_called = λ p h v x. grind (arith, nat_tests, I.vote_called p h v);
    abort_dead = λ h v x. grind (arith, nat_tests, I.abort_dead h v);
    propagate_own = λ q i x e. grind (arith, nat_tests, I.propagate_own q i);
    writers_ordered = λ h i j k o a c w x d. grind (arith, nat_tests, I.writers_ordered h i j k o, I.own_guard h i o, I.own_guard j k o, clear o, near o);
  }
