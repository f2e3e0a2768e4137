-- Records that may be written keep the invariant.
use Rattle.std.proofs.Common.{◌≡◌, ℕ, ◌⊎◌, List, ◌++◌, refl, inl, inr, ⊎_elim, arith}
use mathlib.Core.List.Memᴰ
use Rattle.record.specs.declared.row.Update.{Update}
use Rattle.isolation.specs.Machine.{Message, prepare, vote_yes, abort, propagate, State, MayWrite, Among}
use Rattle.isolation.proofs.Invariant.{Invariant}

module _ (Writes : List Update → ℕ → Type 0) (pref : ℕ → ℕ) where
  pub kept_tell : (s : State) (R R' : Message → Type 0) → Invariant Writes pref s R → ((m : Message) → R m → R' m)
      → ((m : Message) → R' m → MayWrite Writes pref s R m ⊎ R m) → Invariant Writes pref s R'
  kept_tell s R R' I more only = record {
    shown_got = I.shown_got;
    own_shown = I.own_shown;
    got_own = I.got_own;
    own_named = I.own_named;
    own_committed = I.own_committed;
    committed_own = I.committed_own;
    live_named = I.live_named;
    live_start = I.live_start;
    own_guard = I.own_guard;
    lock_covers = I.lock_covers;
    home_lock = I.home_lock;
    vote_lock = λ h t o q ys e w x. ⊎_elim
        (λ (f : MayWrite Writes pref s R (vote_yes (pref o) h t)). let (r, a, c, d, l) = f in let same : r ≡ q = I.prepare_true r q ys a (grind arith) in l o (rw same w) refl)
        (I.vote_lock h t o q ys e w) (only (vote_yes (pref o) h t) x);
    noted_vote = λ h t p q ys e y. more (vote_yes p h t) (I.noted_vote h t p q ys e y);
    owner_called = I.owner_called;
    prepare_called = λ q x. ⊎_elim (λ (f : MayWrite Writes pref s R (prepare q)). let (ys, e) = f in grind arith) (I.prepare_called q) (only (prepare q) x);
    prepare_true = λ q q' ys x e. ⊎_elim (λ (f : MayWrite Writes pref s R (prepare q)). let (zs, e') = f in grind arith) (λ (a : R (prepare q)). I.prepare_true q q' ys a e) (only (prepare q) x);
    vote_called = λ p h t x. ⊎_elim
        (λ (f : MayWrite Writes pref s R (vote_yes p h t)). let (r, a, c, d, l) = f in grind (arith, I.prepare_called r a))
        (I.vote_called p h t) (only (vote_yes p h t) x);
    abort_dead = λ h t x. ⊎_elim (λ (f : MayWrite Writes pref s R (abort h t)). f) (I.abort_dead h t) (only (abort h t) x);
    propagate_own = λ q i x e. ⊎_elim
        (λ (f : MayWrite Writes pref s R (propagate q)). let (k, l, r) = f in grind (arith, I.own_named q.home k l))
        (λ (a : R (propagate q)). I.propagate_own q i a e) (only (propagate q) x);
    writers_ordered = I.writers_ordered;
  }

  -- the records of one event, after those written before
  pub kept_told : (s : State) (ms R : List Message) → Invariant Writes pref s (Among R) → ((m : Message) → Among ms m → MayWrite Writes pref s (Among R) m)
      → Invariant Writes pref s (Among (ms ++ R))
  kept_told s ms R I may = kept_tell s (Among R) (Among (ms ++ R)) I (λ m a. Memᴰ.append_right ms a)
      (λ m a. ⊎_elim (λ (x : Among ms m). inl (may m x)) (λ (x : Among R m). inr x) (Memᴰ.append_cases ms a))
