-- The records that go with the moves may be written.
use Rattle.std.proofs.Common.{◌≡◌, ℕ, suc, ◌<◌, Bool, true, ◌≢◌, List, Some, None, sym, refl, subst, arith}
use Rattle.std.proofs.lemmas.Bool.Decides.{nat_tests}
use Rattle.record.specs.declared.row.Update.{Update}
use Rattle.record.specs.declared.row.Row.{Row}
use Rattle.isolation.specs.Machine.{Phase, unknown, opened, waits, committed, dead, Holder, Message, prepare, vote_yes, abort, propagate, State, numbered, locks, with_phase, with_locks, commits, Wanted, MayWrite, Among}
use Rattle.isolation.proofs.Invariant.{called, live_row, Invariant}

-- all records of an event are copies of one
abbrev pub Copies : List Message → Message → Type 0
Copies ms x = (m : Message) → Among ms m → m ≡ x

module _ (Writes : List Update → ℕ → Type 0) (pref : ℕ → ℕ) (s : State) (R : Message → Type 0) where
  pub may_copies : (ms : List Message) (x : Message) → Copies ms x → MayWrite Writes pref s R x → (m : Message) → Among ms m → MayWrite Writes pref s R m
  may_copies ms x same may m a = subst (MayWrite Writes pref s R) (sym (same m a)) may

module _ (Writes : List Update → ℕ → Type 0) (pref : ℕ → ℕ) (s : State) (R : Message → Type 0) (I : Invariant Writes pref s R) where
  -- PROPAGATE, with a commit, and again
  pub may_propagate : (b t : ℕ) (r : Row) (lock' : ℕ → ℕ → Holder) → live_row (s.phase b t) ≡ Some r
      → MayWrite Writes pref (with_locks (commits s b t (numbered r (suc (s.got b b)))) lock') R (propagate (numbered r (suc (s.got b b))))
  may_propagate b t r lock' e = let home = (I.live_named b t r e).0 in (s.got b b, grind (arith, nat_tests), grind (arith, nat_tests))

  pub may_propagate_again : (b i : ℕ) → i < s.got b b → MayWrite Writes pref s R (propagate (s.own b i))
  may_propagate_again b i h = let home = (I.own_named b i h).0 in (i, grind arith, grind arith)

  -- PREPARE, with a slow commit, and again
  pub may_prepare : (b t : ℕ) (r : Row) (ys : ℕ → Bool) (lock' : ℕ → ℕ → Holder) → s.phase b t ≡ opened r
      → MayWrite Writes pref (with_phase (with_locks s lock') b t (waits r ys)) R (prepare r)
  may_prepare b t r ys lock' e = let named = I.live_named b t r (grind arith) in (ys, grind (arith, nat_tests))

  pub may_prepare_again : (b t : ℕ) (r : Row) (ys : ℕ → Bool) → s.phase b t ≡ waits r ys → MayWrite Writes pref s R (prepare r)
  may_prepare_again b t r ys e = let named = I.live_named b t r (grind arith) in (ys, grind arith)

  -- VOTE yes, with new locks, and again
  pub may_vote : (p : ℕ) (r : Row) (wants : ℕ → Bool) → R (prepare r) → Wanted Writes pref s p r wants
      → MayWrite Writes pref (with_locks s (locks s.lock p wants r.home r.serial)) R (vote_yes p r.home r.serial)
  may_vote p r wants asked W = (r, asked, refl, refl, λ o w q. grind (arith, nat_tests, W.all o w q))

  -- ABORT, with a refusal
  pub may_abort : (b t : ℕ) (lock' : ℕ → ℕ → Holder) → MayWrite Writes pref (with_phase (with_locks s lock') b t dead) R (abort b t)
  may_abort b t lock' = grind (arith, nat_tests)

  -- who has called commit, does not live and has not committed will never commit
  decided : (x : Phase) → called x ≡ true → live_row x ≡ None → ((i : ℕ) → x ≡ committed i → ⊥) → x ≡ dead
  decided unknown a b c = grind arith
  decided (opened r) a b c = grind arith
  decided (waits r ys) a b c = grind arith
  decided (committed i) a b c = absurd (c i refl)
  decided dead a b c = refl

  -- ABORT, for a yes that comes late
  pub may_abort_late : (p h t : ℕ) → R (vote_yes p h t) → live_row (s.phase h t) ≡ None → ((i : ℕ) → i < s.got h h → (s.own h i).serial ≢ t) → MayWrite Writes pref s R (abort h t)
  may_abort_late p h t vote ended rowless = decided (s.phase h t) (I.vote_called p h t vote) ended (λ i e. let own = I.committed_own h t i e in rowless i own.0 own.1)
