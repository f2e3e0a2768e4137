-- The fresh group: the invariant and the account hold.
use Rattle.std.proofs.Common.{ℕ, Bool, List, [], refl, arith}
use mathlib.Core.List.Memᴰ
use Rattle.record.specs.declared.row.Update.{Update}
use Rattle.isolation.specs.Machine.{fresh, Among}
use Rattle.isolation.proofs.Invariant.{Invariant}
use Rattle.std.proofs.lemmas.Bool.Decides.{nat_tests}
use Rattle.record.specs.declared.clock.Clock.{Clock}
use Rattle.isolation.proofs.Grown.{none}
use Rattle.isolation.proofs.Account.{Content, live, row, Account}

pub fresh_kept : (Writes : List Update → ℕ → Type 0) (pref : ℕ → ℕ) → Invariant Writes pref fresh (Among [])
fresh_kept Writes pref = record {
  shown_got = λ c j. grind arith;
  own_shown = λ c. refl;
  got_own = λ c j. grind arith;
  own_named = λ j i a. grind arith;
  own_committed = λ j i a. grind arith;
  committed_own = λ h t i e. grind arith;
  live_named = λ h t q e. grind arith;
  live_start = λ h t q e j. grind arith;
  own_guard = λ j i o a w. grind arith;
  lock_covers = λ h t o q ys e w l j i a x. grind arith;
  home_lock = λ h t o q ys e w l. grind arith;
  vote_lock = λ h t o q ys e w x. grind arith;
  noted_vote = λ h t p q ys e y. grind arith;
  owner_called = λ p o h t e. grind arith;
  prepare_called = λ q x. absurd (Memᴰ.not-nil x);
  prepare_true = λ q q' ys x e. grind arith;
  vote_called = λ p h t x. absurd (Memᴰ.not-nil x);
  abort_dead = λ h t x. absurd (Memᴰ.not-nil x);
  propagate_own = λ q i x e. absurd (Memᴰ.not-nil x);
  writers_ordered = λ h i j k o a c w x d. grind arith;
}

pub fresh_account : (regular : ℕ → Bool) (n : ℕ) → Account regular n [] fresh
fresh_account regular n = record {
  logs = λ b. none (λ i. refl);
  books = λ b. record { rows = []; grown = none (λ i. refl); same = refl };
  snapshots = λ h t st us c. absurd (never h t st us c);
  contents = λ h t st us c. absurd (never h t st us c);
  unstarted = λ h t e. refl;
  own_propagated = λ h i l. absurd (omega arith);
  propagated_own = λ h t e. absurd (grind arith);
  bearers = λ h i l. absurd (omega arith);
  heard_shown = λ b h i d. grind (arith, nat_tests);
}
  where
    never : (h t : ℕ) (st : Clock) (us : List Update) → Content fresh h t st us → ⊥
    never h t st us (live r e a u) = grind arith
    never h t st us (row i l e a u) = omega arith
