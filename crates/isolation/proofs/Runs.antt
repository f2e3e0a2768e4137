-- Every moment of a run keeps the invariant and the account, and own rows stay.
use Rattle.std.proofs.Common.{◌≡◌, ℕ, ◌<◌, Bool, List, ◌∷◌, refl, ◌∙◌, arith}
use Rattle.std.proofs.lemmas.Bool.Decides.{nat_tests}
use Rattle.isolation.specs.Books.{nothing, Seen}
use Rattle.isolation.specs.Laws.{Writes}
use Rattle.isolation.specs.Machine.{waits, dead, Message, State, put, locks, frees, silent, Move, rest, start, change, drop, commit, wait, note, finish, refuse, release, vote, take, show, Among, Onward, here, then, Run}
use Rattle.isolation.proofs.Invariant.{Invariant}
use Rattle.isolation.proofs.MoveOpen.{kept_start, kept_change, kept_drop}
use Rattle.isolation.proofs.MoveCommit.{kept_commit}
use Rattle.isolation.proofs.MoveFinish.{kept_finish}
use Rattle.isolation.proofs.MoveWait.{kept_wait}
use Rattle.isolation.proofs.MoveVote.{kept_vote}
use Rattle.isolation.proofs.MoveNote.{kept_note, kept_refuse}
use Rattle.isolation.proofs.MoveRelease.{kept_release}
use Rattle.isolation.proofs.MoveTake.{kept_take}
use Rattle.isolation.proofs.MoveShow.{kept_show}
use Rattle.isolation.proofs.MoveTell.{kept_told}
use Rattle.isolation.proofs.Account.{Account}
use Rattle.isolation.proofs.AccountOpen.{account_start, account_change}
use Rattle.isolation.proofs.AccountCommit.{account_commit}
use Rattle.isolation.proofs.AccountShow.{account_show}
use Rattle.isolation.proofs.AccountTake.{account_take}
use Rattle.isolation.proofs.AccountQuiet.{account_quiet}
use Rattle.isolation.proofs.Fresh.{fresh_kept, fresh_account}

-- own rows stay
abbrev pub Later : State → State → Type 0
Later s s' = (j i : ℕ) → i < s.got j j → (s'.own j i ≡ s.own j i) × (i < s'.got j j)

module _ (regular : ℕ → Bool) (pref : ℕ → ℕ) (n : ℕ) where
  pub record Kept (es : List Seen) (s : State) (R : Message → Type 0) : Type 0 where
    pub invariant : Invariant (Writes regular) pref s R
    pub account : Account regular n es s

  -- one move
  moved : {es : List Seen} {s s' : State} {R : Message → Type 0} {e : Seen} → Kept es s R → Move regular pref n s R e s' → Kept (e ∷ es) s' R
  moved {es} {s} {R = R} K (rest b w q) = record {
    invariant = K.invariant;
    account = account_quiet regular n es s K.account b w q s.lock s.phase (λ j v r e. e) (λ j v e. e);
  }
  moved {es} {s} {R = R} K (start b t r was home serial clock empty) = record {
    invariant = kept_start (Writes regular) pref s R K.invariant b t r was home serial clock;
    account = account_start (Writes regular) pref regular n es s R K.invariant K.account b t r was clock empty;
  }
  moved {es} {s} {R = R} K (change b t r r' u was home serial clock effect) = record {
    invariant = kept_change (Writes regular) pref s R K.invariant b t r r' was home serial clock;
    account = account_change (Writes regular) pref regular n es s R K.invariant K.account b t r r' u was clock effect;
  }
  moved {es} {s} {R = R} K (drop b t r was) = record {
    invariant = kept_drop (Writes regular) pref s R K.invariant b t r was;
    account = account_quiet regular n es s K.account b nothing silent s.lock (put s.phase b t dead) (λ j v q e. grind (arith, nat_tests)) (λ j v e. grind (arith, nat_tests));
  }
  moved {es} {s} {R = R} K (commit b t r inside was near clear) = record {
    invariant = kept_commit (Writes regular) pref s R K.invariant b t r was near clear;
    account = account_commit (Writes regular) pref regular n es s R K.invariant K.account b t inside r (grind arith) s.lock;
  }
  moved {es} {s} {R = R} K (wait b t r wants ys was W none) = record {
    invariant = kept_wait (Writes regular) pref s R K.invariant b t r wants ys was W none;
    account = account_quiet regular n es s K.account b nothing silent (locks s.lock b wants b t) (put s.phase b t (waits r ys)) (λ j v q e. grind (arith, nat_tests)) (λ j v e. grind (arith, nat_tests));
  }
  moved {es} {s} {R = R} K (note b t r ys ys' was written) = record {
    invariant = kept_note (Writes regular) pref s R K.invariant b t r ys ys' was written;
    account = account_quiet regular n es s K.account b nothing silent s.lock (put s.phase b t (waits r ys')) (λ j v q e. grind (arith, nat_tests)) (λ j v e. grind (arith, nat_tests));
  }
  moved {es} {s} {R = R} K (finish b t r ys inside was all) = record {
    invariant = kept_finish (Writes regular) pref s R K.invariant b t r ys was all;
    account = account_commit (Writes regular) pref regular n es s R K.invariant K.account b t inside r (grind arith) (frees s.lock b b t);
  }
  moved {es} {s} {R = R} K (refuse b t r ys was) = record {
    invariant = kept_refuse (Writes regular) pref s R K.invariant b t r ys was;
    account = account_quiet regular n es s K.account b nothing silent (frees s.lock b b t) (put s.phase b t dead) (λ j v q e. grind (arith, nat_tests)) (λ j v e. grind (arith, nat_tests));
  }
  moved {es} {s} {R = R} K (release p h t told) = record {
    invariant = kept_release (Writes regular) pref s R K.invariant p h t told;
    account = account_quiet regular n es s K.account p nothing silent (frees s.lock p h t) s.phase (λ j v q e. e) (λ j v e. e);
  }
  moved {es} {s} {R = R} K (vote p r wants asked W) = record {
    invariant = kept_vote (Writes regular) pref s R K.invariant p r wants asked W;
    account = account_quiet regular n es s K.account p nothing silent (locks s.lock p wants r.home r.serial) s.phase (λ j v q e. e) (λ j v e. e);
  }
  moved {es} {s} {R = R} K (take p r inside sent away next past) = record {
    invariant = kept_take (Writes regular) pref s R K.invariant p r sent away next;
    account = account_take (Writes regular) pref regular n es s R K.invariant K.account p r inside sent away next past;
  }
  moved {es} {s} {R = R} K (show p h inside away received past) = record {
    invariant = kept_show (Writes regular) pref s R K.invariant p h away received;
    account = account_show (Writes regular) pref regular n es s R K.invariant K.account p h inside away received past;
  }

  -- the moments from a kept one on
  pub kept_on : {es₀ : List Seen} {s₀ : State} {R₀ : List Message} {es : List Seen} {s : State} {R : List Message} → Kept es₀ s₀ (Among R₀) → Onward regular pref n es₀ s₀ R₀ es s R → Kept es s (Among R)
  kept_on K here = K
  kept_on K (then {s' = s'} {R = R} r m ms may) = let L = moved (kept_on K r) m in record {
    invariant = kept_told (Writes regular) pref s' ms R L.invariant may;
    account = L.account;
  }

  pub kept : {es : List Seen} {s : State} {R : List Message} → Run regular pref n es s R → Kept es s (Among R)
  kept r = kept_on (record { invariant = fresh_kept (Writes regular) pref; account = fresh_account regular n }) r

  pub stays_by : {s s' : State} {R : Message → Type 0} {e : Seen} → Move regular pref n s R e s' → Later s s'
  stays_by (rest b w q) = λ j i h. (refl, h)
  stays_by (start b t r was home serial clock empty) = λ j i h. (refl, h)
  stays_by (change b t r r' u was home serial clock effect) = λ j i h. (refl, h)
  stays_by (drop b t r was) = λ j i h. (refl, h)
  stays_by {s} (commit b t r inside was near clear) = λ j i h. (grind (arith, nat_tests), grind (arith, nat_tests))
  stays_by (wait b t r wants ys was W none) = λ j i h. (refl, h)
  stays_by (note b t r ys ys' was written) = λ j i h. (refl, h)
  stays_by {s} (finish b t r ys inside was all) = λ j i h. (grind (arith, nat_tests), grind (arith, nat_tests))
  stays_by (refuse b t r ys was) = λ j i h. (refl, h)
  stays_by (release p h t told) = λ j i a. (refl, a)
  stays_by (vote p r wants asked W) = λ j i h. (refl, h)
  stays_by {s} (take p r inside sent away next past) = λ j i h. (refl, grind (arith, nat_tests))
  stays_by (show p h inside away received past) = λ j i a. (refl, a)

  -- own rows stay from one moment of a run to a later one
  pub stays_on : {es₀ : List Seen} {s₀ : State} {R₀ : List Message} {es : List Seen} {s : State} {R : List Message} → Onward regular pref n es₀ s₀ R₀ es s R → Later s₀ s
  stays_on here = λ j i h. (refl, h)
  stays_on (then r m ms may) = λ j i h. let a = stays_on r j i h in let b = stays_by m j i a.1 in (b.0 ∙ a.0, b.1)
