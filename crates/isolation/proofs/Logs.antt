-- Logs by their rows: what stands in them, and when an object is clear.
use Rattle.std.proofs.Common.{◌≡◌, ℕ, suc, ◌<◌, Bool, true, List, sym, ap, ◌∙◌, arith}
use mathlib.Core.List.{Memᴰ}
use Rattle.std.proofs.lemmas.Bool.Decides.{nat_tests}
use Rattle.record.specs.declared.clock.Clock.{Clock}
use Rattle.record.specs.declared.row.Update.{Update}
use Rattle.record.specs.declared.row.Row.{Row}
use Rattle.record.specs.Rows.{updates_of}
use Rattle.isolation.specs.Books.{Seen}
use Rattle.isolation.specs.Machine.{free, Message, State, Clear}
use Rattle.record.specs.Updates.{is_covered}
use Rattle.isolation.proofs.Invariant.{Invariant}
use Rattle.isolation.proofs.Members.{member, from_member}
use Rattle.isolation.proofs.Account.{Account}

module _ (Writes : List Update → ℕ → Type 0) (pref : ℕ → ℕ) (regular : ℕ → Bool) (n : ℕ) (es : List Seen) (s : State) (R : Message → Type 0)
    (I : Invariant Writes pref s R) (A : Account regular n es s) (b : ℕ) where
  -- a log holds each row that its board has
  pub in_log : (j i : ℕ) → i < s.got b j → Memᴰ (s.own j i) (s.log b)
  in_log j i h = member n s.own (A.logs b) j i h

  -- and each of its rows is the own row of its home with its number
  pub from_log : (q : Row) → Memᴰ q (s.log b) → (i : ℕ) × (i < s.got b q.home) × (q.number ≡ suc i) × (s.own q.home i ≡ q)
  from_log q m = let (j, i, l, e) = from_member n s.own (A.logs b) q m in as_own q j i l e
    where
      as_own : (q : Row) (j i : ℕ) → i < s.got b j → q ≡ s.own j i → (i : ℕ) × (i < s.got b q.home) × (q.number ≡ suc i) × (s.own q.home i ≡ q)
      as_own q j i l e =
          let named = I.own_named j i (omega (arith, l, I.got_own b j)) in
          let home : q.home ≡ j = ap (λ (r : Row). r.home) e ∙ named.0 in
          (i, rw home l, ap (λ (r : Row). r.number) e ∙ named.1, ap (λ k. s.own k i) home ∙ sym e)

  -- an object that is free, and covered in each row of the log that writes it, is clear
  pub clear_log : (o : ℕ) (start : Clock) → s.lock b o ≡ free → ((q : Row) → Memᴰ q (s.log b) → Writes (updates_of q) o → is_covered start q ≡ true) → Clear Writes s b o start
  clear_log o start unlocked covered = record {
    unlocked = unlocked;
    covers = λ j i h w. let named = I.own_named j i (omega (arith, h, I.got_own b j)) in let c = covered (s.own j i) (in_log j i h) w in grind (arith, nat_tests);
  }
