-- Rows that fit their bytes: a record that carries one comes back from its bytes as it was.
use Rattle.std.proofs.Common.{◌≡◌, ℕ, ◌<◌, ◌≤◌, max, Bool, true, false, cond, eqb, length, get_or, set, replicate, Some, None, Ok, Err, Option, Result, sym, refl, ap, ◌∙◌, ⊎_elim, arith, lit<}
use Rattle.std.proofs.lemmas.Bool.{cases_eq, cases_lt}
use Rattle.std.proofs.lemmas.List.{get_or-set_same, get_or-set_other, length-set, get_or_past, get_or-replicate}
use Rattle.std.proofs.lemmas.Bool.Decides.{nat_tests}
use Rattle.record.specs.declared.clock.Clock.{Clock}
use Rattle.record.specs.declared.fault.Fault.{Fault}
use Rattle.record.specs.declared.kind.KindRules.{KindRules}
use Rattle.record.specs.declared.message.Record.{Record}
use Rattle.record.specs.declared.row.Row.{Row}
use Rattle.record.specs.declared.row.Update.{Update}
use Rattle.record.specs.Clocks.{entry_of, raised}
use Rattle.record.specs.Codec.{Sized, Kept, decoded, of_kind, unless}
use Rattle.record.specs.Faults.{misplaced}
use Rattle.record.specs.Kinds.{rules_of, code_of}
use Rattle.record.specs.Layout.{bytes_of, record_at}
use Rattle.record.specs.Numbers.{u16_at, u32_at}
use Rattle.record.specs.Rows.{no_update, zero_clock, row_of}
use Rattle.record.specs.Rules.{offence}
use Rattle.record.proofs.Back.{kept, rules_of_kind}
use Rattle.isolation.specs.Machine.{numbered}

pub record FitClock (c : Clock) : Type 0 where
  pub eight : length c.entries ≡ 8
  pub small : (k : ℕ) → entry_of c k < 65536

pub record FitRow (r : Row) : Type 0 where
  pub clock : FitClock r.start
  pub four : length r.updates ≡ 4
  pub serial_fits : r.serial < 4294967296
  pub number_fits : r.number < 65536
  pub sized : (k : ℕ) → k < 4 → Sized (get_or r.updates k no_update)

-- ## Clocks

-- the entries after one was raised
pub entry_raised : (c : Clock) (j k i : ℕ) → length c.entries ≡ 8 → j < 8 → entry_of (raised c j k) i ≡ cond (eqb i j) (max (entry_of c j) k) (entry_of c i)
entry_raised c j k i n h = ⊎_elim
    (λ (e : i ≡ j). rw e (get_or-set_same c.entries j (max (entry_of c j) k) 0 (omega arith) ∙ grind (arith, nat_tests)))
    (λ (e : i ≡ j → ⊥). get_or-set_other c.entries j i (max (entry_of c j) k) 0 e ∙ grind (arith, nat_tests)) (cases_eq i j)

pub raised_eight : (c : Clock) (j k : ℕ) → length c.entries ≡ 8 → length (raised c j k).entries ≡ 8
raised_eight c j k n = length-set c.entries j (max (entry_of c j) k) ∙ n

pub fit_raised : (c : Clock) (j k : ℕ) → j < 8 → k < 65536 → FitClock c → FitClock (raised c j k)
fit_raised c j k h small F = record {
  eight = raised_eight c j k F.eight;
  small = λ i. let e = entry_raised c j k i F.eight h in grind (arith, nat_tests, F.small i, F.small j);
}

pub zero_entry : (k : ℕ) → entry_of zero_clock k ≡ 0
zero_entry k = ⊎_elim (λ (h : k < 8). get_or-replicate 8 k 0 0 h) (λ (h : 8 ≤ k). get_or_past (replicate 8 0) k 0 h) (cases_lt k 8)

pub fit_zero : FitClock zero_clock
fit_zero = record { eight = refl; small = λ k. omega (arith, zero_entry k) }

-- ## Rows

sized_none : Sized no_update
sized_none = record { object_fits = lit< tt; element_fits = lit< tt; operand_fits = record { sfits = lit< tt } }

-- a row without updates
pub fit_bare : (h t k d : ℕ) (c : Clock) → t < 4294967296 → k < 65536 → FitClock c
    → FitRow (record { home = h; serial = t; number = k; start = c; count = d; updates = replicate 4 no_update })
fit_bare h t k d c a b F = record {
  clock = F;
  four = refl;
  serial_fits = a;
  number_fits = b;
  sized = λ i l. rw (get_or-replicate 4 i no_update no_update l) sized_none;
}

-- one update more
pub fit_update : (r : Row) (u : Update) (d : ℕ) → r.count < 4 → Sized u → FitRow r
    → FitRow (record { home = r.home; serial = r.serial; number = r.number; start = r.start; count = d; updates = set r.updates r.count u })
fit_update r u d low z F = record {
  clock = F.clock;
  four = length-set r.updates r.count u ∙ F.four;
  serial_fits = F.serial_fits;
  number_fits = F.number_fits;
  sized = λ i l. ⊎_elim
      (λ (e : i ≡ r.count). rw (e, get_or-set_same r.updates r.count u no_update (omega (arith, F.four))) z)
      (λ (e : i ≡ r.count → ⊥). rw (get_or-set_other r.updates r.count i u no_update e) (F.sized i l))
      (cases_eq i r.count);
}

pub fit_numbered : (r : Row) (k : ℕ) → k < 65536 → FitRow r → FitRow (numbered r k)
fit_numbered r k h F = record { clock = F.clock; four = F.four; serial_fits = F.serial_fits; number_fits = h; sized = F.sized }

-- ## Records

fit_kept : (m : Record) → FitRow (row_of m) → Kept m
fit_kept m F = kept m F.clock.eight F.four F.serial_fits F.number_fits (λ k h. F.clock.small k) F.sized

cond_ok : (v : Bool) (x : Result Record Fault) (d : Fault) (m : Record) → cond v x (Err d) ≡ Ok m → x ≡ Ok m
cond_ok true x d m e = e
cond_ok false x d m e = cc

unless_ok : (o : Option ℕ) (x m : Record) → unless o x ≡ Ok m → x ≡ m
unless_ok None x m e = cc
unless_ok (Some p) x m e = cc

of_kind_holds : (o : Option KindRules) (m m' : Record) → o ≡ rules_of (code_of m.kind) → Kept m → of_kind o (bytes_of m) ≡ Ok m' → m' ≡ m
of_kind_holds None m m' q k e = cc
of_kind_holds (Some f) m m' q k e =
    sym (unless_ok (offence f (record_at f.kind (bytes_of m)) (u16_at (bytes_of m) 10) (u32_at (bytes_of m) 60)) (record_at f.kind (bytes_of m)) m' e)
    ∙ ap (λ v. record_at v (bytes_of m)) (rules_of_kind m.kind f q) ∙ k.whole

-- what is decoded from the bytes of a record that fits is that record
pub came_back : (m m' : Record) → FitRow (row_of m) → decoded (bytes_of m) ≡ Ok m' → m' ≡ m
came_back m m' F e = let k = fit_kept m F in
    of_kind_holds (rules_of (code_of m.kind)) m m' refl k (cond_ok (eqb (length (bytes_of m)) 64) (of_kind (rules_of (code_of m.kind)) (bytes_of m)) (misplaced 64) m' e)
