-- What is read from the rest of a record after its first four bytes is what stands in the record four places on.
use Rattle.std.proofs.Common.{◌≡◌, ℕ, ◌+◌, ◌-◌, true, eqb, List, length, get_or, take, drop, Some, None, Ok, Err, Option, Result, sym, refl, ap, ◌∙◌}
use Rattle.std.proofs.lemmas.List.{take_rest, get_or-drop}
use Rattle.std.proofs.lemmas.Bool.{eq-eqb}
use Rattle.record.specs.declared.fault.Fault.{Fault}
use Rattle.record.specs.declared.kind.KindRules.{KindRules}
use Rattle.record.specs.declared.message.Record.{Record}
use Rattle.record.specs.declared.kind.RecordKind.{RecordKind}
use Rattle.record.specs.declared.clock.Clock.{Clock}
use Rattle.record.specs.declared.row.Update.{Update}
use Rattle.record.specs.Kinds.{rules_of}
use Rattle.record.specs.Numbers.{u16_at, u32_at}
use Rattle.record.specs.Layout.{clock_at, updates_at, record_at}
use Rattle.record.specs.Rules.{offence}
use Rattle.record.specs.Codec.{unless, of_kind, decoded}

abbrev pub rest_of : List ℕ → List ℕ
rest_of bs = take (length bs - 4) (drop 4 bs)

pub rest_at : (bs : List ℕ) (i : ℕ) → get_or (rest_of bs) i 0 ≡ get_or bs (4 + i) 0
rest_at bs i = simp (take_rest, get_or-drop)

abbrev pub from_rest : RecordKind → List ℕ → Record
from_rest kind bs =
    record {
      kind = kind;
      sender = get_or bs 1 0;
      receiver = get_or bs 2 0;
      detail = get_or bs 3 0;
      serial = u32_at (rest_of bs) 0;
      number = u16_at (rest_of bs) 4;
      start = clock_at (rest_of bs) 8;
      updates = updates_at (rest_of bs) 24;
    }

pub from_rest_holds : (kind : RecordKind) (bs : List ℕ) → from_rest kind bs ≡ record_at kind bs
from_rest_holds kind bs = simp rest_at

pub rest_gap : (bs : List ℕ) → u16_at (rest_of bs) 6 ≡ u16_at bs 10
rest_gap bs = simp rest_at

pub rest_tail : (bs : List ℕ) → u32_at (rest_of bs) 56 ≡ u32_at bs 60
rest_tail bs = simp rest_at

pub decoded_by : (bs : List ℕ) (f : KindRules) → length bs ≡ 64 → Some f ≡ rules_of (get_or bs 0 0) → decoded bs ≡ unless (offence f (record_at f.kind bs) (u16_at bs 10) (u32_at bs 60)) (record_at f.kind bs)
decoded_by bs f n e =
    let t : eqb (length bs) 64 ≡ true = eq-eqb _ _ n in
    let k : of_kind (Some f) bs ≡ of_kind (rules_of (get_or bs 0 0)) bs = ap (λ o. of_kind o bs) e in
    simp t (sym k)

-- the record that the code makes of what it has read
abbrev pub made : KindRules → List ℕ → ℕ → ℕ → Clock → List Update → Record
made f bs serial number start updates =
    record {
      kind = f.kind;
      sender = get_or bs 1 0;
      receiver = get_or bs 2 0;
      detail = get_or bs 3 0;
      serial = serial;
      number = number;
      start = start;
      updates = updates;
    }

pub decoded_from_rest : (bs : List ℕ) (f : KindRules) (serial number gap tail : ℕ) (start : Clock) (updates : List Update) → length bs ≡ 64 → Some f ≡ rules_of (get_or bs 0 0) → serial ≡ u32_at (rest_of bs) 0 → number ≡ u16_at (rest_of bs) 4 → start ≡ clock_at (rest_of bs) 8 → updates ≡ updates_at (rest_of bs) 24 → gap ≡ u16_at (rest_of bs) 6 → tail ≡ u32_at (rest_of bs) 56 → decoded bs ≡ unless (offence f (made f bs serial number start updates) gap tail) (made f bs serial number start updates)
decoded_from_rest bs f serial number gap tail start updates n k es en et eu eg el =
    let m : record_at f.kind bs ≡ made f bs serial number start updates = sym (simp (es, en, et, eu) (from_rest_holds f.kind bs)) in
    let g : u16_at bs 10 ≡ gap = sym (eg ∙ rest_gap bs) in
    let t : u32_at bs 60 ≡ tail = sym (el ∙ rest_tail bs) in
    let was : Record → ℕ → ℕ → Result Record Fault = λ x y z. unless (offence f x y z) x in
    decoded_by bs f n k ∙ ap (λ x. was x (u16_at bs 10) (u32_at bs 60)) m ∙ ap (λ y. was (made f bs serial number start updates) y (u32_at bs 60)) g ∙ ap (λ z. was (made f bs serial number start updates) gap z) t

-- what a check that has passed, or denied, says of the record that is checked
pub unless_passed : (o : Option ℕ) (r : Result (Unit {0}) Fault) (x : Record) → r ≡ unless o tt → r ≡ Ok tt → unless o x ≡ Ok x
unless_passed None r x e p = refl
unless_passed (Some place) r x e p = cc

pub unless_denied : (o : Option ℕ) (r : Result (Unit {0}) Fault) (x : Record) (d : Fault) → r ≡ unless o tt → r ≡ Err d → unless o x ≡ Err d
unless_denied None r x d e p = cc
unless_denied (Some place) r x d e p = cc
