-- A record that is accepted: whom it is from and for, and that it was written.
use Rattle.std.proofs.Common.{◌≡◌, ℕ, ◌<◌, ◌≤◌, Bool, true, false, cond, not, ◌&&◌, eqb, ltb, ◌≢◌, ◌⊎◌, List, Some, None, Ok, Err, Option, sym, refl, ap, ◌∙◌, inl, inr, arith}
use mathlib.Core.List.Memᴰ
use mathlib.Core.List.{Memᴰ}
use Rattle.std.proofs.lemmas.Bool.{and_parts, eqb-true, eqb-false, ltb-true, leb-true, not-true}
use Rattle.record.specs.declared.fault.Denial.TheVariants.{NotHere}
use Rattle.record.specs.declared.fault.Fault.{Fault}
use Rattle.record.specs.declared.kind.KindRules.{KindRules}
use Rattle.record.specs.declared.kind.RecordKind.TheVariants.{Propagate, Durable}
use Rattle.record.specs.declared.message.Record.{Record}
use Rattle.record.specs.Codec.{decoded, unless}
use Rattle.record.specs.Faults.{board_fault}
use Rattle.record.specs.Kinds.{rules_of, code_of, within}
use Rattle.record.specs.Layout.{bytes_of}
use Rattle.record.specs.Rows.{row_of}
use Rattle.record.specs.Rules.{first, rules, receives, offence, by_kind, breaks}
use Rattle.record.proofs.Back.{rules_of_kind}
use Rattle.record.proofs.Rebuilt.{none_first, decoded_sound}
use Rattle.record.specs.Verdicts.{and_then}
use Rattle.config.specs.declared.config.Config.{Config}
use Rattle.bus.specs.Received.{group_rules, received}
use Rattle.isolation.specs.Calls.{denied, count}
use Rattle.isolation.specs.Events.{Event, written_by}
use Rattle.isolation.specs.Groups.{Group, config_of}
use Rattle.isolation.specs.Machine.{Among}
use Rattle.isolation.proofs.Carried.{FitRow, came_back}
use Rattle.isolation.proofs.Opening.{and_then_holds}
use Rattle.isolation.proofs.Simulation.{meaning, said}

-- ## What no broken rule tells

rules_kept : (o : Option KindRules) (m : Record) → by_kind o m ≡ None → (f : KindRules) × (Some f ≡ o) × (None ≡ offence f m 0 0)
rules_kept None m e = absurd (let z : ◌≡◌ {A = ℕ} 0 1 = cc in omega arith)
rules_kept (Some f) m e = (f, refl, sym e)

abbrev number_in : Option KindRules → ℕ → Bool
number_in None n = false
number_in (Some f) n = within f.number n

module _ (m : Record) (lawful : breaks m ≡ None) where
  receives_is : receives m.kind m.sender m.receiver ≡ true
  receives_is =
      let (f, e, n) = rules_kept (rules_of (code_of m.kind)) m lawful in
      let all = none_first (rules f m 0 0) n in
      ap (λ k. receives k m.sender m.receiver) (sym (rules_of_kind m.kind f e)) ∙ all.1.0

  number_in_holds : number_in (rules_of (code_of m.kind)) m.number ≡ true
  number_in_holds =
      let (f, e, n) = rules_kept (rules_of (code_of m.kind)) m lawful in
      let all = none_first (rules f m 0 0) n in
      ap (λ o. number_in o m.number) (sym e) ∙ all.1.1.1.1.0

  not_self : (ltb m.receiver 8 && not (eqb m.receiver m.sender)) ≡ true → m.receiver ≢ m.sender
  not_self e = eqb-false m.receiver m.sender (not-true (eqb m.receiver m.sender) (and_parts (ltb m.receiver 8) (not (eqb m.receiver m.sender)) e).1)

  pub apart_propagate : m.kind ≡ Propagate → m.receiver ≢ m.sender
  apart_propagate k = not_self (rw k at receives_is)

  pub apart_durable : m.kind ≡ Durable → m.receiver ≢ m.sender
  apart_durable k = not_self (rw k at receives_is)

  pub durable_counts : m.kind ≡ Durable → 1 ≤ m.number
  durable_counts k = let e : within (record { least = 1; most = 4096 }) m.number ≡ true = rw k at number_in_holds in leb-true 1 m.number (and_parts _ _ e).0

-- ## What is accepted

pub record Received (g : Group) (b : ℕ) (bytes : List ℕ) (m : Record) : Type 0 where
  pub came : decoded bytes ≡ Ok m
  pub from : m.sender < g.boards
  pub here : m.receiver ≡ b
  pub lawful : breaks m ≡ None

unless_ok : (o : Option ℕ) (a m : Record) → unless o a ≡ Ok m → (None ≡ o) × (a ≡ m)
unless_ok None a m e = (refl, cc)
unless_ok (Some p) a m e = absurd (let z : ◌≡◌ {A = ℕ} 0 1 = cc in omega arith)

for_here : (v : Bool) (a m : Record) (f : Fault) → cond v (Ok a) (Err f) ≡ Ok m → (v ≡ true) × (a ≡ m)
for_here true a m f e = (refl, cc)
for_here false a m f e = absurd (let z : ◌≡◌ {A = ℕ} 0 1 = cc in omega arith)

pub received_is : (g : Group) (b : ℕ) (bytes : List ℕ) (m : Record) → received (config_of g b) bytes ≡ Ok m → Received g b bytes m
received_is g b bytes m e =
    let c : Config = config_of g b in
    let (m₀, came, k) = and_then_holds (decoded bytes) (λ m. and_then (unless (first (group_rules c m)) m) (λ m. cond (eqb m.receiver c.own) (Ok m) (Err (board_fault NotHere)))) m e in
    let (m₁, u, l) = and_then_holds (unless (first (group_rules c m₀)) m₀) (λ m. cond (eqb m.receiver c.own) (Ok m) (Err (board_fault NotHere))) m k in
    let (none, same) = unless_ok (first (group_rules c m₀)) m₀ m₁ u in
    let (is, same') = for_here (eqb m₁.receiver b) m₁ m (board_fault NotHere) l in
    let all = none_first (group_rules c m₀) none in
    let to : m₀ ≡ m = same ∙ same' in
    let came' : decoded bytes ≡ Ok m = came ∙ ap Ok to in
    record {
      came = came';
      from = ltb-true m.sender g.boards (ap (λ (v : Record). ltb v.sender g.boards) (sym to) ∙ all.1.0);
      here = eqb-true m.receiver b (ap (λ (v : Record). eqb v.receiver b) (sym same') ∙ is);
      lawful = decoded_sound bytes m came';
    }

-- ## What was written

module _ (es : List Event) (fits : (m : Record) → Memᴰ m (written_by es) → FitRow (row_of m)) (bytes : List ℕ) (m : Record) (came : decoded bytes ≡ Ok m) where
  -- a record that was brought and is accepted was written
  pub was_written : (k : ℕ) → ((m : Record) × Memᴰ m (written_by es) × (bytes_of m ≡ bytes)) ⊎ ((fault : Fault) × (count k ≡ denied fault)) → Memᴰ m (written_by es)
  was_written k (inl w) = let (m₀, i, e) = w in Memᴰ.cast (came_back m₀ m (fits m₀ i) (ap decoded e ∙ came)) i
  was_written k (inr w) = let (f, e) = w in absurd (let z : ◌≡◌ {A = ℕ} 0 1 = cc in omega arith)

pub says : (es : List Event) (m : Record) → Memᴰ m (written_by es) → Among (said es) (meaning m)
says es m i = Memᴰ.map meaning i
