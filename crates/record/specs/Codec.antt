-- What decoding, checking and encoding answer.
use Rattle.std.specs.Prelude.{◌≡◌, ℕ, ◌<◌, cond, List, length, Some, None, Ok, Err, Option, Result, FitsSigned, ◌==◌, slice_index}
use Rattle.std.specs.Int.{w32}
use Rattle.record.specs.Faults.{misplaced}
use Rattle.record.specs.Kinds.{rules_of}
use Rattle.record.specs.Numbers.{u16_at, u32_at}
use Rattle.record.specs.Layout.{record_at, bytes_of}
use Rattle.record.specs.Rules.{offence, breaks}
use Rattle.record.specs.declared.fault.Fault.{Fault}
use Rattle.record.specs.declared.kind.KindRules.{KindRules}
use Rattle.record.specs.declared.row.Update.{Update}
use Rattle.record.specs.declared.message.Record.{Record}

-- x, unless something is out of order at a place
abbrev pub unless : {X : Type 0} → Option ℕ → X → Result X Fault
unless None x = Ok x
unless (Some place) x = Err (misplaced place)

-- bytes of which byte 0 has told the kind
abbrev pub of_kind : Option KindRules → List ℕ → Result Record Fault
of_kind None bs = Err (misplaced 0)
of_kind (Some k) bs =
    unless (offence k (record_at k.kind bs) (u16_at bs 10) (u32_at bs 60)) (record_at k.kind bs)

-- the record in some bytes, or the place at which they break a rule: 64 unless they are 64, 0 where byte 0 is of no kind
abbrev pub decoded : List ℕ → Result Record Fault
decoded bs = cond (length bs == 64) (of_kind (rules_of (slice_index bs 0)) bs) (Err (misplaced 64))

-- whether a record may be put into bytes
abbrev pub checked : Record → Result (Unit {0}) Fault
checked m = unless (breaks m) tt

-- the bytes of a record, or the place at which they would break a rule
abbrev pub encoded : Record → Result (List ℕ) Fault
encoded m = unless (breaks m) (bytes_of m)

-- ## There and back

-- the parts of an update fit their places
pub record Sized (u : Update) : Type 0 where
  pub object_fits : u.object < 65536
  pub element_fits : u.element < 65536
  pub operand_fits : FitsSigned w32 u.operand

-- the bytes of a record are 64, and its fields stand in them
pub record Kept (m : Record) : Type 0 where
  pub size : length (bytes_of m) ≡ 64
  pub whole : record_at m.kind (bytes_of m) ≡ m
  pub end : u32_at (bytes_of m) 60 ≡ 0
