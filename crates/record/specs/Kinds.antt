-- The seven kinds of records, with the bounds of byte 3, serial and number.
use Rattle.std.specs.Prelude.{ℕ, Bool, true, false, ◌&&◌, List, [], ◌∷◌, Option, ◌==◌, nat_le}
use Rattle.std.specs.List.{find}
use Rattle.record.specs.declared.kind.RecordKind.{RecordKind}
use Rattle.record.specs.declared.kind.RecordKind.TheVariants.{Prepare, Vote, Abort, Propagate, Ack, Durable, Row}
use Rattle.record.specs.declared.kind.Bounds.{Bounds}
use Rattle.record.specs.declared.kind.KindRules.{KindRules}

-- byte 0
abbrev pub code_of : RecordKind → ℕ
code_of Prepare = 1
code_of Vote = 2
code_of Abort = 3
code_of Propagate = 4
code_of Ack = 5
code_of Durable = 6
code_of Row = 8

abbrev pub within : Bounds → ℕ → Bool
within b n = nat_le b.least n && nat_le n b.most

abbrev from_to : ℕ → ℕ → Bounds
from_to least most = record { least = least; most = most }

abbrev zero : Bounds
zero = from_to 0 0

abbrev yes_or_no : Bounds
yes_or_no = from_to 0 1

abbrev updates : Bounds
updates = from_to 1 4

abbrev serials : Bounds
serials = from_to 1 4294967295

abbrev numbers : Bounds
numbers = from_to 1 4096

abbrev row : RecordKind → Bounds → Bounds → Bounds → Bool → KindRules
row kind detail serial number carries =
    record { kind = kind; detail = detail; serial = serial; number = number; carries = carries }

-- kind, byte 3, serial, number, and whether start clock and updates are carried
abbrev pub kinds : List KindRules
kinds =
    row Prepare updates serials zero true
    ∷ row Vote yes_or_no serials zero false
    ∷ row Abort zero serials zero false
    ∷ row Propagate updates serials numbers true
    ∷ row Ack zero zero numbers false
    ∷ row Durable zero zero numbers false
    ∷ row Row updates serials numbers true
    ∷ []

-- the rules of the kind with this code
abbrev pub rules_of : ℕ → Option KindRules
rules_of code = find (λ k. code_of k.kind == code) kinds
