-- The rules of a record's layout, in the order of its bytes, and the first that is broken.
use Rattle.std.specs.Prelude.{ℕ, ◌+◌, ◌-◌, Bool, cond, not, ◌&&◌, List, [], ◌∷◌, ◌++◌, Some, None, Option, ◌==◌, nat_le, nat_lt}
use Rattle.std.proofs.Common.{of_z}
use Rattle.std.specs.Int.{w32}
use Rattle.record.specs.Kinds.{within, code_of, rules_of}
use Rattle.record.specs.declared.kind.RecordKind.{RecordKind}
use Rattle.record.specs.declared.kind.KindRules.{KindRules}
use Rattle.record.specs.declared.row.Update.{Update}
use Rattle.record.specs.declared.message.Record.{Record}

-- a place, and whether what stands there is in order
abbrev pub Rule : Type 0
Rule = ℕ × Bool

-- the place of the first rule that is broken
abbrev pub first : List Rule → Option ℕ
first [] = None
first (r ∷ rs) = cond r.1 (first rs) (Some r.0)

-- a ROW is for no board, and any other record for a board that is not its sender
abbrev pub receives : RecordKind → ℕ → ℕ → Bool
receives kind sender receiver =
    cond (code_of kind == 8) (receiver == 255) (nat_lt receiver 8 && not (receiver == sender))

-- gap is what stands in bytes 10 and 11
abbrev pub head_rules : KindRules → Record → ℕ → List Rule
head_rules k m gap =
    (1, nat_lt m.sender 8)
    ∷ (2, receives k.kind m.sender m.receiver)
    ∷ (3, within k.detail m.detail)
    ∷ (4, within k.serial m.serial)
    ∷ (8, within k.number m.number)
    ∷ (10, (gap == 0))
    ∷ []

-- a clock entry is at most 4096, and 0 where the kind carries no clock
abbrev pub highest : KindRules → ℕ
highest k = cond k.carries 4096 0

abbrev pub clock_rules : ℕ → ℕ → List ℕ → List Rule
clock_rules top place [] = []
clock_rules top place (e ∷ es) = (place, nat_le e top) ∷ clock_rules top (place + 2) es

-- an update that is not used is zero in each of its parts
abbrev pub zero_rules : ℕ → Update → List Rule
zero_rules place u =
    (place, (u.object == 0)) ∷ (place + 2, (u.element == 0)) ∷ (place + 4, (of_z w32 u.operand == 0)) ∷ []

-- byte 3 counts the updates that are used; none is where the kind carries none
abbrev pub used : KindRules → Record → ℕ
used k m = cond k.carries m.detail 0

abbrev pub update_rules : ℕ → ℕ → List Update → List Rule
update_rules used place [] = []
update_rules used place (u ∷ us) =
    cond (nat_lt 0 used) [] (zero_rules place u) ++ update_rules (used - 1) (place + 8) us

-- all rules of a record; tail is what stands in its last four bytes
abbrev pub rules : KindRules → Record → ℕ → ℕ → List Rule
rules k m gap tail =
    head_rules k m gap
    ++ (clock_rules (highest k) 12 m.start.entries
    ++ (update_rules (used k m) 28 m.updates
    ++ ((60, (tail == 0)) ∷ [])))

-- the place of the first field, clock entry or part of an update that breaks a rule
abbrev pub offence : KindRules → Record → ℕ → ℕ → Option ℕ
offence k m gap tail = first (rules k m gap tail)

abbrev pub by_kind : Option KindRules → Record → Option ℕ
by_kind None m = Some 0
by_kind (Some k) m = offence k m 0 0

-- the place of the first rule that a record breaks, as it would lie in its bytes
abbrev pub breaks : Record → Option ℕ
breaks m = by_kind (rules_of (code_of m.kind)) m
