-- What a board takes from the bus, and what only the group can judge of a record.
use Rattle.std.specs.Prelude.{ℕ, ◌+◌, ◌*◌, cond, not, ◌||◌, List, [], ◌∷◌, ◌++◌, drop, Ok, Err, Result, ◌==◌, nat_lt}
use Rattle.record.specs.Codec.{decoded, unless}
use Rattle.record.specs.Faults.{board_fault}
use Rattle.record.specs.Kinds.{code_of}
use Rattle.record.specs.Rows.{updates_of, row_of}
use Rattle.record.specs.Rules.{Rule, first, clock_rules}
use Rattle.record.specs.Verdicts.{and_then}
use Rattle.record.specs.declared.fault.Denial.TheVariants.{NotHere}
use Rattle.record.specs.declared.fault.Fault.{Fault}
use Rattle.record.specs.declared.kind.RecordKind.{RecordKind}
use Rattle.record.specs.declared.kind.RecordKind.TheVariants.{Prepare, Propagate}
use Rattle.record.specs.declared.message.Record.{Record}
use Rattle.record.specs.declared.row.Update.{Update}
use Rattle.config.specs.Objects.{is_listed, is_regular}
use Rattle.config.specs.declared.config.Config.{Config}

-- clock entries of boards that the group does not have are 0
abbrev pub stranger_rules : ℕ → List ℕ → List Rule
stranger_rules place es = clock_rules 0 place es

-- a used update is of a listed container, and of element 0 where that is regular
abbrev pub part_rules : Config → ℕ → Update → List Rule
part_rules c place u = (place, is_listed c u.object) ∷ (place + 2, not (is_regular c u.object) || u.element == 0) ∷ []

abbrev pub update_rules : Config → ℕ → List Update → List Rule
update_rules c place [] = []
update_rules c place (u ∷ us) = part_rules c place u ++ update_rules c (place + 8) us

-- only PREPARE and PROPAGATE carry updates on the bus
abbrev pub carried_updates : Record → List Update
carried_updates m = by_kind m.kind
  where
    by_kind : RecordKind → List Update
    by_kind Prepare = updates_of (row_of m)
    by_kind Propagate = updates_of (row_of m)
    by_kind _ = []

abbrev pub body_rules : Config → Record → List Rule
body_rules c m = stranger_rules (12 + 2 * c.boards) (drop c.boards m.start.entries) ++ update_rules c 28 (carried_updates m)

-- a ROW is not for the bus; sender, receiver and clock are of the group's boards; updates are of its containers
abbrev pub group_rules : Config → Record → List Rule
group_rules c m =
    (0, not (code_of m.kind == 8))
    ∷ (1, nat_lt m.sender c.boards)
    ∷ (2, nat_lt m.receiver c.boards)
    ∷ body_rules c m

-- the receiver is this board
abbrev pub is_addressed : Config → Record → Result Record Fault
is_addressed c m = cond (m.receiver == c.own) (Ok m) (Err (board_fault NotHere))

abbrev pub received : Config → List ℕ → Result Record Fault
received c bytes =
    and_then (decoded bytes)
    (λ m. and_then (unless (first (group_rules c m)) m) (is_addressed c))
