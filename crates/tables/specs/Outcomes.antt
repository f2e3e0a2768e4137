-- What became of a transaction, and its numbers.
use Rattle.std.specs.Prelude.{ℕ, Ok, Err, Result}
use Rattle.record.specs.declared.fault.Fault.{Fault}
use Rattle.tables.specs.Transactions.{committed_is, waiting_is, aborted_is}
use Rattle.tables.specs.declared.outcome.Outcome.{Outcome}
use Rattle.tables.specs.declared.outcome.Outcome.TheVariants.{Committed, Waiting, Aborted}

-- an outcome as a number
abbrev pub outcome_code : Outcome → ℕ
outcome_code (Committed number) = committed_is
outcome_code Waiting = waiting_is
outcome_code Aborted = aborted_is

-- the number of the row, 0 unless it was committed
abbrev pub outcome_number : Outcome → ℕ
outcome_number (Committed number) = number
outcome_number Waiting = 0
outcome_number Aborted = 0

-- both
abbrev pub pair_of : Outcome → ℕ × ℕ
pair_of o = (outcome_code o, outcome_number o)

-- an answer with the outcome as a pair of numbers
abbrev pub numbered_in : Result Outcome Fault → Result (ℕ × ℕ) Fault
numbered_in (Ok o) = Ok (pair_of o)
numbered_in (Err fault) = Err fault
