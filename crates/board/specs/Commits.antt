-- Commit: fast where every regular object written is preferred here, and else slow.
use Rattle.std.specs.Prelude.{ℕ, Bool, true, cond, ◌&&◌, List, [], ◌∷◌, ◌++◌, length, Ok, Err, Result, ◌==◌, nat_le}
use Rattle.record.specs.declared.clock.Clock.{Clock}
use Rattle.record.specs.declared.fault.Denial.TheVariants.{ShortBuffer, LogFull}
use Rattle.record.specs.declared.fault.Fault.{Fault}
use Rattle.record.specs.declared.kind.RecordKind.TheVariants.{Prepare, Propagate}
use Rattle.record.specs.declared.message.Record.{Record}
use Rattle.record.specs.declared.row.Row.{Row}
use Rattle.record.specs.Faults.{keeper_fault}
use Rattle.record.specs.Rows.{updates_of, record_of}
use Rattle.keeper.specs.Logs.{admitted}
use Rattle.config.specs.BoardSets.{is_in}
use Rattle.tables.specs.Changes.{placed, lockable, locked, numbered, with_own}
use Rattle.tables.specs.Locks.{is_unlocked}
use Rattle.tables.specs.Outcomes.{outcome_code, outcome_number}
use Rattle.tables.specs.declared.outcome.Outcome.{Outcome as Ending}
use Rattle.config.specs.Objects.{every_ours, polled_for}
use Rattle.config.specs.declared.config.Config.{Config}
use Rattle.tables.specs.declared.place.Place.TheVariants.{Free, Waiting}
use Rattle.keeper.specs.declared.log.LogKeeper.{Ghosts}
use Rattle.board.specs.declared.board.Board.{Board}
use Rattle.board.specs.Effects.{State, Effect, Acts, changed, or_refused, state_of}
use Rattle.queries.specs.Logs.{is_unchanged}
use Rattle.bus.specs.Letters.{records_of}
use Rattle.bus.specs.declared.sending.Sending.{Sending}
use Rattle.bus.specs.Records.{to_others}
use Rattle.record.specs.Verdicts.{and_then, need}
use Rattle.tables.specs.Transactions.{open_row, freed, committed_is, waiting_is, aborted_is}

-- outcome, sequence number, count of records written
abbrev pub Outcome : Type 0
Outcome = ℕ × ℕ × ℕ

-- a regular object is clear for a start clock if it is unlocked here and the clock covers every row of the log that writes it
abbrev pub is_clear : State → Clock → ℕ → Bool
is_clear s clock object = is_unlocked s.tables.locks object && is_unchanged s.rows clock object

-- each of our objects that a row writes is clear
abbrev pub all_clear : State → Row → Bool
all_clear s r = every_ours s.tables.config (is_clear s r.start) (updates_of r)

-- ## The own row

-- the log takes it, unless it is full; past number 4096 every log is
abbrev pub may_append : State → Row → Result (Unit {0}) Fault
may_append s r =
    cond (nat_le r.number 4096) (admitted r (length s.rows) s.capacity) (Err (keeper_fault LogFull))

-- the row is appended under the board's next number
abbrev pub own_row : State → Row → Effect Row
own_row s r =
    let row : Row = numbered s.tables r in
    or_refused s (may_append s row)
    (λ _. record {
      answer = Ok row;
      tables = with_own s.tables row.number;
      rows = s.rows ++ row ∷ [];
      written = [];
    })

-- PROPAGATE to every other board
abbrev pub propagates : Config → Row → List Record
propagates c r = to_others c (λ _. true) (λ b. record_of Propagate b r)

-- PREPARE to the other boards of a set
abbrev pub prepares : Config → Row → (ℕ → Bool) → List Record
prepares c r p = to_others c p (λ b. record_of Prepare b r)

-- ## Commit

-- the row is appended, numbered and propagated, and the place is freed
abbrev pub fast_commit : State → Row → Effect Outcome
fast_commit s r =
    let row : Row = numbered s.tables r in
    let sent : List Record = propagates s.tables.config row in
    or_refused s (may_append s row)
    (λ _. record {
      answer = Ok (committed_is, row.number, length sent);
      tables = placed (with_own s.tables row.number) r.serial Free;
      rows = s.rows ++ row ∷ [];
      written = sent;
    })

-- our objects are locked, and the other preferred boards are asked
abbrev pub slow_commit : State → Row → ℕ → Effect Outcome
slow_commit s r polled =
    let sent : List Record = prepares s.tables.config r (is_in polled) in
    or_refused s (lockable s.tables r)
    (λ _. record {
      answer = Ok (waiting_is, 0, length sent);
      tables = locked (placed s.tables r.serial (Waiting r polled 0)) r;
      rows = s.rows;
      written = sent;
    })

abbrev pub clear_commit : State → Row → Effect Outcome
clear_commit s r =
    let polled : ℕ = polled_for s.tables.config (updates_of r) in
    cond (polled == 0) (fast_commit s r) (slow_commit s r polled)

abbrev pub tried : State → Row → Effect Outcome
tried s r =
    cond (length (updates_of r) == 0)
    (changed s (committed_is, 0, 0) (freed s.tables r.serial))
    (cond (all_clear s r) (clear_commit s r) (changed s (aborted_is, 0, 0) (freed s.tables r.serial)))

abbrev pub buffer_fits : ℕ → Result (Unit {0}) Fault
buffer_fits length = need (nat_le 448 length) ShortBuffer

-- room is the length of the outgoing buffer
abbrev pub commit : State → ℕ → ℕ → ℕ → Effect Outcome
commit s home serial room =
    or_refused s (and_then (open_row s.tables home serial) (λ r. and_then (buffer_fits room) (λ _. Ok r))) (tried s)

-- ## In plain numbers

-- what became of a transaction and a count of records, as commit answers them
abbrev pub plain : Ending × ℕ → Outcome
plain o = (outcome_code o.0, outcome_number o.0, o.1)

abbrev pub plain_in : Result (Ending × ℕ) Fault → Result Outcome Fault
plain_in (Ok o) = Ok (plain o)
plain_in (Err fault) = Err fault

-- ## Before the records are laid into a buffer

-- what became of the transaction, and what is to be sent
abbrev pub Decision : Type 0
Decision = Ending × Sending

abbrev pub outcome_in : Config → Result Decision Fault → Result Outcome Fault
outcome_in c (Ok d) = Ok (plain (d.0, length (records_of c d.1)))
outcome_in c (Err fault) = Err fault

abbrev pub records_by : Config → Result Decision Fault → List Record
records_by c (Ok d) = records_of c d.1
records_by c (Err fault) = []

-- a step of commit has done what its definition says, and answers what it decided
abbrev pub Decides : {K : Type 0} {keeper : Ghosts K} → (State → Effect Outcome) → Result Decision Fault → Board K keeper → Board K keeper → Type 0
Decides e r before after =
    let s : State = state_of before in
    Acts (e s) (outcome_in s.tables.config r) (records_by s.tables.config r) s (state_of after)
