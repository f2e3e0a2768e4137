-- What a call does: its answer, and what the board's tables, the rows of its log and the records it wrote are then.
use Rattle.std.specs.Prelude.{◌≡◌, ℕ, List, [], length, Ok, Err, Result}
use Rattle.std.specs.List.{flat_map}
use Rattle.record.specs.declared.fault.Fault.{Fault}
use Rattle.record.specs.declared.message.Record.{Record}
use Rattle.record.specs.declared.row.Row.{Row}
use Rattle.record.specs.Layout.{bytes_of, written}
use Rattle.config.specs.declared.config.Config.{Config}
use Rattle.bus.specs.Letters.{records_of}
use Rattle.bus.specs.declared.sending.Sending.{Sending}
use Rattle.tables.specs.Transactions.{Change}
use Rattle.tables.specs.declared.tables.Tables.{Tables}
use Rattle.keeper.specs.declared.log.LogKeeper.{Ghosts}
use Rattle.board.specs.declared.board.Board.{Board}

-- a board as its definitions see it
pub record State : Type 0 where
  pub tables : Tables
  pub rows : List Row
  pub capacity : ℕ

abbrev pub state : Tables → List Row → ℕ → State
state tables rows capacity = record { tables = tables; rows = rows; capacity = capacity }

-- the state of a board: its tables, and what its keeper makes of its log
abbrev pub state_of : {K : Type 0} {keeper : Ghosts K} → Board K keeper → State
state_of {K} {keeper} b = state b.tables (keeper.rows b.log) (keeper.capacity b.log)

pub record Effect (A : Type 0) : Type 0 where
  pub answer : Result A Fault
  pub tables : Tables
  pub rows : List Row
  pub written : List Record

-- a refusal changes nothing and writes nothing
abbrev pub refused : {A : Type 0} → State → Fault → Effect A
refused s fault = record { answer = Err fault; tables = s.tables; rows = s.rows; written = [] }

-- an answer that changes nothing and writes nothing
abbrev pub answered : {A : Type 0} → State → A → Effect A
answered s a = record { answer = Ok a; tables = s.tables; rows = s.rows; written = [] }

-- an answer with other tables
abbrev pub changed : {A : Type 0} → State → A → Tables → Effect A
changed s a t = record { answer = Ok a; tables = t; rows = s.rows; written = [] }

-- a call that only the tables know of
abbrev pub on_tables : {A : Type 0} → State → Change A → Effect A
on_tables s c = record { answer = c.answer; tables = c.tables; rows = s.rows; written = [] }

-- an effect that follows an acceptance
abbrev pub or_refused : {X A : Type 0} → State → Result X Fault → (X → Effect A) → Effect A
or_refused s (Ok x) next = next x
or_refused s (Err fault) next = refused s fault

-- ## What a contract says

-- the outgoing buffer, once records are laid into it one behind the other; the bytes after them stay
abbrev pub outgoing : List ℕ → List Record → List ℕ
outgoing out records = written out 0 (flat_map bytes_of records)

-- how many records there are to send, or the fault
abbrev pub counted : Config → Result Sending Fault → Result ℕ Fault
counted c (Ok sending) = Ok (length (records_of c sending))
counted c (Err fault) = Err fault

-- the records to send; a refusal has none
abbrev pub to_send : Config → Result Sending Fault → List Record
to_send c (Ok sending) = records_of c sending
to_send c (Err fault) = []

-- a call has done what its definition says, but for laying its records into a buffer; the configuration and the keeper's capacity stay
pub record Acts {A : Type 0} (e : Effect A) (r : Result A Fault) (records : List Record) (before after : State) : Type 0 where
  pub answer : r ≡ e.answer
  pub written : records ≡ e.written
  pub tables : after.tables ≡ e.tables
  pub rows : after.rows ≡ e.rows
  pub capacity : after.capacity ≡ before.capacity
  pub config : after.tables.config ≡ before.tables.config

-- what a call leaves of a board: the keeper's capacity stays
abbrev pub leaves : {A : Type 0} → State → Effect A → State
leaves s e = record { tables = e.tables; rows = e.rows; capacity = s.capacity }

-- a step has done what its definition says, and answers what is to be sent
abbrev pub Does : {K : Type 0} {keeper : Ghosts K} → (State → Effect ℕ) → Result Sending Fault → Board K keeper → Board K keeper → Type 0
Does e r before after =
    let s : State = state_of before in
    Acts (e s) (counted s.tables.config r) (to_send s.tables.config r) s (state_of after)
