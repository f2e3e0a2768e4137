-- What the calls on a transaction do to the tables.
use Rattle.std.specs.Prelude.{ℕ, ◌+◌, Bool, cond, List, replicate, ℤ, Ok, Err, Result, ◌==◌, nat_le, nat_lt, slice_set}
use Rattle.std.proofs.Common.{to_z}
use Rattle.std.specs.Int.{w32}
use Rattle.record.specs.declared.fault.Denial.TheVariants.{NoTransaction, WrongState, Unlisted, KindDiffers, FourUpdates, NoPlace, SerialsSpent}
use Rattle.record.specs.declared.fault.Fault.{Fault}
use Rattle.record.specs.declared.row.Row.{Row}
use Rattle.record.specs.declared.row.Update.{Update}
use Rattle.record.specs.declared.transaction.TransactionId.{TransactionId}
use Rattle.record.specs.Verdicts.{and_then, denied, need}
use Rattle.record.specs.Rows.{no_update}
use Rattle.config.specs.Objects.{is_listed, kind_of}
use Rattle.tables.specs.Places.{is_free, first_at, place_of, with_place}
use Rattle.tables.specs.declared.place.Place.{Place}
use Rattle.tables.specs.declared.place.Place.TheVariants.{Free, Open, Waiting, Committed, Aborted}
use Rattle.tables.specs.declared.tables.Tables.{Tables}

-- an answer, and the tables then
pub record Change (A : Type 0) : Type 0 where
  pub answer : Result A Fault
  pub tables : Tables

-- a change that follows an acceptance; a refusal changes nothing
abbrev pub or_same : {X A : Type 0} → Tables → Result X Fault → (X → Change A) → Change A
or_same t (Ok x) next = next x
or_same t (Err fault) next = record { answer = Err fault; tables = t }

abbrev pub accepted : {A : Type 0} → A → Tables → Change A
accepted a t = record { answer = Ok a; tables = t }

-- tables with other places
abbrev pub with_places : Tables → List Place → Tables
with_places t places =
    record {
      config = t.config;
      got = t.got;
      committed = t.committed;
      acknowledged = t.acknowledged;
      next = t.next;
      places = places;
      locks = t.locks;
    }

-- ## Start

-- a transaction that has just started: the row that it would become, with number 0
abbrev pub opened : Tables → Row
opened t =
    record {
      home = t.config.own;
      serial = t.next;
      number = 0;
      start = t.committed;
      count = 0;
      updates = replicate 4 no_update;
    }

abbrev pub started : Tables → Tables
started t =
    record {
      config = t.config;
      got = t.got;
      committed = t.committed;
      acknowledged = t.acknowledged;
      next = t.next + 1;
      places = slice_set t.places (first_at is_free t.places) (Open (opened t));
      locks = t.locks;
    }

abbrev pub may_start : Tables → Result ℕ Fault
may_start t =
    cond (nat_lt (first_at is_free t.places) 8) (cond (nat_le t.next 4294967295) (Ok t.next) (denied SerialsSpent)) (denied NoPlace)

abbrev pub start : Tables → Change ℕ
start t = or_same t (may_start t) (λ serial. accepted serial (started t))

-- ## Transactions by home and serial

abbrev open_in : Place → Result Row Fault
open_in Free = denied NoTransaction
open_in (Open r) = Ok r
open_in (Waiting r polled agreed) = denied WrongState
open_in (Committed s k) = denied WrongState
open_in (Aborted s) = denied WrongState

-- the board's own transaction with a serial
abbrev pub own_id : Tables → ℕ → TransactionId
own_id t serial = record { home = t.config.own; serial = serial }

-- the place of a transaction of this board
abbrev pub place_for : Tables → ℕ → ℕ → Place
place_for t home serial = cond (home == t.config.own) (place_of t.places serial) Free

abbrev pub open_row : Tables → ℕ → ℕ → Result Row Fault
open_row t home serial = open_in (place_for t home serial)

-- the object's container is listed, and of this kind
abbrev pub kind_fits : Tables → ℕ → ℕ → Result (Unit {0}) Fault
kind_fits t object kind = and_then (need (is_listed t.config object) Unlisted) (λ _. need (kind_of t.config object == kind) KindDiffers)

-- ## Put and merge

-- one update more, if fewer than four stand
abbrev pub with_update : Row → Update → Result Row Fault
with_update r u =
    cond (nat_lt r.count 4)
    (Ok
    (record {
      home = r.home;
      serial = r.serial;
      number = r.number;
      start = r.start;
      count = r.count + 1;
      updates = slice_set r.updates r.count u;
    }))
    (denied FourUpdates)

abbrev pub updated : Tables → ℕ → Result Row Fault → Change (Unit {0})
updated t serial verdict =
    or_same t verdict (λ r. accepted tt (with_places t (with_place t.places serial (Open r))))

abbrev pub put_verdict : Tables → ℕ → ℕ → ℕ → ℕ → Result Row Fault
put_verdict t home serial object word =
    and_then (open_row t home serial) (λ r. and_then (kind_fits t object 0) (λ _. with_update r (record { object = object; element = 0; operand = to_z w32 word })))

abbrev pub put : Tables → ℕ → ℕ → ℕ → ℕ → Change (Unit {0})
put t home serial object word = updated t serial (put_verdict t home serial object word)

-- kind is the number of the merging kind, and admitted whether it admits the operand
abbrev pub merge_verdict : Tables → ℕ → Bool → ℕ → ℕ → ℕ → ℕ → ℤ → Result Row Fault
merge_verdict t kind admitted home serial object element operand =
    and_then (open_row t home serial)
    (λ r. and_then (kind_fits t object kind) (λ _. and_then (need admitted KindDiffers) (λ _. with_update r (record { object = object; element = element; operand = operand }))))

abbrev pub merge : Tables → ℕ → Bool → ℕ → ℕ → ℕ → ℕ → ℤ → Change (Unit {0})
merge t kind admitted home serial object element operand =
    updated t serial (merge_verdict t kind admitted home serial object element operand)

-- the row of an open transaction that may read this object
abbrev pub readable : Tables → ℕ → ℕ → ℕ → ℕ → Result Row Fault
readable t home serial object kind = and_then (open_row t home serial) (λ r. and_then (kind_fits t object kind) (λ _. Ok r))

-- ## Abandon and settle

abbrev pub freed : Tables → ℕ → Tables
freed t serial = with_places t (with_place t.places serial Free)

abbrev pub abandon : Tables → ℕ → ℕ → Change (Unit {0})
abandon t home serial = or_same t (open_row t home serial) (λ _. accepted tt (freed t serial))

-- an outcome as a number
abbrev pub committed_is : ℕ
committed_is = 1

abbrev pub waiting_is : ℕ
waiting_is = 2

abbrev pub aborted_is : ℕ
aborted_is = 3

abbrev settle_in : Tables → ℕ → Place → Change (ℕ × ℕ)
settle_in t serial Free = record { answer = denied NoTransaction; tables = t }
settle_in t serial (Open r) = record { answer = denied WrongState; tables = t }
settle_in t serial (Waiting r polled agreed) = accepted (waiting_is, 0) t
settle_in t serial (Committed own number) = accepted (committed_is, number) (freed t serial)
settle_in t serial (Aborted own) = accepted (aborted_is, 0) (freed t serial)

abbrev pub settle : Tables → ℕ → ℕ → Change (ℕ × ℕ)
settle t home serial = settle_in t serial (place_for t home serial)
