-- What changes in the tables: a place, the locks, a clock.
use Rattle.std.specs.Prelude.{ℕ, ◌+◌, Bool, List, Option, Result, nat_le}
use Rattle.record.specs.declared.clock.Clock.{Clock}
use Rattle.record.specs.declared.fault.Denial.TheVariants.{NoLockPlaces}
use Rattle.record.specs.declared.fault.Fault.{Fault}
use Rattle.record.specs.declared.row.Row.{Row}
use Rattle.record.specs.Clocks.{entry_of, raised}
use Rattle.record.specs.Rows.{updates_of}
use Rattle.tables.specs.Locks.{is_unlocked, is_locked_by, free_locks, with_locks, without_owner}
use Rattle.config.specs.Objects.{every_ours, count_ours}
use Rattle.tables.specs.Places.{with_place}
use Rattle.record.specs.Verdicts.{need}
use Rattle.tables.specs.Transactions.{with_places}
use Rattle.tables.specs.declared.lock.Lock.{Lock}
use Rattle.tables.specs.declared.place.Place.{Place}
use Rattle.tables.specs.declared.tables.Tables.{Tables}

-- ## Places

-- the place of a serial holds something else
abbrev pub placed : Tables → ℕ → Place → Tables
placed t serial p = with_places t (with_place t.places serial p)

-- ## Locks

-- our objects that the row writes are all locked by its own transaction
abbrev pub all_locked : Tables → Row → Bool
all_locked t r = every_ours t.config (is_locked_by t.locks r.home r.serial) (updates_of r)

-- none of them is locked
abbrev pub all_unlocked : Tables → Row → Bool
all_unlocked t r = every_ours t.config (is_unlocked t.locks) (updates_of r)

-- there are free lock places enough for them
abbrev pub lockable : Tables → Row → Result (Unit {0}) Fault
lockable t r = need (nat_le (count_ours t.config (updates_of r)) (free_locks t.locks)) NoLockPlaces

-- tables with other locks
abbrev pub relocked : Tables → List (Option Lock) → Tables
relocked t locks =
    record {
      config = t.config;
      got = t.got;
      committed = t.committed;
      acknowledged = t.acknowledged;
      next = t.next;
      places = t.places;
      locks = locks;
    }

-- they are locked for the row's transaction
abbrev pub locked : Tables → Row → Tables
locked t r = relocked t (with_locks t.config t.locks r.home r.serial (updates_of r))

-- the locks of a transaction are freed
abbrev pub released : Tables → ℕ → ℕ → Tables
released t home serial = relocked t (without_owner home serial t.locks)

-- ## Clocks

abbrev clocked : Tables → Clock → Clock → Clock → Tables
clocked t got committed acknowledged =
    record {
      config = t.config;
      got = got;
      committed = committed;
      acknowledged = acknowledged;
      next = t.next;
      places = t.places;
      locks = t.locks;
    }

-- the row that a transaction becomes: the board's next number is its own
abbrev pub numbered : Tables → Row → Row
numbered t r =
    record {
      home = r.home;
      serial = r.serial;
      number = entry_of t.committed t.config.own + 1;
      start = r.start;
      count = r.count;
      updates = r.updates;
    }

-- an own row is in the log, and shows
abbrev pub with_own : Tables → ℕ → Tables
with_own t number =
    clocked t (raised t.got t.config.own number) (raised t.committed t.config.own number) t.acknowledged

-- a row of another home is in the log
abbrev pub with_got : Tables → ℕ → ℕ → Tables
with_got t home number = clocked t (raised t.got home number) t.committed t.acknowledged

-- a row of another home shows
abbrev pub with_shown : Tables → ℕ → ℕ → Tables
with_shown t home number = clocked t t.got (raised t.committed home number) t.acknowledged

-- another board has acknowledged an own row
abbrev pub with_ack : Tables → ℕ → ℕ → Tables
with_ack t board number = clocked t t.got t.committed (raised t.acknowledged board number)
