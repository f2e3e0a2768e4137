-- Locks: an object, and its owner's home and serial.
use Rattle.std.specs.Prelude.{ℕ, Bool, false, cond, not, ◌&&◌, List, [], ◌∷◌, Option, Some, None, map, fold, ◌==◌}
use Rattle.std.specs.List.{list_all, list_any, count_by}
use Rattle.std.specs.Option.{is_none}
use Rattle.record.specs.declared.row.Update.{Update}
use Rattle.config.specs.Objects.{is_ours}
use Rattle.tables.specs.declared.lock.Lock.{Lock}
use Rattle.config.specs.declared.config.Config.{Config}

-- a lock for an owner
abbrev pub lock_for : ℕ → ℕ → ℕ → Lock
lock_for object home serial = record { object = object; owner = record { home = home; serial = serial } }

abbrev pub holds : ℕ → Option Lock → Bool
holds object None = false
holds object (Some l) = l.object == object

abbrev pub is_owned : ℕ → ℕ → Option Lock → Bool
is_owned home serial None = false
is_owned home serial (Some l) = l.owner.home == home && l.owner.serial == serial

-- no place holds the object
abbrev pub is_unlocked : List (Option Lock) → ℕ → Bool
is_unlocked locks object = list_all (λ l. not (holds object l)) locks

-- a place holds the object for this owner
abbrev pub is_locked_by : List (Option Lock) → ℕ → ℕ → ℕ → Bool
is_locked_by locks home serial object = list_any (λ l. holds object l && is_owned home serial l) locks

-- how many places are free
abbrev pub free_locks : List (Option Lock) → ℕ
free_locks locks = count_by is_none locks

-- the first free place takes the lock
abbrev pub with_lock : List (Option Lock) → ℕ → ℕ → ℕ → List (Option Lock)
with_lock [] object home serial = []
with_lock (None ∷ ls) object home serial = Some (lock_for object home serial) ∷ ls
with_lock (Some l ∷ ls) object home serial = Some l ∷ with_lock ls object home serial

-- each of our objects among those written is locked, unless it is already
abbrev pub with_locks : Config → List (Option Lock) → ℕ → ℕ → List Update → List (Option Lock)
with_locks c locks home serial us =
    fold (λ ls u. cond (is_ours c u.object && is_unlocked ls u.object) (with_lock ls u.object home serial) ls) locks us

-- the owner's locks are freed
abbrev pub without_owner : ℕ → ℕ → List (Option Lock) → List (Option Lock)
without_owner home serial locks = map (λ l. cond (is_owned home serial l) None l) locks
