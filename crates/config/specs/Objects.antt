-- Objects, their containers, and what the updates of a transaction touch.
use Rattle.std.specs.Prelude.{ℕ, ◌+◌, ◌/◌, Bool, cond, not, ◌&&◌, ◌||◌, List, [], ◌∷◌, fold, ◌==◌, nat_lt, slice_index_or}
use Rattle.std.specs.List.{list_all, list_any}
use Rattle.record.specs.Clocks.{covered}
use Rattle.record.specs.Rows.{updates_of}
use Rattle.record.specs.declared.row.Row.{Row}
use Rattle.record.specs.declared.row.Update.{Update}
use Rattle.config.specs.BoardSets.{with_board}
use Rattle.config.specs.declared.config.Container.{Container}
use Rattle.config.specs.declared.config.Config.{Config}

-- the container of an object is its number's high byte
abbrev pub container_of : ℕ → ℕ
container_of object = object / 256

abbrev pub is_listed : Config → ℕ → Bool
is_listed c object = nat_lt (container_of object) c.listed

abbrev pub no_container : Container
no_container = record { preferred = 0; kind = 0 }

abbrev pub kind_of : Config → ℕ → ℕ
kind_of c object = (slice_index_or c.containers (container_of object) no_container).kind

abbrev pub preferred_of : Config → ℕ → ℕ
preferred_of c object = (slice_index_or c.containers (container_of object) no_container).preferred

abbrev pub is_regular : Config → ℕ → Bool
is_regular c object = kind_of c object == 0

-- a regular object that is preferred here
abbrev pub is_ours : Config → ℕ → Bool
is_ours c object = is_regular c object && preferred_of c object == c.own

-- some update is of the object
abbrev pub writes : List Update → ℕ → Bool
writes us object = list_any (λ u. u.object == object) us

abbrev pub writes_regular : Config → List Update → Bool
writes_regular c us = list_any (λ u. is_regular c u.object) us

-- each of our objects among those written passes a test
abbrev pub every_ours : Config → (ℕ → Bool) → List Update → Bool
every_ours c p us = list_all (λ u. not (is_ours c u.object) || p u.object) us

-- how many of our objects are written, each counted once
abbrev pub count_ours : Config → List Update → ℕ
count_ours c [] = 0
count_ours c (u ∷ us) = cond (is_ours c u.object && not (writes us u.object)) 1 0 + count_ours c us

-- the set, with the board that is preferred for the object, if it is a regular one of another board
abbrev pub polled_with : Config → ℕ → ℕ → ℕ
polled_with c set object =
    cond (is_regular c object && not (preferred_of c object == c.own)) (with_board set (preferred_of c object)) set

-- the other boards that are preferred for a written regular object
abbrev pub polled_for : Config → List Update → ℕ
polled_for c us = fold (λ set u. polled_with c set u.object) 0 us

-- a row of the log that the start clock does not cover writes one of them
abbrev pub clashes : Config → Row → Row → Bool
clashes c r other =
    not (covered r.start other.home other.number)
    && not (every_ours c (λ object. not (writes (updates_of other) object)) (updates_of r))
