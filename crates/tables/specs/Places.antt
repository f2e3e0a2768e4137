-- Places for transactions.
use Rattle.std.specs.Prelude.{ℕ, ◌+◌, Bool, true, false, cond, List, [], ◌∷◌, ◌==◌, slice_index_or, slice_set}
use Rattle.tables.specs.declared.place.Place.{Place}
use Rattle.tables.specs.declared.place.Place.TheVariants.{Free, Open, Waiting, Committed, Aborted}

abbrev pub is_free : Place → Bool
is_free Free = true
is_free (Open r) = false
is_free (Waiting r polled agreed) = false
is_free (Committed s k) = false
is_free (Aborted s) = false

-- the place is of the transaction with this serial
abbrev pub has_serial : ℕ → Place → Bool
has_serial serial Free = false
has_serial serial (Open r) = r.serial == serial
has_serial serial (Waiting r polled agreed) = r.serial == serial
has_serial serial (Committed s k) = s == serial
has_serial serial (Aborted s) = s == serial

-- the index of the first element that passes a test, or the length where none does: the library's position_or_len, which adds its
-- ones on the other side, and the proofs of the laws compute with them here
abbrev pub first_at : {X : Type 0} → (X → Bool) → List X → ℕ
first_at p [] = 0
first_at p (x ∷ xs) = cond (p x) 0 (first_at p xs + 1)

-- the place of a serial, free where there is none
abbrev pub place_of : List Place → ℕ → Place
place_of places serial = slice_index_or places (first_at (has_serial serial) places) Free

-- the places, with another in that of a serial
abbrev pub with_place : List Place → ℕ → Place → List Place
with_place places serial p = slice_set places (first_at (has_serial serial) places) p
