-- An area of bytes, cut into slots of 64: what stands in the slots, and the rows of those that are used.
use Rattle.std.specs.Prelude.{◌≡◌, ℕ, suc, zero, ◌/◌, ◌%◌, ◌≤◌, Bool, true, ◌&&◌, List, map, length, take, drop, refl, ◌==◌, nat_eq}
use Rattle.std.proofs.Common.{arith, ap}
use Rattle.std.specs.List.{list_all}
use Rattle.std.specs.Option.{option_map_or}
use Rattle.std.specs.Result.{result_ok}
use Rattle.std.specs.Simd.{first_chunks}
use Rattle.std.proofs.lemmas.List.{length-take, length-map}
use Rattle.std.proofs.lemmas.Bool.{and_parts}
use Rattle.record.specs.declared.row.Row.{Row}
use Rattle.record.specs.Codec.{decoded}
use Rattle.record.specs.Rows.{row_of, zero_row}
use Rattle.keeper.specs.Logs.{fitting, fitting_bounds}

-- ## Slots

-- the whole slots of an area
abbrev pub slot_count : List ℕ → ℕ
slot_count area = length area / 64

-- what stands in the slots, one after another
abbrev pub slots_in : List ℕ → List (List ℕ)
slots_in area = first_chunks 64 (slot_count area) area

pub length-first_chunks : (k : ℕ) (area : List ℕ) → length (first_chunks 64 k area) ≡ k
length-first_chunks zero area = refl
length-first_chunks (suc k) area = ap suc (length-first_chunks k (drop 64 area))

-- every byte is 255
abbrev pub all_free : List ℕ → Bool
all_free area = list_all (λ byte. nat_eq byte 255) area

-- ## Rows

-- the row of the record in a slot, and of zeros where no record stands
abbrev pub slot_row : List ℕ → Row
slot_row slot = option_map_or row_of (result_ok (decoded slot)) zero_row

-- the rows of the log
abbrev pub area_rows : ℕ → List ℕ → List Row
area_rows used area = map slot_row (take used (slots_in area))

abbrev pub area_capacity : List ℕ → ℕ
area_capacity area = slot_count area

-- an area that a log may begin on: 1 to 4096 slots and no byte more, and all of it is free
abbrev pub area_ready : List ℕ → Bool
area_ready area = length area % 64 == 0 && (fitting (area_capacity area) && all_free area)

pub area_within : (used : ℕ) (area : List ℕ) → length (area_rows used area) ≤ area_capacity area
area_within used area =
    omega (arith, length-map (take used (slots_in area)) slot_row, length-take used (slots_in area), length-first_chunks (slot_count area) area)

pub area_sized : (area : List ℕ) → area_ready area ≡ true → (1 ≤ area_capacity area) × (area_capacity area ≤ 4096)
area_sized area ready = fitting_bounds (area_capacity area) (and_parts _ _ (and_parts _ _ ready).1).0
