-- How a record lies in its 64 bytes: which field stands where, taken apart and put together.
use Rattle.std.specs.Prelude.{ℕ, ◌+◌, ◌*◌, List, [], ◌∷◌, ◌++◌, map, length, take, drop, slice_index, slice_index_or}
use Rattle.std.specs.List.{range_with_len, flat_map}
use Rattle.record.specs.Numbers.{u16_at, u32_at, i32_at, u16_bytes, u32_bytes, i32_bytes}
use Rattle.record.specs.Kinds.{code_of}
use Rattle.record.specs.Rows.{no_update}
use Rattle.record.specs.declared.kind.RecordKind.{RecordKind}
use Rattle.record.specs.declared.clock.Clock.{Clock}
use Rattle.record.specs.declared.row.Update.{Update}
use Rattle.record.specs.declared.message.Record.{Record}

-- ## Taken apart

-- the clock whose eight entries stand from place i on
abbrev pub clock_at : List ℕ → ℕ → Clock
clock_at bs i = record { entries = map (λ j. u16_at bs (i + 2 * j)) (range_with_len 0 8) }

-- an update: object, element, operand
abbrev pub update_at : List ℕ → ℕ → Update
update_at bs i = record { object = u16_at bs i; element = u16_at bs (i + 2); operand = i32_at bs (i + 4) }

abbrev pub updates_at : List ℕ → ℕ → List Update
updates_at bs i = map (λ j. update_at bs (i + 8 * j)) (range_with_len 0 4)

-- the record whose fields stand in 64 bytes; byte 0 is its kind, and bytes 10, 11 and 60 to 63 hold nothing of it
abbrev pub record_at : RecordKind → List ℕ → Record
record_at kind bs =
    record {
      kind = kind;
      sender = slice_index bs 1;
      receiver = slice_index bs 2;
      detail = slice_index bs 3;
      serial = u32_at bs 4;
      number = u16_at bs 8;
      start = clock_at bs 12;
      updates = updates_at bs 28;
    }

-- ## Put together

abbrev pub clock_bytes : Clock → List ℕ
clock_bytes c = flat_map u16_bytes (map (λ j. slice_index c.entries j) (range_with_len 0 8))

abbrev pub update_bytes : Update → List ℕ
update_bytes u = u16_bytes u.object ++ (u16_bytes u.element ++ i32_bytes u.operand)

abbrev pub updates_bytes : List Update → List ℕ
updates_bytes us = flat_map update_bytes (map (λ i. slice_index_or us i no_update) (range_with_len 0 4))

abbrev pub bytes_of : Record → List ℕ
bytes_of m =
    (code_of m.kind ∷ m.sender ∷ m.receiver ∷ m.detail ∷ [])
    ++ (u32_bytes m.serial
    ++ (u16_bytes m.number
    ++ ((0 ∷ 0 ∷ [])
    ++ (clock_bytes m.start
    ++ (updates_bytes m.updates
    ++ (0 ∷ 0 ∷ 0 ∷ 0 ∷ []))))))

-- the buffer `out` once bs is put at a place, and nothing else is changed
abbrev pub written : List ℕ → ℕ → List ℕ → List ℕ
written out place bs = take place out ++ (bs ++ drop (place + length bs) out)
