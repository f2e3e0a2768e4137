-- The slots of an area, and the rows in them, once a record is put behind those that are used.
use Rattle.std.proofs.Common.{◌≡◌, ℕ, zero, suc, ◌+◌, ◌*◌, ◌/◌, ◌<◌, ◌≤◌, List, [], ◌∷◌, ◌++◌, map, length, get_or, take, drop, set, None, sym, ap, ap₂, ◌∙◌, arith}
use Rattle.std.specs.Option.{option_map_or}
use Rattle.std.specs.Result.{result_ok}
use Rattle.std.specs.Simd.{first_chunks}
use Rattle.std.proofs.lemmas.List.{length-take, length-map, length-drop, drop_all, append-nil, length-take-le, take-take, take_at, drop-take, drop-drop, drop-append-le, take-append-le, map_push}
use borrow.Rule.Slice.PartMut.{put_mid}
use Rattle.record.proofs.Writes.{length_written}
use Rattle.record.specs.declared.row.Row.{Row}
use Rattle.record.specs.Codec.{Kept}
use Rattle.record.specs.Layout.{bytes_of, written}
use Rattle.record.specs.Rows.{row_of, zero_row}
use Rattle.record.specs.Rules.{breaks}
use Rattle.record.proofs.Back.{decoded_back}
use Rattle.keeper.specs.Logs.{row_record}
use Rattle.keeper.specs.Areas.{slot_count, slots_in, slot_row, area_rows, length-first_chunks}

-- as many rows as are used
pub length_area_rows : (used : ℕ) (area : List ℕ) → 64 * used ≤ length area → length (area_rows used area) ≡ used
length_area_rows used area held =
    omega (arith, length-map (take used (slots_in area)) slot_row, length-take used (slots_in area), length-first_chunks (slot_count area) area)

-- ## A record in a slot

-- the first slot, and those behind it, where a record is put into one of these
take-written : (m : ℕ) (area xs : List ℕ) → 64 + m ≤ length area → take 64 (written area (64 + m) xs) ≡ take 64 area
take-written m area xs inside =
    let front : length (take (64 + m) area) ≡ 64 + m = length-take-le (64 + m) area inside in
    take-append-le 64 (take (64 + m) area) (xs ++ drop (64 + m + length xs) area) (omega arith)
    ∙ take-take 64 (64 + m) area (omega arith)

drop-written : (m : ℕ) (area xs : List ℕ) → 64 + m ≤ length area → drop 64 (written area (64 + m) xs) ≡ written (drop 64 area) m xs
drop-written m area xs inside =
    let front : length (take (64 + m) area) ≡ 64 + m = length-take-le (64 + m) area inside in
    drop-append-le 64 (take (64 + m) area) (xs ++ drop (64 + m + length xs) area) (omega arith)
    ∙ ap (λ t. t ++ (xs ++ drop (64 + m + length xs) area)) (drop-take 64 m area)
    ∙ ap (λ t. take m (drop 64 area) ++ (xs ++ t)) (ap (λ n. drop n area) (omega arith) ∙ sym (drop-drop (m + length xs) 64 area))

-- what is put into a slot stands behind those before it
take-first_chunks : (k i : ℕ) (area xs : List ℕ) → i < k → 64 * i + 64 ≤ length area → length xs ≡ 64
    → take (i + 1) (first_chunks 64 k (written area (64 * i) xs)) ≡ take i (first_chunks 64 k area) ++ xs ∷ []
take-first_chunks zero i area xs less inside size = absurd (omega arith)
take-first_chunks (suc k) zero area xs less inside size =
    ap (λ slot. slot ∷ []) (take_at xs _ 64 size)
take-first_chunks (suc k) (suc i) area xs less inside size =
    let place : 64 * suc i ≡ 64 + 64 * i = omega arith in
    let one : suc i + 1 ≡ suc (i + 1) = omega arith in
    let more : length (drop 64 area) + 64 ≡ length area = omega (arith, length-drop 64 area) in
    ap (λ p. take (suc i + 1) (first_chunks 64 (suc k) (written area p xs))) place
    ∙ ap (λ n. take n (first_chunks 64 (suc k) (written area (64 + 64 * i) xs))) one
    ∙ ap₂ ◌∷◌ (take-written (64 * i) area xs (omega arith))
    (ap (λ rest. take (i + 1) (first_chunks 64 k rest)) (drop-written (64 * i) area xs (omega arith))
    ∙ take-first_chunks k i (drop 64 area) xs (omega arith) (omega arith) size)

-- a record in the slot behind those that are used: its row is the last, and the others are as they were
pub area_rows-written : (area : List ℕ) (used : ℕ) (xs : List ℕ) → used < slot_count area → length xs ≡ 64 → area_rows (used + 1) (written area (64 * used) xs) ≡ area_rows used area ++ slot_row xs ∷ []
area_rows-written area used xs inside size =
    let same : slot_count (written area (64 * used) xs) ≡ slot_count area = ap (λ n. n / 64) (length_written area (64 * used) xs (omega arith)) in
    ap (λ n. map slot_row (take (used + 1) (first_chunks 64 n (written area (64 * used) xs)))) same
    ∙ ap (map slot_row) (take-first_chunks (slot_count area) used area xs inside (omega arith) size)
    ∙ map_push slot_row (take used (slots_in area)) xs

-- a row whose record breaks no rule is read back from its bytes
pub slot_row-bytes_of : (row : Row) → Kept (row_record row) → breaks (row_record row) ≡ None → slot_row (bytes_of (row_record row)) ≡ row
slot_row-bytes_of row kept sound = ap (λ r. option_map_or row_of (result_ok r) zero_row) (decoded_back (row_record row) kept sound)

-- a slot into which the record's other bytes were laid, and then its first
pub slot-laid : (slot bytes rest : List ℕ) (k : ℕ) → length slot ≡ 64 → length bytes ≡ 64 → k ≡ 63 → rest ≡ drop 1 bytes → set (put_mid 1 k slot rest) 0 (get_or bytes 0 0) ≡ bytes
slot-laid [] bytes rest k whole size n is = absurd (omega arith)
slot-laid (x ∷ slot) [] rest k whole size n is = absurd (omega arith)
slot-laid (x ∷ slot) (byte ∷ bytes) rest k whole size n is =
    ap (λ r. byte ∷ r) (ap₂ ◌++◌ is (drop_all k slot (omega arith)) ∙ append-nil bytes)
