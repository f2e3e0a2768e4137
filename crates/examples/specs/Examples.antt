-- The worked examples: what boards answer, step by step, and one record in bytes.
--
-- A line 'on b call ⇒ answer' is a call on board b; a line 'bring k b ⇒ count n' brings record k, counted from 0 as they were written, to board b, which
-- writes n records. The arguments of the calls are: put home serial object word; merge kind admitted home serial object element operand;
-- read home serial object; look kind first step board home serial object element; commit home serial room; settle home serial.
-- An outcome is 1 committed, 2 waiting or 3 aborted, then the row's number, then the count of records written; one that is settled has no count.
use Rattle.std.specs.Prelude.{◌≡◌, ℕ, Bool, true, false, List, [], ◌∷◌, ◌++◌, map, length, take, replicate, ℤ, pos, neg_ℤ, Some, None, Ok, Option, Result}
use Rattle.record.specs.Clocks.{entry_of}
use Rattle.record.specs.Codec.{encoded}
use Rattle.record.specs.Faults.{board_fault, layer_of, number_in, place_in}
use Rattle.record.specs.declared.fault.Denial.TheVariants.{FourUpdates as NoFifth, Early}
use Rattle.record.specs.declared.fault.Fault.{Fault}
use Rattle.record.specs.declared.kind.RecordKind.TheVariants.{Prepare, Vote, Propagate, Ack, Durable}
use Rattle.merging.specs.Counts.{by_one, added}
use Rattle.merging.specs.Marks.{higher}
use Rattle.config.specs.Durable.{is_durable}
use Rattle.config.specs.declared.config.Container.{Container}
use Rattle.board.specs.Effects.{State}
use Rattle.bus.specs.Records.{ack}
use Rattle.board.specs.Transactions.{look}
use Rattle.isolation.specs.Calls.{start, put, merge, read, commit, settle, denied, done, serial, word, outcome, settled, count}
use Rattle.isolation.specs.Groups.{Group, config_of}
use Rattle.examples.specs.Scripts.{Line, on, bring, ◌⇒◌, Plays, Writes, board_after}

-- ## The groups

abbrev container : ℕ → ℕ → Container
container preferred kind = record { preferred = preferred; kind = kind }

-- one board may be lost; first serials are 1, and each log has room for 64 rows
abbrev group_of : ℕ → List Container → Group
group_of boards containers =
    record {
      boards = boards;
      losses = 1;
      listed = length containers;
      containers = take 64 (containers ++ replicate 64 (container 0 0));
      first_serial = λ _. 1;
      capacity = λ _. 64;
    }

-- two boards, each preferred for regular objects: board 0 for those from 0 on, board 1 for those from 256 on; objects from 512 on count,
-- and those from 768 on keep the highest mark
abbrev pub pair : Group
pair = group_of 2 (container 0 0 ∷ container 1 0 ∷ container 0 1 ∷ container 0 2 ∷ [])

-- three boards, each preferred for regular objects: board 0 for those from 0 on, board 1 for those from 256 on, board 2 for those from 512 on
abbrev pub trio : Group
trio = group_of 3 (container 0 0 ∷ container 1 0 ∷ container 2 0 ∷ [])

-- ## Two writers of one object

abbrev pub OneOfTwoWriters : Type 0
OneOfTwoWriters =
    Plays pair
    (on 0 start ⇒ serial 1
    ∷ on 0 start ⇒ serial 2
    ∷ on 0 (put 0 1 0 7) ⇒ done
    ∷ on 0 (put 0 2 0 8) ⇒ done
    ∷ on 0 (commit 0 1 448) ⇒ outcome (1, 1, 1)
    ∷ on 0 (commit 0 2 448) ⇒ outcome (3, 0, 0)
    ∷ [])

-- ## The long fork

-- each object is put to 1 and committed at its home
abbrev forked : List Line
forked =
    on 0 start ⇒ serial 1
    ∷ on 0 (put 0 1 0 1) ⇒ done
    ∷ on 0 (commit 0 1 448) ⇒ outcome (1, 1, 1)
    ∷ on 1 start ⇒ serial 1
    ∷ on 1 (put 1 1 256 1) ⇒ done
    ∷ on 1 (commit 1 1 448) ⇒ outcome (1, 1, 1)
    ∷ []

-- new transactions see what is of their own board alone
abbrev seen_apart : List Line
seen_apart =
    on 0 start ⇒ serial 2
    ∷ on 0 (read 0 2 0) ⇒ word (Some 1)
    ∷ on 0 (read 0 2 256) ⇒ word None
    ∷ on 1 start ⇒ serial 2
    ∷ on 1 (read 1 2 0) ⇒ word None
    ∷ on 1 (read 1 2 256) ⇒ word (Some 1)
    ∷ []

-- every record is brought to its receiver: PROPAGATE, ACK and DURABLE, both ways
abbrev exchanged : List Line
exchanged =
    bring 0 1 ⇒ count 1
    ∷ bring 1 0 ⇒ count 1
    ∷ bring 2 0 ⇒ count 1
    ∷ bring 3 1 ⇒ count 1
    ∷ bring 4 1 ⇒ count 0
    ∷ bring 5 0 ⇒ count 0
    ∷ []

-- new transactions see the same on both boards
abbrev seen_alike : List Line
seen_alike =
    on 0 start ⇒ serial 3
    ∷ on 0 (read 0 3 0) ⇒ word (Some 1)
    ∷ on 0 (read 0 3 256) ⇒ word (Some 1)
    ∷ on 1 start ⇒ serial 3
    ∷ on 1 (read 1 3 0) ⇒ word (Some 1)
    ∷ on 1 (read 1 3 256) ⇒ word (Some 1)
    ∷ []

abbrev long_fork : List Line
long_fork = forked ++ (seen_apart ++ (exchanged ++ seen_alike))

abbrev pub LongFork : Type 0
LongFork =
    Plays pair long_fork
    × Writes pair long_fork
    ((Propagate, 0, 1, 1)
    ∷ (Propagate, 1, 0, 1)
    ∷ (Ack, 1, 0, 1)
    ∷ (Ack, 0, 1, 1)
    ∷ (Durable, 0, 1, 1)
    ∷ (Durable, 1, 0, 1)
    ∷ [])

-- ## Counts and marks

-- what transaction 1 of board 0 does
abbrev one_transaction : List Line → List Line
one_transaction lines = on 0 start ⇒ serial 1 ∷ lines

abbrev minus : ℕ → ℤ
minus n = neg_ℤ (pos n)

-- it merges an operand into element 0 of an object: of one that counts, or of one that keeps the highest mark
abbrev counts : ℤ → Line
counts operand = on 0 (merge 1 (by_one operand) 0 1 512 0 operand) ⇒ done

abbrev marks : ℤ → Line
marks operand = on 0 (merge 2 true 0 1 768 0 operand) ⇒ done

-- what it then sees of that object: kind 1 counts from 0, and kind 2 begins with no mark
abbrev count_after : List Line → Result ℤ Fault
count_after lines = (look 1 (pos 0) added (board_after pair (one_transaction lines) 0) 0 1 512 0).answer

abbrev mark_after : List Line → Result (Option ℤ) Fault
mark_after lines = (look 2 None higher (board_after pair (one_transaction lines) 0) 0 1 768 0).answer

abbrev pub CountDownAndUp : Type 0
CountDownAndUp =
    Plays pair (one_transaction (counts (minus 1) ∷ counts (pos 1) ∷ []))
    × (count_after (counts (minus 1) ∷ []) ≡ Ok (minus 1))
    × (count_after (counts (minus 1) ∷ counts (pos 1) ∷ []) ≡ Ok (pos 0))

abbrev pub MarksInEitherOrder : Type 0
MarksInEitherOrder =
    Plays pair (one_transaction (marks (pos 3) ∷ marks (minus 5) ∷ []))
    × Plays pair (one_transaction (marks (minus 5) ∷ marks (pos 3) ∷ []))
    × (mark_after (marks (pos 3) ∷ marks (minus 5) ∷ []) ≡ Ok (Some (pos 3)))
    × (mark_after (marks (minus 5) ∷ marks (pos 3) ∷ []) ≡ Ok (Some (pos 3)))

-- ## Refusals

-- no fifth update is taken
abbrev full : Fault
full = board_fault NoFifth

-- a record comes before one that it follows
abbrev too_early : Fault
too_early = board_fault Early

abbrev Shows : Fault → ℕ → ℕ → ℕ → Type 0
Shows fault layer number place = (layer_of fault ≡ layer) × (number_in fault ≡ number) × (place_in fault ≡ place)

-- in numbers: layer, number and place
abbrev pub RefusalsInNumbers : Type 0
RefusalsInNumbers = Shows full 2 8 0 × Shows too_early 2 13 0

abbrev pub FourUpdates : Type 0
FourUpdates =
    Plays pair
    (one_transaction
    (on 0 (put 0 1 0 1) ⇒ done
    ∷ on 0 (put 0 1 1 1) ⇒ done
    ∷ on 0 (put 0 1 2 1) ⇒ done
    ∷ on 0 (put 0 1 3 1) ⇒ done
    ∷ on 0 (put 0 1 4 1) ⇒ denied full
    ∷ []))

-- ## Rows are taken in order

-- board 0 commits rows 1 and 2, and the PROPAGATE of row 2 reaches board 1 first
abbrev early : List Line
early =
    on 0 start ⇒ serial 1
    ∷ on 0 (put 0 1 0 7) ⇒ done
    ∷ on 0 (commit 0 1 448) ⇒ outcome (1, 1, 1)
    ∷ on 0 start ⇒ serial 2
    ∷ on 0 (put 0 2 0 8) ⇒ done
    ∷ on 0 (commit 0 2 448) ⇒ outcome (1, 2, 1)
    ∷ bring 1 1 ⇒ denied too_early
    ∷ []

-- then that of row 1
abbrev taken : List Line
taken = early ++ bring 0 1 ⇒ count 1 ∷ []

-- and once more
abbrev again : List Line
again = taken ++ bring 0 1 ⇒ count 1 ∷ []

-- home and number of each row in the log of board 1
abbrev rows_after : List Line → List (ℕ × ℕ)
rows_after script = map (λ r. (r.home, r.number)) (board_after pair script 1).rows

-- how many rows of board 0 has board 1 got
abbrev got_after : List Line → ℕ
got_after script = entry_of (board_after pair script 1).tables.got 0

abbrev pub RowsInOrder : Type 0
RowsInOrder =
    Plays pair again
    × Writes pair again ((Propagate, 0, 1, 1) ∷ (Propagate, 0, 1, 2) ∷ (Ack, 1, 0, 1) ∷ (Ack, 1, 0, 1) ∷ [])
    × (rows_after early ≡ [])
    × (rows_after taken ≡ (0, 1) ∷ [])
    × (rows_after again ≡ (0, 1) ∷ [])
    × (got_after early ≡ 0)
    × (got_after taken ≡ 1)
    × (got_after again ≡ 1)

-- ## A row is durable once its preferred board has it

-- board 0 asks board 2 and commits row 1; boards 1 and 2 take it, and their ACKs are records 4 and 5
abbrev spread : List Line
spread =
    on 0 start ⇒ serial 1
    ∷ on 0 (put 0 1 512 9) ⇒ done
    ∷ on 0 (commit 0 1 448) ⇒ outcome (2, 0, 1)
    ∷ bring 0 2 ⇒ count 1
    ∷ bring 1 0 ⇒ count 2
    ∷ on 0 (settle 0 1) ⇒ settled (1, 1)
    ∷ bring 2 1 ⇒ count 1
    ∷ bring 3 2 ⇒ count 1
    ∷ []

-- the ACK of board 1 reaches board 0, or that of board 2
abbrev ack_of1 : Line
ack_of1 = bring 4 0 ⇒ count 0

abbrev ack_of2 : Line
ack_of2 = bring 5 0 ⇒ count 2

-- whether each row in the log of board 0 is durable
abbrev durable_after : List Line → List Bool
durable_after script =
    let s : State = board_after trio script 0 in
    map (is_durable s.tables.config s.tables.acknowledged) s.rows

abbrev pub PreferredBoardCounts : Type 0
PreferredBoardCounts =
    Plays trio (spread ++ ack_of1 ∷ ack_of2 ∷ [])
    × Writes trio (spread ++ ack_of1 ∷ ack_of2 ∷ [])
    ((Prepare, 0, 2, 0)
    ∷ (Vote, 2, 0, 0)
    ∷ (Propagate, 0, 1, 1)
    ∷ (Propagate, 0, 2, 1)
    ∷ (Ack, 1, 0, 1)
    ∷ (Ack, 2, 0, 1)
    ∷ (Durable, 0, 1, 1)
    ∷ (Durable, 0, 2, 1)
    ∷ [])
    × (durable_after (spread ++ ack_of1 ∷ []) ≡ false ∷ [])
    × (durable_after (spread ++ ack_of1 ∷ ack_of2 ∷ []) ≡ true ∷ [])
    × Plays trio (spread ++ ack_of2 ∷ [])
    × (durable_after (spread ++ ack_of2 ∷ []) ≡ true ∷ [])

-- ## A record in bytes

abbrev pub AckInBytes : Type 0
AckInBytes =
    encoded (ack (config_of pair 1) 5 0)
    ≡ Ok ((0x05 ∷ 0x01 ∷ 0x00 ∷ 0x00 ∷ 0x00 ∷ 0x00 ∷ 0x00 ∷ 0x00 ∷ 0x05 ∷ 0x00 ∷ []) ++ replicate 54 0)

-- ## Where a shortcut would break isolation

-- board 1 has agreed to what board 0 changes, and keeps the object locked until it has the row: its own change meanwhile is aborted,
-- even though no row of its log stands in the way
abbrev pub LockedOnceAgreed : Type 0
LockedOnceAgreed =
    Plays pair
    (on 0 start ⇒ serial 1
    ∷ on 0 (put 0 1 256 7) ⇒ done
    ∷ on 0 (commit 0 1 448) ⇒ outcome (2, 0, 1)
    ∷ bring 0 1 ⇒ count 1
    ∷ on 1 start ⇒ serial 1
    ∷ on 1 (put 1 1 256 8) ⇒ done
    ∷ on 1 (commit 1 1 448) ⇒ outcome (3, 0, 0)
    ∷ bring 1 0 ⇒ count 1
    ∷ on 0 (settle 0 1) ⇒ settled (1, 1)
    ∷ [])

-- board 1 puts 1, and board 0, which has seen that, puts 2; the row of board 0 reaches board 2 first, and is not taken before that of
-- board 1, so that board 2 reads 2 in the end
abbrev pub TakenAfterItsPast : Type 0
TakenAfterItsPast =
    Plays trio
    (on 1 start ⇒ serial 1
    ∷ on 1 (put 1 1 256 1) ⇒ done
    ∷ on 1 (commit 1 1 448) ⇒ outcome (1, 1, 2)
    ∷ bring 0 0 ⇒ count 1
    ∷ bring 2 1 ⇒ count 2
    ∷ bring 3 0 ⇒ count 0
    ∷ on 0 start ⇒ serial 1
    ∷ on 0 (put 0 1 256 2) ⇒ done
    ∷ on 0 (commit 0 1 448) ⇒ outcome (2, 0, 1)
    ∷ bring 5 1 ⇒ count 1
    ∷ bring 6 0 ⇒ count 2
    ∷ bring 8 2 ⇒ denied too_early
    ∷ bring 1 2 ⇒ count 1
    ∷ bring 8 2 ⇒ count 1
    ∷ bring 4 2 ⇒ count 0
    ∷ bring 7 1 ⇒ count 1
    ∷ bring 10 0 ⇒ count 0
    ∷ bring 11 0 ⇒ count 2
    ∷ bring 13 2 ⇒ count 0
    ∷ on 2 start ⇒ serial 1
    ∷ on 2 (read 2 1 256) ⇒ word (Some 2)
    ∷ [])

-- ## All of them

pub record Examples : Type 0 where
  -- of two transactions that put one object of their board, the first commits as row 1 and the second is aborted
  pub one_of_two_writers : OneOfTwoWriters
  -- two boards each see their own commit first, and both once all records are brought
  pub long_fork : LongFork
  -- a count shows -1 after -1 is merged, and 0 after 1 is merged behind it
  pub count_down_and_up : CountDownAndUp
  -- marks 3 and -5, merged in either order, show 3
  pub marks_in_either_order : MarksInEitherOrder
  -- the fourth update of a transaction is accepted, and the fifth denied with 8
  pub four_updates : FourUpdates
  -- the refusals of these examples are the board's, 8 and 13, at no place
  pub refusals_in_numbers : RefusalsInNumbers
  -- row 2 is denied with 13 before row 1 is there; row 1 is taken once and acknowledged each time
  pub rows_in_order : RowsInOrder
  -- a row that writes an object of board 2 is not durable by the ACK of board 1, and is by that of board 2
  pub preferred_board_counts : PreferredBoardCounts
  -- the ACK from board 1 to board 0 for number 5, in its 64 bytes
  pub ack_in_bytes : AckInBytes
  -- a board that has agreed to a change keeps the object locked
  pub locked_once_agreed : LockedOnceAgreed
  -- a row is taken after all that its start clock covers
  pub taken_after_its_past : TakenAfterItsPast
