-- Deliver: what a board does with a record that is brought to it.
use Rattle.std.specs.Prelude.{ℕ, ◌+◌, Bool, true, cond, not, ◌&&◌, List, [], ◌∷◌, ◌++◌, length, is_some, Some, None, Ok, Err, Option, Result, ◌==◌}
use Rattle.record.specs.declared.fault.Denial.TheVariants.{Early, NotHere}
use Rattle.record.specs.declared.fault.Fault.{Fault}
use Rattle.record.specs.declared.kind.RecordKind.{RecordKind}
use Rattle.record.specs.declared.kind.RecordKind.TheVariants.{Prepare, Vote, Abort, Propagate, Ack, Durable, Row as RowKind}
use Rattle.record.specs.declared.message.Record.{Record}
use Rattle.record.specs.declared.row.Row.{Row}
use Rattle.record.specs.Clocks.{entry_of, covered, reached}
use Rattle.record.specs.Faults.{board_fault}
use Rattle.record.specs.Rows.{row_of}
use Rattle.keeper.specs.Logs.{admitted}
use Rattle.config.specs.BoardSets.{is_in, with_board}
use Rattle.bus.specs.Received.{received}
use Rattle.tables.specs.Changes.{all_locked, lockable, locked, released, placed, numbered, with_own, with_got, with_shown, with_ack}
use Rattle.config.specs.Durable.{is_durable}
use Rattle.tables.specs.Places.{place_of}
use Rattle.config.specs.declared.config.Config.{Config}
use Rattle.tables.specs.declared.place.Place.{Place}
use Rattle.tables.specs.declared.place.Place.TheVariants.{Free, Open, Waiting, Committed, Aborted}
use Rattle.tables.specs.declared.tables.Tables.{Tables}
use Rattle.board.specs.Commits.{all_clear, may_append, propagates, buffer_fits}
use Rattle.board.specs.Effects.{State, Effect, refused, changed, or_refused}
use Rattle.queries.specs.Logs.{find_row, by_serial, by_number}
use Rattle.bus.specs.Records.{vote, abort, ack, durable, to_others}
use Rattle.board.specs.Resends.{sent}
use Rattle.record.specs.Verdicts.{and_then, need}

-- ## PREPARE

abbrev pub on_prepare : State → Row → Effect ℕ
on_prepare s r =
    let c : Config = s.tables.config in
    cond (all_locked s.tables r)
    (sent s (vote c r.home 1 r.serial ∷ []))
    (cond (all_clear s r)
    (or_refused s (lockable s.tables r)
    (λ _. record {
      answer = Ok 1;
      tables = locked s.tables r;
      rows = s.rows;
      written = vote c r.home 1 r.serial ∷ [];
    }))
    (sent s (vote c r.home 0 r.serial ∷ [])))

-- ## VOTE

-- a no aborts: own locks are freed, and the boards that said yes are told
abbrev pub on_no : State → Row → ℕ → Effect ℕ
on_no s r agreed =
    let c : Config = s.tables.config in
    let told : List Record = to_others c (is_in agreed) (abort c r.serial) in
    record {
      answer = Ok (length told);
      tables = released (placed s.tables r.serial (Aborted r.serial)) c.own r.serial;
      rows = s.rows;
      written = told;
    }

-- the last yes commits
abbrev pub on_last_yes : State → Row → Effect ℕ
on_last_yes s r =
    let row : Row = numbered s.tables r in
    let told : List Record = propagates s.tables.config row in
    or_refused s (may_append s row)
    (λ _. record {
      answer = Ok (length told);
      tables =
          released (placed (with_own s.tables row.number) r.serial (Committed r.serial row.number)) s.tables.config.own r.serial;
      rows = s.rows ++ row ∷ [];
      written = told;
    })

abbrev pub on_yes : State → Row → ℕ → ℕ → Effect ℕ
on_yes s r polled agreed =
    cond (agreed == polled) (on_last_yes s r)
    (record {
      answer = Ok 0;
      tables = placed s.tables r.serial (Waiting r polled agreed);
      rows = s.rows;
      written = [];
    })

-- a vote on a waiting transaction; only a polled board has one
abbrev pub on_waiting : State → Row → ℕ → ℕ → ℕ → Bool → Effect ℕ
on_waiting s r polled agreed sender is_yes =
    cond (is_in polled sender) (cond is_yes (on_yes s r polled (with_board agreed sender)) (on_no s r agreed)) (sent s [])

-- a yes to a transaction that neither waits nor was committed is answered by ABORT
abbrev pub on_late_vote : State → ℕ → ℕ → Bool → Effect ℕ
on_late_vote s sender serial is_yes =
    let c : Config = s.tables.config in
    cond (is_yes && not (is_some (find_row (by_serial c.own serial) s.rows))) (sent s (abort c serial sender ∷ [])) (sent s [])

abbrev on_vote_in : State → ℕ → ℕ → Bool → Place → Effect ℕ
on_vote_in s sender serial is_yes Free = on_late_vote s sender serial is_yes
on_vote_in s sender serial is_yes (Open r) = on_late_vote s sender serial is_yes
on_vote_in s sender serial is_yes (Waiting r polled agreed) = on_waiting s r polled agreed sender is_yes
on_vote_in s sender serial is_yes (Committed own number) = on_late_vote s sender serial is_yes
on_vote_in s sender serial is_yes (Aborted own) = on_late_vote s sender serial is_yes

abbrev pub on_vote : State → ℕ → ℕ → Bool → Effect ℕ
on_vote s sender serial is_yes = on_vote_in s sender serial is_yes (place_of s.tables.places serial)

-- ## ABORT

abbrev pub on_abort : State → ℕ → ℕ → Effect ℕ
on_abort s sender serial = changed s 0 (released s.tables sender serial)

-- ## PROPAGATE

abbrev pub is_next : ℕ → ℕ → Bool
is_next number entry = number == entry + 1

-- a row is taken in the order of its home, and after all that its start clock covers
abbrev pub is_due : Tables → Row → Bool
is_due t r = is_next r.number (entry_of t.got r.home) && reached t.got r.start

abbrev pub may_take : State → Row → Result (Unit {0}) Fault
may_take s r =
    and_then (need (is_due s.tables r) Early) (λ _. admitted r (length s.rows) s.capacity)

abbrev pub on_propagate : State → Row → Effect ℕ
on_propagate s r =
    let answer : List Record = ack s.tables.config r.number r.home ∷ [] in
    cond (covered s.tables.got r.home r.number) (sent s answer)
    (or_refused s (may_take s r)
    (λ _. record {
      answer = Ok 1;
      tables = with_got s.tables r.home r.number;
      rows = s.rows ++ r ∷ [];
      written = answer;
    }))

-- ## ACK

-- DURABLE to the sender where the row was durable before, to all others where it became so by this
abbrev pub told : Config → Bool → Bool → ℕ → Row → List Record
told c was is sender r =
    cond was (durable c r.number sender ∷ []) (cond is (to_others c (λ _. true) (durable c r.number)) [])

-- what an ACK makes known of a row, from the tables before it to those after
abbrev pub news : Tables → Tables → ℕ → Option Row → List Record
news before after sender None = []
news before after sender (Some r) =
    told before.config (is_durable before.config before.acknowledged r) (is_durable before.config after.acknowledged r) sender r

abbrev pub on_ack : State → ℕ → ℕ → Effect ℕ
on_ack s sender number =
    let c : Config = s.tables.config in
    let after : Tables = with_ack s.tables sender number in
    let told : List Record = news s.tables after sender (find_row (by_number c.own number) s.rows) in
    cond (covered s.tables.committed c.own number)
    (record { answer = Ok (length told); tables = after; rows = s.rows; written = told })
    (refused s (board_fault NotHere))

-- ## DURABLE

-- a row shows in the order of its home, once it is here, and after all that its start clock covers
abbrev pub is_showable : Tables → ℕ → ℕ → Row → Bool
is_showable t sender number r =
    is_next number (entry_of t.committed sender) && (covered t.got sender number && reached t.committed r.start)

abbrev may_show : Tables → ℕ → ℕ → Option Row → Result Row Fault
may_show t sender number None = Err (board_fault Early)
may_show t sender number (Some r) =
    cond (is_showable t sender number r) (Ok r) (Err (board_fault Early))

-- the row that a DURABLE is for
abbrev pub shown : State → ℕ → ℕ → Result Row Fault
shown s sender number = may_show s.tables sender number (find_row (by_number sender number) s.rows)

abbrev pub on_durable : State → ℕ → ℕ → Effect ℕ
on_durable s sender number =
    cond (covered s.tables.committed sender number) (sent s [])
    (or_refused s (shown s sender number)
    (λ r. changed s 0 (released (with_shown s.tables sender number) sender r.serial)))

-- ## All kinds

abbrev acted_on : State → Record → RecordKind → Effect ℕ
acted_on s m Prepare = on_prepare s (row_of m)
acted_on s m Vote = on_vote s m.sender m.serial (m.detail == 1)
acted_on s m Abort = on_abort s m.sender m.serial
acted_on s m Propagate = on_propagate s (row_of m)
acted_on s m Ack = on_ack s m.sender m.number
acted_on s m Durable = on_durable s m.sender m.number
-- none comes here: the group's rules deny it
acted_on s m RowKind = sent s []

abbrev pub acted : State → Record → Effect ℕ
acted s m = acted_on s m m.kind

abbrev pub deliver : State → List ℕ → ℕ → Effect ℕ
deliver s bytes room =
    or_refused s (and_then (buffer_fits room) (λ _. received s.tables.config bytes)) (acted s)
