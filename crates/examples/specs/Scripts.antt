-- Scripts: steps on a freshly built group of boards, each beside its answer, and what comes of them.
use Rattle.std.specs.Prelude.{◌≡◌, ℕ, List, [], ◌∷◌, map, reverse, fold, slice_index_or}
use Rattle.std.specs.List.{flat_map}
use Rattle.record.specs.Layout.{bytes_of}
use Rattle.record.specs.declared.kind.RecordKind.{RecordKind}
use Rattle.record.specs.declared.message.Record.{Record}
use Rattle.board.specs.Effects.{State}
use Rattle.isolation.specs.Calls.{Call, deliver, Answer, Returned, does}
use Rattle.isolation.specs.Events.{Event}
use Rattle.isolation.specs.Groups.{Group, Built, Run, fresh_board, with_board}

pub data Step : Type 0 where
  -- board, call
  on : ℕ → Call → Step
  -- a record is brought to a board: which record, counted from 0 in the order in which they were written, and the board
  bring : ℕ → ℕ → Step

-- a step, and what is answered to it
infix 70 ◌⇒◌
pub data Line : Type 0 where
  ◌⇒◌ : Step → Answer → Line

-- what has happened, the newest first, and the boards then
pub record Scene : Type 0 where
  pub events : List Event
  pub boards : ℕ → State

-- ## What comes of a script

-- every record written so far, in the order in which they were written
abbrev pub records_in : Scene → List Record
records_in s = flat_map (λ e. e.written) (reverse s.events)

abbrev board_of : Step → ℕ
board_of (on b c) = b
board_of (bring k b) = b

-- deliver gets a copy of the bytes of the record that is brought, and an outgoing buffer of 448 bytes
abbrev call_of : List Record → Step → Call
call_of records (on b c) = c
call_of records (bring k b) = deliver (slice_index_or (map bytes_of records) k []) 448

-- a call on a board
abbrev called : Scene → ℕ → Call → Scene
called s b c =
    let r : Returned = does (s.boards b) c in
    record {
      events = record { board = b; call = c; answer = r.answer; written = r.written } ∷ s.events;
      boards = with_board s.boards b r.board;
    }

abbrev pub played : Scene → Line → Scene
played s (step ⇒ answer) = called s (board_of step) (call_of (records_in s) step)

-- nothing has happened yet
abbrev pub opening : Group → Scene
opening g = record { events = []; boards = fresh_board g }

-- what has happened once a script is played
abbrev pub after : Group → List Line → Scene
after g script = fold played (opening g) script

-- ## What is said of it

-- the answers that the boards give, in the order of the steps
abbrev pub given : Group → List Line → List Answer
given g script = map (λ e. e.answer) (reverse (after g script).events)

-- the answers that stand beside the steps
abbrev pub told : List Line → List Answer
told script = map answer_in script
  where
    answer_in : Line → Answer
    answer_in (step ⇒ answer) = answer

-- the group may be built, the steps are a run of it, and each is answered as stands beside it
pub record Plays (g : Group) (script : List Line) : Type 0 where
  pub built : Built g
  pub run : Run g (after g script).events (after g script).boards
  pub answered : given g script ≡ told script

-- kind, sender, receiver, number
abbrev pub Summary : Type 0
Summary = RecordKind × ℕ × ℕ × ℕ

-- the records that are written in all, in the order in which they are written
abbrev pub Writes : Group → List Line → List Summary → Type 0
Writes g script summaries =
    map (λ m. (m.kind, m.sender, m.receiver, m.number)) (records_in (after g script)) ≡ summaries

-- a board once a script is played
abbrev pub board_after : Group → List Line → ℕ → State
board_after g script b = (after g script).boards b
