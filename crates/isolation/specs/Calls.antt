-- The ten calls of a board, what each does, and what it answers.
use Rattle.std.specs.Prelude.{ℕ, ◌<◌, Bool, List, ℤ, Ok, Err, Option, Result, FitsSigned}
use Rattle.std.specs.Int.{w32}
use Rattle.record.specs.declared.fault.Fault.{Fault}
use Rattle.record.specs.declared.message.Record.{Record}
use Rattle.board.specs.Effects.{State, Effect, leaves}
use Rattle.board.specs.Transactions as transactions
use Rattle.board.specs.Commits as commits
use Rattle.board.specs.Resends as resends
use Rattle.board.specs.Delivers as delivers

-- a transaction is named by its home and serial, as its token bears them; room is the length of the outgoing buffer
pub data Call : Type 0 where
  start : Call
  -- home, serial, object, word
  put : ℕ → ℕ → ℕ → ℕ → Call
  -- the number of a merging kind, and whether it admits the operand; home, serial, object, element, operand
  merge : ℕ → Bool → ℕ → ℕ → ℕ → ℕ → ℤ → Call
  -- home, serial, object
  read : ℕ → ℕ → ℕ → Call
  -- the number of a merging kind; home, serial, object, element
  look : ℕ → ℕ → ℕ → ℕ → ℕ → Call
  -- home, serial, room
  commit : ℕ → ℕ → ℕ → Call
  -- home, serial
  abandon : ℕ → ℕ → Call
  settle : ℕ → ℕ → Call
  -- bytes, room
  deliver : List ℕ → ℕ → Call
  -- serial, room
  resend : ℕ → ℕ → Call

-- what is answered; what a look shows is not kept here, since it depends on the kind
pub data Answer : Type 0 where
  denied : Fault → Answer
  done : Answer
  serial : ℕ → Answer
  word : Option ℕ → Answer
  shown : Answer
  outcome : ℕ × ℕ × ℕ → Answer
  settled : ℕ × ℕ → Answer
  count : ℕ → Answer

-- a call that has returned: its answer, the board after it, the records it wrote
pub record Returned : Type 0 where
  pub answer : Answer
  pub board : State
  pub written : List Record

abbrev answer_of : {A : Type 0} → (A → Answer) → Result A Fault → Answer
answer_of ok (Ok a) = ok a
answer_of ok (Err fault) = denied fault

abbrev returned : {A : Type 0} → (A → Answer) → State → Effect A → Returned
returned ok s e =
    record {
      answer = answer_of ok e.answer;
      board = leaves s e;
      written = e.written;
    }

-- what a call does, by the definitions that the contracts of the board's calls cite
abbrev pub does : State → Call → Returned
does s start = returned serial s (transactions.start s)
does s (put home t object w) = returned (λ _. done) s (transactions.put s home t object w)
does s (merge kind admitted home t object element operand) =
    returned (λ _. done) s (transactions.merge s kind admitted home t object element operand)
does s (read home t object) = returned word s (transactions.read s home t object)
does s (look kind home t object element) = returned (λ _. shown) s (transactions.look {V = Unit {0}} kind tt (λ v _. v) s home t object element)
does s (commit home t room) = returned outcome s (commits.commit s home t room)
does s (abandon home t) = returned (λ _. done) s (transactions.abandon s home t)
does s (settle home t) = returned settled s (transactions.settle s home t)
does s (deliver bytes room) = returned count s (delivers.deliver s bytes room)
does s (resend t room) = returned count s (resends.resend s t room)

-- the arguments are of the types that the calls take: those that reach a record have 16 or 32 bits
abbrev pub Typed : Call → Type 0
Typed start = Unit {0}
Typed (put home t object w) = (object < 65536) × (w < 4294967296)
Typed (merge kind admitted home t object element operand) = (object < 65536) × ((element < 65536) × FitsSigned w32 operand)
Typed (read home t object) = Unit {0}
Typed (look kind home t object element) = Unit {0}
Typed (commit home t room) = Unit {0}
Typed (abandon home t) = Unit {0}
Typed (settle home t) = Unit {0}
Typed (deliver bytes room) = Unit {0}
Typed (resend t room) = Unit {0}
