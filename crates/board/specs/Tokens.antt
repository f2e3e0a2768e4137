-- What firmware is given back: a transaction as a token, or an answer with it.
use Rattle.std.specs.Prelude.{ℕ, cond, Some, None, Ok, Err, Option, Result, ◌==◌}
use Rattle.record.specs.declared.fault.Fault.{Fault}
use Rattle.tables.specs.Transactions.{waiting_is}
use Rattle.board.specs.Commits.{Outcome}
use Rattle.board.specs.declared.open.OpenTransaction.{OpenTransaction}
use Rattle.board.specs.declared.waiting.WaitingTransaction.{WaitingTransaction}

-- the token of a transaction that was started
abbrev pub token_from : ℕ → Result ℕ Fault → Result OpenTransaction Fault
token_from home (Ok serial) = Ok (record { id = record { home = home; serial = serial } })
token_from home (Err fault) = Err fault

-- a denied call gives the transaction back
abbrev pub or_back : {T A B : Type 0} → T → (A → B) → Result A Fault → Result B (T × Fault)
or_back t answer (Ok a) = Ok (answer a)
or_back t answer (Err fault) = Err (t, fault)

abbrev pub abandon_answer : OpenTransaction → Result (Unit {0}) Fault → Result (Unit {0}) (OpenTransaction × Fault)
abandon_answer t answer = or_back t (λ _. tt) answer

-- a commit that is not decided leaves a waiting transaction
abbrev pub commit_answer : OpenTransaction → Result Outcome Fault → Result (Outcome × Option WaitingTransaction) (OpenTransaction × Fault)
commit_answer t answer = or_back t (λ o. (o, cond (o.0 == waiting_is) (Some (record { id = t.id })) None)) answer

-- a settle that is not decided gives the transaction back
abbrev pub settle_answer : WaitingTransaction → Result (ℕ × ℕ) Fault → Result ((ℕ × ℕ) × Option WaitingTransaction) (WaitingTransaction × Fault)
settle_answer t answer = or_back t (λ o. (o, cond (o.0 == waiting_is) (Some t) None)) answer
