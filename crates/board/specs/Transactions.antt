-- The calls on an open transaction, and settle.
use Rattle.std.specs.Prelude.{ℕ, Bool, ℤ, Option}
use Rattle.merging.specs.Values.{value_after}
use Rattle.queries.specs.Walks.{visible, word_of}
use Rattle.tables.specs.Transactions as tables
use Rattle.board.specs.Effects.{State, Effect, answered, or_refused, on_tables}
use Rattle.record.specs.Updates.{last_put}

abbrev pub start : State → Effect ℕ
start s = on_tables s (tables.start s.tables)

abbrev pub put : State → ℕ → ℕ → ℕ → ℕ → Effect (Unit {0})
put s home serial object word = on_tables s (tables.put s.tables home serial object word)

-- kind is the number of the merging kind, and admitted whether it admits the operand
abbrev pub merge : State → ℕ → Bool → ℕ → ℕ → ℕ → ℕ → ℤ → Effect (Unit {0})
merge s kind admitted home serial object element operand =
    on_tables s (tables.merge s.tables kind admitted home serial object element operand)

abbrev pub abandon : State → ℕ → ℕ → Effect (Unit {0})
abandon s home serial = on_tables s (tables.abandon s.tables home serial)

abbrev pub settle : State → ℕ → ℕ → Effect (ℕ × ℕ)
settle s home serial = on_tables s (tables.settle s.tables home serial)

-- ## Read and look

abbrev pub read : State → ℕ → ℕ → ℕ → Effect (Option ℕ)
read s home serial object =
    or_refused s (tables.readable s.tables home serial object 0) (λ r. answered s (word_of (last_put object (visible s.rows r))))

abbrev pub look : {V : Type 0} → ℕ → V → (V → ℤ → V) → State → ℕ → ℕ → ℕ → ℕ → Effect V
look kind first step s home serial object element =
    or_refused s (tables.readable s.tables home serial object kind) (λ r. answered s (value_after step object element first (visible s.rows r)))
