-- The value of one element after updates, for any step.
use Rattle.std.specs.Prelude.{ℕ, Bool, cond, ◌&&◌, List, ℤ, fold, ◌==◌}
use Rattle.record.specs.declared.row.Update.{Update}

-- whether an update is of this element of this object
abbrev pub concerns : ℕ → ℕ → Update → Bool
concerns object element u = u.object == object && u.element == element

-- a value stepped by the operand of an update, if that is of this element
abbrev pub updated : {V : Type 0} → (V → ℤ → V) → ℕ → ℕ → V → Update → V
updated step object element v u = cond (concerns object element u) (step v u.operand) v

-- a value stepped so by each update of a list, in the list's order
abbrev pub value_after : {V : Type 0} → (V → ℤ → V) → ℕ → ℕ → V → List Update → V
value_after step object element v us = fold (updated step object element) v us
