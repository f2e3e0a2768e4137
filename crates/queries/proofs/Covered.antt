-- The updates of the covered rows, row by row.
use Rattle.std.proofs.Common.{◌≡◌, Bool, true, false, cond, List, [], ◌∷◌, ◌++◌, ℤ, ℕ, fold, filter, sym, refl, ap, ◌∙◌}
use Rattle.std.specs.List.{flat_map}
use Rattle.record.specs.Rows.{updates_of}
use Rattle.record.specs.Updates.{is_covered, covered_updates}
use Rattle.record.specs.declared.clock.Clock.{Clock}
use Rattle.record.specs.declared.row.Row.{Row}
use Rattle.merging.specs.Values.{updated, value_after}
use Rattle.merging.proofs.Folds.{folded_joined}
use Rattle.queries.specs.Walks.{updates_if}

pub covered_joined : (clock : Clock) (rows : List Row) → covered_updates rows clock ≡ flat_map (updates_if clock) rows
covered_joined clock [] = refl
covered_joined clock (r ∷ rs) = by (is_covered clock r) (covered_joined clock rs)
  where
    by : (b : Bool) → flat_map updates_of (filter (is_covered clock) rs) ≡ flat_map (updates_if clock) rs → flat_map updates_of (cond b (r ∷ filter (is_covered clock) rs) (filter (is_covered clock) rs)) ≡ cond b (updates_of r) [] ++ flat_map (updates_if clock) rs
    by true e = ap (λ v. updates_of r ++ v) e
    by false e = e

-- a value, one row after the other
pub look_by_row : {V : Type 0} (step : V → ℤ → V) (object element : ℕ) (first : V) (clock : Clock) (rows : List Row) → fold (λ v r. value_after step object element v (updates_if clock r)) first rows ≡ value_after step object element first (covered_updates rows clock)
look_by_row step object element first clock rows =
    sym (ap (value_after step object element first) (covered_joined clock rows) ∙ folded_joined (updated step object element) (updates_if clock) first rows)
