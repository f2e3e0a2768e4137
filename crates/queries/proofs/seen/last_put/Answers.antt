use Rattle.std.proofs.Common.{◌≡◌, ℕ, ◌+◌, ◌-◌, List, drop, sym, ap, ◌∙◌, arith}
use Rattle.record.specs.declared.row.Row.{Row}
use Rattle.record.specs.Rows.{zero_row}
use Rattle.std.specs.List.{flat_map}
use Rattle.record.specs.Updates.{last_put}
use Rattle.queries.specs.Walks.{updates_if}
use Rattle.queries.proofs.Covered.{covered_joined}
use Rattle.queries.proofs.Puts.{put_found}
use Rattle.queries.proofs.seen.last_put.Goals as goal

pub returns-then-is_some : goal.returns-then-is_some
returns-then-is_some g c =
    let rows : List Row = g.K.LogKeeper.rows c.args.log.now in
    let i : ℕ = c.loop-place.place - 1 in
    let up : c.loop-place.place ≡ i + 1 = omega arith in
    put_found c.args.object (updates_if c.args.clock.now) rows i c.row_at.result zero_row c.row_at.ensures.answer
    (omega (arith, c.count-place.ensures.answer))
    (ap (λ k. last_put c.args.object (flat_map (updates_if c.args.clock.now) (drop k rows))) (sym up) ∙ c.loop-place.invariant)
    c.covered_put-found.result (sym c.is_some.ensures ∙ c.if-is_some.true) c.covered_put-found.ensures
    ∙ ap (last_put c.args.object) (sym (covered_joined c.args.clock.now rows))

pub returns : goal.returns
returns g c =
    let rows : List Row = g.K.LogKeeper.rows c.args.log.now in
    let zero : c.loop-place.place ≡ 0 = omega arith in
    sym
    (ap (last_put c.args.object) (covered_joined c.args.clock.now rows)
    ∙ ap (λ k. last_put c.args.object (flat_map (updates_if c.args.clock.now) (drop k rows))) (sym zero)
    ∙ c.loop-place.invariant)
