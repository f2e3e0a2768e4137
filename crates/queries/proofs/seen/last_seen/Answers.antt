use Rattle.std.proofs.Common.{◌≡◌, rules, sym, ap, ◌∙◌}
use Rattle.std.specs.Option.{option_or}
use Rattle.record.specs.Rows.{updates_of}
use Rattle.record.specs.Updates.{last_put, covered_updates}
use Rattle.queries.proofs.Puts.{put_append}
use Rattle.queries.proofs.seen.last_seen.Goals as goal

pub returns : goal.returns
returns g c =
    let own : c.last_update.result ≡ last_put c.args.object (updates_of c.args.row.now) = c.last_update.ensures ∙ ap (last_put c.args.object) c.updates.ensures in
    let e : c.or_else.result ≡ option_or c.last_update.result (last_put c.args.object (covered_updates (g.K.LogKeeper.rows c.args.log.now) c.args.row.now.start)) = search rules in
    e ∙ ap (λ o. option_or o (last_put c.args.object (covered_updates (g.K.LogKeeper.rows c.args.log.now) c.args.row.now.start))) own
    ∙ sym (put_append c.args.object (covered_updates (g.K.LogKeeper.rows c.args.log.now) c.args.row.now.start) (updates_of c.args.row.now))
