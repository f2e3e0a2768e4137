use Rattle.std.proofs.Common.{◌≡◌, rules, ap, eqb, reverse, ◌∙◌}
use Rattle.std.specs.List.{find}
use Rattle.std.specs.Option.{option_map}
use Rattle.std.proofs.lemmas.Iterator.Search.{find_from_yields_List}
use Rattle.std.proofs.lemmas.Iterator.Adapters.{YieldsList-from_rev_slice}
use Rattle.queries.proofs.Puts.{last_found}
use Rattle.queries.proofs.seen.last_update.Goals as goal

pub returns : goal.returns
returns c =
    let e : option_map (λ u. u.now) c.find.result ≡ find (λ u. eqb u.object c.args.object) (reverse c.args.updates.now) =
    find_from_yields_List (λ u. eqb u.object c.args.object) _ _ c.find.result c.find.ensures.ran (YieldsList-from_rev_slice c.args.updates.now cc) (λ x b q k. search rules) in
    let m : c.map.result ≡ option_map (λ u. u.operand) (option_map (λ u. u.now) c.find.result) = search rules in
    m ∙ ap (option_map (λ u. u.operand)) e ∙ last_found c.args.object c.args.updates.now
