use Rattle.std.proofs.Common.{◌≡◌, ℕ, ◌+◌, ◌*◌, ltb, List, sym, ap, ◌∙◌, rules}
use Rattle.std.specs.List.{position}
use Rattle.std.specs.Option.{option_map}
use Rattle.std.proofs.lemmas.Iterator.{YieldsList-from_slice}
use Rattle.std.proofs.lemmas.Iterator.Search.{position_from_yields_List}
use Rattle.record.specs.Codec.{unless}
use Rattle.record.proofs.Offences.{clock_first}
use Rattle.record.proofs.clock.Clock.check.Goals as goal

pub returns : goal.returns
returns c =
    let es : List ℕ = c.args.self.now.entries in
    let p : c.position-above.result ≡ position (λ e. ltb c.args.top e) es =
    position_from_yields_List (λ e. ltb c.args.top e) _ _ _ c.position-above.ensures.ran (YieldsList-from_slice es c.iter.ensures.rest) (λ x b q h. search rules) in
    let denied : c.map_or.result ≡ unless {X = Unit {0}} (option_map (λ j. 12 + 2 * j) c.position-above.result) tt = search rules in
    denied ∙ ap (λ o. unless o tt) (ap (option_map (λ j. 12 + 2 * j)) p ∙ sym (clock_first c.args.top 12 es))
