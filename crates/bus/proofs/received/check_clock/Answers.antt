use Rattle.std.proofs.Common.{◌≡◌, ℕ, ◌+◌, ◌*◌, ltb, List, drop, sym, ap, ◌∙◌, rules}
use Rattle.std.specs.List.{position}
use Rattle.std.specs.Option.{option_map}
use Rattle.std.proofs.lemmas.Iterator.{YieldsList-from_slice}
use Rattle.std.proofs.lemmas.Iterator.Adapters.{YieldsList-from_skip}
use Rattle.std.proofs.lemmas.Iterator.Search.{position_from_yields_List}
use Rattle.record.specs.Codec.{unless}
use Rattle.record.proofs.Offences.{clock_first}
use Rattle.bus.proofs.received.check_clock.Goals as goal

pub returns : goal.returns
returns c =
    let boards : ℕ = c.args.config.now.boards in
    let entries : List ℕ = c.args.clock.now.entries in
    let p : c.position-counted.result ≡ position (λ e. ltb 0 e) (drop boards entries) =
    position_from_yields_List (λ e. ltb 0 e) _ _ _ c.position-counted.ensures.ran (YieldsList-from_skip boards (YieldsList-from_slice entries cc) cc) (λ x b q h. search rules) in
    let denied : c.map_or.result ≡ unless {X = Unit {0}} (option_map (λ j. 12 + 2 * boards + 2 * j) c.position-counted.result) tt = search rules in
    denied ∙ ap (λ o. unless o tt) (ap (option_map (λ j. 12 + 2 * boards + 2 * j)) p ∙ sym (clock_first 0 (12 + 2 * boards) (drop boards entries)))
