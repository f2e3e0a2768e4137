use Rattle.std.proofs.Common.{◌∙◌, eqb, rules}
use Rattle.std.proofs.lemmas.Iterator.{YieldsList-from_slice}
use Rattle.std.proofs.lemmas.Iterator.Search.{find_from_yields_List}
use Rattle.record.specs.Kinds.{code_of, kinds}
use Rattle.record.proofs.kind.KindRules.of.Goals as goal

pub returns : goal.returns
returns c =
    c.copied.ensures ∙ find_from_yields_List (λ k. eqb (code_of k.kind) c.args.code) _ _ _ c.find.ensures.ran
    (YieldsList-from_slice kinds c.iter.ensures.rest) (λ x b q h. search rules)
