-- The effect of a list of updates: its last puts, and the operands of its elements.
use Rattle.std.proofs.Common.{◌≡◌, ℕ, Bool, true, false, List, [], ◌∷◌, ◌++◌, map, ℤ, Some, None, fold, filter, Option, sym, refl, ap, ◌∙◌, arith}
use Rattle.std.proofs.lemmas.Bool.Decides.{nat_tests}
use Rattle.std.proofs.lemmas.List.Elements.{filter-append}
use Rattle.std.proofs.lemmas.List.{map-append}
use Rattle.record.specs.declared.row.Update.{Update}
use Rattle.merging.specs.Values.{concerns, value_after}
use Rattle.merging.proofs.Folds.{folded_append}
use Rattle.record.specs.Updates.{put_by, last_put}
use Rattle.isolation.specs.Machine.{operands_of, Alike}
use Rattle.isolation.proofs.LastWriter.{over}

over_assoc : {W : Type 0} (v x y : Option W) → over (over v x) y ≡ over v (over x y)
over_assoc v x (Some w) = refl
over_assoc v x None = refl

put_over : (o : ℕ) (v : Option ℤ) (u : Update) → put_by o v u ≡ over v (put_by o None u)
put_over o v u = grind (arith, nat_tests)

-- updates go over what there was
pub puts_over : (o : ℕ) (v : Option ℤ) (us : List Update) → fold (put_by o) v us ≡ over v (last_put o us)
puts_over o v [] = refl
puts_over o v (u ∷ us) =
    puts_over o (put_by o v u) us ∙ ap (λ x. over x (last_put o us)) (put_over o v u)
    ∙ over_assoc v (put_by o None u) (last_put o us) ∙ ap (over v) (sym (puts_over o (put_by o None u) us))

pub last_put_append : (o : ℕ) (us ws : List Update) → last_put o (us ++ ws) ≡ over (last_put o us) (last_put o ws)
last_put_append o us ws = folded_append (put_by o) None us ws ∙ puts_over o (last_put o us) ws

operands_append : (o e : ℕ) (us ws : List Update) → operands_of o e (us ++ ws) ≡ operands_of o e us ++ operands_of o e ws
operands_append o e us ws =
    ap (map (λ u. u.operand)) (filter-append (concerns o e) us ws) ∙ map-append (λ u. u.operand) (filter (concerns o e) us) (filter (concerns o e) ws)

-- the value of an element is that of its operands
value_operands : {V : Type 0} (step : V → ℤ → V) (o e : ℕ) (v : V) (us : List Update) → value_after step o e v us ≡ fold step v (operands_of o e us)
value_operands step o e v [] = refl
value_operands {V} step o e v (u ∷ us) = by (λ w. value_operands step o e w us) (concerns o e u) refl
  where
    by : ((w : V) → value_after step o e w us ≡ fold step w (operands_of o e us)) → (t : Bool) → concerns o e u ≡ t
        → value_after step o e v (u ∷ us) ≡ fold step v (operands_of o e (u ∷ us))
    by rest true q = rw q (rest (step v u.operand))
    by rest false q = rw q (rest v)

module _ (regular : ℕ → Bool) where
  pub alike_same : (us : List Update) → Alike regular us us
  alike_same us = record { puts = λ o r. refl; merges = λ o e r. refl }

  -- one update more, on both sides
  pub alike_push : (us ws xs : List Update) (u : Update) → Alike regular us ws → Alike regular (ws ++ (u ∷ [])) xs → Alike regular (us ++ (u ∷ [])) xs
  alike_push us ws xs u A B = record {
    puts = λ o r. last_put_append o us (u ∷ []) ∙ ap (λ v. over v (last_put o (u ∷ []))) (A.puts o r) ∙ sym (last_put_append o ws (u ∷ [])) ∙ B.puts o r;
    merges = λ o e r. operands_append o e us (u ∷ []) ∙ ap (λ v. v ++ operands_of o e (u ∷ [])) (A.merges o e r) ∙ sym (operands_append o e ws (u ∷ [])) ∙ B.merges o e r;
  }

  module _ (us ws : List Update) (A : Alike regular us ws) where
    pub alike_puts : (o : ℕ) → regular o ≡ true → (v : Option ℤ) → fold (put_by o) v us ≡ fold (put_by o) v ws
    alike_puts o r v = puts_over o v us ∙ ap (over v) (A.puts o r) ∙ sym (puts_over o v ws)

    pub alike_value : {V : Type 0} (step : V → ℤ → V) (o e : ℕ) → regular o ≡ false → (v : V) → value_after step o e v us ≡ value_after step o e v ws
    alike_value step o e r v = value_operands step o e v us ∙ ap (fold step v) (A.merges o e r) ∙ sym (value_operands step o e v ws)
