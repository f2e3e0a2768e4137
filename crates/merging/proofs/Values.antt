-- The value of one element, by a step that ends alike in either order.
use Rattle.std.proofs.Common.{◌≡◌, ℕ, List, [], ◌∷◌, ◌++◌, ℤ}
use Rattle.std.specs.List.Sorted.{IsPermutation}
use Rattle.record.specs.declared.row.Update.{Update}
use Rattle.merging.specs.Order.{EitherOrder}
use Rattle.merging.specs.Values.{concerns, updated, value_after}
use Rattle.merging.proofs.Folds.{folded_to_front, folded_to_end, folded_order, folded_shuffled, order_where}

module _ {V : Type 0} (step : V → ℤ → V) (order : EitherOrder step) (object element : ℕ) where
  pub updated_order : EitherOrder (updated step object element)
  updated_order = order_where (λ v u. step v u.operand) (λ v u w. order v u.operand w.operand) (concerns object element)

  -- an update in the middle may as well come first, or last
  pub value_to_front : (v : V) (us : List Update) (u : Update) (ws : List Update) → value_after step object element v (us ++ (u ∷ ws)) ≡ value_after step object element v (u ∷ (us ++ ws))
  value_to_front = folded_to_front (updated step object element) updated_order

  pub value_to_end : (v : V) (us : List Update) (u : Update) (ws : List Update) → value_after step object element v (us ++ (u ∷ ws)) ≡ value_after step object element v ((us ++ ws) ++ (u ∷ []))
  value_to_end = folded_to_end (updated step object element) updated_order

  -- two lists of updates may come in either order
  pub value_order : EitherOrder (value_after step object element)
  value_order = folded_order (updated step object element) updated_order

  -- the updates in another order end alike
  pub value_reordered : (v : V) (us ws : List Update) → IsPermutation us ws → value_after step object element v ws ≡ value_after step object element v us
  value_reordered = folded_shuffled (updated step object element) updated_order
