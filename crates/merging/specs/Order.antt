-- Steps whose order does not matter.
use Rattle.std.specs.Prelude.{◌≡◌}

-- from every value, stepping by any two ends alike in either order
abbrev pub EitherOrder : {V X : Type 0} → (V → X → V) → Type 0
EitherOrder {V} {X} step = (v : V) (x y : X) → step (step v x) y ≡ step (step v y) x
