-- The two groups may be built.
use Rattle.std.proofs.Common.{◌≡◌, ℕ, zero, suc, ◌<◌, Ok, refl, arith, lit<, lit≤}
use Rattle.config.specs.Builds.{build_check}
use Rattle.isolation.specs.Groups.{config_of, Built}
use Rattle.examples.specs.Examples.{pair, trio}

pair_fits : (b : ℕ) → b < 2 → build_check (config_of pair b) 1 ≡ Ok tt
pair_fits zero h = refl
pair_fits (suc zero) h = refl
pair_fits (suc (suc b)) h = absurd (omega arith)

pub pair_built : Built pair
pair_built =
    record { fits = pair_fits; containers_64 = refl; serials_32 = λ b h. lit< tt; capacities = λ b h. (lit≤ tt, lit≤ tt) }

trio_fits : (b : ℕ) → b < 3 → build_check (config_of trio b) 1 ≡ Ok tt
trio_fits zero h = refl
trio_fits (suc zero) h = refl
trio_fits (suc (suc zero)) h = refl
trio_fits (suc (suc (suc b))) h = absurd (omega arith)

pub trio_built : Built trio
trio_built =
    record { fits = trio_fits; containers_64 = refl; serials_32 = λ b h. lit< tt; capacities = λ b h. (lit≤ tt, lit≤ tt) }
