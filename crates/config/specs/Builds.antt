-- What a board may be built with.
use Rattle.std.specs.Prelude.{ℕ, Bool, not, ◌&&◌, List, take, Result, ◌==◌, nat_le, nat_lt}
use Rattle.std.specs.List.{list_all}
use Rattle.record.specs.Verdicts.{need}
use Rattle.record.specs.declared.fault.Denial.TheVariants.{Build}
use Rattle.record.specs.declared.fault.Fault.{Fault}
use Rattle.config.specs.declared.config.Config.{Config}
use Rattle.config.specs.declared.config.Container.{Container}

-- a group has two to eight boards, this one among them, and loses at least one and never all
abbrev pub is_group : Config → Bool
is_group c =
    nat_le 2 c.boards && (nat_le c.boards 8 && (nat_le 1 c.losses && (nat_lt c.losses c.boards && nat_lt c.own c.boards)))

-- the preferred board of each container is one of the group
abbrev pub are_in_group : ℕ → List Container → Bool
are_in_group boards containers = list_all (λ container. nat_lt container.preferred boards) containers

-- it lists 1 to 64 containers, each with a preferred board of the group
abbrev pub is_listing : Config → Bool
is_listing c = nat_le 1 c.listed && (nat_le c.listed 64 && are_in_group c.boards (take c.listed c.containers))

-- no transaction has serial 0
abbrev pub build_check : Config → ℕ → Result (Unit {0}) Fault
build_check c first = need (is_group c && (is_listing c && not (first == 0))) Build
