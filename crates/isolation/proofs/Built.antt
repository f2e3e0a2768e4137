-- What holds of a group that was built.
use Rattle.std.proofs.Common.{◌≡◌, ℕ, zero, suc, ◌<◌, ◌≤◌, Bool, true, false, not, ◌&&◌, eqb, ltb, leb, List, [], ◌∷◌, length, get_or, take, Ok, refl, arith}
use Rattle.std.proofs.lemmas.Bool.{and_parts, ltb-true, leb-true}
use Rattle.std.proofs.lemmas.List.{get_or-take, length-take-le}
use Rattle.std.specs.List.{list_all}
use Rattle.record.specs.declared.fault.Denial.{Denial}
use Rattle.record.specs.declared.fault.Denial.TheVariants.{Build}
use Rattle.config.specs.Builds.{is_group, is_listing, are_in_group}
use Rattle.config.specs.Objects.{container_of, is_listed}
use Rattle.record.specs.Verdicts.{need}
use Rattle.config.specs.declared.config.Container.{Container}
use Rattle.isolation.specs.Groups.{Group, config_of, Built}
use Rattle.isolation.proofs.Simulation.{preferred_in}

pub needed : (v : Bool) (why : Denial) (w : Unit {0}) → need v why ≡ Ok w → v ≡ true
needed true why w e = refl
needed false why w e = cc

pub every_at : {X : Type 0} (p : X → Bool) (xs : List X) (i : ℕ) (d : X) → list_all p xs ≡ true → i < length xs → p (get_or xs i d) ≡ true
every_at p [] i d e h = absurd (omega arith)
every_at p (x ∷ xs) zero d e h = (and_parts (p x) (list_all p xs) e).0
every_at p (x ∷ xs) (suc i) d e h = every_at p xs i d (and_parts (p x) (list_all p xs) e).1 (omega arith)

module _ (g : Group) (built : Built g) (b : ℕ) (inside : b < g.boards) where
  checks : (is_group (config_of g b) ≡ true) × (is_listing (config_of g b) ≡ true)
  checks =
      let all = needed (is_group (config_of g b) && (is_listing (config_of g b) && not (eqb (g.first_serial b) 0))) Build tt (built.fits b inside) in
      let both = and_parts (is_group (config_of g b)) (is_listing (config_of g b) && not (eqb (g.first_serial b) 0)) all in
      (both.0, (and_parts (is_listing (config_of g b)) (not (eqb (g.first_serial b) 0)) both.1).0)

  -- a group has two to eight boards
  pub boards_few : (2 ≤ g.boards) × (g.boards ≤ 8)
  boards_few =
      let one = and_parts (leb 2 g.boards) _ checks.0 in
      let two = and_parts (leb g.boards 8) _ one.1 in
      (leb-true 2 g.boards one.0, leb-true g.boards 8 two.0)

  -- an object of a listed container is preferred by a board of the group
  pub listed_near : (o : ℕ) → is_listed (config_of g b) o ≡ true → preferred_in g o < 8
  listed_near o e =
      let one = and_parts (leb 1 g.listed) _ checks.1 in
      let two = and_parts (leb g.listed 64) (are_in_group g.boards (take g.listed g.containers)) one.1 in
      let low : container_of o < g.listed = ltb-true (container_of o) g.listed e in
      let most : g.listed ≤ length g.containers = omega (arith, leb-true g.listed 64 two.0, built.containers_64) in
      let none : Container = record { preferred = 0; kind = 0 } in
      let p = every_at (λ c. ltb c.preferred g.boards) (take g.listed g.containers) (container_of o) none two.1 (rw (length-take-le g.listed g.containers most) low) in
      let q : ltb (preferred_in g o) g.boards ≡ true = rw (get_or-take g.listed g.containers (container_of o) none low) at p in
      omega (arith, ltb-true (preferred_in g o) g.boards q, boards_few.1)
