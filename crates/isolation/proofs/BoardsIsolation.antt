-- The isolation law: parallel snapshot isolation, over every run of every group that was built.
use Rattle.std.proofs.Common.{◌≡◌, ℕ, ◌<◌, ◌≤◌, true, false, eqb, List, ℤ, Ok, Err, Option, Result, sym, refl, ap, ◌∙◌, arith}
use Rattle.std.proofs.lemmas.Bool.Decides.{nat_tests}
use Rattle.record.specs.declared.fault.Denial.TheVariants.{Unlisted, KindDiffers}
use Rattle.record.specs.declared.fault.Fault.{Fault}
use Rattle.record.specs.declared.row.Row.{Row}
use Rattle.record.specs.Updates.{last_put}
use Rattle.merging.specs.Order.{EitherOrder}
use Rattle.merging.specs.Values.{value_after}
use Rattle.config.specs.Objects.{is_listed, kind_of}
use Rattle.tables.specs.Places.{place_of}
use Rattle.record.specs.Verdicts.{and_then, need}
use Rattle.tables.specs.Transactions.{open_row, kind_fits, readable}
use Rattle.tables.specs.declared.place.Place.TheVariants.{Open}
use Rattle.board.specs.Effects.{State as Board}
use Rattle.board.specs.Transactions.{read, look}
use Rattle.queries.specs.Walks.{word_of}
use Rattle.isolation.specs.Books.{transaction}
use Rattle.isolation.specs.Events.{Event, seen_all}
use Rattle.isolation.specs.Groups.{Group, Built, config_of}
use Rattle.isolation.specs.Isolation.{regular_in, Lawful, Isolated}
use Rattle.isolation.specs.MachineLaw as law
use Rattle.isolation.specs.MachineLaw.{found}
use Rattle.isolation.specs.Machine.{opened}
use Rattle.isolation.specs.Values.{visible}
use Rattle.isolation.proofs.Built.{needed}
use Rattle.isolation.proofs.MachineIsolation.{machine_isolated}
use Rattle.isolation.proofs.Opening.{and_then_holds, open_place}
use Rattle.isolation.proofs.Simulated.{later, simulated}
use Rattle.isolation.proofs.Simulation.{preferred_in, said, Placed, Sim}

-- ## Reads and looks

-- who may read an object of a kind is open, and the object is of that kind
record Reads (g : Group) (b : ℕ) (x : Board) (t object kind : ℕ) (r : Row) : Type 0 where
  open_at : place_of x.tables.places t ≡ Open r
  kind_is : eqb (kind_of (config_of g b) object) kind ≡ true

reads_by : (g : Group) (b : ℕ) (x : Board) (home t object kind : ℕ) (r : Row) → x.tables.config ≡ config_of g b → readable x.tables home t object kind ≡ Ok r → Reads g b x t object kind r
reads_by g b x home t object kind r config e =
    let (r₀, a, k) = and_then_holds (open_row x.tables home t) (λ r. and_then (kind_fits x.tables object kind) (λ _. Ok r)) r e in
    let (u, l, same) = and_then_holds (kind_fits x.tables object kind) (λ _. Ok r₀) r k in
    let is : r₀ ≡ r = cc in
    let (v, h, n) = and_then_holds (need (is_listed x.tables.config object) Unlisted) (λ _. need (eqb (kind_of x.tables.config object) kind) KindDiffers) u l in
    let q = needed (eqb (kind_of x.tables.config object) kind) KindDiffers u n in
    record { open_at = open_place x.tables home t r₀ a ∙ ap Open is; kind_is = rw config at q }

module _ {V : Type 0} (kind : ℕ) (first : V) (step : V → ℤ → V) (order : EitherOrder step) (from : 1 ≤ kind)
    (g : Group) (built : Built g) (es : List Event) (bs : ℕ → Board) (S : Sim g es bs) where
  the_law : law.Lawful first step (regular_in g) (seen_all es) S.s
  the_law = (machine_isolated first step order).lawful (regular_in g) (preferred_in g) g.boards (seen_all es) S.s (said es) S.run

  module _ (b : ℕ) (inside : b < g.boards) where
    is_open : (t object k : ℕ) (r : Row) → Reads g b (bs b) t object k r → S.s.phase b t ≡ opened r
    is_open t object k r Q = let P : Placed g b t (Open r) (S.s.phase b t) = rw Q.open_at at ((S.at b inside).places t) in P.0

    finds : (r : Row) → found (bs b).rows r ≡ found (S.s.log b) r
    finds r = ap (λ l. found l r) (S.at b inside).rows

    reads_law : (home t object : ℕ) (w : Option ℕ) → (read (bs b) home t object).answer ≡ Ok w → w ≡ word_of (last_put object (visible (seen_all es) (transaction b t)))
    reads_law home t object w e = by (readable (bs b).tables home t object 0) refl
      where
        by : (v : Result Row Fault) → readable (bs b).tables home t object 0 ≡ v → w ≡ word_of (last_put object (visible (seen_all es) (transaction b t)))
        by (Err f) q = let z : (read (bs b) home t object).answer ≡ Err f = rw q in cc
        by (Ok r) q =
            let z : (read (bs b) home t object).answer ≡ Ok (word_of (last_put object (found (bs b).rows r))) = rw q in
            let Q = reads_by g b (bs b) home t object 0 r (S.at b inside).config q in
            let y : word_of (last_put object (found (bs b).rows r)) ≡ w = cc in
            sym y ∙ ap (λ us. word_of (last_put object us)) (finds r) ∙ ap word_of (the_law.reads b t r (is_open t object 0 r Q) object Q.kind_is)

    looks_law : (home t object element : ℕ) (v : V) → (look kind first step (bs b) home t object element).answer ≡ Ok v → v ≡ value_after step object element first (visible (seen_all es) (transaction b t))
    looks_law home t object element v e = by (readable (bs b).tables home t object kind) refl
      where
        by : (u : Result Row Fault) → readable (bs b).tables home t object kind ≡ u → v ≡ value_after step object element first (visible (seen_all es) (transaction b t))
        by (Err f) q = let z : (look kind first step (bs b) home t object element).answer ≡ Err f = rw q in cc
        by (Ok r) q =
            let z : (look kind first step (bs b) home t object element).answer ≡ Ok (value_after step object element first (found (bs b).rows r)) = rw q in
            let Q = reads_by g b (bs b) home t object kind r (S.at b inside).config q in
            let y : value_after step object element first (found (bs b).rows r) ≡ v = cc in
            let merging : regular_in g object ≡ false = let k = Q.kind_is in grind (arith, nat_tests) in
            sym y ∙ ap (λ us. value_after step object element first us) (finds r) ∙ the_law.looks b t r (is_open t object kind r Q) object element merging

  lawful : Lawful kind first step g es bs
  lawful = record {
    reads = λ b home t object w inside e. reads_law b inside home t object w e;
    looks = λ b home t object element v inside e. looks_law b inside home t object element v e;
    no_lost_update = the_law.no_lost_update;
    causal = the_law.causal;
    counted = λ b j inside. the_law.counted b j ∙ sym ((S.at b inside).showns j);
  }

-- ## The law

-- for every merging kind, numbered from 1 up, whose step may take its operands in either order
pub isolated : {V : Type 0} (kind : ℕ) (first : V) (step : V → ℤ → V) → 1 ≤ kind → EitherOrder step → Isolated kind first step
isolated kind first step from order = record {
  lawful = λ g built es bs run. lawful kind first step order from g built es bs (simulated g built es bs run);
  agree = λ g built es es' bs bs' run on b b' inside inside' equal.
      let S = simulated g built es bs run in
      let L = later g built S on in
      (machine_isolated first step order).agree (regular_in g) (preferred_in g) g.boards (seen_all es) (seen_all es') S.s L.sim.s (said es) (said es') S.run L.moves b b'
      (λ j. sym ((S.at b inside).showns j) ∙ equal j ∙ (L.sim.at b' inside').showns j);
}
