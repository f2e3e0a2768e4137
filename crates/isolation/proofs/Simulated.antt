-- Every run of a group that was built is a run of the machine.
use Rattle.std.proofs.Common.{◌≡◌, ℕ, zero, suc, ◌<◌, true, List, [], ◌∷◌, replicate, refl}
use mathlib.Core.List.Memᴰ
use mathlib.Core.List.{Memᴰ}
use Rattle.record.specs.declared.message.Record.{Record}
use Rattle.record.specs.Rows.{row_of}
use Rattle.tables.specs.declared.place.Place.TheVariants.{Free}
use Rattle.tables.proofs.Serials.{lacks, Distinct}
use Rattle.board.specs.Effects.{State as Board}
use Rattle.isolation.specs.Calls.{Call, start, put, merge, read, look, commit, abandon, settle, deliver, resend, does, Typed}
use Rattle.isolation.specs.Events.{Event, seen_all, written_by}
use Rattle.isolation.specs.Groups as groups
use Rattle.isolation.specs.Groups.{Group, Built, Brought, fresh_board}
use Rattle.isolation.specs.Isolation.{regular_in}
use Rattle.isolation.specs.Machine as machine
use Rattle.isolation.specs.Machine.{State, Among}
use Rattle.isolation.proofs.Carried.{FitRow, zero_entry, fit_zero}
use Rattle.isolation.proofs.Committing.{steps_commit}
use Rattle.isolation.proofs.Delivering.{steps_deliver}
use Rattle.isolation.proofs.Opening.{steps_start, steps_put, steps_merge, steps_read, steps_look, steps_abandon, steps_settle}
use Rattle.isolation.proofs.Resending.{steps_resend}
use Rattle.isolation.proofs.Runs.{Kept, kept}
use Rattle.isolation.proofs.Simulation.{preferred_in, said, At, Sim, Steps, on, stepped}

-- ## Each call

module _ (g : Group) (built : Built g) (es : List Event) (s : State) (x : Board) (b : ℕ) (inside : b < g.boards) (A : At g x s b)
    (K : Kept (regular_in g) (preferred_in g) g.boards (seen_all es) s (Among (said es))) (fits : (m : Record) → Memᴰ m (written_by es) → FitRow (row_of m)) where
  steps : (c : Call) → Typed c → Brought es c (does x c).answer → Steps g es s b x c
  steps start typed brought = steps_start g built es s x b inside A K
  steps (put home t object w) typed brought = steps_put g built es s x b inside A K home t object w typed
  steps (merge kind admitted home t object element operand) typed brought = steps_merge g built es s x b inside A K kind admitted home t object element operand typed
  steps (read home t object) typed brought = steps_read g built es s x b inside A K home t object
  steps (look kind home t object element) typed brought = steps_look g built es s x b inside A K kind home t object element
  steps (commit home t room) typed brought = steps_commit g built es s x b inside A K home t room
  steps (abandon home t) typed brought = steps_abandon g built es s x b inside A K home t
  steps (settle home t) typed brought = steps_settle g built es s x b inside A K home t
  steps (deliver bytes room) typed brought = steps_deliver g built es s x b inside A K fits bytes room brought
  steps (resend t room) typed brought = steps_resend g built es s x b inside A K t room

-- ## A fresh group

free_lack : (n t : ℕ) → lacks t (replicate n Free) ≡ true
free_lack zero t = refl
free_lack (suc n) t = free_lack n t

free_distinct : (n : ℕ) → Distinct (replicate n Free)
free_distinct zero = tt
free_distinct (suc n) = ((λ t h. free_lack n t), free_distinct n)

fresh_at : (g : Group) (b : ℕ) → At g (fresh_board g b) machine.fresh b
fresh_at g b = record {
  config = refl;
  rows = refl;
  fit_rows = λ q i. absurd (Memᴰ.not-nil i);
  gots = zero_entry;
  showns = zero_entry;
  eight = refl;
  fit_shown = fit_zero;
  locks = λ o. refl;
  single = tt;
  places = λ t. refl;
  distinct = free_distinct 8;
  eight_places = refl;
  later = λ t h. refl;
}

fresh_sim : (g : Group) → Sim g [] (fresh_board g)
fresh_sim g = record { s = machine.fresh; run = machine.here; at = λ b h. fresh_at g b; fits = λ m i. absurd (Memᴰ.not-nil i) }

-- ## Runs

-- a later moment, and how the machine comes there
pub record Later (g : Group) (es₀ : List Event) (bs₀ : ℕ → Board) (S₀ : Sim g es₀ bs₀) (es : List Event) (bs : ℕ → Board) : Type 0 where
  pub sim : Sim g es bs
  pub moves : machine.Onward (regular_in g) (preferred_in g) g.boards (seen_all es₀) S₀.s (said es₀) (seen_all es) sim.s (said es)

-- one call more
once_more : (g : Group) {es₀ : List Event} {bs₀ : ℕ → Board} (S₀ : Sim g es₀ bs₀) {es : List Event} {bs : ℕ → Board} (L : Later g es₀ bs₀ S₀ es bs) (b : ℕ) (c : Call)
    → Steps g es L.sim.s b (bs b) c
    → Later g es₀ bs₀ S₀ (record { board = b; call = c; answer = (does (bs b) c).answer; written = (does (bs b) c).written } ∷ es) (groups.with_board bs b (does (bs b) c).board)
once_more g {es₀} {bs₀} S₀ {es} {bs} L b c T =
    let e : Event = record { board = b; call = c; answer = (does (bs b) c).answer; written = (does (bs b) c).written } in
    record {
      sim = stepped g es bs L.sim b e (does (bs b) c).board T refl;
      moves = on g es bs L.sim b e (does (bs b) c).board T refl (seen_all es₀) S₀.s (said es₀) L.moves;
    }

pub later : (g : Group) → Built g → {es₀ : List Event} {bs₀ : ℕ → Board} (S₀ : Sim g es₀ bs₀) {es : List Event} {bs : ℕ → Board} → groups.Onward g es₀ bs₀ es bs → Later g es₀ bs₀ S₀ es bs
later g built S₀ groups.here = record { sim = S₀; moves = machine.here }
later g built {es₀} {bs₀} S₀ (groups.then {es} {bs} run b inside c typed brought) =
    let L = later g built S₀ run in
    let S = L.sim in
    once_more g S₀ L b c (steps g built es S.s (bs b) b inside (S.at b inside) (kept (regular_in g) (preferred_in g) g.boards S.run) S.fits c typed brought)

pub simulated : (g : Group) → Built g → (es : List Event) (bs : ℕ → Board) → groups.Run g es bs → Sim g es bs
simulated g built es bs run = (later g built (fresh_sim g) run).sim
