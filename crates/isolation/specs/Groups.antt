-- Groups of boards, and their runs: any list of calls, in any order, on boards that were freshly built.
use Rattle.std.specs.Prelude.{◌≡◌, ℕ, ◌<◌, ◌≤◌, cond, ◌⊎◌, List, [], ◌∷◌, length, Ok, ◌==◌}
use mathlib.Core.List.{Memᴰ}
use Rattle.record.specs.Layout.{bytes_of}
use Rattle.record.specs.declared.fault.Fault.{Fault}
use Rattle.record.specs.declared.message.Record.{Record}
use Rattle.tables.specs.Fresh.{fresh}
use Rattle.config.specs.Builds.{build_check}
use Rattle.config.specs.declared.config.Config.{Config}
use Rattle.config.specs.declared.config.Container.{Container}
use Rattle.board.specs.Effects.{State}
use Rattle.isolation.specs.Calls.{Call, start, put, merge, read, look, commit, abandon, settle, deliver, resend, Answer, denied, does, Typed}
use Rattle.isolation.specs.Events.{Event, written_by}

-- a group: one number of boards, one of losses, one list of containers; for each board its first serial and its keeper's capacity
pub record Group : Type 0 where
  pub boards : ℕ
  pub losses : ℕ
  pub listed : ℕ
  pub containers : List Container
  pub first_serial : ℕ → ℕ
  pub capacity : ℕ → ℕ

abbrev pub config_of : Group → ℕ → Config
config_of g b =
    record { own = b; boards = g.boards; losses = g.losses; listed = g.listed; containers = g.containers }

-- every board of the group passes the checks of building, on an empty log
pub record Built (g : Group) : Type 0 where
  pub fits : (b : ℕ) → b < g.boards → build_check (config_of g b) (g.first_serial b) ≡ Ok tt
  pub containers_64 : length g.containers ≡ 64
  pub serials_32 : (b : ℕ) → b < g.boards → g.first_serial b < 4294967296
  pub capacities : (b : ℕ) → b < g.boards → (1 ≤ g.capacity b) × (g.capacity b ≤ 4096)

abbrev pub fresh_board : Group → ℕ → State
fresh_board g b = record { tables = fresh (config_of g b) (g.first_serial b); rows = []; capacity = g.capacity b }

abbrev pub with_board : (ℕ → State) → ℕ → State → ℕ → State
with_board bs b s i = cond (i == b) s (bs i)

-- deliver gets a copy of a record that an earlier call wrote, or bytes that it denies
abbrev pub Brought : List Event → Call → Answer → Type 0
Brought es start a = Unit {0}
Brought es (put home t object w) a = Unit {0}
Brought es (merge kind admitted home t object element operand) a = Unit {0}
Brought es (read home t object) a = Unit {0}
Brought es (look kind home t object element) a = Unit {0}
Brought es (commit home t room) a = Unit {0}
Brought es (abandon home t) a = Unit {0}
Brought es (settle home t) a = Unit {0}
Brought es (deliver bytes room) a =
    ((m : Record) × Memᴰ m (written_by es) × (bytes_of m ≡ bytes)) ⊎ ((fault : Fault) × (a ≡ denied fault))
Brought es (resend t room) a = Unit {0}

-- the moments of a run from one on: the events so far, the newest first, and the boards
pub data Onward (g : Group) (es₀ : List Event) (bs₀ : ℕ → State) : List Event → (ℕ → State) → Type 0 where
  here : Onward g es₀ bs₀ es₀ bs₀
  -- any call on any board, accepted or denied
  then : {es : List Event} {bs : ℕ → State} → Onward g es₀ bs₀ es bs → (b : ℕ) → b < g.boards → (c : Call) → Typed c → Brought es c (does (bs b) c).answer
      → Onward g es₀ bs₀ (record { board = b; call = c; answer = (does (bs b) c).answer; written = (does (bs b) c).written } ∷ es) (with_board bs b (does (bs b) c).board)

-- the runs of a freshly built group
abbrev pub Run : (g : Group) → List Event → (ℕ → State) → Type 0
Run g es bs = Onward g [] (fresh_board g) es bs
