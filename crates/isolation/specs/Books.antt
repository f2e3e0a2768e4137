-- The books: which transactions each board shows, and in which order, told from the events alone.
-- A list of events has the newest first.
use Rattle.std.specs.Prelude.{ℕ, Bool, false, cond, ◌&&◌, ◌||◌, List, [], ◌∷◌, ◌++◌, ◌==◌}
use Rattle.record.specs.declared.row.Update.{Update}

-- a transaction's name: the board that started it, and the serial that its start answered
pub record Transaction : Type 0 where
  pub home : ℕ
  pub serial : ℕ

abbrev pub transaction : ℕ → ℕ → Transaction
transaction h t = record { home = h; serial = t }

-- what an event tells the books
pub data Told : Type 0 where
  -- a start answered this serial
  started : ℕ → Told
  -- a put or a merge on this serial was accepted
  changed : ℕ → Update → Told
  -- a PROPAGATE with this serial and this number was written
  propagated : ℕ → ℕ → Told
  -- a DURABLE from this home with this number was accepted
  heard : ℕ → ℕ → Told
  nothing : Told

-- an event as the books see it: the board that was called, and what it tells
pub record Seen : Type 0 where
  pub board : ℕ
  pub told : Told

-- whether a PROPAGATE with this serial was written
abbrev pub propagates : Told → ℕ → Bool
propagates (started s) t = false
propagates (changed s u) t = false
propagates (propagated s k) t = s == t
propagates (heard h k) t = false
propagates nothing t = false

-- whether board b has written a PROPAGATE with serial t
abbrev pub has_propagated : List Seen → ℕ → ℕ → Bool
has_propagated [] b t = false
has_propagated (e ∷ es) b t = (e.board == b && propagates e.told t) || has_propagated es b t

-- whether a DURABLE from home h with number k was accepted
abbrev pub hears : Told → ℕ → ℕ → Bool
hears (started s) h k = false
hears (changed s u) h k = false
hears (propagated s l) h k = false
hears (heard j l) h k = j == h && l == k
hears nothing h k = false

-- whether board b has accepted a DURABLE from home h with number k
abbrev pub has_heard : List Seen → ℕ → ℕ → ℕ → Bool
has_heard [] b h k = false
has_heard (e ∷ es) b h k = (e.board == b && hears e.told h k) || has_heard es b h k

-- the transaction of home h whose PROPAGATE bore number k: told by this event, or else as before it
abbrev pub bearer_by : Told → ℕ → ℕ → List Transaction → List Transaction
bearer_by (started s) h k before = before
bearer_by (changed s u) h k before = before
bearer_by (propagated s l) h k before = cond (l == k) (transaction h s ∷ []) before
bearer_by (heard j l) h k before = before
bearer_by nothing h k before = before

-- the transaction of home h whose PROPAGATE bore number k; none if no such PROPAGATE was written
abbrev pub bearer : List Seen → ℕ → ℕ → List Transaction
bearer [] h k = []
bearer (e ∷ es) h k = cond (e.board == h) (bearer_by e.told h k (bearer es h k)) (bearer es h k)

-- what joins the book of board b by what an event tells, after the events es:
-- with its first PROPAGATE, a transaction of b; with its first DURABLE, a transaction of another home
abbrev pub joins : List Seen → ℕ → Told → List Transaction
joins es b (started s) = []
joins es b (changed s u) = []
joins es b (propagated s k) = cond (has_propagated es b s) [] (transaction b s ∷ [])
joins es b (heard h k) = cond (has_heard es b h k) [] (bearer es h k)
joins es b nothing = []

-- the book of board b: the transactions that it shows, in the order in which they joined
abbrev pub book : List Seen → ℕ → List Transaction
book [] b = []
book (e ∷ es) b = cond (e.board == b) (book es b ++ joins es b e.told) (book es b)

-- whether a start answered serial t
abbrev pub starts : Told → ℕ → Bool
starts (started s) t = s == t
starts (changed s u) t = false
starts (propagated s k) t = false
starts (heard h k) t = false
starts nothing t = false

-- the snapshot of a transaction: its home's book when it started
abbrev pub snapshot : List Seen → Transaction → List Transaction
snapshot [] x = []
snapshot (e ∷ es) x = cond (e.board == x.home && starts e.told x.serial) (book es x.home) (snapshot es x)

-- what an event adds to the updates of serial t
abbrev pub adds : Told → ℕ → List Update
adds (started s) t = []
adds (changed s u) t = cond (s == t) (u ∷ []) []
adds (propagated s k) t = []
adds (heard h k) t = []
adds nothing t = []

-- the updates of a transaction, the oldest first
abbrev pub changes : List Seen → Transaction → List Update
changes [] x = []
changes (e ∷ es) x = changes es x ++ cond (e.board == x.home) (adds e.told x.serial) []
