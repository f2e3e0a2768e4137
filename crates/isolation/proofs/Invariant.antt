-- What holds in every state of a run: the invariant of the protocol, without books.
use Rattle.std.proofs.Common.{◌≡◌, ℕ, suc, ◌<◌, ◌≤◌, Bool, true, false, ◌⊎◌, List, Some, None, Option}
use Rattle.record.specs.declared.row.Update.{Update}
use Rattle.record.specs.declared.row.Row.{Row}
use Rattle.record.specs.Clocks.{entry_of}
use Rattle.record.specs.Rows.{updates_of}
use Rattle.isolation.specs.Machine.{Phase, unknown, opened, waits, committed, dead, held, Message, prepare, vote_yes, abort, propagate, State}

-- whether a transaction has called commit
abbrev pub called : Phase → Bool
called unknown = false
called (opened r) = false
called (waits r ys) = true
called (committed i) = true
called dead = true

-- the row of a transaction that is open or waits
abbrev pub live_row : Phase → Option Row
live_row unknown = None
live_row (opened r) = Some r
live_row (waits r ys) = Some r
live_row (committed i) = None
live_row dead = None

pub record Invariant (Writes : List Update → ℕ → Type 0) (pref : ℕ → ℕ) (s : State) (R : Message → Type 0) : Type 0 where
  -- a board shows what it has
  pub shown_got : (b j : ℕ) → s.shown b j ≤ s.got b j
  -- of its own rows, all
  pub own_shown : (b : ℕ) → s.shown b b ≡ s.got b b
  -- a board has no more rows of another than that one
  pub got_own : (b j : ℕ) → s.got b j ≤ s.got j j
  -- an own row bears its home and its number
  pub own_named : (j i : ℕ) → i < s.got j j → ((s.own j i).home ≡ j) × ((s.own j i).number ≡ suc i)
  -- the transaction of an own row is committed, there
  pub own_committed : (j i : ℕ) → i < s.got j j → s.phase j (s.own j i).serial ≡ committed i
  -- a committed transaction has its row
  pub committed_own : (h t i : ℕ) → s.phase h t ≡ committed i → (i < s.got h h) × ((s.own h i).serial ≡ t)
  -- the row of a live transaction bears its name
  pub live_named : (h t : ℕ) (r : Row) → live_row (s.phase h t) ≡ Some r → (r.home ≡ h) × (r.serial ≡ t)
  -- a live transaction's start clock is within what its home shows
  pub live_start : (h t : ℕ) (r : Row) → live_row (s.phase h t) ≡ Some r → (j : ℕ) → entry_of r.start j ≤ s.shown h j
  -- where a board is preferred for an object, it has each own row that writes the object, or holds its lock for that row
  pub own_guard : (j i o : ℕ) → i < s.got j j → Writes (updates_of (s.own j i)) o
      → (i < s.got (pref o) j) ⊎ (s.lock (pref o) o ≡ held j (s.own j i).serial)
  -- a waiting transaction that holds the lock of an object covers every own row that writes the object
  pub lock_covers : (h t o : ℕ) (r : Row) (ys : ℕ → Bool) → s.phase h t ≡ waits r ys → Writes (updates_of r) o → s.lock (pref o) o ≡ held h t
      → (j i : ℕ) → i < s.got j j → Writes (updates_of (s.own j i)) o → i < entry_of r.start j
  -- a waiting transaction holds the locks at its home
  pub home_lock : (h t o : ℕ) (r : Row) (ys : ℕ → Bool) → s.phase h t ≡ waits r ys → Writes (updates_of r) o → pref o ≡ h → s.lock (pref o) o ≡ held h t
  -- and the locks at each board that has voted yes
  pub vote_lock : (h t o : ℕ) (r : Row) (ys : ℕ → Bool) → s.phase h t ≡ waits r ys → Writes (updates_of r) o → R (vote_yes (pref o) h t) → s.lock (pref o) o ≡ held h t
  -- a yes that is noted was written
  pub noted_vote : (h t p : ℕ) (r : Row) (ys : ℕ → Bool) → s.phase h t ≡ waits r ys → ys p ≡ true → R (vote_yes p h t)
  -- who holds a lock has called commit
  pub owner_called : (p o h t : ℕ) → s.lock p o ≡ held h t → called (s.phase h t) ≡ true
  -- who is prepared has called commit
  pub prepare_called : (r : Row) → R (prepare r) → called (s.phase r.home r.serial) ≡ true
  -- a PREPARE of a waiting transaction tells its row
  pub prepare_true : (r q : Row) (ys : ℕ → Bool) → R (prepare r) → s.phase r.home r.serial ≡ waits q ys → r ≡ q
  -- who is voted for has called commit
  pub vote_called : (p h t : ℕ) → R (vote_yes p h t) → called (s.phase h t) ≡ true
  -- an ABORT is for a transaction that will never commit
  pub abort_dead : (h t : ℕ) → R (abort h t) → s.phase h t ≡ dead
  -- a PROPAGATE tells an own row
  pub propagate_own : (r : Row) (i : ℕ) → R (propagate r) → r.number ≡ suc i → (i < s.got r.home r.home) × (s.own r.home i ≡ r)
  -- of two own rows that write one object, the start clock of one covers the other
  pub writers_ordered : (h i j k o : ℕ) → i < s.got h h → k < s.got j j → Writes (updates_of (s.own h i)) o → Writes (updates_of (s.own j k)) o
      → (h ≡ j → i ≡ k → ⊥) → (i < entry_of (s.own j k).start h) ⊎ (k < entry_of (s.own h i).start j)
