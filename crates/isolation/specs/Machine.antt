-- The abstract machine: the protocol of a group of boards without calls, tables and bytes. The books know nothing of it.
-- Its state is made of functions; board b's part of each is at b. Rows of a board are at places 0, 1, .., and the row
-- at place i bears the number i + 1, so a clock entry c stands for the rows at places below c.
use Rattle.std.specs.Prelude.{◌≡◌, ℕ, suc, ◌<◌, ◌≤◌, Bool, true, false, cond, ◌≢◌, ◌⊎◌, List, [], ◌∷◌, ◌++◌, map, ℤ, filter, ◌==◌}
use mathlib.Core.List.{Memᴰ}
use Rattle.record.specs.declared.clock.Clock.{Clock}
use Rattle.record.specs.declared.row.Update.{Update}
use Rattle.record.specs.declared.row.Row.{Row}
use Rattle.record.specs.Clocks.{entry_of}
use Rattle.record.specs.Rows.{updates_of, zero_row}
use Rattle.merging.specs.Values.{concerns}
use Rattle.isolation.specs.Books.{Told, started, changed, propagated, heard, nothing, Seen}
use Rattle.record.specs.Updates.{last_put}
use Rattle.isolation.specs.Laws.{Writes}

-- the phase of a transaction; one that is open or waits is a row without a number
pub data Phase : Type 0 where
  -- its serial is not given out yet
  unknown : Phase
  opened : Row → Phase
  -- it waits for votes; the boards whose yes is noted
  waits : Row → (ℕ → Bool) → Phase
  -- its row is at this place of its home
  committed : ℕ → Phase
  -- it will never commit
  dead : Phase

-- the owner of a lock, by home and serial
pub data Holder : Type 0 where
  free : Holder
  held : ℕ → ℕ → Holder

-- records of the bus by what they say, whoever they are addressed to; a vote and an ack name their sender first
pub data Message : Type 0 where
  prepare : Row → Message
  vote_yes : ℕ → ℕ → ℕ → Message
  vote_no : ℕ → ℕ → ℕ → Message
  abort : ℕ → ℕ → Message
  propagate : Row → Message
  ack : ℕ → ℕ → ℕ → Message
  durable : ℕ → ℕ → Message

pub record State : Type 0 where
  -- own j i is the row at place i of board j, for i < got j j
  pub own : ℕ → ℕ → Row
  -- how many rows of j board b has in its log, and how many of them it shows
  pub got : ℕ → ℕ → ℕ
  pub shown : ℕ → ℕ → ℕ
  pub log : ℕ → List Row
  -- the owner of object o at board b
  pub lock : ℕ → ℕ → Holder
  -- the phase of serial t of board h
  pub phase : ℕ → ℕ → Phase

-- a fresh group
abbrev pub fresh : State
fresh = record { own = λ j i. zero_row; got = λ b j. 0; shown = λ b j. 0; log = λ b. []; lock = λ b o. free; phase = λ h t. unknown }

-- a row with its number set
abbrev pub numbered : Row → ℕ → Row
numbered r k = record { home = r.home; serial = r.serial; number = k; start = r.start; count = r.count; updates = r.updates }

-- f with v at a, b
abbrev pub put : {X : Type 0} → (ℕ → ℕ → X) → ℕ → ℕ → X → ℕ → ℕ → X
put f a b v x y = cond (x == a) (cond (y == b) v (f x y)) (f x y)

-- the logs after board b has appended r
abbrev pub appends : (ℕ → List Row) → ℕ → Row → ℕ → List Row
appends log b r p = cond (p == b) (log p ++ (r ∷ [])) (log p)

-- the locks after board b has locked what it wants for serial t of h
abbrev pub locks : (ℕ → ℕ → Holder) → ℕ → (ℕ → Bool) → ℕ → ℕ → ℕ → ℕ → Holder
locks lock b wants h t p o = cond (p == b) (cond (wants o) (held h t) (lock p o)) (lock p o)

-- a lock after those of serial t of h are freed
abbrev pub freed : ℕ → ℕ → Holder → Holder
freed h t free = free
freed h t (held i u) = cond (i == h) (cond (u == t) free (held i u)) (held i u)

-- the locks after board b has freed those of serial t of h
abbrev pub frees : (ℕ → ℕ → Holder) → ℕ → ℕ → ℕ → ℕ → ℕ → Holder
frees lock b h t p o = cond (p == b) (freed h t (lock p o)) (lock p o)

-- the state with another phase of one transaction
abbrev pub with_phase : State → ℕ → ℕ → Phase → State
with_phase s h t x = record { own = s.own; got = s.got; shown = s.shown; log = s.log; lock = s.lock; phase = put s.phase h t x }

-- the state with other locks
abbrev pub with_locks : State → (ℕ → ℕ → Holder) → State
with_locks s lock = record { own = s.own; got = s.got; shown = s.shown; log = s.log; lock = lock; phase = s.phase }

-- the state after serial t of b has committed as r
abbrev pub commits : State → ℕ → ℕ → Row → State
commits s b t r = record {
  own = put s.own b (s.got b b) r;
  got = put s.got b b (suc (s.got b b));
  shown = put s.shown b b (suc (s.got b b));
  log = appends s.log b r;
  lock = s.lock;
  phase = put s.phase b t (committed (s.got b b));
}

-- the state after board p has taken r of another home into its log
abbrev pub takes : State → ℕ → Row → State
takes s p r = record {
  own = s.own;
  got = put s.got p r.home (suc (s.got p r.home));
  shown = s.shown;
  log = appends s.log p r;
  lock = s.lock;
  phase = s.phase;
}

-- the state after board p shows one row more of home h, which frees that row's locks
abbrev pub shows : State → ℕ → ℕ → State
shows s p h = record {
  own = s.own;
  got = s.got;
  shown = put s.shown p h (suc (s.shown p h));
  log = s.log;
  lock = frees s.lock p h (s.own h (s.shown p h)).serial;
  phase = s.phase;
}

-- the operands of one element, in order
abbrev pub operands_of : ℕ → ℕ → List Update → List ℤ
operands_of o e us = map (λ u. u.operand) (filter (concerns o e) us)

-- two lists of updates have one effect: the same last put of each regular object, the same operands of each element of the others
pub record Alike (regular : ℕ → Bool) (us ws : List Update) : Type 0 where
  pub puts : (o : ℕ) → regular o ≡ true → last_put o us ≡ last_put o ws
  pub merges : (o e : ℕ) → regular o ≡ false → operands_of o e us ≡ operands_of o e ws

-- object o is clear at board b for a start clock: it is not locked, and the clock covers each row there that writes it
pub record Clear (Writes : List Update → ℕ → Type 0) (s : State) (b o : ℕ) (start : Clock) : Type 0 where
  pub unlocked : s.lock b o ≡ free
  pub covers : (j i : ℕ) → i < s.got b j → Writes (updates_of (s.own j i)) o → i < entry_of start j

-- board b wants every object that r writes and b is preferred for, and all that it wants are clear
pub record Wanted (Writes : List Update → ℕ → Type 0) (pref : ℕ → ℕ) (s : State) (b : ℕ) (r : Row) (wants : ℕ → Bool) : Type 0 where
  pub all : (o : ℕ) → Writes (updates_of r) o → pref o ≡ b → wants o ≡ true
  pub clear : (o : ℕ) → wants o ≡ true → Clear Writes s b o r.start

-- a record that may be written in a state, where R are the records written before
abbrev pub MayWrite : (List Update → ℕ → Type 0) → (ℕ → ℕ) → State → (Message → Type 0) → Message → Type 0
MayWrite Writes pref s R (prepare r) = (ys : ℕ → Bool) × (s.phase r.home r.serial ≡ waits r ys)
MayWrite Writes pref s R (vote_yes p h t) =
    (r : Row) × R (prepare r) × (r.home ≡ h) × (r.serial ≡ t) × ((o : ℕ) → Writes (updates_of r) o → pref o ≡ p → s.lock p o ≡ held h t)
MayWrite Writes pref s R (vote_no p h t) = Unit {0}
MayWrite Writes pref s R (abort h t) = s.phase h t ≡ dead
MayWrite Writes pref s R (propagate r) = (i : ℕ) × (i < s.got r.home r.home) × (s.own r.home i ≡ r)
MayWrite Writes pref s R (ack p h k) = Unit {0}
MayWrite Writes pref s R (durable h k) = Unit {0}

-- what board b may tell while its book stays as it is
pub data Quiet (s : State) (b : ℕ) : Told → Type 0 where
  silent : Quiet s b nothing
  -- a PROPAGATE of an own row is written again
  again : (i : ℕ) → i < s.got b b → Quiet s b (propagated (s.own b i).serial (suc i))
  -- a DURABLE of a row that is shown is heard again
  known : (h i : ℕ) → b ≢ h → i < s.shown b h → Quiet s b (heard h (suc i))

-- one event: what it tells the books, and the state after it; R are the records written before
pub data Move (regular : ℕ → Bool) (pref : ℕ → ℕ) (n : ℕ) (s : State) (R : Message → Type 0) : Seen → State → Type 0 where
  -- nothing changes
  rest : (b : ℕ) (w : Told) → Quiet s b w → Move regular pref n s R (record { board = b; told = w }) s
  start : (b t : ℕ) (r : Row) → s.phase b t ≡ unknown → r.home ≡ b → r.serial ≡ t → ((j : ℕ) → entry_of r.start j ≡ s.shown b j) → updates_of r ≡ []
      → Move regular pref n s R (record { board = b; told = started t }) (with_phase s b t (opened r))
  -- a put or a merge: the updates after it have the effect of those before it and the new one
  change : (b t : ℕ) (r r' : Row) (u : Update) → s.phase b t ≡ opened r → r'.home ≡ r.home → r'.serial ≡ r.serial → r'.start ≡ r.start
      → Alike regular (updates_of r ++ (u ∷ [])) (updates_of r')
      → Move regular pref n s R (record { board = b; told = changed t u }) (with_phase s b t (opened r'))
  -- an open transaction ends without a row
  drop : (b t : ℕ) (r : Row) → s.phase b t ≡ opened r
      → Move regular pref n s R (record { board = b; told = nothing }) (with_phase s b t dead)
  -- the fast commit: the home is preferred for all that is written, and all of it is clear
  commit : (b t : ℕ) (r : Row) → b < n → s.phase b t ≡ opened r → ((o : ℕ) → Writes regular (updates_of r) o → pref o ≡ b)
      → ((o : ℕ) → Writes regular (updates_of r) o → Clear (Writes regular) s b o r.start)
      → Move regular pref n s R (record { board = b; told = propagated t (suc (s.got b b)) }) (commits s b t (numbered r (suc (s.got b b))))
  -- the slow commit: what the home is preferred for is clear, and is locked
  wait : (b t : ℕ) (r : Row) (wants ys : ℕ → Bool) → s.phase b t ≡ opened r → Wanted (Writes regular) pref s b r wants → ((p : ℕ) → ys p ≡ false)
      → Move regular pref n s R (record { board = b; told = nothing }) (with_phase (with_locks s (locks s.lock b wants b t)) b t (waits r ys))
  -- a yes that was written is noted
  note : (b t : ℕ) (r : Row) (ys ys' : ℕ → Bool) → s.phase b t ≡ waits r ys → ((p : ℕ) → ys' p ≡ true → (ys p ≡ true) ⊎ R (vote_yes p b t))
      → Move regular pref n s R (record { board = b; told = nothing }) (with_phase s b t (waits r ys'))
  -- the last yes: all boards preferred for what is written have said yes
  finish : (b t : ℕ) (r : Row) (ys : ℕ → Bool) → b < n → s.phase b t ≡ waits r ys
      → ((o : ℕ) → Writes regular (updates_of r) o → (pref o ≡ b) ⊎ R (vote_yes (pref o) b t))
      → Move regular pref n s R (record { board = b; told = propagated t (suc (s.got b b)) })
      (with_locks (commits s b t (numbered r (suc (s.got b b)))) (frees s.lock b b t))
  -- a no ends a waiting transaction
  refuse : (b t : ℕ) (r : Row) (ys : ℕ → Bool) → s.phase b t ≡ waits r ys
      → Move regular pref n s R (record { board = b; told = nothing }) (with_phase (with_locks s (frees s.lock b b t)) b t dead)
  -- an ABORT frees the locks of its transaction
  release : (p h t : ℕ) → R (abort h t)
      → Move regular pref n s R (record { board = p; told = nothing }) (with_locks s (frees s.lock p h t))
  -- a PREPARE whose objects are clear at board p locks them
  vote : (p : ℕ) (r : Row) (wants : ℕ → Bool) → R (prepare r) → Wanted (Writes regular) pref s p r wants
      → Move regular pref n s R (record { board = p; told = nothing }) (with_locks s (locks s.lock p wants r.home r.serial))
  -- a PROPAGATE brings the next row of its home, and board p has all that its start clock covers
  take : (p : ℕ) (r : Row) → r.home < n → R (propagate r) → p ≢ r.home → r.number ≡ suc (s.got p r.home) → ((i : ℕ) → entry_of r.start i ≤ s.got p i)
      → Move regular pref n s R (record { board = p; told = nothing }) (takes s p r)
  -- a DURABLE of the next row to show of home h, and board p shows all that its start clock covers
  show : (p h : ℕ) → h < n → p ≢ h → s.shown p h < s.got p h → ((i : ℕ) → entry_of (s.own h (s.shown p h)).start i ≤ s.shown p i)
      → Move regular pref n s R (record { board = p; told = heard h (suc (s.shown p h)) }) (shows s p h)

abbrev pub Among : List Message → Message → Type 0
Among ms m = Memᴰ m ms

-- the moments of a run from one on: the events so far, the newest first, the state, the records written so far
pub data Onward (regular : ℕ → Bool) (pref : ℕ → ℕ) (n : ℕ) (es₀ : List Seen) (s₀ : State) (R₀ : List Message) : List Seen → State → List Message → Type 0 where
  here : Onward regular pref n es₀ s₀ R₀ es₀ s₀ R₀
  -- one event more, and what it writes
  then : {es : List Seen} {s s' : State} {R : List Message} {e : Seen} → Onward regular pref n es₀ s₀ R₀ es s R → Move regular pref n s (Among R) e s'
      → (ms : List Message) → ((m : Message) → Among ms m → MayWrite (Writes regular) pref s' (Among R) m) → Onward regular pref n es₀ s₀ R₀ (e ∷ es) s' (ms ++ R)

-- the runs of a fresh group
abbrev pub Run : (ℕ → Bool) → (ℕ → ℕ) → ℕ → List Seen → State → List Message → Type 0
Run regular pref n es s R = Onward regular pref n [] fresh [] es s R
