-- The simulation: how the boards of a run and a state of the machine go together.
use Rattle.std.proofs.Common.{◌≡◌, ℕ, ◌<◌, ◌≤◌, Bool, true, cond, eqb, List, [], ◌∷◌, map, length, Some, None, Option, sym, refl, ◌∙◌, subst, ⊎_elim}
use mathlib.Core.List.Memᴰ
use mathlib.Core.List.{Memᴰ}
use Rattle.std.proofs.lemmas.Bool.{cases_eq, eq-eqb, ne_eqb}
use Rattle.std.proofs.lemmas.List.{map-append}
use Rattle.record.specs.declared.kind.RecordKind.{RecordKind}
use Rattle.record.specs.declared.kind.RecordKind.TheVariants.{Prepare, Vote, Abort, Propagate, Ack, Durable, Row as RowKind}
use Rattle.record.specs.declared.message.Record.{Record}
use Rattle.record.specs.declared.row.Row.{Row}
use Rattle.record.specs.Clocks.{entry_of}
use Rattle.record.specs.Rows.{updates_of, row_of}
use Rattle.config.specs.BoardSets.{is_in}
use Rattle.config.specs.Objects.{preferred_of, polled_for}
use Rattle.tables.specs.Places.{place_of}
use Rattle.tables.specs.declared.place.Place.{Place}
use Rattle.tables.specs.declared.place.Place.TheVariants.{Free, Open, Waiting, Committed, Aborted}
use Rattle.tables.proofs.Owners.{lock_of, Single}
use Rattle.tables.proofs.Serials.{Distinct}
use Rattle.board.specs.Effects.{State as Board}
use Rattle.isolation.specs.Books.{nothing, Told, Seen}
use Rattle.isolation.specs.Laws.{Writes}
use Rattle.isolation.specs.Machine.{Phase, unknown, opened, waits, Holder, free, held, Message, prepare, vote_yes, vote_no, abort, propagate, ack, durable, State, MayWrite, Move, rest, silent, Among, Onward, then, Run, fresh}
use Rattle.isolation.specs.Calls.{Call, does}
use Rattle.isolation.specs.Events.{Event, seen_all, written_by, told_by}
use Rattle.isolation.specs.Groups.{Group, config_of, with_board}
use Rattle.isolation.specs.Isolation.{regular_in}
use Rattle.isolation.proofs.Invariant.{called, live_row}
use Rattle.isolation.proofs.Elsewhere.{SameBoard, elsewhere}
use Rattle.isolation.proofs.Writers.{touches}
use Rattle.isolation.proofs.Carried.{FitClock, FitRow}

abbrev voted : Bool → ℕ → ℕ → ℕ → Message
voted yes' p h t = cond yes' (vote_yes p h t) (vote_no p h t)

abbrev meant : RecordKind → Record → Message
meant Prepare m = prepare (row_of m)
meant Vote m = voted (eqb m.detail 1) m.sender m.receiver m.serial
meant Abort m = abort m.sender m.serial
meant Propagate m = propagate (row_of m)
meant Ack m = ack m.sender m.receiver m.number
meant Durable m = durable m.sender m.number
meant RowKind m = ack m.sender m.receiver m.number

-- what a record says
abbrev pub meaning : Record → Message
meaning m = meant m.kind m

-- what the events have written, by what it says
abbrev pub said : List Event → List Message
said es = map meaning (written_by es)

abbrev pub preferred_in : Group → ℕ → ℕ
preferred_in g o = preferred_of (config_of g 0) o

abbrev pub holder_of : Option (ℕ × ℕ) → Holder
holder_of None = free
holder_of (Some p) = held p.0 p.1

-- every object that is written is preferred by one of at most eight boards
abbrev pub Near : Group → Row → Type 0
Near g r = (o : ℕ) → touches (updates_of r) o ≡ true → preferred_in g o < 8

pub record Opened (g : Group) (t : ℕ) (r : Row) : Type 0 where
  pub named : r.serial ≡ t
  pub fits : FitRow r
  pub near : Near g r

pub record Polled (g : Group) (b : ℕ) (r : Row) (polled agreed : ℕ) : Type 0 where
  pub asked : polled ≡ polled_for (config_of g b) (updates_of r)
  pub small : agreed < 256

-- what the place of a serial says of its phase
abbrev pub Placed : Group → ℕ → ℕ → Place → Phase → Type 0
Placed g b t Free v = live_row v ≡ None
Placed g b t (Open r) v = (v ≡ opened r) × Opened g t r
Placed g b t (Waiting r polled agreed) v = (v ≡ waits r (is_in agreed)) × Opened g t r × Polled g b r polled agreed
Placed g b t (Committed u k) v = (u ≡ t) × (called v ≡ true) × (live_row v ≡ None)
Placed g b t (Aborted u) v = (u ≡ t) × (called v ≡ true) × (live_row v ≡ None)

-- a board as its calls see it, and its part of a state of the machine
pub record At (g : Group) (x : Board) (s : State) (b : ℕ) : Type 0 where
  pub config : x.tables.config ≡ config_of g b
  pub rows : x.rows ≡ s.log b
  pub fit_rows : (q : Row) → Memᴰ q x.rows → FitRow q
  pub gots : (j : ℕ) → entry_of x.tables.got j ≡ s.got b j
  pub showns : (j : ℕ) → entry_of x.tables.committed j ≡ s.shown b j
  pub eight : length x.tables.got.entries ≡ 8
  pub fit_shown : FitClock x.tables.committed
  pub locks : (o : ℕ) → holder_of (lock_of x.tables.locks o) ≡ s.lock b o
  pub single : Single x.tables.locks
  pub places : (t : ℕ) → Placed g b t (place_of x.tables.places t) (s.phase b t)
  pub distinct : Distinct x.tables.places
  pub eight_places : length x.tables.places ≡ 8
  pub later : (t : ℕ) → x.tables.next ≤ t → s.phase b t ≡ unknown

-- a run of boards, and the run of the machine that it is
pub record Sim (g : Group) (es : List Event) (bs : ℕ → Board) : Type 0 where
  pub s : State
  pub run : Run (regular_in g) (preferred_in g) g.boards (seen_all es) s (said es)
  pub at : (b : ℕ) → b < g.boards → At g (bs b) s b
  pub fits : (m : Record) → Memᴰ m (written_by es) → FitRow (row_of m)

-- one event more: the move, the records that it may write, and the board then
pub record Step (g : Group) (es : List Event) (s : State) (b : ℕ) (w : Told) (y : Board) (ms : List Record) : Type 0 where
  pub s' : State
  pub move : Move (regular_in g) (preferred_in g) g.boards s (Among (said es)) (record { board = b; told = w }) s'
  pub may : (m : Message) → Among (map meaning ms) m → MayWrite (Writes (regular_in g)) (preferred_in g) s' (Among (said es)) m
  pub at : At g y s' b
  pub fits : (m : Record) → Memᴰ m ms → FitRow (row_of m)

-- a call is a step of the machine
abbrev pub Steps : Group → List Event → State → ℕ → Board → Call → Type 0
Steps g es s b x c = Step g es s b (told_by c (does x c).answer (does x c).written) (does x c).board (does x c).written

placed_same : (g : Group) (b t : ℕ) (p : Place) {v v' : Phase} → v' ≡ v → Placed g b t p v → Placed g b t p v'
placed_same g b t p e P = subst (Placed g b t p) (sym e) P

-- a board that a move leaves alone
frame : (g : Group) (x : Board) (s s' : State) (b : ℕ) → SameBoard s s' b → At g x s b → At g x s' b
frame g x s s' b S A = record {
  config = A.config;
  rows = A.rows ∙ sym S.logs;
  fit_rows = A.fit_rows;
  gots = λ j. A.gots j ∙ sym (S.gots j);
  showns = λ j. A.showns j ∙ sym (S.showns j);
  eight = A.eight;
  fit_shown = A.fit_shown;
  locks = λ o. A.locks o ∙ sym (S.locks o);
  single = A.single;
  places = λ t. placed_same g b t (place_of x.tables.places t) (S.phases t) (A.places t);
  distinct = A.distinct;
  eight_places = A.eight_places;
  later = λ t h. S.phases t ∙ A.later t h;
}

module _ (g : Group) (es : List Event) (bs : ℕ → Board) (S : Sim g es bs) (b : ℕ) (e : Event) (y : Board)
    (T : Step g es S.s b (told_by e.call e.answer e.written) y e.written) (here : e.board ≡ b) where
  -- a run of the machine goes on
  pub on : (es₀ : List Seen) (s₀ : State) (R₀ : List Message) → Onward (regular_in g) (preferred_in g) g.boards es₀ s₀ R₀ (seen_all es) S.s (said es)
      → Onward (regular_in g) (preferred_in g) g.boards es₀ s₀ R₀ (seen_all (e ∷ es)) T.s' (said (e ∷ es))
  on es₀ s₀ R₀ run = rw (here, map-append meaning e.written (written_by es)) (then run T.move (map meaning e.written) T.may)

  pub others_at : (p : ℕ) → p < g.boards → At g (with_board bs b y p) T.s' p
  others_at p h = ⊎_elim
      (λ (q : p ≡ b). rw (q, eq-eqb b b refl) T.at)
      (λ (q : p ≡ b → ⊥). rw (ne_eqb p b q) (frame g (bs p) S.s T.s' p (elsewhere (regular_in g) (preferred_in g) g.boards T.move p q) (S.at p h)))
      (cases_eq p b)

  pub all_fit : (m : Record) → Memᴰ m (written_by (e ∷ es)) → FitRow (row_of m)
  all_fit m i = ⊎_elim (λ (k : Memᴰ m e.written). T.fits m k) (λ (k : Memᴰ m (written_by es)). S.fits m k) (Memᴰ.append_cases e.written i)

  abbrev pub stepped : Sim g (e ∷ es) (with_board bs b y)
  stepped = record { s = T.s'; run = on [] fresh [] S.run; at = others_at; fits = all_fit }

-- nothing changes and nothing is told
pub quiet : (g : Group) (es : List Event) (s : State) (b : ℕ) (x : Board) → At g x s b → Step g es s b nothing x []
quiet g es s b x A = record {
  s' = s;
  move = rest b nothing silent;
  may = λ m i. absurd (Memᴰ.not-nil i);
  at = A;
  fits = λ m i. absurd (Memᴰ.not-nil i);
}
