-- A script whose steps fit the group is a run of it.
use Rattle.std.proofs.Common.{◌≡◌, ℕ, zero, suc, ◌<◌, Bool, true, false, ◌&&◌, ltb, ◌⊎◌, List, [], ◌∷◌, map, length, get_or, fold, refl, inl, inr, ⊎_elim, arith}
use mathlib.Core.Bool.{false≢true}
use mathlib.Core.List.Memᴰ
use mathlib.Core.List.{reverse_aux, Memᴰ}
use lib.Signed.{mag}
use Rattle.std.specs.List.{flat_map}
use Rattle.std.proofs.lemmas.Bool.{and_parts, ltb-true}
use Rattle.record.specs.Layout.{bytes_of}
use Rattle.record.specs.declared.message.Record.{Record}
use Rattle.isolation.specs.Calls.{Call, start, put, merge, read, look, commit, abandon, settle, deliver, resend, Answer, does, Typed}
use Rattle.isolation.specs.Events.{Event, written_by}
use Rattle.isolation.specs.Groups.{Group, Brought, Run, here, then}
use Rattle.examples.specs.Scripts.{Step, on, bring, Line, ◌⇒◌, Scene, records_in, played, opening, after}

-- ## Steps that fit

-- the arguments of a call are of their types; bytes are brought by `bring` alone
abbrev is_typed : Call → Bool
is_typed start = true
is_typed (put home t object w) = ltb object 65536 && ltb w 4294967296
is_typed (merge kind admitted home t object element operand) = ltb object 65536 && (ltb element 65536 && ltb (mag operand) 2147483648)
is_typed (read home t object) = true
is_typed (look kind home t object element) = true
is_typed (commit home t room) = true
is_typed (abandon home t) = true
is_typed (settle home t) = true
is_typed (deliver bytes room) = false
is_typed (resend t room) = true

-- the board is of the group, and the record has been written
abbrev fits_step : ℕ → List Record → Step → Bool
fits_step boards records (on b c) = ltb b boards && is_typed c
fits_step boards records (bring k b) = ltb b boards && ltb k (length records)

abbrev pub fits : Group → Scene → List Line → Bool
fits g s [] = true
fits g s ((step ⇒ answer) ∷ lines) = fits_step g.boards (records_in s) step && fits g (played s (step ⇒ answer)) lines

-- ## Calls

typed : (c : Call) → is_typed c ≡ true → Typed c
typed start h = tt
typed (put home t object w) h =
    let p = and_parts (ltb object 65536) _ h in
    (ltb-true _ _ p.0, ltb-true _ _ p.1)
typed (merge kind admitted home t object element operand) h =
    let p = and_parts (ltb object 65536) _ h in
    let q = and_parts (ltb element 65536) _ p.1 in
    (ltb-true _ _ p.0, (ltb-true _ _ q.0, record { sfits = ltb-true _ _ q.1 }))
typed (read home t object) h = tt
typed (look kind home t object element) h = tt
typed (commit home t room) h = tt
typed (abandon home t) h = tt
typed (settle home t) h = tt
typed (deliver bytes room) h = tt
typed (resend t room) h = tt

unbrought : (es : List Event) (c : Call) (a : Answer) → is_typed c ≡ true → Brought es c a
unbrought es start a h = tt
unbrought es (put home t object w) a h = tt
unbrought es (merge kind admitted home t object element operand) a h = tt
unbrought es (read home t object) a h = tt
unbrought es (look kind home t object element) a h = tt
unbrought es (commit home t room) a h = tt
unbrought es (abandon home t) a h = tt
unbrought es (settle home t) a h = tt
unbrought es (deliver bytes room) a h = absurd (false≢true h)
unbrought es (resend t room) a h = tt

-- ## Records

-- the k-th of some records
found : (ms : List Record) (k : ℕ) → k < length ms → (m : Record) × Memᴰ m ms × (bytes_of m ≡ get_or (map bytes_of ms) k [])
found [] k h = absurd (omega arith)
found (m ∷ ms) zero h = (m, Memᴰ.head refl, refl)
found (m ∷ ms) (suc k) h =
    let (x, mem, same) = found ms k (omega arith) in
    (x, Memᴰ.tail mem, same)

-- the order of the events does not matter to what was written
was_written : (m : Record) (es acc : List Event) → Memᴰ m (flat_map (λ e. e.written) (reverse_aux es acc))
    → Memᴰ m (written_by es) ⊎ Memᴰ m (flat_map (λ e. e.written) acc)
was_written m [] acc h = inr h
was_written m (e ∷ es) acc h =
    ⊎_elim (λ (p : Memᴰ m (written_by es)). inl (Memᴰ.append_right e.written p))
    (λ (p : Memᴰ m (flat_map (λ e. e.written) (e ∷ acc))).
    ⊎_elim (λ (q : Memᴰ m e.written). inl (Memᴰ.append_left (written_by es) q))
    (λ (q : Memᴰ m (flat_map (λ e. e.written) acc)). inr q)
    (Memᴰ.append_cases e.written p))
    (was_written m es (e ∷ acc) h)

in_writing : (m : Record) (s : Scene) → Memᴰ m (records_in s) → Memᴰ m (written_by s.events)
in_writing m s h =
    ⊎_elim (λ (p : Memᴰ m (written_by s.events)). p) (λ (p : Memᴰ m []). absurd (elim p [ ])) (was_written m s.events [] h)

-- ## Runs

one_more : (g : Group) (s : Scene) (step : Step) (answer : Answer) → Run g s.events s.boards → fits_step g.boards (records_in s) step ≡ true
    → Run g (played s (step ⇒ answer)).events (played s (step ⇒ answer)).boards
one_more g s (on b c) answer r h =
    let p = and_parts (ltb b g.boards) (is_typed c) h in
    then r b (ltb-true _ _ p.0) c (typed c p.1) (unbrought s.events c (does (s.boards b) c).answer p.1)
one_more g s (bring k b) answer r h =
    let p = and_parts (ltb b g.boards) (ltb k (length (records_in s))) h in
    let (m, mem, same) = found (records_in s) k (ltb-true _ _ p.1) in
    then r b (ltb-true _ _ p.0) (deliver (get_or (map bytes_of (records_in s)) k []) 448) tt (inl (m, in_writing m s mem, same))

onward : (g : Group) (s : Scene) (script : List Line) → Run g s.events s.boards → fits g s script ≡ true
    → Run g (fold played s script).events (fold played s script).boards
onward g s [] r h = r
onward g s ((step ⇒ answer) ∷ lines) r h =
    let p = and_parts (fits_step g.boards (records_in s) step) _ h in
    onward g (played s (step ⇒ answer)) lines (one_more g s step answer r p.0) p.1

pub runs : (g : Group) (script : List Line) → fits g (opening g) script ≡ true → Run g (after g script).events (after g script).boards
runs g script h = onward g (opening g) script here h
