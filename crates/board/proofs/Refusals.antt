-- What an answer tells of the verdict that it came from.
use Rattle.std.proofs.Common.{◌≡◌, ℕ, List, [], ◌∷◌, Ok, Err, Result, refl, ap, ◌∙◌, arith}
use Rattle.record.specs.declared.fault.Fault.{Fault}
use Rattle.record.specs.declared.message.Record.{Record}
use Rattle.record.specs.declared.row.Row.{Row}
use Rattle.record.specs.Verdicts.{and_then}
use Rattle.tables.specs.Changes.{numbered}
use Rattle.board.specs.Commits.{may_append, own_row}
use Rattle.board.specs.Effects.{State, Effect, or_refused, outgoing}

-- an effect that is only ever refused by its verdict
verdict_of : {X A : Type 0} (s : State) (m : Result X Fault) (next : X → Effect A) (out : X → A) → ((x : X) → (next x).answer ≡ Ok (out x)) → (f : Fault) → (or_refused s m next).answer ≡ Err f → m ≡ Err f
verdict_of s (Ok x) next out good f e =
    let h = good x in
    let z : ◌≡◌ {A = ℕ} 0 1 = cc in absurd (omega arith)
verdict_of s (Err g) next out good f e = cc

pub own_refused : (s : State) (r : Row) (f : Fault) → (own_row s r).answer ≡ Err f → may_append s (numbered s.tables r) ≡ Err f
own_refused s r f e = verdict_of s (may_append s (numbered s.tables r)) _ (λ _. numbered s.tables r) (λ _. refl) f e

-- ## A buffer into which nothing is laid

pub nothing_out : (out : List ℕ) (records : List Record) → [] ≡ records → out ≡ outgoing out records
nothing_out out [] e = refl
nothing_out out (m ∷ ms) e = cc

-- the first verdict accepts, and the second does not
pub refused_second : {X Y A : Type 0} (s : State) (first : Result X Fault) (second : X → Result Y Fault) (next : Y → Effect A) (x : X) (fault : Fault) → Ok x ≡ first → Err fault ≡ second x → [] ≡ (or_refused s (and_then first second) next).written
refused_second s first second next x fault f r =
    ap (λ m. (or_refused s m next).written) (r ∙ ap (λ v. and_then v second) f)
