use Rattle.std.proofs.Common.{◌≡◌, ℕ, List, [], ◌∷◌, ◌++◌, refl, arith, rules}
use Rattle.record.specs.declared.message.Record.{Record}
use Rattle.record.specs.Kinds.{code_of}
use Rattle.record.specs.Numbers.{u16_bytes, u32_bytes}
use Rattle.record.specs.Layout.{written, clock_bytes, updates_bytes}
use Rattle.record.proofs.Writes.{wrote_more}
use Rattle.record.proofs.Back.{kept}
use Rattle.record.proofs.message.Record.lay.Goals as goal

-- the bytes that are laid after each of the calls
abbrev to4 : Record → List ℕ
to4 m = code_of m.kind ∷ m.sender ∷ m.receiver ∷ m.detail ∷ []

abbrev to8 : Record → List ℕ
to8 m = to4 m ++ u32_bytes m.serial

abbrev to10 : Record → List ℕ
to10 m = to8 m ++ u16_bytes m.number

abbrev to12 : Record → List ℕ
to12 m = to10 m ++ (0 ∷ 0 ∷ [])

abbrev to28 : Record → List ℕ
to28 m = to12 m ++ clock_bytes m.start

abbrev to60 : Record → List ℕ
to60 m = to28 m ++ updates_bytes m.updates

pub returns : goal.returns
returns c =
    let m : Record = c.args.self.now in
    let out : List ℕ = c.args.out.now in
    let e4 : c.put.new.out ≡ written out 0 (to4 m) =
    search rules in
    let e8 : c.put-2.new.out ≡ written out 0 (to8 m) =
    wrote_more out 0 (to4 m) (omega arith) _ e4 4 refl (u32_bytes m.serial) _ _ c.to_le_bytes.ensures c.put-2.ensures in
    let e10 : c.put-3.new.out ≡ written out 0 (to10 m) =
    wrote_more out 0 (to8 m) (omega arith) _ e8 8 refl (u16_bytes m.number) _ _ c.to_le_bytes-2.ensures c.put-3.ensures in
    let e12 : c.put-4.new.out ≡ written out 0 (to12 m) =
    wrote_more out 0 (to10 m) (omega arith) _ e10 10 refl (0 ∷ 0 ∷ []) _ _ refl c.put-4.ensures in
    let e28 : c.lay.new.out ≡ written out 0 (to28 m) =
    wrote_more out 0 (to12 m) (omega arith) _ e12 12 refl (clock_bytes m.start) _ _ refl c.lay.ensures.after in
    let e60 : c.lay_updates.new.out ≡ written out 0 (to60 m) =
    wrote_more out 0 (to28 m) (omega arith) _ e28 28 refl (updates_bytes m.updates) _ _ refl c.lay_updates.ensures.after in
    record {
      kept = kept m c.lay.ensures.eight c.lay_updates.ensures.four (search rules) (search rules) c.lay.ensures.small c.lay_updates.ensures.sized;
      after = wrote_more out 0 (to60 m) (omega arith) _ e60 60 refl (0 ∷ 0 ∷ 0 ∷ 0 ∷ []) _ _ refl c.put-5.ensures;
    }
