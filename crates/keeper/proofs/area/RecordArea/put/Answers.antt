use Rattle.std.proofs.Common.{◌≡◌, ℕ, ◌+◌, ◌*◌, List, [], ◌∷◌, ◌++◌, length, drop, None, sym, ap, ◌∙◌, subst, arith}
use Rattle.std.proofs.lemmas.List.{take_all, length-take, length-drop}
use Rattle.record.specs.declared.message.Record.{Record}
use Rattle.record.specs.declared.row.Row.{Row}
use Rattle.record.specs.Codec.{Kept}
use Rattle.record.specs.Layout.{bytes_of, written}
use Rattle.record.specs.Rules.{breaks}
use Rattle.record.proofs.Back.{none_broken}
use Rattle.record.proofs.Writes.{put_is}
use Rattle.keeper.specs.Logs.{row_record}
use Rattle.keeper.specs.Areas.{area_rows}
use Rattle.keeper.proofs.Slots.{slot-laid, area_rows-written, slot_row-bytes_of}
use Rattle.keeper.proofs.area.RecordArea.put.Goals as goal

pub returns-clause-stored : goal.returns-clause-stored
returns-clause-stored c =
    let area : List ℕ = c.args.self.now.bytes.now in
    let start : ℕ = 64 * c.args.self.now.used in
    let bytes : List ℕ = c.to_bytes-record.result in
    let size : length bytes ≡ 64 = ap length c.to_bytes-record.ensures.bytes ∙ c.to_bytes-record.ensures.kept.size in
    put_is area start _ bytes _
    (slot-laid _ bytes _ _ (omega (arith, length-take 64 (drop start area), length-drop start area)) size (omega arith) (c.copy_from_slice.ensures.after ∙ take_all 63 (drop 1 bytes) (omega (arith, length-drop 1 bytes))))
    (omega arith)
    ∙ ap (written area start) (c.to_bytes-record.ensures.bytes ∙ ap bytes_of c.to_record.ensures.answer)

pub returns-clause-after : goal.returns-clause-after
returns-clause-after c =
    let area : List ℕ = c.args.self.now.bytes.now in
    let used : ℕ = c.args.self.now.used in
    let row : Row = c.args.row.now in
    let P : Record → Type 0 = λ x. Kept x in
    let kept : Kept (row_record row) = subst P c.to_record.ensures.answer c.to_bytes-record.ensures.kept in
    let sound : breaks (row_record row) ≡ None = none_broken (breaks (row_record row)) _ _ (sym c.requires.sound) in
    ap (area_rows (used + 1)) (returns-clause-stored c)
    ∙ area_rows-written area used (bytes_of (row_record row)) c.requires.free kept.size
    ∙ ap (λ r. area_rows used area ++ r ∷ []) (slot_row-bytes_of row kept sound)
