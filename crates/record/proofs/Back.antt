-- A record put into its bytes and taken out again is that record.
use Rattle.std.proofs.Common.{◌≡◌, ℕ, ◌+◌, ◌*◌, ◌/◌, ◌%◌, ◌<◌, List, [], ◌∷◌, map, length, get_or, ℤ, Some, None, Ok, Option, Result, sym, refl, ap, ◌∙◌, subst, arith, lit<, w32, SFits, to_z, of_z}
use mir.ValLaws.{of_z_fits}
use Rattle.std.proofs.lemmas.Nat.{from_le_bytes-to_le_bytes_2, from_le_bytes-to_le_bytes_4}
use Rattle.std.specs.List.{range_with_len}
use Rattle.std.proofs.lemmas.List.FromFn.{fill_by_all}
use Rattle.std.proofs.lemmas.Int.{to_z-of_z}
use Rattle.record.specs.declared.fault.Fault.{Fault}
use Rattle.record.specs.declared.kind.KindRules.{KindRules}
use Rattle.record.specs.declared.kind.RecordKind.TheVariants.{Prepare, Vote, Abort, Propagate, Ack, Durable, Row}
use Rattle.record.specs.Kinds.{rules_of, code_of}
use Rattle.record.proofs.Apart.{decoded_by}
use Rattle.record.specs.declared.kind.RecordKind.{RecordKind}
use Rattle.record.specs.declared.row.Update.{Update}
use Rattle.record.specs.declared.message.Record.{Record}
use Rattle.record.specs.Numbers.{u32_at}
use Rattle.record.specs.Layout.{record_at, bytes_of, update_at, update_bytes}
use Rattle.record.specs.Codec.{Sized, Kept, unless, decoded}
use Rattle.record.specs.Rows.{no_update}
use Rattle.record.specs.Rules.{by_kind, breaks, offence}

pub word16 : (n : ℕ) → n < 65536 → n % 256 + n / 256 % 256 * 256 ≡ n
word16 = from_le_bytes-to_le_bytes_2

pub word32 : (n : ℕ) → n < 4294967296 → n % 256 + n / 256 % 256 * 256 + n / 65536 % 256 * 65536 + n / 16777216 % 256 * 16777216 ≡ n
word32 = from_le_bytes-to_le_bytes_4

pub word_signed : (z : ℤ) → SFits w32 z → to_z w32 (of_z w32 z % 256 + of_z w32 z / 256 % 256 * 256 + of_z w32 z / 65536 % 256 * 65536 + of_z w32 z / 16777216 % 256 * 16777216) ≡ z
word_signed z h = ap (to_z w32) (word32 (of_z w32 z) (of_z_fits w32 z h).fits) ∙ to_z-of_z w32 z h

pub update_back : (u : Update) → Sized u → update_at (update_bytes u) 0 ≡ u
update_back u s =
    let a : u.object < 65536 = s.object_fits in
    let b : u.element < 65536 = s.element_fits in
    let c : SFits w32 u.operand = s.operand_fits in
    simp (word16, word_signed)

-- a record whose lists are written out
abbrev made : Record → List ℕ → List Update → Record
made m es us =
    record {
      kind = m.kind;
      sender = m.sender;
      receiver = m.receiver;
      detail = m.detail;
      serial = m.serial;
      number = m.number;
      start = record { entries = es };
      updates = us;
    }

module _ (m : Record) (e0 e1 e2 e3 e4 e5 e6 e7 : ℕ) (u0 u1 u2 u3 : Update)
    (hs : m.serial < 4294967296) (hn : m.number < 65536)
    (h0 : e0 < 65536) (h1 : e1 < 65536) (h2 : e2 < 65536) (h3 : e3 < 65536)
    (h4 : e4 < 65536) (h5 : e5 < 65536) (h6 : e6 < 65536) (h7 : e7 < 65536)
    (k0 : Sized u0) (k1 : Sized u1) (k2 : Sized u2) (k3 : Sized u3) where
  abbrev x : Record
  x = made m (e0 ∷ e1 ∷ e2 ∷ e3 ∷ e4 ∷ e5 ∷ e6 ∷ e7 ∷ []) (u0 ∷ u1 ∷ u2 ∷ u3 ∷ [])

  written_out : record_at x.kind (bytes_of x) ≡ x
  written_out = simp (word32 m.serial hs, word16 m.number hn, word16 e0 h0, word16 e1 h1, word16 e2 h2, word16 e3 h3, word16 e4 h4, word16 e5 h5, word16 e6 h6, word16 e7 h7, update_back u0 k0, update_back u1 k1, update_back u2 k2, update_back u3 k3)

  out_kept : Kept x
  out_kept = record { size = refl; whole = written_out; end = refl }

pub kept : (m : Record) → length m.start.entries ≡ 8 → length m.updates ≡ 4 → m.serial < 4294967296 → m.number < 65536 → ((k : ℕ) → k < 8 → get_or m.start.entries k 0 < 65536) → ((k : ℕ) → k < 4 → Sized (get_or m.updates k no_update)) → Kept m
kept m n8 n4 hs hn small sized =
    let es : List ℕ = m.start.entries in
    let us : List Update = m.updates in
    let e : es ≡ map (λ k. get_or es k 0) (range_with_len 0 8) = fill_by_all (λ k. get_or es k 0) es 8 0 n8 (λ k h. refl) in
    let u : us ≡ map (λ k. get_or us k no_update) (range_with_len 0 4) = fill_by_all (λ k. get_or us k no_update) us 4 no_update n4 (λ k h. refl) in
    let q : m ≡ made m (map (λ k. get_or es k 0) (range_with_len 0 8)) (map (λ k. get_or us k no_update) (range_with_len 0 4)) =
    ap (λ v. made m v us) e ∙ ap (λ v. made m (map (λ k. get_or es k 0) (range_with_len 0 8)) v) u in
    let P : Record → Type 0 = λ z. Kept z in
    subst P (sym q)
    (out_kept m (get_or es 0 0) (get_or es 1 0) (get_or es 2 0) (get_or es 3 0) (get_or es 4 0) (get_or es 5 0) (get_or es 6 0) (get_or es 7 0)
    (get_or us 0 no_update) (get_or us 1 no_update) (get_or us 2 no_update) (get_or us 3 no_update) hs hn
    (small 0 (lit< tt)) (small 1 (lit< tt)) (small 2 (lit< tt)) (small 3 (lit< tt)) (small 4 (lit< tt)) (small 5 (lit< tt)) (small 6 (lit< tt)) (small 7 (lit< tt))
    (sized 0 (lit< tt)) (sized 1 (lit< tt)) (sized 2 (lit< tt)) (sized 3 (lit< tt)))

abbrev kind_or : Option KindRules → RecordKind
kind_or None = Prepare
kind_or (Some f) = f.kind

pub rules_of_kind : (k : RecordKind) (f : KindRules) → Some f ≡ rules_of (code_of k) → f.kind ≡ k
rules_of_kind Prepare f e = ap kind_or e
rules_of_kind Vote f e = ap kind_or e
rules_of_kind Abort f e = ap kind_or e
rules_of_kind Propagate f e = ap kind_or e
rules_of_kind Ack f e = ap kind_or e
rules_of_kind Durable f e = ap kind_or e
rules_of_kind Row f e = ap kind_or e

pub decoded_bytes : (m : Record) (f : KindRules) → Kept m → Some f ≡ rules_of (code_of m.kind) → None ≡ offence f m 0 0 → decoded (bytes_of m) ≡ Ok m
decoded_bytes m f k e none =
    let r : record_at f.kind (bytes_of m) ≡ m = ap (λ v. record_at v (bytes_of m)) (rules_of_kind m.kind f e) ∙ k.whole in
    let was : Record → ℕ → ℕ → Result Record Fault = λ x y z. unless (offence f x y z) x in
    decoded_by (bytes_of m) f k.size e
    ∙ ap (λ x. was x 0 (u32_at (bytes_of m) 60)) r
    ∙ ap (λ t. was m 0 t) k.end
    ∙ ap (λ o. unless o m) (sym none)

by_kind_none : (o : Option KindRules) (m : Record) → by_kind o m ≡ None → (k : KindRules) × (Some k ≡ o) × (None ≡ offence k m 0 0)
by_kind_none None m e = let z : ◌≡◌ {A = ℕ} 0 1 = cc in let no_way : ⊥ = omega arith in absurd no_way
by_kind_none (Some k) m e = (k, refl, sym e)

-- a record that breaks no rule is what its bytes are taken for
pub decoded_back : (m : Record) → Kept m → breaks m ≡ None → decoded (bytes_of m) ≡ Ok m
decoded_back m k e = let b = by_kind_none (rules_of (code_of m.kind)) m e in decoded_bytes m b.0 k b.1 b.2

pub none_broken : {X : Type 0} (o : Option ℕ) (x y : X) → Ok x ≡ unless o y → o ≡ None
none_broken None x y e = refl
none_broken (Some p) x y e = cc
