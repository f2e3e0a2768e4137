-- Bytes that break no rule, taken apart and put together again, are those bytes.
use Rattle.std.proofs.Common.{◌≡◌, ℕ, zero, suc, ◌+◌, ◌*◌, ◌/◌, ◌%◌, ◌<◌, Bool, true, false, cond, eqb, List, [], ◌∷◌, ◌++◌, map, length, get_or, IfOk, Some, None, Ok, Err, Option, Result, sym, refl, ap, ◌∙◌, arith, w32, to_z, of_z}
use Rattle.std.specs.Option.{option_or}
use Rattle.std.specs.List.{range_with_len, AllByRecursion as All, find}
use Rattle.record.specs.declared.fault.Fault.{Fault}
use Rattle.std.proofs.lemmas.List.FromFn.{fill_by_all}
use Rattle.std.proofs.lemmas.Int.{of_z-to_z}
use Rattle.std.proofs.lemmas.Nat.{le_bytes_4}
use Rattle.std.proofs.lemmas.Bool.{eqb-true}
use Rattle.std.proofs.lemmas.Bool.Decides.{nat_tests}
use Rattle.record.proofs.Offences.{first_append}
use Rattle.record.specs.declared.kind.RecordKind.{RecordKind}
use Rattle.record.specs.declared.kind.KindRules.{KindRules}
use Rattle.record.specs.declared.message.Record.{Record}
use Rattle.record.specs.Kinds.{kinds, rules_of, code_of}
use Rattle.record.specs.Numbers.{u16_at, u32_at, u32_bytes}
use Rattle.record.specs.Rules.{Rule, first, head_rules, clock_rules, update_rules, highest, used, rules, offence, breaks, by_kind}
use Rattle.record.specs.Layout.{record_at, bytes_of}
use Rattle.record.specs.Codec.{decoded, encoded, of_kind, unless}
use Rattle.record.specs.Faults.{misplaced}

-- ## What it says that no rule is broken

pub none_right : (a b : Option ℕ) → None ≡ option_or a b → None ≡ b
none_right None b e = e
none_right (Some x) b e = cc

-- rules of which none is broken end in rules of which none is
none_after : (rs ss : List Rule) → None ≡ first (rs ++ ss) → None ≡ first ss
none_after rs ss e = none_right (first rs) (first ss) (e ∙ first_append rs ss)

pub none_first : (rs : List Rule) → None ≡ first rs → All (λ r. r.1 ≡ true) rs
none_first [] e = tt
none_first (r ∷ rs) e =
    let by : (v : Bool) → None ≡ cond v (first rs) (Some r.0) → (v ≡ true) × (None ≡ first rs) =
    λ v. elim v as (λ w. None ≡ cond w (first rs) (Some r.0) → (w ≡ true) × (None ≡ first rs)) [ true ↦ λ q. (refl, q) | false ↦ λ q. (cc, cc) ] in
    let p = by r.1 e in
    (p.0, none_first rs p.1)

pub none_gap : (f : KindRules) (m : Record) (gap tail : ℕ) → None ≡ offence f m gap tail → gap ≡ 0
none_gap f m gap tail e = let h = none_first (rules f m gap tail) e in eqb-true gap 0 h.1.1.1.1.1.0

last : (tail : ℕ) → ◌≡◌ {A = Option ℕ} None (cond (eqb tail 0) None (Some 60)) → tail ≡ 0
last tail e = grind (arith, nat_tests)

pub none_tail : (f : KindRules) (m : Record) (gap tail : ℕ) → None ≡ offence f m gap tail → tail ≡ 0
none_tail f m gap tail e =
    let C : List Rule = clock_rules (highest f) 12 m.start.entries in
    let U : List Rule = update_rules (used f m) 28 m.updates in
    let L : List Rule = (60, eqb tail 0) ∷ [] in
    last tail (none_after U L (none_after C (U ++ L) (none_after (head_rules f m gap) (C ++ (U ++ L)) e)))

-- what a search finds has passed its test
found_passes : {X : Type 0} (p : X → Bool) (xs : List X) (x : X) → Some x ≡ find p xs → p x ≡ true
found_passes p [] x e = cc
found_passes p (y ∷ ys) x e =
    let by : (v : Bool) → p y ≡ v → Some x ≡ cond v (Some y) (find p ys) → p x ≡ true =
    λ v. elim v as (λ w. p y ≡ w → Some x ≡ cond w (Some y) (find p ys) → p x ≡ true)
    [ true ↦ λ h q. (let s : x ≡ y = cc in ap p s ∙ h) | false ↦ λ h q. found_passes p ys x q ] in
    by (p y) refl e

pub find_code : (code : ℕ) (fs : List KindRules) (f : KindRules) → Some f ≡ find (λ k. eqb (code_of k.kind) code) fs → code_of f.kind ≡ code
find_code code fs f e = eqb-true _ _ (found_passes (λ k. eqb (code_of k.kind) code) fs f e)

-- ## Numbers taken apart

abbrev four : ℕ → ℕ → ℕ → ℕ → ℕ
four a b c d = a + b * 256 + c * 65536 + d * 16777216

-- each element of a short list of bytes is one
all_small : (a b c d : ℕ) → a < 256 → b < 256 → c < 256 → d < 256 → (i : ℕ) → get_or (a ∷ b ∷ c ∷ d ∷ []) i 0 < 256
all_small a b c d ha hb hc hd zero = ha
all_small a b c d ha hb hc hd (suc zero) = hb
all_small a b c d ha hb hc hd (suc (suc zero)) = hc
all_small a b c d ha hb hc hd (suc (suc (suc zero))) = hd
all_small a b c d ha hb hc hd (suc (suc (suc (suc i)))) = omega arith

module _ (bs : List ℕ) (small : (i : ℕ) → get_or bs i 0 < 256) where
  lo16 : (i j : ℕ) → (get_or bs i 0 + get_or bs j 0 * 256) % 256 ≡ get_or bs i 0
  lo16 i j = omega (arith, small i, small j)

  hi16 : (i j : ℕ) → (get_or bs i 0 + get_or bs j 0 * 256) / 256 % 256 ≡ get_or bs j 0
  hi16 i j = omega (arith, small i, small j)

  word : (i j k l : ℕ) → u32_bytes (four (get_or bs i 0) (get_or bs j 0) (get_or bs k 0) (get_or bs l 0)) ≡ get_or bs i 0 ∷ get_or bs j 0 ∷ get_or bs k 0 ∷ get_or bs l 0 ∷ []
  word i j k l = le_bytes_4 _ _ refl (all_small _ _ _ _ (small i) (small j) (small k) (small l)) refl

  at0 : (i j k l : ℕ) → four (get_or bs i 0) (get_or bs j 0) (get_or bs k 0) (get_or bs l 0) % 256 ≡ get_or bs i 0
  at0 i j k l = ap (λ ws. get_or ws 0 0) (word i j k l)

  at1 : (i j k l : ℕ) → four (get_or bs i 0) (get_or bs j 0) (get_or bs k 0) (get_or bs l 0) / 256 % 256 ≡ get_or bs j 0
  at1 i j k l = ap (λ ws. get_or ws 1 0) (word i j k l)

  at2 : (i j k l : ℕ) → four (get_or bs i 0) (get_or bs j 0) (get_or bs k 0) (get_or bs l 0) / 65536 % 256 ≡ get_or bs k 0
  at2 i j k l = ap (λ ws. get_or ws 2 0) (word i j k l)

  at3 : (i j k l : ℕ) → four (get_or bs i 0) (get_or bs j 0) (get_or bs k 0) (get_or bs l 0) / 16777216 % 256 ≡ get_or bs l 0
  at3 i j k l = ap (λ ws. get_or ws 3 0) (word i j k l)

  signed : (i j k l : ℕ) → of_z w32 (to_z w32 (four (get_or bs i 0) (get_or bs j 0) (get_or bs k 0) (get_or bs l 0))) ≡ four (get_or bs i 0) (get_or bs j 0) (get_or bs k 0) (get_or bs l 0)
  signed i j k l = of_z-to_z w32 _ (omega (arith, small i, small j, small k, small l))

  put_back : (k : RecordKind) → length bs ≡ 64 → code_of k ≡ get_or bs 0 0 → u16_at bs 10 ≡ 0 → u32_at bs 60 ≡ 0 → bytes_of (record_at k bs) ≡ map (λ i. get_or bs i 0) (range_with_len 0 64)
  put_back k n e gap tail =
      let z10 : get_or bs 10 0 ≡ 0 = omega arith in
      let z11 : get_or bs 11 0 ≡ 0 = omega arith in
      let z60 : get_or bs 60 0 ≡ 0 = omega arith in
      let z61 : get_or bs 61 0 ≡ 0 = omega arith in
      let z62 : get_or bs 62 0 ≡ 0 = omega arith in
      let z63 : get_or bs 63 0 ≡ 0 = omega arith in
      simp (e, signed, lo16, hi16, at0, at1, at2, at3, z10, z11, z60, z61, z62, z63)

-- ## Only the bytes of a record are taken for it

cond_ok : (v : Bool) (x : Result Record Fault) (d : Fault) (m : Record) → cond v x (Err d) ≡ Ok m → (v ≡ true) × (x ≡ Ok m)
cond_ok true x d m e = (refl, e)
cond_ok false x d m e = (cc, cc)

of_kind_ok : (o : Option KindRules) (bs : List ℕ) (m : Record) → of_kind o bs ≡ Ok m → (f : KindRules) × (Some f ≡ o) × (of_kind (Some f) bs ≡ Ok m)
of_kind_ok None bs m e = let z : ◌≡◌ {A = ℕ} 0 1 = cc in let no_way : ⊥ = omega arith in absurd no_way
of_kind_ok (Some f) bs m e = (f, refl, e)

unless_ok : (o : Option ℕ) (x m : Record) → unless o x ≡ Ok m → (None ≡ o) × (x ≡ m)
unless_ok None x m e = (refl, cc)
unless_ok (Some p) x m e = (cc, cc)

pub decoded_only : (bs : List ℕ) → ((i : ℕ) → get_or bs i 0 < 256) → (m : Record) → decoded bs ≡ Ok m → bytes_of m ≡ bs
decoded_only bs small m e =
    let a = cond_ok (eqb (length bs) 64) (of_kind (rules_of (get_or bs 0 0)) bs) (misplaced 64) m e in
    let n : length bs ≡ 64 = eqb-true (length bs) 64 a.0 in
    let b = of_kind_ok (rules_of (get_or bs 0 0)) bs m a.1 in
    let f : KindRules = b.0 in
    let c = unless_ok (offence f (record_at f.kind bs) (u16_at bs 10) (u32_at bs 60)) (record_at f.kind bs) m b.2 in
    ap bytes_of (sym c.1)
    ∙ put_back bs small f.kind n (find_code (get_or bs 0 0) kinds f b.1)
    (none_gap f (record_at f.kind bs) (u16_at bs 10) (u32_at bs 60) c.0) (none_tail f (record_at f.kind bs) (u16_at bs 10) (u32_at bs 60) c.0)
    ∙ sym (fill_by_all (λ i. get_or bs i 0) bs 64 0 n (λ k h. refl))

-- and it breaks no rule
pub decoded_sound : (bs : List ℕ) (m : Record) → decoded bs ≡ Ok m → breaks m ≡ None
decoded_sound bs m e =
    let a = cond_ok (eqb (length bs) 64) (of_kind (rules_of (get_or bs 0 0)) bs) (misplaced 64) m e in
    let b = of_kind_ok (rules_of (get_or bs 0 0)) bs m a.1 in
    let f : KindRules = b.0 in
    let R : Record = record_at f.kind bs in
    let c = unless_ok (offence f R (u16_at bs 10) (u32_at bs 60)) R m b.2 in
    let code : code_of f.kind ≡ get_or bs 0 0 = find_code (get_or bs 0 0) kinds f b.1 in
    ap breaks (sym c.1) ∙ ap (λ o. by_kind o R) (ap rules_of code ∙ sym b.1)
    ∙ ap (λ g. offence f R g 0) (sym (none_gap f R (u16_at bs 10) (u32_at bs 60) c.0))
    ∙ ap (λ t. offence f R (u16_at bs 10) t) (sym (none_tail f R (u16_at bs 10) (u32_at bs 60) c.0))
    ∙ sym c.0

-- so it is put back into the same bytes
pub rebuilt : (bs : List ℕ) → ((i : ℕ) → get_or bs i 0 < 256) → (r : Result Record Fault) → r ≡ decoded bs → IfOk r (λ m. encoded m ≡ Ok bs)
rebuilt bs small (Ok m) e = ap (λ o. unless o (bytes_of m)) (decoded_sound bs m (sym e)) ∙ ap Ok (decoded_only bs small m (sym e))
rebuilt bs small (Err d) e = tt
