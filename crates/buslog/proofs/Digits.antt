-- Digits decoded into room for half as many bytes.
use Rattle.std.proofs.Common.{◌≡◌, ℕ, ◌-◌, ◌/◌, ◌%◌, ◌==◌, ◌&&◌, ◌||◌, nat_le, Bool, true, false, if◌then◌else◌, List, length, slice_index_or, Some, None, is_some, Ok, Err, Result, MatchResult, refl, sym, ap, ◌∙◌}
use Rattle.std.specs.Char.{is_ascii_hexdigit}
use Rattle.std.specs.List.{list_all}
use Rattle.std.proofs.lemmas.List.Sums.{AllPass-from_list_all, list_all-from_AllPass}
use Rattle.std.proofs.lemmas.Bool.{and_parts, eq-eqb, eqb-true}
use Rattle.hex.specs.Hex.{decode_of, decode_sized, is_hex_digit}
use Rattle.hex.specs.declared.error.FromHexError.{FromHexError}
use Rattle.hex.proofs.HexLemmas.{decode_of-even, decode_of-ok, decode_pairs-digits}
use Rattle.record.specs.declared.fault.Fault.{Fault}
use Rattle.record.specs.declared.message.Record.{Record}
use Rattle.record.specs.Codec.{decoded}
use Rattle.buslog.specs.Verdicts.{of_decoded, of_bytes}
use Rattle.buslog.specs.declared.verdict.Verdict.TheVariants.{Other}

pub half : (text : List ℕ) (n : ℕ) → n ≡ length text / 2 → decode_sized text n ≡ decode_of text
half text n e = simp (eq-eqb (length text / 2) n (sym e))

pub answered : (r : Result (List ℕ) FromHexError) (out : List ℕ) → MatchResult r (λ bytes. (◌≡◌ {A = Result (Unit {0}) FromHexError} (Ok tt) (Ok tt)) × (out ≡ bytes)) (λ e. ◌≡◌ {A = Result (Unit {0}) FromHexError} (Ok tt) (Err e)) → r ≡ Ok out
answered (Ok bytes) out m = ap Ok (sym m.1)
answered (Err e) out m = cc

-- a digit in the words of text is one in the words of bytes
same_digit : (c : ℕ) → is_hex_digit c ≡ is_ascii_hexdigit c
same_digit c = by (nat_le 65 c && nat_le c 70) (nat_le 97 c && nat_le c 102) (nat_le 48 c && nat_le c 57)
  where
    by : (upper lower decimal : Bool) → is_some (if upper then Some (c - 55) else if lower then Some (c - 87) else if decimal then Some (c - 48) else None) ≡ ((decimal || upper) || lower)
    by true lower true = refl
    by true lower false = refl
    by false true true = refl
    by false true false = refl
    by false false true = refl
    by false false false = refl

-- what is not an even number of digits stands for no bytes
pub other : (text : List ℕ) → (length text % 2 == 0 && list_all is_ascii_hexdigit text) ≡ false → of_bytes (decode_of text) ≡ Other
other text h = by (decode_of text) refl
  where
    by : (r : Result (List ℕ) FromHexError) → decode_of text ≡ r → of_bytes r ≡ Other
    by (Err e) q = refl
    by (Ok bytes) q =
        let ok = decode_of-ok text bytes q in
        let all : list_all is_ascii_hexdigit text ≡ true = list_all-from_AllPass is_ascii_hexdigit text (λ k d lt. sym (same_digit (slice_index_or text k d)) ∙ ok.1 k d lt) in
        cc

-- bytes are a record, or break a rule
told : (r : Result Record Fault) → of_decoded r ≡ Other → ⊥
told (Ok m) h = cc
told (Err fault) h = cc

-- an even number of digits stands for bytes
pub never_other : (text : List ℕ) → (length text % 2 == 0 && list_all is_ascii_hexdigit text) ≡ true → of_bytes (decode_of text) ≡ Other → ⊥
never_other text h o =
    let both = and_parts (length text % 2 == 0) (list_all is_ascii_hexdigit text) h in
    let even : length text % 2 ≡ 0 = eqb-true (length text % 2) 0 both.0 in
    let digits = AllPass-from_list_all is_ascii_hexdigit text both.1 in
    let ok = decode_pairs-digits 0 text even (λ k d lt. same_digit (slice_index_or text k d) ∙ digits k d lt) in
    told (decoded ok.0) (sym (ap of_bytes (decode_of-even text even ∙ ok.1)) ∙ o)
