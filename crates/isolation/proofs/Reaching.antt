-- When one clock reaches another.
use Rattle.std.proofs.Common.{◌≡◌, ℕ, ◌<◌, ◌≤◌, true, leb, length, get_or, subst, ⊎_elim, arith}
use Rattle.std.specs.List.{range_with_len}
use Rattle.std.proofs.lemmas.List.FromFn.{get_or-range_with_len}
use Rattle.std.proofs.lemmas.List.{get_or_past}
use Rattle.std.proofs.lemmas.Bool.{leb-true, cases_lt}
use Rattle.record.specs.declared.clock.Clock.{Clock}
use Rattle.record.specs.Clocks.{entry_of, reached}
use Rattle.isolation.proofs.Built.{every_at}

-- each entry is reached; past eight a clock has none
pub reaches : (c d : Clock) → length d.entries ≡ 8 → reached c d ≡ true → (j : ℕ) → entry_of d j ≤ entry_of c j
reaches c d n e j = ⊎_elim
    (λ (h : j < 8).
    let p = every_at (λ i. leb (entry_of d i) (entry_of c i)) (range_with_len 0 8) j 0 e h in
    let at : get_or (range_with_len 0 8) j 0 ≡ j = omega (arith, get_or-range_with_len 0 8 j 0 h) in
    leb-true (entry_of d j) (entry_of c j) (subst (λ i. leb (entry_of d i) (entry_of c i) ≡ true) at p))
    (λ (h : 8 ≤ j). omega (arith, get_or_past d.entries j 0 (omega arith)))
    (cases_lt j 8)
