-- Records that go out to other boards, one board after the other.
use Rattle.std.proofs.Common.{◌≡◌, ℕ, ◌+◌, ◌*◌, ◌<◌, ◌≤◌, Bool, true, false, cond, List, [], ◌∷◌, ◌++◌, map, length, filter, sym, refl, ap, ◌∙◌, ⊎_elim, arith}
use Rattle.std.specs.List.{range_with_len, flat_map}
use Rattle.std.proofs.lemmas.List.FromFn.{map-range_with_len_more}
use Rattle.std.proofs.lemmas.List.Elements.{filter-append}
use Rattle.std.proofs.lemmas.List.{append-nil, map-append, flat_map_more, length-append}
use Rattle.std.proofs.lemmas.Bool.{both_ways, cases_lt}
use Rattle.record.specs.Layout.{bytes_of, written}
use Rattle.record.specs.declared.message.Record.{Record}
use Rattle.record.proofs.Writes.{wrote_more, length_joined}

-- the records to the boards below k that pass a test
abbrev pub sent_below : (ℕ → Bool) → (ℕ → Record) → ℕ → List Record
sent_below p to k = map to (filter p (range_with_len 0 k))

module _ (p : ℕ → Bool) (to : ℕ → Record) (k : ℕ) where
  one_more : range_with_len 0 (k + 1) ≡ range_with_len 0 k ++ k ∷ []
  one_more = sym (same (k + 1)) ∙ map-range_with_len_more (λ j. j) 0 k k (omega arith) ∙ ap (λ v. v ++ k ∷ []) (same k)
    where
      same : (n : ℕ) → map (λ j. j) (range_with_len 0 n) ≡ range_with_len 0 n
      same n = map_same (range_with_len 0 n)
        where
          map_same : (xs : List ℕ) → map (λ j. j) xs ≡ xs
          map_same [] = refl
          map_same (x ∷ xs) = ap (λ v. x ∷ v) (map_same xs)

  below_more : sent_below p to (k + 1) ≡ sent_below p to k ++ map to (filter p (k ∷ []))
  below_more = ap (λ v. map to (filter p v)) one_more ∙ ap (map to) (filter-append p (range_with_len 0 k) (k ∷ [])) ∙ map-append to (filter p (range_with_len 0 k)) (filter p (k ∷ []))

  pub sent_more : p k ≡ true → sent_below p to (k + 1) ≡ sent_below p to k ++ to k ∷ []
  sent_more t = simp t at below_more

  pub sent_same : p k ≡ false → sent_below p to (k + 1) ≡ sent_below p to k
  sent_same f = simp f at below_more ∙ append-nil (sent_below p to k)

-- what has gone out to the boards below k: how many records, and the buffer
pub record SentBelow (p : ℕ → Bool) (to : ℕ → Record) (own k : ℕ) (out was : List ℕ) (count : ℕ) : Type 0 where
  pub counted : count ≡ length (sent_below p to k)
  pub laid : was ≡ written out 0 (flat_map bytes_of (sent_below p to k))
  pub few : count ≤ k
  pub fewer : own < k → count + 1 ≤ k

module _ (p : ℕ → Bool) (to : ℕ → Record) (own k : ℕ) (out was : List ℕ) (count : ℕ) (inv : SentBelow p to own k out was count) (skips : p own ≡ false) (room : 448 ≤ length out) (inside : k < 8)
    (within : own < 8) where
  -- there is room for one record more
  pub has_room : p k ≡ true → 64 * count + 64 ≤ length out
  has_room t =
      let apart : k ≡ own → ⊥ = λ e. both_ways (p own) skips (ap p (sym e) ∙ t) in
      ⊎_elim (λ (below : own < k). omega (arith, inv.fewer below, inside)) (λ (above : k ≤ own). omega (arith, inv.few, apart)) (cases_lt own k)

  pub sent_step : (b : Bool) → p k ≡ b → (next : ℕ) → next ≡ cond b (count + 1) count → (end : List ℕ) → end ≡ cond b (written was (64 * count) (bytes_of (to k))) was → SentBelow p to own (k + 1) out end next
  sent_step true t next n end e =
      let size : length (flat_map bytes_of (sent_below p to k)) ≡ 64 * length (sent_below p to k) = length_joined bytes_of 64 (λ m. refl) (sent_below p to k) in
      let more : sent_below p to (k + 1) ≡ sent_below p to k ++ to k ∷ [] = sent_more p to k t in
      let apart : k ≡ own → ⊥ = λ q. both_ways (p own) skips (ap p (sym q) ∙ t) in
      record {
        counted = omega (arith, ap length more, length-append (sent_below p to k) (to k ∷ []), inv.counted);
        laid =
            wrote_more out 0 (flat_map bytes_of (sent_below p to k)) (omega (arith, inv.counted, has_room t)) was inv.laid (64 * count) (omega (arith, inv.counted)) (bytes_of (to k)) _ end refl e
            ∙ ap (written out 0) (flat_map_more bytes_of [] (sent_below p to k) (to k) ∙ ap (flat_map bytes_of) (sym more));
        few = omega (arith, inv.few);
        fewer = λ below. ⊎_elim (λ (low : own < k). omega (arith, inv.fewer low)) (λ (high : k ≤ own). absurd (apart (omega arith))) (cases_lt own k);
      }
  sent_step false f next n end e =
      let same : sent_below p to (k + 1) ≡ sent_below p to k = sent_same p to k f in
      record {
        counted = n ∙ inv.counted ∙ ap length (sym same);
        laid = e ∙ inv.laid ∙ ap (λ v. written out 0 (flat_map bytes_of v)) (sym same);
        few = omega (arith, inv.few);
        fewer = λ below. omega (arith, inv.few);
      }

pub sent_none : (p : ℕ → Bool) (to : ℕ → Record) (own : ℕ) (out : List ℕ) → SentBelow p to own 0 out out 0
sent_none p to own out = record { counted = refl; laid = refl; few = omega arith; fewer = λ below. omega arith }
