-- Causality: a snapshot stands before its transaction, in every book.
use Rattle.std.proofs.Common.{◌≡◌, ℕ, ◌<◌, ◌≤◌, Bool, List, [], ◌∷◌, ◌++◌, map, sym, refl, ap, ◌∙◌, subst, arith}
use mathlib.Core.List.Memᴰ
use mathlib.Core.List.{Memᴰ}
use Rattle.record.specs.declared.row.Row.{Row}
use Rattle.record.specs.Clocks.{entry_of}
use Rattle.isolation.specs.Books.{Transaction, transaction, Seen, snapshot}
use Rattle.isolation.specs.Laws.{Writes, Causal}
use Rattle.isolation.specs.Machine.{Message, State}
use Rattle.isolation.proofs.Invariant.{Invariant}
use Rattle.isolation.proofs.Grown.{closed}
use Rattle.isolation.proofs.Members.{from_member, before}
use Rattle.isolation.proofs.Account.{name_of, Account}
use Rattle.isolation.proofs.Shelves.{from_shelf, book_room, snap_of, name_is}

-- a list with an element that f takes to y, behind those that it takes to fs
pub record Split {X Y : Type 0} (f : X → Y) (xs : List X) (fs : List Y) (y : Y) : Type 0 where
  pub front : List X
  pub found : X
  pub back : List X
  pub whole : xs ≡ front ++ (found ∷ back)
  pub to_front : map f front ≡ fs
  pub to_found : f found ≡ y

split_more : {X Y : Type 0} (f : X → Y) (x : X) (xs : List X) (fs : List Y) (y : Y) → Split f xs fs y → Split f (x ∷ xs) (f x ∷ fs) y
split_more f x xs fs y S = record {
  front = x ∷ S.front;
  found = S.found;
  back = S.back;
  whole = ap (λ zs. x ∷ zs) S.whole;
  to_front = ap (λ zs. f x ∷ zs) S.to_front;
  to_found = S.to_found;
}

-- where a list of names is split, the list of rows is
split : {X Y : Type 0} (f : X → Y) (xs : List X) (fs : List Y) (y : Y) (bs : List Y) → map f xs ≡ fs ++ (y ∷ bs) → Split f xs fs y
split f [] [] y bs e = absurd (let z : ◌≡◌ {A = ℕ} 0 1 = cc in omega arith)
split f [] (g ∷ fs) y bs e = absurd (let z : ◌≡◌ {A = ℕ} 0 1 = cc in omega arith)
split f (x ∷ xs) [] y bs e = record { front = []; found = x; back = xs; whole = refl; to_front = refl; to_found = cc }
split f (x ∷ xs) (g ∷ fs) y bs e = let h : f x ≡ g = cc in rw (← h) (split_more f x xs fs y (split f xs fs y bs (cc)))

module _ (regular : ℕ → Bool) (pref : ℕ → ℕ) (n : ℕ) (es : List Seen) (s : State) (R : Message → Type 0)
    (I : Invariant (Writes regular) pref s R) (A : Account regular n es s) where
  start_room : (j i : ℕ) → i < s.got j j → (k : ℕ) → entry_of (s.own j i).start k ≤ s.got k k
  start_room j i h k = omega (arith, closed n s.own (A.logs j) j i h k, I.got_own j k)

  -- a row that q's start clock covers stands before q in a book
  covered_before : (b : ℕ) (fs bs : List Row) (q r : Row) → (A.books b).rows ≡ fs ++ (q ∷ bs) → q ≡ r → (y : Transaction) (k : ℕ) → k < entry_of r.start y.home
      → k < s.got y.home y.home → (s.own y.home k).serial ≡ y.serial → Memᴰ y (map name_of fs)
  covered_before b fs bs q r e p y k l h f =
      rw (name_is regular pref n es s R I A y k h f) at (Memᴰ.map name_of (before n s.own (A.books b).grown fs bs q e y.home k (rw p l)))

  causal_row : (b : ℕ) (fs bs : List Row) (q : Row) (y : Transaction) → (A.books b).rows ≡ fs ++ (q ∷ bs) → (j i : ℕ) → i < s.got j j → q ≡ s.own j i
      → Memᴰ y (snapshot es (transaction j (s.own j i).serial)) → Memᴰ y (map name_of fs)
  causal_row b fs bs q y e j i h p m =
      let (k, l, f) = from_shelf regular pref n es s R I A _ _ (snap_of regular pref n es s R I A j i (s.own j i).serial h refl) (start_room j i h) y m in
      covered_before b fs bs q (s.own j i) e p y k l (omega (arith, l, start_room j i h y.home)) f

  named_row : (q : Row) (j i : ℕ) → i < s.got j j → q ≡ s.own j i → name_of q ≡ transaction j (s.own j i).serial
  named_row q j i h p = ap name_of p ∙ ap (λ k. transaction k (s.own j i).serial) (I.own_named j i h).0

  causal_rows : (b : ℕ) (fs bs : List Row) (q : Row) (y : Transaction) → (A.books b).rows ≡ fs ++ (q ∷ bs) → Memᴰ y (snapshot es (name_of q)) → Memᴰ y (map name_of fs)
  causal_rows b fs bs q y e m =
      let (j, i, l, p) = from_member n s.own (A.books b).grown q (rw e (Memᴰ.append_right fs (Memᴰ.head refl))) in
      let h : i < s.got j j = omega (arith, l, book_room regular pref n es s R I A b j) in
      causal_row b fs bs q y e j i h p (subst (λ z. Memᴰ y (snapshot es z)) (named_row q j i h p) m)

  pub causal : Causal es
  causal b fs bs x e y m =
      let S = A.books b in
      let P = split name_of S.rows fs x bs (sym S.same ∙ e) in
      subst (λ (v : List Transaction). Memᴰ y v) P.to_front
      (causal_rows b P.front P.back P.found y P.whole (subst (λ z. Memᴰ y (snapshot es z)) (sym P.to_found) m))
