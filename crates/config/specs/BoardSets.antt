-- Sets of boards, as sums of site marks.
use Rattle.std.specs.Prelude.{ℕ, Bool, not, List, [], ◌∷◌, ◌==◌, bit_and, bit_or, slice_index}

-- the mark of each board
abbrev pub site_marks : List ℕ
site_marks = 1 ∷ 2 ∷ 4 ∷ 8 ∷ 16 ∷ 32 ∷ 64 ∷ 128 ∷ []

abbrev pub mark_of : ℕ → ℕ
mark_of board = slice_index site_marks board

abbrev pub is_in : ℕ → ℕ → Bool
is_in set board = not ((bit_and set (mark_of board)) == 0)

-- the sum of the marks, each counted once
abbrev pub with_board : ℕ → ℕ → ℕ
with_board set board = bit_or set (mark_of board)
