-- Tests of the bytes in a log's lines; hexadecimal digits have the library's.
use Rattle.std.specs.Prelude.{ℕ, Bool, not, ◌&&◌, ◌||◌, ◌==◌, nat_le}
use Rattle.std.specs.Char.{is_ascii_digit}

-- space, tab and the other characters that only move on
abbrev pub is_blank : ℕ → Bool
is_blank c = c == 32 || (nat_le 9 c && nat_le c 13)

-- digits and a point
abbrev pub is_time : ℕ → Bool
is_time c = c == 46 || is_ascii_digit c

-- anything but a space
abbrev pub is_name : ℕ → Bool
is_name c = not (c == 32)
