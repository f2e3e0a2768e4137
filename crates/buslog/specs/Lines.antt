-- The lines of a captured bus log, and the payload's digits in them.
use Rattle.std.specs.Borrow.{Bor}
use Rattle.std.specs.Prelude.{ℕ, ◌-◌, Bool, cond, ◌&&◌, ◌||◌, List, length, take, drop, Some, None, Option, codes, ◌==◌, nat_eq, nat_lt, slice_index}
use Rattle.std.specs.Char.{is_ascii_hexdigit}
use Rattle.std.specs.List.{list_all, prefix_len, starts_with}
use Rattle.std.specs.Cmp.Lexicographic.{pointwise}
use Rattle.buslog.specs.Classes.{is_blank, is_time, is_name}

abbrev pub Text : Type 0
Text = List ℕ

-- what a part of the text that the code hands back refers to
abbrev pub text_of : Option (Bor Text) → Option Text
text_of None = None
text_of (Some part) = Some part.now

-- a line without the carriage return that some systems end it with
abbrev pub body : Text → Text
body line =
    cond (nat_lt 0 (length line) && slice_index line (length line - 1) == 13) (take (length line - 1) line) line

-- a blank line, or a comment, which begins with #
abbrev pub skipped : Text → Bool
skipped line = list_all is_blank line || starts_with nat_eq line (codes "#")

-- the text behind another at its front
abbrev pub past : Text → Text → Option Text
past front text = cond (pointwise nat_eq (take (length front) text) front) (Some (drop (length front) text)) None

-- the text behind the bytes at its front that pass a test, if there are any
abbrev pub past_some : (ℕ → Bool) → Text → Option Text
past_some test text = cond (nat_lt 0 (prefix_len test text)) (Some (drop (prefix_len test text) text)) None

-- the text behind its first byte, if that passes a test
abbrev pub past_one : (ℕ → Bool) → Text → Option Text
past_one test text = cond (nat_lt 0 (prefix_len test text)) (Some (drop 1 text)) None

abbrev pub and_then : Option Text → (Text → Option Text) → Option Text
and_then None f = None
and_then (Some text) f = f text

-- (TIME) and a space
abbrev pub past_time : Text → Option Text
past_time text = and_then (past (codes "(") text) (λ a. and_then (past_some is_time a) (past (codes ") ")))

-- INTERFACE and a space
abbrev pub past_name : Text → Option Text
past_name text = and_then (past_some is_name text) (past (codes " "))

-- ID##F, where F is one digit
abbrev pub past_id : Text → Option Text
past_id text = and_then (past_some is_ascii_hexdigit text) (λ a. and_then (past (codes "##") a) (past_one is_ascii_hexdigit))

-- the payload in a line that `candump -L` writes of a CAN FD frame: (TIME) INTERFACE ID##F and the payload
abbrev pub candump : Text → Option Text
candump line = and_then (past_time line) (λ a. and_then (past_name a) past_id)

-- a line that opens a bracket is of `candump`; any other is all payload
abbrev pub payload_of : Text → Option Text
payload_of line = cond (starts_with nat_eq line (codes "(")) (candump line) (Some line)
