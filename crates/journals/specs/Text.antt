-- The text of a journal: its bytes up to the first zero byte, or all of them. A last line without a line feed
-- is left out, however long: a recorder writes a line's first byte last, so such a line was never whole.
use Rattle.std.specs.Prelude.{ℕ, Bool, not, ◌==◌, nat_le, List, length, map, filter, take_while}
use Rattle.mpicall.specs.Lines.{lines_of, has_line_feed, body_of}
use Rattle.journals.specs.declared.limits.TheConstants.{MOST_LINE_BYTES}

abbrev pub is_in_text : ℕ → Bool
is_in_text byte = not (byte == 0)

abbrev pub text_of : List ℕ → List ℕ
text_of bytes = take_while is_in_text bytes

-- the whole lines of a text, each without its line feed
abbrev pub whole_lines : List ℕ → List (List ℕ)
whole_lines text = map body_of (filter has_line_feed (lines_of text))

-- the line has more bytes than a line may have, its line feed counted
abbrev pub is_too_long : List ℕ → Bool
is_too_long line = nat_le MOST_LINE_BYTES (length line)
