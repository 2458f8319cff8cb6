-- The lines of a text and their fields. A line goes through its line feed; its body is its bytes without
-- the last line feed, and its fields are what lies between single spaces.
use Rattle.std.specs.Prelude.{ℕ, ◌-◌, Bool, ◌&&◌, ◌==◌, nat_lt, if◌then◌else◌, List, [], ◌∷◌, length, slice_index, take}
use Rattle.std.specs.List.{slice_split, onto_first, count_by}
use Rattle.mpicall.specs.declared.limits.TheConstants.{MOST_LINE_BYTES}
use Rattle.mpicall.specs.Spelling.{space, line_feed}

-- the lines of a text, each through its line feed or through the end of the text
abbrev pub lines_of : List ℕ → List (List ℕ)
lines_of [] = []
lines_of (byte ∷ bytes) = if byte == line_feed then (byte ∷ []) ∷ lines_of bytes else onto_first byte (lines_of bytes)

-- the most bytes of a line, its line feed counted
abbrev pub most_bytes : ℕ
most_bytes = MOST_LINE_BYTES

-- the line ends with a line feed
abbrev pub has_line_feed : List ℕ → Bool
has_line_feed line = nat_lt 0 (length line) && slice_index line (length line - 1) == line_feed

-- the fields of a body, which are what lies between its spaces
abbrev pub split_fields : List ℕ → List (List ℕ)
split_fields body = slice_split (λ byte. byte == space) body

-- the bytes of a line without its line feed
abbrev pub body_of : List ℕ → List ℕ
body_of line = take (length line - 1) line

-- the field has no bytes
abbrev pub is_blank : List ℕ → Bool
is_blank field = length field == 0

-- how many lines of a text have their line feed
abbrev pub whole_lines : List ℕ → ℕ
whole_lines bytes = count_by has_line_feed (lines_of bytes)
