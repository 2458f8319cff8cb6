-- The text of a head, read line by line. The first line is `ranks P`. Each further line is `comm` and
-- the ordered group of communicator 1, 2 and so on, as ranks of the world. Communicator 0 is the world,
-- whose group is the ranks in order. The fault of a head is the first fault of its first line that has
-- one.
use Rattle.mpicall.specs.Names.{Rank}
use Rattle.std.specs.Prelude.{◌≡◌, ℕ, ◌+◌, Bool, false, ◌&&◌, ◌||◌, not, ◌==◌, nat_le, nat_lt, Result, Ok, Err, if◌then◌else◌, List, [], ◌∷◌, length, map, drop, codes}
use Rattle.std.specs.List.{list_all, list_any, range_with_len}
use Rattle.std.specs.Str.{bytes_eq}
use Rattle.mpicall.specs.Lines.{lines_of, has_line_feed, split_fields, body_of}
use Rattle.mpicall.specs.Number.{is_canonical, value_of}
use Rattle.mpigroup.specs.Groups.{Groups}
use Rattle.mpigroup.specs.declared.limits.TheConstants.{MOST_RANKS, MOST_COMMS, MOST_HEAD_LINE_BYTES, DECIDING_BYTES}
use Rattle.mpigroup.specs.declared.fault.HeadFault.{HeadFault}
use Rattle.mpigroup.specs.declared.fault.HeadFaultKind.{HeadFaultKind}
use Rattle.mpigroup.specs.declared.fault.HeadFaultKind.TheVariants.{FirstLine, RankCount, CommLine, Group, TooManyComms, LineForm}

-- Law: the limits of a head, in numbers.
pub record TheLimitsOfAHead : Type 0 where
  pub most_ranks : MOST_RANKS ≡ 1024
  pub most_comms : MOST_COMMS ≡ 4096
  pub most_head_line_bytes : MOST_HEAD_LINE_BYTES ≡ 4096
  pub deciding_bytes : DECIDING_BYTES ≡ 16777217

-- the line isn't too long for a head, and ends with its line feed
abbrev pub is_head_line : List ℕ → Bool
is_head_line line = nat_le (length line) MOST_HEAD_LINE_BYTES && has_line_feed line

-- a number of ranks, if a run may have so many
abbrev pub checked_ranks : ℕ → Result ℕ HeadFaultKind
checked_ranks ranks = if nat_le 1 ranks && nat_le ranks MOST_RANKS then Ok ranks else Err RankCount

-- the number of ranks that the fields of the first line give
unfoldable pub ranks_of_fields : List (List ℕ) → Result ℕ HeadFaultKind
ranks_of_fields (word ∷ number ∷ []) =
    if bytes_eq word (codes "ranks") && is_canonical number then checked_ranks (value_of number) else Err FirstLine
ranks_of_fields _ = Err FirstLine

-- the number of ranks that the first line gives
abbrev pub ranks_of_line : List ℕ → Result ℕ HeadFaultKind
ranks_of_line line = if is_head_line line then ranks_of_fields (split_fields (body_of line)) else Err LineForm

-- some number is in the list twice
abbrev pub has_twice : List ℕ → Bool
has_twice [] = false
has_twice (x ∷ xs) = list_any (λ y. y == x) xs || has_twice xs

-- some ranks of the run, none of them twice
abbrev pub is_group : ℕ → List Rank → Bool
is_group ranks members = nat_le 1 (length members) && list_all (λ member. nat_lt member ranks) members && not (has_twice members)

-- the members, if they may be a group
abbrev pub checked_group : ℕ → List Rank → Result (List ℕ) HeadFaultKind
checked_group ranks members = if is_group ranks members then Ok members else Err Group

-- the fields are `comm` and canonical numbers, which may be none
abbrev pub is_comm_line : List (List ℕ) → Bool
is_comm_line [] = false
is_comm_line (word ∷ numbers) = bytes_eq word (codes "comm") && list_all is_canonical numbers

-- the group that the fields of a further line give
abbrev pub group_of_fields : ℕ → List (List ℕ) → Result (List ℕ) HeadFaultKind
group_of_fields ranks fields =
    if is_comm_line fields then checked_group ranks (map value_of (drop 1 fields)) else Err CommLine

-- the group that a further line gives, by the number of the line
abbrev pub group_of_line : ℕ → ℕ → List ℕ → Result (List ℕ) HeadFaultKind
group_of_line ranks number line =
    if nat_lt MOST_COMMS number then Err TooManyComms
    else (if is_head_line line then group_of_fields ranks (split_fields (body_of line)) else Err LineForm)

-- a fault at a line, by its number from 1
abbrev pub fault_on_line : ℕ → HeadFaultKind → HeadFault
fault_on_line number kind = record { line = number; kind = kind }

-- what a line gives, with the line's number at its fault
abbrev pub at_line : {T : Type 0} → ℕ → Result T HeadFaultKind → Result T HeadFault
at_line number (Ok value) = Ok value
at_line number (Err kind) = Err (fault_on_line number kind)

-- one more group in front
abbrev pub put_front : List Rank → Result Groups HeadFault → Result Groups HeadFault
put_front group (Ok groups) = Ok (group ∷ groups)
put_front group (Err fault) = Err fault

-- a line's group and those of the lines after it; the line's own fault comes first
abbrev pub put_line : Result (List ℕ) HeadFault → Result Groups HeadFault → Result Groups HeadFault
put_line (Ok group) behind = put_front group behind
put_line (Err fault) behind = Err fault

-- the groups that the further lines give, of which the first has this number
abbrev pub groups_of_lines : ℕ → ℕ → List (List ℕ) → Result Groups HeadFault
groups_of_lines ranks number [] = Ok []
groups_of_lines ranks number (line ∷ lines) =
    put_line (at_line number (group_of_line ranks number line)) (groups_of_lines ranks (number + 1) lines)

-- the groups of a head, the world's first, by what its first line gives
abbrev pub groups_behind : Result ℕ HeadFault → List (List ℕ) → Result Groups HeadFault
groups_behind (Ok ranks) lines = put_front (range_with_len 0 ranks) (groups_of_lines ranks 2 lines)
groups_behind (Err fault) lines = Err fault

-- the groups that a head's lines give, or the first fault
abbrev pub head_of_lines : List (List ℕ) → Result Groups HeadFault
head_of_lines [] = Err (fault_on_line 1 FirstLine)
head_of_lines (first ∷ others) = groups_behind (at_line 1 (ranks_of_line first)) others

-- the groups that a head gives, or its first fault
unfoldable pub read_head : List ℕ → Result Groups HeadFault
read_head text = head_of_lines (lines_of text)
