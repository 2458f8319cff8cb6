-- The preface as the code makes it: lines of communicators with their groups, and each rank's seat in a line.
use Rattle.std.specs.Prelude.{◌≡◌, ℕ, zero, suc, ◌+◌, ◌*◌, ◌<◌, pos, Bool, true, false, ◌==◌, Option, Some, None, if◌then◌else◌, List, [], ◌∷◌, ◌++◌, length, drop, slice_get, slice_set}
use Rattle.std.specs.List.{list_any, position_or_len}
use Rattle.mpicall.specs.declared.call.Call.{Call}
use Rattle.mpicall.specs.declared.call.Call.TheVariants.{Split}
use Rattle.closing.specs.Table.{Table, group_at}
use Rattle.closing.specs.declared.keys.Key.TheVariants as code
use Rattle.closing.specs.declared.keys.Key.{Key as KeyCode}
use Rattle.closing.specs.declared.numbers.Preface.{Preface}
use Rattle.closing.specs.declared.numbers.Seat.{Seat}

-- a communicator that the preface makes: its number and its group
pub record Seated : Type 0 where
  pub comm : ℕ
  pub group : List ℕ

abbrev pub has_rank : ℕ → List ℕ → Bool
has_rank rank group = list_any (λ member. member == rank) group

-- two groups have a member in common
abbrev pub share_rank : List ℕ → List ℕ → Bool
share_rank group other = list_any (λ rank. has_rank rank other) group

-- one of a line's groups has a member in common with a group
abbrev pub shares : List ℕ → List Seated → Bool
shares group line = list_any (λ other. share_rank group other.group) line

-- each goes into the first line of which it shares a member with none
abbrev pub put_seated : Seated → List (List Seated) → List (List Seated)
put_seated it [] = (it ∷ []) ∷ []
put_seated it (line ∷ lines) =
    if shares it.group line then line ∷ put_seated it lines else (line ++ it ∷ []) ∷ lines

abbrev pub put_seated_if : Bool → Seated → List (List Seated) → List (List Seated)
put_seated_if true it lines = put_seated it lines
put_seated_if false it lines = lines

abbrev pub put_all : List Seated → List (List Seated) → List (List Seated)
put_all [] lines = lines
put_all (it ∷ others) lines = put_all others (put_seated it lines)

-- the place of the first line with which a group shares no member
abbrev pub first_free : List ℕ → List (List Seated) → ℕ
first_free group [] = 0
first_free group (line ∷ lines) = if shares group line then first_free group lines + 1 else 0

-- with a line at a place, which is that after the last one at most
abbrev pub with_line : ℕ → List (List Seated) → List (List Seated)
with_line place [] = [] ∷ []
with_line zero (line ∷ lines) = line ∷ lines
with_line (suc place) (line ∷ lines) = line ∷ with_line place lines

-- the split of a line, of which the first of these has this colour: a rank gets that whose member it is
abbrev pub seated_split : ℕ → ℕ → List Seated → Call
seated_split rank colour [] = Split 0 None (pos 0) None
seated_split rank colour (it ∷ others) =
    if has_rank rank it.group
    then Split 0 (Some colour) (pos (position_or_len (λ member. member == rank) it.group)) (Some it.comm)
    else seated_split rank (colour + 1) others

-- ---- Those of the head ----

-- no call on a parent makes it
abbrev pub is_of_none : Option KeyCode → Bool
is_of_none (Some (code.Made wave group)) = false
is_of_none it = true

abbrev pub seated_if : Bool → ℕ → List ℕ → List Seated → List Seated
seated_if true comm group others = record { comm = comm; group = group } ∷ others
seated_if false comm group others = others

-- those of some keys' places that the preface makes; the first has this number
abbrev pub seated_from : Table → ℕ → List ℕ → List Seated
seated_from table number [] = []
seated_from table number (place ∷ places) =
    seated_if (is_of_none (slice_get table.codes place)) number (group_at table place) (seated_from table (number + 1) places)

-- ---- Seats ----

-- the seat of a rank in a group; its place there
abbrev pub seat_of : ℕ → Seated → Seat
seat_of rank it = record { comm = it.comm; place = position_or_len (λ member. member == rank) it.group }

-- that in a line, if it has one
abbrev pub seat_in : ℕ → List Seated → Option Seat
seat_in rank [] = None
seat_in rank (it ∷ others) = if has_rank rank it.group then Some (seat_of rank it) else seat_in rank others

-- its members are ranks of a run of so many
abbrev pub AreRanks : ℕ → List ℕ → Type 0
AreRanks ranks group = (place member : ℕ) → slice_get group place ≡ Some member → member < ranks

-- what stands where the rank's seat of a line is
abbrev pub seat_at : Preface → ℕ → ℕ → Option (Option Seat)
seat_at preface line rank = slice_get preface.seats.items (line * preface.ranks + rank)

abbrev pub is_seat : Option (Option Seat) → Bool
is_seat (Some (Some seat)) = true
is_seat _ = false

-- with a seat at a place, where none is
abbrev pub with_seat_by : Option (Option Seat) → List (Option Seat) → ℕ → Seat → List (Option Seat)
with_seat_by (Some None) seats place seat = slice_set seats place (Some seat)
with_seat_by it seats place seat = seats

abbrev pub with_seat : List (Option Seat) → ℕ → Seat → List (Option Seat)
with_seat seats place seat = with_seat_by (slice_get seats place) seats place seat

-- with seats for a communicator's members from a place of its group on, in the line that begins here
abbrev pub seats_with : List (Option Seat) → ℕ → ℕ → ℕ → List ℕ → List (Option Seat)
seats_with seats begin comm place [] = seats
seats_with seats begin comm place (member ∷ others) =
    seats_with (with_seat seats (begin + member) (record { comm = comm; place = place }))
    begin comm (place + 1) others

-- the preface has these lines, of communicators whose numbers are below this one
pub record IsPreface (preface : Preface) (next : ℕ) (lines : List (List Seated)) : Type 0 where
  pub count : length preface.sizes.items ≡ length lines
  pub room : length preface.seats.items ≡ length lines * preface.ranks
  pub sizes : (place : ℕ) (line : List Seated) → slice_get lines place ≡ Some line
      → slice_get preface.sizes.items place ≡ Some (length line)
  pub seats : (place rank : ℕ) (line : List Seated) → slice_get lines place ≡ Some line
      → rank < preface.ranks → seat_at preface place rank ≡ Some (seat_in rank line)
  pub colours : (place colour : ℕ) (line : List Seated) (it : Seated) → slice_get lines place ≡ Some line
      → slice_get line colour ≡ Some it → slice_get preface.colours.items it.comm ≡ Some colour
  pub below : (place colour : ℕ) (line : List Seated) (it : Seated) → slice_get lines place ≡ Some line
      → slice_get line colour ≡ Some it → it.comm < next
  pub short : (place : ℕ) (line : List Seated) → slice_get lines place ≡ Some line → length line < next
  pub some : 0 < next

-- those that are left, put into some lines
pub record IsLeft (table : Table) (numbered : List ℕ) (preface : Preface) (number : ℕ) : Type 0 where
  pub lines : List (List Seated)
  pub is : IsPreface preface number lines
  pub same : put_all (seated_from table number (drop number numbered)) lines ≡ put_all (seated_from table 1 (drop 1 numbered)) []
