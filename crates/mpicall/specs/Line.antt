-- The first fault of a line. A line's body is its bytes without the last line feed; its fields are
-- what lies between single spaces. A word has a shape, which says what fields it takes.
use Rattle.std.specs.Prelude.{ℕ, ◌+◌, ◌-◌, Bool, true, false, ◌&&◌, ◌==◌, nat_le, nat_lt, Option, Some, None, if◌then◌else◌, List, [], ◌∷◌, length, take, drop, codes}
use Rattle.std.specs.List.{list_any, list_all}
use Rattle.std.specs.Str.{bytes_eq}
use Rattle.mpicall.specs.Argument.{Form, PeerForm, ColourForm, KeyForm, NewForm, comm_form, tag_form, request_form, bytes_form, root_form, index_form, is_in_form}
use Rattle.mpicall.specs.Word.{layout_of, word_of}
use Rattle.mpicall.specs.Lines.{is_blank, most_bytes, has_line_feed, split_fields, body_of}
use Rattle.mpicall.specs.declared.limits.TheConstants.{MOST_REQUESTS}
use Rattle.mpicall.specs.declared.word.Collective.{Collective}
use Rattle.mpicall.specs.declared.word.Collective.TheVariants.{Bcast, Gather, Scatter, Reduce}
use Rattle.mpicall.specs.declared.call.Mode.TheVariants.{Standard, Synchronous, Buffered}
use Rattle.mpicall.specs.declared.word.Operation.{Operation}
use Rattle.mpicall.specs.declared.word.Operation.TheVariants.{Send, Recv, Coll}
use Rattle.mpicall.specs.declared.word.Word.{Word}
use Rattle.mpicall.specs.declared.word.Word.TheVariants.{Blocking, Started, Named}
use Rattle.mpicall.specs.declared.word.Layout.{Layout}
use Rattle.mpicall.specs.declared.word.Layout.TheVariants.{Nothing, Message, Exchange, Request, Requests as AllRequests, Chosen as ChosenRequest, Copy, Split}
use Rattle.mpicall.specs.declared.fault.LineFault.{LineFault}
use Rattle.mpicall.specs.declared.fault.LineFault.TheVariants.{EmptyField, UnknownWord, FieldCount, FieldForm, Wildcard, TooLong, NoLineFeed}

-- a fixed row of forms, or requests, or an index and requests
pub data Shape : Type 0 where
  Fixed : List Form → Shape
  Requests : Shape
  Chosen : Shape

-- the root of a collective that has one
abbrev pub root_forms : Collective → List Form
root_forms Bcast = root_form ∷ []
root_forms Gather = root_form ∷ []
root_forms Scatter = root_form ∷ []
root_forms Reduce = root_form ∷ []
root_forms _ = []

-- the bytes of a message may follow so many fields: where there is one field more
abbrev pub bytes_forms : ℕ → ℕ → List Form
bytes_forms plain count = if count == plain + 1 then bytes_form ∷ [] else []

-- the forms of the fields of an operation, where there are so many fields
abbrev pub operation_forms : Operation → ℕ → List Form
operation_forms (Send Standard) count = comm_form ∷ PeerForm ∷ tag_form ∷ bytes_forms 3 count
operation_forms (Send Synchronous) count = comm_form ∷ PeerForm ∷ tag_form ∷ []
operation_forms (Send Buffered) count = comm_form ∷ PeerForm ∷ tag_form ∷ []
operation_forms Recv count = comm_form ∷ PeerForm ∷ tag_form ∷ []
operation_forms (Coll collective) count = comm_form ∷ root_forms collective

-- the shape of what follows a name, where there are so many fields
abbrev pub shape_by : Layout → ℕ → Shape
shape_by Nothing count = Fixed []
shape_by Message count = Fixed (comm_form ∷ PeerForm ∷ tag_form ∷ [])
shape_by Exchange count = Fixed (comm_form ∷ PeerForm ∷ tag_form ∷ PeerForm ∷ tag_form ∷ bytes_forms 5 count)
shape_by Request count = Fixed (request_form ∷ [])
shape_by AllRequests count = Requests
shape_by ChosenRequest count = Chosen
shape_by Copy count = Fixed (comm_form ∷ comm_form ∷ [])
shape_by Split count = Fixed (comm_form ∷ ColourForm ∷ KeyForm ∷ NewForm ∷ [])

-- the shape of a word's line that has so many fields after it; what starts an operation has its request in front
abbrev pub shape_of : Word → ℕ → Shape
shape_of (Blocking operation) count = Fixed (operation_forms operation count)
shape_of (Started operation) count = Fixed (request_form ∷ operation_forms operation (count - 1))
shape_of (Named name) count = shape_by (layout_of name) count

-- a line of this shape may have so many fields after its word
abbrev pub takes_count : Shape → ℕ → Bool
takes_count (Fixed forms) count = length forms == count
takes_count Requests count = nat_le 1 count && nat_le count MOST_REQUESTS
takes_count Chosen count = nat_le 2 count && nat_le count (MOST_REQUESTS + 1)

-- each field is in its form and range
abbrev pub each_in_form : List Form → List (List ℕ) → Bool
each_in_form (form ∷ forms) (field ∷ fields) = is_in_form form field && each_in_form forms fields
each_in_form _ _ = true

abbrev pub all_requests : List (List ℕ) → Bool
all_requests fields = list_all (is_in_form request_form) fields

abbrev pub all_in_form : Shape → List (List ℕ) → Bool
all_in_form (Fixed forms) fields = each_in_form forms fields
all_in_form Requests fields = all_requests fields
all_in_form Chosen [] = true
all_in_form Chosen (index ∷ requests) = is_in_form (index_form (length requests)) index && all_requests requests

-- the field is a wildcard
abbrev pub is_any : List ℕ → Bool
is_any field = bytes_eq field (codes "any")

-- how many fields come before a source, after which its tag comes
abbrev pub source_by : Layout → Option ℕ
source_by Message = Some 1
source_by Exchange = Some 3
source_by _ = None

-- the same after a word
abbrev pub source_place : Word → Option ℕ
source_place (Blocking Recv) = Some 1
source_place (Started Recv) = Some 2
source_place (Named name) = source_by (layout_of name)
source_place _ = None

-- a wildcard is the source or the tag of a receive
abbrev pub wildcard_at : Option ℕ → List (List ℕ) → Bool
wildcard_at None fields = false
wildcard_at (Some place) fields = list_any is_any (take 2 (drop place fields))

-- the first fault of the fields after a word
abbrev pub fault_behind : Word → List (List ℕ) → Option LineFault
fault_behind word fields =
    if takes_count (shape_of word (length fields)) (length fields)
    then (if wildcard_at (source_place word) fields then Some Wildcard
    else (if all_in_form (shape_of word (length fields)) fields then None else Some FieldForm))
    else Some FieldCount

abbrev pub fault_by_word : Option Word → List (List ℕ) → Option LineFault
fault_by_word None fields = Some UnknownWord
fault_by_word (Some word) fields = fault_behind word fields

-- the first fault of the fields of a line, its word first
unfoldable pub fault_of_fields : List (List ℕ) → Option LineFault
fault_of_fields [] = Some EmptyField
fault_of_fields (word ∷ fields) =
    if list_any is_blank (word ∷ fields) then Some EmptyField else fault_by_word (word_of word) fields

-- the first fault of a line; none for a spelling
unfoldable pub fault_of_line : List ℕ → Option LineFault
fault_of_line line =
    if nat_lt most_bytes (length line) then Some TooLong
    else (if has_line_feed line then fault_of_fields (split_fields (body_of line)) else Some NoLineFeed)
