-- The arguments of a call, each of which is one field of its line: how it is spelled, its range, and what
-- a field says that is read as an argument of some form.
use Rattle.mpicall.specs.Names.{Rank, Comm, Request, Tag}
use Rattle.std.specs.Prelude.{ℕ, ◌-◌, ℤ, pos, negsuc, Bool, true, nat_le, Option, Some, None, is_some, option_map, if◌then◌else◌, List, [], ◌∷◌, codes}
use Rattle.std.specs.Fmt.{decimal, signed_decimal}
use Rattle.std.specs.Str.{bytes_eq}
use Rattle.mpicall.specs.Number.{number_up_to, signed_of}
use Rattle.mpicall.specs.declared.limits.TheConstants.{GREATEST_COMM, GREATEST_RANK, GREATEST_TAG, GREATEST_REQUEST, GREATEST_BYTES, GREATEST_COLOUR, GREATEST_KEY}
use Rattle.mpicall.specs.declared.call.Peer.{Peer}
use Rattle.mpicall.specs.declared.call.Peer.TheVariants as peer

-- a number with the greatest that may be in its place, a peer, a colour or none, a key, and the new
-- communicator of a split or none
pub data Argument : Type 0 where
  Number : ℕ → ℕ → Argument
  PeerOf : Peer → Argument
  Colour : Option ℕ → Argument
  Key : ℤ → Argument
  New : Option ℕ → Argument

abbrev pub comm_argument : Comm → Argument
comm_argument comm = Number GREATEST_COMM comm

abbrev pub tag_argument : Tag → Argument
tag_argument tag = Number GREATEST_TAG tag

abbrev pub request_argument : Request → Argument
request_argument req = Number GREATEST_REQUEST req

abbrev pub bytes_argument : ℕ → Argument
bytes_argument bytes = Number GREATEST_BYTES bytes

-- how many bytes a message has, where that is said
abbrev pub bytes_arguments : Option ℕ → List Argument
bytes_arguments None = []
bytes_arguments (Some bytes) = bytes_argument bytes ∷ []

abbrev pub root_argument : Rank → Argument
root_argument root = Number GREATEST_RANK root

-- the index of one of `count` requests, from 0
abbrev pub index_argument : ℕ → ℕ → Argument
index_argument count index = Number (count - 1) index

-- the field of a number, or a text where there is none
abbrev pub number_or : List ℕ → Option ℕ → List ℕ
number_or text None = text
number_or text (Some n) = decimal n

-- the field of a peer
abbrev pub peer_field : Peer → List ℕ
peer_field (peer.Rank rank) = decimal rank
peer_field peer.Null = codes "null"

-- the field of an argument
abbrev pub spell : Argument → List ℕ
spell (Number greatest n) = decimal n
spell (PeerOf peer) = peer_field peer
spell (Colour colour) = number_or (codes "undefined") colour
spell (Key key) = signed_decimal key
spell (New new) = number_or (codes "none") new

abbrev pub none_or_up_to : ℕ → Option ℕ → Bool
none_or_up_to greatest None = true
none_or_up_to greatest (Some n) = nat_le n greatest

abbrev pub peer_in_range : Peer → Bool
peer_in_range (peer.Rank rank) = nat_le rank GREATEST_RANK
peer_in_range peer.Null = true

-- keys are the signed numbers of 32 bits
abbrev pub key_in_range : ℤ → Bool
key_in_range (pos n) = nat_le n GREATEST_KEY
key_in_range (negsuc n) = nat_le n GREATEST_KEY

-- the argument lies in its range
abbrev pub is_in_range : Argument → Bool
is_in_range (Number greatest n) = nat_le n greatest
is_in_range (PeerOf peer) = peer_in_range peer
is_in_range (Colour colour) = none_or_up_to GREATEST_COLOUR colour
is_in_range (Key key) = key_in_range key
is_in_range (New new) = none_or_up_to GREATEST_COMM new

-- the forms of fields, one for each form of argument
pub data Form : Type 0 where
  NumberUpTo : ℕ → Form
  PeerForm ColourForm KeyForm NewForm : Form

abbrev pub comm_form : Form
comm_form = NumberUpTo GREATEST_COMM

abbrev pub tag_form : Form
tag_form = NumberUpTo GREATEST_TAG

abbrev pub request_form : Form
request_form = NumberUpTo GREATEST_REQUEST

abbrev pub bytes_form : Form
bytes_form = NumberUpTo GREATEST_BYTES

abbrev pub root_form : Form
root_form = NumberUpTo GREATEST_RANK

abbrev pub index_form : ℕ → Form
index_form count = NumberUpTo (count - 1)

-- what a field says that is a number up to a limit, or a text where there is none
abbrev pub read_number_or : List ℕ → ℕ → List ℕ → Option (Option ℕ)
read_number_or text greatest field =
    if bytes_eq field text then Some None else option_map Some (number_up_to greatest field)

abbrev pub read_peer : List ℕ → Option Peer
read_peer field = if bytes_eq field (codes "null") then Some peer.Null
    else option_map peer.Rank (number_up_to GREATEST_RANK field)

-- the argument of a form that a field spells; None where the field isn't in that form or its range
abbrev pub read_argument : Form → List ℕ → Option Argument
read_argument (NumberUpTo greatest) field = option_map (Number greatest) (number_up_to greatest field)
read_argument PeerForm field = option_map PeerOf (read_peer field)
read_argument ColourForm field = option_map Colour (read_number_or (codes "undefined") GREATEST_COLOUR field)
read_argument KeyForm field = option_map Key (signed_of field)
read_argument NewForm field = option_map New (read_number_or (codes "none") GREATEST_COMM field)

-- the field is in its form and range
abbrev pub is_in_form : Form → List ℕ → Bool
is_in_form form field = is_some (read_argument form field)
