-- What proofs and private contracts cite, in addition to the definitions of `specs/Argument.antt`.
use Rattle.mpicall.specs.Argument.{Argument, Form, Number, PeerOf, Colour, Key, New, NumberUpTo, PeerForm, ColourForm, KeyForm, NewForm}

-- the form of an argument
abbrev pub form_of : Argument → Form
form_of (Number greatest n) = NumberUpTo greatest
form_of (PeerOf peer) = PeerForm
form_of (Colour colour) = ColourForm
form_of (Key key) = KeyForm
form_of (New new) = NewForm
