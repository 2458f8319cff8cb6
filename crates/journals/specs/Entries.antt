-- The entries of a journal: an entry is a call line with the reported lines after it.
use Rattle.std.specs.Prelude.{ℕ, Bool, true, false, ◌||◌, Option, Some, None, if◌then◌else◌, List, [], ◌∷◌, length}
use Rattle.std.specs.List.{filter_map, zip}
use Rattle.journals.specs.Words.{forms_of}
use Rattle.journals.specs.Lines.{Line}
use Rattle.journals.specs.declared.form.Form.{Form}
use Rattle.journals.specs.declared.form.Form.TheVariants.{NewRequest, NewMessage, Request, Message, Comm, NewComm, Member}
use Rattle.journals.specs.declared.field.Field.{Field}
use Rattle.journals.specs.declared.field.Field.TheVariants.{Natural}
use Rattle.journals.specs.declared.word.Word.{Word}
use Rattle.journals.specs.declared.word.Word.TheVariants.{Call, Report}
use Rattle.journals.specs.declared.word.CallWord.{CallWord}

-- what fields of some forms say
abbrev pub number_if : (Form → Bool) → Form × Field → Option ℕ
number_if test (form, Natural number) = if test form then Some number else None
number_if test _ = None

abbrev pub numbers_by : (Form → Bool) → Line → List ℕ
numbers_by test line = filter_map (number_if test) (zip (forms_of line.word (length line.fields)) line.fields)

abbrev pub is_new_request : Form → Bool
is_new_request NewRequest = true
is_new_request _ = false

abbrev pub is_new_message : Form → Bool
is_new_message NewMessage = true
is_new_message _ = false

abbrev pub is_request : Form → Bool
is_request Request = true
is_request _ = false

abbrev pub is_message : Form → Bool
is_message Message = true
is_message _ = false

abbrev pub is_comm : Form → Bool
is_comm Comm = true
is_comm _ = false

abbrev pub is_new_comm : Form → Bool
is_new_comm NewComm = true
is_new_comm _ = false

abbrev pub is_member : Form → Bool
is_member Member = true
is_member _ = false

-- a new or an earlier request or message
abbrev pub is_of_request : Form → Bool
is_of_request form = is_new_request form || is_new_message form || is_request form || is_message form

-- the group that a line has
abbrev pub group_in : Line → List ℕ
group_in line = numbers_by is_member line

-- a call line, and its reports in their order
pub record Entry : Type 0 where
  pub word : CallWord
  pub fields : List Field
  pub reports : List Line

abbrev pub call_of : Entry → Line
call_of entry = record { word = Call entry.word; fields = entry.fields }

-- the reports before the first call line, and the entries
pub record Listing : Type 0 where
  pub early : List Line
  pub entries : List Entry

abbrev pub put_line : Word → List Field → Listing → Listing
put_line (Call word) fields rest =
    record
    { early = []; entries = record { word = word; fields = fields; reports = rest.early } ∷ rest.entries }
put_line (Report word) fields rest =
    record { early = record { word = Report word; fields = fields } ∷ rest.early; entries = rest.entries }

abbrev pub listing_of : List Line → Listing
listing_of [] = record { early = []; entries = [] }
listing_of (line ∷ lines) = put_line line.word line.fields (listing_of lines)

abbrev pub entries_of : List Line → List Entry
entries_of lines = (listing_of lines).entries

abbrev pub last_of : List Entry → Option Entry
last_of [] = None
last_of (entry ∷ []) = Some entry
last_of (_ ∷ entry ∷ entries) = last_of (entry ∷ entries)

abbrev pub last_entry : List Line → Option Entry
last_entry lines = last_of (entries_of lines)
