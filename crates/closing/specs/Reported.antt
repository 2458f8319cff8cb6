-- What a journal reports of its requests, anywhere, and so the messages of its receives and probes.
use Rattle.std.specs.Prelude.{ℕ, ℤ, pos, Bool, true, false, ◌&&◌, ◌||◌, not, ◌==◌, nat_lt, Option, Some, None, is_some, option_and_then, if◌then◌else◌, List, [], ◌∷◌}
use Rattle.std.specs.List.{list_any}
use Rattle.mpicall.specs.Word.{or_else}
use Rattle.mpicall.specs.declared.word.Collective.{Collective}
use Rattle.mpicall.specs.declared.word.Collective.TheVariants.{Bcast, Gather, Scatter, Reduce}
use Rattle.journals.specs.Lines.{Line}
use Rattle.journals.specs.Entries.{Entry}
use Rattle.journals.specs.Known.{report_of, is_any}
use Rattle.journals.specs.declared.field.Field.{Field}
use Rattle.journals.specs.declared.field.Field.TheVariants.{Natural, Signed, Null, Any}
use Rattle.journals.specs.declared.word.Word.{Word}
use Rattle.journals.specs.declared.word.Word.TheVariants.{Report}
use Rattle.journals.specs.declared.word.ReportWord.TheVariants as report
use Rattle.closing.specs.Called.{Awaited}

-- the source and the tag of a message
pub record Message : Type 0 where
  pub source : Field
  pub tag : Field

-- ---- Requests ----

-- the message with which a line reports the request to be done
abbrev pub done_in : ℕ → Word → List Field → Option Message
done_in request (Report report.Done) (Natural done ∷ source ∷ tag ∷ []) =
    if done == request then Some (record { source = source; tag = tag }) else None
done_in request _ _ = None

abbrev pub done_of : List Line → ℕ → Option Message
done_of [] request = None
done_of (line ∷ lines) request = or_else (done_in request line.word line.fields) (done_of lines request)

abbrev pub says_gone : ℕ → Word → List Field → Bool
says_gone request (Report report.Gone) (Natural gone ∷ []) = gone == request
says_gone request _ _ = false

-- the request was cancelled
abbrev pub is_gone : List Line → ℕ → Bool
is_gone lines request = list_any (λ line. says_gone request line.word line.fields) lines

abbrev pub says_kept : ℕ → Word → List Field → Bool
says_kept request (Report report.Kept) (Natural kept ∷ []) = kept == request
says_kept request _ _ = false

-- the request completed though a cancel named it
abbrev pub is_kept : List Line → ℕ → Bool
is_kept lines request = list_any (λ line. says_kept request line.word line.fields) lines

abbrev pub says_moved : ℕ → Word → List Field → Bool
says_moved request (Report report.Moved) (Natural moved ∷ []) = moved == request
says_moved request _ _ = false

-- the receive of the request goes on in the journal after this one
abbrev pub is_moved : List Line → ℕ → Bool
is_moved lines request = list_any (λ line. says_moved request line.word line.fields) lines

abbrev pub from_nobody : Awaited → Awaited
from_nobody it = record { comm = it.comm; source = Null; tag = Signed (pos 0) }

-- what a started receive awaits; that of a moved request nobody
abbrev pub unless_moved : List Line → ℕ → Awaited → Awaited
unless_moved lines request it = if is_moved lines request then from_nobody it else it

-- waits leave the request out
abbrev pub is_left_out : List Line → ℕ → Bool
is_left_out lines request = is_gone lines request || is_moved lines request

-- it was reported what came of a cancel of the request
abbrev pub is_settled : List Line → ℕ → Bool
is_settled lines request = is_gone lines request || is_kept lines request || is_some (done_of lines request)

-- ---- Messages ----

abbrev pub message_in : List Field → Option Message
message_in (source ∷ tag ∷ []) = Some (record { source = source; tag = tag })
message_in _ = None

-- the message that an entry's call took or saw, where it is reported
abbrev pub got_in : Entry → Option Message
got_in entry = option_and_then (λ line. message_in line.fields) (report_of report.Got entry)

-- a field, or what was reported in the place of a wildcard
abbrev pub known_field : Field → Field → Field
known_field Any reported = reported
known_field field reported = field

abbrev pub with_wildcards : Awaited → Option Message → Option Message
with_wildcards awaited None = None
with_wildcards awaited (Some it) =
    Some (record { source = known_field awaited.source it.source; tag = known_field awaited.tag it.tag })

abbrev pub message_from : Field → Awaited → Option Message → Option Message
message_from Null awaited reported = Some (record { source = Null; tag = known_field awaited.tag (Signed (pos 0)) })
message_from source awaited reported =
    if is_any awaited.source || is_any awaited.tag then with_wildcards awaited reported
    else Some (record { source = awaited.source; tag = awaited.tag })

-- the message that a receive or probe takes or sees; None where it has a wildcard of which nothing was reported. From
-- nobody there is no wildcard: any tag is 0
abbrev pub message_of : Awaited → Option Message → Option Message
message_of awaited reported = message_from awaited.source awaited reported

-- ---- What can be ----

-- nobody, a rank of a group of so many, or not known
abbrev pub peer_can_be : ℕ → Field → Bool
peer_can_be size Null = true
peer_can_be size (Signed (pos rank)) = nat_lt rank size
peer_can_be size Any = true
peer_can_be size _ = false

abbrev pub tag_can_be : Field → Bool
tag_can_be (Signed (pos tag)) = true
tag_can_be Any = true
tag_can_be _ = false

abbrev pub message_can_be : ℕ → Option Message → Bool
message_can_be size None = true
message_can_be size (Some it) = peer_can_be size it.source && tag_can_be it.tag

abbrev pub is_rooted : Collective → Bool
is_rooted Bcast = true
is_rooted Gather = true
is_rooted Scatter = true
is_rooted Reduce = true
is_rooted collective = false

-- a rank of the group, where the collective has a root
abbrev pub root_can_be : ℕ → Collective → Option ℤ → Bool
root_can_be size collective None = not (is_rooted collective)
root_can_be size collective (Some root) = peer_can_be size (Signed root)
