-- The words of a journal's lines, each with its text and the forms of its fields: a table of the call lines,
-- and one of the reported lines.
use Rattle.std.specs.Prelude.{ℕ, ◌-◌, ◌==◌, max, Bool, true, false, if◌then◌else◌, Option, Some, None, option_map, List, [], ◌∷◌, ◌++◌, length, map, replicate, codes}
use Rattle.std.specs.Str.{bytes_eq}
use Rattle.mpicall.specs.Word.{or_else}
use Rattle.journals.specs.declared.form.Form.{Form}
use Rattle.journals.specs.declared.form.Form.TheVariants.{NewRequest, NewMessage, Request, Message, Comm, NewComm, Member, Peer, Source, Tag, SourceTag, Root, Colour, Key, Bytes}
use Rattle.journals.specs.declared.form.More.{More}
use Rattle.journals.specs.declared.form.More.TheVariants as more
use Rattle.journals.specs.declared.word.CallWord.{CallWord}
use Rattle.journals.specs.declared.word.CallWord.TheVariants as call
use Rattle.journals.specs.declared.word.ReportWord.{ReportWord}
use Rattle.journals.specs.declared.word.ReportWord.TheVariants as report
use Rattle.journals.specs.declared.word.Word.{Word}
use Rattle.journals.specs.declared.word.Word.TheVariants.{Call, Report}

-- a word's text, the forms of the fields that it always has, and what may follow them
pub record Row : Type 0 where
  pub text : List ℕ
  pub forms : List Form
  pub more : More

abbrev pub fixed : List ℕ → List Form → Row
fixed text forms = record { text = text; forms = forms; more = more.Nothing }

abbrev pub with_bytes : List ℕ → List Form → Row
with_bytes text forms = record { text = text; forms = forms; more = more.Bytes }

abbrev pub with_several : List ℕ → List Form → Form → Row
with_several text forms form = record { text = text; forms = forms; more = more.Several form }

-- the fields of a message: to whom with which tag, or from whom with which tag
abbrev pub to_peer : List Form
to_peer = Comm ∷ Peer ∷ Tag ∷ []

abbrev pub from_source : List Form
from_source = Comm ∷ Source ∷ SourceTag ∷ []

abbrev pub exchange : List Form
exchange = Comm ∷ Peer ∷ Tag ∷ Source ∷ SourceTag ∷ []

abbrev pub call_row : CallWord → Row
call_row call.Init = fixed (codes "init") []
call_row call.Finalize = fixed (codes "finalize") []
call_row call.Abort = fixed (codes "abort") []
call_row call.Exit = fixed (codes "exit") []
call_row call.Full = fixed (codes "full") []
call_row call.Stopped = record { text = codes "stopped"; forms = []; more = more.Text }
call_row call.Cut = fixed (codes "cut") []
call_row call.Send = with_bytes (codes "send") to_peer
call_row call.Ssend = fixed (codes "ssend") to_peer
call_row call.Bsend = fixed (codes "bsend") to_peer
call_row call.Rsend = fixed (codes "rsend") to_peer
call_row call.Isend = with_bytes (codes "isend") (NewRequest ∷ to_peer)
call_row call.Issend = fixed (codes "issend") (NewRequest ∷ to_peer)
call_row call.Ibsend = fixed (codes "ibsend") (NewRequest ∷ to_peer)
call_row call.Irsend = fixed (codes "irsend") (NewRequest ∷ to_peer)
call_row call.Recv = fixed (codes "recv") from_source
call_row call.Irecv = fixed (codes "irecv") (NewRequest ∷ from_source)
call_row call.Sendrecv = with_bytes (codes "sendrecv") exchange
call_row call.Isendrecv = with_bytes (codes "isendrecv") (NewRequest ∷ NewRequest ∷ exchange)
call_row call.Probe = fixed (codes "probe") from_source
call_row call.Mprobe = fixed (codes "mprobe") (NewMessage ∷ from_source)
call_row call.Iprobe = fixed (codes "iprobe") to_peer
call_row call.Improbe = fixed (codes "improbe") (NewMessage ∷ to_peer)
call_row call.Mrecv = fixed (codes "mrecv") (Message ∷ [])
call_row call.Imrecv = fixed (codes "imrecv") (NewRequest ∷ Message ∷ [])
call_row call.Wait = with_several (codes "wait") [] Request
call_row call.Test = with_several (codes "test") [] Request
call_row call.Waitany = with_several (codes "waitany") [] Request
call_row call.Waitsome = with_several (codes "waitsome") [] Request
call_row call.Cancel = fixed (codes "cancel") (Request ∷ [])
call_row call.RequestFree = fixed (codes "request_free") (Request ∷ [])
call_row call.Barrier = fixed (codes "barrier") (Comm ∷ [])
call_row call.Bcast = fixed (codes "bcast") (Comm ∷ Root ∷ [])
call_row call.Gather = fixed (codes "gather") (Comm ∷ Root ∷ [])
call_row call.Scatter = fixed (codes "scatter") (Comm ∷ Root ∷ [])
call_row call.Reduce = fixed (codes "reduce") (Comm ∷ Root ∷ [])
call_row call.Allgather = fixed (codes "allgather") (Comm ∷ [])
call_row call.Alltoall = fixed (codes "alltoall") (Comm ∷ [])
call_row call.Allreduce = fixed (codes "allreduce") (Comm ∷ [])
call_row call.Scan = fixed (codes "scan") (Comm ∷ [])
call_row call.Exscan = fixed (codes "exscan") (Comm ∷ [])
call_row call.Ibarrier = fixed (codes "ibarrier") (NewRequest ∷ Comm ∷ [])
call_row call.Ibcast = fixed (codes "ibcast") (NewRequest ∷ Comm ∷ Root ∷ [])
call_row call.Igather = fixed (codes "igather") (NewRequest ∷ Comm ∷ Root ∷ [])
call_row call.Iscatter = fixed (codes "iscatter") (NewRequest ∷ Comm ∷ Root ∷ [])
call_row call.Ireduce = fixed (codes "ireduce") (NewRequest ∷ Comm ∷ Root ∷ [])
call_row call.Iallgather = fixed (codes "iallgather") (NewRequest ∷ Comm ∷ [])
call_row call.Ialltoall = fixed (codes "ialltoall") (NewRequest ∷ Comm ∷ [])
call_row call.Iallreduce = fixed (codes "iallreduce") (NewRequest ∷ Comm ∷ [])
call_row call.Iscan = fixed (codes "iscan") (NewRequest ∷ Comm ∷ [])
call_row call.Iexscan = fixed (codes "iexscan") (NewRequest ∷ Comm ∷ [])
call_row call.CommDup = fixed (codes "comm_dup") (Comm ∷ [])
call_row call.CommSplit = fixed (codes "comm_split") (Comm ∷ Colour ∷ Key ∷ [])
call_row call.CommMake = fixed (codes "comm_make") (Comm ∷ [])
call_row call.CommIdup = fixed (codes "comm_idup") (NewRequest ∷ Comm ∷ [])
call_row call.CommCreateGroup = with_several (codes "comm_create_group") [] Member
call_row call.CommFree = fixed (codes "comm_free") (Comm ∷ [])

abbrev pub report_row : ReportWord → Row
report_row report.Got = fixed (codes "=got") (Peer ∷ Tag ∷ [])
report_row report.Chose = with_several (codes "=chose") [] Request
report_row report.Done = fixed (codes "=done") (Request ∷ Peer ∷ Tag ∷ [])
report_row report.Gone = fixed (codes "=gone") (Request ∷ [])
report_row report.Kept = fixed (codes "=kept") (Request ∷ [])
report_row report.Moved = fixed (codes "=moved") (Request ∷ [])
report_row report.Comm = with_several (codes "=comm") (NewComm ∷ []) Member
report_row report.Idup = with_several (codes "=idup") (NewComm ∷ Request ∷ []) Member
report_row report.NoComm = fixed (codes "=none") []
report_row report.Apart = with_several (codes "=apart") (NewComm ∷ []) Member
report_row report.Failed = fixed (codes "=failed") []

abbrev pub row_of : Word → Row
row_of (Call word) = call_row word
row_of (Report word) = report_row word

-- the words, those that come often first
abbrev pub call_words : List CallWord
call_words =
    call.Isend ∷ call.Irecv ∷ call.Wait ∷ call.Recv ∷ call.Send ∷ call.Allreduce ∷ call.Barrier ∷ call.Bcast
    ∷ call.Sendrecv ∷ call.Waitany ∷ call.Waitsome ∷ call.Test ∷ call.Reduce ∷ call.Gather ∷ call.Scatter
    ∷ call.Allgather ∷ call.Alltoall ∷ call.Probe ∷ call.Iprobe ∷ call.Ssend ∷ call.Bsend ∷ call.Rsend
    ∷ call.Issend ∷ call.Ibsend ∷ call.Irsend ∷ call.Isendrecv ∷ call.Mprobe ∷ call.Improbe ∷ call.Mrecv
    ∷ call.Imrecv ∷ call.Cancel ∷ call.RequestFree ∷ call.Scan ∷ call.Exscan ∷ call.Ibarrier ∷ call.Ibcast
    ∷ call.Igather ∷ call.Iscatter ∷ call.Ireduce ∷ call.Iallgather ∷ call.Ialltoall ∷ call.Iallreduce
    ∷ call.Iscan ∷ call.Iexscan ∷ call.CommDup ∷ call.CommSplit ∷ call.CommMake ∷ call.CommIdup
    ∷ call.CommCreateGroup ∷ call.CommFree ∷ call.Init ∷ call.Finalize ∷ call.Abort ∷ call.Exit ∷ call.Full
    ∷ call.Stopped ∷ call.Cut ∷ []

abbrev pub report_words : List ReportWord
report_words =
    report.Got ∷ report.Chose ∷ report.Done ∷ report.Gone ∷ report.Kept ∷ report.Comm ∷ report.Idup
    ∷ report.NoComm
    ∷ report.Apart ∷ report.Failed ∷ report.Moved ∷ []

-- the first word of a table that has a text
abbrev pub word_in : {A : Type 0} → List (List ℕ × A) → List ℕ → Option A
word_in [] text = None
word_in (row ∷ rows) text = if bytes_eq text row.0 then Some row.1 else word_in rows text

abbrev pub call_word_of : List ℕ → Option CallWord
call_word_of text = word_in (map (λ word. ((call_row word).text, word)) call_words) text

abbrev pub report_word_of : List ℕ → Option ReportWord
report_word_of text = word_in (map (λ word. ((report_row word).text, word)) report_words) text

-- the word with a text, if there is one
unfoldable pub word_of : List ℕ → Option Word
word_of text = or_else (option_map Call (call_word_of text)) (option_map Report (report_word_of text))

-- the forms of what may follow, if `count` fields follow those that the word always has
abbrev pub more_forms : More → ℕ → List Form
more_forms more.Nothing count = []
more_forms more.Bytes count = if count == 1 then Bytes ∷ [] else []
more_forms (more.Several form) count = replicate (max 1 count) form
more_forms more.Text count = []

-- the forms of the fields of a word that has `count` of them
abbrev pub forms_of : Word → ℕ → List Form
forms_of word count =
    (row_of word).forms ++ more_forms (row_of word).more (count - length (row_of word).forms)

-- a word of a call line
abbrev pub is_call : Word → Bool
is_call (Call word) = true
is_call (Report word) = false
