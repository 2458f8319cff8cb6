-- Where the text of a word begins, and where the fields of a word can name requests and communicators.
use Rattle.std.specs.Prelude.{ℕ, ◌==◌, min, Bool, false, Option, Some, None, List, [], ◌∷◌}
use Rattle.journals.specs.declared.word.Word.{Word}
use Rattle.journals.specs.declared.word.Word.TheVariants.{Call, Report}
use Rattle.journals.specs.declared.word.CallWord.{CallWord}
use Rattle.journals.specs.declared.word.CallWord.TheVariants as call
use Rattle.journals.specs.declared.word.ReportWord.{ReportWord}
use Rattle.journals.specs.declared.word.ReportWord.TheVariants as report

-- a text begins with `=`, as those of report words do
abbrev pub begins_report : List ℕ → Bool
begins_report [] = false
begins_report (byte ∷ bytes) = byte == 61

-- the place of the only field that names or brings a communicator
abbrev pub call_comm_place : CallWord → Option ℕ
call_comm_place call.Init = None
call_comm_place call.Finalize = None
call_comm_place call.Abort = None
call_comm_place call.Exit = None
call_comm_place call.Full = None
call_comm_place call.Stopped = None
call_comm_place call.Cut = None
call_comm_place call.Mrecv = None
call_comm_place call.Imrecv = None
call_comm_place call.Wait = None
call_comm_place call.Test = None
call_comm_place call.Waitany = None
call_comm_place call.Waitsome = None
call_comm_place call.Cancel = None
call_comm_place call.RequestFree = None
call_comm_place call.CommCreateGroup = None
call_comm_place call.Isendrecv = Some 2
call_comm_place call.Isend = Some 1
call_comm_place call.Issend = Some 1
call_comm_place call.Ibsend = Some 1
call_comm_place call.Irsend = Some 1
call_comm_place call.Irecv = Some 1
call_comm_place call.Mprobe = Some 1
call_comm_place call.Improbe = Some 1
call_comm_place call.Ibarrier = Some 1
call_comm_place call.Ibcast = Some 1
call_comm_place call.Igather = Some 1
call_comm_place call.Iscatter = Some 1
call_comm_place call.Ireduce = Some 1
call_comm_place call.Iallgather = Some 1
call_comm_place call.Ialltoall = Some 1
call_comm_place call.Iallreduce = Some 1
call_comm_place call.Iscan = Some 1
call_comm_place call.Iexscan = Some 1
call_comm_place call.CommIdup = Some 1
call_comm_place _ = Some 0

abbrev pub report_comm_place : ReportWord → Option ℕ
report_comm_place report.Comm = Some 0
report_comm_place report.Idup = Some 0
report_comm_place report.Apart = Some 0
report_comm_place _ = None

abbrev pub comm_place : Word → Option ℕ
comm_place (Call word) = call_comm_place word
comm_place (Report word) = report_comm_place word

-- how many of the first fields may be requests or messages; None where all may
abbrev pub call_requests_first : CallWord → Option ℕ
call_requests_first call.Wait = None
call_requests_first call.Test = None
call_requests_first call.Waitany = None
call_requests_first call.Waitsome = None
call_requests_first call.Isendrecv = Some 2
call_requests_first call.Imrecv = Some 2
call_requests_first call.Isend = Some 1
call_requests_first call.Issend = Some 1
call_requests_first call.Ibsend = Some 1
call_requests_first call.Irsend = Some 1
call_requests_first call.Irecv = Some 1
call_requests_first call.Mprobe = Some 1
call_requests_first call.Improbe = Some 1
call_requests_first call.Mrecv = Some 1
call_requests_first call.Cancel = Some 1
call_requests_first call.RequestFree = Some 1
call_requests_first call.Ibarrier = Some 1
call_requests_first call.Ibcast = Some 1
call_requests_first call.Igather = Some 1
call_requests_first call.Iscatter = Some 1
call_requests_first call.Ireduce = Some 1
call_requests_first call.Iallgather = Some 1
call_requests_first call.Ialltoall = Some 1
call_requests_first call.Iallreduce = Some 1
call_requests_first call.Iscan = Some 1
call_requests_first call.Iexscan = Some 1
call_requests_first call.CommIdup = Some 1
call_requests_first _ = Some 0

abbrev pub report_requests_first : ReportWord → Option ℕ
report_requests_first report.Chose = None
report_requests_first report.Idup = Some 2
report_requests_first report.Done = Some 1
report_requests_first report.Gone = Some 1
report_requests_first report.Kept = Some 1
report_requests_first report.Moved = Some 1
report_requests_first _ = Some 0

abbrev pub requests_first : Word → Option ℕ
requests_first (Call word) = call_requests_first word
requests_first (Report word) = report_requests_first word

-- how many of so many fields are looked at for requests and messages
abbrev pub looked_at : Option ℕ → ℕ → ℕ
looked_at None count = count
looked_at (Some first) count = min first count
