-- What is held of the last call line and its reports.
use Rattle.std.specs.Prelude.{ℕ, Bool, true, false, ◌&&◌, not, ◌==◌, List, length}
use Rattle.journals.specs.Faults.{takes_message, completes_requests, may_choose, makes_comm, may_bring_comm, may_fail}
use Rattle.journals.specs.declared.field.Field.{Field}
use Rattle.journals.specs.declared.last.LastCall.{LastCall}
use Rattle.journals.specs.declared.word.CallWord.{CallWord}
use Rattle.journals.specs.declared.word.CallWord.TheVariants as call
use Rattle.journals.specs.declared.word.ReportWord.{ReportWord}
use Rattle.journals.specs.declared.word.ReportWord.TheVariants as report

abbrev pub new_last : CallWord → ℕ → LastCall
new_last word line =
    record
    { word = word; line = line; has_got = false; has_chosen = false; has_brought = false; has_failed = false }

-- the call can have one more such report of so many fields
abbrev pub last_may_have : LastCall → List Field → ReportWord → ℕ → Bool
last_may_have last fields report.Got count = takes_message last.word && not last.has_got
last_may_have last fields report.Chose count = may_choose last.word count && not last.has_chosen
last_may_have last fields report.Comm count = may_bring_comm last.word fields && not last.has_brought
last_may_have last fields report.NoComm count = makes_comm last.word && not last.has_brought
last_may_have last fields report.Idup count = completes_requests last.word
last_may_have last fields report.Failed count = may_fail last.word && not last.has_failed
last_may_have last fields _ count = true

-- it has such a report
abbrev pub with_report : ReportWord → LastCall → LastCall
with_report report.Got last = record last { has_got = true }
with_report report.Chose last = record last { has_chosen = true }
with_report report.Comm last = record last { has_brought = true }
with_report report.NoComm last = record last { has_brought = true }
with_report report.Failed last = record last { has_failed = true }
with_report _ last = last

-- the call completes all that it names, if it doesn't fail
abbrev pub completes_all : CallWord → List Field → Bool
completes_all call.Wait fields = true
completes_all call.Test fields = true
completes_all call.Mrecv fields = true
completes_all call.Imrecv fields = true
completes_all call.RequestFree fields = true
completes_all call.Waitany fields = length fields == 1
completes_all call.Waitsome fields = length fields == 1
completes_all _ fields = false
