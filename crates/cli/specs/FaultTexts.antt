-- What the program says of each fault: one line, with the fault's code and words where it has any.
use Rattle.std.specs.Prelude.{ℕ, List, ◌++◌, codes}
use Rattle.std.specs.Fmt.{decimal}
use Rattle.mpicall.specs.Codes.{text_of_lint}
use Rattle.mpigroup.specs.Codes.{text_of_head}
use Rattle.gather.specs.Codes.{text_of_refusal}
use Rattle.cli.specs.declared.fault.Fault.{Fault}
use Rattle.cli.specs.declared.fault.Fault.TheVariants.{Open, OpenJournal, RefusedJournal, FailedJournal, UncleanCut, Make, ReadHead, Head, FileCount, Refused, Failed, LintRefused, LintFailed, Memory, Unproved, Write, WriteFile}
use Rattle.journals.specs.Codes.{code_of}
use Rattle.journals.specs.declared.fault.JournalFault.{JournalFault}
use Rattle.journals.specs.declared.fault.JournalFaultKind.{JournalFaultKind}
use Rattle.journals.specs.declared.fault.JournalFaultKind.TheVariants as kind

abbrev pub journal_words : JournalFaultKind → List ℕ
journal_words kind.Header = codes "header"
journal_words kind.UnknownWord = codes "unknown word"
journal_words kind.FieldCount = codes "number of fields"
journal_words kind.FieldForm = codes "field out of form or range"
journal_words kind.AfterEnd = codes "line behind the end"
journal_words kind.TooLong = codes "line too long"
journal_words kind.OutOfPlace = codes "told line out of place"
journal_words kind.Request = codes "request"
journal_words kind.Comm = codes "communicator"
journal_words kind.Group = codes "group"

-- the line of a journal's fault, its code and its words
abbrev pub text_of_journal : JournalFault → List ℕ
text_of_journal fault = codes "line " ++ (decimal fault.line ++ (codes " " ++ (code_of fault.kind ++ (codes " " ++ journal_words fault.kind))))

abbrev pub text_of_fault : Fault → List ℕ
text_of_fault (Open path) = codes "fault open " ++ path.now
text_of_fault (OpenJournal folder rank) = codes "fault open " ++ (folder.now ++ (codes "/journal" ++ decimal rank))
text_of_fault (RefusedJournal rank fault) = codes "refused rank " ++ (decimal rank ++ (codes " " ++ text_of_journal fault))
text_of_fault (UncleanCut entry) = codes "refused rank " ++ (decimal entry.rank ++ (codes " line " ++ (decimal entry.line ++ codes " J11 cut")))
text_of_fault (FailedJournal rank line) = codes "fault rank " ++ (decimal rank ++ (codes " line " ++ (decimal line ++ codes " E2 read failed")))
text_of_fault (Make path) = codes "fault make " ++ path.now
text_of_fault ReadHead = codes "fault read head"
text_of_fault (Head fault) = codes "refused head " ++ text_of_head fault
text_of_fault (FileCount ranks files) = codes "usage: head has " ++ (decimal ranks ++ (codes " ranks, " ++ (decimal files ++ codes " files given")))
text_of_fault (Refused refusal) = codes "refused " ++ text_of_refusal refusal
text_of_fault (Failed refusal) = codes "fault " ++ text_of_refusal refusal
text_of_fault (LintRefused fault) = codes "lint refused " ++ text_of_lint fault
text_of_fault (LintFailed fault) = codes "fault lint " ++ text_of_lint fault
text_of_fault Memory = codes "fault memory"
text_of_fault (Unproved rank) = codes "fault seal " ++ decimal rank
text_of_fault Write = codes "fault write"
text_of_fault WriteFile = codes "fault write"

-- the line of a fault
abbrev pub line_of_fault : Fault → List ℕ
line_of_fault fault = text_of_fault fault ++ codes "\n"
