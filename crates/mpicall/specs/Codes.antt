-- The codes and the words under which faults are reported.
use Rattle.std.specs.Prelude.{ℕ, List, ◌++◌, codes}
use Rattle.std.specs.Fmt.{decimal}
use Rattle.mpicall.specs.declared.fault.LineFault.{LineFault}
use Rattle.mpicall.specs.declared.fault.LineFault.TheVariants.{EmptyField, UnknownWord, FieldCount, FieldForm, Wildcard, TooLong, NoLineFeed}
use Rattle.mpicall.specs.declared.fault.SourceFault.{SourceFault}
use Rattle.mpicall.specs.declared.fault.SourceFault.TheVariants.{Line, TextAfterFinalize, NoFinalize, ReadFailed, GateStopped, ThreadNotStarted}
use Rattle.mpicall.specs.declared.lint.LintFault.{LintFault}

abbrev pub code_of_line : LineFault → List ℕ
code_of_line EmptyField = codes "L1"
code_of_line UnknownWord = codes "L2"
code_of_line FieldCount = codes "L3"
code_of_line FieldForm = codes "L4"
code_of_line Wildcard = codes "L5"
code_of_line TooLong = codes "L6"
code_of_line NoLineFeed = codes "L7"

abbrev pub words_of_line : LineFault → List ℕ
words_of_line EmptyField = codes "empty field"
words_of_line UnknownWord = codes "unknown word"
words_of_line FieldCount = codes "number of fields"
words_of_line FieldForm = codes "field out of form or range"
words_of_line Wildcard = codes "wildcard"
words_of_line TooLong = codes "line too long"
words_of_line NoLineFeed = codes "no line feed"

abbrev pub code_of_source : SourceFault → List ℕ
code_of_source (Line fault) = code_of_line fault
code_of_source TextAfterFinalize = codes "L8"
code_of_source NoFinalize = codes "E1"
code_of_source ReadFailed = codes "E2"
code_of_source GateStopped = codes "E3"
code_of_source ThreadNotStarted = codes "E4"

abbrev pub words_of_source : SourceFault → List ℕ
words_of_source (Line fault) = words_of_line fault
words_of_source TextAfterFinalize = codes "text after finalize"
words_of_source NoFinalize = codes "no finalize"
words_of_source ReadFailed = codes "read failed"
words_of_source GateStopped = codes "gate stopped"
words_of_source ThreadNotStarted = codes "thread not started"

-- the place of the fault, its code and its words
abbrev pub text_of_lint : LintFault → List ℕ
text_of_lint fault = codes "call " ++ decimal fault.call ++ codes " " ++ code_of_source fault.fault ++ codes " " ++ words_of_source fault.fault
