-- How the faults of a head are reported.
use Rattle.std.specs.Prelude.{◌≡◌, ℕ, Result, Err, List, ◌++◌, codes, ⊤}
use Rattle.std.specs.Fmt.{decimal}
use Rattle.mpigroup.specs.declared.fault.HeadFault.{HeadFault}
use Rattle.mpigroup.specs.declared.fault.HeadFaultKind.{HeadFaultKind}
use Rattle.mpigroup.specs.declared.fault.HeadFaultKind.TheVariants.{FirstLine, RankCount, CommLine, Group, TooManyComms, LineForm}
use Rattle.mpigroup.specs.declared.fault.ReadFault.{ReadFault}
use Rattle.mpigroup.specs.declared.fault.ReadFault.TheVariants.{Text, Memory}

-- the code and the words of a fault
abbrev pub code_of_head : HeadFaultKind → List ℕ
code_of_head FirstLine = codes "H1"
code_of_head RankCount = codes "H2"
code_of_head CommLine = codes "H3"
code_of_head Group = codes "H4"
code_of_head TooManyComms = codes "H5"
code_of_head LineForm = codes "H6"

abbrev pub words_of_head : HeadFaultKind → List ℕ
words_of_head FirstLine = codes "first line"
words_of_head RankCount = codes "number of ranks"
words_of_head CommLine = codes "comm line"
words_of_head Group = codes "group"
words_of_head TooManyComms = codes "too many communicators"
words_of_head LineForm = codes "line length or end"

-- and the line before them
abbrev pub text_of_head : HeadFault → List ℕ
text_of_head fault = codes "line " ++ decimal fault.line ++ codes " " ++ code_of_head fault.kind ++ codes " " ++ words_of_head fault.kind

-- a fault that is reported of a text is the one that the text has; lack of memory says nothing of it
abbrev pub IsHeadFaultOf : {T : Type 0} → Result T HeadFault → ReadFault → Type 0
IsHeadFaultOf reading (Text fault) = reading ≡ Err fault
IsHeadFaultOf reading Memory = ⊤
