-- The codes under which faults of journals are reported.
use Rattle.std.specs.Prelude.{ℕ, List, codes}
use Rattle.journals.specs.declared.fault.JournalFaultKind.{JournalFaultKind}
use Rattle.journals.specs.declared.fault.JournalFaultKind.TheVariants.{Header, UnknownWord, FieldCount, FieldForm, AfterEnd, TooLong, OutOfPlace, Request, Comm, Group}

abbrev pub code_of : JournalFaultKind → List ℕ
code_of Header = codes "J1"
code_of UnknownWord = codes "J2"
code_of FieldCount = codes "J3"
code_of FieldForm = codes "J4"
code_of AfterEnd = codes "J5"
code_of TooLong = codes "J6"
code_of OutOfPlace = codes "J7"
code_of Request = codes "J8"
code_of Comm = codes "J9"
code_of Group = codes "J10"
