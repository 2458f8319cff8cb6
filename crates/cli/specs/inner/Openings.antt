-- The input of a file of which it is counted how much was read.
use Rattle.cli.specs.declared.measured.MeasuredInput.{MeasuredInput}

abbrev pub input_within : {I : Type 0} → MeasuredInput I → I
input_within measured = measured.input
