-- The forms of the fields of collectives, as the code asks for them; nobody has to believe this.
use Rattle.std.specs.Prelude.{List, []}
use Rattle.journals.specs.Words.{call_row}
use Rattle.journals.specs.declared.form.Form.{Form}
use Rattle.journals.specs.declared.word.CallWord.{CallWord}
use Rattle.journals.specs.declared.word.CallWord.TheVariants as call

abbrev pub collective_forms : CallWord → List Form
collective_forms call.Barrier = (call_row call.Barrier).forms
collective_forms call.Allgather = (call_row call.Allgather).forms
collective_forms call.Alltoall = (call_row call.Alltoall).forms
collective_forms call.Allreduce = (call_row call.Allreduce).forms
collective_forms call.Scan = (call_row call.Scan).forms
collective_forms call.Exscan = (call_row call.Exscan).forms
collective_forms call.Bcast = (call_row call.Bcast).forms
collective_forms call.Gather = (call_row call.Gather).forms
collective_forms call.Scatter = (call_row call.Scatter).forms
collective_forms call.Reduce = (call_row call.Reduce).forms
collective_forms call.Ibarrier = (call_row call.Ibarrier).forms
collective_forms call.Iallgather = (call_row call.Iallgather).forms
collective_forms call.Ialltoall = (call_row call.Ialltoall).forms
collective_forms call.Iallreduce = (call_row call.Iallreduce).forms
collective_forms call.Iscan = (call_row call.Iscan).forms
collective_forms call.Iexscan = (call_row call.Iexscan).forms
collective_forms call.Ibcast = (call_row call.Ibcast).forms
collective_forms call.Igather = (call_row call.Igather).forms
collective_forms call.Iscatter = (call_row call.Iscatter).forms
collective_forms call.Ireduce = (call_row call.Ireduce).forms
collective_forms word = []
