-- The head of journals that were read.
use Rattle.std.proofs.Common.{◌∙◌}
use Rattle.mpigroup.specs.HeadText.{read_head}
use Rattle.closing.specs.Groups.{groups_in}
use Rattle.judging.proofs.HeadOf.{gives, has_none, groups_there, head_fault, some_ranks}
use Rattle.lawful.proofs.ReadRuns.{fit_of_read}
use Rattle.judging.proofs.judge.head_of.Goals as goal

pub returns-in-Ok-clause-head : goal.returns-in-Ok-clause-head
returns-in-Ok-clause-head c = λ read.
    let it = c.args.recording.now in
    let groups = c.communicators.ensures (fit_of_read it.run it.choice read) (some_ranks it.run read) ∙ groups_there it.run it.choice in
    gives it.run it.choice read c.as_bytes.result.now c.ranks.result (groups_in c.communicators.result.now) (c.as_bytes.ensures.value ∙ c.in_ok-text.ensures) c.ranks.ensures.ranks groups
    c.in-Ok.head c.in-Ok.ensures.ok

pub returns-in-Err-Text-clause-lawful : goal.returns-in-Err-Text-clause-lawful
returns-in-Err-Text-clause-lawful c = λ read.
    let it = c.args.recording.now in
    let groups = c.communicators.ensures (fit_of_read it.run it.choice read) (some_ranks it.run read) ∙ groups_there it.run it.choice in
    absurd (has_none it.run it.choice read c.as_bytes.result.now c.ranks.result (groups_in c.communicators.result.now) (c.as_bytes.ensures.value ∙ c.in_ok-text.ensures) c.ranks.ensures.ranks groups
    c.in-Err-Text.fault (head_fault (read_head c.as_bytes.result.now) c.in-Err-Text.field-0 c.in-Err-Text.fault c.in-Err-Text.field-0-is c.in-Err-Text.ensures.fault))
