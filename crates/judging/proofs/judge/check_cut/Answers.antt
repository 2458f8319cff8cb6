-- The entry is that at which the cut isn't clean, or there is none.
use Rattle.std.proofs.Common.{◌∙◌, Option, option_map, ap, sym}
use Rattle.judging.specs.declared.under_way.EntryAt.{EntryAt}
use Rattle.judging.specs.inner.Cuts.{entry_said}
use Rattle.judging.proofs.judge.check_cut.Goals as goal

pub returns-in-Some-clause-fault : goal.returns-in-Some-clause-fault
returns-in-Some-clause-fault c = λ gathered. sym (c.in_ok-entry.ensures gathered) ∙ ap (λ (entry : Option EntryAt). option_map entry_said entry) c.in-Some.is

pub returns-in-None-clause-clean : goal.returns-in-None-clause-clean
returns-in-None-clause-clean c = λ gathered. sym (c.in_ok-entry.ensures gathered) ∙ ap (λ (entry : Option EntryAt). option_map entry_said entry) c.in-None.is
