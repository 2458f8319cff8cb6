-- As many as the header says.
use Rattle.std.proofs.Common.{◌∙◌, ℕ, min, ap}
use Rattle.journals.specs.declared.limits.TheConstants.{MOST_RANKS}
use Rattle.judging.specs.inner.OneJournal.{first_heading, ranks_by}
use Rattle.judging.proofs.OneLemmas.{heading_there}
use Rattle.judging.proofs.read.ranks_of.Goals as goal

pub returns-in-Some : goal.returns-in-Some
returns-in-Some c =
    c.min.ensures ∙ ap (λ (n : ℕ). min n MOST_RANKS) c.ranks.ensures
    ∙ ap ranks_by (heading_there c.first_header.result c.in-Some.header (first_heading c.args.journals.now) c.in-Some.is c.first_header.ensures)
