-- There are as many lines as the preface has.
use Rattle.std.proofs.Common.{◌∙◌}
use Rattle.std.specs.List.{AllZip}
use Rattle.closing.specs.Numbers.{preface_lines}
use Rattle.closing.specs.inner.Numbered.{IsSeatOf}
use Rattle.closing.proofs.KeyedLemmas.{zip_length}
use Rattle.closing.proofs.numbers.Preface.count.Goals as goal

pub returns-clause-lines : goal.returns-clause-lines
returns-clause-lines c =
    λ run count has.
    let self = c.args.self.now in
    c.len.ensures ∙ self.sizes.ok.0 ∙ has.is.count ∙ zip_length (AllZip (IsSeatOf run)) has.lines (preface_lines run) has.same
