-- A line that is held has such a word.
use Rattle.std.proofs.Common.{◌∙◌, ap, rules, tests, List}
use Rattle.std.specs.List.{list_any}
use Rattle.std.proofs.lemmas.Iterator.{YieldsList-from_slice}
use Rattle.std.proofs.lemmas.Iterator.Search.{any_from_yields_List}
use Rattle.journals.specs.Lines.{Line}
use Rattle.journals.specs.Taking.{frees_request}
use Rattle.journals.proofs.PackingLemmas.{any_held}
use Rattle.journals.proofs.lines.Lines.have_free.Goals as goal

pub returns : goal.returns
returns c =
    any_from_yields_List (λ packed. frees_request packed.word) _ _ _ c.any.ensures.ran (YieldsList-from_slice c.self.inside.lines.items cc) (λ x b q k. search (rules, tests))
    ∙ any_held frees_request c.self.inside.fields.items c.self.inside.lines.items
    ∙ ap (λ (lines : List Line). list_any (λ line. frees_request line.word) lines) c.self.view_is
