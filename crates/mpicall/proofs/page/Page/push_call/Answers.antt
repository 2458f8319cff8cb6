use Rattle.std.proofs.Common.{ℕ, List, ◌++◌, ap, ◌∙◌}
use Rattle.mpicall.specs.inner.Draft.{line_with}
use Rattle.mpicall.specs.Spelling.{arguments_of}
use Rattle.mpicall.specs.Word.{text_of}
use Rattle.mpicall.specs.declared.word.Word.{Word}
use Rattle.mpicall.proofs.SpellingLemmas.{call_joined}
use Rattle.mpicall.proofs.page.Page.push_call.Goals as goal

pub returns-clause-value : goal.returns-clause-value
returns-clause-value c =
    let page = c.args.self.now in
    c.push_arguments.ensures.value
    ∙ ap (λ (line : List ℕ). line_with line (arguments_of c.args.call.now))
    (c.push_word.ensures.value ∙ ap (λ (word : Word). page ++ text_of word) c.of.ensures)
    ∙ call_joined page c.args.call.now
