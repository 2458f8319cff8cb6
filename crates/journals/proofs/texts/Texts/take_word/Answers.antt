-- The word is the first field.
use Rattle.std.proofs.Common.{◌≡◌, ◌∙◌, sym, ap, arith}
use Rattle.mpicall.specs.Lines.{split_fields}
use Rattle.mpicall.specs.inner.Lines.{split_some}
use Rattle.mpicall.proofs.FieldLemmas.{word_first}
use Rattle.journals.proofs.texts.Texts.take_word.Goals as goal

pub returns : goal.returns
returns c =
    let is : c.args.self.now ≡ split_fields c.in-Some.rest.now = sym c.self.view_is ∙ ap split_some c.in-Some.is in
    rw is (word_first c.args.word.now c.in-Some.rest.now c.requires (c.begin_with.ensures.front c.if-not-begin_with.false)
    (omega (arith, c.begin_with.ensures.long c.if-not-begin_with.false, c.if-rest-word.false)) c.if-rest-word-ne32.false)
