-- What a read gave of the text.
use Rattle.std.proofs.Common.{refl}
use Rattle.journals.proofs.TextLemmas.{text_goes_on, text_ends_here, text_is_over}
use Rattle.journals.proofs.text.TextInputInput.read_some.Goals as goal

pub returns-in-Some-clause-bytes : goal.returns-in-Some-clause-bytes
returns-in-Some-clause-bytes g c =
    (text_ends_here c.args.self.now.is_over _ _ c.in_ok-count.count c.in-Some.at c.read_some.new.into c.if-self.false c.in_ok-count.ensures.bytes.0 c.in-Some.ensures, λ none room. refl)

pub returns-in-None-clause-bytes : goal.returns-in-None-clause-bytes
returns-in-None-clause-bytes g c =
    (text_goes_on c.args.self.now.is_over _ _ c.in_ok-count.count c.read_some.new.into c.if-self.false c.in_ok-count.ensures.bytes.0 c.in-None.ensures, λ none room. text_is_over c.args.self.now.is_over _ (c.in_ok-count.ensures.bytes.1 none room))
