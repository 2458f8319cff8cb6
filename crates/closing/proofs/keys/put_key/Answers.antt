-- The keys are what they were, or one more.
use Rattle.std.proofs.Common.{List, subst, sym}
use Rattle.closing.specs.inner.Table.{IsSameOrMore}
use Rattle.closing.specs.declared.keys.Key.{Key as KeyCode}
use Rattle.closing.proofs.CodeLemmas.{same_code, same_code_itself}
use Rattle.closing.proofs.InsertLemmas.{insert_more}
use Rattle.closing.proofs.keys.put_key.Goals as goal

pub returns-clause-more : goal.returns-clause-more
returns-clause-more c =
    subst (λ (ks : List KeyCode). IsSameOrMore c.args.key c.args.keys.now.keys ks) (sym c.in_ok-place.ensures.keys)
    (insert_more same_code same_code_itself c.args.keys.now.keys c.args.key)
