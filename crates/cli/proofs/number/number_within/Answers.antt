use Rattle.std.proofs.Common.{sym, ◌∙◌, arith}
use Rattle.cli.proofs.NumberLemmas.{number_in, no_number_in}
use Rattle.cli.proofs.number.number_within.Goals as goal

pub returns-in-Ok-clause-value : goal.returns-in-Ok-clause-value
returns-in-Ok-clause-value c = number_in c.args.least c.args.most c.args.word.now c.in-Ok.number (omega arith) c.in-Ok.ensures.value.0.0.0 c.in-Ok.ensures.value.0.1 c.if-least-number.true c.if-number-most.true

pub returns-in_default-3-clause-value : goal.returns-in_default-3-clause-value
returns-in_default-3-clause-value c = no_number_in c.args.least c.args.most c.args.word.now c.parse.result (omega arith) c.parse.ensures.value.0 (λ number is least most. let both = sym is ∙ c.in_default.is in cc)
