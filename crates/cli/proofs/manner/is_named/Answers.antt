use Rattle.std.proofs.Common.{◌≡◌, ◌∙◌, rules, tests}
use Rattle.std.specs.List.{list_any}
use Rattle.std.proofs.lemmas.Iterator.{YieldsList-from_slice}
use Rattle.std.proofs.lemmas.Iterator.Search.{any_from_yields_List}
use Rattle.cli.specs.Choices.{is_rank}
use Rattle.cli.proofs.NamedLemmas.{any_mapped}
use Rattle.cli.proofs.manner.is_named.Goals as goal

pub returns : goal.returns
returns c =
    let found : c.any.result ≡ list_any (λ text. is_rank c.args.rank text.now) c.args.texts.now =
    any_from_yields_List (λ text. is_rank c.args.rank text.now) _ _ c.any.result c.any.ensures.ran (YieldsList-from_slice c.args.texts.now cc) (λ x b q k. search (rules, tests)) in
    found ∙ any_mapped (is_rank c.args.rank) (λ text. text.now) c.args.texts.now
