-- Neither the table nor the map has a request.
use Rattle.std.proofs.Common.{◌%◌, ◌∙◌, ap}
use Rattle.std.specs.Prelude.{nat_eq}
use Rattle.std.specs.HashMap.{get}
use Rattle.std.specs.Map.{lookup}
use Rattle.mpicall.specs.Word.{or_else}
use Rattle.closing.specs.declared.started.TheConstants.{PLACES}
use Rattle.closing.proofs.StartedLemmas.{none_held}
use Rattle.closing.proofs.started.Started.new.Goals as goal

pub returns : goal.returns
returns c = λ id.
    ap (λ it. or_else it (get nat_eq c.new.result id)) (none_held PLACES id (id % PLACES))
    ∙ ap (λ entries. lookup (nat_eq id) entries) c.new.ensures.empty
