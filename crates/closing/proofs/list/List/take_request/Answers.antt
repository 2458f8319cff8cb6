-- The request was active, and its number is listed.
use Rattle.std.proofs.Common.{sym}
use Rattle.closing.proofs.RequestLemmas.{took_one}
use Rattle.closing.proofs.list.List.take_request.Goals as goal

pub returns-clause-takes : goal.returns-clause-takes
returns-clause-takes c = λ left apart owns.
    took_one left c.args.id c.in-Some.active c.args.self.now _ apart owns
    (sym c.in-Some.ensures.value) c.in-Some.ensures.gone c.in_ok-push.ensures.items
