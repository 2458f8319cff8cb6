-- By the messages of all lines they are what the requests stand for.
use Rattle.std.proofs.Common.{◌∙◌, ◌==◌, ap}
use Rattle.std.specs.List.{list_any}
use Rattle.closing.specs.inner.Standings.{id_in}
use Rattle.closing.proofs.FreedIds.{ids_are, if_ok}
use Rattle.closing.proofs.freed.freed_ids.Goals as goal

pub returns : goal.returns
returns c = if_ok c.ids_of.result _ _ (λ ids is places id.
    ids_are c.args.lines.now c.in_ok-matched.matched c.in_ok-requests.requests.items id _ (c.in_ok-matched.ensures places) (c.in_ok-requests.ensures places)
    (is id ∙ ap (list_any (λ request. id_in c.in_ok-matched.matched request == id)) c.as_slice.ensures.value)) c.ids_of.ensures
