use Rattle.std.proofs.Common.{rules, ◌≡◌, ◌∙◌, sym, ap, ◌&&◌, true, false, Some}
use Rattle.closing.specs.Reported.{message_can_be, peer_can_be, tag_can_be}
use Rattle.closing.specs.Sinks.{is_nobody}
use Rattle.closing.specs.inner.Views.{awaited_view, message_view}
use Rattle.closing.specs.inner.Walked.{number_at, number_of, size_at}
use Rattle.closing.proofs.FollowLemmas.{some_wants}
use Rattle.closing.proofs.walk.sinks.wants_of.Goals as goal

pub returns-in-Some : goal.returns-in-Some
returns-in-Some c small =
    let someone : is_nobody c.args.awaited.now.source ≡ false = search rules in
    let number : number_at c.args.at.now ≡ Some c.in_ok-comm.comm = search rules in
    let can : (peer_can_be (size_at c.args.at.now) c.args.awaited.now.source && (tag_can_be c.args.awaited.now.tag && message_can_be (size_at c.args.at.now) (Some (message_view c.in-Some.message)))) ≡ true = search rules in
    rw (c.in-Some.is, number)
    (some_wants (size_at c.args.at.now) c.in_ok-comm.comm (awaited_view c.args.awaited.now) (message_view c.in-Some.message) c.wants_from.result small someone can
    (λ source tag. c.wants_from.ensures source tag))
