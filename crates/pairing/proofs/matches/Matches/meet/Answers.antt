use Rattle.std.proofs.Common.{◌≡◌, ◌∙◌, ℕ, ◌++◌, ◌∷◌, [], set, ap, sym}
use Rattle.arenaqueue.specs.Queued.{Queued}
use Rattle.arenaqueue.specs.Numbers.{list_at}
use Rattle.callstore.specs.Envelopes.{other_half}
use Rattle.pairing.specs.inner.Matched.{Matching, list_no, met}
use Rattle.pairing.proofs.MatchedLemmas.{met_popped, met_pushed}
use Rattle.pairing.proofs.matches.Matches.meet.Goals as goal

pub returns-in-Some-clause-lists : goal.returns-in-Some-clause-lists
returns-in-Some-clause-lists c =
    let other : c.list_no-other.result ≡ list_no (other_half c.args.half) c.args.number = cc in
    c.pop_front.ensures.lists
    ∙ met_popped c.self.inside.pending.lists c.args.half c.args.number c.args.place c.in-Some.there c.list_no-other.result other (sym c.in-Some.ensures.value)
    ∙ ap (λ (m : Matching). met m.lists c.args.half c.args.number c.args.place) c.self.view_is

pub returns-in-None-clause-lists : goal.returns-in-None-clause-lists
returns-in-None-clause-lists c =
    let other : c.list_no-other.result ≡ list_no (other_half c.args.half) c.args.number = cc in
    let own : c.list_no-own.result ≡ list_no c.args.half c.args.number = cc in
    c.push_reserved.ensures.lists
    ∙ ap (λ (q : Queued ℕ). set q.lists c.list_no-own.result (list_at q.lists c.list_no-own.result ++ c.args.place ∷ [])) c.in-None.ensures.none
    ∙ met_pushed c.self.inside.pending.lists c.args.half c.args.number c.args.place c.list_no-own.result c.list_no-other.result own other (sym c.in-None.ensures.value)
    ∙ ap (λ (m : Matching). met m.lists c.args.half c.args.number c.args.place) c.self.view_is
