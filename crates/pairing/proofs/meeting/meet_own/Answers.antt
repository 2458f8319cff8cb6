use Rattle.std.proofs.Common.{◌∙◌, sym, refl}
use Rattle.callstore.specs.Envelopes.{other_half, rank_of_half}
use Rattle.pairing.proofs.PairedLemmas.{met_by, waits_paired}
use Rattle.pairing.proofs.meeting.meet_own.Goals as goal

pub returns-in-Some-clause-paired : goal.returns-in-Some-clause-paired
returns-in-Some-clause-paired c filing paired next =
    met_by c.args.head.now c.args.notes.now.lists filing c.args.matches.now c.meet.new.self c.args.at.half c.args.own.now.envelope c.args.at.rank c.args.at.place c.args.own.now.number
    paired next c.requires.number c.meet.ensures.lists_there c.meet.ensures.keys c.meet.ensures.lists
    (rank_of_half c.args.head.now (other_half c.args.at.half) c.args.own.now.envelope) refl c.in-Some.there (sym c.in-Some.ensures.value) c.note_partners.new.notes.lists c.note_partners.ensures.partners

pub returns-in_default-clause-paired : goal.returns-in_default-clause-paired
returns-in_default-clause-paired c filing paired next =
    waits_paired c.args.head.now c.args.notes.now.lists filing c.args.matches.now c.meet.new.self c.args.at.half c.args.own.now.envelope c.args.at.rank c.args.at.place c.args.own.now.number
    paired next c.requires.number c.meet.ensures.lists_there c.meet.ensures.keys c.meet.ensures.lists
    (sym c.meet.ensures.value ∙ c.in_default.is)
