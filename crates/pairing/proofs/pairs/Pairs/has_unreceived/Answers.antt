use Rattle.std.proofs.Common.{◌∙◌, ℕ, List, sym, ap, subst}
use Rattle.std.specs.List.{slice_get}
use Rattle.callstore.specs.declared.envelope.Half.TheVariants.{Send as SendHalf}
use Rattle.callstore.specs.inner.Notes.{recording_of}
use Rattle.pairing.specs.Pairs.{Paired}
use Rattle.pairing.specs.Partners.{EachIsReceived, HasUnreceived}
use Rattle.pairing.proofs.ReceivedLemmas.{each_is_received, some_unreceived}
use Rattle.pairing.proofs.pairs.Pairs.has_unreceived.Goals as goal

pub returns-clause-none : goal.returns-clause-none
returns-clause-none c says_no =
    subst (λ (p : Paired). EachIsReceived p.groups p.recording) c.self.view_is
    (each_is_received c.self.inside.kept.head (recording_of c.self.inside.kept.notes.lists) c.self.invariant.0.lawful
    (λ e. sym (c.self.invariant.0.tables.matched.pending SendHalf e) ∙ c.has_pending.ensures.none says_no e))

pub returns-clause-some : goal.returns-clause-some
returns-clause-some c says_yes =
    let pending = c.has_pending.ensures.some says_yes in
    subst (λ (p : Paired). HasUnreceived p.groups p.recording) c.self.view_is
    (some_unreceived c.self.inside.kept.head (recording_of c.self.inside.kept.notes.lists) pending.envelope pending.place
    (ap (λ (places : List ℕ). slice_get places 0) (sym (c.self.invariant.0.tables.matched.pending SendHalf pending.envelope)) ∙ pending.is_first))
