use Rattle.std.proofs.Common.{◌≡◌, ◌<◌, ℕ, Option, Some, None, sym, subst}
use Rattle.std.specs.Prelude.{IfSome, option_map}
use Rattle.std.specs.List.{slice_get}
use Rattle.mpigroup.specs.Groups.{Groups}
use Rattle.callstore.specs.Limits.{most_calls}
use Rattle.callstore.specs.inner.Notes.{recording_of}
use Rattle.callstore.specs.Recordings.{Lists, calls_of}
use Rattle.pairing.specs.Faults.{IsLawful}
use Rattle.pairing.specs.Pairs.{Paired}
use Rattle.pairing.specs.Seen.{call_seen, IsSeen}
use Rattle.pairing.specs.declared.call_at.CallAt.{CallAt}
use Rattle.pairing.proofs.CallCountLemmas.{place_few}
use Rattle.pairing.proofs.pairs.Pairs.at.Goals as goal

few : (groups : Groups) (recording : Lists) (rank place : ℕ) (seen : Option CallAt) → IsLawful groups recording → option_map call_seen seen ≡ slice_get (calls_of recording rank) place → IfSome seen (λ call. place < most_calls)
few groups recording rank place None lawful h = tt
few groups recording rank place (Some seen) lawful h = place_few groups recording rank place (call_seen seen) lawful (sym h)

pub returns-clause-seen : goal.returns-clause-seen
returns-clause-seen c = subst (λ (p : Paired). IfSome c.at.result (IsSeen p.groups p.recording c.args.rank c.args.place)) c.self.view_is c.at.ensures.seen

pub returns-clause-few : goal.returns-clause-few
returns-clause-few c =
    few c.self.inside.kept.head (recording_of c.self.inside.kept.notes.lists) c.args.rank c.args.place c.at.result c.self.invariant.0.lawful c.at.ensures.call
