-- What started the request is what is seen with the call.
use Rattle.std.proofs.Common.{◌≡◌, ◌∙◌, ℕ, Some, None, refl, sym}
use Rattle.mpigroup.specs.Groups.{Groups}
use Rattle.callstore.specs.Recordings.{Lists}
use Rattle.pairing.specs.Pairs.{completed_of}
use Rattle.moves.specs.Runs.{State}
use Rattle.moves.specs.inner.Waiting.{TellsOperation, TellsRequest}
use Rattle.moves.specs.declared.look.Look.{Look}
use Rattle.moves.specs.declared.look.Look.TheVariants.{Over, Moves, Partner, Wave}
use Rattle.moves.specs.declared.progress.Progress.{Progress}
use Rattle.moves.specs.declared.reading.Reading.{Reading}
use Rattle.moves.proofs.look.look_at_request.Goals as goal

tells : (reading : Reading) (groups : Groups) (recording : Lists) (stands : State) (progress : Progress) (rank place index start : ℕ) → completed_of recording rank place index ≡ Some start → (look : Look) → TellsOperation reading groups recording stands progress rank start look → TellsRequest reading groups recording stands progress rank place index look
tells reading groups recording stands progress rank place index start is Over h = h
tells reading groups recording stands progress rank place index start is Moves h = rw is h
tells reading groups recording stands progress rank place index start is (Partner other) h = (rw h.0 is, rw h.0 h.1)
tells reading groups recording stands progress rank place index start is (Wave comm) h = (start, is, h)

pub returns-in-Some : goal.returns-in-Some
returns-in-Some c =
    let w = c.args.world.now in
    let p = c.args.positions.now in
    let is : completed_of w.pairs.recording c.args.at.0 c.args.at.1 c.args.index ≡ Some c.in-Some.start = sym (c.requires.seen.start c.args.index) ∙ sym c.completed.ensures ∙ c.in-Some.is in
    tells w.reading w.pairs.groups w.pairs.recording p.stands.items p.progress c.args.at.0 c.args.at.1 c.args.index c.in-Some.start is c.look_at_start.result c.look_at_start.ensures

pub returns-in-None : goal.returns-in-None
returns-in-None c =
    let w = c.args.world.now in
    let none : completed_of w.pairs.recording c.args.at.0 c.args.at.1 c.args.index ≡ None = sym (c.requires.seen.start c.args.index) ∙ sym c.completed.ensures ∙ c.in-None.is in
    rw none refl
