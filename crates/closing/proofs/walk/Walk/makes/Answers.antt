-- The line of the call is put, if its communicator has a number.
use Rattle.std.proofs.Common.{◌∙◌, ap, sym, true, ℕ, [], ◌∷◌}
use Rattle.mpicall.specs.declared.call.Call.{Call}
use Rattle.closing.specs.Sinks.{GoesOn}
use Rattle.closing.specs.Steps.{Does}
use Rattle.closing.specs.inner.Walked.{number_or}
use Rattle.closing.proofs.FollowLemmas.{goes, puts}
use Rattle.closing.proofs.MakerLemmas.{on_one}
use Rattle.closing.proofs.walk.Walk.makes.Goals as goal

pub returns-clause-takes : goal.returns-clause-takes
returns-clause-takes c = λ spot journals placed is meets called same.
    goes spot true spot.number (λ comm. GoesOn (Does (spot.maker comm) ∷ [])) c.in_ok-comm.comm c.does.result c.args.self.now.list c.does.new.self
    (sym c.in_ok-comm.was ∙ c.number_if.ensures ∙ ap (number_or true) is.number)
    (puts spot c.maker-call.result (spot.maker c.in_ok-comm.comm) c.does.result c.args.self.now.list c.does.new.self
    (c.maker-call.ensures journals placed meets (on_one c.args.at.now.named c.in_ok-comm.comm (sym c.in_ok-comm.was ∙ c.number_if.ensures)) called ∙ ap (λ (f : ℕ → Call). f c.in_ok-comm.comm) (sym same)) c.does.ensures)
