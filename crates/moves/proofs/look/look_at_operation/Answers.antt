use Rattle.std.proofs.Common.{sym, ap, ◌∙◌}
use Rattle.pairing.specs.Seen.{call_seen}
use Rattle.moves.specs.inner.Waiting.{open_wave_by}
use Rattle.moves.proofs.WaitLemmas.{operation_passes}
use Rattle.moves.proofs.look.look_at_operation.Goals as goal

pub returns-in-None : goal.returns-in-None
returns-in-None c =
    let w = c.args.world.now in
    operation_passes w.reading w.pairs.groups w.pairs.recording c.args.positions.now.stands.items c.args.positions.now.progress c.args.at.0 c.args.at.1 (call_seen c.args.call.now) c.requires.waves c.requires.call
    (sym c.are_messages_met.ensures ∙ c.if-not-are_messages_met.false) (sym (c.open_wave.ensures ∙ ap (open_wave_by w.pairs.groups c.args.positions.now.progress) (c.wave.ensures ∙ c.requires.seen.wave)) ∙ c.in-None.is)

pub returns-in-Some : goal.returns-in-Some
returns-in-Some c =
    let w = c.args.world.now in
    sym (c.open_wave.ensures ∙ ap (open_wave_by w.pairs.groups c.args.positions.now.progress) (c.wave.ensures ∙ c.requires.seen.wave)) ∙ c.in-Some.is
