-- The waves up to this one are full.
use Rattle.std.proofs.Common.{ℕ, ◌∙◌, ap, arith, slice_set, sym}
use Rattle.std.specs.Vec.{with_item}
use Rattle.judging.proofs.UnderWayLemmas.{more_full}
use Rattle.judging.proofs.under_way.FullWaves.has.Goals as goal

pub returns-in-Some-clause-kept : goal.returns-in-Some-clause-kept
returns-in-Some-clause-kept c =
    more_full c.args.analyser.now.groups c.args.analyser.now.recording c.args.self.now (record { counts = with_item c.args.self.now.counts c.from.result c.saturating_add.result }) c.args.comm c.args.wave c.saturating_add.result c.requires
    (sym c.is_full.ensures ∙ c.if-not-is_full.false) (omega (arith, c.saturating_add.ensures)) (ap (λ (place : ℕ). slice_set c.args.self.now.counts.items place c.saturating_add.result) c.from.ensures)
