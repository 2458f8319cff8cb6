-- One more write adds what it took.
use Rattle.std.proofs.Common.{arith, ◌∙◌, ℕ}
use Rattle.std.proofs.lemmas.List.{length-take, length-drop}
use Rattle.mpicall.proofs.DeviceLemmas.{Appends-more}
use Rattle.mpicall.proofs.device.write_all.Goals as goal

pub loop-done-preserved : goal.loop-done-preserved
loop-done-preserved g c = record {
  within = omega (arith, c.in_ok-done.ensures.bound, length-take {A = ℕ}, length-drop {A = ℕ});
  written = Appends-more _ _ _ c.loop-done.done c.in_ok-done.field-0 c.args.bytes.now c.loop-done.invariant.written c.in_ok-done.ensures.bytes;
  count = c.in_ok-done.ensures.count ∙ c.loop-done.invariant.count;
}
