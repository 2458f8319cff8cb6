-- The waves so far and those of what is left bring all.
use Rattle.std.proofs.Common.{◌≡◌, ◌||◌, drop, length}
use Rattle.std.specs.HashSet.{contains_by}
use Rattle.closing.specs.inner.Given.{AreBelow}
use Rattle.closing.specs.inner.Numbered.{brings_at, same_wave}
use Rattle.closing.specs.declared.keys.Wave.{Wave as WaveCode}
use Rattle.closing.proofs.numbers.bringing_of.Given as goal

abbrev pub invariant-loop-key : goal.invariant-loop-key
invariant-loop-key l = AreBelow (length l.keys.codes) l.numbered → (wave : WaveCode) →
    (contains_by (same_wave wave) l.bringing || brings_at l.keys (drop l.key-index l.numbered) wave) ≡ brings_at l.keys l.numbered wave
