use Rattle.std.proofs.Common.{◌≡◌, ◌++◌, flat_map, take}
use Rattle.findings.specs.Findings.{found_of_member}
use Rattle.findings.specs.inner.Comparisons.{comparison_of}
use Rattle.findings.proofs.finding.wave.add_in_wave.Given as goal

-- what is found of the members so far
abbrev pub invariant-loop-g : goal.invariant-loop-g
invariant-loop-g l =
    l.findings.items ≡ l.fn.findings.items ++ flat_map (found_of_member (comparison_of l.compared) l.pairs.groups l.pairs.recording l.joined.0 l.joined.1) (take l.g-index l.others)
