-- Each member so far has its call.
use Rattle.std.proofs.Common.{◌≡◌, true, take}
use Rattle.std.specs.Prelude.{is_some}
use Rattle.std.specs.List.{list_all}
use Rattle.mpigroup.specs.Groups.{group_of}
use Rattle.callstore.specs.Waves.{place_in_wave}
use Rattle.judging.proofs.under_way.is_full.Given as goal

abbrev pub invariant-loop-member : goal.invariant-loop-member
invariant-loop-member l =
    list_all (λ rank. is_some (place_in_wave l.analyser.recording l.comm l.wave rank)) (take l.member (group_of l.analyser.groups l.comm)) ≡ true
