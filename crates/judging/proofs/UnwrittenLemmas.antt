-- Before anything is written the output is as it was.
use Rattle.std.proofs.Common.{◌≡◌, ℕ, Option, List, refl, sym, subst}
use Rattle.moves.specs.Analysed.{Analysed}
use Rattle.closing.specs.Recordings.{RecordingView}
use Rattle.judging.specs.Judging.{LeavesAt}
use Rattle.judging.specs.inner.Cuts.{IsOfCut}
use Rattle.judging.specs.inner.Unwritten.{IsUnwritten, IsOfRecording}
use Rattle.judging.specs.declared.judge.JudgeFault.{JudgeFault}
use Rattle.judging.specs.declared.judge.JudgeFault.TheVariants.{Read, Head, Refused, Unended, Unclean, Memory, Write}

pub leaves_as_it_was : {O : Type 0} (written : O → Option (List ℕ)) (failures : O → ℕ) (out : O) (fault : JudgeFault) → IsUnwritten fault → LeavesAt written failures out out fault
leaves_as_it_was written failures out (Read fault) is = refl
leaves_as_it_was written failures out (Head fault) is = refl
leaves_as_it_was written failures out (Refused refusal) is = refl
leaves_as_it_was written failures out Unended is = refl
leaves_as_it_was written failures out (Unclean entry) is = refl
leaves_as_it_was written failures out Memory is = refl
leaves_as_it_was written failures out Write is = absurd is

pub leaves_of_recording : {O : Type 0} (written : O → Option (List ℕ)) (failures : O → ℕ) (out : O) (fault : JudgeFault) → IsOfRecording fault → LeavesAt written failures out out fault
leaves_of_recording written failures out (Read fault) is = absurd is
leaves_of_recording written failures out (Head fault) is = refl
leaves_of_recording written failures out (Refused refusal) is = refl
leaves_of_recording written failures out Unended is = refl
leaves_of_recording written failures out (Unclean entry) is = refl
leaves_of_recording written failures out Memory is = refl
leaves_of_recording written failures out Write is = absurd is

pub leaves_of_cut : {O : Type 0} (written : O → Option (List ℕ)) (failures : O → ℕ) (out : O) (it : RecordingView) (rows : List (List ℕ)) (analysed : Analysed) (fault : JudgeFault) → IsOfCut it rows analysed fault → LeavesAt written failures out out fault
leaves_of_cut written failures out it rows analysed (Read fault) is = absurd is
leaves_of_cut written failures out it rows analysed (Head fault) is = absurd is
leaves_of_cut written failures out it rows analysed (Refused refusal) is = absurd is
leaves_of_cut written failures out it rows analysed Unended is = absurd is
leaves_of_cut written failures out it rows analysed (Unclean entry) is = refl
leaves_of_cut written failures out it rows analysed Memory is = refl
leaves_of_cut written failures out it rows analysed Write is = absurd is

pub leaves_memory : {O : Type 0} (written : O → Option (List ℕ)) (failures : O → ℕ) (out : O) (fault : JudgeFault) → fault ≡ Memory → LeavesAt written failures out out fault
leaves_memory written failures out fault is = subst (λ (f : JudgeFault). LeavesAt written failures out out f) (sym is) refl

pub ruleset unwritten = (leaves_as_it_was, leaves_of_recording, leaves_of_cut, leaves_memory)
