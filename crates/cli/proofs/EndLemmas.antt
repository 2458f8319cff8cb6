-- How the end of the program follows from the ends of its parts.
use Rattle.std.proofs.Common.{◌≡◌, ◌≢◌, ◌⊎◌, ◌∙◌, ℕ, Bool, Option, Result, Ok, Err, List, refl, sym, ap, subst, false, inl, inr, Global, String, string_bytes}
use Rattle.clap.specs.Walk.{Text}
use Rattle.cli.specs.inner.Answer.{Complains, IsAnswered, IsOfError, Refuses, Shows}
use Rattle.cli.specs.CommandLine.{Answers}
use Rattle.cli.specs.ExitContract.{Ends, IsDone, IsFaultOf, IsLeftAt, IsTried, Made, TellsLine}
use Rattle.cli.specs.Faults.{status_of_fault}
use Rattle.cli.specs.FaultTexts.{line_of_fault}
use Rattle.cli.specs.Openings.{Fate}
use Rattle.cli.specs.Outputs.{Written, Nothing, Whole, Broken, Becomes, FailsToWrite, Tries, Writes}
use Rattle.cli.specs.inner.Outputs.{LeavesAtFault}
use Rattle.cli.specs.declared.fault.Fault.{Fault}
use Rattle.cli.specs.declared.fault.Fault.TheVariants.{Memory, Write}
use Rattle.cli.specs.declared.program.Complaint.{Complaint}
use Rattle.cli.specs.declared.program.Complaint.TheVariants as complaint
use Rattle.cli.specs.declared.status.Status.{Status}
use Rattle.cli.specs.declared.status.Status.TheVariants as status
use Rattle.cli.specs.declared.command_line.CommandLine.{CommandLine}
use Rattle.cli.specs.declared.command_line.CommandLine.TheVariants.{Check, Lint, Judge, Close, Said, NoMemory}

-- with the status of standard error a fault's line is told there
tells_line : (ended : Status) (fault : Fault) (out err : Written) → IsOfError ended → IsLeftAt fault out → IsTried (line_of_fault fault) err → TellsLine ended fault out err
tells_line status.Usage fault out err wants left tried = (left, tried)
tells_line status.Fault fault out err wants left tried = (left, tried)
tells_line ended fault out err wants left tried = absurd wants

-- where memory runs out for a fault's line, that may be reported of the same words
memory_may_be : (fate : Text → Fate → Type 0) (told : Text → Option Text) (named : Text → Option Bool) (asked : CommandLine) (fault : Fault) → IsFaultOf fate told named asked fault → fault ≢ Write → IsFaultOf fate told named asked Memory
memory_may_be fate told named (Check head files options progress) fault is_fault other = tt
memory_may_be fate told named (Lint file) fault is_fault other = tt
memory_may_be fate told named (Judge folder manner progress) fault is_fault other = tt
memory_may_be fate told named (Close folder out choice) fault is_fault other = tt
memory_may_be fate told named (Said text is_error) fault is_fault other = absurd (other is_fault.0)
memory_may_be fate told named NoMemory fault is_fault other = refl

module _ {O : Type 0} (written : O → Option Text) (failures : O → ℕ) (old new : O) where
  -- what a fault leaves on standard output
  of_left : (fault : Fault) → LeavesAtFault written failures old new fault → (out : Written) × Becomes written failures old new out × IsLeftAt fault out
  of_left Write left = (Broken left.0, left.1, (left.0, refl))
  of_left fault left = (Nothing, left, refl)

  unless_write : (fault : Fault) → fault ≢ Write → LeavesAtFault written failures old new fault → new ≡ old
  unless_write Write other left = absurd (other refl)
  unless_write fault other left = left

  -- a text that was to be written
  of_tries : (text : Text) → Tries written failures old new text → (one : Written) × Becomes written failures old new one × IsTried text one
  of_tries text (inl whole) = (Whole text, whole, inl refl)
  of_tries text (inr broken) = (Broken text, broken, inr refl)

no_refusal_writes : (fault : Fault) → status_of_fault fault ≡ status.Refused → fault ≢ Write
no_refusal_writes fault is write = let other : status.Fault ≡ status.Refused = sym (ap status_of_fault write) ∙ is in cc

-- a fault that standard output may tell, over an output as the fault left it
pub refused : {O : Type 0} (written : O → Option Text) (failures : O → ℕ) (is_done : Status → Written → Written → Type 0) (may_end_in : Fault → Type 0) (old mid new : O) (fault : Fault) (answer : Result Status Complaint) →
    may_end_in Memory → may_end_in Write → may_end_in fault → LeavesAtFault written failures old mid fault → Refuses written failures mid new fault answer → IsAnswered written failures is_done may_end_in old new answer
refused {O} written failures is_done may_end_in old mid new fault (Ok ended) memory write may left refuses =
    let same : mid ≡ old = unless_write written failures old mid fault (no_refusal_writes fault refuses.1) left in (
      Whole (line_of_fault fault),
      subst (λ (o : O). Writes written failures o new (line_of_fault fault)) same refuses.2,
      inr (fault, may, (refuses.0 ∙ sym refuses.1, subst (λ (s : Status). TellsLine s fault (Whole (line_of_fault fault)) Nothing) (sym refuses.0) (refl, refl))),
    )
refused written failures is_done may_end_in old mid new fault (Err (complaint.Usage said)) memory write may left refuses = absurd refuses
refused {O} written failures is_done may_end_in old mid new fault (Err (complaint.Fault told)) memory write may left refuses = let told_is = by_case refuses.1 in (refuses.0, told_is.0, told_is.1)
  where
    by_case : ((told ≡ fault) × (new ≡ mid))
        ⊎ ((status_of_fault fault ≡ status.Refused) × (((told ≡ Memory) × (new ≡ mid)) ⊎ ((told ≡ Write) × FailsToWrite written failures mid new (line_of_fault fault)))) →
        may_end_in told × LeavesAtFault written failures old new told
    by_case (inl as_it_is) =
        subst (λ (f : Fault). may_end_in f × LeavesAtFault written failures old new f) (sym as_it_is.0)
        (may, subst (λ (o : O). LeavesAtFault written failures old o fault) (sym as_it_is.1) left)
    by_case (inr (refusal, inl wanted)) =
        let same : mid ≡ old = unless_write written failures old mid fault (no_refusal_writes fault refusal) left in
        subst (λ (f : Fault). may_end_in f × LeavesAtFault written failures old new f) (sym wanted.0) (memory, wanted.1 ∙ same)
    by_case (inr (refusal, inr broken)) =
        let same : mid ≡ old = unless_write written failures old mid fault (no_refusal_writes fault refusal) left in
        subst (λ (f : Fault). may_end_in f × LeavesAtFault written failures old new f) (sym broken.0)
        (write, (line_of_fault fault, subst (λ (o : O). FailsToWrite written failures o new (line_of_fault fault)) same broken.1))

-- a text that was asked for
pub shown : {O : Type 0} (written : O → Option Text) (failures : O → ℕ) (fate : Text → Fate → Type 0) (told : Text → Option Text) (named : Text → Option Bool) (made : Made) (old new : O) (text : String Global) (answer : Result Status Complaint) →
    Shows written failures old new (string_bytes text) status.Free answer → IsAnswered written failures (IsDone told named made (Said text false)) (IsFaultOf fate told named (Said text false)) old new answer
shown written failures fate told named made old new text (Ok ended) shows = (Whole (string_bytes text), shows.1, inl (shows.0, refl, refl))
shown written failures fate told named made old new text (Err (complaint.Usage said)) shows = absurd shows
shown written failures fate told named made old new text (Err (complaint.Fault fault)) shows = (
  subst (λ (f : Fault). IsOfError (status_of_fault f)) (sym shows.0) tt,
  (shows.0, refl),
  subst (λ (f : Fault). LeavesAtFault written failures old new f) (sym shows.0) (string_bytes text, shows.1),
)

-- the end of the program
module _ {O E : Type 0} (written : O → Option Text) (failures : O → ℕ) (written_errors : E → Option Text) (failed_errors : E → ℕ) (fate : Text → Fate → Type 0) (told : Text → Option Text) (named : Text → Option Bool) (made : Made) (old new : O) where
  pub ends_at_once : (errors errors_after : E) (words : List Text) (asked : CommandLine) (ended : Status) → Answers words asked → IsAnswered written failures (IsDone told named made asked) (IsFaultOf fate told named asked) old new (Ok ended) → errors_after ≡ errors → Ends written failures written_errors failed_errors fate told named made old new errors errors_after words ended
  ends_at_once errors errors_after words asked ended answers is same = record {
    asked = asked;
    answers = answers;
    out = is.0;
    err = Nothing;
    by = is.2;
    output = is.1;
    errors = same;
  }

  ends_in_fault : (errors errors_after : E) (words : List Text) (asked : CommandLine) (ended : Status) (fault : Fault) → Answers words asked → IsOfError (status_of_fault fault) → IsFaultOf fate told named asked fault → LeavesAtFault written failures old new fault → ended ≡ status_of_fault fault → Tries written_errors failed_errors errors errors_after (line_of_fault fault) →
      Ends written failures written_errors failed_errors fate told named made old new errors errors_after words ended
  ends_in_fault errors errors_after words asked ended fault answers wants is_fault left is tries =
      let out = of_left written failures old new fault left in
      let err = of_tries written_errors failed_errors errors errors_after (line_of_fault fault) tries in
      record {
        asked = asked;
        answers = answers;
        out = out.0;
        err = err.0;
        by = inr (fault, is_fault, (is, subst (λ (s : Status). TellsLine s fault out.0 err.0) (sym is) (tells_line (status_of_fault fault) fault out.0 err.0 wants out.2 err.2)));
        output = out.1;
        errors = err.1;
      }

  pub ends_in_complaint : (errors errors_after : E) (words : List Text) (asked : CommandLine) (ended : Status) (complaint : Complaint) → Answers words asked → IsAnswered written failures (IsDone told named made asked) (IsFaultOf fate told named asked) old new (Err complaint) → Complains written_errors failed_errors errors errors_after complaint ended → Ends written failures written_errors failed_errors fate told named made old new errors errors_after words ended
  ends_in_complaint errors errors_after words asked ended (complaint.Usage said) answers is complains =
      let err = of_tries written_errors failed_errors errors errors_after _ complains.1 in
      record {
        asked = asked;
        answers = answers;
        out = Nothing;
        err = err.0;
        by = inl (subst (λ (s : Status). IsDone told named made asked s Nothing err.0) (sym complains.0) (is.1 err.0 err.2));
        output = is.0;
        errors = err.1;
      }
  ends_in_complaint errors errors_after words asked ended (complaint.Fault fault) answers is complains = by_case complains.1
    where
      by_case : (complains.0 ≡ fault) ⊎ ((complains.0 ≡ Memory) × (fault ≢ Write)) → Ends written failures written_errors failed_errors fate told named made old new errors errors_after words ended
      by_case (inl same) =
          ends_in_fault errors errors_after words asked ended fault answers is.0 is.1 is.2 (complains.2 ∙ ap status_of_fault same)
          (subst (λ (f : Fault). Tries written_errors failed_errors errors errors_after (line_of_fault f)) same complains.3)
      by_case (inr (memory, other)) =
          ends_in_fault errors errors_after words asked ended Memory answers tt (memory_may_be fate told named asked fault is.1 other) (unless_write written failures old new fault other is.2) (complains.2 ∙ ap status_of_fault memory)
          (subst (λ (f : Fault). Tries written_errors failed_errors errors errors_after (line_of_fault f)) memory complains.3)
