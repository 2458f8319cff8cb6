-- What a run over sources of texts says of these.
use Rattle.moves.specs.declared.reading.Reading.{Reading}
use Rattle.std.proofs.Common.{◌≡◌, ℕ, ◌∙◌, ap, refl, subst, Option, Some, Result, Ok, Err, IfOk, IfErr, OnOk, List, [], ◌∷◌, map, Bor}
use Rattle.std.specs.Prelude.{None}
use Rattle.mpicall.specs.Devices.{bytes_left, bytes_written}
use Rattle.mpicall.specs.Source.{coming}
use Rattle.mpicall.specs.Trace.{Trace, trace_of}
use Rattle.mpicall.specs.declared.source.Source.{Source}
use Rattle.mpicall.specs.declared.memory.MemoryInput.{MemoryInput}
use Rattle.mpicall.specs.declared.memory.MemoryOutput.{MemoryOutput}
use Rattle.mpigroup.specs.Groups.{Groups}
use Rattle.callstore.specs.Recordings.{Lists}
use Rattle.waitgraph.specs.declared.verdict.Verdict.{Verdict}
use Rattle.report.specs.Reports.{IsReport}
use Rattle.report.specs.declared.write.Format.{Format}
use Rattle.gather.specs.Outcomes.{refusal_of}
use Rattle.gather.specs.declared.fault.RunFault.{RunFault}
use Rattle.gather.specs.declared.fault.RunFault.TheVariants.{Memory, Unproved, Refused, Write}
use Rattle.driver.specs.OutputContract.{WritesReport, LeavesOutput}
use Rattle.driver.specs.Texts.{EndsWell, EndsBadly}
use Rattle.driver.specs.VerdictContract.{IsVerdictOver, RefusesOver, Tells}
use Rattle.driver.proofs.ToldLemmas.{told_of_read}

abbrev of_memory : MemoryInput → Option (List ℕ)
of_memory input = Some (bytes_left input)

abbrev into_memory : MemoryOutput → Option (List ℕ)
into_memory output = Some (bytes_written output)

traces_are : (texts : List (Bor (List ℕ))) → map (λ text. Some (trace_of text.now)) texts ≡ map Some (map trace_of (map (λ text. text.now) texts))
traces_are [] = refl
traces_are (text ∷ texts) = ap (λ (traces : List (Option Trace)). Some (trace_of text.now) ∷ traces) (traces_are texts)

module _ (reading : Reading) (groups : Groups) (format : Format) (sources : List (Source MemoryInput)) (texts : List (Bor (List ℕ))) (old new : MemoryOutput) (failures : MemoryOutput → ℕ) where
  abbrev those : List (List ℕ)
  those = map (λ text. text.now) texts

  tells : map (coming of_memory) sources ≡ map (λ text. Some (trace_of text.now)) texts → Tells of_memory sources (map trace_of those)
  tells are = told_of_read of_memory sources (map trace_of those) (are ∙ traces_are texts)

  pub well : (is : Result Verdict RunFault) → map (coming of_memory) sources ≡ map (λ text. Some (trace_of text.now)) texts →
      OnOk is ((traces : List Trace) → Tells of_memory sources traces → refusal_of groups traces ≡ None) →
      IfOk is (λ verdict. (traces : List Trace) → Tells of_memory sources traces → IsVerdictOver reading groups traces verdict) →
      IfOk is (WritesReport of_memory into_memory failures sources reading groups format old new) → IfOk is (EndsWell reading groups format those (bytes_written old) (bytes_written new))
  well (Err fault) are accepted is_verdict writes = tt
  well (Ok verdict) are accepted is_verdict writes = record {
    accepted = accepted (map trace_of those) (tells are);
    is_verdict = is_verdict (map trace_of those) (tells are);
    report = writes.0;
    is_report = subst (λ (lists : Lists). IsReport format reading groups lists verdict writes.0) (writes.1.of_traces (map trace_of those) (tells are)) writes.1.is_report;
    written = writes.2;
  }

  pub badly : (is : Result Verdict RunFault) → map (coming of_memory) sources ≡ map (λ text. Some (trace_of text.now)) texts →
      IfErr is (λ fault. (traces : List Trace) → Tells of_memory sources traces → RefusesOver groups traces fault) →
      IfErr is (LeavesOutput of_memory into_memory failures sources reading groups format old new) → IfErr is (EndsBadly reading groups format those (bytes_written old) (bytes_written new))
  badly (Ok verdict) are refuses leaves = tt
  badly (Err Memory) are refuses leaves = ap bytes_written leaves
  badly (Err (Unproved rank)) are refuses leaves = ap bytes_written leaves
  badly (Err (Refused refusal)) are refuses leaves = (refuses (map trace_of those) (tells are), ap bytes_written leaves)
  badly (Err Write) are refuses leaves = (
    leaves.0.0,
    leaves.0.1,
    leaves.0.3.0,
    subst (λ (lists : Lists). IsReport format reading groups lists leaves.0.0 leaves.0.1) (leaves.0.2.of_traces (map trace_of those) (tells are)) leaves.0.2.is_report,
    leaves.0.3.1,
  )
