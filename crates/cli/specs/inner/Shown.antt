-- What a check and a judgement of journals answer and leave, each as one fact: what shows them hands it on unopened.
use Rattle.std.specs.Prelude.{◌≡◌, ℕ, Option, Some, Result, IfOk, IfErr, OnOk, List, map}
use Rattle.std.specs.Borrow.{Bor}
use Rattle.std.specs.Io.KnownBytes.{Appends}
use Rattle.waitgraph.specs.declared.verdict.Verdict.{Verdict}
use Rattle.judging.specs.JournalTexts.{Known}
use Rattle.judging.specs.Judging.{IsFaultOfJudge, IsJudgedReport, LeavesAt}
use Rattle.judging.specs.declared.judge.JudgeFault.{JudgeFault}
use Rattle.judging.specs.declared.judge.Manner.{Manner}
use Rattle.cli.specs.Openings.{Fate}
use Rattle.cli.specs.Texts.{IsFaultOfCheck, IsVerdictOfTexts}
use Rattle.cli.specs.inner.Outputs.{LeavesAtFault}
use Rattle.cli.specs.inner.Texts.{WritesReportOf}
use Rattle.cli.specs.declared.fault.Fault.{Fault}
use Rattle.cli.specs.declared.options.Options.{Options}

-- by the bytes and the failures of the output, what may become of files, and their texts as far as they are known
pub record AnswersCheck {O : Type 0} (bytes : O → Option (List ℕ)) (failures : O → ℕ) (fate : List ℕ → Fate → Type 0) (told : List ℕ → Option (List ℕ)) (head : List ℕ) (files : List (Bor (List ℕ))) (options : Options) (old new : O) (answer : Result Verdict Fault) : Type 0 where
  pub verdict : IfOk answer (λ verdict. (text : List ℕ) (texts : List (List ℕ)) →
      told head ≡ Some text →
      map (λ file. told file.now) files ≡ map Some texts →
      IsVerdictOfTexts options.reading text texts verdict)
  pub fault : IfErr answer (IsFaultOfCheck fate told head files)
  pub written : IfOk answer (WritesReportOf bytes old new options (told head) (map (λ file. told file.now) files))
  pub no_write_failed : OnOk answer (failures new ≡ failures old)
  pub output : IfErr answer (LeavesAtFault bytes failures old new)

-- the same of journals
pub record AnswersJudge {O : Type 0} (bytes : O → Option (List ℕ)) (failures : O → ℕ) (known : Known) (manner : Manner) (old new : O) (answer : Result Verdict JudgeFault) : Type 0 where
  pub written : IfOk answer (λ verdict. (report : List ℕ) × IsJudgedReport known manner verdict report × Appends (bytes old) (bytes new) report)
  pub no_write_failed : OnOk answer (failures new ≡ failures old)
  pub fault : IfErr answer (IsFaultOfJudge known manner.choice)
  pub output : IfErr answer (LeavesAt bytes failures old new)
