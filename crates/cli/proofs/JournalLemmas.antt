-- Which faults of `judge` and `close` are reported, and what they leave on standard output.
use Rattle.std.proofs.Common.{◌≡◌, ℕ, Option, Bor, refl}
use Rattle.clap.specs.Walk.{Text}
use Rattle.closing.specs.declared.choice.Choice.{Choice}
use Rattle.judging.specs.Closing.{IsFaultOfClose as IsFaultOfClosing}
use Rattle.judging.specs.JournalTexts.{Known, IsFaultOfFiles}
use Rattle.judging.specs.Judging.{IsFaultOfJudge as IsFaultOfJudging, LeavesAt}
use Rattle.judging.specs.declared.close.CloseFault.{CloseFault}
use Rattle.judging.specs.declared.close.CloseFault.TheVariants as closed
use Rattle.judging.specs.declared.judge.JudgeFault.{JudgeFault}
use Rattle.judging.specs.declared.judge.JudgeFault.TheVariants as judged
use Rattle.judging.specs.declared.read.ReadFault.{ReadFault}
use Rattle.judging.specs.declared.read.ReadFault.TheVariants as read
use Rattle.cli.specs.Journals.{IsFaultOfJudge, IsFaultOfClose}
use Rattle.cli.specs.inner.Journals.{of_read, of_judge, of_close}
use Rattle.cli.specs.inner.Outputs.{LeavesAtFault}

-- a fault of reading journals is one of `judge`, and of `close`
read_in_judge : (known : Known) (choice : Choice) (folder : Bor Text) (fault : ReadFault) → IsFaultOfFiles known fault → IsFaultOfJudge known choice folder.now (of_read folder fault)
read_in_judge known choice folder (read.Open rank) is = (refl, is)
read_in_judge known choice folder (read.Refused rank fault) is = is
read_in_judge known choice folder (read.ReadFailed rank line) is = is
read_in_judge known choice folder read.Memory is = tt

read_in_close : (known : Known) (folder out : Bor Text) (fault : ReadFault) → IsFaultOfFiles known fault → IsFaultOfClose known folder.now out.now (of_read folder fault)
read_in_close known folder out (read.Open rank) is = (refl, is)
read_in_close known folder out (read.Refused rank fault) is = is
read_in_close known folder out (read.ReadFailed rank line) is = is
read_in_close known folder out read.Memory is = tt

pub may_judge : (known : Known) (choice : Choice) (folder : Bor Text) (fault : JudgeFault) → IsFaultOfJudging known choice fault → IsFaultOfJudge known choice folder.now (of_judge folder fault)
may_judge known choice folder (judged.Read fault) is = read_in_judge known choice folder fault is
may_judge known choice folder (judged.Head fault) is = is
may_judge known choice folder (judged.Refused refusal) is = is
may_judge known choice folder judged.Unended is = is
may_judge known choice folder (judged.Unclean entry) is = is
may_judge known choice folder judged.Memory is = tt
may_judge known choice folder judged.Write is = tt

pub may_close : (known : Known) (folder out : Bor Text) (fault : CloseFault) → IsFaultOfClosing known fault → IsFaultOfClose known folder.now out.now (of_close folder out fault)
may_close known folder out (closed.Read fault) is = read_in_close known folder out fault is
may_close known folder out closed.Make is = refl
may_close known folder out closed.Write is = tt
may_close known folder out closed.Memory is = tt

-- what they leave
module _ {O : Type 0} (written : O → Option Text) (failures : O → ℕ) (old new : O) where
  read_left : (folder : Bor Text) (fault : ReadFault) → new ≡ old → LeavesAtFault written failures old new (of_read folder fault)
  read_left folder (read.Open rank) same = same
  read_left folder (read.Refused rank fault) same = same
  read_left folder (read.ReadFailed rank line) same = same
  read_left folder read.Memory same = same

  pub judged_left : (folder : Bor Text) (fault : JudgeFault) → LeavesAt written failures old new fault → LeavesAtFault written failures old new (of_judge folder fault)
  judged_left folder (judged.Read fault) left = read_left folder fault left
  judged_left folder (judged.Head fault) left = left
  judged_left folder (judged.Refused refusal) left = left
  judged_left folder judged.Unended left = left
  judged_left folder (judged.Unclean entry) left = left
  judged_left folder judged.Memory left = left
  judged_left folder judged.Write left = (left.0, (left.1, left.2))

  pub closed_left : (folder out : Bor Text) (fault : CloseFault) → new ≡ old → LeavesAtFault written failures old new (of_close folder out fault)
  closed_left folder out (closed.Read fault) same = read_left folder fault same
  closed_left folder out closed.Make same = same
  closed_left folder out closed.Write same = same
  closed_left folder out closed.Memory same = same
