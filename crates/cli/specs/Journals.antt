-- Which faults `judge` and `close` report: where the files of the journals are known, those of the files.
use Rattle.std.specs.Prelude.{◌≡◌, ⊤}
use Rattle.clap.specs.Walk.{Text}
use Rattle.judging.specs.JournalTexts.{Known, IsFaultOfFiles}
use Rattle.closing.specs.declared.choice.Choice.{Choice}
use Rattle.judging.specs.Judging.{HoldNoFault, HoldNoRun, IsUnclean}
use Rattle.judging.specs.declared.read.ReadFault.TheVariants as read
use Rattle.cli.specs.declared.fault.Fault.{Fault}
use Rattle.cli.specs.declared.fault.Fault.TheVariants.{OpenJournal, RefusedJournal, FailedJournal, UncleanCut, Make, Head, Refused, Memory, Unproved, Write, WriteFile}

-- the faults of reading the journals in a folder are those of their files
abbrev pub IsFaultOfJournals : Known → Text → Fault → Type 0
IsFaultOfJournals known folder (OpenJournal path rank) = (path.now ≡ folder) × IsFaultOfFiles known (read.Open rank)
IsFaultOfJournals known folder (RefusedJournal rank fault) = IsFaultOfFiles known (read.Refused rank fault)
IsFaultOfJournals known folder (FailedJournal rank line) = IsFaultOfFiles known (read.ReadFailed rank line)
IsFaultOfJournals known folder Memory = ⊤
IsFaultOfJournals known folder fault = ⊥

-- these, that of a cut where something is under way, and a failed write; a fault of their recording only where the files
-- aren't known to hold a run; neither where they are known to hold a fault
abbrev pub IsFaultOfJudge : Known → Choice → Text → Fault → Type 0
IsFaultOfJudge known choice folder (UncleanCut entry) = IsUnclean known choice entry × HoldNoFault known
IsFaultOfJudge known choice folder (Head fault) = HoldNoRun known × HoldNoFault known
IsFaultOfJudge known choice folder (Refused refusal) = HoldNoRun known × HoldNoFault known
IsFaultOfJudge known choice folder (Unproved rank) = HoldNoRun known × HoldNoFault known
IsFaultOfJudge known choice folder Write = ⊤
IsFaultOfJudge known choice folder fault = IsFaultOfJournals known folder fault

-- these; the folder of the recording can't be made, or a file in it can't be written
abbrev pub IsFaultOfClose : Known → Text → Text → Fault → Type 0
IsFaultOfClose known folder out (Make path) = path.now ≡ out
IsFaultOfClose known folder out WriteFile = ⊤
IsFaultOfClose known folder out Write = ⊤
IsFaultOfClose known folder out fault = IsFaultOfJournals known folder fault
