-- What is so of each run that was read, in the words of those who judge by its recording.
use Rattle.std.proofs.Common.{◌≡◌, ◌<◌, ℕ, length, map, Ok}
use Rattle.mpigroup.specs.Groups.{ranks_of}
use Rattle.mpigroup.specs.HeadText.{read_head}
use Rattle.callstore.specs.Recordings.{IsClosed, calls_of as calls_of_rank}
use Rattle.pairing.specs.Faults.{IsLawful}
use Rattle.closing.specs.Entries.{Run}
use Rattle.closing.specs.Entry.{Choice}
use Rattle.closing.specs.Fit.{IsFit}
use Rattle.closing.specs.Numbers.{groups_of}
use Rattle.closing.specs.Recording.{list_of, recording_of, calls_of}
use Rattle.closing.specs.Texts.{head_text}
use Rattle.lawful.specs.Laws.{IsRead}
use Rattle.lawful.proofs.ClosedLemmas.{each_recording_is_closed}
use Rattle.lawful.proofs.LawfulLemmas.{list_at, many, each_recording_is_lawful}
use Rattle.lawful.proofs.HeadLemmas.{world_size}
use Rattle.lawful.proofs.HeadTexts.{each_recording_reads_back}
use Rattle.lawful.proofs.FitLemmas.{each_run_that_was_read_is_fit}

pub fit_of_read : (run : Run) (choice : Choice) → IsRead run → IsFit run choice
fit_of_read run choice read = each_run_that_was_read_is_fit run choice read

pub lawful_of_read : (run : Run) (choice : Choice) → IsRead run → IsLawful (groups_of run) (map calls_of (recording_of run choice).lists)
unfolding recording_of
lawful_of_read run choice read = each_recording_is_lawful run choice read

pub head_of_read : (run : Run) (choice : Choice) → IsRead run → read_head (head_text (recording_of run choice)) ≡ Ok (groups_of run)
unfolding recording_of
head_of_read run choice read = (each_recording_reads_back run choice read).head

pub ranks_of_head : (run : Run) (choice : Choice) → ranks_of (groups_of run) ≡ length run
ranks_of_head run choice = world_size run

-- the recording has a list for each rank, each is closed, and a rank's calls are those of its list
pub list_count : (run : Run) (choice : Choice) → length (map calls_of (recording_of run choice).lists) ≡ length run
unfolding recording_of
list_count run choice = many run choice

pub lists_closed : (run : Run) (choice : Choice) → IsClosed (map calls_of (recording_of run choice).lists)
lists_closed run choice = (each_recording_is_closed run choice).closed

pub list_there : (run : Run) (choice : Choice) (rank : ℕ) → rank < length run → calls_of_rank (map calls_of (recording_of run choice).lists) rank ≡ calls_of (list_of run choice rank)
unfolding recording_of
list_there run choice rank within = list_at run choice rank within
