-- What a recording keeps of its ranks, against what callers see.
use Rattle.std.specs.Prelude.{◌≡◌, ℕ, ◌+◌, ◌-◌, ◌<◌, ◌≤◌, true, Option, Some, None, option_map, if◌then◌else◌, List, length, map, slice_get, zip}
use Rattle.journals.specs.declared.journal.Journal.{Journal as JournalRead}
use Rattle.closing.specs.Entries.{Run, lines_at, lines_in}
use Rattle.closing.specs.Fit.{IsFit}
use Rattle.closing.specs.Journals.{journal_in, run_in}
use Rattle.closing.specs.Recordings.{ChangesOnly, IsPartMade, RecordingView, choice_in, count_at}
use Rattle.closing.specs.inner.Numbered.{IsNumberedRun}
use Rattle.closing.specs.inner.SoFar.{IsWalk}
use Rattle.closing.specs.declared.choice.Choice.{Choice as ChoiceMade}
use Rattle.closing.specs.declared.numbers.Communicators.{Communicators}
use Rattle.closing.specs.declared.walk.Walk.{Walk}

-- how many records of the list of a rank were made
abbrev pub made_by : Walk → ℕ
made_by walk = walk.handed + length walk.list.records

-- how many lines of a rank's journal are left, with one for the end of its list; none where that has ended
abbrev pub left_by : Option JournalRead × Walk → ℕ
left_by (journal, walk) =
    if walk.is_over then 0 else length (lines_in (option_map journal_in journal)) - walk.next + 1

abbrev pub recording_view : List (Option JournalRead) → ChoiceMade → List Walk → RecordingView
recording_view journals choice walks = record {
  run = run_in journals;
  choice = choice_in choice;
  handed = map (λ walk. walk.handed) walks;
  made = map made_by walks;
  before = map (λ walk. walk.before) walks;
  left = map left_by (zip journals walks);
}

-- the list of a rank came so far as the definitions have it, by what is kept of the communicators
pub record IsWalkOf (run : Run) (choice : ChoiceMade) (kept : Communicators) (rank : ℕ) (walk : Walk) : Type 0 where
  pub rank_is : walk.rank ≡ rank
  pub choice_is : walk.choice ≡ choice
  pub numbered : IsNumberedRun run kept
  pub is : IsWalk run (choice_in choice) kept.keys walk
  pub before : walk.before ≤ made_by walk

-- so it is of the lists that are there; that of a rank without a journal has ended
pub record HaveWalks (journals : List (Option JournalRead)) (choice : ChoiceMade) (kept : Communicators) (walks : List Walk) : Type 0 where
  pub alone : (rank : ℕ) (walk : Walk) → slice_get journals rank ≡ Some None → slice_get walks rank ≡ Some walk → walk.is_over ≡ true
  pub are : IsFit (run_in journals) (choice_in choice) → (rank : ℕ) (walk : Walk) → slice_get walks rank ≡ Some walk
      → IsWalkOf (run_in journals) choice kept rank walk

-- no journal has more lines than are counted
abbrev pub AreFew : List (Option JournalRead) → Type 0
AreFew journals = (rank : ℕ) → length (lines_at (run_in journals) rank) ≤ 4294967292

-- there is a list of each rank
pub record IsRecording (ranks : ℕ) (journals : List (Option JournalRead)) (choice : ChoiceMade) (kept : Communicators) (walks : List Walk) : Type 0 where
  pub ranks_are : ranks ≡ length journals
  pub walks_are : length walks ≡ length journals
  pub few : AreFew journals
  pub have : HaveWalks journals choice kept walks

-- ---- An entry is taken ----

-- what callers see of it
pub record IsStep (rank : ℕ) (old new : RecordingView) : Type 0 where
  pub same : ChangesOnly rank old new
  pub handed : new.handed ≡ old.handed
  pub made : IsFit new.run new.choice → count_at old.made rank ≤ count_at new.made rank
  pub before : IsFit new.run new.choice → count_at new.before rank ≤ count_at old.made rank
  pub left : count_at old.left rank ≡ 0 → count_at new.left rank ≡ 0
  pub next : (count_at old.left rank ≡ 0 → ⊥) → count_at new.left rank < count_at old.left rank
  pub part : IsFit new.run new.choice → rank < length new.run → IsPartMade new rank

-- with what is kept
pub record TakesStep (rank ranks : ℕ) (journals : List (Option JournalRead)) (choice : ChoiceMade) (kept : Communicators) (old new : List Walk) : Type 0 where
  pub is : IsRecording ranks journals choice kept new
  pub step : IsStep rank (recording_view journals choice old) (recording_view journals choice new)
