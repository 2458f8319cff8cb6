-- The end of the process: the status that it hands on, and what is on the two outputs then.
use Rattle.std.specs.Prelude.{◌≡◌, ◌⊎◌, ℕ, Bool, Option, List, codes}
use Rattle.clap.specs.Walk.{Text}
use Rattle.cli.specs.ExitContract.{Ends, Made}
use Rattle.cli.specs.Openings.{Fate}
use Rattle.cli.specs.Outputs.{Tries}
use Rattle.cli.specs.declared.argv.Ended.{Ended}
use Rattle.cli.specs.declared.argv.WordsFault.{WordsFault}
use Rattle.cli.specs.declared.argv.WordsFault.TheVariants.{NoText, NoMemory}
use Rattle.cli.specs.declared.status.Status.{Status}
use Rattle.cli.specs.declared.status.Status.TheVariants.{Usage, Fault}

abbrev pub status_in : Ended → Status
status_in ended = ended.status

-- how words that can't be read are reported
abbrev pub status_of_words : WordsFault → Status
status_of_words NoText = Usage
status_of_words NoMemory = Fault

abbrev pub text_of_words : WordsFault → Text
text_of_words NoText = codes "usage: the words must be text in UTF-8\n"
text_of_words NoMemory = codes "fault memory\n"

-- the two outputs, and what is known of files and of those that are made, as for the end of the program
module _ {O E : Type 0} (written : O → Option Text) (failures : O → ℕ) (written_errors : E → Option Text) (failed_errors : E → ℕ) (fate : Text → Fate → Type 0) (told : Text → Option Text) (named : Text → Option Bool) (made : Made) (old new : O) (old_errors new_errors : E) where
  -- the program ended by some words
  abbrev pub EndsBySome : Status → Type 0
  EndsBySome status = (words : List Text) × Ends written failures written_errors failed_errors fate told named made old new old_errors new_errors words status

  -- the program ended by some words; or those of the process couldn't be read, which standard error
  -- says alone
  abbrev pub EndsGiven : Status → Type 0
  EndsGiven status =
      EndsBySome status
      ⊎ ((fault : WordsFault) × (status ≡ status_of_words fault) × (new ≡ old) × Tries written_errors failed_errors old_errors new_errors (text_of_words fault))
