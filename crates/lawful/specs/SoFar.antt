-- Law of journals that go on: what the list of a plain journal has so far stays as it is.
use Rattle.std.specs.Prelude.{◌≡◌, ℕ, true, false, Some, None, is_none, List, [], ◌++◌, length}
use Rattle.std.specs.List.{list_all}
use Rattle.journals.specs.Lines.{Line}
use Rattle.journals.specs.Entries.{listing_of}
use Rattle.journals.specs.Journal.{Journal}
use Rattle.closing.specs.Keys.{Key}
use Rattle.closing.specs.Entries.{Run, journal_at, entries_at}
use Rattle.closing.specs.Reported.{is_left_out}
use Rattle.closing.specs.Numbers.{number_of, preface_of}
use Rattle.closing.specs.Steps.{Written}
use Rattle.closing.specs.Endings.{why_at}
use Rattle.closing.specs.Entry.{Choice, matched_message}
use Rattle.closing.specs.Recording.{whole_list}
use Rattle.closing.specs.declared.choice.Calls.TheVariants.{Strict}
use Rattle.lawful.specs.Plain.{is_plain}

-- the rank's journal goes on in the longer run, with a call line; communicators have the same numbers in both
pub record IsContinued (run longer : Run) (rank : ℕ) : Type 0 where
  pub journal : Journal
  pub later : Journal
  pub is_there : journal_at run rank ≡ Some journal
  pub goes_on : journal_at longer rank ≡ Some later
  pub more : List Line
  pub lines : later.lines ≡ journal.lines ++ more
  pub begins_with_a_call : (listing_of more).early ≡ []
  pub ranks : length longer ≡ length run
  pub numbers : (key : Key) → number_of longer key ≡ number_of run key
  pub preface : preface_of longer rank ≡ preface_of run rank

-- its calls so far are plain, and none breaks its list off; no request is cancelled or moved, so far or later, or takes
-- a message that was probed for
pub record IsPlainSoFar (run : Run) (rank : ℕ) (later : Journal) : Type 0 where
  pub plain : list_all (λ placed. is_plain placed.called) (entries_at run rank) ≡ true
  pub none_breaks : list_all (λ placed. is_none (why_at run placed)) (entries_at run rank) ≡ true
  pub none_out : (request : ℕ) → is_left_out later.lines request ≡ false
  pub none_matched : (request : ℕ) → matched_message later.lines request ≡ None

-- Law: the list of the longer run begins with the records so far.
abbrev pub WhatIsSoFarStays : Type 0
WhatIsSoFarStays =
    (run longer : Run) (choice : Choice) (rank : ℕ) → choice.calls ≡ Strict →
    (on : IsContinued run longer rank) → IsPlainSoFar run rank on.later →
    (rest : List Written) ×
    ((whole_list longer choice rank).records ≡ (whole_list run choice rank).records ++ rest)
