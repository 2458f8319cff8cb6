-- The list of a rank is what its entries make of it one after the other.
use Rattle.std.proofs.Common.{◌≡◌, refl, sym, ◌∙◌, ap, ℕ, List, [], ◌∷◌, ◌++◌, append_assoc}
use Rattle.closing.specs.Entries.{Run, Placed}
use Rattle.closing.specs.Steps.{Written, Progress, after_steps}
use Rattle.closing.specs.Entry.{Choice}
use Rattle.closing.specs.Recording.{Listed, go_on, list_from, outcome_in}
use Rattle.closing.specs.Sinks.{Outcome, GoesOn, Ends}
use Rattle.closing.specs.inner.Walking.{Comes, Stops, course_with, course_from, list_in}
use Rattle.closing.proofs.GrownLemmas.{grown_all, same_records}

ended_stays : (run : Run) (choice : Choice) (list : Listed) (entries : List Placed) → list_in (course_from run choice (Stops list) entries) ≡ list
ended_stays run choice list [] = refl
ended_stays run choice list (placed ∷ others) = ended_stays run choice list others

by_outcome : (run : Run) (choice : Choice) (progress : Progress) (line : ℕ) (others : List Placed) (outcome : Outcome)
    → ((after : Progress) → list_from run choice after others ≡ list_in (course_from run choice (Comes after) others))
    → go_on progress line outcome (λ after. list_from run choice after others) ≡ list_in (course_from run choice (course_with progress line outcome) others)
by_outcome run choice progress line others (GoesOn steps) h = h (after_steps progress line steps)
by_outcome run choice progress line others (Ends steps end why) h = sym (ended_stays run choice _ others)

-- the definition over all entries is one entry's step after another's
pub list_by_entries : (run : Run) (choice : Choice) (progress : Progress) (entries : List Placed)
    → list_from run choice progress entries ≡ list_in (course_from run choice (Comes progress) entries)
list_by_entries run choice progress [] = refl
list_by_entries run choice progress (placed ∷ others) =
    by_outcome run choice progress placed.line others (outcome_in run choice progress.records placed) (λ after. list_by_entries run choice after others)

-- after an entry with which the list goes on
pub list_goes_on : (run : Run) (choice : Choice) (progress : Progress) (placed : Placed) (others : List Placed) (steps : _)
    → outcome_in run choice progress.records placed ≡ GoesOn steps
    → list_from run choice progress (placed ∷ others) ≡ list_from run choice (after_steps progress placed.line steps) others
list_goes_on run choice progress placed others steps e = ap (λ outcome. go_on progress placed.line outcome (λ after. list_from run choice after others)) e

begins_with : (run : Run) (choice : Choice) (progress : Progress) (line : ℕ) (others : List Placed) (outcome : Outcome)
    → ((after : Progress) → (more : List Written) × ((list_from run choice after others).records ≡ after.records ++ more))
    → (more : List Written) × ((go_on progress line outcome (λ after. list_from run choice after others)).records ≡ progress.records ++ more)
begins_with run choice progress line others (GoesOn steps) h =
    let one = grown_all progress line steps in
    let two = h (after_steps progress line steps) in
    (one.0 ++ two.0, two.1 ∙ ap (λ xs. xs ++ two.0) one.1 ∙ append_assoc progress.records one.0 two.0)
begins_with run choice progress line others (Ends steps end why) h = grown_all progress line steps

-- records that the list has so far it has to its end
pub list_begins : (run : Run) (choice : Choice) (progress : Progress) (entries : List Placed)
    → (more : List Written) × ((list_from run choice progress entries).records ≡ progress.records ++ more)
list_begins run choice progress [] = same_records progress
list_begins run choice progress (placed ∷ others) =
    begins_with run choice progress placed.line others (outcome_in run choice progress.records placed) (λ after. list_begins run choice after others)
