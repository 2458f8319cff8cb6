-- Each recording of journals is closed.
use Rattle.std.proofs.Common.{◌≡◌, ℕ, zero, suc, ◌<◌, false, List, [], ◌∷◌, ◌++◌, length, map, refl, arith}
use Rattle.std.specs.Prelude.{⊤}
use Rattle.std.specs.List.{list_any}
use Rattle.std.proofs.lemmas.List.{length-map}
use Rattle.mpicall.specs.Ending.{ends_list}
use Rattle.mpicall.specs.declared.call.Call.{Call}
use Rattle.mpigroup.specs.Groups.{or_empty}
use Rattle.callstore.specs.Recordings.{IsClosedList}
use Rattle.closing.specs.Entries.{Run, ranks_of}
use Rattle.closing.specs.Entry.{Choice}
use Rattle.closing.specs.Recording.{Listed, calls_of, list_of, recording_of}
use Rattle.lawful.specs.Closed.{EachRecordingIsClosed}
use Rattle.lawful.proofs.RequestLemmas.{AllFit}
use Rattle.lawful.proofs.ListLemmas.{FitsAll, list_of_fits}

pub none_ends : (before calls : List Call) → AllFit before calls → list_any ends_list calls ≡ false
none_ends before [] fit = refl
none_ends before (call ∷ calls) fit = rw (fit.0.goes_on, none_ends (before ++ call ∷ []) calls fit.1) refl

list_closed : (it : Listed) → FitsAll it → IsClosedList (calls_of it)
list_closed it fit = record {
  before = map (λ one. one.call) it.records;
  last = it.end;
  is_all = refl;
  is_the_end = fit.1;
  has_no_other = none_ends [] (map (λ one. one.call) it.records) fit.0;
}

abbrev AreClosed : List (List Call) → Type 0
AreClosed [] = ⊤
AreClosed (calls ∷ others) = IsClosedList calls × AreClosed others

lists_closed : (run : Run) (choice : Choice) (ranks : List ℕ) → AreClosed (map calls_of (map (list_of run choice) ranks))
lists_closed run choice [] = tt
lists_closed run choice (rank ∷ ranks) =
    (list_closed (list_of run choice rank) (list_of_fits run choice rank), lists_closed run choice ranks)

closed_at : (lists : List (List Call)) → AreClosed lists → (rank : ℕ) → rank < length lists → IsClosedList (or_empty lists rank)
closed_at [] all rank within = absurd (omega (arith, within))
closed_at (calls ∷ others) all zero within = all.0
closed_at (calls ∷ others) all (suc rank) within = closed_at others all.1 rank (omega (arith, within))

pub each_recording_is_closed : EachRecordingIsClosed
unfolding recording_of
each_recording_is_closed run choice = record {
  one_a_rank = length-map (ranks_of run) (list_of run choice);
  closed = λ rank within. closed_at (map calls_of (map (list_of run choice) (ranks_of run))) (lists_closed run choice (ranks_of run)) rank within;
}
