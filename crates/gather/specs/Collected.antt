-- What a collector keeps of the ranks' records, which come from their feeds in any order: for each rank the
-- records before its first fault, and that fault.
use Rattle.mpicall.specs.Names.{Rank}
use Rattle.moves.specs.declared.reading.Reading.{Reading}
use Rattle.std.specs.Prelude.{◌≡◌, ◌⊎◌, ◌+◌, Bool, true, false, not, ◌&&◌, is_none, unwrap_or, if◌then◌else◌, Option, Some, None, List, [], ◌∷◌, length, take, replicate, slice_get, slice_set}
use Rattle.mpicall.specs.declared.call.Call.{Call}
use Rattle.mpigroup.specs.Groups.{Groups, ranks_of, or_empty}
use Rattle.callstore.specs.Recordings.{Lists, calls_of, appended}
use Rattle.pairing.specs.Faults.{fault_of}
use Rattle.pairing.specs.declared.fault.CallFault.{CallFault}
use Rattle.rankfeed.specs.Items.{calls_among, end_mark_of}
use Rattle.mpicall.specs.declared.fault.Ending.{Ending}
use Rattle.mpicall.specs.declared.fault.Ending.TheVariants.{Sealed, Torn}
use Rattle.rankfeed.specs.declared.item.Item.{Item}
use Rattle.rankfeed.specs.declared.answer.Took.{Took}
use Rattle.gather.specs.Outcomes.{PlacedFault, fault_onward, refusal_or}
use Rattle.gather.specs.declared.fault.RankFault.{RankFault}
use Rattle.gather.specs.declared.fault.RankFault.TheVariants.{OfCall, OfSource}
use Rattle.gather.specs.declared.fault.Refusal.{Refusal}
use Rattle.gather.specs.declared.ledger.Stepped.{Stepped}
use Rattle.gather.specs.declared.ledger.Stepped.TheVariants.{Refused, Discarded, Empty, Ended}

-- the fault with which a rank's items end after its calls: that of an end mark, if one came and it has one
abbrev pub fault_of_mark : Option Ending → List Call → Option PlacedFault
fault_of_mark None calls = None
fault_of_mark (Some Sealed) calls = None
fault_of_mark (Some (Torn fault)) calls = Some (length calls, OfSource fault)

-- the first fault of a rank over the items of its feed, with its place
abbrev pub fault_of_items : Groups → Rank → List Item → Option PlacedFault
fault_of_items groups rank items = fault_onward groups rank (fault_of_mark (end_mark_of items)) [] (calls_among items)

-- the records before the fault; all of them where there is none
abbrev pub records_before : Option PlacedFault → List Call → List Call
records_before None records = records
records_before (Some fault) records = take fault.0 records

-- of the items received from a rank, its first fault is kept, and the records before it
pub record IsKeptOf (groups : Groups) (rank : Rank) (items : List Item) (calls : List Call) (fault : Option PlacedFault) : Type 0 where
  pub first : fault ≡ fault_of_items groups rank items
  pub before : calls ≡ records_before fault (calls_among items)

-- what is kept of all ranks: each rank's records, its first fault, and whether memory ran out
pub record Kept : Type 0 where
  pub reading : Reading
  pub groups : Groups
  pub recording : Lists
  pub faults : List (Option PlacedFault)
  pub wanted : Bool

-- nothing is kept so far
abbrev pub nothing_kept : Reading → Groups → Kept
nothing_kept reading groups = record { reading = reading; groups = groups; recording = replicate (ranks_of groups) []; faults = replicate (ranks_of groups) None; wanted = false }

-- the fault that is kept of a rank, if one is
abbrev pub fault_at : List (Option PlacedFault) → Rank → Option PlacedFault
fault_at faults rank = unwrap_or (slice_get faults rank) None

-- the items received from a rank
abbrev pub items_of : List (List Item) → Rank → List Item
items_of received rank = or_empty received rank

-- records of the rank are still accepted: it has no fault, and memory wasn't wanted
abbrev pub is_accepting : Kept → Rank → Bool
is_accepting kept rank = is_none (fault_at kept.faults rank) && not kept.wanted

-- the same with one more record of the rank
abbrev pub with_record : Kept → Rank → Call → Kept
with_record kept rank call = record kept { recording = appended kept.recording rank call }

-- what is kept with a fault of the rank after its records
abbrev pub with_fault : Kept → Rank → RankFault → Kept
with_fault kept rank fault = record kept { faults = slice_set kept.faults rank (Some (length (calls_of kept.recording rank), fault)) }

-- what is kept once memory ran out
abbrev pub wanting : Kept → Kept
wanting kept = record kept { wanted = true }

-- the first fault of a record after the rank's records so far
abbrev pub fault_behind_kept : Kept → Rank → Call → Option CallFault
fault_behind_kept kept rank call = fault_of kept.groups rank (calls_of kept.recording rank) call

-- what is answered of a record, and kept: it is accepted, or it is the rank's first fault, or it is thrown
-- away, since its rank isn't open or since memory ran out for it
abbrev pub EntersRecord : Rank → Call → Kept → Stepped → Kept → Type 0
EntersRecord rank call old Stepped.Took new =
    (is_accepting old rank ≡ true) × (fault_behind_kept old rank call ≡ None) × (new ≡ with_record old rank call)
EntersRecord rank call old Refused new =
    (is_accepting old rank ≡ true) × ((fault : CallFault) × (fault_behind_kept old rank call ≡ Some fault) × (new ≡ with_fault old rank (OfCall fault)))
EntersRecord rank call old Discarded new =
    ((is_accepting old rank ≡ false) × (new ≡ old)) ⊎ ((is_accepting old rank ≡ true) × (fault_behind_kept old rank call ≡ None) × (new ≡ wanting old))
EntersRecord rank call old Empty new = ⊥
EntersRecord rank call old Ended new = ⊥

-- what is kept once the records of a rank stop for a fault
abbrev pub torn : Kept → Rank → RankFault → Kept
torn kept rank fault = if is_accepting kept rank then with_fault kept rank fault else kept

-- what is answered of what was taken from a rank's feed, and kept
abbrev pub Enters : Rank → Took → Kept → Stepped → Kept → Type 0
Enters rank (Took.Record call) old answer new = EntersRecord rank call old answer new
Enters rank Took.Empty old answer new = (answer ≡ Empty) × (new ≡ old)
Enters rank Took.Sealed old answer new = (answer ≡ Ended) × (new ≡ old)
Enters rank (Took.Torn fault) old answer new = (answer ≡ Ended) × (new ≡ torn old rank (OfSource fault))

-- the refusal of the lowest rank, from `rank` on, of which a fault is kept
abbrev pub refusal_in : Rank → List (Option PlacedFault) → Option Refusal
refusal_in rank [] = None
refusal_in rank (fault ∷ faults) = refusal_or rank fault (refusal_in (rank + 1) faults)

-- the refusal of the lowest rank of which a fault is kept
abbrev pub refusal_kept : Kept → Option Refusal
refusal_kept kept = refusal_in 0 kept.faults

-- what is kept of a rank is what these items give
abbrev pub IsKeptIn : Rank → List Item → Kept → Type 0
IsKeptIn rank items kept = IsKeptOf kept.groups rank items (calls_of kept.recording rank) (fault_at kept.faults rank)
