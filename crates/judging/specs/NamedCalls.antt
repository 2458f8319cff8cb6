-- The calls that a report names, and the line of the journal for each.
use Rattle.mpicall.specs.Names.{Rank, Place, Comm, Wave}
use Rattle.std.specs.Prelude.{◌≡◌, ℕ, ◌==◌, ◌&&◌, ◌||◌, nat_lt, All, Bool, true, Option, Some, None, unwrap_or, List, [], ◌∷◌, ◌++◌, map, slice_get, slice_index}
use Rattle.std.specs.List.{flat_map, list_all, list_any}
use Rattle.std.specs.Option.{option_map_or}
use Rattle.mpigroup.specs.Groups.{Groups, world_rank_of}
use Rattle.callstore.specs.Recordings.{Lists, calls_of}
use Rattle.callstore.specs.Requests.{completes, started_before}
use Rattle.callstore.specs.Waves.{place_in_wave}
use Rattle.moves.specs.Stands.{stands_of}
use Rattle.moves.specs.declared.need.Need.{Need}
use Rattle.moves.specs.declared.need.Need.TheVariants.{At, Lacking}
use Rattle.moves.specs.declared.reading.Reading.{Reading}
use Rattle.findings.specs.declared.finding.Finding.{Finding}
use Rattle.findings.specs.declared.finding.Finding.TheVariants as finding
use Rattle.waitgraph.specs.Stuck.{stuck_of, unmet_of}
use Rattle.report.specs.declared.judged.LineAt.{LineAt}
use Rattle.report.specs.declared.write.Format.{Format}
use Rattle.report.specs.declared.write.Format.TheVariants.{Text, Json}
use Rattle.closing.specs.Recording.{Listed}

-- ---- Which calls are named ----

-- a call: its rank, and its place in the rank's list
pub record CallAt : Type 0 where
  pub rank : Rank
  pub place : Place

abbrev pub call_at : Rank → Place → CallAt
call_at rank place = record { rank = rank; place = place }

-- the call of a rank at the place, if there is one
abbrev pub calls_there : Rank → Option Place → List CallAt
calls_there rank None = []
calls_there rank (Some place) = call_at rank place ∷ []

-- the call that a need is for, if there is one
abbrev pub calls_needed : Need → List CallAt
calls_needed (At rank place) = call_at rank place ∷ []
calls_needed (Lacking rank) = []

-- the starts of the requests that the call at the place completes
abbrev pub starts_of : Lists → Rank → Place → List CallAt
starts_of recording rank place =
    flat_map (λ req. calls_there rank (started_before recording rank place req))
    (option_map_or completes (slice_get (calls_of recording rank) place) [])

-- the call of a wave of the member with that rank in the communicator's group
abbrev pub calls_of_member : Groups → Lists → Comm → Wave → Rank → List CallAt
calls_of_member groups recording comm wave member =
    option_map_or (λ rank. calls_there rank (place_in_wave recording comm wave rank)) (world_rank_of groups comm member) []

-- the calls of a finding: of two members that differ, both
abbrev pub calls_found : Groups → Lists → Finding → List CallAt
calls_found groups recording (finding.Kind comm wave member first other) =
    calls_of_member groups recording comm wave 0 ++ calls_of_member groups recording comm wave member
calls_found groups recording (finding.Root comm wave member first other) =
    calls_of_member groups recording comm wave 0 ++ calls_of_member groups recording comm wave member
calls_found groups recording (finding.Unreceived rank place) = call_at rank place ∷ []
calls_found groups recording (finding.Request rank place request) = call_at rank place ∷ []
calls_found groups recording (finding.Group rank place) = call_at rank place ∷ []

-- of a stuck rank: the call where it stands, those that it waits for, and the starts of the requests that it would complete
abbrev pub calls_of_stuck : Reading → Groups → Lists → Rank → List CallAt
calls_of_stuck reading groups recording rank =
    let stand = slice_index (stands_of reading groups recording) rank in
    call_at rank stand ∷ (flat_map calls_needed (unmet_of reading groups recording rank) ++ starts_of recording rank stand)

-- those of the stuck ranks and of the findings; the ranks of a cycle are stuck
abbrev pub calls_named : Reading → Groups → Lists → List Finding → List CallAt
calls_named reading groups recording findings =
    flat_map (calls_of_stuck reading groups recording) (stuck_of reading groups recording) ++ flat_map (calls_found groups recording) findings

-- those that have a line in the report: in text none
abbrev pub calls_in : Format → List CallAt → List CallAt
calls_in Text calls = []
calls_in Json calls = calls

-- ---- What is said of them ----

abbrev pub is_call_at : Rank → Place → CallAt → Bool
is_call_at rank place call = call.rank == rank && call.place == place

abbrev pub is_line_at : Rank → Place → LineAt → Bool
is_line_at rank place it = it.rank == rank && it.place == place

-- the order by rank, and of one rank by place
abbrev pub comes_before : LineAt → LineAt → Bool
comes_before it other = nat_lt it.rank other.rank || (it.rank == other.rank && nat_lt it.place other.place)

-- each comes before all after it
abbrev pub are_in_order : List LineAt → Bool
are_in_order [] = true
are_in_order (it ∷ lines) = list_all (comes_before it) lines && are_in_order lines

-- these calls and no others have a line, in order, each once
pub record HaveLines (calls : List CallAt) (lines : List LineAt) : Type 0 where
  pub are_these : (rank : Rank) (place : Place) → list_any (is_line_at rank place) lines ≡ list_any (is_call_at rank place) calls
  pub in_order : are_in_order lines ≡ true

-- ---- The numbers of lines ----

-- the line of the entry of each call of a list; that of its end is the last
abbrev pub lines_of : Listed → List ℕ
lines_of list = map (λ one. one.line) list.records ++ list.line ∷ []

-- that of a call; 0 where there is none
abbrev pub line_in : List (List ℕ) → Rank → Place → ℕ
line_in rows rank place = unwrap_or (slice_get (unwrap_or (slice_get rows rank) []) place) 0

-- each line has that number
abbrev pub HaveNumbers : List (List ℕ) → List LineAt → Type 0
HaveNumbers rows lines = All (λ it. it.line ≡ line_in rows it.rank it.place) lines
