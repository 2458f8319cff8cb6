-- The report of journals where it is known in which calls ranks were: as `Judged` says, and with rank lines of held ranks
-- at their opens. Their call is the pending one.
use Rattle.mpicall.specs.Names.{Rank}
use Rattle.std.specs.Prelude.{ℕ, nat_lt, true, ◌&&◌, ◌||◌, Bool, Option, Some, None, unwrap_or, if◌then◌else◌, List, [], ◌∷◌, ◌++◌, codes, flat_map, length, map, slice_get, slice_index}
use Rattle.std.specs.Fmt.{decimal}
use Rattle.std.specs.List.{filter, range_with_len}
use Rattle.serde_json.specs.Data.{Data, string, array, object, item, no_items, member, no_members}
use Rattle.serde_json.specs.Written.{compact_text}
use Rattle.mpicall.specs.Spelling.{line_feed}
use Rattle.mpigroup.specs.Groups.{Groups}
use Rattle.callstore.specs.Recordings.{Lists}
use Rattle.moves.specs.Stands.{stands_of}
use Rattle.moves.specs.declared.reading.Reading.{Reading}
use Rattle.findings.specs.declared.finding.Finding.{Finding}
use Rattle.waitgraph.specs.Causes.{CauseView}
use Rattle.waitgraph.specs.Pending.{PendingView}
use Rattle.waitgraph.specs.PendingNeeds.{awaited_in}
use Rattle.waitgraph.specs.Stuck.{unmet_of}
use Rattle.waitgraph.specs.declared.awaited.Awaited.{Awaited}
use Rattle.waitgraph.specs.declared.awaited.Awaited.TheVariants as awaited
use Rattle.waitgraph.specs.declared.pending.Item.{Item}
use Rattle.waitgraph.specs.declared.pending.Item.TheVariants as wanted_item
use Rattle.waitgraph.specs.declared.verdict.Verdict.{Verdict}
use Rattle.report.specs.JsonReport.{numeral, spaced, each, need_data, cause_data, finding_data, rank_data}
use Rattle.report.specs.Judged.{left_line, left_data, line_data, with_finding_calls, with_held}
use Rattle.report.specs.TextReport.{line, need_fields, verdict_line, verdict_text, rank_lines, cause_line, finding_line}
use Rattle.report.specs.declared.judged.HeldRanks.{HeldRanks}
use Rattle.report.specs.declared.judged.Judged.{Judged}
use Rattle.report.specs.declared.judged.LeftAt.{LeftAt}
use Rattle.report.specs.declared.judged.LineAt.{LineAt}
use Rattle.report.specs.declared.write.Format.{Format}
use Rattle.report.specs.declared.write.Format.TheVariants.{Text, Json}

-- a number, or any
abbrev pub number_text : Option ℕ → List ℕ
number_text None = codes "any"
number_text (Some number) = decimal number

-- `C:P:T` of a message, a request's number
abbrev pub item_text : Item → List ℕ
item_text (wanted_item.Message wanted) = decimal wanted.comm ++ codes ":" ++ number_text wanted.source ++ codes ":" ++ number_text wanted.tag
item_text (wanted_item.Request req) = decimal req

-- `all ITEM ..`, or `any ITEM ..` also where all has one item
abbrev pub pending_word : PendingView → List ℕ
pending_word call = if call.is_all && nat_lt 1 (length call.items) then codes "all" else codes "any"

abbrev pub pending_fields : PendingView → List (List ℕ)
pending_fields call = pending_word call ∷ map item_text call.items

-- the rank's pending call; without items where it has none
abbrev pub pending_of : List PendingView → Rank → PendingView
pending_of pending rank = unwrap_or (slice_get pending rank) (record { is_all = true; items = [] })

-- what a request needs, `rank K` for any further call of the rank, or `nobody`
abbrev pub awaited_fields : Awaited → List (List ℕ)
awaited_fields (awaited.Call need) = need_fields need
awaited_fields (awaited.Rank rank) = codes "rank" ∷ decimal rank ∷ []
awaited_fields awaited.Nobody = codes "nobody" ∷ []

-- `rank R at I any ITEM .. waits ..`
abbrev pub awaited_line : Reading → Groups → Lists → PendingView → Rank → Awaited → List ℕ
awaited_line reading groups recording call rank one =
    line (codes "rank" ∷ decimal rank ∷ codes "at" ∷ decimal (slice_index (stands_of reading groups recording) rank)
    ∷ pending_fields call ++ codes "waits" ∷ awaited_fields one)

-- a line for each unmet need of a stuck rank, and for all that a held rank at its open waits for
abbrev pub lines_of_rank : Reading → Groups → Lists → List PendingView → List (List Awaited) → Rank → List ℕ
lines_of_rank reading groups recording pending at_open rank =
    rank_lines reading groups recording rank ++ flat_map (awaited_line reading groups recording (pending_of pending rank) rank) (awaited_in at_open rank)

-- the lists of the report: the findings and where lists end
unfoldable pub pending_text : Reading → Groups → Lists → Verdict → List PendingView → List (List Awaited) → List CauseView → List Finding → List LeftAt → List ℕ
pending_text reading groups recording verdict pending at_open causes findings left =
    verdict_line verdict ++ flat_map (lines_of_rank reading groups recording pending at_open) (range_with_len 0 (length recording))
    ++ flat_map cause_line causes ++ flat_map finding_line findings ++ flat_map left_line left

-- `[K,J]`, `[K,null]`, `[K]` or `[]`
abbrev pub awaited_data : Awaited → Data
awaited_data (awaited.Call need) = need_data need
awaited_data (awaited.Rank rank) = array (item (numeral rank) no_items)
awaited_data awaited.Nobody = array no_items

-- `{"at":I,"call":"any ITEM ..","needs":[..],"rank":R}`
abbrev pub at_open_data : Reading → Groups → Lists → PendingView → List (List Awaited) → Rank → Data
at_open_data reading groups recording call at_open rank =
    object (member (codes "at") (numeral (slice_index (stands_of reading groups recording) rank))
    (member (codes "call") (spaced (pending_fields call))
    (member (codes "needs") (each awaited_data (awaited_in at_open rank))
    (member (codes "rank") (numeral rank) no_members))))

-- some need of the rank's call is unmet: it is stuck
abbrev pub has_unmet : Reading → Groups → Lists → Rank → Bool
has_unmet reading groups recording rank = nat_lt 0 (length (unmet_of reading groups recording rank))

-- the rank has lines
abbrev pub has_lines : Reading → Groups → Lists → List (List Awaited) → Rank → Bool
has_lines reading groups recording at_open rank = has_unmet reading groups recording rank || nat_lt 0 (length (awaited_in at_open rank))

-- that of a stuck rank is as ever
abbrev pub data_of_rank : Reading → Groups → Lists → List PendingView → List (List Awaited) → Rank → Data
data_of_rank reading groups recording pending at_open rank =
    if has_unmet reading groups recording rank then rank_data reading groups recording rank else at_open_data reading groups recording (pending_of pending rank) at_open rank

-- `{"causes":[..],"findings":[..],"left":[..],"lines":[..],"ranks":[..],"verdict":..}`, and with what is asked for of held ranks
unfoldable pub pending_data : Reading → Groups → Lists → Verdict → List PendingView → List (List Awaited) → List CauseView → List Finding → List LeftAt → List LineAt → Option HeldRanks → Data
pending_data reading groups recording verdict pending at_open causes findings left lines held =
    object (member (codes "causes") (each cause_data causes)
    (with_finding_calls held
    (member (codes "findings") (each finding_data findings)
    (with_held held
    (member (codes "left") (each left_data left)
    (member (codes "lines") (each line_data lines)
    (member (codes "ranks") (each (data_of_rank reading groups recording pending at_open) (filter (has_lines reading groups recording at_open) (range_with_len 0 (length recording))))
    (member (codes "verdict") (string (verdict_text verdict)) no_members))))))))

unfoldable pub pending_json : Reading → Groups → Lists → Verdict → List PendingView → List (List Awaited) → List CauseView → List Finding → List LeftAt → List LineAt → Option HeldRanks → List ℕ
pending_json reading groups recording verdict pending at_open causes findings left lines held =
    compact_text (pending_data reading groups recording verdict pending at_open causes findings left lines held) ++ line_feed ∷ []

unfoldable pub pending_report : Format → Reading → Groups → Lists → Verdict → List PendingView → List (List Awaited) → List CauseView → Judged → List ℕ
pending_report Text reading groups recording verdict pending at_open causes it =
    pending_text reading groups recording verdict pending at_open causes it.findings.now it.left.now
pending_report Json reading groups recording verdict pending at_open causes it =
    pending_json reading groups recording verdict pending at_open causes it.findings.now it.left.now it.lines.now it.held
