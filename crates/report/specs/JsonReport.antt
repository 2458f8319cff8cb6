-- The JSON report: one object in compact form and a line feed. Keys are in the order of their bytes.
use Rattle.mpicall.specs.Names.{Rank}
use Rattle.moves.specs.declared.reading.Reading.{Reading}
use Rattle.std.specs.Prelude.{ℕ, List, [], ◌∷◌, ◌++◌, codes, map, slice_index}
use Rattle.std.specs.List.{join_with_byte}
use Rattle.serde_json.specs.Data.{Data, null, number, unsigned, string, array, object, item, no_items, member, no_members}
use Rattle.serde_json.specs.View.{items_of}
use Rattle.serde_json.specs.Written.{compact_text}
use Rattle.mpicall.specs.Spelling.{space, line_feed}
use Rattle.mpigroup.specs.Groups.{Groups}
use Rattle.callstore.specs.Recordings.{Lists}
use Rattle.moves.specs.Stands.{stands_of}
use Rattle.waitgraph.specs.declared.verdict.Verdict.{Verdict}
use Rattle.moves.specs.declared.need.Need.{Need}
use Rattle.moves.specs.declared.need.Need.TheVariants.{At, Lacking}
use Rattle.waitgraph.specs.Causes.{CauseView, CycleOf, MissingOf, StarvedOf}
use Rattle.findings.specs.Findings.{findings_of}
use Rattle.report.specs.FindingTexts.{finding_fields}
use Rattle.waitgraph.specs.Stuck.{stuck_of, unmet_of}
use Rattle.report.specs.TextReport.{present_fields, verdict_text}
use Rattle.findings.specs.declared.finding.Finding.{Finding}

-- a number
abbrev pub numeral : ℕ → Data
numeral n = number (unsigned n)

-- a string: fields with one space between them
abbrev pub spaced : List (List ℕ) → Data
spaced fields = string (join_with_byte space fields)

-- an array of two values
abbrev pub pair : Data → Data → Data
pair first second = array (item first (item second no_items))

-- an array: the text of each element
abbrev pub each : {A : Type 0} → (A → Data) → List A → Data
each told elements = array (items_of (map told elements))

-- `[K,J]`: what is needed is call J of rank K; `[K,null]`: rank K lacks it
abbrev pub need_data : Need → Data
need_data (At rank place) = pair (numeral rank) (numeral place)
need_data (Lacking rank) = pair (numeral rank) null

-- `{"at":I,"call":LINE,"needs":[..],"rank":R}`: where a rank stands, its call there, and what it needs
abbrev pub rank_data : Reading → Groups → Lists → Rank → Data
rank_data reading groups recording rank =
    object (member (codes "at") (numeral (slice_index (stands_of reading groups recording) rank))
    (member (codes "call") (spaced (present_fields reading groups recording rank))
    (member (codes "needs") (each need_data (unmet_of reading groups recording rank))
    (member (codes "rank") (numeral rank) no_members))))

-- `{"cycle":[..]}` with the ranks of a cycle; `{"missing":[R,K]}`: rank R waits, and rank K lacks the call;
-- `{"starved":R}`: rank R waits for a message that nobody may send
abbrev pub cause_data : CauseView → Data
cause_data (CycleOf ranks) = object (member (codes "cycle") (each numeral ranks) no_members)
cause_data (MissingOf rank peer) = object (member (codes "missing") (pair (numeral rank) (numeral peer)) no_members)
cause_data (StarvedOf rank) = object (member (codes "starved") (numeral rank) no_members)

-- a string with the fields of a finding
abbrev pub finding_data : Finding → Data
finding_data finding = spaced (finding_fields finding)

-- `{"causes":[..],"findings":[..],"ranks":[..],"verdict":..}`
unfoldable pub report_data : Reading → Groups → Lists → Verdict → List CauseView → Data
report_data reading groups recording verdict causes =
    object (member (codes "causes") (each cause_data causes)
    (member (codes "findings") (each finding_data (findings_of groups recording))
    (member (codes "ranks") (each (rank_data reading groups recording) (stuck_of reading groups recording))
    (member (codes "verdict") (string (verdict_text verdict)) no_members))))

-- the whole report
unfoldable pub json_report : Reading → Groups → Lists → Verdict → List CauseView → List ℕ
json_report reading groups recording verdict causes =
    compact_text (report_data reading groups recording verdict causes) ++ line_feed ∷ []
