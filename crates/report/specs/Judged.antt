-- The report of a recording that journals are: that of any recording with some of its findings, and with what the
-- journals say in addition: where lists end before their ends and, in JSON, the lines of calls.
use Rattle.std.specs.Prelude.{ℕ, Option, Some, None, List, [], ◌∷◌, ◌++◌, codes, flat_map}
use Rattle.std.specs.Fmt.{decimal}
use Rattle.serde_json.specs.Data.{Data, string, array, object, item, no_items, Members, member, no_members}
use Rattle.serde_json.specs.Written.{compact_text}
use Rattle.mpicall.specs.Spelling.{line_feed}
use Rattle.mpigroup.specs.Groups.{Groups}
use Rattle.callstore.specs.Recordings.{Lists}
use Rattle.moves.specs.declared.reading.Reading.{Reading}
use Rattle.findings.specs.declared.finding.Finding.{Finding}
use Rattle.waitgraph.specs.Causes.{CauseView}
use Rattle.waitgraph.specs.Stuck.{stuck_of}
use Rattle.waitgraph.specs.declared.verdict.Verdict.{Verdict}
use Rattle.report.specs.JsonReport.{numeral, pair, each, cause_data, finding_data, rank_data}
use Rattle.report.specs.TextReport.{line, verdict_line, verdict_text, rank_lines, cause_line, finding_line}
use Rattle.report.specs.declared.judged.CallOf.{CallOf}
use Rattle.report.specs.declared.judged.HeldRanks.{HeldRanks}
use Rattle.report.specs.declared.judged.Judged.{Judged}
use Rattle.report.specs.declared.judged.LeftAt.{LeftAt}
use Rattle.report.specs.declared.judged.LineAt.{LineAt}
use Rattle.report.specs.declared.write.Format.{Format}
use Rattle.report.specs.declared.write.Format.TheVariants.{Text, Json}

-- `left R N WHY`
abbrev pub left_line : LeftAt → List ℕ
left_line it = line (codes "left" ∷ decimal it.rank ∷ decimal it.line ∷ it.why.now ∷ [])

-- `[R,N,WHY]`
abbrev pub left_data : LeftAt → Data
left_data it = array (item (numeral it.rank) (item (numeral it.line) (item (string it.why.now) no_items)))

-- `[R,I,N]`
abbrev pub line_data : LineAt → Data
line_data it = array (item (numeral it.rank) (item (numeral it.place) (item (numeral it.line) no_items)))

-- `[R,I]`
abbrev pub call_data : CallOf → Data
call_data it = pair (numeral it.rank) (numeral it.place)

-- `"finding_calls":[[[R,I],..],..]` before the findings and `"held":[R,..]` after them, where it is asked for that
abbrev pub with_finding_calls : Option HeldRanks → Members → Members
with_finding_calls None members = members
with_finding_calls (Some it) members = member (codes "finding_calls") (each (λ calls. each call_data calls.items) it.finding_calls.now) members

abbrev pub with_held : Option HeldRanks → Members → Members
with_held None members = members
with_held (Some it) members = member (codes "held") (each numeral it.ranks.now) members

unfoldable pub judged_text : Reading → Groups → Lists → Verdict → List CauseView → List Finding → List LeftAt → List ℕ
judged_text reading groups recording verdict causes findings left =
    verdict_line verdict ++ flat_map (rank_lines reading groups recording) (stuck_of reading groups recording)
    ++ flat_map cause_line causes ++ flat_map finding_line findings ++ flat_map left_line left

-- `{"causes":[..],"findings":[..],"left":[..],"lines":[..],"ranks":[..],"verdict":..}`
unfoldable pub judged_data : Reading → Groups → Lists → Verdict → List CauseView → List Finding → List LeftAt → List LineAt → Option HeldRanks → Data
judged_data reading groups recording verdict causes findings left lines held =
    object (member (codes "causes") (each cause_data causes)
    (with_finding_calls held
    (member (codes "findings") (each finding_data findings)
    (with_held held
    (member (codes "left") (each left_data left)
    (member (codes "lines") (each line_data lines)
    (member (codes "ranks") (each (rank_data reading groups recording) (stuck_of reading groups recording))
    (member (codes "verdict") (string (verdict_text verdict)) no_members))))))))

unfoldable pub judged_json : Reading → Groups → Lists → Verdict → List CauseView → List Finding → List LeftAt → List LineAt → Option HeldRanks → List ℕ
judged_json reading groups recording verdict causes findings left lines held =
    compact_text (judged_data reading groups recording verdict causes findings left lines held) ++ line_feed ∷ []

unfoldable pub judged_of : Format → Reading → Groups → Lists → Verdict → List CauseView → Judged → List ℕ
judged_of Text reading groups recording verdict causes it =
    judged_text reading groups recording verdict causes it.findings.now it.left.now
judged_of Json reading groups recording verdict causes it =
    judged_json reading groups recording verdict causes it.findings.now it.left.now it.lines.now it.held
