-- The text report: a line with the verdict, and then a line for each unmet need of a stuck rank, for each
-- cycle, for each missing call and for each finding. Numbers are decimal.
use Rattle.mpicall.specs.Names.{Rank}
use Rattle.moves.specs.declared.reading.Reading.{Reading}
use Rattle.std.specs.Prelude.{ℕ, List, [], ◌∷◌, ◌++◌, codes, flat_map, map, slice_index}
use Rattle.std.specs.Option.{option_map_or}
use Rattle.std.specs.Fmt.{decimal}
use Rattle.std.specs.List.{join_with_byte}
use Rattle.mpicall.specs.Spelling.{space, line_feed, fields_of}
use Rattle.mpigroup.specs.Groups.{Groups}
use Rattle.callstore.specs.Recordings.{Lists}
use Rattle.moves.specs.Stands.{stands_of}
use Rattle.moves.specs.declared.need.Need.{Need}
use Rattle.moves.specs.declared.need.Need.TheVariants.{At, Lacking}
use Rattle.waitgraph.specs.declared.verdict.Verdict.{Verdict}
use Rattle.waitgraph.specs.declared.verdict.Verdict.TheVariants.{Free, Hang, Unfinished}
use Rattle.waitgraph.specs.Causes.{CauseView, CycleOf, MissingOf, StarvedOf}
use Rattle.findings.specs.Findings.{findings_of}
use Rattle.report.specs.FindingTexts.{finding_fields}
use Rattle.findings.specs.Places.{call_at}
use Rattle.waitgraph.specs.Stuck.{stuck_of, unmet_of}
use Rattle.findings.specs.declared.finding.Finding.{Finding}

-- a line: its fields with one space between them, and a line feed
abbrev pub line : List (List ℕ) → List ℕ
line fields = join_with_byte space fields ++ line_feed ∷ []

abbrev pub verdict_text : Verdict → List ℕ
verdict_text Free = codes "free"
verdict_text Hang = codes "hang"
verdict_text Unfinished = codes "unfinished"

-- `verdict free`, `verdict hang` or `verdict unfinished`
abbrev pub verdict_line : Verdict → List ℕ
verdict_line verdict = line (codes "verdict" ∷ verdict_text verdict ∷ [])

-- the fields of the call at which a rank stands; its list isn't at its end there
abbrev pub present_fields : Reading → Groups → Lists → Rank → List (List ℕ)
present_fields reading groups recording rank =
    option_map_or fields_of (call_at recording rank (slice_index (stands_of reading groups recording) rank)) []

-- `rank K call J`: what is waited for is the rank's call at the place; `rank K none`: the rank lacks it
abbrev pub need_fields : Need → List (List ℕ)
need_fields (At rank place) = codes "rank" ∷ decimal rank ∷ codes "call" ∷ decimal place ∷ []
need_fields (Lacking rank) = codes "rank" ∷ decimal rank ∷ codes "none" ∷ []

-- `rank R at I LINE waits ..`: where the rank stands, its call there as its trace has it, and what it needs
abbrev pub unmet_line : Reading → Groups → Lists → Rank → Need → List ℕ
unmet_line reading groups recording rank need =
    line (codes "rank" ∷ decimal rank ∷ codes "at" ∷ decimal (slice_index (stands_of reading groups recording) rank)
    ∷ present_fields reading groups recording rank ++ codes "waits" ∷ need_fields need)

-- a line for each unmet need of a rank
abbrev pub rank_lines : Reading → Groups → Lists → Rank → List ℕ
rank_lines reading groups recording rank = flat_map (unmet_line reading groups recording rank) (unmet_of reading groups recording rank)

-- `cycle` and its ranks, `missing`, the rank that waits and the rank that lacks the call, or `starved` and the rank that
-- waits for a message which nobody may send
abbrev pub cause_line : CauseView → List ℕ
cause_line (CycleOf ranks) = line (codes "cycle" ∷ map decimal ranks)
cause_line (MissingOf rank peer) = line (codes "missing" ∷ decimal rank ∷ decimal peer ∷ [])
cause_line (StarvedOf rank) = line (codes "starved" ∷ decimal rank ∷ [])

-- `finding` and what is found
abbrev pub finding_line : Finding → List ℕ
finding_line finding = line (codes "finding" ∷ finding_fields finding)

-- the whole report, by its verdict and its causes
unfoldable pub text_report : Reading → Groups → Lists → Verdict → List CauseView → List ℕ
text_report reading groups recording verdict causes =
    verdict_line verdict ++ flat_map (rank_lines reading groups recording) (stuck_of reading groups recording)
    ++ flat_map cause_line causes ++ flat_map finding_line (findings_of groups recording)
