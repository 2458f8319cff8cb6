-- The report of journals by its parts.
use Rattle.moves.specs.declared.reading.Reading.{Reading}
use Rattle.std.proofs.Common.{◌≡◌, ℕ, true, false, Option, Some, None, List, [], ◌∷◌, ◌++◌, length, map, sym, ap, ◌∙◌, append_assoc}
use Rattle.std.specs.Prelude.{codes}
use Rattle.mpicall.specs.Spelling.{line_feed}
use Rattle.mpigroup.specs.Groups.{Groups}
use Rattle.callstore.specs.Recordings.{Lists}
use Rattle.serde_json.specs.Data.{Data, string, array, object, Members, member, no_members}
use Rattle.serde_json.specs.View.{items_of}
use Rattle.serde_json.specs.Written.{compact_text, members_text}
use Rattle.findings.specs.declared.finding.Finding.{Finding}
use Rattle.std.specs.List.{filter, range_with_len}
use Rattle.waitgraph.specs.Causes.{CauseView}
use Rattle.waitgraph.specs.Pending.{PendingView}
use Rattle.waitgraph.specs.declared.awaited.Awaited.{Awaited}
use Rattle.report.specs.PendingReport.{has_lines, data_of_rank, pending_data, pending_json}
use Rattle.waitgraph.specs.declared.verdict.Verdict.{Verdict}
use Rattle.report.specs.inner.ArrayTexts.{values_text, elements_text, key_text}
use Rattle.report.specs.inner.HeldTexts.{finding_calls_text, held_text}
use Rattle.report.specs.JsonReport.{numeral, each, cause_data, finding_data}
use Rattle.report.specs.Judged.{left_data, line_data, call_data, with_finding_calls, with_held}
use Rattle.report.specs.TextReport.{verdict_text}
use Rattle.report.specs.declared.judged.HeldRanks.{HeldRanks}
use Rattle.report.specs.declared.judged.LeftAt.{LeftAt}
use Rattle.report.specs.declared.judged.LineAt.{LineAt}
use Rattle.report.proofs.ArrayLemmas.{array_member, verdict_member, behind_key}

-- a member whose value is an array, after another such
array_after : (key : List ℕ) (values : List Data) (rest : Members) (more : List ℕ) →
    93 ∷ (members_text true rest ++ line_feed ∷ []) ≡ more →
    93 ∷ (members_text true (member key (array (items_of values)) rest) ++ line_feed ∷ []) ≡ key_text (codes "],") key (codes ":[") ++ (values_text false values ++ more)
array_after key values rest more same =
    ap (λ (text : List ℕ). 93 ∷ text) (array_member key values rest (line_feed ∷ []))
    ∙ ap (λ (text : List ℕ). codes "]," ++ (compact_text (string key) ++ 58 ∷ 91 ∷ (values_text false values ++ text))) same
    ∙ behind_key (codes "],") key (codes ":[") (values_text false values ++ more)

-- what is asked for of held ranks, before the findings and after them
finding_calls_after : (held : Option HeldRanks) (rest : Members) (more : List ℕ) →
    members_text true rest ++ line_feed ∷ [] ≡ more →
    members_text true (with_finding_calls held rest) ++ line_feed ∷ [] ≡ finding_calls_text held ++ more
finding_calls_after None rest more same = same
finding_calls_after (Some it) rest more same =
    let values = elements_text (λ calls. each call_data calls.items) it.finding_calls.now in
    let key = key_text (codes ",") (codes "finding_calls") (codes ":[") in
    array_member (codes "finding_calls") (map (λ calls. each call_data calls.items) it.finding_calls.now) rest (line_feed ∷ [])
    ∙ ap (λ (text : List ℕ). codes "," ++ (compact_text (string (codes "finding_calls")) ++ 58 ∷ 91 ∷ (values ++ 93 ∷ text))) same
    ∙ behind_key (codes ",") (codes "finding_calls") (codes ":[") (values ++ 93 ∷ more)
    ∙ sym (append_assoc key (values ++ codes "]") more ∙ ap (λ (text : List ℕ). key ++ text) (append_assoc values (codes "]") more))

held_after : (held : Option HeldRanks) (rest : Members) (more : List ℕ) →
    93 ∷ (members_text true rest ++ line_feed ∷ []) ≡ more →
    93 ∷ (members_text true (with_held held rest) ++ line_feed ∷ []) ≡ held_text held ++ more
held_after None rest more same = same
held_after (Some it) rest more same =
    array_after (codes "held") (map numeral it.ranks.now) rest more same
    ∙ sym (append_assoc (key_text (codes "],") (codes "held") (codes ":[")) (elements_text numeral it.ranks.now) more)

-- the report by its parts, with a value for each rank
object_parts : (verdict : Verdict) (causes : List CauseView) (found : List Finding) (left : List LeftAt) (called : List LineAt) (held : Option HeldRanks) (values : List Data) →
    compact_text (object (member (codes "causes") (each cause_data causes) (with_finding_calls held (member (codes "findings") (each finding_data found) (with_held held (member (codes "left") (each left_data left) (member (codes "lines") (each line_data called) (member (codes "ranks") (array (items_of values)) (member (codes "verdict") (string (verdict_text verdict)) no_members))))))))) ++ line_feed ∷ []
    ≡ key_text (codes "{") (codes "causes") (codes ":") ++ (compact_text (each cause_data causes)
    ++ (finding_calls_text held
    ++ (key_text (codes ",") (codes "findings") (codes ":[") ++ (elements_text finding_data found
    ++ (held_text held
    ++ (key_text (codes "],") (codes "left") (codes ":[") ++ (elements_text left_data left
    ++ (key_text (codes "],") (codes "lines") (codes ":[") ++ (elements_text line_data called
    ++ (key_text (codes "],") (codes "ranks") (codes ":[") ++ (values_text false values
    ++ (key_text (codes "],") (codes "verdict") (codes ":") ++ (compact_text (string (verdict_text verdict)) ++ codes "}\n")))))))))))))
object_parts verdict causes found left called held values =
    let why = compact_text (each cause_data causes) in
    let ends = compact_text (string (verdict_text verdict)) ++ codes "}\n" in
    let said = member (codes "verdict") (string (verdict_text verdict)) no_members in
    let ranks = member (codes "ranks") (array (items_of values)) said in
    let lines = member (codes "lines") (each line_data called) ranks in
    let lefts = member (codes "left") (each left_data left) lines in
    let helds = with_held held lefts in
    let findings = member (codes "findings") (each finding_data found) helds in
    let called_too = with_finding_calls held findings in
    let last_more = key_text (codes "],") (codes "verdict") (codes ":") ++ ends in
    let ranks_more = key_text (codes "],") (codes "ranks") (codes ":[") ++ (values_text false values ++ last_more) in
    let lines_more = key_text (codes "],") (codes "lines") (codes ":[") ++ (elements_text line_data called ++ ranks_more) in
    let left_more = key_text (codes "],") (codes "left") (codes ":[") ++ (elements_text left_data left ++ lines_more) in
    let last : 93 ∷ (members_text true said ++ line_feed ∷ []) ≡ last_more =
    ap (λ (text : List ℕ). 93 ∷ text) (verdict_member (verdict_text verdict))
    ∙ behind_key (codes "],") (codes "verdict") (codes ":") ends in
    let with_ranks : 93 ∷ (members_text true ranks ++ line_feed ∷ []) ≡ ranks_more =
    array_after (codes "ranks") (values) said last_more last in
    let with_lines : 93 ∷ (members_text true lines ++ line_feed ∷ []) ≡ lines_more =
    array_after (codes "lines") (map line_data called) ranks ranks_more with_ranks in
    let with_left : 93 ∷ (members_text true lefts ++ line_feed ∷ []) ≡ left_more =
    array_after (codes "left") (map left_data left) lines lines_more with_lines in
    let held_more = held_text held ++ left_more in
    let with_helds : 93 ∷ (members_text true helds ++ line_feed ∷ []) ≡ held_more = held_after held lefts left_more with_left in
    let found_more = key_text (codes ",") (codes "findings") (codes ":[") ++ (elements_text finding_data found ++ held_more) in
    let second : members_text true findings ++ line_feed ∷ [] ≡ found_more =
    array_member (codes "findings") (map finding_data found) helds (line_feed ∷ [])
    ∙ ap (λ (text : List ℕ). codes "," ++ (compact_text (string (codes "findings")) ++ 58 ∷ 91 ∷ (elements_text finding_data found ++ text))) with_helds
    ∙ behind_key (codes ",") (codes "findings") (codes ":[") (elements_text finding_data found ++ held_more) in
    let first : members_text true called_too ++ line_feed ∷ [] ≡ finding_calls_text held ++ found_more = finding_calls_after held findings found_more second in
    ap (λ (text : List ℕ). 123 ∷ text)
    (append_assoc (compact_text (string (codes "causes"))) (58 ∷ (why ++ members_text true called_too)) (line_feed ∷ [])
    ∙ ap (λ (text : List ℕ). compact_text (string (codes "causes")) ++ 58 ∷ text)
    (append_assoc why (members_text true called_too) (line_feed ∷ [])
    ∙ ap (λ (text : List ℕ). why ++ text) first))
    ∙ behind_key (codes "{") (codes "causes") (codes ":") (why ++ (finding_calls_text held ++ found_more))

-- the report of journals by its parts, where it is known in which calls ranks were
pub pending_parts : (reading : Reading) (groups : Groups) (recording : Lists) (verdict : Verdict) (pending : List PendingView) (at_open : List (List Awaited)) (causes : List CauseView) (found : List Finding) (left : List LeftAt) (called : List LineAt) (held : Option HeldRanks) →
    pending_json reading groups recording verdict pending at_open causes found left called held
    ≡ key_text (codes "{") (codes "causes") (codes ":") ++ (compact_text (each cause_data causes)
    ++ (finding_calls_text held
    ++ (key_text (codes ",") (codes "findings") (codes ":[") ++ (elements_text finding_data found
    ++ (held_text held
    ++ (key_text (codes "],") (codes "left") (codes ":[") ++ (elements_text left_data left
    ++ (key_text (codes "],") (codes "lines") (codes ":[") ++ (elements_text line_data called
    ++ (key_text (codes "],") (codes "ranks") (codes ":[") ++ (elements_text (data_of_rank reading groups recording pending at_open) (filter (has_lines reading groups recording at_open) (range_with_len 0 (length recording)))
    ++ (key_text (codes "],") (codes "verdict") (codes ":") ++ (compact_text (string (verdict_text verdict)) ++ codes "}\n")))))))))))))
unfolding pending_json pending_data
pending_parts reading groups recording verdict pending at_open causes found left called held =
    object_parts verdict causes found left called held (map (data_of_rank reading groups recording pending at_open) (filter (has_lines reading groups recording at_open) (range_with_len 0 (length recording))))

-- fifteen texts, put after one another
pub fifteen : (a b c d e f g h i j k l m n o : List ℕ) → ((((((((((((((a ++ b) ++ c) ++ d) ++ e) ++ f) ++ g) ++ h) ++ i) ++ j) ++ k) ++ l) ++ m) ++ n) ++ o) ≡ (a ++ (b ++ (c ++ (d ++ (e ++ (f ++ (g ++ (h ++ (i ++ (j ++ (k ++ (l ++ (m ++ (n ++ o))))))))))))))
fifteen a b c d e f g h i j k l m n o =
    append_assoc ((((((((((((a ++ b) ++ c) ++ d) ++ e) ++ f) ++ g) ++ h) ++ i) ++ j) ++ k) ++ l) ++ m) n o
    ∙ append_assoc (((((((((((a ++ b) ++ c) ++ d) ++ e) ++ f) ++ g) ++ h) ++ i) ++ j) ++ k) ++ l) m (n ++ o)
    ∙ append_assoc ((((((((((a ++ b) ++ c) ++ d) ++ e) ++ f) ++ g) ++ h) ++ i) ++ j) ++ k) l (m ++ (n ++ o))
    ∙ append_assoc (((((((((a ++ b) ++ c) ++ d) ++ e) ++ f) ++ g) ++ h) ++ i) ++ j) k (l ++ (m ++ (n ++ o)))
    ∙ append_assoc ((((((((a ++ b) ++ c) ++ d) ++ e) ++ f) ++ g) ++ h) ++ i) j (k ++ (l ++ (m ++ (n ++ o))))
    ∙ append_assoc (((((((a ++ b) ++ c) ++ d) ++ e) ++ f) ++ g) ++ h) i (j ++ (k ++ (l ++ (m ++ (n ++ o)))))
    ∙ append_assoc ((((((a ++ b) ++ c) ++ d) ++ e) ++ f) ++ g) h (i ++ (j ++ (k ++ (l ++ (m ++ (n ++ o))))))
    ∙ append_assoc (((((a ++ b) ++ c) ++ d) ++ e) ++ f) g (h ++ (i ++ (j ++ (k ++ (l ++ (m ++ (n ++ o)))))))
    ∙ append_assoc ((((a ++ b) ++ c) ++ d) ++ e) f (g ++ (h ++ (i ++ (j ++ (k ++ (l ++ (m ++ (n ++ o))))))))
    ∙ append_assoc (((a ++ b) ++ c) ++ d) e (f ++ (g ++ (h ++ (i ++ (j ++ (k ++ (l ++ (m ++ (n ++ o)))))))))
    ∙ append_assoc ((a ++ b) ++ c) d (e ++ (f ++ (g ++ (h ++ (i ++ (j ++ (k ++ (l ++ (m ++ (n ++ o))))))))))
    ∙ append_assoc (a ++ b) c (d ++ (e ++ (f ++ (g ++ (h ++ (i ++ (j ++ (k ++ (l ++ (m ++ (n ++ o)))))))))))
    ∙ append_assoc a b (c ++ (d ++ (e ++ (f ++ (g ++ (h ++ (i ++ (j ++ (k ++ (l ++ (m ++ (n ++ o))))))))))))
