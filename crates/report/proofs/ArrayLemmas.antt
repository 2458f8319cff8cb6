-- The text of an array, one element at a time, and the report's text by its parts.
use Rattle.moves.specs.declared.reading.Reading.{Reading}
use Rattle.std.proofs.Common.{◌≡◌, ℕ, zero, suc, ◌+◌, ◌<◌, Bool, false, true, List, [], ◌∷◌, ◌++◌, length, map, take, get_or, nat_lt, refl, sym, ap, ◌∙◌, append_assoc, append-nil, arith}
use Rattle.std.specs.Prelude.{codes}
use Rattle.std.proofs.lemmas.Bool.Decides.{nat_tests}
use Rattle.std.proofs.lemmas.List.{map-append, take_more}
use Rattle.mpicall.specs.Spelling.{line_feed}
use Rattle.mpigroup.specs.Groups.{Groups}
use Rattle.callstore.specs.Recordings.{Lists}
use Rattle.serde_json.specs.Data.{Data, string, array, Members, member, no_members}
use Rattle.serde_json.specs.View.{items_of}
use Rattle.serde_json.specs.Written.{comma_if, compact_text, items_text, members_text}
use Rattle.waitgraph.specs.Causes.{CauseView}
use Rattle.findings.specs.Findings.{findings_of}
use Rattle.waitgraph.specs.Stuck.{stuck_of}
use Rattle.waitgraph.specs.declared.verdict.Verdict.{Verdict}
use Rattle.report.specs.inner.ArrayTexts.{values_text, elements_text, key_text}
use Rattle.report.specs.JsonReport.{each, cause_data, finding_data, rank_data, report_data, json_report}
use Rattle.report.specs.TextReport.{verdict_text}

-- whether something comes before what comes after the values
abbrev behind : Bool → List Data → Bool
behind later [] = later
behind later (value ∷ values) = true

values_more : (later : Bool) (values : List Data) (value : Data) → values_text later (values ++ value ∷ []) ≡ values_text later values ++ (comma_if (behind later values) ++ compact_text value)
values_more later [] value = ap (λ (text : List ℕ). comma_if later ++ text) (append-nil (compact_text value))
values_more later (first ∷ values) value =
    ap (λ (text : List ℕ). comma_if later ++ (compact_text first ++ text)) (values_more true values value ∙ ap (λ (b : Bool). values_text true values ++ (comma_if b ++ compact_text value)) (always values))
    ∙ ap (λ (text : List ℕ). comma_if later ++ text) (sym (append_assoc (compact_text first) (values_text true values) (44 ∷ compact_text value)))
    ∙ sym (append_assoc (comma_if later) (compact_text first ++ values_text true values) (44 ∷ compact_text value))
  where
    always : (values : List Data) → behind true values ≡ true
    always [] = refl
    always (value ∷ values) = refl

some_before : {A : Type 0} (told : A → Data) (elements : List A) (i : ℕ) → i < length elements → behind false (map told (take i elements)) ≡ nat_lt 0 i
some_before told elements zero within = refl
some_before told [] (suc i) within = absurd (omega (arith, within))
some_before told (element ∷ elements) (suc i) within = sym (positive i)
  where
    positive : (i : ℕ) → nat_lt 0 (suc i) ≡ true
    positive i = grind (arith, nat_tests)

-- one element more is put after the text
pub one_written : {A : Type 0} (told : A → Data) (elements : List A) (i : ℕ) (none : A) (before so_far later : List ℕ) →
    so_far ≡ before ++ elements_text told (take i elements) → later ≡ so_far ++ (comma_if (nat_lt 0 i) ++ compact_text (told (get_or elements i none))) → i < length elements →
    later ≡ before ++ elements_text told (take (i + 1) elements)
one_written {A} told elements i none before so_far later h pushed within =
    let here = compact_text (told (get_or elements i none)) in
    let more : elements_text told (take (i + 1) elements) ≡ elements_text told (take i elements) ++ (comma_if (nat_lt 0 i) ++ here) =
    ap (λ (some : List A). elements_text told some) (take_more elements i none within)
    ∙ ap (λ (values : List Data). values_text false values) (map-append told (take i elements) (get_or elements i none ∷ []))
    ∙ values_more false (map told (take i elements)) (told (get_or elements i none))
    ∙ ap (λ (b : Bool). elements_text told (take i elements) ++ (comma_if b ++ here)) (some_before told elements i within) in
    pushed
    ∙ ap (λ (text : List ℕ). text ++ (comma_if (nat_lt 0 i) ++ here)) h
    ∙ append_assoc before (elements_text told (take i elements)) (comma_if (nat_lt 0 i) ++ here)
    ∙ ap (λ (text : List ℕ). before ++ text) (sym more)

items_values : (later : Bool) (values : List Data) → items_text later (items_of values) ≡ values_text later values ++ 93 ∷ []
items_values later [] = refl
items_values later (value ∷ values) =
    ap (λ (text : List ℕ). comma_if later ++ (compact_text value ++ text)) (items_values true values)
    ∙ ap (λ (text : List ℕ). comma_if later ++ text) (sym (append_assoc (compact_text value) (values_text true values) (93 ∷ [])))
    ∙ sym (append_assoc (comma_if later) (compact_text value ++ values_text true values) (93 ∷ []))

-- a member whose value is an array, with what comes after it
pub array_member : (key : List ℕ) (values : List Data) (rest : Members) (behind : List ℕ) → members_text true (member key (array (items_of values)) rest) ++ behind ≡ 44 ∷ (compact_text (string key) ++ 58 ∷ 91 ∷ (values_text false values ++ 93 ∷ (members_text true rest ++ behind)))
array_member key values rest behind =
    let items = items_text false (items_of values) in
    ap (λ (text : List ℕ). 44 ∷ text)
    (append_assoc (compact_text (string key)) (58 ∷ 91 ∷ (items ++ members_text true rest)) behind
    ∙ ap (λ (text : List ℕ). compact_text (string key) ++ 58 ∷ 91 ∷ text)
    (append_assoc items (members_text true rest) behind
    ∙ ap (λ (text : List ℕ). text ++ (members_text true rest ++ behind)) (items_values false values)
    ∙ append_assoc (values_text false values) (93 ∷ []) (members_text true rest ++ behind)))

pub verdict_member : (verdict : List ℕ) → members_text true (member (codes "verdict") (string verdict) no_members) ++ line_feed ∷ [] ≡ 44 ∷ (compact_text (string (codes "verdict")) ++ 58 ∷ (compact_text (string verdict) ++ codes "}\n"))
verdict_member verdict =
    ap (λ (text : List ℕ). 44 ∷ text)
    (append_assoc (compact_text (string (codes "verdict"))) (58 ∷ (compact_text (string verdict) ++ 125 ∷ [])) (line_feed ∷ [])
    ∙ ap (λ (text : List ℕ). compact_text (string (codes "verdict")) ++ 58 ∷ text) (append_assoc (compact_text (string verdict)) (125 ∷ []) (line_feed ∷ [])))

-- what follows a key, put after it
pub behind_key : (before key behind rest : List ℕ) → before ++ (compact_text (string key) ++ (behind ++ rest)) ≡ key_text before key behind ++ rest
behind_key before key behind rest =
    ap (λ (text : List ℕ). before ++ text) (sym (append_assoc (compact_text (string key)) behind rest))
    ∙ sym (append_assoc before (compact_text (string key) ++ behind) rest)

-- the report by its parts
pub report_parts : (reading : Reading) (groups : Groups) (recording : Lists) (verdict : Verdict) (causes : List CauseView) →
    json_report reading groups recording verdict causes
    ≡ key_text (codes "{") (codes "causes") (codes ":") ++ (compact_text (each cause_data causes)
    ++ (key_text (codes ",") (codes "findings") (codes ":[") ++ (elements_text finding_data (findings_of groups recording)
    ++ (key_text (codes "],") (codes "ranks") (codes ":[") ++ (elements_text (rank_data reading groups recording) (stuck_of reading groups recording)
    ++ (key_text (codes "],") (codes "verdict") (codes ":") ++ (compact_text (string (verdict_text verdict)) ++ codes "}\n")))))))
unfolding json_report report_data
report_parts reading groups recording verdict causes =
    let why = compact_text (each cause_data causes) in
    let found = elements_text finding_data (findings_of groups recording) in
    let told = elements_text (rank_data reading groups recording) (stuck_of reading groups recording) in
    let ends = compact_text (string (verdict_text verdict)) ++ codes "}\n" in
    let said = member (codes "verdict") (string (verdict_text verdict)) no_members in
    let ranks = member (codes "ranks") (each (rank_data reading groups recording) (stuck_of reading groups recording)) said in
    let findings = member (codes "findings") (each finding_data (findings_of groups recording)) ranks in
    let last : 93 ∷ (members_text true said ++ line_feed ∷ []) ≡ key_text (codes "],") (codes "verdict") (codes ":") ++ ends =
    ap (λ (text : List ℕ). 93 ∷ text) (verdict_member (verdict_text verdict))
    ∙ behind_key (codes "],") (codes "verdict") (codes ":") ends in
    let third : 93 ∷ (members_text true ranks ++ line_feed ∷ []) ≡ key_text (codes "],") (codes "ranks") (codes ":[") ++ (told ++ (key_text (codes "],") (codes "verdict") (codes ":") ++ ends)) =
    ap (λ (text : List ℕ). 93 ∷ text) (array_member (codes "ranks") (map (rank_data reading groups recording) (stuck_of reading groups recording)) said (line_feed ∷ []))
    ∙ ap (λ (text : List ℕ). codes "]," ++ (compact_text (string (codes "ranks")) ++ 58 ∷ 91 ∷ (told ++ text))) last
    ∙ behind_key (codes "],") (codes "ranks") (codes ":[") (told ++ (key_text (codes "],") (codes "verdict") (codes ":") ++ ends)) in
    let second : members_text true findings ++ line_feed ∷ [] ≡ key_text (codes ",") (codes "findings") (codes ":[") ++ (found ++ (key_text (codes "],") (codes "ranks") (codes ":[") ++ (told ++ (key_text (codes "],") (codes "verdict") (codes ":") ++ ends)))) =
    array_member (codes "findings") (map finding_data (findings_of groups recording)) ranks (line_feed ∷ [])
    ∙ ap (λ (text : List ℕ). codes "," ++ (compact_text (string (codes "findings")) ++ 58 ∷ 91 ∷ (found ++ text))) third
    ∙ behind_key (codes ",") (codes "findings") (codes ":[") (found ++ (key_text (codes "],") (codes "ranks") (codes ":[") ++ (told ++ (key_text (codes "],") (codes "verdict") (codes ":") ++ ends)))) in
    ap (λ (text : List ℕ). 123 ∷ text)
    (append_assoc (compact_text (string (codes "causes"))) (58 ∷ (why ++ members_text true findings)) (line_feed ∷ [])
    ∙ ap (λ (text : List ℕ). compact_text (string (codes "causes")) ++ 58 ∷ text)
    (append_assoc why (members_text true findings) (line_feed ∷ [])
    ∙ ap (λ (text : List ℕ). why ++ text) second))
    ∙ behind_key (codes "{") (codes "causes") (codes ":") (why ++ (key_text (codes ",") (codes "findings") (codes ":[") ++ (found ++ (key_text (codes "],") (codes "ranks") (codes ":[") ++ (told ++ (key_text (codes "],") (codes "verdict") (codes ":") ++ ends))))))

-- nine texts, put after one another
pub nine : (a b c d e f g h i : List ℕ) → ((((((((a ++ b) ++ c) ++ d) ++ e) ++ f) ++ g) ++ h) ++ i) ≡ a ++ (b ++ (c ++ (d ++ (e ++ (f ++ (g ++ (h ++ i)))))))
nine a b c d e f g h i =
    append_assoc (((((((a ++ b) ++ c) ++ d) ++ e) ++ f) ++ g)) h i
    ∙ append_assoc ((((((a ++ b) ++ c) ++ d) ++ e) ++ f)) g (h ++ i)
    ∙ append_assoc (((((a ++ b) ++ c) ++ d) ++ e)) f (g ++ (h ++ i))
    ∙ append_assoc ((((a ++ b) ++ c) ++ d)) e (f ++ (g ++ (h ++ i)))
    ∙ append_assoc (((a ++ b) ++ c)) d (e ++ (f ++ (g ++ (h ++ i))))
    ∙ append_assoc ((a ++ b)) c (d ++ (e ++ (f ++ (g ++ (h ++ i)))))
    ∙ append_assoc a b (c ++ (d ++ (e ++ (f ++ (g ++ (h ++ i))))))
