-- A closed list of calls that are all in their ranges is what its text reads as.
use Rattle.std.proofs.Common.{◌≡◌, ℕ, zero, suc, ◌<◌, get_or, length, arith, true, not, ◌==◌, List, [], ◌∷◌, ◌++◌, map, refl, ap, subst, ◌∙◌, append_assoc}
use Rattle.std.specs.Prelude.{⊤}
use Rattle.std.specs.List.{flat_map, join_with_byte, list_all}
use Rattle.std.proofs.lemmas.Bool.{and_parts, not-true}
use Rattle.mpicall.specs.Ending.{ends_list}
use Rattle.mpicall.specs.Limits.{in_ranges}
use Rattle.mpicall.specs.Lines.{lines_of}
use Rattle.mpicall.specs.Spelling.{space, line_feed, fields_of, spelling}
use Rattle.mpicall.specs.Trace.{Trace, trace_of_lines, trace_of}
use Rattle.mpicall.specs.declared.call.Call.{Call}
use Rattle.mpicall.specs.declared.fault.Ending.TheVariants.{Sealed}
use Rattle.mpicall.proofs.BeginningLemmas.{WithoutFeed, body_without_feed}
use Rattle.mpicall.proofs.LineLemmas.{spelling_read}
use Rattle.closing.specs.Entries.{Run, ranks_of}
use Rattle.closing.specs.Entry.{Choice}
use Rattle.closing.specs.Recording.{Listed, calls_of, list_of, recording_of}
use Rattle.lawful.specs.Closed.{EachListInRangesReadsBack}
use Rattle.lawful.proofs.RequestLemmas.{AllFit}
use Rattle.lawful.proofs.ListLemmas.{FitsAll, list_of_fits}

-- each call is in its ranges
abbrev pub AllInRange : List Call → Type 0
AllInRange [] = ⊤
AllInRange (call ∷ calls) = (in_ranges call ≡ true) × AllInRange calls

range_each : (calls : List Call) → list_all in_ranges calls ≡ true → AllInRange calls
range_each [] h = tt
range_each (call ∷ calls) h =
    let parts = and_parts (in_ranges call) (list_all in_ranges calls) h in (parts.0, range_each calls parts.1)

-- ---- Lines ----

pub line_first : (body rest : List ℕ) → WithoutFeed body → lines_of (body ++ line_feed ∷ rest) ≡ (body ++ line_feed ∷ []) ∷ lines_of rest
line_first [] rest clean = refl
line_first (byte ∷ body) rest clean =
    let parts = and_parts (not (byte == line_feed)) (list_all (λ b. not (b == line_feed)) body) clean in
    rw (not-true (byte == line_feed) parts.0, line_first body rest parts.1) refl

spelled_first : (call : Call) (rest : List ℕ) → in_ranges call ≡ true → lines_of (spelling call ++ rest) ≡ spelling call ∷ lines_of rest
unfolding spelling
spelled_first call rest range =
    ap lines_of (append_assoc (join_with_byte space (fields_of call)) (line_feed ∷ []) rest)
    ∙ line_first (join_with_byte space (fields_of call)) rest (body_without_feed call range)

lines_spelled : (calls : List Call) → AllInRange calls → lines_of (flat_map spelling calls) ≡ map spelling calls
lines_spelled [] all = refl
lines_spelled (call ∷ calls) all =
    spelled_first call (flat_map spelling calls) all.0 ∙ ap (λ (lines : List (List ℕ)). spelling call ∷ lines) (lines_spelled calls all.1)

-- ---- Traces ----

abbrev sealed : List Call → Trace
sealed calls = record { records = calls; end = Sealed }

last_read : (end : Call) → in_ranges end ≡ true → ends_list end ≡ true → trace_of_lines (map spelling (end ∷ [])) ≡ sealed (end ∷ [])
last_read end range ends = rw (spelling_read end range, ends) refl

calls_read : (calls before : List Call) (end : Call) → AllFit before calls → AllInRange (calls ++ end ∷ []) → ends_list end ≡ true → trace_of_lines (map spelling (calls ++ end ∷ [])) ≡ sealed (calls ++ end ∷ [])
calls_read [] before end fit all ends = last_read end all.0 ends
calls_read (call ∷ calls) before end fit all ends =
    rw (spelling_read call all.0, fit.0.goes_on, calls_read calls (before ++ call ∷ []) end fit.1 all.1 ends) refl

pub list_reads : (calls : List Call) (end : Call) → AllFit [] calls → AllInRange (calls ++ end ∷ []) → ends_list end ≡ true → trace_of (flat_map spelling (calls ++ end ∷ [])) ≡ record { records = calls ++ end ∷ []; end = Sealed }
unfolding trace_of
list_reads calls end fit all ends =
    ap trace_of_lines (lines_spelled (calls ++ end ∷ []) all) ∙ calls_read calls [] end fit all ends

-- ---- Lists of a recording ----

fits_there : (run : Run) (choice : Choice) (list : Listed) (ranks : List ℕ) (k : ℕ) → k < length (map (list_of run choice) ranks) → get_or (map (list_of run choice) ranks) k list ≡ list → FitsAll list
fits_there run choice list [] k within is = absurd (omega (arith, within))
fits_there run choice list (rank ∷ ranks) zero within is = subst FitsAll is (list_of_fits run choice rank)
fits_there run choice list (rank ∷ ranks) (suc k) within is = fits_there run choice list ranks k (omega (arith, within)) is

pub each_list_in_ranges_reads_back : EachListInRangesReadsBack
unfolding recording_of
each_list_in_ranges_reads_back run choice list there range =
    let fits = fits_there run choice list (ranks_of run) there.0 there.1 there.2 in
    list_reads (map (λ one. one.call) list.records) list.end fits.0 (range_each (calls_of list) range) fits.1
