-- The lines of calls, as they are handed on.
use Rattle.std.proofs.Common.{◌≡◌, ◌<◌, ◌≤◌, ◌∙◌, ℕ, zero, suc, ◌+◌, inl, inr, Option, Some, None, List, [], ◌∷◌, ◌++◌, length, map, replicate, get_or, set, slice_get, refl, sym, ap, subst, arith, append_assoc, get_or-set_same, get_or-set_other}
use Rattle.std.specs.Prelude.{unwrap_or}
use Rattle.std.specs.Option.{option_map_or}
use Rattle.std.proofs.lemmas.Bool.{cases_eq, cases_lt}
use Rattle.std.proofs.lemmas.List.{get_or-map, length-map, length-set, map-set, length-append, length-replicate, get_or-replicate}
use Rattle.std.proofs.lemmas.List.FromFn.{get_or-map-range_with_len, length-map-range_with_len}
use Rattle.std.proofs.lemmas.Option.{unwrap_or-slice_get}
use Rattle.closing.specs.Entries.{Run, ranks_of}
use Rattle.closing.specs.Entry.{Choice}
use Rattle.closing.specs.Recording.{Listed, list_of, recording_of, calls_of as calls_in}
use Rattle.closing.specs.Recordings.{RecordingView, ChangesOnly, IsPartMade, calls_at, count_at, line_at, list_at}
use Rattle.closing.specs.Steps.{Written}
use Rattle.report.specs.declared.judged.LineAt.{LineAt}
use Rattle.judging.specs.NamedCalls.{HaveNumbers, lines_of}
use Rattle.judging.specs.inner.Tables.{HasAllLines, HasRows, row_at}
use Rattle.judging.specs.inner.Turns.{HandsOn, IsHandedOn}

-- ---- Rows ----

module _ {X : Type 0} (items_of : X → List ℕ) where
  row_of : (xs : List X) (rank : ℕ) (it : X) → rank < length xs → it ≡ get_or xs rank it → row_at (map items_of xs) rank ≡ items_of it
  row_of [] rank it within is = absurd (omega (arith, within))
  row_of (x ∷ xs) zero it within is = ap items_of (sym is)
  row_of (x ∷ xs) (suc rank) it within is = row_of xs rank it (omega (arith, within)) is

  -- the row of a rank is longer
  pub noted : (xs : List X) (rank at : ℕ) (old new : X) (more : List ℕ) → at ≡ rank → at < length xs → old ≡ get_or xs at old → items_of new ≡ items_of old ++ more →
      map items_of (set xs at new) ≡ set (map items_of xs) rank (row_at (map items_of xs) rank ++ more)
  noted xs rank at old new more same within is longer =
      map-set items_of xs at new
      ∙ ap (λ (row : List ℕ). set (map items_of xs) at row) (longer ∙ ap (λ (row : List ℕ). row ++ more) (sym (row_of xs at old within is)))
      ∙ ap (λ (n : ℕ). set (map items_of xs) n (row_at (map items_of xs) n ++ more)) same

own_row : (rows : List (List ℕ)) (rank : ℕ) (row : List ℕ) → rank < length rows → row_at (set rows rank row) rank ≡ row
own_row rows rank row within = unwrap_or-slice_get (set rows rank row) rank [] ∙ get_or-set_same rows rank row [] within

other_row : (rows : List (List ℕ)) (rank other : ℕ) (row : List ℕ) → (other ≡ rank → ⊥) → row_at (set rows rank row) other ≡ row_at rows other
other_row rows rank other row differs =
    unwrap_or-slice_get (set rows rank row) other [] ∙ get_or-set_other rows rank other row [] differs ∙ sym (unwrap_or-slice_get rows other [])

-- a place of a row, or of what was put after it
before_end : (row more : List ℕ) (place : ℕ) → place < length row → slice_get (row ++ more) place ≡ slice_get row place
before_end [] more place within = absurd (omega (arith, within))
before_end (line ∷ row) more zero within = refl
before_end (line ∷ row) more (suc place) within = before_end row more place (omega (arith, within))

after_end : (row : List ℕ) (count line place : ℕ) → length row ≤ place → place < length row + count → slice_get (row ++ replicate count line) place ≡ Some line
after_end [] zero line place above within = absurd (omega (arith, within))
after_end [] (suc count) line zero above within = refl
after_end [] (suc count) line (suc place) above within = after_end [] count line place (omega arith) (omega (arith, within))
after_end (first ∷ row) count line zero above within = absurd (omega (arith, above))
after_end (first ∷ row) count line (suc place) above within = after_end row count line place (omega (arith, above)) (omega (arith, within))

same_list : (it next : RecordingView) (rank : ℕ) → next.run ≡ it.run → next.choice ≡ it.choice → list_at next rank ≡ list_at it rank
same_list it next rank run choice = ap (λ (r : Run). list_of r next.choice rank) run ∙ ap (λ (c : Choice). list_of it.run c rank) choice

module _ (it next : RecordingView) (rank : ℕ) (rows : List (List ℕ)) (has : HasRows it rows) where
  -- so much more of a rank's list is handed on, which is of one entry
  pub lines_handed : (after : List (List ℕ)) (line count : ℕ) → rank < length it.run → IsPartMade it rank → HandsOn rank it next → next.before ≡ it.before →
      count_at it.handed rank + count ≡ count_at it.made rank →
      ((place : ℕ) → count_at it.before rank ≤ place → place < count_at it.made rank → line ≡ line_at (list_at it rank) place) →
      after ≡ set rows rank (row_at rows rank ++ replicate count line) → HasRows next after
  lines_handed after line count within part hands before all of_entry is = record {
    ranks = ap (λ (rs : List (List ℕ)). length rs) is ∙ length-set rows rank (row_at rows rank ++ replicate count line) ∙ has.ranks ∙ sym many;
    before = λ other inside. before_at other (omega (arith, inside, many));
    count = λ other inside. count_of other (omega (arith, inside, many));
    lines = λ other place inside below. line_of other place (omega (arith, inside, many)) below;
  }
    where
      many : length next.run ≡ length it.run
      many = ap (λ (r : Run). length r) hands.run

      all_handed : count_at next.handed rank ≡ count_at it.made rank
      all_handed = hands.handed ∙ ap (λ (m : List ℕ). count_at m rank) hands.made

      before_at : (other : ℕ) → other < length it.run → count_at next.before other ≤ count_at next.handed other
      before_at other inside = elim (cases_eq other rank) [
        | inl same ↦ omega (
          arith,
          ap (λ (b : List ℕ). count_at b other) before,
          ap (λ (n : ℕ). count_at it.before n) same,
          ap (λ (n : ℕ). count_at next.handed n) same,
          has.before rank within,
          part.handed,
          all_handed,
        )
        | inr differs ↦ omega (arith, ap (λ (b : List ℕ). count_at b other) before, has.before other inside, hands.others other differs)
      ]

      own : row_at after rank ≡ row_at rows rank ++ replicate count line
      own = ap (λ (rs : List (List ℕ)). row_at rs rank) is ∙ own_row rows rank (row_at rows rank ++ replicate count line) (omega (arith, within, has.ranks))

      else_same : (other : ℕ) → (other ≡ rank → ⊥) → row_at after other ≡ row_at rows other
      else_same other differs = ap (λ (rs : List (List ℕ)). row_at rs other) is ∙ other_row rows rank other (row_at rows rank ++ replicate count line) differs

      count_own : length (row_at after rank) ≡ count_at next.handed rank
      count_own =
          ap (λ (r : List ℕ). length r) own
          ∙ omega (arith, length-append (row_at rows rank) (replicate count line), length-replicate count line, has.count rank within, all, all_handed)

      count_of : (other : ℕ) → other < length it.run → length (row_at after other) ≡ count_at next.handed other
      count_of other inside = elim (cases_eq other rank) [
        | inl same ↦ subst (λ (r : ℕ). length (row_at after r) ≡ count_at next.handed r) (sym same) count_own
        | inr differs ↦ ap (λ (r : List ℕ). length r) (else_same other differs) ∙ has.count other inside ∙ sym (hands.others other differs)
      ]

      own_line : (place : ℕ) → place < count_at next.handed rank → slice_get (row_at rows rank ++ replicate count line) place ≡ Some (line_at (list_at it rank) place)
      own_line place below = elim (cases_lt place (count_at it.handed rank)) [
        | inl early ↦ before_end (row_at rows rank) (replicate count line) place (omega (arith, early, has.count rank within)) ∙ has.lines rank place within early
        | inr late ↦
            after_end (row_at rows rank) count line place (omega (arith, late, has.count rank within)) (omega (arith, below, has.count rank within, all, all_handed))
            ∙ ap (λ (l : ℕ). Some l) (of_entry place (omega (arith, late, has.before rank within)) (omega (arith, below, all_handed)))
      ]

      line_of : (other place : ℕ) → other < length it.run → place < count_at next.handed other → slice_get (row_at after other) place ≡ Some (line_at (list_at next other) place)
      line_of other place inside below = elim (cases_eq other rank) [
        | inl same ↦ subst (λ (r : ℕ). slice_get (row_at after r) place ≡ Some (line_at (list_at next r) place)) (sym same)
            (ap (λ (r : List ℕ). slice_get r place) own ∙ own_line place (subst (λ (r : ℕ). place < count_at next.handed r) same below)
            ∙ ap (λ (l : Listed). Some (line_at l place)) (sym (same_list it next rank hands.run hands.choice)))
        | inr differs ↦
            ap (λ (r : List ℕ). slice_get r place) (else_same other differs)
            ∙ has.lines other place inside (omega (arith, below, hands.others other differs))
            ∙ ap (λ (l : Listed). Some (line_at l place)) (sym (same_list it next other hands.run hands.choice))
      ]

  -- the next entry of a rank, once all before it was handed on
  pub lines_stepped : ChangesOnly rank it next → next.handed ≡ it.handed → count_at next.before rank ≤ count_at it.made rank → IsHandedOn it rank → HasRows next rows
  lines_stepped only handed before all = record {
    ranks = has.ranks ∙ sym many;
    before = λ other inside. before_at other (omega (arith, inside, many));
    count = λ other inside. has.count other (omega (arith, inside, many)) ∙ ap (λ (h : List ℕ). count_at h other) (sym handed);
    lines = λ other place inside below.
        has.lines other place (omega (arith, inside, many)) (omega (arith, below, ap (λ (h : List ℕ). count_at h other) handed))
        ∙ ap (λ (l : Listed). Some (line_at l place)) (sym (same_list it next other only.run only.choice));
  }
    where
      many : length next.run ≡ length it.run
      many = ap (λ (r : Run). length r) only.run

      before_at : (other : ℕ) → other < length it.run → count_at next.before other ≤ count_at next.handed other
      before_at other inside = elim (cases_eq other rank) [
        | inl same ↦ omega (arith, ap (λ (n : ℕ). count_at next.before n) same, ap (λ (n : ℕ). count_at next.handed n) same, before, all, ap (λ (h : List ℕ). count_at h rank) handed)
        | inr differs ↦ omega (arith, ap (λ (o : Option ℕ). unwrap_or o 0) (only.before other differs), has.before other inside, ap (λ (h : List ℕ). count_at h other) handed)
      ]

replicate_more : (count line : ℕ) → replicate count line ++ line ∷ [] ≡ replicate (count + 1) line
replicate_more zero line = refl
replicate_more (suc count) line = ap (λ (r : List ℕ). line ∷ r) (replicate_more count line) ∙ ap (λ (n : ℕ). replicate n line) next
  where
    next : suc (count + 1) ≡ suc count + 1
    next = omega arith

pub one_time_more : (old mid new : List ℕ) (line count : ℕ) → mid ≡ old ++ replicate count line → new ≡ mid ++ line ∷ [] → new ≡ old ++ replicate (count + 1) line
one_time_more old mid new line count so_far one =
    one ∙ ap (λ (r : List ℕ). r ++ line ∷ []) so_far ∙ append_assoc old (replicate count line) (line ∷ [])
    ∙ ap (λ (r : List ℕ). old ++ r) (replicate_more count line)

-- none was handed on yet
pub lines_begun : (it : RecordingView) (rows : List (List ℕ)) (ranks : ℕ) → it.handed ≡ replicate (length it.run) 0 → it.before ≡ replicate (length it.run) 0 →
    rows ≡ replicate ranks [] → ranks ≡ length it.run → HasRows it rows
lines_begun it rows ranks handed before are many = record {
  ranks = ap (λ (rs : List (List ℕ)). length rs) are ∙ length-replicate ranks [] ∙ many;
  before = λ rank within. omega (arith, none it.before rank within before);
  count = λ rank within.
      ap (λ (r : List ℕ). length r)
      (ap (λ (rs : List (List ℕ)). row_at rs rank) are ∙ unwrap_or-slice_get (replicate ranks []) rank [] ∙ get_or-replicate ranks rank [] [] (omega (arith, within, many)))
      ∙ sym (none it.handed rank within handed);
  lines = λ rank place within below. absurd (omega (arith, below, none it.handed rank within handed));
}
  where
    none : (counts : List ℕ) (rank : ℕ) → rank < length it.run → counts ≡ replicate (length it.run) 0 → count_at counts rank ≡ 0
    none counts rank within is =
        ap (λ (h : List ℕ). count_at h rank) is ∙ unwrap_or-slice_get (replicate (length it.run) 0) rank 0 ∙ get_or-replicate (length it.run) rank 0 0 within

-- ---- The lines of a list ----

line_there : (records : List Written) (end place : ℕ) → place < length records + 1 →
    slice_get (map (λ (one : Written). one.line) records ++ end ∷ []) place ≡ Some (option_map_or (λ (one : Written). one.line) (slice_get records place) end)
line_there [] end zero within = refl
line_there [] end (suc place) within = absurd (omega (arith, within))
line_there (one ∷ records) end zero within = refl
line_there (one ∷ records) end (suc place) within = line_there records end place (omega (arith, within))

none_beyond : (xs : List ℕ) (place : ℕ) → length xs ≤ place → slice_get xs place ≡ None
none_beyond [] place beyond = refl
none_beyond (x ∷ xs) zero beyond = absurd (omega (arith, beyond))
none_beyond (x ∷ xs) (suc place) beyond = none_beyond xs place (omega (arith, beyond))

count_lines : (list : Listed) → length (lines_of list) ≡ length list.records + 1
count_lines list = omega (arith, length-append (map (λ (one : Written). one.line) list.records) (list.line ∷ []), length-map list.records (λ (one : Written). one.line))

count_calls : (list : Listed) → length (calls_in list) ≡ length list.records + 1
count_calls list = omega (arith, length-append (map (λ (one : Written). one.call) list.records) (list.end ∷ []), length-map list.records (λ (one : Written). one.call))

-- a row with the line of each call of a list has its lines
same_lines : (row : List ℕ) (list : Listed) (place : ℕ) → length row ≡ length (calls_in list) → ((at : ℕ) → at < length row → slice_get row at ≡ Some (line_at list at)) →
    slice_get row place ≡ slice_get (lines_of list) place
same_lines row list place count are = elim (cases_lt place (length row)) [
  | inl within ↦ are place within ∙ sym (line_there list.records list.line place (omega (arith, within, count, count_calls list)))
  | inr beyond ↦ none_beyond row place (omega (arith, beyond)) ∙ sym (none_beyond (lines_of list) place (omega (arith, beyond, count, count_calls list, count_lines list)))
]

no_row : (rows : List (List ℕ)) (rank : ℕ) → length rows ≤ rank → row_at rows rank ≡ []
no_row [] rank beyond = refl
no_row (row ∷ rows) zero beyond = absurd (omega (arith, beyond))
no_row (row ∷ rows) (suc rank) beyond = no_row rows rank (omega (arith, beyond))

module _ (run : Run) (choice : Choice) where
  abbrev lists_there : List Listed
  lists_there = map (list_of run choice) (ranks_of run)

  many : length lists_there ≡ length run
  many = length-map-range_with_len (list_of run choice) 0 (length run)

  row_listed : (rank : ℕ) → rank < length run → row_at (map lines_of (recording_of run choice).lists) rank ≡ lines_of (list_of run choice rank)
  unfolding recording_of
  row_listed rank within =
      unwrap_or-slice_get (map lines_of lists_there) rank []
      ∙ get_or-map lines_of lists_there rank (list_of run choice rank) [] (omega (arith, within, many))
      ∙ ap lines_of (get_or-map-range_with_len (list_of run choice) 0 (length run) rank rank (list_of run choice rank) within (omega arith))

  row_beyond : (rank : ℕ) → length run ≤ rank → row_at (map lines_of (recording_of run choice).lists) rank ≡ []
  unfolding recording_of
  row_beyond rank beyond = no_row (map lines_of lists_there) rank (omega (arith, beyond, many, length-map lists_there lines_of))

-- where all calls of each list were handed on
pub all_lines : (it : RecordingView) (rows : List (List ℕ)) → HasRows it rows → ((rank : ℕ) → rank < length it.run → count_at it.handed rank ≡ length (calls_at it rank)) → HasAllLines it rows
all_lines it rows has all rank place = elim (cases_lt rank (length it.run)) [
  | inl within ↦
      ap (λ (o : Option ℕ). unwrap_or o 0)
      (same_lines (row_at rows rank) (list_at it rank) place (has.count rank within ∙ all rank within)
      (λ at below. has.lines rank at within (omega (arith, below, has.count rank within))))
      ∙ ap (λ (row : List ℕ). unwrap_or (slice_get row place) 0) (sym (row_listed it.run it.choice rank within))
  | inr beyond ↦
      ap (λ (row : List ℕ). unwrap_or (slice_get row place) 0)
      (no_row rows rank (omega (arith, beyond, has.ranks)) ∙ sym (row_beyond it.run it.choice rank (omega (arith, beyond))))
]

-- ---- The lines of a report ----

-- by the numbers of the table those of the lists
pub numbered : (rows : List (List ℕ)) (lines : List LineAt) (it : RecordingView) → HasAllLines it rows → HaveNumbers rows lines → HaveNumbers (map lines_of (recording_of it.run it.choice).lists) lines
numbered rows lines it all are place other within =
    let one = get_or lines place other in
    are place other within ∙ all one.rank one.place
