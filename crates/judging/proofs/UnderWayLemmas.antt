-- The look for an entry at which a cut isn't clean, along the lists and along the ranks.
use Rattle.std.proofs.Common.{◌≡◌, ◌∙◌, ◌<◌, ◌≤◌, ◌+◌, ◌-◌, ◌||◌, ◌&&◌, ◌⊎◌, inl, inr, not, ℕ, zero, suc, Bool, true, false, Option, Some, None, option_map, List, [], ◌∷◌, ◌++◌, drop, length, map, slice_get, refl, sym, ap, subst, arith}
use Rattle.std.specs.Prelude.{is_some, option_to_list, slice_set, unwrap_or, if◌then◌else◌}
use Rattle.std.specs.List.{list_all, range_with_len}
use Rattle.std.proofs.lemmas.Bool.{eq-eqb, ne_eqb}
use Rattle.std.proofs.lemmas.List.{drop_all, get_or-map, length-map}
use Rattle.std.proofs.lemmas.List.FromFn.{get_or-map-range_with_len, length-map-range_with_len}
use Rattle.std.proofs.lemmas.Option.{unwrap_or-slice_get}
use Rattle.mpicall.specs.declared.call.Call.{Call}
use Rattle.mpicall.specs.Word.{or_else}
use Rattle.mpigroup.specs.Groups.{Groups}
use Rattle.callstore.specs.Recordings.{Lists, calls_of}
use Rattle.callstore.specs.Waves.{is_full, place_in_wave}
use Rattle.closing.specs.Entries.{Run, lines_at, ranks_of}
use Rattle.closing.specs.Entry.{Choice}
use Rattle.closing.specs.Pending.{sinks_from}
use Rattle.closing.specs.Recording.{Listed, calls_of as calls_in, list_of, recording_of}
use Rattle.closing.specs.Sinks.{sink_in}
use Rattle.closing.specs.Steps.{Written}
use Rattle.closing.specs.declared.pending.Wanted.{Wanted}
use Rattle.journals.specs.Lines.{Line}
use Rattle.moves.specs.Analysed.{Analysed}
use Rattle.pairing.specs.Met.{has_all}
use Rattle.closing.specs.Numbers.{groups_of}
use Rattle.closing.specs.Recordings.{RecordingView}
use Rattle.judging.specs.NamedCalls.{line_in, lines_of}
use Rattle.judging.specs.UnderWay.{first_at, first_from, first_of, is_under_way, moved_of, takes_moved, unclean_at}
use Rattle.judging.specs.inner.Cuts.{AreFullBelow, IsGathered, count_in, is_at}
use Rattle.judging.specs.inner.Tables.{row_at}
use Rattle.judging.specs.declared.under_way.FullWaves.{FullWaves}
use Rattle.judging.specs.declared.under_way.MovedReceive.{MovedReceive}

-- ---- Sinks ----

-- the place of the first sink of some records, of which the first has this place
abbrev pub first_sink : ℕ → List Written → Option ℕ
first_sink place records = option_map (λ sink. sink.place) (slice_get (sinks_from place records) 0)

sink_beyond : (place : ℕ) (records : List Written) (n : ℕ) → first_sink place records ≡ Some n → place ≤ n
sink_beyond place [] n is = cc
sink_beyond place (one ∷ records) n is = by (sink_in one.starts) (λ beyond. sink_beyond (suc place) records n beyond) is
  where
    by : (wanted : Option Wanted) → (first_sink (suc place) records ≡ Some n → suc place ≤ n)
        → option_map (λ sink. sink.place) (slice_get (option_to_list (option_map (λ it. record { place = place; wanted = it }) wanted) ++ sinks_from (suc place) records) 0) ≡ Some n → place ≤ n
    by (Some wanted) later h = let same : place ≡ n = cc in omega (arith, same)
    by None later h = let beyond : suc place ≤ n = later h in omega (arith, beyond)

-- the first sink is at the place of the first record, or after it
pub sink_here : (place : ℕ) (one : Written) (records : List Written) → is_at (first_sink place (one ∷ records)) place ≡ is_some (sink_in one.starts)
sink_here place one records = by (sink_in one.starts)
  where
    not_here : (it : Option ℕ) → ((n : ℕ) → it ≡ Some n → suc place ≤ n) → is_at it place ≡ false
    not_here None later = refl
    not_here (Some n) later = ne_eqb n place (λ same. let beyond = later n refl in omega (arith, same, beyond))

    by : (wanted : Option Wanted) → is_at (option_map (λ sink. sink.place) (slice_get (option_to_list (option_map (λ it. record { place = place; wanted = it }) wanted) ++ sinks_from (suc place) records) 0)) place ≡ is_some wanted
    by (Some wanted) = eq-eqb place place refl
    by None = not_here (first_sink (suc place) records) (λ n is. sink_beyond (suc place) records n is)

pub sink_later : (place : ℕ) (one : Written) (records : List Written) → is_some (sink_in one.starts) ≡ false → first_sink place (one ∷ records) ≡ first_sink (suc place) records
sink_later place one records none = by (sink_in one.starts) none
  where
    by : (wanted : Option Wanted) → is_some wanted ≡ false → option_map (λ sink. sink.place) (slice_get (option_to_list (option_map (λ it. record { place = place; wanted = it }) wanted) ++ sinks_from (suc place) records) 0) ≡ first_sink (suc place) records
    by (Some wanted) h = cc
    by None h = refl

-- ---- Records ----

-- the record at a place of a list, whose call and line are those of that place
pub record IsRecordAt (records : List Written) (place : ℕ) (call : Call) (line : ℕ) : Type 0 where
  pub one : Written
  pub rest : drop place records ≡ one ∷ drop (suc place) records
  pub call_is : one.call ≡ call
  pub line_is : one.line ≡ line

pub record_at : (records : List Written) (end call : Call) (last place : ℕ) → place < length records → slice_get (map (λ one. one.call) records ++ end ∷ []) place ≡ Some call →
    IsRecordAt records place call (unwrap_or (slice_get (map (λ one. one.line) records ++ last ∷ []) place) 0)
record_at [] end call last place within is = absurd (omega (arith, within))
record_at (one ∷ records) end call last zero within is = record { one = one; rest = refl; call_is = cc; line_is = refl }
record_at (one ∷ records) end call last (suc place) within is =
    let later = record_at records end call last place (omega (arith, within)) is in
    record { one = later.one; rest = later.rest; call_is = later.call_is; line_is = later.line_is }

module _ (run : Run) (choice : Choice) where
  abbrev lists_there : List Listed
  lists_there = map (list_of run choice) (ranks_of run)

  many : length lists_there ≡ length run
  many = length-map-range_with_len (list_of run choice) 0 (length run)

  -- a rank's calls, and their lines
  pub calls_there : (rank : ℕ) → rank < length run → calls_of (map calls_in (recording_of run choice).lists) rank ≡ calls_in (list_of run choice rank)
  unfolding recording_of
  calls_there rank within =
      unwrap_or-slice_get (map calls_in lists_there) rank []
      ∙ get_or-map calls_in lists_there rank (list_of run choice rank) [] (omega (arith, within, many))
      ∙ ap calls_in (get_or-map-range_with_len (list_of run choice) 0 (length run) rank rank (list_of run choice rank) within (omega arith))

  pub lines_there : (rank : ℕ) → rank < length run → row_at (map lines_of (recording_of run choice).lists) rank ≡ lines_of (list_of run choice rank)
  unfolding recording_of
  lines_there rank within =
      unwrap_or-slice_get (map lines_of lists_there) rank []
      ∙ get_or-map lines_of lists_there rank (list_of run choice rank) [] (omega (arith, within, many))
      ∙ ap lines_of (get_or-map-range_with_len (list_of run choice) 0 (length run) rank rank (list_of run choice rank) within (omega arith))

pub count_before_end : (list : Listed) → length (calls_in list) - 1 ≡ length list.records
count_before_end list = by list.records list.end
  where
    by : (records : List Written) (end : Call) → length (map (λ one. one.call) records ++ end ∷ []) - 1 ≡ length records
    by [] end = refl
    by (one ∷ records) end = let later = by records end in omega (arith, later, some records end)
      where
        some : (records : List Written) (end : Call) → 1 ≤ length (map (λ one. one.call) records ++ end ∷ [])
        some [] end = omega arith
        some (one ∷ records) end = omega arith

-- ---- One record more ----

module _ (groups : Groups) (recording : Lists) (rank : ℕ) (lines : List Line) (place : ℕ) (moved : List MovedReceive) (one : Written) (records : List Written) where
  pub found_here : is_under_way groups recording rank place moved one ≡ true → first_from groups recording rank lines place moved (one ∷ records) ≡ Some one.line
  found_here is = ap (λ (b : Bool). if b then Some one.line else first_from groups recording rank lines (suc place) (moved ++ option_to_list (moved_of lines one.line one.call)) records) is

  pub found_later : is_under_way groups recording rank place moved one ≡ false
      → first_from groups recording rank lines place moved (one ∷ records) ≡ first_from groups recording rank lines (suc place) (moved ++ option_to_list (moved_of lines one.line one.call)) records
  found_later is = ap (λ (b : Bool). if b then Some one.line else first_from groups recording rank lines (suc place) (moved ++ option_to_list (moved_of lines one.line one.call)) records) is

-- a call with which nothing is under way is no sink
pub no_sink : (first rest : Bool) → (first || rest) ≡ false → first ≡ false
no_sink true rest is = is
no_sink false rest is = refl

-- ---- Waves ----

slice_below : {A : Type 0} (list : List A) (place later : ℕ) → place ≤ later → is_some (slice_get list later) ≡ true → is_some (slice_get list place) ≡ true
slice_below [] place later within is = cc
slice_below (it ∷ list) zero later within is = refl
slice_below (it ∷ list) (suc place) zero within is = absurd (omega (arith, within))
slice_below (it ∷ list) (suc place) (suc later) within is = slice_below list place later (omega (arith, within)) is

all_of : (first next : ℕ → Bool) (ranks : List ℕ) → ((rank : ℕ) → first rank ≡ true → next rank ≡ true) → list_all first ranks ≡ true → list_all next ranks ≡ true
all_of first next [] says is = refl
all_of first next (rank ∷ ranks) says is = by (first rank) refl (λ rest. all_of first next ranks says rest) is
  where
    by : (b : Bool) → first rank ≡ b → (list_all first ranks ≡ true → list_all next ranks ≡ true) → (b && list_all first ranks) ≡ true → (next rank && list_all next ranks) ≡ true
    by true own others rest = ap (λ (b : Bool). b && list_all next ranks) (says rank own) ∙ others rest
    by false own others rest = cc

-- a wave is full if a later one of its communicator is
pub full_below : (groups : Groups) (recording : Lists) (comm wave later : ℕ) → wave ≤ later → is_full groups recording comm later ≡ true → is_full groups recording comm wave ≡ true
full_below groups recording comm wave later within is =
    all_of (λ rank. is_some (place_in_wave recording comm later rank)) (λ rank. is_some (place_in_wave recording comm wave rank)) _
    (λ rank own. slice_below _ wave later within own) is

-- ---- Ranks ----

module _ (first : ℕ → Option ℕ) where
  pub first_is : (rank line : ℕ) (ranks : List ℕ) → first rank ≡ Some line → first_of first (rank ∷ ranks) ≡ Some (record { rank = rank; line = line })
  first_is rank line ranks is = ap (λ (o : Option ℕ). or_else (option_map (λ it. record { rank = rank; line = it }) o) (first_of first ranks)) is

  pub first_is_later : (rank : ℕ) (ranks : List ℕ) → first rank ≡ None → first_of first (rank ∷ ranks) ≡ first_of first ranks
  first_is_later rank ranks is = ap (λ (o : Option ℕ). or_else (option_map (λ it. record { rank = rank; line = it }) o) (first_of first ranks)) is

pub ranks_more : (rank count : ℕ) → rank < count → range_with_len rank (count - rank) ≡ rank ∷ range_with_len (rank + 1) (count - (rank + 1))
ranks_more rank count within =
    let more : count - rank ≡ suc (count - (rank + 1)) = omega (arith, within) in
    ap (range_with_len rank) more

pub ranks_end : (rank count : ℕ) → count ≤ rank → range_with_len rank (count - rank) ≡ []
ranks_end rank count past =
    let none : count - rank ≡ 0 = omega (arith, past) in
    ap (range_with_len rank) none

-- ---- Lists that are gathered ----

module _ (it : RecordingView) (rows : List (List ℕ)) (analysed : Analysed) (rank : ℕ) (gathered : IsGathered it rows analysed) (within : rank < length it.run) where
  abbrev own : Listed
  own = list_of it.run it.choice rank

  calls_are : calls_of analysed.recording rank ≡ calls_in own
  calls_are = ap (λ (l : Lists). calls_of l rank) gathered.calls ∙ calls_there it.run it.choice rank within

  line_is : (place : ℕ) → line_in rows rank place ≡ unwrap_or (slice_get (lines_of own) place) 0
  line_is place = gathered.lines rank place ∙ ap (λ (row : List ℕ). unwrap_or (slice_get row place) 0) (lines_there it.run it.choice rank within)

  -- the record of a call that is none at the list's end
  pub record_there : (place : ℕ) (call : Call) → place < length (calls_of analysed.recording rank) - 1 → slice_get (calls_of analysed.recording rank) place ≡ Some call
      → IsRecordAt own.records place call (line_in rows rank place)
  record_there place call below at =
      let count : length (calls_of analysed.recording rank) - 1 ≡ length own.records = ap (λ (cs : List Call). length cs - 1) calls_are ∙ count_before_end own in
      subst (λ (n : ℕ). IsRecordAt own.records place call n) (sym (line_is place))
      (record_at own.records own.end call own.line place (omega (arith, below, count)) (sym (ap (λ (cs : List Call). slice_get cs place) calls_are) ∙ at))

  pub none_there : (place : ℕ) → length (calls_of analysed.recording rank) - 1 ≤ place → drop place own.records ≡ []
  none_there place past =
      let count : length (calls_of analysed.recording rank) - 1 ≡ length own.records = ap (λ (cs : List Call). length cs - 1) calls_are ∙ count_before_end own in
      drop_all place own.records (omega (arith, past, count))

  -- whether anything is under way with the call, by what is found
  module _ (place : ℕ) (call : Call) (moved : List MovedReceive) (at : IsRecordAt own.records place call (line_in rows rank place)) (sink : Option ℕ) (sinks : sink ≡ first_sink place (drop place own.records)) where
    pub under_way_is : is_under_way (groups_of it.run) (map calls_in (recording_of it.run it.choice).lists) rank place moved at.one
        ≡ (is_at sink place || (not (has_all analysed.groups analysed.recording rank place) || takes_moved moved call))
    under_way_is =
        ap (λ (b : Bool). b || (not (has_all (groups_of it.run) (map calls_in (recording_of it.run it.choice).lists) rank place) || takes_moved moved at.one.call))
        (sym (ap (λ (s : Option ℕ). is_at s place) (sinks ∙ ap (first_sink place) at.rest) ∙ sink_here place at.one (drop (suc place) own.records)))
        ∙ ap (λ (c : Call). is_at sink place || (not (has_all (groups_of it.run) (map calls_in (recording_of it.run it.choice).lists) rank place) || takes_moved moved c)) at.call_is
        ∙ ap (λ (l : Lists). is_at sink place || (not (has_all (groups_of it.run) l rank place) || takes_moved moved call)) (sym gathered.calls)
        ∙ ap (λ (g : Groups). is_at sink place || (not (has_all g analysed.recording rank place) || takes_moved moved call)) (sym gathered.groups)

  -- a place before the list's end has a call
  pub call_there : (place : ℕ) → place < length (calls_of analysed.recording rank) - 1 → slice_get (calls_of analysed.recording rank) place ≡ None → ⊥
  call_there place below none = some (calls_of analysed.recording rank) place (omega (arith, below)) none
    where
      some : (calls : List Call) (n : ℕ) → n < length calls → slice_get calls n ≡ None → ⊥
      some [] n h e = absurd (omega (arith, h))
      some (call ∷ calls) zero h e = cc
      some (call ∷ calls) (suc n) h e = some calls n (omega (arith, h)) e

  abbrev all_groups : Groups
  all_groups = groups_of it.run

  abbrev all_lists : Lists
  all_lists = map calls_in (recording_of it.run it.choice).lists

  abbrev own_lines : List Line
  own_lines = lines_at it.run rank

  abbrev is_met : (place : ℕ) (call : Call) (moved : List MovedReceive) (sink : Option ℕ) → Bool
  is_met place call moved sink = is_at sink place || (not (has_all analysed.groups analysed.recording rank place) || takes_moved moved call)

  -- with no record so far
  pub begins : (moved : List MovedReceive) → moved ≡ [] → first_from all_groups all_lists rank own_lines 0 moved (drop 0 own.records) ≡ first_at it.run it.choice rank
  begins moved none = ap (λ (moved : List MovedReceive). first_from all_groups all_lists rank own_lines 0 moved own.records) none

  -- as the code says it
  pub met_is : (place : ℕ) (call : Call) (moved : List MovedReceive) (sink : Option ℕ) (met at_sink all takes : Bool) → met ≡ (at_sink || (not all || takes)) → at_sink ≡ is_at sink place
      → all ≡ has_all analysed.groups analysed.recording rank place → takes ≡ takes_moved moved call → met ≡ is_met place call moved sink
  met_is place call moved sink met at_sink all takes is sinks others moves = cc

  module _ (place : ℕ) (call : Call) (moved : List MovedReceive) (sink : Option ℕ) (line : ℕ) (below : place < length (calls_of analysed.recording rank) - 1) (at : slice_get (calls_of analysed.recording rank) place ≡ Some call)
      (line_said : line ≡ line_in rows rank place) (sinks : sink ≡ first_sink place (drop place own.records))
      (so_far : first_from all_groups all_lists rank own_lines place moved (drop place own.records) ≡ first_at it.run it.choice rank) where
    abbrev there : IsRecordAt own.records place call (line_in rows rank place)
    there = record_there place call below at

    from_there : first_from all_groups all_lists rank own_lines place moved (there.one ∷ drop (suc place) own.records) ≡ first_at it.run it.choice rank
    from_there = ap (first_from all_groups all_lists rank own_lines place moved) (sym there.rest) ∙ so_far

    -- something is under way with it
    pub first_there : is_met place call moved sink ≡ true → Some line ≡ first_at it.run it.choice rank
    first_there met =
        ap (λ (n : ℕ). Some n) (line_said ∙ sym there.line_is)
        ∙ sym (found_here all_groups all_lists rank own_lines place moved there.one (drop (suc place) own.records) (under_way_is place call moved there sink sinks ∙ met))
        ∙ from_there

    -- nothing is
    module _ (met : is_met place call moved sink ≡ false) where
      pub sinks_next : sink ≡ first_sink (place + 1) (drop (place + 1) own.records)
      sinks_next =
          let none : is_some (sink_in there.one.starts) ≡ false = sym (sink_here place there.one (drop (suc place) own.records)) ∙ ap (λ (s : Option ℕ). is_at s place) (sym (sinks ∙ ap (first_sink place) there.rest)) ∙ no_sink (is_at sink place) _ met in
          subst (λ (n : ℕ). sink ≡ first_sink n (drop n own.records)) (sym (one_more place))
          (sinks ∙ ap (first_sink place) there.rest ∙ sink_later place there.one (drop (suc place) own.records) none)
        where
          one_more : (n : ℕ) → n + 1 ≡ suc n
          one_more n = omega arith

      pub first_next : first_from all_groups all_lists rank own_lines (place + 1) (moved ++ option_to_list (moved_of own_lines line call)) (drop (place + 1) own.records) ≡ first_at it.run it.choice rank
      first_next =
          subst (λ (n : ℕ). first_from all_groups all_lists rank own_lines n (moved ++ option_to_list (moved_of own_lines line call)) (drop n own.records) ≡ first_at it.run it.choice rank) (sym (one_more place))
          (ap (λ (n : ℕ). first_from all_groups all_lists rank own_lines (suc place) (moved ++ option_to_list (moved_of own_lines n call)) (drop (suc place) own.records)) (line_said ∙ sym there.line_is)
          ∙ ap (λ (one : Call). first_from all_groups all_lists rank own_lines (suc place) (moved ++ option_to_list (moved_of own_lines there.one.line one)) (drop (suc place) own.records)) (sym there.call_is)
          ∙ sym (found_later all_groups all_lists rank own_lines place moved there.one (drop (suc place) own.records) (under_way_is place call moved there sink sinks ∙ met))
          ∙ from_there)
        where
          one_more : (n : ℕ) → n + 1 ≡ suc n
          one_more n = omega arith

      -- with the moved receive that it is
      pub next_with : (found : Option MovedReceive) (now_moved : List MovedReceive) → found ≡ moved_of own_lines line call → now_moved ≡ moved ++ option_to_list found
          → first_from all_groups all_lists rank own_lines (place + 1) now_moved (drop (place + 1) own.records) ≡ first_at it.run it.choice rank
      next_with found now_moved is all =
          ap (λ (moved : List MovedReceive). first_from all_groups all_lists rank own_lines (place + 1) moved (drop (place + 1) own.records)) (all ∙ ap (λ (o : Option MovedReceive). moved ++ option_to_list o) is) ∙ first_next

  -- no record is left
  pub first_none : (place : ℕ) (moved : List MovedReceive) → length (calls_of analysed.recording rank) - 1 ≤ place →
      first_from all_groups all_lists rank own_lines place moved (drop place own.records) ≡ first_at it.run it.choice rank → None ≡ first_at it.run it.choice rank
  first_none place moved past so_far = ap (first_from all_groups all_lists rank own_lines place moved) (sym (none_there place past)) ∙ so_far

-- as many ranks are gathered as the run has
pub many_gathered : (it : RecordingView) (rows : List (List ℕ)) (analysed : Analysed) → IsGathered it rows analysed → length analysed.recording ≡ length it.run
unfolding recording_of
many_gathered it rows analysed gathered =
    ap (λ (l : Lists). length l) gathered.calls ∙ length-map (map (list_of it.run it.choice) (ranks_of it.run)) calls_in ∙ length-map-range_with_len (list_of it.run it.choice) 0 (length it.run)

-- ---- The run ----

module _ (run : Run) (choice : Choice) where
  module _ (rank : ℕ) (so_far : first_of (first_at run choice) (range_with_len rank (length run - rank)) ≡ unclean_at run choice) where
    pub found_of : (line : ℕ) → rank < length run → Some line ≡ first_at run choice rank → Some (record { rank = rank; line = line }) ≡ unclean_at run choice
    found_of line within is =
        sym (first_is (first_at run choice) rank line (range_with_len (rank + 1) (length run - (rank + 1))) (sym is))
        ∙ ap (first_of (first_at run choice)) (sym (ranks_more rank (length run) within)) ∙ so_far

    pub next_of : rank < length run → None ≡ first_at run choice rank → first_of (first_at run choice) (range_with_len (rank + 1) (length run - (rank + 1))) ≡ unclean_at run choice
    next_of within is =
        sym (first_is_later (first_at run choice) rank (range_with_len (rank + 1) (length run - (rank + 1))) (sym is))
        ∙ ap (first_of (first_at run choice)) (sym (ranks_more rank (length run) within)) ∙ so_far

    pub none_of : length run ≤ rank → None ≡ unclean_at run choice
    none_of past = ap (first_of (first_at run choice)) (sym (ranks_end rank (length run) past)) ∙ so_far

-- ---- Waves that are known to be full ----

-- up to a wave that is full
pub more_full : (groups : Groups) (recording : Lists) (old new : FullWaves) (comm wave count : ℕ) → AreFullBelow groups recording old → is_full groups recording comm wave ≡ true → count ≤ suc wave →
    new.counts.items ≡ slice_set old.counts.items comm count → AreFullBelow groups recording new
more_full groups recording old new comm wave count kept full most is other earlier below =
    by (set_at old.counts.items comm other count)
  where
    set_at : (counts : List ℕ) (k j n : ℕ) → (unwrap_or (slice_get (slice_set counts k n) j) 0 ≡ unwrap_or (slice_get counts j) 0) ⊎ ((j ≡ k) × (unwrap_or (slice_get (slice_set counts k n) j) 0 ≡ n))
    set_at [] k j n = inl refl
    set_at (count ∷ counts) zero zero n = inr (refl, refl)
    set_at (count ∷ counts) zero (suc j) n = inl refl
    set_at (count ∷ counts) (suc k) zero n = inl refl
    set_at (count ∷ counts) (suc k) (suc j) n =
        elim (set_at counts k j n) [
          | inl same ↦ inl same
          | inr set ↦ inr (ap (λ (i : ℕ). suc i) set.0, set.1)
        ]

    now_is : count_in new other ≡ unwrap_or (slice_get (slice_set old.counts.items comm count) other) 0
    now_is = ap (λ (counts : List ℕ). unwrap_or (slice_get counts other) 0) is

    by : (unwrap_or (slice_get (slice_set old.counts.items comm count) other) 0 ≡ count_in old other) ⊎ ((other ≡ comm) × (unwrap_or (slice_get (slice_set old.counts.items comm count) other) 0 ≡ count)) → is_full groups recording other earlier ≡ true
    by (inl same) = kept other earlier (omega (arith, below, now_is, same))
    by (inr set) =
        let within : earlier ≤ wave = omega (arith, below, now_is, set.1, most) in
        subst (λ (c : ℕ). is_full groups recording c earlier ≡ true) (sym set.0) (full_below groups recording comm earlier wave within full)
