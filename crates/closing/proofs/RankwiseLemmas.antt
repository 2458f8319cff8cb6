-- What callers see of a recording, by what it keeps of a rank.
use Rattle.std.proofs.Common.{◌≡◌, ◌∙◌, refl, sym, ap, subst, arith, ℕ, zero, suc, ◌+◌, ◌-◌, ◌<◌, ◌≤◌, Bool, true, false, List, [], ◌∷◌, ◌++◌, length, map, take, drop, append_assoc, length-append, get_or, ◌==◌, ne_eqb, inl, inr, ◌⊎◌, Option, Some, None, option_map}
use Rattle.std.specs.Prelude.{flat_map, slice_get, unwrap_or, zip, if◌then◌else◌}
use Rattle.std.specs.Option.{option_map_or}
use Rattle.std.proofs.lemmas.Option.{slice_get-map, slice_get_past, slice_get_read, slice_get_within}
use Rattle.std.proofs.lemmas.Bool.{cases_lt, eqb-true}
use Rattle.std.proofs.lemmas.List.{append-nil, length-map}
use Rattle.std.proofs.Math.Seq.{drop-append_seam, take-append_seam}
use Rattle.journals.specs.declared.journal.Journal.{Journal as JournalRead}
use Rattle.journals.specs.Lines.{Line}
use Rattle.closing.specs.Entries.{journal_at, lines_at, lines_in}
use Rattle.closing.specs.Fit.{IsFit}
use Rattle.closing.specs.Freed.{is_freed, starts_freed, starts_one_of}
use Rattle.closing.specs.Journals.{journal_in, run_in}
use Rattle.closing.specs.Left.{left_by as left_told, left_said}
use Rattle.closing.specs.Pending.{pending_of, sinks_of, pending_said}
use Rattle.closing.specs.Recording.{Listed, calls_of, list_of}
use Rattle.closing.specs.Recordings.{HasRanks, IsPartMade, RecordingView, calls_at, calls_waiting, choice_in, count_at, left_in, line_at, list_at}
use Rattle.closing.specs.Steps.{Id, Written}
use Rattle.closing.specs.inner.Lists.{HasPlaces, has_place}
use Rattle.closing.specs.inner.Rankwise.{IsRecording, made_by, left_by, recording_view}
use Rattle.closing.specs.inner.SoFar.{IsPart}
use Rattle.closing.specs.inner.Taken.{IsKnown}
use Rattle.closing.specs.declared.choice.Choice.{Choice as ChoiceMade}
use Rattle.closing.specs.declared.numbers.Communicators.{Communicators}
use Rattle.closing.specs.declared.walk.Walk.{Walk}
use Rattle.closing.proofs.NumberLists.{get_some}

-- what a vector answers at a rank's place
pub got_walk : (items walks : List Walk) (place rank : ℕ) (walk : Walk) → items ≡ walks → place ≡ rank → (place < length items) × ((d : Walk) → walk ≡ get_or items place d)
    → slice_get walks rank ≡ Some walk
got_walk items walks place rank walk same at is =
    let got = slice_get_read items (length items) place walk refl is.0 (is.1 walk) in
    sym (ap (λ xs. slice_get xs place) same ∙ ap (slice_get walks) at) ∙ got

pub got_none : (items walks : List Walk) (place rank : ℕ) → items ≡ walks → place ≡ rank → length items ≤ place → slice_get walks rank ≡ None
got_none items walks place rank same at past =
    sym (ap (λ xs. slice_get xs place) same ∙ ap (slice_get walks) at) ∙ slice_get_past items place past

-- the count of a rank by its walk
pub count_of_walk : (f : Walk → ℕ) (walks : List Walk) (rank : ℕ) (walk : Walk) → slice_get walks rank ≡ Some walk → count_at (map f walks) rank ≡ f walk
count_of_walk f walks rank walk e = ap (λ it. unwrap_or it 0) (slice_get-map f walks rank ∙ ap (option_map f) e)

pub count_of_none : (f : Walk → ℕ) (walks : List Walk) (rank : ℕ) → slice_get walks rank ≡ None → count_at (map f walks) rank ≡ 0
count_of_none f walks rank e = ap (λ it. unwrap_or it 0) (slice_get-map f walks rank ∙ ap (option_map f) e)

-- the records that wait are the calls after those that were handed on
pub waiting_are : (listed : Listed) (walk : Walk) → IsPart listed walk → walk.list.records ≡ take (made_by walk - walk.handed) (drop walk.handed (calls_of listed))
waiting_are listed walk part =
    let items = walk.list.records in
    let count : made_by walk - walk.handed ≡ length items = omega arith in
    let after : drop walk.handed (calls_of listed) ≡ items ++ part.rest =
    ap (λ n. drop n (calls_of listed)) (sym part.count) ∙ ap (drop (length part.handed)) part.has.calls ∙ drop-append_seam part.handed (items ++ part.rest) in
    sym (ap (λ n. take n (drop walk.handed (calls_of listed))) count ∙ ap (take (length items)) after ∙ take-append_seam items part.rest)

pub all_made : (listed : Listed) (walk : Walk) (part : IsPart listed walk) → length (calls_of listed) ≡ made_by walk + length part.rest
all_made listed walk part =
    let items = walk.list.records in
    let all : length (calls_of listed) ≡ length (part.handed ++ (items ++ part.rest)) = ap length part.has.calls in
    omega (arith, all, length-append part.handed (items ++ part.rest), length-append items part.rest, part.count)

-- no more are made than the list has, and all where it has ended
pub made_most : (listed : Listed) (walk : Walk) → IsPart listed walk → made_by walk ≤ length (calls_of listed)
made_most listed walk part = omega (arith, all_made listed walk part)

pub made_all : (listed : Listed) (walk : Walk) → IsPart listed walk → walk.is_over ≡ true → made_by walk ≡ length (calls_of listed)
made_all listed walk part over =
    let none : length part.rest ≡ 0 = ap length (part.over over).0 in
    omega (arith, all_made listed walk part, none)

some_left : (b : Bool) (n : ℕ) → (if b then 0 else n + 1) ≡ 0 → b ≡ true
some_left true n e = refl
some_left false n e = absurd (omega (arith, e))

-- nothing is left exactly where the list has ended
pub left_none : (journal : Option JournalRead) (walk : Walk) → left_by (journal, walk) ≡ 0 → walk.is_over ≡ true
left_none journal walk e = some_left walk.is_over _ e

-- ---- Records that are handed on ----

pub forgotten : (listed : Listed) (old new : Walk) → IsPart listed old → new.list.records ≡ [] → new.handed ≡ old.handed + length old.list.records
    → new.before ≡ old.before → new.line ≡ old.line → new.is_over ≡ old.is_over → new.left ≡ old.left → IsPart listed new
forgotten listed old new part none handed before line over left =
    let items = old.list.records in
    let all : (part.handed ++ items) ++ (new.list.records ++ part.rest) ≡ part.handed ++ (items ++ part.rest) =
    ap (λ xs. (part.handed ++ items) ++ (xs ++ part.rest)) none ∙ append_assoc part.handed items part.rest in
    let made : (part.handed ++ items) ++ new.list.records ≡ part.handed ++ items =
    ap (λ xs. (part.handed ++ items) ++ xs) none ∙ append-nil (part.handed ++ items) in
    record {
      handed = part.handed ++ items;
      rest = part.rest;
      has = record {
        calls = part.has.calls ∙ sym all;
        lines = λ place from within.
            part.has.lines place (omega (arith, from, before)) (omega (arith, within, ap length made)) ∙ sym line;
      };
      count = length-append part.handed items ∙ ap (λ n. n + length items) part.count ∙ sym handed;
      over = λ is. ((part.over (sym over ∙ is)).0, left ∙ (part.over (sym over ∙ is)).1);
    }

over_is : (b : Bool) (n : ℕ) → ((if b then 0 else n + 1) == 0) ≡ b
over_is true n = refl
over_is false n = ne_eqb (n + 1) 0 (λ e. absurd (omega (arith, e)))

-- ---- A rank of a recording ----

zip_at : {A B : Type 0} (xs : List A) (ys : List B) (n : ℕ) (x : A) (y : B) → slice_get xs n ≡ Some x → slice_get ys n ≡ Some y → slice_get (zip xs ys) n ≡ Some (x, y)
zip_at [] ys n x y e f = absurd (cc (e))
zip_at (a ∷ xs) [] n x y e f = absurd (cc (f))
zip_at (a ∷ xs) (b ∷ ys) zero x y e f = cc
zip_at (a ∷ xs) (b ∷ ys) (suc n) x y e f = zip_at xs ys n x y e f

zip_count : {A B : Type 0} (xs : List A) (ys : List B) → length ys ≡ length xs → length (zip xs ys) ≡ length xs
zip_count [] ys e = refl
zip_count (x ∷ xs) [] e = absurd (omega (arith, e))
zip_count (x ∷ xs) (y ∷ ys) e = ap suc (zip_count xs ys (omega (arith, e)))

-- there is as much of each rank
pub has_ranks : (ranks : ℕ) (journals : List (Option JournalRead)) (choice : ChoiceMade) (kept : Communicators) (walks : List Walk) → IsRecording ranks journals choice kept walks
    → HasRanks (recording_view journals choice walks)
has_ranks ranks journals choice kept walks is =
    let run : length (run_in journals) ≡ length journals = length-map journals (option_map journal_in) in
    record {
      handed = length-map walks (λ walk. walk.handed) ∙ is.walks_are ∙ sym run;
      made = length-map walks made_by ∙ is.walks_are ∙ sym run;
      before = length-map walks (λ walk. walk.before) ∙ is.walks_are ∙ sym run;
      left = length-map (zip journals walks) left_by ∙ zip_count journals walks is.walks_are ∙ sym run;
    }

-- what is kept of a rank
pub record HasWalk (journals : List (Option JournalRead)) (walks : List Walk) (rank : ℕ) : Type 0 where
  pub walk : Walk
  pub journal : Option JournalRead
  pub at : slice_get walks rank ≡ Some walk
  pub journal_at : slice_get journals rank ≡ Some journal
  pub left : count_at (map left_by (zip journals walks)) rank ≡ left_by (journal, walk)

pub walk_at : (journals : List (Option JournalRead)) (walks : List Walk) (rank : ℕ) → length walks ≡ length journals → rank < length (run_in journals) → HasWalk journals walks rank
walk_at journals walks rank same h =
    let run : length (run_in journals) ≡ length journals = length-map journals (option_map journal_in) in
    let walk = get_some walks rank (omega (arith, same, h, run)) in
    let journal = get_some journals rank (omega (arith, h, run)) in
    record {
      walk = walk.0;
      journal = journal.0;
      at = walk.1;
      journal_at = journal.1;
      left = ap (λ it. unwrap_or it 0) (slice_get-map left_by (zip journals walks) rank ∙ ap (option_map left_by) (zip_at journals walks rank journal.0 walk.0 journal.1 walk.1));
    }

pub rank_part : (ranks : ℕ) (journals : List (Option JournalRead)) (choice : ChoiceMade) (kept : Communicators) (walks : List Walk) → IsRecording ranks journals choice kept walks
    → IsFit (run_in journals) (choice_in choice) → (rank : ℕ) (walk : Walk) → slice_get walks rank ≡ Some walk → IsPart (list_of (run_in journals) (choice_in choice) rank) walk
rank_part ranks journals choice kept walks is fit rank walk at =
    let one = is.have.are fit rank walk at in
    subst (λ (n : ℕ). IsPart (list_of (run_in journals) (choice_in choice) n) walk) one.rank_is one.is.part

pub left_at : (journals : List (Option JournalRead)) (walks : List Walk) (rank : ℕ) (journal : Option JournalRead) (walk : Walk) → slice_get journals rank ≡ Some journal
    → slice_get walks rank ≡ Some walk → count_at (map left_by (zip journals walks)) rank ≡ left_by (journal, walk)
left_at journals walks rank journal walk there at =
    ap (λ it. unwrap_or it 0) (slice_get-map left_by (zip journals walks) rank ∙ ap (option_map left_by) (zip_at journals walks rank journal walk there at))

-- a part of its list was made
pub part_made : (ranks : ℕ) (journals : List (Option JournalRead)) (choice : ChoiceMade) (kept : Communicators) (walks : List Walk) (rank : ℕ) → IsRecording ranks journals choice kept walks
    → IsFit (run_in journals) (choice_in choice) → rank < length (run_in journals) → IsPartMade (recording_view journals choice walks) rank
part_made ranks journals choice kept walks rank is fit h =
    let at = walk_at journals walks rank is.walks_are h in
    let listed = list_of (run_in journals) (choice_in choice) rank in
    let part = rank_part ranks journals choice kept walks is fit rank at.walk at.at in
    let handed : count_at (map (λ walk. walk.handed) walks) rank ≡ at.walk.handed = count_of_walk (λ walk. walk.handed) walks rank at.walk at.at in
    let made : count_at (map made_by walks) rank ≡ made_by at.walk = count_of_walk made_by walks rank at.walk at.at in
    record {
      handed = omega (arith, handed, made);
      made = omega (arith, made, made_most listed at.walk part);
      over = λ none. made ∙ made_all listed at.walk part (left_none at.journal at.walk (sym at.left ∙ none));
    }

-- the lines of a rank are those of its journal
pub journal_of_rank : (journals : List (Option JournalRead)) (rank : ℕ) (journal : Option JournalRead) → slice_get journals rank ≡ Some journal
    → journal_at (run_in journals) rank ≡ option_map journal_in journal
journal_of_rank journals rank journal e = joined_is (slice_get-map (option_map journal_in) journals rank ∙ ap (option_map (option_map journal_in)) e)
  where
    joined_is : slice_get (run_in journals) rank ≡ Some (option_map journal_in journal) → journal_at (run_in journals) rank ≡ option_map journal_in journal
    joined_is f = rw f refl

-- ---- What is answered of a rank ----

module _ (ranks : ℕ) (journals : List (Option JournalRead)) (choice : ChoiceMade) (kept : Communicators) (walks : List Walk) (is : IsRecording ranks journals choice kept walks) where
  abbrev seen : RecordingView
  seen = recording_view journals choice walks

  pub ranks_run : ranks ≡ length seen.run
  ranks_run = is.ranks_are ∙ sym (length-map journals (option_map journal_in))

  pub counts_at : (rank : ℕ) (walk : Walk) → slice_get walks rank ≡ Some walk → count_at seen.handed rank + length walk.list.records ≡ count_at seen.made rank
  counts_at rank walk at =
      let handed : count_at seen.handed rank ≡ walk.handed = count_of_walk (λ walk. walk.handed) walks rank walk at in
      let made : count_at seen.made rank ≡ made_by walk = count_of_walk made_by walks rank walk at in
      omega (arith, handed, made)

  pub counts_none : (rank : ℕ) → slice_get walks rank ≡ None → count_at seen.handed rank + 0 ≡ count_at seen.made rank
  counts_none rank none =
      let handed : count_at seen.handed rank ≡ 0 = count_of_none (λ walk. walk.handed) walks rank none in
      let made : count_at seen.made rank ≡ 0 = count_of_none made_by walks rank none in
      omega (arith, handed, made)

  pub waiting_at : (rank : ℕ) (walk : Walk) → slice_get walks rank ≡ Some walk → IsFit seen.run seen.choice → walk.list.records ≡ calls_waiting seen rank
  waiting_at rank walk at fit =
      let handed : count_at seen.handed rank ≡ walk.handed = count_of_walk (λ walk. walk.handed) walks rank walk at in
      let made : count_at seen.made rank ≡ made_by walk = count_of_walk made_by walks rank walk at in
      waiting_are (list_at seen rank) walk (rank_part ranks journals choice kept walks is fit rank walk at)
      ∙ sym (ap (λ n. take (n - count_at seen.handed rank) (drop (count_at seen.handed rank) (calls_at seen rank))) made
      ∙ ap (λ n. take (made_by walk - n) (drop n (calls_at seen rank))) handed)

  pub line_of_walk : (rank : ℕ) (walk : Walk) (place : ℕ) → slice_get walks rank ≡ Some walk → IsFit seen.run seen.choice → count_at seen.before rank ≤ place → place < count_at seen.made rank
      → walk.line ≡ line_at (list_at seen rank) place
  line_of_walk rank walk place at fit from within =
      let before : count_at seen.before rank ≡ walk.before = count_of_walk (λ walk. walk.before) walks rank walk at in
      let made : count_at seen.made rank ≡ made_by walk = count_of_walk made_by walks rank walk at in
      let part = rank_part ranks journals choice kept walks is fit rank walk at in
      sym (part.has.lines place (omega (arith, from, before))
      (omega (arith, within, made, part.count, length-append part.handed walk.list.records)))

  none_past : (rank : ℕ) → slice_get walks rank ≡ None → length seen.run ≤ rank
  none_past rank none = by_order (cases_lt rank (length walks))
    where
      by_order : (rank < length walks) ⊎ (length walks ≤ rank) → length seen.run ≤ rank
      by_order (inl within) = let some = get_some walks rank within in absurd (cc (none, some.1))
      by_order (inr past) = omega (arith, past, is.walks_are, length-map journals (option_map journal_in))

  pub no_rank : (rank : ℕ) → slice_get walks rank ≡ None → rank < length seen.run → ⊥
  no_rank rank none h = omega (arith, h, none_past rank none)

  pub left_at_walk : (rank : ℕ) (walk : Walk) → slice_get walks rank ≡ Some walk → walk.is_over ≡ (count_at seen.left rank == 0)
  left_at_walk rank walk at =
      let has = walk_at journals walks rank is.walks_are (omega (arith, slice_get_within walks rank walk at, is.walks_are, length-map journals (option_map journal_in))) in
      let same : has.walk ≡ walk = cc (at, has.at) in
      sym (ap (λ n. n == 0) (has.left ∙ ap (λ it. left_by (has.journal, it)) same) ∙ over_is walk.is_over _)

  pub left_at_none : (rank : ℕ) → slice_get walks rank ≡ None → true ≡ (count_at seen.left rank == 0)
  left_at_none rank none =
      let past : slice_get (zip journals walks) rank ≡ None =
      slice_get_past (zip journals walks) rank (omega (arith, zip_count journals walks is.walks_are, none_past rank none, length-map journals (option_map journal_in))) in
      sym (ap (λ n. n == 0) (ap (λ it. unwrap_or it 0) (slice_get-map left_by (zip journals walks) rank ∙ ap (option_map left_by) past)))

  -- of a rank whose list has ended, if there is one, nothing is left
  pub none_is_left : (rank : ℕ) → ((walk : Walk) → slice_get walks rank ≡ Some walk → walk.is_over ≡ true) → count_at seen.left rank ≡ 0
  none_is_left rank over = by_walk (slice_get walks rank) refl
    where
      by_walk : (it : Option Walk) → slice_get walks rank ≡ it → count_at seen.left rank ≡ 0
      by_walk None at = eqb-true (count_at seen.left rank) 0 (sym (left_at_none rank at))
      by_walk (Some walk) at = eqb-true (count_at seen.left rank) 0 (sym (left_at_walk rank walk at) ∙ over walk at)

  pub left_of_walk : (rank : ℕ) (walk : Walk) → slice_get walks rank ≡ Some walk → IsFit seen.run seen.choice → count_at seen.left rank ≡ 0 → walk.left ≡ left_in (list_at seen rank)
  left_of_walk rank walk at fit none =
      let over : walk.is_over ≡ true = left_at_walk rank walk at ∙ ap (λ n. n == 0) none in
      ((rank_part ranks journals choice kept walks is fit rank walk at).over over).1

  pub freed_of_walk : (rank place : ℕ) (walk : Walk) → slice_get walks rank ≡ Some walk → IsFit seen.run seen.choice → (rank < length seen.run → count_at seen.left rank ≡ 0)
      → has_place walk.list.freed place ≡ starts_freed seen.run rank (list_at seen rank) place
  freed_of_walk rank place walk at fit none =
      let within : rank < length seen.run = omega (arith, slice_get_within walks rank walk at, is.walks_are, length-map journals (option_map journal_in)) in
      let over : walk.is_over ≡ true = left_at_walk rank walk at ∙ ap (λ n. n == 0) (none within) in
      let one = is.have.are fit rank walk at in
      subst (λ (n : ℕ). HasPlaces (is_freed (lines_at seen.run n)) (list_of seen.run seen.choice n).records walk.list.freed) one.rank_is (one.is.freed over) place

  -- what is known of a list that has ended
  known_of_walk : (rank : ℕ) (walk : Walk) → slice_get walks rank ≡ Some walk → IsFit seen.run seen.choice → count_at seen.left rank ≡ 0
      → (walk.rank ≡ rank) × IsKnown seen.run seen.choice walk
  known_of_walk rank walk at fit none =
      let over : walk.is_over ≡ true = left_at_walk rank walk at ∙ ap (λ n. n == 0) none in
      let one = is.have.are fit rank walk at in
      (one.rank_is, one.is.known over)

  pub sinks_of_walk : (rank : ℕ) (walk : Walk) → slice_get walks rank ≡ Some walk → IsFit seen.run seen.choice → count_at seen.left rank ≡ 0
      → walk.sinks.all.items ≡ sinks_of (list_at seen rank)
  sinks_of_walk rank walk at fit none =
      let known = known_of_walk rank walk at fit none in known.1.sinks ∙ ap (λ (n : ℕ). sinks_of (list_at seen n)) known.0

  pub pending_of_walk : (rank : ℕ) (walk : Walk) → slice_get walks rank ≡ Some walk → IsFit seen.run seen.choice → count_at seen.left rank ≡ 0
      → pending_said walk.pending ≡ pending_of seen.run seen.choice rank
  pending_of_walk rank walk at fit none =
      let known = known_of_walk rank walk at fit none in known.1.pending ∙ ap (λ (n : ℕ). pending_of seen.run seen.choice n) known.0

  pub left_out_of_walk : (rank : ℕ) (walk : Walk) → slice_get walks rank ≡ Some walk → IsFit seen.run seen.choice → count_at seen.left rank ≡ 0
      → map (left_said rank) walk.left_out.items ≡ flat_map (left_told rank (list_at seen rank)) (list_at seen rank).records
  left_out_of_walk rank walk at fit none =
      let known = known_of_walk rank walk at fit none in
      subst (λ (n : ℕ). map (left_said n) walk.left_out.items ≡ flat_map (left_told n (list_at seen n)) (list_at seen n).records) known.0 known.1.left_out

  -- without a list there is no line either
  pub freed_of_none : (rank place : ℕ) → slice_get walks rank ≡ None → false ≡ starts_freed seen.run rank (list_at seen rank) place
  freed_of_none rank place none =
      let no_journal : slice_get seen.run rank ≡ None = slice_get_past seen.run rank (none_past rank none) in
      let no_line : lines_at seen.run rank ≡ [] = rw no_journal refl in
      sym (ap (λ (lines : List Line). starts_one_of (is_freed lines) (slice_get (list_at seen rank).records place)) no_line
      ∙ none_of (slice_get (list_at seen rank).records place))
    where
      none_by : (id : Option Id) → option_map_or (is_freed []) id false ≡ false
      none_by None = refl
      none_by (Some id) = refl

      none_of : (it : Option Written) → starts_one_of (is_freed []) it ≡ false
      none_of None = refl
      none_of (Some it) = none_by it.starts

  -- no list has more left than a number can say
  pub left_few : (rank : ℕ) → count_at seen.left rank < 4294967296
  left_few rank = by_order (cases_lt rank (length walks))
    where
      same_journal : (journal : Option JournalRead) → slice_get journals rank ≡ Some journal → lines_at seen.run rank ≡ lines_in (option_map journal_in journal)
      same_journal journal e = ap lines_in (journal_of_rank journals rank journal e)

      few_left : (b : Bool) (n next : ℕ) → n ≤ 4294967292 → (if b then 0 else n - next + 1) < 4294967296
      few_left true n next h = omega arith
      few_left false n next h = omega (arith, h)

      by_order : (rank < length walks) ⊎ (length walks ≤ rank) → count_at seen.left rank < 4294967296
      by_order (inl within) =
          let has = walk_at journals walks rank is.walks_are (omega (arith, within, is.walks_are, length-map journals (option_map journal_in))) in
          let few : length (lines_in (option_map journal_in has.journal)) ≤ 4294967292 =
          subst (λ (lines : List Line). length lines ≤ 4294967292) (same_journal has.journal has.journal_at) (is.few rank) in
          rw has.left (few_left has.walk.is_over _ has.walk.next few)
      by_order (inr past) =
          let none : count_at seen.left rank ≡ 0 =
          ap (λ it. unwrap_or it 0)
          (slice_get_past (map left_by (zip journals walks)) rank
          (omega (arith, past, length-map (zip journals walks) left_by, zip_count journals walks is.walks_are, is.walks_are))) in
          omega (arith, none)
