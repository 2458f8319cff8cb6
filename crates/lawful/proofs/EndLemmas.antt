-- How lists end: with Finalize where the journal was gone through, else open.
use Rattle.std.proofs.Common.{◌≡◌, ℕ, ◌-◌, ◌<◌, ◌&&◌, Bool, true, false, if◌then◌else◌, Option, Some, None, List, [], ◌∷◌, ◌++◌, length, take, refl, sym, ap, subst, ◌∙◌}
use Rattle.std.specs.Prelude.{⊤, is_none, nat_lt, slice_get}
use Rattle.std.specs.List.{list_all, list_any}
use Rattle.std.proofs.lemmas.Bool.{and_parts, false≢true, lt-ltb, ltb-true}
use Rattle.std.proofs.lemmas.Option.{none-some}
use Rattle.mpicall.specs.declared.call.Call.TheVariants.{Finalize, Open}
use Rattle.journals.specs.Journal.{Journal}
use Rattle.closing.specs.Entries.{Run, Placed, journal_at, entries_in, entries_at}
use Rattle.closing.specs.Entry.{Choice, steps_of}
use Rattle.closing.specs.Endings.{why_at}
use Rattle.closing.specs.Numbers.{preface_of}
use Rattle.closing.specs.Steps.{Written, Step, WaitsForLate, Progress, after_steps}
use Rattle.closing.specs.Recording.{Listed, is_end, steps_before, outcome_by, outcome_in, go_on, list_from, progress_first, whole_list, list_of, most_records, line_of, cut, without_journal}
use Rattle.closing.specs.Sinks.{Outcome, GoesOn, Ends}
use Rattle.closing.specs.declared.choice.Unreported.TheVariants as unreported
use Rattle.closing.specs.declared.why.Why.{Why}
use Rattle.closing.specs.declared.why.Why.TheVariants.{NoJournal, TooLong}
use Rattle.lawful.specs.Free.{AreGoneThrough, EachFinalizeIsAnEnd, EachFinalizeIsListedThrough, WhatIsGoneThroughEnds, WhatIsLeftIsOpen, WhatIsNotLeftIsAnEnd, why_of}
use Rattle.lawful.proofs.NoSinks.{NoSinks, none_plain, same_without, steps_none, steps_not}
use Rattle.lawful.proofs.SinkCases.{awaits_no_end, by_lists, in_as_of, in_passes}

pub open_no_end : Open ≡ Finalize → ⊥
open_no_end h = cc

abbrev pub goes_on : Run → Placed → Bool
goes_on run placed = is_none (why_at run placed)

-- an entry, by why it ends the list and by whether it is the end
abbrev pub entry_list : Run → Choice → Placed → List Placed → Progress → Option Why → Listed
entry_list run choice placed others progress o =
    go_on progress placed.line (outcome_by run choice placed o) (λ new. list_from run choice new others)

abbrev pub end_list : Run → Choice → Placed → List Placed → Progress → Bool → Listed
end_list run choice placed others progress b =
    go_on progress placed.line (if b then Ends (WaitsForLate ∷ []) Finalize None else GoesOn (steps_of run choice placed)) (λ new. list_from run choice new others)

-- ---- From the end ----

gone_first : (run : Run) (placed : Placed) (others : List Placed) → is_end placed.called ≡ true → why_at run placed ≡ None → AreGoneThrough run (placed ∷ others)
gone_first run placed others ends why = record {
  before = [];
  last = placed;
  after = others;
  are = refl;
  ends = ends;
  none_breaks = subst (λ (o : Option Why). (is_none o && true) ≡ true) (sym why) refl;
}

gone_next : (run : Run) (placed : Placed) (others : List Placed) → why_at run placed ≡ None → AreGoneThrough run others → AreGoneThrough run (placed ∷ others)
gone_next run placed others why gone = record {
  before = placed ∷ gone.before;
  last = gone.last;
  after = gone.after;
  are = ap (λ (all : List Placed). placed ∷ all) gone.are;
  ends = gone.ends;
  none_breaks = subst (λ (o : Option Why). (is_none o && list_all (goes_on run) (gone.before ++ gone.last ∷ [])) ≡ true) (sym why) gone.none_breaks;
}

abbrev Rest : Run → Choice → List Placed → Type 0
Rest run choice others = (new : Progress) → (list_from run choice new others).end ≡ Finalize → AreGoneThrough run others

through_if : (run : Run) (choice : Choice) (placed : Placed) (others : List Placed) (progress : Progress) (b : Bool) → is_end placed.called ≡ b → why_at run placed ≡ None → (end_list run choice placed others progress b).end ≡ Finalize → Rest run choice others → AreGoneThrough run (placed ∷ others)
through_if run choice placed others progress true ends is h rest = gone_first run placed others ends is
through_if run choice placed others progress false ends is h rest =
    gone_next run placed others is (rest (after_steps progress placed.line (steps_of run choice placed)) h)

through_by : (run : Run) (choice : Choice) (placed : Placed) (others : List Placed) (progress : Progress) (o : Option Why) → why_at run placed ≡ o → (entry_list run choice placed others progress o).end ≡ Finalize → Rest run choice others → AreGoneThrough run (placed ∷ others)
through_by run choice placed others progress (Some why) is h rest = absurd (open_no_end h)
through_by run choice placed others progress None is h rest =
    through_if run choice placed others progress (is_end placed.called) refl is h rest

went_through : (run : Run) (choice : Choice) (entries : List Placed) (progress : Progress) → choice.unreported ≡ unreported.Ends → (list_from run choice progress entries).end ≡ Finalize → AreGoneThrough run entries
went_through run choice [] progress without h = absurd (open_no_end h)
went_through run choice (placed ∷ others) progress without h =
    through_by run choice placed others progress (why_at run placed) refl
    (subst (λ (outcome : Outcome). (go_on progress placed.line outcome (λ new. list_from run choice new others)).end ≡ Finalize)
    (in_as_of run choice progress.records placed without) h)
    (λ new is. went_through run choice others new without is)

-- ---- To the end ----

pub none_of : (o : Option Why) → is_none o ≡ true → o ≡ None
none_of None is = refl
none_of (Some why) is = absurd (false≢true is)

-- an entry at which a list without sinks goes on
pub next_of : (run : Run) (choice : Choice) (placed : Placed) (others : List Placed) (progress : Progress) → NoSinks progress.records → why_at run placed ≡ None → list_from run choice progress (placed ∷ others) ≡ end_list run choice placed others progress (is_end placed.called)
next_of run choice placed others progress none is =
    ap (λ (outcome : Outcome). go_on progress placed.line outcome (λ new. list_from run choice new others)) (same_without run choice progress.records placed none is)
    ∙ ap (λ (o : Option Why). entry_list run choice placed others progress o) is

next_if : (run : Run) (choice : Choice) (placed : Placed) (others : List Placed) (progress : Progress) (b : Bool) → (list_from run choice (after_steps progress placed.line (steps_of run choice placed)) others).end ≡ Finalize → (end_list run choice placed others progress b).end ≡ Finalize
next_if run choice placed others progress true rest = refl
next_if run choice placed others progress false rest = rest

pub ends_through : (run : Run) (choice : Choice) (before : List Placed) (last : Placed) (after : List Placed) (progress : Progress) → NoSinks progress.records → is_end last.called ≡ true → list_all (goes_on run) (before ++ last ∷ []) ≡ true → (list_from run choice progress (before ++ last ∷ after)).end ≡ Finalize
ends_through run choice [] last after progress none ends all =
    let is = none_of (why_at run last) (and_parts (goes_on run last) true all).0 in
    subst (λ (list : Listed). list.end ≡ Finalize) (sym (next_of run choice last after progress none is))
    (subst (λ (b : Bool). (end_list run choice last after progress b).end ≡ Finalize) (sym ends) refl)
ends_through run choice (placed ∷ before) last after progress none ends all =
    let parts = and_parts (goes_on run placed) (list_all (goes_on run) (before ++ last ∷ [])) all in
    let steps = steps_of run choice placed in
    subst (λ (list : Listed). list.end ≡ Finalize)
    (sym (next_of run choice placed (before ++ last ∷ after) progress none (none_of (why_at run placed) parts.0)))
    (next_if run choice placed (before ++ last ∷ after) progress (is_end placed.called)
    (ends_through run choice before last after (after_steps progress placed.line steps)
    (steps_none progress placed.line steps (steps_not run choice placed) none) ends parts.1))

pub first_none : (run : Run) (rank : ℕ) → NoSinks (progress_first run rank).records
first_none run rank = none_plain 0 (preface_of run rank)

-- ---- Lists ----

abbrev pub cut_by : Listed → Bool → Listed
cut_by it b =
    if b then it
    else record {
      records = take (most_records - 1) it.records;
      end = Open;
      line = line_of (slice_get it.records (most_records - 1));
      why = Some TooLong;
      active = it.active;
    }

cut_end : (it : Listed) (b : Bool) → nat_lt (length it.records) most_records ≡ b → (cut_by it b).end ≡ Finalize → (it.end ≡ Finalize) × (length it.records < most_records)
cut_end it true is h = (h, ltb-true (length it.records) most_records is)
cut_end it false is h = absurd (open_no_end h)

short_end : (it : Listed) → length it.records < most_records → it.end ≡ Finalize → (cut it).end ≡ Finalize
short_end it few is =
    subst (λ (b : Bool). (cut_by it b).end ≡ Finalize) (sym (lt-ltb (length it.records) most_records few)) is

same_end : (b : Bool) (it : Listed) → (without_journal b it).end ≡ it.end
same_end true it = refl
same_end false it = refl

-- a list that ends so, and is short enough
abbrev EndsShort : Listed → Type 0
EndsShort it = (it.end ≡ Finalize) × (length it.records < most_records)

finalize_parts : (run : Run) (choice : Choice) (rank : ℕ) → (list_of run choice rank).end ≡ Finalize → EndsShort (whole_list run choice rank)
finalize_parts run choice rank h =
    let whole = whole_list run choice rank in
    cut_end whole (nat_lt (length whole.records) most_records) refl (sym (same_end (is_none (journal_at run rank)) (cut whole)) ∙ h)

finalize_from : (run : Run) (choice : Choice) (rank : ℕ) (before : List Placed) (last : Placed) (after : List Placed) → entries_at run rank ≡ before ++ last ∷ after → length (whole_list run choice rank).records < most_records → (list_from run choice (progress_first run rank) (before ++ last ∷ after)).end ≡ Finalize → (list_of run choice rank).end ≡ Finalize
finalize_from run choice rank before last after are few ends =
    let whole = whole_list run choice rank in
    same_end (is_none (journal_at run rank)) (cut whole)
    ∙ short_end whole few (subst (λ (entries : List Placed). (list_from run choice (progress_first run rank) entries).end ≡ Finalize) (sym are) ends)

pub what_is_gone_through_ends : WhatIsGoneThroughEnds
what_is_gone_through_ends run choice rank gone few =
    finalize_from run choice rank gone.before gone.last gone.after gone.are few
    (ends_through run choice gone.before gone.last gone.after (progress_first run rank) (first_none run rank) gone.ends gone.none_breaks)

pub each_finalize_is_an_end : EachFinalizeIsAnEnd
each_finalize_is_an_end run choice rank without = (
  λ h. let parts = finalize_parts run choice rank h in
      (went_through run choice (entries_at run rank) (progress_first run rank) without parts.0, parts.1),
  λ both. what_is_gone_through_ends run choice rank both.0 both.1,
)

-- ---- With sinks ----

-- what comes of an entry passes a test, if these do: the list goes on or is left open, or the rank's program ends
record PassEnds (run : Run) (placed : Placed) (P : Outcome → Type 0) : Type 0 where
  goes : (steps : List Step) → is_end placed.called ≡ false → P (GoesOn steps)
  left : (steps : List Step) (why : Why) → P (Ends steps Open (Some why))
  over : is_end placed.called ≡ true → P (Ends (WaitsForLate ∷ []) Finalize None)

ends_pass : (run : Run) (choice : Choice) (records : List Written) (placed : Placed) (P : Outcome → Type 0) → PassEnds run placed P → P (outcome_in run choice records placed)
ends_pass run choice records placed P pass =
    in_passes run choice records placed P (of_why (why_at run placed))
    (by_lists run placed (λ steps. ⊤) P (λ steps is awaits. pass.goes steps (awaits_no_end placed.called awaits)) (λ steps why is. pass.left steps why)
    (record {
      nothing = tt;
      alone = λ wanted is own. tt;
      both = λ wanted is sent awaited called. tt;
      halves = λ wanted is request received sent awaited called. tt;
    }))
  where
    of_end : (b : Bool) → is_end placed.called ≡ b → P (if b then Ends (WaitsForLate ∷ []) Finalize None else GoesOn (steps_of run choice placed))
    of_end true is = pass.over is
    of_end false is = pass.goes (steps_of run choice placed) is

    of_why : (o : Option Why) → P (outcome_by run choice placed o)
    of_why (Some why) = pass.left (steps_before run choice placed placed.called why) why
    of_why None = of_end (is_end placed.called) refl

heads : {A : Type 0} (x y : A) (xs ys : List A) → x ∷ xs ≡ y ∷ ys → x ≡ y
heads x y xs ys h = cc

tails : {A : Type 0} (x y : A) (xs ys : List A) → x ∷ xs ≡ y ∷ ys → xs ≡ ys
tails x y xs ys h = cc

not_empty : {A : Type 0} (xs : List A) (y : A) (ys : List A) → [] ≡ xs ++ y ∷ ys → ⊥
not_empty [] y ys h = cc
not_empty (x ∷ xs) y ys h = cc

-- none of some entries ends a list that got so far
abbrev NoneEnd : Run → Choice → Progress → List Placed → Type 0
NoneEnd run choice progress entries =
    (earlier : List Placed) (placed : Placed) (later : List Placed) → entries ≡ earlier ++ placed ∷ later →
    why_of (outcome_in run choice (list_from run choice progress earlier).records placed) ≡ None

record Through (run : Run) (choice : Choice) (progress : Progress) (entries : List Placed) : Type 0 where
  before : List Placed
  last : Placed
  after : List Placed
  are : entries ≡ before ++ last ∷ after
  ends : is_end last.called ≡ true
  none_end : NoneEnd run choice progress (before ++ last ∷ [])

list_goes_on : (run : Run) (choice : Choice) (placed : Placed) (others : List Placed) (progress : Progress) (steps : List Step) → outcome_in run choice progress.records placed ≡ GoesOn steps → list_from run choice progress (placed ∷ others) ≡ list_from run choice (after_steps progress placed.line steps) others
list_goes_on run choice placed others progress steps is =
    ap (λ (outcome : Outcome). go_on progress placed.line outcome (λ new. list_from run choice new others)) is

one_ends : (run : Run) (choice : Choice) (placed : Placed) (progress : Progress) → why_of (outcome_in run choice progress.records placed) ≡ None → NoneEnd run choice progress (placed ∷ [])
one_ends run choice placed progress none [] one later same =
    subst (λ (p : Placed). why_of (outcome_in run choice progress.records p) ≡ None) (heads placed one [] later same) none
one_ends run choice placed progress none (first ∷ earlier) one later same =
    absurd (not_empty earlier one later (tails placed first [] (earlier ++ one ∷ later) same))

more_end : (run : Run) (choice : Choice) (placed : Placed) (others : List Placed) (progress : Progress) (steps : List Step) → outcome_in run choice progress.records placed ≡ GoesOn steps → NoneEnd run choice (after_steps progress placed.line steps) others → NoneEnd run choice progress (placed ∷ others)
more_end run choice placed others progress steps is none [] one later same =
    subst (λ (p : Placed). why_of (outcome_in run choice progress.records p) ≡ None) (heads placed one others later same) (ap why_of is)
more_end run choice placed others progress steps is none (first ∷ earlier) one later same =
    subst (λ (p : Placed). why_of (outcome_in run choice (list_from run choice progress (p ∷ earlier)).records one) ≡ None)
    (heads placed first others (earlier ++ one ∷ later) same)
    (ap (λ (list : Listed). why_of (outcome_in run choice list.records one)) (list_goes_on run choice placed earlier progress steps is)
    ∙ none earlier one later (tails placed first others (earlier ++ one ∷ later) same))

fewer_end : (run : Run) (choice : Choice) (placed : Placed) (others : List Placed) (progress : Progress) (steps : List Step) → outcome_in run choice progress.records placed ≡ GoesOn steps → NoneEnd run choice progress (placed ∷ others) → NoneEnd run choice (after_steps progress placed.line steps) others
fewer_end run choice placed others progress steps is none earlier one later same =
    sym (ap (λ (list : Listed). why_of (outcome_in run choice list.records one)) (list_goes_on run choice placed earlier progress steps is))
    ∙ none (placed ∷ earlier) one later (ap (λ (all : List Placed). placed ∷ all) same)

through : (run : Run) (choice : Choice) (entries : List Placed) (progress : Progress) → (list_from run choice progress entries).end ≡ Finalize → Through run choice progress entries
through run choice [] progress h = absurd (open_no_end h)
through run choice (placed ∷ others) progress h =
    ends_pass run choice progress.records placed
    (λ outcome. outcome_in run choice progress.records placed ≡ outcome →
    (go_on progress placed.line outcome (λ new. list_from run choice new others)).end ≡ Finalize → Through run choice progress (placed ∷ others))
    (record {
      goes = λ steps not_end is ends.
          let rest = through run choice others (after_steps progress placed.line steps) ends in
          record {
            before = placed ∷ rest.before;
            last = rest.last;
            after = rest.after;
            are = ap (λ (all : List Placed). placed ∷ all) rest.are;
            ends = rest.ends;
            none_end = more_end run choice placed (rest.before ++ rest.last ∷ []) progress steps is rest.none_end;
          };
      left = λ steps why is ends. absurd (open_no_end ends);
      over = λ is_last is ends. record {
        before = [];
        last = placed;
        after = others;
        are = refl;
        ends = is_last;
        none_end = one_ends run choice placed progress (ap why_of is);
      };
    }) refl h

to_end : (run : Run) (choice : Choice) (before : List Placed) (last : Placed) (after : List Placed) (progress : Progress) → is_end last.called ≡ true → NoneEnd run choice progress (before ++ last ∷ []) → (list_from run choice progress (before ++ last ∷ after)).end ≡ Finalize
to_end run choice [] last after progress ends none =
    ends_pass run choice progress.records last
    (λ outcome. why_of outcome ≡ None → (go_on progress last.line outcome (λ new. list_from run choice new after)).end ≡ Finalize)
    (record {
      goes = λ steps not_end is. absurd (false≢true (sym not_end ∙ ends));
      left = λ steps why is. absurd (none-some why (sym is));
      over = λ is_last is. refl;
    }) (none [] last [] refl)
to_end run choice (placed ∷ before) last after progress ends none =
    ends_pass run choice progress.records placed
    (λ outcome. outcome_in run choice progress.records placed ≡ outcome → why_of outcome ≡ None →
    (go_on progress placed.line outcome (λ new. list_from run choice new (before ++ last ∷ after))).end ≡ Finalize)
    (record {
      goes = λ steps not_end is goes.
          to_end run choice before last after (after_steps progress placed.line steps) ends
          (fewer_end run choice placed (before ++ last ∷ []) progress steps is none);
      left = λ steps why is goes. absurd (none-some why (sym goes));
      over = λ is_last is goes. refl;
    }) refl (none [] placed (before ++ last ∷ []) refl)

pub each_finalize_is_listed_through : EachFinalizeIsListedThrough
each_finalize_is_listed_through run choice rank = (
  λ h. let parts = finalize_parts run choice rank h in
      let gone = through run choice (entries_at run rank) (progress_first run rank) parts.0 in
      (record { before = gone.before; last = gone.last; after = gone.after; are = gone.are; ends = gone.ends; none_ends = gone.none_end }, parts.1),
  λ both. let gone = both.0 in
      finalize_from run choice rank gone.before gone.last gone.after gone.are both.1
      (to_end run choice gone.before gone.last gone.after (progress_first run rank) gone.ends gone.none_ends),
)

-- ---- What is left ----

abbrev LeftIsOpen : Listed → Type 0
LeftIsOpen it = (why : Why) → it.why ≡ Some why → it.end ≡ Open

left_open : (run : Run) (choice : Choice) (entries : List Placed) (progress : Progress) → LeftIsOpen (list_from run choice progress entries)
left_open run choice [] progress = λ why h. refl
left_open run choice (placed ∷ others) progress =
    ends_pass run choice progress.records placed (λ outcome. LeftIsOpen (go_on progress placed.line outcome (λ new. list_from run choice new others)))
    (record {
      goes = λ steps not_end. left_open run choice others (after_steps progress placed.line steps);
      left = λ steps it why h. refl;
      over = λ is_last why h. absurd (none-some why h);
    })

cut_left : (it : Listed) (b : Bool) → LeftIsOpen it → LeftIsOpen (cut_by it b)
cut_left it true left = left
cut_left it false left = λ why h. refl

cut_open : (it : Listed) (b : Bool) → it.end ≡ Open → (cut_by it b).end ≡ Open
cut_open it true is = is
cut_open it false is = refl

without_left : (o : Option Journal) (it : Listed) → (o ≡ None → it.end ≡ Open) → LeftIsOpen it → LeftIsOpen (without_journal (is_none o) it)
without_left None it bare left why h = bare refl
without_left (Some journal) it bare left why h = left why h

bare_open : (run : Run) (choice : Choice) (rank : ℕ) → journal_at run rank ≡ None → (whole_list run choice rank).end ≡ Open
bare_open run choice rank is =
    subst (λ (o : Option Journal). (list_from run choice (progress_first run rank) (entries_in rank o)).end ≡ Open) (sym is) refl

pub what_is_left_is_open : WhatIsLeftIsOpen
what_is_left_is_open run choice rank =
    let whole = whole_list run choice rank in
    let short = nat_lt (length whole.records) most_records in
    without_left (journal_at run rank) (cut whole)
    (λ is. cut_open whole short (bare_open run choice rank is))
    (cut_left whole short (left_open run choice (entries_at run rank) (progress_first run rank)))

-- ---- What isn't left ----

abbrev NotLeft : List Placed → Listed → Type 0
NotLeft entries it = it.why ≡ None → list_any (λ (placed : Placed). is_end placed.called) entries ≡ true → it.end ≡ Finalize

not_left : (run : Run) (choice : Choice) (entries : List Placed) (progress : Progress) → NotLeft entries (list_from run choice progress entries)
not_left run choice [] progress = λ none has. absurd (false≢true has)
not_left run choice (placed ∷ others) progress =
    ends_pass run choice progress.records placed (λ outcome. NotLeft (placed ∷ others) (go_on progress placed.line outcome (λ new. list_from run choice new others)))
    (record {
      goes = λ steps not_end none has. not_left run choice others (after_steps progress placed.line steps) none (rw not_end at has);
      left = λ steps why none has. absurd (none-some why (sym none));
      over = λ is_last none has. refl;
    })

cut_not_left : (entries : List Placed) (it : Listed) (b : Bool) → NotLeft entries it → NotLeft entries (cut_by it b)
cut_not_left entries it true goes = goes
cut_not_left entries it false goes = λ none has. absurd (none-some TooLong (sym none))

bare_not_left : (entries : List Placed) (b : Bool) (it : Listed) → NotLeft entries it → NotLeft entries (without_journal b it)
bare_not_left entries true it goes = λ none has. absurd (none-some NoJournal (sym none))
bare_not_left entries false it goes = goes

pub what_is_not_left_is_an_end : WhatIsNotLeftIsAnEnd
what_is_not_left_is_an_end run choice rank =
    let whole = whole_list run choice rank in
    let entries = entries_at run rank in
    bare_not_left entries (is_none (journal_at run rank)) (cut whole)
    (cut_not_left entries whole (nat_lt (length whole.records) most_records) (not_left run choice entries (progress_first run rank)))
