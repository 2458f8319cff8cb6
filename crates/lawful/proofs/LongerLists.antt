-- What a list has so far stays when its journal goes on.
use Rattle.std.proofs.Common.{◌≡◌, ◌⊎◌, ℕ, ◌&&◌, not, Bool, true, false, Option, Some, None, is_none, if◌then◌else◌, List, [], ◌∷◌, ◌++◌, length, refl, sym, ap, subst, ◌∙◌, append_assoc, append-nil, inl, inr}
use Rattle.std.specs.List.{list_all}
use Rattle.std.specs.Option.{option_map_or}
use Rattle.std.proofs.lemmas.Bool.{and_parts, false≢true}
use Rattle.std.proofs.lemmas.Option.{none-some}
use Rattle.mpicall.specs.Word.{or_else}
use Rattle.mpicall.specs.declared.call.Call.{Call}
use Rattle.mpicall.specs.declared.call.Mode.TheVariants.{Standard}
use Rattle.journals.specs.Lines.{Line}
use Rattle.journals.specs.Known.{has_report, report_of}
use Rattle.journals.specs.declared.word.ReportWord.TheVariants as report
use Rattle.closing.specs.Called.{Called, Sent, Awaited, StartsExchange, Duplicates, Splits, Makes}
use Rattle.closing.specs.Keys.{Key}
use Rattle.closing.specs.RankComms.{Wave, makes_comm}
use Rattle.closing.specs.Entries.{Run, Placed, entries_at, is_window}
use Rattle.closing.specs.Numbers.{named_key, number_of}
use Rattle.closing.specs.Reported.{Message, is_gone}
use Rattle.closing.specs.Steps.{Own, Step, Does, Starts, WaitsForLate, Written, Progress, plain as written, after_step, after_steps}
use Rattle.closing.specs.Endings.{breaks_off, can_be, first_of, is_unknown, is_unreported, lacks_number, message_at, needs_number, number_at, why_at}
use Rattle.closing.specs.Entry.{Choice, Here, here_at, start_send, start_receive, brings, maker, starts, knowing, on_comm, steps_by, steps_of}
use Rattle.closing.specs.Recording.{Listed, is_end, steps_before, go_on, list_from, progress_first, whole_list}
use Rattle.closing.specs.Sinks.{Outcome}
use Rattle.closing.specs.declared.choice.Calls.TheVariants.{Strict}
use Rattle.closing.specs.declared.choice.Unreported.TheVariants as unreported
use Rattle.closing.specs.declared.why.Why.{Why}
use Rattle.closing.specs.declared.why.Why.TheVariants.{NeverCameBack, NeverReported, Failed, NoNumber, CannotBe}
use Rattle.lawful.specs.Laws.{IsRead}
use Rattle.lawful.specs.Longer.{IsKept, AllKept, Begins, BeginsButLast, IsWithoutSinks, Stays, last_is_silent, WhatIsToldStays}
use Rattle.lawful.specs.LongerTold.{IsToldMore, WhatIsToldBetweenStays}
use Rattle.lawful.proofs.SinkCases.{in_as_of}
use Rattle.lawful.proofs.NoSinks.{NoSinks, steps_none, steps_not}
use Rattle.lawful.proofs.EndLemmas.{entry_list, end_list, first_none, goes_on, next_of, none_of}
use Rattle.lawful.proofs.WalkLemmas.{breaks_none}
use Rattle.lawful.proofs.SoFarLemmas.{grows_both, steps_grow, list_grows}
use Rattle.lawful.proofs.NewNumbers.{Numbers}
use Rattle.lawful.proofs.LongerLemmas.{StaysOf, More, with_more, IsOver, AreLater, entries_later, with_lines, same_lines, told_more}
use Rattle.lawful.proofs.LongerLines.{as_many, lists_same}
use Rattle.lawful.proofs.LongerSteps.{kept_line, over_there, parts_of, number_same, can_stay, why_stays, steps_stay}
use Rattle.lawful.proofs.LongerWaves.{waves_same}
use Rattle.lawful.proofs.LongerWindows.{window_still}
use Rattle.lawful.proofs.LongerMakers.{over_maker, told_maker, maker_makes}

-- both runs have the same of communicators
record Both (run longer : Run) (choice : Choice) : Type 0 where
  strict : choice.calls ≡ Strict
  ranks : length longer ≡ length run
  numbers : (key : Key) → number_of longer key ≡ number_of run key
  waves : (wave : Wave) → brings longer wave ≡ brings run wave
  windows : is_window run ≡ true → is_window longer ≡ true

-- ---- The next entry ----

next_by : (run : Run) (choice : Choice) (placed : Placed) (others : List Placed) (progress : Progress) (o : Option Why) → choice.unreported ≡ unreported.Ends → why_at run placed ≡ o → list_from run choice progress (placed ∷ others) ≡ entry_list run choice placed others progress o
next_by run choice placed others progress o without why =
    ap (λ (outcome : Outcome). go_on progress placed.line outcome (λ new. list_from run choice new others)) (in_as_of run choice progress.records placed without)
    ∙ ap (λ (other : Option Why). entry_list run choice placed others progress other) why

next_if : (run : Run) (choice : Choice) (placed : Placed) (others : List Placed) (progress : Progress) (b : Bool) → NoSinks progress.records → why_at run placed ≡ None → is_end placed.called ≡ b → list_from run choice progress (placed ∷ others) ≡ end_list run choice placed others progress b
next_if run choice placed others progress b none why ends =
    next_of run choice placed others progress none why ∙ ap (λ (end : Bool). end_list run choice placed others progress end) ends

begins_as : (old new one other : List Written) → old ≡ one → new ≡ other → Begins one other → Begins old new
begins_as old new one other is also begins =
    (begins.0, also ∙ begins.1 ∙ ap (λ (records : List Written). records ++ begins.0) (sym is))

same_begins : (records : List Written) → Begins records records
same_begins records = ([], sym (append-nil records))

pub steps_append : (progress : Progress) (line : ℕ) (one two : List Step) → after_steps progress line (one ++ two) ≡ after_steps (after_steps progress line one) line two
steps_append progress line [] two = refl
steps_append progress line (step ∷ one) two = steps_append (after_step progress line step) line one two

-- ---- An entry that ends the list ----

reported_parts : (o : Option Why) (a b c d e : Bool) → o ≡ None → or_else o (first_of ((a, Failed) ∷ (b, CannotBe) ∷ (c, NoNumber) ∷ (d, NeverReported) ∷ (e, NeverCameBack) ∷ [])) ≡ Some NeverReported → (a ≡ false) × (b ≡ false) × (c ≡ false) × (d ≡ true)
reported_parts (Some why) a b c d e none h = absurd (none-some why (sym none))
reported_parts None true b c d e none h = absurd (apart h)
  where
    apart : Some Failed ≡ Some NeverReported → ⊥
    apart h = cc
reported_parts None false true c d e none h = absurd (apart h)
  where
    apart : Some CannotBe ≡ Some NeverReported → ⊥
    apart h = cc
reported_parts None false false true d e none h = absurd (apart h)
  where
    apart : Some NoNumber ≡ Some NeverReported → ⊥
    apart h = cc
reported_parts None false false false true e none h = (refl, refl, refl, refl)
reported_parts None false false false false true none h = absurd (apart h)
  where
    apart : Some NeverCameBack ≡ Some NeverReported → ⊥
    apart h = cc
reported_parts None false false false false false none h = absurd (none-some NeverReported h)

abbrev reported_if : Bool → Option Why
reported_if b = if b then Some NeverReported else None

reported_by : (a b c d e : Bool) → a ≡ false → b ≡ false → c ≡ false → e ≡ false → first_of ((a, Failed) ∷ (b, CannotBe) ∷ (c, NoNumber) ∷ (d, NeverReported) ∷ (e, NeverCameBack) ∷ []) ≡ reported_if d
reported_by a b c true e well can numbered known = rw (well, can, numbered) refl
reported_by a b c false e well can numbered known = rw (well, can, numbered, known) refl

some_number : (o : Option ℕ) → is_none o ≡ false → (number : ℕ) × (o ≡ Some number)
some_number None h = absurd (false≢true (sym h))
some_number (Some number) h = (number, refl)

none_message : (o : Option Message) (b : Bool) → (is_none o && b) ≡ true → o ≡ None
none_message None b h = refl
none_message (Some m) b h = absurd (false≢true h)

abbrev send_if : ℕ → ℕ → Sent → Bool → List Step
send_if comm request sent gone = if gone then [] else Starts (Own request) (start_send Standard comm sent) ∷ []

abbrev receive_of : Run → Choice → Placed → ℕ → ℕ → List Step
receive_of run choice placed comm received =
    knowing (here_at run choice placed comm) (λ m. starts (here_at run choice placed comm) received (start_receive comm m))

exchange_steps : (run : Run) (choice : Choice) (placed : Placed) (comm request received : ℕ) (sent : Sent) (awaited : Awaited) → placed.called ≡ StartsExchange request received sent awaited → number_at run placed ≡ Some comm → steps_of run choice placed ≡ send_if comm request sent (is_gone placed.journal.lines request) ++ receive_of run choice placed comm received
exchange_steps run choice placed comm request received sent awaited is number =
    ap (λ (o : Option ℕ). steps_by run choice placed o) number
    ∙ ap (λ (it : Called). on_comm (here_at run choice placed comm) it) is

-- an exchange whose receive wasn't reported: its send stands there
record Unreported (run longer : Run) (choice : Choice) (placed : Placed) (it : More placed) : Type 0 where
  first : List Step
  further : List Step
  steps : steps_of run choice placed ≡ first
  later : steps_of longer choice (with_more placed it) ≡ first ++ further
  why : why_at longer (with_more placed it) ≡ reported_if (is_unreported (with_more placed it) placed.called)

exchange_parts : (run : Run) (placed : Placed) (request received : ℕ) (sent : Sent) (awaited : Awaited) → placed.called ≡ StartsExchange request received sent awaited → why_at run placed ≡ Some NeverReported → (has_report report.Failed placed.entry ≡ false) × (not (can_be run placed) ≡ false) × (lacks_number run placed ≡ false) × (is_unreported placed placed.called ≡ true)
exchange_parts run placed request received sent awaited is why =
    reported_parts (breaks_off (is_window run) placed.called) (has_report report.Failed placed.entry) (not (can_be run placed)) (lacks_number run placed)
    (is_unreported placed placed.called) (is_unknown placed placed.called) (ap (λ (it : Called). breaks_off (is_window run) it) is) why

exchange_later : (run longer : Run) (choice : Choice) (placed : Placed) (it : More placed) (request received : ℕ) (sent : Sent) (awaited : Awaited) → Both run longer choice → IsKept run longer placed (with_more placed it) → placed.called ≡ StartsExchange request received sent awaited → why_at run placed ≡ Some NeverReported → Unreported run longer choice placed it
exchange_later run longer choice placed it request received sent awaited both kept is why =
    let parts = exchange_parts run placed request received sent awaited is why in
    let other = with_more placed it in
    let needs : is_none (number_at run placed) ≡ false = ap (λ (one : Called). needs_number one && is_none (number_at run placed)) (sym is) ∙ parts.2 in
    let number = some_number (number_at run placed) needs in
    let comm = number.0 in
    let same : number_at longer other ≡ number_at run placed = number_same run longer (named_key placed) both.numbers in
    let untold = none_message (message_at placed) (not (is_gone placed.journal.lines received)) (ap (λ (one : Called). is_unreported placed one) (sym is) ∙ parts.3) in
    let gone = (subst (λ (one : Called). Numbers (StaysOf placed.journal.lines it.later.lines) (StaysOf placed.journal.lines it.later.lines) (StaysOf placed.journal.lines it.later.lines) one) is it.numbers).0.gone in
    record {
      first = send_if comm request sent (is_gone placed.journal.lines request);
      further = receive_of longer choice other comm received;
      steps = exchange_steps run choice placed comm request received sent awaited is number.1
          ∙ ap (λ (o : Option Message). send_if comm request sent (is_gone placed.journal.lines request) ++ option_map_or (λ m. starts (here_at run choice placed comm) received (start_receive comm m)) o []) untold
          ∙ append-nil (send_if comm request sent (is_gone placed.journal.lines request));
      later = exchange_steps longer choice other comm request received sent awaited is (same ∙ number.1)
          ∙ ap (λ (b : Bool). send_if comm request sent b ++ receive_of longer choice other comm received) gone;
      why = ap (λ (o : Option Why). or_else o (first_of ((has_report report.Failed it.entry, Failed) ∷ (not (can_be longer other), CannotBe) ∷ (lacks_number longer other, NoNumber) ∷ (is_unreported other placed.called, NeverReported) ∷ (is_unknown other placed.called, NeverCameBack) ∷ []))) (ap (λ (one : Called). breaks_off (is_window longer) one) is)
          ∙ reported_by (has_report report.Failed it.entry) (not (can_be longer other)) (lacks_number longer other) (is_unreported other placed.called) (is_unknown other placed.called)
          (kept.failed parts.0) (can_stay run longer placed it kept parts.1)
          (ap (λ (o : Option ℕ). needs_number placed.called && is_none o) same ∙ parts.2) (ap (λ (one : Called). is_unknown other one) is);
    }

exchange_begins : (run longer : Run) (choice : Choice) (placed : Placed) (it : More placed) (others : List Placed) (progress : Progress) (request received : ℕ) (sent : Sent) (awaited : Awaited) → Both run longer choice → choice.unreported ≡ unreported.Ends → NoSinks progress.records → IsKept run longer placed (with_more placed it) → placed.called ≡ StartsExchange request received sent awaited → why_at run placed ≡ Some NeverReported → Begins (after_steps progress placed.line (steps_of run choice placed)).records (list_from longer choice progress (with_more placed it ∷ others)).records
exchange_begins run longer choice placed it others progress request received sent awaited both without none kept is why =
    let one = exchange_later run longer choice placed it request received sent awaited both kept is why in
    let steps = steps_of longer choice (with_more placed it) in
    let middle = after_steps progress placed.line one.first in
    let begins : Begins middle.records (after_steps progress placed.line steps).records =
    subst (λ (all : List Step). Begins middle.records (after_steps progress placed.line all).records) (sym one.later)
    (subst (λ (next : Progress). Begins middle.records next.records) (sym (steps_append progress placed.line one.first one.further))
    (steps_grow middle placed.line one.further)) in
    subst (λ (all : List Step). Begins (after_steps progress placed.line all).records (list_from longer choice progress (with_more placed it ∷ others)).records) (sym one.steps)
    (grows_both middle.records (after_steps progress placed.line steps).records (list_from longer choice progress (with_more placed it ∷ others)).records begins
    (by_told (is_unreported (with_more placed it) placed.called) one.why))
  where
    by_told : (b : Bool) → why_at longer (with_more placed it) ≡ reported_if b → Begins (after_steps progress placed.line (steps_of longer choice (with_more placed it))).records (list_from longer choice progress (with_more placed it ∷ others)).records
    by_told true reason =
        subst (λ (list : Listed). Begins (after_steps progress placed.line (steps_of longer choice (with_more placed it))).records list.records)
        (sym (next_by longer choice (with_more placed it) others progress (Some NeverReported) without reason))
        (subst (λ (steps : List Step). Begins (after_steps progress placed.line (steps_of longer choice (with_more placed it))).records (after_steps progress placed.line steps).records)
        (ap (λ (c : Called). steps_before longer choice (with_more placed it) c NeverReported) (sym is))
        (same_begins (after_steps progress placed.line (steps_of longer choice (with_more placed it))).records))
    by_told false reason =
        subst (λ (list : Listed). Begins (after_steps progress placed.line (steps_of longer choice (with_more placed it))).records list.records)
        (sym (next_if longer choice (with_more placed it) others progress false none reason (ap (λ (c : Called). is_end c) is)))
        (list_grows longer choice others (after_steps progress placed.line (steps_of longer choice (with_more placed it))))

breaks_begins : (run longer : Run) (choice : Choice) (placed : Placed) (it : More placed) (others : List Placed) (progress : Progress) (one : Called) (why : Why) → Both run longer choice → choice.unreported ≡ unreported.Ends → NoSinks progress.records → IsKept run longer placed (with_more placed it) → placed.called ≡ one → why_at run placed ≡ Some why → Begins (after_steps progress placed.line (steps_before run choice placed one why)).records (list_from longer choice progress (with_more placed it ∷ others)).records
breaks_begins run longer choice placed it others progress (StartsExchange request received sent awaited) NeverReported both without none kept is why =
    exchange_begins run longer choice placed it others progress request received sent awaited both without none kept is why
breaks_begins run longer choice placed it others progress _ _ both without none kept is why = list_grows longer choice (with_more placed it ∷ others) progress

-- ---- A call that may make a communicator, of which none is reported ----

pub maker_no_end : (it : Called) → makes_comm it ≡ true → is_end it ≡ false
maker_no_end (Duplicates comm) h = refl
maker_no_end (Splits comm colour key) h = refl
maker_no_end (Makes comm) h = refl
maker_no_end _ h = absurd (false≢true h)

maker_needs : (it : Called) → makes_comm it ≡ true → needs_number it ≡ true
maker_needs (Duplicates comm) h = refl
maker_needs (Splits comm colour key) h = refl
maker_needs (Makes comm) h = refl
maker_needs _ h = absurd (false≢true h)

maker_does : (here : Here) (it : Called) → makes_comm it ≡ true → on_comm here it ≡ Does here.maker ∷ []
maker_does here (Duplicates comm) h = refl
maker_does here (Splits comm colour key) h = refl
maker_does here (Makes comm) h = refl
maker_does here _ h = absurd (false≢true h)

maker_steps : (run : Run) (choice : Choice) (placed : Placed) (comm : ℕ) → number_at run placed ≡ Some comm → makes_comm placed.called ≡ true → steps_of run choice placed ≡ Does (maker run placed comm) ∷ []
maker_steps run choice placed comm number makes_one =
    ap (λ (o : Option ℕ). steps_by run choice placed o) number ∙ maker_does (here_at run choice placed comm) placed.called makes_one

silent_begins : (run longer : Run) (choice : Choice) (placed : Placed) (it : More placed) (others : List Placed) (progress : Progress) → Both run longer choice → NoSinks progress.records → IsKept run longer placed (with_more placed it) → why_at run placed ≡ None → makes_comm placed.called ≡ true → BeginsButLast (list_from run choice progress (placed ∷ [])).records (list_from longer choice progress (with_more placed it ∷ others)).records
silent_begins run longer choice placed it others progress both none kept why makes_one =
    let other = with_more placed it in
    let ends = maker_no_end placed.called makes_one in
    let parts = parts_of (has_report report.Failed placed.entry) (not (can_be run placed)) (lacks_number run placed) (is_unreported placed placed.called) (is_unknown placed placed.called) (breaks_none (is_window run) placed.called _ why) in
    let needs : is_none (number_at run placed) ≡ false = ap (λ (b : Bool). b && is_none (number_at run placed)) (sym (maker_needs placed.called makes_one)) ∙ parts.numbered in
    let number = some_number (number_at run placed) needs in
    let comm = number.0 in
    let now = next_if run choice placed [] progress false none why ends
    ∙ ap (λ (steps : List Step). list_from run choice (after_steps progress placed.line steps) []) (maker_steps run choice placed comm number.1 makes_one) in
    let next = next_if longer choice other others progress false none (why_stays run longer placed it both.numbers both.windows kept why) ends
    ∙ ap (λ (steps : List Step). list_from longer choice (after_steps progress placed.line steps) others)
    (maker_steps longer choice other comm (number_same run longer (named_key placed) both.numbers ∙ number.1) makes_one) in
    let made : Written = record { call = maker run placed comm; line = placed.line; starts = None } in
    let also : Written = record { call = maker longer other comm; line = placed.line; starts = None } in
    let rest = list_grows longer choice others (after_steps progress placed.line (Does (maker longer other comm) ∷ [])) in
    record {
      before = progress.records;
      last = made;
      other = also;
      rest = rest.0;
      comm = comm;
      makes = maker_makes run placed comm;
      also = maker_makes longer other comm;
      old_is = ap (λ (list : Listed). list.records) now;
      new_is = ap (λ (list : Listed). list.records) next ∙ rest.1 ∙ append_assoc progress.records (also ∷ []) rest.0;
    }

-- ---- An entry at which the list goes on ----

silent_more : (placed : Placed) (entries : List Placed) → last_is_silent entries ≡ true → last_is_silent (placed ∷ entries) ≡ true
silent_more placed [] h = absurd (false≢true h)
silent_more placed (one ∷ entries) h = h

abbrev Rest : Run → Run → Choice → List Placed → List Placed → Type 0
Rest run longer choice entries others = (new : Progress) → NoSinks new.records → Stays entries (list_from run choice new entries).records (list_from longer choice new others).records

stays_next : (run longer : Run) (choice : Choice) (placed : Placed) (entries : List Placed) (old new one other : List Written) → old ≡ one → new ≡ other → Stays entries one other → Stays (placed ∷ entries) old new
stays_next run longer choice placed entries old new one other is also (inl begins) = inl (begins_as old new one other is also begins)
stays_next run longer choice placed entries old new one other is also (inr but) =
    inr (
      silent_more placed entries but.0,
      record {
        before = but.1.before;
        last = but.1.last;
        other = but.1.other;
        rest = but.1.rest;
        comm = but.1.comm;
        makes = but.1.makes;
        also = but.1.also;
        old_is = is ∙ but.1.old_is;
        new_is = also ∙ but.1.new_is;
      },
    )

going_stays : (run longer : Run) (choice : Choice) (placed : Placed) (it : More placed) (entries others : List Placed) (progress : Progress) → Both run longer choice → NoSinks progress.records → IsKept run longer placed (with_more placed it) → why_at run placed ≡ None → (makes_comm placed.called ≡ true → (comm : ℕ) → maker longer (with_more placed it) comm ≡ maker run placed comm) → Rest run longer choice entries others → Stays (placed ∷ entries) (list_from run choice progress (placed ∷ entries)).records (list_from longer choice progress (with_more placed it ∷ others)).records
going_stays run longer choice placed it entries others progress both none kept why same rest = by_end (is_end placed.called) refl
  where
    by_end : (b : Bool) → is_end placed.called ≡ b → Stays (placed ∷ entries) (list_from run choice progress (placed ∷ entries)).records (list_from longer choice progress (with_more placed it ∷ others)).records
    by_end true ends =
        let records = (after_steps progress placed.line (WaitsForLate ∷ [])).records in
        inl (begins_as (list_from run choice progress (placed ∷ entries)).records (list_from longer choice progress (with_more placed it ∷ others)).records records records
        (ap (λ (list : Listed). list.records) (next_if run choice placed entries progress true none why ends))
        (ap (λ (list : Listed). list.records) (next_if longer choice (with_more placed it) others progress true none (why_stays run longer placed it both.numbers both.windows kept why) ends))
        (same_begins records))
    by_end false ends =
        let parts = parts_of (has_report report.Failed placed.entry) (not (can_be run placed)) (lacks_number run placed) (is_unreported placed placed.called) (is_unknown placed placed.called) (breaks_none (is_window run) placed.called _ why) in
        let steps = steps_of run choice placed in
        let next = after_steps progress placed.line steps in
        stays_next run longer choice placed entries _ _ (list_from run choice next entries).records (list_from longer choice next others).records
        (ap (λ (list : Listed). list.records) (next_if run choice placed entries progress false none why ends))
        (ap (λ (list : Listed). list.records) (next_if longer choice (with_more placed it) others progress false none (why_stays run longer placed it both.numbers both.windows kept why) ends
        ∙ ap (λ (all : List Step). list_from longer choice (after_steps progress placed.line all) others)
        (steps_stay run longer choice placed it both.strict both.numbers parts.told parts.known same)))
        (rest next (steps_none progress placed.line steps (steps_not run choice placed) none))

entry_stays : (run longer : Run) (choice : Choice) (placed : Placed) (it : More placed) (entries others : List Placed) (progress : Progress) → Both run longer choice → (choice.unreported ≡ unreported.Ends) ⊎ (goes_on run placed ≡ true) → NoSinks progress.records → IsKept run longer placed (with_more placed it) → (entries ≡ []) ⊎ IsOver placed (with_more placed it) → Rest run longer choice entries others → Stays (placed ∷ entries) (list_from run choice progress (placed ∷ entries)).records (list_from longer choice progress (with_more placed it ∷ others)).records
entry_stays run longer choice placed it entries others progress both mode none kept over rest = by_why (why_at run placed) refl
  where
    by_line : entries ≡ [] → makes_comm placed.called ≡ true → why_at run placed ≡ None → (o : Option Line) → report_of report.Comm placed.entry ≡ o → Stays (placed ∷ entries) (list_from run choice progress (placed ∷ entries)).records (list_from longer choice progress (with_more placed it ∷ others)).records
    by_line last makes_one why (Some line) is =
        going_stays run longer choice placed it entries others progress both none kept why
        (λ also comm. told_maker run longer placed it comm line both.ranks both.numbers both.waves makes_one is) rest
    by_line last makes_one why None is =
        subst (λ (es : List Placed). Stays (placed ∷ es) (list_from run choice progress (placed ∷ es)).records (list_from longer choice progress (with_more placed it ∷ others)).records) (sym last)
        (inr (rw (makes_one, is) refl, silent_begins run longer choice placed it others progress both none kept why makes_one))

    by_maker : entries ≡ [] → why_at run placed ≡ None → (b : Bool) → makes_comm placed.called ≡ b → Stays (placed ∷ entries) (list_from run choice progress (placed ∷ entries)).records (list_from longer choice progress (with_more placed it ∷ others)).records
    by_maker last why true is = by_line last is why (report_of report.Comm placed.entry) refl
    by_maker last why false is =
        going_stays run longer choice placed it entries others progress both none kept why (λ also comm. absurd (false≢true (sym is ∙ also))) rest

    by_last : (entries ≡ []) ⊎ IsOver placed (with_more placed it) → why_at run placed ≡ None → Stays (placed ∷ entries) (list_from run choice progress (placed ∷ entries)).records (list_from longer choice progress (with_more placed it ∷ others)).records
    by_last (inl last) why = by_maker last why (makes_comm placed.called) refl
    by_last (inr is) why =
        going_stays run longer choice placed it entries others progress both none kept why
        (λ also comm. over_maker run longer placed it comm both.ranks both.numbers both.waves is) rest

    by_mode : (choice.unreported ≡ unreported.Ends) ⊎ (goes_on run placed ≡ true) → (reason : Why) → why_at run placed ≡ Some reason → Stays (placed ∷ entries) (list_from run choice progress (placed ∷ entries)).records (list_from longer choice progress (with_more placed it ∷ others)).records
    by_mode (inr goes) reason why = absurd (none-some reason (sym (none_of (why_at run placed) goes) ∙ why))
    by_mode (inl without) reason why =
        inl (subst (λ (list : Listed). Begins list.records (list_from longer choice progress (with_more placed it ∷ others)).records)
        (sym (next_by run choice placed entries progress (Some reason) without why))
        (breaks_begins run longer choice placed it others progress placed.called reason both without none kept refl why))

    by_why : (o : Option Why) → why_at run placed ≡ o → Stays (placed ∷ entries) (list_from run choice progress (placed ∷ entries)).records (list_from longer choice progress (with_more placed it ∷ others)).records
    by_why None why = by_last over why
    by_why (Some reason) why = by_mode mode reason why

abbrev Mode : Run → Choice → List Placed → Type 0
Mode run choice entries = (choice.unreported ≡ unreported.Ends) ⊎ (list_all (goes_on run) entries ≡ true)

mode_first : (run : Run) (choice : Choice) (placed : Placed) (entries : List Placed) → Mode run choice (placed ∷ entries) → (choice.unreported ≡ unreported.Ends) ⊎ (goes_on run placed ≡ true)
mode_first run choice placed entries (inl without) = inl without
mode_first run choice placed entries (inr goes) = inr (and_parts (goes_on run placed) (list_all (goes_on run) entries) goes).0

mode_rest : (run : Run) (choice : Choice) (placed : Placed) (entries : List Placed) → Mode run choice (placed ∷ entries) → Mode run choice entries
mode_rest run choice placed entries (inl without) = inl without
mode_rest run choice placed entries (inr goes) = inr (and_parts (goes_on run placed) (list_all (goes_on run) entries) goes).1

lists_stay : (run longer : Run) (choice : Choice) (entries others : List Placed) (progress : Progress) → Both run longer choice → Mode run choice entries → NoSinks progress.records → AreLater entries others → AllKept run longer entries others → Stays entries (list_from run choice progress entries).records (list_from longer choice progress (with_lines entries others)).records
lists_stay run longer choice [] others progress both mode none all kept = inl (list_grows longer choice others progress)
lists_stay run longer choice (placed ∷ entries) [] progress both mode none all kept = absurd all
lists_stay run longer choice (placed ∷ entries) (other ∷ others) progress both mode none all kept =
    subst (λ (one : Placed). Stays (placed ∷ entries) (list_from run choice progress (placed ∷ entries)).records (list_from longer choice progress (one ∷ with_lines entries others)).records) (sym all.0.is)
    (entry_stays run longer choice placed all.0.it entries (with_lines entries others) progress both (mode_first run choice placed entries mode) none
    (subst (λ (one : Placed). IsKept run longer placed one) all.0.is (kept_line run longer placed other placed.line kept.0))
    (over_there placed other all.0.it entries all.0.is all.1)
    (λ new none_new. lists_stay run longer choice entries others new both (mode_rest run choice placed entries mode) none_new all.2 kept.1))

-- ---- A rank ----

abbrev pub first_with : List Call → Progress
first_with calls = record { records = written 0 calls; active = []; late = [] }

-- by the longer run's entries as if they were of the lines of the other's
what_stays : (run longer : Run) (choice : Choice) (rank : ℕ) → choice.calls ≡ Strict → IsWithoutSinks run choice rank → IsRead run → IsRead longer → IsToldMore run longer → AllKept run longer (entries_at run rank) (entries_at longer rank) → Stays (entries_at run rank) (whole_list run choice rank).records (list_from longer choice (progress_first longer rank) (with_lines (entries_at run rank) (entries_at longer rank))).records
what_stays run longer choice rank strict mode read read_longer long kept =
    let all = λ (other : ℕ). entries_later run longer other read read_longer (long.more other) (long.none_gone other) (long.none_moved other) in
    let both : Both run longer choice = record {
      strict = strict;
      ranks = long.ranks;
      numbers = long.numbers;
      waves = waves_same run longer read long.ranks long.numbers all;
      windows = window_still run longer read_longer long.ranks long.more;
    } in
    subst (λ (progress : Progress). Stays (entries_at run rank) (whole_list run choice rank).records (list_from longer choice progress (with_lines (entries_at run rank) (entries_at longer rank))).records)
    (sym (ap (λ (calls : List Call). first_with calls) (long.prefaces rank)))
    (lists_stay run longer choice (entries_at run rank) (entries_at longer rank) (progress_first run rank) both mode (first_none run rank) (all rank) kept)

pub what_is_told_stays : WhatIsToldStays
what_is_told_stays run longer choice rank strict mode read read_longer long kept =
    subst (λ (entries : List Placed). Stays (entries_at run rank) (whole_list run choice rank).records (list_from longer choice (progress_first longer rank) entries).records)
    (same_lines run longer rank (long.more rank))
    (what_stays run longer choice rank strict mode read read_longer (told_more run longer long) kept)

pub what_is_told_between_stays : WhatIsToldBetweenStays
what_is_told_between_stays run longer choice rank strict mode read read_longer long kept = (
  (list_from longer choice (progress_first longer rank) (with_lines (entries_at run rank) (entries_at longer rank))).records,
  what_stays run longer choice rank strict mode read read_longer long kept,
  lists_same longer choice (entries_at run rank) (entries_at longer rank) (progress_first longer rank) strict
      (as_many (entries_at run rank) (entries_at longer rank) (entries_later run longer rank read read_longer (long.more rank) (long.none_gone rank) (long.none_moved rank))),
)
