-- The answer to a line, and all that is held after it.
use Rattle.std.proofs.Common.{◌≡◌, ℕ, Bool, true, false, ◌&&◌, ◌||◌, not, ◌==◌, List, [], ◌∷◌, ◌++◌, length, take, ◌≤◌, Option, Some, None, Result, Ok, Err, IfSome, IfErr, is_some, option_map, option_and_then, sym, ap, ◌∙◌, refl, subst, inl, inr, nat_lt}
use Rattle.std.specs.Prelude.{nat_eq}
use Rattle.std.specs.HashMap.{get}
use Rattle.std.proofs.lemmas.Bool.{cases_Bool, and_parts, or_parts, eqb-true, true≢false, not-true}
use Rattle.journals.specs.Lines.{Line}
use Rattle.journals.specs.Entries.{last_entry, is_of_request, is_request, is_comm, is_new_comm, numbers_by}
use Rattle.journals.specs.Known.{is_among, are_distinct, parent_of}
use Rattle.journals.specs.Faults.{Owner, is_out_of_place, has_right_group, fault_of_line, first_of, ends_journal, may_follow}
use Rattle.journals.specs.inner.Numbered.{numbered, numbers_with}
use Rattle.journals.specs.Taking.{fields_at}
use Rattle.journals.specs.inner.Last.{new_last, with_report}
use Rattle.journals.specs.inner.Marks.{ranks_in}
use Rattle.journals.specs.inner.Naturals.{AreNatural}
use Rattle.journals.specs.inner.Notes.{IsFault, note_at, noted, may_use, may_call, by_call, may_report, by_report}
use Rattle.journals.specs.declared.note_table.Notes.{Notes}
use Rattle.journals.specs.inner.Knows.{Comms, Answers, IsRead, IsNext, IsLast, NoteIs, CommIs, Knows, owner_of, is_known, wrong_comm, is_right_call, may_follow_last, names_unfit_by, is_unfit, chosen_by, noted_last, is_right_report, brings, brought_in, comms_with}
use Rattle.journals.specs.declared.field.Field.{Field}
use Rattle.journals.specs.declared.form.Form.{Form}
use Rattle.journals.specs.declared.form.Form.TheVariants.{Request}
use Rattle.journals.specs.declared.fault.JournalFaultKind.TheVariants as fault
use Rattle.journals.specs.declared.known.Known.{Known}
use Rattle.journals.specs.declared.last.LastCall.{LastCall}
use Rattle.journals.specs.declared.line.LineFault.{LineFault}
use Rattle.journals.specs.declared.line.LineFault.TheVariants.{Journal, Memory}
use Rattle.journals.specs.declared.note.Note.{Note}
use Rattle.journals.specs.declared.word.CallWord.{CallWord}
use Rattle.journals.specs.declared.word.CallWord.TheVariants as call
use Rattle.journals.specs.declared.word.ReportWord.{ReportWord}
use Rattle.journals.specs.declared.word.ReportWord.TheVariants as report
use Rattle.journals.specs.declared.word.Word.TheVariants.{Call, Report}
use Rattle.journals.proofs.Tests.{or_true}
use Rattle.journals.proofs.UseLemmas.{numbers_are, use_of, noted_use, after_use}
use Rattle.journals.proofs.CallNotes.{after_call}
use Rattle.journals.proofs.ReportNotes.{after_report, after_failed, noted_not}
use Rattle.journals.proofs.CommLemmas.{comm_after_call, comm_stays, comm_comes, group_at_left, brought_is, listed}
use Rattle.journals.proofs.AdmitLemmas.{faults_are, call_wrong, report_wrong, comms_wrong, follows_is, out_of_place}
use Rattle.journals.proofs.GroupFields.{report_group, natural_members, call_members}
use Rattle.journals.specs.inner.Places.{comm_place}
use Rattle.journals.proofs.PlaceLemmas.{no_comm}
use Rattle.journals.proofs.RightGroups.{right_call, right_report}
use Rattle.journals.proofs.KnowsLemmas.{fields_stay, last_call, last_report, over_push, call_uses, report_uses}

-- ---- Call lines ----

module _ (before : List Line) (old : Known) (word : CallWord) (fields : List Field) (knows : Knows before old) (read : IsRead (ranks_in old.marks) (record { word = Call word; fields = fields })) (goes_on : old.is_over ≡ false) where
  -- the first fault of a call line
  call_fault : (b c e : Bool) → may_use (may_call (length before)) (by_call word fields (length before)) (note_at old.notes) (numbered (Call word) fields) ≡ b → wrong_comm (is_known old.comms) (numbered (Call word) fields) ≡ c → is_right_call (ranks_in old.marks) old.rank word fields ≡ e → fault_of_line (owner_of old) before (record { word = Call word; fields = fields }) ≡ first_of ((false, fault.AfterEnd) ∷ (false, fault.OutOfPlace) ∷ (not b, fault.Request) ∷ (c, fault.Comm) ∷ (not e, fault.Group) ∷ [])
  call_fault b c e b_is c_is e_is =
      faults_are (owner_of old) before (record { word = Call word; fields = fields }) false false (not b) c e
      (sym knows.over ∙ goes_on) refl
      (call_wrong before old.last (note_at old.notes) knows.notes word fields ∙ ap not b_is)
      (comms_wrong (owner_of old) before old.comms knows.comms (Call word) fields ∙ c_is)
      (right_call (owner_of old) before word fields read ∙ e_is)

  -- what is held after it
  call_knows : (new : Known) → may_use (may_call (length before)) (by_call word fields (length before)) (note_at old.notes) (numbered (Call word) fields) ≡ true → ((number : ℕ) → note_at new.notes number ≡ noted (by_call word fields (length before)) number (note_at old.notes number) (numbered (Call word) fields)) → new.comms ≡ old.comms → ranks_in new.marks ≡ ranks_in old.marks → new.last ≡ Some (new_last word (length before)) → new.is_over ≡ ends_journal (Call word) → Knows (before ++ record { word = Call word; fields = fields } ∷ []) new
  call_knows new may notes comms ranks last over =
      let uses = call_uses word fields (length before) (note_at old.notes) may in
      record {
        over = over ∙ sym (over_push before (record { word = Call word; fields = fields }) (sym knows.over ∙ goes_on));
        last = subst (λ (it : Option LastCall). IsLast (ranks_in new.marks) (before ++ record { word = Call word; fields = fields } ∷ []) it) (sym last)
            (last_call (ranks_in new.marks) before word fields (subst (λ n. IsRead n (record { word = Call word; fields = fields })) (sym ranks) read));
        notes = λ number.
            let now = after_call before old.last word fields number (ranks_in old.marks) (note_at old.notes number) read uses.0 (uses.1 number) (knows.notes number) in
            let is : note_at new.notes number ≡ after_use (by_call word fields (length before)) number (note_at old.notes number) (use_of number (numbered (Call word) fields)) =
            notes number ∙ noted_use (by_call word fields (length before)) number (note_at old.notes number) (numbered (Call word) fields) uses.0 in
            subst (λ (it : Option LastCall). NoteIs (before ++ record { word = Call word; fields = fields } ∷ []) it number (note_at new.notes number)) (sym last)
            (subst (λ (it : Option Note). NoteIs (before ++ record { word = Call word; fields = fields } ∷ []) (Some (new_last word (length before))) number it) (sym is) now);
        comms = λ comm.
            subst (λ it. CommIs (before ++ record { word = Call word; fields = fields } ∷ []) comm (get nat_eq it comm)) (sym comms)
            (comm_after_call before word fields comm (get nat_eq old.comms comm) (knows.comms comm));
      }

-- ---- Reports ----

-- a request that the report names may have it
fit_at : (unfit : Option Note → Bool) (notes : ℕ → Option Note) (number : ℕ) (items : List (Form × ℕ)) → names_unfit_by unfit notes items ≡ false → use_of number items ≡ Some Request → unfit (notes number) ≡ false
fit_at unfit notes number [] fits is = cc
fit_at unfit notes number ((form, other) ∷ items) fits is =
    let parts = or_parts (is_request form && unfit (notes other)) (names_unfit_by unfit notes items) fits in
    elim (cases_Bool (is_of_request form)) [
      | inl is_one ↦ elim (cases_Bool (other == number)) [
        | inl here ↦ (
            let found = rw (is_one, here) at is in
            let form_is : form ≡ Request = cc in
            let same : other ≡ number = eqb-true other number here in
            ap (λ n. unfit (notes n)) (sym same) ∙ rw form_is at parts.0)
        | inr apart ↦ fit_at unfit notes number items parts.1 (rw (is_one, apart) at is)
      ]
      | inr not_one ↦ fit_at unfit notes number items parts.1 (rw not_one at is)
    ]

-- what is noted of a number after a report
note_after : (ranks : ℕ) (lines : List Line) (last : Option LastCall) (is_held : IsLast ranks lines last) (notes : ℕ → Option Note) (known : (number : ℕ) → NoteIs lines last number (notes number)) (word : ReportWord) (fields : List Field) → are_distinct (numbers_with is_of_request (numbered (Report word) fields)) ≡ true → ((number : ℕ) (form : Form) → use_of number (numbered (Report word) fields) ≡ Some form → may_report (length lines) form (notes number) ≡ true) → names_unfit_by (is_unfit last word) notes (numbered (Report word) fields) ≡ false → may_follow_last last lines word (length fields) ≡ true → ((held : LastCall) → last ≡ Some held → fields_at (lines ++ record { word = Report word; fields = fields } ∷ []) held.line ≡ fields_at lines held.line) → (number : ℕ) → NoteIs (lines ++ record { word = Report word; fields = fields } ∷ []) (option_map (with_report word) last) number (noted_last last (lines ++ record { word = Report word; fields = fields } ∷ []) word number (noted (by_report word (length lines) (chosen_by last word)) number (notes number) (numbered (Report word) fields)))
note_after ranks lines last is_held notes known report.Failed fields distinct may fits follows stays number =
    after_failed ranks lines last report.Failed fields number is_held (notes number) (known number) (lines ++ record { word = Report report.Failed; fields = fields } ∷ []) stays
note_after ranks lines last is_held notes known word fields distinct may fits follows stays number =
    let items = numbered (Report word) fields in
    let is : noted_last last (lines ++ record { word = Report word; fields = fields } ∷ []) word number (noted (by_report word (length lines) (chosen_by last word)) number (notes number) (numbered (Report word) fields)) ≡ after_use (by_report word (length lines) (chosen_by last word)) number (notes number) (use_of number (numbered (Report word) fields)) =
    noted_not last (lines ++ record { word = Report word; fields = fields } ∷ []) word number (noted (by_report word (length lines) (chosen_by last word)) number (notes number) (numbered (Report word) fields)) refl
    ∙ noted_use (by_report word (length lines) (chosen_by last word)) number (notes number) (numbered (Report word) fields) distinct in
    subst (λ (it : Option Note). NoteIs (lines ++ record { word = Report word; fields = fields } ∷ []) (option_map (with_report word) last) number it) (sym is)
    (after_report ranks lines last word fields number is_held (notes number) distinct follows (may number) (fit_at (is_unfit last word) notes number (numbered (Report word) fields) fits) refl (known number))

module _ (before : List Line) (old : Known) (word : ReportWord) (fields : List Field) (knows : Knows before old) (read : IsRead (ranks_in old.marks) (record { word = Report word; fields = fields })) (goes_on : old.is_over ≡ false) where
  abbrev later : List Line
  later = before ++ record { word = Report word; fields = fields } ∷ []

  -- what the last call has stays where it is
  stays : (held : LastCall) → old.last ≡ Some held → fields_at (before ++ record { word = Report word; fields = fields } ∷ []) held.line ≡ fields_at before held.line
  stays = fields_stay (ranks_in old.marks) before (record { word = Report word; fields = fields }) old.last knows.last

  follows : (count : ℕ) → may_follow_last old.last (before ++ record { word = Report word; fields = fields } ∷ []) word count ≡ may_follow word count (last_entry before)
  follows count = follows_is (ranks_in old.marks) before (before ++ record { word = Report word; fields = fields } ∷ []) old.last knows.last stays word count

  -- it is out of place as the code finds it so
  report_place : is_out_of_place before (record { word = Report word; fields = fields }) (Report word) ≡ not (may_follow_last old.last (before ++ record { word = Report word; fields = fields } ∷ []) word (length fields) && not (names_unfit_by (is_unfit old.last word) (note_at old.notes) (numbered (Report word) fields)))
  report_place =
      out_of_place (ranks_in old.marks) before old.last knows.last (note_at old.notes) knows.notes word fields
      ∙ ap (λ (b : Bool). not (b && not (names_unfit_by (is_unfit old.last word) (note_at old.notes) (numbered (Report word) fields)))) (sym (follows (length fields)))

  -- the first fault of a report
  report_fault : (a b c e : Bool) → (may_follow_last old.last (before ++ record { word = Report word; fields = fields } ∷ []) word (length fields) && not (names_unfit_by (is_unfit old.last word) (note_at old.notes) (numbered (Report word) fields))) ≡ a → may_use (may_report (length before)) (by_report word (length before) (chosen_by old.last word)) (note_at old.notes) (numbered (Report word) fields) ≡ b → wrong_comm (is_known old.comms) (numbered (Report word) fields) ≡ c → has_right_group (owner_of old) before (record { word = Report word; fields = fields }) (Report word) ≡ e → fault_of_line (owner_of old) before (record { word = Report word; fields = fields }) ≡ first_of ((false, fault.AfterEnd) ∷ (not a, fault.OutOfPlace) ∷ (not b, fault.Request) ∷ (c, fault.Comm) ∷ (not e, fault.Group) ∷ [])
  report_fault a b c e a_is b_is c_is e_is =
      faults_are (owner_of old) before (record { word = Report word; fields = fields }) false (not a) (not b) c e
      (sym knows.over ∙ goes_on) (report_place ∙ ap not a_is)
      (report_wrong before old.last (note_at old.notes) knows.notes word fields (chosen_by old.last word) ∙ ap not b_is)
      (comms_wrong (owner_of old) before old.comms knows.comms (Report word) fields ∙ c_is)
      e_is

  -- a report keeps what a request duplicates
  parents : (notes : ℕ → Option Note) → are_distinct (numbers_with is_of_request (numbered (Report word) fields)) ≡ true → ((number : ℕ) → notes number ≡ noted (by_report word (length before) (chosen_by old.last word)) number (note_at old.notes number) (numbered (Report word) fields)) → (number : ℕ) → option_and_then (λ it. it.parent) (notes number) ≡ parent_of before number
  parents notes distinct is number =
      ap (option_and_then (λ (it : Note). it.parent)) (is number ∙ noted_use (by_report word (length before) (chosen_by old.last word)) number (note_at old.notes number) (numbered (Report word) fields) distinct)
      ∙ same (use_of number (numbered (Report word) fields)) (note_at old.notes number)
      ∙ sym (knows.notes number).parent
    where
      same : (form : Option Form) (held : Option Note) → option_and_then (λ (it : Note). it.parent) (after_use (by_report word (length before) (chosen_by old.last word)) number held form) ≡ option_and_then (λ (it : Note). it.parent) held
      same None held = refl
      same (Some form) None = refl
      same (Some form) (Some note) = refl

  -- the group of a report as the code asks for it once its requests are noted
  report_right : (noted_known : Known) → noted_known.last ≡ old.last → noted_known.comms ≡ old.comms → noted_known.marks ≡ old.marks → noted_known.rank ≡ old.rank → may_use (may_report (length before)) (by_report word (length before) (chosen_by old.last word)) (note_at old.notes) (numbered (Report word) fields) ≡ true → ((number : ℕ) → note_at noted_known.notes number ≡ noted (by_report word (length before) (chosen_by old.last word)) number (note_at old.notes number) (numbered (Report word) fields)) → may_follow_last old.last (before ++ record { word = Report word; fields = fields } ∷ []) word (length fields) ≡ true → has_right_group (owner_of old) before (record { word = Report word; fields = fields }) (Report word) ≡ is_right_report noted_known (before ++ record { word = Report word; fields = fields } ∷ []) word fields
  report_right it last_is comms_is marks_is rank_is may notes may_follow_it =
      let uses = report_uses word fields (length before) (chosen_by old.last word) (note_at old.notes) may in
      let owner_is : owner_of old ≡ owner_of it = rw (marks_is, rank_is) refl in
      ap (λ owner. has_right_group owner before (record { word = Report word; fields = fields }) (Report word)) owner_is
      ∙ right_report it before (before ++ record { word = Report word; fields = fields } ∷ [])
      (λ comm. rw comms_is (knows.comms comm, group_at_left before (record { word = Report word; fields = fields }) (get nat_eq old.comms comm) (knows.comms comm).below))
      word fields (rw marks_is read) (rw (marks_is, last_is) knows.last) (λ held is. stays held (sym last_is ∙ is))
      (sym (follows (length fields)) ∙ may_follow_it)
      (parents (note_at it.notes) uses.0 notes)

  -- a communicator that a line brings without a fault wasn't known
  not_known : (known : ℕ → Bool) (comm : ℕ) (items : List (Form × ℕ)) → wrong_comm known items ≡ false → is_among comm (numbers_with is_new_comm items) ≡ true → known comm ≡ false
  not_known known comm [] wrong among = cc
  not_known known comm ((form, other) ∷ items) wrong among =
      let parts = or_parts (wrong_here form other) (wrong_comm known items) wrong in
      elim (cases_Bool (is_new_comm form)) [
        | inl is_one ↦ (
            let found = rw is_one at among in
            elim (cases_Bool (other == comm)) [
              | inl here ↦ (
                  let same : other ≡ comm = eqb-true other comm here in
                  let new = or_parts (is_comm form && not (known other)) (is_new_comm form && known other) parts.0 in
                  ap known (sym same) ∙ rw is_one at new.1)
              | inr apart ↦ not_known known comm items parts.1 (rw apart at found)
            ])
        | inr not_one ↦ not_known known comm items parts.1 (rw not_one at among)
      ]
    where
      wrong_here : Form → ℕ → Bool
      wrong_here form other = (is_comm form && not (known other)) || (is_new_comm form && known other)

  comms_after : wrong_comm (is_known old.comms) (numbered (Report word) fields) ≡ false → (comm : ℕ) → CommIs (before ++ record { word = Report word; fields = fields } ∷ []) comm (comms_with (brought_in word fields) (length before) comm (get nat_eq old.comms comm))
  comms_after wrong comm = by (brought_in word fields) refl
    where
      line : Line
      line = record { word = Report word; fields = fields }

      unknown : (n : ℕ) (it : Option ℕ) → (nat_lt n 2 || is_some it) ≡ false → it ≡ None
      unknown n None is = refl
      unknown n (Some x) is = absurd (true≢false (sym (or_true (nat_lt n 2)) ∙ is))

      brings_it : (w : ReportWord) (fs : List Field) (n : ℕ) → brought_in w fs ≡ Some n → brings w ≡ true
      brings_it w fs n is = elim (cases_Bool (brings w)) [ inl it ↦ it | inr not_it ↦ (let none = rw not_it at is in cc) ]

      by : (brought : Option ℕ) → brought_in word fields ≡ brought → CommIs (before ++ record { word = Report word; fields = fields } ∷ []) comm (comms_with brought (length before) comm (get nat_eq old.comms comm))
      by None is =
          comm_stays before (record { word = Report word; fields = fields }) comm (get nat_eq old.comms comm)
          (brought_is word fields comm ∙ ap (λ it. is_among comm (listed it)) is) (knows.comms comm)
      by (Some other) is =
          let among : is_among comm (numbers_by is_new_comm (record { word = Report word; fields = fields })) ≡ is_among comm (other ∷ []) = brought_is word fields comm ∙ ap (λ it. is_among comm (listed it)) is in
          elim (cases_Bool (other == comm)) [
            | inl here ↦ (
                let is_new : is_among comm (numbers_by is_new_comm (record { word = Report word; fields = fields })) ≡ true = among ∙ rw here refl in
                let known = not_known (is_known old.comms) comm (numbered (Report word) fields) wrong (sym (ap (is_among comm) (numbers_are is_new_comm (Report word) fields)) ∙ is_new) in
                rw here (comm_comes before (record { word = Report word; fields = fields }) comm (get nat_eq old.comms comm) is_new
                (report_group (ranks_in old.marks) word fields (brings_it word fields other is) read) (unknown comm (get nat_eq old.comms comm) known) (knows.comms comm)))
            | inr apart ↦ rw apart (comm_stays before (record { word = Report word; fields = fields }) comm (get nat_eq old.comms comm) (among ∙ rw apart refl) (knows.comms comm))
          ]

  -- what is held after a report
  report_knows : (new : Known) → (may_follow_last old.last (before ++ record { word = Report word; fields = fields } ∷ []) word (length fields) && not (names_unfit_by (is_unfit old.last word) (note_at old.notes) (numbered (Report word) fields))) ≡ true → may_use (may_report (length before)) (by_report word (length before) (chosen_by old.last word)) (note_at old.notes) (numbered (Report word) fields) ≡ true → wrong_comm (is_known old.comms) (numbered (Report word) fields) ≡ false → ((number : ℕ) → note_at new.notes number ≡ noted_last old.last (before ++ record { word = Report word; fields = fields } ∷ []) word number (noted (by_report word (length before) (chosen_by old.last word)) number (note_at old.notes number) (numbered (Report word) fields))) → ((comm : ℕ) → get nat_eq new.comms comm ≡ comms_with (brought_in word fields) (length before) comm (get nat_eq old.comms comm)) → ranks_in new.marks ≡ ranks_in old.marks → new.last ≡ option_map (with_report word) old.last → new.is_over ≡ old.is_over → Knows (before ++ record { word = Report word; fields = fields } ∷ []) new
  report_knows new place may wrong notes comms ranks last over =
      let uses = report_uses word fields (length before) (chosen_by old.last word) (note_at old.notes) may in
      let places = and_parts (may_follow_last old.last (before ++ record { word = Report word; fields = fields } ∷ []) word (length fields)) (not (names_unfit_by (is_unfit old.last word) (note_at old.notes) (numbered (Report word) fields))) place in
      let fits : names_unfit_by (is_unfit old.last word) (note_at old.notes) (numbered (Report word) fields) ≡ false = not-true _ places.1 in
      record {
        over = over ∙ goes_on ∙ sym (over_push before (record { word = Report word; fields = fields }) (sym knows.over ∙ goes_on));
        last = rw (last, ranks) (last_report (ranks_in old.marks) before old.last word fields knows.last);
        notes = λ number. rw last (
            let noted_is : noted (by_report word (length before) (chosen_by old.last word)) number (note_at old.notes number) (numbered (Report word) fields) ≡ after_use (by_report word (length before) (chosen_by old.last word)) number (note_at old.notes number) (use_of number (numbered (Report word) fields)) =
            noted_use (by_report word (length before) (chosen_by old.last word)) number (note_at old.notes number) (numbered (Report word) fields) uses.0 in
            subst (λ (it : Option Note). NoteIs (before ++ record { word = Report word; fields = fields } ∷ []) (option_map (with_report word) old.last) number it) (sym (notes number))
            (note_after (ranks_in old.marks) before old.last knows.last (note_at old.notes) knows.notes word fields uses.0 uses.1 fits
            (follows_is (ranks_in old.marks) before before old.last knows.last (λ held is. refl) word (length fields) ∙ sym (follows (length fields)) ∙ places.0) stays number));
        comms = λ comm. subst (λ it. CommIs (before ++ record { word = Report word; fields = fields } ∷ []) comm it) (sym (comms comm)) (comms_after wrong comm);
      }

-- ---- By the place of the line ----

module _ (lines : List Line) (place : ℕ) (old : Known) (word : CallWord) (fields : List Field) (next : IsNext (ranks_in old.marks) lines place (record { word = Call word; fields = fields })) (knows : Knows (take place lines) old) (goes_on : old.is_over ≡ false) where
  pub call_answer : (b c e : Bool) → may_use (may_call place) (by_call word fields place) (note_at old.notes) (numbered (Call word) fields) ≡ b → wrong_comm (is_known old.comms) (numbered (Call word) fields) ≡ c → is_right_call (ranks_in old.marks) old.rank word fields ≡ e → fault_of_line (owner_of old) (take place lines) (record { word = Call word; fields = fields }) ≡ first_of ((false, fault.AfterEnd) ∷ (false, fault.OutOfPlace) ∷ (not b, fault.Request) ∷ (c, fault.Comm) ∷ (not e, fault.Group) ∷ [])
  call_answer b c e may wrong right =
      call_fault (take place lines) old word fields knows next.read goes_on b c e
      (subst (λ n. may_use (may_call n) (by_call word fields n) (note_at old.notes) (numbered (Call word) fields) ≡ b) (sym next.place_is) may) wrong right

  pub call_held : (new : Known) → may_use (may_call place) (by_call word fields place) (note_at old.notes) (numbered (Call word) fields) ≡ true → ((number : ℕ) → note_at new.notes number ≡ noted (by_call word fields place) number (note_at old.notes number) (numbered (Call word) fields)) → new.comms ≡ old.comms → ranks_in new.marks ≡ ranks_in old.marks → new.last ≡ Some (new_last word place) → new.is_over ≡ ends_journal (Call word) → Knows lines new
  call_held new may notes comms ranks last over =
      subst (λ (ls : List Line). Knows ls new) (sym next.split) (
      call_knows (take place lines) old word fields knows next.read goes_on new
      (subst (λ n. may_use (may_call n) (by_call word fields n) (note_at old.notes) (numbered (Call word) fields) ≡ true) (sym next.place_is) may)
      (subst (λ n. (number : ℕ) → note_at new.notes number ≡ noted (by_call word fields n) number (note_at old.notes number) (numbered (Call word) fields)) (sym next.place_is) notes)
      comms ranks (subst (λ n. new.last ≡ Some (new_last word n)) (sym next.place_is) last) over)

  -- the answer where a request is wrong
  pub call_refused : (it : LineFault) → IsFault fault.Request (may_use (may_call place) (by_call word fields place) (note_at old.notes) (numbered (Call word) fields) ≡ false) it → Answers (owner_of old) (take place lines) (record { word = Call word; fields = fields }) (Err it)
  call_refused (Journal kind) is = call_answer false _ _ is.1 refl refl ∙ ap (λ k. Some k) (sym is.0)
  call_refused Memory is = tt

module _ (lines : List Line) (place : ℕ) (old : Known) (word : ReportWord) (fields : List Field) (next : IsNext (ranks_in old.marks) lines place (record { word = Report word; fields = fields })) (knows : Knows (take place lines) old) (goes_on : old.is_over ≡ false) where
  abbrev fits_place : Bool → Type 0
  fits_place a = (may_follow_last old.last lines word (length fields) && not (names_unfit_by (is_unfit old.last word) (note_at old.notes) (numbered (Report word) fields))) ≡ a

  abbrev may_name : Bool → Type 0
  may_name b = may_use (may_report place) (by_report word place (chosen_by old.last word)) (note_at old.notes) (numbered (Report word) fields) ≡ b

  abbrev notes_all : (ℕ → Option Note) → Type 0
  notes_all notes = (number : ℕ) → notes number ≡ noted (by_report word place (chosen_by old.last word)) number (note_at old.notes number) (numbered (Report word) fields)

  place_at : (a : Bool) → fits_place a → (may_follow_last old.last (take place lines ++ record { word = Report word; fields = fields } ∷ []) word (length fields) && not (names_unfit_by (is_unfit old.last word) (note_at old.notes) (numbered (Report word) fields))) ≡ a
  place_at a fits = subst (λ (ls : List Line). (may_follow_last old.last ls word (length fields) && not (names_unfit_by (is_unfit old.last word) (note_at old.notes) (numbered (Report word) fields))) ≡ a) next.split fits

  name_at : (b : Bool) → may_name b → may_use (may_report (length (take place lines))) (by_report word (length (take place lines)) (chosen_by old.last word)) (note_at old.notes) (numbered (Report word) fields) ≡ b
  name_at b may = subst (λ n. may_use (may_report n) (by_report word n (chosen_by old.last word)) (note_at old.notes) (numbered (Report word) fields) ≡ b) (sym next.place_is) may

  notes_at : (notes : ℕ → Option Note) → notes_all notes → (number : ℕ) → notes number ≡ noted (by_report word (length (take place lines)) (chosen_by old.last word)) number (note_at old.notes number) (numbered (Report word) fields)
  notes_at notes is = subst (λ n. (number : ℕ) → notes number ≡ noted (by_report word n (chosen_by old.last word)) number (note_at old.notes number) (numbered (Report word) fields)) (sym next.place_is) is

  pub report_answer : (a b c e : Bool) → (may_follow_last old.last lines word (length fields) && not (names_unfit_by (is_unfit old.last word) (note_at old.notes) (numbered (Report word) fields))) ≡ a → may_use (may_report place) (by_report word place (chosen_by old.last word)) (note_at old.notes) (numbered (Report word) fields) ≡ b → wrong_comm (is_known old.comms) (numbered (Report word) fields) ≡ c → has_right_group (owner_of old) (take place lines) (record { word = Report word; fields = fields }) (Report word) ≡ e → fault_of_line (owner_of old) (take place lines) (record { word = Report word; fields = fields }) ≡ first_of ((false, fault.AfterEnd) ∷ (not a, fault.OutOfPlace) ∷ (not b, fault.Request) ∷ (c, fault.Comm) ∷ (not e, fault.Group) ∷ [])
  report_answer a b c e fits may wrong right =
      report_fault (take place lines) old word fields knows next.read goes_on a b c e (place_at a fits) (name_at b may) wrong right

  pub report_group_is : (it : Known) → it.last ≡ old.last → it.comms ≡ old.comms → it.marks ≡ old.marks → it.rank ≡ old.rank → (may_follow_last old.last lines word (length fields) && not (names_unfit_by (is_unfit old.last word) (note_at old.notes) (numbered (Report word) fields))) ≡ true → may_use (may_report place) (by_report word place (chosen_by old.last word)) (note_at old.notes) (numbered (Report word) fields) ≡ true → ((number : ℕ) → note_at it.notes number ≡ noted (by_report word place (chosen_by old.last word)) number (note_at old.notes number) (numbered (Report word) fields)) → has_right_group (owner_of old) (take place lines) (record { word = Report word; fields = fields }) (Report word) ≡ is_right_report it lines word fields
  report_group_is it last comms marks rank fits may notes =
      let places = and_parts (may_follow_last old.last (take place lines ++ record { word = Report word; fields = fields } ∷ []) word (length fields)) (not (names_unfit_by (is_unfit old.last word) (note_at old.notes) (numbered (Report word) fields))) (place_at true fits) in
      report_right (take place lines) old word fields knows next.read goes_on it last comms marks rank (name_at true may) (notes_at (note_at it.notes) notes) places.0
      ∙ ap (λ ls. is_right_report it ls word fields) (sym next.split)

  pub report_held : (new : Known) → (may_follow_last old.last lines word (length fields) && not (names_unfit_by (is_unfit old.last word) (note_at old.notes) (numbered (Report word) fields))) ≡ true → may_use (may_report place) (by_report word place (chosen_by old.last word)) (note_at old.notes) (numbered (Report word) fields) ≡ true → wrong_comm (is_known old.comms) (numbered (Report word) fields) ≡ false → ((number : ℕ) → note_at new.notes number ≡ noted_last old.last lines word number (noted (by_report word place (chosen_by old.last word)) number (note_at old.notes number) (numbered (Report word) fields))) → ((comm : ℕ) → get nat_eq new.comms comm ≡ comms_with (brought_in word fields) place comm (get nat_eq old.comms comm)) → ranks_in new.marks ≡ ranks_in old.marks → new.last ≡ option_map (with_report word) old.last → new.is_over ≡ old.is_over → Knows lines new
  report_held new fits may wrong notes comms ranks last over =
      subst (λ (ls : List Line). Knows ls new) (sym next.split) (
      report_knows (take place lines) old word fields knows next.read goes_on new (place_at true fits) (name_at true may) wrong
      (subst (λ n. (number : ℕ) → note_at new.notes number ≡ noted_last old.last (take place lines ++ record { word = Report word; fields = fields } ∷ []) word number (noted (by_report word n (chosen_by old.last word)) number (note_at old.notes number) (numbered (Report word) fields))) (sym next.place_is)
      (subst (λ (ls : List Line). (number : ℕ) → note_at new.notes number ≡ noted_last old.last ls word number (noted (by_report word place (chosen_by old.last word)) number (note_at old.notes number) (numbered (Report word) fields))) next.split notes))
      (subst (λ n. (comm : ℕ) → get nat_eq new.comms comm ≡ comms_with (brought_in word fields) n comm (get nat_eq old.comms comm)) (sym next.place_is) comms)
      ranks last over)

  -- the answer where a request is wrong
  pub report_refused : (it : LineFault) → (may_follow_last old.last lines word (length fields) && not (names_unfit_by (is_unfit old.last word) (note_at old.notes) (numbered (Report word) fields))) ≡ true → IsFault fault.Request (may_use (may_report place) (by_report word place (chosen_by old.last word)) (note_at old.notes) (numbered (Report word) fields) ≡ false) it → Answers (owner_of old) (take place lines) (record { word = Report word; fields = fields }) (Err it)
  report_refused (Journal kind) fits is = report_answer true false _ _ fits is.1 refl refl ∙ ap (λ k. Some k) (sym is.0)
  report_refused Memory fits is = tt

  -- what is held after all steps of a report
  pub report_done : (notes : Notes) (grouped last : Known) (comms : Comms) → (may_follow_last old.last lines word (length fields) && not (names_unfit_by (is_unfit old.last word) (note_at old.notes) (numbered (Report word) fields))) ≡ true → may_use (may_report place) (by_report word place (chosen_by old.last word)) (note_at old.notes) (numbered (Report word) fields) ≡ true → wrong_comm (is_known old.comms) (numbered (Report word) fields) ≡ false → ((number : ℕ) → note_at notes number ≡ noted (by_report word place (chosen_by old.last word)) number (note_at old.notes number) (numbered (Report word) fields)) → grouped ≡ record old { notes = notes; marks = grouped.marks } → ranks_in grouped.marks ≡ ranks_in old.marks → ((comm : ℕ) → get nat_eq comms comm ≡ comms_with (brought_in word fields) place comm (get nat_eq grouped.comms comm)) → last.last ≡ option_map (with_report word) grouped.last → ((number : ℕ) → note_at last.notes number ≡ noted_last grouped.last lines word number (note_at grouped.notes number)) → last ≡ record grouped { comms = comms; notes = last.notes; last = last.last } → Knows lines last
  report_done notes grouped last comms fits may wrong noted_is grouped_is ranks comms_is last_is notes_is same =
      let held_notes : grouped.notes ≡ notes = ap (λ (k : Known). k.notes) grouped_is in
      let held_comms : grouped.comms ≡ old.comms = ap (λ (k : Known). k.comms) grouped_is in
      let held_last : grouped.last ≡ old.last = ap (λ (k : Known). k.last) grouped_is in
      let held_over : grouped.is_over ≡ old.is_over = ap (λ (k : Known). k.is_over) grouped_is in
      report_held last fits may wrong
      (λ number. notes_is number ∙ ap (λ it. noted_last it lines word number (note_at grouped.notes number)) held_last ∙ ap (λ (it : Notes). noted_last old.last lines word number (note_at it number)) held_notes ∙ ap (noted_last old.last lines word number) (noted_is number))
      (λ comm. ap (λ (k : Known). get nat_eq k.comms comm) same ∙ comms_is comm ∙ ap (λ (it : Comms). comms_with (brought_in word fields) place comm (get nat_eq it comm)) held_comms)
      (ap (λ (k : Known). ranks_in k.marks) same ∙ ranks)
      (last_is ∙ ap (option_map (with_report word)) held_last)
      (ap (λ (k : Known). k.is_over) same ∙ held_over)

-- the fields of the last call are numbers, where it names a group
pub named_natural : (ranks : ℕ) (lines : List Line) (place : ℕ) (line : Line) (last : Option LastCall) → 1 ≤ ranks → IsNext ranks lines place line → IsLast ranks (take place lines) last → IfSome last (λ it. it.word ≡ call.CommCreateGroup → AreNatural (fields_at lines it.line))
named_natural ranks lines place line None some next is = tt
named_natural ranks lines place line (Some last) some next is = λ named.
    let word : is.entry.word ≡ call.CommCreateGroup = sym is.word ∙ named in
    let read : IsRead ranks (record { word = Call call.CommCreateGroup; fields = is.entry.fields }) = subst (λ w. IsRead ranks (record { word = Call w; fields = is.entry.fields })) word is.read in
    let here : fields_at lines last.line ≡ is.entry.fields =
    ap (λ ls. fields_at ls last.line) next.split ∙ fields_stay ranks (take place lines) line (Some last) is last refl ∙ is.fields in
    subst AreNatural (sym here) (natural_members ranks is.entry.fields (call_members ranks is.entry.fields some read))

pub answer_last : (owner : Owner) (before : List Line) (line : Line) (it : Result Unit LineFault) → IfErr it (IsFault fault.OutOfPlace ⊥) → fault_of_line owner before line ≡ None → Answers owner before line it
answer_last owner before line (Ok done) wrong none = none
answer_last owner before line (Err (Journal kind)) wrong none = absurd wrong.1
answer_last owner before line (Err Memory) wrong none = tt

pub flip_true : (r w : Bool) → r ≡ not w → r ≡ false → w ≡ true
flip_true r true is not_r = refl
flip_true r false is not_r = absurd (true≢false (sym is ∙ not_r))

pub flip_false : (r w : Bool) → r ≡ not w → r ≡ true → w ≡ false
flip_false r true is it = absurd (true≢false (sym it ∙ is))
flip_false r false is it = refl

-- a report that brings no communicator names none, has no group, and leaves those that are known
no_comm_in : (word : ReportWord) → brings word ≡ false → comm_place (Report word) ≡ None
no_comm_in report.Comm none = absurd (true≢false none)
no_comm_in report.Idup none = absurd (true≢false none)
no_comm_in report.Apart none = absurd (true≢false none)
no_comm_in word none = refl

pub knows_all : (known : ℕ → Bool) (word : ReportWord) (fields : List Field) → brings word ≡ false → wrong_comm known (numbered (Report word) fields) ≡ false
knows_all known word fields none = no_comm known (Report word) fields (no_comm_in word none)

pub right_without_comm : (known : Known) (lines : List Line) (word : ReportWord) (fields : List Field) → brings word ≡ false → is_right_report known lines word fields ≡ true
right_without_comm known lines report.Comm fields none = absurd (true≢false none)
right_without_comm known lines report.Idup fields none = absurd (true≢false none)
right_without_comm known lines report.Apart fields none = absurd (true≢false none)
right_without_comm known lines word fields none = refl

pub comms_without : (word : ReportWord) (fields : List Field) (place : ℕ) (comms : Comms) → brings word ≡ false → (comm : ℕ) → get nat_eq comms comm ≡ comms_with (brought_in word fields) place comm (get nat_eq comms comm)
comms_without word fields place comms none comm = rw none refl
