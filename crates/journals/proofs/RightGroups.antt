-- The groups of communicators, by what is known of the lines before.
use Rattle.std.proofs.Common.{◌≡◌, ℕ, ◌-◌, max, Bool, true, false, ◌&&◌, not, List, [], ◌∷◌, length, replicate, Option, Some, None, option_and_then, sym, ap, ◌∙◌, refl}
use Rattle.std.specs.List.{filter_map, cons_option, zip}
use Rattle.std.specs.Prelude.{nat_eq}
use Rattle.std.specs.HashMap.{get}
use Rattle.std.proofs.lemmas.Bool.{and_parts, false≢true}
use Rattle.journals.specs.Lines.{Line}
use Rattle.journals.specs.Entries.{Entry, numbers_by, number_if, is_comm, is_request, last_entry}
use Rattle.journals.specs.Known.{is_among, are_distinct, group_of, parent_of}
use Rattle.journals.specs.Faults.{Owner, has_right_group, is_group, is_made_by, is_made_in, makes_comm, may_bring_comm, brought_or_not, first_number, parent_in, may_follow}
use Rattle.journals.specs.inner.Naturals.{naturals}
use Rattle.journals.specs.Taking.{fields_at}
use Rattle.journals.specs.inner.Marks.{ranks_in}
use Rattle.journals.specs.inner.Notes.{note_at}
use Rattle.journals.specs.inner.Knows.{IsRead, IsLast, CommIs, owner_of, group_fields, group_at, is_right_group, held_group, group_by, is_right_call, first_natural, second_natural, is_made_last, is_made_by_last, duplicated_by, is_right_report}
use Rattle.journals.specs.declared.field.Field.{Field}
use Rattle.journals.specs.declared.field.Field.TheVariants.{Natural, Signed, Null, Any, Undefined}
use Rattle.journals.specs.declared.form.Form.TheVariants.{NewComm, Member, Colour, Key}
use Rattle.journals.specs.declared.known.Known.{Known}
use Rattle.journals.specs.declared.last.LastCall.{LastCall}
use Rattle.journals.specs.declared.word.CallWord.{CallWord}
use Rattle.journals.specs.declared.word.CallWord.TheVariants as call
use Rattle.journals.specs.declared.word.ReportWord.{ReportWord}
use Rattle.journals.specs.declared.word.ReportWord.TheVariants as report
use Rattle.journals.specs.declared.word.Word.TheVariants.{Call, Report}
use Rattle.journals.proofs.Tests.{and_false}
use Rattle.journals.proofs.LineForms.{no_numbers, no_number, any_replicate}
use Rattle.journals.proofs.GroupFields.{call_group, report_group}

-- the group of a call line
pub right_call : (owner : Owner) (lines : List Line) (word : CallWord) (fields : List Field) → IsRead owner.ranks (record { word = Call word; fields = fields }) → has_right_group owner lines (record { word = Call word; fields = fields }) (Call word) ≡ is_right_call owner.ranks owner.rank word fields
right_call owner lines call.CommCreateGroup fields read = rw (call_group owner.ranks fields read) refl
right_call owner lines _ fields read = refl

alone : (comm : Field) → cons_option (number_if is_request (NewComm, comm)) [] ≡ []
alone comm = ap (λ (it : Option ℕ). cons_option it []) (no_number is_request NewComm comm refl)

nobody : (count : ℕ) (comm : Field) (fields : List Field) → cons_option (number_if is_request (NewComm, comm)) (filter_map (number_if is_request) (zip (replicate count Member) fields)) ≡ []
nobody count comm fields =
    ap (λ (it : Option ℕ). cons_option it (filter_map (number_if is_request) (zip (replicate count Member) fields))) (no_number is_request NewComm comm refl)
    ∙ no_numbers is_request (replicate count Member) fields (any_replicate is_request Member count refl)

module _ (known : Known) (lines later : List Line) (comms : (comm : ℕ) → (CommIs lines comm (get nat_eq known.comms comm)) × (group_at later (get nat_eq known.comms comm) ≡ group_at lines (get nat_eq known.comms comm))) where
  held_is : (comm : ℕ) → held_group known later comm ≡ group_of (ranks_in known.marks) known.rank lines comm
  held_is comm = rw ((comms comm).1 ∙ sym (comms comm).0.group) refl

  group_none : (group : List ℕ) → false ≡ is_right_group known.rank None group
  group_none group = sym (ap (λ (b : Bool). (are_distinct group && is_among known.rank group) && b) refl ∙ and_false _)

  within_is : (comm : Option ℕ) (group : List ℕ) → is_group (owner_of known) lines comm group ≡ is_right_group known.rank (group_by known later comm) group
  within_is None group = group_none group
  within_is (Some comm) group = rw (held_is comm) refl

  -- the communicator that a call is on is its first field
  on_first : (word : CallWord) (fields : List Field) → makes_comm word ≡ true → first_number (numbers_by is_comm (record { word = Call word; fields = fields })) ≡ first_natural fields
  on_first call.CommDup [] may = refl
  on_first call.CommDup (Natural one ∷ fields) may = refl
  on_first call.CommDup (Signed one ∷ fields) may = refl
  on_first call.CommDup (Null ∷ fields) may = refl
  on_first call.CommDup (Any ∷ fields) may = refl
  on_first call.CommDup (Undefined ∷ fields) may = refl
  on_first call.CommMake [] may = refl
  on_first call.CommMake (Natural one ∷ fields) may = refl
  on_first call.CommMake (Signed one ∷ fields) may = refl
  on_first call.CommMake (Null ∷ fields) may = refl
  on_first call.CommMake (Any ∷ fields) may = refl
  on_first call.CommMake (Undefined ∷ fields) may = refl
  on_first call.CommSplit [] may = refl
  on_first call.CommSplit (Natural one ∷ fields) may = refl
  on_first call.CommSplit (Signed one ∷ fields) may = ap first_number (no_numbers is_comm (Colour ∷ Key ∷ []) fields refl)
  on_first call.CommSplit (Null ∷ fields) may = ap first_number (no_numbers is_comm (Colour ∷ Key ∷ []) fields refl)
  on_first call.CommSplit (Any ∷ fields) may = ap first_number (no_numbers is_comm (Colour ∷ Key ∷ []) fields refl)
  on_first call.CommSplit (Undefined ∷ fields) may = ap first_number (no_numbers is_comm (Colour ∷ Key ∷ []) fields refl)
  on_first _ fields may = absurd (false≢true may)

  made_is : (word : CallWord) (fields : List Field) (group : List Field) (entry : Entry) → entry.word ≡ word → entry.fields ≡ fields → IsRead (ranks_in known.marks) (record { word = Call word; fields = fields }) → may_bring_comm word fields ≡ true → is_made_in (owner_of known) lines (record entry { word = word; fields = fields }) (naturals group) word ≡ is_made_last known later word fields group
  made_is call.CommCreateGroup fields group entry word_is fields_is read may = rw (call_group (ranks_in known.marks) fields read) refl
  made_is call.CommDup fields group entry word_is fields_is read may =
      within_is _ (naturals group) ∙ ap (λ it. is_right_group known.rank (group_by known later it) (naturals group)) (on_first call.CommDup fields refl)
  made_is call.CommSplit fields group entry word_is fields_is read may =
      within_is _ (naturals group) ∙ ap (λ it. is_right_group known.rank (group_by known later it) (naturals group)) (on_first call.CommSplit fields refl)
  made_is call.CommMake fields group entry word_is fields_is read may =
      within_is _ (naturals group) ∙ ap (λ it. is_right_group known.rank (group_by known later it) (naturals group)) (on_first call.CommMake fields refl)
  made_is _ fields group entry word_is fields_is read may = absurd (false≢true may)

  -- the request of a report of a nonblocking duplicate is its second field
  on_second : (fields : List Field) → parent_in lines (numbers_by is_request (record { word = Report report.Idup; fields = fields })) ≡ option_and_then (parent_of lines) (second_natural fields)
  on_second [] = refl
  on_second (comm ∷ []) = ap (parent_in lines) (alone comm)
  on_second (comm ∷ Natural request ∷ fields) =
      ap (λ (it : Option ℕ). parent_in lines (cons_option it (request ∷ filter_map (number_if is_request) (zip (replicate (max 1 (length (comm ∷ Natural request ∷ fields) - 2)) Member) fields)))) (no_number is_request NewComm comm refl)
  on_second (comm ∷ Signed one ∷ fields) = ap (parent_in lines) (nobody (max 1 (length (comm ∷ Signed one ∷ fields) - 2)) comm fields)
  on_second (comm ∷ Null ∷ fields) = ap (parent_in lines) (nobody (max 1 (length (comm ∷ Null ∷ fields) - 2)) comm fields)
  on_second (comm ∷ Any ∷ fields) = ap (parent_in lines) (nobody (max 1 (length (comm ∷ Any ∷ fields) - 2)) comm fields)
  on_second (comm ∷ Undefined ∷ fields) = ap (parent_in lines) (nobody (max 1 (length (comm ∷ Undefined ∷ fields) - 2)) comm fields)

  -- the group of a report is right exactly where the code finds it so
  pub right_report : (word : ReportWord) (fields : List Field) → IsRead (ranks_in known.marks) (record { word = Report word; fields = fields }) → IsLast (ranks_in known.marks) lines known.last → ((held : LastCall) → known.last ≡ Some held → fields_at later held.line ≡ fields_at lines held.line) → may_follow word (length fields) (last_entry lines) ≡ true → ((number : ℕ) → option_and_then (λ it. it.parent) (note_at known.notes number) ≡ parent_of lines number) → has_right_group (owner_of known) lines (record { word = Report word; fields = fields }) (Report word) ≡ is_right_report known later word fields
  right_report report.Comm fields read is_held same follows parents =
      rw (report_group (ranks_in known.marks) report.Comm fields refl read) (by known.last is_held same)
    where
      by : (held : Option LastCall) → IsLast (ranks_in known.marks) lines held → ((it : LastCall) → held ≡ Some it → fields_at later it.line ≡ fields_at lines it.line) → is_made_by (owner_of known) lines (last_entry lines) (naturals (group_fields (Report report.Comm) fields)) ≡ is_made_by_last known later held (group_fields (Report report.Comm) fields)
      by None none fields_same = rw none refl
      by (Some it) held fields_same =
          let may = and_parts (may_bring_comm held.entry.word held.entry.fields) (not (brought_or_not held.entry)) (rw held.is at follows) in
          rw (held.is, held.word, fields_same it refl ∙ held.fields) (made_is held.entry.word held.entry.fields (group_fields (Report report.Comm) fields) held.entry refl refl held.read may.0)
  right_report report.Idup fields read is_held same follows parents =
      rw (report_group (ranks_in known.marks) report.Idup fields refl read) (
      within_is (parent_in lines (numbers_by is_request (record { word = Report report.Idup; fields = fields }))) (naturals (group_fields (Report report.Idup) fields))
      ∙ ap (λ it. is_right_group known.rank (group_by known later it) (naturals (group_fields (Report report.Idup) fields))) (on_second fields ∙ by (second_natural fields)))
    where
      by : (request : Option ℕ) → option_and_then (parent_of lines) request ≡ duplicated_by known request
      by None = refl
      by (Some request) = sym (parents request)
  right_report report.Apart fields read is_held same follows parents =
      rw (report_group (ranks_in known.marks) report.Apart fields refl read) refl
  right_report _ fields read is_held same follows parents = refl
