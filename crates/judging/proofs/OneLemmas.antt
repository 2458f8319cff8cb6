-- What one journal says, by what is known of its file.
use Rattle.std.proofs.Common.{◌≡◌, ◌<◌, ◌∙◌, ℕ, Bool, false, if◌then◌else◌, Option, Some, None, List, [], refl, ap, subst, Bor}
use Rattle.std.specs.Prelude.{option_map, IfSome, Result, Ok, Err, is_some}
use Rattle.std.specs.Option.{option_copied}
use Rattle.journals.specs.Header.{Heading}
use Rattle.journals.specs.Inputs.{text_left}
use Rattle.journals.specs.Journal.{Journal, Fault}
use Rattle.journals.specs.JournalAnswers.{AnswersJournal, FailsFrom, IsCut, heading_in, fault_in}
use Rattle.journals.specs.Text.{text_of}
use Rattle.journals.specs.declared.fault.JournalFault.{JournalFault}
use Rattle.journals.specs.declared.header.Header.{Header}
use Rattle.journals.specs.declared.journal.Journal.{Journal as JournalRead}
use Rattle.journals.specs.declared.journal.JournalError.{JournalError}
use Rattle.journals.specs.declared.journal.JournalError.TheVariants as error
use Rattle.journals.specs.declared.text.TextInput.{TextInput}
use Rattle.closing.specs.Journals.{journal_of, journal_if, journal_in}
use Rattle.judging.specs.JournalTexts.{bytes_in}
use Rattle.judging.specs.inner.OneJournal.{AnswersOne, fault_as, said}

-- the text that an input gives which is fresh
pub text_is : {I : Type 0} (left : I → Option (List ℕ)) (text : TextInput I) (input : I) → text.input ≡ input → text.is_over ≡ false → text_left left text ≡ option_map text_of (left input)
text_is {I} left text input within fresh =
    ap (λ (b : Bool). if b then Some [] else option_map text_of (left text.input)) fresh ∙ ap (λ (i : I). option_map text_of (left i)) within

-- a file that was opened gives its bytes
pub opened_left : {I : Type 0} (left : I → Option (List ℕ)) (known : Option (Option (List ℕ))) (opened : Option I) (input : I) → opened ≡ Some input → IfSome opened (λ i. left i ≡ bytes_in known) → left input ≡ bytes_in known
opened_left {I} left known opened input is says = subst (λ (o : Option I). IfSome o (λ i. left i ≡ bytes_in known)) is says

-- the header of the first journal, as it was found
pub heading_there : (first : Option (Bor Header)) (header : Bor Header) (heading : Option Heading) → first ≡ Some header → option_map heading_in (option_copied first) ≡ heading → Some (heading_in header.now) ≡ heading
heading_there first header heading is says = subst (λ (o : Option (Bor Header)). option_map heading_in (option_copied o) ≡ heading) is says

-- a rank's file is there, since it was found
pub found : (known : Option (Option (List ℕ))) (there : Bool) → IfSome known (λ bytes. there ≡ is_some bytes) → (there ≡ false → ⊥) → known ≡ Some None → ⊥
found None there says is_there none = cc
found (Some None) there says is_there none = is_there says
found (Some (Some bytes)) there says is_there none = cc

module _ (rank : ℕ) (first : Option Heading) where
  said_ok : (bytes : List ℕ) (journal : JournalRead) → AnswersJournal rank first (Some (text_of bytes)) (Ok journal) → said rank first bytes ≡ Ok (Some (journal_in journal))
  unfolding journal_of
  said_ok bytes journal answers = ap (λ (r : Result Journal Fault). journal_if rank r) answers

  pub one_ok : (known : Option (Option (List ℕ))) (text : Option (List ℕ)) (journal : JournalRead) → text ≡ option_map text_of (bytes_in known) → (known ≡ Some None → 0 < rank → ⊥) →
      AnswersJournal rank first text (Ok journal) → AnswersOne known rank first (Ok (Some journal))
  one_ok known text journal is there answers = by known there (subst (λ (t : Option (List ℕ)). AnswersJournal rank first t (Ok journal)) is answers)
    where
      by : (k : Option (Option (List ℕ))) → (k ≡ Some None → 0 < rank → ⊥) → AnswersJournal rank first (option_map text_of (bytes_in k)) (Ok journal) → AnswersOne k rank first (Ok (Some journal))
      by None there answers = (tt, λ none later. absurd (there none later))
      by (Some None) there answers = (tt, λ none later. absurd (there none later))
      by (Some (Some bytes)) there answers = (said_ok bytes journal answers, λ none later. absurd (there none later))

  of_lines : (bytes : List ℕ) (fault : JournalFault) → AnswersJournal rank first (Some (text_of bytes)) (Err (error.Fault fault)) → journal_of rank first bytes ≡ Err (fault_in fault)
  unfolding journal_of
  of_lines bytes fault answers = answers

  said_err : (k : Option (Option (List ℕ))) (fault : JournalFault) → AnswersJournal rank first (option_map text_of (bytes_in k)) (Err (error.Fault fault)) →
      IfSome (bytes_in k) (λ bytes. said rank first bytes ≡ Err (record { rank = rank; fault = fault_in fault }))
  said_err None fault answers = tt
  said_err (Some None) fault answers = tt
  said_err (Some (Some bytes)) fault answers = ap (λ (r : Result Journal Fault). journal_if rank r) (of_lines bytes fault answers)

  pub one_err : (known : Option (Option (List ℕ))) (text left : Option (List ℕ)) (failed : JournalError) → text ≡ option_map text_of (bytes_in known) → (known ≡ Some None → 0 < rank → ⊥) →
      AnswersJournal rank first text (Err failed) → FailsFrom {X = JournalRead} 1 text left (Err failed) → AnswersOne known rank first (Err (fault_as rank failed))
  one_err known text left (error.Fault fault) is there answers cut =
      (refl, said_err known fault (subst (λ (t : Option (List ℕ)). AnswersJournal rank first t (Err (error.Fault fault))) is answers), there)
  one_err known text left (error.ReadFailed line) is there answers cut = (refl, (cut.0, cut.1, (left, subst (λ (t : Option (List ℕ)). IsCut t left cut.0) is cut.2)))
  one_err known text left error.Memory is there answers cut = tt
