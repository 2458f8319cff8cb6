-- What each line that is read says of the journal of a text.
use Rattle.std.proofs.Common.{◌≡◌, ℕ, ◌+◌, ◌-◌, ◌≤◌, Bool, false, if◌then◌else◌, List, [], ◌∷◌, length, take, Option, Some, None, option_map, Result, Ok, Err, sym, ap, ◌∙◌, refl, subst, arith}
use Rattle.std.proofs.lemmas.Bool.{lt-leb}
use Rattle.std.proofs.lemmas.List.{length-take}
use Rattle.journals.specs.Text.{whole_lines, is_too_long}
use Rattle.journals.specs.Lines.{Line, line_of}
use Rattle.journals.specs.Header.{Heading, heading_of}
use Rattle.journals.specs.Faults.{Owner, fault_of_line}
use Rattle.journals.specs.Journal.{Fault, Journal, unless_fault, checked_line, line_after, read_on, lines_after, first_moved_wrongly, unless_moved_wrongly, unless_place, with_heading, no_header, after_header, journal_of_lines}
use Rattle.journals.specs.inner.Knows.{Answers}
use Rattle.journals.specs.Taking.{fields_at}
use Rattle.journals.specs.inner.Taking.{Takes, TakesLine}
use Rattle.journals.specs.inner.Reader.{coming, ComesNext, NoneComes}
use Rattle.journals.specs.JournalAnswers.{heading_in, AnswersJournal, FailsFrom}
use Rattle.std.specs.Prelude.{IfErr}
use Rattle.journals.specs.inner.JournalAnswers.{TakesText, FindsLine, IsNoHeader, HeadsJournal, AnswersLines, lines_to_come, AnswersComing, GoesOn, IsNoFailedRead, fault_as}
use Rattle.journals.specs.declared.fault.JournalFaultKind.TheVariants as kind
use Rattle.journals.specs.declared.header.Header.{Header}
use Rattle.journals.specs.declared.journal.JournalError.{JournalError}
use Rattle.journals.specs.declared.journal.JournalError.TheVariants as error
use Rattle.journals.specs.declared.line.LineFault.{LineFault}
use Rattle.journals.specs.declared.lines.Taken.{Taken}
use Rattle.journals.specs.declared.line.LineFault.TheVariants.{Journal as Wrong, Memory}
use Rattle.journals.proofs.ReadLines.{taken_next}

module _ (owner : Owner) (lines : List Line) where
  -- no line is left
  pub answers_end : (texts : Option (List (List ℕ))) → NoneComes texts → AnswersComing (lines_to_come owner lines texts) (Ok lines)
  answers_end None none = tt
  answers_end (Some texts) none = ap (lines_after owner lines) none

  -- the search of the next line failed
  pub answers_found : (number : ℕ) (texts : Option (List (List ℕ))) (held : List ℕ) (left : Option (List ℕ)) (failed : JournalError) → number ≡ length lines + 2 → FindsLine number texts held left (Err failed) → AnswersComing (lines_to_come owner lines texts) (Err failed)
  answers_found number None held left failed number_is found = tt
  answers_found number (Some texts) held left (error.Fault fault) number_is found =
      let long : lines_after owner lines (found.0.0 ∷ found.0.1) ≡ Err (record { line = length lines + 2; kind = kind.TooLong }) =
      ap (λ (b : Bool). read_on lines (if b then Err kind.TooLong else checked_line owner lines (line_of owner.ranks found.0.0)) (λ ls. lines_after owner ls found.0.1)) found.0.3 in
      ap (lines_after owner lines) found.0.2 ∙ long ∙ ap (λ n. Err (record { line = n; kind = kind.TooLong })) (sym number_is) ∙ ap (λ (f : Fault). Err f) (sym found.1)
  answers_found number (Some texts) held left (error.ReadFailed line) number_is found = tt
  answers_found number (Some texts) held left error.Memory number_is found = tt

  short_line : (text : List ℕ) → is_too_long text ≡ false → line_after owner lines text ≡ checked_line owner lines (line_of owner.ranks text)
  short_line text short = ap (λ (b : Bool). if b then Err kind.TooLong else checked_line owner lines (line_of owner.ranks text)) short

-- ---- One line that is held ----

pub take_unread : (owner : Owner) (old new : List Line) (text : List ℕ) (number : ℕ) (fault : LineFault) → is_too_long text ≡ false → TakesLine (line_of owner.ranks text) old new (Err fault) → TakesText owner number old new text (Err (fault_as number fault))
take_unread owner old new text number (Wrong it) short takes = (short_line owner old text short ∙ ap (checked_line owner old) takes.0, refl)
take_unread owner old new text number Memory short takes = tt

pub take_refused : (owner : Owner) (old new : List Line) (text : List ℕ) (number : ℕ) (taken : Taken) (fault : LineFault) → is_too_long text ≡ false → Takes (line_of owner.ranks text) old new taken → Answers owner (take taken.line new) (record { word = taken.word; fields = fields_at new taken.line }) (Err fault) → TakesText owner number old new text (Err (fault_as number fault))
take_refused owner old new text number taken (Wrong it) short takes answer =
    let same = taken_next owner.ranks text old new taken takes in
    let found : fault_of_line owner old takes.line ≡ Some it = ap (λ ls. fault_of_line owner ls takes.line) (sym same.0) ∙ ap (fault_of_line owner (take taken.line new)) (sym same.1) ∙ answer in
    (short_line owner old text short ∙ ap (checked_line owner old) takes.says ∙ ap (λ it. unless_fault it takes.line) found, refl)
take_refused owner old new text number taken Memory short takes answer = tt

pub take_taken : (owner : Owner) (old new : List Line) (text : List ℕ) (number : ℕ) (taken : Taken) → is_too_long text ≡ false → Takes (line_of owner.ranks text) old new taken → fault_of_line owner (take taken.line new) (record { word = taken.word; fields = fields_at new taken.line }) ≡ None → TakesText owner number old new text (Ok tt)
take_taken owner old new text number taken short takes answer =
    let same = taken_next owner.ranks text old new taken takes in
    let found : fault_of_line owner old takes.line ≡ None = ap (λ ls. fault_of_line owner ls takes.line) (sym same.0) ∙ ap (fault_of_line owner (take taken.line new)) (sym same.1) ∙ answer in
    (takes.line, short_line owner old text short ∙ ap (checked_line owner old) takes.says ∙ ap (λ it. unless_fault it takes.line) found, takes.lines)

-- what a line that was taken, or its fault, says of the lines to come
pub next_taken : (owner : Owner) (number : ℕ) (old new : List Line) (text : List ℕ) (texts rest : Option (List (List ℕ))) → ComesNext texts text rest → TakesText owner number old new text (Ok tt) → GoesOn (lines_to_come owner old texts) (lines_to_come owner new rest)
next_taken owner number old new text None rest next takes = tt
next_taken owner number old new text (Some texts) None next takes = absurd next
next_taken owner number old new text (Some texts) (Some rest) next takes =
    ap (λ ls. Some (lines_after owner ls rest)) takes.2
    ∙ ap (λ (it : Result (List Line) Fault). Some it) (sym (ap (lines_after owner old) next ∙ ap (λ said. read_on old said (λ ls. lines_after owner ls rest)) takes.1))

pub next_wrong : (owner : Owner) (number : ℕ) (old new : List Line) (text : List ℕ) (texts rest : Option (List (List ℕ))) (failed : JournalError) → number ≡ length old + 2 → ComesNext texts text rest → TakesText owner number old new text (Err failed) → AnswersComing (lines_to_come owner old texts) (Err failed)
next_wrong owner number old new text None rest failed number_is next takes = tt
next_wrong owner number old new text (Some texts) None failed number_is next takes = absurd next
next_wrong owner number old new text (Some texts) (Some rest) (error.Fault fault) number_is next takes =
    ap (lines_after owner old) next
    ∙ ap (λ said. read_on old said (λ ls. lines_after owner ls rest)) takes.0
    ∙ ap (λ n. Err (record { line = n; kind = fault.kind })) (sym number_is ∙ sym takes.1)
next_wrong owner number old new text (Some texts) (Some rest) (error.ReadFailed line) number_is next takes = absurd takes
next_wrong owner number old new text (Some texts) (Some rest) error.Memory number_is next takes = tt

pub goes_same : (a : Option (Result (List Line) Fault)) → GoesOn a a
goes_same None = tt
goes_same (Some said) = refl

pub goes_further : (a b c : Option (Result (List Line) Fault)) → GoesOn a b → GoesOn b c → GoesOn a c
goes_further None b c first second = tt
goes_further (Some said) None c first second = cc
goes_further (Some said) (Some other) c first second = second ∙ first

pub answers_back : (a b : Option (Result (List Line) Fault)) (result : Result (List Line) JournalError) → GoesOn a b → AnswersComing b result → AnswersComing a result
answers_back None b result on answers = tt
answers_back (Some said) None result on answers = cc
answers_back (Some said) (Some other) result on answers =
    let same : other ≡ said = cc in subst (λ it. AnswersLines it result) same answers

-- the same of lines whose moved receives are looked at last
abbrev Checked : Option (Result (List Line) Fault) → Option (Result (List Line) Fault)
Checked said = option_map unless_moved_wrongly said

pub checked_last : (a b : Option (Result (List Line) Fault)) (lines : List Line) (result : Result (List Line) JournalError) → GoesOn a b → AnswersComing b (Ok lines) → AnswersLines (unless_moved_wrongly (Ok lines)) result → AnswersComing (Checked a) result
checked_last None b lines result on answered checked = tt
checked_last (Some said) None lines result on answered checked = cc
checked_last (Some said) (Some other) lines result on answered checked =
    let first : other ≡ said = cc in
    let same : said ≡ Ok lines = sym first ∙ answered in
    subst (λ it. AnswersLines (unless_moved_wrongly it) result) (sym same) checked

failed_checked : (said : Result (List Line) Fault) (failed : JournalError) → AnswersLines said (Err failed) → AnswersLines (unless_moved_wrongly said) (Err failed)
failed_checked said (error.Fault fault) answered = ap unless_moved_wrongly answered
failed_checked said (error.ReadFailed line) answered = tt
failed_checked said error.Memory answered = tt

pub checked_failed : (a b : Option (Result (List Line) Fault)) (failed : JournalError) → GoesOn a b → AnswersComing b (Err failed) → AnswersComing (Checked a) (Err failed)
checked_failed None b failed on answered = tt
checked_failed (Some said) None failed on answered = cc
checked_failed (Some said) (Some other) failed on answered =
    let same : other ≡ said = cc in
    failed_checked said failed (subst (λ it. AnswersLines it (Err failed)) same answered)

-- no read failed of lines that are checked
pub checked_cut : (number : ℕ) (old left : Option (List ℕ)) (result : Result (List Line) JournalError) → IfErr result IsNoFailedRead → FailsFrom {X = List Line} number old left result
checked_cut number old left (Ok lines) whole = tt
checked_cut number old left (Err (error.Fault fault)) whole = tt
checked_cut number old left (Err (error.ReadFailed line)) whole = absurd whole
checked_cut number old left (Err error.Memory) whole = tt

-- ---- Lines that are all right ----

placed_right : (heading : Heading) (lines : List Line) (place : Option ℕ) (journal : Journal) → with_heading heading (unless_place lines place) ≡ Ok journal → with_heading heading (Ok lines) ≡ Ok journal
placed_right heading lines None journal is = is
placed_right heading lines (Some place) journal is = cc

-- a journal without a fault has the lines that were read one after another
pub moved_right : (heading : Heading) (said : Result (List Line) Fault) (journal : Journal) → with_heading heading (unless_moved_wrongly said) ≡ Ok journal → with_heading heading said ≡ Ok journal
moved_right heading (Err fault) journal is = is
moved_right heading (Ok lines) journal is = placed_right heading lines (first_moved_wrongly lines 0 lines) journal is

-- a line that is held isn't too long
pub held_short : (held : List ℕ) (count : ℕ) → 1 ≤ count → count ≤ length held → count ≤ 32768 → is_too_long (take (count - 1) held) ≡ false
held_short held count some within short = lt-leb 32768 (length (take (count - 1) held)) (omega (arith, length-take (count - 1) held))

-- ---- The header ----

-- there is no first line
pub answers_nothing : (rank : ℕ) (first : Option Heading) (text : Option (List ℕ)) → NoneComes (coming [] text) → AnswersJournal rank first text (Err (error.Fault (record { line = 1; kind = kind.Header })))
answers_nothing rank first None none = tt
answers_nothing rank first (Some text) none = ap (journal_of_lines rank first) none

-- there was no memory
pub answers_memory : (rank : ℕ) (first : Option Heading) (text : Option (List ℕ)) → AnswersJournal rank first text (Err error.Memory)
answers_memory rank first None = tt
answers_memory rank first (Some text) = tt

-- the lines to come as they begin after the header
pub answers_begun : (owner own : Owner) (lines : List Line) (window held : List ℕ) (left : Option (List ℕ)) (result : Result (List Line) JournalError) → owner ≡ own → lines ≡ [] → window ≡ held → AnswersComing (option_map unless_moved_wrongly (lines_to_come owner lines (coming window left))) result → AnswersComing (option_map unless_moved_wrongly (lines_to_come own [] (coming held left))) result
answers_begun owner own lines window held left result owner_is lines_is window_is answered =
    let of_held = subst (λ (w : List ℕ). AnswersComing (option_map unless_moved_wrongly (lines_to_come owner lines (coming w left))) result) window_is answered in
    let of_none = subst (λ (ls : List Line). AnswersComing (option_map unless_moved_wrongly (lines_to_come owner ls (coming held left))) result) lines_is of_held in
    subst (λ (o : Owner). AnswersComing (option_map unless_moved_wrongly (lines_to_come o [] (coming held left))) result) owner_is of_none

-- the first line is too long, or a read failed before its end
pub answers_long : (rank : ℕ) (first : Option Heading) (text : Option (List ℕ)) (held : List ℕ) (left : Option (List ℕ)) (failed : JournalError) → FindsLine 1 (coming [] text) held left (Err failed) → AnswersJournal rank first text (Err failed)
answers_long rank first None held left failed found = tt
answers_long rank first (Some text) held left (error.Fault fault) found =
    ap (journal_of_lines rank first) found.0.2
    ∙ ap (λ (b : Bool). if b then Err (record { line = 1; kind = kind.TooLong }) else after_header rank first (heading_of rank found.0.0) found.0.1) found.0.3
    ∙ ap (λ (f : Fault). Err f) (sym found.1)
answers_long rank first (Some text) held left (error.ReadFailed line) found = tt
answers_long rank first (Some text) held left error.Memory found = tt

-- what is after a first line that isn't too long
first_short : (rank : ℕ) (first : Option Heading) (texts : List (List ℕ)) (line : List ℕ) (rest : List (List ℕ)) → texts ≡ line ∷ rest → is_too_long line ≡ false → journal_of_lines rank first texts ≡ after_header rank first (heading_of rank line) rest
first_short rank first texts line rest next short =
    ap (journal_of_lines rank first) next
    ∙ ap (λ (b : Bool). if b then Err (record { line = 1; kind = kind.TooLong }) else after_header rank first (heading_of rank line) rest) short

no_heading : (rank : ℕ) (first : Option Heading) (said : Option Heading) (rest : List (List ℕ)) → IsNoHeader first said → after_header rank first said rest ≡ no_header
no_heading rank first None rest is = refl
no_heading rank first (Some heading) rest is =
    ap (λ (b : Bool). if b then with_heading heading (unless_moved_wrongly (lines_after (record { ranks = heading.ranks; rank = rank }) [] rest)) else no_header) is

pub answers_header : (rank : ℕ) (first : Option Heading) (text : Option (List ℕ)) (line : List ℕ) (rest : Option (List (List ℕ))) (failed : JournalError) → ComesNext (coming [] text) line rest → is_too_long line ≡ false → HeadsJournal first (heading_of rank line) (Err failed) → AnswersJournal rank first text (Err failed)
answers_header rank first None line rest failed next short heads = tt
answers_header rank first (Some text) line None failed next short heads = absurd next
answers_header rank first (Some text) line (Some rest) (error.Fault fault) next short heads =
    first_short rank first (whole_lines text) line rest next short ∙ no_heading rank first (heading_of rank line) rest heads.0 ∙ ap (λ (f : Fault). Err f) (sym heads.1)
answers_header rank first (Some text) line (Some rest) (error.ReadFailed number) next short heads = absurd heads
answers_header rank first (Some text) line (Some rest) error.Memory next short heads = tt

-- what the lines after the header say
after_heading : (rank : ℕ) (first : Option Heading) (texts : List (List ℕ)) (line : List ℕ) (rest : List (List ℕ)) (header : Header) → texts ≡ line ∷ rest → is_too_long line ≡ false → HeadsJournal first (heading_of rank line) (Ok header) → journal_of_lines rank first texts ≡ with_heading (heading_in header) (unless_moved_wrongly (lines_after (record { ranks = header.ranks; rank = rank }) [] rest))
after_heading rank first texts line rest header next short heads =
    first_short rank first texts line rest next short
    ∙ ap (λ it. after_header rank first it rest) heads.0
    ∙ ap (λ (b : Bool). if b then with_heading (heading_in header) (unless_moved_wrongly (lines_after (record { ranks = header.ranks; rank = rank }) [] rest)) else no_header) heads.1

pub answers_wrong : (rank : ℕ) (first : Option Heading) (text : Option (List ℕ)) (line : List ℕ) (rest : Option (List (List ℕ))) (header : Header) (failed : JournalError) → ComesNext (coming [] text) line rest → is_too_long line ≡ false → HeadsJournal first (heading_of rank line) (Ok header) → AnswersComing (option_map unless_moved_wrongly (lines_to_come (record { ranks = header.ranks; rank = rank }) [] rest)) (Err failed) → AnswersJournal rank first text (Err failed)
answers_wrong rank first None line rest header failed next short heads answers = tt
answers_wrong rank first (Some text) line None header failed next short heads answers = absurd next
answers_wrong rank first (Some text) line (Some rest) header (error.Fault fault) next short heads answers =
    after_heading rank first (whole_lines text) line rest header next short heads ∙ ap (with_heading (heading_in header)) answers
answers_wrong rank first (Some text) line (Some rest) header (error.ReadFailed number) next short heads answers = tt
answers_wrong rank first (Some text) line (Some rest) header error.Memory next short heads answers = tt

pub answers_all : (rank : ℕ) (first : Option Heading) (text : Option (List ℕ)) (line : List ℕ) (rest : Option (List (List ℕ))) (header : Header) (lines : List Line) → ComesNext (coming [] text) line rest → is_too_long line ≡ false → HeadsJournal first (heading_of rank line) (Ok header) → AnswersComing (option_map unless_moved_wrongly (lines_to_come (record { ranks = header.ranks; rank = rank }) [] rest)) (Ok lines) → AnswersJournal rank first text (Ok (record { header = header; lines = lines }))
answers_all rank first None line rest header lines next short heads answers = tt
answers_all rank first (Some text) line None header lines next short heads answers = absurd next
answers_all rank first (Some text) line (Some rest) header lines next short heads answers =
    after_heading rank first (whole_lines text) line rest header next short heads ∙ ap (with_heading (heading_in header)) answers
