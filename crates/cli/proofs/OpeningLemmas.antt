-- What an opener's answers say of what becomes of files, those that are measured too.
use Rattle.std.proofs.Common.{◌≡◌, ◌⊎◌, ◌<◌, ◌+◌, ℕ, Option, Some, List, Bor, Result, Ok, Err, IfErr, IsErrAnd, OnOk, get_or, length, option_map, subst, sym, inl, inr}
use Rattle.std.proofs.lemmas.List.Elements.{AllWithin-more}
use Rattle.std.proofs.lemmas.List.{get_or_default}
use Rattle.std.specs.List.{AllWithin}
use Rattle.waitgraph.specs.declared.verdict.Verdict.{Verdict}
use Rattle.cli.specs.Openings.{Fate, Unopened, Opened, ReadFailed, fate_of}
use Rattle.cli.specs.Texts.{IsCounted, IsFaultOfCheck, IsFirstUnopened}
use Rattle.cli.specs.declared.fault.Fault.{Fault}
use Rattle.cli.specs.declared.fault.Fault.TheVariants.{Open, ReadHead, Memory}
use Rattle.cli.specs.declared.measured.MeasuredInput.{MeasuredInput}
use Rattle.cli.specs.declared.options.Options.{Options}
use Rattle.cli.specs.inner.Openings.{input_within}
use Rattle.cli.specs.inner.Shown.{AnswersCheck}
use Rattle.cli.specs.inner.Texts.{IsFaultOfOpening}
use Rattle.mpigroup.specs.Groups.{Groups}

abbrev Text : Type 0
Text = List ℕ

-- one more file was opened
pub opened_more : {I : Type 0} (left : I → Option Text) (failures : I → ℕ) (may_give : Text → Option I → Type 0) (paths : List (Bor Text)) (i : ℕ) (input : I) (d : Bor Text) (answer : Option I) →
    AllWithin (λ path. fate_of left failures may_give path.now Opened) paths 0 i → i < length paths → may_give (get_or paths i d).now answer → answer ≡ Some input →
    AllWithin (λ path. fate_of left failures may_give path.now Opened) paths 0 (i + 1)
opened_more left failures may_give paths i input d answer before within gives is =
    AllWithin-more (λ path. fate_of left failures may_give path.now Opened) paths 0 i before
    (λ other. (input, subst (λ (path : Bor Text). may_give path.now (Some input)) (get_or_default paths i d other within) (subst (may_give (get_or paths i d).now) is gives)))

-- a file was opened, where the opener answered an input
pub opened_where : {I R E : Type 0} (left : I → Option Text) (failures : I → ℕ) (may_give : Text → Option I → Type 0) (path : Text) (input : I) (given : Option I) (answer : Result R E) →
    may_give path given → given ≡ Some input → OnOk answer (fate_of left failures may_give path Opened)
opened_where left failures may_give path input given (Ok it) gives is = (input, subst (may_give path) is gives)
opened_where left failures may_give path input given (Err fault) gives is = tt

-- the faults of opening the files of a check, whose head was opened and read
opening_says : (fate : Text → Fate → Type 0) (told : Text → Option Text) (head : Text) (files : List (Bor Text)) (groups : Groups) (fault : Fault) →
    fate head Opened → IsCounted told head files groups → IsFaultOfOpening fate told files fault → IsFaultOfCheck fate told head files fault
opening_says fate told head files groups (Open path) opened counted says = (says.1, inr (opened, says.0, (groups, counted)))
opening_says fate told head files groups Memory opened counted says = tt
opening_says fate told head files groups fault opened counted says = absurd says

pub opening_passed : {R S : Type 0} (fate : Text → Fate → Type 0) (told : Text → Option Text) (head : Text) (files : List (Bor Text)) (groups : Groups) (opening : Result R Fault) (answer : Result S Fault) (fault : Fault) →
    fate head Opened → IsCounted told head files groups → IfErr opening (IsFaultOfOpening fate told files) → opening ≡ Err fault → IsErrAnd answer (λ told_of. told_of ≡ fault) → IfErr answer (IsFaultOfCheck fate told head files)
opening_passed fate told head files groups opening (Ok it) fault opened counted says is passed = tt
opening_passed {R} fate told head files groups opening (Err other) fault opened counted says is passed =
    subst (λ (f : Fault). IsFaultOfCheck fate told head files f) (sym passed)
    (opening_says fate told head files groups fault opened counted (subst (λ (o : Result R Fault). IfErr o (IsFaultOfOpening fate told files)) is says))

-- what becomes of a file that is measured becomes of the file
pub within_measured : {I : Type 0} (left : I → Option Text) (failures : I → ℕ) (may_give : Text → Option I → Type 0) (path : Text) (fate : Fate) →
    fate_of (λ (m : MeasuredInput I). left (input_within m)) (λ m. failures (input_within m)) (λ path answer. may_give path (option_map input_within answer)) path fate →
    fate_of left failures may_give path fate
within_measured left failures may_give path Unopened is = is
within_measured left failures may_give path Opened is = (input_within is.0, is.1)
within_measured left failures may_give path ReadFailed is = record {
  given = input_within is.given;
  is_given = is.is_given;
  failed = input_within is.failed;
  came = is.came;
  behind = is.behind;
  count = is.count;
}

-- the faults of a check, where more is known of what may become of files
module _ (fate more : Text → Fate → Type 0) (known : (path : Text) (one : Fate) → fate path one → more path one) (told : Text → Option Text) (head : Text) (files : List (Bor Text)) where
  first_by : (path : Bor Text) → IsFirstUnopened fate files path → IsFirstUnopened more files path
  first_by path is = record {
    place = is.place;
    is_there = is.is_there;
    unopened = known path.now Unopened is.unopened;
    before = λ k d low high. known _ Opened (is.before k d low high);
  }

  open_by : (path : Bor Text) → ((path.now ≡ head) × fate head Unopened) ⊎ (fate head Opened × IsFirstUnopened fate files path × ((groups : Groups) × IsCounted told head files groups)) →
      ((path.now ≡ head) × more head Unopened) ⊎ (more head Opened × IsFirstUnopened more files path × ((groups : Groups) × IsCounted told head files groups))
  open_by path (inl of_head) = inl (of_head.0, known head Unopened of_head.1)
  open_by path (inr of_file) = inr (known head Opened of_file.0, first_by path of_file.1, of_file.2)

  fault_by : (fault : Fault) → IsFaultOfCheck fate told head files fault → IsFaultOfCheck more told head files fault
  fault_by (Open path) is = (is.0, open_by path is.1)
  fault_by ReadHead is = known head ReadFailed is
  fault_by fault is = is

-- what a check of measured files answers is what one of the files answers
pub answers_by : {O : Type 0} (bytes : O → Option Text) (failures : O → ℕ) (fate more : Text → Fate → Type 0) (known : (path : Text) (one : Fate) → fate path one → more path one) (told : Text → Option Text) (head : Text) (files : List (Bor Text)) (options : Options) (old new : O) (answer : Result Verdict Fault) →
    AnswersCheck bytes failures fate told head files options old new answer → AnswersCheck bytes failures more told head files options old new answer
answers_by bytes failures fate more known told head files options old new (Ok verdict) says = record {
  verdict = says.verdict;
  fault = tt;
  written = says.written;
  no_write_failed = says.no_write_failed;
  output = tt;
}
answers_by bytes failures fate more known told head files options old new (Err fault) says = record {
  verdict = tt;
  fault = fault_by fate more known told head files fault says.fault;
  written = tt;
  no_write_failed = tt;
  output = says.output;
}

pub answers_unmeasured : {O I : Type 0} (bytes : O → Option Text) (failures : O → ℕ) (left : I → Option Text) (reads_failed : I → ℕ) (may_give : Text → Option I → Type 0) (told : Text → Option Text) (head : Text) (files : List (Bor Text)) (options : Options) (old new : O) (answer : Result Verdict Fault) →
    AnswersCheck bytes failures (fate_of (λ (m : MeasuredInput I). left (input_within m)) (λ m. reads_failed (input_within m)) (λ path given. may_give path (option_map input_within given))) told head files options old new answer →
    AnswersCheck bytes failures (fate_of left reads_failed may_give) told head files options old new answer
answers_unmeasured bytes failures left reads_failed may_give = answers_by bytes failures _ _ (within_measured left reads_failed may_give)
