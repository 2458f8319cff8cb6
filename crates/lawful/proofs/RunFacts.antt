-- The journals of a run that was read without a fault: each is that of its rank.
use Rattle.std.proofs.Common.{◌≡◌, ℕ, zero, suc, ◌+◌, ◌-◌, Option, Some, None, List, [], ◌∷◌, refl, subst, arith}
use Rattle.std.specs.Prelude.{⊤, Result, Ok, Err}
use Rattle.std.specs.List.{range_with_len}
use Rattle.std.proofs.lemmas.Option.{none-some}
use Rattle.journals.specs.Header.{Heading}
use Rattle.journals.specs.Lines.{Line}
use Rattle.journals.specs.Text.{text_of, whole_lines}
use Rattle.journals.specs.Journal.{Journal, Fault}
use Rattle.closing.specs.Entries.{Run, journal_at}
use Rattle.closing.specs.Journals.{RankFault, journal_of, journal_if, journal_from, put_first, journals_from, after_first, run_of}
use Rattle.lawful.proofs.LineFacts.{LinesFit, journal_fits}
use Rattle.lawful.proofs.RightLines.{AreRight, journal_right}
use Rattle.lawful.proofs.JournalEnds.{OnlyLastEnds, only_last}

-- a test that the lines of each journal of a rank pass that was read
abbrev Given : (ℕ → List Line → Type 0) → Type 0
Given P = (rank : ℕ) (first : Option Heading) (bytes : List ℕ) (journal : Journal) → journal_of rank first bytes ≡ Ok journal → P rank journal.lines

abbrev OptionFits : (ℕ → List Line → Type 0) → ℕ → Option Journal → Type 0
OptionFits P rank None = ⊤
OptionFits P rank (Some journal) = P rank journal.lines

-- the lines of each journal pass it, of which the first has this number
abbrev RunFits : (ℕ → List Line → Type 0) → ℕ → List (Option Journal) → Type 0
RunFits P rank [] = ⊤
RunFits P rank (journal ∷ run) = OptionFits P rank journal × RunFits P (rank + 1) run

pub err_ok : {A B : Type 0} (e : B) (x : A) → ◌≡◌ {A = Result A B} (Err e) (Ok x) → ⊥
err_ok e x h = cc

pub same_Ok : {A B : Type 0} (x y : A) → ◌≡◌ {A = Result A B} (Ok x) (Ok y) → x ≡ y
same_Ok x y h = cc

if_fits : (P : ℕ → List Line → Type 0) → Given P → (rank : ℕ) (first : Heading) (text : List ℕ) (o : Option Journal) (r : Result Journal Fault) → journal_of rank (Some first) text ≡ r → journal_if rank r ≡ Ok o → OptionFits P rank o
if_fits P given rank first text o (Err fault) came h = absurd (err_ok _ o h)
if_fits P given rank first text o (Ok journal) came h =
    subst (λ (j : Option Journal). OptionFits P rank j) (same_Ok (Some journal) o h) (given rank (Some first) text journal came)

from_fits : (P : ℕ → List Line → Type 0) → Given P → (rank : ℕ) (first : Heading) (text : Option (List ℕ)) (o : Option Journal) → journal_from first rank text ≡ Ok o → OptionFits P rank o
from_fits P given rank first None o h = subst (λ (j : Option Journal). OptionFits P rank j) (same_Ok None o h) tt
from_fits P given rank first (Some text) o h = if_fits P given rank first text o (journal_of rank (Some first) text) refl h

-- a run that was read is a journal before others that were
pub record Put (a : Result (Option Journal) RankFault) (b : Result (List (Option Journal)) RankFault) (run : List (Option Journal)) : Type 0 where
  pub own : Option Journal
  pub others : List (Option Journal)
  pub own_is : a ≡ Ok own
  pub others_are : b ≡ Ok others
  pub all : own ∷ others ≡ run

pub put : (a : Result (Option Journal) RankFault) (b : Result (List (Option Journal)) RankFault) (run : List (Option Journal)) → put_first a b ≡ Ok run → Put a b run
put (Err fault) b run h = absurd (err_ok fault run h)
put (Ok own) (Err fault) run h = absurd (err_ok fault run h)
put (Ok own) (Ok others) run h = record { own = own; others = others; own_is = refl; others_are = refl; all = same_Ok (own ∷ others) run h }

others_fit : (P : ℕ → List Line → Type 0) → Given P → (first : Heading) (texts : ℕ → Option (List ℕ)) (count rank : ℕ) (run : List (Option Journal)) → journals_from first texts (range_with_len rank count) ≡ Ok run → RunFits P rank run
others_fit P given first texts zero rank run h = subst (λ (r : List (Option Journal)). RunFits P rank r) (same_Ok [] run h) tt
others_fit P given first texts (suc count) rank run h =
    let parts = put (journal_from first rank (texts rank)) (journals_from first texts (range_with_len (rank + 1) count)) run h in
    subst (λ (r : List (Option Journal)). RunFits P rank r) parts.all
    (from_fits P given rank first (texts rank) parts.own parts.own_is, others_fit P given first texts count (rank + 1) parts.others parts.others_are)

first_fits : (P : ℕ → List Line → Type 0) → Given P → (bytes : List ℕ) (texts : ℕ → Option (List ℕ)) (run : List (Option Journal)) (r : Result Journal Fault) → journal_of 0 None bytes ≡ r → after_first r texts ≡ Ok run → RunFits P 0 run
first_fits P given bytes texts run (Err fault) came h = absurd (err_ok _ run h)
first_fits P given bytes texts run (Ok journal) came h =
    let parts = put (Ok (Some journal)) (journals_from journal.heading texts (range_with_len 1 (journal.heading.ranks - 1))) run h in
    let own : Some journal ≡ parts.own = same_Ok (Some journal) parts.own parts.own_is in
    subst (λ (r : List (Option Journal)). RunFits P 0 r) parts.all (
      subst (λ (j : Option Journal). OptionFits P 0 j) own (given 0 None bytes journal came),
      others_fit P given journal.heading texts (journal.heading.ranks - 1) 1 parts.others parts.others_are,
    )

run_fits : (P : ℕ → List Line → Type 0) → Given P → (bytes : List ℕ) (texts : ℕ → Option (List ℕ)) (run : List (Option Journal)) → run_of bytes texts ≡ Ok run → RunFits P 0 run
unfolding run_of
run_fits P given bytes texts run h = first_fits P given bytes texts run (journal_of 0 None bytes) refl h

at_place : (P : ℕ → List Line → Type 0) (run : List (Option Journal)) (first place : ℕ) (journal : Journal) → RunFits P first run → journal_at run place ≡ Some journal → P (first + place) journal.lines
at_place P [] first place journal all h = absurd (none-some journal h)
at_place P (own ∷ run) first zero journal all h =
    subst (λ (n : ℕ). P n journal.lines) (plus_zero first) (subst (λ (o : Option Journal). OptionFits P first o) h all.0)
  where
    plus_zero : (n : ℕ) → n ≡ n + 0
    plus_zero n = omega arith
at_place P (own ∷ run) first (suc place) journal all h =
    subst (λ (n : ℕ). P n journal.lines) (one_more first place) (at_place P run (first + 1) place journal all.1 h)
  where
    one_more : (a b : ℕ) → (a + 1) + b ≡ a + suc b
    one_more a b = omega arith

-- each journal of a run that was read passes what each journal does that was read
journal_passes : (P : ℕ → List Line → Type 0) → Given P → (bytes : List ℕ) (texts : ℕ → Option (List ℕ)) (run : Run) → run_of bytes texts ≡ Ok run → (rank : ℕ) (journal : Journal) → journal_at run rank ≡ Some journal → P rank journal.lines
journal_passes P given bytes texts run h rank journal is =
    subst (λ (n : ℕ). P n journal.lines) (zero_plus rank) (at_place P run 0 rank journal (run_fits P given bytes texts run h) is)
  where
    zero_plus : (n : ℕ) → 0 + n ≡ n
    zero_plus n = omega arith

of_fits : (rank : ℕ) (first : Option Heading) (bytes : List ℕ) (journal : Journal) → journal_of rank first bytes ≡ Ok journal → LinesFit rank journal.lines
unfolding journal_of
of_fits rank first bytes journal is = journal_fits rank first (whole_lines (text_of bytes)) journal is

-- the lines of a journal of a run that was read fit its rank
pub lines_of_rank : (bytes : List ℕ) (texts : ℕ → Option (List ℕ)) (run : Run) → run_of bytes texts ≡ Ok run → (rank : ℕ) (journal : Journal) → journal_at run rank ≡ Some journal → LinesFit rank journal.lines
lines_of_rank = journal_passes LinesFit of_fits

abbrev RightLines : ℕ → List Line → Type 0
RightLines rank lines = AreRight [] lines

of_right : Given RightLines
unfolding journal_of
of_right rank first bytes journal is = journal_right rank first (whole_lines (text_of bytes)) journal is

-- each line of a journal of a run that was read is right after those before it
pub right_of_rank : (bytes : List ℕ) (texts : ℕ → Option (List ℕ)) (run : Run) → run_of bytes texts ≡ Ok run → (rank : ℕ) (journal : Journal) → journal_at run rank ≡ Some journal → AreRight [] journal.lines
right_of_rank = journal_passes RightLines of_right

-- in a journal of a run that was read nothing comes after a finalize or exit
pub ends_of_rank : (bytes : List ℕ) (texts : ℕ → Option (List ℕ)) (run : Run) → run_of bytes texts ≡ Ok run → (rank : ℕ) (journal : Journal) → journal_at run rank ≡ Some journal → OnlyLastEnds journal.lines
ends_of_rank bytes texts run h rank journal is = only_last [] journal.lines (right_of_rank bytes texts run h rank journal is)
