-- A wait of which it is reported what it chose came back.
use Rattle.std.proofs.Common.{◌≡◌, refl, ℕ, ◌+◌, Bool, true, false, ◌||◌, cond, Some, List, [], ◌∷◌, drop}
use Rattle.std.specs.List.{find, list_any}
use Rattle.journals.specs.Journal.{Journal}
use Rattle.journals.specs.Known.{is_report}
use Rattle.journals.specs.Lines.{Line}
use Rattle.journals.specs.Words.{is_call}
use Rattle.journals.specs.declared.word.CallWord.{CallWord}
use Rattle.journals.specs.declared.word.Word.{Word}
use Rattle.journals.specs.declared.word.Word.TheVariants.{Call, Report}
use Rattle.journals.specs.declared.word.ReportWord.TheVariants as report
use Rattle.closing.specs.Entries.{comes_always, says_back}
use Rattle.closing.specs.inner.Noted.{reports_in}
use Rattle.closing.specs.inner.SoFar.{placed_here}
use Rattle.closing.specs.inner.Taken.{IsBack}

says_chose : (word : Word) → is_report report.Chose word ≡ true → says_back word ≡ true
says_chose (Call word) e = refl
says_chose (Report report.Done) e = cc
says_chose (Report report.Gone) e = cc
says_chose (Report report.Kept) e = cc
says_chose (Report report.Moved) e = cc
says_chose (Report report.Apart) e = cc
says_chose (Report word) e = refl

chose_among : (lines : List Line) (line : Line) → find (λ line. is_report report.Chose line.word) lines ≡ Some line → list_any (λ line. says_back line.word) lines ≡ true
chose_among [] line e = cc
chose_among (one ∷ lines) line e = by_test (chose_among lines line) (is_report report.Chose one.word) refl e
  where
    by_back : (b c : Bool) → c ≡ true → (b || c) ≡ true
    by_back true c e = refl
    by_back false c e = e

    by_first : (b c : Bool) → b ≡ true → (b || c) ≡ true
    by_first true c e = refl
    by_first false c e = cc

    by_test : (find (λ line. is_report report.Chose line.word) lines ≡ Some line → list_any (λ line. says_back line.word) lines ≡ true) → (b : Bool) → is_report report.Chose one.word ≡ b → cond b (Some one) (find (λ line. is_report report.Chose line.word) lines) ≡ Some line
        → (says_back one.word || list_any (λ line. says_back line.word) lines) ≡ true
    by_test others true is found = by_first (says_back one.word) (list_any (λ line. says_back line.word) lines) (says_chose one.word is)
    by_test others false is found = by_back (says_back one.word) (list_any (λ line. says_back line.word) lines) (others found)

third_is : (a b c d : Bool) → c ≡ true → (a || b || c || d) ≡ true
third_is true true true true e = refl
third_is true true true false e = refl
third_is true false true true e = refl
third_is true false true false e = refl
third_is false true true true e = refl
third_is false true true false e = refl
third_is false false true true e = refl
third_is false false true false e = refl
third_is a b false d e = cc

pub is_back : (rank : ℕ) (journal : Journal) (place : ℕ) (word : CallWord) → IsBack (placed_here rank journal place word)
is_back rank journal place word = record {
  chose = λ line e. third_is (list_any (λ line. is_call line.word) (drop (place + 1) journal.lines)) journal.heading.is_outside
      (list_any (λ line. says_back line.word) (reports_in (drop (place + 1) journal.lines))) (comes_always word)
      (chose_among (reports_in (drop (place + 1) journal.lines)) line e);
}
