-- A text that begins with `=` is no call word's, and one that doesn't is no report word's.
use Rattle.std.proofs.Common.{◌≡◌, refl, sym, ℕ, true, false, Option, Some, None, List, [], ◌∷◌, option_map, MatchOption}
use Rattle.std.proofs.lemmas.Bool.{eqb-true}
use Rattle.mpicall.specs.Word.{or_else}
use Rattle.journals.specs.Words.{call_row, call_word_of, report_row, report_word_of, row_of, word_of}
use Rattle.journals.specs.inner.Places.{begins_report}
use Rattle.journals.specs.inner.Taking.{HasNoWord, HasWord}
use Rattle.journals.specs.declared.word.CallWord.{CallWord}
use Rattle.journals.specs.declared.word.ReportWord.{ReportWord}
use Rattle.journals.specs.declared.word.Word.{Word}
use Rattle.journals.specs.declared.word.Word.TheVariants.{Call, Report}
use Rattle.journals.specs.declared.word.CallWord.TheVariants as call
use Rattle.journals.specs.declared.word.ReportWord.TheVariants as report

no_call : (text : List ℕ) → begins_report text ≡ true → call_word_of text ≡ None
no_call [] is = cc
no_call (byte ∷ bytes) is = let at : byte ≡ 61 = eqb-true byte 61 is in rw at refl

no_report : (text : List ℕ) → begins_report text ≡ false → report_word_of text ≡ None
no_report [] is = refl
no_report (byte ∷ bytes) is = rw is refl

none_else : {A : Type 0} (x : Option A) → or_else x None ≡ x
none_else None = refl
none_else (Some it) = refl

pub report_alone : (text : List ℕ) → begins_report text ≡ true → word_of text ≡ option_map Report (report_word_of text)
unfolding word_of
report_alone text is = rw (no_call text is) refl

pub call_alone : (text : List ℕ) → begins_report text ≡ false → word_of text ≡ option_map Call (call_word_of text)
unfolding word_of
call_alone text is = rw (no_report text is) (none_else (option_map Call (call_word_of text)))

-- the text of each word is its own alone
call_spelled : (word : CallWord) → word_of (call_row word).text ≡ Some (Call word)
unfolding word_of
call_spelled call.Isend = refl
call_spelled _ = refl

report_spelled : (word : ReportWord) → word_of (report_row word).text ≡ Some (Report word)
unfolding word_of
report_spelled report.Got = refl
report_spelled _ = refl

pub spelled : (word : Word) → word_of (row_of word).text ≡ Some word
spelled (Call word) = call_spelled word
spelled (Report word) = report_spelled word

-- the first text spells a word, or none
pub word_read : (read : Option Word) (text : List ℕ) (old rest : List (List ℕ)) → read ≡ word_of text → old ≡ text ∷ rest → MatchOption read (HasNoWord old) (λ word. HasWord word old rest)
word_read None text old rest is first = rw first (sym is)
word_read (Some word) text old rest is first = record { text = text; first = first; spells = sym is }

pub no_first : (old : List (List ℕ)) → old ≡ [] → HasNoWord old
no_first old is = rw is tt

pub no_word_read : (read : Option Word) (old new : List (List ℕ)) → read ≡ None → MatchOption read (HasNoWord old) (λ word. HasWord word old new) → HasNoWord old
no_word_read None old new none m = m
no_word_read (Some word) old new none m = cc

-- a word that doesn't come often is read of the same texts
pub read_of_same : (often : Option Word) (read : Option Word) (old mid new : List (List ℕ)) → often ≡ None → MatchOption often (mid ≡ old) (λ word. old ≡ (row_of word).text ∷ mid) → MatchOption read (HasNoWord mid) (λ word. HasWord word mid new) → MatchOption read (HasNoWord old) (λ word. HasWord word old new)
read_of_same None read old mid new none same m = rw same at m
read_of_same (Some word) read old mid new none same m = cc
