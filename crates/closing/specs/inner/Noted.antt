-- The reports of an entry as the code keeps them, by places of lines, and the last call line of a journal.
use Rattle.std.specs.Prelude.{◌≡◌, ℕ, ◌+◌, ◌≤◌, Bool, true, false, ◌||◌, not, ◌==◌, Option, Some, None, List, length, drop, slice_get}
use Rattle.std.specs.List.{list_any, find}
use Rattle.journals.specs.Lines.{Line}
use Rattle.journals.specs.Faults.{is_cut}
use Rattle.journals.specs.Words.{is_call}
use Rattle.journals.specs.Taking.{word_at}
use Rattle.journals.specs.Entries.{listing_of}
use Rattle.journals.specs.Known.{is_report}
use Rattle.journals.specs.declared.word.Word.{Word}
use Rattle.journals.specs.declared.word.Word.TheVariants.{Call, Report}
use Rattle.journals.specs.declared.word.CallWord.{CallWord}
use Rattle.journals.specs.declared.word.ReportWord.{ReportWord}
use Rattle.journals.specs.declared.word.ReportWord.TheVariants as report
use Rattle.closing.specs.Entries.{says_back, comes_always}
use Rattle.closing.specs.declared.last.Reports.{Reports}
use Rattle.closing.specs.declared.last.LastCall.{LastCall}

-- there are places for all lines
abbrev pub HavePlaces : List Line → Type 0
HavePlaces lines = length lines ≤ 4294967295

-- the line at a place, where there is a place, else another
abbrev pub line_or : List Line → Option ℕ → Option Line → Option Line
line_or lines None other = other
line_or lines (Some place) other = slice_get lines place

abbrev pub line_if : List Line → Option ℕ → Option Line
line_if lines place = line_or lines place None

-- the word of a report
abbrev pub report_if : Option Word → Option ReportWord
report_if (Some (Report word)) = Some word
report_if _ = None

-- that of a call
abbrev pub call_if : Option Word → Option CallWord
call_if (Some (Call word)) = Some word
call_if _ = None

abbrev pub is_cut_if : Option CallWord → Bool
is_cut_if None = false
is_cut_if (Some word) = is_cut word

-- ---- The reports of an entry ----

-- those of the call line before these lines
abbrev pub reports_in : List Line → List Line
reports_in later = (listing_of later).early

-- the first of a word, of some reports
abbrev pub first_report : ReportWord → List Line → Option Line
first_report word reports = find (λ line. is_report word line.word) reports

abbrev pub some_report : ReportWord → List Line → Bool
some_report word reports = list_any (λ line. is_report word line.word) reports

-- what is kept of reports before others, and what the others say, is what all say
pub record SaysWith (lines all others : List Line) (it : Reports) : Type 0 where
  pub got : line_or lines it.got (first_report report.Got others) ≡ first_report report.Got all
  pub chose : line_or lines it.chose (first_report report.Chose others) ≡ first_report report.Chose all
  pub comm : line_or lines it.comm (first_report report.Comm others) ≡ first_report report.Comm all
  pub has_failed : (it.has_failed || some_report report.Failed others) ≡ some_report report.Failed all

-- these are the reports, the first of which has the place `start`
pub record AreReports (lines : List Line) (start : ℕ) (reports : List Line) (it : Reports) : Type 0 where
  pub got : line_if lines it.got ≡ first_report report.Got reports
  pub chose : line_if lines it.chose ≡ first_report report.Chose reports
  pub comm : line_if lines it.comm ≡ first_report report.Comm reports
  pub has_failed : it.has_failed ≡ some_report report.Failed reports
  pub end : it.end ≡ start + length reports

-- the place of a first line stays
abbrev pub first_place : Option ℕ → ℕ → Option ℕ
first_place None place = Some place
first_place (Some first) place = Some first

-- after a report at a place
abbrev pub noted : Reports → ReportWord → ℕ → Reports
noted it report.Got place = record it { got = first_place it.got place }
noted it report.Chose place = record it { chose = first_place it.chose place }
noted it report.Comm place = record it { comm = first_place it.comm place }
noted it report.Failed place = record it { has_failed = true }
noted it word place = it

-- ---- The last call line ----

abbrev pub has_call : List Line → Bool
has_call lines = list_any (λ line. is_call line.word) lines

-- a report among them says that the call before them came back
abbrev pub say_back : List Line → Bool
say_back reports = list_any (λ line. says_back line.word) reports

-- the call of a line before some others came back, in a journal whose rank is outside its last call or isn't
abbrev pub comes_back : Bool → CallWord → List Line → Bool
comes_back is_outside word later =
    has_call later || is_outside || say_back (reports_in later) || comes_always word

-- no call line is from a place on, and whether a report from there on says that the call before came back
pub record IsSeenFrom (lines : List Line) (is_outside : Bool) (place : ℕ) (came_back : Bool) : Type 0 where
  pub none : has_call (drop place lines) ≡ false
  pub back : came_back ≡ (is_outside || say_back (reports_in (drop place lines)))

-- no call line is after it
pub record CameLast (lines : List Line) (is_outside : Bool) (last : LastCall) (word : CallWord) : Type 0 where
  pub at : word_at lines last.line ≡ Some (Call word)
  pub none : has_call (drop (last.line + 1) lines) ≡ false
  pub back : last.came_back ≡ comes_back is_outside word (drop (last.line + 1) lines)

abbrev pub IsLastCall : List Line → Bool → Option LastCall → Type 0
IsLastCall lines is_outside None = has_call lines ≡ false
IsLastCall lines is_outside (Some last) = (word : CallWord) × CameLast lines is_outside last word

-- the call at a place came back
abbrev pub came_back_at : Option LastCall → ℕ → Bool
came_back_at None place = true
came_back_at (Some last) place = not (last.line == place) || last.came_back
