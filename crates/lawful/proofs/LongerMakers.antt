-- A call that makes communicators stands for the same when its journal goes on, but where none is reported.
use Rattle.std.proofs.Common.{◌≡◌, ℕ, ◌&&◌, ◌==◌, not, Bool, true, false, Option, Some, None, if◌then◌else◌, List, [], length, refl, sym, ap, ◌∙◌, eq-eqb}
use Rattle.std.specs.Prelude.{pos, option_map, option_and_then}
use Rattle.std.specs.List.{position_or_len}
use Rattle.std.specs.Option.{option_map_or}
use Rattle.std.specs.Str.{bytes_eq}
use Rattle.mpicall.specs.Word.{or_else}
use Rattle.mpicall.specs.declared.call.Call.{Call}
use Rattle.mpicall.specs.declared.call.Call.TheVariants.{Dup, Split, Coll}
use Rattle.mpicall.specs.declared.call.Kind.TheVariants as kind
use Rattle.journals.specs.Lines.{Line}
use Rattle.journals.specs.Entries.{group_in}
use Rattle.journals.specs.Known.{report_of}
use Rattle.journals.specs.declared.word.ReportWord.TheVariants as report
use Rattle.closing.specs.Called.{Called, Splits, Makes}
use Rattle.closing.specs.Keys.{Key, group_of_key}
use Rattle.closing.specs.RankComms.{Wave, makes_comm, made_in}
use Rattle.closing.specs.Entries.{Run, Placed}
use Rattle.closing.specs.Made.{wave_at, may_give, made_with, reported_group, reported_key, others_key, inferred_key, key_made}
use Rattle.closing.specs.Numbers.{named_key, number_of}
use Rattle.closing.specs.Entry.{brings, parent_rank, parent_group, split_key, giving_line, bare_line, maker_by, maker}
use Rattle.lawful.specs.Longer.{is_maker}
use Rattle.lawful.proofs.LongerLemmas.{More, with_more, IsOver}
use Rattle.lawful.proofs.LongerSteps.{number_same}

-- ---- The communicator ----

or_none : (o : Option Key) → or_else o None ≡ o
or_none None = refl
or_none (Some key) = refl

none_back : (gives back : Bool) (o : Option Key) → back ≡ true → (if gives && not back then o else None) ≡ None
none_back true back o is = rw is refl
none_back false back o is = refl

over_key : (run : Run) (placed : Placed) → placed.came_back ≡ true → key_made run placed ≡ reported_key placed
over_key run placed came =
    ap (λ (o : Option Key). or_else (reported_key placed) o)
    (none_back (may_give placed.called) placed.came_back (option_and_then (others_key run placed.rank) (wave_at placed)) came)
    ∙ or_none (reported_key placed)

by_wave : (o : Option Wave) (group : List ℕ) (b : Bool) (other : Wave → Option Key) → or_else (option_map (made_in group) o) (if b then option_and_then other o else None) ≡ option_map (made_in group) o
by_wave None group true other = refl
by_wave None group false other = refl
by_wave (Some wave) group b other = refl

known_key : (run : Run) (placed : Placed) (line : Line) → makes_comm placed.called ≡ true → report_of report.Comm placed.entry ≡ Some line → key_made run placed ≡ option_map (made_in (group_in line)) (wave_at placed)
known_key run placed line makes_one is =
    ap (λ (o : Option Key). or_else o (inferred_key run placed))
    (ap (λ (b : Bool). if b then option_and_then (made_with (wave_at placed)) (reported_group placed) else None) makes_one
    ∙ ap (λ (o : Option Line). option_and_then (made_with (wave_at placed)) (option_map group_in o)) is)
    ∙ by_wave (wave_at placed) (group_in line) (may_give placed.called && not placed.came_back) (others_key run placed.rank)

-- ---- The call ----

abbrev made_by : Placed → ℕ → Key → ℕ → ℕ → Call
made_by placed comm key new ranks =
    if bytes_eq (group_of_key ranks key) (option_map_or (group_of_key ranks) (named_key placed) []) then Dup comm new
    else Split comm (Some (parent_rank (option_map_or (group_of_key ranks) (named_key placed) []) (group_of_key ranks key)))
    (pos (position_or_len (λ member. member == placed.rank) (group_of_key ranks key))) (Some new)

giving_same : (run longer : Run) (placed : Placed) (it : More placed) (comm : ℕ) (one : Called) (key : Key) (new : ℕ) → length longer ≡ length run → giving_line longer (with_more placed it) comm one key new ≡ giving_line run placed comm one key new
giving_same run longer placed it comm (Splits own (Some colour) split) key new ranks = refl
giving_same run longer placed it comm (Makes own) key new ranks = ap (λ (n : ℕ). made_by placed comm key new n) ranks
giving_same run longer placed it comm _ key new ranks = refl

brings_same : (run longer : Run) (o : Option Wave) → ((wave : Wave) → brings longer wave ≡ brings run wave) → option_map_or (brings longer) o false ≡ option_map_or (brings run) o false
brings_same run longer None same = refl
brings_same run longer (Some wave) same = same wave

bare_same : (run longer : Run) (placed : Placed) (it : More placed) (comm : ℕ) → ((wave : Wave) → brings longer wave ≡ brings run wave) → bare_line longer (with_more placed it) comm ≡ bare_line run placed comm
bare_same run longer placed it comm waves =
    ap (λ (b : Bool). if b then Split comm None (split_key placed.called) None else Coll comm kind.Barrier) (brings_same run longer (wave_at placed) waves)

by_key : (run longer : Run) (placed : Placed) (it : More placed) (comm : ℕ) (key : Option Key) (new : Option ℕ) → length longer ≡ length run → ((wave : Wave) → brings longer wave ≡ brings run wave) → maker_by longer (with_more placed it) comm key new ≡ maker_by run placed comm key new
by_key run longer placed it comm (Some key) (Some new) ranks waves = giving_same run longer placed it comm placed.called key new ranks
by_key run longer placed it comm (Some key) None ranks waves = bare_same run longer placed it comm waves
by_key run longer placed it comm None new ranks waves = bare_same run longer placed it comm waves

maker_same : (run longer : Run) (placed : Placed) (it : More placed) (comm : ℕ) → length longer ≡ length run → ((key : Key) → number_of longer key ≡ number_of run key) → ((wave : Wave) → brings longer wave ≡ brings run wave) → key_made longer (with_more placed it) ≡ key_made run placed → maker longer (with_more placed it) comm ≡ maker run placed comm
maker_same run longer placed it comm ranks numbers waves key =
    ap (λ (o : Option Key). maker_by longer (with_more placed it) comm o (option_and_then (number_of longer) o)) key
    ∙ ap (λ (n : Option ℕ). maker_by longer (with_more placed it) comm (key_made run placed) n) (number_same run longer (key_made run placed) numbers)
    ∙ by_key run longer placed it comm (key_made run placed) (option_and_then (number_of run) (key_made run placed)) ranks waves

pub over_maker : (run longer : Run) (placed : Placed) (it : More placed) (comm : ℕ) → length longer ≡ length run → ((key : Key) → number_of longer key ≡ number_of run key) → ((wave : Wave) → brings longer wave ≡ brings run wave) → IsOver placed (with_more placed it) → maker longer (with_more placed it) comm ≡ maker run placed comm
over_maker run longer placed it comm ranks numbers waves over =
    maker_same run longer placed it comm ranks numbers waves
    (over_key longer (with_more placed it) over.also
    ∙ ap (λ (o : Option Line). if makes_comm placed.called then option_and_then (made_with (wave_at placed)) (option_map group_in o) else None) over.entry
    ∙ sym (over_key run placed over.came))

pub told_maker : (run longer : Run) (placed : Placed) (it : More placed) (comm : ℕ) (line : Line) → length longer ≡ length run → ((key : Key) → number_of longer key ≡ number_of run key) → ((wave : Wave) → brings longer wave ≡ brings run wave) → makes_comm placed.called ≡ true → report_of report.Comm placed.entry ≡ Some line → maker longer (with_more placed it) comm ≡ maker run placed comm
told_maker run longer placed it comm line ranks numbers waves makes_one is =
    maker_same run longer placed it comm ranks numbers waves
    (known_key longer (with_more placed it) line makes_one (it.reports report.Comm line refl is) ∙ sym (known_key run placed line makes_one is))

-- ---- One of the three ----

maker_if : (comm : ℕ) (b : Bool) (one other : Call) → is_maker comm one ≡ true → is_maker comm other ≡ true → is_maker comm (if b then one else other) ≡ true
maker_if comm true one other first second = first
maker_if comm false one other first second = second

giving_makes : (run : Run) (placed : Placed) (comm : ℕ) (one : Called) (key : Key) (new : ℕ) → is_maker comm (giving_line run placed comm one key new) ≡ true
giving_makes run placed comm (Splits own (Some colour) split) key new = eq-eqb comm comm refl
giving_makes run placed comm (Makes own) key new = maker_if comm (bytes_eq (group_of_key (length run) key) (parent_group run placed)) (Dup comm new) _ (eq-eqb comm comm refl) (eq-eqb comm comm refl)
giving_makes run placed comm _ key new = eq-eqb comm comm refl

bare_makes : (run : Run) (placed : Placed) (comm : ℕ) → is_maker comm (bare_line run placed comm) ≡ true
bare_makes run placed comm =
    maker_if comm (option_map_or (brings run) (wave_at placed) false) (Split comm None (split_key placed.called) None) (Coll comm kind.Barrier)
    (eq-eqb comm comm refl) (eq-eqb comm comm refl)

makes_by : (run : Run) (placed : Placed) (comm : ℕ) (key : Option Key) (new : Option ℕ) → is_maker comm (maker_by run placed comm key new) ≡ true
makes_by run placed comm (Some key) (Some new) = giving_makes run placed comm placed.called key new
makes_by run placed comm (Some key) None = bare_makes run placed comm
makes_by run placed comm None new = bare_makes run placed comm

pub maker_makes : (run : Run) (placed : Placed) (comm : ℕ) → is_maker comm (maker run placed comm) ≡ true
maker_makes run placed comm = makes_by run placed comm (key_made run placed) (option_and_then (number_of run) (key_made run placed))
