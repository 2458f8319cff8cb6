-- A recording of which one rank's list is changed.
use Rattle.std.proofs.Common.{◌≡◌, ◌∙◌, refl, sym, ap, subst, arith, ℕ, zero, suc, ◌+◌, ◌-◌, ◌<◌, ◌≤◌, true, List, [], ◌∷◌, length, map, set, length-append, inl, inr, ◌⊎◌, Option, Some, None, option_map}
use Rattle.std.specs.Prelude.{is_none, slice_get, zip}
use Rattle.std.proofs.lemmas.Bool.{cases_eq, cases_lt}
use Rattle.std.proofs.lemmas.List.{length-map, length-set}
use Rattle.std.proofs.lemmas.Option.{slice_get-map, slice_get_within}
use Rattle.journals.specs.declared.journal.Journal.{Journal as JournalRead}
use Rattle.closing.specs.Entries.{Run, journal_at}
use Rattle.closing.specs.Entry.{Choice}
use Rattle.closing.specs.Fit.{IsFit}
use Rattle.closing.specs.Journals.{run_in}
use Rattle.closing.specs.Recording.{Listed, calls_of, cut, list_of, most_records, whole_list, without_journal}
use Rattle.closing.specs.Recordings.{ChangesOnly, RecordingView, choice_in}
use Rattle.closing.specs.inner.Rankwise.{IsRecording, IsWalkOf, made_by, left_by, recording_view}
use Rattle.closing.specs.declared.choice.Choice.{Choice as ChoiceMade}
use Rattle.closing.specs.declared.numbers.Communicators.{Communicators}
use Rattle.closing.specs.declared.walk.Walk.{Walk}
use Rattle.closing.proofs.LineLemmas.{taken_count}
use Rattle.closing.proofs.NumberLists.{get_set_other, get_set_same}
use Rattle.closing.proofs.PartLemmas.{cut_long, cut_short}
use Rattle.closing.proofs.RankwiseLemmas.{all_made, rank_part}

-- ---- Lists of ranks ----

-- what stands at a place of both
abbrev both_at : {A B : Type 0} → Option A → Option B → Option (A × B)
both_at None y = None
both_at (Some a) None = None
both_at (Some a) (Some b) = Some (a, b)

zip_get : {A B : Type 0} (xs : List A) (ys : List B) (n : ℕ) → slice_get (zip xs ys) n ≡ both_at (slice_get xs n) (slice_get ys n)
zip_get [] ys n = refl
zip_get {A} {B} (x ∷ xs) [] n = sym (none_right (slice_get (x ∷ xs) n))
  where
    none_right : (it : Option A) → both_at {A = A} {B = B} it None ≡ None
    none_right None = refl
    none_right (Some it) = refl
zip_get (x ∷ xs) (y ∷ ys) zero = refl
zip_get (x ∷ xs) (y ∷ ys) (suc n) = zip_get xs ys n

mapped_same : {A : Type 0} (f : A → ℕ) (xs : List A) (n : ℕ) (old new : A) → slice_get xs n ≡ Some old → f new ≡ f old → map f (set xs n new) ≡ map f xs
mapped_same f [] n old new e same = refl
mapped_same f (x ∷ xs) zero old new e same =
    let is : x ≡ old = cc (e) in
    ap (λ k. k ∷ map f xs) (same ∙ ap f (sym is))
mapped_same f (x ∷ xs) (suc n) old new e same = ap (λ ks. f x ∷ ks) (mapped_same f xs n old new e same)

zipped_same : {A B : Type 0} (f : A × B → ℕ) (xs : List A) (ys : List B) (n : ℕ) (old new : B) → slice_get ys n ≡ Some old → ((a : A) → f (a, new) ≡ f (a, old))
    → map f (zip xs (set ys n new)) ≡ map f (zip xs ys)
zipped_same f [] ys n old new e same = refl
zipped_same f (x ∷ xs) [] n old new e same = refl
zipped_same f (x ∷ xs) (y ∷ ys) zero old new e same =
    let is : y ≡ old = cc (e) in
    ap (λ k. k ∷ map f (zip xs ys)) (same x ∙ ap (λ b. f (x, b)) (sym is))
zipped_same f (x ∷ xs) (y ∷ ys) (suc n) old new e same = ap (λ ks. f (x, y) ∷ ks) (zipped_same f xs ys n old new e same)

-- what stands at one place is one thing
one_there : {A : Type 0} (xs : List A) (m n : ℕ) (a b : A) → slice_get xs m ≡ Some a → slice_get xs n ≡ Some b → m ≡ n → b ≡ a
one_there xs m n a b first second same = cc

-- ---- Nothing is changed ----

pub changes_none : (rank : ℕ) (it : RecordingView) → ChangesOnly rank it it
changes_none rank it = record {
  run = refl;
  choice = refl;
  handed = λ other apart. refl;
  made = λ other apart. refl;
  before = λ other apart. refl;
  left = λ other apart. refl;
}

-- of a rank that there isn't nothing is kept
pub same_past : (f g : Walk → ℕ) (walks : List Walk) (rank : ℕ) → slice_get walks rank ≡ None → slice_get (map f walks) rank ≡ slice_get (map g walks) rank
same_past f g walks rank none =
    slice_get-map f walks rank ∙ ap (option_map f) none ∙ sym (slice_get-map g walks rank ∙ ap (option_map g) none)

-- ---- How many calls a list has ----

calls_few : (it : Listed) → length (calls_of (cut it)) ≤ most_records
calls_few it = by_length (cases_lt (length it.records) most_records)
  where
    count_of : (one : Listed) → length (calls_of one) ≡ length one.records + 1
    count_of one = length-append (map (λ it. it.call) one.records) (one.end ∷ []) ∙ ap (λ n. n + 1) (length-map one.records (λ it. it.call))

    by_length : (length it.records < most_records) ⊎ (most_records ≤ length it.records) → length (calls_of (cut it)) ≤ most_records
    by_length (inl short) =
        let same : length (calls_of (cut it)) ≡ length it.records + 1 = ap (λ one. length (calls_of one)) (cut_short it short) ∙ count_of it in
        omega (arith, same, short)
    by_length (inr long) =
        let records : length (cut it).records ≤ most_records - 1 =
        subst (λ (one : Listed). length one.records ≤ most_records - 1) (sym (cut_long it long)) (taken_count (most_records - 1) it.records) in
        omega (arith, count_of (cut it), records)

few_made : (made rest all : ℕ) → all ≡ made + rest → all ≤ most_records → made < 18446744073709551616
few_made made rest all is few = omega arith

pub list_few : (run : Run) (choice : Choice) (rank : ℕ) → length (calls_of (list_of run choice rank)) ≤ most_records
list_few run choice rank = by_journal (journal_at run rank)
  where
    whole : Listed
    whole = whole_list run choice rank

    by_journal : {A : Type 0} (journal : Option A) → length (calls_of (without_journal (is_none journal) (cut whole))) ≤ most_records
    by_journal None = calls_few whole
    by_journal (Some journal) = calls_few whole

-- ---- A rank of which more is made, or is handed on ----

module _ (ranks : ℕ) (journals : List (Option JournalRead)) (choice : ChoiceMade) (kept : Communicators) (walks : List Walk) (rank : ℕ) (old new : Walk)
    (is : IsRecording ranks journals choice kept walks) (at : slice_get walks rank ≡ Some old) where
  walk_at_rank : (later : Communicators) → (IsFit (run_in journals) (choice_in choice) → IsWalkOf (run_in journals) choice later rank new)
      → ((other : ℕ) (walk : Walk) → IsWalkOf (run_in journals) choice kept other walk → IsWalkOf (run_in journals) choice later other walk)
      → IsFit (run_in journals) (choice_in choice) → (other : ℕ) (walk : Walk) → slice_get (set walks rank new) other ≡ Some walk → IsWalkOf (run_in journals) choice later other walk
  walk_at_rank later here stays fit other walk got = by_rank (cases_eq rank other)
    where
      by_rank : (rank ≡ other) ⊎ (rank ≡ other → ⊥) → IsWalkOf (run_in journals) choice later other walk
      by_rank (inl same) =
          let there : slice_get (set walks rank new) rank ≡ Some new = get_set_same walks rank new (slice_get_within walks rank old at) in
          let one : walk ≡ new = one_there (set walks rank new) rank other new walk there got same in
          subst (λ (n : ℕ). IsWalkOf (run_in journals) choice later n walk) same
          (subst (λ (it : Walk). IsWalkOf (run_in journals) choice later rank it) (sym one) (here fit))
      by_rank (inr apart) = stays other walk (is.have.are fit other walk (sym (get_set_other walks rank other new apart) ∙ got))

  over_at_rank : (old.is_over ≡ true → new.is_over ≡ true) → (other : ℕ) (walk : Walk) → slice_get journals other ≡ Some None → slice_get (set walks rank new) other ≡ Some walk → walk.is_over ≡ true
  over_at_rank over other walk none got = by_rank (cases_eq rank other)
    where
      by_rank : (rank ≡ other) ⊎ (rank ≡ other → ⊥) → walk.is_over ≡ true
      by_rank (inl same) =
          let there : slice_get (set walks rank new) rank ≡ Some new = get_set_same walks rank new (slice_get_within walks rank old at) in
          let one : walk ≡ new = one_there (set walks rank new) rank other new walk there got same in
          let none_here : slice_get journals rank ≡ Some None = ap (slice_get journals) same ∙ none in
          ap (λ (it : Walk). it.is_over) one ∙ over (is.have.alone rank old none_here at)
      by_rank (inr apart) = is.have.alone other walk none (sym (get_set_other walks rank other new apart) ∙ got)

  -- it is as the definitions have it, where its list is
  pub still_recorded : (later : Communicators) → (old.is_over ≡ true → new.is_over ≡ true)
      → (IsFit (run_in journals) (choice_in choice) → IsWalkOf (run_in journals) choice later rank new)
      → (IsFit (run_in journals) (choice_in choice) → (other : ℕ) (walk : Walk) → IsWalkOf (run_in journals) choice kept other walk → IsWalkOf (run_in journals) choice later other walk)
      → IsRecording ranks journals choice later (set walks rank new)
  still_recorded later over here stays = record {
    ranks_are = is.ranks_are;
    walks_are = length-set walks rank new ∙ is.walks_are;
    few = is.few;
    have = record {
      alone = λ other walk none got. over_at_rank over other walk none got;
      are = λ fit other walk got. walk_at_rank later here (stays fit) fit other walk got;
    };
  }

  map_apart : (f : Walk → ℕ) (other : ℕ) → (other ≡ rank → ⊥) → slice_get (map f (set walks rank new)) other ≡ slice_get (map f walks) other
  map_apart f other apart =
      slice_get-map f (set walks rank new) other
      ∙ ap (option_map f) (get_set_other walks rank other new (λ e. apart (sym e)))
      ∙ sym (slice_get-map f walks other)

  left_apart : (other : ℕ) → (other ≡ rank → ⊥) → slice_get (map left_by (zip journals (set walks rank new))) other ≡ slice_get (map left_by (zip journals walks)) other
  left_apart other apart =
      slice_get-map left_by (zip journals (set walks rank new)) other
      ∙ ap (option_map left_by)
      (zip_get journals (set walks rank new) other
      ∙ ap (both_at (slice_get journals other)) (get_set_other walks rank other new (λ e. apart (sym e)))
      ∙ sym (zip_get journals walks other))
      ∙ sym (slice_get-map left_by (zip journals walks) other)

  pub changes_only : ChangesOnly rank (recording_view journals choice walks) (recording_view journals choice (set walks rank new))
  changes_only = record {
    run = refl;
    choice = refl;
    handed = λ other apart. map_apart (λ walk. walk.handed) other apart;
    made = λ other apart. map_apart made_by other apart;
    before = λ other apart. map_apart (λ walk. walk.before) other apart;
    left = λ other apart. left_apart other apart;
  }

  pub map_stays : (f : Walk → ℕ) → f new ≡ f old → map f (set walks rank new) ≡ map f walks
  map_stays f same = mapped_same f walks rank old new at same

  pub left_stays : new.is_over ≡ old.is_over → new.next ≡ old.next → map left_by (zip journals (set walks rank new)) ≡ map left_by (zip journals walks)
  left_stays over next = zipped_same left_by journals walks rank old new at (λ journal. cc (over, next))

  -- a part of the list is made, which has fewer calls than can be counted
  pub made_few : IsFit (run_in journals) (choice_in choice) → made_by old < 18446744073709551616
  made_few fit =
      let part = rank_part ranks journals choice kept walks is fit rank old at in
      few_made (made_by old) (length part.rest) (length (calls_of (list_of (run_in journals) (choice_in choice) rank)))
      (all_made (list_of (run_in journals) (choice_in choice) rank) old part) (list_few (run_in journals) (choice_in choice) rank)

  pub all_handed : new.handed ≡ made_by old → slice_get (map (λ walk. walk.handed) (set walks rank new)) rank ≡ slice_get (map made_by walks) rank
  all_handed handed =
      slice_get-map (λ walk. walk.handed) (set walks rank new) rank
      ∙ ap (option_map (λ walk. walk.handed)) (get_set_same walks rank new (slice_get_within walks rank old at))
      ∙ ap Some handed
      ∙ sym (slice_get-map made_by walks rank ∙ ap (option_map made_by) at)
