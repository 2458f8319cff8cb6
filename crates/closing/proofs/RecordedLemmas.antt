-- What is kept of a rank where keys were added, where its records were handed on, and at its first entry and the next.
use Rattle.std.proofs.Common.{◌≡◌, ◌∙◌, refl, sym, ap, subst, arith, add-one, ℕ, zero, suc, ◌+◌, ◌-◌, ◌<◌, ◌≤◌, Bool, true, false, List, [], ◌∷◌, ◌++◌, length, map, replicate, set, take, length-append, inl, inr, ◌⊎◌, Option, Some, None, option_map}
use Rattle.std.specs.Prelude.{option_and_then, slice_get, if◌then◌else◌, zip}
use Rattle.std.specs.Borrow.{Bor}
use Rattle.std.specs.List.{AllZip}
use Rattle.std.specs.Option.{option_copied}
use Rattle.std.proofs.lemmas.List.{length-map, map-append, replicate-append-replicate}
use Rattle.std.proofs.lemmas.Option.{slice_get-map, slice_get_within}
use Rattle.journals.specs.Header.{Heading}
use Rattle.journals.specs.JournalAnswers.{heading_in}
use Rattle.journals.specs.Lines.{Line}
use Rattle.journals.specs.declared.journal.Journal.{Journal as JournalRead}
use Rattle.journals.specs.Journal.{Journal}
use Rattle.closing.specs.Entries.{Run, journal_at, lines_at, lines_in}
use Rattle.closing.specs.Entry.{Choice}
use Rattle.closing.specs.Fit.{IsFit}
use Rattle.closing.specs.FitComms.{HasFitComms}
use Rattle.closing.specs.Groups.{groups_in}
use Rattle.closing.specs.Freed.{is_freed}
use Rattle.closing.specs.Journals.{journal_in, run_in}
use Rattle.closing.specs.Keys.{Key, group_of_key}
use Rattle.closing.specs.Numbers.{numbered_keys}
use Rattle.closing.specs.Recording.{list_of, recording_of}
use Rattle.closing.specs.Recordings.{RecordingView, choice_in, count_at}
use Rattle.closing.specs.Steps.{Progress}
use Rattle.closing.specs.Table.{Table, group_at}
use Rattle.closing.specs.inner.Lists.{Handed, HasPlaces, Stands}
use Rattle.closing.specs.inner.Numbered.{IsNumberedRun}
use Rattle.closing.specs.inner.Rankwise.{AreFew, HaveWalks, IsRecording, IsStep, IsWalkOf, TakesStep, left_by, made_by, recording_view}
use Rattle.closing.specs.inner.SoFar.{IsOn, IsWalk, comms_at}
use Rattle.closing.specs.inner.Table.{Grows, HasKey}
use Rattle.closing.specs.declared.choice.Choice.{Choice as ChoiceMade}
use Rattle.closing.specs.declared.freed.Freed.{Freed}
use Rattle.closing.specs.declared.list.List.{List as ListCode}
use Rattle.closing.specs.declared.numbers.Communicators.{Communicators}
use Rattle.closing.specs.declared.walk.Walk.{Walk}
use Rattle.closing.proofs.EndedWalks.{known_as}
use Rattle.closing.proofs.UnsunkLemmas.{kept_as}
use Rattle.closing.proofs.ChangedLemmas.{changes_none, changes_only, made_few, map_stays, still_recorded}
use Rattle.closing.proofs.HoldsLemmas.{comms_grow}
use Rattle.closing.proofs.KeptLemmas.{run_grows}
use Rattle.closing.proofs.NumberLists.{get_set_same, get_some, push_cases}
use Rattle.closing.proofs.PlacedLemmas.{take_slice}
use Rattle.closing.proofs.RunLemmas.{group_kept}
use Rattle.closing.proofs.RankwiseLemmas.{count_of_none, count_of_walk, forgotten, journal_of_rank, left_at, none_is_left, part_made}

-- ---- More keys ----

-- what is known of a list stays so
pub walk_grows : (run : Run) (choice : Choice) (old new : Table) (walk : Walk) → Grows old new → IsWalk run choice old walk → IsWalk run choice new walk
walk_grows run choice old new walk grows is = record { part = is.part; on = λ goes. on_grows (is.on goes); freed = is.freed; known = is.known }
  where
    on_grows : IsOn run choice old walk → IsOn run choice new walk
    on_grows on = record {
      journal = on.journal;
      there = on.there;
      so_far = record {
        handed = on.so_far.handed;
        progress = on.so_far.progress;
        count = on.so_far.count;
        frees = on.so_far.frees;
        stands = on.so_far.stands;
        late = on.so_far.late;
        kept = on.so_far.kept;
        earlier = on.so_far.earlier;
        list = on.so_far.list;
        fit = on.so_far.fit;
        tests = on.so_far.tests;
        comms = comms_grow old new walk.comms (comms_at walk.rank on.journal.lines walk.next) grows on.so_far.comms;
        last = on.so_far.last;
        reported = on.so_far.reported;
        requests = on.so_far.requests;
        at_call = on.so_far.at_call;
        left = on.so_far.left;
      };
      lines = on.lines;
    }

pub numbered_grows : (run : Run) (kept later : Communicators) → later ≡ record kept { keys = later.keys } → Grows kept.keys later.keys → IsNumberedRun run kept → IsNumberedRun run later
numbered_grows run kept later same grows is =
    subst (λ (it : Communicators). IsNumberedRun run it) (sym same) (run_grows run kept later.keys is grows)

pub walk_of_grows : (run : Run) (choice : ChoiceMade) (kept later : Communicators) (rank : ℕ) (walk : Walk) → later ≡ record kept { keys = later.keys } → Grows kept.keys later.keys
    → IsWalkOf run choice kept rank walk → IsWalkOf run choice later rank walk
walk_of_grows run choice kept later rank walk same grows is = record {
  rank_is = is.rank_is;
  choice_is = is.choice_is;
  numbered = numbered_grows run kept later same grows is.numbered;
  is = walk_grows run (choice_in choice) kept.keys later.keys walk grows is.is;
  before = is.before;
}

-- ---- Records that are handed on ----

pub forgotten_walk : (run : Run) (choice : Choice) (table : Table) (old : Walk) (list : ListCode) (handed : ℕ) → IsWalk run choice table old → list.records ≡ []
    → handed ≡ old.handed + length old.list.records
    → ((before : Handed) (progress : Progress) → Stands before progress old.list → Stands (record before { calls = before.calls ++ old.list.records }) progress list)
    → list.freed ≡ old.list.freed → IsWalk run choice table (record old { list = list; handed = handed })
forgotten_walk run choice table old list handed is none count stands freed = record {
  part = forgotten (list_of run choice old.rank) old (record old { list = list; handed = handed }) is.part none count refl refl refl refl;
  on = λ goes. still_on (is.on goes);
  freed = λ over.
      subst (λ (it : Freed). HasPlaces (is_freed (lines_at run old.rank)) (list_of run choice old.rank).records it) (sym freed) (is.freed over);
  known = λ over. known_as run choice old (record old { list = list; handed = handed }) refl refl refl refl (is.known over);
}
  where
    still_on : IsOn run choice table old → IsOn run choice table (record old { list = list; handed = handed })
    still_on on = record {
      journal = on.journal;
      there = on.there;
      so_far = record {
        handed = record on.so_far.handed { calls = on.so_far.handed.calls ++ old.list.records };
        progress = on.so_far.progress;
        frees = on.so_far.frees;
        count = length-append on.so_far.handed.calls old.list.records ∙ ap (λ n. n + length old.list.records) on.so_far.count ∙ sym count;
        stands = stands on.so_far.handed on.so_far.progress on.so_far.stands;
        late = on.so_far.late;
        kept = kept_as on.so_far.progress.records old (record old { list = list; handed = handed }) refl refl refl refl on.so_far.kept;
        earlier = on.so_far.earlier;
        list = on.so_far.list;
        fit = on.so_far.fit;
        tests = on.so_far.tests;
        comms = on.so_far.comms;
        last = on.so_far.last;
        reported = on.so_far.reported;
        requests = on.so_far.requests;
        at_call = on.so_far.at_call;
        left = on.so_far.left;
      };
      lines = on.lines;
    }

pub forgotten_of : (run : Run) (choice : ChoiceMade) (kept : Communicators) (rank : ℕ) (old new : Walk) → new ≡ record old { list = new.list; handed = new.handed }
    → IsWalkOf run choice kept rank old → new.list.records ≡ [] → new.handed ≡ old.handed + length old.list.records
    → ((before : Handed) (progress : Progress) → Stands before progress old.list → Stands (record before { calls = before.calls ++ old.list.records }) progress new.list)
    → new.list.freed ≡ old.list.freed → IsWalkOf run choice kept rank new
forgotten_of run choice kept rank old new same is none count stands freed =
    subst (λ (it : Walk). IsWalkOf run choice kept rank it) (sym same)
    (record {
      rank_is = is.rank_is;
      choice_is = is.choice_is;
      numbered = is.numbered;
      is = forgotten_walk run (choice_in choice) kept.keys old new.list new.handed is.is none count stands freed;
      before = omega (arith, is.before, count);
    })

-- ---- Nothing is left of a rank ----

module _ (ranks : ℕ) (journals : List (Option JournalRead)) (choice : ChoiceMade) (kept : Communicators) (walks : List Walk) (is : IsRecording ranks journals choice kept walks) (rank : ℕ) where
  before_made : IsFit (run_in journals) (choice_in choice) → count_at (map (λ (walk : Walk). walk.before) walks) rank ≤ count_at (map made_by walks) rank
  before_made fit = by_walk (slice_get walks rank) refl
    where
      by_walk : (it : Option Walk) → slice_get walks rank ≡ it → count_at (map (λ (walk : Walk). walk.before) walks) rank ≤ count_at (map made_by walks) rank
      by_walk None at = omega (arith, count_of_none (λ walk. walk.before) walks rank at)
      by_walk (Some walk) at =
          omega (arith, count_of_walk (λ walk. walk.before) walks rank walk at, count_of_walk made_by walks rank walk at, (is.have.are fit rank walk at).before)

  -- no entry is taken
  pub stays_as_it_was : count_at (recording_view journals choice walks).left rank ≡ 0 → TakesStep rank ranks journals choice kept walks walks
  stays_as_it_was none = record {
    is = is;
    step = record {
      same = changes_none rank (recording_view journals choice walks);
      handed = refl;
      made = λ fit. omega arith;
      before = λ fit. before_made fit;
      left = λ e. e;
      next = λ some. absurd (some none);
      part = λ fit h. part_made ranks journals choice kept walks rank is fit h;
    };
  }

  pub stays_alone : ((journal : JournalRead) → slice_get journals rank ≡ Some (Some journal) → ⊥) → TakesStep rank ranks journals choice kept walks walks
  stays_alone alone = stays_as_it_was (none_is_left ranks journals choice kept walks is rank (λ walk at. over walk at))
    where
      by_journal : (walk : Walk) → slice_get walks rank ≡ Some walk → (it : Option JournalRead) → slice_get journals rank ≡ Some it → walk.is_over ≡ true
      by_journal walk at None there = is.have.alone rank walk there at
      by_journal walk at (Some journal) there = absurd (alone journal there)

      over : (walk : Walk) → slice_get walks rank ≡ Some walk → walk.is_over ≡ true
      over walk at =
          let there = get_some journals rank (omega (arith, slice_get_within walks rank walk at, is.walks_are)) in
          by_journal walk at there.0 there.1

-- ---- The next entry ----

-- what is known of a rank's list after it
pub record HasStepped (kept later : Communicators) (lines : List Line) (old new : Walk) : Type 0 where
  pub rank : (new.rank ≡ old.rank) × (new.choice ≡ old.choice)
  pub handed : new.handed ≡ old.handed
  pub before : old.handed + length old.list.records < 18446744073709551616 → new.before ≡ old.handed + length old.list.records
  pub run : later ≡ record kept { keys = later.keys }
  pub next : length lines ≤ 4294967292 → (new.is_over ≡ true) ⊎ ((old.next < length lines) × (old.next < new.next))
  pub walk : (said : Run) (heading : Heading) → IsFit said (choice_in old.choice) → IsNumberedRun said kept → length lines ≤ 4294967292
      → journal_at said old.rank ≡ Some (record { heading = heading; lines = lines }) → old.is_over ≡ false → IsWalk said (choice_in old.choice) kept.keys old
      → IsWalk said (choice_in old.choice) later.keys new × Grows kept.keys later.keys
  pub more : (said : Run) (heading : Heading) → IsFit said (choice_in old.choice) → IsNumberedRun said kept → length lines ≤ 4294967292
      → journal_at said old.rank ≡ Some (record { heading = heading; lines = lines }) → old.is_over ≡ false → IsWalk said (choice_in old.choice) kept.keys old
      → length old.list.records ≤ length new.list.records

fewer_left : (b : Bool) (lines before after : ℕ) → (b ≡ true) ⊎ ((before < lines) × (before < after)) → (if b then 0 else lines - after + 1) < lines - before + 1
fewer_left true lines before after h = omega arith
fewer_left false lines before after (inl e) = absurd (cc (e))
fewer_left false lines before after (inr h) = omega (arith, h.0, h.1)

left_goes : (b : Bool) (n : ℕ) → b ≡ false → (if b then 0 else n) ≡ n
left_goes true n e = absurd (cc (e))
left_goes false n e = refl

true_false : (b : Bool) → b ≡ true → b ≡ false → ⊥
true_false true one other = cc (other)
true_false false one other = cc (one)

module _ (ranks : ℕ) (journals : List (Option JournalRead)) (choice : ChoiceMade) (kept later : Communicators) (walks : List Walk) (rank : ℕ) (old new : Walk) (journal : JournalRead)
    (is : IsRecording ranks journals choice kept walks) (at : slice_get walks rank ≡ Some old) (there : slice_get journals rank ≡ Some (Some journal)) (goes : old.is_over ≡ false)
    (has : HasStepped kept later journal.lines old new) where
  few_lines : length journal.lines ≤ 4294967292
  few_lines =
      subst (λ (it : Option _). length (lines_in it) ≤ 4294967292) (journal_of_rank journals rank (Some journal) there) (is.few rank)

  said_there : IsFit (run_in journals) (choice_in choice) → journal_at (run_in journals) old.rank ≡ Some (record { heading = heading_in journal.header; lines = journal.lines })
  said_there fit = ap (journal_at (run_in journals)) (is.have.are fit rank old at).rank_is ∙ journal_of_rank journals rank (Some journal) there

  moved : IsFit (run_in journals) (choice_in choice) → IsWalk (run_in journals) (choice_in choice) later.keys new × Grows kept.keys later.keys
  moved fit =
      let one = is.have.are fit rank old at in
      let made = ap (λ it. choice_in it) one.choice_is in
      subst (λ (it : Choice). IsWalk (run_in journals) it later.keys new × Grows kept.keys later.keys) made
      (has.walk (run_in journals) (heading_in journal.header) (subst (λ (it : Choice). IsFit (run_in journals) it) (sym made) fit) one.numbered few_lines (said_there fit) goes
      (subst (λ (it : Choice). IsWalk (run_in journals) it kept.keys old) (sym made) one.is))

  more_made : IsFit (run_in journals) (choice_in choice) → length old.list.records ≤ length new.list.records
  more_made fit =
      let one = is.have.are fit rank old at in
      let made = ap (λ it. choice_in it) one.choice_is in
      has.more (run_in journals) (heading_in journal.header) (subst (λ (it : Choice). IsFit (run_in journals) it) (sym made) fit) one.numbered few_lines (said_there fit) goes
      (subst (λ (it : Choice). IsWalk (run_in journals) it kept.keys old) (sym made) one.is)

  before_is : IsFit (run_in journals) (choice_in choice) → new.before ≡ made_by old
  before_is fit = has.before (made_few ranks journals choice kept walks rank old new is at fit)

  new_walk : IsFit (run_in journals) (choice_in choice) → IsWalkOf (run_in journals) choice later rank new
  new_walk fit =
      let one = is.have.are fit rank old at in
      record {
        rank_is = has.rank.0 ∙ one.rank_is;
        choice_is = has.rank.1 ∙ one.choice_is;
        numbered = numbered_grows (run_in journals) kept later has.run (moved fit).1 one.numbered;
        is = (moved fit).0;
        before = omega (arith, before_is fit, more_made fit, has.handed);
      }

  still : IsRecording ranks journals choice later (set walks rank new)
  still =
      still_recorded ranks journals choice kept walks rank old new is at later (λ over. absurd (true_false old.is_over over goes)) new_walk
      (λ fit other walk one. walk_of_grows (run_in journals) choice kept later other walk has.run (moved fit).1 one)

  here : slice_get (set walks rank new) rank ≡ Some new
  here = get_set_same walks rank new (slice_get_within walks rank old at)

  made_old : count_at (map made_by walks) rank ≡ made_by old
  made_old = count_of_walk made_by walks rank old at

  left_old : count_at (map left_by (zip journals walks)) rank ≡ length journal.lines - old.next + 1
  left_old = left_at journals walks rank (Some journal) old there at ∙ left_goes old.is_over (length journal.lines - old.next + 1) goes

  left_new : count_at (map left_by (zip journals (set walks rank new))) rank ≡ left_by (Some journal, new)
  left_new = left_at journals (set walks rank new) rank (Some journal) new there here

  fewer : left_by (Some journal, new) < length journal.lines - old.next + 1
  fewer = fewer_left new.is_over (length journal.lines) old.next new.next (has.next few_lines)

  pub takes_step : TakesStep rank ranks journals choice later walks (set walks rank new)
  takes_step = record {
    is = still;
    step = record {
      same = changes_only ranks journals choice kept walks rank old new is at;
      handed = map_stays ranks journals choice kept walks rank old new is at (λ walk. walk.handed) has.handed;
      made = λ fit. omega (arith, made_old, count_of_walk made_by (set walks rank new) rank new here, more_made fit, has.handed);
      before = λ fit. omega (arith, made_old, count_of_walk (λ walk. walk.before) (set walks rank new) rank new here, before_is fit);
      left = λ none. absurd (omega (arith, none, left_old));
      next = λ some. omega (arith, left_old, left_new, fewer);
      part = λ fit h. part_made ranks journals choice later (set walks rank new) rank still fit h;
    };
  }

-- ---- The first lists ----

-- what is known of a rank's list before its first entry
pub record HasBegun (journals : List (Option JournalRead)) (choice : ChoiceMade) (kept later : Communicators) (rank : ℕ) (walk : Walk) : Type 0 where
  pub rank_is : (walk.rank ≡ rank) × (walk.choice ≡ choice)
  pub before : walk.before ≡ 0
  pub alone : slice_get journals rank ≡ Some None → walk.is_over ≡ true
  pub run : later ≡ record kept { keys = later.keys }
  pub is : IsFit (run_in journals) (choice_in choice) → IsNumberedRun (run_in journals) kept → IsWalk (run_in journals) (choice_in choice) later.keys walk × Grows kept.keys later.keys

pub one_more_walk : (journals : List (Option JournalRead)) (choice : ChoiceMade) (kept later : Communicators) (walks : List Walk) (rank : ℕ) (walk : Walk) → length walks ≡ rank
    → (IsFit (run_in journals) (choice_in choice) → IsNumberedRun (run_in journals) kept) → HasBegun journals choice kept later rank walk → HaveWalks journals choice kept walks
    → HaveWalks journals choice later (walks ++ walk ∷ [])
one_more_walk journals choice kept later walks rank walk count numbered has is = record {
  alone = λ other it none got. by_over other it none (push_cases walks walk other it got);
  are = λ fit other it got. by_place fit other it (push_cases walks walk other it got);
}
  where
    by_over : (other : ℕ) (it : Walk) → slice_get journals other ≡ Some None → (slice_get walks other ≡ Some it) ⊎ ((other ≡ length walks) × (it ≡ walk)) → it.is_over ≡ true
    by_over other it none (inl got) = is.alone other it none got
    by_over other it none (inr last) =
        ap (λ (one : Walk). one.is_over) last.1 ∙ has.alone (ap (slice_get journals) (sym (last.0 ∙ count)) ∙ none)

    new_walk : IsFit (run_in journals) (choice_in choice) → IsWalkOf (run_in journals) choice later rank walk
    new_walk fit =
        let one = has.is fit (numbered fit) in
        record {
          rank_is = has.rank_is.0;
          choice_is = has.rank_is.1;
          numbered = numbered_grows (run_in journals) kept later has.run one.1 (numbered fit);
          is = one.0;
          before = omega (arith, has.before);
        }

    by_place : IsFit (run_in journals) (choice_in choice) → (other : ℕ) (it : Walk) → (slice_get walks other ≡ Some it) ⊎ ((other ≡ length walks) × (it ≡ walk))
        → IsWalkOf (run_in journals) choice later other it
    by_place fit other it (inl got) =
        walk_of_grows (run_in journals) choice kept later other it has.run (has.is fit (numbered fit)).1 (is.are fit other it got)
    by_place fit other it (inr last) =
        subst (λ (n : ℕ). IsWalkOf (run_in journals) choice later n it) (sym (last.0 ∙ count))
        (subst (λ (one : Walk). IsWalkOf (run_in journals) choice later rank one) (sym last.1) (new_walk fit))

-- ---- The groups of the head ----

zipped_groups : (run : Run) (it : Communicators) (places : List ℕ) (keys : List Key) → IsNumberedRun run it → AllZip (HasKey it.keys) places keys
    → map (λ place. group_at it.keys place) places ≡ map (group_of_key (length run)) keys
zipped_groups run it [] [] is h = refl
zipped_groups run it [] (k ∷ keys) is h = absurd h
zipped_groups run it (p ∷ places) [] is h = absurd h
zipped_groups run it (p ∷ places) (k ∷ keys) is h =
    ap (λ group. group ∷ map (λ place. group_at it.keys place) places) (group_kept run it p k is h.0)
    ∙ ap (λ groups. group_of_key (length run) k ∷ groups) (zipped_groups run it places keys is h.1)

pub groups_kept : (ranks : ℕ) (journals : List (Option JournalRead)) (choice : ChoiceMade) (kept : Communicators) (walks : List Walk) → IsRecording ranks journals choice kept walks
    → IsFit (run_in journals) (choice_in choice) → 0 < length (run_in journals) → groups_in kept ≡ (recording_of (run_in journals) (choice_in choice)).groups
unfolding recording_of
groups_kept ranks journals choice kept walks is fit some =
    let count : length (run_in journals) ≡ length journals = length-map journals (option_map journal_in) in
    let first = get_some walks 0 (omega (arith, some, count, is.walks_are)) in
    let one = is.have.are fit 0 first.0 first.1 in
    zipped_groups (run_in journals) kept kept.numbered.items (numbered_keys (run_in journals)) one.numbered one.numbered.numbered

-- ---- How many lines journals have ----

few_push : (journals : List (Option JournalRead)) (it : Option JournalRead) → AreFew journals → length (lines_in (option_map journal_in it)) ≤ 4294967292 → AreFew (journals ++ it ∷ [])
few_push journals it few here rank = by_journal (slice_get (journals ++ it ∷ []) rank) refl
  where
    by_place : (one : Option JournalRead) → (slice_get journals rank ≡ Some one) ⊎ ((rank ≡ length journals) × (one ≡ it)) → length (lines_in (option_map journal_in one)) ≤ 4294967292
    by_place one (inl got) = subst (λ (o : Option Journal). length (lines_in o) ≤ 4294967292) (journal_of_rank journals rank one got) (few rank)
    by_place one (inr last) = subst (λ (o : Option JournalRead). length (lines_in (option_map journal_in o)) ≤ 4294967292) (sym last.1) here

    none_there : (o : Option (Option Journal)) → o ≡ None → slice_get (run_in (journals ++ it ∷ [])) rank ≡ o → length (lines_at (run_in (journals ++ it ∷ [])) rank) ≤ 4294967292
    none_there o none at = rw (at ∙ none) (omega arith)

    by_journal : (one : Option (Option JournalRead)) → slice_get (journals ++ it ∷ []) rank ≡ one → length (lines_at (run_in (journals ++ it ∷ [])) rank) ≤ 4294967292
    by_journal None at = none_there None refl (slice_get-map (option_map journal_in) (journals ++ it ∷ []) rank ∙ ap (option_map (option_map journal_in)) at)
    by_journal (Some one) at =
        subst (λ (o : Option Journal). length (lines_in o) ≤ 4294967292) (sym (journal_of_rank (journals ++ it ∷ []) rank one at))
        (by_place one (push_cases journals it rank one at))

-- one more has few
pub few_more : (journals : List (Option JournalRead)) (n : ℕ) (it : Option JournalRead) → slice_get journals n ≡ Some it → AreFew (take n journals)
    → length (lines_in (option_map journal_in it)) ≤ 4294967292 → AreFew (take (n + 1) journals)
few_more journals n it at few here =
    subst (λ (xs : List (Option JournalRead)). AreFew xs) (sym (ap (λ k. take k journals) (add-one n) ∙ take_slice journals n it at)) (few_push (take n journals) it few here)

-- ---- A journal that is lent ----

pub lent_journal : (it : Option (Bor JournalRead)) → option_map (λ one. journal_in one.now) it ≡ option_map journal_in (option_copied it)
lent_journal None = refl
lent_journal (Some one) = refl

pub lent_none : (it : Option (Bor JournalRead)) → option_copied it ≡ None → it ≡ None
lent_none None e = refl
lent_none (Some one) e = absurd (cc (e))

-- ---- The journal of a rank, if it has one ----

pub no_journal : (journals : List (Option JournalRead)) (rank : ℕ) (it : Option (Bor JournalRead)) (journal : JournalRead)
    → option_copied it ≡ option_and_then (λ (one : Option JournalRead). one) (slice_get journals rank) → it ≡ None → slice_get journals rank ≡ Some (Some journal) → ⊥
no_journal journals rank it journal is none there =
    let one : option_copied it ≡ Some journal = is ∙ ap (option_and_then (λ (one : Option JournalRead). one)) there in
    let other : option_copied it ≡ None = ap (λ (o : Option (Bor JournalRead)). option_copied o) none in
    cc (one, other)

pub journal_there : (journals : List (Option JournalRead)) (rank : ℕ) (it : Option (Bor JournalRead)) (journal : Bor JournalRead)
    → option_copied it ≡ option_and_then (λ (one : Option JournalRead). one) (slice_get journals rank) → it ≡ Some journal → slice_get journals rank ≡ Some (Some journal.now)
journal_there journals rank it journal is some = by_place (slice_get journals rank) refl
  where
    here : Some journal.now ≡ option_and_then (λ (one : Option JournalRead). one) (slice_get journals rank)
    here = sym (ap (λ (o : Option (Bor JournalRead)). option_copied o) some) ∙ is

    by_place : (o : Option (Option JournalRead)) → slice_get journals rank ≡ o → slice_get journals rank ≡ Some (Some journal.now)
    by_place None at = let e : Some journal.now ≡ None = here ∙ ap (option_and_then (λ (one : Option JournalRead). one)) at in absurd (cc (e))
    by_place (Some None) at = let e : Some journal.now ≡ None = here ∙ ap (option_and_then (λ (one : Option JournalRead). one)) at in absurd (cc (e))
    by_place (Some (Some one)) at =
        let e : Some journal.now ≡ Some one = here ∙ ap (option_and_then (λ (one : Option JournalRead). one)) at in
        at ∙ ap (λ o. Some o) (sym e)

-- a list in which what stood at a place is put there
set_there : {A : Type 0} (xs : List A) (n : ℕ) (x : A) → slice_get xs n ≡ Some x → set xs n x ≡ xs
set_there [] n x e = refl
set_there (y ∷ xs) zero x e = let same : y ≡ x = cc (e) in ap (λ z. z ∷ xs) (sym same)
set_there (y ∷ xs) (suc n) x e = ap (λ zs. y ∷ zs) (set_there xs n x e)

-- a list that has ended stays
pub stays_put : (ranks : ℕ) (journals : List (Option JournalRead)) (choice : ChoiceMade) (kept : Communicators) (walks : List Walk) (rank : ℕ) (walk : Walk)
    → IsRecording ranks journals choice kept walks → slice_get walks rank ≡ Some walk → walk.is_over ≡ true → TakesStep rank ranks journals choice kept walks (set walks rank walk)
stays_put ranks journals choice kept walks rank walk is at over =
    subst (λ (xs : List Walk). TakesStep rank ranks journals choice kept walks xs) (sym (set_there walks rank walk at))
    (stays_as_it_was ranks journals choice kept walks is rank
    (none_is_left ranks journals choice kept walks is rank (λ one there. let same : one ≡ walk = cc (at, there) in ap (λ (it : Walk). it.is_over) same ∙ over)))

-- of no ranks there is a recording
pub no_ranks : (journals : List (Option JournalRead)) (choice : ChoiceMade) (kept : Communicators) (walks : List Walk) → journals ≡ [] → walks ≡ [] → IsRecording 0 journals choice kept walks
no_ranks journals choice kept walks none empty =
    subst (λ (js : List (Option JournalRead)). IsRecording 0 js choice kept walks) (sym none)
    (subst (λ (ws : List Walk). IsRecording 0 [] choice kept ws) (sym empty)
    (record {
      ranks_are = refl;
      walks_are = refl;
      few = λ rank. omega arith;
      have = record { alone = λ rank walk there got. absurd (cc (got)); are = λ fit rank walk got. absurd (cc (got)) };
    }))

-- ---- Before the first entry ----

-- what is known of a rank's list before its first entry, by the journal that is lent
pub begun_at : (journals : List (Option JournalRead)) (choice : ChoiceMade) (kept later : Communicators) (place rank : ℕ) (it : Option JournalRead) (lent : Option (Bor JournalRead)) (walk : Walk)
    → place ≡ rank → slice_get journals rank ≡ Some it → option_copied lent ≡ it → AreFew journals
    → (walk.rank ≡ place) × (walk.choice ≡ choice) → walk.before ≡ 0 → (lent ≡ None → walk.is_over ≡ true) → later ≡ record kept { keys = later.keys }
    → ((said : Run) → IsNumberedRun said kept → IsFit said (choice_in choice) → place < length said
    → journal_at said place ≡ option_map (λ one. journal_in one.now) lent → length (lines_at said place) ≤ 4294967292
    → IsWalk said (choice_in choice) later.keys walk × Grows kept.keys later.keys)
    → HasBegun journals choice kept later rank walk
begun_at journals choice kept later place rank it lent walk same there is few ranked before alone run new = record {
  rank_is = (ranked.0 ∙ same, ranked.1);
  before = before;
  alone = λ none. let gone : it ≡ None = cc (there, none) in alone (lent_none lent (is ∙ gone));
  run = run;
  is = λ fit numbered.
      let said : journal_at (run_in journals) place ≡ option_map (λ one. journal_in one.now) lent =
      ap (journal_at (run_in journals)) same ∙ journal_of_rank journals rank it there ∙ ap (option_map journal_in) (sym is) ∙ sym (lent_journal lent) in
      let within : place < length (run_in journals) =
      omega (arith, slice_get_within journals rank it there, length-map journals (option_map journal_in), same) in
      new (run_in journals) numbered fit within said (few place);
}

pub first_numbered : (journals : List (Option JournalRead)) (choice : ChoiceMade) (kept later : Communicators) (rank : ℕ) (walk : Walk) → HasBegun journals choice kept later rank walk
    → (IsFit (run_in journals) (choice_in choice) → IsNumberedRun (run_in journals) kept) → IsFit (run_in journals) (choice_in choice) → IsNumberedRun (run_in journals) later
first_numbered journals choice kept later rank walk has numbered fit =
    numbered_grows (run_in journals) kept later has.run (has.is fit (numbered fit)).1 (numbered fit)

-- none of one list more
pub none_more : (count_of : Walk → ℕ) (walks : List Walk) (walk : Walk) → map count_of walks ≡ replicate (length walks) 0 → count_of walk ≡ 0
    → map count_of (walks ++ walk ∷ []) ≡ replicate (length (walks ++ walk ∷ [])) 0
none_more count_of walks walk none own =
    map-append count_of walks (walk ∷ [])
    ∙ ap (λ ns. ns ++ count_of walk ∷ []) none
    ∙ ap (λ n. replicate (length walks) 0 ++ n ∷ []) own
    ∙ replicate-append-replicate (length walks) 1 0
    ∙ ap (λ n. replicate n 0) (sym (length-append walks (walk ∷ [])))

-- ---- A step by the journals that are kept ----

pub step_of : (rank ranks : ℕ) (js journals : List (Option JournalRead)) (choice : ChoiceMade) (kept later : Communicators) (old new : List Walk) → js ≡ journals
    → IsRecording ranks journals choice kept old
    → ((ranks : ℕ) (choice : ChoiceMade) → IsRecording ranks js choice kept old → TakesStep rank ranks js choice later old new) → TakesStep rank ranks journals choice later old new
step_of rank ranks js journals choice kept later old new same is step =
    subst (λ (all : List (Option JournalRead)). TakesStep rank ranks all choice later old new) same
    (step ranks choice (subst (λ (all : List (Option JournalRead)). IsRecording ranks all choice kept old) (sym same) is))

-- what callers see of it
pub seen_of : (rank ranks : ℕ) (js journals : List (Option JournalRead)) (choice : ChoiceMade) (kept later : Communicators) (old new : List Walk) (seen : RecordingView) → js ≡ journals
    → recording_view journals choice old ≡ seen → IsRecording ranks journals choice kept old
    → ((ranks : ℕ) (choice : ChoiceMade) → IsRecording ranks js choice kept old → TakesStep rank ranks js choice later old new) → IsStep rank seen (recording_view journals choice new)
seen_of rank ranks js journals choice kept later old new seen same view is step =
    subst (λ (it : RecordingView). IsStep rank it (recording_view journals choice new)) view (step_of rank ranks js journals choice kept later old new same is step).step

-- that of which no entry was taken
pub first_recording : (ranks : ℕ) (list journals : List (Option JournalRead)) (choice : ChoiceMade) (kept later : Communicators) (walks : List Walk) → list ≡ journals
    → ranks ≡ length list → length walks ≡ length list → AreFew list → (HasFitComms (run_in list) → IsNumberedRun (run_in list) kept)
    → (AreFew list → (IsFit (run_in list) (choice_in choice) → IsNumberedRun (run_in list) kept) → HaveWalks list choice later walks)
    → IsRecording ranks journals choice later walks
first_recording ranks list journals choice kept later walks same count long few numbered have =
    subst (λ (all : List (Option JournalRead)). IsRecording ranks all choice later walks) same
    (record { ranks_are = count; walks_are = long; few = few; have = have few (λ fit. numbered fit.comms) })
