-- What a walk has at an entry is what the entry's call meets: its communicators are the run's, and small.
use Rattle.std.proofs.Common.{◌≡◌, ◌∙◌, refl, eq-eqb, sym, ap, inl, inr, ℕ, ◌<◌, Bool, true, false, ◌&&◌, if◌then◌else◌, List, [], ◌∷◌, length, option_and_then, Option, Some, None}
use Rattle.std.specs.Prelude.{slice_get, filter}
use Rattle.std.specs.List.{filter_map, flat_map, list_any}
use Rattle.mpicall.specs.Word.{or_else}
use Rattle.journals.specs.Lines.{Line}
use Rattle.closing.specs.Entries.{Run, Placed, entries_at, journal_at, lines_at, ranks_of}
use Rattle.closing.specs.Entry.{Choice, id_of}
use Rattle.closing.specs.Fit.{AllSame}
use Rattle.closing.specs.FitComms.{comms_are_numbered}
use Rattle.closing.specs.Keys.{Key, World, is_key_among, same_key}
use Rattle.closing.specs.Made.{inferred_key, keys_at, made_with, reported_group, reported_key, wave_at}
use Rattle.closing.specs.RankComms.{Wave, made_in, makes_comm}
use Rattle.closing.specs.Steps.{Own}
use Rattle.closing.specs.inner.Makers.{MayMake, MeetsMaker}
use Rattle.closing.specs.inner.Numbered.{is_known}
use Rattle.closing.specs.inner.RequestReports.{AllStandFor}
use Rattle.closing.specs.inner.SoFar.{IsAtEntry}
use Rattle.closing.specs.inner.Standings.{id_in}
use Rattle.closing.specs.inner.Surveyed.{is_made_by, keys_got}
use Rattle.closing.specs.inner.Views.{called_view}
use Rattle.closing.specs.inner.Walks.{spot_of}
use Rattle.closing.specs.declared.called.Called.{Called as CalledCode}
use Rattle.closing.specs.declared.numbers.Communicators.{Communicators}
use Rattle.closing.specs.declared.standing.Standing.{Standing}
use Rattle.closing.specs.declared.walk.At.{At}
use Rattle.closing.proofs.KeyLemmas.{same_key_itself}
use Rattle.closing.proofs.KnownLemmas.{named_known, rank_at}
use Rattle.closing.proofs.SomeLemmas.{any_filter, any_filter_map, any_flat, passes, some_either, some_first, some_more, some_of, some_second}
use Rattle.closing.proofs.WaveKeyLemmas.{made_of_rank}

-- ---- Keys that ranks have ----

abbrev is_had : Run → Key → Bool
is_had run key = is_key_among key (World ∷ flat_map (keys_at run) (ranks_of run))

abbrev is_of_rank : Run → ℕ → Key → Bool
is_of_rank run rank key = is_key_among key (keys_at run rank)

got_had : (run : Run) (key : Key) → is_known run key ≡ true → is_had run key ≡ true
got_had run key h =
    let t : Key → Bool = λ other. same_key other key in
    elim (some_either t (World ∷ []) (flat_map (keys_got run) (ranks_of run)) h) [
      | inl world ↦ some_first t (World ∷ []) (flat_map (keys_at run) (ranks_of run)) world
      | inr got ↦ some_second t (World ∷ []) (flat_map (keys_at run) (ranks_of run))
          (any_flat t (keys_at run) (ranks_of run)
          ∙ some_more (λ one. list_any t (keys_got run one)) (λ one. list_any t (keys_at run one)) (ranks_of run)
          (λ one has. some_first t (keys_got run one) (filter_map (inferred_key run) (entries_at run one)) has)
          (sym (any_flat t (keys_got run) (ranks_of run)) ∙ got))
    ]

rank_had : (run : Run) (rank : ℕ) (key : Key) → rank < length run → is_of_rank run rank key ≡ true → is_had run key ≡ true
rank_had run rank key within h =
    let t : Key → Bool = λ other. same_key other key in
    some_second t (World ∷ []) (flat_map (keys_at run) (ranks_of run))
    (any_flat t (keys_at run) (ranks_of run)
    ∙ some_of (λ one. list_any t (keys_at run one)) (ranks_of run) rank rank (rank_at (length run) rank within) h)

-- ---- What an entry made ----

-- a call of a wave made it
record IsOfWave (key : Key) : Type 0 where
  wave : Wave
  made : is_made_by wave key ≡ true

both : (a b : Bool) → a ≡ true → b ≡ true → (a && b) ≡ true
both true true e f = refl
both true false e f = f
both false b e f = e

wave_of : (makes : Bool) (wave : Option Wave) (group : Option (List ℕ)) (key : Key)
    → (if makes then option_and_then (made_with wave) group else None) ≡ Some key → IsOfWave key
wave_of false wave group key e = absurd (cc (e))
wave_of true wave None key e = absurd (cc (e))
wave_of true None (Some group) key e = absurd (cc (e))
wave_of true (Some wave) (Some group) key e =
    let same : made_in group wave ≡ key = cc (e) in
    record {
      wave = wave;
      made = ap (is_made_by wave) (sym same) ∙ both (same_key wave.parent wave.parent) _ (same_key_itself wave.parent) (eq-eqb wave.count wave.count refl);
    }

reported_of : (run : Run) (rank n : ℕ) (placed : Placed) (key : Key) → comms_are_numbered (lines_at run rank) ≡ true
    → slice_get (entries_at run rank) n ≡ Some placed → reported_key placed ≡ Some key → is_key_among key (keys_got run rank) ≡ true
reported_of run rank n placed key numbered at e =
    let t : Key → Bool = λ other. same_key other key in
    let of = wave_of (makes_comm placed.called) (wave_at placed) (reported_group placed) key e in
    let u : Key → Bool = λ other. is_made_by of.wave other && t other in
    let reported = filter_map reported_key (entries_at run rank) in
    let here : passes u (reported_key placed) ≡ true = ap (passes u) e ∙ both (is_made_by of.wave key) (t key) of.made (same_key_itself key) in
    let some : list_any u reported ≡ true =
    any_filter_map u reported_key (entries_at run rank) ∙ some_of (λ one. passes u (reported_key one)) (entries_at run rank) n placed at here in
    let got : list_any t (filter (is_made_by of.wave) (keys_got run rank)) ≡ true =
    ap (list_any t) (made_of_rank of.wave rank (journal_at run rank) numbered) ∙ any_filter t (is_made_by of.wave) reported ∙ some in
    some_more u t (keys_got run rank) (λ one h. second (is_made_by of.wave one) (t one) h)
    (sym (any_filter t (is_made_by of.wave) (keys_got run rank)) ∙ got)
  where
    second : (a b : Bool) → (a && b) ≡ true → b ≡ true
    second true b h = h
    second false b h = absurd (cc (h))

made_had : (run : Run) (rank n : ℕ) (placed : Placed) (key : Key) (reported inferred : Option Key) → comms_are_numbered (lines_at run rank) ≡ true
    → slice_get (entries_at run rank) n ≡ Some placed → reported_key placed ≡ reported → inferred_key run placed ≡ inferred
    → or_else reported inferred ≡ Some key → is_of_rank run rank key ≡ true
made_had run rank n placed key (Some one) inferred numbered at er ei e =
    let same : reported_key placed ≡ Some key = er ∙ e in
    some_first (λ other. same_key other key) (keys_got run rank) (filter_map (inferred_key run) (entries_at run rank))
    (reported_of run rank n placed key numbered at same)
made_had run rank n placed key None inferred numbered at er ei e =
    let t : Key → Bool = λ other. same_key other key in
    let here : passes t (inferred_key run placed) ≡ true = ap (passes t) (ei ∙ e) ∙ same_key_itself key in
    some_second t (keys_got run rank) (filter_map (inferred_key run) (entries_at run rank))
    (any_filter_map t (inferred_key run) (entries_at run rank)
    ∙ some_of (λ one. passes t (inferred_key run one)) (entries_at run rank) n placed at here)

-- ---- The makers ----

module _ (run : Run) (choice : Choice) (placed : Placed) (kept : Communicators) (it : At) (n : ℕ) (at : IsAtEntry run choice placed kept it)
    (within : placed.rank < length run) (among : slice_get (entries_at run placed.rank) n ≡ Some placed) where
  -- the communicators of the entry's call are those of the definitions, and small
  pub meets_maker : MeetsMaker run placed kept placed.rank it
  meets_maker = record {
    numbered = at.numbered;
    rank = refl;
    named = at.named;
    wave = at.wave;
    made = at.made;
    small_on = λ key e.
        (at.numbered.fit.groups key (got_had run key (named_known run placed.rank n placed key within among e))).few;
    small_made = λ key e.
        (at.numbered.fit.groups key (rank_had run placed.rank key within
        (made_had run placed.rank n placed key (reported_key placed) (inferred_key run placed) (at.numbered.fit.numbered placed.rank) among refl refl e))).few;
  }

  pub may_make : (call : CalledCode) → placed.called ≡ called_view call → MayMake (spot_of run choice placed) kept placed.rank it call
  may_make call same = λ makes. record { run = run; placed = placed; meets = meets_maker; called = same; maker = refl }

-- ---- Requests that were started before ----

-- what is kept of these requests is what the journal says of them
pub same_stand : (before lines : List Line) (standing : Standing) (requests : List ℕ) → ((request : ℕ) → Own (id_in standing request) ≡ id_of before request)
    → AllSame before lines requests → AllStandFor lines standing requests
same_stand before lines standing [] has all = tt
same_stand before lines standing (request ∷ requests) has all =
    (has request ∙ all.0, same_stand before lines standing requests has all.1)
