-- The verdict where pending calls and sinks are known.
use Rattle.moves.specs.declared.reading.Reading.{Reading}
use Rattle.std.proofs.Common.{inl, inr, ◌≡◌, ℕ, ◌-◌, ◌<◌, ◌≤◌, Bool, true, false, not, ◌&&◌, Option, Some, None, is_none, find, if◌then◌else◌, List, [], ◌∷◌, ◌++◌, length, refl, sym, ap, subst, ◌∙◌, ⊎_elim, arith}
use Rattle.std.specs.Prelude.{slice_index, option_and_then}
use Rattle.std.specs.List.{slice_get, list_all, list_any, range_with_len}
use Rattle.std.specs.Option.{option_map_or}
use Rattle.std.proofs.lemmas.Bool.{cases_lt, false≢true, and_parts, and_from, not-true, not_from_false, or_parts, or_left, or_right, false_from_ne_true}
use Rattle.std.proofs.lemmas.Option.{slice_get_within}
use Rattle.mpicall.specs.Ending.{ends_list}
use Rattle.mpicall.specs.declared.call.Call.{Call}
use Rattle.mpicall.specs.declared.call.Call.TheVariants.{Finalize, Open}
use Rattle.mpigroup.specs.Groups.{Groups}
use Rattle.callstore.specs.Recordings.{Lists, calls_of, IsClosed}
use Rattle.callstore.specs.declared.envelope.Envelope.{Envelope}
use Rattle.callstore.specs.declared.envelope.Half.TheVariants.{Send as SendHalf, Recv as RecvHalf}
use Rattle.callstore.specs.Envelopes.{envelope_of}
use Rattle.moves.specs.Needs.{needs_of_call, half_needs, probe_needs, wave_needs, sends_freely}
use Rattle.moves.specs.Stands.{stands_of, is_at_end}
use Rattle.moves.specs.declared.need.Need.{Need}
use Rattle.moves.specs.declared.need.Need.TheVariants.{At}
use Rattle.pairing.specs.LeftOpen.{is_left_open, leaves_open}
use Rattle.pairing.specs.Partners.{partner_of}
use Rattle.pairing.proofs.RankLemmas.{calls_past}
use Rattle.waitgraph.specs.Held.{Set, is_some_left_open}
use Rattle.waitgraph.specs.Stuck.{is_stuck}
use Rattle.waitgraph.specs.Pending.{Known, may_take, spare_at, sink_for, call_needs, nothing, waited_by, is_over}
use Rattle.waitgraph.specs.PendingHeld.{may_come, may_move, IsHeldBy}
use Rattle.waitgraph.specs.PendingNeeds.{is_at_open}
use Rattle.waitgraph.specs.PendingVerdicts.{is_at_finalize, GraphsHaveTheVerdict}
use Rattle.waitgraph.specs.Verdicts.{verdict_by}
use Rattle.waitgraph.specs.declared.pending.Sink.{Sink}
use Rattle.waitgraph.specs.declared.verdict.Verdict.TheVariants.{Free, Hang}
use Rattle.waitgraph.proofs.AmongLemmas.{Among, among_kept, kept_among, range_among, among_range}
use Rattle.waitgraph.proofs.PendingLemmas.{held_within, opens_end}
use Rattle.waitgraph.proofs.PendingViewLemmas.{find_never}
use Rattle.waitgraph.proofs.StuckLemmas.{EndsAt, ends_at, not_past, ends_without_needs}

-- a rank passes for one of a list if one does
any_from : {A : Type 0} (p : A → Bool) (x : A) (xs : List A) → Among x xs → p x ≡ true → list_any p xs ≡ true
any_from p x [] there is = absurd there
any_from p x (y ∷ ys) (inl e) is = or_left (p y) (list_any p ys) (ap p e ∙ is)
any_from p x (y ∷ ys) (inr there) is = or_right (p y) (list_any p ys) (any_from p x ys there is)

none_from : {A : Type 0} (p : A → Bool) (xs : List A) → ((x : A) → Among x xs → p x ≡ false) → list_any p xs ≡ false
none_from p [] all = refl
none_from p (x ∷ xs) all = rw (all x (inl refl)) (none_from p xs (λ y there. all y (inr there)))

in_range : (rank n : ℕ) → rank < n → Among rank (range_with_len 0 n)
in_range rank n within = range_among rank 0 n (omega arith) (omega (arith, within))

in_range_less : (rank n : ℕ) → Among rank (range_with_len 0 n) → rank < n
in_range_less rank n there = let within = among_range rank 0 n there in omega (arith, within.1)

-- the verdict by its two parts
hang_some : (held : List ℕ) (open_lists : Bool) → verdict_by held open_lists ≡ Hang → (rank : ℕ) × Among rank held
hang_some [] false h = absurd (cc h)
hang_some [] true h = absurd (cc h)
hang_some (rank ∷ held) open_lists h = (rank, inl refl)

some_hang : (held : List ℕ) (open_lists : Bool) (rank : ℕ) → Among rank held → verdict_by held open_lists ≡ Hang
some_hang [] open_lists rank there = absurd there
some_hang (first ∷ held) open_lists rank there = refl

free_none : (held : List ℕ) (open_lists : Bool) → verdict_by held open_lists ≡ Free → ((rank : ℕ) → Among rank held → ⊥) × (open_lists ≡ false)
free_none [] false h = (λ rank there. there, refl)
free_none [] true h = absurd (cc h)
free_none (rank ∷ held) open_lists h = absurd (cc h)

none_free : (held : List ℕ) (open_lists : Bool) → ((rank : ℕ) → Among rank held → ⊥) → open_lists ≡ false → verdict_by held open_lists ≡ Free
none_free [] false none ended = refl
none_free [] true none ended = absurd (false≢true (sym ended))
none_free (rank ∷ held) open_lists none ended = absurd (none rank (inl refl))

-- a call that leaves a list open stands at its end
open_last : (recording : Lists) (rank place : ℕ) (call : Call) (ends : EndsAt (calls_of recording rank)) → place ≤ ends.end → slice_get (calls_of recording rank) place ≡ Some call → ends_list call ≡ true → place ≡ ends.end
open_last recording rank place call ends most there is =
    ⊎_elim
    (λ (less : place < ends.end). absurd (false≢true (sym (ends.before place call less there) ∙ is)))
    (λ (past : ends.end ≤ place). omega arith)
    (cases_lt place ends.end)

module _ (reading : Reading) (groups : Groups) (recording : Lists) (closed : IsClosed recording) where
  -- who stands at an open has a list that was left open
  at_open_opened : (rank : ℕ) → is_at_open recording (stands_of reading groups recording) rank ≡ true → is_left_open recording rank ≡ true
  at_open_opened rank opens = by_call (slice_get (calls_of recording rank) (slice_index (stands_of reading groups recording) rank)) refl opens
    where
      by_call : (o : Option Call) → slice_get (calls_of recording rank) (slice_index (stands_of reading groups recording) rank) ≡ o → option_map_or leaves_open o false ≡ true → is_left_open recording rank ≡ true
      by_call None none at = absurd (false≢true at)
      by_call (Some call) is at =
          let within = calls_past recording rank (slice_index (stands_of reading groups recording) rank) (slice_get_within (calls_of recording rank) (slice_index (stands_of reading groups recording) rank) call is) in
          let ends = ends_at (calls_of recording rank) (closed rank within) in
          let same = open_last recording rank (slice_index (stands_of reading groups recording) rank) call ends (not_past reading groups recording rank ends) is (opens_end call at) in
          let last : length (calls_of recording rank) - 1 ≡ slice_index (stands_of reading groups recording) rank = omega (arith, ends.is_last, same) in
          ap (λ (place : ℕ). option_map_or leaves_open (slice_get (calls_of recording rank) place) false) last ∙ ap (λ (o : Option Call). option_map_or leaves_open o false) is ∙ at

  -- who stands at the end of a list that was left open stands at its open
  pub opened_at_open : (rank : ℕ) → is_at_end recording (stands_of reading groups recording) rank ≡ true → is_left_open recording rank ≡ true → is_at_open recording (stands_of reading groups recording) rank ≡ true
  opened_at_open rank at_end opens = by_call (slice_get (calls_of recording rank) (slice_index (stands_of reading groups recording) rank)) refl at_end
    where
      by_call : (o : Option Call) → slice_get (calls_of recording rank) (slice_index (stands_of reading groups recording) rank) ≡ o → option_map_or ends_list o false ≡ true → is_at_open recording (stands_of reading groups recording) rank ≡ true
      by_call None none at = absurd (false≢true at)
      by_call (Some call) is at =
          let within = calls_past recording rank (slice_index (stands_of reading groups recording) rank) (slice_get_within (calls_of recording rank) (slice_index (stands_of reading groups recording) rank) call is) in
          let ends = ends_at (calls_of recording rank) (closed rank within) in
          let same = open_last recording rank (slice_index (stands_of reading groups recording) rank) call ends (not_past reading groups recording rank ends) is at in
          let last : slice_index (stands_of reading groups recording) rank ≡ length (calls_of recording rank) - 1 = omega (arith, ends.is_last, same) in
          ap (λ (place : ℕ). option_map_or leaves_open (slice_get (calls_of recording rank) place) false) last ∙ opens

-- Finalize needs nothing, so a rank there is not held.
module _ (reading : Reading) (groups : Groups) (recording : Lists) (known : Known) (set : Set) where
  finalizes : (call : Call) → ends_list call ≡ true → leaves_open call ≡ false → call ≡ Finalize
  finalizes Finalize h ended = refl
  finalizes Open h ended = absurd (false≢true (sym ended))
  finalizes _ h ended = absurd (false≢true h)

  no_sink : (rank place : ℕ) → slice_get (calls_of recording rank) place ≡ Some Finalize → sink_for groups recording known.sinks rank place ≡ None
  no_sink rank place there = ap (λ (o : Option Envelope). find (λ sink. option_map_or (λ e. may_take groups e sink) o false) known.sinks) none ∙ find_never known.sinks
    where
      by_partner : (b : Bool) → (if b then option_and_then (envelope_of groups rank SendHalf) (slice_get (calls_of recording rank) place) else None) ≡ None
      by_partner true = rw there refl
      by_partner false = refl

      none : spare_at groups recording rank place ≡ None
      none = by_partner (is_none (partner_of groups recording rank place SendHalf))

  needs_are : (rank place : ℕ) → slice_get (calls_of recording rank) place ≡ Some Finalize → call_needs reading groups recording known.sinks rank place Finalize ≡ []
  needs_are rank place there =
      ap (λ (o : Option Sink). ((if sends_freely reading Finalize then [] else option_map_or (λ sink. At sink.rank sink.place ∷ []) o (half_needs groups recording rank place SendHalf Finalize)) ++ half_needs groups recording rank place RecvHalf Finalize ++ probe_needs groups recording rank place Finalize ++ wave_needs groups recording rank place) ++ []) (no_sink rank place there)
      ∙ sym (ap (λ (o : Option Call). option_map_or (needs_of_call reading groups recording rank place) o []) there)
      ∙ ends_without_needs reading groups recording rank place Finalize there refl

  moves_at_end : (rank : ℕ) → is_at_finalize reading groups recording rank ≡ true → may_move reading groups recording known set rank ≡ true
  moves_at_end rank at =
      let both = and_parts (is_at_end recording (stands_of reading groups recording) rank) (not (is_at_open recording (stands_of reading groups recording) rank)) at in
      by_call (slice_get (calls_of recording rank) (slice_index (stands_of reading groups recording) rank)) refl both.0 (not-true (is_at_open recording (stands_of reading groups recording) rank) both.1)
    where
      by_call : (o : Option Call) → slice_get (calls_of recording rank) (slice_index (stands_of reading groups recording) rank) ≡ o → option_map_or ends_list o false ≡ true → option_map_or leaves_open o false ≡ false → may_move reading groups recording known set rank ≡ true
      by_call None none ends ended = absurd (false≢true ends)
      by_call (Some call) is ends ended =
          let same = finalizes call ends ended in
          let there : slice_get (calls_of recording rank) (slice_index (stands_of reading groups recording) rank) ≡ Some Finalize = is ∙ ap (λ (c : Call). Some c) same in
          let left : may_move reading groups recording known set rank ≡ (list_all (may_come recording (stands_of reading groups recording) set) (call_needs reading groups recording known.sinks rank (slice_index (stands_of reading groups recording) rank) Finalize) && true) =
          ap (λ (o : Option Call). is_over (may_come recording (stands_of reading groups recording) set) (option_map_or (waited_by reading groups recording known rank (slice_index (stands_of reading groups recording) rank)) o nothing)) there in
          left
          ∙ ap (λ (needs : List Need). list_all (may_come recording (stands_of reading groups recording) set) needs && true)
          (needs_are rank (slice_index (stands_of reading groups recording) rank) there)

pub graphs_have_the_verdict : GraphsHaveTheVerdict
graphs_have_the_verdict reading groups recording known graph closed is =
    record {
      hang = (λ h. held_there (hang_some graph.held graph.left_open h), λ h. some_hang graph.held graph.left_open h.0 (listed h.0 h.1));
      free = (
        λ h rank within.
            let none = free_none graph.held graph.left_open h in
            let ended = or_parts (is_some_left_open recording) (list_any (λ rank. is_stuck reading groups recording rank && not (is.left_open.0 rank)) (range_with_len 0 (length recording))) (sym is.left_open.2 ∙ none.1) in
            at_finalize rank within none.0 ended.0 ended.1,
        λ all. none_free graph.held graph.left_open (nobody all) (closed_lists all),
      );
    }
  where
    in_list : (rank : ℕ) → Among rank graph.held → is.held.0 rank ≡ true
    in_list rank there = (kept_among rank is.held.0 (range_with_len 0 (length recording)) (subst (λ (ranks : List ℕ). Among rank ranks) is.held.2 there)).1

    held_there : ((rank : ℕ) × Among rank graph.held) → (rank : ℕ) × IsHeldBy reading groups recording known rank
    held_there one = (one.0, (is.held.1 one.0).0 (in_list one.0 one.1))

    listed : (rank : ℕ) → IsHeldBy reading groups recording known rank → Among rank graph.held
    listed rank held =
        subst (λ (ranks : List ℕ). Among rank ranks) (sym is.held.2)
        (among_kept rank is.held.0 (range_with_len 0 (length recording)) (in_range rank (length recording) (held_within reading groups recording known rank held)) ((is.held.1 rank).1 held))

    at_finalize : (rank : ℕ) → rank < length recording → ((other : ℕ) → Among other graph.held → ⊥) → is_some_left_open recording ≡ false → list_any (λ rank. is_stuck reading groups recording rank && not (is.left_open.0 rank)) (range_with_len 0 (length recording)) ≡ false → is_at_finalize reading groups recording rank ≡ true
    at_finalize rank within none ended loose =
        let not_held : is.left_open.0 rank ≡ false = false_from_ne_true (is.left_open.0 rank) (λ h. none rank (listed rank ((is.left_open.1 rank).0 h))) in
        let not_stuck : is_stuck reading groups recording rank ≡ false =
        false_from_ne_true (is_stuck reading groups recording rank)
        (λ stuck. false≢true (sym loose ∙ any_from (λ rank. is_stuck reading groups recording rank && not (is.left_open.0 rank)) rank (range_with_len 0 (length recording)) (in_range rank (length recording) within) (and_from (is_stuck reading groups recording rank) (not (is.left_open.0 rank)) stuck (not_from_false (is.left_open.0 rank) not_held)))) in
        let not_open : is_at_open recording (stands_of reading groups recording) rank ≡ false =
        false_from_ne_true (is_at_open recording (stands_of reading groups recording) rank)
        (λ opens. false≢true (sym ended ∙ any_from (is_left_open recording) rank (range_with_len 0 (length recording)) (in_range rank (length recording) within) (at_open_opened reading groups recording closed rank opens))) in
        and_from (is_at_end recording (stands_of reading groups recording) rank) (not (is_at_open recording (stands_of reading groups recording) rank)) (not_true_not (is_at_end recording (stands_of reading groups recording) rank) not_stuck) (not_from_false (is_at_open recording (stands_of reading groups recording) rank) not_open)
      where
        not_true_not : (b : Bool) → not b ≡ false → b ≡ true
        not_true_not true h = refl
        not_true_not false h = absurd (false≢true (sym h))

    nobody : ((rank : ℕ) → rank < length recording → is_at_finalize reading groups recording rank ≡ true) → (rank : ℕ) → Among rank graph.held → ⊥
    nobody all rank there =
        let held = (is.held.1 rank).0 (in_list rank there) in
        false≢true (sym (held.1 rank held.2) ∙ moves_at_end reading groups recording known held.0 rank (all rank (held_within reading groups recording known rank held)))

    closed_lists : ((rank : ℕ) → rank < length recording → is_at_finalize reading groups recording rank ≡ true) → graph.left_open ≡ false
    closed_lists all = is.left_open.2 ∙ rw (none_open, none_stuck) refl
      where
        parts : (rank : ℕ) → rank < length recording → (is_at_end recording (stands_of reading groups recording) rank ≡ true) × (not (is_at_open recording (stands_of reading groups recording) rank) ≡ true)
        parts rank within = and_parts (is_at_end recording (stands_of reading groups recording) rank) (not (is_at_open recording (stands_of reading groups recording) rank)) (all rank within)

        none_open : is_some_left_open recording ≡ false
        none_open =
            none_from (is_left_open recording) (range_with_len 0 (length recording))
            (λ rank there.
            let within : rank < length recording = in_range_less rank (length recording) there in
            false_from_ne_true (is_left_open recording rank)
            (λ opens. false≢true (sym (not-true (is_at_open recording (stands_of reading groups recording) rank) (parts rank within).1) ∙ opened_at_open reading groups recording closed rank (parts rank within).0 opens)))

        none_stuck : list_any (λ rank. is_stuck reading groups recording rank && not (is.left_open.0 rank)) (range_with_len 0 (length recording)) ≡ false
        none_stuck =
            none_from (λ rank. is_stuck reading groups recording rank && not (is.left_open.0 rank)) (range_with_len 0 (length recording))
            (λ rank there.
            let ends : is_at_end recording (stands_of reading groups recording) rank ≡ true = (parts rank (in_range_less rank (length recording) there)).0 in
            rw ends refl)
