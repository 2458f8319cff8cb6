-- The sinks of a run's recording fit it, so that each held rank stays where it stands.
use Rattle.std.proofs.Common.{inl, inr, ◌≡◌, ◌∙◌, ◌<◌, ◌≤◌, ◌⊎◌, ℕ, zero, suc, ◌+◌, false, Option, Some, None, List, [], ◌∷◌, ◌++◌, length, map, refl, sym, ap, subst, ⊎_elim, arith}
use Rattle.std.specs.Prelude.{option_map, option_and_then, slice_get}
use Rattle.std.specs.List.{flat_map, range_with_len}
use Rattle.std.proofs.lemmas.Option.{none-some, same_Some, slice_get-map, slice_get_within}
use Rattle.mpicall.specs.declared.call.Call.{Call}
use Rattle.callstore.specs.declared.envelope.Half.TheVariants.{Recv as RecvHalf}
use Rattle.callstore.specs.declared.envelope.Message.{Message}
use Rattle.callstore.specs.Envelopes.{message_of, probed_message}
use Rattle.callstore.specs.Recordings.{Lists}
use Rattle.callstore.specs.Requests.{started_in}
use Rattle.waitgraph.specs.Pending.{takes}
use Rattle.waitgraph.specs.PendingStays.{FitsSinks, HasItsPlace, HasMessage}
use Rattle.waitgraph.specs.declared.pending.Sink.{Sink}
use Rattle.closing.specs.Entries.{Run}
use Rattle.closing.specs.Entry.{Choice}
use Rattle.closing.specs.Pending.{sinks_of}
use Rattle.closing.specs.Recording.{calls_of, list_of, recording_of}
use Rattle.closing.specs.declared.pending.Sink.{Sink as OwnSink}
use Rattle.lawful.specs.SinkPlaces.{HasMessage as CallHasMessage}
use Rattle.lawful.proofs.ReadRuns.{list_there}
use Rattle.lawful.proofs.SinkLaws.{each_sink_has_its_place, none_is_behind_a_sink, sinks_are_in_order}
use Rattle.judging.specs.KnownCalls.{known_of, sink_as}

-- ---- The sinks of a rank among all ----

abbrev own : Run → Choice → ℕ → List Sink
own run choice rank = map (sink_as rank) (sinks_of (list_of run choice rank))

abbrev of_ranks : Run → Choice → ℕ → ℕ → List Sink
of_ranks run choice first count = flat_map (own run choice) (range_with_len first count)

record IsOwn (run : Run) (choice : Choice) (rank index : ℕ) (sink : Sink) : Type 0 where
  one : OwnSink
  is_one : slice_get (sinks_of (list_of run choice rank)) index ≡ Some one
  same : sink ≡ sink_as rank one

is_own : (run : Run) (choice : Choice) (rank index : ℕ) (sink : Sink) → slice_get (own run choice rank) index ≡ Some sink → IsOwn run choice rank index sink
is_own run choice rank index sink h =
    by (slice_get (sinks_of (list_of run choice rank)) index) refl (sym (slice_get-map (sink_as rank) (sinks_of (list_of run choice rank)) index) ∙ h)
  where
    by : (o : Option OwnSink) → slice_get (sinks_of (list_of run choice rank)) index ≡ o → option_map (sink_as rank) o ≡ Some sink → IsOwn run choice rank index sink
    by None is e = absurd (none-some sink e)
    by (Some one) is e = record { one = one; is_one = is; same = sym (same_Some (sink_as rank one) sink e) }

-- an element of the second of two lists
record IsPast (xs ys : List Sink) (index : ℕ) (sink : Sink) : Type 0 where
  place : ℕ
  is_place : index ≡ length xs + place
  is_it : slice_get ys place ≡ Some sink

in_both : (xs ys : List Sink) (index : ℕ) (sink : Sink) → slice_get (xs ++ ys) index ≡ Some sink → (slice_get xs index ≡ Some sink) ⊎ IsPast xs ys index sink
in_both [] ys index sink h = inr (record { place = index; is_place = whole index; is_it = h })
  where
    whole : (n : ℕ) → n ≡ 0 + n
    whole n = omega arith
in_both (x ∷ xs) ys zero sink h = inl h
in_both (x ∷ xs) ys (suc index) sink h =
    ⊎_elim
    (λ (here : slice_get xs index ≡ Some sink). inl here)
    (λ (past : IsPast xs ys index sink).
    let further : suc index ≡ suc (length xs) + past.place = omega (arith, past.is_place) in
    inr (record { place = past.place; is_place = further; is_it = past.is_it }))
    (in_both xs ys index sink h)

record IsOfSome (run : Run) (choice : Choice) (first count : ℕ) (sink : Sink) : Type 0 where
  rank : ℕ
  place : ℕ
  low : first ≤ rank
  high : rank < first + count
  is_it : slice_get (own run choice rank) place ≡ Some sink

of_some : (run : Run) (choice : Choice) (first count index : ℕ) (sink : Sink) → slice_get (of_ranks run choice first count) index ≡ Some sink → IsOfSome run choice first count sink
of_some run choice first zero index sink h = absurd (none-some sink h)
of_some run choice first (suc count) index sink h =
    ⊎_elim
    (λ (here : slice_get (own run choice first) index ≡ Some sink).
    record { rank = first; place = index; low = omega arith; high = omega arith; is_it = here })
    (λ (past : IsPast (own run choice first) (of_ranks run choice (first + 1) count) index sink).
    let it = of_some run choice (first + 1) count past.place sink past.is_it in
    record { rank = it.rank; place = it.place; low = omega (arith, it.low); high = omega (arith, it.high); is_it = it.is_it })
    (in_both (own run choice first) (of_ranks run choice (first + 1) count) index sink h)

-- those of one rank are in order
own_rise : (run : Run) (choice : Choice) (rank index other : ℕ) (sink later : Sink) → index < other → slice_get (own run choice rank) index ≡ Some sink → slice_get (own run choice rank) other ≡ Some later →
    sink.place < later.place
own_rise run choice rank index other sink later less first second =
    let it = is_own run choice rank index sink first in
    let next = is_own run choice rank other later second in
    subst (λ (s : Sink). s.place < later.place) (sym it.same)
    (subst (λ (s : Sink). it.one.place < s.place) (sym next.same) (sinks_are_in_order run choice rank index other it.one next.one less it.is_one next.is_one))

is_later : (run : Run) (choice : Choice) (first count index : ℕ) (sink : Sink) → slice_get (of_ranks run choice (first + 1) count) index ≡ Some sink → sink.rank ≡ first → ⊥
is_later run choice first count index sink h same =
    let it = of_some run choice (first + 1) count index sink h in
    let rank : sink.rank ≡ it.rank = ap (λ (s : Sink). s.rank) (is_own run choice it.rank it.place sink it.is_it).same in
    omega (arith, it.low, rank, same)

rise : (run : Run) (choice : Choice) (first count index other : ℕ) (sink later : Sink) → index < other → slice_get (of_ranks run choice first count) index ≡ Some sink → slice_get (of_ranks run choice first count) other ≡ Some later →
    sink.rank ≡ later.rank → sink.place < later.place
rise run choice first zero index other sink later less a b same = absurd (none-some sink a)
rise run choice first (suc count) index other sink later less a b same =
    let ours = own run choice first in
    let others = of_ranks run choice (first + 1) count in
    ⊎_elim
    (λ (here : slice_get ours index ≡ Some sink).
    ⊎_elim
    (λ (too : slice_get ours other ≡ Some later). own_rise run choice first index other sink later less here too)
    (λ (past : IsPast ours others other later).
    let rank : sink.rank ≡ first = ap (λ (s : Sink). s.rank) (is_own run choice first index sink here).same in
    absurd (is_later run choice first count past.place later past.is_it (sym same ∙ rank)))
    (in_both ours others other later b))
    (λ (past : IsPast ours others index sink).
    ⊎_elim
    (λ (here : slice_get ours other ≡ Some later). absurd (omega (arith, less, past.is_place, slice_get_within ours other later here)))
    (λ (too : IsPast ours others other later).
    rise run choice (first + 1) count past.place too.place sink later (omega (arith, less, past.is_place, too.is_place)) past.is_it too.is_it same)
    (in_both ours others other later b))
    (in_both ours others index sink a)

-- ---- What comes after ----

record IsCallWith (calls : List Call) (place : ℕ) (m : Message) : Type 0 where
  call : Call
  is_there : slice_get calls place ≡ Some call
  has_it : CallHasMessage call m

call_with : (calls : List Call) (place : ℕ) (m : Message) →
    (option_and_then (message_of RecvHalf) (slice_get calls place) ≡ Some m) ⊎ (option_and_then probed_message (slice_get calls place) ≡ Some m) → IsCallWith calls place m
call_with calls place m has = by (slice_get calls place) refl has
  where
    by : (o : Option Call) → slice_get calls place ≡ o → (option_and_then (message_of RecvHalf) o ≡ Some m) ⊎ (option_and_then probed_message o ≡ Some m) → IsCallWith calls place m
    by None is h = absurd (⊎_elim (λ (e : ◌≡◌ {A = Option Message} None (Some m)). none-some m e) (λ (e : ◌≡◌ {A = Option Message} None (Some m)). none-some m e) h)
    by (Some call) is h = record { call = call; is_there = is; has_it = h }

-- ---- They fit ----

abbrev lists : Run → Choice → Lists
lists run choice = map calls_of (recording_of run choice).lists

pub sinks_fit : (run : Run) (choice : Choice) → FitsSinks (lists run choice) (known_of run choice).sinks
sinks_fit run choice = record {
  have_places = λ index sink is.
      let at = of_some run choice 0 (length run) index sink is in
      let within : at.rank < length run = omega (arith, at.high) in
      let it = is_own run choice at.rank at.place sink at.is_it in
      let there = each_sink_has_its_place run choice at.rank at.place it.one it.is_one in
      subst (λ (s : Sink). HasItsPlace (lists run choice) s) (sym it.same) (record {
        req = there.req;
        comm = there.comm;
        tag = there.tag;
        is_there = ap (λ (calls : List Call). slice_get calls it.one.place) (list_there run choice at.rank within) ∙ there.is_there;
        is_active = ap (λ (calls : List Call). started_in calls there.req) (list_there run choice at.rank within) ∙ there.is_active;
      });
  in_order = λ index other sink later less first second same. rise run choice 0 (length run) index other sink later less first second same;
  none_behind = λ index place sink m is behind has.
      let at = of_some run choice 0 (length run) index sink is in
      let within : at.rank < length run = omega (arith, at.high) in
      let it = is_own run choice at.rank at.place sink at.is_it in
      let own_behind : it.one.place < place = subst (λ (s : Sink). s.place < place) it.same behind in
      let own_has : HasMessage (lists run choice) at.rank place m = subst (λ (s : Sink). HasMessage (lists run choice) s.rank place m) it.same has in
      let with_it = call_with (calls_of (list_of run choice at.rank)) place m
      (subst (λ (calls : List Call). (option_and_then (message_of RecvHalf) (slice_get calls place) ≡ Some m) ⊎ (option_and_then probed_message (slice_get calls place) ≡ Some m)) (list_there run choice at.rank within) own_has) in
      subst (λ (s : Sink). takes s.wanted m.comm m.peer m.tag ≡ false) (sym it.same)
      (none_is_behind_a_sink run choice at.rank at.place place it.one with_it.call m it.is_one own_behind with_it.is_there with_it.has_it);
}
