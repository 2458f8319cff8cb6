-- The sinks of a list: each has its place, they are in order, and none takes a message of what comes after it.
use Rattle.std.proofs.Common.{◌≡◌, ℕ, zero, suc, ◌+◌, ◌-◌, ◌<◌, Bool, true, false, Option, Some, None, List, [], ◌∷◌, ◌++◌, length, map, refl, sym, ap, subst, ◌∙◌, ⊎_elim, arith, inl, inr, eq-eqb, append_assoc, length-append}
use Rattle.std.specs.Prelude.{⊤, is_none, nat_lt, option_map, option_to_list, slice_get}
use Rattle.std.proofs.lemmas.Bool.{cases_Bool, false≢true}
use Rattle.std.proofs.lemmas.Option.{none-some, same_Some}
use Rattle.mpicall.specs.Ending.{ends_list}
use Rattle.mpicall.specs.declared.call.Call.{Call}
use Rattle.mpicall.specs.declared.call.Call.TheVariants.{Irecv, Finalize, Open}
use Rattle.mpicall.specs.declared.call.Peer.TheVariants as peer
use Rattle.callstore.specs.Requests.{does_start, started_in}
use Rattle.pairing.proofs.ActiveLemmas.{started-push}
use Rattle.closing.specs.Entries.{Run, journal_at, entries_at}
use Rattle.closing.specs.Entry.{Choice}
use Rattle.closing.specs.Numbers.{preface_of}
use Rattle.closing.specs.Pending.{sinks_from}
use Rattle.closing.specs.Recording.{Listed, calls_of, progress_first, whole_list, most_records, cut, without_journal, list_of}
use Rattle.closing.specs.Sinks.{sink_in}
use Rattle.closing.specs.Steps.{Id, Written}
use Rattle.closing.specs.declared.choice.Unreported.{Unreported}
use Rattle.closing.specs.declared.choice.Unreported.TheVariants as unreported
use Rattle.closing.specs.declared.pending.Sink.{Sink}
use Rattle.closing.specs.declared.pending.Wanted.{Wanted}
use Rattle.lawful.specs.SinkPlaces.{EachSinkHasItsPlace, SinksAreInOrder, HasMessage, NoneIsBehindASink}
use Rattle.lawful.proofs.FaultLemmas.{at_end}
use Rattle.lawful.proofs.ListLemmas.{list_of_fits}
use Rattle.lawful.proofs.NoSinks.{none_plain, list_of_none}
use Rattle.lawful.proofs.SinkPairs.{Before, Pairs, pairs_at, pairs_take}
use Rattle.lawful.proofs.SinksKept.{AllSunk, IsSunk, Kept, KeepsOne, SunkBy, Untouched, list_of_sunk}
use Rattle.lawful.proofs.SinksApart.{Apart, Silent, TakesOne, list_apart, none_either, pairs_none}

-- ---- Places ----

-- the record of a sink, where the first record has a place
record IsThere (base : ℕ) (records : List Written) (sink : Sink) : Type 0 where
  place : ℕ
  one : Written
  is_one : slice_get records place ≡ Some one
  is_sink : sink_in one.starts ≡ Some sink.wanted
  same : sink.place ≡ base + place

abbrev sink_at : ℕ → Wanted → Sink
sink_at base wanted = record { place = base; wanted = wanted }

abbrev sinks_with : ℕ → Option Wanted → List Sink → List Sink
sinks_with base o others = option_to_list (option_map (sink_at base) o) ++ others

one_more : (base : ℕ) (one : Written) (records : List Written) (sink : Sink) → IsThere (suc base) records sink → IsThere base (one ∷ records) sink
one_more base one records sink it = record {
  place = suc it.place;
  one = it.one;
  is_one = it.is_one;
  is_sink = it.is_sink;
  same = it.same ∙ further base it.place;
}
  where
    further : (a b : ℕ) → suc a + b ≡ a + suc b
    further a b = omega arith

there : (base : ℕ) (records : List Written) (index : ℕ) (sink : Sink) → slice_get (sinks_from base records) index ≡ Some sink → IsThere base records sink
there base [] index sink h = absurd (none-some sink h)
there base (one ∷ records) index sink h = by_sink (sink_in one.starts) index refl (λ later is. there (suc base) records later sink is) h
  where
    first : (wanted : Wanted) → sink_in one.starts ≡ Some wanted → sink_at base wanted ≡ sink → IsThere base (one ∷ records) sink
    first wanted is same = record {
      place = 0;
      one = one;
      is_one = refl;
      is_sink = is ∙ ap (λ (s : Sink). Some s.wanted) same;
      same = sym (ap (λ (s : Sink). s.place) same) ∙ plus_zero base;
    }
      where
        plus_zero : (a : ℕ) → a ≡ a + 0
        plus_zero a = omega arith

    by_sink : (o : Option Wanted) (at : ℕ) → sink_in one.starts ≡ o → ((later : ℕ) → slice_get (sinks_from (suc base) records) later ≡ Some sink → IsThere (suc base) records sink) → slice_get (sinks_with base o (sinks_from (suc base) records)) at ≡ Some sink → IsThere base (one ∷ records) sink
    by_sink None at is rest e = one_more base one records sink (rest at e)
    by_sink (Some wanted) zero is rest e = first wanted is (same_Some (sink_at base wanted) sink e)
    by_sink (Some wanted) (suc at) is rest e = one_more base one records sink (rest at e)

rise : (base : ℕ) (records : List Written) (index other : ℕ) (sink later : Sink) → index < other → slice_get (sinks_from base records) index ≡ Some sink → slice_get (sinks_from base records) other ≡ Some later → sink.place < later.place
rise base [] index other sink later less first second = absurd (none-some sink first)
rise base (one ∷ records) index other sink later less first second =
    by_sink (sink_in one.starts) index other less (λ i j ij a b. rise (suc base) records i j sink later ij a b) first second
  where
    below : (a b c d : ℕ) → a ≡ b → d ≡ suc b + c → a < d
    below a b c d ab dc = omega (arith, ab, dc)

    by_sink : (o : Option Wanted) (i j : ℕ) → i < j → ((x y : ℕ) → x < y → slice_get (sinks_from (suc base) records) x ≡ Some sink → slice_get (sinks_from (suc base) records) y ≡ Some later → sink.place < later.place) → slice_get (sinks_with base o (sinks_from (suc base) records)) i ≡ Some sink → slice_get (sinks_with base o (sinks_from (suc base) records)) j ≡ Some later → sink.place < later.place
    by_sink None i j ij rest a b = rest i j ij a b
    by_sink (Some wanted) i zero ij rest a b = absurd (omega (arith, ij))
    by_sink (Some wanted) zero (suc j) ij rest a b =
        let it = there (suc base) records j later b in
        below sink.place base it.place later.place (ap (λ (s : Sink). s.place) (sym (same_Some (sink_at base wanted) sink a))) it.same
    by_sink (Some wanted) (suc i) (suc j) ij rest a b = rest i j (omega (arith, ij)) a b

pub sinks_are_in_order : SinksAreInOrder
sinks_are_in_order run choice rank index other sink later less first second = rise 0 (list_of run choice rank).records index other sink later less first second

-- ---- Requests ----

abbrev calls_in : List Written → List Call
calls_in records = map (λ one. one.call) records

-- calls that leave it alone
abbrev AllUntouched : ℕ → List Written → Type 0
AllUntouched number [] = ⊤
AllUntouched number (one ∷ records) = Untouched number one.call × AllUntouched number records

started_same : (calls : List Call) (call : Call) (number : ℕ) → Untouched number call → started_in (calls ++ call ∷ []) number ≡ started_in calls number
started_same calls call number is = started-push calls call number ∙ rw (is.starts_other, is.completes_other) refl

started_still : (calls : List Call) (records : List Written) (end : Call) (number : ℕ) → AllUntouched number records → Untouched number end → started_in (calls ++ (calls_in records ++ end ∷ [])) number ≡ started_in calls number
started_still calls [] end number all last = started_same calls end number last
started_still calls (one ∷ records) end number all last =
    ap (λ (every : List Call). started_in every number) (sym (append_assoc calls (one.call ∷ []) (calls_in records ++ end ∷ [])))
    ∙ started_still (calls ++ one.call ∷ []) records end number all.1 last ∙ started_same calls one.call number all.0

untouched_behind : (one : Written) (wanted : Wanted) (number : ℕ) (records : List Written) → sink_in one.starts ≡ Some wanted → one.call ≡ Irecv number wanted.comm peer.Null 0 → Before Kept one records → AllUntouched number records
untouched_behind one wanted number [] is call all = tt
untouched_behind one wanted number (other ∷ records) is call all = (
  (subst (λ (o : Option Wanted). KeepsOne o one.call other.call) is all.0) number (rw call refl),
  untouched_behind one wanted number records is call all.1,
)

starts_it : (calls : List Call) (call : Call) (number comm : ℕ) → call ≡ Irecv number comm peer.Null 0 → started_in (calls ++ call ∷ []) number ≡ Some (length calls)
starts_it calls call number comm is =
    let starts : does_start number call ≡ true = rw is (eq-eqb number number refl) in
    started-push calls call number ∙ rw starts refl

sink_started : (calls : List Call) (records : List Written) (end : Call) (place : ℕ) (one : Written) (wanted : Wanted) (number : ℕ) → Pairs Kept records → slice_get records place ≡ Some one → sink_in one.starts ≡ Some wanted → one.call ≡ Irecv number wanted.comm peer.Null 0 → Untouched number end → started_in (calls ++ (calls_in records ++ end ∷ [])) number ≡ Some (length calls + place)
sink_started calls [] end place one wanted number pairs h is call last = absurd (none-some one h)
sink_started calls (first ∷ records) end zero one wanted number pairs h is call last =
    let same = same_Some first one h in
    let own : first.call ≡ Irecv number wanted.comm peer.Null 0 = ap (λ (w : Written). w.call) same ∙ call in
    let sink : sink_in first.starts ≡ Some wanted = ap (λ (w : Written). sink_in w.starts) same ∙ is in
    ap (λ (every : List Call). started_in every number) (sym (append_assoc calls (first.call ∷ []) (calls_in records ++ end ∷ [])))
    ∙ started_still (calls ++ first.call ∷ []) records end number (untouched_behind first wanted number records sink own pairs.0) last
    ∙ starts_it calls first.call number wanted.comm own ∙ ap (λ (n : ℕ). Some n) (plus_zero (length calls))
  where
    plus_zero : (a : ℕ) → a ≡ a + 0
    plus_zero a = omega arith
sink_started calls (first ∷ records) end (suc place) one wanted number pairs h is call last =
    ap (λ (every : List Call). started_in every number) (sym (append_assoc calls (first.call ∷ []) (calls_in records ++ end ∷ [])))
    ∙ sink_started (calls ++ first.call ∷ []) records end place one wanted number pairs.1 h is call last
    ∙ ap (λ (n : ℕ). Some n) (further (length (calls ++ first.call ∷ [])) (length calls) place (length-append calls (first.call ∷ [])))
  where
    further : (a b c : ℕ) → a ≡ b + 1 → a + c ≡ b + suc c
    further a b c ab = omega (arith, ab)

end_untouched : (number : ℕ) (call : Call) → ends_list call ≡ true → Untouched number call
end_untouched number Finalize h = record { starts_other = refl; completes_other = refl }
end_untouched number Open h = record { starts_other = refl; completes_other = refl }
end_untouched number _ h = absurd (false≢true h)

sunk_at : (active : List (Id × ℕ)) (records : List Written) (place : ℕ) (one : Written) → AllSunk active records → slice_get records place ≡ Some one → SunkBy active (sink_in one.starts) one.call
sunk_at active [] place one all h = absurd (none-some one h)
sunk_at active (first ∷ records) zero one all h = subst (λ (w : Written). SunkBy active (sink_in w.starts) w.call) (same_Some first one h) all.0
sunk_at active (first ∷ records) (suc place) one all h = sunk_at active records place one all.1 h

call_there : (records : List Written) (end : Call) (place : ℕ) (one : Written) → slice_get records place ≡ Some one → slice_get (calls_in records ++ end ∷ []) place ≡ Some one.call
call_there [] end place one h = absurd (none-some one h)
call_there (first ∷ records) end zero one h = ap (λ (w : Written). Some w.call) (same_Some first one h)
call_there (first ∷ records) end (suc place) one h = call_there records end place one h

pub each_sink_has_its_place : EachSinkHasItsPlace
each_sink_has_its_place run choice rank index sink h =
    let it = list_of run choice rank in
    let own = there 0 it.records index sink h in
    let all = list_of_sunk run choice rank in
    let sunk : IsSunk all.active sink.wanted own.one.call =
    subst (λ (o : Option Wanted). SunkBy all.active o own.one.call) own.is_sink (sunk_at all.active it.records own.place own.one all.sunk own.is_one) in
    let place : sink.place ≡ own.place = own.same ∙ zero_plus own.place in
    record {
      req = sunk.number;
      comm = sink.wanted.comm;
      tag = 0;
      is_there = subst (λ (n : ℕ). slice_get (calls_of it) n ≡ Some (Irecv sunk.number sink.wanted.comm peer.Null 0)) (sym place)
          (call_there it.records it.end own.place own.one own.is_one ∙ ap (λ (c : Call). Some c) sunk.is);
      is_active = sink_started [] it.records it.end own.place own.one sink.wanted sunk.number all.pairs own.is_one own.is_sink sunk.is
          (end_untouched sunk.number it.end (list_of_fits run choice rank).1)
          ∙ ap (λ (n : ℕ). Some n) (sym own.same);
    }
  where
    zero_plus : (a : ℕ) → 0 + a ≡ a
    zero_plus a = omega arith

-- ---- What comes after them ----

cut_apart : (it : Listed) → Pairs Apart it.records → Pairs Apart (cut it).records
cut_apart it all =
    elim (cases_Bool (nat_lt (length it.records) most_records)) [
      | inl short ↦ rw short all
      | inr long ↦ rw long (pairs_take Apart (most_records - 1) it.records all)
    ]

bare_apart : (b : Bool) (it : Listed) → Pairs Apart it.records → Pairs Apart (without_journal b it).records
bare_apart true it all = all
bare_apart false it all = all

all_apart : (run : Run) (choice : Choice) (rank : ℕ) → Pairs Apart (list_of run choice rank).records
all_apart run choice rank = by_choice choice.unreported refl
  where
    by_choice : (it : Unreported) → choice.unreported ≡ it → Pairs Apart (list_of run choice rank).records
    by_choice unreported.Ends is = pairs_none (list_of run choice rank).records (list_of_none run choice rank is)
    by_choice unreported.Sinks is =
        bare_apart (is_none (journal_at run rank)) (cut (whole_list run choice rank))
        (cut_apart (whole_list run choice rank)
        (list_apart run choice (entries_at run rank) (progress_first run rank) is
        (pairs_none (progress_first run rank).records (none_plain 0 (preface_of run rank)))))

record IsCall (records : List Written) (place : ℕ) (call : Call) : Type 0 where
  one : Written
  is_one : slice_get records place ≡ Some one
  same : one.call ≡ call

written_there : (records : List Written) (place : ℕ) (call : Call) → slice_get (calls_in records) place ≡ Some call → IsCall records place call
written_there [] place call h = absurd (none-some call h)
written_there (first ∷ records) zero call h = record { one = first; is_one = refl; same = same_Some first.call call h }
written_there (first ∷ records) (suc place) call h =
    let rest = written_there records place call h in
    record { one = rest.one; is_one = rest.is_one; same = rest.same }

end_silent : (call : Call) → ends_list call ≡ true → Silent call
end_silent Finalize h = λ m has. none_either m has
end_silent Open h = λ m has. none_either m has
end_silent _ h = absurd (false≢true h)

pub none_is_behind_a_sink : NoneIsBehindASink
none_is_behind_a_sink run choice rank index place sink call m h less is has =
    let it = list_of run choice rank in
    let own = there 0 it.records index sink h in
    ⊎_elim
    (λ before.
    let other = written_there it.records place call before.1 in
    let apart = pairs_at Apart it.records own.place place own.one other.one (all_apart run choice rank) (within own.place sink.place place own.same less) own.is_one other.is_one in
    let takes_none : TakesOne (Some sink.wanted) other.one.call = subst (λ (o : Option Wanted). TakesOne o other.one.call) own.is_sink apart in
    takes_none m (subst (λ (c : Call). HasMessage c m) (sym other.same) has))
    (λ last.
    let ends : ends_list call ≡ true = subst (λ (c : Call). ends_list c ≡ true) last.1 (list_of_fits run choice rank).1 in
    absurd (end_silent call ends m has))
    (at_end (calls_in it.records) it.end place call is)
  where
    within : (a b c : ℕ) → b ≡ 0 + a → b < c → a < c
    within a b c ba bc = omega (arith, ba, bc)
