-- What is kept of sinks as records are put.
use Rattle.std.proofs.Common.{◌≡◌, refl, sym, ◌∙◌, ap, ℕ, suc, ◌+◌, ◌-◌, ◌==◌, Bool, true, false, cond, Option, Some, None, option_map, option_and_then, List, [], ◌∷◌, ◌++◌, length, map, take, arith, append_assoc, length-append}
use Rattle.std.specs.Prelude.{option_to_list}
use Rattle.std.specs.List.{find, flat_map}
use Rattle.std.proofs.Math.Seq.{take-append_seam}
use Rattle.std.proofs.lemmas.Grind.{flat_map-append}
use Rattle.std.proofs.lemmas.List.{append-nil, map-append}
use Rattle.mpicall.specs.Word.{or_else}
use Rattle.mpicall.specs.declared.call.Call.{Call}
use Rattle.closing.specs.Left.{left_said}
use Rattle.closing.specs.Pending.{sinks_from}
use Rattle.closing.specs.Sinks.{is_of, sink_for, sink_in}
use Rattle.closing.specs.Steps.{Id, Own, Whole, ReceiveHalf, Sink, Written, Progress, Starts, after_step, least_free}
use Rattle.closing.specs.inner.Lists.{Handed, IsCut, Stands}
use Rattle.closing.specs.inner.Sinks.{HasSinks, name_of, named_in}
use Rattle.closing.specs.inner.Sunk.{why_of_sink}
use Rattle.closing.specs.inner.Taken.{IsKept, left_of}
use Rattle.closing.specs.declared.list.List.{List as ListCode}
use Rattle.closing.specs.declared.list.TheConstants.{MOST_RECORDS}
use Rattle.closing.specs.declared.pending.Sink.{Sink as SinkKept}
use Rattle.closing.specs.declared.pending.Sinks.{Sinks}
use Rattle.closing.specs.declared.pending.Wanted.{Wanted}
use Rattle.closing.specs.declared.walk.Left.{Left}
use Rattle.closing.specs.declared.walk.Walk.{Walk}

-- ---- The sinks of records ----

abbrev sink_here : ℕ → Option Wanted → List SinkKept
sink_here place wanted = option_to_list (option_map (λ wanted. record { place = place; wanted = wanted }) wanted)

pub sinks_append : (place : ℕ) (a b : List Written) → sinks_from place (a ++ b) ≡ sinks_from place a ++ sinks_from (place + length a) b
sinks_append place [] b = let e : place ≡ place + 0 = omega arith in ap (λ n. sinks_from n b) e
sinks_append place (one ∷ a) b =
    let e : suc place + length a ≡ place + suc (length a) = omega arith in
    ap (λ xs. sink_here place (sink_in one.starts) ++ xs) (sinks_append (suc place) a b ∙ ap (λ n. sinks_from (suc place) a ++ sinks_from n b) e)
    ∙ sym (append_assoc (sink_here place (sink_in one.starts)) (sinks_from (suc place) a) (sinks_from (place + suc (length a)) b))

-- one record more
sinks_more : (records : List Written) (one : Written) → sinks_from 0 (records ++ one ∷ []) ≡ sinks_from 0 records ++ sink_here (length records) (sink_in one.starts)
sinks_more records one =
    let e : 0 + length records ≡ length records = omega arith in
    sinks_append 0 records (one ∷ [])
    ∙ ap (λ n. sinks_from 0 records ++ sinks_from n (one ∷ [])) e
    ∙ ap (λ xs. sinks_from 0 records ++ xs) (append-nil (sink_here (length records) (sink_in one.starts)))

-- what the sink of a request may take, by the first record of it
abbrev first_for : Option Id → ℕ → Option Wanted → Option Wanted
first_for it id others = cond (is_of (Own id) it) (sink_in it) others

then_found : (b : Bool) (one : Written) (found : Option Written)
    → option_and_then (λ (one : Written). sink_in one.starts) (cond b (Some one) found) ≡ cond b (sink_in one.starts) (option_and_then (λ (one : Written). sink_in one.starts) found)
then_found true one found = refl
then_found false one found = refl

sink_first : (one : Written) (records : List Written) (id : ℕ) → sink_for (one ∷ records) (Own id) ≡ first_for one.starts id (sink_for records (Own id))
sink_first one records id = then_found (is_of (Own id) one.starts) one (find (λ one. is_of (Own id) one.starts) records)

by_own : (b : Bool) (wanted : Wanted) (x y : Option Wanted) → cond b (Some wanted) (or_else x y) ≡ or_else (cond b (Some wanted) x) y
by_own true wanted x y = refl
by_own false wanted x y = refl

first_or : (it : Option Id) (id : ℕ) (x y : Option Wanted) → first_for it id (or_else x y) ≡ or_else (first_for it id x) y
first_or None id x y = refl
first_or (Some (Own request)) id x y = refl
first_or (Some (Whole line)) id x y = refl
first_or (Some (ReceiveHalf line)) id x y = refl
first_or (Some (Sink None wanted is_known)) id x y = refl
first_or (Some (Sink (Some own) wanted is_known)) id x y = by_own (own == id) wanted x y

sink_more : (records : List Written) (one : Written) (id : ℕ)
    → sink_for (records ++ one ∷ []) (Own id) ≡ or_else (sink_for records (Own id)) (first_for one.starts id None)
sink_more [] one id = sink_first one [] id
sink_more (first ∷ records) one id =
    sink_first first (records ++ one ∷ []) id
    ∙ ap (first_for first.starts id) (sink_more records one id)
    ∙ first_or first.starts id (sink_for records (Own id)) (first_for one.starts id None)
    ∙ ap (λ x. or_else x (first_for one.starts id None)) (sym (sink_first first records id))

or_nothing : (x : Option Wanted) → or_else x None ≡ x
or_nothing None = refl
or_nothing (Some wanted) = refl

-- ---- A record that starts no sink ----

pub record IsPlain (it : Id) : Type 0 where
  pub none : sink_in (Some it) ≡ None
  pub of : (id : ℕ) → is_of (Own id) (Some it) ≡ false

pub whole_plain : (line : ℕ) → IsPlain (Whole line)
whole_plain line = record { none = refl; of = λ id. refl }

pub own_plain : (request : ℕ) → IsPlain (Own request)
own_plain request = record { none = refl; of = λ id. refl }

abbrev pub started : Call → ℕ → Id → Written
started call line id = record { call = call; line = line; starts = Some id }

pub sinks_plain : (records : List Written) (call : Call) (line : ℕ) (id : Id) → IsPlain id → sinks_from 0 (records ++ started call line id ∷ []) ≡ sinks_from 0 records
sinks_plain records call line id plain =
    sinks_more records (started call line id)
    ∙ ap (λ w. sinks_from 0 records ++ sink_here (length records) w) plain.none
    ∙ append-nil (sinks_from 0 records)

named_plain : (records : List Written) (call : Call) (line : ℕ) (id : Id) (request : ℕ) → IsPlain id
    → sink_for (records ++ started call line id ∷ []) (Own request) ≡ sink_for records (Own request)
named_plain records call line id request plain =
    sink_more records (started call line id) request
    ∙ ap (λ b. or_else (sink_for records (Own request)) (cond b (sink_in (Some id)) None)) (plain.of request)
    ∙ or_nothing (sink_for records (Own request))

pub has_plain : (records : List Written) (call : Call) (line : ℕ) (id : Id) (it : Sinks) → IsPlain id → HasSinks records it → HasSinks (records ++ started call line id ∷ []) it
has_plain records call line id it plain has = record {
  all = has.all ∙ sym (sinks_plain records call line id plain);
  named = λ request. has.named request ∙ sym (named_plain records call line id request plain);
}

left_plain_one : (rank line : ℕ) (call : Call) (id : Id) → IsPlain id → left_of rank (started call line id) ≡ []
left_plain_one rank line call (Own request) plain = refl
left_plain_one rank line call (Whole whole) plain = refl
left_plain_one rank line call (ReceiveHalf half) plain = refl
left_plain_one rank line call (Sink own wanted is_known) plain = absurd (cc (plain.none))

left_plain : (rank : ℕ) (records : List Written) (call : Call) (line : ℕ) (id : Id) → IsPlain id
    → flat_map (left_of rank) (records ++ started call line id ∷ []) ≡ flat_map (left_of rank) records
left_plain rank records call line id plain =
    flat_map-append (left_of rank) records (started call line id ∷ [])
    ∙ ap (λ xs. flat_map (left_of rank) records ++ (xs ++ [])) (left_plain_one rank line call id plain)
    ∙ append-nil (flat_map (left_of rank) records)

pub kept_plain : (records : List Written) (call : Call) (line : ℕ) (id : Id) (walk : Walk) → IsPlain id → IsKept records walk → IsKept (records ++ started call line id ∷ []) walk
kept_plain records call line id walk plain kept = record {
  sinks = has_plain records call line id walk.sinks plain kept.sinks;
  pending = kept.pending;
  left_out = kept.left_out ∙ sym (left_plain walk.rank records call line id plain);
}

pub kept_before : (records : List Written) (call : Call) (line : ℕ) (id : Id) (walk : Walk) → IsPlain id → IsKept (records ++ started call line id ∷ []) walk → IsKept records walk
kept_before records call line id walk plain kept = record {
  sinks = record {
    all = kept.sinks.all ∙ sinks_plain records call line id plain;
    named = λ request. kept.sinks.named request ∙ named_plain records call line id request plain;
  };
  pending = kept.pending;
  left_out = kept.left_out ∙ left_plain walk.rank records call line id plain;
}

-- ---- A sink ----

first_of_sink : (own : Option ℕ) (wanted : Wanted) (is_known : Bool) (id : ℕ) → first_for (Some (Sink own wanted is_known)) id None ≡ name_of own wanted id
first_of_sink None wanted is_known id = refl
first_of_sink (Some own) wanted is_known id = refl

pub has_put : (records : List Written) (call : Call) (line : ℕ) (own : Option ℕ) (wanted : Wanted) (is_known : Bool) (old new : Sinks) → HasSinks records old
    → new.all.items ≡ old.all.items ++ record { place = length records; wanted = wanted } ∷ []
    → ((id : ℕ) → named_in new id ≡ or_else (named_in old id) (name_of own wanted id))
    → HasSinks (records ++ started call line (Sink own wanted is_known) ∷ []) new
has_put records call line own wanted is_known old new has all named = record {
  all = all ∙ ap (λ xs. xs ++ record { place = length records; wanted = wanted } ∷ []) has.all ∙ sym (sinks_more records (started call line (Sink own wanted is_known)));
  named = λ id. named id ∙ ap (λ x. or_else x (name_of own wanted id)) (has.named id)
      ∙ ap (or_else (sink_for records (Own id))) (sym (first_of_sink own wanted is_known id))
      ∙ sym (sink_more records (started call line (Sink own wanted is_known)) id);
}

-- one without a request
pub unnamed_stays : (old new : Sinks) (wanted : Wanted) → new.named ≡ old.named → (id : ℕ) → named_in new id ≡ or_else (named_in old id) (name_of None wanted id)
unnamed_stays old new wanted e id = (ap_named e) ∙ sym (or_nothing (named_in old id))
  where
    ap_named : new.named ≡ old.named → named_in new id ≡ named_in old id
    ap_named e = rw e refl

-- its entry stands in no line of its own
pub left_put : (records : List Written) (call : Call) (line : ℕ) (own : Option ℕ) (wanted : Wanted) (is_known : Bool) (rank : ℕ) (old new : List Left)
    → map (left_said rank) old ≡ flat_map (left_of rank) records → new ≡ old ++ record { line = line; why = why_of_sink is_known } ∷ []
    → map (left_said rank) new ≡ flat_map (left_of rank) (records ++ started call line (Sink own wanted is_known) ∷ [])
left_put records call line own wanted is_known rank old new before e =
    ap (map (left_said rank)) e
    ∙ map-append (left_said rank) old (record { line = line; why = why_of_sink is_known } ∷ [])
    ∙ ap (λ xs. xs ++ record { rank = rank; line = line; why = why_of_sink is_known } ∷ []) before
    ∙ sym (flat_map-append (left_of rank) records (started call line (Sink own wanted is_known) ∷ []))

-- ---- A list that is too long ----

pub cut_same : (records more : List Written) → length records ≡ MOST_RECORDS - 1 → sinks_from 0 (take (MOST_RECORDS - 1) (records ++ more)) ≡ sinks_from 0 records
cut_same records more e =
    ap (λ n. sinks_from 0 (take n (records ++ more))) (sym e) ∙ ap (sinks_from 0) (take-append_seam records more)

-- the list had as many records as it may, where one more cuts it
pub full_before : (handed : Handed) (progress : Progress) (line : ℕ) (id : Id) (call : ℕ → Call) (old new : ListCode) → Stands handed progress old
    → IsCut handed (after_step progress line (Starts id call)) line new → length progress.records ≡ MOST_RECORDS - 1
full_before handed progress line id call old new stands cut =
    omega (arith, cut.long, stands.short, stands.count, length-append progress.records (started (call (least_free progress.active)) line id ∷ []))
