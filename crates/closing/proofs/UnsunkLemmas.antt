-- Records that start no sinks: what is kept of sinks stays with them.
use Rattle.std.proofs.Common.{◌≡◌, ◌∙◌, refl, sym, ap, subst, ℕ, zero, suc, ◌-◌, ◌≤◌, Bool, false, cond, Option, Some, None, option_map, List, [], ◌∷◌, ◌++◌, append_assoc, length, take}
use Rattle.std.specs.Prelude.{flat_map, option_and_then, option_to_list}
use Rattle.std.specs.List.{find}
use Rattle.mpicall.specs.declared.call.Call.{Call}
use Rattle.mpicall.specs.declared.limits.TheConstants.{MOST_REQUESTS}
use Rattle.closing.specs.Left.{Left as LeftSaid}
use Rattle.closing.specs.Pending.{sinks_from}
use Rattle.closing.specs.Sinks.{is_of, sink_for, sink_in}
use Rattle.closing.specs.Steps.{Id, Own, Whole, ReceiveHalf, Sink, Written, Progress, Step, Does, Starts, WaitsForAll, WaitsForOne, PutsOff, WaitsForLate, after_step, after_steps, least_free, number_in, numbers_of, plain, wait_for_one, wait_one, waits_for}
use Rattle.closing.specs.inner.Sinks.{HasSinks}
use Rattle.closing.specs.inner.Taken.{IsKept, left_of}
use Rattle.closing.specs.declared.pending.Sink.{Sink as SinkAt}
use Rattle.closing.specs.declared.pending.Wanted.{Wanted}
use Rattle.closing.specs.declared.walk.Walk.{Walk}
use Rattle.closing.proofs.GrownLemmas.{append_none}
use Rattle.closing.proofs.ListLemmas.{take_past}

-- ---- Records ----

-- it is no sink
abbrev pub IsUnsunk : Option Id → Type 0
IsUnsunk (Some (Sink own wanted is_known)) = ⊥
IsUnsunk it = Unit {0}

abbrev pub AllUnsunk : List Written → Type 0
AllUnsunk [] = Unit {0}
AllUnsunk (one ∷ records) = IsUnsunk one.starts × AllUnsunk records

no_sink : (it : Option Id) → IsUnsunk it → sink_in it ≡ None
no_sink None h = refl
no_sink (Some (Own request)) h = refl
no_sink (Some (Whole line)) h = refl
no_sink (Some (ReceiveHalf line)) h = refl
no_sink (Some (Sink own wanted is_known)) h = absurd h

not_of : (id : ℕ) (it : Option Id) → IsUnsunk it → is_of (Own id) it ≡ false
not_of id None h = refl
not_of id (Some (Own request)) h = refl
not_of id (Some (Whole line)) h = refl
not_of id (Some (ReceiveHalf line)) h = refl
not_of id (Some (Sink own wanted is_known)) h = absurd h

not_left : (rank : ℕ) (one : Written) → IsUnsunk one.starts → left_of rank one ≡ []
not_left rank one h = by_start one.starts h
  where
    by_start : (it : Option Id) → IsUnsunk it → left_of rank (record one { starts = it }) ≡ []
    by_start None none = refl
    by_start (Some (Own request)) none = refl
    by_start (Some (Whole line)) none = refl
    by_start (Some (ReceiveHalf line)) none = refl
    by_start (Some (Sink own wanted is_known)) none = absurd none

abbrev sink_at : ℕ → Wanted → SinkAt
sink_at place wanted = record { place = place; wanted = wanted }

pub sinks_none : (place : ℕ) (more : List Written) → AllUnsunk more → sinks_from place more ≡ []
sinks_none place [] all = refl
sinks_none place (one ∷ more) all =
    ap (λ (it : Option Wanted). option_to_list (option_map (sink_at place) it) ++ sinks_from (suc place) more) (no_sink one.starts all.0)
    ∙ sinks_none (suc place) more all.1

-- with more of them there are the same sinks
pub sinks_on : (place : ℕ) (records more : List Written) → AllUnsunk more → sinks_from place (records ++ more) ≡ sinks_from place records
sinks_on place [] more all = sinks_none place more all
sinks_on place (one ∷ records) more all =
    ap (λ (others : List SinkAt). option_to_list (option_map (sink_at place) (sink_in one.starts)) ++ others) (sinks_on (suc place) records more all)

abbrev found : ℕ → List Written → Option Written
found id records = find (λ one. is_of (Own id) one.starts) records

found_none : (id : ℕ) (more : List Written) → AllUnsunk more → found id more ≡ None
found_none id [] all = refl
found_none id (one ∷ more) all =
    ap (λ (b : Bool). cond b (Some one) (found id more)) (not_of id one.starts all.0) ∙ found_none id more all.1

found_on : (id : ℕ) (records more : List Written) → AllUnsunk more → found id (records ++ more) ≡ found id records
found_on id [] more all = found_none id more all
found_on id (one ∷ records) more all = ap (λ (others : Option Written). cond (is_of (Own id) one.starts) (Some one) others) (found_on id records more all)

pub named_on : (id : ℕ) (records more : List Written) → AllUnsunk more → sink_for (records ++ more) (Own id) ≡ sink_for records (Own id)
named_on id records more all = ap (option_and_then (λ one. sink_in one.starts)) (found_on id records more all)

left_none : (rank : ℕ) (more : List Written) → AllUnsunk more → flat_map (left_of rank) more ≡ []
left_none rank [] all = refl
left_none rank (one ∷ more) all =
    ap (λ (xs : List LeftSaid). xs ++ flat_map (left_of rank) more) (not_left rank one all.0) ∙ left_none rank more all.1

pub left_on : (rank : ℕ) (records more : List Written) → AllUnsunk more → flat_map (left_of rank) (records ++ more) ≡ flat_map (left_of rank) records
left_on rank [] more all = left_none rank more all
left_on rank (one ∷ records) more all = ap (λ (xs : List LeftSaid). left_of rank one ++ xs) (left_on rank records more all)

pub has_on : (walk : Walk) (records more : List Written) → AllUnsunk more → HasSinks records walk.sinks → HasSinks (records ++ more) walk.sinks
has_on walk records more all has = record {
  all = has.all ∙ sym (sinks_on 0 records more all);
  named = λ id. has.named id ∙ sym (named_on id records more all);
}

pub kept_on : (walk : Walk) (records more all_of : List Written) → all_of ≡ records ++ more → AllUnsunk more → IsKept records walk → IsKept all_of walk
kept_on walk records more all_of e all kept =
    subst (λ (xs : List Written). IsKept xs walk) (sym e)
    (record {
      sinks = has_on walk records more all kept.sinks;
      pending = kept.pending;
      left_out = kept.left_out ∙ sym (left_on walk.rank records more all);
    })

-- so it is of a walk that has the same
pub kept_as : (records : List Written) (old new : Walk) → new.rank ≡ old.rank → new.sinks ≡ old.sinks → new.pending ≡ old.pending → new.left_out ≡ old.left_out
    → IsKept records old → IsKept records new
kept_as records old new rank sinks pending left_out kept = record {
  sinks = rw sinks kept.sinks;
  pending = rw pending kept.pending;
  left_out = rw (rank, left_out) kept.left_out;
}

unsunk_both : (xs ys : List Written) → AllUnsunk xs → AllUnsunk ys → AllUnsunk (xs ++ ys)
unsunk_both [] ys one two = two
unsunk_both (x ∷ xs) ys one two = (one.0, unsunk_both xs ys one.1 two)

unsunk_taken : (n : ℕ) (xs : List Written) → AllUnsunk xs → AllUnsunk (take n xs)
unsunk_taken zero xs all = tt
unsunk_taken (suc n) [] all = tt
unsunk_taken (suc n) (x ∷ xs) all = (all.0, unsunk_taken n xs all.1)

pub unsunk_plain : (line : ℕ) (calls : List Call) → AllUnsunk (plain line calls)
unsunk_plain line [] = tt
unsunk_plain line (call ∷ calls) = (tt, unsunk_plain line calls)

-- ---- Steps ----

abbrev pub StartsNone : Step → Type 0
StartsNone (Starts (Sink own wanted is_known) call) = ⊥
StartsNone step = Unit {0}

abbrev pub StartNone : List Step → Type 0
StartNone [] = Unit {0}
StartNone (step ∷ steps) = StartsNone step × StartNone steps

-- the records of another progress, with some after them that start no sinks
pub record GrownUnsunk (old new : Progress) : Type 0 where
  pub more : List Written
  pub records : new.records ≡ old.records ++ more
  pub all : AllUnsunk more

none_more : (p q : Progress) → q.records ≡ p.records → GrownUnsunk p q
none_more p q e = record { more = []; records = e ∙ sym (append_none p.records); all = tt }

waited : (line : ℕ) (p : Progress) (n : Option ℕ) (numbers : List ℕ) → GrownUnsunk p (wait_one p line n numbers)
waited line p None numbers = none_more p p refl
waited line p (Some number) numbers =
    record { more = plain line (wait_for_one number numbers ∷ []); records = refl; all = unsunk_plain line (wait_for_one number numbers ∷ []) }

put : (line : ℕ) (p q : Progress) (calls : List Call) → q.records ≡ p.records ++ plain line calls → GrownUnsunk p q
put line p q calls e = record { more = plain line calls; records = e; all = unsunk_plain line calls }

started : (line : ℕ) (p : Progress) (id : Id) (call : ℕ → Call) → IsUnsunk (Some id) → GrownUnsunk p (after_step p line (Starts id call))
started line p id call none =
    record { more = record { call = call (least_free p.active); line = line; starts = Some id } ∷ []; records = refl; all = (none, tt) }

unsunk_step : (line : ℕ) (p : Progress) (step : Step) → StartsNone step → GrownUnsunk p (after_step p line step)
unsunk_step line p (Does call) h = put line p (after_step p line (Does call)) (call ∷ []) refl
unsunk_step line p (Starts (Own request) call) h = started line p (Own request) call tt
unsunk_step line p (Starts (Whole number) call) h = started line p (Whole number) call tt
unsunk_step line p (Starts (ReceiveHalf number) call) h = started line p (ReceiveHalf number) call tt
unsunk_step line p (Starts (Sink own wanted is_known) call) h = absurd h
unsunk_step line p (WaitsForAll ids) h =
    let numbers = numbers_of p.active ids in
    put line p (after_step p line (WaitsForAll ids)) (waits_for (length numbers) numbers) refl
unsunk_step line p (WaitsForOne id ids) h = waited line p (number_in p.active id) (take MOST_REQUESTS (numbers_of p.active ids))
unsunk_step line p (PutsOff ids) h = none_more p (after_step p line (PutsOff ids)) refl
unsunk_step line p WaitsForLate h =
    let numbers = numbers_of p.active p.late in
    put line p (after_step p line WaitsForLate) (waits_for (length numbers) numbers) refl

pub unsunk_steps : (line : ℕ) (p : Progress) (steps : List Step) → StartNone steps → GrownUnsunk p (after_steps p line steps)
unsunk_steps line p [] h = none_more p p refl
unsunk_steps line p (step ∷ steps) h =
    let one = unsunk_step line p step h.0 in
    let two = unsunk_steps line (after_step p line step) steps h.1 in
    record {
      more = one.more ++ two.more;
      records = two.records ∙ ap (λ xs. xs ++ two.more) one.records ∙ append_assoc p.records one.more two.more;
      all = unsunk_both one.more two.more one.all two.all;
    }

-- what is kept stays with them
pub kept_steps : (walk : Walk) (line : ℕ) (p : Progress) (steps : List Step) → StartNone steps → IsKept p.records walk → IsKept (after_steps p line steps).records walk
kept_steps walk line p steps none kept =
    let grown = unsunk_steps line p steps none in
    kept_on walk p.records grown.more (after_steps p line steps).records grown.records grown.all kept

-- also of a list that is cut after those before
pub cut_steps : (n line : ℕ) (p : Progress) (steps : List Step) → StartNone steps → length p.records ≤ n
    → sinks_from 0 (take n (after_steps p line steps).records) ≡ sinks_from 0 p.records
cut_steps n line p steps none h =
    let grown = unsunk_steps line p steps none in
    ap (λ (xs : List Written). sinks_from 0 (take n xs)) grown.records
    ∙ ap (λ (xs : List Written). sinks_from 0 xs) (take_past n p.records grown.more h)
    ∙ sinks_on 0 p.records (take (n - length p.records) grown.more) (unsunk_taken (n - length p.records) grown.more grown.all)
