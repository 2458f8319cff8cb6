-- Where no rank has a pending call and there is no sink, what is said by what is known is said without.
use Rattle.std.proofs.Common.{◌≡◌, ◌∙◌, ℕ, Bool, true, false, ◌||◌, ◌&&◌, ◌==◌, not, if◌then◌else◌, Option, Some, None, List, [], ◌∷◌, ◌++◌, length, map, refl, sym, ap, subst}
use Rattle.std.specs.Prelude.{◌↔◌, option_map, option_and_then, slice_get, slice_index}
use Rattle.std.specs.List.{filter, filter_map, flat_map, list_any, range_with_len}
use Rattle.std.specs.Option.{option_map_or}
use Rattle.mpicall.specs.declared.call.Call.{Call}
use Rattle.mpigroup.specs.Groups.{Groups}
use Rattle.callstore.specs.Recordings.{Lists, IsClosed, calls_of}
use Rattle.moves.specs.Stands.{stands_of}
use Rattle.moves.specs.declared.reading.Reading.{Reading}
use Rattle.pairing.specs.LeftOpen.{leaves_open}
use Rattle.waitgraph.specs.Causes.{CauseView, CycleOf, AreCauses}
use Rattle.waitgraph.specs.Graphs.{GraphView, IsGraphOf}
use Rattle.waitgraph.specs.Held.{Set, is_some_left_open}
use Rattle.waitgraph.specs.Pending.{Known, Part, PendingView, Waited, call_needs, is_over, none_known, nothing, part_of, pending_waits, waited_by, waited_of}
use Rattle.waitgraph.specs.PendingCauses.{AreCausesBy, missing_by, missing_to, next_by, next_to, starved_by, starved_to}
use Rattle.waitgraph.specs.PendingGraphs.{IsGraphWith, findings_by}
use Rattle.waitgraph.specs.PendingHeld.{AreHeldBy, IsHeldBy, may_come, may_move}
use Rattle.waitgraph.specs.PendingNeeds.{ListsAwaited, awaited_in, awaited_of, held_up_by, is_at_open, item_awaits, item_blocks, items_of, present_blocks}
use Rattle.waitgraph.specs.PendingVerdicts.{IsVerdictBy}
use Rattle.waitgraph.specs.Stuck.{is_stuck, needs_in_order, stuck_of}
use Rattle.waitgraph.specs.Verdicts.{IsVerdictOf, verdict_by}
use Rattle.waitgraph.specs.declared.awaited.Awaited.{Awaited}
use Rattle.waitgraph.specs.declared.awaited.Awaited.TheVariants as awaited
use Rattle.waitgraph.specs.declared.pending.Item.{Item}
use Rattle.waitgraph.specs.declared.verdict.Verdict.{Verdict}
use Rattle.waitgraph.specs.declared.verdict.Verdict.TheVariants.{Free, Hang, Unfinished}
use Rattle.waitgraph.specs.inner.Waits.{waits_at}
use Rattle.waitgraph.proofs.CauseLemmas.{cycle_same, given_same}
use Rattle.waitgraph.proofs.PendingVerdictLemmas.{graphs_have_the_verdict}
use Rattle.waitgraph.proofs.UnmetLemmas.{waits_are}
use Rattle.waitgraph.proofs.VerdictLemmas.{verdict_of_graph}
use Rattle.waitgraph.proofs.WithoutPendingLemmas.{without_pending_it_is_the_graph}

-- these calls are known, and no sink
abbrev pub calls_alone : List PendingView → Known
calls_alone pending = record { pending = pending; sinks = [] }

abbrev pub HasNoItems : List PendingView → Type 0
HasNoItems pending = (rank : ℕ) → items_of (calls_alone pending) rank ≡ []

or_true : (b : Bool) → (b || true) ≡ true
or_true true = refl
or_true false = refl

abbrev waited_for : Bool → List Part → Waited
waited_for is_all parts = record { is_all = is_all; parts = parts }

if_none : (b : Bool) → ◌≡◌ {A = List Awaited} (if b then [] else []) []
if_none true = refl
if_none false = refl

-- ---- Held ranks ----

no_waits : (reading : Reading) (groups : Groups) (recording : Lists) (rank : ℕ) (o : Option PendingView) → option_map_or (λ (call : PendingView). call.items) o [] ≡ [] →
    option_map_or (pending_waits reading groups recording [] rank) o nothing ≡ nothing
no_waits reading groups recording rank None is = refl
no_waits reading groups recording rank (Some call) is =
    ap (λ (items : List Item). waited_for (call.is_all || length items == 0) (map (part_of reading groups recording [] rank) items)) is
    ∙ ap (λ (b : Bool). waited_for b []) (or_true call.is_all)

module _ (reading : Reading) (groups : Groups) (recording : Lists) (pending : List PendingView) (none : HasNoItems pending) where
  waited_call : (rank place : ℕ) (call : Call) → waited_by reading groups recording (calls_alone pending) rank place call ≡ waited_by reading groups recording none_known rank place call
  waited_call rank place call =
      ap (λ (w : Waited). if leaves_open call then w else waited_for true (record { is_all = true; needs = call_needs reading groups recording [] rank place call } ∷ []))
      (no_waits reading groups recording rank (slice_get pending rank) (none rank))

  waited_same : (rank : ℕ) → waited_of reading groups recording (calls_alone pending) rank ≡ waited_of reading groups recording none_known rank
  waited_same rank = by (slice_get (calls_of recording rank) (slice_index (stands_of reading groups recording) rank))
    where
      by : (o : Option Call) → option_map_or (waited_by reading groups recording (calls_alone pending) rank (slice_index (stands_of reading groups recording) rank)) o nothing ≡ option_map_or (waited_by reading groups recording none_known rank (slice_index (stands_of reading groups recording) rank)) o nothing
      by None = refl
      by (Some call) = waited_call rank (slice_index (stands_of reading groups recording) rank) call

  move_same : (set : Set) (rank : ℕ) → may_move reading groups recording (calls_alone pending) set rank ≡ may_move reading groups recording none_known set rank
  move_same set rank = ap (λ (w : Waited). is_over (may_come recording (stands_of reading groups recording) set) w) (waited_same rank)

  held_same : (rank : ℕ) → IsHeldBy reading groups recording (calls_alone pending) rank ↔ IsHeldBy reading groups recording none_known rank
  held_same rank = (
    λ h. (h.0, (λ other is. sym (move_same h.0 other) ∙ h.1 other is), h.2),
    λ h. (h.0, (λ other is. move_same h.0 other ∙ h.1 other is), h.2),
  )

  are_same : (held : Set) → AreHeldBy reading groups recording (calls_alone pending) held → AreHeldBy reading groups recording none_known held
  are_same held are rank = (λ h. (held_same rank).0 ((are rank).0 h), λ h. (are rank).1 ((held_same rank).1 h))

  -- ---- Causes ----

  up_same : (held : Set) (rank : ℕ) → held_up_by reading groups recording (calls_alone pending) held rank ≡ held_up_by reading groups recording none_known held rank
  unfolding held_up_by
  up_same held rank =
      ap (λ (items : List Item). if held rank
      then slice_get (if is_at_open recording (stands_of reading groups recording) rank
      then flat_map (item_blocks (may_come recording (stands_of reading groups recording) held) reading groups recording [] held rank) items
      else map awaited.Call (needs_in_order (present_blocks reading groups recording none_known (stands_of reading groups recording) held rank))) 0
      else None)
      (none rank)

  next_same : (held : Set) (rank : ℕ) → next_by reading groups recording (calls_alone pending) held rank ≡ next_by reading groups recording none_known held rank
  next_same held rank = ap (λ (o : Option Awaited). option_and_then (next_to recording) o) (up_same held rank)

  pub causes_same : (causes : List CauseView) → AreCausesBy reading groups recording (calls_alone pending) causes → AreCausesBy reading groups recording none_known causes
  causes_same causes p =
      let range = range_with_len 0 (length recording) in
      let cycles : List CauseView = filter_map (λ low. option_map (λ (rest : List ℕ). CycleOf (low ∷ rest)) (p.rest_of low)) range in
      record {
        held = p.held;
        are_held = are_same p.held p.are_held;
        rest_of = p.rest_of;
        are_cycles = λ low rest. (
          λ is. cycle_same (next_by reading groups recording (calls_alone pending) p.held) (next_by reading groups recording none_known p.held) (next_same p.held) low rest ((p.are_cycles low rest).0 is),
          λ cycle. (p.are_cycles low rest).1 (cycle_same (next_by reading groups recording none_known p.held) (next_by reading groups recording (calls_alone pending) p.held) (λ rank. sym (next_same p.held rank)) low rest cycle),
        );
        are_all =
            p.are_all
            ∙ ap (λ (missing : List CauseView). cycles ++ missing ++ filter_map (starved_by reading groups recording (calls_alone pending) p.held) range)
            (given_same (missing_by reading groups recording (calls_alone pending) p.held) (missing_by reading groups recording none_known p.held) (λ rank. ap (λ (o : Option Awaited). option_and_then (missing_to recording rank) o) (up_same p.held rank)) range)
            ∙ ap (λ (starved : List CauseView). cycles ++ filter_map (missing_by reading groups recording none_known p.held) range ++ starved)
            (given_same (starved_by reading groups recording (calls_alone pending) p.held) (starved_by reading groups recording none_known p.held) (λ rank. ap (λ (o : Option Awaited). option_and_then (starved_to rank) o) (up_same p.held rank)) range);
      }

  -- ---- Opens ----

  awaits_none : (held : Set) (rank : ℕ) → awaited_of reading groups recording (calls_alone pending) held rank ≡ []
  unfolding awaited_of
  awaits_none held rank =
      ap (λ (items : List Item). if held rank && is_at_open recording (stands_of reading groups recording) rank
      then flat_map (item_awaits (may_come recording (stands_of reading groups recording) held) reading groups recording (stands_of reading groups recording) held rank) items
      else [])
      (none rank)
      ∙ if_none (held rank && is_at_open recording (stands_of reading groups recording) rank)

  pub none_awaited : (at_open : List (List Awaited)) → ListsAwaited reading groups recording (calls_alone pending) at_open → (rank : ℕ) → awaited_in at_open rank ≡ []
  none_awaited at_open listed rank = listed.2 rank ∙ awaits_none listed.0 rank

  -- ---- Verdicts ----

  pub verdict_same : (verdict : Verdict) → IsVerdictBy reading groups recording (calls_alone pending) verdict → IsVerdictBy reading groups recording none_known verdict
  verdict_same verdict is = record {
    hang = (
      λ h. let one = is.hang.0 h in (one.0, (held_same one.0).0 one.1),
      λ one. is.hang.1 (one.0, (held_same one.0).1 one.1),
    );
    free = is.free;
  }

-- one recording has one verdict
one_verdict : (reading : Reading) (groups : Groups) (recording : Lists) (known : Known) (one other : Verdict) → IsVerdictBy reading groups recording known one → IsVerdictBy reading groups recording known other → one ≡ other
one_verdict reading groups recording known Hang other first next = sym (next.hang.1 (first.hang.0 refl))
one_verdict reading groups recording known Free other first next = sym (next.free.1 (first.free.0 refl))
one_verdict reading groups recording known Unfinished Hang first next = first.hang.1 (next.hang.0 refl)
one_verdict reading groups recording known Unfinished Free first next = first.free.1 (next.free.0 refl)
one_verdict reading groups recording known Unfinished Unfinished first next = refl

-- ---- By the graph ----

abbrev graph_of : Reading → Groups → Lists → List (List Awaited) → List CauseView → Set → GraphView
graph_of reading groups recording at_open causes held = record {
  stuck = stuck_of reading groups recording;
  held = filter held (range_with_len 0 (length recording));
  left_open = is_some_left_open recording || list_any (λ rank. is_stuck reading groups recording rank && not (held rank)) (range_with_len 0 (length recording));
  waits = waits_at reading groups recording (stands_of reading groups recording);
  at_open = at_open;
  causes = causes;
  findings = findings_by groups recording [];
}

module _ (reading : Reading) (groups : Groups) (recording : Lists) (closed : IsClosed recording) (at_open : List (List Awaited)) (listed : ListsAwaited reading groups recording none_known at_open) (causes : List CauseView) (are : AreCausesBy reading groups recording none_known causes) where
  is_with : (held : Set) → AreHeldBy reading groups recording none_known held → IsGraphWith reading groups recording none_known (graph_of reading groups recording at_open causes held)
  is_with held are_held = record {
    stuck = refl;
    held = (held, are_held, refl);
    left_open = (held, are_held, refl);
    unmet = λ rank. waits_are reading groups recording (stands_of reading groups recording) rank;
    at_open = listed;
    causes = are;
    findings = refl;
  }

  is_graph : (held : Set) → AreHeldBy reading groups recording none_known held → IsGraphOf reading groups recording (graph_of reading groups recording at_open causes held)
  is_graph held are_held = without_pending_it_is_the_graph reading groups recording (graph_of reading groups recording at_open causes held) closed (is_with held are_held)

  pub plain_causes : AreCauses reading groups recording causes
  plain_causes = (is_graph are.held are.are_held).causes

  pub plain_verdict : (verdict : Verdict) → IsVerdictBy reading groups recording none_known verdict → IsVerdictOf reading groups recording verdict
  plain_verdict verdict is =
      let graph : GraphView = graph_of reading groups recording at_open causes are.held in
      subst (λ (v : Verdict). IsVerdictOf reading groups recording v)
      (one_verdict reading groups recording none_known (verdict_by graph.held graph.left_open) verdict
      (graphs_have_the_verdict reading groups recording none_known (graph_of reading groups recording at_open causes are.held) closed (is_with are.held are.are_held)) is)
      (verdict_of_graph reading groups recording (graph_of reading groups recording at_open causes are.held) (is_graph are.held are.are_held))

-- the same is awaited where none is known
pub listed_same : (reading : Reading) (groups : Groups) (recording : Lists) (pending : List PendingView) → HasNoItems pending → (at_open : List (List Awaited)) → ListsAwaited reading groups recording (calls_alone pending) at_open →
    ListsAwaited reading groups recording none_known at_open
listed_same reading groups recording pending none at_open listed = (
  listed.0,
  are_same reading groups recording pending none listed.0 listed.1,
  λ rank. none_awaited reading groups recording pending none at_open listed rank ∙ sym (awaits_none reading groups recording [] (λ other. refl) listed.0 rank),
)
