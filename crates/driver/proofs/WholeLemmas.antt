-- What is answered of records that were read by turns: the answer over the traces that their items make.
use Rattle.moves.specs.declared.reading.Reading.{Reading}
use Rattle.std.proofs.Common.{◌≡◌, ◌≢◌, ℕ, Bool, zero, suc, ◌+◌, ◌<◌, true, false, Option, Some, None, Result, Ok, Err, IfOk, IfErr, List, [], ◌∷◌, length, map, slice_get, refl, sym, ap, subst, ◌∙◌, inl, arith}
use Rattle.mpicall.specs.Source.{coming}
use Rattle.mpicall.specs.declared.call.Call.{Call}
use Rattle.mpicall.specs.declared.source.Source.{Source}
use Rattle.mpigroup.specs.Groups.{Groups}
use Rattle.callstore.specs.Recordings.{Lists, calls_of, is_ended, IsClosed}
use Rattle.pairing.specs.Faults.{IsLawful}
use Rattle.pairing.proofs.FaultLemmas.{an_ended_lawful_list_is_closed}
use Rattle.rankfeed.specs.Items.{calls_among, end_mark_of}
use Rattle.rankfeed.specs.declared.item.Item.{Item}
use Rattle.gather.specs.Outcomes.{PlacedFault, fault_of_rank, refusal_or, refusal_from, refusal_of, recording_of_traces}
use Rattle.gather.specs.Closes.{IsOutcomeOf, Concludes}
use Rattle.gather.specs.inner.Closes.{IsOutcomeOver}
use Rattle.gather.specs.Collected.{records_before, Kept, fault_at, refusal_in, refusal_kept}
use Rattle.gather.specs.FeedContract.{IsFed}
use Rattle.gather.specs.Receipts.{trace_of_items}
use Rattle.driver.specs.Runs.{IsOfTurns, IsRefusalOfFeeds, RefusesFeeds}
use Rattle.driver.specs.inner.Runs.{AreFedBy, IsOutcomeOfFeeds, of_close}
use Rattle.driver.proofs.HeldLemmas.{all_read, found_at, read_is_started}
use Rattle.driver.specs.inner.Turns.{IsReadOf, AreReadOf}
use Rattle.mpicall.specs.declared.fault.SourceFault.TheVariants.{ThreadNotStarted}
use Rattle.gather.specs.declared.fault.RankFault.{RankFault}
use Rattle.gather.specs.declared.fault.RankFault.TheVariants.{OfSource}
use Rattle.gather.specs.declared.fault.Refusal.{Refusal}
use Rattle.gather.specs.declared.outcome.CloseFault.{CloseFault}
use Rattle.gather.specs.declared.outcome.CloseFault.TheVariants.{Memory, Unproved, Refused}
use Rattle.moves.specs.Analysed.{Analysed}
use Rattle.gather.proofs.CloseLemmas.{own_none, behind_none, same_fault_by, faultless_ends}
use Rattle.gather.proofs.FedLemmas.{marked_end}

-- what is kept of a rank whose source was read
record IsKeptWhole {I : Type 0} (left : I → Option (List ℕ)) (may_answer : ℕ → ℕ → Bool → Type 0) (groups : Groups) (rank : ℕ) (source : Source I) (calls : List Call) (fault : Option PlacedFault) : Type 0 where
  items : List Item
  fed : IsFed (coming left source) (may_answer rank) items
  first : fault ≡ fault_of_rank groups rank (trace_of_items items)
  all : fault ≡ None → calls ≡ calls_among items
  ended : fault ≡ None → is_ended calls ≡ true

kept_whole : {I : Type 0} (left : I → Option (List ℕ)) (may_answer : ℕ → ℕ → Bool → Type 0) (rank : ℕ) (source : Source I) (kept : Kept) → IsReadOf left may_answer rank source kept → kept.wanted ≡ false → IsKeptWhole left may_answer kept.groups rank source (calls_of kept.recording rank) (fault_at kept.faults rank)
kept_whole left may_answer rank source kept read calm =
    let k = read.kept_so calm in
    let fed = read.whole.fed in
    let is : end_mark_of read.items ≡ Some fed.end = ap end_mark_of fed.are ∙ marked_end fed.calls fed.end in
    let every : fault_at kept.faults rank ≡ None → calls_of kept.recording rank ≡ calls_among read.items =
    λ none. k.before ∙ ap (λ (f : Option PlacedFault). records_before f (calls_among read.items)) none in record {
      items = read.items;
      fed = fed;
      first = k.first ∙ same_fault_by kept.groups rank read.items fed.end read.whole.sealed is;
      all = every;
      ended = λ none. ap (λ (calls : List Call). is_ended calls) (every none) ∙ faultless_ends kept.groups rank read.items fed.end read.whole.sealed is (sym k.first ∙ none);
    }

-- All ranks.

ended_at : (calls : List Call) (lists : Lists) (k : ℕ) → is_ended calls ≡ true → ((j : ℕ) → j < length lists → is_ended (calls_of lists j) ≡ true) → k < length (calls ∷ lists) → is_ended (calls_of (calls ∷ lists) k) ≡ true
ended_at calls lists zero own rest within = own
ended_at calls lists (suc k) own rest within = rest k (omega (arith, within))

-- of ranks from `first` on: their items, and what these give
record AreKeptWhole {I : Type 0} (left : I → Option (List ℕ)) (may_answer : ℕ → ℕ → Bool → Type 0) (groups : Groups) (first : ℕ) (sources : List (Source I)) (faults : List (Option PlacedFault)) (lists : Lists) : Type 0 where
  items : List (List Item)
  fed : AreFedBy left may_answer first sources items
  refusal : refusal_in first faults ≡ refusal_from groups first (map trace_of_items items)
  recording : refusal_in first faults ≡ None → lists ≡ recording_of_traces (map trace_of_items items)
  ended : refusal_in first faults ≡ None → (k : ℕ) → k < length lists → is_ended (calls_of lists k) ≡ true

all_whole : {I : Type 0} (left : I → Option (List ℕ)) (may_answer : ℕ → ℕ → Bool → Type 0) (groups : Groups) (first : ℕ) (sources : List (Source I)) (faults : List (Option PlacedFault)) (lists : Lists) → length faults ≡ length sources → length lists ≡ length sources → ((k : ℕ) (source : Source I) → slice_get sources k ≡ Some source → IsKeptWhole left may_answer groups (first + k) source (calls_of lists k) (fault_at faults k)) → AreKeptWhole left may_answer groups first sources faults lists
all_whole left may_answer groups first [] [] [] places one each = record { items = []; fed = tt; refusal = refl; recording = λ none. refl; ended = λ none k within. absurd (omega (arith, within)) }
all_whole left may_answer groups first (s ∷ ss) (f ∷ fs) (l ∷ ls) places one each =
    let zero_more : first + 0 ≡ first = omega arith in
    let own : IsKeptWhole left may_answer groups first s l f = subst (λ (n : ℕ). IsKeptWhole left may_answer groups n s l f) zero_more (each 0 s refl) in
    let rest = all_whole left may_answer groups (first + 1) ss fs ls (omega (arith, places)) (omega (arith, one))
    (λ k source at. let e : first + suc k ≡ first + 1 + k = omega arith in subst (λ (n : ℕ). IsKeptWhole left may_answer groups n source (calls_of ls k) (fault_at fs k)) e (each (suc k) source at)) in record {
      items = own.items ∷ rest.items;
      fed = (inl own.fed, rest.fed);
      refusal = ap (λ (x : Option PlacedFault). refusal_or first x (refusal_in (first + 1) fs)) own.first
          ∙ ap (λ (x : Option Refusal). refusal_or first (fault_of_rank groups first (trace_of_items own.items)) x) rest.refusal;
      recording = λ none. ap (λ (x : List Call). x ∷ ls) (own.all (own_none first f _ none)) ∙ ap (λ (xs : Lists). calls_among own.items ∷ xs) (rest.recording (behind_none first f _ none));
      ended = λ none k within. ended_at l ls k (own.ended (own_none first f _ none)) (rest.ended (behind_none first f _ none)) within;
    }
all_whole left may_answer groups first sources faults lists places one each = cc

-- the rank that is refused has its fault
refused_in : (first : ℕ) (faults : List (Option PlacedFault)) (refusal : Refusal) → refusal_in first faults ≡ Some refusal → (k : ℕ) × (k < length faults) × (fault_at faults k ≡ Some (refusal.call, refusal.fault))
refused_in first [] refusal e = cc
refused_in first (None ∷ faults) refusal e = let rest = refused_in (first + 1) faults refusal e in (suc rest.0, omega (arith, rest.1), rest.2)
refused_in first (Some (place, fault) ∷ faults) refusal e =
    let own : Refusal = record { rank = first; call = place; fault = fault } in
    let is : Some own ≡ Some refusal = e in
    let same : own ≡ refusal = cc in
    (0, omega arith, ap (λ (r : Refusal). Some (r.call, r.fault)) same)

module _ {I : Type 0} (left : I → Option (List ℕ)) (may_answer : ℕ → ℕ → Bool → Type 0) (sources : List (Source I)) (kept : Kept) where
  read_whole : AreReadOf left may_answer sources kept → kept.wanted ≡ false → AreKeptWhole left may_answer kept.groups 0 sources kept.faults kept.recording
  read_whole read calm =
      all_whole left may_answer kept.groups 0 sources kept.faults kept.recording (read.places ∙ read.one_a_rank) read.one_a_rank
      (λ k source at. let e : k ≡ 0 + k = omega arith in
      subst (λ (n : ℕ). IsKeptWhole left may_answer kept.groups n source (calls_of kept.recording k) (fault_at kept.faults k)) e (kept_whole left may_answer k source kept (read.each k source at) calm))

  pub read_closed : AreReadOf left may_answer sources kept → kept.wanted ≡ false → refusal_kept kept ≡ None → IsLawful kept.groups kept.recording → IsClosed kept.recording
  read_closed read calm none lawful =
      let all = read_whole read calm in
      λ rank is_rank. an_ended_lawful_list_is_closed kept.groups rank (calls_of kept.recording rank) (lawful rank is_rank) (all.ended none rank is_rank)

  started : (refusal : Refusal) → AreReadOf left may_answer sources kept → kept.wanted ≡ false → refusal_kept kept ≡ Some refusal → refusal.fault ≢ OfSource ThreadNotStarted
  started refusal read calm refused is =
      let at = refused_in 0 kept.faults refusal refused in
      let one_a_source : length kept.faults ≡ length sources = read.places ∙ read.one_a_rank in
      let source = found_at sources at.0 (omega (arith, at.1, one_a_source)) in
      let whole = kept_whole left may_answer at.0 source.0 kept (read.each at.0 source.0 source.1) calm in
      read_is_started kept.groups at.0 (coming left source.0) (may_answer at.0) whole.items refusal.call whole.fed
      (sym whole.first ∙ at.2 ∙ ap (λ (fault : RankFault). Some (refusal.call, fault)) is)

  pub concludes_by_turns : (answer : Result Analysed CloseFault) → AreReadOf left may_answer sources kept → Concludes kept answer → IfErr answer (λ fault. IsOfTurns (of_close fault))
  concludes_by_turns (Ok outcome) read c = tt
  concludes_by_turns (Err Memory) read c = tt
  concludes_by_turns (Err (Unproved rank)) read c = absurd c
  concludes_by_turns (Err (Refused refusal)) read c = started refusal read c.0 c.1

  module _ (reading : Reading) (groups : Groups) where
    outcome_read : (outcome : Analysed) → AreReadOf left may_answer sources kept → kept.reading ≡ reading → kept.groups ≡ groups → kept.wanted ≡ false → IsOutcomeOf (refusal_kept kept) kept.reading kept.groups kept.recording outcome → IsOutcomeOfFeeds left may_answer sources reading groups outcome
    outcome_read outcome read alike same calm is =
        let all = read_whole read calm in
        let recording = all.recording is.no_refusal in
        let over : IsOutcomeOver kept.reading kept.groups (map trace_of_items all.items) outcome = record {
          no_refusal = sym all.refusal ∙ is.no_refusal;
          same_reading = is.same_reading;
          same_groups = is.same_groups;
          recording = is.recording ∙ recording;
          closed = subst IsClosed recording is.closed;
        } in record {
          items = all.items;
          fed = all.fed;
          over = subst (λ (gs : Groups). IsOutcomeOver reading gs (map trace_of_items all.items) outcome) same
              (subst (λ (r : Reading). IsOutcomeOver r kept.groups (map trace_of_items all.items) outcome) alike over);
        }

    refusal_read : (refusal : Refusal) → AreReadOf left may_answer sources kept → kept.reading ≡ reading → kept.groups ≡ groups → kept.wanted ≡ false → refusal_kept kept ≡ Some refusal → IsRefusalOfFeeds left may_answer sources groups refusal
    refusal_read refusal read alike same calm is =
        let all = read_whole read calm in record {
          traces = map trace_of_items all.items;
          read = all_read left may_answer 0 sources all.items all.fed;
          over = ap (λ (gs : Groups). refusal_of gs (map trace_of_items all.items)) (sym same) ∙ sym all.refusal ∙ is;
        }

    pub concludes_well : (answer : Result Analysed CloseFault) → AreReadOf left may_answer sources kept → kept.reading ≡ reading → kept.groups ≡ groups → Concludes kept answer → IfOk answer (IsOutcomeOfFeeds left may_answer sources reading groups)
    concludes_well (Ok outcome) read alike same c = outcome_read outcome read alike same c.0 c.1
    concludes_well (Err fault) read alike same c = tt

    pub concludes_refusing : (answer : Result Analysed CloseFault) → AreReadOf left may_answer sources kept → kept.reading ≡ reading → kept.groups ≡ groups → Concludes kept answer → IfErr answer (λ fault. RefusesFeeds left may_answer sources groups (of_close fault))
    concludes_refusing (Ok outcome) read alike same c = tt
    concludes_refusing (Err Memory) read alike same c = tt
    concludes_refusing (Err (Unproved rank)) read alike same c = absurd c
    concludes_refusing (Err (Refused refusal)) read alike same c = refusal_read refusal read alike same c.0 c.1
