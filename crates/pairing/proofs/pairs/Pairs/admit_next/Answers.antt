-- More room leaves all as it was.
use Rattle.std.proofs.Common.{◌≡◌, ◌∙◌, ◌==◌, ◌≤◌, ℕ, true, List, length, map, ap, subst, sym, arith}
use Rattle.std.specs.List.{list_all}
use Rattle.std.proofs.lemmas.Bool.{eqb-true}
use Rattle.std.proofs.lemmas.List.{take_all}
use Rattle.mpigroup.specs.Groups.{Groups, ranks_of}
use Rattle.mpigroup.specs.declared.limits.TheConstants.{MOST_RANKS}
use Rattle.callstore.specs.Notes.{Noted}
use Rattle.callstore.specs.inner.Notes.{recording_of}
use Rattle.callstore.specs.Recordings.{calls_of}
use Rattle.callstore.specs.Requests.{is_active, started_in, waits_for}
use Rattle.pairing.specs.inner.Seated.{IsProbing}
use Rattle.pairing.specs.inner.Tables.{IsKept}
use Rattle.pairing.proofs.CallCountLemmas.{few_seats}
use Rattle.pairing.proofs.FaultLemmas.{fault_none}
use Rattle.pairing.proofs.KeptLemmas.{kept_still, ranks_noted}
use Rattle.pairing.proofs.pairs.Pairs.admit_next.Goals as goal

pub invariant_of-self-in-Err : goal.invariant_of-self-in-Err
invariant_of-self-in-Err g c =
    let kept = c.self.inside.kept in
    let same_head = sym c.reserve-2.ensures.head in
    let probing : IsProbing kept.head (recording_of c.reserve-2.new.self.notes.lists) c.reserve.new.self = rw c.reserve-2.ensures.notes (c.reserve.ensures.kept kept.head (recording_of kept.notes.lists) c.self.invariant.1) in (
      subst (λ (head : Groups). IsKept head c.reserve-2.new.self.notes.lists c.reserve-2.new.self.tables) same_head
          (kept_still _ kept.notes.lists _ kept.tables _ c.self.invariant.0 c.reserve-2.ensures.notes c.reserve-2.ensures.tables),
      subst (λ (head : Groups). IsProbing head (recording_of c.reserve-2.new.self.notes.lists) c.reserve.new.self) same_head probing,
    )

pub put-requires-clause-kept : goal.put-requires-clause-kept
put-requires-clause-kept g c =
    subst (λ (head : Groups). IsKept head c.reserve-2.new.self.notes.lists c.reserve-2.new.self.tables) (sym c.reserve-2.ensures.head)
    (kept_still _ c.self.inside.kept.notes.lists _ c.self.inside.kept.tables _ c.self.invariant.0 c.reserve-2.ensures.notes c.reserve-2.ensures.tables)

pub put-requires-clause-starts : goal.put-requires-clause-starts
put-requires-clause-starts g c =
    let notes = c.self.inside.kept.notes.lists in
    let calls = calls_of (recording_of notes) c.args.at.0 in
    let active = c.self.invariant.0.tables.others.active in
    let faultless = fault_none c.self.inside.kept.head c.args.at.0 calls c.args.call.now (sym c.next_fault.ensures ∙ c.in_default.is) in
    let reqs : c.waits_for.result.now ≡ waits_for c.args.call.now = c.waits_for.ensures.value in
    let all : (c.starts_of-count.result == length c.waits_for.result.now) ≡ true =
    sym (c.starts_of-count.ensures.all (recording_of notes) active) ∙ ap (λ (named : List ℕ). list_all (is_active calls) named) reqs ∙ faultless.active in
    let count : c.starts_of-count.result ≡ length c.waits_for.result.now = eqb-true c.starts_of-count.result (length c.waits_for.result.now) all in
    c.starts_of-count.ensures.written (recording_of notes) active
    ∙ ap (λ (named : List ℕ). map (started_in calls) named) (take_all c.starts_of-count.result c.waits_for.result.now (omega (arith, count)) ∙ reqs)
    ∙ ap (λ (lists : List (List Noted)). map (started_in (calls_of (recording_of lists) c.args.at.0)) (waits_for c.args.call.now)) (sym c.reserve-2.ensures.notes)

pub invariant_of-self : goal.invariant_of-self
invariant_of-self g c = (
  c.self.invariant.0,
  c.reserve.ensures.kept c.self.inside.kept.head (recording_of c.self.inside.kept.notes.lists) c.self.invariant.1,
)

pub put-requires-in-Ok-clause-few : goal.put-requires-in-Ok-clause-few
put-requires-in-Ok-clause-few g c =
    let recording = recording_of c.self.inside.kept.notes.lists in
    let kept = c.self.invariant.0 in
    let are = c.reserve.ensures.kept c.self.inside.kept.head recording c.self.invariant.1 in
    let most : ranks_of c.self.inside.kept.head ≤ MOST_RANKS = omega (arith, c.ranks-ranks.ensures.value, c.ranks-ranks.ensures.most) in
    let ranks : length recording ≡ ranks_of c.self.inside.kept.head = omega (arith, ranks_noted c.self.inside.kept.notes.lists, kept.ranks) in
    few_seats c.self.inside.kept.head recording (length c.reserve.new.self.probes.seats.items) kept.lawful ranks most are.few
