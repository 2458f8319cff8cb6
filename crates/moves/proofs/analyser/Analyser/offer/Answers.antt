use Rattle.std.proofs.Common.{◌≡◌, ◌<◌, ◌≤◌, Err, length, sym, ap, subst}
use Rattle.mpigroup.specs.Groups.{Groups}
use Rattle.pairing.specs.Pairs.{Paired}
use Rattle.pairing.specs.declared.added.PairFault.{PairFault}
use Rattle.moves.specs.Analysed.{Analysed, most_touches}
use Rattle.moves.specs.Runs.{IsTheEnd}
use Rattle.moves.specs.Needs.{can_move}
use Rattle.moves.specs.Stands.{stands_of}
use Rattle.moves.specs.Arrivals.{IsKeptOn}
use Rattle.moves.specs.inner.Waiting.{IsSettled, touches_of}
use Rattle.moves.proofs.AnalyserLemmas.{end_stands, accepted_none, accepted_kept, refused_kept}
use Rattle.moves.proofs.SettleLemmas.{settled_end, touches_within}
use Rattle.moves.proofs.analyser.Analyser.offer.Goals as goal

pub arrive-requires : goal.arrive-requires
arrive-requires c =
    let a = c.self.inside in
    let is_rank : c.args.rank < length a.world.pairs.recording = subst (λ (b : Analysed). c.args.rank < length b.recording) (sym c.self.view_is) c.requires.is_rank in
    record {
      before = a.world.pairs.recording;
      call = c.args.call.now;
      is = ap (λ (p : Paired). p.recording) c.in-Ok.ensures.ok;
      settled = subst (λ (g : Groups). IsSettled a.world.reading g a.world.pairs.recording a.positions.stands.items a.positions.progress a.positions.waiters) (sym (ap (λ (p : Paired). p.groups) c.in-Ok.ensures.ok)) c.self.invariant;
      is_rank = is_rank;
      is_next = c.next_place-place.ensures.value;
      few = c.next_place-place.ensures.most;
    }

pub returns-in-Ok-clause-kept : goal.returns-in-Ok-clause-kept
returns-in-Ok-clause-kept c other =
    let a = c.self.inside in
    subst (λ (b : Analysed). IsKeptOn b.groups b.recording c.admit.new.self.recording (c.args.rank, c.args.call.now)) c.self.view_is
    (accepted_kept a.world.pairs.groups a.world.pairs.recording c.admit.new.self.recording c.args.rank c.args.call.now (accepted_none _ _ c.in-Ok.ensures.refused) (ap (λ (p : Paired). p.recording) c.in-Ok.ensures.ok))

pub returns-in-Ok-clause-end : goal.returns-in-Ok-clause-end
returns-in-Ok-clause-end c =
    settled_end c.self.inside.world.reading c.admit.new.self.groups c.admit.new.self.recording c.arrive.new.positions.stands.items c.arrive.new.positions.progress c.arrive.new.positions.waiters c.arrive.ensures.settled

pub returns-in-Ok-clause-stands : goal.returns-in-Ok-clause-stands
returns-in-Ok-clause-stands c =
    end_stands c.self.inside.world.reading c.admit.new.self.groups c.admit.new.self.recording c.arrive.new.positions.stands.items
    (settled_end c.self.inside.world.reading c.admit.new.self.groups c.admit.new.self.recording c.arrive.new.positions.stands.items c.arrive.new.positions.progress c.arrive.new.positions.waiters c.arrive.ensures.settled)

pub returns-in-Err-clause-kept : goal.returns-in-Err-clause-kept
returns-in-Err-clause-kept c other =
    let a = c.self.inside in
    subst (λ (b : Analysed). IsKeptOn b.groups b.recording c.admit.new.self.recording (c.args.rank, c.args.call.now)) c.self.view_is
    (refused_kept a.world.pairs.groups a.world.pairs.recording c.admit.new.self.recording c.args.rank c.args.call.now c.in-Err.fault c.in-Err.ensures.fault (λ e. other (ap (λ (f : PairFault). Err f) e)) (ap (λ (p : Paired). p.recording) c.in-Err.ensures.err))

pub returns-in-Err-clause-end : goal.returns-in-Err-clause-end
returns-in-Err-clause-end c =
    let a = c.self.inside in
    subst (λ (p : Paired). IsTheEnd (can_move a.world.reading p.groups p.recording) (length p.recording) a.positions.stands.items) (sym c.in-Err.ensures.err)
    (settled_end a.world.reading a.world.pairs.groups a.world.pairs.recording a.positions.stands.items a.positions.progress a.positions.waiters c.self.invariant)

pub returns-in-Err-clause-stands : goal.returns-in-Err-clause-stands
returns-in-Err-clause-stands c =
    let a = c.self.inside in
    subst (λ (p : Paired). a.positions.stands.items ≡ stands_of a.world.reading p.groups p.recording) (sym c.in-Err.ensures.err)
    (end_stands a.world.reading a.world.pairs.groups a.world.pairs.recording a.positions.stands.items (settled_end a.world.reading a.world.pairs.groups a.world.pairs.recording a.positions.stands.items a.positions.progress a.positions.waiters c.self.invariant))

pub returns-in-Ok-clause-touches : goal.returns-in-Ok-clause-touches
returns-in-Ok-clause-touches c =
    touches_within c.self.inside.world.reading c.admit.new.self.groups c.admit.new.self.recording c.arrive.new.positions.stands.items c.arrive.new.positions.progress c.arrive.new.positions.waiters c.arrive.ensures.settled

pub returns-in-Err-clause-touches : goal.returns-in-Err-clause-touches
returns-in-Err-clause-touches c =
    let a = c.self.inside in
    subst (λ (p : Paired). touches_of a.positions.progress a.positions.waiters ≤ most_touches p.recording) (sym c.in-Err.ensures.err)
    (touches_within a.world.reading a.world.pairs.groups a.world.pairs.recording a.positions.stands.items a.positions.progress a.positions.waiters c.self.invariant)
