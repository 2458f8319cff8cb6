-- Something is under way with the next record, or nothing is; none is left.
use Rattle.std.proofs.Common.{◌≡◌, ◌<◌, ◌∙◌, ◌++◌, ◌-◌, Option, Some, List, option_map, length, slice_get, sym, ap, arith}
use Rattle.std.specs.Prelude.{option_to_list}
use Rattle.std.proofs.lemmas.List.{append-nil}
use Rattle.callstore.specs.Recordings.{Lists, calls_of}
use Rattle.closing.specs.Entries.{lines_at}
use Rattle.closing.specs.declared.pending.Sink.{Sink}
use Rattle.closing.specs.inner.RequestReports.{Tells}
use Rattle.lawful.proofs.ReadRuns.{fit_of_read}
use Rattle.mpicall.specs.declared.call.Call.{Call}
use Rattle.judging.specs.UnderWay.{moved_of, takes_moved}
use Rattle.judging.specs.declared.under_way.MovedReceive.{MovedReceive}
use Rattle.judging.specs.inner.Cuts.{IsGathered}
use Rattle.judging.specs.inner.Tables.{rows_of}
use Rattle.judging.proofs.UnderWayLemmas.{begins, call_there, first_none, first_there, met_is, next_with, sinks_next}
use Rattle.judging.proofs.under_way.first_at.Goals.{in-Some-moved_of+in_ok-push, in_default-moved_of}
use Rattle.judging.proofs.under_way.first_at.Goals as goal

pub loop-place-init : goal.loop-place-init
loop-place-init c =
    let it = c.args.lists.now.recording in
    record {
      kept = c.requires;
      sinks = λ gathered within.
          c.first_sink-sink.ensures ∙ ap (λ (sinks : List Sink). option_map (λ sink. sink.place) (slice_get sinks 0)) (c.sinks.ensures (fit_of_read it.run it.choice gathered.done.read) within (gathered.done.over c.args.rank within));
      first = λ gathered within. begins it (rows_of c.args.lists.now.table) c.args.analyser.now c.args.rank gathered within c.new-moved.result.items c.new-moved.ensures.items;
    }

pub returns-in_default-clause-first : goal.returns-in_default-clause-first
returns-in_default-clause-first c = λ gathered within.
    let recording = c.args.analyser.now.recording in
    let below : c.loop-place.place < length (calls_of recording c.args.rank) - 1 = omega (arith, c.loop-place-test.true, c.before_end-place-end.ensures) in
    absurd (call_there c.args.lists.now.recording (rows_of c.args.lists.now.table) c.args.analyser.now c.args.rank gathered within c.loop-place.place below
    (ap (λ (l : Lists). slice_get (calls_of l c.args.rank) c.loop-place.place) (sym c.pairs.ensures.recording) ∙ sym c.call.ensures ∙ c.in_default.is))

pub returns-then-is_under_way-clause-first : goal.returns-then-is_under_way-clause-first
returns-then-is_under_way-clause-first c = λ gathered within.
    let it = c.args.lists.now.recording in
    let rows = rows_of c.args.lists.now.table in
    let analysed = c.args.analyser.now in
    let rank = c.args.rank in
    let place = c.loop-place.place in
    let below : place < length (calls_of analysed.recording rank) - 1 = omega (arith, c.loop-place-test.true, c.before_end-place-end.ensures) in
    let at : slice_get (calls_of analysed.recording rank) place ≡ Some c.in-Some.call =
    ap (λ (l : Lists). slice_get (calls_of l rank) place) (sym c.pairs.ensures.recording) ∙ sym c.call.ensures ∙ c.in-Some.is in
    let met = met_is it rows analysed rank gathered within place c.in-Some.call c.loop-place.moved.items c.first_sink-sink.result c.is_under_way.result c.is_at.result c.has_all-has_all.result c.takes_moved.result
    c.is_under_way.ensures c.is_at.ensures c.has_all-has_all.ensures.all (c.takes_moved.ensures ∙ ap (λ (moved : List MovedReceive). takes_moved moved c.in-Some.call) c.as_slice.ensures.value) in
    first_there it rows analysed rank gathered within place c.in-Some.call c.loop-place.moved.items c.first_sink-sink.result c.line-line.result below at c.line-line.ensures
    (c.loop-place.invariant.sinks gathered within) (c.loop-place.invariant.first gathered within) (sym met ∙ c.if-is_under_way.true)

pub loop-place-preserved : goal.loop-place-preserved
loop-place-preserved c =
    let it = c.args.lists.now.recording in
    let rows = rows_of c.args.lists.now.table in
    let analysed = c.args.analyser.now in
    let rank = c.args.rank in
    let place = c.loop-place.place in
    let call = c.in-Some.call in
    let moved = c.loop-place.moved.items in
    let sink = c.first_sink-sink.result in
    let line = c.line-line.result in
    let below : place < length (calls_of analysed.recording rank) - 1 = omega (arith, c.loop-place-test.true, c.before_end-place-end.ensures) in
    let at : slice_get (calls_of analysed.recording rank) place ≡ Some call =
    ap (λ (l : Lists). slice_get (calls_of l rank) place) (sym c.pairs.ensures.recording) ∙ sym c.call.ensures ∙ c.in-Some.is in
    let as_call : c.as_call.result.now ≡ call = c.as_call.ensures.value ∙ c.record-record.ensures in
    let found = λ (told : Tells (lines_at it.run rank) c.in_ok-outcomes.outcomes). c.moved_of.ensures told ∙ ap (λ (call : Call). moved_of (lines_at it.run rank) line call) as_call in
    let not_met = λ (gathered : IsGathered it rows analysed) (within : rank < length it.run).
    sym (met_is it rows analysed rank gathered within place call moved sink c.is_under_way.result c.is_at.result c.has_all-has_all.result c.takes_moved.result
    c.is_under_way.ensures c.is_at.ensures c.has_all-has_all.ensures.all (c.takes_moved.ensures ∙ ap (λ (moved : List MovedReceive). takes_moved moved call) c.as_slice.ensures.value)) ∙ c.if-is_under_way.false in
    let next = λ (gathered : IsGathered it rows analysed) (within : rank < length it.run).
    next_with it rows analysed rank gathered within place call moved sink line below at c.line-line.ensures (c.loop-place.invariant.sinks gathered within) (c.loop-place.invariant.first gathered within) (not_met gathered within)
    c.moved_of.result in
    let told = λ (gathered : IsGathered it rows analysed) (within : rank < length it.run). found (c.in_ok-outcomes.ensures (fit_of_read it.run it.choice gathered.done.read) within) in
    let sinks = λ (gathered : IsGathered it rows analysed) (within : rank < length it.run).
    sinks_next it rows analysed rank gathered within place call moved sink line below at c.line-line.ensures (c.loop-place.invariant.sinks gathered within) (c.loop-place.invariant.first gathered within) (not_met gathered within) in
    elim c.match-moved_of.branch [
      | in-Some-moved_of+in_ok-push w ↦
          rw w.moved-is
          (record {
            kept = c.has_all-has_all.ensures.kept;
            sinks = sinks;
            first = λ gathered within. next gathered within w.push.new.self.items (told gathered within)
                (w.in_ok-push.ensures.items ∙ ap (λ (o : Option MovedReceive). moved ++ option_to_list o) (sym w.in-Some-moved_of.is));
          })
      | in_default-moved_of w ↦
          rw w.moved-is
          (record {
            kept = c.has_all-has_all.ensures.kept;
            sinks = sinks;
            first = λ gathered within. next gathered within moved (told gathered within)
                (sym (append-nil moved) ∙ ap (λ (o : Option MovedReceive). moved ++ option_to_list o) (sym w.in_default-moved_of.is));
          })
    ]

pub returns-clause-first : goal.returns-clause-first
returns-clause-first c = λ gathered within.
    first_none c.args.lists.now.recording (rows_of c.args.lists.now.table) c.args.analyser.now c.args.rank gathered within c.loop-place.place c.loop-place.moved.items
    (omega (arith, c.loop-place-test.false, c.before_end-place-end.ensures)) (c.loop-place.invariant.first gathered within)
