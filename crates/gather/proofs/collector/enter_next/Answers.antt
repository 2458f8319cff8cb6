use Rattle.std.proofs.Common.{refl, ◌∙◌}
use Rattle.mpicall.specs.declared.call.Call.TheVariants.{Finalize}
use Rattle.rankfeed.specs.Items.{end_mark_of}
use Rattle.rankfeed.specs.Rings.{received_by}
use Rattle.rankfeed.specs.declared.answer.Came.TheVariants as Came
use Rattle.rankfeed.specs.declared.answer.Took.TheVariants as Took
use Rattle.gather.proofs.TakerLemmas.{look_passed, look_took}
use Rattle.gather.proofs.collector.enter_next.Goals as goal

pub returns-in-Record : goal.returns-in-Record
returns-in-Record c = record {
  found = Took.Record c.front.result.now;
  name = c.pass.ensures.name ∙ c.look.ensures.name;
  receives = look_passed (end_mark_of (received_by c.args.taker.now)) c.front.result.now (received_by c.args.taker.now) (received_by c.look.new.self) (received_by c.pass.new.self)
      c.in-Record.ensures.received
      (c.pass.ensures.received c.front.result.now c.front.ensures);
  is_feed = c.pass.ensures.order;
  left = λ known. c.pass.ensures.left ∙ c.look.ensures.left known;
  never_empty = λ known e. cc;
  enters = c.enter-stepped.ensures;
}

pub returns-in-Torn : goal.returns-in-Torn
returns-in-Torn c = record {
  found = Took.Torn c.in-Torn.fault;
  name = c.look.ensures.name;
  receives = look_took (end_mark_of (received_by c.args.taker.now)) (Came.Torn c.in-Torn.fault) Finalize (received_by c.args.taker.now) (received_by c.look.new.self) (λ e. cc) c.in-Torn.ensures.received;
  is_feed = c.look.ensures.order;
  left = c.look.ensures.left;
  never_empty = λ known e. cc;
  enters = (refl, c.tear.ensures);
}
