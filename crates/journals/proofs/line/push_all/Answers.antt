-- Each field is put after those before it; at the end they are those of a line, or they are read again.
use Rattle.std.proofs.Common.{◌∙◌, ap, arith, length, sym}
use Rattle.journals.proofs.PieceLemmas.{no_piece, some_piece}
use Rattle.journals.proofs.PushLemmas.{stays}
use Rattle.journals.proofs.WholePush.{each_first, each_next, ended, grows_more, none_first, none_next, sited, whole}
use Rattle.journals.proofs.line.push_all.Goals as goal

pub loop-piece-init : goal.loop-piece-init
loop-piece-init c = record {
  left = omega arith;
  grows = stays c.args.into.now.items;
  each = each_first c.args.ranks c.args.word c.args.fields c.args.into.now.items;
  none = none_first c.args.fields;
}

pub returns-then-begins_site : goal.returns-then-begins_site
returns-then-begins_site c =
    let came = some_piece c.next_piece.result c.in-Some.piece c.loop-piece.fields c.next_piece.new.self c.in-Some.is c.next_piece.ensures in
    let first = came.0 in
    ended c.args.ranks c.args.word c.args.fields c.args.into.now.items c.loop-piece.into.items c.ends_line.result
    (λ is. sited c.args.ranks c.args.word c.args.fields c.loop-piece.place c.in-Some.piece.text.now c.loop-piece.fields c.next_piece.new.self c.args.into.now.items c.loop-piece.into.items
    first (c.ends_line.ensures.over is) c.loop-piece.invariant.left (sym c.begins_site.ensures ∙ c.if-begins_site.true)
    (c.ends_line.ensures.call is) (c.ends_line.ensures.takes is) (c.ends_line.ensures.site is) c.loop-piece.invariant.each c.loop-piece.invariant.none)
    c.loop-piece.invariant.grows

pub loop-piece-preserved : goal.loop-piece-preserved
loop-piece-preserved c =
    let came = some_piece c.next_piece.result c.in-Some.piece c.loop-piece.fields c.next_piece.new.self c.in-Some.is c.next_piece.ensures in
    let first = came.0 in
    record {
      left = omega (arith, c.loop-piece.invariant.left, ap length first);
      grows = grows_more c.args.into.now.items c.loop-piece.into.items c.push.new.self.items c.in-Some-read_piece.it c.loop-piece.invariant.grows c.in_ok-push.ensures.items;
      each = each_next c.args.ranks c.args.word c.args.fields c.loop-piece.place c.form_among.result c.in-Some-form_among.form c.in-Some.piece.text.now c.loop-piece.fields c.next_piece.new.self
          c.read_piece.result c.in-Some-read_piece.it c.args.into.now.items c.loop-piece.into.items c.push.new.self.items
          c.form_among.ensures c.in-Some-form_among.is first c.read_piece.ensures c.in-Some-read_piece.is c.in_ok-push.ensures.items c.loop-piece.invariant.each;
      none = none_next c.args.fields c.in-Some.piece.text.now c.loop-piece.fields c.next_piece.new.self first (sym c.begins_site.ensures ∙ c.if-begins_site.false) c.loop-piece.invariant.none;
    }

pub returns : goal.returns
returns c =
    let over = no_piece c.next_piece.result c.loop-piece.fields c.next_piece.new.self c.in_default.is c.next_piece.ensures in
    ended c.args.ranks c.args.word c.args.fields c.args.into.now.items c.loop-piece.into.items c.takes_among.result
    (λ is. whole c.args.ranks c.args.word c.args.fields c.loop-piece.place c.loop-piece.fields c.args.into.now.items c.loop-piece.into.items
    over c.loop-piece.invariant.left (sym c.takes_among.ensures ∙ is) c.loop-piece.invariant.each c.loop-piece.invariant.none)
    c.loop-piece.invariant.grows

pub read_piece-requires-clause-number : goal.read_piece-requires-clause-number
read_piece-requires-clause-number c =
    (some_piece c.next_piece.result c.in-Some.piece c.loop-piece.fields c.next_piece.new.self c.in-Some.is c.next_piece.ensures).1

pub begins_site-requires : goal.begins_site-requires
begins_site-requires c =
    (some_piece c.next_piece.result c.in-Some.piece c.loop-piece.fields c.next_piece.new.self c.in-Some.is c.next_piece.ensures).1
