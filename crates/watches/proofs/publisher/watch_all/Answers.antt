use Rattle.std.proofs.Common.{◌≡◌, ◌∷◌, ◌++◌, [], subst, rules, arith}
use Rattle.std.proofs.lemmas.List.Elements.{All-push}
use Rattle.watches.specs.Boards.{shown}
use Rattle.watches.specs.Published.{list_known, book_of}
use Rattle.watches.specs.Watches.{IsWatchOf}
use Rattle.watches.specs.declared.publication.Publication.{Publication}
use Rattle.watches.proofs.publisher.watch_all.Goals as goal

pub loop-preserved : goal.loop-preserved
loop-preserved c =
    let inv = c.loop.invariant in
    let first = shown c.args.board.now in
    let Is = λ (p : Publication). IsWatchOf c.args.ranks (book_of p) (list_known p) c.in_ok-watch.watch in
    let watch = subst Is inv.kept c.in_ok-watch.ensures.watch in
    let items : c.push.new.self.items ≡ c.loop.all.items ++ c.in_ok-watch.watch ∷ [] = c.in-Ok.ensures.items in record {
      kept = search rules;
      len = search (rules, arith);
      room = search (rules, arith);
      watches = rw items (All-push (IsWatchOf c.args.ranks (book_of first) (list_known first)) c.loop.all.items c.in_ok-watch.watch inv.watches watch);
    }
