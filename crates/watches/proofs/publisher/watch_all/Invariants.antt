-- The watches so far know what is shown.
use Rattle.std.proofs.Common.{◌≡◌, ◌≤◌, All, vec_len, vec_capacity}
use Rattle.watches.specs.Boards.{shown}
use Rattle.watches.specs.Published.{list_known, book_of}
use Rattle.watches.specs.Watches.{IsWatchOf}
use Rattle.watches.proofs.publisher.watch_all.Given as goal

abbrev pub invariant-loop : goal.invariant-loop
invariant-loop l = record {
  kept : shown l.board ≡ shown l.fn.board;
  len : vec_len l.all ≡ l.counter;
  room : l.watches ≤ vec_capacity l.all;
  watches : All (IsWatchOf l.ranks (book_of (shown l.fn.board)) (list_known (shown l.fn.board))) l.all.items;
}
