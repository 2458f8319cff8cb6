-- What is parted so far, and what is left, is what all are.
use Rattle.std.proofs.Common.{◌≡◌, ◌++◌, drop, not}
use Rattle.std.specs.List.{filter}
use Rattle.closing.specs.inner.Lists.{is_send_in}
use Rattle.closing.proofs.walk.wait.part.Given as goal

abbrev pub invariant-loop-id : goal.invariant-loop-id
invariant-loop-id l = record {
  sends : l.sends.items ++ filter (is_send_in l.list) (drop l.id-index l.ids) ≡ l.fn.sends.items ++ filter (is_send_in l.list) l.ids;
  others : l.others.items ++ filter (λ id. not (is_send_in l.list id)) (drop l.id-index l.ids) ≡ filter (λ id. not (is_send_in l.list id)) l.ids;
}
