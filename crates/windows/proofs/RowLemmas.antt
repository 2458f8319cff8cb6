-- The rows, computed.
use Rattle.std.proofs.Common.{refl}
use Rattle.windows.specs.Rows.{RowsAreRight}

pub rows_are_right : RowsAreRight
rows_are_right = record {
  lacks_its_send = record { clean = refl; free = refl; second = refl; stands = refl; in_whole = refl };
  send_before = record { clean = refl; second = refl; free = refl; in_whole = refl };
  is_moved = record { clean = refl; first = refl; second = refl; not_otherwise = refl };
  both_sides = record { clean = refl; second = refl; stands = refl; in_whole = refl };
  one_of_two = record { clean = refl; stands = refl; in_whole = refl };
  collective_before = record { clean = refl; second = refl };
  message_under_way = refl;
  collective_under_way = refl;
  overtakes = record { moved = refl; by_its_turn = refl; not_moved = refl };
  probe = record { before = refl; without_its_receive = refl; after = refl };
  hangs = record { clean = refl; first = refl; in_whole = refl };
  small_sends = record { clean = refl; first = refl; too_long = refl };
  ends = record { beginning = refl; all_after = refl; end = refl; none_after = refl; past_the_end = refl };
  goes_on = record { clean = refl; first = refl; second = refl };
}
