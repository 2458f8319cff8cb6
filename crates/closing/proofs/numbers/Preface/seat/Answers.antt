-- Members one after the other.
use Rattle.std.proofs.Common.{◌≡◌, ◌∙◌, ◌+◌, ◌*◌, ap, arith, get_or, Some, vec_len}
use Rattle.std.specs.Prelude.{slice_get}
use Rattle.std.proofs.lemmas.Option.{slice_get-get_or}
use Rattle.closing.specs.inner.Prefaces.{seats_with, with_seat}
use Rattle.closing.specs.declared.numbers.Seat.{Seat}
use Rattle.closing.proofs.PrefaceLemmas.{seat_room, seats_step}
use Rattle.closing.proofs.numbers.Preface.seat.Goals as goal

pub loop-place-preserved : goal.loop-place-preserved
loop-place-preserved c =
    let first = c.args.self.now in
    let cur = c.loop-place.self in
    let inv = c.loop-place.invariant in
    let group = c.args.group.now in
    let n = c.loop-place.place in
    let x = get_or group n 0 in
    record {
      ranks = c.put_seat.ensures.ranks ∙ inv.ranks;
      sizes = c.put_seat.ensures.sizes ∙ inv.sizes;
      colours = c.put_seat.ensures.colours ∙ inv.colours;
      room = c.put_seat.ensures.room ∙ inv.room;
      seats = λ ranks roomy.
          let e : slice_get group n ≡ Some x = slice_get-get_or group n 0 (omega arith) in
          let seat : Seat = record { comm = c.args.comm; place = c.in_ok-checked_rank.field-0 } in
          let put = c.put_seat.ensures.seats (seat_room c.args.line cur.ranks first.ranks x (vec_len cur.seats) (vec_len first.seats) inv.ranks inv.room (ranks n x e) roomy) in
          let at : c.args.line * cur.ranks + x ≡ c.args.line * first.ranks + x = ap (λ k. c.args.line * k + x) inv.ranks in
          seats_step group cur.seats.items c.put_seat.new.self.seats.items (c.args.line * first.ranks) c.args.comm n c.in_ok-checked_rank.field-0 x
          (seats_with first.seats.items (c.args.line * first.ranks) c.args.comm 0 group)
          e c.in_ok-checked_rank.ensures (put ∙ ap (λ k. with_seat cur.seats.items k seat) at) (inv.seats ranks roomy);
    }
