-- Lines that are read number by number are the spellings of their calls.
use Rattle.std.proofs.Common.{◌≡◌, ℕ, ◌+◌, ◌-◌, ◌*◌, ◌/◌, ◌%◌, ◌^◌, ◌<◌, ◌≤◌, true, false, Option, Some, None, is_some, List, [], ◌∷◌, ◌++◌, length, take, get_or, map, codes, sym, ap, ◌∙◌, refl, arith, append_assoc, length-append, length-take-le, subst, add-one, nat_le}
use Rattle.std.specs.Char.{is_ascii_digit}
use Rattle.std.specs.Fmt.{decimal}
use Rattle.std.proofs.lemmas.Fmt.{decimal_digit, decimal_step, length-decimal-le}
use Rattle.std.proofs.lemmas.List.{take_more, map-append}
use Rattle.std.proofs.lemmas.Nat.{div-mul-add, mod-mul-add}
use Rattle.std.proofs.Math.Nat.{pow-suc, pow-le-pow_right}
use Rattle.std.proofs.lemmas.Bool.{and_parts, and_from}
use Rattle.mpicall.proofs.ArgumentLemmas.{le_to, le_from}
use Rattle.mpicall.proofs.BodyLemmas.{step_in_range}
use Rattle.mpicall.proofs.SpellingLemmas.{call_joined}
use Rattle.mpicall.specs.Argument.{Argument, request_argument, is_in_range, spell}
use Rattle.mpicall.specs.Spelling.{space, line_feed, spelling}
use Rattle.mpicall.specs.declared.call.Call.TheVariants.{Send, Recv, Isend, Irecv, Wait, Waitall, Coll}
use Rattle.mpicall.specs.declared.call.Kind.TheVariants.{Barrier}
use Rattle.mpicall.specs.declared.call.Mode.TheVariants.{Standard}
use Rattle.mpicall.specs.declared.call.Peer.TheVariants.{Rank}
use Rattle.mpicall.specs.inner.Draft.{line_with}
use Rattle.mpicall.specs.inner.Often.{IsNumber, HasNumber, HasDigits, HasField, HasLast, HasMessage, HasRequests}
use Rattle.mpicall.specs.inner.Parsing.{BeginsWith}

-- Numbers, digit by digit.

digit_range : (c : ℕ) → is_ascii_digit c ≡ true → (48 ≤ c) × (c ≤ 57)
digit_range c is =
    let parts = and_parts (nat_le 48 c) (nat_le c 57) is in
    (le_from 48 c parts.0, le_from c 57 parts.1)

digit_again : (c : ℕ) → 48 ≤ c → c ≡ 48 + (c - 48)
digit_again c least = omega arith

-- the first of them alone
pub number_begins : (bytes : List ℕ) (from : ℕ) → from + 10 ≤ length bytes → is_ascii_digit (get_or bytes from 0) ≡ true → IsNumber bytes from (from + 1) (get_or bytes from 0 - 48)
number_begins bytes from room is =
    let range = digit_range (get_or bytes from 0) is in
    let small : get_or bytes from 0 - 48 < 10 = omega (arith, range.0, range.1) in
    let one : decimal (get_or bytes from 0 - 48) ≡ get_or bytes from 0 ∷ [] = decimal_digit (get_or bytes from 0 - 48) small ∙ ap (λ (c : ℕ). c ∷ []) (sym (digit_again (get_or bytes from 0) range.0)) in
    record {
      text = rw (take_more bytes from 0 (omega (arith, room)), one) refl;
      some = omega arith;
      few = omega arith;
      small = omega (arith, small);
    }

one_more : (n d : ℕ) → 0 < n → n < 100000000 → d < 10 → decimal (n * 10 + d) ≡ decimal n ++ (48 + d) ∷ []
one_more n d some few small =
    let step : decimal (n * 10 + d) ≡ decimal ((n * 10 + d) / 10) ++ (48 + (n * 10 + d) % 10) ∷ [] = decimal_step (n * 10 + d) (omega arith) (omega arith) in
    rw (div-mul-add n 10 d small, mod-mul-add n 10 d small) at step

-- a digit behind them
one_digit_more : (bytes : List ℕ) (from to n d : ℕ) → IsNumber bytes from to n → 0 < n → n < 100000000 → from + 10 ≤ length bytes → get_or bytes to 0 ≡ 48 + d → d < 10 → IsNumber bytes from (to + 1) (n * 10 + d)
one_digit_more bytes from to n d has some few room is small =
    let within : to < length bytes = omega (arith, has.few, room) in
    let text : take (to + 1) bytes ≡ take from bytes ++ decimal (n * 10 + d) =
    rw (take_more bytes to 0 within, is, has.text, one_more n d some few small) (append_assoc (take from bytes) (decimal n) ((48 + d) ∷ [])) in
    let short : length (decimal (n * 10 + d)) ≤ 9 = length-decimal-le 9 (n * 10 + d) (omega arith) (omega arith) (omega arith) in
    let count : length (take (to + 1) bytes) ≡ length (take from bytes) + length (decimal (n * 10 + d)) = ap length text ∙ length-append (take from bytes) (decimal (n * 10 + d)) in
    record {
      text = text;
      some = omega (arith, has.some);
      few = omega (arith, short, count, length-take-le (to + 1) bytes (omega (arith, within)), length-take-le from bytes (omega (arith, room)));
      small = omega (arith, few, small);
    }

number_goes_on : (bytes : List ℕ) (from to n : ℕ) → IsNumber bytes from to n → 0 < n → n < 100000000 → from + 10 ≤ length bytes → 48 ≤ get_or bytes to 0 → get_or bytes to 0 ≤ 57 → IsNumber bytes from (to + 1) (n * 10 + (get_or bytes to 0 - 48))
number_goes_on bytes from to n has some few room least most =
    one_digit_more bytes from to n (get_or bytes to 0 - 48) has some few room (digit_again (get_or bytes to 0) least) (omega (arith, least, most))

-- So many digits so far.

pub below_nine : (count number : ℕ) → count < 9 → number < 10 ^ count → number < 100000000
below_nine count number few below =
    let most : 10 ^ count ≤ 10 ^ 8 = pow-le-pow_right {n = 10} (omega arith) {i = count} {j = 8} (omega (arith, few)) in
    omega (arith, below, most)

pub begins_with_digit : (bytes : List ℕ) (from next : ℕ) → from + 10 ≤ length bytes → is_ascii_digit (get_or bytes from 0) ≡ true → get_or bytes (from + 1) 0 ≡ next → HasNumber bytes from (from + 1) (get_or bytes from 0 - 48) next
begins_with_digit bytes from next room digit after = record { is = number_begins bytes from room digit; next_is = after }

pub digits_begin : (bytes : List ℕ) (from next : ℕ) → from + 10 ≤ length bytes → is_ascii_digit (get_or bytes from 0) ≡ true → get_or bytes (from + 1) 0 ≡ next → 0 < get_or bytes from 0 - 48 → HasDigits bytes from 1 (get_or bytes from 0 - 48) next
digits_begin bytes from next room digit after some =
    let range = digit_range (get_or bytes from 0) digit in
    record {
      has = begins_with_digit bytes from next room digit after;
      some = some;
      below = omega (arith, range.0, range.1);
    }

-- the byte behind the digits is one too
digit_after : (bytes : List ℕ) (from count n next : ℕ) → HasDigits bytes from count n next → from + 10 ≤ length bytes → count < 9 → 48 ≤ next → next ≤ 57 → IsNumber bytes from (from + (count + 1)) (n * 10 + (next - 48))
digit_after bytes from count n next has room few least most =
    let is : get_or bytes (from + count) 0 ≡ next = has.has.next_is in
    let further : IsNumber bytes from ((from + count) + 1) (n * 10 + (get_or bytes (from + count) 0 - 48)) = number_goes_on bytes from (from + count) n has.has.is has.some (below_nine count n few has.below) room (omega (arith, is, least)) (omega (arith, is, most)) in
    let place : (from + count) + 1 ≡ from + (count + 1) = omega arith in
    let moved : IsNumber bytes from (from + (count + 1)) (n * 10 + (get_or bytes (from + count) 0 - 48)) = subst (λ (to : ℕ). IsNumber bytes from to (n * 10 + (get_or bytes (from + count) 0 - 48))) place further in
    subst (λ (byte : ℕ). IsNumber bytes from (from + (count + 1)) (n * 10 + (byte - 48))) is moved

pub digits_go_on : (bytes : List ℕ) (from count n next after : ℕ) → HasDigits bytes from count n next → from + 10 ≤ length bytes → count < 9 → is_ascii_digit next ≡ true → get_or bytes ((from + count) + 1) 0 ≡ after → HasDigits bytes from (count + 1) (n * 10 + (next - 48)) after
digits_go_on bytes from count n next after has room few digit behind =
    let range = digit_range next digit in
    let more : 10 ^ (count + 1) ≡ 10 ^ count * 10 = rw (add-one count) (pow-suc 10 count) in
    let place : (from + count) + 1 ≡ from + (count + 1) = omega arith in
    record {
      has = record { is = digit_after bytes from count n next has room few range.0 range.1; next_is = subst (λ (to : ℕ). get_or bytes to 0 ≡ after) place behind };
      some = omega (arith, has.some);
      below = omega (arith, has.below, more, range.0, range.1);
    }

pub field_ends : (bytes : List ℕ) (from to n next end : ℕ) → HasNumber bytes from to n next → from + 10 ≤ length bytes → next ≡ end → HasField bytes from (to + 1) n end
field_ends bytes from to n next end has room ends =
    record {
      text = rw (take_more bytes to 0 (omega (arith, has.is.few, room)), has.next_is, ends, has.is.text) (append_assoc (take from bytes) (decimal n) (end ∷ []));
      few = omega (arith, has.is.few);
      small = has.is.small;
    }

-- What a message has.

pub last_plain : (bytes : List ℕ) (from : ℕ) → from + 11 ≤ length bytes → get_or bytes from 0 ≡ line_feed → HasLast bytes from (from + 1) None
last_plain bytes from room is =
    record { text = rw (take_more bytes from 0 (omega (arith, room)), is) refl; few = omega arith; small = tt }

pub last_said : (bytes : List ℕ) (from to said : ℕ) → from + 11 ≤ length bytes → get_or bytes from 0 ≡ space → HasField bytes (from + 1) to said line_feed → HasLast bytes from to (Some said)
last_said bytes from to said room is has =
    record {
      text = rw (has.text, take_more bytes from 0 (omega (arith, room)), is) (append_assoc (take from bytes) (space ∷ []) (decimal said ++ line_feed ∷ []));
      few = omega (arith, has.few);
      small = has.small;
    }

pub message_whole : (bytes : List ℕ) (from a b c to comm rank tag : ℕ) (said : Option ℕ) → HasField bytes from a comm space → HasField bytes a b rank space → IsNumber bytes b c tag → HasLast bytes c to said → comm ≤ 4095 → rank ≤ 1023 → HasMessage bytes from to comm rank tag said
message_whole bytes from a b c to comm rank tag said first second third last few_comms few_ranks =
    record {
      text = rw (last.text, third.text, second.text, first.text) (simp append_assoc refl);
      few = omega (arith, first.few, second.few, third.few, last.few);
      comm_is = few_comms;
      rank_is = few_ranks;
      tag_is = third.small;
      said_is = last.small;
    }

-- Whole lines.

pub isend_spelled : (bytes : List ℕ) (at to req comm rank tag : ℕ) (said : Option ℕ) → 64 ≤ length bytes → take 6 bytes ≡ codes "isend " → HasField bytes 6 at req space → HasMessage bytes at to comm rank tag said → BeginsWith bytes (Isend req Standard comm (Rank rank) tag said) to
unfolding spelling
isend_spelled bytes at to req comm rank tag None room word field message =
    record {
      within = omega (arith, room, field.few, message.few);
      spells = record {
        line_is = rw (message.text, field.text, word) (simp append_assoc refl);
        in_ranges_is = rw (le_to req 2147483647 (omega (arith, field.small)), le_to comm 4095 message.comm_is, le_to rank 1023 message.rank_is, le_to tag 2147483647 (omega (arith, message.tag_is))) refl;
      };
    }
isend_spelled bytes at to req comm rank tag (Some count) room word field message =
    record {
      within = omega (arith, room, field.few, message.few);
      spells = record {
        line_is = rw (message.text, field.text, word) (simp append_assoc refl);
        in_ranges_is = rw (le_to req 2147483647 (omega (arith, field.small)), le_to comm 4095 message.comm_is, le_to rank 1023 message.rank_is, le_to tag 2147483647 (omega (arith, message.tag_is)), le_to count 2147483647 (omega (arith, message.said_is))) refl;
      };
    }

pub irecv_spelled : (bytes : List ℕ) (at to req comm rank tag : ℕ) (said : Option ℕ) → is_some said ≡ false → 64 ≤ length bytes → take 6 bytes ≡ codes "irecv " → HasField bytes 6 at req space → HasMessage bytes at to comm rank tag said → BeginsWith bytes (Irecv req comm (Rank rank) tag) to
unfolding spelling
irecv_spelled bytes at to req comm rank tag (Some count) none room word field message = cc
irecv_spelled bytes at to req comm rank tag None none room word field message =
    record {
      within = omega (arith, room, field.few, message.few);
      spells = record {
        line_is = rw (message.text, field.text, word) (simp append_assoc refl);
        in_ranges_is = rw (le_to req 2147483647 (omega (arith, field.small)), le_to comm 4095 message.comm_is, le_to rank 1023 message.rank_is, le_to tag 2147483647 (omega (arith, message.tag_is))) refl;
      };
    }

pub send_spelled : (bytes : List ℕ) (to comm rank tag : ℕ) (said : Option ℕ) → 64 ≤ length bytes → take 5 bytes ≡ codes "send " → HasMessage bytes 5 to comm rank tag said → BeginsWith bytes (Send Standard comm (Rank rank) tag said) to
unfolding spelling
send_spelled bytes to comm rank tag None room word message =
    record {
      within = omega (arith, room, message.few);
      spells = record {
        line_is = rw (message.text, word) (simp append_assoc refl);
        in_ranges_is = rw (le_to comm 4095 message.comm_is, le_to rank 1023 message.rank_is, le_to tag 2147483647 (omega (arith, message.tag_is))) refl;
      };
    }
send_spelled bytes to comm rank tag (Some count) room word message =
    record {
      within = omega (arith, room, message.few);
      spells = record {
        line_is = rw (message.text, word) (simp append_assoc refl);
        in_ranges_is = rw (le_to comm 4095 message.comm_is, le_to rank 1023 message.rank_is, le_to tag 2147483647 (omega (arith, message.tag_is)), le_to count 2147483647 (omega (arith, message.said_is))) refl;
      };
    }

pub recv_spelled : (bytes : List ℕ) (to comm rank tag : ℕ) (said : Option ℕ) → is_some said ≡ false → 64 ≤ length bytes → take 5 bytes ≡ codes "recv " → HasMessage bytes 5 to comm rank tag said → BeginsWith bytes (Recv comm (Rank rank) tag) to
unfolding spelling
recv_spelled bytes to comm rank tag (Some count) none room word message = cc
recv_spelled bytes to comm rank tag None none room word message =
    record {
      within = omega (arith, room, message.few);
      spells = record {
        line_is = rw (message.text, word) (simp append_assoc refl);
        in_ranges_is = rw (le_to comm 4095 message.comm_is, le_to rank 1023 message.rank_is, le_to tag 2147483647 (omega (arith, message.tag_is))) refl;
      };
    }

pub wait_spelled : (bytes : List ℕ) (to req : ℕ) → 64 ≤ length bytes → take 5 bytes ≡ codes "wait " → HasField bytes 5 to req line_feed → BeginsWith bytes (Wait req) to
unfolding spelling
wait_spelled bytes to req room word field =
    record {
      within = omega (arith, room, field.few);
      spells = record {
        line_is = rw (field.text, word) (simp append_assoc refl);
        in_ranges_is = rw (le_to req 2147483647 (omega (arith, field.small))) refl;
      };
    }

pub barrier_spelled : (bytes : List ℕ) (to comm : ℕ) → 64 ≤ length bytes → take 8 bytes ≡ codes "barrier " → HasField bytes 8 to comm line_feed → comm ≤ 4095 → BeginsWith bytes (Coll comm Barrier) to
unfolding spelling
barrier_spelled bytes to comm room word field few =
    record {
      within = omega (arith, room, field.few);
      spells = record {
        line_is = rw (field.text, word) (simp append_assoc refl);
        in_ranges_is = rw (le_to comm 4095 few) refl;
      };
    }

-- A wait for several requests.

pub requests_begin : (bytes : List ℕ) (at req next : ℕ) → 64 ≤ length bytes → take 8 bytes ≡ codes "waitall " → HasNumber bytes 8 at req next → HasRequests bytes at next (req ∷ [])
requests_begin bytes at req next room word number =
    record {
      text = rw (number.is.text, word) refl;
      in_range = rw (le_to req 2147483647 (omega (arith, number.is.small))) refl;
      next_is = number.next_is;
      within = omega (arith, room, number.is.few);
      least = omega arith;
      most = omega arith;
    }

line_more : (line : List ℕ) (arguments : List Argument) (argument : Argument) → line_with line (arguments ++ argument ∷ []) ≡ line_with line arguments ++ space ∷ spell argument
line_more line [] argument = refl
line_more line (first ∷ arguments) argument = line_more (line ++ space ∷ spell first) arguments argument

pub requests_go_on : (bytes : List ℕ) (at next to req after : ℕ) (reqs : List ℕ) → HasRequests bytes at next reqs → next ≡ space → HasNumber bytes (at + 1) to req after → at + 11 ≤ length bytes → length reqs < 64 → HasRequests bytes to after (reqs ++ req ∷ [])
requests_go_on bytes at next to req after reqs so_far is number room few =
    let in_range : is_in_range (request_argument req) ≡ true = le_to req 2147483647 (omega (arith, number.is.small)) in
    let args : map request_argument (reqs ++ req ∷ []) ≡ map request_argument reqs ++ request_argument req ∷ [] = map-append request_argument reqs (req ∷ []) in
    record {
      text = rw (number.is.text, take_more bytes at 0 (omega (arith, room)), so_far.next_is, is, so_far.text, args, line_more (codes "waitall") (map request_argument reqs) (request_argument req))
          (append_assoc (line_with (codes "waitall") (map request_argument reqs)) (space ∷ []) (decimal req));
      in_range = step_in_range reqs req so_far.in_range in_range;
      next_is = number.next_is;
      within = omega (arith, number.is.few, room);
      least = omega (arith, length-append reqs (req ∷ []), so_far.least);
      most = omega (arith, length-append reqs (req ∷ []), few);
    }

pub waitall_spelled : (bytes : List ℕ) (at next : ℕ) (reqs : List ℕ) → HasRequests bytes at next reqs → next ≡ line_feed → BeginsWith bytes (Waitall reqs) (at + 1)
unfolding spelling
waitall_spelled bytes at next reqs so_far is =
    record {
      within = omega (arith, so_far.within);
      spells = record {
        line_is = rw (take_more bytes at 0 so_far.within, so_far.next_is, is, so_far.text) (ap (λ (line : List ℕ). line ++ line_feed ∷ []) (call_joined [] (Waitall reqs)));
        in_ranges_is = and_from _ _ so_far.in_range (and_from _ _ (le_to 1 (length reqs) so_far.least) (le_to (length reqs) 64 so_far.most));
      };
    }
