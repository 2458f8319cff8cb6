-- The preface: which lines are free, and what a communicator leaves that is put into one.
use Rattle.std.proofs.Common.{◌≡◌, refl, sym, ap, subst, ◌∙◌, ℕ, zero, suc, ◌+◌, ◌*◌, ◌≤◌, ◌<◌, ◌⊎◌, inl, inr, arith, add-one, add-zero, zero-add, Bool, true, false, ◌||◌, not, ◌==◌, if◌then◌else◌, vec_len, eqb-true, eq-eqb, pos, List, [], ◌∷◌, ◌++◌, length, drop, set, replicate, Option, Some, None, is_some}
use Rattle.std.specs.Prelude.{slice_get}
use Rattle.std.specs.List.{list_any, position_or_len}
use Rattle.std.proofs.Math.Nat.{mul-le-mul_right}
use Rattle.std.proofs.lemmas.Bool.{cases_Bool, cases_eq, cases_order, false≢true}
use Rattle.std.proofs.lemmas.List.{length_push, length-set, length-append, length-replicate}
use Rattle.std.proofs.lemmas.Option.{slice_get_within}
use Rattle.mpicall.specs.declared.call.Call.{Call}
use Rattle.mpicall.specs.declared.call.Call.TheVariants.{Split}
use Rattle.closing.specs.inner.Prefaces.{AreRanks, IsPreface, Seated, first_free, has_rank, is_seat, put_seated, seat_at, seat_in, seat_of, seated_split, seats_with, shares, with_line, with_seat, with_seat_by}
use Rattle.closing.specs.declared.numbers.Preface.{Preface}
use Rattle.closing.specs.declared.numbers.Seat.{Seat}
use Rattle.closing.proofs.NumberLists.{any_same, any_swap, drop_here, get_append, get_last, get_push, get_replicate, get_second, get_set_other, get_set_same, get_some, or_true, push_cases}

abbrev seat_with : ℕ → ℕ → Seat
seat_with comm place = record { comm = comm; place = place }

abbrev seated_here : ℕ → ℕ → Seated → Call
seated_here rank colour it = Split 0 (Some colour) (pos (position_or_len (λ member. member == rank) it.group)) (Some it.comm)

-- ---- Free lines ----

pub seat_test : (seat : Option Seat) → is_seat (Some seat) ≡ is_some seat
seat_test None = refl
seat_test (Some seat) = refl

some_if : (b : Bool) (seat : Seat) (other : Option Seat) → is_some (if b then Some seat else other) ≡ (b || is_some other)
some_if true seat other = refl
some_if false seat other = refl

-- a rank has a seat in a line exactly if it is a member of one of its groups
pub seat_taken : (rank : ℕ) (line : List Seated) → is_some (seat_in rank line) ≡ list_any (λ other. has_rank rank other.group) line
seat_taken rank [] = refl
seat_taken rank (it ∷ others) = some_if (has_rank rank it.group) (seat_of rank it) (seat_in rank others) ∙ ap (λ b. has_rank rank it.group || b) (seat_taken rank others)

-- some member has a seat exactly if the group shares a member with the line
pub shares_seats : (preface : Preface) (next place : ℕ) (lines : List (List Seated)) (line : List Seated) (group : List ℕ) → IsPreface preface next lines → slice_get lines place ≡ Some line → AreRanks preface.ranks group → list_any (λ rank. is_seat (seat_at preface place rank)) group ≡ shares group line
shares_seats preface next place lines line group h e ranks =
    let each : (n rank : ℕ) → slice_get group n ≡ Some rank → is_seat (seat_at preface place rank) ≡ list_any (λ other. has_rank rank other.group) line =
    λ n rank at. ap is_seat (h.seats place rank line e (ranks n rank at)) ∙ seat_test (seat_in rank line) ∙ seat_taken rank line in
    any_same (λ rank. is_seat (seat_at preface place rank)) (λ rank. list_any (λ other. has_rank rank other.group) line) group each
    ∙ any_swap (λ rank (other : Seated). has_rank rank other.group) group line

pub free_more : (group : List ℕ) (lines : List (List Seated)) (n : ℕ) (line : List Seated) (all : ℕ) → slice_get lines n ≡ Some line → shares group line ≡ true → all ≡ n + first_free group (drop n lines) → all ≡ n + 1 + first_free group (drop (n + 1) lines)
free_more group lines n line all e holds h =
    let k : first_free group (drop n lines) ≡ first_free group (drop (n + 1) lines) + 1 =
    ap (λ xs. first_free group xs) (drop_here lines n line e) ∙ ap (λ b. if b then first_free group (drop (n + 1) lines) + 1 else 0) holds in
    omega arith

pub free_found : (group : List ℕ) (lines : List (List Seated)) (n : ℕ) (line : List Seated) (all : ℕ) → slice_get lines n ≡ Some line → shares group line ≡ false → all ≡ n + first_free group (drop n lines) → n ≡ all
free_found group lines n line all e fails h =
    let k : first_free group (drop n lines) ≡ 0 =
    ap (λ xs. first_free group xs) (drop_here lines n line e) ∙ ap (λ b. if b then first_free group (drop (n + 1) lines) + 1 else 0) fails in
    omega arith

free_if : (group : List ℕ) (line : List Seated) (lines : List (List Seated)) (n : ℕ) → first_free group lines ≤ length lines → (if shares group line then first_free group lines + 1 else 0) ≤ suc (length lines)
free_if group line lines n h = elim (cases_Bool (shares group line)) [
  | inl holds ↦ rw holds (omega arith)
  | inr fails ↦ rw fails (omega arith)
]

pub free_most : (group : List ℕ) (lines : List (List Seated)) → first_free group lines ≤ length lines
free_most group [] = omega arith
free_most group (line ∷ lines) = free_if group line lines 0 (free_most group lines)

-- the line at the first free place shares no member
pub free_shares : (group : List ℕ) (lines : List (List Seated)) (line : List Seated) → slice_get (with_line (first_free group lines) lines) (first_free group lines) ≡ Some line → shares group line ≡ false
free_shares group [] line e = let k : line ≡ [] = cc in ap (λ xs. shares group xs) k
free_shares group (first ∷ lines) line e = elim (cases_Bool (shares group first)) [
  | inl holds ↦
      let at : first_free group (first ∷ lines) ≡ suc (first_free group lines) = ap (λ b. if b then first_free group lines + 1 else 0) holds ∙ add-one (first_free group lines) in
      let P : ℕ → Type 0 = λ n. slice_get (with_line n (first ∷ lines)) n ≡ Some line in
      free_shares group lines line (subst P at e)
  | inr fails ↦
      let at : first_free group (first ∷ lines) ≡ zero = ap (λ b. if b then first_free group lines + 1 else 0) fails in
      let P : ℕ → Type 0 = λ n. slice_get (with_line n (first ∷ lines)) n ≡ Some line in
      let here : Some first ≡ Some line = subst P at e in
      let k : first ≡ line = cc in
      sym (ap (λ xs. shares group xs) k) ∙ fails
]

pub line_inside : (n : ℕ) (lines : List (List Seated)) → n < length lines → with_line n lines ≡ lines
line_inside n [] h = absurd (omega arith)
line_inside zero (line ∷ lines) h = refl
line_inside (suc n) (line ∷ lines) h = ap (λ xs. line ∷ xs) (line_inside n lines (omega arith))

pub line_end : (n : ℕ) (lines : List (List Seated)) → n ≡ length lines → with_line n lines ≡ lines ++ [] ∷ []
line_end n [] e = refl
line_end zero (line ∷ lines) e = absurd (omega arith)
line_end (suc n) (line ∷ lines) e = ap (λ xs. line ∷ xs) (line_end n lines (omega arith))

pub line_there : (n : ℕ) (lines : List (List Seated)) → n ≤ length lines → n < length (with_line n lines)
line_there n [] h = omega arith
line_there zero (line ∷ lines) h = omega arith
line_there (suc n) (line ∷ lines) h = let k = line_there n lines (omega arith) in omega arith

-- to be put is to be the last of the first free line
pub put_is : (it : Seated) (lines : List (List Seated)) (line : List Seated) → slice_get (with_line (first_free it.group lines) lines) (first_free it.group lines) ≡ Some line → put_seated it lines ≡ set (with_line (first_free it.group lines) lines) (first_free it.group lines) (line ++ it ∷ [])
put_is it [] line e = let k : line ≡ [] = cc in ap (λ xs. (xs ++ it ∷ []) ∷ []) (sym k)
put_is it (first ∷ lines) line e = elim (cases_Bool (shares it.group first)) [
  | inl holds ↦
      let at : first_free it.group (first ∷ lines) ≡ suc (first_free it.group lines) = ap (λ b. if b then first_free it.group lines + 1 else 0) holds ∙ add-one (first_free it.group lines) in
      let P : ℕ → Type 0 = λ n. slice_get (with_line n (first ∷ lines)) n ≡ Some line in
      let Q : ℕ → Type 0 = λ n. put_seated it (first ∷ lines) ≡ set (with_line n (first ∷ lines)) n (line ++ it ∷ []) in
      let put : put_seated it (first ∷ lines) ≡ first ∷ put_seated it lines = ap (λ b. if b then first ∷ put_seated it lines else (first ++ it ∷ []) ∷ lines) holds in
      subst Q (sym at) (put ∙ ap (λ xs. first ∷ xs) (put_is it lines line (subst P at e)))
  | inr fails ↦
      let at : first_free it.group (first ∷ lines) ≡ zero = ap (λ b. if b then first_free it.group lines + 1 else 0) fails in
      let P : ℕ → Type 0 = λ n. slice_get (with_line n (first ∷ lines)) n ≡ Some line in
      let Q : ℕ → Type 0 = λ n. put_seated it (first ∷ lines) ≡ set (with_line n (first ∷ lines)) n (line ++ it ∷ []) in
      let here : Some first ≡ Some line = subst P at e in
      let k : first ≡ line = cc in
      let put : put_seated it (first ∷ lines) ≡ (first ++ it ∷ []) ∷ lines = ap (λ b. if b then first ∷ put_seated it lines else (first ++ it ∷ []) ∷ lines) fails in
      subst Q (sym at) (put ∙ ap (λ xs. (xs ++ it ∷ []) ∷ lines) k)
]

-- ---- A line more ----

-- the seat of a rank is among those of the line
pub seat_inside : (place ranks rank count : ℕ) → place < count → rank < ranks → place * ranks + rank < count * ranks
seat_inside place ranks rank count h k =
    let m : (place + 1) * ranks ≤ count * ranks = mul-le-mul_right ranks (omega arith) in
    omega arith

-- those of two lines are apart
pub seats_apart : (place other ranks rank member : ℕ) → (place ≡ other → ⊥) → rank < ranks → member < ranks → place * ranks + rank ≡ other * ranks + member → ⊥
seats_apart place other ranks rank member ne h k e = elim (cases_order place other) [
  | inl same ↦ ne same
  | inr apart ↦ elim apart [
    | inl below ↦ let m : (place + 1) * ranks ≤ other * ranks = mul-le-mul_right ranks (omega arith) in omega arith
    | inr above ↦ let m : (other + 1) * ranks ≤ place * ranks = mul-le-mul_right ranks (omega arith) in omega arith
  ]
]

pub seats_same : (place ranks rank member : ℕ) → place * ranks + rank ≡ place * ranks + member → rank ≡ member
seats_same place ranks rank member e = omega arith

-- a preface with one line more, in which nobody has a seat
pub line_more : (old new : Preface) (next : ℕ) (lines : List (List Seated)) → IsPreface old next lines → new.ranks ≡ old.ranks → new.sizes.items ≡ old.sizes.items ++ 0 ∷ [] → new.seats.items ≡ old.seats.items ++ replicate old.ranks None → new.colours.items ≡ old.colours.items → IsPreface new next (lines ++ [] ∷ [])
line_more old new next lines h ranks sizes seats colours = record {
  count = ap length sizes ∙ length_push old.sizes.items 0 ∙ ap (λ n. n + 1) h.count ∙ sym (length_push lines []);
  room =
      let a : length new.seats.items ≡ length old.seats.items + old.ranks = ap length seats ∙ length-append old.seats.items (replicate old.ranks None) ∙ ap (λ n. length old.seats.items + n) (length-replicate old.ranks None) in
      let b : length (lines ++ [] ∷ []) ≡ length lines + 1 = length_push lines [] in
      let c : length lines * old.ranks + old.ranks ≡ (length lines + 1) * old.ranks = omega arith in
      let d : length new.seats.items ≡ (length lines + 1) * old.ranks = a ∙ ap (λ n. n + old.ranks) h.room ∙ c in
      rw (b, ranks) d;
  sizes = λ place line e. ap (λ xs. slice_get xs place) sizes ∙ elim (push_cases lines [] place line e) [
    | inl was ↦ get_push old.sizes.items 0 place (length line) (h.sizes place line was)
    | inr last ↦ get_last old.sizes.items 0 place (last.0 ∙ sym h.count) ∙ ap (λ (xs : List Seated). Some (length xs)) (sym last.1)
  ];
  seats = λ place rank line e k. seats_more old new next lines h ranks seats place rank line e k;
  colours = λ place colour line it e k. ap (λ xs. slice_get xs it.comm) colours ∙ elim (push_cases lines [] place line e) [
    | inl was ↦ h.colours place colour line it was k
    | inr last ↦ let none : slice_get {X = Seated} [] colour ≡ Some it = ap (λ xs. slice_get xs colour) (sym last.1) ∙ k in absurd (cc (none))
  ];
  below = λ place colour line it e k. elim (push_cases lines [] place line e) [
    | inl was ↦ h.below place colour line it was k
    | inr last ↦ let none : slice_get {X = Seated} [] colour ≡ Some it = ap (λ xs. slice_get xs colour) (sym last.1) ∙ k in absurd (cc (none))
  ];
  short = λ place line e. elim (push_cases lines [] place line e) [
    | inl was ↦ h.short place line was
    | inr last ↦ let P : List Seated → Type 0 = λ xs. length xs < next in subst P (sym last.1) h.some
  ];
  some = h.some;
}
  where
    seats_more : (old new : Preface) (next : ℕ) (lines : List (List Seated)) → IsPreface old next lines → new.ranks ≡ old.ranks → new.seats.items ≡ old.seats.items ++ replicate old.ranks None → (place rank : ℕ) (line : List Seated) → slice_get (lines ++ [] ∷ []) place ≡ Some line → rank < new.ranks → seat_at new place rank ≡ Some (seat_in rank line)
    seats_more old new next lines h ranks seats place rank line e k =
        let small : rank < old.ranks = omega arith in
        let at : seat_at new place rank ≡ slice_get (old.seats.items ++ replicate old.ranks None) (place * old.ranks + rank) =
        ap (λ xs. slice_get xs (place * new.ranks + rank)) seats ∙ ap (λ n. slice_get (old.seats.items ++ replicate old.ranks None) (place * n + rank)) ranks in
        at ∙ elim (push_cases lines [] place line e) [
          | inl was ↦ get_append old.seats.items (replicate old.ranks None) (place * old.ranks + rank) (seat_in rank line) (h.seats place rank line was small)
          | inr last ↦
              let begin : place * old.ranks + rank ≡ length old.seats.items + rank = ap (λ n. n * old.ranks + rank) last.0 ∙ ap (λ n. n + rank) (sym h.room) in
              get_second old.seats.items (replicate old.ranks None) (place * old.ranks + rank) rank begin
              ∙ get_replicate old.ranks rank None small ∙ ap (λ xs. Some (seat_in rank xs)) (sym last.1)
        ]

-- ---- Seats of a group ----

seat_elsewhere : (it : Option (Option Seat)) (seats : List (Option Seat)) (place at : ℕ) (seat : Seat) → (place ≡ at → ⊥) → slice_get (with_seat_by it seats place seat) at ≡ slice_get seats at
seat_elsewhere None seats place at seat ne = refl
seat_elsewhere (Some None) seats place at seat ne = get_set_other seats place at (Some seat) ne
seat_elsewhere (Some (Some other)) seats place at seat ne = refl

-- a seat that is taken stays
seat_stays : (it : Option (Option Seat)) (seats : List (Option Seat)) (place at : ℕ) (seat other : Seat) → slice_get seats place ≡ it → slice_get seats at ≡ Some (Some other) → slice_get (with_seat_by it seats place seat) at ≡ Some (Some other)
seat_stays None seats place at seat other e h = h
seat_stays (Some (Some taken)) seats place at seat other e h = h
seat_stays (Some None) seats place at seat other e h =
    let apart : place ≡ at → ⊥ = λ same. absurd (cc (e, h, ap (λ n. slice_get seats n) same)) in
    get_set_other seats place at (Some seat) apart ∙ h

seat_here : (seats : List (Option Seat)) (place : ℕ) (seat : Seat) → slice_get seats place ≡ Some None → slice_get (with_seat seats place seat) place ≡ Some (Some seat)
seat_here seats place seat e =
    ap (λ it. slice_get (with_seat_by it seats place seat) place) e
    ∙ get_set_same seats place (Some seat) (slice_get_within seats place None e)

seat_length : (it : Option (Option Seat)) (seats : List (Option Seat)) (place : ℕ) (seat : Seat) → length (with_seat_by it seats place seat) ≡ length seats
seat_length None seats place seat = refl
seat_length (Some None) seats place seat = length-set seats place (Some seat)
seat_length (Some (Some other)) seats place seat = refl

pub with_seat_length : (seats : List (Option Seat)) (place : ℕ) (seat : Seat) → length (with_seat seats place seat) ≡ length seats
with_seat_length seats place seat = seat_length (slice_get seats place) seats place seat

pub seats_length : (group : List ℕ) (seats : List (Option Seat)) (begin comm place : ℕ) → length (seats_with seats begin comm place group) ≡ length seats
seats_length [] seats begin comm place = refl
seats_length (member ∷ others) seats begin comm place =
    let seat : Seat = record { comm = comm; place = place } in
    seats_length others (with_seat seats (begin + member) seat) begin comm (place + 1) ∙ with_seat_length seats (begin + member) seat

-- where no member's seat is all stays
pub seats_elsewhere : (group : List ℕ) (seats : List (Option Seat)) (begin comm place at : ℕ) → ((n member : ℕ) → slice_get group n ≡ Some member → begin + member ≡ at → ⊥) → slice_get (seats_with seats begin comm place group) at ≡ slice_get seats at
seats_elsewhere [] seats begin comm place at ne = refl
seats_elsewhere (member ∷ others) seats begin comm place at ne =
    let seat : Seat = record { comm = comm; place = place } in
    seats_elsewhere others (with_seat seats (begin + member) seat) begin comm (place + 1) at (λ n other e. ne (suc n) other e)
    ∙ seat_elsewhere (slice_get seats (begin + member)) seats (begin + member) at seat (ne 0 member refl)

seats_stay : (group : List ℕ) (seats : List (Option Seat)) (begin comm place at : ℕ) (other : Seat) → slice_get seats at ≡ Some (Some other) → slice_get (seats_with seats begin comm place group) at ≡ Some (Some other)
seats_stay [] seats begin comm place at other e = e
seats_stay (member ∷ others) seats begin comm place at other e =
    let seat : Seat = record { comm = comm; place = place } in
    seats_stay others (with_seat seats (begin + member) seat) begin comm (place + 1) at other (seat_stays (slice_get seats (begin + member)) seats (begin + member) at seat other refl e)

first_is : (rank member : ℕ) (others : List ℕ) → (member == rank) ≡ true → position_or_len (λ other. other == rank) (member ∷ others) ≡ 0
first_is rank member others holds = rw holds refl

first_isnt : (rank member : ℕ) (others : List ℕ) → (member == rank) ≡ false → position_or_len (λ other. other == rank) (member ∷ others) ≡ 1 + position_or_len (λ other. other == rank) others
first_isnt rank member others fails = rw fails refl

-- a member gets its seat, where it had none
pub seats_given : (group : List ℕ) (seats : List (Option Seat)) (begin comm place rank : ℕ) → has_rank rank group ≡ true → slice_get seats (begin + rank) ≡ Some None → slice_get (seats_with seats begin comm place group) (begin + rank) ≡ Some (Some (record { comm = comm; place = place + position_or_len (λ member. member == rank) group }))
seats_given [] seats begin comm place rank h e = absurd (false≢true h)
seats_given (member ∷ others) seats begin comm place rank h e =
    let seat : Seat = record { comm = comm; place = place } in
    elim (cases_Bool (member == rank)) [
      | inl holds ↦
          let same : member ≡ rank = eqb-true member rank holds in
          let at : begin + member ≡ begin + rank = ap (λ n. begin + n) same in
          let here : slice_get (with_seat seats (begin + member) seat) (begin + rank) ≡ Some (Some seat) =
          ap (λ n. slice_get (with_seat seats n seat) (begin + rank)) at ∙ seat_here seats (begin + rank) seat e in
          let p : place + position_or_len (λ other. other == rank) (member ∷ others) ≡ place = ap (λ n. place + n) (first_is rank member others holds) ∙ add-zero place in
          seats_stay others (with_seat seats (begin + member) seat) begin comm (place + 1) (begin + rank) seat here
          ∙ ap (λ (n : ℕ). Some (Some (seat_with comm n))) (sym p)
      | inr fails ↦
          let apart : begin + member ≡ begin + rank → ⊥ = λ same. let k : member ≡ rank = omega arith in false≢true (sym fails ∙ eq-eqb member rank k) in
          let here : slice_get (with_seat seats (begin + member) seat) (begin + rank) ≡ Some None =
          seat_elsewhere (slice_get seats (begin + member)) seats (begin + member) (begin + rank) seat apart ∙ e in
          let inside : has_rank rank others ≡ true = sym (ap (λ b. b || has_rank rank others) fails) ∙ h in
          let p : place + position_or_len (λ other. other == rank) (member ∷ others) ≡ place + 1 + position_or_len (λ other. other == rank) others = let q = first_isnt rank member others fails in omega arith in
          seats_given others (with_seat seats (begin + member) seat) begin comm (place + 1) rank inside here
          ∙ ap (λ (n : ℕ). Some (Some (seat_with comm n))) (sym p)
    ]

-- ---- A communicator more ----

seat_if : (b : Bool) (rank : ℕ) (seat : Seat) (other : Option Seat) → b ≡ false → (if b then Some seat else other) ≡ other
seat_if b rank seat other e = ap (λ t. if t then Some seat else other) e

seat_then : (b : Bool) (seat : Seat) (other : Option Seat) → b ≡ true → (if b then Some seat else other) ≡ Some seat
seat_then b seat other e = ap (λ t. if t then Some seat else other) e

-- one that doesn't have the rank changes nothing for it
seat_push_other : (rank : ℕ) (line : List Seated) (it : Seated) → has_rank rank it.group ≡ false → seat_in rank (line ++ it ∷ []) ≡ seat_in rank line
seat_push_other rank [] it fails = seat_if (has_rank rank it.group) rank (seat_of rank it) None fails
seat_push_other rank (first ∷ others) it fails = ap (λ o. if has_rank rank first.group then Some (seat_of rank first) else o) (seat_push_other rank others it fails)

or_left : (a b : Bool) → (a || b) ≡ false → a ≡ false
or_left true b e = e
or_left false b e = refl

or_right : (a b : Bool) → (a || b) ≡ false → b ≡ false
or_right true b e = absurd (false≢true (sym e))
or_right false b e = e

-- a rank of which no group of the line has the last one that is put there
seat_push_same : (rank : ℕ) (line : List Seated) (it : Seated) → list_any (λ other. has_rank rank other.group) line ≡ false → has_rank rank it.group ≡ true → seat_in rank (line ++ it ∷ []) ≡ Some (seat_of rank it)
seat_push_same rank [] it none holds = seat_then (has_rank rank it.group) (seat_of rank it) None holds
seat_push_same rank (first ∷ others) it none holds =
    let fails = or_left (has_rank rank first.group) (list_any (λ other. has_rank rank other.group) others) none in
    let rest = or_right (has_rank rank first.group) (list_any (λ other. has_rank rank other.group) others) none in
    seat_if (has_rank rank first.group) rank (seat_of rank first) (seat_in rank (others ++ it ∷ [])) fails ∙ seat_push_same rank others it rest holds

no_seat : (rank : ℕ) (line : List Seated) → list_any (λ other. has_rank rank other.group) line ≡ false → seat_in rank line ≡ None
no_seat rank [] none = refl
no_seat rank (first ∷ others) none =
    let fails = or_left (has_rank rank first.group) (list_any (λ other. has_rank rank other.group) others) none in
    let rest = or_right (has_rank rank first.group) (list_any (λ other. has_rank rank other.group) others) none in
    seat_if (has_rank rank first.group) rank (seat_of rank first) (seat_in rank others) fails ∙ no_seat rank others rest

none_of : {X : Type 0} (t : X → Bool) (xs : List X) (n : ℕ) (x : X) → list_any t xs ≡ false → slice_get xs n ≡ Some x → t x ≡ false
none_of t [] n x h e = absurd (cc)
none_of t (y ∷ ys) zero x h e = let k : y ≡ x = cc in ap t (sym k) ∙ or_left (t y) (list_any t ys) h
none_of t (y ∷ ys) (suc n) x h e = none_of t ys n x (or_right (t y) (list_any t ys) h) e

-- a member stands at some place
member_at : (rank : ℕ) (group : List ℕ) → has_rank rank group ≡ true → (n : ℕ) × (slice_get group n ≡ Some rank)
member_at rank [] h = absurd (false≢true h)
member_at rank (member ∷ others) h = elim (cases_Bool (member == rank)) [
  | inl holds ↦ (0, ap Some (eqb-true member rank holds))
  | inr fails ↦ let it = member_at rank others (sym (ap (λ b. b || has_rank rank others) fails) ∙ h) in (suc it.0, it.1)
]

has_member : (rank : ℕ) (group : List ℕ) (n : ℕ) → slice_get group n ≡ Some rank → has_rank rank group ≡ true
has_member rank [] n e = absurd (cc)
has_member rank (member ∷ others) zero e = let k : member ≡ rank = cc in ap (λ b. b || has_rank rank others) (eq-eqb member rank k)
has_member rank (member ∷ others) (suc n) e = ap (λ b. (member == rank) || b) (has_member rank others n e) ∙ or_true (member == rank)

-- a line that shares no member with a group has no group with one of these
line_free : (group : List ℕ) (line : List Seated) (n rank : ℕ) → shares group line ≡ false → slice_get group n ≡ Some rank → list_any (λ other. has_rank rank other.group) line ≡ false
line_free group line n rank h e =
    none_of (λ rank. list_any (λ other. has_rank rank other.group) line) group n rank (any_swap (λ rank (other : Seated). has_rank rank other.group) group line ∙ h) e

-- what is done to put a communicator into the line at a place
pub record IsPut (old new : Preface) (place comm : ℕ) (group : List ℕ) (line : List Seated) : Type 0 where
  pub ranks : new.ranks ≡ old.ranks
  pub sizes : new.sizes.items ≡ set old.sizes.items place (length line + 1)
  pub colours : new.colours.items ≡ set old.colours.items comm (length line)
  pub seats : new.seats.items ≡ seats_with old.seats.items (place * old.ranks) comm 0 group
  pub inside : comm < length old.colours.items
  pub free : shares group line ≡ false

abbrev put_one : ℕ → List ℕ → Seated
put_one comm group = record { comm = comm; group = group }

seats_put_here : (old new : Preface) (place comm rank : ℕ) (group : List ℕ) (line : List Seated) (lines : List (List Seated)) → IsPreface old comm lines → AreRanks old.ranks group → slice_get lines place ≡ Some line → IsPut old new place comm group line → rank < old.ranks → slice_get new.seats.items (place * old.ranks + rank) ≡ Some (seat_in rank (line ++ put_one comm group ∷ []))
seats_put_here old new place comm rank group line lines h ranks at put small =
    ap (λ xs. slice_get xs (place * old.ranks + rank)) put.seats ∙ elim (cases_Bool (has_rank rank group)) [
      | inl holds ↦
          let there = member_at rank group holds in
          let none = line_free group line there.0 rank put.free there.1 in
          let empty : slice_get old.seats.items (place * old.ranks + rank) ≡ Some None = h.seats place rank line at small ∙ ap Some (no_seat rank line none) in
          seats_given group old.seats.items (place * old.ranks) comm 0 rank holds empty
          ∙ ap (λ n. Some (Some (seat_with comm n))) (zero-add (position_or_len (λ member. member == rank) group))
          ∙ sym (ap Some (seat_push_same rank line (put_one comm group) none holds))
      | inr fails ↦
          let apart : (n member : ℕ) → slice_get group n ≡ Some member → place * old.ranks + member ≡ place * old.ranks + rank → ⊥ =
          λ n member e same. let k : member ≡ rank = seats_same place old.ranks member rank same in
          let P : ℕ → Type 0 = λ m. slice_get group n ≡ Some m in
          false≢true (sym fails ∙ has_member rank group n (subst P k e)) in
          seats_elsewhere group old.seats.items (place * old.ranks) comm 0 (place * old.ranks + rank) apart
          ∙ h.seats place rank line at small ∙ sym (ap Some (seat_push_other rank line (put_one comm group) fails))
    ]

seats_put_there : (old new : Preface) (place other comm rank : ℕ) (group : List ℕ) (line there : List Seated) (lines : List (List Seated)) → IsPreface old comm lines → AreRanks old.ranks group → slice_get lines other ≡ Some there → IsPut old new place comm group line → rank < old.ranks → (place ≡ other → ⊥) → slice_get new.seats.items (other * old.ranks + rank) ≡ Some (seat_in rank there)
seats_put_there old new place other comm rank group line there lines h ranks at put small ne =
    ap (λ xs. slice_get xs (other * old.ranks + rank)) put.seats
    ∙ seats_elsewhere group old.seats.items (place * old.ranks) comm 0 (other * old.ranks + rank) (λ n member e. seats_apart place other old.ranks member rank ne (ranks n member e) small)
    ∙ h.seats other rank there at small

-- a line after another is put is the old one or that with it
put_cases : (lines : List (List Seated)) (place other : ℕ) (line there : List Seated) → place < length lines → slice_get (set lines place line) other ≡ Some there → ((place ≡ other) × (there ≡ line)) ⊎ ((place ≡ other → ⊥) × (slice_get lines other ≡ Some there))
put_cases lines place other line there inside e = elim (cases_eq place other) [
  | inl same ↦
      let here = get_set_same lines place line inside in
      let P : ℕ → Type 0 = λ n. slice_get (set lines place line) n ≡ Some there in
      let k : there ≡ line = cc (here, subst P (sym same) e) in inl (same, k)
  | inr ne ↦ inr (ne, sym (get_set_other lines place other line ne) ∙ e)
]

-- the preface with a communicator in a line that is free for its members
pub preface_put : (old new : Preface) (place comm : ℕ) (group : List ℕ) (line : List Seated) (lines : List (List Seated)) → IsPreface old comm lines → AreRanks old.ranks group → slice_get lines place ≡ Some line → IsPut old new place comm group line → IsPreface new (comm + 1) (set lines place (line ++ put_one comm group ∷ []))
preface_put old new place comm group line lines h ranks at put =
    let it = put_one comm group in
    let longer = line ++ it ∷ [] in
    let inside : place < length lines = slice_get_within lines place line at in
    record {
      count = ap length put.sizes ∙ length-set old.sizes.items place (length line + 1) ∙ h.count ∙ sym (length-set lines place longer);
      room =
          let a : length new.seats.items ≡ length old.seats.items = ap length put.seats ∙ seats_length group old.seats.items (place * old.ranks) comm 0 in
          rw (length-set lines place longer, put.ranks) (a ∙ h.room);
      sizes = λ other there e. ap (λ xs. slice_get xs other) put.sizes ∙ elim (put_cases lines place other longer there inside e) [
        | inl here ↦
            let small : place < length old.sizes.items = omega (arith, h.count) in
            let P : ℕ → Type 0 = λ n. slice_get (set old.sizes.items place (length line + 1)) n ≡ Some (length line + 1) in
            subst P here.0 (get_set_same old.sizes.items place (length line + 1) small)
            ∙ ap Some (sym (length_push line it)) ∙ ap (λ (xs : List Seated). Some (length xs)) (sym here.1)
        | inr far ↦ get_set_other old.sizes.items place other (length line + 1) far.0 ∙ h.sizes other there far.1
      ];
      seats = λ other rank there e k.
          let small : rank < old.ranks = omega (arith, put.ranks) in
          ap (λ n. slice_get new.seats.items (other * n + rank)) put.ranks ∙ elim (put_cases lines place other longer there inside e) [
            | inl here ↦
                let P : ℕ → Type 0 = λ n. slice_get new.seats.items (n * old.ranks + rank) ≡ Some (seat_in rank longer) in
                subst P here.0 (seats_put_here old new place comm rank group line lines h ranks at put small)
                ∙ ap (λ xs. Some (seat_in rank xs)) (sym here.1)
            | inr far ↦ seats_put_there old new place other comm rank group line there lines h ranks far.1 put small far.0
          ];
      colours = λ other colour there one e k. ap (λ xs. slice_get xs one.comm) put.colours ∙ elim (put_cases lines place other longer there inside e) [
        | inl here ↦ elim (push_cases line it colour one (ap (λ xs. slice_get xs colour) (sym here.1) ∙ k)) [
          | inl was ↦ colours_other old comm (length line) one.comm colour (h.below place colour line one at was) (h.colours place colour line one at was)
          | inr new_one ↦
              let P : ℕ → Type 0 = λ n. slice_get (set old.colours.items comm (length line)) n ≡ Some (length line) in
              let c : comm ≡ one.comm = ap (λ (x : Seated). x.comm) (sym new_one.1) in
              subst P c (get_set_same old.colours.items comm (length line) put.inside) ∙ ap Some (sym new_one.0)
        ]
        | inr far ↦ colours_other old comm (length line) one.comm colour (h.below other colour there one far.1 k) (h.colours other colour there one far.1 k)
      ];
      below = λ other colour there one e k. elim (put_cases lines place other longer there inside e) [
        | inl here ↦ elim (push_cases line it colour one (ap (λ xs. slice_get xs colour) (sym here.1) ∙ k)) [
          | inl was ↦ let b = h.below place colour line one at was in omega arith
          | inr new_one ↦ let c : one.comm ≡ comm = ap (λ (x : Seated). x.comm) new_one.1 in omega arith
        ]
        | inr far ↦ let b = h.below other colour there one far.1 k in omega arith
      ];
      short = λ other there e. elim (put_cases lines place other longer there inside e) [
        | inl here ↦
            let b : length line < comm = h.short place line at in
            let c : length there ≡ length line + 1 = ap length here.1 ∙ length_push line it in omega arith
        | inr far ↦ let b = h.short other there far.1 in omega arith
      ];
      some = omega arith;
    }
  where
    colours_other : (old : Preface) (comm size one colour : ℕ) → one < comm → slice_get old.colours.items one ≡ Some colour → slice_get (set old.colours.items comm size) one ≡ Some colour
    colours_other old comm size one colour below e =
        let ne : comm ≡ one → ⊥ = λ same. absurd (omega arith) in
        get_set_other old.colours.items comm one size ne ∙ e

-- ---- The split of a line ----

-- a rank has no seat in a line
pub split_none : (rank colour : ℕ) (line : List Seated) → seat_in rank line ≡ None → seated_split rank colour line ≡ Split 0 None (pos 0) None
split_none rank colour [] e = refl
split_none rank colour (it ∷ others) e = elim (cases_Bool (has_rank rank it.group)) [
  | inl holds ↦ let k : Some (seat_of rank it) ≡ None = sym (seat_then (has_rank rank it.group) (seat_of rank it) (seat_in rank others) holds) ∙ e in absurd (cc (k))
  | inr fails ↦
      let k : seat_in rank others ≡ None = sym (seat_if (has_rank rank it.group) rank (seat_of rank it) (seat_in rank others) fails) ∙ e in
      ap (λ b. if b then seated_here rank colour it else seated_split rank (colour + 1) others) fails ∙ split_none rank (colour + 1) others k
]

-- it has one
pub record IsSplit (rank colour : ℕ) (line : List Seated) (seat : Seat) : Type 0 where
  pub place : ℕ
  pub it : Seated
  pub at : slice_get line place ≡ Some it
  pub comm : seat.comm ≡ it.comm
  pub split : seated_split rank colour line ≡ Split 0 (Some (colour + place)) (pos seat.place) (Some seat.comm)

pub split_some : (rank colour : ℕ) (line : List Seated) (seat : Seat) → seat_in rank line ≡ Some seat → IsSplit rank colour line seat
split_some rank colour [] seat e = absurd (cc (e))
split_some rank colour (it ∷ others) seat e = elim (cases_Bool (has_rank rank it.group)) [
  | inl holds ↦
      let k : Some (seat_of rank it) ≡ Some seat = sym (seat_then (has_rank rank it.group) (seat_of rank it) (seat_in rank others) holds) ∙ e in
      let same : seat_of rank it ≡ seat = cc in
      let P : Seat → Type 0 = λ s. seated_split rank colour (it ∷ others) ≡ Split 0 (Some (colour + 0)) (pos s.place) (Some s.comm) in
      let first : seated_split rank colour (it ∷ others) ≡ Split 0 (Some (colour + 0)) (pos (seat_of rank it).place) (Some (seat_of rank it).comm) =
      ap (λ b. if b then seated_here rank colour it else seated_split rank (colour + 1) others) holds
      ∙ ap (λ n. Split 0 (Some n) (pos (position_or_len (λ member. member == rank) it.group)) (Some it.comm)) (sym (add-zero colour)) in
      record { place = 0; it = it; at = refl; comm = ap (λ (s : Seat). s.comm) (sym same); split = subst P same first }
  | inr fails ↦
      let k : seat_in rank others ≡ Some seat = sym (seat_if (has_rank rank it.group) rank (seat_of rank it) (seat_in rank others) fails) ∙ e in
      let rest = split_some rank (colour + 1) others seat k in
      let n : colour + 1 + rest.place ≡ colour + suc rest.place = omega arith in
      record {
        place = suc rest.place;
        it = rest.it;
        at = rest.at;
        comm = rest.comm;
        split = ap (λ b. if b then seated_here rank colour it else seated_split rank (colour + 1) others) fails
            ∙ rest.split ∙ ap (λ m. Split 0 (Some m) (pos seat.place) (Some seat.comm)) n;
      }
]

-- ---- Steps of the code ----

pub not_true : (b : Bool) → not b ≡ true → b ≡ false
not_true true e = absurd (false≢true e)
not_true false e = refl

pub not_false : (b : Bool) → not b ≡ false → b ≡ true
not_false true e = refl
not_false false e = absurd (false≢true (sym e))

-- there is room for the seats of a line
pub line_room : (place count ranks room : ℕ) → place < count → room ≡ count * ranks → place * ranks + ranks ≤ room
line_room place count ranks room h e =
    let m : (place + 1) * ranks ≤ count * ranks = mul-le-mul_right ranks (omega arith) in
    omega arith

-- and so for that of a rank
pub seat_room : (line cur ranks rank had room : ℕ) → cur ≡ ranks → had ≡ room → rank < ranks → line * ranks + ranks ≤ room → line * cur + rank < had
seat_room line cur ranks rank had room e f h k =
    let m : line * cur ≡ line * ranks = ap (λ n. line * n) e in
    omega arith

pub seats_step : (group : List ℕ) (cur new : List (Option Seat)) (begin comm place number member : ℕ) (all : List (Option Seat)) → slice_get group place ≡ Some member → number ≡ place → new ≡ with_seat cur (begin + member) (record { comm = comm; place = number }) → seats_with cur begin comm place (drop place group) ≡ all → seats_with new begin comm (place + 1) (drop (place + 1) group) ≡ all
seats_step group cur new begin comm place number member all e same put h =
    ap (λ xs. seats_with xs begin comm (place + 1) (drop (place + 1) group)) (put ∙ ap (λ n. with_seat cur (begin + member) (seat_with comm n)) same)
    ∙ sym (ap (λ xs. seats_with cur begin comm place xs) (drop_here group place member e)) ∙ h

-- all steps by which a communicator is put
pub put_done : (mid seated new : Preface) (place comm : ℕ) (group : List ℕ) (lines : List (List Seated))
    → place ≡ first_free group lines → IsPreface mid comm (with_line place lines) → AreRanks mid.ranks group
    → comm < vec_len mid.colours → comm < 65536
    → seated.ranks ≡ mid.ranks → seated.sizes.items ≡ mid.sizes.items → seated.colours.items ≡ mid.colours.items
    → (place * mid.ranks + mid.ranks ≤ vec_len mid.seats → seated.seats.items ≡ seats_with mid.seats.items (place * mid.ranks) comm 0 group)
    → new.ranks ≡ seated.ranks → new.seats.items ≡ seated.seats.items
    → ((size : ℕ) → slice_get seated.sizes.items place ≡ Some size → size < 65535 → comm < vec_len seated.colours → new.sizes.items ≡ set seated.sizes.items place (size + 1))
    → ((size : ℕ) → slice_get seated.sizes.items place ≡ Some size → comm < vec_len seated.colours → new.colours.items ≡ set seated.colours.items comm size)
    → IsPreface new (comm + 1) (put_seated (put_one comm group) lines)
put_done mid seated new place comm group lines at h ranks inside small s1 s2 s3 s4 n1 n2 n3 n4 =
    let longer = with_line place lines in
    let few : first_free group lines ≤ length lines = free_most group lines in
    let within : place < length longer = line_there place lines (omega arith) in
    let here = get_some longer place within in
    let line = here.0 in
    let P : ℕ → Type 0 = λ k. slice_get (with_line k lines) k ≡ Some line in
    let there : slice_get (with_line (first_free group lines) lines) (first_free group lines) ≡ Some line = subst P at here.1 in
    let roomy = line_room place (length longer) mid.ranks (vec_len mid.seats) within (mid.seats.ok.0 ∙ h.room) in
    let inner : comm < length mid.colours.items = omega (arith, mid.colours.ok.0) in
    let size : slice_get seated.sizes.items place ≡ Some (length line) = ap (λ xs. slice_get xs place) s2 ∙ h.sizes place line here.1 in
    let short : length line < comm = h.short place line here.1 in
    let known : comm < vec_len seated.colours = omega (arith, seated.colours.ok.0, ap (λ (xs : List ℕ). length xs) s3) in
    let put : IsPut mid new place comm group line = record {
      ranks = n1 ∙ s1;
      sizes = n3 (length line) size (omega arith) known ∙ ap (λ xs. set xs place (length line + 1)) s2;
      colours = n4 (length line) size known ∙ ap (λ xs. set xs comm (length line)) s3;
      seats = n2 ∙ s4 roomy;
      inside = inner;
      free = free_shares group lines line there;
    } in
    let done = preface_put mid new place comm group line longer h ranks here.1 put in
    let Q : List (List Seated) → Type 0 = λ xs. IsPreface new (comm + 1) xs in
    let same : set longer place (line ++ put_one comm group ∷ []) ≡ put_seated (put_one comm group) lines =
    ap (λ k. set (with_line k lines) k (line ++ put_one comm group ∷ [])) at ∙ sym (put_is (put_one comm group) lines line there) in
    subst Q same done
