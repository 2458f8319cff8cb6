-- What plain entries add to a list: the same calls, for some numbers of requests.
use Rattle.std.proofs.Common.{◌≡◌, ℕ, zero, suc, ◌≤◌, ◌==◌, ◌||◌, not, Bool, true, false, Some, if◌then◌else◌, List, [], ◌∷◌, ◌++◌, length, map, take, drop, refl, sym, ap, subst, ◌∙◌, arith, append-nil, inl, inr, eqb-true, eq-eqb}
use Rattle.std.specs.List.{list_all}
use Rattle.std.proofs.lemmas.Bool.{cases_Bool, and_parts, or_parts, false≢true}
use Rattle.std.proofs.lemmas.Option.{none-some, same_Some}
use Rattle.mpicall.specs.declared.limits.TheConstants.{MOST_REQUESTS}
use Rattle.mpicall.specs.declared.call.Call.{Call}
use Rattle.journals.specs.Known.{is_among, are_distinct}
use Rattle.closing.specs.Steps.{Id, Own, same_id, Does, Starts, WaitsForAll, Written, Progress, number_in, without, without_all, numbers_of, has_number, least_free, wait_for, waits_for, after_steps}
use Rattle.lawful.specs.Plain.{but}
use Rattle.lawful.proofs.RequestLemmas.{numbered, least_is_free}
use Rattle.lawful.proofs.StepLemmas.{calls_in, added_plain}
use Rattle.std.proofs.lemmas.List.{map-append}

-- ---- Requests with their numbers ----

-- these active requests have these numbers, no two the same
pub record Stands (old : ℕ → ℕ) (known used : List ℕ) (progress : Progress) : Type 0 where
  pub none_late : progress.late ≡ []
  pub found : (request : ℕ) → is_among request used ≡ true → number_in progress.active (Own request) ≡ Some (old request)
  pub apart : (one other : ℕ) → is_among one used ≡ true → is_among other used ≡ true → old one ≡ old other → one ≡ other
  pub are_known : (request : ℕ) → is_among request used ≡ true → is_among request known ≡ true

-- what an entry adds: calls by any numbers that go on from these, and the state after it
pub record Adds (old : ℕ → ℕ) (known used : List ℕ) (progress new : Progress) (calls : (ℕ → ℕ) → List Call) (started waited : List ℕ) : Type 0 where
  pub next : ℕ → ℕ
  pub goes_on : (request : ℕ) → is_among request known ≡ true → next request ≡ old request
  pub stands : Stands next (started ++ known) (started ++ but waited used) new
  pub are : (number : ℕ → ℕ) → ((request : ℕ) → is_among request (started ++ known) ≡ true → number request ≡ next request) → calls_in new ≡ calls_in progress ++ calls number

in_but : (others requests : List ℕ) (request : ℕ) → is_among request (but others requests) ≡ true → (is_among request requests ≡ true) × (is_among request others ≡ false)
in_but others [] request has = absurd (false≢true has)
in_but others (first ∷ requests) request has =
    elim (cases_Bool (is_among first others)) [
      | inl out ↦ let rest = in_but others requests request (rw out at has) in (or_right (first == request) rest.0, rest.1)
      | inr stays ↦ elim (cases_Bool (first == request)) [
        | inl here ↦ (rw here refl, subst (λ (n : ℕ). is_among n others ≡ false) (eqb-true first request here) stays)
        | inr there ↦ let rest = in_but others requests request (rw (stays, there) at has) in (or_right (first == request) rest.0, rest.1)
      ]
    ]
  where
    or_right : (b : Bool) → is_among request requests ≡ true → (b || is_among request requests) ≡ true
    or_right true h = refl
    or_right false h = h

-- fewer active requests
stands_fewer : (old : ℕ → ℕ) (known used waited : List ℕ) (progress new : Progress) → new.active ≡ progress.active → new.late ≡ progress.late → Stands old known used progress → Stands old known (but waited used) new
stands_fewer old known used waited progress new same same_late stands = record {
  none_late = same_late ∙ stands.none_late;
  found = λ request has. ap (λ (active : List (Id × ℕ)). number_in active (Own request)) same ∙ stands.found request (in_but waited used request has).0;
  apart = λ one other first second. stands.apart one other (in_but waited used one first).0 (in_but waited used other second).0;
  are_known = λ request has. stands.are_known request (in_but waited used request has).0;
}

-- ---- A call that starts and waits for nothing ----

pub does_adds : (old : ℕ → ℕ) (known used : List ℕ) (progress : Progress) (line : ℕ) (call : Call) → Stands old known used progress → Adds old known used progress (after_steps progress line (Does call ∷ [])) (λ number. call ∷ []) [] []
does_adds old known used progress line call stands = record {
  next = old;
  goes_on = λ request has. refl;
  stands = stands_fewer old known used [] progress (after_steps progress line (Does call ∷ [])) refl refl stands;
  are = λ number agrees. added_plain progress line (call ∷ []);
}

-- ---- A call that starts a request ----

abbrev put : ℕ → ℕ → (ℕ → ℕ) → ℕ → ℕ
put request number old other = if request == other then number else old other

put_same : (request number : ℕ) (old : ℕ → ℕ) → put request number old request ≡ number
put_same request number old = rw (eq-eqb request request refl) refl

put_other : (request number : ℕ) (old : ℕ → ℕ) (other : ℕ) → (request == other) ≡ false → put request number old other ≡ old other
put_other request number old other apart = rw apart refl

known_apart : (known : List ℕ) (request other : ℕ) → is_among request known ≡ false → is_among other known ≡ true → (request == other) ≡ false
known_apart known request other new has =
    elim (cases_Bool (request == other)) [
      | inl same ↦ absurd (false≢true (sym new ∙ subst (λ (n : ℕ). is_among n known ≡ true) (sym (eqb-true request other same)) has))
      | inr apart ↦ apart
    ]

-- a free number isn't that of an active request
free_apart : (progress : Progress) (request number : ℕ) → number_in progress.active (Own request) ≡ Some number → number ≡ least_free progress.active → ⊥
free_apart progress request number found same =
    false≢true (sym (least_is_free progress.active) ∙ subst (λ (n : ℕ). has_number progress.active n ≡ true) same (numbered progress.active (Own request) number found))

pub starts_adds : (old : ℕ → ℕ) (known used : List ℕ) (progress : Progress) (line request : ℕ) (start : ℕ → Call) → is_among request known ≡ false → Stands old known used progress → Adds old known used progress (after_steps progress line (Starts (Own request) start ∷ [])) (λ number. start (number request) ∷ []) (request ∷ []) []
starts_adds old known used progress line request start new stands =
    let free = least_free progress.active in
    let next = put request free old in
    let used_known : (other : ℕ) → is_among other (but [] used) ≡ true → is_among other known ≡ true = λ other has. stands.are_known other (in_but [] used other has).0 in
    let apart_from : (other : ℕ) → is_among other (but [] used) ≡ true → (request == other) ≡ false = λ other has. known_apart known request other new (used_known other has) in
    record {
      next = next;
      goes_on = λ other has. put_other request free old other (known_apart known request other new has);
      stands = record {
        none_late = stands.none_late;
        found = λ other has. found other (request == other) refl has;
        apart = λ one other first second same. apart one other (request == one) refl (request == other) refl first second same;
        are_known = λ other has. are_known other (request == other) refl has;
      };
      are = λ number agrees.
          let is_free : number request ≡ free = agrees request (rw (eq-eqb request request refl) refl) ∙ put_same request free old in
          map-append (λ (one : Written). one.call) progress.records (record { call = start free; line = line; starts = Some (Own request) } ∷ [])
          ∙ ap (λ (n : ℕ). calls_in progress ++ start n ∷ []) (sym is_free);
    }
  where
    free_now : ℕ
    free_now = least_free progress.active

    has_rest : (other : ℕ) → (request == other) ≡ false → is_among other (request ∷ but [] used) ≡ true → is_among other (but [] used) ≡ true
    has_rest other is has = rw is at has

    found : (other : ℕ) (b : Bool) → (request == other) ≡ b → is_among other (request ∷ but [] used) ≡ true → number_in ((Own request, free_now) ∷ progress.active) (Own other) ≡ Some (put request free_now old other)
    found other true is has = rw is refl
    found other false is has = rw is (stands.found other (in_but [] used other (has_rest other is has)).0)

    old_of : (other : ℕ) → (request == other) ≡ false → is_among other (request ∷ but [] used) ≡ true → number_in progress.active (Own other) ≡ Some (old other)
    old_of other is has = stands.found other (in_but [] used other (has_rest other is has)).0

    apart : (one other : ℕ) (b : Bool) → (request == one) ≡ b → (c : Bool) → (request == other) ≡ c → is_among one (request ∷ but [] used) ≡ true → is_among other (request ∷ but [] used) ≡ true → put request free_now old one ≡ put request free_now old other → one ≡ other
    apart one other true is true also first second same = sym (eqb-true request one is) ∙ eqb-true request other also
    apart one other true is false also first second same =
        let theirs : free_now ≡ old other = rw (is, also) at same in
        absurd (free_apart progress other (old other) (old_of other also second) (sym theirs))
    apart one other false is true also first second same =
        let theirs : old one ≡ free_now = rw (is, also) at same in
        absurd (free_apart progress one (old one) (old_of one is first) theirs)
    apart one other false is false also first second same =
        let theirs : old one ≡ old other = rw (is, also) at same in
        stands.apart one other (in_but [] used one (has_rest one is first)).0 (in_but [] used other (has_rest other also second)).0 theirs

    are_known : (other : ℕ) (b : Bool) → (request == other) ≡ b → is_among other (request ∷ but [] used) ≡ true → is_among other (request ∷ known) ≡ true
    are_known other true is has = rw is refl
    are_known other false is has = rw is (stands.are_known other (in_but [] used other (has_rest other is has)).0)

-- ---- A wait ----

number_stays : (active : List (Id × ℕ)) (id : Id) (number out : ℕ) → number_in active id ≡ Some number → (number == out) ≡ false → number_in (without out active) id ≡ Some number
number_stays [] id number out found apart = absurd (none-some number found)
number_stays (one ∷ others) id number out found apart =
    elim (cases_Bool (same_id one.0 id)) [
      | inl here ↦ let same : one.1 ≡ number = same_Some one.1 number (rw here at found) in
          rw (same, apart, here) refl
      | inr there ↦ let rest = number_stays others id number out (rw there at found) apart in
          elim (cases_Bool (one.1 == out)) [
            | inl goes ↦ rw goes rest
            | inr stays ↦ rw (stays, there) rest
          ]
    ]

numbers_stay : (numbers : List ℕ) (active : List (Id × ℕ)) (id : Id) (number : ℕ) → number_in active id ≡ Some number → is_among number numbers ≡ false → number_in (without_all numbers active) id ≡ Some number
numbers_stay [] active id number found out = found
numbers_stay (one ∷ numbers) active id number found out =
    let parts = or_parts (one == number) (is_among number numbers) out in
    numbers_stay numbers (without one active) id number (number_stays active id number one found (other_way one number parts.0)) parts.1
  where
    other_way : (a b : ℕ) → (a == b) ≡ false → (b == a) ≡ false
    other_way a b apart =
        elim (cases_Bool (b == a)) [
          | inl same ↦ absurd (false≢true (sym apart ∙ eq-eqb a b (sym (eqb-true b a same))))
          | inr is ↦ is
        ]

-- the numbers of some active requests, each once
abbrev Found : (ℕ → ℕ) → List (Id × ℕ) → List ℕ → Type 0
Found old active requests = (request : ℕ) → is_among request requests ≡ true → number_in active (Own request) ≡ Some (old request)

abbrev Apart : (ℕ → ℕ) → List ℕ → Type 0
Apart old requests = (one other : ℕ) → is_among one requests ≡ true → is_among other requests ≡ true → old one ≡ old other → one ≡ other

or_true : (b : Bool) → (b || true) ≡ true
or_true true = refl
or_true false = refl

among_first : (request : ℕ) (requests : List ℕ) → is_among request (request ∷ requests) ≡ true
among_first request requests = rw (eq-eqb request request refl) refl

among_rest : (first request : ℕ) (requests : List ℕ) → is_among request requests ≡ true → is_among request (first ∷ requests) ≡ true
among_rest first request requests has = ap (λ (b : Bool). (first == request) || b) has ∙ or_true (first == request)

not_true : (b : Bool) → not b ≡ true → b ≡ false
not_true true h = absurd (false≢true h)
not_true false h = refl

-- another of them has another number
other_number : (old : ℕ → ℕ) (first other : ℕ) (requests : List ℕ) → Apart old (first ∷ requests) → is_among first requests ≡ false → is_among other requests ≡ true → (old other == old first) ≡ false
other_number old first other requests apart new has =
    elim (cases_Bool (old other == old first)) [
      | inl same ↦ let is = apart other first (among_rest first other requests has) (among_first first requests) (eqb-true (old other) (old first) same) in
          absurd (false≢true (sym new ∙ subst (λ (n : ℕ). is_among n requests ≡ true) is has))
      | inr differs ↦ differs
    ]

pub numbers_are : (old : ℕ → ℕ) (requests : List ℕ) (active : List (Id × ℕ)) → Found old active requests → Apart old requests → are_distinct requests ≡ true → numbers_of active (map Own requests) ≡ map old requests
numbers_are old [] active found apart distinct = refl
numbers_are old (first ∷ requests) active found apart distinct =
    let parts = and_parts (not (is_among first requests)) (are_distinct requests) distinct in
    let new = not_true (is_among first requests) parts.0 in
    let rest = numbers_are old requests (without (old first) active)
    (λ other has. number_stays active (Own other) (old other) (old first) (found other (among_rest first other requests has)) (other_number old first other requests apart new has))
    (λ one other a b. apart one other (among_rest first one requests a) (among_rest first other requests b)) parts.1 in
    rw (found first (among_first first requests)) (ap (λ (numbers : List ℕ). old first ∷ numbers) rest)

take_all : {A : Type 0} (n : ℕ) (xs : List A) → length xs ≤ n → take n xs ≡ xs
take_all zero [] few = refl
take_all zero (x ∷ xs) few = absurd (omega (arith, few))
take_all (suc n) [] few = refl
take_all (suc n) (x ∷ xs) few = ap (λ ys. x ∷ ys) (take_all n xs (omega (arith, few)))

drop_all : {A : Type 0} (n : ℕ) (xs : List A) → length xs ≤ n → drop n xs ≡ []
drop_all zero [] few = refl
drop_all zero (x ∷ xs) few = absurd (omega (arith, few))
drop_all (suc n) [] few = refl
drop_all (suc n) (x ∷ xs) few = drop_all n xs (omega (arith, few))

waits_none : (most : ℕ) → waits_for most [] ≡ []
waits_none zero = refl
waits_none (suc most) = ap (λ (numbers : List ℕ). wait_for (take MOST_REQUESTS []) ++ waits_for most numbers) (drop_all MOST_REQUESTS [] (omega arith)) ∙ ap (λ (numbers : List ℕ). wait_for numbers ++ waits_for most []) (take_all MOST_REQUESTS [] (omega arith)) ∙ waits_none most

waits_few : (most : ℕ) (numbers : List ℕ) → length numbers ≤ MOST_REQUESTS → length numbers ≤ most → waits_for most numbers ≡ wait_for numbers
waits_few zero [] few some = refl
waits_few zero (one ∷ numbers) few some = absurd (omega (arith, some))
waits_few (suc most) numbers few some =
    ap (λ (first : List ℕ). wait_for first ++ waits_for most (drop MOST_REQUESTS numbers)) (take_all MOST_REQUESTS numbers few)
    ∙ ap (λ (rest : List ℕ). wait_for numbers ++ waits_for most rest) (drop_all MOST_REQUESTS numbers few)
    ∙ ap (λ (rest : List Call). wait_for numbers ++ rest) (waits_none most)
    ∙ append-nil (wait_for numbers)

map_same : (f g : ℕ → ℕ) (requests : List ℕ) → ((request : ℕ) → is_among request requests ≡ true → f request ≡ g request) → map f requests ≡ map g requests
map_same f g [] same = refl
map_same f g (first ∷ requests) same =
    rw (same first (among_first first requests), map_same f g requests (λ request has. same request (among_rest first request requests has))) refl

all_among : (requests used : List ℕ) (request : ℕ) → list_all (λ (one : ℕ). is_among one used) requests ≡ true → is_among request requests ≡ true → is_among request used ≡ true
all_among [] used request all has = absurd (false≢true has)
all_among (first ∷ requests) used request all has =
    let parts = and_parts (is_among first used) (list_all (λ (one : ℕ). is_among one used) requests) all in
    elim (cases_Bool (first == request)) [
      | inl here ↦ subst (λ (n : ℕ). is_among n used ≡ true) (eqb-true first request here) parts.0
      | inr there ↦ all_among requests used request parts.1 (rw there at has)
    ]

-- a number among those of some is that of one of them
numbers_out : (old : ℕ → ℕ) (requests : List ℕ) (request : ℕ) → ((other : ℕ) → is_among other requests ≡ true → (old other == old request) ≡ false) → is_among (old request) (map old requests) ≡ false
numbers_out old [] request apart = refl
numbers_out old (first ∷ requests) request apart =
    rw (apart first (among_first first requests), numbers_out old requests request (λ other has. apart other (among_rest first other requests has))) refl

length_same : (old : ℕ → ℕ) (requests : List ℕ) → length (map old requests) ≡ length requests
length_same old [] = refl
length_same old (first ∷ requests) = ap suc (length_same old requests)

le_is : (a b c : ℕ) → a ≡ b → b ≤ c → a ≤ c
le_is a b c same few = omega (arith, same, few)

pub waits_adds : (old : ℕ → ℕ) (known used : List ℕ) (progress : Progress) (line : ℕ) (requests : List ℕ) → list_all (λ (one : ℕ). is_among one used) requests ≡ true → are_distinct requests ≡ true → length requests ≤ MOST_REQUESTS → Stands old known used progress → Adds old known used progress (after_steps progress line (WaitsForAll (map Own requests) ∷ [])) (λ number. wait_for (map number requests)) [] requests
waits_adds old known used progress line requests all distinct few stands =
    let apart : Apart old requests = λ one other a b. stands.apart one other (all_among requests used one all a) (all_among requests used other all b) in
    let numbers = numbers_are old requests progress.active (λ request has. stands.found request (all_among requests used request all has)) apart distinct in
    let short = le_is (length (map old requests)) (length requests) MOST_REQUESTS (length_same old requests) few in
    record {
      next = old;
      goes_on = λ request has. refl;
      stands = record {
        none_late = stands.none_late;
        found = λ request has.
            let parts = in_but requests used request has in
            subst (λ (ns : List ℕ). number_in (without_all ns progress.active) (Own request) ≡ Some (old request)) (sym numbers)
            (numbers_stay (map old requests) progress.active (Own request) (old request) (stands.found request parts.0)
            (numbers_out old requests request (λ other among. differs request other parts.0 parts.1 among)));
        apart = λ one other first second. stands.apart one other (in_but requests used one first).0 (in_but requests used other second).0;
        are_known = λ request has. stands.are_known request (in_but requests used request has).0;
      };
      are = λ number agrees.
          let same : map number requests ≡ map old requests = map_same number old requests (λ request has. agrees request (stands.are_known request (all_among requests used request all has))) in
          added_plain progress line (waits_for (length (numbers_of progress.active (map Own requests))) (numbers_of progress.active (map Own requests)))
          ∙ ap (λ (ns : List ℕ). calls_in progress ++ waits_for (length ns) ns) numbers
          ∙ ap (λ (calls : List Call). calls_in progress ++ calls) (waits_few (length (map old requests)) (map old requests) short (omega arith))
          ∙ ap (λ (ns : List ℕ). calls_in progress ++ wait_for ns) (sym same);
    }
  where
    differs : (request other : ℕ) → is_among request used ≡ true → is_among request requests ≡ false → is_among other requests ≡ true → (old other == old request) ≡ false
    differs request other is_used is_out among =
        elim (cases_Bool (old other == old request)) [
          | inl same ↦ let is = stands.apart other request (all_among requests used other all among) is_used (eqb-true (old other) (old request) same) in
              absurd (false≢true (sym is_out ∙ subst (λ (n : ℕ). is_among n requests ≡ true) is among))
          | inr apart ↦ apart
        ]
