-- The waits for several requests, as the list of a rank gets them.
use Rattle.std.proofs.Common.{◌≡◌, ◌∙◌, ◌<◌, ◌≤◌, ◌+◌, ◌-◌, ◌*◌, ℕ, zero, suc, true, not, refl, sym, ap, subst, arith, List, [], ◌∷◌, ◌++◌, length, map, take, drop, get_or, append_assoc, length-append, length-drop, option_map, Result, Err, eqb, leb, ltb}
use Rattle.std.specs.Prelude.{IsTrue}
use Rattle.std.specs.List.{list_all}
use Rattle.closing.specs.inner.Started.{active_at}
use Rattle.std.specs.BinaryHeap.{heap_items}
use Rattle.std.proofs.lemmas.Bool.{ltb-true, le-leb, and_from, and_parts}
use Rattle.std.proofs.lemmas.List.{append-nil, drop-drop, take-append-le, take_all, take_more, drop_more}
use Rattle.mpicall.specs.declared.call.Call.{Call}
use Rattle.mpicall.specs.declared.call.Call.TheVariants.{Wait, Waitall}
use Rattle.mpicall.specs.declared.limits.TheConstants.{GREATEST_REQUEST, MOST_REQUESTS}
use Rattle.mpicall.specs.Argument.{request_argument, is_in_range}
use Rattle.mpicall.specs.Limits.{in_ranges, few_enough}
use Rattle.closing.specs.Steps.{Id, Own, wait_for, waits_for, number_in, has_number, without, without_all, numbers_of}
use Rattle.closing.specs.inner.Free.{Requests, AreNumbered, kept_count, is_in_use}
use Rattle.closing.specs.inner.Lists.{Puts, Cuts, Adds, FreesOnly, Owns, KeepsLines, TakesOne, TakesNumbers, AreSmall, AreHeld, found_number}
use Rattle.closing.specs.declared.list.List.{List as ListCode}
use Rattle.closing.specs.declared.list.Active.{Active}
use Rattle.closing.specs.declared.list.TheConstants.{MOST_RECORDS}
use Rattle.closing.specs.declared.stop.Stop.{Stop}
use Rattle.closing.specs.declared.stop.Stop.TheVariants.{Left, Memory}
use Rattle.closing.specs.declared.why.Why.TheVariants.{NeverCameBack, NeverReported, Failed, NoNumber, TooLong, CannotBe, Stopped, Aborted, Full, Cut, NoJournal, NotJudged}
use Rattle.closing.proofs.FreedLemmas.{has_without}
use Rattle.closing.proofs.ListLemmas.{take_past}
use Rattle.closing.proofs.RequestLemmas.{found_first, without_append}

-- ---- One wait ----

pub one_wait : (xs : List ℕ) → length xs ≡ 1 → Wait (get_or xs 0 0) ∷ [] ≡ wait_for xs
one_wait [] one = absurd (omega arith)
one_wait (x ∷ []) one = refl
one_wait (x ∷ y ∷ xs) one = absurd (omega arith)

pub several_wait : (xs reqs : List ℕ) → (length xs ≡ 1 → ⊥) → 1 ≤ length xs → reqs ≡ xs → Waitall reqs ∷ [] ≡ wait_for xs
several_wait [] reqs apart some e = absurd (omega arith)
several_wait (x ∷ []) reqs apart some e = absurd (apart refl)
several_wait (x ∷ y ∷ xs) reqs apart some e = ap (λ it. Waitall it ∷ []) e

pub none_wait : (xs : List ℕ) → length xs ≡ 0 → [] ≡ wait_for xs
none_wait [] none = refl
none_wait (x ∷ xs) none = absurd (omega arith)

pub small_arguments : (xs : List ℕ) → AreSmall xs → list_all is_in_range (map request_argument xs) ≡ true
small_arguments [] small = refl
small_arguments (x ∷ xs) small =
    and_from (leb x GREATEST_REQUEST) (list_all is_in_range (map request_argument xs)) (le-leb x GREATEST_REQUEST small.0) (small_arguments xs small.1)

wait_in_range : (xs : List ℕ) (call : Call) → AreSmall xs → length xs ≤ MOST_REQUESTS → call ∷ [] ≡ wait_for xs → IsTrue (in_ranges call)
wait_in_range [] call small few e = cc
wait_in_range (x ∷ []) call small few e =
    let is : call ≡ Wait x = cc in
    subst (λ it. IsTrue (in_ranges it)) (sym is)
    (and_from (list_all is_in_range (request_argument x ∷ [])) true (small_arguments (x ∷ []) small) refl)
wait_in_range (x ∷ y ∷ xs) call small few e =
    let is : call ≡ Waitall (x ∷ y ∷ xs) = cc in
    let some : 1 ≤ length (x ∷ y ∷ xs) = omega arith in
    subst (λ it. IsTrue (in_ranges it)) (sym is)
    (and_from (list_all is_in_range (map request_argument (x ∷ y ∷ xs))) (few_enough (x ∷ y ∷ xs)) (small_arguments (x ∷ y ∷ xs) small)
    (and_from (leb 1 (length (x ∷ y ∷ xs))) (leb (length (x ∷ y ∷ xs)) MOST_REQUESTS) (le-leb 1 (length (x ∷ y ∷ xs)) some) (le-leb (length (x ∷ y ∷ xs)) MOST_REQUESTS few)))

small_drop : (n : ℕ) (xs : List ℕ) → AreSmall xs → AreSmall (drop n xs)
small_drop zero xs small = small
small_drop (suc n) [] small = tt
small_drop (suc n) (x ∷ xs) small = small_drop n xs small.1

pub small_take : (n : ℕ) (xs : List ℕ) → AreSmall xs → AreSmall (take n xs)
small_take zero xs small = tt
small_take (suc n) [] small = tt
small_take (suc n) (x ∷ xs) small = (small.0, small_take n xs small.1)

pub group_rest : (xs : List ℕ) (start most : ℕ) → length xs - start ≤ most → take (length xs - start) (drop start xs) ≡ take most (drop start xs)
group_rest xs start most few =
    take_all (length xs - start) (drop start xs) (omega (arith, length-drop start xs))
    ∙ sym (take_all most (drop start xs) (omega (arith, length-drop start xs)))

pub take_few : (n : ℕ) (xs : List ℕ) → length (take n xs) ≤ n
take_few zero xs = omega arith
take_few (suc n) [] = omega arith
take_few (suc n) (x ∷ xs) = omega (arith, take_few n xs)

-- ---- What the list gets ----

pub puts_none : (it : ListCode) → Puts it it []
puts_none it = record {
  records = sym (append-nil it.records);
  count = omega arith;
  active = refl;
  free = refl;
  given = refl;
  numbers = refl;
  freed = refl;
}

puts_more : (old mid new : ListCode) (xs ys : List Call) → Puts old mid xs → Puts mid new ys → Puts old new (xs ++ ys)
puts_more old mid new xs ys first more = record {
  records = more.records ∙ ap (λ it. it ++ ys) first.records ∙ append_assoc old.records xs ys;
  count = omega (arith, more.count, first.count, length-append xs ys);
  active = more.active ∙ first.active;
  free = more.free ∙ first.free;
  given = more.given ∙ first.given;
  numbers = more.numbers ∙ first.numbers;
  freed = more.freed ∙ first.freed;
}

cuts_more : (old mid new : ListCode) (xs ys zs : List Call) → Puts old mid xs → mid.count < MOST_RECORDS → Cuts mid new ys → Cuts old new ((xs ++ ys) ++ zs)
cuts_more old mid new xs ys zs first room cuts =
    let most : ℕ = MOST_RECORDS - 1 - old.count in
    let left : MOST_RECORDS - 1 - mid.count ≡ MOST_RECORDS - 1 - old.count - length xs = omega (arith, first.count) in
    let within : MOST_RECORDS - 1 - old.count - length xs ≤ length ys = omega (arith, first.count, cuts.long) in
    record {
      long = omega (arith, cuts.long, first.count, length-append (xs ++ ys) zs, length-append xs ys);
      records =
          cuts.records
          ∙ ap (λ it. it ++ take (MOST_RECORDS - 1 - mid.count) ys) first.records
          ∙ append_assoc old.records xs (take (MOST_RECORDS - 1 - mid.count) ys)
          ∙ ap (λ n. old.records ++ (xs ++ take n ys)) left
          ∙ ap (λ it. old.records ++ (xs ++ it)) (sym (take-append-le (MOST_RECORDS - 1 - old.count - length xs) ys zs within))
          ∙ ap (λ it. old.records ++ it) (sym (take_past (MOST_RECORDS - 1 - old.count) xs (ys ++ zs) (omega (arith, first.count, room))))
          ∙ ap (λ it. old.records ++ take (MOST_RECORDS - 1 - old.count) it) (sym (append_assoc xs ys zs));
      freed = cuts.freed ∙ first.freed;
    }

stop_adds : (A B : Type 0) (stop : Stop) (mid old new : ListCode) (ys zs : List Call) → (Cuts mid new ys → Cuts old new zs) → Adds {A = A} (Err stop) mid new ys → Adds {A = B} (Err stop) old new zs
stop_adds A B Memory mid old new ys zs cut adds = tt
stop_adds A B (Left TooLong) mid old new ys zs cut adds = cut adds
stop_adds A B (Left NeverCameBack) mid old new ys zs cut adds = absurd adds
stop_adds A B (Left NeverReported) mid old new ys zs cut adds = absurd adds
stop_adds A B (Left Failed) mid old new ys zs cut adds = absurd adds
stop_adds A B (Left NoNumber) mid old new ys zs cut adds = absurd adds
stop_adds A B (Left CannotBe) mid old new ys zs cut adds = absurd adds
stop_adds A B (Left Stopped) mid old new ys zs cut adds = absurd adds
stop_adds A B (Left Aborted) mid old new ys zs cut adds = absurd adds
stop_adds A B (Left Full) mid old new ys zs cut adds = absurd adds
stop_adds A B (Left Cut) mid old new ys zs cut adds = absurd adds
stop_adds A B (Left NotJudged) mid old new ys zs cut adds = absurd adds
stop_adds A B (Left NoJournal) mid old new ys zs cut adds = absurd adds

pub wait_adds : (A : Type 0) (result : Result A Stop) (old new : ListCode) (call : Call) (at : ℕ) → AreSmall old.numbers.items → old.count < MOST_RECORDS
    → call ∷ [] ≡ wait_for (take MOST_REQUESTS (drop at old.numbers.items))
    → (IsTrue (in_ranges call) → old.count < MOST_RECORDS → Adds result old new (call ∷ []))
    → Adds result old new (wait_for (take MOST_REQUESTS (drop at old.numbers.items)))
wait_adds A result old new call at small room is adds =
    subst (λ calls. Adds result old new calls) is
    (adds (wait_in_range (take MOST_REQUESTS (drop at old.numbers.items)) call
    (small_take MOST_REQUESTS (drop at old.numbers.items) (small_drop at old.numbers.items small))
    (take_few MOST_REQUESTS (drop at old.numbers.items)) is) room)

pub no_wait : (old : ListCode) (at : ℕ) → [] ≡ wait_for (take MOST_REQUESTS (drop at old.numbers.items)) → Puts old old (wait_for (take MOST_REQUESTS (drop at old.numbers.items)))
no_wait old at is = subst (λ calls. Puts old old calls) is (puts_none old)

-- ---- Several waits ----

waits_add : (turn more : ℕ) (xs : List ℕ) → waits_for (turn + more) xs ≡ waits_for turn xs ++ waits_for more (drop (turn * MOST_REQUESTS) xs)
waits_add zero more xs =
    let e : zero + more ≡ more = omega arith in
    let none : zero * MOST_REQUESTS ≡ zero = omega arith in
    ap (λ n. waits_for n xs) e ∙ sym (ap (λ n. waits_for more (drop n xs)) none)
waits_add (suc turn) more xs =
    let e : suc turn + more ≡ suc (turn + more) = omega arith in
    let past : MOST_REQUESTS + turn * MOST_REQUESTS ≡ suc turn * MOST_REQUESTS = omega arith in
    let first : List Call = wait_for (take MOST_REQUESTS xs) in
    ap (λ n. waits_for n xs) e
    ∙ ap (λ others. wait_for (take MOST_REQUESTS xs) ++ others) (waits_add turn more (drop MOST_REQUESTS xs))
    ∙ sym (append_assoc (wait_for (take MOST_REQUESTS xs)) (waits_for turn (drop MOST_REQUESTS xs)) (waits_for more (drop (turn * MOST_REQUESTS) (drop MOST_REQUESTS xs))))
    ∙ ap (λ rest. (wait_for (take MOST_REQUESTS xs) ++ waits_for turn (drop MOST_REQUESTS xs)) ++ waits_for more rest)
    (drop-drop (turn * MOST_REQUESTS) MOST_REQUESTS xs ∙ ap (λ n. drop n xs) past)

waits_next : (turn : ℕ) (xs : List ℕ) → waits_for (turn + 1) xs ≡ waits_for turn xs ++ wait_for (take MOST_REQUESTS (drop (turn * MOST_REQUESTS) xs))
waits_next turn xs =
    waits_add turn 1 xs ∙ ap (λ others. waits_for turn xs ++ others) (append-nil (wait_for (take MOST_REQUESTS (drop (turn * MOST_REQUESTS) xs))))

waits_none : (turn : ℕ) (xs : List ℕ) → length xs ≡ 0 → waits_for turn xs ≡ []
waits_none zero xs none = refl
waits_none (suc turn) [] none = waits_none turn [] refl
waits_none (suc turn) (x ∷ xs) none = absurd (omega arith)

waits_same : (turns others : ℕ) (xs : List ℕ) → length xs ≤ turns * MOST_REQUESTS → length xs ≤ others * MOST_REQUESTS → waits_for turns xs ≡ waits_for others xs
waits_same zero others xs few enough = sym (waits_none others xs (omega arith))
waits_same (suc turns) zero xs few enough = waits_none (suc turns) xs (omega arith)
waits_same (suc turns) (suc others) xs few enough =
    ap (λ rest. wait_for (take MOST_REQUESTS xs) ++ rest)
    (waits_same turns others (drop MOST_REQUESTS xs) (omega (arith, length-drop MOST_REQUESTS xs)) (omega (arith, length-drop MOST_REQUESTS xs)))

waits_all : (turns : ℕ) (xs : List ℕ) → length xs ≤ turns * MOST_REQUESTS → waits_for turns xs ≡ waits_for (length xs) xs
waits_all turns xs enough = waits_same turns (length xs) xs enough (omega arith)

pub turn_puts : (turn : ℕ) (old mid new : ListCode) → Puts old mid (waits_for turn old.numbers.items) → Puts mid new (wait_for (take MOST_REQUESTS (drop (turn * MOST_REQUESTS) mid.numbers.items))) → Puts old new (waits_for (turn + 1) old.numbers.items)
turn_puts turn old mid new first more =
    let same : mid.numbers.items ≡ old.numbers.items = ap (λ numbers. numbers.items) first.numbers in
    subst (λ calls. Puts old new calls) (sym (waits_next turn old.numbers.items))
    (puts_more old mid new (waits_for turn old.numbers.items) (wait_for (take MOST_REQUESTS (drop (turn * MOST_REQUESTS) old.numbers.items))) first
    (subst (λ xs. Puts mid new (wait_for (take MOST_REQUESTS (drop (turn * MOST_REQUESTS) xs)))) same more))

pub turn_stops : (A B : Type 0) (stop : Stop) (turn turns : ℕ) (old mid new : ListCode) → turn < turns → length old.numbers.items ≤ turns * MOST_REQUESTS
    → Puts old mid (waits_for turn old.numbers.items) → mid.count < MOST_RECORDS
    → Adds {A = A} (Err stop) mid new (wait_for (take MOST_REQUESTS (drop (turn * MOST_REQUESTS) mid.numbers.items)))
    → Adds {A = B} (Err stop) old new (waits_for (length old.numbers.items) old.numbers.items)
turn_stops A B stop turn turns old mid new before enough first room adds =
    let same : mid.numbers.items ≡ old.numbers.items = ap (λ numbers. numbers.items) first.numbers in
    let split : turn + 1 + (turns - (turn + 1)) ≡ turns = omega arith in
    let now : List Call = wait_for (take MOST_REQUESTS (drop (turn * MOST_REQUESTS) old.numbers.items)) in
    let whole : (waits_for turn old.numbers.items ++ wait_for (take MOST_REQUESTS (drop (turn * MOST_REQUESTS) old.numbers.items))) ++ waits_for (turns - (turn + 1)) (drop ((turn + 1) * MOST_REQUESTS) old.numbers.items) ≡ waits_for (length old.numbers.items) old.numbers.items =
    ap (λ it. it ++ waits_for (turns - (turn + 1)) (drop ((turn + 1) * MOST_REQUESTS) old.numbers.items)) (sym (waits_next turn old.numbers.items))
    ∙ sym (waits_add (turn + 1) (turns - (turn + 1)) old.numbers.items)
    ∙ ap (λ n. waits_for n old.numbers.items) split
    ∙ waits_all turns old.numbers.items enough in
    stop_adds A B stop mid old new (wait_for (take MOST_REQUESTS (drop (turn * MOST_REQUESTS) mid.numbers.items))) (waits_for (length old.numbers.items) old.numbers.items)
    (λ cuts. subst (λ calls. Cuts old new calls) whole
    (cuts_more old mid new (waits_for turn old.numbers.items) (wait_for (take MOST_REQUESTS (drop (turn * MOST_REQUESTS) old.numbers.items)))
    (waits_for (turns - (turn + 1)) (drop ((turn + 1) * MOST_REQUESTS) old.numbers.items)) first room
    (subst (λ xs. Cuts mid new (wait_for (take MOST_REQUESTS (drop (turn * MOST_REQUESTS) xs)))) same cuts)))
    adds

pub all_turns : (turns : ℕ) (old new : ListCode) → length old.numbers.items ≤ turns * MOST_REQUESTS → Puts old new (waits_for turns old.numbers.items) → Puts old new (waits_for (length old.numbers.items) old.numbers.items)
all_turns turns old new enough puts = subst (λ calls. Puts old new calls) (waits_all turns old.numbers.items enough) puts

-- ---- Numbers that are taken, and free again ----

pub record TakesSoFar (active : Requests) (ids rest : List Id) (it : ListCode) : Type 0 where
  pub numbers : it.numbers.items ++ numbers_of (without_all it.numbers.items active) rest ≡ numbers_of active ids
  pub own : Owns (without_all it.numbers.items active) it

pub takes_more : (active : Requests) (ids : List Id) (id : ℕ) (rest : List Id) (old new : ListCode) → TakesSoFar active ids (Own id ∷ rest) old → TakesOne (without_all old.numbers.items active) id old new → TakesSoFar active ids rest new
takes_more active ids id rest old new so_far one =
    let left : Requests = without_all old.numbers.items active in
    let now : without_all new.numbers.items active ≡ without_all (found_number (number_in (without_all old.numbers.items active) (Own id))) (without_all old.numbers.items active) =
    ap (λ numbers. without_all numbers active) one.numbers ∙ without_append old.numbers.items (found_number (number_in (without_all old.numbers.items active) (Own id))) active in
    record {
      numbers =
          ap (λ numbers. numbers ++ numbers_of (without_all numbers active) rest) one.numbers
          ∙ sym (found_first old.numbers.items active (Own id) rest) ∙ so_far.numbers;
      own = subst (λ it. Owns it new) (sym now) one.own;
    }

pub takes_first : (active : Requests) (ids : List Id) (old it : ListCode) → Owns active old → it.numbers.items ≡ [] → it.active ≡ old.active → TakesSoFar active ids ids it
takes_first active ids old it owns none same = record {
  numbers = ap (λ numbers. numbers ++ numbers_of (without_all numbers active) ids) none;
  own = subst (λ numbers. Owns (without_all numbers active) it) (sym none) (λ id. ap (λ map. option_map (λ (one : Active). one.number) (active_at map id)) same ∙ owns id);
}

pub takes_last : (active : Requests) (ids rest : List Id) (it : ListCode) → rest ≡ [] → TakesSoFar active ids rest it → TakesNumbers active ids it
takes_last active ids rest it none so_far =
    let all : it.numbers.items ≡ numbers_of active ids =
    sym (append-nil it.numbers.items) ∙ sym (ap (λ left. it.numbers.items ++ numbers_of (without_all it.numbers.items active) left) none) ∙ so_far.numbers in
    record {
      numbers = all;
      own = subst (λ numbers. Owns (without_all numbers active) it) all so_far.own;
    }

pub keeps_lines : (old mid new : ListCode) → KeepsLines old mid → KeepsLines mid new → KeepsLines old new
keeps_lines old mid new first more = record {
  records = more.records ∙ first.records;
  count = more.count ∙ first.count;
  free = more.free ∙ first.free;
  given = more.given ∙ first.given;
  freed = more.freed ∙ first.freed;
  started = λ records id started. more.started records id (first.started records id started);
}

pub frees_both : (old mid new : ListCode) → FreesOnly old mid → FreesOnly mid new → FreesOnly old new
frees_both old mid new first more = record {
  records = more.records ∙ first.records;
  count = more.count ∙ first.count;
  active = more.active ∙ first.active;
  given = more.given ∙ first.given;
  numbers = more.numbers ∙ first.numbers;
  freed = more.freed ∙ first.freed;
}

pub record FreesSoFar (active : Requests) (numbers : List ℕ) (place : ℕ) (it : ListCode) : Type 0 where
  pub numbered : AreNumbered (without_all (take place numbers) active) it
  pub comms : AreHeld (without_all (take place numbers) active) (drop place numbers)

pub frees_more : (active : Requests) (numbers : List ℕ) (place number : ℕ) (it new : ListCode) → place < length numbers → number ≡ get_or numbers place 0 → FreesSoFar active numbers place it
    → ((left : Requests) → AreNumbered left it → has_number left number ≡ true → AreNumbered (without number left) new) → FreesSoFar active numbers (place + 1) new
frees_more active numbers place number it new within is so_far frees =
    let rest : drop place numbers ≡ number ∷ drop (place + 1) numbers = drop_more numbers place 0 within ∙ ap (λ n. n ∷ drop (place + 1) numbers) (sym is) in
    let first : take (place + 1) numbers ≡ take place numbers ++ number ∷ [] = take_more numbers place 0 within ∙ ap (λ n. take place numbers ++ n ∷ []) (sym is) in
    let left : without_all (take (place + 1) numbers) active ≡ without number (without_all (take place numbers) active) =
    ap (λ numbers. without_all numbers active) first ∙ without_append (take place numbers) (number ∷ []) active in
    let comms : AreHeld (without_all (take place numbers) active) (number ∷ drop (place + 1) numbers) =
    subst (AreHeld (without_all (take place numbers) active)) rest so_far.comms in
    record {
      numbered = subst (λ it. AreNumbered it new) (sym left) (frees (without_all (take place numbers) active) so_far.numbered comms.0);
      comms = subst (λ it. AreHeld it (drop (place + 1) numbers)) (sym left) comms.1;
    }

small_all : (active : Requests) (numbers : List ℕ) → ((n : ℕ) → has_number active n ≡ true → n ≤ GREATEST_REQUEST) → AreHeld active numbers → AreSmall numbers
small_all active [] small comms = tt
small_all active (number ∷ numbers) small comms = (
  small number comms.0,
  small_all (without number active) numbers (λ n has. small n (and_parts (not (eqb number n)) (has_number active n) (sym (has_without active number n) ∙ has)).1) comms.1,
)

pub small_held : (active : Requests) (numbers : List ℕ) (it : ListCode) → AreNumbered active it → it.given ≤ GREATEST_REQUEST → AreHeld active numbers → AreSmall numbers
small_held active numbers it are few comms =
    small_all active numbers (λ n has.
    let used : is_in_use it n ≡ true = sym (are.same n) ∙ has in
    let below : n < it.given = ltb-true n it.given (and_parts (ltb n it.given) (eqb (kept_count (heap_items it.free) n) 0) used).0 in
    omega arith) comms
