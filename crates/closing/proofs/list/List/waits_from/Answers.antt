-- The wait is for the numbers from the place on.
use Rattle.std.proofs.Common.{◌≡◌, ◌∙◌, ◌≤◌, List, [], ◌∷◌, ap, arith, drop, false, length, refl, take, true, ℕ}
use Rattle.mpicall.specs.declared.limits.TheConstants.{MOST_REQUESTS}
use Rattle.mpicall.specs.declared.call.Call.TheVariants.{Waitall}
use Rattle.closing.specs.Steps.{wait_for}
use Rattle.closing.proofs.WaitLemmas.{no_wait, none_wait, one_wait, several_wait, take_few, wait_adds}
use Rattle.closing.proofs.list.List.waits_from.Goals as goal

-- what is no list of requests though it isn't too long has none
no_more : (xs : List ℕ) → length xs ≤ MOST_REQUESTS → ((1 ≤ length xs) × (length xs ≤ MOST_REQUESTS) → false ≡ true) → length xs ≡ 0
no_more [] few none = refl
no_more (x ∷ xs) few none = let e : false ≡ true = none (omega arith, few) in cc (e)

pub returns-then-numbers-eq1 : goal.returns-then-numbers-eq1
returns-then-numbers-eq1 c = λ small room.
    let group : c.group_from-numbers.result.now ≡ take MOST_REQUESTS (drop c.args.start c.args.self.now.numbers.items) =
    c.group_from-numbers.ensures ∙ ap (λ xs. take MOST_REQUESTS (drop c.args.start xs)) c.as_slice.ensures.value in
    wait_adds _ c.add.result c.args.self.now c.add.new.self _ c.args.start small room
    (one_wait c.group_from-numbers.result.now c.if-numbers-eq1.true ∙ ap wait_for group) c.add.ensures

pub returns-in-Some : goal.returns-in-Some
returns-in-Some c = λ small room.
    let group : c.group_from-numbers.result.now ≡ take MOST_REQUESTS (drop c.args.start c.args.self.now.numbers.items) =
    c.group_from-numbers.ensures ∙ ap (λ xs. take MOST_REQUESTS (drop c.args.start xs)) c.as_slice.ensures.value in
    wait_adds _ c.add-in-Some.result c.args.self.now c.add-in-Some.new.self (Waitall c.in-Some.reqs) c.args.start small room
    (several_wait c.group_from-numbers.result.now c.in-Some.reqs c.if-numbers-eq1.false (c.in-Some.ensures.some.0 refl).0 c.in-Some.ensures.value ∙ ap wait_for group) c.add-in-Some.ensures

pub returns-in-None : goal.returns-in-None
returns-in-None c = λ small room.
    let group : c.group_from-numbers.result.now ≡ take MOST_REQUESTS (drop c.args.start c.args.self.now.numbers.items) =
    c.group_from-numbers.ensures ∙ ap (λ xs. take MOST_REQUESTS (drop c.args.start xs)) c.as_slice.ensures.value in
    let few : length c.group_from-numbers.result.now ≤ MOST_REQUESTS = omega (arith, ap length group, take_few MOST_REQUESTS (drop c.args.start c.args.self.now.numbers.items)) in
    (no_wait c.args.self.now c.args.start (none_wait c.group_from-numbers.result.now (no_more c.group_from-numbers.result.now few c.in-None.ensures.some.1) ∙ ap wait_for group), room)
