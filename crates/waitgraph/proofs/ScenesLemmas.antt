-- What the search sees, part by part.
use Rattle.std.proofs.Common.{◌≡◌, ℕ, zero, suc, ◌+◌, ◌<◌, ◌≤◌, ◌==◌, Bool, true, false, not, ◌&&◌, ◌||◌, Option, Some, None, is_some, List, [], ◌∷◌, ◌++◌, length, map, flat_map, take, get_or, refl, sym, ap, subst, ◌∙◌, ⊎_elim, arith, append_assoc, length-append}
use Rattle.std.specs.Prelude.{find, nat_lt, if◌then◌else◌}
use Rattle.std.specs.List.{slice_get, filter, list_all, list_any, range_with_len}
use Rattle.std.specs.Option.{option_map_or}
use Rattle.std.proofs.lemmas.Bool.{cases_Bool, and_parts, not-true, lt-ltb, ltb-true, false_from_ne_true}
use Rattle.std.proofs.lemmas.List.{take_all}
use Rattle.std.proofs.lemmas.List.Folds.{list_all-append, list_any-append, list_all-map}
use Rattle.std.proofs.lemmas.Option.{none-some, same_Some, slice_get-get_or, slice_get_within, get_or_from_slice_get}
use Rattle.mpicall.specs.declared.call.Call.{Call}
use Rattle.mpigroup.specs.Groups.{group_of}
use Rattle.callstore.specs.Recordings.{calls_of}
use Rattle.callstore.specs.Requests.{starts, completes, started_before}
use Rattle.moves.specs.Needs.{member_need}
use Rattle.moves.specs.declared.need.Need.TheVariants.{Lacking}
use Rattle.callstore.proofs.PlaceLemmas.{slice_get_there}
use Rattle.moves.proofs.WaitLemmas.{start_is}
use Rattle.waitgraph.specs.Pending.{Part, operation_needs, request_needs, call_needs, part_of, pass_all_or_one}
use Rattle.waitgraph.specs.inner.Loose.{set_of}
use Rattle.waitgraph.specs.inner.Scenes.{staying, comes, source_needs, member_passes, member_may_send, index_passes, item_passes}
use Rattle.waitgraph.specs.declared.may_move.Scene.{Scene}
use Rattle.waitgraph.specs.declared.pending.Item.{Item}
use Rattle.waitgraph.specs.declared.pending.Sink.{Sink}

-- nothing is found where the test always fails
pub no_sink : {A : Type 0} (xs : List A) → find (λ x. false) xs ≡ None
no_sink [] = refl
no_sink (x ∷ xs) = no_sink xs

-- a test passes over two lists
pub all_both : {A : Type 0} (p : A → Bool) (a b : List A) → list_all p (a ++ b) ≡ (list_all p a && list_all p b)
all_both p a b = list_all-append p a b

pub any_both : {A : Type 0} (p : A → Bool) (a b : List A) → list_any p (a ++ b) ≡ (list_any p a || list_any p b)
any_both p a b = list_any-append p a b

-- and over four
pub all_four : {A : Type 0} (p : A → Bool) (a b c d : List A) → list_all p (a ++ b ++ c ++ d) ≡ (list_all p a && (list_all p b && (list_all p c && list_all p d)))
all_four p a b c d =
    list_all-append p (a ++ b ++ c) d
    ∙ ap (λ (x : Bool). x && list_all p d) (list_all-append p (a ++ b) c ∙ ap (λ (x : Bool). x && list_all p c) (list_all-append p a b))
    ∙ to_right (list_all p a) (list_all p b) (list_all p c) (list_all p d)
  where
    to_right : (a b c d : Bool) → (((a && b) && c) && d) ≡ (a && (b && (c && d)))
    to_right true true true d = refl
    to_right true true false d = refl
    to_right true false c d = refl
    to_right false b c d = refl

-- a test over what a list becomes
pub any_kept : {A B : Type 0} (p : B → Bool) (f : A → B) (w : A → Bool) (xs : List A) → list_any p (map f (filter w xs)) ≡ list_any (λ x. w x && p (f x)) xs
any_kept p f w [] = refl
any_kept p f w (x ∷ xs) =
    ⊎_elim
    (λ (is : w x ≡ true). rw is (ap (λ (b : Bool). p (f x) || b) (any_kept p f w xs)))
    (λ (no : w x ≡ false). rw no (any_kept p f w xs))
    (cases_Bool (w x))

pub all_listed : {A B : Type 0} (p : B → Bool) (f : A → List B) (xs : List A) → list_all p (flat_map f xs) ≡ list_all (λ x. list_all p (f x)) xs
all_listed p f [] = refl
all_listed p f (x ∷ xs) = list_all-append p (f x) (flat_map f xs) ∙ ap (λ (b : Bool). list_all p (f x) && b) (all_listed p f xs)

-- over what stands at each index
one_on : (q p : ℕ → Bool) (a i : ℕ) → q (a + suc i) ≡ p (a + suc i) → q (a + 1 + i) ≡ p (a + 1 + i)
one_on q p a i same =
    let at : a + suc i ≡ a + 1 + i = omega arith in
    subst (λ (k : ℕ). q k ≡ p k) at same

all_from : (q : ℕ → Bool) (p : ℕ → Bool) (n a : ℕ) → ((i : ℕ) → i < n → q (a + i) ≡ p (a + i)) → list_all q (range_with_len a n) ≡ list_all p (range_with_len a n)
all_from q p zero a same = refl
all_from q p (suc n) a same =
    let none : a + 0 ≡ a = omega arith in
    let first : q a ≡ p a = subst (λ (k : ℕ). q k ≡ p k) none (same 0 (omega arith)) in
    let rest = all_from q p n (a + 1) (λ i less. one_on q p a i (same (suc i) (omega (arith, less)))) in
    ap (λ (b : Bool). b && list_all q (range_with_len (a + 1) n)) first ∙ ap (λ (b : Bool). p a && b) rest

at_from : {A : Type 0} (p : A → Bool) (none : Bool) (before xs : List A) (i : ℕ) → option_map_or p (slice_get (before ++ xs) (length before + i)) none ≡ option_map_or p (slice_get xs i) none
at_from p none [] xs i =
    let first : 0 + i ≡ i = omega arith in
    ap (λ (k : ℕ). option_map_or p (slice_get xs k) none) first
at_from p none (b ∷ before) xs i =
    let next : suc (length before) + i ≡ suc (length before + i) = omega arith in
    ap (λ (k : ℕ). option_map_or p (slice_get (b ∷ before ++ xs) k) none) next ∙ at_from p none before xs i

pub all_indexed : {A : Type 0} (p : A → Bool) (before xs : List A) → list_all (λ i. option_map_or p (slice_get (before ++ xs) i) true) (range_with_len (length before) (length xs)) ≡ list_all p xs
all_indexed p before [] = refl
all_indexed {A} p before (x ∷ xs) =
    let none : length before ≡ length before + 0 = omega arith in
    let here : option_map_or p (slice_get (before ++ x ∷ xs) (length before)) true ≡ p x =
    ap (λ (k : ℕ). option_map_or p (slice_get (before ++ x ∷ xs) k) true) none ∙ at_from p true before (x ∷ xs) 0 in
    let rest = all_indexed p (before ++ x ∷ []) xs in
    let list : (before ++ x ∷ []) ++ xs ≡ before ++ x ∷ xs = append_assoc before (x ∷ []) xs in
    let count : length (before ++ x ∷ []) ≡ length before + 1 = length-append before (x ∷ []) in
    ap (λ (b : Bool). b && list_all (λ i. option_map_or p (slice_get (before ++ x ∷ xs) i) true) (range_with_len (length before + 1) (length xs))) here
    ∙ ap (λ (b : Bool). p x && b)
    (ap (λ (k : ℕ). list_all (λ i. option_map_or p (slice_get (before ++ x ∷ xs) i) true) (range_with_len k (length xs))) (sym count)
    ∙ ap (λ (ys : List A). list_all (λ i. option_map_or p (slice_get ys i) true) (range_with_len (length (before ++ x ∷ [])) (length xs))) (sym list)
    ∙ rest)

pub any_indexed : {A : Type 0} (p : A → Bool) (before xs : List A) → list_any (λ i. option_map_or p (slice_get (before ++ xs) i) false) (range_with_len (length before) (length xs)) ≡ list_any p xs
any_indexed p before [] = refl
any_indexed {A} p before (x ∷ xs) =
    let none : length before ≡ length before + 0 = omega arith in
    let here : option_map_or p (slice_get (before ++ x ∷ xs) (length before)) false ≡ p x =
    ap (λ (k : ℕ). option_map_or p (slice_get (before ++ x ∷ xs) k) false) none ∙ at_from p false before (x ∷ xs) 0 in
    let rest = any_indexed p (before ++ x ∷ []) xs in
    let list : (before ++ x ∷ []) ++ xs ≡ before ++ x ∷ xs = append_assoc before (x ∷ []) xs in
    let count : length (before ++ x ∷ []) ≡ length before + 1 = length-append before (x ∷ []) in
    ap (λ (b : Bool). b || list_any (λ i. option_map_or p (slice_get (before ++ x ∷ xs) i) false) (range_with_len (length before + 1) (length xs))) here
    ∙ ap (λ (b : Bool). p x || b)
    (ap (λ (k : ℕ). list_any (λ i. option_map_or p (slice_get (before ++ x ∷ xs) i) false) (range_with_len k (length xs))) (sym count)
    ∙ ap (λ (ys : List A). list_any (λ i. option_map_or p (slice_get ys i) false) (range_with_len (length (before ++ x ∷ [])) (length xs))) (sym list)
    ∙ rest)

-- each member of a wave
pub members_pass : (scene : Scene) (marks : List Bool) (comm wave : ℕ) → list_all (member_passes scene marks comm wave) (range_with_len 0 (length (group_of scene.world.now.pairs.groups comm))) ≡ list_all (comes scene marks) (map (member_need scene.world.now.pairs.recording comm wave) (group_of scene.world.now.pairs.groups comm))
members_pass scene marks comm wave =
    all_indexed (λ member. comes scene marks (member_need scene.world.now.pairs.recording comm wave member)) [] (group_of scene.world.now.pairs.groups comm)
    ∙ sym (list_all-map (comes scene marks) (member_need scene.world.now.pairs.recording comm wave) (group_of scene.world.now.pairs.groups comm))

or_none : (b : Bool) → (b || false) ≡ b
or_none true = refl
or_none false = refl

-- some member may send
one_source : (scene : Scene) (marks : List Bool) (rank : ℕ) (senders : List ℕ) → list_any (λ sender. list_any (comes scene marks) (source_needs rank (sender ∷ []))) senders ≡ list_any (comes scene marks) (source_needs rank senders)
one_source scene marks rank [] = refl
one_source scene marks rank (sender ∷ senders) =
    ⊎_elim
    (λ (other : not (sender == rank) ≡ true).
    rw other (rw (or_none (comes scene marks (Lacking sender))) (ap (λ (b : Bool). comes scene marks (Lacking sender) || b) (one_source scene marks rank senders))))
    (λ (same : not (sender == rank) ≡ false). rw same (one_source scene marks rank senders))
    (cases_Bool (not (sender == rank)))

pub members_may_send : (scene : Scene) (marks : List Bool) (rank comm : ℕ) → list_any (member_may_send scene marks rank comm) (range_with_len 0 (length (group_of scene.world.now.pairs.groups comm))) ≡ list_any (comes scene marks) (source_needs rank (group_of scene.world.now.pairs.groups comm))
members_may_send scene marks rank comm =
    any_indexed (λ sender. list_any (comes scene marks) (source_needs rank (sender ∷ []))) [] (group_of scene.world.now.pairs.groups comm)
    ∙ one_source scene marks rank (group_of scene.world.now.pairs.groups comm)

-- each request that a call completes
abbrev request_passes : Scene → List Bool → ℕ × ℕ → ℕ → Bool
request_passes scene marks at req =
    list_all (comes scene marks) (request_needs scene.world.now.reading scene.world.now.pairs.groups scene.world.now.pairs.recording scene.sinks.now at.0 (started_before scene.world.now.pairs.recording at.0 at.1 req))

pub requests_pass : (scene : Scene) (marks : List Bool) (at : ℕ × ℕ) (call : Call) → slice_get (calls_of scene.world.now.pairs.recording at.0) at.1 ≡ Some call → list_all (index_passes scene marks at) (range_with_len 0 (length (completes call))) ≡ list_all (comes scene marks) (flat_map (λ req. request_needs scene.world.now.reading scene.world.now.pairs.groups scene.world.now.pairs.recording scene.sinks.now at.0 (started_before scene.world.now.pairs.recording at.0 at.1 req)) (completes call))
requests_pass scene marks at call present =
    all_from (index_passes scene marks at) (λ i. option_map_or (request_passes scene marks at) (slice_get (completes call) i) true) (length (completes call)) 0
    (λ i less.
    let there : slice_get (completes call) (0 + i) ≡ Some (get_or (completes call) (0 + i) 0) = slice_get-get_or (completes call) (0 + i) 0 (omega (arith, less)) in
    ap (λ (start : Option ℕ). list_all (comes scene marks) (request_needs scene.world.now.reading scene.world.now.pairs.groups scene.world.now.pairs.recording scene.sinks.now at.0 start)) (start_is scene.world.now.pairs.recording at.0 at.1 (0 + i) (get_or (completes call) (0 + i) 0) call present there)
    ∙ sym (ap (λ (o : Option ℕ). option_map_or (request_passes scene marks at) o true) there))
    ∙ all_indexed (request_passes scene marks at) [] (completes call)
    ∙ sym (all_listed (comes scene marks) (λ req. request_needs scene.world.now.reading scene.world.now.pairs.groups scene.world.now.pairs.recording scene.sinks.now at.0 (started_before scene.world.now.pairs.recording at.0 at.1 req)) (completes call))

-- the first that passes, where none before it does
find_at : {A : Type 0} (test : A → Bool) (xs : List A) (index : ℕ) (x : A) → slice_get xs index ≡ Some x → list_all (λ y. not (test y)) (take index xs) ≡ true → test x ≡ true → find test xs ≡ Some x
find_at test [] index x there none passes = absurd (none-some x there)
find_at test (first ∷ xs) zero x there none passes =
    let here : first ≡ x = same_Some first x there in
    let so : test first ≡ true = ap test here ∙ passes in
    rw so (ap (λ y. Some y) here)
find_at test (first ∷ xs) (suc index) x there none passes =
    let both = and_parts (not (test first)) (list_all (λ y. not (test y)) (take index xs)) none in
    let fails : test first ≡ false = not-true (test first) both.0 in
    rw fails (find_at test xs index x there both.1 passes)

find_past : {A : Type 0} (test : A → Bool) (xs : List A) → list_all (λ y. not (test y)) xs ≡ true → find test xs ≡ None
find_past test [] none = refl
find_past test (first ∷ xs) none =
    let both = and_parts (not (test first)) (list_all (λ y. not (test y)) xs) none in
    let fails : test first ≡ false = not-true (test first) both.0 in
    rw fails (find_past test xs both.1)

pub sink_found : (test : Sink → Bool) (sinks : List Sink) (index : ℕ) (sink d : Sink) → index < length sinks → sink ≡ get_or sinks index d → list_all (λ y. not (test y)) (take index sinks) ≡ true → test sink ≡ true → Some sink ≡ find test sinks
sink_found test sinks index sink d within at none passes =
    sym (find_at test sinks index sink (slice_get-get_or sinks index d within ∙ ap (λ (s : Sink). Some s) (sym at)) none passes)

pub sink_missing : (test : Sink → Bool) (sinks : List Sink) (index : ℕ) → length sinks ≤ index → list_all (λ y. not (test y)) (take index sinks) ≡ true → None ≡ find test sinks
sink_missing test sinks index past none =
    sym (find_past test sinks (subst (λ (ss : List Sink). list_all (λ y. not (test y)) ss ≡ true) (take_all index sinks past) none))

-- a rank stays that has a mark for not
pub staying_is : (marks : List Bool) (rank : ℕ) → staying marks rank ≡ option_map_or not (slice_get marks rank) false
staying_is marks rank = by_mark (slice_get marks rank) refl
  where
    by_mark : (o : Option Bool) → slice_get marks rank ≡ o → staying marks rank ≡ option_map_or not o false
    by_mark (Some mark) is =
        let within : nat_lt rank (length marks) ≡ true = lt-ltb rank (length marks) (slice_get_within marks rank mark is) in
        let marked : set_of marks rank ≡ mark = get_or_from_slice_get marks rank mark false is in
        rw (within, marked) refl
    by_mark None none =
        let past : nat_lt rank (length marks) ≡ false =
        false_from_ne_true (nat_lt rank (length marks))
        (λ less.
        let there = slice_get_there marks rank (ltb-true rank (length marks) less) in
        none-some there.0 (sym none ∙ there.1)) in
        rw past refl

-- the items of a pending call
any_over : {A B : Type 0} (p : B → Bool) (f : A → B) (xs : List A) → list_any p (map f xs) ≡ list_any (λ x. p (f x)) xs
any_over p f [] = refl
any_over p f (x ∷ xs) = ap (λ (b : Bool). p (f x) || b) (any_over p f xs)

pub items_over : (scene : Scene) (marks : List Bool) (rank : ℕ) (is_all : Bool) (items : List Item) → pass_all_or_one is_all (λ (part : Part). pass_all_or_one part.is_all (comes scene marks) part.needs) (map (part_of scene.world.now.reading scene.world.now.pairs.groups scene.world.now.pairs.recording scene.sinks.now rank) items) ≡ pass_all_or_one is_all (item_passes scene marks rank) items
items_over scene marks rank true items = list_all-map (λ (part : Part). pass_all_or_one part.is_all (comes scene marks) part.needs) (part_of scene.world.now.reading scene.world.now.pairs.groups scene.world.now.pairs.recording scene.sinks.now rank) items
items_over scene marks rank false items = any_over (λ (part : Part). pass_all_or_one part.is_all (comes scene marks) part.needs) (part_of scene.world.now.reading scene.world.now.pairs.groups scene.world.now.pairs.recording scene.sinks.now rank) items

-- a call by its operation and the requests that it completes
passes_two : {A : Type 0} (p : A → Bool) (b r : Bool) (some more : List A) → b ≡ false → r ≡ (list_all p some && list_all p more) → r ≡ list_all p (if b then [] else some ++ more)
passes_two {A} p b r some more fails is = is ∙ sym (all_both p some more) ∙ ap (λ (b : Bool). list_all p (if b then [] else some ++ more)) (sym fails)

pub passes_none : {A : Type 0} (p : A → Bool) (b : Bool) (xs : List A) → b ≡ true → true ≡ list_all p (if b then [] else xs)
passes_none {A} p b xs passes = ap (λ (b : Bool). list_all p (if b then [] else xs)) (sym passes)

pub call_passes : (scene : Scene) (marks : List Bool) (at : ℕ × ℕ) (call : Call) (r operation : Bool) → slice_get (calls_of scene.world.now.pairs.recording at.0) at.1 ≡ Some call → is_some (starts call) ≡ false → operation ≡ list_all (comes scene marks) (operation_needs scene.world.now.reading scene.world.now.pairs.groups scene.world.now.pairs.recording scene.sinks.now at.0 at.1 call) → r ≡ (operation && list_all (index_passes scene marks at) (range_with_len 0 (length (completes call)))) → r ≡ list_all (comes scene marks) (call_needs scene.world.now.reading scene.world.now.pairs.groups scene.world.now.pairs.recording scene.sinks.now at.0 at.1 call)
call_passes scene marks at call r operation present fails first is =
    let requests = list_all (index_passes scene marks at) (range_with_len 0 (length (completes call))) in
    let w = scene.world.now in
    passes_two (comes scene marks) (is_some (starts call)) r
    (operation_needs w.reading w.pairs.groups w.pairs.recording scene.sinks.now at.0 at.1 call)
    (flat_map (λ req. request_needs w.reading w.pairs.groups w.pairs.recording scene.sinks.now at.0 (started_before w.pairs.recording at.0 at.1 req)) (completes call))
    fails
    (is ∙ ap (λ (b : Bool). b && requests) first
    ∙ ap (λ (b : Bool). list_all (comes scene marks) (operation_needs w.reading w.pairs.groups w.pairs.recording scene.sinks.now at.0 at.1 call) && b) (requests_pass scene marks at call present))
