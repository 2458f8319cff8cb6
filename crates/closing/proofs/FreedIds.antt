-- The requests that lines free, line by line, and what stands for them.
use Rattle.std.proofs.Common.{◌≡◌, ◌∙◌, refl, sym, ap, arith, ℕ, zero, suc, ◌+◌, ◌≤◌, ◌<◌, ◌==◌, ◌||◌, Bool, true, false, List, [], ◌∷◌, ◌++◌, length, take, get_or, Option, Some, None, Result, Ok, Err}
use Rattle.std.specs.Prelude.{IfOk, cond, nat_eq, option_and_then, slice_get}
use Rattle.std.specs.HashSet.{HashSet, contains, hash_set_len}
use Rattle.std.specs.List.{cons_option, list_any}
use Rattle.std.proofs.lemmas.List.{append-nil, take_all}
use Rattle.mpicall.specs.Word.{or_else}
use Rattle.journals.specs.Lines.{Line}
use Rattle.journals.specs.Taking.{frees_request, word_at, fields_at}
use Rattle.journals.specs.declared.field.Field.{Field}
use Rattle.journals.specs.declared.word.CallWord.{CallWord}
use Rattle.journals.specs.declared.word.CallWord.TheVariants as call
use Rattle.journals.specs.declared.word.Word.{Word}
use Rattle.journals.specs.declared.word.Word.TheVariants.{Call}
use Rattle.closing.specs.Called.{Called, called}
use Rattle.closing.specs.Entry.{id_of, matched_by, matched_in, matched_message}
use Rattle.closing.specs.Freed.{freed, freed_in, is_freed}
use Rattle.closing.specs.Steps.{Id, Own, Whole, ReceiveHalf, Sink, same_id}
use Rattle.closing.specs.inner.FreedIds.{freed_at, matched_at}
use Rattle.closing.specs.inner.Lists.{IsUnnamed}
use Rattle.closing.specs.inner.Standings.{id_in, message_for}
use Rattle.closing.specs.inner.Views.{called_view}
use Rattle.closing.specs.declared.called.Called.{Called as CalledCode}
use Rattle.closing.specs.declared.called.Called.TheVariants as code
use Rattle.closing.specs.declared.standing.Standing.{Standing}
use Rattle.closing.proofs.LastLemmas.{line_of, lines_from}
use Rattle.closing.proofs.MatchedLemmas.{by_call, id_same}
use Rattle.closing.proofs.TakeLemmas.{messages_nothing}

none_among : (requests : List ℕ) → list_any (λ request. false) requests ≡ false
none_among [] = refl
none_among (request ∷ requests) = none_among requests

-- no line frees what no line names
pub unnamed_kept : (lines : List Line) (id : Id) → IsUnnamed id → is_freed lines id ≡ false
unnamed_kept lines (Own request) unnamed = absurd unnamed
unnamed_kept lines (Whole line) unnamed = none_among (freed lines)
unnamed_kept lines (ReceiveHalf line) unnamed = none_among (freed lines)
unnamed_kept lines (Sink own wanted is_known) unnamed = none_among (freed lines)

-- ---- Line by line ----

cons_later : (found : Option ℕ) (xs ys : List ℕ) → cons_option found (xs ++ ys) ≡ cons_option found xs ++ ys
cons_later None xs ys = refl
cons_later (Some x) xs ys = refl

-- lines without a call that frees a request free none
none_by : (word : Word) (fields : List Field) → frees_request word ≡ false → freed_in word fields ≡ None
none_by (Call call.RequestFree) fields none = cc
none_by word fields none = refl

none_first : (word : Word) (fields : List Field) (xs : List ℕ) (rest : Bool) → (frees_request word || rest) ≡ false → (rest ≡ false → [] ≡ xs) → [] ≡ cons_option (freed_in word fields) xs
none_first word fields xs rest none more =
    more (or_next (frees_request word) rest none) ∙ ap (λ found. cons_option found xs) (sym (none_by word fields (or_first (frees_request word) rest none)))
  where
    or_first : (a b : Bool) → (a || b) ≡ false → a ≡ false
    or_first true b is = cc
    or_first false b is = refl

    or_next : (a b : Bool) → (a || b) ≡ false → b ≡ false
    or_next true b is = cc
    or_next false b is = is

pub none_freed : (lines : List Line) → list_any (λ line. frees_request line.word) lines ≡ false → [] ≡ freed lines
none_freed [] none = refl
none_freed (x ∷ xs) none = none_first x.word x.fields (freed xs) (list_any (λ line. frees_request line.word) xs) none (none_freed xs)

freed_step : (lines : List Line) (n : ℕ) → freed (take (suc n) lines) ≡ freed (take n lines) ++ cons_option (freed_at lines n) []
freed_step [] zero = refl
freed_step [] (suc n) = refl
freed_step (x ∷ xs) zero = refl
freed_step (x ∷ xs) (suc n) =
    ap (cons_option (freed_in x.word x.fields)) (freed_step xs n)
    ∙ cons_later (freed_in x.word x.fields) (freed (take n xs)) (cons_option (freed_at xs n) [])

next_is : (lines : List Line) (n : ℕ) → freed (take (suc n) lines) ≡ freed (take (n + 1) lines)
next_is lines n =
    let one : suc n ≡ n + 1 = omega arith in
    ap (λ m. freed (take m lines)) one

pub freed_some : (lines : List Line) (n request : ℕ) (before : List ℕ) → before ≡ freed (take n lines) → Some request ≡ freed_at lines n
    → before ++ request ∷ [] ≡ freed (take (n + 1) lines)
freed_some lines n request before e is =
    ap (λ xs. xs ++ request ∷ []) e ∙ ap (λ found. freed (take n lines) ++ cons_option found []) is ∙ sym (freed_step lines n) ∙ next_is lines n

pub freed_none : (lines : List Line) (n : ℕ) (before : List ℕ) → before ≡ freed (take n lines) → None ≡ freed_at lines n → before ≡ freed (take (n + 1) lines)
freed_none lines n before e is =
    sym (append-nil before) ∙ ap (λ xs. xs ++ []) e ∙ ap (λ found. freed (take n lines) ++ cons_option found []) is ∙ sym (freed_step lines n) ∙ next_is lines n

pub freed_all : (lines : List Line) (n : ℕ) (all : List ℕ) → length lines ≤ n → all ≡ freed (take n lines) → all ≡ freed lines
freed_all lines n all h e = e ∙ ap freed (take_all n lines h)

-- ---- Messages that requests take ----

or_assoc : (a b c : Option ℕ) → or_else a (or_else b c) ≡ or_else (or_else a b) c
or_assoc None b c = refl
or_assoc (Some x) b c = refl

or_none : (a : Option ℕ) → or_else a None ≡ a
or_none None = refl
or_none (Some x) = refl

matched_step : (lines : List Line) (n request : ℕ) → matched_message (take (suc n) lines) request ≡ or_else (matched_message (take n lines) request) (matched_at lines n request)
matched_step [] zero request = refl
matched_step [] (suc n) request = refl
matched_step (x ∷ xs) zero request = or_none (matched_in request x.word x.fields)
matched_step (x ∷ xs) (suc n) request =
    ap (or_else (matched_in request x.word x.fields)) (matched_step xs n request)
    ∙ or_assoc (matched_in request x.word x.fields) (matched_message (take n xs) request) (matched_at xs n request)

pub matched_more : (lines : List Line) (n : ℕ) (old new : Standing) → ((request : ℕ) → message_for old request ≡ matched_message (take n lines) request)
    → ((request : ℕ) → message_for new request ≡ or_else (message_for old request) (matched_at lines n request))
    → (request : ℕ) → message_for new request ≡ matched_message (take (n + 1) lines) request
matched_more lines n old new so_far takes request =
    let one : suc n ≡ n + 1 = omega arith in
    takes request ∙ ap (λ found. or_else found (matched_at lines n request)) (so_far request) ∙ sym (matched_step lines n request)
    ∙ ap (λ m. matched_message (take m lines) request) one

pub matched_all : (lines : List Line) (n : ℕ) (it : Standing) → length lines ≤ n → ((request : ℕ) → message_for it request ≡ matched_message (take n lines) request)
    → (request : ℕ) → message_for it request ≡ matched_message lines request
matched_all lines n it h so_far request = so_far request ∙ ap (λ xs. matched_message xs request) (take_all n lines h)

matched_there : (lines : List Line) (n request : ℕ) (word : CallWord) → word_at lines n ≡ Some (Call word) → matched_at lines n request ≡ matched_by request (called word (fields_at lines n))
matched_there lines n request word e =
    let at = lines_from lines n (Call word) e in
    let there : slice_get lines n ≡ Some (line_of (Call word) at.0) = at.1.0 in
    let fields : fields_at lines n ≡ at.0 = rw there refl in
    ap (option_and_then (λ (line : Line). matched_in request line.word line.fields)) there ∙ ap (λ (fs : List Field). matched_by request (called word fs)) (sym fields)

-- another call takes no message
pub matched_other : (lines : List Line) (n : ℕ) (word : CallWord) (it : CalledCode) (standing : Standing) → word_at lines n ≡ Some (Call word) → called_view it ≡ called word (fields_at lines n)
    → ((request message : ℕ) → it ≡ code.StartsMatched request message → ⊥)
    → (request : ℕ) → message_for standing request ≡ or_else (message_for standing request) (matched_at lines n request)
matched_other lines n word it standing e says other request =
    messages_nothing it standing other request ∙ sym (by_call (called_view it) (message_for standing) request)
    ∙ ap (λ (c : Called). or_else (message_for standing request) (matched_by request c)) says
    ∙ ap (or_else (message_for standing request)) (sym (matched_there lines n request word e))

-- ---- What stands for them ----

or_swap : (a b : Bool) → cond a true b ≡ (b || a)
or_swap true true = refl
or_swap true false = refl
or_swap false true = refl
or_swap false false = refl

or_assoc_bool : (a b c : Bool) → (a || (b || c)) ≡ ((a || b) || c)
or_assoc_bool true b c = refl
or_assoc_bool false b c = refl

or_false : (b : Bool) → (b || false) ≡ b
or_false true = refl
or_false false = refl

any_step : (f : ℕ → Bool) (xs : List ℕ) (n : ℕ) → n < length xs → list_any f (take (suc n) xs) ≡ (list_any f (take n xs) || f (get_or xs n 0))
any_step f [] n h = absurd (omega (arith, h))
any_step f (x ∷ xs) zero h = or_false (f x)
any_step f (x ∷ xs) (suc n) h =
    ap (λ (b : Bool). f x || b) (any_step f xs n (omega (arith, h))) ∙ or_assoc_bool (f x) (list_any f (take n xs)) (f (get_or xs n 0))

-- with one more
pub ids_more : (matched : Standing) (requests : List ℕ) (n id : ℕ) (old new : Bool) → n < length requests
    → old ≡ list_any (λ request. id_in matched request == id) (take n requests)
    → new ≡ cond (id_in matched (get_or requests n 0) == id) true old
    → new ≡ list_any (λ request. id_in matched request == id) (take (n + 1) requests)
ids_more matched requests n id old new h so_far put =
    let one : suc n ≡ n + 1 = omega arith in
    put ∙ or_swap (id_in matched (get_or requests n 0) == id) old
    ∙ ap (λ (b : Bool). b || (id_in matched (get_or requests n 0) == id)) so_far
    ∙ sym (any_step (λ request. id_in matched request == id) requests n h)
    ∙ ap (λ m. list_any (λ request. id_in matched request == id) (take m requests)) one

pub ids_all : (matched : Standing) (requests : List ℕ) (n id : ℕ) (it : Bool) → length requests ≤ n
    → it ≡ list_any (λ request. id_in matched request == id) (take n requests) → it ≡ list_any (λ request. id_in matched request == id) requests
ids_all matched requests n id it h so_far = so_far ∙ ap (list_any (λ request. id_in matched request == id)) (take_all n requests h)

any_same : (f g : ℕ → Bool) (xs : List ℕ) → ((x : ℕ) → f x ≡ g x) → list_any f xs ≡ list_any g xs
any_same f g [] same = refl
any_same f g (x ∷ xs) same = ap (λ (b : Bool). b || list_any f xs) (same x) ∙ ap (λ (b : Bool). g x || b) (any_same f g xs same)

-- by the messages of all lines they are what the requests stand for
pub ids_are : (lines : List Line) (matched : Standing) (requests : List ℕ) (id : ℕ) (it : Bool) → ((request : ℕ) → message_for matched request ≡ matched_message lines request)
    → requests ≡ freed lines → it ≡ list_any (λ request. id_in matched request == id) requests → it ≡ is_freed lines (Own id)
ids_are lines matched requests id it same all is =
    is ∙ ap (list_any (λ request. id_in matched request == id)) all
    ∙ any_same (λ request. id_in matched request == id) (λ request. same_id (id_of lines request) (Own id)) (freed lines)
    (λ request. ap (λ (one : Id). same_id one (Own id)) (id_same lines matched request (same request)))

-- what is so of an answer is so in other words
pub if_ok : {T E : Type 0} (answer : Result T E) (P Q : T → Type 0) → ((it : T) → P it → Q it) → IfOk answer P → IfOk answer Q
if_ok (Ok it) P Q says is = says it is
if_ok (Err fault) P Q says is = tt

-- ---- Sets with nothing in them ----

pub none_has : {S : Type 0} (it : HashSet ℕ S) (id : ℕ) → it.keys ≡ [] → contains nat_eq it id ≡ false
none_has it id none = ap (list_any (nat_eq id)) none

pub none_are : {S : Type 0} (it : HashSet ℕ S) (lines : List Line) (requests : List ℕ) (id : ℕ) → requests ≡ freed lines → requests ≡ [] → it.keys ≡ []
    → contains nat_eq it id ≡ is_freed lines (Own id)
none_are it lines requests id all none empty =
    none_has it id empty ∙ ap (list_any (λ request. same_id (id_of lines request) (Own id))) (sym none ∙ all)

-- a set without members has none
none_in : (keys : List ℕ) → length keys ≡ 0 → (number : ℕ) → false ≡ list_any (nat_eq number) keys
none_in [] empty number = refl
none_in (key ∷ keys) empty number = absurd (omega (arith, empty))

pub none_among_none : {S : Type 0} (it : HashSet ℕ S) → hash_set_len it ≡ 0 → (number : ℕ) → false ≡ contains nat_eq it number
none_among_none it empty number = none_in it.keys empty number
