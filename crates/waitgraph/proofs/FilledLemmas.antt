-- A recording whose sinks are met: its calls, their numbers and their partners.
use Rattle.std.proofs.Common.{inl, inr, ◌≡◌, ◌⊎◌, ℕ, zero, suc, ◌+◌, ◌-◌, ◌<◌, ◌≤◌, Bool, true, false, ◌||◌, ◌==◌, if◌then◌else◌, Option, Some, None, List, [], ◌∷◌, ◌++◌, length, map, take, drop, refl, sym, ap, subst, ◌∙◌, ⊎_elim, arith, append-nil}
use Rattle.std.specs.List.{slice_get, list_any}
use Rattle.std.specs.Option.{option_and_then, option_map_or}
use Rattle.std.proofs.lemmas.List.{take-append-le, drop-map}
use Rattle.std.proofs.lemmas.Option.{none-some, same_Some, slice_get_within}
use Rattle.std.proofs.lemmas.Bool.{cases_Bool, cases_lt, false≢true}
use Rattle.mpicall.specs.declared.call.Call.{Call}
use Rattle.mpicall.specs.declared.call.Call.TheVariants.{Irecv, Open}
use Rattle.mpicall.specs.declared.call.Peer.{Peer}
use Rattle.mpicall.specs.declared.call.Peer.TheVariants as peer
use Rattle.callstore.specs.Recordings.{Lists, calls_of}
use Rattle.callstore.specs.Places.{places, places_from}
use Rattle.callstore.specs.Requests.{does_start, does_complete, last_of, unless_completed, started_in, started_before}
use Rattle.callstore.proofs.PlaceLemmas.{nth_place, place_nth, slice_get-front, slice_get_there}
use Rattle.pairing.specs.LeftOpen.{is_left_open}
use Rattle.waitgraph.specs.Stays.{calls_before_open}
use Rattle.waitgraph.specs.Pending.{Known}
use Rattle.waitgraph.specs.PendingStays.{FitsSinks, IsMet, IsFilled, GoesOnBy}
use Rattle.waitgraph.proofs.StaysLemmas.{last_open}

-- lists of which a test passes at the same places
pub map_same : {A : Type 0} (test : A → Bool) (xs ys : List A) (n : ℕ) → length xs ≡ length ys → ((i : ℕ) (x y : A) → i < n → slice_get xs i ≡ Some x → slice_get ys i ≡ Some y → test x ≡ test y) → map test (take n xs) ≡ map test (take n ys)
map_same test xs ys zero len same = refl
map_same test [] [] (suc n) len same = refl
map_same test [] (y ∷ ys) (suc n) len same = absurd (omega (arith, len))
map_same test (x ∷ xs) [] (suc n) len same = absurd (omega (arith, len))
map_same test (x ∷ xs) (y ∷ ys) (suc n) len same =
    let first : test x ≡ test y = same 0 x y (omega arith) refl refl in
    let len' : length xs ≡ length ys = omega (arith, len) in
    let rest = map_same test xs ys n len' (λ i a b less one two. same (suc i) a b (omega (arith, less)) one two) in
    ap (λ (b : Bool). b ∷ map test (take n xs)) first ∙ ap (λ (bs : List Bool). test y ∷ bs) rest

places_by_map : {A : Type 0} (n : ℕ) (test : A → Bool) (xs : List A) → places_from n test xs ≡ places_from n (λ (b : Bool). b) (map test xs)
places_by_map n test [] = refl
places_by_map n test (x ∷ xs) =
    ⊎_elim
    (λ (is : test x ≡ true). rw is (ap (λ (ps : List ℕ). n ∷ ps) (places_by_map (n + 1) test xs)))
    (λ (no : test x ≡ false). rw no (places_by_map (n + 1) test xs))
    (cases_Bool (test x))

any_by_map : {A : Type 0} (test : A → Bool) (xs : List A) → list_any test xs ≡ list_any (λ (b : Bool). b) (map test xs)
any_by_map test [] = refl
any_by_map test (x ∷ xs) = ap (λ (b : Bool). test x || b) (any_by_map test xs)

pub places_same : {A : Type 0} (test : A → Bool) (xs ys : List A) → map test xs ≡ map test ys → places test xs ≡ places test ys
places_same test xs ys same = places_by_map 0 test xs ∙ ap (λ (bs : List Bool). places_from 0 (λ (b : Bool). b) bs) same ∙ sym (places_by_map 0 test ys)

any_same : {A : Type 0} (test : A → Bool) (xs ys : List A) → map test xs ≡ map test ys → list_any test xs ≡ list_any test ys
any_same test xs ys same = any_by_map test xs ∙ ap (λ (bs : List Bool). list_any (λ (b : Bool). b) bs) same ∙ sym (any_by_map test ys)

started_same : (xs ys : List Call) (req : ℕ) → map (does_start req) xs ≡ map (does_start req) ys → map (does_complete req) xs ≡ map (does_complete req) ys → started_in xs req ≡ started_in ys req
started_same xs ys req starts_alike completes_alike =
    ap (λ (ps : List ℕ). option_and_then (unless_completed xs req) (last_of ps)) (places_same (does_start req) xs ys starts_alike)
    ∙ by_last (last_of (places (does_start req) ys))
  where
    by_last : (o : Option ℕ) → option_and_then (unless_completed xs req) o ≡ option_and_then (unless_completed ys req) o
    by_last None = refl
    by_last (Some p) =
        let dropped : map (does_complete req) (drop (p + 1) xs) ≡ map (does_complete req) (drop (p + 1) ys) =
        sym (drop-map (does_complete req) (p + 1) xs) ∙ ap (λ (bs : List Bool). drop (p + 1) bs) completes_alike ∙ drop-map (does_complete req) (p + 1) ys in
        let same : list_any (does_complete req) (drop (p + 1) xs) ≡ list_any (does_complete req) (drop (p + 1) ys) = any_same (does_complete req) (drop (p + 1) xs) (drop (p + 1) ys) dropped in
        ap (λ (b : Bool). if b then None else Some p) same

-- a list with its open, or without one
pub as_ended : (recording : Lists) (k : ℕ) → ((is_left_open recording k ≡ false) × (calls_of recording k ≡ calls_before_open recording k)) ⊎ ((is_left_open recording k ≡ true) × (calls_of recording k ≡ calls_before_open recording k ++ Open ∷ []))
as_ended recording k =
    ⊎_elim
    (λ (is : is_left_open recording k ≡ true).
    let before : calls_before_open recording k ≡ take (length (calls_of recording k) - 1) (calls_of recording k) = rw is refl in
    inr (is, last_open (calls_of recording k) is ∙ ap (λ (calls : List Call). calls ++ Open ∷ []) (sym before)))
    (λ (no : is_left_open recording k ≡ false).
    let before : calls_before_open recording k ≡ calls_of recording k = rw no refl in
    inl (no, sym before))
    (cases_Bool (is_left_open recording k))

-- the first calls of the recording
pub front_call : (recording : Lists) (k place : ℕ) → place < length (calls_before_open recording k) → slice_get (calls_of recording k) place ≡ slice_get (calls_before_open recording k) place
front_call recording k place within =
    ⊎_elim
    (λ one. ap (λ (calls : List Call). slice_get calls place) one.1)
    (λ is_open. ap (λ (calls : List Call). slice_get calls place) is_open.1 ∙ slice_get-front (calls_before_open recording k) (Open ∷ []) place within)
    (as_ended recording k)

pub front_take : (recording : Lists) (k n : ℕ) → n ≤ length (calls_before_open recording k) → take n (calls_of recording k) ≡ take n (calls_before_open recording k)
front_take recording k n within =
    ⊎_elim
    (λ one. ap (λ (calls : List Call). take n calls) one.1)
    (λ is_open. ap (λ (calls : List Call). take n calls) is_open.1 ∙ take-append-le n (calls_before_open recording k) (Open ∷ []) within)
    (as_ended recording k)

-- a call that isn't the open is one of the first
pub not_open : (recording : Lists) (k place : ℕ) (call : Call) → slice_get (calls_of recording k) place ≡ Some call → (call ≡ Open → ⊥) → place < length (calls_before_open recording k)
not_open recording k place call there isnt =
    ⊎_elim
    (λ one. slice_get_within (calls_before_open recording k) place call (rw one.1 at there))
    (λ is_open.
    ⊎_elim
    (λ (less : place < length (calls_before_open recording k)). less)
    (λ (past : length (calls_before_open recording k) ≤ place). absurd (isnt (past_end (calls_before_open recording k) call place (rw is_open.1 at there) past)))
    (cases_lt place (length (calls_before_open recording k))))
    (as_ended recording k)
  where
    past_end : (xs : List Call) (x : Call) (i : ℕ) → slice_get (xs ++ Open ∷ []) i ≡ Some x → length xs ≤ i → x ≡ Open
    past_end [] x zero h past = sym (same_Some Open x h)
    past_end [] x (suc i) h past = absurd (none-some x h)
    past_end (y ∷ ys) x zero h past = absurd (omega arith)
    past_end (y ∷ ys) x (suc i) h past = past_end ys x i h (omega arith)

module _ (recording later : Lists) (known : Known) (fits : FitsSinks recording known.sinks) (h : GoesOnBy recording known later) where
  -- the call of each place before the open, and what stands there later
  pub record Pair (k place : ℕ) : Type 0 where
    pub before : Call
    pub after : Call
    pub was : slice_get (calls_before_open recording k) place ≡ Some before
    pub is : slice_get (h.filled k) place ≡ Some after
    pub filled : IsFilled known.sinks k place before after

  pub pair_at : (k place : ℕ) → place < length (calls_before_open recording k) → Pair k place
  pair_at k place within =
      let one = slice_get_there (calls_before_open recording k) place within in
      let within' : place < length (h.filled k) = omega (arith, within, h.same_length k) in
      let two = slice_get_there (h.filled k) place within' in
      record { before = one.0; after = two.0; was = one.1; is = two.1; filled = h.fills k place one.0 two.0 one.1 two.1 }

  pub later_call : (k place : ℕ) → place < length (calls_before_open recording k) → slice_get (calls_of later k) place ≡ slice_get (h.filled k) place
  later_call k place within =
      ap (λ (calls : List Call). slice_get calls place) (h.goes_on k) ∙ slice_get-front (h.filled k) (h.more k) place (omega (arith, within, h.same_length k))

  pub later_take : (k n : ℕ) → n ≤ length (calls_before_open recording k) → take n (calls_of later k) ≡ take n (h.filled k)
  later_take k n within =
      ap (λ (calls : List Call). take n calls) (h.goes_on k) ∙ take-append-le n (h.filled k) (h.more k) (omega (arith, within, h.same_length k))

  -- what stood in the place of a sink
  pub was_null : (k place : ℕ) (before after : Call) → IsMet known.sinks k place before after → slice_get (calls_before_open recording k) place ≡ Some before → place < length (calls_before_open recording k) → (req : ℕ) × (comm : ℕ) × (tag : ℕ) × (before ≡ Irecv req comm peer.Null tag)
  was_null k place before after met was within =
      let has = fits.have_places met.there.index met.there.sink met.there.is_one in
      let there : slice_get (calls_of recording k) place ≡ Some (Irecv has.req has.comm peer.Null has.tag) =
      subst (λ (p : ℕ). slice_get (calls_of recording k) p ≡ Some (Irecv has.req has.comm peer.Null has.tag)) met.there.is_place
      (subst (λ (r : ℕ). slice_get (calls_of recording r) met.there.sink.place ≡ Some (Irecv has.req has.comm peer.Null has.tag)) met.there.is_rank has.is_there) in
      (has.req, has.comm, has.tag, same_Some before (Irecv has.req has.comm peer.Null has.tag) (sym was ∙ sym (front_call recording k place within) ∙ there))

  -- a test that no receive passes that is started
  abbrev pub IsBlind : (Call → Bool) → Type 0
  IsBlind test = (req comm : ℕ) (p : Peer) (tag : ℕ) → test (Irecv req comm p tag) ≡ false

  blind_same : (test : Call → Bool) → IsBlind test → (k place : ℕ) (before after : Call) → slice_get (calls_before_open recording k) place ≡ Some before → slice_get (h.filled k) place ≡ Some after → test after ≡ test before
  blind_same test blind k place before after was is = by_kind (h.fills k place before after was is)
    where
      by_kind : IsFilled known.sinks k place before after → test after ≡ test before
      by_kind (inl same) = ap test same
      by_kind (inr met) =
          let null = was_null k place before after met was (slice_get_within (calls_before_open recording k) place before was) in
          ap test met.is_receive ∙ blind met.req met.comm (peer.Rank met.source) met.tag ∙ sym (ap test null.3 ∙ blind null.0 null.1 peer.Null null.2)

  starts_same : (req k place : ℕ) (before after : Call) → slice_get (calls_before_open recording k) place ≡ Some before → slice_get (h.filled k) place ≡ Some after → does_start req after ≡ does_start req before
  starts_same req k place before after was is = by_kind (h.fills k place before after was is)
    where
      by_kind : IsFilled known.sinks k place before after → does_start req after ≡ does_start req before
      by_kind (inl same) = ap (does_start req) same
      by_kind (inr met) = ap (λ (o : Option ℕ). option_map_or (λ started. started == req) o false) met.same_request

  fill_map : (test : Call → Bool) (k n : ℕ) → ((place : ℕ) (before after : Call) → place < n → slice_get (calls_before_open recording k) place ≡ Some before → slice_get (h.filled k) place ≡ Some after → test after ≡ test before) → map test (take n (h.filled k)) ≡ map test (take n (calls_before_open recording k))
  fill_map test k n same = map_same test (h.filled k) (calls_before_open recording k) n (h.same_length k) (λ i x y less one two. same i y x less two one)

  calls_map : (test : Call → Bool) (k n : ℕ) → n ≤ length (calls_before_open recording k) → ((place : ℕ) (before after : Call) → place < n → slice_get (calls_before_open recording k) place ≡ Some before → slice_get (h.filled k) place ≡ Some after → test after ≡ test before) → map test (take n (calls_of later k)) ≡ map test (take n (calls_of recording k))
  calls_map test k n within same =
      ap (λ (calls : List Call). map test calls) (later_take k n within) ∙ fill_map test k n same ∙ sym (ap (λ (calls : List Call). map test calls) (front_take recording k n within))

  -- the same places before one, where no sink before it was met by what passes
  pub fronts_same : (test : Call → Bool) (k p : ℕ) → p ≤ length (calls_before_open recording k) → ((req comm tag : ℕ) → test (Irecv req comm peer.Null tag) ≡ false) → ((q : ℕ) (before after : Call) → q < p → IsMet known.sinks k q before after → test after ≡ false) → places test (take p (calls_of later k)) ≡ places test (take p (calls_of recording k))
  fronts_same test k p within null_fails apart =
      places_same test (take p (calls_of later k)) (take p (calls_of recording k)) (calls_map test k p within alike)
    where
      by_kind : (q : ℕ) (before after : Call) → q < p → slice_get (calls_before_open recording k) q ≡ Some before → IsFilled known.sinks k q before after → test after ≡ test before
      by_kind q before after less was (inl same) = ap test same
      by_kind q before after less was (inr met) =
          let null = was_null k q before after met was (slice_get_within (calls_before_open recording k) q before was) in
          apart q before after less met ∙ sym (ap test null.3 ∙ null_fails null.0 null.1 null.2)

      alike : (q : ℕ) (before after : Call) → q < p → slice_get (calls_before_open recording k) q ≡ Some before → slice_get (h.filled k) q ≡ Some after → test after ≡ test before
      alike q before after less was is = by_kind q before after less was (h.fills k q before after was is)

  pub blind_fronts : (test : Call → Bool) → IsBlind test → (k p : ℕ) → p ≤ length (calls_before_open recording k) → places test (take p (calls_of later k)) ≡ places test (take p (calls_of recording k))
  blind_fronts test blind k p within =
      places_same test (take p (calls_of later k)) (take p (calls_of recording k)) (calls_map test k p within (λ q before after less was is. blind_same test blind k q before after was is))

  -- a request was started at the same place
  pub started_alike : (k p req : ℕ) → p ≤ length (calls_before_open recording k) → started_before later k p req ≡ started_before recording k p req
  started_alike k p req within =
      started_same (take p (calls_of later k)) (take p (calls_of recording k)) req
      (calls_map (does_start req) k p within (λ q before after less was is. starts_same req k q before after was is))
      (calls_map (does_complete req) k p within (λ q before after less was is. blind_same (does_complete req) (λ r c p t. refl) k q before after was is))

  -- a test that fails for what is in the place of a sink, and for what a sink was met by before a call that passes
  pub record Mild (k : ℕ) (test : Call → Bool) : Type 0 where
    pub not_open : test Open ≡ false
    pub null_fails : (req comm tag : ℕ) → test (Irecv req comm peer.Null tag) ≡ false
    pub apart : (p q : ℕ) (call before after : Call) → q < p → slice_get (calls_of recording k) p ≡ Some call → test call ≡ true → IsMet known.sinks k q before after → test after ≡ false

  -- the calls that pass keep their numbers
  pub on : (k : ℕ) (test : Call → Bool) → Mild k test → (number there : ℕ) → slice_get (places test (calls_of recording k)) number ≡ Some there → slice_get (places test (calls_of later k)) number ≡ Some there
  on k test mild number there found =
      let nth = nth_place 0 test (calls_of recording k) number there found in
      let same : nth.index ≡ there = omega (arith, nth.place) in
      let stands : slice_get (calls_of recording k) there ≡ Some nth.element = subst (λ (i : ℕ). slice_get (calls_of recording k) i ≡ Some nth.element) same nth.stands_there in
      let isnt_open : nth.element ≡ Open → ⊥ = λ is. false≢true (sym mild.not_open ∙ sym (ap test is) ∙ nth.passes) in
      let within = not_open recording k there nth.element stands isnt_open in
      let pair = pair_at k there within in
      let was : pair.before ≡ nth.element = same_Some pair.before nth.element (sym pair.was ∙ sym (front_call recording k there within) ∙ stands) in
      let stays : slice_get (calls_of later k) there ≡ Some nth.element = later_call k there within ∙ pair.is ∙ ap (λ (c : Call). Some c) (by_kind there pair.before pair.after pair.was within nth.passes was pair.filled ∙ was) in
      let count : length (places test (take there (calls_of later k))) ≡ number =
      ap (length {A = ℕ}) (fronts_same test k there (omega (arith, within)) mild.null_fails (λ q before after less met. mild.apart there q nth.element before after less stands nth.passes met))
      ∙ subst (λ (i : ℕ). length (places test (take i (calls_of recording k))) ≡ number) same nth.before in
      subst (λ (n : ℕ). slice_get (places test (calls_of later k)) n ≡ Some there) count (place_nth 0 test (calls_of later k) there nth.element stays nth.passes ∙ ap (λ (m : ℕ). Some m) (omega arith))
    where
      by_kind : (there : ℕ) (before after : Call) → slice_get (calls_before_open recording k) there ≡ Some before → there < length (calls_before_open recording k) → {element : Call} → test element ≡ true → before ≡ element → IsFilled known.sinks k there before after → after ≡ before
      by_kind there before after was within passes is (inl same) = same
      by_kind there before after was within passes is (inr met) =
          let null = was_null k there before after met was within in
          absurd (false≢true (sym (mild.null_fails null.0 null.1 null.2) ∙ ap test (sym null.3) ∙ ap test is ∙ passes))

  -- a call that passes after the place of an open
  pub record Past (k : ℕ) (test : Call → Bool) (there : ℕ) : Type 0 where
    pub is_open : is_left_open recording k ≡ true
    pub is_past : length (calls_before_open recording k) ≤ there
    pub call : Call
    pub stands_there : slice_get (calls_of later k) there ≡ Some call
    pub passes : test call ≡ true

  -- a sink that was met by what passes, where the recording has no such call with the number
  pub record Sunk (k : ℕ) (test : Call → Bool) (number there : ℕ) : Type 0 where
    pub before : Call
    pub after : Call
    pub met : IsMet known.sinks k there before after
    pub within : there < length (calls_before_open recording k)
    pub is : slice_get (h.filled k) there ≡ Some after
    pub passes : test after ≡ true
    pub none : slice_get (places test (calls_of recording k)) number ≡ None

  -- the call that passes with the number later: the same, or one after an open, or in a sink's place
  pub back : (k : ℕ) (test : Call → Bool) → Mild k test → (number there : ℕ) → slice_get (places test (calls_of later k)) number ≡ Some there → (slice_get (places test (calls_of recording k)) number ≡ Some there) ⊎ (Past k test there ⊎ Sunk k test number there)
  back k test mild number there found = by_old (slice_get (places test (calls_of recording k)) number) refl
    where
      here : (call : Call) → slice_get (calls_of later k) there ≡ Some call → test call ≡ true → length (places test (take there (calls_of later k))) ≡ number → slice_get (places test (calls_of recording k)) number ≡ None → there < length (calls_before_open recording k) → Pair k there → Sunk k test number there
      here call stands passes before none within pair = by_kind pair.filled
        where
          is : pair.after ≡ call
          is = same_Some pair.after call (sym pair.is ∙ sym (later_call k there within) ∙ stands)

          by_kind : IsFilled known.sinks k there pair.before pair.after → Sunk k test number there
          by_kind (inl same) =
              let old : slice_get (calls_of recording k) there ≡ Some call = front_call recording k there within ∙ pair.was ∙ ap (λ (c : Call). Some c) (sym same ∙ is) in
              let count : length (places test (take there (calls_of recording k))) ≡ number =
              sym (ap (length {A = ℕ}) (fronts_same test k there (omega (arith, within)) mild.null_fails (λ q one two less met. mild.apart there q call one two less old passes met))) ∙ before in
              let slot : slice_get (places test (calls_of recording k)) number ≡ Some there =
              subst (λ (n : ℕ). slice_get (places test (calls_of recording k)) n ≡ Some there) count (place_nth 0 test (calls_of recording k) there call old passes ∙ ap (λ (m : ℕ). Some m) (omega arith)) in
              absurd (none-some there (sym none ∙ slot))
          by_kind (inr met) = record { before = pair.before; after = pair.after; met = met; within = within; is = pair.is; passes = ap test is ∙ passes; none = none }

      by_old : (o : Option ℕ) → slice_get (places test (calls_of recording k)) number ≡ o → (slice_get (places test (calls_of recording k)) number ≡ Some there) ⊎ (Past k test there ⊎ Sunk k test number there)
      by_old (Some p) is =
          let same : p ≡ there = same_Some p there (sym (on k test mild number p is) ∙ found) in
          inl (is ∙ ap (λ (i : ℕ). Some i) same)
      by_old None none =
          let nth = nth_place 0 test (calls_of later k) number there found in
          let same : nth.index ≡ there = omega (arith, nth.place) in
          let stands : slice_get (calls_of later k) there ≡ Some nth.element = subst (λ (i : ℕ). slice_get (calls_of later k) i ≡ Some nth.element) same nth.stands_there in
          let before : length (places test (take there (calls_of later k))) ≡ number = subst (λ (i : ℕ). length (places test (take i (calls_of later k))) ≡ number) same nth.before in
          ⊎_elim
          (λ (within : there < length (calls_before_open recording k)). inr (inr (here nth.element stands nth.passes before none within (pair_at k there within))))
          (λ (past : length (calls_before_open recording k) ≤ there).
          inr (inl (record { is_open = opens nth.element stands past; is_past = past; call = nth.element; stands_there = stands; passes = nth.passes })))
          (cases_lt there (length (calls_before_open recording k)))
        where
          opens : (call : Call) → slice_get (calls_of later k) there ≡ Some call → length (calls_before_open recording k) ≤ there → is_left_open recording k ≡ true
          opens call stands past =
              ⊎_elim
              (λ (is : is_left_open recording k ≡ true). is)
              (λ (no : is_left_open recording k ≡ false).
              let list : calls_of later k ≡ h.filled k = h.goes_on k ∙ ap (λ (calls : List Call). h.filled k ++ calls) (h.ended k no) ∙ append-nil (h.filled k) in
              let less = slice_get_within (h.filled k) there call (rw list at stands) in
              absurd (omega (arith, less, past, h.same_length k)))
              (cases_Bool (is_left_open recording k))
