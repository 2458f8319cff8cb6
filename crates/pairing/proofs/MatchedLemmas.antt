-- Pending halves by the numbers of their envelopes.
use Rattle.std.proofs.Common.{◌≡◌, ℕ, ◌+◌, ◌*◌, ◌<◌, ◌≤◌, true, false, Option, Some, None, List, [], ◌∷◌, ◌++◌, length, set, drop, get_or, refl, sym, ap, ◌∙◌, ⊎_elim, arith, get_or-set_same, get_or-set_other}
use Rattle.std.specs.Prelude.{is_some, if◌then◌else◌}
use Rattle.std.specs.List.{slice_get, list_any, position_or_len, IsDistinct}
use Rattle.std.specs.Option.{option_map_or}
use Rattle.std.proofs.lemmas.List.Quantifiers.{position-Some}
use Rattle.std.proofs.lemmas.List.Sums.{position_or_len_is}
use Rattle.std.proofs.lemmas.Map.Keys.{apart_from_distinct}
use Rattle.std.proofs.lemmas.Option.{slice_get_within, get_or_from_slice_get}
use Rattle.std.proofs.lemmas.Bool.{false≢true, cases_Bool}
use Rattle.indexmap.specs.IndexSet.{insert_key}
use Rattle.arenaqueue.specs.Numbers.{list_at}
use Rattle.callstore.specs.declared.envelope.Envelope.{Envelope}
use Rattle.callstore.specs.declared.envelope.Half.{Half}
use Rattle.callstore.specs.declared.envelope.Half.TheVariants.{Send as SendHalf, Recv as RecvHalf}
use Rattle.callstore.specs.Envelopes.{other_half, same_envelope}
use Rattle.pairing.specs.inner.Matched.{Matching, HaveLists, number_in, list_no, pending_at, pending_by, met_if, met, HasPending, IsGrown}
use Rattle.callstore.proofs.NumberLemmas.{position_at, position_cases, number_stays, number_past}
use Rattle.callstore.proofs.PlaceLemmas.{slice_get_there}
use Rattle.pairing.proofs.RequestLaws.{some_parts}
use Rattle.pairing.proofs.PartnerLemmas.{same_envelope_true, same_envelope_refl}

-- a place is taken out of a list, or put into one
pub met_popped : (lists : List (List ℕ)) (half : Half) (number place there l : ℕ) → l ≡ list_no (other_half half) number → slice_get (list_at lists l) 0 ≡ Some there → set lists l (drop 1 (list_at lists l)) ≡ met lists half number place
met_popped lists half number place there l is front =
    let first : slice_get (pending_at lists (other_half half) number) 0 ≡ Some there = ap (λ (m : ℕ). slice_get (list_at lists m) 0) (sym is) ∙ front in
    ap (λ (m : ℕ). set lists m (drop 1 (list_at lists m))) is
    ∙ ap (λ (o : Option ℕ). met_if (is_some o) lists half number place) (sym first)

pub met_pushed : (lists : List (List ℕ)) (half : Half) (number place l m : ℕ) → l ≡ list_no half number → m ≡ list_no (other_half half) number → slice_get (list_at lists m) 0 ≡ None → set lists l (list_at lists l ++ place ∷ []) ≡ met lists half number place
met_pushed lists half number place l m is other front =
    let first : slice_get (pending_at lists (other_half half) number) 0 ≡ None = ap (λ (k : ℕ). slice_get (list_at lists k) 0) (sym other) ∙ front in
    ap (λ (k : ℕ). set lists k (list_at lists k ++ place ∷ [])) is
    ∙ ap (λ (o : Option ℕ). met_if (is_some o) lists half number place) (sym first)

-- the numbers of lists
pub list_no_most : (half : Half) (number : ℕ) → list_no half number ≤ 2 * number + 1
list_no_most SendHalf number = omega arith
list_no_most RecvHalf number = omega arith

pub list_no_least : (half : Half) (number : ℕ) → 2 * number ≤ list_no half number
list_no_least SendHalf number = omega arith
list_no_least RecvHalf number = omega arith

-- two envelopes with one number are one
pub one_number : (keys : List Envelope) (e f : Envelope) (number : ℕ) → number_in keys e ≡ Some number → number_in keys f ≡ Some number → f ≡ e
one_number keys e f number is is' =
    let own = (position-Some (same_envelope e) keys number e is).1 in
    let theirs = (position-Some (same_envelope f) keys number e is').1 in
    same_envelope_true f (get_or keys number e) theirs ∙ sym (same_envelope_true e (get_or keys number e) own)

-- more keys: the same ones, or one more at the end, whose lists are empty
pub grown_same : (old new : Matching) → new.keys ≡ old.keys → new.lists ≡ old.lists → old.spare ≤ new.spare → new.work ≡ old.work → IsGrown old new
grown_same old new keys lists spare work = record {
  numbers = λ e number is. ap (λ (ks : List Envelope). number_in ks e) keys ∙ is;
  pending = λ half e. ap (λ (ks : List Envelope). option_map_or (pending_at new.lists half) (number_in ks e) []) keys ∙ ap (λ (ls : List (List ℕ)). option_map_or (pending_at ls half) (number_in old.keys e) []) lists;
  spare = spare;
  work = work;
}

pub grown_key : (old new : Matching) (key : Envelope) → new.keys ≡ old.keys ++ key ∷ [] → new.lists ≡ old.lists → ((l : ℕ) → 2 * length old.keys ≤ l → list_at old.lists l ≡ []) → old.spare ≤ new.spare → new.work ≡ old.work → IsGrown old new
grown_key old new key keys lists unused spare work = record {
  numbers = λ e number is. ap (λ (ks : List Envelope). number_in ks e) keys ∙ number_stays (same_envelope e) old.keys key number is;
  pending = λ half e. ap (λ (ls : List (List ℕ)). option_map_or (pending_at ls half) (number_in new.keys e) []) lists ∙ ap (λ (ks : List Envelope). option_map_or (pending_at old.lists half) (number_in ks e) []) keys ∙ shows half e;
  spare = spare;
  work = work;
}
  where
    shows_past : (half : Half) (o : Option ℕ) → ((number : ℕ) → o ≡ Some number → length old.keys ≤ number) → option_map_or (pending_at old.lists half) o [] ≡ []
    shows_past half None past = refl
    shows_past half (Some number) past = unused (list_no half number) (omega (arith, past number refl, list_no_least half number))

    shows : (half : Half) (e : Envelope) → option_map_or (pending_at old.lists half) (number_in (old.keys ++ key ∷ []) e) [] ≡ option_map_or (pending_at old.lists half) (number_in old.keys e) []
    shows half e =
        ⊎_elim
        (λ found. ap (λ (o : Option ℕ). option_map_or (pending_at old.lists half) o []) (number_stays (same_envelope e) old.keys key found.0 found.1 ∙ sym found.1))
        (λ absent.
        shows_past half (number_in (old.keys ++ key ∷ []) e) (past_end e absent.0 absent.1)
        ∙ sym (ap (λ (o : Option ℕ). option_map_or (pending_at old.lists half) o []) absent.0))
        (position_cases (same_envelope e) old.keys)
      where
        past_end : (f : Envelope) → number_in old.keys f ≡ None → position_or_len (same_envelope f) old.keys ≡ length old.keys → (number : ℕ) → number_in (old.keys ++ key ∷ []) f ≡ Some number → length old.keys ≤ number
        past_end f none len number is = number_past (same_envelope f) old.keys key len number is

-- where an envelope gets a number
abbrev pub matching : List Envelope → List (List ℕ) → ℕ → ℕ → Matching
matching keys lists spare work = record { keys = keys; lists = lists; spare = spare; work = work }

pub insert_grown : (keys keys' : List Envelope) (key : Envelope) (lists : List (List ℕ)) (spare work : ℕ) → keys' ≡ insert_key same_envelope keys key → HaveLists lists (length keys) → IsGrown (matching keys lists spare work) (matching keys' lists spare work)
insert_grown keys keys' key lists spare work is have =
    ⊎_elim
    (λ (there : list_any (same_envelope key) keys ≡ true).
    grown_same (matching keys lists spare work) (matching keys' lists spare work)
    (is ∙ ap (λ b. if b then keys else keys ++ key ∷ []) there) refl (omega arith) refl)
    (λ (absent : list_any (same_envelope key) keys ≡ false).
    grown_key (matching keys lists spare work) (matching keys' lists spare work) key
    (is ∙ ap (λ b. if b then keys else keys ++ key ∷ []) absent) refl
    have.unused (omega arith) refl)
    (cases_Bool (list_any (same_envelope key) keys))

-- what is pending once a list is written: the new places in it, and the same in the others
list_no_one : (h half : Half) (m number : ℕ) → list_no h m ≡ list_no half number → (h ≡ half) × (m ≡ number)
list_no_one SendHalf SendHalf m number same = (refl, omega (arith, same))
list_no_one RecvHalf RecvHalf m number same = (refl, omega (arith, same))
list_no_one SendHalf RecvHalf m number same = absurd (omega (arith, same))
list_no_one RecvHalf SendHalf m number same = absurd (omega (arith, same))

pub written_own : (keys : List Envelope) (lists : List (List ℕ)) (half : Half) (e : Envelope) (number : ℕ) (ps : List ℕ) → number_in keys e ≡ Some number → list_no half number < length lists → option_map_or (pending_at (set lists (list_no half number) ps) half) (number_in keys e) [] ≡ ps
written_own keys lists half e number ps is within =
    ap (λ (o : Option ℕ). option_map_or (pending_at (set lists (list_no half number) ps) half) o []) is
    ∙ get_or-set_same lists (list_no half number) ps [] within

pub written_rest : (keys : List Envelope) (lists : List (List ℕ)) (half : Half) (e : Envelope) (number : ℕ) (ps : List ℕ) → number_in keys e ≡ Some number → (h : Half) (f : Envelope) → ((h ≡ half) × (f ≡ e) → ⊥) → option_map_or (pending_at (set lists (list_no half number) ps) h) (number_in keys f) [] ≡ option_map_or (pending_at lists h) (number_in keys f) []
written_rest keys lists half e number ps is h f differs = by_number (number_in keys f) refl
  where
    by_number : (o : Option ℕ) → number_in keys f ≡ o → option_map_or (pending_at (set lists (list_no half number) ps) h) o [] ≡ option_map_or (pending_at lists h) o []
    by_number None theirs = refl
    by_number (Some m) theirs =
        get_or-set_other lists (list_no half number) (list_no h m) ps []
        (λ same.
        let one = list_no_one h half m number same in
        differs (one.0, one_number keys e f number is (theirs ∙ ap (λ (k : ℕ). Some k) one.1)))

-- an envelope has the number at which it is
pub own_number : (keys : List Envelope) (e : Envelope) (number : ℕ) → IsDistinct same_envelope keys → slice_get keys number ≡ Some e → number_in keys e ≡ Some number
own_number keys e number distinct is =
    let within = slice_get_within keys number e is in
    let here : get_or keys number e ≡ e = get_or_from_slice_get keys number e e is in
    let before : (k : ℕ) → k < number → same_envelope e (get_or keys k e) ≡ false =
    λ k below.
    ⊎_elim
    (λ (same : same_envelope e (get_or keys k e) ≡ true).
    let apart = apart_from_distinct same_envelope keys k number e distinct below within in
    absurd (false≢true (sym apart ∙ ap (λ (f : Envelope). same_envelope (get_or keys k e) f) (here ∙ same_envelope_true e (get_or keys k e) same) ∙ same_envelope_refl (get_or keys k e))))
    (λ (differs : same_envelope e (get_or keys k e) ≡ false). differs)
    (cases_Bool (same_envelope e (get_or keys k e))) in
    position_at (same_envelope e) keys number
    (position_or_len_is (same_envelope e) keys number e (omega (arith, within)) before (λ _. rw here (same_envelope_refl e)))
    within

-- a list without a first place has none
pub no_first : (xs : List ℕ) → is_some (slice_get xs 0) ≡ false → xs ≡ []
no_first [] none = refl
no_first (x ∷ xs) none = absurd (false≢true (sym none))

pub pending_there : (matching : Matching) (half : Half) (number : ℕ) → IsDistinct same_envelope matching.keys → number < length matching.keys → is_some (slice_get (pending_at matching.lists half number) 0) ≡ true → HasPending matching half
pending_there matching half number distinct within has =
    let key = slice_get_there matching.keys number within in
    let first = some_parts (slice_get (pending_at matching.lists half number) 0) has in
    record {
      envelope = key.0;
      place = first.0;
      is_first = ap (λ (o : Option ℕ). slice_get (option_map_or (pending_at matching.lists half) o []) 0) (own_number matching.keys key.0 number distinct key.1) ∙ first.1;
    }

pub none_pending : (matching : Matching) (half : Half) → ((number : ℕ) → number < length matching.keys → pending_at matching.lists half number ≡ []) → (e : Envelope) → pending_by matching half e ≡ []
none_pending matching half none e = by_number (number_in matching.keys e) refl
  where
    by_number : (o : Option ℕ) → number_in matching.keys e ≡ o → option_map_or (pending_at matching.lists half) o [] ≡ []
    by_number None is = refl
    by_number (Some number) is = none number (position-Some (same_envelope e) matching.keys number e is).0
