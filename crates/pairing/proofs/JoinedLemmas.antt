-- A table of the places of collectives is that of a recording, and stays so as it goes on.
use Rattle.std.proofs.Common.{◌≡◌, ◌≢◌, ℕ, ◌+◌, ◌<◌, ◌≤◌, ◌==◌, ◌&&◌, ◌⊎◌, inl, inr, Bool, true, false, Option, Some, None, List, [], ◌∷◌, ◌++◌, length, get_or, refl, sym, ap, subst, ◌∙◌, ⊎_elim, arith}
use Rattle.std.specs.Prelude.{eqb, nat_lt, position, if◌then◌else◌}
use Rattle.std.specs.List.{position_or_len, list_any}
use Rattle.std.specs.Option.{option_map, option_map_or}
use Rattle.std.proofs.lemmas.Bool.{and_parts, cases_Bool, cases_eq, eq-eqb, ne_eqb, eqb-true, ltb-true}
use Rattle.std.proofs.lemmas.List.Quantifiers.{position-Some}
use Rattle.std.proofs.lemmas.Option.{none-some, same_Some}
use Rattle.indexmap.specs.IndexSet.{insert_key}
use Rattle.mpicall.specs.declared.call.Call.{Call}
use Rattle.pairing.specs.declared.made_comms.Holding.{Holding}
use Rattle.pairing.specs.inner.Joined.{Joinings, is_key, list_number, list_of, IsJoined, IsListFor}
use Rattle.callstore.specs.Places.{places}
use Rattle.callstore.specs.Recordings.{Lists, calls_of, appended}
use Rattle.callstore.specs.Seats.{Seats, list_in, with_place_in}
use Rattle.callstore.specs.Waves.{joins, does_join}
use Rattle.callstore.proofs.NumberLemmas.{position_cases, number_stays, number_past, number_next}
use Rattle.callstore.proofs.OptionLemmas.{map_parts}
use Rattle.callstore.proofs.PlacesLemmas.{with_place, places_on}
use Rattle.callstore.proofs.RecordingLemmas.{calls_of-appended, calls_of-appended_other}
use Rattle.callstore.proofs.SeatLemmas.{list_pushed, list_past, list_same, list_other}

-- two keys have the same fields
abbrev pub same_fields : Holding → Holding → Bool
same_fields key other = is_key key.rank key.comm other

-- the test for a list of the world
at_world : (rank comm ranks : ℕ) → (comm == 0 && nat_lt rank ranks) ≡ true → (comm ≡ 0) × (rank < ranks)
at_world rank comm ranks h =
    let both = and_parts (comm == 0) (nat_lt rank ranks) h in
    (eqb-true comm 0 both.0, ltb-true rank ranks both.1)

-- what has a number: a rank of the world, or a key
abbrev IsOf : Joinings → ℕ → ℕ → ℕ → Type 0
IsOf waves rank comm number = ((comm ≡ 0) × (rank ≡ number) × (number < waves.ranks)) ⊎ ((place : ℕ) × (position (is_key rank comm) waves.keys ≡ Some place) × (waves.ranks + place ≡ number))

is_of : (waves : Joinings) (rank comm number : ℕ) → list_number waves rank comm ≡ Some number → IsOf waves rank comm number
is_of waves rank comm number h =
    ⊎_elim
    (λ (of_world : (comm == 0 && nat_lt rank waves.ranks) ≡ true).
    let world = at_world rank comm waves.ranks of_world in
    let own : rank ≡ number = same_Some rank number (rw of_world at h) in
    inl (world.0, own, omega (arith, own, world.1)))
    (λ (further : (comm == 0 && nat_lt rank waves.ranks) ≡ false).
    inr (map_parts (λ place. waves.ranks + place) (position (is_key rank comm) waves.keys) number (rw further at h)))
    (cases_Bool (comm == 0 && nat_lt rank waves.ranks))

-- there is a list of that number
within_lists : (waves : Joinings) (rank comm number : ℕ) → length waves.lists.places ≡ waves.ranks + length waves.keys → list_number waves rank comm ≡ Some number → number < length waves.lists.places
within_lists waves rank comm number many is =
    ⊎_elim
    (λ world. omega (arith, many, world.2))
    (λ key. omega (arith, many, key.2, (position-Some (is_key rank comm) waves.keys key.0 (record { rank = rank; comm = comm }) key.1).0))
    (is_of waves rank comm number is)

-- no two ranks and communicators have one list
one_list : (waves : Joinings) (rank comm rank' comm' number : ℕ) → list_number waves rank comm ≡ Some number → list_number waves rank' comm' ≡ Some number → (rank ≡ rank') × (comm ≡ comm')
one_list waves rank comm rank' comm' number is is' =
    ⊎_elim
    (λ world. ⊎_elim
    (λ world'. (world.1 ∙ sym world'.1, world.0 ∙ sym world'.0))
    (λ key'. absurd (omega (arith, world.2, key'.2)))
    (is_of waves rank' comm' number is'))
    (λ key. ⊎_elim
    (λ world'. absurd (omega (arith, world'.2, key.2)))
    (λ key'. one_key key.0 key.1 (key'.1 ∙ ap (λ (m : ℕ). Some m) (omega (arith, key.2, key'.2))))
    (is_of waves rank' comm' number is'))
    (is_of waves rank comm number is)
  where
    one_key : (place : ℕ) → position (is_key rank comm) waves.keys ≡ Some place → position (is_key rank' comm') waves.keys ≡ Some place → (rank ≡ rank') × (comm ≡ comm')
    one_key place own theirs =
        let found : Holding = get_or waves.keys place (record { rank = rank; comm = comm }) in
        let mine = and_parts (rank == found.rank) (comm == found.comm) (position-Some (is_key rank comm) waves.keys place (record { rank = rank; comm = comm }) own).1 in
        let other = and_parts (rank' == found.rank) (comm' == found.comm) (position-Some (is_key rank' comm') waves.keys place (record { rank = rank; comm = comm }) theirs).1 in (
          eqb-true _ _ mine.0 ∙ sym (eqb-true _ _ other.0),
          eqb-true _ _ mine.1 ∙ sym (eqb-true _ _ other.1),
        )

-- what has no number is not among the keys
no_place : (waves : Joinings) (rank comm : ℕ) → list_number waves rank comm ≡ None → position (is_key rank comm) waves.keys ≡ None
no_place waves rank comm none =
    ⊎_elim
    (λ (of_world : (comm == 0 && nat_lt rank waves.ranks) ≡ true). absurd (none-some rank (sym none ∙ rw of_world refl)))
    (λ (further : (comm == 0 && nat_lt rank waves.ranks) ≡ false). was_none (position (is_key rank comm) waves.keys) (rw further at none))
    (cases_Bool (comm == 0 && nat_lt rank waves.ranks))
  where
    was_none : (o : Option ℕ) → option_map (λ place. waves.ranks + place) o ≡ None → o ≡ None
    was_none None h = refl
    was_none (Some place) h = absurd (none-some (waves.ranks + place) (sym h))

key_absent : (p : Holding → Bool) (keys : List Holding) → position p keys ≡ None → position_or_len p keys ≡ length keys
key_absent p keys none =
    ⊎_elim
    (λ found. absurd (none-some found.0 (sym none ∙ found.1)))
    (λ absent. absent.1)
    (position_cases p keys)

no_key : (p : Holding → Bool) (keys : List Holding) → position_or_len p keys ≡ length keys → list_any p keys ≡ false
no_key p [] h = refl
no_key p (key ∷ keys) h =
    ⊎_elim
    (λ (here : p key ≡ true). absurd (omega (arith, rw here at h)))
    (λ (fails : p key ≡ false). rw fails (no_key p keys (omega (arith, rw fails at h))))
    (cases_Bool (p key))

-- what the keys are once one comes that has no number
pub key_more : (waves : Joinings) (keys : List Holding) (rank comm : ℕ) → list_number waves rank comm ≡ None → keys ≡ insert_key same_fields waves.keys (record { rank = rank; comm = comm }) → keys ≡ waves.keys ++ record { rank = rank; comm = comm } ∷ []
key_more waves keys rank comm none inserted =
    let absent = no_key (is_key rank comm) waves.keys (key_absent (is_key rank comm) waves.keys (no_place waves rank comm none)) in
    inserted ∙ ap (λ b. if b then waves.keys else waves.keys ++ record { rank = rank; comm = comm } ∷ []) absent

-- a further list: the others stay, and the rank has it for the communicator
pub grown_places : (waves : Joinings) (keys : List Holding) (lists : Seats) (rank comm : ℕ) → length waves.lists.places ≡ waves.ranks + length waves.keys → keys ≡ waves.keys ++ record { rank = rank; comm = comm } ∷ [] → lists.places ≡ waves.lists.places ++ [] ∷ [] → (r c : ℕ) → list_of (record { ranks = waves.ranks; keys = keys; lists = lists }) r c ≡ list_of waves r c
grown_places waves keys lists rank comm many one more r c =
    ⊎_elim
    (λ (of_world : (c == 0 && nat_lt r waves.ranks) ≡ true). rw of_world (same r))
    (λ (further : (c == 0 && nat_lt r waves.ranks) ≡ false). rw (further, one) (by_key (position_cases (is_key r c) waves.keys)))
    (cases_Bool (c == 0 && nat_lt r waves.ranks))
  where
    same : (number : ℕ) → list_in lists.places number ≡ list_in waves.lists.places number
    same number = ap (λ (ls : List (List ℕ)). list_in ls number) more ∙ list_pushed waves.lists.places number

    behind : (o : Option ℕ) → ((place : ℕ) → o ≡ Some place → length waves.keys ≤ place) → option_map_or (list_in lists.places) (option_map (λ place. waves.ranks + place) o) [] ≡ []
    behind None past = refl
    behind (Some place) past = same (waves.ranks + place) ∙ list_past waves.lists.places (waves.ranks + place) (omega (arith, many, past place refl))

    by_key : ((place : ℕ) × (position (is_key r c) waves.keys ≡ Some place) × (place < length waves.keys) × (position_or_len (is_key r c) waves.keys ≡ place)) ⊎ ((position (is_key r c) waves.keys ≡ None) × (position_or_len (is_key r c) waves.keys ≡ length waves.keys)) → option_map_or (list_in lists.places) (option_map (λ place. waves.ranks + place) (position (is_key r c) (waves.keys ++ record { rank = rank; comm = comm } ∷ []))) [] ≡ option_map_or (list_in waves.lists.places) (option_map (λ place. waves.ranks + place) (position (is_key r c) waves.keys)) []
    by_key (inl found) =
        rw (number_stays (is_key r c) waves.keys (record { rank = rank; comm = comm }) found.0 found.1, found.1) (same (waves.ranks + found.0))
    by_key (inr absent) =
        behind (position (is_key r c) (waves.keys ++ record { rank = rank; comm = comm } ∷ [])) (λ place is. number_past (is_key r c) waves.keys (record { rank = rank; comm = comm }) absent.1 place is)
        ∙ sym (ap (λ (o : Option ℕ). option_map_or (list_in waves.lists.places) (option_map (λ place. waves.ranks + place) o) []) absent.0)

pub grown_number : (waves : Joinings) (keys : List Holding) (lists : Seats) (rank comm : ℕ) → list_number waves rank comm ≡ None → keys ≡ waves.keys ++ record { rank = rank; comm = comm } ∷ [] → list_number (record { ranks = waves.ranks; keys = keys; lists = lists }) rank comm ≡ Some (waves.ranks + length waves.keys)
grown_number waves keys lists rank comm none one =
    ⊎_elim
    (λ (of_world : (comm == 0 && nat_lt rank waves.ranks) ≡ true). absurd (none-some rank (sym none ∙ rw of_world refl)))
    (λ (further : (comm == 0 && nat_lt rank waves.ranks) ≡ false).
    let absent = key_absent (is_key rank comm) waves.keys (no_place waves rank comm none) in
    let next = number_next (is_key rank comm) waves.keys (record { rank = rank; comm = comm }) absent (rw (eq-eqb rank rank refl, eq-eqb comm comm refl) refl) in
    rw (further, one, next) refl)
    (cases_Bool (comm == 0 && nat_lt rank waves.ranks))

-- what it means that a list is the one for a call's wave
pub its_wave : (waves : Joinings) (rank : ℕ) (call : Call) (list : ℕ) → IsListFor rank call waves (Some list) → (comm : ℕ) × (joins call ≡ Some comm) × (list_number waves rank comm ≡ Some list)
its_wave waves rank call list is_list = map_parts (list_number waves rank) (joins call) (Some list) (sym is_list)

pub no_wave : (waves : Joinings) (rank : ℕ) (call : Call) → IsListFor rank call waves None → joins call ≡ None
no_wave waves rank call is_list = none (joins call) is_list
  where
    none : (o : Option ℕ) → None ≡ option_map (list_number waves rank) o → o ≡ None
    none None h = refl
    none (Some comm) h = absurd (none-some (list_number waves rank comm) h)

-- the recording goes on by a call, whose place is put in the list of its wave
pub put_in : (waves : Joinings) (lists : Seats) (recording : Lists) (rank place comm number : ℕ) (call : Call) → joins call ≡ Some comm → list_number waves rank comm ≡ Some number → length waves.lists.places ≡ waves.ranks + length waves.keys → lists.places ≡ with_place_in waves.lists.places number place → IsJoined recording waves → rank < length recording → place ≡ length (calls_of recording rank) → IsJoined (appended recording rank call) (record { ranks = waves.ranks; keys = waves.keys; lists = lists })
put_in waves lists recording rank place comm number call is_joined numbered many put joined is_rank next r c =
    ap (λ (ps : List (List ℕ)). option_map_or (list_in ps) (list_number waves r c) []) put ∙ of_rank
  where
    there : (o : Option ℕ) → o ≡ Some number → option_map_or (list_in (with_place_in waves.lists.places number place)) o [] ≡ option_map_or (list_in waves.lists.places) o [] ++ place ∷ []
    there o is = rw is (list_same waves.lists.places number place (within_lists waves rank comm number many numbered))

    elsewhere : (o : Option ℕ) → o ≢ Some number → option_map_or (list_in (with_place_in waves.lists.places number place)) o [] ≡ option_map_or (list_in waves.lists.places) o []
    elsewhere None differs = refl
    elsewhere (Some other) differs = list_other waves.lists.places number other place (λ same. differs (ap (λ (m : ℕ). Some m) same))

    effect : (m : ℕ) → does_join m call ≡ eqb comm m
    effect m = ap (λ (o : Option ℕ). option_map_or (λ other. eqb other m) o false) is_joined

    list_put : (m : ℕ) → option_map_or (list_in (with_place_in waves.lists.places number place)) (list_number waves rank m) [] ≡ with_place (eqb comm m) (list_of waves rank m) place
    list_put m =
        ⊎_elim
        (λ (is : m ≡ comm).
        there (list_number waves rank m) (ap (λ (n : ℕ). list_number waves rank n) is ∙ numbered)
        ∙ sym (ap (λ b. with_place b (list_of waves rank m) place) (eq-eqb comm m (sym is))))
        (λ (differs : m ≢ comm).
        elsewhere (list_number waves rank m) (λ is. differs (one_list waves rank m rank comm number is numbered).1)
        ∙ sym (ap (λ b. with_place b (list_of waves rank m) place) (ne_eqb comm m (λ e. differs (sym e)))))
        (cases_eq m comm)

    own : (m : ℕ) → option_map_or (list_in (with_place_in waves.lists.places number place)) (list_number waves rank m) [] ≡ places (does_join m) (calls_of (appended recording rank call) rank)
    own m =
        list_put m
        ∙ ap (λ b. with_place b (list_of waves rank m) place) (sym (effect m))
        ∙ ap (λ ns. with_place (does_join m call) ns place) (joined rank m)
        ∙ ap (λ (n : ℕ). with_place (does_join m call) (places (does_join m) (calls_of recording rank)) n) next
        ∙ sym (ap (λ calls. places (does_join m) calls) (calls_of-appended recording rank call is_rank)
        ∙ places_on (does_join m) (calls_of recording rank) call)

    of_rank : option_map_or (list_in (with_place_in waves.lists.places number place)) (list_number waves r c) [] ≡ places (does_join c) (calls_of (appended recording rank call) r)
    of_rank =
        ⊎_elim
        (λ (same : r ≡ rank).
        subst (λ (other : ℕ). option_map_or (list_in (with_place_in waves.lists.places number place)) (list_number waves other c) [] ≡ places (does_join c) (calls_of (appended recording rank call) other)) (sym same) (own c))
        (λ (differs : r ≢ rank).
        elsewhere (list_number waves r c) (λ is. differs (one_list waves r c rank comm number is numbered).0)
        ∙ joined r c
        ∙ sym (ap (λ calls. places (does_join c) calls) (calls_of-appended_other recording rank r call differs)))
        (cases_eq r rank)

-- and where it joins none, all stays
pub put_none : (waves : Joinings) (recording : Lists) (rank : ℕ) (call : Call) → joins call ≡ None → IsJoined recording waves → rank < length recording → IsJoined (appended recording rank call) waves
put_none waves recording rank call none joined is_rank r c =
    joined r c
    ∙ ⊎_elim
    (λ (same : r ≡ rank).
    subst (λ (other : ℕ). places (does_join c) (calls_of recording other) ≡ places (does_join c) (calls_of (appended recording rank call) other)) (sym same)
    (ap (λ b. with_place b (places (does_join c) (calls_of recording rank)) (length (calls_of recording rank))) (sym (ap (λ (o : Option ℕ). option_map_or (λ other. eqb other c) o false) none))
    ∙ sym (ap (λ calls. places (does_join c) calls) (calls_of-appended recording rank call is_rank)
    ∙ places_on (does_join c) (calls_of recording rank) call)))
    (λ (differs : r ≢ rank). sym (ap (λ calls. places (does_join c) calls) (calls_of-appended_other recording rank r call differs)))
    (cases_eq r rank)
