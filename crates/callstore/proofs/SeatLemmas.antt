-- Lists of places by numbers, of which one is another, or after which there is one more.
use Rattle.std.proofs.Common.{◌≡◌, ◌≢◌, ℕ, zero, suc, ◌<◌, ◌≤◌, List, [], ◌∷◌, ◌++◌, length, map, set, get_or, refl, sym, ap, ◌∙◌, arith, get_or-set_same, get_or-set_other}
use Rattle.std.specs.Prelude.{unwrap_or}
use Rattle.std.specs.List.{slice_get}
use Rattle.std.proofs.lemmas.List.{map-set, get_or-map, length-map}
use Rattle.std.proofs.lemmas.Option.{unwrap_or-slice_get}
use Rattle.callstore.specs.Seats.{list_in, with_place_in}
use Rattle.callstore.specs.inner.Seats.{Listed}

-- the room of a list is that of the list itself
pub room_set : (lists : List Listed) (i : ℕ) (list : Listed) → i < length lists → unwrap_or (slice_get (map (λ (it : Listed). it.room) (set lists i list)) i) 0 ≡ list.room
room_set lists i list within =
    unwrap_or-slice_get (map (λ (it : Listed). it.room) (set lists i list)) i 0
    ∙ ap (λ (rooms : List ℕ). get_or rooms i 0) (map-set (λ (it : Listed). it.room) lists i list)
    ∙ get_or-set_same (map (λ (it : Listed). it.room) lists) i list.room 0 (omega (arith, within, length-map lists (λ (it : Listed). it.room)))

-- its places are those of the list itself
pub places_at : (lists : List Listed) (i : ℕ) (list : Listed) → i < length lists → list ≡ get_or lists i list → list_in (map (λ (it : Listed). it.places) lists) i ≡ list.places
places_at lists i list within read =
    unwrap_or-slice_get (map (λ (it : Listed). it.places) lists) i []
    ∙ get_or-map (λ (it : Listed). it.places) lists i list [] within
    ∙ ap (λ (it : Listed). it.places) (sym read)

pub places_set : (lists : List Listed) (i : ℕ) (list : Listed) → i < length lists → list_in (map (λ (it : Listed). it.places) (set lists i list)) i ≡ list.places
places_set lists i list within =
    unwrap_or-slice_get (map (λ (it : Listed). it.places) (set lists i list)) i []
    ∙ ap (λ (ps : List (List ℕ)). get_or ps i []) (map-set (λ (it : Listed). it.places) lists i list)
    ∙ get_or-set_same (map (λ (it : Listed). it.places) lists) i list.places [] (omega (arith, within, length-map lists (λ (it : Listed). it.places)))

-- one more place in a list
pub place_more : (lists : List Listed) (i place : ℕ) (old new : Listed) → i < length lists → old ≡ get_or lists i old → new.places ≡ old.places ++ place ∷ [] → map (λ (it : Listed). it.places) (set lists i new) ≡ with_place_in (map (λ (it : Listed). it.places) lists) i place
place_more lists i place old new within read more =
    map-set (λ (it : Listed). it.places) lists i new
    ∙ ap (λ (ps : List ℕ). set (map (λ (it : Listed). it.places) lists) i ps)
    (more ∙ ap (λ (ps : List ℕ). ps ++ place ∷ []) (sym (places_at lists i old within read)))

-- what has room is a list
pub room_within : (lists : List Listed) (i : ℕ) → length (list_in (map (λ (it : Listed). it.places) lists) i) < unwrap_or (slice_get (map (λ (it : Listed). it.room) lists) i) 0 → i < length lists
room_within [] i room = absurd (omega (arith, room))
room_within (list ∷ lists) zero room = omega arith
room_within (list ∷ lists) (suc i) room = let rest = room_within lists i room in omega (arith, rest)

-- one more list without places
pub list_pushed : (lists : List (List ℕ)) (i : ℕ) → list_in (lists ++ [] ∷ []) i ≡ list_in lists i
list_pushed [] zero = refl
list_pushed [] (suc i) = refl
list_pushed (list ∷ lists) zero = refl
list_pushed (list ∷ lists) (suc i) = list_pushed lists i

pub list_past : (lists : List (List ℕ)) (i : ℕ) → length lists ≤ i → list_in lists i ≡ []
list_past [] i past = refl
list_past (list ∷ lists) zero past = absurd (omega (arith, past))
list_past (list ∷ lists) (suc i) past = list_past lists i (omega (arith, past))

-- a list with one more place, and another one
pub list_same : (lists : List (List ℕ)) (i place : ℕ) → i < length lists → list_in (with_place_in lists i place) i ≡ list_in lists i ++ place ∷ []
list_same lists i place within = unwrap_or-slice_get (with_place_in lists i place) i [] ∙ get_or-set_same lists i (list_in lists i ++ place ∷ []) [] within

pub list_other : (lists : List (List ℕ)) (i j place : ℕ) → j ≢ i → list_in (with_place_in lists i place) j ≡ list_in lists j
list_other lists i j place differs =
    unwrap_or-slice_get (with_place_in lists i place) j [] ∙ get_or-set_other lists i j (list_in lists i ++ place ∷ []) [] differs ∙ sym (unwrap_or-slice_get lists j [])
