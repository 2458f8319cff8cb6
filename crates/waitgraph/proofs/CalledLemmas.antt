-- A need that a rank has reached a place names a call of that rank.
use Rattle.moves.specs.declared.reading.Reading.{Reading}
use Rattle.std.proofs.Common.{◌≡◌, ℕ, Bool, true, Option, Some, None, List, [], ◌∷◌, length, refl}
use Rattle.std.specs.Prelude.{nat_lt}
use Rattle.std.specs.List.{slice_get, list_all}
use Rattle.std.specs.Option.{option_map_or}
use Rattle.std.proofs.lemmas.Bool.{lt-ltb}
use Rattle.std.proofs.lemmas.Option.{slice_get_within}
use Rattle.mpicall.specs.declared.call.Call.{Call}
use Rattle.mpigroup.specs.Groups.{Groups}
use Rattle.callstore.specs.Recordings.{Lists, calls_of}
use Rattle.callstore.specs.Places.{places}
use Rattle.callstore.proofs.RequestLemmas.{place_within}
use Rattle.moves.specs.declared.need.Need.{Need}
use Rattle.moves.specs.declared.need.Need.TheVariants.{At, Lacking}
use Rattle.moves.proofs.OntoLemmas.{same_self, needs_onto}
use Rattle.moves.proofs.StayLemmas.{start_is_a_call}
use Rattle.moves.specs.Needs.{needs_of_call, needs_of}

-- a need that names a place names one of a call
abbrev pub is_call : Lists → Need → Bool
is_call recording (At rank place) = nat_lt place (length (calls_of recording rank))
is_call recording (Lacking rank) = true

nth_called : (recording : Lists) (test : Call → Bool) (rank number : ℕ) (o : Option ℕ) → slice_get (places test (calls_of recording rank)) number ≡ o → is_call recording (option_map_or (At rank) o (Lacking rank)) ≡ true
nth_called recording test rank number None is = refl
nth_called recording test rank number (Some place) is = lt-ltb place (length (calls_of recording rank)) (place_within test (calls_of recording rank) number place is)

all_true : (needs : List Need) → list_all (λ need. true) needs ≡ true
all_true [] = refl
all_true (need ∷ needs) = all_true needs

there_called : (reading : Reading) (groups : Groups) (recording : Lists) (rank place : ℕ) (there : Option Call) → slice_get (calls_of recording rank) place ≡ there → list_all (is_call recording) (option_map_or (needs_of_call reading groups recording rank place) there []) ≡ true
there_called reading groups recording rank place None is = refl
there_called reading groups recording rank place (Some call) is =
    needs_onto reading reading groups recording recording (λ need. true) (is_call recording) rank (length (calls_of recording rank)) (λ x e. e)
    (record { nth = λ test k number fails any. nth_called recording test k number (slice_get (places test (calls_of recording k)) number) refl; none = λ k any. refl })
    (same_self recording rank (length (calls_of recording rank))) place call (slice_get_within (calls_of recording rank) place call is) (start_is_a_call recording rank place) is (all_true (needs_of_call reading groups recording rank place call))

-- each need of a call names a call, or what a rank lacks
pub needs_called : (reading : Reading) (groups : Groups) (recording : Lists) (rank place : ℕ) → list_all (is_call recording) (needs_of reading groups recording rank place) ≡ true
needs_called reading groups recording rank place = there_called reading groups recording rank place (slice_get (calls_of recording rank) place) refl
