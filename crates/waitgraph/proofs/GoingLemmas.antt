-- How the walk goes on from a held rank.
use Rattle.std.proofs.Common.{◌≡◌, ℕ, zero, suc, ◌<◌, ◌≤◌, Bool, true, false, not, find, Some, None, List, [], ◌∷◌, length, take, get_or, refl, sym, ap, subst, ◌∙◌, ⊎_elim}
use Rattle.std.specs.List.{slice_get, list_all}
use Rattle.std.proofs.lemmas.List.{take_all}
use Rattle.std.proofs.lemmas.Option.{none-some, same_Some, slice_get-get_or}
use Rattle.std.proofs.lemmas.Bool.{and_parts, not-true, cases_Bool, false≢true}
use Rattle.moves.specs.declared.need.Need.{Need}
use Rattle.moves.specs.declared.need.Need.TheVariants.{At, Lacking}
use Rattle.waitgraph.specs.Held.{Set}
use Rattle.waitgraph.specs.Waits.{Waits, needs_in}
use Rattle.waitgraph.specs.inner.Loose.{standing_of, is_on, are_loose, is_held_at, are_held, goes_on, hop, hop_by, FitTogether, GoesOnOrEnds, HeldRanksGoOn}
use Rattle.waitgraph.specs.declared.standing.Standing.{Standing}
use Rattle.waitgraph.specs.declared.standing.Standing.TheVariants.{AtOpen, Stuck}
use Rattle.waitgraph.specs.declared.next_hop.NextHop.{NextHop}
use Rattle.waitgraph.proofs.SweepLemmas.{the_loose_are_the_least}

-- a need of the list
pub record Stands (needs : List Need) (test : Need → Bool) (passes : Bool) : Type 0 where
  pub index : ℕ
  pub need : Need
  pub is_there : slice_get needs index ≡ Some need
  pub is_so : test need ≡ passes

fails_one : (test : Need → Bool) (needs : List Need) → list_all test needs ≡ false → Stands needs test false
fails_one test [] h = absurd (false≢true (sym h))
fails_one test (need ∷ needs) h =
    ⊎_elim
    (λ (passes : test need ≡ true).
    let rest = fails_one test needs (rw passes at h) in
    record { index = suc rest.index; need = rest.need; is_there = rest.is_there; is_so = rest.is_so })
    (λ (fails : test need ≡ false). record { index = 0; need = need; is_there = refl; is_so = fails })
    (cases_Bool (test need))

record Found (needs : List Need) (test : Need → Bool) : Type 0 where
  need : Need
  found : find test needs ≡ Some need
  stands : Stands needs test true
  is_it : stands.need ≡ need

behind : (test : Need → Bool) (first : Need) (needs : List Need) → test first ≡ false → Found needs test → Found (first ∷ needs) test
behind test first needs fails rest =
    record { need = rest.need; found = rw fails rest.found; stands = record { index = suc rest.stands.index; need = rest.stands.need; is_there = rest.stands.is_there; is_so = rest.stands.is_so }; is_it = rest.is_it }

here_first : (test : Need → Bool) (first : Need) (needs : List Need) → test first ≡ true → Found (first ∷ needs) test
here_first test first needs here = record { need = first; found = rw here refl; stands = record { index = 0; need = first; is_there = refl; is_so = here }; is_it = refl }

finds : (test : Need → Bool) (needs : List Need) (index : ℕ) (need : Need) → slice_get needs index ≡ Some need → test need ≡ true → Found needs test
finds test [] index need there passes = absurd (none-some need there)
finds test (first ∷ needs) zero need there passes = here_first test first needs (ap test (same_Some first need there) ∙ passes)
finds test (first ∷ needs) (suc index) need there passes =
    ⊎_elim
    (λ (here : test first ≡ true). here_first test first needs here)
    (λ (fails : test first ≡ false). behind test first needs fails (finds test needs index need there passes))
    (cases_Bool (test first))

held_is_stuck : (standing : Standing) (loose : Bool) → is_held_at standing loose ≡ true → (standing ≡ Stuck) × (loose ≡ false)
held_is_stuck Stuck false h = (refl, refl)
held_is_stuck standing loose h = absurd (false≢true h)

pub stuck_is_held : (standing : Standing) (loose : Bool) → standing ≡ Stuck → loose ≡ false → is_held_at standing loose ≡ true
stuck_is_held standing loose is not_loose = rw (is, not_loose) refl

-- a need that isn't on a loose rank decides the walk
decides : (opened : Set) (standings : List Standing) (waits : Waits) (rank index : ℕ) (need : Need) → FitTogether opened standings waits → slice_get (needs_in waits rank) index ≡ Some need → is_on opened (are_loose opened standings waits) need ≡ false → goes_on opened (are_held opened standings waits) need ≡ true
decides opened standings waits rank index (At peer place) fit there fails =
    stuck_is_held (standing_of standings peer) (are_loose opened standings waits peer) (fit.for_stuck rank index peer place there) fails
decides opened standings waits rank index (Lacking peer) fit there fails =
    ⊎_elim
    (λ (is : opened peer ≡ true).
    let not_loose : are_loose opened standings waits peer ≡ false = rw is at fails in
    ⊎_elim
    (λ (stuck : standing_of standings peer ≡ Stuck). rw (is, stuck_is_held (standing_of standings peer) (are_loose opened standings waits peer) stuck not_loose) refl)
    (λ (at_open : standing_of standings peer ≡ AtOpen).
    absurd (false≢true (sym not_loose ∙ (the_loose_are_the_least opened standings waits).0 peer (rw at_open refl))))
    (fit.left_open peer is))
    (λ (ended : opened peer ≡ false). rw ended refl)
    (cases_Bool (opened peer))

tells : (opened held : Set) (need : Need) → goes_on opened held need ≡ true → GoesOnOrEnds opened held (Some (hop opened need))
tells opened held (At peer place) h = h
tells opened held (Lacking peer) h =
    ⊎_elim
    (λ (is : opened peer ≡ true).
    let next : held peer ≡ true = rw is at h in
    rw is next)
    (λ (ended : opened peer ≡ false). rw ended ended)
    (cases_Bool (opened peer))

-- a held rank has a need by which the walk goes on or ends
pub holds_by : (opened : Set) (standings : List Standing) (waits : Waits) (rank : ℕ) → FitTogether opened standings waits → are_held opened standings waits rank ≡ true → Stands (needs_in waits rank) (goes_on opened (are_held opened standings waits)) true
holds_by opened standings waits rank fit held =
    let parts = held_is_stuck (standing_of standings rank) (are_loose opened standings waits rank) held in
    let some : list_all (is_on opened (are_loose opened standings waits)) (needs_in waits rank) ≡ false =
    ⊎_elim
    (λ (all : list_all (is_on opened (are_loose opened standings waits)) (needs_in waits rank) ≡ true).
    absurd (false≢true (sym parts.1 ∙ (the_loose_are_the_least opened standings waits).0 rank (rw (parts.0, all) refl))))
    (λ (no : list_all (is_on opened (are_loose opened standings waits)) (needs_in waits rank) ≡ false). no)
    (cases_Bool (list_all (is_on opened (are_loose opened standings waits)) (needs_in waits rank))) in
    let one = fails_one (is_on opened (are_loose opened standings waits)) (needs_in waits rank) some in
    record {
      index = one.index;
      need = one.need;
      is_there = one.is_there;
      is_so = decides opened standings waits rank one.index one.need fit one.is_there one.is_so;
    }

pub held_ranks_go_on : HeldRanksGoOn
held_ranks_go_on opened standings waits rank fit held =
    let one = holds_by opened standings waits rank fit held in
    let it = finds (goes_on opened (are_held opened standings waits)) (needs_in waits rank) one.index one.need one.is_there one.is_so in
    rw (held, it.found) (tells opened (are_held opened standings waits) it.need (subst (λ (n : Need). goes_on opened (are_held opened standings waits) n ≡ true) it.is_it it.stands.is_so))

-- the first of some needs that passes, where none before it does
pub find_first : (test : Need → Bool) (needs : List Need) (index : ℕ) (need : Need) → slice_get needs index ≡ Some need → list_all (λ n. not (test n)) (take index needs) ≡ true → test need ≡ true → find test needs ≡ Some need
find_first test [] index need there none passes = absurd (none-some need there)
find_first test (first ∷ needs) zero need there none passes =
    let here : first ≡ need = same_Some first need there in
    let so : test first ≡ true = ap test here ∙ passes in
    rw so (ap (λ (n : Need). Some n) here)
find_first test (first ∷ needs) (suc index) need there none passes =
    let both = and_parts (not (test first)) (list_all (λ n. not (test n)) (take index needs)) none in
    let fails : test first ≡ false = not-true (test first) both.0 in
    rw fails (find_first test needs index need there both.1 passes)

pub find_none : (test : Need → Bool) (needs : List Need) → list_all (λ n. not (test n)) needs ≡ true → find test needs ≡ None
find_none test [] none = refl
find_none test (first ∷ needs) none =
    let both = and_parts (not (test first)) (list_all (λ n. not (test n)) needs) none in
    let fails : test first ≡ false = not-true (test first) both.0 in
    rw fails (find_none test needs both.1)

-- the walk goes on by the first need by which it does, and by none where there is none
pub hop_found : (opened held : Set) (needs : List Need) (index : ℕ) (need d : Need) (answer : NextHop) → index < length needs → need ≡ get_or needs index d → list_all (λ n. not (goes_on opened held n)) (take index needs) ≡ true → goes_on opened held need ≡ true → answer ≡ hop opened need → Some answer ≡ hop_by opened held needs
hop_found opened held needs index need d answer within at none passes is =
    rw (find_first (goes_on opened held) needs index need (slice_get-get_or needs index d within ∙ ap (λ (n : Need). Some n) (sym at)) none passes) (ap (λ (o : NextHop). Some o) is)

pub hop_none : (opened held : Set) (needs : List Need) (index : ℕ) → length needs ≤ index → list_all (λ n. not (goes_on opened held n)) (take index needs) ≡ true → None ≡ hop_by opened held needs
hop_none opened held needs index past none =
    rw (find_none (goes_on opened held) needs (subst (λ (ns : List Need). list_all (λ n. not (goes_on opened held n)) ns ≡ true) (take_all index needs past) none)) refl
