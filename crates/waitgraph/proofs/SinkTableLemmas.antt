-- Sinks by their ranks: who looks among those of a rank finds the same as among all.
use Rattle.std.proofs.Common.{◌≡◌, ◌==◌, ℕ, ◌<◌, Bool, true, false, ◌&&◌, ◌||◌, ◌+◌, ◌++◌, length, take, get_or, if◌then◌else◌, Option, Some, None, List, [], ◌∷◌, map, refl, sym, ap, subst, ◌∙◌, ⊎_elim, arith}
use Rattle.std.specs.Prelude.{find, Vec, vec_items}
use Rattle.std.specs.List.{slice_get, filter, list_any, range_with_len}
use Rattle.std.specs.Option.{option_map_or}
use Rattle.std.proofs.lemmas.List.Elements.{filter_more}
use Rattle.std.proofs.lemmas.List.FromFn.{length-map-range_with_len, get_or-map-range_with_len}
use Rattle.std.proofs.lemmas.Option.{same_Some, slice_get_read, slice_get_within, get_or_from_slice_get}
use Rattle.std.proofs.lemmas.Bool.{cases_Bool, and_parts, eq-eqb, eqb-true, false≢true}
use Rattle.mpigroup.specs.Groups.{Groups}
use Rattle.callstore.specs.declared.envelope.Envelope.{Envelope}
use Rattle.callstore.specs.declared.envelope.Half.TheVariants.{Recv as RecvHalf}
use Rattle.callstore.specs.Envelopes.{rank_of_half}
use Rattle.waitgraph.specs.Pending.{takes, goes_to, may_take}
use Rattle.waitgraph.specs.inner.SinkTables.{AreByRank, HasThoseOf}
use Rattle.waitgraph.specs.declared.pending.Sink.{Sink}

-- what passes stands among those that are kept
fails_too : (p q : Bool) → (p ≡ true → q ≡ true) → q ≡ false → p ≡ false
fails_too true q kept fails = sym (kept refl) ∙ fails
fails_too false q kept fails = refl

find_kept : {A : Type 0} (q p : A → Bool) (xs : List A) → ((x : A) → p x ≡ true → q x ≡ true) → find p (filter q xs) ≡ find p xs
find_kept q p [] kept = refl
find_kept q p (x ∷ xs) kept =
    ⊎_elim
    (λ (is : q x ≡ true). rw is (ap (λ o. if p x then Some x else o) (find_kept q p xs kept)))
    (λ (no : q x ≡ false). rw (no, fails_too (p x) (q x) (kept x) no) (find_kept q p xs kept))
    (cases_Bool (q x))

any_kept : {A : Type 0} (q p : A → Bool) (xs : List A) → ((x : A) → p x ≡ true → q x ≡ true) → list_any p (filter q xs) ≡ list_any p xs
any_kept q p [] kept = refl
any_kept q p (x ∷ xs) kept =
    ⊎_elim
    (λ (is : q x ≡ true). rw is (ap (λ (b : Bool). p x || b) (any_kept q p xs kept)))
    (λ (no : q x ≡ false). rw (no, fails_too (p x) (q x) (kept x) no) (any_kept q p xs kept))
    (cases_Bool (q x))

pub those_kept : (rank : ℕ) (some all : List Sink) → some ≡ filter (λ sink. sink.rank == rank) all → HasThoseOf rank some all
those_kept rank some all is p fits =
    subst (λ (sinks : List Sink). (find p sinks ≡ find p all) × (list_any p sinks ≡ list_any p all)) (sym is) (
      find_kept (λ (sink : Sink). sink.rank == rank) p all (λ sink passes. eq-eqb sink.rank rank (fits sink passes)),
      any_kept (λ (sink : Sink). sink.rank == rank) p all (λ sink passes. eq-eqb sink.rank rank (fits sink passes)),
    )

-- a sink that may take the message is one of the rank to which it goes
dest_is : (dest : Option ℕ) (rank to : ℕ) → option_map_or (λ one. one == rank) dest false ≡ true → dest ≡ Some to → rank ≡ to
dest_is (Some one) rank to goes is = sym (eqb-true one rank goes) ∙ same_Some one to is
dest_is None rank to goes is = absurd (false≢true goes)

pub is_of_dest : (groups : Groups) (e : Envelope) (dest : ℕ) (sink : Sink) → rank_of_half groups RecvHalf e ≡ Some dest → may_take groups e sink ≡ true → sink.rank ≡ dest
is_of_dest groups e dest sink goes takes_it =
    dest_is (rank_of_half groups RecvHalf e) sink.rank dest (and_parts (takes sink.wanted e.comm e.source e.tag) (goes_to groups sink.rank e) takes_it).1 goes

-- nobody may take a message that goes to no rank
pub none_takes : (groups : Groups) (e : Envelope) (sinks : List Sink) → rank_of_half groups RecvHalf e ≡ None → None ≡ find (may_take groups e) sinks
none_takes groups e [] nowhere = refl
none_takes groups e (sink ∷ sinks) nowhere =
    let fails : may_take groups e sink ≡ false =
    ap (λ (o : Option ℕ). takes sink.wanted e.comm e.source e.tag && option_map_or (λ dest. dest == sink.rank) o false) nowhere ∙ and_false (takes sink.wanted e.comm e.source e.tag) in
    rw fails (none_takes groups e sinks nowhere)
  where
    and_false : (b : Bool) → (b && false) ≡ false
    and_false true = refl
    and_false false = refl

-- the sink at a place of a rank is one of the rank
pub is_of_rank : (rank place : ℕ) (sink : Sink) → (sink.rank == rank && sink.place == place) ≡ true → sink.rank ≡ rank
is_of_rank rank place sink is = eqb-true sink.rank rank (and_parts (sink.rank == rank) (sink.place == place) is).0

-- a mark is that of its rank
pub mark_is : (f : ℕ → Bool) (n rank : ℕ) (mark : Bool) (marks : List Bool) → marks ≡ map f (range_with_len 0 n) → slice_get marks rank ≡ Some mark → mark ≡ f rank
mark_is f n rank mark marks is there =
    let found : slice_get (map f (range_with_len 0 n)) rank ≡ Some mark = subst (λ (ms : List Bool). slice_get ms rank ≡ Some mark) is there in
    let within : rank < n = subst (λ (k : ℕ). rank < k) (length-map-range_with_len f 0 n) (slice_get_within (map f (range_with_len 0 n)) rank mark found) in
    sym (get_or_from_slice_get (map f (range_with_len 0 n)) rank mark false found) ∙ get_or-map-range_with_len f 0 n rank rank false within (omega arith)

-- one more
pub one_more : (rank : ℕ) (all : List Sink) (i : ℕ) (sink d : Sink) (before later : List Sink) → i < length all → sink ≡ get_or all i d → before ≡ filter (λ one. one.rank == rank) (take i all) → later ≡ before ++ (if sink.rank == rank then sink ∷ [] else []) → later ≡ filter (λ one. one.rank == rank) (take (i + 1) all)
one_more rank all i sink d before later within is was more = rw (more, was, is) (sym (filter_more (λ (one : Sink). one.rank == rank) all i d within))

-- what is read at a place
pub got : {A : Type 0} (items xs : List A) (place rank : ℕ) (x : A) → items ≡ xs → place ≡ rank → (place < length items) × ((d : A) → x ≡ get_or items place d) → slice_get xs rank ≡ Some x
got {A} items xs place rank x same at is =
    sym (ap (λ (ys : List A). slice_get ys place) same ∙ ap (λ (k : ℕ). slice_get xs k) at) ∙ slice_get_read items (length items) place x refl is.0 (is.1 x)

-- those that are found for a rank
pub those_found : {Z : Type 0} (rank : ℕ) (all seen some : List Sink) (by_rank : List (Vec Sink Z)) (own : Vec Sink Z) → all ≡ seen → some ≡ vec_items own → AreByRank all by_rank → slice_get by_rank rank ≡ Some own → HasThoseOf rank some seen
those_found {Z} rank all seen some by_rank own same is are there =
    subst (λ (sinks : List Sink). HasThoseOf rank some sinks) same
    (those_kept rank some all (is ∙ sym (ap (λ (o : Option (Vec Sink Z)). option_map_or vec_items o []) there) ∙ are rank (slice_get_within by_rank rank own there)))
