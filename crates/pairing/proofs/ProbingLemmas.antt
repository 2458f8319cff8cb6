-- What one more call changes about the seats of probes.
use Rattle.std.proofs.Common.{eqb, not, IfSome, ◌≡◌, ◌≢◌, ◌⊎◌, ℕ, zero, suc, ◌+◌, ◌<◌, ◌≤◌, ◌==◌, ◌&&◌, Bool, true, false, if◌then◌else◌, Option, Some, None, is_some, unwrap_or, List, [], ◌∷◌, ◌++◌, length, take, refl, sym, ap, subst, ◌∙◌, ⊎_elim, arith}
use mathlib.Core.Logic.{inl, inr}
use Rattle.std.specs.List.{slice_get}
use Rattle.std.specs.Option.{option_map, option_and_then}
use Rattle.std.proofs.lemmas.List.{take-append-le, length-append, length-set}
use Rattle.std.proofs.lemmas.Option.{slice_get_within, slice_get_past, none-some, same_Some}
use Rattle.std.proofs.lemmas.Bool.{cases_Bool, cases_eq, cases_lt, eq-eqb, ne_eqb, false≢true}
use Rattle.std.proofs.lemmas.Grind.{common_steps}
use Rattle.mpicall.specs.declared.call.Call.{Call}
use Rattle.mpigroup.specs.Groups.{Groups}
use Rattle.mpigroup.proofs.ListLemmas.{get_end, slice_get-set_same, slice_get-set_other}
use Rattle.callstore.specs.declared.envelope.Envelope.{Envelope}
use Rattle.callstore.specs.declared.envelope.Half.TheVariants.{Send as SendHalf, Recv as RecvHalf}
use Rattle.callstore.specs.Recordings.{Lists, calls_of, appended}
use Rattle.callstore.specs.Envelopes.{envelope_of, rank_of_half, has_envelope}
use Rattle.pairing.specs.Partners.{places_of, number_of}
use Rattle.pairing.specs.Matched.{pending_of}
use Rattle.callstore.specs.Places.{places, count_before}
use Rattle.callstore.proofs.PlaceLemmas.{slice_get-front}
use Rattle.callstore.proofs.PlacesLemmas.{places_on}
use Rattle.callstore.proofs.OptionLemmas.{and_then_parts}
use Rattle.pairing.proofs.PartnerLemmas.{own_rank, has_it, same_envelope_true, same_envelope_refl}
use Rattle.callstore.proofs.RecordingLemmas.{calls_of-appended, calls_of-appended_other}
use Rattle.pairing.specs.Probed.{probed_envelope, probed_envelope_at, probed_of, receive_behind, HasProbe}
use Rattle.pairing.specs.inner.Probed.{seen_from, HasProbesIf}
use Rattle.pairing.specs.inner.Probing.{is_same_envelope, unfilled_at, seat_for, Seating, seated, IsSeatOf, AreSeated, Sits, Follows, filled}
use Rattle.pairing.specs.declared.matches.NumberedEnvelope.{NumberedEnvelope}
use Rattle.pairing.specs.declared.probes.Probes.{Probes}
use Rattle.pairing.proofs.CallCountLemmas.{one_more_call}
use Rattle.pairing.proofs.ProbedLemmas.{prober, no_receive, all_before, the_next_receive_takes_it, else_the_first_pending_is_seen}

-- which receive is after a place, once a call was put in that is no receive of the envelope
behind_same : (groups : Groups) (recording : Lists) (rank : ℕ) (call : Call) (r place : ℕ) (f : Envelope) → rank < length recording → place ≤ length (calls_of recording r) → (r ≡ rank → has_envelope groups rank RecvHalf f call ≡ false) → receive_behind groups (appended recording rank call) r place f ≡ receive_behind groups recording r place f
behind_same groups recording rank call r place f is_rank within fails =
    ⊎_elim
    (λ (same : r ≡ rank).
    subst (λ (x : ℕ). place ≤ length (calls_of recording x) → receive_behind groups (appended recording rank call) x place f ≡ receive_behind groups recording x place f) (sym same)
    (λ less.
    rw (calls_of-appended recording rank call is_rank, take-append-le place (calls_of recording rank) (call ∷ []) less, places_on (has_envelope groups rank RecvHalf f) (calls_of recording rank) call, fails same) refl)
    within)
    (λ (differs : r ≢ rank). rw (calls_of-appended_other recording rank r call differs) refl)
    (cases_eq r rank)

-- once a receive of the envelope was put in
behind_more : (groups : Groups) (recording : Lists) (rank : ℕ) (call : Call) (place : ℕ) (e : Envelope) → rank < length recording → place ≤ length (calls_of recording rank) → has_envelope groups rank RecvHalf e call ≡ true →
    receive_behind groups (appended recording rank call) rank place e ≡ slice_get (places_of groups recording rank RecvHalf e ++ length (calls_of recording rank) ∷ []) (number_of groups recording rank RecvHalf e place)
behind_more groups recording rank call place e is_rank within passes =
    rw (calls_of-appended recording rank call is_rank, take-append-le place (calls_of recording rank) (call ∷ []) within, places_on (has_envelope groups rank RecvHalf e) (calls_of recording rank) call, passes) refl

-- nothing is after the call that was just put in
behind_last : (groups : Groups) (recording : Lists) (rank : ℕ) (call : Call) (e : Envelope) → rank < length recording → has_envelope groups rank RecvHalf e call ≡ false → receive_behind groups (appended recording rank call) rank (length (calls_of recording rank)) e ≡ None
behind_last groups recording rank call e is_rank fails =
    behind_same groups recording rank call rank (length (calls_of recording rank)) e is_rank (omega arith) (λ same. fails)
    ∙ slice_get_past (places_of groups recording rank RecvHalf e) (number_of groups recording rank RecvHalf e (length (calls_of recording rank))) (whole (calls_of recording rank))
  where
    taken : (xs : List Call) → take (length xs) xs ≡ xs
    taken [] = refl
    taken (x ∷ xs) = ap (λ (ys : List Call). x ∷ ys) (taken xs)

    whole : (xs : List Call) → length (places (has_envelope groups rank RecvHalf e) xs) ≤ count_before (has_envelope groups rank RecvHalf e) xs (length xs)
    whole xs = rw (taken xs) (omega arith)

-- a probe in a recording with one more call: it was there before, or it is that call
record IsLast (groups : Groups) (recording : Lists) (rank : ℕ) (call : Call) (r place : ℕ) (e : Envelope) : Type 0 where
  here : r ≡ rank
  last : place ≡ length (calls_of recording rank)
  probes : probed_envelope groups rank call ≡ Some e

record WasThere (groups : Groups) (recording : Lists) (r place : ℕ) (e : Envelope) : Type 0 where
  probes : probed_envelope_at groups recording r place ≡ Some e
  within : place < length (calls_of recording r)

which : (groups : Groups) (recording : Lists) (rank : ℕ) (call : Call) (r place : ℕ) (e : Envelope) → rank < length recording → probed_envelope_at groups (appended recording rank call) r place ≡ Some e → WasThere groups recording r place e ⊎ IsLast groups recording rank call r place e
which groups recording rank call r place e is_rank h =
    ⊎_elim
    (λ (same : r ≡ rank). own same (rw (same, calls_of-appended recording rank call is_rank) at h))
    (λ (differs : r ≢ rank). inl (there r place (rw (calls_of-appended_other recording rank r call differs) at h)))
    (cases_eq r rank)
  where
    there : (x p : ℕ) → probed_envelope_at groups recording x p ≡ Some e → WasThere groups recording x p e
    there x p probes =
        let parts = and_then_parts (probed_envelope groups x) (slice_get (calls_of recording x) p) e probes in
        record { probes = probes; within = slice_get_within (calls_of recording x) p parts.0 parts.1 }

    own : r ≡ rank → option_and_then (probed_envelope groups rank) (slice_get (calls_of recording rank ++ call ∷ []) place) ≡ Some e → WasThere groups recording r place e ⊎ IsLast groups recording rank call r place e
    own same probes =
        ⊎_elim
        (λ (less : place < length (calls_of recording rank)).
        inl (subst (λ (x : ℕ). WasThere groups recording x place e) (sym same) (there rank place (rw (slice_get-front (calls_of recording rank) (call ∷ []) place less) at probes))))
        (λ (past : length (calls_of recording rank) ≤ place).
        let parts = and_then_parts (probed_envelope groups rank) (slice_get (calls_of recording rank ++ call ∷ []) place) e probes in
        let within = slice_get_within (calls_of recording rank ++ call ∷ []) place parts.0 parts.1 in
        let count = length-append (calls_of recording rank) (call ∷ []) in
        let last : place ≡ length (calls_of recording rank) = omega (arith, past, within, count) in
        inr (record { here = same; last = last; probes = rw (last, get_end (calls_of recording rank) call) at probes }))
        (cases_lt place (length (calls_of recording rank)))

same_true : (e f : Envelope) → is_same_envelope f e ≡ true → f ≡ e
same_true e f h = same_envelope_true f e h

same_refl : (e : Envelope) → is_same_envelope e e ≡ true
same_refl e = rw (eq-eqb e.comm e.comm refl, eq-eqb e.source e.source refl, eq-eqb e.dest e.dest refl, eq-eqb e.tag e.tag refl) refl

cached_other : (seating : Seating) (rank place : ℕ) (seat : Option ℕ) (r p : ℕ) → (r ≡ rank → p ≡ place → ⊥) → seated seating rank place seat r p ≡ seating r p
cached_other seating rank place seat r p differs =
    ⊎_elim
    (λ (same : r ≡ rank). ⊎_elim (λ (here : p ≡ place). absurd (differs same here)) (λ (no : p ≢ place). grind (arith, common_steps)) (cases_eq p place))
    (λ (no : r ≢ rank). grind (arith, common_steps))
    (cases_eq r rank)

cached_own : (seating : Seating) (rank place : ℕ) (seat : Option ℕ) → seated seating rank place seat rank place ≡ seat
cached_own seating rank place seat = rw (eq-eqb rank rank refl, eq-eqb place place refl) refl

-- the seats once a probe is put in
grown : (o : Option ℕ) (seats new : List (Option ℕ)) → new ≡ (if is_some o then seats else seats ++ None ∷ []) → (seat : ℕ) (v : Option ℕ) → slice_get seats seat ≡ Some v → slice_get new seat ≡ Some v
grown (Some s) seats new is seat v h = rw is h
grown None seats new is seat v h = rw is (slice_get-front seats (None ∷ []) seat (slice_get_within seats seat v h) ∙ h)

sat : (o : Option ℕ) (seats new : List (Option ℕ)) → new ≡ (if is_some o then seats else seats ++ None ∷ []) → ((s : ℕ) → o ≡ Some s → slice_get seats s ≡ Some None) → slice_get new (unwrap_or o (length seats)) ≡ Some None
sat (Some s) seats new is empty = rw is (empty s refl)
sat None seats new is empty = rw is (get_end seats None)

alone : (o : Option ℕ) (seats : List (Option ℕ)) (e g : Envelope) → ((s : ℕ) → o ≡ Some s → unwrap_or o (length seats) ≡ s → e ≡ g) → slice_get seats (unwrap_or o (length seats)) ≡ Some None → e ≡ g
alone (Some s) seats e g once h = once s refl refl
alone None seats e g once h = absurd (none-some None (sym (slice_get_past seats (length seats) (omega arith)) ∙ h))

differ : (f e : Envelope) → (b : Bool) → is_same_envelope f e ≡ b → (f ≡ e) ⊎ (is_same_envelope f e ≡ false)
differ f e true h = inl (same_true e f h)
differ f e false h = inr h

-- probes stay as the recording goes on
still_probes : (groups : Groups) (recording : Lists) (rank : ℕ) (call : Call) → rank < length recording → HasProbe groups recording → HasProbe groups (appended recording rank call)
still_probes groups recording rank call is_rank it = record { rank = it.rank; place = it.place; envelope = it.envelope; is_probe = by_rank (cases_eq it.rank rank) }
  where
    own : probed_envelope_at groups recording rank it.place ≡ Some it.envelope → probed_envelope_at groups (appended recording rank call) rank it.place ≡ Some it.envelope
    own h =
        let parts = and_then_parts (probed_envelope groups rank) (slice_get (calls_of recording rank) it.place) it.envelope h in
        rw (calls_of-appended recording rank call is_rank, slice_get-front (calls_of recording rank) (call ∷ []) it.place (slice_get_within (calls_of recording rank) it.place parts.0 parts.1)) h

    by_rank : (it.rank ≡ rank) ⊎ (it.rank ≢ rank) → probed_envelope_at groups (appended recording rank call) it.rank it.place ≡ Some it.envelope
    by_rank (inl same) = subst (λ (r : ℕ). probed_envelope_at groups (appended recording rank call) r it.place ≡ Some it.envelope) (sym same) (own (subst (λ (r : ℕ). probed_envelope_at groups recording r it.place ≡ Some it.envelope) same it.is_probe))
    by_rank (inr differs) = rw (calls_of-appended_other recording rank it.rank call differs) it.is_probe

-- a probe that is put in is one of the recording
last_probes : (groups : Groups) (recording : Lists) (rank : ℕ) (call : Call) (e : Envelope) → rank < length recording → probed_envelope groups rank call ≡ Some e → HasProbe groups (appended recording rank call)
last_probes groups recording rank call e is_rank is_probe = record {
  rank = rank;
  place = length (calls_of recording rank);
  envelope = e;
  is_probe = rw (calls_of-appended recording rank call is_rank, get_end (calls_of recording rank) call) is_probe;
}

-- one seat more at most
one_seat : (o : Option ℕ) (seats new : List (Option ℕ)) → new ≡ (if is_some o then seats else seats ++ None ∷ []) → length new ≤ length seats + 1
one_seat (Some s) seats new is = rw is (omega arith)
one_seat None seats new is = rw is (omega (arith, length-append seats (None ∷ [])))

pub sits_more : (groups : Groups) (recording : Lists) (seating : Seating) (old new : Probes) (rank : ℕ) (call : Call) (e : Envelope) → rank < length recording → probed_envelope groups rank call ≡ Some e → Sits old new e → AreSeated groups recording seating old →
    AreSeated groups (appended recording rank call) (seated seating rank (length (calls_of recording rank)) (Some (seat_for old e))) new
sits_more groups recording seating old new rank call e is_rank is_probe sits are = record {
  seat = seat;
  empty = empty;
  once = once;
  few = omega (arith, are.few, one_more_call recording rank call is_rank, one_seat (unfilled_at old e) old.seats.items new.seats.items sits.seats);
  some = λ there. last_probes groups recording rank call e is_rank is_probe;
}
  where
    grows : (s : ℕ) (v : Option ℕ) → slice_get old.seats.items s ≡ Some v → slice_get new.seats.items s ≡ Some v
    grows s v h = grown (unfilled_at old e) old.seats.items new.seats.items sits.seats s v h

    lacks : (f : Envelope) → has_envelope groups rank RecvHalf f call ≡ false
    lacks f = rw (no_receive groups rank call e is_probe) refl

    sits_there : slice_get new.seats.items (seat_for old e) ≡ Some None
    sits_there = sat (unfilled_at old e) old.seats.items new.seats.items sits.seats (λ s h. are.empty e s h)

    opens : unfilled_at new e ≡ Some (seat_for old e)
    opens = sits.unfilled e ∙ ap (λ b. if b then Some (seat_for old e) else unfilled_at old e) (same_refl e)

    stays_open : (f : Envelope) (s : ℕ) → unfilled_at old f ≡ Some s → unfilled_at new f ≡ Some s
    stays_open f s h =
        ⊎_elim
        (λ (same : f ≡ e). subst (λ (g : Envelope). unfilled_at old g ≡ Some s → unfilled_at new g ≡ Some s) (sym same) (λ own. opens ∙ ap (λ (o : Option ℕ). Some (unwrap_or o (length old.seats.items))) own) h)
        (λ (differs : is_same_envelope f e ≡ false). sits.unfilled f ∙ ap (λ b. if b then Some (seat_for old e) else unfilled_at old f) differs ∙ h)
        (differ f e (is_same_envelope f e) refl)

    was : (r place : ℕ) (f : Envelope) → WasThere groups recording r place f → IsSeatOf groups (appended recording rank call) (seated seating rank (length (calls_of recording rank)) (Some (seat_for old e))) new r place f
    was r place f there =
        let it = are.seat r place f there.probes in
        let behind = behind_same groups recording rank call r place f is_rank (omega (arith, there.within)) (λ same. lacks f) in
        record {
          seat = it.seat;
          stands_there = cached_other seating rank (length (calls_of recording rank)) (Some (seat_for old e)) r place (λ same here. absurd (omega (arith, there.within, here, ap (λ (x : ℕ). length (calls_of recording x)) same))) ∙ it.stands_there;
          has = grows it.seat (receive_behind groups recording r place f) it.has ∙ ap (λ (o : Option ℕ). Some o) (sym behind);
          waits = λ none. stays_open f it.seat (it.waits (sym behind ∙ none));
        }

    last : (r place : ℕ) (f : Envelope) → IsLast groups recording rank call r place f → IsSeatOf groups (appended recording rank call) (seated seating rank (length (calls_of recording rank)) (Some (seat_for old e))) new r place f
    last r place f it =
        let same : e ≡ f = same_Some e f (sym is_probe ∙ it.probes) in
        let none = behind_last groups recording rank call e is_rank (lacks e) in
        subst (λ (g : Envelope). IsSeatOf groups (appended recording rank call) (seated seating rank (length (calls_of recording rank)) (Some (seat_for old e))) new r place g) same
        (subst (λ (x : ℕ). IsSeatOf groups (appended recording rank call) (seated seating rank (length (calls_of recording rank)) (Some (seat_for old e))) new x place e) (sym it.here)
        (subst (λ (p : ℕ). IsSeatOf groups (appended recording rank call) (seated seating rank (length (calls_of recording rank)) (Some (seat_for old e))) new rank p e) (sym it.last)
        (record {
          seat = seat_for old e;
          stands_there = cached_own seating rank (length (calls_of recording rank)) (Some (seat_for old e));
          has = sits_there ∙ ap (λ (o : Option ℕ). Some o) (sym none);
          waits = λ h. opens;
        })))

    seat : (r place : ℕ) (f : Envelope) → probed_envelope_at groups (appended recording rank call) r place ≡ Some f → IsSeatOf groups (appended recording rank call) (seated seating rank (length (calls_of recording rank)) (Some (seat_for old e))) new r place f
    seat r place f h = ⊎_elim (was r place f) (last r place f) (which groups recording rank call r place f is_rank h)

    open_was : (f : Envelope) (s : ℕ) → is_same_envelope f e ≡ false → unfilled_at new f ≡ Some s → unfilled_at old f ≡ Some s
    open_was f s differs h = sym (ap (λ b. if b then Some (seat_for old e) else unfilled_at old f) differs) ∙ sym (sits.unfilled f) ∙ h

    empty : (f : Envelope) (s : ℕ) → unfilled_at new f ≡ Some s → slice_get new.seats.items s ≡ Some None
    empty f s h =
        ⊎_elim
        (λ (same : f ≡ e). subst (λ (x : ℕ). slice_get new.seats.items x ≡ Some None) (same_Some (seat_for old e) s (sym opens ∙ ap (unfilled_at new) (sym same) ∙ h)) sits_there)
        (λ (differs : is_same_envelope f e ≡ false). grows s None (are.empty f s (open_was f s differs h)))
        (differ f e (is_same_envelope f e) refl)

    against : (g : Envelope) (s : ℕ) → seat_for old e ≡ s → unfilled_at old g ≡ Some s → e ≡ g
    against g s at h =
        alone (unfilled_at old e) old.seats.items e g
        (λ own is same. are.once e g s (is ∙ ap (λ (x : ℕ). Some x) (sym same ∙ at)) h)
        (subst (λ (x : ℕ). slice_get old.seats.items x ≡ Some None) (sym at) (are.empty g s h))

    once : (f g : Envelope) (s : ℕ) → unfilled_at new f ≡ Some s → unfilled_at new g ≡ Some s → f ≡ g
    once f g s h h' =
        ⊎_elim
        (λ (same : f ≡ e).
        ⊎_elim
        (λ (too : g ≡ e). same ∙ sym too)
        (λ (differs : is_same_envelope g e ≡ false). same ∙ against g s (same_Some (seat_for old e) s (sym opens ∙ ap (unfilled_at new) (sym same) ∙ h)) (open_was g s differs h'))
        (differ g e (is_same_envelope g e) refl))
        (λ (differs : is_same_envelope f e ≡ false).
        ⊎_elim
        (λ (too : g ≡ e). sym (against f s (same_Some (seat_for old e) s (sym opens ∙ ap (unfilled_at new) (sym too) ∙ h')) (open_was f s differs h)) ∙ sym too)
        (λ (neither : is_same_envelope g e ≡ false). are.once f g s (open_was f s differs h) (open_was g s neither h'))
        (differ g e (is_same_envelope g e) refl))
        (differ f e (is_same_envelope f e) refl)

-- a call that is no probe is nowhere among them
was_there : (groups : Groups) (recording : Lists) (rank : ℕ) (call : Call) (r place : ℕ) (f : Envelope) → rank < length recording → probed_envelope groups rank call ≡ None → probed_envelope_at groups (appended recording rank call) r place ≡ Some f → WasThere groups recording r place f
was_there groups recording rank call r place f is_rank none h =
    ⊎_elim (λ (there : WasThere groups recording r place f). there) (λ (it : IsLast groups recording rank call r place f). absurd (none-some f (sym none ∙ it.probes))) (which groups recording rank call r place f is_rank h)

neither_more : (groups : Groups) (recording : Lists) (seating : Seating) (old : Probes) (rank : ℕ) (call : Call) → rank < length recording → probed_envelope groups rank call ≡ None → envelope_of groups rank RecvHalf call ≡ None → AreSeated groups recording seating old →
    AreSeated groups (appended recording rank call) (seated seating rank (length (calls_of recording rank)) None) old
neither_more groups recording seating old rank call is_rank no_probe no_recv are = record {
  seat = seat;
  empty = are.empty;
  once = are.once;
  few = omega (arith, are.few, one_more_call recording rank call is_rank);
  some = λ there. still_probes groups recording rank call is_rank (are.some there);
}
  where
    seat : (r place : ℕ) (f : Envelope) → probed_envelope_at groups (appended recording rank call) r place ≡ Some f → IsSeatOf groups (appended recording rank call) (seated seating rank (length (calls_of recording rank)) None) old r place f
    seat r place f h =
        let there = was_there groups recording rank call r place f is_rank no_probe h in
        let it = are.seat r place f there.probes in
        let behind = behind_same groups recording rank call r place f is_rank (omega (arith, there.within)) (λ same. rw no_recv refl) in
        record {
          seat = it.seat;
          stands_there = cached_other seating rank (length (calls_of recording rank)) None r place (λ same here. absurd (omega (arith, there.within, here, ap (λ (x : ℕ). length (calls_of recording x)) same))) ∙ it.stands_there;
          has = it.has ∙ ap (λ (o : Option ℕ). Some o) (sym behind);
          waits = λ none. it.waits (sym behind ∙ none);
        }

-- the seats once a receive is put in
filled_other : (o : Option ℕ) (seats : List (Option ℕ)) (place s : ℕ) → (o ≡ Some s → ⊥) → slice_get (filled seats o place) s ≡ slice_get seats s
filled_other None seats place s differs = refl
filled_other (Some t) seats place s differs = slice_get-set_other seats t s (Some place) (λ same. differs (ap (λ (x : ℕ). Some x) (sym same)))

filled_own : (o : Option ℕ) (seats : List (Option ℕ)) (place s : ℕ) → o ≡ Some s → slice_get seats s ≡ Some None → slice_get (filled seats o place) s ≡ Some (Some place)
filled_own None seats place s is h = absurd (none-some s is)
filled_own (Some t) seats place s is h = rw (same_Some t s is) (slice_get-set_same seats s (Some place) (slice_get_within seats s None h))

filled_length : (o : Option ℕ) (seats : List (Option ℕ)) (place : ℕ) → length (filled seats o place) ≡ length seats
filled_length None seats place = refl
filled_length (Some t) seats place = length-set seats t (Some place)

follows_more : (groups : Groups) (recording : Lists) (seating : Seating) (old new : Probes) (rank : ℕ) (call : Call) (e : Envelope) → rank < length recording → probed_envelope groups rank call ≡ None → envelope_of groups rank RecvHalf call ≡ Some e → Follows old new e (length (calls_of recording rank)) → AreSeated groups recording seating old →
    AreSeated groups (appended recording rank call) (seated seating rank (length (calls_of recording rank)) None) new
follows_more groups recording seating old new rank call e is_rank no_probe receives follows are = record {
  seat = seat;
  empty = empty;
  once = once;
  few = omega (arith, are.few, one_more_call recording rank call is_rank, as_many);
  some = λ there. still_probes groups recording rank call is_rank (are.some (omega (arith, there, as_many)));
}
  where
    as_many : length new.seats.items ≡ length old.seats.items
    as_many = ap (λ (seats : List (Option ℕ)). length seats) follows.seats ∙ filled_length (unfilled_at old e) old.seats.items (length (calls_of recording rank))

    unless : Envelope → Bool → Option ℕ
    unless f b = if b then None else unfilled_at old f

    closes : (f : Envelope) (s : ℕ) → unfilled_at new f ≡ Some s → (is_same_envelope f e ≡ false) × (unfilled_at old f ≡ Some s)
    closes f s h =
        ⊎_elim
        (λ (same : f ≡ e). absurd (none-some s (sym (ap (unless f) (ap (λ (g : Envelope). is_same_envelope g e) same ∙ same_refl e)) ∙ sym (follows.unfilled f) ∙ h)))
        (λ (differs : is_same_envelope f e ≡ false). (differs, sym (ap (unless f) differs) ∙ sym (follows.unfilled f) ∙ h))
        (differ f e (is_same_envelope f e) refl)

    not_own : (f : Envelope) (s : ℕ) → is_same_envelope f e ≡ false → unfilled_at old f ≡ Some s → unfilled_at old e ≡ Some s → ⊥
    not_own f s differs h own = false≢true (sym differs ∙ ap (λ (g : Envelope). is_same_envelope g e) (are.once f e s h own) ∙ same_refl e)

    at_other : (s : ℕ) → (unfilled_at old e ≡ Some s → ⊥) → slice_get new.seats.items s ≡ slice_get old.seats.items s
    at_other s differs = rw follows.seats (filled_other (unfilled_at old e) old.seats.items (length (calls_of recording rank)) s differs)

    empty : (f : Envelope) (s : ℕ) → unfilled_at new f ≡ Some s → slice_get new.seats.items s ≡ Some None
    empty f s h = let was = closes f s h in at_other s (not_own f s was.0 was.1) ∙ are.empty f s was.1

    once : (f g : Envelope) (s : ℕ) → unfilled_at new f ≡ Some s → unfilled_at new g ≡ Some s → f ≡ g
    once f g s h h' = are.once f g s (closes f s h).1 (closes g s h').1

    differs_in : (f : Envelope) → is_same_envelope f e ≡ false → has_envelope groups rank RecvHalf f call ≡ false
    differs_in f differs =
        ⊎_elim
        (λ (yes : has_envelope groups rank RecvHalf f call ≡ true).
        let same : e ≡ f = same_Some e f (sym receives ∙ has_it f (envelope_of groups rank RecvHalf call) yes) in
        absurd (false≢true (sym differs ∙ ap (λ (g : Envelope). is_same_envelope g e) (sym same) ∙ same_refl e)))
        (λ (no : has_envelope groups rank RecvHalf f call ≡ false). no)
        (cases_Bool (has_envelope groups rank RecvHalf f call))

    has_own : has_envelope groups rank RecvHalf e call ≡ true
    has_own = rw receives (same_envelope_refl e)

    cached : (r place : ℕ) (f : Envelope) → WasThere groups recording r place f → seated seating rank (length (calls_of recording rank)) None r place ≡ seating r place
    cached r place f there = cached_other seating rank (length (calls_of recording rank)) None r place (λ same here. absurd (omega (arith, there.within, here, ap (λ (x : ℕ). length (calls_of recording x)) same)))

    -- a probe of another envelope
    other : (r place : ℕ) (f : Envelope) → WasThere groups recording r place f → is_same_envelope f e ≡ false → IsSeatOf groups (appended recording rank call) (seated seating rank (length (calls_of recording rank)) None) new r place f
    other r place f there differs =
        let it = are.seat r place f there.probes in
        let behind = behind_same groups recording rank call r place f is_rank (omega (arith, there.within)) (λ same. differs_in f differs) in
        record {
          seat = it.seat;
          stands_there = cached r place f there ∙ it.stands_there;
          has = at_other it.seat (keeps it) ∙ it.has ∙ ap (λ (o : Option ℕ). Some o) (sym behind);
          waits = λ none. follows.unfilled f ∙ ap (λ b. if b then None else unfilled_at old f) differs ∙ it.waits (sym behind ∙ none);
        }
      where
        keeps : (it : IsSeatOf groups recording seating old r place f) → unfilled_at old e ≡ Some it.seat → ⊥
        keeps it own = by_behind (receive_behind groups recording r place f) refl
          where
            by_behind : (o : Option ℕ) → receive_behind groups recording r place f ≡ o → ⊥
            by_behind None is = not_own f it.seat differs (it.waits is) own
            by_behind (Some there) is = absurd (none-some there (same_Some None (Some there) (sym (are.empty e it.seat own) ∙ it.has ∙ ap (λ (o : Option ℕ). Some o) is)))

    -- a probe of the same
    own_one : (place : ℕ) → WasThere groups recording rank place e → IsSeatOf groups (appended recording rank call) (seated seating rank (length (calls_of recording rank)) None) new rank place e
    own_one place there = by_behind (receive_behind groups recording rank place e) refl
      where
        it : IsSeatOf groups recording seating old rank place e
        it = are.seat rank place e there.probes

        more : receive_behind groups (appended recording rank call) rank place e ≡ slice_get (places_of groups recording rank RecvHalf e ++ length (calls_of recording rank) ∷ []) (number_of groups recording rank RecvHalf e place)
        more = behind_more groups recording rank call place e is_rank (omega (arith, there.within)) has_own

        by_behind : (o : Option ℕ) → receive_behind groups recording rank place e ≡ o → IsSeatOf groups (appended recording rank call) (seated seating rank (length (calls_of recording rank)) None) new rank place e
        by_behind None is =
            let now : receive_behind groups (appended recording rank call) rank place e ≡ Some (length (calls_of recording rank)) =
            more ∙ ap (slice_get (places_of groups recording rank RecvHalf e ++ length (calls_of recording rank) ∷ [])) (all_before groups recording rank place e is) ∙ get_end (places_of groups recording rank RecvHalf e) (length (calls_of recording rank)) in
            record {
              seat = it.seat;
              stands_there = cached rank place e there ∙ it.stands_there;
              has = rw follows.seats (filled_own (unfilled_at old e) old.seats.items (length (calls_of recording rank)) it.seat (it.waits is) (it.has ∙ ap (λ (o : Option ℕ). Some o) is)) ∙ ap (λ (o : Option ℕ). Some o) (sym now);
              waits = λ none. absurd (none-some (length (calls_of recording rank)) (sym none ∙ now));
            }
        by_behind (Some found) is =
            let now : receive_behind groups (appended recording rank call) rank place e ≡ Some found =
            more ∙ slice_get-front (places_of groups recording rank RecvHalf e) (length (calls_of recording rank) ∷ []) (number_of groups recording rank RecvHalf e place) (slice_get_within (places_of groups recording rank RecvHalf e) (number_of groups recording rank RecvHalf e place) found is) ∙ is in
            record {
              seat = it.seat;
              stands_there = cached rank place e there ∙ it.stands_there;
              has = at_other it.seat (λ own. absurd (none-some found (same_Some None (Some found) (sym (are.empty e it.seat own) ∙ it.has ∙ ap (λ (o : Option ℕ). Some o) is)))) ∙ it.has ∙ ap (λ (o : Option ℕ). Some o) (is ∙ sym now);
              waits = λ none. absurd (none-some found (sym none ∙ now));
            }

    seat : (r place : ℕ) (f : Envelope) → probed_envelope_at groups (appended recording rank call) r place ≡ Some f → IsSeatOf groups (appended recording rank call) (seated seating rank (length (calls_of recording rank)) None) new r place f
    seat r place f h =
        let there = was_there groups recording rank call r place f is_rank no_probe h in
        ⊎_elim
        (λ (same : f ≡ e).
        let probe = and_then_parts (probed_envelope groups r) (slice_get (calls_of recording r) place) f there.probes in
        let receiver : r ≡ rank = same_Some r rank (sym (prober groups r probe.0 f probe.2) ∙ ap (rank_of_half groups RecvHalf) same ∙ own_rank groups rank RecvHalf call e receives) in
        subst (λ (g : Envelope). IsSeatOf groups (appended recording rank call) (seated seating rank (length (calls_of recording rank)) None) new r place g) (sym same)
        (subst (λ (x : ℕ). IsSeatOf groups (appended recording rank call) (seated seating rank (length (calls_of recording rank)) None) new x place e) (sym receiver)
        (own_one place (subst (λ (x : ℕ). WasThere groups recording x place e) receiver (subst (λ (g : Envelope). WasThere groups recording r place g) same there)))))
        (λ (differs : is_same_envelope f e ≡ false). other r place f there differs)
        (differ f e (is_same_envelope f e) refl)

-- the half of a call that receives, if there is one
pub receives_more : (groups : Groups) (recording : Lists) (seating : Seating) (old new : Probes) (rank : ℕ) (call : Call) (half : Option NumberedEnvelope) → rank < length recording → probed_envelope groups rank call ≡ None → option_map (λ (own : NumberedEnvelope). own.envelope) half ≡ envelope_of groups rank RecvHalf call →
    (half ≡ None → new ≡ old) → IfSome half (λ (own : NumberedEnvelope). Follows old new own.envelope (length (calls_of recording rank))) → AreSeated groups recording seating old →
    AreSeated groups (appended recording rank call) (seated seating rank (length (calls_of recording rank)) None) new
receives_more groups recording seating old new rank call None is_rank no_probe received none some are =
    subst (AreSeated groups (appended recording rank call) (seated seating rank (length (calls_of recording rank)) None)) (sym (none refl)) (neither_more groups recording seating old rank call is_rank no_probe (sym received) are)
receives_more groups recording seating old new rank call (Some own) is_rank no_probe received none some are =
    follows_more groups recording seating old new rank call own.envelope is_rank no_probe (sym received) some are

-- room alone changes nothing
pub seats_stay : (groups : Groups) (recording : Lists) (seating : Seating) (old new : Probes) → new.seats.items ≡ old.seats.items → ((e : Envelope) → unfilled_at new e ≡ unfilled_at old e) → AreSeated groups recording seating old → AreSeated groups recording seating new
seats_stay groups recording seating old new seats opens are = record {
  seat = λ r place e h.
      let it = are.seat r place e h in
      record { seat = it.seat; stands_there = it.stands_there; has = rw seats it.has; waits = λ none. opens e ∙ it.waits none };
  empty = λ e s h. rw seats (are.empty e s (sym (opens e) ∙ h));
  once = λ e f s h h'. are.once e f s (sym (opens e) ∙ h) (sym (opens f) ∙ h');
  few = rw seats are.few;
  some = λ there. are.some (rw seats at there);
}

-- with each probe more may be kept than is said
pub reseated : (groups : Groups) (recording : Lists) (f g : Seating) (probes : Probes) → ((r p s : ℕ) → f r p ≡ Some s → g r p ≡ Some s) → AreSeated groups recording f probes → AreSeated groups recording g probes
reseated groups recording f g probes more are = record {
  seat = λ r place e h.
      let it = are.seat r place e h in
      record { seat = it.seat; stands_there = more r place it.seat it.stands_there; has = it.has; waits = it.waits };
  empty = are.empty;
  once = are.once;
  few = are.few;
  some = are.some;
}

-- a call that is no probe has no seat
pub unseated : (seating : Seating) (rank place : ℕ) (r p s : ℕ) → seated seating rank place None r p ≡ Some s → seating r p ≡ Some s
unseated seating rank place r p s h =
    ⊎_elim
    (λ (here : (r == rank && p == place) ≡ true). absurd (none-some s (rw here at h)))
    (λ (there : (r == rank && p == place) ≡ false). rw there at h)
    (cases_Bool (r == rank && p == place))

-- what a probe sees, by its seat
pub seen : (groups : Groups) (recording : Lists) (rank place : ℕ) (e : Envelope) (o : Option ℕ) → probed_envelope_at groups recording rank place ≡ Some e → receive_behind groups recording rank place e ≡ o → probed_of groups recording rank place ≡ seen_from groups recording rank o e
seen groups recording rank place e (Some there) probes behind = the_next_receive_takes_it groups recording rank place e there probes behind
seen groups recording rank place e None probes none = by_sender (rank_of_half groups SendHalf e) refl
  where
    by_sender : (o : Option ℕ) → rank_of_half groups SendHalf e ≡ o → probed_of groups recording rank place ≡ seen_from groups recording rank None e
    by_sender None sends = rw (probes, sends) refl
    by_sender (Some sender) sends =
        let back : option_map (λ there. (sender, there)) (slice_get (pending_of groups recording SendHalf e) 0) ≡ seen_from groups recording rank None e = rw sends refl in
        else_the_first_pending_is_seen groups recording rank place sender e probes none sends ∙ back

pub seen_by : (groups : Groups) (recording : Lists) (seating : Seating) (probes : Probes) (rank place seat : ℕ) (e : Envelope) → AreSeated groups recording seating probes → probed_envelope_at groups recording rank place ≡ Some e → seating rank place ≡ Some seat → probed_of groups recording rank place ≡ seen_from groups recording rank (option_and_then (λ (o : Option ℕ). o) (slice_get probes.seats.items seat)) e
seen_by groups recording seating probes rank place seat e are is_probe stands =
    let it = are.seat rank place e is_probe in
    let same : it.seat ≡ seat = same_Some it.seat seat (sym it.stands_there ∙ stands) in
    let has = rw same at it.has in
    rw has (seen groups recording rank place e (receive_behind groups recording rank place e) is_probe refl)

pub has_seat : (groups : Groups) (recording : Lists) (seating : Seating) (probes : Probes) (rank place : ℕ) (e : Envelope) → AreSeated groups recording seating probes → probed_envelope_at groups recording rank place ≡ Some e → seating rank place ≡ None → ⊥
has_seat groups recording seating probes rank place e are is_probe none = none-some (are.seat rank place e is_probe).seat (sym none ∙ (are.seat rank place e is_probe).stands_there)

-- there are seats just where there are probes
pub has_probes_if : (groups : Groups) (recording : Lists) (seating : Seating) (probes : Probes) (result : Bool) → result ≡ not (eqb (length probes.seats.items) 0) → AreSeated groups recording seating probes → HasProbesIf result groups recording
has_probes_if groups recording seating probes true is are = are.some (positive (length probes.seats.items) is)
  where
    positive : (n : ℕ) → true ≡ not (eqb n 0) → 0 < n
    positive zero h = absurd (false≢true (sym h))
    positive (suc n) h = omega arith
has_probes_if groups recording seating probes false is are = λ rank place. by_envelope rank place (probed_envelope_at groups recording rank place) refl
  where
    none : (n : ℕ) → false ≡ not (eqb n 0) → n ≡ 0
    none n h = ⊎_elim (λ (is_none : n ≡ 0). is_none) (λ (differs : n ≢ 0). absurd (false≢true (h ∙ ap not (ne_eqb n 0 differs)))) (cases_eq n 0)

    by_envelope : (rank place : ℕ) (o : Option Envelope) → probed_envelope_at groups recording rank place ≡ o → probed_of groups recording rank place ≡ None
    by_envelope rank place None h = rw h refl
    by_envelope rank place (Some e) h =
        let it = are.seat rank place e h in
        absurd (omega (arith, none (length probes.seats.items) is, slice_get_within probes.seats.items it.seat (receive_behind groups recording rank place e) it.has))
