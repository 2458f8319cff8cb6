-- The halves of a recording are filed in the order of their ranks' lists, and go on with a call.
use Rattle.std.proofs.Common.{◌≡◌, ◌≢◌, ℕ, zero, suc, ◌+◌, ◌<◌, Bool, true, false, Option, Some, None, List, [], ◌∷◌, ◌++◌, length, drop, replicate, refl, sym, ap, subst, ◌∙◌, ⊎_elim, arith}
use Rattle.std.specs.Prelude.{if◌then◌else◌, is_some, IfSome}
use Rattle.std.specs.List.{slice_get}
use Rattle.std.specs.Option.{option_map, option_map_or, option_and_then}
use Rattle.std.proofs.lemmas.Bool.{cases_Bool, cases_eq}
use Rattle.std.proofs.lemmas.List.{drop_all}
use Rattle.std.proofs.lemmas.Option.{none-some, same_Some, slice_get_within}
use Rattle.arenaqueue.specs.Numbers.{counted}
use Rattle.mpicall.specs.declared.call.Call.{Call}
use Rattle.mpigroup.specs.Groups.{Groups}
use Rattle.mpigroup.proofs.ListLemmas.{get_end}
use Rattle.callstore.specs.declared.envelope.Envelope.{Envelope}
use Rattle.callstore.specs.declared.envelope.Half.{Half}
use Rattle.callstore.specs.declared.envelope.Half.TheVariants.{Send as SendHalf, Recv as RecvHalf}
use Rattle.pairing.specs.declared.matches.Halves.{Halves}
use Rattle.pairing.specs.declared.matches.NumberedEnvelope.{NumberedEnvelope}
use Rattle.callstore.specs.Envelopes.{other_half, envelope_of, same_envelope, rank_of_half, has_envelope}
use Rattle.pairing.specs.inner.Kept.{AreNoted, ArePartnered}
use Rattle.pairing.specs.Matched.{halves_of, pending_of}
use Rattle.pairing.specs.inner.Matched.{Matching, Filing, filed_on, filed_halves, worked_if, worked, number_in, pending_at, pending_by, IsGrown, IsMatched, ArePaired, IsNext}
use Rattle.pairing.specs.Work.{count_halves, halves_in, halves_from, work_of}
use Rattle.callstore.specs.Notes.{Noted, notes_of, with_note}
use Rattle.callstore.specs.inner.Notes.{recording_of, kept_at}
use Rattle.callstore.specs.CachedMatch.{partner_in}
use Rattle.pairing.specs.Partners.{envelope_at, places_of, number_of, numbered, partner_of}
use Rattle.callstore.specs.Places.{places}
use Rattle.callstore.specs.Recordings.{Lists, calls_of, appended}
use Rattle.pairing.proofs.MeetingLemmas.{filed_other_half}
use Rattle.pairing.proofs.NotedLemmas.{notes_of-same, notes_of-other}
use Rattle.callstore.proofs.OptionLemmas.{map_parts}
use Rattle.pairing.proofs.PartnerLemmas.{own_rank, own_place, numbered_half, has_it, envelope_at_parts, partner_parts, HasHalf}
use Rattle.callstore.proofs.PlaceLemmas.{slice_get-front}
use Rattle.callstore.proofs.PlacesLemmas.{with_place, places_on, no_calls}
use Rattle.callstore.proofs.RecordingLemmas.{calls_of-appended, calls_of-appended_other}

-- the halves of an envelope are the places of their rank
halves_by : (groups : Groups) (recording : Lists) (half : Half) (e : Envelope) (rank : ℕ) → rank_of_half groups half e ≡ Some rank → halves_of groups recording half e ≡ places_of groups recording rank half e
halves_by groups recording half e rank is = ap (λ (o : Option ℕ). option_map_or (λ r. places_of groups recording r half e) o []) is

-- the place of a half with a number is that of the envelope's half
place_numbered : (groups : Groups) (recording : Lists) (half : Half) (e : Envelope) (number : ℕ) → option_map (λ partner. partner.1) (numbered groups recording half e number) ≡ slice_get (halves_of groups recording half e) number
place_numbered groups recording half e number = by_rank (rank_of_half groups half e)
  where
    by_place : (rank : ℕ) (o : Option ℕ) → option_map (λ partner. partner.1) (option_map {U = ℕ × ℕ} (λ place. (rank, place)) o) ≡ o
    by_place rank None = refl
    by_place rank (Some place) = refl

    by_rank : (o : Option ℕ) → option_map (λ partner. partner.1) (option_and_then (λ rank. option_map {U = ℕ × ℕ} (λ place. (rank, place)) (slice_get (places_of groups recording rank half e) number)) o) ≡ slice_get (option_map_or (λ rank. places_of groups recording rank half e) o []) number
    by_rank None = refl
    by_rank (Some rank) = by_place rank (slice_get (places_of groups recording rank half e) number)

-- the place of the partner of a half that is filed
partner_filed : (groups : Groups) (recording : Lists) (half : Half) (e : Envelope) (number rank place : ℕ) → rank_of_half groups half e ≡ Some rank → slice_get (halves_of groups recording half e) number ≡ Some place → option_map (λ partner. partner.1) (partner_of groups recording rank place half) ≡ slice_get (halves_of groups recording (other_half half) e) number
partner_filed groups recording half e number rank place theirs found =
    let has = numbered_half groups recording rank place half e number (ap (λ (ps : List ℕ). slice_get ps number) (sym (halves_by groups recording half e rank theirs)) ∙ found) in
    rw (has.0.stands_there, has.0.envelope, has.1) (place_numbered groups recording (other_half half) e number)

envelope_filed : (groups : Groups) (recording : Lists) (half : Half) (e : Envelope) (number rank place : ℕ) → rank_of_half groups half e ≡ Some rank → slice_get (halves_of groups recording half e) number ≡ Some place → HasHalf groups recording rank place half e
envelope_filed groups recording half e number rank place theirs found =
    (numbered_half groups recording rank place half e number (ap (λ (ps : List ℕ). slice_get ps number) (sym (halves_by groups recording half e rank theirs)) ∙ found)).0

half_at : (groups : Groups) (recording : Lists) (rank place : ℕ) (half : Half) (e : Envelope) → HasHalf groups recording rank place half e → envelope_at groups recording rank place half ≡ Some e
half_at groups recording rank place half e has = rw has.stands_there has.envelope

filed_once : (groups : Groups) (recording : Lists) (half : Half) (e : Envelope) (number other place : ℕ) → slice_get (halves_of groups recording half e) number ≡ Some place → slice_get (halves_of groups recording half e) other ≡ Some place → number ≡ other
filed_once groups recording half e number other place found found' = by_rank (rank_of_half groups half e) found found'
  where
    by_rank : (o : Option ℕ) → slice_get (option_map_or (λ rank. places_of groups recording rank half e) o []) number ≡ Some place → slice_get (option_map_or (λ rank. places_of groups recording rank half e) o []) other ≡ Some place → number ≡ other
    by_rank None one two = absurd (none-some place one)
    by_rank (Some rank) one two =
        sym (numbered_half groups recording rank place half e number one).1 ∙ (numbered_half groups recording rank place half e other two).1

-- a half stays as the recording goes on by a call
half_on : (groups : Groups) (recording : Lists) (rank : ℕ) (call : Call) (r place : ℕ) (half : Half) (e : Envelope) → rank < length recording → HasHalf groups recording r place half e → HasHalf groups (appended recording rank call) r place half e
half_on groups recording rank call r place half e is_rank has = record { call = has.call; stands_there = stands; envelope = has.envelope }
  where
    stands : slice_get (calls_of (appended recording rank call) r) place ≡ Some has.call
    stands =
        ⊎_elim
        (λ (is_r : r ≡ rank).
        subst (λ (x : ℕ). slice_get (calls_of recording x) place ≡ Some has.call → slice_get (calls_of (appended recording rank call) x) place ≡ Some has.call) (sym is_r)
        (λ there.
        ap (λ (calls : List Call). slice_get calls place) (calls_of-appended recording rank call is_rank)
        ∙ slice_get-front (calls_of recording rank) (call ∷ []) place (slice_get_within (calls_of recording rank) place has.call there)
        ∙ there)
        has.stands_there)
        (λ (isnt_r : r ≢ rank). ap (λ (calls : List Call). slice_get calls place) (calls_of-appended_other recording rank r call isnt_r) ∙ has.stands_there)
        (cases_eq r rank)

-- what is kept stays as a call is noted that has no partner yet
kept_more : (notes : List (List Noted)) (rank : ℕ) (noted : Noted) → rank < length notes → ((half : Half) → partner_in half noted.cached ≡ None) → (half : Half) (r place : ℕ) → kept_at (with_note notes rank noted) half r place ≡ kept_at notes half r place
kept_more notes rank noted is_rank alone half r place =
    ⊎_elim
    (λ (is_r : r ≡ rank).
    subst (λ (x : ℕ). kept_at (with_note notes rank noted) half x place ≡ kept_at notes half x place) (sym is_r)
    (ap (λ (list : List Noted). option_and_then (λ note. partner_in half note.cached) (slice_get list place)) (notes_of-same notes rank noted is_rank)
    ∙ in_list (notes_of notes rank) place))
    (λ (isnt_r : r ≢ rank).
    ap (λ (list : List Noted). option_and_then (λ note. partner_in half note.cached) (slice_get list place)) (notes_of-other notes rank r noted isnt_r))
    (cases_eq r rank)
  where
    in_list : (list : List Noted) (p : ℕ) → option_and_then (λ note. partner_in half note.cached) (slice_get (list ++ noted ∷ []) p) ≡ option_and_then (λ note. partner_in half note.cached) (slice_get list p)
    in_list [] zero = alone half
    in_list [] (suc p) = refl
    in_list (n ∷ list) zero = refl
    in_list (n ∷ list) (suc p) = in_list list p

-- so the halves of a recording are paired, as its next call is noted
pub paired_from : (groups : Groups) (notes : List (List Noted)) (rank : ℕ) (noted : Noted) (matching : Matching) → rank < length notes → rank < length (recording_of notes) → recording_of (with_note notes rank noted) ≡ appended (recording_of notes) rank noted.call → ((half : Half) → partner_in half noted.cached ≡ None) → AreNoted (with_note notes rank noted) → ArePartnered groups notes → IsMatched groups (recording_of notes) matching → ArePaired groups (with_note notes rank noted) (halves_of groups (recording_of notes)) matching
paired_from groups notes rank noted matching is_rank in_recording longer alone are_noted partnered matched = record {
  noted = are_noted;
  pending = matched.pending;
  kept = λ half e number r place theirs found.
      kept_more notes rank noted is_rank alone half r place
      ∙ partnered half r place
      ∙ partner_filed groups (recording_of notes) half e number r place theirs found;
  filed = λ half r place there is.
      let was = map_parts (λ partner. partner.1) (partner_of groups (recording_of notes) r place half) there
      (sym (kept_more notes rank noted is_rank alone half r place ∙ partnered half r place) ∙ is) in
      let parts = partner_parts groups (recording_of notes) r place half was.0.0 was.0.1 was.1 in
      let theirs = own_rank groups r half parts.own.call parts.e parts.own.envelope in (
        parts.e,
        number_of groups (recording_of notes) r half parts.e place,
        theirs,
        ap (λ (ps : List ℕ). slice_get ps (number_of groups (recording_of notes) r half parts.e place)) (halves_by groups (recording_of notes) half parts.e r theirs)
            ∙ own_place groups (recording_of notes) r place half parts.e parts.own,
      );
  placed = λ half e number r place theirs found.
      ap (λ (recording : Lists). envelope_at groups recording r place half) longer
      ∙ half_at groups (appended (recording_of notes) rank noted.call) r place half e
      (half_on groups (recording_of notes) rank noted.call r place half e in_recording
      (envelope_filed groups (recording_of notes) half e number r place theirs found));
  once = filed_once groups (recording_of notes);
  ranked = λ half e none. ap (λ (o : Option ℕ). option_map_or (λ r. places_of groups (recording_of notes) r half e) o []) none;
}

-- the halves of the rank's next call come next
pub comes_next : (groups : Groups) (recording longer : Lists) (rank place : ℕ) (call : Call) (half : Half) (e : Envelope) → longer ≡ appended recording rank call → rank < length recording → place ≡ length (calls_of recording rank) → envelope_of groups rank half call ≡ Some e → IsNext groups longer (halves_of groups recording) rank place half e
comes_next groups recording longer rank place call half e is is_rank next at_envelope = record {
  here =
      ap (λ (lists : Lists). envelope_at groups lists rank place half) is
      ∙ half_at groups (appended recording rank call) rank place half e
      (record {
        call = call;
        stands_there =
            ap (λ (calls : List Call). slice_get calls place) (calls_of-appended recording rank call is_rank)
            ∙ ap (λ (p : ℕ). slice_get (calls_of recording rank ++ call ∷ []) p) next
            ∙ get_end (calls_of recording rank) call;
        envelope = at_envelope;
      });
  last = λ f number before theirs found.
      let has = envelope_filed groups recording half f number rank before theirs found in
      let within = slice_get_within (calls_of recording rank) before has.call has.stands_there in
      omega (arith, within, next);
}

pub come_next : (groups : Groups) (recording longer : Lists) (rank place : ℕ) (call : Call) (half : Half) (o : Option NumberedEnvelope) → longer ≡ appended recording rank call → rank < length recording → place ≡ length (calls_of recording rank) → option_map (λ it. it.envelope) o ≡ envelope_of groups rank half call → IfSome o (λ it. IsNext groups longer (halves_of groups recording) rank place half it.envelope)
come_next groups recording longer rank place call half None is is_rank next at_envelope = tt
come_next groups recording longer rank place call half (Some it) is is_rank next at_envelope =
    comes_next groups recording longer rank place call half it.envelope is is_rank next (sym at_envelope)

-- the other half comes next still, once one is filed
pub next_still : (groups : Groups) (recording : Lists) (filing : Filing) (rank place : ℕ) (half : Half) (o : Option Envelope) (e : Envelope) → IsNext groups recording filing rank place (other_half half) e → IsNext groups recording (filed_on half o place filing) rank place (other_half half) e
next_still groups recording filing rank place half o e next = record {
  here = next.here;
  last = λ f number before theirs found. next.last f number before theirs (sym (ap (λ (ps : List ℕ). slice_get ps number) (filed_other_half half o f place filing)) ∙ found);
}

pub recv_next_still : (groups : Groups) (recording : Lists) (filing : Filing) (rank place : ℕ) (o : Option Envelope) (recv : Option NumberedEnvelope) → IfSome recv (λ it. IsNext groups recording filing rank place RecvHalf it.envelope) → IfSome recv (λ it. IsNext groups recording (filed_on SendHalf o place filing) rank place RecvHalf it.envelope)
recv_next_still groups recording filing rank place o None next = tt
recv_next_still groups recording filing rank place o (Some it) next = next_still groups recording filing rank place SendHalf o it.envelope next

-- the halves of a recording with one more call
halves_put : (groups : Groups) (recording : Lists) (rank place : ℕ) (call : Call) (half : Half) (e : Envelope) → rank < length recording → place ≡ length (calls_of recording rank) → with_place (has_envelope groups rank half e call) (halves_of groups recording half e) place ≡ halves_of groups (appended recording rank call) half e
halves_put groups recording rank place call half e is_rank next = by_rank (rank_of_half groups half e) refl
  where
    of_rank : (has : Bool) → has_envelope groups rank half e call ≡ has → has ≡ true → rank_of_half groups half e ≡ Some rank
    of_rank has is passes = own_rank groups rank half call e (has_it e (envelope_of groups rank half call) (is ∙ passes))

    fails : (o : Option ℕ) → rank_of_half groups half e ≡ o → (o ≡ Some rank → ⊥) → has_envelope groups rank half e call ≡ false
    fails o is differs =
        ⊎_elim
        (λ (passes : has_envelope groups rank half e call ≡ true). absurd (differs (sym is ∙ of_rank true passes refl)))
        (λ (fails' : has_envelope groups rank half e call ≡ false). fails')
        (cases_Bool (has_envelope groups rank half e call))

    by_rank : (o : Option ℕ) → rank_of_half groups half e ≡ o → with_place (has_envelope groups rank half e call) (option_map_or (λ r. places_of groups recording r half e) o []) place ≡ option_map_or (λ r. places_of groups (appended recording rank call) r half e) o []
    by_rank None is = ap (λ b. with_place b [] place) (fails None is (λ same. none-some rank same))
    by_rank (Some other) is =
        ⊎_elim
        (λ (same : other ≡ rank).
        subst (λ (r : ℕ). with_place (has_envelope groups rank half e call) (places_of groups recording r half e) place ≡ places_of groups (appended recording rank call) r half e) (sym same)
        (ap (λ (m : ℕ). with_place (has_envelope groups rank half e call) (places_of groups recording rank half e) m) next
        ∙ sym (ap (λ calls. places (has_envelope groups rank half e) calls) (calls_of-appended recording rank call is_rank)
        ∙ places_on (has_envelope groups rank half e) (calls_of recording rank) call)))
        (λ (differs : other ≢ rank).
        ap (λ b. with_place b (places_of groups recording other half e) place) (fails (Some other) is (λ same. differs (same_Some other rank same)))
        ∙ sym (ap (λ calls. places (has_envelope groups other half e) calls) (calls_of-appended_other recording rank other call differs)))
        (cases_eq other rank)

abbrev pub envelopes : Option NumberedEnvelope → Option Envelope
envelopes o = option_map (λ it. it.envelope) o

pub filed_call : (groups : Groups) (recording : Lists) (rank place : ℕ) (call : Call) (halves : Halves) → rank < length recording → place ≡ length (calls_of recording rank) → envelopes halves.send ≡ envelope_of groups rank SendHalf call → envelopes halves.recv ≡ envelope_of groups rank RecvHalf call → (half : Half) (e : Envelope) → filed_halves halves place (halves_of groups recording) half e ≡ halves_of groups (appended recording rank call) half e
filed_call groups recording rank place call halves is_rank next sends recvs SendHalf e =
    ap (λ (o : Option Envelope). with_place (option_map_or (same_envelope e) o false) (halves_of groups recording SendHalf e) place) sends
    ∙ halves_put groups recording rank place call SendHalf e is_rank next
filed_call groups recording rank place call halves is_rank next sends recvs RecvHalf e =
    ap (λ (o : Option Envelope). with_place (option_map_or (same_envelope e) o false) (halves_of groups recording RecvHalf e) place) recvs
    ∙ halves_put groups recording rank place call RecvHalf e is_rank next

-- and what is paired is kept and pending as the recording gives it
module _ (groups : Groups) (notes : List (List Noted)) (filing : Filing) (matching : Matching) (recording : Lists) (same : recording_of notes ≡ recording)
    (filed : (half : Half) (e : Envelope) → filing half e ≡ halves_of groups recording half e) (paired : ArePaired groups notes filing matching) where
  pub pending_to : (half : Half) (e : Envelope) → pending_by matching half e ≡ pending_of groups recording half e
  pending_to half e =
      paired.pending half e
      ∙ ap (λ (ps : List ℕ). drop (length ps) (filing half e)) (filed (other_half half) e)
      ∙ ap (λ (ps : List ℕ). drop (length (halves_of groups recording (other_half half) e)) ps) (filed half e)

  partnered_by : (half : Half) (rank place : ℕ) (o : Option Envelope) → envelope_at groups recording rank place half ≡ o → kept_at notes half rank place ≡ option_map (λ partner. partner.1) (partner_of groups recording rank place half)
  partnered_by half rank place None none =
      not_kept (kept_at notes half rank place) refl
      ∙ sym (ap (λ (o : Option Envelope). option_map (λ partner. partner.1) (option_and_then (λ e. numbered groups recording (other_half half) e (number_of groups recording rank half e place)) o)) none)
    where
      not_kept : (o : Option ℕ) → kept_at notes half rank place ≡ o → kept_at notes half rank place ≡ None
      not_kept None is = is
      not_kept (Some x) is =
          let found = paired.filed half rank place x is in
          absurd
          (none-some found.0
          (sym none ∙ ap (λ (lists : Lists). envelope_at groups lists rank place half) (sym same) ∙ paired.placed half found.0 found.1 rank place found.2 found.3))
  partnered_by half rank place (Some e) at_envelope =
      let has = envelope_at_parts groups recording rank place half e at_envelope in
      let theirs = own_rank groups rank half has.call e has.envelope in
      let number = number_of groups recording rank half e place in
      let found : slice_get (halves_of groups recording half e) number ≡ Some place =
      ap (λ (ps : List ℕ). slice_get ps number) (halves_by groups recording half e rank theirs) ∙ own_place groups recording rank place half e has in
      paired.kept half e number rank place theirs (ap (λ (ps : List ℕ). slice_get ps number) (filed half e) ∙ found)
      ∙ ap (λ (ps : List ℕ). slice_get ps number) (filed (other_half half) e)
      ∙ sym (partner_filed groups recording half e number rank place theirs found)

  pub partnered_to : ArePartnered groups notes
  partnered_to half rank place =
      subst (λ (lists : Lists). kept_at notes half rank place ≡ option_map (λ partner. partner.1) (partner_of groups lists rank place half)) (sym same)
      (partnered_by half rank place (envelope_at groups recording rank place half) refl)

-- the work of a recording with one more call
halves_in_push : (groups : Groups) (rank : ℕ) (calls : List Call) (call : Call) → halves_in groups rank (calls ++ call ∷ []) ≡ halves_in groups rank calls + count_halves groups rank call
halves_in_push groups rank [] call = omega arith
halves_in_push groups rank (first ∷ calls) call =
    let rest = halves_in_push groups rank calls call in
    omega (arith, rest)

halves_more : (groups : Groups) (from : ℕ) (recording : Lists) (rank : ℕ) (call : Call) → rank < length recording → halves_from groups from (appended recording rank call) ≡ halves_from groups from recording + count_halves groups (from + rank) call
halves_more groups from [] rank call is_rank = absurd (omega arith)
halves_more groups from (calls ∷ lists) zero call is_rank =
    let here : from + 0 ≡ from = omega arith in
    let push = halves_in_push groups from calls call in
    rw here (omega (arith, push))
halves_more groups from (calls ∷ lists) (suc rank) call is_rank =
    let there : from + suc rank ≡ from + 1 + rank = omega arith in
    let rest = halves_more groups (from + 1) lists rank call (omega arith) in
    rw there (omega (arith, rest))

has : (o : Option NumberedEnvelope) → is_some o ≡ is_some (envelopes o)
has None = refl
has (Some it) = refl

worked_one : (b : Bool) (a : ℕ) → worked_if b (counted 0 a) ≡ counted 0 (a + (if b then 1 else 0))
worked_one true a = omega arith
worked_one false a = omega arith

pub work_on : (groups : Groups) (recording : Lists) (rank : ℕ) (call : Call) (halves : Halves) (old new : ℕ) → rank < length recording → envelopes halves.send ≡ envelope_of groups rank SendHalf call → envelopes halves.recv ≡ envelope_of groups rank RecvHalf call → old ≡ work_of groups recording → new ≡ worked halves old → new ≡ work_of groups (appended recording rank call)
work_on groups recording rank call halves old new is_rank sends recvs was is =
    let more = halves_more groups 0 recording rank call is_rank in
    let zero_on : 0 + rank ≡ rank = omega arith in
    let total : ℕ = halves_from groups 0 recording in
    let send : is_some halves.send ≡ is_some (envelope_of groups rank SendHalf call) = has halves.send ∙ ap (λ (o : Option Envelope). is_some o) sends in
    let recv : is_some halves.recv ≡ is_some (envelope_of groups rank RecvHalf call) = has halves.recv ∙ ap (λ (o : Option Envelope). is_some o) recvs in
    is
    ∙ ap (λ (m : ℕ). worked halves m) was
    ∙ ap (λ b. worked_if (is_some halves.recv) (worked_if b (counted 0 total))) send
    ∙ ap (λ b. worked_if b (worked_if (is_some (envelope_of groups rank SendHalf call)) (counted 0 total))) recv
    ∙ ap (λ (m : ℕ). worked_if (is_some (envelope_of groups rank RecvHalf call)) m) (worked_one (is_some (envelope_of groups rank SendHalf call)) total)
    ∙ worked_one (is_some (envelope_of groups rank RecvHalf call)) (total + (if is_some (envelope_of groups rank SendHalf call) then 1 else 0))
    ∙ ap (λ (m : ℕ). counted 0 m)
    (regroup total (if is_some (envelope_of groups rank SendHalf call) then 1 else 0) (if is_some (envelope_of groups rank RecvHalf call) then 1 else 0)
    ∙ sym (more ∙ ap (λ (r : ℕ). total + count_halves groups r call) zero_on))
  where
    regroup : (a b c : ℕ) → a + b + c ≡ a + (b + c)
    regroup a b c = omega arith

-- more room leaves all as it was
pub matched_grown : (groups : Groups) (recording : Lists) (old new : Matching) → IsGrown old new → IsMatched groups recording old → IsMatched groups recording new
matched_grown groups recording old new grown matched = record {
  pending = λ half e. grown.pending half e ∙ matched.pending half e;
  work = grown.work ∙ matched.work;
}

-- nothing is pending where there are no calls
pub matched_new : (groups : Groups) (ranks : ℕ) (matching : Matching) → matching.keys ≡ [] → matching.work ≡ 0 → IsMatched groups (replicate ranks []) matching
matched_new groups ranks matching keys work = record {
  pending = λ half e.
      ap (λ (ks : List Envelope). option_map_or (pending_at matching.lists half) (number_in ks e) []) keys
      ∙ sym (ap (λ (ps : List ℕ). drop (length (halves_of groups (replicate ranks []) (other_half half) e)) ps) (no_halves half e (rank_of_half groups half e))
      ∙ drop_all (length (halves_of groups (replicate ranks []) (other_half half) e)) [] (omega arith));
  work = work ∙ sym (ap (λ (m : ℕ). counted 0 m) (no_work 0 ranks) ∙ none_counted);
}
  where
    no_halves : (half : Half) (e : Envelope) (o : Option ℕ) → option_map_or (λ rank. places_of groups (replicate ranks []) rank half e) o [] ≡ []
    no_halves half e None = refl
    no_halves half e (Some rank) = ap (λ calls. places (has_envelope groups rank half e) calls) (no_calls ranks rank)

    no_work : (from n : ℕ) → halves_from groups from (replicate n []) ≡ 0
    no_work from zero = refl
    no_work from (suc n) = let rest = no_work (from + 1) n in omega (arith, rest)

    none_counted : counted 0 0 ≡ 0
    none_counted = omega arith
