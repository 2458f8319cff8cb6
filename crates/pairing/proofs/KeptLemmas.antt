-- What the notes say is what the definitions say.
use Rattle.std.proofs.Common.{◌≡◌, ◌≢◌, ℕ, zero, suc, ◌+◌, ◌<◌, ◌≤◌, true, false, cond, eqb, ltb, Option, Some, None, List, [], ◌∷◌, ◌++◌, replicate, length, length-set, take, drop, map, refl, sym, ap, subst, ◌∙◌, ⊎_elim, arith}
use Rattle.std.specs.Prelude.{option_map, option_and_then}
use Rattle.std.specs.List.{slice_get, list_any, position, position_or_len}
use Rattle.std.proofs.lemmas.List.{take-map, drop-map, length-map, length-replicate}
use Rattle.std.proofs.lemmas.Option.{slice_get-map, none-some, same_Some}
use Rattle.std.proofs.lemmas.Bool.{cases_Bool, cases_eq, cases_lt, eqb-true, lt-ltb, le-ltb}
use Rattle.mpicall.specs.declared.call.Call.TheVariants.{Waitany}
use Rattle.mpicall.specs.declared.call.Call.{Call}
use Rattle.mpigroup.specs.Groups.{Groups, ranks_of, world_rank_of, group_rank_of}
use Rattle.callstore.specs.declared.envelope.Envelope.{Envelope}
use Rattle.callstore.specs.declared.envelope.Half.{Half}
use Rattle.callstore.specs.Notes.{Noted, notes_of, completed_among, completed_starts, start_of, calls_in}
use Rattle.callstore.specs.inner.Notes.{recording_of, kept_at}
use Rattle.callstore.specs.declared.envelope.Half.TheVariants.{Send as SendHalf, Recv as RecvHalf}
use Rattle.callstore.specs.declared.envelope.Message.{Message}
use Rattle.pairing.specs.declared.matches.Halves.{Halves}
use Rattle.callstore.specs.CachedMatch.{partner_in, wave_in}
use Rattle.pairing.specs.inner.Kept.{IsNoted, AreNoted, ArePartnered}
use Rattle.pairing.specs.Matched.{halves_of}
use Rattle.pairing.specs.inner.Matched.{filed_halves, worked, ArePaired}
use Rattle.pairing.proofs.FiledLemmas.{envelopes, filed_call, pending_to, partnered_to, paired_from, work_on}
use Rattle.callstore.proofs.OptionLemmas.{map_parts, and_then_parts}
use Rattle.pairing.proofs.PartnerLemmas.{partner_parts}
use Rattle.callstore.specs.Recordings.{Lists, calls_of, appended, has_end, is_ended}
use Rattle.callstore.specs.Places.{count_before}
use Rattle.callstore.specs.Envelopes.{message_of, envelope_by, envelope_of, other_half, rank_of_half}
use Rattle.pairing.specs.Partners.{partner_of}
use Rattle.pairing.specs.Seen.{partner_by}
use Rattle.callstore.specs.Requests.{waits_for, completes, started_in, started_of}
use Rattle.callstore.specs.Waves.{joins, does_join, wave_of}
use Rattle.pairing.specs.Pairs.{completed_of}
use Rattle.pairing.specs.Faults.{fault_of, IsLawfulList, IsLawful}
use Rattle.pairing.specs.inner.Tables.{AreOthers, AreTables, GoOnBy, IsKept}
use Rattle.pairing.specs.declared.tables.Tables.{Tables}
use Rattle.pairing.proofs.FaultLemmas.{lawful_push, lawful_end}
use Rattle.callstore.proofs.RecordingLemmas.{calls_of-appended, calls_of-appended_other}
use Rattle.pairing.proofs.NotedLemmas.{calls_of-recorded, recording_of-more, are_noted-more}

-- the call at a place is the one that is noted there
pub call_noted : (notes : List (List Noted)) (rank place : ℕ) → slice_get (calls_of (recording_of notes) rank) place ≡ option_map (λ n. n.call) (slice_get (notes_of notes rank) place)
call_noted notes rank place =
    ap (λ (calls : List Call). slice_get calls place) (calls_of-recorded notes rank)
    ∙ slice_get-map (λ (n : Noted). n.call) (notes_of notes rank) place

-- where nothing is noted there is no call
pub no_call : (notes : List (List Noted)) (rank place : ℕ) → slice_get (notes_of notes rank) place ≡ None → slice_get (calls_of (recording_of notes) rank) place ≡ None
no_call notes rank place h = call_noted notes rank place ∙ ap (option_map (λ (n : Noted). n.call)) h

pub its_call : (notes : List (List Noted)) (rank place : ℕ) (noted : Noted) → slice_get (notes_of notes rank) place ≡ Some noted → slice_get (calls_of (recording_of notes) rank) place ≡ Some noted.call
its_call notes rank place noted h = call_noted notes rank place ∙ ap (option_map (λ (n : Noted). n.call)) h

-- what is noted is right over the calls before
its_note : (notes : List (List Noted)) (rank place : ℕ) (noted : Noted) → AreNoted notes → slice_get (notes_of notes rank) place ≡ Some noted → IsNoted (take place (calls_of (recording_of notes) rank)) noted
its_note notes rank place noted are_noted h =
    subst (λ (calls : List Call). IsNoted (take place calls) noted) (sym (calls_of-recorded notes rank)) (are_noted rank place noted h)

-- what is kept with a call that is noted
pub kept_there : (notes : List (List Noted)) (rank place : ℕ) (half : Half) (noted : Noted) → slice_get (notes_of notes rank) place ≡ Some noted → kept_at notes half rank place ≡ partner_in half noted.cached
kept_there notes rank place half noted h = ap (λ (o : Option Noted). option_and_then (λ note. partner_in half note.cached) o) h

-- the other half's rank is that of the peer
peer_rank : (groups : Groups) (half : Half) (m : Message) (own : ℕ) → rank_of_half groups (other_half half) (envelope_by half m own) ≡ world_rank_of groups m.comm m.peer
peer_rank groups SendHalf m own = refl
peer_rank groups RecvHalf m own = refl

peer_of : (groups : Groups) (rank : ℕ) (half : Half) (call : Call) (m : Message) (e : Envelope) → envelope_of groups rank half call ≡ Some e → message_of half call ≡ Some m → rank_of_half groups (other_half half) e ≡ world_rank_of groups m.comm m.peer
peer_of groups rank half call m e at_envelope message =
    let at_rank = map_parts (envelope_by half m) (group_rank_of groups m.comm rank) e
    (sym (ap (λ (o : Option Message). option_and_then (λ m'. option_map (envelope_by half m') (group_rank_of groups m'.comm rank)) o) message) ∙ at_envelope) in
    ap (λ e'. rank_of_half groups (other_half half) e') (sym at_rank.2) ∙ peer_rank groups half m at_rank.0

pub no_partner_past : (groups : Groups) (notes : List (List Noted)) (rank place : ℕ) (half : Half) → slice_get (notes_of notes rank) place ≡ None → partner_of groups (recording_of notes) rank place half ≡ None
no_partner_past groups notes rank place half h = rw (no_call notes rank place h) refl

-- a half's partner is the one whose place is kept with the call
pub partner_noted : (groups : Groups) (notes : List (List Noted)) (rank place : ℕ) (half : Half) (noted : Noted) → ArePartnered groups notes → slice_get (notes_of notes rank) place ≡ Some noted → partner_by groups half noted ≡ partner_of groups (recording_of notes) rank place half
partner_noted groups notes rank place half noted partnered h = by_partner (partner_of groups (recording_of notes) rank place half) refl
  where
    kept : partner_in half noted.cached ≡ option_map (λ partner. partner.1) (partner_of groups (recording_of notes) rank place half)
    kept = sym (kept_there notes rank place half noted h) ∙ partnered half rank place

    by_partner : (o : Option (ℕ × ℕ)) → partner_of groups (recording_of notes) rank place half ≡ o → partner_by groups half noted ≡ o
    by_partner None e =
        let none : partner_in half noted.cached ≡ None = kept ∙ ap (option_map (λ (partner : ℕ × ℕ). partner.1)) e in
        rw none refl
    by_partner (Some (other, there)) e =
        let its_place : partner_in half noted.cached ≡ Some there = kept ∙ ap (option_map (λ (partner : ℕ × ℕ). partner.1)) e in
        let parts = partner_parts groups (recording_of notes) rank place half other there e in
        let same_call : parts.own.call ≡ noted.call = same_Some parts.own.call noted.call (sym parts.own.stands_there ∙ its_call notes rank place noted h) in
        let envelope : envelope_of groups rank half noted.call ≡ Some parts.e = ap (envelope_of groups rank half) (sym same_call) ∙ parts.own.envelope in
        let message = and_then_parts (λ m. option_map (envelope_by half m) (group_rank_of groups m.comm rank)) (message_of half noted.call) parts.e envelope in
        let peer : world_rank_of groups message.0.comm message.0.peer ≡ Some other = sym (peer_of groups rank half noted.call message.0 parts.e envelope message.1) ∙ parts.rank_there in
        rw (its_place, message.1, peer) refl

pub wave_noted : (notes : List (List Noted)) (rank place comm : ℕ) (noted : Noted) → AreNoted notes → slice_get (notes_of notes rank) place ≡ Some noted → joins noted.call ≡ Some comm → wave_of (recording_of notes) rank place ≡ Some (comm, wave_in noted.cached)
wave_noted notes rank place comm noted are_noted h at_comm =
    let number : wave_in noted.cached ≡ count_before (does_join comm) (calls_of (recording_of notes) rank) place = (its_note notes rank place noted are_noted h).wave comm at_comm in
    rw (its_call notes rank place noted h, at_comm) (ap (λ (wave : ℕ). Some (comm, wave)) (sym number))

-- and so is the wave that it joins
pub wave_there : (notes : List (List Noted)) (rank place : ℕ) (noted : Noted) → AreNoted notes → slice_get (notes_of notes rank) place ≡ Some noted → option_map (λ comm. (comm, wave_in noted.cached)) (joins noted.call) ≡ wave_of (recording_of notes) rank place
wave_there notes rank place noted are_noted h = by_comm (joins noted.call) refl
  where
    by_comm : (o : Option ℕ) → joins noted.call ≡ o → option_map (λ comm. (comm, wave_in noted.cached)) o ≡ wave_of (recording_of notes) rank place
    by_comm None e = rw (its_call notes rank place noted h, e) refl
    by_comm (Some comm) e = sym (wave_noted notes rank place comm noted are_noted h e)

-- what is picked of a list by the requests that a wait completes
abbrev picked_among : {A : Type 0} → Call → List A → List A
picked_among (Waitany chosen reqs) xs = take 1 (drop chosen xs)
picked_among _ xs = xs

-- a start is kept with the request of the same index
cached : (f : ℕ → Option ℕ) (starts reqs : List ℕ) (index : ℕ) → map (λ start. Some start) starts ≡ map f reqs → slice_get starts index ≡ option_and_then f (slice_get reqs index)
cached f [] [] index h = refl
cached f [] (req ∷ reqs) index h = cc
cached f (start ∷ starts) [] index h = cc
cached f (start ∷ starts) (req ∷ reqs) zero h = cc
cached f (start ∷ starts) (req ∷ reqs) (suc index) h = cached f starts reqs index cc

completes_among : (call : Call) → completes call ≡ completed_among call (waits_for call)
completes_among (Waitany chosen reqs) = refl
completes_among _ = refl

among_maps : {A : Type 0} (f : ℕ → A) (call : Call) (numbers : List ℕ) → map f (completed_among call numbers) ≡ picked_among call (map f numbers)
among_maps f (Waitany chosen reqs) numbers = sym (take-map f 1 (drop chosen numbers)) ∙ ap (take 1) (sym (drop-map f chosen numbers))
among_maps f _ numbers = refl

pub completed_noted : (notes : List (List Noted)) (rank place index : ℕ) (noted : Noted) → AreNoted notes → slice_get (notes_of notes rank) place ≡ Some noted → completed_of (recording_of notes) rank place index ≡ slice_get (completed_starts noted) index
completed_noted notes rank place index noted are_noted h =
    let before : List Call = take place (calls_of (recording_of notes) rank) in
    let started = (its_note notes rank place noted are_noted h).started in
    let same : map (λ start. Some start) (completed_starts noted) ≡ map (started_in before) (completes noted.call) =
    among_maps (λ start. Some start) noted.call noted.starts
    ∙ ap (picked_among noted.call) started
    ∙ sym (among_maps (started_in before) noted.call (waits_for noted.call))
    ∙ ap (map (started_in before)) (sym (completes_among noted.call)) in
    rw (its_call notes rank place noted h) (sym (cached (started_in before) (completed_starts noted) (completes noted.call) index same))

-- the start with the first of the requests that is the one
at_position : (f : ℕ → Option ℕ) (starts reqs : List ℕ) (req : ℕ) → map (λ start. Some start) starts ≡ map f reqs → option_and_then (slice_get starts) (position (λ other. eqb other req) reqs) ≡ cond (list_any (λ other. eqb other req) reqs) (f req) None
at_position f [] [] req h = refl
at_position f [] (r ∷ reqs) req h = cc
at_position f (start ∷ starts) [] req h = cc
at_position f (start ∷ starts) (r ∷ reqs) req h =
    ⊎_elim
    (λ (here : eqb r req ≡ true).
    let first : Some start ≡ f r = cc in
    rw (here, lt-ltb 0 (suc (length reqs)) (omega arith)) (first ∙ ap f (eqb-true r req here)))
    (λ (differs : eqb r req ≡ false).
    rw differs (later start (position_or_len (λ other. eqb other req) reqs) (1 + position_or_len (λ other. eqb other req) reqs) (omega arith) (at_position f starts reqs req cc)))
    (cases_Bool (eqb r req))
  where
    later : (start n m : ℕ) → m ≡ suc n → option_and_then (slice_get starts) (cond (ltb n (length reqs)) (Some n) None) ≡ cond (list_any (λ other. eqb other req) reqs) (f req) None → option_and_then (slice_get (start ∷ starts)) (cond (ltb m (suc (length reqs))) (Some m) None) ≡ cond (list_any (λ other. eqb other req) reqs) (f req) None
    later start n m is rest =
        ⊎_elim
        (λ (within : n < length reqs). rw (is, lt-ltb (suc n) (suc (length reqs)) (omega (arith, within))) (rw (lt-ltb n (length reqs) within) at rest))
        (λ (past : length reqs ≤ n). rw (is, le-ltb (suc n) (suc (length reqs)) (omega (arith, past))) (rw (le-ltb n (length reqs) past) at rest))
        (cases_lt n (length reqs))

pub started_noted : (notes : List (List Noted)) (rank place req : ℕ) (noted : Noted) → AreNoted notes → slice_get (notes_of notes rank) place ≡ Some noted → started_of (recording_of notes) rank place req ≡ start_of noted req
started_noted notes rank place req noted are_noted h =
    rw (its_call notes rank place noted h)
    (sym (at_position (started_in (take place (calls_of (recording_of notes) rank))) noted.starts (waits_for noted.call) req (its_note notes rank place noted are_noted h).started))

pub no_start_past : (notes : List (List Noted)) (rank place req : ℕ) → slice_get (notes_of notes rank) place ≡ None → started_of (recording_of notes) rank place req ≡ None
no_start_past notes rank place req h = rw (no_call notes rank place h) refl

-- as many calls as notes
pub count_noted : (notes : List (List Noted)) (rank : ℕ) → length (calls_of (recording_of notes) rank) ≡ length (notes_of notes rank)
count_noted notes rank = ap (λ (calls : List Call). length calls) (calls_of-recorded notes rank) ∙ length-map (notes_of notes rank) (λ (n : Noted). n.call)

pub ranks_noted : (notes : List (List Noted)) → length (recording_of notes) ≡ length notes
ranks_noted notes = length-map notes calls_in

-- one more call that has no fault leaves a recording lawful
pub lawful_on : (groups : Groups) (recording : Lists) (rank : ℕ) (call : Call) → rank < length recording → IsLawful groups recording → fault_of groups rank (calls_of recording rank) call ≡ None → IsLawful groups (appended recording rank call)
lawful_on groups recording rank call is_rank lawful fine other there =
    let within : other < length recording = omega (arith, there, length-set recording rank (calls_of recording rank ++ call ∷ [])) in
    ⊎_elim
    (λ (same : other ≡ rank).
    subst (λ (r : ℕ). IsLawfulList groups r (calls_of (appended recording rank call) r)) (sym same)
    (subst (λ (calls : List Call). IsLawfulList groups rank calls) (sym (calls_of-appended recording rank call is_rank))
    (lawful_push groups rank (calls_of recording rank) call (lawful rank is_rank) fine)))
    (λ (differs : other ≢ rank).
    subst (λ (calls : List Call). IsLawfulList groups other calls) (sym (calls_of-appended_other recording rank other call differs)) (lawful other within))
    (cases_eq other rank)

-- the recording goes on by the call that is noted
pub goes_on_as : (old new : List (List Noted)) (rank : ℕ) (call : Call) → GoOnBy old new rank call → recording_of new ≡ appended (recording_of old) rank call
goes_on_as old new rank call goes =
    ap (λ (notes : List (List Noted)). recording_of notes) goes.added
    ∙ recording_of-more old rank goes.noted
    ∙ ap (λ (c : Call). appended (recording_of old) rank c) goes.is_call

-- what goes on by a call without a fault, whose halves have met the others, is kept
pub kept_on : (groups : Groups) (old noted met : List (List Noted)) (before after : Tables) (rank place : ℕ) (call : Call) (halves : Halves) → rank < length old → place ≡ length (calls_of (recording_of old) rank) → IsKept groups old before → fault_of groups rank (calls_of (recording_of old) rank) call ≡ None → GoOnBy old noted rank call →
    envelopes halves.send ≡ envelope_of groups rank SendHalf call → envelopes halves.recv ≡ envelope_of groups rank RecvHalf call →
    recording_of met ≡ recording_of noted → ArePaired groups met (filed_halves halves place (halves_of groups (recording_of old))) after.matches →
    after.matches.work ≡ worked halves before.matches.work → AreOthers (appended (recording_of old) rank call) after → IsKept groups met after
kept_on groups old noted met before after rank place call halves is_rank next kept fine goes sends recvs same paired worked others =
    let is : recording_of met ≡ appended (recording_of old) rank call = same ∙ goes_on_as old noted rank call goes in
    let in_recording : rank < length (recording_of old) = omega (arith, is_rank, ranks_noted old) in
    let filed = filed_call groups (recording_of old) rank place call halves in_recording next sends recvs in
    record {
      ranks = sym (ranks_noted met) ∙ ap (λ (lists : Lists). length lists) is ∙ length-set (recording_of old) rank (calls_of (recording_of old) rank ++ call ∷ []) ∙ ranks_noted old ∙ kept.ranks;
      lawful = subst (λ (lists : Lists). IsLawful groups lists) (sym is)
          (lawful_on groups (recording_of old) rank call in_recording kept.lawful fine);
      noted = paired.noted;
      partnered = partnered_to groups met (filed_halves halves place (halves_of groups (recording_of old))) after.matches (appended (recording_of old) rank call) is filed paired;
      tables = subst (λ (lists : Lists). AreTables groups lists after) (sym is)
          (record {
            matched = record {
              pending = pending_to groups met (filed_halves halves place (halves_of groups (recording_of old))) after.matches (appended (recording_of old) rank call) is filed paired;
              work = work_on groups (recording_of old) rank call halves before.matches.work after.matches.work in_recording sends recvs kept.tables.matched.work worked;
            };
            others = others;
          });
    }

-- the halves before a call is noted are paired as it is
pub paired_as : (groups : Groups) (old noted : List (List Noted)) (before : Tables) (rank : ℕ) (call : Call) → rank < length old → IsKept groups old before → GoOnBy old noted rank call → ArePaired groups noted (halves_of groups (recording_of old)) before.matches
paired_as groups old noted before rank call is_rank kept goes =
    subst (λ (notes : List (List Noted)). ArePaired groups notes (halves_of groups (recording_of old)) before.matches) (sym goes.added)
    (paired_from groups old rank goes.noted before.matches is_rank (omega (arith, is_rank, ranks_noted old))
    (recording_of-more old rank goes.noted) goes.alone (are_noted-more old rank goes.noted is_rank kept.noted goes.is_noted) kept.partnered kept.tables.matched)

-- whether a list is over is decided by its last call, where it is lawful
pub is_over_by : (groups : Groups) (notes : List (List Noted)) (tables : Tables) (rank : ℕ) → rank < length notes → IsKept groups notes tables → is_ended (calls_of (recording_of notes) rank) ≡ has_end (calls_of (recording_of notes) rank)
is_over_by groups notes tables rank is_rank kept =
    lawful_end groups rank (calls_of (recording_of notes) rank) (kept.lawful rank (omega (arith, is_rank, ranks_noted notes)))

pub recording_of-none : (n : ℕ) → recording_of (replicate n []) ≡ replicate n []
recording_of-none zero = refl
recording_of-none (suc n) = ap (λ (lists : Lists). [] ∷ lists) (recording_of-none n)

-- without notes nothing is wrong
pub nothing_kept : (groups : Groups) (notes : List (List Noted)) (tables : Tables) → notes ≡ replicate (ranks_of groups) [] → ((ranks : ℕ) → AreTables groups (replicate ranks []) tables) → IsKept groups notes tables
nothing_kept groups notes tables is are_tables =
    rw is
    (record {
      ranks = length-replicate (ranks_of groups) [];
      lawful = λ rank there place call found. absurd (no_calls (ranks_of groups) rank place call found);
      noted = λ rank place noted found. absurd (no_notes (ranks_of groups) rank place noted found);
      partnered = λ half rank place. none_kept (ranks_of groups) half rank place;
      tables = subst (λ (lists : Lists). AreTables groups lists tables) (sym (recording_of-none (ranks_of groups))) (are_tables (ranks_of groups));
    })
  where
    none_noted : (n rank : ℕ) → notes_of (replicate n []) rank ≡ []
    none_noted zero rank = refl
    none_noted (suc n) zero = refl
    none_noted (suc n) (suc rank) = none_noted n rank

    no_notes : (n rank place : ℕ) (noted : Noted) → slice_get (notes_of (replicate n []) rank) place ≡ Some noted → ⊥
    no_notes n rank place noted found = none-some noted (subst (λ (list : List Noted). slice_get list place ≡ Some noted) (none_noted n rank) found)

    no_calls : (n rank place : ℕ) (call : Call) → slice_get (calls_of (recording_of (replicate n [])) rank) place ≡ Some call → ⊥
    no_calls n rank place call found =
        none-some call
        (subst (λ (calls : List Call). slice_get calls place ≡ Some call)
        (calls_of-recorded (replicate n []) rank ∙ ap (λ (list : List Noted). calls_in list) (none_noted n rank)) found)

    none_kept : (n : ℕ) (half : Half) (rank place : ℕ) → kept_at (replicate n []) half rank place ≡ option_map (λ partner. partner.1) (partner_of groups (recording_of (replicate n [])) rank place half)
    none_kept n half rank place =
        ap (λ (list : List Noted). option_and_then (λ note. partner_in half note.cached) (slice_get list place)) (none_noted n rank)
        ∙ sym (ap (λ (o : Option (ℕ × ℕ)). option_map (λ partner. partner.1) o)
        (no_partner_past groups (replicate n []) rank place half (ap (λ (list : List Noted). slice_get list place) (none_noted n rank))))

-- with more room all is kept
pub kept_still : (groups : Groups) (old new : List (List Noted)) (before after : Tables) → IsKept groups old before → new ≡ old → ((recording : Lists) → AreTables groups recording before → AreTables groups recording after) → IsKept groups new after
kept_still groups old new before after kept is tables =
    subst (λ (notes : List (List Noted)). IsKept groups notes after) (sym is)
    (record { ranks = kept.ranks; lawful = kept.lawful; noted = kept.noted; partnered = kept.partnered; tables = tables (recording_of old) kept.tables })
