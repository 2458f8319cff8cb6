-- Partners are mutual, and no partner is shared.
use Rattle.std.proofs.Common.{◌≡◌, ℕ, ◌<◌, ◌≤◌, true, false, ◌&&◌, eqb, Option, Some, None, length, refl, sym, ap, subst, ◌∙◌, arith}
use Rattle.std.specs.List.{slice_get}
use Rattle.std.specs.Option.{option_map, option_map_or, option_and_then}
use Rattle.std.proofs.lemmas.List.Quantifiers.{position-Some}
use Rattle.std.proofs.lemmas.List.{take-append-le}
use Rattle.std.proofs.lemmas.Option.{slice_get_within, none-some, same_Some, some_pair_parts, slice_get-get_or}
use Rattle.std.proofs.lemmas.Bool.{and_parts, eqb-true, eq-eqb}
use Rattle.mpicall.specs.declared.call.Call.{Call}
use Rattle.mpigroup.specs.Groups.{Groups, group_of, world_rank_of, group_rank_of}
use Rattle.callstore.specs.declared.envelope.Envelope.{Envelope}
use Rattle.callstore.specs.declared.envelope.Half.{Half}
use Rattle.callstore.specs.declared.envelope.Message.{Message}
use Rattle.callstore.specs.declared.envelope.Half.TheVariants.{Send as SendHalf, Recv as RecvHalf}
use Rattle.callstore.specs.Recordings.{Lists, calls_of, GoesOn}
use Rattle.callstore.specs.Envelopes.{other_half, message_of, envelope_by, same_envelope, envelope_of, rank_of_half, has_envelope}
use Rattle.pairing.specs.Partners.{envelope_at, places_of, number_of, numbered, partner_of, PartnersAreMutual, PartnersAreNotShared, PartnersStay, MessagesDoNotOvertake}
use Rattle.callstore.proofs.OptionLemmas.{and_then_parts, map_parts}
use Rattle.callstore.proofs.PlaceLemmas.{nth_place, place_nth, places-append, slice_get-front, places_rise, before_less}

map_pair : (rank other there : ℕ) (o : Option ℕ) → option_map {U = ℕ × ℕ} (λ place. (rank, place)) o ≡ Some (other, there) → (rank ≡ other) × (o ≡ Some there)
map_pair rank other there None h = absurd (none-some (other, there) h)
map_pair rank other there (Some place) h =
    let parts = some_pair_parts rank other place there h in
    (parts.0, ap (λ (m : ℕ). Some m) parts.1)

-- a rank of a group is in the group at its rank there
rank_of_member : (groups : Groups) (comm rank g : ℕ) → group_rank_of groups comm rank ≡ Some g → world_rank_of groups comm g ≡ Some rank
rank_of_member groups comm rank g h =
    let found = position-Some (λ member. eqb member rank) (group_of groups comm) g 0 h in
    slice_get-get_or (group_of groups comm) g 0 found.0 ∙ ap (λ (m : ℕ). Some m) (eqb-true _ _ found.1)

own_rank_by : (groups : Groups) (half : Half) (m : Message) (rank g : ℕ) → world_rank_of groups m.comm g ≡ Some rank → rank_of_half groups half (envelope_by half m g) ≡ Some rank
own_rank_by groups SendHalf m rank g h = h
own_rank_by groups RecvHalf m rank g h = h

-- the rank whose call has a half of an envelope is the rank of that half
pub own_rank : (groups : Groups) (rank : ℕ) (half : Half) (call : Call) (e : Envelope) → envelope_of groups rank half call ≡ Some e → rank_of_half groups half e ≡ Some rank
own_rank groups rank half call e h =
    let at_message = and_then_parts (λ m. option_map (envelope_by half m) (group_rank_of groups m.comm rank)) (message_of half call) e h in
    let at_rank = map_parts (envelope_by half at_message.0) (group_rank_of groups at_message.0.comm rank) e at_message.2 in
    rw (← at_rank.2)
    (own_rank_by groups half at_message.0 rank at_rank.0 (rank_of_member groups at_message.0.comm rank at_rank.0 at_rank.1))

pub same_envelope_true : (e f : Envelope) → same_envelope e f ≡ true → e ≡ f
same_envelope_true e f h =
    let first = and_parts (eqb e.comm f.comm) (eqb e.source f.source && (eqb e.dest f.dest && eqb e.tag f.tag)) h in
    let second = and_parts (eqb e.source f.source) (eqb e.dest f.dest && eqb e.tag f.tag) first.1 in
    let third = and_parts (eqb e.dest f.dest) (eqb e.tag f.tag) second.1 in
    made e.comm f.comm e.source f.source e.dest f.dest e.tag f.tag (eqb-true _ _ first.0) (eqb-true _ _ second.0) (eqb-true _ _ third.0) (eqb-true _ _ third.1)
  where
    made : (a a' b b' c c' d d' : ℕ) → a ≡ a' → b ≡ b' → c ≡ c' → d ≡ d' → ◌≡◌ {A = Envelope} (record { comm = a; source = b; dest = c; tag = d }) (record { comm = a'; source = b'; dest = c'; tag = d' })
    made a a' b b' c c' d d' p q r s = rw (p, q, r, s) refl

pub same_envelope_refl : (e : Envelope) → same_envelope e e ≡ true
same_envelope_refl e = rw (eq-eqb e.comm e.comm refl, eq-eqb e.source e.source refl, eq-eqb e.dest e.dest refl, eq-eqb e.tag e.tag refl) refl

-- the test for an envelope passes at the calls whose half has it
pub has_it : (e : Envelope) (o : Option Envelope) → option_map_or (same_envelope e) o false ≡ true → o ≡ Some e
has_it e None h = cc
has_it e (Some f) h = ap (λ (x : Envelope). Some x) (sym (same_envelope_true e f h))

it_has : (e : Envelope) (o : Option Envelope) → o ≡ Some e → option_map_or (same_envelope e) o false ≡ true
it_has e o h = rw h (same_envelope_refl e)

pub other_other : (half : Half) → other_half (other_half half) ≡ half
other_other SendHalf = refl
other_other RecvHalf = refl

-- what it means that a call has a half of an envelope
pub record HasHalf (groups : Groups) (recording : Lists) (rank place : ℕ) (half : Half) (e : Envelope) : Type 0 where
  pub call : Call
  pub stands_there : slice_get (calls_of recording rank) place ≡ Some call
  pub envelope : envelope_of groups rank half call ≡ Some e

-- what it means that a call has a partner
pub record HasPartner (groups : Groups) (recording : Lists) (rank place : ℕ) (half : Half) (other there : ℕ) : Type 0 where
  pub e : Envelope
  pub own : HasHalf groups recording rank place half e
  pub rank_there : rank_of_half groups (other_half half) e ≡ Some other
  pub place_there : slice_get (places_of groups recording other (other_half half) e) (number_of groups recording rank half e place) ≡ Some there

pub envelope_at_parts : (groups : Groups) (recording : Lists) (rank place : ℕ) (half : Half) (e : Envelope) → envelope_at groups recording rank place half ≡ Some e → HasHalf groups recording rank place half e
envelope_at_parts groups recording rank place half e h =
    let parts = and_then_parts (envelope_of groups rank half) (slice_get (calls_of recording rank) place) e h in
    record { call = parts.0; stands_there = parts.1; envelope = parts.2 }

pub numbered_parts : (groups : Groups) (recording : Lists) (half : Half) (e : Envelope) (number other there : ℕ) → numbered groups recording half e number ≡ Some (other, there) → (rank_of_half groups half e ≡ Some other) × (slice_get (places_of groups recording other half e) number ≡ Some there)
numbered_parts groups recording half e number other there h =
    let at_rank = and_then_parts (λ rank. option_map (λ place. (rank, place)) (slice_get (places_of groups recording rank half e) number)) (rank_of_half groups half e) (other, there) h in
    let at_place = map_pair at_rank.0 other there (slice_get (places_of groups recording at_rank.0 half e) number) at_rank.2 in (
      at_rank.1 ∙ ap (λ (m : ℕ). Some m) at_place.0,
      subst (λ (r : ℕ). slice_get (places_of groups recording r half e) number ≡ Some there) at_place.0 at_place.1,
    )

pub partner_parts : (groups : Groups) (recording : Lists) (rank place : ℕ) (half : Half) (other there : ℕ) → partner_of groups recording rank place half ≡ Some (other, there) → HasPartner groups recording rank place half other there
partner_parts groups recording rank place half other there h =
    let parts = and_then_parts (λ e. numbered groups recording (other_half half) e (number_of groups recording rank half e place)) (envelope_at groups recording rank place half) (other, there) h in
    let found = numbered_parts groups recording (other_half half) parts.0 (number_of groups recording rank half parts.0 place) other there parts.2 in
    record { e = parts.0; own = envelope_at_parts groups recording rank place half parts.0 parts.1; rank_there = found.0; place_there = found.1 }

-- and back
pub partner_from : (groups : Groups) (recording : Lists) (rank place : ℕ) (half : Half) (other there : ℕ) → HasPartner groups recording rank place half other there → partner_of groups recording rank place half ≡ Some (other, there)
partner_from groups recording rank place half other there h =
    rw (h.own.stands_there, h.own.envelope, h.rank_there, h.place_there) refl

-- the place of a half is the one with its number
pub own_place : (groups : Groups) (recording : Lists) (rank place : ℕ) (half : Half) (e : Envelope) → HasHalf groups recording rank place half e → slice_get (places_of groups recording rank half e) (number_of groups recording rank half e place) ≡ Some place
own_place groups recording rank place half e own =
    place_nth 0 (has_envelope groups rank half e) (calls_of recording rank) place own.call own.stands_there (it_has e (envelope_of groups rank half own.call) own.envelope)
    ∙ ap (λ (m : ℕ). Some m) (omega arith)

-- what is at a numbered place
pub numbered_half : (groups : Groups) (recording : Lists) (rank place : ℕ) (half : Half) (e : Envelope) (number : ℕ) → slice_get (places_of groups recording rank half e) number ≡ Some place → HasHalf groups recording rank place half e × (number_of groups recording rank half e place ≡ number)
numbered_half groups recording rank place half e number h =
    let nth = nth_place 0 (has_envelope groups rank half e) (calls_of recording rank) number place h in
    let same : nth.index ≡ place = omega (arith, nth.place) in (
      record {
        call = nth.element;
        stands_there = subst (λ (x : ℕ). slice_get (calls_of recording rank) x ≡ Some nth.element) same nth.stands_there;
        envelope = has_it e (envelope_of groups rank half nth.element) nth.passes;
      },
      subst (λ (x : ℕ). number_of groups recording rank half e x ≡ number) same nth.before,
    )

mutual_back : (groups : Groups) (recording : Lists) (rank place : ℕ) (half : Half) (other there : ℕ) → HasPartner groups recording rank place half other there → HasPartner groups recording other there (other_half half) rank place
mutual_back groups recording rank place half other there h =
    let back = numbered_half groups recording other there (other_half half) h.e (number_of groups recording rank half h.e place) h.place_there in
    record {
      e = h.e;
      own = back.0;
      rank_there = rw (other_other half) (own_rank groups rank half h.own.call h.e h.own.envelope);
      place_there = rw (back.1, other_other half) (own_place groups recording rank place half h.e h.own);
    }

pub partners_are_mutual : PartnersAreMutual
partners_are_mutual groups recording rank place half other there h =
    partner_from groups recording other there (other_half half) rank place
    (mutual_back groups recording rank place half other there (partner_parts groups recording rank place half other there h))

pub partners_are_not_shared : PartnersAreNotShared
partners_are_not_shared groups recording rank place rank' place' half partner h h' =
    let back = partners_are_mutual groups recording rank place half partner.0 partner.1 h in
    let back' = partners_are_mutual groups recording rank' place' half partner.0 partner.1 h' in
    some_pair_parts rank rank' place place' (sym back ∙ back')

pub half_stays : (groups : Groups) (recording longer : Lists) (rank place : ℕ) (half : Half) (e : Envelope) → GoesOn recording longer → HasHalf groups recording rank place half e → HasHalf groups longer rank place half e
half_stays groups recording longer rank place half e goes_on own =
    let within : place < length (calls_of recording rank) = slice_get_within (calls_of recording rank) place own.call own.stands_there in
    record {
      call = own.call;
      stands_there = rw (goes_on.goes_on rank) (slice_get-front (calls_of recording rank) (goes_on.more rank) place within ∙ own.stands_there);
      envelope = own.envelope;
    }

number_stays : (groups : Groups) (recording longer : Lists) (rank place : ℕ) (half : Half) (e : Envelope) → GoesOn recording longer → place ≤ length (calls_of recording rank) → number_of groups longer rank half e place ≡ number_of groups recording rank half e place
number_stays groups recording longer rank place half e goes_on within =
    rw (goes_on.goes_on rank, take-append-le place (calls_of recording rank) (goes_on.more rank) within) refl

place_stays : (groups : Groups) (recording longer : Lists) (rank : ℕ) (half : Half) (e : Envelope) (number there : ℕ) → GoesOn recording longer → slice_get (places_of groups recording rank half e) number ≡ Some there → slice_get (places_of groups longer rank half e) number ≡ Some there
place_stays groups recording longer rank half e number there goes_on h =
    rw (goes_on.goes_on rank) (places-append 0 (has_envelope groups rank half e) (calls_of recording rank) (goes_on.more rank) number there h)

pub partners_stay : PartnersStay
partners_stay groups recording longer rank place half other there goes_on h =
    let parts = partner_parts groups recording rank place half other there h in
    let within = slice_get_within (calls_of recording rank) place parts.own.call parts.own.stands_there in
    partner_from groups longer rank place half other there
    (record {
      e = parts.e;
      own = half_stays groups recording longer rank place half parts.e goes_on parts.own;
      rank_there = parts.rank_there;
      place_there =
          rw (number_stays groups recording longer rank place half parts.e goes_on (omega (arith, within)))
          (place_stays groups recording longer other (other_half half) parts.e (number_of groups recording rank half parts.e place) there goes_on parts.place_there);
    })

-- the partner of a half whose envelope is known
partner_at : (groups : Groups) (recording : Lists) (rank place : ℕ) (half : Half) (e : Envelope) (other there : ℕ) → envelope_at groups recording rank place half ≡ Some e → partner_of groups recording rank place half ≡ Some (other, there) → (rank_of_half groups (other_half half) e ≡ Some other) × (slice_get (places_of groups recording other (other_half half) e) (number_of groups recording rank half e place) ≡ Some there)
partner_at groups recording rank place half e other there he h =
    numbered_parts groups recording (other_half half) e (number_of groups recording rank half e place) other there
    (ap (λ (o : Option Envelope). option_and_then (λ f. numbered groups recording (other_half half) f (number_of groups recording rank half f place)) o) (sym he) ∙ h)

pub messages_do_not_overtake : MessagesDoNotOvertake
messages_do_not_overtake groups recording rank place place' half e other there other' there' less he he' h h' =
    let first = partner_at groups recording rank place half e other there he h in
    let second = partner_at groups recording rank place' half e other' there' he' h' in
    let own = envelope_at_parts groups recording rank place half e he in
    let same : other ≡ other' = same_Some other other' (sym first.0 ∙ second.0) in
    let there_too : slice_get (places_of groups recording other (other_half half) e) (number_of groups recording rank half e place') ≡ Some there' =
    subst (λ (r : ℕ). slice_get (places_of groups recording r (other_half half) e) (number_of groups recording rank half e place') ≡ Some there') (sym same) second.1 in (
      same,
      places_rise 0 (has_envelope groups other (other_half half) e) (calls_of recording other)
          (number_of groups recording rank half e place) (number_of groups recording rank half e place') there there'
          (before_less 0 (has_envelope groups rank half e) (calls_of recording rank) place place' own.call less own.stands_there (it_has e (envelope_of groups rank half own.call) own.envelope))
          first.1 there_too,
    )
