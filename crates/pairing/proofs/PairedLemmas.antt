-- Halves of noted calls that meet: what is kept and what is pending stays right.
use Rattle.std.proofs.Common.{◌≡◌, ◌≢◌, ℕ, ◌+◌, ◌*◌, ◌<◌, ◌≤◌, true, false, Option, Some, None, List, [], ◌∷◌, ◌++◌, length, drop, refl, sym, ap, subst, ◌∙◌, ⊎_elim, arith}
use Rattle.std.specs.Prelude.{is_some, IfSome}
use Rattle.std.specs.List.{slice_get}
use Rattle.std.specs.Option.{option_map, option_map_or}
use Rattle.std.proofs.lemmas.Bool.{cases_eq}
use Rattle.std.proofs.lemmas.Option.{none-some, same_Some, slice_get-map}
use Rattle.mpicall.specs.declared.call.Call.TheVariants.{Coll, Icoll, Dup, Split}
use Rattle.mpicall.specs.declared.call.Call.{Call}
use Rattle.mpigroup.specs.Groups.{Groups, group_rank_of}
use Rattle.callstore.specs.declared.envelope.Envelope.{Envelope}
use Rattle.callstore.specs.declared.envelope.Half.{Half}
use Rattle.callstore.specs.declared.envelope.Half.TheVariants.{Send as SendHalf, Recv as RecvHalf}
use Rattle.callstore.specs.declared.envelope.Message.{Message}
use Rattle.callstore.specs.Envelopes.{other_half, message_of, envelope_by, envelope_of, rank_of_half}
use Rattle.pairing.specs.inner.Kept.{AreNoted}
use Rattle.pairing.specs.inner.Matched.{Matching, Filing, filed_on, number_in, list_no, pending_at, pending_by, met_if, met, ArePaired, IsNext}
use Rattle.callstore.specs.Notes.{Noted, notes_of, partnered}
use Rattle.callstore.specs.inner.Notes.{recording_of, kept_at}
use Rattle.pairing.specs.Partners.{envelope_at}
use Rattle.callstore.specs.Recordings.{Lists}
use Rattle.callstore.specs.Waves.{joins}
use Rattle.pairing.proofs.MatchedLemmas.{written_own, written_rest, list_no_most}
use Rattle.pairing.proofs.MeetingLemmas.{half_cases, halves_differ, IsPlace, drop_first, once_more, placed_more, ranked_more, met_kept, met_filed, met_pending, waits_kept, waits_filed, waits_pending}
use Rattle.pairing.proofs.NotedLemmas.{calls_of-recorded}
use Rattle.callstore.proofs.OptionLemmas.{and_then_parts, map_parts}
use Rattle.pairing.proofs.PartnerLemmas.{own_rank, other_other, envelope_at_parts}
use Rattle.pairing.proofs.PartneredLemmas.{kept_own, kept_other_half, kept_elsewhere, noted_partnered, recording_partnered}

-- a call that has a message is no collective
no_join_send : (call : Call) (m : Message) → message_of SendHalf call ≡ Some m → joins call ≡ None
no_join_send (Coll comm kind) m h = absurd (none-some m h)
no_join_send (Icoll req comm kind) m h = absurd (none-some m h)
no_join_send (Dup comm new) m h = absurd (none-some m h)
no_join_send (Split comm colour key new) m h = absurd (none-some m h)
no_join_send _ m h = refl

no_join_recv : (call : Call) (m : Message) → message_of RecvHalf call ≡ Some m → joins call ≡ None
no_join_recv (Coll comm kind) m h = absurd (none-some m h)
no_join_recv (Icoll req comm kind) m h = absurd (none-some m h)
no_join_recv (Dup comm new) m h = absurd (none-some m h)
no_join_recv (Split comm colour key new) m h = absurd (none-some m h)
no_join_recv _ m h = refl

no_join : (half : Half) (call : Call) (m : Message) → message_of half call ≡ Some m → joins call ≡ None
no_join SendHalf call m h = no_join_send call m h
no_join RecvHalf call m h = no_join_recv call m h

-- the note of a call that has a half
pub record HasNote (groups : Groups) (notes : List (List Noted)) (rank place : ℕ) (half : Half) (e : Envelope) : Type 0 where
  pub note : Noted
  pub noted_there : slice_get (notes_of notes rank) place ≡ Some note
  pub envelope : envelope_of groups rank half note.call ≡ Some e

pub note_of_half : (groups : Groups) (notes : List (List Noted)) (rank place : ℕ) (half : Half) (e : Envelope) → envelope_at groups (recording_of notes) rank place half ≡ Some e → HasNote groups notes rank place half e
note_of_half groups notes rank place half e h =
    let has = envelope_at_parts groups (recording_of notes) rank place half e h in
    let at_note = map_parts (λ (n : Noted). n.call) (slice_get (notes_of notes rank) place) has.call
    (sym (ap (λ (calls : List Call). slice_get calls place) (calls_of-recorded notes rank) ∙ slice_get-map (λ (n : Noted). n.call) (notes_of notes rank) place) ∙ has.stands_there) in
    record {
      note = at_note.0;
      noted_there = at_note.1;
      envelope = ap (λ (call : Call). envelope_of groups rank half call) at_note.2 ∙ has.envelope;
    }

joins_none : (groups : Groups) (rank : ℕ) (half : Half) (call : Call) (e : Envelope) → envelope_of groups rank half call ≡ Some e → joins call ≡ None
joins_none groups rank half call e h =
    let at_message = and_then_parts (λ m. option_map (envelope_by half m) (group_rank_of groups m.comm rank)) (message_of half call) e h in
    no_join half call at_message.0 at_message.1

no_wave_at : (groups : Groups) (notes : List (List Noted)) (rank place : ℕ) (half : Half) (e : Envelope) → envelope_at groups (recording_of notes) rank place half ≡ Some e → (note : Noted) → slice_get (notes_of notes rank) place ≡ Some note → joins note.call ≡ None
no_wave_at groups notes rank place half e h note is =
    let has = note_of_half groups notes rank place half e h in
    let same : has.note ≡ note = same_Some has.note note (sym has.noted_there ∙ is) in
    ap (λ (n : Noted). joins n.call) (sym same) ∙ joins_none groups rank half has.note.call e has.envelope

-- what is kept elsewhere stays
kept_rest : (notes : List (List Noted)) (rank place : ℕ) (half : Half) (there : ℕ) (h : Half) (r p : ℕ) → (IsPlace half rank place h r p → ⊥) → kept_at (partnered notes rank place half there) h r p ≡ kept_at notes h r p
kept_rest notes rank place half there h r p differs =
    ⊎_elim
    (λ (is_r : r ≡ rank).
    ⊎_elim
    (λ (is_p : p ≡ place).
    ⊎_elim
    (λ (is_h : h ≡ half). absurd (differs (is_h, is_r, is_p)))
    (λ (is_h : h ≡ other_half half).
    subst (λ (x : ℕ). kept_at (partnered notes rank place half there) h x p ≡ kept_at notes h x p) (sym is_r)
    (subst (λ (x : ℕ). kept_at (partnered notes rank place half there) h rank x ≡ kept_at notes h rank x) (sym is_p)
    (subst (λ (x : Half). kept_at (partnered notes rank place half there) x rank place ≡ kept_at notes x rank place) (sym is_h)
    (kept_other_half notes rank place half there))))
    (half_cases half h))
    (λ (isnt_p : p ≢ place). kept_elsewhere notes rank place half there h r p (λ is. isnt_p is.1))
    (cases_eq p place))
    (λ (isnt_r : r ≢ rank). kept_elsewhere notes rank place half there h r p (λ is. isnt_r is.0))
    (cases_eq r rank)

module _ (groups : Groups) (notes : List (List Noted)) (filing : Filing) (old new : Matching) (half : Half) (e : Envelope) (rank place number : ℕ)
    (paired : ArePaired groups notes filing old) (next : IsNext groups (recording_of notes) filing rank place half e)
    (numbered : number_in old.keys e ≡ Some number) (wide : 2 * number + 2 ≤ length old.lists)
    (same_keys : new.keys ≡ old.keys) (lists : new.lists ≡ met old.lists half number place) where
  own : rank_of_half groups half e ≡ Some rank
  own =
      let has = envelope_at_parts groups (recording_of notes) rank place half e next.here in
      own_rank groups rank half has.call e has.envelope

  within : (h : Half) → list_no h number < length old.lists
  within h = omega (arith, wide, list_no_most h number)

  pending_old : (h : Half) → pending_at old.lists h number ≡ pending_by old h e
  pending_old h = sym (ap (λ (o : Option ℕ). option_map_or (pending_at old.lists h) o []) numbered)

  front : slice_get (pending_at old.lists (other_half half) number) 0 ≡ slice_get (filing (other_half half) e) (length (filing half e))
  front =
      ap (λ (ps : List ℕ). slice_get ps 0) (pending_old (other_half half) ∙ paired.pending (other_half half) e)
      ∙ drop_first (length (filing (other_half (other_half half)) e)) (filing (other_half half) e)
      ∙ ap (λ (x : Half). slice_get (filing (other_half half) e) (length (filing x e))) (other_other half)

  pending_new : (h : Half) (f : Envelope) (ls : List (List ℕ)) → new.lists ≡ ls → pending_by new h f ≡ option_map_or (pending_at ls h) (number_in old.keys f) []
  pending_new h f ls is =
      ap (λ (keys : List Envelope). option_map_or (pending_at new.lists h) (number_in keys f) []) same_keys
      ∙ ap (λ (x : List (List ℕ)). option_map_or (pending_at x h) (number_in old.keys f) []) is

  -- the half is pending itself
  pub waits_paired : slice_get (pending_at old.lists (other_half half) number) 0 ≡ None → ArePaired groups notes (filed_on half (Some e) place filing) new
  waits_paired none =
      let no_front : slice_get (filing (other_half half) e) (length (filing half e)) ≡ None = sym front ∙ none in
      let is : new.lists ≡ met_if false old.lists half number place = lists ∙ ap (λ (o : Option ℕ). met_if (is_some o) old.lists half number place) none in
      let own_list : pending_by new half e ≡ pending_by old half e ++ place ∷ [] =
      pending_new half e (met_if false old.lists half number place) is
      ∙ written_own old.keys old.lists half e number (pending_at old.lists half number ++ place ∷ []) numbered (within half)
      ∙ ap (λ (ps : List ℕ). ps ++ place ∷ []) (pending_old half) in
      let rest : (h : Half) (f : Envelope) → ((h ≡ half) × (f ≡ e) → ⊥) → pending_by new h f ≡ pending_by old h f =
      λ h f differs. pending_new h f (met_if false old.lists half number place) is ∙ written_rest old.keys old.lists half e number (pending_at old.lists half number ++ place ∷ []) numbered h f differs in
      record {
        noted = paired.noted;
        pending = waits_pending groups filing half e rank place own next.last (kept_at notes) (kept_at notes) (pending_by old) (pending_by new) paired.pending paired.kept paired.filed no_front own_list rest;
        kept = waits_kept groups filing half e rank place own next.last (kept_at notes) (kept_at notes) (pending_by old) (pending_by new) paired.pending paired.kept paired.filed no_front own_list rest;
        filed = waits_filed groups filing half e rank place own next.last (kept_at notes) (kept_at notes) (pending_by old) (pending_by new) paired.pending paired.kept paired.filed no_front own_list rest;
        placed = placed_more groups filing half e rank place own next.last (λ h r p. envelope_at groups (recording_of notes) r p h) next.here paired.placed;
        once = once_more groups filing half e rank place own next.last paired.once;
        ranked = ranked_more groups filing half e rank place own next.last paired.ranked;
      }

  -- the half meets the one at `there`
  module _ (other there : ℕ) (their_rank : rank_of_half groups (other_half half) e ≡ Some other) (is_there : slice_get (pending_at old.lists (other_half half) number) 0 ≡ Some there) where
    met_once : List (List Noted)
    met_once = partnered notes rank place half there

    abbrev met_twice : List (List Noted)
    met_twice = partnered (partnered notes rank place half there) other there (other_half half) place

    is_front : slice_get (filing (other_half half) e) (length (filing half e)) ≡ Some there
    is_front = sym front ∙ is_there

    their_place : envelope_at groups (recording_of notes) other there (other_half half) ≡ Some e
    their_place = paired.placed (other_half half) e (length (filing half e)) other there their_rank is_front

    same_once : recording_of (partnered notes rank place half there) ≡ recording_of notes
    same_once = recording_partnered notes rank place half there

    pub same_calls : recording_of met_twice ≡ recording_of notes
    same_calls = recording_partnered (partnered notes rank place half there) other there (other_half half) place ∙ same_once

    their_place_once : envelope_at groups (recording_of (partnered notes rank place half there)) other there (other_half half) ≡ Some e
    their_place_once = ap (λ (recording : Lists). envelope_at groups recording other there (other_half half)) same_once ∙ their_place

    own_kept : kept_at met_twice half rank place ≡ Some there
    own_kept =
        kept_rest (partnered notes rank place half there) other there (other_half half) place half rank place (λ is. halves_differ half is.0)
        ∙ (let has = note_of_half groups notes rank place half e next.here in kept_own notes rank place half there has.note has.noted_there)

    their_kept : kept_at met_twice (other_half half) other there ≡ Some place
    their_kept =
        let has = note_of_half groups (partnered notes rank place half there) other there (other_half half) e their_place_once in
        kept_own (partnered notes rank place half there) other there (other_half half) place has.note has.noted_there

    rest_kept : (h : Half) (r p : ℕ) → (IsPlace half rank place h r p → ⊥) → (IsPlace (other_half half) other there h r p → ⊥) → kept_at met_twice h r p ≡ kept_at notes h r p
    rest_kept h r p not_own not_their =
        kept_rest (partnered notes rank place half there) other there (other_half half) place h r p not_their
        ∙ kept_rest notes rank place half there h r p not_own

    still_noted : AreNoted met_twice
    still_noted =
        noted_partnered (partnered notes rank place half there) other there (other_half half) place
        (no_wave_at groups (partnered notes rank place half there) other there (other_half half) e their_place_once)
        (noted_partnered notes rank place half there (no_wave_at groups notes rank place half e next.here) paired.noted)

    alone : (h : Half) (f g : Envelope) (n m r p : ℕ) → rank_of_half groups h f ≡ Some r → rank_of_half groups h g ≡ Some r → slice_get (filing h f) n ≡ Some p → slice_get (filing h g) m ≡ Some p → g ≡ f
    alone h f g n m r p theirs theirs' found found' =
        same_Some g f (sym (paired.placed h g m r p theirs' found') ∙ paired.placed h f n r p theirs found)

    pub met_paired : ArePaired groups met_twice (filed_on half (Some e) place filing) new
    met_paired =
        let is : new.lists ≡ met_if true old.lists half number place = lists ∙ ap (λ (o : Option ℕ). met_if (is_some o) old.lists half number place) is_there in
        let other_list : pending_by new (other_half half) e ≡ drop 1 (pending_by old (other_half half) e) =
        pending_new (other_half half) e (met_if true old.lists half number place) is
        ∙ written_own old.keys old.lists (other_half half) e number (drop 1 (pending_at old.lists (other_half half) number)) numbered (within (other_half half))
        ∙ ap (drop 1) (pending_old (other_half half)) in
        let rest : (h : Half) (f : Envelope) → ((h ≡ other_half half) × (f ≡ e) → ⊥) → pending_by new h f ≡ pending_by old h f =
        λ h f differs. pending_new h f (met_if true old.lists half number place) is ∙ written_rest old.keys old.lists (other_half half) e number (drop 1 (pending_at old.lists (other_half half) number)) numbered h f differs in
        record {
          noted = still_noted;
          pending = met_pending groups filing half e rank place own next.last (kept_at notes) (kept_at met_twice) (pending_by old) (pending_by new) paired.pending paired.kept paired.filed other there their_rank is_front paired.once alone own_kept their_kept rest_kept other_list rest;
          kept = met_kept groups filing half e rank place own next.last (kept_at notes) (kept_at met_twice) (pending_by old) (pending_by new) paired.pending paired.kept paired.filed other there their_rank is_front paired.once alone own_kept their_kept rest_kept other_list rest;
          filed = met_filed groups filing half e rank place own next.last (kept_at notes) (kept_at met_twice) (pending_by old) (pending_by new) paired.pending paired.kept paired.filed other there their_rank is_front paired.once alone own_kept their_kept rest_kept other_list rest;
          placed = placed_more groups filing half e rank place own next.last (λ h r p. envelope_at groups (recording_of met_twice) r p h)
              (ap (λ (recording : Lists). envelope_at groups recording rank place half) same_calls ∙ next.here)
              (λ h f n r p theirs found. ap (λ (recording : Lists). envelope_at groups recording r p h) same_calls ∙ paired.placed h f n r p theirs found);
          once = once_more groups filing half e rank place own next.last paired.once;
          ranked = ranked_more groups filing half e rank place own next.last paired.ranked;
        }

  -- where no rank has the other half, nothing of it is pending
  pub no_rank : rank_of_half groups (other_half half) e ≡ None → (there : ℕ) → slice_get (pending_at old.lists (other_half half) number) 0 ≡ Some there → ⊥
  no_rank none there is_there =
      none-some there (sym (ap (λ (ps : List ℕ). slice_get ps (length (filing half e))) (paired.ranked (other_half half) e none)) ∙ sym front ∙ is_there)

  pub met_by : (o : Option ℕ) → rank_of_half groups (other_half half) e ≡ o → (there : ℕ) → slice_get (pending_at old.lists (other_half half) number) 0 ≡ Some there → (after : List (List Noted)) → IfSome o (λ other. after ≡ partnered (partnered notes rank place half there) other there (other_half half) place) → ArePaired groups after (filed_on half (Some e) place filing) new
  met_by None their_rank there is_there after is = absurd (no_rank their_rank there is_there)
  met_by (Some other) their_rank there is_there after is =
      subst (λ (ns : List (List Noted)). ArePaired groups ns (filed_on half (Some e) place filing) new) (sym is) (met_paired other there their_rank is_there)
