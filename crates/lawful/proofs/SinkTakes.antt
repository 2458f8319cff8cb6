-- What comes of a call that awaits a message stays when its journal goes on, but in the places of sinks.
use Rattle.std.proofs.Common.{◌≡◌, ◌⊎◌, ℕ, ◌&&◌, ◌||◌, Bool, true, false, Option, Some, None, is_none, if◌then◌else◌, List, [], ◌∷◌, refl, sym, ap, subst, ◌∙◌, inl, inr}
use Rattle.std.specs.Prelude.{◌==◌}
use Rattle.std.specs.Option.{option_map_or}
use Rattle.std.proofs.lemmas.Bool.{false≢true, or_parts, ne_eqb}
use Rattle.std.proofs.lemmas.Option.{none-some, same_Some}
use Rattle.mpicall.specs.declared.call.Call.TheVariants.{Irecv}
use Rattle.mpicall.specs.declared.call.Peer.TheVariants as peer
use Rattle.journals.specs.Lines.{Line}
use Rattle.journals.specs.Known.{is_any}
use Rattle.journals.specs.declared.field.Field.{Field}
use Rattle.journals.specs.declared.field.Field.TheVariants.{Natural, Signed, Null, Any, Undefined}
use Rattle.closing.specs.Called.{Awaited}
use Rattle.closing.specs.Reported.{Message, known_field, message_from, message_of, with_wildcards}
use Rattle.closing.specs.Steps.{Id, Own, Sink, Written, Progress, Step, Starts, least_free, after_step}
use Rattle.closing.specs.Entry.{is_of_send, start_receive}
use Rattle.closing.specs.Sinks.{is_met, is_nobody, wanted_by, are_alike, overlap, sink_in, number_of}
use Rattle.closing.specs.declared.pending.Wanted.{Wanted}
use Rattle.lawful.specs.LongerSinks.{IsWithin, wanted_of, StaysThere, IsInPlace, IsSinkStill, IsReceived}
use Rattle.lawful.proofs.SinkStays.{Pairs, Alike, start_alike}

-- ---- What may be taken ----

narrows : (wanted one other : Option ℕ) → (other ≡ None) ⊎ (one ≡ other) → are_alike wanted other ≡ false → are_alike wanted one ≡ false
narrows wanted one other (inr same) h = ap (λ (o : Option ℕ). are_alike wanted o) same ∙ h
narrows None one other (inl none) h = absurd (false≢true (sym h))
narrows (Some number) one other (inl none) h = absurd (false≢true (sym h ∙ ap (λ (o : Option ℕ). are_alike (Some number) o) none))

apart_by : (a b c d e f : Bool) → d ≡ a → (b ≡ false → e ≡ false) → (c ≡ false → f ≡ false) → (a && (b && c)) ≡ false → (d && (e && f)) ≡ false
apart_by false b c d e f same second third h = rw same refl
apart_by true false c d e f same second third h = rw (second refl) (and_false d)
  where
    and_false : (x : Bool) → (x && false) ≡ false
    and_false true = refl
    and_false false = refl
apart_by true true false d e f same second third h = rw (third refl) (both d e)
  where
    both : (x y : Bool) → (x && (y && false)) ≡ false
    both true true = refl
    both true false = refl
    both false y = refl
apart_by true true true d e f same second third h = absurd (false≢true (sym h))

within_apart : (wanted one other : Wanted) → IsWithin one other → overlap wanted other ≡ false → overlap wanted one ≡ false
within_apart wanted one other within h =
    apart_by (wanted.comm == other.comm) (are_alike wanted.source other.source) (are_alike wanted.tag other.tag)
    (wanted.comm == one.comm) (are_alike wanted.source one.source) (are_alike wanted.tag one.tag)
    (ap (λ (n : ℕ). wanted.comm == n) within.comm) (narrows wanted.source one.source other.source within.source) (narrows wanted.tag one.tag other.tag within.tag) h

abbrev met_by : Wanted → Option Id → Bool
met_by wanted o = option_map_or (overlap wanted) (sink_in o) false

met_place : (wanted : Wanted) (one other : Written) → IsInPlace one other → met_by wanted one.starts ≡ false → met_by wanted other.starts ≡ false
met_place wanted one other it h = by_stays it.stays
  where
    apart : overlap wanted it.wanted ≡ false
    apart = ap (λ (o : Option Id). met_by wanted o) (sym it.starts) ∙ h

    by_stays : IsSinkStill it.own it.wanted it.number other ⊎ IsReceived it.own it.wanted it.number other → met_by wanted other.starts ≡ false
    by_stays (inl still) = ap (λ (o : Option Id). met_by wanted o) still.starts ∙ within_apart wanted still.less it.wanted still.within apart
    by_stays (inr received) = ap (λ (o : Option Id). met_by wanted o) received.starts

met_there : (wanted : Wanted) (one other : Written) → StaysThere one other → met_by wanted one.starts ≡ false → met_by wanted other.starts ≡ false
met_there wanted one other (inl same) h = ap (λ (w : Written). met_by wanted w.starts) same ∙ h
met_there wanted one other (inr (inl it)) h = met_place wanted one other it h
met_there wanted one other (inr (inr it)) h = ap (λ (o : Option Id). met_by wanted o) it.also_starts

-- what no sink so far takes none takes there
pub met_stays : (wanted : Wanted) (old new : List Written) → Pairs old new → is_met old wanted ≡ false → is_met new wanted ≡ false
met_stays wanted [] [] pairs none = refl
met_stays wanted (one ∷ old) (other ∷ new) pairs none =
    let parts = or_parts (met_by wanted one.starts) (is_met old wanted) none in
    rw (met_there wanted one other pairs.0 parts.0, met_stays wanted old new pairs.1 parts.1) refl
met_stays wanted [] (other ∷ new) pairs none = absurd pairs
met_stays wanted (one ∷ old) [] pairs none = absurd pairs

-- ---- Messages of a receive ----

field_within : (field reported : Field) → (number_of field ≡ None) ⊎ (number_of (known_field field reported) ≡ number_of field)
field_within Any reported = inl refl
field_within (Natural number) reported = inr refl
field_within (Signed number) reported = inr refl
field_within Null reported = inr refl
field_within Undefined reported = inr refl

way_within : (comm : ℕ) (b : Bool) (awaited : Awaited) (o : Option Message) (m : Message) → (if b then with_wildcards awaited o else Some (record { source = awaited.source; tag = awaited.tag })) ≡ Some m → IsWithin (wanted_of comm m) (wanted_by comm awaited None)
way_within comm true awaited None m h = absurd (none-some m h)
way_within comm true awaited (Some it) m h =
    subst (λ (one : Message). IsWithin (wanted_of comm one) (wanted_by comm awaited None)) (same_Some (record { source = known_field awaited.source it.source; tag = known_field awaited.tag it.tag }) m h)
    (record { comm = refl; source = field_within awaited.source it.source; tag = field_within awaited.tag it.tag })
way_within comm false awaited o m h =
    subst (λ (one : Message). IsWithin (wanted_of comm one) (wanted_by comm awaited None)) (same_Some (record { source = awaited.source; tag = awaited.tag }) m h)
    (record { comm = refl; source = inr refl; tag = inr refl })

from_within : (comm : ℕ) (source : Field) (awaited : Awaited) (o : Option Message) (m : Message) → is_nobody source ≡ false → message_from source awaited o ≡ Some m → IsWithin (wanted_of comm m) (wanted_by comm awaited None)
from_within comm Null awaited o m some h = absurd (false≢true (sym some))
from_within comm (Natural number) awaited o m some h = way_within comm (is_any awaited.source || is_any awaited.tag) awaited o m h
from_within comm (Signed number) awaited o m some h = way_within comm (is_any awaited.source || is_any awaited.tag) awaited o m h
from_within comm Any awaited o m some h = way_within comm (is_any awaited.source || is_any awaited.tag) awaited o m h
from_within comm Undefined awaited o m some h = way_within comm (is_any awaited.source || is_any awaited.tag) awaited o m h

-- what is reported of a receive is of what it awaits
pub message_within : (comm : ℕ) (awaited : Awaited) (o : Option Message) (m : Message) → is_nobody awaited.source ≡ false → message_of awaited o ≡ Some m → IsWithin (wanted_of comm m) (wanted_by comm awaited None)
message_within comm awaited o m some h = from_within comm awaited.source awaited o m some h

pub within_itself : (wanted : Wanted) → IsWithin wanted wanted
within_itself wanted = record { comm = refl; source = inr refl; tag = inr refl }

nobody_from : (source : Field) (awaited : Awaited) (o : Option Message) → is_nobody source ≡ true → is_none (message_from source awaited o) ≡ false
nobody_from Null awaited o h = refl
nobody_from (Natural number) awaited o h = absurd (false≢true h)
nobody_from (Signed number) awaited o h = absurd (false≢true h)
nobody_from Any awaited o h = absurd (false≢true h)
nobody_from Undefined awaited o h = absurd (false≢true h)

pub nobody_known : (awaited : Awaited) (o : Option Message) → is_nobody awaited.source ≡ true → is_none (message_of awaited o) ≡ false
nobody_known awaited o h = nobody_from awaited.source awaited o h

pub wanted_comm : (comm : ℕ) (awaited : Awaited) (o : Option Message) → (wanted_by comm awaited o).comm ≡ comm
wanted_comm comm awaited None = refl
wanted_comm comm awaited (Some m) = refl

-- ---- A sink, and what is there ----

abbrev pub sink_step : ℕ → Wanted → Bool → Step
sink_step own wanted is_known = Starts (Sink (Some own) wanted is_known) (λ request. Irecv request wanted.comm peer.Null 0)

apart_sent : (lines : List Line) (own request : ℕ) → is_of_send lines own ≡ false → is_of_send lines request ≡ true → (own == request) ≡ false
apart_sent lines own request none sent =
    ne_eqb own request (λ same. false≢true (sym none ∙ subst (λ (n : ℕ). is_of_send lines n ≡ true) (sym same) sent))

-- a sink that takes no more
pub still_alike : (lines : List Line) (old new : Progress) (line own : ℕ) (wanted less : Wanted) (is_known known : Bool) → Alike lines old new → is_of_send lines own ≡ false → IsWithin less wanted → Alike lines (after_step old line (sink_step own wanted is_known)) (after_step new line (sink_step own less known))
still_alike lines old new line own wanted less is_known known alike none within =
    start_alike lines old new line (Sink (Some own) wanted is_known) (Sink (Some own) less known) (λ request. Irecv request wanted.comm peer.Null 0) (λ request. Irecv request less.comm peer.Null 0) alike
    (inr (record { own = own; wanted = wanted; is_known = is_known; is = refl; also = inr (less, known, refl) })) (λ request sent. apart_sent lines own request none sent)
    (inr (inl (record {
      own = own;
      wanted = wanted;
      is_known = is_known;
      number = least_free old.active;
      starts = refl;
      call = refl;
      stays = inl (record { less = less; is_known = known; within = within; starts = refl; call = refl });
    })))

-- the receive of a message that it takes
pub received_alike : (lines : List Line) (old new : Progress) (line own comm : ℕ) (wanted : Wanted) (is_known : Bool) (m : Message) → Alike lines old new → is_of_send lines own ≡ false → wanted.comm ≡ comm → IsWithin (wanted_of comm m) wanted → Alike lines (after_step old line (sink_step own wanted is_known)) (after_step new line (Starts (Own own) (start_receive comm m)))
received_alike lines old new line own comm wanted is_known m alike none same within =
    start_alike lines old new line (Sink (Some own) wanted is_known) (Own own) (λ request. Irecv request wanted.comm peer.Null 0) (start_receive comm m) alike
    (inr (record { own = own; wanted = wanted; is_known = is_known; is = refl; also = inl refl })) (λ request sent. apart_sent lines own request none sent)
    (inr (inl (record {
      own = own;
      wanted = wanted;
      is_known = is_known;
      number = least_free old.active;
      starts = refl;
      call = refl;
      stays = inr (record {
        message = m;
        within = subst (λ (n : ℕ). IsWithin (wanted_of n m) wanted) (sym same) within;
        starts = refl;
        call = ap (λ (n : ℕ). start_receive n m (least_free old.active)) (sym same);
      });
    })))
