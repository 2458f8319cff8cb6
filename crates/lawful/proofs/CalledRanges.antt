-- The ranges of what a call line says.
use Rattle.std.proofs.Common.{◌≡◌, ℕ, ℤ, true, Option, Some, None, List, [], ◌∷◌, length, refl, arith}
use Rattle.std.specs.Prelude.{⊤}
use Rattle.std.specs.List.{list_all}
use Rattle.mpicall.specs.Argument.{key_in_range, is_in_range, bytes_arguments}
use Rattle.mpicall.specs.Limits.{may_tell}
use Rattle.mpicall.specs.declared.call.Mode.{Mode}
use Rattle.mpicall.specs.declared.call.Mode.TheVariants.{Standard, Synchronous, Buffered}
use Rattle.mpicall.specs.declared.word.Collective.{Collective}
use Rattle.mpicall.specs.declared.word.Collective.TheVariants as coll
use Rattle.journals.specs.inner.Knows.{IsRead}
use Rattle.journals.specs.declared.field.Field.{Field}
use Rattle.journals.specs.declared.field.Field.TheVariants.{Natural, Signed, Null, Any, Undefined}
use Rattle.journals.specs.declared.word.Word.TheVariants.{Call as CallLine}
use Rattle.journals.specs.declared.word.CallWord.{CallWord}
use Rattle.journals.specs.declared.word.CallWord.TheVariants as call
use Rattle.closing.specs.Called.{Called, Sent, Awaited, Sends, StartsSend, Receives, StartsReceive, Exchanges, StartsExchange, Probes, ProbesMatching, ReceivesMatched, StartsMatched, Cancels, FreesRequest, Collects, StartsCollective, Duplicates, StartsDuplicate, Splits, Makes, FreesComm, called, sent, awaited, bytes_in, sends, starts_send, awaits, starts_awaiting, exchanges, starts_exchange, one_number, two_numbers, rooted, starts_rooted, unrooted, starts_unrooted, splits}
use Rattle.lawful.proofs.FieldRanges.{FieldOk, FieldsOk}

-- ---- What calls say ----

pub record SentOk (mode : Mode) (it : Sent) : Type 0 where
  pub tag : FieldOk it.tag
  pub bytes : list_all is_in_range (bytes_arguments it.bytes) ≡ true
  pub may : may_tell mode it.bytes ≡ true

abbrev pub ColourOk : Option ℤ → Type 0
ColourOk None = ⊤
ColourOk (Some colour) = key_in_range colour ≡ true

abbrev pub CalledOk : Called → Type 0
CalledOk (Sends mode it) = SentOk mode it
CalledOk (StartsSend request mode it) = SentOk mode it
CalledOk (Receives it) = FieldOk it.tag
CalledOk (StartsReceive request it) = FieldOk it.tag
CalledOk (Exchanges it other) = SentOk Standard it × FieldOk other.tag
CalledOk (StartsExchange request received it other) = SentOk Standard it × FieldOk other.tag
CalledOk (Probes it) = FieldOk it.tag
CalledOk (ProbesMatching message it) = FieldOk it.tag
CalledOk (Splits comm colour key) = ColourOk colour × (key_in_range key ≡ true)
CalledOk it = ⊤

-- ---- Bytes ----

bytes_ok : (fields : List Field) → FieldsOk fields → list_all is_in_range (bytes_arguments (bytes_in fields)) ≡ true
bytes_ok (Natural bytes ∷ []) ok = rw ok.0 refl
bytes_ok [] ok = refl
bytes_ok (Natural bytes ∷ other ∷ fields) ok = refl
bytes_ok (Signed number ∷ fields) ok = refl
bytes_ok (Null ∷ fields) ok = refl
bytes_ok (Any ∷ fields) ok = refl
bytes_ok (Undefined ∷ fields) ok = refl

standard_ok : (comm : ℕ) (dest tag : Field) (bytes : List Field) → FieldOk tag → FieldsOk bytes → SentOk Standard (sent comm dest tag bytes)
standard_ok comm dest tag bytes tag_ok ok = record { tag = tag_ok; bytes = bytes_ok bytes ok; may = refl }

-- no bytes are told
none_told : (mode : Mode) → may_tell mode None ≡ true
none_told Standard = refl
none_told Synchronous = refl
none_told Buffered = refl

silent_ok : (mode : Mode) (comm : ℕ) (dest tag : Field) (bytes : List Field) → FieldOk tag → length bytes ≡ 0 → SentOk mode (sent comm dest tag bytes)
silent_ok mode comm dest tag [] tag_ok none = record { tag = tag_ok; bytes = refl; may = none_told mode }
silent_ok mode comm dest tag (byte ∷ bytes) tag_ok none = absurd (omega (arith, none))

-- ---- By the word ----

sends_standard : (fields : List Field) → FieldsOk fields → CalledOk (sends Standard fields)
sends_standard (Natural comm ∷ dest ∷ tag ∷ bytes) ok = standard_ok comm dest tag bytes ok.1.1.0 ok.1.1.1
sends_standard _ ok = tt

sends_silent : (mode : Mode) (fields : List Field) → FieldsOk fields → 3 ≡ length fields → CalledOk (sends mode fields)
sends_silent mode (Natural comm ∷ dest ∷ tag ∷ bytes) ok few = silent_ok mode comm dest tag bytes ok.1.1.0 (omega (arith, few))
sends_silent mode _ ok few = tt

starts_standard : (fields : List Field) → FieldsOk fields → CalledOk (starts_send Standard fields)
starts_standard (Natural request ∷ Natural comm ∷ dest ∷ tag ∷ bytes) ok = standard_ok comm dest tag bytes ok.1.1.1.0 ok.1.1.1.1
starts_standard _ ok = tt

starts_silent : (mode : Mode) (fields : List Field) → FieldsOk fields → 4 ≡ length fields → CalledOk (starts_send mode fields)
starts_silent mode (Natural request ∷ Natural comm ∷ dest ∷ tag ∷ bytes) ok few = silent_ok mode comm dest tag bytes ok.1.1.1.0 (omega (arith, few))
starts_silent mode _ ok few = tt

awaits_in : (made : Awaited → Called) (fields : List Field) → FieldsOk fields → ((it : Awaited) → FieldOk it.tag → CalledOk (made it)) → CalledOk (awaits made fields)
awaits_in made (Natural comm ∷ source ∷ tag ∷ []) ok is = is (awaited comm source tag) ok.1.1.0
awaits_in made _ ok is = tt

starts_awaiting_in : (made : ℕ → Awaited → Called) (fields : List Field) → FieldsOk fields → ((number : ℕ) (it : Awaited) → FieldOk it.tag → CalledOk (made number it)) → CalledOk (starts_awaiting made fields)
starts_awaiting_in made (Natural number ∷ Natural comm ∷ source ∷ tag ∷ []) ok is = is number (awaited comm source tag) ok.1.1.1.0
starts_awaiting_in made _ ok is = tt

exchanges_in : (fields : List Field) → FieldsOk fields → CalledOk (exchanges fields)
exchanges_in (Natural comm ∷ dest ∷ tag ∷ source ∷ other ∷ bytes) ok = (standard_ok comm dest tag bytes ok.1.1.0 ok.1.1.1.1.1, ok.1.1.1.1.0)
exchanges_in _ ok = tt

starts_exchange_in : (fields : List Field) → FieldsOk fields → CalledOk (starts_exchange fields)
starts_exchange_in (Natural request ∷ Natural received ∷ Natural comm ∷ dest ∷ tag ∷ source ∷ other ∷ bytes) ok =
    (standard_ok comm dest tag bytes ok.1.1.1.1.0 ok.1.1.1.1.1.1.1, ok.1.1.1.1.1.1.0)
starts_exchange_in _ ok = tt

one_in : (made : ℕ → Called) (fields : List Field) → ((number : ℕ) → CalledOk (made number)) → CalledOk (one_number made fields)
one_in made (Natural number ∷ []) is = is number
one_in made _ is = tt

two_in : (made : ℕ → ℕ → Called) (fields : List Field) → ((one two : ℕ) → CalledOk (made one two)) → CalledOk (two_numbers made fields)
two_in made (Natural one ∷ Natural two ∷ []) is = is one two
two_in made _ is = tt

rooted_in : (collective : Collective) (fields : List Field) → CalledOk (rooted collective fields)
rooted_in collective (Natural comm ∷ Signed root ∷ []) = tt
rooted_in collective _ = tt

starts_rooted_in : (collective : Collective) (fields : List Field) → CalledOk (starts_rooted collective fields)
starts_rooted_in collective (Natural request ∷ Natural comm ∷ Signed root ∷ []) = tt
starts_rooted_in collective _ = tt

unrooted_in : (collective : Collective) (fields : List Field) → CalledOk (unrooted collective fields)
unrooted_in collective fields = one_in (λ comm. Collects collective comm None) fields (λ number. tt)

starts_unrooted_in : (collective : Collective) (fields : List Field) → CalledOk (starts_unrooted collective fields)
starts_unrooted_in collective fields = two_in (λ request comm. StartsCollective request collective comm None) fields (λ one two. tt)

splits_in : (fields : List Field) → FieldsOk fields → CalledOk (splits fields)
splits_in (Natural comm ∷ Signed colour ∷ Signed key ∷ []) ok = (ok.1.0, ok.1.1.0)
splits_in (Natural comm ∷ Undefined ∷ Signed key ∷ []) ok = (tt, ok.1.1.0)
splits_in _ ok = tt

pub called_in : (ranks : ℕ) (word : CallWord) (fields : List Field) → IsRead ranks (record { word = CallLine word; fields = fields }) → FieldsOk fields → CalledOk (called word fields)
called_in ranks call.Send fields read ok = sends_standard fields ok
called_in ranks call.Rsend fields read ok = sends_standard fields ok
called_in ranks call.Ssend fields read ok = sends_silent Synchronous fields ok read.fits
called_in ranks call.Bsend fields read ok = sends_silent Buffered fields ok read.fits
called_in ranks call.Isend fields read ok = starts_standard fields ok
called_in ranks call.Irsend fields read ok = starts_standard fields ok
called_in ranks call.Issend fields read ok = starts_silent Synchronous fields ok read.fits
called_in ranks call.Ibsend fields read ok = starts_silent Buffered fields ok read.fits
called_in ranks call.Recv fields read ok = awaits_in Receives fields ok (λ it tag. tag)
called_in ranks call.Irecv fields read ok = starts_awaiting_in StartsReceive fields ok (λ number it tag. tag)
called_in ranks call.Sendrecv fields read ok = exchanges_in fields ok
called_in ranks call.Isendrecv fields read ok = starts_exchange_in fields ok
called_in ranks call.Probe fields read ok = awaits_in Probes fields ok (λ it tag. tag)
called_in ranks call.Iprobe fields read ok = awaits_in Probes fields ok (λ it tag. tag)
called_in ranks call.Mprobe fields read ok = starts_awaiting_in ProbesMatching fields ok (λ number it tag. tag)
called_in ranks call.Improbe fields read ok = starts_awaiting_in ProbesMatching fields ok (λ number it tag. tag)
called_in ranks call.Mrecv fields read ok = one_in ReceivesMatched fields (λ number. tt)
called_in ranks call.Imrecv fields read ok = two_in StartsMatched fields (λ one two. tt)
called_in ranks call.Cancel fields read ok = one_in Cancels fields (λ number. tt)
called_in ranks call.RequestFree fields read ok = one_in FreesRequest fields (λ number. tt)
called_in ranks call.Barrier fields read ok = unrooted_in coll.Barrier fields
called_in ranks call.Bcast fields read ok = rooted_in coll.Bcast fields
called_in ranks call.Gather fields read ok = rooted_in coll.Gather fields
called_in ranks call.Scatter fields read ok = rooted_in coll.Scatter fields
called_in ranks call.Reduce fields read ok = rooted_in coll.Reduce fields
called_in ranks call.Allgather fields read ok = unrooted_in coll.Allgather fields
called_in ranks call.Alltoall fields read ok = unrooted_in coll.Alltoall fields
called_in ranks call.Allreduce fields read ok = unrooted_in coll.Allreduce fields
called_in ranks call.Scan fields read ok = unrooted_in coll.Scan fields
called_in ranks call.Exscan fields read ok = unrooted_in coll.Exscan fields
called_in ranks call.Ibarrier fields read ok = starts_unrooted_in coll.Barrier fields
called_in ranks call.Ibcast fields read ok = starts_rooted_in coll.Bcast fields
called_in ranks call.Igather fields read ok = starts_rooted_in coll.Gather fields
called_in ranks call.Iscatter fields read ok = starts_rooted_in coll.Scatter fields
called_in ranks call.Ireduce fields read ok = starts_rooted_in coll.Reduce fields
called_in ranks call.Iallgather fields read ok = starts_unrooted_in coll.Allgather fields
called_in ranks call.Ialltoall fields read ok = starts_unrooted_in coll.Alltoall fields
called_in ranks call.Iallreduce fields read ok = starts_unrooted_in coll.Allreduce fields
called_in ranks call.Iscan fields read ok = starts_unrooted_in coll.Scan fields
called_in ranks call.Iexscan fields read ok = starts_unrooted_in coll.Exscan fields
called_in ranks call.CommDup fields read ok = one_in Duplicates fields (λ number. tt)
called_in ranks call.CommIdup fields read ok = two_in StartsDuplicate fields (λ one two. tt)
called_in ranks call.CommSplit fields read ok = splits_in fields ok
called_in ranks call.CommMake fields read ok = one_in Makes fields (λ number. tt)
called_in ranks call.CommFree fields read ok = one_in FreesComm fields (λ number. tt)
called_in ranks _ fields read ok = tt
