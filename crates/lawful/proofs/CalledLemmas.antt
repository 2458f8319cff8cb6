-- What call lines say of groups: a call that makes a communicator of a group has the group of its line.
use Rattle.std.proofs.Common.{◌≡◌, ℕ, ◌-◌, ◌≤◌, max, None, List, [], ◌∷◌, length, refl, subst, arith}
use Rattle.std.specs.Prelude.{⊤}
use Rattle.mpicall.specs.declared.call.Mode.{Mode}
use Rattle.mpicall.specs.declared.call.Mode.TheVariants.{Standard, Synchronous, Buffered}
use Rattle.mpicall.specs.declared.word.Collective.{Collective}
use Rattle.mpicall.specs.declared.word.Collective.TheVariants as coll
use Rattle.journals.specs.Entries.{group_in, is_member}
use Rattle.journals.specs.declared.field.Field.{Field}
use Rattle.journals.specs.declared.field.Field.TheVariants.{Natural, Signed, Undefined}
use Rattle.journals.specs.declared.form.Form.TheVariants.{Member}
use Rattle.journals.specs.declared.word.Word.TheVariants.{Call as CallLine}
use Rattle.journals.specs.declared.word.CallWord.{CallWord}
use Rattle.journals.specs.declared.word.CallWord.TheVariants as call
use Rattle.journals.proofs.LineForms.{same_numbers}
use Rattle.closing.specs.Called.{Called, Awaited, Receives, StartsReceive, Probes, ProbesMatching, ReceivesMatched, StartsMatched, Cancels, FreesRequest, Collects, StartsCollective, Duplicates, StartsDuplicate, Makes, MakesOfGroup, FreesComm, called, awaited, naturals_in, sends, starts_send, awaits, starts_awaiting, exchanges, starts_exchange, one_number, two_numbers, rooted, starts_rooted, unrooted, starts_unrooted, splits}

-- the group of which the call makes a communicator passes a test
abbrev pub GroupIs : (List ℕ → Type 0) → Called → Type 0
GroupIs P (MakesOfGroup group) = P group
GroupIs P it = ⊤

abbrev pub MakesGroup : (List ℕ → Type 0) → CallWord → List ℕ → Type 0
MakesGroup P call.CommCreateGroup group = P group
MakesGroup P word group = ⊤

sends_ok : (P : List ℕ → Type 0) (mode : Mode) (fields : List Field) → GroupIs P (sends mode fields)
sends_ok P mode (Natural comm ∷ dest ∷ tag ∷ bytes) = tt
sends_ok P mode _ = tt

starts_send_ok : (P : List ℕ → Type 0) (mode : Mode) (fields : List Field) → GroupIs P (starts_send mode fields)
starts_send_ok P mode (Natural request ∷ Natural comm ∷ dest ∷ tag ∷ bytes) = tt
starts_send_ok P mode _ = tt

awaits_ok : (P : List ℕ → Type 0) (made : Awaited → Called) (fields : List Field) → ((it : Awaited) → GroupIs P (made it)) → GroupIs P (awaits made fields)
awaits_ok P made (Natural comm ∷ source ∷ tag ∷ []) ok = ok (awaited comm source tag)
awaits_ok P made _ ok = tt

starts_awaiting_ok : (P : List ℕ → Type 0) (made : ℕ → Awaited → Called) (fields : List Field) → ((number : ℕ) (it : Awaited) → GroupIs P (made number it)) → GroupIs P (starts_awaiting made fields)
starts_awaiting_ok P made (Natural number ∷ Natural comm ∷ source ∷ tag ∷ []) ok = ok number (awaited comm source tag)
starts_awaiting_ok P made _ ok = tt

exchanges_ok : (P : List ℕ → Type 0) (fields : List Field) → GroupIs P (exchanges fields)
exchanges_ok P (Natural comm ∷ dest ∷ tag ∷ source ∷ other ∷ bytes) = tt
exchanges_ok P _ = tt

starts_exchange_ok : (P : List ℕ → Type 0) (fields : List Field) → GroupIs P (starts_exchange fields)
starts_exchange_ok P (Natural request ∷ Natural received ∷ Natural comm ∷ dest ∷ tag ∷ source ∷ other ∷ bytes) = tt
starts_exchange_ok P _ = tt

one_ok : (P : List ℕ → Type 0) (made : ℕ → Called) (fields : List Field) → ((number : ℕ) → GroupIs P (made number)) → GroupIs P (one_number made fields)
one_ok P made (Natural number ∷ []) ok = ok number
one_ok P made _ ok = tt

two_ok : (P : List ℕ → Type 0) (made : ℕ → ℕ → Called) (fields : List Field) → ((one two : ℕ) → GroupIs P (made one two)) → GroupIs P (two_numbers made fields)
two_ok P made (Natural one ∷ Natural two ∷ []) ok = ok one two
two_ok P made _ ok = tt

rooted_ok : (P : List ℕ → Type 0) (collective : Collective) (fields : List Field) → GroupIs P (rooted collective fields)
rooted_ok P collective (Natural comm ∷ Signed root ∷ []) = tt
rooted_ok P collective _ = tt

starts_rooted_ok : (P : List ℕ → Type 0) (collective : Collective) (fields : List Field) → GroupIs P (starts_rooted collective fields)
starts_rooted_ok P collective (Natural request ∷ Natural comm ∷ Signed root ∷ []) = tt
starts_rooted_ok P collective _ = tt

splits_ok : (P : List ℕ → Type 0) (fields : List Field) → GroupIs P (splits fields)
splits_ok P (Natural comm ∷ Signed colour ∷ Signed key ∷ []) = tt
splits_ok P (Natural comm ∷ Undefined ∷ Signed key ∷ []) = tt
splits_ok P _ = tt

unrooted_ok : (P : List ℕ → Type 0) (collective : Collective) (fields : List Field) → GroupIs P (unrooted collective fields)
unrooted_ok P collective fields = one_ok P (λ comm. Collects collective comm None) fields (λ number. tt)

starts_unrooted_ok : (P : List ℕ → Type 0) (collective : Collective) (fields : List Field) → GroupIs P (starts_unrooted collective fields)
starts_unrooted_ok P collective fields = two_ok P (λ request comm. StartsCollective request collective comm None) fields (λ one two. tt)

group_fields : (fields : List Field) → group_in (record { word = CallLine call.CommCreateGroup; fields = fields }) ≡ naturals_in fields
group_fields fields = same_numbers is_member Member (max 1 (length fields - 0)) fields refl (at_most (length fields))
  where
    at_most : (n : ℕ) → n ≤ max 1 (n - 0)
    at_most n = omega arith

pub called_group : (P : List ℕ → Type 0) (word : CallWord) (fields : List Field) → MakesGroup P word (group_in (record { word = CallLine word; fields = fields })) → GroupIs P (called word fields)
called_group P call.Send fields fits = sends_ok P Standard fields
called_group P call.Rsend fields fits = sends_ok P Standard fields
called_group P call.Ssend fields fits = sends_ok P Synchronous fields
called_group P call.Bsend fields fits = sends_ok P Buffered fields
called_group P call.Isend fields fits = starts_send_ok P Standard fields
called_group P call.Irsend fields fits = starts_send_ok P Standard fields
called_group P call.Issend fields fits = starts_send_ok P Synchronous fields
called_group P call.Ibsend fields fits = starts_send_ok P Buffered fields
called_group P call.Recv fields fits = awaits_ok P Receives fields (λ it. tt)
called_group P call.Irecv fields fits = starts_awaiting_ok P StartsReceive fields (λ number it. tt)
called_group P call.Sendrecv fields fits = exchanges_ok P fields
called_group P call.Isendrecv fields fits = starts_exchange_ok P fields
called_group P call.Probe fields fits = awaits_ok P Probes fields (λ it. tt)
called_group P call.Iprobe fields fits = awaits_ok P Probes fields (λ it. tt)
called_group P call.Mprobe fields fits = starts_awaiting_ok P ProbesMatching fields (λ number it. tt)
called_group P call.Improbe fields fits = starts_awaiting_ok P ProbesMatching fields (λ number it. tt)
called_group P call.Mrecv fields fits = one_ok P ReceivesMatched fields (λ number. tt)
called_group P call.Imrecv fields fits = two_ok P StartsMatched fields (λ one two. tt)
called_group P call.Cancel fields fits = one_ok P Cancels fields (λ number. tt)
called_group P call.RequestFree fields fits = one_ok P FreesRequest fields (λ number. tt)
called_group P call.Barrier fields fits = unrooted_ok P coll.Barrier fields
called_group P call.Bcast fields fits = rooted_ok P coll.Bcast fields
called_group P call.Gather fields fits = rooted_ok P coll.Gather fields
called_group P call.Scatter fields fits = rooted_ok P coll.Scatter fields
called_group P call.Reduce fields fits = rooted_ok P coll.Reduce fields
called_group P call.Allgather fields fits = unrooted_ok P coll.Allgather fields
called_group P call.Alltoall fields fits = unrooted_ok P coll.Alltoall fields
called_group P call.Allreduce fields fits = unrooted_ok P coll.Allreduce fields
called_group P call.Scan fields fits = unrooted_ok P coll.Scan fields
called_group P call.Exscan fields fits = unrooted_ok P coll.Exscan fields
called_group P call.Ibarrier fields fits = starts_unrooted_ok P coll.Barrier fields
called_group P call.Ibcast fields fits = starts_rooted_ok P coll.Bcast fields
called_group P call.Igather fields fits = starts_rooted_ok P coll.Gather fields
called_group P call.Iscatter fields fits = starts_rooted_ok P coll.Scatter fields
called_group P call.Ireduce fields fits = starts_rooted_ok P coll.Reduce fields
called_group P call.Iallgather fields fits = starts_unrooted_ok P coll.Allgather fields
called_group P call.Ialltoall fields fits = starts_unrooted_ok P coll.Alltoall fields
called_group P call.Iallreduce fields fits = starts_unrooted_ok P coll.Allreduce fields
called_group P call.Iscan fields fits = starts_unrooted_ok P coll.Scan fields
called_group P call.Iexscan fields fits = starts_unrooted_ok P coll.Exscan fields
called_group P call.CommDup fields fits = one_ok P Duplicates fields (λ number. tt)
called_group P call.CommIdup fields fits = two_ok P StartsDuplicate fields (λ one two. tt)
called_group P call.CommSplit fields fits = splits_ok P fields
called_group P call.CommMake fields fits = one_ok P Makes fields (λ number. tt)
called_group P call.CommCreateGroup fields fits = subst P (group_fields fields) fits
called_group P call.CommFree fields fits = one_ok P FreesComm fields (λ number. tt)
called_group P _ fields fits = tt
