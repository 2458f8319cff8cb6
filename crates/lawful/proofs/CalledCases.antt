-- What holds of each call that completes no requests holds of what a call line of another word says.
use Rattle.std.proofs.Common.{◌≡◌, ℕ, Bool, true, false, None, List, [], ◌∷◌, refl}
use Rattle.mpicall.specs.declared.call.Mode.{Mode}
use Rattle.mpicall.specs.declared.call.Mode.TheVariants.{Standard, Synchronous, Buffered}
use Rattle.mpicall.specs.declared.word.Collective.{Collective}
use Rattle.mpicall.specs.declared.word.Collective.TheVariants as coll
use Rattle.journals.specs.declared.field.Field.{Field}
use Rattle.journals.specs.declared.field.Field.TheVariants.{Natural, Signed, Undefined}
use Rattle.journals.specs.declared.word.CallWord.{CallWord}
use Rattle.journals.specs.declared.word.CallWord.TheVariants as call
use Rattle.closing.specs.Called.{Called, Awaited, Receives, StartsReceive, Probes, ProbesMatching, ReceivesMatched, StartsMatched, Waits, Tests, WaitsAny, WaitsSome, Cancels, FreesRequest, Collects, StartsCollective, Duplicates, StartsDuplicate, Makes, FreesComm, called, awaited, naturals_in, sends, starts_send, awaits, starts_awaiting, exchanges, starts_exchange, one_number, two_numbers, rooted, starts_rooted, unrooted, starts_unrooted, splits}

-- the call waits for requests, tests them or receives a message that was matched
abbrev pub is_wait : Called → Bool
is_wait (ReceivesMatched message) = true
is_wait (Waits requests) = true
is_wait (Tests requests) = true
is_wait (WaitsAny requests) = true
is_wait (WaitsSome requests) = true
is_wait it = false

abbrev pub OtherCalls : (Called → Type 0) → Type 0
OtherCalls T = (it : Called) → is_wait it ≡ false → T it

sends_case : (T : Called → Type 0) (mode : Mode) (fields : List Field) → OtherCalls T → T (sends mode fields)
sends_case T mode (Natural comm ∷ dest ∷ tag ∷ bytes) rest = rest _ refl
sends_case T mode _ rest = rest _ refl

starts_send_case : (T : Called → Type 0) (mode : Mode) (fields : List Field) → OtherCalls T → T (starts_send mode fields)
starts_send_case T mode (Natural request ∷ Natural comm ∷ dest ∷ tag ∷ bytes) rest = rest _ refl
starts_send_case T mode _ rest = rest _ refl

awaits_case : (T : Called → Type 0) (made : Awaited → Called) (fields : List Field) → ((it : Awaited) → T (made it)) → OtherCalls T → T (awaits made fields)
awaits_case T made (Natural comm ∷ source ∷ tag ∷ []) ok rest = ok (awaited comm source tag)
awaits_case T made _ ok rest = rest _ refl

starts_awaiting_case : (T : Called → Type 0) (made : ℕ → Awaited → Called) (fields : List Field) → ((number : ℕ) (it : Awaited) → T (made number it)) → OtherCalls T → T (starts_awaiting made fields)
starts_awaiting_case T made (Natural number ∷ Natural comm ∷ source ∷ tag ∷ []) ok rest = ok number (awaited comm source tag)
starts_awaiting_case T made _ ok rest = rest _ refl

exchanges_case : (T : Called → Type 0) (fields : List Field) → OtherCalls T → T (exchanges fields)
exchanges_case T (Natural comm ∷ dest ∷ tag ∷ source ∷ other ∷ bytes) rest = rest _ refl
exchanges_case T _ rest = rest _ refl

starts_exchange_case : (T : Called → Type 0) (fields : List Field) → OtherCalls T → T (starts_exchange fields)
starts_exchange_case T (Natural request ∷ Natural received ∷ Natural comm ∷ dest ∷ tag ∷ source ∷ other ∷ bytes) rest = rest _ refl
starts_exchange_case T _ rest = rest _ refl

one_case : (T : Called → Type 0) (made : ℕ → Called) (fields : List Field) → ((number : ℕ) → T (made number)) → OtherCalls T → T (one_number made fields)
one_case T made (Natural number ∷ []) ok rest = ok number
one_case T made _ ok rest = rest _ refl

two_case : (T : Called → Type 0) (made : ℕ → ℕ → Called) (fields : List Field) → ((one two : ℕ) → T (made one two)) → OtherCalls T → T (two_numbers made fields)
two_case T made (Natural one ∷ Natural two ∷ []) ok rest = ok one two
two_case T made _ ok rest = rest _ refl

rooted_case : (T : Called → Type 0) (collective : Collective) (fields : List Field) → OtherCalls T → T (rooted collective fields)
rooted_case T collective (Natural comm ∷ Signed root ∷ []) rest = rest _ refl
rooted_case T collective _ rest = rest _ refl

starts_rooted_case : (T : Called → Type 0) (collective : Collective) (fields : List Field) → OtherCalls T → T (starts_rooted collective fields)
starts_rooted_case T collective (Natural request ∷ Natural comm ∷ Signed root ∷ []) rest = rest _ refl
starts_rooted_case T collective _ rest = rest _ refl

splits_case : (T : Called → Type 0) (fields : List Field) → OtherCalls T → T (splits fields)
splits_case T (Natural comm ∷ Signed colour ∷ Signed key ∷ []) rest = rest _ refl
splits_case T (Natural comm ∷ Undefined ∷ Signed key ∷ []) rest = rest _ refl
splits_case T _ rest = rest _ refl

unrooted_case : (T : Called → Type 0) (collective : Collective) (fields : List Field) → OtherCalls T → T (unrooted collective fields)
unrooted_case T collective fields rest = one_case T (λ comm. Collects collective comm None) fields (λ number. rest _ refl) rest

starts_unrooted_case : (T : Called → Type 0) (collective : Collective) (fields : List Field) → OtherCalls T → T (starts_unrooted collective fields)
starts_unrooted_case T collective fields rest = two_case T (λ request comm. StartsCollective request collective comm None) fields (λ one two. rest _ refl) rest

-- what holds of a wait by its word
abbrev pub WaitCase : (CallWord → Called → Type 0) → CallWord → List Field → Type 0
WaitCase T call.Wait fields = T call.Wait (Waits (naturals_in fields))
WaitCase T call.Test fields = T call.Test (Tests (naturals_in fields))
WaitCase T call.Waitany fields = T call.Waitany (WaitsAny (naturals_in fields))
WaitCase T call.Waitsome fields = T call.Waitsome (WaitsSome (naturals_in fields))
WaitCase T call.Mrecv fields = T call.Mrecv (called call.Mrecv fields)
WaitCase T word fields = Unit {0}

pub called_case : (T : CallWord → Called → Type 0) (word : CallWord) (fields : List Field) → OtherCalls (T word) → WaitCase T word fields → T word (called word fields)
called_case T call.Wait fields rest own = own
called_case T call.Test fields rest own = own
called_case T call.Waitany fields rest own = own
called_case T call.Waitsome fields rest own = own
called_case T call.Mrecv fields rest own = own
called_case T call.Send fields rest own = sends_case (T call.Send) Standard fields rest
called_case T call.Rsend fields rest own = sends_case (T call.Rsend) Standard fields rest
called_case T call.Ssend fields rest own = sends_case (T call.Ssend) Synchronous fields rest
called_case T call.Bsend fields rest own = sends_case (T call.Bsend) Buffered fields rest
called_case T call.Isend fields rest own = starts_send_case (T call.Isend) Standard fields rest
called_case T call.Irsend fields rest own = starts_send_case (T call.Irsend) Standard fields rest
called_case T call.Issend fields rest own = starts_send_case (T call.Issend) Synchronous fields rest
called_case T call.Ibsend fields rest own = starts_send_case (T call.Ibsend) Buffered fields rest
called_case T call.Recv fields rest own = awaits_case (T call.Recv) Receives fields (λ it. rest _ refl) rest
called_case T call.Irecv fields rest own = starts_awaiting_case (T call.Irecv) StartsReceive fields (λ number it. rest _ refl) rest
called_case T call.Sendrecv fields rest own = exchanges_case (T call.Sendrecv) fields rest
called_case T call.Isendrecv fields rest own = starts_exchange_case (T call.Isendrecv) fields rest
called_case T call.Probe fields rest own = awaits_case (T call.Probe) Probes fields (λ it. rest _ refl) rest
called_case T call.Iprobe fields rest own = awaits_case (T call.Iprobe) Probes fields (λ it. rest _ refl) rest
called_case T call.Mprobe fields rest own = starts_awaiting_case (T call.Mprobe) ProbesMatching fields (λ number it. rest _ refl) rest
called_case T call.Improbe fields rest own = starts_awaiting_case (T call.Improbe) ProbesMatching fields (λ number it. rest _ refl) rest
called_case T call.Imrecv fields rest own = two_case (T call.Imrecv) StartsMatched fields (λ one two. rest _ refl) rest
called_case T call.Cancel fields rest own = one_case (T call.Cancel) Cancels fields (λ number. rest _ refl) rest
called_case T call.RequestFree fields rest own = one_case (T call.RequestFree) FreesRequest fields (λ number. rest _ refl) rest
called_case T call.Barrier fields rest own = unrooted_case (T call.Barrier) coll.Barrier fields rest
called_case T call.Bcast fields rest own = rooted_case (T call.Bcast) coll.Bcast fields rest
called_case T call.Gather fields rest own = rooted_case (T call.Gather) coll.Gather fields rest
called_case T call.Scatter fields rest own = rooted_case (T call.Scatter) coll.Scatter fields rest
called_case T call.Reduce fields rest own = rooted_case (T call.Reduce) coll.Reduce fields rest
called_case T call.Allgather fields rest own = unrooted_case (T call.Allgather) coll.Allgather fields rest
called_case T call.Alltoall fields rest own = unrooted_case (T call.Alltoall) coll.Alltoall fields rest
called_case T call.Allreduce fields rest own = unrooted_case (T call.Allreduce) coll.Allreduce fields rest
called_case T call.Scan fields rest own = unrooted_case (T call.Scan) coll.Scan fields rest
called_case T call.Exscan fields rest own = unrooted_case (T call.Exscan) coll.Exscan fields rest
called_case T call.Ibarrier fields rest own = starts_unrooted_case (T call.Ibarrier) coll.Barrier fields rest
called_case T call.Ibcast fields rest own = starts_rooted_case (T call.Ibcast) coll.Bcast fields rest
called_case T call.Igather fields rest own = starts_rooted_case (T call.Igather) coll.Gather fields rest
called_case T call.Iscatter fields rest own = starts_rooted_case (T call.Iscatter) coll.Scatter fields rest
called_case T call.Ireduce fields rest own = starts_rooted_case (T call.Ireduce) coll.Reduce fields rest
called_case T call.Iallgather fields rest own = starts_unrooted_case (T call.Iallgather) coll.Allgather fields rest
called_case T call.Ialltoall fields rest own = starts_unrooted_case (T call.Ialltoall) coll.Alltoall fields rest
called_case T call.Iallreduce fields rest own = starts_unrooted_case (T call.Iallreduce) coll.Allreduce fields rest
called_case T call.Iscan fields rest own = starts_unrooted_case (T call.Iscan) coll.Scan fields rest
called_case T call.Iexscan fields rest own = starts_unrooted_case (T call.Iexscan) coll.Exscan fields rest
called_case T call.CommDup fields rest own = one_case (T call.CommDup) Duplicates fields (λ number. rest _ refl) rest
called_case T call.CommIdup fields rest own = two_case (T call.CommIdup) StartsDuplicate fields (λ one two. rest _ refl) rest
called_case T call.CommSplit fields rest own = splits_case (T call.CommSplit) fields rest
called_case T call.CommMake fields rest own = one_case (T call.CommMake) Makes fields (λ number. rest _ refl) rest
called_case T call.CommFree fields rest own = one_case (T call.CommFree) FreesComm fields (λ number. rest _ refl) rest
called_case T word fields rest own = rest _ refl
