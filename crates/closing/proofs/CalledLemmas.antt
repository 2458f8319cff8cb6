-- A call that isn't read as a wait for any or some is none.
use Rattle.std.proofs.Common.{◌≡◌, ◌∙◌, refl, ap, ℕ, Bool, true, false, None, List, [], ◌∷◌}
use Rattle.mpicall.specs.declared.call.Mode.{Mode}
use Rattle.mpicall.specs.declared.call.Mode.TheVariants.{Standard, Synchronous, Buffered}
use Rattle.mpicall.specs.declared.word.Collective.{Collective}
use Rattle.mpicall.specs.declared.word.Collective.TheVariants as coll
use Rattle.journals.specs.declared.field.Field.{Field}
use Rattle.journals.specs.declared.field.Field.TheVariants.{Natural, Signed, Undefined}
use Rattle.journals.specs.declared.word.CallWord.{CallWord}
use Rattle.journals.specs.declared.word.CallWord.TheVariants as call
use Rattle.closing.specs.Called.{Called, Awaited, Receives, StartsReceive, Probes, ProbesMatching, ReceivesMatched, StartsMatched, WaitsAny, WaitsSome, Cancels, FreesRequest, Collects, StartsCollective, Duplicates, StartsDuplicate, Makes, FreesComm, awaits, exchanges, one_number, rooted, sends, splits, starts_awaiting, starts_exchange, starts_rooted, starts_send, two_numbers}
use Rattle.closing.specs.inner.Views.{called_view}
use Rattle.closing.specs.inner.Walked.{AreRequests}
use Rattle.closing.specs.inner.Words.{by_collective, by_comm, by_message}
use Rattle.closing.specs.declared.called.Called.{Called as CalledCode}
use Rattle.closing.specs.declared.called.Called.TheVariants as code

-- it waits for any or some of several
abbrev pub is_choice : Called → Bool
is_choice (WaitsAny requests) = true
is_choice (WaitsSome requests) = true
is_choice it = false

-- of another call nothing is asked
requests_of : (it : CalledCode) → is_choice (called_view it) ≡ false → AreRequests it
requests_of (code.WaitsAny fields) h = cc
requests_of (code.WaitsSome fields) h = cc
requests_of _ h = tt

-- ---- By the form ----

of_one : (made : ℕ → Called) → ((number : ℕ) → is_choice (made number) ≡ false) → (fields : List Field) → is_choice (one_number made fields) ≡ false
of_one made none (Natural number ∷ []) = none number
of_one made none _ = refl

of_two : (made : ℕ → ℕ → Called) → ((first second : ℕ) → is_choice (made first second) ≡ false) → (fields : List Field) → is_choice (two_numbers made fields) ≡ false
of_two made none (Natural first ∷ Natural second ∷ []) = none first second
of_two made none _ = refl

of_sends : (mode : Mode) (fields : List Field) → is_choice (sends mode fields) ≡ false
of_sends mode (Natural comm ∷ dest ∷ tag ∷ bytes) = refl
of_sends mode _ = refl

of_starts_send : (mode : Mode) (fields : List Field) → is_choice (starts_send mode fields) ≡ false
of_starts_send mode (Natural request ∷ Natural comm ∷ dest ∷ tag ∷ bytes) = refl
of_starts_send mode _ = refl

of_awaits : (made : Awaited → Called) → ((it : Awaited) → is_choice (made it) ≡ false) → (fields : List Field) → is_choice (awaits made fields) ≡ false
of_awaits made none (Natural comm ∷ source ∷ tag ∷ []) = none _
of_awaits made none _ = refl

of_starts_awaiting : (made : ℕ → Awaited → Called) → ((number : ℕ) (it : Awaited) → is_choice (made number it) ≡ false) → (fields : List Field)
    → is_choice (starts_awaiting made fields) ≡ false
of_starts_awaiting made none (Natural number ∷ Natural comm ∷ source ∷ tag ∷ []) = none number _
of_starts_awaiting made none _ = refl

of_exchanges : (fields : List Field) → is_choice (exchanges fields) ≡ false
of_exchanges (Natural comm ∷ dest ∷ tag ∷ source ∷ other ∷ bytes) = refl
of_exchanges _ = refl

of_starts_exchange : (fields : List Field) → is_choice (starts_exchange fields) ≡ false
of_starts_exchange (Natural request ∷ Natural received ∷ Natural comm ∷ dest ∷ tag ∷ source ∷ other ∷ bytes) = refl
of_starts_exchange _ = refl

of_rooted : (collective : Collective) (fields : List Field) → is_choice (rooted collective fields) ≡ false
of_rooted collective (Natural comm ∷ Signed root ∷ []) = refl
of_rooted collective _ = refl

of_starts_rooted : (collective : Collective) (fields : List Field) → is_choice (starts_rooted collective fields) ≡ false
of_starts_rooted collective (Natural request ∷ Natural comm ∷ Signed root ∷ []) = refl
of_starts_rooted collective _ = refl

of_splits : (fields : List Field) → is_choice (splits fields) ≡ false
of_splits (Natural comm ∷ Signed colour ∷ Signed key ∷ []) = refl
of_splits (Natural comm ∷ Undefined ∷ Signed key ∷ []) = refl
of_splits _ = refl

-- ---- By the word ----

of_collective : (word : CallWord) (fields : List Field) → is_choice (by_collective word fields) ≡ false
of_collective call.Barrier fields = of_one (λ comm. Collects coll.Barrier comm None) (λ comm. refl) fields
of_collective call.Allgather fields = of_one (λ comm. Collects coll.Allgather comm None) (λ comm. refl) fields
of_collective call.Alltoall fields = of_one (λ comm. Collects coll.Alltoall comm None) (λ comm. refl) fields
of_collective call.Allreduce fields = of_one (λ comm. Collects coll.Allreduce comm None) (λ comm. refl) fields
of_collective call.Scan fields = of_one (λ comm. Collects coll.Scan comm None) (λ comm. refl) fields
of_collective call.Exscan fields = of_one (λ comm. Collects coll.Exscan comm None) (λ comm. refl) fields
of_collective call.Bcast fields = of_rooted coll.Bcast fields
of_collective call.Gather fields = of_rooted coll.Gather fields
of_collective call.Scatter fields = of_rooted coll.Scatter fields
of_collective call.Reduce fields = of_rooted coll.Reduce fields
of_collective call.Ibarrier fields = of_two (λ request comm. StartsCollective request coll.Barrier comm None) (λ request comm. refl) fields
of_collective call.Iallgather fields = of_two (λ request comm. StartsCollective request coll.Allgather comm None) (λ request comm. refl) fields
of_collective call.Ialltoall fields = of_two (λ request comm. StartsCollective request coll.Alltoall comm None) (λ request comm. refl) fields
of_collective call.Iallreduce fields = of_two (λ request comm. StartsCollective request coll.Allreduce comm None) (λ request comm. refl) fields
of_collective call.Iscan fields = of_two (λ request comm. StartsCollective request coll.Scan comm None) (λ request comm. refl) fields
of_collective call.Iexscan fields = of_two (λ request comm. StartsCollective request coll.Exscan comm None) (λ request comm. refl) fields
of_collective call.Ibcast fields = of_starts_rooted coll.Bcast fields
of_collective call.Igather fields = of_starts_rooted coll.Gather fields
of_collective call.Iscatter fields = of_starts_rooted coll.Scatter fields
of_collective call.Ireduce fields = of_starts_rooted coll.Reduce fields
of_collective word fields = refl

of_comm : (word : CallWord) (fields : List Field) → is_choice (by_comm word fields) ≡ false
of_comm call.CommDup fields = of_one Duplicates (λ comm. refl) fields
of_comm call.CommIdup fields = of_two StartsDuplicate (λ request comm. refl) fields
of_comm call.CommSplit fields = of_splits fields
of_comm call.CommMake fields = of_one Makes (λ comm. refl) fields
of_comm call.CommCreateGroup fields = refl
of_comm call.CommFree fields = of_one FreesComm (λ comm. refl) fields
of_comm word fields = of_collective word fields

of_message : (word : CallWord) (fields : List Field) → is_choice (by_message word fields) ≡ false
of_message call.Send fields = of_sends Standard fields
of_message call.Rsend fields = of_sends Standard fields
of_message call.Ssend fields = of_sends Synchronous fields
of_message call.Bsend fields = of_sends Buffered fields
of_message call.Isend fields = of_starts_send Standard fields
of_message call.Irsend fields = of_starts_send Standard fields
of_message call.Issend fields = of_starts_send Synchronous fields
of_message call.Ibsend fields = of_starts_send Buffered fields
of_message call.Recv fields = of_awaits Receives (λ it. refl) fields
of_message call.Irecv fields = of_starts_awaiting StartsReceive (λ number it. refl) fields
of_message call.Sendrecv fields = of_exchanges fields
of_message call.Isendrecv fields = of_starts_exchange fields
of_message call.Probe fields = of_awaits Probes (λ it. refl) fields
of_message call.Iprobe fields = of_awaits Probes (λ it. refl) fields
of_message call.Mprobe fields = of_starts_awaiting ProbesMatching (λ number it. refl) fields
of_message call.Improbe fields = of_starts_awaiting ProbesMatching (λ number it. refl) fields
of_message call.Mrecv fields = of_one ReceivesMatched (λ number. refl) fields
of_message call.Imrecv fields = of_two StartsMatched (λ first second. refl) fields
of_message word fields = of_comm word fields

-- ---- What is read ----

pub message_requests : (word : CallWord) (fields : List Field) (it : CalledCode) → called_view it ≡ by_message word fields → AreRequests it
message_requests word fields it e = requests_of it (ap is_choice e ∙ of_message word fields)

pub cancel_requests : (fields : List Field) (it : CalledCode) → called_view it ≡ one_number Cancels fields → AreRequests it
cancel_requests fields it e = requests_of it (ap is_choice e ∙ of_one Cancels (λ number. refl) fields)

pub free_requests : (fields : List Field) (it : CalledCode) → called_view it ≡ one_number FreesRequest fields → AreRequests it
free_requests fields it e = requests_of it (ap is_choice e ∙ of_one FreesRequest (λ number. refl) fields)
