-- A call line says the end of its rank only by its word.
use Rattle.std.proofs.Common.{◌≡◌, ℕ, Bool, true, false, None, List, [], ◌∷◌, refl, sym, ◌∙◌}
use Rattle.std.proofs.lemmas.Bool.{false≢true}
use Rattle.mpicall.specs.declared.call.Mode.{Mode}
use Rattle.mpicall.specs.declared.call.Mode.TheVariants.{Standard, Synchronous, Buffered}
use Rattle.mpicall.specs.declared.word.Collective.{Collective}
use Rattle.mpicall.specs.declared.word.Collective.TheVariants as coll
use Rattle.journals.specs.declared.field.Field.{Field}
use Rattle.journals.specs.declared.field.Field.TheVariants.{Natural, Signed, Undefined}
use Rattle.journals.specs.declared.word.Word.TheVariants.{Call as CallLine}
use Rattle.journals.specs.declared.word.CallWord.{CallWord}
use Rattle.journals.specs.declared.word.CallWord.TheVariants as call
use Rattle.closing.specs.Called.{Called, Awaited, Receives, StartsReceive, Probes, ProbesMatching, ReceivesMatched, StartsMatched, Cancels, FreesRequest, Collects, StartsCollective, Duplicates, StartsDuplicate, Makes, FreesComm, called, awaited, sends, starts_send, awaits, starts_awaiting, exchanges, starts_exchange, one_number, two_numbers, rooted, starts_rooted, unrooted, starts_unrooted, splits}
use Rattle.journals.specs.Faults.{ends_journal}
use Rattle.closing.specs.Recording.{is_end}

sends_not : (mode : Mode) (fields : List Field) → is_end (sends mode fields) ≡ false
sends_not mode (Natural comm ∷ dest ∷ tag ∷ bytes) = refl
sends_not mode _ = refl

starts_send_not : (mode : Mode) (fields : List Field) → is_end (starts_send mode fields) ≡ false
starts_send_not mode (Natural request ∷ Natural comm ∷ dest ∷ tag ∷ bytes) = refl
starts_send_not mode _ = refl

awaits_not : (made : Awaited → Called) (fields : List Field) → ((it : Awaited) → is_end (made it) ≡ false) → is_end (awaits made fields) ≡ false
awaits_not made (Natural comm ∷ source ∷ tag ∷ []) ok = ok (awaited comm source tag)
awaits_not made _ ok = refl

starts_awaiting_not : (made : ℕ → Awaited → Called) (fields : List Field) → ((number : ℕ) (it : Awaited) → is_end (made number it) ≡ false) → is_end (starts_awaiting made fields) ≡ false
starts_awaiting_not made (Natural number ∷ Natural comm ∷ source ∷ tag ∷ []) ok = ok number (awaited comm source tag)
starts_awaiting_not made _ ok = refl

exchanges_not : (fields : List Field) → is_end (exchanges fields) ≡ false
exchanges_not (Natural comm ∷ dest ∷ tag ∷ source ∷ other ∷ bytes) = refl
exchanges_not _ = refl

starts_exchange_not : (fields : List Field) → is_end (starts_exchange fields) ≡ false
starts_exchange_not (Natural request ∷ Natural received ∷ Natural comm ∷ dest ∷ tag ∷ source ∷ other ∷ bytes) = refl
starts_exchange_not _ = refl

one_not : (made : ℕ → Called) (fields : List Field) → ((number : ℕ) → is_end (made number) ≡ false) → is_end (one_number made fields) ≡ false
one_not made (Natural number ∷ []) ok = ok number
one_not made _ ok = refl

two_not : (made : ℕ → ℕ → Called) (fields : List Field) → ((one two : ℕ) → is_end (made one two) ≡ false) → is_end (two_numbers made fields) ≡ false
two_not made (Natural one ∷ Natural two ∷ []) ok = ok one two
two_not made _ ok = refl

rooted_not : (collective : Collective) (fields : List Field) → is_end (rooted collective fields) ≡ false
rooted_not collective (Natural comm ∷ Signed root ∷ []) = refl
rooted_not collective _ = refl

starts_rooted_not : (collective : Collective) (fields : List Field) → is_end (starts_rooted collective fields) ≡ false
starts_rooted_not collective (Natural request ∷ Natural comm ∷ Signed root ∷ []) = refl
starts_rooted_not collective _ = refl

splits_not : (fields : List Field) → is_end (splits fields) ≡ false
splits_not (Natural comm ∷ Signed colour ∷ Signed key ∷ []) = refl
splits_not (Natural comm ∷ Undefined ∷ Signed key ∷ []) = refl
splits_not _ = refl

unrooted_not : (collective : Collective) (fields : List Field) → is_end (unrooted collective fields) ≡ false
unrooted_not collective fields = one_not (λ comm. Collects collective comm None) fields (λ number. refl)

starts_unrooted_not : (collective : Collective) (fields : List Field) → is_end (starts_unrooted collective fields) ≡ false
starts_unrooted_not collective fields = two_not (λ request comm. StartsCollective request collective comm None) fields (λ one two. refl)

differs : {A : Type 0} (b : Bool) → b ≡ false → b ≡ true → A
differs b is not = absurd (false≢true (sym is ∙ not))

pub end_word : (word : CallWord) (fields : List Field) → is_end (called word fields) ≡ true → ends_journal (CallLine word) ≡ true
end_word call.Finalize fields h = refl
end_word call.Exit fields h = refl
end_word call.Cut fields h = refl
end_word call.Send fields h = differs (is_end (called call.Send fields)) (sends_not Standard fields) h
end_word call.Rsend fields h = differs (is_end (called call.Rsend fields)) (sends_not Standard fields) h
end_word call.Ssend fields h = differs (is_end (called call.Ssend fields)) (sends_not Synchronous fields) h
end_word call.Bsend fields h = differs (is_end (called call.Bsend fields)) (sends_not Buffered fields) h
end_word call.Isend fields h = differs (is_end (called call.Isend fields)) (starts_send_not Standard fields) h
end_word call.Irsend fields h = differs (is_end (called call.Irsend fields)) (starts_send_not Standard fields) h
end_word call.Issend fields h = differs (is_end (called call.Issend fields)) (starts_send_not Synchronous fields) h
end_word call.Ibsend fields h = differs (is_end (called call.Ibsend fields)) (starts_send_not Buffered fields) h
end_word call.Recv fields h = differs (is_end (called call.Recv fields)) (awaits_not Receives fields (λ it. refl)) h
end_word call.Irecv fields h = differs (is_end (called call.Irecv fields)) (starts_awaiting_not StartsReceive fields (λ number it. refl)) h
end_word call.Sendrecv fields h = differs (is_end (called call.Sendrecv fields)) (exchanges_not fields) h
end_word call.Isendrecv fields h = differs (is_end (called call.Isendrecv fields)) (starts_exchange_not fields) h
end_word call.Probe fields h = differs (is_end (called call.Probe fields)) (awaits_not Probes fields (λ it. refl)) h
end_word call.Iprobe fields h = differs (is_end (called call.Iprobe fields)) (awaits_not Probes fields (λ it. refl)) h
end_word call.Mprobe fields h = differs (is_end (called call.Mprobe fields)) (starts_awaiting_not ProbesMatching fields (λ number it. refl)) h
end_word call.Improbe fields h = differs (is_end (called call.Improbe fields)) (starts_awaiting_not ProbesMatching fields (λ number it. refl)) h
end_word call.Mrecv fields h = differs (is_end (called call.Mrecv fields)) (one_not ReceivesMatched fields (λ number. refl)) h
end_word call.Imrecv fields h = differs (is_end (called call.Imrecv fields)) (two_not StartsMatched fields (λ one two. refl)) h
end_word call.Cancel fields h = differs (is_end (called call.Cancel fields)) (one_not Cancels fields (λ number. refl)) h
end_word call.RequestFree fields h = differs (is_end (called call.RequestFree fields)) (one_not FreesRequest fields (λ number. refl)) h
end_word call.Barrier fields h = differs (is_end (called call.Barrier fields)) (unrooted_not coll.Barrier fields) h
end_word call.Bcast fields h = differs (is_end (called call.Bcast fields)) (rooted_not coll.Bcast fields) h
end_word call.Gather fields h = differs (is_end (called call.Gather fields)) (rooted_not coll.Gather fields) h
end_word call.Scatter fields h = differs (is_end (called call.Scatter fields)) (rooted_not coll.Scatter fields) h
end_word call.Reduce fields h = differs (is_end (called call.Reduce fields)) (rooted_not coll.Reduce fields) h
end_word call.Allgather fields h = differs (is_end (called call.Allgather fields)) (unrooted_not coll.Allgather fields) h
end_word call.Alltoall fields h = differs (is_end (called call.Alltoall fields)) (unrooted_not coll.Alltoall fields) h
end_word call.Allreduce fields h = differs (is_end (called call.Allreduce fields)) (unrooted_not coll.Allreduce fields) h
end_word call.Scan fields h = differs (is_end (called call.Scan fields)) (unrooted_not coll.Scan fields) h
end_word call.Exscan fields h = differs (is_end (called call.Exscan fields)) (unrooted_not coll.Exscan fields) h
end_word call.Ibarrier fields h = differs (is_end (called call.Ibarrier fields)) (starts_unrooted_not coll.Barrier fields) h
end_word call.Ibcast fields h = differs (is_end (called call.Ibcast fields)) (starts_rooted_not coll.Bcast fields) h
end_word call.Igather fields h = differs (is_end (called call.Igather fields)) (starts_rooted_not coll.Gather fields) h
end_word call.Iscatter fields h = differs (is_end (called call.Iscatter fields)) (starts_rooted_not coll.Scatter fields) h
end_word call.Ireduce fields h = differs (is_end (called call.Ireduce fields)) (starts_rooted_not coll.Reduce fields) h
end_word call.Iallgather fields h = differs (is_end (called call.Iallgather fields)) (starts_unrooted_not coll.Allgather fields) h
end_word call.Ialltoall fields h = differs (is_end (called call.Ialltoall fields)) (starts_unrooted_not coll.Alltoall fields) h
end_word call.Iallreduce fields h = differs (is_end (called call.Iallreduce fields)) (starts_unrooted_not coll.Allreduce fields) h
end_word call.Iscan fields h = differs (is_end (called call.Iscan fields)) (starts_unrooted_not coll.Scan fields) h
end_word call.Iexscan fields h = differs (is_end (called call.Iexscan fields)) (starts_unrooted_not coll.Exscan fields) h
end_word call.CommDup fields h = differs (is_end (called call.CommDup fields)) (one_not Duplicates fields (λ number. refl)) h
end_word call.CommIdup fields h = differs (is_end (called call.CommIdup fields)) (two_not StartsDuplicate fields (λ one two. refl)) h
end_word call.CommSplit fields h = differs (is_end (called call.CommSplit fields)) (splits_not fields) h
end_word call.CommMake fields h = differs (is_end (called call.CommMake fields)) (one_not Makes fields (λ number. refl)) h
end_word call.CommCreateGroup fields h = absurd (false≢true h)
end_word call.CommFree fields h = differs (is_end (called call.CommFree fields)) (one_not FreesComm fields (λ number. refl)) h
end_word _ fields h = absurd (false≢true h)
