-- Calls that neither count among those on a communicator nor make one.
use Rattle.std.proofs.Common.{◌≡◌, refl, subst, sym, true, false, None, List, [], ◌∷◌}
use Rattle.mpicall.specs.declared.call.Mode.{Mode}
use Rattle.journals.specs.declared.field.Field.{Field}
use Rattle.journals.specs.declared.field.Field.TheVariants.{Natural, Signed, Null, Any, Undefined}
use Rattle.journals.specs.declared.word.CallWord.{CallWord}
use Rattle.journals.specs.declared.word.CallWord.TheVariants as call
use Rattle.closing.specs.Called.{Called, Sends, Collects, StartsCollective, Duplicates, StartsDuplicate, Splits, Makes, MakesOfGroup, Receives, StartsReceive, Probes, ProbesMatching, awaits, called, exchanges, sends, starts_awaiting, starts_exchange, starts_send}
use Rattle.closing.specs.RankComms.{RankComms, after_call, key_next, wave_next}
use Rattle.closing.specs.Table.{Table}
use Rattle.closing.specs.inner.Holds.{HasComms}
use Rattle.closing.specs.inner.Table.{IsPlaceOf, IsWaveOf}
use Rattle.closing.specs.inner.Words.{counts, is_plain}
use Rattle.closing.specs.declared.rank_comms.RankComms.{RankComms as CommsCode}

-- what the rank has after such a call
pub plain_after : (comms : RankComms) (it : Called) → counts it ≡ false → after_call comms it ≡ record comms { wave = None; own = None }
plain_after comms (Sends mode it) none = refl
plain_after comms (Collects collective comm root) none = cc
plain_after comms (StartsCollective request collective comm root) none = cc
plain_after comms (Duplicates comm) none = cc
plain_after comms (StartsDuplicate request comm) none = cc
plain_after comms (Splits comm colour key) none = cc
plain_after comms (Makes comm) none = cc
plain_after comms (MakesOfGroup group) none = cc
plain_after comms _ none = refl

pub plain_comms : (table : Table) (old new : CommsCode) (comms : RankComms) (it : Called) → new ≡ record old { wave = None; own = None } → counts it ≡ false → HasComms table old comms → HasComms table new (after_call comms it)
plain_comms table old new comms it same none is =
    subst (λ (r : RankComms). HasComms table new r) (sym (plain_after comms it none))
    (subst (λ (k : CommsCode). HasComms table k (record comms { wave = None; own = None })) (sym same) (record {
      table_is = is.table_is;
      numbers = is.numbers;
      waves = is.waves;
      duplicates = is.duplicates;
      groups = is.groups;
      apart = is.apart;
      wave = tt;
      own = tt;
    }))

pub plain_wave : (table : Table) (comms : RankComms) (it : Called) → counts it ≡ false → IsWaveOf table None (wave_next comms it)
plain_wave table comms (Sends mode it) none = tt
plain_wave table comms (Collects collective comm root) none = cc
plain_wave table comms (StartsCollective request collective comm root) none = cc
plain_wave table comms (Duplicates comm) none = cc
plain_wave table comms (StartsDuplicate request comm) none = cc
plain_wave table comms (Splits comm colour key) none = cc
plain_wave table comms (Makes comm) none = cc
plain_wave table comms (MakesOfGroup group) none = cc
plain_wave table comms _ none = tt

pub no_key : (table : Table) (comms : RankComms) (it : Called) → counts it ≡ false → IsPlaceOf table None (key_next comms it)
no_key table comms (MakesOfGroup group) none = cc
no_key table comms _ none = tt

-- ---- By the word ----

plain_sends : (mode : Mode) (fields : List Field) → counts (sends mode fields) ≡ false
plain_sends mode [] = refl
plain_sends mode (Signed n ∷ fields) = refl
plain_sends mode (Null ∷ fields) = refl
plain_sends mode (Any ∷ fields) = refl
plain_sends mode (Undefined ∷ fields) = refl
plain_sends mode (Natural n0 ∷ []) = refl
plain_sends mode (Natural n0 ∷ f0 ∷ []) = refl
plain_sends mode (Natural n0 ∷ f0 ∷ f1 ∷ fields) = refl

plain_starts_send : (mode : Mode) (fields : List Field) → counts (starts_send mode fields) ≡ false
plain_starts_send mode [] = refl
plain_starts_send mode (Signed n ∷ fields) = refl
plain_starts_send mode (Null ∷ fields) = refl
plain_starts_send mode (Any ∷ fields) = refl
plain_starts_send mode (Undefined ∷ fields) = refl
plain_starts_send mode (Natural n0 ∷ []) = refl
plain_starts_send mode (Natural n0 ∷ Signed n ∷ fields) = refl
plain_starts_send mode (Natural n0 ∷ Null ∷ fields) = refl
plain_starts_send mode (Natural n0 ∷ Any ∷ fields) = refl
plain_starts_send mode (Natural n0 ∷ Undefined ∷ fields) = refl
plain_starts_send mode (Natural n0 ∷ Natural n1 ∷ []) = refl
plain_starts_send mode (Natural n0 ∷ Natural n1 ∷ f0 ∷ []) = refl
plain_starts_send mode (Natural n0 ∷ Natural n1 ∷ f0 ∷ f1 ∷ fields) = refl

plain_receives : (fields : List Field) → counts (awaits Receives fields) ≡ false
plain_receives [] = refl
plain_receives (Signed n ∷ fields) = refl
plain_receives (Null ∷ fields) = refl
plain_receives (Any ∷ fields) = refl
plain_receives (Undefined ∷ fields) = refl
plain_receives (Natural n0 ∷ []) = refl
plain_receives (Natural n0 ∷ f0 ∷ []) = refl
plain_receives (Natural n0 ∷ f0 ∷ f1 ∷ []) = refl
plain_receives (Natural n0 ∷ f0 ∷ f1 ∷ g ∷ fields) = refl

plain_probes : (fields : List Field) → counts (awaits Probes fields) ≡ false
plain_probes [] = refl
plain_probes (Signed n ∷ fields) = refl
plain_probes (Null ∷ fields) = refl
plain_probes (Any ∷ fields) = refl
plain_probes (Undefined ∷ fields) = refl
plain_probes (Natural n0 ∷ []) = refl
plain_probes (Natural n0 ∷ f0 ∷ []) = refl
plain_probes (Natural n0 ∷ f0 ∷ f1 ∷ []) = refl
plain_probes (Natural n0 ∷ f0 ∷ f1 ∷ g ∷ fields) = refl

plain_starts_receive : (fields : List Field) → counts (starts_awaiting StartsReceive fields) ≡ false
plain_starts_receive [] = refl
plain_starts_receive (Signed n ∷ fields) = refl
plain_starts_receive (Null ∷ fields) = refl
plain_starts_receive (Any ∷ fields) = refl
plain_starts_receive (Undefined ∷ fields) = refl
plain_starts_receive (Natural n0 ∷ []) = refl
plain_starts_receive (Natural n0 ∷ Signed n ∷ fields) = refl
plain_starts_receive (Natural n0 ∷ Null ∷ fields) = refl
plain_starts_receive (Natural n0 ∷ Any ∷ fields) = refl
plain_starts_receive (Natural n0 ∷ Undefined ∷ fields) = refl
plain_starts_receive (Natural n0 ∷ Natural n1 ∷ []) = refl
plain_starts_receive (Natural n0 ∷ Natural n1 ∷ f0 ∷ []) = refl
plain_starts_receive (Natural n0 ∷ Natural n1 ∷ f0 ∷ f1 ∷ []) = refl
plain_starts_receive (Natural n0 ∷ Natural n1 ∷ f0 ∷ f1 ∷ g ∷ fields) = refl

plain_probes_matching : (fields : List Field) → counts (starts_awaiting ProbesMatching fields) ≡ false
plain_probes_matching [] = refl
plain_probes_matching (Signed n ∷ fields) = refl
plain_probes_matching (Null ∷ fields) = refl
plain_probes_matching (Any ∷ fields) = refl
plain_probes_matching (Undefined ∷ fields) = refl
plain_probes_matching (Natural n0 ∷ []) = refl
plain_probes_matching (Natural n0 ∷ Signed n ∷ fields) = refl
plain_probes_matching (Natural n0 ∷ Null ∷ fields) = refl
plain_probes_matching (Natural n0 ∷ Any ∷ fields) = refl
plain_probes_matching (Natural n0 ∷ Undefined ∷ fields) = refl
plain_probes_matching (Natural n0 ∷ Natural n1 ∷ []) = refl
plain_probes_matching (Natural n0 ∷ Natural n1 ∷ f0 ∷ []) = refl
plain_probes_matching (Natural n0 ∷ Natural n1 ∷ f0 ∷ f1 ∷ []) = refl
plain_probes_matching (Natural n0 ∷ Natural n1 ∷ f0 ∷ f1 ∷ g ∷ fields) = refl

plain_exchanges : (fields : List Field) → counts (exchanges fields) ≡ false
plain_exchanges [] = refl
plain_exchanges (Signed n ∷ fields) = refl
plain_exchanges (Null ∷ fields) = refl
plain_exchanges (Any ∷ fields) = refl
plain_exchanges (Undefined ∷ fields) = refl
plain_exchanges (Natural n0 ∷ []) = refl
plain_exchanges (Natural n0 ∷ f0 ∷ []) = refl
plain_exchanges (Natural n0 ∷ f0 ∷ f1 ∷ []) = refl
plain_exchanges (Natural n0 ∷ f0 ∷ f1 ∷ f2 ∷ []) = refl
plain_exchanges (Natural n0 ∷ f0 ∷ f1 ∷ f2 ∷ f3 ∷ fields) = refl

plain_starts_exchange : (fields : List Field) → counts (starts_exchange fields) ≡ false
plain_starts_exchange [] = refl
plain_starts_exchange (Signed n ∷ fields) = refl
plain_starts_exchange (Null ∷ fields) = refl
plain_starts_exchange (Any ∷ fields) = refl
plain_starts_exchange (Undefined ∷ fields) = refl
plain_starts_exchange (Natural n0 ∷ []) = refl
plain_starts_exchange (Natural n0 ∷ Signed n ∷ fields) = refl
plain_starts_exchange (Natural n0 ∷ Null ∷ fields) = refl
plain_starts_exchange (Natural n0 ∷ Any ∷ fields) = refl
plain_starts_exchange (Natural n0 ∷ Undefined ∷ fields) = refl
plain_starts_exchange (Natural n0 ∷ Natural n1 ∷ []) = refl
plain_starts_exchange (Natural n0 ∷ Natural n1 ∷ Signed n ∷ fields) = refl
plain_starts_exchange (Natural n0 ∷ Natural n1 ∷ Null ∷ fields) = refl
plain_starts_exchange (Natural n0 ∷ Natural n1 ∷ Any ∷ fields) = refl
plain_starts_exchange (Natural n0 ∷ Natural n1 ∷ Undefined ∷ fields) = refl
plain_starts_exchange (Natural n0 ∷ Natural n1 ∷ Natural n2 ∷ []) = refl
plain_starts_exchange (Natural n0 ∷ Natural n1 ∷ Natural n2 ∷ f0 ∷ []) = refl
plain_starts_exchange (Natural n0 ∷ Natural n1 ∷ Natural n2 ∷ f0 ∷ f1 ∷ []) = refl
plain_starts_exchange (Natural n0 ∷ Natural n1 ∷ Natural n2 ∷ f0 ∷ f1 ∷ f2 ∷ []) = refl
plain_starts_exchange (Natural n0 ∷ Natural n1 ∷ Natural n2 ∷ f0 ∷ f1 ∷ f2 ∷ f3 ∷ fields) = refl

pub plain_call : (word : CallWord) (fields : List Field) → is_plain word ≡ true → counts (called word fields) ≡ false
plain_call call.Send fields is = plain_sends _ fields
plain_call call.Ssend fields is = plain_sends _ fields
plain_call call.Bsend fields is = plain_sends _ fields
plain_call call.Rsend fields is = plain_sends _ fields
plain_call call.Isend fields is = plain_starts_send _ fields
plain_call call.Issend fields is = plain_starts_send _ fields
plain_call call.Ibsend fields is = plain_starts_send _ fields
plain_call call.Irsend fields is = plain_starts_send _ fields
plain_call call.Recv fields is = plain_receives fields
plain_call call.Probe fields is = plain_probes fields
plain_call call.Iprobe fields is = plain_probes fields
plain_call call.Irecv fields is = plain_starts_receive fields
plain_call call.Mprobe fields is = plain_probes_matching fields
plain_call call.Improbe fields is = plain_probes_matching fields
plain_call call.Sendrecv fields is = plain_exchanges fields
plain_call call.Isendrecv fields is = plain_starts_exchange fields
plain_call call.Wait fields is = refl
plain_call call.Test fields is = refl
plain_call call.Waitany fields is = refl
plain_call call.Waitsome fields is = refl
plain_call _ fields is = cc
