-- What comes after a sink takes no message that the sink may take.
use Rattle.std.proofs.Common.{◌≡◌, ◌⊎◌, ℕ, ◌==◌, ◌&&◌, ◌||◌, not, pos, negsuc, Bool, true, false, Option, Some, None, is_none, if◌then◌else◌, List, [], ◌∷◌, ◌++◌, length, take, refl, sym, ap, subst, ◌∙◌, inl, inr, ⊎_elim, eq-eqb, eqb-true}
use Rattle.std.specs.Prelude.{⊤, option_and_then, unwrap_or}
use Rattle.std.specs.List.{position}
use Rattle.std.specs.Option.{option_map_or}
use Rattle.std.specs.Str.{bytes_eq}
use Rattle.std.proofs.lemmas.Bool.{and_parts, cases_Bool, false≢true, or_parts}
use Rattle.std.proofs.lemmas.Option.{none-some, same_Some}
use Rattle.mpicall.specs.declared.limits.TheConstants.{MOST_REQUESTS}
use Rattle.mpicall.specs.declared.call.Call.{Call}
use Rattle.mpicall.specs.declared.call.Call.TheVariants.{Recv, Coll, Dup, Split, Finalize}
use Rattle.mpicall.specs.declared.call.Kind.{Kind}
use Rattle.mpicall.specs.declared.call.Kind.TheVariants as kind
use Rattle.mpicall.specs.declared.call.Mode.{Mode}
use Rattle.mpicall.specs.declared.call.Mode.TheVariants.{Standard}
use Rattle.mpicall.specs.Word.{or_else}
use Rattle.callstore.specs.declared.envelope.Half.TheVariants.{Recv as RecvHalf}
use Rattle.callstore.specs.declared.envelope.Message.{Message as Envelope}
use Rattle.callstore.specs.Envelopes.{message_of as message_in}
use Rattle.journals.specs.Known.{has_report}
use Rattle.journals.specs.declared.word.ReportWord.TheVariants as report
use Rattle.journals.specs.declared.field.Field.{Field}
use Rattle.journals.specs.declared.field.Field.TheVariants.{Natural, Signed, Null, Any, Undefined}
use Rattle.closing.specs.Called.{Called, Sent, Awaited, Sends, StartsSend, Receives, StartsReceive, Exchanges, StartsExchange, Probes, ProbesMatching, Collects, StartsCollective, Duplicates, StartsDuplicate, Splits, Makes, MakesOfGroup}
use Rattle.closing.specs.Keys.{Key, group_of_key}
use Rattle.closing.specs.Made.{key_made, wave_at}
use Rattle.closing.specs.Entries.{Run, Placed, is_window}
use Rattle.closing.specs.Numbers.{rank_in}
use Rattle.closing.specs.Reported.{Message, done_of, got_in, is_gone, unless_moved, known_field, message_from, message_of}
use Rattle.closing.specs.Steps.{Id, Own, Whole, ReceiveHalf, Written, Progress, Step, Does, Starts, WaitsForAll, WaitsForOne, PutsOff, WaitsForLate, number_in, numbers_of, least_free, waits_for, wait_for_one, wait_one, plain, after_step, after_steps}
use Rattle.closing.specs.Endings.{awaited_at, breaks_off, can_be, first_of, is_unknown, is_unreported, lacks_number, message_at, number_at, why_at}
use Rattle.closing.specs.Entry.{Choice, Here, peer as peer_in, tag as tag_in, send, start_send, receive, start_receive, exchange, probe, start_collective, kind_of, giving_line, bare_line, maker_by, parent_group, parent_rank, brings, split_key, does, does_both, starts, does_collective, starts_collective, unless_past, on_comm, on_none, is_past, here_at, steps_by, steps_of}
use Rattle.closing.specs.Recording.{Listed, is_end, steps_before, outcome_by, outcome_of, outcome_in, go_on, list_from}
use Rattle.closing.specs.Sinks.{Outcome, GoesOn, Ends, are_alike, overlap, number_of as number_in_field, wanted_by, is_nobody, takes_nothing, wanted_at, is_met, sink_in, takes_by, is_sound, by_call, outcome_by_sinks, unsure, request_received}
use Rattle.closing.specs.declared.choice.Unreported.TheVariants as unreported
use Rattle.closing.specs.declared.pending.Wanted.{Wanted}
use Rattle.closing.specs.declared.why.Why.{Why}
use Rattle.closing.specs.declared.why.Why.TheVariants.{NeverCameBack, NeverReported, Failed, NoNumber, CannotBe}
use Rattle.lawful.specs.SinkPlaces.{HasMessage, takes}
use Rattle.lawful.proofs.PassLemmas.{AreSteps, AllCalls, PassWaits, waits_pass, chosen_passes, steps_if, steps_append, steps_or, steps_unless}
use Rattle.lawful.proofs.NameLemmas.{none_names}
use Rattle.lawful.proofs.ActiveSends.{AllSteps}
use Rattle.lawful.proofs.NoSinks.{NoSinks, NotSink, before_not, steps_not}
use Rattle.lawful.proofs.SinkCases.{PassSinks, PassCalls, Given, by_lists, calls_pass, given_by_sinks}
use Rattle.lawful.proofs.SinkPairs.{Before, Behind, Pairs, Grown, grown_push, grown_plain}

-- ---- Calls of which a sink takes nothing ----

-- a sink that may take what is wanted may not take what the call receives or probes for
abbrev pub TakesOne : Option Wanted → Call → Type 0
TakesOne None call = ⊤
TakesOne (Some wanted) call = (m : Envelope) → HasMessage call m → takes wanted m ≡ false

abbrev pub Apart : Written → Call → Type 0
Apart one call = TakesOne (sink_in one.starts) call

-- the call neither receives nor probes
abbrev pub Silent : Call → Type 0
Silent call = (m : Envelope) → HasMessage call m → ⊥

pub none_either : (m : Envelope) → (◌≡◌ {A = Option Envelope} None (Some m)) ⊎ (◌≡◌ {A = Option Envelope} None (Some m)) → ⊥
none_either m h = ⊎_elim (λ (first : ◌≡◌ {A = Option Envelope} None (Some m)). none-some m first) (λ (second : ◌≡◌ {A = Option Envelope} None (Some m)). none-some m second) h

silent_one : (o : Option Wanted) (call : Call) → Silent call → TakesOne o call
silent_one None call silent = tt
silent_one (Some wanted) call silent = λ m h. absurd (silent m h)

pub silent_behind : (records : List Written) (call : Call) → Silent call → Behind Apart records call
silent_behind [] call silent = tt
silent_behind (one ∷ records) call silent = (silent_one (sink_in one.starts) call silent, silent_behind records call silent)

silent_waits : PassWaits Silent
silent_waits = record {
  wait = λ request m h. none_either m h;
  waitall = λ requests m h. none_either m h;
  waitany = λ place requests m h. none_either m h;
}

-- ---- Steps ----

-- a step's calls pass, and if it starts a sink, none that passes has a message that this takes
abbrev StepApart : (Call → Type 0) → Step → Type 0
StepApart P (Does call) = P call
StepApart P (Starts id call) = ((number : ℕ) → P (call number)) × ((other : Call) → P other → TakesOne (sink_in (Some id)) other)
StepApart P step = ⊤

waits_grown : (P : Call → Type 0) (records : List Written) (line : ℕ) (calls : List Call) → AllCalls P calls → Grown Apart P records → Grown Apart P (records ++ plain line calls)
waits_grown P records line calls all grown = grown_plain Apart P records line calls (λ one call. tt) all grown

one_grown : (P : Call → Type 0) (progress : Progress) (line : ℕ) (o : Option ℕ) (numbers : List ℕ) → PassWaits P → Grown Apart P progress.records → Grown Apart P (wait_one progress line o numbers).records
one_grown P progress line None numbers waits grown = grown
one_grown P progress line (Some number) numbers waits grown =
    waits_grown P progress.records line (wait_for_one number numbers ∷ [])
    (chosen_passes P number numbers (position (λ (other : ℕ). other == number) numbers) waits, tt) grown

step_grown : (P : Call → Type 0) (progress : Progress) (line : ℕ) (step : Step) → PassWaits P → StepApart P step → Grown Apart P progress.records → Grown Apart P (after_step progress line step).records
step_grown P progress line (Does call) waits is grown = waits_grown P progress.records line (call ∷ []) (is, tt) grown
step_grown P progress line (Starts id call) waits is grown =
    let number = least_free progress.active in
    grown_push Apart P progress.records (record { call = call number; line = line; starts = Some id }) (is.0 number) is.1 grown
step_grown P progress line (WaitsForAll ids) waits is grown =
    let numbers = numbers_of progress.active ids in
    waits_grown P progress.records line (waits_for (length numbers) numbers) (waits_pass P (length numbers) numbers waits) grown
step_grown P progress line (WaitsForOne id ids) waits is grown =
    one_grown P progress line (number_in progress.active id) (take MOST_REQUESTS (numbers_of progress.active ids)) waits grown
step_grown P progress line (PutsOff ids) waits is grown = grown
step_grown P progress line WaitsForLate waits is grown =
    let numbers = numbers_of progress.active progress.late in
    waits_grown P progress.records line (waits_for (length numbers) numbers) (waits_pass P (length numbers) numbers waits) grown

steps_grown : (P : Call → Type 0) (progress : Progress) (line : ℕ) (steps : List Step) → PassWaits P → AllSteps (StepApart P) steps → Grown Apart P progress.records → Grown Apart P (after_steps progress line steps).records
steps_grown P progress line [] waits all grown = grown
steps_grown P progress line (step ∷ steps) waits all grown =
    steps_grown P (after_step progress line step) line steps waits all.1 (step_grown P progress line step waits all.0 grown)

-- steps that neither receive nor probe
silent_steps : (steps : List Step) → AreSteps Silent steps → AllSteps (StepApart Silent) steps
silent_steps [] are = tt
silent_steps (Does call ∷ steps) are = (are.0, silent_steps steps are.1)
silent_steps (Starts id call ∷ steps) are = ((are.0, λ other silent. silent_one (sink_in (Some id)) other silent), silent_steps steps are.1)
silent_steps (WaitsForAll ids ∷ steps) are = (tt, silent_steps steps are.1)
silent_steps (WaitsForOne id ids ∷ steps) are = (tt, silent_steps steps are.1)
silent_steps (PutsOff ids ∷ steps) are = (tt, silent_steps steps are.1)
silent_steps (WaitsForLate ∷ steps) are = (tt, silent_steps steps are.1)

silent_pairs : (progress : Progress) (line : ℕ) (steps : List Step) → AreSteps Silent steps → Pairs Apart progress.records → Pairs Apart (after_steps progress line steps).records
silent_pairs progress line steps are pairs =
    (steps_grown Silent progress line steps silent_waits (silent_steps steps are)
    (record { pairs = pairs; behind = λ call silent. silent_behind progress.records call silent })).pairs

-- steps that start no sinks, and that receive nothing that the sinks so far take
not_one : (id : Id) (call : Call) → is_none (sink_in (Some id)) ≡ true → TakesOne (sink_in (Some id)) call
not_one id call none = by_sink (sink_in (Some id)) none
  where
    by_sink : (o : Option Wanted) → is_none o ≡ true → TakesOne o call
    by_sink None is = tt
    by_sink (Some wanted) is = absurd (false≢true is)

clean_steps : (P : Call → Type 0) (steps : List Step) → AllSteps NotSink steps → AreSteps P steps → AllSteps (StepApart P) steps
clean_steps P [] nots are = tt
clean_steps P (Does call ∷ steps) nots are = (are.0, clean_steps P steps nots.1 are.1)
clean_steps P (Starts id call ∷ steps) nots are = ((are.0, λ other passes. not_one id other nots.0), clean_steps P steps nots.1 are.1)
clean_steps P (WaitsForAll ids ∷ steps) nots are = (tt, clean_steps P steps nots.1 are.1)
clean_steps P (WaitsForOne id ids ∷ steps) nots are = (tt, clean_steps P steps nots.1 are.1)
clean_steps P (PutsOff ids ∷ steps) nots are = (tt, clean_steps P steps nots.1 are.1)
clean_steps P (WaitsForLate ∷ steps) nots are = (tt, clean_steps P steps nots.1 are.1)

waits_behind : (records : List Written) → PassWaits (Behind Apart records)
waits_behind records = record {
  wait = λ request. silent_behind records _ (silent_waits.wait request);
  waitall = λ requests. silent_behind records _ (silent_waits.waitall requests);
  waitany = λ place requests. silent_behind records _ (silent_waits.waitany place requests);
}

clean_pairs : (progress : Progress) (line : ℕ) (steps : List Step) → AllSteps NotSink steps → AreSteps (Behind Apart progress.records) steps → Pairs Apart progress.records → Pairs Apart (after_steps progress line steps).records
clean_pairs progress line steps nots are pairs =
    (steps_grown (Behind Apart progress.records) progress line steps (waits_behind progress.records)
    (clean_steps (Behind Apart progress.records) steps nots are) (record { pairs = pairs; behind = λ call behind. behind })).pairs

-- ---- What a call receives ----

-- what a message is on a communicator, if it is from a rank, and what sinks see of it
abbrev envelope : ℕ → ℕ → Field → Envelope
envelope comm source mark = record { comm = comm; peer = source; tag = tag_in mark }

abbrev told : ℕ → Message → Wanted
told comm it = record { comm = comm; source = number_in_field it.source; tag = number_in_field it.tag }

-- no sink may take the message, if it is from a rank
abbrev Clean : List Written → ℕ → Message → Type 0
Clean records comm it = (source : ℕ) → it.source ≡ Signed (pos source) → is_met records (told comm it) ≡ false

and_false : (a b : Bool) → a ≡ true → (a && b) ≡ false → b ≡ false
and_false true b is h = h
and_false false b is h = absurd (false≢true is)

turned : (a b : ℕ) → (a == b) ≡ true → (b == a) ≡ true
turned a b h = eq-eqb b a (sym (eqb-true a b h))

alike_source : (field : Field) (source : ℕ) (o : Option ℕ) → field ≡ Signed (pos source) → option_map_or (λ one. one == source) o true ≡ true → are_alike (number_in_field field) o ≡ true
alike_source field source None is h = ap (λ (f : Field). are_alike (number_in_field f) None) is
alike_source field source (Some one) is h = ap (λ (f : Field). are_alike (number_in_field f) (Some one)) is ∙ turned one source h

alike_tag : (mark : Field) (o : Option ℕ) → option_map_or (λ one. one == tag_in mark) o true ≡ true → are_alike (number_in_field mark) o ≡ true
alike_tag (Signed (pos number)) None h = refl
alike_tag (Signed (pos number)) (Some one) h = turned one number h
alike_tag (Signed (negsuc number)) o h = refl
alike_tag (Natural number) o h = refl
alike_tag Null o h = refl
alike_tag Any o h = refl
alike_tag Undefined o h = refl

-- what overlaps no sink isn't taken
not_taken : (sink : Wanted) (comm source : ℕ) (it : Message) → it.source ≡ Signed (pos source) → overlap (told comm it) sink ≡ false → takes sink (envelope comm source it.tag) ≡ false
not_taken sink comm source it is apart =
    elim (cases_Bool (takes sink (envelope comm source it.tag))) [
      | inl taken ↦
          let parts = and_parts (sink.comm == comm) (option_map_or (λ one. one == source) sink.source true && option_map_or (λ one. one == tag_in it.tag) sink.tag true) taken in
          let others = and_parts (option_map_or (λ one. one == source) sink.source true) (option_map_or (λ one. one == tag_in it.tag) sink.tag true) parts.1 in
          let rest = and_false (comm == sink.comm) (are_alike (number_in_field it.source) sink.source && are_alike (number_in_field it.tag) sink.tag) (turned sink.comm comm parts.0) apart in
          let tags = and_false (are_alike (number_in_field it.source) sink.source) (are_alike (number_in_field it.tag) sink.tag) (alike_source it.source source sink.source is others.0) rest in
          absurd (false≢true (sym tags ∙ alike_tag it.tag sink.tag others.1))
      | inr kept ↦ kept
    ]

-- what a call receives of such a source
record IsOf (comm : ℕ) (field mark : Field) (m : Envelope) : Type 0 where
  source : ℕ
  is_source : field ≡ Signed (pos source)
  same : m ≡ envelope comm source mark

is_of : (comm : ℕ) (field mark : Field) (m : Envelope) → message_in RecvHalf (Recv comm (peer_in field) (tag_in mark)) ≡ Some m → IsOf comm field mark m
is_of comm (Signed (pos source)) mark m h = record { source = source; is_source = refl; same = sym (same_Some (envelope comm source mark) m h) }
is_of comm (Signed (negsuc number)) mark m h = absurd (none-some m h)
is_of comm (Natural number) mark m h = absurd (none-some m h)
is_of comm Null mark m h = absurd (none-some m h)
is_of comm Any mark m h = absurd (none-some m h)
is_of comm Undefined mark m h = absurd (none-some m h)

-- a call that receives or probes for nothing but the message
abbrev Has : ℕ → Message → Call → Type 0
Has comm it call = (m : Envelope) → HasMessage call m → IsOf comm it.source it.tag m

receive_has : (comm : ℕ) (it : Message) → Has comm it (receive comm it)
receive_has comm it m h = ⊎_elim (λ first. is_of comm it.source it.tag m first) (λ second. absurd (none-some m second)) h

start_receive_has : (comm : ℕ) (it : Message) (number : ℕ) → Has comm it (start_receive comm it number)
start_receive_has comm it number m h = ⊎_elim (λ first. is_of comm it.source it.tag m first) (λ second. absurd (none-some m second)) h

exchange_has : (comm : ℕ) (sent : Sent) (it : Message) → Has comm it (exchange comm sent it)
exchange_has comm sent it m h = ⊎_elim (λ first. is_of comm it.source it.tag m first) (λ second. absurd (none-some m second)) h

probe_has : (comm : ℕ) (it : Message) → Has comm it (probe comm it)
probe_has comm it m h = ⊎_elim (λ first. absurd (none-some m first)) (λ second. is_of comm it.source it.tag m second) h

clean_behind : (records : List Written) (comm : ℕ) (it : Message) (call : Call) → Has comm it call → Clean records comm it → Behind Apart records call
clean_behind [] comm it call has clean = tt
clean_behind (one ∷ records) comm it call has clean = (
  by_sink (sink_in one.starts) (λ source is. (or_parts (option_map_or (overlap (told comm it)) (sink_in one.starts) false) (is_met records (told comm it)) (clean source is)).0),
  clean_behind records comm it call has
      (λ source is. (or_parts (option_map_or (overlap (told comm it)) (sink_in one.starts) false) (is_met records (told comm it)) (clean source is)).1),
)
  where
    by_sink : (o : Option Wanted) → ((source : ℕ) → it.source ≡ Signed (pos source) → option_map_or (overlap (told comm it)) o false ≡ false) → TakesOne o call
    by_sink None apart = tt
    by_sink (Some sink) apart = λ m h.
        let own = has m h in
        subst (λ (e : Envelope). takes sink e ≡ false) (sym own.same) (not_taken sink comm own.source it own.is_source (apart own.source own.is_source))

-- ---- What entries stand for ----

abbrev Known : List Written → Here → Type 0
Known records here = (it : Message) → here.message ≡ Some it → Clean records here.comm it

-- what an entry receives, if it does, no sink may take
abbrev CleanFor : List Written → Here → Called → Type 0
CleanFor records here (Receives awaited) = Known records here
CleanFor records here (StartsReceive request awaited) = is_gone here.lines request ≡ false → Known records here
CleanFor records here (Exchanges sent awaited) = Known records here
CleanFor records here (StartsExchange request received sent awaited) = is_gone here.lines received ≡ false → Known records here
CleanFor records here (Probes awaited) = Known records here
CleanFor records here (ProbesMatching message awaited) = Known records here
CleanFor records here it = ⊤

does_clean : (P : Call → Type 0) (here : Here) (call : Call) (start : ℕ → Call) → P call → ((number : ℕ) → P (start number)) → AreSteps P (does here call start)
does_clean P here call start is all = steps_if P here.is_past (Starts (Whole here.line) start ∷ []) (Does call ∷ []) (all, tt) (is, tt)

starts_clean : (P : Call → Type 0) (here : Here) (request : ℕ) (start : ℕ → Call) → (is_gone here.lines request ≡ false → (number : ℕ) → P (start number)) → AreSteps P (starts here request start)
starts_clean P here request start all = by_gone (is_gone here.lines request) all
  where
    by_gone : (gone : Bool) → (gone ≡ false → (number : ℕ) → P (start number)) → AreSteps P (if gone then [] else Starts (Own request) start ∷ [])
    by_gone true every = tt
    by_gone false every = (every refl, tt)

send_clean : (records : List Written) (mode : Mode) (comm : ℕ) (sent : Sent) → Behind Apart records (send mode comm sent)
send_clean records mode comm sent = silent_behind records (send mode comm sent) (λ m h. none_either m h)

start_send_clean : (records : List Written) (mode : Mode) (comm : ℕ) (sent : Sent) (number : ℕ) → Behind Apart records (start_send mode comm sent number)
start_send_clean records mode comm sent number = silent_behind records (start_send mode comm sent number) (λ m h. none_either m h)

coll_clean : (records : List Written) (comm : ℕ) (it : Kind) → Behind Apart records (Coll comm it)
coll_clean records comm it = silent_behind records (Coll comm it) (λ m h. none_either m h)

start_coll_clean : (records : List Written) (comm : ℕ) (it : Kind) (number : ℕ) → Behind Apart records (start_collective comm it number)
start_coll_clean records comm it number = silent_behind records (start_collective comm it number) (λ m h. none_either m h)

collects_clean : (records : List Written) (here : Here) (it : Kind) → AreSteps (Behind Apart records) (does_collective here it)
collects_clean records here it =
    does_clean (Behind Apart records) here (Coll here.comm it) (start_collective here.comm it) (coll_clean records here.comm it) (start_coll_clean records here.comm it)

starts_coll_clean : (records : List Written) (here : Here) (request : ℕ) (it : Kind) → AreSteps (Behind Apart records) (starts_collective here request it)
starts_coll_clean records here request it =
    starts_clean (Behind Apart records) here request (start_collective here.comm it) (λ stays. start_coll_clean records here.comm it)

both_clean : (records : List Written) (here : Here) (sent : Sent) (it : Message) → Clean records here.comm it → AreSteps (Behind Apart records) (does_both here sent it)
both_clean records here sent it clean =
    steps_if (Behind Apart records) here.is_past
    (Starts (Whole here.line) (start_send Standard here.comm sent) ∷ Starts (ReceiveHalf here.line) (start_receive here.comm it) ∷ [])
    (Does (exchange here.comm sent it) ∷ [])
    (start_send_clean records Standard here.comm sent, (λ number. clean_behind records here.comm it _ (start_receive_has here.comm it number) clean, tt))
    (clean_behind records here.comm it _ (exchange_has here.comm sent it) clean, tt)

probes_clean : (records : List Written) (here : Here) (it : Message) → Clean records here.comm it → AreSteps (Behind Apart records) (unless_past here.is_past (Does (probe here.comm it) ∷ []))
probes_clean records here it clean =
    steps_unless (Behind Apart records) here.is_past (Does (probe here.comm it) ∷ []) (clean_behind records here.comm it _ (probe_has here.comm it) clean, tt)

received_clean : (records : List Written) (here : Here) (request : ℕ) → (is_gone here.lines request ≡ false → Known records here) → AreSteps (Behind Apart records) (option_map_or (λ it. starts here request (start_receive here.comm it)) here.message [])
received_clean records here request clean =
    steps_or (Behind Apart records) here.message (λ it. starts here request (start_receive here.comm it))
    (λ it is. starts_clean (Behind Apart records) here request (start_receive here.comm it)
    (λ stays number. clean_behind records here.comm it _ (start_receive_has here.comm it number) (clean stays it is)))

on_comm_clean : (records : List Written) (here : Here) (it : Called) → Silent here.maker → CleanFor records here it → AreSteps (Behind Apart records) (on_comm here it)
on_comm_clean records here (Sends mode sent) maker clean =
    does_clean (Behind Apart records) here (send mode here.comm sent) (start_send mode here.comm sent) (send_clean records mode here.comm sent)
    (start_send_clean records mode here.comm sent)
on_comm_clean records here (StartsSend request mode sent) maker clean =
    starts_clean (Behind Apart records) here request (start_send mode here.comm sent) (λ stays. start_send_clean records mode here.comm sent)
on_comm_clean records here (Receives awaited) maker clean =
    steps_or (Behind Apart records) here.message (λ it. does here (receive here.comm it) (start_receive here.comm it))
    (λ it is. does_clean (Behind Apart records) here (receive here.comm it) (start_receive here.comm it)
    (clean_behind records here.comm it _ (receive_has here.comm it) (clean it is))
    (λ number. clean_behind records here.comm it _ (start_receive_has here.comm it number) (clean it is)))
on_comm_clean records here (StartsReceive request awaited) maker clean = received_clean records here request clean
on_comm_clean records here (Exchanges sent awaited) maker clean =
    steps_or (Behind Apart records) here.message (λ it. does_both here sent it) (λ it is. both_clean records here sent it (clean it is))
on_comm_clean records here (StartsExchange request received sent awaited) maker clean =
    steps_append (Behind Apart records) (starts here request (start_send Standard here.comm sent))
    (option_map_or (λ it. starts here received (start_receive here.comm it)) here.message [])
    (starts_clean (Behind Apart records) here request (start_send Standard here.comm sent) (λ stays. start_send_clean records Standard here.comm sent))
    (received_clean records here received clean)
on_comm_clean records here (Probes awaited) maker clean =
    steps_or (Behind Apart records) here.message (λ it. unless_past here.is_past (Does (probe here.comm it) ∷ []))
    (λ it is. probes_clean records here it (clean it is))
on_comm_clean records here (ProbesMatching own awaited) maker clean =
    steps_or (Behind Apart records) here.message
    (λ it. unless_past here.is_past (Does (probe here.comm it) ∷ []) ++ Starts (Own own) (start_receive here.comm it) ∷ [])
    (λ it is. steps_append (Behind Apart records) (unless_past here.is_past (Does (probe here.comm it) ∷ [])) (Starts (Own own) (start_receive here.comm it) ∷ [])
    (probes_clean records here it (clean it is))
    (λ number. clean_behind records here.comm it _ (start_receive_has here.comm it number) (clean it is), tt))
on_comm_clean records here (Collects collective own root) maker clean = collects_clean records here (kind_of collective root)
on_comm_clean records here (StartsCollective request collective own root) maker clean = starts_coll_clean records here request (kind_of collective root)
on_comm_clean records here (StartsDuplicate request own) maker clean = starts_coll_clean records here request kind.Barrier
on_comm_clean records here (MakesOfGroup members) maker clean = collects_clean records here kind.Barrier
on_comm_clean records here (Duplicates own) maker clean = (silent_behind records here.maker maker, tt)
on_comm_clean records here (Splits own colour key) maker clean = (silent_behind records here.maker maker, tt)
on_comm_clean records here (Makes own) maker clean = (silent_behind records here.maker maker, tt)
on_comm_clean records here _ maker clean = tt

silent_if : (b : Bool) (first other : Call) → Silent first → Silent other → Silent (if b then first else other)
silent_if true first other is_first is_other = is_first
silent_if false first other is_first is_other = is_other

giving_silent : (run : Run) (placed : Placed) (comm : ℕ) (it : Called) (key : Key) (new : ℕ) → Silent (giving_line run placed comm it key new)
giving_silent run placed comm (Splits own (Some colour) split) key new = λ m h. none_either m h
giving_silent run placed comm (Makes own) key new =
    silent_if (bytes_eq (group_of_key (length run) key) (parent_group run placed)) (Dup comm new)
    (Split comm (Some (parent_rank (parent_group run placed) (group_of_key (length run) key))) (rank_in run placed.rank key) (Some new))
    (λ m h. none_either m h) (λ m h. none_either m h)
giving_silent run placed comm _ key new = λ m h. none_either m h

bare_silent : (run : Run) (placed : Placed) (comm : ℕ) → Silent (bare_line run placed comm)
bare_silent run placed comm =
    silent_if (option_map_or (brings run) (wave_at placed) false) (Split comm None (split_key placed.called) None) (Coll comm kind.Barrier)
    (λ m h. none_either m h) (λ m h. none_either m h)

maker_silent : (run : Run) (placed : Placed) (comm : ℕ) (key : Option Key) (new : Option ℕ) → Silent (maker_by run placed comm key new)
maker_silent run placed comm (Some key) (Some new) = giving_silent run placed comm placed.called key new
maker_silent run placed comm None new = bare_silent run placed comm
maker_silent run placed comm (Some key) None = bare_silent run placed comm

by_clean : (records : List Written) (run : Run) (choice : Choice) (placed : Placed) (o : Option ℕ) → ((comm : ℕ) → o ≡ Some comm → CleanFor records (here_at run choice placed comm) placed.called) → AreSteps (Behind Apart records) (steps_by run choice placed o)
by_clean records run choice placed (Some comm) clean =
    on_comm_clean records (here_at run choice placed comm) placed.called (maker_silent run placed comm (key_made run placed) _) (clean comm refl)
by_clean records run choice placed None clean =
    steps_unless (Behind Apart records) (is_past choice.calls placed) (on_none choice placed placed.journal.lines placed.called)
    (none_names (Behind Apart records) choice placed placed.journal.lines placed.called)

-- ---- An entry that is no sink's ----

-- what comes of the entry by the sinks is that of its receive or probe, and there is none
abbrev IsPassed : Run → Choice → List Written → Placed → Type 0
IsPassed run choice records placed = option_and_then (takes_by choice records placed) (option_and_then (wanted_at placed) (number_at run placed)) ≡ None

nobody_not : (field : Field) (awaited : Awaited) (reported : Option Message) (it : Message) (source : ℕ) → message_from field awaited reported ≡ Some it → it.source ≡ Signed (pos source) → is_nobody field ≡ false
nobody_not Null awaited reported it source h is =
    absurd (null_not source (ap (λ (m : Message). m.source) (same_Some (record { source = Null; tag = known_field awaited.tag (Signed (pos 0)) }) it h) ∙ is))
  where
    null_not : (number : ℕ) → Null ≡ Signed (pos number) → ⊥
    null_not number e = cc
nobody_not (Natural number) awaited reported it source h is = refl
nobody_not (Signed number) awaited reported it source h is = refl
nobody_not Any awaited reported it source h is = refl
nobody_not Undefined awaited reported it source h is = refl

none_met : (choice : Choice) (records : List Written) (placed : Placed) (wanted : Wanted) → takes_by choice records placed wanted ≡ None → is_met records wanted ≡ false
none_met choice records placed wanted h = by_met (is_none (message_at placed)) (is_met records wanted) (unsure choice placed wanted placed.called) h
  where
    by_met : (a b : Bool) (outcome : Outcome) → (if a || b then Some outcome else None) ≡ None → b ≡ false
    by_met a false outcome e = refl
    by_met true true outcome e = absurd (none-some outcome (sym e))
    by_met false true outcome e = absurd (none-some outcome (sym e))

passed_clean : (run : Run) (choice : Choice) (records : List Written) (placed : Placed) (comm : ℕ) (one : Awaited × Option Message) (it : Message) → IsPassed run choice records placed → number_at run placed ≡ Some comm → awaited_at placed ≡ Some one → message_at placed ≡ Some it → option_map_or (is_gone placed.journal.lines) (request_received placed.called) false ≡ false → Clean records comm it
passed_clean run choice records placed comm one it passed number awaited message stays source is =
    none_met choice records placed (told comm it)
    (sym (ap (λ (o : Option Wanted). option_and_then (takes_by choice records placed) o) wanted)
    ∙ sym (ap (λ (o : Option ℕ). option_and_then (takes_by choice records placed) (option_and_then (wanted_at placed) o)) number) ∙ passed)
  where
    takes_some : takes_nothing placed one.0 ≡ false
    takes_some =
        let own : message_of one.0 one.1 ≡ Some it = sym (ap (λ (o : Option (Awaited × Option Message)). option_and_then (λ a. message_of a.0 a.1) o) awaited) ∙ message in
        rw (nobody_not one.0.source one.0 one.1 it source own is, message, is, stays) refl

    wanted : wanted_at placed comm ≡ Some (told comm it)
    wanted =
        ap (λ (o : Option (Awaited × Option Message)). option_and_then (λ a. if takes_nothing placed a.0 then None else Some (wanted_by comm a.0 (message_at placed))) o) awaited
        ∙ ap (λ (b : Bool). if b then None else Some (wanted_by comm one.0 (message_at placed))) takes_some
        ∙ ap (λ (o : Option Message). Some (wanted_by comm one.0 o)) message

clean_for : (run : Run) (choice : Choice) (records : List Written) (placed : Placed) (comm : ℕ) (it : Called) → placed.called ≡ it → by_call run choice records placed it ≡ None → number_at run placed ≡ Some comm → CleanFor records (here_at run choice placed comm) it
clean_for run choice records placed comm (Receives awaited) called passed number = λ it known.
    passed_clean run choice records placed comm (awaited, got_in placed.entry) it passed number (rw called refl) known (rw called refl)
clean_for run choice records placed comm (StartsReceive request awaited) called passed number = λ stays it known.
    passed_clean run choice records placed comm (unless_moved placed.journal.lines request awaited, done_of placed.journal.lines request) it passed number (rw called refl) known (rw called stays)
clean_for run choice records placed comm (Exchanges sent awaited) called passed number = λ it known.
    passed_clean run choice records placed comm (awaited, got_in placed.entry) it passed number (rw called refl) known (rw called refl)
clean_for run choice records placed comm (StartsExchange request received sent awaited) called passed number = λ stays it known.
    passed_clean run choice records placed comm (unless_moved placed.journal.lines received awaited, done_of placed.journal.lines received) it passed number (rw called refl) known (rw called stays)
clean_for run choice records placed comm (Probes awaited) called passed number = λ it known.
    passed_clean run choice records placed comm (awaited, got_in placed.entry) it passed number (rw called refl) known (rw called refl)
clean_for run choice records placed comm (ProbesMatching message awaited) called passed number = λ it known.
    passed_clean run choice records placed comm (awaited, got_in placed.entry) it passed number (rw called refl) known (rw called refl)
clean_for run choice records placed comm _ called passed number = tt

-- an entry at which the list goes on is sound
sound_if : (o : Option Why) (a b c d e : Bool) → or_else o (first_of ((a, Failed) ∷ (b, CannotBe) ∷ (c, NoNumber) ∷ (d, NeverReported) ∷ (e, NeverCameBack) ∷ [])) ≡ None → is_none (or_else o (first_of ((a, Failed) ∷ (b, CannotBe) ∷ (c, NoNumber) ∷ []))) ≡ true
sound_if (Some why) a b c d e h = absurd (none-some why (sym h))
sound_if None true b c d e h = absurd (none-some Failed (sym h))
sound_if None false true c d e h = absurd (none-some CannotBe (sym h))
sound_if None false false true d e h = absurd (none-some NoNumber (sym h))
sound_if None false false false d e h = refl

goes_clean : (run : Run) (choice : Choice) (records : List Written) (placed : Placed) → outcome_by_sinks run choice records placed ≡ None → why_at run placed ≡ None → AreSteps (Behind Apart records) (steps_of run choice placed)
goes_clean run choice records placed none why =
    let sound : is_sound run placed ≡ true =
    sound_if (breaks_off (is_window run) placed.called) (has_report report.Failed placed.entry) (not (can_be run placed)) (lacks_number run placed)
    (is_unreported placed placed.called) (is_unknown placed placed.called) why in
    let passed : by_call run choice records placed placed.called ≡ None =
    sym (ap (λ (b : Bool). if b then by_call run choice records placed placed.called else None) sound) ∙ none in
    by_clean records run choice placed (number_at run placed) (λ comm number. clean_for run choice records placed comm placed.called refl passed number)

-- the send of an exchange that was never reported
untold : (placed : Placed) (request received : ℕ) (sent : Sent) (awaited : Awaited) (o : Option Why) (a b c e : Bool) → or_else o (first_of ((a, Failed) ∷ (b, CannotBe) ∷ (c, NoNumber) ∷ (is_unreported placed (StartsExchange request received sent awaited), NeverReported) ∷ (e, NeverCameBack) ∷ [])) ≡ Some NeverReported → o ≡ None → is_none (message_at placed) ≡ true
untold placed request received sent awaited (Some why) a b c e h none = absurd (none-some why (sym none))
untold placed request received sent awaited None a b c e h none = by_tests a b c (is_none (message_at placed)) (is_gone placed.journal.lines received) h
  where
    failed_not : Some Failed ≡ Some NeverReported → ⊥
    failed_not same = cc

    cannot_not : Some CannotBe ≡ Some NeverReported → ⊥
    cannot_not same = cc

    number_not : Some NoNumber ≡ Some NeverReported → ⊥
    number_not same = cc

    back_not : Some NeverCameBack ≡ Some NeverReported → ⊥
    back_not same = cc

    by_tests : (x y z unknown gone : Bool) → first_of ((x, Failed) ∷ (y, CannotBe) ∷ (z, NoNumber) ∷ (unknown && not gone, NeverReported) ∷ (e, NeverCameBack) ∷ []) ≡ Some NeverReported → unknown ≡ true
    by_tests true y z unknown gone same = absurd (failed_not same)
    by_tests false true z unknown gone same = absurd (cannot_not same)
    by_tests false false true unknown gone same = absurd (number_not same)
    by_tests false false false true gone same = refl
    by_tests false false false false gone same = by_last e same
      where
        by_last : (last : Bool) → first_of ((last, NeverCameBack) ∷ []) ≡ Some NeverReported → false ≡ true
        by_last true it = absurd (back_not it)
        by_last false it = absurd (none-some NeverReported it)

before_clean : (run : Run) (choice : Choice) (records : List Written) (placed : Placed) (it : Called) (why : Why) → placed.called ≡ it → why_at run placed ≡ Some why → AreSteps (Behind Apart records) (steps_before run choice placed it why)
before_clean run choice records placed (StartsExchange request received sent awaited) NeverReported called is =
    let none = untold placed request received sent awaited None (has_report report.Failed placed.entry) (not (can_be run placed)) (lacks_number run placed)
    (is_unknown placed (StartsExchange request received sent awaited))
    (subst (λ (it : Called). or_else (breaks_off (is_window run) it) (first_of ((has_report report.Failed placed.entry, Failed) ∷ (not (can_be run placed), CannotBe)
    ∷ (lacks_number run placed, NoNumber) ∷ (is_unreported placed it, NeverReported) ∷ (is_unknown placed it, NeverCameBack) ∷ [])) ≡ Some NeverReported) called is) refl in
    by_clean records run choice placed (number_at run placed)
    (λ comm number. subst (λ (it : Called). CleanFor records (here_at run choice placed comm) it) (sym called) (λ stays it known. absurd (some_not (message_at placed) it none known)))
  where
    some_not : (o : Option Message) (it : Message) → is_none o ≡ true → o ≡ Some it → ⊥
    some_not None it e h = none-some it h
    some_not (Some m) it e h = false≢true e
before_clean run choice records placed _ _ called is = tt

-- ---- Lists ----

abbrev PairsOf : Progress → ℕ → (Progress → Listed) → Outcome → Type 0
PairsOf progress line others outcome = Pairs Apart (go_on progress line outcome others).records

abbrev RestApart : (Progress → Listed) → Type 0
RestApart others = (new : Progress) → Pairs Apart new.records → Pairs Apart (others new).records

none_apart : (run : Run) (choice : Choice) (placed : Placed) (progress : Progress) (others : Progress → Listed) → outcome_by_sinks run choice progress.records placed ≡ None → Pairs Apart progress.records → RestApart others → PairsOf progress placed.line others (outcome_of run choice placed)
none_apart run choice placed progress others none pairs rest = of_why (why_at run placed) refl
  where
    of_end : (b : Bool) → why_at run placed ≡ None → PairsOf progress placed.line others (if b then Ends (WaitsForLate ∷ []) Finalize None else GoesOn (steps_of run choice placed))
    of_end true is = silent_pairs progress placed.line (WaitsForLate ∷ []) (tt, tt) pairs
    of_end false is =
        rest (after_steps progress placed.line (steps_of run choice placed))
        (clean_pairs progress placed.line (steps_of run choice placed) (steps_not run choice placed) (goes_clean run choice progress.records placed none is) pairs)

    of_why : (o : Option Why) → why_at run placed ≡ o → PairsOf progress placed.line others (outcome_by run choice placed o)
    of_why (Some why) is =
        clean_pairs progress placed.line (steps_before run choice placed placed.called why) (before_not run choice placed placed.called why)
        (before_clean run choice progress.records placed placed.called why refl is) pairs
    of_why None is = of_end (is_end placed.called) is

silent_calls : (placed : Placed) (wanted : Wanted) → PassCalls Silent placed wanted
silent_calls placed wanted = record { sink = λ number m h. none_either m h; half = λ sent is number m h. none_either m h }

sinks_apart : (run : Run) (placed : Placed) (progress : Progress) (others : Progress → Listed) → Pairs Apart progress.records → RestApart others → PassSinks run placed (PairsOf progress placed.line others)
sinks_apart run placed progress others pairs rest =
    by_lists run placed (AreSteps Silent) (PairsOf progress placed.line others)
    (λ steps are awaits. rest (after_steps progress placed.line steps) (silent_pairs progress placed.line steps are pairs))
    (λ steps why are. silent_pairs progress placed.line steps are pairs)
    (calls_pass Silent run placed (λ wanted is. silent_calls placed wanted))

in_sinks : (run : Run) (choice : Choice) (records : List Written) (placed : Placed) → choice.unreported ≡ unreported.Sinks → outcome_in run choice records placed ≡ unwrap_or (outcome_by_sinks run choice records placed) (outcome_of run choice placed)
in_sinks run choice records placed is = rw is refl

entry_apart : (run : Run) (choice : Choice) (placed : Placed) (progress : Progress) (others : Progress → Listed) → choice.unreported ≡ unreported.Sinks → Pairs Apart progress.records → RestApart others → PairsOf progress placed.line others (outcome_in run choice progress.records placed)
entry_apart run choice placed progress others judged pairs rest =
    subst (PairsOf progress placed.line others) (sym (in_sinks run choice progress.records placed judged))
    (by_outcome (outcome_by_sinks run choice progress.records placed) refl
    (given_by_sinks run choice progress.records placed (PairsOf progress placed.line others) (sinks_apart run placed progress others pairs rest)))
  where
    by_outcome : (o : Option Outcome) → outcome_by_sinks run choice progress.records placed ≡ o → Given (PairsOf progress placed.line others) o → PairsOf progress placed.line others (unwrap_or o (outcome_of run choice placed))
    by_outcome None is given = none_apart run choice placed progress others is pairs rest
    by_outcome (Some outcome) is given = given

pub list_apart : (run : Run) (choice : Choice) (entries : List Placed) (progress : Progress) → choice.unreported ≡ unreported.Sinks → Pairs Apart progress.records → Pairs Apart (list_from run choice progress entries).records
list_apart run choice [] progress judged pairs = pairs
list_apart run choice (placed ∷ others) progress judged pairs =
    entry_apart run choice placed progress (λ new. list_from run choice new others) judged pairs (λ new all. list_apart run choice others new judged all)

-- records without sinks
none_before : (one : Written) (records : List Written) → is_none (sink_in one.starts) ≡ true → Before Apart one records
none_before one [] none = tt
none_before one (other ∷ records) none = (by_sink (sink_in one.starts) none, none_before one records none)
  where
    by_sink : (o : Option Wanted) → is_none o ≡ true → TakesOne o other.call
    by_sink None is = tt
    by_sink (Some wanted) is = absurd (false≢true is)

pub pairs_none : (records : List Written) → NoSinks records → Pairs Apart records
pairs_none [] none = tt
pairs_none (one ∷ records) none = (none_before one records none.0, pairs_none records none.1)
