-- Steps that start requests of new numbers: each record can be made, and no request that it starts is active.
use Rattle.std.proofs.Common.{◌≡◌, ℕ, ◌==◌, Bool, true, false, Option, Some, None, if◌then◌else◌, List, [], ◌∷◌, ◌++◌, refl, sym, subst, inl, inr}
use Rattle.std.specs.Option.{option_map_or}
use Rattle.std.proofs.lemmas.Bool.{cases_Bool}
use Rattle.std.proofs.lemmas.Option.{none-some}
use Rattle.mpicall.specs.declared.call.Call.{Call}
use Rattle.mpicall.specs.declared.call.Mode.TheVariants.{Standard}
use Rattle.mpicall.specs.declared.call.Kind.TheVariants as kind
use Rattle.closing.specs.Called.{Called, Sent, Awaited, Sends, StartsSend, Receives, StartsReceive, Exchanges, StartsExchange, Probes, ProbesMatching, Collects, StartsCollective, Duplicates, StartsDuplicate, Splits, Makes, MakesOfGroup}
use Rattle.closing.specs.Entries.{Run, Placed}
use Rattle.closing.specs.Reported.{Message, is_gone}
use Rattle.closing.specs.Steps.{Id, Own, Whole, ReceiveHalf, Sink, Written, Progress, Step, Does, Starts, WaitsForAll, WaitsForOne, PutsOff, WaitsForLate, same_id, number_in, without, without_all, numbers_of, wait_one, after_step, after_steps}
use Rattle.closing.specs.Endings.{number_at, why_at}
use Rattle.closing.specs.Entry.{Choice, Here, send, start_send, receive, start_receive, exchange, probe, start_collective, kind_of, is_past, here_at, does, does_both, starts, knowing, unless_past, on_comm, on_none, steps_by, steps_of}
use Rattle.closing.specs.Recording.{is_end, steps_before, outcome_by, outcome_in}
use Rattle.closing.specs.Sinks.{Outcome, GoesOn, sinks, starts_half}
use Rattle.closing.specs.declared.pending.Wanted.{Wanted}
use Rattle.closing.specs.declared.why.Why.{Why}
use Rattle.closing.specs.declared.why.Why.TheVariants.{NeverReported}
use Rattle.lawful.proofs.StepLemmas.{AreSaid}
use Rattle.lawful.proofs.PassLemmas.{AreSteps}
use Rattle.lawful.proofs.RangeLemmas.{Ranged}
use Rattle.lawful.proofs.NameLemmas.{none_names}
use Rattle.lawful.proofs.NewNumbers.{IsNew, StartsNew}
use Rattle.lawful.proofs.SinkCases.{PassLists, by_lists, in_passes, started_halves}
use Rattle.closing.specs.Fit.{AllFit, steps_in}

-- ---- Steps whose own requests are new ----

-- the free numbers but this
abbrev pub But : ℕ → (ℕ → Type 0) → ℕ → Type 0
But request Free number = Free number × ((request == number) ≡ false)

-- each own request that a step starts has a number that is free so far; what is left is free after all of them
abbrev pub NewSteps : (ℕ → Type 0) → (ℕ → Type 0) → List Step → Type 0
NewSteps Free Left [] = (number : ℕ) → Left number → Free number
NewSteps Free Left (Starts (Own request) call ∷ steps) = Free request × NewSteps (But request Free) Left steps
NewSteps Free Left (step ∷ steps) = NewSteps Free Left steps

-- no own request of a free number is active
abbrev pub NoneActive : (ℕ → Type 0) → List (Id × ℕ) → Type 0
NoneActive Free active = (number : ℕ) → Free number → number_in active (Own number) ≡ None

without_none : (number : ℕ) (active : List (Id × ℕ)) (id : Id) → number_in active id ≡ None → number_in (without number active) id ≡ None
without_none number [] id h = refl
without_none number (first ∷ active) id h =
    elim (cases_Bool (same_id first.0 id)) [
      | inl same ↦ absurd (none-some first.1 (sym (rw same at h)))
      | inr differs ↦
          let rest = without_none number active id (rw differs at h) in
          elim (cases_Bool (first.1 == number)) [
            | inl goes ↦ rw goes rest
            | inr stays ↦ rw (stays, differs) rest
          ]
    ]

without_all_none : (numbers : List ℕ) (active : List (Id × ℕ)) (id : Id) → number_in active id ≡ None → number_in (without_all numbers active) id ≡ None
without_all_none [] active id h = h
without_all_none (number ∷ numbers) active id h = without_all_none numbers (without number active) id (without_none number active id h)

one_none : (Free : ℕ → Type 0) (progress : Progress) (line : ℕ) (o : Option ℕ) (numbers : List ℕ) → NoneActive Free progress.active → NoneActive Free (wait_one progress line o numbers).active
one_none Free progress line None numbers none = none
one_none Free progress line (Some number) numbers none = λ one free. without_all_none (number ∷ []) progress.active (Own one) (none one free)

start_none : (Free : ℕ → Type 0) (request taken : ℕ) (active : List (Id × ℕ)) → NoneActive Free active → NoneActive (But request Free) ((Own request, taken) ∷ active)
start_none Free request taken active none number free = rw free.1 (none number free.0)

pub steps_fit : (Free Left : ℕ → Type 0) (progress : Progress) (line : ℕ) (steps : List Step) → AreSaid steps → AreSteps Ranged steps → NewSteps Free Left steps → NoneActive Free progress.active → AllFit progress line steps × NoneActive Left (after_steps progress line steps).active
steps_fit Free Left progress line [] said are new none = (tt, λ number left. none number (new number left))
steps_fit Free Left progress line (Does call ∷ steps) said are new none =
    let rest = steps_fit Free Left (after_step progress line (Does call)) line steps said.1 are.1 new none in
    ((are.0 (rw said.0.starts_none refl), rest.0), rest.1)
steps_fit Free Left progress line (Starts (Own request) call ∷ steps) said are new none =
    let rest = steps_fit (But request Free) Left (after_step progress line (Starts (Own request) call)) line steps said.1 are.1 new.1 (start_none Free request _ progress.active none) in
    (((are.0 0 (rw (said.0 0).starts_it refl), none request new.0), rest.0), rest.1)
steps_fit Free Left progress line (Starts (Whole own) call ∷ steps) said are new none =
    let rest = steps_fit Free Left (after_step progress line (Starts (Whole own) call)) line steps said.1 are.1 new none in
    ((are.0 0 (rw (said.0 0).starts_it refl), rest.0), rest.1)
steps_fit Free Left progress line (Starts (ReceiveHalf own) call ∷ steps) said are new none =
    let rest = steps_fit Free Left (after_step progress line (Starts (ReceiveHalf own) call)) line steps said.1 are.1 new none in
    ((are.0 0 (rw (said.0 0).starts_it refl), rest.0), rest.1)
steps_fit Free Left progress line (Starts (Sink own wanted is_known) call ∷ steps) said are new none =
    let rest = steps_fit Free Left (after_step progress line (Starts (Sink own wanted is_known) call)) line steps said.1 are.1 new none in
    ((are.0 0 (rw (said.0 0).starts_it refl), rest.0), rest.1)
steps_fit Free Left progress line (WaitsForAll ids ∷ steps) said are new none =
    let rest = steps_fit Free Left (after_step progress line (WaitsForAll ids)) line steps said.1 are.1 new
    (λ number free. without_all_none (numbers_of progress.active ids) progress.active (Own number) (none number free)) in
    ((tt, rest.0), rest.1)
steps_fit Free Left progress line (WaitsForOne id ids ∷ steps) said are new none =
    let rest = steps_fit Free Left (after_step progress line (WaitsForOne id ids)) line steps said.1 are.1 new
    (one_none Free progress line (number_in progress.active id) _ none) in
    ((tt, rest.0), rest.1)
steps_fit Free Left progress line (PutsOff ids ∷ steps) said are new none =
    let rest = steps_fit Free Left (after_step progress line (PutsOff ids)) line steps said.1 are.1 new none in
    ((tt, rest.0), rest.1)
steps_fit Free Left progress line (WaitsForLate ∷ steps) said are new none =
    let rest = steps_fit Free Left (after_step progress line WaitsForLate) line steps said.1 are.1 new
    (λ number free. without_all_none (numbers_of progress.active progress.late) progress.active (Own number) (none number free)) in
    ((tt, rest.0), rest.1)

-- ---- Lists of such steps ----

-- what is left is free
abbrev pub StaysFree : (ℕ → Type 0) → (ℕ → Type 0) → Type 0
StaysFree Free Left = (number : ℕ) → Left number → Free number

new_more : (Free More Left : ℕ → Type 0) (steps : List Step) → StaysFree More Free → NewSteps Free Left steps → NewSteps More Left steps
new_more Free More Left [] le new = λ number left. le number (new number left)
new_more Free More Left (Starts (Own request) call ∷ steps) le new =
    (le request new.0, new_more (But request Free) (But request More) Left steps (λ number but. (le number but.0, but.1)) new.1)
new_more Free More Left (Starts (Whole line) call ∷ steps) le new = new_more Free More Left steps le new
new_more Free More Left (Starts (ReceiveHalf line) call ∷ steps) le new = new_more Free More Left steps le new
new_more Free More Left (Starts (Sink own wanted is_known) call ∷ steps) le new = new_more Free More Left steps le new
new_more Free More Left (Does call ∷ steps) le new = new_more Free More Left steps le new
new_more Free More Left (WaitsForAll ids ∷ steps) le new = new_more Free More Left steps le new
new_more Free More Left (WaitsForOne id ids ∷ steps) le new = new_more Free More Left steps le new
new_more Free More Left (PutsOff ids ∷ steps) le new = new_more Free More Left steps le new
new_more Free More Left (WaitsForLate ∷ steps) le new = new_more Free More Left steps le new

new_append : (Free Mid Left : ℕ → Type 0) (xs ys : List Step) → NewSteps Free Mid xs → NewSteps Mid Left ys → NewSteps Free Left (xs ++ ys)
new_append Free Mid Left [] ys first others = new_more Mid Free Left ys first others
new_append Free Mid Left (Starts (Own request) call ∷ xs) ys first others = (first.0, new_append (But request Free) Mid Left xs ys first.1 others)
new_append Free Mid Left (Starts (Whole line) call ∷ xs) ys first others = new_append Free Mid Left xs ys first others
new_append Free Mid Left (Starts (ReceiveHalf line) call ∷ xs) ys first others = new_append Free Mid Left xs ys first others
new_append Free Mid Left (Starts (Sink own wanted is_known) call ∷ xs) ys first others = new_append Free Mid Left xs ys first others
new_append Free Mid Left (Does call ∷ xs) ys first others = new_append Free Mid Left xs ys first others
new_append Free Mid Left (WaitsForAll ids ∷ xs) ys first others = new_append Free Mid Left xs ys first others
new_append Free Mid Left (WaitsForOne id ids ∷ xs) ys first others = new_append Free Mid Left xs ys first others
new_append Free Mid Left (PutsOff ids ∷ xs) ys first others = new_append Free Mid Left xs ys first others
new_append Free Mid Left (WaitsForLate ∷ xs) ys first others = new_append Free Mid Left xs ys first others

-- waits alone
new_waits : (Free Left : ℕ → Type 0) (steps : List Step) → AreSteps (λ (call : Call). ⊥) steps → StaysFree Free Left → NewSteps Free Left steps
new_waits Free Left [] are le = le
new_waits Free Left (Does call ∷ steps) are le = absurd are.0
new_waits Free Left (Starts id call ∷ steps) are le = absurd (are.0 0)
new_waits Free Left (WaitsForAll ids ∷ steps) are le = new_waits Free Left steps are.1 le
new_waits Free Left (WaitsForOne id ids ∷ steps) are le = new_waits Free Left steps are.1 le
new_waits Free Left (PutsOff ids ∷ steps) are le = new_waits Free Left steps are.1 le
new_waits Free Left (WaitsForLate ∷ steps) are le = new_waits Free Left steps are.1 le

new_if : (Free Left : ℕ → Type 0) (b : Bool) (xs ys : List Step) → NewSteps Free Left xs → NewSteps Free Left ys → NewSteps Free Left (if b then xs else ys)
new_if Free Left true xs ys first others = first
new_if Free Left false xs ys first others = others

new_or : (Free Left : ℕ → Type 0) (o : Option Message) (steps : Message → List Step) → StaysFree Free Left → ((it : Message) → NewSteps Free Left (steps it)) → NewSteps Free Left (option_map_or steps o [])
new_or Free Left None steps le all = le
new_or Free Left (Some it) steps le all = all it

new_unless : (Free Left : ℕ → Type 0) (past : Bool) (steps : List Step) → StaysFree Free Left → NewSteps Free Left steps → NewSteps Free Left (unless_past past steps)
new_unless Free Left true steps le new = le
new_unless Free Left false steps le new = new

-- ---- What a call stands for ----

does_new : (Free Left : ℕ → Type 0) (here : Here) (call : Call) (start : ℕ → Call) → StaysFree Free Left → NewSteps Free Left (does here call start)
does_new Free Left here call start le = new_if Free Left here.is_past (Starts (Whole here.line) start ∷ []) (Does call ∷ []) le le

both_new : (Free Left : ℕ → Type 0) (here : Here) (sent : Sent) (it : Message) → StaysFree Free Left → NewSteps Free Left (does_both here sent it)
both_new Free Left here sent it le =
    new_if Free Left here.is_past
    (Starts (Whole here.line) (start_send Standard here.comm sent) ∷ Starts (ReceiveHalf here.line) (start_receive here.comm it) ∷ [])
    (Does (exchange here.comm sent it) ∷ []) le le

starts_new : (Free Left : ℕ → Type 0) (here : Here) (request : ℕ) (start : ℕ → Call) → StaysFree Free Left → IsNew Free Left request → NewSteps Free Left (starts here request start)
starts_new Free Left here request start le new =
    new_if Free Left (is_gone here.lines request) [] (Starts (Own request) start ∷ []) le (new.free, λ number left. (le number left, new.apart number left))

exchange_new : (Free Left : ℕ → Type 0) (here : Here) (request received : ℕ) (sent : Sent) → StaysFree Free Left → IsNew Free Left request → IsNew Free Left received → (request == received) ≡ false → NewSteps Free Left (starts here request (start_send Standard here.comm sent) ++ knowing here (λ it. starts here received (start_receive here.comm it)))
exchange_new Free Left here request received sent le new other apart =
    new_append Free (But request Free) Left (starts here request (start_send Standard here.comm sent)) (knowing here (λ it. starts here received (start_receive here.comm it)))
    (starts_new Free (But request Free) here request (start_send Standard here.comm sent) (λ number but. but.0) (record { free = new.free; apart = λ number but. but.1 }))
    (new_or (But request Free) Left here.message (λ it. starts here received (start_receive here.comm it)) (λ number left. (le number left, new.apart number left))
    (λ it. starts_new (But request Free) Left here received (start_receive here.comm it) (λ number left. (le number left, new.apart number left))
    (record { free = (other.free, apart); apart = other.apart })))

matching_new : (Free Left : ℕ → Type 0) (here : Here) (message : ℕ) (it : Message) → StaysFree Free Left → IsNew Free Left message → NewSteps Free Left (unless_past here.is_past (Does (probe here.comm it) ∷ []) ++ Starts (Own message) (start_receive here.comm it) ∷ [])
matching_new Free Left here message it le new =
    new_append Free Free Left (unless_past here.is_past (Does (probe here.comm it) ∷ [])) (Starts (Own message) (start_receive here.comm it) ∷ [])
    (new_unless Free Free here.is_past (Does (probe here.comm it) ∷ []) (λ number free. free) (λ number free. free))
    (new.free, λ number left. (le number left, new.apart number left))

on_comm_new : (Free Left : ℕ → Type 0) (here : Here) (it : Called) → StaysFree Free Left → StartsNew (IsNew Free Left) it → NewSteps Free Left (on_comm here it)
on_comm_new Free Left here (Sends mode sent) le new = does_new Free Left here (send mode here.comm sent) (start_send mode here.comm sent) le
on_comm_new Free Left here (StartsSend request mode sent) le new = starts_new Free Left here request (start_send mode here.comm sent) le new
on_comm_new Free Left here (Receives awaited) le new =
    new_or Free Left here.message (λ it. does here (receive here.comm it) (start_receive here.comm it)) le
    (λ it. does_new Free Left here (receive here.comm it) (start_receive here.comm it) le)
on_comm_new Free Left here (StartsReceive request awaited) le new =
    new_or Free Left here.message (λ it. starts here request (start_receive here.comm it)) le
    (λ it. starts_new Free Left here request (start_receive here.comm it) le new)
on_comm_new Free Left here (Exchanges sent awaited) le new =
    new_or Free Left here.message (λ it. does_both here sent it) le (λ it. both_new Free Left here sent it le)
on_comm_new Free Left here (StartsExchange request received sent awaited) le new = exchange_new Free Left here request received sent le new.0 new.1 new.2
on_comm_new Free Left here (Probes awaited) le new =
    new_or Free Left here.message (λ it. unless_past here.is_past (Does (probe here.comm it) ∷ [])) le
    (λ it. new_unless Free Left here.is_past (Does (probe here.comm it) ∷ []) le le)
on_comm_new Free Left here (ProbesMatching message awaited) le new =
    new_or Free Left here.message
    (λ it. unless_past here.is_past (Does (probe here.comm it) ∷ []) ++ Starts (Own message) (start_receive here.comm it) ∷ []) le
    (λ it. matching_new Free Left here message it le new)
on_comm_new Free Left here (Collects collective own root) le new =
    does_new Free Left here _ (start_collective here.comm (kind_of collective root)) le
on_comm_new Free Left here (StartsCollective request collective own root) le new =
    starts_new Free Left here request (start_collective here.comm (kind_of collective root)) le new
on_comm_new Free Left here (StartsDuplicate request own) le new = starts_new Free Left here request (start_collective here.comm kind.Barrier) le new
on_comm_new Free Left here (MakesOfGroup group) le new = does_new Free Left here _ (start_collective here.comm kind.Barrier) le
on_comm_new Free Left here (Duplicates own) le new = le
on_comm_new Free Left here (Splits own colour key) le new = le
on_comm_new Free Left here (Makes own) le new = le
on_comm_new Free Left here _ le new = le

-- ---- Entries ----

by_new : (Free Left : ℕ → Type 0) (run : Run) (choice : Choice) (placed : Placed) (o : Option ℕ) → StaysFree Free Left → StartsNew (IsNew Free Left) placed.called → NewSteps Free Left (steps_by run choice placed o)
by_new Free Left run choice placed None le new =
    new_unless Free Left (is_past choice.calls placed) (on_none choice placed placed.journal.lines placed.called) le
    (new_waits Free Left (on_none choice placed placed.journal.lines placed.called)
    (none_names (λ (call : Call). ⊥) choice placed placed.journal.lines placed.called) le)
by_new Free Left run choice placed (Some comm) le new = on_comm_new Free Left (here_at run choice placed comm) placed.called le new

steps_new : (Free Left : ℕ → Type 0) (run : Run) (choice : Choice) (placed : Placed) → StaysFree Free Left → StartsNew (IsNew Free Left) placed.called → NewSteps Free Left (steps_of run choice placed)
steps_new Free Left run choice placed le new = by_new Free Left run choice placed (number_at run placed) le new

before_new : (Free Left : ℕ → Type 0) (run : Run) (choice : Choice) (placed : Placed) (it : Called) (why : Why) → StaysFree Free Left → NewSteps Free Left (steps_of run choice placed) → NewSteps Free Left (steps_before run choice placed it why)
before_new Free Left run choice placed (StartsExchange request received sent awaited) NeverReported le new = new
before_new Free Left run choice placed _ _ le new = le

end_new : (Free Left : ℕ → Type 0) (b : Bool) (ends goes : Outcome) → NewSteps Free Left (steps_in ends) → NewSteps Free Left (steps_in goes) → NewSteps Free Left (steps_in (if b then ends else goes))
end_new Free Left true ends goes first others = first
end_new Free Left false ends goes first others = others

outcome_new : (Free Left : ℕ → Type 0) (run : Run) (choice : Choice) (placed : Placed) (o : Option Why) → StaysFree Free Left → StartsNew (IsNew Free Left) placed.called → NewSteps Free Left (steps_in (outcome_by run choice placed o))
outcome_new Free Left run choice placed (Some why) le new =
    before_new Free Left run choice placed placed.called why le (steps_new Free Left run choice placed le new)
outcome_new Free Left run choice placed None le new =
    end_new Free Left (is_end placed.called) _ (GoesOn (steps_of run choice placed)) le (steps_new Free Left run choice placed le new)

-- ---- Sinks ----

halves_new : (Free Left : ℕ → Type 0) (placed : Placed) (wanted : Wanted) (request received : ℕ) (sent : Sent) → StaysFree Free Left → IsNew Free Left request → NewSteps Free Left (started_halves placed wanted request received sent)
halves_new Free Left placed wanted request received sent le new =
    new_append Free Left Left (if is_gone placed.journal.lines request then [] else starts_half wanted (Own request) sent ∷ []) (sinks placed wanted (Some received) ∷ [])
    (new_if Free Left (is_gone placed.journal.lines request) [] (starts_half wanted (Own request) sent ∷ []) le
    (new.free, λ number left. (le number left, new.apart number left)))
    (λ number left. left)

first_new : (Free Left : ℕ → Type 0) (it : Called) (request received : ℕ) (sent : Sent) (awaited : Awaited) → it ≡ StartsExchange request received sent awaited → StartsNew (IsNew Free Left) it → IsNew Free Left request
first_new Free Left it request received sent awaited is new = (subst (λ (one : Called). StartsNew (IsNew Free Left) one) is new).0

sinks_new : (Free Left : ℕ → Type 0) (run : Run) (placed : Placed) → StaysFree Free Left → StartsNew (IsNew Free Left) placed.called → PassLists run placed (NewSteps Free Left)
sinks_new Free Left run placed le new = record {
  nothing = le;
  alone = λ wanted is own. le;
  both = λ wanted is sent awaited called. le;
  halves = λ wanted is request received sent awaited called.
      halves_new Free Left placed wanted request received sent le (first_new Free Left placed.called request received sent awaited called new);
}

pub outcome_in_new : (Free Left : ℕ → Type 0) (run : Run) (choice : Choice) (records : List Written) (placed : Placed) → StaysFree Free Left → StartsNew (IsNew Free Left) placed.called → NewSteps Free Left (steps_in (outcome_in run choice records placed))
outcome_in_new Free Left run choice records placed le new =
    in_passes run choice records placed (λ (outcome : Outcome). NewSteps Free Left (steps_in outcome)) (outcome_new Free Left run choice placed (why_at run placed) le new)
    (by_lists run placed (NewSteps Free Left) (λ (outcome : Outcome). NewSteps Free Left (steps_in outcome)) (λ steps are awaits. are) (λ steps why are. are)
    (sinks_new Free Left run placed le new))
