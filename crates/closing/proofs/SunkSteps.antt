-- Steps that put a sink last, one after the other.
use Rattle.std.proofs.Common.{◌≡◌, refl, sym, ◌∙◌, ap, subst, ℕ, ◌-◌, Bool, true, false, Option, Result, Ok, Err, List, [], ◌∷◌, ◌++◌, take, append_assoc}
use Rattle.mpicall.specs.declared.call.Call.{Call}
use Rattle.closing.specs.Pending.{PendingCall, sinks_from}
use Rattle.closing.specs.Steps.{Id, Sink, Written, Progress, Step, Starts, after_step}
use Rattle.closing.specs.inner.Lists.{ComesTo, Handed, IsCut, Stands}
use Rattle.closing.specs.inner.Sunk.{IsCutBefore, PendsAfter, PutsSink, PutsSteps, null_receive, sink_step, why_of_sink}
use Rattle.closing.specs.inner.Taken.{IsKept}
use Rattle.closing.specs.declared.list.List.{List as ListCode}
use Rattle.closing.specs.declared.list.TheConstants.{MOST_RECORDS}
use Rattle.closing.specs.declared.pending.Sinks.{Sinks}
use Rattle.closing.specs.declared.pending.Wanted.{Wanted}
use Rattle.closing.specs.declared.stop.Stop.{Stop}
use Rattle.closing.specs.declared.stop.Stop.TheVariants.{Left, Memory}
use Rattle.closing.specs.declared.walk.Walk.{Walk}
use Rattle.closing.specs.declared.why.Why.TheVariants.{NeverCameBack, NeverReported, Failed, NoNumber, TooLong, CannotBe, Stopped, Aborted, Full, Cut, NoJournal, NotJudged}
use Rattle.closing.proofs.StepsLemmas.{cut_on}
use Rattle.closing.proofs.SunkLemmas.{IsPlain, cut_same, full_before, kept_before, left_put, sinks_plain}

-- ---- A sink ----

-- the list is too long for it
pub sink_cut : (A B : Type 0) (stop : Stop) (handed : Handed) (progress : Progress) (line : ℕ) (own : Option ℕ) (wanted : Wanted) (is_known : Bool) (old : Sinks) (new : Walk)
    → new.sinks ≡ old → ComesTo {A = A} (Err stop) handed (after_step progress line (sink_step own wanted is_known)) line new.list
    → PutsSink {A = B} (Err stop) handed progress line own wanted is_known old new
sink_cut A B (Left TooLong) handed progress line own wanted is_known old new e cut = (cut, e)
sink_cut A B Memory handed progress line own wanted is_known old new e cut = tt
sink_cut A B (Left NeverCameBack) handed progress line own wanted is_known old new e cut = cut
sink_cut A B (Left NeverReported) handed progress line own wanted is_known old new e cut = cut
sink_cut A B (Left Failed) handed progress line own wanted is_known old new e cut = cut
sink_cut A B (Left NoNumber) handed progress line own wanted is_known old new e cut = cut
sink_cut A B (Left CannotBe) handed progress line own wanted is_known old new e cut = cut
sink_cut A B (Left Stopped) handed progress line own wanted is_known old new e cut = cut
sink_cut A B (Left Aborted) handed progress line own wanted is_known old new e cut = cut
sink_cut A B (Left Full) handed progress line own wanted is_known old new e cut = cut
sink_cut A B (Left Cut) handed progress line own wanted is_known old new e cut = cut
sink_cut A B (Left NotJudged) handed progress line own wanted is_known old new e cut = cut
sink_cut A B (Left NoJournal) handed progress line own wanted is_known old new e cut = cut

pub sink_cut_by : {A B : Type 0} (r : Result A Stop) (stop : Stop) (result : Result B Stop) (handed : Handed) (progress : Progress) (line : ℕ) (own : Option ℕ) (wanted : Wanted) (is_known : Bool) (old : Sinks) (new : Walk)
    → r ≡ Err stop → result ≡ Err stop → new.sinks ≡ old → ComesTo r handed (after_step progress line (sink_step own wanted is_known)) line new.list
    → PutsSink result handed progress line own wanted is_known old new
sink_cut_by {A} {B} r stop result handed progress line own wanted is_known old new er e same cut =
    subst (λ v. PutsSink {A = B} v handed progress line own wanted is_known old new) (sym e)
    (sink_cut A B stop handed progress line own wanted is_known old new same
    (subst (λ v. ComesTo {A = A} v handed (after_step progress line (sink_step own wanted is_known)) line new.list) er cut))

pub no_memory_sink : {B : Type 0} (result : Result B Stop) (handed : Handed) (progress : Progress) (line : ℕ) (own : Option ℕ) (wanted : Wanted) (is_known : Bool) (old : Sinks) (new : Walk)
    → result ≡ Err Memory → PutsSink result handed progress line own wanted is_known old new
no_memory_sink {B} result handed progress line own wanted is_known old new e =
    subst (λ v. PutsSink {A = B} v handed progress line own wanted is_known old new) (sym e) tt

-- ---- A sink with its entry left ----

-- nothing but its list is changed
pub kept_list : (records : List Written) (old new : Walk) (list : ListCode) → new ≡ record old { list = list } → IsKept records old → IsKept records new
kept_list records old new list e kept =
    subst (λ w. IsKept records w) (sym e) (record { sinks = kept.sinks; pending = kept.pending; left_out = kept.left_out })

pub sink_left : (handed : Handed) (progress : Progress) (line : ℕ) (own : Option ℕ) (wanted : Wanted) (is_known : Bool) (old mid new : Walk)
    → IsKept progress.records old → old.line ≡ line → mid ≡ record old { list = mid.list; sinks = mid.sinks } → new ≡ record mid { left_out = new.left_out }
    → new.left_out.items ≡ mid.left_out.items ++ record { line = mid.line; why = why_of_sink is_known } ∷ []
    → PutsSink {A = Unit {0}} (Ok tt) handed progress line own wanted is_known old.sinks mid
    → PutsSteps line (sink_step own wanted is_known ∷ []) (Ok true) handed progress new
sink_left handed progress line own wanted is_known old mid new kept at same_mid same_new left put =
    let same : new ≡ record old { list = mid.list; sinks = mid.sinks; left_out = new.left_out } =
    same_new ∙ ap (λ (w : Walk). record w { left_out = new.left_out }) same_mid in
    let added : new.left_out.items ≡ old.left_out.items ++ record { line = line; why = why_of_sink is_known } ∷ [] =
    left ∙ ap (λ (w : Walk). w.left_out.items ++ record { line = w.line; why = why_of_sink is_known } ∷ []) same_mid
    ∙ ap (λ n. old.left_out.items ++ record { line = n; why = why_of_sink is_known } ∷ []) at in
    let after = after_step progress line (sink_step own wanted is_known) in
    subst (λ w. Stands handed after w.list × IsKept after.records w) (sym same) (
      put.0,
      record {
        sinks = put.1;
        pending = kept.pending;
        left_out = left_put progress.records _ line own wanted is_known old.rank old.left_out.items new.left_out.items kept.left_out added;
      },
    )

-- the list is too long for it
pub sink_stops : (stop : Stop) (handed : Handed) (progress : Progress) (line : ℕ) (own : Option ℕ) (wanted : Wanted) (is_known : Bool) (old new : Walk)
    → Stands handed progress old.list → IsKept progress.records old → new ≡ record old { list = new.list; sinks = new.sinks }
    → PutsSink {A = Unit {0}} (Err stop) handed progress line own wanted is_known old.sinks new
    → PutsSteps line (sink_step own wanted is_known ∷ []) (Err stop) handed progress new
sink_stops (Left TooLong) handed progress line own wanted is_known old new stands kept same put = record {
  cut = put.0;
  same = cut_same progress.records (_ ∷ []) (full_before handed progress line (Sink own wanted is_known) (null_receive wanted) old.list new.list stands put.0);
  kept = kept_list progress.records old new new.list (same ∙ ap (λ it. record old { list = new.list; sinks = it }) put.1) kept;
}
sink_stops Memory handed progress line own wanted is_known old new stands kept same put = tt
sink_stops (Left NeverCameBack) handed progress line own wanted is_known old new stands kept same put = put
sink_stops (Left NeverReported) handed progress line own wanted is_known old new stands kept same put = put
sink_stops (Left Failed) handed progress line own wanted is_known old new stands kept same put = put
sink_stops (Left NoNumber) handed progress line own wanted is_known old new stands kept same put = put
sink_stops (Left CannotBe) handed progress line own wanted is_known old new stands kept same put = put
sink_stops (Left Stopped) handed progress line own wanted is_known old new stands kept same put = put
sink_stops (Left Aborted) handed progress line own wanted is_known old new stands kept same put = put
sink_stops (Left Full) handed progress line own wanted is_known old new stands kept same put = put
sink_stops (Left Cut) handed progress line own wanted is_known old new stands kept same put = put
sink_stops (Left NotJudged) handed progress line own wanted is_known old new stands kept same put = put
sink_stops (Left NoJournal) handed progress line own wanted is_known old new stands kept same put = put

pub sink_stops_by : (r : Result (Unit {0}) Stop) (stop : Stop) (result : Result Bool Stop) (handed : Handed) (progress : Progress) (line : ℕ) (own : Option ℕ) (wanted : Wanted) (is_known : Bool) (old new : Walk)
    → r ≡ Err stop → result ≡ Err stop → Stands handed progress old.list → IsKept progress.records old → new ≡ record old { list = new.list; sinks = new.sinks }
    → PutsSink r handed progress line own wanted is_known old.sinks new
    → PutsSteps line (sink_step own wanted is_known ∷ []) result handed progress new
sink_stops_by r stop result handed progress line own wanted is_known old new er e stands kept same put =
    subst (λ v. PutsSteps line (sink_step own wanted is_known ∷ []) v handed progress new) (sym e)
    (sink_stops stop handed progress line own wanted is_known old new stands kept same
    (subst (λ v. PutsSink {A = Unit {0}} v handed progress line own wanted is_known old.sinks new) er put))

pub no_memory_steps : (line : ℕ) (steps : List Step) (result : Result Bool Stop) (handed : Handed) (progress : Progress) (new : Walk)
    → result ≡ Err Memory → PutsSteps line steps result handed progress new
no_memory_steps line steps result handed progress new e = subst (λ v. PutsSteps line steps v handed progress new) (sym e) tt

-- ---- After a start of another request ----

cut_after : (handed : Handed) (progress : Progress) (line : ℕ) (id : Id) (call : ℕ → Call) (own : Option ℕ) (wanted : Wanted) (is_known : Bool) (new : Walk)
    → IsPlain id → IsCutBefore line (sink_step own wanted is_known ∷ []) handed (after_step progress line (Starts id call)) new
    → IsCutBefore line (Starts id call ∷ sink_step own wanted is_known ∷ []) handed progress new
cut_after handed progress line id call own wanted is_known new plain before = record {
  cut = before.cut;
  same = before.same ∙ sinks_plain progress.records _ line id plain;
  kept = kept_before progress.records _ line id new plain before.kept;
}

-- a sink after it
pub then_sink : (result : Result Bool Stop) (handed : Handed) (progress : Progress) (line : ℕ) (id : Id) (call : ℕ → Call) (own : Option ℕ) (wanted : Wanted) (is_known : Bool) (new : Walk)
    → IsPlain id → PutsSteps line (sink_step own wanted is_known ∷ []) result handed (after_step progress line (Starts id call)) new
    → PutsSteps line (Starts id call ∷ sink_step own wanted is_known ∷ []) result handed progress new
then_sink (Ok true) handed progress line id call own wanted is_known new plain put = put
then_sink (Ok false) handed progress line id call own wanted is_known new plain put = put
then_sink (Err (Left TooLong)) handed progress line id call own wanted is_known new plain put = cut_after handed progress line id call own wanted is_known new plain put
then_sink (Err Memory) handed progress line id call own wanted is_known new plain put = tt
then_sink (Err (Left NeverCameBack)) handed progress line id call own wanted is_known new plain put = put
then_sink (Err (Left NeverReported)) handed progress line id call own wanted is_known new plain put = put
then_sink (Err (Left Failed)) handed progress line id call own wanted is_known new plain put = put
then_sink (Err (Left NoNumber)) handed progress line id call own wanted is_known new plain put = put
then_sink (Err (Left CannotBe)) handed progress line id call own wanted is_known new plain put = put
then_sink (Err (Left Stopped)) handed progress line id call own wanted is_known new plain put = put
then_sink (Err (Left Aborted)) handed progress line id call own wanted is_known new plain put = put
then_sink (Err (Left Full)) handed progress line id call own wanted is_known new plain put = put
then_sink (Err (Left Cut)) handed progress line id call own wanted is_known new plain put = put
then_sink (Err (Left NotJudged)) handed progress line id call own wanted is_known new plain put = put
then_sink (Err (Left NoJournal)) handed progress line id call own wanted is_known new plain put = put

-- the list is too long for that start already
first_cut : (handed : Handed) (progress : Progress) (line : ℕ) (id : Id) (call : ℕ → Call) (own : Option ℕ) (wanted : Wanted) (is_known : Bool) (old new : Walk)
    → Stands handed progress old.list → IsKept progress.records old → new ≡ record old { list = new.list }
    → IsCut handed (after_step progress line (Starts id call)) line new.list
    → IsCutBefore line (Starts id call ∷ sink_step own wanted is_known ∷ []) handed progress new
first_cut handed progress line id call own wanted is_known old new stands kept same cut =
    let first = after_step progress line (Starts id call) in
    record {
      cut = cut_on handed first (after_step first line (sink_step own wanted is_known)) line new.list (_, refl) cut;
      same = ap (λ xs. sinks_from 0 (take (MOST_RECORDS - 1) xs)) (append_assoc progress.records (_ ∷ []) (_ ∷ []))
          ∙ cut_same progress.records _ (full_before handed progress line id call old.list new.list stands cut);
      kept = kept_list progress.records old new new.list same kept;
    }

pub first_stops : (A : Type 0) (stop : Stop) (handed : Handed) (progress : Progress) (line : ℕ) (id : Id) (call : ℕ → Call) (own : Option ℕ) (wanted : Wanted) (is_known : Bool) (old new : Walk)
    → Stands handed progress old.list → IsKept progress.records old → new ≡ record old { list = new.list }
    → ComesTo {A = A} (Err stop) handed (after_step progress line (Starts id call)) line new.list
    → PutsSteps line (Starts id call ∷ sink_step own wanted is_known ∷ []) (Err stop) handed progress new
first_stops A (Left TooLong) handed progress line id call own wanted is_known old new stands kept same cut = first_cut handed progress line id call own wanted is_known old new stands kept same cut
first_stops A Memory handed progress line id call own wanted is_known old new stands kept same cut = tt
first_stops A (Left NeverCameBack) handed progress line id call own wanted is_known old new stands kept same cut = cut
first_stops A (Left NeverReported) handed progress line id call own wanted is_known old new stands kept same cut = cut
first_stops A (Left Failed) handed progress line id call own wanted is_known old new stands kept same cut = cut
first_stops A (Left NoNumber) handed progress line id call own wanted is_known old new stands kept same cut = cut
first_stops A (Left CannotBe) handed progress line id call own wanted is_known old new stands kept same cut = cut
first_stops A (Left Stopped) handed progress line id call own wanted is_known old new stands kept same cut = cut
first_stops A (Left Aborted) handed progress line id call own wanted is_known old new stands kept same cut = cut
first_stops A (Left Full) handed progress line id call own wanted is_known old new stands kept same cut = cut
first_stops A (Left Cut) handed progress line id call own wanted is_known old new stands kept same cut = cut
first_stops A (Left NotJudged) handed progress line id call own wanted is_known old new stands kept same cut = cut
first_stops A (Left NoJournal) handed progress line id call own wanted is_known old new stands kept same cut = cut

pub first_stops_by : {A : Type 0} (r : Result A Stop) (stop : Stop) (result : Result Bool Stop) (handed : Handed) (progress : Progress) (line : ℕ) (id : Id) (call : ℕ → Call) (own : Option ℕ) (wanted : Wanted) (is_known : Bool) (old new : Walk)
    → r ≡ Err stop → result ≡ Err stop → Stands handed progress old.list → IsKept progress.records old → new ≡ record old { list = new.list }
    → ComesTo r handed (after_step progress line (Starts id call)) line new.list
    → PutsSteps line (Starts id call ∷ sink_step own wanted is_known ∷ []) result handed progress new
first_stops_by {A} r stop result handed progress line id call own wanted is_known old new er e stands kept same cut =
    subst (λ v. PutsSteps line (Starts id call ∷ sink_step own wanted is_known ∷ []) v handed progress new) (sym e)
    (first_stops A stop handed progress line id call own wanted is_known old new stands kept same
    (subst (λ v. ComesTo {A = A} v handed (after_step progress line (Starts id call)) line new.list) er cut))

-- ---- Such steps, with a pending call after them ----

-- the list is too long
pub pends_cut : (pending : PendingCall) (stop : Stop) (steps : List Step) (handed : Handed) (progress : Progress) (line : ℕ) (new : Walk)
    → PutsSteps line steps (Err stop) handed progress new → PendsAfter line steps pending (Err stop) handed progress new
pends_cut pending (Left TooLong) steps handed progress line new put = put
pends_cut pending Memory steps handed progress line new put = tt
pends_cut pending (Left NeverCameBack) steps handed progress line new put = absurd put
pends_cut pending (Left NeverReported) steps handed progress line new put = put
pends_cut pending (Left Failed) steps handed progress line new put = put
pends_cut pending (Left NoNumber) steps handed progress line new put = put
pends_cut pending (Left CannotBe) steps handed progress line new put = put
pends_cut pending (Left Stopped) steps handed progress line new put = put
pends_cut pending (Left Aborted) steps handed progress line new put = put
pends_cut pending (Left Full) steps handed progress line new put = put
pends_cut pending (Left Cut) steps handed progress line new put = put
pends_cut pending (Left NotJudged) steps handed progress line new put = put
pends_cut pending (Left NoJournal) steps handed progress line new put = put

pub pends_first : {A : Type 0} (r : Result A Stop) (stop : Stop) (result : Result Bool Stop) (pending : PendingCall) (handed : Handed) (progress : Progress) (line : ℕ) (id : Id) (call : ℕ → Call) (own : Option ℕ) (wanted : Wanted) (is_known : Bool) (old new : Walk)
    → r ≡ Err stop → result ≡ Err stop → Stands handed progress old.list → IsKept progress.records old → new ≡ record old { list = new.list }
    → ComesTo r handed (after_step progress line (Starts id call)) line new.list
    → PendsAfter line (Starts id call ∷ sink_step own wanted is_known ∷ []) pending result handed progress new
pends_first {A} r stop result pending handed progress line id call own wanted is_known old new er e stands kept same cut =
    subst (λ v. PendsAfter line (Starts id call ∷ sink_step own wanted is_known ∷ []) pending v handed progress new) (sym e)
    (pends_cut pending stop (Starts id call ∷ sink_step own wanted is_known ∷ []) handed progress line new
    (first_stops A stop handed progress line id call own wanted is_known old new stands kept same
    (subst (λ v. ComesTo {A = A} v handed (after_step progress line (Starts id call)) line new.list) er cut)))

pub pends_cut_by : (pending : PendingCall) (stop : Stop) (steps : List Step) (result : Result Bool Stop) (handed : Handed) (progress : Progress) (line : ℕ) (new : Walk)
    → result ≡ Err stop → PutsSteps line steps result handed progress new → PendsAfter line steps pending result handed progress new
pends_cut_by pending stop steps result handed progress line new e put =
    subst (λ v. PendsAfter line steps pending v handed progress new) (sym e)
    (pends_cut pending stop steps handed progress line new (subst (λ v. PutsSteps line steps v handed progress new) e put))

pub no_memory_pends : (pending : PendingCall) (steps : List Step) (result : Result Bool Stop) (handed : Handed) (progress : Progress) (line : ℕ) (new : Walk)
    → result ≡ Err Memory → PendsAfter line steps pending result handed progress new
no_memory_pends pending steps result handed progress line new e = subst (λ v. PendsAfter line steps pending v handed progress new) (sym e) tt
