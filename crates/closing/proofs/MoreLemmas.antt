-- An entry takes no record away.
use Rattle.std.proofs.Common.{◌≡◌, ◌∙◌, refl, sym, ap, arith, ℕ, ◌+◌, ◌-◌, ◌≤◌, Bool, true, false, length, take, length-append, Option, Result, Ok, Err}
use Rattle.std.proofs.lemmas.List.{length-map, length-take-le}
use Rattle.closing.specs.Steps.{Progress, after_steps}
use Rattle.closing.specs.Sinks.{Ends, GoesOn, Outcome}
use Rattle.closing.specs.inner.Lists.{Handed, ComesTo, IsCut, Stands, calls_in}
use Rattle.closing.specs.inner.SoFar.{Entered}
use Rattle.closing.specs.inner.Walked.{EndsAt}
use Rattle.closing.specs.declared.list.List.{List as ListCode}
use Rattle.closing.specs.declared.list.TheConstants.{MOST_RECORDS}
use Rattle.closing.specs.declared.stop.Stop.{Stop}
use Rattle.closing.specs.declared.stop.Stop.TheVariants.{Left, Memory}
use Rattle.closing.specs.declared.why.Why.{Why}
use Rattle.closing.specs.declared.why.Why.TheVariants.{NeverCameBack, NeverReported, Failed, NoNumber, TooLong, CannotBe, Stopped, Aborted, Full, Cut, NoJournal, NotJudged}
use Rattle.closing.proofs.GrownLemmas.{Grown, grown_all}

module _ (handed : Handed) (p : Progress) (old new : ListCode) (before : Stands handed p old) where
  abbrev IsMore : Type 0
  IsMore = length old.records ≤ length new.records

  -- as many as were handed on and weren't
  count_of : (q : Progress) (it : ListCode) → Stands handed q it → length q.records ≡ length handed.calls + length it.records
  count_of q it stands = sym (length-map q.records (λ one. one.call)) ∙ ap length stands.records ∙ length-append handed.calls it.records

  stands_more : (q : Progress) → Grown p q → Stands handed q new → IsMore
  stands_more q grown stands =
      let all : length q.records ≡ length p.records + length grown.0 = ap length grown.1 ∙ length-append p.records grown.0 in
      omega (arith, all, count_of p old before, count_of q new stands)

  cut_more : (q : Progress) (line : ℕ) → IsCut handed q line new → IsMore
  cut_more q line cut =
      let long : MOST_RECORDS - 1 ≤ length (calls_in q.records) = omega (arith, cut.long, length-map q.records (λ one. one.call)) in
      let count : length (take (MOST_RECORDS - 1) (calls_in q.records)) ≡ length handed.calls + length new.records = ap length cut.records ∙ length-append handed.calls new.records in
      let most : length (take (MOST_RECORDS - 1) (calls_in q.records)) ≡ MOST_RECORDS - 1 = length-take-le (MOST_RECORDS - 1) (calls_in q.records) long in
      omega (arith, count, most, count_of p old before, before.count, before.short)

  comes_more : (q : Progress) (line : ℕ) (why : Why) → Grown p q → ComesTo {A = Bool} (Err (Left why)) handed q line new → IsMore
  comes_more q line TooLong grown comes = cut_more q line comes
  comes_more q line NeverCameBack grown comes = absurd comes
  comes_more q line NeverReported grown comes = absurd comes
  comes_more q line Failed grown comes = absurd comes
  comes_more q line NoNumber grown comes = absurd comes
  comes_more q line CannotBe grown comes = absurd comes
  comes_more q line Stopped grown comes = absurd comes
  comes_more q line Aborted grown comes = absurd comes
  comes_more q line Full grown comes = absurd comes
  comes_more q line Cut grown comes = absurd comes
  comes_more q line NotJudged grown comes = absurd comes
  comes_more q line NoJournal grown comes = absurd comes

  ends_more : (q : Progress) (line : ℕ) (found : Option Why) (why : Why) → Grown p q → EndsAt {A = Bool} (Err (Left why)) handed q line found new → IsMore
  ends_more q line found TooLong grown ends = cut_more q line ends
  ends_more q line found NeverCameBack grown ends = stands_more q grown ends.1
  ends_more q line found NeverReported grown ends = stands_more q grown ends.1
  ends_more q line found Failed grown ends = stands_more q grown ends.1
  ends_more q line found NoNumber grown ends = stands_more q grown ends.1
  ends_more q line found CannotBe grown ends = stands_more q grown ends.1
  ends_more q line found Stopped grown ends = stands_more q grown ends.1
  ends_more q line found Aborted grown ends = stands_more q grown ends.1
  ends_more q line found Full grown ends = stands_more q grown ends.1
  ends_more q line found Cut grown ends = stands_more q grown ends.1
  ends_more q line found NotJudged grown ends = stands_more q grown ends.1
  ends_more q line found NoJournal grown ends = stands_more q grown ends.1

  -- unless memory ran out
  pub entered_more : (result : Result Bool Stop) (outcome : Outcome) (line : ℕ) → (result ≡ Err Memory → ⊥) → Entered result outcome handed p line new → IsMore
  entered_more (Ok true) (GoesOn steps) line some entered = absurd entered
  entered_more (Ok true) (Ends steps end why) line some entered = stands_more (after_steps p line steps) (grown_all p line steps) entered.1.1
  entered_more (Ok false) (GoesOn steps) line some entered = stands_more (after_steps p line steps) (grown_all p line steps) entered
  entered_more (Ok false) (Ends steps end why) line some entered = absurd entered
  entered_more (Err Memory) outcome line some entered = absurd (some refl)
  entered_more (Err (Left why)) (GoesOn steps) line some entered = comes_more (after_steps p line steps) line why (grown_all p line steps) entered
  entered_more (Err (Left why)) (Ends steps end found) line some entered = ends_more (after_steps p line steps) line found why (grown_all p line steps) entered
