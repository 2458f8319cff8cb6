-- The list of a rank as several steps are taken.
use Rattle.std.proofs.Common.{◌≡◌, refl, sym, ◌∙◌, ap, subst, ℕ, zero, suc, ◌<◌, ◌-◌, Option, Result, Ok, Err, List, [], ◌∷◌, ◌++◌, length, take, arith, length-append}
use Rattle.std.specs.Prelude.{option_map, slice_get}
use Rattle.std.proofs.lemmas.List.{map-append, take-append-le, length-map}
use Rattle.closing.specs.Steps.{Written, Progress, Step, after_step, after_steps}
use Rattle.closing.specs.Sinks.{GoesOn}
use Rattle.closing.specs.inner.Lists.{Handed, HasPlaces, IsCut, ComesTo, calls_in}
use Rattle.closing.specs.inner.Walks.{Spot}
use Rattle.closing.specs.Fit.{AllFit}
use Rattle.closing.specs.inner.Walked.{EndsAt, Takes}
use Rattle.closing.specs.declared.list.List.{List as ListCode}
use Rattle.closing.proofs.GrownLemmas.{Grown, grown_all}
use Rattle.closing.specs.declared.list.TheConstants.{MOST_RECORDS}
use Rattle.closing.specs.declared.stop.Stop.{Stop}
use Rattle.closing.specs.declared.stop.Stop.TheVariants.{Left, Memory}
use Rattle.closing.specs.declared.why.Why.{Why}
use Rattle.closing.specs.declared.why.Why.TheVariants.{TooLong, NeverCameBack, NeverReported, Failed, NoNumber, CannotBe, Stopped, Aborted, Full, Cut, NoJournal, NotJudged}

-- ---- A list that is too long stays so ----

get_before : (xs ys : List Written) (n : ℕ) → n < length xs → slice_get (xs ++ ys) n ≡ slice_get xs n
get_before [] ys n h = absurd (omega arith)
get_before (x ∷ xs) ys zero h = refl
get_before (x ∷ xs) ys (suc n) h = get_before xs ys n (omega arith)

pub cut_on : (handed : Handed) (p q : Progress) (line : ℕ) (it : ListCode) → Grown p q → IsCut handed p line it → IsCut handed q line it
cut_on handed p q line it grown cut = record {
  long = rw grown.1 (omega (arith, cut.long, length-append p.records grown.0));
  records =
      ap (λ xs. take (MOST_RECORDS - 1) (calls_in xs)) grown.1
      ∙ ap (take (MOST_RECORDS - 1)) (map-append (λ it. it.call) p.records grown.0)
      ∙ take-append-le (MOST_RECORDS - 1) (calls_in p.records) (calls_in grown.0) (omega (arith, cut.long, length-map p.records (λ it. it.call)))
      ∙ cut.records;
  ends_at =
      ap (λ xs. option_map (λ it. it.line) (slice_get xs (MOST_RECORDS - 1))) grown.1
      ∙ ap (option_map (λ it. it.line)) (get_before p.records grown.0 (MOST_RECORDS - 1) (omega (arith, cut.long)))
      ∙ cut.ends_at;
  places =
      subst (λ (xs : List Written). HasPlaces handed.frees xs it.freed)
      (sym (ap (take (MOST_RECORDS - 1)) grown.1 ∙ take-append-le (MOST_RECORDS - 1) p.records grown.0 (omega (arith, cut.long)))) cut.places;
}

-- ---- Some steps, and then others ----

pub after_both : (p : Progress) (line : ℕ) (xs ys : List Step) → after_steps p line (xs ++ ys) ≡ after_steps (after_steps p line xs) line ys
after_both p line [] ys = refl
after_both p line (x ∷ xs) ys = after_both (after_step p line x) line xs ys

pub fit_first : (p : Progress) (line : ℕ) (xs ys : List Step) → AllFit p line (xs ++ ys) → AllFit p line xs
fit_first p line [] ys h = tt
fit_first p line (x ∷ xs) ys h = (h.0, fit_first (after_step p line x) line xs ys h.1)

pub fit_then : (p : Progress) (line : ℕ) (xs ys : List Step) → AllFit p line (xs ++ ys) → AllFit (after_steps p line xs) line ys
fit_then p line [] ys h = h
fit_then p line (x ∷ xs) ys h = fit_then (after_step p line x) line xs ys h.1

pub followed : {A B : Type 0} (done : A) (spot : Spot) (xs ys : List Step) (result : Result B Stop) (old mid new : ListCode)
    → Takes {A = A} spot (GoesOn xs) (Ok done) old mid → Takes spot (GoesOn ys) result mid new → Takes spot (GoesOn (xs ++ ys)) result old new
followed done spot xs ys result old mid new one two = λ handed p stands fits.
    subst (λ q. ComesTo result handed q spot.line new) (sym (after_both p spot.line xs ys))
    (two handed (after_steps p spot.line xs) (one handed p stands (fit_first p spot.line xs ys fits)) (fit_then p spot.line xs ys fits))

pub still_cut : (A B : Type 0) (stop : Stop) (handed : Handed) (p q : Progress) (line : ℕ) (it : ListCode) → Grown p q
    → ComesTo {A = A} (Err stop) handed p line it → ComesTo {A = B} (Err stop) handed q line it
still_cut A B (Left TooLong) handed p q line it grown cut = cut_on handed p q line it grown cut
still_cut A B Memory handed p q line it grown cut = tt
still_cut A B (Left NeverCameBack) handed p q line it grown cut = cut
still_cut A B (Left NeverReported) handed p q line it grown cut = cut
still_cut A B (Left Failed) handed p q line it grown cut = cut
still_cut A B (Left NoNumber) handed p q line it grown cut = cut
still_cut A B (Left CannotBe) handed p q line it grown cut = cut
still_cut A B (Left Stopped) handed p q line it grown cut = cut
still_cut A B (Left Aborted) handed p q line it grown cut = cut
still_cut A B (Left Full) handed p q line it grown cut = cut
still_cut A B (Left Cut) handed p q line it grown cut = cut
still_cut A B (Left NotJudged) handed p q line it grown cut = cut
still_cut A B (Left NoJournal) handed p q line it grown cut = cut

pub cut_before : (A B : Type 0) (spot : Spot) (xs ys : List Step) (stop : Stop) (old new : ListCode)
    → Takes {A = A} spot (GoesOn xs) (Err stop) old new → Takes {A = B} spot (GoesOn (xs ++ ys)) (Err stop) old new
cut_before A B spot xs ys stop old new one = λ handed p stands fits.
    subst (λ q. ComesTo {A = B} (Err stop) handed q spot.line new) (sym (after_both p spot.line xs ys))
    (still_cut A B stop handed (after_steps p spot.line xs) (after_steps (after_steps p spot.line xs) spot.line ys) spot.line new
    (grown_all (after_steps p spot.line xs) spot.line ys) (one handed p stands (fit_first p spot.line xs ys fits)))

-- a list that is too long before its end is so at its end
pub ends_cut : (A B : Type 0) (stop : Stop) (handed : Handed) (p : Progress) (line : ℕ) (why : Option Why) (it : ListCode)
    → ComesTo {A = A} (Err stop) handed p line it → EndsAt {A = B} (Err stop) handed p line why it
ends_cut A B (Left TooLong) handed p line why it cut = cut
ends_cut A B Memory handed p line why it cut = tt
ends_cut A B (Left NeverCameBack) handed p line why it cut = absurd cut
ends_cut A B (Left NeverReported) handed p line why it cut = absurd cut
ends_cut A B (Left Failed) handed p line why it cut = absurd cut
ends_cut A B (Left NoNumber) handed p line why it cut = absurd cut
ends_cut A B (Left CannotBe) handed p line why it cut = absurd cut
ends_cut A B (Left Stopped) handed p line why it cut = absurd cut
ends_cut A B (Left Aborted) handed p line why it cut = absurd cut
ends_cut A B (Left Full) handed p line why it cut = absurd cut
ends_cut A B (Left Cut) handed p line why it cut = absurd cut
ends_cut A B (Left NotJudged) handed p line why it cut = absurd cut
ends_cut A B (Left NoJournal) handed p line why it cut = absurd cut
