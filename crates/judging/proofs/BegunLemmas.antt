-- The run that the files hold, and an analyser that has none of its calls yet.
use Rattle.std.proofs.Common.{◌≡◌, ◌<◌, ◌∙◌, ℕ, Option, Ok, Err, List, [], length, take, replicate, sym, ap, subst, arith}
use Rattle.std.specs.Prelude.{Result}
use Rattle.std.proofs.lemmas.List.{get_or-replicate, length-replicate}
use Rattle.std.proofs.lemmas.Option.{unwrap_or-slice_get}
use Rattle.mpigroup.specs.Groups.{Groups, ranks_of}
use Rattle.callstore.specs.Recordings.{Lists, IsClosed, calls_of}
use Rattle.journals.specs.declared.journal.Journal.{Journal as JournalRead}
use Rattle.journals.specs.declared.limits.TheConstants.{MOST_RANKS}
use Rattle.moves.specs.Analysed.{Analysed}
use Rattle.closing.specs.Entries.{Run}
use Rattle.closing.specs.Journals.{RankFault, run_of, run_in}
use Rattle.closing.specs.Numbers.{groups_of}
use Rattle.closing.specs.Recordings.{RecordingView, calls_at, count_at}
use Rattle.closing.specs.declared.choice.Choice.{Choice}
use Rattle.lawful.specs.Laws.{IsRead}
use Rattle.judging.specs.JournalTexts.{Known, AreKnown, AreOfFiles, IsFaultOfFiles}
use Rattle.judging.specs.Judging.{IsFaultOfJudge}
use Rattle.judging.specs.declared.read.ReadFault.{ReadFault}
use Rattle.judging.specs.declared.read.ReadFault.TheVariants as read
use Rattle.judging.specs.inner.Reported.{IsRunOf, fault_of_reading}
use Rattle.judging.specs.inner.Turns.{HasAll, IsFresh, IsWithIt}
use Rattle.judging.proofs.HeadOf.{some_ranks}
use Rattle.lawful.proofs.ReadRuns.{fit_of_read, lists_closed, ranks_of_head}

-- ---- The run ----

module _ (known : Known) (journals : List (Option JournalRead)) (own : Run) (of : AreOfFiles known journals) (is : own ≡ run_in journals) where
  pub is_run_of : IsRunOf known own
  is_run_of = record { same = same; none_refused = none }
    where
      same : (first : List ℕ) (texts : ℕ → Option (List ℕ)) (run : Run) → AreKnown known (length run) first texts → run_of first texts ≡ Ok run → own ≡ run
      same first texts run are reads =
          let some : 0 < length run = some_ranks run (record { first = first; texts = texts; is_read = reads }) in
          let many : length journals ≡ length run = of.as_many first texts run (are.first_is some) reads in
          is ∙ inside (sym (of.run first texts (subst (λ (n : ℕ). AreKnown known n first texts) (sym many) are)) ∙ reads)
        where
          inside : ◌≡◌ {A = Result Run RankFault} (Ok (run_in journals)) (Ok run) → run_in journals ≡ run
          inside h = cc

      none : (first : List ℕ) (texts : ℕ → Option (List ℕ)) (fault : RankFault) → AreKnown known MOST_RANKS first texts → run_of first texts ≡ Err fault → ⊥
      none first texts fault are refused = differs (sym (of.run first texts fewer) ∙ refused)
        where
          fewer : AreKnown known (length journals) first texts
          fewer = record {
            first_is = λ some. are.first_is (omega (arith, some, of.few));
            others_are = λ rank later within. are.others_are rank later (omega (arith, within, of.few));
          }

          differs : ◌≡◌ {A = Result Run RankFault} (Ok (run_in journals)) (Err fault) → ⊥
          differs h = cc

pub read_fault : (known : Known) (choice : Choice) (it : ReadFault) → IsFaultOfFiles known it → IsFaultOfJudge known choice (fault_of_reading it)
read_fault known choice (read.Open rank) is = is
read_fault known choice (read.Refused rank fault) is = is
read_fault known choice (read.ReadFailed rank line) is = is
read_fault known choice read.Memory is = tt

-- ---- The analyser ----

pub begins_with_it : (it : RecordingView) (analysed : Analysed) (head : Groups) → IsFresh it → IsRead it.run → (IsRead it.run → head ≡ groups_of it.run) → analysed.groups ≡ head →
    analysed.recording ≡ replicate (ranks_of head) [] → IsWithIt it analysed
begins_with_it it analysed head fresh read is groups recording = record {
  read = read;
  ranks = ap (λ (l : Lists). length l) none ∙ length-replicate (length it.run) [];
  groups = groups ∙ is read;
  parts = fresh.parts (fit_of_read it.run it.choice read);
  calls = calls;
}
  where
    ranks : ranks_of head ≡ length it.run
    ranks = ap ranks_of (is read) ∙ ranks_of_head it.run it.choice

    none : analysed.recording ≡ replicate (length it.run) []
    none = recording ∙ ap (λ (n : ℕ). replicate n []) ranks

    zero_handed : (rank : ℕ) → rank < length it.run → count_at it.handed rank ≡ 0
    zero_handed rank within =
        ap (λ (h : List ℕ). count_at h rank) fresh.handed
        ∙ unwrap_or-slice_get (replicate (length it.run) 0) rank 0
        ∙ get_or-replicate (length it.run) rank 0 0 within

    calls : (rank : ℕ) → rank < length it.run → calls_of analysed.recording rank ≡ take (count_at it.handed rank) (calls_at it rank)
    calls rank within =
        ap (λ (l : Lists). calls_of l rank) none
        ∙ unwrap_or-slice_get (replicate (length it.run) []) rank []
        ∙ get_or-replicate (length it.run) rank [] [] within
        ∙ ap (λ (n : ℕ). take n (calls_at it rank)) (sym (zero_handed rank within))

-- all lists are closed
pub all_closed : (old it : RecordingView) (analysed : Analysed) → HasAll old it analysed → IsClosed analysed.recording
all_closed old it analysed has = subst IsClosed (sym has.recording) (lists_closed it.run it.choice)
