-- The report without pending calls and sinks is that of the recording alone.
use Rattle.std.proofs.Common.{inl, inr, ◌≡◌, ◌∙◌, ◌<◌, ℕ, Bool, true, false, ◌||◌, not, if◌then◌else◌, List, [], ◌∷◌, ◌++◌, length, map, refl, sym, ap, subst, ⊎_elim, arith}
use Rattle.std.specs.Prelude.{nat_lt, codes, slice_index}
use Rattle.std.specs.List.{filter, flat_map, range_with_len}
use Rattle.std.proofs.lemmas.Bool.{cases_Bool, lt-ltb}
use Rattle.std.proofs.lemmas.List.{append-nil}
use Rattle.std.proofs.lemmas.Option.{slice_get_within}
use Rattle.serde_json.specs.Data.{Data, string, object, member, no_members, array}
use Rattle.serde_json.specs.View.{items_of as data_items}
use Rattle.serde_json.specs.Written.{compact_text}
use Rattle.mpicall.specs.Spelling.{line_feed}
use Rattle.mpigroup.specs.Groups.{Groups}
use Rattle.callstore.specs.Recordings.{Lists, IsClosed}
use Rattle.moves.specs.Stands.{is_at_end, stands_of}
use Rattle.moves.specs.declared.need.Need.{Need}
use Rattle.moves.specs.declared.reading.Reading.{Reading}
use Rattle.waitgraph.specs.Causes.{CauseView}
use Rattle.waitgraph.specs.Pending.{Known as PendingKnown, PendingView}
use Rattle.waitgraph.specs.PendingCauses.{AreCausesBy}
use Rattle.waitgraph.specs.PendingNeeds.{ListsAwaited, awaited_in}
use Rattle.waitgraph.specs.PendingVerdicts.{IsVerdictBy}
use Rattle.waitgraph.specs.Stuck.{is_stuck, stuck_of, unmet_of}
use Rattle.waitgraph.specs.declared.awaited.Awaited.{Awaited}
use Rattle.waitgraph.specs.declared.pending.Sink.{Sink}
use Rattle.waitgraph.specs.declared.verdict.Verdict.{Verdict}
use Rattle.waitgraph.proofs.AmongLemmas.{Among, among_range}
use Rattle.waitgraph.proofs.StuckLemmas.{stuck_ranks_wait_for_stuck_ranks}
use Rattle.report.specs.JsonReport.{each, cause_data, finding_data, rank_data}
use Rattle.report.specs.Judged.{judged_data, judged_json, judged_of, judged_text, left_data, left_line, line_data, with_finding_calls, with_held}
use Rattle.report.specs.PendingReport.{at_open_data, awaited_line, data_of_rank, has_lines, has_unmet, lines_of_rank, pending_data, pending_json, pending_of, pending_report, pending_text}
use Rattle.report.specs.TextReport.{cause_line, finding_line, rank_lines, unmet_line, verdict_line, verdict_text}
use Rattle.report.specs.declared.judged.Judged.{Judged}
use Rattle.report.specs.declared.write.Format.{Format}
use Rattle.report.specs.declared.write.Format.TheVariants.{Text, Json}
use Rattle.judging.specs.KnownCalls.{calls_at_open, calls_at_opens}
use Rattle.judging.specs.NamedCalls.{CallAt, HaveLines, calls_in, calls_named}
use Rattle.judging.specs.WithoutPending.{WithoutPendingTheReportIsPlain}
use Rattle.judging.proofs.UnpendingLemmas.{HasNoItems, calls_alone, causes_same, listed_same, none_awaited, plain_causes, plain_verdict, verdict_same}

-- ---- Lists of ranks ----

told : (f g : ℕ → List ℕ) (keep : ℕ → Bool) → ((x : ℕ) → f x ≡ g x) → ((x : ℕ) → keep x ≡ false → g x ≡ []) → (xs : List ℕ) → flat_map f xs ≡ flat_map g (filter keep xs)
told f g keep same none [] = refl
told f g keep same none (x ∷ xs) =
    ⊎_elim
    (λ (is : keep x ≡ true). rw is (ap (λ (ls : List ℕ). ls ++ flat_map f xs) (same x) ∙ ap (λ (ls : List ℕ). g x ++ ls) (told f g keep same none xs)))
    (λ (no : keep x ≡ false). rw no (ap (λ (ls : List ℕ). ls ++ flat_map f xs) (same x ∙ none x no) ∙ told f g keep same none xs))
    (cases_Bool (keep x))

kept : (p q : ℕ → Bool) (xs : List ℕ) → ((x : ℕ) → Among x xs → p x ≡ q x) → filter p xs ≡ filter q xs
kept p q [] same = refl
kept p q (x ∷ xs) same =
    ⊎_elim
    (λ (is : q x ≡ true). rw (same x (inl refl), is) (ap (λ (ys : List ℕ). x ∷ ys) (kept p q xs (λ y there. same y (inr there)))))
    (λ (no : q x ≡ false). rw (same x (inl refl), no) (kept p q xs (λ y there. same y (inr there))))
    (cases_Bool (q x))

mapped : (f g : ℕ → Data) (keep : ℕ → Bool) (xs : List ℕ) → ((x : ℕ) → Among x xs → keep x ≡ true → f x ≡ g x) → map f (filter keep xs) ≡ map g (filter keep xs)
mapped f g keep [] same = refl
mapped f g keep (x ∷ xs) same =
    ⊎_elim
    (λ (is : keep x ≡ true).
    rw is (ap (λ (d : Data). d ∷ map f (filter keep xs)) (same x (inl refl) is)
    ∙ ap (λ (ds : List Data). g x ∷ ds) (mapped f g keep xs (λ y there stays. same y (inr there) stays))))
    (λ (no : keep x ≡ false). rw no (mapped f g keep xs (λ y there stays. same y (inr there) stays)))
    (cases_Bool (keep x))

or_false : (b : Bool) → (b || false) ≡ b
or_false true = refl
or_false false = refl

within_range : (rank n : ℕ) → Among rank (range_with_len 0 n) → rank < n
within_range rank n there = let within = among_range rank 0 n there in omega (arith, within.1)

-- ---- The text ----

module _ (reading : Reading) (groups : Groups) (recording : Lists) (closed : IsClosed recording) (pending : List PendingView) (at_open : List (List Awaited)) (opens : (rank : ℕ) → awaited_in at_open rank ≡ []) where
  lines_same : (rank : ℕ) → lines_of_rank reading groups recording pending at_open rank ≡ rank_lines reading groups recording rank
  lines_same rank =
      ap (λ (awaits : List Awaited). rank_lines reading groups recording rank ++ flat_map (awaited_line reading groups recording (pending_of pending rank) rank) awaits) (opens rank)
      ∙ append-nil (rank_lines reading groups recording rank)

  none_told : (rank : ℕ) → is_stuck reading groups recording rank ≡ false → rank_lines reading groups recording rank ≡ []
  none_told rank not_stuck =
      ap (λ (needs : List Need). flat_map (unmet_line reading groups recording rank) needs) ((stuck_ranks_wait_for_stuck_ranks reading groups recording closed).no_other_waits rank not_stuck)

  all_lines : flat_map (lines_of_rank reading groups recording pending at_open) (range_with_len 0 (length recording)) ≡ flat_map (rank_lines reading groups recording) (stuck_of reading groups recording)
  all_lines =
      told (lines_of_rank reading groups recording pending at_open) (rank_lines reading groups recording) (λ rank. not (is_at_end recording (stands_of reading groups recording) rank))
      lines_same none_told (range_with_len 0 (length recording))

  unmet_is : (rank : ℕ) → rank < length recording → has_unmet reading groups recording rank ≡ is_stuck reading groups recording rank
  unmet_is rank within =
      let tells = stuck_ranks_wait_for_stuck_ranks reading groups recording closed in
      ⊎_elim
      (λ (stuck : is_stuck reading groups recording rank ≡ true).
      let waits = tells.each_waits rank within stuck in
      lt-ltb 0 (length (unmet_of reading groups recording rank)) (omega (arith, slice_get_within (unmet_of reading groups recording rank) waits.1.0 waits.0 waits.1.1)) ∙ sym stuck)
      (λ (not_stuck : is_stuck reading groups recording rank ≡ false).
      ap (λ (needs : List Need). nat_lt 0 (length needs)) (tells.no_other_waits rank not_stuck) ∙ sym not_stuck)
      (cases_Bool (is_stuck reading groups recording rank))

  lines_is : (rank : ℕ) → rank < length recording → has_lines reading groups recording at_open rank ≡ is_stuck reading groups recording rank
  lines_is rank within =
      ap (λ (awaits : List Awaited). has_unmet reading groups recording rank || nat_lt 0 (length awaits)) (opens rank)
      ∙ or_false (has_unmet reading groups recording rank) ∙ unmet_is rank within

  all_data : map (data_of_rank reading groups recording pending at_open) (filter (has_lines reading groups recording at_open) (range_with_len 0 (length recording))) ≡ map (rank_data reading groups recording) (stuck_of reading groups recording)
  all_data =
      ap (λ (ranks : List ℕ). map (data_of_rank reading groups recording pending at_open) ranks)
      (kept (has_lines reading groups recording at_open) (λ rank. not (is_at_end recording (stands_of reading groups recording) rank)) (range_with_len 0 (length recording))
      (λ rank there. lines_is rank (within_range rank (length recording) there)))
      ∙ mapped (data_of_rank reading groups recording pending at_open) (rank_data reading groups recording) (λ rank. not (is_at_end recording (stands_of reading groups recording) rank)) (range_with_len 0 (length recording))
      (λ rank there stuck.
      ap (λ (b : Bool). if b then rank_data reading groups recording rank else at_open_data reading groups recording (pending_of pending rank) at_open rank)
      (unmet_is rank (within_range rank (length recording) there) ∙ stuck))

  pub plain_text : (format : Format) (verdict : Verdict) (causes : List CauseView) (judged : Judged) → pending_report format reading groups recording verdict pending at_open causes judged ≡ judged_of format reading groups recording verdict causes judged
  unfolding pending_report pending_text pending_json pending_data judged_of judged_text judged_json judged_data
  plain_text Text verdict causes judged =
      ap (λ (ls : List ℕ). verdict_line verdict ++ ls ++ flat_map cause_line causes ++ flat_map finding_line judged.findings.now ++ flat_map left_line judged.left.now) all_lines
  plain_text Json verdict causes judged =
      ap (λ (ds : List Data). compact_text (object (member (codes "causes") (each cause_data causes)
      (with_finding_calls judged.held
      (member (codes "findings") (each finding_data judged.findings.now)
      (with_held judged.held
      (member (codes "left") (each left_data judged.left.now)
      (member (codes "lines") (each line_data judged.lines.now)
      (member (codes "ranks") (array (data_items ds))
      (member (codes "verdict") (string (verdict_text verdict)) no_members))))))))) ++ line_feed ∷ []) all_data

-- ---- Calls that are named ----

none_named : (f : ℕ → List CallAt) (ranks : List ℕ) → ((rank : ℕ) → f rank ≡ []) → flat_map f ranks ≡ []
none_named f [] none = refl
none_named f (rank ∷ ranks) none = ap (λ (calls : List CallAt). calls ++ flat_map f ranks) (none rank) ∙ none_named f ranks none

no_opens : (reading : Reading) (groups : Groups) (recording : Lists) (known : PendingKnown) (at_open : List (List Awaited)) → ((rank : ℕ) → awaited_in at_open rank ≡ []) → calls_at_opens reading groups recording known at_open ≡ []
no_opens reading groups recording known at_open opens =
    none_named (λ rank. calls_at_open recording known at_open rank (slice_index (stands_of reading groups recording) rank)) (range_with_len 0 (length recording))
    (λ rank. rw (opens rank) refl)

-- ---- The report ----

pub without_pending_the_report_is_plain : WithoutPendingTheReportIsPlain
without_pending_the_report_is_plain known manner verdict report is none =
    let reading = manner.reading in
    let pending = is.pending.pending in
    let alone : is.pending ≡ calls_alone pending = ap (λ (sinks : List Sink). record { pending = pending; sinks = sinks }) none.no_sinks in
    let no_items : HasNoItems pending = λ rank. none.no_calls rank in
    let listed : ListsAwaited reading is.groups is.recording (calls_alone pending) is.at_open = subst (λ (k : PendingKnown). ListsAwaited reading is.groups is.recording k is.at_open) alone is.are_awaited in
    let opens : (rank : ℕ) → awaited_in is.at_open rank ≡ [] = none_awaited reading is.groups is.recording pending no_items is.at_open listed in
    let plain_listed = listed_same reading is.groups is.recording pending no_items is.at_open listed in
    let are = causes_same reading is.groups is.recording pending no_items is.causes (subst (λ (k : PendingKnown). AreCausesBy reading is.groups is.recording k is.causes) alone is.are_causes) in
    record {
      is_verdict = plain_verdict reading is.groups is.recording is.closed is.at_open plain_listed is.causes are verdict
          (verdict_same reading is.groups is.recording pending no_items verdict (subst (λ (k : PendingKnown). IsVerdictBy reading is.groups is.recording k verdict) alone is.is_verdict));
      causes = is.causes;
      are_causes = plain_causes reading is.groups is.recording is.closed is.at_open plain_listed is.causes are;
      is_text = is.is_text ∙ plain_text reading is.groups is.recording is.closed pending is.at_open opens manner.format verdict is.causes is.judged;
      names =
          subst (λ (calls : List CallAt). HaveLines (calls_in manner.format calls) is.judged.lines.now)
          (ap (λ (calls : List CallAt). calls_named reading is.groups is.recording is.judged.findings.now ++ calls) (no_opens reading is.groups is.recording is.pending is.at_open opens)
          ∙ append-nil (calls_named reading is.groups is.recording is.judged.findings.now))
          is.names;
    }
