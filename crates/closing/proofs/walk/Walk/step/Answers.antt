-- The next entry is taken, or the list is left open.
use Rattle.std.proofs.Common.{◌≡◌, ◌∙◌, refl, ap, subst, arith, ℕ, ◌+◌, inr, true, false, length, drop, Some, Ok, Err}
use Rattle.mpicall.specs.declared.call.Call.TheVariants.{Finalize, Open}
use Rattle.journals.specs.Journal.{Journal}
use Rattle.journals.specs.Taking.{word_at}
use Rattle.journals.specs.declared.word.CallWord.{CallWord}
use Rattle.journals.specs.declared.word.Word.TheVariants.{Call as CallLine}
use Rattle.closing.specs.Recordings.{choice_in}
use Rattle.closing.specs.inner.Noted.{AreReports, HavePlaces, call_if, reports_in}
use Rattle.closing.specs.declared.stop.Stop.TheVariants.{Left}
use Rattle.closing.specs.declared.walk.Walk.{Walk}
use Rattle.closing.proofs.AtLemmas.{place_there}
use Rattle.closing.proofs.NextEntry.{call_there, is_before, is_ready, one_more, one_more_than, so_far, step_ends, step_leaves, step_more, step_on, step_opens, with_ok}
use Rattle.closing.proofs.NextLemmas.{count_small}
use Rattle.closing.proofs.TableLemmas.{grows_same}
use Rattle.closing.proofs.walk.Walk.step.Goals as goal

pub returns-in_default-clause-walk : goal.returns-in_default-clause-walk
returns-in_default-clause-walk c = with_ok _ _ c.finish_open.result (λ end. λ said heading fit numbered few there goes walk.
    let s = c.args.self.now in
    let lines = c.args.lines.now in
    let journal : Journal = record { heading = heading; lines = lines } in
    let kept = c.args.run.now in
    let choice = choice_in s.choice in
    let so = so_far said choice journal kept s fit numbered few there goes walk in
    let small = count_small said choice journal kept.keys s so there in
    let count : length c.records-waiting.result.now ≡ length s.list.records = ap length c.records-waiting.ensures in
    let before : c.saturating_add-self.result ≡ s.handed + length s.list.records = omega (arith, small, count) in
    let new = c.finish_open.new.self in
    let same = c.finish_open.ensures.same in
    let none : (word : CallWord) → word_at lines s.next ≡ Some (CallLine word) → ⊥ = λ word at.
    c.in_default.not-Some word (c.call_at.ensures ∙ ap call_if at) in (
      step_opens said choice journal kept s fit numbered few there goes walk new none
          (ap (λ (it : Walk). it.rank) same) (ap (λ (it : Walk). it.handed) same) (ap (λ (it : Walk). it.before) same ∙ before) (ap (λ (it : Walk). it.line) same)
          (ap (λ (it : Walk). it.left) same) (ap (λ (it : Walk). it.is_over) same) (end refl) c.finish_open.ensures.freed
          (record { sinks = ap (λ (it : Walk). it.sinks) same; pending = ap (λ (it : Walk). it.pending) same; left_out = ap (λ (it : Walk). it.left_out) same }),
      grows_same kept.keys so.comms.table_is,
    )) c.finish_open.ensures.end

pub returns-in_default-clause-more : goal.returns-in_default-clause-more
returns-in_default-clause-more c = with_ok _ _ c.finish_open.result (λ end said heading fit numbered few there goes walk.
    one_more c.args.self.now.list.records c.finish_open.new.self.list.records Open (end refl)) c.finish_open.ensures.end

pub returns-in-Ok-true-clause-walk : goal.returns-in-Ok-true-clause-walk
returns-in-Ok-true-clause-walk c = with_ok _ _ c.finish_calls.result (λ end. λ said heading fit numbered few there goes walk.
    let s = c.args.self.now in
    let lines = c.args.lines.now in
    let journal : Journal = record { heading = heading; lines = lines } in
    let kept = c.args.run.now in
    let choice = choice_in s.choice in
    let so = so_far said choice journal kept s fit numbered few there goes walk in
    let small = count_small said choice journal kept.keys s so there in
    let count : length c.records-waiting.result.now ≡ length s.list.records = ap length c.records-waiting.ensures in
    let before : c.saturating_add-self.result ≡ s.handed + length s.list.records = omega (arith, small, count) in
    let word = c.in-Some.word in
    let call : word_at lines s.next ≡ Some (CallLine word) = call_there (word_at lines s.next) word c.in-Some.ensures in
    let below = place_there lines s.next word call in
    let start : c.saturating_add.result ≡ s.next + 1 = omega (arith, below, few) in
    let places : HavePlaces lines = omega (arith, few) in
    let reports = c.reports_from.result in
    let are : AreReports lines (s.next + 1) (reports_in (drop (s.next + 1) lines)) reports =
    subst (λ (n : ℕ). AreReports lines n (reports_in (drop n lines)) reports) start (c.reports_from.ensures places) in
    let line : c.line_number-self.result ≡ s.next + 2 = c.line_number-self.ensures (omega (arith, below, few)) in
    let one = c.take_entry.new.self in
    let now = c.take_entry.new.run.keys in
    let entered = c.take_entry.ensures.entered said heading so.handed so.progress
    (is_before said choice journal kept s fit numbered few there goes walk word call c.saturating_add-self.result c.line_number-self.result reports before line are)
    (is_ready said choice journal kept s fit numbered few there goes walk word call c.saturating_add-self.result c.line_number-self.result reports before line are) in
    let is : c.take_entry.result ≡ Ok true = cc (c.in-Ok-true.is, c.in-Ok-true.field-0-test) in
    step_ends said choice journal kept s fit numbered few there goes walk word call c.saturating_add-self.result c.line_number-self.result reports before line are now c.take_entry.result one c.take_entry.ensures.same entered c.finish_calls.new.self is c.finish_calls.ensures.same (end refl) c.finish_calls.ensures.freed) c.finish_calls.ensures.end

pub returns-in-Ok-true-clause-more : goal.returns-in-Ok-true-clause-more
returns-in-Ok-true-clause-more c = with_ok _ _ c.finish_calls.result (λ end. λ said heading fit numbered few there goes walk.
    let s = c.args.self.now in
    let lines = c.args.lines.now in
    let journal : Journal = record { heading = heading; lines = lines } in
    let kept = c.args.run.now in
    let choice = choice_in s.choice in
    let so = so_far said choice journal kept s fit numbered few there goes walk in
    let small = count_small said choice journal kept.keys s so there in
    let count : length c.records-waiting.result.now ≡ length s.list.records = ap length c.records-waiting.ensures in
    let before : c.saturating_add-self.result ≡ s.handed + length s.list.records = omega (arith, small, count) in
    let word = c.in-Some.word in
    let call : word_at lines s.next ≡ Some (CallLine word) = call_there (word_at lines s.next) word c.in-Some.ensures in
    let below = place_there lines s.next word call in
    let start : c.saturating_add.result ≡ s.next + 1 = omega (arith, below, few) in
    let places : HavePlaces lines = omega (arith, few) in
    let reports = c.reports_from.result in
    let are : AreReports lines (s.next + 1) (reports_in (drop (s.next + 1) lines)) reports =
    subst (λ (n : ℕ). AreReports lines n (reports_in (drop n lines)) reports) start (c.reports_from.ensures places) in
    let line : c.line_number-self.result ≡ s.next + 2 = c.line_number-self.ensures (omega (arith, below, few)) in
    let one = c.take_entry.new.self in
    let now = c.take_entry.new.run.keys in
    let entered = c.take_entry.ensures.entered said heading so.handed so.progress
    (is_before said choice journal kept s fit numbered few there goes walk word call c.saturating_add-self.result c.line_number-self.result reports before line are)
    (is_ready said choice journal kept s fit numbered few there goes walk word call c.saturating_add-self.result c.line_number-self.result reports before line are) in
    let is : c.take_entry.result ≡ Ok true = cc (c.in-Ok-true.is, c.in-Ok-true.field-0-test) in
    one_more_than s.list.records one.list.records c.finish_calls.new.self.list.records Finalize
    (step_more said choice journal kept s fit numbered few there goes walk word call c.saturating_add-self.result c.line_number-self.result reports before line are now c.take_entry.result one c.take_entry.ensures.same entered (Ok true) is (λ out. cc (out))) (end refl)) c.finish_calls.ensures.end

pub returns-in-Ok-false-clause-walk : goal.returns-in-Ok-false-clause-walk
returns-in-Ok-false-clause-walk c = λ said heading fit numbered few there goes walk.
    let s = c.args.self.now in
    let lines = c.args.lines.now in
    let journal : Journal = record { heading = heading; lines = lines } in
    let kept = c.args.run.now in
    let choice = choice_in s.choice in
    let so = so_far said choice journal kept s fit numbered few there goes walk in
    let small = count_small said choice journal kept.keys s so there in
    let count : length c.records-waiting.result.now ≡ length s.list.records = ap length c.records-waiting.ensures in
    let before : c.saturating_add-self.result ≡ s.handed + length s.list.records = omega (arith, small, count) in
    let word = c.in-Some.word in
    let call : word_at lines s.next ≡ Some (CallLine word) = call_there (word_at lines s.next) word c.in-Some.ensures in
    let below = place_there lines s.next word call in
    let start : c.saturating_add.result ≡ s.next + 1 = omega (arith, below, few) in
    let places : HavePlaces lines = omega (arith, few) in
    let reports = c.reports_from.result in
    let are : AreReports lines (s.next + 1) (reports_in (drop (s.next + 1) lines)) reports =
    subst (λ (n : ℕ). AreReports lines n (reports_in (drop n lines)) reports) start (c.reports_from.ensures places) in
    let line : c.line_number-self.result ≡ s.next + 2 = c.line_number-self.ensures (omega (arith, below, few)) in
    let one = c.take_entry.new.self in
    let now = c.take_entry.new.run.keys in
    let entered = c.take_entry.ensures.entered said heading so.handed so.progress
    (is_before said choice journal kept s fit numbered few there goes walk word call c.saturating_add-self.result c.line_number-self.result reports before line are)
    (is_ready said choice journal kept s fit numbered few there goes walk word call c.saturating_add-self.result c.line_number-self.result reports before line are) in
    let is : c.take_entry.result ≡ Ok false = cc (c.in-Ok-false.is, c.in-Ok-false.field-0-test) in
    step_on said choice journal kept s fit numbered few there goes walk word call c.saturating_add-self.result c.line_number-self.result reports before line are now c.take_entry.result one c.take_entry.ensures.same entered is c.take_entry.ensures.outcomes

pub returns-in-Ok-false-clause-more : goal.returns-in-Ok-false-clause-more
returns-in-Ok-false-clause-more c = λ said heading fit numbered few there goes walk.
    let s = c.args.self.now in
    let lines = c.args.lines.now in
    let journal : Journal = record { heading = heading; lines = lines } in
    let kept = c.args.run.now in
    let choice = choice_in s.choice in
    let so = so_far said choice journal kept s fit numbered few there goes walk in
    let small = count_small said choice journal kept.keys s so there in
    let count : length c.records-waiting.result.now ≡ length s.list.records = ap length c.records-waiting.ensures in
    let before : c.saturating_add-self.result ≡ s.handed + length s.list.records = omega (arith, small, count) in
    let word = c.in-Some.word in
    let call : word_at lines s.next ≡ Some (CallLine word) = call_there (word_at lines s.next) word c.in-Some.ensures in
    let below = place_there lines s.next word call in
    let start : c.saturating_add.result ≡ s.next + 1 = omega (arith, below, few) in
    let places : HavePlaces lines = omega (arith, few) in
    let reports = c.reports_from.result in
    let are : AreReports lines (s.next + 1) (reports_in (drop (s.next + 1) lines)) reports =
    subst (λ (n : ℕ). AreReports lines n (reports_in (drop n lines)) reports) start (c.reports_from.ensures places) in
    let line : c.line_number-self.result ≡ s.next + 2 = c.line_number-self.ensures (omega (arith, below, few)) in
    let one = c.take_entry.new.self in
    let now = c.take_entry.new.run.keys in
    let entered = c.take_entry.ensures.entered said heading so.handed so.progress
    (is_before said choice journal kept s fit numbered few there goes walk word call c.saturating_add-self.result c.line_number-self.result reports before line are)
    (is_ready said choice journal kept s fit numbered few there goes walk word call c.saturating_add-self.result c.line_number-self.result reports before line are) in
    let is : c.take_entry.result ≡ Ok false = cc (c.in-Ok-false.is, c.in-Ok-false.field-0-test) in
    step_more said choice journal kept s fit numbered few there goes walk word call c.saturating_add-self.result c.line_number-self.result reports before line are now c.take_entry.result one c.take_entry.ensures.same entered (Ok false) is (λ out. cc (out))

pub returns-in-Ok-false-clause-next : goal.returns-in-Ok-false-clause-next
returns-in-Ok-false-clause-next c = λ few.
    let s = c.args.self.now in
    let lines = c.args.lines.now in
    let word = c.in-Some.word in
    let call : word_at lines s.next ≡ Some (CallLine word) = call_there (word_at lines s.next) word c.in-Some.ensures in
    let below = place_there lines s.next word call in
    let start : c.saturating_add.result ≡ s.next + 1 = omega (arith, below, few) in
    let places : HavePlaces lines = omega (arith, few) in
    let end = (c.reports_from.ensures places).end in
    let next : c.take_entry.new.self.next ≡ c.reports_from.result.end = ap (λ (it : Walk). it.next) c.take_entry.ensures.same in
    inr (below, omega (arith, end, next, start))

pub returns-in-Err-Left-clause-walk : goal.returns-in-Err-Left-clause-walk
returns-in-Err-Left-clause-walk c = with_ok _ _ c.leave.result (λ end. λ said heading fit numbered few there goes walk.
    let s = c.args.self.now in
    let lines = c.args.lines.now in
    let journal : Journal = record { heading = heading; lines = lines } in
    let kept = c.args.run.now in
    let choice = choice_in s.choice in
    let so = so_far said choice journal kept s fit numbered few there goes walk in
    let small = count_small said choice journal kept.keys s so there in
    let count : length c.records-waiting.result.now ≡ length s.list.records = ap length c.records-waiting.ensures in
    let before : c.saturating_add-self.result ≡ s.handed + length s.list.records = omega (arith, small, count) in
    let word = c.in-Some.word in
    let call : word_at lines s.next ≡ Some (CallLine word) = call_there (word_at lines s.next) word c.in-Some.ensures in
    let below = place_there lines s.next word call in
    let start : c.saturating_add.result ≡ s.next + 1 = omega (arith, below, few) in
    let places : HavePlaces lines = omega (arith, few) in
    let reports = c.reports_from.result in
    let are : AreReports lines (s.next + 1) (reports_in (drop (s.next + 1) lines)) reports =
    subst (λ (n : ℕ). AreReports lines n (reports_in (drop n lines)) reports) start (c.reports_from.ensures places) in
    let line : c.line_number-self.result ≡ s.next + 2 = c.line_number-self.ensures (omega (arith, below, few)) in
    let one = c.take_entry.new.self in
    let now = c.take_entry.new.run.keys in
    let entered = c.take_entry.ensures.entered said heading so.handed so.progress
    (is_before said choice journal kept s fit numbered few there goes walk word call c.saturating_add-self.result c.line_number-self.result reports before line are)
    (is_ready said choice journal kept s fit numbered few there goes walk word call c.saturating_add-self.result c.line_number-self.result reports before line are) in
    let is : c.take_entry.result ≡ Err (Left c.in-Err-Left.why) = cc (c.in-Err-Left.is, c.in-Err-Left.field-0-is) in
    step_leaves said choice journal kept s fit numbered few there goes walk word call c.saturating_add-self.result c.line_number-self.result reports before line are now c.take_entry.result one c.take_entry.ensures.same entered c.leave.new.self c.in-Err-Left.why is c.leave.ensures.same end c.leave.ensures.freed) c.leave.ensures.end

pub returns-in-Err-Left-clause-more : goal.returns-in-Err-Left-clause-more
returns-in-Err-Left-clause-more c = with_ok _ _ c.leave.result (λ end. λ said heading fit numbered few there goes walk.
    let s = c.args.self.now in
    let lines = c.args.lines.now in
    let journal : Journal = record { heading = heading; lines = lines } in
    let kept = c.args.run.now in
    let choice = choice_in s.choice in
    let so = so_far said choice journal kept s fit numbered few there goes walk in
    let small = count_small said choice journal kept.keys s so there in
    let count : length c.records-waiting.result.now ≡ length s.list.records = ap length c.records-waiting.ensures in
    let before : c.saturating_add-self.result ≡ s.handed + length s.list.records = omega (arith, small, count) in
    let word = c.in-Some.word in
    let call : word_at lines s.next ≡ Some (CallLine word) = call_there (word_at lines s.next) word c.in-Some.ensures in
    let below = place_there lines s.next word call in
    let start : c.saturating_add.result ≡ s.next + 1 = omega (arith, below, few) in
    let places : HavePlaces lines = omega (arith, few) in
    let reports = c.reports_from.result in
    let are : AreReports lines (s.next + 1) (reports_in (drop (s.next + 1) lines)) reports =
    subst (λ (n : ℕ). AreReports lines n (reports_in (drop n lines)) reports) start (c.reports_from.ensures places) in
    let line : c.line_number-self.result ≡ s.next + 2 = c.line_number-self.ensures (omega (arith, below, few)) in
    let one = c.take_entry.new.self in
    let now = c.take_entry.new.run.keys in
    let entered = c.take_entry.ensures.entered said heading so.handed so.progress
    (is_before said choice journal kept s fit numbered few there goes walk word call c.saturating_add-self.result c.line_number-self.result reports before line are)
    (is_ready said choice journal kept s fit numbered few there goes walk word call c.saturating_add-self.result c.line_number-self.result reports before line are) in
    let is : c.take_entry.result ≡ Err (Left c.in-Err-Left.why) = cc (c.in-Err-Left.is, c.in-Err-Left.field-0-is) in
    one_more_than s.list.records one.list.records c.leave.new.self.list.records Open
    (step_more said choice journal kept s fit numbered few there goes walk word call c.saturating_add-self.result c.line_number-self.result reports before line are now c.take_entry.result one c.take_entry.ensures.same entered (Err (Left c.in-Err-Left.why)) is (λ out. cc (out))) end) c.leave.ensures.end

pub returns-in_default-clause-rank : goal.returns-in_default-clause-rank
returns-in_default-clause-rank c = (ap (λ (it : Walk). it.rank) c.finish_open.ensures.same, ap (λ (it : Walk). it.choice) c.finish_open.ensures.same)

pub returns-in_default-clause-handed : goal.returns-in_default-clause-handed
returns-in_default-clause-handed c = ap (λ (it : Walk). it.handed) c.finish_open.ensures.same

pub returns-in-Ok-true-clause-rank : goal.returns-in-Ok-true-clause-rank
returns-in-Ok-true-clause-rank c = (
  ap (λ (it : Walk). it.rank) c.finish_calls.ensures.same ∙ ap (λ (it : Walk). it.rank) c.take_entry.ensures.same,
  ap (λ (it : Walk). it.choice) c.finish_calls.ensures.same ∙ ap (λ (it : Walk). it.choice) c.take_entry.ensures.same,
)

pub returns-in-Ok-true-clause-handed : goal.returns-in-Ok-true-clause-handed
returns-in-Ok-true-clause-handed c =
    ap (λ (it : Walk). it.handed) c.finish_calls.ensures.same ∙ ap (λ (it : Walk). it.handed) c.take_entry.ensures.same

pub returns-in-Err-Left-clause-rank : goal.returns-in-Err-Left-clause-rank
returns-in-Err-Left-clause-rank c = (
  ap (λ (it : Walk). it.rank) c.leave.ensures.same ∙ ap (λ (it : Walk). it.rank) c.take_entry.ensures.same,
  ap (λ (it : Walk). it.choice) c.leave.ensures.same ∙ ap (λ (it : Walk). it.choice) c.take_entry.ensures.same,
)

pub returns-in-Err-Left-clause-handed : goal.returns-in-Err-Left-clause-handed
returns-in-Err-Left-clause-handed c =
    ap (λ (it : Walk). it.handed) c.leave.ensures.same ∙ ap (λ (it : Walk). it.handed) c.take_entry.ensures.same
