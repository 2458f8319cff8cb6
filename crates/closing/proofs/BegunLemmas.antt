-- The list of a rank before its first entry: its preface, or that of a rank without a journal.
use Rattle.std.proofs.Common.{◌≡◌, ◌∙◌, refl, sym, ap, subst, arith, ℕ, ◌+◌, ◌<◌, ◌≤◌, Bool, true, false, List, [], ◌∷◌, ◌++◌, length, map, take, drop, Option, Some, None}
use Rattle.std.specs.Prelude.{if◌then◌else◌, is_none}
use Rattle.mpicall.specs.declared.call.Call.{Call}
use Rattle.mpicall.specs.declared.call.Call.TheVariants.{Open}
use Rattle.journals.specs.Journal.{Journal}
use Rattle.journals.specs.Lines.{Line}
use Rattle.closing.specs.Left.{left_said}
use Rattle.closing.specs.Entries.{Run, Placed, entries_at, entries_in, journal_at, lines_at, lines_in}
use Rattle.closing.specs.Entry.{Choice, matched_message}
use Rattle.closing.specs.Fit.{AreFormed, EntriesFit, IsFit, TestsFit, report_count}
use Rattle.closing.specs.Freed.{is_freed}
use Rattle.closing.specs.Numbers.{preface_of}
use Rattle.closing.specs.Pending.{PendingCall, pending_in, unknown, pending_said}
use Rattle.closing.specs.Recording.{Listed, cut, ended, list_from, list_of, most_records, progress_first, without_journal}
use Rattle.closing.specs.Steps.{Own, plain}
use Rattle.closing.specs.Table.{Table}
use Rattle.closing.specs.inner.Lists.{Handed, HasPlaces, Stands}
use Rattle.closing.specs.inner.Noted.{reports_in}
use Rattle.closing.specs.inner.RequestReports.{AreReadable}
use Rattle.closing.specs.inner.SoFar.{AreOfLine, IsBegun, IsOn, IsPart, IsWalk, entries_left}
use Rattle.closing.specs.inner.Sinks.{named_in}
use Rattle.closing.specs.inner.Table.{Grows}
use Rattle.closing.specs.inner.Taken.{IsKept, sinks_stand}
use Rattle.closing.specs.declared.freed.Freed.{Freed}
use Rattle.closing.specs.declared.list.List.{List as ListCode}
use Rattle.closing.specs.declared.numbers.Communicators.{Communicators}
use Rattle.closing.specs.declared.pending.Item.{Item}
use Rattle.closing.specs.declared.pending.Pending.{Pending}
use Rattle.closing.specs.declared.walk.Walk.{Walk}
use Rattle.closing.specs.declared.why.Why.TheVariants.{NoJournal}
use Rattle.closing.proofs.AtLemmas.{rank_within}
use Rattle.closing.proofs.EndedLemmas.{IsKnownOf, earlier_of, known_of, unsunk_left}
use Rattle.closing.proofs.LineLemmas.{IsEnded, calls_ended}
use Rattle.closing.proofs.ListLemmas.{line_past, plain_line}
use Rattle.closing.proofs.MatchedLemmas.{no_matched}
use Rattle.closing.proofs.PartLemmas.{cut_short}
use Rattle.closing.proofs.PlacedLemmas.{entries_after_reports, none_after}
use Rattle.closing.proofs.UnsunkLemmas.{kept_on, unsunk_plain}
use Rattle.closing.proofs.WalkLemmas.{part_of_on}

true_false : (b : Bool) → b ≡ true → b ≡ false → ⊥
true_false true one other = cc (other)
true_false false one other = cc (one)

preface_line : (calls : List Call) → AreOfLine 0 0 (plain 0 calls)
preface_line calls = λ place from within. line_past [] (plain 0 calls) 0 place (plain_line 0 calls) from (omega (arith, within))

-- what stays as the entries of a rank are taken, as long as nothing was handed on
abbrev pub first_of : Run → ℕ → Handed
first_of run rank = record { calls = []; frees = is_freed (lines_at run rank) }

-- nothing is kept of sinks, nor of a pending call
pub record HasNone (walk : Walk) : Type 0 where
  pub all : walk.sinks.all.items ≡ []
  pub named : (id : ℕ) → named_in walk.sinks id ≡ None
  pub pending : pending_said walk.pending ≡ unknown
  pub left_out : walk.left_out.items ≡ []

pub none_pending : (it : Pending) → it.is_for_all ≡ true → it.items.items ≡ [] → pending_said it ≡ unknown
none_pending it all none =
    ap (λ (b : Bool). pending_of b it.items.items) all ∙ ap (λ (items : List Item). pending_of true items) none
  where
    pending_of : Bool → List Item → PendingCall
    pending_of b items = record { is_for_all = b; items = items }

-- there are none in a preface
pub none_kept : (calls : List Call) (walk : Walk) → HasNone walk → IsKept (plain 0 calls) walk
none_kept calls walk none =
    kept_on walk [] (plain 0 calls) (plain 0 calls) refl (unsunk_plain 0 calls) (record {
      sinks = record { all = none.all; named = none.named };
      pending = none.pending;
      left_out = ap (map (left_said walk.rank)) none.left_out;
    })

pub none_as : (old new : Walk) → new.sinks ≡ old.sinks → new.pending ≡ old.pending → new.left_out ≡ old.left_out → HasNone old → HasNone new
none_as old new sinks pending left_out none = record {
  all = rw sinks none.all;
  named = rw sinks none.named;
  pending = rw pending none.pending;
  left_out = rw left_out none.left_out;
}

-- what else is known of a walk to which nothing was added but its preface
pub record IsFirst (run : Run) (rank : ℕ) (walk : Walk) : Type 0 where
  pub rank_is : walk.rank ≡ rank
  pub stands : Stands (first_of run rank) (progress_first run rank) walk.list
  pub handed : walk.handed ≡ 0
  pub before : walk.before ≡ 0
  pub line : walk.line ≡ 0
  pub late : walk.late.items ≡ []
  pub left : walk.left ≡ None
  pub on : walk.is_over ≡ false
  pub none : HasNone walk

module _ (run : Run) (choice : Choice) (journal : Journal) (table : Table) (walk : Walk) (fit : IsFit run choice) (there : journal_at run walk.rank ≡ Some journal)
    (first : IsFirst run walk.rank walk) (begun : IsBegun table journal walk) where
  reports_first : length (reports_in (drop 0 journal.lines)) ≡ walk.next
  reports_first = sym begun.next

  entries_first : entries_at run walk.rank ≡ entries_left walk.rank journal walk.next
  entries_first =
      ap (entries_in walk.rank) there
      ∙ entries_after_reports walk.rank journal 0 (length (reports_in (drop 0 journal.lines))) refl
      ∙ ap (entries_left walk.rank journal) (omega (arith, reports_first))

  pub begun_on : IsOn run choice table walk
  begun_on = record {
    journal = journal;
    there = there;
    so_far = record {
      handed = first_of run walk.rank;
      progress = progress_first run walk.rank;
      count = sym first.handed;
      frees = ap (λ (it : Option Journal). is_freed (lines_in it)) there;
      stands = first.stands;
      late = ap (map Own) first.late;
      kept = none_kept (preface_of run walk.rank) walk first.none;
      earlier = earlier_of 0 (walk.next + 2) (plain 0 (preface_of run walk.rank)) (omega arith) (plain_line 0 (preface_of run walk.rank));
      list = ap (list_from run choice (progress_first run walk.rank)) (sym entries_first);
      fit = subst (λ (entries : List Placed). EntriesFit run choice (progress_first run walk.rank) entries) entries_first
          (fit.entries walk.rank (rank_within run walk.rank journal there));
      tests = subst (λ (entries : List Placed). TestsFit run choice (progress_first run walk.rank) entries) entries_first
          (fit.tests walk.rank (rank_within run walk.rank journal there));
      comms = begun.comms;
      last = begun.last;
      reported = begun.reported;
      requests = λ request.
          begun.requests request
          ∙ sym (ap (λ n. matched_message (take n journal.lines) request) begun.next ∙ no_matched journal.lines request);
      at_call =
          let same : 0 + length (reports_in (drop 0 journal.lines)) ≡ walk.next = omega (arith, reports_first) in
          ap (λ n. reports_in (drop n journal.lines)) (sym same)
          ∙ none_after journal.lines 0 (length (reports_in (drop 0 journal.lines))) refl;
      left = first.left;
    };
    lines = rw (first.line, first.before) (preface_line (preface_of run walk.rank));
  }

  pub begun_walk : IsWalk run choice table walk
  begun_walk = record {
    part = part_of_on run choice table walk begun_on first.on;
    on = λ goes. begun_on;
    freed = λ over. absurd (true_false walk.is_over over first.on);
    known = λ over. absurd (true_false walk.is_over over first.on);
  }

-- ---- Without a journal ----

-- what else is known of a walk that was left after its preface
pub record IsLeft (run : Run) (rank : ℕ) (list : ListCode) (walk : Walk) : Type 0 where
  pub rank_is : walk.rank ≡ rank
  pub stands : Stands (first_of run rank) (progress_first run rank) list
  pub items : walk.list.records ≡ list.records ++ Open ∷ []
  pub freed : walk.list.freed ≡ list.freed
  pub handed : walk.handed ≡ 0
  pub before : walk.before ≡ 0
  pub line : walk.line ≡ 0
  pub left : walk.left ≡ Some (record { line = 0; why = NoJournal })
  pub over : walk.is_over ≡ true
  pub none : HasNone walk

pub left_walk : (run : Run) (choice : Choice) (table : Table) (list : ListCode) (walk : Walk) → journal_at run walk.rank ≡ None → IsLeft run walk.rank list walk
    → IsWalk run choice table walk
left_walk run choice table list walk none is = record {
  part = subst (λ (it : Listed). IsPart it walk) (sym listed) (record {
    handed = [];
    rest = [];
    has = record {
      calls = ended_is.has.calls ∙ ap (λ xs. xs ++ []) (sym is.items);
      lines = λ place from within.
          ended_is.has.lines place (omega (arith, from)) (omega (arith, within, ap length is.items)) ∙ sym is.line;
    };
    count = sym is.handed;
    over = λ over. (refl, is.left ∙ ap (λ line. Some (record { line = line; why = NoJournal })) (sym ended_is.line_is));
  });
  on = λ goes. absurd (true_false walk.is_over is.over goes);
  freed = λ over.
      subst (λ (it : Freed). HasPlaces (is_freed (lines_at run walk.rank)) (list_of run choice walk.rank).records it) (sym is.freed)
      (subst (λ (it : Listed). HasPlaces (is_freed (lines_at run walk.rank)) it.records list.freed) (sym listed) ended_is.places);
  known = λ over. known_of run choice walk.rank (without_journal true whole) walk refl (listed ∙ ap (without_journal true) (cut_short whole few)) known_is;
}
  where
    few : length (plain 0 (preface_of run walk.rank)) < most_records
    few = omega (arith, is.stands.count, is.stands.short)

    whole : Listed
    whole = ended (progress_first run walk.rank) Open 0 None

    listed : list_of run choice walk.rank ≡ without_journal true (cut whole)
    listed = ap (λ (it : Option Journal). without_journal (is_none it) (cut (list_from run choice (progress_first run walk.rank) (entries_in walk.rank it)))) none

    kept : IsKept (plain 0 (preface_of run walk.rank)) walk
    kept = none_kept (preface_of run walk.rank) walk is.none

    known_is : IsKnownOf run choice walk.rank (without_journal true whole) walk
    known_is = record {
      sinks = kept.sinks.all;
      pending = kept.pending ∙ both (sinks_stand choice.unreported);
      left_out = ap (map (left_said walk.rank)) is.none.left_out ∙ sym (unsunk_left walk.rank (without_journal true whole) (plain 0 (preface_of run walk.rank)) (unsunk_plain 0 (preface_of run walk.rank)));
    }
      where
        both : (b : Bool) → unknown ≡ (if b then pending_in run (without_journal true whole) (entries_at run walk.rank) else unknown)
        both true = sym (ap (λ (it : Option Journal). pending_in run (without_journal true whole) (entries_in walk.rank it)) none)
        both false = refl

    ended_is : IsEnded (cut whole) (first_of run walk.rank) list Open 0 0 None
    ended_is =
        calls_ended (progress_first run walk.rank) (first_of run walk.rank) list Open 0 0 None (omega (arith, is.stands.count, is.stands.short))
        is.stands.records is.stands.places (preface_line (preface_of run walk.rank))

-- ---- As a walk is made ----

-- nothing was taken so far
pub record IsEmpty (walk : Walk) : Type 0 where
  pub handed : walk.handed ≡ 0
  pub before : walk.before ≡ 0
  pub line : walk.line ≡ 0
  pub late : walk.late.items ≡ []
  pub left : walk.left ≡ None
  pub on : walk.is_over ≡ false
  pub none : HasNone walk

module _ (run : Run) (choice : Choice) (table : Table) (empty put : Walk) (is_empty : IsEmpty empty) (listed : put ≡ record empty { list = put.list })
    (stands : Stands (first_of run empty.rank) (progress_first run empty.rank) put.list) where
  -- with a journal
  pub new_begun : (journal : Journal) (walk : Walk) → walk ≡ record put { requests = walk.requests; last = walk.last; comms = walk.comms; next = walk.next }
      → IsFit run choice → journal_at run empty.rank ≡ Some journal → IsBegun table journal walk → IsWalk run choice table walk
  new_begun journal walk same fit there begun =
      let rank : walk.rank ≡ empty.rank = ap (λ (it : Walk). it.rank) same ∙ ap (λ (it : Walk). it.rank) listed in
      begun_walk run choice journal table walk fit (subst (λ (n : ℕ). journal_at run n ≡ Some journal) (sym rank) there)
      (record {
        rank_is = refl;
        stands = subst (λ (n : ℕ). Stands (first_of run n) (progress_first run n) walk.list) (sym rank)
            (subst (λ (it : ListCode). Stands (first_of run empty.rank) (progress_first run empty.rank) it) (sym (ap (λ (it : Walk). it.list) same)) stands);
        handed = ap (λ (it : Walk). it.handed) same ∙ ap (λ (it : Walk). it.handed) listed ∙ is_empty.handed;
        before = ap (λ (it : Walk). it.before) same ∙ ap (λ (it : Walk). it.before) listed ∙ is_empty.before;
        line = ap (λ (it : Walk). it.line) same ∙ ap (λ (it : Walk). it.line) listed ∙ is_empty.line;
        late = ap (λ (it : Walk). it.late.items) same ∙ ap (λ (it : Walk). it.late.items) listed ∙ is_empty.late;
        left = ap (λ (it : Walk). it.left) same ∙ ap (λ (it : Walk). it.left) listed ∙ is_empty.left;
        on = ap (λ (it : Walk). it.is_over) same ∙ ap (λ (it : Walk). it.is_over) listed ∙ is_empty.on;
        none = none_as empty walk (ap (λ (it : Walk). it.sinks) same ∙ ap (λ (it : Walk). it.sinks) listed) (ap (λ (it : Walk). it.pending) same ∙ ap (λ (it : Walk). it.pending) listed)
            (ap (λ (it : Walk). it.left_out) same ∙ ap (λ (it : Walk). it.left_out) listed) is_empty.none;
      })
      begun

  -- without one
  pub new_left : (walk : Walk) → walk ≡ record put { list = walk.list; is_over = true; left = Some (record { line = put.line; why = NoJournal }) }
      → walk.list.records ≡ put.list.records ++ Open ∷ [] → walk.list.freed ≡ put.list.freed → journal_at run empty.rank ≡ None → IsWalk run choice table walk
  new_left walk same items freed there =
      let rank : walk.rank ≡ empty.rank = ap (λ (it : Walk). it.rank) same ∙ ap (λ (it : Walk). it.rank) listed in
      let line : put.line ≡ 0 = ap (λ (it : Walk). it.line) listed ∙ is_empty.line in
      left_walk run choice table put.list walk (subst (λ (n : ℕ). journal_at run n ≡ None) (sym rank) there)
      (record {
        rank_is = refl;
        stands = subst (λ (n : ℕ). Stands (first_of run n) (progress_first run n) put.list) (sym rank) stands;
        items = items;
        freed = freed;
        handed = ap (λ (it : Walk). it.handed) same ∙ ap (λ (it : Walk). it.handed) listed ∙ is_empty.handed;
        before = ap (λ (it : Walk). it.before) same ∙ ap (λ (it : Walk). it.before) listed ∙ is_empty.before;
        line = ap (λ (it : Walk). it.line) same ∙ line;
        left = ap (λ (it : Walk). it.left) same ∙ ap (λ (n : ℕ). Some (record { line = n; why = NoJournal })) line;
        over = ap (λ (it : Walk). it.is_over) same;
        none = none_as empty walk (ap (λ (it : Walk). it.sinks) same ∙ ap (λ (it : Walk). it.sinks) listed) (ap (λ (it : Walk). it.pending) same ∙ ap (λ (it : Walk). it.pending) listed)
            (ap (λ (it : Walk). it.left_out) same ∙ ap (λ (it : Walk). it.left_out) listed) is_empty.none;
      })

-- the lines of a journal that fits can be read
pub readable_lines : (run : Run) (choice : Choice) (rank : ℕ) (journal : Journal) → IsFit run choice → journal_at run rank ≡ Some journal → length (lines_at run rank) ≤ 4294967292
    → AreReadable journal.lines
readable_lines run choice rank journal fit there few =
    let same : lines_at run rank ≡ journal.lines = ap lines_in there in
    let count : length (lines_at run rank) ≡ length journal.lines = ap length same in
    record {
      few = omega (arith, few, count);
      formed = subst (λ (lines : List Line). AreFormed lines) same (fit.formed rank);
      once = λ request. subst (λ (lines : List Line). report_count lines request ≤ 1) same (fit.once rank request);
    }

-- where the run and the walk are these
pub new_as : (run : Run) (choice : Choice) (old : Table) (kept now : Communicators) (walk made : Walk) → now ≡ kept → made ≡ walk → IsWalk run choice kept.keys walk → Grows old kept.keys
    → IsWalk run choice now.keys made × Grows old now.keys
new_as run choice old kept now walk made kept_is walk_is is grows = (
  subst (λ (it : Walk). IsWalk run choice now.keys it) (sym walk_is) (subst (λ (it : Communicators). IsWalk run choice it.keys walk) (sym kept_is) is),
  subst (λ (it : Communicators). Grows old it.keys) (sym kept_is) grows,
)
