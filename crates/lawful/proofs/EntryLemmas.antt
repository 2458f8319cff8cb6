-- An entry whose call may make a communicator: what the rank's list has after it.
use Rattle.std.proofs.Common.{◌≡◌, ℕ, ◌<◌, true, false, Option, Some, None, List, [], ◌∷◌, ◌++◌, length, refl, sym, ap, subst, ◌∙◌, arith, eq-eqb, eqb-true, inl, inr}
use Rattle.std.specs.Prelude.{option_map, option_and_then}
use Rattle.std.specs.List.{list_any}
use Rattle.std.proofs.lemmas.Bool.{cases_Bool, false≢true}
use Rattle.std.proofs.lemmas.Option.{none-some, same_Some}
use Rattle.mpicall.specs.declared.call.Call.{Call}
use Rattle.callstore.specs.Communicators.{comm_of as comm_named, does_make}
use Rattle.pairing.specs.Faults.{holds_comm}
use Rattle.journals.specs.Lines.{Line}
use Rattle.journals.specs.Entries.{group_in}
use Rattle.journals.specs.Known.{report_of}
use Rattle.journals.specs.declared.word.ReportWord.TheVariants as report
use Rattle.closing.specs.Keys.{Key, World, Made, same_key, key_count}
use Rattle.closing.specs.RankComms.{Wave, makes_comm, wave_next, with_some}
use Rattle.closing.specs.Entries.{Run, Placed}
use Rattle.closing.specs.Made.{wave_at, key_made}
use Rattle.closing.specs.Numbers.{number_of, groups_of}
use Rattle.closing.specs.Entry.{giving_line, bare_line, maker_by, maker}
use Rattle.lawful.proofs.KeyLemmas.{one_number_is_one_communicator}
use Rattle.lawful.proofs.HoldLemmas.{Holds, hold_more, any_more, any_last, holds_more, held_made}
use Rattle.lawful.proofs.LineFacts.{LinesFit}
use Rattle.lawful.proofs.KeyFacts.{fresh}
use Rattle.lawful.proofs.KeptLemmas.{IsUsed, Ready, Has, Source, Kept, KeptBy, Own, wave_counts, wave_used, used_some}
use Rattle.lawful.proofs.MakerLemmas.{Gives, IsBare, GaveKey, giving_gives, bare_is, made_gave}

-- the waves after the call
abbrev pub waves_after : Placed → List Key
waves_after placed = with_some placed.comms.waves (option_map (λ (wave : Wave). wave.parent) (wave_next placed.comms placed.called))

-- what a list has with the call of an entry at its end
pub record After (run : Run) (rank : ℕ) (placed : Placed) (calls : List Call) (call : Call) : Type 0 where
  pub kept : Kept run rank placed.comms.numbers (waves_after placed) None (calls ++ call ∷ [])
  -- the communicator that it gave
  pub gave : (key : Key) → key_made run placed ≡ Some key → Ready run (calls ++ call ∷ []) key

holds_on : (run : Run) (rank comm : ℕ) (calls : List Call) (call : Call) → comm_named call ≡ Some comm → Own (groups_of run) rank calls comm → holds_comm (groups_of run) rank calls call ≡ true
holds_on run rank comm calls call is own = rw is own

ready_more : (run : Run) (calls : List Call) (call : Call) (key : Key) → Ready run calls key → Ready run (calls ++ call ∷ []) key
ready_more run calls call key ready number h = holds_more calls call number (ready number h)

has_more : (run : Run) (rank : ℕ) (calls : List Call) (call : Call) (key : Key) → Has run rank calls key → Has run rank (calls ++ call ∷ []) key
has_more run rank calls call key has = record { member = has.member; ready = ready_more run calls call key has.ready }

source_after : (run : Run) (placed : Placed) (number : ℕ) → Source run placed.comms.waves number → Source run (waves_after placed) number
source_after run placed number source =
    record { key = source.key; is_number = source.is_number; used = used_some placed.comms.waves (option_map (λ (wave : Wave). wave.parent) (wave_next placed.comms placed.called)) source.key source.used }

kept_after : (run : Run) (rank : ℕ) (placed : Placed) (calls : List Call) (call : Call) → Holds (groups_of run) rank calls call → ((number : ℕ) → does_make number call ≡ true → Source run (waves_after placed) number) → KeptBy run rank placed.comms calls → Kept run rank placed.comms.numbers (waves_after placed) None (calls ++ call ∷ [])
kept_after run rank placed calls call passes new kept = record {
  all = hold_more (groups_of run) rank calls call kept.all passes;
  made = λ number made. elim (cases_Bool (list_any (does_make number) calls)) [
    | inl before ↦ source_after run placed number (kept.made number before)
    | inr not_before ↦ new number (rw (any_more (does_make number) calls call, not_before) at made)
  ];
  ready = λ key no_call member. ready_more run calls call key (kept.ready key no_call member);
  has = λ number key h. has_more run rank calls call key (kept.has number key h);
  own_has = λ key h. absurd (none-some key h);
}

-- ---- A call that gives none ----

bare_after : (run : Run) (rank comm : ℕ) (placed : Placed) (calls : List Call) (call : Call) → IsBare comm call → Own (groups_of run) rank calls comm → KeptBy run rank placed.comms calls → Kept run rank placed.comms.numbers (waves_after placed) None (calls ++ call ∷ [])
bare_after run rank comm placed calls call bare own kept =
    kept_after run rank placed calls call
    (record { comms = holds_on run rank comm calls call bare.comm_is own; afresh = bare.afresh (groups_of run) rank calls })
    (λ number made. absurd (false≢true (rw bare.makes_none at made))) kept

-- ---- A call that gives one ----

-- no call made it so far
not_yet : (run : Run) (rank : ℕ) (placed : Placed) (calls : List Call) (key : Key) (number : ℕ) → GaveKey (length run) rank placed key → number_of run key ≡ Some number → KeptBy run rank placed.comms calls → list_any (does_make number) calls ≡ false
not_yet run rank placed calls key number gave h kept =
    elim (cases_Bool (list_any (does_make number) calls)) [
      | inl made ↦ absurd (twice made)
      | inr not_made ↦ not_made
    ]
  where
    twice : list_any (does_make number) calls ≡ true → ⊥
    twice made =
        let source = kept.made number made in
        let same : source.key ≡ Made gave.wave.parent gave.wave.count gave.of_wave.group =
        one_number_is_one_communicator run source.key key number source.is_number h ∙ gave.of_wave.key_is in
        let used : gave.wave.count < key_count gave.wave.parent placed.comms.waves = subst (λ (k : Key). IsUsed placed.comms.waves k) same source.used in
        let count = wave_counts placed.comms placed.called gave.wave gave.wave_is in
        omega (arith, used, count)

gives_after : (run : Run) (rank comm : ℕ) (placed : Placed) (calls : List Call) (call : Call) (key : Key) (number : ℕ) → Gives comm number call → GaveKey (length run) rank placed key → number_of run key ≡ Some number → Own (groups_of run) rank calls comm → KeptBy run rank placed.comms calls → Kept run rank placed.comms.numbers (waves_after placed) None (calls ++ call ∷ [])
gives_after run rank comm placed calls call key number gives gave h own kept =
    let other : same_key key World ≡ false = rw gave.of_wave.key_is refl in
    let new = fresh run rank calls key number h other gave.of_wave.member (not_yet run rank placed calls key number gave h kept) in
    kept_after run rank placed calls call
    (record { comms = holds_on run rank comm calls call gives.comm_is own; afresh = gives.afresh (groups_of run) rank calls ∙ new })
    (λ made_number made. record {
      key = key;
      is_number = h ∙ ap (λ (n : ℕ). Some n) (eqb-true number made_number (rw gives.makes_it at made));
      used = subst (λ (k : Key). IsUsed (waves_after placed) k) (sym gave.of_wave.key_is) (wave_used placed.comms placed.called gave.wave gave.of_wave.group gave.wave_is);
    }) kept

gives_ready : (run : Run) (comm : ℕ) (calls : List Call) (call : Call) (key : Key) (number : ℕ) → Gives comm number call → number_of run key ≡ Some number → Ready run (calls ++ call ∷ []) key
gives_ready run comm calls call key number gives h other e =
    let same : number ≡ other = same_Some number other (sym h ∙ e) in
    held_made (calls ++ call ∷ []) other (any_last (does_make other) calls call (rw (gives.makes_it, same) (eq-eqb other other refl)))

maker_after_by : (run : Run) (rank comm : ℕ) (placed : Placed) (calls : List Call) (made : Option Key) (new : Option ℕ) → key_made run placed ≡ made → option_and_then (number_of run) made ≡ new → placed.rank ≡ rank → LinesFit rank placed.entry.reports → Own (groups_of run) rank calls comm → KeptBy run rank placed.comms calls → After run rank placed calls (maker_by run placed comm made new)
maker_after_by run rank comm placed calls (Some key) (Some number) made h is_rank fits own kept =
    let gives = giving_gives run placed comm placed.called key number in
    record {
      kept = gives_after run rank comm placed calls (giving_line run placed comm placed.called key number) key number gives (made_gave run rank placed key is_rank fits made) h own kept;
      gave = λ other e. subst (λ (k : Key). Ready run (calls ++ giving_line run placed comm placed.called key number ∷ []) k) (same_Some key other (sym made ∙ e))
          (gives_ready run comm calls (giving_line run placed comm placed.called key number) key number gives h);
    }
maker_after_by run rank comm placed calls (Some key) None made h is_rank fits own kept = record {
  kept = bare_after run rank comm placed calls (bare_line run placed comm) (bare_is run placed comm) own kept;
  gave = λ other e number is. absurd (none-some number (sym h ∙ ap (number_of run) (same_Some key other (sym made ∙ e)) ∙ is));
}
maker_after_by run rank comm placed calls None new made h is_rank fits own kept = record {
  kept = bare_after run rank comm placed calls (bare_line run placed comm) (bare_is run placed comm) own kept;
  gave = λ other e. absurd (none-some other (sym made ∙ e));
}

pub maker_after : (run : Run) (rank comm : ℕ) (placed : Placed) (calls : List Call) → placed.rank ≡ rank → LinesFit rank placed.entry.reports → Own (groups_of run) rank calls comm → KeptBy run rank placed.comms calls → After run rank placed calls (maker run placed comm)
maker_after run rank comm placed calls is_rank fits own kept =
    maker_after_by run rank comm placed calls (key_made run placed) (option_and_then (number_of run) (key_made run placed)) refl refl is_rank fits own kept

-- a report of the call gives what it made
pub reported_made : (run : Run) (placed : Placed) (wave : Wave) (line : Line) → makes_comm placed.called ≡ true → wave_at placed ≡ Some wave → report_of report.Comm placed.entry ≡ Some line → key_made run placed ≡ Some (Made wave.parent wave.count (group_in line))
reported_made run placed wave line makes_one wave_is line_is = rw (makes_one, line_is, wave_is) refl
