-- The journal of a rank is taken, if it has one.
use Rattle.std.proofs.Common.{◌≡◌, ◌∙◌, ◌++◌, ap, arith, Some, None}
use Rattle.std.specs.Prelude.{option_map}
use Rattle.std.specs.Option.{option_copied}
use Rattle.journals.specs.Journal.{Journal}
use Rattle.closing.specs.RankComms.{comms_after, comms_first}
use Rattle.closing.specs.Entries.{journal_at}
use Rattle.closing.specs.inner.Noted.{HavePlaces}
use Rattle.closing.specs.inner.Surveyed.{journal_of_code, names_from}
use Rattle.closing.proofs.RankLemmas.{rank_none, rank_some}
use Rattle.closing.proofs.SurveyLemmas.{keeps_on}
use Rattle.closing.proofs.survey.Survey.take_rank.Goals as goal

pub returns-clause-takes : goal.returns-clause-takes
returns-clause-takes c run is before names has =
    let none : journal_at run c.args.rank ≡ None = is ∙ ap (λ j. option_map journal_of_code (option_copied j)) c.in-None.is in
    rank_none run c.args.rank before names c.args.self.now c.start_rank.new.self c.in_ok-comms.comms none (c.in_ok-comms.ensures.starts before names has)

pub returns-in-Some-clause-takes : goal.returns-in-Some-clause-takes
returns-in-Some-clause-takes c run is before names has =
    let a = c.args.self.now in
    let b = c.start_rank.new.self in
    let d = c.take_all.new.self in
    let journal : Journal = journal_of_code c.in-Some.journal.now in
    let places : HavePlaces journal.lines = omega (arith, c.in_ok-checked_place-in-Some.ensures, c.count.ensures) in
    let first = c.in_ok-comms.ensures.starts before names has in
    let more = c.in_ok-take_all-in-Some.ensures.takes before names c.args.rank places first.is in
    let some : journal_at run c.args.rank ≡ Some journal = is ∙ ap (λ j. option_map journal_of_code (option_copied j)) c.in-Some.is in
    rank_some run c.args.rank before names a d c.take_all.new.comms journal c.wave_of_last.result some
    (keeps_on before names (names ++ names_from (comms_first c.args.rank) journal.lines) (comms_first c.args.rank) (comms_after c.args.rank journal.lines) a b d c.in_ok-comms.comms c.take_all.new.comms first more)
    (c.wave_of_last.ensures d.keys c.args.rank places more.is.has_comms)
