-- One journal more is cut, or isn't.
use Rattle.std.proofs.Common.{◌≡◌, ◌∙◌, Bool, true, false, Option, Some, arith, length, refl, slice_get, subst, sym}
use Rattle.std.specs.Prelude.{option_map}
use Rattle.std.proofs.lemmas.Option.{slice_get_read}
use Rattle.journals.specs.declared.journal.Journal.{Journal}
use Rattle.closing.specs.Entries.{is_cut_off, lines_in}
use Rattle.closing.specs.Journals.{journal_in}
use Rattle.closing.specs.inner.Noted.{HavePlaces}
use Rattle.closing.proofs.CutLemmas.{places_at, window_end, window_step}
use Rattle.closing.proofs.last.are_cut_off.Goals as goal

pub loop-rank-preserved : goal.loop-rank-preserved
loop-rank-preserved c =
    let journals = c.args.journals.now in
    let rank = c.loop-rank.rank in
    let it = c.index-journals-rank.result in
    let at = slice_get_read journals (length journals) rank it refl (omega (arith, c.loop-rank-test.true)) c.index-journals-rank.is in
    λ few.
    let cut : is_cut_off (option_map journal_in it) ≡ true =
    sym (subst (λ (one : Option Journal). HavePlaces (lines_in (option_map journal_in one)) → c.is_cut_off.result ≡ is_cut_off (option_map journal_in one)) c.as_ref.ensures.value c.is_cut_off.ensures (places_at journals rank it few at)) ∙ c.if-not-is_cut_off.false in
    sym (window_step journals rank it true at cut) ∙ c.loop-rank.invariant few

pub returns-then-not-is_cut_off : goal.returns-then-not-is_cut_off
returns-then-not-is_cut_off c =
    let journals = c.args.journals.now in
    let rank = c.loop-rank.rank in
    let it = c.index-journals-rank.result in
    let at = slice_get_read journals (length journals) rank it refl (omega (arith, c.loop-rank-test.true)) c.index-journals-rank.is in
    λ few.
    let cut : is_cut_off (option_map journal_in it) ≡ false =
    sym (subst (λ (one : Option Journal). HavePlaces (lines_in (option_map journal_in one)) → c.is_cut_off.result ≡ is_cut_off (option_map journal_in one)) c.as_ref.ensures.value c.is_cut_off.ensures (places_at journals rank it few at)) ∙ c.if-not-is_cut_off.true in
    sym (window_step journals rank it false at cut) ∙ c.loop-rank.invariant few

pub returns : goal.returns
returns c = λ few. sym (window_end c.args.journals.now c.loop-rank.rank (omega (arith, c.loop-rank-test.false))) ∙ c.loop-rank.invariant few
