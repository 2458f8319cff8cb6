-- One rank more is taken.
use Rattle.std.proofs.Common.{◌≡◌, ◌∙◌, ◌∷◌, ◌++◌, [], ℕ, ap, arith, length, refl}
use Rattle.std.specs.List.{flat_map, range_with_len}
use Rattle.closing.specs.inner.Surveyed.{keys_got, names_at}
use Rattle.closing.specs.declared.survey.Survey.{Survey}
use Rattle.closing.proofs.RankLemmas.{journal_takes}
use Rattle.closing.proofs.survey.Survey.take_journal.Goals as goal

pub returns : goal.returns
returns c run is to =
    let rank = c.args.rank in
    let a = c.args.self.now in
    let b = c.take_rank.new.self in
    let d : Survey = record b { waiting = c.push.new.self; ends = c.push-2.new.self } in
    let count : c.len.result ≡ length b.got.items = omega (arith, c.len.ensures, b.got.ok.0) in
    let takes = c.in_ok-waiting.ensures.takes run is (flat_map (keys_got run) (range_with_len 0 rank)) (flat_map (names_at run) (range_with_len 0 rank)) to.has in
    journal_takes run rank a b d c.in_ok-waiting.waiting to takes c.in_ok-waiting.ensures.same refl c.in_ok-push.ensures.items
    (c.in_ok-push-2.ensures.items ∙ ap (λ (n : ℕ). b.ends.items ++ n ∷ []) count)
