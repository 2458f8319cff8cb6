-- Where the list of a rank more ends before its end, and which of its entries stand in no line of their own.
use Rattle.std.proofs.Common.{◌<◌, length, map, arith}
use Rattle.closing.specs.Left.{left_said as left_found}
use Rattle.judging.proofs.LeftLemmas.{left_none, left_pushed, left_whole_at, none_found, short_pushed}
use Rattle.lawful.proofs.ReadRuns.{fit_of_read}
use Rattle.judging.proofs.judge.left_of.Goals.{in-Some+in_ok-push, in_default}
use Rattle.judging.proofs.judge.left_of.Goals as goal

pub loop-rank-preserved : goal.loop-rank-preserved
loop-rank-preserved c =
    let it = c.args.recording.now in
    let rank = c.loop-rank.rank in
    let so_far = c.loop-rank.invariant in
    let put = c.in_ok-add_left_out.ensures in
    elim c.match-left.branch [
      | in-Some+in_ok-push w ↦
          rw w.all-is
          (record {
            short = short_pushed c.add_left_out.new.all.items w.push.new.self.items _ (put.short so_far.short) w.left_at.ensures.short w.in_ok-push.ensures.items;
            left = λ done.
                let within : rank < length it.run = omega (arith, c.loop-rank-test.true, c.ranks-rank-end.ensures.ranks) in
                let fit = fit_of_read it.run it.choice done.read in
                left_pushed it.run it.choice rank c.loop-rank.all.items c.add_left_out.new.all.items (map (left_found rank) c.left_out.result.now) c.left.result
                (c.left.ensures fit within (done.over rank within)) (c.left_out.ensures fit within (done.over rank within)) put.left (so_far.left done)
                w.push.new.self.items w.in-Some.left _ w.in_ok-push.ensures.items w.left_at.ensures.said w.in-Some.is;
          })
      | in_default w ↦
          rw w.all-is
          (record {
            short = put.short so_far.short;
            left = λ done.
                let within : rank < length it.run = omega (arith, c.loop-rank-test.true, c.ranks-rank-end.ensures.ranks) in
                let fit = fit_of_read it.run it.choice done.read in
                left_none it.run it.choice rank c.loop-rank.all.items c.add_left_out.new.all.items (map (left_found rank) c.left_out.result.now) c.left.result
                (c.left.ensures fit within (done.over rank within)) (c.left_out.ensures fit within (done.over rank within)) put.left (so_far.left done)
                (none_found c.left.result w.in_default.not-Some);
          })
    ]

pub returns-clause-left : goal.returns-clause-left
returns-clause-left c = λ done.
    let it = c.args.recording.now in
    left_whole_at it.run it.choice c.loop-rank.rank c.loop-rank.all.items (omega (arith, c.loop-rank-test.false, c.loop-rank.auto.rank-end, c.ranks-rank-end.ensures.ranks)) (c.loop-rank.invariant.left done)
