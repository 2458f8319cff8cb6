-- A split without a colour where the wave brings one, else a barrier.
use Rattle.std.proofs.Common.{◌∙◌, ap, rules, sym, w32}
use Rattle.std.proofs.lemmas.Int.{to_z-of_z}
use Rattle.closing.specs.Entry.{split_key}
use Rattle.closing.specs.Made.{wave_at}
use Rattle.closing.proofs.MakerLemmas.{bare_barrier, bare_split}
use Rattle.closing.proofs.walk.made.bare_line.Goals as goal

pub returns-then-brings : goal.returns-then-brings
returns-then-brings c = λ journals placed rank meets called.
    bare_split journals placed c.args.comm _
    (sym (c.brings.ensures journals (wave_at placed) meets.numbered meets.wave) ∙ c.if-brings.true) (to_z-of_z w32 c.key_in.result (search rules) ∙ c.key_in.ensures ∙ ap split_key (sym called))

pub returns-else-brings : goal.returns-else-brings
returns-else-brings c = λ journals placed rank meets called.
    bare_barrier journals placed c.args.comm (sym (c.brings.ensures journals (wave_at placed) meets.numbered meets.wave) ∙ c.if-brings.false)
