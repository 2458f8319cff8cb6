-- The bytes after the first ones.
use Rattle.std.proofs.Common.{arith, ◌∙◌, ap, drop, sym, length}
use Rattle.mpicall.proofs.WindowLemmas.{dropped, window_length}
use Rattle.mpicall.proofs.window.Window.drop_front.Goals as goal

pub returns : goal.returns
returns c =
    let i = c.self.inside in
    let told = c.self.told in
    let buffered = ap length (sym c.self.view_is) ∙ window_length i.start i.end i.buffer c.self.invariant.0 (omega arith) in
    dropped i.start i.end c.args.count i.buffer (omega arith) ∙ ap (drop c.args.count) c.self.view_is
