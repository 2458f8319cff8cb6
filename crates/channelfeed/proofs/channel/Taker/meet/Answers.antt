use Rattle.channelfeed.proofs.RelayLemmas.{merges}
use Rattle.channelfeed.proofs.channel.Taker.meet.Goals as goal

pub absorb-requires-clause-rule : goal.absorb-requires-clause-rule
absorb-requires-clause-rule g c = merges _ _ _ _ c.args.self.now.takes c.args.receipt.puts
