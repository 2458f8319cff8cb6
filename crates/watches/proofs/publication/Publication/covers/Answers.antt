use Rattle.std.proofs.Common.{◌≤◌, arith, length}
use Rattle.std.proofs.lemmas.Bool.Decides.{nat_tests}
use Rattle.watches.proofs.PrefixLemmas.{prefix_shorter}
use Rattle.watches.proofs.publication.Publication.covers.Goals as goal

pub returns-clause-within : goal.returns-clause-within
returns-clause-within c is =
    let both = c.agrees.ensures in
    let mine = c.args.self.now.known.list in
    let less : length c.args.other.now.known.list ≤ length mine = grind (arith, nat_tests, is, c.args.self.now.counts, c.args.other.now.counts) in
    prefix_shorter c.args.other.now.known.list mine both.0 both.2 both.1 less

pub returns-clause-beyond : goal.returns-clause-beyond
returns-clause-beyond c is =
    let both = c.agrees.ensures in
    let mine = c.args.self.now.known.list in
    let less : length mine ≤ length c.args.other.now.known.list = grind (arith, nat_tests, is, c.args.self.now.counts, c.args.other.now.counts) in
    prefix_shorter mine c.args.other.now.known.list both.0 both.1 both.2 less
