use Rattle.std.proofs.Common.{◌≡◌, Some, ℕ, Option, subst, sym}
use Rattle.pairing.specs.inner.Joined.{Joinings, list_number, IsListFor, IsJoined}
use Rattle.pairing.proofs.JoinedLemmas.{put_in, put_none, its_wave, no_wave}
use Rattle.pairing.proofs.waves.Waves.put.Goals as goal

pub returns-in-Some : goal.returns-in-Some
returns-in-Some c recording rank call is_list joined is_rank next =
    let waves : Joinings = record { ranks = c.self.inside.ranks; keys = c.self.inside.joined.keys; lists = c.self.inside.lists } in
    let wave = its_wave c.args.self.now rank call c.in-Some.list (subst (λ (o : Option ℕ). IsListFor rank call c.args.self.now o) c.in-Some.is is_list) in
    put_in waves c.push_reserved.new.self recording rank c.args.place wave.0 c.in-Some.list call wave.1 (subst (λ (w : Joinings). list_number w rank wave.0 ≡ Some c.in-Some.list) (sym c.self.view_is) wave.2) c.self.invariant c.push_reserved.ensures (subst (λ (w : Joinings). IsJoined recording w) (sym c.self.view_is) joined) is_rank next

pub returns-in_default : goal.returns-in_default
returns-in_default c recording rank call is_list joined is_rank next =
    put_none c.args.self.now recording rank call (no_wave c.args.self.now rank call (subst (λ (o : Option ℕ). IsListFor rank call c.args.self.now o) c.in_default.is is_list)) joined is_rank
