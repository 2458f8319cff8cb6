use Rattle.std.proofs.Common.{◌≡◌, ◌∙◌, ℕ, Option, List, [], length, ap, sym, arith}
use Rattle.std.specs.Option.{option_map_or}
use Rattle.callstore.specs.Places.{places}
use Rattle.callstore.specs.Recordings.{calls_of}
use Rattle.pairing.specs.inner.Joined.{Joinings}
use Rattle.callstore.specs.Seats.{list_in}
use Rattle.callstore.specs.Waves.{does_join}
use Rattle.callstore.proofs.PlacesLemmas.{places_most}
use Rattle.pairing.proofs.waves.Waves.number.Goals as goal

pub returns : goal.returns
returns c recording rank comm joined numbered most =
    let within = places_most 0 (does_join comm) (calls_of recording rank) in
    let count : c.count.result ≡ length (places (does_join comm) (calls_of recording rank)) =
    c.count.ensures
    ∙ ap (λ (waves : Joinings). length (list_in waves.lists.places c.args.list)) c.self.view_is
    ∙ ap (λ (o : Option ℕ). length (option_map_or (list_in c.args.self.now.lists.places) o [])) (sym numbered)
    ∙ ap (λ (ns : List ℕ). length ns) (joined rank comm) in
    omega (arith, within, most, count, c.min.ensures)
