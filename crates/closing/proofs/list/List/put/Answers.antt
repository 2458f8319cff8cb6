-- The line stands at the end of the list.
use Rattle.std.proofs.Common.{◌≡◌, [], ◌∷◌, ◌++◌, arith, refl, subst}
use Rattle.std.specs.Prelude.{MatchBool}
use Rattle.closing.proofs.ListLemmas.{put_stands}
use Rattle.closing.proofs.list.List.put.Goals as goal

pub returns-clause-stands : goal.returns-clause-stands
returns-clause-stands c = λ handed progress line stands fits room.
    put_stands handed progress line c.args.self.now _ c.args.call.now stands
    (record {
      records = subst (λ is. MatchBool is (c.put.new.self ≡ c.args.self.now.records ++ c.args.call.now ∷ []) (c.put.new.self ≡ c.args.self.now.records))
          c.if-not-is_put.false c.in_ok-is_put.ensures.records;
      count = omega (arith, room, c.saturating_add-self.ensures);
      active = refl;
      free = refl;
      given = refl;
      numbers = refl;
      freed = refl;
    }) room
