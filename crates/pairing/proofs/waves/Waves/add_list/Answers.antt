use Rattle.std.proofs.Common.{◌≡◌, ◌∙◌, ◌++◌, ◌∷◌, ℕ, Some, None, List, [], length, ap, sym, length-append, arith}
use Rattle.indexmap.specs.IndexSet.{insert_key}
use Rattle.pairing.specs.declared.made_comms.Holding.{Holding}
use Rattle.pairing.specs.inner.Joined.{Joinings, list_number, list_of}
use Rattle.pairing.proofs.JoinedLemmas.{same_fields, key_more, grown_places, grown_number}
use Rattle.pairing.proofs.waves.Waves.add_list.Goals as goal

one_key : (c : goal.After-unwrap) → c.insert.new.self.keys ≡ c.self.inside.joined.keys ++ record { rank = c.args.rank; comm = c.args.comm } ∷ []
one_key c =
    let inserted = rw c.unwrap.ensures at c.insert.ensures.keys in
    let none : list_number (record { ranks = c.self.inside.ranks; keys = c.self.inside.joined.keys; lists = c.self.inside.lists }) c.args.rank c.args.comm ≡ None = rw (← c.self.view_is) at c.requires in
    key_more (record { ranks = c.self.inside.ranks; keys = c.self.inside.joined.keys; lists = c.self.inside.lists }) c.insert.new.self.keys c.args.rank c.args.comm none
    (inserted ∙ ap (λ (keys : List Holding). insert_key same_fields keys (record { rank = c.args.rank; comm = c.args.comm })) c.reserve.ensures.keys)

pub invariant_of-self-2 : goal.invariant_of-self-2
invariant_of-self-2 c =
    let keys = ap (λ (keys : List Holding). length keys) (one_key c) in
    let lists = ap (λ (lists : List (List ℕ)). length lists) c.in_ok-add.ensures.ok in
    omega (
      arith,
      keys,
      lists,
      c.self.invariant,
      length-append c.self.inside.joined.keys (record { rank = c.args.rank; comm = c.args.comm } ∷ []),
      length-append c.self.inside.lists.places ([] ∷ []),
    )

pub returns-clause-lists : goal.returns-clause-lists
returns-clause-lists c r comm =
    grown_places (record { ranks = c.self.inside.ranks; keys = c.self.inside.joined.keys; lists = c.self.inside.lists }) c.insert.new.self.keys c.add.new.self c.args.rank c.args.comm c.self.invariant (one_key c) c.in_ok-add.ensures.ok r comm
    ∙ ap (λ (waves : Joinings). list_of waves r comm) c.self.view_is

pub returns-clause-number : goal.returns-clause-number
returns-clause-number c =
    let none : list_number (record { ranks = c.self.inside.ranks; keys = c.self.inside.joined.keys; lists = c.self.inside.lists }) c.args.rank c.args.comm ≡ None = rw (← c.self.view_is) at c.requires in
    grown_number (record { ranks = c.self.inside.ranks; keys = c.self.inside.joined.keys; lists = c.self.inside.lists }) c.insert.new.self.keys c.add.new.self c.args.rank c.args.comm none (one_key c)
    ∙ ap (λ (m : ℕ). Some m) (sym c.self.invariant ∙ sym c.len-list.ensures)
