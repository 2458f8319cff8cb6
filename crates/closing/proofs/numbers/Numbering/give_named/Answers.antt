-- Places one after the other.
use Rattle.std.proofs.Common.{◌≡◌, ◌∙◌, ◌+◌, drop, ap, arith, sym, subst, Some, true, false, get_or, vec_len}
use Rattle.std.specs.Prelude.{slice_get}
use Rattle.std.proofs.lemmas.Option.{slice_get-get_or}
use Rattle.closing.specs.inner.Given.{IsNumbering, is_named_at, with_places}
use Rattle.closing.specs.declared.numbers.Numbering.{Numbering}
use Rattle.closing.proofs.NumberLemmas.{given_step, skip_step}
use Rattle.closing.proofs.numbers.Numbering.give_named.Goals as goal
use Rattle.closing.proofs.numbers.Numbering.give_named.Goals.{then-is_named+in_ok-give, else-is_named}

pub loop-key-preserved : goal.loop-key-preserved
loop-key-preserved c =
    let first = c.args.self.now in
    let cur = c.loop-key.self in
    let inv = c.loop-key.invariant in
    let named = c.args.named.now in
    let keys = c.args.keys.now in
    let n = c.loop-key.key-index in
    let key = get_or keys n 0 in
    let all = with_places named first.numbered.items keys in
    let e : slice_get keys n ≡ Some key = slice_get-get_or keys n 0 (omega arith) in
    elim c.if-is_named.branch [
      | then-is_named+in_ok-give w ↦
          let of = w.in_ok-give.ensures in
          let P : Numbering → Type 0 = λ it. IsNumbering it in
          let test : is_named_at named key ≡ true = cc (c.is_named.ensures, w.if-is_named.true) in
          record {
            numbering = subst P (sym w.self-is) of.numbering;
            room = ap (λ (it : Numbering). vec_len it.numbers) w.self-is ∙ of.room ∙ inv.room;
            given = λ below.
                let small = below n key e in
                let put = of.given (omega (arith, inv.room)) in
                given_step named cur.numbered.items c.if-is_named.self.numbered.items keys n key all e test
                (ap (λ (it : Numbering). it.numbered.items) w.self-is ∙ put) (inv.given below);
          }
      | else-is_named w ↦
          let P : Numbering → Type 0 = λ it. IsNumbering it in
          let test : is_named_at named key ≡ false = cc (c.is_named.ensures, w.if-is_named.false) in
          record {
            numbering = subst P (sym w.self-is) inv.numbering;
            room = ap (λ (it : Numbering). vec_len it.numbers) w.self-is ∙ inv.room;
            given = λ below.
                ap (λ (it : Numbering). with_places named it.numbered.items (drop (n + 1) keys)) w.self-is
                ∙ skip_step named cur.numbered.items keys n key all e test (inv.given below);
          }
    ]
