-- One request more is found, or as many as a line may name.
use Rattle.std.proofs.Common.{◌≡◌, ◌∙◌, ◌<◌, ◌≤◌, ◌+◌, ◌++◌, ap, arith, drop, get_or, length, map, option_map, subst, sym}
use Rattle.closing.specs.inner.Started.{active_at}
use Rattle.std.proofs.lemmas.List.{append-nil, drop_all, drop_more}
use Rattle.mpicall.specs.declared.limits.TheConstants.{MOST_REQUESTS}
use Rattle.closing.specs.Steps.{Own, numbers_of, without_all}
use Rattle.closing.specs.inner.Lists.{Owns}
use Rattle.closing.specs.declared.list.Active.{Active}
use Rattle.closing.proofs.ChoiceLemmas.{finds_all, finds_both, finds_enough, finds_more}
use Rattle.closing.proofs.list.List.find_numbers.Goals as goal

pub returns-then-len-ge-MOST_REQUESTS-clause-finds : goal.returns-then-len-ge-MOST_REQUESTS-clause-finds
returns-then-len-ge-MOST_REQUESTS-clause-finds c = λ left apart owns.
    let full : length c.loop-id.self.numbers.items ≡ MOST_REQUESTS =
    omega (arith, c.loop-id.invariant.few, c.if-len-ge-MOST_REQUESTS.true, c.len.ensures, c.loop-id.self.numbers.ok.0) in
    finds_enough c.loop-id.self.numbers.items (numbers_of (without_all c.loop-id.self.numbers.items left) (map Own (drop c.loop-id.id-index c.args.ids.now)))
    (numbers_of left (map Own c.args.ids.now)) full (c.loop-id.invariant.finds left apart owns)

pub loop-id-preserved : goal.loop-id-preserved
loop-id-preserved c =
    let within : c.loop-id.id-index < length c.args.ids.now = omega (arith, c.loop-id-test.true) in
    record {
      same = finds_both c.args.self.now c.loop-id.self c.find_request.new.self c.loop-id.invariant.same c.in_ok-find_request.ensures.same;
      few = omega (arith, c.in_ok-find_request.ensures.most, c.if-len-ge-MOST_REQUESTS.false, c.len.ensures, c.loop-id.self.numbers.ok.0);
      finds = λ left apart owns.
          let now : Owns left c.loop-id.self = λ q. ap (λ it. option_map (λ (one : Active). one.number) (active_at it q)) c.loop-id.invariant.same.active ∙ owns q in
          finds_more left (map Own c.args.ids.now) (get_or c.args.ids.now c.loop-id.id-index 0) (map Own (drop (c.loop-id.id-index + 1) c.args.ids.now))
          c.loop-id.self.numbers.items c.find_request.new.self.numbers.items
          (subst (λ rest. c.loop-id.self.numbers.items ++ numbers_of (without_all c.loop-id.self.numbers.items left) rest ≡ numbers_of left (map Own c.args.ids.now))
          (ap (map Own) (drop_more c.args.ids.now c.loop-id.id-index 0 within)) (c.loop-id.invariant.finds left apart owns))
          (c.in_ok-find_request.ensures.finds left apart now);
    }

pub returns-clause-finds : goal.returns-clause-finds
returns-clause-finds c = λ left apart owns.
    let past : length c.args.ids.now ≤ c.loop-id.id-index = omega (arith, c.loop-id-test.false) in
    let all : c.loop-id.self.numbers.items ≡ numbers_of left (map Own c.args.ids.now) =
    sym (append-nil c.loop-id.self.numbers.items)
    ∙ sym (ap (λ rest. c.loop-id.self.numbers.items ++ numbers_of (without_all c.loop-id.self.numbers.items left) (map Own rest)) (drop_all c.loop-id.id-index c.args.ids.now past))
    ∙ c.loop-id.invariant.finds left apart owns in
    finds_all c.loop-id.self.numbers.items (numbers_of left (map Own c.args.ids.now)) c.loop-id.invariant.few all
