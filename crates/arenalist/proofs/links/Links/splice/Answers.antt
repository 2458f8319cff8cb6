use Rattle.std.proofs.Common.{◌≡◌, ◌<◌, ◌++◌, [], ◌∙◌, get_or, set, length, sym, ap, arith}
use Rattle.std.proofs.lemmas.List.{get_or_read}
use Rattle.arenaqueue.specs.Numbers.{list_at}
use Rattle.arenalist.specs.inner.Rings.{rings_of, lists_of, around}
use Rattle.arenalist.specs.inner.Links.{Linked}
use Rattle.arenalist.proofs.LinkLemmas.{long_lists, its}
use Rattle.arenalist.proofs.SpliceLemmas.{around_count, around_most, unspliced, round, splicing, links_spliced}
use Rattle.arenalist.proofs.links.Links.splice.Goals as goal

pub give-moved-requires-clause-head : goal.give-moved-requires-clause-head
give-moved-requires-clause-head c =
    let from_in : c.args.from < length c.self.inside.heads.items = omega (arith, c.requires.from, ap (λ (a : Linked). length a.lists) c.self.view_is, long_lists c.self.inside.heads.items c.self.inside.nexts.items) in
    let from_is : c.index-from_head.result.now ≡ get_or c.self.inside.heads.items c.args.from 0 = get_or_read c.self.inside.heads.items c.args.from c.index-from_head.result.now from_in c.index-from_head.ensures 0 in
    omega (arith, (its _ _ _ _ c.args.from c.self.invariant from_in).head_in)

pub give-moved-requires-clause-round : goal.give-moved-requires-clause-round
give-moved-requires-clause-round c =
    let from_in : c.args.from < length c.self.inside.heads.items = omega (arith, c.requires.from, ap (λ (a : Linked). length a.lists) c.self.view_is, long_lists c.self.inside.heads.items c.self.inside.nexts.items) in
    let from_is : c.index-from_head.result.now ≡ get_or c.self.inside.heads.items c.args.from 0 = get_or_read c.self.inside.heads.items c.args.from c.index-from_head.result.now from_in c.index-from_head.ensures 0 in
    round _ _ _ _ _ _ c.self.invariant from_in from_is

pub returns-then-moved-eq0-clause-count : goal.returns-then-moved-eq0-clause-count
returns-then-moved-eq0-clause-count c =
    let from_in : c.args.from < length c.self.inside.heads.items = omega (arith, c.requires.from, ap (λ (a : Linked). length a.lists) c.self.view_is, long_lists c.self.inside.heads.items c.self.inside.nexts.items) in
    let from_is : c.index-from_head.result.now ≡ get_or c.self.inside.heads.items c.args.from 0 = get_or_read c.self.inside.heads.items c.args.from c.index-from_head.result.now from_in c.index-from_head.ensures 0 in
    let count : length (around c.self.inside.nexts.items c.index-from_head.result.now) ≡ length (list_at (lists_of (rings_of c.self.inside.heads.items c.self.inside.nexts.items)) c.args.from) = around_count _ _ _ _ from_in from_is in
    omega (arith, count, c.give-moved.ensures.count, c.if-moved-eq0.true, ap (λ (a : Linked). length (list_at a.lists c.args.from)) c.self.view_is)

pub returns-then-moved-eq0-clause-lists : goal.returns-then-moved-eq0-clause-lists
returns-then-moved-eq0-clause-lists c =
    let from_in : c.args.from < length c.self.inside.heads.items = omega (arith, c.requires.from, ap (λ (a : Linked). length a.lists) c.self.view_is, long_lists c.self.inside.heads.items c.self.inside.nexts.items) in
    let from_is : c.index-from_head.result.now ≡ get_or c.self.inside.heads.items c.args.from 0 = get_or_read c.self.inside.heads.items c.args.from c.index-from_head.result.now from_in c.index-from_head.ensures 0 in
    let count : length (around c.self.inside.nexts.items c.index-from_head.result.now) ≡ length (list_at (lists_of (rings_of c.self.inside.heads.items c.self.inside.nexts.items)) c.args.from) = around_count _ _ _ _ from_in from_is in
    sym (unspliced (lists_of (rings_of c.self.inside.heads.items c.self.inside.nexts.items)) c.args.to c.args.from (omega (arith, count, c.give-moved.ensures.count, c.if-moved-eq0.true))) ∙ ap (λ (a : Linked). set (set a.lists c.args.to (list_at a.lists c.args.to ++ list_at a.lists c.args.from)) c.args.from []) c.self.view_is

pub splice-requires-clause-to : goal.splice-requires-clause-to
splice-requires-clause-to c =
    let to_in : c.args.to < length c.self.inside.heads.items = omega (arith, c.requires.to, ap (λ (a : Linked). length a.lists) c.self.view_is, long_lists c.self.inside.heads.items c.self.inside.nexts.items) in
    let to_is : c.index-to_head.result.now ≡ get_or c.self.inside.heads.items c.args.to 0 = get_or_read c.self.inside.heads.items c.args.to c.index-to_head.result.now to_in c.index-to_head.ensures 0 in
    omega (arith, (its _ _ _ _ c.args.to c.self.invariant to_in).head_in)

pub splice-requires-clause-from : goal.splice-requires-clause-from
splice-requires-clause-from c =
    let from_in : c.args.from < length c.self.inside.heads.items = omega (arith, c.requires.from, ap (λ (a : Linked). length a.lists) c.self.view_is, long_lists c.self.inside.heads.items c.self.inside.nexts.items) in
    let from_is : c.index-from_head.result.now ≡ get_or c.self.inside.heads.items c.args.from 0 = get_or_read c.self.inside.heads.items c.args.from c.index-from_head.result.now from_in c.index-from_head.ensures 0 in
    omega (arith, (its _ _ _ _ c.args.from c.self.invariant from_in).head_in)

pub splice-requires-clause-first : goal.splice-requires-clause-first
splice-requires-clause-first c =
    let from_in : c.args.from < length c.self.inside.heads.items = omega (arith, c.requires.from, ap (λ (a : Linked). length a.lists) c.self.view_is, long_lists c.self.inside.heads.items c.self.inside.nexts.items) in
    let from_is : c.index-from_head.result.now ≡ get_or c.self.inside.heads.items c.args.from 0 = get_or_read c.self.inside.heads.items c.args.from c.index-from_head.result.now from_in c.index-from_head.ensures 0 in
    let count : length (around c.self.inside.nexts.items c.index-from_head.result.now) ≡ length (list_at (lists_of (rings_of c.self.inside.heads.items c.self.inside.nexts.items)) c.args.from) = around_count _ _ _ _ from_in from_is in
    let to_in : c.args.to < length c.self.inside.heads.items = omega (arith, c.requires.to, ap (λ (a : Linked). length a.lists) c.self.view_is, long_lists c.self.inside.heads.items c.self.inside.nexts.items) in
    let to_is : c.index-to_head.result.now ≡ get_or c.self.inside.heads.items c.args.to 0 = get_or_read c.self.inside.heads.items c.args.to c.index-to_head.result.now to_in c.index-to_head.ensures 0 in
    let some : 0 < length (list_at (lists_of (rings_of c.self.inside.heads.items c.self.inside.nexts.items)) c.args.from) = omega (arith, count, c.give-moved.ensures.count, c.if-moved-eq0.false) in
    rw from_is (splicing _ _ _ _ _ _ c.self.invariant to_in from_in c.requires.differ some).first_in

pub splice-requires-clause-last_to : goal.splice-requires-clause-last_to
splice-requires-clause-last_to c =
    let from_in : c.args.from < length c.self.inside.heads.items = omega (arith, c.requires.from, ap (λ (a : Linked). length a.lists) c.self.view_is, long_lists c.self.inside.heads.items c.self.inside.nexts.items) in
    let from_is : c.index-from_head.result.now ≡ get_or c.self.inside.heads.items c.args.from 0 = get_or_read c.self.inside.heads.items c.args.from c.index-from_head.result.now from_in c.index-from_head.ensures 0 in
    let count : length (around c.self.inside.nexts.items c.index-from_head.result.now) ≡ length (list_at (lists_of (rings_of c.self.inside.heads.items c.self.inside.nexts.items)) c.args.from) = around_count _ _ _ _ from_in from_is in
    let to_in : c.args.to < length c.self.inside.heads.items = omega (arith, c.requires.to, ap (λ (a : Linked). length a.lists) c.self.view_is, long_lists c.self.inside.heads.items c.self.inside.nexts.items) in
    let to_is : c.index-to_head.result.now ≡ get_or c.self.inside.heads.items c.args.to 0 = get_or_read c.self.inside.heads.items c.args.to c.index-to_head.result.now to_in c.index-to_head.ensures 0 in
    let some : 0 < length (list_at (lists_of (rings_of c.self.inside.heads.items c.self.inside.nexts.items)) c.args.from) = omega (arith, count, c.give-moved.ensures.count, c.if-moved-eq0.false) in
    rw to_is (splicing _ _ _ _ _ _ c.self.invariant to_in from_in c.requires.differ some).last_to_in

pub splice-requires-clause-last_from : goal.splice-requires-clause-last_from
splice-requires-clause-last_from c =
    let from_in : c.args.from < length c.self.inside.heads.items = omega (arith, c.requires.from, ap (λ (a : Linked). length a.lists) c.self.view_is, long_lists c.self.inside.heads.items c.self.inside.nexts.items) in
    let from_is : c.index-from_head.result.now ≡ get_or c.self.inside.heads.items c.args.from 0 = get_or_read c.self.inside.heads.items c.args.from c.index-from_head.result.now from_in c.index-from_head.ensures 0 in
    let count : length (around c.self.inside.nexts.items c.index-from_head.result.now) ≡ length (list_at (lists_of (rings_of c.self.inside.heads.items c.self.inside.nexts.items)) c.args.from) = around_count _ _ _ _ from_in from_is in
    let to_in : c.args.to < length c.self.inside.heads.items = omega (arith, c.requires.to, ap (λ (a : Linked). length a.lists) c.self.view_is, long_lists c.self.inside.heads.items c.self.inside.nexts.items) in
    let to_is : c.index-to_head.result.now ≡ get_or c.self.inside.heads.items c.args.to 0 = get_or_read c.self.inside.heads.items c.args.to c.index-to_head.result.now to_in c.index-to_head.ensures 0 in
    let some : 0 < length (list_at (lists_of (rings_of c.self.inside.heads.items c.self.inside.nexts.items)) c.args.from) = omega (arith, count, c.give-moved.ensures.count, c.if-moved-eq0.false) in
    rw from_is (splicing _ _ _ _ _ _ c.self.invariant to_in from_in c.requires.differ some).last_from_in

pub invariant_of-self-2 : goal.invariant_of-self-2
invariant_of-self-2 c =
    let from_in : c.args.from < length c.self.inside.heads.items = omega (arith, c.requires.from, ap (λ (a : Linked). length a.lists) c.self.view_is, long_lists c.self.inside.heads.items c.self.inside.nexts.items) in
    let from_is : c.index-from_head.result.now ≡ get_or c.self.inside.heads.items c.args.from 0 = get_or_read c.self.inside.heads.items c.args.from c.index-from_head.result.now from_in c.index-from_head.ensures 0 in
    let count : length (around c.self.inside.nexts.items c.index-from_head.result.now) ≡ length (list_at (lists_of (rings_of c.self.inside.heads.items c.self.inside.nexts.items)) c.args.from) = around_count _ _ _ _ from_in from_is in
    let to_in : c.args.to < length c.self.inside.heads.items = omega (arith, c.requires.to, ap (λ (a : Linked). length a.lists) c.self.view_is, long_lists c.self.inside.heads.items c.self.inside.nexts.items) in
    let to_is : c.index-to_head.result.now ≡ get_or c.self.inside.heads.items c.args.to 0 = get_or_read c.self.inside.heads.items c.args.to c.index-to_head.result.now to_in c.index-to_head.ensures 0 in
    let some : 0 < length (list_at (lists_of (rings_of c.self.inside.heads.items c.self.inside.nexts.items)) c.args.from) = omega (arith, count, c.give-moved.ensures.count, c.if-moved-eq0.false) in
    (links_spliced _ _ _ _ _ _ _ c.args.to c.args.from _ _ c.self.invariant to_in from_in c.requires.differ some to_is from_is c.splice.ensures.nexts c.splice.ensures.prevs c.give-moved.ensures.owners).0

pub returns-clause-count : goal.returns-clause-count
returns-clause-count c =
    let from_in : c.args.from < length c.self.inside.heads.items = omega (arith, c.requires.from, ap (λ (a : Linked). length a.lists) c.self.view_is, long_lists c.self.inside.heads.items c.self.inside.nexts.items) in
    let from_is : c.index-from_head.result.now ≡ get_or c.self.inside.heads.items c.args.from 0 = get_or_read c.self.inside.heads.items c.args.from c.index-from_head.result.now from_in c.index-from_head.ensures 0 in
    let count : length (around c.self.inside.nexts.items c.index-from_head.result.now) ≡ length (list_at (lists_of (rings_of c.self.inside.heads.items c.self.inside.nexts.items)) c.args.from) = around_count _ _ _ _ from_in from_is in
    c.give-moved.ensures.count ∙ count ∙ ap (λ (a : Linked). length (list_at a.lists c.args.from)) c.self.view_is

pub returns-clause-few : goal.returns-clause-few
returns-clause-few c =
    omega (arith, c.give-moved.ensures.count, around_most c.self.inside.nexts.items c.index-from_head.result.now, c.self.invariant.small)

pub returns-clause-lists : goal.returns-clause-lists
returns-clause-lists c =
    let from_in : c.args.from < length c.self.inside.heads.items = omega (arith, c.requires.from, ap (λ (a : Linked). length a.lists) c.self.view_is, long_lists c.self.inside.heads.items c.self.inside.nexts.items) in
    let from_is : c.index-from_head.result.now ≡ get_or c.self.inside.heads.items c.args.from 0 = get_or_read c.self.inside.heads.items c.args.from c.index-from_head.result.now from_in c.index-from_head.ensures 0 in
    let count : length (around c.self.inside.nexts.items c.index-from_head.result.now) ≡ length (list_at (lists_of (rings_of c.self.inside.heads.items c.self.inside.nexts.items)) c.args.from) = around_count _ _ _ _ from_in from_is in
    let to_in : c.args.to < length c.self.inside.heads.items = omega (arith, c.requires.to, ap (λ (a : Linked). length a.lists) c.self.view_is, long_lists c.self.inside.heads.items c.self.inside.nexts.items) in
    let to_is : c.index-to_head.result.now ≡ get_or c.self.inside.heads.items c.args.to 0 = get_or_read c.self.inside.heads.items c.args.to c.index-to_head.result.now to_in c.index-to_head.ensures 0 in
    let some : 0 < length (list_at (lists_of (rings_of c.self.inside.heads.items c.self.inside.nexts.items)) c.args.from) = omega (arith, count, c.give-moved.ensures.count, c.if-moved-eq0.false) in
    (links_spliced _ _ _ _ _ _ _ c.args.to c.args.from _ _ c.self.invariant to_in from_in c.requires.differ some to_is from_is c.splice.ensures.nexts c.splice.ensures.prevs c.give-moved.ensures.owners).1 ∙ ap (λ (a : Linked). set (set a.lists c.args.to (list_at a.lists c.args.to ++ list_at a.lists c.args.from)) c.args.from []) c.self.view_is
