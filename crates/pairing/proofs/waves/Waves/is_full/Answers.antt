use Rattle.std.proofs.Common.{◌≡◌, ◌<◌, ◌≤◌, ◌∙◌, ap, sym, true, false, Option, List, ℕ, length, arith}
use Rattle.std.specs.Prelude.{is_some}
use Rattle.std.specs.List.{list_all}
use Rattle.std.proofs.lemmas.List.{take_all}
use Rattle.mpigroup.specs.Groups.{group_of}
use Rattle.callstore.specs.Waves.{member_of, place_in_wave}
use Rattle.callstore.proofs.WaveLemmas.{size_is, full_more, full_not}
use Rattle.pairing.proofs.waves.Waves.is_full.Goals as goal

pub returns-then-is_none : goal.returns-then-is_none
returns-then-is_none c recording joined =
    let size = size_is c.args.head.now c.args.comm in
    let end : c.unwrap_or-g-end.result ≡ length (group_of c.args.head.now c.args.comm) = cc in
    let within : c.loop-g.g < length (group_of c.args.head.now c.args.comm) = omega arith in
    let here : is_some (member_of c.args.head.now recording c.args.comm c.args.wave c.loop-g.g) ≡ false =
    ap (λ (o : Option ℕ). is_some o) (sym (c.member_of.ensures recording joined)) ∙ c.if-is_none.ensures in
    sym (full_not c.args.head.now recording c.args.comm c.args.wave c.loop-g.g within here)

pub loop-g-preserved : goal.loop-g-preserved
loop-g-preserved c recording joined =
    let size = size_is c.args.head.now c.args.comm in
    let end : c.unwrap_or-g-end.result ≡ length (group_of c.args.head.now c.args.comm) = cc in
    let within : c.loop-g.g < length (group_of c.args.head.now c.args.comm) = omega arith in
    let here : is_some (member_of c.args.head.now recording c.args.comm c.args.wave c.loop-g.g) ≡ true =
    ap (λ (o : Option ℕ). is_some o) (sym (c.member_of.ensures recording joined)) ∙ c.if-is_none.ensures in
    full_more c.args.head.now recording c.args.comm c.args.wave c.loop-g.g within (c.loop-g.invariant recording joined) here

pub returns : goal.returns
returns c recording joined =
    let size = size_is c.args.head.now c.args.comm in
    let end : c.unwrap_or-g-end.result ≡ length (group_of c.args.head.now c.args.comm) = cc in
    let all : length (group_of c.args.head.now c.args.comm) ≤ c.loop-g.g = omega arith in
    sym (c.loop-g.invariant recording joined)
    ∙ ap (λ (group : List ℕ). list_all (λ rank. is_some (place_in_wave recording c.args.comm c.args.wave rank)) group) (take_all c.loop-g.g (group_of c.args.head.now c.args.comm) all)
