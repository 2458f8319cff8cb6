-- One member more has its call of the wave, or hasn't.
use Rattle.std.proofs.Common.{◌≡◌, ◌<◌, ◌≤◌, ◌∙◌, ℕ, true, false, Option, List, length, ap, sym, arith}
use Rattle.std.specs.Prelude.{is_some, unwrap_or}
use Rattle.std.specs.List.{list_all}
use Rattle.std.proofs.lemmas.List.{take_all}
use Rattle.mpigroup.specs.Groups.{Groups, group_of, size_of}
use Rattle.callstore.specs.Recordings.{Lists}
use Rattle.callstore.specs.Waves.{member_of, place_in_wave}
use Rattle.callstore.proofs.WaveLemmas.{size_is, full_more, full_not}
use Rattle.judging.proofs.under_way.is_full.Goals as goal

pub returns-then-is_none : goal.returns-then-is_none
returns-then-is_none c =
    let groups = c.args.analyser.now.groups in
    let recording = c.args.analyser.now.recording in
    let size : c.in-Some.size ≡ length (group_of groups c.args.comm) = ap (λ (o : Option ℕ). unwrap_or o 0) (c.in-Some.ensures ∙ ap (λ (g : Groups). size_of g c.args.comm) c.head.ensures.value) ∙ size_is groups c.args.comm in
    let within : c.loop-member.member < length (group_of groups c.args.comm) = omega (arith, size, c.loop-member-test.true) in
    let here : is_some (member_of groups recording c.args.comm c.args.wave c.loop-member.member) ≡ false =
    ap (λ (o : Option ℕ). is_some o) (sym (c.member.ensures ∙ ap (λ (g : Groups). member_of g c.pairs.result.now.recording c.args.comm c.args.wave c.loop-member.member) c.pairs.ensures.groups
    ∙ ap (λ (l : Lists). member_of groups l c.args.comm c.args.wave c.loop-member.member) c.pairs.ensures.recording)) ∙ c.if-is_none.ensures in
    sym (full_not groups recording c.args.comm c.args.wave c.loop-member.member within here)

pub loop-member-preserved : goal.loop-member-preserved
loop-member-preserved c =
    let groups = c.args.analyser.now.groups in
    let recording = c.args.analyser.now.recording in
    let size : c.in-Some.size ≡ length (group_of groups c.args.comm) = ap (λ (o : Option ℕ). unwrap_or o 0) (c.in-Some.ensures ∙ ap (λ (g : Groups). size_of g c.args.comm) c.head.ensures.value) ∙ size_is groups c.args.comm in
    let within : c.loop-member.member < length (group_of groups c.args.comm) = omega (arith, size, c.loop-member-test.true) in
    let here : is_some (member_of groups recording c.args.comm c.args.wave c.loop-member.member) ≡ true =
    ap (λ (o : Option ℕ). is_some o) (sym (c.member.ensures ∙ ap (λ (g : Groups). member_of g c.pairs.result.now.recording c.args.comm c.args.wave c.loop-member.member) c.pairs.ensures.groups
    ∙ ap (λ (l : Lists). member_of groups l c.args.comm c.args.wave c.loop-member.member) c.pairs.ensures.recording)) ∙ c.if-is_none.ensures in
    full_more groups recording c.args.comm c.args.wave c.loop-member.member within c.loop-member.invariant here

pub returns : goal.returns
returns c =
    let groups = c.args.analyser.now.groups in
    let size : c.in-Some.size ≡ length (group_of groups c.args.comm) = ap (λ (o : Option ℕ). unwrap_or o 0) (c.in-Some.ensures ∙ ap (λ (g : Groups). size_of g c.args.comm) c.head.ensures.value) ∙ size_is groups c.args.comm in
    let all : length (group_of groups c.args.comm) ≤ c.loop-member.member = omega (arith, size, c.loop-member-test.false) in
    sym c.loop-member.invariant
    ∙ ap (λ (group : List ℕ). list_all (λ rank. is_some (place_in_wave c.args.analyser.now.recording c.args.comm c.args.wave rank)) group) (take_all c.loop-member.member (group_of groups c.args.comm) all)
