use Rattle.std.proofs.Common.{refl, sym, arith, ◌∙◌, length-set}
use Rattle.mpigroup.proofs.MemberLemmas.{AreMembers-push, fault_of_rest, few_members}
use Rattle.mpigroup.proofs.PlaceLemmas.{AreTold-push, is_new, new-within, new-apart, not_new}
use Rattle.mpigroup.proofs.line.read_members.Goals as goal

pub returns-in_default-new_member-clause-fault : goal.returns-in_default-new_member-clause-fault
returns-in_default-new_member-clause-fault c =
    let so_far = rw c.in-Some.ensures at c.loop-number.invariant.read in
    let none = rw (c.deref.ensures.value, c.in_default-new_member.is) at c.new_member.ensures in
    let refused = rw c.loop-number.invariant.table at (not_new _ _ _ c.loop-number.invariant.told (sym none)) in
    rw (c.at.ensures, c.group_fault.ensures, fault_of_rest _ _ _ _ _ so_far refused) refl

pub overflow_cast-len : goal.overflow_cast-len
overflow_cast-len c =
    let so_far = rw c.in-Some.ensures at c.loop-number.invariant.read in
    omega (arith, few_members _ _ _ _ so_far, c.requires.few)

pub index_mut-requires : goal.index_mut-requires
index_mut-requires c =
    let named = rw (c.deref.ensures.value, c.in-Some-new_member.is) at c.new_member.ensures in
    omega (arith, new-within _ _ _ (is_new _ _ _ (sym named)))

pub loop-number-preserved : goal.loop-number-preserved
loop-number-preserved c =
    let so_far = rw c.in-Some.ensures at c.loop-number.invariant.read in
    let named = rw (c.deref.ensures.value, c.in-Some-new_member.is) at c.new_member.ensures in
    let new = is_new _ _ _ (sym named) in
    let few = few_members _ _ _ _ so_far in
    let told = AreTold-push _ _ _ _ c.len.result c.loop-number.invariant.told new (omega arith) (omega (arith, few, c.requires.few)) in
    let read = AreMembers-push _ _ _ _ _ _ so_far new.canonical new.named (omega (arith, new-within _ _ _ new, c.loop-number.invariant.table)) (new-apart _ _ _ _ c.loop-number.invariant.told new) in
    record {
      read = rw c.in_ok-push.ensures.items read;
      told = rw (c.in_ok-push.ensures.items, c.from-in-Some.ensures) told;
      table = length-set _ _ _ ∙ c.loop-number.invariant.table;
    }

pub invariant_of-result : goal.invariant_of-result
invariant_of-result c = record {
  few = omega (arith, few_members _ _ _ _ c.loop-number.invariant.read, c.requires.few);
  told = c.loop-number.invariant.told.told;
}
