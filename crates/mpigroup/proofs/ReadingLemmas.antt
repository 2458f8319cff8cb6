-- Lines after the first that are read one by one.
use Rattle.std.proofs.Common.{◌≡◌, ℕ, ◌+◌, ◌≤◌, true, List, [], ◌∷◌, ◌++◌, length, sym, ap, ◌∙◌, refl, arith, Result, Ok, Err, append_assoc, length-append, map, drop, ltb, inl, inr}
use Rattle.std.specs.List.{list_all}
use Rattle.std.proofs.lemmas.List.Folds.{list_all-append}
use Rattle.std.proofs.lemmas.Bool.{cases_Bool, and_from, ltb-false}
use Rattle.mpicall.specs.Lines.{split_fields, body_of}
use Rattle.mpicall.specs.Number.{value_of}
use Rattle.mpigroup.specs.Groups.{Groups}
use Rattle.mpigroup.specs.declared.limits.TheConstants.{MOST_COMMS}
use Rattle.mpigroup.specs.declared.fault.HeadFault.{HeadFault}
use Rattle.mpigroup.specs.HeadText.{is_group, is_head_line, is_comm_line, checked_group, group_of_fields, group_of_line, at_line, put_front, put_line, groups_of_lines}

-- the groups after others, or the first fault there
abbrev pub behind_groups : Groups → Result Groups HeadFault → Result Groups HeadFault
behind_groups groups (Ok more) = Ok (groups ++ more)
behind_groups groups (Err fault) = Err fault

-- the groups of some lines so far, and the lines that are left
pub record AreRead (ranks number : ℕ) (all : Result Groups HeadFault) (groups : Groups) (left : List (List ℕ)) : Type 0 where
  pub same : behind_groups groups (groups_of_lines ranks number left) ≡ all
  pub count : length groups + 2 ≡ number
  pub few : number ≤ MOST_COMMS + 1
  pub sound : list_all (is_group ranks) groups ≡ true

put_front-behind : (groups : Groups) (group : List ℕ) (more : Result Groups HeadFault) → behind_groups groups (put_front group more) ≡ behind_groups (groups ++ group ∷ []) more
put_front-behind groups group (Ok more) = ap Ok (sym (append_assoc groups (group ∷ []) more))
put_front-behind groups group (Err fault) = refl

-- a line that gives a group isn't past the last, and gives ranks of the run
is_group-from_checked : (ranks : ℕ) (members group : List ℕ) → checked_group ranks members ≡ Ok group → is_group ranks group ≡ true
is_group-from_checked ranks members group is = elim (cases_Bool (is_group ranks members)) [
  | inl good ↦ let e : members ≡ group = cc in rw (← e) good
  | inr bad ↦ absurd cc
]

is_group-from_fields : (ranks : ℕ) (fields : List (List ℕ)) (group : List ℕ) → group_of_fields ranks fields ≡ Ok group → is_group ranks group ≡ true
is_group-from_fields ranks fields group is = elim (cases_Bool (is_comm_line fields)) [
  | inl comm ↦ is_group-from_checked ranks (map value_of (drop 1 fields)) group (rw comm at is)
  | inr other ↦ absurd (let e = rw other at is in cc)
]

pub is_group-from_line : (ranks number : ℕ) (line group : List ℕ) → group_of_line ranks number line ≡ Ok group → (number ≤ MOST_COMMS) × (is_group ranks group ≡ true)
is_group-from_line ranks number line group is = elim (cases_Bool (ltb MOST_COMMS number)) [
  | inl past ↦ absurd (let e = rw past at is in cc)
  | inr within ↦
      let inside = rw within at is in (
        ltb-false MOST_COMMS number within,
        elim (cases_Bool (is_head_line line)) [
          | inl whole ↦ is_group-from_fields ranks (split_fields (body_of line)) group (rw whole at inside)
          | inr cut ↦ absurd (let e = rw cut at inside in cc)
        ],
      )
]

pub AreRead-push : (ranks number : ℕ) (all : Result Groups HeadFault) (groups : Groups) (line : List ℕ) (left : List (List ℕ)) (group : List ℕ) → AreRead ranks number all groups (line ∷ left) → group_of_line ranks number line ≡ Ok group → AreRead ranks (number + 1) all (groups ++ group ∷ []) left
AreRead-push ranks number all groups line left group so_far is =
    let good = is_group-from_line ranks number line group is in
    let more = groups_of_lines ranks (number + 1) left in
    let same : behind_groups groups (put_line (at_line number (group_of_line ranks number line)) more) ≡ all = so_far.same in
    record {
      same = sym (put_front-behind groups group more) ∙ rw is at same;
      count = omega (arith, so_far.count, length-append groups (group ∷ []));
      few = omega (arith, good.0);
      sound = list_all-append (is_group ranks) groups (group ∷ []) ∙ and_from _ _ so_far.sound (and_from _ _ good.1 refl);
    }
