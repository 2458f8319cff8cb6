-- The head of a recording: groups of ranks of its run, no more than a head may have.
use Rattle.std.proofs.Common.{◌≡◌, ℕ, zero, suc, ◌+◌, ◌≤◌, not, true, false, List, [], ◌∷◌, length, map, take, filter, refl, sym, subst, arith}
use Rattle.std.specs.List.{list_all, flat_map}
use Rattle.std.proofs.lemmas.Bool.{and_parts, not-true, le-leb}
use Rattle.std.proofs.lemmas.List.{length-map}
use Rattle.std.proofs.lemmas.List.FromFn.{length-range_with_len}
use Rattle.mpicall.specs.declared.limits.TheConstants.{GREATEST_COMM}
use Rattle.mpigroup.specs.Groups.{ranks_of}
use Rattle.mpigroup.specs.HeadText.{has_twice, is_group}
use Rattle.journals.specs.Known.{is_among, are_distinct}
use Rattle.closing.specs.Keys.{Key, group_of_key, each_once}
use Rattle.closing.specs.Entries.{Run, ranks_of as ranks_in}
use Rattle.closing.specs.Made.{keys_at}
use Rattle.closing.specs.Numbers.{is_named, numbered_keys, groups_of}
use Rattle.closing.specs.Recording.{recording_of}
use Rattle.lawful.specs.Closed.{EachHeadIsAHead}
use Rattle.lawful.proofs.GroupFacts.{IsGroupOf}
use Rattle.lawful.proofs.FullFacts.{FitsRanks}
use Rattle.lawful.proofs.RunFull.{run_full}
use Rattle.lawful.proofs.KeyGroups.{AllKeys, numbered_full}

once_twice : (group : List ℕ) → are_distinct group ≡ true → has_twice group ≡ false
once_twice [] once = refl
once_twice (rank ∷ group) once =
    let parts = and_parts (not (is_among rank group)) (are_distinct group) once in
    rw (not-true (is_among rank group) parts.0, once_twice group parts.1) refl

pub group_is : (ranks : ℕ) (group : List ℕ) → IsGroupOf ranks group → is_group ranks group ≡ true
group_is ranks group is = rw (le-leb 1 (length group) is.some, is.below, once_twice group is.once) refl

groups_are : (ranks : ℕ) (keys : List Key) → AllKeys ranks keys → list_all (is_group ranks) (map (group_of_key ranks) keys) ≡ true
groups_are ranks [] all = refl
groups_are ranks (key ∷ keys) all = rw (group_is ranks (group_of_key ranks key) all.0, groups_are ranks keys all.1) refl

few_taken : {A : Type 0} (n : ℕ) (xs : List A) → length (take n xs) ≤ n
few_taken zero xs = omega arith
few_taken (suc n) [] = omega arith
few_taken (suc n) (x ∷ xs) = let rest = few_taken n xs in omega (arith, rest)

pub few_numbered : (run : Run) → length (numbered_keys run) ≤ GREATEST_COMM + 1
few_numbered run = one_more (few_taken GREATEST_COMM (each_once [] (filter (is_named run) (flat_map (keys_at run) (ranks_in run)))))
  where
    one_more : {n : ℕ} → n ≤ GREATEST_COMM → suc n ≤ GREATEST_COMM + 1
    one_more le = omega (arith, le)

pub world_size : (run : Run) → ranks_of (groups_of run) ≡ length run
world_size run = length-range_with_len 0 (length run)

pub each_head_is_a_head : EachHeadIsAHead
unfolding recording_of
each_head_is_a_head run choice read =
    let full = run_full read.first read.texts run read.is_read in
    record {
      ranks_fit = subst FitsRanks (sym (world_size run)) full.fits;
      few = subst (λ (n : ℕ). n ≤ GREATEST_COMM + 1) (sym (length-map (numbered_keys run) (group_of_key (length run)))) (few_numbered run);
      are_groups = subst (λ (ranks : ℕ). list_all (is_group ranks) (groups_of run) ≡ true) (sym (world_size run)) (groups_are (length run) (numbered_keys run) (numbered_full run full));
    }
