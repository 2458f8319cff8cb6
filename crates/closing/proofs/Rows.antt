-- Small runs with what stands for their journals: tests of the definitions.
use Rattle.std.proofs.Common.{◌≡◌, refl, ℕ, pos, Option, Some, None, Result, Ok, Err, List, [], ◌∷◌, ◌+◌, map, codes}
use Rattle.mpicall.specs.Number.{number_up_to, signed_of, is_canonical}
use Rattle.mpicall.specs.declared.call.Call.{Call}
use Rattle.mpicall.specs.declared.call.Call.TheVariants.{Send, Recv, Isend, Irecv, Probe, Wait, Waitany, Coll, Dup, Split, Finalize, Open}
use Rattle.mpicall.specs.declared.call.Mode.TheVariants.{Standard}
use Rattle.mpicall.specs.declared.call.Kind.TheVariants.{Barrier}
use Rattle.mpicall.specs.declared.call.Peer.TheVariants.{Rank}
use Rattle.journals.specs.Faults.{fault_of_line}
use Rattle.journals.specs.Header.{heading_of}
use Rattle.journals.specs.Journal.{Journal, Fault, journal_of_lines}
use Rattle.journals.specs.Lines.{line_of}
use Rattle.journals.specs.Words.{word_of}
use Rattle.closing.specs.Entries.{Run}
use Rattle.closing.specs.Entry.{Choice}
use Rattle.closing.specs.Recording.{Recording, calls_of, recording_of}
use Rattle.closing.specs.Left.{Left, left_of}
use Rattle.closing.specs.declared.choice.Calls.TheVariants as calls
use Rattle.closing.specs.declared.choice.Tests.TheVariants as tests
use Rattle.closing.specs.declared.choice.Unreported.TheVariants as unreported
use Rattle.closing.specs.declared.why.Why.TheVariants.{NeverCameBack, NeverReported, Failed, CannotBe, NoJournal}

abbrev strict : Choice
strict = record { tests = tests.Wait; calls = calls.Strict; unreported = unreported.Ends }

abbrev passing : Choice
passing = record { tests = tests.Pass; calls = calls.Strict; unreported = unreported.Ends }

abbrev as_it_went : Choice
as_it_went = record { tests = tests.Wait; calls = calls.Went; unreported = unreported.Ends }

-- the groups, the calls of each list, and why lists end before their ends
record Shown : Type 0 where
  groups : List (List ℕ)
  lists : List (List Call)
  left : List Left

abbrev shown : List (List ℕ) → List (List Call) → List Left → Shown
shown groups lists left = record { groups = groups; lists = lists; left = left }

abbrev shown_of : Recording → Shown
shown_of it = shown it.groups (map calls_of it.lists) (left_of it.lists)

abbrev journal_in : Result Journal Fault → Option Journal
journal_in (Ok journal) = Some journal
journal_in (Err fault) = None

-- the journals of the ranks from this one on, by their lines
abbrev journals_from : ℕ → List (Option (List (List ℕ))) → Run
journals_from rank [] = []
journals_from rank (None ∷ others) = None ∷ journals_from (rank + 1) others
journals_from rank (Some lines ∷ others) = journal_in (journal_of_lines rank None lines) ∷ journals_from (rank + 1) others

abbrev closed : Choice → List (Option (List (List ℕ))) → Shown
closed choice journals = shown_of (recording_of (journals_from 0 journals) choice)

wildcards_of_a_probe : closed strict
    (Some (codes "journal 2 0 2 x i y" ∷ codes "probe 0 any any" ∷ codes "=got 1 5" ∷ codes "recv 0 1 5" ∷ codes "finalize" ∷ [])
    ∷ Some (codes "journal 2 1 2 x i y" ∷ codes "send 0 0 5 8" ∷ codes "finalize" ∷ []) ∷ [])
    ≡ shown ((0 ∷ 1 ∷ []) ∷ [])
    ((Probe 0 (Rank 1) 5 ∷ Recv 0 (Rank 1) 5 ∷ Finalize ∷ [])
    ∷ (Send Standard 0 (Rank 0) 5 (Some 8) ∷ Finalize ∷ []) ∷ [])
    []
unfolding recording_of heading_of line_of word_of fault_of_line number_up_to signed_of is_canonical
wildcards_of_a_probe = refl

wildcards_of_a_started_receive : closed strict
    (Some (codes "journal 2 0 2 x i y" ∷ codes "irecv 1 0 any any" ∷ codes "irecv 2 0 1 7" ∷ codes "wait 2" ∷ codes "wait 1" ∷ codes "=done 1 1 3" ∷ codes "finalize" ∷ [])
    ∷ Some (codes "journal 2 1 2 x i y" ∷ codes "send 0 0 3" ∷ codes "send 0 0 7" ∷ codes "finalize" ∷ []) ∷ [])
    ≡ shown ((0 ∷ 1 ∷ []) ∷ [])
    ((Irecv 0 0 (Rank 1) 3 ∷ Irecv 1 0 (Rank 1) 7 ∷ Wait 1 ∷ Wait 0 ∷ Finalize ∷ [])
    ∷ (Send Standard 0 (Rank 0) 3 None ∷ Send Standard 0 (Rank 0) 7 None ∷ Finalize ∷ []) ∷ [])
    []
unfolding recording_of heading_of line_of word_of fault_of_line number_up_to signed_of is_canonical
wildcards_of_a_started_receive = refl

a_receive_that_never_came_back : closed strict
    (Some (codes "journal 2 0 1 x i y" ∷ codes "recv 0 any 4" ∷ []) ∷ [])
    ≡ shown ((0 ∷ []) ∷ [])
    ((Open ∷ []) ∷ [])
    (record { rank = 0; line = 2; why = NeverCameBack } ∷ [])
unfolding recording_of heading_of line_of word_of fault_of_line number_up_to signed_of is_canonical
a_receive_that_never_came_back = refl

a_started_receive_that_was_never_reported : closed strict
    (Some (codes "journal 2 0 2 x i y" ∷ codes "send 0 1 0" ∷ codes "irecv 1 0 any 4" ∷ codes "recv 0 1 9" ∷ [])
    ∷ Some (codes "journal 2 1 2 x i y" ∷ codes "finalize" ∷ []) ∷ [])
    ≡ shown ((0 ∷ 1 ∷ []) ∷ [])
    ((Send Standard 0 (Rank 1) 0 None ∷ Open ∷ [])
    ∷ (Finalize ∷ []) ∷ [])
    (record { rank = 0; line = 3; why = NeverReported } ∷ [])
unfolding recording_of heading_of line_of word_of fault_of_line number_up_to signed_of is_canonical
a_started_receive_that_was_never_reported = refl

waits_for_any_and_for_some : closed strict
    (Some (codes "journal 2 0 2 x i y" ∷ codes "isend 1 0 1 0" ∷ codes "isend 2 0 1 1" ∷ codes "waitany 1 2" ∷ codes "=chose 2" ∷ codes "waitsome 1" ∷ codes "=chose 1" ∷ codes "finalize" ∷ [])
    ∷ Some (codes "journal 2 1 2 x i y" ∷ codes "recv 0 0 1" ∷ codes "recv 0 0 0" ∷ codes "finalize" ∷ []) ∷ [])
    ≡ shown ((0 ∷ 1 ∷ []) ∷ [])
    ((Isend 0 Standard 0 (Rank 1) 0 None ∷ Isend 1 Standard 0 (Rank 1) 1 None ∷ Waitany 1 (0 ∷ 1 ∷ []) ∷ Wait 0 ∷ Finalize ∷ [])
    ∷ (Recv 0 (Rank 0) 1 ∷ Recv 0 (Rank 0) 0 ∷ Finalize ∷ []) ∷ [])
    []
unfolding recording_of heading_of line_of word_of fault_of_line number_up_to signed_of is_canonical
waits_for_any_and_for_some = refl

a_split_by_colours : closed strict
    (Some (codes "journal 2 0 2 x i y" ∷ codes "comm_split 0 0 0" ∷ codes "=comm 2 0" ∷ codes "barrier 2" ∷ codes "finalize" ∷ [])
    ∷ Some (codes "journal 2 1 2 x i y" ∷ codes "comm_split 0 1 0" ∷ codes "=comm 2 1" ∷ codes "barrier 2" ∷ codes "finalize" ∷ []) ∷ [])
    ≡ shown ((0 ∷ 1 ∷ []) ∷ (0 ∷ []) ∷ (1 ∷ []) ∷ [])
    ((Split 0 (Some 0) (pos 0) (Some 1) ∷ Coll 1 Barrier ∷ Finalize ∷ [])
    ∷ (Split 0 (Some 1) (pos 0) (Some 2) ∷ Coll 2 Barrier ∷ Finalize ∷ []) ∷ [])
    []
unfolding recording_of heading_of line_of word_of fault_of_line number_up_to signed_of is_canonical
a_split_by_colours = refl

a_rank_alone : closed strict
    (Some (codes "journal 2 0 2 x i y" ∷ codes "barrier 1" ∷ codes "finalize" ∷ [])
    ∷ Some (codes "journal 2 1 2 x i y" ∷ codes "finalize" ∷ []) ∷ [])
    ≡ shown ((0 ∷ 1 ∷ []) ∷ (0 ∷ []) ∷ [])
    ((Split 0 (Some 0) (pos 0) (Some 1) ∷ Coll 1 Barrier ∷ Finalize ∷ [])
    ∷ (Split 0 None (pos 0) None ∷ Finalize ∷ []) ∷ [])
    []
unfolding recording_of heading_of line_of word_of fault_of_line number_up_to signed_of is_canonical
a_rank_alone = refl

a_matching_probe_takes_its_message : closed strict
    (Some (codes "journal 2 0 2 x i y" ∷ codes "mprobe 1 0 any 2" ∷ codes "=got 1 2" ∷ codes "recv 0 1 2" ∷ codes "mrecv 1" ∷ codes "finalize" ∷ [])
    ∷ Some (codes "journal 2 1 2 x i y" ∷ codes "send 0 0 2" ∷ codes "send 0 0 2" ∷ codes "finalize" ∷ []) ∷ [])
    ≡ shown ((0 ∷ 1 ∷ []) ∷ [])
    ((Probe 0 (Rank 1) 2 ∷ Irecv 0 0 (Rank 1) 2 ∷ Recv 0 (Rank 1) 2 ∷ Wait 0 ∷ Finalize ∷ [])
    ∷ (Send Standard 0 (Rank 0) 2 None ∷ Send Standard 0 (Rank 0) 2 None ∷ Finalize ∷ []) ∷ [])
    []
unfolding recording_of heading_of line_of word_of fault_of_line number_up_to signed_of is_canonical
a_matching_probe_takes_its_message = refl

tests_of_sends_are_passed : closed passing
    (Some (codes "journal 2 0 2 x i y" ∷ codes "isend 1 0 1 0 4" ∷ codes "test 1" ∷ codes "recv 0 1 0" ∷ codes "finalize" ∷ [])
    ∷ Some (codes "journal 2 1 2 x i y" ∷ codes "isend 1 0 0 0 4" ∷ codes "test 1" ∷ codes "recv 0 0 0" ∷ codes "finalize" ∷ []) ∷ [])
    ≡ shown ((0 ∷ 1 ∷ []) ∷ [])
    ((Isend 0 Standard 0 (Rank 1) 0 (Some 4) ∷ Recv 0 (Rank 1) 0 ∷ Wait 0 ∷ Finalize ∷ [])
    ∷ (Isend 0 Standard 0 (Rank 0) 0 (Some 4) ∷ Recv 0 (Rank 0) 0 ∷ Wait 0 ∷ Finalize ∷ []) ∷ [])
    []
unfolding recording_of heading_of line_of word_of fault_of_line number_up_to signed_of is_canonical
tests_of_sends_are_passed = refl

a_rank_beyond_the_group : closed strict
    (Some (codes "journal 2 0 2 x i y" ∷ codes "comm_dup 0" ∷ codes "=comm 2 0 1" ∷ codes "send 2 5 0" ∷ codes "finalize" ∷ [])
    ∷ Some (codes "journal 2 1 2 x i y" ∷ codes "comm_dup 0" ∷ codes "=comm 2 0 1" ∷ codes "finalize" ∷ []) ∷ [])
    ≡ shown ((0 ∷ 1 ∷ []) ∷ (0 ∷ 1 ∷ []) ∷ [])
    ((Dup 0 1 ∷ Open ∷ [])
    ∷ (Dup 0 1 ∷ Finalize ∷ []) ∷ [])
    (record { rank = 0; line = 4; why = CannotBe } ∷ [])
unfolding recording_of heading_of line_of word_of fault_of_line number_up_to signed_of is_canonical
a_rank_beyond_the_group = refl

a_list_without_its_end : closed strict
    (Some (codes "journal 2 0 1 x i y" ∷ codes "barrier 0" ∷ []) ∷ [])
    ≡ shown ((0 ∷ []) ∷ [])
    ((Coll 0 Barrier ∷ Open ∷ []) ∷ [])
    []
unfolding recording_of heading_of line_of word_of fault_of_line number_up_to signed_of is_canonical
a_list_without_its_end = refl

a_communicator_of_a_group : closed strict
    (Some (codes "journal 2 0 2 x i y" ∷ codes "comm_create_group 1 0" ∷ codes "=comm 2 1 0" ∷ codes "barrier 2" ∷ codes "finalize" ∷ [])
    ∷ Some (codes "journal 2 1 2 x i y" ∷ codes "comm_create_group 1 0" ∷ codes "=comm 2 1 0" ∷ codes "barrier 2" ∷ codes "finalize" ∷ []) ∷ [])
    ≡ shown ((0 ∷ 1 ∷ []) ∷ (1 ∷ 0 ∷ []) ∷ [])
    ((Split 0 (Some 0) (pos 1) (Some 1) ∷ Coll 1 Barrier ∷ Coll 1 Barrier ∷ Finalize ∷ [])
    ∷ (Split 0 (Some 0) (pos 0) (Some 1) ∷ Coll 1 Barrier ∷ Coll 1 Barrier ∷ Finalize ∷ []) ∷ [])
    []
unfolding recording_of heading_of line_of word_of fault_of_line number_up_to signed_of is_canonical
a_communicator_of_a_group = refl

calls_as_they_went : closed as_it_went
    (Some (codes "journal 2 0 2 x i y" ∷ codes "send 0 1 0 4" ∷ codes "recv 0 1 0" ∷ codes "recv 0 1 9" ∷ [])
    ∷ Some (codes "journal 2 1 2 x i y" ∷ codes "send 0 0 0 4" ∷ codes "recv 0 0 0" ∷ codes "recv 0 0 9" ∷ []) ∷ [])
    ≡ shown ((0 ∷ 1 ∷ []) ∷ [])
    ((Isend 0 Standard 0 (Rank 1) 0 (Some 4) ∷ Irecv 1 0 (Rank 1) 0 ∷ Recv 0 (Rank 1) 9 ∷ Open ∷ [])
    ∷ (Isend 0 Standard 0 (Rank 0) 0 (Some 4) ∷ Irecv 1 0 (Rank 0) 0 ∷ Recv 0 (Rank 0) 9 ∷ Open ∷ []) ∷ [])
    []
unfolding recording_of heading_of line_of word_of fault_of_line number_up_to signed_of is_canonical
calls_as_they_went = refl

a_cancelled_send : closed strict
    (Some (codes "journal 2 0 2 x i y" ∷ codes "isend 1 0 1 0" ∷ codes "cancel 1" ∷ codes "wait 1" ∷ codes "=gone 1" ∷ codes "finalize" ∷ [])
    ∷ Some (codes "journal 2 1 2 x i y" ∷ codes "finalize" ∷ []) ∷ [])
    ≡ shown ((0 ∷ 1 ∷ []) ∷ [])
    ((Finalize ∷ [])
    ∷ (Finalize ∷ []) ∷ [])
    []
unfolding recording_of heading_of line_of word_of fault_of_line number_up_to signed_of is_canonical
a_cancelled_send = refl

a_wait_for_any_of_one : closed strict
    (Some (codes "journal 2 0 2 x i y" ∷ codes "irecv 1 0 1 0" ∷ codes "waitany 1" ∷ [])
    ∷ Some (codes "journal 2 1 2 x i y" ∷ codes "finalize" ∷ []) ∷ [])
    ≡ shown ((0 ∷ 1 ∷ []) ∷ [])
    ((Irecv 0 0 (Rank 1) 0 ∷ Wait 0 ∷ Open ∷ [])
    ∷ (Finalize ∷ []) ∷ [])
    []
unfolding recording_of heading_of line_of word_of fault_of_line number_up_to signed_of is_canonical
a_wait_for_any_of_one = refl

a_last_call_that_came_back : closed as_it_went
    (Some (codes "journal 2 0 2 x i y" ∷ codes "send 0 1 0 4" ∷ codes "recv 0 1 0" ∷ codes "recv 0 1 9" ∷ [])
    ∷ Some (codes "journal 2 1 2 x o y" ∷ codes "send 0 0 0 4" ∷ codes "recv 0 0 0" ∷ codes "recv 0 0 9" ∷ []) ∷ [])
    ≡ shown ((0 ∷ 1 ∷ []) ∷ [])
    ((Isend 0 Standard 0 (Rank 1) 0 (Some 4) ∷ Irecv 1 0 (Rank 1) 0 ∷ Recv 0 (Rank 1) 9 ∷ Open ∷ [])
    ∷ (Isend 0 Standard 0 (Rank 0) 0 (Some 4) ∷ Irecv 1 0 (Rank 0) 0 ∷ Irecv 2 0 (Rank 0) 9 ∷ Open ∷ []) ∷ [])
    []
unfolding recording_of heading_of line_of word_of fault_of_line number_up_to signed_of is_canonical
a_last_call_that_came_back = refl

a_cancel_of_unknown_outcome : closed strict
    (Some (codes "journal 2 0 2 x i y" ∷ codes "isend 1 0 1 0" ∷ codes "send 0 1 0" ∷ codes "cancel 1" ∷ [])
    ∷ Some (codes "journal 2 1 2 x i y" ∷ codes "recv 0 0 0" ∷ codes "finalize" ∷ []) ∷ [])
    ≡ shown ((0 ∷ 1 ∷ []) ∷ [])
    ((Isend 0 Standard 0 (Rank 1) 0 None ∷ Send Standard 0 (Rank 1) 0 None ∷ Open ∷ [])
    ∷ (Recv 0 (Rank 0) 0 ∷ Finalize ∷ []) ∷ [])
    (record { rank = 0; line = 4; why = NeverReported } ∷ [])
unfolding recording_of heading_of line_of word_of fault_of_line number_up_to signed_of is_canonical
a_cancel_of_unknown_outcome = refl

a_call_that_failed : closed strict
    (Some (codes "journal 2 0 2 x i y" ∷ codes "send 0 1 0" ∷ codes "=failed" ∷ codes "recv 0 1 0" ∷ [])
    ∷ Some (codes "journal 2 1 2 x i y" ∷ codes "finalize" ∷ []) ∷ [])
    ≡ shown ((0 ∷ 1 ∷ []) ∷ [])
    ((Open ∷ [])
    ∷ (Finalize ∷ []) ∷ [])
    (record { rank = 0; line = 2; why = Failed } ∷ [])
unfolding recording_of heading_of line_of word_of fault_of_line number_up_to signed_of is_canonical
a_call_that_failed = refl

a_communicator_of_a_group_that_never_came_back : closed strict
    (Some (codes "journal 2 0 2 x i y" ∷ codes "comm_create_group 1 0" ∷ [])
    ∷ Some (codes "journal 2 1 2 x i y" ∷ codes "comm_create_group 1 0" ∷ codes "=comm 2 1 0" ∷ codes "finalize" ∷ []) ∷ [])
    ≡ shown ((0 ∷ 1 ∷ []) ∷ (1 ∷ 0 ∷ []) ∷ [])
    ((Split 0 (Some 0) (pos 1) (Some 1) ∷ Coll 1 Barrier ∷ Open ∷ [])
    ∷ (Split 0 (Some 0) (pos 0) (Some 1) ∷ Coll 1 Barrier ∷ Finalize ∷ []) ∷ [])
    []
unfolding recording_of heading_of line_of word_of fault_of_line number_up_to signed_of is_canonical
a_communicator_of_a_group_that_never_came_back = refl

a_rank_without_a_journal : closed strict
    (Some (codes "journal 2 0 2 x i y" ∷ codes "comm_dup 0" ∷ [])
    ∷ None ∷ [])
    ≡ shown ((0 ∷ 1 ∷ []) ∷ [])
    ((Coll 0 Barrier ∷ Open ∷ [])
    ∷ (Open ∷ []) ∷ [])
    (record { rank = 1; line = 0; why = NoJournal } ∷ [])
unfolding recording_of heading_of line_of word_of fault_of_line number_up_to signed_of is_canonical
a_rank_without_a_journal = refl
