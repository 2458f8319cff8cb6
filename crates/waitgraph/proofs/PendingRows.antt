-- Small runs with pending calls and sinks, and the ranks that are held: tests of the definitions.
use Rattle.std.proofs.Common.{◌≡◌, refl, ℕ, true, false, Option, Some, None, List, [], ◌∷◌}
use Rattle.mpicall.specs.declared.call.Call.{Call}
use Rattle.mpicall.specs.declared.call.Call.TheVariants.{Send, Recv, Isend, Irecv, Sendrecv, Coll, Finalize, Open}
use Rattle.mpicall.specs.declared.call.Mode.TheVariants.{Standard}
use Rattle.mpicall.specs.declared.call.Kind.TheVariants.{Barrier}
use Rattle.mpicall.specs.declared.call.Peer.TheVariants.{Rank, Null}
use Rattle.moves.specs.declared.reading.Reading.TheVariants.{Strict}
use Rattle.waitgraph.specs.Pending.{PendingView}
use Rattle.waitgraph.specs.declared.pending.Item.{Item}
use Rattle.waitgraph.specs.declared.pending.Item.TheVariants as item
use Rattle.waitgraph.specs.declared.pending.Sink.{Sink}
use Rattle.waitgraph.specs.declared.pending.Wanted.{Wanted}
use Rattle.waitgraph.specs.inner.PendingLoose.{held_by_pending}

abbrev wanted : Option ℕ → Option ℕ → Wanted
wanted source tag = record { comm = 0; source = source; tag = tag }

abbrev sink : ℕ → ℕ → Wanted → Sink
sink rank place message = record { rank = rank; place = place; wanted = message }

abbrev all_of : List Item → PendingView
all_of items = record { is_all = true; items = items }

abbrev any_of : List Item → PendingView
any_of items = record { is_all = false; items = items }

-- the held ranks of lists of two ranks, or of three
abbrev two : List (List Call) → List PendingView → List Sink → List ℕ
two lists pending sinks = held_by_pending Strict ((0 ∷ 1 ∷ []) ∷ []) lists (record { pending = pending; sinks = sinks })

abbrev three : List (List Call) → List PendingView → List Sink → List ℕ
three lists pending sinks = held_by_pending Strict ((0 ∷ 1 ∷ 2 ∷ []) ∷ []) lists (record { pending = pending; sinks = sinks })

a_master_whose_workers_wait_for_it : three
    ((Open ∷ []) ∷ (Recv 0 (Rank 0) 1 ∷ Open ∷ []) ∷ (Recv 0 (Rank 0) 1 ∷ Open ∷ []) ∷ [])
    (all_of (item.Message (wanted None None) ∷ []) ∷ [])
    [] ≡ 0 ∷ 1 ∷ 2 ∷ []
a_master_whose_workers_wait_for_it = refl

a_worker_that_computes : three
    ((Open ∷ []) ∷ (Recv 0 (Rank 0) 1 ∷ Open ∷ []) ∷ (Irecv 0 0 (Rank 0) 1 ∷ Open ∷ []) ∷ [])
    (all_of (item.Message (wanted None None) ∷ []) ∷ [])
    [] ≡ []
a_worker_that_computes = refl

workers_that_are_done : three
    ((Open ∷ []) ∷ (Finalize ∷ []) ∷ (Finalize ∷ []) ∷ [])
    (all_of (item.Message (wanted None None) ∷ []) ∷ [])
    [] ≡ 0 ∷ []
workers_that_are_done = refl

a_send_of_a_worker_that_is_done : three
    ((Open ∷ []) ∷ (Finalize ∷ []) ∷ (Isend 0 Standard 0 (Rank 0) 4 (Some 1) ∷ Finalize ∷ []) ∷ [])
    (all_of (item.Message (wanted None None) ∷ []) ∷ [])
    [] ≡ []
a_send_of_a_worker_that_is_done = refl

a_wait_for_any_of_held_ranks : three
    ((Irecv 0 0 (Rank 1) 0 ∷ Irecv 1 0 (Rank 2) 0 ∷ Open ∷ []) ∷ (Recv 0 (Rank 0) 5 ∷ Open ∷ []) ∷ (Coll 0 Barrier ∷ Open ∷ []) ∷ [])
    (any_of (item.Request 0 ∷ item.Request 1 ∷ []) ∷ [])
    [] ≡ 0 ∷ 1 ∷ 2 ∷ []
a_wait_for_any_of_held_ranks = refl

a_wait_for_a_receive_from_anybody : two
    ((Irecv 0 0 Null 0 ∷ Open ∷ []) ∷ (Recv 0 (Rank 0) 1 ∷ Open ∷ []) ∷ [])
    (all_of (item.Message (wanted None (Some 4)) ∷ []) ∷ [])
    (sink 0 0 (wanted None (Some 4)) ∷ []) ≡ 0 ∷ 1 ∷ []
a_wait_for_a_receive_from_anybody = refl

a_send_that_a_sink_may_take : two
    ((Irecv 0 0 Null 0 ∷ Recv 0 (Rank 1) 5 ∷ Open ∷ []) ∷ (Send Standard 0 (Rank 0) 4 (Some 8) ∷ Open ∷ []) ∷ [])
    []
    (sink 0 0 (wanted None (Some 4)) ∷ []) ≡ []
a_send_that_a_sink_may_take = refl

a_send_of_another_tag : two
    ((Irecv 0 0 Null 0 ∷ Recv 0 (Rank 1) 5 ∷ Open ∷ []) ∷ (Send Standard 0 (Rank 0) 6 (Some 8) ∷ Open ∷ []) ∷ [])
    []
    (sink 0 0 (wanted None (Some 4)) ∷ []) ≡ 0 ∷ 1 ∷ []
a_send_of_another_tag = refl

a_pending_sendrecv : two
    ((Isend 0 Standard 0 (Rank 1) 7 None ∷ Irecv 1 0 Null 0 ∷ Open ∷ []) ∷ (Send Standard 0 (Rank 0) 4 None ∷ Recv 0 (Rank 0) 7 ∷ Open ∷ []) ∷ [])
    (all_of (item.Request 0 ∷ item.Message (wanted None (Some 4)) ∷ []) ∷ [])
    (sink 0 1 (wanted None (Some 4)) ∷ []) ≡ []
a_pending_sendrecv = refl

sinks_of_one_message : two
    ((Irecv 0 0 Null 0 ∷ Irecv 1 0 Null 0 ∷ Coll 0 Barrier ∷ Open ∷ []) ∷ (Recv 0 (Rank 0) 9 ∷ Open ∷ []) ∷ [])
    []
    (sink 0 0 (wanted None (Some 1)) ∷ sink 0 1 (wanted (Some 1) (Some 1)) ∷ []) ≡ 0 ∷ 1 ∷ []
sinks_of_one_message = refl

a_sink_that_was_waited_for : two
    ((Irecv 0 0 Null 0 ∷ Recv 0 (Rank 1) 5 ∷ Open ∷ []) ∷ (Isend 0 Standard 0 (Rank 0) 4 None ∷ Recv 0 (Rank 0) 5 ∷ Open ∷ []) ∷ [])
    []
    (sink 0 0 (wanted None (Some 4)) ∷ []) ≡ 0 ∷ 1 ∷ []
a_sink_that_was_waited_for = refl

-- Wrong bodies of the definitions, of which each would answer otherwise.

-- a rank that could send to itself: the rank alone
nobody_but_itself : held_by_pending Strict ((0 ∷ []) ∷ []) ((Open ∷ []) ∷ []) (record { pending = all_of (item.Message (wanted None None) ∷ []) ∷ []; sinks = [] }) ≡ 0 ∷ []
nobody_but_itself = refl

-- a send that isn't reached, of a held rank: it brings nothing
a_send_behind_the_stand_of_a_held_rank : two
    ((Open ∷ []) ∷ (Recv 0 (Rank 0) 1 ∷ Isend 0 Standard 0 (Rank 0) 4 None ∷ Open ∷ []) ∷ [])
    (all_of (item.Message (wanted None None) ∷ []) ∷ [])
    [] ≡ 0 ∷ 1 ∷ []
a_send_behind_the_stand_of_a_held_rank = refl

-- a reached one does
a_send_before_the_stand_of_a_rank : two
    ((Open ∷ []) ∷ (Isend 0 Standard 0 (Rank 0) 4 None ∷ Recv 0 (Rank 0) 1 ∷ Open ∷ []) ∷ [])
    (all_of (item.Message (wanted None None) ∷ []) ∷ [])
    [] ≡ []
a_send_before_the_stand_of_a_rank = refl

-- a rank that waits for any, of whose requests one is on a held rank and one on a rank that computes
one_of_several_is_held : three
    ((Irecv 0 0 (Rank 1) 0 ∷ Irecv 1 0 (Rank 2) 0 ∷ Open ∷ []) ∷ (Recv 0 (Rank 1) 5 ∷ Open ∷ []) ∷ (Open ∷ []) ∷ [])
    (any_of (item.Request 0 ∷ item.Request 1 ∷ []) ∷ [])
    [] ≡ 1 ∷ []
one_of_several_is_held = refl

-- the same for all
all_of_which_one_is_held : three
    ((Irecv 0 0 (Rank 1) 0 ∷ Irecv 1 0 (Rank 2) 0 ∷ Open ∷ []) ∷ (Recv 0 (Rank 1) 5 ∷ Open ∷ []) ∷ (Open ∷ []) ∷ [])
    (all_of (item.Request 0 ∷ item.Request 1 ∷ []) ∷ [])
    [] ≡ 0 ∷ 1 ∷ []
all_of_which_one_is_held = refl

-- a sink after the stand of a held rank takes nothing
a_sink_behind_the_stand_of_a_held_rank : two
    ((Recv 0 (Rank 1) 5 ∷ Irecv 0 0 Null 0 ∷ Open ∷ []) ∷ (Send Standard 0 (Rank 0) 4 None ∷ Open ∷ []) ∷ [])
    []
    (sink 0 1 (wanted None (Some 4)) ∷ []) ≡ 0 ∷ 1 ∷ []
a_sink_behind_the_stand_of_a_held_rank = refl

-- one of a loose rank may
a_sink_of_a_rank_that_may_move : three
    ((Recv 0 (Rank 2) 5 ∷ Irecv 0 0 Null 0 ∷ Open ∷ []) ∷ (Send Standard 0 (Rank 0) 4 None ∷ Open ∷ []) ∷ (Open ∷ []) ∷ [])
    []
    (sink 0 1 (wanted None (Some 4)) ∷ []) ≡ []
a_sink_of_a_rank_that_may_move = refl

-- without its sink the send is held
without_a_sink : two
    ((Irecv 0 0 Null 0 ∷ Recv 0 (Rank 1) 5 ∷ Open ∷ []) ∷ (Send Standard 0 (Rank 0) 4 (Some 8) ∷ Open ∷ []) ∷ [])
    [] [] ≡ 0 ∷ 1 ∷ []
without_a_sink = refl

-- a rank that exchanges with another, whose list ended: a sink takes what it sends, and what it receives is missing
one_half_of_two_may_come : two
    ((Irecv 0 0 Null 0 ∷ Finalize ∷ []) ∷ (Sendrecv 0 (Rank 0) 4 (Rank 0) 6 None ∷ Open ∷ []) ∷ [])
    []
    (sink 0 0 (wanted None (Some 4)) ∷ []) ≡ 1 ∷ []
one_half_of_two_may_come = refl

-- More runs.
masters_that_wait_for_each_others_workers : held_by_pending Strict ((0 ∷ 1 ∷ 2 ∷ 3 ∷ []) ∷ [])
    ((Open ∷ []) ∷ (Open ∷ []) ∷ (Recv 0 (Rank 0) 1 ∷ Open ∷ []) ∷ (Recv 0 (Rank 1) 1 ∷ Open ∷ []) ∷ [])
    (record { pending = all_of (item.Message (wanted (Some 3) None) ∷ []) ∷ all_of (item.Message (wanted (Some 2) None) ∷ []) ∷ []; sinks = [] }) ≡ 0 ∷ 1 ∷ 2 ∷ 3 ∷ []
masters_that_wait_for_each_others_workers = refl

a_master_whose_workers_are_in_a_barrier : three
    ((Open ∷ []) ∷ (Coll 0 Barrier ∷ Open ∷ []) ∷ (Coll 0 Barrier ∷ Open ∷ []) ∷ [])
    (all_of (item.Message (wanted None (Some 4)) ∷ []) ∷ [])
    [] ≡ 0 ∷ 1 ∷ 2 ∷ []
a_master_whose_workers_are_in_a_barrier = refl

a_message_from_one_source : three
    ((Open ∷ []) ∷ (Finalize ∷ []) ∷ (Open ∷ []) ∷ [])
    (all_of (item.Message (wanted (Some 1) None) ∷ []) ∷ [])
    [] ≡ 0 ∷ []
a_message_from_one_source = refl

a_message_with_another_tag : two
    ((Open ∷ []) ∷ (Isend 0 Standard 0 (Rank 0) 5 None ∷ Finalize ∷ []) ∷ [])
    (all_of (item.Message (wanted None (Some 4)) ∷ []) ∷ [])
    [] ≡ 0 ∷ []
a_message_with_another_tag = refl

a_send_behind_the_stand_of_a_rank_that_may_move : three
    ((Open ∷ []) ∷ (Recv 0 (Rank 2) 1 ∷ Isend 0 Standard 0 (Rank 0) 4 None ∷ Finalize ∷ []) ∷ (Open ∷ []) ∷ [])
    (all_of (item.Message (wanted (Some 1) (Some 4)) ∷ []) ∷ [])
    [] ≡ []
a_send_behind_the_stand_of_a_rank_that_may_move = refl

a_message_over_a_communicator_of_two : held_by_pending Strict ((0 ∷ 1 ∷ 2 ∷ []) ∷ (2 ∷ 0 ∷ []) ∷ [])
    ((Open ∷ []) ∷ (Open ∷ []) ∷ (Finalize ∷ []) ∷ [])
    (record { pending = all_of (item.Message (record { comm = 1; source = None; tag = None }) ∷ []) ∷ []; sinks = [] }) ≡ 0 ∷ []
a_message_over_a_communicator_of_two = refl

a_pending_call_without_items : two
    ((Open ∷ []) ∷ (Recv 0 (Rank 0) 1 ∷ Open ∷ []) ∷ [])
    (any_of [] ∷ [])
    [] ≡ []
a_pending_call_without_items = refl
