-- Small recordings of two ranks with their cuts: whether each is clean, what its windows are, and where ranks stand.
use Rattle.mpicall.specs.Names.{Rank, Place, Request, Tag}
use Rattle.std.specs.Prelude.{◌≡◌, true, false, Some, None, List, [], ◌∷◌, slice_index}
use Rattle.mpicall.specs.declared.call.Mode.TheVariants.{Standard}
use Rattle.mpicall.specs.declared.call.Peer.TheVariants as peer
use Rattle.mpicall.specs.declared.call.Kind.TheVariants.{Barrier}
use Rattle.mpicall.specs.declared.call.Call.{Call}
use Rattle.mpicall.specs.declared.call.Call.TheVariants.{Send, Recv, Isend, Irecv, Probe, Wait, Waitall, Waitany, Coll, Icoll, Finalize, Open}
use Rattle.mpigroup.specs.Groups.{Groups, or_empty}
use Rattle.callstore.specs.Recordings.{Lists}
use Rattle.callstore.specs.Requests.{is_among}
use Rattle.moves.specs.declared.reading.Reading.TheVariants.{Strict, Eager}
use Rattle.moves.specs.Runs.{State}
use Rattle.moves.specs.Stands.{stands_of}
use Rattle.windows.specs.Cuts.{Cut, before_cut, first_window, second_window}
use Rattle.windows.specs.Clean.{are_in_turn, is_clean}

-- the world of two ranks
abbrev pub world : Groups
world = (0 ∷ 1 ∷ []) ∷ []

-- the cut at the places of the ranks, with the requests of each whose receives are moved
abbrev pub cut_at : List Place → List (List Request) → Cut
cut_at places moved = record { place = slice_index places; moves = λ rank req. is_among req (or_empty moved rank) }

abbrev pub lists : List Call → List Call → Lists
lists first second = first ∷ second ∷ []

abbrev pub stand : Place → Place → State
stand first second = first ∷ second ∷ []

abbrev pub send : Rank → Tag → Call
send dest tag = Send Standard 0 (peer.Rank dest) tag None

abbrev pub recv : Rank → Tag → Call
recv source tag = Recv 0 (peer.Rank source) tag

abbrev pub isend : Request → Rank → Tag → Call
isend req dest tag = Isend req Standard 0 (peer.Rank dest) tag None

abbrev pub irecv : Request → Rank → Tag → Call
irecv req source tag = Irecv req 0 (peer.Rank source) tag

-- a start of the request that meets nobody
abbrev pub started : Request → Call
started req = Isend req Standard 0 peer.Null 0 None

abbrev pub barrier : Call
barrier = Coll 0 Barrier

-- ---- A hang after the cut ----

abbrev pub lost : Lists
lost = lists (send 1 0 ∷ barrier ∷ recv 1 1 ∷ Finalize ∷ []) (recv 0 0 ∷ barrier ∷ Finalize ∷ [])

pub record AReceiveAfterLacksItsSend : Type 0 where
  pub clean : is_clean world lost (cut_at (2 ∷ 2 ∷ []) []) ≡ true
  pub free : stands_of Strict world (first_window lost (cut_at (2 ∷ 2 ∷ []) [])) ≡ stand 2 2
  pub second : second_window lost (cut_at (2 ∷ 2 ∷ []) []) ≡ lists (recv 1 1 ∷ Finalize ∷ []) (Finalize ∷ [])
  pub stands : stands_of Strict world (second_window lost (cut_at (2 ∷ 2 ∷ []) [])) ≡ stand 0 0
  pub in_whole : stands_of Strict world lost ≡ stand 2 2

-- ---- Requests over the cut ----

abbrev pub sent_before : Lists
sent_before = lists (isend 1 1 0 ∷ barrier ∷ Wait 1 ∷ Finalize ∷ []) (recv 0 0 ∷ barrier ∷ Finalize ∷ [])

pub record AWaitAfterForASendBefore : Type 0 where
  pub clean : is_clean world sent_before (cut_at (2 ∷ 2 ∷ []) []) ≡ true
  pub second : second_window sent_before (cut_at (2 ∷ 2 ∷ []) []) ≡ lists (started 1 ∷ Wait 1 ∷ Finalize ∷ []) (Finalize ∷ [])
  pub free : stands_of Strict world (second_window sent_before (cut_at (2 ∷ 2 ∷ []) [])) ≡ stand 2 0
  pub in_whole : stands_of Strict world sent_before ≡ stand 3 2

abbrev pub sent_after : Lists
sent_after = lists (irecv 1 1 0 ∷ barrier ∷ Wait 1 ∷ Finalize ∷ []) (barrier ∷ send 0 0 ∷ Finalize ∷ [])

pub record AReceiveIsMoved : Type 0 where
  pub clean : is_clean world sent_after (cut_at (2 ∷ 1 ∷ []) ((1 ∷ []) ∷ [])) ≡ true
  pub first : first_window sent_after (cut_at (2 ∷ 1 ∷ []) ((1 ∷ []) ∷ [])) ≡ lists (Irecv 1 0 peer.Null 0 ∷ barrier ∷ Finalize ∷ []) (barrier ∷ Finalize ∷ [])
  pub second : second_window sent_after (cut_at (2 ∷ 1 ∷ []) ((1 ∷ []) ∷ [])) ≡ lists (irecv 1 1 0 ∷ Wait 1 ∷ Finalize ∷ []) (send 0 0 ∷ Finalize ∷ [])
  pub not_otherwise : is_clean world sent_after (cut_at (2 ∷ 1 ∷ []) []) ≡ false

abbrev pub of_both_sides : Lists
of_both_sides =
    lists (irecv 1 1 0 ∷ isend 2 1 0 ∷ barrier ∷ isend 3 1 1 ∷ Waitall (1 ∷ 2 ∷ 3 ∷ []) ∷ Finalize ∷ [])
    (recv 0 0 ∷ barrier ∷ send 0 0 ∷ recv 0 1 ∷ Finalize ∷ [])

pub record AWaitNamesRequestsOfBothSides : Type 0 where
  pub clean : is_clean world of_both_sides (cut_at (3 ∷ 2 ∷ []) ((1 ∷ []) ∷ [])) ≡ true
  pub second : second_window of_both_sides (cut_at (3 ∷ 2 ∷ []) ((1 ∷ []) ∷ [])) ≡
      lists (irecv 1 1 0 ∷ started 2 ∷ isend 3 1 1 ∷ Waitall (1 ∷ 2 ∷ 3 ∷ []) ∷ Finalize ∷ []) (send 0 0 ∷ recv 0 1 ∷ Finalize ∷ [])
  pub stands : stands_of Strict world (second_window of_both_sides (cut_at (3 ∷ 2 ∷ []) ((1 ∷ []) ∷ []))) ≡ stand 4 2
  pub in_whole : stands_of Strict world of_both_sides ≡ stand 5 4

abbrev pub chosen_after : Lists
chosen_after = lists (irecv 1 1 0 ∷ irecv 2 1 1 ∷ barrier ∷ Waitany 1 (1 ∷ 2 ∷ []) ∷ Wait 1 ∷ Finalize ∷ []) (barrier ∷ send 0 1 ∷ Finalize ∷ [])

pub record AWaitForOneOfTwo : Type 0 where
  pub clean : is_clean world chosen_after (cut_at (3 ∷ 1 ∷ []) ((1 ∷ 2 ∷ []) ∷ [])) ≡ true
  pub stands : stands_of Strict world (second_window chosen_after (cut_at (3 ∷ 1 ∷ []) ((1 ∷ 2 ∷ []) ∷ []))) ≡ stand 3 1
  pub in_whole : stands_of Strict world chosen_after ≡ stand 4 2

abbrev pub joined_before : Lists
joined_before = lists (Icoll 1 0 Barrier ∷ Wait 1 ∷ Finalize ∷ []) (Icoll 1 0 Barrier ∷ Wait 1 ∷ Finalize ∷ [])

pub record AWaitAfterForACollectiveBefore : Type 0 where
  pub clean : is_clean world joined_before (cut_at (1 ∷ 1 ∷ []) []) ≡ true
  pub second : second_window joined_before (cut_at (1 ∷ 1 ∷ []) []) ≡ lists (started 1 ∷ Wait 1 ∷ Finalize ∷ []) (started 1 ∷ Wait 1 ∷ Finalize ∷ [])

-- ---- Cuts that aren't clean ----

abbrev pub under_way : Lists
under_way = lists (isend 1 1 0 ∷ barrier ∷ Wait 1 ∷ Finalize ∷ []) (barrier ∷ recv 0 0 ∷ Finalize ∷ [])

abbrev pub AMessageIsUnderWay : Type 0
AMessageIsUnderWay = is_clean world under_way (cut_at (2 ∷ 1 ∷ []) []) ≡ false

abbrev pub ACollectiveIsUnderWay : Type 0
ACollectiveIsUnderWay = is_clean world joined_before (cut_at (1 ∷ 0 ∷ []) []) ≡ false

abbrev pub overtaken : Lists
overtaken = lists (irecv 1 1 0 ∷ recv 1 0 ∷ Wait 1 ∷ Finalize ∷ []) (send 0 0 ∷ send 0 0 ∷ Finalize ∷ [])

pub record AReceiveOvertakes : Type 0 where
  pub moved : is_clean world overtaken (cut_at (2 ∷ 1 ∷ []) ((1 ∷ []) ∷ [])) ≡ false
  pub by_its_turn : are_in_turn world 0 (λ req. is_among req (1 ∷ [])) (before_cut overtaken (cut_at (2 ∷ 1 ∷ []) []) 0) ≡ false
  pub not_moved : is_clean world overtaken (cut_at (2 ∷ 1 ∷ []) []) ≡ false

abbrev pub probed : Lists
probed = lists (Probe 0 (peer.Rank 1) 0 ∷ recv 1 0 ∷ Finalize ∷ []) (send 0 0 ∷ Finalize ∷ [])

pub record AProbeOfALaterSend : Type 0 where
  pub before : is_clean world probed (cut_at (1 ∷ 0 ∷ []) []) ≡ false
  pub without_its_receive : is_clean world probed (cut_at (1 ∷ 1 ∷ []) []) ≡ false
  pub after : is_clean world probed (cut_at (0 ∷ 0 ∷ []) []) ≡ true

-- ---- A first window that isn't free ----

abbrev pub crossed : Lists
crossed = lists (send 1 0 ∷ recv 1 0 ∷ Finalize ∷ []) (send 0 0 ∷ recv 0 0 ∷ Finalize ∷ [])

pub record AFirstWindowHangs : Type 0 where
  pub clean : is_clean world crossed (cut_at (2 ∷ 2 ∷ []) []) ≡ true
  pub first : stands_of Strict world (first_window crossed (cut_at (2 ∷ 2 ∷ []) [])) ≡ stand 0 0
  pub in_whole : stands_of Strict world crossed ≡ stand 0 0

-- with a limit for eager sends it is free
abbrev pub crossed_small : Lists
crossed_small =
    lists (Send Standard 0 (peer.Rank 1) 0 (Some 8) ∷ recv 1 0 ∷ Finalize ∷ []) (Send Standard 0 (peer.Rank 0) 0 (Some 8) ∷ recv 0 0 ∷ Finalize ∷ [])

pub record SmallSendsGoAtOnce : Type 0 where
  pub clean : is_clean world crossed_small (cut_at (2 ∷ 2 ∷ []) []) ≡ true
  pub first : stands_of (Eager 8) world (first_window crossed_small (cut_at (2 ∷ 2 ∷ []) [])) ≡ stand 2 2
  pub too_long : stands_of (Eager 7) world (first_window crossed_small (cut_at (2 ∷ 2 ∷ []) [])) ≡ stand 0 0

-- ---- Cuts at the beginning and at the end ----

pub record CutsAtTheEnds : Type 0 where
  pub beginning : is_clean world lost (cut_at (0 ∷ 0 ∷ []) []) ≡ true
  pub all_after : second_window lost (cut_at (0 ∷ 0 ∷ []) []) ≡ lost
  pub end : is_clean world sent_before (cut_at (3 ∷ 2 ∷ []) []) ≡ true
  pub none_after : second_window sent_before (cut_at (3 ∷ 2 ∷ []) []) ≡ lists (Finalize ∷ []) (Finalize ∷ [])
  pub past_the_end : is_clean world sent_before (cut_at (4 ∷ 3 ∷ []) []) ≡ false

-- a list that was left open is so after the cut
abbrev pub left_open : Lists
left_open = lists (barrier ∷ recv 1 0 ∷ Open ∷ []) (barrier ∷ Open ∷ [])

pub record TheListGoesOn : Type 0 where
  pub clean : is_clean world left_open (cut_at (1 ∷ 1 ∷ []) []) ≡ true
  pub first : first_window left_open (cut_at (1 ∷ 1 ∷ []) []) ≡ lists (barrier ∷ Finalize ∷ []) (barrier ∷ Finalize ∷ [])
  pub second : second_window left_open (cut_at (1 ∷ 1 ∷ []) []) ≡ lists (recv 1 0 ∷ Open ∷ []) (Open ∷ [])

-- all of these
pub record RowsAreRight : Type 0 where
  pub lacks_its_send : AReceiveAfterLacksItsSend
  pub send_before : AWaitAfterForASendBefore
  pub is_moved : AReceiveIsMoved
  pub both_sides : AWaitNamesRequestsOfBothSides
  pub one_of_two : AWaitForOneOfTwo
  pub collective_before : AWaitAfterForACollectiveBefore
  pub message_under_way : AMessageIsUnderWay
  pub collective_under_way : ACollectiveIsUnderWay
  pub overtakes : AReceiveOvertakes
  pub probe : AProbeOfALaterSend
  pub hangs : AFirstWindowHangs
  pub small_sends : SmallSendsGoAtOnce
  pub ends : CutsAtTheEnds
  pub goes_on : TheListGoesOn
