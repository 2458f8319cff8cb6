-- What is under way where the journals of a run are cut: a cut isn't clean at the first entry whose call meets one that
-- the journals don't have, or that takes a message which a moved receive before it may take.
use Rattle.mpicall.specs.Names.{Rank, Place}
use Rattle.std.specs.Prelude.{ℕ, suc, pos, Bool, true, false, ◌&&◌, ◌||◌, not, ◌==◌, Option, Some, None, is_some, option_map, option_to_list, if◌then◌else◌, List, [], ◌∷◌, ◌++◌, map}
use Rattle.std.specs.List.{list_any}
use Rattle.std.specs.Option.{option_map_or}
use Rattle.mpicall.specs.Word.{or_else}
use Rattle.mpicall.specs.declared.call.Call.{Call}
use Rattle.mpicall.specs.declared.call.Call.TheVariants.{Irecv}
use Rattle.mpicall.specs.declared.call.Peer.TheVariants as peer
use Rattle.mpigroup.specs.Groups.{Groups}
use Rattle.callstore.specs.Envelopes.{message_of, probed_message}
use Rattle.callstore.specs.Recordings.{Lists}
use Rattle.callstore.specs.declared.envelope.Half.TheVariants.{Recv as RecvHalf}
use Rattle.callstore.specs.declared.envelope.Message.{Message}
use Rattle.pairing.specs.Met.{has_all}
use Rattle.journals.specs.Lines.{Line}
use Rattle.journals.specs.declared.field.Field.{Field}
use Rattle.journals.specs.declared.field.Field.TheVariants.{Signed, Any}
use Rattle.closing.specs.Entries.{Run, is_window, lines_at, ranks_of}
use Rattle.closing.specs.Entry.{Choice}
use Rattle.closing.specs.Moved.{moved_at}
use Rattle.closing.specs.Numbers.{groups_of}
use Rattle.closing.specs.Recording.{calls_of, list_of, recording_of}
use Rattle.closing.specs.Sinks.{sink_in}
use Rattle.closing.specs.Steps.{Written}
use Rattle.judging.specs.declared.under_way.MovedReceive.{MovedReceive}

-- ---- Moved receives ----

-- a source or a tag is this one, or a wildcard
abbrev pub may_be : Field → ℕ → Bool
may_be Any number = true
may_be (Signed (pos other)) number = other == number
may_be field number = false

abbrev pub may_take : MovedReceive → Message → Bool
may_take it m = it.comm == m.comm && (may_be it.source m.peer && may_be it.tag m.tag)

-- the moved receive whose start a record is: a start that meets nobody stands for it
abbrev pub moved_of : List Line → ℕ → Call → Option MovedReceive
moved_of lines number (Irecv req comm peer.Null tag) =
    option_map (λ one. record { comm = comm; source = one.0; tag = one.1 }) (moved_at lines number)
moved_of lines number call = None

-- one of these receives may take the message
abbrev pub take : List MovedReceive → Option Message → Bool
take moved m = option_map_or (λ one. list_any (λ it. may_take it one) moved) m false

-- the call receives such a message, or probes for one
abbrev pub takes_moved : List MovedReceive → Call → Bool
takes_moved moved call = take moved (message_of RecvHalf call) || take moved (probed_message call)

-- ---- Entries ----

-- the record is that of a receive of which it isn't known what it took; or its call lacks one that it meets, or takes
-- what one of these receives may take
abbrev pub is_under_way : Groups → Lists → Rank → Place → List MovedReceive → Written → Bool
is_under_way groups recording rank place moved it =
    is_some (sink_in it.starts) || (not (has_all groups recording rank place) || takes_moved moved it.call)

-- the line of the first such of a rank, of the records from a place on, where these receives before them are moved
abbrev pub first_from : Groups → Lists → Rank → List Line → Place → List MovedReceive → List Written → Option ℕ
first_from groups recording rank lines place moved [] = None
first_from groups recording rank lines place moved (it ∷ records) =
    if is_under_way groups recording rank place moved it then Some it.line
    else first_from groups recording rank lines (suc place) (moved ++ option_to_list (moved_of lines it.line it.call)) records

abbrev pub first_at : Run → Choice → Rank → Option ℕ
first_at run choice rank =
    first_from (groups_of run) (map calls_of (recording_of run choice).lists) rank (lines_at run rank) 0 [] (list_of run choice rank).records

-- an entry, by its rank and the number of its line in the journal
pub record EntryAt : Type 0 where
  pub rank : Rank
  pub line : ℕ

-- that of the lowest of some ranks that has one
abbrev pub first_of : (Rank → Option ℕ) → List Rank → Option EntryAt
first_of first [] = None
first_of first (rank ∷ ranks) =
    or_else (option_map (λ line. record { rank = rank; line = line }) (first rank)) (first_of first ranks)

-- the entry at which the cut of a run isn't clean, where the journals of all ranks are cut
abbrev pub unclean_at : Run → Choice → Option EntryAt
unclean_at run choice = if is_window run then first_of (first_at run choice) (ranks_of run) else None
