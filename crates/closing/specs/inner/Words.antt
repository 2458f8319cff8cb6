-- What call lines say, as the code asks for it: by some words at a time.
use Rattle.std.specs.Prelude.{Bool, true, false, List}
use Rattle.journals.specs.declared.field.Field.{Field}
use Rattle.journals.specs.declared.word.CallWord.{CallWord}
use Rattle.journals.specs.declared.word.CallWord.TheVariants as call
use Rattle.closing.specs.Called.{Called, Collects, StartsCollective, Duplicates, StartsDuplicate, Splits, Makes, MakesOfGroup, Nothing, called}

-- a collective; of another call nothing
abbrev pub by_collective : CallWord → List Field → Called
by_collective call.Barrier fields = called call.Barrier fields
by_collective call.Bcast fields = called call.Bcast fields
by_collective call.Gather fields = called call.Gather fields
by_collective call.Scatter fields = called call.Scatter fields
by_collective call.Reduce fields = called call.Reduce fields
by_collective call.Allgather fields = called call.Allgather fields
by_collective call.Alltoall fields = called call.Alltoall fields
by_collective call.Allreduce fields = called call.Allreduce fields
by_collective call.Scan fields = called call.Scan fields
by_collective call.Exscan fields = called call.Exscan fields
by_collective call.Ibarrier fields = called call.Ibarrier fields
by_collective call.Ibcast fields = called call.Ibcast fields
by_collective call.Igather fields = called call.Igather fields
by_collective call.Iscatter fields = called call.Iscatter fields
by_collective call.Ireduce fields = called call.Ireduce fields
by_collective call.Iallgather fields = called call.Iallgather fields
by_collective call.Ialltoall fields = called call.Ialltoall fields
by_collective call.Iallreduce fields = called call.Iallreduce fields
by_collective call.Iscan fields = called call.Iscan fields
by_collective call.Iexscan fields = called call.Iexscan fields
by_collective word fields = Nothing

-- one that makes or frees communicators, or a collective
abbrev pub by_comm : CallWord → List Field → Called
by_comm call.CommDup fields = called call.CommDup fields
by_comm call.CommIdup fields = called call.CommIdup fields
by_comm call.CommSplit fields = called call.CommSplit fields
by_comm call.CommMake fields = called call.CommMake fields
by_comm call.CommCreateGroup fields = called call.CommCreateGroup fields
by_comm call.CommFree fields = called call.CommFree fields
by_comm word fields = by_collective word fields

-- one that sends, receives or probes, or one of the others
abbrev pub by_message : CallWord → List Field → Called
by_message call.Send fields = called call.Send fields
by_message call.Rsend fields = called call.Rsend fields
by_message call.Ssend fields = called call.Ssend fields
by_message call.Bsend fields = called call.Bsend fields
by_message call.Isend fields = called call.Isend fields
by_message call.Irsend fields = called call.Irsend fields
by_message call.Issend fields = called call.Issend fields
by_message call.Ibsend fields = called call.Ibsend fields
by_message call.Recv fields = called call.Recv fields
by_message call.Irecv fields = called call.Irecv fields
by_message call.Sendrecv fields = called call.Sendrecv fields
by_message call.Isendrecv fields = called call.Isendrecv fields
by_message call.Probe fields = called call.Probe fields
by_message call.Iprobe fields = called call.Iprobe fields
by_message call.Mprobe fields = called call.Mprobe fields
by_message call.Improbe fields = called call.Improbe fields
by_message call.Mrecv fields = called call.Mrecv fields
by_message call.Imrecv fields = called call.Imrecv fields
by_message word fields = by_comm word fields

-- such a call neither counts among those on a communicator nor makes one
abbrev pub is_plain : CallWord → Bool
is_plain call.Send = true
is_plain call.Ssend = true
is_plain call.Bsend = true
is_plain call.Rsend = true
is_plain call.Isend = true
is_plain call.Issend = true
is_plain call.Ibsend = true
is_plain call.Irsend = true
is_plain call.Recv = true
is_plain call.Irecv = true
is_plain call.Sendrecv = true
is_plain call.Isendrecv = true
is_plain call.Probe = true
is_plain call.Iprobe = true
is_plain call.Mprobe = true
is_plain call.Improbe = true
is_plain call.Wait = true
is_plain call.Test = true
is_plain call.Waitany = true
is_plain call.Waitsome = true
is_plain _ = false

-- such a call names nothing
abbrev pub is_bare : CallWord → Bool
is_bare call.Init = true
is_bare call.Finalize = true
is_bare call.Abort = true
is_bare call.Exit = true
is_bare call.Full = true
is_bare call.Stopped = true
is_bare call.Cut = true
is_bare _ = false

-- it counts among those on a communicator, or makes one of a group
abbrev pub counts : Called → Bool
counts (Collects collective comm root) = true
counts (StartsCollective request collective comm root) = true
counts (Duplicates comm) = true
counts (StartsDuplicate request comm) = true
counts (Splits comm colour key) = true
counts (Makes comm) = true
counts (MakesOfGroup group) = true
counts _ = false
