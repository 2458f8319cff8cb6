-- The codes and the words under which the program reports faults of calls.
use Rattle.std.specs.Prelude.{ℕ, List, codes}
use Rattle.pairing.specs.declared.fault.CallFault.{CallFault}
use Rattle.pairing.specs.declared.fault.CallFault.TheVariants.{CallAfterFinalize, TooManyCalls, UnknownCommunicator, CommunicatorNotHeld, PeerOutOfGroup, RequestInUse, RequestRepeated, RequestNotActive, WrongNewCommunicator}

abbrev pub code_of_call : CallFault → List ℕ
code_of_call CallAfterFinalize = codes "C9"
code_of_call TooManyCalls = codes "C8"
code_of_call UnknownCommunicator = codes "C1"
code_of_call CommunicatorNotHeld = codes "C2"
code_of_call PeerOutOfGroup = codes "C3"
code_of_call RequestInUse = codes "C4"
code_of_call RequestRepeated = codes "C6"
code_of_call RequestNotActive = codes "C5"
code_of_call WrongNewCommunicator = codes "C7"

abbrev pub words_of_call : CallFault → List ℕ
words_of_call CallAfterFinalize = codes "call after finalize"
words_of_call TooManyCalls = codes "too many calls"
words_of_call UnknownCommunicator = codes "unknown communicator"
words_of_call CommunicatorNotHeld = codes "communicator not held"
words_of_call PeerOutOfGroup = codes "peer or root out of group"
words_of_call RequestInUse = codes "request in use"
words_of_call RequestRepeated = codes "request repeated"
words_of_call RequestNotActive = codes "request not active"
words_of_call WrongNewCommunicator = codes "wrong new communicator"
