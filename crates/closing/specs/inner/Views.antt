-- What values of the code are in the definitions.
use Rattle.std.specs.Prelude.{◌||◌, Option, Some, if◌then◌else◌}
use Rattle.closing.specs.Called.{Called, Sent, Awaited, naturals_in}
use Rattle.closing.specs.Called as say
use Rattle.journals.specs.Known.{is_any}
use Rattle.closing.specs.Reported.{Message, with_wildcards}
use Rattle.closing.specs.declared.called.Called.{Called as CalledCode}
use Rattle.closing.specs.declared.called.Called.TheVariants as code
use Rattle.closing.specs.declared.called.Sent.{Sent as SentCode}
use Rattle.closing.specs.declared.called.Awaited.{Awaited as AwaitedCode}
use Rattle.closing.specs.declared.message.Message.{Message as MessageCode}

abbrev pub sent_view : SentCode → Sent
sent_view it = record { comm = it.comm; dest = it.dest; tag = it.tag; bytes = it.bytes }

abbrev pub awaited_view : AwaitedCode → Awaited
awaited_view it = record { comm = it.comm; source = it.source; tag = it.tag }

abbrev pub message_view : MessageCode → Message
message_view it = record { source = it.source; tag = it.tag }

abbrev pub called_view : CalledCode → Called
called_view (code.Sends mode it) = say.Sends mode (sent_view it)
called_view (code.StartsSend request mode it) = say.StartsSend request mode (sent_view it)
called_view (code.Receives it) = say.Receives (awaited_view it)
called_view (code.StartsReceive request it) = say.StartsReceive request (awaited_view it)
called_view (code.Exchanges it other) = say.Exchanges (sent_view it) (awaited_view other)
called_view (code.StartsExchange request received it other) = say.StartsExchange request received (sent_view it) (awaited_view other)
called_view (code.Probes it) = say.Probes (awaited_view it)
called_view (code.ProbesMatching message it) = say.ProbesMatching message (awaited_view it)
called_view (code.ReceivesMatched message) = say.ReceivesMatched message
called_view (code.StartsMatched request message) = say.StartsMatched request message
called_view (code.Waits fields) = say.Waits (naturals_in fields.now)
called_view (code.Tests fields) = say.Tests (naturals_in fields.now)
called_view (code.WaitsAny fields) = say.WaitsAny (naturals_in fields.now)
called_view (code.WaitsSome fields) = say.WaitsSome (naturals_in fields.now)
called_view (code.Cancels request) = say.Cancels request
called_view (code.FreesRequest request) = say.FreesRequest request
called_view (code.Collects collective comm root) = say.Collects collective comm root
called_view (code.StartsCollective request collective comm root) = say.StartsCollective request collective comm root
called_view (code.Duplicates comm) = say.Duplicates comm
called_view (code.StartsDuplicate request comm) = say.StartsDuplicate request comm
called_view (code.Splits comm colour key) = say.Splits comm colour key
called_view (code.Makes comm) = say.Makes comm
called_view (code.MakesOfGroup fields) = say.MakesOfGroup (naturals_in fields.now)
called_view (code.FreesComm comm) = say.FreesComm comm
called_view code.Nothing = say.Nothing
called_view code.Finalizes = say.Finalizes
called_view code.Exits = say.Exits
called_view code.Aborts = say.Aborts
called_view code.Fills = say.Fills
called_view code.Stops = say.Stops
called_view code.Cuts = say.Cuts

-- the message of a receive or probe that has a source
abbrev pub message_with_source : Awaited → Option Message → Option Message
message_with_source awaited reported =
    if is_any awaited.source || is_any awaited.tag then with_wildcards awaited reported
    else Some (record { source = awaited.source; tag = awaited.tag })
