-- The fields of a wait for any or some are those of its line.
use Rattle.std.proofs.Common.{length, subst}
use Rattle.journals.specs.declared.word.CallWord.{CallWord}
use Rattle.closing.specs.Called.{naturals_in}
use Rattle.closing.specs.Fit.{AreNumbers}
use Rattle.closing.proofs.CalledLemmas.{cancel_requests, free_requests, message_requests}
use Rattle.closing.proofs.called.read_call.Goals as goal

pub returns-in-Waitany-clause-requests : goal.returns-in-Waitany-clause-requests
returns-in-Waitany-clause-requests c = λ are.
    subst (λ (word : CallWord). AreNumbers word (length (naturals_in c.args.fields.now)) (length c.args.fields.now)) c.in-Waitany.is are

pub returns-in-Waitsome-clause-requests : goal.returns-in-Waitsome-clause-requests
returns-in-Waitsome-clause-requests c = λ are.
    subst (λ (word : CallWord). AreNumbers word (length (naturals_in c.args.fields.now)) (length c.args.fields.now)) c.in-Waitsome.is are

pub returns-in-Cancel-clause-requests : goal.returns-in-Cancel-clause-requests
returns-in-Cancel-clause-requests c = λ are. cancel_requests c.args.fields.now c.cancels.result c.cancels.ensures

pub returns-in-RequestFree-clause-requests : goal.returns-in-RequestFree-clause-requests
returns-in-RequestFree-clause-requests c = λ are. free_requests c.args.fields.now c.frees_request.result c.frees_request.ensures

pub returns-in_default-clause-requests : goal.returns-in_default-clause-requests
returns-in_default-clause-requests c = λ are. message_requests c.args.word c.args.fields.now c.meets.result c.meets.ensures
