use Rattle.watches.proofs.PassedLemmas.{passed_states_stay_passed}
use Rattle.watches.proofs.stands.passed_states_stay_passed.Goals as goal

pub returns : goal.returns
returns c = passed_states_stay_passed
