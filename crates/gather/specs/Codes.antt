-- The codes and the words under which the program reports faults of ranks.
use Rattle.std.specs.Prelude.{ℕ, List, ◌++◌, codes}
use Rattle.std.specs.Fmt.{decimal}
use Rattle.mpicall.specs.Codes.{code_of_source, words_of_source}
use Rattle.pairing.specs.Codes.{code_of_call, words_of_call}
use Rattle.gather.specs.declared.fault.RankFault.{RankFault}
use Rattle.gather.specs.declared.fault.RankFault.TheVariants.{OfCall, OfSource}
use Rattle.gather.specs.declared.fault.Refusal.{Refusal}

abbrev pub code_of_rank : RankFault → List ℕ
code_of_rank (OfCall fault) = code_of_call fault
code_of_rank (OfSource fault) = code_of_source fault

abbrev pub words_of_rank : RankFault → List ℕ
words_of_rank (OfCall fault) = words_of_call fault
words_of_rank (OfSource fault) = words_of_source fault

-- the place of a rank's fault, its code and its words
abbrev pub text_of_refusal : Refusal → List ℕ
text_of_refusal refusal =
    codes "rank " ++ decimal refusal.rank ++ codes " call " ++ decimal refusal.call ++ codes " " ++ code_of_rank refusal.fault ++ codes " " ++ words_of_rank refusal.fault
