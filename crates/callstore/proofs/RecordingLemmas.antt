-- The calls of a rank in a recording that a call was added to.
use Rattle.std.proofs.Common.{◌≡◌, ◌≢◌, ℕ, ◌<◌, [], ◌∷◌, ◌++◌, length, sym, ◌∙◌, get_or-set_same, get_or-set_other}
use Rattle.std.proofs.lemmas.Option.{unwrap_or-slice_get}
use Rattle.mpicall.specs.declared.call.Call.{Call}
use Rattle.callstore.specs.Recordings.{Lists, calls_of, appended}

-- the calls of a rank once a call is appended
pub calls_of-appended : (recording : Lists) (rank : ℕ) (call : Call) → rank < length recording → calls_of (appended recording rank call) rank ≡ calls_of recording rank ++ call ∷ []
calls_of-appended recording rank call is_rank =
    unwrap_or-slice_get (appended recording rank call) rank [] ∙ get_or-set_same recording rank (calls_of recording rank ++ call ∷ []) [] is_rank

pub calls_of-appended_other : (recording : Lists) (rank other : ℕ) (call : Call) → other ≢ rank → calls_of (appended recording rank call) other ≡ calls_of recording other
calls_of-appended_other recording rank other call differs =
    unwrap_or-slice_get (appended recording rank call) other []
    ∙ get_or-set_other recording rank other (calls_of recording rank ++ call ∷ []) [] differs
    ∙ sym (unwrap_or-slice_get recording other [])
