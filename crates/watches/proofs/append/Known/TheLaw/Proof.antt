-- A `&` to what is known of a list holds it, and it can be had twice. Assumes `Logic`.
use base.Logic.{snd∗}
use base.Before.{before}
use types.Logic.{sem}
use denote.Builtin.{unit}
use denote.Param.Shared.{copy_shared}
use denote.Struct.Laws.{field_copy}
use denote.Struct.Lending.{of_Lends}
use Rattle.core.specs.contracts.marker.PhantomData as marker
use Rattle.watches.proofs.TokenValues.{lends_twice}
use Rattle.watches.specs.inner.Tokens.{begins_so}
use Rattle.watches.specs.contracts.append.Known as C
use Rattle.watches.proofs.TokenSteps.{known_twice}
use Rattle.watches.proofs.append.Known.TheLaw.Statement.{statement}

pub shares : statement
shares =
    of_Lends C.struct (C.the_codes (marker.the_row unit).coded) C.the_heap C.the_lent
    (λ d p. record { contraction = λ M 𝓤 𝓛 κ. known_twice 𝓛 d.name d.list; mono = λ M 𝓤 𝓛 κ' κ. snd∗ 𝓤 (sem 𝓛 (before κ' κ)) (sem 𝓛 (begins_so d.name d.list)) })
    (copy_shared (marker.the_field unit) (field_copy (marker.the_type unit) tt), tt)
    (λ M 𝓤 𝓛 d p. lends_twice 𝓛 (begins_so d.name d.list) (known_twice 𝓛 d.name d.list) (C.the_row).lives)
