-- A `&` to a pen holds a share of what it says of the list. Assumes `Logic`.
use denote.Builtin.{unit}
use denote.Param.Shared.{copy_shared}
use denote.SharingLaws.{one_shr_laws}
use denote.Struct.Laws.{field_copy}
use denote.Struct.Lending.{of_Lends}
use Rattle.core.specs.contracts.marker.PhantomData as marker
use Rattle.watches.specs.inner.Tokens.{is_all}
use Rattle.watches.specs.contracts.append.Pen as C
use Rattle.watches.proofs.TokenSteps.{pen_lends}
use Rattle.watches.proofs.append.Pen.TheLaw.Statement.{statement}

pub shares : statement
shares =
    of_Lends C.struct (C.the_codes (marker.the_row unit).coded) C.the_heap C.the_lent
    (λ d p. one_shr_laws (is_all d.name d.list))
    (copy_shared (marker.the_field unit) (field_copy (marker.the_type unit) tt), tt)
    (λ M 𝓤 𝓛 d p. pen_lends 𝓛 d.name d.list (C.the_row).lives)
