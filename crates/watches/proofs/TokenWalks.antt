-- The names that the walks of the tokens cite, passed on.
pub use Rattle.std.proofs.Common.{◌≡◌, ℕ, List, [], ◌∷◌, ◌++◌, refl}
pub use mathlib.Core.List.{IsPrefix}
pub use mir.Syntax.{named}
pub use mir.Val.{Val, vunit, vptr}
pub use base.Logic.{SProp, emp, via}
pub use base.Fraction.{full_share}
pub use base.Fml.{Share, Fml, ftrue, fsep, flft, fhide, fbor, fshr_bor}
pub use base.Growing.{Least}
pub use types.Logic.{sem}
pub use types.Kit.{‵, raw, ◌⊛◌, some, given, later, ◌$◌, ◌∵◌, !, qed, by, move, keep, drop, split, fsplit, fsplit3, fjoin, fjoin3, pick, learn, use0, use1, use2, await, rewrite, feq_i}
pub use types.Run.{of_opd, unit_lit, no_more, and_then, returns, enter}
pub use types.ByLocal.{alloc_all, pass_all, free_all, look_at, get, sets}
pub use types.Part.{agg}
pub use types.Owned.{basic}
pub use types.Tokens.{shr_bor-open, obor_close}
pub use types.Growing.{latest_new, latest_grows, latest_shows, latest_bounds, at_least_join}
pub use contract.Monad.{fact_i}
pub use contract.Running.{tables}
pub use denote.Exit.{yes}
pub use denote.RattleType.{RattleType, owns}
pub use denote.Signature.{types_at, plain}
pub use denote.Builtin.{RefOf, unit}
pub use denote.Ref.{mut_vals, mut_Tells, shr_vals, shr_Tells}
pub use denote.Memory.{hidden_shr}
pub use denote.Opens.{unhide}
pub use denote.Steps.{nothing, opens, closes}
pub use denote.Struct.Lending.{lent_out}
pub use denote.Triple.Walked.{Stays, stay_dropped, stay_ref, walk_of, Goes-dropped, Goes-ref}
pub use Rattle.atomic_table.proofs.Walks.{proved}
pub use Rattle.watches.proofs.TokenValues.{token, Token, token_made, ends}
pub use Rattle.watches.specs.declared.stands.Stands.{Stands}
pub use Rattle.watches.specs.inner.Tokens.{lists, is_all, begins_so}
