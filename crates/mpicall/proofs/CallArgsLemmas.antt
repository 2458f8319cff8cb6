-- The call of a name and of what follows it has that name and these arguments.
use Rattle.std.proofs.Common.{◌≡◌, ℕ, ℤ, true, List, [], length, sym, ap, ◌∙◌, refl, Option, Some, None}
use Rattle.mpicall.specs.CallArgs.{args_in_line, call_by}
use Rattle.mpicall.specs.inner.CallArgs.{layout_by, has_args, call_from, call_without_option}
use Rattle.mpicall.specs.Limits.{names_enough}
use Rattle.mpicall.specs.Line.{Fixed, shape_by, shape_of}
use Rattle.mpicall.specs.inner.Line.{args_forms}
use Rattle.mpicall.specs.Parsing.{take_arguments}
use Rattle.mpicall.specs.inner.Parsing.{all_taken}
use Rattle.mpicall.specs.Spelling.{arguments_of, word_of_call}
use Rattle.mpicall.specs.Word.{layout_of}
use Rattle.mpicall.specs.declared.call.Call.{Call}
use Rattle.mpicall.specs.declared.call.Call.TheVariants.{Recv}
use Rattle.mpicall.specs.declared.call.Peer.{Peer}
use Rattle.mpicall.specs.declared.call.Peer.TheVariants.{Null}
use Rattle.mpicall.specs.declared.call_args.CallArgs.{CallArgs}
use Rattle.mpicall.specs.declared.call_args.CallArgs.TheVariants.{Nothing, Message, Exchange, Copy, Split}
use Rattle.mpicall.specs.declared.word.Layout.{Layout}
use Rattle.mpicall.specs.declared.word.Layout.TheVariants as layout
use Rattle.mpicall.specs.declared.word.Name.{Name}
use Rattle.mpicall.specs.declared.word.Name.TheVariants as name
use Rattle.mpicall.specs.declared.word.Word.TheVariants.{Named}

-- the layout of each name, without the texts of the table
plain : Name → Layout
plain name.Waitall = layout.Requests
plain name.Wait = layout.Request
plain name.Waitany = layout.Chosen
plain name.Sendrecv = layout.Exchange
plain name.Dup = layout.Copy
plain name.Split = layout.Split
plain name.Finalize = layout.Nothing
plain name.Probe = layout.Message
plain name.Open = layout.Nothing

plain_is : (n : Name) → layout_of n ≡ plain n
unfolding plain
plain_is name.Waitall = refl
plain_is name.Wait = refl
plain_is name.Waitany = refl
plain_is name.Sendrecv = refl
plain_is name.Dup = refl
plain_is name.Split = refl
plain_is name.Finalize = refl
plain_is name.Probe = refl
plain_is name.Open = refl

-- a name and what follows it, by their layout
record OfEach (P : Name → CallArgs → Type 0) : Type 0 where
  finalize : P name.Finalize Nothing
  open_list : P name.Open Nothing
  probe : (comm : ℕ) (source : Peer) (tag : ℕ) → P name.Probe (Message comm source tag)
  sendrecv : (comm : ℕ) (dest : Peer) (send_tag : ℕ) (source : Peer) (recv_tag : ℕ) (bytes : Option ℕ) → P name.Sendrecv (Exchange comm dest send_tag source recv_tag bytes)
  dup : (comm new : ℕ) → P name.Dup (Copy comm new)
  split : (comm : ℕ) (colour : Option ℕ) (key : ℤ) (new : Option ℕ) → P name.Split (Split comm colour key new)

of_plain : (P : Name → CallArgs → Type 0) → OfEach P → (it : CallArgs) (n : Name) → layout_by it ≡ plain n → P n it
unfolding plain
of_plain P each Nothing name.Finalize e = each.finalize
of_plain P each Nothing name.Open e = each.open_list
of_plain P each (Message comm source tag) name.Probe e = each.probe comm source tag
of_plain P each (Exchange comm dest send_tag source recv_tag bytes) name.Sendrecv e = each.sendrecv comm dest send_tag source recv_tag bytes
of_plain P each (Copy comm new) name.Dup e = each.dup comm new
of_plain P each (Split comm colour key new) name.Split e = each.split comm colour key new
of_plain P each _ _ e = cc

of_layout : (P : Name → CallArgs → Type 0) → OfEach P → (n : Name) (it : CallArgs) → layout_by it ≡ layout_of n → P n it
of_layout P each n it e = of_plain P each it n (e ∙ plain_is n)

-- the layout of a name and of what follows it are one
abbrev Back : Name → CallArgs → Type 0
Back n it = (arguments_of (call_from n it) ≡ args_in_line it) × (word_of_call (call_from n it) ≡ Named n) × (names_enough (call_from n it) ≡ true)

back_of_each : OfEach Back
back_of_each = record {
  finalize = (refl, refl, refl);
  open_list = (refl, refl, refl);
  probe = λ comm source tag. (refl, refl, refl);
  sendrecv = λ comm dest send_tag source recv_tag bytes. (refl, refl, refl);
  dup = λ comm new. (refl, refl, refl);
  split = λ comm colour key new. (refl, refl, refl);
}

pub args_read : (n : Name) (found : Layout) (fields : List (List ℕ)) (it : CallArgs) (call : Call) → found ≡ layout_of n → call ≡ call_from n it → (take_arguments (args_forms found (length fields)) fields ≡ Some (args_in_line it, [])) × (layout_by it ≡ found) → (all_taken (take_arguments (args_forms (layout_of n) (length fields)) fields) ≡ Some (arguments_of call)) × (word_of_call call ≡ Named n) × (names_enough call ≡ true)
args_read n found fields it call is made taken =
    let back = of_layout Back back_of_each n it (taken.1 ∙ is) in
    rw made (ap (λ l. all_taken (take_arguments (args_forms l (length fields)) fields)) (sym is) ∙ ap all_taken taken.0 ∙ ap Some (sym back.0), back.1, back.2)

-- a name that is no wait's has fields of fixed forms
pub args_else : (n : Name) → (n ≡ name.Waitall → ⊥) → (n ≡ name.Wait → ⊥) → (n ≡ name.Waitany → ⊥) → has_args (layout_of n) ≡ true
args_else name.Waitall all one any = absurd (all refl)
args_else name.Wait all one any = absurd (one refl)
args_else name.Waitany all one any = absurd (any refl)
args_else _ all one any = refl

args_shape : (l : Layout) (count : ℕ) → has_args l ≡ true → shape_by l count ≡ Fixed (args_forms l count)
args_shape layout.Request count e = cc
args_shape layout.Requests count e = cc
args_shape layout.Chosen count e = cc
args_shape _ count e = refl

pub name_shape : (n : Name) (count : ℕ) → has_args (layout_of n) ≡ true → shape_of (Named n) count ≡ Fixed (args_forms (layout_of n) count)
name_shape n count e = args_shape (layout_of n) count e

-- `call_by` and what it was before it answered an option are one: a name and what goes with it have the same call,
pub call_by_is_one : (n : Name) (it : CallArgs) → layout_by it ≡ layout_of n → call_by n it ≡ Some (call_without_option n it)
call_by_is_one n it e =
    of_layout (λ n it. call_by n it ≡ Some (call_without_option n it))
    (record {
      finalize = refl;
      open_list = refl;
      probe = λ comm source tag. refl;
      sendrecv = λ comm dest send_tag source recv_tag bytes. refl;
      dup = λ comm new. refl;
      split = λ comm colour key new. refl;
    })
    n it e

-- of a name and what doesn't go with it there is none, where there was a receive from nobody,
pub call_by_is_none : (n : Name) (it : CallArgs) → (layout_by it ≡ layout_of n → ⊥) → (call_by n it ≡ None) × (call_without_option n it ≡ Recv 0 Null 0)
call_by_is_none name.Sendrecv (Exchange comm dest send_tag source recv_tag bytes) other = absurd (other refl)
call_by_is_none name.Dup (Copy comm new) other = absurd (other refl)
call_by_is_none name.Split (Split comm colour key new) other = absurd (other refl)
call_by_is_none name.Probe (Message comm source tag) other = absurd (other refl)
call_by_is_none name.Finalize Nothing other = absurd (other refl)
call_by_is_none name.Open Nothing other = absurd (other refl)
call_by_is_none _ _ other = (refl, refl)

-- and what code answers is what it was
pub call_from_is_one : (n : Name) (it : CallArgs) → call_from n it ≡ call_without_option n it
call_from_is_one name.Sendrecv (Exchange comm dest send_tag source recv_tag bytes) = refl
call_from_is_one name.Dup (Copy comm new) = refl
call_from_is_one name.Split (Split comm colour key new) = refl
call_from_is_one name.Probe (Message comm source tag) = refl
call_from_is_one name.Finalize Nothing = refl
call_from_is_one name.Open Nothing = refl
call_from_is_one _ _ = refl
