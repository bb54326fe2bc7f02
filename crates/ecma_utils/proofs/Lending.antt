-- A node that is lent as the one or the other.
use Rattle.std.proofs.Common.{[], ◌∷◌, refl}
use Rattle.std.proofs.result.Result.TheLaws.{the_row_laws as result_laws}
use Rattle.std.specs.Prelude.{Result}
use Rattle.std.specs.contracts.result.Result as result
use seplogic.Ra.Ura.{Ura}
use lib.Dec.{T}
use mir.Syntax.{named}
use mir.Val.{Val, has_ty, WT}
use base.Fml.{Lft}
use types.Logic.{Logic}
use denote.Laws.{Is}
use denote.Param.{layout}
use denote.Param.Laws.{Laws, of_field, row_shared}
use denote.Param.Shared.{mut_ref_shared}
use denote.RattleType.{RattleType}
use denote.Ref.{MutBor, MutRef, NamedLft}
use denote.Struct.Field.{mut_ref_field}
use denote.Struct.Laws.{mut_ref_laws}
use Rattle.ecma_tree.proofs.node.Node.TheLaws.{the_row_laws}
use Rattle.ecma_tree.specs.contracts.node.Node.{the_row}
use Rattle.ecma_tree.specs.declared.node.Node.{Node}

-- the type of what is lent, and of what holds it
abbrev pub Lent : Lft → RattleType
Lent κ = MutRef (named 0) κ the_row

abbrev pub Either : Lft → RattleType
Either κ = result.the_row (Lent κ) (Lent κ)

lent_laws : (κ : Lft) → Laws (Lent κ)
lent_laws κ =
    let at : NamedLft = record { mir = named 0; lft = κ } in
    of_field (mut_ref_field at the_row tt) (mut_ref_laws at the_row tt) refl (mut_ref_shared at the_row tt (row_shared the_row the_row_laws))

-- the machine value of what holds it is of its type
pub either_typed : {M : Type 1} {𝓤 : Ura M} (𝓛 : Logic 𝓤) (κ : Lft) (r : Result (MutBor Node) (MutBor Node)) (v : Val)
    → Is (Either κ) r (v ∷ []) → T (has_ty (layout (Either κ)) v) × WT v
either_typed 𝓛 κ r v is = (((result_laws (Lent κ) (Lent κ) (lent_laws κ) (lent_laws κ)).lawful 𝓛).typed r (v ∷ []) is).0
