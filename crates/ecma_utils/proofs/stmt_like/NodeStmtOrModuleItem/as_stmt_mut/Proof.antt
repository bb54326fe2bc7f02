-- A node hands itself on to `lent_item`, whose result is lent under the node's own name.
use Rattle.std.proofs.Common.{[], ◌∷◌, ◌≡◌, refl, sym}
use Rattle.std.proofs.raw_atomic.Walks.{proved}
use Rattle.std.specs.Prelude.{Result}
use base.Fml.{ftrue, flft, GName}
use base.Logic.{id⊢}
use contract.Monad.{fact}
use contract.Running.{tables}
use mir.Syntax.{named}
use types.Kit.{‵, raw, ◌⊛◌, some, later, ◌$◌, ◌∵◌, !, qed, done, move, drop, use0, use1, split, join, fjoin, suffices, frame, pick, await, rewrite}
use types.Run.{enter, addr, stop, returns, no_more, and_then}
use types.ByLocal.{alloc_all, pass_all, free_all, look_at, get, through, sets, lands_as}
use borrow.Follows.Kept.{follows_itself}
use denote.Exit.{no}
use denote.Follow.{follows}
use denote.Laws.{Is, shows}
use denote.Ref.{MutBor, mut_vals, mut_Tells}
use denote.Signature.{plain, mut_ref_to}
use denote.Steps.{nothing, heard, peeks}
use denote.Triple.Call.{calls_at}
use denote.Triple.Clauses.{lasts}
use denote.Triple.Spec.{triple_of}
use denote.Triple.Table.{framed}
use denote.Triple.Walked.{Stays, stay_dropped, Goes-spent_ref, ends_at, says, walk_of}
use Rattle.ecma_utils.specs.Lending.{lent_name}
use Rattle.ecma_tree.specs.declared.node.Node.{Node}
use Rattle.ecma_tree.specs.contracts.node.Node.{the_row}
use Rattle.ecma_utils.specs.contracts.stmt_like.NodeStmtOrModuleItem.as_stmt_mut as f
use Rattle.ecma_utils.specs.contracts.stmt_like.lent_item as g
use Rattle.ecma_utils.proofs.stmt_like.lent_item.Met.{met}
use Rattle.ecma_utils.proofs.Lending.{Either, either_typed}
use Rattle.ecma_utils.proofs.stmt_like.NodeStmtOrModuleItem.as_stmt_mut.Statement.{statement}
use Rattle.ecma_utils.proofs.stmt_like.NodeStmtOrModuleItem.as_stmt_mut.Code as code

abbrev stayed : Stays f.ended.signature.params f.ended.kept
stayed = (stay_dropped (mut_ref_to (0 ∷ []) tt (plain (λ _. the_row))) no, tt)

pub as_stmt_mut_spec : {M : Type 1} → statement M
as_stmt_mut_spec 𝓤 𝓛 𝓜 𝓡 wired =
    let c = f.clauses 𝓛 𝓜.mem 𝓡.returns in let W = walk_of 𝓛 f.ended stayed c in
    proved 𝓛 f.ended stayed c 𝓜 𝓡 (Goes-spent_ref 𝓛 1 (0 ∷ []) tt (plain (λ _. the_row)), tt)
    f.Key.name code.function (code.unfolded 𝓤 𝓛.H 𝓜 𝓡 wired)
    (λ κs. (mut_vals, tt)) (λ κs. (mut_Tells (named 0) κs.0 the_row, tt)) (λ κs qs bounds a _ are.
    let κ = κs.0 in let q = qs.0 in let r = a.0 in let vs = mut_vals r in
    let y : W.Ghost = ((κs, qs, bounds, a, (vs, tt)), tt) in
    let G = triple_of 𝓛 g.signature (g.spec 𝓛 𝓜.mem 𝓡.returns) in
    let z : G.Ghost = ((κs, qs, bounds, a, (vs, tt)), tt) in
    qed 𝓛 (raw (G.pre z) ∷ []) ∵ enter ! _ _ _ _ _ $
    alloc_all ! (λ l. pass_all ! refl ((tt, tt), tt) $
    sets ! (addr ! (through ! refl (stop !))) refl (tt, tt) $
    calls_at ! (framed 𝓤 𝓛.H 𝓜 (tables 𝓤 𝓛.H 𝓜 𝓡 𝓡.env)) G (met 𝓤 𝓛 𝓜 𝓡 (code.calls-ecma_utils::stmt_like::lent_item 𝓡.env wired)) z
    (and_then ! (get ! refl) (no_more !)) (λ v.
    use1 𝓛 (later (some (λ (s : Result (MutBor Node) (MutBor Node)). ((‵ (flft κ q) ⊛ ‵ ftrue) ⊛ ‵ ((Either κ).own_val s (v ∷ []))) ⊛
    some (λ (ws : Unit {0} × Unit {0}). ‵ (lasts g.ended κs a ws) ⊛ raw (fact 𝓤 (lent_name s ≡ r.ghost_name)) ⊛ raw (fact 𝓤 _))))) (id⊢ 𝓤 _) $
    await ! tt $ pick ! (λ s. split ! $ split ! $ move ! (1 ∷ []) $ peeks ! (Either κ) (Is (Either κ)) (shows 𝓛 (Either κ)) s (v ∷ []) (λ is.
    lands_as ! refl refl (either_typed 𝓛 κ s v is) $
    move ! (2 ∷ []) $ pick ! (λ ws. split ! $ drop ! $ split ! $ heard ! _ (λ same. heard ! _ (λ value.
    -- [the result; the token]
    returns ! (look_at ! 0 refl) $ free_all ! refl $
    suffices ! _ (ends_at 𝓛 f.ended stayed c y v s (tt, tt) (tt, tt)) $
    use0 𝓛 (‵ (follows the_row the_row r.ghost_name r.ghost_name (λ w. w))) (follows_itself 𝓛 the_row r.ghost_name) $
    rewrite ! 0 (λ (n : GName). ‵ (follows the_row the_row r.ghost_name n (λ w. w))) (sym same) refl $
    move ! (1 ∷ 2 ∷ 0 ∷ []) $ nothing ! $ nothing ! $ fjoin ! $ join ! $ move ! (1 ∷ 0 ∷ []) $ join ! $ frame ! $ says ! value $ done !))))))))
