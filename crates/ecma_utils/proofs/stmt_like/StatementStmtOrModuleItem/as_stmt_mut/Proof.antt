-- A statement hands its node on to `lent_as`, whose result is lent under the node's name.
use Rattle.std.proofs.Common.{true, List, [], ◌∷◌, ◌≡◌, ◌∙◌, ap, refl, sym}
use Rattle.std.proofs.raw_atomic.Walks.{proved}
use Rattle.std.specs.Prelude.{Result, Ok}
use base.Fml.{ftrue, flft, GName}
use base.Logic.{id⊢}
use contract.Monad.{fact}
use contract.Running.{tables}
use mir.Syntax.{named}
use mir.Val.{Val, vbool}
use types.Kit.{‵, raw, ◌⊛◌, some, later, ◌$◌, ◌∵◌, !, qed, done, move, drop, use1, use2, split, join, fjoin, suffices, frame, pick, await, rewrite}
use types.Run.{enter, addr, stop, returns, no_more, and_then, true_lit}
use types.ByLocal.{alloc_all, pass_all, free_all, look_at, get, through, sets, lands_as}
use denote.Builtin.{bool}
use denote.Exit.{no}
use denote.Follow.{follows}
use denote.Laws.{Is, shows}
use denote.Plain.{bool_Makes}
use denote.Ref.{MutBor, mut_vals, mut_Tells}
use denote.Signature.{plain, mut_ref_to}
use denote.Steps.{nothing, heard, peeks, owned, only}
use denote.Triple.Call.{calls_at}
use denote.Triple.Clauses.{lasts}
use denote.Triple.Spec.{triple_of}
use denote.Triple.Table.{framed}
use denote.Triple.Walked.{Stays, stay_dropped, Goes-spent_ref, ends_at, says, walk_of}
use Rattle.ecma_utils.specs.Lending.{lent_name}
use Rattle.ecma_tree.specs.declared.node.Node.{Node}
use Rattle.ecma_utils.specs.declared.stmt_like.Statement.{Statement}
use Rattle.ecma_tree.specs.contracts.node.Node.{the_row}
use Rattle.ecma_utils.specs.contracts.stmt_like.Statement as owner
use Rattle.ecma_utils.specs.contracts.stmt_like.StatementStmtOrModuleItem.as_stmt_mut as f
use Rattle.ecma_utils.specs.contracts.stmt_like.StatementStmtLike.node_mut as g
use Rattle.ecma_utils.specs.contracts.stmt_like.lent_as as h
use Rattle.ecma_utils.proofs.stmt_like.StatementStmtLike.node_mut.Met.{met as node_met}
use Rattle.ecma_utils.proofs.stmt_like.lent_as.Met.{met as lent_met}
use Rattle.ecma_utils.proofs.Lending.{Lent, Either, either_typed}
use Rattle.ecma_utils.proofs.stmt_like.StatementStmtOrModuleItem.as_stmt_mut.Statement.{statement}
use Rattle.ecma_utils.proofs.stmt_like.StatementStmtOrModuleItem.as_stmt_mut.Code as code

abbrev stayed : Stays f.ended.signature.params f.ended.kept
stayed = (stay_dropped (mut_ref_to (0 ∷ []) tt (plain (λ _. owner.the_row))) no, tt)

pub as_stmt_mut_spec : {M : Type 1} → statement M
as_stmt_mut_spec 𝓤 𝓛 𝓜 𝓡 wired =
    let c = f.clauses 𝓛 𝓜.mem 𝓡.returns in let W = walk_of 𝓛 f.ended stayed c in let fm = framed 𝓤 𝓛.H 𝓜 (tables 𝓤 𝓛.H 𝓜 𝓡 𝓡.env) in
    proved 𝓛 f.ended stayed c 𝓜 𝓡 (Goes-spent_ref 𝓛 1 (0 ∷ []) tt (plain (λ _. owner.the_row)), tt)
    f.Key.name code.function (code.unfolded 𝓤 𝓛.H 𝓜 𝓡 wired)
    (λ κs. (mut_vals, tt)) (λ κs. (mut_Tells (named 0) κs.0 owner.the_row, tt)) (λ κs qs bounds a _ are.
    let κ = κs.0 in let q = qs.0 in let r = a.0 in let vs = mut_vals r in let F : Node → Statement = λ n. record r.now { node = n } in
    let y : W.Ghost = ((κs, qs, bounds, a, (vs, tt)), tt) in
    let G = triple_of 𝓛 g.signature (g.spec 𝓛 𝓜.mem 𝓡.returns) in let H = triple_of 𝓛 h.signature (h.spec 𝓛 𝓜.mem 𝓡.returns) in
    let z : G.Ghost = ((κs, qs, bounds, a, (vs, tt)), tt) in
    qed 𝓛 (raw (G.pre z) ∷ []) ∵ enter ! _ _ _ _ _ $
    alloc_all ! (λ l. pass_all ! refl ((tt, tt), tt) $
    sets ! (addr ! (through ! refl (stop !))) refl (tt, tt) $
    calls_at ! fm G (node_met 𝓤 𝓛 𝓜 𝓡 (code.calls-ecma_utils::stmt_like::StatementStmtLike::node_mut 𝓡.env wired)) z (and_then ! (get ! refl) (no_more !)) (λ v.
    use1 𝓛 (later (some (λ (m : MutBor Node). ((‵ (flft κ q) ⊛ ‵ ftrue) ⊛ ‵ ((Lent κ).own_val m (v ∷ []))) ⊛
    some (λ (ws : Unit {0} × Unit {0}). ‵ (lasts g.ended κs a ws) ⊛ ‵ (follows owner.the_row the_row r.ghost_name m.ghost_name F) ⊛ raw (fact 𝓤 (m.now ≡ r.now.node)))))) (id⊢ 𝓤 _) $
    await ! tt $ pick ! (λ m. split ! $ split ! $ move ! (1 ∷ []) $ peeks ! (Lent κ) (Is (Lent κ)) (shows 𝓛 (Lent κ)) m (v ∷ []) (λ is.
    let told : v ∷ [] ≡ mut_vals m = mut_Tells (named 0) κ the_row m (v ∷ []) is in
    lands_as ! (ap only told) refl (tt, tt) $ rewrite ! 0 (λ (us : List Val). ‵ ((Lent κ).own_val m us)) told refl $
    move ! (2 ∷ []) $ pick ! (λ ws. split ! $ drop ! $ split ! $ move ! (1 ∷ []) $ heard ! _ (λ held.
    -- [how the statement ends; its node; the token]
    let z' : H.Ghost = ((κs, qs, tt, (true, (m, tt)), (vbool true ∷ [], (mut_vals m, tt))), tt) in
    nothing ! $ move ! (2 ∷ 0 ∷ []) $ join ! $ owned ! bool _ (bool_Makes 𝓛) true (vbool true ∷ []) refl $ join ! $
    move ! (2 ∷ 0 ∷ []) $ join ! $ nothing ! $ move ! (1 ∷ 0 ∷ []) $ use2 𝓛 (raw (H.pre z')) (id⊢ 𝓤 _) $
    calls_at ! fm H (lent_met 𝓤 𝓛 𝓜 𝓡 (code.calls-ecma_utils::stmt_like::lent_as 𝓡.env wired)) z' (and_then ! (true_lit !) (and_then ! (get ! refl) (no_more !))) (λ u.
    use1 𝓛 (later (some (λ (s : Result (MutBor Node) (MutBor Node)). ((‵ (flft κ q) ⊛ ‵ ftrue) ⊛ ‵ ((Either κ).own_val s (u ∷ []))) ⊛
    some (λ (ws : Unit {0} × (Unit {0} × Unit {0})). ‵ (lasts h.ended κs (true, (m, tt)) ws) ⊛ raw (fact 𝓤 (lent_name s ≡ m.ghost_name)) ⊛ raw (fact 𝓤 _))))) (id⊢ 𝓤 _) $
    await ! tt $ pick ! (λ s. split ! $ split ! $ move ! (1 ∷ []) $ peeks ! (Either κ) (Is (Either κ)) (shows 𝓛 (Either κ)) s (u ∷ []) (λ is'.
    lands_as ! refl refl (either_typed 𝓛 κ s u is') $
    move ! (2 ∷ []) $ pick ! (λ ws'. split ! $ drop ! $ split ! $ heard ! _ (λ same. heard ! _ (λ value.
    -- [the result; the token; how the statement ends]
    returns ! (look_at ! 0 refl) $ free_all ! refl $
    suffices ! _ (ends_at 𝓛 f.ended stayed c y u s (tt, tt) (tt, tt)) $
    rewrite ! 2 (λ (n : GName). ‵ (follows owner.the_row the_row r.ghost_name n F)) (sym same) refl $
    nothing ! $ nothing ! $ fjoin ! $ join ! $ move ! (1 ∷ 0 ∷ []) $ join ! $ frame ! $ says ! (value ∙ ap Ok held) $ done !)))))))))))))
