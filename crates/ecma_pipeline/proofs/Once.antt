-- A tree whose scopes have contexts of their own declares each text once.
use Rattle.std.proofs.Common.{◌≡◌, ◌∙◌, ℕ, Bool, true, false, List, [], ◌∷◌, ◌++◌, ◌||◌, map, cond, nat_eq, bytes_eq, refl, sym, ap, get_or}
use Rattle.ecma_tree.specs.declared.node.Node.{Node}
use Rattle.ecma_scope.specs.Scopes.{opens}
use Rattle.ecma_hygiene.specs.Ids.{Id, contexts_of, has_context, innermost, own_ids}
use Rattle.ecma_hygiene.specs.Sights.{Around, own_scope}
use Rattle.ecma_hygiene_scopes.specs.Stops.{Stop, stops}
use Rattle.ecma_ready.specs.Ready.{DeclaresItsTextsOnce, HasOwnContexts, contexts_there}

either-second : (a b : Bool) → b ≡ true → (a || b) ≡ true
either-second true b h = refl
either-second false b h = h

keeps-first : (a b c : Bool) → (b ≡ true → c ≡ true) → (a || b) ≡ true → (a || c) ≡ true
keeps-first true b c f h = refl
keeps-first false b c f h = f h

-- a context in which a text is declared is one of the scope
among-all : (ids : List Id) (text : List ℕ) (ctxt : ℕ) → has_context ctxt (contexts_of ids text) ≡ true → has_context ctxt (map (λ (id : Id). id.1) ids) ≡ true
among-all [] text ctxt h = h
among-all (id ∷ ids) text ctxt h = by (bytes_eq id.0 text) (among-all ids text ctxt) h
  where
    by : (b : Bool) → (has_context ctxt (contexts_of ids text) ≡ true → has_context ctxt (map (λ (id : Id). id.1) ids) ≡ true)
        → has_context ctxt (cond b (id.1 ∷ []) [] ++ contexts_of ids text) ≡ true → (nat_eq ctxt id.1 || has_context ctxt (map (λ (id : Id). id.1) ids)) ≡ true
    by true rest h = keeps-first (nat_eq ctxt id.1) (has_context ctxt (contexts_of ids text)) (has_context ctxt (map (λ (id : Id). id.1) ids)) rest h
    by false rest h = either-second (nat_eq ctxt id.1) (has_context ctxt (map (λ (id : Id). id.1) ids)) (rest h)

there : (node : Node) (around : Around) → opens around.role node ≡ true → (text : List ℕ) (ctxt : ℕ) → has_context ctxt (own_scope around.role around.scopes node text) ≡ true
    → has_context ctxt (contexts_there node around) ≡ true
there node around opened text ctxt h =
    ap (λ b. has_context ctxt (cond b (map (λ (id : Id). id.1) (own_ids around.role (innermost around.scopes) node)) [])) opened ∙ among-all (own_ids around.role (innermost around.scopes) node) text ctxt h

pub texts-once : (tree : Node) → HasOwnContexts tree → DeclaresItsTextsOnce tree
texts-once tree own = record {
  once = λ k d lt. (λ opened text c e has also old other.
      (let stop : Stop = get_or (stops 0 tree) k d in
      own.one k d lt c e (there stop.node stop.around opened text c has) (there stop.node stop.around opened text e also)));
}
