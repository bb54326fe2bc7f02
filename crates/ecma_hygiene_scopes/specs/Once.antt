-- Scopes that declare each text in one context, but for names that were made.
use Rattle.std.specs.Prelude.{◌≡◌, ℕ, Bool, true, false, List}
use Rattle.ecma_tree.specs.declared.node.Node.{Node, out-Node}
use Rattle.ecma_scope.specs.Scopes.{opens}
use Rattle.ecma_hygiene.specs.Ids.{Id, Scope, has_context, innermost, is_body_block}
use Rattle.ecma_hygiene.specs.Sights.{Around, own_scope}

-- of the ids that a scope declares with one text, and that were not made, there is one: those that were made get texts of their own. Final texts do not see to the others: of
-- `var a; var a;`, where the second has another context than the first, both keep their text, since neither stands further in than the other
abbrev pub DeclaresOnce : (Id → Bool) → Scope → Type 0
DeclaresOnce made scope = (text : List ℕ) (c d : ℕ) → has_context c (scope text) ≡ true → has_context d (scope text) ≡ true → made (text, c) ≡ false → made (text, d) ≡ false → c ≡ d

-- so does the scope of a node with what stands around it, if it opens one
abbrev pub DeclaresTextsOnce : (Id → Bool) → Node → Around → Type 0
DeclaresTextsOnce made node around = opens around.role node ≡ true → DeclaresOnce made (own_scope around.role around.scopes node)

-- a scope declares each text in one context, and the body of a function none that a parameter has: what both declare is the parameter
--   function f(a) { var a; }
pub record DeclaresEachOnce (node : Node) (around : Around) : Type 0 where
  pub once : opens around.role node ≡ true → (text : List ℕ) (c d : ℕ) → has_context c (own_scope around.role around.scopes node text) ≡ true → has_context d (own_scope around.role around.scopes node text) ≡ true → c ≡ d
  pub apart : is_body_block around.role (out-Node node).kind ≡ true → (text : List ℕ) (c d : ℕ) → has_context c (innermost around.scopes text) ≡ true
      → has_context d (own_scope around.role around.scopes node text) ≡ true → ⊥
