-- Trees whose identifiers have other contexts.
use Rattle.std.specs.Prelude.{ℕ, List}
use Rattle.ecma_kind.specs.declared.kind.Kind.{Kind}
use Rattle.ecma_kind.specs.declared.kind.Kind.TheVariants.{Ident}
use Rattle.ecma_tree.specs.declared.node.Node.{Node}
use Rattle.ecma_tree.specs.Changing.{changed}

abbrev pub kind_with_context : (List ℕ → ℕ → ℕ) → Kind → Kind
kind_with_context context_of (Ident sym ctxt optional) = Ident sym (context_of sym ctxt) optional
kind_with_context context_of kind = kind

-- the tree in which each identifier has the context that its text and its old context give it
abbrev pub with_contexts : (List ℕ → ℕ → ℕ) → Node → Node
with_contexts context_of = changed (λ span. span) (kind_with_context context_of)
