-- A tree with contexts from which declarations of the module went, in which what they declared is free.
use Rattle.std.specs.Prelude.{ℕ, Bool, true, false, ◌&&◌, ◌==◌, not, List, [], cond}
use Rattle.std.specs.List.{list_any}
use Rattle.ecma_kind.specs.declared.kind.Kind.{Kind}
use Rattle.ecma_kind.specs.declared.kind.Kind.TheVariants as kind
use Rattle.ecma_tree.specs.Contexts.{with_contexts}
use Rattle.ecma_tree.specs.Finding.{enters_all, finds}
use Rattle.ecma_tree.specs.declared.node.Node.{Node, out-Node}
use Rattle.ecma_scope.specs.declared.form.Declaration.{Declaration}
use Rattle.ecma_scope.specs.declared.role.Role.TheVariants as role
use Rattle.ecma_scope.specs.Declarations.{keeps, names}
use Rattle.ecma_scope.specs.Resolved.{innermost}

-- what the scope of a module declares
abbrev pub module_names : Node → List Declaration
module_names tree = names role.Root (innermost []) tree

-- what has the context of the top, and a text that these declarations do not keep as a value, is free
abbrev pub freed_by : ℕ → ℕ → List Declaration → List ℕ → ℕ → ℕ
freed_by unresolved top declared sym ctxt = cond (ctxt == top && not (keeps declared sym)) unresolved ctxt

-- the tree in which that is so by what its own scope declares
--   import { a } from "m"; declare let b: T; { let a; a; } a; b;   // once the import is dropped, the a of the block stays bound, and the last a is free, as b is
abbrev pub freed : ℕ → ℕ → Node → Node
freed unresolved top tree = with_contexts (freed_by unresolved top (module_names tree)) tree

abbrev pub is_alias : Kind → Bool
is_alias (kind.TsImportEqualsDecl is_export is_type_only) = true
is_alias _ = false

abbrev pub has_alias : Node → Bool
has_alias tree = finds is_alias enters_all tree

abbrev pub holds_alias : Node → Bool
holds_alias item = list_any has_alias (out-Node item).children

-- whether `import a = ..` stands inside of an item of a module. Where it goes from a namespace, the scope of that loses a name, and the namespace may be no
-- value any more
--   namespace N { import a = b.c; } N;   // N goes with the alias
abbrev pub has_inner_alias : Node → Bool
has_inner_alias tree = list_any (λ items. list_any holds_alias (out-Node items).children) (out-Node tree).children
