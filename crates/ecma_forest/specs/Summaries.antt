-- The summary of a tree: what stands somewhere in it, at its root or anywhere below it.
use Rattle.std.specs.Prelude.{◌≡◌, ◌||◌, Bool, true, false, List, [], ◌∷◌}
use Rattle.ecma_kind.specs.declared.kind.Kind.{Kind}
use Rattle.ecma_kind.specs.declared.kind.Kind.TheVariants as kind
use Rattle.ecma_kind.specs.declared.operators.AssignOp.{AssignOp}
use Rattle.ecma_kind.specs.declared.operators.AssignOp.TheVariants.{Assign}
use Rattle.ecma_tree.specs.declared.node.Node.{Node, Node-F, fold-Node}
use Rattle.ecma_forest.specs.Sets.{sets_of}
use Rattle.ecma_forest.specs.declared.summary.Summary.{Summary}

abbrev pub is_type : Kind → Bool
is_type kind.TsTypeAnn = true
is_type kind.TsType = true
is_type kind.TsTypeParamDecl = true
is_type kind.TsTypeParamInstantiation = true
is_type k = false

abbrev pub is_enum : Kind → Bool
is_enum (kind.TsEnumDecl declare is_const) = true
is_enum k = false

abbrev pub is_namespace : Kind → Bool
is_namespace (kind.TsModuleDecl declare global) = true
is_namespace (kind.TsNamespaceDecl declare global) = true
is_namespace k = false

-- a parameter that declares a property
abbrev pub is_param_prop : Kind → Bool
is_param_prop (kind.TsParamProp accessibility is_override readonly) = true
is_param_prop k = false

abbrev pub is_plain : AssignOp → Bool
is_plain Assign = true
is_plain op = false

-- what may have a pattern that was read as a literal
--   [a] = b; for ([c] of d);   // each of them
--   a += b; e++;   // none
abbrev pub may_have_patterns : Kind → Bool
may_have_patterns (kind.AssignExpr op) = is_plain op
may_have_patterns kind.ForInStmt = true
may_have_patterns (kind.ForOfStmt is_await) = true
may_have_patterns k = false

-- what has parameters and a body of its own
abbrev pub is_function : Kind → Bool
is_function (kind.Function is_generator is_async) = true
is_function (kind.ArrowExpr is_async is_generator) = true
is_function (kind.Constructor accessibility is_optional) = true
is_function kind.GetterProp = true
is_function kind.SetterProp = true
is_function k = false

-- what may open a scope
abbrev pub may_open_scope : Kind → Bool
may_open_scope (kind.Module shebang) = true
may_open_scope (kind.Script shebang) = true
may_open_scope kind.TsModuleBlock = true
may_open_scope (kind.TsNamespaceDecl declare global) = true
may_open_scope (kind.TsEnumDecl declare is_const) = true
may_open_scope kind.FnExpr = true
may_open_scope kind.ClassExpr = true
may_open_scope (kind.ClassDecl declare) = true
may_open_scope kind.BlockStmt = true
may_open_scope kind.SwitchStmt = true
may_open_scope kind.ForStmt = true
may_open_scope kind.ForInStmt = true
may_open_scope (kind.ForOfStmt is_await) = true
may_open_scope kind.CatchClause = true
may_open_scope k = is_function k

-- an identifier that names a variable
abbrev pub is_name : Kind → Bool
is_name (kind.Ident sym ctxt optional) = true
is_name k = false

-- the summary of a node without what stands below it
abbrev pub kind_summary : Kind → Summary
kind_summary k = record {
  types = is_type k;
  enums = is_enum k;
  namespaces = is_namespace k;
  param_props = is_param_prop k;
  patterns = may_have_patterns k;
  scopes = may_open_scope k;
  functions = is_function k;
  names = is_name k;
}

abbrev pub empty_summary : Summary
empty_summary = sets_of 0

abbrev pub join_summaries : Summary → Summary → Summary
join_summaries a b = record {
  types = a.types || b.types;
  enums = a.enums || b.enums;
  namespaces = a.namespaces || b.namespaces;
  param_props = a.param_props || b.param_props;
  patterns = a.patterns || b.patterns;
  scopes = a.scopes || b.scopes;
  functions = a.functions || b.functions;
  names = a.names || b.names;
}

abbrev pub joined_summaries : List Summary → Summary
joined_summaries [] = empty_summary
joined_summaries (s ∷ ss) = join_summaries s (joined_summaries ss)

abbrev pub summary_here : Node-F Summary → Summary
summary_here parts = join_summaries (kind_summary parts.kind) (joined_summaries parts.children)

-- that of a tree: those of all its nodes, joined
unfoldable pub tree_summary : Node → Summary
tree_summary = fold-Node Summary summary_here

-- a question to summaries: an empty one says no, and a joined one yes exactly where one of the two does
pub record AsksByParts (asks : Summary → Bool) : Type 0 where
  pub none : asks empty_summary ≡ false
  pub joined : (a b : Summary) → asks (join_summaries a b) ≡ (asks a || asks b)
