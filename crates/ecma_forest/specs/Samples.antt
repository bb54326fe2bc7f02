-- A rule, a change and a test that show what such may do.
use Rattle.std.specs.Prelude.{◌||◌, Bool, true, false, refl, List, [], ◌∷◌, slice_index_or}
use Rattle.ecma_kind.specs.declared.span.Span.{Span}
use Rattle.ecma_kind.specs.declared.kind.Kind.{Kind}
use Rattle.ecma_kind.specs.declared.kind.Kind.TheVariants as kind
use Rattle.ecma_tree.specs.Nodes.{absent, node_of}
use Rattle.ecma_tree.specs.declared.node.Node.{Node}
use Rattle.ecma_forest.specs.Changes.{KeepsSummaries}
use Rattle.ecma_forest.specs.Summaries.{AsksByParts}
use Rattle.ecma_forest.specs.Rewriting.{ChangesAskedAlone}
use Rattle.ecma_forest.specs.declared.summary.Summary.{Summary}

abbrev pub asks_for_types : Summary → Bool
asks_for_types summary = summary.types

pub asks_for_types-law : AsksByParts asks_for_types
asks_for_types-law = record { none = refl; joined = λ a b. refl }

-- a type annotation is missing, type parameters go, and type arguments leave what they hold
abbrev pub sample_rule : Span → Kind → List Node → List Node
sample_rule span kind.TsTypeAnn children = absent ∷ []
sample_rule span kind.TsTypeParamDecl children = []
sample_rule span kind.TsTypeParamInstantiation children = children
sample_rule span k children = node_of span k children ∷ []

pub sample_rule-alone : ChangesAskedAlone asks_for_types sample_rule
sample_rule-alone span kind.TsTypeAnn children none = cc
sample_rule-alone span kind.TsTypeParamDecl children none = cc
sample_rule-alone span kind.TsTypeParamInstantiation children none = cc
sample_rule-alone span k children none = refl

-- no identifier has a question mark
abbrev pub unquestioned : Kind → Kind
unquestioned (kind.Ident sym ctxt optional) = kind.Ident sym ctxt false
unquestioned k = k

pub unquestioned-keeps : KeepsSummaries unquestioned
unquestioned-keeps (kind.Ident sym ctxt optional) = refl
unquestioned-keeps k = refl

abbrev pub is_this : Kind → Bool
is_this kind.ThisExpr = true
is_this k = false

-- whether the leftmost leaf is `this`
abbrev pub begins_with_this : Span → Kind → List Bool → Bool
begins_with_this span k children = is_this k || slice_index_or children 0 false
