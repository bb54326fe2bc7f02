-- Trees without types and without enums and namespaces, in which what is declared is declared where the module runs.
use Rattle.std.specs.Prelude.{Bool, true, false, ◌&&◌, ◌||◌, not, List, [], ◌∷◌, map}
use Rattle.std.specs.List.{list_all}
use Rattle.ecma_kind.specs.declared.kind.Kind.{Kind}
use Rattle.ecma_kind.specs.declared.kind.Kind.TheVariants as kind
use Rattle.ecma_tree.specs.declared.node.Node.{Node, out-Node}
use Rattle.ecma_hygiene.specs.Renamed.{kind_is_absent}
use Rattle.ecma_runs.specs.Declarations.{has_no_effect}
use Rattle.ecma_runs.specs.Evaluation.{meaning}
use Rattle.ecma_tree.specs.Layers.{from_leaves}

-- what is neither a type, nor has one, nor declares other names than JavaScript does
abbrev pub is_plain_kind : Kind → Bool
is_plain_kind kind.TsAsExpr = false
is_plain_kind kind.TsTypeAssertion = false
is_plain_kind kind.TsConstAssertion = false
is_plain_kind kind.TsNonNullExpr = false
is_plain_kind kind.TsInstantiation = false
is_plain_kind kind.TsSatisfiesExpr = false
is_plain_kind kind.TsTypeAnn = false
is_plain_kind kind.TsTypeParamDecl = false
is_plain_kind kind.TsTypeParamInstantiation = false
is_plain_kind (kind.TsEnumDecl declare is_const) = false
is_plain_kind kind.TsEnumMember = false
is_plain_kind (kind.TsModuleDecl declare global) = false
is_plain_kind (kind.TsNamespaceDecl declare global) = false
is_plain_kind (kind.TsImportEqualsDecl is_export is_type_only) = false
is_plain_kind _ = true

-- a setter types no receiver
abbrev pub has_no_receiver : Kind → List Node → Bool
has_no_receiver kind.SetterProp (key ∷ this_parameter ∷ others) = kind_is_absent this_parameter
has_no_receiver k children = true

abbrev pub is_none : List Node → Bool
is_none [] = true
is_none (node ∷ nodes) = false

-- what has children has an effect
abbrev pub plain_by : Kind → List Node → Bool
plain_by k children = is_plain_kind k && (is_none children || (not (has_no_effect k (map meaning children)) && has_no_receiver k children))

abbrev pub plain_step : Node → List Bool → Bool
plain_step node results = plain_by (out-Node node).kind (out-Node node).children && list_all (λ b. b) results

abbrev pub is_plain : Node → Bool
is_plain = from_leaves Bool plain_step
