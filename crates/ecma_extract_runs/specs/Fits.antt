-- The trees of which the laws speak: what is listed where it is parted has the sort of an element or a property, and no declared name is parted.
use Rattle.std.specs.Prelude.{Bool, true, false, not, ◌&&◌, List, [], ◌∷◌, map}
use Rattle.std.specs.List.{list_all}
use Rattle.ecma_kind.specs.declared.kind.Kind.{Kind}
use Rattle.ecma_kind.specs.declared.kind.Kind.TheVariants as kind
use Rattle.ecma_tree.specs.Layers.{from_leaves}
use Rattle.ecma_tree.specs.declared.node.Node.{Node, out-Node}
use Rattle.ecma_runs.specs.Meaning.{Meaning}
use Rattle.ecma_runs.specs.Declarations.{has_no_effect}
use Rattle.ecma_runs.specs.Evaluation.{meaning}

-- no member of a class, no list, and no annotation
abbrev pub is_single : Kind → Bool
is_single (kind.ClassMethod sort modifiers) = false
is_single (kind.ClassProp modifiers readonly declare definite) = false
is_single (kind.Constructor accessibility is_optional) = false
is_single kind.TsTypeAnn = false
is_single kind.TsTypeParamDecl = false
is_single kind.TsTypeParamInstantiation = false
is_single kind.List = false
is_single k = true

-- what may be listed: nothing that is without effect wherever it stands, as types are, but for a function expression without a body, of which nothing is left
abbrev pub single_by : Kind → List Meaning → Bool
single_by kind.FnExpr ms = true
single_by k ms = not (has_no_effect k ms) && is_single k

abbrev pub is_single_item : Node → Bool
is_single_item n = single_by (out-Node n).kind (map meaning (out-Node n).children)

abbrev pub is_list : Kind → Bool
is_list kind.List = true
is_list k = false

-- such a node, or a list of such
abbrev pub item_by : Kind → List Node → Bool → Bool
item_by kind.List ns single = list_all is_single_item ns
item_by k ns single = single

abbrev pub is_item : Node → Bool
is_item n = item_by (out-Node n).kind (out-Node n).children (is_single_item n)

abbrev pub lists_items : List Node → Bool
lists_items [] = true
lists_items (n ∷ ns) = is_list (out-Node n).kind && is_item n

abbrev pub all_fit : List Bool → Bool
all_fit kids = list_all (λ (b : Bool). b) kids

-- a declared name is no expression, and what is taken whole may hold anything
abbrev pub fits_by : Kind → List Node → List Bool → Bool
fits_by kind.BindingIdent ns kids = false
fits_by kind.ArrayLit ns kids = lists_items ns && all_fit kids
fits_by kind.ObjectLit ns kids = lists_items ns && all_fit kids
fits_by kind.Tpl ns kids = lists_items ns && all_fit kids
fits_by kind.GetterProp ns (b ∷ kids) = b
fits_by kind.SetterProp ns (b ∷ kids) = b
fits_by kind.MethodProp ns (b ∷ kids) = b
fits_by kind.ParenExpr (e ∷ ns) kids = is_item e && all_fit kids
fits_by kind.TsAsExpr (e ∷ ns) (b ∷ kids) = is_item e && b
fits_by kind.TsTypeAssertion (e ∷ ns) (b ∷ kids) = is_item e && b
fits_by kind.TsConstAssertion (e ∷ ns) (b ∷ kids) = is_item e && b
fits_by kind.TsNonNullExpr (e ∷ ns) (b ∷ kids) = is_item e && b
fits_by kind.TsInstantiation (e ∷ ns) (b ∷ kids) = is_item e && b
fits_by kind.TsSatisfiesExpr (e ∷ ns) (b ∷ kids) = is_item e && b
fits_by (kind.UnaryExpr op) ns kids = all_fit kids
fits_by (kind.BinExpr op) ns kids = all_fit kids
fits_by kind.SeqExpr ns kids = all_fit kids
fits_by kind.List ns kids = all_fit kids
fits_by kind.ComputedPropName ns kids = all_fit kids
fits_by kind.KeyValueProp ns kids = all_fit kids
fits_by k ns kids = true

abbrev pub fits_step : Node → List Bool → Bool
fits_step n kids = fits_by (out-Node n).kind (out-Node n).children kids

abbrev pub fits : Node → Bool
fits = from_leaves Bool fits_step
