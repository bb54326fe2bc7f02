-- The imports of the helpers that are used, behind the directives of a module.
use Rattle.std.specs.Prelude.{ℕ, Bool, true, false, List, [], ◌∷◌, ◌++◌, Option, Some, None, codes}
use Rattle.std.specs.List.{insert_slice}
use Rattle.ecma_kind.specs.Sessions.{SessionState}
use Rattle.ecma_kind.specs.declared.kind.Kind.TheVariants as kind
use Rattle.ecma_tree.specs.Nodes.{absent, dummy_span, list_node, node_of}
use Rattle.ecma_tree.specs.declared.node.Node.{Node, out-Node}
use Rattle.ecma_utils.specs.Directives.{front_length, is_text_stmt}
use Rattle.ecma_utils.specs.Quotes.{name_of, text_of as literal_of}
use Rattle.ecma_helpers.specs.declared.name.HelperName.{HelperName}
use Rattle.ecma_helpers.specs.declared.name.HelperName.TheVariants as helper
use Rattle.ecma_helpers.specs.Names.{name_of_helper, source_of}
use Rattle.ecma_helpers.specs.Slots.{kept_of}

-- _ as _get
abbrev pub specifier_of : HelperName → ℕ → Node
specifier_of name ctxt = node_of dummy_span (kind.ImportNamedSpecifier false) (name_of_helper name ctxt ∷ name_of 0 dummy_span (codes "_") ∷ [])

-- import { _ as _get } from "@swc/helpers/_/_get";
abbrev pub import_of : HelperName → ℕ → Node
import_of name ctxt =
    node_of dummy_span (kind.ImportDecl false) (list_node (specifier_of name ctxt ∷ []) ∷ literal_of dummy_span (source_of name) ∷ absent ∷ [])

abbrev pub imports_by : HelperName → Option (ℕ × Bool) → List Node
imports_by name None = []
imports_by name (Some (ctxt, true)) = import_of name ctxt ∷ []
imports_by name (Some (ctxt, false)) = []

-- the import of a helper, if it is used
abbrev pub imports_for : HelperName → SessionState → List Node
imports_for name session = imports_by name (kept_of name session)

-- those of all helpers that are used, in this order
abbrev pub imports_of : SessionState → List Node
imports_of session =
    imports_for helper.Get session ++ imports_for helper.GetPrototypeOf session ++ imports_for helper.Set session ++ imports_for helper.Update session
    ++ imports_for helper.AssertThisInitialized session

-- ---- where they stand

-- behind the directives, before all else: behind the statements of a text literal that stand before any other item (ECMAScript, 11.2.1)
abbrev pub behind_directives : List Node → List Node → List Node
behind_directives more items = insert_slice items (front_length is_text_stmt items) more

abbrev pub first_with : List Node → List Node → List Node
first_with more [] = []
first_with more (list ∷ others) = node_of (out-Node list).span (out-Node list).kind (behind_directives more (out-Node list).children) ∷ others

-- a module with these items behind the directives of its list
abbrev pub with_imports : List Node → Node → Node
with_imports more tree = node_of (out-Node tree).span (out-Node tree).kind (first_with more (out-Node tree).children)
