-- The head of a module that makes its `require`.
use Rattle.std.specs.Prelude.{false, ◌&&◌, codes, List, [], ◌∷◌}
use Rattle.std.specs.List.{insert}
use Rattle.ecma_kind.specs.declared.ident.Ident.{Ident}
use Rattle.ecma_kind.specs.declared.kind.Kind.TheVariants as kind
use Rattle.ecma_kind.specs.declared.operators.MetaPropKind.TheVariants.{ImportMeta}
use Rattle.ecma_kind.specs.declared.operators.VarDeclKind.TheVariants.{Const}
use Rattle.ecma_tree.specs.Idents.{ident_node}
use Rattle.ecma_tree.specs.Nodes.{absent, dummy_span, list_node, node_of}
use Rattle.ecma_tree.specs.declared.node.Node.{Node}
use Rattle.ecma_utils.specs.Directives.{front_length, stands_in_front}
use Rattle.ecma_utils.specs.Expressions.{call_of, key_of, member_of, var_decl_of}
use Rattle.ecma_utils.specs.Quotes.{name_of, text_of}
use Rattle.ecma_utils.specs.Statements.{is_statement}
use Rattle.ecma_lower.specs.declared.head.Head.{Head}
use Rattle.ecma_lower.specs.Items.{in_items}

-- createRequire as _createRequire
abbrev pub create_specifier : Ident → Node
create_specifier create = node_of dummy_span (kind.ImportNamedSpecifier false) (ident_node create ∷ name_of 0 dummy_span (codes "createRequire") ∷ [])

-- import { createRequire as _createRequire } from "module";
abbrev pub create_import : Ident → Node
create_import create = node_of dummy_span (kind.ImportDecl false) (list_node (create_specifier create ∷ []) ∷ text_of dummy_span (codes "module") ∷ absent ∷ [])

-- import.meta.url
abbrev pub url_of_module : Node
url_of_module = member_of (node_of dummy_span (kind.MetaPropExpr ImportMeta) []) (key_of dummy_span (codes "url"))

-- const __require = _createRequire(import.meta.url);
abbrev pub require_constant : Head → Node
require_constant head =
    var_decl_of Const (node_of dummy_span kind.BindingIdent (ident_node head.required ∷ absent ∷ [])) (call_of dummy_span (ident_node head.create) (url_of_module ∷ []))

-- a statement behind the directives of a list
abbrev pub behind_directives : Node → List Node → List Node
behind_directives n items = insert items (front_length (λ item. is_statement item && stands_in_front false item) items) n

-- the import behind the directives, then the constant, then all else
abbrev pub with_head : Head → Node → Node
with_head head = in_items (λ items. behind_directives (create_import head.create) (behind_directives (require_constant head) items))
