-- Lists, sequences, loops, ambient declarations, namespaces, imports by `=`, modules.
use Rattle.std.specs.Prelude.{ℕ, Bool, true, false, List, [], ◌∷◌, ◌++◌, ◌-◌, ◌==◌, nat_le, length, take, slice_get, Option, Some, None, if◌then◌else◌}
use Rattle.std.specs.List.{swap}
use Rattle.ecma_kind.specs.declared.span.Span.{Span}
use Rattle.ecma_kind.specs.declared.kind.Kind.{Kind}
use Rattle.ecma_kind.specs.declared.kind.Kind.TheVariants as kind
use Rattle.ecma_tree.specs.declared.node.Node.{Node}
use Rattle.ecma_tree.specs.Nodes.{node_of, absent}
use Rattle.ecma_grammar.specs.trees.Parts.{kind_of, span_of, children_of, from_to, is_absent, is_present, framed}

-- the last two exchanged
abbrev pub swapped : List Node → List Node
swapped xs = if nat_le 2 (length xs) then swap xs (length xs - 2) (length xs - 1) else xs

-- without the last where that is missing: the last comma of an array adds no element
abbrev pub missing : Option Node → Bool
missing None = false
missing (Some x) = is_absent x

abbrev pub elements : List Node → List Node
elements xs = if missing (slice_get xs (length xs - 1)) then take (length xs - 1) xs else xs

-- the one, or all
abbrev pub the_one : List Node → Node
the_one (x ∷ []) = x
the_one xs = absent

abbrev pub sequence : Span → List Node → Node
sequence span xs = if length xs == 1 then framed 1 the_one xs else node_of span kind.SeqExpr xs

-- the head of a loop, its body
abbrev pub headed : Span → List Node → Node
headed span (head ∷ body ∷ []) = node_of span (kind_of head) (children_of head ++ body ∷ [])
headed span xs = absent

abbrev pub declared_kind : Kind → Kind
declared_kind (kind.FnDecl declare) = kind.FnDecl true
declared_kind (kind.ClassDecl declare) = kind.ClassDecl true
declared_kind (kind.VarDecl k declare) = kind.VarDecl k true
declared_kind (kind.TsInterfaceDecl declare) = kind.TsInterfaceDecl true
declared_kind (kind.TsTypeAliasDecl declare) = kind.TsTypeAliasDecl true
declared_kind (kind.TsEnumDecl declare is_const) = kind.TsEnumDecl true is_const
declared_kind (kind.TsModuleDecl declare global) = kind.TsModuleDecl true global
declared_kind k = k

-- a declaration after `declare`
abbrev pub declared : Span → List Node → Node
declared span (declaration ∷ []) = node_of span (declared_kind (kind_of declaration)) (children_of declaration)
declared span xs = absent

-- a namespace inside another
abbrev pub nested : ℕ → Node → Node → Node
nested hi name body = node_of (from_to (span_of name).lo hi) (kind.TsNamespaceDecl false false) (name ∷ body ∷ [])

-- the names of a namespace, its body: a name after a point is a namespace inside
abbrev pub namespaces : ℕ → List Node → Node
namespaces hi [] = absent
namespaces hi (body ∷ []) = body
namespaces hi (name ∷ x ∷ xs) = nested hi name (namespaces hi (x ∷ xs))

abbrev pub namespace : Span → List Node → Node
namespace span [] = absent
namespace span (body ∷ []) = absent
namespace span (name ∷ x ∷ xs) = node_of span (kind.TsModuleDecl false false) (name ∷ namespaces span.hi (x ∷ xs) ∷ [])

-- `export` or not, `type` or not, name, what it names
abbrev pub import_equals : Span → List Node → Node
import_equals span (is_export ∷ is_type_only ∷ name ∷ reference ∷ []) =
    node_of span (kind.TsImportEqualsDecl (is_present is_export) (is_present is_type_only)) (name ∷ reference ∷ [])
import_equals span xs = absent

-- the text of a name
abbrev pub text_of : Kind → Option (List ℕ)
text_of (kind.IdentName sym) = Some sym
text_of k = None

-- hashbang, items
abbrev pub module_of : Span → List Node → Node
module_of span (hashbang ∷ items ∷ []) = node_of span (kind.Module (text_of (kind_of hashbang))) (items ∷ [])
module_of span xs = absent

-- a type and an operand; or the operand alone, for `<const>`
abbrev pub const_assertion : Span → List Node → Node
const_assertion span (operand ∷ []) = node_of span kind.TsConstAssertion (operand ∷ [])
const_assertion span xs = absent

abbrev pub type_assertion : Span → List Node → Node
type_assertion span (type ∷ operand ∷ []) = node_of span kind.TsTypeAssertion (operand ∷ type ∷ [])
type_assertion span xs = absent

abbrev pub assertion : Span → List Node → Node
assertion span xs = if length xs == 1 then framed 1 (const_assertion span) xs else framed 2 (type_assertion span) xs
