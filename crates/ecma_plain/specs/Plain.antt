-- Plain trees: what may stand in the tree of a plain module, literals without source texts included.
use Rattle.std.specs.Prelude.{◌≡◌, ℕ, Bool, true, false, List, Option, Some, None}
use Rattle.std.specs.Str.{IsUtf8}
use Rattle.ecma_kind.specs.declared.kind.Kind.{Kind}
use Rattle.ecma_kind.specs.declared.kind.Kind.TheVariants as kind
use Rattle.ecma_tree.specs.declared.node.Node.{Node}
use Rattle.ecma_text_leaves.specs.Everywhere.{Everywhere}
use Rattle.ecma_plain.specs.Forms.{is_of_forms}
use Rattle.ecma_plain.specs.Functions.{functions}
use Rattle.ecma_plain.specs.Items.{has_plain_items}
use Rattle.ecma_plain.specs.Writable.{IsWritable}

-- a text that is there is UTF-8
abbrev pub IsUtf8OrNone : Option (List ℕ) → Type 0
IsUtf8OrNone None = Unit {0}
IsUtf8OrNone (Some text) = IsUtf8 text

-- the texts that are written as they are
abbrev pub HasUtf8Texts : Kind → Type 0
HasUtf8Texts (kind.Module shebang) = IsUtf8OrNone shebang
HasUtf8Texts (kind.Ident sym ctxt optional) = IsUtf8 sym
HasUtf8Texts (kind.IdentName sym) = IsUtf8 sym
HasUtf8Texts (kind.PrivateName name) = IsUtf8 name
HasUtf8Texts (kind.Str value raw) = IsUtf8OrNone raw
HasUtf8Texts (kind.Number value raw) = IsUtf8OrNone raw
HasUtf8Texts (kind.BigInt value raw) = IsUtf8OrNone raw
HasUtf8Texts (kind.Regex exp flags) = IsUtf8 exp × IsUtf8 flags
HasUtf8Texts (kind.TplElement raw cooked tail) = IsUtf8 raw
HasUtf8Texts _ = Unit {0}

-- a name with a `?` behind it
abbrev pub is_questioned : Kind → Bool
is_questioned (kind.Ident sym ctxt optional) = optional
is_questioned _ = false

-- no TypeScript but the assignments of CommonJS modules; its texts are UTF-8; a literal without source text is one that can be written
abbrev pub IsPlainKind : Kind → Type 0
IsPlainKind k = HasUtf8Texts k × IsWritable k × (is_of_forms k ≡ true) × (is_questioned k ≡ false)

-- each node has such a kind; functions have bodies and the parameters of plain ones; and of import and export assignments
-- `import a = require("m")` and `export =` stand there alone, where they stay
--   let a = 1;   // plain
--   let a: T; function f(): T; import a = b.c;   // not plain, each of them
--   import a = require("m"); export = e;   // plain where they may stay
pub record IsPlain (keep_assign : Bool) (tree : Node) : Type 0 where
  pub kinds : Everywhere IsPlainKind tree
  pub usual : (functions tree).has_unusual ≡ false
  pub items : has_plain_items keep_assign tree ≡ true
