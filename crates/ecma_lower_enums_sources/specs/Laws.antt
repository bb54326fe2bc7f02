-- A module with its enums written, and with reads of their members, whatever is known of these: it is one by its sorts, keeps clauses of what fits, its texts can be written, and no name is made.
use Rattle.std.specs.Prelude.{◌≡◌, ℕ, Bool, true, false, List}
use Rattle.ecma_kind.specs.declared.kind.Kind.{Kind}
use Rattle.ecma_kind.specs.declared.kind.Kind.TheVariants as kind
use Rattle.ecma_kind.specs.declared.shapes.Sort.TheVariants as sort
use Rattle.ecma_tree.specs.Sorted.{HasSort}
use Rattle.ecma_tree.specs.declared.node.Node.{Node}
use Rattle.ecma_text_leaves.specs.Everywhere.{Everywhere}
use Rattle.ecma_enums.specs.declared.record.TsEnumRecordEntry.{TsEnumRecordEntry}
use Rattle.ecma_fits.specs.Branches.{is_dangling}
use Rattle.ecma_fits.specs.Chains.{is_loose}
use Rattle.ecma_fits.specs.Fitting.{NoneFails}
use Rattle.ecma_fits.specs.Members.{is_misread}
use Rattle.ecma_hygiene_fits.specs.Placed.{NoneMade}
use Rattle.ecma_hygiene_fits.specs.Spelled.{NoneLong}
use Rattle.ecma_plain.specs.Plain.{HasUtf8Texts}
use Rattle.ecma_plain.specs.Writable.{IsWritable}
use Rattle.ecma_rules.specs.Children.{kind_of}
use Rattle.ecma_rules.specs.Members.{has_second_constructor}
use Rattle.ecma_lower_enums.specs.Lowered.{known_enums}
use Rattle.ecma_lower_enums.specs.Writing.{with_enums_written}
use Rattle.ecma_lower_enums_sources.specs.Premises.{AreWritten, HasText}
use Rattle.ecma_lower_enums_sources.specs.Throughout.{Throughout}

-- where these members are known; enums may change or not, and members of `const` enums are kept or not
abbrev pub written : Bool → Bool → List TsEnumRecordEntry → Node → Node
written may_change keeps_constants members tree = with_enums_written (known_enums may_change keeps_constants members tree) tree

-- ---- sorts

abbrev pub WrittenEnumsAreSorted : Type 0
WrittenEnumsAreSorted = (may_change keeps_constants : Bool) (members : List TsEnumRecordEntry) (tree : Node) → HasSort sort.Module tree → HasSort sort.Module (written may_change keeps_constants members tree)

-- ---- what fits

-- of the clauses of what fits, those that ask nothing of where a node stands, each that a tree keeps
pub record KeepsClauses (before after : Node) : Type 0 where
  pub branches : NoneFails (λ w node. is_dangling node) before → NoneFails (λ w node. is_dangling node) after
  pub chains : NoneFails (λ w node. is_loose node) before → NoneFails (λ w node. is_loose node) after
  pub members : NoneFails (λ w node. is_misread node) before → NoneFails (λ w node. is_misread node) after
  pub constructors : NoneFails (λ w node. has_second_constructor node) before → NoneFails (λ w node. has_second_constructor node) after

abbrev pub WrittenEnumsKeepClauses : Type 0
WrittenEnumsKeepClauses =
    (may_change keeps_constants : Bool) (members : List TsEnumRecordEntry) (tree : Node) → HasSort sort.Module tree → KeepsClauses tree (written may_change keeps_constants members tree)

-- ---- forms

-- the kinds of what is written for enums and for reads of their members
abbrev pub is_written_kind : Kind → Bool
is_written_kind kind.Absent = true
is_written_kind kind.List = true
is_written_kind (kind.Ident sym ctxt optional) = true
is_written_kind (kind.IdentName sym) = true
is_written_kind (kind.Str value raw) = true
is_written_kind (kind.Number value raw) = true
is_written_kind (kind.UnaryExpr op) = true
is_written_kind (kind.BinExpr op) = true
is_written_kind (kind.AssignExpr op) = true
is_written_kind kind.MemberExpr = true
is_written_kind kind.ComputedPropName = true
is_written_kind kind.ObjectLit = true
is_written_kind kind.KeyValueProp = true
is_written_kind kind.KeyValuePatProp = true
is_written_kind kind.AssignPat = true
is_written_kind kind.CallExpr = true
is_written_kind kind.FnExpr = true
is_written_kind (kind.Function is_generator is_async) = true
is_written_kind kind.Param = true
is_written_kind kind.BlockStmt = true
is_written_kind kind.ExprStmt = true
is_written_kind (kind.VarDecl word declare) = true
is_written_kind (kind.VarDeclarator definite) = true
is_written_kind kind.BindingIdent = true
is_written_kind kind.ExportDecl = true
is_written_kind _ = false

-- no other comes in: a tree without namespaces, say, has none then
abbrev pub WritingEnumsAddsNoForms : Type 0
WritingEnumsAddsNoForms =
    (may_change keeps_constants : Bool) (members : List TsEnumRecordEntry) (tree : Node) (test : Kind → Bool) →
    ((k : Kind) → is_written_kind k ≡ true → test k ≡ false) → HasSort sort.Module tree → NoneFails (λ w n. test (kind_of n)) tree →
    NoneFails (λ w n. test (kind_of n)) (written may_change keeps_constants members tree)

-- ---- names

-- the names that are written are as short as those of the tree
abbrev pub WritingEnumsKeepsNamesShort : Type 0
WritingEnumsKeepsNamesShort = (may_change keeps_constants : Bool) (members : List TsEnumRecordEntry) (tree : Node) → NoneLong tree → NoneLong (written may_change keeps_constants members tree)

-- each is that of a declaration, with its place and its context: none is made
abbrev pub WritingEnumsMakesNoNames : Type 0
WritingEnumsMakesNoNames = (may_change keeps_constants : Bool) (members : List TsEnumRecordEntry) (tree : Node) → NoneMade tree → NoneMade (written may_change keeps_constants members tree)

-- an identifier of such a text and context
abbrev pub is_such : (List ℕ → ℕ → Bool) → Kind → Bool
is_such test (kind.Ident sym ctxt optional) = test sym ctxt
is_such test _ = false

-- each has the text and the context of one that stood there: what no identifier of the tree is, none that is written is
abbrev pub WritingEnumsKeepsIds : Type 0
WritingEnumsKeepsIds =
    (may_change keeps_constants : Bool) (members : List TsEnumRecordEntry) (tree : Node) (test : List ℕ → ℕ → Bool) →
    NoneFails (λ w n. is_such test (kind_of n)) tree →
    NoneFails (λ w n. is_such test (kind_of n)) (written may_change keeps_constants members tree)

-- ---- texts

-- it is no module as it is read, since what is written for a value or for the name of a member is a literal without source text; but one can be written for it
--   enum E { A }   // E[E["A"] = 0] = "A"
abbrev pub WrittenEnumsHaveTexts : Type 0
WrittenEnumsHaveTexts =
    (may_change keeps_constants : Bool) (members : List TsEnumRecordEntry) (tree : Node) → AreWritten members → Throughout HasText tree
    → Everywhere (λ k. HasUtf8Texts k × IsWritable k) tree → Everywhere (λ k. HasUtf8Texts k × IsWritable k) (written may_change keeps_constants members tree)
