-- What is written for an enum, each with the text that it prints. A name has the place of the enum's name, a statement that of what it is written for, and all else
-- the span of what stands in no text.
use Rattle.std.specs.Prelude.{ℕ, Bool, true, false, ◌&&◌, not, cond, codes, List, [], ◌∷◌, ◌++◌, Option, Some, None, bytes_eq}
use Rattle.std.specs.Option.{is_some, option_and_then, option_map_or}
use Rattle.ecma_kind.specs.declared.ident.Ident.{Ident}
use Rattle.ecma_kind.specs.declared.kind.Kind.TheVariants as kind
use Rattle.ecma_kind.specs.declared.operators.AssignOp.TheVariants.{Assign}
use Rattle.ecma_kind.specs.declared.operators.BinaryOp.TheVariants as binary
use Rattle.ecma_kind.specs.declared.operators.VarDeclKind.{VarDeclKind}
use Rattle.ecma_kind.specs.declared.operators.VarDeclKind.TheVariants.{Var, Let}
use Rattle.ecma_kind.specs.declared.span.Span.{Span}
use Rattle.ecma_tree.specs.Idents.{ident_node}
use Rattle.ecma_tree.specs.Nodes.{absent, dummy_span, list_node, node_of}
use Rattle.ecma_tree.specs.Sorted.{is_absent}
use Rattle.ecma_tree.specs.declared.node.Node.{Node, out-Node}
use Rattle.ecma_utils.specs.Expressions.{assign_of, bin_of, call_of, computed_member_of, key_of, member_of}
use Rattle.ecma_utils.specs.Functions.{function_expr_of}
use Rattle.ecma_enums.specs.Declarations.{member_name}
use Rattle.ecma_enums.specs.KnownReads.{known_read}
use Rattle.ecma_enums.specs.Values.{expression, is_constant, is_text, text_literal, undefined}
use Rattle.ecma_enums.specs.declared.value.TsEnumRecordValue.{TsEnumRecordValue}
use Rattle.ecma_lower_enums.specs.declared.known.Around.{Around}
use Rattle.ecma_lower_enums.specs.declared.known.KnownEnums.{KnownEnums}
use Rattle.ecma_lower_enums.specs.declared.known.Part.{Part}
use Rattle.ecma_lower_enums.specs.Known.{has_id, skips}

--   E.A
abbrev pub member : Ident → List ℕ → Node
member of sym = member_of (ident_node of) (key_of dummy_span sym)

--   E["A"]
abbrev pub at_text : Ident → List ℕ → Node
at_text of sym = computed_member_of (ident_node of) (text_literal sym)

-- ---- members

--   E["A"] = v
abbrev pub set_text : Ident → List ℕ → Node → Node
set_text of sym v = assign_of Assign (at_text of sym) v

--   E[E["A"] = v] = "A"
abbrev pub set_other : Ident → List ℕ → Node → Node
set_other of sym v = assign_of Assign (computed_member_of (ident_node of) (set_text of sym v)) (text_literal sym)

-- what is known of the value of a member: what a read of it has, if anything
abbrev pub known_value : KnownEnums → Ident → List ℕ → Option TsEnumRecordValue
known_value enums of sym = known_read false enums.members (member of sym)

-- whether this is known, and whether it is a text
abbrev pub is_known : Option TsEnumRecordValue → Bool
is_known v = option_map_or is_constant v false

abbrev pub is_known_text : Option TsEnumRecordValue → Bool
is_known_text v = option_map_or is_text v false

-- an initialiser as it stands, which may be missing
abbrev pub as_it_stands : Node → Node
as_it_stands init = cond (is_absent (out-Node init).kind) undefined init

-- what is known, or else the initialiser
abbrev pub value_or : Option Node → Node → Node
value_or (Some e) init = e
value_or None init = as_it_stands init

abbrev pub value_of : Option TsEnumRecordValue → Node → Node
value_of v init = value_or (option_and_then expression v) init

-- a text is found by its name alone, any other value by the value too
abbrev pub set_member : Ident → List ℕ → Option TsEnumRecordValue → Node → Node
set_member of sym v init = cond (is_known_text v) (set_text of sym (value_of v init)) (set_other of sym (value_of v init))

-- a member of this enum, unless it is known and is not to be written
--   E[E["A"] = 0] = "A";
--   E["B"] = "t";
abbrev pub member_by : Bool → Ident → Span → List ℕ → Option TsEnumRecordValue → Node → List Node
member_by skips of span sym v init = cond (skips && is_known v) [] (node_of span kind.ExprStmt (set_member of sym v init ∷ []) ∷ [])

abbrev pub member_of_enum : KnownEnums → Bool → Ident → Span → List ℕ → Node → List Node
member_of_enum enums skips of span sym init = member_by skips of span sym (known_value enums of sym) init

abbrev pub member_in : KnownEnums → Bool → Option Ident → Span → List ℕ → Node → List Node
member_in enums skips (Some of) span sym init = member_of_enum enums skips of span sym init
member_in enums skips None span sym init = []

abbrev pub member_statements : KnownEnums → Bool → Option Ident → Node → Node → List Node
member_statements enums skips of m init = member_in enums skips of (out-Node m).span (member_name m) init

-- ---- the variable

abbrev pub declared : Ident → Node
declared of = node_of of.span kind.BindingIdent (ident_node of ∷ absent ∷ [])

-- in the list of a module or a script it is a `var`, as the enum was one; elsewhere it is of its block
abbrev pub word_of : Bool → VarDeclKind
word_of at_top = cond at_top Var Let

--   var E   let E
abbrev pub variable : Part → Node
variable part =
    node_of part.name.span (kind.VarDecl (word_of part.at_top) false)
    (list_node (node_of part.name.span (kind.VarDeclarator false) (declared part.name ∷ absent ∷ []) ∷ []) ∷ [])

-- whether `export` stands before it: in a namespace the argument says what is exported
abbrev pub is_exported_here : Part → Around → Bool
is_exported_here part around = part.exported && not (is_some around.name)

--   export var E;
abbrev pub declaration : Part → Around → Node
declaration part around = cond (is_exported_here part around) (node_of part.name.span kind.ExportDecl (variable part ∷ [])) (variable part)

-- it stands before the first part, where nothing before it in the list declares the name
abbrev pub declarations : Part → Around → List Node
declarations part around = cond (has_id part.name around.before) [] (declaration part around ∷ [])

-- ---- the call

--   t || (t = {})
abbrev pub or_new : Node → Node
or_new t = bin_of binary.LogicalOr t (assign_of Assign t (node_of dummy_span kind.ObjectLit (list_node [] ∷ [])))

--   E || (E = {})
--   E = N.E || (N.E = {})   // of an enum that a namespace N exports
abbrev pub object_by : Bool → Option Ident → Ident → Node
object_by true (Some outer) of = assign_of Assign (ident_node of) (or_new (member outer of.sym))
object_by _ _ of = or_new (ident_node of)

abbrev pub is_this : Ident → Bool
is_this of = bytes_eq of.sym (codes "this")

-- a parameter; the name `this`, which no enum has, would be none
abbrev pub parameters : Ident → List Node
parameters of = cond (is_this of) [] (node_of of.span kind.Param (declared of ∷ []) ∷ [])

--   { .. }
abbrev pub block_of : Node → Node
block_of list = node_of dummy_span kind.BlockStmt (list ∷ [])

--   function(E) { .. }
abbrev pub function_of : Ident → Node → Node
function_of of list =
    function_expr_of None
    (node_of dummy_span (kind.Function false false) (list_node (parameters of) ∷ block_of list ∷ absent ∷ absent ∷ []))

--   (function(E) { .. })(E || (E = {}));
abbrev pub call : Span → Part → Around → Node → Node
call span part around list =
    node_of span kind.ExprStmt
    (call_of dummy_span (function_of part.name list) (object_by part.exported around.name part.name ∷ []) ∷ [])

abbrev pub is_nil : List Node → Bool
is_nil [] = true
is_nil _ = false

-- it is left out where nothing is left to be written
abbrev pub calls : KnownEnums → Span → Part → Around → Node → List Node
calls enums span part around list = cond (skips enums part && is_nil (out-Node list).children) [] (call span part around list ∷ [])

-- a part of an enum, with the list of what its members became
--   enum E { A }   // var E; (function(E) { E[E["A"] = 0] = "A"; })(E || (E = {}));
--   const enum E { A }   // var E;
abbrev pub part_statements : KnownEnums → Span → Part → Around → Node → List Node
part_statements enums span part around list = declarations part around ++ calls enums span part around list
