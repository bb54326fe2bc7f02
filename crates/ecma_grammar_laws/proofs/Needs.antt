-- What each form has to be given so that what it makes meets an ask, and whether a grammar keeps what is asked.
use Rattle.std.proofs.Common.{ℕ, ◌+◌, max, Bool, true, false, ◌&&◌, ◌||◌, List, [], ◌∷◌, map, drop, take, length, None, ◌-◌}
use Rattle.ecma_kind.specs.Sorts.{belongs}
use Rattle.ecma_kind.specs.declared.kind.Kind.{Kind}
use Rattle.ecma_kind.specs.declared.kind.Kind.TheVariants as kind
use Rattle.ecma_kind.specs.declared.shapes.Count.TheVariants.{MaybeMany}
use Rattle.ecma_kind.specs.declared.shapes.Sort.{Sort}
use Rattle.ecma_kind.specs.declared.shapes.Sort.TheVariants as sort
use Rattle.ecma_grammar.specs.declared.production.Part.{Part}
use Rattle.ecma_grammar.specs.declared.production.Part.TheVariants as part
use Rattle.ecma_grammar.specs.declared.production.Leaf.{Leaf}
use Rattle.ecma_grammar.specs.declared.production.Leaf.TheVariants as leaf
use Rattle.ecma_grammar.specs.declared.production.Flag.{Flag}
use Rattle.ecma_grammar.specs.declared.production.Flag.TheVariants as flag
use Rattle.ecma_grammar.specs.declared.production.Plain.{Plain}
use Rattle.ecma_grammar.specs.declared.production.Plain.TheVariants as plain
use Rattle.ecma_grammar.specs.declared.production.Form.{Form}
use Rattle.ecma_grammar.specs.declared.production.Form.TheVariants as form
use Rattle.ecma_grammar.specs.trees.Plain.{plain_kind}
use Rattle.ecma_grammar.specs.Grammar as grammar
use Rattle.ecma_grammar.specs.Grammar.{Grammar}
use Rattle.ecma_grammar_laws.specs.RawSorts.{RawSort, RawShape, allows_raw, field_shapes_raw, item_shape, shape_of, sorted, parameter, one, maybe, many}
use Rattle.ecma_grammar_laws.proofs.Asks.{Chained, expressions, patterns, entities, sort_of, Ask, any, shape, pattern, key, behind, link, optional_link, head, head_start, head_rest, template_item, expression, is_annotated, Asked, whatever, never, these, these_or_none, maybe_and, each, first_and_each, some_and_last, fits, shape_fits, all_given, first_part, second_part, of_many, none_asked, is_one, of_one}

abbrev pub a : Sort → Ask
a s = shape (one (sorted s))

abbrev pub maybe_a : Sort → Ask
maybe_a s = shape (maybe (sorted s))

abbrev pub many_of : Sort → Ask
many_of s = shape (many (sorted s))

abbrev pub if_so : Bool → Asked → Asked
if_so true asked = asked
if_so false asked = never

-- nodes of a kind

abbrev pub shapes : Kind → List RawShape
shapes k = field_shapes_raw k 2

abbrev pub children : Kind → Asked
children k = these (map shape (shapes k))

abbrev pub without_last : List RawShape → List RawShape
without_last ss = take (length ss - 1) ss

-- the first child stands in front, and is put there later
abbrev pub without_first : List RawShape → Asked
without_first ss = these (any ∷ map shape (drop 1 ss))

abbrev pub first_takes : Chained → List RawShape → Bool
first_takes c [] = false
first_takes c (s ∷ ss) = shape_fits (one (sorted (sort_of c))) s

abbrev pub is_link : Kind → Bool
is_link kind.MemberExpr = true
is_link kind.CallExpr = true
is_link kind.TaggedTpl = true
is_link kind.TsNonNullExpr = true
is_link kind.TsInstantiation = true
is_link _ = false

abbrev pub is_optional : Kind → Bool
is_optional (kind.OptChainExpr _) = true
is_optional _ = false

abbrev pub is_loop : Kind → Bool
is_loop kind.ForStmt = true
is_loop kind.ForInStmt = true
is_loop (kind.ForOfStmt _) = true
is_loop _ = false

abbrev pub link_needs : Kind → Bool → Asked
link_needs k true = these (optional_link ∷ [])
link_needs k false = if_so (is_link k) (without_first (shapes k))

abbrev pub kind_needs : Kind → Ask → Asked
kind_needs k any = whatever
kind_needs k (shape s) = if_so (allows_raw s k) (children k)
kind_needs k pattern = if_so (is_annotated k) (children k)
kind_needs k key = if_so (belongs sort.PropName k) (children k)
kind_needs k (behind c) = if_so (belongs (sort_of c) k && first_takes c (shapes k)) (without_first (shapes k))
kind_needs k link = link_needs k (is_optional k)
kind_needs k optional_link = if_so (belongs sort.OptChainBase k) (without_first (shapes k))
kind_needs k head = if_so (is_loop k) (these (map shape (without_last (shapes k))))
kind_needs k head_start = if_so (belongs sort.VarDeclOrExpr k && belongs sort.ForHead k) (children k)
kind_needs k head_rest = if_so (is_loop k) (without_first (without_last (shapes k)))
kind_needs k template_item = never

-- sequences have as many children as they like, and have a form of their own
abbrev pub node_needs : Plain → Ask → Asked
node_needs plain.SeqExpr q = never
node_needs p q = kind_needs (plain_kind p) q

abbrev pub is_empty : List RawShape → Bool
is_empty [] = true
is_empty (s ∷ ss) = false

-- kinds that hold types, and nothing of their own
abbrev pub is_type : Kind → Bool
is_type kind.TsType = true
is_type kind.TsTypeParamDecl = true
is_type kind.TsTypeParamInstantiation = true
is_type _ = false

-- kinds that hold types behind a name
abbrev pub is_declared_type : Kind → Bool
is_declared_type (kind.TsInterfaceDecl declare) = true
is_declared_type (kind.TsTypeAliasDecl declare) = true
is_declared_type _ = false

abbrev pub bare_kind_needs : Kind → Ask → Asked
bare_kind_needs k any = if_so (is_type k) whatever
bare_kind_needs k (shape s) = if_so (is_type k && (allows_raw s k && is_empty (shapes k))) whatever
bare_kind_needs k _ = never

abbrev pub bare_needs : Plain → Ask → Asked
bare_needs plain.SeqExpr q = never
bare_needs p q = bare_kind_needs (plain_kind p) q

abbrev pub first_of : List RawShape → Asked
first_of (s ∷ []) = first_and_each (shape s) any
first_of _ = never

abbrev pub first_kind_needs : Kind → Ask → Asked
first_kind_needs k any = if_so (is_declared_type k) whatever
first_kind_needs k (shape s) = if_so (is_declared_type k && allows_raw s k) (first_of (shapes k))
first_kind_needs k _ = never

abbrev pub first_needs : Plain → Ask → Asked
first_needs plain.SeqExpr q = never
first_needs p q = first_kind_needs (plain_kind p) q

abbrev pub swapped_asked : Asked → Asked
swapped_asked (these (p ∷ q ∷ [])) = these (q ∷ p ∷ [])
swapped_asked (these (p ∷ q ∷ r ∷ [])) = these (p ∷ r ∷ q ∷ [])
swapped_asked _ = never

-- lists

abbrev pub list_needs : Ask → Asked
list_needs any = whatever
list_needs (shape s) = if_so (allows_raw s kind.List) (each (shape (item_shape s)))
list_needs _ = never

-- chains

abbrev pub chain_in : RawSort → Chained
chain_in (sorted sort.Pat) = patterns
chain_in (sorted sort.TsEntityName) = entities
chain_in (sorted sort.TsModuleRef) = entities
chain_in (sorted _) = expressions
chain_in _ = patterns

abbrev pub chain_for : Ask → Chained
chain_for (shape s) = chain_in s.sort
chain_for _ = expressions

abbrev pub chain_needs : Chained → Ask → Asked
chain_needs c head = these (head_start ∷ head_rest ∷ [])
chain_needs c q = if_so (fits (a (sort_of c)) q) (first_and_each (a (sort_of c)) (behind c))

-- functions and classes

abbrev pub signature : List Ask
signature = maybe_a sort.TsTypeParamDecl ∷ shape (many parameter) ∷ maybe_a sort.TsTypeAnn ∷ maybe_a sort.BlockStmt ∷ []

abbrev pub function_parts : Ask → List Ask
function_parts name = any ∷ any ∷ name ∷ signature

abbrev pub function_needs : Plain → Ask → Asked
function_needs plain.FnExpr q = if_so (fits (a sort.Expr) q || fits (a sort.DefaultDecl) q) (these (function_parts (maybe_a sort.Ident)))
function_needs plain.FnDecl q = if_so (fits (a sort.Decl) q) (these (function_parts (a sort.Ident)))
function_needs plain.MethodProp q = if_so (fits (a sort.PropOrSpread) q) (these (function_parts (a sort.PropName)))
function_needs p q = never

abbrev pub class_parts : Ask → List Ask
class_parts name =
    name ∷ maybe_a sort.TsTypeParamDecl ∷ maybe_a sort.Expr ∷ maybe_a sort.TsTypeParamInstantiation ∷ many_of sort.TsType ∷ many_of sort.ClassMember ∷ []

abbrev pub class_needs : Plain → Ask → Asked
class_needs plain.ClassExpr q = if_so (fits (a sort.Expr) q || fits (a sort.DefaultDecl) q) (these (class_parts (maybe_a sort.Ident)))
class_needs plain.ClassDecl q = if_so (fits (a sort.Decl) q) (these (class_parts (a sort.Ident)))
class_needs p q = never

abbrev pub construction_parts : List Ask
construction_parts = a sort.Expr ∷ maybe_a sort.TsTypeParamInstantiation ∷ shape (shape_of MaybeMany (sorted sort.ExprOrSpread)) ∷ []

-- what other forms are given

abbrev pub arrow_parts : List Ask
arrow_parts = any ∷ maybe_a sort.TsTypeParamDecl ∷ shape (many parameter) ∷ maybe_a sort.TsTypeAnn ∷ a sort.BlockStmtOrExpr ∷ []

abbrev pub yield_parts : List Ask
yield_parts = any ∷ maybe_a sort.Expr ∷ []

abbrev pub annotated_parts : List Ask
annotated_parts = pattern ∷ any ∷ maybe_a sort.TsTypeAnn ∷ []

abbrev pub declarator_parts : List Ask
declarator_parts = pattern ∷ any ∷ maybe_a sort.TsTypeAnn ∷ maybe_a sort.Expr ∷ []

-- modifiers are names in a list, or none
abbrev pub modifier_list : Ask
modifier_list = shape (shape_of MaybeMany (sorted sort.PropName))

abbrev pub parameter_parts : List Ask
parameter_parts = modifier_list ∷ a sort.Pat ∷ []

abbrev pub accessor_parts : List Ask
accessor_parts = a sort.PropName ∷ signature

abbrev pub method_parts : List Ask
method_parts = any ∷ any ∷ key ∷ any ∷ any ∷ signature

abbrev pub field_parts : List Ask
field_parts = key ∷ any ∷ any ∷ maybe_a sort.TsTypeAnn ∷ maybe_a sort.Expr ∷ []

abbrev pub modified_parts : List Ask
modified_parts = modifier_list ∷ a sort.ClassMember ∷ []

abbrev pub signature_parts : List Ask
signature_parts = modifier_list ∷ any ∷ any ∷ []

-- a signature inside a type has no sort
abbrev pub type_signature_parts : List Ask
type_signature_parts = any ∷ shape (many parameter) ∷ []

abbrev pub type_signature_needs : Ask → Asked
type_signature_needs any = these type_signature_parts
type_signature_needs q = never

abbrev pub headed_parts : List Ask
headed_parts = head ∷ a sort.Stmt ∷ []

abbrev pub declared_parts : List Ask
declared_parts = a sort.Decl ∷ []

abbrev pub import_equals_parts : List Ask
import_equals_parts = any ∷ any ∷ a sort.Ident ∷ a sort.TsModuleRef ∷ []

abbrev pub module_parts : List Ask
module_parts = any ∷ many_of sort.ModuleItem ∷ []

-- what a form has to be given, where what it makes has to meet an ask
abbrev pub needs : Form → Ask → Asked
needs (form.Node p) q = node_needs p q
needs (form.Bare p) q = bare_needs p q
needs (form.First p) q = first_needs p q
needs (form.Swapped p) q = swapped_asked (node_needs p q)
needs form.List q = list_needs q
needs form.Elements q = list_needs q
needs form.Sequence q = if_so (fits expression q) (first_and_each expression expression)
needs form.Chain q = chain_needs (chain_for q) q
needs form.Links q = if_so (fits expression q) (first_and_each expression link)
needs form.Logical q = if_so (fits expression q) (first_and_each expression (behind expressions))
needs form.Template q = if_so (fits expression q || fits (a sort.Tpl) q) (each template_item)
needs form.Arrow q = if_so (fits expression q) (these arrow_parts)
needs form.Yield q = if_so (fits expression q) (these yield_parts)
needs form.New q = if_so (fits expression q) (these_or_none construction_parts)
needs form.Assertion q = if_so (fits expression q) (maybe_and (a sort.TsType) expression)
needs form.Annotated q = if_so (fits (a sort.Pat) q) (these annotated_parts)
needs form.Declarator q = if_so (fits (a sort.VarDeclarator) q) (these declarator_parts)
needs form.Param q = if_so (fits (shape (one parameter)) q) (these parameter_parts)
needs (form.Function p) q = function_needs p q
needs form.Getter q = if_so (fits (a sort.PropOrSpread) q) (these accessor_parts)
needs form.Setter q = if_so (fits (a sort.PropOrSpread) q) (these accessor_parts)
needs (form.Class p is_abstract) q = class_needs p q
needs (form.Method k) q = if_so (fits (a sort.ClassMember) q) (these method_parts)
needs form.Field q = if_so (fits (a sort.ClassMember) q) (these field_parts)
needs form.Modified q = if_so (fits (a sort.ClassMember) q) (these modified_parts)
needs form.IndexSignature q = if_so (fits (a sort.ClassMember) q) (these signature_parts)
needs (form.Signature k) q = type_signature_needs q
needs form.NewSignature q = type_signature_needs q
needs form.Headed q = if_so (fits (a sort.Stmt) q) (these headed_parts)
needs form.Declared q = if_so (fits (a sort.Decl) q) (these declared_parts)
needs form.Namespace q = if_so (fits (a sort.Decl) q) (some_and_last (a sort.Ident) (a sort.TsNamespaceBody))
needs form.ImportEquals q = if_so (fits (a sort.ModuleItem) q) (these import_equals_parts)
needs form.Module q = if_so (fits (a sort.Module) q) (these module_parts)

-- what a part keeps
abbrev pub part_keeps : Part → Asked
part_keeps part.Statement = these (a sort.Stmt ∷ [])
part_keeps part.NamespaceBody = these (a sort.TsNamespaceBody ∷ [])
part_keeps part.Declared = these (a sort.Decl ∷ [])
part_keeps (part.Assign no_in middle) = these (expression ∷ [])
part_keeps part.Pattern = these (pattern ∷ [])
part_keeps part.«Type» = whatever
part_keeps part.TypeOperator = whatever
part_keeps part.ArraySuffix = whatever
part_keeps part.Operand = these (expression ∷ [])
part_keeps part.Assertion = maybe_and (a sort.TsType) expression
part_keeps part.New = these_or_none construction_parts
part_keeps part.Power = each (behind expressions)
part_keeps (part.Class true) = these (class_parts (a sort.Ident))
part_keeps (part.Class false) = these (class_parts (maybe_a sort.Ident))
part_keeps (part.Link l) = each link
part_keeps (part.NewLink l) = each link
part_keeps (part.Binary op no_in) = each (behind expressions)
part_keeps (part.As no_in) = each (behind expressions)
part_keeps (part.Satisfies no_in) = each (behind expressions)
part_keeps part.DottedName = each (a sort.Ident)
part_keeps part.DottedKey = each (behind entities)

-- a kind as a token of a leaf makes it, up to its data
abbrev pub leaf_kind : Leaf → Kind
leaf_kind leaf.Ident = kind.Ident [] 0 false
leaf_kind leaf.KeyIdent = kind.Ident [] 0 false
leaf_kind leaf.ThisIdent = kind.Ident [] 0 false
leaf_kind leaf.IdentName = kind.IdentName []
leaf_kind leaf.PrivateName = kind.PrivateName []
leaf_kind leaf.Str = kind.Str [] None
leaf_kind leaf.Number = kind.Number None None
leaf_kind leaf.BigInt = kind.BigInt [] None
leaf_kind leaf.Regex = kind.Regex [] []
leaf_kind (leaf.TplElement wanted) = kind.TplElement [] None false
leaf_kind leaf.This = kind.ThisExpr
leaf_kind leaf.Null = kind.Null
leaf_kind leaf.True = kind.Bool true
leaf_kind leaf.False = kind.Bool false
leaf_kind leaf.Super = kind.Super
leaf_kind leaf.Import = kind.Import
leaf_kind leaf.Hashbang = kind.IdentName []

abbrev pub leaf_meets : Kind → Ask → Bool
leaf_meets k any = true
leaf_meets k (shape s) = allows_raw s k
leaf_meets k key = belongs sort.PropName k || belongs sort.PrivateName k
leaf_meets k template_item = belongs sort.TplElement k
leaf_meets k _ = false

abbrev pub flag_meets : Flag → Ask → Bool
flag_meets f any = true
flag_meets flag.Absent (shape s) = allows_raw s kind.Absent
flag_meets _ _ = false

-- how many nodes are kept, at most
abbrev pub asked_width : Asked → ℕ
asked_width (these qs) = length qs
asked_width (these_or_none qs) = length qs
asked_width _ = 1

abbrev pub width : Grammar → ℕ
width (grammar.keep l) = 1
width (grammar.put f) = 1
width (grammar.◌▸◌ g h) = width g + width h
width (grammar.◌//◌ g h) = max (width g) (width h)
width (grammar.marked g) = width g
width (grammar.assigned g) = width g
width (grammar.up u) = asked_width (part_keeps u)
width (grammar.enter u) = asked_width (part_keeps u)
width (grammar.behind t u) = asked_width (part_keeps u)
width (grammar.build f g) = 1
width _ = 0

-- whether what a grammar keeps is as asked
abbrev pub keeps : Grammar → Asked → Bool
keeps (grammar.keep l) q = is_one q && leaf_meets (leaf_kind l) (of_one q)
keeps (grammar.put f) q = is_one q && flag_meets f (of_one q)
keeps (grammar.◌▸◌ g h) q = keeps g (first_part (width g) q) && keeps h (second_part (width g) q)
keeps (grammar.◌//◌ g h) q = keeps g q && keeps h q
keeps (grammar.many g) q = keeps g (of_many q) && none_asked q
keeps (grammar.unless grammar.nothing) q = true
keeps (grammar.marked g) q = keeps g q
keeps (grammar.assigned g) q = keeps g q
keeps (grammar.up u) q = all_given (part_keeps u) q
keeps (grammar.enter u) q = all_given (part_keeps u) q
keeps (grammar.behind t u) q = all_given (part_keeps u) q
keeps (grammar.build f g) q = is_one q && keeps g (needs f (of_one q))
keeps _ q = none_asked q
