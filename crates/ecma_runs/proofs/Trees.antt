-- Trees that stand in no text, to state facts about runs with; and what they mean, by computing.
use Rattle.std.proofs.Common.{◌≡◌, refl, ap, ap₂, ◌∙◌, ℕ, pos, ◌&&◌, not, Bool, true, false, List, [], ◌∷◌, map, Some, None, codes}
use Rattle.ecma_number.specs.declared.js_number.JsNumber.TheVariants.{Whole}
use Rattle.ecma_kind.specs.declared.kind.Kind.{Kind}
use Rattle.ecma_kind.specs.declared.kind.Kind.TheVariants as kind
use Rattle.ecma_kind.specs.declared.operators.AssignOp.TheVariants.{Assign}
use Rattle.ecma_kind.specs.declared.operators.BinaryOp.{BinaryOp}
use Rattle.ecma_kind.specs.declared.operators.MemberModifiers.{MemberModifiers}
use Rattle.ecma_kind.specs.declared.operators.MethodKind.{MethodKind}
use Rattle.ecma_kind.specs.declared.operators.UnaryOp.{UnaryOp}
use Rattle.ecma_kind.specs.declared.operators.VarDeclKind.{VarDeclKind}
use Rattle.ecma_tree.specs.declared.node.Node.{Node}
use Rattle.ecma_tree.specs.Nodes.{node_of}
use Rattle.ecma_runs.specs.Meaning.{Meaning}
use Rattle.ecma_runs.specs.Evaluation.{meaning_by, meaning}
use Rattle.ecma_runs.specs.Enums.{is_enum}
use Rattle.ecma_runs.proofs.Layer.{meaning-roll}
use Rattle.ecma_runs.proofs.Kept.{AllNodes}
use Rattle.ecma_runs.proofs.EnumTrees.{Lacks, lacks_layer}

-- trees beside one another, each a kind and what stands below it: these compute, as nodes do not
pub data Trees : Type 0 where
  End : Trees
  Tree : Kind → Trees → Trees → Trees

-- a tree before others
infixr 30 ◌▸◌
abbrev pub ◌▸◌ : (Trees → Trees) → Trees → Trees
(t ▸ ts) = t ts

abbrev pub tree : Kind → Trees → Trees → Trees
tree k below beside = Tree k below beside

abbrev pub absent : Trees → Trees
absent = tree kind.Absent End

abbrev pub list : Trees → Trees → Trees
list = tree kind.List

-- names and keys

abbrev pub ident : List ℕ → Trees → Trees
ident sym = tree (kind.Ident sym 0 false) End

abbrev pub key : List ℕ → Trees → Trees
key sym = tree (kind.IdentName sym) End

abbrev pub computed : (Trees → Trees) → Trees → Trees
computed e = tree kind.ComputedPropName (e ▸ End)

abbrev pub binding : List ℕ → Trees → Trees
binding name = tree kind.BindingIdent (ident name ▸ absent ▸ End)

-- literals

abbrev pub whole : ℕ → Trees → Trees
whole n = tree (kind.Number (Some (Whole (pos n))) None) End

abbrev pub truth : Bool → Trees → Trees
truth b = tree (kind.Bool b) End

abbrev pub string : List ℕ → Trees → Trees
string text = tree (kind.Str text None) End

abbrev pub null : Trees → Trees
null = tree kind.Null End

abbrev pub type' : Trees → Trees
type' = tree kind.TsType End

-- expressions

abbrev pub this' : Trees → Trees
this' = tree kind.ThisExpr End

abbrev pub super' : Trees → Trees
super' = tree kind.Super End

abbrev pub member : (Trees → Trees) → List ℕ → Trees → Trees
member object name = tree kind.MemberExpr (object ▸ key name ▸ End)

abbrev pub super_member : List ℕ → Trees → Trees
super_member name = tree kind.SuperPropExpr (super' ▸ key name ▸ End)

abbrev pub call : (Trees → Trees) → Trees → Trees → Trees
call callee arguments = tree kind.CallExpr (callee ▸ list arguments ▸ absent ▸ End)

abbrev pub new' : (Trees → Trees) → Trees → Trees → Trees
new' callee arguments = tree kind.NewExpr (callee ▸ list arguments ▸ absent ▸ End)

abbrev pub assign : (Trees → Trees) → (Trees → Trees) → Trees → Trees
assign target e = tree (kind.AssignExpr Assign) (target ▸ e ▸ End)

abbrev pub unary : UnaryOp → (Trees → Trees) → Trees → Trees
unary op e = tree (kind.UnaryExpr op) (e ▸ End)

abbrev pub binary : BinaryOp → (Trees → Trees) → (Trees → Trees) → Trees → Trees
binary op left right = tree (kind.BinExpr op) (left ▸ right ▸ End)

abbrev pub parens : (Trees → Trees) → Trees → Trees
parens e = tree kind.ParenExpr (e ▸ End)

abbrev pub array : Trees → Trees → Trees
array elements = tree kind.ArrayLit (list elements ▸ End)

abbrev pub object : Trees → Trees → Trees
object properties = tree kind.ObjectLit (list properties ▸ End)

abbrev pub property : (Trees → Trees) → (Trees → Trees) → Trees → Trees
property name e = tree kind.KeyValueProp (name ▸ e ▸ End)

-- statements

abbrev pub statement : (Trees → Trees) → Trees → Trees
statement e = tree kind.ExprStmt (e ▸ End)

abbrev pub block : Trees → Trees → Trees
block body = tree kind.BlockStmt (list body ▸ End)

abbrev pub returns : (Trees → Trees) → Trees → Trees
returns e = tree kind.ReturnStmt (e ▸ End)

abbrev pub declare_pattern : VarDeclKind → (Trees → Trees) → (Trees → Trees) → Trees → Trees
declare_pattern word name init = tree (kind.VarDecl word false) (list (tree (kind.VarDeclarator false) (name ▸ init ▸ End) ▸ End) ▸ End)

abbrev pub declare : VarDeclKind → List ℕ → (Trees → Trees) → Trees → Trees
declare word name init = declare_pattern word (binding name) init

-- functions and classes

abbrev pub parameter : (Trees → Trees) → Trees → Trees
parameter pattern' = tree kind.Param (pattern' ▸ End)

abbrev pub function : Trees → Trees → Trees → Trees
function parameters body = tree (kind.Function false false) (list parameters ▸ block body ▸ absent ▸ absent ▸ End)

abbrev pub declare_function : List ℕ → Trees → Trees → Trees → Trees
declare_function name parameters body = tree (kind.FnDecl false) (ident name ▸ function parameters body ▸ End)

abbrev pub function_expression : (Trees → Trees) → Trees → Trees → Trees → Trees
function_expression name parameters body = tree kind.FnExpr (name ▸ function parameters body ▸ End)

abbrev pub arrow : Trees → (Trees → Trees) → Trees → Trees
arrow parameters body = tree (kind.ArrowExpr false false) (list parameters ▸ body ▸ absent ▸ absent ▸ End)

abbrev pub modifiers : Bool → MemberModifiers
modifiers is_static = record { accessibility = None; is_static = is_static; is_abstract = false; is_optional = false; is_override = false }

abbrev pub class_method : MethodKind → Bool → (Trees → Trees) → Trees → Trees → Trees → Trees
class_method sort is_static name parameters body = tree (kind.ClassMethod sort (modifiers is_static)) (name ▸ function parameters body ▸ End)

abbrev pub field : Bool → (Trees → Trees) → (Trees → Trees) → Trees → Trees
field is_static name e = tree (kind.ClassProp (modifiers is_static) false false false) (name ▸ e ▸ absent ▸ End)

abbrev pub constructor' : Trees → Trees → Trees → Trees
constructor' parameters body = tree (kind.Constructor None false) (key (codes "constructor") ▸ list parameters ▸ block body ▸ End)

abbrev pub class' : (Trees → Trees) → Trees → Trees → Trees
class' parent members = tree (kind.Class false) (parent ▸ list members ▸ absent ▸ absent ▸ list End ▸ End)

abbrev pub declare_class : List ℕ → (Trees → Trees) → Trees → Trees → Trees
declare_class name parent members = tree (kind.ClassDecl false) (ident name ▸ class' parent members ▸ End)

-- the nodes of trees

abbrev pub nodes : Trees → List Node
nodes End = []
nodes (Tree k below beside) = node_of (record { lo = 0; hi = 0 }) k (nodes below) ∷ nodes beside

unfoldable pub node : Kind → Trees → Node
node k below = node_of (record { lo = 0; hi = 0 }) k (nodes below)

abbrev pub module' : Trees → Node
module' body = node (kind.Module None) (list body ▸ End)

-- whether no enum stands in them

abbrev pub all_lack : Trees → Bool
all_lack End = true
all_lack (Tree k below beside) = not (is_enum k) && (all_lack below && all_lack beside)

split : (a b : Bool) → a && b ≡ true → (a ≡ true) × (b ≡ true)
split true b h = (refl, h)
split false b h = absurd (cc)

nodes_lack : (ts : Trees) → all_lack ts ≡ true → AllNodes Lacks (nodes ts)
nodes_lack End h = tt
nodes_lack (Tree k below beside) h =
    let t = split (not (is_enum k)) (all_lack below && all_lack beside) h in
    let u = split (all_lack below) (all_lack beside) t.1 in
    (lacks_layer (record { span = record { lo = 0; hi = 0 }; kind = k; children = nodes below }) t.0 (nodes_lack below u.0), nodes_lack beside u.1)

pub module_lacks : (body : Trees) → all_lack body ≡ true → Lacks (module' body)
unfolding node
module_lacks body h =
    lacks_layer (record { span = record { lo = 0; hi = 0 }; kind = kind.Module None; children = nodes (list body ▸ End) }) refl
    (lacks_layer (record { span = record { lo = 0; hi = 0 }; kind = kind.List; children = nodes body }) refl (nodes_lack body h), tt)

-- what they mean

abbrev pub meanings : Trees → List Meaning
meanings End = []
meanings (Tree k below beside) = meaning_by (node k below) k (meanings below) ∷ meanings beside

meanings_nodes : (ts : Trees) → map meaning (nodes ts) ≡ meanings ts
unfolding node
meanings_nodes End = refl
meanings_nodes (Tree k below beside) =
    ap₂ (λ m ms. m ∷ ms) (meaning-roll (record { span = record { lo = 0; hi = 0 }; kind = k; children = nodes below }) ∙ ap (meaning_by (node k below) k) (meanings_nodes below)) (meanings_nodes beside)

pub meaning_node : (k : Kind) (below : Trees) → meaning (node k below) ≡ meaning_by (node k below) k (meanings below)
unfolding node
meaning_node k below = meaning-roll (record { span = record { lo = 0; hi = 0 }; kind = k; children = nodes below }) ∙ ap (meaning_by (node k below) k) (meanings_nodes below)
