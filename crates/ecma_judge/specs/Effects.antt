-- Whether to evaluate a node may have effects.
use Rattle.std.specs.Prelude.{ℕ, Bool, true, false, ◌&&◌, ◌||◌, ◌==◌, not, List, [], ◌∷◌, bytes_eq, codes}
use Rattle.std.specs.List.{list_any}
use Rattle.ecma_kind.specs.declared.kind.Kind.{Kind}
use Rattle.ecma_kind.specs.declared.kind.Kind.TheVariants as kind
use Rattle.ecma_kind.specs.declared.operators.MemberModifiers.{MemberModifiers}
use Rattle.ecma_kind.specs.declared.operators.MethodKind.{MethodKind}
use Rattle.ecma_kind.specs.declared.operators.MethodKind.TheVariants.{Getter, Setter}
use Rattle.ecma_kind.specs.declared.operators.UnaryOp.{UnaryOp}
use Rattle.ecma_kind.specs.declared.operators.UnaryOp.TheVariants.{Delete}
use Rattle.ecma_tree.specs.declared.node.Node.{Node, out-Node}
use Rattle.ecma_judge.specs.declared.ctx.ExprCtx.{ExprCtx}
use Rattle.ecma_judge.specs.Contexts.{is_among}
use Rattle.ecma_judge.specs.Judgement.{Judged, any_has_effects, kid}
use Rattle.ecma_judge.specs.Parts.{has_kind, is_empty_block, is_optional_call, is_there, passes_at}
use Rattle.ecma_judge.specs.PureCallees.{is_pure_callee}

-- ---- names

-- global names that each host has
abbrev pub safe_names : List (List ℕ)
safe_names =
    codes "Infinity" ∷ codes "NaN" ∷ codes "Math" ∷ codes "undefined" ∷ codes "Object" ∷ codes "Array" ∷ codes "Promise" ∷ codes "Boolean"
    ∷ codes "Number" ∷ codes "String" ∷ codes "BigInt" ∷ codes "Error" ∷ codes "RegExp" ∷ codes "Function" ∷ codes "document" ∷ []

abbrev pub is_safe_name : List ℕ → Bool
is_safe_name sym = is_among sym safe_names

-- a global name that there may not be: to read it may throw, or run a getter of the host
abbrev pub name_has_effects : ExprCtx → List ℕ → ℕ → Bool
name_has_effects ctx sym ctxt = not ctx.is_unresolved_ref_safe && ctxt == ctx.unresolved_ctxt && not (is_safe_name sym)

-- ---- members of what is made where it is read

abbrev pub is_accessor_kind : MethodKind → Bool
is_accessor_kind Getter = true
is_accessor_kind Setter = true
is_accessor_kind _ = false

abbrev pub is_static_accessor_by : MethodKind → MemberModifiers → Bool
is_static_accessor_by word modifiers = modifiers.is_static && is_accessor_kind word

--   static get a() { .. }
abbrev pub is_static_accessor : Kind → Bool
is_static_accessor (kind.ClassMethod word modifiers) = is_static_accessor_by word modifiers
is_static_accessor (kind.PrivateMethod word modifiers) = is_static_accessor_by word modifiers
is_static_accessor _ = false

abbrev pub has_static_accessor : Node → Bool
has_static_accessor members = list_any (has_kind is_static_accessor) (out-Node members).children

-- a class with a heritage, or with a static accessor
abbrev pub class_may_call : Node → Bool
class_may_call class = passes_at is_there 0 class || passes_at has_static_accessor 1 class

abbrev pub is_proto : List ℕ → Bool
is_proto text = bytes_eq text (codes "__proto__")

--   __proto__:
--   [k]:
abbrev pub is_open_key : Kind → Bool
is_open_key (kind.IdentName sym) = is_proto sym
is_open_key (kind.Str value raw) = is_proto value
is_open_key kind.ComputedPropName = true
is_open_key _ = false

-- a spread, an accessor, a method, a property whose key is `__proto__` or in brackets
unfoldable pub property_may_call_by : Kind → Node → Bool
property_may_call_by kind.SpreadElement n = true
property_may_call_by kind.GetterProp n = true
property_may_call_by kind.SetterProp n = true
property_may_call_by kind.MethodProp n = true
property_may_call_by (kind.Ident sym ctxt optional) n = is_proto sym
property_may_call_by kind.KeyValueProp n = passes_at (has_kind is_open_key) 0 n
property_may_call_by _ n = false

abbrev pub property_may_call : Node → Bool
property_may_call n = property_may_call_by (out-Node n).kind n

abbrev pub properties_may_call : Node → Bool
properties_may_call properties = list_any property_may_call (out-Node properties).children

-- to read a member of it may call something, or is not told
abbrev pub reading_may_call_by : Kind → Node → Bool
reading_may_call_by kind.ObjectLit object = passes_at properties_may_call 0 object
reading_may_call_by kind.ClassExpr object = passes_at class_may_call 1 object
reading_may_call_by kind.FnExpr object = false
reading_may_call_by (kind.ArrowExpr is_async is_generator) object = false
reading_may_call_by _ object = true

-- a read of its members calls nothing
abbrev pub reads_plainly : Node → Bool
reads_plainly object = not (reading_may_call_by (out-Node object).kind object)

-- ---- the table

abbrev pub is_delete : UnaryOp → Bool
is_delete Delete = true
is_delete _ = false

abbrev pub first_two_have_effects : List Judged → Bool
first_two_have_effects kids = (kid kids 0).effects || (kid kids 1).effects

-- what stands in classes and objects, and lists
unfoldable pub part_effects_by : Kind → Node → List Judged → Bool
part_effects_by kind.Absent n kids = false
part_effects_by kind.List n kids = any_has_effects kids
part_effects_by (kind.IdentName sym) n kids = false
part_effects_by kind.ComputedPropName n kids = (kid kids 0).effects
part_effects_by kind.KeyValueProp n kids = first_two_have_effects kids
part_effects_by kind.GetterProp n kids = (kid kids 0).effects
part_effects_by kind.SetterProp n kids = (kid kids 0).effects
part_effects_by kind.MethodProp n kids = (kid kids 0).effects
part_effects_by (kind.Class is_abstract) n kids = first_two_have_effects kids
part_effects_by (kind.Constructor accessibility is_optional) n kids = false
part_effects_by (kind.ClassMethod word modifiers) n kids = (kid kids 0).effects
part_effects_by (kind.PrivateMethod word modifiers) n kids = (kid kids 0).effects
part_effects_by (kind.ClassProp modifiers readonly declare definite) n kids = first_two_have_effects kids
part_effects_by (kind.PrivateProp modifiers readonly declare definite) n kids = first_two_have_effects kids
part_effects_by kind.StaticBlock n kids = not (passes_at is_empty_block 0 n)
part_effects_by (kind.TsIndexSignature readonly is_static) n kids = false
part_effects_by kind.EmptyStmt n kids = false
part_effects_by _ n kids = true

-- what is read in calls and members
unfoldable pub access_effects_by : Kind → Node → List Judged → Bool
access_effects_by kind.MemberExpr n kids = not (passes_at reads_plainly 0 n) || first_two_have_effects kids
access_effects_by kind.CallExpr n kids = not (kid kids 0).pure_callee || (kid kids 1).effects
access_effects_by kind.OptCall n kids = not (kid kids 0).pure_callee || (kid kids 1).effects
access_effects_by (kind.OptChainExpr optional) n kids = not (passes_at (has_kind is_optional_call) 0 n) || (kid kids 0).effects
access_effects_by k n kids = part_effects_by k n kids

-- expressions
unfoldable pub effects_by : ExprCtx → Kind → Node → List Judged → Bool
effects_by ctx (kind.Ident sym ctxt optional) n kids = name_has_effects ctx sym ctxt
effects_by ctx (kind.Str value raw) n kids = false
effects_by ctx (kind.Bool value) n kids = false
effects_by ctx kind.Null n kids = false
effects_by ctx (kind.Number value raw) n kids = false
effects_by ctx (kind.BigInt value raw) n kids = false
effects_by ctx (kind.Regex exp flags) n kids = false
effects_by ctx kind.ThisExpr n kids = false
effects_by ctx (kind.PrivateName name) n kids = false
effects_by ctx kind.FnExpr n kids = false
effects_by ctx (kind.ArrowExpr is_async is_generator) n kids = false
effects_by ctx kind.ParenExpr n kids = (kid kids 0).effects
effects_by ctx kind.TsTypeAssertion n kids = (kid kids 0).effects
effects_by ctx kind.TsConstAssertion n kids = (kid kids 0).effects
effects_by ctx kind.TsNonNullExpr n kids = (kid kids 0).effects
effects_by ctx kind.TsAsExpr n kids = (kid kids 0).effects
effects_by ctx kind.TsInstantiation n kids = (kid kids 0).effects
effects_by ctx kind.TsSatisfiesExpr n kids = (kid kids 0).effects
effects_by ctx (kind.UnaryExpr op) n kids = is_delete op || (kid kids 0).effects
effects_by ctx (kind.BinExpr op) n kids = any_has_effects kids
effects_by ctx kind.CondExpr n kids = any_has_effects kids
effects_by ctx kind.SeqExpr n kids = any_has_effects kids
effects_by ctx kind.ClassExpr n kids = (kid kids 1).effects
effects_by ctx kind.ArrayLit n kids = (kid kids 0).effects
effects_by ctx kind.ObjectLit n kids = (kid kids 0).effects
effects_by ctx k n kids = access_effects_by k n kids

-- a callee whose call has no effects of its own has none itself
abbrev pub has_effects : ExprCtx → Node → List Judged → Bool
has_effects ctx n kids = not (is_pure_callee ctx n) && effects_by ctx (out-Node n).kind n kids
