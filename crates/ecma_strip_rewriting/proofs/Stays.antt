-- What stays in a list, by a node's kind and children.
use Rattle.std.proofs.Common.{◌≡◌, ◌∙◌, Bool, true, false, ◌&&◌, not, cond, refl, ap, List, [], ◌∷◌, map, get_or, slice_get}
use Rattle.ecma_kind.specs.Sorts.{belongs}
use Rattle.ecma_kind.specs.declared.kind.Kind.{Kind}
use Rattle.ecma_kind.specs.declared.kind.Kind.TheVariants as kind
use Rattle.ecma_kind.specs.declared.span.Span.{Span}
use Rattle.ecma_kind.specs.declared.shapes.Sort.TheVariants as sort
use Rattle.ecma_tree.specs.Nodes.{node_of}
use Rattle.ecma_tree.specs.declared.node.Node.{Node, Node-F, out-Node}
use Rattle.ecma_tree.specs.declared.node.Node.TheViews.{out-roll-Node}
use Rattle.ecma_strip.specs.Staying.{if_there, is_declared, is_empty_stmt, is_export, is_this, is_this_by, is_this_ident, is_this_param, is_this_param_by, item_stays, member_stays_by, specifier_stays, stays}
use Rattle.ecma_tree.specs.Values.{is_value, value_by, values_in}
use Rattle.ecma_tree.proofs.Valuing.{is_value-out}

abbrev pub declares : List Node → Bool
declares cs = if_there (slice_get cs 0) (λ x. is_declared (out-Node x).kind)

abbrev pub member_by : Kind → List Node → Bool
member_by (kind.TsIndexSignature readonly is_static) cs = false
member_by (kind.Constructor accessibility is_optional) cs = get_or (map is_value cs) 2 false
member_by (kind.ClassMethod k modifiers) cs = not modifiers.is_abstract && get_or (map is_value cs) 1 false
member_by (kind.PrivateMethod k modifiers) cs = not modifiers.is_abstract && get_or (map is_value cs) 1 false
member_by (kind.ClassProp modifiers readonly declare definite) cs = not modifiers.is_abstract && not declare
member_by (kind.PrivateProp modifiers readonly declare definite) cs = not modifiers.is_abstract && not declare
member_by _ cs = true

member-parts : (k : Kind) (n : Node) → member_stays_by k n ≡ member_by k (out-Node n).children
unfolding member_stays_by
member-parts (kind.TsIndexSignature r t) n = refl
member-parts _ n = refl

abbrev pub item_by : Kind → List Node → Bool
item_by k cs = cond (is_empty_stmt k) true (cond (belongs sort.ModuleItem k) (value_by k (values_in true k cs) && not (cond (is_export k) (declares cs) (is_declared k))) true)

pub item-parts : (n : Node) → item_stays n ≡ item_by (out-Node n).kind (out-Node n).children
item-parts n =
    ap (λ v. cond (is_empty_stmt (out-Node n).kind) true (cond (belongs sort.ModuleItem (out-Node n).kind) (v && not (cond (is_export (out-Node n).kind) (declares (out-Node n).children) (is_declared (out-Node n).kind))) true))
    (is_value-out n)

abbrev pub binding_by : Kind → List Node → Bool
binding_by kind.BindingIdent cs = if_there (slice_get cs 0) (λ x. is_this_ident (out-Node x).kind)
binding_by _ cs = false

abbrev pub this_by : Kind → List Node → Bool
this_by kind.Param cs = if_there (slice_get cs 0) is_this
this_by k cs = binding_by k cs

pub binding-parts : (k : Kind) (n : Node) → is_this_by k n ≡ binding_by k (out-Node n).children
binding-parts kind.BindingIdent n = refl
binding-parts _ n = refl

this-by : (k : Kind) (n : Node) → (out-Node n).kind ≡ k → is_this_param_by k n ≡ this_by k (out-Node n).children
this-by kind.Param n e = refl
this-by k n e = ap (λ z. is_this_by z n) e ∙ binding-parts k n

this-parts : (n : Node) → is_this_param n ≡ this_by (out-Node n).kind (out-Node n).children
this-parts n = this-by (out-Node n).kind n refl

abbrev pub stays_by : Kind → List Node → Bool
stays_by k cs = item_by k cs && member_by k cs && specifier_stays k && not (this_by k cs)

pub stays-out : (n : Node) → stays n ≡ stays_by (out-Node n).kind (out-Node n).children
unfolding stays
stays-out n =
    let item = item-parts n in
    let member = member-parts (out-Node n).kind n in
    let this = this-parts n in
    λ j. item j && member j && specifier_stays (out-Node n).kind && not (this j)

pub stays-roll : (span : Span) (k : Kind) (cs : List Node) → stays (node_of span k cs) ≡ stays_by k cs
stays-roll span k cs =
    let parts : Node-F Node = record { span = span; kind = k; children = cs } in
    stays-out (node_of span k cs) ∙ ap (λ (z : Node-F Node). stays_by z.kind z.children) (out-roll-Node parts)

pub item-roll : (span : Span) (k : Kind) (cs : List Node) → item_stays (node_of span k cs) ≡ item_by k cs
item-roll span k cs =
    let parts : Node-F Node = record { span = span; kind = k; children = cs } in
    item-parts (node_of span k cs) ∙ ap (λ (z : Node-F Node). item_by z.kind z.children) (out-roll-Node parts)

pub kind-roll : (span : Span) (k : Kind) (cs : List Node) → (out-Node (node_of span k cs)).kind ≡ k
kind-roll span k cs = let parts : Node-F Node = record { span = span; kind = k; children = cs } in ap (λ (z : Node-F Node). z.kind) (out-roll-Node parts)

-- what stays whatever its children are
pub expression-stays : (span : Span) (e : Node) → stays (node_of span kind.ExprStmt (e ∷ [])) ≡ true
unfolding value_by is_declared specifier_stays
expression-stays span e = stays-roll span kind.ExprStmt (e ∷ [])
