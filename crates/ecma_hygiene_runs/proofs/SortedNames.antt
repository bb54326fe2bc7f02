-- In a sorted tree the names in patterns are names.
use Rattle.std.proofs.Common.{◌≡◌, refl, sym, ap, ◌∙◌, subst, ℕ, suc, List, [], ◌∷◌, map, length, Bool, true, ◌&&◌}
use Rattle.ecma_kind.specs.Sorts.{belongs}
use Rattle.ecma_kind.specs.declared.kind.Kind.{Kind}
use Rattle.ecma_kind.specs.declared.kind.Kind.TheVariants as kind
use Rattle.ecma_kind.specs.declared.shapes.Shape.{Shape}
use Rattle.ecma_kind.specs.declared.shapes.Sort.TheVariants as sort
use Rattle.ecma_tree.specs.declared.node.Node.{Node, Node-F, ind-Node, out-Node, roll-Node}
use Rattle.ecma_tree.specs.declared.node.Node.TheViews.{out-roll-Node, roll-out-Node}
use Rattle.ecma_tree.specs.Laws.{HaveShapes}
use Rattle.ecma_tree.specs.Sorted.{HasShape, allows, child_shapes, one}
use Rattle.ecma_tree.proofs.Layers.{from_leaves-roll}
use Rattle.ecma_tree.proofs.ShapeLaws.{node_has_shape}
use Rattle.ecma_scope.specs.declared.role.Role.{Role}
use Rattle.ecma_scope.specs.Resolved.{is_name}
use Rattle.ecma_scope.specs.Scopes.{is_there, role_by}
use Rattle.ecma_hygiene.proofs.Telling.{and-both, and-left, and-right}
use Rattle.ecma_hygiene_runs.specs.WrittenOut.{identifier_by, leaf_text}
use Rattle.ecma_hygiene_runs.specs.FinalTexts.{all_named, has_name, has_text, is_named_at, is_outer, is_text}
use Rattle.ecma_hygiene_runs.specs.OuterNames.{has_outer_names_at, outer_step}
use Rattle.ecma_hygiene_runs.proofs.Parts.{named-roll}

-- the parts of a node with a shape

pub shape_out : (shape : Shape) (n : Node) → HasShape shape n → (allows shape (out-Node n).kind ≡ true) × HaveShapes (child_shapes (out-Node n).kind shape (length (out-Node n).children)) (out-Node n).children
shape_out shape n h = (node_has_shape (out-Node n).span (out-Node n).kind (out-Node n).children shape).0 (subst (HasShape shape) (sym (roll-out-Node n)) h)

-- names in patterns

leaf-kind : (k : Kind) (cs : List Node) → belongs sort.Ident k ≡ true → HaveShapes (child_shapes k (one sort.Ident) (length cs)) cs → is_text (leaf_text k cs) ≡ true
leaf-kind (kind.Ident text ctxt optional) [] a h = refl
leaf-kind (kind.Ident text ctxt optional) (c ∷ cs) a h = absurd h
leaf-kind _ cs a h = absurd (cc)

name-kind : (k : Kind) (cs : List Node) → belongs sort.BindingIdent k ≡ true → HaveShapes (child_shapes k (one sort.BindingIdent) (length cs)) cs → has_text (identifier_by k cs) ≡ true
name-kind kind.BindingIdent (id ∷ annotation ∷ []) a h = let s = shape_out (one sort.Ident) id h.0 in leaf-kind (out-Node id).kind (out-Node id).children s.0 s.1
name-kind kind.BindingIdent [] a h = absurd h
name-kind kind.BindingIdent (x ∷ []) a h = absurd h.1
name-kind kind.BindingIdent (x ∷ y ∷ z ∷ cs) a h = absurd h.1.1
name-kind _ cs a h = absurd (cc)

pub has-by : (k : Kind) (shape : Shape) (cs : List Node) → HaveShapes (child_shapes k shape (length cs)) cs → has_name k cs ≡ true
has-by kind.AssignPatProp shape (name ∷ default ∷ []) h = let s = shape_out (one sort.BindingIdent) name h.0 in name-kind (out-Node name).kind (out-Node name).children s.0 s.1
has-by kind.AssignPatProp shape [] h = absurd h
has-by kind.AssignPatProp shape (x ∷ []) h = absurd h.1
has-by kind.AssignPatProp shape (x ∷ y ∷ z ∷ cs) h = absurd h.1.1
has-by _ shape cs h = refl

pub outer-roll : (x : Node-F Node) (r : Role) → has_outer_names_at (roll-Node x) r ≡ is_outer (is_name r) x.kind && all_named (role_by r x.kind (is_there x.children 1)) 0 (map has_outer_names_at x.children)
outer-roll x r =
    ap (λ f. f r) (from_leaves-roll (Role → Bool) outer_step x)
    ∙ ap (λ z. is_outer (is_name r) z.kind && all_named (role_by r z.kind (is_there z.children 1)) 0 (map has_outer_names_at x.children)) (out-roll-Node x)

abbrev Fine : Node → Type 0
Fine n = (shape : Shape) → HasShape shape n → (r : Role) → has_outer_names_at n r ≡ true → is_named_at n r ≡ true

all-fine : (ns : List ((n : Node) × Fine n)) (shapes : List Shape) (roles : ℕ → Role) (i : ℕ) → HaveShapes shapes (map (λ e. e.0) ns)
    → all_named roles i (map has_outer_names_at (map (λ e. e.0) ns)) ≡ true → all_named roles i (map is_named_at (map (λ e. e.0) ns)) ≡ true
all-fine [] shapes roles i h o = refl
all-fine (n ∷ ns) [] roles i h o = absurd h
all-fine (n ∷ ns) (shape ∷ shapes) roles i h o =
    let a = has_outer_names_at n.0 (roles i) in
    let b = all_named roles (suc i) (map has_outer_names_at (map (λ e. e.0) ns)) in
    and-both (is_named_at n.0 (roles i)) (all_named roles (suc i) (map is_named_at (map (λ e. e.0) ns))) (n.1 shape h.0 (roles i) (and-left a b o)) (all-fine ns shapes roles (suc i) h.1 (and-right a b o))

pub names-fine : (n : Node) → Fine n
names-fine = ind-Node Fine (λ x y is shape h r o.
    let s = (node_has_shape x.span x.kind x.children shape).0 h in
    let a = is_outer (is_name r) x.kind in
    let b = all_named (role_by r x.kind (is_there x.children 1)) 0 (map has_outer_names_at x.children) in
    let parts : a && b ≡ true = sym (outer-roll x r) ∙ o in
    let below = subst (λ cs. HaveShapes (child_shapes x.kind shape (length x.children)) cs → all_named (role_by r x.kind (is_there x.children 1)) 0 (map has_outer_names_at cs) ≡ true
    → all_named (role_by r x.kind (is_there x.children 1)) 0 (map is_named_at cs) ≡ true) (ap (λ z. z.children) is)
    (all-fine y.children (child_shapes x.kind shape (length x.children)) (role_by r x.kind (is_there x.children 1)) 0) s.1 (and-right a b parts) in
    named-roll x r ∙ and-both a (has_name x.kind x.children && all_named (role_by r x.kind (is_there x.children 1)) 0 (map is_named_at x.children)) (and-left a b parts)
    (and-both (has_name x.kind x.children) (all_named (role_by r x.kind (is_there x.children 1)) 0 (map is_named_at x.children)) (has-by x.kind shape x.children s.1) below))
