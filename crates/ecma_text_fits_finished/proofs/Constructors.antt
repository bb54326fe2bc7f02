-- A class of a finished tree has one constructor with a body at most.
use Rattle.std.proofs.Common.{◌≡◌, ◌∙◌, ℕ, suc, Bool, true, false, ◌&&◌, cond, List, [], ◌∷◌, map, length, filter, Option, None, is_some, refl, sym, ap, ap₂, subst, slice_get}
use Rattle.ecma_kind.specs.declared.span.Span.{Span}
use Rattle.ecma_kind.specs.declared.kind.Kind.{Kind}
use Rattle.ecma_kind.specs.declared.kind.Kind.TheVariants as kind
use Rattle.ecma_kind.specs.declared.shapes.Shape.{Shape}
use Rattle.ecma_kind.specs.declared.shapes.Sort.TheVariants as sort
use Rattle.ecma_tree.specs.declared.node.Node.{Node, Node-F, out-Node, roll-Node}
use Rattle.ecma_tree.specs.Laws.{HaveShapes}
use Rattle.ecma_tree.specs.Nodes.{node_of}
use Rattle.ecma_tree.specs.Sorted.{HasShape, child_shapes, many, maybe, one, HasSort}
use Rattle.ecma_tree.proofs.ShapeLaws.{node_has_shape}
use Rattle.ecma_rules.specs.declared.target.Target.{Target}
use Rattle.ecma_rules.specs.declared.target.Target.TheVariants as target
use Rattle.ecma_rules.specs.Children.{children_of as items_of, kind_of}
use Rattle.ecma_rules.specs.Finishing.{each_in, finished_at, finished}
use Rattle.ecma_rules.specs.Jumps.{first_stray}
use Rattle.ecma_rules.specs.Members.{is_constructor, is_full_constructor, second_by, second_constructor, second_of, has_second_constructor}
use Rattle.ecma_rules.specs.Rules.{first_misplaced, first_broken}
use Rattle.ecma_rules.specs.Surroundings.{at_root}
use Rattle.ecma_rules.specs.Targets.{target_in}
use Rattle.ecma_fits.specs.Fitting.{at_top, NoneFails}
use Rattle.ecma_raw_roles.proofs.Walks.{free_kind, not_true, kind_made}
use Rattle.ecma_text_fits_finished.proofs.Tests.{free_children, free_has_child, free_list, list_kind}
use Rattle.ecma_text_fits_finished.proofs.Rules.{children_made}
use Rattle.ecma_text_fits_finished.proofs.Ruled.{is_made, ruled}
use Rattle.ecma_fits.proofs.Walks.{neither_least}

full_stays : (n : Node) → is_full_constructor (finished_at n target.Free) ≡ is_full_constructor n
full_stays n = ap₂ (λ a b. is_constructor a && b) (free_kind n) (free_has_child n 2)

counted : (a b : Bool) (x y : Node) (xs ys : List Node) → a ≡ b → length xs ≡ length ys → length (cond a (x ∷ xs) xs) ≡ length (cond b (y ∷ ys) ys)
counted true true x y xs ys e h = ap suc h
counted true false x y xs ys e h = not_true (sym e)
counted false true x y xs ys e h = not_true e
counted false false x y xs ys e h = h

-- as many, where nothing is assigned to
as_many_full : (target_of : ℕ → Target) (ns : List Node) → ((i : ℕ) → target_of i ≡ target.Free) → length (filter is_full_constructor (each_in target_of (map finished_at ns))) ≡ length (filter is_full_constructor ns)
as_many_full target_of [] free = refl
as_many_full target_of (n ∷ ns) free =
    counted (is_full_constructor (finished_at n (target_of 0))) (is_full_constructor n) (finished_at n (target_of 0)) n _ _
    (ap (λ t. is_full_constructor (finished_at n t)) (free 0) ∙ full_stays n) (as_many_full (λ i. target_of (suc i)) ns (λ i. free (suc i)))

no_second : (xs ys : List Node) → length xs ≡ length ys → second_of ys ≡ None → second_of xs ≡ None
no_second [] ys e h = refl
no_second (x ∷ []) ys e h = refl
no_second (x ∷ y ∷ xs) [] e h = cc
no_second (x ∷ y ∷ xs) (z ∷ []) e h = cc
no_second (x ∷ y ∷ xs) (z ∷ v ∷ ys) e h = cc

abbrev second_in : List Node → Option ℕ
second_in items = second_of (filter is_full_constructor items)

list_single : (n : Node) → HasShape (many sort.ClassMember) (finished_at n target.Free) → second_in (out-Node n).children ≡ None → second_in (out-Node (finished_at n target.Free)).children ≡ None
list_single n h single =
    let is = list_kind n (many sort.ClassMember) h (λ k e. e) in
    let now = each_in (target_in target.Free (kind_of n)) (map finished_at (out-Node n).children) in
    ap second_in (free_children n)
    ∙ no_second (filter is_full_constructor now) (filter is_full_constructor (out-Node n).children)
    (as_many_full (target_in target.Free (kind_of n)) (out-Node n).children (λ i. free_list (kind_of n) i is)) single

members_single : (cs : List Node) (p : Shape) (ps : List Shape) → HaveShapes (p ∷ many sort.ClassMember ∷ ps) (each_in (λ i. target.Free) (map finished_at cs)) → second_in (items_of (slice_get cs 1)) ≡ None
    → second_in (items_of (slice_get (each_in (λ i. target.Free) (map finished_at cs)) 1)) ≡ None
members_single [] p ps h single = refl
members_single (c ∷ []) p ps h single = refl
members_single (c ∷ l ∷ cs) p ps h single = list_single l h.1.0 single

class_single : (t : Target) (span : Span) (k : Kind) (cs : List Node) (o : Shape) (n : ℕ) → HaveShapes (child_shapes k o n) (each_in (target_in t k) (map finished_at cs)) → second_by k (node_of span k cs) ≡ None
    → second_by k (node_of span k (each_in (target_in t k) (map finished_at cs))) ≡ None
unfolding target_in
class_single t span (kind.Class is_abstract) cs o n h single =
    let now = each_in (λ i. target.Free) (map finished_at cs) in
    let was = sym (ap (λ z. second_in (items_of (slice_get z 1))) (children_made (record { span = span; kind = kind.Class is_abstract; children = cs }))) ∙ single in
    ap (λ z. second_in (items_of (slice_get z 1))) (children_made (record { span = span; kind = kind.Class is_abstract; children = now })) ∙ members_single cs (maybe sort.Expr) (maybe sort.TsTypeParamDecl ∷ maybe sort.TsTypeParamInstantiation ∷ many sort.TsType ∷ []) h was
class_single t span _ cs o n h single = refl

no_class : (k : Kind) (n : Node) → is_made k ≡ true → is_some (second_by k n) ≡ false
no_class (kind.Class is_abstract) n h = not_true h
no_class _ n h = refl

made_single : (x : Node-F Node) → is_made x.kind ≡ true → has_second_constructor (roll-Node x) ≡ false
made_single x h = subst (λ k. is_some (second_by k (roll-Node x)) ≡ false) (sym (kind_made x)) (no_class x.kind (roll-Node x) h)

kind_single : (span : Span) (k : Kind) (cs : List Node) → is_some (second_by k (node_of span k cs)) ≡ false → has_second_constructor (node_of span k cs) ≡ false
kind_single span k cs h = let x : Node-F Node = record { span = span; kind = k; children = cs } in subst (λ k. is_some (second_by k (roll-Node x)) ≡ false) (sym (kind_made x)) h

same_single : (t : Target) (span : Span) (k : Kind) (cs : List Node) (o : Shape) → second_constructor (node_of span k cs) ≡ None → HasShape o (node_of span k (each_in (target_in t k) (map finished_at cs)))
    → has_second_constructor (node_of span k (each_in (target_in t k) (map finished_at cs))) ≡ false
same_single t span k cs o single shape =
    let kids = each_in (target_in t k) (map finished_at cs) in
    let x : Node-F Node = record { span = span; kind = k; children = cs } in
    let y : Node-F Node = record { span = span; kind = k; children = kids } in
    let was : second_by k (roll-Node x) ≡ None = subst (λ z. second_by z (roll-Node x) ≡ None) (kind_made x) single in
    let now = class_single t span k cs o (length kids) ((node_has_shape span k kids o).0 shape).1 was in
    subst (λ z. is_some (second_by z (roll-Node y)) ≡ false) (sym (kind_made y)) (ap is_some now)

pub one_constructor : (raw : Node) → first_broken raw ≡ None → HasSort sort.Module (finished raw) → NoneFails (λ w node. has_second_constructor node) (finished raw)
one_constructor raw kept sorted =
    let w = neither_least (first_misplaced raw at_root) (first_stray raw) kept in
    ruled (λ w node. has_second_constructor node) (λ w x h. made_single x h) (λ w span cs last. kind_single span kind.RestPat cs refl) (λ w span cs no_rest. kind_single span kind.AssignPat cs refl) (λ was w span k cs o stands stays fine single shape. same_single was.target span k cs o single shape)
    raw at_root at_top (one sort.Module) (record { standing = refl; target = refl; last = λ p q. refl }) sorted w.0
