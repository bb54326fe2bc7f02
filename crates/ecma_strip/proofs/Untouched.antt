-- A tree in which there are no types stays as it is.
use Rattle.std.proofs.Common.{◌≡◌, ◌∙◌, ℕ, zero, suc, Bool, true, false, ◌&&◌, ◌||◌, not, cond, refl, sym, ap, ap₂, subst, List, [], ◌∷◌, map, filter, Option, Some, None, slice_get}
use Rattle.std.specs.List.{list_all}
use Rattle.std.specs.Option.{is_some}
use Rattle.ecma_kind.specs.declared.kind.Kind.{Kind}
use Rattle.ecma_kind.specs.declared.kind.Kind.TheVariants as kind
use Rattle.ecma_kind.specs.declared.operators.Accessibility.{Accessibility}
use Rattle.ecma_kind.specs.declared.operators.MemberModifiers.{MemberModifiers}
use Rattle.ecma_kind.specs.declared.span.Span.{Span}
use Rattle.ecma_tree.specs.Nodes.{absent, node_of}
use Rattle.ecma_tree.specs.Sorted.{is_absent}
use Rattle.ecma_tree.specs.declared.node.Node.{Node, Node-F, fold-Node, fold-roll-Node, ind-Node, out-Node, roll-Node}
use Rattle.ecma_tree.specs.declared.node.Node.TheViews.{roll-out-Node}
use Rattle.ecma_strip.specs.Laws.{has_type_modifiers, is_type_part}
use Rattle.ecma_strip.specs.Plain.{Seen, TreesWithoutTypesStay, children_stay, has_no_empty, has_no_types, seen_step, unless_missing}
use Rattle.ecma_strip.specs.Staying.{is_empty_stmt, item_stays, stays}
use Rattle.ecma_strip.specs.Stripping.{body_of, changed_at, plain, plain_children, plain_kind, plain_modifiers, staying_nodes, stripped, without_empty, without_this}
use Rattle.ecma_strip.proofs.Sorting.{both}
use Rattle.ecma_strip.proofs.Stripping.{stripped-roll}

no-data : (o : Option Accessibility) → is_some o ≡ false → o ≡ None
no-data None h = refl
no-data (Some a) h = cc

or-false : (a b : Bool) → (a || b) ≡ false → (a ≡ false) × (b ≡ false)
or-false true b h = cc
or-false false b h = (refl, h)

same_modifiers : (m : MemberModifiers) → has_type_modifiers m ≡ false → plain_modifiers m ≡ m
same_modifiers m h =
    let first = or-false (is_some m.accessibility) (m.is_abstract || (m.is_optional || m.is_override)) h in
    let second = or-false m.is_abstract (m.is_optional || m.is_override) first.1 in
    let third = or-false m.is_optional m.is_override second.1 in
    let accessibility = sym (no-data m.accessibility first.0) in
    let is_abstract = sym second.0 in
    let is_optional = sym third.0 in
    let is_override = sym third.1 in
    λ j. record { accessibility = accessibility j; is_static = m.is_static; is_abstract = is_abstract j; is_optional = is_optional j; is_override = is_override j }

same_field : (K : MemberModifiers → Bool → Bool → Bool → Kind) (m : MemberModifiers) (r d f : Bool) → (has_type_modifiers m || (r || (d || f))) ≡ false → K (plain_modifiers m) false false false ≡ K m r d f
same_field K m r d f h =
    let first = or-false (has_type_modifiers m) (r || (d || f)) h in
    let second = or-false r (d || f) first.1 in
    let third = or-false d f second.1 in
    let modifiers = same_modifiers m first.0 in
    let readonly = sym second.0 in
    let declare = sym third.0 in
    let definite = sym third.1 in
    λ j. K (modifiers j) (readonly j) (declare j) (definite j)

same_kind : (k : Kind) → is_type_part k ≡ false → plain_kind k ≡ k
unfolding is_type_part plain_kind
same_kind (kind.Ident sym ctxt true) h = cc
same_kind (kind.Ident sym ctxt false) h = refl
same_kind (kind.ArrayPat true) h = cc
same_kind (kind.ArrayPat false) h = refl
same_kind (kind.ObjectPat true) h = cc
same_kind (kind.ObjectPat false) h = refl
same_kind (kind.VarDeclarator true) h = cc
same_kind (kind.VarDeclarator false) h = refl
same_kind (kind.Class true) h = cc
same_kind (kind.Class false) h = refl
same_kind (kind.Constructor None true) h = cc
same_kind (kind.Constructor None false) h = refl
same_kind (kind.Constructor (Some a) o) h = cc
same_kind (kind.ClassMethod k m) h = ap (kind.ClassMethod k) (same_modifiers m h)
same_kind (kind.PrivateMethod k m) h = ap (kind.PrivateMethod k) (same_modifiers m h)
same_kind (kind.ClassProp m r d f) h = same_field kind.ClassProp m r d f h
same_kind (kind.PrivateProp m r d f) h = same_field kind.PrivateProp m r d f h
same_kind _ h = refl

changed_at-same : (i : ℕ) (to : Node → Node) (test : Node → Bool) (cs : List Node) → ((x : Node) → test x ≡ true → to x ≡ x) → unless_missing (slice_get cs i) test ≡ true → changed_at i to cs ≡ cs
changed_at-same i to test [] same h = refl
changed_at-same zero to test (c ∷ cs) same h = ap (λ z. z ∷ cs) (same c h)
changed_at-same (suc i) to test (c ∷ cs) same h = ap (λ z. c ∷ z) (changed_at-same i to test cs same h)

module _ (p : Node → Bool) where
  filter-all : (xs : List Node) → list_all p xs ≡ true → filter p xs ≡ xs
  filter-all [] h = refl
  filter-all (x ∷ xs) h =
      let parts = both (p x) (list_all p xs) h in
      ap (λ b. cond b (x ∷ filter p xs) (filter p xs)) parts.0 ∙ ap (λ z. x ∷ z) (filter-all xs parts.1)

same_list : (x : Node) → has_no_empty x ≡ true → without_empty x ≡ x
same_list x h = ap (node_of (out-Node x).span (out-Node x).kind) (filter-all (λ (n : Node). not (is_empty_stmt (out-Node n).kind)) (out-Node x).children h) ∙ roll-out-Node x

same_body : (x : Node) → item_stays x ≡ true → body_of x ≡ x
same_body x h = ap (λ b. cond b x (node_of (out-Node x).span kind.EmptyStmt [])) h

same_this : (x : Node) → is_absent (out-Node x).kind ≡ true → without_this x ≡ x
same_this x h = ap (λ b. cond b x absent) h

same_children : (k : Kind) (cs : List Node) → children_stay k cs ≡ true → plain_children k cs ≡ cs
unfolding children_stay plain_children
same_children (kind.Module shebang) cs h = changed_at-same 0 without_empty has_no_empty cs same_list h
same_children (kind.Script shebang) cs h = changed_at-same 0 without_empty has_no_empty cs same_list h
same_children kind.BlockStmt cs h = changed_at-same 0 without_empty has_no_empty cs same_list h
same_children kind.TsModuleBlock cs h = changed_at-same 0 without_empty has_no_empty cs same_list h
same_children kind.SwitchCase cs h = changed_at-same 1 without_empty has_no_empty cs same_list h
same_children kind.IfStmt cs h =
    let parts = both (unless_missing (slice_get cs 1) item_stays) (unless_missing (slice_get cs 2) item_stays) h in
    ap (changed_at 1 body_of) (changed_at-same 2 body_of item_stays cs same_body parts.1) ∙ changed_at-same 1 body_of item_stays cs same_body parts.0
same_children kind.LabeledStmt cs h = changed_at-same 1 body_of item_stays cs same_body h
same_children kind.WhileStmt cs h = changed_at-same 1 body_of item_stays cs same_body h
same_children kind.DoWhileStmt cs h = changed_at-same 1 body_of item_stays cs same_body h
same_children kind.ForStmt cs h = changed_at-same 3 body_of item_stays cs same_body h
same_children kind.ForInStmt cs h = changed_at-same 2 body_of item_stays cs same_body h
same_children (kind.ForOfStmt is_await) cs h = changed_at-same 2 body_of item_stays cs same_body h
same_children kind.SetterProp cs h = changed_at-same 1 without_this (λ (n : Node). is_absent (out-Node n).kind) cs same_this h
same_children _ cs h = refl

-- a node whose children are stripped already, and stay
same_node : (span : Span) (k : Kind) (cs : List Node) → is_type_part k ≡ false → children_stay k cs ≡ true → map stripped cs ≡ cs → plain span k (map stripped (staying_nodes k cs)) ≡ node_of span k cs
unfolding plain is_type_part children_stay plain_kind plain_children
same_node span kind.List cs part stay is = ap (λ z. node_of span kind.List (map stripped z)) (filter-all stays cs stay) ∙ ap (node_of span kind.List) is
same_node span kind.TsTypeAnn cs part stay is = cc
same_node span kind.TsType cs part stay is = cc
same_node span kind.TsTypeParamDecl cs part stay is = cc
same_node span kind.TsTypeParamInstantiation cs part stay is = cc
same_node span kind.TsTypeAssertion cs part stay is = cc
same_node span kind.TsConstAssertion cs part stay is = cc
same_node span kind.TsNonNullExpr cs part stay is = cc
same_node span kind.TsAsExpr cs part stay is = cc
same_node span kind.TsInstantiation cs part stay is = cc
same_node span kind.TsSatisfiesExpr cs part stay is = cc
same_node span k cs part stay is =
    ap (λ z. node_of span (plain_kind k) (plain_children k z)) is ∙ ap₂ (λ z w. node_of span z w) (same_kind k part) (same_children k cs stay)

seen-itself-all : (ns : List ((n : Node) × ((fold-Node Seen seen_step n).node ≡ n))) → map (λ b. b.node) (map (fold-Node Seen seen_step) (map (λ e. e.0) ns)) ≡ map (λ e. e.0) ns
seen-itself-all [] = refl
seen-itself-all (n ∷ ns) = ap₂ (λ a rest. a ∷ rest) n.1 (seen-itself-all ns)

seen-itself : (n : Node) → (fold-Node Seen seen_step n).node ≡ n
seen-itself = ind-Node (λ n. (fold-Node Seen seen_step n).node ≡ n) (λ x y is.
    ap (λ b. b.node) (fold-roll-Node Seen seen_step x)
    ∙ ap (λ children. node_of x.span x.kind children)
    (ap (λ z. map (λ b. b.node) (map (fold-Node Seen seen_step) z.children)) (sym is) ∙ (seen-itself-all y.children ∙ ap (λ z. z.children) is)))

seen-nodes : (ns : List Node) → map (λ b. b.node) (map (fold-Node Seen seen_step) ns) ≡ ns
seen-nodes [] = refl
seen-nodes (n ∷ ns) = ap₂ (λ a rest. a ∷ rest) (seen-itself n) (seen-nodes ns)

seen-all : (ns : List Node) → list_all (λ b. b.has_none) (map (fold-Node Seen seen_step) ns) ≡ list_all has_no_types ns
seen-all [] = refl
seen-all (n ∷ ns) = ap (λ rest. has_no_types n && rest) (seen-all ns)

has_no_types-roll : (x : Node-F Node) → has_no_types (roll-Node x) ≡ ((not (is_type_part x.kind) && children_stay x.kind x.children) && list_all has_no_types x.children)
has_no_types-roll x =
    ap (λ b. b.has_none) (fold-roll-Node Seen seen_step x)
    ∙ ap₂ (λ nodes rest. (not (is_type_part x.kind) && children_stay x.kind nodes) && rest) (seen-nodes x.children) (seen-all x.children)

abbrev Stays : Node → Type 0
Stays n = has_no_types n ≡ true → stripped n ≡ n

abbrev nodes : List ((n : Node) × Stays n) → List Node
nodes ns = map (λ e. e.0) ns

all-same : (ns : List ((n : Node) × Stays n)) → list_all has_no_types (nodes ns) ≡ true → map stripped (nodes ns) ≡ nodes ns
all-same [] h = refl
all-same (n ∷ ns) h =
    let parts = both (has_no_types n.0) (list_all has_no_types (nodes ns)) h in
    ap₂ (λ a rest. a ∷ rest) (n.1 parts.0) (all-same ns parts.1)

not-true : (b : Bool) → not b ≡ true → b ≡ false
not-true true h = cc
not-true false h = refl

untouched : (n : Node) → Stays n
untouched = ind-Node Stays (λ x y is.
    (let parts : Node-F Node = record { span = y.span; kind = y.kind; children = nodes y.children } in
    subst (λ (z : Node-F Node). Stays (roll-Node z)) is (λ h.
    (let all = both (not (is_type_part y.kind) && children_stay y.kind (nodes y.children)) (list_all has_no_types (nodes y.children)) (sym (has_no_types-roll parts) ∙ h) in
    let here = both (not (is_type_part y.kind)) (children_stay y.kind (nodes y.children)) all.0 in
    stripped-roll parts ∙ same_node y.span y.kind (nodes y.children) (not-true (is_type_part y.kind) here.0) here.1 (all-same y.children all.1)))))

pub trees_without_types_stay : TreesWithoutTypesStay
trees_without_types_stay = untouched
