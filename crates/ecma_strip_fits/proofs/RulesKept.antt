-- The rules of lists, members and statements are kept without types.
use Rattle.std.proofs.Common.{◌≡◌, ◌∙◌, inl, inr, Bool, true, false, not, ◌&&◌, ◌||◌, List, [], ◌∷◌, map, length, replicate, Some, None, refl, sym, ap, ap₂, slice_get}
use Rattle.ecma_kind.specs.Sorts.{belongs}
use Rattle.ecma_kind.specs.declared.kind.Kind.{Kind}
use Rattle.ecma_kind.specs.declared.kind.Kind.TheVariants as kind
use Rattle.ecma_kind.specs.declared.shapes.Shape.{Shape}
use Rattle.ecma_kind.specs.declared.shapes.Sort.TheVariants as sort
use Rattle.ecma_tree.specs.declared.node.Node.{Node}
use Rattle.ecma_tree.specs.Laws.{HaveShapes}
use Rattle.ecma_tree.specs.Nodes.{absent, dummy_span, node_of}
use Rattle.ecma_tree.specs.Sorted.{HasShape, one}
use Rattle.ecma_rules.specs.declared.target.Target.{Target}
use Rattle.ecma_rules.specs.Children.{has_child, is_present, items_at, kind_of, of_kind}
use Rattle.ecma_rules.specs.Failing.{failing_here}
use Rattle.ecma_rules.specs.Lists.{is_head, is_item, is_one_without_value, is_rest}
use Rattle.ecma_rules.specs.Rules.{fails_list, fails_member, fails_statement}
use Rattle.ecma_rules.specs.Statements.{is_body, is_declaration, is_exported, is_text}
use Rattle.ecma_rules.specs.Targets.{is_variables}
use Rattle.ecma_strip.specs.Stripping.{plain_children, plain_kind, stripped}
use Rattle.ecma_fits.specs.declared.unfit.Where.{Where}
use Rattle.ecma_fits.specs.Fitting.{Fits, at_top, breaks_rule, unfit_here, where_in, NoneFails}
use Rattle.ecma_fits.specs.Roles.{is_out_of_role}
use Rattle.ecma_fits.specs.Strays.{is_stray_target}
use Rattle.ecma_strip_fits.proofs.Classes.{class_of}
use Rattle.ecma_strip_fits.proofs.Classes.Class.{Usual}
use Rattle.ecma_strip_fits.proofs.ChildrenKept.{Plain, child_by, one_usual}
use Rattle.ecma_strip_fits.proofs.Constructors.{present_plain}
use Rattle.ecma_strip_fits.proofs.FullNodes.{list_by}
use Rattle.ecma_strip_fits.proofs.Leaves.{unfit_none}
use Rattle.ecma_strip_fits.proofs.MembersKept.{member_here, membering, never_member}
use Rattle.ecma_strip_fits.proofs.RuleStanding.{How, Stands, below, items, under}
use Rattle.ecma_strip_fits.proofs.StaysAll.{all_of_list, declarators_calm, items_have}
use Rattle.ecma_strip_fits.proofs.Strays.{kind_node, none_failing}
use Rattle.ecma_strip_fits.proofs.Tests.{neither}
use Rattle.ecma_strip_fits.proofs.Walk.{Carries, children_of, kept, shape_parts, usual_kind}
use Rattle.ecma_fits.proofs.Clauses.{none_unfit}

some_same : {X : Type 0} {x y : X} → Some x ≡ Some y → x ≡ y
some_same e = cc

-- of a node that fits where it stands
pub in_role : (w : Where) (n : Node) → unfit_here w n ≡ None → is_out_of_role w.role n ≡ false
in_role w n h = (neither (is_out_of_role w.role n) (is_stray_target w.role w.arguments n || breaks_rule w n) (unfit_none w n h).0).0

no_rule : (w : Where) (n : Node) → unfit_here w n ≡ None → (fails_list w.around n ≡ false) × (fails_member w.around n ≡ false) × (fails_statement w.around n ≡ false)
no_rule w n h =
    let a = (neither (is_out_of_role w.role n) (is_stray_target w.role w.arguments n || breaks_rule w n) (unfit_none w n h).0).1 in
    let b = (neither (is_stray_target w.role w.arguments n) (breaks_rule w n) a).1 in
    let c = neither (fails_list w.around n) (fails_member w.around n || fails_statement w.around n) b in
    let d = neither (fails_member w.around n) (fails_statement w.around n) c.1 in
    (c.0, d.0, d.1)

-- ---- a declaration in the head of a loop

missing_usual : (k : Kind) → is_present k ≡ false → class_of k ≡ Usual
unfolding class_of
missing_usual kind.Absent m = refl
missing_usual _ m = cc

declarator_untouched : (k : Kind) → belongs sort.VarDeclarator k ≡ true → (cs : List Node) → slice_get (plain_children k cs) 1 ≡ slice_get cs 1
unfolding plain_children
declarator_untouched (kind.VarDeclarator definite) b cs = refl
declarator_untouched _ b cs = cc

valueless : (d : Node) → HasShape (one sort.VarDeclarator) d → has_child d 1 ≡ false → has_child (stripped d) 1 ≡ false
valueless d has =
    let b = (shape_parts d (one sort.VarDeclarator) has).0 in
    child_by d (one sort.VarDeclarator) has (one_usual sort.VarDeclarator refl (kind_of d) b) 1 (declarator_untouched (kind_of d) b) (λ x y. of_kind is_present x ≡ false → of_kind is_present y ≡ false) (λ h. h)
    (λ c o at shape h. ap is_present (usual_kind c (missing_usual (kind_of c) h)) ∙ (present_plain (kind_of c) ∙ h))

not_true : (b : Bool) → not b ≡ true → b ≡ false
not_true true h = cc
not_true false h = refl

one_left : (ds : List Node) → HaveShapes (replicate (length ds) (one sort.VarDeclarator)) ds → is_one_without_value ds ≡ true → is_one_without_value (map stripped ds) ≡ true
one_left [] has h = h
one_left (d ∷ []) has h = ap not (valueless d has.0 (not_true (has_child d 1) h))
one_left (d ∷ e ∷ ds) has h = h

heads : (n : Node) (s : Shape) (h : HasShape s n) (u : class_of (kind_of n) ≡ Usual) (k : Kind) → kind_of n ≡ k → is_variables k ≡ true → is_one_without_value (items_at n 0) ≡ true → is_one_without_value (items_at (stripped n) 0) ≡ true
unfolding plain_children
heads n s h u (kind.VarDecl k declare) e v =
    list_by n s h u (kind.VarDecl k declare) e (λ cs. refl) is_one_without_value 0 sort.VarDeclarator refl
    (λ l has g. ap is_one_without_value (all_of_list sort.VarDeclarator declarators_calm l has) ∙ one_left (children_of l) (items_have sort.VarDeclarator l has) g)
heads n s h u _ e v = λ g. cc

-- ---- by kinds

variables_plain : Plain Bool is_variables
unfolding plain_kind
variables_plain kind.Absent = refl
variables_plain _ = refl

rest_plain : (t : Target) → Plain Bool (is_rest t)
unfolding plain_kind
rest_plain t kind.Absent = refl
rest_plain t _ = refl

text_plain : Plain Bool is_text
unfolding plain_kind
text_plain kind.Absent = refl
text_plain _ = refl

declaration_plain : Plain Bool is_declaration
unfolding is_declaration plain_kind
declaration_plain kind.Absent = refl
declaration_plain _ = refl

and_false : (b : Bool) → (b && false) ≡ false
and_false true = refl
and_false false = refl

expression_variables : (k : Kind) → belongs sort.Expr k ≡ true → is_variables k ≡ false
expression_variables (kind.VarDecl k declare) b = cc
expression_variables _ b = refl

expression_rest : (t : Target) (k : Kind) → belongs sort.Expr k ≡ true → is_rest t k ≡ false
expression_rest t kind.RestPat b = cc
expression_rest t kind.SpreadElement b = cc
expression_rest t k b = and_false (is_item t)

expression_declaration : (k : Kind) → belongs sort.Expr k ≡ true → is_declaration k ≡ false
unfolding is_declaration
expression_declaration kind.Absent b = cc
expression_declaration _ b = cc

-- what the rules of lists and of statements ask of a node of a kind
abbrev pub listing : Where → Kind → Node → Bool
listing w k n = ((is_head w.around.target && is_variables k) && not (is_one_without_value (items_at n 0))) || (is_rest w.around.target k && not w.around.is_last)

abbrev pub stating : Where → Kind → Bool
stating w k = (is_exported w.around.standing && is_text k) || (is_body w.around.standing && is_declaration k)

head_by : (a b x y : Bool) → (b ≡ true → x ≡ true → y ≡ true) → ((a && b) && not x) ≡ false → ((a && b) && not y) ≡ false
head_by true true true y f h = ap not (f refl refl)
head_by true true false y f h = cc
head_by true false x y f h = refl
head_by false b x y f h = refl

rest_by : (a l m : Bool) → (l ≡ true → m ≡ true) → (a && not l) ≡ false → (a && not m) ≡ false
rest_by true true m f h = ap not (f refl)
rest_by true false m f h = cc
rest_by false l m f h = refl

both_false : (a b : Bool) → a ≡ false → b ≡ false → (a || b) ≡ false
both_false a b h g = ap₂ (λ x y. x || y) h g

list_here : (n : Node) (s : Shape) (w v : Where) → class_of (kind_of n) ≡ Usual → HasShape s n → How n w v → listing w (kind_of n) n ≡ false → listing v (plain_kind (kind_of n)) (stripped n) ≡ false
list_here n s w v u h (inl d) none =
    let k = kind_of n in
    let t = neither ((is_head w.around.target && is_variables k) && not (is_one_without_value (items_at n 0))) (is_rest w.around.target k && not w.around.is_last) none in
    both_false ((is_head v.around.target && is_variables (plain_kind k)) && not (is_one_without_value (items_at (stripped n) 0))) (is_rest v.around.target (plain_kind k) && not v.around.is_last)
    (ap₂ (λ x y. (is_head x && y) && not (is_one_without_value (items_at (stripped n) 0))) (sym d.0) (variables_plain k)
    ∙ head_by (is_head w.around.target) (is_variables k) (is_one_without_value (items_at n 0)) (is_one_without_value (items_at (stripped n) 0)) (heads n s h u k refl) t.0)
    (ap (λ x. x && not v.around.is_last) (rest_plain v.around.target k ∙ ap (λ x. is_rest x k) (sym d.0)) ∙ rest_by (is_rest w.around.target k) w.around.is_last v.around.is_last d.2 t.1)
list_here n s w v u h (inr d) none =
    let k = kind_of n in
    both_false ((is_head v.around.target && is_variables (plain_kind k)) && not (is_one_without_value (items_at (stripped n) 0))) (is_rest v.around.target (plain_kind k) && not v.around.is_last)
    (ap (λ y. (is_head v.around.target && y) && not (is_one_without_value (items_at (stripped n) 0))) (variables_plain k ∙ expression_variables k d.0) ∙ ap (λ y. y && not (is_one_without_value (items_at (stripped n) 0))) (and_false (is_head v.around.target)))
    (ap (λ x. x && not v.around.is_last) (rest_plain v.around.target k ∙ expression_rest v.around.target k d.0))

statement_here : (n : Node) (w v : Where) → How n w v → stating w (kind_of n) ≡ false → stating v (plain_kind (kind_of n)) ≡ false
statement_here n w v (inl d) none =
    let k = kind_of n in
    (λ j. (is_exported (sym d.1 j) && text_plain k j) || (is_body (sym d.1 j) && declaration_plain k j)) ∙ none
statement_here n w v (inr d) none =
    let k = kind_of n in
    both_false (is_exported v.around.standing && is_text (plain_kind k)) (is_body v.around.standing && is_declaration (plain_kind k))
    (ap (λ x. x && is_text (plain_kind k)) d.3) (ap (λ x. is_body v.around.standing && x) (declaration_plain k ∙ expression_declaration k d.0) ∙ and_false (is_body v.around.standing))

abbrev pub ruling : Where → Kind → Node → Bool
ruling w k n = listing w k n || (membering w k n || stating w k)

-- what is neither a declaration nor a rest nor a member nor a text breaks none
quiet_rules : (w : Where) (n : Node) (k : Kind) → membering w k n ≡ false → is_variables k ≡ false → is_rest w.around.target k ≡ false → is_text k ≡ false → is_declaration k ≡ false → ruling w k n ≡ false
quiet_rules w n k m v r t d =
    let single = not (is_one_without_value (items_at n 0)) in
    both_false (listing w k n) (membering w k n || stating w k)
    (both_false ((is_head w.around.target && is_variables k) && single) (is_rest w.around.target k && not w.around.is_last)
    (ap (λ y. (is_head w.around.target && y) && single) v ∙ ap (λ y. y && single) (and_false (is_head w.around.target)))
    (ap (λ x. x && not w.around.is_last) r))
    (both_false (membering w k n) (stating w k) m
    (both_false (is_exported w.around.standing && is_text k) (is_body w.around.standing && is_declaration k)
    (ap (λ x. is_exported w.around.standing && x) t ∙ and_false (is_exported w.around.standing))
    (ap (λ x. is_body w.around.standing && x) d ∙ and_false (is_body w.around.standing))))

never_ruled : (w : Where) (n : Node) → (ruling w kind.Absent n ≡ false) × (ruling w kind.EmptyStmt n ≡ false) × (ruling w kind.List n ≡ false)
unfolding is_declaration
never_ruled w n = (
  quiet_rules w n kind.Absent (never_member w n).0 refl (and_false (is_item w.around.target)) refl refl,
  quiet_rules w n kind.EmptyStmt (never_member w n).1 refl (and_false (is_item w.around.target)) refl refl,
  quiet_rules w n kind.List (never_member w n).2 refl (and_false (is_item w.around.target)) refl refl,
)

-- ---- the walk

quiet : (w : Where) (n : Node) (k : Kind) → kind_of n ≡ k → ruling w k n ≡ false → failing_here (ruling w (kind_of n) n) n ≡ None
quiet w n k is none = none_failing (ruling w (kind_of n) n) n (ap (λ z. ruling w z n) is ∙ none)

carries : Carries Where where_in unfit_here (λ w n. failing_here (ruling w (kind_of n) n) n) Stands
carries = record {
  missing = λ n s z a t h r none. quiet a absent kind.Absent (kind_node dummy_span kind.Absent []) (never_ruled a absent).0;
  empty = λ n s z y u h r none i is span. (let a = where_in y (stripped n) i in quiet a (node_of span kind.EmptyStmt []) kind.EmptyStmt (kind_node span kind.EmptyStmt []) (never_ruled a (node_of span kind.EmptyStmt [])).1);
  lone = λ n s z y u h r none i is. (let a = where_in y (stripped n) i in quiet a absent kind.Absent (kind_node dummy_span kind.Absent []) (never_ruled a absent).0);
  lists = λ n s z a l h r none span cs. quiet a (node_of span kind.List cs) kind.List (kind_node span kind.List cs) (never_ruled a (node_of span kind.List cs)).2;
  under = λ n s a b w h r none e at has. under n s a b w h r (in_role a n none) e at has;
  here = λ n s a b u h r none. none_failing (ruling b (kind_of (stripped n)) (stripped n)) (stripped n)
      (ap (λ k. ruling b k (stripped n)) (usual_kind n u)
      ∙ both_false (listing b (plain_kind (kind_of n)) (stripped n)) (membering b (plain_kind (kind_of n)) (stripped n) || stating b (plain_kind (kind_of n)))
      (list_here n s a b u h r.how (no_rule a n none).0)
      (both_false (membering b (plain_kind (kind_of n)) (stripped n)) (stating b (plain_kind (kind_of n)))
      (member_here n s a b u h r.how (no_rule a n none).1) (statement_here n a b r.how (no_rule a n none).2)));
  items = λ n s a b l r m list c i j at. items n s a b l r m list c i j;
  below = λ n s a b u h r none c o i at shape. below n s a b u h r (in_role a n none) c o i shape;
}

pub rules_kept : (tree : Node) → Fits tree → NoneFails breaks_rule (stripped tree)
rules_kept tree f =
    (kept Where where_in unfit_here (λ w n. failing_here (ruling w (kind_of n) n) n) Stands carries tree (one sort.Module) at_top at_top f.sorted
    (record { named = λ x. absurd (cc); met = refl; how = inl (refl, refl, (λ x. x)) }) (none_unfit tree f)).0
