-- How nodes stand to the rules, and how they do without types.
use Rattle.std.proofs.Common.{◌≡◌, ◌∙◌, ◌⊎◌, inl, inr, ℕ, suc, Bool, true, false, not, ◌&&◌, ◌||◌, ◌==◌, map, length, Some, refl, sym, ap, slice_get}
use Rattle.std.proofs.lemmas.Bool.{eq-eqb, eqb-true}
use Rattle.ecma_kind.specs.Sorts.{belongs}
use Rattle.ecma_kind.specs.declared.kind.Kind.{Kind}
use Rattle.ecma_kind.specs.declared.kind.Kind.TheVariants as kind
use Rattle.ecma_kind.specs.declared.operators.AssignOp.{AssignOp}
use Rattle.ecma_kind.specs.declared.operators.AssignOp.TheVariants.{Assign}
use Rattle.ecma_kind.specs.declared.shapes.Shape.{Shape}
use Rattle.ecma_kind.specs.declared.shapes.Sort.TheVariants as sort
use Rattle.ecma_tree.specs.declared.node.Node.{Node}
use Rattle.ecma_tree.specs.Sorted.{HasShape, child_shapes, is_list, item_shape, maybe, one}
use Rattle.ecma_rules.specs.declared.standing.Standing.{Standing}
use Rattle.ecma_rules.specs.declared.standing.Standing.TheVariants as standing
use Rattle.ecma_rules.specs.declared.target.Target.{Target}
use Rattle.ecma_rules.specs.declared.target.Target.TheVariants as target
use Rattle.ecma_rules.specs.Children.{has_child, kind_of}
use Rattle.ecma_rules.specs.Lists.{last_by}
use Rattle.ecma_rules.specs.Statements.{is_exported}
use Rattle.ecma_rules.specs.Surroundings.{at_child, if_there, standing_by}
use Rattle.ecma_rules.specs.Targets.{at_child as target_at, first_is, in_list, in_literal, is_plain_target, is_simple_target, is_wrapper, on_left, target_in}
use Rattle.ecma_strip.specs.Stripping.{plain_children, plain_kind, stripped}
use Rattle.ecma_strip.proofs.Sorting.{list-kind}
use Rattle.ecma_fits.specs.declared.unfit.Where.{Where}
use Rattle.ecma_fits.specs.Fitting.{where_in}
use Rattle.ecma_fits.specs.Roles.{is_out_of_role, role_in}
use Rattle.ecma_strip_fits.proofs.Classes.{class_of}
use Rattle.ecma_strip_fits.proofs.Classes.Class.{Usual, Wrapped}
use Rattle.ecma_strip_fits.proofs.ChildrenKept.{Plain, maybe_usual}
use Rattle.ecma_strip_fits.proofs.FullNodes.{present}
use Rattle.ecma_strip_fits.proofs.Ruled.{idle_or_left, is_idle, is_left, is_met, is_name_sort, list_met, literal_idle, met_child, named_child, no_name_wrapped, simple_there, simple_under, simple-out, wrapped_expression}
use Rattle.ecma_strip_fits.proofs.Walk.{children_of, shape_parts, usual_kind}

-- ---- what kinds say of their children

target_plain : (t : Target) (i : ℕ) → Plain Target (λ k. target_in t k i)
unfolding target_in plain_kind
target_plain t i kind.Absent = refl
target_plain t i _ = refl

wrapped_target : (k : Kind) → class_of k ≡ Wrapped → (t : Target) (i : ℕ) → target_in t k i ≡ target.Free
unfolding class_of target_in
wrapped_target kind.TsTypeAssertion w t i = refl
wrapped_target kind.TsConstAssertion w t i = refl
wrapped_target kind.TsNonNullExpr w t i = refl
wrapped_target kind.TsAsExpr w t i = refl
wrapped_target kind.TsInstantiation w t i = refl
wrapped_target kind.TsSatisfiesExpr w t i = refl
wrapped_target _ w t i = cc

wrapped_standing : (k : Kind) → class_of k ≡ Wrapped → (s : Standing) (f g : Bool) (i : ℕ) → standing_by s k f g i ≡ standing.Plain
unfolding class_of standing_by
wrapped_standing kind.TsTypeAssertion w s f g i = refl
wrapped_standing kind.TsConstAssertion w s f g i = refl
wrapped_standing kind.TsNonNullExpr w s f g i = refl
wrapped_standing kind.TsAsExpr w s f g i = refl
wrapped_standing kind.TsInstantiation w s f g i = refl
wrapped_standing kind.TsSatisfiesExpr w s f g i = refl
wrapped_standing _ w s f g i = cc

no_expression_list : belongs sort.Expr kind.List ≡ true → ⊥
no_expression_list b = cc

list_target : (t : Target) (i : ℕ) → target_in t kind.List i ≡ in_list t
unfolding target_in
list_target t i = refl

list_standing : (s : Standing) (f g : Bool) (i : ℕ) → standing_by s kind.List f g i ≡ s
unfolding standing_by
list_standing s f g i = refl

list_last : (l : Bool) (n i : ℕ) → last_by l kind.List n i ≡ (suc i == n)
unfolding last_by
list_last l n i = refl

-- an expression passes nothing of how it stands to what stands in it
expression_standing : (k : Kind) → belongs sort.Expr k ≡ true → (s r : Standing) (f g f' g' : Bool) (i : ℕ) → standing_by s k f g i ≡ standing_by r (plain_kind k) f' g' i
unfolding standing_by plain_kind
expression_standing kind.List b s r f g f' g' i = cc
expression_standing _ b s r f g f' g' i = cc

expression_last : (k : Kind) → belongs sort.Expr k ≡ true → (l : Bool) (n i : ℕ) → last_by l (plain_kind k) n i ≡ true
unfolding last_by plain_kind
expression_last kind.List b l n i = cc
expression_last _ b l n i = cc

usual_last : (k : Kind) → class_of k ≡ Usual → (l l' : Bool) (n n' i : ℕ) → (l ≡ true → l' ≡ true) → last_by l k n i ≡ true → last_by l' (plain_kind k) n' i ≡ true
unfolding class_of last_by plain_kind
usual_last kind.List u l l' n n' i f h = cc
usual_last kind.Param u l l' n n' i f h = f h
usual_last (kind.TsParamProp accessibility is_override readonly) u l l' n n' i f h = f h
usual_last kind.AssignPat u l l' n n' i f h = f h
usual_last _ u l l' n n' i f h = refl

idle_left : (t : Target) → is_idle t ≡ true → (op : AssignOp) → on_left t op ≡ on_left target.Free op
idle_left target.Free i Assign = refl
idle_left target.Free i _ = refl
idle_left target.Simple i Assign = refl
idle_left target.Simple i _ = refl
idle_left _ i op = cc

idle_literal : (t : Target) (items : Target) → is_idle t ≡ true → in_literal t items ≡ in_literal target.Free items
idle_literal target.Free items i = refl
idle_literal target.Simple items i = refl
idle_literal _ items i = cc

idle_target : (t : Target) → is_idle t ≡ true → (k : Kind) → belongs sort.Expr k ≡ true → (i : ℕ) → target_in target.Free k i ≡ target_in t k i
unfolding target_in
idle_target t idle kind.List b i = cc
idle_target t idle kind.ArrayLit b i = sym (idle_literal t target.Elements idle)
idle_target t idle kind.ObjectLit b i = sym (idle_literal t target.Properties idle)
idle_target t idle (kind.AssignExpr op) b i = ap (target_at 0 i) (sym (idle_left t idle op))
idle_target t idle _ b i = cc

simple_target : (k : Kind) (c : Bool) → class_of k ≡ Usual → (is_plain_target k || (is_wrapper k && c)) ≡ true → (t : Target) (i : ℕ) → target_in target.Free k i ≡ target_in t k i
unfolding class_of target_in
simple_target (kind.Ident text ctxt optional) c u h t i = refl
simple_target kind.MemberExpr c u h t i = refl
simple_target kind.SuperPropExpr c u h t i = refl
simple_target kind.ParenExpr c u h t i = refl
simple_target _ c u h t i = cc

-- which parts decide how children stand
abbrev is_sourced_export : Kind → Bool
is_sourced_export (kind.NamedExport type_only) = true
is_sourced_export _ = false

abbrev is_whole_constructor : Kind → Bool
is_whole_constructor (kind.Constructor accessibility is_optional) = true
is_whole_constructor _ = false

standing_same : (k : Kind) (s : Standing) (f g f' g' : Bool) (i : ℕ) → (is_sourced_export k ≡ true → f' ≡ f) → (is_whole_constructor k ≡ true → g' ≡ g) → standing_by s k f g i ≡ standing_by s (plain_kind k) f' g' i
unfolding standing_by plain_kind
standing_same (kind.NamedExport type_only) s f g f' g' i source body = ap (λ z. at_child 0 i (if_there (not z) standing.Exported)) (sym (source refl))
standing_same (kind.Constructor accessibility is_optional) s f g f' g' i source body = ap (λ z. at_child 1 i (if_there z standing.Declaring)) (sym (body refl))
standing_same _ s f g f' g' i source body = refl

source_same : (n : Node) (s : Shape) (h : HasShape s n) (u : class_of (kind_of n) ≡ Usual) (k : Kind) → kind_of n ≡ k → is_sourced_export k ≡ true → has_child (stripped n) 1 ≡ has_child n 1
unfolding plain_children
source_same n s h u (kind.NamedExport type_only) e t = present n s h u (kind.NamedExport type_only) e (λ cs. refl) 1 (maybe sort.Str) (maybe_usual sort.Str refl) refl
source_same n s h u _ e t = cc

body_same : (n : Node) (s : Shape) (h : HasShape s n) (u : class_of (kind_of n) ≡ Usual) (k : Kind) → kind_of n ≡ k → is_whole_constructor k ≡ true → has_child (stripped n) 2 ≡ has_child n 2
unfolding plain_children
body_same n s h u (kind.Constructor accessibility is_optional) e t = present n s h u (kind.Constructor accessibility is_optional) e (λ cs. refl) 2 (maybe sort.BlockStmt) (maybe_usual sort.BlockStmt refl) refl
body_same n s h u _ e t = cc

-- ---- how a node stands

abbrev Straight : Where → Where → Type 0
Straight w v = (w.around.target ≡ v.around.target) × (w.around.standing ≡ v.around.standing) × (w.around.is_last ≡ true → v.around.is_last ≡ true)

-- an expression with types round it did, and nothing is assigned to in it
abbrev Under : Node → Where → Where → Type 0
Under n w v = (belongs sort.Expr (kind_of n) ≡ true) × (w.around.target ≡ target.Free) × ((is_idle v.around.target ≡ true) ⊎ (is_simple_target n ≡ true)) × (is_exported v.around.standing ≡ false)

abbrev pub How : Node → Where → Where → Type 0
How n w v = Straight w v ⊎ Under n w v

pub record Stands (n : Node) (s : Shape) (w v : Where) : Type 0 where
  pub named : is_exported w.around.standing ≡ true → is_name_sort s.sort ≡ true
  pub met : is_met w.around.target w.role ≡ true
  pub how : How n w v

unexported : (b : Bool) → (b ≡ true → ⊥) → b ≡ false
unexported true f = absurd (f refl)
unexported false f = refl

plain_unexported : {A : Type 0} (s : Standing) → s ≡ standing.Plain → is_exported s ≡ true → A
plain_unexported s e h = let no : false ≡ true = ap is_exported (sym e) ∙ h in absurd (cc)

pub under : (n : Node) (s : Shape) (w v : Where) → class_of (kind_of n) ≡ Wrapped → HasShape s n → Stands n s w v → is_out_of_role w.role n ≡ false → (e : Node) → slice_get (children_of n) 0 ≡ Some e → HasShape (one sort.Expr) e
    → Stands e (one sort.Expr) (where_in w n 0) v
under n s w v c h r fits e at has = record {
  named = plain_unexported (standing_by w.around.standing (kind_of n) (has_child n 1) (has_child n 2) 0) (wrapped_standing (kind_of n) c w.around.standing (has_child n 1) (has_child n 2) 0);
  met = ap (λ t. is_met t (role_in w.role (kind_of n) 0)) (wrapped_target (kind_of n) c w.around.target 0);
  how = inr ((shape_parts e (one sort.Expr) has).0, wrapped_target (kind_of n) c w.around.target 0, idle r.how, alone r.how);
}
  where
    met_or : (is_idle w.around.target ≡ true) ⊎ (is_left w.role ≡ true) → (is_idle w.around.target ≡ true) ⊎ (is_simple_target e ≡ true)
    met_or (inl i) = inl i
    met_or (inr l) = inr (simple_under n e c at (simple_there w.role n fits l (wrapped_expression (kind_of n) c)))

    moved : (w.around.target ≡ v.around.target) → (is_idle w.around.target ≡ true) ⊎ (is_simple_target e ≡ true) → (is_idle v.around.target ≡ true) ⊎ (is_simple_target e ≡ true)
    moved t (inl i) = inl (ap is_idle (sym t) ∙ i)
    moved t (inr i) = inr i

    deeper : (is_idle v.around.target ≡ true) ⊎ (is_simple_target n ≡ true) → (is_idle v.around.target ≡ true) ⊎ (is_simple_target e ≡ true)
    deeper (inl i) = inl i
    deeper (inr i) = inr (simple_under n e c at i)

    idle : How n w v → (is_idle v.around.target ≡ true) ⊎ (is_simple_target e ≡ true)
    idle (inl d) = moved d.0 (met_or (idle_or_left w.around.target w.role r.met))
    idle (inr d) = deeper d.2

    alone : How n w v → is_exported v.around.standing ≡ false
    alone (inl d) = ap is_exported (sym d.1) ∙ unexported (is_exported w.around.standing) (λ x. no_name_wrapped (kind_of n) c s.count s.sort (r.named x) (shape_parts n s h).0)
    alone (inr d) = d.3

pub items : (n : Node) (s : Shape) (w v : Where) → is_list (kind_of n) ≡ true → Stands n s w v → (m : Node) → is_list (kind_of m) ≡ true → (c : Node) (i j : ℕ) → (suc i ≡ length (children_of n) → suc j ≡ length (children_of m))
    → Stands c (item_shape s) (where_in w n i) (where_in v m j)
items n s w v l r m list c i j last = record {
  named = λ x. r.named (ap is_exported (sym (standing_is w.around.standing n l i)) ∙ x);
  met = ap (λ t. is_met t (role_in w.role (kind_of n) i)) (target_is w.around.target n l i ∙ list_met w.around.target w.role r.met);
  how = inl (by r.how);
}
  where
    target_is : (t : Target) (x : Node) → is_list (kind_of x) ≡ true → (y : ℕ) → target_in t (kind_of x) y ≡ in_list t
    target_is t x lx y = ap (λ k. target_in t k y) (list-kind (kind_of x) lx) ∙ list_target t y

    standing_is : (t : Standing) (x : Node) → is_list (kind_of x) ≡ true → (y : ℕ) → standing_by t (kind_of x) (has_child x 1) (has_child x 2) y ≡ t
    standing_is t x lx y = ap (λ k. standing_by t k (has_child x 1) (has_child x 2) y) (list-kind (kind_of x) lx) ∙ list_standing t (has_child x 1) (has_child x 2) y

    last_is : (t : Bool) (x : Node) → is_list (kind_of x) ≡ true → (y : ℕ) → last_by t (kind_of x) (length (children_of x)) y ≡ (suc y == length (children_of x))
    last_is t x lx y = ap (λ k. last_by t k (length (children_of x)) y) (list-kind (kind_of x) lx) ∙ list_last t (length (children_of x)) y

    by : How n w v → Straight (where_in w n i) (where_in v m j)
    by (inl d) = (
      target_is w.around.target n l i ∙ (ap in_list d.0 ∙ sym (target_is v.around.target m list j)),
      standing_is w.around.standing n l i ∙ (d.1 ∙ sym (standing_is v.around.standing m list j)),
      (λ x. last_is v.around.is_last m list j ∙ eq-eqb (suc j) (length (children_of m)) (last (eqb-true (suc i) (length (children_of n)) (sym (last_is w.around.is_last n l i) ∙ x)))),
    )
    by (inr d) = absurd (no_expression_list (ap (belongs sort.Expr) (sym (list-kind (kind_of n) l)) ∙ d.0))

pub below : (n : Node) (s : Shape) (w v : Where) → class_of (kind_of n) ≡ Usual → HasShape s n → Stands n s w v → is_out_of_role w.role n ≡ false → (c : Node) (o : Shape) (i : ℕ)
    → slice_get (child_shapes (kind_of n) s (length (children_of n))) i ≡ Some o → Stands c o (where_in w n i) (where_in v (stripped n) i)
below n s w v u h r fits c o i at = record {
  named = named_child w.around.standing (kind_of n) (has_child n 1) (has_child n 2) i s (length (children_of n)) o u at;
  met = met_child w.around.target w.role (kind_of n) i r.met (literal_idle w.around.target w.role n fits r.met);
  how = inl (by r.how);
}
  where
    target_now : target_in v.around.target (kind_of n) i ≡ target_in v.around.target (kind_of (stripped n)) i
    target_now = sym (ap (λ k. target_in v.around.target k i) (usual_kind n u) ∙ target_plain v.around.target i (kind_of n))

    standing_now : standing_by v.around.standing (plain_kind (kind_of n)) (has_child (stripped n) 1) (has_child (stripped n) 2) i
        ≡ standing_by v.around.standing (kind_of (stripped n)) (has_child (stripped n) 1) (has_child (stripped n) 2) i
    standing_now = ap (λ k. standing_by v.around.standing k (has_child (stripped n) 1) (has_child (stripped n) 2) i) (sym (usual_kind n u))

    last_now : last_by v.around.is_last (plain_kind (kind_of n)) (length (children_of (stripped n))) i ≡ last_by v.around.is_last (kind_of (stripped n)) (length (children_of (stripped n))) i
    last_now = ap (λ k. last_by v.around.is_last k (length (children_of (stripped n))) i) (sym (usual_kind n u))

    free : (is_idle v.around.target ≡ true) ⊎ (is_simple_target n ≡ true) → belongs sort.Expr (kind_of n) ≡ true → target_in target.Free (kind_of n) i ≡ target_in v.around.target (kind_of n) i
    free (inl d) b = idle_target v.around.target d (kind_of n) b i
    free (inr d) b = simple_target (kind_of n) (first_is (map is_simple_target (children_of n))) u (sym (simple-out n) ∙ d) v.around.target i

    by : How n w v → Straight (where_in w n i) (where_in v (stripped n) i)
    by (inl d) = (
      ap (λ t. target_in t (kind_of n) i) d.0 ∙ target_now,
      ap (λ t. standing_by t (kind_of n) (has_child n 1) (has_child n 2) i) d.1
          ∙ (standing_same (kind_of n) v.around.standing (has_child n 1) (has_child n 2) (has_child (stripped n) 1) (has_child (stripped n) 2) i (source_same n s h u (kind_of n) refl) (body_same n s h u (kind_of n) refl)
          ∙ standing_now),
      (λ x. sym last_now ∙ usual_last (kind_of n) u w.around.is_last v.around.is_last (length (children_of n)) (length (children_of (stripped n))) i d.2 x),
    )
    by (inr d) = (
      ap (λ t. target_in t (kind_of n) i) d.1 ∙ (free d.2 d.0 ∙ target_now),
      expression_standing (kind_of n) d.0 w.around.standing v.around.standing (has_child n 1) (has_child n 2) (has_child (stripped n) 1) (has_child (stripped n) 2) i ∙ standing_now,
      (λ x. sym last_now ∙ expression_last (kind_of n) d.0 v.around.is_last (length (children_of (stripped n))) i),
    )
