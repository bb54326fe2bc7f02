-- Lists from which nothing goes, and what is said of all items of a list.
use Rattle.std.proofs.Common.{◌≡◌, ◌∙◌, Bool, true, false, not, ◌&&◌, cond, List, [], ◌∷◌, map, filter, length, replicate, refl, ap, ap₂, subst}
use Rattle.std.specs.List.{list_all}
use Rattle.ecma_kind.specs.Sorts.{belongs}
use Rattle.ecma_kind.specs.declared.kind.Kind.{Kind}
use Rattle.ecma_kind.specs.declared.kind.Kind.TheVariants as kind
use Rattle.ecma_kind.specs.declared.shapes.Sort.{Sort}
use Rattle.ecma_kind.specs.declared.shapes.Sort.TheVariants as sort
use Rattle.ecma_tree.specs.declared.node.Node.{Node, Node-F}
use Rattle.ecma_tree.specs.Laws.{HaveShapes}
use Rattle.ecma_tree.specs.Sorted.{HasShape, child_shapes, many, one}
use Rattle.ecma_tree.specs.Values.{is_value}
use Rattle.ecma_rules.specs.Children.{kind_of}
use Rattle.ecma_strip.specs.Staying.{is_ambient, is_empty_stmt, is_this_by, is_this_param_by, member_stays_by, specifier_stays, stays}
use Rattle.ecma_strip.specs.Stripping.{stripped}
use Rattle.ecma_strip.proofs.Sorting.{list-kind}
use Rattle.ecma_strip_fits.proofs.Walk.{children_of, listed_parts, shape_parts}

-- a kind of which no item goes
is_calm_by : Kind → Bool
is_calm_by (kind.TsIndexSignature readonly is_static) = false
is_calm_by (kind.Constructor accessibility is_optional) = false
is_calm_by (kind.ClassMethod k modifiers) = false
is_calm_by (kind.PrivateMethod k modifiers) = false
is_calm_by (kind.ClassProp modifiers readonly declare definite) = false
is_calm_by (kind.PrivateProp modifiers readonly declare definite) = false
is_calm_by (kind.ImportNamedSpecifier is_type_only) = false
is_calm_by (kind.ExportNamedSpecifier is_type_only) = false
is_calm_by kind.TsType = false
is_calm_by kind.Param = false
is_calm_by kind.BindingIdent = false
is_calm_by k = not (belongs sort.ModuleItem k)

unfoldable pub is_calm : Kind → Bool
unfolding is_calm_by
is_calm k = is_calm_by k

item_calm : (k : Kind) (b : Bool) → is_calm k ≡ true → cond (is_empty_stmt k) true (cond (belongs sort.ModuleItem k) b true) ≡ true
unfolding is_calm is_calm_by
item_calm kind.EmptyStmt b c = cc
item_calm _ b c = cc

member_calm : (k : Kind) (n : Node) → is_calm k ≡ true → member_stays_by k n ≡ true
unfolding is_calm is_calm_by member_stays_by
member_calm kind.EmptyStmt n c = cc
member_calm _ n c = cc

specifier_calm : (k : Kind) → is_calm k ≡ true → specifier_stays k ≡ true
unfolding is_calm is_calm_by specifier_stays
specifier_calm kind.EmptyStmt c = cc
specifier_calm _ c = cc

this_calm : (k : Kind) (n : Node) → is_calm k ≡ true → is_this_by k n ≡ false
unfolding is_calm is_calm_by
this_calm kind.EmptyStmt n c = cc
this_calm _ n c = cc

parameter_calm : (k : Kind) (n : Node) → is_calm k ≡ true → is_this_param_by k n ≡ is_this_by (kind_of n) n
unfolding is_calm is_calm_by
parameter_calm kind.EmptyStmt n c = cc
parameter_calm _ n c = cc

pub calm_stays : (n : Node) → is_calm (kind_of n) ≡ true → stays n ≡ true
unfolding stays
calm_stays n c =
    let k = kind_of n in
    λ j. ((item_calm k (is_value n && not (is_ambient n)) c j && member_calm k n c j) && specifier_calm k c j) && not ((parameter_calm k n c ∙ this_calm k n c) j)

abbrev pub Calm : Sort → Type 0
Calm σ = (k : Kind) → belongs σ k ≡ true → is_calm k ≡ true

pub expressions_calm : Calm sort.Expr
unfolding is_calm is_calm_by
expressions_calm kind.EmptyStmt b = cc
expressions_calm _ b = cc

pub texts_calm : Calm sort.TplElement
unfolding is_calm is_calm_by
texts_calm kind.EmptyStmt b = cc
texts_calm _ b = cc

pub declarators_calm : Calm sort.VarDeclarator
unfolding is_calm is_calm_by
declarators_calm kind.EmptyStmt b = cc
declarators_calm _ b = cc

-- all items of such a list stay
all_stay : (σ : Sort) → Calm σ → (cs : List Node) → HaveShapes (replicate (length cs) (one σ)) cs → filter stays cs ≡ cs
all_stay σ calm [] h = refl
all_stay σ calm (c ∷ cs) h =
    ap (λ b. cond b (c ∷ filter stays cs) (filter stays cs)) (calm_stays c (calm (kind_of c) (shape_parts c (one σ) h.0).0)) ∙ ap (λ (z : List Node). c ∷ z) (all_stay σ calm cs h.1)

pub items_have : (σ : Sort) (l : Node) → HasShape (many σ) l → HaveShapes (replicate (length (children_of l)) (one σ)) (children_of l)
items_have σ l has = let t = shape_parts l (many σ) has in subst (λ k. HaveShapes (child_shapes k (many σ) (length (children_of l))) (children_of l)) (list-kind (kind_of l) t.0) t.1

pub left_of_list : (σ : Sort) (l : Node) → HasShape (many σ) l → children_of (stripped l) ≡ map stripped (filter stays (children_of l))
left_of_list σ l has = ap (λ (z : Node-F Node). z.children) (listed_parts l (shape_parts l (many σ) has).0)

pub all_of_list : (σ : Sort) → Calm σ → (l : Node) → HasShape (many σ) l → children_of (stripped l) ≡ map stripped (children_of l)
all_of_list σ calm l has = left_of_list σ l has ∙ ap (map stripped) (all_stay σ calm (children_of l) (items_have σ l has))

-- ---- what is said of all

both : (a b : Bool) → (a && b) ≡ true → (a ≡ true) × (b ≡ true)
both true b h = (refl, h)
both false b h = cc

module _ (σ : Sort) (p : Node → Bool) (kept : (c : Node) → HasShape (one σ) c → p c ≡ true → p (stripped c) ≡ true) where
  chosen_all : (b : Bool) (c : Node) (cs : List Node) → p (stripped c) ≡ true → list_all p (map stripped cs) ≡ true → list_all p (map stripped (cond b (c ∷ cs) cs)) ≡ true
  chosen_all true c cs h rest = ap₂ (λ x y. x && y) h rest
  chosen_all false c cs h rest = rest

  pub all_left : (cs : List Node) → HaveShapes (replicate (length cs) (one σ)) cs → list_all p cs ≡ true → list_all p (map stripped (filter stays cs)) ≡ true
  all_left [] has h = refl
  all_left (c ∷ cs) has h =
      let t = both (p c) (list_all p cs) h in
      chosen_all (stays c) c (filter stays cs) (kept c has.0 t.0) (all_left cs has.1 t.1)
