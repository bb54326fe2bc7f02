-- A tree with other contexts has the same names to bind.
use Rattle.std.proofs.Common.{◌≡◌, ◌∙◌, ℕ, suc, Bool, true, false, ◌&&◌, ◌||◌, cond, List, [], ◌∷◌, map, Some, refl, sym, ap, ap₂, slice_get}
use Rattle.ecma_kind.specs.Sorts.{is_type_wrapper}
use Rattle.ecma_kind.specs.declared.kind.Kind.{Kind}
use Rattle.ecma_kind.specs.declared.kind.Kind.TheVariants as kind
use Rattle.ecma_tree.specs.Contexts.{kind_with_context, with_contexts}
use Rattle.ecma_tree.specs.declared.node.Node.{Node, Node-F, fold_out-Node, out-Node}
use Rattle.ecma_tree.specs.declared.node.Node.TheViews.{out-roll-Node}
use Rattle.ecma_tree.specs.Nodes.{absent, node_of}
use Rattle.ecma_tree.proofs.Changing.{changed-parts}
use Rattle.ecma_tree.proofs.Layers.{from_leaves_out}
use Rattle.ecma_rules.specs.Children.{kind_of}
use Rattle.ecma_rules.specs.Finishing.{binding}
use Rattle.ecma_rules.specs.Targets.{first_is}
use Rattle.ecma_fits.specs.declared.role.Role.{Role}
use Rattle.ecma_fits.specs.Roles.{is_name, role_in}
use Rattle.ecma_bind.specs.Binding.{binds, bound_at, first_or, is_name_under_types, is_typed_name, names_step, under_types}
use Rattle.ecma_bind_fits.proofs.Alike.{bound_parts, usual_children, usual_kind, usual_span}
use Rattle.ecma_bind_fits.proofs.Bound.{bound_each, by_children, children_of, typed_is, usual_is}

module _ (context_of : List ℕ → ℕ → ℕ) where
  abbrev turned : Node → Node
  turned = with_contexts context_of

  abbrev kind_to : Kind → Kind
  kind_to = kind_with_context context_of

  turned-out : (n : Node) → turned n ≡ node_of (out-Node n).span (kind_to (kind_of n)) (map turned (children_of n))
  turned-out = changed-parts (λ span. span) kind_to

  out-turned : (n : Node) → out-Node (turned n) ≡ record { span = (out-Node n).span; kind = kind_to (kind_of n); children = map turned (children_of n) }
  out-turned n = ap out-Node (turned-out n) ∙ out-roll-Node (record { span = (out-Node n).span; kind = kind_to (kind_of n); children = map turned (children_of n) })

  kind-turned : (n : Node) → kind_of (turned n) ≡ kind_to (kind_of n)
  kind-turned n = ap (λ (z : Node-F Node). z.kind) (out-turned n)

  children-turned : (n : Node) → children_of (turned n) ≡ map turned (children_of n)
  children-turned n = ap (λ (z : Node-F Node). z.children) (out-turned n)

  wrapper_told : (k : Kind) → is_type_wrapper (kind_to k) ≡ is_type_wrapper k
  wrapper_told (kind.Ident s c o) = refl
  wrapper_told _ = refl

  name_told : (k : Kind) → is_name (kind_to k) ≡ is_name k
  name_told (kind.Ident s c o) = refl
  name_told _ = refl

  role_told : (k : Kind) (r : Role) (i : ℕ) → role_in r (kind_to k) i ≡ role_in r k i
  unfolding role_in
  role_told (kind.Ident s c o) r i = refl
  role_told _ r i = refl

  -- ---- names under types

  abbrev Names : Node → Type 0
  Names n = is_name_under_types (turned n) ≡ is_name_under_types n

  first_names : (cs : List Node) → ((i : ℕ) (c : Node) → slice_get cs i ≡ Some c → Names c) → first_is (map is_name_under_types (map turned cs)) ≡ first_is (map is_name_under_types cs)
  first_names [] below = refl
  first_names (c ∷ cs) below = below 0 c refl

  names_turned : (n : Node) → Names n
  names_turned = by_children Names (λ n below.
      fold_out-Node Bool names_step (turned n)
      ∙ ap₂ (λ (k : Kind) (cs : List Node). is_name k || (is_type_wrapper k && first_is (map is_name_under_types cs))) (kind-turned n) (children-turned n)
      ∙ ap₂ (λ a b. a || (b && first_is (map is_name_under_types (map turned (children_of n))))) (name_told (kind_of n)) (wrapper_told (kind_of n))
      ∙ ap (λ b. is_name (kind_of n) || (is_type_wrapper (kind_of n) && b)) (first_names (children_of n) below)
      ∙ sym (fold_out-Node Bool names_step n))

  typed_turned : (r : Role) (n : Node) → is_typed_name r (turned n) ≡ is_typed_name r n
  typed_turned r n = ap₂ (λ a b. binds r && (a && b)) (ap is_type_wrapper (kind-turned n) ∙ wrapper_told (kind_of n)) (names_turned n)

  -- ---- what stands under types

  under-out : (n : Node) → under_types n ≡ cond (is_type_wrapper (kind_of n)) (first_or n (map under_types (children_of n))) n
  under-out = from_leaves_out Node (λ node inner. cond (is_type_wrapper (kind_of node)) (first_or node inner) node)

  abbrev Under : Node → Type 0
  Under n = under_types (turned n) ≡ turned (under_types n)

  first_under : (n : Node) (cs : List Node) → ((i : ℕ) (c : Node) → slice_get cs i ≡ Some c → Under c) → first_or (turned n) (map under_types (map turned cs)) ≡ turned (first_or n (map under_types cs))
  first_under n [] below = refl
  first_under n (c ∷ cs) below = below 0 c refl

  either : (b : Bool) (x y : Node) → cond b (turned x) (turned y) ≡ turned (cond b x y)
  either true x y = refl
  either false x y = refl

  under_turned : (n : Node) → Under n
  under_turned = by_children Under (λ n below.
      under-out (turned n)
      ∙ ap₂ (λ b (cs : List Node). cond b (first_or (turned n) (map under_types cs)) (turned n)) (ap is_type_wrapper (kind-turned n) ∙ wrapper_told (kind_of n)) (children-turned n)
      ∙ ap (λ (z : Node). cond (is_type_wrapper (kind_of n)) z (turned n)) (first_under n (children_of n) below)
      ∙ either (is_type_wrapper (kind_of n)) (first_or n (map under_types (children_of n))) n
      ∙ ap turned (sym (under-out n)))

  -- ---- names that are bound

  absent_turned : turned absent ≡ absent
  absent_turned =
      turned-out absent
      ∙ ap (λ (z : Node-F Node). node_of z.span (kind_to z.kind) (map turned z.children)) (out-roll-Node (record { span = record { lo = 0; hi = 0 }; kind = kind.Absent; children = [] }))

  binding_turned : (u : Node) → turned (binding u) ≡ binding (turned u)
  binding_turned u =
      turned-out (binding u)
      ∙ ap (λ (z : Node-F Node). node_of z.span (kind_to z.kind) (map turned z.children)) (bound_parts u)
      ∙ ap (λ (z : Node). node_of (out-Node u).span kind.BindingIdent (turned u ∷ z ∷ [])) absent_turned
      ∙ ap (λ at. node_of at kind.BindingIdent (turned u ∷ absent ∷ [])) (sym (ap (λ (z : Node-F Node). z.span) (out-turned u)))

  abbrev Binds : Node → Type 0
  Binds n = (r : Role) → turned (bound_at n r) ≡ bound_at (turned n) r

  each_turned : (cs : List Node) (a b : ℕ → Role) → ((i : ℕ) → a i ≡ b i) → ((i : ℕ) (c : Node) → slice_get cs i ≡ Some c → Binds c) → map turned (bound_each a cs) ≡ bound_each b (map turned cs)
  each_turned [] a b same below = refl
  each_turned (c ∷ cs) a b same below =
      ap₂ (λ x xs. x ∷ xs) (below 0 c refl (a 0) ∙ ap (bound_at (turned c)) (same 0)) (each_turned cs (λ i. a (suc i)) (λ i. b (suc i)) (λ i. same (suc i)) (λ i d at. below (suc i) d at))

  pub bound_turned : (n : Node) → Binds n
  bound_turned = by_children Binds (λ n below r. by n below r (is_typed_name r n) refl)
    where
      by : (n : Node) → ((i : ℕ) (c : Node) → slice_get (children_of n) i ≡ Some c → Binds c) → (r : Role) (t : Bool) → is_typed_name r n ≡ t → turned (bound_at n r) ≡ bound_at (turned n) r
      by n below r true t = ap turned (typed_is n r t) ∙ binding_turned (under_types n) ∙ ap binding (sym (under_turned n)) ∙ sym (typed_is (turned n) r (typed_turned r n ∙ t))
      by n below r false t =
          let k = kind_of n in
          turned-out (bound_at n r)
          ∙ ap₂ (λ (z : Kind) (cs : List Node). node_of (out-Node (bound_at n r)).span (kind_to z) (map turned cs)) (usual_kind n r t) (usual_children n r t)
          ∙ ap₂ (λ at cs. node_of at (kind_to k) cs) (usual_span n r t) (each_turned (children_of n) (role_in r k) (role_in r (kind_to k)) (λ i. sym (role_told k r i)) below)
          ∙ ap (λ (z : Node-F Node). node_of z.span z.kind (bound_each (role_in r z.kind) z.children)) (sym (out-turned n))
          ∙ sym (usual_is (turned n) r (typed_turned r n ∙ t))
