-- Contexts do not matter to what stays in a list, nor to whether all that is TypeScript is types.
use Rattle.std.proofs.Common.{◌≡◌, ℕ, Bool, true, false, ◌&&◌, ◌||◌, not, cond, List, [], ◌∷◌, map, get_or, refl, sym, ap, ap₂, ◌∙◌, subst, slice_get}
use Rattle.std.specs.List.{list_any}
use Rattle.ecma_kind.specs.Sorts.{belongs}
use Rattle.ecma_kind.specs.declared.kind.Kind.{Kind}
use Rattle.ecma_kind.specs.declared.kind.Kind.TheVariants as kind
use Rattle.ecma_kind.specs.declared.shapes.Sort.TheVariants as sort
use Rattle.ecma_tree.specs.Contexts.{kind_with_context, with_contexts}
use Rattle.ecma_tree.specs.Nodes.{node_of}
use Rattle.ecma_tree.specs.Sorted.{is_list}
use Rattle.ecma_tree.specs.declared.node.Node.{Node, Node-F, ind-Node, out-Node, roll-Node}
use Rattle.ecma_tree.specs.declared.node.Node.TheViews.{out-roll-Node}
use Rattle.ecma_tree.proofs.Changing.{changed-parts}
use Rattle.ecma_scope.specs.Laws.{ResolvedChangesContexts}
use Rattle.ecma_scope.specs.Resolved.{resolved}
use Rattle.ecma_strip.specs.Staying.{if_there, is_ambient, is_declared, is_empty_stmt, is_export, is_this, is_this_by, is_this_ident, is_this_param, is_this_param_by, item_stays, member_stays, member_stays_by, specifier_stays, stays}
use Rattle.ecma_hygiene_scopes.proofs.Parts.{children-of, kind-of}
use Rattle.ecma_sources.specs.TypesAlone.{adds_types_alone, adds_types_by, has_ambient_head, has_bodiless, has_stray_receiver, is_lone_receiver, is_lowered, is_receiver, lacks_body, lacks_body_by, staying_hold}
use Rattle.ecma_pipeline_runs.proofs.Nodes.{alone-out}
use Rattle.ecma_tree.specs.Values.{holds_ambient, is_function, is_value, is_value_where, value_at, value_by}
use Rattle.ecma_tree.proofs.Valuing.{is_value_where-out, value_where_by}

module _ (context_of : List ℕ → ℕ → ℕ) where
  abbrev turned : Node → Node
  turned = with_contexts context_of

  parts-turned : (n : Node) → turned n ≡ node_of (out-Node n).span (kind_with_context context_of (out-Node n).kind) (map turned (out-Node n).children)
  parts-turned = changed-parts (λ span. span) (kind_with_context context_of)

  kind-turned : (n : Node) → (out-Node (turned n)).kind ≡ kind_with_context context_of (out-Node n).kind
  kind-turned n = ap (λ (z : Node). (out-Node z).kind) (parts-turned n) ∙ kind-of (out-Node n).span (kind_with_context context_of (out-Node n).kind) (map turned (out-Node n).children)

  children-turned : (n : Node) → (out-Node (turned n)).children ≡ map turned (out-Node n).children
  children-turned n = ap (λ (z : Node). (out-Node z).children) (parts-turned n) ∙ children-of (out-Node n).span (kind_with_context context_of (out-Node n).kind) (map turned (out-Node n).children)

  -- values
  value-by : (stays : Bool) (k : Kind) (cs : List Node) → value_where_by stays (kind_with_context context_of k) cs ≡ value_where_by stays k cs
  unfolding value_by
  value-by stays (kind.Ident s c o) cs = refl
  value-by stays _ cs = refl

  abbrev Valued : Node → Type 0
  Valued n = (stays : Bool) → is_value_where stays (turned n) ≡ is_value_where stays n

  abbrev AllValued : List Node → Type 0
  AllValued ns = (stays : Bool) → map (is_value_where stays) (map turned ns) ≡ map (is_value_where stays) ns

  all-valued : (ns : List ((n : Node) × Valued n)) → AllValued (map (λ e. e.0) ns)
  all-valued [] stays = refl
  all-valued (n ∷ ns) stays = ap₂ (λ (a : Bool) (rest : List Bool). a ∷ rest) (n.1 stays) (all-valued ns stays)

  layer-valued : (n : Node) → AllValued (out-Node n).children → Valued n
  layer-valued n children stays =
      let k = (out-Node n).kind in
      is_value_where-out stays (turned n)
      ∙ ap₂ (value_where_by stays) (kind-turned n) (children-turned n)
      ∙ value-by stays k (map turned (out-Node n).children)
      ∙ ap (λ (vs : List Bool). (is_function k && not stays) || value_by k vs) (children (not (holds_ambient k) && stays)) ∙ sym (is_value_where-out stays n)

  valued : (n : Node) → Valued n
  valued = ind-Node Valued (λ x y is.
      layer-valued (roll-Node x) (subst AllValued (ap (λ (z : Node-F Node). z.children) is ∙ sym (ap (λ (z : Node-F Node). z.children) (out-roll-Node x))) (all-valued y.children)))

  -- the test
  lowered-by : (k : Kind) → is_lowered (kind_with_context context_of k) ≡ is_lowered k
  lowered-by (kind.Ident s c o) = refl
  lowered-by _ = refl

  declared-by : (k : Kind) → is_declared (kind_with_context context_of k) ≡ is_declared k
  unfolding is_declared
  declared-by (kind.Ident s c o) = refl
  declared-by _ = refl

  declared-turned : (n : Node) → is_declared (out-Node (turned n)).kind ≡ is_declared (out-Node n).kind
  declared-turned n = ap is_declared (kind-turned n) ∙ declared-by (out-Node n).kind

  body-by : (k : Kind) (value : Bool) → lacks_body_by (kind_with_context context_of k) value ≡ lacks_body_by k value
  body-by (kind.Ident s c o) value = refl
  body-by _ value = refl

  body-turned : (n : Node) → lacks_body (turned n) ≡ lacks_body n
  body-turned n = ap₂ lacks_body_by (kind-turned n) (valued n true) ∙ body-by (out-Node n).kind (is_value n)

  bodies-turned : (cs : List Node) → list_any lacks_body (map turned cs) ≡ list_any lacks_body cs
  bodies-turned [] = refl
  bodies-turned (c ∷ cs) = ap₂ (λ (a b : Bool). a || b) (body-turned c) (bodies-turned cs)

  head-by : (k : Kind) (cs : List Node) → has_ambient_head (kind_with_context context_of k) (map turned cs) ≡ has_ambient_head k cs
  head-by kind.ForStmt (c ∷ cs) = declared-turned c
  head-by kind.ForStmt [] = refl
  head-by kind.ForInStmt (c ∷ cs) = declared-turned c
  head-by kind.ForInStmt [] = refl
  head-by (kind.ForOfStmt w) (c ∷ cs) = declared-turned c
  head-by (kind.ForOfStmt w) [] = refl
  head-by (kind.Ident s c o) cs = refl
  head-by _ cs = refl

  bodiless-by : (k : Kind) (cs : List Node) → has_bodiless (kind_with_context context_of k) (map turned cs) ≡ has_bodiless k cs
  bodiless-by kind.ExportDefaultDecl cs = refl
  bodiless-by (kind.Ident s c o) cs = bodies-turned cs
  bodiless-by _ cs = bodies-turned cs

  -- names `this`
  ident-by : (k : Kind) → is_this_ident (kind_with_context context_of k) ≡ is_this_ident k
  ident-by (kind.Ident s c o) = refl
  ident-by _ = refl

  ident-turned : (n : Node) → is_this_ident (out-Node (turned n)).kind ≡ is_this_ident (out-Node n).kind
  ident-turned n = ap is_this_ident (kind-turned n) ∙ ident-by (out-Node n).kind

  first-turned : (f : Node → Bool) → ((c : Node) → f (turned c) ≡ f c) → (n : Node) → if_there (slice_get (out-Node (turned n)).children 0) f ≡ if_there (slice_get (out-Node n).children 0) f
  first-turned f same n = ap (λ (cs : List Node). if_there (slice_get cs 0) f) (children-turned n) ∙ by (out-Node n).children
    where
      by : (cs : List Node) → if_there (slice_get (map turned cs) 0) f ≡ if_there (slice_get cs 0) f
      by [] = refl
      by (c ∷ cs) = same c

  this-by : (k : Kind) (n : Node) → is_this_by (kind_with_context context_of k) (turned n) ≡ is_this_by k n
  this-by kind.BindingIdent n = first-turned (λ c. is_this_ident (out-Node c).kind) ident-turned n
  this-by (kind.Ident s c o) n = refl
  this-by _ n = refl

  this-turned : (n : Node) → is_this (turned n) ≡ is_this n
  this-turned n = ap (λ (k : Kind). is_this_by k (turned n)) (kind-turned n) ∙ this-by (out-Node n).kind n

  param-by : (k : Kind) (n : Node) → is_this_param_by (kind_with_context context_of k) (turned n) ≡ is_this_param_by k n
  param-by kind.Param n = first-turned is_this this-turned n
  param-by (kind.Ident s c o) n = this-turned n
  param-by _ n = this-turned n

  param-turned : (n : Node) → is_this_param (turned n) ≡ is_this_param n
  param-turned n = ap (λ (k : Kind). is_this_param_by k (turned n)) (kind-turned n) ∙ param-by (out-Node n).kind n

  receiver-turned : (n : Node) → is_receiver (turned n) ≡ is_receiver n
  receiver-turned n = ap₂ (λ (a b : Bool). a || b) (ident-turned n) (param-turned n)

  any-turned : (f : Node → Bool) → ((c : Node) → f (turned c) ≡ f c) → (cs : List Node) → list_any f (map turned cs) ≡ list_any f cs
  any-turned f same [] = refl
  any-turned f same (c ∷ cs) = ap₂ (λ (a b : Bool). a || b) (same c) (any-turned f same cs)

  stray-by : (k : Kind) (cs : List Node) → has_stray_receiver (kind_with_context context_of k) (map turned cs) ≡ has_stray_receiver k cs
  stray-by kind.List cs = any-turned is_lone_receiver (λ c. ap₂ (λ (a b : Bool). a || b) (ident-turned c) (this-turned c)) cs
  stray-by kind.Param cs = any-turned (λ c. is_this_ident (out-Node c).kind) ident-turned cs
  stray-by kind.BindingIdent [] = refl
  stray-by kind.BindingIdent (c ∷ cs) = any-turned is_receiver receiver-turned cs
  stray-by kind.SetterProp [] = refl
  stray-by kind.SetterProp (c ∷ []) = any-turned is_receiver receiver-turned (c ∷ [])
  stray-by kind.SetterProp (c ∷ d ∷ cs) = ap₂ (λ (a b : Bool). a || b) (receiver-turned c) (any-turned is_receiver receiver-turned cs)
  stray-by (kind.Ident s c o) cs = any-turned is_receiver receiver-turned cs
  stray-by _ cs = any-turned is_receiver receiver-turned cs

  test-by : (k : Kind) (cs : List Node) → adds_types_by (kind_with_context context_of k) (map turned cs) ≡ adds_types_by k cs
  test-by k cs = (λ j. not (lowered-by k j) && (not (head-by k cs j) && (not (bodiless-by k cs j) && not (stray-by k cs j))))

  -- what stays
  item-by : (k : Kind) (value ambient : Bool)
      → cond (is_empty_stmt (kind_with_context context_of k)) true (cond (belongs sort.ModuleItem (kind_with_context context_of k)) (value && not ambient) true) ≡ cond (is_empty_stmt k) true (cond (belongs sort.ModuleItem k) (value && not ambient) true)
  item-by (kind.Ident s c o) value ambient = refl
  item-by _ value ambient = refl

  export-by : (k : Kind) → is_export (kind_with_context context_of k) ≡ is_export k
  export-by (kind.Ident s c o) = refl
  export-by _ = refl

  ambient-turned : (n : Node) → is_ambient (turned n) ≡ is_ambient n
  ambient-turned n =
      ap₂ (λ (e f : Bool). cond e f (is_declared (out-Node (turned n)).kind)) (ap is_export (kind-turned n) ∙ export-by (out-Node n).kind) (first-turned (λ x. is_declared (out-Node x).kind) declared-turned n)
      ∙ ap (cond (is_export (out-Node n).kind) (if_there (slice_get (out-Node n).children 0) (λ x. is_declared (out-Node x).kind))) (declared-turned n)

  item-turned : (n : Node) → item_stays (turned n) ≡ item_stays n
  item-turned n =
      ap₂ (λ (v a : Bool). cond (is_empty_stmt (out-Node (turned n)).kind) true (cond (belongs sort.ModuleItem (out-Node (turned n)).kind) (v && not a) true)) (valued n true) (ambient-turned n)
      ∙ ap (λ (k : Kind). cond (is_empty_stmt k) true (cond (belongs sort.ModuleItem k) (is_value n && not (is_ambient n)) true)) (kind-turned n) ∙ item-by (out-Node n).kind (is_value n) (is_ambient n)

  values-turned : (cs : List Node) → map is_value (map turned cs) ≡ map is_value cs
  values-turned [] = refl
  values-turned (c ∷ cs) = ap₂ (λ (a : Bool) (rest : List Bool). a ∷ rest) (valued c true) (values-turned cs)

  value-at-turned : (i : ℕ) (n : Node) → value_at i (turned n) ≡ value_at i n
  value-at-turned i n = ap (λ (vs : List Bool). get_or vs i false) (ap (map is_value) (children-turned n) ∙ values-turned (out-Node n).children)

  member-by : (k : Kind) (n : Node) → member_stays_by (kind_with_context context_of k) (turned n) ≡ member_stays_by k n
  unfolding member_stays_by
  member-by (kind.Ident s c o) n = refl
  member-by (kind.Constructor a o) n = value-at-turned 2 n
  member-by (kind.ClassMethod m o) n = ap (λ (b : Bool). not o.is_abstract && b) (value-at-turned 1 n)
  member-by (kind.PrivateMethod m o) n = ap (λ (b : Bool). not o.is_abstract && b) (value-at-turned 1 n)
  member-by _ n = refl

  member-turned : (n : Node) → member_stays (turned n) ≡ member_stays n
  member-turned n = ap (λ (k : Kind). member_stays_by k (turned n)) (kind-turned n) ∙ member-by (out-Node n).kind n

  specifier-by : (k : Kind) → specifier_stays (kind_with_context context_of k) ≡ specifier_stays k
  unfolding specifier_stays
  specifier-by (kind.Ident s c o) = refl
  specifier-by _ = refl

  pub stays-turned : (n : Node) → stays (turned n) ≡ stays n
  unfolding stays
  stays-turned n =
      ap₂ (λ (a b : Bool). a && b) (ap₂ (λ (a b : Bool). a && b) (ap₂ (λ (a b : Bool). a && b) (item-turned n) (member-turned n)) (ap specifier_stays (kind-turned n) ∙ specifier-by (out-Node n).kind)) (ap not (param-turned n))

  list-by : (k : Kind) → is_list (kind_with_context context_of k) ≡ is_list k
  list-by (kind.Ident s c o) = refl
  list-by _ = refl

  abbrev Same : Node → Type 0
  Same n = adds_types_alone (turned n) ≡ adds_types_alone n

  abbrev AllSame : List Node → Type 0
  AllSame cs = (list : Bool) → staying_hold list (map turned cs) (map adds_types_alone (map turned cs)) ≡ staying_hold list cs (map adds_types_alone cs)

  all-same : (ns : List ((n : Node) × Same n)) → AllSame (map (λ e. e.0) ns)
  all-same [] list = refl
  all-same (n ∷ ns) list = ap₂ (λ (a b : Bool). a && b) (ap₂ (λ (a b : Bool). (list && not a) || b) (stays-turned n.0) n.1) (all-same ns list)

  layer-same : (n : Node) → AllSame (out-Node n).children → Same n
  layer-same n children =
      alone-out (turned n)
      ∙ ap₂ (λ (k : Kind) (cs : List Node). adds_types_by k cs && staying_hold (is_list k) cs (map adds_types_alone cs)) (kind-turned n) (children-turned n)
      ∙ ap₂ (λ (a b : Bool). a && b) (test-by (out-Node n).kind (out-Node n).children)
      (ap (λ (l : Bool). staying_hold l (map turned (out-Node n).children) (map adds_types_alone (map turned (out-Node n).children))) (list-by (out-Node n).kind) ∙ children (is_list (out-Node n).kind)) ∙ sym (alone-out n)

  pub contexts-do-not-matter : (n : Node) → Same n
  contexts-do-not-matter = ind-Node Same (λ x y is.
      layer-same (roll-Node x) (subst AllSame (ap (λ (z : Node-F Node). z.children) is ∙ sym (ap (λ (z : Node-F Node). z.children) (out-roll-Node x))) (all-same y.children)))

-- so it is of a resolved tree where it is of the tree
pub resolved-adds-types : ResolvedChangesContexts → (unresolved top left : ℕ) (tree : Node) → adds_types_alone tree ≡ true → adds_types_alone (resolved unresolved top left tree) ≡ true
resolved-adds-types same unresolved top left tree h =
    sym (contexts-do-not-matter (λ sym ctxt. 0) (resolved unresolved top left tree)) ∙ ap adds_types_alone (same unresolved top left tree) ∙ contexts-do-not-matter (λ sym ctxt. 0) tree ∙ h
