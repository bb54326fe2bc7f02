-- A tree with bound names has its identifiers where they stood.
use Rattle.std.proofs.Common.{ℕ, suc, cond, List, map, refl, sym, ap, subst}
use Rattle.ecma_kind.specs.Sorts.{is_type_wrapper}
use Rattle.ecma_kind.specs.declared.kind.Kind.TheVariants as kind
use Rattle.ecma_tree.specs.declared.node.Node.{Node, out-Node}
use Rattle.ecma_tree.specs.Nodes.{node_of}
use Rattle.ecma_rules.specs.Children.{kind_of}
use Rattle.ecma_rules.specs.Finishing.{binding}
use Rattle.ecma_fits.specs.declared.role.Role.{Role}
use Rattle.ecma_fits.specs.declared.role.Role.TheVariants as role
use Rattle.ecma_fits.specs.Roles.{role_in}
use Rattle.ecma_bind.specs.Binding.{bound_at, bound_step, each_at, first_or, is_typed_name, under_types, with_children}
use Rattle.ecma_pipeline_spans.specs.Laws.{BindingMakesNoNames}
use Rattle.ecma_pipeline_spans.proofs.Trees.{either, everywhere, more, none, own_good}
use Rattle.ecma_pipeline_spans.proofs.Throughout.{All, Good, IsOwn, all_own, missing, node_good, none_made}
use Rattle.ecma_tree.proofs.Layers.{from_leaves-roll}

binding_good : (n : Node) → Good n → Good (binding n)
binding_good n g = node_good (out-Node n).span kind.BindingIdent refl (more g (more missing none))

first_good : (n : Node) {cs : List Node} → Good n → All cs → Good (first_or n cs)
first_good n g none = g
first_good n g (more a h) = a

mutual
  under_good : {n : Node} → Good n → Good (under_types n)
  under_good (everywhere span k {children = cs} p h) =
      let n = node_of span k cs in
      let itself = node_good span k p h in
      subst Good (sym (from_leaves-roll Node (λ node inner. cond (is_type_wrapper (kind_of node)) (first_or node inner) node) (record { span = span; kind = k; children = cs })))
      (either IsOwn (is_type_wrapper (kind_of n)) (first_or n (map under_types cs)) n (first_good n itself (all_under h)) itself)

  all_under : {ns : List Node} → All ns → All (map under_types ns)
  all_under none = none
  all_under (more a h) = more (under_good a) (all_under h)

mutual
  bound_good : {n : Node} → Good n → (r : Role) → Good (bound_at n r)
  bound_good (everywhere span k {children = cs} p h) r =
      let n = node_of span k cs in
      let itself = node_good span k p h in
      let below = role_in r (kind_of n) in
      subst Good (sym (ap (λ f. f r) (from_leaves-roll (Role → Node) bound_step (record { span = span; kind = k; children = cs }))))
      (either IsOwn (is_typed_name r n) (binding (under_types n)) (with_children n (each_at below (map bound_at cs))) (binding_good (under_types n) (under_good itself))
      (node_good (out-Node n).span (kind_of n) (own_good IsOwn itself) (each_good h below)))

  each_good : {ns : List Node} → All ns → (role_of : ℕ → Role) → All (each_at role_of (map bound_at ns))
  each_good none role_of = none
  each_good (more a h) role_of = more (bound_good a (role_of 0)) (each_good h (λ i. role_of (suc i)))

pub names_bound : BindingMakesNoNames
names_bound tree h = none_made _ (bound_good (all_own tree h) role.Free)
