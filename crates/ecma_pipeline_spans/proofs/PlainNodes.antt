-- What holds of the span and the kind of each node, holds of each node that is made plain, where it does not matter to it what kinds say of types.
use Rattle.std.proofs.Common.{◌≡◌, ◌∙◌, ℕ, zero, suc, not, List, [], refl, sym, ap, subst}
use Rattle.ecma_kind.specs.declared.kind.Kind.{Kind}
use Rattle.ecma_kind.specs.declared.kind.Kind.TheVariants as kind
use Rattle.ecma_kind.specs.declared.span.Span.{Span}
use Rattle.ecma_tree.specs.declared.node.Node.{Node, out-Node}
use Rattle.ecma_tree.specs.Nodes.{absent, dummy_span, node_of}
use Rattle.ecma_tree.specs.Sorted.{is_absent}
use Rattle.ecma_strip.specs.Staying.{is_empty_stmt, item_stays}
use Rattle.ecma_strip.specs.Stripping.{body_of, changed_at, operand, plain, plain_children, plain_kind, without_empty, without_this}
use Rattle.ecma_strip_fits.proofs.Classes.{Class, class_of, only_list, plain_listed, plain_typed, plain_usual, plain_wrapped}
use Rattle.ecma_strip_fits.proofs.Classes.Class.{Listed, Typed, Usual, Wrapped}
use Rattle.ecma_pipeline_spans.proofs.Trees.{Each, Everywhere, absent_good, children_good, each_filter, either, more, node_good, none, own_good}

module _ (P : Span → Kind → Type 0) (missing : P dummy_span kind.Absent) (empty : (at : Span) → P at kind.EmptyStmt) (keeps : (at : Span) (k : Kind) → P at k → P at (plain_kind k)) where
  abbrev Good : Node → Type 0
  Good = Everywhere P

  abbrev All : List Node → Type 0
  All = Each P

  changed_good : (i : ℕ) (to : Node → Node) → ((n : Node) → Good n → Good (to n)) → {cs : List Node} → All cs → All (changed_at i to cs)
  changed_good i to each none = none
  changed_good zero to each (more {n = n} a h) = more (each n a) h
  changed_good (suc i) to each (more a h) = more a (changed_good i to each h)

  tidied_good : (n : Node) → Good n → Good (without_empty n)
  tidied_good n g = node_good P (out-Node n).span (out-Node n).kind _ (own_good P g) (each_filter P (λ c. not (is_empty_stmt (out-Node c).kind)) (children_good P g))

  body_good : (n : Node) → Good n → Good (body_of n)
  body_good n g = either P (item_stays n) n (node_of (out-Node n).span kind.EmptyStmt []) g (node_good P (out-Node n).span kind.EmptyStmt [] (empty (out-Node n).span) none)

  lone_good : (n : Node) → Good n → Good (without_this n)
  lone_good n g = either P (is_absent (out-Node n).kind) n absent g (absent_good P missing)

  items_good : (i : ℕ) {cs : List Node} → All cs → All (changed_at i without_empty cs)
  items_good i h = changed_good i without_empty tidied_good h

  bodies_good : (i : ℕ) {cs : List Node} → All cs → All (changed_at i body_of cs)
  bodies_good i h = changed_good i body_of body_good h

  plain_children_good : (k : Kind) {cs : List Node} → All cs → All (plain_children k cs)
  unfolding plain_children
  plain_children_good (kind.Module shebang) h = items_good 0 h
  plain_children_good (kind.Script shebang) h = items_good 0 h
  plain_children_good kind.BlockStmt h = items_good 0 h
  plain_children_good kind.TsModuleBlock h = items_good 0 h
  plain_children_good kind.SwitchCase h = items_good 1 h
  plain_children_good kind.IfStmt h = bodies_good 1 (bodies_good 2 h)
  plain_children_good kind.LabeledStmt h = bodies_good 1 h
  plain_children_good kind.WhileStmt h = bodies_good 1 h
  plain_children_good kind.DoWhileStmt h = bodies_good 1 h
  plain_children_good kind.ForStmt h = bodies_good 3 h
  plain_children_good kind.ForInStmt h = bodies_good 2 h
  plain_children_good (kind.ForOfStmt is_await) h = bodies_good 2 h
  plain_children_good kind.SetterProp h = changed_good 1 without_this lone_good h
  plain_children_good _ h = h

  operand_good : (span : Span) (k : Kind) {cs : List Node} → P span k → All cs → Good (operand span k cs)
  operand_good span k p none = node_good P span k [] p none
  operand_good span k p (more a h) = a

  pub plain_good : (span : Span) (k : Kind) {cs : List Node} → P span k → All cs → Good (plain span k cs)
  plain_good span k {cs} p h = by (class_of k) refl
    where
      by : (c : Class) → class_of k ≡ c → Good (plain span k cs)
      by Typed e = subst Good (sym (plain_typed span cs k e)) (absent_good P missing)
      by Wrapped e = subst Good (sym (plain_wrapped span cs k e)) (operand_good span k p h)
      by Listed e = subst Good (sym (ap (λ z. plain span z cs) (only_list k e) ∙ plain_listed span cs)) (node_good P span kind.List cs (subst (P span) (only_list k e) p) h)
      by Usual e = subst Good (sym (plain_usual span cs k e)) (node_good P span (plain_kind k) (plain_children k cs) (keeps span k p) (plain_children_good k h))
