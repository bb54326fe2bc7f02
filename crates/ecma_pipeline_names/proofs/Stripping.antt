-- A tree without its types has its identifiers' texts, as far as it has its identifiers.
use Rattle.std.proofs.Common.{◌≡◌, ◌∙◌, ℕ, zero, suc, Bool, true, false, not, cond, List, [], ◌∷◌, map, filter, refl, sym, ap, subst}
use Rattle.ecma_kind.specs.declared.kind.Kind.{Kind}
use Rattle.ecma_kind.specs.declared.kind.Kind.TheVariants as kind
use Rattle.ecma_kind.specs.declared.span.Span.{Span}
use Rattle.ecma_tree.specs.declared.node.Node.{Node, out-Node}
use Rattle.ecma_tree.specs.Nodes.{absent, node_of}
use Rattle.ecma_tree.specs.Sorted.{is_absent}
use Rattle.ecma_text_leaves.specs.Everywhere.{everywhere, more, none}
use Rattle.ecma_text_leaves.proofs.Trees.{children_good, each_filter, kind_good}
use Rattle.ecma_strip.specs.Staying.{is_empty_stmt, item_stays, stays}
use Rattle.ecma_strip.specs.Stripping.{body_of, changed_at, operand, plain, plain_children, plain_kind, staying_nodes, stripped, without_empty, without_this}
use Rattle.ecma_strip.proofs.Stripping.{stripped-roll}
use Rattle.ecma_strip_fits.proofs.Classes.{Class, class_of, only_list, plain_listed, plain_typed, plain_usual, plain_wrapped}
use Rattle.ecma_strip_fits.proofs.Classes.Class.{Listed, Typed, Usual, Wrapped}
use Rattle.ecma_pipeline_names.specs.Laws.{StrippingKeepsNamesShort}
use Rattle.ecma_pipeline_names.proofs.Throughout.{All, Good, IsShort, all_short, either, missing, node_good, none_long}

-- ---- a node whose children have no types any more

kind_short : (k : Kind) → IsShort k → IsShort (plain_kind k)
unfolding plain_kind
kind_short (kind.Ident text ctxt optional) h = h
kind_short _ h = refl

changed_good : (i : ℕ) (to : Node → Node) → ((n : Node) → Good n → Good (to n)) → {cs : List Node} → All cs → All (changed_at i to cs)
changed_good i to keeps none = none
changed_good zero to keeps (more {n = n} a h) = more (keeps n a) h
changed_good (suc i) to keeps (more a h) = more a (changed_good i to keeps h)

tidied_good : (n : Node) → Good n → Good (without_empty n)
tidied_good n g = node_good (out-Node n).span (out-Node n).kind (kind_good IsShort g) (each_filter IsShort (λ c. not (is_empty_stmt (out-Node c).kind)) (children_good IsShort g))

body_good : (n : Node) → Good n → Good (body_of n)
body_good n g = either (item_stays n) n (node_of (out-Node n).span kind.EmptyStmt []) g (node_good (out-Node n).span kind.EmptyStmt refl none)

lone_good : (n : Node) → Good n → Good (without_this n)
lone_good n g = either (is_absent (out-Node n).kind) n absent g missing

items_good : (i : ℕ) {cs : List Node} → All cs → All (changed_at i without_empty cs)
items_good i h = changed_good i without_empty tidied_good h

bodies_good : (i : ℕ) {cs : List Node} → All cs → All (changed_at i body_of cs)
bodies_good i h = changed_good i body_of body_good h

plain_children_good : (k : Kind) {cs : List Node} → All cs → All (plain_children k cs)
unfolding plain_children
plain_children_good (kind.Module shebang) h = items_good 0 h
plain_children_good (kind.Script shebang) h = items_good 0 h
plain_children_good kind.BlockStmt h = items_good 0 h
plain_children_good kind.TsModuleBlock h = items_good 0 h
plain_children_good kind.SwitchCase h = items_good 1 h
plain_children_good kind.IfStmt h = bodies_good 1 (bodies_good 2 h)
plain_children_good kind.LabeledStmt h = bodies_good 1 h
plain_children_good kind.WhileStmt h = bodies_good 1 h
plain_children_good kind.DoWhileStmt h = bodies_good 1 h
plain_children_good kind.ForStmt h = bodies_good 3 h
plain_children_good kind.ForInStmt h = bodies_good 2 h
plain_children_good (kind.ForOfStmt is_await) h = bodies_good 2 h
plain_children_good kind.SetterProp h = changed_good 1 without_this lone_good h
plain_children_good _ h = h

operand_good : (span : Span) (k : Kind) {cs : List Node} → IsShort k → All cs → Good (operand span k cs)
operand_good span k p none = node_good span k p none
operand_good span k p (more a h) = a

plain_good : (span : Span) (k : Kind) {cs : List Node} → IsShort k → All cs → Good (plain span k cs)
plain_good span k {cs} p h = by (class_of k) refl
  where
    by : (c : Class) → class_of k ≡ c → Good (plain span k cs)
    by Typed e = subst Good (sym (plain_typed span cs k e)) missing
    by Wrapped e = subst Good (sym (plain_wrapped span cs k e)) (operand_good span k p h)
    by Listed e = subst Good (sym (ap (λ z. plain span z cs) (only_list k e) ∙ plain_listed span cs)) (node_good span kind.List refl h)
    by Usual e = subst Good (sym (plain_usual span cs k e)) (node_good span (plain_kind k) (kind_short k p) (plain_children_good k h))

-- ---- from the leaves up

staying_good : (k : Kind) (ns : List Node) → All (map stripped (filter stays ns)) → All (map stripped ns) → All (map stripped (staying_nodes k ns))
staying_good kind.List ns some every = some
staying_good _ ns some every = every

kept_good : (b : Bool) (n : Node) (ns : List Node) → Good (stripped n) → All (map stripped ns) → All (map stripped (cond b (n ∷ ns) ns))
kept_good true n ns g h = more g h
kept_good false n ns g h = h

mutual
  stripped_good : {n : Node} → Good n → Good (stripped n)
  stripped_good (everywhere span k {children = cs} p h) =
      subst Good (sym (stripped-roll (record { span = span; kind = k; children = cs }))) (plain_good span k p (staying_good k cs (some_good h) (every_good h)))

  some_good : {ns : List Node} → All ns → All (map stripped (filter stays ns))
  some_good none = none
  some_good (more {n = n} {ns = ns} a h) = kept_good (stays n) n (filter stays ns) (stripped_good a) (some_good h)

  every_good : {ns : List Node} → All ns → All (map stripped ns)
  every_good none = none
  every_good (more a h) = more (stripped_good a) (every_good h)

pub names_left : StrippingKeepsNamesShort
names_left tree h = none_long _ (stripped_good (all_short tree h))
