-- The parts of what is said of a node: of its shape, and of a place that is none.
use Rattle.std.proofs.Common.{◌≡◌, ℕ, Bool, true, false, length, Option, Some, None, refl, sym, subst}
use Rattle.ecma_kind.specs.declared.shapes.Shape.{Shape}
use Rattle.ecma_tree.specs.declared.node.Node.{Node, out-Node}
use Rattle.ecma_tree.specs.declared.node.Node.TheViews.{roll-out-Node}
use Rattle.ecma_tree.specs.Laws.{HaveShapes}
use Rattle.ecma_tree.specs.Sorted.{HasShape, allows, child_shapes}
use Rattle.ecma_tree.proofs.ShapeLaws.{node_has_shape}
use Rattle.ecma_rules.specs.Children.{kind_of}
use Rattle.ecma_rules.specs.Failing.{failing_here, least}
use Rattle.ecma_hygiene_fits.proofs.Everywhere.{children_of}

pub shape_parts : (n : Node) (o : Shape) → HasShape o n → (allows o (kind_of n) ≡ true) × HaveShapes (child_shapes (kind_of n) o (length (children_of n))) (children_of n)
shape_parts n o h = let x = out-Node n in (node_has_shape x.span x.kind x.children o).0 (subst (HasShape o) (sym (roll-out-Node n)) h)

pub neither_least : (a b : Option ℕ) → least a b ≡ None → (a ≡ None) × (b ≡ None)
neither_least None b h = (refl, h)
neither_least (Some i) None h = cc
neither_least (Some i) (Some j) h = cc

pub not_failing : (b : Bool) (n : Node) → failing_here b n ≡ None → b ≡ false
not_failing true n h = cc
not_failing false n h = refl
