-- What stands around a node, as far as the rules ask.
use Rattle.std.specs.Prelude.{ℕ, Bool, true, not, ◌==◌, cond}
use Rattle.ecma_kind.specs.declared.kind.Kind.{Kind}
use Rattle.ecma_kind.specs.declared.kind.Kind.TheVariants as kind
use Rattle.ecma_tree.specs.declared.node.Node.{Node}
use Rattle.ecma_rules.specs.declared.standing.Standing.{Standing}
use Rattle.ecma_rules.specs.declared.standing.Standing.TheVariants as standing
use Rattle.ecma_rules.specs.declared.standing.Around.{Around}
use Rattle.ecma_rules.specs.declared.target.Target.TheVariants as target
use Rattle.ecma_rules.specs.Children.{kind_of, has_child}
use Rattle.ecma_rules.specs.Targets.{target_in}
use Rattle.ecma_rules.specs.Lists.{last_in}

-- this for the child that is meant, and nothing for the others
abbrev pub at_child : ℕ → ℕ → Standing → Standing
at_child wanted i s = cond (i == wanted) s standing.Plain

abbrev pub if_there : Bool → Standing → Standing
if_there there s = cond there s standing.Plain

abbrev pub in_branch : ℕ → Standing
in_branch i = cond (i == 0) standing.Plain standing.Body

-- how the child at an index stands: `first` says whether the child at 1 is there, and `second` the one at 2
unfoldable pub standing_by : Standing → Kind → Bool → Bool → ℕ → Standing
standing_by s kind.List first second i = s
standing_by s kind.SuperPropExpr first second i = at_child 0 i standing.Linked
standing_by s kind.CallExpr first second i = at_child 0 i standing.Linked
standing_by s (kind.Constructor accessibility is_optional) first second i = at_child 1 i (if_there second standing.Declaring)
standing_by s (kind.NamedExport type_only) first second i = at_child 0 i (if_there (not first) standing.Exported)
standing_by s (kind.ExportNamedSpecifier is_type_only) first second i = at_child 0 i s
standing_by s kind.IfStmt first second i = in_branch i
standing_by s kind.LabeledStmt first second i = at_child 1 i standing.Body
standing_by s kind.WhileStmt first second i = at_child 1 i standing.Body
standing_by s kind.DoWhileStmt first second i = at_child 1 i standing.Body
standing_by s kind.ForStmt first second i = at_child 3 i standing.Body
standing_by s kind.ForInStmt first second i = at_child 2 i standing.Body
standing_by s (kind.ForOfStmt is_await) first second i = at_child 2 i standing.Body
standing_by s _ first second i = standing.Plain

abbrev pub standing_in : Standing → Node → ℕ → Standing
standing_in s node i = standing_by s (kind_of node) (has_child node 1) (has_child node 2) i

abbrev pub around_in : Around → Node → ℕ → Around
around_in around node i =
    record { target = target_in around.target (kind_of node) i; standing = standing_in around.standing node i; is_last = last_in around.is_last node i }

-- the root
abbrev pub at_root : Around
at_root = record { target = target.Free; standing = standing.Plain; is_last = true }
