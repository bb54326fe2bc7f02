-- What stays in a list, by its kind.
use Rattle.std.proofs.Common.{◌≡◌, Bool, true, ◌&&◌, not, cond, refl}
use Rattle.ecma_kind.specs.Sorts.{belongs}
use Rattle.ecma_kind.specs.declared.kind.Kind.{Kind}
use Rattle.ecma_kind.specs.declared.shapes.Sort.TheVariants as sort
use Rattle.ecma_tree.specs.declared.node.Node.{Node}
use Rattle.ecma_tree.specs.Values.{is_value}
use Rattle.ecma_rules.specs.Children.{kind_of}
use Rattle.ecma_strip.specs.Staying.{is_ambient, is_empty_stmt, is_this_param_by, member_stays_by, specifier_stays, stays}

abbrev pub stays_by : Kind → Node → Bool
stays_by k n =
    cond (is_empty_stmt k) true (cond (belongs sort.ModuleItem k) (is_value n && not (is_ambient n)) true) && member_stays_by k n && specifier_stays k && not (is_this_param_by k n)

pub stays_is : (n : Node) → stays n ≡ stays_by (kind_of n) n
unfolding stays
stays_is n = refl
