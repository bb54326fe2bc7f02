-- The context rules: which nodes fail one, and the least place at which one begins.
use Rattle.std.specs.Prelude.{ℕ, Bool, ◌||◌, Option}
use Rattle.ecma_tree.specs.declared.node.Node.{Node}
use Rattle.ecma_rules.specs.declared.standing.Around.{Around}
use Rattle.ecma_rules.specs.Failing.{failing_here, first_failing, least}
use Rattle.ecma_rules.specs.Targets.{is_no_target, is_stray_default}
use Rattle.ecma_rules.specs.Lists.{is_early_rest, is_wrong_head}
use Rattle.ecma_rules.specs.Members.{is_stray_property, is_misfit, is_special_constructor, misplaces_this, second_constructor}
use Rattle.ecma_rules.specs.Statements.{is_quoted_local, is_declared_body}
use Rattle.ecma_rules.specs.Supers.{is_lone_super, is_private_of_super}
use Rattle.ecma_rules.specs.Surroundings.{around_in, at_root}
use Rattle.ecma_rules.specs.Jumps.{first_stray}

abbrev pub fails_target : Around → Node → Bool
fails_target around node = is_no_target around.target node || is_stray_default around.target node

abbrev pub fails_list : Around → Node → Bool
fails_list around node = is_wrong_head around.target node || is_early_rest around.target around.is_last node

abbrev pub fails_member : Around → Node → Bool
fails_member around node = is_stray_property around.standing node || (is_misfit node || (is_special_constructor node || misplaces_this node))

abbrev pub fails_statement : Around → Node → Bool
fails_statement around node = is_quoted_local around.standing node || is_declared_body around.standing node

abbrev pub fails_super : Around → Node → Bool
fails_super around node = is_lone_super around.standing node || is_private_of_super node

-- a node that is not what it has to be where it stands
unfoldable pub is_misplaced : Around → Node → Bool
is_misplaced around node = fails_target around node || (fails_list around node || (fails_member around node || (fails_statement around node || fails_super around node)))

-- its place; or, in a class, that of its second constructor with a body
abbrev pub misplaced_here : Around → Node → Option ℕ
misplaced_here around node = least (failing_here (is_misplaced around node) node) (second_constructor node)

abbrev pub first_misplaced : Node → Around → Option ℕ
first_misplaced = first_failing Around misplaced_here around_in

-- the least place at which a node begins that fails a rule; none where there is none
abbrev pub first_broken : Node → Option ℕ
first_broken tree = least (first_misplaced tree at_root) (first_stray tree)
