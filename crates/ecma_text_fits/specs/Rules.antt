-- What keeps the context rules that read a finished tree as they read a raw one.
use Rattle.std.specs.Prelude.{◌≡◌, None}
use Rattle.ecma_tree.specs.declared.node.Node.{Node}
use Rattle.ecma_rules.specs.Jumps.{first_stray}
use Rattle.ecma_fits.specs.Fitting.{breaks_rule, NoneFails}
use Rattle.ecma_rules.specs.Members.{has_second_constructor}

-- no node breaks a context rule that reads a finished tree as it reads a raw one, no class has two constructors with bodies, and nothing belongs
-- to nothing inside an enum initialiser or a namespace body
pub record KeepsRules (tree : Node) : Type 0 where
  pub rules : NoneFails breaks_rule tree
  pub constructors : NoneFails (λ w node. has_second_constructor node) tree
  pub strays : first_stray tree ≡ None
