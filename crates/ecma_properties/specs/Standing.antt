-- Where a node stands, as far as variables are asked for before the statement that holds it.
use Rattle.std.specs.Prelude.{ℕ, Bool, true, false, ◌&&◌, ◌||◌, ◌==◌, not}
use Rattle.ecma_kind.specs.declared.kind.Kind.{Kind}
use Rattle.ecma_kind.specs.declared.kind.Kind.TheVariants as kind
use Rattle.ecma_rules.specs.Children.{kind_of}
use Rattle.ecma_tree.specs.declared.node.Node.{Node}
use Rattle.ecma_properties.specs.declared.standing.Around.{Around}
use Rattle.ecma_properties.specs.Supers.{goes_at}

-- around a node:
--   record Around = { is_gone : Bool; is_apart : Bool }
-- it goes with the types; between it and the nearest list of statements stands what runs at another time than the statement, or more than once

abbrev pub at_root : Around
at_root = record { is_gone = false; is_apart = false }

-- of a node that is apart or not, whether the child at an index is. An item of a list of statements is not. What functions hold is, and what a member of a
-- class or an enum has as its value, and all that a loop holds but for the statements of a block
--   for (a of class { [f()]; }) b(class { [g()]; });   // both classes are
--   for (;;) { b(class { [g()]; }); }   // it is not
abbrev pub is_apart_in : Bool → Kind → ℕ → Bool
is_apart_in apart (kind.Module shebang) i = false
is_apart_in apart (kind.Script shebang) i = false
is_apart_in apart kind.BlockStmt i = false
is_apart_in apart kind.TsModuleBlock i = false
is_apart_in apart kind.SwitchCase i = apart && not (i == 1)
is_apart_in apart (kind.Function is_generator is_async) i = true
is_apart_in apart (kind.ArrowExpr is_async is_generator) i = true
is_apart_in apart kind.GetterProp i = apart || not (i == 0)
is_apart_in apart kind.SetterProp i = apart || not (i == 0)
is_apart_in apart (kind.Constructor accessibility is_optional) i = apart || not (i == 0)
is_apart_in apart (kind.ClassProp modifiers readonly declare definite) i = apart || i == 1
is_apart_in apart (kind.PrivateProp modifiers readonly declare definite) i = apart || i == 1
is_apart_in apart kind.TsEnumMember i = apart || i == 1
is_apart_in apart kind.WhileStmt i = true
is_apart_in apart kind.DoWhileStmt i = true
is_apart_in apart kind.ForStmt i = true
is_apart_in apart kind.ForInStmt i = true
is_apart_in apart (kind.ForOfStmt is_await) i = true
is_apart_in apart _ i = apart

-- around the child at an index
abbrev pub around_in : Around → Node → ℕ → Around
around_in around n i = record { is_gone = around.is_gone || goes_at n i; is_apart = is_apart_in around.is_apart (kind_of n) i }
