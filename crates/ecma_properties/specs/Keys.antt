-- Keys in brackets that are kept in variables: they are evaluated with the class, and the constructor assigns by them.
use Rattle.std.specs.Prelude.{Bool, true, ◌&&◌, cond, Option, Some, None, is_some, slice_get}
use Rattle.std.specs.List.{list_any}
use Rattle.std.specs.Option.{option_and_then}
use Rattle.ecma_judge.specs.Literals.{is_literal_node}
use Rattle.ecma_kind.specs.declared.kind.Kind.{Kind}
use Rattle.ecma_kind.specs.declared.kind.Kind.TheVariants as kind
use Rattle.ecma_rules.specs.Children.{items_at, kind_of}
use Rattle.ecma_strip.specs.Stripping.{stripped}
use Rattle.ecma_tree.specs.declared.node.Node.{Node, out-Node}
use Rattle.ecma_properties.specs.Classes.{has_properties, is_moved}

abbrev pub unless_literal : Node → Option Node
unless_literal e = cond (is_literal_node true e) None (Some e)

abbrev pub kept_by : Kind → Node → Option Node
kept_by kind.ComputedPropName key = option_and_then (λ e. unless_literal (stripped e)) (slice_get (out-Node key).children 0)
kept_by _ key = None

-- the expression, without its types, of a key in brackets that is no literal
--   class A { [f()] = 1; [a as T] = 2; ["b" as const] = 3; [4] = 5; c = 6; }   // `f()` and `a`
abbrev pub kept_key : Node → Option Node
kept_key key = kept_by (kind_of key) key

-- the same of a field that the constructor assigns
abbrev pub kept_of : Node → Option Node
kept_of member = cond (is_moved member) (option_and_then kept_key (slice_get (out-Node member).children 0)) None

abbrev pub keeps_key : Node → Bool
keeps_key member = is_some (kept_of member)

-- a class with parameter properties that has such a field
--   class A { [f()] = 1; constructor(private a) { } }
abbrev pub keeps_keys : Node → Bool
keeps_keys class = has_properties class && list_any keeps_key (items_at class 1)
