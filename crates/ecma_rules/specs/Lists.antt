-- What stands last in a list (ECMAScript, 13.15.5, 14.3.3, 15.1), and what a loop declares (14.7.5.1).
use Rattle.std.specs.Prelude.{ℕ, suc, Bool, true, false, not, ◌&&◌, ◌||◌, ◌==◌, List, [], ◌∷◌, length}
use Rattle.ecma_kind.specs.declared.kind.Kind.{Kind}
use Rattle.ecma_kind.specs.declared.kind.Kind.TheVariants as kind
use Rattle.ecma_tree.specs.declared.node.Node.{Node, out-Node}
use Rattle.ecma_rules.specs.declared.target.Target.{Target}
use Rattle.ecma_rules.specs.declared.target.Target.TheVariants as target
use Rattle.ecma_rules.specs.Children.{kind_of, has_child, items_at}
use Rattle.ecma_rules.specs.Targets.{is_spread, is_variables}

abbrev pub is_rest_pattern : Kind → Bool
is_rest_pattern kind.RestPat = true
is_rest_pattern _ = false

-- an item of a literal that turns into a pattern
abbrev pub is_item : Target → Bool
is_item target.Element = true
is_item target.Property = true
is_item _ = false

-- a rest parameter, element or property
--   function f(...a) { } [...b] = c; ({ ...d } = e);
abbrev pub is_rest : Target → Kind → Bool
is_rest t k = is_rest_pattern k || (is_item t && is_spread k)

-- one that does not stand last
--   function f(a, ...b) { }
--   function f(...a, b) { }   // refused
abbrev pub is_early_rest : Target → Bool → Node → Bool
is_early_rest t is_last node = is_rest t (kind_of node) && not is_last

-- whether the child at an index stands last in its list: what a list does not hold does, and a parameter or a pattern with a default holds one place
unfoldable pub last_by : Bool → Kind → ℕ → ℕ → Bool
last_by is_last kind.List count i = suc i == count
last_by is_last kind.Param count i = is_last
last_by is_last (kind.TsParamProp accessibility is_override readonly) count i = is_last
last_by is_last kind.AssignPat count i = is_last
last_by is_last _ count i = true

abbrev pub last_in : Bool → Node → ℕ → Bool
last_in is_last node i = last_by is_last (kind_of node) (length (out-Node node).children) i

-- one declarator without a value
--   for (let a of b);
--   for (let a = 1 of b);   // refused
abbrev pub is_one_without_value : List Node → Bool
is_one_without_value (declarator ∷ []) = not (has_child declarator 1)
is_one_without_value _ = false

abbrev pub is_head : Target → Bool
is_head target.Head = true
is_head _ = false

-- a declaration before `in` or `of` of a loop that is otherwise
--   for (const [a, b] of c);
--   for (let a, b of c);   // refused
abbrev pub is_wrong_head : Target → Node → Bool
is_wrong_head t node = (is_head t && is_variables (kind_of node)) && not (is_one_without_value (items_at node 0))
