-- What each finder lists, and what it does not enter. None enters types.
use Rattle.std.specs.Prelude.{ℕ, List, Bool, true, false, ◌&&◌, ◌||◌, not, ◌==◌, codes}
use Rattle.ecma_kind.specs.declared.kind.Kind.{Kind}
use Rattle.ecma_kind.specs.declared.kind.Kind.TheVariants as kind
use Rattle.ecma_kind.specs.declared.shapes.Shape.{Shape}
use Rattle.ecma_tree.specs.Values.{is_value}
use Rattle.ecma_tree.specs.declared.node.Node.{Node, out-Node}
use Rattle.ecma_walks.specs.Seats.{is_expression, is_shorthand}
use Rattle.ecma_find.specs.declared.finder.Finder.{Finder}
use Rattle.ecma_find.specs.declared.finder.Finder.TheVariants as finder
use Rattle.ecma_find.specs.declared.finder.Place.{Place}
use Rattle.ecma_find.specs.Kinds.{has_id, has_text, is_any_function, is_arrow, is_await, is_binding, is_class, is_constructor, is_default_declaration, is_function, is_function_declaration, is_key, is_name, is_parameter, is_rest_pattern, is_this, is_var}

-- what a finder goes by
pub record Rules : Type 0 where
  -- which nodes it lists
  pub lists : Place → Kind → Bool
  -- which nodes it leaves out, with all that is in them
  pub leaves_out : Shape → Kind → Bool
  -- which children of a node it enters
  pub enters : Kind → ℕ → Bool
  -- in which children of a node names are declared that it looks for
  pub declares : Place → Node → ℕ → Bool

abbrev nothing : Shape → Kind → Bool
nothing seat kind = false

abbrev all_children : Kind → ℕ → Bool
all_children kind i = true

abbrev no_names : Place → Node → ℕ → Bool
no_names place node i = false

abbrev expressions : Shape → Kind → Bool
expressions = is_expression

-- ---- `this`

abbrev functions_of_their_own : Shape → Kind → Bool
functions_of_their_own seat kind = is_constructor kind || is_function kind

-- of the getter of an object the key, of its setter the key and the parameter
abbrev pub this_enters : Kind → ℕ → Bool
this_enters kind.GetterProp i = i == 0
this_enters kind.SetterProp i = i == 0 || i == 2
this_enters _ i = true

abbrev this_rules : Rules
this_rules = record {
  lists = λ place kind. is_this kind;
  leaves_out = functions_of_their_own;
  enters = this_enters;
  declares = no_names;
}

-- ---- `arguments`

abbrev arguments_rules : Rules
arguments_rules = record {
  lists = λ place kind. (is_expression place.seat kind || is_shorthand place.seat kind) && has_text (codes "arguments") kind;
  leaves_out = functions_of_their_own;
  enters = all_children;
  declares = no_names;
}

-- ---- an id

abbrev reference_rules : List ℕ × ℕ → Rules
reference_rules id = record {
  lists = λ place kind. is_expression place.seat kind && has_id id kind;
  leaves_out = nothing;
  enters = all_children;
  declares = no_names;
}

abbrev usage_rules : List ℕ × ℕ → Rules
usage_rules id = record {
  lists = λ place kind. has_id id kind;
  leaves_out = nothing;
  enters = all_children;
  declares = no_names;
}

-- ---- `await`

abbrev await_leaves_out : Shape → Kind → Bool
await_leaves_out seat kind = is_parameter kind || is_function kind || is_arrow kind

-- of the members of classes and the properties of objects the key alone; what holds `await` is in brackets
abbrev pub await_enters : Kind → ℕ → Bool
await_enters (kind.Constructor accessibility is_optional) i = i == 0
await_enters (kind.ClassMethod kind modifiers) i = i == 0
await_enters (kind.PrivateMethod kind modifiers) i = i == 0
await_enters (kind.ClassProp modifiers readonly declare definite) i = i == 0
await_enters (kind.PrivateProp modifiers readonly declare definite) i = i == 0
await_enters kind.StaticBlock i = false
await_enters kind.KeyValueProp i = i == 0
await_enters kind.AssignProp i = i == 0
await_enters kind.GetterProp i = i == 0
await_enters kind.SetterProp i = i == 0
await_enters kind.MethodProp i = i == 0
await_enters _ i = true

abbrev await_rules : Rules
await_rules = record {
  lists = λ place kind. is_await kind;
  leaves_out = await_leaves_out;
  enters = await_enters;
  declares = no_names;
}

-- ---- patterns

abbrev rest_rules : Rules
rest_rules = record {
  lists = λ place kind. is_rest_pattern kind;
  leaves_out = nothing;
  enters = all_children;
  declares = no_names;
}

abbrev pattern_rules : Rules
pattern_rules = record {
  lists = λ place kind. is_name kind;
  leaves_out = λ seat kind. is_expression seat kind || is_key seat.sort;
  enters = all_children;
  declares = no_names;
}

abbrev binding_rules : Rules
binding_rules = record {
  lists = λ place kind. is_binding kind;
  leaves_out = expressions;
  enters = all_children;
  declares = no_names;
}

-- what is not in the statements themselves
abbrev pub collected_leaves_out : Shape → Kind → Bool
collected_leaves_out seat kind = is_expression seat kind || is_key seat.sort || is_any_function kind

abbrev collected_rules : Rules
collected_rules = record {
  lists = λ place kind. is_name kind;
  leaves_out = collected_leaves_out;
  enters = all_children;
  declares = no_names;
}

-- ---- declared names

-- `var` and a function declaration declare what stands directly in them
abbrev pub var_declares : Place → Node → ℕ → Bool
var_declares place node i = place.is_declared || is_var (out-Node node).kind || is_function_declaration (out-Node node).kind

abbrev var_leaves_out : Shape → Kind → Bool
var_leaves_out seat kind = is_expression seat kind || is_function kind || is_class kind || is_arrow kind

abbrev var_rules : Rules
var_rules = record {
  lists = λ place kind. place.is_declared && is_name kind;
  leaves_out = var_leaves_out;
  enters = all_children;
  declares = var_declares;
}

-- a pattern that declares, and no expression within it
abbrev pub is_declaring : Place → Kind → Bool
is_declaring place kind = place.is_declared && not (is_expression place.seat kind)

-- the name of a default export: of a class, and of a function that has a body
abbrev pub names_default : Place → Node → ℕ → Bool
names_default place node i = i == 0 && is_default_declaration place.seat.sort && is_value node

-- declarators, parameters, function and class declarations, imports and default exports declare names; a pattern declares with
-- all that is in it
abbrev pub declares_by : Kind → Place → Node → ℕ → Bool
declares_by (kind.VarDeclarator definite) place node i = i == 0
declares_by kind.Param place node i = true
declares_by (kind.ArrowExpr is_async is_generator) place node i = i == 0
declares_by (kind.FnDecl declare) place node i = i == 0
declares_by (kind.ClassDecl declare) place node i = i == 0
declares_by (kind.ImportNamedSpecifier is_type_only) place node i = i == 0
declares_by kind.ImportDefaultSpecifier place node i = true
declares_by kind.ImportStarAsSpecifier place node i = true
declares_by kind.FnExpr place node i = names_default place node i
declares_by kind.ClassExpr place node i = names_default place node i
declares_by k place node i = is_declaring place k

abbrev declared_rules : Rules
declared_rules = record {
  lists = λ place kind. is_declaring place kind && is_name kind;
  leaves_out = nothing;
  enters = all_children;
  declares = λ place node i. declares_by (out-Node node).kind place node i;
}

-- ---- all of them

abbrev pub rules_of : Finder → Rules
rules_of finder.This = this_rules
rules_of finder.Arguments = arguments_rules
rules_of (finder.Reference id) = reference_rules id.now
rules_of (finder.Usage id) = usage_rules id.now
rules_of finder.Await = await_rules
rules_of finder.Rest = rest_rules
rules_of finder.Vars = var_rules
rules_of finder.Pattern = pattern_rules
rules_of finder.Bindings = binding_rules
rules_of finder.Declared = declared_rules
rules_of finder.Collected = collected_rules
