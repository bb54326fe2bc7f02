-- `arguments` in a pattern that is assigned to, inside an enum initialiser or a namespace body. It belongs to a function that is no arrow
-- function, an accessor or a constructor (ECMAScript, 10.2.11).
use Rattle.std.specs.Prelude.{ℕ, Bool, true, false, ◌&&◌, ◌==◌, codes, cond}
use Rattle.ecma_kind.specs.declared.kind.Kind.{Kind}
use Rattle.ecma_kind.specs.declared.kind.Kind.TheVariants as kind
use Rattle.ecma_tree.specs.declared.node.Node.{Node}
use Rattle.ecma_rules.specs.Children.{kind_of, child_is, is_named}
use Rattle.ecma_fits.specs.declared.role.Role.{Role}
use Rattle.ecma_fits.specs.declared.strays.Arguments.{Arguments}
use Rattle.ecma_fits.specs.Roles.{is_assigned, is_bound_name}

-- outside of both nothing is asked
abbrev pub not_held : Arguments
not_held = record { held = false; stray = false }

-- directly in one
abbrev pub all_held : Arguments
all_held = record { held = true; stray = true }

abbrev pub in_function : Arguments → Arguments
in_function a = record { held = a.held; stray = false }

-- the value of a field and a static block are in no function
abbrev pub in_field : Arguments → Arguments
in_field a = record { held = a.held; stray = a.held }

-- the first child of a member is its key, or the name of an enum member
abbrev pub behind_key : ℕ → Arguments → Arguments → Arguments
behind_key i inside a = cond (i == 0) a inside

-- in the child at an index of a node of this kind
unfoldable pub arguments_in : Arguments → Kind → ℕ → Arguments
arguments_in a (kind.Function is_generator is_async) i = in_function a
arguments_in a (kind.Constructor accessibility is_optional) i = behind_key i (in_function a) a
arguments_in a kind.GetterProp i = behind_key i (in_function a) a
arguments_in a kind.SetterProp i = behind_key i (in_function a) a
arguments_in a (kind.ClassProp modifiers readonly declare definite) i = behind_key i (in_field a) a
arguments_in a (kind.PrivateProp modifiers readonly declare definite) i = behind_key i (in_field a) a
arguments_in a kind.StaticBlock i = in_field a
arguments_in a kind.TsEnumMember i = behind_key i all_held a
arguments_in a kind.TsModuleBlock i = all_held
arguments_in a _ i = a

-- `arguments`, which is assigned to in a pattern and belongs to nothing
abbrev pub is_stray_target : Role → Arguments → Node → Bool
is_stray_target r a node = a.stray && (is_assigned r && (is_bound_name (kind_of node) && child_is (is_named (codes "arguments")) node 0))
