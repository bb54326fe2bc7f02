-- What a node of a raw tree may be where it stands: what its role in the finished tree asks, but where something is assigned to stands an
-- expression yet. Of this the sorts and the context rules say nothing; the grammar alone does.
use Rattle.std.specs.Prelude.{◌≡◌, ℕ, Bool, true, false, not, ◌&&◌, ◌||◌, cond, None}
use Rattle.ecma_kind.specs.declared.kind.Kind.{Kind}
use Rattle.ecma_kind.specs.declared.kind.Kind.TheVariants as kind
use Rattle.ecma_tree.specs.declared.node.Node.{Node}
use Rattle.ecma_tree.specs.Sorted.{is_absent, is_list}
use Rattle.ecma_grammar_laws.specs.RawSorts.{is_parameter_property}
use Rattle.ecma_rules.specs.Children.{kind_of}
use Rattle.ecma_rules.specs.Failing.{failing_here, first_failing}
use Rattle.ecma_rules.specs.Supers.{is_private_name, is_super_member}
use Rattle.ecma_fits.specs.declared.role.Role.{Role}
use Rattle.ecma_fits.specs.declared.role.Role.TheVariants as role
use Rattle.ecma_fits.specs.Roles.{at_child, is_tagged, is_wrong_name, may_be, role_in}

-- what is assigned to is any expression
abbrev pub raw_role : Role → Role
raw_role role.Left = role.Free
raw_role role.Simple = role.Free
raw_role role.Head = role.Free
raw_role role.Nothing = role.Free
raw_role role.Assigned = role.Free
raw_role role.AssignedValue = role.Free
raw_role role.AssignedElement = role.Free
raw_role role.AssignedElements = role.Free
raw_role role.AssignedProperty = role.Free
raw_role role.AssignedProperties = role.Free
raw_role role.AssignedName = role.Free
raw_role r = r

abbrev pub is_parameter : Role → Bool
is_parameter role.Parameter = true
is_parameter _ = false

abbrev pub is_getter : Kind → Bool
is_getter kind.GetterProp = true
is_getter _ = false

-- a text part without a value
abbrev pub is_unvalued : Kind → Bool
is_unvalued (kind.TplElement raw None tail) = true
is_unvalued _ = false

-- it stands behind a tag alone
abbrev pub may_say : Role → Kind → Bool
may_say r k = not (is_unvalued k) || is_tagged r

-- parameter properties stand in each list of parameters, and a setter may have such a list where its parameter stands
abbrev pub may_stand : Role → Kind → Bool
may_stand role.Free k = not (is_private_name k)
may_stand role.Parameter k = may_be role.Parameter k || (is_list k || is_parameter_property k)
may_stand role.Parameters k = is_list k
may_stand r k = may_be r k || is_absent k

-- the kinds that may stand there
unfoldable pub may_be_raw : Role → Kind → Bool
may_be_raw r k = may_say r k && may_stand r k

-- what the child at an index may be; the parameters that a getter may not have stand behind its children
unfoldable pub usual_role_in : Role → Kind → ℕ → Role
usual_role_in r k i = cond (is_getter k) (at_child 3 i role.Parameters) (cond (is_parameter r && is_list k) role.Parameter (raw_role (role_in r k i)))

-- the same, but a private name behind `super`, which the context rules refuse
unfoldable pub raw_role_in : Role → Kind → ℕ → Role
raw_role_in r k i = cond (is_super_member k) (at_child 1 i role.Private) (usual_role_in r k i)

-- a node is not what it has to be where it stands
abbrev pub is_displaced : Role → Node → Bool
is_displaced r node = is_wrong_name r (kind_of node) || not (may_be_raw r (kind_of node))

abbrev pub inner_role : Role → Node → ℕ → Role
inner_role r node i = raw_role_in r (kind_of node) i

-- no node of a raw tree is
abbrev pub HasRawRole : Role → Node → Type 0
HasRawRole r tree = first_failing Role (λ r node. failing_here (is_displaced r node) node) inner_role tree r ≡ None
