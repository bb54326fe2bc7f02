-- What a node of a finished tree may be, by what is declared or assigned to there (ECMAScript, 13.4.1, 13.15.1, 13.15.5, 14.3, 14.7.5.1, 15.1).
use Rattle.std.specs.Prelude.{ℕ, Bool, true, false, not, ◌&&◌, ◌||◌, ◌==◌, cond, codes, bytes_eq, List}
use Rattle.ecma_lex.specs.Keys.{is_reserved}
use Rattle.ecma_kind.specs.declared.kind.Kind.{Kind}
use Rattle.ecma_kind.specs.declared.kind.Kind.TheVariants as kind
use Rattle.ecma_kind.specs.declared.operators.AssignOp.{AssignOp}
use Rattle.ecma_kind.specs.declared.operators.AssignOp.TheVariants.{Assign}
use Rattle.ecma_kind.specs.declared.operators.BinaryOp.{BinaryOp}
use Rattle.ecma_kind.specs.declared.operators.BinaryOp.TheVariants.{In}
use Rattle.ecma_tree.specs.declared.node.Node.{Node}
use Rattle.ecma_tree.specs.Sorted.{is_absent}
use Rattle.ecma_rules.specs.Children.{kind_of}
use Rattle.ecma_rules.specs.Targets.{is_plain, is_simple_target}
use Rattle.ecma_fits.specs.declared.role.Role.{Role}
use Rattle.ecma_fits.specs.declared.role.Role.TheVariants as role

-- a name that is bound, or a pattern
abbrev pub is_binding : Kind → Bool
is_binding kind.BindingIdent = true
is_binding (kind.ArrayPat optional) = true
is_binding (kind.ObjectPat optional) = true
is_binding _ = false

abbrev pub is_pattern : Kind → Bool
is_pattern (kind.ArrayPat optional) = true
is_pattern (kind.ObjectPat optional) = true
is_pattern _ = false

abbrev pub is_bound_name : Kind → Bool
is_bound_name kind.BindingIdent = true
is_bound_name _ = false

abbrev pub is_default : Kind → Bool
is_default kind.AssignPat = true
is_default _ = false

abbrev pub is_rest : Kind → Bool
is_rest kind.RestPat = true
is_rest _ = false

abbrev pub is_name : Kind → Bool
is_name (kind.Ident sym ctxt optional) = true
is_name _ = false

abbrev pub is_variables : Kind → Bool
is_variables (kind.VarDecl k declare) = true
is_variables _ = false

-- a private name is an expression on the left of `in` alone, and `name = value` no property
abbrev pub is_free : Kind → Bool
is_free (kind.PrivateName name) = false
is_free kind.AssignProp = false
is_free _ = true

-- the kinds that may stand there; what may be missing, the sorts say
unfoldable pub may_be : Role → Kind → Bool
may_be role.Free k = is_free k
may_be role.Private k = true
may_be role.Left k = is_pattern k
may_be role.Simple k = false
may_be role.Head k = is_binding k || is_variables k
may_be role.Nothing k = is_absent k
may_be role.Declared k = is_binding k || is_absent k
may_be role.DeclaredValue k = is_binding k || is_default k
may_be role.DeclaredElement k = is_binding k || (is_default k || (is_rest k || is_absent k))
may_be role.Parameter k = is_binding k || (is_default k || (is_rest k || is_absent k))
may_be role.DefaultedParameter k = is_binding k || is_rest k
may_be role.DeclaredName k = is_bound_name k
may_be role.Assigned k = is_binding k
may_be role.AssignedValue k = is_binding k || is_default k
may_be role.AssignedElement k = is_binding k || (is_default k || (is_rest k || is_absent k))
may_be role.AssignedName k = is_bound_name k
may_be _ k = true

-- where a simple target may stand: a name on the left of `=` alone is no bound name
unfoldable pub takes : Role → Kind → Bool
takes role.Left k = true
takes role.Simple k = true
takes role.Head k = not (is_name k)
takes role.Assigned k = not (is_name k)
takes role.AssignedValue k = not (is_name k)
takes role.AssignedElement k = not (is_name k)
takes role.AssignedName k = not (is_name k)
takes _ k = false

abbrev pub is_wrong_text : Role → List ℕ → Bool
is_wrong_text role.Key text = false
is_wrong_text role.NameOrThis text = is_reserved text && not (bytes_eq text (codes "this"))
is_wrong_text _ text = is_reserved text

-- a reserved word names nothing but keys, and `this` the parameter that is a type alone
abbrev pub is_wrong_name : Role → Kind → Bool
is_wrong_name r (kind.Ident sym ctxt optional) = is_wrong_text r sym
is_wrong_name r _ = false

-- a node is not what it has to be where it stands
abbrev pub is_out_of_role : Role → Node → Bool
is_out_of_role r node = is_wrong_name r (kind_of node) || not (may_be r (kind_of node) || (takes r (kind_of node) && is_simple_target node))

-- in a pattern that is assigned to, and not declared
abbrev pub is_assigned : Role → Bool
is_assigned role.Left = true
is_assigned role.Head = true
is_assigned role.Assigned = true
is_assigned role.AssignedValue = true
is_assigned role.AssignedElement = true
is_assigned role.AssignedProperty = true
is_assigned role.AssignedName = true
is_assigned _ = false

-- this at the child that is meant, and nothing asked at the others
abbrev pub at_child : ℕ → ℕ → Role → Role
at_child wanted i r = cond (i == wanted) r role.Free

abbrev pub by : Role → Role → Role → Role
by r assigned declared = cond (is_assigned r) assigned declared

-- the items of a list
abbrev pub in_list : Role → Role
in_list role.Parameters = role.Parameter
in_list role.DeclaredElements = role.DeclaredElement
in_list role.DeclaredProperties = role.DeclaredProperty
in_list role.AssignedElements = role.AssignedElement
in_list role.AssignedProperties = role.AssignedProperty
in_list role.TaggedTexts = role.TaggedText
in_list _ = role.Free

-- a pattern's parts, and its type, which one that is assigned to has not
abbrev pub in_pattern : Role → Role → ℕ → Role
in_pattern r parts i = cond (i == 0) parts (by r role.Nothing role.Free)

-- what takes the rest of an object is a name, or what is assigned to
abbrev pub in_rest : Role → Role
in_rest role.DeclaredProperty = role.DeclaredName
in_rest role.AssignedProperty = role.AssignedName
in_rest r = by r role.Assigned role.Declared

-- the name of a parameter may be `this`, which is its type alone
abbrev pub bound_name_of : Role → Role
bound_name_of role.Parameter = role.NameOrThis
bound_name_of _ = role.Free

-- the text parts of a template
abbrev pub in_template : Role → Role
in_template role.Tagged = role.TaggedTexts
in_template _ = role.Free

-- a text part after a tag
abbrev pub is_tagged : Role → Bool
is_tagged role.TaggedText = true
is_tagged _ = false

-- before a default
abbrev pub in_default : Role → Role
in_default role.Parameter = role.DefaultedParameter
in_default r = by r role.Assigned role.Declared

abbrev pub left_of : AssignOp → Role
left_of op = cond (is_plain op) role.Left role.Simple

abbrev pub is_in : BinaryOp → Bool
is_in In = true
is_in _ = false

abbrev pub operand_of : BinaryOp → Role
operand_of op = cond (is_in op) role.Private role.Free

-- what the child at an index may be
unfoldable pub role_in : Role → Kind → ℕ → Role
role_in r kind.List i = in_list r
role_in r (kind.ArrayPat optional) i = in_pattern r (by r role.AssignedElements role.DeclaredElements) i
role_in r (kind.ObjectPat optional) i = in_pattern r (by r role.AssignedProperties role.DeclaredProperties) i
role_in r kind.BindingIdent i = in_pattern r (bound_name_of r) i
role_in r kind.RestPat i = in_pattern r (in_rest r) i
role_in r kind.AssignPat i = at_child 0 i (in_default r)
role_in r kind.KeyValuePatProp i = at_child 1 i (by r role.AssignedValue role.DeclaredValue)
role_in r kind.AssignPatProp i = at_child 0 i (by r role.AssignedName role.DeclaredName)
role_in r kind.Param i = role.Parameter
role_in r (kind.TsParamProp accessibility is_override readonly) i = role.Parameter
role_in r (kind.ArrowExpr is_async is_generator) i = at_child 0 i role.Parameters
role_in r kind.SetterProp i = cond (i == 1) role.Parameter (at_child 2 i role.Parameter)
role_in r kind.CatchClause i = at_child 0 i role.Declared
role_in r (kind.VarDeclarator definite) i = at_child 0 i role.Declared
role_in r (kind.AssignExpr op) i = at_child 0 i (left_of op)
role_in r (kind.UpdateExpr op prefix) i = role.Simple
role_in r kind.ForInStmt i = at_child 0 i role.Head
role_in r (kind.ForOfStmt is_await) i = at_child 0 i role.Head
role_in r (kind.BinExpr op) i = at_child 0 i (operand_of op)
role_in r kind.MemberExpr i = at_child 1 i role.Private
role_in r (kind.PrivateMethod k modifiers) i = at_child 0 i role.Private
role_in r (kind.PrivateProp modifiers readonly declare definite) i = at_child 0 i role.Private
role_in r (kind.ImportNamedSpecifier is_type_only) i = at_child 1 i role.Key
role_in r (kind.ExportNamedSpecifier is_type_only) i = role.Key
role_in r kind.ExportNamespaceSpecifier i = role.Key
role_in r kind.TsEnumMember i = at_child 0 i role.Key
role_in r kind.TaggedTpl i = at_child 2 i role.Tagged
role_in r kind.Tpl i = at_child 1 i (in_template r)
role_in r _ i = role.Free
