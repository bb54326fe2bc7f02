-- How the names of what is needed are declared.
use Rattle.std.specs.Prelude.{ℕ, zero, suc, ◌+◌, ◌-◌, Bool, true, false, ◌==◌, List, [], ◌∷◌, ◌++◌, map, Option, Some, None, codes, if◌then◌else◌}
use Rattle.std.specs.List.{filter}
use Rattle.ecma_kind.specs.declared.kind.Kind.TheVariants as kind
use Rattle.ecma_kind.specs.declared.operators.AssignOp.TheVariants.{Assign}
use Rattle.ecma_kind.specs.declared.operators.MetaPropKind.TheVariants.{NewTarget}
use Rattle.ecma_kind.specs.declared.operators.VarDeclKind.TheVariants.{Var}
use Rattle.ecma_tree.specs.Idents.{ident_node}
use Rattle.ecma_tree.specs.Nodes.{absent, dummy_span, list_node, node_of}
use Rattle.ecma_tree.specs.declared.node.Node.{Node}
use Rattle.ecma_utils.specs.Expressions.{assign_of, block_of, expr_stmt_of, key_of, lazy_arrow_of, return_stmt_of}
use Rattle.ecma_utils.specs.Quotes.{name_of}
use Rattle.ecma_function_parts.specs.Drawing.{context_if, count}
use Rattle.ecma_function_parts.specs.Written.{arguments_node, binding_of, this_node}
use Rattle.ecma_function_environment.specs.declared.need.Access.{Access}
use Rattle.ecma_function_environment.specs.declared.need.Access.TheVariants as access
use Rattle.ecma_function_environment.specs.declared.need.Need.{Need}
use Rattle.ecma_function_environment.specs.declared.need.Need.TheVariants as need
use Rattle.ecma_function_environment.specs.Hoisting.{access_call, key_named}
use Rattle.ecma_function_environment.specs.Needs.{Key, Names, ident_of_need}

-- ---- parameters

-- a key in brackets is given as _prop
abbrev pub has_prop : Need → Bool
has_prop (need.Super a None) = true
has_prop _ = false

-- what is assigned as _value
abbrev pub has_value : Need → Bool
has_value (need.Super access.Set key) = true
has_value (need.Super access.Update key) = true
has_value _ = false

abbrev pub draws_of : Need → ℕ
draws_of n = count (has_prop n) + count (has_value n)

abbrev pub prop_name : ℕ → Node
prop_name ctxt = name_of ctxt dummy_span (codes "_prop")

abbrev pub value_name : ℕ → Node
value_name ctxt = name_of ctxt dummy_span (codes "_value")

-- the key in brackets, where there is one
abbrev pub key_args : Key → ℕ → List Node
key_args (Some key) prop = []
key_args None prop = prop_name prop ∷ []

abbrev pub key_params : Key → ℕ → List Node
key_params (Some key) prop = []
key_params None prop = binding_of (prop_name prop) ∷ []

-- ---- what the names stand for

abbrev pub member_key : Key → ℕ → Node
member_key (Some key) prop = key_of dummy_span key
member_key None prop = node_of dummy_span kind.ComputedPropName (prop_name prop ∷ [])

--   super.f   super[_prop]
abbrev pub super_member : Key → ℕ → Node
super_member key prop = node_of dummy_span kind.SuperPropExpr (node_of dummy_span kind.Super [] ∷ member_key key prop ∷ [])

--   () => super.f   (_prop) => super[_prop]
abbrev pub getting : Key → ℕ → Node
getting key prop = lazy_arrow_of (key_params key prop) (super_member key prop)

--   (_value) => super.f = _value   (_prop, _value) => super[_prop] = _value
abbrev pub setting : Key → ℕ → ℕ → Node
setting key prop value = lazy_arrow_of (key_params key prop ++ binding_of (value_name value) ∷ []) (assign_of Assign (super_member key prop) (value_name value))

--   get _() { return _superprop_get_f(); }
abbrev pub getter : Names → Key → ℕ → Node
getter names key prop =
    node_of dummy_span kind.GetterProp
    (key_named (codes "_") ∷ absent ∷ block_of (return_stmt_of (access_call names access.Get key dummy_span (key_args key prop)) ∷ []) ∷ [])

--   { _superprop_set_f(_value); }
abbrev pub setter_body : Names → Key → ℕ → ℕ → Node
setter_body names key prop value = block_of (expr_stmt_of (access_call names access.Set key dummy_span (key_args key prop ++ value_name value ∷ [])) ∷ [])

--   set _(_value) { _superprop_set_f(_value); }
abbrev pub setter : Names → Key → ℕ → ℕ → Node
setter names key prop value =
    node_of dummy_span kind.SetterProp (key_named (codes "_") ∷ absent ∷ binding_of (value_name value) ∷ setter_body names key prop value ∷ [])

--   { get _() { return _superprop_get_f(); }, set _(_value) { _superprop_set_f(_value); } }
abbrev pub accessors : Names → Key → ℕ → ℕ → Node
accessors names key prop value = node_of dummy_span kind.ObjectLit (list_node (getter names key prop ∷ setter names key prop value ∷ []) ∷ [])

-- of a key in brackets as what an arrow function gives
abbrev pub updating : Names → Key → ℕ → ℕ → Node
updating names (Some key) prop value = accessors names (Some key) prop value
updating names None prop value = lazy_arrow_of (key_params None prop) (accessors names None prop value)

abbrev pub new_target_node : Node
new_target_node = node_of dummy_span (kind.MetaPropExpr NewTarget) []

abbrev pub stands_for : Names → Need → ℕ → ℕ → Node
stands_for names need.This prop value = this_node
stands_for names need.Arguments prop value = arguments_node
stands_for names need.NewTarget prop value = new_target_node
stands_for names (need.Super access.Get key) prop value = getting key prop
stands_for names (need.Super access.Set key) prop value = setting key prop value
stands_for names (need.Super access.Update key) prop value = updating names key prop value

-- ---- declarators

abbrev pub declarator_of : Need → ℕ → Node → Node
declarator_of n ctxt init = node_of dummy_span (kind.VarDeclarator false) (binding_of (ident_node (ident_of_need n ctxt)) ∷ init ∷ [])

-- in a class that extends another `this` is set by `super(..)`
abbrev pub init_of : Bool → Names → Need → ℕ → ℕ → Node
init_of true names need.This prop value = absent
init_of in_subclass names n prop value = stands_for names n prop value

-- the parameters are drawn, the key before the value
abbrev pub declarator : Bool → Names → Need → ℕ → ℕ → Node
declarator in_subclass names n ctxt left =
    declarator_of n ctxt (init_of in_subclass names n (context_if (has_prop n) left) (context_if (has_value n) (left - count (has_prop n))))

abbrev pub declarators : Bool → Names → Names → ℕ → List Node
declarators in_subclass names [] left = []
declarators in_subclass names (e ∷ es) left = declarator in_subclass names e.0 e.1 left ∷ declarators in_subclass names es (left - draws_of e.0)

abbrev pub declarator_draws : Names → ℕ
declarator_draws [] = 0
declarator_draws (e ∷ es) = draws_of e.0 + declarator_draws es

-- ---- their order

abbrev pub rank_of : Need → ℕ
rank_of need.This = 0
rank_of need.Arguments = 1
rank_of need.NewTarget = 2
rank_of (need.Super access.Update (Some key)) = 3
rank_of (need.Super access.Update None) = 4
rank_of (need.Super access.Get (Some key)) = 5
rank_of (need.Super access.Get None) = 6
rank_of (need.Super access.Set (Some key)) = 7
rank_of (need.Super access.Set None) = 8

abbrev pub of_rank : ℕ → Names → Names
of_rank rank names = filter (λ e. rank_of e.0 == rank) names

-- an entry, where there is one
abbrev pub entry_at : Option (Need × ℕ) → Names
entry_at (Some e) = e ∷ []
entry_at None = []

-- the names of the ranks below a number; those of one rank stand in the order of first use
unfoldable pub of_ranks : ℕ → Names → Names
of_ranks zero names = []
of_ranks (suc rank) names = of_ranks rank names ++ of_rank rank names

abbrev pub in_rank_order : Names → Names
in_rank_order names = of_ranks 9 names

abbrev pub declared : Bool → Names → ℕ → List Node
declared in_subclass names left = declarators in_subclass names (in_rank_order names) left

abbrev pub declared_draws : Names → ℕ
declared_draws names = declarator_draws (in_rank_order names)

--   var _this = this, _superprop_get_f = () => super.f;
abbrev pub var_by : List Node → Option Node
var_by [] = None
var_by decls = Some (node_of dummy_span (kind.VarDecl Var false) (list_node decls ∷ []))
