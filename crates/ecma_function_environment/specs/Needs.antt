-- What a function needs of its surroundings, and the names that stand for it.
use Rattle.std.specs.Prelude.{ℕ, ◌-◌, Bool, List, [], ◌∷◌, ◌++◌, Option, Some, None, codes, length, if◌then◌else◌}
use Rattle.std.specs.Map.{lookup}
use Rattle.std.specs.Option.{is_some, unwrap_or}
use Rattle.ecma_kind.specs.declared.ident.Ident.{Ident}
use Rattle.ecma_tree.specs.Idents.{ident_node}
use Rattle.ecma_tree.specs.Nodes.{dummy_span}
use Rattle.ecma_tree.specs.declared.node.Node.{Node}
use Rattle.ecma_utils.specs.Quotes.{quoted_ident}
use Rattle.ecma_function_environment.specs.contracts.need.NeedPartialEq.TheImpl as need_eq
use Rattle.ecma_function_environment.specs.declared.need.Access.{Access}
use Rattle.ecma_function_environment.specs.declared.need.Access.TheVariants as access
use Rattle.ecma_function_environment.specs.declared.need.Need.{Need}
use Rattle.ecma_function_environment.specs.declared.need.Need.TheVariants as need

-- the key of a member of `super`, none for a key in brackets
abbrev pub Key : Type 0
Key = Option (List ℕ)

-- whether two needs are the same
abbrev pub same_need : Need → Need → Bool
same_need = (need_eq.ghosts).eq

-- ---- their names

abbrev access_stem : Access → List ℕ
access_stem access.Get = codes "_superprop_get"
access_stem access.Set = codes "_superprop_set"
access_stem access.Update = codes "_superprop_update"

abbrev pub stem_of : Need → List ℕ
stem_of need.This = codes "_this"
stem_of need.Arguments = codes "_arguments"
stem_of need.NewTarget = codes "_newtarget"
stem_of (need.Super a k) = access_stem a

-- of `super.f` that is read _superprop_get_f, of `super[k]` _superprop_get
abbrev pub text_of_need : Need → List ℕ
text_of_need (need.Super a (Some key)) = (access_stem a ++ codes "_") ++ key
text_of_need n = stem_of n

abbrev pub ident_of_need : Need → ℕ → Ident
ident_of_need n ctxt = quoted_ident ctxt dummy_span (text_of_need n)

-- ---- the names that there are

-- needs that have a name, each with its context, in the order of first use
abbrev pub Names : Type 0
Names = List (Need × ℕ)

abbrev pub has_name : Names → Need → Bool
has_name names n = is_some (lookup (same_need n) names)

abbrev pub context_of : Names → Need → ℕ
context_of names n = unwrap_or (lookup (same_need n) names) 0

-- the name of a need, as an expression
abbrev pub name_of_need : Names → Need → Node
name_of_need names n = ident_node (ident_of_need n (context_of names n))

-- each need that has no name yet gets one, in a context of its own, in a session with so many marks left
abbrev pub named : List Need → ℕ → Names → Names
named [] left names = names
named (n ∷ ns) left names = if has_name names n then named ns left names else named ns (left - 1) (names ++ (n, left) ∷ [])

-- how many of them get one
abbrev pub draws_for : List Need → ℕ → Names → ℕ
draws_for needs left names = length (named needs left names) - length names
