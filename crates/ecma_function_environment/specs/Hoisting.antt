-- A tree with names in the places of what it needs of its surroundings. What is needed is listed by a walk; given names for it, the tree is a map of
-- the old one, by what each node is there for.
use Rattle.std.specs.Prelude.{ℕ, suc, Bool, true, false, ◌&&◌, ◌||◌, not, List, [], ◌∷◌, ◌++◌, Option, Some, None, bytes_eq, codes, flat_map, map, nat_eq, if◌then◌else◌}
use Rattle.std.specs.Option.{is_some}
use Rattle.ecma_kind.specs.declared.kind.Kind.{Kind}
use Rattle.ecma_kind.specs.declared.kind.Kind.TheVariants as kind
use Rattle.ecma_kind.specs.declared.operators.MetaPropKind.TheVariants.{NewTarget}
use Rattle.ecma_kind.specs.declared.span.Span.{Span}
use Rattle.ecma_tree.specs.Layers.{from_leaves}
use Rattle.ecma_tree.specs.Nodes.{dummy_span, node_of}
use Rattle.ecma_tree.specs.declared.node.Node.{Node, out-Node}
use Rattle.ecma_utils.specs.Expressions.{call_of, key_of, member_of}
use Rattle.ecma_walks.specs.Listing.{listed, listed_within}
use Rattle.ecma_function_parts.specs.Written.{first_or_absent, this_node}
use Rattle.ecma_function_environment.specs.declared.hoisting.Flags.{Flags}
use Rattle.ecma_function_environment.specs.declared.need.Access.{Access}
use Rattle.ecma_function_environment.specs.declared.need.Access.TheVariants as access
use Rattle.ecma_function_environment.specs.declared.need.Need.{Need}
use Rattle.ecma_function_environment.specs.declared.need.Need.TheVariants as need
use Rattle.ecma_function_environment.specs.declared.seat.Seat.{Seat}
use Rattle.ecma_function_environment.specs.declared.seat.Seat.TheVariants as seat
use Rattle.ecma_function_environment.specs.Members.{is_round, key_at}
use Rattle.ecma_function_environment.specs.Needs.{Key, Names, name_of_need}
use Rattle.ecma_function_environment.specs.Seats.{drops, is_entered, is_read, seat_in}

-- ---- `arguments`

-- a name in the context of free names or in none
abbrev pub names_arguments : Flags → List ℕ → ℕ → Bool
names_arguments flags sym ctxt = bytes_eq sym (codes "arguments") && (nat_eq ctxt flags.unresolved || nat_eq ctxt 0)

abbrev pub is_arguments : Flags → Seat → List ℕ → ℕ → Bool
is_arguments flags s sym ctxt = (is_read s && not flags.arguments_disabled) && names_arguments flags sym ctxt

abbrev pub arguments_by : Flags → Seat → Kind → Bool
arguments_by flags s (kind.Ident sym ctxt optional) = is_arguments flags s sym ctxt
arguments_by flags s k = false

-- ---- what is needed

abbrev pub receiver_needs : Flags → List Need
receiver_needs flags = if flags.this_disabled then [] else need.This ∷ []

-- a target that is no set alone is one for both
abbrev pub member_needs : Flags → Seat → Key → List Need
member_needs flags seat.Assigned key = need.Super access.Set key ∷ []
member_needs flags seat.Target key = need.Super access.Get key ∷ need.Super access.Set key ∷ need.Super access.Update key ∷ []
member_needs flags seat.Called key = need.Super access.Get key ∷ receiver_needs flags
member_needs flags seat.ChainCalled key = need.Super access.Get key ∷ receiver_needs flags
member_needs flags seat.Tag key = need.Super access.Get key ∷ receiver_needs flags
member_needs flags s key = need.Super access.Get key ∷ []

abbrev pub key_needs : Flags → Seat → Option Key → List Need
key_needs flags s (Some key) = member_needs flags s key
key_needs flags s None = []

-- what a node itself needs
abbrev pub needs_by : Flags → Seat → Option Key → Kind → List Need
needs_by flags s key kind.ThisExpr = receiver_needs flags
needs_by flags s key (kind.MetaPropExpr NewTarget) = need.NewTarget ∷ []
needs_by flags s key (kind.Ident sym ctxt optional) = if is_arguments flags s sym ctxt then need.Arguments ∷ [] else []
needs_by flags s key kind.SuperPropExpr = key_needs flags s key
needs_by flags s key k = []

abbrev pub needs_here : Flags → Seat → Node → List Need
needs_here flags s n = needs_by flags s (key_at flags.super_disabled n) (out-Node n).kind

abbrev pub seat_below : Flags → Seat → Node → ℕ → Seat
seat_below flags s n i = seat_in (is_some (key_at flags.super_disabled n)) s (out-Node n).kind i

abbrev pub if_entered : Seat → Option Seat
if_entered s = if is_entered s then Some s else None

-- what a tree needs, in the order of first use
abbrev pub needs : Flags → Node → Seat → List Need
needs flags = listed Seat Need (λ s n i. if_entered (seat_below flags s n i)) (needs_here flags)

-- ---- the tree, given names

--   _this   this
abbrev pub receiver_of : Flags → Names → Node
receiver_of flags names = if flags.this_disabled then this_node else name_of_need names need.This

abbrev pub key_named : List ℕ → Node
key_named text = key_of dummy_span text

--   _superprop_get_f()   _superprop_get(k)
abbrev pub access_call : Names → Access → Key → Span → List Node → Node
access_call names a key span args = call_of span (name_of_need names (need.Super a key)) args

-- what gives a target
--   _superprop_update_f   _superprop_update(k)
abbrev pub updated_of : Names → Key → Span → List Node → Node
updated_of names (Some key) span args = name_of_need names (need.Super access.Update (Some key))
updated_of names None span args = access_call names access.Update None span args

-- what is done with what was read
--   _superprop_get_f().call
abbrev pub read_member : Names → Key → Span → List Node → List ℕ → Node
read_member names key span args text = member_of (access_call names access.Get key span args) (key_named text)

-- a member of `super`, by what it is there for, over its key in brackets
abbrev pub member_as : Flags → Names → Seat → Key → Span → List Node → List Node
member_as flags names seat.Assigned key span args = args
member_as flags names seat.Target key span args = member_of (updated_of names key span args) (key_named (codes "_")) ∷ []
member_as flags names seat.Called key span args = read_member names key span args (codes "call") ∷ []
member_as flags names seat.ChainCalled key span args = node_of dummy_span (kind.OptChainExpr true) (read_member names key span args (codes "call") ∷ []) ∷ []
member_as flags names seat.Tag key span args = call_of dummy_span (read_member names key span args (codes "bind")) (receiver_of flags names ∷ []) ∷ []
member_as flags names s key span args = access_call names access.Get key span args ∷ []

abbrev pub round_as : Seat → Node → List Node
round_as s n = if is_round (out-Node n).kind && drops s then (out-Node n).children else n ∷ []

abbrev pub over_by : Flags → Names → Seat → Key → Node → Kind → List Node
over_by flags names s key n kind.SuperPropExpr = member_as flags names s key (out-Node n).span (out-Node n).children
over_by flags names s key n (kind.AssignExpr op) = access_call names access.Set key (out-Node n).span (out-Node n).children ∷ []
over_by flags names s key n (kind.OptChainExpr optional) = node_of (out-Node n).span (kind.OptChainExpr false) (out-Node n).children ∷ []
over_by flags names s key n k = round_as s n

-- a node about a member of `super` with this key
abbrev pub over_member : Flags → Names → Seat → Key → Node → List Node
over_member flags names s key n = over_by flags names s key n (out-Node n).kind

abbrev pub by_key : Flags → Names → Seat → Option Key → Node → List Node
by_key flags names s (Some key) n = over_member flags names s key n
by_key flags names s None n = n ∷ []

abbrev pub this_as : Flags → Names → Node → List Node
this_as flags names n = if flags.this_disabled then n ∷ [] else name_of_need names need.This ∷ []

abbrev pub ident_as : Names → Bool → Node → List Node
ident_as names is_arguments n = if is_arguments then name_of_need names need.Arguments ∷ [] else n ∷ []

abbrev pub list_as : Flags → Names → Seat → Node → List Node
list_as flags names seat.Received n = node_of (out-Node n).span (out-Node n).kind (receiver_of flags names ∷ (out-Node n).children) ∷ []
list_as flags names s n = n ∷ []

-- a key that is a name is no argument, one in brackets is
abbrev pub name_as : Seat → Node → List Node
name_as seat.Key n = []
name_as s n = n ∷ []

abbrev pub brackets_as : Seat → Node → List Node
brackets_as seat.Key n = (out-Node n).children
brackets_as s n = n ∷ []

abbrev pub hoisted_as : Flags → Names → Seat → Option Key → Node → Kind → List Node
hoisted_as flags names s key n kind.List = list_as flags names s n
hoisted_as flags names s key n kind.ThisExpr = this_as flags names n
hoisted_as flags names s key n (kind.MetaPropExpr NewTarget) = name_of_need names need.NewTarget ∷ []
hoisted_as flags names s key n (kind.Ident sym ctxt optional) = ident_as names (is_arguments flags s sym ctxt) n
hoisted_as flags names s key n (kind.IdentName sym) = name_as s n
hoisted_as flags names s key n kind.ComputedPropName = brackets_as s n
hoisted_as flags names s key n k = by_key flags names s key n

-- what a node becomes, once its children are what they became
abbrev pub hoisted_by : Flags → Names → Seat → Option Key → Node → List Node
hoisted_by flags names s key n = hoisted_as flags names s key n (out-Node n).kind

-- children one behind the other, of which the first is the one at i
abbrev pub hoisted_from : (ℕ → Seat) → ℕ → List (Seat → List Node) → List Node
hoisted_from seats i [] = []
hoisted_from seats i (child ∷ children) = child (seats i) ++ hoisted_from seats (suc i) children

abbrev pub hoisted_in : Flags → Names → Node → List (Seat → List Node) → Seat → List Node
hoisted_in flags names n children s =
    hoisted_by flags names s (key_at flags.super_disabled n) (node_of (out-Node n).span (out-Node n).kind (hoisted_from (seat_below flags s n) 0 children))

-- a node that is not entered
abbrev pub left_as : Seat → Node → List Node
left_as seat.Gone n = []
left_as s n = n ∷ []

abbrev pub hoisting_step : Flags → Names → Node → List (Seat → List Node) → Seat → List Node
hoisting_step flags names n children s = if is_entered s then hoisted_in flags names n children s else left_as s n

-- what a node becomes where it stands
abbrev pub hoisted : Flags → Names → Node → Seat → List Node
hoisted flags names = from_leaves (Seat → List Node) (hoisting_step flags names)

-- the one node that a tree becomes
abbrev pub hoisted_one : Flags → Names → Seat → Node → Node
hoisted_one flags names s n = first_or_absent (hoisted flags names n s)

-- what a tree needs where it stands
abbrev pub needs_in : Flags → Seat → Node → List Need
needs_in flags s n = listed_within Seat Need (if_entered s) (needs flags n)

-- what several trees need
abbrev pub needs_of : Flags → Seat → List Node → List Need
needs_of flags s nodes = flat_map (λ n. needs_in flags s n) nodes
