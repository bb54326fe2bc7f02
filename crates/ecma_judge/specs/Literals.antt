-- Literals, and what it costs to write them.
use Rattle.std.specs.Prelude.{ℕ, Bool, true, false, ◌&&◌, ◌||◌, ◌+◌, ◌^◌, ◌-◌, List, [], ◌∷◌, get_or, if◌then◌else◌, is_some, length, min, slice_get}
use Rattle.std.specs.List.{list_all}
use Rattle.std.specs.Option.{option_map_or}
use Rattle.ecma_kind.specs.Sorts.{is_expr}
use Rattle.ecma_kind.specs.declared.kind.Kind.{Kind}
use Rattle.ecma_kind.specs.declared.kind.Kind.TheVariants as kind
use Rattle.ecma_tree.specs.Layers.{from_leaves}
use Rattle.ecma_tree.specs.declared.node.Node.{Node, out-Node}
use Rattle.ecma_tree.specs.declared.node_ref.NodeRef.{NodeRef}
use Rattle.ecma_tree.specs.declared.node_ref.NodeRef.TheVariants as part
use Rattle.ecma_judge.specs.declared.literals.LiteralVisitor.{LiteralVisitor}
use Rattle.ecma_judge.specs.Parts.{has_kind, has_no_items, passes_at}

-- ---- literals; JSON has neither holes nor numbers without a value

-- a key that is a name, a text or a number
abbrev pub is_plain_key : Bool → Kind → Bool
is_plain_key beyond_json (kind.IdentName sym) = true
is_plain_key beyond_json (kind.Str value raw) = true
is_plain_key beyond_json (kind.Number value raw) = beyond_json || is_some value
is_plain_key beyond_json _ = false

unfoldable pub is_literal_by : Bool → Kind → Node → List Bool → Bool
is_literal_by beyond_json (kind.Str value raw) n kids = true
is_literal_by beyond_json (kind.Bool value) n kids = true
is_literal_by beyond_json kind.Null n kids = true
is_literal_by beyond_json (kind.BigInt value raw) n kids = true
is_literal_by beyond_json (kind.Number value raw) n kids = beyond_json || is_some value
is_literal_by beyond_json kind.Tpl n kids = passes_at has_no_items 0 n
is_literal_by beyond_json kind.ParenExpr n kids = get_or kids 0 false
is_literal_by beyond_json kind.ArrayLit n kids = get_or kids 0 false
is_literal_by beyond_json kind.ObjectLit n kids = get_or kids 0 false
is_literal_by beyond_json kind.KeyValueProp n kids = passes_at (has_kind (is_plain_key beyond_json)) 0 n && get_or kids 1 false
is_literal_by beyond_json kind.List n kids = list_all (λ b. b) kids
is_literal_by beyond_json kind.Absent n kids = beyond_json
is_literal_by beyond_json _ n kids = false

abbrev pub is_literal_here : Bool → Node → List Bool → Bool
is_literal_here beyond_json n kids = is_literal_by beyond_json (out-Node n).kind n kids

-- a literal, or what stands in one: a list, a property, a hole
unfoldable pub is_literal_part : Bool → Node → Bool
is_literal_part beyond_json = from_leaves Bool (is_literal_here beyond_json)

-- a tree of arrays, objects with plain keys, texts, numbers, truth values, `null`, BigInts, templates without parts, and parentheses
abbrev pub is_literal_node : Bool → Node → Bool
is_literal_node beyond_json n = is_expr (out-Node n).kind && is_literal_part beyond_json n

-- what is referred to as something else is none
abbrev pub is_literal : Bool → NodeRef → Bool
is_literal beyond_json (part.Expr n) = is_literal_node beyond_json n.now
is_literal beyond_json _ = false

-- ---- what it costs to write them

abbrev pub total : List ℕ → ℕ
total [] = 0
total (n ∷ ns) = n + total ns

-- of a key
abbrev pub key_cost : Kind → ℕ
key_cost (kind.IdentName sym) = 2 + length sym
key_cost (kind.Str value raw) = 2 + length value
key_cost (kind.Number value raw) = 5
key_cost _ = 0

abbrev pub key_cost_of : Node → ℕ
key_cost_of n = option_map_or (λ (k : Node). key_cost (out-Node k).kind) (slice_get (out-Node n).children 0) 0

-- how many elements an array has, holes and all
abbrev pub count_of : Node → ℕ
count_of n = option_map_or (λ (list : Node). length (out-Node list).children) (slice_get (out-Node n).children 0) 0

unfoldable pub cost_by : Kind → Node → List ℕ → ℕ
cost_by kind.ArrayLit n kids = (2 + count_of n) + get_or kids 0 0
cost_by kind.ObjectLit n kids = get_or kids 0 0
cost_by kind.KeyValueProp n kids = (1 + key_cost_of n) + get_or kids 1 0
cost_by kind.List n kids = total kids
cost_by kind.ParenExpr n kids = get_or kids 0 0
cost_by _ n kids = 0

abbrev pub cost_here : Node → List ℕ → ℕ
cost_here n kids = cost_by (out-Node n).kind n kids

unfoldable pub cost : Node → ℕ
cost = from_leaves ℕ cost_here

-- cut to the greatest number of 64 bits
abbrev pub most : ℕ
most = 2 ^ 64 - 1

abbrev pub cut : ℕ → ℕ
cut n = min n most

abbrev pub cost_of : NodeRef → ℕ
cost_of (part.Expr n) = cut (cost n.now)
cost_of _ = 0

-- whether it is a literal, and what that costs
abbrev pub literal_cost : Bool → NodeRef → Bool × ℕ
literal_cost beyond_json n = (is_literal beyond_json n, (if is_literal beyond_json n then cost_of n else 0))

-- ---- several parts

abbrev pub nothing_visited : Bool → LiteralVisitor
nothing_visited beyond_json = record { is_lit = true; cost = 0; allow_non_json_value = beyond_json }

abbrev pub visited : LiteralVisitor → Bool × ℕ
visited visitor = (visitor.is_lit, (if visitor.is_lit then visitor.cost else 0))
