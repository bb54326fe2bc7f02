-- What an initialiser folds to, from the leaves of its tree up (TypeScript handbook, "Computed and constant members").
use Rattle.std.specs.Prelude.{ℕ, ◌&&◌, ◌==◌, List, [], Option, Some, None, bytes_eq, codes, get_or, length, map, slice_get, if◌then◌else◌}
use Rattle.std.specs.Option.{option_map_or}
use Rattle.ecma_kind.specs.declared.kind.Kind.{Kind}
use Rattle.ecma_kind.specs.declared.kind.Kind.TheVariants as kind
use Rattle.ecma_number.specs.declared.js_number.JsNumber.TheVariants.{NaN, Infinity}
use Rattle.ecma_tree.specs.Layers.{from_leaves}
use Rattle.ecma_tree.specs.declared.node.Node.{Node, out-Node}
use Rattle.ecma_enums.specs.declared.computer.EnumValueComputer.{EnumValueComputer}
use Rattle.ecma_enums.specs.declared.folded.Folded.{Folded}
use Rattle.ecma_enums.specs.declared.folded.Folded.TheVariants.{Text, Number, Opaque}
use Rattle.ecma_enums.specs.declared.value.TsEnumRecordValue.{TsEnumRecordValue}
use Rattle.ecma_enums.specs.Folded.{binary_by, known, number_or_beyond, template, unary_by}
use Rattle.ecma_enums.specs.Keys.{key_at}
use Rattle.ecma_enums.specs.Names.{Name, name_at}
use Rattle.ecma_enums.specs.Records.{recorded}

-- of a node, with what its parent asks of it
pub record Folding : Type 0 where
  -- its value
  pub value : Folded
  -- the values of its children
  pub items : List Folded

-- of a child that is not there
abbrev pub nothing : Folding
nothing = record { value = Opaque; items = [] }

abbrev pub kid : List Folding → ℕ → Folding
kid kids i = get_or kids i nothing

-- ---- names and members

-- the member of this name that stands before in the enum itself
abbrev pub own_member : EnumValueComputer → List ℕ → Option TsEnumRecordValue
own_member c sym = recorded c.enum_id.0 c.enum_id.1 sym c.members

-- a name that no scope declares
abbrev pub free_value : ℕ → List ℕ → ℕ → Folded
free_value unresolved sym ctxt =
    if ctxt == unresolved && bytes_eq sym (codes "NaN") then Number NaN
    else if ctxt == unresolved && bytes_eq sym (codes "Infinity") then Number Infinity
    else Opaque

abbrev pub own_or_free : EnumValueComputer → List ℕ → ℕ → Option TsEnumRecordValue → Folded
own_or_free c sym ctxt None = free_value c.unresolved_mark sym ctxt
own_or_free c sym ctxt found = known found

-- a member that stands before is a name in what stands behind it
--   enum E { A = 1, B = A }
abbrev pub name_value : EnumValueComputer → List ℕ → ℕ → Folded
name_value c sym ctxt = own_or_free c sym ctxt (own_member c sym)

abbrev pub read : EnumValueComputer → Name → List ℕ → Option TsEnumRecordValue → Folded
read c name key None = known (recorded name.0 name.1 key c.members)
read c name key found = Opaque

-- a member of an enum, by the enum's name and the member's; the name of a member is no enum's
--   E.A   E["A"]   E[`A`]
abbrev pub read_by : EnumValueComputer → Option Name → Option (List ℕ) → Folded
read_by c (Some name) (Some key) = read c name key (own_member c name.0)
read_by c name key = Opaque

-- ---- by kinds

abbrev pub text_or_opaque : Option (List ℕ) → Folded
text_or_opaque (Some text) = Text text
text_or_opaque None = Opaque

-- literals, names, members, operators and templates, also in parentheses and with types round them
unfoldable pub value_by : EnumValueComputer → Kind → Node → List Folding → Folded
value_by c (kind.Str value raw) n kids = Text value
value_by c (kind.Number value raw) n kids = number_or_beyond (out-Node n).span.lo value
value_by c (kind.Ident sym ctxt optional) n kids = name_value c sym ctxt
value_by c kind.MemberExpr n kids = read_by c (name_at n 0) (key_at n 1)
value_by c (kind.UnaryExpr op) n kids = unary_by op (kid kids 0).value
value_by c (kind.BinExpr op) n kids = binary_by (out-Node n).span.lo op (kid kids 0).value (kid kids 1).value
value_by c kind.Tpl n kids = template (kid kids 1).items (kid kids 0).items
value_by c (kind.TplElement raw cooked tail) n kids = text_or_opaque cooked
value_by c kind.ParenExpr n kids = (kid kids 0).value
value_by c kind.TsTypeAssertion n kids = (kid kids 0).value
value_by c kind.TsConstAssertion n kids = (kid kids 0).value
value_by c kind.TsNonNullExpr n kids = (kid kids 0).value
value_by c kind.TsAsExpr n kids = (kid kids 0).value
value_by c kind.TsInstantiation n kids = (kid kids 0).value
value_by c kind.TsSatisfiesExpr n kids = (kid kids 0).value
value_by c _ n kids = Opaque

abbrev pub folding_by : EnumValueComputer → Node → List Folding → Folding
folding_by c n kids = record {
  value = value_by c (out-Node n).kind n kids;
  items = map (λ (k : Folding). k.value) kids;
}

unfoldable pub folding : EnumValueComputer → Node → Folding
folding c = from_leaves Folding (folding_by c)

abbrev pub kids_of : EnumValueComputer → Node → List Folding
kids_of c n = map (folding c) (out-Node n).children

-- what an expression folds to
abbrev pub folded : EnumValueComputer → Node → Folded
folded c n = (folding c n).value

-- how many items the list has that is the child at an index
abbrev pub count_at : Node → ℕ → ℕ
count_at n i = option_map_or (λ list. length (out-Node list).children) (slice_get (out-Node n).children i) 0
