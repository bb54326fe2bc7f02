-- What is known of the enums of a module before it runs (TypeScript handbook, "Enums"). What is constant, and what a read of a member has, `ecma_enums` says.
use Rattle.std.specs.Prelude.{ℕ, suc, Bool, true, false, not, ◌&&◌, ◌||◌, cond, List, [], ◌∷◌, ◌++◌, Option, Some, None, bytes_eq, codes, flat_map}
use Rattle.std.specs.List.{filter, list_all, list_any, sum_by}
use Rattle.std.specs.Option.{option_map_or}
use Rattle.ecma_config.specs.declared.config.Config.{Config}
use Rattle.ecma_kind.specs.declared.kind.Kind.{Kind}
use Rattle.ecma_kind.specs.declared.kind.Kind.TheVariants as kind
use Rattle.ecma_number.specs.declared.js_number.JsNumber.{JsNumber}
use Rattle.ecma_number.specs.declared.js_number.JsNumber.TheVariants.{NegZero, NaN}
use Rattle.ecma_number.specs.Equality.{are_equal}
use Rattle.ecma_tree.specs.declared.node.Node.{Node, Node-F, fold-Node, out-Node}
use Rattle.ecma_tree.specs.Nodes.{dummy_span, node_of}
use Rattle.ecma_tree.specs.Layers.{from_leaves}
use Rattle.ecma_tree.specs.Rewritten.{rewritten}
use Rattle.ecma_strip.specs.Staying.{stays}
use Rattle.ecma_enums.specs.Keys.{items_at, key_at}
use Rattle.ecma_enums.specs.KnownReads.{known_by, known_read, value_of}
use Rattle.ecma_enums.specs.Names.{Name, name_at}
use Rattle.ecma_enums.specs.Values.{is_constant}
use Rattle.ecma_enums.specs.Walks.{at_first, walked}
use Rattle.ecma_enums.specs.declared.record.TsEnumRecordEntry.{TsEnumRecordEntry}
use Rattle.ecma_enums.specs.declared.value.TsEnumRecordValue.{TsEnumRecordValue}
use Rattle.ecma_enums.specs.declared.value.TsEnumRecordValue.TheVariants as constant
use Rattle.ecma_runs.specs.Values.{Value, Undefined, Number, Text}
use Rattle.ecma_runs.specs.State.{Id, same_id, Property, Data}
use Rattle.ecma_runs.specs.Environment.{is_among}
use Rattle.ecma_runs.specs.Erasure.{erased_by}
use Rattle.ecma_runs.specs.Sources.{unsourced}

-- ids

abbrev pub id_of : Name → Id
id_of name = record { sym = name.0; ctxt = name.1 }

abbrev pub name_of : Id → Name
name_of id = (id.sym, id.ctxt)

abbrev pub ids_of_name : Option Name → List Id
ids_of_name None = []
ids_of_name (Some name) = id_of name ∷ []

-- the tree of which enums ask: without types and what goes from lists with them, without spans and the source texts of literals
--   declare namespace N { enum E { A } }   // of E nothing is known

abbrev pub bare_by : Kind → List Node → Node-F Node → Node
bare_by kind.List items parts = node_of parts.span kind.List (filter stays items)
bare_by k children parts = erased_by k children parts

abbrev pub bare_node : Node-F Node → Node
bare_node parts = bare_by (unsourced parts.kind) parts.children (record { span = dummy_span; kind = unsourced parts.kind; children = parts.children })

abbrev pub bare : Node → Node
bare = rewritten bare_node

-- what `here` gives at each node of a tree
abbrev pub found_in : (A : Type 0) → (Kind → Node → List A) → Node → List A
found_in A here = from_leaves (List A) (λ n kids. here (out-Node n).kind n ++ flat_map (λ items. items) kids)

-- the names of members

-- a name of a member, and that of its enum
pub record MemberName : Type 0 where
  pub id : Id
  pub of : Id

abbrev pub named_member : Id → Option Name → List MemberName
named_member of None = []
named_member of (Some name) = record { id = id_of name; of = of } ∷ []

--   enum E { A, "B" }   // A, of E: a text declares no name
abbrev pub named_members : Id → List Node → List MemberName
named_members of [] = []
named_members of (m ∷ ms) = named_member of (name_at m 0) ++ named_members of ms

abbrev pub members_named_by : Kind → Node → List MemberName
members_named_by (kind.TsEnumDecl false is_const) n = option_map_or (λ name. named_members (id_of name) (items_at n 1)) (name_at n 0) []
members_named_by k n = []

-- the enum of whose members one has this name
abbrev pub enum_of : Id → List MemberName → Option Id
enum_of id [] = None
enum_of id (name ∷ names) = cond (same_id name.id id) (Some name.of) (enum_of id names)

-- enums of which members are not written

abbrev pub constant_enum_by : Kind → Node → List Id
constant_enum_by (kind.TsEnumDecl false true) n = ids_of_name (name_at n 0)
constant_enum_by k n = []

--   export default E;
abbrev pub default_by : Kind → Node → List Id
default_by kind.ExportDefaultExpr n = ids_of_name (name_at n 0)
default_by k n = []

-- free names: `NaN` and `Infinity` are constants where no scope declares them

abbrev pub number_name_by : Kind → Node → List Id
number_name_by (kind.Ident sym ctxt optional) n = cond (bytes_eq sym (codes "NaN") || bytes_eq sym (codes "Infinity")) (record { sym = sym; ctxt = ctxt } ∷ []) []
number_name_by k n = []

abbrev pub declares_number : List Id → ℕ → Bool
declares_number declared ctxt = is_among (record { sym = codes "NaN"; ctxt = ctxt }) declared || is_among (record { sym = codes "Infinity"; ctxt = ctxt }) declared

abbrev pub free_context : List Id → ℕ → List Id → ℕ
free_context declared other [] = other
free_context declared other (id ∷ ids) = cond (declares_number declared id.ctxt) (free_context declared other ids) id.ctxt

-- the context in which they are free; where they are free nowhere, one in which they stand nowhere
abbrev pub free_context_of : List Id → List Id → ℕ
free_context_of declared ids = free_context declared (suc (sum_by (λ id. id.ctxt) ids)) ids

-- what is known
pub record Enums : Type 0 where
  -- the members of all enums that are not ambient, each with what is known of it
  pub members : List TsEnumRecordEntry
  pub names : List MemberName
  -- the `const` enums whose members are not written where their values are known
  pub unwritten : List Id
  -- enums may change, but for those that are `const`
  pub may_change : Bool

-- of a bare tree that declares these ids, and exports these
abbrev pub enums_in : Config → List Id → List Id → Node → Enums
enums_in options declared exported tree = record {
  members = (walked tree false (at_first (free_context_of declared (found_in Id number_name_by tree)))).computer.members;
  names = found_in MemberName members_named_by tree;
  unwritten = filter (λ id. not (options.verbatim_module_syntax || is_among id (exported ++ found_in Id default_by tree))) (found_in Id constant_enum_by tree);
  may_change = options.ts_enum_is_mutable;
}

-- where there are none
abbrev pub no_enums : Bool → Enums
no_enums may_change = record { members = []; names = []; unwritten = []; may_change = may_change }

-- trees in which no enum stands that is not ambient

abbrev pub is_enum : Kind → Bool
is_enum (kind.TsEnumDecl false is_const) = true
is_enum kind.TsEnumMember = true
is_enum k = false

abbrev pub lacks_enums_here : Node-F Bool → Bool
lacks_enums_here parts = not (is_enum parts.kind) && list_all (λ b. b) parts.children

abbrev pub lacks_enums : Node → Bool
lacks_enums = fold-Node Bool lacks_enums_here

-- reads of members

-- what is known of the value of a member
abbrev pub known_value : Enums → Id → List ℕ → Option TsEnumRecordValue
known_value enums of key = value_of false enums.members (Some (name_of of)) (Some key)

-- the value that a constant is
abbrev pub as_value : TsEnumRecordValue → Value
as_value (constant.String text) = Text text
as_value (constant.Number number) = Number number
as_value v = Undefined

-- the name of an enum of which a member is not written
abbrev pub is_hidden : Enums → Id → Bool
is_hidden enums id = is_among id enums.unwritten && list_any (λ e. same_id (id_of e.key.enum_id) id && is_constant e.value) enums.members

-- what is known of what an expression reads
pub data Reading : Type 0 where
  Unknown : Reading
  -- the constant of a `const` enum
  Constant : Value → Reading
  -- another constant, which is to be found
  Expected : Value → Reading

abbrev pub reading_by : Option TsEnumRecordValue → Option TsEnumRecordValue → Reading
reading_by (Some v) known = Constant (as_value v)
reading_by None (Some v) = Expected (as_value v)
reading_by None None = Unknown

-- where no member is, nothing is known
abbrev pub reading_among : List TsEnumRecordEntry → Option TsEnumRecordValue → Option TsEnumRecordValue → Reading
reading_among [] lasting known = Unknown
reading_among (e ∷ es) lasting known = reading_by lasting known

-- what is to be found: a known read, and a dotted name behind `import a =`
--   import a = E.A;
abbrev pub sought_by : Bool → List TsEnumRecordEntry → Kind → Node → Option TsEnumRecordValue
sought_by may_change es kind.TsQualifiedName n = value_of may_change es (name_at n 0) (key_at n 1)
sought_by may_change es k n = known_by may_change es k n

abbrev pub sought_read : Bool → List TsEnumRecordEntry → Node → Option TsEnumRecordValue
sought_read may_change es n = sought_by may_change es (out-Node n).kind n

--   E.A   E["A"]   E[`A`]
abbrev pub reading : Enums → Node → Reading
reading enums n = reading_among enums.members (known_read true enums.members (bare n)) (sought_read enums.may_change enums.members (bare n))

-- of a member of this enum
abbrev pub member_reading : Enums → Id → List ℕ → Reading
member_reading enums of key =
    reading_among enums.members (value_of true enums.members (Some (name_of of)) (Some key)) (value_of enums.may_change enums.members (Some (name_of of)) (Some key))

-- a constant that is found

-- the same number: NaN is one, and the zeros are two
abbrev pub same_number : JsNumber → JsNumber → Bool
same_number NaN NaN = true
same_number NegZero NegZero = true
same_number NegZero n = false
same_number n NegZero = false
same_number n m = are_equal n m

abbrev pub same_constant : Value → Value → Bool
same_constant (Text text) (Text other) = bytes_eq text other
same_constant (Number n) (Number m) = same_number n m
same_constant v w = false

abbrev pub is_data : Value → Option Property → Bool
is_data v (Some (Data w)) = same_constant v w
is_data v p = false
