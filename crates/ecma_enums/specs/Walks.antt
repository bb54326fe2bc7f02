-- The members of all enums of a tree, in the order of the text.
use Rattle.std.specs.Prelude.{ℕ, Bool, false, ◌||◌, List, [], ◌∷◌, ◌++◌, Option, Some, None, Result, Ok, Err, map, min, if◌then◌else◌}
use Rattle.ecma_kind.specs.declared.kind.Kind.{Kind}
use Rattle.ecma_kind.specs.declared.kind.Kind.TheVariants as kind
use Rattle.ecma_tree.specs.Layers.{from_leaves}
use Rattle.ecma_tree.specs.declared.node.Node.{Node, out-Node}
use Rattle.ecma_enums.specs.declared.computer.EnumValueComputer.{EnumValueComputer}
use Rattle.ecma_enums.specs.declared.error.EnumError.{EnumError}
use Rattle.ecma_enums.specs.declared.error.EnumError.TheVariants.{EnumNumber, NoMemory}
use Rattle.ecma_enums.specs.declared.record.TsEnumRecordEntry.{TsEnumRecordEntry}
use Rattle.ecma_enums.specs.declared.value.TsEnumRecordValue.{TsEnumRecordValue}
use Rattle.ecma_enums.specs.declared.value.TsEnumRecordValue.TheVariants as value
use Rattle.ecma_enums.specs.declared.walk.Stand.{Stand}
use Rattle.ecma_enums.specs.Declarations.{entry_of, first_value, member_value}
use Rattle.ecma_enums.specs.Names.{Name, name_at}
use Rattle.ecma_enums.specs.Values.{increased}

-- what becomes of what is known, by whether all that stands here is ambient
abbrev pub Walk : Type 0
Walk = Bool → Stand → Stand

abbrev pub in_order : List Walk → Walk
in_order [] ambient s = s
in_order (walk ∷ walks) ambient s = in_order walks ambient (walk ambient s)

-- ---- a member

abbrev pub with_entry : EnumValueComputer → TsEnumRecordEntry → EnumValueComputer
with_entry c e = record c { members = c.members ++ e ∷ [] }

-- behind a member of this value
abbrev pub with_value : Node → TsEnumRecordValue → Stand → Stand
with_value m v s = record s { computer = with_entry s.computer (entry_of s.computer.enum_id s.is_const m v); next = increased v }

-- the first place in the text, of one and those before
abbrev pub sooner : ℕ → Option ℕ → Option ℕ
sooner at None = Some at
sooner at (Some other) = Some (min at other)

-- folding itself asks for no memory
abbrev pub refusing : EnumError → Stand → Stand
refusing (EnumNumber at) s = record s { refused = sooner at s.refused }
refusing NoMemory s = s

-- a member with a number beyond those that are computed is recorded too, and nothing is known of it
abbrev pub with_answer : Node → Result TsEnumRecordValue EnumError → Stand → Stand
with_answer m (Ok v) s = with_value m v s
with_answer m (Err e) s = with_value m value.Opaque (refusing e s)

abbrev pub with_member : Node → Stand → Stand
with_member m s = with_answer m (member_value s.computer s.next m) s

-- ---- an enum

abbrev pub entered : Name → Bool → Stand → Stand
entered id is_const s = record s { computer = record (s.computer) { enum_id = id }; is_const = is_const; next = first_value }

-- behind an enum all is as before it, but for the members that are known and what is refused
abbrev pub left : Stand → Stand → Stand
left outer s = record outer { computer = record (outer.computer) { members = s.computer.members }; refused = s.refused }

abbrev pub in_enum : Option Name → Bool → List Walk → Stand → Stand
in_enum (Some id) is_const walks s = left s (in_order walks false (entered id is_const s))
in_enum None is_const walks s = s

-- ---- by kinds

-- what stands inside the initialiser of a member stands behind its name; nothing is known of what is ambient
--   enum E { A = f(() => { enum F { B } }), C }   // A, B, C
--   declare namespace N { enum E { A } }          // none
unfoldable pub walk_by : Kind → Node → List Walk → Walk
walk_by (kind.TsEnumDecl declare is_const) n walks ambient s = if declare || ambient then s else in_enum (name_at n 0) is_const walks s
walk_by kind.TsEnumMember n walks ambient s = in_order walks ambient (with_member n s)
walk_by (kind.TsModuleDecl declare global) n walks ambient s = in_order walks (declare || ambient) s
walk_by _ n walks ambient s = in_order walks ambient s

unfoldable pub walked : Node → Walk
walked = from_leaves Walk (λ n walks. walk_by (out-Node n).kind n walks)

abbrev pub walks_of : Node → List Walk
walks_of n = map walked (out-Node n).children

-- ---- the whole

-- where nothing is known yet, outside all enums
abbrev pub at_first : ℕ → Stand
at_first unresolved = record {
  computer = record { enum_id = ([], 0); unresolved_mark = unresolved; members = [] };
  is_const = false;
  next = None;
  refused = None;
}

abbrev pub answer_of : Option ℕ → List TsEnumRecordEntry → Result (List TsEnumRecordEntry) EnumError
answer_of None es = Ok es
answer_of (Some at) es = Err (EnumNumber at)

abbrev pub known_at : Stand → Result (List TsEnumRecordEntry) EnumError
known_at s = answer_of s.refused s.computer.members

-- the members of all enums that are not ambient, each with what is known of its value; or the first place of a number that is none of those that are computed
abbrev pub with_enums : ℕ → Node → Result (List TsEnumRecordEntry) EnumError
with_enums unresolved tree = known_at (walked tree false (at_first unresolved))
