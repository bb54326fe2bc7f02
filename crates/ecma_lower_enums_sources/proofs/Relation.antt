-- A tree, and what is written of it: the same nodes but for names, reads and shorthands, which are exchanged one for one, and for parts of enums, which become statements.
use Rattle.std.proofs.Common.{◌≡◌, ℕ, suc, Bool, true, false, ◌&&◌, List, [], ◌∷◌, ◌++◌, length, Option, Some, None, slice_get}
use Rattle.ecma_kind.specs.declared.ident.Ident.{Ident}
use Rattle.ecma_kind.specs.declared.kind.Kind.{Kind}
use Rattle.ecma_kind.specs.declared.kind.Kind.TheVariants as kind
use Rattle.ecma_kind.specs.declared.shapes.Count.{Count}
use Rattle.ecma_kind.specs.declared.shapes.Count.TheVariants.{Many, One}
use Rattle.ecma_kind.specs.declared.shapes.Shape.{Shape}
use Rattle.ecma_kind.specs.declared.shapes.Sort.{Sort}
use Rattle.ecma_kind.specs.declared.shapes.Sort.TheVariants as sort
use Rattle.ecma_kind.specs.declared.span.Span.{Span}
use Rattle.ecma_tree.specs.Nodes.{node_of}
use Rattle.ecma_tree.specs.Sorted.{HasShape, child_shapes, is_list, item_shape, many, maybe, one}
use Rattle.ecma_tree.specs.declared.node.Node.{Node, out-Node}
use Rattle.ecma_rules.specs.Children.{kind_of}
use Rattle.ecma_utils.specs.Expressions.{key_of}
use Rattle.ecma_enums.specs.Values.{expression}
use Rattle.ecma_enums.specs.declared.value.TsEnumRecordValue.{TsEnumRecordValue}
use Rattle.ecma_lower_enums.specs.declared.known.Around.{Around}
use Rattle.ecma_lower_enums.specs.declared.known.KnownEnums.{KnownEnums}
use Rattle.ecma_lower_enums.specs.declared.known.Part.{Part as EnumPart}
use Rattle.ecma_lower_enums.specs.declared.place.Place.{Place}
use Rattle.ecma_lower_enums.specs.declared.place.Place.TheVariants as place
use Rattle.ecma_lower_enums.specs.Forms.{member_in, part_statements}
use Rattle.ecma_lower_enums.specs.Forms.{member as member_read}
use Rattle.ecma_lower_enums.specs.Known.{skips}
use Rattle.ecma_lower_enums.specs.Places.{place_in}
use Rattle.ecma_lower_enums.specs.Writing.{is_enum_kind, pair, with_default}

abbrev pub children_of : Node → List Node
children_of n = (out-Node n).children

-- ---- which shapes suit which places

abbrev is_statement_sort : Sort → Bool
is_statement_sort sort.ModuleItem = true
is_statement_sort sort.Stmt = true
is_statement_sort _ = false

abbrev is_decl_sort : Sort → Bool
is_decl_sort sort.Decl = true
is_decl_sort _ = false

abbrev is_member_sort : Sort → Bool
is_member_sort sort.TsEnumMember = true
is_member_sort _ = false

abbrev pub is_read_sort : Sort → Bool
is_read_sort sort.Expr = true
is_read_sort sort.Callee = true
is_read_sort sort.ExprOrSpread = true
is_read_sort sort.VarDeclOrExpr = true
is_read_sort sort.BlockStmtOrExpr = true
is_read_sort _ = false

abbrev pub is_target_sort : Sort → Bool
is_target_sort sort.Expr = true
is_target_sort sort.AssignTarget = true
is_target_sort sort.ForHead = true
is_target_sort sort.Pat = true
is_target_sort sort.ObjectPatProp = true
is_target_sort _ = false

abbrev pub is_property_sort : Sort → Bool
is_property_sort sort.PropOrSpread = true
is_property_sort _ = false

abbrev pub suits_sort : Place → Sort → Bool
suits_sort (place.Item at_top false) σ = is_statement_sort σ
suits_sort (place.Item at_top true) σ = is_decl_sort σ
suits_sort (place.Member skips) σ = is_member_sort σ
suits_sort place.Read σ = is_read_sort σ
suits_sort place.Target σ = is_target_sort σ
suits_sort place.Property σ = is_property_sort σ
suits_sort _ σ = true

abbrev is_sure : Count → Bool
is_sure One = true
is_sure Many = true
is_sure _ = false

abbrev is_one : Count → Bool
is_one One = true
is_one _ = false

abbrev pub suits : Place → Shape → Bool
suits (place.Item at_top true) t = is_decl_sort t.sort && is_one t.count
suits (place.Member skips) t = is_member_sort t.sort && is_sure t.count
suits p t = suits_sort p t.sort

abbrev pub is_members : Place → Bool
is_members (place.Member skips) = true
is_members _ = false

-- ---- what is exchanged and what is written

-- an enum or a namespace
abbrev pub is_part : Kind → Bool
is_part (kind.TsEnumDecl declare is_const) = true
is_part (kind.TsModuleDecl declare global) = true
is_part (kind.TsNamespaceDecl declare global) = true
is_part _ = false

abbrev pub is_read : Kind → Bool
is_read (kind.Ident sym ctxt optional) = true
is_read kind.MemberExpr = true
is_read _ = false

abbrev pub is_target : Kind → Bool
is_target (kind.Ident sym ctxt optional) = true
is_target kind.BindingIdent = true
is_target _ = false

abbrev pub is_name : Kind → Bool
is_name (kind.Ident sym ctxt optional) = true
is_name _ = false

-- where the names that are written are such, and the keys
module _ (enums : KnownEnums) (N : Ident → Type 0) (K : List ℕ → Type 0) where
  abbrev pub IfN : Option Ident → Type 0
  IfN None = Unit
  IfN (Some of) = N of

  -- what is written for a read: a value, or a member
  pub data Said : Node → Type 0 where
    value : {e : Node} (v : TsEnumRecordValue) → expression v ≡ Some e → Said e
    named : (of : Ident) (sym : List ℕ) → N of → K sym → Said (member_read of sym)

  mutual
    -- one node for one, of this shape in this place
    pub data Stands : Place → Shape → Node → Node → Type 0 where
      left : {p : Place} {t : Shape} {n : Node} → HasShape t n → is_members p ≡ false → Stands p t n n
      kept : {p : Place} {t : Shape} {a b : Node} → HasShape t a → is_members p ≡ false → is_list (kind_of a) ≡ false → kind_of b ≡ kind_of a → (out-Node b).span ≡ (out-Node a).span
          → Ones (place_in enums.writes p (kind_of a)) (child_shapes (kind_of a) t (length (children_of a))) (children_of a) (children_of b) → Stands p t a b
      listed : {p : Place} {t : Shape} {a b : Node} → HasShape t a → kind_of a ≡ kind.List → kind_of b ≡ kind.List → (out-Node b).span ≡ (out-Node a).span
          → Items p (item_shape t) (children_of a) (children_of b) → Stands p t a b
      read : {t : Shape} {a b : Node} → HasShape t a → suits place.Read t ≡ true → is_read (kind_of a) ≡ true → Said b → Stands place.Read t a b
      target : {t : Shape} {a : Node} (of : Ident) (sym : List ℕ) → HasShape t a → suits place.Target t ≡ true → is_target (kind_of a) ≡ true → N of → K sym → Stands place.Target t a (member_read of sym)
      short : {t : Shape} {a e : Node} (span : Span) (sym : List ℕ) → HasShape t a → suits place.Property t ≡ true → is_name (kind_of a) ≡ true → K sym → Said e → Stands place.Property t a (pair span sym e)
      patterned : {t : Shape} {a x y : Node} (span at : Span) (of : Ident) (sym : List ℕ) → HasShape t a → suits place.Target t ≡ true → kind_of a ≡ kind.AssignPatProp → slice_get (children_of a) 1 ≡ Some x
          → Stands place.Read (maybe sort.Expr) x y → N of → K sym → Stands place.Target t a (node_of span kind.KeyValuePatProp (key_of at sym ∷ with_default span (member_read of sym) y ∷ []))

    -- children, each in its place
    pub data Ones : (ℕ → Place) → List Shape → List Node → List Node → Type 0 where
      none : {f : ℕ → Place} {ts : List Shape} → Ones f ts [] []
      more : {f : ℕ → Place} {t : Shape} {ts : List Shape} {c d : Node} {cs ds : List Node} → Stands (f 0) t c d → Ones (λ i. f (suc i)) ts cs ds → Ones f (t ∷ ts) (c ∷ cs) (d ∷ ds)

    -- the items of a list
    pub data Items : Place → Shape → List Node → List Node → Type 0 where
      empty : {p : Place} {t : Shape} → Items p t [] []
      item : {p : Place} {t : Shape} {c d : Node} {cs ds : List Node} → Stands p t c d → Items p t cs ds → Items p t (c ∷ cs) (d ∷ ds)
      part : {p : Place} {t : Shape} {c : Node} {l cs ds ms : List Node} → Part p t c l → Items p t cs ds → ms ≡ l ++ ds → Items p t (c ∷ cs) ms

    -- an enum, also one that is exported, and a member of one
    pub data Part : Place → Shape → Node → List Node → Type 0 where
      enum : {at_top exported : Bool} {t : Shape} {c list m : Node} (span : Span) (part : EnumPart) (around : Around) → HasShape t c → is_enum_kind (kind_of c) ≡ true → part.exported ≡ exported
          → N part.name → IfN around.name → slice_get (children_of c) 1 ≡ Some list → Stands (place.Member (skips enums part)) (many sort.TsEnumMember) list m
          → Part (place.Item at_top exported) t c (part_statements enums span part around m)
      export : {at_top : Bool} {t : Shape} {c d : Node} {l : List Node} → HasShape t c → kind_of c ≡ kind.ExportDecl → slice_get (children_of c) 0 ≡ Some d → Part (place.Item at_top true) (one sort.Decl) d l
          → Part (place.Item at_top false) t c l
      member : {skips : Bool} {t : Shape} {c init e : Node} (o : Option Ident) (span : Span) (sym : List ℕ) → HasShape t c → kind_of c ≡ kind.TsEnumMember → slice_get (children_of c) 1 ≡ Some init
          → Stands place.Read (maybe sort.Expr) init e → IfN o → Part (place.Member skips) t c (member_in enums skips o span sym e)
