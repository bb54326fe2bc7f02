-- Imports and exports that stay tell the same without their types.
use Rattle.std.proofs.Common.{◌≡◌, ◌∙◌, ◌&&◌, not, ℕ, suc, Bool, true, false, cond, codes, List, [], ◌∷◌, ◌++◌, filter, flat_map, map, Option, Some, None, refl, sym, ap, ap₂, slice_get}
use Rattle.ecma_kind.specs.Sorts.{belongs}
use Rattle.ecma_kind.specs.declared.kind.Kind.{Kind}
use Rattle.ecma_kind.specs.declared.kind.Kind.TheVariants as kind
use Rattle.ecma_kind.specs.declared.shapes.Shape.{Shape}
use Rattle.ecma_kind.specs.declared.shapes.Sort.{Sort}
use Rattle.ecma_kind.specs.declared.shapes.Sort.TheVariants as sort
use Rattle.ecma_tree.specs.declared.node.Node.{Node}
use Rattle.ecma_tree.specs.Sorted.{HasShape, allows, is_list, many, maybe, one}
use Rattle.ecma_tree.specs.Values.{is_value, is_value_where, value_by, values_in}
use Rattle.ecma_tree.proofs.Valuing.{is_value-out}
use Rattle.ecma_rules.specs.Children.{children_of as items_of, has_child, holds_of, is_present, items_at, kind_of, of_kind}
use Rattle.ecma_fits.specs.declared.unfit.Where.{Where}
use Rattle.ecma_fits.specs.Fitting.{where_in}
use Rattle.ecma_fits.specs.Counts.{are_exports, are_imports, has_attributes_at, holds_attributes, is_full_by}
use Rattle.ecma_strip.specs.Staying.{if_there, is_ambient, is_declared, is_empty_stmt, is_this, is_this_by, is_this_param_by, member_stays_by, specifier_stays, stays}
use Rattle.ecma_strip.specs.Stripping.{plain_children, plain_kind, stripped}
use Rattle.ecma_strip_fits.proofs.Classes.{class_of}
use Rattle.ecma_strip_fits.proofs.Classes.Class.{Usual}
use Rattle.ecma_strip_fits.proofs.Walk.{usual_children, usual_kind}
use Rattle.ecma_sources.specs.TypesAlone.{is_lowered}
use Rattle.ecma_interface.specs.Interface.{AllNames, AsObject, ByName, NameAs, ObjectAs}
use Rattle.ecma_interface.specs.Names.{Id, bound_names}
use Rattle.ecma_interface.specs.Reading.{again, again_by, attributes_of, bound_at, bound_of, by_its_name, default_of, export_by, export_specifier, export_specifier_by, import_by, import_entry, import_entry_by, re_export_by, said_at, said_of, second_name, variable_at, variable_of}
use Rattle.ecma_interface_laws.proofs.Alike.{children_of}
use Rattle.ecma_interface_laws.proofs.Items.{Tells}
use Rattle.ecma_interface_laws.proofs.Telling.{Shapes, child_shaped, is_item, items_stay, list_shaped, listed_shaped, shapes_of}
use Rattle.ecma_strip_interface.proofs.Binding.{declaration_bound, default_bound}
use Rattle.ecma_strip_interface.proofs.Kept.{UsualAt, attributes_at, declared_plain, first_left, got_kept, ident_usual, maybe_name_usual, maybe_text_usual, name_usual, present_kept, said_kept, text_usual, variable_kept}
use Rattle.ecma_strip_interface.proofs.Patterns.{Stands, stands_below}
use Rattle.ecma_strip_interface.proofs.Values.{declaration_value, default_value}

-- a node of this kind keeps it, and its children without types
record Plain (k : Kind) : Type 0 where
  class : class_of k ≡ Usual
  same : plain_kind k ≡ k
  children : (cs : List Node) → plain_children k cs ≡ cs

kind_kept : (n : Node) (k : Kind) → Plain k → kind_of n ≡ k → kind_of (stripped n) ≡ k
kind_kept n k p e = usual_kind n (ap class_of e ∙ p.class) ∙ ap plain_kind e ∙ p.same

children_kept : (n : Node) (k : Kind) → Plain k → kind_of n ≡ k → children_of (stripped n) ≡ map stripped (children_of n)
children_kept n k p e = usual_children n (ap class_of e ∙ p.class) ∙ ap (λ z. plain_children z (map stripped (children_of n))) e ∙ p.children (map stripped (children_of n))

-- ---- specifiers

abbrev is_specifier : Kind → Bool
is_specifier kind.ImportDefaultSpecifier = true
is_specifier kind.ImportStarAsSpecifier = true
is_specifier (kind.ImportNamedSpecifier is_type_only) = true
is_specifier kind.ExportNamespaceSpecifier = true
is_specifier (kind.ExportNamedSpecifier is_type_only) = true
is_specifier _ = false

specifier_plain : (k : Kind) → is_specifier k ≡ true → Plain k
unfolding class_of plain_kind plain_children
specifier_plain kind.ImportDefaultSpecifier h = record { class = refl; same = refl; children = λ cs. refl }
specifier_plain kind.ImportStarAsSpecifier h = record { class = refl; same = refl; children = λ cs. refl }
specifier_plain (kind.ImportNamedSpecifier t) h = record { class = refl; same = refl; children = λ cs. refl }
specifier_plain kind.ExportNamespaceSpecifier h = record { class = refl; same = refl; children = λ cs. refl }
specifier_plain (kind.ExportNamedSpecifier t) h = record { class = refl; same = refl; children = λ cs. refl }
specifier_plain _ h = cc

-- one stays that is not written `type`
specifier_item : (k : Kind) → is_specifier k ≡ true → (b : Bool) → cond (is_empty_stmt k) true (cond (belongs sort.ModuleItem k) b true) ≡ true
specifier_item kind.ImportDefaultSpecifier h b = refl
specifier_item kind.ImportStarAsSpecifier h b = refl
specifier_item (kind.ImportNamedSpecifier t) h b = refl
specifier_item kind.ExportNamespaceSpecifier h b = refl
specifier_item (kind.ExportNamedSpecifier t) h b = refl
specifier_item _ h b = cc

specifier_member : (k : Kind) → is_specifier k ≡ true → (n : Node) → member_stays_by k n ≡ true
unfolding member_stays_by
specifier_member kind.ImportDefaultSpecifier h n = refl
specifier_member kind.ImportStarAsSpecifier h n = refl
specifier_member (kind.ImportNamedSpecifier t) h n = refl
specifier_member kind.ExportNamespaceSpecifier h n = refl
specifier_member (kind.ExportNamedSpecifier t) h n = refl
specifier_member _ h n = cc

specifier_this : (k : Kind) → is_specifier k ≡ true → (n : Node) → is_this_by k n ≡ false
specifier_this kind.BindingIdent h n = cc
specifier_this _ h n = refl

specifier_param : (k : Kind) → is_specifier k ≡ true → (n : Node) → is_this_param_by k n ≡ is_this n
specifier_param kind.Param h n = cc
specifier_param _ h n = refl

and_true : (b : Bool) → (((true && true) && b) && not false) ≡ b
and_true true = refl
and_true false = refl

specifiers_stay : (n : Node) → is_specifier (kind_of n) ≡ true → stays n ≡ specifier_stays (kind_of n)
unfolding stays
specifiers_stay n h =
    let k = kind_of n in
    let param = specifier_param k h n ∙ specifier_this k h n in
    (λ j. ((specifier_item k h (is_value n && not (is_ambient n)) j && specifier_member k h n j) && specifier_stays k) && not (param j)) ∙ and_true (specifier_stays k)

default_plain : Plain kind.ExportDefaultSpecifier
unfolding class_of plain_kind plain_children
default_plain = record { class = refl; same = refl; children = λ cs. refl }

-- what is told of a specifier is told without types, and nothing is told of one that goes
module _ {X : Type 0} (told : Node → List X) where
  abbrev Kept : Node → Type 0
  Kept c = (told (stripped c) ≡ told c) × (stays c ≡ false → told c ≡ [])

  chosen : (b : Bool) (c : Node) (cs : List Node) → stays c ≡ b → Kept c → flat_map told (map stripped (filter stays cs)) ≡ flat_map told cs
      → flat_map told (map stripped (cond b (c ∷ filter stays cs) (filter stays cs))) ≡ told c ++ flat_map told cs
  chosen true c cs e k rest = ap₂ (λ xs ys. xs ++ ys) k.0 rest
  chosen false c cs e k rest = rest ∙ ap (λ xs. xs ++ flat_map told cs) (sym (k.1 e))

  all_kept : (cs : List Node) → ((i : ℕ) (c : Node) → slice_get cs i ≡ Some c → Kept c) → flat_map told (map stripped (filter stays cs)) ≡ flat_map told cs
  all_kept [] h = refl
  all_kept (c ∷ cs) h = chosen (stays c) c cs refl (h 0 c refl) (all_kept cs (λ i x at. h (suc i) x at))

  -- of the list that is the first child of a node
  list_kept : (ns ms : List Node) → ms ≡ map stripped ns → ((l : Node) → slice_get ns 0 ≡ Some l → (kind_of l ≡ kind.List) × ((i : ℕ) (c : Node) → slice_get (children_of l) i ≡ Some c → Kept c))
      → flat_map told (items_of (slice_get ms 0)) ≡ flat_map told (items_of (slice_get ns 0))
  list_kept ns ms is h =
      ap (λ (z : List Node). flat_map told (items_of (slice_get z 0))) is
      ∙ ap (flat_map told) (first_left ns (λ l at. ap is_list (h l at).0))
      ∙ all_kept (items_of (slice_get ns 0)) (of (slice_get ns 0) h)
    where
      of : (o : Option Node) → ((l : Node) → o ≡ Some l → (kind_of l ≡ kind.List) × ((i : ℕ) (c : Node) → slice_get (children_of l) i ≡ Some c → Kept c)) → (i : ℕ) (c : Node) → slice_get (items_of o) i ≡ Some c → Kept c
      of None h i c at = cc
      of (Some l) h i c at = (h l refl).1 i c at

not_empty : (k : Kind) → is_item k ≡ true → is_empty_stmt k ≡ false
not_empty kind.EmptyStmt i = cc
not_empty _ i = refl

both-ways : {b : Bool} → b ≡ true → b ≡ false → ⊥
both-ways h k = cc

-- ---- the parts of a specifier

usual_at : (n : Node) (σ : Sort) → HasShape (one σ) n → (k : Kind) → kind_of n ≡ k → (i : ℕ) (o : Shape) → Shapes k i o → ((l : Kind) → allows o l ≡ true → class_of l ≡ Usual) → UsualAt (children_of n) i
usual_at n σ h k e i o is usual c at = usual (kind_of c) (shapes_of c o (child_shaped n (one σ, h) k e i o is c at)).0

second_kept : (n : Node) (k : Kind) → Plain k → kind_of n ≡ k → UsualAt (children_of n) 0 → UsualAt (children_of n) 1 → second_name (stripped n) ≡ second_name n
second_kept n k p e u v =
    let cs = children_kept n k p e in
    let has : has_child (stripped n) 1 ≡ has_child n 1 = ap (λ (z : List Node). of_kind is_present (slice_get z 1)) cs ∙ present_kept (children_of n) 1 v in
    let one_said = ap (λ (z : List Node). said_of (slice_get z 1)) cs ∙ said_kept (children_of n) 1 v in
    let zero_said = ap (λ (z : List Node). said_of (slice_get z 0)) cs ∙ said_kept (children_of n) 0 u in
    λ j. cond (has j) (one_said j) (zero_said j)

said_first : (n : Node) (k : Kind) → Plain k → kind_of n ≡ k → (i : ℕ) → UsualAt (children_of n) i → said_at (stripped n) i ≡ said_at n i
said_first n k p e i u = ap (λ (z : List Node). said_of (slice_get z i)) (children_kept n k p e) ∙ said_kept (children_of n) i u

variable_first : (text : Id → List ℕ) (n : Node) (k : Kind) → Plain k → kind_of n ≡ k → UsualAt (children_of n) 0 → variable_at text (stripped n) 0 ≡ variable_at text n 0
variable_first text n k p e u = ap (λ (z : List Node). variable_of text (slice_get z 0)) (children_kept n k p e) ∙ variable_kept text (children_of n) 0 u

module _ (text : Id → List ℕ) where
  entry_kept : (c : Node) → HasShape (one sort.ImportSpecifier) c → Kept (import_entry text) c
  unfolding specifier_stays
  entry_kept c h = by (kind_of c) refl (shapes_of c (one sort.ImportSpecifier) h).0
    where
      told_as : (k : Kind) → Plain k → kind_of c ≡ k → import_entry_by text k (stripped c) ≡ import_entry_by text k c → import_entry text (stripped c) ≡ import_entry text c
      told_as k p e same = ap (λ z. import_entry_by text z (stripped c)) (kind_kept c k p e) ∙ same ∙ sym (ap (λ z. import_entry_by text z c) e)

      gone : (k : Kind) → kind_of c ≡ k → is_specifier k ≡ true → specifier_stays k ≡ true → stays c ≡ false → import_entry text c ≡ []
      gone k e i s g = absurd (both-ways (specifiers_stay c (ap is_specifier e ∙ i) ∙ ap specifier_stays e ∙ s) g)

      by : (k : Kind) → kind_of c ≡ k → belongs sort.ImportSpecifier k ≡ true → Kept (import_entry text) c
      by kind.ImportDefaultSpecifier e b =
          let k = kind.ImportDefaultSpecifier in
          let p = specifier_plain k refl in
          (told_as k p e (ap (λ t. record { imported = ByName (codes "default"); local = t } ∷ []) (variable_first text c k p e (usual_at c sort.ImportSpecifier h k e 0 (one sort.Ident) (λ s n. refl) ident_usual))), gone k e refl refl)
      by kind.ImportStarAsSpecifier e b =
          let k = kind.ImportStarAsSpecifier in
          let p = specifier_plain k refl in
          (told_as k p e (ap (λ t. record { imported = AsObject; local = t } ∷ []) (variable_first text c k p e (usual_at c sort.ImportSpecifier h k e 0 (one sort.Ident) (λ s n. refl) ident_usual))), gone k e refl refl)
      by (kind.ImportNamedSpecifier true) e b = (told_as (kind.ImportNamedSpecifier true) (specifier_plain (kind.ImportNamedSpecifier true) refl) e refl, λ g. ap (λ z. import_entry_by text z c) e)
      by (kind.ImportNamedSpecifier false) e b =
          let k = kind.ImportNamedSpecifier false in
          let p = specifier_plain k refl in
          let u = usual_at c sort.ImportSpecifier h k e 0 (one sort.Ident) (λ s n. refl) ident_usual in
          let v = usual_at c sort.ImportSpecifier h k e 1 (maybe sort.ModuleExportName) (λ s n. refl) maybe_name_usual in
          (told_as k p e (ap₂ (λ s t. record { imported = ByName s; local = t } ∷ []) (second_kept c k p e u v) (variable_first text c k p e u)), gone k e refl refl)
      by _ e b = cc

  again_kept : (c : Node) → HasShape (one sort.ExportSpecifier) c → Kept again c
  unfolding specifier_stays
  again_kept c h = by (kind_of c) refl (shapes_of c (one sort.ExportSpecifier) h).0
    where
      told_as : (k : Kind) → Plain k → kind_of c ≡ k → again_by k (stripped c) ≡ again_by k c → again (stripped c) ≡ again c
      told_as k p e same = ap (λ z. again_by z (stripped c)) (kind_kept c k p e) ∙ same ∙ sym (ap (λ z. again_by z c) e)

      gone : (k : Kind) → kind_of c ≡ k → is_specifier k ≡ true → specifier_stays k ≡ true → stays c ≡ false → again c ≡ []
      gone k e i s g = absurd (both-ways (specifiers_stay c (ap is_specifier e ∙ i) ∙ ap specifier_stays e ∙ s) g)

      by : (k : Kind) → kind_of c ≡ k → belongs sort.ExportSpecifier k ≡ true → Kept again c
      by kind.ExportNamespaceSpecifier e b =
          let k = kind.ExportNamespaceSpecifier in
          let p = specifier_plain k refl in
          (told_as k p e (ap (λ s. ObjectAs s ∷ []) (said_first c k p e 0 (usual_at c sort.ExportSpecifier h k e 0 (one sort.ModuleExportName) (λ s n. refl) name_usual))), gone k e refl refl)
      by (kind.ExportNamedSpecifier true) e b = (told_as (kind.ExportNamedSpecifier true) (specifier_plain (kind.ExportNamedSpecifier true) refl) e refl, λ g. ap (λ z. again_by z c) e)
      by (kind.ExportNamedSpecifier false) e b =
          let k = kind.ExportNamedSpecifier false in
          let p = specifier_plain k refl in
          let u = usual_at c sort.ExportSpecifier h k e 0 (one sort.ModuleExportName) (λ s n. refl) name_usual in
          let v = usual_at c sort.ExportSpecifier h k e 1 (maybe sort.ModuleExportName) (λ s n. refl) maybe_name_usual in
          (told_as k p e (ap₂ (λ s t. NameAs s t ∷ []) (said_first c k p e 0 u) (second_kept c k p e u v)), gone k e refl refl)
      by kind.ExportDefaultSpecifier e b = (told_as kind.ExportDefaultSpecifier default_plain e refl, λ g. ap (λ z. again_by z c) e)
      by _ e b = cc

  export_kept : (c : Node) → HasShape (one sort.ExportSpecifier) c → Kept (export_specifier text) c
  unfolding specifier_stays
  export_kept c h = by (kind_of c) refl (shapes_of c (one sort.ExportSpecifier) h).0
    where
      told_as : (k : Kind) → Plain k → kind_of c ≡ k → export_specifier_by text k (stripped c) ≡ export_specifier_by text k c → export_specifier text (stripped c) ≡ export_specifier text c
      told_as k p e same = ap (λ z. export_specifier_by text z (stripped c)) (kind_kept c k p e) ∙ same ∙ sym (ap (λ z. export_specifier_by text z c) e)

      gone : (k : Kind) → kind_of c ≡ k → is_specifier k ≡ true → specifier_stays k ≡ true → stays c ≡ false → export_specifier text c ≡ []
      gone k e i s g = absurd (both-ways (specifiers_stay c (ap is_specifier e ∙ i) ∙ ap specifier_stays e ∙ s) g)

      by : (k : Kind) → kind_of c ≡ k → belongs sort.ExportSpecifier k ≡ true → Kept (export_specifier text) c
      by kind.ExportNamespaceSpecifier e b = (told_as kind.ExportNamespaceSpecifier (specifier_plain kind.ExportNamespaceSpecifier refl) e refl, λ g. ap (λ z. export_specifier_by text z c) e)
      by (kind.ExportNamedSpecifier true) e b = (told_as (kind.ExportNamedSpecifier true) (specifier_plain (kind.ExportNamedSpecifier true) refl) e refl, λ g. ap (λ z. export_specifier_by text z c) e)
      by (kind.ExportNamedSpecifier false) e b =
          let k = kind.ExportNamedSpecifier false in
          let p = specifier_plain k refl in
          let u = usual_at c sort.ExportSpecifier h k e 0 (one sort.ModuleExportName) (λ s n. refl) name_usual in
          let v = usual_at c sort.ExportSpecifier h k e 1 (maybe sort.ModuleExportName) (λ s n. refl) maybe_name_usual in
          (told_as k p e (ap₂ (λ s t. record { exported = s; local = t } ∷ []) (second_kept c k p e u v) (variable_first text c k p e u)), gone k e refl refl)
      by kind.ExportDefaultSpecifier e b = (told_as kind.ExportDefaultSpecifier default_plain e refl, λ g. ap (λ z. export_specifier_by text z c) e)
      by _ e b = cc

-- ---- items

item_plain : (k : Kind) → is_item k ≡ true → Plain k
unfolding class_of plain_kind plain_children
item_plain (kind.ImportDecl t) i = record { class = refl; same = refl; children = λ cs. refl }
item_plain kind.ExportDecl i = record { class = refl; same = refl; children = λ cs. refl }
item_plain (kind.NamedExport t) i = record { class = refl; same = refl; children = λ cs. refl }
item_plain kind.ExportDefaultDecl i = record { class = refl; same = refl; children = λ cs. refl }
item_plain kind.ExportDefaultExpr i = record { class = refl; same = refl; children = λ cs. refl }
item_plain (kind.ExportAll t) i = record { class = refl; same = refl; children = λ cs. refl }
item_plain (kind.TsImportEqualsDecl e t) i = record { class = refl; same = refl; children = λ cs. refl }
item_plain _ i = cc

pub declaration_usual : (k : Kind) → belongs sort.Decl k ≡ true → class_of k ≡ Usual
unfolding class_of
declaration_usual (kind.ClassDecl d) b = refl
declaration_usual (kind.FnDecl d) b = refl
declaration_usual (kind.VarDecl v d) b = refl
declaration_usual (kind.TsInterfaceDecl d) b = refl
declaration_usual (kind.TsTypeAliasDecl d) b = refl
declaration_usual (kind.TsEnumDecl d c) b = refl
declaration_usual (kind.TsModuleDecl d g) b = refl
declaration_usual _ b = cc

and-right : (a b : Bool) → (a && b) ≡ true → b ≡ true
and-right true b h = h
and-right false b h = cc

held_at : (n : Node) (i : ℕ) → has_attributes_at i n ≡ true → (c : Node) → slice_get (children_of n) i ≡ Some c → holds_attributes c ≡ true
held_at n i h c at = ap (holds_of holds_attributes) (sym at) ∙ h

-- the declaration that is exported
bound_there : (cs : List Node) → ((c : Node) → slice_get cs 0 ≡ Some c → bound_names (stripped c) ≡ bound_names c) → bound_of (slice_get (map stripped cs) 0) ≡ bound_of (slice_get cs 0)
bound_there [] h = refl
bound_there (c ∷ cs) h = h c refl

declared_there : (cs : List Node) → ((c : Node) → slice_get cs 0 ≡ Some c → belongs sort.Decl (kind_of c) ≡ true)
    → if_there (slice_get (map stripped cs) 0) (λ x. is_declared (kind_of x)) ≡ if_there (slice_get cs 0) (λ x. is_declared (kind_of x))
declared_there [] h = refl
declared_there (c ∷ cs) h = ap is_declared (usual_kind c (declaration_usual (kind_of c) (h c refl))) ∙ declared_plain (kind_of c)

module _ (text : Id → List ℕ) (x : Node) (w : Where) (shaped : HasShape (one sort.ModuleItem) x) (stands : Stands x w) (full : is_full_by (kind_of x) x ≡ true) (native : is_lowered (kind_of x) ≡ false)
    (below : (c : Node) → slice_get (children_of x) 0 ≡ Some c → kind_of x ≡ kind.ExportDecl → is_lowered (kind_of c) ≡ false) where
  abbrev y : Node
  y = stripped x

  abbrev TellsBy : Kind → Type 0
  TellsBy k = (import_by text k y ≡ import_by text k x) × (re_export_by k y ≡ re_export_by k x) × (export_by text k y ≡ export_by text k x)

  bound_kept : (k : Kind) → Plain k → kind_of x ≡ k → ((c : Node) → slice_get (children_of x) 0 ≡ Some c → bound_names (stripped c) ≡ bound_names c) → bound_at y 0 ≡ bound_at x 0
  bound_kept k p e h = ap (λ (z : List Node). bound_of (slice_get z 0)) (children_kept x k p e) ∙ bound_there (children_of x) h

  attributes_there : (k : Kind) → Plain k → kind_of x ≡ k → (i : ℕ) → Shapes k i (maybe sort.ObjectLit) → has_attributes_at i x ≡ true → attributes_of (slice_get (children_of y) i) ≡ attributes_of (slice_get (children_of x) i)
  attributes_there k p e i is held =
      ap (λ (z : List Node). attributes_of (slice_get z i)) (children_kept x k p e)
      ∙ attributes_at (children_of x) i (λ c at. (child_shaped x (one sort.ModuleItem, shaped) k e i (maybe sort.ObjectLit) is c at, held_at x i held c at))

  full_as : (k : Kind) → kind_of x ≡ k → is_full_by k x ≡ true
  full_as k e = ap (λ z. is_full_by z x) (sym e) ∙ full

  list_at : (σ : Sort) (k : Kind) → kind_of x ≡ k → Shapes k 0 (many σ) → (l : Node) → slice_get (children_of x) 0 ≡ Some l → HasShape (many σ) l
  list_at σ k e is l at = child_shaped x (one sort.ModuleItem, shaped) k e 0 (many σ) is l at

  telling_by : (k : Kind) → kind_of x ≡ k → is_item k ≡ true → TellsBy k
  unfolding is_full_by
  telling_by (kind.ImportDecl true) e i = (refl, refl, refl)
  telling_by (kind.ImportDecl false) e i =
      let k = kind.ImportDecl false in
      let p = item_plain k refl in
      let shape = list_at sort.ImportSpecifier k e (λ s n. refl) in
      let entries = list_kept (import_entry text) (children_of x) (children_of y) (children_kept x k p e)
      (λ l at. (list_shaped sort.ImportSpecifier l (shape l at), λ j c there. entry_kept text c (listed_shaped sort.ImportSpecifier l (shape l at) j c there))) in
      let source = said_first x k p e 1 (usual_at x sort.ModuleItem shaped k e 1 (one sort.Str) (λ s n. refl) text_usual) in
      let attributes = attributes_there k p e 2 (λ s n. refl) (and-right (are_imports (items_at x 0)) (has_attributes_at 2 x) (full_as k e)) in
      ((λ j. record { request = record { source = source j; attributes = attributes j }; entries = entries j } ∷ []), refl, refl)
  telling_by kind.ExportDecl e i =
      let k = kind.ExportDecl in
      let bound = bound_kept k (item_plain k refl) e
      (λ d at. declaration_bound d (where_in w x 0) (child_shaped x (one sort.ModuleItem, shaped) k e 0 (one sort.Decl) (λ s n. refl) d at) (stands_below x w stands 0 d at)) in
      (refl, refl, ap (map (by_its_name text)) bound)
  telling_by (kind.NamedExport true) e i = (refl, refl, refl)
  telling_by (kind.NamedExport false) e i =
      let k = kind.NamedExport false in
      let p = item_plain k refl in
      let shape = list_at sort.ExportSpecifier k e (λ s n. refl) in
      let entries = list_kept again (children_of x) (children_of y) (children_kept x k p e)
      (λ l at. (list_shaped sort.ExportSpecifier l (shape l at), λ j c there. again_kept text c (listed_shaped sort.ExportSpecifier l (shape l at) j c there))) in
      let own = list_kept (export_specifier text) (children_of x) (children_of y) (children_kept x k p e)
      (λ l at. (list_shaped sort.ExportSpecifier l (shape l at), λ j c there. export_kept text c (listed_shaped sort.ExportSpecifier l (shape l at) j c there))) in
      let u = usual_at x sort.ModuleItem shaped k e 1 (maybe sort.Str) (λ s n. refl) maybe_text_usual in
      let source = said_first x k p e 1 u in
      let has : has_child y 1 ≡ has_child x 1 = ap (λ (z : List Node). of_kind is_present (slice_get z 1)) (children_kept x k p e) ∙ present_kept (children_of x) 1 u in
      let attributes = attributes_there k p e 2 (λ s n. refl) (and-right (are_exports (has_child x 1) (has_child x 2) (items_at x 0)) (has_attributes_at 2 x) (full_as k e)) in
      (refl, (λ j. cond (has j) (record { request = record { source = source j; attributes = attributes j }; entries = entries j } ∷ []) []), (λ j. cond (has j) [] (own j)))
  telling_by kind.ExportDefaultDecl e i =
      let k = kind.ExportDefaultDecl in
      let bound = bound_kept k (item_plain k refl) e (λ d at. default_bound d (child_shaped x (one sort.ModuleItem, shaped) k e 0 (one sort.DefaultDecl) (λ s n. refl) d at)) in
      (refl, refl, ap (default_of text) bound)
  telling_by kind.ExportDefaultExpr e i = (refl, refl, refl)
  telling_by (kind.ExportAll true) e i = (refl, refl, refl)
  telling_by (kind.ExportAll false) e i =
      let k = kind.ExportAll false in
      let p = item_plain k refl in
      let source = said_first x k p e 0 (usual_at x sort.ModuleItem shaped k e 0 (one sort.Str) (λ s n. refl) text_usual) in
      let attributes = attributes_there k p e 1 (λ s n. refl) (full_as k e) in
      (refl, (λ j. record { request = record { source = source j; attributes = attributes j }; entries = AllNames ∷ [] } ∷ []), refl)
  telling_by (kind.TsImportEqualsDecl a b) e i = absurd (both-ways (ap is_lowered e) native)
  telling_by _ e i = cc

  pub item_tells : is_item (kind_of x) ≡ true → Tells text text x y
  item_tells i =
      let k = kind_of x in
      let t = telling_by k refl i in
      let e = kind_kept x k (item_plain k i) refl in
      (ap (λ z. import_by text z y) e ∙ t.0, ap (λ z. re_export_by z y) e ∙ t.1, ap (λ z. export_by text z y) e ∙ t.2)

  -- ---- what stays

  value_by_kind : (k : Kind) → kind_of x ≡ k → is_item k ≡ true → value_by k (values_in true k (map stripped (children_of x))) ≡ value_by k (values_in true k (children_of x))
  unfolding value_by
  value_by_kind (kind.ImportDecl t) e i = refl
  value_by_kind kind.ExportDecl e i =
      got_kept (is_value_where true) (children_of x) 0
      (λ d at. declaration_value true d (child_shaped x (one sort.ModuleItem, shaped) kind.ExportDecl e 0 (one sort.Decl) (λ s n. refl) d at) (below d at e))
  value_by_kind (kind.NamedExport t) e i = refl
  value_by_kind kind.ExportDefaultDecl e i =
      got_kept (is_value_where true) (children_of x) 0 (λ d at. default_value true d (child_shaped x (one sort.ModuleItem, shaped) kind.ExportDefaultDecl e 0 (one sort.DefaultDecl) (λ s n. refl) d at))
  value_by_kind kind.ExportDefaultExpr e i = refl
  value_by_kind (kind.ExportAll t) e i = refl
  value_by_kind (kind.TsImportEqualsDecl a b) e i = refl
  value_by_kind _ e i = cc

  pub item_remains : is_item (kind_of x) ≡ true → stays y ≡ stays x
  item_remains i =
      let k = kind_of x in
      let p = item_plain k i in
      let values : is_value y ≡ is_value x =
      is_value-out y ∙ ap₂ (λ z zs. value_by z (values_in true z zs)) (kind_kept x k p refl) (children_kept x k p refl) ∙ value_by_kind k refl i ∙ sym (is_value-out x) in
      items_stay x y (kind_kept x k p refl) i values
      (λ e. ap (λ (z : List Node). if_there (slice_get z 0) (λ n. is_declared (kind_of n))) (children_kept x k p refl)
      ∙ declared_there (children_of x) (λ c at. (shapes_of c (one sort.Decl) (child_shaped x (one sort.ModuleItem, shaped) kind.ExportDecl e 0 (one sort.Decl) (λ s n. refl) c at)).0))

  pub item_full : is_item (kind_of x) ≡ true → is_empty_stmt (kind_of y) ≡ false
  item_full i = ap is_empty_stmt (kind_kept x (kind_of x) (item_plain (kind_of x) i) refl) ∙ not_empty (kind_of x) i
