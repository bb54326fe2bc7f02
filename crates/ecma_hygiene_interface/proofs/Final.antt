-- A module has with other texts the interface that it has by these texts.
use Rattle.std.proofs.Common.{◌≡◌, ◌∙◌, inl, inr, ◌&&◌, ◌||◌, not, ℕ, zero, suc, Bool, true, false, cond, List, [], ◌∷◌, ◌++◌, flat_map, length, map, Option, Some, None, refl, sym, ap, ap₂, subst, slice_get}
use Rattle.std.specs.List.{list_all}
use Rattle.ecma_kind.specs.Sorts.{belongs}
use Rattle.ecma_kind.specs.declared.kind.Kind.{Kind}
use Rattle.ecma_kind.specs.declared.kind.Kind.TheVariants as kind
use Rattle.ecma_kind.specs.declared.shapes.Shape.{Shape}
use Rattle.ecma_kind.specs.declared.shapes.Sort.{Sort}
use Rattle.ecma_kind.specs.declared.shapes.Sort.TheVariants as sort
use Rattle.ecma_tree.specs.declared.node.Node.{Node}
use Rattle.ecma_tree.specs.Laws.{HaveShapes}
use Rattle.ecma_tree.specs.Sorted.{HasShape, allows, child_shapes, is_absent, many, maybe, one}
use Rattle.ecma_rules.specs.Children.{child_is, children_of as items_of, has_child, holds_of, is_present, items_at, kind_of, of_kind}
use Rattle.ecma_rules.specs.Failing.{failing_here}
use Rattle.ecma_rules.specs.Targets.{is_key_value}
use Rattle.ecma_fits.specs.declared.unfit.Where.{Where}
use Rattle.ecma_fits.specs.Counts.{are_exports, are_imports, has_attributes_at, holds_attributes, is_attribute, is_attribute_key, is_full_by, is_short, is_text}
use Rattle.ecma_fits.specs.Fitting.{Fits, at_top, where_in}
use Rattle.ecma_scope.specs.declared.role.Role.{Role}
use Rattle.ecma_scope.specs.declared.role.Role.TheVariants as role
use Rattle.ecma_scope.specs.Scopes.{is_there, of_exports, passes_in_list, role_by, role_in}
use Rattle.ecma_strip.specs.Staying.{if_there, is_declared, stays}
use Rattle.ecma_strip_fits.proofs.Strays.{not_failing}
use Rattle.ecma_bind_fits.proofs.Bound.{parts_none}
use Rattle.ecma_hygiene.specs.declared.spot.Standing.{Standing}
use Rattle.ecma_hygiene.specs.Renamed.{Texts, at_root, renamed, standing_in, text_of}
use Rattle.ecma_hygiene_fits.proofs.Becoming.{Quiet, all_become, become, child_same, children_stay, children_unchanged, is_changed, is_touched, kind_stays}
use Rattle.ecma_interface.specs.Interface.{AllNames, Export, ReExport}
use Rattle.ecma_interface.specs.Names.{Id, bound_names}
use Rattle.ecma_interface.specs.Reading.{again, attribute, attributes_of, bound_at, bound_of, by_its_name, default_of, export_by, export_specifier, import_by, import_entry, interface_of, is_required, own_text, re_export_by, request_at, said_at, said_by, said_of}
use Rattle.ecma_interface_laws.proofs.Alike.{children_of}
use Rattle.ecma_interface_laws.proofs.Items.{SameItem, SameItems, Tells, interface_same}
use Rattle.ecma_interface_laws.proofs.Telling.{Shapes, child_shaped, is_item, items_stay, list_shaped, listed_shaped, shapes_of, silent}
use Rattle.ecma_strip_interface.proofs.Patterns.{Stands, stands_below}
use Rattle.ecma_hygiene_interface.specs.Laws.{FinalTextsKeepInterfaces, KeepTexts, KeepsExported, exports_declaration}
use Rattle.ecma_hygiene_interface.proofs.Bound.{declaration_kept, default_kept, equals_kept}
use Rattle.ecma_hygiene_interface.proofs.Names.{value_become}
use Rattle.ecma_hygiene_interface.proofs.Specifiers.{again_become, entry_become, export_become}

both : (a b : Bool) → (a && b) ≡ true → (a ≡ true) × (b ≡ true)
both true b h = (refl, h)
both false b h = cc

not-false : (b : Bool) → not b ≡ false → b ≡ true
not-false true h = refl
not-false false h = cc

-- ---- kinds that are not touched

item_untouched : (k : Kind) → is_item k ≡ true → is_touched k ≡ false
unfolding is_touched
item_untouched (kind.ImportDecl t) i = refl
item_untouched kind.ExportDecl i = refl
item_untouched (kind.NamedExport t) i = refl
item_untouched kind.ExportDefaultDecl i = refl
item_untouched kind.ExportDefaultExpr i = refl
item_untouched (kind.ExportAll t) i = refl
item_untouched (kind.TsImportEqualsDecl e t) i = refl
item_untouched _ i = cc

module_item : (k : Kind) → belongs sort.ModuleItem k ≡ true → is_touched k ≡ false
unfolding is_touched
module_item (kind.Ident s c o) b = cc
module_item kind.KeyValueProp b = cc
module_item kind.AssignPatProp b = cc
module_item kind.KeyValuePatProp b = cc
module_item (kind.ImportNamedSpecifier t) b = cc
module_item (kind.ExportNamedSpecifier t) b = cc
module_item _ b = refl

list_untouched : is_touched kind.List ≡ false
unfolding is_touched
list_untouched = refl

text_untouched : (k : Kind) → belongs sort.Str k ≡ true → is_touched k ≡ false
unfolding is_touched
text_untouched (kind.Str value raw) b = refl
text_untouched _ b = cc

maybe_text_untouched : (k : Kind) → (is_absent k || belongs sort.Str k) ≡ true → is_touched k ≡ false
unfolding is_touched
maybe_text_untouched (kind.Str value raw) b = refl
maybe_text_untouched kind.Absent b = refl
maybe_text_untouched _ b = cc

object_untouched : (k : Kind) → (is_absent k || belongs sort.ObjectLit k) ≡ true → is_touched k ≡ false
unfolding is_touched
object_untouched kind.Absent b = refl
object_untouched kind.ObjectLit b = refl
object_untouched _ b = cc

key_untouched : (k : Kind) → is_attribute_key k ≡ true → is_touched k ≡ false
unfolding is_touched
key_untouched (kind.IdentName s) b = refl
key_untouched (kind.Str value raw) b = refl
key_untouched _ b = cc

value_untouched : (k : Kind) → is_text k ≡ true → is_touched k ≡ false
unfolding is_touched
value_untouched (kind.Str value raw) b = refl
value_untouched _ b = cc

required_quiet : Quiet false is_required
unfolding is_touched
required_quiet kind.TsExternalModuleRef t = cc
required_quiet _ t = refl

declaration_untouched : (k : Kind) → belongs sort.Decl k ≡ true → is_touched k ≡ false
unfolding is_touched
declaration_untouched (kind.ClassDecl d) b = refl
declaration_untouched (kind.FnDecl d) b = refl
declaration_untouched (kind.VarDecl v d) b = refl
declaration_untouched (kind.TsInterfaceDecl d) b = refl
declaration_untouched (kind.TsTypeAliasDecl d) b = refl
declaration_untouched (kind.TsEnumDecl d c) b = refl
declaration_untouched (kind.TsModuleDecl d g) b = refl
declaration_untouched _ b = cc

key_value_unchanged : (k : Kind) → is_key_value k ≡ true → is_changed k ≡ false
unfolding is_changed
key_value_unchanged kind.KeyValueProp h = refl
key_value_unchanged _ h = cc

none_there : (cs : List Node) → HaveShapes [] cs → (l : Node) → slice_get cs 0 ≡ Some l → ⊥
none_there [] h l at = cc
none_there (c ∷ cs) h l at = absurd h

-- where the items of a list stand
abbrev list_standing : Option Node → Standing → ℕ → Standing
list_standing None stands i = stands
list_standing (Some l) stands i = standing_in stands l i

list_role : (l : Node) → kind_of l ≡ kind.List → (r : Role) (j : ℕ) → role_in r l j ≡ passes_in_list r
unfolding role_by
list_role l e r j = ap (λ k. role_by r k (is_there (children_of l) 1) j) e

-- ids that keep their texts, by these
named_same : (texts : Texts) (ids : List Id) → KeepTexts texts ids → map (by_its_name own_text) ids ≡ map (by_its_name (text_of texts)) ids
named_same texts [] k = refl
named_same texts (id ∷ ids) k = ap₂ (λ t pairs. record { exported = id.0; local = t } ∷ pairs) (sym k.0) (named_same texts ids k.1)

-- ---- children by their index

module _ (texts : Texts) where
  abbrev UntouchedAt : List Node → ℕ → Type 0
  UntouchedAt cs i = (c : Node) → slice_get cs i ≡ Some c → is_touched (kind_of c) ≡ false

  said_kept : (cs : List Node) (i : ℕ) → UntouchedAt cs i → (stands : ℕ → Standing) (j : ℕ) → said_of (slice_get (all_become texts stands j cs) i) ≡ said_of (slice_get cs i)
  said_kept [] i u stands j = refl
  said_kept (c ∷ cs) zero u stands j = ap said_by (kind_stays texts c (stands j) (u c refl))
  said_kept (c ∷ cs) (suc i) u stands j = said_kept cs i u stands (suc j)

  present_kept : (cs : List Node) (i : ℕ) → UntouchedAt cs i → (stands : ℕ → Standing) (j : ℕ) → of_kind is_present (slice_get (all_become texts stands j cs) i) ≡ of_kind is_present (slice_get cs i)
  present_kept [] i u stands j = refl
  present_kept (c ∷ cs) zero u stands j = ap is_present (kind_stays texts c (stands j) (u c refl))
  present_kept (c ∷ cs) (suc i) u stands j = present_kept cs i u stands (suc j)

  -- ---- attributes

  of_kind_at : (is : Kind → Bool) → ((k : Kind) → is k ≡ true → is_touched k ≡ false) → (cs : List Node) (i : ℕ) → of_kind is (slice_get cs i) ≡ true → UntouchedAt cs i
  of_kind_at is untouched [] i h c at = cc
  of_kind_at is untouched (x ∷ xs) zero h c at = let same_node : x ≡ c = cc in subst (λ (z : Node). is_touched (kind_of z) ≡ false) same_node (untouched (kind_of x) h)
  of_kind_at is untouched (x ∷ xs) (suc i) h c at = of_kind_at is untouched xs i h c at

  attribute_kept : (p : Node) → is_attribute p ≡ true → (stands : Standing) → attribute (become texts p stands) ≡ attribute p
  attribute_kept p h stands =
      let t = both (is_key_value (kind_of p)) (child_is is_attribute_key p 0 && child_is is_text p 1) h in
      let u = both (child_is is_attribute_key p 0) (child_is is_text p 1) t.1 in
      let children = children_unchanged texts p stands (key_value_unchanged (kind_of p) t.0) in
      let key = ap (λ (z : List Node). said_of (slice_get z 0)) children ∙ said_kept (children_of p) 0 (of_kind_at is_attribute_key key_untouched (children_of p) 0 u.0) (standing_in stands p) 0 in
      let value = ap (λ (z : List Node). said_of (slice_get z 1)) children ∙ said_kept (children_of p) 1 (of_kind_at is_text value_untouched (children_of p) 1 u.1) (standing_in stands p) 0 in
      λ j. record { key = key j; value = value j }

  attributes_kept : (ps : List Node) → list_all is_attribute ps ≡ true → (stands : ℕ → Standing) (j : ℕ) → map attribute (all_become texts stands j ps) ≡ map attribute ps
  attributes_kept [] h stands j = refl
  attributes_kept (p ∷ ps) h stands j = let t = both (is_attribute p) (list_all is_attribute ps) h in ap₂ (λ x xs. x ∷ xs) (attribute_kept p t.0 (stands j)) (attributes_kept ps t.1 stands (suc j))

  -- of the list that is the first child
  first_items : (cs : List Node) (stands : ℕ → Standing) → ((l : Node) → slice_get cs 0 ≡ Some l → is_touched (kind_of l) ≡ false)
      → items_of (slice_get (all_become texts stands 0 cs) 0) ≡ all_become texts (list_standing (slice_get cs 0) (stands 0)) 0 (items_of (slice_get cs 0))
  first_items [] stands u = refl
  first_items (l ∷ cs) stands u = children_stay texts l (stands 0) (u l refl)

  object_list : (c : Node) → HasShape (maybe sort.ObjectLit) c → (l : Node) → slice_get (children_of c) 0 ≡ Some l → is_touched (kind_of l) ≡ false
  object_list c h l at = by (kind_of c) refl (shapes_of c (maybe sort.ObjectLit) h).0
    where
      by : (k : Kind) → kind_of c ≡ k → (is_absent k || belongs sort.ObjectLit k) ≡ true → is_touched (kind_of l) ≡ false
      by kind.ObjectLit e b = ap is_touched (list_shaped sort.PropOrSpread l (child_shaped c (maybe sort.ObjectLit, h) kind.ObjectLit e 0 (many sort.PropOrSpread) (λ s n. refl) l at)) ∙ list_untouched
      by kind.Absent e b = absurd (none_there (children_of c) (subst (λ (k : Kind). HaveShapes (child_shapes k (maybe sort.ObjectLit) (length (children_of c))) (children_of c)) e (shapes_of c (maybe sort.ObjectLit) h).1) l at)
      by _ e b = cc

  object_kept : (c : Node) → HasShape (maybe sort.ObjectLit) c → holds_attributes c ≡ true → (stands : Standing) → attributes_of (Some (become texts c stands)) ≡ attributes_of (Some c)
  object_kept c h held stands =
      ap (λ (z : List Node). map attribute (items_of (slice_get z 0))) (children_stay texts c stands (object_untouched (kind_of c) (shapes_of c (maybe sort.ObjectLit) h).0))
      ∙ ap (map attribute) (first_items (children_of c) (standing_in stands c) (object_list c h))
      ∙ attributes_kept (items_at c 0) held (list_standing (slice_get (children_of c) 0) (standing_in stands c 0)) 0

  attributes_at : (cs : List Node) (i : ℕ) → ((c : Node) → slice_get cs i ≡ Some c → HasShape (maybe sort.ObjectLit) c × (holds_attributes c ≡ true)) → (stands : ℕ → Standing) (j : ℕ)
      → attributes_of (slice_get (all_become texts stands j cs) i) ≡ attributes_of (slice_get cs i)
  attributes_at [] i h stands j = refl
  attributes_at (c ∷ cs) zero h stands j = let t = h c refl in object_kept c t.0 t.1 (stands j)
  attributes_at (c ∷ cs) (suc i) h stands j = attributes_at cs i h stands (suc j)

  -- ---- lists of specifiers

  each_kept : {X : Type 0} (f g : Node → List X) (cs : List Node) (stands : ℕ → Standing) (j : ℕ) → ((i : ℕ) (c : Node) → slice_get cs i ≡ Some c → (k : ℕ) → g (become texts c (stands k)) ≡ f c) → flat_map g (all_become texts stands j cs) ≡ flat_map f cs
  each_kept f g [] stands j h = refl
  each_kept f g (c ∷ cs) stands j h = ap₂ (λ xs ys. xs ++ ys) (h 0 c refl j) (each_kept f g cs stands (suc j) (λ i x at k. h (suc i) x at k))

held_at : (n : Node) (i : ℕ) → has_attributes_at i n ≡ true → (c : Node) → slice_get (children_of n) i ≡ Some c → holds_attributes c ≡ true
held_at n i h c at = ap (holds_of holds_attributes) (sym at) ∙ h

and-right : (a b : Bool) → (a && b) ≡ true → b ≡ true
and-right true b h = h
and-right false b h = cc

there_present : (cs : List Node) (i : ℕ) → is_there cs i ≡ of_kind is_present (slice_get cs i)
there_present [] i = refl
there_present (c ∷ cs) zero = refl
there_present (c ∷ cs) (suc i) = there_present cs i

module _ (texts : Texts) (x : Node) (w : Where) (stands : Standing) (shaped : HasShape (one sort.ModuleItem) x) (at : Stands x w) (full : is_full_by (kind_of x) x ≡ true) where
  abbrev y : Node
  y = become texts x stands

  abbrev text : Id → List ℕ
  text = text_of texts

  abbrev TellsBy : Kind → Type 0
  TellsBy k = (import_by own_text k y ≡ import_by text k x) × (re_export_by k y ≡ re_export_by k x) × (export_by own_text k y ≡ export_by text k x)

  kind_kept : (k : Kind) → kind_of x ≡ k → is_item k ≡ true → kind_of y ≡ k
  kind_kept k e i = kind_stays texts x stands (ap is_touched e ∙ item_untouched k i) ∙ e

  children_kept : (k : Kind) → kind_of x ≡ k → is_item k ≡ true → children_of y ≡ all_become texts (standing_in stands x) 0 (children_of x)
  children_kept k e i = children_stay texts x stands (ap is_touched e ∙ item_untouched k i)

  full_as : (k : Kind) → kind_of x ≡ k → is_full_by k x ≡ true
  full_as k e = ap (λ z. is_full_by z x) (sym e) ∙ full

  untouched_at : (k : Kind) → kind_of x ≡ k → (i : ℕ) (o : Shape) → Shapes k i o → ((l : Kind) → allows o l ≡ true → is_touched l ≡ false) → UntouchedAt texts (children_of x) i
  untouched_at k e i o is untouched c there = untouched (kind_of c) (shapes_of c o (child_shaped x (one sort.ModuleItem, shaped) k e i o is c there)).0

  said : (k : Kind) → kind_of x ≡ k → is_item k ≡ true → (i : ℕ) → UntouchedAt texts (children_of x) i → said_at y i ≡ said_at x i
  said k e it i u = ap (λ (z : List Node). said_of (slice_get z i)) (children_kept k e it) ∙ said_kept texts (children_of x) i u (standing_in stands x) 0

  attributes : (k : Kind) → kind_of x ≡ k → is_item k ≡ true → (i : ℕ) → Shapes k i (maybe sort.ObjectLit) → has_attributes_at i x ≡ true → attributes_of (slice_get (children_of y) i) ≡ attributes_of (slice_get (children_of x) i)
  attributes k e it i is held =
      ap (λ (z : List Node). attributes_of (slice_get z i)) (children_kept k e it)
      ∙ attributes_at texts (children_of x) i (λ c there. (child_shaped x (one sort.ModuleItem, shaped) k e i (maybe sort.ObjectLit) is c there, held_at x i held c there)) (standing_in stands x) 0

  list_at : (σ : Sort) (k : Kind) → kind_of x ≡ k → Shapes k 0 (many σ) → (l : Node) → slice_get (children_of x) 0 ≡ Some l → HasShape (many σ) l
  list_at σ k e is l there = child_shaped x (one sort.ModuleItem, shaped) k e 0 (many σ) is l there

  -- the specifiers, each in a role
  specifiers : {X : Type 0} (σ : Sort) (k : Kind) → kind_of x ≡ k → is_item k ≡ true → Shapes k 0 (many σ) → (r : Role) → passes_in_list (role_in stands.role x 0) ≡ r → (f g : Node → List X)
      → ((c : Node) → HasShape (one σ) c → (q : Standing) → q.role ≡ r → g (become texts c q) ≡ f c) → flat_map g (items_at y 0) ≡ flat_map f (items_at x 0)
  specifiers σ k e it is r role_is f g same =
      ap (λ (z : List Node). flat_map g (items_of (slice_get z 0))) (children_kept k e it)
      ∙ ap (flat_map g) (first_items texts (children_of x) (standing_in stands x) (λ l there. ap is_touched (list_shaped σ l (list_at σ k e is l there)) ∙ list_untouched))
      ∙ by (slice_get (children_of x) 0) refl
    where
      by : (o : Option Node) → slice_get (children_of x) 0 ≡ o → flat_map g (all_become texts (list_standing o (standing_in stands x 0)) 0 (items_of o)) ≡ flat_map f (items_of o)
      by None there = refl
      by (Some l) there =
          let shape = list_at σ k e is l there in
          each_kept texts f g (children_of l) (standing_in (standing_in stands x 0) l) 0
          (λ i c here j. same c (listed_shaped σ l shape i c here) (standing_in (standing_in stands x 0) l j) (list_role l (list_shaped σ l shape) (role_in stands.role x 0) j ∙ role_is))

  bound_kept : (k : Kind) → kind_of x ≡ k → is_item k ≡ true → ((c : Node) → slice_get (children_of x) 0 ≡ Some c → bound_names (become texts c (standing_in stands x 0)) ≡ bound_names c) → bound_at y 0 ≡ bound_at x 0
  bound_kept k e it h = ap (λ (z : List Node). bound_of (slice_get z 0)) (children_kept k e it) ∙ by (children_of x) h
    where
      by : (cs : List Node) → ((c : Node) → slice_get cs 0 ≡ Some c → bound_names (become texts c (standing_in stands x 0)) ≡ bound_names c) → bound_of (slice_get (all_become texts (standing_in stands x) 0 cs) 0) ≡ bound_of (slice_get cs 0)
      by [] h = refl
      by (c ∷ cs) h = h c refl

  default_there : (k : Kind) → kind_of x ≡ k → is_item k ≡ true → ((c : Node) → slice_get (children_of x) 0 ≡ Some c → default_of own_text (bound_names (become texts c (standing_in stands x 0))) ≡ default_of text (bound_names c))
      → default_of own_text (bound_at y 0) ≡ default_of text (bound_at x 0)
  default_there k e it h = ap (λ (z : List Node). default_of own_text (bound_of (slice_get z 0))) (children_kept k e it) ∙ by (children_of x) h
    where
      by : (cs : List Node) → ((c : Node) → slice_get cs 0 ≡ Some c → default_of own_text (bound_names (become texts c (standing_in stands x 0))) ≡ default_of text (bound_names c))
          → default_of own_text (bound_of (slice_get (all_become texts (standing_in stands x) 0 cs) 0)) ≡ default_of text (bound_of (slice_get cs 0))
      by [] h = refl
      by (c ∷ cs) h = h c refl

  telling_by : (exports_declaration (kind_of x) ≡ true → KeepTexts texts (bound_at x 0)) → (k : Kind) → kind_of x ≡ k → is_item k ≡ true → TellsBy k
  unfolding is_full_by role_by
  telling_by kept (kind.ImportDecl true) e i = (refl, refl, refl)
  telling_by kept (kind.ImportDecl false) e i =
      let k = kind.ImportDecl false in
      let entries = specifiers sort.ImportSpecifier k e refl (λ s n. refl) (passes_in_list (role_in stands.role x 0)) refl (import_entry text) (import_entry own_text) (λ c h q r. entry_become texts c h q) in
      let source = said k e refl 1 (untouched_at k e 1 (one sort.Str) (λ s n. refl) text_untouched) in
      let with = attributes k e refl 2 (λ s n. refl) (and-right (are_imports (items_at x 0)) (has_attributes_at 2 x) (full_as k e)) in
      ((λ j. record { request = record { source = source j; attributes = with j }; entries = entries j } ∷ []), refl, refl)
  telling_by kept kind.ExportDecl e i =
      let k = kind.ExportDecl in
      let bound = bound_kept k e refl
      (λ d there. declaration_kept texts d (where_in w x 0) (child_shaped x (one sort.ModuleItem, shaped) k e 0 (one sort.Decl) (λ s n. refl) d there) (stands_below x w at 0 d there)
      (subst (λ o. KeepTexts texts (bound_of o)) there (kept (ap exports_declaration e))) (standing_in stands x 0)) in
      (refl, refl, ap (map (by_its_name own_text)) bound ∙ named_same texts (bound_at x 0) (kept (ap exports_declaration e)))
  telling_by kept (kind.NamedExport true) e i = (refl, refl, refl)
  telling_by kept (kind.NamedExport false) e i = named (has_child x 1) refl
    where
      u : UntouchedAt texts (children_of x) 1
      u = untouched_at (kind.NamedExport false) e 1 (maybe sort.Str) (λ s n. refl) maybe_text_untouched

      has : has_child y 1 ≡ has_child x 1
      has = ap (λ (z : List Node). of_kind is_present (slice_get z 1)) (children_kept (kind.NamedExport false) e refl) ∙ present_kept texts (children_of x) 1 u (standing_in stands x) 0

      sourced : (b : Bool) → has_child x 1 ≡ b → role_in stands.role x 0 ≡ of_exports b 0
      sourced b s = ap (λ z. role_by stands.role z (is_there (children_of x) 1) 0) e ∙ ap (λ z. of_exports z 0) (there_present (children_of x) 1 ∙ s)

      named : (b : Bool) → has_child x 1 ≡ b → TellsBy (kind.NamedExport false)
      named true s =
          let entries = specifiers sort.ExportSpecifier (kind.NamedExport false) e refl (λ z n. refl) role.Sourced (ap passes_in_list (sourced true s)) again again (again_become texts) in
          let source = said (kind.NamedExport false) e refl 1 u in
          let with = attributes (kind.NamedExport false) e refl 2 (λ z n. refl) (and-right (are_exports (has_child x 1) (has_child x 2) (items_at x 0)) (has_attributes_at 2 x) (full_as (kind.NamedExport false) e)) in (
            refl,
            (λ j. cond (has j) (record { request = record { source = source j; attributes = with j }; entries = entries j } ∷ []) []),
            ap (λ z. cond z [] (flat_map (export_specifier own_text) (items_at y 0))) (has ∙ s) ∙ sym (ap (λ z. cond z [] (flat_map (export_specifier text) (items_at x 0))) s),
          )
      named false s =
          let own = specifiers sort.ExportSpecifier (kind.NamedExport false) e refl (λ z n. refl) role.Plain (ap passes_in_list (sourced false s)) (export_specifier text) (export_specifier own_text) (export_become texts) in
          let told : Node → List ReExport = λ n. record { request = request_at n 1 2; entries = flat_map again (items_at n 0) } ∷ [] in
          (refl, ap (λ z. cond z (told y) []) (has ∙ s) ∙ sym (ap (λ z. cond z (told x) []) s), (λ j. cond (has j) [] (own j)))
  telling_by kept kind.ExportDefaultDecl e i =
      let k = kind.ExportDefaultDecl in
      (refl, refl, default_there k e refl (λ d there. default_kept texts d (child_shaped x (one sort.ModuleItem, shaped) k e 0 (one sort.DefaultDecl) (λ s n. refl) d there) (standing_in stands x 0)))
  telling_by kept kind.ExportDefaultExpr e i = (refl, refl, refl)
  telling_by kept (kind.ExportAll true) e i = (refl, refl, refl)
  telling_by kept (kind.ExportAll false) e i =
      let k = kind.ExportAll false in
      let source = said k e refl 0 (untouched_at k e 0 (one sort.Str) (λ s n. refl) text_untouched) in
      let with = attributes k e refl 1 (λ s n. refl) (full_as k e) in
      (refl, (λ j. record { request = record { source = source j; attributes = with j }; entries = AllNames ∷ [] } ∷ []), refl)
  telling_by kept (kind.TsImportEqualsDecl true true) e i = (refl, refl, refl)
  telling_by kept (kind.TsImportEqualsDecl true false) e i =
      let k = kind.TsImportEqualsDecl true false in
      let own = kept (ap exports_declaration e) in
      let bound = bound_kept k e refl
      (λ d there. equals_kept texts x true false e stands d (child_shaped x (one sort.ModuleItem, shaped) k e 0 (one sort.Ident) (λ s n. refl) d there) (subst (λ o. KeepTexts texts (bound_of o)) there own)) in
      let required = child_same texts is_required false required_quiet x stands (ap is_touched e ∙ item_untouched k refl) 1 in
      (refl, refl, ap₂ (λ (q : Bool) (es : List Export). cond q [] es) required (ap (map (by_its_name own_text)) bound ∙ named_same texts (bound_at x 0) own))
  telling_by kept (kind.TsImportEqualsDecl false true) e i = (refl, refl, refl)
  telling_by kept (kind.TsImportEqualsDecl false false) e i = (refl, refl, refl)
  telling_by kept _ e i = cc

  pub item_tells : (exports_declaration (kind_of x) ≡ true → KeepTexts texts (bound_at x 0)) → is_item (kind_of x) ≡ true → Tells text own_text x y
  item_tells kept i =
      let t = telling_by kept (kind_of x) refl i in
      let e = kind_kept (kind_of x) refl i in
      (ap (λ z. import_by own_text z y) e ∙ t.0, ap (λ z. re_export_by z y) e ∙ t.1, ap (λ z. export_by own_text z y) e ∙ t.2)

  pub item_remains : is_item (kind_of x) ≡ true → stays y ≡ stays x
  item_remains i =
      items_stay x y (kind_kept (kind_of x) refl i) i (value_become texts x true stands)
      (λ e. ap (λ (z : List Node). if_there (slice_get z 0) (λ n. is_declared (kind_of n))) (children_kept (kind_of x) refl i)
      ∙ declared_there (children_of x) (λ c there. (shapes_of c (one sort.Decl) (child_shaped x (one sort.ModuleItem, shaped) kind.ExportDecl e 0 (one sort.Decl) (λ s n. refl) c there)).0) (standing_in stands x) 0)
    where
      declared_there : (cs : List Node) → ((c : Node) → slice_get cs 0 ≡ Some c → belongs sort.Decl (kind_of c) ≡ true) → (around : ℕ → Standing) (j : ℕ)
          → if_there (slice_get (all_become texts around j cs) 0) (λ n. is_declared (kind_of n)) ≡ if_there (slice_get cs 0) (λ n. is_declared (kind_of n))
      declared_there [] h around j = refl
      declared_there (c ∷ cs) h around j = ap is_declared (kind_stays texts c (around j) (declaration_untouched (kind_of c) (h c refl)))

  -- an item and what it becomes
  pub item_same : (stays x ≡ true → exports_declaration (kind_of x) ≡ true → KeepTexts texts (bound_at x 0)) → SameItem text own_text x y
  item_same kept = by (is_item (kind_of x)) refl
    where
      by : (b : Bool) → is_item (kind_of x) ≡ b → SameItem text own_text x y
      by true i = inr (item_remains i, λ s. item_tells (kept s) i)
      by false i =
          inl (silent text x i, silent own_text y (ap is_item (kind_stays texts x stands (module_item (kind_of x) (shapes_of x (one sort.ModuleItem) shaped).0)) ∙ i))

-- ---- the tree

module_untouched : (k : Kind) → belongs sort.Module k ≡ true → (is_touched k ≡ false) × Shapes k 0 (many sort.ModuleItem)
unfolding is_touched
module_untouched (kind.Module shebang) b = (refl, (λ s n. refl))
module_untouched _ b = cc

abbrev short_here : Where → Node → Option ℕ
short_here w n = failing_here (is_short n) n

module _ (texts : Texts) where
  all_same : (xs : List Node) (around : ℕ → Standing) (j : ℕ) → ((i : ℕ) (x : Node) → slice_get xs i ≡ Some x → (stands : Standing) → SameItem (text_of texts) own_text x (become texts x stands))
      → SameItems (text_of texts) own_text xs (all_become texts around j xs)
  all_same [] around j h = tt
  all_same (x ∷ xs) around j h = (h 0 x refl (around j), all_same xs around (suc j) (λ i y at. h (suc i) y at))

  module _ (tree : Node) (fits : Fits tree) (kept : KeepsExported texts tree) where
    kind_so : (is_touched (kind_of tree) ≡ false) × Shapes (kind_of tree) 0 (many sort.ModuleItem)
    kind_so = module_untouched (kind_of tree) (shapes_of tree (one sort.Module) fits.sorted).0

    list_so : (l : Node) → slice_get (children_of tree) 0 ≡ Some l → HasShape (many sort.ModuleItem) l
    list_so l there = child_shaped tree (one sort.Module, fits.sorted) (kind_of tree) refl 0 (many sort.ModuleItem) kind_so.1 l there

    item_so : (o : Option Node) → slice_get (children_of tree) 0 ≡ o → (i : ℕ) (x : Node) → slice_get (items_of o) i ≡ Some x → (stands : Standing) → SameItem (text_of texts) own_text x (become texts x stands)
    item_so None there i x at stands = cc
    item_so (Some l) there i x at stands =
        let place = where_in (where_in at_top tree 0) l i in
        let of_list = (parts_none Where short_here where_in tree at_top fits.counts).1 0 l there in
        let of_item = (parts_none Where short_here where_in l (where_in at_top tree 0) of_list).1 i x at in
        let full = not-false (is_full_by (kind_of x) x) (not_failing (is_short x) x (parts_none Where short_here where_in x place of_item).0) in
        item_same texts x place stands (listed_shaped sort.ModuleItem l (list_so l there) i x at) (stands_below l (where_in at_top tree 0) (stands_below tree at_top fits.roles 0 l there) i x at) full
        (λ s e. kept i x (ap (λ o. slice_get (items_of o) i) there ∙ at) s e)

    same : interface_of own_text (renamed texts tree) ≡ interface_of (text_of texts) tree
    same =
        let items : items_at (renamed texts tree) 0 ≡ all_become texts (list_standing (slice_get (children_of tree) 0) (standing_in at_root tree 0)) 0 (items_at tree 0) =
        ap (λ (z : List Node). items_of (slice_get z 0)) (children_stay texts tree at_root kind_so.0)
        ∙ first_items texts (children_of tree) (standing_in at_root tree) (λ l there. ap is_touched (list_shaped sort.ModuleItem l (list_so l there)) ∙ list_untouched) in
        interface_same (text_of texts) own_text tree (renamed texts tree)
        (subst (SameItems (text_of texts) own_text (items_at tree 0)) (sym items)
        (all_same (items_at tree 0) (list_standing (slice_get (children_of tree) 0) (standing_in at_root tree 0)) 0 (item_so (slice_get (children_of tree) 0) refl)))

pub final_texts_keep : FinalTextsKeepInterfaces
final_texts_keep texts tree fits kept = same texts tree fits kept
