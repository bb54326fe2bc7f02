-- Where each form is taken, none has to be lowered below an item; and which items have none.
use Rattle.std.proofs.Common.{◌≡◌, ◌∙◌, ℕ, zero, suc, Bool, true, false, ◌&&◌, ◌||◌, not, refl, sym, ap, subst, List, [], ◌∷◌, length, replicate, Option, Some, slice_get}
use Rattle.std.specs.List.{list_all}
use Rattle.ecma_config.specs.declared.config.TsImportExportAssignConfig.{TsImportExportAssignConfig}
use Rattle.ecma_kind.specs.Sorts.{belongs}
use Rattle.ecma_kind.specs.declared.kind.Kind.{Kind}
use Rattle.ecma_kind.specs.declared.kind.Kind.TheVariants as kind
use Rattle.ecma_kind.specs.declared.shapes.Count.{Count}
use Rattle.ecma_kind.specs.declared.shapes.Count.TheVariants.{One, Maybe, Many, MaybeMany, Holes}
use Rattle.ecma_kind.specs.declared.shapes.Shape.{Shape}
use Rattle.ecma_kind.specs.declared.shapes.Sort.{Sort}
use Rattle.ecma_kind.specs.declared.shapes.Sort.TheVariants as sort
use Rattle.ecma_kind.specs.declared.span.Span.{Span}
use Rattle.ecma_tree.specs.Laws.{HaveShapes}
use Rattle.ecma_tree.specs.Nodes.{node_of}
use Rattle.ecma_tree.specs.Sorted.{HasShape, allows_by, child_shapes, is_absent, is_list, item_shape, one}
use Rattle.ecma_tree.specs.declared.node.Node.{Node, out-Node}
use Rattle.ecma_tree.specs.declared.node.Node.TheViews.{roll-out-Node}
use Rattle.ecma_tree.proofs.ShapeLaws.{node_has_shape}
use Rattle.ecma_forms.specs.Forms.{gone_inside, is_odd_by, is_unlowered_kind, is_untaken_kind}
use Rattle.ecma_strip_rewriting.proofs.Commuting.{by-parts}
use Rattle.ecma_strip_rewriting.proofs.PlainKinds.{no}
use Rattle.ecma_fits.proofs.Walks.{neither}
use Rattle.ecma_rewriting_fits.proofs.Walking.{AllTell}
use Rattle.ecma_lower_sources.proofs.Walks.{Passes, node-passed, node-passes, place}

-- ---- the two tests

-- forms that have to be lowered
abbrev pub unlowered : Bool → Kind → Node → Bool
unlowered gone k n = not gone && (is_unlowered_kind k || is_odd_by k n)

-- forms that are not taken
abbrev pub untaken : TsImportExportAssignConfig → Bool → Kind → Node → Bool
untaken assign gone k n = not gone && (is_untaken_kind assign k || is_odd_by k n)

-- nothing of what goes is asked
module _ (test : Bool → Kind → Node → Bool) (silent : (k : Kind) (n : Node) → test true k n ≡ false) where
  abbrev Gone : Node → Type 0
  Gone n = Passes Bool test gone_inside true n

  all-gone-in : (cs : List Node) (i : ℕ) → ((j : ℕ) (c : Node) → slice_get cs j ≡ Some c → Gone c) → AllTell Bool gone_inside (place Bool test gone_inside) (λ j. true) i cs
  all-gone-in [] i each = tt
  all-gone-in (c ∷ cs) i each = (each 0 c refl, all-gone-in cs (suc i) (λ j d at. each (suc j) d at))

  pub all-gone : (n : Node) → Gone n
  all-gone = by-parts Gone (λ span k cs each. node-passes Bool test gone_inside span k cs true (silent k (node_of span k cs)) (all-gone-in cs 0 each))

-- ---- kinds of assignments

abbrev is_assigning : Kind → Bool
is_assigning (kind.TsImportEqualsDecl is_export is_type_only) = true
is_assigning kind.TsExternalModuleRef = true
is_assigning kind.TsQualifiedName = true
is_assigning kind.TsExportAssignment = true
is_assigning _ = false

-- where no assignment stands, what is taken needs no lowering
same-kind : (assign : TsImportExportAssignConfig) (k : Kind) → is_assigning k ≡ false → is_untaken_kind assign k ≡ is_unlowered_kind k
same-kind assign (kind.TsImportEqualsDecl is_export is_type_only) h = no (sym h)
same-kind assign kind.TsExternalModuleRef h = no (sym h)
same-kind assign kind.TsQualifiedName h = no (sym h)
same-kind assign kind.TsExportAssignment h = no (sym h)
same-kind assign _ h = refl

-- a sort of which no assignment is, nor a module
abbrev pub is_clean_sort : Sort → Bool
is_clean_sort sort.Program = false
is_clean_sort sort.Module = false
is_clean_sort sort.ModuleItem = false
is_clean_sort sort.ModuleDecl = false
is_clean_sort sort.TsModuleRef = false
is_clean_sort sort.TsEntityName = false
is_clean_sort _ = true

abbrev is_clean : Shape → Bool
is_clean shape = is_clean_sort shape.sort

abbrev pub is_outer : Kind → Bool
is_outer (kind.Module shebang) = true
is_outer (kind.TsImportEqualsDecl is_export is_type_only) = true
is_outer kind.TsExternalModuleRef = true
is_outer kind.TsQualifiedName = true
is_outer kind.TsExportAssignment = true
is_outer _ = false

clean-module : (s : Sort) (shebang : Option (List ℕ)) → is_clean_sort s ≡ true → belongs s (kind.Module shebang) ≡ false
clean-module sort.Program shebang h = no h
clean-module sort.Module shebang h = no h
clean-module _ shebang h = refl

clean-import : (s : Sort) (e t : Bool) → is_clean_sort s ≡ true → belongs s (kind.TsImportEqualsDecl e t) ≡ false
clean-import sort.ModuleItem e t h = no h
clean-import sort.ModuleDecl e t h = no h
clean-import _ e t h = refl

clean-required : (s : Sort) → is_clean_sort s ≡ true → belongs s kind.TsExternalModuleRef ≡ false
clean-required sort.TsModuleRef h = no h
clean-required _ h = refl

clean-dotted : (s : Sort) → is_clean_sort s ≡ true → belongs s kind.TsQualifiedName ≡ false
clean-dotted sort.TsModuleRef h = no h
clean-dotted sort.TsEntityName h = no h
clean-dotted _ h = refl

clean-export : (s : Sort) → is_clean_sort s ≡ true → belongs s kind.TsExportAssignment ≡ false
clean-export sort.ModuleItem h = no h
clean-export sort.ModuleDecl h = no h
clean-export _ h = refl

clean-sort : (s : Sort) (k : Kind) → is_clean_sort s ≡ true → is_outer k ≡ true → belongs s k ≡ false
clean-sort s (kind.Module shebang) h o = clean-module s shebang h
clean-sort s (kind.TsImportEqualsDecl e t) h o = clean-import s e t h
clean-sort s kind.TsExternalModuleRef h o = clean-required s h
clean-sort s kind.TsQualifiedName h o = clean-dotted s h
clean-sort s kind.TsExportAssignment h o = clean-export s h
clean-sort s _ h o = no o

-- such a kind is no list, and is not missing
outer-there : (k : Kind) → is_outer k ≡ true → (is_absent k ≡ false) × (is_list k ≡ false)
outer-there (kind.Module shebang) o = (refl, refl)
outer-there (kind.TsImportEqualsDecl e t) o = (refl, refl)
outer-there kind.TsExternalModuleRef o = (refl, refl)
outer-there kind.TsQualifiedName o = (refl, refl)
outer-there kind.TsExportAssignment o = (refl, refl)
outer-there _ o = no o

or-false : (a b : Bool) → a ≡ false → b ≡ false → (a || b) ≡ false
or-false a b h g = ap (λ z. z || b) h ∙ g

clean-count : (c : Count) (s : Sort) (k : Kind) → is_clean_sort s ≡ true → is_outer k ≡ true → allows_by c s k ≡ false
clean-count One s k h o = clean-sort s k h o
clean-count Maybe s k h o = or-false (is_absent k) (belongs s k) (outer-there k o).0 (clean-sort s k h o)
clean-count Many s k h o = (outer-there k o).1
clean-count MaybeMany s k h o = or-false (is_absent k) (is_list k) (outer-there k o).0 (outer-there k o).1
clean-count Holes s k h o = (outer-there k o).1

-- what a clean shape allows is neither a module nor an assignment
clean-kind : (t : Shape) (k : Kind) → is_clean t ≡ true → allows_by t.count t.sort k ≡ true → is_outer k ≡ false
clean-kind t k h a = by (is_outer k) refl
  where
    by : (b : Bool) → is_outer k ≡ b → is_outer k ≡ false
    by true e = no (sym (clean-count t.count t.sort k h e) ∙ a)
    by false e = e

-- ---- their children

-- kinds that hold items, or the right side of an import
abbrev is_holder : Kind → Bool
is_holder (kind.Module shebang) = true
is_holder kind.TsModuleBlock = true
is_holder (kind.TsImportEqualsDecl is_export is_type_only) = true
is_holder kind.TsQualifiedName = true
is_holder _ = false

all-clean : (t : Shape) (n : ℕ) → is_clean t ≡ true → list_all is_clean (replicate n t) ≡ true
all-clean t zero h = refl
all-clean t (suc n) h = ap (λ b. b && list_all is_clean (replicate n t)) h ∙ all-clean t n h

children-clean : (k : Kind) (t : Shape) (n : ℕ) → is_holder k ≡ false → is_clean t ≡ true → list_all is_clean (child_shapes k t n) ≡ true
children-clean (kind.Module shebang) t n h c = no (sym h)
children-clean kind.TsModuleBlock t n h c = no (sym h)
children-clean (kind.TsImportEqualsDecl is_export is_type_only) t n h c = no (sym h)
children-clean kind.TsQualifiedName t n h c = no (sym h)
children-clean kind.List t n h c = all-clean (item_shape t) n c
children-clean kind.SeqExpr t zero h c = refl
children-clean kind.SeqExpr t (suc n) h c = all-clean (one sort.Expr) (suc n) refl
children-clean _ t n h c = refl

both : (a b : Bool) → (a && b) ≡ true → (a ≡ true) × (b ≡ true)
both true b h = (refl, h)
both false b h = no h

abbrev Clean : Node → Type 0
Clean n = (u : Shape) × HasShape u n × (is_clean u ≡ true)

each-clean : (shapes : List Shape) (cs : List Node) → HaveShapes shapes cs → list_all is_clean shapes ≡ true → (i : ℕ) (c : Node) → slice_get cs i ≡ Some c → Clean c
each-clean [] [] have clean i c at = cc
each-clean [] (d ∷ cs) have clean i c at = absurd have
each-clean (u ∷ us) [] have clean i c at = absurd have
each-clean (u ∷ us) (d ∷ cs) have clean zero c at = let same : d ≡ c = cc in (u, subst (HasShape u) same have.0, (both (is_clean u) (list_all is_clean us) clean).0)
each-clean (u ∷ us) (d ∷ cs) have clean (suc i) c at = each-clean us cs have.1 (both (is_clean u) (list_all is_clean us) clean).1 i c at

-- ---- a tree of a clean shape

module _ (assign : TsImportExportAssignConfig) where
  abbrev pub Taken : Bool → Node → Type 0
  Taken gone n = Passes Bool (untaken assign) gone_inside gone n

  abbrev pub Lowered : Bool → Node → Type 0
  Lowered gone n = Passes Bool unlowered gone_inside gone n

  abbrev Kept : Node → Type 0
  Kept n = Clean n → (gone : Bool) → Taken gone n → Lowered gone n

  all-kept : (around : ℕ → Bool) (i : ℕ) (cs : List Node) → ((j : ℕ) (c : Node) → slice_get cs j ≡ Some c → (gone : Bool) → Taken gone c → Lowered gone c)
      → AllTell Bool gone_inside (place Bool (untaken assign) gone_inside) around i cs → AllTell Bool gone_inside (place Bool unlowered gone_inside) around i cs
  all-kept around i [] each h = tt
  all-kept around i (c ∷ cs) each h = (each 0 c refl (around i) h.0, all-kept around (suc i) cs (λ j d at. each (suc j) d at) h.1)

  block-taken : (k : Kind) → is_untaken_kind assign k ≡ false → is_assigning k ≡ false → (is_outer k ≡ false) → is_holder k ≡ false
  block-taken (kind.Module shebang) h a o = no (sym o)
  block-taken kind.TsModuleBlock h a o = no (sym h)
  block-taken (kind.TsImportEqualsDecl e t) h a o = no (sym o)
  block-taken kind.TsQualifiedName h a o = no (sym o)
  block-taken _ h a o = refl

  outer-assigning : (k : Kind) → is_outer k ≡ false → is_assigning k ≡ false
  outer-assigning (kind.TsImportEqualsDecl e t) h = no (sym h)
  outer-assigning kind.TsExternalModuleRef h = no (sym h)
  outer-assigning kind.TsQualifiedName h = no (sym h)
  outer-assigning kind.TsExportAssignment h = no (sym h)
  outer-assigning _ h = refl

  -- a node that is not gone, and no assignment: its children have clean shapes
  here-kept : (span : Span) (k : Kind) (cs : List Node) (t : Shape) → is_outer k ≡ false → HaveShapes (child_shapes k t (length cs)) cs
      → ((i : ℕ) (c : Node) → slice_get cs i ≡ Some c → Kept c)
      → (is_holder k ≡ false → list_all is_clean (child_shapes k t (length cs)) ≡ true) → Taken false (node_of span k cs) → Lowered false (node_of span k cs)
  here-kept span k cs t outer have each clean h =
      let n = node_of span k cs in
      let parts = node-passed Bool (untaken assign) gone_inside span k cs false h in
      let told = neither (is_untaken_kind assign k) (is_odd_by k n) parts.0 in
      let other = outer-assigning k outer in
      let holder = block-taken k told.0 other outer in
      node-passes Bool unlowered gone_inside span k cs false (or-false (is_unlowered_kind k) (is_odd_by k n) (sym (same-kind assign k other) ∙ told.0) told.1)
      (all-kept (gone_inside false n) 0 cs (λ i c at. each i c at (each-clean (child_shapes k t (length cs)) cs have (clean holder) i c at)) parts.1)

  kept-node : (span : Span) (k : Kind) (cs : List Node) → ((i : ℕ) (c : Node) → slice_get cs i ≡ Some c → Kept c) → Kept (node_of span k cs)
  kept-node span k cs each clean true h = all-gone unlowered (λ k n. refl) (node_of span k cs)
  kept-node span k cs each (t, has, clean) false h =
      let parts = (node_has_shape span k cs t).0 has in
      here-kept span k cs t (clean-kind t k clean parts.0) parts.1 each (λ holder. children-clean k t (length cs) holder clean) h

  pub kept : (n : Node) → Kept n
  kept = by-parts Kept kept-node

  -- a node of a sort of which no assignment is
  pub sort-kept : (s : Sort) (n : Node) → is_clean_sort s ≡ true → HasShape (one s) n → Taken false n → Lowered false n
  sort-kept s n c has h = kept n (one s, has, c) false h

  -- a node that is no list and no assignment, whatever its own sort is
  item-clean : (k : Kind) (t : Shape) (n : ℕ) → is_holder k ≡ false → is_list k ≡ false → list_all is_clean (child_shapes k t n) ≡ true
  item-clean (kind.Module shebang) t n h l = no (sym h)
  item-clean kind.TsModuleBlock t n h l = no (sym h)
  item-clean (kind.TsImportEqualsDecl is_export is_type_only) t n h l = no (sym h)
  item-clean kind.TsQualifiedName t n h l = no (sym h)
  item-clean kind.List t n h l = no (sym l)
  item-clean kind.SeqExpr t zero h l = refl
  item-clean kind.SeqExpr t (suc n) h l = all-clean (one sort.Expr) (suc n) refl
  item-clean _ t n h l = refl

  pub item-kept : (n : Node) (t : Shape) → HasShape t n → is_outer (out-Node n).kind ≡ false → is_list (out-Node n).kind ≡ false → (gone : Bool) → Taken gone n → Lowered gone n
  item-kept n t has outer list true h = all-gone unlowered (λ k n. refl) n
  item-kept n t has outer list false h =
      let span = (out-Node n).span in
      let k = (out-Node n).kind in
      let cs = (out-Node n).children in
      let is = roll-out-Node n in
      let have = ((node_has_shape span k cs t).0 (subst (HasShape t) (sym is) has)).1 in
      subst (Lowered false) is (here-kept span k cs t outer have (λ i c at. kept c) (λ holder. item-clean k t (length cs) holder list) (subst (Taken false) (sym is) h))
