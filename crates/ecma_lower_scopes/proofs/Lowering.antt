-- A module with its assignments lowered, by its items.
use Rattle.std.proofs.Common.{◌≡◌, ◌∙◌, inl, inr, ℕ, true, codes, sym, ap, subst, List, [], ◌∷◌, map, Option, Some, None}
use Rattle.ecma_config.specs.declared.config.TsImportExportAssignConfig.{TsImportExportAssignConfig}
use Rattle.ecma_config.specs.declared.config.TsImportExportAssignConfig.TheVariants as way
use Rattle.ecma_kind.specs.declared.kind.Kind.{Kind}
use Rattle.ecma_kind.specs.declared.kind.Kind.TheVariants as kind
use Rattle.ecma_kind.specs.declared.shapes.Sort.TheVariants as sort
use Rattle.ecma_kind.specs.declared.span.Span.{Span}
use Rattle.ecma_tree.specs.Nodes.{dummy_span}
use Rattle.ecma_tree.specs.Sorted.{HasSort}
use Rattle.ecma_tree.specs.declared.node.Node.{Node, out-Node}
use Rattle.ecma_utils.specs.Quotes.{quoted_ident}
use Rattle.ecma_lower.specs.declared.seat.Seat.TheVariants as seat
use Rattle.ecma_lower.specs.Assignments.{is_export_assignment, is_export_by}
use Rattle.ecma_lower.specs.Lowered.{with_assignments_lowered}
use Rattle.ecma_lower.specs.Moving.{exports_last}
use Rattle.ecma_lower.specs.Names.{names_of}
use Rattle.ecma_lower.proofs.Singles.{write}
use Rattle.ecma_lower_strip.proofs.Items.{Item, as_import, item-is}
use Rattle.ecma_lower_strip.proofs.Resting.{rests}
use Rattle.ecma_lower_scopes.proofs.Items.{items-same}
use Rattle.ecma_lower_scopes.proofs.Lists.{IsItem, all_given, given-mapped, given-moved}
use Rattle.ecma_lower_scopes.proofs.Walks.{AreFree, Seats, Walk, export-gives}
use Rattle.ecma_lower_strip.proofs.Lists.{AreItems, items-moved}
use Rattle.ecma_lower_scopes.proofs.Still.{kind-of}
use Rattle.ecma_lower_strip.proofs.Modules.{as_module, module-form, module-lowered}
use Rattle.ecma_strip_rewriting.proofs.PlainKinds.{no}

some-same : {X : Type 0} (x y : X) → Some x ≡ Some y → y ≡ x
some-same x y e = cc

never : {X Y : Type 0} (y : Y) → None ≡ Some y → X
never y e = cc

none-free : (free : ℕ) → AreFree free (record { required = None; free = None })
none-free free = record { required = λ f e. never f e; others = λ m e. never m e }

-- without a head the names that are written have the context of free names
pub names-free : (assign : TsImportExportAssignConfig) (free : ℕ) → AreFree free (names_of assign free None)
names-free way.Classic free = record {
  required = λ f e. (codes "require", some-same (quoted_ident free dummy_span (codes "require")) f e);
  others = λ m e. some-same free m e;
}
names-free way.NodeNext free = none-free free
names-free way.Preserve free = none-free free
names-free way.EsNext free = none-free free

-- what an item becomes
abbrev pub lowered_item : TsImportExportAssignConfig → ℕ → Node → Node
lowered_item assign free = write (names_of assign free None) seat.Item

-- and the items of a module
abbrev pub lowered_items : TsImportExportAssignConfig → ℕ → List Node → List Node
lowered_items assign free ns = map (lowered_item assign free) (exports_last ns)

-- what is so of a module is so of it with its assignments lowered, if that is so of a module by its items
pub where-it-is-lowered : (P : Node → Type 0) (assign : TsImportExportAssignConfig) (free : ℕ) (tree : Node) → HasSort sort.Module tree
    → ((span : Span) (shebang : Option (List ℕ)) (at : Span) (ns : List Node) → AreItems ns → P (as_module span shebang at ns) → P (as_module span shebang at (lowered_items assign free ns)))
    → P tree → P (with_assignments_lowered assign free tree)
where-it-is-lowered P assign free tree h goes here =
    let form = module-form tree h in
    subst P (sym (ap (with_assignments_lowered assign free) form.4 ∙ module-lowered form.0 form.1 form.2 assign free form.3))
    (goes form.0 form.1 form.2 form.3 form.5 (subst P form.4 here))

-- ---- what the items give

is-export : (k : Kind) → rests k ≡ true → is_export_by k ≡ true → (X : Type 0) → X
is-export kind.TsExportAssignment h g X = no h
is-export _ h g X = no g

module _ {A R : Type 0} (w : Walk A R) (assign : TsImportExportAssignConfig) (free : ℕ) (a : A) {name value : A} (s : Seats w free a name value) where
  -- the items of a module give in their new order what they are written as
  pub given-lowered : (ns : List Node) → AreItems ns → all_given w a (lowered_items assign free ns) ≡ all_given w a (exports_last ns)
  given-lowered ns items =
      given-mapped w a (lowered_item assign free) (items-same w free a s (names_of assign free None) (names-free assign free)) (exports_last ns) (items-moved ns items)

  -- and in their old one, where what stands to the right of a name gives nothing
  module _ (nothing : (e : Node) → w.gives e value ≡ []) where
    export-gives-none : (n : Node) → IsItem n → is_export_assignment n ≡ true → w.gives n a ≡ []
    export-gives-none n h is = by (item-is n h)
      where
        by : Item n → w.gives n a ≡ []
        by (inl r) = is-export (out-Node n).kind r is (w.gives n a ≡ [])
        by (inr (inl (span, e, x, y, form, hx, hy))) = no (sym (ap is_export_assignment form ∙ ap is_export_by (kind-of span (as_import e) (x ∷ y ∷ []))) ∙ is)
        by (inr (inr (span, e, form))) = ap (λ z. w.gives z a) form ∙ export-gives w free a s span e ∙ nothing e

    pub given-same : (ns : List Node) → AreItems ns → all_given w a (lowered_items assign free ns) ≡ all_given w a ns
    given-same ns items = given-lowered ns items ∙ given-moved w a export-gives-none ns items
