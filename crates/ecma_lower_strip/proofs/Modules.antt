-- A module by the list of its items: its items, what is made of them, and how each is written.
use Rattle.std.proofs.Common.{◌≡◌, ◌∙◌, ℕ, true, refl, ap, subst, List, [], ◌∷◌, map, length, replicate, Option, None}
use Rattle.ecma_config.specs.declared.config.TsImportExportAssignConfig.{TsImportExportAssignConfig}
use Rattle.ecma_kind.specs.Sorts.{belongs}
use Rattle.ecma_kind.specs.declared.kind.Kind.{Kind}
use Rattle.ecma_kind.specs.declared.kind.Kind.TheVariants as kind
use Rattle.ecma_kind.specs.declared.shapes.Sort.TheVariants as sort
use Rattle.ecma_kind.specs.declared.span.Span.{Span}
use Rattle.ecma_tree.specs.Laws.{HaveShapes}
use Rattle.ecma_tree.specs.Nodes.{node_of}
use Rattle.ecma_tree.specs.Sorted.{HasSort, child_shapes, many, one}
use Rattle.ecma_tree.specs.declared.node.Node.{Node, Node-F, out-Node}
use Rattle.ecma_tree.specs.declared.node.Node.TheViews.{out-roll-Node}
use Rattle.ecma_rewriting.proofs.Equations.{list-kind}
use Rattle.ecma_strip_rewriting.proofs.PlainKinds.{no, shape-out}
use Rattle.ecma_lower.specs.declared.names.Names.{Names}
use Rattle.ecma_lower.specs.declared.seat.Seat.TheVariants as seat
use Rattle.ecma_lower.specs.Items.{first_with, in_items, items_by, items_of}
use Rattle.ecma_lower.specs.Lowered.{with_assignments_lowered}
use Rattle.ecma_lower.specs.Moving.{exports_last}
use Rattle.ecma_lower.specs.Names.{names_of}
use Rattle.ecma_lower.specs.Seats.{seat_in}
use Rattle.ecma_lower.specs.Writing.{with_assignments, written}
use Rattle.ecma_lower.proofs.Singles.{each_at, write}
use Rattle.ecma_lower_strip.proofs.Items.{rolled}
use Rattle.ecma_lower_strip.proofs.Lists.{AreItems}
use Rattle.ecma_lower_strip.proofs.Resting.{one-child, write-roll}

-- ---- a module, by the list of its items

each-item : (names : Names) (ns : List Node) → each_at (write names) (λ i. seat.Item) ns ≡ map (write names seat.Item) ns
each-item names [] = refl
each-item names (n ∷ ns) = ap (λ z. write names seat.Item n ∷ z) (each-item names ns)

module _ (span : Span) (shebang : Option (List ℕ)) (place : Span) where
  abbrev pub as_list : List Node → Node
  as_list ns = node_of place kind.List ns

  abbrev pub as_module : List Node → Node
  as_module ns = node_of span (kind.Module shebang) (as_list ns ∷ [])

  abbrev whole : List Node → Node-F Node
  whole ns = record { span = span; kind = kind.Module shebang; children = as_list ns ∷ [] }

  abbrev inside : List Node → Node-F Node
  inside ns = record { span = place; kind = kind.List; children = ns }

  pub module-items : (ns : List Node) → items_of (as_module ns) ≡ ns
  module-items ns = ap (λ (z : Node-F Node). items_by z.children) (out-roll-Node (whole ns)) ∙ ap (λ (z : Node-F Node). z.children) (out-roll-Node (inside ns))

  pub module-in : (f : List Node → List Node) (ns : List Node) → in_items f (as_module ns) ≡ as_module (f ns)
  module-in f ns =
      ap (λ (z : Node-F Node). node_of z.span z.kind (first_with (f (items_by z.children)) z.children)) (out-roll-Node (whole ns))
      ∙ ap (λ (z : Node-F Node). node_of span (kind.Module shebang) (node_of z.span z.kind (f z.children) ∷ [])) (out-roll-Node (inside ns))

  pub module-written : (names : Names) (ns : List Node) → with_assignments names (as_module ns) ≡ as_module (map (write names seat.Item) ns)
  unfolding written seat_in
  module-written names ns =
      write-roll names seat.Whole span (kind.Module shebang) (as_list ns ∷ []) refl
      ∙ ap (λ z. node_of span (kind.Module shebang) (z ∷ [])) (write-roll names seat.Item place kind.List ns refl ∙ ap as_list (each-item names ns))

  -- without a head
  pub module-lowered : (assign : TsImportExportAssignConfig) (unresolved : ℕ) (ns : List Node)
      → with_assignments_lowered assign unresolved (as_module ns) ≡ as_module (map (write (names_of assign unresolved None) seat.Item) (exports_last ns))
  module-lowered assign unresolved ns =
      let names = names_of assign unresolved None in ap (with_assignments names) (module-in exports_last ns) ∙ module-written names (exports_last ns)

-- ---- a module by its sorts

module-kind : (k : Kind) → belongs sort.Module k ≡ true → (shebang : Option (List ℕ)) × (k ≡ kind.Module shebang)
module-kind (kind.Module shebang) h = (shebang, refl)
module-kind _ h = no h

are-items : (ns : List Node) → HaveShapes (replicate (length ns) (one sort.ModuleItem)) ns → AreItems ns
are-items [] h = tt
are-items (n ∷ ns) h = (h.0, are-items ns h.1)

pub module-form : (tree : Node) → HasSort sort.Module tree
    → (span : Span) × (shebang : Option (List ℕ)) × (place : Span) × (ns : List Node) × (tree ≡ as_module span shebang place ns) × AreItems ns
module-form tree h =
    let parts = shape-out tree (one sort.Module) h in
    let k = module-kind (out-Node tree).kind parts.0 in
    let cs = (out-Node tree).children in
    let single = one-child (many sort.ModuleItem) cs (subst (λ l. HaveShapes (child_shapes l (one sort.Module) (length cs)) cs) k.1 parts.1) in
    let list = single.0 in
    let inner = shape-out list (many sort.ModuleItem) single.2 in
    let l = list-kind (out-Node list).kind inner.0 in
    let ns = (out-Node list).children in (
      (out-Node tree).span,
      k.0,
      (out-Node list).span,
      ns,
      rolled tree (kind.Module k.0) k.1 ∙ ap (node_of (out-Node tree).span (kind.Module k.0)) (single.1 ∙ ap (λ z. z ∷ []) (rolled list kind.List l)),
      are-items ns (subst (λ z. HaveShapes (child_shapes z (many sort.ModuleItem) (length ns)) ns) l inner.1),
    )
