-- A module with its assignments lowered, by the list of its items: each is written, and `export =` behind the others.
use Rattle.std.proofs.Common.{◌≡◌, ◌∙◌, ℕ, Bool, true, false, not, cond, refl, sym, ap, subst, List, [], ◌∷◌, ◌++◌, map, filter, length, replicate, Option, None}
use Rattle.ecma_config.specs.declared.config.TsImportExportAssignConfig.{TsImportExportAssignConfig}
use Rattle.ecma_kind.specs.Sorts.{belongs}
use Rattle.ecma_kind.specs.declared.kind.Kind.{Kind}
use Rattle.ecma_kind.specs.declared.kind.Kind.TheVariants as kind
use Rattle.ecma_kind.specs.declared.shapes.Sort.TheVariants as sort
use Rattle.ecma_kind.specs.declared.span.Span.{Span}
use Rattle.ecma_tree.specs.Laws.{HaveShapes}
use Rattle.ecma_tree.specs.Nodes.{node_of}
use Rattle.ecma_tree.specs.Sorted.{HasSort, child_shapes, many, one}
use Rattle.ecma_tree.specs.declared.node.Node.{Node, Node-F, out-Node}
use Rattle.ecma_tree.specs.declared.node.Node.TheViews.{out-roll-Node, roll-out-Node}
use Rattle.ecma_rewriting.proofs.Equations.{list-kind}
use Rattle.ecma_strip_rewriting.proofs.PlainKinds.{no, shape-out}
use Rattle.ecma_lower.specs.declared.names.Names.{Names}
use Rattle.ecma_lower.specs.declared.seat.Seat.TheVariants as seat
use Rattle.ecma_lower.specs.Assignments.{is_export_assignment}
use Rattle.ecma_lower.specs.Items.{first_with, in_items, items_by, items_of}
use Rattle.ecma_lower.specs.Lowered.{with_assignments_lowered}
use Rattle.ecma_lower.specs.Moving.{exports_last}
use Rattle.ecma_lower.specs.Names.{names_of}
use Rattle.ecma_lower.specs.Seats.{seat_in}
use Rattle.ecma_lower.specs.Writing.{with_assignments, written}
use Rattle.ecma_lower.proofs.Singles.{each_at, write}
use Rattle.ecma_lower_strip.proofs.Resting.{one-child, write-roll}
use Rattle.ecma_lower_sources.proofs.Writes.{IsItem, Writes, item-written}

-- ---- what holds of each item

abbrev pub Each : (Node → Type 0) → List Node → Type 0
Each P [] = Unit
Each P (n ∷ ns) = P n × Each P ns

pub each-both : (P Q R : Node → Type 0) → ((n : Node) → P n → Q n → R n) → (ns : List Node) → Each P ns → Each Q ns → Each R ns
each-both P Q R f [] h g = tt
each-both P Q R f (n ∷ ns) h g = (f n h.0 g.0, each-both P Q R f ns h.1 g.1)

each-append : (P : Node → Type 0) (ns ms : List Node) → Each P ns → Each P ms → Each P (ns ++ ms)
each-append P [] ms h g = g
each-append P (n ∷ ns) ms h g = (h.0, each-append P ns ms h.1 g)

each-either : (P : Node → Type 0) (b : Bool) (n : Node) (ns : List Node) → P n → Each P ns → Each P (cond b (n ∷ ns) ns)
each-either P true n ns h rest = (h, rest)
each-either P false n ns h rest = rest

each-filter : (P : Node → Type 0) (p : Node → Bool) (ns : List Node) → Each P ns → Each P (filter p ns)
each-filter P p [] h = tt
each-filter P p (n ∷ ns) h = each-either P (p n) n (filter p ns) h.0 (each-filter P p ns h.1)

-- what holds of each holds of each where `export =` stands behind the others
pub each-moved : (P : Node → Type 0) (ns : List Node) → Each P ns → Each P (exports_last ns)
each-moved P ns h =
    each-append P (filter (λ item. not (is_export_assignment item)) ns) (filter is_export_assignment ns)
    (each-filter P (λ item. not (is_export_assignment item)) ns h) (each-filter P is_export_assignment ns h)

-- ---- a module, by the list of its items

abbrev pub list_at : Span → List Node → Node
list_at at ns = node_of at kind.List ns

abbrev pub module_at : Span → Option (List ℕ) → Span → List Node → Node
module_at span shebang at ns = node_of span (kind.Module shebang) (list_at at ns ∷ [])

module-kind : (k : Kind) → belongs sort.Module k ≡ true → (shebang : Option (List ℕ)) × (k ≡ kind.Module shebang)
module-kind (kind.Module shebang) h = (shebang, refl)
module-kind _ h = no h

rolled : (n : Node) (k : Kind) → (out-Node n).kind ≡ k → n ≡ node_of (out-Node n).span k (out-Node n).children
rolled n k is = sym (roll-out-Node n) ∙ ap (λ z. node_of (out-Node n).span z (out-Node n).children) is

pub each-from : (ns : List Node) → HaveShapes (replicate (length ns) (one sort.ModuleItem)) ns → Each IsItem ns
each-from [] h = tt
each-from (n ∷ ns) h = (h.0, each-from ns h.1)

pub each-to : (ns : List Node) → Each IsItem ns → HaveShapes (replicate (length ns) (one sort.ModuleItem)) ns
each-to [] h = tt
each-to (n ∷ ns) h = (h.0, each-to ns h.1)

-- what is a module by its sorts is one by its items
pub module-form : (tree : Node) → HasSort sort.Module tree
    → (span : Span) × (shebang : Option (List ℕ)) × (at : Span) × (ns : List Node) × (tree ≡ module_at span shebang at ns) × Each IsItem ns
module-form tree h =
    let parts = shape-out tree (one sort.Module) h in
    let k = module-kind (out-Node tree).kind parts.0 in
    let cs = (out-Node tree).children in
    let single = one-child (many sort.ModuleItem) cs (subst (λ l. HaveShapes (child_shapes l (one sort.Module) (length cs)) cs) k.1 parts.1) in
    let list = single.0 in
    let inner = shape-out list (many sort.ModuleItem) single.2 in
    let l = list-kind (out-Node list).kind inner.0 in
    let ns = (out-Node list).children in (
      (out-Node tree).span,
      k.0,
      (out-Node list).span,
      ns,
      rolled tree (kind.Module k.0) k.1 ∙ ap (node_of (out-Node tree).span (kind.Module k.0)) (single.1 ∙ ap (λ z. z ∷ []) (rolled list kind.List l)),
      each-from ns (subst (λ z. HaveShapes (child_shapes z (many sort.ModuleItem) (length ns)) ns) l inner.1),
    )

each-item : (names : Names) (ns : List Node) → each_at (write names) (λ i. seat.Item) ns ≡ map (write names seat.Item) ns
each-item names [] = refl
each-item names (n ∷ ns) = ap (λ z. write names seat.Item n ∷ z) (each-item names ns)

module _ (span : Span) (shebang : Option (List ℕ)) (at : Span) where
  abbrev whole : List Node → Node-F Node
  whole ns = record { span = span; kind = kind.Module shebang; children = list_at at ns ∷ [] }

  abbrev inside : List Node → Node-F Node
  inside ns = record { span = at; kind = kind.List; children = ns }

  pub module-items : (ns : List Node) → items_of (module_at span shebang at ns) ≡ ns
  module-items ns = ap (λ (z : Node-F Node). items_by z.children) (out-roll-Node (whole ns)) ∙ ap (λ (z : Node-F Node). z.children) (out-roll-Node (inside ns))

  module-in : (f : List Node → List Node) (ns : List Node) → in_items f (module_at span shebang at ns) ≡ module_at span shebang at (f ns)
  module-in f ns =
      ap (λ (z : Node-F Node). node_of z.span z.kind (first_with (f (items_by z.children)) z.children)) (out-roll-Node (whole ns))
      ∙ ap (λ (z : Node-F Node). node_of span (kind.Module shebang) (node_of z.span z.kind (f z.children) ∷ [])) (out-roll-Node (inside ns))

  module-written : (names : Names) (ns : List Node) → with_assignments names (module_at span shebang at ns) ≡ module_at span shebang at (map (write names seat.Item) ns)
  unfolding written seat_in
  module-written names ns =
      write-roll names seat.Whole span (kind.Module shebang) (list_at at ns ∷ []) refl
      ∙ ap (λ z. node_of span (kind.Module shebang) (z ∷ [])) (write-roll names seat.Item at kind.List ns refl ∙ ap (list_at at) (each-item names ns))

  pub module-lowered : (assign : TsImportExportAssignConfig) (free : ℕ) (ns : List Node)
      → with_assignments_lowered assign free (module_at span shebang at ns) ≡ module_at span shebang at (map (write (names_of assign free None) seat.Item) (exports_last ns))
  module-lowered assign free ns =
      let names = names_of assign free None in
      ap (with_assignments names) (module-in exports_last ns) ∙ module-written names (exports_last ns)

-- ---- what is written of the items of a module

module _ (assign : TsImportExportAssignConfig) (free : ℕ) where
  abbrev pub lowered_items : List Node → List Node
  lowered_items ns = map (write (names_of assign free None) seat.Item) (exports_last ns)

  module _ (Before Part After Value : Node → Type 0) (w : Writes assign free Before Part After Value) where
    each-written : (ns : List Node) → Each IsItem ns → Each Before ns → Each After (map (write (names_of assign free None) seat.Item) ns)
    each-written [] items h = tt
    each-written (n ∷ ns) items h = (item-written assign free Before Part After Value w n items.0 h.0, each-written ns items.1 h.1)

    pub items-lowered : (ns : List Node) → Each IsItem ns → Each Before ns → Each After (lowered_items ns)
    items-lowered ns items h = each-written (exports_last ns) (each-moved IsItem ns items) (each-moved Before ns h)

  -- what is so of a module with its items lowered is so of the module with its assignments lowered
  pub lowered-so : (P Q : Node → Type 0) (tree : Node) → HasSort sort.Module tree
      → ((span : Span) (shebang : Option (List ℕ)) (at : Span) (ns : List Node) → Each IsItem ns → P (module_at span shebang at ns) → Q (module_at span shebang at (lowered_items ns)))
      → P tree → Q (with_assignments_lowered assign free tree)
  lowered-so P Q tree h so before =
      let form = module-form tree h in
      subst (λ z. P z → Q (with_assignments_lowered assign free z)) (sym form.4)
      (λ p. subst Q (sym (module-lowered form.0 form.1 form.2 assign free form.3)) (so form.0 form.1 form.2 form.3 form.5 p)) before
