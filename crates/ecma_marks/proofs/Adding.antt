-- What is shown of a tree that may get `export {}`.
use Rattle.std.proofs.Common.{◌≡◌, ◌∙◌, ℕ, Bool, true, false, ◌||◌, not, cond, refl, sym, ap, subst, List, [], ◌∷◌, length, replicate, Option}
use Rattle.ecma_kind.specs.Sorts.{belongs}
use Rattle.ecma_kind.specs.declared.kind.Kind.{Kind}
use Rattle.ecma_kind.specs.declared.kind.Kind.TheVariants as kind
use Rattle.ecma_kind.specs.declared.shapes.Shape.{Shape}
use Rattle.ecma_kind.specs.declared.shapes.Sort.TheVariants as sort
use Rattle.ecma_kind.specs.declared.span.Span.{Span}
use Rattle.ecma_tree.specs.Laws.{HaveShapes}
use Rattle.ecma_tree.specs.Nodes.{node_of}
use Rattle.ecma_tree.specs.Sorted.{HasShape, HasSort, child_shapes, many, one}
use Rattle.ecma_tree.specs.declared.node.Node.{Node, Node-F, out-Node}
use Rattle.ecma_tree.specs.declared.node.Node.TheViews.{out-roll-Node, roll-out-Node}
use Rattle.ecma_lower.specs.Items.{first_with, in_items, items_by}
use Rattle.ecma_lower.specs.Marking.{has_module_declaration}
use Rattle.ecma_rewriting.proofs.Equations.{list-kind}
use Rattle.ecma_strip.specs.Stripping.{stripped}
use Rattle.ecma_strip_rewriting.proofs.PlainKinds.{shape-out}
use Rattle.ecma_marks.specs.Marks.{marked_before}
use Rattle.ecma_marks.proofs.Modules.{AreItems, list_at, module_at, no, with_export}

are-items : (ns : List Node) → HaveShapes (replicate (length ns) (one sort.ModuleItem)) ns → AreItems ns
are-items [] h = tt
are-items (n ∷ ns) h = (h.0, are-items ns h.1)

-- ---- a module by its sorts

module-kind : (k : Kind) → belongs sort.Module k ≡ true → (shebang : Option (List ℕ)) × (k ≡ kind.Module shebang)
module-kind (kind.Module shebang) h = (shebang, refl)
module-kind _ h = no h

one-child : (t : Shape) (cs : List Node) → HaveShapes (t ∷ []) cs → (a : Node) × (cs ≡ a ∷ []) × HasShape t a
one-child t [] h = absurd h
one-child t (a ∷ []) h = (a, refl, h.0)
one-child t (a ∷ b ∷ cs) h = absurd h.1

rolled : (n : Node) (k : Kind) → (out-Node n).kind ≡ k → n ≡ node_of (out-Node n).span k (out-Node n).children
rolled n k is = sym (roll-out-Node n) ∙ ap (λ z. node_of (out-Node n).span z (out-Node n).children) is

-- what is a module by its sorts is one by its items
pub module-form : (tree : Node) → HasSort sort.Module tree
    → (span : Span) × (shebang : Option (List ℕ)) × (place : Span) × (ns : List Node) × (tree ≡ module_at span shebang place ns) × AreItems ns
module-form tree h =
    let parts = shape-out tree (one sort.Module) h in
    let k = module-kind (out-Node tree).kind parts.0 in
    let cs = (out-Node tree).children in
    let single = one-child (many sort.ModuleItem) cs (subst (λ l. HaveShapes (child_shapes l (one sort.Module) (length cs)) cs) k.1 parts.1) in
    let list = single.0 in
    let inner = shape-out list (many sort.ModuleItem) single.2 in
    let l = list-kind (out-Node list).kind inner.0 in
    let ns = (out-Node list).children in (
      (out-Node tree).span,
      k.0,
      (out-Node list).span,
      ns,
      rolled tree (kind.Module k.0) k.1 ∙ ap (node_of (out-Node tree).span (kind.Module k.0)) (single.1 ∙ ap (λ z. z ∷ []) (rolled list kind.List l)),
      are-items ns (subst (λ z. HaveShapes (child_shapes z (many sort.ModuleItem) (length ns)) ns) l inner.1),
    )

-- what is made of its items comes into their place
pub module-in : (f : List Node → List Node) (span : Span) (shebang : Option (List ℕ)) (place : Span) (ns : List Node) → in_items f (module_at span shebang place ns) ≡ module_at span shebang place (f ns)
module-in f span shebang place ns =
    let whole : Node-F Node = record { span = span; kind = kind.Module shebang; children = list_at place ns ∷ [] } in
    let inside : Node-F Node = record { span = place; kind = kind.List; children = ns } in
    ap (λ (z : Node-F Node). node_of z.span z.kind (first_with (f (items_by z.children)) z.children)) (out-roll-Node whole)
    ∙ ap (λ (z : Node-F Node). node_of span (kind.Module shebang) (node_of z.span z.kind (f z.children) ∷ [])) (out-roll-Node inside)

-- ---- `export {}` comes or does not

-- what is so of a module is so where it comes, if that is so of a module with it
pub where-it-may-come : (P : Node → Type 0) (no_empty_export was_module : Bool) (tree : Node) → HasSort sort.Module tree
    → ((span : Span) (shebang : Option (List ℕ)) (place : Span) (ns : List Node) → AreItems ns → P (module_at span shebang place ns) → P (module_at span shebang place (with_export ns)))
    → P tree → P (marked_before no_empty_export was_module tree)
where-it-may-come P no_empty_export was_module tree h comes here = by (no_empty_export || not was_module || has_module_declaration (stripped tree))
  where
    by : (b : Bool) → P (cond b tree (in_items with_export tree))
    by true = here
    by false =
        let form = module-form tree h in
        subst P (sym (ap (in_items with_export) form.4 ∙ module-in with_export form.0 form.1 form.2 form.3))
        (comes form.0 form.1 form.2 form.3 form.5 (subst P form.4 here))
