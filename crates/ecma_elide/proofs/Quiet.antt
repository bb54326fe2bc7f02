-- A tree in which nothing may go stays.
use Rattle.std.proofs.Common.{◌≡◌, ◌∙◌, ℕ, zero, suc, Bool, true, false, ◌||◌, not, cond, refl, sym, ap, List, [], ◌∷◌, map, Some, slice_get}
use Rattle.ecma_kind.specs.declared.kind.Kind.{Kind}
use Rattle.ecma_kind.specs.declared.kind.Kind.TheVariants as kind
use Rattle.ecma_kind.specs.declared.span.Span.{Span}
use Rattle.ecma_tree.specs.Finding.{enters_all, finds, finds_from, finds_here}
use Rattle.ecma_tree.specs.Nodes.{node_of}
use Rattle.ecma_tree.specs.declared.node.Node.{Node, fold-roll-Node}
use Rattle.ecma_rewriting.specs.Laws.{Along, Leaves}
use Rattle.ecma_rewriting.specs.Rewriting.{only, over_ones}
use Rattle.ecma_rewriting.proofs.Staying.{trees_stay}
use Rattle.ecma_elide.specs.declared.seat.Seat.{Seat}
use Rattle.ecma_elide.specs.declared.seat.Seat.TheVariants as seat
use Rattle.ecma_elide.specs.Elision.{eliding, keeps_imports, known_of, without_unused}
use Rattle.ecma_elide.specs.Laws.{TreesWithoutStay, may_go}
use Rattle.ecma_elide.specs.Rules.{Known, alias_goes, export_goes, goes, import_goes, item_goes, reexport_goes}

none-goes : (known : Known) (s : Seat) (k : Kind) (cs : List Node) → may_go k ≡ false → goes known s k cs ≡ false
unfolding import_goes export_goes reexport_goes alias_goes item_goes
none-goes known seat.Elsewhere (kind.TsImportEqualsDecl is_export is_type_only) cs h = cc
none-goes known seat.Elsewhere _ cs h = refl
none-goes known seat.Items (kind.ImportDecl type_only) cs h = cc
none-goes known seat.Items (kind.NamedExport type_only) cs h = cc
none-goes known seat.Items (kind.ExportAll type_only) cs h = cc
none-goes known seat.Items kind.ExportDefaultExpr cs h = cc
none-goes known seat.Items (kind.TsImportEqualsDecl is_export is_type_only) cs h = cc
none-goes known seat.Items _ cs h = refl
none-goes known seat.Imported (kind.ImportNamedSpecifier is_type_only) cs h = cc
none-goes known seat.Imported kind.ImportDefaultSpecifier cs h = cc
none-goes known seat.Imported kind.ImportStarAsSpecifier cs h = cc
none-goes known seat.Imported _ cs h = refl
none-goes known seat.Exported (kind.ExportNamedSpecifier is_type_only) cs h = cc
none-goes known seat.Exported _ cs h = refl
none-goes known seat.Reexported (kind.ExportNamedSpecifier is_type_only) cs h = cc
none-goes known seat.Reexported _ cs h = refl

neither : (a b : Bool) → (a || b) ≡ false → (a ≡ false) × (b ≡ false)
neither true b h = cc
neither false b h = (refl, h)

-- nothing may go in a node; a test of it that is true
abbrev Clean : Node → Type 0
Clean n = finds may_go enters_all n ≡ false

abbrev still : Seat → Node → Bool
still s n = not (finds may_go enters_all n)

clean : (b : Bool) → not b ≡ true → b ≡ false
clean true h = cc
clean false h = refl

abbrev in_all : Kind → ℕ → List Node → Bool
in_all k i ns = finds_from (enters_all k) i (map (finds may_go enters_all) ns)

clean-parts : (span : Span) (k : Kind) (cs : List Node) → still seat.Elsewhere (node_of span k cs) ≡ true → (may_go k ≡ false) × (in_all k 0 cs ≡ false)
clean-parts span k cs h =
    neither (may_go k) (in_all k 0 cs)
    (sym (fold-roll-Node Bool (finds_here may_go enters_all) (record { span = span; kind = k; children = cs })) ∙ clean (finds may_go enters_all (node_of span k cs)) h)

clean-at : (k : Kind) (j : ℕ) (ns : List Node) (i : ℕ) (c : Node) → in_all k j ns ≡ false → slice_get ns i ≡ Some c → Clean c
clean-at k j [] i c h at = cc
clean-at k j (n ∷ ns) zero c h at =
    let same : n ≡ c = cc in
    ap (finds may_go enters_all) (sym same) ∙ (neither (finds may_go enters_all n) (in_all k (suc j) ns) h).0
clean-at k j (n ∷ ns) (suc i) c h at = clean-at k (suc j) ns i c (neither (finds may_go enters_all n) (in_all k (suc j) ns) h).1 at

ones : (cs : List Node) → map only (map (λ c. c ∷ []) cs) ≡ cs
ones [] = refl
ones (c ∷ cs) = ap (λ l. c ∷ l) (ones cs)

module _ (known : Known) where
  along : (s : Seat) (k : Kind) (j : ℕ) (cs : List Node) → in_all k j cs ≡ false → Along (eliding known) (λ s n. still s n ≡ true) s cs
  along s k j [] h = tt
  along s k j (c ∷ cs) h =
      let parts = neither (finds may_go enters_all c) (in_all k (suc j) cs) h in
      (ap not parts.0, along s k (suc j) cs parts.1)

  here : (s : Seat) (span : Span) (k : Kind) (cs : List Node) → still s (node_of span k cs) ≡ true
      → cond (goes known s k cs) [] (over_ones span k (map (λ c. c ∷ []) cs)) ≡ node_of span k cs ∷ []
  here s span k cs h =
      ap (λ b. cond b [] (over_ones span k (map (λ c. c ∷ []) cs))) (none-goes known s k cs (clean-parts span k cs h).0)
      ∙ ap (λ ns. node_of span k ns ∷ []) (ones cs)

  leaves : Leaves (eliding known) (λ s n. still s n ≡ true)
  leaves = record {
    unkept = λ s c p k. refl;
    listed = λ s span cs p. along s kind.List 0 cs (clean-parts span kind.List cs p).1;
    below = λ s span k cs l p i c at. ap not (clean-at k 0 cs i c (clean-parts span k cs p).1 at);
    here = λ s span k cs l p. here s span k cs p;
  }

pub trees_without_stay : TreesWithoutStay
trees_without_stay config tree h = by config.verbatim_module_syntax
  where
    by : (b : Bool) → cond b tree (without_unused config.import_not_used_as_values tree) ≡ tree
    by true = refl
    by false =
        let known = known_of (keeps_imports config.import_not_used_as_values) tree in
        ap only (trees_stay Seat (eliding known) still (leaves known) seat.Elsewhere tree (ap not h))
