-- The written tree is a plain module.
use Rattle.std.proofs.Common.{◌≡◌, ◌∙◌, sym, ap, subst, ℕ, true, false, None}
use Rattle.ecma_kind.specs.declared.shapes.Sort.TheVariants as sort
use Rattle.ecma_tree.specs.Sorted.{one}
use Rattle.ecma_tree.specs.declared.node.Node.{Node}
use Rattle.ecma_rules.specs.Children.{kind_of}
use Rattle.ecma_text_leaves.specs.Everywhere.{Everywhere}
use Rattle.ecma_fits.specs.Fitting.{Fits, at_top}
use Rattle.ecma_fits.proofs.Clauses.{none_unfit}
use Rattle.ecma_scope.specs.Laws.{without_contexts}
use Rattle.ecma_scope.specs.Resolved.{resolved}
use Rattle.ecma_strip.specs.Stripping.{stripped}
use Rattle.ecma_strip_fits.proofs.SortsKept.{sorts_kept}
use Rattle.ecma_hygiene.specs.Hygienic.{IsHygienic}
use Rattle.ecma_hygiene.specs.Renamed.{renamed}
use Rattle.ecma_hygiene.specs.Texts.{text_in}
use Rattle.ecma_forms.specs.Forms.{first_unlowered}
use Rattle.ecma_plain.specs.Read.{IsRead}
use Rattle.ecma_pipeline_plain.specs.Laws.{FinalTreesArePlain}
use Rattle.ecma_pipeline_plain.proofs.Everywhere.{everywhere_moved}
use Rattle.ecma_pipeline_plain.proofs.Hashbang.{hashbang_stays}
use Rattle.ecma_pipeline_plain.proofs.Items.{items_are_plain}
use Rattle.ecma_pipeline_plain.proofs.KindsSaid.{IsLeft, IsLowered, empty, left_other, lowered_bare}
use Rattle.ecma_pipeline_plain.proofs.Ordinary.{functions_alike, ordinary_usual}
use Rattle.ecma_pipeline_plain.proofs.OrdinaryRenamed.{ordinary_renamed}
use Rattle.ecma_pipeline_plain.proofs.OrdinaryStripped.{stripped_ordinary, stripped_parts}
use Rattle.ecma_pipeline_plain.proofs.Taken.{left_renamed, resolved_fits, stripped_full}
use Rattle.ecma_plain.specs.Forms.{IsTaken}
use Rattle.ecma_plain.specs.Functions.{Functions, functions}
use Rattle.ecma_plain.specs.Items.{HasUtf8Hashbang, has_plain_items}

module _ (unresolved top left : ℕ) (source final : Node) (read : IsRead source) (low : first_unlowered source ≡ None) (hygienic : IsHygienic (stripped (resolved unresolved top left source)) final) where
  abbrev r : Node
  r = resolved unresolved top left source

  abbrev s : Node
  s = stripped r

  abbrev h : Node
  h = renamed (text_in hygienic.names) s

  left_h : Everywhere IsLeft h
  left_h = left_renamed unresolved top left source read low final hygienic

  of_h : (P : Node → Type 0) → P h → P final
  of_h P p = subst P (sym hygienic.is) p

  hashbang : HasUtf8Hashbang (kind_of (without_contexts final))
  hashbang = of_h (λ n. HasUtf8Hashbang (kind_of (without_contexts n))) (hashbang_stays unresolved top left source (text_in hygienic.names) read.fits read.hashbang)

  lowered_h : Everywhere IsLowered (without_contexts h)
  lowered_h = everywhere_moved IsLeft IsLowered empty lowered_bare left_h

  items : has_plain_items false (without_contexts final) ≡ true
  items = of_h (λ n. has_plain_items false (without_contexts n) ≡ true) (items_are_plain false (without_contexts h) lowered_h)

  taken_there : Everywhere IsTaken (without_contexts final)
  taken_there = of_h (λ n. Everywhere IsTaken (without_contexts n)) (everywhere_moved IsLeft IsTaken empty (λ k p. p.0) left_h)

  fits : Fits r
  fits = resolved_fits unresolved top left source read low

  usual : (functions (without_contexts final)).has_unusual ≡ false
  usual =
      of_h (λ n. (functions (without_contexts n)).has_unusual ≡ false)
      (ap (λ (f : Functions). f.has_unusual) (functions_alike h)
      ∙ ordinary_usual IsLeft left_other h
      (ordinary_renamed (text_in hygienic.names) s
      (stripped_ordinary s (sorts_kept r fits) (stripped_full unresolved top left source read low) (stripped_parts r (one sort.Module) at_top fits.sorted (none_unfit r fits))))
      left_h)

pub final_trees_plain : FinalTreesArePlain
final_trees_plain unresolved top left source final read low hygienic fits = record {
  fits = fits;
  taken = taken_there unresolved top left source final read low hygienic;
  usual = usual unresolved top left source final read low hygienic;
  items = items unresolved top left source final read low hygienic;
  hashbang = hashbang unresolved top left source final read low hygienic;
}
