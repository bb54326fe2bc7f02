-- A tree that is ready is plain without its types, with its final texts.
use Rattle.std.proofs.Common.{◌≡◌, ◌⊎◌, inl, inr, refl, sym, subst, ℕ, Bool, true, false, List, map, slice_get}
use Rattle.std.specs.List.{list_all}
use Rattle.std.specs.Str.{IsUtf8}
use Rattle.ecma_kind.specs.declared.kind.Kind.TheVariants as kind
use Rattle.ecma_kind.specs.declared.shapes.Sort.TheVariants as sort
use Rattle.ecma_tree.specs.Finding.{enters_all, finds}
use Rattle.ecma_tree.specs.Nodes.{dummy_span}
use Rattle.ecma_tree.specs.Sorted.{one}
use Rattle.ecma_tree.specs.declared.node.Node.{Node, out-Node}
use Rattle.ecma_text_leaves.specs.Everywhere.{Each, Everywhere, everywhere, more, none}
use Rattle.ecma_rules.specs.Children.{children_of as items_of, kind_of}
use Rattle.ecma_fits.specs.Fitting.{at_top}
use Rattle.ecma_fits.proofs.Clauses.{none_unfit}
use Rattle.ecma_runs.specs.Evaluation.{meaning}
use Rattle.ecma_strip.specs.Laws.{is_type_part}
use Rattle.ecma_strip.specs.Stripping.{plain_children, plain_kind, stripped}
use Rattle.ecma_strip.proofs.Leaving.{no_types_are_left}
use Rattle.ecma_strip_fits.proofs.SortsKept.{fits_under_types, sorts_kept}
use Rattle.ecma_hygiene.proofs.Telling.{and-both}
use Rattle.ecma_hygiene.specs.Hygienic.{IsHygienic}
use Rattle.ecma_hygiene.specs.Renamed.{Texts, renamed, text_of}
use Rattle.ecma_hygiene.specs.Sights.{meetings, sights}
use Rattle.ecma_hygiene.specs.Texts.{text_in}
use Rattle.ecma_hygiene_fits.proofs.Everywhere.{children_of}
use Rattle.ecma_hygiene_fits.specs.Unreserved.{IsUnreserved}
use Rattle.ecma_hygiene_fits.proofs.Numbered.{texts_unreserved}
use Rattle.ecma_plain.specs.Functions.{functions}
use Rattle.ecma_plain.specs.Items.{has_plain_items, is_plain_item}
use Rattle.ecma_plain.specs.Plain.{IsPlainKind}
use Rattle.ecma_text_sources.proofs.Quiet.{not_this}
use Rattle.ecma_pipeline_runs.proofs.Full.{modules-are-full}
use Rattle.ecma_pipeline_runs.proofs.FullParts.{full_by, is_full}
use Rattle.ecma_pipeline_runs.proofs.Nodes.{by-children, test-below}
use Rattle.ecma_pipeline_runs.proofs.Plainness.{finds-below, finds-itself, full-lacks}
use Rattle.ecma_ready.specs.Leaving.{leaves_plain_forms}
use Rattle.ecma_ready.specs.Ready.{HasTexts, IsReady}
use Rattle.ecma_pipeline_plain.specs.Laws.{ReadyTreesArePlain}
use Rattle.ecma_pipeline_plain.proofs.Everywhere.{each_at, each_of, everywhere_made, parts}
use Rattle.ecma_pipeline_plain.proofs.KindsSaid.{IsNotThis}
use Rattle.ecma_pipeline_plain.proofs.Leaving.{leaves_below, not_left_over}
use Rattle.ecma_pipeline_plain.proofs.Ordinary.{ordinary_usual}
use Rattle.ecma_pipeline_plain.proofs.OrdinaryRenamed.{ordinary_renamed}
use Rattle.ecma_pipeline_plain.proofs.OrdinaryStripped.{stripped_ordinary, stripped_parts}
use Rattle.ecma_pipeline_plain.proofs.ReadyKinds.{IsLeft, IsStaying, left_brackets, left_old, left_other, left_written, plain_item, staying_left, staying_plain}
use Rattle.ecma_pipeline_plain.proofs.Renaming.{everywhere_renamed}
use Rattle.ecma_pipeline_plain.proofs.Stripping.{Says, kept}
use Rattle.ecma_pipeline_plain.proofs.Taken.{constant, full_native, native_other}
use Rattle.ecma_pipeline_plain.proofs.Texts.{final_text_utf8}

module _ (assignments : Bool) where
  -- ---- what stays of the tree

  abbrev Asked : Node → Type 0
  Asked n = Everywhere HasTexts n × (leaves_plain_forms assignments n ≡ true)

  asked_says : Says Asked (Everywhere (IsStaying assignments))
  asked_says = record {
    below = λ n t i c at stay. (each_at HasTexts (children_of n) (parts HasTexts t.0).1 i c at, leaves_below assignments n t.1 i c at stay);
    missing = everywhere dummy_span kind.Absent ((tt, tt), refl) none;
    empty = λ span. everywhere span kind.EmptyStmt ((tt, tt), refl) none;
    lists = λ span cs each. everywhere span kind.List ((tt, tt), refl) (each_of (IsStaying assignments) cs each);
    usual = λ n s u has t each.
        everywhere (out-Node n).span (plain_kind (kind_of n)) (staying_plain assignments (kind_of n) ((parts HasTexts t.0).0, not_left_over assignments n t.1))
        (each_of (IsStaying assignments) (plain_children (kind_of n) (map stripped (children_of n))) each);
  }

  -- ---- what is left without types

  abbrev Leaves : Node → Type 0
  Leaves n = Everywhere (IsStaying assignments) n → finds is_type_part enters_all n ≡ false → is_full n ≡ true → Everywhere (IsLeft assignments) n

  leaves : (n : Node) → Leaves n
  leaves = by-children Leaves (λ n below g free full.
      (let p = parts (IsStaying assignments) g in
      everywhere_made (IsLeft assignments) n
      (staying_left assignments (kind_of n) p.0 (finds-itself is_type_part n free) (constant (kind_of n) (map meaning (children_of n)) (full-lacks n full)) (native_other (kind_of n) (full_native n full)))
      (each_of (IsLeft assignments) (children_of n) (λ i c at. below i c at (each_at (IsStaying assignments) (children_of n) p.1 i c at) (finds-below is_type_part n free i c at) (test-below full_by n full i c at)))))

  -- ---- kinds and items of what is left

  mutual
    kinds_plain : {n : Node} → Everywhere (IsLeft assignments) n → Everywhere IsPlainKind n
    kinds_plain (everywhere at k p below) = everywhere at k p.0 (each_plain below)

    each_plain : {ns : List Node} → Each (IsLeft assignments) ns → Each IsPlainKind ns
    each_plain none = none
    each_plain (more e es) = more (kinds_plain e) (each_plain es)

  all_plain : {ns : List Node} → Each (IsLeft assignments) ns → list_all (is_plain_item assignments) ns ≡ true
  all_plain none = refl
  all_plain (more {n} {ns} a h) = and-both (is_plain_item assignments n) (list_all (is_plain_item assignments) ns) (plain_item assignments (kind_of n) n (parts (IsLeft assignments) a).0) (all_plain h)

  first_items : {ns : List Node} → Each (IsLeft assignments) ns → Each (IsLeft assignments) (items_of (slice_get ns 0))
  first_items none = none
  first_items (more a h) = (parts (IsLeft assignments) a).1

  -- ---- the tree

  module _ (free : ℕ) (r : Node) (is : IsReady assignments free r) where
    abbrev s : Node
    s = stripped r

    full : is_full s ≡ true
    full = modules-are-full r is.fits is.types

    left_stripped : Everywhere (IsLeft assignments) s
    left_stripped =
        leaves s (kept Asked (Everywhere (IsStaying assignments)) asked_says r (one sort.Module) is.fits.sorted (is.texts, is.forms)).0
        (no_types_are_left r sort.Module refl (fits_under_types r is.fits)) full

    module _ (final : Node) (hygienic : IsHygienic s final) where
      abbrev texts : Texts
      texts = text_in hygienic.names

      abbrev h : Node
      h = renamed texts s

      utf8 : (text : List ℕ) (ctxt : ℕ) → IsUtf8 text → IsUtf8 (text_of texts (text, ctxt))
      utf8 text ctxt u = final_text_utf8 (sights s) (meetings s) hygienic.names hygienic.texts (text, ctxt) u

      other : (text : List ℕ) (ctxt : ℕ) → IsNotThis text → IsNotThis (text_of texts (text, ctxt))
      other text ctxt o = go (texts_unreserved s hygienic.names hygienic.texts (text, ctxt))
        where
          go : (text_of texts (text, ctxt) ≡ text) ⊎ IsUnreserved (text_of texts (text, ctxt)) → IsNotThis (text_of texts (text, ctxt))
          go (inl same) = subst IsNotThis (sym same) o
          go (inr free) = not_this (text_of texts (text, ctxt)) free.unreserved

      left_h : Everywhere (IsLeft assignments) h
      left_h =
          everywhere_renamed (IsLeft assignments) (IsLeft assignments) texts (left_written assignments texts utf8 other) (left_old assignments) (left_brackets assignments)
          ((tt, tt, refl, refl), refl) ((tt, tt, refl, refl), refl) ((tt, tt, refl, refl), refl) s left_stripped

      usual_h : (functions h).has_unusual ≡ false
      usual_h =
          ordinary_usual (IsLeft assignments) (left_other assignments) h
          (ordinary_renamed texts s
          (stripped_ordinary s (sorts_kept r is.fits) full
          (stripped_parts r (one sort.Module) at_top is.fits.sorted (none_unfit r is.fits)))) left_h

      items_h : has_plain_items assignments h ≡ true
      items_h = all_plain (first_items (parts (IsLeft assignments) left_h).1)

pub ready_trees_plain : ReadyTreesArePlain
ready_trees_plain assignments free tree final is hygienic = record {
  kinds = subst (Everywhere IsPlainKind) (sym hygienic.is) (kinds_plain assignments (left_h assignments free tree is final hygienic));
  usual = subst (λ n. (functions n).has_unusual ≡ false) (sym hygienic.is) (usual_h assignments free tree is final hygienic);
  items = subst (λ n. has_plain_items assignments n ≡ true) (sym hygienic.is) (items_h assignments free tree is final hygienic);
}
