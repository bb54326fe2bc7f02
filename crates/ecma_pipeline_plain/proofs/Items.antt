-- Where no form is one that another pass has to lower, no item of a module is an import or export assignment.
use Rattle.std.proofs.Common.{◌≡◌, refl, Bool, true, false, List, slice_get}
use Rattle.std.specs.List.{list_all}
use Rattle.ecma_kind.specs.declared.kind.Kind.{Kind}
use Rattle.ecma_kind.specs.declared.kind.Kind.TheVariants as kind
use Rattle.ecma_tree.specs.declared.node.Node.{Node}
use Rattle.ecma_rules.specs.Children.{children_of, kind_of}
use Rattle.ecma_text_leaves.specs.Everywhere.{Each, Everywhere, more, none}
use Rattle.ecma_plain.specs.Items.{has_plain_items, is_plain_item, is_plain_kind}
use Rattle.ecma_forms.specs.Forms.{is_unlowered_kind}
use Rattle.ecma_hygiene.proofs.Telling.{and-both, true-false}
use Rattle.ecma_pipeline_plain.proofs.Everywhere.{parts}
use Rattle.ecma_pipeline_plain.proofs.KindsSaid.{IsLowered}

plain_by : (assignments : Bool) (k : Kind) (item : Node) → is_unlowered_kind k ≡ false → is_plain_kind assignments k item ≡ true
plain_by assignments (kind.TsImportEqualsDecl is_export is_type_only) item h = absurd (true-false refl h)
plain_by assignments kind.TsExportAssignment item h = absurd (true-false refl h)
plain_by assignments _ item h = refl

module _ (assignments : Bool) where
  all_plain : {ns : List Node} → Each IsLowered ns → list_all (is_plain_item assignments) ns ≡ true
  all_plain none = refl
  all_plain (more {n} {ns} a h) = and-both (is_plain_item assignments n) (list_all (is_plain_item assignments) ns) (plain_by assignments (kind_of n) n (parts IsLowered a).0) (all_plain h)

  first_items : {ns : List Node} → Each IsLowered ns → Each IsLowered (children_of (slice_get ns 0))
  first_items none = none
  first_items (more a h) = (parts IsLowered a).1

  pub items_are_plain : (tree : Node) → Everywhere IsLowered tree → has_plain_items assignments tree ≡ true
  items_are_plain tree h = all_plain (first_items (parts IsLowered h).1)
