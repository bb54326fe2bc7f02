-- What is read as a plain module is a plain tree.
use Rattle.std.proofs.Common.{◌≡◌, Bool, true, false, not, List, ◌∷◌, map, refl, slice_get, sym, Some, None}
use Rattle.std.specs.List.{list_all, list_any}
use Rattle.std.proofs.lemmas.Bool.{and_parts}
use Rattle.ecma_kind.specs.declared.kind.Kind.{Kind}
use Rattle.ecma_kind.specs.declared.kind.Kind.TheVariants as kind
use Rattle.ecma_tree.specs.declared.node.Node.{Node}
use Rattle.ecma_rules.specs.Children.{child_is, children_of, kind_of}
use Rattle.ecma_text_leaves.specs.Everywhere.{Each, Everywhere, more, none}
use Rattle.ecma_text_leaves.proofs.Trees.{children_good, kind_good}
use Rattle.ecma_text_sorts.specs.Laws.{ReadModulesAreSorted}
use Rattle.ecma_fits.proofs.Walks.{neither}
use Rattle.ecma_raw_roles.proofs.Walks.{not_true}
use Rattle.ecma_plain.specs.Forms.{is_of_forms}
use Rattle.ecma_plain.specs.Items.{has_plain_items, is_external, is_plain_item, is_plain_kind}
use Rattle.ecma_plain.specs.Plain.{HasUtf8Texts, IsPlainKind, is_questioned}
use Rattle.ecma_plain.specs.Writable.{IsWritable}
use Rattle.ecma_text_plain.specs.Assignments.{is_inner_import, is_inner_import_by}
use Rattle.ecma_text_plain.specs.Functions.{holds_somewhere}
use Rattle.ecma_text_plain.specs.Laws.{ReadPlainModulesHavePlainItems, ReadPlainTreesArePlain}
use Rattle.ecma_text_plain.proofs.Plain.{tree_plain}
use Rattle.ecma_text_plain.proofs.PlainKinds.{IsPlain, IsRead, everywhere_also}
use Rattle.ecma_text_plain.proofs.Usual.{nowhere, usual_by_tests}
use Rattle.ecma_text_plain.proofs.WholeModules.{read_bodies, read_imports, read_names}

not_no : (b : Bool) → not b ≡ false → b ≡ true
not_no true h = refl
not_no false h = not_true (sym h)

-- ---- items

module _ (keep_assign : Bool) where
  abbrev Nowhere : List Node → Type 0
  Nowhere ns = list_any (λ b. b) (map (holds_somewhere is_inner_import) ns) ≡ false

  item_plain : (k : Kind) (n : Node) → IsPlain keep_assign k → is_inner_import_by k n ≡ false → is_plain_kind keep_assign k n ≡ true
  item_plain (kind.TsImportEqualsDecl is_export is_type_only) n p q =
      let kept : keep_assign ≡ true = (and_parts (not is_type_only) keep_assign p.1).1 in
      let outer : child_is is_external n 1 ≡ true = not_no (child_is is_external n 1) q in
      rw (kept, outer) refl
  item_plain kind.TsExportAssignment n p q = p.1
  item_plain _ n p q = refl

  both_nowhere : (n : Node) (ns : List Node) → Nowhere (n ∷ ns) → (holds_somewhere is_inner_import n ≡ false) × Nowhere ns
  both_nowhere n ns h = neither (holds_somewhere is_inner_import n) (list_any (λ b. b) (map (holds_somewhere is_inner_import) ns)) h

  items_plain : {ns : List Node} → Each (IsPlain keep_assign) ns → Nowhere ns → list_all (is_plain_item keep_assign) ns ≡ true
  items_plain none h = refl
  items_plain (more {n = n} {ns = ns} g gs) h =
      let both = both_nowhere n ns h in
      let here = item_plain (kind_of n) n (kind_good (IsPlain keep_assign) g) (nowhere is_inner_import n both.0).0 in
      let behind = items_plain gs both.1 in
      rw (here, behind) refl

  first_plain : {cs : List Node} → Each (IsPlain keep_assign) cs → Nowhere cs → list_all (is_plain_item keep_assign) (children_of (slice_get cs 0)) ≡ true
  first_plain none h = refl
  first_plain (more {n = n} {ns = ns} g gs) h = items_plain (children_good (IsPlain keep_assign) g) (nowhere is_inner_import n (both_nowhere n ns h).0).1

  module_plain : {tree : Node} → Everywhere (IsPlain keep_assign) tree → holds_somewhere is_inner_import tree ≡ false → has_plain_items keep_assign tree ≡ true
  module_plain {tree} g h = first_plain (children_good (IsPlain keep_assign) g) (nowhere is_inner_import tree h).1

pub read_items : ReadModulesAreSorted → ReadPlainModulesHavePlainItems
read_items sorted text keep_assign bound tree u e = module_plain keep_assign (tree_plain keep_assign text bound tree u e) (read_imports sorted text keep_assign bound tree u e)

-- ---- kinds

utf8_texts : (k : Kind) → IsRead k → HasUtf8Texts k
utf8_texts (kind.Module (Some text)) p = p
utf8_texts (kind.Module None) p = tt
utf8_texts (kind.Ident sym ctxt optional) p = p.0
utf8_texts (kind.Str value (Some raw)) p = p
utf8_texts (kind.Str value None) p = absurd p
utf8_texts (kind.Number value (Some raw)) p = p
utf8_texts (kind.Number value None) p = absurd p
utf8_texts (kind.BigInt value (Some raw)) p = p
utf8_texts (kind.BigInt value None) p = absurd p
utf8_texts _ p = p

writable : (k : Kind) → IsRead k → IsWritable k
writable (kind.Module (Some text)) p = tt
writable (kind.Str value (Some raw)) p = tt
writable (kind.Str value None) p = absurd p
writable (kind.Number (Some value) (Some raw)) p = tt
writable (kind.Number (Some value) None) p = absurd p
writable (kind.Number None raw) p = tt
writable (kind.BigInt value (Some raw)) p = tt
writable (kind.BigInt value None) p = absurd p
writable _ p = tt

unquestioned : (k : Kind) → IsRead k → is_questioned k ≡ false
unquestioned (kind.Module (Some text)) p = refl
unquestioned (kind.Ident sym ctxt optional) p = p.2
unquestioned _ p = refl

plain_kind : (keep_assign : Bool) (k : Kind) → IsPlain keep_assign k → IsPlainKind k
plain_kind keep_assign k p = (utf8_texts k p.0, writable k p.0, (and_parts (is_of_forms k) _ p.1).0, unquestioned k p.0)

pub read_plain : ReadModulesAreSorted → ReadPlainTreesArePlain
read_plain sorted text keep_assign bound tree u e = record {
  kinds = everywhere_also (IsPlain keep_assign) IsPlainKind (plain_kind keep_assign) (tree_plain keep_assign text bound tree u e);
  usual = usual_by_tests tree (read_bodies sorted text keep_assign bound tree u e) (read_names sorted text keep_assign bound tree u e);
  items = read_items sorted text keep_assign bound tree u e;
}
