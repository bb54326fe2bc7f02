-- What is not refused: of the items of a module.
use Rattle.std.proofs.Common.{◌≡◌, ℕ, Bool, true, false, cond, refl, List, [], ◌∷◌, map, filter, Option, Some, None, slice_get}
use Rattle.ecma_config.specs.declared.config.TsImportExportAssignConfig.{TsImportExportAssignConfig}
use Rattle.ecma_tree.specs.declared.node.Node.{Node, out-Node}
use Rattle.ecma_strip_rewriting.proofs.PlainKinds.{no}
use Rattle.ecma_lower.specs.declared.error.LowerError.{LowerError}
use Rattle.ecma_lower.specs.declared.error.LowerError.TheVariants as lower_error
use Rattle.ecma_lower.specs.Assignments.{is_export_assignment, is_required_import}
use Rattle.ecma_lower.specs.Checking.{first_refusal, places_of, refusal_at, refuses_exports, refuses_imports}
use Rattle.ecma_lower.specs.Items.{items_of}
use Rattle.ecma_lower_sources.proofs.Modules.{Each}

none-refused : (b : Bool) (o : Option ℕ) (r : ℕ → LowerError) (others : Option LowerError) → refusal_at b o r others ≡ None → (b ≡ true → o ≡ None) × (others ≡ None)
none-refused true (Some at) r others h = cc
none-refused true None r others h = ((λ t. refl), h)
none-refused false o r others h = ((λ t. no t), h)

no-first : (test : Node → Bool) (b : Bool) (n : Node) (ns : List Node) → test n ≡ b
    → slice_get (map (λ item. (out-Node item).span.lo) (cond b (n ∷ filter test ns) (filter test ns))) 0 ≡ None → (test n ≡ false) × (slice_get (places_of test ns) 0 ≡ None)
no-first test true n ns e h = cc
no-first test false n ns e h = (e, h)

-- where the first place of items that pass a test is none, no item passes it
none-pass : (test : Node → Bool) (ns : List Node) → slice_get (places_of test ns) 0 ≡ None → Each (λ n. test n ≡ false) ns
none-pass test [] h = tt
none-pass test (n ∷ ns) h = let v = no-first test (test n) n ns refl h in (v.0, none-pass test ns v.1)

all-so : (P : Node → Type 0) (b : Bool) (ns : List Node) → (b ≡ true → Each P ns) → Each (λ n. b ≡ true → P n) ns
all-so P b [] h = tt
all-so P b (n ∷ ns) h = ((λ t. (h t).0), all-so P b ns (λ t. (h t).1))

-- an item of a module that is not refused
abbrev pub Unrefused : TsImportExportAssignConfig → Node → Type 0
Unrefused assign n = (refuses_imports assign ≡ true → is_required_import n ≡ false) × (refuses_exports assign ≡ true → is_export_assignment n ≡ false)

module _ (assign : TsImportExportAssignConfig) (tree : Node) (h : first_refusal assign tree ≡ None) where
  abbrev ns : List Node
  ns = items_of tree

  abbrev exports : List ℕ
  exports = places_of is_export_assignment ns

  abbrev imports : List ℕ
  imports = places_of is_required_import ns

  abbrev export_refusal : Option LowerError
  export_refusal = refusal_at (refuses_exports assign) (slice_get exports 0) lower_error.ExportAssign None

  abbrev import_refusal : Option LowerError
  import_refusal = refusal_at (refuses_imports assign) (slice_get imports 0) lower_error.ImportAssign export_refusal

  pub imports-unrefused : Each (λ n. refuses_imports assign ≡ true → is_required_import n ≡ false) ns
  imports-unrefused =
      let once = none-refused true (slice_get exports 1) lower_error.ExportAssignTwice import_refusal h in
      let first = none-refused (refuses_imports assign) (slice_get imports 0) lower_error.ImportAssign export_refusal once.1 in
      all-so (λ n. is_required_import n ≡ false) (refuses_imports assign) ns (λ t. none-pass is_required_import ns (first.0 t))

  pub exports-unrefused : Each (λ n. refuses_exports assign ≡ true → is_export_assignment n ≡ false) ns
  exports-unrefused =
      let once = none-refused true (slice_get exports 1) lower_error.ExportAssignTwice import_refusal h in
      let first = none-refused (refuses_imports assign) (slice_get imports 0) lower_error.ImportAssign export_refusal once.1 in
      let second = none-refused (refuses_exports assign) (slice_get exports 0) lower_error.ExportAssign None first.1 in
      all-so (λ n. is_export_assignment n ≡ false) (refuses_exports assign) ns (λ t. none-pass is_export_assignment ns (second.0 t))
