-- In a tree each form of which is taken no enum stays.
use Rattle.std.proofs.Common.{◌≡◌, ◌∙◌, ℕ, Bool, true, false, ◌&&◌, not, Option, Some, None, map, refl, sym, ap, slice_get, true≢false}
use Rattle.ecma_kind.specs.declared.kind.Kind.{Kind}
use Rattle.ecma_kind.specs.declared.kind.Kind.TheVariants as kind
use Rattle.ecma_tree.specs.Sorted.{is_list}
use Rattle.ecma_tree.specs.declared.node.Node.{Node, out-Node}
use Rattle.ecma_tree.proofs.Layers.{from_leaves_out}
use Rattle.ecma_config.specs.declared.config.TsImportExportAssignConfig.{TsImportExportAssignConfig}
use Rattle.ecma_rules.specs.Children.{holds_of, kind_of}
use Rattle.ecma_rules.specs.Failing.{failing_step, first_failing, least_from}
use Rattle.ecma_fits.proofs.Walks.{neither, neither_least, not_failing}
use Rattle.ecma_forms.specs.Forms.{first_untaken, goes_from_list, gone_inside, is_odd_by, is_untaken, is_untaken_kind, leaves, untaken_here}
use Rattle.ecma_runs.specs.Enums.{bare, is_enum, lacks_enums}
use Rattle.ecma_strip.specs.Staying.{stays}
use Rattle.ecma_strip_fits.proofs.Walk.{each_none}
use Rattle.ecma_strip_runs.proofs.Bare.{bare_lacks_enums}
use Rattle.ecma_enclose_runs.proofs.Heads.{unclosed_lacks_enums, unclosed_tree}

-- an item that stays does not go, nor does what stands in no list
not_gone : (list : Bool) (o : Option Node) (c : Node) → o ≡ Some c → (list ≡ true → stays c ≡ true) → (list && holds_of leaves o) ≡ false
not_gone true o c at stay = ap (holds_of leaves) at ∙ ap not (stay refl)
not_gone false o c at stay = refl

no_enum_kind : (assign : TsImportExportAssignConfig) (k : Kind) → is_untaken_kind assign k ≡ false → is_enum k ≡ false
no_enum_kind assign (kind.TsEnumDecl declare is_const) h = absurd (true≢false h)
no_enum_kind assign kind.TsEnumMember h = absurd (true≢false h)
no_enum_kind assign _ h = refl

module _ (assign : TsImportExportAssignConfig) where
  abbrev walk : Node → Bool → Option ℕ
  walk = first_failing Bool (untaken_here assign) gone_inside

  abbrev Taken : Node → Type 0
  Taken n = first_untaken assign n ≡ None

  told : (n : Node) → Taken n → (untaken_here assign false n ≡ None) × (least_from Bool (gone_inside false n) 0 (map walk (out-Node n).children) ≡ None)
  told n taken =
      neither_least (untaken_here assign false n) (least_from Bool (gone_inside false n) 0 (map walk (out-Node n).children))
      (sym (ap (λ f. f false) (from_leaves_out (Bool → Option ℕ) (failing_step Bool (untaken_here assign) gone_inside) n)) ∙ taken)

  no_enum : (n : Node) → Taken n → is_enum (kind_of n) ≡ false
  no_enum n taken = no_enum_kind assign (kind_of n) (neither (is_untaken_kind assign (kind_of n)) (is_odd_by (kind_of n) n) (not_failing (is_untaken assign n) n (told n taken).0)).0

  taken_below : (n : Node) → Taken n → (i : ℕ) (c : Node) → slice_get (out-Node n).children i ≡ Some c → (is_list (kind_of n) ≡ true → stays c ≡ true) → Taken c
  taken_below n taken i c at stay =
      let asked : goes_from_list n i ≡ false = not_gone (is_list (kind_of n)) (slice_get (out-Node n).children i) c at stay in
      sym (ap (walk c) asked) ∙ each_none Bool walk (out-Node n).children (gone_inside false n) (told n taken).1 i c at

  pub taken_lacks_enums : (n : Node) → Taken n → lacks_enums (bare n) ≡ true
  taken_lacks_enums = bare_lacks_enums Taken no_enum taken_below

  pub unclosed_taken_lacks_enums : (n : Node) → Taken n → lacks_enums (bare (unclosed_tree n)) ≡ true
  unclosed_taken_lacks_enums = unclosed_lacks_enums Taken no_enum taken_below
