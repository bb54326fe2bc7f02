-- What a tree of which nothing has to be lowered says of a node, and of each child that does not go from a list.
use Rattle.std.proofs.Common.{◌≡◌, ◌∙◌, ℕ, Bool, true, false, ◌&&◌, not, Option, Some, None, map, refl, sym, ap, slice_get}
use Rattle.ecma_tree.specs.Sorted.{is_list}
use Rattle.ecma_tree.specs.declared.node.Node.{Node, out-Node}
use Rattle.ecma_tree.proofs.Layers.{from_leaves_out}
use Rattle.ecma_rules.specs.Children.{holds_of, kind_of}
use Rattle.ecma_rules.specs.Failing.{failing_step, first_failing, least_from}
use Rattle.ecma_strip.specs.Staying.{stays}
use Rattle.ecma_strip_fits.proofs.Walk.{each_none}
use Rattle.ecma_pipeline_runs.proofs.Nodes.{StaysIn}
use Rattle.ecma_forms.specs.Forms.{first_unlowered, goes_from_list, gone_inside, is_odd_by, is_unlowered, is_unlowered_kind, leaves, unlowered_here}
use Rattle.ecma_fits.proofs.Walks.{neither, neither_least, not_failing}

abbrev walk : Node → Bool → Option ℕ
walk = first_failing Bool unlowered_here gone_inside

-- an item that stays does not go, nor does what stands in no list
not_gone : (list : Bool) (o : Option Node) (c : Node) → o ≡ Some c → (list ≡ true → stays c ≡ true) → (list && holds_of leaves o) ≡ false
not_gone true o c at stay = ap (holds_of leaves) at ∙ ap not (stay refl)
not_gone false o c at stay = refl

module _ (n : Node) (low : first_unlowered n ≡ None) where
  told : (unlowered_here false n ≡ None) × (least_from Bool (gone_inside false n) 0 (map walk (out-Node n).children) ≡ None)
  told =
      neither_least (unlowered_here false n) (least_from Bool (gone_inside false n) 0 (map walk (out-Node n).children))
      (sym (ap (λ f. f false) (from_leaves_out (Bool → Option ℕ) (failing_step Bool unlowered_here gone_inside) n)) ∙ low)

  both : (is_unlowered_kind (kind_of n) ≡ false) × (is_odd_by (kind_of n) n ≡ false)
  both = neither (is_unlowered_kind (kind_of n)) (is_odd_by (kind_of n) n) (not_failing (is_unlowered n) n told.0)

  pub not_unlowered : is_unlowered_kind (kind_of n) ≡ false
  not_unlowered = both.0

  pub not_odd : is_odd_by (kind_of n) n ≡ false
  not_odd = both.1

  pub low_below : (i : ℕ) (c : Node) → slice_get (out-Node n).children i ≡ Some c → StaysIn (kind_of n) c → first_unlowered c ≡ None
  low_below i c at stay =
      let asked : goes_from_list n i ≡ false = not_gone (is_list (kind_of n)) (slice_get (out-Node n).children i) c at stay in
      sym (ap (walk c) asked) ∙ each_none Bool walk (out-Node n).children (gone_inside false n) told.1 i c at
