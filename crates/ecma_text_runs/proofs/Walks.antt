-- In a tree in which no node fails a test where it stands, none does, node by node.
use Rattle.std.proofs.Common.{◌≡◌, sym, ap, ◌∙◌, ℕ, map, Bool, false, Option, Some, None, slice_get}
use Rattle.ecma_tree.specs.declared.node.Node.{Node, out-Node}
use Rattle.ecma_tree.proofs.Layers.{from_leaves_out}
use Rattle.ecma_rules.specs.Failing.{failing_here, failing_step, first_failing, least_from}
use Rattle.ecma_fits.specs.declared.unfit.Where.{Where}
use Rattle.ecma_fits.specs.Fitting.{where_in}
use Rattle.ecma_strip_fits.proofs.Walk.{each_none}
use Rattle.ecma_fits.proofs.Walks.{neither_least, not_failing}

module _ (fails : Where → Node → Bool) where
  abbrev tell : Where → Node → Option ℕ
  tell w n = failing_here (fails w n) n

  abbrev pub walk : Node → Where → Option ℕ
  walk = first_failing Where tell where_in

  parts : (n : Node) (w : Where) → walk n w ≡ None → (tell w n ≡ None) × (least_from Where (where_in w n) 0 (map walk (out-Node n).children) ≡ None)
  parts n w h =
      neither_least (tell w n) (least_from Where (where_in w n) 0 (map walk (out-Node n).children)) (sym (ap (λ f. f w) (from_leaves_out (Where → Option ℕ) (failing_step Where tell where_in) n)) ∙ h)

  pub none_here : (n : Node) (w : Where) → walk n w ≡ None → fails w n ≡ false
  none_here n w h = not_failing (fails w n) n (parts n w h).0

  pub none_below : (n : Node) (w : Where) → walk n w ≡ None → (i : ℕ) (c : Node) → slice_get (out-Node n).children i ≡ Some c → walk c (where_in w n i) ≡ None
  none_below n w h = each_none Where walk (out-Node n).children (where_in w n) (parts n w h).1
