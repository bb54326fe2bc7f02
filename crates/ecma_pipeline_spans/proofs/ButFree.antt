-- Where no identifier was made, none was but for free names.
use Rattle.std.proofs.Common.{◌≡◌, ℕ, false, ◌&&◌, ◌==◌, not, refl, ap}
use Rattle.ecma_kind.specs.declared.kind.Kind.{Kind}
use Rattle.ecma_kind.specs.declared.kind.Kind.TheVariants as kind
use Rattle.ecma_kind.specs.declared.span.Span.{Span}
use Rattle.ecma_tree.specs.declared.node.Node.{Node, out-Node}
use Rattle.ecma_fits.proofs.Clauses.{less}
use Rattle.ecma_hygiene_fits.specs.Placed.{NoneMade, NoneMadeBut, is_made, is_made_but}

module _ (free : ℕ) where
  weaker : (k : Kind) (at : Span) → is_made k at ≡ false → is_made_but free k at ≡ false
  weaker (kind.Ident text ctxt optional) at h = ap (λ b. b && not (ctxt == free)) h
  weaker _ at h = refl

  pub none_made_but : (tree : Node) → NoneMade tree → NoneMadeBut free tree
  none_made_but =
      less (λ w n. is_made (out-Node n).kind (out-Node n).span) (λ w n. is_made_but free (out-Node n).kind (out-Node n).span) (λ w n. weaker (out-Node n).kind (out-Node n).span)
