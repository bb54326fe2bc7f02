-- Identifiers that are leaves and do not end where the text begins, in what is read up to a place.
use Rattle.std.proofs.Common.{◌≡◌, ◌≤◌, ℕ, Bool, false, List, [], ◌∷◌, ◌++◌, sym, arith}
use Rattle.std.specs.Prelude.{slice_set}
use Rattle.ecma_kind.specs.declared.span.Span.{Span}
use Rattle.ecma_kind.specs.declared.kind.Kind.{Kind}
use Rattle.ecma_kind.specs.declared.kind.Kind.TheVariants as kind
use Rattle.ecma_tree.specs.declared.node.Node.{Node}
use Rattle.ecma_grammar.specs.trees.Parts.{from_to}
use Rattle.ecma_grammar.specs.trees.Functions.{questioned_kind}
use Rattle.ecma_grammar.specs.trees.Others.{declared_kind}
use Rattle.ecma_text_leaves.proofs.Forms.{is_leaf}
use Rattle.ecma_raw_roles.proofs.Walks.{not_true}

module _ (stop : ℕ) where
  -- where one stands the place is not the beginning of the text
  abbrev pub IsPlaced : Span → Kind → List Node → Type 0
  IsPlaced at (kind.Ident text ctxt optional) [] = (1 ≤ stop) × (1 ≤ at.hi)
  IsPlaced at (kind.Ident text ctxt optional) (c ∷ cs) = 1 ≤ stop
  IsPlaced at _ cs = Unit {0}

  pub others : (at : Span) (k : Kind) (cs : List Node) → is_leaf k ≡ false → IsPlaced at k cs
  others at (kind.Ident text ctxt optional) cs e = not_true (sym e)
  others at _ cs e = tt

  pub questions : (optional : Bool) (at : Span) (k : Kind) (cs : List Node) → IsPlaced at k cs → IsPlaced at (questioned_kind optional k) cs
  questions optional at (kind.Ident text ctxt before) [] p = p
  questions optional at (kind.Ident text ctxt before) (c ∷ cs) p = p
  questions optional at _ cs p = tt

  -- with another first child, from another place on
  pub front : (lo : ℕ) (x : Node) (at : Span) (k : Kind) (cs : List Node) → IsPlaced at k cs → IsPlaced (from_to lo at.hi) k (slice_set cs 0 x)
  front lo x at (kind.Ident text ctxt optional) [] p = p
  front lo x at (kind.Ident text ctxt optional) (c ∷ cs) p = p
  front lo x at _ cs p = tt

  -- with some child, wherever
  pub filled : (at to : Span) (k : Kind) (cs : List Node) (c : Node) (others : List Node) → IsPlaced at k cs → IsPlaced to k (c ∷ others)
  filled at to (kind.Ident text ctxt optional) [] c others p = p.0
  filled at to (kind.Ident text ctxt optional) (d ∷ ds) c others p = p
  filled at to _ cs c others p = tt

  pub appended : (at to : Span) (k : Kind) (cs : List Node) (c : Node) → IsPlaced at k cs → IsPlaced to k (cs ++ c ∷ [])
  appended at to (kind.Ident text ctxt optional) [] c p = p.0
  appended at to (kind.Ident text ctxt optional) (d ∷ ds) c p = p
  appended at to _ cs c p = tt

  -- up to the place
  pub ends : (at to : Span) (k : Kind) (cs : List Node) → to.hi ≡ stop → IsPlaced at k cs → IsPlaced to k cs
  ends at to (kind.Ident text ctxt optional) [] e p = let q = p.0 in (q, omega (arith, e, q))
  ends at to (kind.Ident text ctxt optional) (c ∷ cs) e p = p
  ends at to _ cs e p = tt

  pub declared_placed : (at : Span) (k : Kind) (cs : List Node) → IsPlaced at k cs → IsPlaced at (declared_kind k) cs
  declared_placed at (kind.Ident text ctxt optional) [] p = p
  declared_placed at (kind.Ident text ctxt optional) (c ∷ cs) p = p
  declared_placed at _ cs p = tt

-- so it is up to a place further on
pub further : (stop later : ℕ) (at : Span) (k : Kind) (cs : List Node) → stop ≤ later → IsPlaced stop at k cs → IsPlaced later at k cs
further stop later at (kind.Ident text ctxt optional) [] l p = let q = p.0 in (omega (arith, l, q), p.1)
further stop later at (kind.Ident text ctxt optional) (c ∷ cs) l p = omega (arith, l, p)
further stop later at _ cs l p = tt
