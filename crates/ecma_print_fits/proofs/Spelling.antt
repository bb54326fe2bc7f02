-- Explicit parentheses keep the clause on leaves.
use Rattle.std.proofs.Common.{◌≡◌, ◌∙◌, not, Bool, true, false, List, [], ◌∷◌, refl, sym, ap}
use Rattle.ecma_kind.specs.declared.kind.Kind.{Kind}
use Rattle.ecma_kind.specs.declared.kind.Kind.TheVariants as kind
use Rattle.ecma_kind.specs.declared.span.Span.{Span}
use Rattle.ecma_tree.specs.declared.node.Node.{Node, Node-F, roll-Node}
use Rattle.ecma_tree.specs.Nodes.{dummy_span, node_of}
use Rattle.ecma_rules.specs.Children.{kind_of}
use Rattle.ecma_leaves.specs.Words.{is_spelled}
use Rattle.ecma_print.specs.declared.place.Spot.{Spot}
use Rattle.ecma_print.specs.Places.{free}
use Rattle.ecma_print.specs.Laid.{Laid}
use Rattle.ecma_print.specs.Explicit.{parenthesized}
use Rattle.ecma_print.specs.Spots.{first_spots, further_spot}
use Rattle.ecma_fits.specs.declared.role.Role.{Role}
use Rattle.ecma_fits.specs.declared.role.Role.TheVariants as role
use Rattle.ecma_fits.specs.Fitting.{at_top}
use Rattle.ecma_fits.specs.Roles.{is_tagged}
use Rattle.ecma_print_fits.specs.Laws.{ExplicitLeavesStay}
use Rattle.ecma_print_fits.proofs.Parts.{kind_made, not_true}
use Rattle.ecma_print_fits.proofs.Explicit.{spotted}
use Rattle.ecma_print_fits.proofs.Holding.{closes, kept}

abbrev misspelled : Role → Node → Bool
misspelled r n = not (is_spelled (is_tagged r) (kind_of n))

spelled_made : (r : Role) (x : Node-F Node) → misspelled r (roll-Node x) ≡ not (is_spelled (is_tagged r) x.kind)
spelled_made r x = ap (λ k. not (is_spelled (is_tagged r) k)) (kind_made x)

-- whether a template is tagged is nothing to what may stand in parentheses
untagged : (a b : Bool) (k : Kind) → closes k ≡ true → is_spelled a k ≡ is_spelled b k
untagged a b kind.SeqExpr h = refl
untagged a b (kind.AssignExpr op) h = refl
untagged a b (kind.ArrowExpr is_async is_generator) h = refl
untagged a b (kind.YieldExpr delegate) h = refl
untagged a b kind.CondExpr h = refl
untagged a b (kind.BinExpr op) h = refl
untagged a b (kind.UnaryExpr op) h = refl
untagged a b kind.AwaitExpr h = refl
untagged a b (kind.UpdateExpr op prefix) h = refl
untagged a b kind.CallExpr h = refl
untagged a b (kind.OptChainExpr optional) h = refl
untagged a b kind.NewExpr h = refl
untagged a b (kind.Number value raw) h = refl
untagged a b kind.ObjectLit h = refl
untagged a b kind.FnExpr h = refl
untagged a b kind.ClassExpr h = refl
untagged a b _ h = not_true h

leaves_here : (r : Role) (span : Span) (k : Kind) (ns : List Node) (children : List Laid) (spot : Spot) → misspelled r (node_of span k ns) ≡ false → misspelled r (node_of span k (spotted ns (first_spots k children spot) (further_spot k spot))) ≡ false
leaves_here r span k ns children spot h =
    spelled_made r (record { span = span; kind = k; children = spotted ns (first_spots k children spot) (further_spot k spot) }) ∙ (sym (spelled_made r (record { span = span; kind = k; children = ns })) ∙ h)

leaves_around : (r : Role) (x : Node-F Node) → closes x.kind ≡ true → misspelled r (roll-Node x) ≡ false → (misspelled role.Free (roll-Node x) ≡ false) × ((n : Node) → misspelled r (parenthesized n) ≡ false)
leaves_around r x c h = (
  spelled_made role.Free x ∙ (ap not (untagged (is_tagged role.Free) (is_tagged r) x.kind c) ∙ (sym (spelled_made r x) ∙ h)),
  λ n. spelled_made r (record { span = dummy_span; kind = kind.ParenExpr; children = n ∷ [] }),
)

pub leaves_stay : ExplicitLeavesStay
leaves_stay tree h = kept misspelled (λ r span k ns children spot fits e. leaves_here r span k ns children spot e) leaves_around tree at_top at_top refl h (free 0) refl

pub ruleset leaves = (leaves_stay)
