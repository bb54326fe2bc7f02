-- With explicit parentheses no `arguments` in a pattern is a stray that was none.
use Rattle.std.proofs.Common.{◌≡◌, ◌∙◌, ◌&&◌, codes, ℕ, Bool, false, List, [], ◌∷◌, refl, sym, ap, slice_get}
use Rattle.ecma_kind.specs.declared.span.Span.{Span}
use Rattle.ecma_kind.specs.declared.kind.Kind.{Kind}
use Rattle.ecma_kind.specs.declared.kind.Kind.TheVariants as kind
use Rattle.ecma_kind.specs.declared.shapes.Sort.TheVariants as sort
use Rattle.ecma_tree.specs.declared.node.Node.{Node, Node-F, roll-Node}
use Rattle.ecma_tree.specs.declared.node.Node.TheViews.{out-roll-Node}
use Rattle.ecma_tree.specs.Nodes.{dummy_span, node_of}
use Rattle.ecma_tree.specs.Sorted.{one}
use Rattle.ecma_rules.specs.Children.{is_named, of_kind}
use Rattle.ecma_print.specs.declared.place.Spot.{Spot}
use Rattle.ecma_print.specs.Places.{free}
use Rattle.ecma_print.specs.Explicit.{parenthesized}
use Rattle.ecma_print.specs.Spots.{first_spots, further_spot}
use Rattle.ecma_print_parentheses.proofs.Asking.{AllFit, Fits, first_fit, further_fits}
use Rattle.ecma_fits.specs.declared.role.Role.{Role}
use Rattle.ecma_fits.specs.declared.strays.Arguments.{Arguments}
use Rattle.ecma_fits.specs.declared.unfit.Where.{Where}
use Rattle.ecma_fits.specs.Fitting.{at_top, where_in}
use Rattle.ecma_fits.specs.Roles.{is_assigned, is_bound_name}
use Rattle.ecma_fits.specs.Strays.{is_stray_target}
use Rattle.ecma_print_fits.specs.Laws.{ExplicitTargetsStay}
use Rattle.ecma_print_fits.proofs.Parts.{not_true}
use Rattle.ecma_print_fits.proofs.Explicit.{kind_at, spotted}
use Rattle.ecma_print_fits.proofs.Holding.{expression}
use Rattle.ecma_print_fits.proofs.Opening.{NoneClose, kinds_kept}
use Rattle.ecma_print_fits.proofs.Walking.{kept}
use Rattle.ecma_print_fits.proofs.Aiming.{Known, and_none, known_below, where_around, where_stays}

abbrev stray : Where → Node → Bool
stray w n = is_stray_target w.role w.arguments n

abbrev stray_by : Role → Arguments → Kind → List Node → Bool
stray_by r a k ns = a.stray && (is_assigned r && (is_bound_name k && of_kind (is_named (codes "arguments")) (slice_get ns 0)))

stray_made : (w : Where) (x : Node-F Node) → stray w (roll-Node x) ≡ stray_by w.role w.arguments x.kind x.children
stray_made w x = ap (λ (p : Node-F Node). stray_by w.role w.arguments p.kind p.children) (out-roll-Node x)

pub names_open : (text : List ℕ) → NoneClose (is_named text)
names_open text (kind.Ident sym ctxt optional) h = refl
names_open text _ h = not_true h

stray_here : (w : Where) (span : Span) (k : Kind) (ns : List Node) (spots : List Spot) (further : Spot) → AllFit spots → Fits further → stray w (node_of span k (spotted ns spots further)) ≡ stray w (node_of span k ns)
stray_here w span k ns spots further fit fits =
    let text = codes "arguments" in
    stray_made w (record { span = span; kind = k; children = spotted ns spots further })
    ∙ (ap (λ b. w.arguments.stray && (is_assigned w.role && (is_bound_name k && b))) (kind_at (is_named text) (kinds_kept (is_named text) refl (names_open text)) ns spots further fit fits 0)
    ∙ sym (stray_made w (record { span = span; kind = k; children = ns })))

-- what is no name is no stray
unbound : (w : Where) (x : Node-F Node) → is_bound_name x.kind ≡ false → stray w (roll-Node x) ≡ false
unbound w x h =
    stray_made w x
    ∙ (ap (λ b. w.arguments.stray && (is_assigned w.role && (b && of_kind (is_named (codes "arguments")) (slice_get x.children 0)))) h
    ∙ (ap (λ b. w.arguments.stray && b) (and_none (is_assigned w.role)) ∙ and_none w.arguments.stray))

pub targets_stay : ExplicitTargetsStay
targets_stay tree sorted roles h =
    kept Where Known stray where_in known_below where_stays
    (λ w span k ns ls spot fits p e. stray_here w span k ns (first_spots k ls spot) (further_spot k spot) (first_fit k ls spot fits) (further_fits k spot fits) ∙ e)
    (λ w n. unbound w (record { span = dummy_span; kind = kind.ParenExpr; children = n ∷ [] }) refl) where_around (λ w x n c e. unbound (where_in w (parenthesized n) 0) x (expression x.kind c).bound) tree at_top
    (record { shape = one sort.Module; shaped = sorted; role = roles; aim = refl }) h (free 0) refl

pub ruleset targets = (targets_stay)
