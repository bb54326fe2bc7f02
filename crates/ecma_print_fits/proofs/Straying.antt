-- With explicit parentheses nothing is a stray that was none.
use Rattle.std.proofs.Common.{◌≡◌, ◌∙◌, if◌then◌else◌, ℕ, suc, Bool, true, false, List, [], ◌∷◌, map, Option, None, refl, sym, ap, slice_get}
use Rattle.ecma_kind.specs.declared.span.Span.{Span}
use Rattle.ecma_kind.specs.declared.kind.Kind.{Kind}
use Rattle.ecma_kind.specs.declared.kind.Kind.TheVariants as kind
use Rattle.ecma_tree.specs.declared.node.Node.{Node, Node-F, out-Node, roll-Node}
use Rattle.ecma_tree.specs.declared.node.Node.TheViews.{out-roll-Node, roll-out-Node}
use Rattle.ecma_tree.specs.Nodes.{dummy_span, node_of}
use Rattle.ecma_rules.specs.Children.{kind_of}
use Rattle.ecma_rules.specs.Jumps.{Held, ends_jumps, held_behind, held_in, is_held_stray, is_stray_in, not_held, own_label, text_by, text_of}
use Rattle.ecma_rules.specs.Strays.{in_named, is_stray, strays_in}
use Rattle.ecma_print.specs.declared.place.Spot.{Spot}
use Rattle.ecma_print.specs.Places.{free}
use Rattle.ecma_print.specs.Levels.{in_parentheses}
use Rattle.ecma_print.specs.Explicit.{bare, laid_children, parenthesized, stood}
use Rattle.ecma_print.specs.Spots.{first_spots, further_spot}
use Rattle.ecma_print_parentheses.proofs.Standing.{stands}
use Rattle.ecma_print_parentheses.proofs.Asking.{AllFit, Fits, first_fit, further_fits}
use Rattle.ecma_print_fits.specs.Laws.{ExplicitStraysStay}
use Rattle.ecma_print_fits.proofs.Parts.{kind_made, not_true}
use Rattle.ecma_print_fits.proofs.Explicit.{spotted}
use Rattle.ecma_print_fits.proofs.Holding.{closed, closes}
use Rattle.ecma_print_fits.proofs.Walking.{AllKnown, kept}

-- labels

no_text : (k : Kind) → closes k ≡ true → text_by k ≡ None
no_text (kind.Ident text ctxt optional) h = not_true h
no_text _ h = refl

text_parts : (x : Node-F Node) (spot : Spot) → Fits spot → text_by (kind_of ((stood (roll-Node x)).at spot)) ≡ text_by x.kind
text_parts x spot fits =
    let ls = laid_children (map stood x.children) in
    ap (λ n. text_by (kind_of n)) (stands x spot) ∙ either (in_parentheses x.kind ls spot) (λ e. closed x.kind ls spot fits e)
  where
    either : (b : Bool) → (b ≡ true → closes x.kind ≡ true) → text_by (kind_of (if b then parenthesized (bare x.span x.kind (map stood x.children) (free 0)) else bare x.span x.kind (map stood x.children) spot)) ≡ text_by x.kind
    either true c = ap text_by (kind_made (record { span = dummy_span; kind = kind.ParenExpr; children = bare x.span x.kind (map stood x.children) (free 0) ∷ [] })) ∙ sym (no_text x.kind (c refl))
    either false c =
        let ls = laid_children (map stood x.children) in
        ap text_by (kind_made (record { span = x.span; kind = x.kind; children = spotted x.children (first_spots x.kind ls spot) (further_spot x.kind spot) }))

text_stays : (n : Node) (spot : Spot) → Fits spot → text_by (kind_of ((stood n).at spot)) ≡ text_by (kind_of n)
text_stays n spot fits =
    let x = out-Node n in
    ap (λ m. text_by (kind_of ((stood m).at spot))) (sym (roll-out-Node n)) ∙ text_parts x spot fits

label_stays : (ns : List Node) (spots : List Spot) (further : Spot) → AllFit spots → Fits further → text_of (slice_get (spotted ns spots further) 0) ≡ text_of (slice_get ns 0)
label_stays [] spots further fit fits = refl
label_stays (n ∷ ns) [] further fit fits = text_stays n further fits
label_stays (n ∷ ns) (spot ∷ spots) further fit fits = text_stays n spot fit.0

-- what is held

abbrev held_by : Held → Kind → Option (List ℕ) → ℕ → Held
held_by held k label i = held_behind (strays_in held.strays k i) (ends_jumps k) (own_label k label) held.labels

held_made : (held : Held) (x : Node-F Node) (i : ℕ) → held_in held (roll-Node x) i ≡ held_by held x.kind (text_of (slice_get x.children 0)) i
held_made held x i = ap (λ (p : Node-F Node). held_by held p.kind (text_of (slice_get p.children 0)) i) (out-roll-Node x)

held_stays : (held : Held) (span : Span) (k : Kind) (ns : List Node) (spots : List Spot) (further : Spot) → AllFit spots → Fits further → (i : ℕ) → held_in held (node_of span k (spotted ns spots further)) i ≡ held_in held (node_of span k ns) i
held_stays held span k ns spots further fit fits i =
    held_made held (record { span = span; kind = k; children = spotted ns spots further }) i
    ∙ (ap (λ label. held_by held k label i) (label_stays ns spots further fit fits) ∙ sym (held_made held (record { span = span; kind = k; children = ns }) i))

held_there : (held : Held) (n : Node) → held_in held (parenthesized n) 0 ≡ held
unfolding strays_in in_named ends_jumps
held_there held n = held_made held (record { span = dummy_span; kind = kind.ParenExpr; children = n ∷ [] }) 0

stray_made : (held : Held) (x : Node-F Node) → is_held_stray held (roll-Node x) ≡ is_stray_in held x.kind (text_of (slice_get x.children 0))
stray_made held x = ap (λ (p : Node-F Node). is_stray_in held p.kind (text_of (slice_get p.children 0))) (out-roll-Node x)

stray_here : (held : Held) (span : Span) (k : Kind) (ns : List Node) (spots : List Spot) (further : Spot) → AllFit spots → Fits further → is_held_stray held (node_of span k (spotted ns spots further)) ≡ is_held_stray held (node_of span k ns)
stray_here held span k ns spots further fit fits =
    stray_made held (record { span = span; kind = k; children = spotted ns spots further })
    ∙ (ap (is_stray_in held k) (label_stays ns spots further fit fits) ∙ sym (stray_made held (record { span = span; kind = k; children = ns })))

never_stray : (held : Held) (n : Node) → is_held_stray held (parenthesized n) ≡ false
unfolding is_stray_in is_stray
never_stray held n = stray_made held (record { span = dummy_span; kind = kind.ParenExpr; children = n ∷ [] })

abbrev Anything : Held → Node → Type 0
Anything held n = Unit {0}

all_anything : (held_of : ℕ → Held) (ns : List Node) → AllKnown Held Anything held_of ns
all_anything held_of [] = tt
all_anything held_of (n ∷ ns) = (tt, all_anything (λ i. held_of (suc i)) ns)

pub strays_stay : ExplicitStraysStay
strays_stay tree h =
    kept Held Anything is_held_stray held_in (λ held x p. all_anything (held_in held (roll-Node x)) x.children) held_stays
    (λ held span k ns ls spot fits p e. stray_here held span k ns (first_spots k ls spot) (further_spot k spot) (first_fit k ls spot fits) (further_fits k spot fits) ∙ e) never_stray
    (λ held x n c p i. ap (λ z. held_in z (roll-Node x) i) (held_there held n)) (λ held x n c e. ap (λ z. is_held_stray z (roll-Node x)) (held_there held n) ∙ e) tree not_held tt h (free 0) refl

pub ruleset strays = (strays_stay)
