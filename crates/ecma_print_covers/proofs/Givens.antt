-- What is given of a node in its spot, and so of its children.
use Rattle.std.proofs.Common.{◌≡◌, ◌∙◌, refl, sym, ap, subst, ℕ, suc, not, ◌&&◌, Bool, true, false, List, [], ◌∷◌, map, length}
use Rattle.std.specs.List.{list_all}
use Rattle.ecma_kind.specs.declared.kind.Kind.{Kind}
use Rattle.ecma_kind.specs.declared.kind.Kind.TheVariants as kind
use Rattle.ecma_kind.specs.declared.span.Span.{Span}
use Rattle.ecma_kind.specs.declared.shapes.Shape.{Shape}
use Rattle.ecma_kind.specs.declared.shapes.Sort.{Sort}
use Rattle.ecma_tree.specs.declared.node.Node.{Node, out-Node}
use Rattle.ecma_tree.specs.declared.node.Node.TheViews.{roll-out-Node}
use Rattle.ecma_tree.specs.Laws.{HaveShapes}
use Rattle.ecma_tree.specs.Nodes.{node_of}
use Rattle.ecma_tree.specs.Sorted.{HasShape, child_shapes, is_list, many}
use Rattle.ecma_tree.proofs.ShapeLaws.{node_has_shape}
use Rattle.ecma_print.specs.declared.place.Spot.{Spot}
use Rattle.ecma_print.specs.Layout.{laid}
use Rattle.ecma_print.specs.Levels.{in_parentheses}
use Rattle.ecma_print.proofs.LaidOut.{laid_kind}
use Rattle.ecma_print_parentheses.specs.Lacking.{all_complete, complete}
use Rattle.ecma_print.specs.Spots.{first_spots, further_spot}
use Rattle.ecma_print_parentheses.proofs.Asking.{AllFit, Fits, first_fit, further_fits}
use Rattle.ecma_print_parentheses.proofs.Lacks.{complete_in}
use Rattle.ecma_rules.specs.declared.target.Target.{Target}
use Rattle.ecma_print_covers.specs.Defaults.{has_usual_default, has_usual_defaults, usual_step}
use Rattle.ecma_print_covers.proofs.Pairs.{TemplateHasLists}
use Rattle.ecma_print_covers.proofs.Seats.{AllSeated, Seated}
use Rattle.ecma_tree.proofs.Layers.{from_leaves-roll}

pub record Given (t : Target) (spot : Spot) (n : Node) : Type 0 where
  pub fits : Fits spot
  pub complete : (complete n).at spot ≡ true
  pub shape : Shape
  pub shaped : HasShape shape n
  pub usual : has_usual_defaults n ≡ true
  pub seated : Seated t spot n

-- each in its spot: the first ones in these, all others in this one
abbrev pub AllGiven : (ℕ → Target) → List Node → List Spot → Spot → Type 0
AllGiven asked [] spots further = Unit {0}
AllGiven asked (n ∷ ns) [] further = Given (asked 0) further n × AllGiven (λ i. asked (suc i)) ns [] further
AllGiven asked (n ∷ ns) (spot ∷ spots) further = Given (asked 0) spot n × AllGiven (λ i. asked (suc i)) ns spots further

pub and_parts : (a b : Bool) → (a && b) ≡ true → (a ≡ true) × (b ≡ true)
and_parts true b h = (refl, h)
and_parts false b h = cc

not_true : (b : Bool) → not b ≡ true → b ≡ false
not_true true h = cc
not_true false h = refl

all_given : (asked : ℕ → Target) (ns : List Node) (spots : List Spot) (further : Spot) → AllFit spots → Fits further → all_complete (map complete ns) spots further ≡ true → (shapes : List Shape) → HaveShapes shapes ns
    → list_all (λ b. b) (map has_usual_defaults ns) ≡ true → AllSeated asked ns spots further → AllGiven asked ns spots further
all_given asked [] spots further fit fits whole shapes shaped usual seated = tt
all_given asked (n ∷ ns) [] further fit fits whole [] shaped usual seated = absurd shaped
all_given asked (n ∷ ns) [] further fit fits whole (shape ∷ shapes) shaped usual seated =
    let w = and_parts ((complete n).at further) (all_complete (map complete ns) [] further) whole in
    let u = and_parts (has_usual_defaults n) (list_all (λ b. b) (map has_usual_defaults ns)) usual in
    (record { fits = fits; complete = w.0; shape = shape; shaped = shaped.0; usual = u.0; seated = seated.0 }, all_given (λ i. asked (suc i)) ns [] further fit fits w.1 shapes shaped.1 u.1 seated.1)
all_given asked (n ∷ ns) (spot ∷ spots) further fit fits whole [] shaped usual seated = absurd shaped
all_given asked (n ∷ ns) (spot ∷ spots) further fit fits whole (shape ∷ shapes) shaped usual seated =
    let w = and_parts ((complete n).at spot) (all_complete (map complete ns) spots further) whole in
    let u = and_parts (has_usual_defaults n) (list_all (λ b. b) (map has_usual_defaults ns)) usual in
    (record { fits = fit.0; complete = w.0; shape = shape; shaped = shaped.0; usual = u.0; seated = seated.0 }, all_given (λ i. asked (suc i)) ns spots further fit.1 fits w.1 shapes shaped.1 u.1 seated.1)

module _ (t : Target) (spot : Spot) (at : Span) (k : Kind) (ns : List Node) (g : Given t spot (node_of at k ns)) where
  complete_parts : (not (in_parentheses k (map laid ns) spot) ≡ true) × (all_complete (map complete ns) (first_spots k (map laid ns) spot) (further_spot k spot) ≡ true)
  complete_parts = and_parts (not (in_parentheses k (map laid ns) spot)) (all_complete (map complete ns) (first_spots k (map laid ns) spot) (further_spot k spot)) (sym (complete_in at k ns spot) ∙ g.complete)

  usual_parts : (has_usual_default (node_of at k ns) ≡ true) × (list_all (λ b. b) (map has_usual_defaults ns) ≡ true)
  usual_parts =
      and_parts (has_usual_default (node_of at k ns)) (list_all (λ b. b) (map has_usual_defaults ns))
      (sym (from_leaves-roll Bool usual_step (record { span = at; kind = k; children = ns })) ∙ g.usual)

  pub stands_bare : in_parentheses k (map laid ns) spot ≡ false
  stands_bare = not_true (in_parentheses k (map laid ns) spot) complete_parts.0

  pub is_usual : has_usual_default (node_of at k ns) ≡ true
  is_usual = usual_parts.0

  pub has_shapes : HaveShapes (child_shapes k g.shape (length ns)) ns
  has_shapes = ((node_has_shape at k ns g.shape).0 g.shaped).1

  pub children_given : (asked : ℕ → Target) → AllSeated asked ns (first_spots k (map laid ns) spot) (further_spot k spot) → AllGiven asked ns (first_spots k (map laid ns) spot) (further_spot k spot)
  children_given asked seated =
      all_given asked ns (first_spots k (map laid ns) spot) (further_spot k spot) (first_fit k (map laid ns) spot g.fits) (further_fits k spot g.fits) complete_parts.1 (child_shapes k g.shape (length ns)) has_shapes usual_parts.1 seated

list_has_list_kind : (sort : Sort) (at : Span) (k : Kind) (ns : List Node) → HasShape (many sort) (node_of at k ns) → is_list k ≡ true
list_has_list_kind sort at k ns h = ((node_has_shape at k ns (many sort)).0 h).0

list_kind_of : (sort : Sort) (n : Node) → HasShape (many sort) n → is_list (laid n).kind ≡ true
list_kind_of sort n h =
    ap is_list (laid_kind n) ∙ list_has_list_kind sort (out-Node n).span (out-Node n).kind (out-Node n).children (subst (HasShape (many sort)) (sym (roll-out-Node n)) h)

pub template_has_lists : (k : Kind) (ns : List Node) (shape : Shape) → HaveShapes (child_shapes k shape (length ns)) ns → TemplateHasLists k ns
template_has_lists kind.Tpl (a ∷ b ∷ []) shape h = (list_kind_of _ a h.0, list_kind_of _ b h.1.0)
template_has_lists _ ns shape h = tt
