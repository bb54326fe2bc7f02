-- Functions are as usual with explicit parentheses where they were.
use Rattle.std.proofs.Common.{◌≡◌, ◌∙◌, refl, sym, ap, ap₂, subst, Bool, true, false, ◌||◌, if◌then◌else◌, List, [], ◌∷◌, map}
use Rattle.ecma_kind.specs.declared.kind.Kind.{Kind}
use Rattle.ecma_kind.specs.declared.kind.Kind.TheVariants as kind
use Rattle.ecma_tree.specs.declared.node.Node.{Node, Node-F, fold-roll-Node, ind-Node, roll-Node}
use Rattle.ecma_tree.specs.Nodes.{dummy_span}
use Rattle.ecma_tree.specs.Sorted.{is_absent}
use Rattle.ecma_print.specs.declared.place.Spot.{Spot}
use Rattle.ecma_print.specs.Places.{free}
use Rattle.ecma_print.specs.Levels.{in_parentheses}
use Rattle.ecma_print.specs.Explicit.{bare, explicit, in_spots, laid_children, parenthesized, stood}
use Rattle.ecma_print.specs.Spots.{first_spots, further_spot}
use Rattle.ecma_print_parentheses.proofs.Asking.{AllFit, Fits, first_fit, further_fits}
use Rattle.ecma_print_parentheses.proofs.Sorting.{closed_is_misreadable, is_misreadable}
use Rattle.ecma_print_parentheses.proofs.Standing.{stands}
use Rattle.ecma_plain.specs.Functions.{Functions, functions, functions_step, is_this_name}

-- what stands in parentheses is something, and no name
something : (k : Kind) → is_misreadable k ≡ true → is_absent k ≡ false
something kind.Absent h = cc
something k h = refl

no_name : (k : Kind) → is_misreadable k ≡ true → is_this_name k ≡ false
no_name (kind.Ident sym ctxt optional) h = cc
no_name k h = refl

or_false : (b : Bool) → (b || false) ≡ b
or_false true = refl
or_false false = refl

abbrev Kept : Node → Type 0
Kept n = (spot : Spot) → Fits spot → functions ((stood n).at spot) ≡ functions n

abbrev AllKept : List Node → Type 0
AllKept ns = (spots : List Spot) (further : Spot) → AllFit spots → Fits further → map functions (in_spots (map stood ns) spots further) ≡ map functions ns

all_kept : (es : List ((n : Node) × Kept n)) → AllKept (map (λ e. e.0) es)
all_kept [] spots further fit fits = refl
all_kept (e ∷ es) [] further fit fits = ap₂ (λ a rest. a ∷ rest) (e.1 further fits) (all_kept es [] further fit fits)
all_kept (e ∷ es) (spot ∷ spots) further fit fits = ap₂ (λ a rest. a ∷ rest) (e.1 spot fit.0) (all_kept es spots further fit.1 fits)

made : (x : Node-F Node) → functions (roll-Node x) ≡ functions_step (record { span = x.span; kind = x.kind; children = map functions x.children })
made x = fold-roll-Node Functions functions_step x

module _ (x : Node-F Node) (below : AllKept x.children) where
  bare_kept : (spot : Spot) → Fits spot → functions (bare x.span x.kind (map stood x.children) spot) ≡ functions (roll-Node x)
  bare_kept spot fits =
      let ls = laid_children (map stood x.children) in
      let spots = first_spots x.kind ls spot in
      let further = further_spot x.kind spot in
      let y : Node-F Node = record { span = x.span; kind = x.kind; children = in_spots (map stood x.children) spots further } in
      made y ∙ ap (λ z. functions_step (record { span = x.span; kind = x.kind; children = z })) (below spots further (first_fit x.kind ls spot fits) (further_fits x.kind spot fits)) ∙ sym (made x)

  closed_kept : is_misreadable x.kind ≡ true → functions (parenthesized (bare x.span x.kind (map stood x.children) (free 0))) ≡ functions (roll-Node x)
  closed_kept h =
      let inner = bare x.span x.kind (map stood x.children) (free 0) in
      let f : Functions = functions (roll-Node x) in
      let missing : f.is_missing ≡ false = ap (λ m. m.is_missing) (made x) ∙ something x.kind h in
      let named : f.is_this ≡ false = ap (λ m. m.is_this) (made x) ∙ no_name x.kind h in
      made (record { span = dummy_span; kind = kind.ParenExpr; children = inner ∷ [] })
      ∙ ap (λ m. record { is_missing = false; is_this = false; has_unusual = (m.has_unusual || false) || false }) (bare_kept (free 0) refl)
      ∙ same f missing named
    where
      told : Bool → Bool → Bool → Functions
      told missing this unusual = record { is_missing = missing; is_this = this; has_unusual = unusual }

      same : (f : Functions) → f.is_missing ≡ false → f.is_this ≡ false → told false false ((f.has_unusual || false) || false) ≡ f
      same f m t =
          ap (told false false) (or_false (f.has_unusual || false) ∙ or_false f.has_unusual)
          ∙ (ap (λ z. told z false f.has_unusual) (sym m) ∙ ap (λ z. told f.is_missing z f.has_unusual) (sym t))

  either_kept : (b : Bool) (spot : Spot) → Fits spot → (b ≡ true → is_misreadable x.kind ≡ true)
      → functions (if b then parenthesized (bare x.span x.kind (map stood x.children) (free 0)) else bare x.span x.kind (map stood x.children) spot) ≡ functions (roll-Node x)
  either_kept true spot fits h = closed_kept (h refl)
  either_kept false spot fits h = bare_kept spot fits

node_kept : (x : Node-F Node) → AllKept x.children → Kept (roll-Node x)
node_kept x below spot fits =
    let ls = laid_children (map stood x.children) in
    ap functions (stands x spot) ∙ either_kept x below (in_parentheses x.kind ls spot) spot fits (λ e. closed_is_misreadable x.kind ls spot fits e)

kept : (n : Node) → Kept n
kept = ind-Node Kept (λ x y is. node_kept x (subst (λ (z : Node-F Node). AllKept z.children) is (all_kept y.children)))

pub functions_stay : (tree : Node) → functions (explicit tree) ≡ functions tree
functions_stay tree = kept tree (free 0) refl
