-- Functions are usual where neither of two tests holds anywhere.
use Rattle.std.proofs.Common.{◌≡◌, ◌∙◌, false, ◌||◌, Bool, List, [], ◌∷◌, map, refl, sym, ap, subst}
use Rattle.std.specs.List.{list_any}
use Rattle.ecma_tree.specs.declared.node.Node.{Node, Node-F, fold_out-Node, ind-Node, out-Node, roll-Node}
use Rattle.ecma_tree.specs.declared.node.Node.TheViews.{out-roll-Node}
use Rattle.ecma_text_plain.specs.Laws.{FunctionsAreUsualByTests}
use Rattle.ecma_text_plain.specs.Functions.{children_told, has_this_parameter, holds_somewhere, is_bodiless}
use Rattle.ecma_plain.specs.Functions.{Functions, any_unusual, functions, functions_step}
use Rattle.ecma_tree.proofs.Layers.{from_leaves_out}
use Rattle.ecma_fits.proofs.Walks.{neither}

pub somewhere_out : (test : Node → Bool) (n : Node) → holds_somewhere test n ≡ (test n || list_any (λ b. b) (map (holds_somewhere test) (out-Node n).children))
somewhere_out test n = from_leaves_out Bool (λ node found. test node || list_any (λ b. b) found) n

-- it holds of no node here, and of none below
module _ (test : Node → Bool) (n : Node) (h : holds_somewhere test n ≡ false) where
  pub nowhere : (test n ≡ false) × (list_any (λ b. b) (map (holds_somewhere test) (out-Node n).children) ≡ false)
  nowhere = neither (test n) (list_any (λ b. b) (map (holds_somewhere test) (out-Node n).children)) (sym (somewhere_out test n) ∙ h)

abbrev IsUsual : Node → Type 0
IsUsual n = holds_somewhere is_bodiless n ≡ false → holds_somewhere has_this_parameter n ≡ false → (functions n).has_unusual ≡ false

abbrev Nowhere : (Node → Bool) → List Node → Type 0
Nowhere test ns = list_any (λ b. b) (map (holds_somewhere test) ns) ≡ false

abbrev AreUsual : List Node → Type 0
AreUsual ns = Nowhere is_bodiless ns → Nowhere has_this_parameter ns → any_unusual (map functions ns) ≡ false

all_usual : (es : List ((n : Node) × IsUsual n)) → AreUsual (map (λ e. e.0) es)
all_usual [] a b = refl
all_usual (e ∷ es) a b =
    let ns = map (λ e. e.0) es in
    let p = neither (holds_somewhere is_bodiless e.0) (list_any (λ b. b) (map (holds_somewhere is_bodiless) ns)) a in
    let q = neither (holds_somewhere has_this_parameter e.0) (list_any (λ b. b) (map (holds_somewhere has_this_parameter) ns)) b in
    let here = e.1 p.0 q.0 in
    let behind = all_usual es p.1 q.1 in
    rw (here, behind) refl

three_false : (a b c : Bool) → a ≡ false → b ≡ false → c ≡ false → (a || (b || c)) ≡ false
three_false a b c e f g = rw (e, f, g) refl

layer_usual : (n : Node) → AreUsual (out-Node n).children → IsUsual n
layer_usual n below a b =
    let p = nowhere is_bodiless n a in
    let q = nowhere has_this_parameter n b in
    ap (λ (f : Functions). f.has_unusual) (fold_out-Node Functions functions_step n)
    ∙ three_false (any_unusual (children_told n)) (is_bodiless n) (has_this_parameter n) (below p.1 q.1) p.0 q.0

pub usual_by_tests : FunctionsAreUsualByTests
usual_by_tests = ind-Node IsUsual (λ x y is.
    layer_usual (roll-Node x) (subst AreUsual (ap (λ (z : Node-F Node). z.children) is ∙ sym (ap (λ (z : Node-F Node). z.children) (out-roll-Node x))) (all_usual y.children)))

pub ruleset usual = (usual_by_tests)
