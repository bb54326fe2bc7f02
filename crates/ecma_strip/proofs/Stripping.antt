-- The equation of `stripped`: a list loses what goes, its items and the children of all else are stripped, and then the node is made plain.
use Rattle.std.proofs.Common.{◌≡◌, ◌∙◌, ℕ, Bool, true, false, cond, refl, sym, ap, ap₂, List, [], ◌∷◌, map, filter, length, Some, slice_get}
use Rattle.item_list.proofs.Walking.{front_mapped-all, front_mapped-at}
use Rattle.ecma_kind.specs.declared.kind.Kind.{Kind}
use Rattle.ecma_kind.specs.declared.kind.Kind.TheVariants as kind
use Rattle.ecma_tree.specs.Nodes.{node_of}
use Rattle.ecma_tree.specs.declared.node.Node.{Node, Node-F, fold-Node, fold-roll-Node, ind-Node, out-Node, roll-Node}
use Rattle.ecma_tree.specs.declared.node.Node.TheViews.{out-roll-Node, roll-out-Node}
use Rattle.ecma_tree.proofs.Fronts.{front, front-out}
use Rattle.ecma_strip.specs.Staying.{stays}
use Rattle.ecma_strip.specs.Stripping.{Both, plain, staying, staying_nodes, strip_step, stripped}

itself_all : (ns : List ((n : Node) × ((fold-Node Both strip_step n).node ≡ n)))
    → map (λ b. b.node) (map (fold-Node Both strip_step) (map (λ e. e.0) ns)) ≡ map (λ e. e.0) ns
itself_all [] = refl
itself_all (n ∷ ns) = ap₂ (λ a rest. a ∷ rest) n.1 (itself_all ns)

-- the node stands beside what is made of it
itself : (n : Node) → (fold-Node Both strip_step n).node ≡ n
itself = ind-Node (λ n. (fold-Node Both strip_step n).node ≡ n) (λ x y is.
    ap (λ b. b.node) (fold-roll-Node Both strip_step x)
    ∙ ap (λ children. node_of x.span x.kind children)
    (ap (λ z. map (λ b. b.node) (map (fold-Node Both strip_step) z.children)) (sym is) ∙ (itself_all y.children ∙ ap (λ z. z.children) is)))

chosen : (keeps : Bool) (b : Both) (n : Node) (bs : List Both) (ns : List Node) → b.stripped ≡ stripped n → map (λ b. b.stripped) bs ≡ map stripped ns
    → map (λ b. b.stripped) (cond keeps (b ∷ bs) bs) ≡ map stripped (cond keeps (n ∷ ns) ns)
chosen true b n bs ns first rest = ap₂ (λ x xs. x ∷ xs) first rest
chosen false b n bs ns first rest = rest

kept : (ns : List Node) → map (λ b. b.stripped) (filter (λ b. stays b.node) (map (fold-Node Both strip_step) ns)) ≡ map stripped (filter stays ns)
kept [] = refl
kept (n ∷ ns) =
    let others = filter (λ (b : Both). stays b.node) (map (fold-Node Both strip_step) ns) in
    ap (λ z. map (λ (b : Both). b.stripped) (cond (stays z) (fold-Node Both strip_step n ∷ others) others)) (itself n)
    ∙ chosen (stays n) (fold-Node Both strip_step n) n others (filter stays ns) refl (kept ns)

all_stripped : (ns : List Node) → map (λ b. b.stripped) (map (fold-Node Both strip_step) ns) ≡ map stripped ns
all_stripped [] = refl
all_stripped (n ∷ ns) = ap (λ rest. stripped n ∷ rest) (all_stripped ns)

staying-stripped : (k : Kind) (ns : List Node) → map (λ b. b.stripped) (staying k (map (fold-Node Both strip_step) ns)) ≡ map stripped (staying_nodes k ns)
staying-stripped kind.List ns = kept ns
staying-stripped _ ns = all_stripped ns

pub stripped-roll : (x : Node-F Node) → stripped (roll-Node x) ≡ plain x.span x.kind (map stripped (staying_nodes x.kind x.children))
stripped-roll x = ap (λ b. b.stripped) (fold-roll-Node Both strip_step x) ∙ ap (plain x.span x.kind) (staying-stripped x.kind x.children)

pub stripped-out : (n : Node) → stripped n ≡ plain (out-Node n).span (out-Node n).kind (map stripped (staying_nodes (out-Node n).kind (out-Node n).children))
stripped-out n = ap stripped (sym (roll-out-Node n)) ∙ stripped-roll (out-Node n)

-- what is left of a node once its list has lost what goes
abbrev left_parts : Node → Node-F Node
left_parts n = record { span = (out-Node n).span; kind = (out-Node n).kind; children = staying_nodes (out-Node n).kind (out-Node n).children }

module _ (n p m : Node) (i : ℕ) (dropped : p ≡ roll-Node (left_parts n)) (so_far : m ≡ front stripped (λ span. span) (λ kind. kind) p i) where
  left : out-Node p ≡ left_parts n
  left = ap out-Node dropped ∙ out-roll-Node (left_parts n)

  -- with all that is left stripped, the node that is made plain is the node stripped
  pub stripped-all : length (out-Node p).children ≡ i → plain (out-Node m).span (out-Node m).kind (out-Node m).children ≡ stripped n
  stripped-all all =
      ap (λ z. plain z.span z.kind z.children) (front-out stripped (λ span. span) (λ kind. kind) p m i so_far)
      ∙ ap (plain (out-Node p).span (out-Node p).kind) (front_mapped-all stripped (out-Node p).children i all)
      ∙ ap (λ z. plain z.span z.kind (map stripped z.children)) left
      ∙ sym (stripped-out n)

  -- the next item that is left is one of the node's own
  pub left-at : (x : Node) → slice_get (out-Node m).children i ≡ Some x → slice_get (staying_nodes (out-Node n).kind (out-Node n).children) i ≡ Some x
  left-at x at =
      ap (λ z. slice_get z.children i) (sym left)
      ∙ front_mapped-at stripped (out-Node p).children i x (ap (λ z. slice_get z.children i) (sym (front-out stripped (λ span. span) (λ kind. kind) p m i so_far)) ∙ at)
