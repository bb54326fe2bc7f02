-- The equation of what holds throughout a tree.
use Rattle.std.proofs.Common.{◌≡◌, refl, sym, ap, ap₂, ◌∙◌, List, [], ◌∷◌, map, Bool, true, ◌&&◌}
use Rattle.std.specs.List.{list_all}
use Rattle.std.proofs.lemmas.Bool.{and_parts}
use Rattle.ecma_kind.specs.declared.kind.Kind.{Kind}
use Rattle.ecma_tree.specs.declared.node.Node.{Node, Node-F, fold-Node, fold-roll-Node, roll-Node, ind-Node}
use Rattle.ecma_tree.specs.Nodes.{node_of}
use Rattle.ecma_strip_runs.specs.UsualBodies.{Told, told_step, holds_throughout, declares_no_body, lists_no_receiver, has_usual_bodies, has_no_arrow_receivers}

module _ (test : Kind → List Node → Bool) where
  abbrev told : Node → Told
  told = fold-Node Told (told_step test)

  itself_all : (ns : List ((n : Node) × ((told n).node ≡ n))) → map (λ b. b.node) (map told (map (λ e. e.0) ns)) ≡ map (λ e. e.0) ns
  itself_all [] = refl
  itself_all (n ∷ ns) = ap₂ (λ a rest. a ∷ rest) n.1 (itself_all ns)

  itself : (n : Node) → (told n).node ≡ n
  itself = ind-Node (λ n. (told n).node ≡ n) (λ x y is.
      ap (λ b. b.node) (fold-roll-Node Told (told_step test) x)
      ∙ ap (λ children. node_of x.span x.kind children)
      (ap (λ z. map (λ b. b.node) (map told z.children)) (sym is) ∙ (itself_all y.children ∙ ap (λ z. z.children) is)))

  nodes_told : (ns : List Node) → map (λ b. b.node) (map told ns) ≡ ns
  nodes_told [] = refl
  nodes_told (n ∷ ns) = ap₂ (λ a rest. a ∷ rest) (itself n) (nodes_told ns)

  all_told : (ns : List Node) → list_all (λ b. b.holds) (map told ns) ≡ list_all (holds_throughout test) ns
  all_told [] = refl
  all_told (n ∷ ns) = ap (λ b. holds_throughout test n && b) (all_told ns)

  pub holds-roll : (x : Node-F Node) → holds_throughout test (roll-Node x) ≡ (test x.kind x.children && list_all (holds_throughout test) x.children)
  holds-roll x = ap (λ b. b.holds) (fold-roll-Node Told (told_step test) x) ∙ ap₂ (λ ns b. test x.kind ns && b) (nodes_told x.children) (all_told x.children)

-- both together
abbrev pub is_usual : Node → Bool
is_usual n = has_usual_bodies n && has_no_arrow_receivers n

both_all : (ns : List Node) → list_all has_usual_bodies ns ≡ true → list_all has_no_arrow_receivers ns ≡ true → list_all is_usual ns ≡ true
both_all [] a b = refl
both_all (n ∷ ns) a b =
    let x = and_parts (has_usual_bodies n) (list_all has_usual_bodies ns) a in
    let y = and_parts (has_no_arrow_receivers n) (list_all has_no_arrow_receivers ns) b in
    rw (x.0, y.0, both_all ns x.1 y.1) refl

pub usual_parts : (x : Node-F Node) → is_usual (roll-Node x) ≡ true → (list_all is_usual x.children ≡ true) × (declares_no_body x.kind x.children ≡ true) × (lists_no_receiver x.kind x.children ≡ true)
usual_parts x h =
    let both = and_parts (has_usual_bodies (roll-Node x)) (has_no_arrow_receivers (roll-Node x)) h in
    let a = and_parts (declares_no_body x.kind x.children) (list_all has_usual_bodies x.children) (sym (holds-roll declares_no_body x) ∙ both.0) in
    let b = and_parts (lists_no_receiver x.kind x.children) (list_all has_no_arrow_receivers x.children) (sym (holds-roll lists_no_receiver x) ∙ both.1) in
    (both_all x.children a.1 b.1, a.0, b.0)
