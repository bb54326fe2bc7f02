-- Parentheses do not matter to whether enums stand in a tree.
use Rattle.std.proofs.Common.{◌≡◌, refl, sym, ap, ap₂, ◌∙◌, ◌&&◌, List, [], ◌∷◌, map, Bool, true, false, cond, not}
use Rattle.std.specs.List.{list_all}
use Rattle.ecma_kind.specs.declared.kind.Kind.{Kind}
use Rattle.ecma_kind.specs.declared.kind.Kind.TheVariants as kind
use Rattle.ecma_kind.specs.declared.shapes.Shape.{Shape}
use Rattle.ecma_tree.specs.declared.node.Node.{Node, Node-F, fold-roll-Node, ind-Node, roll-Node}
use Rattle.ecma_tree.specs.Rewritten.{rewritten}
use Rattle.ecma_tree.specs.Sorted.{HasShape}
use Rattle.ecma_runs.specs.Enums.{is_enum, lacks_enums}
use Rattle.ecma_runs.specs.Wrappers.{is_chain, without_parentheses}
use Rattle.ecma_runs.specs.Wrappers as runs
use Rattle.ecma_runs.proofs.EnumTrees.{Lacks, lacks-roll}
use Rattle.ecma_print.specs.Explicit.{explicit, without_parens}
use Rattle.ecma_print.specs.Explicit as print
use Rattle.ecma_print_parentheses.proofs.Adding.{only_parentheses_are_added}
use Rattle.ecma_print_parentheses.proofs.Chains.{ended}
use Rattle.ecma_print_parentheses.proofs.Ending.{explicit_agrees}

-- a rewriting by which a layer has enums where it had some

module _ (rule : Node-F Node → Node) (same : (x : Node-F Node) → lacks_enums (rule x) ≡ lacks_enums (roll-Node x)) where
  abbrev LacksSame : Node → Type 0
  LacksSame n = lacks_enums (rewritten rule n) ≡ lacks_enums n

  all_lack_same : (ns : List ((n : Node) × LacksSame n)) → map lacks_enums (map (rewritten rule) (map (λ e. e.0) ns)) ≡ map lacks_enums (map (λ e. e.0) ns)
  all_lack_same [] = refl
  all_lack_same (n ∷ ns) = ap₂ (λ a b. a ∷ b) n.1 (all_lack_same ns)

  rewritten_lacks_same : (n : Node) → LacksSame n
  rewritten_lacks_same = ind-Node LacksSame (λ x y is.
      let cs : List Node = x.children in
      let inner : Node-F Node = record { span = x.span; kind = x.kind; children = map (rewritten rule) cs } in
      let below : map lacks_enums (map (rewritten rule) cs) ≡ map lacks_enums cs =
      ap (λ z. map lacks_enums (map (rewritten rule) z.children)) (sym is) ∙ (all_lack_same y.children ∙ ap (λ z. map lacks_enums z.children) is) in
      ap lacks_enums (fold-roll-Node Node rule x) ∙ (same inner ∙ (lacks-roll inner
      ∙ (ap (λ bs. not (is_enum x.kind) && list_all (λ b. b) bs) below ∙ sym (lacks-roll x)))))

-- parentheses

and_true : (b : Bool) → b && true ≡ b
and_true true = refl
and_true false = refl

inside_lacks : (x : Node-F Node) (e : Node) → x.kind ≡ kind.ParenExpr → x.children ≡ e ∷ [] → lacks_enums (roll-Node x) ≡ lacks_enums e
inside_lacks x e is are = lacks-roll x ∙ (ap₂ (λ z ns. not (is_enum z) && list_all (λ b. b) (map lacks_enums ns)) is are ∙ and_true (lacks_enums e))

either_lacks : (b : Bool) (n m : Node) → lacks_enums n ≡ lacks_enums m → lacks_enums (cond b n m) ≡ lacks_enums n
either_lacks true n m h = refl
either_lacks false n m h = sym h

opened_same : (x : Node-F Node) (k : Kind) (cs : List Node) → x.kind ≡ k → x.children ≡ cs → lacks_enums (runs.opened_by k cs x) ≡ lacks_enums (roll-Node x)
opened_same x kind.ParenExpr (e ∷ []) is are = either_lacks (is_chain e) (roll-Node x) e (inside_lacks x e is are)
opened_same x k cs is are = refl

all_opened_same : (x : Node-F Node) (k : Kind) (cs : List Node) → x.kind ≡ k → x.children ≡ cs → lacks_enums (print.opened_by k cs x) ≡ lacks_enums (roll-Node x)
all_opened_same x kind.ParenExpr (e ∷ []) is are = sym (inside_lacks x e is are)
all_opened_same x k cs is are = refl

ending_ones : (n : Node) → lacks_enums (without_parentheses n) ≡ lacks_enums n
ending_ones = rewritten_lacks_same runs.opened (λ x. opened_same x x.kind x.children refl refl)

all_ones : (n : Node) → lacks_enums (without_parens n) ≡ lacks_enums n
all_ones = rewritten_lacks_same print.opened (λ x. all_opened_same x x.kind x.children refl refl)

-- so it is with explicit ones, and with those at the ends of chains

explicit_same : (m : Node) → lacks_enums (explicit m) ≡ lacks_enums m
explicit_same m = sym (all_ones (explicit m)) ∙ (ap lacks_enums (only_parentheses_are_added m) ∙ all_ones m)

pub explicit_lacks : (m : Node) → Lacks m → Lacks (explicit m)
explicit_lacks m h = explicit_same m ∙ h

pub ended_lacks : (m : Node) (shape : Shape) → HasShape shape m → Lacks m → Lacks (ended m)
ended_lacks m shape h lacks =
    sym (ending_ones (ended m)) ∙ (ap lacks_enums (sym (explicit_agrees m shape h)) ∙ (ending_ones (explicit m) ∙ explicit_lacks m lacks))
