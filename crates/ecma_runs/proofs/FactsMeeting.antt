-- Which names may meet in small modules, by computing.
use Rattle.std.proofs.Common.{◌≡◌, ◌&&◌, refl, ap, ap₂, ◌∙◌, ℕ, nat_eq, List, [], ◌∷◌, map, Bool, true, false, cond, None, codes}
use Rattle.std.specs.List.{list_all}
use Rattle.ecma_kind.specs.declared.kind.Kind.{Kind}
use Rattle.ecma_kind.specs.declared.kind.Kind.TheVariants as kind
use Rattle.ecma_kind.specs.declared.operators.VarDeclKind.TheVariants.{Var}
use Rattle.ecma_tree.specs.declared.node.Node.{fold-roll-Node}
use Rattle.ecma_runs.specs.State.{Id}
use Rattle.ecma_runs.specs.Evaluation.{meaning_by}
use Rattle.ecma_runs.specs.Sought.{Seeker, sought_by, sought_in, seeker}
use Rattle.ecma_runs.specs.Meeting.{meets_by, Met, met_step, met}
use Rattle.ecma_runs.proofs.Seeking.{sought-roll}
use Rattle.ecma_runs.proofs.Meeting.{seekers_of}
use Rattle.ecma_runs.proofs.Trees.{Trees, End, Tree, ◌▸◌, tree, absent, list, member, call, assign, parens, whole, statement, declare_pattern, parameter, function_expression, nodes, node, meanings, meaning_node}

-- what trees mean and look up
abbrev seekers : Trees → List Seeker
seekers End = []
seekers (Tree k below beside) = record { meaning = meaning_by (node k below) k (meanings below); seeks = sought_by k (seekers below) } ∷ seekers beside

seekers_nodes : (ts : Trees) → map seeker (nodes ts) ≡ seekers ts
unfolding node
seekers_nodes End = refl
seekers_nodes (Tree k below beside) =
    let looks : sought_in (node k below) ≡ sought_by k (seekers below) =
    sought-roll (record { span = record { lo = 0; hi = 0 }; kind = k; children = nodes below }) ∙ ap (sought_by k) (seekers_nodes below) in
    ap₂ (λ l ls. l ∷ ls) (ap₂ (λ m s. record { meaning = m; seeks = s }) (meaning_node k below) looks) (seekers_nodes beside)

abbrev all_meet : (Id → Id) → Trees → Bool
all_meet to End = true
all_meet to (Tree k below beside) = (meets_by to k (seekers below) && all_meet to below) && all_meet to beside

module _ (to : Id → Id) where
  layer_meets : (k : Kind) (below : Trees) → list_all (λ p. p.meets) (map (met to) (nodes below)) ≡ all_meet to below → (met to (node k below)).meets ≡ (meets_by to k (seekers below) && all_meet to below)
  unfolding node
  layer_meets k below rest =
      ap (λ p. p.meets) (fold-roll-Node Met (met_step to) (record { span = record { lo = 0; hi = 0 }; kind = k; children = nodes below }))
      ∙ ap₂ (λ ls b. meets_by to k ls && b) (seekers_of to (nodes below) ∙ seekers_nodes below) rest

  meet_nodes : (ts : Trees) → list_all (λ p. p.meets) (map (met to) (nodes ts)) ≡ all_meet to ts
  unfolding node
  meet_nodes End = refl
  meet_nodes (Tree k below beside) = ap₂ (λ a b. a && b) (layer_meets k below (meet_nodes below)) (meet_nodes beside)

  -- the test, as it is computed
  meet_node : (k : Kind) (below : Trees) → (met to (node k below)).meets ≡ (meets_by to k (seekers below) && all_meet to below)
  meet_node k below = layer_meets k below (meet_nodes below)

-- names of two contexts become one
abbrev merged : Id → Id
merged id = record { sym = id.sym; ctxt = cond (nat_eq id.ctxt 2) 1 id.ctxt }

abbrev name : ℕ → Trees → Trees
name ctxt = tree (kind.Ident (codes "E") ctxt false) End

abbrev bound : ℕ → Trees → Trees
bound ctxt = tree kind.BindingIdent (name ctxt ▸ absent ▸ End)

-- var E1; (function (E2) { E2.A = 1; })(E1);
abbrev enum_like : (Trees → Trees) → Trees
enum_like target =
    list (declare_pattern Var (bound 1) absent ▸ statement (call (parens (function_expression absent (parameter (bound 2) ▸ End) (statement (assign target (whole 1)) ▸ End))) (name 1 ▸ End)) ▸ End) ▸ End

may_meet : (met merged (node (kind.Module None) (enum_like (member (name 2) (codes "A"))))).meets ≡ true
may_meet = meet_node merged (kind.Module None) (enum_like (member (name 2) (codes "A"))) ∙ refl

-- var E1; (function (E2) { E1.A = 1; })(E1);
is_caught : (met merged (node (kind.Module None) (enum_like (member (name 1) (codes "A"))))).meets ≡ false
is_caught = meet_node merged (kind.Module None) (enum_like (member (name 1) (codes "A"))) ∙ refl
