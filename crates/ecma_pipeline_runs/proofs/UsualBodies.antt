-- In a tree that keeps the context rules, the body of no statement is a declaration.
use Rattle.std.proofs.Common.{◌≡◌, ℕ, suc, Bool, true, ◌&&◌, ◌||◌, not, List, [], ◌∷◌, None, Some, refl, sym, ap, ◌∙◌, slice_get}
use Rattle.std.specs.List.{list_all}
use Rattle.ecma_kind.specs.declared.kind.Kind.{Kind}
use Rattle.ecma_kind.specs.declared.kind.Kind.TheVariants as kind
use Rattle.ecma_tree.specs.declared.node.Node.{Node, out-Node}
use Rattle.ecma_rules.specs.declared.standing.Standing.{Standing}
use Rattle.ecma_rules.specs.declared.standing.Standing.TheVariants as standing
use Rattle.ecma_rules.specs.Children.{has_child}
use Rattle.ecma_rules.specs.Rules.{fails_list, fails_member, fails_statement}
use Rattle.ecma_rules.specs.Statements.{is_declared_body, is_quoted_local}
use Rattle.ecma_rules.specs.Surroundings.{standing_by}
use Rattle.ecma_fits.specs.declared.unfit.Where.{Where}
use Rattle.ecma_fits.specs.Fitting.{first_unfit_in, where_in}
use Rattle.ecma_strip_runs.specs.UsualBodies.{declares_no_body, has_usual_bodies, is_declaration}
use Rattle.ecma_hygiene.proofs.Telling.{and-both}
use Rattle.ecma_pipeline_runs.proofs.Keeping.{Fits, KeepsRules, what-fits-keeps-rules}
use Rattle.ecma_pipeline_runs.proofs.Nodes.{by-children, holds-out, neither}

module _ (Good : Node → Where → Type 0) (keeps : KeepsRules Good) where
  -- what keeps the rules as a body is no declaration
  body-told : (w : Where) (n : Node) → w.around.standing ≡ standing.Body → Good n w → not (is_declaration n) ≡ true
  body-told w n is good =
      let statement = (neither (fails_member w.around n) (fails_statement w.around n) (neither (fails_list w.around n) (fails_member w.around n || fails_statement w.around n) (keeps.rule n w good)).1).1 in
      let declared = (neither (is_quoted_local w.around.standing n) (is_declared_body w.around.standing n) statement).1 in
      ap not (sym (ap (λ s. is_declared_body s n) is) ∙ declared)

  abbrev GoodAt : (ℕ → Where) → List Node → Type 0
  GoodAt around cs = (i : ℕ) (c : Node) → slice_get cs i ≡ Some c → Good c (around i)

  -- each kind, where its children stand as they do in it
  bodies-told : (s : Standing) (first second : Bool) (k : Kind) (cs : List Node) (around : ℕ → Where) → ((i : ℕ) → (around i).around.standing ≡ standing_by s k first second i) → GoodAt around cs → declares_no_body k cs ≡ true
  unfolding standing_by
  bodies-told s first second kind.IfStmt (a ∷ b ∷ c ∷ []) around is good =
      and-both (not (is_declaration b)) (not (is_declaration c) && true) (body-told (around 1) b (is 1) (good 1 b refl)) (and-both (not (is_declaration c)) true (body-told (around 2) c (is 2) (good 2 c refl)) refl)
  bodies-told s first second kind.LabeledStmt (a ∷ b ∷ []) around is good = and-both (not (is_declaration b)) true (body-told (around 1) b (is 1) (good 1 b refl)) refl
  bodies-told s first second kind.WhileStmt (a ∷ b ∷ []) around is good = and-both (not (is_declaration b)) true (body-told (around 1) b (is 1) (good 1 b refl)) refl
  bodies-told s first second kind.DoWhileStmt (a ∷ b ∷ []) around is good = and-both (not (is_declaration b)) true (body-told (around 1) b (is 1) (good 1 b refl)) refl
  bodies-told s first second kind.ForStmt (a ∷ b ∷ c ∷ d ∷ []) around is good = and-both (not (is_declaration d)) true (body-told (around 3) d (is 3) (good 3 d refl)) refl
  bodies-told s first second kind.ForInStmt (a ∷ b ∷ c ∷ []) around is good = and-both (not (is_declaration c)) true (body-told (around 2) c (is 2) (good 2 c refl)) refl
  bodies-told s first second (kind.ForOfStmt w) (a ∷ b ∷ c ∷ []) around is good = and-both (not (is_declaration c)) true (body-told (around 2) c (is 2) (good 2 c refl)) refl
  bodies-told s first second _ cs around is good = refl

  abbrev HasBodies : Node → Type 0
  HasBodies n = (w : Where) → Good n w → has_usual_bodies n ≡ true

  all-have : (cs : List Node) → ((i : ℕ) (c : Node) → slice_get cs i ≡ Some c → has_usual_bodies c ≡ true) → list_all has_usual_bodies cs ≡ true
  all-have [] each = refl
  all-have (c ∷ cs) each = and-both (has_usual_bodies c) (list_all has_usual_bodies cs) (each 0 c refl) (all-have cs (λ i d at. each (suc i) d at))

  layer-bodies : (n : Node) → ((i : ℕ) (c : Node) → slice_get (out-Node n).children i ≡ Some c → HasBodies c) → HasBodies n
  layer-bodies n below w good =
      holds-out declares_no_body n
      ∙ and-both (declares_no_body (out-Node n).kind (out-Node n).children) (list_all has_usual_bodies (out-Node n).children)
      (bodies-told w.around.standing (has_child n 1) (has_child n 2) (out-Node n).kind (out-Node n).children (where_in w n) (λ i. refl) (keeps.below n w good))
      (all-have (out-Node n).children (λ i c at. below i c at (where_in w n i) (keeps.below n w good i c at)))

  pub usual-bodies : (n : Node) → HasBodies n
  usual-bodies = by-children HasBodies layer-bodies

pub fitting-bodies : (n : Node) (w : Where) → first_unfit_in n w ≡ None → has_usual_bodies n ≡ true
fitting-bodies = usual-bodies Fits what-fits-keeps-rules
