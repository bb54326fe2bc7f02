-- `switch` and `try` have their shapes.
use Rattle.std.proofs.Common.{◌≡◌, ◌∙◌, refl, sym, ap, subst, Bool, true, false, ◌||◌, List, [], ◌∷◌, slice_get}
use Rattle.std.proofs.lemmas.Bool.{false≢true}
use Rattle.ecma_kind.specs.declared.span.Span.{Span}
use Rattle.ecma_kind.specs.declared.kind.Kind.{Kind}
use Rattle.ecma_kind.specs.declared.kind.Kind.TheVariants as kind
use Rattle.ecma_kind.specs.declared.shapes.Shape.{Shape}
use Rattle.ecma_kind.specs.declared.shapes.Sort.TheVariants as sort
use Rattle.ecma_tree.specs.declared.node.Node.{Node, out-Node}
use Rattle.ecma_tree.specs.Nodes.{node_of}
use Rattle.ecma_tree.specs.Sorted.{is_absent, many, maybe, one}
use Rattle.ecma_rules.specs.declared.target.Target.TheVariants as target
use Rattle.ecma_rules.specs.Children.{is_present, kind_of, of_kind}
use Rattle.ecma_rules.specs.Targets.{target_in}
use Rattle.ecma_covers.specs.Covering.{cover_at, cover_in}
use Rattle.ecma_fits.specs.Counts.{is_full_by}
use Rattle.ecma_fits.specs.declared.role.Role.TheVariants as role
use Rattle.ecma_fits.specs.Roles.{role_in}
use Rattle.ecma_print.specs.declared.place.Spot.{Spot}
use Rattle.ecma_print.specs.Places.{free}
use Rattle.ecma_shapes.specs.Shapes.{AreCases, AreStatements, IsBlock, IsCase, IsCatch, IsStatement, case_of, catch_any, catch_pattern, closed, default_of, more_cases, no_cases, switch_statement, try_catch, try_catch_finally, try_finally}
use Rattle.ecma_print_shapes.proofs.Assignments.{full}
use Rattle.ecma_print_shapes.proofs.Blocks.{ItemsIn, items_covered, items_in, listed}
use Rattle.ecma_print_shapes.proofs.Building.{absent_shape}
use Rattle.ecma_print_shapes.proofs.ByKind.{in_place}
use Rattle.ecma_print_shapes.proofs.Claims.{AllFormed, Formed, ListOf, Stated, seen}
use Rattle.ecma_print_shapes.proofs.Covered.{covered}
use Rattle.ecma_print_shapes.proofs.Declarators.{declared_pattern}
use Rattle.ecma_print_shapes.proofs.Parameters.{block_kind}
use Rattle.ecma_print_shapes.proofs.Sound.{Here, Sound, children_made}
use Rattle.ecma_print_shapes.proofs.Stated.{Made, made_closed, stated, valued, valued_there}

pub block_there : {spot : Spot} {n : Node} → Formed n → Sound role.Free spot (one sort.BlockStmt) n → IsBlock (cover_at n target.Free)
block_there {spot} {n} f s = f.block spot (one sort.BlockStmt) s (block_kind (kind_of n) (seen n s).allowed)

-- cases

module _ (at : Span) where
  case_by : (a b : Node) (missing : Bool) → is_absent (kind_of a) ≡ missing → Formed a → Sound role.Free (free 0) (maybe sort.Expr) a → ListOf AreStatements b → IsCase (node_of at kind.SwitchCase (cover_at a target.Free ∷ cover_at b target.Free ∷ []))
  case_by a b true e f s l = subst (λ z. IsCase (node_of at kind.SwitchCase (cover_at a target.Free ∷ z ∷ []))) (sym l.cover_is) (default_of at l.at (absent_shape target.Free a s e) l.hold)
  case_by a b false e f s l = subst (λ z. IsCase (node_of at kind.SwitchCase (cover_at a target.Free ∷ z ∷ []))) (sym l.cover_is) (case_of at l.at (valued_there f s e).shape l.hold)

  case_here : (cs : List Node) → AllFormed cs → Here role.Free (free 0) (one sort.SwitchCase) at kind.SwitchCase cs → IsCase (cover_at (node_of at kind.SwitchCase cs) target.Free)
  unfolding cover_in target_in role_in
  case_here [] f h = absurd h.below
  case_here (a ∷ []) f h = absurd h.below.1
  case_here (a ∷ b ∷ []) f h =
      subst IsCase (sym (covered at kind.SwitchCase (a ∷ b ∷ []) target.Free refl)) (case_by a b (is_absent (kind_of a)) refl f.0 h.below.0 (f.1.0.statements h.below.1.0))
  case_here (a ∷ b ∷ c ∷ cs) f h = absurd h.below.1.1

  pub case_formed : (k : Kind) (cs : List Node) → AllFormed cs → Here role.Free (free 0) (one sort.SwitchCase) at k cs → IsCase (cover_at (node_of at k cs) target.Free)
  case_formed kind.SwitchCase cs f h = case_here cs f h
  case_formed k cs f h = absurd (false≢true h.allowed)

cases_of : (cs : List Node) → AllFormed cs → ItemsIn (free 0) (one sort.SwitchCase) cs → AreCases (items_covered cs)
cases_of [] f h = no_cases
cases_of (c ∷ cs) f h = more_cases (f.0.case h.0) (cases_of cs f.1 h.1)

pub cases_formed : (n : Node) → AllFormed (out-Node n).children → Sound role.Free (free 0) (many sort.SwitchCase) n → ListOf AreCases n
cases_formed n below s = let is = (seen n s).allowed in listed n is (cases_of (out-Node n).children below (items_in n s is))

module _ {shape : Shape} (at : Span) where
  pub switch_formed : (cs : List Node) → AllFormed cs → Here role.Free (free 0) shape at kind.SwitchStmt cs → Stated (node_of at kind.SwitchStmt cs)
  unfolding cover_in target_in role_in
  switch_formed [] f h = absurd h.below
  switch_formed (a ∷ []) f h = absurd h.below.1
  switch_formed (a ∷ b ∷ []) f h =
      let l = f.1.0.cases h.below.1.0 in
      stated at kind.SwitchStmt (a ∷ b ∷ []) refl
      (subst (λ z. Made (node_of at kind.SwitchStmt (cover_at a target.Free ∷ z ∷ [])) false false) (sym l.cover_is) (made_closed false (switch_statement at l.at (valued f.0 h.below.0).shape l.hold)))
  switch_formed (a ∷ b ∷ c ∷ cs) f h = absurd h.below.1.1

-- what is caught

module _ (at : Span) where
  catch_by : (a b : Node) (missing : Bool) → is_absent (kind_of a) ≡ missing → Formed a → Sound role.Declared (free 1) (maybe sort.Pat) a → IsBlock (cover_at b target.Free) → IsCatch (node_of at kind.CatchClause (cover_at a target.Free ∷ cover_at b target.Free ∷ []))
  catch_by a b true e f s body = catch_any at (absent_shape target.Free a s e) body
  catch_by a b false e f s body = catch_pattern at (declared_pattern f (in_place sort.Pat a refl e s)) body

  catch_here : (cs : List Node) → AllFormed cs → Here role.Free (free 0) (one sort.CatchClause) at kind.CatchClause cs → IsCatch (cover_at (node_of at kind.CatchClause cs) target.Free)
  unfolding cover_in target_in role_in
  catch_here [] f h = absurd h.below
  catch_here (a ∷ []) f h = absurd h.below.1
  catch_here (a ∷ b ∷ []) f h =
      subst IsCatch (sym (covered at kind.CatchClause (a ∷ b ∷ []) target.Free refl)) (catch_by a b (is_absent (kind_of a)) refl f.0 h.below.0 (block_there f.1.0 h.below.1.0))
  catch_here (a ∷ b ∷ c ∷ cs) f h = absurd h.below.1.1

  pub catch_formed : (k : Kind) (cs : List Node) → AllFormed cs → Here role.Free (free 0) (one sort.CatchClause) at k cs → IsCatch (cover_at (node_of at k cs) target.Free)
  catch_formed kind.CatchClause cs f h = catch_here cs f h
  catch_formed k cs f h = absurd (false≢true h.allowed)

-- at least one of both stands behind the block
abbrev one_behind : List Node → Bool
one_behind cs = of_kind is_present (slice_get cs 1) || of_kind is_present (slice_get cs 2)

both_missing : {A : Type 0} (k k' : Kind) → (is_present k || is_present k') ≡ true → is_absent k ≡ true → is_absent k' ≡ true → A
both_missing k k' h e e' = absurd (false≢true (sym (rw (e, e') refl) ∙ h))

module _ (at : Span) (a b c : Node) (f : AllFormed (a ∷ b ∷ c ∷ [])) (block : IsBlock (cover_at a target.Free)) (s : Sound role.Free (free 0) (maybe sort.CatchClause) b) (s' : Sound role.Free (free 0) (maybe sort.BlockStmt) c) where
  try_by : (no_catch no_finally : Bool) → is_absent (kind_of b) ≡ no_catch → is_absent (kind_of c) ≡ no_finally → (is_present (kind_of b) || is_present (kind_of c)) ≡ true
      → IsStatement closed (node_of at kind.TryStmt (cover_at a target.Free ∷ cover_at b target.Free ∷ cover_at c target.Free ∷ []))
  try_by true true e e' h = both_missing (kind_of b) (kind_of c) h e e'
  try_by true false e e' h = try_finally at block (absent_shape target.Free b s e) (block_there f.1.1.0 (in_place sort.BlockStmt c refl e' s'))
  try_by false true e e' h = try_catch at block (f.1.0.catch (in_place sort.CatchClause b refl e s)) (absent_shape target.Free c s' e')
  try_by false false e e' h = try_catch_finally at block (f.1.0.catch (in_place sort.CatchClause b refl e s)) (block_there f.1.1.0 (in_place sort.BlockStmt c refl e' s'))

module _ {shape : Shape} (at : Span) where
  pub try_formed : (cs : List Node) → AllFormed cs → Here role.Free (free 0) shape at kind.TryStmt cs → Stated (node_of at kind.TryStmt cs)
  unfolding cover_in target_in role_in is_full_by
  try_formed [] f h = absurd h.below
  try_formed (a ∷ []) f h = absurd h.below.1
  try_formed (a ∷ b ∷ []) f h = absurd h.below.1.1
  try_formed (a ∷ b ∷ c ∷ []) f h =
      let behind = sym (ap one_behind (children_made at kind.TryStmt (a ∷ b ∷ c ∷ []))) ∙ full at kind.TryStmt (a ∷ b ∷ c ∷ []) h in
      stated at kind.TryStmt (a ∷ b ∷ c ∷ []) refl
      (made_closed false (try_by at a b c f (block_there f.0 h.below.0) h.below.1.0 h.below.1.1.0 (is_absent (kind_of b)) (is_absent (kind_of c)) refl refl behind))
  try_formed (a ∷ b ∷ c ∷ d ∷ cs) f h = absurd h.below.1.1.1
