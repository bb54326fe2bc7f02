-- Statements that hold others have their shapes: branches, labels, loops without a head, `switch` and `try`.
use Rattle.std.proofs.Common.{◌≡◌, refl, ap, subst, Bool, true, false, not, ◌&&◌, ◌||◌, List, [], ◌∷◌, slice_get}
use Rattle.std.proofs.lemmas.Bool.{false≢true}
use Rattle.ecma_kind.specs.declared.span.Span.{Span}
use Rattle.ecma_kind.specs.declared.kind.Kind.{Kind}
use Rattle.ecma_kind.specs.declared.kind.Kind.TheVariants as kind
use Rattle.ecma_kind.specs.declared.shapes.Shape.{Shape}
use Rattle.ecma_kind.specs.declared.shapes.Sort.TheVariants as sort
use Rattle.ecma_tree.specs.declared.node.Node.{Node, out-Node}
use Rattle.ecma_tree.specs.Nodes.{node_of}
use Rattle.ecma_tree.specs.Sorted.{is_absent, maybe, one}
use Rattle.ecma_rules.specs.declared.target.Target.TheVariants as target
use Rattle.ecma_rules.specs.Children.{holds_of, is_present, kind_of, of_kind}
use Rattle.ecma_rules.specs.Targets.{target_in}
use Rattle.ecma_covers.specs.Covering.{cover_at, cover_in}
use Rattle.ecma_fits.specs.Branches.{is_choice, is_dangling, takes_else}
use Rattle.ecma_fits.specs.Chains.{is_loose}
use Rattle.ecma_fits.specs.Counts.{is_short}
use Rattle.ecma_fits.specs.Members.{is_misread}
use Rattle.ecma_fits.specs.declared.role.Role.TheVariants as role
use Rattle.ecma_fits.specs.Roles.{role_in}
use Rattle.ecma_print.specs.Places.{free}
use Rattle.ecma_shapes.specs.Shapes.{IsStatement, do_loop, if_else, if_only, labeled, while_loop}
use Rattle.ecma_print_shapes.proofs.Building.{absent_shape}
use Rattle.ecma_print_shapes.proofs.ByKind.{in_place}
use Rattle.ecma_print_shapes.proofs.Claims.{AllFormed, Formed, Stated, seen}
use Rattle.ecma_print_shapes.proofs.Seats.{either_parts}
use Rattle.ecma_print_shapes.proofs.Simple.{named}
use Rattle.ecma_print_shapes.proofs.Sound.{Here, Sound, children_made, kind_made}
use Rattle.ecma_print_shapes.proofs.Stated.{Made, Valued, made_behind, made_closed, made_dangling, missing_takes, stated, valued}

-- a body
pub body_of : {n : Node} → Formed n → Sound role.Free (free 0) (one sort.Stmt) n → Stated n
body_of {n} f s = f.statement (one sort.Stmt) s (seen n s).allowed

-- an `else` is not taken by what stands before it

not_both : (a b : Bool) → (a && b) ≡ false → a ≡ true → b ≡ false
not_both true b h e = h
not_both false b h e = absurd (false≢true e)

present : (k : Kind) → is_absent k ≡ false → is_present k ≡ true
present k e = ap not e

abbrev dangling_by : Kind → List Node → Bool
dangling_by k cs = is_choice k && (of_kind is_present (slice_get cs 2) && holds_of takes_else (slice_get cs 1))

undangling : {shape : Shape} (at : Span) (a b c : Node) → Here role.Free (free 0) shape at kind.IfStmt (a ∷ b ∷ c ∷ []) → (is_present (kind_of c) && takes_else b) ≡ false
undangling at a b c h =
    let n = node_of at kind.IfStmt (a ∷ b ∷ c ∷ []) in
    let d = (either_parts (is_dangling n) (is_loose n || is_misread n) (either_parts (is_short n) (is_dangling n || (is_loose n || is_misread n)) h.whole).1).0 in
    subst (λ z. dangling_by kind.IfStmt z ≡ false) (children_made at kind.IfStmt (a ∷ b ∷ c ∷ [])) (subst (λ z. dangling_by z (out-Node n).children ≡ false) (kind_made at kind.IfStmt (a ∷ b ∷ c ∷ [])) d)

module _ (at : Span) (a b c : Node) (v : Valued a) (body : Stated b) where
  if_by : (missing : Bool) → is_absent (kind_of c) ≡ missing → (is_present (kind_of c) && takes_else b) ≡ false → Formed c → Sound role.Free (free 0) (maybe sort.Stmt) c
      → Made (node_of at kind.IfStmt (cover_at a target.Free ∷ cover_at b target.Free ∷ cover_at c target.Free ∷ [])) (takes_else c) false
  if_by true e d f s = made_dangling (missing_takes c e) (if_only at v.shape body.shape (absent_shape target.Free c s e))
  if_by false e d f s =
      let o = body_of f (in_place sort.Stmt c refl e s) in
      let closes = body.closes (not_both (is_present (kind_of c)) (takes_else b) d (present (kind_of c) e)) in
      made_behind o.ending o.closes (if_else at v.shape (subst (λ z. IsStatement z (cover_at b target.Free)) closes body.shape) o.shape)

module _ {shape : Shape} (at : Span) where
  pub if_statement : (cs : List Node) → AllFormed cs → Here role.Free (free 0) shape at kind.IfStmt cs → Stated (node_of at kind.IfStmt cs)
  unfolding cover_in target_in role_in
  if_statement [] f h = absurd h.below
  if_statement (a ∷ []) f h = absurd h.below.1
  if_statement (a ∷ b ∷ []) f h = absurd h.below.1.1
  if_statement (a ∷ b ∷ c ∷ []) f h =
      stated at kind.IfStmt (a ∷ b ∷ c ∷ []) refl (if_by at a b c (valued f.0 h.below.0) (body_of f.1.0 h.below.1.0) (is_absent (kind_of c)) refl (undangling at a b c h) f.1.1.0 h.below.1.1.0)
  if_statement (a ∷ b ∷ c ∷ d ∷ cs) f h = absurd h.below.1.1.1

  pub while_statement : (cs : List Node) → AllFormed cs → Here role.Free (free 0) shape at kind.WhileStmt cs → Stated (node_of at kind.WhileStmt cs)
  unfolding cover_in target_in role_in
  while_statement [] f h = absurd h.below
  while_statement (a ∷ []) f h = absurd h.below.1
  while_statement (a ∷ b ∷ []) f h =
      let body = body_of f.1.0 h.below.1.0 in
      stated at kind.WhileStmt (a ∷ b ∷ []) refl (made_behind body.ending body.closes (while_loop at (valued f.0 h.below.0).shape body.shape))
  while_statement (a ∷ b ∷ c ∷ cs) f h = absurd h.below.1.1

  pub do_statement : (cs : List Node) → AllFormed cs → Here role.Free (free 0) shape at kind.DoWhileStmt cs → Stated (node_of at kind.DoWhileStmt cs)
  unfolding cover_in target_in role_in
  do_statement [] f h = absurd h.below
  do_statement (a ∷ []) f h = absurd h.below.1
  do_statement (a ∷ b ∷ []) f h =
      stated at kind.DoWhileStmt (a ∷ b ∷ []) refl (made_closed false (do_loop at (valued f.0 h.below.0).shape (body_of f.1.0 h.below.1.0).shape))
  do_statement (a ∷ b ∷ c ∷ cs) f h = absurd h.below.1.1

  pub labeled_statement : (cs : List Node) → AllFormed cs → Here role.Free (free 0) shape at kind.LabeledStmt cs → Stated (node_of at kind.LabeledStmt cs)
  unfolding cover_in target_in role_in
  labeled_statement [] f h = absurd h.below
  labeled_statement (a ∷ []) f h = absurd h.below.1
  labeled_statement (a ∷ b ∷ []) f h =
      let body = body_of f.1.0 h.below.1.0 in
      stated at kind.LabeledStmt (a ∷ b ∷ []) refl (made_behind body.ending body.closes (labeled at (named f.0 h.below.0) body.shape))
  labeled_statement (a ∷ b ∷ c ∷ cs) f h = absurd h.below.1.1
