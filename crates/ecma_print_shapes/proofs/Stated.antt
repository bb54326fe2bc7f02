-- How a statement is made of its parts, and whether an `else` behind it would be its own.
use Rattle.std.proofs.Common.{◌≡◌, ◌∙◌, refl, sym, ap, subst, Bool, true, false, ◌||◌, List, map}
use Rattle.std.proofs.lemmas.Bool.{false≢true}
use Rattle.ecma_kind.specs.Sorts.{is_decl}
use Rattle.ecma_kind.specs.declared.span.Span.{Span}
use Rattle.ecma_kind.specs.declared.kind.Kind.{Kind}
use Rattle.ecma_kind.specs.declared.kind.Kind.TheVariants as kind
use Rattle.ecma_kind.specs.declared.shapes.Sort.TheVariants as sort
use Rattle.ecma_tree.specs.declared.node.Node.{Node, fold-roll-Node, out-Node}
use Rattle.ecma_tree.specs.declared.node.Node.TheViews.{roll-out-Node}
use Rattle.ecma_tree.specs.Nodes.{node_of}
use Rattle.ecma_tree.specs.Sorted.{is_absent, maybe, one}
use Rattle.ecma_rules.specs.declared.target.Target.TheVariants as target
use Rattle.ecma_rules.specs.Children.{kind_of}
use Rattle.ecma_covers.specs.Covering.{cover_at}
use Rattle.ecma_fits.specs.Branches.{holds_at_last, last_part, takes_else, takes_else_step}
use Rattle.ecma_fits.specs.declared.role.Role.TheVariants as role
use Rattle.ecma_print.specs.Places.{free}
use Rattle.ecma_shapes.specs.Modules.{is_declaration}
use Rattle.ecma_shapes.specs.Shapes.{Ending, IsExpression, IsStatement, Level, closed, dangling}
use Rattle.ecma_print_shapes.proofs.ByKind.{in_place}
use Rattle.ecma_print_shapes.proofs.Claims.{Formed, Stated}
use Rattle.ecma_print_shapes.proofs.Covered.{covered, covered_children, is_of_pattern}
use Rattle.ecma_print_shapes.proofs.Ranks.{own_level}
use Rattle.ecma_print_shapes.proofs.Sound.{Sound, kind_made}
use Rattle.ecma_print_shapes.proofs.Spots.{child_value, proper_free}

-- the tree of a statement that would take an `else` or not, and is a declaration or not
pub record Made (c : Node) (takes is : Bool) : Type 0 where
  pub ending : Ending
  pub shape : IsStatement ending c
  pub closes : takes ≡ false → ending ≡ closed
  pub declares : is ≡ true → is_declaration shape ≡ true

no_declaration : {A : Type 0} → false ≡ true → A
no_declaration e = absurd (false≢true e)

pub made_closed : {c : Node} (takes : Bool) → IsStatement closed c → Made c takes false
made_closed takes x = record { ending = closed; shape = x; closes = λ e. refl; declares = λ e. no_declaration e }

pub made_declaration : {c : Node} (takes : Bool) (x : IsStatement closed c) → is_declaration x ≡ true → Made c takes true
made_declaration takes x h = record { ending = closed; shape = x; closes = λ e. refl; declares = λ e. h }

-- one that ends with another
pub made_behind : {c : Node} {takes : Bool} (ending : Ending) → (takes ≡ false → ending ≡ closed) → IsStatement ending c → Made c takes false
made_behind ending closes x = record { ending = ending; shape = x; closes = closes; declares = λ e. no_declaration e }

pub made_dangling : {c : Node} {takes : Bool} → takes ≡ true → IsStatement dangling c → Made c takes false
made_dangling h x = record { ending = dangling; shape = x; closes = λ e. no_declaration (sym e ∙ h); declares = λ e. no_declaration e }

pub takes_made : (at : Span) (k : Kind) (cs : List Node) → takes_else (node_of at k cs) ≡ (is_absent k || holds_at_last (map takes_else cs) (last_part k))
takes_made at k cs = fold-roll-Node Bool takes_else_step (record { span = at; kind = k; children = cs })

-- by its kind and its children
pub stated : (at : Span) (k : Kind) (cs : List Node) → is_of_pattern k ≡ false → Made (node_of at k (covered_children target.Free k cs)) (is_absent k || holds_at_last (map takes_else cs) (last_part k)) (is_decl k) → Stated (node_of at k cs)
stated at k cs keeps m =
    let m' =
    subst (λ c. Made c (takes_else (node_of at k cs)) (is_decl (kind_of (node_of at k cs)))) (sym (covered at k cs target.Free keeps))
    (subst (λ d. Made (node_of at k (covered_children target.Free k cs)) (takes_else (node_of at k cs)) (is_decl d)) (sym (kind_made at k cs))
    (subst (λ b. Made (node_of at k (covered_children target.Free k cs)) b (is_decl k)) (sym (takes_made at k cs)) m)) in
    record { ending = m'.ending; shape = m'.shape; closes = m'.closes; declares = m'.declares }

-- what is missing would be given
absent_takes : (k : Kind) (b : Bool) → is_absent k ≡ true → (is_absent k || b) ≡ true
absent_takes kind.Absent b h = refl
absent_takes k b h = absurd (false≢true h)

pub missing_takes : (n : Node) → is_absent (kind_of n) ≡ true → takes_else n ≡ true
missing_takes n h =
    let x = out-Node n in
    ap takes_else (sym (roll-out-Node n)) ∙ takes_made x.span x.kind x.children ∙ absent_takes x.kind (holds_at_last (map takes_else x.children) (last_part x.kind)) h

-- an expression on its own, at whichever level
pub record Valued (n : Node) : Type 0 where
  pub level : Level
  pub shape : IsExpression level (cover_at n target.Free)

pub valued : {n : Node} → Formed n → Sound role.Free (free 0) (one sort.Expr) n → Valued n
valued f s = let e = child_value f s refl (proper_free 0) in record { level = own_level e.kind e.children false; shape = e.shape }

pub valued_there : {n : Node} → Formed n → Sound role.Free (free 0) (maybe sort.Expr) n → is_absent (kind_of n) ≡ false → Valued n
valued_there {n} f s e = valued f (in_place sort.Expr n refl e s)
