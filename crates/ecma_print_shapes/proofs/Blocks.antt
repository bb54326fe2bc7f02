-- Lists by their items; lists of statements, and blocks, have their shapes.
use Rattle.std.proofs.Common.{◌≡◌, ◌∙◌, refl, sym, ap, subst, true, List, [], ◌∷◌, map, length, replicate}
use Rattle.ecma_kind.specs.declared.span.Span.{Span}
use Rattle.ecma_kind.specs.declared.kind.Kind.{Kind}
use Rattle.ecma_kind.specs.declared.kind.Kind.TheVariants as kind
use Rattle.ecma_kind.specs.declared.shapes.Shape.{Shape}
use Rattle.ecma_kind.specs.declared.shapes.Sort.TheVariants as sort
use Rattle.ecma_tree.specs.declared.node.Node.{Node, out-Node}
use Rattle.ecma_tree.specs.Nodes.{node_of}
use Rattle.ecma_tree.specs.Sorted.{is_list, item_shape, many, one}
use Rattle.ecma_rules.specs.declared.target.Target.TheVariants as target
use Rattle.ecma_rules.specs.Children.{kind_of}
use Rattle.ecma_rules.specs.Finishing.{each_in}
use Rattle.ecma_rules.specs.Targets.{target_in}
use Rattle.ecma_covers.specs.Covering.{cover_at, cover_in}
use Rattle.ecma_fits.specs.declared.role.Role.TheVariants as role
use Rattle.ecma_fits.specs.Roles.{role_in}
use Rattle.ecma_print.specs.declared.place.Spot.{Spot}
use Rattle.ecma_print.specs.Places.{free}
use Rattle.ecma_shapes.specs.Shapes.{AreStatements, IsBlock, block_of, more_statements, no_statements}
use Rattle.ecma_print_shapes.proofs.Claims.{AllFormed, ListOf, seen}
use Rattle.ecma_print_shapes.proofs.Covered.{covered}
use Rattle.ecma_print_shapes.proofs.ByKind.{made_as, seen_as}
use Rattle.ecma_print_shapes.proofs.Lists.{cover_of_list}
use Rattle.ecma_print_shapes.proofs.Sound.{AllSound, Here, Sound}

-- the items of a list, each in the spot of the list
abbrev pub ItemsIn : Spot → Shape → List Node → Type 0
ItemsIn spot item cs = AllSound (λ i. role.Free) [] spot (replicate (length cs) item) cs

items_here : {spot : Spot} {shape : Shape} (at : Span) (cs : List Node) → Here role.Free spot shape at kind.List cs → ItemsIn spot (item_shape shape) cs
unfolding role_in
items_here at cs h = h.below

pub list_of_kind : (k : Kind) → is_list k ≡ true → k ≡ kind.List
list_of_kind kind.List h = refl
list_of_kind k h = cc

pub items_in : {spot : Spot} {shape : Shape} (n : Node) → Sound role.Free spot shape n → is_list (kind_of n) ≡ true → ItemsIn spot (item_shape shape) (out-Node n).children
items_in n s is = items_here (out-Node n).span (out-Node n).children (seen_as n kind.List (list_of_kind (kind_of n) is) s)

-- the items of a list, where each is covered alone
abbrev pub items_covered : List Node → List Node
items_covered cs = each_in (λ i. target.Free) (map cover_at cs)

pub listed : {are : List Node → Type 0} (n : Node) → is_list (kind_of n) ≡ true → are (items_covered (out-Node n).children) → ListOf are n
listed n is h = record { at = (out-Node n).span; items = items_covered (out-Node n).children; cover_is = cover_of_list n is; hold = h }

-- statements

statements_of : (cs : List Node) → AllFormed cs → ItemsIn (free 0) (one sort.Stmt) cs → AreStatements (items_covered cs)
statements_of [] f h = no_statements
statements_of (c ∷ cs) f h = more_statements (f.0.statement (one sort.Stmt) h.0 (seen c h.0).allowed).shape (statements_of cs f.1 h.1)

pub statements_formed : (n : Node) → AllFormed (out-Node n).children → Sound role.Free (free 0) (many sort.Stmt) n → ListOf AreStatements n
statements_formed n below s = let is = (seen n s).allowed in listed n is (statements_of (out-Node n).children below (items_in n s is))

pub block_here : {spot : Spot} {shape : Shape} (at : Span) (cs : List Node) → AllFormed cs → Here role.Free spot shape at kind.BlockStmt cs → IsBlock (cover_at (node_of at kind.BlockStmt cs) target.Free)
unfolding cover_in target_in role_in
block_here at [] f h = absurd h.below
block_here at (a ∷ []) f h =
    let l = f.0.statements h.below.0 in
    subst IsBlock (sym (covered at kind.BlockStmt (a ∷ []) target.Free refl ∙ ap (λ z. node_of at kind.BlockStmt (z ∷ [])) l.cover_is)) (block_of at l.at l.hold)
block_here at (a ∷ b ∷ cs) f h = absurd h.below.1

pub block_formed : (n : Node) → AllFormed (out-Node n).children → (spot : Spot) (shape : Shape) → Sound role.Free spot shape n → kind_of n ≡ kind.BlockStmt → IsBlock (cover_at n target.Free)
block_formed n below spot shape s is = made_as (λ m. IsBlock (cover_at m target.Free)) n kind.BlockStmt is (block_here (out-Node n).span (out-Node n).children below (seen_as n kind.BlockStmt is s))
