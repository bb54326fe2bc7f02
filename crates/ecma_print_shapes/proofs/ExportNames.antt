-- Texts, and the names by which other modules call what is exported, have their shapes.
use Rattle.std.proofs.Common.{◌≡◌, sym, subst, true, false, refl, List, []}
use Rattle.ecma_kind.specs.declared.span.Span.{Span}
use Rattle.ecma_kind.specs.declared.kind.Kind.{Kind}
use Rattle.ecma_kind.specs.declared.kind.Kind.TheVariants as kind
use Rattle.ecma_kind.specs.declared.shapes.Shape.{Shape}
use Rattle.ecma_kind.specs.declared.shapes.Sort.TheVariants as sort
use Rattle.ecma_tree.specs.declared.node.Node.{Node, out-Node}
use Rattle.ecma_tree.specs.declared.node.Node.TheViews.{roll-out-Node}
use Rattle.ecma_tree.specs.Nodes.{node_of}
use Rattle.ecma_tree.specs.Sorted.{allows, one}
use Rattle.ecma_rules.specs.declared.target.Target.TheVariants as target
use Rattle.ecma_rules.specs.Children.{kind_of}
use Rattle.ecma_covers.specs.Covering.{cover_at}
use Rattle.ecma_fits.specs.declared.role.Role.{Role}
use Rattle.ecma_fits.specs.Roles.{is_tagged, role_in}
use Rattle.ecma_print.specs.declared.place.Spot.{Spot}
use Rattle.ecma_print.specs.Places.{free}
use Rattle.ecma_shapes.specs.Modules.{IsExportName, IsString}
use Rattle.ecma_shapes.specs.Modules as modules
use Rattle.ecma_print_shapes.proofs.Building.{childless}
use Rattle.ecma_print_shapes.proofs.Claims.{seen}
use Rattle.ecma_print_shapes.proofs.Leaves.{export_name_shape, string_literal_shape}
use Rattle.ecma_print_shapes.proofs.Names.{leaf_as_is}
use Rattle.ecma_print_shapes.proofs.Sound.{Here, Sound}

module _ (r : Role) (spot : Spot) (shape : Shape) (at : Span) (cs : List Node) where
  string_by : (k : Kind) → allows (one sort.Str) k ≡ true → Here r spot shape at k cs → IsString (cover_at (node_of at k cs) target.Free)
  string_by (kind.Str value raw) is h =
      let k = kind.Str value raw in
      subst IsString (sym (leaf_as_is at k cs (childless (role_in r k) [] (free 0) cs h.below) refl)) (string_literal_shape (is_tagged r) at value raw h.spelled h.bare.0)
  string_by k is h = absurd (no is)
    where
      no : false ≡ true → ⊥
      no e = cc

  export_name_by : (k : Kind) → allows (one sort.ModuleExportName) k ≡ true → Here r spot shape at k cs → IsExportName (cover_at (node_of at k cs) target.Free)
  export_name_by (kind.Ident word ctxt optional) is h =
      let k = kind.Ident word ctxt optional in
      subst IsExportName (sym (leaf_as_is at k cs (childless (role_in r k) [] (free 0) cs h.below) refl)) (export_name_shape (is_tagged r) at word ctxt optional h.spelled h.bare.0)
  export_name_by (kind.Str value raw) is h = modules.IsExportName.string_name (string_by (kind.Str value raw) refl h)
  export_name_by k is h = absurd (no is)
    where
      no : false ≡ true → ⊥
      no e = cc

pub string_formed : {r : Role} {spot : Spot} {shape : Shape} (n : Node) → Sound r spot shape n → allows (one sort.Str) (kind_of n) ≡ true → IsString (cover_at n target.Free)
string_formed {r} {spot} {shape} n s is =
    let x = out-Node n in
    subst (λ m. IsString (cover_at m target.Free)) (roll-out-Node n) (string_by r spot shape x.span x.children x.kind is (seen n s))

pub export_name_formed : {r : Role} {spot : Spot} {shape : Shape} (n : Node) → Sound r spot shape n → allows (one sort.ModuleExportName) (kind_of n) ≡ true → IsExportName (cover_at n target.Free)
export_name_formed {r} {spot} {shape} n s is =
    let x = out-Node n in
    subst (λ m. IsExportName (cover_at m target.Free)) (roll-out-Node n) (export_name_by r spot shape x.span x.children x.kind is (seen n s))
