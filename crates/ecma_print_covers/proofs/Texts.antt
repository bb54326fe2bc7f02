-- The texts of patterns, and of the literals in their places.
use Rattle.std.proofs.Common.{◌≡◌, ◌∙◌, refl, sym, ap, Bool, true, false, List, [], ◌∷◌, map}
use Rattle.ecma_kind.specs.declared.kind.Kind.{Kind}
use Rattle.ecma_kind.specs.declared.kind.Kind.TheVariants as kind
use Rattle.ecma_kind.specs.declared.shapes.Sort.TheVariants as sort
use Rattle.ecma_kind.specs.Sorts.{belongs}
use Rattle.ecma_tree.specs.declared.node.Node.{Node, out-Node}
use Rattle.ecma_tree.specs.declared.node.Node.TheViews.{roll-out-Node}
use Rattle.ecma_print.specs.declared.place.Beside.TheVariants.{NoNeighbor}
use Rattle.ecma_print.specs.declared.place.Between.{Between}
use Rattle.ecma_print.specs.declared.place.Place.{Place}
use Rattle.ecma_print.specs.declared.place.Place.TheVariants as place
use Rattle.ecma_print.specs.declared.place.Spot.{Spot}
use Rattle.ecma_print.specs.Laid.{Laid}
use Rattle.ecma_print.specs.Layout.{in_place, laid}
use Rattle.ecma_print.specs.Pieces.{◌>>◌}
use Rattle.ecma_print.specs.Places.{after, before, free, left}
use Rattle.ecma_print_covers.proofs.Layers.{is_one, laid_in}

-- an expression is no list and not missing
pub expression_is_one : (k : Kind) → belongs sort.Expr k ≡ true → is_one k ≡ true
expression_is_one kind.Absent h = absurd (cc)
expression_is_one kind.List h = absurd (cc)
expression_is_one _ h = refl

within_one : (k : Kind) (children : List Laid) (between : Between) (spot : Spot) → is_one k ≡ true → in_place k children (place.Within between spot) ≡ before between >> in_place k children (place.At spot) >> after between
within_one kind.Absent children between spot h = absurd (cc)
within_one kind.List children between spot h = absurd (cc)
within_one _ children between spot h = refl

-- between words stands what stands there by itself
pub within_alone : (n : Node) (between : Between) (spot : Spot) → is_one (out-Node n).kind ≡ true → (laid n).at (place.Within between spot) ≡ before between >> (laid n).at (place.At spot) >> after between
within_alone n between spot one =
    let x = out-Node n in
    let is : (p : Place) → (laid n).at p ≡ in_place x.kind (map laid x.children) p = λ p. ap (λ m. (laid m).at p) (sym (roll-out-Node n)) ∙ laid_in x.span x.kind x.children p in
    is (place.Within between spot) ∙ within_one x.kind (map laid x.children) between spot one ∙ (λ i. before between >> sym (is (place.At spot)) i >> after between)

-- what takes a default stands in no parentheses before `=`
abbrev pub is_tight : Kind → Bool
is_tight kind.Absent = true
is_tight (kind.Ident sym ctxt optional) = true
is_tight kind.RestPat = true
is_tight kind.ArrayLit = true
is_tight kind.ObjectLit = true
is_tight kind.MemberExpr = true
is_tight kind.SuperPropExpr = true
is_tight kind.ParenExpr = true
is_tight kind.TsTypeAssertion = true
is_tight kind.TsConstAssertion = true
is_tight kind.TsNonNullExpr = true
is_tight kind.TsAsExpr = true
is_tight kind.TsInstantiation = true
is_tight kind.TsSatisfiesExpr = true
is_tight _ = false

abbrev tight_spot : Spot
tight_spot = left (free 1) 16 NoNeighbor

tight_in_place : (k : Kind) (children : List Laid) → is_tight k ≡ true → in_place k children (place.At tight_spot) ≡ in_place k children (place.At (free 1))
tight_in_place kind.Absent children h = refl
tight_in_place (kind.Ident sym ctxt optional) children h = refl
tight_in_place kind.RestPat children h = refl
tight_in_place kind.ArrayLit children h = refl
tight_in_place kind.ObjectLit children h = refl
tight_in_place kind.MemberExpr [] h = refl
tight_in_place kind.MemberExpr (a ∷ []) h = refl
tight_in_place kind.MemberExpr (a ∷ b ∷ []) h = refl
tight_in_place kind.MemberExpr (a ∷ b ∷ d ∷ more) h = refl
tight_in_place kind.SuperPropExpr children h = refl
tight_in_place kind.ParenExpr children h = refl
tight_in_place kind.TsTypeAssertion children h = refl
tight_in_place kind.TsConstAssertion children h = refl
tight_in_place kind.TsNonNullExpr children h = refl
tight_in_place kind.TsAsExpr children h = refl
tight_in_place kind.TsInstantiation children h = refl
tight_in_place kind.TsSatisfiesExpr children h = refl
tight_in_place _ children h = absurd (cc)

pub tight_alone : (n : Node) → is_tight (out-Node n).kind ≡ true → (laid n).at (place.At tight_spot) ≡ (laid n).at (place.At (free 1))
tight_alone n h =
    let x = out-Node n in
    let is : (p : Place) → (laid n).at p ≡ in_place x.kind (map laid x.children) p = λ p. ap (λ m. (laid m).at p) (sym (roll-out-Node n)) ∙ laid_in x.span x.kind x.children p in
    is (place.At tight_spot) ∙ tight_in_place x.kind (map laid x.children) h ∙ sym (is (place.At (free 1)))
