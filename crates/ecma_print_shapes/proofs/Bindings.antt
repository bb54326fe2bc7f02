-- What stands in declared patterns: kinds by their roles, and what is missing.
use Rattle.std.proofs.Common.{◌≡◌, ◌∙◌, refl, sym, ap, subst, Bool, true, false, not, ◌||◌, List, [], ◌∷◌, map, length, replicate, slice_get}
use Rattle.std.proofs.lemmas.Bool.{false≢true}
use Rattle.ecma_kind.specs.Sorts.{belongs}
use Rattle.ecma_kind.specs.declared.span.Span.{Span}
use Rattle.ecma_kind.specs.declared.kind.Kind.{Kind}
use Rattle.ecma_kind.specs.declared.kind.Kind.TheVariants as kind
use Rattle.ecma_kind.specs.declared.shapes.Shape.{Shape}
use Rattle.ecma_kind.specs.declared.shapes.Sort.TheVariants as sort
use Rattle.ecma_tree.specs.declared.node.Node.{Node, out-Node}
use Rattle.ecma_tree.specs.declared.node.Node.TheViews.{roll-out-Node}
use Rattle.ecma_tree.specs.Nodes.{node_of}
use Rattle.ecma_tree.specs.Sorted.{is_absent, is_list, item_shape, maybe, one}
use Rattle.ecma_rules.specs.declared.target.Target.{Target}
use Rattle.ecma_rules.specs.declared.target.Target.TheVariants as target
use Rattle.ecma_rules.specs.Children.{kind_of, of_kind}
use Rattle.ecma_rules.specs.Finishing.{each_in}
use Rattle.ecma_rules.specs.Lists.{is_rest_pattern}
use Rattle.ecma_rules.specs.Members.{misfits_by}
use Rattle.ecma_rules.specs.Targets as targets
use Rattle.ecma_rules.specs.Targets.{target_in}
use Rattle.ecma_covers.specs.Covering.{cover_at, cover_in}
use Rattle.ecma_fits.specs.declared.role.Role.{Role}
use Rattle.ecma_fits.specs.declared.role.Role.TheVariants as role
use Rattle.ecma_fits.specs.Roles.{bound_name_of, by, in_default, in_list, in_rest, is_binding, is_default, is_rest, may_be, role_in, takes}
use Rattle.ecma_print.specs.declared.place.Spot.{Spot}
use Rattle.ecma_print.specs.Places.{free}
use Rattle.ecma_shapes.specs.Shapes.{IsAbsent, IsInitializer, initializer, no_initializer}
use Rattle.ecma_plain.specs.Forms.{is_of_forms}
use Rattle.ecma_plain.specs.Functions.{functions}
use Rattle.ecma_print_shapes.proofs.Building.{absent_shape, stands_as}
use Rattle.ecma_print_shapes.proofs.Claims.{AllFormed, Formed, IsNaming, is_declared, names_parameter, names_value, seen, takes_rest, value_kind}
use Rattle.ecma_print_shapes.proofs.Covered.{covered}
use Rattle.ecma_print_shapes.proofs.Sound.{AllSound, Here, Sound, children_made, fitting_here}
use Rattle.ecma_print_shapes.proofs.Spots.{assigned, proper_free}

pub or_false : (b : Bool) → (b || false) ≡ true → b ≡ true
or_false true h = refl
or_false false h = h

pub or_there : (a b : Bool) → (a || b) ≡ true → a ≡ false → b ≡ true
or_there true b h e = absurd (false≢true (sym e))
or_there false b h e = h

pub not_true : (b : Bool) → not b ≡ true → b ≡ false
not_true true h = absurd (false≢true h)
not_true false h = refl

-- no type is there
without_type : (k : Kind) → (is_absent k || belongs sort.TsTypeAnn k) ≡ true → is_of_forms k ≡ true → is_absent k ≡ true
without_type kind.Absent a f = refl
without_type kind.TsTypeAnn a f = absurd (false≢true f)
without_type k a f = absurd (false≢true a)

pub no_type : {r : Role} {spot : Spot} (n : Node) → Sound r spot (maybe sort.TsTypeAnn) n → IsAbsent (cover_at n target.Free)
no_type n s = let h = seen n s in absent_shape target.Free n s (without_type (kind_of n) h.allowed h.bare.1)

without_types : (k : Kind) → (is_absent k || belongs sort.TsTypeParamDecl k) ≡ true → is_of_forms k ≡ true → is_absent k ≡ true
without_types kind.Absent a f = refl
without_types kind.TsTypeParamDecl a f = absurd (false≢true f)
without_types k a f = absurd (false≢true a)

pub no_type_parameters : {r : Role} {spot : Spot} (n : Node) → Sound r spot (maybe sort.TsTypeParamDecl) n → IsAbsent (cover_at n target.Free)
no_type_parameters n s = let h = seen n s in absent_shape target.Free n s (without_types (kind_of n) h.allowed h.bare.1)

-- a value that may be missing
initializer_by : (n : Node) (missing : Bool) → is_absent (kind_of n) ≡ missing → Formed n → Sound role.Free (free 1) (maybe sort.Expr) n → IsInitializer (cover_at n target.Free)
initializer_by n true e f s = no_initializer (absent_shape target.Free n s e)
initializer_by n false e f s =
    initializer (assigned (f.expression role.Free target.Free (free 1) (maybe sort.Expr) s (proper_free 1) refl (value_kind n s (or_there (is_absent (kind_of n)) _ (seen n s).allowed e))) refl)

pub initializer_there : (n : Node) → Formed n → Sound role.Free (free 1) (maybe sort.Expr) n → IsInitializer (cover_at n target.Free)
initializer_there n f s = initializer_by n (is_absent (kind_of n)) refl f s

-- the roles of parts

pub naming : (r : Role) (n : Node) → (functions n).is_this ≡ false → IsNaming (bound_name_of r) n
naming role.Parameter n h = names_parameter h
naming _ n h = names_value refl

pub declared_parts : (r : Role) → is_declared r ≡ true → (a d : Role) → by r a d ≡ d
declared_parts role.Declared h a d = refl
declared_parts role.DeclaredValue h a d = refl
declared_parts role.DeclaredElement h a d = refl
declared_parts role.Parameter h a d = refl
declared_parts role.DefaultedParameter h a d = refl
declared_parts _ h a d = absurd (false≢true h)

pub default_declared : (r : Role) → is_declared r ≡ true → is_declared (in_default r) ≡ true
default_declared role.Declared h = refl
default_declared role.DeclaredValue h = refl
default_declared role.DeclaredElement h = refl
default_declared role.Parameter h = refl
default_declared role.DefaultedParameter h = refl
default_declared _ h = absurd (false≢true h)

pub rest_declared : (r : Role) → takes_rest r ≡ true → in_rest r ≡ role.Declared
rest_declared role.DeclaredElement h = refl
rest_declared role.Parameter h = refl
rest_declared _ h = absurd (false≢true h)

pub rest_taken : (r : Role) → takes_rest r ≡ true → is_declared r ≡ true
rest_taken role.DeclaredElement h = refl
rest_taken role.Parameter h = refl
rest_taken _ h = absurd (false≢true h)

-- the kinds that these roles have

only_binding : (k : Kind) → belongs sort.Pat k ≡ true → ((is_binding k || is_absent k) || false) ≡ true → is_binding k ≡ true
only_binding kind.Absent b h = absurd (false≢true b)
only_binding k b h = or_false (is_binding k) (or_false _ h)

no_rest : (k : Kind) → is_rest k ≡ false → ((is_binding k || is_rest k) || false) ≡ true → is_binding k ≡ true
no_rest kind.RestPat e h = absurd (false≢true (sym e))
no_rest k e h = or_false (is_binding k) (or_false _ h)

only_element : (k : Kind) → is_absent k ≡ false → ((is_binding k || (is_default k || (is_rest k || is_absent k))) || false) ≡ true → (is_binding k || (is_default k || is_rest k)) ≡ true
only_element kind.Absent e h = absurd (false≢true (sym e))
only_element kind.BindingIdent e h = refl
only_element (kind.ArrayPat optional) e h = refl
only_element (kind.ObjectPat optional) e h = refl
only_element kind.AssignPat e h = refl
only_element kind.RestPat e h = refl
only_element k e h = h

pub binding_there : {spot : Spot} (n : Node) → Sound role.Declared spot (one sort.Pat) n → is_binding (kind_of n) ≡ true
unfolding may_be takes
binding_there n s = let h = seen n s in only_binding (kind_of n) h.allowed (stands_as role.Declared (out-Node n).span (out-Node n).kind (out-Node n).children h).1

pub value_there : {spot : Spot} {shape : Shape} (n : Node) → Sound role.DeclaredValue spot shape n → (is_binding (kind_of n) || is_default (kind_of n)) ≡ true
unfolding may_be takes
value_there n s = let h = seen n s in or_false _ (stands_as role.DeclaredValue (out-Node n).span (out-Node n).kind (out-Node n).children h).1

same_rest : (k : Kind) → is_rest_pattern k ≡ false → is_rest k ≡ false
same_rest kind.RestPat h = h
same_rest k h = refl

-- what has a default is no rest
pub no_rest_before : {r : Role} {spot : Spot} {shape : Shape} (at : Span) (a : Node) (cs : List Node) → Here r spot shape at kind.AssignPat (a ∷ cs) → is_rest (kind_of a) ≡ false
unfolding misfits_by
no_rest_before at a cs h = same_rest (kind_of a) (sym (ap (λ ns. of_kind is_rest_pattern (slice_get ns 0)) (children_made at kind.AssignPat (a ∷ cs))) ∙ fitting_here h)

defaulted_there : {spot : Spot} (n : Node) → Sound role.DefaultedParameter spot (one sort.Pat) n → is_rest (kind_of n) ≡ false → is_binding (kind_of n) ≡ true
unfolding may_be takes
defaulted_there n s e = let h = seen n s in no_rest (kind_of n) e (stands_as role.DefaultedParameter (out-Node n).span (out-Node n).kind (out-Node n).children h).1

pub before_default : (r : Role) {spot : Spot} (n : Node) → is_declared r ≡ true → Sound (in_default r) spot (one sort.Pat) n → is_rest (kind_of n) ≡ false → is_binding (kind_of n) ≡ true
before_default role.Declared n d s e = binding_there n s
before_default role.DeclaredValue n d s e = binding_there n s
before_default role.DeclaredElement n d s e = binding_there n s
before_default role.Parameter n d s e = defaulted_there n s e
before_default role.DefaultedParameter n d s e = binding_there n s
before_default _ n d s e = absurd (false≢true d)

no_rest_parameter : (k : Kind) → belongs sort.Pat k ≡ true → is_rest k ≡ false → ((is_binding k || (is_default k || (is_rest k || is_absent k))) || false) ≡ true → (is_binding k || is_default k) ≡ true
no_rest_parameter kind.Absent b e h = absurd (false≢true b)
no_rest_parameter kind.RestPat b e h = absurd (false≢true (sym e))
no_rest_parameter kind.BindingIdent b e h = refl
no_rest_parameter (kind.ArrayPat optional) b e h = refl
no_rest_parameter (kind.ObjectPat optional) b e h = refl
no_rest_parameter kind.AssignPat b e h = refl
no_rest_parameter k b e h = absurd (false≢true h)

pub parameter_there : {spot : Spot} (n : Node) → Sound role.Parameter spot (one sort.Pat) n → is_rest_pattern (kind_of n) ≡ false → (is_binding (kind_of n) || is_default (kind_of n)) ≡ true
unfolding may_be takes
parameter_there n s e = let h = seen n s in no_rest_parameter (kind_of n) h.allowed (same_rest (kind_of n) e) (stands_as role.Parameter (out-Node n).span (out-Node n).kind (out-Node n).children h).1

pub element_there : (r : Role) {spot : Spot} {shape : Shape} (at : Span) (k : Kind) (cs : List Node) → takes_rest r ≡ true → Here r spot shape at k cs → is_absent k ≡ false → (is_binding k || (is_default k || is_rest k)) ≡ true
unfolding may_be takes
element_there role.DeclaredElement at k cs d h e = only_element k e (stands_as role.DeclaredElement at k cs h).1
element_there role.Parameter at k cs d h e = only_element k e (stands_as role.Parameter at k cs h).1
element_there _ at k cs d h e = absurd (false≢true d)

-- a list and its items

pub record ItemsOf (r : Role) (shape : Shape) (n : Node) : Type 0 where
  pub at : Span
  pub nodes : List Node
  pub formed : AllFormed nodes
  pub items : AllSound (λ i. in_list r) [] (free 1) (replicate (length nodes) (item_shape shape)) nodes
  pub cover_is : (t : Target) → cover_at n t ≡ node_of at kind.List (each_in (λ i. targets.in_list t) (map cover_at nodes))

list_kind : (k : Kind) → is_list k ≡ true → k ≡ kind.List
list_kind kind.List h = refl
list_kind k h = absurd (false≢true h)

list_covered : (at : Span) (cs : List Node) (t : Target) → cover_at (node_of at kind.List cs) t ≡ node_of at kind.List (each_in (λ i. targets.in_list t) (map cover_at cs))
unfolding cover_in target_in
list_covered at cs t = covered at kind.List cs t refl

list_items : {r : Role} {shape : Shape} (at : Span) (cs : List Node) → Here r (free 1) shape at kind.List cs → AllSound (λ i. in_list r) [] (free 1) (replicate (length cs) (item_shape shape)) cs
unfolding role_in
list_items at cs h = h.below

pub items_of : {r : Role} {shape : Shape} (n : Node) → AllFormed (out-Node n).children → Sound r (free 1) shape n → is_list (kind_of n) ≡ true → ItemsOf r shape n
items_of {r} {shape} n f s is =
    let x = out-Node n in
    let e = list_kind x.kind is in
    record {
      at = x.span;
      nodes = x.children;
      formed = f;
      items = list_items x.span x.children (subst (λ k. Here r (free 1) shape x.span k x.children) e (seen n s));
      cover_is = λ t. ap (λ m. cover_at m t) (sym (roll-out-Node n)) ∙ ap (λ k. cover_at (node_of x.span k x.children) t) e ∙ list_covered x.span x.children t;
    }
