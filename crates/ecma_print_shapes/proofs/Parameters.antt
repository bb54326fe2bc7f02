-- Parameters, bodies and functions have their shapes.
use Rattle.std.proofs.Common.{◌≡◌, ◌∙◌, ◌⊎◌, inl, inr, refl, sym, ap, subst, Bool, true, false, List, [], ◌∷◌, map, length, replicate}
use Rattle.std.proofs.lemmas.Bool.{false≢true}
use Rattle.ecma_kind.specs.Sorts.{belongs, is_expr}
use Rattle.ecma_kind.specs.declared.span.Span.{Span}
use Rattle.ecma_kind.specs.declared.kind.Kind.{Kind}
use Rattle.ecma_kind.specs.declared.kind.Kind.TheVariants as kind
use Rattle.ecma_kind.specs.declared.shapes.Shape.{Shape}
use Rattle.ecma_kind.specs.declared.shapes.Sort.TheVariants as sort
use Rattle.ecma_tree.specs.declared.node.Node.{Node, out-Node}
use Rattle.ecma_tree.specs.declared.node.Node.TheViews.{roll-out-Node}
use Rattle.ecma_tree.specs.Nodes.{node_of}
use Rattle.ecma_tree.specs.Sorted.{allows, is_absent, is_list, item_shape, many, maybe, one}
use Rattle.ecma_rules.specs.declared.target.Target.{Target}
use Rattle.ecma_rules.specs.declared.target.Target.TheVariants as target
use Rattle.ecma_rules.specs.Children.{kind_of}
use Rattle.ecma_rules.specs.Finishing.{each_in}
use Rattle.ecma_rules.specs.Targets.{target_in}
use Rattle.ecma_covers.specs.Covering.{cover_at, cover_in}
use Rattle.ecma_fits.specs.declared.role.Role.{Role}
use Rattle.ecma_fits.specs.declared.role.Role.TheVariants as role
use Rattle.ecma_fits.specs.Counts.{is_full_by}
use Rattle.ecma_fits.specs.Roles.{role_in}
use Rattle.ecma_print.specs.declared.place.Begins.TheVariants.{ArrowBodyStart}
use Rattle.ecma_print.specs.declared.place.Spot.{Spot}
use Rattle.ecma_print.specs.Places.{beginning, free}
use Rattle.ecma_shapes.specs.Shapes.{AreElements, AreParams, IsAbsent, IsArguments, IsBlock, IsExpression, IsFunction, arguments, arrow_block, arrow_function, assignment, bindings, function_of, more_elements, more_params, no_arguments, no_elements, no_params}
use Rattle.ecma_plain.specs.Forms.{is_of_forms}
use Rattle.ecma_plain.specs.Functions.{functions}
use Rattle.ecma_print_shapes.proofs.Assignments.{full}
use Rattle.ecma_print_shapes.proofs.Beginnings.{begins_with_no_brace}
use Rattle.ecma_print_shapes.proofs.Bindings.{items_of, no_type, no_type_parameters, not_true, or_there}
use Rattle.ecma_print_shapes.proofs.ByKind.{made_as, seen_as}
use Rattle.ecma_print_shapes.proofs.Claims.{AllFormed, Formed, ParameterOf, ParametersOf, seen, value_kind}
use Rattle.ecma_print_shapes.proofs.Covered.{covered, covered_children}
use Rattle.ecma_print_shapes.proofs.Seats.{either_parts}
use Rattle.ecma_print_shapes.proofs.Sound.{AllSound, Here, Sound, functions_made}
use Rattle.ecma_print_shapes.proofs.Spots.{assigned, proper_beginning}

-- a body

pub missing_kind : (n : Node) → (functions n).is_missing ≡ is_absent (kind_of n)
missing_kind n = let x = out-Node n in sym (ap (λ m. (functions m).is_missing) (roll-out-Node n)) ∙ ap (λ m. m.is_missing) (functions_made x.span x.kind x.children)

pub block_kind : (k : Kind) → belongs sort.BlockStmt k ≡ true → k ≡ kind.BlockStmt
block_kind kind.BlockStmt h = refl
block_kind k h = absurd (false≢true h)

pub body_there : {spot : Spot} (n : Node) → Formed n → Sound role.Free spot (maybe sort.BlockStmt) n → (functions n).is_missing ≡ false → IsBlock (cover_at n target.Free)
body_there {spot} n f s e = f.block spot (maybe sort.BlockStmt) s (block_kind (kind_of n) (or_there (is_absent (kind_of n)) _ (seen n s).allowed (sym (missing_kind n) ∙ e)))

-- parameters of arrow functions

pub pattern_present : (k : Kind) → belongs sort.Pat k ≡ true → is_absent k ≡ false
pattern_present kind.Absent h = absurd (false≢true h)
pattern_present k h = refl

elements_of : (cs : List Node) → AllFormed cs → AllSound (λ i. role.Parameter) [] (free 1) (replicate (length cs) (one sort.Pat)) cs → AreElements bindings (each_in (λ i. target.Free) (map cover_at cs))
elements_of [] f h = no_elements
elements_of (c ∷ cs) f h = more_elements (f.0.bound_element role.Parameter (one sort.Pat) refl h.0 (pattern_present (kind_of c) (seen c h.0).allowed)) (elements_of cs f.1 h.1)

arguments_from : (at : Span) (ns : List Node) → AreElements bindings ns → IsArguments bindings (node_of at kind.List ns)
arguments_from at [] no_elements = no_arguments at
arguments_from at (n ∷ ns) (more_elements x xs) = arguments at x xs

pub bound_arguments_formed : (n : Node) → AllFormed (out-Node n).children → Sound role.Parameters (free 1) (many sort.Pat) n → IsArguments bindings (cover_at n target.Free)
bound_arguments_formed n f s =
    let l = items_of n f s (seen n s).allowed in
    subst (IsArguments bindings) (sym (l.cover_is target.Free)) (arguments_from l.at (each_in (λ i. target.Free) (map cover_at l.nodes)) (elements_of l.nodes l.formed l.items))

-- parameters of functions

parameter_by : {shape : Shape} (at : Span) (cs : List Node) → AllFormed cs → Here role.Free (free 1) shape at kind.Param cs → ParameterOf (node_of at kind.Param cs)
unfolding cover_in target_in role_in
parameter_by at [] f h = absurd h.below
parameter_by at (a ∷ []) f h =
    record {
      at = at;
      pattern = cover_at a target.Free;
      element = f.0.bound_element role.Parameter (one sort.Pat) refl h.below.0 (pattern_present (kind_of a) (seen a h.below.0).allowed);
      cover_is = covered at kind.Param (a ∷ []) target.Free refl;
    }
parameter_by at (a ∷ b ∷ cs) f h = absurd h.below.1

pub parameter_formed : (n : Node) → AllFormed (out-Node n).children → (shape : Shape) → Sound role.Free (free 1) shape n → kind_of n ≡ kind.Param → ParameterOf n
parameter_formed n f shape s e = made_as ParameterOf n kind.Param e (parameter_by (out-Node n).span (out-Node n).children f (seen_as n kind.Param e s))

abbrev AreParameters : Shape → Type 0
AreParameters shape = (shape ≡ one sort.Param) ⊎ (shape ≡ one sort.ParamOrTsParamProp)

one_parameter : (k : Kind) → belongs sort.Param k ≡ true → k ≡ kind.Param
one_parameter kind.Param h = refl
one_parameter k h = absurd (false≢true h)

plain_parameter : (k : Kind) → is_of_forms k ≡ true → belongs sort.ParamOrTsParamProp k ≡ true → k ≡ kind.Param
plain_parameter kind.Param f h = refl
plain_parameter (kind.TsParamProp accessibility is_override readonly) f h = absurd (false≢true f)
plain_parameter k f h = absurd (false≢true h)

parameter_kind : (shape : Shape) (k : Kind) → AreParameters shape → is_of_forms k ≡ true → allows shape k ≡ true → k ≡ kind.Param
parameter_kind shape k (inl e) f h = one_parameter k (subst (λ z. allows z k ≡ true) e h)
parameter_kind shape k (inr e) f h = plain_parameter k f (subst (λ z. allows z k ≡ true) e h)

record Stood (ns : List Node) : Type 0 where
  elements : List Node
  are : AreElements bindings elements
  stand : AreParams elements ns

stood : (shape : Shape) → AreParameters shape → (cs : List Node) → AllFormed cs → AllSound (λ i. role.Free) [] (free 1) (replicate (length cs) shape) cs → Stood (each_in (λ i. target.Free) (map cover_at cs))
stood shape e [] f h = record { elements = []; are = no_elements; stand = no_params }
stood shape e (c ∷ cs) f h =
    let p = f.0.parameter shape h.0 (parameter_kind shape (kind_of c) e (seen c h.0).bare.1 (seen c h.0).allowed) in
    let more = stood shape e cs f.1 h.1 in
    record {
      elements = p.pattern ∷ more.elements;
      are = more_elements p.element more.are;
      stand = subst (λ z. AreParams (p.pattern ∷ more.elements) (z ∷ each_in (λ i. target.Free) (map cover_at cs))) (sym p.cover_is) (more_params p.at more.stand);
    }

pub parameters_formed : (n : Node) → AllFormed (out-Node n).children → (shape : Shape) → AreParameters (item_shape shape) → Sound role.Free (free 1) shape n → is_list (kind_of n) ≡ true → ParametersOf n
parameters_formed n f shape e s is =
    let l = items_of n f s is in
    let all = stood (item_shape shape) e l.nodes l.formed l.items in
    record {
      at = l.at;
      elements = all.elements;
      params = each_in (λ i. target.Free) (map cover_at l.nodes);
      cover_is = l.cover_is target.Free;
      are = arguments_from l.at all.elements all.are;
      stand = all.stand;
    }

-- functions

module _ (at : Span) where
  function_by : (is_generator is_async : Bool) (cs : List Node) → AllFormed cs → Here role.Free (free 1) (one sort.Function) at (kind.Function is_generator is_async) cs → IsFunction (cover_at (node_of at (kind.Function is_generator is_async) cs) target.Free)
  unfolding cover_in target_in role_in
  function_by g y [] f h = absurd h.below
  function_by g y (a ∷ []) f h = absurd h.below.1
  function_by g y (a ∷ b ∷ []) f h = absurd h.below.1.1
  function_by g y (a ∷ b ∷ c ∷ []) f h = absurd h.below.1.1.1
  function_by g y (a ∷ b ∷ c ∷ d ∷ []) f h =
      let k = kind.Function g y in
      let l = f.0.parameters (many sort.Param) (inl refl) h.below.0 (seen a h.below.0).allowed in
      subst IsFunction (sym (covered at k (a ∷ b ∷ c ∷ d ∷ []) target.Free refl))
      (subst (λ z. IsFunction (node_of at k (z ∷ cover_at b target.Free ∷ cover_at c target.Free ∷ cover_at d target.Free ∷ []))) (sym l.cover_is)
      (function_of at l.at g y l.are l.stand (body_there b f.1.0 h.below.1.0 (either_parts _ _ h.usual).0) (no_type_parameters c h.below.1.1.0) (no_type d h.below.1.1.1.0)))
  function_by g y (a ∷ b ∷ c ∷ d ∷ e ∷ cs) f h = absurd h.below.1.1.1.1

  pub function_formed : (k : Kind) (cs : List Node) → AllFormed cs → Here role.Free (free 1) (one sort.Function) at k cs → IsFunction (cover_at (node_of at k cs) target.Free)
  function_formed (kind.Function is_generator is_async) cs f h = function_by is_generator is_async cs f h
  function_formed k cs f h = absurd (false≢true h.allowed)

-- arrow functions

data BodyKind (k : Kind) : Type 0 where
  block_body : k ≡ kind.BlockStmt → BodyKind k
  value_body : is_expr k ≡ true → BodyKind k

body_kind : (k : Kind) → belongs sort.BlockStmtOrExpr k ≡ true → BodyKind k
body_kind kind.BlockStmt h = block_body refl
body_kind k h = value_body h

arrow_by : {in_head : Bool} (at : Span) (is_async : Bool) {params none none' : Node} (b : Node) → IsArguments bindings params → IsAbsent none → IsAbsent none' → Formed b → Sound role.Free (beginning 1 ArrowBodyStart in_head) (one sort.BlockStmtOrExpr) b → BodyKind (kind_of b)
    → IsExpression assignment (node_of at (kind.ArrowExpr is_async false) (params ∷ cover_at b target.Free ∷ none ∷ none' ∷ []))
arrow_by {in_head} at is_async b p n n' f s (block_body e) = arrow_block at is_async p (f.block (beginning 1 ArrowBodyStart in_head) (one sort.BlockStmtOrExpr) s e) n n'
arrow_by {in_head} at is_async b p n n' f s (value_body is) =
    let e = f.expression role.Free target.Free (beginning 1 ArrowBodyStart in_head) (one sort.BlockStmtOrExpr) s (proper_beginning 1 ArrowBodyStart in_head) refl (value_kind b s is) in
    arrow_function at is_async p (assigned e refl) (begins_with_no_brace b s refl) n n'

module _ {r : Role} {spot : Spot} {shape : Shape} (t : Target) (at : Span) where
  no_generator : (is_async is_generator : Bool) (cs : List Node) → Here r spot shape at (kind.ArrowExpr is_async is_generator) cs → is_generator ≡ false
  unfolding is_full_by
  no_generator is_async is_generator cs h = not_true is_generator (full at (kind.ArrowExpr is_async is_generator) cs h)

  pub arrow_formed : (is_async is_generator : Bool) (cs : List Node) → AllFormed cs → Here r spot shape at (kind.ArrowExpr is_async is_generator) cs
      → IsExpression assignment (node_of at (kind.ArrowExpr is_async is_generator) (covered_children t (kind.ArrowExpr is_async is_generator) cs))
  unfolding cover_in target_in role_in
  arrow_formed y g [] f h = absurd h.below
  arrow_formed y g (a ∷ []) f h = absurd h.below.1
  arrow_formed y g (a ∷ b ∷ []) f h = absurd h.below.1.1
  arrow_formed y g (a ∷ b ∷ c ∷ []) f h = absurd h.below.1.1.1
  arrow_formed y g (a ∷ b ∷ c ∷ d ∷ []) f h =
      subst (λ z. IsExpression assignment (node_of at (kind.ArrowExpr y z) (cover_at a target.Free ∷ cover_at b target.Free ∷ cover_at c target.Free ∷ cover_at d target.Free ∷ []))) (sym (no_generator y g (a ∷ b ∷ c ∷ d ∷ []) h))
      (arrow_by at y b (f.0.bound_arguments h.below.0) (no_type_parameters c h.below.1.1.0) (no_type d h.below.1.1.1.0) f.1.0 h.below.1.0 (body_kind (kind_of b) (seen b h.below.1.0).allowed))
  arrow_formed y g (a ∷ b ∷ c ∷ d ∷ e ∷ cs) f h = absurd h.below.1.1.1.1
