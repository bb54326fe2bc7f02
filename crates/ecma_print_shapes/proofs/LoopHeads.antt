-- Heads of loops, and these loops, have their shapes.
use Rattle.std.proofs.Common.{◌≡◌, ◌∙◌, refl, sym, ap, subst, Bool, true, false, not, ◌&&◌, ◌||◌, List, [], ◌∷◌, slice_get}
use Rattle.std.proofs.lemmas.Bool.{false≢true}
use Rattle.ecma_kind.specs.Sorts.{belongs, is_expr}
use Rattle.ecma_kind.specs.declared.span.Span.{Span}
use Rattle.ecma_kind.specs.declared.kind.Kind.{Kind}
use Rattle.ecma_kind.specs.declared.kind.Kind.TheVariants as kind
use Rattle.ecma_kind.specs.declared.operators.VarDeclKind.{VarDeclKind}
use Rattle.ecma_kind.specs.declared.shapes.Shape.{Shape}
use Rattle.ecma_kind.specs.declared.shapes.Sort.TheVariants as sort
use Rattle.ecma_tree.specs.declared.node.Node.{Node, out-Node}
use Rattle.ecma_tree.specs.declared.node.Node.TheViews.{roll-out-Node}
use Rattle.ecma_tree.specs.Nodes.{node_of}
use Rattle.ecma_tree.specs.Sorted.{is_absent, maybe, one}
use Rattle.ecma_rules.specs.declared.target.Target.TheVariants as target
use Rattle.ecma_rules.specs.Children.{children_of, kind_of}
use Rattle.ecma_rules.specs.Lists.{is_one_without_value, is_wrong_head}
use Rattle.ecma_rules.specs.Targets.{is_simple_target, target_in}
use Rattle.ecma_covers.specs.Covering.{cover_at, cover_in}
use Rattle.ecma_fits.specs.declared.role.Role.TheVariants as role
use Rattle.ecma_fits.specs.Roles.{is_binding, is_bound_name, is_name, is_pattern, is_variables, may_be, role_in, takes}
use Rattle.ecma_print.specs.declared.place.Begins.TheVariants.{Anywhere}
use Rattle.ecma_print.specs.declared.place.Spot.{Spot}
use Rattle.ecma_print.specs.Places.{beginning, free}
use Rattle.ecma_print_heads.specs.Laws.{CoversHoldNoBareIn, HeadsHoldNoBareIn}
use Rattle.ecma_shapes.specs.Heads.{may_hold_in}
use Rattle.ecma_shapes.specs.Shapes.{IsExpression, IsForInit, IsForLeft, IsIdent, IsOptional, for_binding, for_in, for_loop, for_of, for_target, given, ident, init_declaration, init_expression, left_out, looser, name, new_callee, no_init}
use Rattle.ecma_print_shapes.proofs.Building.{absent_shape, simple_target, simple_tight, stands_as}
use Rattle.ecma_print_shapes.proofs.ByKind.{in_shape, made_as, seen_as}
use Rattle.ecma_print_shapes.proofs.Claims.{AllFormed, BoundName, Formed, FormedExpression, IsOneBinding, Stated, alone, is_simple, one_binding, seen, value_kind}
use Rattle.ecma_print_shapes.proofs.Covered.{cover_node, covered}
use Rattle.ecma_print_shapes.proofs.Declarators.{declarators_there, held, value_unheld}
use Rattle.ecma_print_shapes.proofs.Nested.{body_of}
use Rattle.ecma_print_shapes.proofs.Ranks.{own_level, to_callee}
use Rattle.ecma_print_shapes.proofs.Simple.{undeclared}
use Rattle.ecma_print_shapes.proofs.Sound.{Here, Sound, children_made, kind_made}
use Rattle.ecma_print_shapes.proofs.Spots.{assigned, child_value, proper_beginning, proper_free}
use Rattle.ecma_print_shapes.proofs.Stated.{made_behind, stated, valued, valued_there}

abbrev pub head_spot : Spot
head_spot = beginning 0 Anywhere true

-- before the first `;`

data InitKind (k : Kind) : Type 0 where
  missing_init : is_absent k ≡ true → InitKind k
  variables_init : (v : VarDeclKind) (declare : Bool) → k ≡ kind.VarDecl v declare → InitKind k
  value_init : is_expr k ≡ true → InitKind k

init_kind : (k : Kind) → (is_absent k || belongs sort.VarDeclOrExpr k) ≡ true → InitKind k
init_kind kind.Absent h = missing_init refl
init_kind (kind.VarDecl v declare) h = variables_init v declare refl
init_kind k h = value_init h

module _ (at : Span) (v : VarDeclKind) where
  init_parts : (cs : List Node) → AllFormed cs → Here role.Free head_spot (maybe sort.VarDeclOrExpr) at (kind.VarDecl v false) cs → IsForInit (cover_at (node_of at (kind.VarDecl v false) cs) target.Free)
  unfolding cover_in target_in role_in
  init_parts [] f h = absurd h.below
  init_parts (a ∷ []) f h =
      let l = f.0.declarators head_spot h.below.0 (declarators_there at v a h) in
      subst IsForInit (sym (covered at (kind.VarDecl v false) (a ∷ []) target.Free refl ∙ ap (λ z. node_of at (kind.VarDecl v false) (z ∷ [])) l.cover_is)) (init_declaration at l.at v l.head l.others (l.unheld refl))
  init_parts (a ∷ b ∷ cs) f h = absurd h.below.1

  init_variables : (declare : Bool) (cs : List Node) → AllFormed cs → Here role.Free head_spot (maybe sort.VarDeclOrExpr) at (kind.VarDecl v declare) cs → IsForInit (cover_at (node_of at (kind.VarDecl v declare) cs) target.Free)
  init_variables declare cs f h =
      undeclared (λ d. Here role.Free head_spot (maybe sort.VarDeclOrExpr) at (kind.VarDecl v d) cs → IsForInit (cover_at (node_of at (kind.VarDecl v d) cs) target.Free)) declare h.bare.1 (init_parts cs f) h

-- before `in` and `of`

data HeadKind (k : Kind) : Type 0 where
  variables_head : (v : VarDeclKind) (declare : Bool) → k ≡ kind.VarDecl v declare → HeadKind k
  name_head : is_bound_name k ≡ true → HeadKind k
  pattern_head : is_pattern k ≡ true → HeadKind k
  target_head : is_simple k ≡ true → HeadKind k

second_true : (a b : Bool) → (a && b) ≡ true → b ≡ true
second_true true b h = h
second_true false b h = absurd (false≢true h)

head_kind : (k : Kind) (t : Bool) → ((is_binding k || is_variables k) || (not (is_name k) && t)) ≡ true → (t ≡ true → is_simple k ≡ true) → HeadKind k
head_kind kind.BindingIdent t h g = name_head refl
head_kind (kind.ArrayPat optional) t h g = pattern_head refl
head_kind (kind.ObjectPat optional) t h g = pattern_head refl
head_kind (kind.VarDecl v declare) t h g = variables_head v declare refl
head_kind k t h g = target_head (g (second_true (not (is_name k)) t h))

left_binding : (at of_list : Span) (v : VarDeclKind) {ds : List Node} → IsOneBinding ds → IsForLeft (node_of at (kind.VarDecl v false) (node_of of_list kind.List ds ∷ []))
left_binding at of_list v (one_binding (alone at' p i)) = for_binding at of_list at' v p i

abbrev wrong_variables : Kind → List Node → Bool
wrong_variables k cs = is_variables k && not (is_one_without_value (children_of (slice_get cs 0)))

holds : (b : Bool) → not b ≡ false → b ≡ true
holds true h = refl
holds false h = absurd (false≢true (sym h))

module _ (at : Span) (v : VarDeclKind) where
  one_there : (a : Node) → is_wrong_head target.Head (node_of at (kind.VarDecl v false) (a ∷ [])) ≡ false → is_one_without_value (out-Node a).children ≡ true
  one_there a h =
      let n = node_of at (kind.VarDecl v false) (a ∷ []) in
      holds (is_one_without_value (out-Node a).children)
      (subst (λ z. wrong_variables (kind.VarDecl v false) z ≡ false) (children_made at (kind.VarDecl v false) (a ∷ [])) (subst (λ z. wrong_variables z (out-Node n).children ≡ false) (kind_made at (kind.VarDecl v false) (a ∷ [])) h))

  left_parts : (cs : List Node) → AllFormed cs → Here role.Head head_spot (one sort.ForHead) at (kind.VarDecl v false) cs → is_wrong_head target.Head (node_of at (kind.VarDecl v false) cs) ≡ false
      → IsForLeft (cover_at (node_of at (kind.VarDecl v false) cs) target.Head)
  unfolding cover_in target_in role_in
  left_parts [] f h w = absurd h.below
  left_parts (a ∷ []) f h w =
      let l = f.0.declarators head_spot h.below.0 (declarators_there at v a h) in
      subst IsForLeft (sym (covered at (kind.VarDecl v false) (a ∷ []) target.Head refl ∙ ap (λ z. node_of at (kind.VarDecl v false) (z ∷ [])) l.cover_is)) (left_binding at l.at v (l.binds (one_there a w)))
  left_parts (a ∷ b ∷ cs) f h w = absurd h.below.1

  left_variables : (declare : Bool) (cs : List Node) → AllFormed cs → Here role.Head head_spot (one sort.ForHead) at (kind.VarDecl v declare) cs → is_wrong_head target.Head (node_of at (kind.VarDecl v declare) cs) ≡ false
      → IsForLeft (cover_at (node_of at (kind.VarDecl v declare) cs) target.Head)
  left_variables declare cs f h w =
      undeclared (λ d. Here role.Head head_spot (one sort.ForHead) at (kind.VarDecl v d) cs → is_wrong_head target.Head (node_of at (kind.VarDecl v d) cs) ≡ false → IsForLeft (cover_at (node_of at (kind.VarDecl v d) cs) target.Head)) declare h.bare.1 (left_parts cs f) h w

-- a literal in the place of a pattern
literal_unheld : (at : Span) (k : Kind) (cs : List Node) → is_pattern k ≡ true → may_hold_in (cover_at (node_of at k cs) target.Head) ≡ false
literal_unheld at (kind.ArrayPat o) [] h = ap may_hold_in (cover_node at (kind.ArrayPat o) [] target.Head) ∙ held at (kind.ArrayPat o) _
literal_unheld at (kind.ArrayPat o) (a ∷ []) h = ap may_hold_in (cover_node at (kind.ArrayPat o) (a ∷ []) target.Head) ∙ held at (kind.ArrayPat o) _
literal_unheld at (kind.ArrayPat o) (a ∷ b ∷ []) h = ap may_hold_in (cover_node at (kind.ArrayPat o) (a ∷ b ∷ []) target.Head) ∙ held at kind.ArrayLit _
literal_unheld at (kind.ArrayPat o) (a ∷ b ∷ c ∷ cs) h = ap may_hold_in (cover_node at (kind.ArrayPat o) (a ∷ b ∷ c ∷ cs) target.Head) ∙ held at (kind.ArrayPat o) _
literal_unheld at (kind.ObjectPat o) [] h = ap may_hold_in (cover_node at (kind.ObjectPat o) [] target.Head) ∙ held at (kind.ObjectPat o) _
literal_unheld at (kind.ObjectPat o) (a ∷ []) h = ap may_hold_in (cover_node at (kind.ObjectPat o) (a ∷ []) target.Head) ∙ held at (kind.ObjectPat o) _
literal_unheld at (kind.ObjectPat o) (a ∷ b ∷ []) h = ap may_hold_in (cover_node at (kind.ObjectPat o) (a ∷ b ∷ []) target.Head) ∙ held at kind.ObjectLit _
literal_unheld at (kind.ObjectPat o) (a ∷ b ∷ c ∷ cs) h = ap may_hold_in (cover_node at (kind.ObjectPat o) (a ∷ b ∷ c ∷ cs) target.Head) ∙ held at (kind.ObjectPat o) _
literal_unheld at k cs h = absurd (false≢true h)

pattern_unheld : (n : Node) → is_pattern (kind_of n) ≡ true → may_hold_in (cover_at n target.Head) ≡ false
pattern_unheld n h = subst (λ m. may_hold_in (cover_at m target.Head) ≡ false) (roll-out-Node n) (literal_unheld (out-Node n).span (out-Node n).kind (out-Node n).children h)

-- what is no pattern is covered alike
target_cover : (at : Span) (k : Kind) (cs : List Node) → is_simple k ≡ true → cover_at (node_of at k cs) target.Head ≡ cover_at (node_of at k cs) target.Free
unfolding cover_in target_in
target_cover at (kind.Ident sym_of ctxt optional) cs h = covered at (kind.Ident sym_of ctxt optional) cs target.Head refl ∙ sym (covered at (kind.Ident sym_of ctxt optional) cs target.Free refl)
target_cover at kind.MemberExpr cs h = covered at kind.MemberExpr cs target.Head refl ∙ sym (covered at kind.MemberExpr cs target.Free refl)
target_cover at kind.SuperPropExpr cs h = covered at kind.SuperPropExpr cs target.Head refl ∙ sym (covered at kind.SuperPropExpr cs target.Free refl)
target_cover at kind.ParenExpr cs h = covered at kind.ParenExpr cs target.Head refl ∙ sym (covered at kind.ParenExpr cs target.Free refl)
target_cover at k cs h = absurd (false≢true h)

same_cover : (n : Node) → is_simple (kind_of n) ≡ true → cover_at n target.Head ≡ cover_at n target.Free
same_cover n h = subst (λ m. cover_at m target.Head ≡ cover_at m target.Free) (roll-out-Node n) (target_cover (out-Node n).span (out-Node n).kind (out-Node n).children h)

simple_value : (k : Kind) → is_simple k ≡ true → is_expr k ≡ true
simple_value (kind.Ident sym ctxt optional) h = refl
simple_value kind.MemberExpr h = refl
simple_value kind.SuperPropExpr h = refl
simple_value kind.ParenExpr h = refl
simple_value k h = absurd (false≢true h)

name_unheld : {id : Node} → IsIdent id → may_hold_in id ≡ false
name_unheld (ident at word is) = held at (kind.Ident word 0 false) []

left_kind : (n : Node) → Sound role.Head head_spot (one sort.ForHead) n → HeadKind (kind_of n)
unfolding may_be takes
left_kind n s =
    let x = out-Node n in
    let h = seen n s in
    head_kind (kind_of n) (is_simple_target (node_of x.span x.kind x.children)) (stands_as role.Head x.span x.kind x.children h).1 (λ t. simple_target x.span x.kind x.children h.bare.1 t)

module _ (heads : HeadsHoldNoBareIn) (covers : CoversHoldNoBareIn) (n : Node) (below : AllFormed (out-Node n).children) (own : FormedExpression n) where
  init_by : Sound role.Free head_spot (maybe sort.VarDeclOrExpr) n → InitKind (kind_of n) → IsForInit (cover_at n target.Free)
  init_by s (missing_init e) = no_init (absent_shape target.Free n s e)
  init_by s (variables_init v declare e) = made_as (λ m. IsForInit (cover_at m target.Free)) n (kind.VarDecl v declare) e (init_variables (out-Node n).span v declare (out-Node n).children below (seen_as n (kind.VarDecl v declare) e s))
  init_by s (value_init is) =
      let s' = in_shape (one sort.Expr) n refl is s in
      init_expression (own role.Free target.Free head_spot (one sort.Expr) s' (proper_beginning 0 Anywhere true) refl (value_kind n s' is)).shape (value_unheld heads covers n s' refl)

  pub for_init_formed : Sound role.Free head_spot (maybe sort.VarDeclOrExpr) n → IsForInit (cover_at n target.Free)
  for_init_formed s = init_by s (init_kind (kind_of n) (seen n s).allowed)

  module _ (bound : Sound role.Head head_spot (one sort.ForHead) n → is_bound_name (kind_of n) ≡ true → BoundName n)
      (literal : Sound role.Head head_spot (one sort.ForHead) n → is_pattern (kind_of n) ≡ true → IsExpression new_callee (cover_at n target.Head)) where
    left_by : Sound role.Head head_spot (one sort.ForHead) n → is_wrong_head target.Head n ≡ false → HeadKind (kind_of n) → IsForLeft (cover_at n target.Head)
    left_by s w (variables_head v declare e) =
        made_as (λ m. is_wrong_head target.Head m ≡ false → IsForLeft (cover_at m target.Head)) n (kind.VarDecl v declare) e (left_variables (out-Node n).span v declare (out-Node n).children below (seen_as n (kind.VarDecl v declare) e s)) w
    left_by s w (name_head is) = let b = bound s is in subst IsForLeft (sym (b.assigned target.Head refl)) (for_target (looser (looser (name b.ident))) (name_unheld b.ident))
    left_by s w (pattern_head is) = for_target (looser (looser (literal s is))) (pattern_unheld n is)
    left_by s w (target_head is) =
        let e = own role.Head target.Head head_spot (one sort.ForHead) s (proper_beginning 0 Anywhere true) refl is in
        let tight = simple_tight e.kind e.children false (subst (λ k. is_simple k ≡ true) e.kind_is is) in
        for_target (to_callee (own_level e.kind e.children false) tight e.shape)
        (ap may_hold_in (same_cover n is) ∙ value_unheld heads covers n (in_shape (one sort.Expr) n refl (simple_value (kind_of n) is) s) refl)

    pub for_left_formed : Sound role.Head head_spot (one sort.ForHead) n → is_wrong_head target.Head n ≡ false → IsForLeft (cover_at n target.Head)
    for_left_formed s w = left_by s w (left_kind n s)

-- the loops

part_by : (n : Node) (missing : Bool) → is_absent (kind_of n) ≡ missing → Formed n → Sound role.Free (free 0) (maybe sort.Expr) n → IsOptional (cover_at n target.Free)
part_by n true e f s = left_out (absent_shape target.Free n s e)
part_by n false e f s = given (valued_there f s e).shape

module _ {shape : Shape} (at : Span) where
  pub for_statement : (cs : List Node) → AllFormed cs → Here role.Free (free 0) shape at kind.ForStmt cs → Stated (node_of at kind.ForStmt cs)
  unfolding cover_in target_in role_in
  for_statement [] f h = absurd h.below
  for_statement (a ∷ []) f h = absurd h.below.1
  for_statement (a ∷ b ∷ []) f h = absurd h.below.1.1
  for_statement (a ∷ b ∷ c ∷ []) f h = absurd h.below.1.1.1
  for_statement (a ∷ b ∷ c ∷ d ∷ []) f h =
      let body = body_of f.1.1.1.0 h.below.1.1.1.0 in
      stated at kind.ForStmt (a ∷ b ∷ c ∷ d ∷ []) refl
      (made_behind body.ending body.closes
      (for_loop at (f.0.for_init h.below.0) (part_by b (is_absent (kind_of b)) refl f.1.0 h.below.1.0) (part_by c (is_absent (kind_of c)) refl f.1.1.0 h.below.1.1.0) body.shape))
  for_statement (a ∷ b ∷ c ∷ d ∷ e ∷ cs) f h = absurd h.below.1.1.1.1

  pub for_in_statement : (cs : List Node) → AllFormed cs → Here role.Free (free 0) shape at kind.ForInStmt cs → Stated (node_of at kind.ForInStmt cs)
  unfolding cover_in target_in role_in
  for_in_statement [] f h = absurd h.below
  for_in_statement (a ∷ []) f h = absurd h.below.1
  for_in_statement (a ∷ b ∷ []) f h = absurd h.below.1.1
  for_in_statement (a ∷ b ∷ c ∷ []) f h =
      let body = body_of f.1.1.0 h.below.1.1.0 in
      stated at kind.ForInStmt (a ∷ b ∷ c ∷ []) refl (made_behind body.ending body.closes (for_in at (f.0.for_left h.below.0 h.heads.1) (valued f.1.0 h.below.1.0).shape body.shape))
  for_in_statement (a ∷ b ∷ c ∷ d ∷ cs) f h = absurd h.below.1.1.1

  pub for_of_statement : (is_await : Bool) (cs : List Node) → AllFormed cs → Here role.Free (free 0) shape at (kind.ForOfStmt is_await) cs → Stated (node_of at (kind.ForOfStmt is_await) cs)
  unfolding cover_in target_in role_in
  for_of_statement w [] f h = absurd h.below
  for_of_statement w (a ∷ []) f h = absurd h.below.1
  for_of_statement w (a ∷ b ∷ []) f h = absurd h.below.1.1
  for_of_statement w (a ∷ b ∷ c ∷ []) f h =
      let body = body_of f.1.1.0 h.below.1.1.0 in
      stated at (kind.ForOfStmt w) (a ∷ b ∷ c ∷ []) refl
      (made_behind body.ending body.closes (for_of at w (f.0.for_left h.below.0 h.heads.1) (assigned (child_value f.1.0 h.below.1.0 refl (proper_free 1)) refl) body.shape))
  for_of_statement w (a ∷ b ∷ c ∷ d ∷ cs) f h = absurd h.below.1.1.1
