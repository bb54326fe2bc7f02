-- Declarators have their shapes; in the head of a loop their values hold no `in` outside of brackets.
use Rattle.std.proofs.Common.{◌≡◌, ◌∙◌, refl, sym, ap, subst, Bool, true, false, not, List, [], ◌∷◌, map, slice_get}
use Rattle.std.proofs.lemmas.Bool.{false≢true}
use Rattle.ecma_kind.specs.declared.span.Span.{Span}
use Rattle.ecma_kind.specs.declared.kind.Kind.{Kind}
use Rattle.ecma_kind.specs.declared.kind.Kind.TheVariants as kind
use Rattle.ecma_kind.specs.declared.operators.VarDeclKind.{VarDeclKind}
use Rattle.ecma_kind.specs.declared.shapes.Shape.{Shape}
use Rattle.ecma_kind.specs.declared.shapes.Sort.TheVariants as sort
use Rattle.ecma_tree.specs.declared.node.Node.{Node, fold-roll-Node, out-Node}
use Rattle.ecma_tree.specs.Nodes.{node_of}
use Rattle.ecma_tree.specs.Sorted.{is_absent, many, maybe, one}
use Rattle.ecma_rules.specs.declared.target.Target.TheVariants as target
use Rattle.ecma_rules.specs.Children.{children_of, has_child, is_present, kind_of, of_kind}
use Rattle.ecma_rules.specs.Lists.{is_one_without_value}
use Rattle.ecma_rules.specs.Targets.{target_in}
use Rattle.ecma_covers.specs.Covering.{cover_at, cover_in}
use Rattle.ecma_fits.specs.Counts.{is_empty, is_full_by}
use Rattle.ecma_fits.specs.declared.role.Role.{Role}
use Rattle.ecma_fits.specs.declared.role.Role.TheVariants as role
use Rattle.ecma_fits.specs.Roles.{role_in}
use Rattle.ecma_print.specs.declared.place.Beside.TheVariants as beside
use Rattle.ecma_print.specs.declared.place.Spot.{Spot}
use Rattle.ecma_print.specs.Places.{free, right}
use Rattle.ecma_print_heads.specs.Laws.{CoversHoldNoBareIn, HeadsHoldNoBareIn}
use Rattle.ecma_shapes.specs.Heads.{any_of, may_hold_by, may_hold_in, may_hold_step}
use Rattle.ecma_shapes.specs.Shapes.{AreDeclarators, IsAbsent, IsDeclarator, IsInitializer, IsPattern, absent, array_pattern, declaration, declarator, initializer, more_declarators, name_pattern, no_declarators, no_initializer, object_pattern}
use Rattle.ecma_print_shapes.proofs.Assignments.{full}
use Rattle.ecma_print_shapes.proofs.Bindings.{binding_there, not_true}
use Rattle.ecma_print_shapes.proofs.Blocks.{ItemsIn, items_covered, items_in, list_of_kind}
use Rattle.ecma_print_shapes.proofs.Building.{absent_shape}
use Rattle.ecma_print_shapes.proofs.ByKind.{in_place, made_as}
use Rattle.ecma_print_shapes.proofs.Claims.{AllFormed, Declares, DeclaresAll, Formed, IsBinding, IsOneBinding, Stated, alone, one_binding, seen}
use Rattle.ecma_print_shapes.proofs.Covered.{covered}
use Rattle.ecma_print_shapes.proofs.Simple.{undeclared}
use Rattle.ecma_print_shapes.proofs.Sound.{Here, Sound, children_made}
use Rattle.ecma_print_shapes.proofs.Spots.{assigned, child_value, proper_right}
use Rattle.ecma_print_shapes.proofs.Stated.{Made, made_declaration, stated}

-- what holds no bare `in`

pub held : (at : Span) (k : Kind) (cs : List Node) → may_hold_in (node_of at k cs) ≡ may_hold_by k (map may_hold_in cs)
held at k cs = fold-roll-Node Bool may_hold_step (record { span = at; kind = k; children = cs })

pattern_unheld : {p : Node} → IsPattern p → may_hold_in p ≡ false
pattern_unheld (name_pattern at i n) = held at kind.BindingIdent _
pattern_unheld (array_pattern at of_list s n) = held at (kind.ArrayPat false) _
pattern_unheld (object_pattern at of_list s n) = held at (kind.ObjectPat false) _

pub absent_unheld : {n : Node} → IsAbsent n → may_hold_in n ≡ false
absent_unheld (absent at) = held at kind.Absent []

neither_holds : (a b : Bool) → a ≡ false → b ≡ false → any_of (a ∷ b ∷ []) ≡ false
neither_holds a b h g = rw (h, g) refl

none_of_all : (a : Bool) (bs : List Bool) → a ≡ false → any_of bs ≡ false → any_of (a ∷ bs) ≡ false
none_of_all true bs h g = absurd (false≢true (sym h))
none_of_all false bs h g = g

-- what is declared

pub declared_pattern : {n : Node} → Formed n → Sound role.Declared (free 1) (one sort.Pat) n → IsPattern (cover_at n target.Free)
declared_pattern {n} f s = f.pattern role.Declared (one sort.Pat) refl s (binding_there n s)

is_missing : (k : Kind) → is_present k ≡ false → is_absent k ≡ true
is_missing kind.Absent h = refl
is_missing k h = absurd (false≢true (sym h))

-- with the laws of heads
module _ (heads : HeadsHoldNoBareIn) (covers : CoversHoldNoBareIn) where
  pub value_unheld : {r : Role} {spot : Spot} (n : Node) → Sound r spot (one sort.Expr) n → spot.without_in ≡ true → may_hold_in (cover_at n target.Free) ≡ false
  value_unheld {spot = spot} n s w = covers n (heads n spot s.shaped w s.complete)

  record Initial (without_in : Bool) (n : Node) : Type 0 where
    shape : IsInitializer (cover_at n target.Free)
    unheld : without_in ≡ true → may_hold_in (cover_at n target.Free) ≡ false

  initial : (spot : Spot) (n : Node) (missing : Bool) → is_absent (kind_of n) ≡ missing → Formed n → Sound role.Free (right spot 1 beside.NoNeighbor) (maybe sort.Expr) n → Initial spot.without_in n
  initial spot n true e f s = let a = absent_shape target.Free n s e in record { shape = no_initializer a; unheld = λ w. absent_unheld a }
  initial spot n false e f s =
      let s' = in_place sort.Expr n refl e s in
      record { shape = initializer (assigned (child_value f s' refl (proper_right spot 1 beside.NoNeighbor refl)) refl); unheld = λ w. value_unheld n s' w }

  declarator_parts : (spot : Spot) (at : Span) (a b : Node) → AllFormed (a ∷ b ∷ []) → Sound role.Declared (free 1) (one sort.Pat) a → Sound role.Free (right spot 1 beside.NoNeighbor) (maybe sort.Expr) b
      → cover_at (node_of at (kind.VarDeclarator false) (a ∷ b ∷ [])) target.Free ≡ node_of at (kind.VarDeclarator false) (cover_at a target.Free ∷ cover_at b target.Free ∷ []) → Declares spot (node_of at (kind.VarDeclarator false) (a ∷ b ∷ []))
  declarator_parts spot at a b f s s' c =
      let p = declared_pattern f.0 s in
      let i = initial spot b (is_absent (kind_of b)) refl f.1.0 s' in
      record {
        shape = subst IsDeclarator (sym c) (declarator at p i.shape);
        unheld = λ w. subst (λ z. may_hold_in z ≡ false) (sym c) (held at (kind.VarDeclarator false) _ ∙ neither_holds _ _ (pattern_unheld p) (i.unheld w));
        binds = λ e. subst IsBinding (sym c) (alone at p (absent_shape target.Free b s' (is_missing (kind_of b) (sym (ap (λ z. of_kind is_present (slice_get z 1)) (children_made at (kind.VarDeclarator false) (a ∷ b ∷ []))) ∙ e))));
      }

  declarator_here : (spot : Spot) (at : Span) (cs : List Node) → AllFormed cs → Here role.Free (right spot 1 beside.NoNeighbor) (one sort.VarDeclarator) at (kind.VarDeclarator false) cs → Declares spot (node_of at (kind.VarDeclarator false) cs)
  unfolding cover_in target_in role_in
  declarator_here spot at [] f h = absurd h.below
  declarator_here spot at (a ∷ []) f h = absurd h.below.1
  declarator_here spot at (a ∷ b ∷ []) f h = declarator_parts spot at a b f h.below.0 h.below.1.0 (covered at (kind.VarDeclarator false) (a ∷ b ∷ []) target.Free refl)
  declarator_here spot at (a ∷ b ∷ c ∷ cs) f h = absurd h.below.1.1

  pub declarator_formed : (at : Span) (k : Kind) (cs : List Node) → AllFormed cs → (spot : Spot) → Here role.Free (right spot 1 beside.NoNeighbor) (one sort.VarDeclarator) at k cs → Declares spot (node_of at k cs)
  declarator_formed at (kind.VarDeclarator definite) cs f spot h =
      undeclared (λ d. Here role.Free (right spot 1 beside.NoNeighbor) (one sort.VarDeclarator) at (kind.VarDeclarator d) cs → Declares spot (node_of at (kind.VarDeclarator d) cs)) definite h.bare.1 (declarator_here spot at cs f) h
  declarator_formed at k cs f spot h = absurd (false≢true h.allowed)

-- lists of them

module _ (spot : Spot) where
  abbrev Items : List Node → Type 0
  Items cs = ItemsIn (right spot 1 beside.NoNeighbor) (one sort.VarDeclarator) cs

  declarators_of : (cs : List Node) → AllFormed cs → Items cs → AreDeclarators (items_covered cs)
  declarators_of [] f h = no_declarators
  declarators_of (c ∷ cs) f h = more_declarators (f.0.declarator spot h.0).shape (declarators_of cs f.1 h.1)

  declarators_unheld : (cs : List Node) → AllFormed cs → Items cs → spot.without_in ≡ true → any_of (map may_hold_in (items_covered cs)) ≡ false
  declarators_unheld [] f h w = refl
  declarators_unheld (c ∷ cs) f h w = none_of_all (may_hold_in (cover_at c target.Free)) (map may_hold_in (items_covered cs)) ((f.0.declarator spot h.0).unheld w) (declarators_unheld cs f.1 h.1 w)

  one_of : (c : Node) (cs : List Node) → AllFormed (c ∷ cs) → Items (c ∷ cs) → is_one_without_value (c ∷ cs) ≡ true → IsOneBinding (items_covered (c ∷ cs))
  one_of c [] f h e = one_binding ((f.0.declarator spot h.0).binds (not_true (has_child c 1) e))
  one_of c (d ∷ cs) f h e = absurd (false≢true e)

  declarators_here : (at : Span) (cs : List Node) → AllFormed cs → Items cs → is_empty cs ≡ false → DeclaresAll spot (node_of at kind.List cs)
  unfolding cover_in target_in
  declarators_here at [] f h e = absurd (false≢true (sym e))
  declarators_here at (c ∷ cs) f h e = record {
    at = at;
    first = cover_at c target.Free;
    more = items_covered cs;
    cover_is = covered at kind.List (c ∷ cs) target.Free refl;
    head = (f.0.declarator spot h.0).shape;
    others = declarators_of cs f.1 h.1;
    unheld = λ w. declarators_unheld (c ∷ cs) f h w;
    binds = λ o. one_of c cs f h (sym (ap is_one_without_value (children_made at kind.List (c ∷ cs))) ∙ o);
  }

  pub declarators_formed : (n : Node) → AllFormed (out-Node n).children → Sound role.Free (right spot 1 beside.NoNeighbor) (many sort.VarDeclarator) n → is_empty (out-Node n).children ≡ false → DeclaresAll spot n
  declarators_formed n below s e =
      let is = (seen n s).allowed in
      made_as (DeclaresAll spot) n kind.List (list_of_kind (kind_of n) is) (declarators_here (out-Node n).span (out-Node n).children below (items_in n s is) e)

-- declarations

-- at least one of them
pub declarators_there : {r : Role} {spot : Spot} {shape : Shape} (at : Span) (k : VarDeclKind) (a : Node) → Here r spot shape at (kind.VarDecl k false) (a ∷ []) → is_empty (out-Node a).children ≡ false
unfolding is_full_by
declarators_there at k a h =
    not_true (is_empty (out-Node a).children) (sym (ap (λ z. not (is_empty (children_of (slice_get z 0)))) (children_made at (kind.VarDecl k false) (a ∷ []))) ∙ full at (kind.VarDecl k false) (a ∷ []) h)

module _ {shape : Shape} (at : Span) where
  variables_parts : (k : VarDeclKind) (cs : List Node) → AllFormed cs → Here role.Free (free 0) shape at (kind.VarDecl k false) cs → Stated (node_of at (kind.VarDecl k false) cs)
  unfolding cover_in target_in role_in
  variables_parts k [] f h = absurd h.below
  variables_parts k (a ∷ []) f h =
      let l = f.0.declarators (free 0) h.below.0 (declarators_there at k a h) in
      stated at (kind.VarDecl k false) (a ∷ []) refl
      (subst (λ z. Made (node_of at (kind.VarDecl k false) (z ∷ [])) false true) (sym l.cover_is) (made_declaration false (declaration at l.at k l.head l.others) refl))
  variables_parts k (a ∷ b ∷ cs) f h = absurd h.below.1

  pub variables_statement : (k : VarDeclKind) (declare : Bool) (cs : List Node) → AllFormed cs → Here role.Free (free 0) shape at (kind.VarDecl k declare) cs → Stated (node_of at (kind.VarDecl k declare) cs)
  variables_statement k declare cs f h =
      undeclared (λ d. Here role.Free (free 0) shape at (kind.VarDecl k d) cs → Stated (node_of at (kind.VarDecl k d) cs)) declare h.bare.1 (variables_parts k cs f) h
