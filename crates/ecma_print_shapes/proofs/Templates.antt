-- Templates have their shapes, behind tags and without: a text part before each expression and one behind the last.
use Rattle.std.proofs.Common.{◌≡◌, ◌∙◌, refl, sym, ap, subst, ℕ, zero, suc, ◌+◌, Bool, true, false, not, List, [], ◌∷◌, length, replicate, arith, slice_get}
use Rattle.std.proofs.lemmas.Bool.{and_parts, eqb-true, false≢true, not-true}
use Rattle.ecma_kind.specs.declared.span.Span.{Span}
use Rattle.ecma_kind.specs.declared.kind.Kind.{Kind}
use Rattle.ecma_kind.specs.declared.kind.Kind.TheVariants as kind
use Rattle.ecma_kind.specs.declared.shapes.Shape.{Shape}
use Rattle.ecma_kind.specs.declared.shapes.Sort.TheVariants as sort
use Rattle.ecma_tree.specs.declared.node.Node.{Node, out-Node}
use Rattle.ecma_tree.specs.declared.node.Node.TheViews.{roll-out-Node}
use Rattle.ecma_tree.specs.Nodes.{node_of}
use Rattle.ecma_tree.specs.Sorted.{item_shape, many, one}
use Rattle.ecma_rules.specs.declared.target.Target.{Target}
use Rattle.ecma_rules.specs.declared.target.Target.TheVariants as target
use Rattle.ecma_rules.specs.Children.{children_of, kind_of}
use Rattle.ecma_rules.specs.Targets.{target_in}
use Rattle.ecma_covers.specs.Covering.{cover_at, cover_in}
use Rattle.ecma_fits.specs.Counts.{ends_once, ends_template, is_full_by, is_whole_template}
use Rattle.ecma_fits.specs.declared.role.Role.{Role}
use Rattle.ecma_fits.specs.declared.role.Role.TheVariants as role
use Rattle.ecma_fits.specs.Roles.{in_list, in_template, is_tagged, role_in}
use Rattle.ecma_print.specs.declared.place.Beside.TheVariants as beside
use Rattle.ecma_print.specs.declared.place.Spot.{Spot}
use Rattle.ecma_print.specs.Places.{free}
use Rattle.ecma_shapes.specs.Shapes.{AreParts, IsExpression, IsPart, last_part, more_parts, new_callee, part, tagged_template, template}
use Rattle.ecma_print_shapes.proofs.Assignments.{full}
use Rattle.ecma_print_shapes.proofs.Blocks.{ItemsIn, items_covered, items_in, list_of_kind, listed}
use Rattle.ecma_print_shapes.proofs.Building.{childless}
use Rattle.ecma_print_shapes.proofs.ByKind.{seen_as}
use Rattle.ecma_print_shapes.proofs.Calls.{no_type_arguments}
use Rattle.ecma_print_shapes.proofs.Claims.{AllFormed, AreValues, ListOf, TaggedTemplate, reads_values, seen}
use Rattle.ecma_print_shapes.proofs.Covered.{covered, covered_children}
use Rattle.ecma_print_shapes.proofs.Lists.{cover_of_list}
use Rattle.ecma_print_shapes.proofs.Members.{before_link_shape}
use Rattle.ecma_print_shapes.proofs.Ranks.{member_level}
use Rattle.ecma_print_shapes.proofs.Sound.{AllSound, Here, Sound, children_made}
use Rattle.ecma_print_shapes.proofs.Spots.{child_value, proper_head}
use Rattle.ecma_print_shapes.proofs.Stated.{valued}
use Rattle.ecma_print_shapes.proofs.TextPartTokens.{text_part_token}

-- the expressions

values_of : (cs : List Node) → AllFormed cs → ItemsIn (free 0) (one sort.Expr) cs → AreValues (length cs) (items_covered cs)
values_of [] f h = tt
values_of (c ∷ cs) f h = let v = valued f.0 h.0 in ((v.level, v.shape), values_of cs f.1 h.1)

pub expressions_formed : (n : Node) → AllFormed (out-Node n).children → Sound role.Free (free 0) (many sort.Expr) n → ListOf (AreValues (length (out-Node n).children)) n
expressions_formed n below s = let is = (seen n s).allowed in listed n is (values_of (out-Node n).children below (items_in n s is))

-- the text parts

text_here : (r : Role) (first : Bool) (at : Span) (k : Kind) (cs : List Node) → Here r (free 0) (one sort.TplElement) at k cs → IsPart (is_tagged r) first (ends_template k) (cover_at (node_of at k cs) target.Free)
text_here r first at (kind.TplElement raw cooked tail) cs h =
    let k = kind.TplElement raw cooked tail in
    let t = text_part_token first tail raw h.bare.0 (is_tagged r) cooked h.spelled in
    let is : cover_at (node_of at k cs) target.Free ≡ node_of at k [] = ap (λ z. cover_at (node_of at k z) target.Free) (childless (role_in r k) [] (free 0) cs h.below) ∙ covered at k [] target.Free refl in
    subst (IsPart (is_tagged r) first tail) (sym is) (subst (λ v. IsPart (is_tagged r) first tail (node_of at (kind.TplElement raw v tail) [])) t.2 (part at raw t.0 t.1 t.3))
text_here r first at k cs h = absurd (false≢true h.allowed)

text_formed : (r : Role) (first : Bool) (n : Node) → Sound r (free 0) (one sort.TplElement) n → IsPart (is_tagged r) first (ends_template (kind_of n)) (cover_at n target.Free)
text_formed r first n s =
    let x = out-Node n in
    subst (λ m. IsPart (is_tagged r) first (ends_template (kind_of n)) (cover_at m target.Free)) (roll-out-Node n) (text_here r first x.span x.kind x.children (seen n s))

-- one before each of so many expressions, and one behind the last
abbrev AreTexts : Bool → Bool → ℕ → List Node → Type 0
AreTexts behind_tag first zero (p ∷ []) = IsPart behind_tag first true p
AreTexts behind_tag first (suc count) (p ∷ ps) = IsPart behind_tag first false p × AreTexts behind_tag false count ps
AreTexts behind_tag first count ps = ⊥

abbrev TextsIn : Role → List Node → Type 0
TextsIn r cs = AllSound (λ i. r) [] (free 0) (replicate (length cs) (one sort.TplElement)) cs

texts_of : (r : Role) (first : Bool) (cs : List Node) → TextsIn r cs → ends_once cs ≡ true → (count : ℕ) → length cs ≡ count + 1 → AreTexts (is_tagged r) first count (items_covered cs)
texts_of r first [] h e count l = absurd (false≢true e)
texts_of r first (c ∷ []) h e zero l = subst (λ b. IsPart (is_tagged r) first b (cover_at c target.Free)) e (text_formed r first c h.0)
texts_of r first (c ∷ []) h e (suc count) l = absurd (omega arith)
texts_of r first (c ∷ d ∷ ds) h e zero l = absurd (omega arith)
texts_of r first (c ∷ d ∷ ds) h e (suc count) l =
    let p = and_parts (not (ends_template (kind_of c))) (ends_once (d ∷ ds)) e in
    (subst (λ b. IsPart (is_tagged r) first b (cover_at c target.Free)) (not-true (ends_template (kind_of c)) p.0) (text_formed r first c h.0), texts_of r false (d ∷ ds) h.1 p.1 count (omega arith))

texts_here : {r : Role} {shape : Shape} (at : Span) (cs : List Node) → Here r (free 0) shape at kind.List cs → AllSound (λ i. in_list r) [] (free 0) (replicate (length cs) (item_shape shape)) cs
unfolding role_in
texts_here at cs h = h.below

-- both in step
in_step : (behind_tag first : Bool) (count : ℕ) (es ps : List Node) → AreValues count es → AreTexts behind_tag first count ps → AreParts behind_tag first es ps
in_step behind_tag first zero [] [] v t = absurd t
in_step behind_tag first zero [] (p ∷ []) v t = last_part t
in_step behind_tag first zero [] (p ∷ q ∷ ps) v t = absurd t
in_step behind_tag first zero (e ∷ es) ps v t = absurd v
in_step behind_tag first (suc count) [] ps v t = absurd v
in_step behind_tag first (suc count) (e ∷ es) [] v t = absurd t
in_step behind_tag first (suc count) (e ∷ es) (p ∷ ps) v t = more_parts t.0 v.0.1 (in_step behind_tag false count es ps v.1 t.1)

-- templates

record Parts (behind_tag : Bool) (a b : Node) : Type 0 where
  of_expressions : Span
  of_parts : Span
  expressions : List Node
  parts : List Node
  first_is : cover_at a target.Free ≡ node_of of_expressions kind.List expressions
  second_is : cover_at b target.Free ≡ node_of of_parts kind.List parts
  stand : AreParts behind_tag true expressions parts

-- whether the text parts of a template of this role stand behind its tag
abbrev is_behind_tag : Role → Bool
is_behind_tag r = is_tagged (in_list (in_template r))

parts_of : (r : Role) (a b : Node) → AllFormed (a ∷ b ∷ []) → Sound role.Free (free 0) (many sort.Expr) a → Sound (in_template r) (free 0) (many sort.TplElement) b → is_whole_template (out-Node a).children (out-Node b).children ≡ true → Parts (is_behind_tag r) a b
parts_of r a b f s s' whole =
    let l = f.0.expressions s in
    let is = (seen b s').allowed in
    let p = and_parts _ (ends_once (out-Node b).children) whole in
    let h = texts_here (out-Node b).span (out-Node b).children (seen_as b kind.List (list_of_kind (kind_of b) is) s') in
    let texts = texts_of (in_list (in_template r)) true (out-Node b).children h p.1 (length (out-Node a).children) (eqb-true (length (out-Node b).children) (length (out-Node a).children + 1) p.0) in
    record {
      of_expressions = l.at;
      of_parts = (out-Node b).span;
      expressions = l.items;
      parts = items_covered (out-Node b).children;
      first_is = l.cover_is;
      second_is = cover_of_list b is;
      stand = in_step (is_behind_tag r) true (length (out-Node a).children) l.items (items_covered (out-Node b).children) l.hold texts;
    }

module _ {r : Role} {spot : Spot} {shape : Shape} (at : Span) where
  parts_here : (a b : Node) → AllFormed (a ∷ b ∷ []) → Here r spot shape at kind.Tpl (a ∷ b ∷ []) → Parts (is_behind_tag r) a b
  unfolding role_in is_full_by
  parts_here a b f h =
      let e = children_made at kind.Tpl (a ∷ b ∷ []) in
      parts_of r a b f h.below.0 h.below.1.0 (subst (λ cs. is_whole_template (children_of (slice_get cs 0)) (children_of (slice_get cs 1)) ≡ true) e (full at kind.Tpl (a ∷ b ∷ []) h))

untagged : (r : Role) → reads_values r ≡ true → is_behind_tag r ≡ false
untagged role.Tagged h = absurd (false≢true h)
untagged _ h = refl

module _ {r : Role} {spot : Spot} {shape : Shape} (t : Target) (at : Span) where
  pub template_formed : (cs : List Node) → AllFormed cs → Here r spot shape at kind.Tpl cs → reads_values r ≡ true → IsExpression new_callee (node_of at kind.Tpl (covered_children t kind.Tpl cs))
  unfolding cover_in target_in role_in
  template_formed [] f h reads = absurd h.below
  template_formed (a ∷ []) f h reads = absurd h.below.1
  template_formed (a ∷ b ∷ []) f h reads =
      let p = parts_here at a b f h in
      subst (λ z. IsExpression new_callee (node_of at kind.Tpl (z ∷ cover_at b target.Free ∷ []))) (sym p.first_is)
      (subst (λ z. IsExpression new_callee (node_of at kind.Tpl (node_of p.of_expressions kind.List p.expressions ∷ z ∷ []))) (sym p.second_is)
      (template at p.of_expressions p.of_parts (subst (λ z. AreParts z true p.expressions p.parts) (untagged r reads) p.stand)))
  template_formed (a ∷ b ∷ c ∷ cs) f h reads = absurd h.below.1.1

  pub tagged_formed : (cs : List Node) → AllFormed cs → Here r spot shape at kind.TaggedTpl cs → IsExpression (member_level spot.in_callee_of_new) (node_of at kind.TaggedTpl (covered_children t kind.TaggedTpl cs))
  unfolding cover_in target_in role_in
  tagged_formed [] f h = absurd h.below
  tagged_formed (a ∷ []) f h = absurd h.below.1
  tagged_formed (a ∷ b ∷ []) f h = absurd h.below.1.1
  tagged_formed (a ∷ b ∷ c ∷ []) f h =
      let tag = before_link_shape spot (child_value f.0 h.below.0 refl (proper_head spot beside.BeforeLink refl refl)) in
      let m = f.1.1.0.tagged h.below.1.1.0 in
      subst (λ z. IsExpression (member_level spot.in_callee_of_new) (node_of at kind.TaggedTpl (cover_at a target.Free ∷ cover_at b target.Free ∷ z ∷ []))) (sym m.cover_is)
      (tagged_template at m.at m.of_expressions m.of_parts tag.indexed tag.shape (no_type_arguments b h.below.1.0) m.stand)
  tagged_formed (a ∷ b ∷ c ∷ d ∷ cs) f h = absurd h.below.1.1.1

-- behind a tag

tagged_here : (at : Span) (cs : List Node) → AllFormed cs → Here role.Tagged (free 0) (one sort.Tpl) at kind.Tpl cs → TaggedTemplate (node_of at kind.Tpl cs)
unfolding cover_in target_in role_in
tagged_here at [] f h = absurd h.below
tagged_here at (a ∷ []) f h = absurd h.below.1
tagged_here at (a ∷ b ∷ []) f h =
    let p = parts_here at a b f h in
    record {
      at = at;
      of_expressions = p.of_expressions;
      of_parts = p.of_parts;
      expressions = p.expressions;
      parts = p.parts;
      cover_is =
          covered at kind.Tpl (a ∷ b ∷ []) target.Free refl
          ∙ ap (λ z. node_of at kind.Tpl (z ∷ cover_at b target.Free ∷ [])) p.first_is
          ∙ ap (λ z. node_of at kind.Tpl (node_of p.of_expressions kind.List p.expressions ∷ z ∷ [])) p.second_is;
      stand = p.stand;
    }
tagged_here at (a ∷ b ∷ c ∷ cs) f h = absurd h.below.1.1

pub tagged_template_formed : (at : Span) (k : Kind) (cs : List Node) → AllFormed cs → Here role.Tagged (free 0) (one sort.Tpl) at k cs → TaggedTemplate (node_of at k cs)
tagged_template_formed at kind.Tpl cs f h = tagged_here at cs f h
tagged_template_formed at k cs f h = absurd (false≢true h.allowed)
