-- Members of classes have their shapes.
use Rattle.std.proofs.Common.{◌≡◌, ◌∙◌, inr, refl, sym, ap, subst, Bool, true, false, not, ◌&&◌, ◌||◌, List, [], ◌∷◌, Option, Some, None, is_some, slice_get}
use Rattle.std.proofs.lemmas.Bool.{false≢true}
use Rattle.ecma_kind.specs.Sorts.{belongs}
use Rattle.ecma_kind.specs.declared.span.Span.{Span}
use Rattle.ecma_kind.specs.declared.kind.Kind.{Kind}
use Rattle.ecma_kind.specs.declared.kind.Kind.TheVariants as kind
use Rattle.ecma_kind.specs.declared.operators.Accessibility.{Accessibility}
use Rattle.ecma_kind.specs.declared.operators.MemberModifiers.{MemberModifiers}
use Rattle.ecma_kind.specs.declared.operators.MethodKind.{MethodKind}
use Rattle.ecma_kind.specs.declared.operators.MethodKind.TheVariants.{Getter, Method, Setter}
use Rattle.ecma_kind.specs.declared.shapes.Shape.{Shape}
use Rattle.ecma_kind.specs.declared.shapes.Sort.TheVariants as sort
use Rattle.ecma_tree.specs.declared.node.Node.{Node, out-Node}
use Rattle.ecma_tree.specs.declared.node.Node.TheViews.{roll-out-Node}
use Rattle.ecma_tree.specs.Nodes.{node_of}
use Rattle.ecma_tree.specs.Sorted.{many, one}
use Rattle.ecma_grammar.specs.trees.Classes as grammar
use Rattle.ecma_rules.specs.declared.target.Target.TheVariants as target
use Rattle.ecma_rules.specs.Children.{kind_of, of_kind}
use Rattle.ecma_rules.specs.Members.{is_constructor_key, is_method, is_special_function}
use Rattle.ecma_rules.specs.Targets.{target_in}
use Rattle.ecma_covers.specs.Covering.{cover_at, cover_in}
use Rattle.ecma_fits.specs.Branches.{is_dangling}
use Rattle.ecma_fits.specs.Chains.{is_loose}
use Rattle.ecma_fits.specs.Counts.{is_short}
use Rattle.ecma_fits.specs.Members.{is_misread, is_misread_by}
use Rattle.ecma_fits.specs.declared.role.Role.{Role}
use Rattle.ecma_fits.specs.declared.role.Role.TheVariants as role
use Rattle.ecma_fits.specs.Roles.{role_in}
use Rattle.ecma_print.specs.declared.place.Spot.{Spot}
use Rattle.ecma_print.specs.Places.{free}
use Rattle.ecma_shapes.specs.MemberKinds.{accessor_kind, method_kind, names_constructor, static_modifiers}
use Rattle.ecma_shapes.specs.Shapes.{IsFunction, IsMember, IsMemberName, accessor, class_constructor, empty_member, field, function_of, method, private_member, property_member, static_block}
use Rattle.ecma_plain.specs.Forms.{has_type_modifiers}
use Rattle.ecma_plain.specs.Functions.{functions}
use Rattle.ecma_print_shapes.proofs.Bindings.{initializer_there, no_type, not_true}
use Rattle.ecma_print_shapes.proofs.Cases.{block_there}
use Rattle.ecma_print_shapes.proofs.Claims.{AllFormed, Formed, IsPrivateName, a_private_name, seen}
use Rattle.ecma_print_shapes.proofs.Covered.{cover_node, covered, covered_children}
use Rattle.ecma_print_shapes.proofs.Parameters.{body_there}
use Rattle.ecma_print_shapes.proofs.Seats.{either_parts}
use Rattle.ecma_print_shapes.proofs.Sound.{Here, Sound, children_made, kind_made}

-- what a node is covered by has its kind
cover_kind : (n : Node) → kind_of (cover_at n target.Free) ≡ kind_of n
cover_kind n =
    let x = out-Node n in
    ap (λ m. kind_of (cover_at m target.Free)) (sym (roll-out-Node n)) ∙ ap kind_of (cover_node x.span x.kind x.children target.Free) ∙ kind_made x.span x.kind (covered_children target.Free x.kind x.children)

same_key : (k : Kind) → grammar.is_constructor_key k ≡ is_constructor_key k
same_key (kind.IdentName sym) = refl
same_key (kind.Str value raw) = refl
same_key k = refl

key_named : (n : Node) → names_constructor (cover_at n target.Free) ≡ is_constructor_key (kind_of n)
key_named n = same_key (kind_of (cover_at n target.Free)) ∙ ap is_constructor_key (cover_kind n)

-- what is read as it stands
kept : {r : Role} {spot : Spot} {shape : Shape} (at : Span) (k : Kind) (cs : List Node) → Here r spot shape at k cs → is_misread_by k (node_of at k cs) ≡ false
kept at k cs h =
    let n = node_of at k cs in
    let d = (either_parts (is_loose n) (is_misread n) (either_parts (is_dangling n) (is_loose n || is_misread n) (either_parts (is_short n) (is_dangling n || (is_loose n || is_misread n)) h.whole).1).1).1 in
    subst (λ z. is_misread_by z n ≡ false) (kind_made at k cs) d

-- modifiers that are no types

no_accessibility : (a : Option Accessibility) → is_some a ≡ false → a ≡ None
no_accessibility None h = refl
no_accessibility (Some a) h = absurd (false≢true (sym h))

pub plain_modifiers : (m : MemberModifiers) → has_type_modifiers m ≡ false → m ≡ static_modifiers m.is_static
plain_modifiers m h =
    let a = either_parts (is_some m.accessibility) (m.is_abstract || (m.is_optional || m.is_override)) h in
    let b = either_parts m.is_abstract (m.is_optional || m.is_override) a.1 in
    let c = either_parts m.is_optional m.is_override b.1 in
    ap (λ z. modified z m.is_abstract m.is_optional m.is_override) (no_accessibility m.accessibility a.0)
    ∙ ap (λ z. modified None z m.is_optional m.is_override) b.0
    ∙ ap (λ z. modified None false z m.is_override) c.0
    ∙ ap (λ z. modified None false false z) c.1
  where
    modified : Option Accessibility → Bool → Bool → Bool → MemberModifiers
    modified a b c d = record { accessibility = a; is_static = m.is_static; is_abstract = b; is_optional = c; is_override = d }

-- names

named_privately : {n : Node} → IsPrivateName n → IsMemberName true n
named_privately (a_private_name at name is) = private_member at name is

private_named : {r : Role} {n : Node} → Formed n → Sound r (free 1) (one sort.PrivateName) n → IsMemberName true (cover_at n target.Free)
private_named {r} {n} f s = named_privately (f.private_name r (free 1) (one sort.PrivateName) s (seen n s).allowed)

no_constructor : (k : Kind) → belongs sort.PrivateName k ≡ true → is_constructor_key k ≡ false
no_constructor (kind.PrivateName name) h = refl
no_constructor k h = absurd (false≢true h)

unnamed : (b c : Bool) → c ≡ false → (b && c) ≡ false
unnamed true c h = h
unnamed false c h = refl

private_unnamed : {r : Role} (is_static : Bool) (n : Node) → Sound r (free 1) (one sort.PrivateName) n → (not is_static && names_constructor (cover_at n target.Free)) ≡ false
private_unnamed is_static n s = unnamed (not is_static) _ (key_named n ∙ no_constructor (kind_of n) (seen n s).allowed)

-- methods and accessors

module _ (at : Span) (private is_static : Bool) {key : Node} (name : IsMemberName private key) where
  accessor_of : (is_setter : Bool) {function : Node} → IsFunction function → is_special_function (kind_of function) ≡ false → IsMember (node_of at (method_kind private (accessor_kind is_setter) is_static) (key ∷ function ∷ []))
  accessor_of is_setter (function_of at' of_params true is_async args ps body n n') h = absurd (false≢true (sym h ∙ ap is_special_function (kind_made at' (kind.Function true is_async) _)))
  accessor_of is_setter (function_of at' of_params false true args ps body n n') h = absurd (false≢true (sym h ∙ ap is_special_function (kind_made at' (kind.Function false true) _)))
  accessor_of is_setter (function_of at' of_params false false args ps body n n') h = accessor at at' of_params is_static is_setter name args ps body n n'

  method_made : (k : MethodKind) {function : Node} → IsFunction function → (not (is_method k) && is_special_function (kind_of function)) ≡ false → (not is_static && names_constructor key) ≡ false
      → IsMember (node_of at (method_kind private k is_static) (key ∷ function ∷ []))
  method_made Method f h e = method at is_static name f e
  method_made Getter f h e = accessor_of false f h
  method_made Setter f h e = accessor_of true f h

abbrev misread_parts : MethodKind → Bool → List Node → Bool
misread_parts k is_static cs = (not (is_method k) && of_kind is_special_function (slice_get cs 1)) || (not is_static && of_kind is_constructor_key (slice_get cs 0))

abbrev misread_private : MethodKind → List Node → Bool
misread_private k cs = not (is_method k) && of_kind is_special_function (slice_get cs 1)

module _ (at : Span) where
  method_misread : (k : MethodKind) (m : MemberModifiers) (a b : Node) → Here role.Free (free 0) (one sort.ClassMember) at (kind.ClassMethod k m) (a ∷ b ∷ []) → misread_parts k m.is_static (a ∷ b ∷ []) ≡ false
  unfolding is_misread_by
  method_misread k m a b h = subst (λ z. misread_parts k m.is_static z ≡ false) (children_made at (kind.ClassMethod k m) (a ∷ b ∷ [])) (kept at (kind.ClassMethod k m) (a ∷ b ∷ []) h)

  private_misread : (k : MethodKind) (m : MemberModifiers) (a b : Node) → Here role.Free (free 0) (one sort.ClassMember) at (kind.PrivateMethod k m) (a ∷ b ∷ []) → misread_private k (a ∷ b ∷ []) ≡ false
  unfolding is_misread_by
  private_misread k m a b h = subst (λ z. misread_private k z ≡ false) (children_made at (kind.PrivateMethod k m) (a ∷ b ∷ [])) (kept at (kind.PrivateMethod k m) (a ∷ b ∷ []) h)

  same_function : (k : MethodKind) (n : Node) → (not (is_method k) && is_special_function (kind_of n)) ≡ false → (not (is_method k) && is_special_function (kind_of (cover_at n target.Free))) ≡ false
  same_function k n h = ap (λ z. not (is_method k) && is_special_function z) (cover_kind n) ∙ h

  method_here : (k : MethodKind) (m : MemberModifiers) (cs : List Node) → AllFormed cs → Here role.Free (free 0) (one sort.ClassMember) at (kind.ClassMethod k m) cs → IsMember (cover_at (node_of at (kind.ClassMethod k m) cs) target.Free)
  unfolding cover_in target_in role_in
  method_here k m [] f h = absurd h.below
  method_here k m (a ∷ []) f h = absurd h.below.1
  method_here k m (a ∷ b ∷ []) f h =
      let d = either_parts (misread_private k (a ∷ b ∷ [])) (not m.is_static && is_constructor_key (kind_of a)) (method_misread k m a b h) in
      let x = method_made at false m.is_static (property_member (f.0.property_name h.below.0)) k (f.1.0.function h.below.1.0) (same_function k b d.0) (ap (λ z. not m.is_static && z) (key_named a) ∙ d.1) in
      subst IsMember (sym (covered at (kind.ClassMethod k m) (a ∷ b ∷ []) target.Free refl))
      (subst (λ z. IsMember (node_of at (kind.ClassMethod k z) (cover_at a target.Free ∷ cover_at b target.Free ∷ []))) (sym (plain_modifiers m (not_true (has_type_modifiers m) h.bare.1))) x)
  method_here k m (a ∷ b ∷ c ∷ cs) f h = absurd h.below.1.1

  private_method_here : (k : MethodKind) (m : MemberModifiers) (cs : List Node) → AllFormed cs → Here role.Free (free 0) (one sort.ClassMember) at (kind.PrivateMethod k m) cs → IsMember (cover_at (node_of at (kind.PrivateMethod k m) cs) target.Free)
  unfolding cover_in target_in role_in
  private_method_here k m [] f h = absurd h.below
  private_method_here k m (a ∷ []) f h = absurd h.below.1
  private_method_here k m (a ∷ b ∷ []) f h =
      let x = method_made at true m.is_static (private_named f.0 h.below.0) k (f.1.0.function h.below.1.0) (same_function k b (private_misread k m a b h)) (private_unnamed m.is_static a h.below.0) in
      subst IsMember (sym (covered at (kind.PrivateMethod k m) (a ∷ b ∷ []) target.Free refl))
      (subst (λ z. IsMember (node_of at (kind.PrivateMethod k z) (cover_at a target.Free ∷ cover_at b target.Free ∷ []))) (sym (plain_modifiers m (not_true (has_type_modifiers m) h.bare.1))) x)
  private_method_here k m (a ∷ b ∷ c ∷ cs) f h = absurd h.below.1.1

-- fields

record IsPlainField (m : MemberModifiers) (readonly declare definite : Bool) : Type 0 where
  modifiers : m ≡ static_modifiers m.is_static
  unread : readonly ≡ false
  undeclared : declare ≡ false
  indefinite : definite ≡ false

plain_field : (m : MemberModifiers) (readonly declare definite : Bool) → not (has_type_modifiers m || (readonly || (declare || definite))) ≡ true → IsPlainField m readonly declare definite
plain_field m readonly declare definite h =
    let a = either_parts (has_type_modifiers m) (readonly || (declare || definite)) (not_true _ h) in
    let b = either_parts readonly (declare || definite) a.1 in
    let c = either_parts declare definite b.1 in
    record { modifiers = plain_modifiers m a.0; unread = b.0; undeclared = c.0; indefinite = c.1 }

module _ (P : MemberModifiers → Bool → Bool → Bool → Type 0) where
  as_plain : (m : MemberModifiers) (readonly declare definite : Bool) → IsPlainField m readonly declare definite → P (static_modifiers m.is_static) false false false → P m readonly declare definite
  as_plain m readonly declare definite p x =
      subst (λ z. P z readonly declare definite) (sym p.modifiers)
      (subst (λ z. P (static_modifiers m.is_static) z declare definite) (sym p.unread)
      (subst (λ z. P (static_modifiers m.is_static) false z definite) (sym p.undeclared)
      (subst (λ z. P (static_modifiers m.is_static) false false z) (sym p.indefinite) x)))

module _ (at : Span) where
  field_here : (m : MemberModifiers) (readonly declare definite : Bool) (cs : List Node) → AllFormed cs → Here role.Free (free 0) (one sort.ClassMember) at (kind.ClassProp m readonly declare definite) cs
      → IsMember (cover_at (node_of at (kind.ClassProp m readonly declare definite) cs) target.Free)
  unfolding cover_in target_in role_in
  field_here m r d e [] f h = absurd h.below
  field_here m r d e (a ∷ []) f h = absurd h.below.1
  field_here m r d e (a ∷ b ∷ []) f h = absurd h.below.1.1
  field_here m r d e (a ∷ b ∷ c ∷ []) f h =
      subst IsMember (sym (covered at (kind.ClassProp m r d e) (a ∷ b ∷ c ∷ []) target.Free refl))
      (as_plain (λ m r d e. IsMember (node_of at (kind.ClassProp m r d e) (cover_at a target.Free ∷ cover_at b target.Free ∷ cover_at c target.Free ∷ []))) m r d e (plain_field m r d e h.bare.1)
      (field at m.is_static (property_member (f.0.property_name h.below.0)) (initializer_there b f.1.0 h.below.1.0) (no_type c h.below.1.1.0)))
  field_here m r d e (a ∷ b ∷ c ∷ x ∷ cs) f h = absurd h.below.1.1.1

  private_field_here : (m : MemberModifiers) (readonly declare definite : Bool) (cs : List Node) → AllFormed cs → Here role.Free (free 0) (one sort.ClassMember) at (kind.PrivateProp m readonly declare definite) cs
      → IsMember (cover_at (node_of at (kind.PrivateProp m readonly declare definite) cs) target.Free)
  unfolding cover_in target_in role_in
  private_field_here m r d e [] f h = absurd h.below
  private_field_here m r d e (a ∷ []) f h = absurd h.below.1
  private_field_here m r d e (a ∷ b ∷ []) f h = absurd h.below.1.1
  private_field_here m r d e (a ∷ b ∷ c ∷ []) f h =
      subst IsMember (sym (covered at (kind.PrivateProp m r d e) (a ∷ b ∷ c ∷ []) target.Free refl))
      (as_plain (λ m r d e. IsMember (node_of at (kind.PrivateProp m r d e) (cover_at a target.Free ∷ cover_at b target.Free ∷ cover_at c target.Free ∷ []))) m r d e (plain_field m r d e h.bare.1)
      (field at m.is_static (private_named f.0 h.below.0) (initializer_there b f.1.0 h.below.1.0) (no_type c h.below.1.1.0)))
  private_field_here m r d e (a ∷ b ∷ c ∷ x ∷ cs) f h = absurd h.below.1.1.1

-- constructors

holds : (b : Bool) → not b ≡ false → b ≡ true
holds true h = refl
holds false h = absurd (false≢true (sym h))

module _ (at : Span) where
  key_there : (a : Option Accessibility) (o : Bool) (key params body : Node) → Here role.Free (free 0) (one sort.ClassMember) at (kind.Constructor a o) (key ∷ params ∷ body ∷ []) → is_constructor_key (kind_of key) ≡ true
  unfolding is_misread_by
  key_there a o key params body h =
      let cs = key ∷ params ∷ body ∷ [] in
      holds (is_constructor_key (kind_of key)) (subst (λ z. not (of_kind is_constructor_key (slice_get z 0)) ≡ false) (children_made at (kind.Constructor a o) cs) (kept at (kind.Constructor a o) cs h))

  constructor_here : (a : Option Accessibility) (o : Bool) (cs : List Node) → AllFormed cs → Here role.Free (free 0) (one sort.ClassMember) at (kind.Constructor a o) cs → IsMember (cover_at (node_of at (kind.Constructor a o) cs) target.Free)
  unfolding cover_in target_in role_in
  constructor_here a o [] f h = absurd h.below
  constructor_here a o (key ∷ []) f h = absurd h.below.1
  constructor_here a o (key ∷ params ∷ []) f h = absurd h.below.1.1
  constructor_here a o (key ∷ params ∷ body ∷ []) f h =
      let l = f.1.0.parameters (many sort.ParamOrTsParamProp) (inr refl) h.below.1.0 (seen params h.below.1.0).allowed in
      let b = body_there body f.1.1.0 h.below.1.1.0 (either_parts (functions body).is_missing _ h.usual).0 in
      let plain = either_parts (is_some a) o (not_true (is_some a || o) h.bare.1) in
      subst IsMember (sym (covered at (kind.Constructor a o) (key ∷ params ∷ body ∷ []) target.Free refl))
      (subst (λ z. IsMember (node_of at (kind.Constructor z o) (cover_at key target.Free ∷ cover_at params target.Free ∷ cover_at body target.Free ∷ []))) (sym (no_accessibility a plain.0))
      (subst (λ z. IsMember (node_of at (kind.Constructor None z) (cover_at key target.Free ∷ cover_at params target.Free ∷ cover_at body target.Free ∷ []))) (sym plain.1)
      (subst (λ z. IsMember (node_of at (kind.Constructor None false) (cover_at key target.Free ∷ z ∷ cover_at body target.Free ∷ []))) (sym l.cover_is)
      (class_constructor at l.at (f.0.property_name h.below.0) (key_named key ∙ key_there a o key params body h) l.are l.stand b))))
  constructor_here a o (key ∷ params ∷ body ∷ x ∷ cs) f h = absurd h.below.1.1.1

  -- all members

  empty_here : (cs : List Node) → Here role.Free (free 0) (one sort.ClassMember) at kind.EmptyStmt cs → IsMember (cover_at (node_of at kind.EmptyStmt cs) target.Free)
  unfolding role_in
  empty_here [] h = subst IsMember (sym (covered at kind.EmptyStmt [] target.Free refl)) (empty_member at)
  empty_here (a ∷ cs) h = absurd h.below

  static_here : (cs : List Node) → AllFormed cs → Here role.Free (free 0) (one sort.ClassMember) at kind.StaticBlock cs → IsMember (cover_at (node_of at kind.StaticBlock cs) target.Free)
  unfolding cover_in target_in role_in
  static_here [] f h = absurd h.below
  static_here (a ∷ []) f h = subst IsMember (sym (covered at kind.StaticBlock (a ∷ []) target.Free refl)) (static_block at (block_there f.0 h.below.0))
  static_here (a ∷ b ∷ cs) f h = absurd h.below.1

  pub member_formed : (k : Kind) (cs : List Node) → AllFormed cs → Here role.Free (free 0) (one sort.ClassMember) at k cs → IsMember (cover_at (node_of at k cs) target.Free)
  member_formed kind.EmptyStmt cs f h = empty_here cs h
  member_formed kind.StaticBlock cs f h = static_here cs f h
  member_formed (kind.ClassMethod k m) cs f h = method_here at k m cs f h
  member_formed (kind.PrivateMethod k m) cs f h = private_method_here at k m cs f h
  member_formed (kind.ClassProp m r d e) cs f h = field_here at m r d e cs f h
  member_formed (kind.PrivateProp m r d e) cs f h = private_field_here at m r d e cs f h
  member_formed (kind.Constructor a o) cs f h = constructor_here a o cs f h
  member_formed (kind.TsIndexSignature readonly is_static) cs f h = absurd (false≢true h.bare.1)
  member_formed k cs f h = absurd (false≢true h.allowed)
