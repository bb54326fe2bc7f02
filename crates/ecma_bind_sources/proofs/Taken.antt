-- Where each form of a tree is taken, but of what goes from lists, each is with bound names; and where none has to be lowered, none has.
use Rattle.std.proofs.Common.{◌≡◌, ◌∙◌, ℕ, zero, suc, Bool, true, false, not, ◌&&◌, ◌||◌, List, [], ◌∷◌, Option, Some, None, refl, sym, ap, ap₂, subst, slice_get}
use Rattle.ecma_kind.specs.Sorts.{is_type_wrapper}
use Rattle.ecma_kind.specs.declared.kind.Kind.{Kind}
use Rattle.ecma_kind.specs.declared.kind.Kind.TheVariants as kind
use Rattle.ecma_strip.specs.Staying.{is_this_ident}
use Rattle.ecma_tree.specs.declared.node.Node.{Node, Node-F, out-Node}
use Rattle.ecma_tree.specs.declared.node.Node.TheViews.{out-roll-Node}
use Rattle.ecma_tree.specs.Nodes.{absent, dummy_span}
use Rattle.ecma_tree.specs.Sorted.{is_list}
use Rattle.ecma_rules.specs.Children.{child_holds, holds_of, kind_of}
use Rattle.ecma_rules.specs.Failing.{first_failing}
use Rattle.ecma_rules.specs.Finishing.{binding}
use Rattle.ecma_fits.specs.declared.role.Role.{Role}
use Rattle.ecma_fits.specs.declared.role.Role.TheVariants as role
use Rattle.ecma_fits.specs.Roles.{role_in}
use Rattle.ecma_rules.specs.Members.{has_body}
use Rattle.ecma_forms.specs.Forms.{asked_here, gone_inside, goes_from_list, is_ambient_variable, is_odd_by, is_unlowered_kind, is_untaken_kind, leaves, names_this}
use Rattle.ecma_strip_fits.proofs.Strays.{none_failing, not_failing}
use Rattle.ecma_bind.specs.Binding.{binds, bound_at, is_typed_name, with_bound_names}
use Rattle.ecma_bind_fits.proofs.Alike.{Alike, bound_parts, child_same, has_same, holds_where, quiet_usual, six_at, usual_children, usual_kind}
use Rattle.ecma_bind_fits.proofs.Bound.{by_children, children_of, parts_none, whole_none}
use Rattle.ecma_bind_fits.proofs.StayingItems.{bound_child}
use Rattle.ecma_bind_sources.specs.Laws.{BoundTreesAreTaken, BoundTreesNeedNoLowering}
use Rattle.ecma_bind_sources.proofs.Keeping.{bound_keeps}
use Rattle.ecma_bind_sources.proofs.Staying.{bound_leaves}

absent_parts : out-Node absent ≡ record { span = dummy_span; kind = kind.Absent; children = [] }
absent_parts = out-roll-Node (record { span = dummy_span; kind = kind.Absent; children = [] })

-- ---- a tree, whatever is asked

module _ (test : Node → Bool) (test_same : Alike test) (test_absent : test absent ≡ false) (test_binding : (u : Node) → test (binding u) ≡ false) where
  abbrev here : Bool → Node → Option ℕ
  here = asked_here test

  abbrev walk : Node → Bool → Option ℕ
  walk = first_failing Bool here gone_inside

  abbrev Clear : Node → Type 0
  Clear n = walk n false ≡ None

  -- what goes is not asked, nor is what it holds
  abbrev Gone : Node → Type 0
  Gone n = walk n true ≡ None

  all_gone : (n : Node) → Gone n
  all_gone = by_children Gone (λ n below. whole_none Bool here gone_inside n true refl below)

  -- what does not go is asked
  down : (n : Node) → Clear n → (i : ℕ) (c : Node) → slice_get (children_of n) i ≡ Some c → goes_from_list n i ≡ false → Clear c
  down n h i c at asked = sym (ap (walk c) asked) ∙ (parts_none Bool here gone_inside n false h).1 i c at

  -- in a type round an expression nothing goes
  inner : (n : Node) → Clear n → is_type_wrapper (kind_of n) ≡ true → (i : ℕ) (c : Node) → slice_get (children_of n) i ≡ Some c → Clear c
  inner n h w i c at =
      down n h i c at (ap (λ b. b && child_holds leaves n i) (six_at Bool is_list false (refl, refl, refl, refl, refl, refl) (kind_of n) w))

  -- a node that passes, whose children do where they do not go
  clear_of : (n : Node) → test n ≡ false → ((i : ℕ) (c : Node) → slice_get (children_of n) i ≡ Some c → goes_from_list n i ≡ false → Clear c) → Clear n
  clear_of n t below = whole_none Bool here gone_inside n false (none_failing (test n) n t) (λ i c at. by i c at (goes_from_list n i) refl)
    where
      by : (i : ℕ) (c : Node) → slice_get (children_of n) i ≡ Some c → (b : Bool) → goes_from_list n i ≡ b → walk c (goes_from_list n i) ≡ None
      by i c at true e = ap (walk c) e ∙ all_gone c
      by i c at false e = ap (walk c) e ∙ below i c at e

  -- a name that is bound

  none_below : (i : ℕ) (c : Node) → slice_get [] i ≡ Some c → Clear c
  none_below i c at = cc

  absent_clear : Clear absent
  absent_clear = clear_of absent test_absent (λ i c at asked. none_below i c (ap (λ (z : Node-F Node). slice_get z.children i) (sym absent_parts) ∙ at))

  both_clear : (u : Node) → Clear u → (i : ℕ) (c : Node) → slice_get (u ∷ absent ∷ []) i ≡ Some c → Clear c
  both_clear u h zero c at = let same : u ≡ c = cc in subst Clear same h
  both_clear u h (suc zero) c at = let same : absent ≡ c = cc in subst Clear same absent_clear
  both_clear u h (suc (suc i)) c at = cc

  named : (u : Node) → Clear u → Clear (binding u)
  named u h = clear_of (binding u) (test_binding u) (λ i c at asked. both_clear u h i c (ap (λ (z : Node-F Node). slice_get z.children i) (sym (bound_parts u)) ∙ at))

  -- any other node: where a child with bound names does not go, the child does not

  not_gone : (list : Bool) (o p : Option Node) (c d : Node) → o ≡ Some c → p ≡ Some d → (leaves d ≡ false → leaves c ≡ false) → (list && holds_of leaves p) ≡ false → (list && holds_of leaves o) ≡ false
  not_gone true o p c d at there kept h = ap (holds_of leaves) at ∙ kept (sym (ap (holds_of leaves) there) ∙ h)
  not_gone false o p c d at there kept h = refl

  usual : (n : Node) (r : Role) → is_typed_name r n ≡ false → Clear n → ((i : ℕ) (c : Node) → slice_get (children_of n) i ≡ Some c → Clear c → (q : Role) → Clear (bound_at c q)) → Clear (bound_at n r)
  usual n r t h below =
      clear_of (bound_at n r) (test_same n r t ∙ not_failing (test n) n (parts_none Bool here gone_inside n false h).0)
      (λ i d at asked. (
      let roles = role_in r (kind_of n) in
      let f = bound_child (children_of n) roles i d (ap (λ (z : List Node). slice_get z i) (sym (usual_children n r t)) ∙ at) in
      let kept : leaves d ≡ false → leaves f.0 ≡ false = λ g. bound_leaves f.0 (roles i) (ap leaves f.2 ∙ g) in
      let stands : goes_from_list n i ≡ false =
      not_gone (is_list (kind_of n)) (slice_get (children_of n) i) (slice_get (children_of (bound_at n r)) i) f.0 d f.1 at kept
      (sym (ap (λ (k : Kind). is_list k && child_holds leaves (bound_at n r) i) (usual_kind n r t)) ∙ asked) in
      subst Clear f.2 (below i f.0 f.1 (down n h i f.0 f.1 stands) (roles i))))

  clear : (tree : Node) → Clear tree → Clear (bound_at tree role.Free)
  clear tree h = bound_keeps Clear inner named usual tree h role.Free

-- ---- what a node tells

body_same : (n : Node) (r : Role) → is_typed_name r n ≡ false → binds (role_in r (kind_of n) 1) ≡ false → child_holds has_body (bound_at n r) 1 ≡ child_holds has_body n 1
body_same n r t q = holds_where has_body n r t 1 (λ c at. has_same 1 c (role_in r (kind_of n) 1) (quiet_usual c (role_in r (kind_of n) 1) q))

this_same : Alike names_this
this_same n r t = ap₂ (λ a b. a || b) (child_same is_this_ident (refl, refl, refl, refl, refl, refl) 0 n r t) (child_same is_this_ident (refl, refl, refl, refl, refl, refl) 1 n r t)

odd_same : (k : Kind) (n : Node) → kind_of n ≡ k → (r : Role) → is_typed_name r n ≡ false → is_odd_by k (bound_at n r) ≡ is_odd_by k n
unfolding role_in
odd_same kind.FnExpr n e r t = ap not (body_same n r t (ap (λ k. binds (role_in r k 1)) e))
odd_same kind.ForStmt n e r t = child_same is_ambient_variable (refl, refl, refl, refl, refl, refl) 0 n r t
odd_same kind.ForInStmt n e r t = child_same is_ambient_variable (refl, refl, refl, refl, refl, refl) 0 n r t
odd_same (kind.ForOfStmt is_await) n e r t = child_same is_ambient_variable (refl, refl, refl, refl, refl, refl) 0 n r t
odd_same (kind.ImportNamedSpecifier is_type_only) n e r t = this_same n r t
odd_same (kind.ExportNamedSpecifier is_type_only) n e r t = this_same n r t
odd_same kind.ExportNamespaceSpecifier n e r t = this_same n r t
odd_same _ n e r t = refl

-- ---- a tree of which no node is of some forms, and does not go

module _ (kinds : Kind → Bool) (no_absent : kinds kind.Absent ≡ false) (no_name : kinds kind.BindingIdent ≡ false) where
  abbrev is_of_form : Node → Bool
  is_of_form n = kinds (kind_of n) || is_odd_by (kind_of n) n

  abbrev NoneOfForm : Node → Type 0
  NoneOfForm n = first_failing Bool (asked_here is_of_form) gone_inside n false ≡ None

  form_same : Alike is_of_form
  form_same n r t = ap (λ k. kinds k || is_odd_by k (bound_at n r)) (usual_kind n r t) ∙ ap (λ b. kinds (kind_of n) || b) (odd_same (kind_of n) n refl r t)

  none_of_form : (tree : Node) → NoneOfForm tree → NoneOfForm (with_bound_names tree)
  none_of_form tree h =
      clear is_of_form form_same
      (ap (λ (z : Node-F Node). kinds z.kind || is_odd_by z.kind absent) absent_parts ∙ ap (λ b. b || false) no_absent)
      (λ u. ap (λ (z : Node-F Node). kinds z.kind || is_odd_by z.kind (binding u)) (bound_parts u) ∙ ap (λ b. b || false) no_name) tree h

pub trees_are_taken : BoundTreesAreTaken
trees_are_taken assign = none_of_form (is_untaken_kind assign) refl refl

pub trees_need_no_lowering : BoundTreesNeedNoLowering
trees_need_no_lowering = none_of_form is_unlowered_kind refl refl
