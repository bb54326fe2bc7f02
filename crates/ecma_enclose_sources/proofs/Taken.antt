-- Where each form of a tree is taken, but of what goes from lists, each is with parentheses added; and where none has to be lowered, none has.
use Rattle.std.proofs.Common.{◌≡◌, ◌∙◌, ℕ, zero, suc, Bool, true, false, ◌&&◌, ◌||◌, not, cond, List, [], ◌∷◌, Option, Some, None, refl, sym, ap, ap₂, subst, slice_get}
use Rattle.ecma_kind.specs.declared.kind.Kind.{Kind}
use Rattle.ecma_kind.specs.declared.kind.Kind.TheVariants as kind
use Rattle.ecma_kind.specs.declared.shapes.Sort.TheVariants as sort
use Rattle.ecma_tree.specs.declared.node.Node.{Node}
use Rattle.ecma_tree.specs.Sorted.{HasSort, is_list, one}
use Rattle.ecma_rules.specs.Children.{child_holds, kind_of}
use Rattle.ecma_rules.specs.Failing.{first_failing}
use Rattle.ecma_rules.specs.Members.{has_body}
use Rattle.ecma_forms.specs.Forms.{asked_here, gone_inside, is_ambient_variable, is_odd_by, is_unlowered_kind, is_untaken_kind, leaves, names_this}
use Rattle.ecma_strip.specs.Staying.{is_this_ident}
use Rattle.ecma_strip_fits.proofs.Strays.{none_failing}
use Rattle.ecma_bind_fits.proofs.Bound.{whole_none}
use Rattle.ecma_enclose.specs.Enclosing.{enclosed, in_parentheses}
use Rattle.ecma_enclose_fits.proofs.Adding.{Adds, Alone, enclosed_adds, is_open}
use Rattle.ecma_enclose_fits.proofs.Alike.{Keeps, Same, by_kind, child_same, has_same, holds_usual, is_same, span_same}
use Rattle.ecma_enclose_fits.proofs.Walk.{walk_kept}
use Rattle.ecma_enclose_scopes.proofs.Declared.{paren_children, paren_kind}
use Rattle.ecma_enclose_sources.specs.Laws.{EnclosedTreesAreTaken, EnclosedTreesNeedNoLowering}
use Rattle.ecma_enclose_sources.proofs.Staying.{stays_same}

-- ---- what each node tells

body_same : {a b : Node} → Adds a b → Keeps has_body a b
body_same r = has_same 1 r

this_same : {a b : Node} → Adds a b → Keeps names_this a b
this_same r =
    ap₂ (λ a b. a || b) (child_same is_this_ident ((λ value raw. refl), refl, refl, refl, refl, refl, refl) 0 r)
    (child_same is_this_ident ((λ value raw. refl), refl, refl, refl, refl, refl, refl) 1 r)

odd_same : (k : Kind) {a b : Node} → Adds a b → kind_of a ≡ k → is_odd_by k b ≡ is_odd_by k a
odd_same kind.FnExpr r e = ap not (holds_usual has_body (λ a b q. body_same q) 1 r (ap is_open e))
odd_same kind.ForStmt r e = child_same is_ambient_variable ((λ value raw. refl), refl, refl, refl, refl, refl, refl) 0 r
odd_same kind.ForInStmt r e = child_same is_ambient_variable ((λ value raw. refl), refl, refl, refl, refl, refl, refl) 0 r
odd_same (kind.ForOfStmt is_await) r e = child_same is_ambient_variable ((λ value raw. refl), refl, refl, refl, refl, refl, refl) 0 r
odd_same (kind.ImportNamedSpecifier is_type_only) r e = this_same r
odd_same (kind.ExportNamedSpecifier is_type_only) r e = this_same r
odd_same kind.ExportNamespaceSpecifier r e = this_same r
odd_same _ r e = refl

leaves_same : Same leaves
leaves_same a b r = ap not (stays_same r)

-- ---- parentheses

and_no : (b : Bool) → (b && false) ≡ false
and_no true = refl
and_no false = refl

or_no : (b : Bool) → (b || false) ≡ b
or_no true = refl
or_no false = refl

-- ---- what goes

going_by : (i : ℕ) (k : Kind) {a b : Node} → Adds a b → kind_of a ≡ k → (is_list k && child_holds leaves b i) ≡ (is_list k && child_holds leaves a i)
going_by i kind.List r e = holds_usual leaves leaves_same i r (ap is_open e)
going_by i _ r e = refl

inside_same : (gone : Bool) (i : ℕ) {a b : Node} → Adds a b → gone_inside gone b i ≡ gone_inside gone a i
inside_same gone i r = ap (λ x. gone || x) (by_kind (λ k n. is_list k && child_holds leaves n i) (λ k c d q e. going_by i k q e) r)

paren_inside : (gone : Bool) (e : Node) (i : ℕ) → gone_inside gone (in_parentheses e) i ≡ gone
paren_inside gone e i = ap (λ k. gone || (is_list k && child_holds leaves (in_parentheses e) i)) (paren_kind e) ∙ or_no gone

-- ---- a tree of which no node is of some forms, and does not go

module _ (kinds : Kind → Bool) (no_parentheses : kinds kind.ParenExpr ≡ false) where
  abbrev is_of_form : Node → Bool
  is_of_form n = kinds (kind_of n) || is_odd_by (kind_of n) n

  abbrev here : Bool → Node → Option ℕ
  here = asked_here is_of_form

  abbrev walk : Node → Bool → Option ℕ
  walk = first_failing Bool here gone_inside

  form_same : Same is_of_form
  form_same a b r = ap₂ (λ a b. a || b) (is_same kinds r) (by_kind is_odd_by (λ k c d q e. odd_same k q e) r)

  paren_other : (e : Node) → is_of_form (in_parentheses e) ≡ false
  paren_other e = ap (λ k. kinds k || is_odd_by k (in_parentheses e)) (paren_kind e) ∙ ap (λ b. b || false) no_parentheses

  place_same : (gone : Bool) {a b : Node} → Adds a b → here gone b ≡ here gone a
  place_same gone {a} {b} r = ap₂ (λ t s. cond (not gone && t) (Some s.lo) None) (form_same a b r) (span_same r)

  closed : (gone : Bool) (n e : Node) → Alone (kind_of n) e → walk e (gone_inside gone n 0) ≡ None → walk (in_parentheses e) (gone_inside gone n 0) ≡ None
  closed gone n e alone h =
      whole_none Bool here gone_inside (in_parentheses e) x
      (none_failing (not x && is_of_form (in_parentheses e)) (in_parentheses e) (ap (λ b. not x && b) (paren_other e) ∙ and_no (not x)))
      (λ i c at. by i c (sym (ap (λ (z : List Node). slice_get z i) (paren_children e)) ∙ at))
    where
      x : Bool
      x = gone_inside gone n 0

      by : (i : ℕ) (c : Node) → slice_get (e ∷ []) i ≡ Some c → walk c (gone_inside x (in_parentheses e) i) ≡ None
      by zero c at = let same : e ≡ c = cc in subst (λ (z : Node). walk z (gone_inside x (in_parentheses e) 0) ≡ None) same (ap (walk e) (paren_inside x e 0) ∙ h)
      by (suc i) c at = cc

  abbrev NoneOfForm : Node → Type 0
  NoneOfForm n = walk n false ≡ None

  none_of_form : (tree : Node) → HasSort sort.Module tree → NoneOfForm tree → NoneOfForm (enclosed tree)
  none_of_form tree sorted h =
      walk_kept Bool here gone_inside (λ gone c d q. place_same gone q) (λ gone i c d q. inside_same gone i q) closed (enclosed_adds tree (one sort.Module, sorted)) false h

pub trees_are_taken : EnclosedTreesAreTaken
trees_are_taken assign = none_of_form (is_untaken_kind assign) refl

pub trees_need_no_lowering : EnclosedTreesNeedNoLowering
trees_need_no_lowering = none_of_form is_unlowered_kind refl
