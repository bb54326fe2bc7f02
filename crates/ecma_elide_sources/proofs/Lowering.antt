-- Where no node of a tree is of some forms, but of what goes with the types, no node of what is left of it is.
use Rattle.std.proofs.Common.{◌≡◌, ◌∙◌, ℕ, Bool, true, false, ◌&&◌, ◌||◌, not, Option, Some, None, refl, sym, ap, ap₂, slice_get}
use Rattle.ecma_kind.specs.declared.kind.Kind.{Kind}
use Rattle.ecma_kind.specs.declared.kind.Kind.TheVariants as kind
use Rattle.ecma_tree.specs.Sorted.{is_list}
use Rattle.ecma_tree.specs.declared.node.Node.{Node}
use Rattle.ecma_rules.specs.Children.{child_holds, holds_of, kind_of}
use Rattle.ecma_rules.specs.Failing.{failing_here, first_failing}
use Rattle.ecma_rules.specs.Members.{has_body}
use Rattle.ecma_fits.proofs.Walks.{not_failing}
use Rattle.ecma_scope_fits.proofs.Moved.{Blind}
use Rattle.ecma_forms.specs.Forms.{asked_here, gone_inside, goes_from_list, is_ambient_variable, is_odd_by, names_this}
use Rattle.ecma_strip.specs.Staying.{is_this_ident, stays}
use Rattle.ecma_elide_fits.specs.Dropping.{Dropping, loses_in}
use Rattle.ecma_elide_fits.proofs.Dropped.{below, induct, loses_at}
use Rattle.ecma_elide_sources.proofs.Staying.{stays_before}
use Rattle.ecma_elide_sources.proofs.Thin.{Thin, bare, child_before, child_same, closed_kept, closed_other, has_same, holds_same, list_blind, thin_before, thin_kind, thin_same}
use Rattle.ecma_elide_sources.proofs.Walking.{parts_none, whole_none}

-- an item goes where it does not stay
goes_where : (list : Bool) (o : Option Node) (c : Node) → o ≡ Some c → (list && holds_of (λ item. not (stays item)) o) ≡ (list && not (stays c))
goes_where list o c at = ap (λ z. list && holds_of (λ item. not (stays item)) z) at

goes_is : (n : Node) (i : ℕ) (c : Node) → slice_get (below n) i ≡ Some c → goes_from_list n i ≡ (is_list (kind_of n) && not (stays c))
goes_is n i c at = goes_where (is_list (kind_of n)) (slice_get (below n) i) c at

none_goes : (list old new : Bool) → (new ≡ true → old ≡ true) → (list && not new) ≡ false → (list && not old) ≡ false
none_goes false old new before h = refl
none_goes true old true before h = ap not (before refl)
none_goes true old false before h = cc

module _ {S : Type 0} (d : Dropping S) where
  -- the function of an expression loses nothing, even were it a list
  body_same : (a b : Node) → Thin d a b → kind_of b ≡ kind.FnExpr → child_holds has_body a 1 ≡ child_holds has_body b 1
  body_same a b t e =
      holds_same d has_body a b t (closed_other d a b t (ap is_list e)) 1
      (λ x y u so. has_same d x y u (closed_kept d x y u (so ∙ loses_none)) 1)
    where
      other : (k : Kind) → bare k ≡ kind.FnExpr → loses_in t.loses k 1 ≡ false
      other kind.FnExpr h = refl
      other _ h = cc

      loses_none : loses_at d t.loses t.before 1 ≡ false
      loses_none = other (kind_of t.before) (thin_before d a b t ∙ ap bare e)

  this_same : (a b : Node) → Thin d a b → is_list (kind_of b) ≡ false → names_this a ≡ names_this b
  this_same a b t usual =
      ap₂ (λ x y. x || y) (child_same d is_this_ident (λ text x y optional. refl) a b t (closed_other d a b t usual) 0)
      (child_same d is_this_ident (λ text x y optional. refl) a b t (closed_other d a b t usual) 1)

  odd_same : (k : Kind) (a b : Node) → kind_of b ≡ k → Thin d a b → is_odd_by (bare k) a ≡ is_odd_by k b
  odd_same kind.FnExpr a b e t = ap not (body_same a b t e)
  odd_same kind.ForStmt a b e t = child_same d is_ambient_variable (λ text x y optional. refl) a b t (closed_other d a b t (ap is_list e)) 0
  odd_same kind.ForInStmt a b e t = child_same d is_ambient_variable (λ text x y optional. refl) a b t (closed_other d a b t (ap is_list e)) 0
  odd_same (kind.ForOfStmt is_await) a b e t = child_same d is_ambient_variable (λ text x y optional. refl) a b t (closed_other d a b t (ap is_list e)) 0
  odd_same (kind.ImportNamedSpecifier is_type_only) a b e t = this_same a b t (ap is_list e)
  odd_same (kind.ExportNamedSpecifier is_type_only) a b e t = this_same a b t (ap is_list e)
  odd_same kind.ExportNamespaceSpecifier a b e t = this_same a b t (ap is_list e)
  odd_same _ a b e t = refl

-- whatever kinds are asked for
module _ (kinds : Kind → Bool) where
  abbrev is_of_form : Node → Bool
  is_of_form n = kinds (kind_of n) || is_odd_by (kind_of n) n

  abbrev here : Bool → Node → Option ℕ
  here = asked_here is_of_form

  abbrev walk : Node → Bool → Option ℕ
  walk = first_failing Bool here gone_inside

  abbrev pub NoneOfForm : Node → Type 0
  NoneOfForm n = walk n false ≡ None

  -- what goes is not asked, nor is what it holds
  abbrev Gone : Node → Type 0
  Gone n = walk n true ≡ None

  all_gone : (n : Node) → Gone n
  all_gone = induct Gone (λ n gone. whole_none Bool here gone_inside n true refl gone)

  -- what does not go is asked
  down : (n : Node) → NoneOfForm n → (i : ℕ) (c : Node) → slice_get (below n) i ≡ Some c → goes_from_list n i ≡ false → NoneOfForm c
  down n h i c at asked = sym (ap (walk c) asked) ∙ (parts_none Bool here gone_inside n false h).1 i c at

  -- a node of another form, whose children are where they do not go
  none_of : (n : Node) → is_of_form n ≡ false → ((i : ℕ) (c : Node) → slice_get (below n) i ≡ Some c → goes_from_list n i ≡ false → NoneOfForm c) → NoneOfForm n
  none_of n none children = whole_none Bool here gone_inside n false (ap (λ z. failing_here z n) none) (λ i c at. by i c at (goes_from_list n i) refl)
    where
      by : (i : ℕ) (c : Node) → slice_get (below n) i ≡ Some c → (b : Bool) → goes_from_list n i ≡ b → walk c (goes_from_list n i) ≡ None
      by i c at true e = ap (walk c) e ∙ all_gone c
      by i c at false e = ap (walk c) e ∙ children i c at e

  -- where contexts do not matter to them
  module _ (blind : Blind Bool kinds) {S : Type 0} (d : Dropping S) where
    form_same : (a b : Node) → Thin d a b → is_of_form a ≡ is_of_form b
    form_same a b t = ap₂ (λ x y. x || y) (thin_same d kinds blind a b t) (ap (λ k. is_odd_by k a) (thin_kind d a b t) ∙ odd_same d (kind_of b) a b refl t)

    abbrev Kept : Node → Type 0
    Kept b = NoneOfForm b → (a : Node) → Thin d a b → NoneOfForm a

    node_kept : (b : Node) → ((i : ℕ) (c : Node) → slice_get (below b) i ≡ Some c → Kept c) → Kept b
    node_kept b kept h a t =
        none_of a (form_same a b t ∙ not_failing (is_of_form b) b (parts_none Bool here gone_inside b false h).0)
        (λ j c at asked. (
        let m = child_before d a b t j c at in
        let stood : (is_list (kind_of b) && not (stays c)) ≡ false = sym (goes_is a j c at ∙ ap (λ l. l && not (stays c)) (thin_same d is_list list_blind a b t)) ∙ asked in
        let asked_before : goes_from_list b m.0 ≡ false = goes_is b m.0 m.1 m.2 ∙ none_goes (is_list (kind_of b)) (stays m.1) (stays c) (stays_before d c m.1 m.3) stood in
        kept m.0 m.1 m.2 (down b h m.0 m.1 m.2 asked_before) c m.3))

    pub none_then : (a b : Node) → Thin d a b → NoneOfForm b → NoneOfForm a
    none_then a b t h = induct Kept node_kept b h a t
