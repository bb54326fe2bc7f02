-- A reserved word names nothing without types either.
use Rattle.std.proofs.Common.{◌≡◌, ◌∙◌, inl, inr, ℕ, Bool, false, not, ◌&&◌, ◌||◌, codes, List, None, bytes_eq, refl, sym, ap}
use Rattle.ecma_lex.specs.Keys.{is_reserved}
use Rattle.ecma_kind.specs.declared.kind.Kind.{Kind}
use Rattle.ecma_kind.specs.declared.kind.Kind.TheVariants as kind
use Rattle.ecma_kind.specs.declared.shapes.Shape.{Shape}
use Rattle.ecma_tree.specs.declared.node.Node.{Node}
use Rattle.ecma_tree.specs.Sorted.{HasShape}
use Rattle.ecma_rules.specs.Children.{kind_of}
use Rattle.ecma_rules.specs.Targets.{is_simple_target}
use Rattle.ecma_strip.specs.Stripping.{plain_kind, stripped}
use Rattle.ecma_fits.specs.declared.role.Role.{Role}
use Rattle.ecma_fits.specs.declared.role.Role.TheVariants as role
use Rattle.ecma_fits.specs.declared.unfit.Where.{Where}
use Rattle.ecma_fits.specs.Fitting.{Fits, unfit_here, NoneFails}
use Rattle.ecma_fits.specs.Roles.{is_wrong_name, is_wrong_text, may_be, takes}
use Rattle.ecma_strip_fits.proofs.Classes.{class_of}
use Rattle.ecma_strip_fits.proofs.Classes.Class.{Usual}
use Rattle.ecma_strip_fits.proofs.ChildrenKept.{Plain}
use Rattle.ecma_strip_fits.proofs.Leaves.{place_kept}
use Rattle.ecma_strip_fits.proofs.RulesKept.{in_role}
use Rattle.ecma_strip_fits.proofs.Standing.{How, Stands}
use Rattle.ecma_strip_fits.proofs.Tests.{neither}

name_plain : (r : Role) → Plain Bool (is_wrong_name r)
unfolding plain_kind
name_plain r (kind.Ident text ctxt optional) = refl
name_plain r _ = refl

text_free : (r : Role) (text : List ℕ) → is_reserved text ≡ false → is_wrong_text r text ≡ false
text_free role.Key text h = refl
text_free role.NameOrThis text h = ap (λ b. b && not (bytes_eq text (codes "this"))) h
text_free _ text h = h

-- what is a name anywhere is one in each place
name_free : (r : Role) (k : Kind) → is_wrong_name role.Free k ≡ false → is_wrong_name r k ≡ false
name_free r (kind.Ident text ctxt optional) h = text_free r text h
name_free r _ h = refl

pub name_here : (n : Node) (s : Shape) (w v : Where) → class_of (kind_of n) ≡ Usual → HasShape s n → Stands n s w v → unfit_here w n ≡ None → is_wrong_name v.role (plain_kind (kind_of n)) ≡ false
name_here n s w v u h r none = name_plain v.role (kind_of n) ∙ by r.how
  where
    was : is_wrong_name w.role (kind_of n) ≡ false
    was = (neither (is_wrong_name w.role (kind_of n)) (not (may_be w.role (kind_of n) || (takes w.role (kind_of n) && is_simple_target n))) (in_role w n none)).0

    by : How n w v → is_wrong_name v.role (kind_of n) ≡ false
    by (inl same) = ap (λ z. is_wrong_name z (kind_of n)) (sym same) ∙ was
    by (inr (b, free, t)) = name_free v.role (kind_of n) (ap (λ z. is_wrong_name z (kind_of n)) (sym free) ∙ was)

pub names_kept : (tree : Node) → Fits tree → NoneFails (λ w n. is_wrong_name w.role (kind_of n)) (stripped tree)
names_kept = place_kept (λ w k n. is_wrong_name w.role k) (λ w n. refl) (λ w n. refl) (λ w n. refl) name_here
