-- A name keeps its text without types, and an expression is what it is under the types round it.
use Rattle.std.proofs.Common.{◌≡◌, ◌∙◌, ℕ, Bool, true, false, cond, refl, sym, ap, subst, List, [], ◌∷◌, map, Option, Some, slice_get}
use Rattle.ecma_kind.specs.Sorts.{belongs, is_expr, is_type_wrapper}
use Rattle.ecma_kind.specs.declared.kind.Kind.{Kind}
use Rattle.ecma_kind.specs.declared.kind.Kind.TheVariants as kind
use Rattle.ecma_kind.specs.declared.shapes.Shape.{Shape}
use Rattle.ecma_kind.specs.declared.shapes.Sort.{Sort}
use Rattle.ecma_kind.specs.declared.shapes.Sort.TheVariants as sort
use Rattle.ecma_kind.specs.declared.span.Span.{Span}
use Rattle.ecma_tree.specs.Laws.{HaveShapes}
use Rattle.ecma_tree.specs.Nodes.{node_of}
use Rattle.ecma_tree.specs.Sorted.{HasShape, is_list, one}
use Rattle.ecma_tree.specs.declared.node.Node.{Node, Node-F, fold-roll-Node, out-Node}
use Rattle.ecma_tree.specs.declared.node.Node.TheViews.{out-roll-Node, roll-out-Node}
use Rattle.ecma_tree.proofs.ShapeLaws.{node_has_shape}
use Rattle.ecma_strip.specs.Stripping.{plain, plain_children, plain_kind, stripped}
use Rattle.ecma_strip_rewriting.specs.Commuting.{is_type}
use Rattle.ecma_strip_rewriting.specs.Names.{NamesStandUnderTypes, first_name, first_of, name_at, name_by, name_of, name_under, text_at, text_under, under, under_step}
use Rattle.ecma_strip_rewriting.proofs.Commuting.{by-parts, stripped-wrapper, wrapped-first}
use Rattle.ecma_strip_rewriting.proofs.PlainKinds.{no, shape-out, some-same, stripped-other, usual-plain}

-- ---- names

abbrev pub is_name_sort : Sort → Bool
is_name_sort sort.Ident = true
is_name_sort sort.TsEnumMemberId = true
is_name_sort sort.TsModuleName = true
is_name_sort _ = false

abbrev is_name : Kind → Bool
is_name (kind.Ident sym ctxt optional) = true
is_name (kind.Str value raw) = true
is_name _ = false

ident-is : (k : Kind) → belongs sort.Ident k ≡ true → is_name k ≡ true
ident-is (kind.Ident sym ctxt optional) h = refl
ident-is _ h = no h

member-is : (k : Kind) → belongs sort.TsEnumMemberId k ≡ true → is_name k ≡ true
member-is (kind.Ident sym ctxt optional) h = refl
member-is (kind.Str value raw) h = refl
member-is _ h = no h

module-is : (k : Kind) → belongs sort.TsModuleName k ≡ true → is_name k ≡ true
module-is (kind.Ident sym ctxt optional) h = refl
module-is (kind.Str value raw) h = refl
module-is _ h = no h

name-is : (σ : Sort) (k : Kind) → is_name_sort σ ≡ true → belongs σ k ≡ true → is_name k ≡ true
name-is sort.Ident k g h = ident-is k h
name-is sort.TsEnumMemberId k g h = member-is k h
name-is sort.TsModuleName k g h = module-is k h
name-is _ k g h = no g

name-roll : (span : Span) (k : Kind) (cs : List Node) → name_of (node_of span k cs) ≡ name_by span k
name-roll span k cs = ap (λ (z : Node-F Node). name_by z.span z.kind) (out-roll-Node (record { span = span; kind = k; children = cs }))

name-plain : (span : Span) (k : Kind) (cs : List Node) → is_name k ≡ true → name_of (stripped (node_of span k cs)) ≡ name_by span k
unfolding plain plain_kind plain_children name_by
name-plain span (kind.Ident sym ctxt optional) cs h = ap name_of (stripped-other span (kind.Ident sym ctxt optional) cs refl) ∙ name-roll span (kind.Ident sym ctxt false) (map stripped cs)
name-plain span (kind.Str value raw) cs h = ap name_of (stripped-other span (kind.Str value raw) cs refl) ∙ name-roll span (kind.Str value raw) (map stripped cs)
name-plain span _ cs h = no h

pub name-kept : (n : Node) (σ : Sort) → is_name_sort σ ≡ true → HasShape (one σ) n → name_of (stripped n) ≡ name_of n
name-kept n σ g h = ap (λ z. name_of (stripped z)) (sym (roll-out-Node n)) ∙ name-plain (out-Node n).span (out-Node n).kind (out-Node n).children (name-is σ (out-Node n).kind g (shape-out n (one σ) h).0)

pub first-kept : (σ : Sort) (shapes : List Shape) (cs : List Node) → is_name_sort σ ≡ true → slice_get shapes 0 ≡ Some (one σ) → HaveShapes shapes cs → first_name (map stripped cs) ≡ first_name cs
first-kept σ shapes [] g e h = refl
first-kept σ [] (c ∷ cs) g e h = absurd h
first-kept σ (u ∷ us) (c ∷ cs) g e h = name-kept c σ g (subst (λ z. HasShape z c) (some-same u (one σ) e) h.0)

-- ---- under types

expr-usual : (k : Kind) → is_expr k ≡ true → (is_list k ≡ false) × (is_type k ≡ false)
expr-usual kind.List h = no h
expr-usual kind.TsTypeAnn h = no h
expr-usual kind.TsType h = no h
expr-usual kind.TsTypeParamDecl h = no h
expr-usual kind.TsTypeParamInstantiation h = no h
expr-usual _ h = (refl, refl)

wrapper-same : (k : Kind) → is_type_wrapper (plain_kind k) ≡ is_type_wrapper k
unfolding plain_kind
wrapper-same kind.TsAsExpr = refl
wrapper-same _ = refl

module _ {X : Type 0} (here : Span → Kind → Option X) (same : (span : Span) (k : Kind) → here span (plain_kind k) ≡ here span k) where
  under-roll : (span : Span) (k : Kind) (cs : List Node) → under here (node_of span k cs) ≡ cond (is_type_wrapper k) (first_of (map (under here) cs)) (here span k)
  under-roll span k cs = fold-roll-Node (Option X) (under_step here) (record { span = span; kind = k; children = cs })

  abbrev UnderKept : Node → Type 0
  UnderKept n = HasShape (one sort.Expr) n → under here (stripped n) ≡ under here n

  under-wrapper : (span : Span) (k : Kind) (e : Node) (es : List Node) → is_type_wrapper k ≡ true → under here (node_of span k (e ∷ es)) ≡ under here e
  under-wrapper span k e es w = under-roll span k (e ∷ es) ∙ ap (λ b. cond b (under here e) (here span k)) w

  under-usual : (span : Span) (k : Kind) (cs : List Node) → is_type_wrapper k ≡ false → under here (node_of span k cs) ≡ here span k
  under-usual span k cs w = under-roll span k cs ∙ ap (λ b. cond b (first_of (map (under here) cs)) (here span k)) w

  under-node : (span : Span) (k : Kind) (cs : List Node) → ((i : ℕ) (c : Node) → slice_get cs i ≡ Some c → UnderKept c) → UnderKept (node_of span k cs)
  under-node span k cs each has = by (is_type_wrapper k) refl
    where
      by : (b : Bool) → is_type_wrapper k ≡ b → under here (stripped (node_of span k cs)) ≡ under here (node_of span k cs)
      by true w =
          let front = wrapped-first span k cs (one sort.Expr) w ((node_has_shape span k cs (one sort.Expr)).0 has).1 in
          let e = front.0 in
          subst (λ z. under here (stripped (node_of span k z)) ≡ under here (node_of span k z)) (sym front.2)
          (ap (under here) (stripped-wrapper span k e front.1 (one sort.Expr) w)
          ∙ each 0 e (ap (λ (z : List Node). slice_get z 0) front.2) front.3 ∙ sym (under-wrapper span k e front.1 w))
      by false w =
          let usual = expr-usual k ((node_has_shape span k cs (one sort.Expr)).0 has).0 in
          ap (under here) (stripped-other span k cs usual.0 ∙ usual-plain span k (map stripped cs) usual.1 w)
          ∙ under-usual span (plain_kind k) (plain_children k (map stripped cs)) (wrapper-same k ∙ w)
          ∙ same span k ∙ sym (under-usual span k cs w)

  pub under-kept : (n : Node) → UnderKept n
  under-kept = by-parts UnderKept under-node

name-same : (span : Span) (k : Kind) → name_at span (plain_kind k) ≡ name_at span k
unfolding plain_kind
name-same span (kind.Ident sym ctxt optional) = refl
name-same span _ = refl

text-same : (span : Span) (k : Kind) → text_at span (plain_kind k) ≡ text_at span k
unfolding plain_kind
text-same span (kind.Str value raw) = refl
text-same span _ = refl

pub name-under-kept : (n : Node) → HasShape (one sort.Expr) n → name_under (stripped n) ≡ name_under n
name-under-kept n h = under-kept name_at name-same n h

pub text-under-kept : (n : Node) → HasShape (one sort.Expr) n → text_under (stripped n) ≡ text_under n
text-under-kept n h = under-kept text_at text-same n h

pub names_stand_under_types : NamesStandUnderTypes
names_stand_under_types n h = (name-under-kept n h, text-under-kept n h)
