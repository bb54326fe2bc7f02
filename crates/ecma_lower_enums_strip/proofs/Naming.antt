-- Names of nodes, with types and without.
use Rattle.std.proofs.Common.{◌≡◌, ◌∙◌, Bool, true, false, ◌||◌, refl, sym, ap, subst, List, [], ◌∷◌, map, Option, Some, None, slice_get}
use Rattle.std.specs.Option.{option_map}
use Rattle.ecma_kind.specs.Sorts.{belongs}
use Rattle.ecma_kind.specs.declared.ident.Ident.{Ident}
use Rattle.ecma_kind.specs.declared.kind.Kind.{Kind}
use Rattle.ecma_kind.specs.declared.kind.Kind.TheVariants as kind
use Rattle.ecma_kind.specs.declared.shapes.Shape.{Shape}
use Rattle.ecma_kind.specs.declared.shapes.Sort.TheVariants as sort
use Rattle.ecma_kind.specs.declared.span.Span.{Span}
use Rattle.ecma_tree.specs.Idents.{ident_of}
use Rattle.ecma_tree.specs.Laws.{HaveShapes}
use Rattle.ecma_tree.specs.Nodes.{node_of}
use Rattle.ecma_tree.specs.Sorted.{HasShape, allows, is_absent, maybe, one}
use Rattle.ecma_tree.specs.declared.node.Node.{Node, out-Node}
use Rattle.ecma_tree.specs.declared.node.Node.TheViews.{out-roll-Node, roll-out-Node}
use Rattle.ecma_strip.specs.Stripping.{plain, plain_children, plain_kind, stripped}
use Rattle.ecma_strip_rewriting.proofs.PlainKinds.{no, shape-out, some-same, stripped-other}
use Rattle.ecma_strip_rewriting.proofs.Stays.{kind-roll}
use Rattle.ecma_enums.specs.Declarations.{name_text}
use Rattle.ecma_lower_enums.specs.Known.{name_at, unmarked}

-- what stands where a name stands: an identifier, a text, or nothing
abbrev pub is_name : Kind → Bool
is_name (kind.Ident text ctxt optional) = true
is_name (kind.Str value raw) = true
is_name kind.Absent = true
is_name _ = false

-- only names have this shape
abbrev pub OfNames : Shape → Type 0
OfNames u = (k : Kind) → allows u k ≡ true → is_name k ≡ true

ident-is : (k : Kind) → belongs sort.Ident k ≡ true → is_name k ≡ true
ident-is (kind.Ident text ctxt optional) h = refl
ident-is _ h = no h

member-is : (k : Kind) → belongs sort.TsEnumMemberId k ≡ true → is_name k ≡ true
member-is (kind.Ident text ctxt optional) h = refl
member-is (kind.Str value raw) h = refl
member-is _ h = no h

module-is : (k : Kind) → belongs sort.TsModuleName k ≡ true → is_name k ≡ true
module-is (kind.Ident text ctxt optional) h = refl
module-is (kind.Str value raw) h = refl
module-is _ h = no h

maybe-is : (k : Kind) → (is_absent k || belongs sort.Ident k) ≡ true → is_name k ≡ true
maybe-is kind.Absent h = refl
maybe-is (kind.Ident text ctxt optional) h = refl
maybe-is _ h = no h

pub idents : OfNames (one sort.Ident)
idents k h = ident-is k h

pub members : OfNames (one sort.TsEnumMemberId)
members k h = member-is k h

pub modules : OfNames (one sort.TsModuleName)
modules k h = module-is k h

pub may-be-idents : OfNames (maybe sort.Ident)
may-be-idents k h = maybe-is k h

-- ---- the identifier that a node is

abbrev ident_at : Span → Kind → Option Ident
ident_at span (kind.Ident text ctxt optional) = Some (record { span = span; ctxt = ctxt; sym = text; optional = optional })
ident_at span _ = None

pub ident-roll : (span : Span) (k : Kind) (cs : List Node) → ident_of (node_of span k cs) ≡ ident_at span k
ident-roll span (kind.Ident text ctxt optional) cs = rw (out-roll-Node (record { span = span; kind = kind.Ident text ctxt optional; children = cs })) refl
ident-roll span k cs = rw (out-roll-Node (record { span = span; kind = k; children = cs })) refl

pub unmarked-by : (span : Span) (k : Kind) (cs : List Node) → is_name k ≡ true → option_map unmarked (ident_of (stripped (node_of span k cs))) ≡ option_map unmarked (ident_at span k)
unfolding plain plain_kind plain_children
unmarked-by span (kind.Ident text ctxt optional) cs h =
    ap (λ z. option_map unmarked (ident_of z)) (stripped-other span (kind.Ident text ctxt optional) cs refl) ∙ ap (option_map unmarked) (ident-roll span (kind.Ident text ctxt false) (map stripped cs))
unmarked-by span (kind.Str value raw) cs h =
    ap (λ z. option_map unmarked (ident_of z)) (stripped-other span (kind.Str value raw) cs refl) ∙ ap (option_map unmarked) (ident-roll span (kind.Str value raw) (map stripped cs))
unmarked-by span kind.Absent cs h =
    ap (λ z. option_map unmarked (ident_of z)) (stripped-other span kind.Absent cs refl) ∙ ap (option_map unmarked) (ident-roll span kind.Absent (map stripped cs))
unmarked-by span _ cs h = no h

-- without types it is the same but for its `?`
pub unmarked-kept : (n : Node) → is_name (out-Node n).kind ≡ true → option_map unmarked (ident_of (stripped n)) ≡ option_map unmarked (ident_of n)
unmarked-kept n h =
    ap (λ z. option_map unmarked (ident_of (stripped z))) (sym (roll-out-Node n))
    ∙ unmarked-by (out-Node n).span (out-Node n).kind (out-Node n).children h
    ∙ ap (option_map unmarked) (sym (ident-roll (out-Node n).span (out-Node n).kind (out-Node n).children) ∙ ap ident_of (roll-out-Node n))

-- ---- the first child of a node

pub first-shape : (u : Shape) (shapes : List Shape) (c : Node) (cs : List Node) → slice_get shapes 0 ≡ Some u → HaveShapes shapes (c ∷ cs) → HasShape u c
first-shape u [] c cs e h = absurd h
first-shape u (v ∷ vs) c cs e h = subst (λ z. HasShape z c) (some-same v u e) h.0

pub name-kept : (u : Shape) (shapes : List Shape) (cs : List Node) → OfNames u → slice_get shapes 0 ≡ Some u → HaveShapes shapes cs → name_at (map stripped cs) ≡ name_at cs
name-kept u shapes [] names e h = refl
name-kept u shapes (c ∷ cs) names e h = unmarked-kept c (names (out-Node c).kind (shape-out c u (first-shape u shapes c cs e h)).0)

-- ---- the text of a name

text-by : (span : Span) (k : Kind) (cs : List Node) → is_name k ≡ true → name_text (out-Node (stripped (node_of span k cs))).kind ≡ name_text k
unfolding plain plain_kind plain_children
text-by span (kind.Ident text ctxt optional) cs h =
    ap (λ z. name_text (out-Node z).kind) (stripped-other span (kind.Ident text ctxt optional) cs refl) ∙ ap name_text (kind-roll span (kind.Ident text ctxt false) (map stripped cs))
text-by span (kind.Str value raw) cs h =
    ap (λ z. name_text (out-Node z).kind) (stripped-other span (kind.Str value raw) cs refl) ∙ ap name_text (kind-roll span (kind.Str value raw) (map stripped cs))
text-by span kind.Absent cs h =
    ap (λ z. name_text (out-Node z).kind) (stripped-other span kind.Absent cs refl) ∙ ap name_text (kind-roll span kind.Absent (map stripped cs))
text-by span _ cs h = no h

pub text-kept : (n : Node) → is_name (out-Node n).kind ≡ true → name_text (out-Node (stripped n)).kind ≡ name_text (out-Node n).kind
text-kept n h =
    ap (λ z. name_text (out-Node (stripped z)).kind) (sym (roll-out-Node n)) ∙ text-by (out-Node n).span (out-Node n).kind (out-Node n).children h
