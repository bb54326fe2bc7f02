-- Which nodes are written as what.
use Rattle.std.proofs.Common.{◌≡◌, ◌∙◌, ℕ, Bool, true, false, cond, not, ◌&&◌, List, [], ◌∷◌, length, Option, Some, None, refl, sym, ap, slice_get}
use Rattle.std.specs.Option.{option_map, option_map_or}
use Rattle.ecma_kind.specs.Sorts.{belongs}
use Rattle.ecma_kind.specs.declared.ident.Ident.{Ident}
use Rattle.ecma_kind.specs.declared.kind.Kind.{Kind}
use Rattle.ecma_kind.specs.declared.kind.Kind.TheVariants as kind
use Rattle.ecma_kind.specs.declared.shapes.Count.{Count}
use Rattle.ecma_kind.specs.declared.shapes.Count.TheVariants.{One, Maybe, Many, MaybeMany, Holes}
use Rattle.ecma_kind.specs.declared.shapes.Shape.{Shape}
use Rattle.ecma_kind.specs.declared.shapes.Sort.{Sort}
use Rattle.ecma_kind.specs.declared.shapes.Sort.TheVariants as sort
use Rattle.ecma_kind.specs.declared.span.Span.{Span}
use Rattle.ecma_tree.specs.Idents.{ident_of}
use Rattle.ecma_tree.specs.Laws.{HaveShapes}
use Rattle.ecma_tree.specs.Nodes.{node_of}
use Rattle.ecma_tree.specs.Sorted.{HasShape, HasSort, allows, allows_by, child_shapes, is_list, many, one}
use Rattle.ecma_tree.specs.declared.node.Node.{Node, out-Node}
use Rattle.ecma_tree.specs.declared.node.Node.TheViews.{out-roll-Node, roll-out-Node}
use Rattle.ecma_rewriting.proofs.Equations.{list-kind}
use Rattle.ecma_strip.specs.Staying.{is_ambient, is_empty_stmt, is_this_by, is_this_param_by, member_stays_by, specifier_stays, stays}
use Rattle.ecma_strip_fits.proofs.Walk.{shape_parts}
use Rattle.ecma_tree.specs.Values.{is_value}
use Rattle.ecma_lower_enums.specs.declared.form.Form.TheVariants as form
use Rattle.ecma_lower_enums.specs.declared.known.Part.{Part as EnumPart}
use Rattle.ecma_lower_enums.specs.declared.place.Place.{Place}
use Rattle.ecma_lower_enums.specs.declared.place.Place.TheVariants as place
use Rattle.ecma_lower_enums.specs.Known.{name_at, part_at, part_by, unmarked}
use Rattle.ecma_lower_enums.specs.Places.{is_item, is_left, is_several}
use Rattle.ecma_lower_enums.specs.Writing.{form_of, is_enum_first, is_enum_kind, member_form, part_form}
use Rattle.ecma_lower_enums.proofs.ByForm.{is_single}
use Rattle.ecma_lower_enums_sources.proofs.Relation.{is_members, suits, suits_sort}
use Rattle.ecma_lower_enums_sources.proofs.Suiting.{no}

-- ---- a part of an enum

pub record IsPart (p : Place) (k : Kind) (cs : List Node) (part : EnumPart) : Type 0 where
  pub at_top : Bool
  pub exported : Bool
  pub item : p ≡ place.Item at_top exported
  pub enum : is_enum_kind k ≡ true
  pub found : part_at p k cs ≡ Some part
  pub here : part.exported ≡ exported
  pub name : name_at cs ≡ Some part.name

part-of : (p : Place) (declare is_const : Bool) (cs : List Node) (part : EnumPart) (o : Option Ident) → name_at cs ≡ o → part_form (part_by p is_const o) ≡ form.Part part
    → IsPart p (kind.TsEnumDecl declare is_const) cs part
part-of (place.Item at_top exported) declare is_const cs part (Some name) named is =
    let made : EnumPart = record { name = name; is_const = is_const; at_top = at_top; exported = exported } in
    let same : made ≡ part = cc in
    record {
      at_top = at_top;
      exported = exported;
      item = refl;
      enum = refl;
      found = ap (part_by (place.Item at_top exported) is_const) named ∙ ap (λ z. Some z) same;
      here = sym (ap (λ (z : EnumPart). z.exported) same);
      name = named ∙ ap (λ (z : EnumPart). Some z.name) same;
    }
part-of (place.Item at_top exported) declare is_const cs part None named is = cc
part-of place.Block declare is_const cs part o named is = cc
part-of place.Read declare is_const cs part o named is = cc
part-of place.Property declare is_const cs part o named is = cc
part-of place.Target declare is_const cs part o named is = cc
part-of place.Body declare is_const cs part o named is = cc
part-of place.Other declare is_const cs part o named is = cc
part-of place.Raw declare is_const cs part o named is = cc
part-of (place.Member skips) declare is_const cs part o named is = cc

export-part : (b : Bool) (part : EnumPart) → cond b form.Export form.One ≡ form.Part part → false ≡ true
export-part true part is = cc
export-part false part is = cc

member-part : (p : Place) (part : EnumPart) → member_form p ≡ form.Part part → false ≡ true
member-part (place.Member skips) part is = cc
member-part _ part is = cc

pub is-part : (p : Place) (k : Kind) (cs : List Node) (part : EnumPart) → form_of p k cs ≡ form.Part part → IsPart p k cs part
unfolding form_of
is-part p (kind.TsEnumDecl declare is_const) cs part is = part-of p declare is_const cs part (name_at cs) refl is
is-part p kind.ExportDecl cs part is = no (export-part (is_item p && is_enum_first cs) part is)
is-part p kind.TsEnumMember cs part is = no (member-part p part is)
is-part p _ cs part is = cc

pub enum-shapes : (k : Kind) (t : Shape) (n : ℕ) → is_enum_kind k ≡ true → child_shapes k t n ≡ one sort.Ident ∷ many sort.TsEnumMember ∷ []
enum-shapes (kind.TsEnumDecl declare is_const) t n h = refl
enum-shapes _ t n h = no h

pub enum-other : (k : Kind) → is_enum_kind k ≡ true → is_list k ≡ false
enum-other (kind.TsEnumDecl declare is_const) h = refl
enum-other _ h = no h

-- ---- an enum behind `export`

export-first : (a b : Bool) → cond (a && b) form.Export form.One ≡ form.Export → (a ≡ true) × (b ≡ true)
export-first true true is = (refl, refl)
export-first true false is = cc
export-first false b is = cc

pub export-enum : (p : Place) (cs : List Node) → form_of p kind.ExportDecl cs ≡ form.Export → (is_item p ≡ true) × (is_enum_first cs ≡ true)
unfolding form_of
export-enum p cs is = export-first (is_item p) (is_enum_first cs) is

pub first-is-enum : (cs : List Node) (c : Node) → slice_get cs 0 ≡ Some c → is_enum_first cs ≡ true → is_enum_kind (out-Node c).kind ≡ true
first-is-enum cs c at h = sym (ap (λ (o : Option Node). option_map_or (λ n. is_enum_kind (out-Node n).kind) o false) at) ∙ h

-- an export is no declaration
pub export-outer : (at_top exported : Bool) (σ : Sort) → suits_sort (place.Item at_top exported) σ ≡ true → belongs σ kind.ExportDecl ≡ true → exported ≡ false
export-outer at_top false σ s b = refl
export-outer at_top true sort.Decl s b = no b
export-outer at_top true _ s b = no s

-- an enum that is an item is a part, since it has a name
ident-some : (span : Span) (k : Kind) (cs : List Node) → belongs sort.Ident k ≡ true → ident_of (node_of span k cs) ≡ None → false ≡ true
ident-some span (kind.Ident sym ctxt optional) cs b h =
    let name : Ident = record { span = span; ctxt = ctxt; sym = sym; optional = optional } in
    let is : ident_of (node_of span (kind.Ident sym ctxt optional) cs) ≡ Some name = rw (out-roll-Node (record { span = span; kind = kind.Ident sym ctxt optional; children = cs })) refl in
    cc
ident-some span _ cs b h = b

ident-there : (n : Node) → HasSort sort.Ident n → ident_of n ≡ None → false ≡ true
ident-there n has h = ident-some (out-Node n).span (out-Node n).kind (out-Node n).children (shape_parts n (one sort.Ident) has).0 (ap ident_of (roll-out-Node n) ∙ h)

unmarked-none : (o : Option Ident) → option_map unmarked o ≡ None → o ≡ None
unmarked-none None h = refl
unmarked-none (Some of) h = cc

name-there : (u : Shape) (cs : List Node) → HaveShapes (one sort.Ident ∷ u ∷ []) cs → name_at cs ≡ None → false ≡ true
name-there u [] have h = absurd have
name-there u (a ∷ cs) have h = ident-there a have.0 (unmarked-none (ident_of a) h)

single-none : (at_top exported is_const : Bool) (o : Option Ident) → is_single (part_form (part_by (place.Item at_top exported) is_const o)) ≡ true → o ≡ None
single-none at_top exported is_const None h = refl
single-none at_top exported is_const (Some name) h = no h

pub enum-spreads : (at_top exported : Bool) (k : Kind) (cs : List Node) (t : Shape) → is_enum_kind k ≡ true → HaveShapes (child_shapes k t (length cs)) cs → is_single (form_of (place.Item at_top exported) k cs) ≡ true
    → false ≡ true
unfolding form_of
enum-spreads at_top exported (kind.TsEnumDecl declare is_const) cs t e have f = name-there (many sort.TsEnumMember) cs have (single-none at_top exported is_const (name_at cs) f)
enum-spreads at_top exported _ cs t e have f = e

-- ---- a member

pub record IsMember (p : Place) (k : Kind) (skips : Bool) : Type 0 where
  pub item : p ≡ place.Member skips
  pub member : k ≡ kind.TsEnumMember

member-of : (p : Place) (skips : Bool) → member_form p ≡ form.Member skips → p ≡ place.Member skips
member-of (place.Member other) skips is = let same : other ≡ skips = cc in ap place.Member same
member-of place.Block skips is = cc
member-of place.Read skips is = cc
member-of place.Property skips is = cc
member-of place.Target skips is = cc
member-of place.Body skips is = cc
member-of place.Other skips is = cc
member-of place.Raw skips is = cc
member-of (place.Item at_top exported) skips is = cc

part-member : (o : Option EnumPart) (skips : Bool) → part_form o ≡ form.Member skips → false ≡ true
part-member None skips is = cc
part-member (Some part) skips is = cc

export-member : (b skips : Bool) → cond b form.Export form.One ≡ form.Member skips → false ≡ true
export-member true skips is = cc
export-member false skips is = cc

pub is-member : (p : Place) (k : Kind) (cs : List Node) (skips : Bool) → form_of p k cs ≡ form.Member skips → IsMember p k skips
unfolding form_of
is-member p (kind.TsEnumDecl declare is_const) cs skips is = no (part-member (part_at p (kind.TsEnumDecl declare is_const) cs) skips is)
is-member p kind.ExportDecl cs skips is = no (export-member (is_item p && is_enum_first cs) skips is)
is-member p kind.TsEnumMember cs skips is = record { item = member-of p skips is; member = refl }
is-member p _ cs skips is = cc

-- ---- what is left, and children

pub left-single : (p : Place) (k : Kind) → is_left p k ≡ true → is_several p ≡ false
left-single (place.Item at_top exported) k h = no h
left-single (place.Member skips) k h = no h
left-single _ k h = refl

pub left-calm : (p : Place) (k : Kind) → is_left p k ≡ true → is_members p ≡ false
left-calm (place.Member skips) k h = no h
left-calm (place.Item at_top exported) k h = refl
left-calm _ k h = refl

-- a member of an enum

member-kind : (k : Kind) → belongs sort.TsEnumMember k ≡ true → k ≡ kind.TsEnumMember
member-kind kind.TsEnumMember h = refl
member-kind _ h = no h

suits-member : (sk : Bool) (t : Shape) (k : Kind) → is_list k ≡ false → suits (place.Member sk) t ≡ true → allows t k ≡ true → k ≡ kind.TsEnumMember
suits-member sk t k l s a = by t.count t.sort s a
  where
    by : (c : Count) (σ : Sort) → suits (place.Member sk) (record { count = c; sort = σ }) ≡ true → allows_by c σ k ≡ true → k ≡ kind.TsEnumMember
    by One sort.TsEnumMember s a = member-kind k a
    by One _ s a = no s
    by Many σ s a = no (sym l ∙ a)
    by Maybe sort.TsEnumMember s a = no s
    by Maybe _ s a = no s
    by MaybeMany sort.TsEnumMember s a = no s
    by MaybeMany _ s a = no s
    by Holes sort.TsEnumMember s a = no s
    by Holes _ s a = no s

pub single-calm : (p : Place) (t : Shape) (k : Kind) (cs : List Node) → is_list k ≡ false → suits p t ≡ true → allows t k ≡ true → is_single (form_of p k cs) ≡ true → is_members p ≡ false
unfolding form_of
single-calm (place.Member sk) t k cs l s a f = no (sym (ap (λ z. is_single (form_of (place.Member sk) z cs)) (suits-member sk t k l s a)) ∙ f)
single-calm (place.Item at_top exported) t k cs l s a f = refl
single-calm _ t k cs l s a f = refl

list-stays : (n : Node) → is_list (out-Node n).kind ≡ true → stays n ≡ true
unfolding stays member_stays_by specifier_stays
list-stays n l =
    ap (λ k. cond (is_empty_stmt k) true (cond (belongs sort.ModuleItem k) (is_value n && not (is_ambient n)) true) && member_stays_by k n && specifier_stays k && not (is_this_param_by k n)) (list-kind (out-Node n).kind l)
    ∙ ap (λ k. not (is_this_by k n)) (list-kind (out-Node n).kind l)

-- it stays
member-stays : (n : Node) → (out-Node n).kind ≡ kind.TsEnumMember → stays n ≡ true
unfolding stays member_stays_by specifier_stays
member-stays n e =
    ap (λ k. cond (is_empty_stmt k) true (cond (belongs sort.ModuleItem k) (is_value n && not (is_ambient n)) true) && member_stays_by k n && specifier_stays k && not (is_this_param_by k n)) e
    ∙ ap (λ k. not (is_this_by k n)) e

pub goes-calm : (p : Place) (t : Shape) (n : Node) → suits p t ≡ true → HasShape t n → stays n ≡ false → is_members p ≡ false
goes-calm (place.Member sk) t n s has g = by (is_list (out-Node n).kind) refl
  where
    by : (b : Bool) → is_list (out-Node n).kind ≡ b → true ≡ false
    by false l = sym (member-stays n (suits-member sk t (out-Node n).kind l s (shape_parts n t has).0)) ∙ g
    by true l = sym (list-stays n l) ∙ g
goes-calm (place.Item at_top exported) t n s has g = refl
goes-calm _ t n s has g = refl

pub two-children : (t u : Shape) (cs : List Node) → HaveShapes (t ∷ u ∷ []) cs → (a : Node) × (b : Node) × (cs ≡ a ∷ b ∷ []) × HasShape t a × HasShape u b
two-children t u [] have = absurd have
two-children t u (a ∷ []) have = absurd have.1
two-children t u (a ∷ b ∷ []) have = (a, b, refl, have.0, have.1.0)
two-children t u (a ∷ b ∷ c ∷ cs) have = absurd have.1.1

pub one-child : (t : Shape) (cs : List Node) → HaveShapes (t ∷ []) cs → (a : Node) × (cs ≡ a ∷ []) × HasShape t a
one-child t [] have = absurd have
one-child t (a ∷ []) have = (a, refl, have.0)
one-child t (a ∷ b ∷ cs) have = absurd have.1
