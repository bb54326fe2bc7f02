-- How nodes are written in their places.
use Rattle.std.proofs.Common.{◌≡◌, ◌∙◌, Bool, true, false, ◌&&◌, cond, refl, sym, ap, List, Option, Some, None}
use Rattle.ecma_kind.specs.Sorts.{is_type_wrapper}
use Rattle.ecma_kind.specs.declared.ident.Ident.{Ident}
use Rattle.ecma_kind.specs.declared.kind.Kind.{Kind}
use Rattle.ecma_kind.specs.declared.kind.Kind.TheVariants as kind
use Rattle.ecma_kind.specs.declared.span.Span.{Span}
use Rattle.ecma_tree.specs.Sorted.{is_list}
use Rattle.ecma_tree.specs.declared.node.Node.{Node}
use Rattle.ecma_lower_enums.specs.declared.form.Form.{Form}
use Rattle.ecma_lower_enums.specs.declared.form.Form.TheVariants as form
use Rattle.ecma_lower_enums.specs.declared.known.KnownEnums.{KnownEnums}
use Rattle.ecma_lower_enums.specs.declared.known.Part.{Part}
use Rattle.ecma_lower_enums.specs.declared.place.Place.{Place}
use Rattle.ecma_lower_enums.specs.declared.place.Place.TheVariants as place
use Rattle.ecma_lower_enums.specs.Known.{name_at, part_at, part_by}
use Rattle.ecma_lower_enums.specs.Places.{exported_place, is_item, is_left, is_raw, is_several, place_in}
use Rattle.ecma_lower_enums.specs.Seats.{Seat, around_at, around_in, place_at, seat_at}
use Rattle.ecma_lower_enums.specs.Writing.{answer_by, form_of, is_enum_first, member_form, part_form}

pub no : {X : Type 0} → false ≡ true → X
no h = cc

pub no' : {X : Type 0} → true ≡ false → X
no' h = cc

-- ---- places

pub no-item : (p : Place) → is_several p ≡ false → is_item p ≡ false
no-item (place.Item at_top exported) h = no' h
no-item _ h = refl

pub several-stays : (p : Place) (k : Kind) → is_several p ≡ true → is_left p k ≡ false
several-stays (place.Item at_top exported) k h = refl
several-stays (place.Member skips) k h = refl
several-stays _ k h = no h

pub raw-left : (p : Place) (k : Kind) → is_left p k ≡ false → is_raw p ≡ false
raw-left place.Raw k h = no' h
raw-left _ k h = refl

pub raw-is-left : (p : Place) (k : Kind) → is_raw p ≡ true → is_left p k ≡ true
raw-is-left place.Raw k h = refl
raw-is-left _ k h = no h

pub raw-no-item : (p : Place) → is_raw p ≡ true → is_item p ≡ false
raw-no-item place.Raw h = refl
raw-no-item _ h = no h

left-list-by : (p : Place) → is_left p kind.List ≡ true → is_raw p ≡ true
left-list-by place.Raw h = refl
left-list-by place.Body h = no h
left-list-by _ h = no h

-- a list is left only where nothing is done
pub left-list : (p : Place) (k : Kind) → is_list k ≡ true → is_left p k ≡ true → is_raw p ≡ true
left-list p kind.List list h = left-list-by p h
left-list p _ list h = no list

pub exported-several : (p : Place) → is_item p ≡ true → is_several (exported_place p) ≡ true
exported-several (place.Item at_top exported) h = refl
exported-several _ h = no h

-- ---- forms

abbrev is_wrapped : Form → Bool
is_wrapped form.Wrapped = true
is_wrapped _ = false

abbrev pub is_single : Form → Bool
is_single form.Wrapped = true
is_single form.One = true
is_single _ = false

abbrev is_export : Form → Bool
is_export form.Export = true
is_export _ = false

part-wraps : (o : Option Part) → is_wrapped (part_form o) ≡ false
part-wraps (Some part) = refl
part-wraps None = refl

export-wraps : (b : Bool) → is_wrapped (cond b form.Export form.One) ≡ false
export-wraps true = refl
export-wraps false = refl

member-wraps : (p : Place) → is_wrapped (member_form p) ≡ false
member-wraps (place.Member skips) = refl
member-wraps _ = refl

wraps : (p : Place) (k : Kind) (cs : List Node) → is_wrapped (form_of p k cs) ≡ is_type_wrapper k
unfolding form_of
wraps p kind.TsTypeAssertion cs = refl
wraps p kind.TsConstAssertion cs = refl
wraps p kind.TsNonNullExpr cs = refl
wraps p kind.TsAsExpr cs = refl
wraps p kind.TsInstantiation cs = refl
wraps p kind.TsSatisfiesExpr cs = refl
wraps p (kind.TsEnumDecl declare is_const) cs = part-wraps (part_at p (kind.TsEnumDecl declare is_const) cs)
wraps p kind.ExportDecl cs = export-wraps (is_item p && is_enum_first cs)
wraps p kind.TsEnumMember cs = member-wraps p
wraps p _ cs = refl

pub wrapped-kind : (p : Place) (k : Kind) (cs : List Node) → form_of p k cs ≡ form.Wrapped → is_type_wrapper k ≡ true
wrapped-kind p k cs is = sym (wraps p k cs) ∙ ap is_wrapped is

part-none : (p : Place) (b : Bool) (name : Option Ident) → is_several p ≡ false → is_single (part_form (part_by p b name)) ≡ true
part-none (place.Item at_top exported) b name h = no' h
part-none _ b name h = refl

export-none : (a b : Bool) → a ≡ false → is_single (cond (a && b) form.Export form.One) ≡ true
export-none false b h = refl
export-none true b h = no' h

member-none : (p : Place) → is_several p ≡ false → is_single (member_form p) ≡ true
member-none (place.Member skips) h = no' h
member-none _ h = refl

-- where a node may not become several, one is written for one
pub single : (p : Place) (k : Kind) (cs : List Node) → is_several p ≡ false → is_single (form_of p k cs) ≡ true
unfolding form_of
single p kind.TsTypeAssertion cs h = refl
single p kind.TsConstAssertion cs h = refl
single p kind.TsNonNullExpr cs h = refl
single p kind.TsAsExpr cs h = refl
single p kind.TsInstantiation cs h = refl
single p kind.TsSatisfiesExpr cs h = refl
single p (kind.TsEnumDecl declare is_const) cs h = part-none p is_const (name_at cs) h
single p kind.ExportDecl cs h = export-none (is_item p) (is_enum_first cs) (no-item p h)
single p kind.TsEnumMember cs h = member-none p h
single p _ cs h = refl

part-exports : (o : Option Part) → part_form o ≡ form.Export → false ≡ true
part-exports (Some part) is = cc
part-exports None is = cc

member-exports : (p : Place) → member_form p ≡ form.Export → false ≡ true
member-exports (place.Member skips) is = cc
member-exports _ is = cc

pub export-kind : (p : Place) (k : Kind) (cs : List Node) → form_of p k cs ≡ form.Export → k ≡ kind.ExportDecl
unfolding form_of
export-kind p (kind.TsEnumDecl declare is_const) cs is = no (part-exports (part_at p (kind.TsEnumDecl declare is_const) cs) is)
export-kind p kind.ExportDecl cs is = refl
export-kind p kind.TsEnumMember cs is = no (member-exports p is)
export-kind p _ cs is = cc

of-item : (a b : Bool) → cond (a && b) form.Export form.One ≡ form.Export → a ≡ true
of-item true b is = refl
of-item false b is = cc

pub export-item : (p : Place) (cs : List Node) → form_of p kind.ExportDecl cs ≡ form.Export → is_item p ≡ true
unfolding form_of
export-item p cs is = of-item (is_item p) (is_enum_first cs) is

-- ---- under types

module _ (enums : KnownEnums) where
  pub under-place : (p : Place) (k : Kind) (cs : List Node) → is_type_wrapper k ≡ true → place_at enums p k cs 0 ≡ p
  unfolding place_in
  under-place p kind.TsTypeAssertion cs w = refl
  under-place p kind.TsConstAssertion cs w = refl
  under-place p kind.TsNonNullExpr cs w = refl
  under-place p kind.TsAsExpr cs w = refl
  under-place p kind.TsInstantiation cs w = refl
  under-place p kind.TsSatisfiesExpr cs w = refl
  under-place p _ cs w = no w

  pub under-answer : (p : Place) (span : Span) (k : Kind) (cs : List Node) → is_type_wrapper k ≡ true → answer_by enums p span k cs ≡ None
  unfolding answer_by
  under-answer p span kind.TsTypeAssertion cs w = refl
  under-answer p span kind.TsConstAssertion cs w = refl
  under-answer p span kind.TsNonNullExpr cs w = refl
  under-answer p span kind.TsAsExpr cs w = refl
  under-answer p span kind.TsInstantiation cs w = refl
  under-answer p span kind.TsSatisfiesExpr cs w = refl
  under-answer p span _ cs w = no w

  pub under-around : (s : Seat) (k : Kind) (cs : List Node) → is_type_wrapper k ≡ true → around_at s k cs ≡ s.around
  unfolding around_in
  under-around s kind.TsTypeAssertion cs w = refl
  under-around s kind.TsConstAssertion cs w = refl
  under-around s kind.TsNonNullExpr cs w = refl
  under-around s kind.TsAsExpr cs w = refl
  under-around s kind.TsInstantiation cs w = refl
  under-around s kind.TsSatisfiesExpr cs w = refl
  under-around s _ cs w = no w

  pub under-several : (s : Seat) (k : Kind) (cs : List Node) → is_type_wrapper k ≡ true → is_several s.place ≡ false → is_several (seat_at enums s k cs 0).place ≡ false
  under-several s k cs w h = by (is_raw s.place)
    where
      by : (b : Bool) → is_several (cond b s (record { place = place_at enums s.place k cs 0; around = around_at s k cs })).place ≡ false
      by true = h
      by false = ap is_several (under-place s.place k cs w) ∙ h

  -- ---- behind `export`

  pub export-place : (p : Place) (cs : List Node) → place_at enums p kind.ExportDecl cs 0 ≡ exported_place p
  unfolding place_in
  export-place p cs = refl

  pub export-around : (s : Seat) (cs : List Node) → around_at s kind.ExportDecl cs ≡ s.around
  unfolding around_in
  export-around s cs = refl
