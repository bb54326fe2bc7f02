-- Of what stays, all that is written stays.
use Rattle.std.proofs.Common.{◌≡◌, ◌∙◌, ◌⊎◌, inl, inr, ℕ, Bool, true, false, ◌&&◌, ◌||◌, not, cond, refl, sym, ap, ap₂, subst, List, [], ◌∷◌, ◌++◌, map, length, get_or, Option, Some, None, slice_get}
use Rattle.std.specs.List.{list_all}
use Rattle.std.proofs.lemmas.List.Folds.{list_all-append}
use Rattle.ecma_kind.specs.Sorts.{belongs, is_decl, is_expr, is_pattern, is_type_wrapper}
use Rattle.ecma_kind.specs.declared.kind.Kind.{Kind}
use Rattle.ecma_kind.specs.declared.kind.Kind.TheVariants as kind
use Rattle.ecma_kind.specs.declared.shapes.Shape.{Shape}
use Rattle.ecma_kind.specs.declared.shapes.Sort.TheVariants as sort
use Rattle.ecma_kind.specs.declared.span.Span.{Span}
use Rattle.ecma_tree.specs.Laws.{HaveShapes}
use Rattle.ecma_tree.specs.Nodes.{absent, dummy_span, node_of}
use Rattle.ecma_tree.specs.Sorted.{HasShape, child_shapes, is_list, maybe, one}
use Rattle.ecma_tree.specs.Values.{is_value, is_value_where, value_by}
use Rattle.ecma_tree.specs.declared.node.Node.{Node, out-Node}
use Rattle.ecma_tree.specs.declared.node.Node.TheViews.{roll-out-Node}
use Rattle.ecma_tree.proofs.ShapeLaws.{node_has_shape}
use Rattle.ecma_tree.proofs.Valuing.{is_value-roll}
use Rattle.ecma_strip.specs.Staying.{if_there, is_declared, is_this, is_this_by, is_this_ident, specifier_stays, stays}
use Rattle.ecma_rewriting.specs.Rewriting.{becomes, only}
use Rattle.ecma_rewriting.proofs.Equations.{list-kind, nodes_become}
use Rattle.ecma_strip_rewriting.proofs.Commuting.{by-parts}
use Rattle.ecma_strip_rewriting.proofs.PlainKinds.{no, shape-out}
use Rattle.ecma_strip_rewriting.proofs.Remaining.{this-roll}
use Rattle.ecma_strip_rewriting.proofs.Stays.{binding_by, expression-stays, kind-roll, stays-out, stays-roll, stays_by}
use Rattle.ecma_lower_enums.specs.declared.answer.Answer.{Answer}
use Rattle.ecma_lower_enums.specs.declared.answer.Answer.TheVariants.{Instead, Pattern}
use Rattle.ecma_lower_enums.specs.declared.form.Form.{Form}
use Rattle.ecma_lower_enums.specs.declared.form.Form.TheVariants as form
use Rattle.ecma_lower_enums.specs.declared.known.Around.{Around}
use Rattle.ecma_lower_enums.specs.declared.known.KnownEnums.{KnownEnums}
use Rattle.ecma_lower_enums.specs.declared.known.Part.{Part}
use Rattle.ecma_lower_enums.specs.declared.place.Place.{Place}
use Rattle.ecma_lower_enums.specs.declared.place.Place.TheVariants as place
use Rattle.ecma_enums.specs.Declarations.{member_name}
use Rattle.ecma_lower_enums.specs.Forms.{call, calls, declaration, declarations, is_exported_here, is_nil, part_statements, variable}
use Rattle.ecma_lower_enums.specs.Known.{has_id, part_at, skips}
use Rattle.ecma_lower_enums.specs.Places.{is_item, is_left, place_in}
use Rattle.ecma_lower_enums.specs.Seats.{Seat, around_at, place_at, seat_at}
use Rattle.ecma_lower_enums.specs.Writing.{answer_by, answered, done_by, first_list, form_of, is_enum_first, is_enum_kind, part_form, second, wrapped}
use Rattle.ecma_lower_enums.proofs.ByForm.{export-kind, raw-left, wrapped-kind}
use Rattle.ecma_lower_enums_strip.specs.Laws.{NamesAreUnmarked}
use Rattle.ecma_lower_enums_strip.proofs.Answering.{FreeAnswer, answer-free, is_free}
use Rattle.ecma_lower_enums_strip.proofs.Quiet.{raw}
use Rattle.ecma_lower_enums_strip.proofs.Naming.{first-shape}
use Rattle.ecma_lower_enums_strip.proofs.Ones.{T, becomes-other, by-left, lines-stay, lists_of, member-lines}
use Rattle.ecma_lower_enums_strip.proofs.Valued.{at-value, body-valued, default-valued, export-fresh, function-valued, kept}

-- ---- the name `this`

binding-other : (k : Kind) (cs : List Node) → (is_expr k || is_pattern k) ≡ true → (k ≡ kind.BindingIdent) ⊎ (binding_by k cs ≡ false)
binding-other kind.BindingIdent cs h = inl refl
binding-other _ cs h = inr refl

free-this : (k : Kind) (n : Node) → is_free k ≡ true → is_this_by k n ≡ false
free-this kind.BindingIdent n h = no h
free-this _ n h = refl

wrapper-this : (k : Kind) (cs : List Node) → is_type_wrapper k ≡ true → binding_by k cs ≡ false
wrapper-this kind.BindingIdent cs h = no h
wrapper-this _ cs h = refl

absent-this : is_this absent ≡ false
absent-this = this-roll dummy_span kind.Absent []

-- what a pattern is written as
abbrev is_pat_form : Form → Bool
is_pat_form form.Wrapped = true
is_pat_form form.One = true
is_pat_form _ = false

pat-form : (p : Place) (k : Kind) (cs : List Node) → (is_expr k || is_pattern k) ≡ true → is_pat_form (form_of p k cs) ≡ true
unfolding form_of
pat-form p (kind.TsEnumDecl d c) cs h = no h
pat-form p kind.ExportDecl cs h = no h
pat-form p kind.TsEnumMember cs h = no h
pat-form p _ cs h = refl

-- what is written of a declaration, unless it is one behind `export`
abbrev is_decl_form : Form → Bool
is_decl_form (form.Part part) = true
is_decl_form form.One = true
is_decl_form _ = false

enum-form : (o : Option Part) → is_decl_form (part_form o) ≡ true
enum-form (Some part) = refl
enum-form None = refl

decl-form : (p : Place) (k : Kind) (cs : List Node) → is_decl k ≡ true → is_decl_form (form_of p k cs) ≡ true
unfolding form_of
decl-form p (kind.TsEnumDecl d c) cs h = enum-form (part_at p (kind.TsEnumDecl d c) cs)
decl-form p (kind.FnDecl d) cs h = refl
decl-form p (kind.ClassDecl d) cs h = refl
decl-form p (kind.VarDecl w d) cs h = refl
decl-form p (kind.TsModuleDecl d g) cs h = refl
decl-form p (kind.TsInterfaceDecl d) cs h = refl
decl-form p (kind.TsTypeAliasDecl d) cs h = refl
decl-form p _ cs h = no h

decl-list : (k : Kind) → is_decl k ≡ true → is_list k ≡ false
decl-list kind.List h = no h
decl-list _ h = refl

-- what is declared goes, and what is abstract
declared-goes : (v : Bool) → (v && not true && true && true && not false) ≡ false
declared-goes true = refl
declared-goes false = refl

abstract-goes : (a : Bool) → (true && (a && false) && true && not false) ≡ false
abstract-goes true = refl
abstract-goes false = refl

no-export : (b : Bool) → cond b form.Export form.One ≡ form.One → b ≡ false
no-export true is = cc
no-export false is = refl

export-both : (a b : Bool) → cond (a && b) form.Export form.One ≡ form.Export → b ≡ true
export-both true true is = refl
export-both true false is = cc
export-both false b is = cc

export-enum : (p : Place) (cs : List Node) → form_of p kind.ExportDecl cs ≡ form.Export → is_enum_first cs ≡ true
unfolding form_of
export-enum p cs is = export-both (is_item p) (is_enum_first cs) is

export-none : (p : Place) (cs : List Node) → form_of p kind.ExportDecl cs ≡ form.One → (is_item p && is_enum_first cs) ≡ false
unfolding form_of
export-none p cs is = no-export (is_item p && is_enum_first cs) is

free-declared : (k : Kind) → is_free k ≡ true → is_declared k ≡ false
unfolding is_declared
free-declared kind.MemberExpr h = refl
free-declared (kind.Str value raw) h = refl
free-declared (kind.Number value raw) h = refl
free-declared (kind.UnaryExpr op) h = refl
free-declared (kind.BinExpr op) h = refl
free-declared kind.KeyValueProp h = refl
free-declared _ h = no h

answered-declared : (o : Option Answer) (span : Span) (k : Kind) (ds : List Node) → FreeAnswer k o → is_declared k ≡ false → is_declared (out-Node (answered o span k ds)).kind ≡ false
unfolding is_declared
answered-declared None span k ds f h = ap is_declared (kind-roll span k ds) ∙ h
answered-declared (Some (Instead e)) span k ds f h = free-declared (out-Node e).kind f.free
answered-declared (Some (Pattern key e)) span k ds f h = ap is_declared (kind-roll span kind.KeyValuePatProp _)

-- the first of what is written of a part is not ambient
undeclared-either : (b : Bool) (x y : Node) → is_declared (out-Node x).kind ≡ false → is_declared (out-Node y).kind ≡ false → is_declared (out-Node (cond b x y)).kind ≡ false
undeclared-either true x y h g = h
undeclared-either false x y h g = g

part-declared : (enums : KnownEnums) (span : Span) (part : Part) (around : Around) (list : Node) → is_declared (out-Node (only (part_statements enums span part around list))).kind ≡ false
unfolding is_declared
part-declared enums span part around list = by (has_id part.name around.before) (skips enums part && is_nil (out-Node list).children)
  where
    by : (a b : Bool) → is_declared (out-Node (only (cond a [] (declaration part around ∷ []) ++ cond b [] (call span part around list ∷ [])))).kind ≡ false
    by false b = undeclared-either (is_exported_here part around) _ _ (ap is_declared (kind-roll part.name.span kind.ExportDecl _)) (ap is_declared (kind-roll part.name.span (kind.VarDecl _ false) _))
    by true true = ap is_declared (kind-roll dummy_span kind.Absent [])
    by true false = ap is_declared (kind-roll span kind.ExprStmt _)

module _ (enums : KnownEnums) (unmarked-names : NamesAreUnmarked enums) where
  abbrev lists : Seat → Kind → List Node → List (List Node)
  lists s k cs = lists_of enums unmarked-names s k cs

  abbrev result : Seat → Node → List Node
  result s n = becomes (T enums unmarked-names) s n

  -- a declared name stays the name that it is
  ident-by : (around : Around) (span : Span) (k : Kind) (cs : List Node) → belongs sort.Ident k ≡ true
      → is_this_ident (out-Node (only (result (record { place = place.Other; around = around }) (node_of span k cs)))).kind ≡ is_this_ident (out-Node (node_of span k cs)).kind
  unfolding form_of answer_by
  ident-by around span (kind.Ident text ctxt optional) cs h =
      let s : Seat = record { place = place.Other; around = around } in
      ap (λ l. is_this_ident (out-Node (only l)).kind) (becomes-other enums unmarked-names s span (kind.Ident text ctxt optional) cs refl)
      ∙ ap is_this_ident (kind-roll span (kind.Ident text ctxt optional) (map only (lists s (kind.Ident text ctxt optional) cs)) ∙ sym (kind-roll span (kind.Ident text ctxt optional) cs))
  ident-by around span _ cs h = no h

  ident-kept : (around : Around) (n : Node) → HasShape (one sort.Ident) n → is_this_ident (out-Node (only (result (record { place = place.Other; around = around }) n))).kind ≡ is_this_ident (out-Node n).kind
  ident-kept around n h =
      subst (λ z. is_this_ident (out-Node (only (result (record { place = place.Other; around = around }) z))).kind ≡ is_this_ident (out-Node z).kind) (roll-out-Node n)
      (ident-by around (out-Node n).span (out-Node n).kind (out-Node n).children (shape-out n (one sort.Ident) h).0)

  bound-kept : (s : Seat) (shapes : List Shape) (cs : List Node) → raw s ≡ false → slice_get shapes 0 ≡ Some (one sort.Ident) → HaveShapes shapes cs
      → binding_by kind.BindingIdent (map only (lists s kind.BindingIdent cs)) ≡ binding_by kind.BindingIdent cs
  unfolding place_in
  bound-kept s shapes [] w e h = refl
  bound-kept s shapes (c ∷ cs) w e h =
      ap (λ z. is_this_ident (out-Node (only (result z c))).kind) (ap (λ b. cond b s (record { place = place_at enums s.place kind.BindingIdent (c ∷ cs) 0; around = around_at s kind.BindingIdent (c ∷ cs) })) w)
      ∙ ident-kept (around_at s kind.BindingIdent (c ∷ cs)) c (first-shape (one sort.Ident) shapes c cs e h)

  -- a node of which it is not said, and what stands for it
  answered-this : (o : Option Answer) (span : Span) (k : Kind) (ds : List Node) → FreeAnswer k o → binding_by k ds ≡ false → is_this (answered o span k ds) ≡ false
  answered-this None span k ds f h = this-roll span k ds ∙ h
  answered-this (Some (Instead e)) span k ds f h = free-this (out-Node e).kind e f.free
  answered-this (Some (Pattern key e)) span k ds f h = this-roll span kind.KeyValuePatProp _

  wrapped-this : (span : Span) (k : Kind) (ls : List (List Node)) → is_type_wrapper k ≡ true → is_this (only (wrapped span k ls)) ≡ false
  wrapped-this span k [] w = this-roll span k [] ∙ wrapper-this k [] w
  wrapped-this span k ([] ∷ ls) w = absent-this
  wrapped-this span k ((e ∷ es) ∷ ls) w = this-roll span k (e ∷ map only ls) ∙ wrapper-this k (e ∷ map only ls) w

  pat-done : (s : Seat) (span : Span) (k : Kind) (cs : List Node) → (binding_by k (map only (lists s k cs)) ≡ false) → (f : Form) → is_pat_form f ≡ true → (f ≡ form.Wrapped → is_type_wrapper k ≡ true)
      → is_this (only (done_by enums s span k cs (lists s k cs) f)) ≡ false
  pat-done s span k cs h form.Wrapped is w = wrapped-this span k (lists s k cs) (w refl)
  pat-done s span k cs h form.One is w = answered-this (answer_by enums s.place span k cs) span k (map only (lists s k cs)) (answer-free enums unmarked-names s.place span k cs) h
  pat-done s span k cs h _ is w = no is

  pat-list : (k : Kind) → (is_expr k || is_pattern k) ≡ true → is_list k ≡ false
  pat-list kind.List h = no h
  pat-list _ h = refl

  pat-by : (s : Seat) (span : Span) (k : Kind) (cs : List Node) (t : Shape) → (is_expr k || is_pattern k) ≡ true → HaveShapes (child_shapes k t (length cs)) cs
      → is_this (node_of span k cs) ≡ false → is_this (only (result s (node_of span k cs))) ≡ false
  pat-by s span k cs t is have h =
      by-left enums unmarked-names (λ l. is_this (only l) ≡ false) s span k cs (pat-list k is) (λ e. h)
      (λ e. pat-done s span k cs (below (raw-left s.place k e) (binding-other k cs is)) (form_of s.place k cs) (pat-form s.place k cs is) (wrapped-kind s.place k cs))
    where
      below : raw s ≡ false → (k ≡ kind.BindingIdent) ⊎ (binding_by k cs ≡ false) → binding_by k (map only (lists s k cs)) ≡ false
      below w (inl e) =
          subst (λ z. HaveShapes (child_shapes z t (length cs)) cs → is_this (node_of span z cs) ≡ false → binding_by z (map only (lists s z cs)) ≡ false) (sym e)
          (λ g i. bound-kept s (child_shapes kind.BindingIdent t (length cs)) cs w refl g ∙ sym (this-roll span kind.BindingIdent cs) ∙ i) have h
      below w (inr e) = by (binding-other k (map only (lists s k cs)) is) e
        where
          by : (k ≡ kind.BindingIdent) ⊎ (binding_by k (map only (lists s k cs)) ≡ false) → binding_by k cs ≡ false → binding_by k (map only (lists s k cs)) ≡ false
          by (inr g) e = g
          by (inl g) e =
              subst (λ z. HaveShapes (child_shapes z t (length cs)) cs → binding_by z cs ≡ false → binding_by z (map only (lists s z cs)) ≡ false) (sym g)
              (λ have' i. bound-kept s (child_shapes kind.BindingIdent t (length cs)) cs w refl have' ∙ i) have e

  pat-kept : (s : Seat) (n : Node) → HasShape (one sort.Pat) n → is_this n ≡ false → is_this (only (result s n)) ≡ false
  pat-kept s n h =
      let parts = shape-out n (one sort.Pat) h in
      subst (λ z. is_this z ≡ false → is_this (only (result s z)) ≡ false) (roll-out-Node n) (pat-by s (out-Node n).span (out-Node n).kind (out-Node n).children (one sort.Pat) parts.0 parts.1)

  -- ---- what is written stays

  stays-one : (span : Span) (k : Kind) (cs : List Node) → stays_by k cs ≡ true → list_all stays (node_of span k cs ∷ []) ≡ true
  stays-one span k cs h = ap (λ b. b && true) (stays-roll span k cs ∙ h)

  free-stays-by : (k : Kind) (cs : List Node) → is_free k ≡ true → stays_by k cs ≡ true
  unfolding value_by is_declared specifier_stays
  free-stays-by kind.MemberExpr cs h = refl
  free-stays-by (kind.Str value raw) cs h = refl
  free-stays-by (kind.Number value raw) cs h = refl
  free-stays-by (kind.UnaryExpr op) cs h = refl
  free-stays-by (kind.BinExpr op) cs h = refl
  free-stays-by kind.KeyValueProp cs h = refl
  free-stays-by _ cs h = no h

  wrapper-stays-by : (k : Kind) (cs : List Node) → is_type_wrapper k ≡ true → stays_by k cs ≡ true
  unfolding value_by is_declared specifier_stays
  wrapper-stays-by kind.TsTypeAssertion cs h = refl
  wrapper-stays-by kind.TsConstAssertion cs h = refl
  wrapper-stays-by kind.TsNonNullExpr cs h = refl
  wrapper-stays-by kind.TsAsExpr cs h = refl
  wrapper-stays-by kind.TsInstantiation cs h = refl
  wrapper-stays-by kind.TsSatisfiesExpr cs h = refl
  wrapper-stays-by _ cs h = no h

  each-wrapped : (span : Span) (k : Kind) (rest es : List Node) → is_type_wrapper k ≡ true → list_all stays (map (λ e. node_of span k (e ∷ rest)) es) ≡ true
  each-wrapped span k rest [] w = refl
  each-wrapped span k rest (e ∷ es) w = ap₂ (λ a b. a && b) (stays-roll span k (e ∷ rest) ∙ wrapper-stays-by k (e ∷ rest) w) (each-wrapped span k rest es w)

  stays-wrapped : (span : Span) (k : Kind) (ls : List (List Node)) → is_type_wrapper k ≡ true → list_all stays (wrapped span k ls) ≡ true
  stays-wrapped span k [] w = stays-one span k [] (wrapper-stays-by k [] w)
  stays-wrapped span k (l ∷ ls) w = each-wrapped span k (map only ls) l w

  stays-either : (b : Bool) (x y : Node) → stays x ≡ true → stays y ≡ true → stays (cond b x y) ≡ true
  stays-either true x y h g = h
  stays-either false x y h g = g

  stays-cond : (b : Bool) (xs ys : List Node) → list_all stays xs ≡ true → list_all stays ys ≡ true → list_all stays (cond b xs ys) ≡ true
  stays-cond true xs ys h g = h
  stays-cond false xs ys h g = g

  variable-stays : (part : Part) → stays (variable part) ≡ true
  unfolding value_by is_declared specifier_stays
  variable-stays part = stays-roll part.name.span (kind.VarDecl _ false) _

  variable-value : (part : Part) → is_value (variable part) ≡ true
  unfolding value_by
  variable-value part = is_value-roll part.name.span (kind.VarDecl _ false) _

  variable-declared : (part : Part) → is_declared (out-Node (variable part)).kind ≡ false
  unfolding is_declared
  variable-declared part = ap is_declared (kind-roll part.name.span (kind.VarDecl _ false) _)

  exported-stays : (part : Part) → stays (node_of part.name.span kind.ExportDecl (variable part ∷ [])) ≡ true
  unfolding value_by specifier_stays
  exported-stays part =
      stays-roll part.name.span kind.ExportDecl (variable part ∷ [])
      ∙ ap₂ (λ v d. v && not d && true && true && not false) (variable-value part) (variable-declared part)

  call-stays : (span : Span) (e : Node) → stays (node_of span kind.ExprStmt (e ∷ [])) ≡ true
  call-stays span e = expression-stays span e

  part-stays : (span : Span) (part : Part) (around : Around) (list : Node) → list_all stays (part_statements enums span part around list) ≡ true
  part-stays span part around list =
      list_all-append stays (declarations part around) (calls enums span part around list)
      ∙ ap₂ (λ a b. a && b)
      (stays-cond (has_id part.name around.before) [] (declaration part around ∷ []) refl
      (ap (λ b. b && true) (stays-either (is_exported_here part around) _ _ (exported-stays part) (variable-stays part))))
      (stays-cond (skips enums part && is_nil (out-Node list).children) [] _ refl (ap (λ b. b && true) (call-stays span _)))

  -- ---- a node of its kind over the ones that its children become

  -- a fact with which a node stays, and what it becomes
  lift : (f : Bool → Bool) (a b : Bool) → f false ≡ false → (a ≡ true → b ≡ true) → f a ≡ true → f b ≡ true
  lift f true b e step h = ap f (step refl) ∙ h
  lift f false b e step h = no (sym e ∙ h)

  -- a fact without which it stays
  lower : (f : Bool → Bool) (a b : Bool) → f true ≡ false → (a ≡ false → b ≡ false) → f a ≡ true → f b ≡ true
  lower f false b e step h = ap f (step refl) ∙ h
  lower f true b e step h = no (sym e ∙ h)

  module _ (s : Seat) (w : raw s ≡ false) (t : Shape) (cs : List Node) where
    -- the value of a child
    value-of : (k : Kind) (c : Bool) (u : Shape) (i : ℕ) → ((m : ℕ) (d : Node) (s' : Seat) → slice_get cs m ≡ Some d → HasShape u d → is_value_where c d ≡ true → is_value_where c (only (result s' d)) ≡ true)
        → slice_get (child_shapes k t (length cs)) i ≡ Some u → HaveShapes (child_shapes k t (length cs)) cs
        → get_or (map (is_value_where c) cs) i false ≡ true → get_or (map (is_value_where c) (map only (lists s k cs))) i false ≡ true
    value-of k c u i each at have = at-value enums unmarked-names (λ s'. Unit) c u i (child_shapes k t (length cs)) cs (seat_at enums s k cs) 0 (λ m d s' get ok has. each m d s' get has) (λ m. tt) at have

    this-of : (u : Shape) (shapes : List Shape) → slice_get shapes 0 ≡ Some u → u ≡ one sort.Pat → HaveShapes shapes cs → if_there (slice_get cs 0) is_this ≡ false → if_there (slice_get (map only (lists s kind.Param cs)) 0) is_this ≡ false
    this-of u shapes at e have h = by cs have h
      where
        by : (ds : List Node) → HaveShapes shapes ds → if_there (slice_get ds 0) is_this ≡ false → if_there (slice_get (map only (lists s kind.Param ds)) 0) is_this ≡ false
        by [] have h = refl
        by (d ∷ ds) have h = pat-kept (seat_at enums s kind.Param (d ∷ ds) 0) d (subst (λ z. HasShape z d) e (first-shape u shapes d ds at have)) h

    abbrev StillStays : Kind → Type 0
    StillStays k = stays_by k cs ≡ true → stays_by k (map only (lists s k cs)) ≡ true

    over-stays : (k : Kind) → HaveShapes (child_shapes k t (length cs)) cs → (k ≡ kind.ExportDecl → StillStays kind.ExportDecl) → StillStays k
    unfolding value_by is_declared specifier_stays
    over-stays kind.ExportDecl have export h = export refl h
    over-stays kind.ExportDefaultDecl have export h =
        lift (λ v. v && not false && true && true && not false) (get_or (map is_value cs) 0 false) (get_or (map is_value (map only (lists s kind.ExportDefaultDecl cs))) 0 false) refl
        (value-of kind.ExportDefaultDecl true (one sort.DefaultDecl) 0 (λ m d s' get has. default-valued enums unmarked-names true s' d has) refl have) h
    over-stays (kind.FnDecl false) have export h =
        lift (λ v. v && not false && true && true && not false) (get_or (map is_value cs) 1 false) (get_or (map is_value (map only (lists s (kind.FnDecl false) cs))) 1 false) refl
        (value-of (kind.FnDecl false) true (one sort.Function) 1 (λ m d s' get has. function-valued enums unmarked-names true s' d has) refl have) h
    over-stays (kind.FnDecl true) have export h = no (sym (declared-goes (get_or (map (is_value_where false) cs) 1 false)) ∙ h)
    over-stays (kind.TsModuleDecl false g) have export h =
        lift (λ v. v && not false && true && true && not false) (get_or (map is_value cs) 1 false) (get_or (map is_value (map only (lists s (kind.TsModuleDecl false g) cs))) 1 false) refl
        (value-of (kind.TsModuleDecl false g) true (maybe sort.TsNamespaceBody) 1 (λ m d s' get has. kept enums unmarked-names d true s' (inr (inr has))) refl have) h
    over-stays (kind.TsModuleDecl true g) have export h = no (sym (declared-goes (get_or (map (is_value_where false) cs) 1 false)) ∙ h)
    over-stays (kind.Constructor a o) have export h =
        lift (λ v. true && v && true && not false) (get_or (map is_value cs) 2 false) (get_or (map is_value (map only (lists s (kind.Constructor a o) cs))) 2 false) refl
        (value-of (kind.Constructor a o) true (maybe sort.BlockStmt) 2 (λ m d s' get has. body-valued enums unmarked-names true s' d has) refl have) h
    over-stays (kind.ClassMethod mk m) have export h =
        lift (λ v. true && (not m.is_abstract && v) && true && not false) (get_or (map is_value cs) 1 false) (get_or (map is_value (map only (lists s (kind.ClassMethod mk m) cs))) 1 false) (abstract-goes (not m.is_abstract))
        (value-of (kind.ClassMethod mk m) true (one sort.Function) 1 (λ i d s' get has. function-valued enums unmarked-names true s' d has) refl have) h
    over-stays (kind.PrivateMethod mk m) have export h =
        lift (λ v. true && (not m.is_abstract && v) && true && not false) (get_or (map is_value cs) 1 false) (get_or (map is_value (map only (lists s (kind.PrivateMethod mk m) cs))) 1 false) (abstract-goes (not m.is_abstract))
        (value-of (kind.PrivateMethod mk m) true (one sort.Function) 1 (λ i d s' get has. function-valued enums unmarked-names true s' d has) refl have) h
    over-stays kind.Param have export h =
        lower (λ v. true && true && true && not v) (if_there (slice_get cs 0) is_this) (if_there (slice_get (map only (lists s kind.Param cs)) 0) is_this) refl
        (this-of (one sort.Pat) (child_shapes kind.Param t (length cs)) refl refl have) h
    over-stays kind.BindingIdent have export h =
        lower (λ v. true && true && true && not v) (binding_by kind.BindingIdent cs) (binding_by kind.BindingIdent (map only (lists s kind.BindingIdent cs))) refl
        (λ e. bound-kept s (child_shapes kind.BindingIdent t (length cs)) cs w refl have ∙ e) h
    over-stays _ have export h = h

    -- ---- behind `export`

    declared-by : (p : Seat) (span : Span) (k : Kind) (ds : List Node) → is_decl k ≡ true → is_declared k ≡ false → is_declared (out-Node (only (result p (node_of span k ds)))).kind ≡ false
    declared-by p span k ds is h =
        by-left enums unmarked-names (λ l. is_declared (out-Node (only l)).kind ≡ false) p span k ds (decl-list k is) (λ e. ap is_declared (kind-roll span k ds) ∙ h) (λ e. by (form_of p.place k ds) (decl-form p.place k ds is))
      where
        by : (f : Form) → is_decl_form f ≡ true → is_declared (out-Node (only (done_by enums p span k ds (lists p k ds) f))).kind ≡ false
        by (form.Part part) is' = part-declared enums span part p.around (second (lists p k ds))
        by form.One is' = answered-declared (answer_by enums p.place span k ds) span k (map only (lists p k ds)) (answer-free enums unmarked-names p.place span k ds) h
        by _ is' = no is'

    export-stays : (is_item s.place && is_enum_first cs) ≡ false → HaveShapes (one sort.Decl ∷ []) cs → StillStays kind.ExportDecl
    unfolding value_by is_declared specifier_stays
    export-stays none have h = by cs none have h
      where
        fresh-by : (a b : Bool) → (a && b) ≡ false → (b ≡ false) ⊎ (a ≡ false)
        fresh-by true b e = inl e
        fresh-by false b e = inr e

        declared-kept : (p : Seat) (d : Node) → is_decl (out-Node d).kind ≡ true → is_declared (out-Node d).kind ≡ false → is_declared (out-Node (only (result p d))).kind ≡ false
        declared-kept p d is e =
            subst (λ z. is_declared (out-Node (only (result p z))).kind ≡ false) (roll-out-Node d) (declared-by p (out-Node d).span (out-Node d).kind (out-Node d).children is e)

        by : (ds : List Node) → (is_item s.place && is_enum_first ds) ≡ false → HaveShapes (one sort.Decl ∷ []) ds → stays_by kind.ExportDecl ds ≡ true → stays_by kind.ExportDecl (map only (lists s kind.ExportDecl ds)) ≡ true
        by [] none have h = absurd have
        by (d ∷ ds) none have h =
            let s' = seat_at enums s kind.ExportDecl (d ∷ ds) 0 in
            let parts = shape-out d (one sort.Decl) have.0 in
            lift (λ v. v && not (is_declared (out-Node (only (result s' d))).kind) && true && true && not false) (is_value d) (is_value (only (result s' d))) refl
            (kept enums unmarked-names d true s' (export-fresh enums unmarked-names s d ds w have.0 (inr (fresh-by (is_item s.place) (is_enum_first (d ∷ ds)) none))))
            (lower (λ x. is_value d && not x && true && true && not false) (is_declared (out-Node d).kind) (is_declared (out-Node (only (result s' d))).kind) (declared-goes (is_value d))
            (declared-kept s' d parts.0) h)

  -- ---- all that becomes of what stays

  abbrev AllStays : Node → Type 0
  AllStays n = (t : Shape) → HasShape t n → stays n ≡ true → (s : Seat) → list_all stays (result s n) ≡ true

  answered-stays : (o : Option Answer) (span : Span) (k l : Kind) (ds : List Node) → FreeAnswer l o → stays_by k ds ≡ true → list_all stays (answered o span k ds ∷ []) ≡ true
  unfolding value_by is_declared specifier_stays
  answered-stays None span k l ds f h = stays-one span k ds h
  answered-stays (Some (Instead e)) span k l ds f h = ap (λ b. b && true) (stays-out e ∙ free-stays-by (out-Node e).kind (out-Node e).children f.free)
  answered-stays (Some (Pattern key e)) span k l ds f h = stays-one span kind.KeyValuePatProp _ refl

  -- an enum behind `export`
  enum-stays : (k : Kind) (cs : List Node) → is_enum_kind k ≡ true → is_declared k ≡ false → stays_by k cs ≡ true
  unfolding value_by is_declared specifier_stays
  enum-stays (kind.TsEnumDecl d c) cs is h = ap (λ a. true && not a && true && true && not false) h
  enum-stays _ cs is h = no is

  first-stays : (s : Seat) (cs : List Node) → ((i : ℕ) (c : Node) → slice_get cs i ≡ Some c → AllStays c) → HaveShapes (one sort.Decl ∷ []) cs → is_enum_first cs ≡ true → stays_by kind.ExportDecl cs ≡ true
      → list_all stays (first_list (lists s kind.ExportDecl cs)) ≡ true
  unfolding value_by is_declared specifier_stays
  first-stays s [] each have is h = refl
  first-stays s (c ∷ cs) each have is h =
      each 0 c refl (one sort.Decl) have.0
      (stays-out c ∙ enum-stays (out-Node c).kind (out-Node c).children is (by (is_declared (out-Node c).kind) h)) (seat_at enums s kind.ExportDecl (c ∷ cs) 0)
    where
      by : (d : Bool) → (is_value c && not d && true && true && not false) ≡ true → d ≡ false
      by true h = no (sym (declared-goes (is_value c)) ∙ h)
      by false h = refl

  list-stays : (span : Span) (cs : List Node) → list_all stays (node_of span kind.List cs ∷ []) ≡ true
  unfolding value_by is_declared specifier_stays
  list-stays span cs = stays-one span kind.List cs refl

  node-stays : (span : Span) (k : Kind) (cs : List Node) → ((i : ℕ) (c : Node) → slice_get cs i ≡ Some c → AllStays c) → AllStays (node_of span k cs)
  node-stays span k cs each t has stay s = by (is_list k) refl
    where
      have : HaveShapes (child_shapes k t (length cs)) cs
      have = ((node_has_shape span k cs t).0 has).1

      stay-by : stays_by k cs ≡ true
      stay-by = sym (stays-roll span k cs) ∙ stay

      -- nothing but an export of an enum is dropped
      unexported : form_of s.place k cs ≡ form.One → k ≡ kind.ExportDecl → (is_item s.place && is_enum_first cs) ≡ false
      unexported is e = export-none s.place cs (ap (λ z. form_of s.place z cs) (sym e) ∙ is)

      by-form : (f : Form) → form_of s.place k cs ≡ f → is_left s.place k ≡ false → list_all stays (done_by enums s span k cs (lists s k cs) f) ≡ true
      by-form form.Wrapped is e = stays-wrapped span k (lists s k cs) (wrapped-kind s.place k cs is)
      by-form (form.Part part) is e = part-stays span part s.around (second (lists s k cs))
      by-form form.Export is e =
          let export = export-kind s.place k cs is in
          subst (λ z. HaveShapes (child_shapes z t (length cs)) cs → stays_by z cs ≡ true → form_of s.place z cs ≡ form.Export → list_all stays (first_list (lists s z cs)) ≡ true) (sym export)
          (λ have' stay' is'. first-stays s cs each have' (export-enum s.place cs is') stay') have stay-by is
      by-form (form.Member unwritten) is e =
          lines-stay _ (member-lines enums unmarked-names unwritten s.around.name (out-Node (node_of span k cs)).span (member_name (node_of span k cs)) (second (lists s k cs)))
      by-form form.One is e =
          let w = raw-left s.place k e in
          answered-stays (answer_by enums s.place span k cs) span k k (map only (lists s k cs)) (answer-free enums unmarked-names s.place span k cs)
          (over-stays s w t cs k have (λ export. export-stays s w t cs (unexported is export) (subst (λ z. HaveShapes (child_shapes z t (length cs)) cs) export have)) stay-by)

      by : (b : Bool) → is_list k ≡ b → list_all stays (result s (node_of span k cs)) ≡ true
      by true l =
          subst (λ z. list_all stays (result s (node_of span z cs)) ≡ true) (sym (list-kind k l))
          (ap (list_all stays) (nodes_become Seat (T enums unmarked-names) s span kind.List cs) ∙ list-stays span _)
      by false l = by-left enums unmarked-names (λ ns. list_all stays ns ≡ true) s span k cs l (λ e. ap (λ b. b && true) stay) (λ e. by-form (form_of s.place k cs) refl e)

  pub remains : (n : Node) → AllStays n
  remains = by-parts AllStays node-stays
