-- `import a = b.c` is a constant before types are stripped or after.
use Rattle.std.proofs.Common.{◌≡◌, ◌∙◌, inl, ℕ, Bool, true, false, ◌&&◌, not, cond, refl, sym, ap, ap₂, subst, List, [], ◌∷◌, map, length, Some, slice_get}
use Rattle.std.specs.List.{list_all}
use Rattle.ecma_kind.specs.Sorts.{belongs, is_decl, is_type_wrapper}
use Rattle.ecma_kind.specs.declared.kind.Kind.{Kind}
use Rattle.ecma_kind.specs.declared.kind.Kind.TheVariants as kind
use Rattle.ecma_kind.specs.declared.operators.VarDeclKind.TheVariants.{Const}
use Rattle.ecma_kind.specs.declared.shapes.Shape.{Shape}
use Rattle.ecma_kind.specs.declared.shapes.Sort.TheVariants as sort
use Rattle.ecma_kind.specs.declared.span.Span.{Span}
use Rattle.ecma_tree.specs.Laws.{HaveShapes}
use Rattle.ecma_tree.specs.Nodes.{absent, dummy_span, list_node, node_of}
use Rattle.ecma_tree.specs.Sorted.{HasShape, child_shapes, is_list, one}
use Rattle.ecma_tree.specs.Values.{value_by}
use Rattle.ecma_tree.specs.declared.node.Node.{Node, out-Node}
use Rattle.ecma_tree.specs.declared.node.Node.TheViews.{roll-out-Node}
use Rattle.ecma_tree.proofs.ShapeLaws.{node_has_shape}
use Rattle.ecma_tree.proofs.Valuing.{is_value_where-roll, value_where_by}
use Rattle.ecma_strip.specs.Staying.{is_declared, is_empty_stmt, is_this, is_this_ident, specifier_stays, stays}
use Rattle.ecma_strip.specs.Stripping.{plain, plain_children, plain_kind, stripped}
use Rattle.ecma_rewriting.specs.Laws.{children}
use Rattle.ecma_rewriting.specs.Rewriting.{becomes, only, over_ones}
use Rattle.ecma_strip_rewriting.specs.Commuting.{DoesElseNothing, SeesNoTypes, changes_children, is_body_at, is_full, is_settled, of_all, of_staying}
use Rattle.ecma_strip_rewriting.specs.Imports.{Seat, Other, Body, Read, ConstantsBeforeOrAfter, acts, constant, done, import_here, importing, is_raw, is_required, leaves, qualified_here, requires_second, seat_in, second}
use Rattle.ecma_strip_rewriting.specs.Names.{Name, first_name}
use Rattle.ecma_strip_rewriting.specs.Remaining.{OneForOne, SaidAlike, Stands, StandsAlike}
use Rattle.ecma_strip_rewriting.proofs.Commuting.{all-only, commutes_with_stripping, only-stripped, stripped-absent}
use Rattle.ecma_strip_rewriting.proofs.Names.{first-kept}
use Rattle.ecma_strip_rewriting.proofs.PlainKinds.{filter-none, full-roll, no, shape-out, some-same, stripped-list, stripped-other}
use Rattle.ecma_strip_rewriting.proofs.Remaining.{children-alike, over-stands, this-roll, what_stays_stays}
use Rattle.ecma_strip_rewriting.proofs.Stays.{kind-roll, stays-roll}

-- ---- kinds and seats

done-quiet : (s : Seat) (k : Kind) (span : Span) (cs : List Node) (lists : List (List Node)) → acts k ≡ false → is_type_wrapper k ≡ false → done s k span cs lists ≡ over_ones span k lists
done-quiet s (kind.TsImportEqualsDecl e t) span cs lists a w = no (sym a)
done-quiet s kind.TsQualifiedName span cs lists a w = no (sym a)
done-quiet s kind.TsTypeAssertion span cs lists a w = no (sym w)
done-quiet s kind.TsConstAssertion span cs lists a w = no (sym w)
done-quiet s kind.TsNonNullExpr span cs lists a w = no (sym w)
done-quiet s kind.TsAsExpr span cs lists a w = no (sym w)
done-quiet s kind.TsInstantiation span cs lists a w = no (sym w)
done-quiet s kind.TsSatisfiesExpr span cs lists a w = no (sym w)
done-quiet s _ span cs lists a w = refl

leaves-off : (s : Seat) (k : Kind) → is_decl k ≡ false → leaves s k ≡ false
leaves-off Body k h = h
leaves-off _ k h = refl

wrapper-done : (s : Seat) (k : Kind) (span : Span) (cs l : List Node) (ls : List (List Node)) → is_type_wrapper k ≡ true → (is_decl k ≡ false) × (done s k span cs (l ∷ ls) ≡ map (λ e. node_of span k (e ∷ map only ls)) l) × (seat_in s k 0 ≡ s)
wrapper-done s kind.TsTypeAssertion span cs l ls w = (refl, refl, refl)
wrapper-done s kind.TsConstAssertion span cs l ls w = (refl, refl, refl)
wrapper-done s kind.TsNonNullExpr span cs l ls w = (refl, refl, refl)
wrapper-done s kind.TsAsExpr span cs l ls w = (refl, refl, refl)
wrapper-done s kind.TsInstantiation span cs l ls w = (refl, refl, refl)
wrapper-done s kind.TsSatisfiesExpr span cs l ls w = (refl, refl, refl)
wrapper-done s _ span cs l ls w = no w

settled-quiet : (k : Kind) → is_settled k ≡ true → acts k ≡ false
settled-quiet (kind.TsImportEqualsDecl e t) h = no h
settled-quiet kind.TsQualifiedName h = no h
settled-quiet _ h = refl

settled-decl : (k : Kind) → is_settled k ≡ true → is_decl k ≡ false
settled-decl (kind.FnDecl d) h = no h
settled-decl (kind.ClassDecl d) h = no h
settled-decl (kind.VarDecl w d) h = no h
settled-decl (kind.TsEnumDecl d c) h = no h
settled-decl (kind.TsModuleDecl d g) h = no h
settled-decl (kind.TsInterfaceDecl d) h = no h
settled-decl (kind.TsTypeAliasDecl d) h = no h
settled-decl _ h = refl

kinds-same : (s : Seat) (k : Kind) (i : ℕ) → (acts (plain_kind k) ≡ acts k) × (is_decl (plain_kind k) ≡ is_decl k) × (seat_in s (plain_kind k) i ≡ seat_in s k i)
unfolding plain_kind
kinds-same s kind.SetterProp i = (refl, refl, refl)
kinds-same s _ i = (refl, refl, refl)

leaves-same : (s : Seat) (k : Kind) → leaves s (plain_kind k) ≡ leaves s k
leaves-same Body k = (kinds-same Body k 0).1
leaves-same _ k = refl

body-seat : (s : Seat) (k : Kind) (i : ℕ) → is_body_at k i ≡ true → seat_in s k i ≡ Body
body-seat s (kind.TsImportEqualsDecl e t) i h = no h
body-seat s kind.TsQualifiedName i h = no h
body-seat s kind.TsTypeAssertion i h = no h
body-seat s kind.TsConstAssertion i h = no h
body-seat s kind.TsNonNullExpr i h = no h
body-seat s kind.TsAsExpr i h = no h
body-seat s kind.TsInstantiation i h = no h
body-seat s kind.TsSatisfiesExpr i h = no h
body-seat s kind.SetterProp i h = no h
body-seat s k i h = ap (λ b. cond b Body Other) h

acts-other : (k : Kind) → acts k ≡ true → (is_decl k ≡ false) × (is_list k ≡ false)
acts-other (kind.TsImportEqualsDecl e t) h = (refl, refl)
acts-other kind.TsQualifiedName h = (refl, refl)
acts-other _ h = no h

-- what is written in a seat that is not raw
here-done : (s : Seat) (span : Span) (k : Kind) (cs : List Node) (lists : List (List Node)) → is_raw s ≡ false → is_decl k ≡ false → importing.here s span k cs lists ≡ done s k span cs lists
here-done s span k cs lists w d =
    ap (λ b. cond b (node_of span k cs ∷ []) (cond (leaves s k) (node_of span k cs ∷ []) (done s k span cs lists))) w
    ∙ ap (λ b. cond b (node_of span k cs ∷ []) (done s k span cs lists)) (leaves-off s k d)

does : DoesElseNothing importing is_raw leaves acts
does = record {
  raw_here = λ s span k cs lists w. ap (λ b. cond b (node_of span k cs ∷ []) (cond (leaves s k) (node_of span k cs ∷ []) (done s k span cs lists))) w;
  raw_next = λ s c w. w;
  raw_unkept = λ s c w. refl;
  quiet = λ s span k cs lists w a l t. ap (λ b. cond b (node_of span k cs ∷ []) (cond (leaves s k) (node_of span k cs ∷ []) (done s k span cs lists))) w ∙ ap (λ z. cond (leaves s k) (node_of span k cs ∷ []) z) (done-quiet s k span cs lists a t);
  wrapped = λ s span k cs l ls w t. (let parts = wrapper-done s k span cs l ls t in here-done s span k cs (l ∷ ls) w parts.0 ∙ parts.1);
}

-- ---- what is written

-- a node without types, of a kind that says nothing of types
plain-node : (span : Span) (k : Kind) (cs : List Node) → is_list k ≡ false → ((ds : List Node) → plain span k ds ≡ node_of span k ds) → stripped (node_of span k cs) ≡ node_of span k (map stripped cs)
plain-node span k cs l is = stripped-other span k cs l ∙ is (map stripped cs)

over-same : (span : Span) (k l : Kind) (lists : List (List Node)) → is_list l ≡ false → ((ds : List Node) → plain span l ds ≡ node_of span l ds) → over_ones span l (map (map stripped) lists) ≡ map stripped (over_ones span l lists)
over-same span k l lists n is = ap (λ z. node_of span l z ∷ []) (all-only lists) ∙ ap (λ z. z ∷ []) (sym (plain-node span l (map only lists) n is))

second-same : (lists : List (List Node)) → second (map (map stripped) lists) ≡ stripped (second lists)
second-same [] = sym stripped-absent
second-same (l ∷ []) = sym stripped-absent
second-same (l ∷ m ∷ ls) = only-stripped stripped-absent m

declarator-stays : (span : Span) (cs : List Node) → stays (node_of span (kind.VarDeclarator false) cs) ≡ true
unfolding value_by is_declared specifier_stays
declarator-stays span cs = stays-roll span (kind.VarDeclarator false) cs

stripped-constant : (span : Span) (name : Name) (v : Node) → stripped (constant span name v) ≡ constant span name (stripped v)
unfolding plain plain_kind plain_children
stripped-constant span name v =
    let ident = node_of name.span (kind.Ident name.sym name.ctxt false) [] in
    let bound = node_of name.span kind.BindingIdent (ident ∷ absent ∷ []) in
    let d = node_of span (kind.VarDeclarator false) (bound ∷ v ∷ []) in
    let same-ident : stripped ident ≡ ident = plain-node name.span (kind.Ident name.sym name.ctxt false) [] refl (λ ds. refl) in
    let same-bound : stripped bound ≡ bound = plain-node name.span kind.BindingIdent (ident ∷ absent ∷ []) refl (λ ds. refl) ∙ ap₂ (λ a b. node_of name.span kind.BindingIdent (a ∷ b ∷ [])) same-ident stripped-absent in
    let same-d : stripped d ≡ node_of span (kind.VarDeclarator false) (bound ∷ stripped v ∷ []) = plain-node span (kind.VarDeclarator false) (bound ∷ v ∷ []) refl (λ ds. refl) ∙ ap (λ z. node_of span (kind.VarDeclarator false) (z ∷ stripped v ∷ [])) same-bound in
    plain-node span (kind.VarDecl Const false) (list_node (d ∷ []) ∷ []) refl (λ ds. refl)
    ∙ ap (λ z. node_of span (kind.VarDecl Const false) (z ∷ []))
    (stripped-list dummy_span (d ∷ []) ∙ ap (λ b. list_node (map stripped (cond b (d ∷ []) []))) (declarator-stays span (bound ∷ v ∷ [])) ∙ ap (λ z. list_node (z ∷ [])) same-d)

-- the right side of an import is a required module with types or without
required-by : (k : Kind) (span : Span) (cs : List Node) → belongs sort.TsModuleRef k ≡ true → is_required (out-Node (stripped (node_of span k cs))).kind ≡ is_required k
unfolding plain plain_kind plain_children
required-by (kind.Ident text ctxt optional) span cs h = ap (λ z. is_required (out-Node z).kind) (stripped-other span (kind.Ident text ctxt optional) cs refl) ∙ ap is_required (kind-roll span (kind.Ident text ctxt false) (map stripped cs))
required-by kind.TsQualifiedName span cs h = ap (λ z. is_required (out-Node z).kind) (stripped-other span kind.TsQualifiedName cs refl) ∙ ap is_required (kind-roll span kind.TsQualifiedName (map stripped cs))
required-by kind.TsExternalModuleRef span cs h = ap (λ z. is_required (out-Node z).kind) (stripped-other span kind.TsExternalModuleRef cs refl) ∙ ap is_required (kind-roll span kind.TsExternalModuleRef (map stripped cs))
required-by _ span cs h = no h

required-kept : (shapes : List Shape) (cs : List Node) → slice_get shapes 1 ≡ Some (one sort.TsModuleRef) → HaveShapes shapes cs → requires_second (map stripped cs) ≡ requires_second cs
required-kept shapes [] e h = refl
required-kept shapes (a ∷ []) e h = refl
required-kept [] (a ∷ b ∷ cs) e h = absurd h
required-kept (u ∷ []) (a ∷ b ∷ cs) e h = absurd h.1
required-kept (u ∷ v ∷ us) (a ∷ b ∷ cs) e h =
    let parts = shape-out b (one sort.TsModuleRef) (subst (λ z. HasShape z b) (some-same v (one sort.TsModuleRef) e) h.1.0) in
    ap (λ z. is_required (out-Node (stripped z)).kind) (sym (roll-out-Node b)) ∙ required-by (out-Node b).kind (out-Node b).span (out-Node b).children parts.0

-- ---- what stays stays

-- a node of a kind that is a value and declares nothing, in the place of another such
said-alike : (span : Span) (k l : Kind) (cs ds : List Node) → ((staying : Bool) → value_where_by staying l ds ≡ value_where_by staying k cs) → is_declared l ≡ is_declared k → is_this_ident l ≡ is_this_ident k
    → is_this (node_of span l ds) ≡ is_this (node_of span k cs) → stays (node_of span l ds) ≡ stays (node_of span k cs) → SaidAlike (node_of span k cs) (node_of span l ds)
said-alike span k l cs ds v d n t s = record {
  value = λ staying. is_value_where-roll staying span l ds ∙ v staying ∙ sym (is_value_where-roll staying span k cs);
  declared = ap is_declared (kind-roll span l ds) ∙ d ∙ sym (ap is_declared (kind-roll span k cs));
  this = t;
  name = ap is_this_ident (kind-roll span l ds) ∙ n ∙ sym (ap is_this_ident (kind-roll span k cs));
  stays = s;
}

constant-alike : (span : Span) (cs ds : List Node) → SaidAlike (node_of span (kind.TsImportEqualsDecl false false) cs) (node_of span (kind.VarDecl Const false) ds)
unfolding value_by is_declared specifier_stays
constant-alike span cs ds =
    said-alike span (kind.TsImportEqualsDecl false false) (kind.VarDecl Const false) cs ds (λ staying. refl) refl refl
    (this-roll span (kind.VarDecl Const false) ds ∙ sym (this-roll span (kind.TsImportEqualsDecl false false) cs))
    (stays-roll span (kind.VarDecl Const false) ds ∙ sym (stays-roll span (kind.TsImportEqualsDecl false false) cs))

member-alike : (span : Span) (cs ds : List Node) → SaidAlike (node_of span kind.TsQualifiedName cs) (node_of span kind.MemberExpr ds)
unfolding value_by is_declared specifier_stays
member-alike span cs ds =
    said-alike span kind.TsQualifiedName kind.MemberExpr cs ds (λ staying. refl) refl refl
    (this-roll span kind.MemberExpr ds ∙ sym (this-roll span kind.TsQualifiedName cs))
    (stays-roll span kind.MemberExpr ds ∙ sym (stays-roll span kind.TsQualifiedName cs))

module _ (s : Seat) (t : Shape) (span : Span) where
  abbrev Each : List Node → Type 0
  Each cs = (i : ℕ) (c : Node) → slice_get cs i ≡ Some c → Stands importing c

  abbrev lists-of : Kind → List Node → List (List Node)
  lists-of k cs = children (of_staying importing) (importing.seat s k cs) 0 cs

  over-alike : (k : Kind) (cs : List Node) → HasShape t (node_of span k cs) → Each cs → StandsAlike (node_of span k cs) (over_ones span k (lists-of k cs))
  over-alike k cs has each = over-stands span k cs (map only (lists-of k cs)) (children-alike importing (child_shapes k t (length cs)) cs ((node_has_shape span k cs t).0 has).1 each (importing.seat s k cs) 0)

  import-alike : (e y : Bool) (cs : List Node) → HasShape t (node_of span (kind.TsImportEqualsDecl e y) cs) → Each cs
      → StandsAlike (node_of span (kind.TsImportEqualsDecl e y) cs) (import_here e y span (kind.TsImportEqualsDecl e y) cs (lists-of (kind.TsImportEqualsDecl e y) cs))
  import-alike true y cs has each = over-alike (kind.TsImportEqualsDecl true y) cs has each
  import-alike false true cs has each = over-alike (kind.TsImportEqualsDecl false true) cs has each
  import-alike false false cs has each = by (requires_second cs)
    where
      by : (b : Bool) → StandsAlike (node_of span (kind.TsImportEqualsDecl false false) cs) (cond b (over_ones span (kind.TsImportEqualsDecl false false) (lists-of (kind.TsImportEqualsDecl false false) cs)) (constant span (first_name cs) (second (lists-of (kind.TsImportEqualsDecl false false) cs)) ∷ []))
      by true = over-alike (kind.TsImportEqualsDecl false false) cs has each
      by false = record { one = refl; said = constant-alike span cs _ }

  qualified-alike : (q : Seat) (cs : List Node) → HasShape t (node_of span kind.TsQualifiedName cs) → Each cs → StandsAlike (node_of span kind.TsQualifiedName cs) (qualified_here q span (lists-of kind.TsQualifiedName cs))
  qualified-alike Read cs has each = record { one = refl; said = member-alike span cs _ }
  qualified-alike _ cs has each = over-alike kind.TsQualifiedName cs has each

  done-alike : (k : Kind) (cs : List Node) → acts k ≡ true → HasShape t (node_of span k cs) → Each cs → StandsAlike (node_of span k cs) (done s k span cs (lists-of k cs))
  done-alike (kind.TsImportEqualsDecl e y) cs a has each = import-alike e y cs has each
  done-alike kind.TsQualifiedName cs a has each = qualified-alike s cs has each
  done-alike _ cs a has each = no a

one-for-one : OneForOne importing is_raw acts
one-for-one = record {
  unkept = λ s c. refl;
  acting = λ s t span k cs w a l x has each.
      subst (StandsAlike (node_of span k cs)) (sym (here-done s span k cs (children (of_staying importing) (importing.seat s k cs) 0 cs) w (acts-other k a).0)) (done-alike s t span k cs a has each);
}

-- ---- no empty statement is made

full-over : (span : Span) (k : Kind) (ds : List Node) → not (is_empty_stmt k) ≡ true → list_all is_full (node_of span k ds ∷ []) ≡ true
full-over span k ds h = ap (λ b. b && true) (full-roll span k ds ∙ h)

full-import : (e y : Bool) (span : Span) (cs : List Node) (lists : List (List Node)) → list_all is_full (import_here e y span (kind.TsImportEqualsDecl e y) cs lists) ≡ true
full-import true y span cs lists = full-over span (kind.TsImportEqualsDecl true y) (map only lists) refl
full-import false true span cs lists = full-over span (kind.TsImportEqualsDecl false true) (map only lists) refl
full-import false false span cs lists = by (requires_second cs)
  where
    by : (b : Bool) → list_all is_full (cond b (over_ones span (kind.TsImportEqualsDecl false false) lists) (constant span (first_name cs) (second lists) ∷ [])) ≡ true
    by true = full-over span (kind.TsImportEqualsDecl false false) (map only lists) refl
    by false = full-over span (kind.VarDecl Const false) _ refl

full-qualified : (s : Seat) (span : Span) (lists : List (List Node)) → list_all is_full (qualified_here s span lists) ≡ true
full-qualified Read span lists = full-over span kind.MemberExpr (map only lists) refl
full-qualified _ span lists = full-over span kind.TsQualifiedName (map only lists) refl

full-done : (s : Seat) (span : Span) (k : Kind) (cs : List Node) (lists : List (List Node)) → acts k ≡ true → list_all is_full (done s (plain_kind k) span cs lists) ≡ true
unfolding plain_kind
full-done s span (kind.TsImportEqualsDecl e y) cs lists a = full-import e y span cs lists
full-done s span kind.TsQualifiedName cs lists a = full-qualified s span lists
full-done s span _ cs lists a = no a

-- ---- the same without types

module _ (s : Seat) (t : Shape) (span : Span) where
  import-same : (e y : Bool) (cs : List Node) (lists : List (List Node)) → HasShape t (node_of span (kind.TsImportEqualsDecl e y) cs)
      → import_here e y span (kind.TsImportEqualsDecl e y) (map stripped cs) (map (map stripped) lists) ≡ map stripped (import_here e y span (kind.TsImportEqualsDecl e y) cs lists)
  unfolding plain plain_kind plain_children
  import-same true y cs lists has = over-same span (kind.TsImportEqualsDecl true y) (kind.TsImportEqualsDecl true y) lists refl (λ ds. refl)
  import-same false true cs lists has = over-same span (kind.TsImportEqualsDecl false true) (kind.TsImportEqualsDecl false true) lists refl (λ ds. refl)
  import-same false false cs lists has =
      let have = ((node_has_shape span (kind.TsImportEqualsDecl false false) cs t).0 has).1 in
      let shapes = child_shapes (kind.TsImportEqualsDecl false false) t (length cs) in
      let over = over_ones span (kind.TsImportEqualsDecl false false) (map (map stripped) lists) in
      ap₂ (λ b name. cond b over (constant span name (second (map (map stripped) lists)) ∷ [])) (required-kept shapes cs refl have) (first-kept sort.Ident shapes cs refl refl have)
      ∙ ap (λ v. cond (requires_second cs) over (constant span (first_name cs) v ∷ [])) (second-same lists)
      ∙ by (requires_second cs)
    where
      by : (b : Bool) → cond b (over_ones span (kind.TsImportEqualsDecl false false) (map (map stripped) lists)) (constant span (first_name cs) (stripped (second lists)) ∷ [])
          ≡ map stripped (cond b (over_ones span (kind.TsImportEqualsDecl false false) lists) (constant span (first_name cs) (second lists) ∷ []))
      by true = over-same span (kind.TsImportEqualsDecl false false) (kind.TsImportEqualsDecl false false) lists refl (λ ds. refl)
      by false = ap (λ z. z ∷ []) (sym (stripped-constant span (first_name cs) (second lists)))

  qualified-same : (q : Seat) (lists : List (List Node)) → qualified_here q span (map (map stripped) lists) ≡ map stripped (qualified_here q span lists)
  unfolding plain plain_kind plain_children
  qualified-same Read lists = over-same span kind.MemberExpr kind.MemberExpr lists refl (λ ds. refl)
  qualified-same _ lists = over-same span kind.TsQualifiedName kind.TsQualifiedName lists refl (λ ds. refl)

  done-same : (k : Kind) (cs : List Node) (lists plains : List (List Node)) → acts k ≡ true → HasShape t (node_of span k cs) → (changes_children k ≡ false → plains ≡ map (map stripped) lists)
      → done s (plain_kind k) span (plain_children k (map stripped cs)) plains ≡ map stripped (done s k span cs lists)
  unfolding plain_kind plain_children
  done-same (kind.TsImportEqualsDecl e y) cs lists plains a has is = ap (λ z. import_here e y span (kind.TsImportEqualsDecl e y) (map stripped cs) z) (is refl) ∙ import-same e y cs lists has
  done-same kind.TsQualifiedName cs lists plains a has is = ap (λ z. qualified_here s span z) (is refl) ∙ qualified-same s lists
  done-same _ cs lists plains a has is = no a

plain-decl : (k : Kind) → acts k ≡ true → is_decl (plain_kind k) ≡ false
plain-decl k a = (kinds-same Other k 0).1 ∙ (acts-other k a).0

sees-no-types : SeesNoTypes importing is_raw leaves acts
sees-no-types = record {
  does = does;
  settled = λ k h. settled-quiet k h;
  settled_stays = λ s k h. leaves-off s k (settled-decl k h);
  same = λ k. (kinds-same Other k 0).0;
  left_same = λ s k. leaves-same s k;
  seats = λ s t span k cs i w l has. (kinds-same s k i).2;
  under = λ s k cs w x. (wrapper-done s k dummy_span cs [] [] x).2;
  next = λ s t n h. refl;
  next_empty = λ s span cs. refl;
  bodies = λ s k l cs ds i span lists w b d.
      inl (ap (λ z. importing.here z span l ds lists) (body-seat s k i b) ∙ ap (λ x. cond x (node_of span l ds ∷ []) (done Body l span ds lists)) d);
  receiver = λ s cs w. refl;
  unkept = λ s t n h g. filter-none stays n g;
  remains = λ s t n h g. what_stays_stays Seat importing is_raw leaves acts does one-for-one n t h g s;
  full = λ s t span k cs w a l x has each.
      (let ys = plain_children k (map stripped cs) in
      let lists = children (of_all importing) (importing.seat s (plain_kind k) ys) 0 ys in
      ap (list_all is_full) (here-done s span (plain_kind k) ys lists w (plain-decl k a)) ∙ full-done s span k ys lists a);
  acting = λ s t span k cs plains w a l x has each is ones.
      (let lists = children (of_staying importing) (importing.seat s k cs) 0 cs in
      here-done s span (plain_kind k) (plain_children k (map stripped cs)) plains w (plain-decl k a)
      ∙ done-same s t span k cs lists plains a has is
      ∙ ap (map stripped) (sym (here-done s span k cs lists w (acts-other k a).0)));
}

pub constants_before_or_after : ConstantsBeforeOrAfter
constants_before_or_after tree sort h =
    ap only (commutes_with_stripping Seat importing is_raw leaves acts sees-no-types tree (one sort) h Other) ∙ only-stripped stripped-absent (becomes (of_staying importing) Other tree)
