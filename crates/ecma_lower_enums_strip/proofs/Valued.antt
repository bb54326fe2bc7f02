-- A namespace that has a value keeps one: a part of an enum that writes nothing has a part, or another declaration, before it.
use Rattle.std.proofs.Common.{◌≡◌, ◌∙◌, ◌⊎◌, inl, inr, ℕ, zero, suc, Bool, true, false, ◌&&◌, ◌||◌, not, cond, refl, sym, ap, subst, List, [], ◌∷◌, ◌++◌, map, length, replicate, get_or, Option, Some, None, slice_get}
use Rattle.std.specs.List.{list_any}
use Rattle.std.proofs.lemmas.List.{append-nil}
use Rattle.ecma_kind.specs.Sorts.{belongs, is_decl, is_module_decl, is_stmt, is_type_wrapper}
use Rattle.ecma_kind.specs.declared.ident.Ident.{Ident}
use Rattle.ecma_kind.specs.declared.kind.Kind.{Kind}
use Rattle.ecma_kind.specs.declared.kind.Kind.TheVariants as kind
use Rattle.ecma_kind.specs.declared.shapes.Shape.{Shape}
use Rattle.ecma_kind.specs.declared.shapes.Sort.TheVariants as sort
use Rattle.ecma_kind.specs.declared.span.Span.{Span}
use Rattle.ecma_tree.specs.Laws.{HaveShapes}
use Rattle.ecma_tree.specs.Nodes.{absent, dummy_span, node_of}
use Rattle.ecma_tree.specs.Sorted.{HasShape, child_shapes, is_absent, is_list, many, maybe, one}
use Rattle.ecma_tree.specs.Values.{is_value_where, value_by, values_in}
use Rattle.ecma_tree.specs.declared.node.Node.{Node, Node-F, out-Node}
use Rattle.ecma_tree.specs.declared.node.Node.TheViews.{out-roll-Node, roll-out-Node}
use Rattle.ecma_tree.proofs.ShapeLaws.{node_has_shape}
use Rattle.ecma_tree.proofs.Valuing.{is_value-out, is_value_where-roll, value_everywhere, value_where_by}
use Rattle.ecma_strip.specs.Staying as Staying
use Rattle.ecma_strip.specs.Staying.{is_declared, is_empty_stmt, specifier_stays, stays}
use Rattle.ecma_rewriting.specs.Laws.{children, items}
use Rattle.ecma_rewriting.specs.Rewriting.{becomes, only, over_ones}
use Rattle.ecma_rewriting.proofs.Equations.{list-kind, nodes_become}
use Rattle.ecma_strip_rewriting.proofs.Commuting.{by-parts}
use Rattle.ecma_strip_rewriting.proofs.PlainKinds.{both, no, shape-out, some-same}
use Rattle.ecma_strip_rewriting.proofs.Stays.{declares, item_by, member_by, stays-out, stays_by, this_by}
use Rattle.ecma_lower_enums.specs.declared.form.Form.TheVariants as form
use Rattle.ecma_lower_enums.specs.declared.known.Around.{Around}
use Rattle.ecma_lower_enums.specs.declared.known.KnownEnums.{KnownEnums}
use Rattle.ecma_lower_enums.specs.declared.known.Part.{Part}
use Rattle.ecma_lower_enums.specs.declared.place.Place.{Place}
use Rattle.ecma_lower_enums.specs.declared.place.Place.TheVariants as place
use Rattle.ecma_lower_enums.specs.Forms.{calls, declaration, is_exported_here, part_statements, variable}
use Rattle.ecma_lower_enums.specs.Known.{Id, has_id, part_at, part_by, name_at}
use Rattle.ecma_lower_enums.specs.Places.{exported_place, is_item, place_in}
use Rattle.ecma_lower_enums.specs.Seats.{Seat, around_at, around_in, declared_ids, next_seat, part_ids, place_at, seat_at}
use Rattle.ecma_lower_enums.specs.Steps.{brought}
use Rattle.ecma_lower_enums.specs.Writing.{answer_by, done_by, first_list, form_of, is_enum_first, is_enum_kind, part_form, second}
use Rattle.ecma_lower_enums.proofs.ByForm.{raw-left}
use Rattle.ecma_lower_enums_strip.specs.Laws.{NamesAreUnmarked}
use Rattle.ecma_lower_enums_strip.proofs.Quiet.{acts, done-quiet, raw}
use Rattle.ecma_lower_enums_strip.proofs.Ones.{T, by-left, lists_of}
use Rattle.ecma_lower_enums_strip.proofs.Seating.{behind_by}

-- a node of this kind is a value whatever its children are
pub roll-value : (b : Bool) (span : Span) (k : Kind) (cs : List Node) → value_where_by b k cs ≡ true → is_value_where b (node_of span k cs) ≡ true
roll-value b span k cs h = is_value_where-roll b span k cs ∙ h

pub no-value : {X : Type 0} (b : Bool) (span : Span) (k : Kind) (cs : List Node) → value_where_by b k cs ≡ false → is_value_where b (node_of span k cs) ≡ true → X
no-value b span k cs e h = no (sym (is_value_where-roll b span k cs ∙ e) ∙ h)

absent-valueless : {X : Type 0} (b : Bool) → is_value_where b absent ≡ true → X
unfolding value_by
absent-valueless b h = no-value b dummy_span kind.Absent [] refl h

-- ---- where values are asked for

-- an enum, or one behind `export`
abbrev pub enumish : Kind → List Node → Bool
enumish (kind.TsEnumDecl d c) cs = true
enumish kind.ExportDecl cs = is_enum_first cs
enumish _ cs = false

abbrev pub enumish_node : Node → Bool
enumish_node n = enumish (out-Node n).kind (out-Node n).children

-- a node that is no enum, that is no item of a list, or before which nothing is declared
abbrev pub Fresh : Seat → Node → Type 0
Fresh s n = (s.around.before ≡ []) ⊎ ((enumish_node n ≡ false) ⊎ (is_item s.place ≡ false))

-- an item, the items of a namespace, and its body
abbrev pub Asked : Seat → Node → Type 0
Asked s n =
    (HasShape (one sort.ModuleItem) n × Fresh s n)
    ⊎ ((HasShape (many sort.ModuleItem) n × (s.around.before ≡ []))
    ⊎ (HasShape (maybe sort.TsNamespaceBody) n))

module _ (enums : KnownEnums) (unmarked-names : NamesAreUnmarked enums) where
  -- what holds of a node, and of one over the ones that its children become, holds of what it becomes where nothing is written
  pub by-quiet : (P : List Node → Type 0) (s : Seat) (span : Span) (k : Kind) (cs : List Node) → is_list k ≡ false → acts k ≡ false → is_type_wrapper k ≡ false → P (node_of span k cs ∷ [])
      → (raw s ≡ false → P (over_ones span k (lists_of enums unmarked-names s k cs))) → P (becomes (T enums unmarked-names) s (node_of span k cs))
  by-quiet P s span k cs l a x left over =
      by-left enums unmarked-names P s span k cs l (λ e. left) (λ e. subst P (sym (done-quiet enums s span k cs (lists_of enums unmarked-names s k cs) a x)) (over (raw-left s.place k e)))

  abbrev pub Valued : Bool → Seat → Node → Type 0
  Valued b s n = is_value_where b n ≡ true → is_value_where b (only (becomes (T enums unmarked-names) s n)) ≡ true

  -- a child that is a value and stays one
  pub at-value : (OK : Seat → Type 0) (b : Bool) (u : Shape) (i : ℕ) (shapes : List Shape) (cs : List Node) (seat : ℕ → Seat) (j : ℕ)
      → ((m : ℕ) (c : Node) (s : Seat) → slice_get cs m ≡ Some c → OK s → HasShape u c → Valued b s c) → ((m : ℕ) → OK (seat m)) → slice_get shapes i ≡ Some u → HaveShapes shapes cs
      → get_or (map (is_value_where b) cs) i false ≡ true → get_or (map (is_value_where b) (map only (children (T enums unmarked-names) seat j cs))) i false ≡ true
  at-value OK b u i shapes [] seat j each ok at h v = no v
  at-value OK b u i [] (c ∷ cs) seat j each ok at h v = absurd h
  at-value OK b u zero (t ∷ ts) (c ∷ cs) seat j each ok at h v = each 0 c (seat j) refl (ok j) (subst (λ z. HasShape z c) (some-same t u at) h.0) v
  at-value OK b u (suc i) (t ∷ ts) (c ∷ cs) seat j each ok at h v = at-value OK b u i ts cs seat (suc j) (λ m d s get. each (suc m) d s get) ok at h.1 v

  abbrev Anywhere : Seat → Type 0
  Anywhere s = Unit

  -- ---- bodies, functions, and what is exported as the default

  body-by : (b : Bool) (s : Seat) (span : Span) (k : Kind) (cs : List Node) → (is_absent k || belongs sort.BlockStmt k) ≡ true → Valued b s (node_of span k cs)
  unfolding value_by
  body-by b s span kind.Absent cs h v = no-value b span kind.Absent cs refl v
  body-by b s span kind.BlockStmt cs h v =
      by-quiet (λ l. is_value_where b (only l) ≡ true) s span kind.BlockStmt cs refl refl refl v (λ w. roll-value b span kind.BlockStmt _ refl)
  body-by b s span _ cs h v = no h

  pub body-valued : (b : Bool) (s : Seat) (n : Node) → HasShape (maybe sort.BlockStmt) n → Valued b s n
  body-valued b s n h = subst (Valued b s) (roll-out-Node n) (body-by b s (out-Node n).span (out-Node n).kind (out-Node n).children (shape-out n (maybe sort.BlockStmt) h).0)

  function-children : (b : Bool) (s : Seat) (g y : Bool) (cs : List Node) → HaveShapes (child_shapes (kind.Function g y) (one sort.Function) (length cs)) cs → value_where_by b (kind.Function g y) cs ≡ true
      → value_where_by b (kind.Function g y) (map only (lists_of enums unmarked-names s (kind.Function g y) cs)) ≡ true
  unfolding value_by
  function-children false s g y cs h v = refl
  function-children true s g y cs h v =
      at-value Anywhere true (maybe sort.BlockStmt) 1 (child_shapes (kind.Function g y) (one sort.Function) (length cs)) cs (seat_at enums s (kind.Function g y) cs) 0
      (λ m c at get ok has. body-valued true at c has) (λ m. tt) refl h v

  function-by : (b : Bool) (s : Seat) (span : Span) (k : Kind) (cs : List Node) → belongs sort.Function k ≡ true → HaveShapes (child_shapes k (one sort.Function) (length cs)) cs → Valued b s (node_of span k cs)
  function-by b s span (kind.Function g y) cs is h v =
      by-quiet (λ l. is_value_where b (only l) ≡ true) s span (kind.Function g y) cs refl refl refl v
      (λ w. roll-value b span (kind.Function g y) _ (function-children b s g y cs h (sym (is_value_where-roll b span (kind.Function g y) cs) ∙ v)))
  function-by b s span _ cs is h v = no is

  pub function-valued : (b : Bool) (s : Seat) (n : Node) → HasShape (one sort.Function) n → Valued b s n
  function-valued b s n h =
      let parts = shape-out n (one sort.Function) h in
      subst (Valued b s) (roll-out-Node n) (function-by b s (out-Node n).span (out-Node n).kind (out-Node n).children parts.0 parts.1)

  default-by : (b : Bool) (s : Seat) (span : Span) (k : Kind) (cs : List Node) → belongs sort.DefaultDecl k ≡ true → HaveShapes (child_shapes k (one sort.DefaultDecl) (length cs)) cs → Valued b s (node_of span k cs)
  unfolding value_by
  default-by b s span kind.ClassExpr cs is h v = by-quiet (λ l. is_value_where b (only l) ≡ true) s span kind.ClassExpr cs refl refl refl v (λ w. roll-value b span kind.ClassExpr _ refl)
  default-by b s span kind.FnExpr cs is h v =
      by-quiet (λ l. is_value_where b (only l) ≡ true) s span kind.FnExpr cs refl refl refl v
      (λ w. roll-value b span kind.FnExpr _
      (at-value Anywhere b (one sort.Function) 1 (child_shapes kind.FnExpr (one sort.DefaultDecl) (length cs)) cs (seat_at enums s kind.FnExpr cs) 0
      (λ m c at get ok has. function-valued b at c has) (λ m. tt) refl h (sym (is_value_where-roll b span kind.FnExpr cs) ∙ v)))
  default-by b s span (kind.TsInterfaceDecl d) cs is h v = no-value b span (kind.TsInterfaceDecl d) cs refl v
  default-by b s span _ cs is h v = no is

  pub default-valued : (b : Bool) (s : Seat) (n : Node) → HasShape (one sort.DefaultDecl) n → Valued b s n
  default-valued b s n h =
      let parts = shape-out n (one sort.DefaultDecl) h in
      subst (Valued b s) (roll-out-Node n) (default-by b s (out-Node n).span (out-Node n).kind (out-Node n).children parts.0 parts.1)

  -- ---- namespaces

  abbrev pub Kept : Node → Type 0
  Kept n = (b : Bool) (s : Seat) → Asked s n → Valued b s n

  -- the value of a node whose children are not asked
  abbrev asks_children : Kind → Bool
  asks_children kind.ExportDecl = true
  asks_children kind.ExportDefaultDecl = true
  asks_children (kind.FnDecl d) = true
  asks_children kind.FnExpr = true
  asks_children (kind.Function g y) = true
  asks_children (kind.TsModuleDecl d g) = true
  asks_children (kind.TsNamespaceDecl d g) = true
  asks_children kind.TsModuleBlock = true
  asks_children kind.List = true
  asks_children _ = false

  same-value : (b : Bool) (k : Kind) (cs ds : List Node) → asks_children k ≡ false → value_where_by b k cs ≡ value_where_by b k ds
  unfolding value_by
  same-value b kind.ExportDecl cs ds h = no (sym h)
  same-value b kind.ExportDefaultDecl cs ds h = no (sym h)
  same-value b (kind.FnDecl d) cs ds h = no (sym h)
  same-value b kind.FnExpr cs ds h = no (sym h)
  same-value b (kind.Function g y) cs ds h = no (sym h)
  same-value b (kind.TsModuleDecl d g) cs ds h = no (sym h)
  same-value b (kind.TsNamespaceDecl d g) cs ds h = no (sym h)
  same-value b kind.TsModuleBlock cs ds h = no (sym h)
  same-value b kind.List cs ds h = no (sym h)
  same-value b _ cs ds h = refl

  plain-valued : (b : Bool) (s : Seat) (span : Span) (k : Kind) (cs : List Node) → is_list k ≡ false → acts k ≡ false → is_type_wrapper k ≡ false → asks_children k ≡ false → Valued b s (node_of span k cs)
  plain-valued b s span k cs l a x asks v =
      by-quiet (λ l. is_value_where b (only l) ≡ true) s span k cs l a x v
      (λ w. roll-value b span k _ (sym (same-value b k cs _ asks) ∙ sym (is_value_where-roll b span k cs) ∙ v))

  -- parts of enums
  value-either : (b c : Bool) (x y : Node) → is_value_where b x ≡ true → is_value_where b y ≡ true → is_value_where b (cond c x y) ≡ true
  value-either b true x y h g = h
  value-either b false x y h g = g

  value-declaration : (b : Bool) (part : Part) (around : Around) → is_value_where b (declaration part around) ≡ true
  unfolding value_by
  value-declaration b part around =
      value-either b (is_exported_here part around) (node_of part.name.span kind.ExportDecl (variable part ∷ [])) (variable part)
      (roll-value b part.name.span kind.ExportDecl (variable part ∷ []) (roll-value b part.name.span (kind.VarDecl _ false) _ refl))
      (roll-value b part.name.span (kind.VarDecl _ false) _ refl)

  value-part : (b : Bool) (span : Span) (part : Part) (around : Around) (list : Node) → around.before ≡ [] → is_value_where b (only (part_statements enums span part around list)) ≡ true
  value-part b span part around list e =
      ap (λ ids. is_value_where b (only (cond (has_id part.name ids) [] (declaration part around ∷ []) ++ calls enums span part around list))) e
      ∙ value-declaration b part around

  part-item : (p : Place) (is_const : Bool) (name : Option Ident) (part : Part) → part_by p is_const name ≡ Some part → is_item p ≡ true
  part-item (place.Item at_top exported) is_const name part is = refl
  part-item _ is_const name part is = cc

  enum-valued : (b : Bool) (s : Seat) (span : Span) (d c : Bool) (cs : List Node) → ((s.around.before ≡ []) ⊎ (is_item s.place ≡ false)) → Valued b s (node_of span (kind.TsEnumDecl d c) cs)
  unfolding form_of answer_by value_by
  enum-valued b s span d c cs fresh v =
      by-left enums unmarked-names (λ l. is_value_where b (only l) ≡ true) s span k cs refl (λ e. v) (λ e. by (part_at s.place k cs) refl)
    where
      k : Kind
      k = kind.TsEnumDecl d c

      by : (o : Option Part) → part_at s.place k cs ≡ o → is_value_where b (only (done_by enums s span k cs (lists_of enums unmarked-names s k cs) (part_form o))) ≡ true
      by None is = roll-value b span k _ refl
      by (Some part) is = before fresh
        where
          before : (s.around.before ≡ []) ⊎ (is_item s.place ≡ false) → is_value_where b (only (part_statements enums span part s.around (second (lists_of enums unmarked-names s k cs)))) ≡ true
          before (inl e) = value-part b span part s.around (second (lists_of enums unmarked-names s k cs)) e
          before (inr e) = no (sym e ∙ part-item s.place c (name_at cs) part is)

  -- what stands behind `export`
  decl-item : (k : Kind) (n : ℕ) → is_decl k ≡ true → ((is_stmt k || is_module_decl k) ≡ true) × (child_shapes k (one sort.Decl) n ≡ child_shapes k (one sort.ModuleItem) n)
  decl-item (kind.ClassDecl d) n h = (refl, refl)
  decl-item (kind.FnDecl d) n h = (refl, refl)
  decl-item (kind.VarDecl w d) n h = (refl, refl)
  decl-item (kind.TsInterfaceDecl d) n h = (refl, refl)
  decl-item (kind.TsTypeAliasDecl d) n h = (refl, refl)
  decl-item (kind.TsEnumDecl d c) n h = (refl, refl)
  decl-item (kind.TsModuleDecl d g) n h = (refl, refl)
  decl-item _ n h = no h

  pub item-shape : (n : Node) → HasShape (one sort.Decl) n → HasShape (one sort.ModuleItem) n
  item-shape n h =
      let k = (out-Node n).kind in
      let cs = (out-Node n).children in
      let parts = shape-out n (one sort.Decl) h in
      let is = decl-item k (length cs) parts.0 in
      subst (HasShape (one sort.ModuleItem)) (roll-out-Node n) ((node_has_shape (out-Node n).span k cs (one sort.ModuleItem)).1 (is.0, subst (λ z. HaveShapes z cs) is.1 parts.1))

  decl-enumish : (k : Kind) (cs : List Node) → is_decl k ≡ true → is_enum_kind k ≡ false → enumish k cs ≡ false
  decl-enumish (kind.TsEnumDecl d c) cs h e = no (sym e)
  decl-enumish kind.ExportDecl cs h e = no h
  decl-enumish _ cs h e = refl

  exported-item : (p : Place) → is_item p ≡ false → is_item (exported_place p) ≡ false
  exported-item (place.Item at_top exported) h = no (sym h)
  exported-item _ h = refl

  export-place : (s : Seat) (cs : List Node) (i : ℕ) → raw s ≡ false → seat_at enums s kind.ExportDecl cs i ≡ record { place = place_at enums s.place kind.ExportDecl cs i; around = s.around }
  unfolding around_in
  export-place s cs i w = ap (λ b. cond b s (record { place = place_at enums s.place kind.ExportDecl cs i; around = around_at s kind.ExportDecl cs })) w

  -- whether the declaration behind `export` is asked where the export is
  abbrev FreshExport : Seat → Bool → Type 0
  FreshExport s first = (s.around.before ≡ []) ⊎ ((first ≡ false) ⊎ (is_item s.place ≡ false))

  pub export-fresh : (s : Seat) (c : Node) (cs : List Node) → raw s ≡ false → HasShape (one sort.Decl) c → FreshExport s (is_enum_first (c ∷ cs)) → Asked (seat_at enums s kind.ExportDecl (c ∷ cs) 0) c
  unfolding place_in
  export-fresh s c cs w h fresh = inl (item-shape c h, subst (λ z. Fresh z c) (sym (export-place s (c ∷ cs) 0 w)) (by fresh))
    where
      by : FreshExport s (is_enum_first (c ∷ cs)) → (s.around.before ≡ []) ⊎ ((enumish_node c ≡ false) ⊎ (is_item (exported_place s.place) ≡ false))
      by (inl e) = inl e
      by (inr (inl e)) = inr (inl (decl-enumish (out-Node c).kind (out-Node c).children (shape-out c (one sort.Decl) h).0 e))
      by (inr (inr e)) = inr (inr (exported-item s.place e))

  pub export-value : (b : Bool) (s : Seat) (cs : List Node) → raw s ≡ false → HaveShapes (one sort.Decl ∷ []) cs → ((i : ℕ) (c : Node) → slice_get cs i ≡ Some c → Kept c)
      → FreshExport s (is_enum_first cs) → get_or (map (is_value_where b) cs) 0 false ≡ true → is_value_where b (only (first_list (lists_of enums unmarked-names s kind.ExportDecl cs))) ≡ true
  export-value b s [] w h each fresh v = absurd h
  export-value b s (c ∷ cs) w h each fresh v = each 0 c refl b (seat_at enums s kind.ExportDecl (c ∷ cs) 0) (export-fresh s c cs w h.0 fresh) v

  first-value : (b : Bool) (lists : List (List Node)) → is_value_where b (only (first_list lists)) ≡ true → get_or (map (is_value_where b) (map only lists)) 0 false ≡ true
  first-value b [] h = absent-valueless b h
  first-value b (l ∷ ls) h = h

  export-valued : (b : Bool) (s : Seat) (span : Span) (cs : List Node) → HaveShapes (one sort.Decl ∷ []) cs → ((i : ℕ) (c : Node) → slice_get cs i ≡ Some c → Kept c)
      → FreshExport s (is_enum_first cs) → Valued b s (node_of span kind.ExportDecl cs)
  unfolding form_of answer_by value_by
  export-valued b s span cs h each fresh v =
      by-left enums unmarked-names (λ l. is_value_where b (only l) ≡ true) s span kind.ExportDecl cs refl (λ e. v) (λ e. by (is_item s.place && is_enum_first cs)
      (export-value b s cs (raw-left s.place kind.ExportDecl e) h each fresh (sym (is_value_where-roll b span kind.ExportDecl cs) ∙ v)))
    where
      lists : List (List Node)
      lists = lists_of enums unmarked-names s kind.ExportDecl cs

      by : (a : Bool) → is_value_where b (only (first_list lists)) ≡ true → is_value_where b (only (done_by enums s span kind.ExportDecl cs lists (cond a form.Export form.One))) ≡ true
      by true first = first
      by false first = roll-value b span kind.ExportDecl (map only lists) (first-value b lists first)

  -- ---- a body may be missing where it is not

  maybe-space : (k : Kind) (n : ℕ) → belongs sort.TsNamespaceBody k ≡ true → ((is_absent k || belongs sort.TsNamespaceBody k) ≡ true) × (child_shapes k (one sort.TsNamespaceBody) n ≡ child_shapes k (maybe sort.TsNamespaceBody) n)
  maybe-space kind.TsModuleBlock n h = (refl, refl)
  maybe-space (kind.TsNamespaceDecl d g) n h = (refl, refl)
  maybe-space _ n h = no h

  maybe-body : (n : Node) → HasShape (one sort.TsNamespaceBody) n → HasShape (maybe sort.TsNamespaceBody) n
  maybe-body n h =
      let k = (out-Node n).kind in
      let cs = (out-Node n).children in
      let parts = shape-out n (one sort.TsNamespaceBody) h in
      let is = maybe-space k (length cs) parts.0 in
      subst (HasShape (maybe sort.TsNamespaceBody)) (roll-out-Node n) ((node_has_shape (out-Node n).span k cs (maybe sort.TsNamespaceBody)).1 (is.0, subst (λ z. HaveShapes z cs) is.1 parts.1))

  -- ---- an item

  module _ (b : Bool) (s : Seat) (span : Span) (cs : List Node) (each : (i : ℕ) (c : Node) → slice_get cs i ≡ Some c → Kept c) where
    abbrev OfKind : Kind → Type 0
    OfKind k = Valued b s (node_of span k cs)

    -- the value of a child, which is of this kind of node
    child-value : (c : Bool) (k : Kind) (t u : Shape) (i : ℕ) → is_list k ≡ false → acts k ≡ false → is_type_wrapper k ≡ false → ((ds : List Node) → value_where_by b k ds ≡ get_or (map (is_value_where c) ds) i false)
        → ((m : ℕ) (d : Node) (s' : Seat) → slice_get cs m ≡ Some d → HasShape u d → Valued c s' d) → slice_get (child_shapes k t (length cs)) i ≡ Some u → HaveShapes (child_shapes k t (length cs)) cs → OfKind k
    child-value c k t u i l a x is each' at h v =
        by-quiet (λ l. is_value_where b (only l) ≡ true) s span k cs l a x v
        (λ w. roll-value b span k _ (is (map only (lists_of enums unmarked-names s k cs)) ∙ at-value Anywhere c u i (child_shapes k t (length cs)) cs (seat_at enums s k cs) 0
        (λ m d s' get ok has. each' m d s' get has) (λ m. tt) at h (sym (is cs) ∙ sym (is_value_where-roll b span k cs) ∙ v)))

    item-by : (k : Kind) → (is_stmt k || is_module_decl k) ≡ true → HaveShapes (child_shapes k (one sort.ModuleItem) (length cs)) cs → FreshExport s (enumish k cs) → OfKind k
    unfolding value_by
    item-by (kind.TsEnumDecl d c) is h (inl e) = enum-valued b s span d c cs (inl e)
    item-by (kind.TsEnumDecl d c) is h (inr (inl e)) = no (sym e)
    item-by (kind.TsEnumDecl d c) is h (inr (inr e)) = enum-valued b s span d c cs (inr e)
    item-by kind.ExportDecl is h fresh = export-valued b s span cs h each fresh
    item-by (kind.FnDecl d) is h fresh =
        child-value (not d && b) (kind.FnDecl d) (one sort.ModuleItem) (one sort.Function) 1 refl refl refl (λ ds. refl) (λ m c s' get has. function-valued (not d && b) s' c has) refl h
    item-by kind.ExportDefaultDecl is h fresh =
        child-value b kind.ExportDefaultDecl (one sort.ModuleItem) (one sort.DefaultDecl) 0 refl refl refl (λ ds. refl) (λ m c s' get has. default-valued b s' c has) refl h
    item-by (kind.TsModuleDecl d g) is h fresh =
        child-value (not d && b) (kind.TsModuleDecl d g) (one sort.ModuleItem) (maybe sort.TsNamespaceBody) 1 refl refl refl (λ ds. refl) (λ m c s' get has. each m c get (not d && b) s' (inr (inr has))) refl h
    item-by kind.List is h fresh = no is
    item-by kind.FnExpr is h fresh = no is
    item-by (kind.Function g y) is h fresh = no is
    item-by (kind.TsNamespaceDecl d g) is h fresh = no is
    item-by kind.TsModuleBlock is h fresh = no is
    item-by (kind.Ident text ctxt optional) is h fresh = no is
    item-by kind.BindingIdent is h fresh = no is
    item-by kind.AssignPatProp is h fresh = no is
    item-by kind.MemberExpr is h fresh = no is
    item-by kind.TsEnumMember is h fresh = no is
    item-by kind.TsTypeAssertion is h fresh = no is
    item-by kind.TsConstAssertion is h fresh = no is
    item-by kind.TsNonNullExpr is h fresh = no is
    item-by kind.TsAsExpr is h fresh = no is
    item-by kind.TsInstantiation is h fresh = no is
    item-by kind.TsSatisfiesExpr is h fresh = no is
    item-by k is h fresh = plain-valued b s span k cs refl refl refl refl

    -- ---- a body

    none-before : (k : Kind) (j : ℕ) → k ≡ kind.TsModuleBlock → raw s ≡ false → (seat_at enums s k cs j).around.before ≡ []
    unfolding around_in
    none-before k j e w =
        ap (λ z. (seat_at enums s z cs j).around.before) e
        ∙ ap (λ c. (cond c s (record { place = place_at enums s.place kind.TsModuleBlock cs j; around = around_at s kind.TsModuleBlock cs })).around.before) w

    body-of-space : (k : Kind) → (is_absent k || belongs sort.TsNamespaceBody k) ≡ true → HaveShapes (child_shapes k (maybe sort.TsNamespaceBody) (length cs)) cs → OfKind k
    unfolding value_by
    body-of-space kind.Absent is h v = no-value b span kind.Absent cs refl v
    body-of-space (kind.TsNamespaceDecl d g) is h v =
        child-value (not d && b) (kind.TsNamespaceDecl d g) (maybe sort.TsNamespaceBody) (one sort.TsNamespaceBody) 1 refl refl refl (λ ds. refl)
        (λ m c s' get has. each m c get (not d && b) s' (inr (inr (maybe-body c has)))) refl h v
    body-of-space kind.TsModuleBlock is h v =
        by-quiet (λ l. is_value_where b (only l) ≡ true) s span kind.TsModuleBlock cs refl refl refl v
        (λ w. roll-value b span kind.TsModuleBlock _ (at-value (λ s'. s'.around.before ≡ []) b (many sort.ModuleItem) 0 (child_shapes kind.TsModuleBlock (maybe sort.TsNamespaceBody) (length cs)) cs (seat_at enums s kind.TsModuleBlock cs) 0
        (λ m c s' get ok has. each m c get b s' (inr (inl (has, ok)))) (λ m. none-before kind.TsModuleBlock m refl w) refl h (sym (is_value_where-roll b span kind.TsModuleBlock cs) ∙ v)))
    body-of-space _ is h v = no is

  -- ---- the items of a namespace

  abbrev any-value : Bool → List Node → Bool
  any-value b ns = list_any (λ c. c) (map (is_value_where b) ns)

  or-true : (a c : Bool) → c ≡ true → (a || c) ≡ true
  or-true true c h = refl
  or-true false c h = h

  first-valued : (b : Bool) (ns ms : List Node) → is_value_where b (only ns) ≡ true → list_any (λ c. c) (map (is_value_where b) (ns ++ ms)) ≡ true
  first-valued b [] ms h = absent-valueless b h
  first-valued b (n ∷ ns) ms h = ap (λ c. c || list_any (λ c. c) (map (is_value_where b) (ns ++ ms))) h

  last-valued : (b : Bool) (ns ms : List Node) → list_any (λ c. c) (map (is_value_where b) ms) ≡ true → list_any (λ c. c) (map (is_value_where b) (ns ++ ms)) ≡ true
  last-valued b [] ms h = h
  last-valued b (n ∷ ns) ms h = or-true (is_value_where b n) (list_any (λ c. c) (map (is_value_where b) (ns ++ ms))) (last-valued b ns ms h)

  empty-brings : (k : Kind) (cs : List Node) → is_empty_stmt k ≡ true → part_ids k cs ≡ []
  unfolding part_ids declared_ids
  empty-brings kind.EmptyStmt cs h = refl
  empty-brings _ cs h = no h

  -- an item that stays is a value, or an empty statement, which brings nothing
  stays-value : (k : Kind) (cs : List Node) → item_by k cs ≡ true → (is_stmt k || is_module_decl k) ≡ true → (is_empty_stmt k ≡ true) ⊎ (value_by k (values_in true k cs) ≡ true)
  stays-value k cs stay is = by (is_empty_stmt k) refl stay
    where
      by : (c : Bool) → is_empty_stmt k ≡ c → cond c true (cond (is_stmt k || is_module_decl k) (value_by k (values_in true k cs) && not (cond (Staying.is_export k) (declares cs) (is_declared k))) true) ≡ true
          → (is_empty_stmt k ≡ true) ⊎ (value_by k (values_in true k cs) ≡ true)
      by true e h = inl e
      by false e h =
          let item = ap (λ c. cond c (value_by k (values_in true k cs) && not (cond (Staying.is_export k) (declares cs) (is_declared k))) true) (sym is) ∙ h in
          inr ((both (value_by k (values_in true k cs)) (not (cond (Staying.is_export k) (declares cs) (is_declared k))) item).0)

  item-part : (k : Kind) (cs : List Node) → stays_by k cs ≡ true → item_by k cs ≡ true
  item-part k cs h =
      let own = both (item_by k cs && member_by k cs && specifier_stays k) (not (this_by k cs)) h in
      let two = both (item_by k cs && member_by k cs) (specifier_stays k) own.0 in
      (both (item_by k cs) (member_by k cs) two.0).0

  item-brings : (b : Bool) (c : Node) → HasShape (one sort.ModuleItem) c → stays c ≡ true → is_value_where b c ≡ false → brought c ≡ []
  item-brings b c h stay v = by (stays-value (out-Node c).kind (out-Node c).children (item-part (out-Node c).kind (out-Node c).children (sym (stays-out c) ∙ stay)) (shape-out c (one sort.ModuleItem) h).0)
    where
      by : (is_empty_stmt (out-Node c).kind ≡ true) ⊎ (value_by (out-Node c).kind (values_in true (out-Node c).kind (out-Node c).children) ≡ true) → brought c ≡ []
      by (inl e) = empty-brings (out-Node c).kind (out-Node c).children e
      by (inr e) = no (sym v ∙ value_everywhere b c (is_value-out c ∙ e))

  still-none : (s : Seat) (c : Node) → s.around.before ≡ [] → brought c ≡ [] → (next_seat s c).around.before ≡ []
  still-none s c e g =
      ap (λ (ids : List Id). (behind_by s ids).around.before) g
      ∙ by (is_item s.place)
    where
      by : (a : Bool) → (cond a (record { place = s.place; around = record { name = s.around.name; before = s.around.before ++ [] } }) s).around.before ≡ []
      by true = append-nil s.around.before ∙ e
      by false = e

  abbrev ItemsValued : Bool → List Node → Type 0
  ItemsValued b cs = (s : Seat) → s.around.before ≡ [] → any-value b cs ≡ true → any-value b (items (T enums unmarked-names) s cs) ≡ true

  item-kept : (b stay : Bool) (c : Node) (cs : List Node) (s : Seat) → stays c ≡ stay → HasShape (one sort.ModuleItem) c → Kept c → s.around.before ≡ [] → ItemsValued b cs
      → (v : Bool) → is_value_where b c ≡ v → (v || any-value b cs) ≡ true
      → any-value b (cond stay (becomes (T enums unmarked-names) s c ++ items (T enums unmarked-names) (next_seat s c) cs) (c ∷ items (T enums unmarked-names) s cs)) ≡ true
  item-kept b true c cs s st h kept e rest true v any = first-valued b (becomes (T enums unmarked-names) s c) (items (T enums unmarked-names) (next_seat s c) cs) (kept b s (inl (h, inl e)) v)
  item-kept b true c cs s st h kept e rest false v any =
      last-valued b (becomes (T enums unmarked-names) s c) (items (T enums unmarked-names) (next_seat s c) cs) (rest (next_seat s c) (still-none s c e (item-brings b c h st v)) any)
  item-kept b false c cs s st h kept e rest true v any = ap (λ a. a || any-value b (items (T enums unmarked-names) s cs)) v
  item-kept b false c cs s st h kept e rest false v any = or-true (is_value_where b c) (any-value b (items (T enums unmarked-names) s cs)) (rest s e any)

  items-kept : (b : Bool) (cs : List Node) → HaveShapes (replicate (length cs) (one sort.ModuleItem)) cs → ((i : ℕ) (c : Node) → slice_get cs i ≡ Some c → Kept c) → ItemsValued b cs
  items-kept b [] h each s e any = any
  items-kept b (c ∷ cs) h each s e any =
      item-kept b (stays c) c cs s refl h.0 (each 0 c refl) e (items-kept b cs h.1 (λ i d at. each (suc i) d at)) (is_value_where b c) refl any

  list-valued : (b : Bool) (s : Seat) (span : Span) (cs : List Node) → HaveShapes (replicate (length cs) (one sort.ModuleItem)) cs → ((i : ℕ) (c : Node) → slice_get cs i ≡ Some c → Kept c)
      → s.around.before ≡ [] → Valued b s (node_of span kind.List cs)
  unfolding value_by
  list-valued b s span cs h each e v =
      ap (λ l. is_value_where b (only l)) (nodes_become Seat (T enums unmarked-names) s span kind.List cs)
      ∙ roll-value b span kind.List (items (T enums unmarked-names) s cs) (items-kept b cs h each s e (sym (is_value_where-roll b span kind.List cs) ∙ v))

  node-kept : (span : Span) (k : Kind) (cs : List Node) → ((i : ℕ) (c : Node) → slice_get cs i ≡ Some c → Kept c) → Kept (node_of span k cs)
  node-kept span k cs each b s (inl (h, fresh)) =
      let parts = (node_has_shape span k cs (one sort.ModuleItem)).0 h in
      item-by b s span cs each k parts.0 parts.1
      (subst (λ (z : Node-F Node). (s.around.before ≡ []) ⊎ ((enumish z.kind z.children ≡ false) ⊎ (is_item s.place ≡ false))) (out-roll-Node (record { span = span; kind = k; children = cs })) fresh)
  node-kept span k cs each b s (inr (inl (h, e))) =
      let parts = (node_has_shape span k cs (many sort.ModuleItem)).0 h in
      subst (λ z. HaveShapes (child_shapes z (many sort.ModuleItem) (length cs)) cs → Valued b s (node_of span z cs)) (sym (list-kind k parts.0)) (λ have. list-valued b s span cs have each e) parts.1
  node-kept span k cs each b s (inr (inr h)) =
      let parts = (node_has_shape span k cs (maybe sort.TsNamespaceBody)).0 h in
      body-of-space b s span cs each k parts.0 parts.1

  pub kept : (n : Node) → Kept n
  kept = by-parts Kept node-kept
