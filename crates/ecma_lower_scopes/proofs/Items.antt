-- An item of a module gives, as it is written, what it gave.
use Rattle.std.proofs.Common.{◌≡◌, ◌∙◌, inl, inr, ℕ, Bool, true, false, refl, sym, ap, subst, List, [], ◌∷◌, ◌++◌, slice_get, Some}
use Rattle.ecma_kind.specs.Sorts.{belongs}
use Rattle.ecma_kind.specs.declared.kind.Kind.{Kind}
use Rattle.ecma_kind.specs.declared.kind.Kind.TheVariants as kind
use Rattle.ecma_kind.specs.declared.shapes.Sort.{Sort}
use Rattle.ecma_kind.specs.declared.shapes.Sort.TheVariants as sort
use Rattle.ecma_kind.specs.declared.span.Span.{Span}
use Rattle.ecma_tree.specs.Nodes.{node_of}
use Rattle.ecma_tree.specs.Sorted.{HasShape, one}
use Rattle.ecma_tree.specs.declared.node.Node.{Node, out-Node}
use Rattle.ecma_tree.proofs.ShapeLaws.{node_has_shape}
use Rattle.ecma_strip_rewriting.proofs.Commuting.{by-parts}
use Rattle.ecma_lower.specs.declared.names.Names.{Names}
use Rattle.ecma_lower.specs.declared.seat.Seat.TheVariants as seat
use Rattle.ecma_lower.specs.Assignments.{is_required}
use Rattle.ecma_lower.proofs.Singles.{write}
use Rattle.ecma_lower_strip.proofs.Items.{Item, as_import, item-is}
use Rattle.ecma_lower_strip.proofs.Resting.{export-out, import-out, one-child, qualified-out, required-out, rest-stays, rests, two-children}
use Rattle.ecma_lower_scopes.proofs.Walks.{AreFree, Seats, Walk, export-gives, exported-last, import-gives, imported, inner-two, required-gives}
use Rattle.ecma_lower_scopes.proofs.Still.{kind-of}
use Rattle.ecma_strip_rewriting.proofs.PlainKinds.{no}

-- ---- the right side of an import

abbrev is_side : Sort → Bool
is_side sort.TsModuleRef = true
is_side sort.TsEntityName = true
is_side _ = false

abbrev is_side_kind : Kind → Bool
is_side_kind (kind.Ident sym ctxt optional) = true
is_side_kind kind.TsQualifiedName = true
is_side_kind kind.TsExternalModuleRef = true
is_side_kind _ = false

ref-kind : (k : Kind) → belongs sort.TsModuleRef k ≡ true → is_side_kind k ≡ true
ref-kind (kind.Ident sym ctxt optional) h = refl
ref-kind kind.TsQualifiedName h = refl
ref-kind kind.TsExternalModuleRef h = refl
ref-kind _ h = no h

entity-kind : (k : Kind) → belongs sort.TsEntityName k ≡ true → is_side_kind k ≡ true
entity-kind (kind.Ident sym ctxt optional) h = refl
entity-kind kind.TsQualifiedName h = refl
entity-kind _ h = no h

side-kind : (σ : Sort) (k : Kind) → is_side σ ≡ true → belongs σ k ≡ true → is_side_kind k ≡ true
side-kind sort.TsModuleRef k g h = ref-kind k h
side-kind sort.TsEntityName k g h = entity-kind k h
side-kind _ k g h = no g

module _ {A R : Type 0} (w : Walk A R) (free : ℕ) (a : A) {name value : A} (s : Seats w free a name value) (names : Names) (made : AreFree free names) where
  abbrev Gives : Node → Type 0
  Gives v = w.gives (write names seat.Value v) value ≡ w.gives v value

  abbrev Side : Node → Type 0
  Side v = (σ : Sort) → is_side σ ≡ true → HasShape (one σ) v → Gives v

  qualified-side : (span : Span) (l r : Node) → Gives l → Gives (node_of span kind.TsQualifiedName (l ∷ r ∷ []))
  qualified-side span l r same =
      ap (λ z. w.gives z value) (qualified-out names span l r)
      ∙ inner-two w free a s span kind.MemberExpr (write names seat.Value l) r refl refl
      ∙ ap (λ (z : List R). z ++ w.gives r value) same
      ∙ sym (inner-two w free a s span kind.TsQualifiedName l r refl refl)

  required-side : (span : Span) (arg : Node) → Gives (node_of span kind.TsExternalModuleRef (arg ∷ []))
  required-side span arg = ap (λ z. w.gives z value) (required-out names span arg) ∙ required-gives w free a s names.required made.required span arg

  side-by : (span : Span) (k : Kind) (cs : List Node) (σ : Sort) → is_side_kind k ≡ true → ((i : ℕ) (c : Node) → slice_get cs i ≡ Some c → Side c) → HasShape (one σ) (node_of span k cs)
      → Gives (node_of span k cs)
  side-by span (kind.Ident text ctxt optional) cs σ g each has =
      let n = node_of span (kind.Ident text ctxt optional) cs in
      ap (λ z. w.gives z value) (rest-stays names seat.Value n (ap rests (kind-of span (kind.Ident text ctxt optional) cs)))
  side-by span kind.TsQualifiedName cs σ g each has =
      let parts = two-children (one sort.TsEntityName) (one sort.IdentName) cs ((node_has_shape span kind.TsQualifiedName cs (one σ)).0 has).1 in
      subst (λ z. Gives (node_of span kind.TsQualifiedName z)) (sym parts.2)
      (qualified-side span parts.0 parts.1 (each 0 parts.0 (ap (λ (z : List Node). slice_get z 0) parts.2) sort.TsEntityName refl parts.3))
  side-by span kind.TsExternalModuleRef cs σ g each has =
      let parts = one-child (one sort.Str) cs ((node_has_shape span kind.TsExternalModuleRef cs (one σ)).0 has).1 in
      subst (λ z. Gives (node_of span kind.TsExternalModuleRef z)) (sym parts.1) (required-side span parts.0)
  side-by span _ cs σ g each has = no g

  side-node : (span : Span) (k : Kind) (cs : List Node) → ((i : ℕ) (c : Node) → slice_get cs i ≡ Some c → Side c) → Side (node_of span k cs)
  side-node span k cs each σ g has = side-by span k cs σ (side-kind σ k g ((node_has_shape span k cs (one σ)).0 has).0) each has

  sides-give : (v : Node) → HasShape (one sort.TsModuleRef) v → Gives v
  sides-give v h = by-parts Side side-node v sort.TsModuleRef refl h

  -- ---- items

  abbrev Same : Node → Type 0
  Same n = w.gives (write names seat.Item n) a ≡ w.gives n a

  import-same : (span : Span) (e : Bool) (x y : Node) → HasShape (one sort.TsModuleRef) y → Same (node_of span (as_import e) (x ∷ y ∷ []))
  import-same span e x y h =
      ap (λ z. w.gives z a) (import-out names span e x y)
      ∙ imported w free a s names made (is_required (out-Node y).kind) e span x (write names seat.Value y)
      ∙ ap (λ (z : List R). w.gives x name ++ z) (sides-give y h)
      ∙ sym (import-gives w free a s e span x y)

  export-same : (span : Span) (e : Node) → Same (node_of span kind.TsExportAssignment (e ∷ []))
  export-same span e = ap (λ z. w.gives z a) (export-out names span e) ∙ exported-last w free a s names.free made.others span e ∙ sym (export-gives w free a s span e)

  pub items-same : (n : Node) → HasShape (one sort.ModuleItem) n → Same n
  items-same n h = by (item-is n h)
    where
      by : Item n → Same n
      by (inl r) = ap (λ z. w.gives z a) (rest-stays names seat.Item n r)
      by (inr (inl (span, e, x, y, is, hx, hy))) = subst Same (sym is) (import-same span e x y hy)
      by (inr (inr (span, e, is))) = subst Same (sym is) (export-same span e)
