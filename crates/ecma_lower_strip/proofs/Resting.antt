-- Where nothing is written a node stays, and what is written for the right side of an import.
use Rattle.std.proofs.Common.{◌≡◌, ◌∙◌, ℕ, suc, Bool, true, false, refl, sym, ap, ap₂, subst, List, [], ◌∷◌, map, Some, slice_get}
use Rattle.ecma_kind.specs.Sorts.{belongs}
use Rattle.ecma_kind.specs.declared.kind.Kind.{Kind}
use Rattle.ecma_kind.specs.declared.kind.Kind.TheVariants as kind
use Rattle.ecma_kind.specs.declared.shapes.Shape.{Shape}
use Rattle.ecma_kind.specs.declared.shapes.Sort.{Sort}
use Rattle.ecma_kind.specs.declared.shapes.Sort.TheVariants as sort
use Rattle.ecma_kind.specs.declared.span.Span.{Span}
use Rattle.ecma_tree.specs.Laws.{HaveShapes}
use Rattle.ecma_tree.specs.Nodes.{node_of}
use Rattle.ecma_tree.specs.Sorted.{HasShape, one}
use Rattle.ecma_tree.specs.Values.{value_by}
use Rattle.ecma_tree.specs.declared.node.Node.{Node, Node-F, out-Node}
use Rattle.ecma_tree.specs.declared.node.Node.TheViews.{out-roll-Node, roll-out-Node}
use Rattle.ecma_tree.proofs.ShapeLaws.{node_has_shape}
use Rattle.ecma_strip.specs.Staying.{is_declared, specifier_stays, stays}
use Rattle.ecma_strip.specs.Stripping.{plain, plain_children, plain_kind, stripped}
use Rattle.ecma_strip_rewriting.proofs.Commuting.{by-parts}
use Rattle.ecma_strip_rewriting.proofs.PlainKinds.{no, shape-out, stripped-other}
use Rattle.ecma_strip_rewriting.proofs.Stays.{kind-roll, stays-roll}
use Rattle.ecma_lower.specs.declared.names.Names.{Names}
use Rattle.ecma_lower.specs.declared.seat.Seat.{Seat}
use Rattle.ecma_lower.specs.declared.seat.Seat.TheVariants as seat
use Rattle.ecma_lower.specs.Assignments.{is_required, requires_by}
use Rattle.ecma_lower.specs.Seats.{is_raw, seat_in}
use Rattle.ecma_lower.specs.Writing.{export_of, import_of, required_of, written}
use Rattle.ecma_lower.proofs.Raw.{raw-stays}
use Rattle.ecma_lower.proofs.Singles.{each_at, write, write-out}
use Rattle.ecma_lower_strip.proofs.Plain.{PlainNames, plain-node, required-written}

-- ---- kinds where nothing is written, nor below

abbrev pub rests : Kind → Bool
rests (kind.Module shebang) = false
rests kind.List = false
rests (kind.TsImportEqualsDecl is_export false) = false
rests kind.TsExportAssignment = false
rests kind.TsQualifiedName = false
rests kind.TsExternalModuleRef = false
rests kind.TsTypeAssertion = false
rests kind.TsConstAssertion = false
rests kind.TsNonNullExpr = false
rests kind.TsAsExpr = false
rests kind.TsInstantiation = false
rests kind.TsSatisfiesExpr = false
rests _ = true

rests-seat : (s : Seat) (k : Kind) (i : ℕ) → rests k ≡ true → is_raw (seat_in s k i) ≡ true
unfolding seat_in
rests-seat s (kind.Module shebang) i h = no h
rests-seat s kind.List i h = no h
rests-seat s (kind.TsImportEqualsDecl is_export false) i h = no h
rests-seat s kind.TsQualifiedName i h = no h
rests-seat s kind.TsTypeAssertion i h = no h
rests-seat s kind.TsConstAssertion i h = no h
rests-seat s kind.TsNonNullExpr i h = no h
rests-seat s kind.TsAsExpr i h = no h
rests-seat s kind.TsInstantiation i h = no h
rests-seat s kind.TsSatisfiesExpr i h = no h
rests-seat s _ i h = refl

module _ (names : Names) where
  rests-item : (q : Bool) (span : Span) (k : Kind) (cs : List Node) → rests k ≡ true → written names seat.Item q span k cs ≡ node_of span k cs
  unfolding written
  rests-item q span (kind.TsImportEqualsDecl is_export false) cs h = no h
  rests-item q span kind.TsExportAssignment cs h = no h
  rests-item q span _ cs h = refl

  rests-value : (q : Bool) (span : Span) (k : Kind) (cs : List Node) → rests k ≡ true → written names seat.Value q span k cs ≡ node_of span k cs
  unfolding written
  rests-value q span kind.TsQualifiedName cs h = no h
  rests-value q span kind.TsExternalModuleRef cs h = no h
  rests-value q span _ cs h = refl

  rests-written : (s : Seat) (q : Bool) (span : Span) (k : Kind) (cs : List Node) → rests k ≡ true → written names s q span k cs ≡ node_of span k cs
  unfolding written
  rests-written seat.Item q span k cs h = rests-item q span k cs h
  rests-written seat.Value q span k cs h = rests-value q span k cs h
  rests-written _ q span k cs h = refl

  -- children in raw seats
  raw-each : (seat_of : ℕ → Seat) (cs : List Node) → ((i : ℕ) → is_raw (seat_of i) ≡ true) → each_at (write names) seat_of cs ≡ cs
  raw-each seat_of [] raw = refl
  raw-each seat_of (c ∷ cs) raw = ap₂ (λ a rest. a ∷ rest) (sym (raw-stays names (seat_of 0) c (raw 0))) (raw-each (λ j. seat_of (suc j)) cs (λ j. raw (suc j)))

  pub rest-stays : (s : Seat) (n : Node) → rests (out-Node n).kind ≡ true → write names s n ≡ n
  rest-stays s n h = by (is_raw s) refl
    where
      by : (b : Bool) → is_raw s ≡ b → write names s n ≡ n
      by true raw = sym (raw-stays names s n raw)
      by false raw =
          write-out names s n raw
          ∙ rests-written s (requires_by (out-Node n).children) (out-Node n).span (out-Node n).kind (each_at (write names) (λ i. seat_in s (out-Node n).kind i) (out-Node n).children) h
          ∙ ap (node_of (out-Node n).span (out-Node n).kind) (raw-each (λ i. seat_in s (out-Node n).kind i) (out-Node n).children (λ i. rests-seat s (out-Node n).kind i h))
          ∙ roll-out-Node n

  -- what is written for a node of these parts
  pub write-roll : (s : Seat) (span : Span) (k : Kind) (cs : List Node) → is_raw s ≡ false
      → write names s (node_of span k cs) ≡ written names s (requires_by cs) span k (each_at (write names) (λ i. seat_in s k i) cs)
  write-roll s span k cs raw =
      let parts : Node-F Node = record { span = span; kind = k; children = cs } in
      write-out names s (node_of span k cs) raw
      ∙ ap (λ (z : Node-F Node). written names s (requires_by z.children) z.span z.kind (each_at (write names) (λ i. seat_in s z.kind i) z.children)) (out-roll-Node parts)

  pub unwritten : (c : Node) → write names seat.Raw c ≡ c
  unwritten c = sym (raw-stays names seat.Raw c refl)

  -- ---- what is written for an assignment, and for the right side of an import

  pub import-out : (span : Span) (e : Bool) (a b : Node) → write names seat.Item (node_of span (kind.TsImportEqualsDecl e false) (a ∷ b ∷ [])) ≡ import_of names (is_required (out-Node b).kind) e span (a ∷ write names seat.Value b ∷ [])
  unfolding written seat_in
  import-out span e a b =
      write-roll seat.Item span (kind.TsImportEqualsDecl e false) (a ∷ b ∷ []) refl
      ∙ ap (λ z. import_of names (is_required (out-Node b).kind) e span (z ∷ write names seat.Value b ∷ [])) (unwritten a)

  pub export-out : (span : Span) (e : Node) → write names seat.Item (node_of span kind.TsExportAssignment (e ∷ [])) ≡ export_of names.free span (e ∷ [])
  unfolding written seat_in
  export-out span e = write-roll seat.Item span kind.TsExportAssignment (e ∷ []) refl ∙ ap (λ z. export_of names.free span (z ∷ [])) (unwritten e)

  pub qualified-out : (span : Span) (l r : Node) → write names seat.Value (node_of span kind.TsQualifiedName (l ∷ r ∷ [])) ≡ node_of span kind.MemberExpr (write names seat.Value l ∷ r ∷ [])
  unfolding written seat_in
  qualified-out span l r =
      write-roll seat.Value span kind.TsQualifiedName (l ∷ r ∷ []) refl
      ∙ ap (λ z. node_of span kind.MemberExpr (write names seat.Value l ∷ z ∷ [])) (unwritten r)

  pub required-out : (span : Span) (arg : Node) → write names seat.Value (node_of span kind.TsExternalModuleRef (arg ∷ [])) ≡ required_of names.required span (arg ∷ [])
  unfolding written seat_in
  required-out span arg =
      write-roll seat.Value span kind.TsExternalModuleRef (arg ∷ []) refl ∙ ap (λ z. required_of names.required span (z ∷ [])) (unwritten arg)

-- ---- the right side of an import

abbrev is_side : Sort → Bool
is_side sort.TsModuleRef = true
is_side sort.TsEntityName = true
is_side _ = false

abbrev is_side_kind : Kind → Bool
is_side_kind (kind.Ident sym ctxt optional) = true
is_side_kind kind.TsQualifiedName = true
is_side_kind kind.TsExternalModuleRef = true
is_side_kind _ = false

ref-kind : (k : Kind) → belongs sort.TsModuleRef k ≡ true → is_side_kind k ≡ true
ref-kind (kind.Ident sym ctxt optional) h = refl
ref-kind kind.TsQualifiedName h = refl
ref-kind kind.TsExternalModuleRef h = refl
ref-kind _ h = no h

entity-kind : (k : Kind) → belongs sort.TsEntityName k ≡ true → is_side_kind k ≡ true
entity-kind (kind.Ident sym ctxt optional) h = refl
entity-kind kind.TsQualifiedName h = refl
entity-kind _ h = no h

side-kind : (σ : Sort) (k : Kind) → is_side σ ≡ true → belongs σ k ≡ true → is_side_kind k ≡ true
side-kind sort.TsModuleRef k g h = ref-kind k h
side-kind sort.TsEntityName k g h = entity-kind k h
side-kind _ k g h = no g

-- it is a required module with types or without
required-by : (span : Span) (k : Kind) (cs : List Node) → is_side_kind k ≡ true → is_required (out-Node (stripped (node_of span k cs))).kind ≡ is_required k
unfolding plain plain_kind plain_children
required-by span (kind.Ident text ctxt optional) cs h = ap (λ z. is_required (out-Node z).kind) (stripped-other span (kind.Ident text ctxt optional) cs refl) ∙ ap is_required (kind-roll span (kind.Ident text ctxt false) (map stripped cs))
required-by span kind.TsQualifiedName cs h = ap (λ z. is_required (out-Node z).kind) (stripped-other span kind.TsQualifiedName cs refl) ∙ ap is_required (kind-roll span kind.TsQualifiedName (map stripped cs))
required-by span kind.TsExternalModuleRef cs h = ap (λ z. is_required (out-Node z).kind) (stripped-other span kind.TsExternalModuleRef cs refl) ∙ ap is_required (kind-roll span kind.TsExternalModuleRef (map stripped cs))
required-by span _ cs h = no h

pub required-kept : (v : Node) → HasShape (one sort.TsModuleRef) v → is_required (out-Node (stripped v)).kind ≡ is_required (out-Node v).kind
required-kept v h =
    ap (λ z. is_required (out-Node (stripped z)).kind) (sym (roll-out-Node v))
    ∙ required-by (out-Node v).span (out-Node v).kind (out-Node v).children (ref-kind (out-Node v).kind (shape-out v (one sort.TsModuleRef) h).0)

text-stays : (span : Span) (k : Kind) (cs : List Node) → belongs sort.Str k ≡ true → stays (node_of span k cs) ≡ true
unfolding value_by is_declared specifier_stays
text-stays span (kind.Str value raw) cs h = stays-roll span (kind.Str value raw) cs
text-stays span _ cs h = no h

pub argument-stays : (n : Node) → HasShape (one sort.Str) n → stays n ≡ true
argument-stays n h = ap stays (sym (roll-out-Node n)) ∙ text-stays (out-Node n).span (out-Node n).kind (out-Node n).children (shape-out n (one sort.Str) h).0

-- the children of a node of two, and of one
pub two-children : (t u : Shape) (cs : List Node) → HaveShapes (t ∷ u ∷ []) cs → (a : Node) × (b : Node) × (cs ≡ a ∷ b ∷ []) × HasShape t a × HasShape u b
two-children t u [] h = absurd h
two-children t u (a ∷ []) h = absurd h.1
two-children t u (a ∷ b ∷ []) h = (a, b, refl, h.0, h.1.0)
two-children t u (a ∷ b ∷ c ∷ cs) h = absurd h.1.1

pub one-child : (t : Shape) (cs : List Node) → HaveShapes (t ∷ []) cs → (a : Node) × (cs ≡ a ∷ []) × HasShape t a
one-child t [] h = absurd h
one-child t (a ∷ []) h = (a, refl, h.0)
one-child t (a ∷ b ∷ cs) h = absurd h.1

module _ (names : Names) (plains : PlainNames names) where
  abbrev Side : Node → Type 0
  Side n = (σ : Sort) → is_side σ ≡ true → HasShape (one σ) n → write names seat.Value (stripped n) ≡ stripped (write names seat.Value n)

  name-side : (span : Span) (text : List ℕ) (ctxt : ℕ) (optional : Bool) (cs : List Node)
      → write names seat.Value (stripped (node_of span (kind.Ident text ctxt optional) cs)) ≡ stripped (write names seat.Value (node_of span (kind.Ident text ctxt optional) cs))
  unfolding plain plain_kind plain_children
  name-side span text ctxt optional cs =
      let n = node_of span (kind.Ident text ctxt optional) cs in
      let bare = node_of span (kind.Ident text ctxt false) (map stripped cs) in
      let is : stripped n ≡ bare = stripped-other span (kind.Ident text ctxt optional) cs refl in
      ap (write names seat.Value) is
      ∙ rest-stays names seat.Value bare (ap rests (kind-roll span (kind.Ident text ctxt false) (map stripped cs)))
      ∙ sym (ap stripped (rest-stays names seat.Value n (ap rests (kind-roll span (kind.Ident text ctxt optional) cs))) ∙ is)

  qualified-side : (span : Span) (l r : Node) → write names seat.Value (stripped l) ≡ stripped (write names seat.Value l)
      → write names seat.Value (stripped (node_of span kind.TsQualifiedName (l ∷ r ∷ []))) ≡ stripped (write names seat.Value (node_of span kind.TsQualifiedName (l ∷ r ∷ [])))
  unfolding plain plain_kind plain_children
  qualified-side span l r same =
      ap (write names seat.Value) (plain-node span kind.TsQualifiedName (l ∷ r ∷ []) refl (λ ds. refl))
      ∙ qualified-out names span (stripped l) (stripped r)
      ∙ ap (λ z. node_of span kind.MemberExpr (z ∷ stripped r ∷ [])) same
      ∙ sym (plain-node span kind.MemberExpr (write names seat.Value l ∷ r ∷ []) refl (λ ds. refl))
      ∙ ap stripped (sym (qualified-out names span l r))

  required-side : (span : Span) (arg : Node) → HasShape (one sort.Str) arg
      → write names seat.Value (stripped (node_of span kind.TsExternalModuleRef (arg ∷ []))) ≡ stripped (write names seat.Value (node_of span kind.TsExternalModuleRef (arg ∷ [])))
  unfolding plain plain_kind plain_children
  required-side span arg h =
      ap (write names seat.Value) (plain-node span kind.TsExternalModuleRef (arg ∷ []) refl (λ ds. refl))
      ∙ required-out names span (stripped arg)
      ∙ sym (required-written names.required span arg plains (argument-stays arg h))
      ∙ ap stripped (sym (required-out names span arg))

  side-by : (span : Span) (k : Kind) (cs : List Node) (σ : Sort) → is_side_kind k ≡ true → ((i : ℕ) (c : Node) → slice_get cs i ≡ Some c → Side c) → HasShape (one σ) (node_of span k cs)
      → write names seat.Value (stripped (node_of span k cs)) ≡ stripped (write names seat.Value (node_of span k cs))
  side-by span (kind.Ident text ctxt optional) cs σ g each has = name-side span text ctxt optional cs
  side-by span kind.TsQualifiedName cs σ g each has =
      let parts = two-children (one sort.TsEntityName) (one sort.IdentName) cs ((node_has_shape span kind.TsQualifiedName cs (one σ)).0 has).1 in
      subst (λ z. write names seat.Value (stripped (node_of span kind.TsQualifiedName z)) ≡ stripped (write names seat.Value (node_of span kind.TsQualifiedName z))) (sym parts.2)
      (qualified-side span parts.0 parts.1 (each 0 parts.0 (ap (λ (z : List Node). slice_get z 0) parts.2) sort.TsEntityName refl parts.3))
  side-by span kind.TsExternalModuleRef cs σ g each has =
      let parts = one-child (one sort.Str) cs ((node_has_shape span kind.TsExternalModuleRef cs (one σ)).0 has).1 in
      subst (λ z. write names seat.Value (stripped (node_of span kind.TsExternalModuleRef z)) ≡ stripped (write names seat.Value (node_of span kind.TsExternalModuleRef z))) (sym parts.1)
      (required-side span parts.0 parts.2)
  side-by span _ cs σ g each has = no g

  side-node : (span : Span) (k : Kind) (cs : List Node) → ((i : ℕ) (c : Node) → slice_get cs i ≡ Some c → Side c) → Side (node_of span k cs)
  side-node span k cs each σ g has = side-by span k cs σ (side-kind σ k g ((node_has_shape span k cs (one σ)).0 has).0) each has

  pub sides-commute : (v : Node) → HasShape (one sort.TsModuleRef) v → write names seat.Value (stripped v) ≡ stripped (write names seat.Value v)
  sides-commute v h = by-parts Side side-node v sort.TsModuleRef refl h
