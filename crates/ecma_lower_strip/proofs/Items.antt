-- An item of a module as it is written, and without types.
use Rattle.std.proofs.Common.{◌≡◌, ◌∙◌, ◌⊎◌, inl, inr, Bool, true, false, ◌&&◌, ◌||◌, refl, sym, ap, subst, List, [], ◌∷◌, map, length}
use Rattle.ecma_kind.specs.Sorts.{belongs}
use Rattle.ecma_kind.specs.declared.kind.Kind.{Kind}
use Rattle.ecma_kind.specs.declared.kind.Kind.TheVariants as kind
use Rattle.ecma_kind.specs.declared.shapes.Sort.TheVariants as sort
use Rattle.ecma_kind.specs.declared.span.Span.{Span}
use Rattle.ecma_tree.specs.Laws.{HaveShapes}
use Rattle.ecma_tree.specs.Nodes.{node_of}
use Rattle.ecma_tree.specs.Sorted.{HasShape, child_shapes, is_list, one}
use Rattle.ecma_tree.specs.Values.{value_by}
use Rattle.ecma_tree.specs.declared.node.Node.{Node, Node-F, out-Node}
use Rattle.ecma_tree.specs.declared.node.Node.TheViews.{out-roll-Node, roll-out-Node}
use Rattle.ecma_utils.specs.Directives.{is_special_call, is_text}
use Rattle.ecma_strip.specs.Staying.{is_declared, specifier_stays, stays}
use Rattle.ecma_strip.specs.Stripping.{plain, plain_children, plain_kind, stripped}
use Rattle.ecma_strip_rewriting.specs.Commuting.{is_full}
use Rattle.ecma_strip_rewriting.proofs.PlainKinds.{full-roll, no, shape-out, stripped-other}
use Rattle.ecma_strip_rewriting.proofs.Stays.{kind-roll, stays-roll}
use Rattle.ecma_lower.specs.declared.names.Names.{Names}
use Rattle.ecma_lower.specs.declared.seat.Seat.TheVariants as seat
use Rattle.ecma_lower.specs.Assignments.{is_export_assignment, is_export_by, is_import_by, is_required, is_required_import}
use Rattle.ecma_lower.specs.Writing.{export_of, import_of}
use Rattle.ecma_lower.proofs.Singles.{write}
use Rattle.ecma_lower_strip.proofs.Plain.{Lasts, PlainNames, export-lasts, front-roll, front_by, import-lasts, is_front, lasts-so, plain-node, plain-written-export, plain-written-import, written-export-lasts, written-import-lasts}
use Rattle.ecma_lower_strip.proofs.Resting.{export-out, import-out, one-child, required-kept, rest-stays, rests, sides-commute, two-children}

-- ---- what an item is

abbrev pub as_import : Bool → Kind
as_import e = kind.TsImportEqualsDecl e false

-- an item at which nothing is written, an import of a value, or `export =`
abbrev pub Item : Node → Type 0
Item n = (rests (out-Node n).kind ≡ true)
    ⊎ (((span : Span) × (e : Bool) × (a : Node) × (b : Node) × (n ≡ node_of span (as_import e) (a ∷ b ∷ [])) × HasShape (one sort.Ident) a × HasShape (one sort.TsModuleRef) b)
    ⊎ ((span : Span) × (e : Node) × (n ≡ node_of span kind.TsExportAssignment (e ∷ []))))

item-kind : (k : Kind) → belongs sort.ModuleItem k ≡ true → (rests k ≡ true) ⊎ (((e : Bool) × (k ≡ as_import e)) ⊎ (k ≡ kind.TsExportAssignment))
item-kind (kind.Module shebang) h = no h
item-kind kind.List h = no h
item-kind (kind.TsImportEqualsDecl e false) h = inr (inl (e, refl))
item-kind kind.TsExportAssignment h = inr (inr refl)
item-kind kind.TsQualifiedName h = no h
item-kind kind.TsExternalModuleRef h = no h
item-kind kind.TsTypeAssertion h = no h
item-kind kind.TsConstAssertion h = no h
item-kind kind.TsNonNullExpr h = no h
item-kind kind.TsAsExpr h = no h
item-kind kind.TsInstantiation h = no h
item-kind kind.TsSatisfiesExpr h = no h
item-kind _ h = inl refl

pub rolled : (n : Node) (k : Kind) → (out-Node n).kind ≡ k → n ≡ node_of (out-Node n).span k (out-Node n).children
rolled n k is = sym (roll-out-Node n) ∙ ap (λ z. node_of (out-Node n).span z (out-Node n).children) is

item-by : (n : Node) → HaveShapes (child_shapes (out-Node n).kind (one sort.ModuleItem) (length (out-Node n).children)) (out-Node n).children
    → (rests (out-Node n).kind ≡ true) ⊎ (((e : Bool) × ((out-Node n).kind ≡ as_import e)) ⊎ ((out-Node n).kind ≡ kind.TsExportAssignment)) → Item n
item-by n have (inl r) = inl r
item-by n have (inr (inl (e, is))) =
    let cs = (out-Node n).children in
    let two = two-children (one sort.Ident) (one sort.TsModuleRef) cs (subst (λ k. HaveShapes (child_shapes k (one sort.ModuleItem) (length cs)) cs) is have) in
    inr (inl ((out-Node n).span, e, two.0, two.1, rolled n (as_import e) is ∙ ap (node_of (out-Node n).span (as_import e)) two.2, two.3, two.4))
item-by n have (inr (inr is)) =
    let cs = (out-Node n).children in
    let single = one-child (one sort.Expr) cs (subst (λ k. HaveShapes (child_shapes k (one sort.ModuleItem) (length cs)) cs) is have) in
    inr (inr ((out-Node n).span, single.0, rolled n kind.TsExportAssignment is ∙ ap (node_of (out-Node n).span kind.TsExportAssignment) single.1))

pub item-is : (n : Node) → HasShape (one sort.ModuleItem) n → Item n
item-is n h = let parts = shape-out n (one sort.ModuleItem) h in item-by n parts.1 (item-kind (out-Node n).kind parts.0)

-- ---- an item without types

item-plain : (span : Span) (k : Kind) (cs : List Node) → belongs sort.ModuleItem k ≡ true → (plain span k cs ≡ node_of span k (plain_children k cs)) × (is_list k ≡ false)
unfolding plain plain_kind
item-plain span kind.List cs h = no h
item-plain span kind.TsTypeAnn cs h = no h
item-plain span kind.TsType cs h = no h
item-plain span kind.TsTypeParamDecl cs h = no h
item-plain span kind.TsTypeParamInstantiation cs h = no h
item-plain span kind.TsTypeAssertion cs h = no h
item-plain span kind.TsConstAssertion cs h = no h
item-plain span kind.TsNonNullExpr cs h = no h
item-plain span kind.TsAsExpr cs h = no h
item-plain span kind.TsInstantiation cs h = no h
item-plain span kind.TsSatisfiesExpr cs h = no h
item-plain span (kind.Ident sym ctxt optional) cs h = no h
item-plain span (kind.ArrayPat optional) cs h = no h
item-plain span (kind.ObjectPat optional) cs h = no h
item-plain span (kind.VarDeclarator definite) cs h = no h
item-plain span (kind.Class is_abstract) cs h = no h
item-plain span (kind.Constructor accessibility is_optional) cs h = no h
item-plain span (kind.ClassMethod k modifiers) cs h = no h
item-plain span (kind.PrivateMethod k modifiers) cs h = no h
item-plain span (kind.ClassProp modifiers readonly declare definite) cs h = no h
item-plain span (kind.PrivateProp modifiers readonly declare definite) cs h = no h
item-plain span _ cs h = (refl, refl)

-- it keeps its kind
pub kind-kept : (n : Node) → HasShape (one sort.ModuleItem) n → (out-Node (stripped n)).kind ≡ (out-Node n).kind
kind-kept n h =
    let k = (out-Node n).kind in
    let cs = (out-Node n).children in
    let is = item-plain (out-Node n).span k (map stripped cs) (shape-out n (one sort.ModuleItem) h).0 in
    ap (λ z. (out-Node (stripped z)).kind) (sym (roll-out-Node n))
    ∙ ap (λ z. (out-Node z).kind) (stripped-other (out-Node n).span k cs is.1 ∙ is.0)
    ∙ kind-roll (out-Node n).span k (plain_children k (map stripped cs))

plain-import : (span : Span) (e : Bool) (a b : Node) → stripped (node_of span (as_import e) (a ∷ b ∷ [])) ≡ node_of span (as_import e) (stripped a ∷ stripped b ∷ [])
unfolding plain plain_kind plain_children
plain-import span e a b = plain-node span (as_import e) (a ∷ b ∷ []) refl (λ ds. refl)

plain-export : (span : Span) (e : Node) → stripped (node_of span kind.TsExportAssignment (e ∷ [])) ≡ node_of span kind.TsExportAssignment (stripped e ∷ [])
unfolding plain plain_kind plain_children
plain-export span e = plain-node span kind.TsExportAssignment (e ∷ []) refl (λ ds. refl)

-- ---- what is written

-- what is written of an item that is none of the three stays; of the others all is known
pub record Alike (names : Names) (n : Node) : Type 0 where
  -- it is written without types as with them
  pub commutes : write names seat.Item (stripped n) ≡ stripped (write names seat.Item n)
  -- what is written stays in a list, is no empty statement and is a directive exactly where the item is and does
  pub stays : stays (write names seat.Item n) ≡ stays n
  pub full : is_full (write names seat.Item (stripped n)) ≡ is_full (stripped n)
  pub front : is_front (write names seat.Item n) ≡ is_front n
  pub bare_front : is_front (write names seat.Item (stripped n)) ≡ is_front (stripped n)

module _ (names : Names) (plains : PlainNames names) where
  abbrev to : Node → Node
  to = write names seat.Item

  -- of an item and what stands for it without types, where both last and so does what is written of them
  lasting : (n m : Node) → stripped n ≡ m → Lasts n → Lasts m → Lasts (to n) → Lasts (to m) → to m ≡ stripped (to n) → Alike names n
  lasting n m is here bare there bare-there same = record {
    commutes = ap to is ∙ same;
    stays = there.stays ∙ sym here.stays;
    full = ap (λ z. is_full (to z)) is ∙ bare-there.full ∙ sym (ap is_full is ∙ bare.full);
    front = there.front ∙ sym here.front;
    bare_front = ap (λ z. is_front (to z)) is ∙ bare-there.front ∙ sym (ap is_front is ∙ bare.front);
  }

  import-alike : (span : Span) (e : Bool) (a b : Node) → HasShape (one sort.Ident) a → HasShape (one sort.TsModuleRef) b → Alike names (node_of span (as_import e) (a ∷ b ∷ []))
  import-alike span e a b ha hb =
      let n = node_of span (as_import e) (a ∷ b ∷ []) in
      let m = node_of span (as_import e) (stripped a ∷ stripped b ∷ []) in
      let q = is_required (out-Node b).kind in
      let v = write names seat.Value b in
      let there : to n ≡ import_of names q e span (a ∷ v ∷ []) = import-out names span e a b in
      let bare-there : to m ≡ import_of names q e span (stripped a ∷ stripped v ∷ []) =
      import-out names span e (stripped a) (stripped b)
      ∙ ap (λ r. import_of names r e span (stripped a ∷ write names seat.Value (stripped b) ∷ [])) (required-kept b hb)
      ∙ ap (λ w. import_of names q e span (stripped a ∷ w ∷ [])) (sides-commute names plains b hb) in
      lasting n m (plain-import span e a b) (import-lasts span e (a ∷ b ∷ [])) (import-lasts span e (stripped a ∷ stripped b ∷ []))
      (lasts-so (to n) (import_of names q e span (a ∷ v ∷ [])) there (written-import-lasts names q e span a v))
      (lasts-so (to m) (import_of names q e span (stripped a ∷ stripped v ∷ [])) bare-there (written-import-lasts names q e span (stripped a) (stripped v)))
      (bare-there ∙ sym (plain-written-import names q e span a v ha) ∙ ap stripped (sym there))

  export-alike : (span : Span) (e : Node) → Alike names (node_of span kind.TsExportAssignment (e ∷ []))
  export-alike span e =
      let n = node_of span kind.TsExportAssignment (e ∷ []) in
      let m = node_of span kind.TsExportAssignment (stripped e ∷ []) in
      let there : to n ≡ export_of names.free span (e ∷ []) = export-out names span e in
      let bare-there : to m ≡ export_of names.free span (stripped e ∷ []) = export-out names span (stripped e) in
      lasting n m (plain-export span e) (export-lasts span (e ∷ [])) (export-lasts span (stripped e ∷ []))
      (lasts-so (to n) (export_of names.free span (e ∷ [])) there (written-export-lasts names.free span e))
      (lasts-so (to m) (export_of names.free span (stripped e ∷ [])) bare-there (written-export-lasts names.free span (stripped e)))
      (bare-there ∙ sym (plain-written-export names.free span e) ∙ ap stripped (sym there))

  rest-alike : (n : Node) → rests (out-Node n).kind ≡ true → rests (out-Node (stripped n)).kind ≡ true → Alike names n
  rest-alike n r bare =
      let is = rest-stays names seat.Item n r in
      let bare-is = rest-stays names seat.Item (stripped n) bare in
      record {
        commutes = bare-is ∙ ap stripped (sym is);
        stays = ap stays is;
        full = ap is_full bare-is;
        front = ap is_front is;
        bare_front = ap is_front bare-is;
      }

  pub items-alike : (n : Node) → HasShape (one sort.ModuleItem) n → Alike names n
  items-alike n h = by (item-is n h)
    where
      by : Item n → Alike names n
      by (inl r) = rest-alike n r (ap rests (kind-kept n h) ∙ r)
      by (inr (inl (span, e, a, b, is, ha, hb))) = subst (Alike names) (sym is) (import-alike span e a b ha hb)
      by (inr (inr (span, e, is))) = subst (Alike names) (sym is) (export-alike span e)

-- ---- what is asked of items

pub export-kept : (n : Node) → HasShape (one sort.ModuleItem) n → is_export_assignment (stripped n) ≡ is_export_assignment n
export-kept n h = ap is_export_by (kind-kept n h)

-- of a list that loses what goes and what is empty, this is kept
abbrev pub keeps : Node → Bool
keeps n = stays n && is_full (stripped n)

pub keeps-so : (n : Node) → stays n ≡ true → is_full (stripped n) ≡ true → keeps n ≡ true
keeps-so n h g = ap (λ b. b && is_full (stripped n)) h ∙ g

-- an import of a required module is one without types, and is kept
pub record Requires (n : Node) : Type 0 where
  pub same : is_required_import (stripped n) ≡ is_required_import n
  pub kept : is_required_import n ≡ true → keeps n ≡ true

required-roll : (span : Span) (k : Kind) (cs : List Node) → is_required_import (node_of span k cs) ≡ is_import_by k cs
required-roll span k cs = let parts : Node-F Node = record { span = span; kind = k; children = cs } in ap (λ (z : Node-F Node). is_import_by z.kind z.children) (out-roll-Node parts)

rests-required : (k : Kind) (cs : List Node) → rests k ≡ true → is_import_by k cs ≡ false
rests-required (kind.TsImportEqualsDecl e false) cs h = no h
rests-required _ cs h = refl

never : {X : Type 0} (b : Bool) → b ≡ false → b ≡ true → X
never b f t = no (sym f ∙ t)

pub requires-alike : (n : Node) → HasShape (one sort.ModuleItem) n → Requires n
requires-alike n h = by (item-is n h)
  where
    import-requires : (span : Span) (e : Bool) (a b : Node) → HasShape (one sort.TsModuleRef) b → Requires (node_of span (as_import e) (a ∷ b ∷ []))
    import-requires span e a b hb = record {
      same = ap is_required_import (plain-import span e a b) ∙ required-roll span (as_import e) (stripped a ∷ stripped b ∷ []) ∙ required-kept b hb ∙ sym (required-roll span (as_import e) (a ∷ b ∷ []));
      kept = λ r. keeps-so (node_of span (as_import e) (a ∷ b ∷ [])) (import-lasts span e (a ∷ b ∷ [])).stays (ap is_full (plain-import span e a b) ∙ (import-lasts span e (stripped a ∷ stripped b ∷ [])).full);
    }

    export-requires : (span : Span) (e : Node) → Requires (node_of span kind.TsExportAssignment (e ∷ []))
    export-requires span e =
        let is = required-roll span kind.TsExportAssignment (e ∷ []) in
        record {
          same = ap is_required_import (plain-export span e) ∙ required-roll span kind.TsExportAssignment (stripped e ∷ []) ∙ sym is;
          kept = λ r. never (is_required_import (node_of span kind.TsExportAssignment (e ∷ []))) is r;
        }

    by : Item n → Requires n
    by (inl r) =
        let none : is_required_import n ≡ false = rests-required (out-Node n).kind (out-Node n).children r in
        record {
          same = rests-required (out-Node (stripped n)).kind (out-Node (stripped n)).children (ap rests (kind-kept n h) ∙ r) ∙ sym none;
          kept = λ t. never (is_required_import n) none t;
        }
    by (inr (inl (span, e, a, b, is, ha, hb))) = subst Requires (sym is) (import-requires span e a b hb)
    by (inr (inr (span, e, is))) = subst Requires (sym is) (export-requires span e)

-- ---- directives

-- a directive is one without types, and is kept
pub record Fronts (n : Node) : Type 0 where
  pub bare : is_front (stripped n) ≡ true
  pub kept : keeps n ≡ true

either : (b c : Bool) → (b || (false && c)) ≡ true → b ≡ true
either true c h = refl
either false c h = h

front-parts : (k : Kind) (cs : List Node) → front_by k cs ≡ true → (a : Node) × (others : List Node) × (k ≡ kind.ExprStmt) × (cs ≡ a ∷ others) × (is_text (out-Node a).kind ≡ true)
front-parts kind.ExprStmt [] h = no h
front-parts kind.ExprStmt (a ∷ others) h = (a, others, refl, refl, either (is_text (out-Node a).kind) (is_special_call a) h)
front-parts _ cs h = no h

text-by : (span : Span) (k : Kind) (cs : List Node) → is_text k ≡ true → is_text (out-Node (stripped (node_of span k cs))).kind ≡ true
unfolding plain plain_kind plain_children
text-by span (kind.Str value raw) cs h = ap (λ z. is_text (out-Node z).kind) (stripped-other span (kind.Str value raw) cs refl) ∙ ap is_text (kind-roll span (kind.Str value raw) (map stripped cs))
text-by span _ cs h = no h

text-kept : (a : Node) → is_text (out-Node a).kind ≡ true → is_text (out-Node (stripped a)).kind ≡ true
text-kept a h = ap (λ z. is_text (out-Node (stripped z)).kind) (sym (roll-out-Node a)) ∙ text-by (out-Node a).span (out-Node a).kind (out-Node a).children h

stmt-fronts : (span : Span) (a : Node) (others : List Node) → is_text (out-Node a).kind ≡ true → Fronts (node_of span kind.ExprStmt (a ∷ others))
unfolding plain plain_kind plain_children value_by is_declared specifier_stays
stmt-fronts span a others h =
    let is = plain-node span kind.ExprStmt (a ∷ others) refl (λ ds. refl) in
    record {
      bare = ap is_front is ∙ front-roll span kind.ExprStmt (stripped a ∷ map stripped others) ∙ ap (λ b. b || (false && is_special_call (stripped a))) (text-kept a h);
      kept = keeps-so (node_of span kind.ExprStmt (a ∷ others)) (stays-roll span kind.ExprStmt (a ∷ others)) (ap is_full is ∙ full-roll span kind.ExprStmt (stripped a ∷ map stripped others));
    }

pub fronts-so : (n : Node) → is_front n ≡ true → Fronts n
fronts-so n h =
    let parts = front-parts (out-Node n).kind (out-Node n).children h in
    let is : n ≡ node_of (out-Node n).span kind.ExprStmt (parts.0 ∷ parts.1) = rolled n kind.ExprStmt parts.2 ∙ ap (node_of (out-Node n).span kind.ExprStmt) parts.3 in
    subst Fronts (sym is) (stmt-fronts (out-Node n).span parts.0 parts.1 parts.4)
