-- A sorted tree with other texts and contexts is sorted, and its function expressions have bodies.
use Rattle.std.proofs.Common.{◌≡◌, ℕ, zero, suc, Bool, true, false, ◌||◌, cond, List, [], ◌∷◌, map, length, replicate, Option, Some, None, bytes_eq, refl, sym, ap, ◌∙◌, subst, slice_get}
use Rattle.ecma_kind.specs.Sorts.{belongs}
use Rattle.ecma_kind.specs.declared.kind.Kind.{Kind}
use Rattle.ecma_kind.specs.declared.kind.Kind.TheVariants as kind
use Rattle.ecma_kind.specs.declared.shapes.Count.{Count}
use Rattle.ecma_kind.specs.declared.shapes.Count.TheVariants.{One, Maybe, Many, MaybeMany, Holes}
use Rattle.ecma_kind.specs.declared.shapes.Shape.{Shape}
use Rattle.ecma_kind.specs.declared.shapes.Sort.{Sort}
use Rattle.ecma_kind.specs.declared.shapes.Sort.TheVariants as sort
use Rattle.ecma_kind.specs.declared.span.Span.{Span}
use Rattle.ecma_tree.specs.declared.node.Node.{Node, Node-F, ind-Node, out-Node, roll-Node}
use Rattle.ecma_tree.specs.declared.node.Node.TheViews.{out-roll-Node, roll-out-Node}
use Rattle.ecma_tree.specs.Laws.{HaveShapes}
use Rattle.ecma_tree.specs.Nodes.{node_of}
use Rattle.ecma_tree.specs.Sorted.{HasShape, allows, allows_by, child_shapes, is_absent, item_shape, maybe, one}
use Rattle.ecma_tree.proofs.ShapeLaws.{node_has_shape}
use Rattle.ecma_runs.specs.Evaluation.{meaning, meaning_by}
use Rattle.ecma_runs.specs.Meaning.{Meaning}
use Rattle.ecma_runs.proofs.Layer.{meaning_out}
use Rattle.ecma_scope.specs.Resolved.{is_name}
use Rattle.ecma_scope_congruence.specs.Bodies.{AllHaveBodies, HasBodies, is_function_expression}
use Rattle.ecma_scope_congruence.specs.Bodies.AllHaveBodies.{more, none}
use Rattle.ecma_scope_congruence.specs.Bodies.HasBodies.{with_bodies}
use Rattle.ecma_hygiene.specs.declared.spot.Spot.{Spot}
use Rattle.ecma_hygiene.specs.declared.spot.Spot.TheVariants as spot
use Rattle.ecma_hygiene.specs.declared.spot.Standing.{Standing}
use Rattle.ecma_hygiene.specs.Renamed.{Texts, key_of, kind_is_absent, name_of, property_key, proto, proto_in_brackets, proto_literal, old_name, shared_by, shorthand, spot_in, standing_in, with_default}
use Rattle.ecma_hygiene.proofs.Telling.{true-false}
use Rattle.ecma_hygiene_scopes.proofs.Growing.{OldName, grown, grown_by}
use Rattle.ecma_hygiene_scopes.proofs.KindsTurned.{kind-same, turned_kind}
use Rattle.ecma_hygiene_scopes.proofs.Values.{own-value}
use Rattle.ecma_hygiene_scopes.proofs.Written.{again, again-out, all_again, children_again, old_of, own_kind}
use Rattle.ecma_strip_scopes.proofs.Going.{parts-have}
use Rattle.ecma_pipeline_runs.proofs.FullParts.{full_by, is_full, lacks}
use Rattle.ecma_pipeline_runs.proofs.Nodes.{none-some, not-false, not-true, test-below}
use Rattle.ecma_pipeline_runs.proofs.Plainness.{full-lacks}
use Rattle.ecma_tree.specs.Values.{is_value, value_by, values_in}
use Rattle.ecma_tree.proofs.Valuing.{is_value-out, is_value_where-roll}

-- ---- function expressions of what is full are values

block-by : (b : Node) (k : Kind) (vs : List Bool) (ms : List Meaning) → allows (maybe sort.BlockStmt) k ≡ true → (meaning_by b k ms).is_absent ≡ false → value_by k vs ≡ true
unfolding value_by
block-by b kind.Absent vs ms a h = absurd (true-false refl h)
block-by b kind.BlockStmt vs ms a h = refl
block-by b _ vs ms a h = absurd (true-false a refl)

block-valued : (b : Node) → HasShape (maybe sort.BlockStmt) b → (meaning b).is_absent ≡ false → is_value b ≡ true
block-valued b has h =
    is_value-out b
    ∙ block-by b (out-Node b).kind (values_in true (out-Node b).kind (out-Node b).children) (map meaning (out-Node b).children) (parts-have b (maybe sort.BlockStmt) has).0 (sym (ap (λ (m : Meaning). m.is_absent) (meaning_out b)) ∙ h)

function-by : (f : Node) (k : Kind) (cs : List Node) → allows (one sort.Function) k ≡ true → HaveShapes (child_shapes k (one sort.Function) (length cs)) cs → (meaning_by f k (map meaning cs)).has_body ≡ true → value_by k (values_in true k cs) ≡ true
unfolding value_by
function-by f (kind.Function g a) (p ∷ b ∷ t ∷ r ∷ []) is have h = block-valued b have.1.0 (not-true (meaning b).is_absent h)
function-by f (kind.Function g a) [] is have h = absurd have
function-by f (kind.Function g a) (p ∷ []) is have h = absurd have.1
function-by f (kind.Function g a) (p ∷ b ∷ []) is have h = absurd have.1.1
function-by f (kind.Function g a) (p ∷ b ∷ t ∷ []) is have h = absurd have.1.1.1
function-by f (kind.Function g a) (p ∷ b ∷ t ∷ r ∷ u ∷ cs) is have h = absurd have.1.1.1.1
function-by f _ cs is have h = absurd (true-false is refl)

function-valued : (f : Node) → HasShape (one sort.Function) f → (meaning f).has_body ≡ true → is_value f ≡ true
function-valued f has h =
    let parts = parts-have f (one sort.Function) has in
    is_value-out f ∙ function-by f (out-Node f).kind (out-Node f).children parts.0 parts.1 (sym (ap (λ (m : Meaning). m.has_body) (meaning_out f)) ∙ h)

expression-by : (k : Kind) (s : Shape) (m : ℕ) (cs : List Node) → is_function_expression k ≡ true → HaveShapes (child_shapes k s m) cs → lacks k (map meaning cs) ≡ false → value_by k (values_in true k cs) ≡ true
unfolding value_by
expression-by kind.FnExpr s m (a ∷ f ∷ []) is have l = function-valued f have.1.0 (not-false (meaning f).has_body l)
expression-by kind.FnExpr s m [] is have l = absurd have
expression-by kind.FnExpr s m (a ∷ []) is have l = absurd have.1
expression-by kind.FnExpr s m (a ∷ f ∷ g ∷ cs) is have l = absurd have.1.1
expression-by _ s m cs is have l = absurd (true-false is refl)

expression-valued : (n : Node) (s : Shape) → HasShape s n → is_full n ≡ true → is_function_expression (out-Node n).kind ≡ true → is_value n ≡ true
expression-valued n s has full is = is_value-out n ∙ expression-by (out-Node n).kind s (length (out-Node n).children) (out-Node n).children is (parts-have n s has).1 (full-lacks n full)

-- ---- kinds

ident-belongs : (σ : Sort) (s t : List ℕ) (c d : ℕ) (o : Bool) → belongs σ (kind.Ident s c o) ≡ belongs σ (kind.Ident t d o)
ident-belongs sort.Program s t c d o = refl
ident-belongs _ s t c d o = refl

ident-allowed : (count : Count) (σ : Sort) (s t : List ℕ) (c d : ℕ) (o : Bool) → allows_by count σ (kind.Ident s c o) ≡ allows_by count σ (kind.Ident t d o)
ident-allowed One σ s t c d o = ident-belongs σ s t c d o
ident-allowed Maybe σ s t c d o = ident-belongs σ s t c d o
ident-allowed Many σ s t c d o = refl
ident-allowed MaybeMany σ s t c d o = refl
ident-allowed Holes σ s t c d o = refl

-- ---- where shorthands stand

abbrev Fits : Spot → Shape → Type 0
Fits spot.Property s = allows s kind.KeyValueProp ≡ true
Fits spot.Properties s = allows (item_shape s) kind.KeyValueProp ≡ true
Fits _ s = Unit {0}

abbrev FitFrom : (ℕ → Spot) → ℕ → List Shape → Type 0
FitFrom spots i [] = Unit {0}
FitFrom spots i (o ∷ os) = Fits (spots i) o × FitFrom spots (suc i) os

elsewhere : (spots : ℕ → Spot) (i : ℕ) (os : List Shape) → ((j : ℕ) → spots j ≡ spot.Elsewhere) → FitFrom spots i os
elsewhere spots i [] same = tt
elsewhere spots i (o ∷ os) same = (subst (λ (z : Spot). Fits z o) (sym (same i)) tt, elsewhere spots (suc i) os same)

properties : (spots : ℕ → Spot) (i m : ℕ) (o : Shape) → ((j : ℕ) → spots j ≡ spot.Property) → allows o kind.KeyValueProp ≡ true → FitFrom spots i (replicate m o)
properties spots i zero o same h = tt
properties spots i (suc m) o same h = (subst (λ (z : Spot). Fits z o) (sym (same i)) h, properties spots (suc i) m o same h)

fit-children : (sp : Spot) (k : Kind) (s : Shape) (m : ℕ) → Fits sp s → FitFrom (spot_in sp k) 0 (child_shapes k s m)
fit-children spot.Properties kind.List s m h = properties (spot_in spot.Properties kind.List) 0 m (item_shape s) (λ j. refl) h
fit-children spot.Properties kind.ObjectLit s m h = (refl, tt)
fit-children spot.Properties k s m h = elsewhere (spot_in spot.Properties k) 0 (child_shapes k s m) (λ j. refl)
fit-children spot.Property kind.ObjectLit s m h = (refl, tt)
fit-children spot.Property k s m h = elsewhere (spot_in spot.Property k) 0 (child_shapes k s m) (λ j. refl)
fit-children spot.Elsewhere kind.ObjectLit s m h = (refl, tt)
fit-children spot.Elsewhere k s m h = elsewhere (spot_in spot.Elsewhere k) 0 (child_shapes k s m) (λ j. refl)

-- ---- nodes that are made

abbrev Made : Shape → Node → Type 0
Made s n = HasShape s n × HasBodies n

make : (s : Shape) (span : Span) (k : Kind) (cs : List Node) → allows s k ≡ true → HaveShapes (child_shapes k s (length cs)) cs → AllHaveBodies cs → (is_function_expression k ≡ true → is_value (node_of span k cs) ≡ true) → Made s (node_of span k cs)
make s span k cs a have bodies valued = ((node_has_shape span k cs s).1 (a, have), with_bodies span k valued bodies)

key-made : (old : OldName) → Made (one sort.PropName) (key_of old)
key-made old = make (one sort.PropName) old.span (kind.IdentName old.text) [] refl tt none (λ h. absurd (true-false h refl))

text-made : (span : Span) → Made (one sort.Expr) (node_of span proto_literal [])
text-made span = make (one sort.Expr) span proto_literal [] refl tt none (λ h. absurd (true-false h refl))

brackets-made : (span : Span) → Made (one sort.PropName) (proto_in_brackets span)
brackets-made span =
    make (one sort.PropName) span kind.ComputedPropName (node_of span proto_literal [] ∷ []) refl ((text-made span).0, tt) (more (text-made span).1 none) (λ h. absurd (true-false h refl))

key-made-by : (b : Bool) (old : OldName) → Made (one sort.PropName) (cond b (proto_in_brackets old.span) (key_of old))
key-made-by true old = brackets-made old.span
key-made-by false old = key-made old

property-key-made : (old : OldName) → Made (one sort.PropName) (property_key old)
property-key-made old = key-made-by (bytes_eq old.text proto) old

name-made : (old : OldName) → Made (maybe sort.ModuleExportName) (name_of old)
name-made old = make (maybe sort.ModuleExportName) old.span (kind.Ident old.text 0 false) [] refl tt none (λ h. absurd (true-false h refl))

pattern-sort : (σ : Sort) → belongs σ kind.AssignPatProp ≡ true → belongs σ kind.KeyValuePatProp ≡ true
pattern-sort sort.Program h = absurd (true-false h refl)
pattern-sort _ h = cc

pattern-allowed : (c : Count) (σ : Sort) → allows_by c σ kind.AssignPatProp ≡ true → allows_by c σ kind.KeyValuePatProp ≡ true
pattern-allowed One σ h = pattern-sort σ h
pattern-allowed Maybe σ h = pattern-sort σ h
pattern-allowed Many σ h = h
pattern-allowed MaybeMany σ h = h
pattern-allowed Holes σ h = h

binding-by : (k : Kind) (cs : List Node) → belongs sort.BindingIdent k ≡ true → HaveShapes (child_shapes k (one sort.BindingIdent) (length cs)) cs → (belongs sort.Pat k ≡ true) × HaveShapes (child_shapes k (one sort.Pat) (length cs)) cs
binding-by kind.BindingIdent cs b have = (refl, have)
binding-by _ cs b have = absurd (true-false b refl)

out-shape : (n : Node) (s : Shape) → allows s (out-Node n).kind ≡ true → HaveShapes (child_shapes (out-Node n).kind s (length (out-Node n).children)) (out-Node n).children → HasShape s n
out-shape n s a have = subst (HasShape s) (roll-out-Node n) ((node_has_shape (out-Node n).span (out-Node n).kind (out-Node n).children s).1 (a, have))

binding-pattern : (p : Node) → HasShape (one sort.BindingIdent) p → HasShape (one sort.Pat) p
binding-pattern p has =
    let parts = parts-have p (one sort.BindingIdent) has in
    let to = binding-by (out-Node p).kind (out-Node p).children parts.0 parts.1 in
    out-shape p (one sort.Pat) to.0 to.1

value-by-kind : (k : Kind) (cs : List Node) → is_absent k ≡ false → (is_absent k || belongs sort.Expr k) ≡ true → HaveShapes (child_shapes k (maybe sort.Expr) (length cs)) cs
    → (belongs sort.Expr k ≡ true) × HaveShapes (child_shapes k (one sort.Expr) (length cs)) cs
value-by-kind kind.List cs e b have = absurd (true-false b refl)
value-by-kind kind.SeqExpr [] e b have = (refl, have)
value-by-kind kind.SeqExpr (c ∷ cs) e b have = (refl, have)
value-by-kind kind.Absent cs e b have = absurd (true-false refl e)
value-by-kind _ cs e b have = (b, have)

value-there : (v : Node) → kind_is_absent v ≡ false → HasShape (maybe sort.Expr) v → HasShape (one sort.Expr) v
value-there v e has =
    let parts = parts-have v (maybe sort.Expr) has in
    let to = value-by-kind (out-Node v).kind (out-Node v).children e parts.0 parts.1 in
    out-shape v (one sort.Expr) to.0 to.1

default-by : (b : Bool) (span : Span) (p v : Node) → kind_is_absent v ≡ b → Made (one sort.BindingIdent) p → Made (maybe sort.Expr) v → Made (one sort.Pat) (cond b p (node_of span kind.AssignPat (p ∷ v ∷ [])))
default-by true span p v e hp hv = (binding-pattern p hp.0, hp.1)
default-by false span p v e hp hv =
    make (one sort.Pat) span kind.AssignPat (p ∷ v ∷ []) refl (binding-pattern p hp.0, (value-there v e hv.0, tt)) (more hp.1 (more hv.1 none)) (λ h. absurd (true-false h refl))

abbrev is_ident : Kind → Bool
is_ident (kind.Ident s c o) = true
is_ident k = false

grown-some : (old : OldName) (span : Span) (s : Shape) (k : Kind) (cs : List Node) → allows s k ≡ true → HaveShapes (child_shapes k s (length cs)) cs → AllHaveBodies cs → (is_function_expression k ≡ true → is_value (node_of span k cs) ≡ true)
    → (is_ident k ≡ true → allows s kind.KeyValueProp ≡ true) → Made s (grown_by old span k cs)
grown-some old span s (kind.Ident t c o) cs a have bodies valued fit =
    let id = make (one sort.Expr) span (kind.Ident t c o) cs refl have bodies valued in
    make s span kind.KeyValueProp (property_key old ∷ node_of span (kind.Ident t c o) cs ∷ []) (fit refl) ((property-key-made old).0, (id.0, tt)) (more (property-key-made old).1 (more id.1 none)) (λ h. absurd (true-false h refl))
grown-some old span s (kind.ImportNamedSpecifier t) (x ∷ y ∷ []) a have (more hx hs) valued fit =
    make s span (kind.ImportNamedSpecifier t) (x ∷ name_of old ∷ []) a (have.0, ((name-made old).0, tt)) (more hx (more (name-made old).1 none)) (λ h. absurd (true-false h refl))
grown-some old span s (kind.ImportNamedSpecifier t) [] a have bodies valued fit = absurd have
grown-some old span s (kind.ImportNamedSpecifier t) (x ∷ []) a have bodies valued fit = absurd have.1
grown-some old span s (kind.ImportNamedSpecifier t) (x ∷ y ∷ z ∷ cs) a have bodies valued fit = absurd have.1.1
grown-some old span s (kind.ExportNamedSpecifier t) (x ∷ y ∷ []) a have (more hx hs) valued fit =
    make s span (kind.ExportNamedSpecifier t) (x ∷ name_of old ∷ []) a (have.0, ((name-made old).0, tt)) (more hx (more (name-made old).1 none)) (λ h. absurd (true-false h refl))
grown-some old span s (kind.ExportNamedSpecifier t) [] a have bodies valued fit = absurd have
grown-some old span s (kind.ExportNamedSpecifier t) (x ∷ []) a have bodies valued fit = absurd have.1
grown-some old span s (kind.ExportNamedSpecifier t) (x ∷ y ∷ z ∷ cs) a have bodies valued fit = absurd have.1.1
grown-some old span s kind.AssignPatProp (x ∷ y ∷ []) a have (more hx (more hy hs)) valued fit =
    let pattern' = default-by (kind_is_absent y) span x y refl (have.0, hx) (have.1.0, hy) in
    make s span kind.KeyValuePatProp (key_of old ∷ with_default span x y ∷ []) (pattern-allowed s.count s.sort a) ((key-made old).0, (pattern'.0, tt)) (more (key-made old).1 (more pattern'.1 none)) (λ h. absurd (true-false h refl))
grown-some old span s kind.AssignPatProp [] a have bodies valued fit = absurd have
grown-some old span s kind.AssignPatProp (x ∷ []) a have bodies valued fit = absurd have.1
grown-some old span s kind.AssignPatProp (x ∷ y ∷ z ∷ cs) a have bodies valued fit = absurd have.1.1
grown-some old span s k cs a have bodies valued fit = make s span k cs a have bodies valued

-- ---- a tree

module _ (context_of : List ℕ → ℕ → ℕ) (texts : Texts) (empty : (text : List ℕ) → context_of text 0 ≡ 0) where
  allowed : (s : Shape) (named : Bool) (k : Kind) → allows s (turned_kind context_of texts named k) ≡ allows s k
  allowed s named k = kind-same context_of texts (allows s) (λ a b c d o. ident-allowed s.count s.sort a b c d o) named k

  asked : (s : Shape) (m : ℕ) (named : Bool) (k : Kind) → child_shapes (turned_kind context_of texts named k) s m ≡ child_shapes k s m
  asked s m named k = kind-same context_of texts (λ z. child_shapes z s m) (λ a b c d o. refl) named k

  expressive : (named : Bool) (k : Kind) → is_function_expression (turned_kind context_of texts named k) ≡ is_function_expression k
  expressive named k = kind-same context_of texts is_function_expression (λ a b c d o. refl) named k

  -- a shorthand stands where a property may
  ident-spot : (sp : Spot) (n : Node) (old : OldName) (s : Shape) → Fits sp s → old_name texts (shorthand sp n) ≡ Some old → allows s kind.KeyValueProp ≡ true
  ident-spot spot.Property n old s h e = h
  ident-spot spot.Properties n old s h e = none-some e
  ident-spot spot.Elsewhere n old s h e = none-some e

  ident-fits : (stands : Standing) (n : Node) (old : OldName) (s : Shape) (k : Kind) → is_ident k ≡ true → Fits stands.spot s → old_name texts (shared_by stands k n) ≡ Some old → allows s kind.KeyValueProp ≡ true
  unfolding shared_by
  ident-fits stands n old s (kind.Ident t c o) i fit e = ident-spot stands.spot n old s fit e
  ident-fits stands n old s _ i fit e = absurd (true-false i refl)

  grown-made : (n : Node) (stands : Standing) (s : Shape) (span : Span) (k : Kind) (cs : List Node) (o : Option OldName) → old_name texts (shared_by stands k n) ≡ o → Fits stands.spot s → allows s k ≡ true
      → HaveShapes (child_shapes k s (length cs)) cs → AllHaveBodies cs → (is_function_expression k ≡ true → is_value (node_of span (turned_kind context_of texts (is_name stands.role) k) cs) ≡ true)
      → Made s (grown o span (turned_kind context_of texts (is_name stands.role) k) cs)
  grown-made n stands s span k cs None e fit a have bodies valued =
      make s span (turned_kind context_of texts (is_name stands.role) k) cs (allowed s (is_name stands.role) k ∙ a) (subst (λ (os : List Shape). HaveShapes os cs) (sym (asked s (length cs) (is_name stands.role) k)) have) bodies
      (λ h. valued (sym (expressive (is_name stands.role) k) ∙ h))
  grown-made n stands s span k cs (Some old) e fit a have bodies valued =
      grown-some old span s (turned_kind context_of texts (is_name stands.role) k) cs (allowed s (is_name stands.role) k ∙ a) (subst (λ (os : List Shape). HaveShapes os cs) (sym (asked s (length cs) (is_name stands.role) k)) have) bodies
      (λ h. valued (sym (expressive (is_name stands.role) k) ∙ h))
      (λ h. ident-fits stands n old s k (sym (kind-same context_of texts is_ident (λ t u c d o. refl) (is_name stands.role) k) ∙ h) fit e)

  abbrev Kept : Node → Type 0
  Kept n = (s : Shape) (stands : Standing) → HasShape s n → is_full n ≡ true → Fits stands.spot s → Made s (again context_of texts n stands)

  record AllMade (os : List Shape) (cs made : List Node) : Type 0 where
    same : length made ≡ length cs
    have : HaveShapes os made
    bodies : AllHaveBodies made

  abbrev AllKept : List Node → Type 0
  AllKept cs = (os : List Shape) (stands : ℕ → Standing) (i : ℕ) → HaveShapes os cs → ((j : ℕ) (c : Node) → slice_get cs j ≡ Some c → is_full c ≡ true) → FitFrom (λ j. (stands j).spot) i os → AllMade os cs (all_again context_of texts stands i cs)

  all-kept : (ns : List ((n : Node) × Kept n)) → AllKept (map (λ e. e.0) ns)
  all-kept [] [] stands i have full fit = record { same = refl; have = tt; bodies = none }
  all-kept [] (o ∷ os) stands i have full fit = absurd have
  all-kept (n ∷ ns) [] stands i have full fit = absurd have
  all-kept (n ∷ ns) (o ∷ os) stands i have full fit =
      let first = n.1 o (stands i) have.0 (full 0 n.0 refl) fit.0 in
      let rest = all-kept ns os stands (suc i) have.1 (λ j c at. full (suc j) c at) fit.1 in
      record { same = ap (λ (l : ℕ). suc l) rest.same; have = (first.0, rest.have); bodies = more first.1 rest.bodies }

  layer-kept : (n : Node) → AllKept (out-Node n).children → Kept n
  layer-kept n children s stands has full fit =
      let k : Kind = (out-Node n).kind in
      let cs : List Node = (out-Node n).children in
      let parts = parts-have n s has in
      let made = children (child_shapes k s (length cs)) (standing_in stands n) 0 parts.1 (test-below full_by n full) (fit-children stands.spot k s (length cs) fit) in
      subst (Made s) (sym (again-out context_of texts empty n stands))
      (grown-made n stands s (out-Node n).span k (children_again context_of texts n stands) (old_of context_of texts n stands) refl fit parts.0
      (subst (λ (l : ℕ). HaveShapes (child_shapes k s l) (children_again context_of texts n stands)) (sym made.same) made.have) made.bodies
      (λ h. is_value_where-roll true (out-Node n).span (own_kind context_of texts n stands) (children_again context_of texts n stands) ∙ own-value context_of texts empty true n stands ∙ expression-valued n s has full h))

  pub kept : (n : Node) → Kept n
  kept = ind-Node Kept (λ x y is.
      layer-kept (roll-Node x) (subst AllKept (ap (λ (z : Node-F Node). z.children) is ∙ sym (ap (λ (z : Node-F Node). z.children) (out-roll-Node x))) (all-kept y.children)))
