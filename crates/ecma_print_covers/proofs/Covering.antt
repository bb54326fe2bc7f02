-- The raw tree of a finished one is laid out as this is.
use Rattle.std.proofs.Common.{◌≡◌, ◌∙◌, refl, sym, ap, ap₂, subst, ltb, not, ◌||◌, ◌&&◌, ℕ, zero, suc, Bool, true, false, List, [], ◌∷◌, map, codes, slice_get}
use Rattle.ecma_kind.specs.declared.operators.AssignOp.TheVariants.{Assign}
use Rattle.ecma_kind.specs.declared.kind.Kind.{Kind}
use Rattle.ecma_kind.specs.declared.kind.Kind.TheVariants as kind
use Rattle.ecma_kind.specs.declared.shapes.Sort.TheVariants as sort
use Rattle.ecma_kind.specs.declared.span.Span.{Span}
use Rattle.ecma_tree.specs.declared.node.Node.{Node, Node-F, out-Node}
use Rattle.ecma_tree.specs.declared.node.Node.TheViews.{out-roll-Node, roll-out-Node}
use Rattle.ecma_tree.specs.Nodes.{node_of}
use Rattle.ecma_tree.specs.Sorted.{HasShape, child_shapes, one}
use Rattle.ecma_tree.specs.Laws.{HaveShapes}
use Rattle.ecma_kind.specs.declared.shapes.Shape.{Shape}
use Rattle.ecma_tree.proofs.ShapeLaws.{node_has_shape}
use Rattle.ecma_print.specs.declared.place.Between.TheVariants as between
use Rattle.ecma_print.specs.declared.place.Place.TheVariants as place
use Rattle.ecma_print.specs.declared.place.Spot.{Spot}
use Rattle.ecma_print.specs.Laid.{is_object_pattern}
use Rattle.ecma_print.specs.Layout.{laid, whole}
use Rattle.ecma_print.specs.Levels.{in_parentheses}
use Rattle.ecma_print.specs.Pieces.{say, ◌>>◌}
use Rattle.ecma_print.specs.Places.{free, opens_a_block}
use Rattle.ecma_print.proofs.LaidOut.{laid_kind_of-node}
use Rattle.ecma_print.specs.Spots.{first_spots, further_spot}
use Rattle.ecma_print_parentheses.proofs.Asking.{Fits}
use Rattle.ecma_rules.specs.declared.target.Target.{Target}
use Rattle.ecma_rules.specs.declared.target.Target.TheVariants as target
use Rattle.ecma_rules.specs.Children.{kind_of, of_kind}
use Rattle.ecma_rules.specs.Targets.{takes_patterns, target_in}
use Rattle.ecma_rules.specs.Finishing.{each_in}
use Rattle.ecma_covers.specs.Covering.{cover_at, cover_in}
use Rattle.ecma_covers.specs.Placing.{Stands, EachStands, array, object, bound, default, rest_element, rest_property, key_value, short, short_default, other, none, more, as_read}
use Rattle.ecma_covers.proofs.Uncovering.{array_covered, asks_same, binding_covered, binding_node, cover_node, default_name, each_same, kept, literal_asks, name_node, object_covered, short_name}
use Rattle.ecma_print_covers.specs.Laws.{CoversKeepTheLayout}
use Rattle.ecma_print_covers.specs.Defaults.{has_usual_default, is_default, takes_default}
use Rattle.ecma_print_covers.proofs.Givens.{AllGiven, Given, children_given, has_shapes, is_usual, stands_bare, template_has_lists}
use Rattle.ecma_print_covers.proofs.Layers.{in_place_alike, is_one, laid_in, layer_alike, turned_alike}
use Rattle.ecma_print_covers.proofs.Pairs.{AllAlike, IsAlike, Pair, TemplateHasLists, afters, befores, spot_in}
use Rattle.ecma_print_covers.proofs.Seats.{children_seated, pattern_opens_no_block}
use Rattle.ecma_print_covers.proofs.Texts.{expression_is_one, is_tight, tight_alone, within_alone}

-- two nodes under other names
abbrev IsCovered : Target → Spot → Node → Type 0
IsCovered t spot n = IsAlike spot (record { before = n; after = cover_at n t })

renamed : (spot : Spot) (a b b' : Node) → b' ≡ b → IsAlike spot (record { before = a; after = b }) → IsAlike spot (record { before = a; after = b' })
renamed spot a b b' e h = subst (λ x. IsAlike spot (record { before = a; after = x })) (sym e) h

-- this is asked of the first child, and nothing of the others
abbrev first_asked : Target → ℕ → Target
first_asked t zero = t
first_asked t (suc i) = target.Free

abbrev second_asked : Target → ℕ → Target
second_asked t zero = target.Free
second_asked t (suc i) = first_asked t i

tight : (spot : Spot) → Fits spot → (ltb 17 spot.level || false) ≡ false
tight spot fits = ap (λ b. b || false) fits

tight_block : (spot : Spot) → Fits spot → opens_a_block spot.begins ≡ false → (ltb 17 spot.level || opens_a_block spot.begins) ≡ false
tight_block spot fits begins = ap₂ (λ a b. a || b) fits begins

array_alike : (t : Target) → takes_patterns t ≡ true → (at of_type : Span) (elements : Node) (spot : Spot) → Fits spot → IsCovered target.Elements (free 1) elements → IsCovered t spot (node_of at (kind.ArrayPat false) (elements ∷ node_of of_type kind.Absent [] ∷ []))
unfolding cover_in target_in
array_alike t h at of_type elements spot fits e =
    renamed spot _ (node_of at kind.ArrayLit (cover_at elements target.Elements ∷ [])) _
    (cover_node at (kind.ArrayPat false) (elements ∷ node_of of_type kind.Absent [] ∷ []) t ∙ array_covered t h at (cover_at elements _) (cover_at (node_of of_type kind.Absent []) target.Free)
    ∙ ap (λ asked. node_of at kind.ArrayLit (cover_at elements asked ∷ [])) (literal_asks t target.Elements h))
    (turned_alike at at (kind.ArrayPat false) kind.ArrayLit (elements ∷ node_of of_type kind.Absent [] ∷ []) (cover_at elements target.Elements ∷ []) spot refl refl refl refl refl (λ is. absurd (cc))
    (λ p is. in_place_alike (kind.ArrayPat false) kind.ArrayLit (map laid (elements ∷ node_of of_type kind.Absent [] ∷ [])) (map laid (cover_at elements target.Elements ∷ [])) refl refl refl refl refl p (tight (spot_in p) (subst Fits (sym is) fits)) (tight (spot_in p) (subst Fits (sym is) fits)) (e.at place.Brackets refl)))

object_alike : (t : Target) → takes_patterns t ≡ true → (at of_type : Span) (properties : Node) (spot : Spot) → Fits spot → opens_a_block spot.begins ≡ false → IsCovered target.Properties (free 1) properties
    → IsCovered t spot (node_of at (kind.ObjectPat false) (properties ∷ node_of of_type kind.Absent [] ∷ []))
unfolding cover_in target_in
object_alike t h at of_type properties spot fits begins e =
    renamed spot _ (node_of at kind.ObjectLit (cover_at properties target.Properties ∷ [])) _
    (cover_node at (kind.ObjectPat false) (properties ∷ node_of of_type kind.Absent [] ∷ []) t ∙ object_covered t h at (cover_at properties _) (cover_at (node_of of_type kind.Absent []) target.Free)
    ∙ ap (λ asked. node_of at kind.ObjectLit (cover_at properties asked ∷ [])) (literal_asks t target.Properties h))
    (turned_alike at at (kind.ObjectPat false) kind.ObjectLit (properties ∷ node_of of_type kind.Absent [] ∷ []) (cover_at properties target.Properties ∷ []) spot refl refl refl refl refl (λ is. absurd (cc))
    (λ p is. in_place_alike (kind.ObjectPat false) kind.ObjectLit (map laid (properties ∷ node_of of_type kind.Absent [] ∷ [])) (map laid (cover_at properties target.Properties ∷ [])) refl refl refl refl refl p (tight (spot_in p) (subst Fits (sym is) fits))
    (tight_block (spot_in p) (subst Fits (sym is) fits) (subst (λ s. opens_a_block s.begins ≡ false) (sym is) begins)) (e.at place.Braces refl)))

-- the text of a name that is bound
bound_text : (at of_name of_type : Span) (word : List ℕ) (ctxt : ℕ) (optional : Bool) → (laid (binding_node at of_name of_type word ctxt optional)).at (place.At (free 1)) ≡ say word
bound_text at of_name of_type word ctxt optional =
    laid_in at kind.BindingIdent (name_node of_name word ctxt optional ∷ node_of of_type kind.Absent [] ∷ []) (place.At (free 1)) ∙ laid_in of_name (kind.Ident word ctxt optional) [] (place.At (free 1))

bound_alike : (at of_name of_type : Span) (word : List ℕ) (ctxt : ℕ) (optional : Bool) (spot : Spot) → Fits spot
    → IsAlike spot (record { before = binding_node at of_name of_type word ctxt optional; after = name_node of_name word ctxt optional })
bound_alike at of_name of_type word ctxt optional spot fits =
    turned_alike at of_name kind.BindingIdent (kind.Ident word ctxt optional) (name_node of_name word ctxt optional ∷ node_of of_type kind.Absent [] ∷ []) [] spot refl refl refl refl refl (λ is. absurd (cc))
    (λ p is. in_place_alike kind.BindingIdent (kind.Ident word ctxt optional) (map laid (name_node of_name word ctxt optional ∷ node_of of_type kind.Absent [] ∷ [])) [] refl refl refl refl refl p (tight (spot_in p) (subst Fits (sym is) fits)) (tight (spot_in p) (subst Fits (sym is) fits))
    (sym (laid_in of_name (kind.Ident word ctxt optional) [] (place.At (free 1)))))

-- what takes a default is tight, as it is read
tight_kind : (k : Kind) → as_read target.Part k ≡ true → takes_default k ≡ true → is_tight k ≡ true
tight_kind kind.BindingIdent h d = absurd (cc)
tight_kind (kind.ArrayPat optional) h d = absurd (cc)
tight_kind (kind.ObjectPat optional) h d = absurd (cc)
tight_kind kind.Absent h d = refl
tight_kind (kind.Ident sym ctxt optional) h d = refl
tight_kind kind.RestPat h d = refl
tight_kind kind.MemberExpr h d = refl
tight_kind kind.SuperPropExpr h d = refl
tight_kind kind.ParenExpr h d = refl
tight_kind kind.TsTypeAssertion h d = refl
tight_kind kind.TsConstAssertion h d = refl
tight_kind kind.TsNonNullExpr h d = refl
tight_kind kind.TsAsExpr h d = refl
tight_kind kind.TsInstantiation h d = refl
tight_kind kind.TsSatisfiesExpr h d = refl
tight_kind _ h d = absurd (cc)

kind_at : (at : Span) (k : Kind) (ns : List Node) → kind_of (node_of at k ns) ≡ k
kind_at at k ns = ap (λ p. p.kind) (out-roll-Node (record { span = at; kind = k; children = ns }))

covered_other : (t : Target) (at : Span) (k : Kind) (ns : List Node) → as_read t k ≡ true → cover_at (node_of at k ns) t ≡ node_of at k (each_in (target_in t k) (map cover_at ns))
covered_other t at k ns h =
    cover_node at k ns t ∙ (kept t (record { span = at; kind = k; children = each_in (cover_in t k) (map cover_at ns) }) h).0
    ∙ ap (node_of at k) (each_same (cover_in t k) (target_in t k) (λ i. asks_same t k i h) (map cover_at ns))

covered_is_tight : {t : Target} {n : Node} → Stands t n → t ≡ target.Part → takes_default (kind_of n) ≡ true → is_tight (kind_of (cover_at n t)) ≡ true
unfolding cover_in target_in
covered_is_tight (array {t} h at of_type {elements} s) e d =
    ap (λ n. is_tight (kind_of n)) (cover_node at (kind.ArrayPat false) (elements ∷ node_of of_type kind.Absent [] ∷ []) t ∙ array_covered t h at (cover_at elements _) (cover_at (node_of of_type kind.Absent []) target.Free))
    ∙ ap is_tight (kind_at at kind.ArrayLit _)
covered_is_tight (object {t} h at of_type {properties} s) e d =
    ap (λ n. is_tight (kind_of n)) (cover_node at (kind.ObjectPat false) (properties ∷ node_of of_type kind.Absent [] ∷ []) t ∙ object_covered t h at (cover_at properties _) (cover_at (node_of of_type kind.Absent []) target.Free))
    ∙ ap is_tight (kind_at at kind.ObjectLit _)
covered_is_tight (bound {t} h at of_name of_type word ctxt optional) e d =
    ap (λ n. is_tight (kind_of n)) (binding_covered t h at of_name of_type word ctxt optional) ∙ ap is_tight (kind_at of_name (kind.Ident word ctxt optional) [])
covered_is_tight (other {t} at k {children} h each) e d =
    ap (λ n. is_tight (kind_of n)) (covered_other t at k children h) ∙ ap is_tight (kind_at at k _) ∙ tight_kind k (subst (λ u. as_read u k ≡ true) e h) (sym (ap takes_default (kind_at at k children)) ∙ d)
covered_is_tight _ e d = absurd (cc)

-- a spot of a pattern is that of an element
abbrev element_spot : Spot
element_spot = free 1

default_alike : (at : Span) (part value : Node) → is_tight (kind_of (cover_at part target.Part)) ≡ true → is_one (kind_of value) ≡ true → IsCovered target.Part element_spot part → IsCovered target.Free element_spot value
    → IsCovered target.Element element_spot (node_of at kind.AssignPat (part ∷ value ∷ []))
unfolding cover_in target_in
default_alike at part value tight_part one_value p v =
    renamed element_spot _ (node_of at (kind.AssignExpr Assign) (cover_at part target.Part ∷ cover_at value target.Free ∷ [])) _ (cover_node at kind.AssignPat (part ∷ value ∷ []) target.Element)
    (turned_alike at at kind.AssignPat (kind.AssignExpr Assign) (part ∷ value ∷ []) (cover_at part target.Part ∷ cover_at value target.Free ∷ []) element_spot refl refl refl refl refl (λ is. absurd (cc))
    (λ q is. in_place_alike kind.AssignPat (kind.AssignExpr Assign) (map laid (part ∷ value ∷ [])) (map laid (cover_at part target.Part ∷ cover_at value target.Free ∷ [])) refl refl refl refl refl q
    (subst (λ s. in_parentheses kind.AssignPat (map laid (part ∷ value ∷ [])) s ≡ false) (sym is) refl)
    (subst (λ s. in_parentheses (kind.AssignExpr Assign) (map laid (cover_at part target.Part ∷ cover_at value target.Free ∷ [])) s ≡ false) (sym is) refl)
    (subst (λ s. whole (kind.AssignExpr Assign) (map laid (cover_at part target.Part ∷ cover_at value target.Free ∷ [])) s ≡ whole kind.AssignPat (map laid (part ∷ value ∷ [])) s) (sym is)
    ((λ i. (tight_alone (cover_at part target.Part) tight_part ∙ p.at (place.At element_spot) refl) i >> say (codes " = ") >> v.at (place.At element_spot) refl i)
    ∙ (λ i. (laid part).at (place.At element_spot) >> sym (within_alone value between.Equals element_spot one_value) i)))))

rest_alike : (t u : Target) (at of_type : Span) (part : Node) → cover_at (node_of at kind.RestPat (part ∷ node_of of_type kind.Absent [] ∷ [])) t ≡ node_of at kind.SpreadElement (cover_at part u ∷ []) → IsCovered u element_spot part
    → IsCovered t element_spot (node_of at kind.RestPat (part ∷ node_of of_type kind.Absent [] ∷ []))
rest_alike t u at of_type part e p =
    renamed element_spot _ (node_of at kind.SpreadElement (cover_at part u ∷ [])) _ e
    (turned_alike at at kind.RestPat kind.SpreadElement (part ∷ node_of of_type kind.Absent [] ∷ []) (cover_at part u ∷ []) element_spot refl refl refl refl refl (λ is. absurd (cc))
    (λ q is. in_place_alike kind.RestPat kind.SpreadElement (map laid (part ∷ node_of of_type kind.Absent [] ∷ [])) (map laid (cover_at part u ∷ [])) refl refl refl refl refl q
    (subst (λ s. in_parentheses kind.RestPat (map laid (part ∷ node_of of_type kind.Absent [] ∷ [])) s ≡ false) (sym is) refl) (subst (λ s. in_parentheses kind.SpreadElement (map laid (cover_at part u ∷ [])) s ≡ false) (sym is) refl)
    (λ i. say (codes "...") >> p.at (place.At element_spot) refl i)))

pair_alike : (at : Span) (key value : Node) → IsCovered target.Free element_spot key → IsCovered target.Element element_spot value → IsCovered target.Property element_spot (node_of at kind.KeyValuePatProp (key ∷ value ∷ []))
unfolding cover_in target_in
pair_alike at key value a b =
    renamed element_spot _ (node_of at kind.KeyValueProp (cover_at key target.Free ∷ cover_at value target.Element ∷ [])) _ (cover_node at kind.KeyValuePatProp (key ∷ value ∷ []) target.Property)
    (turned_alike at at kind.KeyValuePatProp kind.KeyValueProp (key ∷ value ∷ []) (cover_at key target.Free ∷ cover_at value target.Element ∷ []) element_spot refl refl refl refl refl (λ is. absurd (cc))
    (λ q is. in_place_alike kind.KeyValuePatProp kind.KeyValueProp (map laid (key ∷ value ∷ [])) (map laid (cover_at key target.Free ∷ cover_at value target.Element ∷ [])) refl refl refl refl refl q
    (subst (λ s. in_parentheses kind.KeyValuePatProp (map laid (key ∷ value ∷ [])) s ≡ false) (sym is) refl) (subst (λ s. in_parentheses kind.KeyValueProp (map laid (cover_at key target.Free ∷ cover_at value target.Element ∷ [])) s ≡ false) (sym is) refl)
    (λ i. a.at (place.At element_spot) refl i >> say (codes ": ") >> b.at (place.At element_spot) refl i)))

short_alike : (at of_binding of_name of_type of_value : Span) (word : List ℕ) (ctxt : ℕ) (optional : Bool)
    → IsCovered target.Property element_spot (node_of at kind.AssignPatProp (binding_node of_binding of_name of_type word ctxt optional ∷ node_of of_value kind.Absent [] ∷ []))
short_alike at of_binding of_name of_type of_value word ctxt optional =
    let b = binding_node of_binding of_name of_type word ctxt optional in
    renamed element_spot _ (name_node of_name word ctxt optional) _ (short_name at of_binding of_name of_type of_value word ctxt optional)
    (turned_alike at of_name kind.AssignPatProp (kind.Ident word ctxt optional) (b ∷ node_of of_value kind.Absent [] ∷ []) [] element_spot refl refl refl refl refl (λ is. absurd (cc))
    (λ q is. in_place_alike kind.AssignPatProp (kind.Ident word ctxt optional) (map laid (b ∷ node_of of_value kind.Absent [] ∷ [])) [] refl refl refl refl refl q
    (subst (λ s. in_parentheses kind.AssignPatProp (map laid (b ∷ node_of of_value kind.Absent [] ∷ [])) s ≡ false) (sym is) refl) (subst (λ s. in_parentheses (kind.Ident word ctxt optional) [] s ≡ false) (sym is) refl)
    (λ i. sym (bound_text of_binding of_name of_type word ctxt optional) i >> sym (laid_in of_value kind.Absent [] (place.Within between.Equals element_spot)) i)))

short_default_alike : (at of_binding of_name of_type : Span) (word : List ℕ) (ctxt : ℕ) (optional : Bool) (value : Node)
    → cover_at (node_of at kind.AssignPatProp (binding_node of_binding of_name of_type word ctxt optional ∷ value ∷ [])) target.Property ≡ node_of at kind.AssignProp (name_node of_name word ctxt optional ∷ cover_at value target.Free ∷ [])
    → IsCovered target.Free element_spot value → IsCovered target.Property element_spot (node_of at kind.AssignPatProp (binding_node of_binding of_name of_type word ctxt optional ∷ value ∷ []))
short_default_alike at of_binding of_name of_type word ctxt optional value e v =
    let b = binding_node of_binding of_name of_type word ctxt optional in
    let name = name_node of_name word ctxt optional in
    renamed element_spot _ (node_of at kind.AssignProp (name ∷ cover_at value target.Free ∷ [])) _ e
    (turned_alike at at kind.AssignPatProp kind.AssignProp (b ∷ value ∷ []) (name ∷ cover_at value target.Free ∷ []) element_spot refl refl refl refl refl (λ is. absurd (cc))
    (λ q is. in_place_alike kind.AssignPatProp kind.AssignProp (map laid (b ∷ value ∷ [])) (map laid (name ∷ cover_at value target.Free ∷ [])) refl refl refl refl refl q
    (subst (λ s. in_parentheses kind.AssignPatProp (map laid (b ∷ value ∷ [])) s ≡ false) (sym is) refl) (subst (λ s. in_parentheses kind.AssignProp (map laid (name ∷ cover_at value target.Free ∷ [])) s ≡ false) (sym is) refl)
    (λ i. (laid_in of_name (kind.Ident word ctxt optional) [] (place.At element_spot) ∙ sym (bound_text of_binding of_name of_type word ctxt optional)) i >> v.at (place.Within between.Equals element_spot) refl i)))

-- children that are asked, each with what covers it
abbrev pairs : (ℕ → Target) → List Node → List Pair
pairs asked [] = []
pairs asked (n ∷ ns) = record { before = n; after = cover_at n (asked 0) } ∷ pairs (λ i. asked (suc i)) ns

befores-are : (asked : ℕ → Target) (ns : List Node) → befores (pairs asked ns) ≡ ns
befores-are asked [] = refl
befores-are asked (n ∷ ns) = ap (λ rest. n ∷ rest) (befores-are (λ i. asked (suc i)) ns)

afters-are : (asked : ℕ → Target) (ns : List Node) → afters (pairs asked ns) ≡ each_in asked (map cover_at ns)
afters-are asked [] = refl
afters-are asked (n ∷ ns) = ap (λ rest. cover_at n (asked 0) ∷ rest) (afters-are (λ i. asked (suc i)) ns)

-- a node that is itself there
other_alike : (t : Target) (at : Span) (k : Kind) (ns : List Node) (spot : Spot) → as_read t k ≡ true → (g : Given t spot (node_of at k ns))
    → AllAlike (pairs (target_in t k) ns) (first_spots k (map laid ns) spot) (further_spot k spot) → IsCovered t spot (node_of at k ns)
other_alike t at k ns spot h g all =
    let asked = target_in t k in
    let ps = pairs asked ns in
    let back = sym (befores-are asked ns) in
    subst (λ pair. IsAlike spot pair) (λ i. record { before = node_of at k (befores-are asked ns i); after = (ap (node_of at k) (afters-are asked ns) ∙ sym (covered_other t at k ns h)) i })
    (layer_alike at k ps spot
    (subst (λ (b : List Node). AllAlike ps (first_spots k (map laid b) spot) (further_spot k spot)) back all)
    (subst (λ (b : List Node). TemplateHasLists k b) back (template_has_lists k ns g.shape (has_shapes t spot at k ns g)))
    (subst (λ (b : List Node). in_parentheses k (map laid b) spot ≡ false) back (stands_bare t spot at k ns g)))

twice_not : (b : Bool) → not (true && not b) ≡ true → b ≡ true
twice_not true h = refl
twice_not false h = absurd (cc)

-- an expression is one node
of_expression : (n : Node) → HasShape (one sort.Expr) n → is_one (kind_of n) ≡ true
of_expression n h =
    let x = out-Node n in
    expression_is_one x.kind ((node_has_shape x.span x.kind x.children (one sort.Expr)).0 (subst (HasShape (one sort.Expr)) (sym (roll-out-Node n)) h)).0

usual_part : (at : Span) (part value : Node) → has_usual_default (node_of at kind.AssignPat (part ∷ value ∷ [])) ≡ true → takes_default (kind_of part) ≡ true
usual_part at part value h =
    twice_not (takes_default (kind_of part)) (sym (ap (λ (p : Node-F Node). not (is_default p.kind && not (of_kind takes_default (slice_get p.children 0)))) (out-roll-Node (record { span = at; kind = kind.AssignPat; children = part ∷ value ∷ [] }))) ∙ h)

value_is_one : (part value : Node) (shape : Shape) → HaveShapes (child_shapes kind.AssignPat shape 2) (part ∷ value ∷ []) → is_one (kind_of value) ≡ true
value_is_one part value shape h = of_expression value h.1.0

mutual
  unfolding cover_in target_in

  alike : {t : Target} {n : Node} → Stands t n → (spot : Spot) → Given t spot n → IsCovered t spot n
  alike (array {t} h at of_type {elements} s) spot g =
      let kids = children_given t spot at (kind.ArrayPat false) (elements ∷ node_of of_type kind.Absent [] ∷ []) g (first_asked target.Elements) (refl, (tt, tt)) in
      array_alike t h at of_type elements spot g.fits (alike s (free 1) kids.0)
  alike (object {t} h at of_type {properties} s) spot g =
      let n = node_of at (kind.ObjectPat false) (properties ∷ node_of of_type kind.Absent [] ∷ []) in
      let kids = children_given t spot at (kind.ObjectPat false) (properties ∷ node_of of_type kind.Absent [] ∷ []) g (first_asked target.Properties) (refl, (tt, tt)) in
      object_alike t h at of_type properties spot g.fits (pattern_opens_no_block t h spot n (ap is_object_pattern (laid_kind_of-node at (kind.ObjectPat false) (properties ∷ node_of of_type kind.Absent [] ∷ []))) g.seated) (alike s (free 1) kids.0)
  alike (bound {t} h at of_name of_type word ctxt optional) spot g =
      renamed spot _ (name_node of_name word ctxt optional) _ (binding_covered t h at of_name of_type word ctxt optional) (bound_alike at of_name of_type word ctxt optional spot g.fits)
  alike (default at {part} {value} s v) spot g =
      let kids = children_given target.Element spot at kind.AssignPat (part ∷ value ∷ []) g (first_asked target.Part) (refl, (tt, tt)) in
      subst (λ place. IsCovered target.Element place (node_of at kind.AssignPat (part ∷ value ∷ []))) (sym g.seated)
      (default_alike at part value (covered_is_tight s refl (usual_part at part value (is_usual target.Element spot at kind.AssignPat (part ∷ value ∷ []) g)))
      (value_is_one part value g.shape (has_shapes target.Element spot at kind.AssignPat (part ∷ value ∷ []) g)) (alike s (free 1) kids.0) (alike v (free 1) kids.1.0))
  alike (rest_element at of_type {part} s) spot g =
      let kids = children_given target.Element spot at kind.RestPat (part ∷ node_of of_type kind.Absent [] ∷ []) g (first_asked target.Part) (refl, (tt, tt)) in
      subst (λ place. IsCovered target.Element place (node_of at kind.RestPat (part ∷ node_of of_type kind.Absent [] ∷ []))) (sym g.seated)
      (rest_alike target.Element target.Part at of_type part (cover_node at kind.RestPat (part ∷ node_of of_type kind.Absent [] ∷ []) target.Element) (alike s (free 1) kids.0))
  alike (rest_property at of_type {part} s) spot g =
      let kids = children_given target.Property spot at kind.RestPat (part ∷ node_of of_type kind.Absent [] ∷ []) g (first_asked target.Rest) (refl, (tt, tt)) in
      subst (λ place. IsCovered target.Property place (node_of at kind.RestPat (part ∷ node_of of_type kind.Absent [] ∷ []))) (sym g.seated)
      (rest_alike target.Property target.Rest at of_type part (cover_node at kind.RestPat (part ∷ node_of of_type kind.Absent [] ∷ []) target.Property) (alike s (free 1) kids.0))
  alike (key_value at {key} {value} k s) spot g =
      let kids = children_given target.Property spot at kind.KeyValuePatProp (key ∷ value ∷ []) g (second_asked target.Element) (tt, (refl, tt)) in
      subst (λ place. IsCovered target.Property place (node_of at kind.KeyValuePatProp (key ∷ value ∷ []))) (sym g.seated) (pair_alike at key value (alike k (free 1) kids.0) (alike s (free 1) kids.1.0))
  alike (short at of_binding of_name of_type of_value word ctxt optional) spot g =
      subst (λ place. IsCovered target.Property place (node_of at kind.AssignPatProp (binding_node of_binding of_name of_type word ctxt optional ∷ node_of of_value kind.Absent [] ∷ []))) (sym g.seated)
      (short_alike at of_binding of_name of_type of_value word ctxt optional)
  alike (short_default at of_binding of_name of_type word ctxt optional {value} there v) spot g =
      let b = binding_node of_binding of_name of_type word ctxt optional in
      let kids = children_given target.Property spot at kind.AssignPatProp (b ∷ value ∷ []) g (λ i. target.Free) (tt, (tt, tt)) in
      subst (λ place. IsCovered target.Property place (node_of at kind.AssignPatProp (b ∷ value ∷ []))) (sym g.seated)
      (short_default_alike at of_binding of_name of_type word ctxt optional value (default_name at of_binding of_name of_type word ctxt optional value there) (alike v (free 1) kids.1.0))
  alike (other {t} at k {children} h each) spot g =
      let seats = children_seated t k children spot g.shape (node_of at k children) h (stands_bare t spot at k children g) (has_shapes t spot at k children g) g.seated in
      other_alike t at k children spot h g (all_alike (target_in t k) each (first_spots k (map laid children) spot) (further_spot k spot) (children_given t spot at k children g (target_in t k) seats))

  all_alike : (asked : ℕ → Target) {ns : List Node} → EachStands asked ns → (spots : List Spot) (further : Spot) → AllGiven asked ns spots further → AllAlike (pairs asked ns) spots further
  all_alike asked none spots further g = tt
  all_alike asked (more s rest) [] further g = (alike s further g.0, all_alike (λ i. asked (suc i)) rest [] further g.1)
  all_alike asked (more s rest) (spot ∷ spots) further g = (alike s spot g.0, all_alike (λ i. asked (suc i)) rest spots further g.1)

pub covers_keep_the_layout : CoversKeepTheLayout
covers_keep_the_layout tree sorted stands usual lacks =
    ap (λ piece. piece [] []) ((alike stands (free 0) (record { fits = refl; complete = lacks; shape = one sort.Module; shaped = sorted; usual = usual; seated = tt })).at (place.At (free 0)) refl)
