-- Where each identifier of a tree passes a test, so does each of the tree written out; and identifiers are seen, or have the empty context.
use Rattle.std.proofs.Common.{◌≡◌, refl, sym, ap, ◌∙◌, subst, ℕ, suc, ◌==◌, List, [], ◌∷◌, map, Option, Some, None, Bool, true, false, cond, ◌&&◌, bytes_eq}
use Rattle.std.specs.List.{All, list_all, list_any}
use Rattle.std.proofs.lemmas.List.Elements.{All-head}
use Rattle.ecma_kind.specs.declared.kind.Kind.{Kind}
use Rattle.ecma_kind.specs.declared.kind.Kind.TheVariants as kind
use Rattle.ecma_kind.specs.declared.span.Span.{Span}
use Rattle.ecma_tree.specs.declared.node.Node.{Node, Node-F, fold-roll-Node, ind-Node, out-Node, roll-Node}
use Rattle.ecma_tree.specs.declared.node.Node.TheViews.{out-roll-Node, roll-out-Node}
use Rattle.ecma_tree.specs.Nodes.{node_of}
use Rattle.ecma_scope.specs.Resolved.{is_name}
use Rattle.ecma_scope.specs.Scopes.{is_there, role_by}
use Rattle.ecma_hygiene.specs.declared.sight.Sight.{Sight}
use Rattle.ecma_hygiene.specs.Ids.{declares}
use Rattle.ecma_hygiene.specs.Renamed.{kind_is_absent, proto, proto_in_brackets, proto_literal, with_default}
use Rattle.ecma_hygiene.specs.Sights.{Around, around_child, sight_by, sight_here, sights_at}
use Rattle.ecma_hygiene.specs.Walks.{gathered_from}
use Rattle.ecma_hygiene.proofs.Telling.{and-both, and-left, and-right}
use Rattle.ecma_hygiene.proofs.Walking.{gathered-out}
use Rattle.ecma_hygiene_scopes.proofs.Stopping.{All-first, All-second}
use Rattle.ecma_runs.specs.State.{Id}
use Rattle.ecma_runs.specs.Names.{ids_pass, passes_by, passes_here}
use Rattle.ecma_runs.proofs.Kept.{AllNodes}
use Rattle.ecma_runs.proofs.Standing.{Passes, passes_parts}
use Rattle.ecma_hygiene_runs.specs.WrittenOut.{identifier_by, key_node, leaf_text, name_node, other_by, other_out, out_by, pattern_by, pattern_with, properties_by, properties_out, property_by, property_key_node, property_out, written_out}
use Rattle.ecma_hygiene_runs.specs.FinalTexts.{all_named, has_name, is_named_at, is_outer}
use Rattle.ecma_hygiene_runs.proofs.Parts.{named-roll, out-roll, parts_of}

module _ (test : Id → Bool) where
  all-true : (cs : List Node) → AllNodes (Passes test) cs → list_all (λ b. b) (map (ids_pass test) cs) ≡ true
  all-true [] h = refl
  all-true (c ∷ cs) h = and-both (ids_pass test c) (list_all (λ b. b) (map (ids_pass test) cs)) h.0 (all-true cs h.1)

  pub pass-of : (span : Span) (k : Kind) (cs : List Node) → passes_by test k ≡ true → AllNodes (Passes test) cs → Passes test (node_of span k cs)
  pass-of span k cs h all = fold-roll-Node Bool (passes_here test) (parts_of span k cs) ∙ and-both (passes_by test k) (list_all (λ b. b) (map (ids_pass test) cs)) h (all-true cs all)

  pub parts-pass : (n : Node) → Passes test n → (passes_by test (out-Node n).kind ≡ true) × AllNodes (Passes test) (out-Node n).children
  parts-pass n h = passes_parts test (out-Node n) (ap (ids_pass test) (roll-out-Node n) ∙ h)

  module _ (outer : (text : List ℕ) → test (record { sym = text; ctxt = 0 }) ≡ true) where
    key-passes : (span : Span) (text : List ℕ) → Passes test (key_node span text)
    key-passes span text = pass-of span (kind.IdentName text) [] refl tt

    either : (b : Bool) (m n : Node) → Passes test m → Passes test n → Passes test (cond b m n)
    either true m n p q = p
    either false m n p q = q

    brackets-pass : (span : Span) → Passes test (proto_in_brackets span)
    brackets-pass span = pass-of span kind.ComputedPropName (node_of span proto_literal [] ∷ []) refl (pass-of span proto_literal [] refl tt, tt)

    property-key-passes : (span : Span) (text : List ℕ) → Passes test (property_key_node span text)
    property-key-passes span text = either (bytes_eq text proto) (proto_in_brackets span) (key_node span text) (brackets-pass span) (key-passes span text)

    name-passes : (span : Span) (text : List ℕ) → Passes test (name_node span text)
    name-passes span text = pass-of span (kind.Ident text 0 false) [] (outer text) tt

    property-by : (k : Kind) (span : Span) (n : Node) → Passes test n → Passes test (property_by k span n)
    property-by (kind.Ident text ctxt optional) span n h = pass-of span kind.KeyValueProp (property_key_node span text ∷ n ∷ []) refl (property-key-passes span text, (h, tt))
    property-by _ span n h = h

    properties-pass : (ns : List Node) → AllNodes (Passes test) ns → AllNodes (Passes test) (map property_out ns)
    properties-pass [] h = tt
    properties-pass (n ∷ ns) h = (property-by (out-Node n).kind (out-Node n).span n h.0, properties-pass ns h.1)

    properties-by : (parts : Node-F Node) (k : Kind) (n : Node) → AllNodes (Passes test) parts.children → Passes test n → Passes test (properties_by parts k n)
    properties-by parts kind.List n all h = pass-of parts.span kind.List (map property_out parts.children) refl (properties-pass parts.children all)
    properties-by parts _ n all h = h

    other-by : (k : Kind) (span : Span) (other : Node) → Passes test other → Passes test (other_by k span other)
    other-by (kind.Ident text ctxt optional) span other h = name-passes span text
    other-by _ span other h = h

    default-passes : (span : Span) (name default : Node) → Passes test name → Passes test default → Passes test (with_default span name default)
    default-passes span name default p q = either (kind_is_absent default) name (node_of span kind.AssignPat (name ∷ default ∷ [])) p (pass-of span kind.AssignPat (name ∷ default ∷ []) refl (p, (q, tt)))

    with-passes : (o : Option (List ℕ)) (place span : Span) (name default : Node) → Passes test name → Passes test default
        → Passes test (pattern_with o place span name default (parts_of span kind.AssignPatProp (name ∷ default ∷ [])))
    with-passes (Some text) place span name default p q =
        pass-of span kind.KeyValuePatProp (key_node place text ∷ with_default span name default ∷ []) refl (key-passes place text, (default-passes span name default p q, tt))
    with-passes None place span name default p q = pass-of span kind.AssignPatProp (name ∷ default ∷ []) refl (p, (q, tt))

    pattern-passes : (o : Option Node) (span : Span) (name default : Node) → Passes test name → Passes test default → Passes test (pattern_by o span name default (parts_of span kind.AssignPatProp (name ∷ default ∷ [])))
    pattern-passes (Some id) span name default p q = with-passes (leaf_text (out-Node id).kind (out-Node id).children) (out-Node id).span span name default p q
    pattern-passes None span name default p q = pass-of span kind.AssignPatProp (name ∷ default ∷ []) refl (p, (q, tt))

    layer-passes : (span : Span) (k : Kind) (cs : List Node) → passes_by test k ≡ true → AllNodes (Passes test) cs → Passes test (out_by k cs (parts_of span k cs))
    layer-passes span kind.ObjectLit (p ∷ others) h all =
        pass-of span kind.ObjectLit (properties_out p ∷ others) refl (properties-by (out-Node p) (out-Node p).kind p (parts-pass p all.0).1 all.0, all.1)
    layer-passes span (kind.ImportNamedSpecifier t) (name ∷ other ∷ []) h all =
        pass-of span (kind.ImportNamedSpecifier t) (name ∷ other_out name other ∷ []) refl (all.0, (either (kind_is_absent other) _ other (other-by (out-Node name).kind (out-Node name).span other all.1.0) all.1.0, tt))
    layer-passes span (kind.ExportNamedSpecifier t) (name ∷ other ∷ []) h all =
        pass-of span (kind.ExportNamedSpecifier t) (name ∷ other_out name other ∷ []) refl (all.0, (either (kind_is_absent other) _ other (other-by (out-Node name).kind (out-Node name).span other all.1.0) all.1.0, tt))
    layer-passes span kind.AssignPatProp (name ∷ default ∷ []) h all = pattern-passes (identifier_by (out-Node name).kind (out-Node name).children) span name default all.0 all.1.0
    layer-passes span k cs h all = pass-of span k cs h all

    abbrev Passed : Node → Type 0
    Passed n = Passes test n → Passes test (written_out n)

    all-passed : (ns : List ((n : Node) × Passed n)) → AllNodes (Passes test) (map (λ e. e.0) ns) → AllNodes (Passes test) (map written_out (map (λ e. e.0) ns))
    all-passed [] h = tt
    all-passed (n ∷ ns) h = (n.1 h.0, all-passed ns h.1)

    -- written out, a tree passes
    pub out-passes : (n : Node) → Passed n
    out-passes = ind-Node Passed (λ x y is h.
        let parts = passes_parts test x h in
        let below = subst (λ cs. AllNodes (Passes test) cs → AllNodes (Passes test) (map written_out cs)) (ap (λ z. z.children) is) (all-passed y.children) parts.1 in
        subst (Passes test) (sym (out-roll x)) (layer-passes x.span x.kind (map written_out x.children) parts.0 below))

  -- what is seen

  abbrev sight-passes : Sight → Type 0
  sight-passes x = test (record { sym = x.id.0; ctxt = x.id.1 }) ≡ true

  module _ (outer : (text : List ℕ) (ctxt : ℕ) → ctxt == 0 ≡ true → test (record { sym = text; ctxt = ctxt }) ≡ true) where
    here-passes : (named declared : Bool) (span : Span) (k : Kind) → is_outer named k ≡ true → All sight-passes (sight_by named declared span k) → passes_by test k ≡ true
    here-passes false declared span (kind.Ident text ctxt optional) o h = All-head sight-passes _ [] h
    here-passes false declared span _ o h = refl
    here-passes true declared span (kind.Ident text ctxt optional) o h = outer text ctxt o
    here-passes true declared span _ o h = refl

    abbrev Seen : Node → Type 0
    Seen n = (s : Around) → is_named_at n s.role ≡ true → All sight-passes (sights_at n s) → Passes test n

    abbrev SeenBelow : List Node → Type 0
    SeenBelow ns = (around : ℕ → Around) (i : ℕ) → all_named (λ j. (around j).role) i (map is_named_at ns) ≡ true → All sight-passes (gathered_from Around Sight around i (map sights_at ns)) → AllNodes (Passes test) ns

    seen-below : (ns : List ((n : Node) × Seen n)) → SeenBelow (map (λ e. e.0) ns)
    seen-below [] around i o h = tt
    seen-below (n ∷ ns) around i o h =
        let a = is_named_at n.0 (around i).role in
        let b = all_named (λ j. (around j).role) (suc i) (map is_named_at (map (λ e. e.0) ns)) in
        let rest = gathered_from Around Sight around (suc i) (map sights_at (map (λ e. e.0) ns)) in
        (n.1 (around i) (and-left a b o) (All-first sight-passes (sights_at n.0 (around i)) rest h), seen-below ns around (suc i) (and-right a b o) (All-second sight-passes (sights_at n.0 (around i)) rest h))

    layer-seen : (n : Node) → SeenBelow (out-Node n).children → Seen n
    layer-seen n below s o h =
        let z = out-Node n in
        let a = is_outer (is_name s.role) z.kind in
        let b = has_name z.kind z.children in
        let c = all_named (role_by s.role z.kind (is_there z.children 1)) 0 (map is_named_at z.children) in
        let parts : a && (b && c) ≡ true = sym (named-roll z s.role) ∙ ap (λ m. is_named_at m s.role) (roll-out-Node n) ∙ o in
        let rest = gathered_from Around Sight (around_child s n) 0 (map sights_at z.children) in
        let all = subst (All sight-passes) (gathered-out Around Sight sight_here around_child n s) h in
        subst (Passes test) (roll-out-Node n)
        (pass-of z.span z.kind z.children (here-passes (is_name s.role) (list_any declares s.soughts) z.span z.kind (and-left a (b && c) parts) (All-first sight-passes (sight_here s n) rest all))
        (below (around_child s n) 0 (and-right b c (and-right a (b && c) parts)) (All-second sight-passes (sight_here s n) rest all)))

    -- a tree of which all that is seen passes, passes
    pub seen-passes : (n : Node) → Seen n
    seen-passes = ind-Node Seen (λ x y is.
        layer-seen (roll-Node x) (subst SeenBelow (ap (λ (z : Node-F Node). z.children) is ∙ sym (ap (λ (z : Node-F Node). z.children) (out-roll-Node x))) (seen-below y.children)))
