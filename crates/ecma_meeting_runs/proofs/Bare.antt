-- A tree with its shorthands written out, what it exports apart, and texts for the other names of its specifiers looks up no more than the tree does, and no more is caught in it.
use Rattle.std.proofs.Common.{◌≡◌, refl, sym, ap, ◌∙◌, subst, ℕ, List, [], ◌∷◌, ◌++◌, map, Option, Some, None, Bool, true, false, cond, ◌&&◌, bytes_eq}
use Rattle.ecma_kind.specs.declared.kind.Kind.{Kind}
use Rattle.ecma_kind.specs.declared.kind.Kind.TheVariants as kind
use Rattle.ecma_kind.specs.declared.span.Span.{Span}
use Rattle.ecma_tree.specs.declared.node.Node.{Node, ind-Node, out-Node, roll-Node}
use Rattle.ecma_tree.specs.declared.node.Node.TheViews.{out-roll-Node, roll-out-Node}
use Rattle.ecma_tree.specs.Nodes.{absent, dummy_span, node_of}
use Rattle.ecma_hygiene.specs.Renamed.{kind_is_absent, proto, proto_in_brackets, proto_literal, with_default}
use Rattle.ecma_hygiene.proofs.Telling.{and-both, and-left}
use Rattle.ecma_runs.specs.State.{Id}
use Rattle.ecma_runs.specs.Meaning.{Meaning}
use Rattle.ecma_runs.specs.Evaluation.{meaning}
use Rattle.ecma_runs.specs.Observation.{exports_in}
use Rattle.ecma_runs.specs.Sought.{sought_in}
use Rattle.ecma_runs.proofs.Layers.{KeepsLayers, same_bindings, same_exports, same_ids}
use Rattle.ecma_runs.proofs.Seeking.{sought-roll}
use Rattle.ecma_hygiene_runs.specs.ExportsApart.{apart, exports_apart, exports_by, specifier_apart, specifier_by, specifiers_apart, specifiers_by}
use Rattle.ecma_hygiene_runs.specs.KeyNames.{is_name_by}
use Rattle.ecma_hygiene_runs.specs.WrittenOut.{identifier_by, key_node, leaf_text, name_node, other_by, other_out, out_by, pattern_by, pattern_with, properties_by, properties_out, property_by, property_key_node, property_out, written_out}
use Rattle.ecma_hygiene_runs.proofs.Apart.{apart-of, apart_layers}
use Rattle.ecma_hygiene_runs.proofs.KeptParts.{parts-kept}
use Rattle.ecma_hygiene_runs.proofs.Parts.{out-roll, parts_of}
use Rattle.ecma_hygiene_runs.proofs.WritingOut.{written_out_layers}
use Rattle.ecma_meeting_runs.proofs.Spelled.{beside, literal, literal_by, spelled, spelled-layers, spelled-of, spelled_by}
use Rattle.ecma_meeting_runs.proofs.Seeking.{Alike, Among, among-equal, among-itself, among-join, among-left, among-none}
use Rattle.ecma_meeting_runs.proofs.Asking.{AllLook, Asks, Child, Looks, all-look-itself, asks-itself, asks-then, list-looks, loose-asks, loose-meets, loose-sought, looks, looks-itself, meets, meets-of, node-asks, same-kind-asks}

-- what is exported apart, and other names texts
abbrev pub bared : Node → Node
bared n = spelled (exports_apart n)

-- with shorthands written out
abbrev pub bare : Node → Node
bare n = bared (written_out n)

-- what maps that keep layers keep of what is declared

alike-kept : (f : Node → Node) → KeepsLayers f → (n : Node) → Alike (meaning (f n)) (meaning n)
alike-kept f layers n =
    let same = parts-kept f layers n in
    record {
      names = same.names ∙ same_ids (meaning n).names;
      default_names = same.default_names ∙ same_ids (meaning n).default_names;
      lexicals = same.lexicals ∙ same_bindings (meaning n).lexicals;
      vars = same.vars ∙ same_bindings (meaning n).vars;
      locals = same.locals ∙ same_bindings (meaning n).locals;
      parameter_names = same.parameter_names ∙ same_ids (meaning n).parameter_names;
      declared = same.declared ∙ same_ids (meaning n).declared;
      flags = record { is_absent = same.is_absent; is_this = same.is_this; is_type = same.is_type; has_body = same.has_body };
    }

alike-then : {a b c : Meaning} → Alike a b → Alike b c → Alike a c
alike-then p q = record {
  names = p.names ∙ q.names;
  default_names = p.default_names ∙ q.default_names;
  lexicals = p.lexicals ∙ q.lexicals;
  vars = p.vars ∙ q.vars;
  locals = p.locals ∙ q.locals;
  parameter_names = p.parameter_names ∙ q.parameter_names;
  declared = p.declared ∙ q.declared;
  flags = record {
    is_absent = p.flags.is_absent ∙ q.flags.is_absent;
    is_this = p.flags.is_this ∙ q.flags.is_this;
    is_type = p.flags.is_type ∙ q.flags.is_type;
    has_body = p.flags.has_body ∙ q.flags.has_body;
  };
}

pub written-alike : (n : Node) → Alike (meaning (written_out n)) (meaning n)
written-alike n = alike-kept written_out written_out_layers n

pub bare-alike : (n : Node) → Alike (meaning (bare n)) (meaning n)
bare-alike n =
    alike-then (alike-kept spelled spelled-layers (exports_apart (written_out n))) (alike-then (alike-kept exports_apart apart_layers (written_out n)) (written-alike n))

exports-kept : (f : Node → Node) → KeepsLayers f → (n : Node) → exports_in (f n) ≡ exports_in n
exports-kept f layers n = (parts-kept f layers n).exports None ∙ same_exports (exports_in n)

pub bare-exports : (n : Node) → exports_in (bare n) ≡ exports_in n
bare-exports n =
    exports-kept spelled spelled-layers (exports_apart (written_out n)) ∙ exports-kept exports_apart apart_layers (written_out n) ∙ exports-kept written_out written_out_layers n

-- what is made of a node of these parts

all-bared : (cs : List Node) → map spelled (map exports_apart cs) ≡ map bared cs
all-bared [] = refl
all-bared (c ∷ cs) = ap (λ rest. bared c ∷ rest) (all-bared cs)

plain-bared : (span : Span) (k : Kind) (cs : List Node) → exports_by k (map exports_apart cs) (parts_of span k (map exports_apart cs)) ≡ node_of span k (map exports_apart cs)
    → spelled_by k (map spelled (map exports_apart cs)) (parts_of span k (map spelled (map exports_apart cs))) ≡ node_of span k (map spelled (map exports_apart cs)) → bared (node_of span k cs) ≡ node_of span k (map bared cs)
plain-bared span k cs p q = ap spelled (apart-of span k cs ∙ p) ∙ spelled-of span k (map exports_apart cs) ∙ q ∙ ap (node_of span k) (all-bared cs)

kind-is : (n : Node) (k : Kind) → (out-Node n).kind ≡ k → n ≡ node_of (out-Node n).span k (out-Node n).children
kind-is n k is = sym (roll-out-Node n) ∙ ap (λ z. node_of (out-Node n).span z (out-Node n).children) is

literal-of : (span : Span) (k : Kind) (cs : List Node) → literal (node_of span k cs) ≡ literal_by k cs span (node_of span k cs)
literal-of span k cs = ap (λ z. literal_by z.kind z.children z.span (node_of span k cs)) (out-roll-Node (parts_of span k cs))

module _ (to : Id → Id) where
  -- one node in the place of another that is equal

  looks-as : {n' m' n m : Node} → n' ≡ m' → n ≡ m → Looks to m' m → Looks to n' n
  looks-as {n'} {m'} {n} {m} p q h = subst (λ z. Looks to z n) (sym p) (subst (λ z. Looks to m' z) (sym q) h)

  asks-as : {n' m' n : Node} → n' ≡ m' → Asks to m' n → Asks to n' n
  asks-as {n'} {m'} {n} p h = subst (λ z. Asks to z n) (sym p) h

  -- nodes that look up nothing

  record Quiet (n : Node) : Type 0 where
    nothing : (sought_in n).sought ≡ []
    met : meets to n ≡ true

  quiet-looks : (n' n : Node) → Quiet n' → Looks to n' n
  quiet-looks n' n q = record { sought = subst (λ ids. Among ids (sought_in n).sought) (sym q.nothing) among-none; meets = λ h. q.met }

  text-quiet : (span : Span) (text : List ℕ) → Quiet (node_of span (kind.Str text None) [])
  text-quiet span text = record { nothing = ap (λ s. s.sought) (sought-roll (parts_of span (kind.Str text None) [])); met = meets-of to span (kind.Str text None) [] }

  proto-quiet : (span : Span) → Quiet (node_of span proto_literal [])
  proto-quiet span = record { nothing = ap (λ s. s.sought) (sought-roll (parts_of span proto_literal [])); met = meets-of to span proto_literal [] }

  key-quiet : (span : Span) (text : List ℕ) → Quiet (key_node span text)
  key-quiet span text = record { nothing = ap (λ s. s.sought) (sought-roll (parts_of span (kind.IdentName text) [])); met = meets-of to span (kind.IdentName text) [] }

  absent-quiet : Quiet absent
  absent-quiet = record { nothing = ap (λ s. s.sought) (sought-roll (parts_of dummy_span kind.Absent [])); met = meets-of to dummy_span kind.Absent [] }

  brackets-quiet : (span : Span) → Quiet (proto_in_brackets span)
  brackets-quiet span =
      let inner = node_of span proto_literal [] in
      let q = proto-quiet span in
      record {
        nothing = ap (λ s. s.sought) (sought-roll (parts_of span kind.ComputedPropName (inner ∷ []))) ∙ ap (λ ids. ids ++ []) q.nothing;
        met = meets-of to span kind.ComputedPropName (inner ∷ []) ∙ ap (λ b. b && true) q.met;
      }

  key-bared : (span : Span) (text : List ℕ) → bared (key_node span text) ≡ key_node span text
  key-bared span text = plain-bared span (kind.IdentName text) [] refl refl

  property-key-quiet : (span : Span) (text : List ℕ) → Quiet (bared (property_key_node span text))
  property-key-quiet span text = by (bytes_eq text proto)
    where
      by : (b : Bool) → Quiet (bared (cond b (proto_in_brackets span) (key_node span text)))
      by true =
          subst Quiet (sym (plain-bared span kind.ComputedPropName (node_of span proto_literal [] ∷ []) refl refl ∙ ap (λ n. node_of span kind.ComputedPropName (n ∷ [])) (plain-bared span proto_literal [] refl refl)))
          (brackets-quiet span)
      by false = subst Quiet (sym (key-bared span text)) (key-quiet span text)

  -- behind a key, and before a child that is missing

  alone : (xs : List Id) → Among (xs ++ []) xs
  alone xs = among-join among-itself among-none

  key-looks : (span : Span) (k : Kind) (key n : Node) → Quiet key → (sought_in (node_of span k (key ∷ n ∷ []))).sought ≡ (sought_in key).sought ++ ((sought_in n).sought ++ [])
      → meets to (node_of span k (key ∷ n ∷ [])) ≡ (meets to key && (meets to n && true)) → Looks to (node_of span k (key ∷ n ∷ [])) n
  key-looks span k key n q sought met = record {
    sought = subst (λ ids. Among ids (sought_in n).sought) (sym (sought ∙ ap (λ ids. ids ++ ((sought_in n).sought ++ [])) q.nothing)) (alone (sought_in n).sought);
    meets = λ h. met ∙ and-both (meets to key) (meets to n && true) q.met (and-both (meets to n) true h refl);
  }

  apart-looks : (span : Span) (n : Node) → Looks to (apart span n) n
  apart-looks span n = record {
    sought = subst (λ ids. Among ids (sought_in n).sought) (sym (ap (λ s. s.sought) (loose-sought to span kind.RestPat (n ∷ absent ∷ []) refl) ∙ ap (λ ids. (sought_in n).sought ++ (ids ++ [])) absent-quiet.nothing))
        (alone (sought_in n).sought);
    meets = λ h. loose-meets to span kind.RestPat (n ∷ absent ∷ []) refl ∙ and-both (meets to n) (meets to absent && true) h (ap (λ b. b && true) absent-quiet.met);
  }

  -- specifiers

  beside-looks : (span : Span) (name other : Node) → Looks to (beside span name other) name
  beside-looks span name other = by (is_name_by (out-Node other).kind)
    where
      by : (b : Bool) → Looks to (cond b (apart span name) name) name
      by true = apart-looks span name
      by false = looks-itself to name

  literal-looks-by : (k : Kind) (cs : List Node) (span : Span) (n : Node) → Looks to (literal_by k cs span n) n
  literal-looks-by (kind.Ident text ctxt optional) [] span n = quiet-looks (node_of span (kind.Str text None) []) n (text-quiet span text)
  literal-looks-by k cs span n = looks-itself to n

  literal-looks : (n : Node) → Looks to (literal n) n
  literal-looks n = literal-looks-by (out-Node n).kind (out-Node n).children (out-Node n).span n

  other-by : (k : Kind) (span : Span) (other : Node) → Looks to (literal (bared (other_by k span other))) (bared other)
  other-by (kind.Ident text ctxt optional) span other =
      let is : literal (bared (name_node span text)) ≡ node_of span (kind.Str text None) [] = ap literal (plain-bared span (kind.Ident text 0 false) [] refl refl) ∙ literal-of span (kind.Ident text 0 false) [] in
      looks-as is refl (quiet-looks (node_of span (kind.Str text None) []) (bared other) (text-quiet span text))
  other-by _ span other = literal-looks (bared other)

  other-looks : (name other : Node) → Looks to (literal (bared (other_out name other))) (bared other)
  other-looks name other = by (kind_is_absent other)
    where
      by : (b : Bool) → Looks to (literal (bared (cond b (other_by (out-Node name).kind (out-Node name).span other) other))) (bared other)
      by true = other-by (out-Node name).kind (out-Node name).span other
      by false = literal-looks (bared other)

  import-asks : (span : Span) (t : Bool) (name other : Node) → Asks to (bared (node_of span (kind.ImportNamedSpecifier t) (name ∷ other_out name other ∷ []))) (node_of span (kind.ImportNamedSpecifier t) (bared name ∷ bared other ∷ []))
  import-asks span t name other =
      let o = other_out name other in
      asks-as (ap spelled (apart-of span (kind.ImportNamedSpecifier t) (name ∷ o ∷ [])) ∙ spelled-of span (kind.ImportNamedSpecifier t) (exports_apart name ∷ exports_apart o ∷ []))
      (same-kind-asks to span (kind.ImportNamedSpecifier t) (beside span (bared name) (bared o) ∷ literal (bared o) ∷ []) (bared name ∷ bared other ∷ []) refl
      (beside-looks span (bared name) (bared o), (other-looks name other, tt)))

  export-asks : (span : Span) (t : Bool) (name other : Node) → Asks to (bared (node_of span (kind.ExportNamedSpecifier t) (name ∷ other_out name other ∷ []))) (node_of span (kind.ExportNamedSpecifier t) (bared name ∷ bared other ∷ []))
  export-asks span t name other =
      let o = other_out name other in
      asks-as (ap spelled (apart-of span (kind.ExportNamedSpecifier t) (name ∷ o ∷ [])) ∙ spelled-of span (kind.ExportNamedSpecifier t) (exports_apart name ∷ exports_apart o ∷ []))
      (same-kind-asks to span (kind.ExportNamedSpecifier t) (bared name ∷ literal (bared o) ∷ []) (bared name ∷ bared other ∷ []) refl (looks-itself to (bared name), (other-looks name other, tt)))

  -- lists of exports

  spelled-apart : (span : Span) (name : Node) → spelled (apart span name) ≡ apart span (spelled name)
  spelled-apart span name = spelled-of span kind.RestPat (name ∷ absent ∷ []) ∙ ap (λ n. node_of span kind.RestPat (spelled name ∷ n ∷ [])) (spelled-of dummy_span kind.Absent [])

  specifier-looks : (n : Node) (k : Kind) (cs : List Node) → n ≡ node_of (out-Node n).span k cs → Looks to (spelled (specifier_by k cs (out-Node n).span n)) (spelled n)
  specifier-looks n (kind.ExportNamedSpecifier t) (name ∷ other ∷ []) is = by (is_name_by (out-Node other).kind)
    where
      span : Span
      span = (out-Node n).span

      by : (b : Bool) → Looks to (spelled (cond b (node_of span (kind.ExportNamedSpecifier t) (apart span name ∷ other ∷ [])) n)) (spelled n)
      by true =
          looks-as (spelled-of span (kind.ExportNamedSpecifier t) (apart span name ∷ other ∷ []) ∙ ap (λ a. node_of span (kind.ExportNamedSpecifier t) (a ∷ literal (spelled other) ∷ [])) (spelled-apart span name))
          (ap spelled is ∙ spelled-of span (kind.ExportNamedSpecifier t) (name ∷ other ∷ []))
          (looks to (same-kind-asks to span (kind.ExportNamedSpecifier t) (apart span (spelled name) ∷ literal (spelled other) ∷ []) (spelled name ∷ literal (spelled other) ∷ []) refl
          (apart-looks span (spelled name), (looks-itself to (literal (spelled other)), tt))))
      by false = looks-itself to (spelled n)
  specifier-looks n k cs is = looks-itself to (spelled n)

  all-specifiers : (ns : List Node) → AllLook to (map spelled (map specifier_apart ns)) (map spelled ns)
  all-specifiers [] = tt
  all-specifiers (n ∷ ns) = (specifier-looks n (out-Node n).kind (out-Node n).children (sym (roll-out-Node n)), all-specifiers ns)

  specifiers-look : (n : Node) (k : Kind) → (out-Node n).kind ≡ k → Looks to (spelled (specifiers_by (out-Node n) k n)) (spelled n)
  specifiers-look n kind.List is =
      let z = out-Node n in
      looks-as (spelled-of z.span kind.List (map specifier_apart z.children)) (ap spelled (kind-is n kind.List is) ∙ spelled-of z.span kind.List z.children)
      (list-looks to z.span (map spelled (map specifier_apart z.children)) (map spelled z.children) (all-specifiers z.children))
  specifiers-look n _ is = looks-itself to (spelled n)

  exports-ask : (span : Span) (t : Bool) (specifiers source attributes : Node)
      → Asks to (bared (node_of span (kind.NamedExport t) (specifiers ∷ source ∷ attributes ∷ []))) (node_of span (kind.NamedExport t) (bared specifiers ∷ bared source ∷ bared attributes ∷ []))
  exports-ask span t specifiers source attributes =
      let q = exports_apart specifiers in
      let made = cond (kind_is_absent (exports_apart source)) (specifiers_apart q) q in
      asks-as (ap spelled (apart-of span (kind.NamedExport t) (specifiers ∷ source ∷ attributes ∷ [])) ∙ spelled-of span (kind.NamedExport t) (made ∷ exports_apart source ∷ exports_apart attributes ∷ []))
      (same-kind-asks to span (kind.NamedExport t) (spelled made ∷ bared source ∷ bared attributes ∷ []) (bared specifiers ∷ bared source ∷ bared attributes ∷ []) refl
      (by q (kind_is_absent (exports_apart source)), (looks-itself to (bared source), (looks-itself to (bared attributes), tt))))
    where
      by : (q : Node) (b : Bool) → Looks to (spelled (cond b (specifiers_apart q) q)) (spelled q)
      by q true = specifiers-look q (out-Node q).kind refl
      by q false = looks-itself to (spelled q)

  -- properties

  property-looks : (n : Node) (k : Kind) → Looks to (bared (property_by k (out-Node n).span n)) (bared n)
  property-looks n (kind.Ident text ctxt optional) =
      let span = (out-Node n).span in
      let key = property_key_node span text in
      let both = bared key ∷ bared n ∷ [] in
      looks-as (plain-bared span kind.KeyValueProp (key ∷ n ∷ []) refl refl) refl
      (key-looks span kind.KeyValueProp (bared key) (bared n) (property-key-quiet span text) (ap (λ s. s.sought) (loose-sought to span kind.KeyValueProp both refl)) (loose-meets to span kind.KeyValueProp both refl))
  property-looks n _ = looks-itself to (bared n)

  all-properties : (ns : List Node) → AllLook to (map bared (map property_out ns)) (map bared ns)
  all-properties [] = tt
  all-properties (n ∷ ns) = (property-looks n (out-Node n).kind, all-properties ns)

  properties-look : (n : Node) (k : Kind) → (out-Node n).kind ≡ k → Looks to (bared (properties_by (out-Node n) k n)) (bared n)
  properties-look n kind.List is =
      let z = out-Node n in
      looks-as (plain-bared z.span kind.List (map property_out z.children) refl refl) (ap bared (kind-is n kind.List is) ∙ plain-bared z.span kind.List z.children refl refl)
      (list-looks to z.span (map bared (map property_out z.children)) (map bared z.children) (all-properties z.children))
  properties-look n _ is = looks-itself to (bared n)

  -- patterns

  record Defaults (n name default : Node) : Type 0 where
    sought : Among (sought_in n).sought ((sought_in name).sought ++ ((sought_in default).sought ++ []))
    met : (meets to name && (meets to default && true)) ≡ true → meets to n ≡ true

  default-looks : (span : Span) (name default : Node) → Defaults (bared (with_default span name default)) (bared name) (bared default)
  default-looks span name default = by (kind_is_absent default)
    where
      by : (b : Bool) → Defaults (bared (cond b name (node_of span kind.AssignPat (name ∷ default ∷ [])))) (bared name) (bared default)
      by true = record { sought = among-left ((sought_in (bared default)).sought ++ []) among-itself; met = λ h. and-left (meets to (bared name)) (meets to (bared default) && true) h }
      by false =
          let both = bared name ∷ bared default ∷ [] in
          subst (λ n. Defaults n (bared name) (bared default)) (sym (plain-bared span kind.AssignPat (name ∷ default ∷ []) refl refl))
          (record { sought = among-equal (ap (λ s. s.sought) (loose-sought to span kind.AssignPat both refl)); met = λ h. loose-meets to span kind.AssignPat both refl ∙ h })

  module _ (span : Span) (name default : Node) where
    abbrev pattern : Node
    pattern = node_of span kind.AssignPatProp (bared name ∷ bared default ∷ [])

    with-asks : (o : Option (List ℕ)) (place : Span) → Asks to (bared (pattern_with o place span name default (parts_of span kind.AssignPatProp (name ∷ default ∷ [])))) pattern
    with-asks (Some text) place =
        let key = key_node place text in
        let value = with_default span name default in
        let d = default-looks span name default in
        let q = subst Quiet (sym (key-bared place text)) (key-quiet place text) in
        asks-as (plain-bared span kind.KeyValuePatProp (key ∷ value ∷ []) refl refl)
        (loose-asks to span kind.KeyValuePatProp kind.AssignPatProp (bared key ∷ bared value ∷ []) (bared name ∷ bared default ∷ []) refl refl
        (subst (λ ids. Among (ids ++ ((sought_in (bared value)).sought ++ [])) ((sought_in (bared name)).sought ++ ((sought_in (bared default)).sought ++ []))) (sym q.nothing) (among-join d.sought among-none))
        (λ h. and-both (meets to (bared key)) (meets to (bared value) && true) q.met (and-both (meets to (bared value)) true (d.met h) refl)))
    with-asks None place = asks-as (plain-bared span kind.AssignPatProp (name ∷ default ∷ []) refl refl) (asks-itself to pattern)

    pattern-asks : (o : Option Node) → Asks to (bared (pattern_by o span name default (parts_of span kind.AssignPatProp (name ∷ default ∷ [])))) pattern
    pattern-asks (Some id) = with-asks (leaf_text (out-Node id).kind (out-Node id).children) (out-Node id).span
    pattern-asks None = asks-as (plain-bared span kind.AssignPatProp (name ∷ default ∷ []) refl refl) (asks-itself to pattern)

  -- a layer

  layer-asks : (span : Span) (k : Kind) (cs : List Node) → Asks to (bared (out_by k cs (parts_of span k cs))) (node_of span k (map bared cs))
  layer-asks span kind.ObjectLit (properties ∷ others) =
      asks-as (plain-bared span kind.ObjectLit (properties_out properties ∷ others) refl refl)
      (same-kind-asks to span kind.ObjectLit (bared (properties_out properties) ∷ map bared others) (bared properties ∷ map bared others) refl
      (properties-look properties (out-Node properties).kind refl, all-look-itself to (map bared others)))
  layer-asks span (kind.ImportNamedSpecifier t) (name ∷ other ∷ []) = import-asks span t name other
  layer-asks span (kind.ExportNamedSpecifier t) (name ∷ other ∷ []) = export-asks span t name other
  layer-asks span kind.AssignPatProp (name ∷ default ∷ []) = pattern-asks span name default (identifier_by (out-Node name).kind (out-Node name).children)
  layer-asks span (kind.NamedExport t) (specifiers ∷ source ∷ attributes ∷ []) = exports-ask span t specifiers source attributes
  layer-asks span k cs = asks-as (plain-bared span k cs refl refl) (asks-itself to (node_of span k (map bared cs)))

  -- and so each node

  abbrev AsksLess : Node → Type 0
  AsksLess n = Asks to (bare n) n

  abbrev child : (n : Node) × AsksLess n → Child to
  child n = record { first = n.0; second = bare n.0; alike = bare-alike n.0; asks = n.1 }

  old-nodes : (ns : List ((n : Node) × AsksLess n)) → map (λ c. c.first) (map child ns) ≡ map (λ e. e.0) ns
  old-nodes [] = refl
  old-nodes (n ∷ ns) = ap (λ rest. n.0 ∷ rest) (old-nodes ns)

  new-nodes : (ns : List ((n : Node) × AsksLess n)) → map (λ c. c.second) (map child ns) ≡ map bared (map written_out (map (λ e. e.0) ns))
  new-nodes [] = refl
  new-nodes (n ∷ ns) = ap (λ rest. bare n.0 ∷ rest) (new-nodes ns)

  pub bare-asks : (n : Node) → AsksLess n
  bare-asks = ind-Node AsksLess (λ x y is.
      let cs = map child y.children in
      let below = node-asks to x.span x.kind cs in
      let olds = old-nodes y.children ∙ ap (λ z. z.children) is in
      let news = new-nodes y.children ∙ ap (λ z. map bared (map written_out z.children)) is in
      let whole : Asks to (node_of x.span x.kind (map bared (map written_out x.children))) (roll-Node x) =
      subst (λ ns. Asks to (node_of x.span x.kind ns) (roll-Node x)) news (subst (λ ns. Asks to (node_of x.span x.kind (map (λ c. c.second) cs)) (node_of x.span x.kind ns)) olds below) in
      asks-then to (asks-as (ap bared (out-roll x)) (layer-asks x.span x.kind (map written_out x.children))) whole)
