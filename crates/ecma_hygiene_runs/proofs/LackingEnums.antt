-- A tree without enums has none written out, with what it exports apart, or with its final texts.
use Rattle.std.proofs.Common.{◌≡◌, refl, ap, sym, ◌∙◌, subst, ℕ, suc, List, [], ◌∷◌, map, Option, Some, None, Bool, true, false, not, cond, bytes_eq}
use Rattle.ecma_kind.specs.declared.kind.Kind.{Kind}
use Rattle.ecma_kind.specs.declared.kind.Kind.TheVariants as kind
use Rattle.ecma_kind.specs.declared.span.Span.{Span}
use Rattle.ecma_tree.specs.declared.node.Node.{Node, Node-F, ind-Node, out-Node, roll-Node}
use Rattle.ecma_tree.specs.declared.node.Node.TheViews.{roll-out-Node}
use Rattle.ecma_tree.specs.Contexts.{with_contexts}
use Rattle.ecma_tree.specs.Nodes.{absent, dummy_span, node_of}
use Rattle.ecma_scope.specs.Resolved.{is_name}
use Rattle.ecma_hygiene.specs.declared.spot.Standing.{Standing}
use Rattle.ecma_hygiene.specs.Renamed.{Texts, at_root, key_of, kind_is_absent, name_of, old_name, property_key, proto, proto_in_brackets, proto_literal, two_names, with_default}
use Rattle.ecma_hygiene.specs.Renamed as hygiene
use Rattle.ecma_hygiene_scopes.proofs.Growing.{OldName, grown, grown_by, grown_pattern}
use Rattle.ecma_hygiene_scopes.proofs.KindsTurned.{kind-same, turned_kind}
use Rattle.ecma_config.specs.declared.config.Config.{Config}
use Rattle.ecma_runs.specs.State.{Id}
use Rattle.ecma_runs.specs.Enums.{is_enum, lacks_enums}
use Rattle.ecma_runs.specs.Names.{renamed, renamed_ident, renamed_node}
use Rattle.ecma_runs.specs.Observation.{enums_of}
use Rattle.ecma_runs.proofs.EnumTrees.{Lacks, lacking_enums, lacks_layer, lacks_parts, rewritten_lacks}
use Rattle.ecma_runs.proofs.Kept.{AllNodes}
use Rattle.ecma_hygiene_runs.specs.ExportsApart.{apart, exports_apart, exports_by, exports_here, specifier_apart, specifier_by, specifiers_apart, specifiers_by}
use Rattle.ecma_hygiene_runs.specs.KeyNames.{is_name_by}
use Rattle.ecma_hygiene_runs.specs.WrittenOut.{identifier_by, key_node, leaf_text, other_by, other_out, out_by, out_here, pattern_by, pattern_with, properties_by, properties_out, property_by, property_key_node, property_out, written_out}
use Rattle.ecma_hygiene_runs.proofs.Parts.{all_become, become, contexts, final-roll, parts_of, shared_of, standing_of}

-- by its parts

pub lacks-of : (span : Span) (k : Kind) (cs : List Node) → not (is_enum k) ≡ true → AllNodes Lacks cs → Lacks (node_of span k cs)
lacks-of span k cs here below = lacks_layer (parts_of span k cs) here below

parts-lack : (n : Node) → Lacks n → (not (is_enum (out-Node n).kind) ≡ true) × AllNodes Lacks (out-Node n).children
parts-lack n h = lacks_parts (out-Node n) (ap lacks_enums (roll-out-Node n) ∙ h)

either : (b : Bool) (m n : Node) → Lacks m → Lacks n → Lacks (cond b m n)
either true m n p q = p
either false m n p q = q

leaf-lacks : (span : Span) (k : Kind) → not (is_enum k) ≡ true → Lacks (node_of span k [])
leaf-lacks span k here = lacks-of span k [] here tt

brackets-lack : (span : Span) → Lacks (proto_in_brackets span)
brackets-lack span = lacks-of span kind.ComputedPropName (node_of span proto_literal [] ∷ []) refl (leaf-lacks span proto_literal refl, tt)

default-lacks : (span : Span) (name default : Node) → Lacks name → Lacks default → Lacks (with_default span name default)
default-lacks span name default p q = either (kind_is_absent default) name (node_of span kind.AssignPat (name ∷ default ∷ [])) p (lacks-of span kind.AssignPat (name ∷ default ∷ []) refl (p, (q, tt)))

-- written out

property-by : (k : Kind) (span : Span) (n : Node) → Lacks n → Lacks (property_by k span n)
property-by (kind.Ident text ctxt optional) span n h =
    lacks-of span kind.KeyValueProp (property_key_node span text ∷ n ∷ []) refl
    (either (bytes_eq text proto) (proto_in_brackets span) (key_node span text) (brackets-lack span) (leaf-lacks span (kind.IdentName text) refl), (h, tt))
property-by _ span n h = h

properties-lack : (ns : List Node) → AllNodes Lacks ns → AllNodes Lacks (map property_out ns)
properties-lack [] h = tt
properties-lack (n ∷ ns) h = (property-by (out-Node n).kind (out-Node n).span n h.0, properties-lack ns h.1)

properties-by : (parts : Node-F Node) (k : Kind) (n : Node) → AllNodes Lacks parts.children → Lacks n → Lacks (properties_by parts k n)
properties-by parts kind.List n all h = lacks-of parts.span kind.List (map property_out parts.children) refl (properties-lack parts.children all)
properties-by parts _ n all h = h

other-by : (k : Kind) (span : Span) (other : Node) → Lacks other → Lacks (other_by k span other)
other-by (kind.Ident text ctxt optional) span other h = leaf-lacks span (kind.Ident text 0 false) refl
other-by _ span other h = h

other-lacks : (name other : Node) → Lacks other → Lacks (other_out name other)
other-lacks name other h = either (kind_is_absent other) _ other (other-by (out-Node name).kind (out-Node name).span other h) h

with-lacks : (o : Option (List ℕ)) (place span : Span) (name default : Node) → Lacks name → Lacks default → Lacks (pattern_with o place span name default (parts_of span kind.AssignPatProp (name ∷ default ∷ [])))
with-lacks (Some text) place span name default p q =
    lacks-of span kind.KeyValuePatProp (key_node place text ∷ with_default span name default ∷ []) refl (leaf-lacks place (kind.IdentName text) refl, (default-lacks span name default p q, tt))
with-lacks None place span name default p q = lacks-of span kind.AssignPatProp (name ∷ default ∷ []) refl (p, (q, tt))

pattern-lacks : (o : Option Node) (span : Span) (name default : Node) → Lacks name → Lacks default → Lacks (pattern_by o span name default (parts_of span kind.AssignPatProp (name ∷ default ∷ [])))
pattern-lacks (Some id) span name default p q = with-lacks (leaf_text (out-Node id).kind (out-Node id).children) (out-Node id).span span name default p q
pattern-lacks None span name default p q = lacks-of span kind.AssignPatProp (name ∷ default ∷ []) refl (p, (q, tt))

out-layer : (span : Span) (k : Kind) (cs : List Node) → not (is_enum k) ≡ true → AllNodes Lacks cs → Lacks (out_by k cs (parts_of span k cs))
out-layer span kind.ObjectLit (p ∷ others) h all = lacks-of span kind.ObjectLit (properties_out p ∷ others) refl (properties-by (out-Node p) (out-Node p).kind p (parts-lack p all.0).1 all.0, all.1)
out-layer span (kind.ImportNamedSpecifier t) (name ∷ other ∷ []) h all = lacks-of span (kind.ImportNamedSpecifier t) (name ∷ other_out name other ∷ []) refl (all.0, (other-lacks name other all.1.0, tt))
out-layer span (kind.ExportNamedSpecifier t) (name ∷ other ∷ []) h all = lacks-of span (kind.ExportNamedSpecifier t) (name ∷ other_out name other ∷ []) refl (all.0, (other-lacks name other all.1.0, tt))
out-layer span kind.AssignPatProp (name ∷ default ∷ []) h all = pattern-lacks (identifier_by (out-Node name).kind (out-Node name).children) span name default all.0 all.1.0
out-layer span k cs h all = lacks-of span k cs h all

pub out-lacks : (n : Node) → Lacks n → Lacks (written_out n)
out-lacks = rewritten_lacks out_here (λ x here below. out-layer x.span x.kind x.children here below)

-- with what is exported apart

pub apart-name : (span : Span) (name : Node) → Lacks name → Lacks (apart span name)
apart-name span name h = lacks-of span kind.RestPat (name ∷ absent ∷ []) refl (h, (leaf-lacks dummy_span kind.Absent refl, tt))

specifier-lacks : (k : Kind) (cs : List Node) (span : Span) (n : Node) → AllNodes Lacks cs → Lacks n → Lacks (specifier_by k cs span n)
specifier-lacks (kind.ExportNamedSpecifier t) (name ∷ other ∷ []) span n all h =
    either (is_name_by (out-Node other).kind) (node_of span (kind.ExportNamedSpecifier t) (apart span name ∷ other ∷ [])) n
    (lacks-of span (kind.ExportNamedSpecifier t) (apart span name ∷ other ∷ []) refl (apart-name span name all.0, all.1)) h
specifier-lacks k cs span n all h = h

all-specifiers : (ns : List Node) → AllNodes Lacks ns → AllNodes Lacks (map specifier_apart ns)
all-specifiers [] h = tt
all-specifiers (n ∷ ns) h = (specifier-lacks (out-Node n).kind (out-Node n).children (out-Node n).span n (parts-lack n h.0).1 h.0, all-specifiers ns h.1)

specifiers-lack : (parts : Node-F Node) (k : Kind) (n : Node) → AllNodes Lacks parts.children → Lacks n → Lacks (specifiers_by parts k n)
specifiers-lack parts kind.List n all h = lacks-of parts.span kind.List (map specifier_apart parts.children) refl (all-specifiers parts.children all)
specifiers-lack parts _ n all h = h

apart-layer : (span : Span) (k : Kind) (cs : List Node) → not (is_enum k) ≡ true → AllNodes Lacks cs → Lacks (exports_by k cs (parts_of span k cs))
apart-layer span (kind.NamedExport t) (specifiers ∷ source ∷ attributes ∷ []) h all =
    lacks-of span (kind.NamedExport t) (cond (kind_is_absent source) (specifiers_apart specifiers) specifiers ∷ source ∷ attributes ∷ []) refl
    (either (kind_is_absent source) (specifiers_apart specifiers) specifiers (specifiers-lack (out-Node specifiers) (out-Node specifiers).kind specifiers (parts-lack specifiers all.0).1 all.0) all.0, all.1)
apart-layer span k cs h all = lacks-of span k cs h all

pub apart-lacks : (n : Node) → Lacks n → Lacks (exports_apart n)
apart-lacks = rewritten_lacks exports_here (λ x here below. apart-layer x.span x.kind x.children here below)

-- with other names, and then nothing is known of enums, as before

module _ (to : Id → Id) where
  renamed-kind : (k : Kind) → is_enum (renamed_ident to k) ≡ is_enum k
  renamed-kind (kind.Ident text ctxt optional) = refl
  renamed-kind _ = refl

  pub renamed-lacks : (n : Node) → Lacks n → Lacks (renamed to n)
  renamed-lacks = rewritten_lacks (renamed_node to) (λ x here below. lacks-of x.span (renamed_ident to x.kind) x.children (ap not (renamed-kind x.kind) ∙ here) below)

  pub renamed-none : (options : Config) (m : Node) → Lacks m → enums_of options (renamed to m) ≡ enums_of options m
  renamed-none options m lacks = lacking_enums options (renamed to m) (renamed-lacks m lacks) ∙ sym (lacking_enums options m lacks)

-- with final texts

names-lack : (old : OldName) (cs : List Node) → AllNodes Lacks cs → AllNodes Lacks (two_names old cs)
names-lack old (name ∷ other ∷ []) all = (all.0, (leaf-lacks old.span (kind.Ident old.text 0 false) refl, tt))
names-lack old [] all = tt
names-lack old (a ∷ []) all = all
names-lack old (a ∷ b ∷ c ∷ cs) all = all

key-lacks : (old : OldName) → Lacks (key_of old)
key-lacks old = leaf-lacks old.span (kind.IdentName old.text) refl

grown-pattern-lacks : (old : OldName) (span : Span) (cs : List Node) → AllNodes Lacks cs → Lacks (grown_pattern old span cs)
grown-pattern-lacks old span (pattern' ∷ value ∷ []) all =
    lacks-of span kind.KeyValuePatProp (key_of old ∷ with_default span pattern' value ∷ []) refl (key-lacks old, (default-lacks span pattern' value all.0 all.1.0, tt))
grown-pattern-lacks old span [] all = lacks-of span kind.AssignPatProp [] refl all
grown-pattern-lacks old span (a ∷ []) all = lacks-of span kind.AssignPatProp (a ∷ []) refl all
grown-pattern-lacks old span (a ∷ b ∷ c ∷ cs) all = lacks-of span kind.AssignPatProp (a ∷ b ∷ c ∷ cs) refl all

grown-by-lacks : (old : OldName) (span : Span) (k : Kind) (cs : List Node) → not (is_enum k) ≡ true → AllNodes Lacks cs → Lacks (grown_by old span k cs)
grown-by-lacks old span (kind.Ident text ctxt optional) cs h all =
    lacks-of span kind.KeyValueProp (property_key old ∷ node_of span (kind.Ident text ctxt optional) cs ∷ []) refl
    (either (bytes_eq old.text proto) (proto_in_brackets old.span) (key_of old) (brackets-lack old.span) (key-lacks old), (lacks-of span (kind.Ident text ctxt optional) cs refl all, tt))
grown-by-lacks old span (kind.ImportNamedSpecifier t) cs h all = lacks-of span (kind.ImportNamedSpecifier t) (two_names old cs) refl (names-lack old cs all)
grown-by-lacks old span (kind.ExportNamedSpecifier t) cs h all = lacks-of span (kind.ExportNamedSpecifier t) (two_names old cs) refl (names-lack old cs all)
grown-by-lacks old span kind.AssignPatProp cs h all = grown-pattern-lacks old span cs all
grown-by-lacks old span k cs h all = lacks-of span k cs h all

grown-lacks : (o : Option OldName) (span : Span) (k : Kind) (cs : List Node) → not (is_enum k) ≡ true → AllNodes Lacks cs → Lacks (grown o span k cs)
grown-lacks (Some old) span k cs h all = grown-by-lacks old span k cs h all
grown-lacks None span k cs h all = lacks-of span k cs h all

module _ (onto : ℕ → ℕ) (texts : Texts) (none : onto 0 ≡ 0) where
  abbrev BecomesSo : Node → Type 0
  BecomesSo n = (stands : Standing) → Lacks n → Lacks (become onto texts n stands)

  all-become-so : (ns : List ((n : Node) × BecomesSo n)) (stands : ℕ → Standing) (i : ℕ) → AllNodes Lacks (map (λ e. e.0) ns) → AllNodes Lacks (all_become onto texts stands i (map (λ e. e.0) ns))
  all-become-so [] stands i h = tt
  all-become-so (n ∷ ns) stands i h = (n.1 (stands i) h.0, all-become-so ns stands (suc i) h.1)

  become-so : (n : Node) → BecomesSo n
  become-so = ind-Node BecomesSo (λ x y is stands h.
      let t = lacks_parts x h in
      let k : Kind = turned_kind (contexts onto) texts (is_name stands.role) x.kind in
      let below : AllNodes Lacks (all_become onto texts (standing_of stands x.kind x.children) 0 x.children) =
      subst (λ cs. AllNodes Lacks cs → AllNodes Lacks (all_become onto texts (standing_of stands x.kind x.children) 0 cs)) (ap (λ (z : Node-F Node). z.children) is)
      (all-become-so y.children (standing_of stands x.kind x.children) 0) t.1 in
      subst Lacks (sym (final-roll onto texts none x stands))
      (grown-lacks (old_name texts (shared_of stands x.kind (roll-Node x) x.children)) x.span k (all_become onto texts (standing_of stands x.kind x.children) 0 x.children)
      (ap not (kind-same (contexts onto) texts is_enum (λ s t c d o. refl) (is_name stands.role) x.kind) ∙ t.0) below))

  pub final-lacks : (n : Node) → Lacks n → Lacks (with_contexts (λ text ctxt. onto ctxt) (hygiene.renamed texts n))
  final-lacks n h = become-so n at_root h
