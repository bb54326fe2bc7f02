-- Trees in which the other name of a specifier is a text, and the name of an import beside one is none: `import { a as b } from "m"` as if `a` were no text, and "b" stood for `b`.
-- So these names are neither keys nor looked up. A tree means what it means so, layer by layer.
use Rattle.std.proofs.Common.{◌≡◌, refl, sym, ap, ap₂, ◌∙◌, List, [], ◌∷◌, ◌++◌, map, None, Bool, true, false, not, cond}
use Rattle.ecma_kind.specs.declared.kind.Kind.{Kind}
use Rattle.ecma_kind.specs.declared.kind.Kind.TheVariants as kind
use Rattle.ecma_kind.specs.declared.span.Span.{Span}
use Rattle.ecma_tree.specs.declared.node.Node.{Node, Node-F, fold-roll-Node, out-Node, roll-Node}
use Rattle.ecma_tree.specs.Nodes.{absent, node_of}
use Rattle.ecma_tree.specs.Rewritten.{rewritten}
use Rattle.ecma_runs.specs.Meaning.{Meaning}
use Rattle.ecma_runs.specs.Declarations.{exported_from, imported_as}
use Rattle.ecma_runs.specs.Evaluation.{meaning_by, meaning}
use Rattle.ecma_runs.proofs.Layer.{meaning-roll, meaning_out}
use Rattle.ecma_runs.proofs.Layers.{KeepsLayers, rewritten_layers}
use Rattle.ecma_hygiene_runs.specs.ExportsApart.{apart}
use Rattle.ecma_hygiene_runs.specs.KeyNames.{is_name_by}
use Rattle.ecma_runs.specs.Enums.{is_enum}
use Rattle.ecma_runs.proofs.EnumTrees.{Lacks, rewritten_lacks}
use Rattle.ecma_runs.proofs.Kept.{AllNodes}
use Rattle.ecma_hygiene_runs.proofs.LackingEnums.{apart-name, lacks-of}
use Rattle.ecma_hygiene_runs.proofs.Parts.{parts_of}
use Rattle.ecma_hygiene_runs.proofs.Renaming.{there_by}

-- a name as a text
abbrev pub literal_by : Kind → List Node → Span → Node → Node
literal_by (kind.Ident text ctxt optional) [] span n = node_of span (kind.Str text None) []
literal_by k children span n = n

abbrev pub literal : Node → Node
literal n = literal_by (out-Node n).kind (out-Node n).children (out-Node n).span n

-- the name of an import, beside the other one
abbrev pub beside : Span → Node → Node → Node
beside span name other = cond (is_name_by (out-Node other).kind) (apart span name) name

abbrev pub spelled_by : Kind → List Node → Node-F Node → Node
spelled_by (kind.ImportNamedSpecifier is_type_only) (name ∷ other ∷ []) parts = node_of parts.span (kind.ImportNamedSpecifier is_type_only) (beside parts.span name other ∷ literal other ∷ [])
spelled_by (kind.ExportNamedSpecifier is_type_only) (name ∷ other ∷ []) parts = node_of parts.span (kind.ExportNamedSpecifier is_type_only) (name ∷ literal other ∷ [])
spelled_by k children parts = roll-Node parts

abbrev pub spelled_here : Node-F Node → Node
spelled_here parts = spelled_by parts.kind parts.children parts

abbrev pub spelled : Node → Node
spelled = rewritten spelled_here

-- what is made of a node of these parts

pub spelled-roll : (x : Node-F Node) → spelled (roll-Node x) ≡ spelled_by x.kind (map spelled x.children) (parts_of x.span x.kind (map spelled x.children))
spelled-roll x = fold-roll-Node Node spelled_here x

pub spelled-of : (span : Span) (k : Kind) (cs : List Node) → spelled (node_of span k cs) ≡ spelled_by k (map spelled cs) (parts_of span k (map spelled cs))
spelled-of span k cs = spelled-roll (parts_of span k cs)

-- a name and its text mean alike where they stand as another name

record Reads (m m' : Meaning) : Type 0 where
  text : m'.text ≡ m.text
  is_absent : m'.is_absent ≡ m.is_absent
  declared : m'.declared ≡ m.declared

literal-by : (n : Node) (k : Kind) (cs : List Node) (span : Span) → meaning n ≡ meaning_by n k (map meaning cs) → Reads (meaning n) (meaning (literal_by k cs span n))
literal-by n (kind.Ident text ctxt optional) [] span is =
    let m = meaning-roll (parts_of span (kind.Str text None) []) in
    record { text = ap (λ z. z.text) m ∙ sym (ap (λ z. z.text) is); is_absent = ap (λ z. z.is_absent) m ∙ sym (ap (λ z. z.is_absent) is); declared = ap (λ z. z.declared) m ∙ sym (ap (λ z. z.declared) is) }
literal-by n k cs span is = record { text = refl; is_absent = refl; declared = refl }

literal-reads : (n : Node) → Reads (meaning n) (meaning (literal n))
literal-reads n = literal-by n (out-Node n).kind (out-Node n).children (out-Node n).span (meaning_out n)

name-there : (n : Node) → is_name_by (out-Node n).kind ≡ true → (meaning n).is_absent ≡ false
name-there n e = ap (λ m. m.is_absent) (meaning_out n) ∙ there_by n (out-Node n).kind (map meaning (out-Node n).children) e

-- what an import looks at
record Imports (m k m' k' : Meaning) : Type 0 where
  names : m'.names ≡ m.names
  text : cond k'.is_absent m'.text k'.text ≡ cond k.is_absent m.text k.text

apart-names : (span : Span) (name : Node) → (meaning (apart span name)).names ≡ (meaning name).names
apart-names span name = ap (λ m. m.names) (meaning-roll (parts_of span kind.RestPat (name ∷ absent ∷ [])))

beside-imports : (span : Span) (name other : Node) → Imports (meaning name) (meaning other) (meaning (beside span name other)) (meaning (literal other))
beside-imports span name other = by (is_name_by (out-Node other).kind) refl
  where
    k : Meaning
    k = meaning other

    k' : Meaning
    k' = meaning (literal other)

    reads : Reads k k'
    reads = literal-reads other

    by : (b : Bool) → is_name_by (out-Node other).kind ≡ b → Imports (meaning name) k (meaning (cond b (apart span name) name)) k'
    by true e =
        let there : k.is_absent ≡ false = name-there other e in
        record {
          names = apart-names span name;
          text = ap (λ b. cond b (meaning (apart span name)).text k'.text) (reads.is_absent ∙ there) ∙ reads.text ∙ sym (ap (λ b. cond b (meaning name).text k.text) there);
        }
    by false e = record { names = refl; text = ap₂ (λ b t. cond b (meaning name).text t) reads.is_absent reads.text }

import-means : (n : Node) (t : Bool) (m k m' k' : Meaning) → Imports m k m' k' → meaning_by n (kind.ImportNamedSpecifier t) (m' ∷ k' ∷ []) ≡ meaning_by n (kind.ImportNamedSpecifier t) (m ∷ k ∷ [])
import-means n true m k m' k' same = refl
import-means n false m k m' k' same =
    λ i. record (meaning_by n (kind.ImportNamedSpecifier false) (m ∷ k ∷ [])) { imported = λ source. imported_as (same.text i) source (same.names i); declared = same.names i }

export-means : (n : Node) (t : Bool) (m k k' : Meaning) → Reads k k' → meaning_by n (kind.ExportNamedSpecifier t) (m ∷ k' ∷ []) ≡ meaning_by n (kind.ExportNamedSpecifier t) (m ∷ k ∷ [])
export-means n true m k k' reads = refl
export-means n false m k k' reads =
    let text : cond k'.is_absent m.text k'.text ≡ cond k.is_absent m.text k.text = ap₂ (λ b t. cond b m.text t) reads.is_absent reads.text in
    λ i. record (meaning_by n (kind.ExportNamedSpecifier false) (m ∷ k ∷ [])) { exports = λ source. exported_from source (text i) m; declared = m.declared ++ (reads.declared i ++ []) }

layer-kept : (x : Node-F Node) (k : Kind) (cs : List Node) → x.kind ≡ k → x.children ≡ cs → meaning (spelled_by k cs x) ≡ meaning_by (spelled_by k cs x) k (map meaning cs)
layer-kept x (kind.ImportNamedSpecifier t) (name ∷ other ∷ []) is are =
    let parts = parts_of x.span (kind.ImportNamedSpecifier t) (beside x.span name other ∷ literal other ∷ []) in
    meaning-roll parts ∙ import-means (roll-Node parts) t (meaning name) (meaning other) (meaning (beside x.span name other)) (meaning (literal other)) (beside-imports x.span name other)
layer-kept x (kind.ExportNamedSpecifier t) (name ∷ other ∷ []) is are =
    let parts = parts_of x.span (kind.ExportNamedSpecifier t) (name ∷ literal other ∷ []) in
    meaning-roll parts ∙ export-means (roll-Node parts) t (meaning name) (meaning other) (meaning (literal other)) (literal-reads other)
layer-kept x k cs is are = meaning-roll x ∙ ap₂ (λ z zs. meaning_by (roll-Node x) z (map meaning zs)) is are

pub spelled-layers : KeepsLayers spelled
spelled-layers = rewritten_layers spelled_here (λ x. layer-kept x x.kind x.children refl refl)

-- a tree without enums has none so

literal-lacks : (k : Kind) (cs : List Node) (span : Span) (n : Node) → Lacks n → Lacks (literal_by k cs span n)
literal-lacks (kind.Ident text ctxt optional) [] span n h = lacks-of span (kind.Str text None) [] refl tt
literal-lacks k cs span n h = h

either-lacks : (b : Bool) (m n : Node) → Lacks m → Lacks n → Lacks (cond b m n)
either-lacks true m n p q = p
either-lacks false m n p q = q

layer-lacks : (span : Span) (k : Kind) (cs : List Node) → not (is_enum k) ≡ true → AllNodes Lacks cs → Lacks (spelled_by k cs (parts_of span k cs))
layer-lacks span (kind.ImportNamedSpecifier t) (name ∷ other ∷ []) h all =
    lacks-of span (kind.ImportNamedSpecifier t) (beside span name other ∷ literal other ∷ []) refl
    (either-lacks (is_name_by (out-Node other).kind) (apart span name) name (apart-name span name all.0) all.0, (literal-lacks (out-Node other).kind (out-Node other).children (out-Node other).span other all.1.0, tt))
layer-lacks span (kind.ExportNamedSpecifier t) (name ∷ other ∷ []) h all =
    lacks-of span (kind.ExportNamedSpecifier t) (name ∷ literal other ∷ []) refl (all.0, (literal-lacks (out-Node other).kind (out-Node other).children (out-Node other).span other all.1.0, tt))
layer-lacks span k cs h all = lacks-of span k cs h all

pub spelled-lacks : (n : Node) → Lacks n → Lacks (spelled n)
spelled-lacks = rewritten_lacks spelled_here (λ x here below. layer-lacks x.span x.kind x.children here below)
