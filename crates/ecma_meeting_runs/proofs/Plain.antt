-- A plain tree stays plain with other texts and contexts, by which no name becomes `this` or is no more.
use Rattle.std.proofs.Common.{◌≡◌, refl, sym, ap, ap₂, ◌∙◌, subst, ℕ, List, [], ◌∷◌, map, length, Option, Some, None, Bool, true, false, cond, not, ◌&&◌, ◌||◌, bytes_eq, codes}
use Rattle.std.specs.List.{list_all}
use Rattle.ecma_kind.specs.declared.kind.Kind.{Kind}
use Rattle.ecma_kind.specs.declared.kind.Kind.TheVariants as kind
use Rattle.ecma_kind.specs.declared.shapes.Shape.{Shape}
use Rattle.ecma_kind.specs.declared.shapes.Sort.TheVariants as sort
use Rattle.ecma_kind.specs.declared.span.Span.{Span}
use Rattle.ecma_tree.specs.Contexts.{kind_with_context, with_contexts}
use Rattle.ecma_tree.specs.Laws.{HaveShapes}
use Rattle.ecma_tree.specs.Nodes.{node_of}
use Rattle.ecma_tree.specs.Sorted.{HasShape, child_shapes, is_absent, one}
use Rattle.ecma_tree.specs.declared.node.Node.{Node, Node-F, fold-roll-Node, ind-Node, out-Node, roll-Node}
use Rattle.ecma_tree.specs.declared.node.Node.TheViews.{out-roll-Node, roll-out-Node}
use Rattle.ecma_tree.proofs.Layers.{from_leaves-roll}
use Rattle.ecma_tree.proofs.ShapeLaws.{node_has_shape}
use Rattle.ecma_scope.specs.declared.role.Role.TheVariants as role
use Rattle.ecma_hygiene.specs.declared.spot.Spot.TheVariants as spot
use Rattle.ecma_hygiene.specs.Renamed.{Texts, kind_is_absent, proto, proto_in_brackets, proto_literal, text_of, with_default}
use Rattle.ecma_hygiene.specs.Renamed as hygiene
use Rattle.ecma_hygiene_scopes.proofs.Parts.{contexts-of}
use Rattle.ecma_runs.specs.State.{Id}
use Rattle.ecma_runs.specs.Declarations.{has_no_effect}
use Rattle.ecma_runs.specs.Evaluation.{meaning}
use Rattle.ecma_runs.specs.Names.{renamed, renamed_ident, renamed_node}
use Rattle.ecma_hygiene_meeting.specs.Texts.{sent}
use Rattle.ecma_hygiene_runs.specs.Plain.{has_no_receiver, is_none, is_plain, is_plain_kind, plain_by, plain_step}
use Rattle.ecma_hygiene_runs.specs.WrittenOut.{identifier_by, key_node, leaf_text, other_by, other_out, out_by, pattern_by, pattern_with, properties_by, properties_out, property_by, property_key_node, property_out, written_out}
use Rattle.ecma_hygiene_runs.proofs.FinalTree.{turned-everywhere}
use Rattle.ecma_hygiene_runs.proofs.Parts.{out-flag, out-roll, parts_of, renamed-absent}
use Rattle.ecma_meeting_runs.specs.Laws.{ContextsDoNotMatterToPlain, PlainTreesStayPlain}
use Rattle.ecma_meeting_runs.proofs.Bare.{written-alike}
use Rattle.ecma_meeting_runs.proofs.Flags.{Flags, Told, effect-alike, news, olds, renamed-flags}

abbrev all_plain : List Node → Bool
all_plain cs = list_all (λ b. b) (map is_plain cs)

plain-roll : (x : Node-F Node) → is_plain (roll-Node x) ≡ (plain_by x.kind x.children && all_plain x.children)
plain-roll x = from_leaves-roll Bool plain_step x ∙ ap (λ z. plain_by z.kind z.children && all_plain x.children) (out-roll-Node x)

plain-of : (span : Span) (k : Kind) (cs : List Node) → is_plain (node_of span k cs) ≡ (plain_by k cs && all_plain cs)
plain-of span k cs = plain-roll (parts_of span k cs)

-- a layer is plain where it was, with children that mean alike as far as effects go

none-mapped : (f : Node → Node) (cs : List Node) → is_none (map f cs) ≡ is_none cs
none-mapped f [] = refl
none-mapped f (c ∷ cs) = refl

receiver-kept : (f : Node → Node) → ((n : Node) → kind_is_absent (f n) ≡ kind_is_absent n) → (k : Kind) (cs : List Node) → has_no_receiver k (map f cs) ≡ has_no_receiver k cs
receiver-kept f same kind.SetterProp (key ∷ this_parameter ∷ others) = same this_parameter
receiver-kept f same _ cs = refl

module _ (f : Node → Node) (flags : (n : Node) → Flags (meaning (f n)) (meaning n)) (same : (n : Node) → kind_is_absent (f n) ≡ kind_is_absent n) where
  abbrev told : Node → Told
  told n = record { first = meaning n; second = meaning (f n); flags = flags n }

  old-meanings : (cs : List Node) → map meaning cs ≡ olds (map told cs)
  old-meanings [] = refl
  old-meanings (c ∷ cs) = ap (λ rest. meaning c ∷ rest) (old-meanings cs)

  new-meanings : (cs : List Node) → map meaning (map f cs) ≡ news (map told cs)
  new-meanings [] = refl
  new-meanings (c ∷ cs) = ap (λ rest. meaning (f c) ∷ rest) (new-meanings cs)

  effects : (k : Kind) (cs : List Node) → has_no_effect k (map meaning (map f cs)) ≡ has_no_effect k (map meaning cs)
  effects k cs = ap (has_no_effect k) (new-meanings cs) ∙ effect-alike k (map told cs) ∙ sym (ap (has_no_effect k) (old-meanings cs))

  by-kept : (k : Kind) (cs : List Node) → plain_by k (map f cs) ≡ plain_by k cs
  by-kept k cs = λ i. is_plain_kind k && (none-mapped f cs i || (not (effects k cs i) && receiver-kept f same k cs i))

-- renamed

module _ (to : Id → Id) (this : (id : Id) → bytes_eq (to id).sym (codes "this") ≡ bytes_eq id.sym (codes "this")) where
  kind-kept : (k : Kind) (cs : List Node) → plain_by (renamed_ident to k) cs ≡ plain_by k cs
  kind-kept (kind.Ident text ctxt optional) cs = refl
  kind-kept _ cs = refl

  abbrev Kept : Node → Type 0
  Kept n = is_plain (renamed to n) ≡ is_plain n

  all-kept : (ns : List ((n : Node) × Kept n)) → all_plain (map (renamed to) (map (λ e. e.0) ns)) ≡ all_plain (map (λ e. e.0) ns)
  all-kept [] = refl
  all-kept (n ∷ ns) = ap₂ (λ a b. a && b) n.1 (all-kept ns)

  renamed-plain : (n : Node) → Kept n
  renamed-plain = ind-Node Kept (λ x y is.
      let below = subst (λ cs. all_plain (map (renamed to) cs) ≡ all_plain cs) (ap (λ z. z.children) is) (all-kept y.children) in
      ap is_plain (fold-roll-Node Node (renamed_node to) x) ∙ plain-of x.span (renamed_ident to x.kind) (map (renamed to) x.children)
      ∙ ap₂ (λ a b. a && b) (kind-kept x.kind (map (renamed to) x.children) ∙ by-kept (renamed to) (renamed-flags to this) (renamed-absent to) x.kind x.children) below ∙ sym (plain-roll x))

-- with other contexts

abbrev moved : (List ℕ → ℕ → ℕ) → Id → Id
moved context_of id = record { sym = id.sym; ctxt = context_of id.sym id.ctxt }

kind-moved : (context_of : List ℕ → ℕ → ℕ) (k : Kind) → kind_with_context context_of k ≡ renamed_ident (moved context_of) k
kind-moved context_of (kind.Ident text ctxt optional) = refl
kind-moved context_of _ = refl

module _ (context_of : List ℕ → ℕ → ℕ) where
  abbrev Moves : Node → Type 0
  Moves n = with_contexts context_of n ≡ renamed (moved context_of) n

  all-move : (ns : List ((n : Node) × Moves n)) → map (with_contexts context_of) (map (λ e. e.0) ns) ≡ map (renamed (moved context_of)) (map (λ e. e.0) ns)
  all-move [] = refl
  all-move (n ∷ ns) = ap₂ (λ a rest. a ∷ rest) n.1 (all-move ns)

  moves : (n : Node) → Moves n
  moves = ind-Node Moves (λ x y is.
      contexts-of context_of x.span x.kind x.children
      ∙ ap₂ (node_of x.span) (kind-moved context_of x.kind) (subst (λ cs. map (with_contexts context_of) cs ≡ map (renamed (moved context_of)) cs) (ap (λ z. z.children) is) (all-move y.children))
      ∙ sym (fold-roll-Node Node (renamed_node (moved context_of)) x))

pub contexts_do_not_matter_to_plain : ContextsDoNotMatterToPlain
contexts_do_not_matter_to_plain context_of tree = ap is_plain (moves context_of tree) ∙ renamed-plain (moved context_of) (λ id. refl) tree

-- written out

-- what is not there is plain
abbrev IsLeaf : Node → Type 0
IsLeaf n = kind_is_absent n ≡ true → is_plain n ≡ true

abbrev AllLeaves : List Node → Type 0
AllLeaves [] = Unit {0}
AllLeaves (n ∷ ns) = IsLeaf n × AllLeaves ns

key-plain : (span : Span) (text : List ℕ) → is_plain (key_node span text) ≡ true
key-plain span text = plain-of span (kind.IdentName text) []

brackets-plain : (span : Span) → is_plain (proto_in_brackets span) ≡ true
brackets-plain span = plain-of span kind.ComputedPropName (node_of span proto_literal [] ∷ []) ∙ ap (λ b. b && true) (plain-of span proto_literal [])

property-key-plain : (span : Span) (text : List ℕ) → is_plain (property_key_node span text) ≡ true
property-key-plain span text = by (bytes_eq text proto)
  where
    by : (b : Bool) → is_plain (cond b (proto_in_brackets span) (key_node span text)) ≡ true
    by true = brackets-plain span
    by false = key-plain span text

and-true : (b : Bool) → (b && true) ≡ b
and-true true = refl
and-true false = refl

or-true : (b : Bool) → (b || true) ≡ true
or-true true = refl
or-true false = refl

property-plain : (n : Node) (k : Kind) → is_plain (property_by k (out-Node n).span n) ≡ is_plain n
property-plain n (kind.Ident text ctxt optional) =
    let span = (out-Node n).span in
    plain-of span kind.KeyValueProp (property_key_node span text ∷ n ∷ []) ∙ ap (λ b. b && (is_plain n && true)) (property-key-plain span text) ∙ and-true (is_plain n)
property-plain n _ = refl

all-properties : (ns : List Node) → all_plain (map property_out ns) ≡ all_plain ns
all-properties [] = refl
all-properties (n ∷ ns) = ap₂ (λ a b. a && b) (property-plain n (out-Node n).kind) (all-properties ns)

list-plain : (span : Span) (cs : List Node) → is_plain (node_of span kind.List cs) ≡ all_plain cs
list-plain span cs = plain-of span kind.List cs ∙ ap (λ b. b && all_plain cs) (or-true (is_none cs))

properties-plain : (n : Node) (k : Kind) → (out-Node n).kind ≡ k → is_plain (properties_by (out-Node n) k n) ≡ is_plain n
properties-plain n kind.List is =
    let z = out-Node n in
    list-plain z.span (map property_out z.children) ∙ all-properties z.children
    ∙ sym (ap is_plain (sym (roll-out-Node n) ∙ ap (λ k. node_of z.span k z.children) is) ∙ list-plain z.span z.children)
properties-plain n _ is = refl

other-by : (k : Kind) (span : Span) (other : Node) → is_plain other ≡ true → is_plain (other_by k span other) ≡ is_plain other
other-by (kind.Ident text ctxt optional) span other p = plain-of span (kind.Ident text 0 false) [] ∙ sym p
other-by _ span other p = refl

other-plain : (name other : Node) → IsLeaf other → is_plain (other_out name other) ≡ is_plain other
other-plain name other leaf = by (kind_is_absent other) refl
  where
    by : (b : Bool) → kind_is_absent other ≡ b → is_plain (cond b (other_by (out-Node name).kind (out-Node name).span other) other) ≡ is_plain other
    by true e = other-by (out-Node name).kind (out-Node name).span other (leaf e)
    by false e = refl

specifier-plain : (span : Span) (k : Kind) (name other : Node) → IsLeaf other → plain_by k (name ∷ other_out name other ∷ []) ≡ plain_by k (name ∷ other ∷ [])
    → is_plain (node_of span k (name ∷ other_out name other ∷ [])) ≡ is_plain (node_of span k (name ∷ other ∷ []))
specifier-plain span k name other leaf same =
    plain-of span k (name ∷ other_out name other ∷ []) ∙ ap₂ (λ b c. b && (is_plain name && (c && true))) same (other-plain name other leaf) ∙ sym (plain-of span k (name ∷ other ∷ []))

default-plain : (span : Span) (name default : Node) → IsLeaf default → is_plain (with_default span name default) ≡ (is_plain name && (is_plain default && true))
default-plain span name default leaf = by (kind_is_absent default) refl
  where
    by : (b : Bool) → kind_is_absent default ≡ b → is_plain (cond b name (node_of span kind.AssignPat (name ∷ default ∷ []))) ≡ (is_plain name && (is_plain default && true))
    by true e = sym (ap (λ b. is_plain name && (b && true)) (leaf e) ∙ and-true (is_plain name))
    by false e = plain-of span kind.AssignPat (name ∷ default ∷ [])

module _ (span : Span) (name default : Node) (leaf : IsLeaf default) where
  abbrev pattern : Node
  pattern = node_of span kind.AssignPatProp (name ∷ default ∷ [])

  with-plain : (o : Option (List ℕ)) (place : Span) → is_plain (pattern_with o place span name default (parts_of span kind.AssignPatProp (name ∷ default ∷ []))) ≡ is_plain pattern
  with-plain (Some text) place =
      plain-of span kind.KeyValuePatProp (key_node place text ∷ with_default span name default ∷ [])
      ∙ ap₂ (λ a b. a && (b && true)) (key-plain place text) (default-plain span name default leaf)
      ∙ and-true (is_plain name && (is_plain default && true)) ∙ sym (plain-of span kind.AssignPatProp (name ∷ default ∷ []))
  with-plain None place = refl

  pattern-plain : (o : Option Node) → is_plain (pattern_by o span name default (parts_of span kind.AssignPatProp (name ∷ default ∷ []))) ≡ is_plain pattern
  pattern-plain (Some id) = with-plain (leaf_text (out-Node id).kind (out-Node id).children) (out-Node id).span
  pattern-plain None = refl

out-layer : (span : Span) (k : Kind) (cs : List Node) → AllLeaves cs → is_plain (out_by k cs (parts_of span k cs)) ≡ is_plain (node_of span k cs)
out-layer span kind.ObjectLit (properties ∷ others) leaves =
    plain-of span kind.ObjectLit (properties_out properties ∷ others) ∙ ap (λ b. b && all_plain others) (properties-plain properties (out-Node properties).kind refl)
    ∙ sym (plain-of span kind.ObjectLit (properties ∷ others))
out-layer span (kind.ImportNamedSpecifier true) (name ∷ other ∷ []) leaves = specifier-plain span (kind.ImportNamedSpecifier true) name other leaves.1.0 refl
out-layer span (kind.ImportNamedSpecifier false) (name ∷ other ∷ []) leaves = specifier-plain span (kind.ImportNamedSpecifier false) name other leaves.1.0 refl
out-layer span (kind.ExportNamedSpecifier true) (name ∷ other ∷ []) leaves = specifier-plain span (kind.ExportNamedSpecifier true) name other leaves.1.0 refl
out-layer span (kind.ExportNamedSpecifier false) (name ∷ other ∷ []) leaves = specifier-plain span (kind.ExportNamedSpecifier false) name other leaves.1.0 refl
out-layer span kind.AssignPatProp (name ∷ default ∷ []) leaves = pattern-plain span name default leaves.1.0 (identifier_by (out-Node name).kind (out-Node name).children)
out-layer span k cs leaves = refl

-- in a tree with a shape, what is not there has no children

absent-by : (span : Span) (k : Kind) (cs : List Node) (shape : Shape) → is_absent k ≡ true → HaveShapes (child_shapes k shape (length cs)) cs → is_plain (node_of span k cs) ≡ true
absent-by span kind.Absent [] shape e h = plain-of span kind.Absent []
absent-by span kind.Absent (c ∷ cs) shape e h = absurd h
absent-by span _ cs shape e h = absurd (cc)

leaf-of : (n : Node) (shape : Shape) → HasShape shape n → IsLeaf n
leaf-of n shape h e =
    let z = out-Node n in
    let s = (node_has_shape z.span z.kind z.children shape).0 (subst (HasShape shape) (sym (roll-out-Node n)) h) in
    ap is_plain (sym (roll-out-Node n)) ∙ absent-by z.span z.kind z.children shape e s.1

abbrev Written : Node → Type 0
Written n = (shape : Shape) → HasShape shape n → is_plain (written_out n) ≡ is_plain n

all-written : (ns : List ((n : Node) × Written n)) (shapes : List Shape) → HaveShapes shapes (map (λ e. e.0) ns)
    → (all_plain (map written_out (map (λ e. e.0) ns)) ≡ all_plain (map (λ e. e.0) ns)) × AllLeaves (map written_out (map (λ e. e.0) ns))
all-written [] shapes h = (refl, tt)
all-written (n ∷ ns) [] h = absurd h
all-written (n ∷ ns) (shape ∷ shapes) h =
    let first = n.1 shape h.0 in
    let rest = all-written ns shapes h.1 in
    (ap₂ (λ a b. a && b) first rest.0, (λ e. first ∙ leaf-of n.0 shape h.0 (sym (out-flag is_absent refl n.0) ∙ e), rest.1))

written-plain : (n : Node) → Written n
written-plain = ind-Node Written (λ x y is shape h.
    let s = (node_has_shape x.span x.kind x.children shape).0 h in
    let below = subst (λ cs. HaveShapes (child_shapes x.kind shape (length x.children)) cs → (all_plain (map written_out cs) ≡ all_plain cs) × AllLeaves (map written_out cs)) (ap (λ z. z.children) is)
    (all-written y.children (child_shapes x.kind shape (length x.children))) s.1 in
    ap is_plain (out-roll x) ∙ out-layer x.span x.kind (map written_out x.children) below.1 ∙ plain-of x.span x.kind (map written_out x.children)
    ∙ ap₂ (λ a b. a && b) (by-kept written_out (λ n. (written-alike n).flags) (λ n. out-flag is_absent refl n) x.kind x.children) below.0 ∙ sym (plain-roll x))

pub plain_trees_stay_plain : PlainTreesStayPlain
plain_trees_stay_plain to texts tree none empty named this sorted sorted' =
    let final = with_contexts (λ text ctxt. to ctxt) (hygiene.renamed texts tree) in
    sym (written-plain final (one sort.Module) sorted') ∙ ap is_plain (turned-everywhere to texts none empty tree role.Root spot.Elsewhere named)
    ∙ renamed-plain (sent to texts) this (written_out tree) ∙ written-plain tree (one sort.Module) sorted
