-- Shorthands that are written out, by their parts.
use Rattle.std.proofs.Common.{◌≡◌, ℕ, Bool, true, false, cond, List, [], ◌∷◌, map, Option, Some, None, bytes_eq, refl, sym, ap, ap₂, ◌∙◌}
use Rattle.ecma_kind.specs.declared.kind.Kind.{Kind}
use Rattle.ecma_kind.specs.declared.kind.Kind.TheVariants as kind
use Rattle.ecma_kind.specs.declared.span.Span.{Span}
use Rattle.ecma_tree.specs.declared.node.Node.{Node, Node-F, out-Node}
use Rattle.ecma_tree.specs.declared.node.Node.TheViews.{out-roll-Node}
use Rattle.ecma_tree.specs.Contexts.{kind_with_context, with_contexts}
use Rattle.ecma_tree.specs.Nodes.{node_of}
use Rattle.ecma_tree.specs.Sorted.{is_absent}
use Rattle.ecma_tree.proofs.Changing.{changed-parts}
use Rattle.ecma_hygiene.specs.Renamed.{expanded, expanded_by, key_of, kind_is_absent, name_of, property_key, proto, proto_in_brackets, proto_literal, two_names, two_patterns, with_default}
use Rattle.ecma_hygiene_scopes.proofs.Parts.{children-of, contexts-of, kind-of, parts_of}

-- the old text of an identifier, and where it stands, as "expanded" takes it
abbrev domain : {A B : Type 0} → (A → B) → Type 0
domain {A = X} f = X

abbrev pub OldName : Type 0
OldName = domain key_of

-- a shorthand pattern that is written out
abbrev pub grown_pattern : OldName → Span → List Node → Node
grown_pattern old span (pattern ∷ value ∷ []) = node_of span kind.KeyValuePatProp (key_of old ∷ with_default span pattern value ∷ [])
grown_pattern old span children = node_of span kind.AssignPatProp children

-- a node of these parts, with the old text of its shared name beside the new one
abbrev pub grown_by : OldName → Span → Kind → List Node → Node
grown_by old span (kind.Ident sym ctxt optional) children = node_of span kind.KeyValueProp (property_key old ∷ node_of span (kind.Ident sym ctxt optional) children ∷ [])
grown_by old span (kind.ImportNamedSpecifier is_type_only) children = node_of span (kind.ImportNamedSpecifier is_type_only) (two_names old children)
grown_by old span (kind.ExportNamedSpecifier is_type_only) children = node_of span (kind.ExportNamedSpecifier is_type_only) (two_names old children)
grown_by old span kind.AssignPatProp children = grown_pattern old span children
grown_by old span k children = node_of span k children

abbrev pub grown : Option OldName → Span → Kind → List Node → Node
grown (Some old) span k children = grown_by old span k children
grown None span k children = node_of span k children

patterns-of : (old : OldName) (span : Span) (all cs : List Node) → all ≡ cs → two_patterns old (node_of span kind.AssignPatProp all) cs ≡ grown_pattern old span cs
patterns-of old span all [] is = ap (λ (zs : List Node). node_of span kind.AssignPatProp zs) is
patterns-of old span all (a ∷ []) is = ap (λ (zs : List Node). node_of span kind.AssignPatProp zs) is
patterns-of old span all (a ∷ b ∷ []) is =
    ap (λ (z : Node-F Node). node_of z.span kind.KeyValuePatProp (key_of old ∷ with_default z.span a b ∷ [])) (out-roll-Node (parts_of span kind.AssignPatProp all))
patterns-of old span all (a ∷ b ∷ c ∷ cs) is = ap (λ (zs : List Node). node_of span kind.AssignPatProp zs) is

by-kind : (old : OldName) (span : Span) (k : Kind) (children : List Node) → expanded_by k old (node_of span k children) ≡ grown_by old span k children
unfolding expanded_by
by-kind old span (kind.Ident sym_ ctxt optional) children =
    ap (λ (z : Node-F Node). node_of z.span kind.KeyValueProp (property_key old ∷ node_of span (kind.Ident sym_ ctxt optional) children ∷ [])) (out-roll-Node (parts_of span (kind.Ident sym_ ctxt optional) children))
by-kind old span (kind.ImportNamedSpecifier t) children =
    ap (λ (z : Node-F Node). node_of z.span z.kind (two_names old z.children)) (out-roll-Node (parts_of span (kind.ImportNamedSpecifier t) children))
by-kind old span (kind.ExportNamedSpecifier t) children =
    ap (λ (z : Node-F Node). node_of z.span z.kind (two_names old z.children)) (out-roll-Node (parts_of span (kind.ExportNamedSpecifier t) children))
by-kind old span kind.AssignPatProp children =
    ap (λ (z : List Node). two_patterns old (node_of span kind.AssignPatProp children) z) (children-of span kind.AssignPatProp children) ∙ patterns-of old span children children refl
by-kind old span _ children = refl

pub expanded-of : (o : Option OldName) (span : Span) (k : Kind) (children : List Node) → expanded o (node_of span k children) ≡ grown o span k children
expanded-of None span k children = refl
expanded-of (Some old) span k children = ap (λ (z : Kind). expanded_by z old (node_of span k children)) (kind-of span k children) ∙ by-kind old span k children

-- ---- contexts

pub absent-with : (context_of : List ℕ → ℕ → ℕ) (k : Kind) → is_absent (kind_with_context context_of k) ≡ is_absent k
absent-with context_of (kind.Ident sym_ ctxt optional) = refl
absent-with context_of _ = refl

module _ (context_of : List ℕ → ℕ → ℕ) (empty : (text : List ℕ) → context_of text 0 ≡ 0) where
  abbrev turned : Node → Node
  turned = with_contexts context_of

  pub name-stays : (old : OldName) → turned (name_of old) ≡ name_of old
  name-stays old = contexts-of context_of old.span (kind.Ident old.text 0 false) [] ∙ ap (λ (c : ℕ). node_of old.span (kind.Ident old.text c false) []) (empty old.text)

  pub key-stays : (old : OldName) → turned (key_of old) ≡ key_of old
  key-stays old = contexts-of context_of old.span (kind.IdentName old.text) []

  brackets-stay : (span : Span) → turned (proto_in_brackets span) ≡ proto_in_brackets span
  brackets-stay span =
      contexts-of context_of span kind.ComputedPropName (node_of span proto_literal [] ∷ [])
      ∙ ap (λ (z : Node). node_of span kind.ComputedPropName (z ∷ [])) (contexts-of context_of span proto_literal [])

  key-by : (b : Bool) (old : OldName) → turned (cond b (proto_in_brackets old.span) (key_of old)) ≡ cond b (proto_in_brackets old.span) (key_of old)
  key-by true old = brackets-stay old.span
  key-by false old = key-stays old

  pub property-key-stays : (old : OldName) → turned (property_key old) ≡ property_key old
  property-key-stays old = key-by (bytes_eq old.text proto) old

  names-turned : (old : OldName) (cs : List Node) → map turned (two_names old cs) ≡ two_names old (map turned cs)
  names-turned old [] = refl
  names-turned old (a ∷ []) = refl
  names-turned old (a ∷ b ∷ []) = ap (λ (z : Node). turned a ∷ z ∷ []) (name-stays old)
  names-turned old (a ∷ b ∷ c ∷ cs) = refl

  pub absent-turned : (n : Node) → kind_is_absent (turned n) ≡ kind_is_absent n
  absent-turned n =
      ap kind_is_absent (changed-parts (λ span. span) (kind_with_context context_of) n)
      ∙ ap is_absent (kind-of (out-Node n).span (kind_with_context context_of (out-Node n).kind) (map turned (out-Node n).children)) ∙ absent-with context_of (out-Node n).kind

  default-by : (b : Bool) (span : Span) (pattern value : Node) → turned (cond b pattern (node_of span kind.AssignPat (pattern ∷ value ∷ []))) ≡ cond b (turned pattern) (node_of span kind.AssignPat (turned pattern ∷ turned value ∷ []))
  default-by true span pattern value = refl
  default-by false span pattern value = contexts-of context_of span kind.AssignPat (pattern ∷ value ∷ [])

  default-turned : (span : Span) (pattern value : Node) → turned (with_default span pattern value) ≡ with_default span (turned pattern) (turned value)
  default-turned span pattern value =
      default-by (kind_is_absent value) span pattern value
      ∙ ap (λ (b : Bool). cond b (turned pattern) (node_of span kind.AssignPat (turned pattern ∷ turned value ∷ []))) (sym (absent-turned value))

  pattern-turned : (old : OldName) (span : Span) (cs : List Node) → turned (grown_pattern old span cs) ≡ grown_pattern old span (map turned cs)
  pattern-turned old span [] = contexts-of context_of span kind.AssignPatProp []
  pattern-turned old span (a ∷ []) = contexts-of context_of span kind.AssignPatProp (a ∷ [])
  pattern-turned old span (a ∷ b ∷ []) =
      contexts-of context_of span kind.KeyValuePatProp (key_of old ∷ with_default span a b ∷ [])
      ∙ ap₂ (λ (y z : Node). node_of span kind.KeyValuePatProp (y ∷ z ∷ [])) (key-stays old) (default-turned span a b)
  pattern-turned old span (a ∷ b ∷ c ∷ cs) = contexts-of context_of span kind.AssignPatProp (a ∷ b ∷ c ∷ cs)

  by-turned : (old : OldName) (span : Span) (k : Kind) (cs : List Node) → turned (grown_by old span k cs) ≡ grown_by old span (kind_with_context context_of k) (map turned cs)
  by-turned old span (kind.Ident sym_ ctxt optional) cs =
      contexts-of context_of span kind.KeyValueProp (property_key old ∷ node_of span (kind.Ident sym_ ctxt optional) cs ∷ [])
      ∙ ap₂ (λ (y z : Node). node_of span kind.KeyValueProp (y ∷ z ∷ [])) (property-key-stays old) (contexts-of context_of span (kind.Ident sym_ ctxt optional) cs)
  by-turned old span (kind.ImportNamedSpecifier t) cs =
      contexts-of context_of span (kind.ImportNamedSpecifier t) (two_names old cs) ∙ ap (λ (zs : List Node). node_of span (kind.ImportNamedSpecifier t) zs) (names-turned old cs)
  by-turned old span (kind.ExportNamedSpecifier t) cs =
      contexts-of context_of span (kind.ExportNamedSpecifier t) (two_names old cs) ∙ ap (λ (zs : List Node). node_of span (kind.ExportNamedSpecifier t) zs) (names-turned old cs)
  by-turned old span kind.AssignPatProp cs = pattern-turned old span cs
  by-turned old span k cs = contexts-of context_of span k cs

  pub grown-turned : (o : Option OldName) (span : Span) (k : Kind) (cs : List Node) → turned (grown o span k cs) ≡ grown o span (kind_with_context context_of k) (map turned cs)
  grown-turned None span k cs = contexts-of context_of span k cs
  grown-turned (Some old) span k cs = by-turned old span k cs
