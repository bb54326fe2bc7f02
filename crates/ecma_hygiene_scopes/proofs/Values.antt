-- A node with other texts is a value where it was one.
use Rattle.std.proofs.Common.{◌≡◌, ℕ, suc, Bool, true, ◌&&◌, ◌||◌, not, List, [], ◌∷◌, map, Option, Some, None, refl, sym, ap, ap₂, ◌∙◌, subst}
use Rattle.ecma_kind.specs.declared.kind.Kind.{Kind}
use Rattle.ecma_kind.specs.declared.kind.Kind.TheVariants as kind
use Rattle.ecma_kind.specs.declared.span.Span.{Span}
use Rattle.ecma_tree.specs.declared.node.Node.{Node, Node-F, ind-Node, out-Node, roll-Node}
use Rattle.ecma_tree.specs.declared.node.Node.TheViews.{out-roll-Node}
use Rattle.ecma_tree.specs.Nodes.{node_of}
use Rattle.ecma_tree.specs.Values.{holds_ambient, is_function, is_value_where, value_by}
use Rattle.ecma_tree.proofs.Valuing.{is_value_where-out, is_value_where-roll, value_where_by}
use Rattle.ecma_scope.specs.Resolved.{is_name}
use Rattle.ecma_hygiene.specs.declared.spot.Standing.{Standing}
use Rattle.ecma_hygiene.specs.Renamed.{Texts, key_of, property_key, standing_in, two_names, with_default}
use Rattle.ecma_hygiene_scopes.proofs.Growing.{OldName, grown, grown_by, grown_pattern}
use Rattle.ecma_hygiene_scopes.proofs.KindsTurned.{value-same}
use Rattle.ecma_hygiene_scopes.proofs.Written.{again, again-out, all_again, children_again, old_of, own_kind}

pattern-value : (stays : Bool) (old : OldName) (span : Span) (cs : List Node) → is_value_where stays (grown_pattern old span cs) ≡ true
unfolding value_by
pattern-value stays old span [] = is_value_where-roll stays span kind.AssignPatProp []
pattern-value stays old span (a ∷ []) = is_value_where-roll stays span kind.AssignPatProp (a ∷ [])
pattern-value stays old span (a ∷ b ∷ []) = is_value_where-roll stays span kind.KeyValuePatProp (key_of old ∷ with_default span a b ∷ [])
pattern-value stays old span (a ∷ b ∷ c ∷ cs) = is_value_where-roll stays span kind.AssignPatProp (a ∷ b ∷ c ∷ cs)

by-value : (stays : Bool) (old : OldName) (span : Span) (k : Kind) (cs : List Node) → is_value_where stays (grown_by old span k cs) ≡ value_where_by stays k cs
unfolding value_by
by-value stays old span (kind.Ident s c o) cs = is_value_where-roll stays span kind.KeyValueProp (property_key old ∷ node_of span (kind.Ident s c o) cs ∷ [])
by-value stays old span (kind.ImportNamedSpecifier t) cs = is_value_where-roll stays span (kind.ImportNamedSpecifier t) (two_names old cs)
by-value stays old span (kind.ExportNamedSpecifier t) cs = is_value_where-roll stays span (kind.ExportNamedSpecifier t) (two_names old cs)
by-value stays old span kind.AssignPatProp cs = pattern-value stays old span cs
by-value stays old span k cs = is_value_where-roll stays span k cs

pub grown-value : (stays : Bool) (o : Option OldName) (span : Span) (k : Kind) (cs : List Node) → is_value_where stays (grown o span k cs) ≡ value_where_by stays k cs
grown-value stays (Some old) span k cs = by-value stays old span k cs
grown-value stays None span k cs = is_value_where-roll stays span k cs

module _ (context_of : List ℕ → ℕ → ℕ) (texts : Texts) (empty : (text : List ℕ) → context_of text 0 ≡ 0) where
  abbrev Same : Node → Type 0
  Same n = (stays : Bool) (stands : Standing) → is_value_where stays (again context_of texts n stands) ≡ is_value_where stays n

  abbrev AllSame : List Node → Type 0
  AllSame ns = (stays : Bool) (stands : ℕ → Standing) (i : ℕ) → map (is_value_where stays) (all_again context_of texts stands i ns) ≡ map (is_value_where stays) ns

  all-same : (ns : List ((n : Node) × Same n)) → AllSame (map (λ e. e.0) ns)
  all-same [] stays stands i = refl
  all-same (n ∷ ns) stays stands i = ap₂ (λ (a : Bool) (rest : List Bool). a ∷ rest) (n.1 stays (stands i)) (all-same ns stays stands (suc i))

  -- what its parts say
  parts-value : (n : Node) → AllSame (out-Node n).children → (stays : Bool) (stands : Standing)
      → value_where_by stays (own_kind context_of texts n stands) (children_again context_of texts n stands) ≡ is_value_where stays n
  parts-value n children stays stands =
      let k = own_kind context_of texts n stands in
      ap (λ (values : List Bool). (is_function k && not stays) || value_by k values) (children (not (holds_ambient k) && stays) (standing_in stands n) 0)
      ∙ value-same context_of texts stays (is_name stands.role) (out-Node n).kind (out-Node n).children ∙ sym (is_value_where-out stays n)

  layer-same : (n : Node) → AllSame (out-Node n).children → Same n
  layer-same n children stays stands =
      ap (is_value_where stays) (again-out context_of texts empty n stands)
      ∙ grown-value stays (old_of context_of texts n stands) (out-Node n).span (own_kind context_of texts n stands) (children_again context_of texts n stands) ∙ parts-value n children stays stands

  pub value-again : (n : Node) → Same n
  value-again = ind-Node Same (λ x y is.
      layer-same (roll-Node x) (subst AllSame (ap (λ (z : Node-F Node). z.children) is ∙ sym (ap (λ (z : Node-F Node). z.children) (out-roll-Node x))) (all-same y.children)))

  each-same : (ns : List Node) → AllSame ns
  each-same [] stays stands i = refl
  each-same (n ∷ ns) stays stands i = ap₂ (λ (a : Bool) (rest : List Bool). a ∷ rest) (value-again n stays (stands i)) (each-same ns stays stands (suc i))

  pub own-value : (stays : Bool) (n : Node) (stands : Standing) → value_where_by stays (own_kind context_of texts n stands) (children_again context_of texts n stands) ≡ is_value_where stays n
  own-value stays n stands = parts-value n (each-same (out-Node n).children) stays stands
