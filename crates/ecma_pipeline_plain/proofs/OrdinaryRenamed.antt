-- Functions stay as they are with other texts.
use Rattle.std.proofs.Common.{◌≡◌, ◌∙◌, refl, sym, ap, ℕ, zero, suc, Bool, true, false, ◌&&◌, not, cond, List, [], ◌∷◌, Option, Some, None, bytes_eq, slice_get}
use Rattle.std.specs.List.{list_all}
use Rattle.ecma_kind.specs.declared.kind.Kind.{Kind}
use Rattle.ecma_kind.specs.declared.kind.Kind.TheVariants as kind
use Rattle.ecma_kind.specs.declared.span.Span.{Span}
use Rattle.ecma_tree.specs.declared.node.Node.{Node, out-Node}
use Rattle.ecma_tree.specs.Nodes.{node_of}
use Rattle.ecma_tree.specs.Sorted.{is_absent}
use Rattle.ecma_rules.specs.Children.{is_present, kind_of, of_kind}
use Rattle.ecma_scope.specs.Resolved.{is_name}
use Rattle.ecma_strip_runs.proofs.Telling.{holds-roll}
use Rattle.ecma_hygiene.specs.declared.spot.Standing.{Standing}
use Rattle.ecma_hygiene.specs.Renamed.{Texts, at_root, key_of, kind_is_absent, kind_with_text, name_of, property_key, proto, proto_in_brackets, proto_literal, renamed, standing_in, two_names, with_default}
use Rattle.ecma_hygiene.proofs.Telling.{and-both, and-left, and-right}
use Rattle.ecma_hygiene_scopes.proofs.Growing.{OldName, grown, grown_pattern}
use Rattle.ecma_hygiene_fits.proofs.Becoming.{all_become, become, become-out, children_become, old_of, own_kind}
use Rattle.ecma_hygiene_fits.proofs.Everywhere.{Each as EachChild, children_of, everywhere as from_children}
use Rattle.ecma_hygiene_fits.proofs.Listed.{Nameless, kind_like}
use Rattle.ecma_pipeline_runs.proofs.Nodes.{holds-out, test-here}
use Rattle.ecma_pipeline_plain.proofs.Ordinary.{is_ordinary, is_there, ordinary_by}

absent_nameless : Nameless is_absent
absent_nameless = record { names = λ text ctxt optional. refl; property = refl; shorthand = refl; pattern = refl }

-- a node over children
pub ordinary_made : (span : Span) (k : Kind) (cs : List Node) → ordinary_by k cs ≡ true → list_all is_ordinary cs ≡ true → is_ordinary (node_of span k cs) ≡ true
ordinary_made span k cs h hs = holds-roll ordinary_by (record { span = span; kind = k; children = cs }) ∙ and-both (ordinary_by k cs) (list_all is_ordinary cs) h hs

-- a node that is written out
module _ (old : OldName) (span : Span) where
  key_ordinary : is_ordinary (key_of old) ≡ true
  key_ordinary = ordinary_made old.span (kind.IdentName old.text) [] refl refl

  brackets_ordinary : (place : Span) → is_ordinary (proto_in_brackets place) ≡ true
  brackets_ordinary place =
      let text = node_of place proto_literal [] in
      ordinary_made place kind.ComputedPropName (text ∷ []) refl (and-both (is_ordinary text) true (ordinary_made place proto_literal [] refl refl) refl)

  property_key_by : (b : Bool) → is_ordinary (cond b (proto_in_brackets old.span) (key_of old)) ≡ true
  property_key_by true = brackets_ordinary old.span
  property_key_by false = key_ordinary

  property_key_ordinary : is_ordinary (property_key old) ≡ true
  property_key_ordinary = property_key_by (bytes_eq old.text proto)

  name_ordinary : is_ordinary (name_of old) ≡ true
  name_ordinary = ordinary_made old.span (kind.Ident old.text 0 false) [] refl refl

  two : (a b : Node) → is_ordinary a ≡ true → is_ordinary b ≡ true → list_all is_ordinary (a ∷ b ∷ []) ≡ true
  two a b h g = and-both (is_ordinary a) (is_ordinary b && true) h (and-both (is_ordinary b) true g refl)

  names_ordinary : (cs : List Node) → list_all is_ordinary cs ≡ true → list_all is_ordinary (two_names old cs) ≡ true
  names_ordinary [] h = refl
  names_ordinary (a ∷ []) h = h
  names_ordinary (a ∷ b ∷ []) h = two a (name_of old) (and-left (is_ordinary a) (is_ordinary b && true) h) name_ordinary
  names_ordinary (a ∷ b ∷ c ∷ cs) h = h

  default_ordinary : (a b : Node) → list_all is_ordinary (a ∷ b ∷ []) ≡ true → is_ordinary (with_default span a b) ≡ true
  default_ordinary a b hs = by (kind_is_absent b)
    where
      by : (gone : Bool) → is_ordinary (cond gone a (node_of span kind.AssignPat (a ∷ b ∷ []))) ≡ true
      by true = and-left (is_ordinary a) (is_ordinary b && true) hs
      by false = ordinary_made span kind.AssignPat (a ∷ b ∷ []) refl hs

  pattern_ordinary : (cs : List Node) → list_all is_ordinary cs ≡ true → is_ordinary (grown_pattern old span cs) ≡ true
  pattern_ordinary [] hs = ordinary_made span kind.AssignPatProp [] refl hs
  pattern_ordinary (a ∷ []) hs = ordinary_made span kind.AssignPatProp (a ∷ []) refl hs
  pattern_ordinary (a ∷ b ∷ []) hs =
      ordinary_made span kind.KeyValuePatProp (key_of old ∷ with_default span a b ∷ []) refl (two (key_of old) (with_default span a b) key_ordinary (default_ordinary a b hs))
  pattern_ordinary (a ∷ b ∷ c ∷ cs) hs = ordinary_made span kind.AssignPatProp (a ∷ b ∷ c ∷ cs) refl hs

grown_ordinary : (o : Option OldName) (span : Span) (k : Kind) (cs : List Node) → ordinary_by k cs ≡ true → list_all is_ordinary cs ≡ true → is_ordinary (grown o span k cs) ≡ true
grown_ordinary None span k cs h hs = ordinary_made span k cs h hs
grown_ordinary (Some old) span (kind.Ident text ctxt optional) cs h hs =
    let named = node_of span (kind.Ident text ctxt optional) cs in
    ordinary_made span kind.KeyValueProp (property_key old ∷ named ∷ []) refl (two old span (property_key old) named (property_key_ordinary old span) (ordinary_made span (kind.Ident text ctxt optional) cs refl hs))
grown_ordinary (Some old) span (kind.ImportNamedSpecifier is_type_only) cs h hs = ordinary_made span (kind.ImportNamedSpecifier is_type_only) (two_names old cs) refl (names_ordinary old span cs hs)
grown_ordinary (Some old) span (kind.ExportNamedSpecifier is_type_only) cs h hs = ordinary_made span (kind.ExportNamedSpecifier is_type_only) (two_names old cs) refl (names_ordinary old span cs hs)
grown_ordinary (Some old) span kind.AssignPatProp cs h hs = pattern_ordinary old span cs hs
grown_ordinary (Some old) span k cs h hs = ordinary_made span k cs h hs

module _ (texts : Texts) where
  module _ (is : Kind → Bool) (like : (n : Node) (stands : Standing) → is (kind_of (become texts n stands)) ≡ is (kind_of n)) where
    at_like : (stands : ℕ → Standing) (j : ℕ) (cs : List Node) (i : ℕ) → of_kind is (slice_get (all_become texts stands j cs) i) ≡ of_kind is (slice_get cs i)
    at_like stands j [] i = refl
    at_like stands j (c ∷ cs) zero = like c (stands j)
    at_like stands j (c ∷ cs) (suc i) = at_like stands (suc j) cs i

  there_like : (stands : ℕ → Standing) (cs : List Node) (i : ℕ) → is_there (all_become texts stands 0 cs) i ≡ is_there cs i
  there_like stands cs i = at_like is_present (λ n s. ap not (kind_like is_absent absent_nameless texts n s)) stands 0 cs i

  ordinary_like : (stands : ℕ → Standing) (k : Kind) (cs : List Node) → ordinary_by k (all_become texts stands 0 cs) ≡ ordinary_by k cs
  ordinary_like stands (kind.Function is_generator is_async) cs = there_like stands cs 1
  ordinary_like stands (kind.Constructor accessibility is_optional) cs = there_like stands cs 2
  ordinary_like stands kind.GetterProp cs = there_like stands cs 2
  ordinary_like stands kind.SetterProp cs = λ j. there_like stands cs 3 j && not (there_like stands cs 1 j)
  ordinary_like stands _ cs = refl

  text_like : (named : Bool) (k : Kind) (cs : List Node) → ordinary_by (kind_with_text texts named k) cs ≡ ordinary_by k cs
  text_like true k cs = refl
  text_like false (kind.Ident text ctxt optional) cs = refl
  text_like false _ cs = refl

  abbrev Kept : Node → Type 0
  Kept n = is_ordinary n ≡ true → (stands : Standing) → is_ordinary (become texts n stands) ≡ true

  all_kept : (cs : List Node) → EachChild Kept cs → list_all is_ordinary cs ≡ true → (stands : ℕ → Standing) (i : ℕ) → list_all is_ordinary (all_become texts stands i cs) ≡ true
  all_kept [] e h stands i = refl
  all_kept (c ∷ cs) e h stands i =
      and-both (is_ordinary (become texts c (stands i))) (list_all is_ordinary (all_become texts stands (suc i) cs)) (e.0 (and-left (is_ordinary c) (list_all is_ordinary cs) h) (stands i))
      (all_kept cs e.1 (and-right (is_ordinary c) (list_all is_ordinary cs) h) stands (suc i))

  node_kept : (n : Node) → EachChild Kept (children_of n) → Kept n
  node_kept n below h stands =
      ap is_ordinary (become-out texts n stands)
      ∙ grown_ordinary (old_of texts n stands) (out-Node n).span (own_kind texts n stands) (children_become texts n stands)
      (text_like (is_name stands.role) (kind_of n) (children_become texts n stands) ∙ ordinary_like (standing_in stands n) (kind_of n) (children_of n) ∙ test-here ordinary_by n h)
      (all_kept (children_of n) below (and-right (ordinary_by (kind_of n) (children_of n)) (list_all is_ordinary (children_of n)) (sym (holds-out ordinary_by n) ∙ h)) (standing_in stands n) 0)

  pub ordinary_renamed : (tree : Node) → is_ordinary tree ≡ true → is_ordinary (renamed texts tree) ≡ true
  ordinary_renamed tree h = from_children Kept node_kept tree h at_root
