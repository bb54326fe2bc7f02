-- What holds of the kinds of all nodes of a tree holds of them with other texts, where it does of kinds with these and of what is put in.
use Rattle.std.proofs.Common.{sym, subst, ℕ, suc, Bool, true, false, bytes_eq, cond, List, [], ◌∷◌, Option, Some, None}
use Rattle.ecma_kind.specs.declared.kind.Kind.{Kind}
use Rattle.ecma_kind.specs.declared.kind.Kind.TheVariants as kind
use Rattle.ecma_kind.specs.declared.span.Span.{Span}
use Rattle.ecma_tree.specs.declared.node.Node.{Node, out-Node}
use Rattle.ecma_tree.specs.Nodes.{node_of}
use Rattle.ecma_text_leaves.specs.Everywhere.{Each, Everywhere, everywhere, more, none}
use Rattle.ecma_rules.specs.Children.{kind_of}
use Rattle.ecma_scope.specs.Resolved.{is_name}
use Rattle.ecma_hygiene.specs.declared.spot.Spot.{Spot}
use Rattle.ecma_hygiene.specs.declared.spot.Spot.TheVariants as spot
use Rattle.ecma_hygiene.specs.declared.spot.Standing.{Standing}
use Rattle.ecma_hygiene.specs.Renamed.{Texts, at_root, changed_from, first_item, is_sourced, key_name, key_of, kind_is_absent, kind_with_text, lone_name, old_name, old_name_by, property_key, proto, proto_in_brackets, proto_literal, renamed, shared_by, shorthand, standing_in, two_names, with_default}
use Rattle.ecma_hygiene_scopes.proofs.Growing.{OldName, grown, grown_pattern}
use Rattle.ecma_hygiene_fits.proofs.Becoming.{all_become, become, become-out, children_become, old_of, own_kind}
use Rattle.ecma_hygiene_fits.proofs.Everywhere.{Each as EachChild, children_of, everywhere as from_children}
use Rattle.ecma_pipeline_plain.proofs.Everywhere.{parts}

module _ (P Q : Kind → Type 0) (texts : Texts) (written : (named : Bool) (k : Kind) → P k → Q (kind_with_text texts named k))
    (old : (text : List ℕ) (ctxt : ℕ) (optional : Bool) → P (kind.Ident text ctxt optional) → Q (kind.IdentName text) × Q (kind.Ident text 0 false))
    (brackets : Q kind.ComputedPropName × Q proto_literal) (property : Q kind.KeyValueProp) (pattern_property : Q kind.KeyValuePatProp) (default : Q kind.AssignPat) where
  -- ---- the old text of a shared name

  abbrev GoodName : Option OldName → Type 0
  GoodName None = Unit {0}
  GoodName (Some o) = Q (kind.IdentName o.text) × Q (kind.Ident o.text 0 false)

  abbrev GoodNode : Option Node → Type 0
  GoodNode None = Unit {0}
  GoodNode (Some n) = Everywhere P n

  changed_good : (new : Option (List ℕ)) (text : List ℕ) (span : Span) → Q (kind.IdentName text) × Q (kind.Ident text 0 false) → GoodName (changed_from new text span)
  changed_good None text span h = tt
  changed_good (Some new) text span h = by (bytes_eq new text)
    where
      by : (b : Bool) → GoodName (cond b None (Some (record { text = text; span = span })))
      by true = tt
      by false = h

  name_good : (span : Span) (k : Kind) → P k → GoodName (old_name_by texts span k)
  name_good span (kind.Ident text ctxt optional) p = changed_good (texts (text, ctxt)) text span (old text ctxt optional p)
  name_good span _ p = tt

  old_good : (o : Option Node) → GoodNode o → GoodName (old_name texts o)
  old_good None h = tt
  old_good (Some n) h = name_good (out-Node n).span (kind_of n) (parts P h).0

  lone_good : (cs : List Node) → Each P cs → GoodNode (lone_name cs)
  lone_good [] h = tt
  lone_good (a ∷ []) h = tt
  lone_good (a ∷ b ∷ []) (more h hs) = by (kind_is_absent b)
    where
      by : (gone : Bool) → GoodNode (cond gone (Some a) None)
      by true = h
      by false = tt
  lone_good (a ∷ b ∷ c ∷ cs) h = tt

  first_good : (cs : List Node) → Each P cs → GoodNode (first_item cs)
  first_good [] h = tt
  first_good (a ∷ cs) (more h hs) = h

  key_good : (cs : List Node) → Each P cs → GoodNode (key_name cs)
  key_good [] h = tt
  key_good (a ∷ []) h = tt
  key_good (a ∷ b ∷ []) (more h hs) = first_good (children_of a) (parts P h).1
  key_good (a ∷ b ∷ c ∷ cs) h = tt

  shorthand_good : (s : Spot) (n : Node) → Everywhere P n → GoodNode (shorthand s n)
  shorthand_good spot.Property n h = h
  shorthand_good _ n h = tt

  unless_good : (b : Bool) (o : Option Node) → GoodNode o → GoodNode (cond b None o)
  unless_good true o h = tt
  unless_good false o h = h

  shared_good : (stands : Standing) (k : Kind) (n : Node) → Everywhere P n → GoodNode (shared_by stands k n)
  unfolding shared_by
  shared_good stands (kind.Ident text ctxt optional) n h = shorthand_good stands.spot n h
  shared_good stands (kind.ImportNamedSpecifier is_type_only) n h = lone_good (children_of n) (parts P h).1
  shared_good stands (kind.ExportNamedSpecifier is_type_only) n h = unless_good (is_sourced stands.role) (lone_name (children_of n)) (lone_good (children_of n) (parts P h).1)
  shared_good stands kind.AssignPatProp n h = key_good (children_of n) (parts P h).1
  shared_good stands _ n h = tt

  -- ---- a node that is written out

  default_good : (span : Span) (a b : Node) → Everywhere Q a → Everywhere Q b → Everywhere Q (with_default span a b)
  default_good span a b h g = by (kind_is_absent b)
    where
      by : (gone : Bool) → Everywhere Q (cond gone a (node_of span kind.AssignPat (a ∷ b ∷ [])))
      by true = h
      by false = everywhere span kind.AssignPat default (more h (more g none))

  module _ (o : OldName) (good : Q (kind.IdentName o.text) × Q (kind.Ident o.text 0 false)) (span : Span) where
    key_of_good : Everywhere Q (key_of o)
    key_of_good = everywhere o.span (kind.IdentName o.text) good.0 none

    brackets_good : (place : Span) → Everywhere Q (proto_in_brackets place)
    brackets_good place = everywhere place kind.ComputedPropName brackets.0 (more (everywhere place proto_literal brackets.1 none) none)

    property_key_good : Everywhere Q (property_key o)
    property_key_good = by (bytes_eq o.text proto)
      where
        by : (b : Bool) → Everywhere Q (cond b (proto_in_brackets o.span) (key_of o))
        by true = brackets_good o.span
        by false = key_of_good

    names_good : (cs : List Node) → Each Q cs → Each Q (two_names o cs)
    names_good [] h = h
    names_good (a ∷ []) h = h
    names_good (a ∷ b ∷ []) (more h hs) = more h (more (everywhere o.span (kind.Ident o.text 0 false) good.1 none) none)
    names_good (a ∷ b ∷ c ∷ cs) h = h

    pattern_good : (cs : List Node) → Q kind.AssignPatProp → Each Q cs → Everywhere Q (grown_pattern o span cs)
    pattern_good [] q h = everywhere span kind.AssignPatProp q h
    pattern_good (a ∷ []) q h = everywhere span kind.AssignPatProp q h
    pattern_good (a ∷ b ∷ []) q (more h (more g none)) = everywhere span kind.KeyValuePatProp pattern_property (more key_of_good (more (default_good span a b h g) none))
    pattern_good (a ∷ b ∷ c ∷ cs) q h = everywhere span kind.AssignPatProp q h

  grown_good : (o : Option OldName) → GoodName o → (span : Span) (k : Kind) (cs : List Node) → Q k → Each Q cs → Everywhere Q (grown o span k cs)
  grown_good None g span k cs q h = everywhere span k q h
  grown_good (Some o) g span (kind.Ident text ctxt optional) cs q h = everywhere span kind.KeyValueProp property (more (property_key_good o g span) (more (everywhere span (kind.Ident text ctxt optional) q h) none))
  grown_good (Some o) g span (kind.ImportNamedSpecifier is_type_only) cs q h = everywhere span (kind.ImportNamedSpecifier is_type_only) q (names_good o g span cs h)
  grown_good (Some o) g span (kind.ExportNamedSpecifier is_type_only) cs q h = everywhere span (kind.ExportNamedSpecifier is_type_only) q (names_good o g span cs h)
  grown_good (Some o) g span kind.AssignPatProp cs q h = pattern_good o g span cs q h
  grown_good (Some o) g span k cs q h = everywhere span k q h

  -- ---- a tree

  abbrev Kept : Node → Type 0
  Kept n = Everywhere P n → (stands : Standing) → Everywhere Q (become texts n stands)

  each_kept : (cs : List Node) → EachChild Kept cs → Each P cs → (stands : ℕ → Standing) (i : ℕ) → Each Q (all_become texts stands i cs)
  each_kept [] e none stands i = none
  each_kept (c ∷ cs) e (more a h) stands i = more (e.0 a (stands i)) (each_kept cs e.1 h stands (suc i))

  node_kept : (n : Node) → EachChild Kept (children_of n) → Kept n
  node_kept n below h stands =
      let p = parts P h in
      subst (Everywhere Q) (sym (become-out texts n stands))
      (grown_good (old_of texts n stands) (old_good (shared_by stands (kind_of n) n) (shared_good stands (kind_of n) n h)) (out-Node n).span (own_kind texts n stands) (children_become texts n stands)
      (written (is_name stands.role) (kind_of n) p.0) (each_kept (children_of n) below p.1 (standing_in stands n) 0))

  pub everywhere_renamed : (tree : Node) → Everywhere P tree → Everywhere Q (renamed texts tree)
  everywhere_renamed tree h = from_children Kept node_kept tree h at_root
