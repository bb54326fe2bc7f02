-- The attributes of imports and exports have their shapes.
use Rattle.std.proofs.Common.{◌≡◌, ◌∙◌, refl, sym, ap, subst, ℕ, Bool, true, false, ◌&&◌, List, [], ◌∷◌, slice_get}
use Rattle.std.specs.List.{list_all}
use Rattle.std.proofs.lemmas.Bool.{and_parts}
use Rattle.ecma_kind.specs.declared.span.Span.{Span}
use Rattle.ecma_kind.specs.declared.kind.Kind.{Kind}
use Rattle.ecma_kind.specs.declared.kind.Kind.TheVariants as kind
use Rattle.ecma_kind.specs.declared.shapes.Sort.TheVariants as sort
use Rattle.ecma_tree.specs.declared.node.Node.{Node, out-Node}
use Rattle.ecma_tree.specs.Nodes.{node_of}
use Rattle.ecma_tree.specs.Sorted.{allows, is_absent, maybe, one}
use Rattle.ecma_rules.specs.declared.target.Target.TheVariants as target
use Rattle.ecma_rules.specs.Children.{children_of, kind_of, of_kind}
use Rattle.ecma_rules.specs.Targets.{is_key_value, target_in}
use Rattle.ecma_covers.specs.Covering.{cover_at, cover_in}
use Rattle.ecma_fits.specs.declared.role.Role.TheVariants as role
use Rattle.ecma_fits.specs.Counts.{holds_attributes, is_attribute, is_attribute_key, is_text}
use Rattle.ecma_fits.specs.Roles.{role_in}
use Rattle.ecma_print.specs.Places.{free}
use Rattle.ecma_shapes.specs.Modules.{AreAttributes, IsAttribute, IsAttributeKey, IsWithClause, attribute, more_attributes, no_attributes, no_with, string_key, with_attributes, with_nothing, word_key}
use Rattle.ecma_shapes.specs.Shapes.{IsKey}
use Rattle.ecma_print_shapes.proofs.Blocks.{ItemsIn, items_covered, items_in}
use Rattle.ecma_print_shapes.proofs.Building.{absent_shape}
use Rattle.ecma_print_shapes.proofs.ByKind.{made_as, seen_as, sort_there}
use Rattle.ecma_print_shapes.proofs.Claims.{seen}
use Rattle.ecma_print_shapes.proofs.Covered.{covered}
use Rattle.ecma_print_shapes.proofs.ExportNames.{string_formed}
use Rattle.ecma_print_shapes.proofs.Keys.{plain_name}
use Rattle.ecma_print_shapes.proofs.Lists.{cover_of_list}
use Rattle.ecma_print_shapes.proofs.Sound.{Here, Sound}

no : {A : Type 0} → false ≡ true → A
no e = cc

-- a key, and a text

text_kind : (k : Kind) → is_text k ≡ true → allows (one sort.Str) k ≡ true
text_kind (kind.Str value raw) h = refl
text_kind k h = no h

data KeyKind (k : Kind) : Type 0 where
  word_kind : (word : List ℕ) → k ≡ kind.IdentName word → KeyKind k
  string_kind : allows (one sort.Str) k ≡ true → KeyKind k

key_kind : (k : Kind) → is_attribute_key k ≡ true → KeyKind k
key_kind (kind.IdentName word) h = word_kind word refl
key_kind (kind.Str value raw) h = string_kind refl
key_kind k h = no h

key_of : (n : Node) → Sound role.Free (free 1) (one sort.PropName) n → KeyKind (kind_of n) → IsAttributeKey (cover_at n target.Free)
key_of n s (word_kind word e) = word_key (made_as (λ m. IsKey (cover_at m target.Free)) n (kind.IdentName word) e (plain_name (out-Node n).span word (out-Node n).children (seen_as n (kind.IdentName word) e s)))
key_of n s (string_kind is) = string_key (string_formed n s is)

-- attributes

key_value_kind : (k : Kind) → is_key_value k ≡ true → k ≡ kind.KeyValueProp
key_value_kind kind.KeyValueProp h = refl
key_value_kind k h = no h

attribute_here : (at : Span) (cs : List Node) → Here role.Free (free 1) (one sort.PropOrSpread) at kind.KeyValueProp cs → (of_kind is_attribute_key (slice_get cs 0) && of_kind is_text (slice_get cs 1)) ≡ true
    → IsAttribute (cover_at (node_of at kind.KeyValueProp cs) target.Free)
unfolding cover_in target_in role_in
attribute_here at [] h is = absurd h.below
attribute_here at (a ∷ []) h is = absurd h.below.1
attribute_here at (a ∷ b ∷ []) h is =
    let p = and_parts (is_attribute_key (kind_of a)) (is_text (kind_of b)) is in
    subst IsAttribute (sym (covered at kind.KeyValueProp (a ∷ b ∷ []) target.Free refl)) (attribute at (key_of a h.below.0 (key_kind (kind_of a) p.0)) (string_formed b h.below.1.0 (text_kind (kind_of b) p.1)))
attribute_here at (a ∷ b ∷ c ∷ cs) h is = absurd h.below.1.1

attribute_of : (n : Node) → Sound role.Free (free 1) (one sort.PropOrSpread) n → is_attribute n ≡ true → IsAttribute (cover_at n target.Free)
attribute_of n s is =
    let x = out-Node n in
    let p = and_parts (is_key_value x.kind) (of_kind is_attribute_key (slice_get x.children 0) && of_kind is_text (slice_get x.children 1)) is in
    let e = key_value_kind x.kind p.0 in
    made_as (λ m. IsAttribute (cover_at m target.Free)) n kind.KeyValueProp e (attribute_here x.span x.children (seen_as n kind.KeyValueProp e s) p.1)

attributes_of : (cs : List Node) → ItemsIn (free 1) (one sort.PropOrSpread) cs → list_all is_attribute cs ≡ true → AreAttributes (items_covered cs)
attributes_of [] h is = no_attributes
attributes_of (c ∷ cs) h is = let p = and_parts (is_attribute c) (list_all is_attribute cs) is in more_attributes (attribute_of c h.0 p.0) (attributes_of cs h.1 p.1)

-- all of them

clause_of : (at of_list : Span) (cs : List Node) → ItemsIn (free 1) (one sort.PropOrSpread) cs → list_all is_attribute cs ≡ true → IsWithClause (node_of at kind.ObjectLit (node_of of_list kind.List (items_covered cs) ∷ []))
clause_of at of_list [] h is = with_nothing at of_list
clause_of at of_list (c ∷ cs) h is = let p = and_parts (is_attribute c) (list_all is_attribute cs) is in with_attributes at of_list (attribute_of c h.0 p.0) (attributes_of cs h.1 p.1)

clause_here : (at : Span) (cs : List Node) → Here role.Free (free 0) (maybe sort.ObjectLit) at kind.ObjectLit cs → list_all is_attribute (children_of (slice_get cs 0)) ≡ true → IsWithClause (cover_at (node_of at kind.ObjectLit cs) target.Free)
unfolding cover_in target_in role_in
clause_here at [] h is = absurd h.below
clause_here at (a ∷ []) h is =
    let listed = (seen a h.below.0).allowed in
    subst IsWithClause (sym (covered at kind.ObjectLit (a ∷ []) target.Free refl ∙ ap (λ z. node_of at kind.ObjectLit (z ∷ [])) (cover_of_list a listed))) (clause_of at (out-Node a).span (out-Node a).children (items_in a h.below.0 listed) is)
clause_here at (a ∷ b ∷ cs) h is = absurd h.below.1

object_kind : (k : Kind) → allows (one sort.ObjectLit) k ≡ true → k ≡ kind.ObjectLit
object_kind kind.ObjectLit h = refl
object_kind k h = no h

-- what stands behind `with`, or nothing
pub with_formed : (n : Node) → Sound role.Free (free 0) (maybe sort.ObjectLit) n → holds_attributes n ≡ true → IsWithClause (cover_at n target.Free)
with_formed n s is = go (is_absent (kind_of n)) refl
  where
    go : (b : Bool) → is_absent (kind_of n) ≡ b → IsWithClause (cover_at n target.Free)
    go true e = no_with (absent_shape target.Free n s e)
    go false e =
        let k = object_kind (kind_of n) (sort_there sort.ObjectLit (kind_of n) (seen n s).allowed e) in
        made_as (λ m. IsWithClause (cover_at m target.Free)) n kind.ObjectLit k (clause_here (out-Node n).span (out-Node n).children (seen_as n kind.ObjectLit k s) is)
