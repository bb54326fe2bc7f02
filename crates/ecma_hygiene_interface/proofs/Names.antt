-- Identifiers with other texts, and the names that others have, which keep theirs.
use Rattle.std.proofs.Common.{◌≡◌, ◌∙◌, ◌||◌, ◌&&◌, not, ℕ, suc, Bool, true, false, cond, List, [], ◌∷◌, map, Option, Some, None, refl, sym, ap, ap₂}
use Rattle.std.specs.Prelude.{unwrap_or}
use Rattle.std.proofs.lemmas.Slice.Eq.{bytes_eq-Decides}
use Rattle.ecma_kind.specs.declared.kind.Kind.{Kind}
use Rattle.ecma_kind.specs.declared.kind.Kind.TheVariants as kind
use Rattle.ecma_kind.specs.declared.span.Span.{Span}
use Rattle.ecma_tree.specs.declared.node.Node.{Node, out-Node}
use Rattle.ecma_tree.specs.Values.{holds_ambient, is_function, is_value_where, value_by}
use Rattle.ecma_tree.proofs.Valuing.{is_value_where-out, value_where_by}
use Rattle.ecma_rules.specs.Children.{kind_of}
use Rattle.ecma_scope.specs.Resolved.{is_name}
use Rattle.ecma_hygiene.specs.declared.spot.Spot.TheVariants as spot
use Rattle.ecma_hygiene.specs.declared.spot.Standing.{Standing}
use Rattle.ecma_hygiene.specs.Renamed.{Texts, changed_from, kind_with_text, old_name, shared_by, shorthand, standing_in, text_of}
use Rattle.ecma_hygiene_scopes.proofs.Growing.{grown}
use Rattle.ecma_hygiene_scopes.proofs.Parts.{children-of, kind-of}
use Rattle.ecma_hygiene_fits.proofs.Becoming.{all_become, become, become-out, children_become, children_stay, is_touched, kind_stays, stays_touched}
use Rattle.ecma_hygiene_fits.proofs.Everywhere.{Each, children_of, everywhere}

-- no shorthand is in the spot of a child but of a list
abbrev pub IsElsewhere : Standing → Type 0
IsElsewhere stands = stands.spot ≡ spot.Elsewhere

module _ (texts : Texts) where
  -- what gets its own text gets no other
  pub unchanged : (t : Option (List ℕ)) (s : List ℕ) (span : Span) → unwrap_or t s ≡ s → changed_from t s span ≡ None
  unchanged None s span e = refl
  unchanged (Some t) s span e = ap (λ b. cond b None (Some (record { text = s; span = span }))) ((bytes_eq-Decides t s).1 e)

  -- a node of which no name is shared stays but for its text and its children
  plain_become : (n : Node) (stands : Standing) → old_name texts (shared_by stands (kind_of n) n) ≡ None
      → become texts n stands ≡ grown None (out-Node n).span (kind_with_text texts (is_name stands.role) (kind_of n)) (children_become texts n stands)
  plain_become n stands e = become-out texts n stands ∙ ap (λ o. grown o (out-Node n).span (kind_with_text texts (is_name stands.role) (kind_of n)) (children_become texts n stands)) e

  pub plain_kind_of : (n : Node) (stands : Standing) → old_name texts (shared_by stands (kind_of n) n) ≡ None → kind_of (become texts n stands) ≡ kind_with_text texts (is_name stands.role) (kind_of n)
  plain_kind_of n stands e =
      ap kind_of (plain_become n stands e) ∙ kind-of (out-Node n).span (kind_with_text texts (is_name stands.role) (kind_of n)) (children_become texts n stands)

  pub plain_children_of : (n : Node) (stands : Standing) → old_name texts (shared_by stands (kind_of n) n) ≡ None → children_of (become texts n stands) ≡ children_become texts n stands
  plain_children_of n stands e =
      ap children_of (plain_become n stands e) ∙ children-of (out-Node n).span (kind_with_text texts (is_name stands.role) (kind_of n)) (children_become texts n stands)

  none_shared : (n : Node) (s : List ℕ) (c : ℕ) (o : Bool) → kind_of n ≡ kind.Ident s c o → (stands : Standing) → IsElsewhere stands → old_name texts (shared_by stands (kind_of n) n) ≡ None
  unfolding shared_by
  none_shared n s c o e stands elsewhere =
      ap (λ k. old_name texts (shared_by stands k n)) e ∙ ap (λ z. old_name texts (shorthand z n)) elsewhere

  -- an identifier gets its text
  pub ident_become : (n : Node) (s : List ℕ) (c : ℕ) (o : Bool) → kind_of n ≡ kind.Ident s c o → (stands : Standing) → is_name stands.role ≡ false → IsElsewhere stands → kind_of (become texts n stands) ≡ kind.Ident (text_of texts (s, c)) c o
  ident_become n s c o e stands role elsewhere =
      plain_kind_of n stands (none_shared n s c o e stands elsewhere) ∙ ap₂ (λ b k. kind_with_text texts b k) role e

  -- a name that others have stays
  pub name_become : (n : Node) (s : List ℕ) (c : ℕ) (o : Bool) → kind_of n ≡ kind.Ident s c o → (stands : Standing) → is_name stands.role ≡ true → IsElsewhere stands → kind_of (become texts n stands) ≡ kind.Ident s c o
  name_become n s c o e stands role elsewhere =
      plain_kind_of n stands (none_shared n s c o e stands elsewhere) ∙ ap₂ (λ b k. kind_with_text texts b k) role e

  -- ---- values

  touched_value : (s : Bool) (k : Kind) (cs : List Node) → is_touched k ≡ true → value_where_by s k cs ≡ true
  unfolding is_touched value_by
  touched_value s (kind.Ident t c o) cs h = refl
  touched_value s kind.KeyValueProp cs h = refl
  touched_value s kind.AssignPatProp cs h = refl
  touched_value s kind.KeyValuePatProp cs h = refl
  touched_value s (kind.ImportNamedSpecifier t) cs h = refl
  touched_value s (kind.ExportNamedSpecifier t) cs h = refl
  touched_value s _ cs h = cc

  abbrev SameValue : Node → Type 0
  SameValue n = (s : Bool) (stands : Standing) → is_value_where s (become texts n stands) ≡ is_value_where s n

  all_value : (cs : List Node) → Each SameValue cs → (s : Bool) (stands : ℕ → Standing) (i : ℕ) → map (is_value_where s) (all_become texts stands i cs) ≡ map (is_value_where s) cs
  all_value [] e s stands i = refl
  all_value (c ∷ cs) e s stands i = ap₂ (λ b bs. b ∷ bs) (e.0 s (stands i)) (all_value cs e.1 s stands (suc i))

  node_value : (n : Node) → Each SameValue (children_of n) → SameValue n
  node_value n below s stands = by (is_touched (kind_of n)) refl
    where
      by : (t : Bool) → is_touched (kind_of n) ≡ t → is_value_where s (become texts n stands) ≡ is_value_where s n
      by true t =
          is_value_where-out s (become texts n stands) ∙ touched_value s (kind_of (become texts n stands)) (children_of (become texts n stands)) (stays_touched texts n stands t)
          ∙ sym (is_value_where-out s n ∙ touched_value s (kind_of n) (children_of n) t)
      by false u =
          is_value_where-out s (become texts n stands)
          ∙ ap₂ (value_where_by s) (kind_stays texts n stands u) (children_stay texts n stands u)
          ∙ ap (λ vs. (is_function (kind_of n) && not s) || value_by (kind_of n) vs) (all_value (children_of n) below (not (holds_ambient (kind_of n)) && s) (standing_in stands n) 0)
          ∙ sym (is_value_where-out s n)

  pub value_become : (n : Node) → SameValue n
  value_become = everywhere SameValue node_value
