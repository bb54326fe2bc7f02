-- Parts of a tree with final texts, written out, are the renamed parts written out.
use Rattle.std.proofs.Common.{◌≡◌, ◌⊎◌, inl, inr, refl, sym, ap, ap₂, ◌∙◌, subst, ℕ, suc, ◌==◌, List, [], ◌∷◌, map, Option, Some, None, Bool, true, false, cond, bytes_eq, unwrap_or}
use Rattle.std.proofs.lemmas.Bool.{eqb-true}
use Rattle.std.proofs.lemmas.Slice.Eq.{bytes_eq-Decides}
use Rattle.ecma_kind.specs.declared.kind.Kind.{Kind}
use Rattle.ecma_kind.specs.declared.kind.Kind.TheVariants as kind
use Rattle.ecma_kind.specs.declared.span.Span.{Span}
use Rattle.ecma_tree.specs.declared.node.Node.{Node, Node-F, out-Node}
use Rattle.ecma_tree.specs.declared.node.Node.TheViews.{out-roll-Node, roll-out-Node}
use Rattle.ecma_tree.specs.Nodes.{node_of}
use Rattle.ecma_tree.specs.Sorted.{is_absent}
use Rattle.ecma_hygiene.specs.declared.spot.Spot.{Spot}
use Rattle.ecma_hygiene.specs.declared.spot.Spot.TheVariants as spot
use Rattle.ecma_hygiene.specs.declared.spot.Standing.{Standing}
use Rattle.ecma_hygiene.specs.Renamed.{Texts, changed_from, kind_is_absent, name_of, proto, proto_in_brackets, proto_literal, text_of, with_default}
use Rattle.ecma_hygiene_scopes.proofs.Growing.{OldName}
use Rattle.ecma_hygiene_scopes.proofs.KindsTurned.{turned_kind}
use Rattle.ecma_runs.specs.State.{Id}
use Rattle.ecma_runs.specs.Names.{renamed, renamed_ident}
use Rattle.ecma_hygiene_runs.specs.WrittenOut.{identifier_by, key_node, leaf_text, name_node, other_by, other_out, pattern_by, pattern_with, property_key_node, property_out, written_out}
use Rattle.ecma_hygiene_runs.specs.FinalTexts.{final_id, has_text, is_outer, is_text}
use Rattle.ecma_hygiene_runs.proofs.Parts.{all_become, become, contexts, default-out, finished, out-flag, out-of, parts_of, properties-of, properties_of, property-of, property_of, renamed-absent, renamed-default, renamed-flag, renamed-of}

abbrev pub is_ident : Kind → Bool
is_ident (kind.Ident sym ctxt optional) = true
is_ident _ = false

-- names in patterns

pub record Leaf (n : Node) : Type 0 where
  pub span : Span
  pub text : List ℕ
  pub ctxt : ℕ
  pub optional : Bool
  pub is : n ≡ node_of span (kind.Ident text ctxt optional) []

leaf-by : (n : Node) (span : Span) (k : Kind) (cs : List Node) → node_of span k cs ≡ n → is_text (leaf_text k cs) ≡ true → Leaf n
leaf-by n span (kind.Ident text ctxt optional) [] is e = record { span = span; text = text; ctxt = ctxt; optional = optional; is = sym is }
leaf-by n span (kind.Ident text ctxt optional) (c ∷ cs) is e = absurd (cc)
leaf-by n span _ cs is e = absurd (cc)

pub record Named (n : Node) : Type 0 where
  pub span : Span
  pub id : Node
  pub annotation : Node
  pub leaf : Leaf id
  pub is : n ≡ node_of span kind.BindingIdent (id ∷ annotation ∷ [])

named-by : (n : Node) (span : Span) (k : Kind) (cs : List Node) → node_of span k cs ≡ n → has_text (identifier_by k cs) ≡ true → Named n
named-by n span kind.BindingIdent (id ∷ annotation ∷ []) is e =
    record { span = span; id = id; annotation = annotation; leaf = leaf-by id (out-Node id).span (out-Node id).kind (out-Node id).children (roll-out-Node id) e; is = sym is }
named-by n span kind.BindingIdent [] is e = absurd (cc)
named-by n span kind.BindingIdent (a ∷ []) is e = absurd (cc)
named-by n span kind.BindingIdent (a ∷ b ∷ c ∷ cs) is e = absurd (cc)
named-by n span _ cs is e = absurd (cc)

pub named : (n : Node) → has_text (identifier_by (out-Node n).kind (out-Node n).children) ≡ true → Named n
named n e = named-by n (out-Node n).span (out-Node n).kind (out-Node n).children (roll-out-Node n) e

pub named-out : (name : Node) (n : Named name) → written_out name ≡ node_of n.span kind.BindingIdent (node_of n.leaf.span (kind.Ident n.leaf.text n.leaf.ctxt n.leaf.optional) [] ∷ written_out n.annotation ∷ [])
named-out name n =
    ap written_out n.is ∙ out-of n.span kind.BindingIdent (n.id ∷ n.annotation ∷ [])
    ∙ ap (λ id. node_of n.span kind.BindingIdent (id ∷ written_out n.annotation ∷ [])) (ap written_out n.leaf.is ∙ out-of n.leaf.span (kind.Ident n.leaf.text n.leaf.ctxt n.leaf.optional) [])

pub pattern-out : (span place lies : Span) (text : List ℕ) (ctxt : ℕ) (optional : Bool) (annotation name default : Node) (parts : Node-F Node) → name ≡ node_of place kind.BindingIdent (node_of lies (kind.Ident text ctxt optional) [] ∷ annotation ∷ [])
    → pattern_by (identifier_by (out-Node name).kind (out-Node name).children) span name default parts ≡ node_of span kind.KeyValuePatProp (key_node lies text ∷ with_default span name default ∷ [])
pattern-out span place lies text ctxt optional annotation name default parts is =
    let id = node_of lies (kind.Ident text ctxt optional) [] in
    ap (λ z. pattern_by (identifier_by z.kind z.children) span name default parts) (ap out-Node is ∙ out-roll-Node (parts_of place kind.BindingIdent (id ∷ annotation ∷ [])))
    ∙ ap (λ z. pattern_with (leaf_text z.kind z.children) z.span span name default parts) (out-roll-Node (parts_of lies (kind.Ident text ctxt optional) []))

-- the other name of a specifier

pub other-there : (name other : Node) → kind_is_absent other ≡ false → other_out name other ≡ other
other-there name other e = ap (λ b. cond b (other_by (out-Node name).kind (out-Node name).span other) other) e

pub other-known : (name other : Node) (span : Span) (text : List ℕ) (ctxt : ℕ) (optional : Bool) (cs : List Node) → name ≡ node_of span (kind.Ident text ctxt optional) cs → kind_is_absent other ≡ true → other_out name other ≡ name_node span text
other-known name other span text ctxt optional cs is e =
    ap (λ b. cond b (other_by (out-Node name).kind (out-Node name).span other) other) e
    ∙ ap (λ z. other_by z.kind z.span other) (ap out-Node is ∙ out-roll-Node (parts_of span (kind.Ident text ctxt optional) cs))

other-by : (k : Kind) (span : Span) (other : Node) → is_ident k ≡ false → other_by k span other ≡ other
other-by (kind.Ident text ctxt optional) span other e = absurd (cc)
other-by _ span other e = refl

both-other : (b : Bool) (other : Node) → cond b other other ≡ other
both-other true other = refl
both-other false other = refl

pub other-unknown : (name other : Node) → is_ident (out-Node name).kind ≡ false → other_out name other ≡ other
other-unknown name other e = ap (λ n. cond (kind_is_absent other) n other) (other-by (out-Node name).kind (out-Node name).span other e) ∙ both-other (kind_is_absent other) other

-- where properties are no others

pub finished-plain : (s : Spot) (span : Span) (k : Kind) (cs : List Node) → property_of span k cs ≡ node_of span k cs → properties_of span k cs ≡ node_of span k cs → finished s (node_of span k cs) ≡ node_of span k cs
finished-plain spot.Properties span k cs e f = properties-of span k cs ∙ f
finished-plain spot.Property span k cs e f = property-of span k cs ∙ e
finished-plain spot.Elsewhere span k cs e f = refl

module _ (onto : ℕ → ℕ) (texts : Texts) (none : onto 0 ≡ 0) (empty : (text : List ℕ) → text_of texts (text, 0) ≡ text) where
  abbrev pub to : Id → Id
  to = final_id onto texts

  pub outer-stays : (text : List ℕ) (ctxt : ℕ) → ctxt == 0 ≡ true → text_of texts (text, ctxt) ≡ text
  outer-stays text ctxt e = ap (λ c. text_of texts (text, c)) (eqb-true ctxt 0 e) ∙ empty text

  pub kind-final : (named : Bool) (k : Kind) → is_outer named k ≡ true → turned_kind (contexts onto) texts named k ≡ renamed_ident to k
  kind-final false (kind.Ident text ctxt optional) h = refl
  kind-final false _ h = refl
  kind-final true (kind.Ident text ctxt optional) h = ap (λ t. kind.Ident t (onto ctxt) optional) (sym (outer-stays text ctxt h))
  kind-final true _ h = refl

  -- the old text of an identifier: none, where it stays
  abbrev pub Olds : Option OldName → List ℕ → ℕ → Span → Type 0
  Olds o text ctxt span = ((o ≡ None) × (text_of texts (text, ctxt) ≡ text)) ⊎ (o ≡ Some (record { text = text; span = span }))

  olds-by : (q : Option (List ℕ)) (text : List ℕ) (span : Span) → ((changed_from q text span ≡ None) × (unwrap_or q text ≡ text)) ⊎ (changed_from q text span ≡ Some (record { text = text; span = span }))
  olds-by None text span = inl (refl, refl)
  olds-by (Some t) text span = go (bytes_eq t text) refl
    where
      go : (b : Bool) → bytes_eq t text ≡ b → ((changed_from (Some t) text span ≡ None) × (t ≡ text)) ⊎ (changed_from (Some t) text span ≡ Some (record { text = text; span = span }))
      go true e = inl (ap (λ b. cond b None (Some (record { text = text; span = span }))) e, (bytes_eq-Decides t text).0 e)
      go false e = inr (ap (λ b. cond b None (Some (record { text = text; span = span }))) e)

  pub olds : (text : List ℕ) (ctxt : ℕ) (span : Span) → Olds (changed_from (texts (text, ctxt)) text span) text ctxt span
  olds text ctxt span = olds-by (texts (text, ctxt)) text span

  -- keys and names for others stay

  key-out : (span : Span) (text : List ℕ) → written_out (key_node span text) ≡ key_node span text
  key-out span text = out-of span (kind.IdentName text) []

  key-renamed : (span : Span) (text : List ℕ) → renamed to (key_node span text) ≡ key_node span text
  key-renamed span text = renamed-of to span (kind.IdentName text) []

  brackets-out : (span : Span) → written_out (proto_in_brackets span) ≡ proto_in_brackets span
  brackets-out span = out-of span kind.ComputedPropName (node_of span proto_literal [] ∷ []) ∙ ap (λ n. node_of span kind.ComputedPropName (n ∷ [])) (out-of span proto_literal [])

  brackets-renamed : (span : Span) → renamed to (proto_in_brackets span) ≡ proto_in_brackets span
  brackets-renamed span =
      renamed-of to span kind.ComputedPropName (node_of span proto_literal [] ∷ []) ∙ ap (λ n. node_of span kind.ComputedPropName (n ∷ [])) (renamed-of to span proto_literal [])

  pub property-key-out : (span : Span) (text : List ℕ) → written_out (property_key_node span text) ≡ property_key_node span text
  property-key-out span text = by (bytes_eq text proto)
    where
      by : (b : Bool) → written_out (cond b (proto_in_brackets span) (key_node span text)) ≡ cond b (proto_in_brackets span) (key_node span text)
      by true = brackets-out span
      by false = key-out span text

  pub property-key-renamed : (span : Span) (text : List ℕ) → renamed to (property_key_node span text) ≡ property_key_node span text
  property-key-renamed span text = by (bytes_eq text proto)
    where
      by : (b : Bool) → renamed to (cond b (proto_in_brackets span) (key_node span text)) ≡ cond b (proto_in_brackets span) (key_node span text)
      by true = brackets-renamed span
      by false = key-renamed span text

  pub name-out : (span : Span) (text : List ℕ) → written_out (name_node span text) ≡ name_node span text
  name-out span text = out-of span (kind.Ident text 0 false) []

  pub name-renamed : (span : Span) (text : List ℕ) → renamed to (name_node span text) ≡ name_node span text
  name-renamed span text = renamed-of to span (kind.Ident text 0 false) [] ∙ ap₂ (λ t c. node_of span (kind.Ident t c false) []) (empty text) none

  name-there : (span : Span) (text : List ℕ) → kind_is_absent (name_node span text) ≡ false
  name-there span text = ap (λ z. is_absent z.kind) (out-roll-Node (parts_of span (kind.Ident text 0 false) []))

  -- children, of which the first is the one at i

  abbrev pub Final : (ℕ → Standing) → ℕ → List Node → Type 0
  Final stands i [] = Unit {0}
  Final stands i (c ∷ cs) =
      (finished (stands i).spot (written_out (become onto texts c (stands i))) ≡ renamed to (finished (stands i).spot (written_out c))) × Final stands (suc i) cs

  abbrev pub Stand : Spot → (ℕ → Standing) → ℕ → List Node → Type 0
  Stand s stands i [] = Unit {0}
  Stand s stands i (c ∷ cs) = ((stands i).spot ≡ s) × Stand s stands (suc i) cs

  pub all-stand : (s : Spot) (stands : ℕ → Standing) → ((i : ℕ) → (stands i).spot ≡ s) → (i : ℕ) (cs : List Node) → Stand s stands i cs
  all-stand s stands h i [] = tt
  all-stand s stands h i (c ∷ cs) = (h i, all-stand s stands h (suc i) cs)

  pub all-elsewhere : (stands : ℕ → Standing) (i : ℕ) (cs : List Node) → Stand spot.Elsewhere stands i cs → Final stands i cs → map written_out (all_become onto texts stands i cs) ≡ map (renamed to) (map written_out cs)
  all-elsewhere stands i [] h f = refl
  all-elsewhere stands i (c ∷ cs) h f =
      ap₂ (λ a rest. a ∷ rest) (subst (λ s. finished s (written_out (become onto texts c (stands i))) ≡ renamed to (finished s (written_out c))) h.0 f.0) (all-elsewhere stands (suc i) cs h.1 f.1)

  pub all-properties : (stands : ℕ → Standing) (i : ℕ) (cs : List Node) → Stand spot.Property stands i cs → Final stands i cs
      → map property_out (map written_out (all_become onto texts stands i cs)) ≡ map (renamed to) (map property_out (map written_out cs))
  all-properties stands i [] h f = refl
  all-properties stands i (c ∷ cs) h f =
      ap₂ (λ a rest. a ∷ rest) (subst (λ s. finished s (written_out (become onto texts c (stands i))) ≡ renamed to (finished s (written_out c))) h.0 f.0) (all-properties stands (suc i) cs h.1 f.1)

  -- patterns

  module _ (span : Span) (name default hn hd : Node) (n : Named name) (en : written_out hn ≡ renamed to (written_out name)) (ed : written_out hd ≡ renamed to (written_out default)) where
    abbrev pub pattern_final : Node
    pattern_final = node_of span kind.KeyValuePatProp (key_node n.leaf.span n.leaf.text ∷ with_default span (renamed to (written_out name)) (renamed to (written_out default)) ∷ [])

    name-final : renamed to (written_out name)
        ≡ node_of n.span kind.BindingIdent (node_of n.leaf.span (kind.Ident (text_of texts (n.leaf.text, n.leaf.ctxt)) (onto n.leaf.ctxt) n.leaf.optional) [] ∷ renamed to (written_out n.annotation) ∷ [])
    name-final =
        ap (renamed to) (named-out name n) ∙ renamed-of to n.span kind.BindingIdent (node_of n.leaf.span (kind.Ident n.leaf.text n.leaf.ctxt n.leaf.optional) [] ∷ written_out n.annotation ∷ [])
        ∙ ap (λ id. node_of n.span kind.BindingIdent (id ∷ renamed to (written_out n.annotation) ∷ [])) (renamed-of to n.leaf.span (kind.Ident n.leaf.text n.leaf.ctxt n.leaf.optional) [])

    pub pattern-written : written_out (node_of span kind.AssignPatProp (name ∷ default ∷ [])) ≡ node_of span kind.KeyValuePatProp (key_node n.leaf.span n.leaf.text ∷ with_default span (written_out name) (written_out default) ∷ [])
    pattern-written =
        out-of span kind.AssignPatProp (name ∷ default ∷ [])
        ∙ pattern-out span n.span n.leaf.span n.leaf.text n.leaf.ctxt n.leaf.optional (written_out n.annotation) (written_out name) (written_out default) _ (named-out name n)

    -- renamed
    pub pattern-renamed : renamed to (written_out (node_of span kind.AssignPatProp (name ∷ default ∷ []))) ≡ pattern_final
    pattern-renamed =
        ap (renamed to) pattern-written
        ∙ renamed-of to span kind.KeyValuePatProp (key_node n.leaf.span n.leaf.text ∷ with_default span (written_out name) (written_out default) ∷ [])
        ∙ ap₂ (λ a b. node_of span kind.KeyValuePatProp (a ∷ b ∷ [])) (key-renamed n.leaf.span n.leaf.text) (renamed-default to span (written_out name) (written_out default))

    -- with the text that stays
    pub pattern-stays : text_of texts (n.leaf.text, n.leaf.ctxt) ≡ n.leaf.text → written_out (node_of span kind.AssignPatProp (hn ∷ hd ∷ [])) ≡ pattern_final
    pattern-stays stays =
        out-of span kind.AssignPatProp (hn ∷ hd ∷ [])
        ∙ pattern-out span n.span n.leaf.span (text_of texts (n.leaf.text, n.leaf.ctxt)) (onto n.leaf.ctxt) n.leaf.optional (renamed to (written_out n.annotation)) (written_out hn) (written_out hd) _ (en ∙ name-final)
        ∙ (λ i. node_of span kind.KeyValuePatProp (key_node n.leaf.span (stays i) ∷ with_default span (en i) (ed i) ∷ []))

    -- with another one
    pub pattern-changes : written_out (node_of span kind.KeyValuePatProp (key_node n.leaf.span n.leaf.text ∷ with_default span hn hd ∷ [])) ≡ pattern_final
    pattern-changes =
        out-of span kind.KeyValuePatProp (key_node n.leaf.span n.leaf.text ∷ with_default span hn hd ∷ [])
        ∙ ap₂ (λ a b. node_of span kind.KeyValuePatProp (a ∷ b ∷ [])) (key-out n.leaf.span n.leaf.text) (default-out span hn hd ∙ ap₂ (λ a b. with_default span a b) en ed)

  -- specifiers

  -- what is known of the old text of a specifier's name
  pub record Known (o : Option OldName) (name other : Node) : Type 0 where
    pub there : kind_is_absent other ≡ false → o ≡ None
    pub unknown : is_ident (out-Node name).kind ≡ false → o ≡ None
    pub known : (text : List ℕ) (ctxt : ℕ) (optional : Bool) → (out-Node name).kind ≡ kind.Ident text ctxt optional → kind_is_absent other ≡ true → Olds o text ctxt (out-Node name).span

  abbrev pub second_of : Option OldName → Node → Node
  second_of None other = other
  second_of (Some old) other = name_of old

  module _ (o : Option OldName) (name other hn ho : Node) (en : written_out hn ≡ renamed to (written_out name)) (eo : written_out ho ≡ renamed to (written_out other)) (k : Known o name other) where
    absent-final : kind_is_absent (written_out ho) ≡ kind_is_absent other
    absent-final = ap kind_is_absent eo ∙ renamed-absent to (written_out other) ∙ out-flag is_absent refl other

    abbrev Agree : Type 0
    Agree = other_out (written_out hn) (written_out (second_of o ho)) ≡ renamed to (other_out (written_out name) (written_out other))

    agree-none : o ≡ None → other_out (written_out hn) (written_out ho) ≡ renamed to (other_out (written_out name) (written_out other)) → Agree
    agree-none is e = ap (λ z. other_out (written_out hn) (written_out (second_of z ho))) is ∙ e

    ident-out : is_ident (out-Node (written_out name)).kind ≡ is_ident (out-Node name).kind
    ident-out = out-flag is_ident refl name

    ident-same : (k : Kind) → is_ident (renamed_ident to k) ≡ is_ident k
    ident-same (kind.Ident text ctxt optional) = refl
    ident-same _ = refl

    by-kind : kind_is_absent other ≡ true → (z : Kind) → (out-Node name).kind ≡ z → Agree
    by-kind missing (kind.Ident text ctxt optional) is =
        let span = (out-Node name).span in
        let cs = (out-Node name).children in
        let n : name ≡ node_of span (kind.Ident text ctxt optional) cs = sym (roll-out-Node name) ∙ ap (λ z. node_of span z cs) is in
        let w : written_out name ≡ node_of span (kind.Ident text ctxt optional) (map written_out cs) = ap written_out n ∙ out-of span (kind.Ident text ctxt optional) cs in
        let r : renamed to (written_out name) ≡ node_of span (kind.Ident (text_of texts (text, ctxt)) (onto ctxt) optional) (map (renamed to) (map written_out cs)) =
        ap (renamed to) w ∙ renamed-of to span (kind.Ident text ctxt optional) (map written_out cs) in
        let right : renamed to (other_out (written_out name) (written_out other)) ≡ name_node span text =
        ap (renamed to) (other-known (written_out name) (written_out other) span text ctxt optional (map written_out cs) w (out-flag is_absent refl other ∙ missing)) ∙ name-renamed span text in
        elim (k.known text ctxt optional is missing) [
          | inl stays ↦ agree-none stays.0
              (other-known (written_out hn) (written_out ho) span (text_of texts (text, ctxt)) (onto ctxt) optional (map (renamed to) (map written_out cs)) (en ∙ r) (absent-final ∙ missing) ∙ ap (λ t. name_node span t) stays.1 ∙ sym right)
          | inr changes ↦ ap (λ z. other_out (written_out hn) (written_out (second_of z ho))) changes ∙ ap (λ z. other_out (written_out hn) z) (name-out span text)
              ∙ other-there (written_out hn) (name_node span text) (name-there span text) ∙ sym right
        ]
    by-kind missing z is = other-kind z is refl
      where
        other-kind : (z : Kind) → (out-Node name).kind ≡ z → is_ident z ≡ false → Agree
        other-kind z is apart =
            let known : is_ident (out-Node name).kind ≡ false = ap is_ident is ∙ apart in
            agree-none (k.unknown known)
            (other-unknown (written_out hn) (written_out ho) (ap (λ m. is_ident (out-Node m).kind) en ∙ renamed-flag to is_ident ident-same (written_out name) ∙ ident-out ∙ known)
            ∙ eo ∙ sym (ap (renamed to) (other-unknown (written_out name) (written_out other) (ident-out ∙ known))))

    by-absent : (b : Bool) → kind_is_absent other ≡ b → Agree
    by-absent true e = by-kind e (out-Node name).kind refl
    by-absent false e =
        agree-none (k.there e)
        (other-there (written_out hn) (written_out ho) (absent-final ∙ e) ∙ eo ∙ sym (ap (renamed to) (other-there (written_out name) (written_out other) (out-flag is_absent refl other ∙ e))))

    pub others-agree : Agree
    others-agree = by-absent (kind_is_absent other) refl
