-- The links of optional chains are read as they are laid out.
use Rattle.std.proofs.Common.{◌≡◌, Bool, true, false, List, [], ◌∷◌, codes, refl}
use Rattle.ecma_kind.specs.declared.kind.Kind.{Kind}
use Rattle.ecma_kind.specs.declared.kind.Kind.TheVariants as kind
use Rattle.ecma_tree.specs.declared.node.Node.{Node}
use Rattle.ecma_tree.specs.Nodes.{absent}
use Rattle.ecma_grammar.specs.declared.production.Part.TheVariants as part
use Rattle.ecma_grammar.specs.declared.production.Link.TheVariants as link
use Rattle.ecma_grammar.specs.productions.Names as names
use Rattle.ecma_grammar.specs.productions.Functions.{arrow_rest}
use Rattle.ecma_grammar.specs.productions.Chains as chains
use Rattle.ecma_grammar.specs.productions.Chains.{arguments, index, links, optional_link}
use Rattle.ecma_print_tokens.specs.Items.{Tok, sign, no_gap, Items, it}
use Rattle.ecma_print_readings.proofs.Machine.{means}
use Rattle.ecma_shapes.specs.Shapes as shapes
use Rattle.ecma_print_readings.proofs.Levels.{means_is}
use Rattle.ecma_print_readings.proofs.Fronts.{exactly, at_token, refuses_at, refused_at}
use Rattle.ecma_print_readings.proofs.Heads.{bare, is_chain, chain_member_made, optional_made}
use Rattle.ecma_print_readings.proofs.Forms.{Laid, s, Reads, Form, link_form}
use Rattle.ecma_print_readings.proofs.Bindings.{Stands, expression_read}
use Rattle.ecma_print_readings.proofs.Members.{IsLinkKey, point_apart, dot_read}
use Rattle.ecma_print_readings.proofs.Elements.{bracket_ends, bracket_apart, key_read}

question_apart : refuses_at (exactly (sign (codes "?."))) (arrow_rest false false) ≡ true
unfolding arrow_rest names.binding_ident
question_apart = refl

abbrev asked : Node → Node
asked base = bare (kind.OptChainExpr true) (base ∷ [])

module _ (assigned : Bool) where
  -- behind `?.`

  question_read : (ts us : Items) (base : Node) → Reads assigned optional_link ts (asked base ∷ []) us → (ys : List Node) (vs : Items) → Reads assigned links us ys vs → Reads assigned links (s (codes "?.") ts) (asked base ∷ ys) vs
  unfolding links chains.optional_body
  question_read ts us base h ys vs r = rw (means_is assigned (part.Link link.Optional) ts, h, r) refl

  named_read : {t : Tok} {q : Kind} → IsLinkKey t q → (us : Items) → Reads assigned optional_link (it no_gap t us) (asked (bare kind.MemberExpr (absent ∷ bare q [] ∷ [])) ∷ []) us
  unfolding optional_link
  named_read {t} K us =
      rw (refused_at assigned (means assigned) arguments (exactly t) (it no_gap t us) at_token K.no_arguments, refused_at assigned (means assigned) index (exactly t) (it no_gap t us) at_token K.no_index, K.taken assigned us) refl

  indexed_read : {f : Laid} {k : Kind} {ns : List Node} → Stands assigned shapes.sequence f k ns → (us : Items) → Reads assigned optional_link (s (codes "[") (f no_gap (s (codes "]") us))) (asked (bare kind.MemberExpr (absent ∷ bare kind.ComputedPropName (bare k ns ∷ []) ∷ [])) ∷ []) us
  unfolding optional_link arguments index
  indexed_read S us = rw (expression_read assigned S no_gap (s (codes "]") us) (exactly (sign (codes "]"))) at_token bracket_ends refl) refl

  called_read : (args : Items → Items) (n : Node) → ((us : Items) → Reads assigned arguments (s (codes "(") (args us)) (n ∷ []) us) → (us : Items) → Reads assigned optional_link (s (codes "(") (args us)) (asked (bare kind.OptCall (absent ∷ n ∷ absent ∷ [])) ∷ []) us
  unfolding optional_link
  called_read args n h us = rw (h us) refl

  module _ {f : Laid} {k : Kind} {ns : List Node} (T : Form assigned f k ns) where
    abbrev asked_form : (rest : Items → Items) (b : Kind) (xs : List Node) → ((us : Items) → Reads assigned optional_link (rest us) (asked (bare b (absent ∷ xs)) ∷ []) us) → Form assigned (λ g us. f g (s (codes "?.") (rest us))) (kind.OptChainExpr true) (bare b (bare k ns ∷ xs) ∷ [])
    asked_form rest b xs h =
        link_form assigned T (sign (codes "?.")) refl question_apart refl rest (asked (bare b (absent ∷ xs))) (optional_made k ns b xs) (λ us ys vs r. question_read (rest us) us (bare b (absent ∷ xs)) (h us) ys vs r)

    pub asked_member_form : {t : Tok} {q : Kind} → IsLinkKey t q → Form assigned (λ g us. f g (s (codes "?.") (it no_gap t us))) (kind.OptChainExpr true) (bare kind.MemberExpr (bare k ns ∷ bare q [] ∷ []) ∷ [])
    asked_member_form {t} {q} K = asked_form (λ us. it no_gap t us) kind.MemberExpr (bare q [] ∷ []) (named_read K)

    pub asked_element_form : {f' : Laid} {k' : Kind} {ns' : List Node} → Stands assigned shapes.sequence f' k' ns' → Form assigned (λ g us. f g (s (codes "?.") (s (codes "[") (f' no_gap (s (codes "]") us))))) (kind.OptChainExpr true) (bare kind.MemberExpr (bare k ns ∷ bare kind.ComputedPropName (bare k' ns' ∷ []) ∷ []) ∷ [])
    asked_element_form {f'} {k'} {ns'} S = asked_form (λ us. s (codes "[") (f' no_gap (s (codes "]") us))) kind.MemberExpr (bare kind.ComputedPropName (bare k' ns' ∷ []) ∷ []) (indexed_read S)

    pub asked_call_form : (args : Items → Items) (n : Node) → ((us : Items) → Reads assigned arguments (s (codes "(") (args us)) (n ∷ []) us) → Form assigned (λ g us. f g (s (codes "?.") (s (codes "(") (args us)))) (kind.OptChainExpr true) (bare kind.OptCall (bare k ns ∷ n ∷ absent ∷ []) ∷ [])
    asked_call_form args n h = asked_form (λ us. s (codes "(") (args us)) kind.OptCall (n ∷ absent ∷ []) (called_read args n h)

    -- without `?.`, behind a chain

    pub going_member_form : is_chain k ≡ true → {t : Tok} {q : Kind} → IsLinkKey t q → Form assigned (λ g us. f g (s (codes ".") (it no_gap t us))) (kind.OptChainExpr false) (bare kind.MemberExpr (bare k ns ∷ bare q [] ∷ []) ∷ [])
    going_member_form h {t} {q} K = link_form assigned T (sign (codes ".")) refl point_apart refl (λ us. it no_gap t us) (bare kind.MemberExpr (absent ∷ bare q [] ∷ [])) (chain_member_made k h ns (bare q [])) (dot_read assigned K)

    pub going_element_form : is_chain k ≡ true → {f' : Laid} {k' : Kind} {ns' : List Node} → Stands assigned shapes.sequence f' k' ns' → Form assigned (λ g us. f g (s (codes "[") (f' no_gap (s (codes "]") us)))) (kind.OptChainExpr false) (bare kind.MemberExpr (bare k ns ∷ bare kind.ComputedPropName (bare k' ns' ∷ []) ∷ []) ∷ [])
    going_element_form h {f'} {k'} {ns'} S =
        link_form assigned T (sign (codes "[")) refl bracket_apart refl (λ us. f' no_gap (s (codes "]") us)) (bare kind.MemberExpr (absent ∷ bare kind.ComputedPropName (bare k' ns' ∷ []) ∷ [])) (chain_member_made k h ns (bare kind.ComputedPropName (bare k' ns' ∷ []))) (key_read assigned S)
