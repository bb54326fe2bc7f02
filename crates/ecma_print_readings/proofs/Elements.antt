-- Members with keys in brackets are read as they are laid out.
use Rattle.std.proofs.Common.{Bool, false, List, [], ◌∷◌, codes, refl, append_assoc, ◌≡◌, true}
use Rattle.ecma_kind.specs.declared.kind.Kind.{Kind}
use Rattle.ecma_kind.specs.declared.kind.Kind.TheVariants as kind
use Rattle.ecma_tree.specs.declared.node.Node.{Node}
use Rattle.ecma_tree.specs.Nodes.{absent}
use Rattle.ecma_grammar.specs.declared.production.Part.TheVariants as part
use Rattle.ecma_grammar.specs.declared.production.Link.TheVariants as link
use Rattle.ecma_grammar.specs.productions.Names as names
use Rattle.ecma_grammar.specs.productions.Functions.{arrow_rest}
use Rattle.ecma_grammar.specs.productions.Operators.{factors, terms, shifts, relations, equalities}
use Rattle.ecma_grammar.specs.productions.Expressions.{assignments}
use Rattle.ecma_grammar.specs.productions.Chains as chains
use Rattle.ecma_grammar.specs.productions.Chains.{links, new_links}
use Rattle.ecma_print_tokens.specs.Items.{sign, no_gap, Items}
use Rattle.ecma_shapes.specs.Shapes as shapes
use Rattle.ecma_print_readings.proofs.Levels.{means_is}
use Rattle.ecma_print_readings.proofs.Fronts.{exactly, at_token, refuses_at}
use Rattle.ecma_print_readings.proofs.Towers.{Ends}
use Rattle.ecma_print_readings.proofs.Heads.{bare, member_made, is_head}
use Rattle.ecma_print_readings.proofs.Forms.{Laid, s, Reads, Form, NewForm, link_form}
use Rattle.ecma_print_readings.proofs.Bindings.{Stands, expression_read}

pub bracket_ends : Ends (exactly (sign (codes "]")))
unfolding factors terms shifts relations equalities assignments links chains.template_start arrow_rest names.binding_ident
bracket_ends = refl

pub bracket_apart : refuses_at (exactly (sign (codes "["))) (arrow_rest false false) ≡ true
unfolding arrow_rest names.binding_ident
bracket_apart = refl

module _ (assigned : Bool) {f' : Laid} {k' : Kind} {ns' : List Node} (S : Stands assigned shapes.sequence f' k' ns') where
  abbrev key : Node
  key = bare kind.ComputedPropName (bare k' ns' ∷ [])

  abbrev behind : Items → Items
  behind us = s (codes "[") (f' no_gap (s (codes "]") us))

  pub key_read : (us : Items) (ys : List Node) (vs : Items) → Reads assigned links us ys vs → Reads assigned links (behind us) (bare kind.MemberExpr (absent ∷ key ∷ []) ∷ ys) vs
  unfolding links chains.bracket_body chains.index
  key_read us ys vs h = rw (means_is assigned (part.Link link.Bracket) (behind us), expression_read assigned S no_gap (s (codes "]") us) (exactly (sign (codes "]"))) at_token bracket_ends refl, h) refl

  pub new_key_read : (us : Items) (ys : List Node) (vs : Items) → Reads assigned new_links us ys vs → Reads assigned new_links (behind us) (bare kind.MemberExpr (absent ∷ key ∷ []) ∷ ys) vs
  unfolding new_links chains.new_bracket_body chains.index
  new_key_read us ys vs h = rw (means_is assigned (part.NewLink link.Bracket) (behind us), expression_read assigned S no_gap (s (codes "]") us) (exactly (sign (codes "]"))) at_token bracket_ends refl, h) refl

  abbrev pub element_form : {f : Laid} {k : Kind} {ns : List Node} → is_head k ≡ true → Form assigned f k ns → Form assigned (λ g us. f g (behind us)) kind.MemberExpr (bare k ns ∷ key ∷ [])
  element_form {k = k} {ns = ns} head F = link_form assigned F (sign (codes "[")) refl bracket_apart refl (λ us. f' no_gap (s (codes "]") us)) (bare kind.MemberExpr (absent ∷ key ∷ [])) (member_made k head ns key) key_read

  pub new_element_form : {f : Laid} {k : Kind} {ns : List Node} → is_head k ≡ true → NewForm assigned f k ns → NewForm assigned (λ g us. f g (behind us)) kind.MemberExpr (bare k ns ∷ key ∷ [])
  new_element_form head N =
      let F = N.form in
      let m = bare kind.MemberExpr (absent ∷ key ∷ []) in
      record { form = element_form head F; no_point = N.no_point; own = λ g us e b z ys vs h. rw (append_assoc F.pieces (m ∷ []) ys) (N.own g (behind us) (exactly (sign (codes "["))) at_token refl (m ∷ ys) vs (new_key_read us ys vs h)) }
