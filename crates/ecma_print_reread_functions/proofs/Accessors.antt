-- Getters and setters of classes are read as they are laid out.
use Rattle.std.proofs.Common.{◌≡◌, ℕ, Bool, true, false, List, [], ◌∷◌, codes, refl, ap, ◌∙◌}
use Rattle.ecma_kind.specs.declared.kind.Kind.TheVariants as kind
use Rattle.ecma_tree.specs.declared.node.Node.{Node}
use Rattle.ecma_tree.specs.Nodes.{absent, list_node}
use Rattle.ecma_grammar.specs.declared.production.Form.TheVariants as form
use Rattle.ecma_grammar.specs.trees.Parts.{kind_of}
use Rattle.ecma_grammar.specs.trees.Classes.{is_private_name}
use Rattle.ecma_grammar.specs.Made.{made}
use Rattle.ecma_grammar.specs.productions.Names.{prop_start, member_start}
use Rattle.ecma_grammar.specs.productions.Classes.{modifier, getter, setter}
use Rattle.ecma_print_tokens.specs.Items as items
use Rattle.ecma_print_tokens.specs.Items.{Gap, Items, it}
use Rattle.ecma_shapes.specs.Shapes as shapes
use Rattle.ecma_shapes.specs.Shapes.{IsArguments}
use Rattle.ecma_shapes.specs.MemberKinds.{method_kind, accessor_kind}
use Rattle.ecma_shapes.proofs.Tokens.{arguments_tokens}
use Rattle.ecma_shapes.proofs.Signs.{blank, static_tokens, accessor_text}
use Rattle.ecma_shapes.proofs.Bare.{bare_arguments, bare_params}
use Rattle.ecma_print_readings.proofs.Heads.{bare, nodes}
use Rattle.ecma_print_readings.proofs.Forms.{Laid, s, Reads}
use Rattle.ecma_print_readings.proofs.Arrows.{ArgumentForms}
use Rattle.ecma_print_readings.proofs.Blocks.{ReadAsBlock}
use Rattle.ecma_print_reread_functions.proofs.Functions.{params_made, signature_read}
use Rattle.ecma_print_reread_functions.proofs.Classes.{ReadAsMember}
use Rattle.ecma_print_reread_functions.proofs.MemberNames.{ReadAsName}
use Rattle.ecma_print_reread_functions.proofs.ClassMembers.{written, functions, ReadAsPlainMember, modified_form}
use Rattle.ecma_print_reread_functions.proofs.Methods.{first_kind, method_made}

modified_made : (st p is_setter : Bool) (ns : List Node) → made form.Modified 0 0 (list_node (written st) ∷ bare (first_kind p (accessor_kind is_setter)) ns ∷ []) ≡ bare (method_kind p (accessor_kind is_setter) st) ns
modified_made true true true ns = simp nodes
modified_made true true false ns = simp nodes
modified_made true false true ns = simp nodes
modified_made true false false ns = simp nodes
modified_made false true true ns = simp nodes
modified_made false true false ns = simp nodes
modified_made false false true ns = simp nodes
modified_made false false false ns = simp nodes

module _ (assigned : Bool) {ps : Node} (is : IsArguments shapes.bindings ps) (depth : ℕ) (F : ArgumentForms assigned is depth) {f : Laid} {b : Node} (B : ReadAsBlock assigned f b) where
  abbrev rest : Items → Items
  rest us = s (codes "(") (arguments_tokens is depth (s (codes ")") (f blank us)))

  abbrev tokens : Laid → Bool → Laid
  tokens name is_setter g us = it g (items.key (accessor_text is_setter)) (name blank (rest us))

  abbrev whole : Node → Bool → Node
  whole n is_setter = made (form.Method (accessor_kind is_setter)) 0 0 (absent ∷ absent ∷ n ∷ absent ∷ absent ∷ absent ∷ list_node (bare_arguments is) ∷ absent ∷ b ∷ [])

  module _ {name : Laid} {n : Node} (K : ReadAsName assigned name n) where
    accessor_read : (is_setter : Bool) (g : Gap) (us : Items) → Reads assigned functions (tokens name is_setter g us) (whole n is_setter ∷ []) us
    unfolding getter setter
    accessor_read true g us = (let a = K.starts blank (rest us) in rw (a.1, K.reads blank (rest us), signature_read assigned is depth F B us) refl)
    accessor_read false g us = (let a = K.starts blank (rest us) in rw (a.1, K.reads blank (rest us), signature_read assigned is depth F B us) refl)

    plain_form : (is_setter : Bool) → ReadAsPlainMember assigned (tokens name is_setter) (whole n is_setter)
    unfolding modifier member_start prop_start
    plain_form true = record { no_modifier = λ g us. refl; starts = λ g us. (_, refl); no_empty = λ g us. refl; no_brace = λ g us. refl; no_static_block = λ g us. refl; reads = accessor_read true }
    plain_form false = record { no_modifier = λ g us. refl; starts = λ g us. (_, refl); no_empty = λ g us. refl; no_brace = λ g us. refl; no_static_block = λ g us. refl; reads = accessor_read false }

    pub accessor_form : (st p is_setter : Bool) → is_private_name (kind_of n) ≡ p
        → ReadAsMember assigned (λ g us. static_tokens st (λ h. it h (items.key (accessor_text is_setter)) (name blank (rest us))) g)
        (bare (method_kind p (accessor_kind is_setter) st) (n ∷ bare (kind.Function false false) (list_node (bare_params (bare_arguments is)) ∷ b ∷ absent ∷ absent ∷ []) ∷ []))
    accessor_form st p is_setter z =
        modified_form assigned (plain_form is_setter) st
        (ap (λ q. made form.Modified 0 0 (list_node (written st) ∷ q ∷ []))
        (method_made (accessor_kind is_setter) p false false n (list_node (bare_arguments is)) b z
        ∙ ap (λ q. bare (first_kind p (accessor_kind is_setter)) (n ∷ bare (kind.Function false false) (q ∷ b ∷ absent ∷ absent ∷ []) ∷ [])) (params_made is))
        ∙ modified_made st p is_setter _)
