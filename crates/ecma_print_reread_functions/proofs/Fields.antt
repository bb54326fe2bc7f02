-- Fields of classes are read as they are laid out.
use Rattle.std.proofs.Common.{◌≡◌, ℕ, Bool, true, false, [], ◌∷◌, codes, refl, ap, ◌∙◌}
use Rattle.ecma_tree.specs.declared.node.Node.{Node}
use Rattle.ecma_tree.specs.Nodes.{absent, list_node}
use Rattle.ecma_grammar.specs.declared.production.Form.TheVariants as form
use Rattle.ecma_grammar.specs.trees.Parts.{kind_of}
use Rattle.ecma_grammar.specs.trees.Classes.{is_private_name}
use Rattle.ecma_grammar.specs.Made.{made}
use Rattle.ecma_grammar.specs.Grammar.{◌//◌}
use Rattle.ecma_grammar.specs.productions.Names.{prop_start}
use Rattle.ecma_grammar.specs.productions.Functions.{signature}
use Rattle.ecma_grammar.specs.productions.Classes.{setter, method, field, question_or_exclamation}
use Rattle.ecma_print_tokens.specs.Items.{sign, Gap, Items}
use Rattle.ecma_print_readings.proofs.Machine.{or_on, interp, means}
use Rattle.ecma_shapes.specs.Shapes as shapes
use Rattle.ecma_shapes.specs.Shapes.{IsInitializer}
use Rattle.ecma_shapes.specs.MemberKinds.{field_kind}
use Rattle.ecma_shapes.proofs.Tokens.{initializer_tokens}
use Rattle.ecma_shapes.proofs.Signs.{static_tokens}
use Rattle.ecma_shapes.proofs.Bare.{bare_initializer}
use Rattle.ecma_print_readings.proofs.Fronts.{exactly, at_token}
use Rattle.ecma_print_readings.proofs.Heads.{bare, nodes}
use Rattle.ecma_print_readings.proofs.Forms.{Laid, s, Reads, Refuses}
use Rattle.ecma_print_readings.proofs.Expressions.{semicolon_ends}
use Rattle.ecma_print_readings.proofs.Spreads.{InitializerForm, initializer_read}
use Rattle.ecma_print_reread_functions.proofs.Classes.{ReadAsMember}
use Rattle.ecma_print_reread_functions.proofs.MemberNames.{ReadAsName, Behind, no_getter, no_setter, no_async}
use Rattle.ecma_print_reread_functions.proofs.ClassMembers.{written, named_member, modified_form}

field_made : (st p : Bool) (n : Node) (v : Node) → is_private_name (kind_of n) ≡ p
    → made form.Modified 0 0 (list_node (written st) ∷ made form.Field 0 0 (n ∷ absent ∷ absent ∷ absent ∷ v ∷ []) ∷ []) ≡ bare (field_kind p st) (n ∷ v ∷ absent ∷ [])
field_made true true n v z = simp (nodes, z)
field_made true false n v z = simp (nodes, z)
field_made false true n v z = simp (nodes, z)
field_made false false n v z = simp (nodes, z)

module _ (assigned : Bool) {v : Node} (is : IsInitializer v) (depth : ℕ) (F : InitializerForm assigned is depth) where
  abbrev rest : Items → Items
  rest us = initializer_tokens is depth (s (codes ";") us)

  behind : (us : Items) → Behind assigned (rest us)
  unfolding prop_start
  behind us = go is
    where
      go : {m : Node} (i : IsInitializer m) → Behind assigned (initializer_tokens i depth (s (codes ";") us))
      go (shapes.no_initializer a) = record { no_start = refl; no_star = refl; no_brace = refl }
      go (shapes.initializer e) = record { no_start = refl; no_star = refl; no_brace = refl }

  no_signature : (us : Items) → Refuses assigned signature (rest us)
  unfolding signature
  no_signature us = go is
    where
      go : {m : Node} (i : IsInitializer m) → Refuses assigned signature (initializer_tokens i depth (s (codes ";") us))
      go (shapes.no_initializer a) = refl
      go (shapes.initializer e) = refl

  module _ {name : Laid} {n : Node} (K : ReadAsName assigned name n) where
    no_method : (g : Gap) (us : Items) → Refuses assigned method (name g (rest us))
    unfolding method question_or_exclamation
    no_method g us = (let c = K.no_sign g (rest us) in rw (no_async assigned K g (rest us) (behind us), c.0, K.reads g (rest us), no_signature us) refl)

    field_read : (g : Gap) (us : Items) → Reads assigned field (name g (rest us)) (made form.Field 0 0 (n ∷ absent ∷ absent ∷ absent ∷ bare_initializer is ∷ []) ∷ []) us
    unfolding field question_or_exclamation
    field_read g us = rw (K.reads g (rest us), initializer_read assigned false is depth F (s (codes ";") us) (record { front = exactly (sign (codes ";")); begins = at_token; ends = semicolon_ends })) refl

    pub field_form : (st p : Bool) → is_private_name (kind_of n) ≡ p → ReadAsMember assigned (λ g us. static_tokens st (λ h. name h (rest us)) g) (bare (field_kind p st) (n ∷ bare_initializer is ∷ absent ∷ []))
    field_form st p z =
        modified_form assigned
        (named_member assigned K rest behind (λ g us.
        (let I = interp assigned (means assigned) in
        let ts = name g (rest us) in
        ap (or_on (I (setter // method // field)) ts) (no_getter assigned K g (rest us) (behind us))
        ∙ (ap (or_on (I (method // field)) ts) (no_setter assigned K g (rest us) (behind us)) ∙ (ap (or_on (I field) ts) (no_method g us) ∙ field_read g us)))))
        st (field_made st p n (bare_initializer is) z)
