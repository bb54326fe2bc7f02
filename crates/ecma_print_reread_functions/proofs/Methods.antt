-- Methods of classes are read as they are laid out.
use Rattle.std.proofs.Common.{◌≡◌, ℕ, Bool, true, false, not, ◌&&◌, List, [], ◌∷◌, codes, refl, ap, ◌∙◌, None}
use Rattle.ecma_kind.specs.declared.operators.MethodKind.{MethodKind}
use Rattle.ecma_kind.specs.declared.operators.MethodKind.TheVariants.{Method}
use Rattle.ecma_kind.specs.declared.kind.Kind.{Kind}
use Rattle.ecma_kind.specs.declared.kind.Kind.TheVariants as kind
use Rattle.ecma_tree.specs.declared.node.Node.{Node}
use Rattle.ecma_tree.specs.Nodes.{absent, list_node}
use Rattle.ecma_grammar.specs.declared.production.Form.TheVariants as form
use Rattle.ecma_grammar.specs.trees.Functions.{parameters}
use Rattle.ecma_grammar.specs.trees.Parts.{kind_of}
use Rattle.ecma_grammar.specs.trees.Classes.{no_modifiers, is_private_name, is_constructor_key}
use Rattle.ecma_grammar.specs.Made.{made}
use Rattle.ecma_grammar.specs.Grammar.{◌//◌}
use Rattle.ecma_grammar.specs.productions.Names.{prop_start, member_start}
use Rattle.ecma_grammar.specs.productions.Functions.{method_async}
use Rattle.ecma_grammar.specs.productions.Classes.{getter, setter, method, field, modifier, question_or_exclamation}
use Rattle.ecma_print_tokens.specs.Items.{Gap, no_gap, Items}
use Rattle.ecma_print_readings.proofs.Machine.{or_on, interp, means}
use Rattle.ecma_shapes.specs.Shapes as shapes
use Rattle.ecma_shapes.specs.Shapes.{IsArguments}
use Rattle.ecma_shapes.specs.MemberKinds.{method_kind}
use Rattle.ecma_shapes.proofs.Tokens.{arguments_tokens}
use Rattle.ecma_shapes.proofs.Signs.{blank, method_tokens, static_tokens}
use Rattle.ecma_shapes.proofs.Bare.{bare_arguments, bare_params}
use Rattle.ecma_print_readings.proofs.Heads.{bare, nodes}
use Rattle.ecma_print_readings.proofs.Forms.{Laid, s, Reads}
use Rattle.ecma_print_readings.proofs.Arrows.{ArgumentForms}
use Rattle.ecma_print_readings.proofs.Blocks.{ReadAsBlock}
use Rattle.ecma_print_reread_functions.proofs.Functions.{flag, params_made, signature_read}
use Rattle.ecma_print_reread_functions.proofs.Classes.{ReadAsMember}
use Rattle.ecma_print_reread_functions.proofs.MemberNames.{ReadAsName, Behind, no_getter, no_setter, no_async}
use Rattle.ecma_print_reread_functions.proofs.ClassMembers.{written, ReadAsPlainMember, named_member, modified_form}

-- as it is read first, without modifiers
abbrev pub first_kind : Bool → MethodKind → Kind
first_kind true k = kind.PrivateMethod k (no_modifiers false)
first_kind false k = kind.ClassMethod k (no_modifiers false)

pub method_made : (m : MethodKind) (p x y : Bool) (n : Node) (ps b : Node) → is_private_name (kind_of n) ≡ p
    → made (form.Method m) 0 0 (flag y ∷ flag x ∷ n ∷ absent ∷ absent ∷ absent ∷ ps ∷ absent ∷ b ∷ []) ≡ bare (first_kind p m) (n ∷ bare (kind.Function x y) (parameters ps ∷ b ∷ absent ∷ absent ∷ []) ∷ [])
method_made m true true true n ps b z = simp (nodes, z)
method_made m true true false n ps b z = simp (nodes, z)
method_made m true false true n ps b z = simp (nodes, z)
method_made m true false false n ps b z = simp (nodes, z)
method_made m false true true n ps b z = simp (nodes, z)
method_made m false true false n ps b z = simp (nodes, z)
method_made m false false true n ps b z = simp (nodes, z)
method_made m false false false n ps b z = simp (nodes, z)

private_made : (st : Bool) (m : MethodKind) (ns : List Node) → made form.Modified 0 0 (list_node (written st) ∷ bare (first_kind true m) ns ∷ []) ≡ bare (method_kind true m st) ns
private_made true m ns = simp nodes
private_made false m ns = simp nodes

modified_made : (st x y : Bool) (n : Node) (fs : List Node) → (is_constructor_key (kind_of n) && ((not x && not y) && not st)) ≡ false
    → made form.Modified 0 0 (list_node (written st) ∷ bare (first_kind false Method) (n ∷ bare (kind.Function x y) fs ∷ []) ∷ []) ≡ bare (method_kind false Method st) (n ∷ bare (kind.Function x y) fs ∷ [])
modified_made true x y n fs z = simp (nodes, z)
modified_made false x y n fs z = simp (nodes, z)

constructor_made : (n : Node) (ps b : Node) → is_constructor_key (kind_of n) ≡ true
    → made form.Modified 0 0 (list_node [] ∷ bare (first_kind false Method) (n ∷ bare (kind.Function false false) (ps ∷ b ∷ absent ∷ absent ∷ []) ∷ []) ∷ [])
    ≡ bare (kind.Constructor None false) (n ∷ ps ∷ b ∷ [])
constructor_made n ps b z = simp (nodes, z)

module _ (assigned : Bool) {ps : Node} (is : IsArguments shapes.bindings ps) (depth : ℕ) (F : ArgumentForms assigned is depth) {f : Laid} {b : Node} (B : ReadAsBlock assigned f b) where
  abbrev rest : Items → Items
  rest us = s (codes "(") (arguments_tokens is depth (s (codes ")") (f blank us)))

  behind : (us : Items) → Behind assigned (rest us)
  unfolding prop_start
  behind us = record { no_start = refl; no_star = refl; no_brace = refl }

  abbrev tokens : Laid → Bool → Bool → Laid
  tokens name x y g us = method_tokens x y (λ h. name h (rest us)) g

  abbrev whole : Node → Bool → Bool → Node
  whole n x y = made (form.Method Method) 0 0 (flag y ∷ flag x ∷ n ∷ absent ∷ absent ∷ absent ∷ list_node (bare_arguments is) ∷ absent ∷ b ∷ [])

  module _ {name : Laid} {n : Node} (K : ReadAsName assigned name n) where
    async_star_read : (g : Gap) (us : Items) → Reads assigned method (tokens name true true g us) (whole n true true ∷ []) us
    unfolding method method_async member_start prop_start question_or_exclamation
    async_star_read g us = rw (K.reads no_gap (rest us), signature_read assigned is depth F B us) refl

    method_read : (x y : Bool) (g : Gap) (us : Items) → Reads assigned method (tokens name x y g us) (whole n x y ∷ []) us
    unfolding method method_async member_start question_or_exclamation
    method_read true true g us = async_star_read g us
    method_read true false g us = rw (K.reads no_gap (rest us), signature_read assigned is depth F B us) refl
    method_read false true g us = (let a = K.starts blank (rest us) in let c = K.no_sign blank (rest us) in rw (K.on_line blank (rest us), a.1, c.0, K.reads blank (rest us), signature_read assigned is depth F B us) refl)
    method_read false false g us = (let c = K.no_sign g (rest us) in rw (no_async assigned K g (rest us) (behind us), c.0, K.reads g (rest us), signature_read assigned is depth F B us) refl)

    plain_form : (x y : Bool) → ReadAsPlainMember assigned (tokens name x y) (whole n x y)
    unfolding getter setter modifier member_start prop_start
    plain_form true true = record {
      no_modifier = λ g us. refl;
      starts = λ g us. (_, refl);
      no_empty = λ g us. refl;
      no_brace = λ g us. refl;
      no_static_block = λ g us. refl;
      reads = λ g us. ap (or_on (interp assigned (means assigned) field) (tokens name true true g us)) (method_read true true g us);
    }
    plain_form true false = record {
      no_modifier = λ g us. refl;
      starts = λ g us. (_, refl);
      no_empty = λ g us. refl;
      no_brace = λ g us. refl;
      no_static_block = λ g us. refl;
      reads = λ g us. ap (or_on (interp assigned (means assigned) field) (tokens name true false g us)) (method_read true false g us);
    }
    plain_form false true = record {
      no_modifier = λ g us. refl;
      starts = λ g us. (_, refl);
      no_empty = λ g us. refl;
      no_brace = λ g us. refl;
      no_static_block = λ g us. refl;
      reads = λ g us. ap (or_on (interp assigned (means assigned) field) (tokens name false true g us)) (method_read false true g us);
    }
    plain_form false false = named_member assigned K rest behind (λ g us.
        (let I = interp assigned (means assigned) in
        let ts = tokens name false false g us in
        ap (or_on (I (setter // method // field)) ts) (no_getter assigned K g (rest us) (behind us))
        ∙ (ap (or_on (I (method // field)) ts) (no_setter assigned K g (rest us) (behind us)) ∙ ap (or_on (I field) ts) (method_read false false g us))))

    abbrev function : Bool → Bool → Node
    function x y = bare (kind.Function x y) (list_node (bare_params (bare_arguments is)) ∷ b ∷ absent ∷ absent ∷ [])

    abbrev made_first : (p x y : Bool) → is_private_name (kind_of n) ≡ p → whole n x y ≡ bare (first_kind p Method) (n ∷ function x y ∷ [])
    made_first p x y z = method_made Method p x y n (list_node (bare_arguments is)) b z ∙ ap (λ q. bare (first_kind p Method) (n ∷ bare (kind.Function x y) (q ∷ b ∷ absent ∷ absent ∷ []) ∷ [])) (params_made is)

    pub method_form : (st p x y : Bool) → is_private_name (kind_of n) ≡ p → (is_constructor_key (kind_of n) && ((not x && not y) && not st)) ≡ false
        → ReadAsMember assigned (λ g us. static_tokens st (method_tokens x y (λ h. name h (rest us))) g) (bare (method_kind p Method st) (n ∷ function x y ∷ []))
    method_form st true x y z c = modified_form assigned (plain_form x y) st (ap (λ q. made form.Modified 0 0 (list_node (written st) ∷ q ∷ [])) (made_first true x y z) ∙ private_made st Method _)
    method_form st false x y z c = modified_form assigned (plain_form x y) st (ap (λ q. made form.Modified 0 0 (list_node (written st) ∷ q ∷ [])) (made_first false x y z) ∙ modified_made st x y n _ c)

    pub constructor_form : is_private_name (kind_of n) ≡ false → is_constructor_key (kind_of n) ≡ true → ReadAsMember assigned (λ g us. name g (rest us)) (bare (kind.Constructor None false) (n ∷ list_node (bare_params (bare_arguments is)) ∷ b ∷ []))
    constructor_form z c = modified_form assigned (plain_form false false) false (ap (λ q. made form.Modified 0 0 (list_node [] ∷ q ∷ [])) (made_first false false false z) ∙ constructor_made n _ b c)
