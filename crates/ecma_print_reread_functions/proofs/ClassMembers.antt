-- A member of a class behind `static`, or without it.
use Rattle.std.proofs.Common.{◌≡◌, ℕ, Bool, true, false, List, [], ◌∷◌, codes, nat_le, refl, ap, ◌∙◌}
use Rattle.ecma_kind.specs.declared.kind.Kind.TheVariants as kind
use Rattle.ecma_tree.specs.declared.node.Node.{Node}
use Rattle.ecma_tree.specs.Nodes.{list_node}
use Rattle.ecma_grammar.specs.declared.production.Plain.TheVariants as plain
use Rattle.ecma_grammar.specs.declared.production.Form.TheVariants as form
use Rattle.ecma_grammar.specs.Made.{made}
use Rattle.ecma_grammar.specs.Grammar.{Grammar, ◌▸◌, ◌//◌, marked, build, punct, node}
use Rattle.ecma_grammar.specs.productions.Names.{member_start, block}
use Rattle.ecma_grammar.specs.productions.Classes.{member, modifier, modifiers, getter, setter, method, field, index_signature}
use Rattle.ecma_print_tokens.specs.Items as items
use Rattle.ecma_print_tokens.specs.Items.{Gap, Items, it}
use Rattle.ecma_print_readings.proofs.Machine.{read, with_front, followed_on, or_on, built_on, interp, means}
use Rattle.ecma_shapes.proofs.Signs.{blank, static_tokens}
use Rattle.ecma_print_readings.proofs.Moves.{eats}
use Rattle.ecma_print_readings.proofs.Heads.{bare}
use Rattle.ecma_print_readings.proofs.Forms.{Laid, Reads, Refuses}
use Rattle.ecma_print_readings.proofs.Repeats.{repeats_end, repeats_more, repeated}
use Rattle.ecma_print_reread_functions.proofs.Classes.{ReadAsMember, a_static_block, gap_behind}
use Rattle.ecma_print_reread_functions.proofs.MemberNames.{ReadAsName, Behind, no_modifier, no_static_block}

abbrev pub key_of : List ℕ → Node
key_of w = bare (kind.IdentName w) []

abbrev pub written : Bool → List Node
written true = key_of (codes "static") ∷ []
written false = []

modifier_eats : nat_le 1 (eats modifier) ≡ true
unfolding modifier
modifier_eats = refl

abbrev pub functions : Grammar
functions = getter // setter // method // field

abbrev empty_member : Grammar
empty_member = node plain.EmptyStmt (punct (codes ";"))

module _ (assigned : Bool) where
  -- what stands behind the modifiers
  pub record ReadAsPlainMember (t : Laid) (n : Node) : Type 0 where
    pub no_modifier : (g : Gap) (us : Items) → Refuses assigned modifier (t g us)
    pub starts : (g : Gap) (us : Items) → (vs : Items) × Reads assigned member_start (t g us) [] vs
    pub no_empty : (g : Gap) (us : Items) → Refuses assigned (punct (codes ";")) (t g us)
    pub no_brace : (g : Gap) (us : Items) → Refuses assigned (punct (codes "{")) (t g us)
    pub no_static_block : (g : Gap) (us : Items) → Refuses assigned a_static_block (t g us)
    pub reads : (g : Gap) (us : Items) → Reads assigned functions (t g us) (n ∷ []) us

  -- one that begins with its name
  pub named_member : {f : Laid} {n m : Node} → ReadAsName assigned f n → (rest : Items → Items) → ((us : Items) → Behind assigned (rest us)) → ((g : Gap) (us : Items) → Reads assigned functions (f g (rest us)) (m ∷ []) us) → ReadAsPlainMember (λ g us. f g (rest us)) m
  unfolding member_start
  named_member K rest B h = record {
    no_modifier = λ g us. no_modifier assigned K g (rest us) (B us);
    starts = λ g us. (let z = K.starts g (rest us) in (z.0, rw z.1 refl));
    no_empty = λ g us. (let z = K.no_sign g (rest us) in z.1);
    no_brace = λ g us. (let z = K.no_sign g (rest us) in z.2);
    no_static_block = λ g us. no_static_block assigned K g (rest us) (B us);
    reads = h;
  }

  module _ {t : Laid} {n : Node} (P : ReadAsPlainMember t n) where
    abbrev tokens : Bool → Laid
    tokens st g us = static_tokens st (λ h. t h us) g

    static_read : (g : Gap) (us : Items) → Reads assigned modifier (it g (items.key (codes "static")) (t blank us)) (key_of (codes "static") ∷ []) (t blank us)
    unfolding modifier
    static_read g us = (let z = P.starts blank us in rw z.1 refl)

    modifiers_read : (st : Bool) (g : Gap) (us : Items) → Reads assigned modifiers (tokens st g us) (list_node (written st) ∷ []) (t (gap_behind st g) us)
    modifiers_read true g us =
        let ts = t blank us in
        ap (built_on form.List)
        (repeated assigned modifier (it g (items.key (codes "static")) ts) ts (written true)
        (repeats_more assigned modifier modifier_eats (it g (items.key (codes "static")) ts) ts ts (written true) [] (static_read g us) (repeats_end assigned modifier ts (P.no_modifier blank us))))
    modifiers_read false g us = let ts = t g us in ap (built_on form.List) (repeated assigned modifier ts ts [] (repeats_end assigned modifier ts (P.no_modifier g us)))

    no_empty : (st : Bool) (g : Gap) (us : Items) → Refuses assigned empty_member (tokens st g us)
    no_empty true g us = refl
    no_empty false g us = rw (P.no_empty g us) refl

    no_block : (st : Bool) (g : Gap) (us : Items) → Refuses assigned a_static_block (tokens st g us)
    unfolding block
    no_block true g us = rw (P.no_brace blank us) refl
    no_block false g us = P.no_static_block g us

    pub modified_form : (st : Bool) {whole : Node} → made form.Modified 0 0 (list_node (written st) ∷ n ∷ []) ≡ whole → ReadAsMember assigned (λ g us. static_tokens st (λ h. t h us) g) whole
    unfolding member
    modified_form st {whole} e = record {
      reads = λ g us.
          (let I = interp assigned (means assigned) in
          let ts = tokens st g us in
          ap (or_on (I (a_static_block // marked index_signature // build form.Modified (modifiers ▸ functions))) ts) (no_empty st g us)
          ∙ (ap (or_on (I (marked index_signature // build form.Modified (modifiers ▸ functions))) ts) (no_block st g us)
          ∙ (ap (built_on form.Modified) (ap (followed_on (I functions)) (modifiers_read st g us) ∙ ap (with_front (list_node (written st) ∷ [])) (P.reads (gap_behind st g) us)) ∙ ap (λ q. read (q ∷ []) us) e)));
    }
