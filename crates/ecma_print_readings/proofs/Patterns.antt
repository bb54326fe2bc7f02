-- Names as patterns, and patterns with default values, are read as they are laid out.
use Rattle.std.proofs.Common.{ℕ, ◌≡◌, Bool, false, List, [], ◌∷◌, codes, refl, ap, ◌∙◌}
use Rattle.ecma_kind.specs.declared.kind.Kind.{Kind}
use Rattle.ecma_kind.specs.declared.kind.Kind.TheVariants as kind
use Rattle.ecma_tree.specs.declared.node.Node.{Node}
use Rattle.ecma_tree.specs.Nodes.{dummy_span, absent}
use Rattle.ecma_grammar.specs.declared.production.Part.TheVariants as part
use Rattle.ecma_grammar.specs.declared.production.Form.TheVariants as form
use Rattle.ecma_grammar.specs.trees.Parts.{span_of, in_front}
use Rattle.ecma_grammar.specs.declared.production.Plain.TheVariants as plain
use Rattle.ecma_grammar.specs.declared.production.Flag.TheVariants.{Absent}
use Rattle.ecma_grammar.specs.Made.{made}
use Rattle.ecma_grammar.specs.Grammar.{put, ◌▸◌}
use Rattle.ecma_grammar.specs.productions.Names.{pattern, binding_ident}
use Rattle.ecma_grammar.specs.productions.Types.{param, rest_pattern, default_value}
use Rattle.ecma_grammar.specs.productions.Patterns.{pattern_body}
use Rattle.ecma_print_tokens.specs.Items as items
use Rattle.ecma_print_tokens.specs.Items.{sign, no_gap, Gap, Items, it}
use Rattle.ecma_print_readings.proofs.Machine.{read, or_on, with_front, followed_on, built_on, interp, means}
use Rattle.ecma_shapes.specs.Shapes as shapes
use Rattle.ecma_shapes.specs.Shapes.{IsIdent, ident, IsPattern, IsElement}
use Rattle.ecma_shapes.proofs.Tokens.{ident_word, element_tokens, pattern_tokens}
use Rattle.ecma_shapes.proofs.Signs.{blank}
use Rattle.ecma_shapes.proofs.Bare.{bare_ident, bare_pattern, bare_element}
use Rattle.ecma_print_readings.proofs.Levels.{means_is}
use Rattle.ecma_print_readings.proofs.Heads.{bare, nodes, span-node}
use Rattle.ecma_print_readings.proofs.Forms.{Laid, Reads}
use Rattle.ecma_print_readings.proofs.Lists.{Followed}
use Rattle.ecma_print_readings.proofs.Bindings.{ends_no_equals, Stands, used}
use Rattle.ecma_print_readings.proofs.Spreads.{ReadAsPattern, ReadAsDefaulted, ElementForm}
use Rattle.ecma_print_readings.proofs.Tried.{param_on, param_is, pattern_param, no_default, some_default}

pub pattern_unplaced : {n : Node} (p : IsPattern n) → span_of (bare_pattern p) ≡ dummy_span
pattern_unplaced (shapes.name_pattern at i a) = span-node dummy_span kind.BindingIdent _
pattern_unplaced (shapes.array_pattern at at' es a) = span-node dummy_span (kind.ArrayPat false) _
pattern_unplaced (shapes.object_pattern at at' ps a) = span-node dummy_span (kind.ObjectPat false) _

default_made : (n x : Node) → span_of n ≡ dummy_span → in_front n (bare kind.AssignPat (absent ∷ x ∷ [])) ≡ bare kind.AssignPat (n ∷ x ∷ [])
default_made n x h = rw h (simp nodes)

rest_annotated : (p : Node) → made form.Annotated 0 0 (bare kind.RestPat (p ∷ absent ∷ []) ∷ absent ∷ absent ∷ []) ≡ bare kind.RestPat (p ∷ absent ∷ [])
rest_annotated p = simp nodes

param_made : (x : Node) → made form.Param 0 0 (absent ∷ x ∷ []) ≡ x
param_made x = simp nodes

module _ (assigned : Bool) where
  pub name_pattern_read : {n : Node} (i : IsIdent n) → ReadAsPattern assigned (λ g us. it g (items.key (ident_word i)) us) (bare kind.BindingIdent (bare_ident i ∷ absent ∷ []))
  unfolding pattern_body binding_ident
  name_pattern_read (ident at w i) = record {
    reads = λ g us. rw (means_is assigned part.Pattern (it g (items.key w) us), i.free) refl;
    annotated = simp nodes;
    no_dots = λ g us. refl;
  }

  module _ {f : Laid} {n : Node} (P : ReadAsPattern assigned f n) where
    -- with what stands behind it as a default value
    pattern_as_param : (g : Gap) (us vs : Items) (ys : List Node) (x : Node) → Reads assigned default_value us ys vs → made form.Chain 0 0 (n ∷ ys) ≡ x → Reads assigned param (f g us) (x ∷ []) vs
    unfolding rest_pattern
    pattern_as_param g us vs ys x d m =
        let I = interp assigned (means assigned) in
        pattern_param assigned (f g us) (ap (built_on (form.Node plain.RestPat)) (ap (followed_on (I (pattern ▸ put Absent))) (P.no_dots g us)))
        ∙ (ap (param_on assigned) (P.reads g us)
        ∙ (ap (λ z. built_on form.Param (with_front (absent ∷ []) (built_on form.Chain (followed_on (I default_value) (read (z ∷ []) us))))) P.annotated
        ∙ (ap (λ o. built_on form.Param (with_front (absent ∷ []) (built_on form.Chain (with_front (n ∷ []) o)))) d
        ∙ (ap (λ z. read (made form.Param 0 0 (absent ∷ z ∷ []) ∷ []) vs) m ∙ ap (λ z. read (z ∷ []) vs) (param_made x)))))

    pub no_default_read : ReadAsDefaulted assigned f n
    no_default_read = record {
      reads = λ g us w.
          ap (built_on form.Chain) (ap (followed_on (interp assigned (means assigned) default_value)) (P.reads g us) ∙ ap (with_front (n ∷ [])) (no_default assigned us w.front w.begins (ends_no_equals w.front w.ends)));
      as_param = λ g us w. pattern_as_param g us us [] n (no_default assigned us w.front w.begins (ends_no_equals w.front w.ends)) refl;
      no_dots = P.no_dots;
    }

    pub default_read : span_of n ≡ dummy_span → {f' : Laid} {k' : Kind} {ns' : List Node} → Stands assigned shapes.assignment f' k' ns' → ReadAsDefaulted assigned (λ g us. f g (it blank (sign (codes "=")) (f' blank us))) (bare kind.AssignPat (n ∷ bare k' ns' ∷ []))
    default_read h {f'} {k'} {ns'} S = record {
      reads = λ g us w.
          (let vs = it blank (sign (codes "=")) (f' blank us) in
          ap (built_on form.Chain) (ap (followed_on (interp assigned (means assigned) default_value)) (P.reads g vs) ∙ ap (with_front (n ∷ [])) (some_default assigned (f' blank us) us (bare k' ns') (used assigned S blank us w.front w.begins w.ends)))
          ∙ ap (λ x. read (x ∷ []) us) (default_made n (bare k' ns') h));
      as_param = λ g us w.
          pattern_as_param g (it blank (sign (codes "=")) (f' blank us)) us _ (bare kind.AssignPat (n ∷ bare k' ns' ∷ []))
          (some_default assigned (f' blank us) us (bare k' ns') (used assigned S blank us w.front w.begins w.ends)) (default_made n (bare k' ns') h);
      no_dots = λ g us. P.no_dots g (it blank (sign (codes "=")) (f' blank us));
    }

  -- a parameter
  pub param_read : {n : Node} (is : IsElement shapes.bindings n) (depth : ℕ) → ElementForm assigned is depth → (g : Gap) (us : Items) → Followed us → Reads assigned param (element_tokens is depth g us) (bare_element is ∷ []) us
  unfolding rest_pattern
  param_read (shapes.bound p) depth D g us w = D.as_param g us w
  param_read (shapes.rest at p a) depth P g us w =
      let I = interp assigned (means assigned) in
      let ts = it g (sign (codes "...")) (pattern_tokens p depth no_gap us) in
      let n = bare kind.RestPat (bare_pattern p ∷ absent ∷ []) in
      let found : Reads assigned rest_pattern ts (n ∷ []) us = rw (P.reads no_gap us) refl in
      param_is assigned ts
      ∙ (ap (λ o. param_on assigned (or_on (means assigned part.Pattern) ts o)) found
      ∙ (ap (λ z. built_on form.Param (with_front (absent ∷ []) (built_on form.Chain (followed_on (I default_value) (read (z ∷ []) us))))) (rest_annotated (bare_pattern p))
      ∙ (ap (λ o. built_on form.Param (with_front (absent ∷ []) (built_on form.Chain (with_front (n ∷ []) o)))) (no_default assigned us w.front w.begins (ends_no_equals w.front w.ends)) ∙ ap (λ z. read (z ∷ []) us) (param_made n))))
