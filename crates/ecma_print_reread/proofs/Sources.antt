-- The source of an import or export is read as it is laid out, with its attributes.
use Rattle.std.proofs.Common.{Bool, List, [], ◌∷◌, codes, refl, ap, append-nil}
use Rattle.ecma_tree.specs.declared.node.Node.{Node}
use Rattle.ecma_grammar.specs.declared.production.Leaf.TheVariants as leaf
use Rattle.ecma_grammar.specs.declared.production.Plain.TheVariants as plain
use Rattle.ecma_grammar.specs.Grammar.{Grammar, keep, ◌▸◌, ◌//◌, punct, node}
use Rattle.ecma_grammar.specs.productions.Names.{string}
use Rattle.ecma_grammar.specs.productions.Modules.{attributes, from}
use Rattle.ecma_print_tokens.specs.Items.{Items}
use Rattle.ecma_print_readings.proofs.Machine.{with_front}
use Rattle.ecma_shapes.specs.Modules as modules
use Rattle.ecma_shapes.specs.Modules.{IsString, IsAttribute, AreAttributes, IsWithClause}
use Rattle.ecma_shapes.proofs.Signs.{sign_of}
use Rattle.ecma_shapes.proofs.ModuleTokens.{spaced_sign, spaced_word, attribute_tokens, more_attributes_tokens, with_tokens, source_tokens, bare_string, bare_attribute, bare_attributes, bare_with}
use Rattle.ecma_print_readings.proofs.Forms.{Reads}
use Rattle.ecma_print_readings.proofs.Repeats.{Repeats, repeats_end, repeats_more, repeated}

abbrev an_attribute : Grammar
an_attribute = node plain.KeyValueProp ((keep leaf.IdentName // string) ▸ punct (codes ":") ▸ string)

module _ (assigned : Bool) where
  attribute_read : {n : Node} (a : IsAttribute n) (us : Items) → Reads assigned an_attribute (attribute_tokens a us) (bare_attribute a ∷ []) us
  attribute_read (modules.attribute at (modules.word_key k) s) us = refl
  attribute_read (modules.attribute at (modules.string_key k) s) us = refl

  more_attributes_read : {ns : List Node} (more : AreAttributes ns) (us : Items)
      → Repeats assigned (punct (codes ",") ▸ an_attribute) (more_attributes_tokens more (spaced_sign (codes "}") us)) (bare_attributes more) (spaced_sign (codes "}") us)
  more_attributes_read modules.no_attributes us = repeats_end assigned (punct (codes ",") ▸ an_attribute) (spaced_sign (codes "}") us) refl
  more_attributes_read (modules.more_attributes a more) us =
      let rest = more_attributes_tokens more (spaced_sign (codes "}") us) in
      repeats_more assigned (punct (codes ",") ▸ an_attribute) refl _ rest (spaced_sign (codes "}") us) (bare_attribute a ∷ []) (bare_attributes more) (ap (with_front []) (attribute_read a rest)) (more_attributes_read more us)

  pub with_read : {n : Node} (w : IsWithClause n) (us : Items) → Reads assigned attributes (with_tokens w (sign_of (codes ";") us)) (bare_with w ∷ []) (sign_of (codes ";") us)
  unfolding attributes
  with_read (modules.no_with a) us = refl
  with_read (modules.with_nothing at at') us = refl
  with_read (modules.with_attributes at at' a more) us =
      let end = spaced_sign (codes "}") (sign_of (codes ";") us) in
      let rest = more_attributes_tokens more end in
      rw (attribute_read a rest, repeated assigned (punct (codes ",") ▸ an_attribute) rest end (bare_attributes more) (more_attributes_read more (sign_of (codes ";") us)), append-nil (bare_attributes more)) refl

  pub from_read : {n m : Node} (source : IsString n) (w : IsWithClause m) (us : Items)
      → Reads assigned from (spaced_word (codes "from") (source_tokens source w (sign_of (codes ";") us))) (bare_string source ∷ bare_with w ∷ []) (sign_of (codes ";") us)
  unfolding from
  from_read source w us = rw (with_read w us) refl
