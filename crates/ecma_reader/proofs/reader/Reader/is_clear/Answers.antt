use Rattle.std.proofs.Common.{refl, ap, ◌∙◌, subst}
use Rattle.ecma_reader.specs.FirstByte.{first_byte}
use Rattle.ecma_reader.specs.Operands.{OpensLeaf}
use Rattle.ecma_reader.proofs.reader.Reader.is_clear.Goals as goal

pub returns : goal.returns
returns c = λ _. record {
  words = c.if-not-misses_front_words.ensures refl;
  byte = subst OpensLeaf (c.args.self.now.begins ∙ ap (λ place. first_byte c.args.self.now.text.now place) c.requires) (c.if-not-may_begin_leaf.ensures refl);
  private_name = c.if-not-misses.ensures refl;
}
