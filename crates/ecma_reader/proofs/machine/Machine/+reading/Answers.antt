use Rattle.std.proofs.Common.{◌≡◌, ◌+◌, ◌<◌, ◌≤◌, ap, sym, subst, arith}
use Rattle.ecma_grammar.specs.Written.{written}
use Rattle.ecma_reader.specs.Agreement.{reads_in}
use Rattle.ecma_reader.specs.FirstByte.{first_byte}
use Rattle.ecma_grammar.specs.Rules.{rule_grammar}
use Rattle.ecma_reader.proofs.Readings.{GoesOn, then-goes-on, remains-goes-on}
use Rattle.ecma_reader.proofs.Remainders.{remains-less}
use Rattle.ecma_reader.proofs.Sizes.{size, left_to_read, says-less, less-left}
use Rattle.ecma_reader.proofs.machine.Machine.+reading.Goals as goal

pub read-going-preserved-in-Then-1 : goal.read-going-preserved-in-Then-1
read-going-preserved-in-Then-1 g t c =
    let sizes : size (written c.going.rest.now) ≡ size (written c.in-Then.first.now) + size (written c.in-Then.second.now) + 1 = ap (λ p. size (written p)) c.in-Then.is in
    let less : left_to_read c.in-Then.second.now ≤ left_to_read c.going.rest.now = says-less c.going.rest.now c.in-Then.second.now (omega (arith, sizes)) in
    (then-goes-on c.args.reader.now c.going.reader c.read_first.new.reader c.going.opened (reads_in c.args.reader.now c.args.self.now.left (written c.args.production.now)) c.args.self.now.left (written c.going.rest.now) (written c.in-Then.first.now) (written c.in-Then.second.now) (ap written c.in-Then.is) c.going.invariant.0 c.in_ok-read_first-in-Then.ensures, omega (arith, less, c.going.invariant.1))

pub read-going-smaller-in-Remains : goal.read-going-smaller-in-Remains
read-going-smaller-in-Remains g t c =
    let less : size (written c.in-Remains.remainder.now) < size (rule_grammar c.in-The.rule) = remains-less (first_byte c.going.reader.text.now c.going.reader.place) (rule_grammar c.in-The.rule) (written c.in-Remains.remainder.now) c.in-Remains.ensures.known.0 in
    less-left c.going.rest.now c.in-Remains.remainder.now (subst (λ p. size (written c.in-Remains.remainder.now) < size (written p)) (sym c.in-The.is) less)

pub read-going-preserved-in-Remains : goal.read-going-preserved-in-Remains
read-going-preserved-in-Remains g t c =
    let less : size (written c.in-Remains.remainder.now) < size (rule_grammar c.in-The.rule) = remains-less (first_byte c.going.reader.text.now c.going.reader.place) (rule_grammar c.in-The.rule) (written c.in-Remains.remainder.now) c.in-Remains.ensures.known.0 in
    let left : left_to_read c.in-Remains.remainder.now < left_to_read c.going.rest.now = less-left c.going.rest.now c.in-Remains.remainder.now (subst (λ p. size (written c.in-Remains.remainder.now) < size (written p)) (sym c.in-The.is) less) in (
      remains-goes-on c.args.reader.now c.going.reader c.known.new.self c.going.opened (reads_in c.args.reader.now c.args.self.now.left (written c.args.production.now)) c.args.self.now.left (rule_grammar c.in-The.rule) (written c.in-Remains.remainder.now)
          (subst (λ p. GoesOn c.args.reader.now c.going.reader c.going.opened (reads_in c.args.reader.now c.args.self.now.left (written c.args.production.now)) (reads_in c.args.reader.now c.args.self.now.left (written p))) c.in-The.is c.going.invariant.0)
          c.in-Remains.ensures.text c.in-Remains.ensures.kept c.in-Remains.ensures.known.1,
      omega (arith, left, c.going.invariant.1),
    )
