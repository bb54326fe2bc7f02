-- Where a query answers nothing, nothing changes.
use Rattle.std.proofs.Common.{◌≡◌, ◌∙◌, true, refl, ap, List, [], ◌∷◌, map, Option, Some, None}
use Rattle.std.specs.Option.{option_and_then, option_map}
use Rattle.ecma_kind.specs.declared.ident.Ident.{Ident}
use Rattle.ecma_kind.specs.declared.kind.Kind.{Kind}
use Rattle.ecma_kind.specs.declared.span.Span.{Span}
use Rattle.ecma_tree.specs.Nodes.{node_of}
use Rattle.ecma_tree.specs.declared.node.Node.{Node}
use Rattle.ecma_rewriting.specs.Laws.{Along, Leaves}
use Rattle.ecma_rewriting.specs.Rewriting.{only}
use Rattle.ecma_rewriting.proofs.Staying.{trees_stay}
use Rattle.ecma_references.specs.declared.seat.Seat.{Seat}
use Rattle.ecma_references.specs.declared.seat.Seat.TheVariants as seat
use Rattle.ecma_references.specs.Answers.{answer_of, answer_to, asked, name_of}
use Rattle.ecma_references.specs.Laws.{WithoutAnswersNothingChanges, no_answers}
use Rattle.ecma_references.specs.References.{referring, written}

no-answer : (s : Seat) (name : Ident) → asked no_answers s name ≡ None
no-answer seat.Read name = refl
no-answer seat.Called name = refl
no-answer seat.Target name = refl
no-answer seat.Declared name = refl
no-answer seat.Property name = refl
no-answer seat.Other name = refl

nothing-stands : (s : Seat) (name : Option Ident) → option_and_then (answer_to no_answers s) name ≡ None
nothing-stands s None = refl
nothing-stands s (Some name) = ap (option_map (λ e. (name, e))) (no-answer s name)

ones-only : (nodes : List Node) → map only (map (λ c. c ∷ []) nodes) ≡ nodes
ones-only [] = refl
ones-only (n ∷ ns) = ap (λ rest. n ∷ rest) (ones-only ns)

along : (s : Seat) (nodes : List Node) → Along (referring no_answers) (λ s n. true ≡ true) s nodes
along s [] = tt
along s (n ∷ ns) = (refl, along s ns)

stays : (s : Seat) (span : Span) (k : Kind) (nodes : List Node)
    → written no_answers s (answer_of no_answers s span k nodes) span k (map only (map (λ c. c ∷ []) nodes)) ≡ node_of span k nodes
stays s span k nodes =
    ap (λ z. written no_answers s z span k (map only (map (λ c. c ∷ []) nodes))) (nothing-stands s (name_of span k nodes))
    ∙ ap (node_of span k) (ones-only nodes)

leaves : Leaves (referring no_answers) (λ s n. true ≡ true)
leaves = record {
  unkept = λ s c p k. refl;
  listed = λ s span nodes p. along s nodes;
  below = λ s span k nodes l p i c at. refl;
  here = λ s span k nodes l p. ap (λ z. z ∷ []) (stays s span k nodes);
}

pub without_answers : WithoutAnswersNothingChanges
without_answers s tree = ap only (trees_stay Seat (referring no_answers) (λ s n. true) leaves s tree refl)
