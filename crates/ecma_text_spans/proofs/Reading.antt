-- No identifier of what is read was made.
use Rattle.std.proofs.Common.{◌≡◌, ◌∙◌, ◌≤◌, ℕ, ◌==◌, Bool, true, false, ◌&&◌, not, List, [], ◌∷◌, length, Ok, refl, ap, subst, arith}
use Rattle.std.proofs.lemmas.Bool.{eqb-true}
use Rattle.std.specs.Str.{IsUtf8}
use Rattle.ecma_kind.specs.declared.kind.Kind.{Kind}
use Rattle.ecma_kind.specs.declared.kind.Kind.TheVariants as kind
use Rattle.ecma_kind.specs.declared.shapes.Sort.TheVariants as sort
use Rattle.ecma_kind.specs.declared.span.Span.{Span}
use Rattle.ecma_tree.specs.declared.node.Node.{Node, Node-F}
use Rattle.ecma_tree.specs.declared.node.Node.TheViews.{out-roll-Node}
use Rattle.ecma_tree.specs.Nodes.{node_of}
use Rattle.ecma_grammar.specs.declared.production.Mode.{Mode}
use Rattle.ecma_grammar.specs.trees.Others.{the_one}
use Rattle.ecma_grammar.specs.trees.Parts.{framed}
use Rattle.ecma_grammar.specs.Modules as grammar
use Rattle.ecma_grammar.specs.Modules.{reads_module}
use Rattle.ecma_grammar.specs.Reading.{Outcome, Position, fails, read, too_deep}
use Rattle.ecma_grammar_laws.specs.RawSorts.{HasRawShape, RawShape, child_shapes_raw, one, sorted}
use Rattle.ecma_grammar_laws.proofs.RawShapes.{HaveRaw, parts_of}
use Rattle.ecma_grammar_laws.proofs.Sorted.{modules_sorted}
use Rattle.ecma_rules.specs.declared.target.Target.TheVariants as target
use Rattle.ecma_text_types.proofs.Raws.{of_raw}
use Rattle.ecma_hygiene_fits.specs.Placed.{NoneMade}
use Rattle.ecma_pipeline_spans.proofs.Trees.{everywhere as own_everywhere, more as own_more, none as own_none}
use Rattle.ecma_pipeline_spans.proofs.Throughout.{All as AllOwn, Good as OwnNode, IsOwn, none_made}
use Rattle.ecma_text_spans.specs.Laws.{NamesThatAreReadStandInTheSource}
use Rattle.ecma_text_spans.proofs.Finished.{finished_good}
use Rattle.ecma_text_spans.proofs.Placed.{IsPlaced}
use Rattle.ecma_text_spans.proofs.Readings.{All, module_stands}
use Rattle.ecma_text_spans.proofs.Trees.{Each, Everywhere, everywhere, good_absent, good_framed, more, none}

-- ---- an identifier of a sorted tree is a leaf

off : (a : Bool) → not (not (a && false)) ≡ false
off true = refl
off false = refl

behind-start : (lo hi : ℕ) → 1 ≤ hi → not (not (lo == 0 && hi == 0)) ≡ false
behind-start lo hi l = go (hi == 0) refl
  where
    go : (b : Bool) → (hi == 0) ≡ b → not (not (lo == 0 && hi == 0)) ≡ false
    go true e = let none = eqb-true hi 0 e in absurd (omega (arith, l, none))
    go false e = ap (λ b. not (not (lo == 0 && b))) e ∙ off (lo == 0)

own-placed : (stop : ℕ) (shape : RawShape) (at : Span) (k : Kind) (cs : List Node) → HaveRaw (child_shapes_raw k shape (length cs)) cs → IsPlaced stop at k cs → IsOwn at k
own-placed stop shape at (kind.Ident text ctxt optional) [] h p = behind-start at.lo at.hi p.1
own-placed stop shape at (kind.Ident text ctxt optional) (c ∷ cs) h p = absurd h
own-placed stop shape at _ cs h p = refl

module _ (stop : ℕ) where
  mutual
    own-good : {n : Node} → Everywhere (IsPlaced stop) n → (shape : RawShape) → HasRawShape shape n → OwnNode n
    own-good (everywhere at k {children = cs} p all) shape h =
        let parts : Node-F Node = record { span = at; kind = k; children = cs } in
        let s = subst (λ (z : Node-F Node). HaveRaw (child_shapes_raw z.kind shape (length z.children)) z.children) (out-roll-Node parts) (parts_of (node_of at k cs) shape h).1 in
        own_everywhere at k (own-placed stop shape at k cs s p) (own-all all (child_shapes_raw k shape (length cs)) s)

    own-all : {ns : List Node} → Each (IsPlaced stop) ns → (shapes : List RawShape) → HaveRaw shapes ns → AllOwn ns
    own-all none shapes h = own_none
    own-all (more a all) [] h = absurd h
    own-all (more a all) (shape ∷ shapes) h = own_more (own-good a shape h.0) (own-all all shapes h.1)

-- ---- what is read

one-good : (stop : ℕ) {xs : List Node} → All stop xs → Everywhere (IsPlaced stop) (the_one xs)
one-good stop none = good_absent (IsPlaced stop) tt
one-good stop (more a none) = a
one-good stop (more a (more b h)) = good_absent (IsPlaced stop) tt

raw-good : (text : List ℕ) (mode : Mode) (bound : ℕ) (raw : Node) → IsUtf8 text → grammar.answer_of (reads_module text mode bound) ≡ Ok raw → OwnNode raw
raw-good text mode bound raw utf8 e = by-outcome (reads_module text mode bound) (λ s xs h. module_stands text utf8 mode bound s xs h) e
  where
    by-outcome : (o : Outcome (List Node)) → ((s : Position) (xs : List Node) → o ≡ read xs s → All s.place xs) → grammar.answer_of o ≡ Ok raw → OwnNode raw
    by-outcome (read xs s) h f =
        let is : framed 1 the_one xs ≡ raw = cc in
        own-good s.place (subst (Everywhere (IsPlaced s.place)) is (good_framed (IsPlaced s.place) tt 1 the_one (h s xs refl) (λ all. one-good s.place all))) (one (sorted sort.Module)) (modules_sorted text mode bound raw e)
    by-outcome (fails at) h f = cc
    by-outcome (too_deep at) h f = cc

pub names-read : NamesThatAreReadStandInTheSource
names-read text mode bound tree utf8 e =
    of_raw NoneMade text mode bound tree (λ raw h b is. none_made tree (subst OwnNode is (finished_good raw (raw-good text mode bound raw utf8 h) target.Free))) e
