-- Trees that differ in spans and contexts alone are laid out alike.
use Rattle.std.proofs.Common.{◌≡◌, refl, ap, ap₂, ◌∙◌, ℕ, List, [], ◌∷◌, map, codes, sym, subst}
use Rattle.ecma_kind.specs.declared.kind.Kind.{Kind}
use Rattle.ecma_kind.specs.declared.kind.Kind.TheVariants as kind
use Rattle.ecma_print.specs.Laid.{Laid}
use Rattle.ecma_print.specs.declared.place.Spot.{Spot}
use Rattle.ecma_print.specs.declared.place.Place.{Place}
use Rattle.ecma_print.specs.declared.place.Place.TheVariants as place
use Rattle.ecma_print.specs.Pieces.{say, ◌>>◌}
use Rattle.ecma_print.specs.Places.{free, after, before, is_headed, opens_a_block}
use Rattle.ecma_print_congruence.proofs.Telling as telling
use Rattle.std.specs.Prelude.{◌&&◌, ◌||◌, ltb, if◌then◌else◌}
use Rattle.ecma_kind.specs.declared.span.Span.{Span}
use Rattle.ecma_tree.specs.declared.node.Node.{Node, Node-F, fold-roll-Node, ind-Node, roll-Node}
use Rattle.ecma_tree.specs.Changing.{changed, changed_here}
use Rattle.ecma_tree.specs.Nodes.{dummy_span}
use Rattle.ecma_tree.specs.Spans.{without_spans}
use Rattle.ecma_print.specs.Functions.{function_head, method_head}
use Rattle.ecma_print.specs.Layout.{in_place, key_mark, laid, lay_step, layout, placed, standing, whole}
use Rattle.ecma_print.specs.Levels.{begins_with_brace, in_parentheses, is_misread, lacks_arguments, level_of}
use Rattle.ecma_print.specs.Literals.{literal}
use Rattle.ecma_print_congruence.specs.Laws.{ContextsDoNotMatterToLayouts, SpansDoNotMatterToLayouts}
use Rattle.ecma_print_congruence.proofs.Lists.{listed_told}
use Rattle.ecma_print_congruence.proofs.Expressions.{operation_told, link_told, primary_told}
use Rattle.ecma_print_congruence.proofs.Functions.{function_text_told, class_member_told, property_told, pattern_told}
use Rattle.ecma_print_congruence.proofs.Statements.{statement_told, control_told}
use Rattle.ecma_print_congruence.proofs.Modules.{importing_told, exporting_told}

module _ (context_of : List ℕ → ℕ → ℕ) where
  abbrev told : Laid → Laid
  told = telling.told context_of

  abbrev kind_told : Kind → Kind
  kind_told = telling.kind_told context_of

  literal_told : (k : Kind) → literal (kind_told k) ≡ literal k
  literal_told (kind.Ident sym ctxt optional) = refl
  literal_told _ = refl

  whole_told : (k : Kind) (children : List Laid) (spot : Spot) → whole (kind_told k) (map told children) spot ≡ whole k children spot
  whole_told k children spot =
      λ i. literal_told k i >> operation_told context_of k children spot i >> link_told context_of k children spot i >> primary_told context_of k children i >> function_text_told context_of k children spot i >> class_member_told context_of k children i >> property_told context_of k children spot i >> pattern_told context_of k children i >> statement_told context_of k children spot i >> control_told context_of k children i >> importing_told context_of k children i >> exporting_told context_of k children i

  level_told : (k : Kind) → level_of (kind_told k) ≡ level_of k
  level_told (kind.Ident sym ctxt optional) = refl
  level_told _ = refl

  lacks_arguments_told : (children : List Laid) → lacks_arguments (map told children) ≡ lacks_arguments children
  lacks_arguments_told [] = refl
  lacks_arguments_told (a ∷ []) = refl
  lacks_arguments_told (a ∷ b ∷ []) = refl
  lacks_arguments_told (a ∷ b ∷ c ∷ []) = telling.is_absent_told context_of b.kind
  lacks_arguments_told (a ∷ b ∷ c ∷ d ∷ more) = refl

  begins_with_brace_told : (children : List Laid) → begins_with_brace (map told children) ≡ begins_with_brace children
  begins_with_brace_told [] = refl
  begins_with_brace_told (a ∷ []) = refl
  begins_with_brace_told (a ∷ b ∷ []) = telling.is_object_pattern_told context_of a.kind
  begins_with_brace_told (a ∷ b ∷ c ∷ more) = refl

  misread_told : (k : Kind) (children : List Laid) (spot : Spot) → is_misread (kind_told k) (map told children) spot ≡ is_misread k children spot
  misread_told (kind.Ident sym ctxt optional) children spot = refl
  misread_told kind.NewExpr children spot = ap (λ lacks. is_headed spot.beside && lacks) (lacks_arguments_told children)
  misread_told (kind.AssignExpr op) children spot = ap (λ brace. opens_a_block spot.begins && brace) (begins_with_brace_told children)
  misread_told _ children spot = refl

  parentheses_told : (k : Kind) (children : List Laid) (spot : Spot) → in_parentheses (kind_told k) (map told children) spot ≡ in_parentheses k children spot
  parentheses_told k children spot = λ i. ltb (level_told k i) spot.level || misread_told k children spot i

  standing_told : (k : Kind) (children : List Laid) (spot : Spot) → standing (kind_told k) (map told children) spot ≡ standing k children spot
  standing_told k children spot =
      λ i. if parentheses_told k children spot i then (say (codes "(") >> whole_told k children (free 0) i >> say (codes ")")) else whole_told k children spot i

  function_head_told : (k : Kind) → function_head (kind_told k) ≡ function_head k
  function_head_told (kind.Ident sym ctxt optional) = refl
  function_head_told _ = refl

  method_head_told : (k : Kind) → method_head (kind_told k) ≡ method_head k
  method_head_told (kind.Ident sym ctxt optional) = refl
  method_head_told _ = refl

  placed_told : (k : Kind) (children : List Laid) (p : Place) → placed (kind_told k) (map told children) p ≡ placed k children p
  placed_told k children (place.At spot) = standing_told k children spot
  placed_told k children (place.Within b spot) = λ i. before b >> standing_told k children spot i >> after b
  placed_told k children (place.Key optional) = λ i. say (key_mark optional (telling.is_computed_told context_of k i)) >> whole_told k children (free 0) i
  placed_told k children place.FunctionHead = λ i. say (function_head_told k i)
  placed_told k children place.MethodHead = λ i. say (method_head_told k i)
  placed_told k children _ = refl

  in_place_told : (k : Kind) (children : List Laid) (p : Place) → in_place (kind_told k) (map told children) p ≡ in_place k children p
  in_place_told kind.Absent children p = refl
  in_place_told kind.List children p = listed_told context_of children p
  in_place_told k children p = placed_told k children p

  laid_told : (k : Kind) (children : List Laid)
      → lay_step (record { span = dummy_span; kind = kind_told k; children = map told children }) ≡ told (lay_step (record { span = dummy_span; kind = k; children = children }))
  laid_told k children = λ i. record { kind = kind_told k; at = λ p. in_place_told k children p i; parts = telling.parts_told context_of children i }

  module _ (span_to : Span → Span) where
    abbrev to : Node → Node
    to = changed span_to kind_told

    abbrev Alike : Node → Type 0
    Alike n = laid (to n) ≡ told (laid n)

    all_alike : (ns : List ((n : Node) × Alike n)) → map laid (map to (map (λ e. e.0) ns)) ≡ map told (map laid (map (λ e. e.0) ns))
    all_alike [] = refl
    all_alike (n ∷ ns) = ap₂ (λ a more. a ∷ more) n.1 (all_alike ns)

    node_alike : (x : Node-F Node) → map laid (map to x.children) ≡ map told (map laid x.children) → Alike (roll-Node x)
    node_alike x children =
        ap laid (fold-roll-Node Node (changed_here span_to kind_told) x)
        ∙ fold-roll-Node Laid lay_step (record { span = span_to x.span; kind = kind_told x.kind; children = map to x.children })
        ∙ ap (λ (ls : List Laid). lay_step (record { span = dummy_span; kind = kind_told x.kind; children = ls })) children
        ∙ laid_told x.kind (map laid x.children)
        ∙ ap told (sym (fold-roll-Node Laid lay_step x))

    pub alike : (n : Node) → Alike n
    alike = ind-Node Alike (λ x y is. node_alike x (subst (λ (z : Node-F Node). map laid (map to z.children) ≡ map told (map laid z.children)) is (all_alike y.children)))

pub contexts_do_not_matter_to_layouts : ContextsDoNotMatterToLayouts
contexts_do_not_matter_to_layouts context_of m = ap (λ l. l.at (place.At (free 0)) [] []) (alike context_of (λ span. span) m)

-- every context stays
abbrev same : List ℕ → ℕ → ℕ
same sym ctxt = ctxt

kind_same : (k : Kind) → telling.kind_told same k ≡ k
kind_same (kind.Ident sym ctxt optional) = refl
kind_same _ = refl

bare_alike : (m : Node) → layout (without_spans m) ≡ layout m
bare_alike m =
    ap (λ (kind_to : Kind → Kind). layout (changed (λ span. dummy_span) kind_to m)) (λ i k. sym (kind_same k) i)
    ∙ ap (λ l. l.at (place.At (free 0)) [] []) (alike same (λ span. dummy_span) m)

pub spans_do_not_matter_to_layouts : SpansDoNotMatterToLayouts
spans_do_not_matter_to_layouts m m' same = sym (bare_alike m) ∙ ap layout same ∙ bare_alike m'
