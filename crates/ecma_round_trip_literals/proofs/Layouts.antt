-- With source texts a tree is laid out alike.
use Rattle.std.proofs.Common.{◌≡◌, refl, ap, ap₂, ◌∙◌, ℕ, List, [], ◌∷◌, map, codes, Option, Some, None, append_assoc, sym, subst}
use Rattle.ecma_kind.specs.declared.kind.Kind.{Kind}
use Rattle.ecma_kind.specs.declared.kind.Kind.TheVariants as kind
use Rattle.ecma_print.specs.Laid.{Laid}
use Rattle.ecma_print.specs.declared.place.Spot.{Spot}
use Rattle.ecma_print.specs.declared.place.Place.{Place}
use Rattle.ecma_print.specs.declared.place.Place.TheVariants as place
use Rattle.ecma_print.specs.Pieces.{say, ◌>>◌}
use Rattle.ecma_print.specs.Places.{free, after, before, is_headed, opens_a_block}
use Rattle.std.specs.Prelude.{◌&&◌, ◌||◌, ltb, if◌then◌else◌}
use Rattle.ecma_tree.specs.declared.node.Node.{Node, Node-F, fold-roll-Node, ind-Node, roll-Node}
use Rattle.ecma_tree.specs.Changing.{changed_here}
use Rattle.ecma_tree.specs.Nodes.{dummy_span}
use Rattle.ecma_print.specs.Functions.{function_head, method_head}
use Rattle.ecma_print.specs.Layout.{in_place, key_mark, laid, lay_step, placed, standing, whole}
use Rattle.ecma_print.specs.Levels.{begins_with_brace, in_parentheses, is_misread, lacks_arguments, level_of}
use Rattle.ecma_print.specs.Literals.{big_literal, literal, number_literal, text_literal}
use Rattle.ecma_print.specs.Escapes.{made_text}
use Rattle.ecma_number.specs.declared.js_number.JsNumber.{JsNumber}
use Rattle.ecma_round_trip_literals.specs.Laws.{SourcesDoNotMatterToLayouts}
use Rattle.ecma_round_trip_literals.specs.Sources.{number_source, source_or, with_source, with_sources}
use Rattle.ecma_plain.specs.Writable.{big_text}
use Rattle.ecma_round_trip_literals.proofs.Telling.{is_absent_told, is_computed_told, is_object_pattern_told, parts_told, told}
use Rattle.ecma_round_trip_literals.proofs.Lists.{listed_told}
use Rattle.ecma_round_trip_literals.proofs.Expressions.{operation_told, link_told, primary_told}
use Rattle.ecma_round_trip_literals.proofs.Functions.{function_text_told, class_member_told, property_told, pattern_told}
use Rattle.ecma_round_trip_literals.proofs.Statements.{statement_told, control_told}
use Rattle.ecma_round_trip_literals.proofs.Modules.{importing_told, exporting_told}

text_told : (value : List ℕ) (raw : Option (List ℕ)) → text_literal value (source_or (made_text value) raw) ≡ text_literal value raw
text_told value None = refl
text_told value (Some raw) = refl

number_told : (value : Option JsNumber) (raw : Option (List ℕ)) → number_literal value (number_source value raw) ≡ number_literal value raw
number_told None raw = refl
number_told (Some value) None = refl
number_told (Some value) (Some raw) = refl

big_told : (value : List ℕ) (raw : Option (List ℕ)) → big_literal value (source_or (big_text value) raw) ≡ big_literal value raw
big_told value None = λ i margin rest. append_assoc value (codes "n") rest i
big_told value (Some raw) = refl

literal_told : (k : Kind) → literal (with_source k) ≡ literal k
literal_told (kind.Str value raw) = text_told value raw
literal_told (kind.Number value raw) = number_told value raw
literal_told (kind.BigInt value raw) = big_told value raw
literal_told _ = refl

whole_told : (k : Kind) (children : List Laid) (spot : Spot) → whole (with_source k) (map told children) spot ≡ whole k children spot
whole_told k children spot =
    λ i. literal_told k i >> operation_told k children spot i >> link_told k children spot i >> primary_told k children i >> function_text_told k children spot i >> class_member_told k children i >> property_told k children spot i >> pattern_told k children i >> statement_told k children spot i >> control_told k children i >> importing_told k children i >> exporting_told k children i

level_told : (k : Kind) → level_of (with_source k) ≡ level_of k
level_told (kind.Str value raw) = refl
level_told _ = refl

lacks_arguments_told : (children : List Laid) → lacks_arguments (map told children) ≡ lacks_arguments children
lacks_arguments_told [] = refl
lacks_arguments_told (a ∷ []) = refl
lacks_arguments_told (a ∷ b ∷ []) = refl
lacks_arguments_told (a ∷ b ∷ c ∷ []) = is_absent_told b.kind
lacks_arguments_told (a ∷ b ∷ c ∷ d ∷ more) = refl

begins_with_brace_told : (children : List Laid) → begins_with_brace (map told children) ≡ begins_with_brace children
begins_with_brace_told [] = refl
begins_with_brace_told (a ∷ []) = refl
begins_with_brace_told (a ∷ b ∷ []) = is_object_pattern_told a.kind
begins_with_brace_told (a ∷ b ∷ c ∷ more) = refl

misread_told : (k : Kind) (children : List Laid) (spot : Spot) → is_misread (with_source k) (map told children) spot ≡ is_misread k children spot
misread_told (kind.Str value raw) children spot = refl
misread_told kind.NewExpr children spot = ap (λ lacks. is_headed spot.beside && lacks) (lacks_arguments_told children)
misread_told (kind.AssignExpr op) children spot = ap (λ brace. opens_a_block spot.begins && brace) (begins_with_brace_told children)
misread_told _ children spot = refl

pub parentheses_told : (k : Kind) (children : List Laid) (spot : Spot) → in_parentheses (with_source k) (map told children) spot ≡ in_parentheses k children spot
parentheses_told k children spot = λ i. ltb (level_told k i) spot.level || misread_told k children spot i

standing_told : (k : Kind) (children : List Laid) (spot : Spot) → standing (with_source k) (map told children) spot ≡ standing k children spot
standing_told k children spot =
    λ i. if parentheses_told k children spot i then (say (codes "(") >> whole_told k children (free 0) i >> say (codes ")")) else whole_told k children spot i

function_head_told : (k : Kind) → function_head (with_source k) ≡ function_head k
function_head_told (kind.Str value raw) = refl
function_head_told _ = refl

method_head_told : (k : Kind) → method_head (with_source k) ≡ method_head k
method_head_told (kind.Str value raw) = refl
method_head_told _ = refl

placed_told : (k : Kind) (children : List Laid) (p : Place) → placed (with_source k) (map told children) p ≡ placed k children p
placed_told k children (place.At spot) = standing_told k children spot
placed_told k children (place.Within b spot) = λ i. before b >> standing_told k children spot i >> after b
placed_told k children (place.Key optional) = λ i. say (key_mark optional (is_computed_told k i)) >> whole_told k children (free 0) i
placed_told k children place.FunctionHead = λ i. say (function_head_told k i)
placed_told k children place.MethodHead = λ i. say (method_head_told k i)
placed_told k children _ = refl

in_place_told : (k : Kind) (children : List Laid) (p : Place) → in_place (with_source k) (map told children) p ≡ in_place k children p
in_place_told kind.Absent children p = refl
in_place_told kind.List children p = listed_told children p
in_place_told k children p = placed_told k children p

laid_told : (k : Kind) (children : List Laid)
    → lay_step (record { span = dummy_span; kind = with_source k; children = map told children }) ≡ told (lay_step (record { span = dummy_span; kind = k; children = children }))
laid_told k children = λ i. record { kind = with_source k; at = λ p. in_place_told k children p i; parts = parts_told children i }

abbrev Alike : Node → Type 0
Alike n = laid (with_sources n) ≡ told (laid n)

all_alike : (ns : List ((n : Node) × Alike n)) → map laid (map with_sources (map (λ e. e.0) ns)) ≡ map told (map laid (map (λ e. e.0) ns))
all_alike [] = refl
all_alike (n ∷ ns) = ap₂ (λ a more. a ∷ more) n.1 (all_alike ns)

node_alike : (x : Node-F Node) → map laid (map with_sources x.children) ≡ map told (map laid x.children) → Alike (roll-Node x)
node_alike x children =
    ap laid (fold-roll-Node Node (changed_here (λ span. span) with_source) x)
    ∙ fold-roll-Node Laid lay_step (record { span = x.span; kind = with_source x.kind; children = map with_sources x.children })
    ∙ ap (λ (ls : List Laid). lay_step (record { span = dummy_span; kind = with_source x.kind; children = ls })) children
    ∙ laid_told x.kind (map laid x.children)
    ∙ ap told (sym (fold-roll-Node Laid lay_step x))

pub alike : (n : Node) → Alike n
alike = ind-Node Alike (λ x y is. node_alike x (subst (λ (z : Node-F Node). map laid (map with_sources z.children) ≡ map told (map laid z.children)) is (all_alike y.children)))

pub sources_do_not_matter_to_layouts : SourcesDoNotMatterToLayouts
sources_do_not_matter_to_layouts tree = ap (λ l. l.at (place.At (free 0)) [] []) (alike tree)
