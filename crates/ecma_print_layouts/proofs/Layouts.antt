-- The layout of a tree is the text of its tokens.
use Rattle.std.proofs.Common.{◌≡◌, ℕ, Bool, true, false, ◌&&◌, List, [], ◌∷◌, ◌++◌, map, codes, refl, ap, sym, ◌∙◌, append_assoc}
use Rattle.std.proofs.lemmas.Bool.{false≢true}
use Rattle.ecma_kind.specs.declared.operators.UnaryOp.{UnaryOp}
use Rattle.ecma_kind.specs.declared.operators.UnaryOp.TheVariants.{Minus, Plus, Bang, Tilde, TypeOf, Void, Delete}
use Rattle.ecma_kind.specs.declared.operators.UpdateOp.{UpdateOp}
use Rattle.ecma_kind.specs.declared.operators.UpdateOp.TheVariants.{PlusPlus, MinusMinus}
use Rattle.ecma_kind.specs.declared.operators.AssignOp.{AssignOp}
use Rattle.ecma_kind.specs.declared.operators.AssignOp.TheVariants.{Assign, AddAssign, SubAssign, MulAssign, DivAssign, ModAssign, LShiftAssign, RShiftAssign, ZeroFillRShiftAssign, BitOrAssign, BitXorAssign, BitAndAssign, ExpAssign, AndAssign, OrAssign, NullishAssign}
use Rattle.ecma_kind.specs.declared.span.Span.{Span}
use Rattle.ecma_kind.specs.declared.kind.Kind.{Kind}
use Rattle.ecma_kind.specs.declared.kind.Kind.TheVariants as kind
use Rattle.ecma_tree.specs.declared.node.Node.{Node, fold-roll-Node}
use Rattle.ecma_tree.specs.Nodes.{node_of}
use Rattle.ecma_print.specs.declared.place.Beside.{Beside}
use Rattle.ecma_print.specs.declared.place.Beside.TheVariants.{NoNeighbor, BehindMinus, BehindPlus, InChain}
use Rattle.ecma_print.specs.declared.place.Between.{Between}
use Rattle.ecma_print.specs.declared.place.Between.TheVariants.{Equals}
use Rattle.ecma_print.specs.declared.place.Spot.{Spot}
use Rattle.ecma_print.specs.declared.place.Place.{Place}
use Rattle.ecma_print.specs.declared.place.Place.TheVariants.{At, Within, Key}
use Rattle.ecma_print.specs.Places.{before, after, free, gap}
use Rattle.ecma_print.specs.Laid.{Laid, is_absent, is_object_pattern, is_computed}
use Rattle.ecma_print.specs.Operators.{assign_word, unary_word, unary_sign, update_word, update_sign}
use Rattle.ecma_print.specs.Expressions.{link_of, question_dot, object_beside, is_optional}
use Rattle.ecma_print.specs.Layout.{in_place, by_itself, lay_step, laid, key_mark}
use Rattle.ecma_print_tokens.specs.Items as items
use Rattle.ecma_print_tokens.specs.Items.{sign, Gap, no_gap, Items, it, token_text, render}
use Rattle.ecma_shapes.specs.Shapes as shapes
use Rattle.ecma_shapes.specs.Shapes.{Level, looser_than, IsIdent, ident, key, IsExpression, IsElement, IsArguments, AreSlots, IsProperty, IsPropertyName, Role, IsDefaulted, IsPattern, IsChainKey}
use Rattle.ecma_shapes.specs.LiteralTexts.{part_opening, part_closing, part_text}
use Rattle.ecma_shapes.proofs.Tokens.{own_sign, expression_tokens, element_tokens, arguments_tokens, more_tokens, more_slots_tokens, chain_token, property_tokens, ident_word, defaulted_tokens, pattern_tokens, part_token, parts_tokens, is_generator, is_async, function_tokens, function_name_tokens, property_name_tokens}
use Rattle.ecma_shapes.proofs.Signs.{margin, blank, sign_of, assign_token, update_token, unary_token, binary_token, unary_gap, function_word, point_of, question_of, method_tokens}

pub laid_node : (at : Span) (k : Kind) (cs : List Node) → laid (node_of at k cs) ≡ record { kind = k; at = in_place k (map laid cs); parts = map by_itself (map laid cs) }
laid_node at k cs = fold-roll-Node Laid lay_step (record { span = at; kind = k; children = cs })

pub at_node : (at : Span) (k : Kind) (cs : List Node) (place : Place) (m rest : List ℕ) → (laid (node_of at k cs)).at place m rest ≡ in_place k (map laid cs) place m rest
at_node at k cs place m rest = ap (λ x. x.at place m rest) (laid_node at k cs)

-- signs

pub no_sign : (b : Beside) → gap b NoNeighbor ≡ []
no_sign BehindMinus = refl
no_sign BehindPlus = refl
no_sign b = refl

pub word_gap : (o : UnaryOp) (b : Beside) (x : List ℕ) → unary_word o ++ (gap (unary_sign o) b ++ x) ≡ token_text (unary_token o) ++ (let g = unary_gap o b in g.blanks ++ x)
word_gap Minus BehindMinus x = refl
word_gap Minus b x = refl
word_gap Plus BehindPlus x = refl
word_gap Plus b x = refl
word_gap Bang b x = refl
word_gap Tilde b x = refl
word_gap TypeOf b x = refl
word_gap Void b x = refl
word_gap Delete b x = refl

pub update_text : (o : UpdateOp) → update_word o ≡ token_text (update_token o)
update_text PlusPlus = refl
update_text MinusMinus = refl

abbrev is_linked : Level → Bool
is_linked shapes.new_callee = true
is_linked shapes.object = true
is_linked shapes.numeral = true
is_linked shapes.callee = true
is_linked shapes.chain = true
is_linked shapes.left_hand_side = true
is_linked l = false

linked_first : (l : Level) → is_linked (looser_than l) ≡ true → is_linked l ≡ true
linked_first shapes.object h = refl
linked_first shapes.callee h = refl
linked_first shapes.chain h = refl
linked_first shapes.left_hand_side h = refl
linked_first l h = h

-- members, calls and what they begin with begin with no sign
unsigned : {level : Level} {e : Node} (is : IsExpression level e) → is_linked level ≡ true → own_sign is ≡ NoNeighbor
unsigned (shapes.looser {level = l} e) h = unsigned e (linked_first l h)
unsigned (shapes.unary_expression at o e) h = absurd (false≢true h)
unsigned (shapes.prefix_update at o e) h = absurd (false≢true h)
unsigned e h = refl

pub no_gap_before : (o : UpdateOp) {e : Node} (is : IsExpression shapes.callee e) → gap (update_sign o) (own_sign is) ≡ []
no_gap_before o is = rw (unsigned is refl) (no_sign (update_sign o))

-- a node with a text of its own, and no pattern
abbrev is_plain : Kind → Bool
is_plain kind.Absent = false
is_plain kind.List = false
is_plain (kind.ObjectPat optional) = false
is_plain k = true

record Plain (e : Node) : Type 0 where
  pub at : Span
  pub kind : Kind
  pub children : List Node
  pub is : e ≡ node_of at kind children
  plain : is_plain kind ≡ true

-- an expression is one
plain : {level : Level} {e : Node} → IsExpression level e → Plain e
plain (shapes.looser e) = plain e
plain (shapes.name (ident at w i)) = record { at = at; kind = kind.Ident w 0 false; children = []; is = refl; plain = refl }
plain is = record { at = _; kind = _; children = _; is = refl; plain = refl }

no_pattern_by : (k : Kind) → is_plain k ≡ true → is_object_pattern k ≡ false
no_pattern_by (kind.ObjectPat optional) h = absurd (false≢true h)
no_pattern_by k h = refl

pub no_pattern : {level : Level} {e : Node} → IsExpression level e → is_object_pattern (laid e).kind ≡ false
no_pattern is = let p = plain is in rw p.is (ap (λ x. is_object_pattern x.kind) (laid_node p.at p.kind p.children) ∙ no_pattern_by p.kind p.plain)

pub and_false : (b : Bool) → (b && false) ≡ false
and_false true = refl
and_false false = refl

pub assign_text : (o : AssignOp) (x : List ℕ) → assign_word o ++ x ≡ codes " " ++ (token_text (assign_token o) ++ (codes " " ++ x))
assign_text Assign x = refl
assign_text AddAssign x = refl
assign_text SubAssign x = refl
assign_text MulAssign x = refl
assign_text DivAssign x = refl
assign_text ModAssign x = refl
assign_text LShiftAssign x = refl
assign_text RShiftAssign x = refl
assign_text ZeroFillRShiftAssign x = refl
assign_text BitOrAssign x = refl
assign_text BitXorAssign x = refl
assign_text BitAndAssign x = refl
assign_text ExpAssign x = refl
assign_text AndAssign x = refl
assign_text OrAssign x = refl
assign_text NullishAssign x = refl

pub arguments_there : {n : Node} → IsArguments shapes.values n → is_absent (laid n).kind ≡ false
arguments_there (shapes.no_arguments at) = ap (λ x. is_absent x.kind) (laid_node at kind.List [])
arguments_there (shapes.arguments at e es) = ap (λ x. is_absent x.kind) (laid_node at kind.List _)

-- with what stands before and behind a child that is there
within_by : (k : Kind) → is_plain k ≡ true → (cs : List Laid) (between : Between) (spot : Spot) (m rest : List ℕ) → in_place k cs (Within between spot) m rest ≡ before between m (in_place k cs (At spot) m (after between m rest))
within_by kind.Absent h cs between spot m rest = absurd (false≢true h)
within_by kind.List h cs between spot m rest = absurd (false≢true h)
within_by k h cs between spot m rest = refl

pub within_laid : {level : Level} {e : Node} (is : IsExpression level e) (between : Between) (spot : Spot) (m rest : List ℕ) → (laid e).at (Within between spot) m rest ≡ before between m ((laid e).at (At spot) m (after between m rest))
within_laid is between spot m rest =
    let p = plain is in
    let cs = map laid p.children in
    rw p.is (at_node p.at p.kind p.children (Within between spot) m rest ∙ (within_by p.kind p.plain cs between spot m rest ∙ ap (before between m) (sym (at_node p.at p.kind p.children (At spot) m (after between m rest)))))

-- the gap stands in front
word_gap_out : (x y : Bool) (g : Gap) (us : Items) → render (function_word x y g us) ≡ g.blanks ++ render (function_word x y no_gap us)
unfolding render
word_gap_out x true g us = refl
word_gap_out true false g us = refl
word_gap_out false false g us = refl

pub gap_out : {level : Level} {e : Node} (is : IsExpression level e) (depth : ℕ) (g : Gap) (us : Items) → render (expression_tokens is depth g us) ≡ g.blanks ++ render (expression_tokens is depth no_gap us)
unfolding render
gap_out (shapes.name i) depth g us = refl
gap_out (shapes.string at raw t) depth g us = refl
gap_out (shapes.number at raw t) depth g us = refl
gap_out (shapes.this_word at) depth g us = refl
gap_out (shapes.big_int at raw t) depth g us = refl
gap_out (shapes.regex at b f t) depth g us = refl
gap_out (shapes.template at a b ps) depth g us = refl
gap_out (shapes.null_word at) depth g us = refl
gap_out (shapes.true_word at) depth g us = refl
gap_out (shapes.false_word at) depth g us = refl
gap_out (shapes.member at i o k) depth g us = gap_out o depth g (sign_of (codes ".") (it no_gap (chain_token k) us))
gap_out (shapes.call at c es none) depth g us = gap_out c depth g (sign_of (codes "(") (arguments_tokens es depth (sign_of (codes ")") us)))
gap_out (shapes.parenthesized at e) depth g us = refl
gap_out (shapes.looser e) depth g us = gap_out e depth g us
gap_out (shapes.element at at' i o e) depth g us = gap_out o depth g (sign_of (codes "[") (expression_tokens e depth no_gap (sign_of (codes "]") us)))
gap_out (shapes.super_member at at' k) depth g us = refl
gap_out (shapes.super_element at at' at'' e) depth g us = refl
gap_out (shapes.super_call at at' es none) depth g us = refl
gap_out (shapes.new_expression at i e es none) depth g us = refl
gap_out (shapes.new_alone at i e none none') depth g us = refl
gap_out (shapes.new_target at) depth g us = refl
gap_out (shapes.import_meta at) depth g us = refl
gap_out (shapes.import_call at at' es none) depth g us = refl
gap_out (shapes.tagged_template at a b c i o none ps) depth g us = gap_out o depth g (it no_gap (part_token true ps) (parts_tokens ps depth us))
gap_out (shapes.chain_member at a {asks = b} i o k) depth g us = gap_out o depth g (sign_of (point_of b) (it no_gap (chain_token k) us))
gap_out (shapes.chain_element at a c {asks = b} i o e) depth g us = gap_out o depth g (question_of b (sign_of (codes "[") (expression_tokens e depth no_gap (sign_of (codes "]") us))))
gap_out (shapes.chain_call at a {asks = b} i o es none) depth g us = gap_out o depth g (question_of b (sign_of (codes "(") (arguments_tokens es depth (sign_of (codes ")") us))))
gap_out (shapes.prefix_update at o e) depth g us = refl
gap_out (shapes.postfix_update at o e) depth g us = gap_out e depth g (it no_gap (update_token o) us)
gap_out (shapes.await_expression at e) depth g us = refl
gap_out (shapes.unary_expression at o e) depth g us = refl
gap_out (shapes.binary_expression at {operator = o} i l r) depth g us = gap_out l depth g (it blank (binary_token o) (expression_tokens r depth blank us))
gap_out (shapes.private_in at at' w t r) depth g us = refl
gap_out (shapes.exponentiation at l r) depth g us = gap_out l depth g (it blank (sign (codes "**")) (expression_tokens r depth blank us))
gap_out (shapes.both at l r) depth g us = gap_out l depth g (it blank (sign (codes "&&")) (expression_tokens r depth blank us))
gap_out (shapes.either at l r) depth g us = gap_out l depth g (it blank (sign (codes "||")) (expression_tokens r depth blank us))
gap_out (shapes.coalesced at i l r) depth g us = gap_out l depth g (it blank (sign (codes "??")) (expression_tokens r depth blank us))
gap_out (shapes.yield_nothing at none) depth g us = refl
gap_out (shapes.yield_value at d e) depth g us = refl
gap_out (shapes.assignment_expression at o t v) depth g us = gap_out t depth g (it blank (assign_token o) (expression_tokens v depth blank us))
gap_out (shapes.conditional_expression at t x y) depth g us = gap_out t depth g (it blank (sign (codes "?")) (expression_tokens x depth blank (it blank (sign (codes ":")) (expression_tokens y depth blank us))))
gap_out (shapes.arrow_function at true ps e z a b) depth g us = refl
gap_out (shapes.arrow_function at false ps e z a b) depth g us = refl
gap_out (shapes.arrow_block at true ps b n n') depth g us = refl
gap_out (shapes.arrow_block at false ps b n n') depth g us = refl
gap_out (shapes.array at at' es) depth g us = refl
gap_out (shapes.object_literal at at' ps) depth g us = refl
gap_out (shapes.function_expression at i f) depth g us = word_gap_out (is_generator f) (is_async f) g (function_name_tokens i (function_tokens f depth us))
gap_out (shapes.class_expression at i c) depth g us = refl
gap_out (shapes.sequence_expression at x y es) depth g us = gap_out x depth g (sign_of (codes ",") (expression_tokens y depth blank (more_tokens es depth us)))

pub pattern_gap_out : {n : Node} (is : IsPattern n) (depth : ℕ) (g : Gap) (us : Items) → render (pattern_tokens is depth g us) ≡ g.blanks ++ render (pattern_tokens is depth no_gap us)
unfolding render
pattern_gap_out (shapes.name_pattern at i a) depth g us = refl
pattern_gap_out is depth g us = refl

pub defaulted_gap_out : {n : Node} (is : IsDefaulted n) (depth : ℕ) (g : Gap) (us : Items) → render (defaulted_tokens is depth g us) ≡ g.blanks ++ render (defaulted_tokens is depth no_gap us)
defaulted_gap_out (shapes.no_default p) depth g us = pattern_gap_out p depth g us
defaulted_gap_out (shapes.with_default at p e) depth g us = pattern_gap_out p depth g (it blank (sign (codes "=")) (expression_tokens e depth blank us))

pub element_gap_out : {role : Role} {n : Node} (is : IsElement role n) (depth : ℕ) (g : Gap) (us : Items) → render (element_tokens is depth g us) ≡ g.blanks ++ render (element_tokens is depth no_gap us)
unfolding render
element_gap_out (shapes.one e) depth g us = gap_out e depth g us
element_gap_out (shapes.spread at e) depth g us = refl
element_gap_out (shapes.bound p) depth g us = defaulted_gap_out p depth g us
element_gap_out (shapes.rest at p a) depth g us = refl

-- the name of a property, and of a method
pub key_gap_out : {n : Node} (is : IsPropertyName n) (depth : ℕ) (g : Gap) (us : Items) → render (property_name_tokens is depth g us) ≡ g.blanks ++ render (property_name_tokens is depth no_gap us)
unfolding render
key_gap_out (shapes.key_name k) depth g us = refl
key_gap_out (shapes.string_name at raw t) depth g us = refl
key_gap_out (shapes.number_name at raw t) depth g us = refl
key_gap_out (shapes.big_int_name at raw t) depth g us = refl
key_gap_out (shapes.computed_name at e) depth g us = refl

method_gap_out : (x y : Bool) {n : Node} (is : IsPropertyName n) (depth : ℕ) (g : Gap) (us : Items)
    → render (method_tokens x y (λ h. property_name_tokens is depth h us) g) ≡ g.blanks ++ render (method_tokens x y (λ h. property_name_tokens is depth h us) no_gap)
unfolding render
method_gap_out true true is depth g us = refl
method_gap_out true false is depth g us = refl
method_gap_out false true is depth g us = refl
method_gap_out false false is depth g us = key_gap_out is depth g us

pub property_gap_out : {role : Role} {n : Node} (is : IsProperty role n) (depth : ℕ) (g : Gap) (us : Items) → render (property_tokens is depth g us) ≡ g.blanks ++ render (property_tokens is depth no_gap us)
unfolding render
property_gap_out (shapes.method_property at k f) depth g us = method_gap_out (is_generator f) (is_async f) k depth g (function_tokens f depth us)
property_gap_out (shapes.key_value at (shapes.key_name k) v) depth g us = refl
property_gap_out (shapes.renamed at (shapes.key_name k) v) depth g us = refl
property_gap_out (shapes.renamed at k v) depth g us = refl
property_gap_out (shapes.key_value at k v) depth g us = refl
property_gap_out is depth g us = refl

pub slots_gap_out : {role : Role} {ns : List Node} (is : AreSlots role ns) (depth : ℕ) (us : Items) → render (more_slots_tokens is depth true blank us) ≡ codes " " ++ render (more_slots_tokens is depth true no_gap us)
unfolding render
slots_gap_out shapes.no_slots depth us = refl
slots_gap_out is depth us = refl

no_absent_by : (k : Kind) → is_plain k ≡ true → is_absent k ≡ false
no_absent_by kind.Absent h = absurd (false≢true h)
no_absent_by k h = refl

pattern_there : {n : Node} → IsPattern n → is_absent (laid n).kind ≡ false
pattern_there (shapes.name_pattern at i a) = ap (λ x. is_absent x.kind) (laid_node at kind.BindingIdent _)
pattern_there (shapes.array_pattern at at' es a) = ap (λ x. is_absent x.kind) (laid_node at (kind.ArrayPat false) _)
pattern_there (shapes.object_pattern at at' ps a) = ap (λ x. is_absent x.kind) (laid_node at (kind.ObjectPat false) _)

defaulted_there : {n : Node} → IsDefaulted n → is_absent (laid n).kind ≡ false
defaulted_there (shapes.no_default p) = pattern_there p
defaulted_there (shapes.with_default at p e) = ap (λ x. is_absent x.kind) (laid_node at kind.AssignPat _)

pub element_there : {role : Role} {n : Node} → IsElement role n → is_absent (laid n).kind ≡ false
element_there (shapes.one e) = let p = plain e in rw p.is (ap (λ x. is_absent x.kind) (laid_node p.at p.kind p.children) ∙ no_absent_by p.kind p.plain)
element_there (shapes.spread at e) = ap (λ x. is_absent x.kind) (laid_node at kind.SpreadElement _)
element_there (shapes.bound p) = defaulted_there p
element_there (shapes.rest at p a) = ap (λ x. is_absent x.kind) (laid_node at kind.RestPat _)

-- behind ` =`
pub value_laid : {e : Node} (is : IsExpression shapes.assignment e) (depth : ℕ) (us : Items) → (laid e).at (At (free 1)) (margin depth) (render us) ≡ render (expression_tokens is depth no_gap us)
    → (laid e).at (Within Equals (free 1)) (margin depth) (render us) ≡ render (it blank (sign (codes "=")) (expression_tokens is depth blank us))
unfolding render
value_laid is depth us h = within_laid is Equals (free 1) (margin depth) (render us) ∙ (ap (λ z. codes " = " ++ z) h ∙ ap (λ z. codes " =" ++ z) (sym (gap_out is depth blank us)))

pub binding_laid : (at : Span) {id : Node} (i : IsIdent id) (none : Node) (m : List ℕ) (us : Items) → (laid (node_of at kind.BindingIdent (id ∷ none ∷ []))).at (At (free 1)) m (render us) ≡ render (it no_gap (items.key (ident_word i)) us)
unfolding render
binding_laid at (ident of w i) n' m us =
    at_node at kind.BindingIdent (node_of of (kind.Ident w 0 false) [] ∷ n' ∷ []) (At (free 1)) m (render us) ∙ at_node of (kind.Ident w 0 false) [] (At (free 1)) m (render us)

pub part_split : (f l : Bool) (raw x : List ℕ) → part_opening f ++ (raw ++ (part_closing l ++ x)) ≡ part_text f l raw ++ x
part_split f l raw x = ap (λ z. part_opening f ++ z) (sym (append_assoc raw (part_closing l) x)) ∙ sym (append_assoc (part_opening f) (raw ++ part_closing l) x)

-- the marks of optional chains

pub link_beside : (b computed : Bool) → object_beside (link_of b) computed ≡ InChain
link_beside true computed = refl
link_beside false computed = refl

pub link_asks : (b : Bool) → is_optional (link_of b) ≡ b
link_asks true = refl
link_asks false = refl

pub question_text : (b : Bool) (us : Items) → key_mark b true ++ render us ≡ render (question_of b us)
unfolding render
question_text true us = refl
question_text false us = refl

pub dot_text : (b : Bool) (us : Items) → question_dot b ++ render us ≡ render (question_of b us)
unfolding render
dot_text true us = refl
dot_text false us = refl

pub key_named : {n : Node} → IsChainKey n → is_computed (laid n).kind ≡ false
key_named (shapes.plain_key (key at w t)) = ap (λ x. is_computed x.kind) (laid_node at (kind.IdentName w) [])
key_named (shapes.private_key at w t) = ap (λ x. is_computed x.kind) (laid_node at (kind.PrivateName w) [])

pub key_laid : {n : Node} (k : IsChainKey n) (b : Bool) (m : List ℕ) (us : Items) → (laid n).at (Key b) m (render us) ≡ render (sign_of (point_of b) (it no_gap (chain_token k) us))
unfolding render
key_laid (shapes.plain_key (key at w t)) true m us = at_node at (kind.IdentName w) [] (Key true) m (render us)
key_laid (shapes.plain_key (key at w t)) false m us = at_node at (kind.IdentName w) [] (Key false) m (render us)
key_laid (shapes.private_key at w t) true m us = at_node at (kind.PrivateName w) [] (Key true) m (render us)
key_laid (shapes.private_key at w t) false m us = at_node at (kind.PrivateName w) [] (Key false) m (render us)
