-- What is read by a production is read by those further out, where their other alternatives refuse the front and their tails what follows.
use Rattle.std.proofs.Common.{◌≡◌, ℕ, zero, suc, ◌&&◌, Bool, true, false, [], ◌∷◌, codes, refl, ap, ◌∙◌, ◌||◌, bytes_eq, List}
use Rattle.std.proofs.lemmas.Bool.{and_parts}
use Rattle.ecma_kind.specs.declared.operators.UpdateOp.TheVariants as update_op
use Rattle.ecma_kind.specs.declared.operators.BinaryOp.TheVariants as binary
use Rattle.ecma_tree.specs.declared.node.Node.{Node}
use Rattle.ecma_grammar.specs.declared.production.Part.{Part}
use Rattle.ecma_grammar.specs.declared.production.Part.TheVariants as part
use Rattle.ecma_grammar.specs.declared.production.Leaf.TheVariants as leaf
use Rattle.ecma_grammar.specs.declared.production.Plain.TheVariants as plain
use Rattle.ecma_grammar.specs.declared.production.Form.TheVariants as form
use Rattle.ecma_grammar.specs.Grammar as grammar
use Rattle.ecma_grammar.specs.Grammar.{Grammar, nothing, same_line, keep, ◌▸◌, ◌//◌, build, word, punct, behind_punct, optional, node, item}
use Rattle.ecma_grammar.specs.productions.Names.{assign_in}
use Rattle.ecma_grammar.specs.productions.Functions.{arrow_rest, arrow_body}
use Rattle.ecma_grammar.specs.productions.Chains.{links}
use Rattle.ecma_grammar.specs.productions.Operators.{prefixed, factors, terms, shifts, shift, relations, equalities, conjunctions, exclusions, disjunctions, coalescing, logicals}
use Rattle.ecma_grammar.specs.productions.Expressions.{conditional, yield_, assignments}
use Rattle.ecma_grammar.specs.productions.Declarations.{declaration}
use Rattle.ecma_grammar.specs.productions.Statements.{statement_body}
use Rattle.ecma_grammar.specs.productions.Modules.{module_item}
use Rattle.ecma_print_tokens.specs.Items.{Items, sign, template}
use Rattle.ecma_shapes.specs.Shapes as shapes
use Rattle.ecma_shapes.specs.Shapes.{Level}
use Rattle.ecma_print_readings.proofs.Machine.{read, Turn, followed_on, or_on, with_front, built_on, without, interp}
use Rattle.ecma_print_readings.proofs.Fronts.{Front, Begins, refuses_at, passes_at, refused_at, passed_at, exactly}

-- a grammar around another: the front is f, and k stands behind what is read
pub data Tower (f k : Front) (base : Grammar) : Grammar → Type 0 where
  here : Tower f k base base
  later : {a b : Grammar} → refuses_at f a ≡ true → Tower f k base b → Tower f k base (a // b)
  sooner : {a b : Grammar} → Tower f k base a → Tower f k base (a // b)
  before : {a b : Grammar} → Tower f k base a → passes_at k b ≡ true → Tower f k base (a ▸ b)
  chained : {a : Grammar} → Tower f k base a → Tower f k base (build form.Chain a)
  logical : {a : Grammar} → Tower f k base a → Tower f k base (build form.Logical a)
  sequence : {a : Grammar} → Tower f k base a → Tower f k base (build form.Sequence a)

module _ (assigned : Bool) (p : Part → Turn) where
  pub climb : {f k : Front} {base g : Grammar} → Tower f k base g → (ts us : Items) (x : Node) → Begins f ts → Begins k us → interp assigned p base ts ≡ read (x ∷ []) us → interp assigned p g ts ≡ read (x ∷ []) us
  climb here ts us x b c h = h
  climb {f} (later {a = a} {b = d} e t) ts us x b c h = ap (or_on (interp assigned p d) ts) (refused_at assigned p a f ts b e) ∙ climb t ts us x b c h
  climb (sooner {b = d} t) ts us x b c h = ap (or_on (interp assigned p d) ts) (climb t ts us x b c h)
  climb {k = k} (before {b = d} t e) ts us x b c h = ap (followed_on (interp assigned p d)) (climb t ts us x b c h) ∙ ap (with_front (x ∷ [])) (passed_at assigned p d k us c e)
  climb (chained t) ts us x b c h = ap (built_on form.Chain) (climb t ts us x b c h)
  climb (logical t) ts us x b c h = ap (built_on form.Logical) (climb t ts us x b c h)
  climb (sequence t) ts us x b c h = ap (built_on form.Sequence) (climb t ts us x b c h)

abbrev pub refuses_choices : ℕ → Front → Grammar → Bool
refuses_choices zero f g = true
refuses_choices (suc n) f (a // b) = refuses_at f a && refuses_choices n f b
refuses_choices (suc n) f g = true

module _ (assigned : Bool) (p : Part → Turn) where
  pub skipped : (n : ℕ) (g : Grammar) (f : Front) (ts : Items) → Begins f ts → refuses_choices n f g ≡ true → interp assigned p g ts ≡ interp assigned p (without n g) ts
  skipped zero g f ts b e = refl
  skipped (suc n) (x // y) f ts b e = let z = and_parts (refuses_at f x) (refuses_choices n f y) e in ap (or_on (interp assigned p y) ts) (refused_at assigned p x f ts b z.0) ∙ skipped n y f ts b z.1
  skipped (suc n) grammar.nothing f ts b e = refl
  skipped (suc n) same_line f ts b e = refl
  skipped (suc n) (grammar.take t) f ts b e = refl
  skipped (suc n) (keep l) f ts b e = refl
  skipped (suc n) (grammar.put k) f ts b e = refl
  skipped (suc n) (x ▸ y) f ts b e = refl
  skipped (suc n) (grammar.many x) f ts b e = refl
  skipped (suc n) (grammar.ahead x) f ts b e = refl
  skipped (suc n) (grammar.unless x) f ts b e = refl
  skipped (suc n) (grammar.marked x) f ts b e = refl
  skipped (suc n) (grammar.assigned x) f ts b e = refl
  skipped (suc n) (grammar.up u) f ts b e = refl
  skipped (suc n) (grammar.enter u) f ts b e = refl
  skipped (suc n) (grammar.behind t u) f ts b e = refl
  skipped (suc n) (build k x) f ts b e = refl

-- the words with which an expression statement does not begin
abbrev pub excluded : Grammar
excluded = word (codes "function") // word (codes "class") // word (codes "async") ▸ same_line ▸ word (codes "function")

-- a private name before `in`
abbrev pub private_in : Grammar
private_in = keep leaf.PrivateName ▸ item (plain.BinExpr binary.In) (word (codes "in") ▸ shift)

-- what an expression begins with that no operator stands before
pub record Opens (f : Front) : Type 0 where
  pub no_spread : refuses_at f (punct (codes "...")) ≡ true
  pub no_yield : refuses_at f (yield_ false false) ≡ true
  pub no_private : refuses_at f private_in ≡ true
  pub no_prefix : refuses_at f prefixed ≡ true
  pub no_increment : refuses_at f (node (plain.UpdateExpr update_op.PlusPlus true) (behind_punct (codes "++") part.Operand)) ≡ true
  pub no_decrement : refuses_at f (node (plain.UpdateExpr update_op.MinusMinus true) (behind_punct (codes "--") part.Operand)) ≡ true

abbrev pub suffix : Grammar
suffix = same_line ▸ item (plain.UpdateExpr update_op.PlusPlus false) (punct (codes "++")) // same_line ▸ item (plain.UpdateExpr update_op.MinusMinus false) (punct (codes "--")) // nothing

abbrev pub power_tail : Grammar
power_tail = optional (behind_punct (codes "**") part.Power)

abbrev pub choice_tail : Bool → Grammar
choice_tail no_in = optional (item plain.CondExpr (punct (codes "?") ▸ grammar.up (part.Assign false true) ▸ punct (codes ":") ▸ assign_in no_in))

-- what a statement does not begin with, but for a block, a label, a declaration or an expression
pub record Starts (f : Front) : Type 0 where
  pub no_statement : refuses_choices 9 f (without 1 statement_body) ≡ true
  pub no_item : refuses_choices 3 f module_item ≡ true

-- what no declaration begins with, and no function
pub record Undeclared (f : Front) : Type 0 where
  pub no_declaration : refuses_at f declaration ≡ true
  pub no_word : refuses_at f excluded ≡ true

-- what stands behind an expression of each level is none of its operators, and nothing that `async` would stand before

abbrev closes_chain : Front → Bool
closes_chain e = passes_at e links && refuses_at e (word (codes "function"))

abbrev closes_update : Front → Bool
closes_update e = passes_at e suffix && closes_chain e

abbrev closes_power : Front → Bool
closes_power e = passes_at e power_tail && closes_update e

abbrev closes_product : Front → Bool
closes_product e = passes_at e factors && closes_power e

abbrev closes_sum : Front → Bool
closes_sum e = passes_at e terms && closes_product e

abbrev closes_shift : Front → Bool
closes_shift e = passes_at e shifts && closes_sum e

abbrev closes_relation : Bool → Front → Bool
closes_relation no_in e = passes_at e (relations no_in) && closes_shift e

abbrev closes_equality : Bool → Front → Bool
closes_equality no_in e = passes_at e (equalities no_in) && closes_relation no_in e

abbrev closes_bit_and : Bool → Front → Bool
closes_bit_and no_in e = passes_at e (conjunctions no_in) && closes_equality no_in e

abbrev closes_bit_xor : Bool → Front → Bool
closes_bit_xor no_in e = passes_at e (exclusions no_in) && closes_bit_and no_in e

abbrev closes_bit_or : Bool → Front → Bool
closes_bit_or no_in e = passes_at e (disjunctions no_in) && closes_bit_xor no_in e

abbrev pub closes_logical : Bool → Front → Bool
closes_logical no_in e = passes_at e (coalescing no_in // logicals no_in) && closes_bit_or no_in e

abbrev pub closes_conditional : Bool → Front → Bool
closes_conditional no_in e = passes_at e (choice_tail no_in) && closes_logical no_in e

-- signs and parts of templates with which no expression begins
abbrev pub is_stop : List ℕ → Bool
is_stop w = bytes_eq w (codes ")") || (bytes_eq w (codes "]") || (bytes_eq w (codes "}") || (bytes_eq w (codes ",") || (bytes_eq w (codes ";") || bytes_eq w (codes ":")))))

abbrev pub stops : Front → Bool
stops (exactly (sign w)) = is_stop w
stops (exactly (template false last w)) = true
stops e = false

-- and no arrow, and no operand of `yield`
abbrev closes_assignment : Bool → Front → Bool
closes_assignment no_in e = stops e && (refuses_at e (arrow_body no_in false) && (refuses_at e (arrow_rest no_in false) && (passes_at e (assignments no_in false) && closes_conditional no_in e)))

-- and no comma
abbrev closes_sequence : Bool → Front → Bool
closes_sequence no_in e = refuses_at e (punct (codes ",")) && closes_assignment no_in e

-- ..., where `in` is an operator, or is none
abbrev pub closes_in : Bool → Level → Front → Bool
closes_in no_in shapes.new_callee e = closes_chain e
closes_in no_in shapes.object e = closes_chain e
closes_in no_in shapes.numeral e = closes_chain e
closes_in no_in shapes.callee e = closes_chain e
closes_in no_in shapes.chain e = closes_chain e
closes_in no_in shapes.left_hand_side e = closes_chain e
closes_in no_in shapes.update e = closes_update e
closes_in no_in shapes.unary e = closes_update e
closes_in no_in shapes.power e = closes_power e
closes_in no_in shapes.product e = closes_product e
closes_in no_in shapes.sum e = closes_sum e
closes_in no_in shapes.shift e = closes_shift e
closes_in no_in shapes.relation e = closes_relation no_in e
closes_in no_in shapes.equality e = closes_equality no_in e
closes_in no_in shapes.bit_and e = closes_bit_and no_in e
closes_in no_in shapes.bit_xor e = closes_bit_xor no_in e
closes_in no_in shapes.bit_or e = closes_bit_or no_in e
closes_in no_in shapes.logical_and e = closes_logical no_in e
closes_in no_in shapes.logical_or e = closes_logical no_in e
closes_in no_in shapes.coalescing e = closes_logical no_in e
closes_in no_in shapes.short_circuit e = closes_logical no_in e
closes_in no_in shapes.assignment e = closes_assignment no_in e
closes_in no_in shapes.sequence e = closes_sequence no_in e

abbrev pub closes : Level → Front → Bool
closes l e = closes_in false l e

-- what ends an assignment expression
abbrev pub Ends : Front → Type 0
Ends e = closes shapes.assignment e ≡ true

abbrev pub behind_arrow : Bool → Grammar
behind_arrow no_in = yield_ no_in false // build form.Chain (conditional no_in false ▸ assignments no_in false)
