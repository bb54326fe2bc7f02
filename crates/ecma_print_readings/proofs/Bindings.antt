-- What is read of an expression at each level: what stands at one level stands at each looser one.
use Rattle.std.proofs.Common.{◌≡◌, ℕ, zero, suc, ◌&&◌, Bool, true, false, List, [], ◌∷◌, ◌++◌, codes, refl, ap, subst, ◌∙◌, append-nil, Some, None, unwrap_or}
use Rattle.std.proofs.lemmas.Bool.{and_parts, false≢true}
use Rattle.ecma_kind.specs.declared.operators.BinaryOp.TheVariants as op
use Rattle.ecma_kind.specs.declared.operators.AssignOp.TheVariants.{Assign}
use Rattle.ecma_kind.specs.declared.kind.Kind.{Kind}
use Rattle.ecma_kind.specs.declared.kind.Kind.TheVariants as kind
use Rattle.ecma_tree.specs.declared.node.Node.{Node}
use Rattle.ecma_tree.specs.Nodes.{dummy_span, absent}
use Rattle.ecma_grammar.specs.declared.production.Part.TheVariants as part
use Rattle.ecma_grammar.specs.declared.production.Form.TheVariants as form
use Rattle.ecma_grammar.specs.trees.Parts.{kind_of, in_front}
use Rattle.ecma_grammar.specs.trees.Chains.{steps, in_front_logical, is_or}
use Rattle.ecma_grammar.specs.Grammar as grammar
use Rattle.ecma_grammar.specs.Grammar.{Grammar, ◌▸◌, ◌//◌, build, punct, optional}
use Rattle.ecma_grammar.specs.productions.Names.{expression}
use Rattle.ecma_grammar.specs.productions.Types.{params}
use Rattle.ecma_grammar.specs.productions.Functions.{arrow_rest, arrow_body}
use Rattle.ecma_grammar.specs.productions.Chains.{chain}
use Rattle.ecma_grammar.specs.productions.Operators as operators
use Rattle.ecma_grammar.specs.productions.Operators.{prefixed, factors, terms, shifts, relations, equalities, conjunctions, exclusions, disjunctions, coalescing, logicals, operand, exponentiation}
use Rattle.ecma_grammar.specs.productions.Expressions as expressions
use Rattle.ecma_grammar.specs.productions.Expressions.{assignments, yield_}
use Rattle.ecma_grammar.specs.productions.Modules.{module_item}
use Rattle.ecma_print_tokens.specs.Items.{Gap, Items}
use Rattle.ecma_print_readings.proofs.Machine.{read, with_front, followed_on, or_on, built_on, many_up_to, interp, means}
use Rattle.ecma_shapes.specs.Shapes as shapes
use Rattle.ecma_shapes.specs.Shapes.{Level, looser_than}
use Rattle.ecma_print_readings.proofs.Levels.{means_is}
use Rattle.ecma_print_readings.proofs.Fronts.{Front, Begins, refuses_at, refused_at, first_refuses, refuses_first, passes_at, passed_at}
use Rattle.ecma_print_readings.proofs.Towers.{Tower, here, later, before, chained, climb, suffix, power_tail, choice_tail, private_in, behind_arrow, closes_conditional, closes, Ends, refuses_choices, stops, closes_in}
use Rattle.ecma_print_readings.proofs.Heads.{is_head, kind-node, bare, is_chain}
use Rattle.ecma_print_readings.proofs.Forms.{NoArrow, Laid, behind_params, Reads, Refuses, AsParam, Form, NewForm, Whole, chain_read, Lead, lead_of, only_opens, opens_plainly}
use Rattle.ecma_print_readings.proofs.Params.{Params, params_by}

-- the production of each level
abbrev pub grammar_of : Bool → Level → Grammar
grammar_of no_in shapes.new_callee = chain
grammar_of no_in shapes.object = chain
grammar_of no_in shapes.numeral = chain
grammar_of no_in shapes.callee = chain
grammar_of no_in shapes.chain = chain
grammar_of no_in shapes.left_hand_side = chain
grammar_of no_in shapes.update = operators.update
grammar_of no_in shapes.unary = operand
grammar_of no_in shapes.power = exponentiation
grammar_of no_in shapes.product = operators.product
grammar_of no_in shapes.sum = operators.sum
grammar_of no_in shapes.shift = operators.shift
grammar_of no_in shapes.relation = operators.relation no_in
grammar_of no_in shapes.equality = operators.equality no_in
grammar_of no_in shapes.bit_and = operators.bit_and no_in
grammar_of no_in shapes.bit_xor = operators.bit_xor no_in
grammar_of no_in shapes.bit_or = operators.bit_or no_in
grammar_of no_in shapes.logical_and = operators.short_circuit no_in
grammar_of no_in shapes.logical_or = operators.short_circuit no_in
grammar_of no_in shapes.coalescing = operators.short_circuit no_in
grammar_of no_in shapes.short_circuit = operators.short_circuit no_in
grammar_of no_in shapes.assignment = grammar.up (part.Assign no_in false)
grammar_of no_in shapes.sequence = expression no_in

-- a relation's first part
abbrev pub related : Bool → Grammar
related no_in = operators.if_in no_in private_in // operators.shift

-- what stands behind it as a parameter: no `=`
abbrev pub EndOf : Level → Front → Type 0
EndOf shapes.assignment e = (refuses_at e (punct (codes "=")) ≡ true) × Ends e
EndOf shapes.sequence e = (refuses_at e (punct (codes "=")) ≡ true) × Ends e
EndOf l e = refuses_at e (punct (codes "=")) ≡ true

-- no `||`, where `&&` would take its right side; a kind behind which links mean what they are
abbrev pub NotOr : Level → Kind → Type 0
NotOr shapes.logical_or k = Unit {0}
NotOr shapes.short_circuit k = Unit {0}
NotOr shapes.assignment k = Unit {0}
NotOr shapes.sequence k = Unit {0}
NotOr shapes.new_callee k = is_head k ≡ true
NotOr shapes.object k = is_head k ≡ true
NotOr shapes.numeral k = is_head k ≡ true
NotOr shapes.callee k = is_head k ≡ true
NotOr shapes.chain k = is_chain k ≡ true
NotOr l k = is_or k ≡ false

pub head_is_no_or : (k : Kind) → is_head k ≡ true → is_or k ≡ false
head_is_no_or (kind.BinExpr o) h = absurd (false≢true h)
head_is_no_or k h = refl

-- what it does not begin with: a private name before `in`, `yield`
abbrev pub Tight : Level → Front → Type 0
Tight shapes.sequence e = Unit {0}
Tight shapes.assignment e = Unit {0}
Tight shapes.short_circuit e = refuses_at e (yield_ false false) ≡ true
Tight shapes.coalescing e = refuses_at e (yield_ false false) ≡ true
Tight shapes.logical_or e = refuses_at e (yield_ false false) ≡ true
Tight shapes.logical_and e = refuses_at e (yield_ false false) ≡ true
Tight shapes.bit_or e = refuses_at e (yield_ false false) ≡ true
Tight shapes.bit_xor e = refuses_at e (yield_ false false) ≡ true
Tight shapes.bit_and e = refuses_at e (yield_ false false) ≡ true
Tight shapes.equality e = refuses_at e (yield_ false false) ≡ true
Tight shapes.relation e = refuses_at e (yield_ false false) ≡ true
Tight l e = (refuses_at e private_in ≡ true) × (refuses_at e (yield_ false false) ≡ true)

pub tight_by : (e : Front) → only_opens e ≡ true → (refuses_at e private_in ≡ true) × (refuses_at e (yield_ false false) ≡ true)
tight_by e z =
    let a = and_parts (opens_plainly e) _ z in
    let b = and_parts (refuses_choices 3 e module_item) _ a.1 in
    and_parts (refuses_at e private_in) _ b.1

chain_is_no_or : (k : Kind) → is_chain k ≡ true → is_or k ≡ false
chain_is_no_or (kind.BinExpr o) h = absurd (false≢true h)
chain_is_no_or k h = refl

-- right sides of `&&`
pub data AllAnd : List Node → Type 0 where
  no_and : AllAnd []
  more_and : {ns : List Node} (x : Node) → AllAnd ns → AllAnd (bare (kind.BinExpr op.LogicalAnd) (absent ∷ x ∷ []) ∷ ns)

-- what stands behind an expression stands there also where `in` is no operator

both_true : (a b : Bool) → a ≡ true → b ≡ true → (a && b) ≡ true
both_true a b h k = rw (h, k) refl

relation_closed : (no_in : Bool) (e : Front) → closes shapes.relation e ≡ true → closes_in no_in shapes.relation e ≡ true
unfolding relations
relation_closed false e z = z
relation_closed true e z =
    let c = and_parts (passes_at e (relations false)) (closes shapes.shift e) z in
    let a = and_parts (refuses_at e (operators.operator (codes "<") op.Lt false)) _ c.0 in
    let b = and_parts (refuses_at e (operators.operator (codes ">") op.Gt false)) _ a.1 in
    let d = and_parts (refuses_at e (operators.operator (codes "<=") op.LtEq false)) _ b.1 in
    let f = and_parts (refuses_at e (operators.operator (codes ">=") op.GtEq false)) _ d.1 in
    let g = and_parts (refuses_at e (grammar.behind_word (codes "instanceof") (part.Binary op.InstanceOf false))) _ f.1 in
    rw (a.0, b.0, d.0, f.0, g.0, c.1) refl

equality_closed : (no_in : Bool) (e : Front) → closes shapes.equality e ≡ true → closes_in no_in shapes.equality e ≡ true
unfolding equalities
equality_closed no_in e z = let c = and_parts (passes_at e (equalities false)) (closes shapes.relation e) z in both_true _ _ c.0 (relation_closed no_in e c.1)

bit_and_closed : (no_in : Bool) (e : Front) → closes shapes.bit_and e ≡ true → closes_in no_in shapes.bit_and e ≡ true
bit_and_closed no_in e z = let c = and_parts (passes_at e (conjunctions false)) (closes shapes.equality e) z in both_true _ _ c.0 (equality_closed no_in e c.1)

bit_xor_closed : (no_in : Bool) (e : Front) → closes shapes.bit_xor e ≡ true → closes_in no_in shapes.bit_xor e ≡ true
bit_xor_closed no_in e z = let c = and_parts (passes_at e (exclusions false)) (closes shapes.bit_and e) z in both_true _ _ c.0 (bit_and_closed no_in e c.1)

bit_or_closed : (no_in : Bool) (e : Front) → closes shapes.bit_or e ≡ true → closes_in no_in shapes.bit_or e ≡ true
bit_or_closed no_in e z = let c = and_parts (passes_at e (disjunctions false)) (closes shapes.bit_xor e) z in both_true _ _ c.0 (bit_xor_closed no_in e c.1)

logical_closed : (no_in : Bool) (e : Front) → closes shapes.logical_or e ≡ true → closes_in no_in shapes.logical_or e ≡ true
logical_closed no_in e z = let c = and_parts (passes_at e (coalescing false // logicals false)) (closes shapes.bit_or e) z in both_true _ _ c.0 (bit_or_closed no_in e c.1)

pub conditional_closed : (no_in : Bool) (e : Front) → closes_conditional false e ≡ true → closes_conditional no_in e ≡ true
conditional_closed no_in e z = let c = and_parts (passes_at e (choice_tail false)) (closes shapes.logical_or e) z in both_true _ _ c.0 (logical_closed no_in e c.1)

assignment_closed : (no_in : Bool) (e : Front) → closes shapes.assignment e ≡ true → closes_in no_in shapes.assignment e ≡ true
unfolding arrow_rest assignments
assignment_closed no_in e z =
    let s = and_parts (stops e) _ z in
    let a = and_parts (refuses_at e (arrow_body false false)) _ s.1 in
    let b = and_parts (refuses_at e (arrow_rest false false)) _ a.1 in
    let c = and_parts (passes_at e (assignments false false)) (closes_conditional false e) b.1 in
    both_true _ _ s.0 (both_true _ _ a.0 (both_true _ _ b.0 (both_true _ _ c.0 (conditional_closed no_in e c.1))))

sequence_closed : (no_in : Bool) (e : Front) → closes shapes.sequence e ≡ true → closes_in no_in shapes.sequence e ≡ true
sequence_closed no_in e z = let c = and_parts (refuses_at e (punct (codes ","))) (closes shapes.assignment e) z in both_true _ _ c.0 (assignment_closed no_in e c.1)

pub closed : (no_in : Bool) (l : Level) (e : Front) → closes l e ≡ true → closes_in no_in l e ≡ true
closed no_in shapes.relation e z = relation_closed no_in e z
closed no_in shapes.equality e z = equality_closed no_in e z
closed no_in shapes.bit_and e z = bit_and_closed no_in e z
closed no_in shapes.bit_xor e z = bit_xor_closed no_in e z
closed no_in shapes.bit_or e z = bit_or_closed no_in e z
closed no_in shapes.logical_and e z = logical_closed no_in e z
closed no_in shapes.logical_or e z = logical_closed no_in e z
closed no_in shapes.coalescing e z = logical_closed no_in e z
closed no_in shapes.short_circuit e z = logical_closed no_in e z
closed no_in shapes.assignment e z = assignment_closed no_in e z
closed no_in shapes.sequence e z = sequence_closed no_in e z
closed no_in l e z = z

-- behind an assignment expression stands none of its operators, and none of a conditional one
ends_parts : (no_in : Bool) (e : Front) → closes_in no_in shapes.assignment e ≡ true → (passes_at e (assignments no_in false) ≡ true) × (closes_conditional no_in e ≡ true)
ends_parts no_in e z =
    let s = and_parts (stops e) _ z in
    let c = and_parts (refuses_at e (arrow_body no_in false)) _ s.1 in
    let d = and_parts (refuses_at e (arrow_rest no_in false)) _ c.1 in
    and_parts (passes_at e (assignments no_in false)) (closes_conditional no_in e) d.1

-- nor `=`
pub ends_no_equals : (e : Front) → Ends e → refuses_at e (punct (codes "=")) ≡ true
unfolding assignments
ends_no_equals e z = let c = ends_parts false e z in let a = and_parts (refuses_at e (expressions.assignment (codes "=") Assign false false)) _ c.0 in first_refuses e (punct (codes "=")) a.0

abbrev pub further_out : ℕ → Level → Level
further_out zero l = l
further_out (suc n) l = further_out n (looser_than l)

loosest : (l : Level) → further_out 19 l ≡ shapes.sequence
loosest shapes.object = refl
loosest l = refl

module _ (assigned : Bool) where
  abbrev pub Direct : Bool → Level → Laid → Node → Type 0
  Direct no_in l f n = (g : Gap) (us : Items) (e : Front) → Begins e us → closes_in no_in l e ≡ true → Reads assigned (grammar_of no_in l) (f g us) (n ∷ []) us

  -- a first part of a tighter level, and operators behind it
  pub record Chained (no_in : Bool) (base tail : Grammar) (tighter : Level) (f : Laid) (n : Node) : Type 0 where
    pub pieces : List Node
    pub own : (g : Gap) (us : Items) (e : Front) → Begins e us → closes_in no_in tighter e ≡ true → (ys : List Node) (vs : Items) → Reads assigned tail us ys vs → Reads assigned (base ▸ tail) (f g us) (pieces ++ ys) vs
    pub whole : steps in_front None pieces ≡ Some n

  -- an operator and its operand, or none in front
  pub data Operand (c : Front) (f : Laid) (n : Node) : Type 0 where
    with_operator : ((g : Gap) (us : Items) (e : Front) → Begins e us → closes shapes.unary e ≡ true → Reads assigned prefixed (f g us) (n ∷ []) us) → Operand c f n
    without_operator : refuses_at c prefixed ≡ true → Direct false shapes.update f n → Operand c f n

  -- a first part, and `&&` and `||` behind it, wherever they are read on
  pub record Split (no_in : Bool) (ts vs : Items) (first : Node) (more : List Node) : Type 0 where
    pub mid : Items
    pub first_read : Reads assigned (operators.bit_or no_in) ts (first ∷ []) mid
    pub few : Reads assigned (logicals no_in) mid more vs
    pub all : Reads assigned (coalescing no_in // logicals no_in) mid more vs

  pub record Logical (no_in : Bool) (f : Laid) (n : Node) : Type 0 where
    pub first : Node
    pub more : List Node
    pub own : (g : Gap) (us : Items) (e : Front) → Begins e us → closes_in no_in shapes.bit_or e ≡ true → (ys : List Node) (vs : Items) → Reads assigned (logicals no_in) us ys vs → Reads assigned (coalescing no_in // logicals no_in) us ys vs → Split no_in (f g us) vs first (more ++ ys)
    pub whole : steps in_front_logical (Some first) more ≡ Some n

  pub record Ands (no_in : Bool) (f : Laid) (n : Node) : Type 0 where
    pub chain : Logical no_in f n
    pub ands : AllAnd chain.more
    pub no_or : is_or (kind_of chain.first) ≡ false

  -- a first part, and `??` behind it
  pub record Coalesces (no_in : Bool) (ts vs : Items) (first : Node) (more : List Node) : Type 0 where
    pub mid : Items
    pub first_read : Reads assigned (operators.bit_or no_in) ts (first ∷ []) mid
    pub all : Reads assigned (coalescing no_in) mid more vs

  pub record Coalesced (no_in : Bool) (f : Laid) (n : Node) : Type 0 where
    pub first : Node
    pub more : List Node
    pub own : (g : Gap) (us : Items) (e : Front) → Begins e us → closes_in no_in shapes.bit_or e ≡ true → (ys : List Node) (vs : Items) → Reads assigned (optional (coalescing no_in)) us ys vs → Coalesces no_in (f g us) vs first (more ++ ys)
    pub whole : steps in_front_logical (Some first) more ≡ Some n

  abbrev pub Reading : Bool → Level → Front → Laid → Kind → List Node → Type 0
  Reading no_in shapes.new_callee c f k ns = NewForm assigned f k ns
  Reading no_in shapes.object c f k ns = Form assigned f k ns
  Reading no_in shapes.numeral c f k ns = NewForm assigned f k ns
  Reading no_in shapes.callee c f k ns = Form assigned f k ns
  Reading no_in shapes.chain c f k ns = Form assigned f k ns
  Reading no_in shapes.left_hand_side c f k ns = Whole assigned c f (bare k ns)
  Reading no_in shapes.update c f k ns = (refuses_at c prefixed ≡ true) × Direct no_in shapes.update f (bare k ns)
  Reading no_in shapes.unary c f k ns = Operand c f (bare k ns)
  Reading no_in shapes.power c f k ns = Direct no_in shapes.power f (bare k ns)
  Reading no_in shapes.product c f k ns = Chained false exponentiation factors shapes.power f (bare k ns)
  Reading no_in shapes.sum c f k ns = Chained false operators.product terms shapes.product f (bare k ns)
  Reading no_in shapes.shift c f k ns = Chained false operators.sum shifts shapes.sum f (bare k ns)
  Reading no_in shapes.relation c f k ns = Chained no_in (related no_in) (relations no_in) shapes.shift f (bare k ns)
  Reading no_in shapes.equality c f k ns = Chained no_in (operators.relation no_in) (equalities no_in) shapes.relation f (bare k ns)
  Reading no_in shapes.bit_and c f k ns = Chained no_in (operators.equality no_in) (conjunctions no_in) shapes.equality f (bare k ns)
  Reading no_in shapes.bit_xor c f k ns = Chained no_in (operators.bit_and no_in) (exclusions no_in) shapes.bit_and f (bare k ns)
  Reading no_in shapes.bit_or c f k ns = Chained no_in (operators.bit_xor no_in) (disjunctions no_in) shapes.bit_xor f (bare k ns)
  Reading no_in shapes.logical_and c f k ns = Ands no_in f (bare k ns)
  Reading no_in shapes.logical_or c f k ns = Logical no_in f (bare k ns)
  Reading no_in shapes.coalescing c f k ns = Coalesced no_in f (bare k ns)
  Reading no_in shapes.short_circuit c f k ns = Direct no_in shapes.short_circuit f (bare k ns)
  Reading no_in shapes.assignment c f k ns = Direct no_in shapes.assignment f (bare k ns)
  Reading no_in shapes.sequence c f k ns = Direct no_in shapes.sequence f (bare k ns)

  -- what is read of it as a parameter; a sequence is read as several, and those behind it
  abbrev pub ParamOf : Level → Items → Items → Type 0
  ParamOf shapes.sequence ts us = (no_in : Bool) → Params assigned no_in us → Refuses assigned (params ▸ behind_params no_in) ts
  ParamOf l ts us = AsParam assigned ts us

  -- what is tighter than an assignment begins no arrow function
  abbrev pub Arrowless : Level → Laid → Type 0
  Arrowless shapes.sequence f = Unit {0}
  Arrowless shapes.assignment f = Unit {0}
  Arrowless l f = NoArrow assigned f

  -- an expression at a level, where `in` is an operator, or is none
  pub record StandsIn (no_in : Bool) (l : Level) (f : Laid) (k : Kind) (ns : List Node) : Type 0 where
    pub lead : Lead assigned f
    pub reading : Reading no_in l lead.front f k ns
    pub tight : Tight l (let L = lead in L.front)
    pub no_or : NotOr l k
    pub no_arrow : Arrowless l f
    pub param : (g : Gap) (us : Items) (e : Front) → Begins e us → EndOf l e → ParamOf l (f g us) us

  -- where it is one
  abbrev pub Stands : Level → Laid → Kind → List Node → Type 0
  Stands l f k ns = StandsIn false l f k ns

  pub chained_read : {no_in : Bool} {base tail : Grammar} {l : Level} {f : Laid} {n : Node} → Chained no_in base tail l f n → (g : Gap) (us : Items) (e : Front) → Begins e us → passes_at e tail ≡ true → closes_in no_in l e ≡ true
      → Reads assigned (build form.Chain (base ▸ tail)) (f g us) (n ∷ []) us
  chained_read {tail = tail} C g us e b p z =
      ap (built_on form.Chain) (C.own g us e b z [] us (passed_at assigned (means assigned) tail e us b p))
      ∙ ap (λ o. read (unwrap_or o absent ∷ []) us) (ap (steps in_front None) (append-nil C.pieces) ∙ C.whole)

  single : {no_in : Bool} (base tail : Grammar) (l : Level) {f : Laid} {n : Node} → ((g : Gap) (us : Items) (e : Front) → Begins e us → closes_in no_in l e ≡ true → Reads assigned base (f g us) (n ∷ []) us) → Chained no_in base tail l f n
  single base tail l {n = n} d = record {
    pieces = n ∷ [];
    own = λ g us e b z ys vs h. ap (followed_on (interp assigned (means assigned) tail)) (d g us e b z) ∙ ap (with_front (n ∷ [])) h;
    whole = refl;
  }

  update_read : {f : Laid} {n : Node} (L : Lead assigned f) → Whole assigned (let l = L in l.front) f n → Direct false shapes.update f n
  unfolding operators.update
  update_read {f} {n} L w g us e b z =
      let o = w.opens in
      let c = and_parts (passes_at e suffix) (closes shapes.callee e) z in
      let t : Tower L.front e chain operators.update = later o.no_increment (later o.no_decrement (chained (before here c.0))) in
      climb assigned (means assigned) t (f g us) us n (L.begins g us) b (w.all g us e b c.1)

  power_read : {f : Laid} {n : Node} (L : Lead assigned f) → Operand (let l = L in l.front) f n → Direct false shapes.power f n
  unfolding exponentiation
  power_read {f} {n} L (with_operator d) g us e b z =
      let c = and_parts (passes_at e power_tail) (closes shapes.unary e) z in
      ap (or_on (interp assigned (means assigned) (build form.Chain (operators.update ▸ power_tail))) (f g us)) (d g us e b c.1)
  power_read {f} {n} L (without_operator r d) g us e b z =
      let c = and_parts (passes_at e power_tail) (closes shapes.unary e) z in
      let t : Tower L.front e operators.update exponentiation = later r (chained (before here c.0)) in
      climb assigned (means assigned) t (f g us) us n (L.begins g us) b (d g us e b c.1)

  -- no private name stands before `in` there
  related_read : (no_in : Bool) {f : Laid} {n : Node} (L : Lead assigned f) → refuses_at (let l = L in l.front) private_in ≡ true → Direct false shapes.shift f n → (g : Gap) (us : Items) (e : Front) → Begins e us → closes shapes.shift e ≡ true → Reads assigned (related no_in) (f g us) (n ∷ []) us
  related_read true L t d g us e b z = d g us e b z
  related_read false {f} L t d g us e b z = ap (or_on (interp assigned (means assigned) operators.shift) (f g us)) (refused_at assigned (means assigned) private_in L.front (f g us) (L.begins g us) t) ∙ d g us e b z

  pub assignment_read : (no_in : Bool) {f : Laid} {n : Node} (L : Lead assigned f) → NoArrow assigned f → refuses_at (let l = L in l.front) (yield_ false false) ≡ true → ((g : Gap) (us : Items) (e : Front) → Begins e us → closes_in no_in shapes.assignment e ≡ true → Reads assigned (expressions.conditional no_in false) (f g us) (n ∷ []) us) → Direct no_in shapes.assignment f n
  assignment_read no_in {f} {n} L N y D g us e b z =
      let s = and_parts (stops e) _ z in
      let c = and_parts (refuses_at e (arrow_body no_in false)) _ s.1 in
      let d = and_parts (refuses_at e (arrow_rest no_in false)) _ c.1 in
      let t : Tower L.front e (expressions.conditional no_in false) (behind_arrow no_in) = later y (chained (before here (ends_parts no_in e z).0)) in
      means_is assigned (part.Assign no_in false) (f g us)
      ∙ (ap (or_on (interp assigned (means assigned) (behind_arrow no_in)) (f g us)) (N no_in g us e b c.0 (refused_at assigned (means assigned) (arrow_rest no_in false) e us b d.0))
      ∙ climb assigned (means assigned) t (f g us) us n (L.begins g us) b (D g us e b z))

  module _ {no_in : Bool} where
    pub from_form : {f : Laid} {k : Kind} {ns : List Node} → is_head k ≡ true → Form assigned f k ns → StandsIn no_in shapes.object f k ns
    from_form h F = let o = F.opens in record { lead = lead_of assigned F; tight = (o.no_private, o.no_yield); no_or = h; no_arrow = F.no_arrow; param = F.as_param; reading = F }

    pub from_chain : {f : Laid} {k : Kind} {ns : List Node} → is_chain k ≡ true → Form assigned f k ns → StandsIn no_in shapes.chain f k ns
    from_chain h F = let o = F.opens in record { lead = lead_of assigned F; tight = (o.no_private, o.no_yield); no_or = h; no_arrow = F.no_arrow; param = F.as_param; reading = F }

    pub from_new : {f : Laid} {k : Kind} {ns : List Node} → is_head k ≡ true → NewForm assigned f k ns → StandsIn no_in shapes.new_callee f k ns
    from_new h N = let F = N.form in let o = F.opens in record { lead = lead_of assigned F; tight = (o.no_private, o.no_yield); no_or = h; no_arrow = F.no_arrow; param = F.as_param; reading = N }

    logical_read : {f : Laid} {n : Node} → Logical no_in f n → (g : Gap) (us : Items) (e : Front) → Begins e us → closes_in no_in shapes.logical_or e ≡ true → Reads assigned (operators.short_circuit no_in) (f g us) (n ∷ []) us
    unfolding operators.short_circuit
    logical_read C g us e b z =
        let c = and_parts (passes_at e (coalescing no_in // logicals no_in)) (closes_in no_in shapes.bit_or e) z in
        let d = and_parts (refuses_at e (coalescing no_in)) (passes_at e (logicals no_in)) c.0 in
        let x = C.own g us e b c.1 [] us (passed_at assigned (means assigned) (logicals no_in) e us b d.1) (passed_at assigned (means assigned) (coalescing no_in // logicals no_in) e us b c.0) in
        ap (built_on form.Logical) (ap (followed_on (interp assigned (means assigned) (coalescing no_in // logicals no_in))) x.first_read ∙ ap (with_front (C.first ∷ [])) x.all)
        ∙ ap (λ o. read (unwrap_or o absent ∷ []) us) (ap (steps in_front_logical (Some C.first)) (append-nil C.more) ∙ C.whole)

    coalesced_read : {f : Laid} {n : Node} → Coalesced no_in f n → Direct no_in shapes.short_circuit f n
    unfolding operators.short_circuit
    coalesced_read C g us e b z =
        let c = and_parts (passes_at e (coalescing no_in // logicals no_in)) (closes_in no_in shapes.bit_or e) z in
        let d = and_parts (refuses_at e (coalescing no_in)) (passes_at e (logicals no_in)) c.0 in
        let x = C.own g us e b c.1 [] us (passed_at assigned (means assigned) (optional (coalescing no_in)) e us b (rw d.0 refl)) in
        let I = interp assigned (means assigned) in
        ap (built_on form.Logical) (ap (followed_on (I (coalescing no_in // logicals no_in))) x.first_read ∙ ap (with_front (C.first ∷ [])) (ap (or_on (I (logicals no_in)) x.mid) x.all))
        ∙ ap (λ o. read (unwrap_or o absent ∷ []) us) (ap (steps in_front_logical (Some C.first)) (append-nil C.more) ∙ C.whole)

    module _ {f : Laid} {k : Kind} {ns : List Node} where
      -- at each level, all of it is read
      pub direct : (l : Level) → StandsIn no_in l f k ns → Direct no_in l f (bare k ns)
      unfolding operand operators.shift operators.relation operators.equality operators.bit_and operators.bit_xor operators.bit_or
      direct shapes.new_callee S g us e b z = let N = S.reading in chain_read assigned N.form g us e b z
      direct shapes.object S g us e b z = chain_read assigned S.reading g us e b z
      direct shapes.numeral S g us e b z = let N = S.reading in chain_read assigned N.form g us e b z
      direct shapes.callee S g us e b z = chain_read assigned S.reading g us e b z
      direct shapes.chain S g us e b z = chain_read assigned S.reading g us e b z
      direct shapes.left_hand_side S g us e b z = let w = S.reading in w.all g us e b z
      direct shapes.update S g us e b z = let r = S.reading in r.1 g us e b z
      direct shapes.unary S g us e b z = by_operand S.reading
        where
          by_operand : Operand (let l = S.lead in l.front) f (bare k ns) → Reads assigned operand (f g us) (bare k ns ∷ []) us
          by_operand (with_operator d) = ap (or_on (interp assigned (means assigned) operators.update) (f g us)) (d g us e b z)
          by_operand (without_operator c d) = let l = S.lead in ap (or_on (interp assigned (means assigned) operators.update) (f g us)) (refused_at assigned (means assigned) prefixed l.front (f g us) (l.begins g us) c) ∙ d g us e b z
      direct shapes.power S g us e b z = S.reading g us e b z
      direct shapes.product S g us e b z = let c = and_parts (passes_at e factors) (closes_in no_in shapes.power e) z in chained_read S.reading g us e b c.0 c.1
      direct shapes.sum S g us e b z = let c = and_parts (passes_at e terms) (closes_in no_in shapes.product e) z in chained_read S.reading g us e b c.0 c.1
      direct shapes.shift S g us e b z = let c = and_parts (passes_at e shifts) (closes_in no_in shapes.sum e) z in chained_read S.reading g us e b c.0 c.1
      direct shapes.relation S g us e b z = let c = and_parts (passes_at e (relations no_in)) (closes_in no_in shapes.shift e) z in chained_read S.reading g us e b c.0 c.1
      direct shapes.equality S g us e b z = let c = and_parts (passes_at e (equalities no_in)) (closes_in no_in shapes.relation e) z in chained_read S.reading g us e b c.0 c.1
      direct shapes.bit_and S g us e b z = let c = and_parts (passes_at e (conjunctions no_in)) (closes_in no_in shapes.equality e) z in chained_read S.reading g us e b c.0 c.1
      direct shapes.bit_xor S g us e b z = let c = and_parts (passes_at e (exclusions no_in)) (closes_in no_in shapes.bit_and e) z in chained_read S.reading g us e b c.0 c.1
      direct shapes.bit_or S g us e b z = let c = and_parts (passes_at e (disjunctions no_in)) (closes_in no_in shapes.bit_xor e) z in chained_read S.reading g us e b c.0 c.1
      direct shapes.logical_and S g us e b z = let r = S.reading in logical_read r.chain g us e b z
      direct shapes.logical_or S g us e b z = logical_read S.reading g us e b z
      direct shapes.coalescing S g us e b z = coalesced_read S.reading g us e b z
      direct shapes.short_circuit S g us e b z = S.reading g us e b z
      direct shapes.assignment S g us e b z = S.reading g us e b z
      direct shapes.sequence S g us e b z = S.reading g us e b z

      -- a level further out

      ands_read : StandsIn no_in shapes.bit_or f k ns → Ands no_in f (bare k ns)
      ands_read S = record {
        chain = record {
          first = bare k ns;
          more = [];
          own = λ g us e b z ys vs h h'. record { mid = us; first_read = direct shapes.bit_or S g us e b z; few = h; all = h' };
          whole = refl;
        };
        ands = no_and;
        no_or = ap is_or (kind-node dummy_span k ns) ∙ S.no_or;
      }

      pub conditional_read : StandsIn no_in shapes.short_circuit f k ns → (g : Gap) (us : Items) (e : Front) → Begins e us → closes_conditional no_in e ≡ true → Reads assigned (expressions.conditional no_in false) (f g us) (bare k ns ∷ []) us
      unfolding expressions.conditional
      conditional_read S g us e b z =
          let l = S.lead in
          let c = and_parts (passes_at e (choice_tail no_in)) (closes_in no_in shapes.short_circuit e) z in
          let t : Tower l.front e (operators.short_circuit no_in) (expressions.conditional no_in false) = chained (before here c.0) in
          climb assigned (means assigned) t (f g us) us (bare k ns) (l.begins g us) b (direct shapes.short_circuit S g us e b c.1)

      one_read : StandsIn no_in shapes.assignment f k ns → Direct no_in shapes.sequence f (bare k ns)
      unfolding expression many_up_to
      one_read S g us e b z =
          let c = and_parts (refuses_at e (punct (codes ","))) (closes_in no_in shapes.assignment e) z in
          rw (S.reading g us e b c.1, refused_at assigned (means assigned) (punct (codes ",") ▸ grammar.up (part.Assign no_in false)) e us b (refuses_first e (punct (codes ",")) (grammar.up (part.Assign no_in false)) c.0)) refl

      pub loosened : (l : Level) → StandsIn no_in l f k ns → StandsIn no_in (looser_than l) f k ns
      loosened shapes.new_callee S = let N = S.reading in from_form S.no_or N.form
      loosened shapes.object S = record { lead = S.lead; tight = S.tight; no_or = S.no_or; no_arrow = S.no_arrow; param = S.param; reading = S.reading }
      loosened shapes.numeral S = let N = S.reading in record { lead = S.lead; tight = S.tight; no_or = S.no_or; no_arrow = S.no_arrow; param = S.param; reading = N.form }
      loosened shapes.callee S = let F = S.reading in let o = F.opens in record { lead = lead_of assigned F; tight = (o.no_private, o.no_yield); no_or = head_is_no_or k S.no_or; no_arrow = S.no_arrow; param = S.param; reading = record { opens = F.opens; all = chain_read assigned F } }
      loosened shapes.chain S = let F = S.reading in let o = F.opens in record { lead = lead_of assigned F; tight = (o.no_private, o.no_yield); no_or = chain_is_no_or k S.no_or; no_arrow = S.no_arrow; param = S.param; reading = record { opens = F.opens; all = chain_read assigned F } }
      loosened shapes.left_hand_side S = let w = S.reading in let o = w.opens in record { lead = S.lead; tight = S.tight; no_or = S.no_or; no_arrow = S.no_arrow; param = S.param; reading = (o.no_prefix, update_read S.lead w) }
      loosened shapes.update S = let r = S.reading in record { lead = S.lead; tight = S.tight; no_or = S.no_or; no_arrow = S.no_arrow; param = S.param; reading = without_operator r.0 r.1 }
      loosened shapes.unary S = record { lead = S.lead; tight = S.tight; no_or = S.no_or; no_arrow = S.no_arrow; param = S.param; reading = power_read S.lead S.reading }
      loosened shapes.power S = record { lead = S.lead; tight = S.tight; no_or = S.no_or; no_arrow = S.no_arrow; param = S.param; reading = single exponentiation factors shapes.power (direct shapes.power S) }
      loosened shapes.product S = record { lead = S.lead; tight = S.tight; no_or = S.no_or; no_arrow = S.no_arrow; param = S.param; reading = single operators.product terms shapes.product (direct shapes.product S) }
      loosened shapes.sum S = record { lead = S.lead; tight = S.tight; no_or = S.no_or; no_arrow = S.no_arrow; param = S.param; reading = single operators.sum shifts shapes.sum (direct shapes.sum S) }
      loosened shapes.shift S = let t = S.tight in record { lead = S.lead; tight = t.1; no_or = S.no_or; no_arrow = S.no_arrow; param = S.param; reading = single (related no_in) (relations no_in) shapes.shift (related_read no_in S.lead t.0 (direct shapes.shift S)) }
      loosened shapes.relation S = record { lead = S.lead; tight = S.tight; no_or = S.no_or; no_arrow = S.no_arrow; param = S.param; reading = single (operators.relation no_in) (equalities no_in) shapes.relation (direct shapes.relation S) }
      loosened shapes.equality S = record { lead = S.lead; tight = S.tight; no_or = S.no_or; no_arrow = S.no_arrow; param = S.param; reading = single (operators.equality no_in) (conjunctions no_in) shapes.equality (direct shapes.equality S) }
      loosened shapes.bit_and S = record { lead = S.lead; tight = S.tight; no_or = S.no_or; no_arrow = S.no_arrow; param = S.param; reading = single (operators.bit_and no_in) (exclusions no_in) shapes.bit_and (direct shapes.bit_and S) }
      loosened shapes.bit_xor S = record { lead = S.lead; tight = S.tight; no_or = S.no_or; no_arrow = S.no_arrow; param = S.param; reading = single (operators.bit_xor no_in) (disjunctions no_in) shapes.bit_xor (direct shapes.bit_xor S) }
      loosened shapes.bit_or S = record { lead = S.lead; tight = S.tight; no_or = S.no_or; no_arrow = S.no_arrow; param = S.param; reading = ands_read S }
      loosened shapes.logical_and S = let r = S.reading in record { lead = S.lead; tight = S.tight; no_or = tt; no_arrow = S.no_arrow; param = S.param; reading = r.chain }
      loosened shapes.logical_or S = record { lead = S.lead; tight = S.tight; no_or = tt; no_arrow = S.no_arrow; param = S.param; reading = logical_read S.reading }
      loosened shapes.coalescing S = record { lead = S.lead; tight = S.tight; no_or = tt; no_arrow = S.no_arrow; param = S.param; reading = coalesced_read S.reading }
      loosened shapes.short_circuit S = record { lead = S.lead; tight = tt; no_or = tt; no_arrow = tt; param = λ g us e b z. S.param g us e b z.0; reading = assignment_read no_in S.lead S.no_arrow S.tight (λ g us e b z. conditional_read S g us e b (ends_parts no_in e z).1) }
      loosened shapes.assignment S = record { lead = S.lead; tight = tt; no_or = tt; no_arrow = tt; param = λ g us e b z n P. params_by assigned n (f g us) us (S.param g us e b z) P; reading = one_read S }
      loosened shapes.sequence S = S

      -- at the loosest
      pub go_out : (n : ℕ) (l : Level) → StandsIn no_in l f k ns → StandsIn no_in (further_out n l) f k ns
      go_out zero l S = S
      go_out (suc n) l S = go_out n (looser_than l) (loosened l S)

      pub standing : {l : Level} → StandsIn no_in l f k ns → StandsIn no_in shapes.sequence f k ns
      standing {l} S = subst (λ m. StandsIn no_in m f k ns) (loosest l) (go_out 19 l S)

    -- as an assignment expression, and as an expression
    module _ {f : Laid} {k : Kind} {ns : List Node} where
      pub used : StandsIn no_in shapes.assignment f k ns → (g : Gap) (us : Items) (e : Front) → Begins e us → closes_in no_in shapes.assignment e ≡ true → means assigned (part.Assign no_in false) (f g us) ≡ read (bare k ns ∷ []) us
      used S g us e b z = S.reading g us e b z

      pub expression_read : StandsIn no_in shapes.sequence f k ns → (g : Gap) (us : Items) (e : Front) → Begins e us → closes_in no_in shapes.assignment e ≡ true → refuses_at e (punct (codes ",")) ≡ true → Reads assigned (expression no_in) (f g us) (bare k ns ∷ []) us
      expression_read S g us e b z c = S.reading g us e b (rw (c, z) refl)
