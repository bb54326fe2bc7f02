-- Meanings that leave all as it was, in the roles in which parts of an expression without effects stand.
use Rattle.std.proofs.Common.{◌≡◌, sym, ap, ◌∙◌, subst, ℕ, ◌<◌, List, [], ◌∷◌, map, Option, Bool, true, false, not, ◌&&◌}
use Rattle.ecma_kind.specs.declared.kind.Kind.{Kind}
use Rattle.ecma_kind.specs.declared.kind.Kind.TheVariants as kind
use Rattle.ecma_tree.proofs.Layers.{from_leaves_out}
use Rattle.ecma_tree.specs.declared.node.Node.{Node, Node-F, roll-Node, out-Node}
use Rattle.ecma_tree.specs.declared.node.Node.TheViews.{out-roll-Node}
use Rattle.ecma_judge.specs.declared.ctx.ExprCtx.{ExprCtx}
use Rattle.ecma_judge.specs.Effects.{reads_plainly, effects_by}
use Rattle.ecma_judge.specs.Judged.{judged}
use Rattle.ecma_judge.specs.Judgement.{Judged, any_has_effects}
use Rattle.ecma_judge.specs.Parts.{is_optional_call, passes_at}
use Rattle.ecma_judge.specs.PureCallees.{pure_callee_by}
use Rattle.ecma_runs.specs.State.{Id, Entered, Sort, State}
use Rattle.ecma_runs.specs.Run.{Run}
use Rattle.ecma_runs.specs.Values.{Value, Own}
use Rattle.ecma_runs.specs.Environment.{Reference, ToValue}
use Rattle.ecma_runs.specs.Meaning.{ExecutionContext, Meaning}
use Rattle.ecma_runs.specs.Evaluation.{meaning}
use Rattle.ecma_runs.specs.Expressions.{chained}
use Rattle.ecma_judge_runs.proofs.Lone.{lone}
use Rattle.ecma_judge_runs.specs.Idle.{is_harmless}
use Rattle.ecma_judge_runs.specs.Called.{Assumed, is_function_expression, are_apart, declares_no_loose}
use Rattle.ecma_judge_runs.specs.Taken.{Taken, all_whole, in_place, is_taken_by, read_by, called_by, taken_by, taken, is_taken}
use Rattle.ecma_judge_runs.proofs.Both.{both_true, neither_true, two_true}
use Rattle.ecma_judge_runs.proofs.Leaving.{LeavesBy, Leaves}
use Rattle.ecma_judge_runs.proofs.Keeping.{Any, LeavesFrom}
use Rattle.ecma_judge_runs.proofs.Records.{Readable}
use Rattle.ecma_judge_runs.proofs.Objects.{NewObject}
use Rattle.ecma_judge_runs.proofs.Data.{IsReadAt, Keeps, ReadableIn}

-- ---- what is asked of a node, by its kind and its children

pub taken-out : (ctx : ExprCtx) (sure : Assumed) (x : ExecutionContext) (n : Node)
    → taken ctx x.known.declared sure n ≡ taken_by ctx x.known.declared sure (out-Node n).kind n (map (taken ctx x.known.declared sure) (out-Node n).children)
taken-out ctx sure x n = from_leaves_out Taken (λ m children. taken_by ctx x.known.declared sure (out-Node m).kind m children) n

pub taken-roll : (ctx : ExprCtx) (sure : Assumed) (x : ExecutionContext) (parts : Node-F Node)
    → taken ctx x.known.declared sure (roll-Node parts) ≡ taken_by ctx x.known.declared sure parts.kind (roll-Node parts) (map (taken ctx x.known.declared sure) parts.children)
taken-roll ctx sure x parts =
    taken-out ctx sure x (roll-Node parts) ∙ ap (λ (z : Node-F Node). taken_by ctx x.known.declared sure z.kind (roll-Node parts) (map (taken ctx x.known.declared sure) z.children)) (out-roll-Node parts)

-- a name
abbrev pub is_name : Kind → Bool
is_name (kind.Ident sym ctxt optional) = true
is_name k = false

-- whether it is a name that a callee is, or is a member of
abbrev pub needs_globals : Kind → List Node → Bool
needs_globals (kind.Ident sym ctxt optional) cs = true
needs_globals kind.MemberExpr (object ∷ key ∷ rest) = is_name (out-Node object).kind
needs_globals k cs = false

module _ (ctx : ExprCtx) (sure : Assumed) (x : ExecutionContext) where
  read_name_by : (k : Kind) (cs : List Taken) → read_by ctx x.known.declared sure k cs ≡ true → is_name k ≡ true → sure.globals ≡ true
  read_name_by (kind.Ident sym ctxt optional) cs read is = read
  read_name_by k cs read is = absurd (cc)

  -- a name of which members are read is global
  pub read_name : (n : Node) → (taken ctx x.known.declared sure n).read ≡ true → is_name (out-Node n).kind ≡ true → sure.globals ≡ true
  read_name n read is =
      read_name_by (out-Node n).kind (map (taken ctx x.known.declared sure) (out-Node n).children) (sym (ap (λ (t : Taken). t.read) (taken-out ctx sure (lone x) n)) ∙ read) is

  called_idle_by : (n : Node) (k : Kind) (cs : List Taken) → called_by ctx x.known.declared sure k n cs ≡ true → is_function_expression k ≡ true → (sure.calls ≡ true) × (passes_at is_harmless 1 n ≡ true)
  called_idle_by n kind.FnExpr cs called is = both_true sure.calls (passes_at is_harmless 1 n) called
  called_idle_by n k cs called is = absurd (cc)

  -- a function expression that is a callee does nothing, and calls are those of the program
  pub called_idle : (n : Node) → (taken ctx x.known.declared sure n).called ≡ true → is_function_expression (out-Node n).kind ≡ true → (sure.calls ≡ true) × (passes_at is_harmless 1 n ≡ true)
  called_idle n called is =
      called_idle_by n (out-Node n).kind (map (taken ctx x.known.declared sure) (out-Node n).children) (sym (ap (λ (t : Taken). t.called) (taken-out ctx sure (lone x) n)) ∙ called) is

  called_name_by : (n : Node) (k : Kind) (cs : List Node) → called_by ctx x.known.declared sure k n (map (taken ctx x.known.declared sure) cs) ≡ true → needs_globals k cs ≡ true → sure.globals ≡ true
  called_name_by n (kind.Ident sym ctxt optional) cs called is = called
  called_name_by n kind.MemberExpr (object ∷ key ∷ rest) called is = read_name object called is
  called_name_by n k cs called is = absurd (cc)

  pub called_name : (n : Node) → (taken ctx x.known.declared sure n).called ≡ true → needs_globals (out-Node n).kind (out-Node n).children ≡ true → sure.globals ≡ true
  called_name n called is = called_name_by n (out-Node n).kind (out-Node n).children (sym (ap (λ (t : Taken). t.called) (taken-out ctx sure (lone x) n)) ∙ called) is

module _ (ctx : ExprCtx) (sure : Assumed) where
  -- names, and scopes, whose names have contexts of their own, where that is asked
  abbrev pub NamesApart : List Id → Type 0
  NamesApart names = sure.globals ≡ true → are_apart ctx names ≡ true

  abbrev pub Apart : List Entered → Type 0
  Apart scope = sure.globals ≡ true → declares_no_loose ctx scope ≡ true

  pub apart_inside : (entered : Entered) (scope : List Entered) (names : List Id) → entered.ids ≡ names → NamesApart names → Apart scope → Apart (entered ∷ scope)
  apart_inside entered scope names same h apart is =
      two_true (are_apart ctx entered.ids) (declares_no_loose ctx scope) (subst (λ z. are_apart ctx z ≡ true) (sym same) (h is)) (apart is)

  module _ (x : ExecutionContext) where
    -- the context, where these scopes are around
    abbrev pub within : List Entered → ExecutionContext
    within scope = record (lone x) { scope = scope }

    abbrev pub Evaluates : {A : Type 0} → (ExecutionContext → Run A) → Type 0
    Evaluates e = (old : State) (scope : List Entered) → Apart scope → Leaves old (e (within scope))

    -- to make a function's object changes nothing, and no accessor is found from the object
    abbrev pub Makes : Meaning → Type 0
    Makes m = (sort : Sort) (home : Option ℕ) (old : State) (scope : List Entered) → LeavesFrom old Any (λ f s. IsReadAt f s) (m.made sort home (within scope))

    -- nor does to evaluate it, in each of these roles; properties are defined on new objects
    pub record Quiet (m : Meaning) : Type 0 where
      pub value : Evaluates m.value
      pub reference : (old : State) (scope : List Entered) → Apart scope → LeavesFrom old Any ReadableIn (m.reference (within scope))
      pub initial : Evaluates m.initial
      pub arguments : Evaluates m.arguments
      pub elements : Evaluates m.elements
      pub key : Evaluates m.key
      pub class_made : (names : List Id) → NamesApart names → Evaluates (m.class_made names)
      pub defined : (class object : ℕ) (old : State) (scope : List Entered) → Apart scope → NewObject old class → NewObject old object → Leaves old (m.defined class object (within scope))
      pub statics : (keys : List (List ℕ)) (class : ℕ) (old : State) (scope : List Entered) → Apart scope → NewObject old class → Leaves old (m.statics keys (Own class) (within scope))

-- where members of a class are defined, or properties of an object: on the prototype, which stands before the class, or on the object itself
abbrev pub Place : Bool → ℕ → ℕ → Type 0
Place true kept object = object < kept
Place false kept object = object ≡ kept

-- a new object from which no accessor is found
abbrev pub IsNew : Value → State → Type 0
IsNew v s = (o : ℕ) × (v ≡ Own o) × IsReadAt o s

abbrev pub RefersToNew : Reference → State → Type 0
RefersToNew r s = (o : ℕ) × (r ≡ ToValue (Own o)) × IsReadAt o s

module _ (ctx : ExprCtx) (sure : Assumed) (x : ExecutionContext) where
  -- what is shown of each node
  pub record Claim (n : Node) : Type 0 where
    pub made : Makes ctx sure (lone x) (meaning n)
    pub named : (taken ctx x.known.declared sure n).named ≡ true → are_apart ctx (meaning n).names ≡ true
    pub missing : (taken ctx x.known.declared sure n).missing ≡ true → (meaning n).is_absent ≡ true
    pub quiet : (judged ctx n).effects ≡ false → is_taken ctx x.known.declared sure n ≡ true → Quiet ctx sure (lone x) (meaning n)
    -- an object without accessors, of which members are read
    pub read : (judged ctx n).effects ≡ false → (taken ctx x.known.declared sure n).read ≡ true → reads_plainly n ≡ true → (old : State) (scope : List Entered) → Apart ctx sure scope
        → LeavesFrom old Any RefersToNew ((meaning n).reference (within ctx sure (lone x) scope))
    -- a class without static accessors
    pub class_read : (judged ctx n).effects ≡ false → is_taken ctx x.known.declared sure n ≡ true → (taken ctx x.known.declared sure n).in_class ≡ true → (names : List Id) → NamesApart ctx sure names
        → (old : State) (scope : List Entered) → Apart ctx sure scope → LeavesFrom old Any IsNew ((meaning n).class_made names (within ctx sure (lone x) scope))
    -- properties and members, which are no accessors
    pub defines : (judged ctx n).effects ≡ false → is_taken ctx x.known.declared sure n ≡ true → (is_class : Bool) → in_place is_class (taken ctx x.known.declared sure n) ≡ true → (kept object : ℕ) → Place is_class kept object
        → (old : State) (scope : List Entered) → Apart ctx sure scope → NewObject old kept → NewObject old object → Keeps old kept ((meaning n).defined kept object (within ctx sure (lone x) scope))
    -- static fields
    pub sets : (judged ctx n).effects ≡ false → is_taken ctx x.known.declared sure n ≡ true → (keys : List (List ℕ)) (kept : ℕ) (old : State) (scope : List Entered) → Apart ctx sure scope → NewObject old kept
        → Keeps old kept ((meaning n).statics keys (Own kept) (within ctx sure (lone x) scope))
    -- an optional call
    pub linked : (judged ctx n).effects ≡ false → is_taken ctx x.known.declared sure n ≡ true → is_optional_call (out-Node n).kind ≡ true → (optional : Bool) (old : State) (scope : List Entered) → Apart ctx sure scope
        → LeavesBy old (λ o. Readable (chained o)) ((meaning n).link optional (within ctx sure (lone x) scope))

  abbrev pub Claimed : Type 0
  Claimed = (n : Node) × Claim n

  abbrev pub nodes : List Claimed → List Node
  nodes ns = map (λ e. e.0) ns

  abbrev pub meanings : List Claimed → List Meaning
  meanings ns = map meaning (nodes ns)

  abbrev pub judgements : List Claimed → List Judged
  judgements ns = map (judged ctx) (nodes ns)

  abbrev pub takens : List Claimed → List Taken
  takens ns = map (taken ctx x.known.declared sure) (nodes ns)

  -- a node of this kind with these children is said to have no effects
  abbrev pub HasNone : Node → Kind → List Claimed → Type 0
  HasNone n k ns = (not (pure_callee_by ctx k n) && effects_by ctx k n (judgements ns)) ≡ false

  abbrev pub IsTaken : Kind → List Claimed → Type 0
  IsTaken k ns = is_taken_by ctx x.known.declared sure k (takens ns) ≡ true

  -- these are its children
  abbrev pub Has : Node → List Claimed → Type 0
  Has n ns = (out-Node n).children ≡ nodes ns

  -- each of these has no effects
  abbrev pub AllQuiet : List Claimed → Type 0
  AllQuiet [] = Unit {0}
  AllQuiet (n ∷ ns) = Quiet ctx sure (lone x) (meaning n.0) × AllQuiet ns

  pub all_quiet : (ns : List Claimed) → any_has_effects (judgements ns) ≡ false → all_whole (takens ns) ≡ true → AllQuiet ns
  all_quiet [] none whole = tt
  all_quiet (n ∷ ns) none whole =
      let e = neither_true (judged ctx n.0).effects (any_has_effects (judgements ns)) none in
      let t = both_true (is_taken ctx x.known.declared sure n.0) (all_whole (takens ns)) whole in
      (n.1.quiet e.0 t.0, all_quiet ns e.1 t.1)

  -- the first one, where all are taken
  pub first_whole : (n : Claimed) (ns : List Claimed) → all_whole (takens (n ∷ ns)) ≡ true → is_taken ctx x.known.declared sure n.0 ≡ true
  first_whole n ns whole = (both_true (is_taken ctx x.known.declared sure n.0) (all_whole (takens ns)) whole).0

  pub first_quiet : (n : Claimed) (ns : List Claimed) → (judged ctx n.0).effects ≡ false → all_whole (takens (n ∷ ns)) ≡ true → Quiet ctx sure (lone x) (meaning n.0)
  first_quiet n ns none whole = n.1.quiet none (first_whole n ns whole)

  -- the second one is taken, where all are
  pub second_whole : (a b : Claimed) (ns : List Claimed) → all_whole (takens (a ∷ b ∷ ns)) ≡ true → is_taken ctx x.known.declared sure b.0 ≡ true
  second_whole a b ns whole = first_whole b ns (both_true (is_taken ctx x.known.declared sure a.0) (all_whole (takens (b ∷ ns))) whole).1
