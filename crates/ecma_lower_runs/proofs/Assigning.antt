-- What is written with free names does what the assignment does, where these are free.
use Rattle.std.proofs.Common.{◌≡◌, ◌∙◌, ℕ, false, codes, sym, ap, List, [], ◌∷◌, ◌++◌, append-nil}
use Rattle.ecma_kind.specs.declared.kind.Kind.TheVariants as kind
use Rattle.ecma_kind.specs.declared.operators.AssignOp.TheVariants.{Assign}
use Rattle.ecma_kind.specs.declared.shapes.Sort.TheVariants as sort
use Rattle.ecma_kind.specs.declared.span.Span.{Span}
use Rattle.ecma_tree.specs.Idents.{ident_node}
use Rattle.ecma_tree.specs.Nodes.{absent, dummy_span, list_node, node_of}
use Rattle.ecma_tree.specs.Sorted.{HasShape, one}
use Rattle.ecma_tree.specs.declared.node.Node.{Node, out-Node}
use Rattle.ecma_utils.specs.Expressions.{assign_of, call_of, key_of}
use Rattle.ecma_utils.specs.Quotes.{name_of, quoted_ident}
use Rattle.ecma_runs.specs.Environment.{Reference, ToFree, ToMember}
use Rattle.ecma_runs.specs.Evaluation.{meaning, role_by, set_export}
use Rattle.ecma_runs.specs.Expressions.{identifier, value_of, member_of as member_at}
use Rattle.ecma_runs.specs.Functions.{call, callee_by, read_object, write as written_to}
use Rattle.ecma_runs.specs.Meaning.{ExecutionContext, Meaning}
use Rattle.ecma_runs.specs.Run.{Run, ◌>>=◌, give, given}
use Rattle.ecma_runs.specs.State.{Id}
use Rattle.ecma_runs.specs.Values.{Value}
use Rattle.ecma_lower.specs.Writing.{exports_of, module_exports, text_of}
use Rattle.ecma_lower_runs.proofs.Meanings.{means, name-text}
use Rattle.ecma_lower_runs.proofs.Sequences.{after, given-again}

-- a name of this context and text is free
abbrev pub IsFree : ℕ → ExecutionContext → List ℕ → Type 0
IsFree free x text = identifier text free x ≡ give (ToFree text)

pub record AreFree (free : ℕ) (x : ExecutionContext) : Type 0 where
  pub of_require : IsFree free x (codes "require")
  pub of_exports : IsFree free x (codes "exports")
  pub of_module : IsFree free x (codes "module")

-- as the right side of a constant, and of an assignment, both give the same
pub record GivesAlike (x : ExecutionContext) (m m' : Meaning) : Type 0 where
  pub value : m'.value x ≡ m.value x
  pub initial : m'.initial x ≡ m.initial x
  pub declared : m'.declared ≡ m.declared

-- a value is written to what a run refers to
abbrev put : ExecutionContext → Run Reference → Run Value → Run Value
put x place value = place >>= λ r. value >>= λ v. written_to x r v >>= λ _. give v

-- a member of what a run refers to
abbrev member : ExecutionContext → Run Reference → Run (List ℕ) → Run Reference
member x object key = object >>= λ r. member_at x r key

module _ (free : ℕ) (x : ExecutionContext) (are : AreFree free x) where
  -- ---- require("m")

  abbrev function : Node
  function = ident_node (quoted_ident free dummy_span (codes "require"))

  abbrev of_function : Meaning
  of_function = role_by function (kind.Ident (codes "require") free false) []

  module _ (span : Span) (source : Node) where
    abbrev as_read : Node
    as_read = node_of span kind.TsExternalModuleRef (source ∷ [])

    abbrev arguments : Node
    arguments = list_node (source ∷ [])

    abbrev pub as_called : Node
    as_called = call_of dummy_span function (source ∷ [])

    abbrev parts : List Meaning
    parts = of_function ∷ role_by arguments kind.List (meaning source ∷ []) ∷ role_by absent kind.Absent [] ∷ []

    call-means : meaning as_called ≡ role_by as_called kind.CallExpr parts
    call-means =
        means dummy_span kind.CallExpr (function ∷ arguments ∷ absent ∷ [])
        ∙ (λ i. role_by as_called kind.CallExpr (means dummy_span (kind.Ident (codes "require") free false) [] i ∷ means dummy_span kind.List (source ∷ []) i ∷ means dummy_span kind.Absent [] i ∷ []))

    -- a list of one argument gives what this does
    one-argument : ((meaning source).arguments x >>= λ vs. give (vs ++ [])) ≡ (meaning source).arguments x
    one-argument = (λ i. (meaning source).arguments x >>= λ vs. give (append-nil vs i)) ∙ given-again ((meaning source).arguments x)

    same-call : value_of as_called kind.CallExpr parts x ≡ value_of as_read kind.TsExternalModuleRef (meaning source ∷ []) x
    same-call =
        (λ i. are.of_require i >>= λ r. callee_by x r >>= λ c. ((meaning source).arguments x >>= λ vs. give (vs ++ [])) >>= λ vs. call x c vs)
        ∙ (λ i. callee_by x (ToFree (codes "require")) >>= λ c. one-argument i >>= λ vs. call x c vs)

    pub called-alike : GivesAlike x (meaning as_read) (meaning as_called)
    called-alike =
        let read = means span kind.TsExternalModuleRef (source ∷ []) in
        record {
          value = ap (λ (m : Meaning). m.value x) call-means ∙ same-call ∙ sym (ap (λ (m : Meaning). m.value x) read);
          initial = ap (λ (m : Meaning). m.initial x) call-means ∙ same-call ∙ sym (ap (λ (m : Meaning). m.initial x) read);
          declared = ap (λ (m : Meaning). m.declared) call-means ∙ append-nil ((meaning source).declared ++ []) ∙ sym (ap (λ (m : Meaning). m.declared) read);
        }

  -- ---- an assignment to a member of a free name

  module _ (text : List ℕ) (name key : Span) (property : List ℕ) where
    abbrev target : Node
    target = node_of dummy_span kind.MemberExpr (name_of free name text ∷ key_of key property ∷ [])

    abbrev target_parts : List Meaning
    target_parts = role_by (name_of free name text) (kind.Ident text free false) [] ∷ role_by (key_of key property) (kind.IdentName property) [] ∷ []

    target-means : meaning target ≡ role_by target kind.MemberExpr target_parts
    target-means =
        means dummy_span kind.MemberExpr (name_of free name text ∷ key_of key property ∷ [])
        ∙ (λ i. role_by target kind.MemberExpr (means name (kind.Ident text free false) [] i ∷ means key (kind.IdentName property) [] i ∷ []))

    module _ (v : Node) where
      abbrev assignment : Node
      assignment = assign_of Assign target v

      pub assignment-means : meaning assignment ≡ role_by assignment (kind.AssignExpr Assign) (role_by target kind.MemberExpr target_parts ∷ meaning v ∷ [])
      assignment-means = means dummy_span (kind.AssignExpr Assign) (target ∷ v ∷ []) ∙ ap (λ (m : Meaning). role_by assignment (kind.AssignExpr Assign) (m ∷ meaning v ∷ [])) target-means

  -- ---- exports.a = v

  module _ (n a v : Node) (h : HasShape (one sort.Ident) a) (b : Meaning) (alike : GivesAlike x b (meaning v)) where
    abbrev to_exports : Node
    to_exports = assign_of Assign (exports_of free a) v

    to-exports-means : meaning to_exports
        ≡ role_by to_exports (kind.AssignExpr Assign) (role_by (exports_of free a) kind.MemberExpr (target_parts (codes "exports") dummy_span (out-Node a).span (text_of a)) ∷ meaning v ∷ [])
    to-exports-means = assignment-means (codes "exports") dummy_span (out-Node a).span (text_of a) v

    same-put : put x (member x (identifier (codes "exports") free x) (give (text_of a))) ((meaning v).value x)
        ≡ put x (member x (give (ToFree (codes "exports"))) (given (meaning a).text)) (b.value x)
    same-put = λ i. put x (member x (are.of_exports i) (given (sym (name-text a h) i))) (alike.value i)

    pub exports-alike : GivesAlike x (set_export n (meaning a) b) (meaning to_exports)
    exports-alike = record {
      value = ap (λ (m : Meaning). m.value x) to-exports-means ∙ same-put;
      initial = ap (λ (m : Meaning). m.initial x) to-exports-means ∙ same-put;
      declared = ap (λ (m : Meaning). m.declared) to-exports-means ∙ ap (λ (ids : List Id). ids ++ []) alike.declared;
    }

  -- ---- module.exports = e

  module _ (span : Span) (e : Node) where
    abbrev pub last_read : Node
    last_read = node_of span kind.TsExportAssignment (e ∷ [])

    abbrev pub last_written : Node
    last_written = node_of span kind.ExprStmt (assign_of Assign (module_exports free) e ∷ [])

    abbrev module_parts : List Meaning
    module_parts = target_parts (codes "module") dummy_span dummy_span (codes "exports")

    abbrev to_module : Node
    to_module = assign_of Assign (module_exports free) e

    pub last-means : meaning last_written ≡ role_by last_written kind.ExprStmt (role_by to_module (kind.AssignExpr Assign) (role_by (module_exports free) kind.MemberExpr module_parts ∷ meaning e ∷ []) ∷ [])
    last-means =
        means span kind.ExprStmt (to_module ∷ [])
        ∙ ap (λ (m : Meaning). role_by last_written kind.ExprStmt (m ∷ [])) (assignment-means (codes "module") dummy_span dummy_span (codes "exports") e)

    abbrev object : Run Value
    object = read_object x (ToFree (codes "module"))

    abbrev set : Value → Value → Run (Unit {0})
    set o v = written_to x (ToMember o (codes "exports")) v

    -- what the value of the assignment is, nobody asks
    unasked : (o v : Value) → ((set o v >>= λ _. give v) >>= λ _. give tt) ≡ set o v
    unasked o v = after (set o v) (λ _. give v) (λ _. give tt) ∙ given-again (set o v)

    same-last : (put x (member x (identifier (codes "module") free x) (give (codes "exports"))) ((meaning e).value x) >>= λ _. give tt) ≡ (object >>= λ o. (meaning e).value x >>= λ v. set o v)
    same-last =
        (λ i. put x (member x (are.of_module i) (give (codes "exports"))) ((meaning e).value x) >>= λ _. give tt)
        ∙ (λ i. after object (λ o. give (ToMember o (codes "exports"))) (λ r. (meaning e).value x >>= λ v. written_to x r v >>= λ _. give v) i >>= λ _. give tt)
        ∙ after object (λ o. (meaning e).value x >>= λ v. set o v >>= λ _. give v) (λ _. give tt)
        ∙ (λ i. object >>= λ o. after ((meaning e).value x) (λ v. set o v >>= λ _. give v) (λ _. give tt) i)
        ∙ (λ i. object >>= λ o. (meaning e).value x >>= λ v. unasked o v i)

    pub last-same : (meaning last_written).completion x ≡ (meaning last_read).last x
    last-same = ap (λ (m : Meaning). m.completion x) last-means ∙ same-last ∙ sym (ap (λ (m : Meaning). m.last x) (means span kind.TsExportAssignment (e ∷ [])))

    pub last-declared : (meaning last_written).declared ≡ (meaning last_read).last_declared
    last-declared =
        ap (λ (m : Meaning). m.declared) last-means
        ∙ append-nil ((meaning e).declared ++ [])
        ∙ append-nil (meaning e).declared
        ∙ sym (ap (λ (m : Meaning). m.last_declared) (means span kind.TsExportAssignment (e ∷ [])))
