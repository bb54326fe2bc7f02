-- A tree means what it means with its shorthands written out, layer by layer.
use Rattle.std.proofs.Common.{◌≡◌, refl, sym, ap, ap₂, ◌∙◌, ℕ, List, [], ◌∷◌, ◌++◌, map, Option, Some, None, Bool, true, false, cond, bytes_eq, subst}
use Rattle.std.proofs.lemmas.List.{append-nil}
use Rattle.std.proofs.lemmas.Slice.Eq.{bytes_eq-Decides}
use Rattle.ecma_kind.specs.declared.kind.Kind.{Kind}
use Rattle.ecma_kind.specs.declared.kind.Kind.TheVariants as kind
use Rattle.ecma_kind.specs.declared.span.Span.{Span}
use Rattle.ecma_tree.specs.declared.node.Node.{Node, Node-F, out-Node, roll-Node}
use Rattle.ecma_tree.specs.Nodes.{node_of}
use Rattle.ecma_tree.specs.Sorted.{is_absent}
use Rattle.ecma_runs.specs.Values.{Value, Undefined, is_undefined}
use Rattle.ecma_runs.specs.Run.{Outcome, Done, Thrown, Returned, Broken, Continued, Ended, Run, then_outcome, ◌>>=◌, give, outside, when, given}
use Rattle.ecma_runs.specs.Meaning.{Meaning, ExecutionContext}
use Rattle.ecma_runs.specs.Objects.{define_data}
use Rattle.ecma_runs.specs.Members.{member}
use Rattle.ecma_runs.specs.Functions.{read}
use Rattle.ecma_runs.specs.Expressions.{identifier}
use Rattle.ecma_runs.specs.Patterns.{or_default}
use Rattle.ecma_runs.specs.Classes.{literal_key, all_defined}
use Rattle.ecma_runs.specs.Declarations.{all_declared, exported_from}
use Rattle.ecma_runs.specs.Evaluation.{meaning_by, meaning}
use Rattle.ecma_runs.specs.Observation.{observe}
use Rattle.ecma_runs.proofs.Layer.{meaning-roll, meaning_out}
use Rattle.ecma_runs.proofs.Layers.{observe_lacking, rewritten_layers, KeepsLayers}
use Rattle.ecma_hygiene.specs.Renamed.{kind_is_absent, proto, proto_in_brackets, proto_literal, with_default}
use Rattle.ecma_hygiene_runs.specs.WrittenOut.{key_node, name_node, property_by, property_key_node, property_out, properties_by, properties_out, other_by, other_out, leaf_text, identifier_by, pattern_with, pattern_by, out_by, out_here, written_out}
use Rattle.ecma_hygiene_runs.specs.Laws.{ShorthandsDoNotMatter, WrittenOutShorthandsDoNotMatter}
use Rattle.ecma_hygiene_runs.proofs.LackingEnums.{out-lacks}

-- runs one after the other

after_outcome : {A B C : Type 0} (f : A → Run B) (g : B → Run C) (r : Outcome A) → then_outcome (then_outcome r f) g ≡ then_outcome r (λ a. f a >>= g)
after_outcome f g (Done a s) = refl
after_outcome f g (Thrown v s) = refl
after_outcome f g (Returned v s) = refl
after_outcome f g (Broken s) = refl
after_outcome f g (Continued s) = refl
after_outcome f g (Ended why s) = refl

after : {A B C : Type 0} (m : Run A) (f : A → Run B) (g : B → Run C) → (m >>= f >>= g) ≡ (m >>= λ a. f a >>= g)
after m f g = λ i s. after_outcome f g (m s) i

-- undefined stands in for undefined
no_default_value : (v : Value) → when (is_undefined v) (give Undefined) (give v) ≡ give v
no_default_value Undefined = refl
no_default_value _ = refl

no_default_outcome : (r : Outcome Value) → then_outcome r (λ v. when (is_undefined v) (give Undefined) (give v)) ≡ r
no_default_outcome (Done v s) = ap (λ m. m s) (no_default_value v)
no_default_outcome (Thrown v s) = refl
no_default_outcome (Returned v s) = refl
no_default_outcome (Broken s) = refl
no_default_outcome (Continued s) = refl
no_default_outcome (Ended why s) = refl

no_default : (default : Meaning) → default.initial ≡ (λ x. give Undefined) → (get : Run Value) (x : ExecutionContext) → or_default default get x ≡ get
no_default default is get x =
    ap (λ initial. get >>= λ v. when (is_undefined v) (initial x) (give v)) is ∙ (λ i s. no_default_outcome (get s) i)

-- what means alike where properties are defined
pub record Defines (m m' : Meaning) : Type 0 where
  pub defined : m'.defined ≡ m.defined
  pub declared : m'.declared ≡ m.declared

abbrev key_of_text : Span → List ℕ → Meaning
key_of_text span text = meaning_by (key_node span text) (kind.IdentName text) []

key_means : (span : Span) (text : List ℕ) → meaning (key_node span text) ≡ key_of_text span text
key_means span text = meaning-roll (record { span = span; kind = kind.IdentName text; children = [] })

property_declared : (n : Node) → all_declared (meaning n ∷ []) ≡ (meaning n).declared
property_declared n = append-nil (meaning n).declared

-- a key makes a property of a text, and declares nothing
record Keyed (key : Meaning) (text : List ℕ) : Type 0 where
  named : (x : ExecutionContext) (next : List ℕ → Run (List (List ℕ))) → (key.key x >>= λ k. literal_key key.is_computed k >>= next) ≡ next text
  alone : key.declared ≡ []

key_keyed : (span : Span) (text : List ℕ) → bytes_eq text proto ≡ false → Keyed (meaning (key_node span text)) text
key_keyed span text e =
    subst (λ m. Keyed m text) (sym (key_means span text)) (record { named = λ x next. ap (λ b. when b (outside {A = List ℕ}) (give text) >>= next) e; alone = refl })

brackets_mean : (span : Span) → meaning (proto_in_brackets span) ≡ meaning_by (proto_in_brackets span) kind.ComputedPropName (meaning_by (node_of span proto_literal []) proto_literal [] ∷ [])
brackets_mean span =
    meaning-roll (record { span = span; kind = kind.ComputedPropName; children = node_of span proto_literal [] ∷ [] })
    ∙ ap (λ m. meaning_by (proto_in_brackets span) kind.ComputedPropName (m ∷ [])) (meaning-roll (record { span = span; kind = proto_literal; children = [] }))

brackets_keyed : (span : Span) (text : List ℕ) → bytes_eq text proto ≡ true → Keyed (meaning (proto_in_brackets span)) text
brackets_keyed span text e =
    subst (Keyed (meaning (proto_in_brackets span))) (sym ((bytes_eq-Decides text proto).0 e))
    (subst (λ m. Keyed m proto) (sym (brackets_mean span)) (record { named = λ x next. refl; alone = refl }))

property_keyed : (span : Span) (text : List ℕ) → Keyed (meaning (property_key_node span text)) text
property_keyed span text = by (bytes_eq text proto) refl
  where
    by : (b : Bool) → bytes_eq text proto ≡ b → Keyed (meaning (cond b (proto_in_brackets span) (key_node span text))) text
    by true e = brackets_keyed span text e
    by false e = key_keyed span text e

value_defined : (n : Node) (text : List ℕ) (ctxt : ℕ) (optional : Bool) (cs : List Node) (class object : ℕ) (x : ExecutionContext)
    → ((meaning_by n (kind.Ident text ctxt optional) (map meaning cs)).value x >>= λ v. define_data object text v >>= λ _. give {A = List (List ℕ)} [])
    ≡ (meaning_by n (kind.Ident text ctxt optional) (map meaning cs)).defined class object x
value_defined n text ctxt optional [] class object x = after (identifier text ctxt x) (λ r. read x r) (λ v. define_data object text v >>= λ _. give {A = List (List ℕ)} [])
value_defined n text ctxt optional (c ∷ cs) class object x = refl

property_defines : (n : Node) (k : Kind) (cs : List Node) → meaning n ≡ meaning_by n k (map meaning cs) → Defines (meaning n) (meaning (property_by k (out-Node n).span n))
property_defines n (kind.Ident text ctxt optional) cs is =
    let span = (out-Node n).span in
    let keyed = property_keyed span text in
    let m : meaning (property_by (kind.Ident text ctxt optional) (out-Node n).span n)
    ≡ meaning_by (property_by (kind.Ident text ctxt optional) (out-Node n).span n) kind.KeyValueProp (meaning (property_key_node span text) ∷ meaning n ∷ []) =
    meaning-roll (record { span = span; kind = kind.KeyValueProp; children = property_key_node span text ∷ n ∷ [] }) in
    record {
      defined = ap (λ z. z.defined) m
          ∙ (λ i class object x. keyed.named x (λ k. (meaning n).value x >>= λ v. define_data object k v >>= λ _. give []) i)
          ∙ (λ i class object x. (is i).value x >>= λ v. define_data object text v >>= λ _. give [])
          ∙ (λ i class object x. value_defined n text ctxt optional cs class object x i) ∙ sym (ap (λ z. z.defined) is);
      declared = ap (λ z. z.declared) m ∙ ap (λ ids. ids ++ ((meaning n).declared ++ [])) keyed.alone ∙ property_declared n;
    }
property_defines n _ cs is = record { defined = refl; declared = refl }

all_define : (ns : List Node) → (all_defined (map meaning (map property_out ns)) ≡ all_defined (map meaning ns)) × (all_declared (map meaning (map property_out ns)) ≡ all_declared (map meaning ns))
all_define [] = (refl, refl)
all_define (n ∷ ns) =
    let d = property_defines n (out-Node n).kind (out-Node n).children (meaning_out n) in
    let rest = all_define ns in
    ((λ i class object x. (d.defined i) class object x >>= λ ks. (rest.0 i) class object x >>= λ ls. give (ks ++ ls)), ap₂ (λ a b. a ++ b) d.declared rest.1)

properties_define : (n : Node) (k : Kind) → (out-Node n).kind ≡ k → Defines (meaning n) (meaning (properties_by (out-Node n) k n))
properties_define n kind.List is =
    let cs = (out-Node n).children in
    let a = meaning-roll (record { span = (out-Node n).span; kind = kind.List; children = map property_out cs }) in
    let b : meaning n ≡ meaning_by n kind.List (map meaning cs) = meaning_out n ∙ ap (λ k. meaning_by n k (map meaning cs)) is in
    record {
      defined = ap (λ z. z.defined) a ∙ (all_define cs).0 ∙ sym (ap (λ z. z.defined) b);
      declared = ap (λ z. z.declared) a ∙ (all_define cs).1 ∙ sym (ap (λ z. z.declared) b);
    }
properties_define n _ is = record { defined = refl; declared = refl }

-- an object literal looks at no more
object_means : (n : Node) (m m' : Meaning) (ms : List Meaning) → Defines m m' → meaning_by n kind.ObjectLit (m' ∷ ms) ≡ meaning_by n kind.ObjectLit (m ∷ ms)
object_means n m m' [] d = λ i. meaning_by n kind.ObjectLit (record m { defined = d.defined i; declared = d.declared i } ∷ [])
object_means n m m' (o ∷ ms) d = λ i. meaning_by n kind.ObjectLit (record m { declared = d.declared i } ∷ o ∷ ms)

absent_kind : (k : Kind) → is_absent k ≡ true → k ≡ kind.Absent
absent_kind kind.Absent e = refl
absent_kind _ e = absurd (cc)

-- patterns

text_in : Option Node → Option (List ℕ)
text_in None = None
text_in (Some n) = (meaning n).text

identifier_text : (n : Node) (k : Kind) (cs : List Node) (id : Node) → identifier_by k cs ≡ Some id → (meaning_by n k (map meaning cs)).text ≡ (meaning id).text
unfolding text_in
identifier_text n kind.BindingIdent (i ∷ annotation ∷ []) id e = ap text_in e
identifier_text n kind.BindingIdent [] id e = absurd (cc)
identifier_text n kind.BindingIdent (i ∷ []) id e = absurd (cc)
identifier_text n kind.BindingIdent (i ∷ j ∷ k ∷ cs) id e = absurd (cc)
identifier_text n _ cs id e = absurd (cc)

leaf_means : (n : Node) (k : Kind) (cs : List Node) (text : List ℕ) → leaf_text k cs ≡ Some text → (meaning_by n k (map meaning cs)).text ≡ Some text
leaf_means n (kind.Ident s ctxt optional) [] text e = e
leaf_means n (kind.Ident s ctxt optional) (c ∷ cs) text e = absurd (cc)
leaf_means n _ cs text e = absurd (cc)

module _ (n : Node) (key name default : Meaning) (text : List ℕ) (is : name.text ≡ Some text) (says : key.key ≡ (λ x. give text)) (alone : key.declared ≡ []) where
  -- with a default
  defaulted : (a : Node) → meaning_by n kind.KeyValuePatProp (key ∷ meaning_by a kind.AssignPat (name ∷ default ∷ []) ∷ []) ≡ meaning_by n kind.AssignPatProp (name ∷ default ∷ [])
  defaulted a =
      let P = meaning_by a kind.AssignPat (name ∷ default ∷ []) in
      let matched : (meaning_by n kind.KeyValuePatProp (key ∷ P ∷ [])).matched ≡ (meaning_by n kind.AssignPatProp (name ∷ default ∷ [])).matched =
      (λ i v x. says i x >>= λ k. member x v k >>= λ w. P.bound w x)
      ∙ (λ i v x. sym (after (member x v text) (λ w. when (is_undefined w) (default.initial x) (give w)) (λ w. name.bound w x)) i)
      ∙ (λ i v x. given (sym is i) >>= λ k. or_default default (member x v k) x >>= λ w. name.bound w x) in
      let targets : (meaning_by n kind.KeyValuePatProp (key ∷ P ∷ [])).targets ≡ (meaning_by n kind.AssignPatProp (name ∷ default ∷ [])).targets =
      (λ i v x. says i x >>= λ k. P.assigned (member x v k) x >>= λ _. give tt)
      ∙ (λ i v x. given (sym is i) >>= λ k. name.assigned (or_default default (member x v k) x) x >>= λ _. give tt) in
      let declared : (meaning_by n kind.KeyValuePatProp (key ∷ P ∷ [])).declared ≡ (meaning_by n kind.AssignPatProp (name ∷ default ∷ [])).declared =
      ap (λ ids. ids ++ (P.declared ++ [])) alone ∙ append-nil P.declared in
      λ i. record (meaning_by n kind.AssignPatProp (name ∷ default ∷ [])) { matched = matched i; targets = targets i; declared = declared i }

  -- without one
  undefaulted : default.initial ≡ (λ x. give Undefined) → default.declared ≡ [] → meaning_by n kind.KeyValuePatProp (key ∷ name ∷ []) ≡ meaning_by n kind.AssignPatProp (name ∷ default ∷ [])
  undefaulted none nothing =
      let matched : (meaning_by n kind.KeyValuePatProp (key ∷ name ∷ [])).matched ≡ (meaning_by n kind.AssignPatProp (name ∷ default ∷ [])).matched =
      (λ i v x. says i x >>= λ k. member x v k >>= λ w. name.bound w x)
      ∙ (λ i v x. sym (no_default default none (member x v text) x) i >>= λ w. name.bound w x)
      ∙ (λ i v x. given (sym is i) >>= λ k. or_default default (member x v k) x >>= λ w. name.bound w x) in
      let targets : (meaning_by n kind.KeyValuePatProp (key ∷ name ∷ [])).targets ≡ (meaning_by n kind.AssignPatProp (name ∷ default ∷ [])).targets =
      (λ i v x. says i x >>= λ k. name.assigned (member x v k) x >>= λ _. give tt)
      ∙ (λ i v x. name.assigned (sym (no_default default none (member x v text) x) i) x >>= λ _. give tt)
      ∙ (λ i v x. given (sym is i) >>= λ k. name.assigned (or_default default (member x v k) x) x >>= λ _. give tt) in
      let declared : (meaning_by n kind.KeyValuePatProp (key ∷ name ∷ [])).declared ≡ (meaning_by n kind.AssignPatProp (name ∷ default ∷ [])).declared =
      ap₂ (λ a b. a ++ (name.declared ++ b)) alone (ap (λ b. b ++ []) (sym nothing)) in
      λ i. record (meaning_by n kind.AssignPatProp (name ∷ default ∷ [])) { matched = matched i; targets = targets i; declared = declared i }

-- specifiers

specifier_means : (n name other : Node) (text : List ℕ) (ctxt : ℕ) (optional : Bool) (cs : List Node) (ms : List Meaning) (place : Span) (is_type_only : Bool)
    → meaning_by n (kind.ImportNamedSpecifier is_type_only) (meaning_by name (kind.Ident text ctxt optional) (map meaning cs) ∷ meaning_by (name_node place text) (kind.Ident text 0 false) [] ∷ [])
    ≡ meaning_by n (kind.ImportNamedSpecifier is_type_only) (meaning_by name (kind.Ident text ctxt optional) (map meaning cs) ∷ meaning_by other kind.Absent ms ∷ [])
specifier_means n name other text ctxt optional cs ms place true = refl
specifier_means n name other text ctxt optional [] ms place false = refl
specifier_means n name other text ctxt optional (c ∷ cs) ms place false = refl

-- what is no name exports nothing, under whatever name
nothing_exported : (name : Node) (text : List ℕ) (ctxt : ℕ) (optional : Bool) (m : Meaning) (ms : List Meaning) (source : Option (List ℕ))
    → exported_from source (Some text) (meaning_by name (kind.Ident text ctxt optional) (m ∷ ms)) ≡ exported_from source None (meaning_by name (kind.Ident text ctxt optional) (m ∷ ms))
nothing_exported name text ctxt optional m ms None = refl
nothing_exported name text ctxt optional m ms (Some source) = refl

export_means : (n name other : Node) (text : List ℕ) (ctxt : ℕ) (optional : Bool) (cs : List Node) (ms : List Meaning) (place : Span) (is_type_only : Bool)
    → meaning_by n (kind.ExportNamedSpecifier is_type_only) (meaning_by name (kind.Ident text ctxt optional) (map meaning cs) ∷ meaning_by (name_node place text) (kind.Ident text 0 false) [] ∷ [])
    ≡ meaning_by n (kind.ExportNamedSpecifier is_type_only) (meaning_by name (kind.Ident text ctxt optional) (map meaning cs) ∷ meaning_by other kind.Absent ms ∷ [])
export_means n name other text ctxt optional cs ms place true = refl
export_means n name other text ctxt optional [] ms place false = refl
export_means n name other text ctxt optional (c ∷ cs) ms place false =
    λ i. record (meaning_by n (kind.ExportNamedSpecifier false) (meaning_by name (kind.Ident text ctxt optional) (map meaning (c ∷ cs)) ∷ meaning_by other kind.Absent ms ∷ [])) {
      exports = λ source. nothing_exported name text ctxt optional (meaning c) (map meaning cs) source i;
    }

abbrev name_means : (place : Span) (text : List ℕ) → meaning (name_node place text) ≡ meaning_by (name_node place text) (kind.Ident text 0 false) []
name_means place text = meaning-roll (record { span = place; kind = kind.Ident text 0 false; children = [] })

pub missing_means : (other : Node) → kind_is_absent other ≡ true → meaning other ≡ meaning_by other kind.Absent (map meaning (out-Node other).children)
missing_means other e = meaning_out other ∙ ap (λ k. meaning_by other k (map meaning (out-Node other).children)) (absent_kind (out-Node other).kind e)

module _ (n name other : Node) (is_type_only : Bool) where
  import_by : kind_is_absent other ≡ true → (k : Kind) → (out-Node name).kind ≡ k
      → meaning_by n (kind.ImportNamedSpecifier is_type_only) (meaning name ∷ meaning (other_by k (out-Node name).span other) ∷ []) ≡ meaning_by n (kind.ImportNamedSpecifier is_type_only) (meaning name ∷ meaning other ∷ [])
  import_by e (kind.Ident text ctxt optional) is =
      let m : meaning name ≡ meaning_by name (kind.Ident text ctxt optional) (map meaning (out-Node name).children) = meaning_out name ∙ ap (λ k. meaning_by name k (map meaning (out-Node name).children)) is in
      rw (m, missing_means other e, name_means (out-Node name).span text)
      (specifier_means n name other text ctxt optional (out-Node name).children (map meaning (out-Node other).children) (out-Node name).span is_type_only)
  import_by e _ is = refl

  export_by : kind_is_absent other ≡ true → (k : Kind) → (out-Node name).kind ≡ k
      → meaning_by n (kind.ExportNamedSpecifier is_type_only) (meaning name ∷ meaning (other_by k (out-Node name).span other) ∷ []) ≡ meaning_by n (kind.ExportNamedSpecifier is_type_only) (meaning name ∷ meaning other ∷ [])
  export_by e (kind.Ident text ctxt optional) is =
      let m : meaning name ≡ meaning_by name (kind.Ident text ctxt optional) (map meaning (out-Node name).children) = meaning_out name ∙ ap (λ k. meaning_by name k (map meaning (out-Node name).children)) is in
      rw (m, missing_means other e, name_means (out-Node name).span text)
      (export_means n name other text ctxt optional (out-Node name).children (map meaning (out-Node other).children) (out-Node name).span is_type_only)
  export_by e _ is = refl

  import_out : (b : Bool) → kind_is_absent other ≡ b → meaning_by n (kind.ImportNamedSpecifier is_type_only) (meaning name ∷ meaning (cond b (other_by (out-Node name).kind (out-Node name).span other) other) ∷ [])
      ≡ meaning_by n (kind.ImportNamedSpecifier is_type_only) (meaning name ∷ meaning other ∷ [])
  import_out true e = import_by e (out-Node name).kind refl
  import_out false e = refl

  export_out : (b : Bool) → kind_is_absent other ≡ b → meaning_by n (kind.ExportNamedSpecifier is_type_only) (meaning name ∷ meaning (cond b (other_by (out-Node name).kind (out-Node name).span other) other) ∷ [])
      ≡ meaning_by n (kind.ExportNamedSpecifier is_type_only) (meaning name ∷ meaning other ∷ [])
  export_out true e = export_by e (out-Node name).kind refl
  export_out false e = refl

-- the rule keeps what a layer means

module _ (x : Node-F Node) where
  kept : (k : Kind) (cs : List Node) → x.kind ≡ k → x.children ≡ cs → meaning (roll-Node x) ≡ meaning_by (roll-Node x) k (map meaning cs)
  kept k cs is are = meaning-roll x ∙ ap₂ (λ z zs. meaning_by (roll-Node x) z (map meaning zs)) is are

  defaulted_out : (n name default : Node) (place : Span) (text : List ℕ) → (meaning name).text ≡ Some text → (b : Bool) → kind_is_absent default ≡ b
      → meaning_by n kind.KeyValuePatProp (key_of_text place text ∷ meaning (cond b name (node_of x.span kind.AssignPat (name ∷ default ∷ []))) ∷ []) ≡ meaning_by n kind.AssignPatProp (meaning name ∷ meaning default ∷ [])
  defaulted_out n name default place text is true e =
      let d = missing_means default e in
      undefaulted n (key_of_text place text) (meaning name) (meaning default) text is refl refl (ap (λ m. m.initial) d) (ap (λ m. m.declared) d)
  defaulted_out n name default place text is false e =
      let a = node_of x.span kind.AssignPat (name ∷ default ∷ []) in
      ap (λ m. meaning_by n kind.KeyValuePatProp (key_of_text place text ∷ m ∷ [])) (meaning-roll (record { span = x.span; kind = kind.AssignPat; children = name ∷ default ∷ [] }))
      ∙ defaulted n (key_of_text place text) (meaning name) (meaning default) text is refl refl a

  module _ (name default : Node) (is : x.kind ≡ kind.AssignPatProp) (are : x.children ≡ name ∷ default ∷ []) where
    abbrev Keeps : Node → Type 0
    Keeps n = meaning n ≡ meaning_by n kind.AssignPatProp (meaning name ∷ meaning default ∷ [])

    with_kept : (o : Option (List ℕ)) (place : Span) → ((text : List ℕ) → o ≡ Some text → (meaning name).text ≡ Some text) → Keeps (pattern_with o place x.span name default x)
    with_kept None place says = kept kind.AssignPatProp (name ∷ default ∷ []) is are
    with_kept (Some text) place says =
        let cs = key_node place text ∷ with_default x.span name default ∷ [] in
        let n = node_of x.span kind.KeyValuePatProp cs in
        meaning-roll (record { span = x.span; kind = kind.KeyValuePatProp; children = cs })
        ∙ ap (λ key. meaning_by n kind.KeyValuePatProp (key ∷ meaning (with_default x.span name default) ∷ [])) (key_means place text)
        ∙ defaulted_out n name default place text (says text refl) (kind_is_absent default) refl

    pattern_kept : (o : Option Node) → identifier_by (out-Node name).kind (out-Node name).children ≡ o → Keeps (pattern_by o x.span name default x)
    pattern_kept None e = kept kind.AssignPatProp (name ∷ default ∷ []) is are
    pattern_kept (Some id) e = with_kept (leaf_text (out-Node id).kind (out-Node id).children) (out-Node id).span (λ text f.
        ap (λ m. m.text) (meaning_out name) ∙ identifier_text name (out-Node name).kind (out-Node name).children id e
        ∙ (ap (λ m. m.text) (meaning_out id) ∙ leaf_means id (out-Node id).kind (out-Node id).children text f))

  layer_kept : (k : Kind) (cs : List Node) → x.kind ≡ k → x.children ≡ cs → meaning (out_by k cs x) ≡ meaning_by (out_by k cs x) k (map meaning cs)
  layer_kept kind.ObjectLit (properties ∷ others) is are =
      meaning-roll (record { span = x.span; kind = kind.ObjectLit; children = properties_out properties ∷ others })
      ∙ object_means (node_of x.span kind.ObjectLit (properties_out properties ∷ others)) (meaning properties) (meaning (properties_out properties)) (map meaning others)
      (properties_define properties (out-Node properties).kind refl)
  layer_kept (kind.ImportNamedSpecifier is_type_only) (name ∷ other ∷ []) is are =
      meaning-roll (record { span = x.span; kind = kind.ImportNamedSpecifier is_type_only; children = name ∷ other_out name other ∷ [] })
      ∙ import_out (node_of x.span (kind.ImportNamedSpecifier is_type_only) (name ∷ other_out name other ∷ [])) name other is_type_only (kind_is_absent other) refl
  layer_kept (kind.ExportNamedSpecifier is_type_only) (name ∷ other ∷ []) is are =
      meaning-roll (record { span = x.span; kind = kind.ExportNamedSpecifier is_type_only; children = name ∷ other_out name other ∷ [] })
      ∙ export_out (node_of x.span (kind.ExportNamedSpecifier is_type_only) (name ∷ other_out name other ∷ [])) name other is_type_only (kind_is_absent other) refl
  layer_kept kind.AssignPatProp (name ∷ default ∷ []) is are = pattern_kept name default is are (identifier_by (out-Node name).kind (out-Node name).children) refl
  layer_kept k cs is are = kept k cs is are

pub written_out_layers : KeepsLayers written_out
written_out_layers = rewritten_layers out_here (λ x. layer_kept x x.kind x.children refl refl)

pub written_out_shorthands_do_not_matter : WrittenOutShorthandsDoNotMatter
written_out_shorthands_do_not_matter = observe_lacking written_out written_out_layers out-lacks

pub shorthands_do_not_matter : ShorthandsDoNotMatter
shorthands_do_not_matter turns options m m' script lacks lacks' agree =
    sym (written_out_shorthands_do_not_matter turns options m script lacks) ∙ (ap (λ z. observe turns options z script) agree ∙ written_out_shorthands_do_not_matter turns options m' script lacks')
