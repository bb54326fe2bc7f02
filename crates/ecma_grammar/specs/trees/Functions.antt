-- Functions, their parameters, patterns and what is declared by them.
use Rattle.std.specs.Prelude.{ℕ, Bool, false, ◌==◌, List, [], ◌∷◌, length, map, slice_get, codes, bytes_eq, Option, Some, None, if◌then◌else◌}
use Rattle.std.specs.List.{list_any}
use Rattle.ecma_kind.specs.declared.span.Span.{Span}
use Rattle.ecma_kind.specs.declared.operators.Accessibility.{Accessibility}
use Rattle.ecma_kind.specs.declared.operators.Accessibility.TheVariants.{Public, Protected, Private}
use Rattle.ecma_kind.specs.declared.kind.Kind.{Kind}
use Rattle.ecma_kind.specs.declared.kind.Kind.TheVariants as kind
use Rattle.ecma_tree.specs.declared.node.Node.{Node}
use Rattle.ecma_tree.specs.Nodes.{node_of, absent, list_node}
use Rattle.ecma_grammar.specs.trees.Parts.{kind_of, span_of, children_of, from_to, is_absent, is_present, framed}

-- modifiers are kept as names

abbrev pub is_word_kind : List ℕ → Kind → Bool
is_word_kind w (kind.IdentName sym) = bytes_eq sym w
is_word_kind w k = false

abbrev pub has_word : List ℕ → Node → Bool
has_word w modifiers = list_any (λ m. is_word_kind w (kind_of m)) (children_of modifiers)

-- `public`, else `protected`, else `private`
abbrev pub accessibility_of : Node → Option Accessibility
accessibility_of modifiers =
    if has_word (codes "public") modifiers then Some Public
    else if has_word (codes "protected") modifiers then Some Protected
    else if has_word (codes "private") modifiers then Some Private
    else None

-- a pattern with its `?` and its annotation

abbrev pub questioned_kind : Bool → Kind → Kind
questioned_kind optional (kind.Ident sym ctxt before) = kind.Ident sym ctxt optional
questioned_kind optional (kind.ArrayPat before) = kind.ArrayPat optional
questioned_kind optional (kind.ObjectPat before) = kind.ObjectPat optional
questioned_kind optional k = k

abbrev pub questioned : Bool → Node → Node
questioned optional n = node_of (span_of n) (questioned_kind optional (kind_of n)) (children_of n)

-- the question mark of a name stands in its identifier
abbrev pub questioned_part : Bool → Kind → Node → Node
questioned_part optional kind.BindingIdent part = questioned optional part
questioned_part optional k part = part

abbrev pub annotated_of : Span → Kind → Bool → Node → List Node → Node
annotated_of span k optional annotation (part ∷ none ∷ []) = node_of span (questioned_kind optional k) (questioned_part optional k part ∷ annotation ∷ [])
annotated_of span k optional annotation children = absent

abbrev pub annotated_pattern : Span → Node → Bool → Node → Node
annotated_pattern span pattern optional annotation = framed 2 (annotated_of span (kind_of pattern) optional annotation) (children_of pattern)

-- pattern, `?` or not, annotation
abbrev pub annotated : Span → List Node → Node
annotated span (pattern ∷ question ∷ annotation ∷ []) = annotated_pattern span pattern (is_present question) annotation
annotated span xs = absent

abbrev pub end_of : Node → Node → ℕ
end_of pattern annotation = if is_absent annotation then (span_of pattern).hi else (span_of annotation).hi

-- pattern, `!` or not, annotation, value
abbrev pub declarator : Span → List Node → Node
declarator span (pattern ∷ exclamation ∷ annotation ∷ value ∷ []) =
    node_of span (kind.VarDeclarator (is_present exclamation))
    (annotated_pattern (from_to (span_of pattern).lo (end_of pattern annotation)) pattern false annotation ∷ value ∷ [])
declarator span xs = absent

-- modifiers of a parameter property or nothing, pattern
abbrev pub parameter : Span → List Node → Node
parameter span (modifiers ∷ pattern ∷ []) =
    if is_absent modifiers then pattern
    else node_of span (kind.TsParamProp (accessibility_of modifiers) (has_word (codes "override") modifiers) (has_word (codes "readonly") modifiers)) (pattern ∷ [])
parameter span xs = absent

-- a parameter of a function; a parameter property is one by itself
abbrev pub wrapped_by : Node → Kind → Node
wrapped_by n (kind.TsParamProp accessibility is_override readonly) = n
wrapped_by n k = node_of (span_of n) kind.Param (n ∷ [])

abbrev pub wrapped : Node → Node
wrapped n = wrapped_by n (kind_of n)

-- the parameters of a list
abbrev pub parameters : Node → Node
parameters patterns = list_node (map wrapped (children_of patterns))

abbrev pub function_of : Span → Bool → Bool → Node → Node → Node → Node → Node
function_of span is_async is_generator type_params params return_type body =
    node_of span (kind.Function is_generator is_async) (parameters params ∷ body ∷ type_params ∷ return_type ∷ [])

-- `async` or not, `*` or not, name, type parameters, parameters, return type, body
abbrev pub function : Span → Kind → List Node → Node
function span k (is_async ∷ is_generator ∷ name ∷ type_params ∷ params ∷ return_type ∷ body ∷ []) =
    node_of span k (name ∷ function_of span (is_present is_async) (is_present is_generator) type_params params return_type body ∷ [])
function span k xs = absent

-- `async` or not, type parameters, parameters, return type, body
abbrev pub arrow : Span → List Node → Node
arrow span (is_async ∷ type_params ∷ params ∷ return_type ∷ body ∷ []) =
    node_of span (kind.ArrowExpr (is_present is_async) false) (params ∷ body ∷ type_params ∷ return_type ∷ [])
arrow span xs = absent

-- `*` or not, operand
abbrev pub yield_ : Span → List Node → Node
yield_ span (star ∷ operand ∷ []) = node_of span (kind.YieldExpr (is_present star)) (operand ∷ [])
yield_ span xs = absent

-- key, type parameters, parameters, return type, body; parameters that a getter may not have stay after its children
abbrev pub getter : Span → List Node → Node
getter span (key ∷ type_params ∷ params ∷ return_type ∷ body ∷ []) =
    node_of span kind.GetterProp (if length (children_of params) == 0 then key ∷ return_type ∷ body ∷ [] else key ∷ return_type ∷ body ∷ params ∷ [])
getter span xs = absent

-- the parameter `this`
abbrev pub is_this_ident : Kind → Bool
is_this_ident (kind.Ident sym ctxt optional) = bytes_eq sym (codes "this")
is_this_ident k = false

abbrev pub is_this_name : Option Node → Bool
is_this_name None = false
is_this_name (Some id) = is_this_ident (kind_of id)

abbrev pub is_this_by : Node → Kind → Bool
is_this_by n kind.BindingIdent = is_this_name (slice_get (children_of n) 0)
is_this_by n k = false

abbrev pub is_this : Node → Bool
is_this n = is_this_by n (kind_of n)

abbrev pub setter_of : Span → Node → Node → Node → Node → Node
setter_of span key this_param param body = node_of span kind.SetterProp (key ∷ this_param ∷ param ∷ body ∷ [])

-- one parameter, perhaps after `this`; where they are others, all stand as a list in its place
abbrev pub setter_by : Span → Node → Node → Node → List Node → Node
setter_by span key params body (param ∷ []) = if is_this param then setter_of span key absent params body else setter_of span key absent param body
setter_by span key params body (first ∷ second ∷ []) = if is_this first then setter_of span key first second body else setter_of span key absent params body
setter_by span key params body patterns = setter_of span key absent params body

abbrev pub setter : Span → List Node → Node
setter span (key ∷ type_params ∷ params ∷ return_type ∷ body ∷ []) = setter_by span key params body (children_of params)
setter span xs = absent
