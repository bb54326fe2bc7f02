-- Functions and classes without what their types hold.
use Rattle.std.proofs.Common.{◌≡◌, ◌∙◌, ◌==◌, Bool, true, false, ◌&&◌, not, List, [], ◌∷◌, map, length, None, refl, sym, ap, ap₂, codes, slice_get, if◌then◌else◌}
use Rattle.std.proofs.lemmas.List.{length-map}
use Rattle.ecma_kind.specs.declared.span.Span.{Span}
use Rattle.ecma_kind.specs.declared.operators.MethodKind.{MethodKind}
use Rattle.ecma_kind.specs.declared.operators.MethodKind.TheVariants.{Method, Getter, Setter}
use Rattle.ecma_kind.specs.declared.operators.MemberModifiers.{MemberModifiers}
use Rattle.ecma_kind.specs.declared.kind.Kind.{Kind}
use Rattle.ecma_kind.specs.declared.kind.Kind.TheVariants as kind
use Rattle.ecma_tree.specs.Nodes.{absent, list_node, node_of}
use Rattle.ecma_tree.specs.declared.node.Node.{Node}
use Rattle.ecma_grammar.specs.trees.Parts.{children_of, framed, is_absent, is_absent_kind, is_present, kind_of, span_of}
use Rattle.ecma_grammar.specs.trees.Functions.{accessibility_of, arrow, function, function_of, getter, has_word, is_this, is_this_by, is_this_ident, is_this_name, parameter, parameters, setter, setter_by, setter_of, wrapped, wrapped_by, yield_}
use Rattle.ecma_grammar.specs.trees.Classes.{class, constructor_of, field, field_kind, index_signature_of, is_constructor, is_constructor_key, is_plain_function, is_private_name, member, member_by, method, method_by, method_kind, modified, new_signature, no_modifiers, type_signature}
use Rattle.ecma_rules.specs.Baring.{bared, holds_types, own_children}
use Rattle.ecma_text_types.proofs.Bared.{Mapped, MappedAs, bared-kind, bared-node, bared-own, mapped}
use Rattle.ecma_text_types.proofs.Makings.{Commutes, Each, bared-absent, bared-present, bared-span, framed_same, free-node, if_bared, map_if}
use Rattle.ecma_text_types.proofs.Links.{accessibility-bared, list-bared, word-bared}

-- parameters

pub parameter-bared : (at : Span) (modifiers pattern : Node) → Mapped modifiers → Commutes (parameter at) (parameter at) (modifiers ∷ pattern ∷ [])
parameter-bared at m p free =
    let k = kind.TsParamProp (accessibility_of m) (has_word (codes "override") m) (has_word (codes "readonly") m) in
    let k' = kind.TsParamProp (accessibility_of (bared m)) (has_word (codes "override") (bared m)) (has_word (codes "readonly") (bared m)) in
    let kinds : k' ≡ k =
    ap (λ a. kind.TsParamProp a (has_word (codes "override") (bared m)) (has_word (codes "readonly") (bared m))) (accessibility-bared m free)
    ∙ ap₂ (λ x y. kind.TsParamProp (accessibility_of m) x y) (word-bared m free (codes "override")) (word-bared m free (codes "readonly")) in
    if_bared (is_absent m) p (node_of at k (p ∷ [])) (bared p) (node_of at k' (bared p ∷ [])) refl (bared-node at k (p ∷ []) ∙ ap (λ z. node_of at z (bared p ∷ [])) (sym kinds))
    ∙ ap (λ z. if is_absent_kind z then bared p else node_of at k' (bared p ∷ [])) (sym (bared-kind m))

wrapped-by : (n : Node) (k : Kind) → bared (wrapped_by n k) ≡ wrapped_by (bared n) k
wrapped-by n (kind.TsParamProp accessibility is_override readonly) = refl
wrapped-by n k = bared-node (span_of n) kind.Param (n ∷ []) ∙ ap (λ (s : Span). node_of s kind.Param (bared n ∷ [])) (sym (bared-span n))

wrapped-bared : (n : Node) → bared (wrapped n) ≡ wrapped (bared n)
wrapped-bared n = wrapped-by n (kind_of n) ∙ ap (wrapped_by (bared n)) (sym (bared-kind n))

all-wrapped : (ns : List Node) → map bared (map wrapped ns) ≡ map wrapped (map bared ns)
all-wrapped [] = refl
all-wrapped (n ∷ ns) = ap₂ (λ x xs. x ∷ xs) (wrapped-bared n) (all-wrapped ns)

pub parameters-bared : (params : Node) → Mapped params → bared (parameters params) ≡ parameters (bared params)
parameters-bared params m = list-bared (map wrapped (children_of params)) ∙ ap list_node (all-wrapped (children_of params) ∙ ap (map wrapped) (sym m))

-- functions

pub function-of : (at : Span) (a g : Bool) (t p r b : Node) → Mapped p → bared (function_of at a g t p r b) ≡ function_of at a g (bared t) (bared p) (bared r) (bared b)
function-of at a g t p r b m =
    bared-node at (kind.Function g a) (parameters p ∷ b ∷ t ∷ r ∷ []) ∙ ap (λ z. node_of at (kind.Function g a) (z ∷ bared b ∷ bared t ∷ bared r ∷ [])) (parameters-bared p m)

-- with its flags as they are
flagged : (at : Span) (a g t p r b : Node) → Mapped p
    → bared (function_of at (is_present a) (is_present g) t p r b) ≡ function_of at (is_present (bared a)) (is_present (bared g)) (bared t) (bared p) (bared r) (bared b)
flagged at a g t p r b m =
    function-of at (is_present a) (is_present g) t p r b m ∙ ap₂ (λ x y. function_of at x y (bared t) (bared p) (bared r) (bared b)) (sym (bared-present a)) (sym (bared-present g))

-- where what is made holds a name and a function
abbrev pub own_function : Span → Kind → List Node → Node
own_function at k (a ∷ g ∷ n ∷ t ∷ p ∷ r ∷ b ∷ []) = node_of at k (own_children k (n ∷ function_of at (is_present a) (is_present g) t p r b ∷ []))
own_function at k xs = absent

pub function-bared : (at : Span) (k : Kind) (a g n t p r b : Node) → Mapped p → Commutes (function at k) (own_function at k) (a ∷ g ∷ n ∷ t ∷ p ∷ r ∷ b ∷ [])
function-bared at k a g n t p r b m =
    bared-node at k (n ∷ function_of at (is_present a) (is_present g) t p r b ∷ []) ∙ ap (λ z. node_of at k (own_children k (bared n ∷ z ∷ []))) (flagged at a g t p r b m)

pub arrow-bared : (at : Span) → Each 5 (Commutes (arrow at) (arrow at))
arrow-bared at a t p r b =
    bared-node at (kind.ArrowExpr (is_present a) false) (p ∷ b ∷ t ∷ r ∷ [])
    ∙ ap (λ x. node_of at (kind.ArrowExpr x false) (bared p ∷ bared b ∷ bared t ∷ bared r ∷ [])) (sym (bared-present a))

pub yield-bared : (at : Span) → Each 2 (Commutes (yield_ at) (yield_ at))
yield-bared at s o = bared-node at (kind.YieldExpr (is_present s)) (o ∷ []) ∙ ap (λ x. node_of at (kind.YieldExpr x) (bared o ∷ [])) (sym (bared-present s))

pub getter-bared : (at : Span) (k t p r b : Node) → Mapped p → Commutes (getter at) (getter at) (k ∷ t ∷ p ∷ r ∷ b ∷ [])
getter-bared at k t p r b m =
    bared-node at kind.GetterProp (if length (children_of p) == 0 then k ∷ r ∷ b ∷ [] else k ∷ r ∷ b ∷ p ∷ [])
    ∙ ap (node_of at kind.GetterProp)
    (map_if (length (children_of p) == 0) (k ∷ r ∷ b ∷ []) (k ∷ r ∷ b ∷ p ∷ [])
    ∙ ap (λ l. if l == 0 then bared k ∷ bared r ∷ bared b ∷ [] else bared k ∷ bared r ∷ bared b ∷ bared p ∷ []) (sym (ap length m ∙ length-map (children_of p) bared)))

this-name : (ns : List Node) → is_this_name (slice_get (map bared ns) 0) ≡ is_this_name (slice_get ns 0)
this-name [] = refl
this-name (n ∷ ns) = ap is_this_ident (bared-kind n)

this-by : (n : Node) (k : Kind) → MappedAs k n → is_this_by (bared n) k ≡ is_this_by n k
this-by n kind.BindingIdent m = ap (λ (ns : List Node). is_this_name (slice_get ns 0)) (m refl) ∙ this-name (children_of n)
this-by n k m = refl

this-bared : (n : Node) → is_this (bared n) ≡ is_this n
this-bared n = ap (is_this_by (bared n)) (bared-kind n) ∙ this-by n (kind_of n) (mapped n)

setter-of : (at : Span) (k t p b : Node) → bared (setter_of at k t p b) ≡ setter_of at (bared k) (bared t) (bared p) (bared b)
setter-of at k t p b = bared-node at kind.SetterProp (k ∷ t ∷ p ∷ b ∷ [])

setter-alone : (at : Span) (k p b : Node) → bared (setter_of at k absent p b) ≡ setter_of at (bared k) absent (bared p) (bared b)
setter-alone at k p b = setter-of at k absent p b ∙ ap (λ z. setter_of at (bared k) z (bared p) (bared b)) bared-absent

setter-by : (at : Span) (k p b : Node) (ns : List Node) → bared (setter_by at k p b ns) ≡ setter_by at (bared k) (bared p) (bared b) (map bared ns)
setter-by at k p b [] = setter-alone at k p b
setter-by at k p b (x ∷ []) =
    if_bared (is_this x) (setter_of at k absent p b) (setter_of at k absent x b) (setter_of at (bared k) absent (bared p) (bared b)) (setter_of at (bared k) absent (bared x) (bared b)) (setter-alone at k p b) (setter-alone at k x b)
    ∙ ap (λ z. if z then setter_of at (bared k) absent (bared p) (bared b) else setter_of at (bared k) absent (bared x) (bared b)) (sym (this-bared x))
setter-by at k p b (x ∷ y ∷ []) =
    if_bared (is_this x) (setter_of at k x y b) (setter_of at k absent p b) (setter_of at (bared k) (bared x) (bared y) (bared b)) (setter_of at (bared k) absent (bared p) (bared b)) (setter-of at k x y b) (setter-alone at k p b)
    ∙ ap (λ z. if z then setter_of at (bared k) (bared x) (bared y) (bared b) else setter_of at (bared k) absent (bared p) (bared b)) (sym (this-bared x))
setter-by at k p b (x ∷ y ∷ z ∷ ns) = setter-alone at k p b

pub setter-bared : (at : Span) (k t p r b : Node) → Mapped p → Commutes (setter at) (setter at) (k ∷ t ∷ p ∷ r ∷ b ∷ [])
setter-bared at k t p r b m = setter-by at k p b (children_of p) ∙ ap (setter_by at (bared k) (bared p) (bared b)) (sym m)

-- classes

abbrev pub own_class : Span → Kind → Bool → List Node → Node
own_class at k is_abstract (n ∷ t ∷ s ∷ q ∷ i ∷ m ∷ []) = node_of at k (own_children k (n ∷ node_of at (kind.Class is_abstract) (s ∷ m ∷ t ∷ q ∷ i ∷ []) ∷ []))
own_class at k is_abstract xs = absent

pub class-bared : (at : Span) (k : Kind) (b : Bool) → Each 6 (Commutes (class at k b) (own_class at k b))
class-bared at k b n t s q i m =
    bared-node at k (n ∷ node_of at (kind.Class b) (s ∷ m ∷ t ∷ q ∷ i ∷ []) ∷ [])
    ∙ ap (λ z. node_of at k (own_children k (bared n ∷ z ∷ []))) (bared-node at (kind.Class b) (s ∷ m ∷ t ∷ q ∷ i ∷ []))

if-free : (b : Bool) (k l : Kind) → holds_types k ≡ false → holds_types l ≡ false → holds_types (if b then k else l) ≡ false
if-free true k l h i = h
if-free false k l h i = i

pub method-bared : (at : Span) (k : MethodKind) (a g n q e t p r b : Node) → Mapped p → Commutes (method at k) (method at k) (a ∷ g ∷ n ∷ q ∷ e ∷ t ∷ p ∷ r ∷ b ∷ [])
method-bared at k a g n q e t p r b m =
    let made = method_kind n k (no_modifiers (is_present q)) in
    free-node at made (n ∷ function_of at (is_present a) (is_present g) t p r b ∷ [])
    (if-free (is_private_name (kind_of n)) (kind.PrivateMethod k (no_modifiers (is_present q))) (kind.ClassMethod k (no_modifiers (is_present q))) refl refl)
    ∙ ap (λ z. node_of at made (bared n ∷ z ∷ [])) (flagged at a g t p r b m)
    ∙ ap₂ (λ x y. node_of at (if is_private_name x then kind.PrivateMethod k (no_modifiers y) else kind.ClassMethod k (no_modifiers y))
    (bared n ∷ function_of at (is_present (bared a)) (is_present (bared g)) (bared t) (bared p) (bared r) (bared b) ∷ [])) (sym (bared-kind n)) (sym (bared-present q))

pub field-bared : (at : Span) → Each 5 (Commutes (field at) (field at))
field-bared at k q e a v =
    free-node at (field_kind k (no_modifiers (is_present q)) false false (is_present e)) (k ∷ v ∷ a ∷ [])
    (if-free (is_private_name (kind_of k)) (kind.PrivateProp (no_modifiers (is_present q)) false false (is_present e)) (kind.ClassProp (no_modifiers (is_present q)) false false (is_present e)) refl refl)
    ∙ ap (λ x. node_of at (if is_private_name x then kind.PrivateProp (no_modifiers (is_present q)) false false (is_present e) else kind.ClassProp (no_modifiers (is_present q)) false false (is_present e)) (bared k ∷ bared v ∷ bared a ∷ []))
    (sym (bared-kind k))
    ∙ ap₂ (λ x y. node_of at (field_kind (bared k) (no_modifiers x) false false y) (bared k ∷ bared v ∷ bared a ∷ [])) (sym (bared-present q)) (sym (bared-present e))

module _ (at : Span) (m : Node) (free : Mapped m) where
  modified-bared : (before : MemberModifiers) → modified (bared m) before ≡ modified m before
  modified-bared before = rw (accessibility-bared m free, word-bared m free (codes "static"), word-bared m free (codes "abstract"), word-bared m free (codes "override")) refl

  constructor-is : (key f : Node) → is_constructor (bared m) (bared key) (bared f) ≡ is_constructor m key f
  constructor-is key f =
      ap (λ b. is_constructor_key (kind_of (bared key)) && (is_plain_function (kind_of (bared f)) && not b)) (word-bared m free (codes "static"))
      ∙ ap₂ (λ k l. is_constructor_key k && (is_plain_function l && not (has_word (codes "static") m))) (bared-kind key) (bared-kind f)

  constructor-of : (before : MemberModifiers) (key : Node) → Each 4 (Commutes (constructor_of at m before key) (constructor_of at (bared m) before (bared key)))
  constructor-of before key p b t r =
      bared-node at (kind.Constructor (accessibility_of m) before.is_optional) (key ∷ p ∷ b ∷ [])
      ∙ ap (λ a. node_of at (kind.Constructor a before.is_optional) (bared key ∷ bared p ∷ bared b ∷ [])) (sym (accessibility-bared m free))

  plain-free : (k : Kind) → is_plain_function k ≡ true → holds_types k ≡ false
  plain-free (kind.Function is_generator is_async) h = refl
  plain-free _ h = absurd (cc)

  plain-of : (a b c : Bool) → (a && (b && c)) ≡ true → b ≡ true
  plain-of true true c h = refl
  plain-of true false c h = cc
  plain-of false b c h = cc

  method-by : (before : MemberModifiers) → Each 2 (Commutes (method_by at m before) (method_by at (bared m) before))
  method-by before key f =
      go (is_constructor m key f) refl
      ∙ ap (λ b. if b then framed 4 (constructor_of at (bared m) before (bared key)) (children_of (bared f)) else node_of at (kind.ClassMethod Method (modified (bared m) before)) (bared key ∷ bared f ∷ [])) (sym (constructor-is key f))
    where
      go : (b : Bool) → is_constructor m key f ≡ b
          → bared (if b then framed 4 (constructor_of at m before key) (children_of f) else node_of at (kind.ClassMethod Method (modified m before)) (key ∷ f ∷ []))
          ≡ (if b then framed 4 (constructor_of at (bared m) before (bared key)) (children_of (bared f)) else node_of at (kind.ClassMethod Method (modified (bared m) before)) (bared key ∷ bared f ∷ []))
      go true is =
          framed_same 4 (constructor_of at m before key) (constructor_of at (bared m) before (bared key)) (constructor-of before key) (children_of f)
          ∙ ap (framed 4 (constructor_of at (bared m) before (bared key)))
          (sym (mapped f (plain-free (kind_of f) (plain-of (is_constructor_key (kind_of key)) (is_plain_function (kind_of f)) (not (has_word (codes "static") m)) is))))
      go false is =
          bared-node at (kind.ClassMethod Method (modified m before)) (key ∷ f ∷ [])
          ∙ ap (λ z. node_of at (kind.ClassMethod Method z) (bared key ∷ bared f ∷ [])) (sym (modified-bared before))

  member-by : (k : Kind) (ns : List Node) → bared (member_by at m k ns) ≡ member_by at (bared m) k (own_children k (map bared ns))
  member-by (kind.ClassMethod Method before) ns = framed_same 2 (method_by at m before) (method_by at (bared m) before) (method-by before) ns
  member-by (kind.ClassMethod Getter before) ns = bared-node at (kind.ClassMethod Getter (modified m before)) ns ∙ ap (λ z. node_of at (kind.ClassMethod Getter z) (map bared ns)) (sym (modified-bared before))
  member-by (kind.ClassMethod Setter before) ns = bared-node at (kind.ClassMethod Setter (modified m before)) ns ∙ ap (λ z. node_of at (kind.ClassMethod Setter z) (map bared ns)) (sym (modified-bared before))
  member-by (kind.PrivateMethod k before) ns = bared-node at (kind.PrivateMethod k (modified m before)) ns ∙ ap (λ z. node_of at (kind.PrivateMethod k z) (map bared ns)) (sym (modified-bared before))
  member-by (kind.ClassProp before readonly declare definite) ns =
      bared-node at (kind.ClassProp (modified m before) (has_word (codes "readonly") m) (has_word (codes "declare") m) definite) ns
      ∙ ap (λ z. node_of at (kind.ClassProp z (has_word (codes "readonly") m) (has_word (codes "declare") m) definite) (map bared ns)) (sym (modified-bared before))
      ∙ ap₂ (λ x y. node_of at (kind.ClassProp (modified (bared m) before) x y definite) (map bared ns)) (sym (word-bared m free (codes "readonly"))) (sym (word-bared m free (codes "declare")))
  member-by (kind.PrivateProp before readonly declare definite) ns =
      bared-node at (kind.PrivateProp (modified m before) (has_word (codes "readonly") m) (has_word (codes "declare") m) definite) ns
      ∙ ap (λ z. node_of at (kind.PrivateProp z (has_word (codes "readonly") m) (has_word (codes "declare") m) definite) (map bared ns)) (sym (modified-bared before))
      ∙ ap₂ (λ x y. node_of at (kind.PrivateProp (modified (bared m) before) x y definite) (map bared ns)) (sym (word-bared m free (codes "readonly"))) (sym (word-bared m free (codes "declare")))
  member-by k ns = bared-node at k ns

  pub member-bared : (n : Node) → Commutes (member at) (member at) (m ∷ n ∷ [])
  member-bared n =
      member-by (kind_of n) (children_of n)
      ∙ ap (member_by at (bared m) (kind_of n)) (sym (bared-own n))
      ∙ ap (λ k. member_by at (bared m) k (children_of (bared n))) (sym (bared-kind n))

  -- whatever it holds
  pub index-bared : (types : List Node) → bared (index_signature_of at m types) ≡ index_signature_of at (bared m) []
  index-bared types =
      bared-node at (kind.TsIndexSignature (has_word (codes "readonly") m) (has_word (codes "static") m)) types
      ∙ ap₂ (λ x y. node_of at (kind.TsIndexSignature x y) []) (sym (word-bared m free (codes "readonly"))) (sym (word-bared m free (codes "static")))

-- signatures in types

pub signature-bared : (at : Span) (k : MethodKind) (f p : Node) → Mapped p → Commutes (type_signature at k) (type_signature at k) (f ∷ p ∷ [])
signature-bared at k f p m =
    bared-node at (kind.ClassMethod k (no_modifiers false)) (f ∷ function_of at false false absent p absent absent ∷ [])
    ∙ ap (λ z. node_of at (kind.ClassMethod k (no_modifiers false)) (bared f ∷ z ∷ []))
    (function-of at false false absent p absent absent m ∙ ap (λ z. function_of at false false z (bared p) z z) bared-absent)

pub new-signature-bared : (at : Span) (f p : Node) → Mapped p → Commutes (new_signature at) (new_signature at) (f ∷ p ∷ [])
new-signature-bared at f p m =
    bared-node at (kind.Constructor None false) (f ∷ parameters p ∷ absent ∷ [])
    ∙ ap₂ (λ z w. node_of at (kind.Constructor None false) (bared f ∷ z ∷ w ∷ [])) (parameters-bared p m) bared-absent
