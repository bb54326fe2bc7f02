-- Classes and their members.
use Rattle.std.proofs.Common.{◌≡◌, inl, inr, ℕ, Bool, true, false, cond, List, [], ◌∷◌, length, refl, sym, ◌∙◌, subst, codes}
use Rattle.ecma_kind.specs.Sorts.{belongs}
use Rattle.ecma_kind.specs.declared.span.Span.{Span}
use Rattle.ecma_kind.specs.declared.operators.MethodKind.{MethodKind}
use Rattle.ecma_kind.specs.declared.operators.MethodKind.TheVariants.{Method, Getter, Setter}
use Rattle.ecma_kind.specs.declared.operators.MemberModifiers.{MemberModifiers}
use Rattle.ecma_kind.specs.declared.kind.Kind.{Kind}
use Rattle.ecma_kind.specs.declared.kind.Kind.TheVariants as kind
use Rattle.ecma_kind.specs.declared.shapes.Sort.{Sort}
use Rattle.ecma_kind.specs.declared.shapes.Sort.TheVariants as sort
use Rattle.ecma_tree.specs.Nodes.{node_of}
use Rattle.ecma_tree.specs.declared.node.Node.{Node}
use Rattle.ecma_grammar.specs.declared.production.Plain.{Plain}
use Rattle.ecma_grammar.specs.declared.production.Plain.TheVariants as plain
use Rattle.ecma_grammar.specs.trees.Plain.{plain_kind}
use Rattle.ecma_grammar.specs.trees.Parts.{kind_of, children_of, is_present, framed}
use Rattle.ecma_grammar.specs.trees.Functions.{has_word, accessibility_of, function_of}
use Rattle.ecma_grammar.specs.trees.Classes.{class, is_private_name, no_modifiers, method, field, modified, is_constructor, constructor_of, method_by, member_by, member, index_signature}
use Rattle.ecma_grammar_laws.specs.RawSorts as raw
use Rattle.ecma_grammar_laws.specs.RawSorts.{RawShape, HasRawSort, belongs_or_super, child_shapes_raw, sorted, one, maybe, many}
use Rattle.ecma_grammar_laws.proofs.RawShapes.{HaveRaw, node_has, parts_of}
use Rattle.ecma_grammar_laws.proofs.Asks.{Ask, any, shape, key, Meets, these, Given, fits}
use Rattle.ecma_grammar_laws.proofs.Needs.{a, maybe_a, if_so, class_parts, class_needs, method_parts, field_parts, modified_parts, signature_parts, type_signature_needs}
use Rattle.ecma_grammar_laws.proofs.Fits.{no}
use Rattle.ecma_grammar_laws.proofs.forms.Making.{given_so, made_sorted, as_sort, as_either, made_of}
use Rattle.ecma_grammar_laws.proofs.forms.Functions.{function_sorted}

-- classes

named_class : (s : Sort) (k : Kind) (name : RawShape) → belongs s k ≡ true → ((n : ℕ) → child_shapes_raw k (one (sorted s)) n ≡ name ∷ one (sorted sort.Class) ∷ []) → (span : Span) (is_abstract : Bool) (xs : List Node)
    → Given (these (class_parts (shape name))) xs → HasRawSort s (framed 6 (class span k is_abstract) xs)
named_class s k name b e span is_abstract xs m =
    made_of (class_parts (shape name)) (λ ys. HasRawSort s (framed 6 (class span k is_abstract) ys))
    (λ id hi types ht parent hp arguments ha interfaces hf members hm.
    (let inside : HasRawSort sort.Class (node_of span (kind.Class is_abstract) (parent ∷ members ∷ types ∷ arguments ∷ interfaces ∷ [])) =
    made_sorted sort.Class span (kind.Class is_abstract) (parent ∷ members ∷ types ∷ arguments ∷ interfaces ∷ []) refl (hp, (hm, (ht, (ha, (hf, tt))))) in
    made_sorted s span k (id ∷ node_of span (kind.Class is_abstract) (parent ∷ members ∷ types ∷ arguments ∷ interfaces ∷ []) ∷ []) b
    (subst (λ ss. HaveRaw ss (id ∷ node_of span (kind.Class is_abstract) (parent ∷ members ∷ types ∷ arguments ∷ interfaces ∷ []) ∷ [])) (sym (e 2)) (hi, (inside, tt))))) xs m

pub class_made : (p : Plain) (is_abstract : Bool) (q : Ask) (span : Span) (xs : List Node) → Given (class_needs p q) xs → Meets q (framed 6 (class span (plain_kind p) is_abstract) xs)
class_made plain.ClassExpr is_abstract q span xs g =
    let t = given_so _ _ xs g in
    as_either sort.Expr sort.DefaultDecl q (framed 6 (class span kind.ClassExpr is_abstract) xs) t.0
    (named_class sort.Expr kind.ClassExpr (maybe (sorted sort.Ident)) refl (λ n. refl) span is_abstract xs t.1) (named_class sort.DefaultDecl kind.ClassExpr (maybe (sorted sort.Ident)) refl (λ n. refl) span is_abstract xs t.1)
class_made plain.ClassDecl is_abstract q span xs g =
    let t = given_so _ _ xs g in as_sort sort.Decl q (framed 6 (class span (kind.ClassDecl false) is_abstract) xs) t.0 (named_class sort.Decl (kind.ClassDecl false) (one (sorted sort.Ident)) refl (λ n. refl) span is_abstract xs t.1)
class_made _ is_abstract q span xs g = absurd g

-- keys of members

private_kind : (k : Kind) → belongs_or_super sort.PropName k ≡ true → is_private_name k ≡ false
private_kind (kind.PrivateName _) h = no h
private_kind _ h = refl

public_kind : (k : Kind) → belongs_or_super sort.PrivateName k ≡ true → is_private_name k ≡ true
public_kind (kind.PrivateName _) h = refl
public_kind _ h = no h

private_key : (n : Node) → Meets key n → is_private_name (kind_of n) ≡ true → HasRawSort sort.PrivateName n
private_key n (inl h) e = no (sym (private_kind (kind_of n) (parts_of n (one (sorted sort.PropName)) h).0) ∙ e)
private_key n (inr h) e = h

public_key : (n : Node) → Meets key n → is_private_name (kind_of n) ≡ false → HasRawSort sort.PropName n
public_key n (inl h) e = h
public_key n (inr h) e = no (sym e ∙ public_kind (kind_of n) (parts_of n (one (sorted sort.PrivateName)) h).0)

-- methods and fields

method_sorted : (span : Span) (k : MethodKind) (modifiers : MemberModifiers) (id function : Node) → Meets key id → HasRawSort sort.Function function
    → (b : Bool) → is_private_name (kind_of id) ≡ b → HasRawSort sort.ClassMember (node_of span (cond b (kind.PrivateMethod k modifiers) (kind.ClassMethod k modifiers)) (id ∷ function ∷ []))
method_sorted span k modifiers id function hi hf true e = made_sorted sort.ClassMember span (kind.PrivateMethod k modifiers) (id ∷ function ∷ []) refl (private_key id hi e, (hf, tt))
method_sorted span k modifiers id function hi hf false e = made_sorted sort.ClassMember span (kind.ClassMethod k modifiers) (id ∷ function ∷ []) refl (public_key id hi e, (hf, tt))

pub method_made : (k : MethodKind) (q : Ask) (span : Span) (xs : List Node) → Given (if_so (fits (a sort.ClassMember) q) (these method_parts)) xs → Meets q (framed 9 (method span k) xs)
method_made k q span xs g =
    let t = given_so _ _ xs g in
    as_sort sort.ClassMember q (framed 9 (method span k) xs) t.0
    (made_of method_parts (λ ys. HasRawSort sort.ClassMember (framed 9 (method span k) ys))
    (λ c hc star hs id hi question hq mark hm types ht params hp returns hr body hb.
    method_sorted span k (no_modifiers (is_present question)) id (function_of span (is_present c) (is_present star) types params returns body) hi (function_sorted span types params returns body ht hp hr hb (is_present c) (is_present star)) (is_private_name (kind_of id)) refl) xs t.1)

field_sorted : (span : Span) (modifiers : MemberModifiers) (definite : Bool) (id value annotation : Node) → Meets key id → Meets (maybe_a sort.Expr) value → Meets (maybe_a sort.TsTypeAnn) annotation
    → (b : Bool) → is_private_name (kind_of id) ≡ b → HasRawSort sort.ClassMember (node_of span (cond b (kind.PrivateProp modifiers false false definite) (kind.ClassProp modifiers false false definite)) (id ∷ value ∷ annotation ∷ []))
field_sorted span modifiers definite id value annotation hi hv ha true e = made_sorted sort.ClassMember span (kind.PrivateProp modifiers false false definite) (id ∷ value ∷ annotation ∷ []) refl (private_key id hi e, (hv, (ha, tt)))
field_sorted span modifiers definite id value annotation hi hv ha false e = made_sorted sort.ClassMember span (kind.ClassProp modifiers false false definite) (id ∷ value ∷ annotation ∷ []) refl (public_key id hi e, (hv, (ha, tt)))

pub field_made : (q : Ask) (span : Span) (xs : List Node) → Given (if_so (fits (a sort.ClassMember) q) (these field_parts)) xs → Meets q (framed 5 (field span) xs)
field_made q span xs g =
    let t = given_so _ _ xs g in
    as_sort sort.ClassMember q (framed 5 (field span) xs) t.0
    (made_of field_parts (λ ys. HasRawSort sort.ClassMember (framed 5 (field span) ys))
    (λ id hi question hq mark hm annotation ha value hv. field_sorted span (no_modifiers (is_present question)) (is_present mark) id value annotation hi hv ha (is_private_name (kind_of id)) refl) xs t.1)

-- members with their modifiers

abbrev function_children : List RawShape
function_children = many (sorted sort.ParamOrTsParamProp) ∷ maybe (sorted sort.BlockStmt) ∷ maybe (sorted sort.TsTypeParamDecl) ∷ maybe (sorted sort.TsTypeAnn) ∷ []

of_function : (k : Kind) (n : ℕ) → belongs_or_super sort.Function k ≡ true → child_shapes_raw k (one (sorted sort.Function)) n ≡ function_children
of_function (kind.Function _ _) n h = refl
of_function _ n h = no h

function_has : (n : Node) → HasRawSort sort.Function n → HaveRaw function_children (children_of n)
function_has n h = let t = parts_of n (one (sorted sort.Function)) h in subst (λ ss. HaveRaw ss (children_of n)) (of_function (kind_of n) (length (children_of n)) t.0) t.1

module _ (span : Span) (modifiers : Node) where
  constructor_sorted : (before : MemberModifiers) (id : Node) → HasRawSort sort.PropName id → (cs : List Node) → HaveRaw function_children cs → HasRawSort sort.ClassMember (framed 4 (constructor_of span modifiers before id) cs)
  constructor_sorted before id hi [] h = absurd h
  constructor_sorted before id hi (params ∷ []) h = absurd h.1
  constructor_sorted before id hi (params ∷ body ∷ []) h = absurd h.1.1
  constructor_sorted before id hi (params ∷ body ∷ types ∷ []) h = absurd h.1.1.1
  constructor_sorted before id hi (params ∷ body ∷ types ∷ returns ∷ []) h = made_sorted sort.ClassMember span (kind.Constructor (accessibility_of modifiers) before.is_optional) (id ∷ params ∷ body ∷ []) refl (hi, (h.0, (h.1.0, tt)))
  constructor_sorted before id hi (params ∷ body ∷ types ∷ returns ∷ z ∷ zs) h = absurd h.1.1.1.1

  method_by_sorted : (before : MemberModifiers) (cs : List Node) → HaveRaw (one (sorted sort.PropName) ∷ one (sorted sort.Function) ∷ []) cs → HasRawSort sort.ClassMember (framed 2 (method_by span modifiers before) cs)
  method_by_sorted before [] h = absurd h
  method_by_sorted before (id ∷ []) h = absurd h.1
  method_by_sorted before (id ∷ function ∷ []) h = go (is_constructor modifiers id function)
    where
      go : (b : Bool) → HasRawSort sort.ClassMember (cond b (framed 4 (constructor_of span modifiers before id) (children_of function)) (node_of span (kind.ClassMethod Method (modified modifiers before)) (id ∷ function ∷ [])))
      go true = constructor_sorted before id h.0 (children_of function) (function_has function h.1.0)
      go false = made_sorted sort.ClassMember span (kind.ClassMethod Method (modified modifiers before)) (id ∷ function ∷ []) refl h
  method_by_sorted before (id ∷ function ∷ z ∷ zs) h = absurd h.1.1

  member_by_sorted : (k : Kind) → belongs_or_super sort.ClassMember k ≡ true → (cs : List Node) → HaveRaw (child_shapes_raw k (one (sorted sort.ClassMember)) (length cs)) cs → HasRawSort sort.ClassMember (member_by span modifiers k cs)
  member_by_sorted (kind.ClassMethod Method before) b cs h = method_by_sorted before cs h
  member_by_sorted (kind.ClassMethod Getter before) b cs h = made_sorted sort.ClassMember span (kind.ClassMethod Getter (modified modifiers before)) cs refl h
  member_by_sorted (kind.ClassMethod Setter before) b cs h = made_sorted sort.ClassMember span (kind.ClassMethod Setter (modified modifiers before)) cs refl h
  member_by_sorted (kind.PrivateMethod k before) b cs h = made_sorted sort.ClassMember span (kind.PrivateMethod k (modified modifiers before)) cs refl h
  member_by_sorted (kind.ClassProp before readonly declare definite) b cs h = made_sorted sort.ClassMember span (kind.ClassProp (modified modifiers before) (has_word (codes "readonly") modifiers) (has_word (codes "declare") modifiers) definite) cs refl h
  member_by_sorted (kind.PrivateProp before readonly declare definite) b cs h = made_sorted sort.ClassMember span (kind.PrivateProp (modified modifiers before) (has_word (codes "readonly") modifiers) (has_word (codes "declare") modifiers) definite) cs refl h
  member_by_sorted k b cs h = node_has span k cs (one (sorted sort.ClassMember)) b h

pub modified_made : (q : Ask) (span : Span) (xs : List Node) → Given (if_so (fits (a sort.ClassMember) q) (these modified_parts)) xs → Meets q (framed 2 (member span) xs)
modified_made q span xs g =
    let t = given_so _ _ xs g in
    as_sort sort.ClassMember q (framed 2 (member span) xs) t.0
    (made_of modified_parts (λ ys. HasRawSort sort.ClassMember (framed 2 (member span) ys))
    (λ modifiers hm n h. (let w = parts_of n (one (sorted sort.ClassMember)) h in member_by_sorted span modifiers (kind_of n) w.0 (children_of n) w.1)) xs t.1)

-- index signatures

pub signature_made : (q : Ask) (span : Span) (xs : List Node) → Given (if_so (fits (a sort.ClassMember) q) (these signature_parts)) xs → Meets q (framed 3 (index_signature span) xs)
signature_made q span xs g =
    let t = given_so _ _ xs g in
    as_sort sort.ClassMember q (framed 3 (index_signature span) xs) t.0
    (made_of signature_parts (λ ys. HasRawSort sort.ClassMember (framed 3 (index_signature span) ys))
    (λ modifiers hm index hi annotation ha. made_sorted sort.ClassMember span (kind.TsIndexSignature (has_word (codes "readonly") modifiers) (has_word (codes "static") modifiers)) [] refl tt) xs t.1)

-- nothing is asked of a signature inside a type
pub type_signature_made : (q : Ask) (n : Node) (xs : List Node) → Given (type_signature_needs q) xs → Meets q n
type_signature_made any n xs g = tt
type_signature_made _ n xs g = absurd g
