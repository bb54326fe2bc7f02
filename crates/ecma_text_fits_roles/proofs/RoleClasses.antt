-- Classes and their members, declarations, loops, imports by `=`, modules.
use Rattle.std.proofs.Common.{◌≡◌, ℕ, Bool, true, false, cond, not, ◌&&◌, List, [], ◌∷◌, refl, subst, codes}
use Rattle.ecma_kind.specs.declared.span.Span.{Span}
use Rattle.ecma_kind.specs.declared.operators.MethodKind.{MethodKind}
use Rattle.ecma_kind.specs.declared.operators.MethodKind.TheVariants.{Method, Getter, Setter}
use Rattle.ecma_kind.specs.declared.operators.MemberModifiers.{MemberModifiers}
use Rattle.ecma_kind.specs.declared.kind.Kind.{Kind}
use Rattle.ecma_kind.specs.declared.kind.Kind.TheVariants as kind
use Rattle.ecma_tree.specs.declared.node.Node.{Node}
use Rattle.ecma_tree.specs.Nodes.{node_of}
use Rattle.ecma_grammar.specs.declared.production.Plain.{Plain}
use Rattle.ecma_grammar.specs.declared.production.Plain.TheVariants as plain
use Rattle.ecma_grammar.specs.trees.Plain.{plain_kind}
use Rattle.ecma_grammar.specs.trees.Parts.{children_of, framed, is_present, kind_of}
use Rattle.ecma_grammar.specs.trees.Functions.{accessibility_of, function_of, has_word}
use Rattle.ecma_grammar.specs.trees.Classes.{class, constructor_of, field, field_kind, index_signature, is_constructor, is_constructor_key, is_plain_function, is_private_name, member, member_by, method, method_by, method_kind, modified, no_modifiers}
use Rattle.ecma_grammar.specs.trees.Others.{declared, declared_kind, headed, import_equals, module_of, text_of}
use Rattle.ecma_rules.specs.Supers as supers
use Rattle.ecma_fits.specs.declared.role.Role.TheVariants as role
use Rattle.ecma_fits.specs.Roles.{may_be, role_in}
use Rattle.ecma_raw_roles.specs.RawRoles.{HasRawRole, may_be_raw, raw_role_in, usual_role_in}
use Rattle.ecma_raw_roles.proofs.Placed.{Along, absent_free, along_same, displaced_by, placed, placed_parts, public_free}
use Rattle.ecma_text_fits_roles.proofs.RoleAsks.{Ask, Given, MeetAll, Meets, free, head, these, whatever, any}
use Rattle.ecma_text_fits_roles.proofs.RoleNeeds.{as_free, class_parts, field_parts, if_so, is_class, method_parts, type_signature_needs}
use Rattle.ecma_text_fits_roles.proofs.RoleGiven.{no, two}
use Rattle.ecma_text_fits_roles.proofs.RoleForms.{framed_free, freely, made_of}
use Rattle.ecma_text_fits_roles.proofs.RoleFunctions.{function_free}

class_node : (span : Span) (k : Kind) (is_abstract : Bool) → displaced_by role.Free k ≡ false → ((i : ℕ) → role.Free ≡ raw_role_in role.Free k i) → (xs : List Node) → MeetAll class_parts xs → HasRawRole role.Free (framed 6 (class span k is_abstract) xs)
unfolding may_be may_be_raw raw_role_in usual_role_in role_in
class_node span k is_abstract d same xs m =
    made_of class_parts (λ ys. HasRawRole role.Free (framed 6 (class span k is_abstract) ys))
    (λ name hn types ht parent hp arguments ha interfaces hi members hm.
    (let inside : HasRawRole role.Free (node_of span (kind.Class is_abstract) (parent ∷ members ∷ types ∷ arguments ∷ interfaces ∷ [])) =
    placed span (kind.Class is_abstract) (parent ∷ members ∷ types ∷ arguments ∷ interfaces ∷ []) role.Free refl (hp, (hm, (ht, (ha, (hi, tt))))) in
    placed span k (name ∷ node_of span (kind.Class is_abstract) (parent ∷ members ∷ types ∷ arguments ∷ interfaces ∷ []) ∷ []) role.Free d
    (subst (λ z. HasRawRole z name) (same 0) hn, (subst (λ z. HasRawRole z (node_of span (kind.Class is_abstract) (parent ∷ members ∷ types ∷ arguments ∷ interfaces ∷ []))) (same 1) inside, tt)))) xs m

pub class_made : (p : Plain) (is_abstract : Bool) (q : Ask) (span : Span) (xs : List Node) → Given (as_free q (if_so (is_class p) (these class_parts))) xs → Meets q (framed 6 (class span (plain_kind p) is_abstract) xs)
unfolding may_be may_be_raw raw_role_in usual_role_in role_in
class_made plain.ClassExpr is_abstract q span xs g = freely q (these class_parts) (framed 6 (class span kind.ClassExpr is_abstract) xs) xs (class_node span kind.ClassExpr is_abstract refl (λ i. refl) xs) g
class_made plain.ClassDecl is_abstract q span xs g = freely q (these class_parts) (framed 6 (class span (kind.ClassDecl false) is_abstract) xs) xs (class_node span (kind.ClassDecl false) is_abstract refl (λ i. refl) xs) g
class_made p is_abstract q span xs g = freely q (if_so (is_class p) (these class_parts)) (framed 6 (class span (plain_kind p) is_abstract) xs) xs (λ m. absurd m) g

-- members, whose key may be a private name

public : (k : Kind) → is_private_name k ≡ false → supers.is_private_name k ≡ false
public (kind.PrivateName name) h = h
public _ h = refl

public_key : (key : Node) → HasRawRole role.Private key → is_private_name (kind_of key) ≡ false → HasRawRole role.Free key
public_key key h p = public_free key h (public (kind_of key) p)

method_free : (span : Span) (k : MethodKind) (modifiers : MemberModifiers) (key function : Node) → HasRawRole role.Private key → HasRawRole role.Free function → HasRawRole role.Free (node_of span (method_kind key k modifiers) (key ∷ function ∷ []))
unfolding may_be may_be_raw raw_role_in usual_role_in role_in
method_free span k modifiers key function hk hf = go (is_private_name (kind_of key)) refl
  where
    go : (b : Bool) → is_private_name (kind_of key) ≡ b → HasRawRole role.Free (node_of span (cond b (kind.PrivateMethod k modifiers) (kind.ClassMethod k modifiers)) (key ∷ function ∷ []))
    go true e = placed span (kind.PrivateMethod k modifiers) (key ∷ function ∷ []) role.Free refl (hk, (hf, tt))
    go false e = placed span (kind.ClassMethod k modifiers) (key ∷ function ∷ []) role.Free refl (public_key key hk e, (hf, tt))

pub method_made : (k : MethodKind) (q : Ask) (span : Span) (xs : List Node) → Given (as_free q (these method_parts)) xs → Meets q (framed 9 (method span k) xs)
method_made k q span xs g =
    freely q (these method_parts) (framed 9 (method span k) xs) xs
    (made_of method_parts (λ ys. HasRawRole role.Free (framed 9 (method span k) ys))
    (λ is_async ha is_generator hg key hk question hq exclamation he types ht params hp returns hr body hb.
    method_free span k (no_modifiers (is_present question)) key (function_of span (is_present is_async) (is_present is_generator) types params returns body) hk
    (function_free span (is_present is_async) (is_present is_generator) types params returns body ht hp hr hb)) xs) g

field_free : (span : Span) (modifiers : MemberModifiers) (definite : Bool) (key value annotation : Node) → HasRawRole role.Private key → HasRawRole role.Free value → HasRawRole role.Free annotation
    → HasRawRole role.Free (node_of span (field_kind key modifiers false false definite) (key ∷ value ∷ annotation ∷ []))
unfolding may_be may_be_raw raw_role_in usual_role_in role_in
field_free span modifiers definite key value annotation hk hv ha = go (is_private_name (kind_of key)) refl
  where
    go : (b : Bool) → is_private_name (kind_of key) ≡ b → HasRawRole role.Free (node_of span (cond b (kind.PrivateProp modifiers false false definite) (kind.ClassProp modifiers false false definite)) (key ∷ value ∷ annotation ∷ []))
    go true e = placed span (kind.PrivateProp modifiers false false definite) (key ∷ value ∷ annotation ∷ []) role.Free refl (hk, (hv, (ha, tt)))
    go false e = placed span (kind.ClassProp modifiers false false definite) (key ∷ value ∷ annotation ∷ []) role.Free refl (public_key key hk e, (hv, (ha, tt)))

pub field_made : (q : Ask) (span : Span) (xs : List Node) → Given (as_free q (these field_parts)) xs → Meets q (framed 5 (field span) xs)
field_made q span xs g =
    freely q (these field_parts) (framed 5 (field span) xs) xs
    (made_of field_parts (λ ys. HasRawRole role.Free (framed 5 (field span) ys))
    (λ key hk question hq exclamation he annotation ha value hv. field_free span (no_modifiers (is_present question)) (is_present exclamation) key value annotation hk hv ha) xs) g

-- modifiers

plain_function : (k : Kind) → is_plain_function k ≡ true → (cs : List Node) → Along (raw_role_in role.Free k) cs → Along (λ i. role.Free) cs
unfolding raw_role_in usual_role_in role_in
plain_function (kind.Function is_generator is_async) h cs a = a
plain_function _ h cs a = no h

constructor_free : (span : Span) (modifiers : Node) (before : MemberModifiers) (key : Node) → HasRawRole role.Free key → (cs : List Node) → Along (λ i. role.Free) cs → HasRawRole role.Free (constructor_of span modifiers before key cs)
unfolding may_be may_be_raw raw_role_in usual_role_in role_in
constructor_free span modifiers before key hk [] a = absent_free
constructor_free span modifiers before key hk (c ∷ []) a = absent_free
constructor_free span modifiers before key hk (c ∷ d ∷ []) a = absent_free
constructor_free span modifiers before key hk (c ∷ d ∷ e ∷ []) a = absent_free
constructor_free span modifiers before key hk (params ∷ body ∷ types ∷ returns ∷ []) a = placed span (kind.Constructor (accessibility_of modifiers) before.is_optional) (key ∷ params ∷ body ∷ []) role.Free refl (hk, (a.0, (a.1.0, tt)))
constructor_free span modifiers before key hk (c ∷ d ∷ e ∷ f ∷ g ∷ gs) a = absent_free

plain_of : (modifiers key function : Node) → is_constructor modifiers key function ≡ true → is_plain_function (kind_of function) ≡ true
plain_of modifiers key function h =
    let w = two (is_constructor_key (kind_of key)) (is_plain_function (kind_of function) && not (has_word (codes "static") modifiers)) h in
    (two (is_plain_function (kind_of function)) (not (has_word (codes "static") modifiers)) w.1).0

method_by_free : (span : Span) (modifiers : Node) (before : MemberModifiers) (cs : List Node) → Along (λ i. role.Free) cs → HasRawRole role.Free (method_by span modifiers before cs)
unfolding may_be may_be_raw raw_role_in usual_role_in role_in
method_by_free span modifiers before [] a = absent_free
method_by_free span modifiers before (key ∷ []) a = absent_free
method_by_free span modifiers before (key ∷ function ∷ []) a = go (is_constructor modifiers key function) refl
  where
    go : (b : Bool) → is_constructor modifiers key function ≡ b
        → HasRawRole role.Free (cond b (framed 4 (constructor_of span modifiers before key) (children_of function)) (node_of span (kind.ClassMethod Method (modified modifiers before)) (key ∷ function ∷ [])))
    go true e =
        framed_free 4 (constructor_of span modifiers before key) (children_of function)
        (constructor_free span modifiers before key a.0 (children_of function) (plain_function (kind_of function) (plain_of modifiers key function e) (children_of function) (placed_parts function role.Free a.1.0).1))
    go false e = placed span (kind.ClassMethod Method (modified modifiers before)) (key ∷ function ∷ []) role.Free refl (a.0, (a.1.0, tt))
method_by_free span modifiers before (key ∷ function ∷ c ∷ cs) a = absent_free

member_by_free : (span : Span) (modifiers : Node) (k : Kind) (cs : List Node) → displaced_by role.Free k ≡ false → Along (raw_role_in role.Free k) cs → HasRawRole role.Free (member_by span modifiers k cs)
unfolding may_be may_be_raw raw_role_in usual_role_in role_in
member_by_free span modifiers (kind.ClassMethod Method before) cs d a = framed_free 2 (method_by span modifiers before) cs (method_by_free span modifiers before cs a)
member_by_free span modifiers (kind.ClassMethod Getter before) cs d a = placed span (kind.ClassMethod Getter (modified modifiers before)) cs role.Free refl a
member_by_free span modifiers (kind.ClassMethod Setter before) cs d a = placed span (kind.ClassMethod Setter (modified modifiers before)) cs role.Free refl a
member_by_free span modifiers (kind.PrivateMethod k before) cs d a = placed span (kind.PrivateMethod k (modified modifiers before)) cs role.Free refl a
member_by_free span modifiers (kind.ClassProp before readonly declare definite) cs d a =
    placed span (kind.ClassProp (modified modifiers before) (has_word (codes "readonly") modifiers) (has_word (codes "declare") modifiers) definite) cs role.Free refl a
member_by_free span modifiers (kind.PrivateProp before readonly declare definite) cs d a =
    placed span (kind.PrivateProp (modified modifiers before) (has_word (codes "readonly") modifiers) (has_word (codes "declare") modifiers) definite) cs role.Free refl a
member_by_free span modifiers k cs d a = placed span k cs role.Free d a

pub modified_made : (q : Ask) (span : Span) (xs : List Node) → Given (as_free q (these (free ∷ free ∷ []))) xs → Meets q (framed 2 (member span) xs)
modified_made q span xs g =
    freely q (these (free ∷ free ∷ [])) (framed 2 (member span) xs) xs
    (made_of (free ∷ free ∷ []) (λ ys. HasRawRole role.Free (framed 2 (member span) ys))
    (λ modifiers hm n hn. (let w = placed_parts n role.Free hn in member_by_free span modifiers (kind_of n) (children_of n) w.0 w.1)) xs) g

signature_free : (span : Span) (xs : List Node) → HasRawRole role.Free (index_signature span xs)
unfolding may_be may_be_raw raw_role_in usual_role_in role_in
signature_free span [] = absent_free
signature_free span (a ∷ []) = absent_free
signature_free span (a ∷ b ∷ []) = absent_free
signature_free span (a ∷ b ∷ c ∷ []) = placed span (kind.TsIndexSignature (has_word (codes "readonly") a) (has_word (codes "static") a)) [] role.Free refl tt
signature_free span (a ∷ b ∷ c ∷ d ∷ ds) = absent_free

pub signature_made : (q : Ask) (span : Span) (xs : List Node) → Given (as_free q whatever) xs → Meets q (framed 3 (index_signature span) xs)
signature_made q span xs g = freely q whatever (framed 3 (index_signature span) xs) xs (λ m. framed_free 3 (index_signature span) xs (signature_free span xs)) g

-- nothing is asked of a signature inside a type
pub type_signature_made : (q : Ask) (n : Node) (xs : List Node) → Given (type_signature_needs q) xs → Meets q n
type_signature_made any n xs g = tt
type_signature_made _ n xs g = absurd g

-- loops, and what stands behind `declare`

pub headed_made : (q : Ask) (span : Span) (xs : List Node) → Given (as_free q (these (head ∷ free ∷ []))) xs → Meets q (framed 2 (headed span) xs)
headed_made q span xs g =
    freely q (these (head ∷ free ∷ [])) (framed 2 (headed span) xs) xs (made_of (head ∷ free ∷ []) (λ ys. HasRawRole role.Free (framed 2 (headed span) ys)) (λ n hn body hb. hn span body hb) xs) g

declared_place : (k : Kind) → displaced_by role.Free k ≡ false → displaced_by role.Free (declared_kind k) ≡ false
unfolding may_be may_be_raw
declared_place (kind.FnDecl declare) d = refl
declared_place (kind.ClassDecl declare) d = refl
declared_place (kind.VarDecl k declare) d = refl
declared_place (kind.TsInterfaceDecl declare) d = refl
declared_place (kind.TsTypeAliasDecl declare) d = refl
declared_place (kind.TsEnumDecl declare is_const) d = refl
declared_place (kind.TsModuleDecl declare global) d = refl
declared_place _ d = d

declared_same : (k : Kind) (i : ℕ) → raw_role_in role.Free k i ≡ raw_role_in role.Free (declared_kind k) i
unfolding raw_role_in usual_role_in role_in
declared_same (kind.FnDecl declare) i = refl
declared_same (kind.ClassDecl declare) i = refl
declared_same (kind.VarDecl k declare) i = refl
declared_same (kind.TsInterfaceDecl declare) i = refl
declared_same (kind.TsTypeAliasDecl declare) i = refl
declared_same (kind.TsEnumDecl declare is_const) i = refl
declared_same (kind.TsModuleDecl declare global) i = refl
declared_same _ i = refl

pub declared_made : (q : Ask) (span : Span) (xs : List Node) → Given (as_free q (these (free ∷ []))) xs → Meets q (framed 1 (declared span) xs)
declared_made q span xs g =
    freely q (these (free ∷ [])) (framed 1 (declared span) xs) xs
    (made_of (free ∷ []) (λ ys. HasRawRole role.Free (framed 1 (declared span) ys))
    (λ n hn. (let w = placed_parts n role.Free hn in
    placed span (declared_kind (kind_of n)) (children_of n) role.Free (declared_place (kind_of n) w.0) (along_same (raw_role_in role.Free (kind_of n)) (raw_role_in role.Free (declared_kind (kind_of n))) (children_of n) (declared_same (kind_of n)) w.1))) xs) g

pub import_equals_made : (q : Ask) (span : Span) (xs : List Node) → Given (as_free q (these (free ∷ free ∷ free ∷ free ∷ []))) xs → Meets q (framed 4 (import_equals span) xs)
unfolding may_be may_be_raw raw_role_in usual_role_in role_in
import_equals_made q span xs g =
    freely q (these (free ∷ free ∷ free ∷ free ∷ [])) (framed 4 (import_equals span) xs) xs
    (made_of (free ∷ free ∷ free ∷ free ∷ []) (λ ys. HasRawRole role.Free (framed 4 (import_equals span) ys))
    (λ is_export he is_type_only ht name hn reference hr. placed span (kind.TsImportEqualsDecl (is_present is_export) (is_present is_type_only)) (name ∷ reference ∷ []) role.Free refl (hn, (hr, tt))) xs) g

pub module_made : (q : Ask) (span : Span) (xs : List Node) → Given (as_free q (these (free ∷ free ∷ []))) xs → Meets q (framed 2 (module_of span) xs)
unfolding may_be may_be_raw raw_role_in usual_role_in role_in
module_made q span xs g =
    freely q (these (free ∷ free ∷ [])) (framed 2 (module_of span) xs) xs
    (made_of (free ∷ free ∷ []) (λ ys. HasRawRole role.Free (framed 2 (module_of span) ys)) (λ hashbang hh items hi. placed span (kind.Module (text_of (kind_of hashbang))) (items ∷ []) role.Free refl (hi, tt)) xs) g
