-- Classes and their members have the grades that are asked.
use Rattle.std.proofs.Common.{◌≡◌, ◌∙◌, Bool, true, false, not, ◌&&◌, ◌||◌, List, [], ◌∷◌, codes, length, refl, sym, ap, subst, Some, None}
use Rattle.std.specs.Prelude.{◌==◌, if◌then◌else◌}
use Rattle.std.proofs.lemmas.Bool.{and_parts, and_from}
use Rattle.ecma_kind.specs.declared.span.Span.{Span}
use Rattle.ecma_kind.specs.declared.kind.Kind.{Kind}
use Rattle.ecma_kind.specs.declared.kind.Kind.TheVariants as kind
use Rattle.ecma_kind.specs.declared.operators.MemberModifiers.{MemberModifiers}
use Rattle.ecma_kind.specs.declared.operators.MethodKind.{MethodKind}
use Rattle.ecma_kind.specs.declared.operators.MethodKind.TheVariants.{Method, Getter, Setter}
use Rattle.ecma_tree.specs.declared.node.Node.{Node}
use Rattle.ecma_tree.specs.Nodes.{absent, dummy_span, node_of}
use Rattle.ecma_tree.specs.Sorted.{is_absent as is_missing}
use Rattle.ecma_grammar.specs.trees.Classes.{class, constructor_of, field, index_signature, is_constructor, is_constructor_key as is_key, is_plain_function, is_private_name, member, member_by, method, method_by, method_kind, modified, no_modifiers}
use Rattle.ecma_grammar.specs.trees.Functions.{accessibility_of, function_of, has_word}
use Rattle.ecma_grammar.specs.trees.Parts.{by_frame, children_of, framed, is_present, kind_of}
use Rattle.ecma_rules.specs.Members.{is_constructor_key, is_method, is_special_function}
use Rattle.ecma_fits.specs.Counts.{is_empty}
use Rattle.ecma_text_leaves.proofs.Trees.{children_made, kind_made}
use Rattle.ecma_text_fits_parts.proofs.Grades.{Grade, Is, IsMember, Meets, absent as absent_grade, good, is_member, member as member_grade, node_meets}
use Rattle.ecma_text_fits_parts.proofs.MadeFunctions.{Allowed, function_of_sound, same_absent}
use Rattle.ecma_text_fits_parts.proofs.MadeNodes.{quiet_sound}
use Rattle.ecma_text_fits_parts.proofs.Needs.{five, is_quiet, method_parts, nine, seven, six, three}
use Rattle.ecma_text_fits_parts.proofs.Sound.{Sound, is_function, is_method_pair, may_be_named, or_first, or_second}
use Rattle.ecma_text_fits_parts.proofs.Throughout.{EachThroughout, Throughout, below, first_of, more, none, others_of, throughout}
use Rattle.ecma_raw_roles.proofs.Walks.{not_true}
use Rattle.ecma_text_fits_parts.proofs.Wanted.{Given, done, one}

absent_sound : Throughout Sound absent
absent_sound = throughout dummy_span kind.Absent refl none

pub class_is : (at : Span) (k : Kind) (is_abstract : Bool) (g : Grade) → Allowed g k → (xs : List Node) → is_quiet k ≡ true → Given six xs → Meets g (framed 6 (class at k is_abstract) xs)
class_is at k t g m [] q r = absurd r
class_is at k t g m (a ∷ []) q r = absurd r.1
class_is at k t g m (a ∷ b ∷ []) q r = absurd r.1.1
class_is at k t g m (a ∷ b ∷ c ∷ []) q r = absurd r.1.1.1
class_is at k t g m (a ∷ b ∷ c ∷ d ∷ []) q r = absurd r.1.1.1.1
class_is at k t g m (a ∷ b ∷ c ∷ d ∷ e ∷ []) q r = absurd r.1.1.1.1.1
class_is at k t g m (a ∷ b ∷ c ∷ d ∷ e ∷ f ∷ []) q r =
    let body = node_of at (kind.Class t) (c ∷ f ∷ b ∷ d ∷ e ∷ []) in
    let rest = r.1.1 in
    let inside : EachThroughout Sound (c ∷ f ∷ b ∷ d ∷ e ∷ []) = more rest.0.0 (more rest.1.1.1.0.0 (more r.1.0.0 (more rest.1.0.0 (more rest.1.1.0.0 none)))) in
    node_meets g at k (a ∷ body ∷ []) m.0 (more r.0.0 (more (throughout at (kind.Class t) refl inside) none)) (quiet_sound k (a ∷ body ∷ []) q) (m.1 (a ∷ body ∷ []))
class_is at k t g m (a ∷ b ∷ c ∷ d ∷ e ∷ f ∷ h ∷ xs) q r = absurd r.1.1.1.1.1.1

-- members before their modifiers

member_node : (at : Span) (k : Kind) (cs : List Node) → EachThroughout Sound cs → is_member k cs ≡ true → IsMember (node_of at k cs)
member_node at k cs h m =
    (subst (EachThroughout Sound) (sym (children_made at k cs)) h, subst (λ j. is_member j (children_of (node_of at k cs)) ≡ true) (sym (kind_made at k cs)) (subst (λ ds. is_member k ds ≡ true) (sym (children_made at k cs)) m))

method_node : (at : Span) (key : Node) (k : MethodKind) (m : MemberModifiers) (f : Node) → EachThroughout Sound (key ∷ f ∷ []) → is_method_pair k (key ∷ f ∷ []) ≡ true → IsMember (node_of at (method_kind key k m) (key ∷ f ∷ []))
method_node at key k m f h p = go (is_private_name (kind_of key))
  where
    go : (b : Bool) → IsMember (node_of at (if b then kind.PrivateMethod k m else kind.ClassMethod k m) (key ∷ f ∷ []))
    go true = member_node at (kind.PrivateMethod k m) (key ∷ f ∷ []) h p
    go false = member_node at (kind.ClassMethod k m) (key ∷ f ∷ []) h p

-- the function of an accessor is neither
abbrev is_plainly : MethodKind → Node → Node → Bool
is_plainly k is_async is_generator = is_method k || (not (is_present is_generator) && not (is_present is_async))

method_is : (at : Span) (k : MethodKind) (xs : List Node) → Given nine xs → ((a b : Node) (ys : List Node) → xs ≡ a ∷ b ∷ ys → is_plainly k a b ≡ true) → IsMember (framed 9 (method at k) xs)
method_is at k [] g p = absurd g
method_is at k (a ∷ []) g p = absurd g.1
method_is at k (a ∷ b ∷ []) g p = absurd g.1.1
method_is at k (a ∷ b ∷ c ∷ []) g p = absurd g.1.1.1
method_is at k (a ∷ b ∷ c ∷ d ∷ []) g p = absurd g.1.1.1.1
method_is at k (a ∷ b ∷ c ∷ d ∷ e ∷ []) g p = absurd g.1.1.1.1.1
method_is at k (a ∷ b ∷ c ∷ d ∷ e ∷ f ∷ []) g p = absurd g.1.1.1.1.1.1
method_is at k (a ∷ b ∷ c ∷ d ∷ e ∷ f ∷ h ∷ []) g p = absurd g.1.1.1.1.1.1.1
method_is at k (a ∷ b ∷ c ∷ d ∷ e ∷ f ∷ h ∷ i ∷ []) g p = absurd g.1.1.1.1.1.1.1.1
method_is at k (a ∷ b ∷ c ∷ d ∷ e ∷ f ∷ h ∷ i ∷ j ∷ []) g p =
    let rest = g.1.1.1.1.1 in
    let made = function_of_sound at (is_present a) (is_present b) f h i j rest.0.0 rest.1.0.0 rest.1.1.0.0 rest.1.1.1.0.0 in
    let is = kind_made at (kind.Function (is_present b) (is_present a)) _ in
    method_node at c k (no_modifiers (is_present d)) (function_of at (is_present a) (is_present b) f h i j) (more g.1.1.0.0 (more made none))
    (subst (λ z. (is_function z && (is_method k || is_plain_function z)) ≡ true) (sym is) (p a b _ refl))
method_is at k (a ∷ b ∷ c ∷ d ∷ e ∷ f ∷ h ∷ i ∷ j ∷ l ∷ xs) g p = absurd g.1.1.1.1.1.1.1.1.1

gone : (a : Node) → Is absent_grade a → is_present a ≡ false
gone a m = let e = same_absent (kind_of a) ∙ (and_parts (is_missing (kind_of a)) (is_empty (children_of a)) m.1).0 in ap not e

accessor_is : (at : Span) (k : MethodKind) (xs : List Node) → Given (one absent_grade (one absent_grade seven)) xs → IsMember (framed 9 (method at k) xs)
accessor_is at k [] g = absurd g
accessor_is at k (a ∷ []) g = absurd g.1
accessor_is at k (a ∷ b ∷ xs) g =
    let e = gone a g.0 in
    let f = gone b g.1.0 in
    method_is at k (a ∷ b ∷ xs) ((g.0.0, refl), ((g.1.0.0, refl), g.1.1))
    (λ c d ys i. (let same : a ≡ c = cc in let other : b ≡ d = cc in
    or_second (is_method k) (not (is_present d) && not (is_present c)) (and_from (not (is_present d)) (not (is_present c)) (subst (λ z. not (is_present z) ≡ true) other (ap not f)) (subst (λ z. not (is_present z) ≡ true) same (ap not e)))))

pub method_made : (at : Span) (k : MethodKind) (xs : List Node) → Given (method_parts k) xs → IsMember (framed 9 (method at k) xs)
method_made at Method xs g = method_is at Method xs g (λ a b ys e. refl)
method_made at Getter xs g = accessor_is at Getter xs g
method_made at Setter xs g = accessor_is at Setter xs g

pub field_made : (at : Span) (xs : List Node) → Given five xs → IsMember (framed 5 (field at) xs)
field_made at [] g = absurd g
field_made at (a ∷ []) g = absurd g.1
field_made at (a ∷ b ∷ []) g = absurd g.1.1
field_made at (a ∷ b ∷ c ∷ []) g = absurd g.1.1.1
field_made at (a ∷ b ∷ c ∷ d ∷ []) g = absurd g.1.1.1.1
field_made at (a ∷ b ∷ c ∷ d ∷ e ∷ []) g = go (is_private_name (kind_of a))
  where
    all : EachThroughout Sound (a ∷ e ∷ d ∷ [])
    all = more g.0.0 (more g.1.1.1.1.0.0 (more g.1.1.1.0.0 none))

    go : (t : Bool) → IsMember (node_of at (if t then kind.PrivateProp (no_modifiers (is_present b)) false false (is_present c) else kind.ClassProp (no_modifiers (is_present b)) false false (is_present c)) (a ∷ e ∷ d ∷ []))
    go true = member_node at (kind.PrivateProp (no_modifiers (is_present b)) false false (is_present c)) (a ∷ e ∷ d ∷ []) all refl
    go false = member_node at (kind.ClassProp (no_modifiers (is_present b)) false false (is_present c)) (a ∷ e ∷ d ∷ []) all refl
field_made at (a ∷ b ∷ c ∷ d ∷ e ∷ f ∷ xs) g = absurd g.1.1.1.1.1

-- and with them

same_key : (k : Kind) → is_key k ≡ is_constructor_key k
same_key (kind.IdentName text) = refl
same_key (kind.Str value raw) = refl
same_key _ = refl

special : (k : Kind) → is_function k ≡ true → is_plain_function k ≡ false → is_special_function k ≡ true
special (kind.Function true is_async) f h = refl
special (kind.Function false true) f h = refl
special (kind.Function false false) f h = not_true (sym h)
special _ f h = not_true f

named_by : (key plain special static : Bool) → (key && (plain && not static)) ≡ false → (plain ≡ false → special ≡ true) → (static || (not key || (false || special))) ≡ true
named_by key plain special true h f = refl
named_by false plain special false h f = refl
named_by true true special false h f = not_true (sym h)
named_by true false special false h f = f refl

constructor_sound : (at : Span) (modifiers key : Node) (before : MemberModifiers) (xs : List Node) → is_key (kind_of key) ≡ true → Throughout Sound key → EachThroughout Sound xs → Throughout Sound (constructor_of at modifiers before key xs)
constructor_sound at m key before [] e s h = absent_sound
constructor_sound at m key before (a ∷ []) e s h = absent_sound
constructor_sound at m key before (a ∷ b ∷ []) e s h = absent_sound
constructor_sound at m key before (a ∷ b ∷ c ∷ []) e s h = absent_sound
constructor_sound at m key before (a ∷ b ∷ c ∷ d ∷ []) e s h =
    throughout at (kind.Constructor (accessibility_of m) before.is_optional) (sym (same_key (kind_of key)) ∙ e) (more s (more (first_of Sound h) (more (first_of Sound (others_of Sound h)) none)))
constructor_sound at m key before (a ∷ b ∷ c ∷ d ∷ f ∷ xs) e s h = absent_sound

framed_constructor : (at : Span) (modifiers key : Node) (before : MemberModifiers) (xs : List Node) → is_key (kind_of key) ≡ true → Throughout Sound key → EachThroughout Sound xs → Throughout Sound (framed 4 (constructor_of at modifiers before key) xs)
framed_constructor at m key before xs e s h = go (length xs == 4)
  where
    go : (b : Bool) → Throughout Sound (by_frame (constructor_of at m before key) (if b then Some xs else None))
    go true = constructor_sound at m key before xs e s h
    go false = absent_sound

method_by_sound : (at : Span) (m key f : Node) (before : MemberModifiers) → EachThroughout Sound (key ∷ f ∷ []) → is_method_pair Method (key ∷ f ∷ []) ≡ true → Throughout Sound (method_by at m before (key ∷ f ∷ []))
method_by_sound at m key f before h p = go (is_constructor m key f) refl
  where
    go : (b : Bool) → is_constructor m key f ≡ b → Throughout Sound (if b then framed 4 (constructor_of at m before key) (children_of f) else node_of at (kind.ClassMethod Method (modified m before)) (key ∷ f ∷ []))
    go true e = framed_constructor at m key before (children_of f) (and_parts (is_key (kind_of key)) (is_plain_function (kind_of f) && not (has_word (codes "static") m)) e).0 (first_of Sound h) (below Sound (first_of Sound (others_of Sound h)))
    go false e =
        let function = (and_parts (is_function (kind_of f)) true p).0 in
        let named = named_by (is_key (kind_of key)) (is_plain_function (kind_of f)) (is_special_function (kind_of f)) (has_word (codes "static") m) e (special (kind_of f) function) in
        throughout at (kind.ClassMethod Method (modified m before))
        (and_from (is_method_pair Method (key ∷ f ∷ [])) (may_be_named Method (has_word (codes "static") m) key f) p
        (subst (λ z. (has_word (codes "static") m || (not z || (false || is_special_function (kind_of f)))) ≡ true) (same_key (kind_of key)) named)) h

accessor_sound : (at : Span) (k : MethodKind) (modifiers : MemberModifiers) (cs : List Node) → is_method k ≡ false → EachThroughout Sound cs → is_method_pair k cs ≡ true → Throughout Sound (node_of at (kind.ClassMethod k modifiers) cs)
accessor_sound at k m (key ∷ f ∷ []) a h p =
    let accessor : (not (is_method k) || is_special_function (kind_of f)) ≡ true = or_first (not (is_method k)) (is_special_function (kind_of f)) (ap not a) in
    throughout at (kind.ClassMethod k m)
    (and_from (is_method_pair k (key ∷ f ∷ [])) (may_be_named k m.is_static key f) p
    (or_second m.is_static (not (is_constructor_key (kind_of key)) || (not (is_method k) || is_special_function (kind_of f))) (or_second (not (is_constructor_key (kind_of key))) (not (is_method k) || is_special_function (kind_of f)) accessor))) h
accessor_sound at k m _ a h p = not_true p

member_by_sound : (at : Span) (m : Node) (k : Kind) (cs : List Node) → EachThroughout Sound cs → is_member k cs ≡ true → Throughout Sound (member_by at m k cs)
member_by_sound at m (kind.ClassMethod Method before) (key ∷ f ∷ []) h p = method_by_sound at m key f before h p
member_by_sound at m (kind.ClassMethod Method before) _ h p = not_true p
member_by_sound at m (kind.ClassMethod Getter before) cs h p = accessor_sound at Getter (modified m before) cs refl h p
member_by_sound at m (kind.ClassMethod Setter before) cs h p = accessor_sound at Setter (modified m before) cs refl h p
member_by_sound at m (kind.PrivateMethod k before) cs h p = throughout at (kind.PrivateMethod k (modified m before)) p h
member_by_sound at m (kind.ClassProp before readonly declare definite) cs h p = throughout at (kind.ClassProp (modified m before) (has_word (codes "readonly") m) (has_word (codes "declare") m) definite) refl h
member_by_sound at m (kind.PrivateProp before readonly declare definite) cs h p = throughout at (kind.PrivateProp (modified m before) (has_word (codes "readonly") m) (has_word (codes "declare") m) definite) refl h
member_by_sound at m _ cs h p = not_true p

pub modified_sound : (at : Span) (xs : List Node) → Given (one good (one member_grade done)) xs → Throughout Sound (framed 2 (member at) xs)
modified_sound at [] g = absurd g
modified_sound at (a ∷ []) g = absurd g.1
modified_sound at (a ∷ n ∷ []) g = member_by_sound at a (kind_of n) (children_of n) g.1.0.0 g.1.0.1
modified_sound at (a ∷ n ∷ c ∷ cs) g = absurd g.1.1

pub signature_sound : (at : Span) (xs : List Node) → Given three xs → Throughout Sound (framed 3 (index_signature at) xs)
signature_sound at [] g = absurd g
signature_sound at (a ∷ []) g = absurd g.1
signature_sound at (a ∷ b ∷ []) g = absurd g.1.1
signature_sound at (a ∷ b ∷ c ∷ []) g = throughout at (kind.TsIndexSignature (has_word (codes "readonly") a) (has_word (codes "static") a)) refl none
signature_sound at (a ∷ b ∷ c ∷ d ∷ ds) g = absurd g.1.1.1
