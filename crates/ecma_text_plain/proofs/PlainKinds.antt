-- The kinds that a reader of plain modules gives, and what of a node's parts keeps it one of them: a flag that is missing, modifiers that are all `static`.
use Rattle.std.proofs.Common.{◌≡◌, ℕ, zero, suc, Bool, true, false, not, ◌&&◌, ◌||◌, List, [], ◌∷◌, bytes_eq, codes, refl, sym, ap, subst, Some, None}
use Rattle.std.specs.Prelude.{is_some}
use Rattle.std.specs.List.{list_any}
use Rattle.std.specs.Str.{IsUtf8}
use Rattle.std.proofs.lemmas.Bool.{and_parts}
use Rattle.ecma_kind.specs.declared.kind.Kind.{Kind}
use Rattle.ecma_kind.specs.declared.kind.Kind.TheVariants as kind
use Rattle.ecma_kind.specs.declared.operators.MethodKind.{MethodKind}
use Rattle.ecma_kind.specs.declared.operators.MemberModifiers.{MemberModifiers}
use Rattle.ecma_tree.specs.declared.node.Node.{Node}
use Rattle.ecma_tree.specs.Nodes.{absent, dummy_span}
use Rattle.ecma_grammar.specs.trees.Parts.{children_of, is_absent, is_absent_kind, is_present, kind_of}
use Rattle.ecma_grammar.specs.trees.Functions.{accessibility_of, has_word, is_word_kind, questioned_kind}
use Rattle.ecma_grammar.specs.trees.Classes.{modified}
use Rattle.ecma_grammar.specs.trees.Others.{text_of}
use Rattle.ecma_text_leaves.specs.Everywhere.{Each, Everywhere, everywhere, more, none}
use Rattle.ecma_text_leaves.proofs.Trees.{kind_made}
use Rattle.ecma_raw_roles.proofs.Walks.{not_true}
use Rattle.ecma_text_plain.specs.Assignments.{is_assignment_form}
use Rattle.ecma_plain.specs.Forms.{IsBare, has_type_modifiers, is_of_forms}
use Rattle.ecma_plain.specs.Items.{HasUtf8Hashbang}
use Rattle.ecma_fits.proofs.Walks.{neither}

-- no TypeScript but, where they may stand, the assignment forms
abbrev pub is_plain_kind : Bool → Kind → Bool
is_plain_kind assignments k = is_of_forms k && (not (is_assignment_form k) || assignments)

-- its texts are those of a bare leaf, or UTF-8 behind `#!`
abbrev pub IsRead : Kind → Type 0
IsRead (kind.Module (Some text)) = IsUtf8 text
IsRead k = IsBare k

abbrev pub IsPlain : Bool → Kind → Type 0
IsPlain assignments k = IsRead k × (is_plain_kind assignments k ≡ true)

pub bare_of : (k : Kind) → IsRead k → IsBare k
bare_of (kind.Module shebang) p = tt
bare_of _ p = p

pub hashbang_utf8 : (k : Kind) → IsRead k → HasUtf8Hashbang k
hashbang_utf8 (kind.Module (Some text)) p = p
hashbang_utf8 (kind.Module None) p = tt
hashbang_utf8 _ p = tt

-- a module with this hashbang
pub hashbang_read : (k : Kind) → IsRead k → IsRead (kind.Module (text_of k))
hashbang_read (kind.IdentName text) p = p
hashbang_read _ p = tt

-- without a `?` it stays one
pub unquestioned : (assignments : Bool) (k : Kind) → IsPlain assignments k → IsPlain assignments (questioned_kind false k)
unquestioned assignments (kind.Ident text ctxt before) p = let b = p.0 in ((b.0, b.1, refl), refl)
unquestioned assignments (kind.ArrayPat before) p = (tt, refl)
unquestioned assignments (kind.ObjectPat before) p = (tt, refl)
unquestioned assignments _ p = p

-- missing nodes

pub absent_is : is_absent absent ≡ true
absent_is = ap is_absent_kind (kind_made dummy_span kind.Absent [])

pub is_missing : (n : Node) → n ≡ absent → is_absent n ≡ true
is_missing n e = subst (λ (m : Node). is_absent m ≡ true) (sym e) absent_is

pub not_present : (n : Node) → n ≡ absent → is_present n ≡ false
not_present n e = ap not (is_missing n e)

-- where there are so many, the node at an index is missing
abbrev pub AbsentAt : ℕ → List Node → Type 0
AbsentAt i [] = Unit {0}
AbsentAt zero (x ∷ xs) = x ≡ absent
AbsentAt (suc i) (x ∷ xs) = AbsentAt i xs

-- modifiers

abbrev pub IsStatic : Node → Type 0
IsStatic n = kind_of n ≡ kind.IdentName (codes "static")

abbrev pub AllStatic : List Node → Type 0
AllStatic [] = Unit {0}
AllStatic (x ∷ xs) = IsStatic x × AllStatic xs

no_word : (w : List ℕ) → bytes_eq (codes "static") w ≡ false → (xs : List Node) → AllStatic xs → list_any (λ m. is_word_kind w (kind_of m)) xs ≡ false
no_word w e [] h = refl
no_word w e (x ∷ xs) h =
    let here : is_word_kind w (kind_of x) ≡ false = subst (λ (k : Kind). is_word_kind w k ≡ false) (sym h.0) e in
    let behind = no_word w e xs h.1 in
    rw (here, behind) refl

pub word_missing : (m : Node) → AllStatic (children_of m) → (w : List ℕ) → bytes_eq (codes "static") w ≡ false → has_word w m ≡ false
word_missing m h w e = no_word w e (children_of m) h

pub unaccessible : (m : Node) → AllStatic (children_of m) → is_some (accessibility_of m) ≡ false
unaccessible m h =
    let a = word_missing m h (codes "public") refl in
    let b = word_missing m h (codes "protected") refl in
    let c = word_missing m h (codes "private") refl in
    rw (a, b, c) refl

pub four_false : (a b c d : Bool) → a ≡ false → b ≡ false → c ≡ false → d ≡ false → (a || (b || (c || d))) ≡ false
four_false a b c d e f g h = rw (e, f, g, h) refl

pub not_optional : (before : MemberModifiers) → has_type_modifiers before ≡ false → before.is_optional ≡ false
not_optional before e =
    let a = neither (is_some before.accessibility) _ e in
    let b = neither before.is_abstract _ a.1 in
    (neither before.is_optional before.is_override b.1).0

pub modified_plain : (m : Node) → AllStatic (children_of m) → (before : MemberModifiers) → has_type_modifiers before ≡ false → has_type_modifiers (modified m before) ≡ false
modified_plain m h before e =
    four_false (is_some (accessibility_of m)) (has_word (codes "abstract") m) before.is_optional (has_word (codes "override") m)
    (unaccessible m h) (word_missing m h (codes "abstract") refl) (not_optional before e) (word_missing m h (codes "override") refl)

pub unless_so : (b : Bool) → (not b && true) ≡ true → b ≡ false
unless_so true h = not_true h
unless_so false h = refl

module _ (assignments : Bool) where
  pub method_plain : (k : MethodKind) (modifiers : MemberModifiers) → has_type_modifiers modifiers ≡ false → IsPlain assignments (kind.ClassMethod k modifiers)
  method_plain k modifiers e = (tt, ap (λ b. not b && true) e)

  pub private_method_plain : (k : MethodKind) (modifiers : MemberModifiers) → has_type_modifiers modifiers ≡ false → IsPlain assignments (kind.PrivateMethod k modifiers)
  private_method_plain k modifiers e = (tt, ap (λ b. not b && true) e)

  pub field_plain : (modifiers : MemberModifiers) (readonly declare definite : Bool) → has_type_modifiers modifiers ≡ false → readonly ≡ false → declare ≡ false → definite ≡ false
      → IsPlain assignments (kind.ClassProp modifiers readonly declare definite)
  field_plain modifiers readonly declare definite e f g h = (tt, ap (λ b. not b && true) (four_false (has_type_modifiers modifiers) readonly declare definite e f g h))

  pub private_field_plain : (modifiers : MemberModifiers) (readonly declare definite : Bool) → has_type_modifiers modifiers ≡ false → readonly ≡ false → declare ≡ false → definite ≡ false
      → IsPlain assignments (kind.PrivateProp modifiers readonly declare definite)
  private_field_plain modifiers readonly declare definite e f g h = (tt, ap (λ b. not b && true) (four_false (has_type_modifiers modifiers) readonly declare definite e f g h))

-- the first of some nodes holds modifiers that are all `static`
abbrev pub StaticFirst : List Node → Type 0
StaticFirst [] = Unit {0}
StaticFirst (x ∷ xs) = AllStatic (children_of x)

pub constructor_unmodified : (m : Node) (before : MemberModifiers) → AllStatic (children_of m) → has_type_modifiers before ≡ false → (is_some (accessibility_of m) || before.is_optional) ≡ false
constructor_unmodified m before s e = let a = unaccessible m s in let o = not_optional before e in rw (a, o) refl

pub field_was : (before : MemberModifiers) (readonly declare definite : Bool) → (not (has_type_modifiers before || (readonly || (declare || definite))) && true) ≡ true → (has_type_modifiers before ≡ false) × (definite ≡ false)
field_was before readonly declare definite h =
    let a = neither (has_type_modifiers before) _ (unless_so (has_type_modifiers before || (readonly || (declare || definite))) h) in
    let b = neither readonly (declare || definite) a.1 in
    (a.0, (neither declare definite b.1).1)

-- what holds of all kinds of which something holds

module _ (P Q : Kind → Type 0) (also : (k : Kind) → P k → Q k) where
  mutual
    pub everywhere_also : {n : Node} → Everywhere P n → Everywhere Q n
    everywhere_also (everywhere at k p h) = everywhere at k (also k p) (each_also h)

    each_also : {ns : List Node} → Each P ns → Each Q ns
    each_also none = none
    each_also (more a h) = more (everywhere_also a) (each_also h)

-- where the assignment forms may not stand, they do not where they may
pub allowed : (assignments : Bool) (k : Kind) → IsPlain false k → IsPlain assignments k
allowed assignments k p =
    let both = and_parts (is_of_forms k) (not (is_assignment_form k) || false) p.1 in
    let form = both.0 in
    let other = also_so (not (is_assignment_form k)) both.1 in
    (p.0, rw (form, other) refl)
  where
    also_so : (b : Bool) → (b || false) ≡ true → (b || assignments) ≡ true
    also_so true h = refl
    also_so false h = not_true h
