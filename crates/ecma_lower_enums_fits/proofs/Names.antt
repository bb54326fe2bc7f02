-- The names that are written, and the keys: each is one of a tree that fits.
use Rattle.std.proofs.Common.{◌≡◌, ◌∙◌, ℕ, suc, Bool, true, false, not, ◌&&◌, codes, List, [], ◌∷◌, map, Option, Some, None, refl, sym, ap, subst, slice_get}
use Rattle.std.specs.Option.{option_map}
use Rattle.ecma_lex.specs.Tokens.{key}
use Rattle.ecma_kind.specs.declared.ident.Ident.{Ident}
use Rattle.ecma_kind.specs.declared.kind.Kind.{Kind}
use Rattle.ecma_kind.specs.declared.kind.Kind.TheVariants as kind
use Rattle.ecma_kind.specs.declared.span.Span.{Span}
use Rattle.ecma_tree.specs.Idents.{ident_of}
use Rattle.ecma_tree.specs.Nodes.{node_of}
use Rattle.ecma_tree.specs.declared.node.Node.{Node, Node-F, ind-Node, out-Node, roll-Node}
use Rattle.ecma_tree.specs.declared.node.Node.TheViews.{out-roll-Node, roll-out-Node}
use Rattle.ecma_leaves.specs.Words.{is_one}
use Rattle.ecma_rules.specs.Children.{child_is, is_named, kind_of, of_kind}
use Rattle.ecma_fits.specs.declared.role.Role.TheVariants as role
use Rattle.ecma_fits.specs.declared.unfit.Where.{Where}
use Rattle.ecma_fits.specs.Roles.{is_wrong_name, role_in}
use Rattle.ecma_fits.proofs.Walks.{neither}
use Rattle.ecma_enums.specs.declared.record.TsEnumRecordEntry.{TsEnumRecordEntry}
use Rattle.ecma_lower_enums.specs.declared.known.KnownEnums.{KnownEnums}
use Rattle.ecma_lower_enums.specs.Known.{alias_by, name_at, unmarked}
use Rattle.ecma_lower_enums.specs.Lowered.{known_enums}
use Rattle.ecma_lower_enums.specs.Names.{names_in}
use Rattle.ecma_lower_enums.specs.Writing.{is_enum_kind}
use Rattle.ecma_lower_enums_sources.specs.Throughout.{Each, Throughout, more, none, throughout}
use Rattle.ecma_lower_enums_sources.proofs.Names.{AreGiven, IsNamed, alias-given, enums-given}
use Rattle.ecma_lower_enums_sources.proofs.Relating.{Facts, IsKeyed}
use Rattle.ecma_lower_enums_sources.proofs.Relation.{IfN, children_of, is_part}
use Rattle.ecma_lower_enums_sources.proofs.Suiting.{no}
use Rattle.ecma_lower_enums_sources.proofs.Trees.{here}
use Rattle.ecma_lower_enums_fits.specs.Premises.{names_arguments}
use Rattle.ecma_lower_enums_fits.specs.Premises as premises
use Rattle.ecma_lower_enums_fits.proofs.Agreeing.{Pass, clauses, inside, unfit}
use Rattle.ecma_lower_enums_fits.proofs.Usable.{IsKey, IsUsable}
use Rattle.ecma_lower_enums_fits.proofs.Walks.{AllPass, passes-below, passes-here}

-- ---- identifiers

abbrev Usable : Span → Kind → Type 0
Usable span (kind.Ident text ctxt optional) = IsUsable (record { span = span; ctxt = ctxt; sym = text; optional = optional })
Usable span _ = Unit

abbrev Keyed : Kind → Type 0
Keyed (kind.Ident text ctxt optional) = IsKey text
Keyed _ = Unit

-- what holds of the nodes of a tree that fits
abbrev pub Sound : Node → Type 0
Sound n = Keyed (kind_of n) × (is_part (kind_of n) ≡ true → IsNamed Usable (name_at (children_of n)))

abbrev pub Unnamed : Node → Type 0
Unnamed n = names_arguments n ≡ false

not-false : (b : Bool) → not b ≡ false → b ≡ true
not-false true h = refl
not-false false h = no (sym h)

key-of : (w : Where) (k : Kind) (n : Node) → unfit w k n ≡ false → Keyed k
key-of w (kind.Ident text ctxt optional) n h = not-false (is_one key text) (clauses w (kind.Ident text ctxt optional) n h).leaves
key-of w _ n h = tt

-- one that stands where an expression may
usable-of : (w : Where) (span : Span) (k : Kind) (n : Node) → w.role ≡ role.Free → is_named (codes "arguments") k ≡ false → unfit w k n ≡ false → Usable span k
usable-of w span (kind.Ident text ctxt optional) n r a h = record {
  key = key-of w (kind.Ident text ctxt optional) n h;
  unreserved = sym (ap (λ z. is_wrong_name z (kind.Ident text ctxt optional)) r) ∙ (neither (is_wrong_name w.role (kind.Ident text ctxt optional)) _ (clauses w (kind.Ident text ctxt optional) n h).roles).0;
  other = a;
}
usable-of w span _ n r a h = tt

named-roll : (span : Span) (k : Kind) (cs : List Node) → Usable span k → IsNamed Usable (option_map unmarked (ident_of (node_of span k cs)))
named-roll span (kind.Ident text ctxt optional) cs h =
    let name : Ident = record { span = span; ctxt = ctxt; sym = text; optional = optional } in
    let is : ident_of (node_of span (kind.Ident text ctxt optional) cs) ≡ Some name = rw (out-roll-Node (record { span = span; kind = kind.Ident text ctxt optional; children = cs })) refl in
    subst (λ z. IsNamed Usable (option_map unmarked z)) (sym is) (record { key = h.key; unreserved = h.unreserved; other = h.other })
named-roll span k cs h =
    let is : ident_of (node_of span k cs) ≡ None = rw (out-roll-Node (record { span = span; kind = k; children = cs })) refl in
    subst (λ z. IsNamed Usable (option_map unmarked z)) (sym is) tt

named-of : (n : Node) → Usable (out-Node n).span (kind_of n) → IsNamed Usable (option_map unmarked (ident_of n))
named-of n h = subst (λ z. IsNamed Usable (option_map unmarked (ident_of z))) (roll-out-Node n) (named-roll (out-Node n).span (kind_of n) (children_of n) h)

-- ---- names of enums and namespaces

part-free : (w : Where) (k : Kind) (n : Node) (i : ℕ) → is_part k ≡ true → (inside w k n i).role ≡ role.Free
unfolding role_in
part-free w (kind.TsEnumDecl declare is_const) n i h = refl
part-free w (kind.TsModuleDecl declare global) n i h = refl
part-free w (kind.TsNamespaceDecl declare global) n i h = refl
part-free w _ n i h = no h

same-part : (k : Kind) → is_part k ≡ true → premises.is_part k ≡ true
same-part (kind.TsEnumDecl declare is_const) h = refl
same-part (kind.TsModuleDecl declare global) h = refl
same-part (kind.TsNamespaceDecl declare global) h = refl
same-part _ h = no h

first-named : (f : ℕ → Where) (cs : List Node) → (f 0).role ≡ role.Free → of_kind (is_named (codes "arguments")) (slice_get cs 0) ≡ false → AllPass Where unfit inside f cs → IsNamed Usable (name_at cs)
first-named f [] r a h = tt
first-named f (c ∷ cs) r a h = named-of c (usable-of (f 0) (out-Node c).span (kind_of c) c r a (passes-here Where unfit inside (f 0) c h.0))

name-of : (w : Where) (n : Node) → Pass w n → Unnamed n → is_part (kind_of n) ≡ true → IsNamed Usable (name_at (children_of n))
name-of w n h a is =
    first-named (λ i. inside w (kind_of n) n i) (children_of n) (part-free w (kind_of n) n 0 is)
    (sym (ap (λ z. z && child_is (is_named (codes "arguments")) n 0) (same-part (kind_of n) is)) ∙ a) (passes-below Where unfit inside w n h)

-- ---- trees

abbrev Given : Node → Type 0
Given n = (w : Where) → Pass w n → Throughout Unnamed n → Throughout Sound n

abbrev AllGiven : List Node → Type 0
AllGiven ns = (f : ℕ → Where) → AllPass Where unfit inside f ns → Each Unnamed ns → Each Sound ns

all-given : (es : List ((n : Node) × Given n)) → AllGiven (map (λ e. e.0) es)
all-given [] f h g = none
all-given (e ∷ es) f h (more a g) = more (e.1 (f 0) h.0 a) (all-given es (λ i. f (suc i)) h.1 g)

node-given : (n : Node) → AllGiven (children_of n) → Given n
node-given n all w h (throughout a g) =
    throughout (key-of w (kind_of n) n (passes-here Where unfit inside w n h), name-of w n h a) (all (λ i. inside w (kind_of n) n i) (passes-below Where unfit inside w n h) g)

pub sound : (n : Node) → Given n
sound = ind-Node Given (λ x y is.
    node-given (roll-Node x) (subst AllGiven (ap (λ (z : Node-F Node). z.children) is ∙ sym (ap (λ (z : Node-F Node). z.children) (out-roll-Node x))) (all-given y.children)))

-- ---- what is known of the names that are written

module _ (may_change keeps_constants : Bool) (members : List TsEnumRecordEntry) (tree : Node) (h : Throughout Sound tree) where
  abbrev enums : KnownEnums
  enums = known_enums may_change keeps_constants members tree

  as-names : (o : Option Ident) → IsNamed Usable o → IfN enums IsUsable IsKey o
  as-names None h = tt
  as-names (Some of) h = h

  as-keys : (span : Span) (k : Kind) → Keyed k → IsKeyed enums IsUsable IsKey Sound span k
  as-keys span (kind.Ident text ctxt optional) h = h
  as-keys span _ h = tt

  enum-part : (k : Kind) → is_enum_kind k ≡ true → is_part k ≡ true
  enum-part (kind.TsEnumDecl declare is_const) h = refl
  enum-part _ h = no h

  given : AreGiven Usable (names_in tree)
  given = enums-given Usable Sound (λ n t e. (here Sound t).1 (enum-part (kind_of n) e)) h

  pub facts : Facts enums IsUsable IsKey Sound
  facts = record {
    idents = λ n q. as-keys (out-Node n).span (kind_of n) q.0;
    parts = λ n q is. as-names (name_at (children_of n)) (q.1 is);
    aliases = λ text ctxt. as-names (alias_by text ctxt enums.names) (alias-given Usable text ctxt (names_in tree) given);
  }
