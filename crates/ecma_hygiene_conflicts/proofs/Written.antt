-- A shorthand that is written out declares nothing again where its parts do not.
use Rattle.std.proofs.Common.{◌≡◌, ℕ, Bool, true, false, ◌&&◌, cond, List, [], ◌∷◌, ◌++◌, map, Option, Some, None, bytes_eq, refl, sym, ap, ap₂, ◌∙◌}
use Rattle.ecma_kind.specs.declared.kind.Kind.{Kind}
use Rattle.ecma_kind.specs.declared.kind.Kind.TheVariants as kind
use Rattle.ecma_kind.specs.declared.span.Span.{Span}
use Rattle.ecma_tree.specs.Nodes.{node_of}
use Rattle.ecma_tree.specs.declared.node.Node.{Node, out-Node}
use Rattle.ecma_scope.specs.declared.role.Role.TheVariants as role
use Rattle.ecma_scope.specs.Conflicts.{Surrounding, clashes_in, clashing, meeting, own_clashes, redeclared_at, surrounds}
use Rattle.ecma_scope.specs.Declarations.{names, stated}
use Rattle.ecma_scope.specs.Scopes.{covers, is_there, opens_by, role_by}
use Rattle.ecma_scope.proofs.Clashing.{redeclared_at-out}
use Rattle.ecma_hygiene.specs.Renamed.{key_of, kind_is_absent, name_of, property_key, proto, proto_in_brackets, proto_literal, two_names, with_default}
use Rattle.ecma_hygiene_scopes.proofs.Growing.{OldName, grown, grown_by, grown_pattern}
use Rattle.ecma_hygiene_scopes.proofs.Parts.{children-of, kind-of}
use Rattle.ecma_strip_conflicts.proofs.Quiet.{both-none, first-none, second-none}

abbrev below : Surrounding → Span → Kind → List Node → List (List ℕ)
below t span k cs = clashes_in (surrounds t (node_of span k cs)) 0 (map redeclared_at cs)

parts-of : (t : Surrounding) (span : Span) (k : Kind) (cs : List Node) → redeclared_at (node_of span k cs) t ≡ own_clashes t (node_of span k cs) ++ below t span k cs
parts-of t span k cs =
    redeclared_at-out (node_of span k cs) t
    ∙ ap (λ (ns : List Node). own_clashes t (node_of span k cs) ++ clashes_in (surrounds t (node_of span k cs)) 0 (map redeclared_at ns)) (children-of span k cs)

-- what stands around the children of a node that opens no scope
abbrev within : Surrounding → Kind → List Node → ℕ → Surrounding
within t k cs i = record { role = role_by t.role k (is_there cs 1) i; around = t.around }

shut-opens : (t : Surrounding) (span : Span) (k : Kind) (cs : List Node) → opens_by t.role k (is_there cs 0) ≡ false → opens_by t.role (out-Node (node_of span k cs)).kind (is_there (out-Node (node_of span k cs)).children 0) ≡ false
shut-opens t span k cs shut = ap₂ (λ (z : Kind) (zs : List Node). opens_by t.role z (is_there zs 0)) (kind-of span k cs) (children-of span k cs) ∙ shut

shut-around : (t : Surrounding) (span : Span) (k : Kind) (cs : List Node) → opens_by t.role k (is_there cs 0) ≡ false → (i : ℕ) → surrounds t (node_of span k cs) i ≡ within t k cs i
shut-around t span k cs shut i =
    let n : Node = node_of span k cs in
    let opened = shut-opens t span k cs shut in
    (λ j. record {
      role = role_by t.role (kind-of span k cs j) (is_there (children-of span k cs j) 1) i;
      around = cond (opened j && covers t.role (out-Node n).kind i) (stated (names t.role t.around n)) t.around;
    })

shut-below : (t : Surrounding) (span : Span) (k : Kind) (cs : List Node) → opens_by t.role k (is_there cs 0) ≡ false → below t span k cs ≡ clashes_in (within t k cs) 0 (map redeclared_at cs)
shut-below t span k cs shut = (λ j. clashes_in (λ i. shut-around t span k cs shut i j) 0 (map redeclared_at cs))

shut-of : (t : Surrounding) (span : Span) (k : Kind) (cs : List Node) → opens_by t.role k (is_there cs 0) ≡ false → redeclared_at (node_of span k cs) t ≡ clashes_in (within t k cs) 0 (map redeclared_at cs)
shut-of t span k cs shut =
    let n : Node = node_of span k cs in
    parts-of t span k cs
    ∙ (λ j. cond (shut-opens t span k cs shut j) (clashing t.role t.around [] (meeting t.role t.around n)) [] ++ shut-below t span k cs shut j)

abbrev plain : Surrounding → Surrounding
plain t = record { role = role.Plain; around = t.around }

key-quiet : (t : Surrounding) (old : OldName) → redeclared_at (key_of old) t ≡ []
unfolding opens_by
key-quiet t old = shut-of t old.span (kind.IdentName old.text) [] refl

brackets-quiet : (t : Surrounding) (span : Span) → redeclared_at (proto_in_brackets span) t ≡ []
unfolding opens_by role_by
brackets-quiet t span =
    shut-of t span kind.ComputedPropName (node_of span proto_literal [] ∷ []) refl
    ∙ both-none (redeclared_at (node_of span proto_literal []) (plain t)) [] (shut-of (plain t) span proto_literal [] refl) refl

key-quiet-by : (b : Bool) (t : Surrounding) (old : OldName) → redeclared_at (cond b (proto_in_brackets old.span) (key_of old)) t ≡ []
key-quiet-by true t old = brackets-quiet t old.span
key-quiet-by false t old = key-quiet t old

property-key-quiet : (t : Surrounding) (old : OldName) → redeclared_at (property_key old) t ≡ []
property-key-quiet t old = key-quiet-by (bytes_eq old.text proto) t old

name-quiet : (t : Surrounding) (old : OldName) → redeclared_at (name_of old) t ≡ []
unfolding opens_by
name-quiet t old = shut-of t old.span (kind.Ident old.text 0 false) [] refl

names-clear : (f : ℕ → Surrounding) (old : OldName) (cs : List Node) → clashes_in f 0 (map redeclared_at cs) ≡ [] → clashes_in f 0 (map redeclared_at (two_names old cs)) ≡ []
names-clear f old [] h = h
names-clear f old (a ∷ []) h = h
names-clear f old (a ∷ b ∷ []) h =
    both-none (redeclared_at a (f 0)) (redeclared_at (name_of old) (f 1) ++ []) (first-none (redeclared_at a (f 0)) (redeclared_at b (f 1) ++ []) h)
    (both-none (redeclared_at (name_of old) (f 1)) [] (name-quiet (f 1) old) refl)
names-clear f old (a ∷ b ∷ c ∷ cs) h = h

default-clear : (t : Surrounding) (span : Span) (a v : Node) (b : Bool) → redeclared_at a (plain t) ≡ [] → redeclared_at v (plain t) ≡ [] → redeclared_at (cond b a (node_of span kind.AssignPat (a ∷ v ∷ []))) (plain t) ≡ []
unfolding opens_by role_by
default-clear t span a v true first second = first
default-clear t span a v false first second =
    shut-of (plain t) span kind.AssignPat (a ∷ v ∷ []) refl
    ∙ both-none (redeclared_at a (plain t)) (redeclared_at v (plain t) ++ []) first (both-none (redeclared_at v (plain t)) [] second refl)

pattern-clear : (t : Surrounding) (old : OldName) (span : Span) (cs : List Node) → redeclared_at (node_of span kind.AssignPatProp cs) t ≡ [] → redeclared_at (grown_pattern old span cs) t ≡ []
unfolding opens_by role_by
pattern-clear t old span [] h = h
pattern-clear t old span (a ∷ []) h = h
pattern-clear t old span (a ∷ v ∷ []) h =
    let both : redeclared_at a (plain t) ++ (redeclared_at v (plain t) ++ []) ≡ [] = sym (shut-of t span kind.AssignPatProp (a ∷ v ∷ []) refl) ∙ h in
    let first : redeclared_at a (plain t) ≡ [] = first-none (redeclared_at a (plain t)) (redeclared_at v (plain t) ++ []) both in
    let second : redeclared_at v (plain t) ≡ [] = first-none (redeclared_at v (plain t)) [] (second-none (redeclared_at a (plain t)) (redeclared_at v (plain t) ++ []) both) in
    shut-of t span kind.KeyValuePatProp (key_of old ∷ with_default span a v ∷ []) refl
    ∙ both-none (redeclared_at (key_of old) (plain t)) (redeclared_at (with_default span a v) (plain t) ++ []) (key-quiet (plain t) old)
    (both-none (redeclared_at (with_default span a v) (plain t)) [] (default-clear t span a v (kind_is_absent v) first second) refl)
pattern-clear t old span (a ∷ b ∷ c ∷ cs) h = h

by-clear : (t : Surrounding) (old : OldName) (span : Span) (k : Kind) (cs : List Node) → redeclared_at (node_of span k cs) t ≡ [] → redeclared_at (grown_by old span k cs) t ≡ []
unfolding opens_by role_by
by-clear t old span (kind.Ident s c o) cs h =
    let id : Node = node_of span (kind.Ident s c o) cs in
    shut-of t span kind.KeyValueProp (property_key old ∷ id ∷ []) refl
    ∙ both-none (redeclared_at (property_key old) (plain t)) (redeclared_at id (plain t) ++ []) (property-key-quiet (plain t) old)
    (both-none (redeclared_at id (plain t)) [] (shut-of (plain t) span (kind.Ident s c o) cs refl ∙ sym (shut-of t span (kind.Ident s c o) cs refl) ∙ h) refl)
by-clear t old span (kind.ImportNamedSpecifier y) cs h =
    shut-of t span (kind.ImportNamedSpecifier y) (two_names old cs) refl
    ∙ names-clear (within t (kind.ImportNamedSpecifier y) cs) old cs (sym (shut-of t span (kind.ImportNamedSpecifier y) cs refl) ∙ h)
by-clear t old span (kind.ExportNamedSpecifier y) cs h =
    shut-of t span (kind.ExportNamedSpecifier y) (two_names old cs) refl
    ∙ names-clear (within t (kind.ExportNamedSpecifier y) cs) old cs (sym (shut-of t span (kind.ExportNamedSpecifier y) cs refl) ∙ h)
by-clear t old span kind.AssignPatProp cs h = pattern-clear t old span cs h
by-clear t old span k cs h = h

pub grown-clear : (t : Surrounding) (o : Option OldName) (span : Span) (k : Kind) (cs : List Node) → own_clashes t (node_of span k cs) ≡ [] → clashes_in (surrounds t (node_of span k cs)) 0 (map redeclared_at cs) ≡ []
    → redeclared_at (grown o span k cs) t ≡ []
grown-clear t None span k cs own inner = parts-of t span k cs ∙ both-none (own_clashes t (node_of span k cs)) (below t span k cs) own inner
grown-clear t (Some old) span k cs own inner =
    by-clear t old span k cs (parts-of t span k cs ∙ both-none (own_clashes t (node_of span k cs)) (below t span k cs) own inner)
