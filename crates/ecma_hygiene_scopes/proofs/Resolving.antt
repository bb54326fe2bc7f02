-- A shorthand that is written out is resolved as the shorthand is.
use Rattle.std.proofs.Common.{◌≡◌, ℕ, ◌+◌, ◌-◌, Bool, true, false, ◌&&◌, not, cond, List, [], ◌∷◌, ◌++◌, map, Option, Some, None, bytes_eq, refl, sym, ap, ap₂, ◌∙◌, arith}
use Rattle.ecma_kind.specs.declared.kind.Kind.{Kind}
use Rattle.ecma_kind.specs.declared.kind.Kind.TheVariants as kind
use Rattle.ecma_kind.specs.declared.span.Span.{Span}
use Rattle.ecma_tree.specs.declared.node.Node.{Node, Node-F, out-Node}
use Rattle.ecma_tree.specs.declared.node.Node.TheViews.{out-roll-Node}
use Rattle.ecma_tree.specs.Nodes.{node_of}
use Rattle.ecma_tree.specs.Sorted.{is_absent}
use Rattle.ecma_scope.specs.declared.role.Role.{Role}
use Rattle.ecma_scope.specs.declared.role.Role.TheVariants as role
use Rattle.ecma_scope.specs.Resolved.{Place, context_in, inside, is_name, kind_at, placed, resolved_at, scope_at, taken, context_count, counted}
use Rattle.ecma_scope.specs.Scopes.{covers, is_root, is_there, of_specifier, opens_by, role_by}
use Rattle.ecma_scope.proofs.Opening.{context_count-out, resolved_at-out}
use Rattle.ecma_hygiene.specs.Renamed.{key_of, kind_is_absent, name_of, property_key, proto, proto_in_brackets, proto_literal, two_names, with_default}
use Rattle.ecma_hygiene_scopes.proofs.Declaring.{is_ident}
use Rattle.ecma_hygiene_scopes.proofs.Growing.{OldName, grown, grown_by, grown_pattern}
use Rattle.ecma_hygiene_scopes.proofs.Parts.{children-of, kind-of, parts_of}

none-less : (n : ℕ) → n - 0 ≡ n
none-less n = omega arith

-- ---- how many contexts a node of these parts takes

pub taken-of : (r : Role) (span : Span) (k : Kind) (cs : List Node) → taken r (node_of span k cs) ≡ cond (opens_by r k (is_there cs 0) && not (is_root r)) 1 0
taken-of r span k cs = ap₂ (λ (z : Kind) (zs : List Node). cond (opens_by r z (is_there zs 0) && not (is_root r)) 1 0) (kind-of span k cs) (children-of span k cs)

abbrev pub count_by : Role → Kind → List Node → ℕ
count_by r k cs = cond (opens_by r k (is_there cs 0) && not (is_root r)) 1 0 + counted (λ i. role_by r k (is_there cs 1) i) 0 (map context_count cs)

pub count-of : (r : Role) (span : Span) (k : Kind) (cs : List Node) → context_count (node_of span k cs) r ≡ count_by r k cs
count-of r span k cs =
    context_count-out (node_of span k cs) r
    ∙ ap₂ (λ (a b : ℕ). a + b) (taken-of r span k cs) (ap₂ (λ (z : Kind) (zs : List Node). counted (λ i. role_by r z (is_there zs 1) i) 0 (map context_count zs)) (kind-of span k cs) (children-of span k cs))

-- what is not there takes none
abbrev pub AbsentTakesNone : List Node → Type 0
AbsentTakesNone [] = Unit {0}
AbsentTakesNone (x ∷ xs) = (kind_is_absent x ≡ true → (r : Role) → context_count x r ≡ 0) × AbsentTakesNone xs

-- the second name of a specifier is not there
abbrev pub SecondAbsent : List Node → Type 0
SecondAbsent (a ∷ b ∷ []) = kind_is_absent b ≡ true
SecondAbsent _ = Unit {0}

abbrev pub is_specifier : Kind → Bool
is_specifier (kind.ImportNamedSpecifier t) = true
is_specifier (kind.ExportNamedSpecifier t) = true
is_specifier _ = false

leaf-none : (r : Role) (old : OldName) → context_count (name_of old) r ≡ 0
unfolding opens_by
leaf-none r old = count-of r old.span (kind.Ident old.text 0 false) []

key-none : (r : Role) (old : OldName) → context_count (key_of old) r ≡ 0
unfolding opens_by
key-none r old = count-of r old.span (kind.IdentName old.text) []

brackets-none : (r : Role) (span : Span) → context_count (proto_in_brackets span) r ≡ 0
unfolding opens_by role_by
brackets-none r span =
    count-of r span kind.ComputedPropName (node_of span proto_literal [] ∷ [])
    ∙ ap (λ (n : ℕ). 0 + (n + 0)) (count-of role.Plain span proto_literal [])

key-none-by : (b : Bool) (r : Role) (old : OldName) → context_count (cond b (proto_in_brackets old.span) (key_of old)) r ≡ 0
key-none-by true r old = brackets-none r old.span
key-none-by false r old = key-none r old

property-key-none : (r : Role) (old : OldName) → context_count (property_key old) r ≡ 0
property-key-none r old = key-none-by (bytes_eq old.text proto) r old

names-count : (role_of : ℕ → Role) (old : OldName) (cs : List Node) → AbsentTakesNone cs → SecondAbsent cs → counted role_of 0 (map context_count (two_names old cs)) ≡ counted role_of 0 (map context_count cs)
names-count role_of old [] none second = refl
names-count role_of old (a ∷ []) none second = refl
names-count role_of old (a ∷ b ∷ []) none second = ap (λ (n : ℕ). context_count a (role_of 0) + (n + 0)) (leaf-none (role_of 1) old ∙ sym (none.1.0 second (role_of 1)))
names-count role_of old (a ∷ b ∷ c ∷ cs) none second = refl

default-count : (t : Bool) (span : Span) (a v : Node) → (t ≡ true → (r : Role) → context_count v r ≡ 0)
    → context_count (cond t a (node_of span kind.AssignPat (a ∷ v ∷ []))) role.Plain ≡ context_count a role.Plain + context_count v role.Plain
unfolding opens_by role_by
default-count true span a v none =
    let zero_here = none refl role.Plain in
    omega arith
default-count false span a v none =
    let all : context_count (node_of span kind.AssignPat (a ∷ v ∷ [])) role.Plain ≡ 0 + (context_count a role.Plain + (context_count v role.Plain + 0)) = count-of role.Plain span kind.AssignPat (a ∷ v ∷ []) in
    omega arith

pattern-count : (r : Role) (old : OldName) (span : Span) (cs : List Node) → AbsentTakesNone cs → context_count (grown_pattern old span cs) r ≡ count_by r kind.AssignPatProp cs
unfolding opens_by role_by
pattern-count r old span [] none = count-of r span kind.AssignPatProp []
pattern-count r old span (a ∷ []) none = count-of r span kind.AssignPatProp (a ∷ [])
pattern-count r old span (a ∷ v ∷ []) none =
    let all : context_count (node_of span kind.KeyValuePatProp (key_of old ∷ with_default span a v ∷ [])) r ≡ 0 + (context_count (key_of old) role.Plain + (context_count (with_default span a v) role.Plain + 0)) =
    count-of r span kind.KeyValuePatProp (key_of old ∷ with_default span a v ∷ []) in
    let key = key-none role.Plain old in
    let value = default-count (kind_is_absent v) span a v none.1.0 in
    let whole : context_count (node_of span kind.KeyValuePatProp (key_of old ∷ with_default span a v ∷ [])) r ≡ 0 + (context_count a role.Plain + (context_count v role.Plain + 0)) = omega arith in
    whole
pattern-count r old span (a ∷ v ∷ c ∷ cs) none = count-of r span kind.AssignPatProp (a ∷ v ∷ c ∷ cs)

by-count : (r : Role) (old : OldName) (span : Span) (k : Kind) (cs : List Node) → AbsentTakesNone cs → (is_specifier k ≡ true → SecondAbsent cs) → context_count (grown_by old span k cs) r ≡ count_by r k cs
unfolding opens_by role_by
by-count r old span (kind.Ident s c o) cs none second =
    let idn : Node = node_of span (kind.Ident s c o) cs in
    let all : context_count (node_of span kind.KeyValueProp (property_key old ∷ idn ∷ [])) r ≡ 0 + (context_count (property_key old) role.Plain + (context_count idn role.Plain + 0)) =
    count-of r span kind.KeyValueProp (property_key old ∷ idn ∷ []) in
    let key = property-key-none role.Plain old in
    let own : context_count idn role.Plain ≡ 0 + counted (λ i. role.Plain) 0 (map context_count cs) = count-of role.Plain span (kind.Ident s c o) cs in
    let whole : context_count (node_of span kind.KeyValueProp (property_key old ∷ idn ∷ [])) r ≡ 0 + counted (λ i. role.Plain) 0 (map context_count cs) = omega arith in
    whole
by-count r old span (kind.ImportNamedSpecifier t) cs none second =
    count-of r span (kind.ImportNamedSpecifier t) (two_names old cs)
    ∙ ap (λ (n : ℕ). 0 + n) (names-count (λ i. role_by r (kind.ImportNamedSpecifier t) false i) old cs none (second refl))
by-count r old span (kind.ExportNamedSpecifier t) cs none second =
    count-of r span (kind.ExportNamedSpecifier t) (two_names old cs)
    ∙ ap (λ (n : ℕ). 0 + n) (names-count (λ i. role_by r (kind.ExportNamedSpecifier t) false i) old cs none (second refl))
by-count r old span kind.AssignPatProp cs none second = pattern-count r old span cs none
by-count r old span k cs none second = count-of r span k cs

pub grown-count : (r : Role) (o : Option OldName) (span : Span) (k : Kind) (cs : List Node) → AbsentTakesNone cs → ((old : OldName) → o ≡ Some old → is_specifier k ≡ true → SecondAbsent cs)
    → context_count (grown o span k cs) r ≡ count_by r k cs
grown-count r (Some old) span k cs none second = by-count r old span k cs none (second old refl)
grown-count r None span k cs none second = count-of r span k cs

-- ---- what becomes of a node of these parts

module _ (unresolved top : ℕ) where
  abbrev res : Node → Place → ℕ → Node
  res = resolved_at unresolved top

  abbrev pub below : Place → Span → Kind → List Node → ℕ → List Node
  below place span k cs left = placed (inside top place (node_of span k cs) left) 0 cs (map (resolved_at unresolved top) cs) (left - taken place.role (node_of span k cs))

  pub resolved-of : (span : Span) (k : Kind) (cs : List Node) (place : Place) (left : ℕ)
      → resolved_at unresolved top (node_of span k cs) place left ≡ node_of span (kind_at unresolved place k) (below place span k cs left)
  resolved-of span k cs place left =
      let n : Node = node_of span k cs in
      resolved_at-out unresolved top n place left
      ∙ ap (λ (z : Node-F Node). node_of z.span (kind_at unresolved place z.kind) (placed (inside top place n left) 0 z.children (map (resolved_at unresolved top) z.children) (left - taken place.role n))) (out-roll-Node (parts_of span k cs))

  -- the places of the children of a node that opens no scope
  abbrev pub closed : Place → Kind → List Node → ℕ → Place
  closed place k cs i = record { role = role_by place.role k (is_there cs 1) i; scopes = place.scopes }

  inside-closed : (place : Place) (span : Span) (k : Kind) (cs : List Node) (left i : ℕ) → opens_by place.role k (is_there cs 0) ≡ false → inside top place (node_of span k cs) left i ≡ closed place k cs i
  inside-closed place span k cs left i shut =
      let n : Node = node_of span k cs in
      ap₂ (λ (z : Kind) (zs : List Node). record {
        role = role_by place.role z (is_there zs 1) i;
        scopes = cond (opens_by place.role z (is_there zs 0) && covers place.role z i) (place.scopes ++ scope_at top place n left ∷ []) place.scopes;
      }) (kind-of span k cs) (children-of span k cs)
      ∙ ap (λ (b : Bool). record {
        role = role_by place.role k (is_there cs 1) i;
        scopes = cond (b && covers place.role k i) (place.scopes ++ scope_at top place n left ∷ []) place.scopes;
      }) shut

  taken-closed : (r : Role) (span : Span) (k : Kind) (cs : List Node) → opens_by r k (is_there cs 0) ≡ false → taken r (node_of span k cs) ≡ 0
  taken-closed r span k cs shut = taken-of r span k cs ∙ ap (λ (b : Bool). cond (b && not (is_root r)) 1 0) shut

  pub below-closed : (place : Place) (span : Span) (k : Kind) (cs : List Node) (left : ℕ) → opens_by place.role k (is_there cs 0) ≡ false
      → below place span k cs left ≡ placed (closed place k cs) 0 cs (map (resolved_at unresolved top) cs) left
  below-closed place span k cs left shut =
      (λ j. placed (λ i. inside-closed place span k cs left i shut j) 0 cs (map (resolved_at unresolved top) cs) (left - taken-closed place.role span k cs shut j))
      ∙ ap (placed (closed place k cs) 0 cs (map (resolved_at unresolved top) cs)) (none-less left)

  closed-of : (span : Span) (k : Kind) (cs : List Node) (place : Place) (left : ℕ) → opens_by place.role k (is_there cs 0) ≡ false
      → resolved_at unresolved top (node_of span k cs) place left ≡ node_of span (kind_at unresolved place k) (placed (closed place k cs) 0 cs (map (resolved_at unresolved top) cs) left)
  closed-of span k cs place left shut =
      resolved-of span k cs place left ∙ ap (λ (zs : List Node). node_of span (kind_at unresolved place k) zs) (below-closed place span k cs left shut)

  key-resolved : (old : OldName) (place : Place) (left : ℕ) → resolved_at unresolved top (key_of old) place left ≡ key_of old
  unfolding opens_by
  key-resolved old place left = closed-of old.span (kind.IdentName old.text) [] place left refl

  brackets-resolved : (span : Span) (place : Place) (left : ℕ) → resolved_at unresolved top (proto_in_brackets span) place left ≡ proto_in_brackets span
  unfolding opens_by role_by
  brackets-resolved span place left =
      let plain : Place = record { role = role.Plain; scopes = place.scopes } in
      closed-of span kind.ComputedPropName (node_of span proto_literal [] ∷ []) place left refl
      ∙ ap (λ (z : Node). node_of span kind.ComputedPropName (z ∷ [])) (closed-of span proto_literal [] plain left refl)

  key-resolved-by : (b : Bool) (old : OldName) (place : Place) (left : ℕ)
      → resolved_at unresolved top (cond b (proto_in_brackets old.span) (key_of old)) place left ≡ cond b (proto_in_brackets old.span) (key_of old)
  key-resolved-by true old place left = brackets-resolved old.span place left
  key-resolved-by false old place left = key-resolved old place left

  property-key-resolved : (old : OldName) (place : Place) (left : ℕ) → resolved_at unresolved top (property_key old) place left ≡ property_key old
  property-key-resolved old place left = key-resolved-by (bytes_eq old.text proto) old place left

  name-by : (old : OldName) (place : Place) (left : ℕ) (named : Bool) → named ≡ true
      → ◌≡◌ {A = Node} (node_of old.span (kind.Ident old.text (cond named 0 (context_in unresolved place.scopes old.text unresolved)) false) []) (name_of old)
  name-by old place left named is = ap (λ (b : Bool). node_of old.span (kind.Ident old.text (cond b 0 (context_in unresolved place.scopes old.text unresolved)) false) []) is

  name-resolved : (old : OldName) (place : Place) (left : ℕ) → is_name place.role ≡ true → resolved_at unresolved top (name_of old) place left ≡ name_of old
  unfolding opens_by
  name-resolved old place left named = closed-of old.span (kind.Ident old.text 0 false) [] place left refl ∙ name-by old place left (is_name place.role) named

  absent-at : (place : Place) (k : Kind) → is_absent (kind_at unresolved place k) ≡ is_absent k
  absent-at place (kind.Ident s c o) = refl
  absent-at place _ = refl

  pub absent-resolved : (n : Node) (place : Place) (left : ℕ) → kind_is_absent (resolved_at unresolved top n place left) ≡ kind_is_absent n
  absent-resolved n place left =
      ap kind_is_absent (resolved_at-out unresolved top n place left)
      ∙ ap is_absent (kind-of (out-Node n).span (kind_at unresolved place (out-Node n).kind) (placed (inside top place n left) 0 (out-Node n).children (map (resolved_at unresolved top) (out-Node n).children) (left - taken place.role n)))
      ∙ absent-at place (out-Node n).kind

  -- a pattern with its default, where neither has a role of its own
  default-resolved : (b : Bool) (span : Span) (a v : Node) (place : Place) (left : ℕ) → place.role ≡ role.Plain
      → resolved_at unresolved top (cond b a (node_of span kind.AssignPat (a ∷ v ∷ []))) place left
      ≡ cond b (resolved_at unresolved top a place left) (node_of span kind.AssignPat (resolved_at unresolved top a (record { role = role.Plain; scopes = place.scopes }) left
      ∷ resolved_at unresolved top v (record { role = role.Plain; scopes = place.scopes }) (left - context_count a role.Plain) ∷ []))
  unfolding opens_by role_by
  default-resolved true span a v place left plain = refl
  default-resolved false span a v place left plain = closed-of span kind.AssignPat (a ∷ v ∷ []) place left refl

  names-resolved : (places : ℕ → Place) (old : OldName) (cs : List Node) (left : ℕ) → is_name (places 1).role ≡ true
      → placed places 0 (two_names old cs) (map (resolved_at unresolved top) (two_names old cs)) left ≡ two_names old (placed places 0 cs (map (resolved_at unresolved top) cs) left)
  names-resolved places old [] left named = refl
  names-resolved places old (a ∷ []) left named = refl
  names-resolved places old (a ∷ b ∷ []) left named = ap (λ (z : Node). resolved_at unresolved top a (places 0) left ∷ z ∷ []) (name-resolved old (places 1) (left - context_count a (places 0).role) named)
  names-resolved places old (a ∷ b ∷ c ∷ cs) left named = refl

  specifier-name : (r : Role) → is_name (of_specifier r 1) ≡ true
  specifier-name role.Sourced = refl
  specifier-name _ = refl

  pattern-resolved : (place : Place) (old : OldName) (span : Span) (cs : List Node) (left : ℕ)
      → resolved_at unresolved top (grown_pattern old span cs) place left ≡ grown_pattern old span (placed (closed place kind.AssignPatProp cs) 0 cs (map (resolved_at unresolved top) cs) left)
  unfolding opens_by role_by
  pattern-resolved place old span [] left = closed-of span kind.AssignPatProp [] place left refl
  pattern-resolved place old span (a ∷ []) left = closed-of span kind.AssignPatProp (a ∷ []) place left refl
  pattern-resolved place old span (a ∷ v ∷ []) left =
      let plain : Place = record { role = role.Plain; scopes = place.scopes } in
      let less : left - context_count (key_of old) role.Plain ≡ left = ap (λ (n : ℕ). left - n) (key-none role.Plain old) ∙ none-less left in
      closed-of span kind.KeyValuePatProp (key_of old ∷ with_default span a v ∷ []) place left refl
      ∙ ap₂ (λ (y z : Node). node_of span kind.KeyValuePatProp (y ∷ z ∷ [])) (key-resolved old plain left)
      (ap (resolved_at unresolved top (with_default span a v) plain) less
      ∙ default-resolved (kind_is_absent v) span a v plain left refl
      ∙ ap (λ (b : Bool). cond b (resolved_at unresolved top a plain left) (node_of span kind.AssignPat (resolved_at unresolved top a plain left ∷ resolved_at unresolved top v plain (left - context_count a role.Plain) ∷ [])))
      (sym (absent-resolved v plain (left - context_count a role.Plain))))
  pattern-resolved place old span (a ∷ v ∷ c ∷ cs) left = closed-of span kind.AssignPatProp (a ∷ v ∷ c ∷ cs) place left refl

  by-resolved : (place : Place) (old : OldName) (span : Span) (k : Kind) (cs : List Node) (left : ℕ) → (is_ident k ≡ true → is_name place.role ≡ false)
      → resolved_at unresolved top (grown_by old span k cs) place left ≡ grown_by old span (kind_at unresolved place k) (below place span k cs left)
  unfolding opens_by role_by
  by-resolved place old span (kind.Ident s c o) cs left other =
      let plain : Place = record { role = role.Plain; scopes = place.scopes } in
      let idn : Node = node_of span (kind.Ident s c o) cs in
      let less : left - context_count (property_key old) role.Plain ≡ left = ap (λ (n : ℕ). left - n) (property-key-none role.Plain old) ∙ none-less left in
      closed-of span kind.KeyValueProp (property_key old ∷ idn ∷ []) place left refl
      ∙ ap₂ (λ (y z : Node). node_of span kind.KeyValueProp (y ∷ z ∷ [])) (property-key-resolved old plain left)
      (ap (resolved_at unresolved top idn plain) less
      ∙ closed-of span (kind.Ident s c o) cs plain left refl
      ∙ ap₂ (λ (b : Bool) (zs : List Node). node_of span (kind.Ident s (cond b c (context_in unresolved place.scopes s unresolved)) o) zs) (sym (other refl)) (sym (below-closed place span (kind.Ident s c o) cs left refl)))
  by-resolved place old span (kind.ImportNamedSpecifier t) cs left other =
      closed-of span (kind.ImportNamedSpecifier t) (two_names old cs) place left refl
      ∙ ap (λ (zs : List Node). node_of span (kind.ImportNamedSpecifier t) zs)
      (names-resolved (closed place (kind.ImportNamedSpecifier t) cs) old cs left refl ∙ ap (two_names old) (sym (below-closed place span (kind.ImportNamedSpecifier t) cs left refl)))
  by-resolved place old span (kind.ExportNamedSpecifier t) cs left other =
      closed-of span (kind.ExportNamedSpecifier t) (two_names old cs) place left refl
      ∙ ap (λ (zs : List Node). node_of span (kind.ExportNamedSpecifier t) zs)
      (names-resolved (closed place (kind.ExportNamedSpecifier t) cs) old cs left (specifier-name place.role) ∙ ap (two_names old) (sym (below-closed place span (kind.ExportNamedSpecifier t) cs left refl)))
  by-resolved place old span kind.AssignPatProp cs left other =
      pattern-resolved place old span cs left ∙ ap (grown_pattern old span) (sym (below-closed place span kind.AssignPatProp cs left refl))
  by-resolved place old span k cs left other = resolved-of span k cs place left

  -- the node with the shorthand written out is that of its parts, with the shorthand written out
  pub grown-resolved : (place : Place) (o : Option OldName) (span : Span) (k : Kind) (cs : List Node) (left : ℕ) → ((old : OldName) → o ≡ Some old → is_ident k ≡ true → is_name place.role ≡ false)
      → resolved_at unresolved top (grown o span k cs) place left ≡ grown o span (kind_at unresolved place k) (below place span k cs left)
  grown-resolved place (Some old) span k cs left other = by-resolved place old span k cs left (other old refl)
  grown-resolved place None span k cs left other = resolved-of span k cs place left
