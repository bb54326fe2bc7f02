-- A node with other texts declares the texts of the ids that it declared.
use Rattle.std.proofs.Common.{◌≡◌, ℕ, suc, Bool, true, false, cond, List, [], ◌∷◌, ◌++◌, map, Option, Some, None, refl, sym, ap, ap₂, ◌∙◌, subst}
use Rattle.std.proofs.lemmas.List.{map-append}
use Rattle.ecma_kind.specs.declared.kind.Kind.{Kind}
use Rattle.ecma_kind.specs.declared.kind.Kind.TheVariants as kind
use Rattle.ecma_kind.specs.declared.span.Span.{Span}
use Rattle.ecma_tree.specs.declared.node.Node.{Node, Node-F, ind-Node, out-Node, roll-Node}
use Rattle.ecma_tree.specs.declared.node.Node.TheViews.{out-roll-Node}
use Rattle.ecma_tree.specs.Nodes.{node_of}
use Rattle.ecma_tree.specs.Values.{is_value_where, value_by}
use Rattle.ecma_tree.proofs.Layers.{from_leaves_out}
use Rattle.ecma_scope.specs.declared.form.Form.{Form}
use Rattle.ecma_scope.specs.declared.form.Part.{Part}
use Rattle.ecma_scope.specs.declared.form.Part.TheVariants as part
use Rattle.ecma_scope.specs.declared.form.Declaration.{Declaration}
use Rattle.ecma_scope.specs.declared.form.Sought.{Sought}
use Rattle.ecma_scope.specs.Declarations.{declarations, declared_here, found_at, found_in, in_default, in_item, in_member, in_name, in_scope, in_var, sought_by, sought_in}
use Rattle.ecma_scope.specs.Resolved.{is_name}
use Rattle.ecma_hygiene.specs.declared.spot.Spot.{Spot}
use Rattle.ecma_hygiene.specs.declared.spot.Spot.TheVariants as spot
use Rattle.ecma_hygiene.specs.declared.spot.Standing.{Standing}
use Rattle.ecma_hygiene.specs.Ids.{is_name_part}
use Rattle.ecma_hygiene.specs.Renamed.{Texts, key_of, kind_is_absent, name_of, old_name, property_key, shared_by, shorthand, spot_in, standing_in, two_names, with_default}
use Rattle.ecma_hygiene.proofs.Roles.{seeks_name, sought-no-name}
use Rattle.ecma_hygiene.proofs.Telling.{true-false}
use Rattle.ecma_hygiene.proofs.Walking.{append-none}
use Rattle.ecma_hygiene_scopes.specs.DeclaredIds.{DeclaredId, id_here, ids_at, ids_declared, ids_in, ids_step, with_text}
use Rattle.ecma_hygiene_scopes.proofs.Growing.{OldName, grown, grown_by, grown_pattern}
use Rattle.ecma_hygiene_scopes.proofs.KindsTurned.{kind-same, seeks-same, turned_kind}
use Rattle.ecma_hygiene_scopes.proofs.Parts.{declarations-of, seeks}
use Rattle.ecma_hygiene_scopes.proofs.Values.{own-value}
use Rattle.ecma_hygiene_scopes.proofs.Written.{again, again-out, all_again, children_again, old_of, own_kind}

abbrev pub is_ident : Kind → Bool
is_ident (kind.Ident s c o) = true
is_ident _ = false

-- ---- a shorthand that is written out declares what it did

found-none : (into : ℕ → Option Sought) (i : ℕ) (xs : List Node) → ((j : ℕ) → into j ≡ None) → found_in into i (map declarations xs) ≡ []
found-none into i [] none = refl
found-none into i (x ∷ xs) none = ap₂ (λ (a b : List Declaration). a ++ b) (ap (λ (o : Option Sought). found_at o (declarations x)) (none i)) (found-none into (suc i) xs none)

no-keys : (p : Part) (stays value : Bool) (i : ℕ) → sought_by p stays value kind.KeyValueProp i ≡ None
unfolding in_name in_var in_item in_default in_scope in_member
no-keys part.Scope stays value i = refl
no-keys _ stays value i = refl

no-ident : (p : Part) (stays value : Bool) (s : List ℕ) (c : ℕ) (o : Bool) (i : ℕ) → sought_by p stays value (kind.Ident s c o) i ≡ None
unfolding in_name in_var in_item in_default in_scope in_member
no-ident part.Scope stays value s c o i = refl
no-ident _ stays value s c o i = refl

no-second : (p : Part) (stays value t : Bool) → sought_by p stays value (kind.ImportNamedSpecifier t) 1 ≡ None
unfolding in_name in_var in_item in_default in_scope in_member
no-second part.Scope stays value t = refl
no-second _ stays value t = refl

no-export : (p : Part) (stays value t : Bool) → sought_by p stays value (kind.ExportNamedSpecifier t) 1 ≡ None
unfolding in_name in_var in_item in_default in_scope in_member
no-export part.Scope stays value t = refl
no-export _ stays value t = refl

no-name-here : (p : Part) (stays : Bool) (s : List ℕ) (c : ℕ) (o : Bool) → is_name_part p ≡ false → declared_here (record { part = p; stays = stays }) (kind.Ident s c o) ≡ []
unfolding declared_here
no-name-here (part.Name f) stays s c o h = absurd (true-false refl h)
no-name-here _ stays s c o h = refl

names-found : (into : ℕ → Option Sought) (old : OldName) (cs : List Node) → into 1 ≡ None → found_in into 0 (map declarations (two_names old cs)) ≡ found_in into 0 (map declarations cs)
names-found into old [] none = refl
names-found into old (a ∷ []) none = refl
names-found into old (a ∷ b ∷ []) none =
    ap (λ (o : Option Sought). found_at (into 0) (declarations a) ++ (found_at o (declarations (name_of old)) ++ [])) none
    ∙ sym (ap (λ (o : Option Sought). found_at (into 0) (declarations a) ++ (found_at o (declarations b) ++ [])) none)
names-found into old (a ∷ b ∷ c ∷ cs) none = refl

default-by : (b : Bool) (span : Span) (a v : Node) (f : Form) (stays : Bool)
    → declarations (cond b a (node_of span kind.AssignPat (a ∷ v ∷ []))) (record { part = part.Name f; stays = stays }) ≡ declarations a (record { part = part.Name f; stays = stays })
unfolding declared_here in_name
default-by true span a v f stays = refl
default-by false span a v f stays =
    declarations-of span kind.AssignPat (a ∷ v ∷ []) (record { part = part.Name f; stays = stays }) ∙ append-none (declarations a (record { part = part.Name f; stays = stays }))

two-found : (p : Part) (stays : Bool) (old : OldName) (span : Span) (a v : Node) (sought : Sought) → sought ≡ record { part = p; stays = stays }
    → declarations (node_of span kind.KeyValuePatProp (key_of old ∷ with_default span a v ∷ [])) (record { part = p; stays = stays })
    ≡ declared_here (record { part = p; stays = stays }) kind.AssignPatProp ++ found_in (seeks (record { part = p; stays = stays }) kind.AssignPatProp (a ∷ v ∷ [])) 0 (map declarations (a ∷ v ∷ []))
unfolding declared_here in_name in_var in_item in_default in_scope in_member
two-found (part.Name f) stays old span a v sought is =
    declarations-of span kind.KeyValuePatProp (key_of old ∷ with_default span a v ∷ []) (record { part = part.Name f; stays = stays })
    ∙ ap (λ (ds : List Declaration). ds ++ []) (default-by (kind_is_absent v) span a v f stays)
two-found part.Scope stays old span a v sought is = declarations-of span kind.KeyValuePatProp (key_of old ∷ with_default span a v ∷ []) (record { part = part.Scope; stays = stays })
two-found part.Item stays old span a v sought is = declarations-of span kind.KeyValuePatProp (key_of old ∷ with_default span a v ∷ []) (record { part = part.Item; stays = stays })
two-found part.Default stays old span a v sought is = declarations-of span kind.KeyValuePatProp (key_of old ∷ with_default span a v ∷ []) (record { part = part.Default; stays = stays })
two-found part.Member stays old span a v sought is = declarations-of span kind.KeyValuePatProp (key_of old ∷ with_default span a v ∷ []) (record { part = part.Member; stays = stays })
two-found part.Var stays old span a v sought is = declarations-of span kind.KeyValuePatProp (key_of old ∷ with_default span a v ∷ []) (record { part = part.Var; stays = stays })

-- what the parts of a node declare
abbrev pub parts_declare : Kind → List Node → Sought → List Declaration
parts_declare k cs sought = declared_here sought k ++ found_in (seeks sought k cs) 0 (map declarations cs)

pattern-found : (old : OldName) (span : Span) (cs : List Node) (sought : Sought) → declarations (grown_pattern old span cs) sought ≡ parts_declare kind.AssignPatProp cs sought
pattern-found old span [] sought = declarations-of span kind.AssignPatProp [] sought
pattern-found old span (a ∷ []) sought = declarations-of span kind.AssignPatProp (a ∷ []) sought
pattern-found old span (a ∷ b ∷ []) sought = two-found sought.part sought.stays old span a b sought refl
pattern-found old span (a ∷ b ∷ c ∷ cs) sought = declarations-of span kind.AssignPatProp (a ∷ b ∷ c ∷ cs) sought

by-found : (old : OldName) (span : Span) (k : Kind) (cs : List Node) (sought : Sought) → (is_ident k ≡ true → is_name_part sought.part ≡ false)
    → declarations (grown_by old span k cs) sought ≡ parts_declare k cs sought
unfolding declared_here value_by
by-found old span (kind.Ident s c o) cs sought other =
    declarations-of span kind.KeyValueProp (property_key old ∷ node_of span (kind.Ident s c o) cs ∷ []) sought
    ∙ found-none (seeks sought kind.KeyValueProp (property_key old ∷ node_of span (kind.Ident s c o) cs ∷ [])) 0 (property_key old ∷ node_of span (kind.Ident s c o) cs ∷ []) (no-keys sought.part sought.stays _)
    ∙ sym (ap₂ (λ (x y : List Declaration). x ++ y) (no-name-here sought.part sought.stays s c o (other refl)) (found-none (seeks sought (kind.Ident s c o) cs) 0 cs (no-ident sought.part sought.stays _ s c o)))
by-found old span (kind.ImportNamedSpecifier t) cs sought other =
    declarations-of span (kind.ImportNamedSpecifier t) (two_names old cs) sought
    ∙ names-found (seeks sought (kind.ImportNamedSpecifier t) cs) old cs (no-second sought.part sought.stays _ t)
by-found old span (kind.ExportNamedSpecifier t) cs sought other =
    declarations-of span (kind.ExportNamedSpecifier t) (two_names old cs) sought
    ∙ names-found (seeks sought (kind.ExportNamedSpecifier t) cs) old cs (no-export sought.part sought.stays _ t)
by-found old span kind.AssignPatProp cs sought other = pattern-found old span cs sought
by-found old span k cs sought other = declarations-of span k cs sought

grown-found : (o : Option OldName) (span : Span) (k : Kind) (cs : List Node) (sought : Sought) → ((old : OldName) → o ≡ Some old → is_ident k ≡ true → is_name_part sought.part ≡ false)
    → declarations (grown o span k cs) sought ≡ parts_declare k cs sought
grown-found (Some old) span k cs sought other = by-found old span k cs sought (other old refl)
grown-found None span k cs sought other = declarations-of span k cs sought

-- ---- where names are looked for stands no name for others, and no property of an object

abbrev pub Compatible : Sought → Standing → Type 0
Compatible sought stands = is_name_part sought.part ≡ true → (is_name stands.role ≡ false) × (stands.spot ≡ spot.Elsewhere)

no-properties : (p : Part) (stays value : Bool) (i : ℕ) → seeks_name (sought_by p stays value kind.ObjectLit i) ≡ false
unfolding in_name in_var in_item in_default in_scope in_member
no-properties part.Scope stays value i = refl
no-properties _ stays value i = refl

in-lists : (p : Part) (stays value : Bool) (i : ℕ) → seeks_name (sought_by p stays value kind.List i) ≡ true → is_name_part p ≡ true
unfolding in_name in_var in_item in_default in_scope in_member
in-lists (part.Name f) stays value i h = refl
in-lists part.Scope stays value i h = absurd (true-false h refl)
in-lists _ stays value i h = absurd (true-false h refl)

elsewhere : (p : Part) (stays value : Bool) (k : Kind) (i : ℕ) (s : Spot) → seeks_name (sought_by p stays value k i) ≡ true → (is_name_part p ≡ true → s ≡ spot.Elsewhere) → spot_in s k i ≡ spot.Elsewhere
elsewhere p stays value kind.ObjectLit i s h c = absurd (true-false h (no-properties p stays value i))
elsewhere p stays value kind.List i s h c = ap (λ (z : Spot). spot_in z kind.List i) (c (in-lists p stays value i h))
elsewhere p stays value _ i s h c = refl

compatible-child : (sought : Sought) (n : Node) (stands : Standing) → Compatible sought stands → (i : ℕ) (found : Sought) → sought_in sought n i ≡ Some found → Compatible found (standing_in stands n i)
unfolding sought_in
compatible-child sought n stands c i found is h =
    let seeks_it : seeks_name (sought_in sought n i) ≡ true = ap seeks_name is ∙ h in
    (sought-no-name sought stands.role n i seeks_it, elsewhere sought.part sought.stays (is_value_where sought.stays n) (out-Node n).kind i stands.spot seeks_it (λ name. (c name).1))

module _ (context_of : List ℕ → ℕ → ℕ) (texts : Texts) (empty : (text : List ℕ) → context_of text 0 ≡ 0) where
  no-old : (stands : Standing) (named : Bool) (n : Node) (k : Kind) → is_ident (turned_kind context_of texts named k) ≡ true → stands.spot ≡ spot.Elsewhere → old_name texts (shared_by stands k n) ≡ None
  unfolding shared_by
  no-old stands named n (kind.Ident s c o) h is = ap (λ (z : Spot). old_name texts (shorthand z n)) is
  no-old stands named n k h is = absurd (true-false (sym (kind-same context_of texts is_ident (λ s t c d o. refl) named k) ∙ h) refl)

  not-both : (old : OldName) (o : Option OldName) → o ≡ Some old → o ≡ None → ⊥
  not-both old o h k = cc

  apart : (n : Node) (stands : Standing) (sought : Sought) (b : Bool) → is_name_part sought.part ≡ b → Compatible sought stands → (old : OldName) → old_of context_of texts n stands ≡ Some old
      → is_ident (own_kind context_of texts n stands) ≡ true → is_name_part sought.part ≡ false
  apart n stands sought false is c old has ident = is
  apart n stands sought true is c old has ident = absurd (not-both old (old_of context_of texts n stands) has (no-old stands (is_name stands.role) n (out-Node n).kind ident (c is).1))

  here-same : (p : Part) (stays named : Bool) (k : Kind) → (is_name_part p ≡ true → named ≡ false)
      → declared_here (record { part = p; stays = stays }) (turned_kind context_of texts named k) ≡ map (with_text texts) (id_here (record { part = p; stays = stays }) k)
  unfolding declared_here
  here-same (part.Name f) stays false (kind.Ident s c o) h = refl
  here-same (part.Name f) stays true k h = absurd (true-false refl (h refl))
  here-same _ stays false (kind.Ident s c o) h = refl
  here-same _ stays true (kind.Ident s c o) h = refl
  here-same p stays false _ h = refl
  here-same p stays true _ h = refl

  abbrev Declares : Node → Type 0
  Declares n = (stands : Standing) (sought : Sought) → Compatible sought stands → declarations (again context_of texts n stands) sought ≡ map (with_text texts) (ids_declared n sought)

  abbrev AllDeclare : List Node → Type 0
  AllDeclare ns = (into : ℕ → Option Sought) (stands : ℕ → Standing) (i : ℕ) → ((j : ℕ) (found : Sought) → into j ≡ Some found → Compatible found (stands j))
      → found_in into i (map declarations (all_again context_of texts stands i ns)) ≡ map (with_text texts) (ids_in into i (map ids_declared ns))

  at-child : (n : Node) → Declares n → (o : Option Sought) (stands : Standing) → ((found : Sought) → o ≡ Some found → Compatible found stands)
      → found_at o (declarations (again context_of texts n stands)) ≡ map (with_text texts) (ids_at o (ids_declared n))
  at-child n declare (Some found) stands c = declare stands found (c found refl)
  at-child n declare None stands c = refl

  all-declare : (ns : List ((n : Node) × Declares n)) → AllDeclare (map (λ e. e.0) ns)
  all-declare [] into stands i c = refl
  all-declare (n ∷ ns) into stands i c =
      ap₂ (λ (a rest : List Declaration). a ++ rest) (at-child n.0 n.1 (into i) (stands i) (c i)) (all-declare ns into stands (suc i) c)
      ∙ sym (map-append (with_text texts) (ids_at (into i) (ids_declared n.0)) (ids_in into (suc i) (map ids_declared (map (λ e. e.0) ns))))

  seeks-here : (n : Node) (stands : Standing) (sought : Sought) (i : ℕ) → seeks sought (own_kind context_of texts n stands) (children_again context_of texts n stands) i ≡ sought_in sought n i
  unfolding sought_in
  seeks-here n stands sought i =
      ap (λ (b : Bool). sought_by sought.part sought.stays b (own_kind context_of texts n stands) i) (own-value context_of texts empty sought.stays n stands)
      ∙ seeks-same context_of texts sought.part sought.stays (is_value_where sought.stays n) (is_name stands.role) (out-Node n).kind i

  parts-again : (n : Node) → AllDeclare (out-Node n).children → (stands : Standing) (sought : Sought) → Compatible sought stands
      → parts_declare (own_kind context_of texts n stands) (children_again context_of texts n stands) sought ≡ map (with_text texts) (ids_declared n sought)
  parts-again n children stands sought c =
      ap₂ (λ (a rest : List Declaration). a ++ rest) (here-same sought.part sought.stays (is_name stands.role) (out-Node n).kind (λ name. (c name).0))
      ((λ j. found_in (λ i. seeks-here n stands sought i j) 0 (map declarations (children_again context_of texts n stands))) ∙ children (sought_in sought n) (standing_in stands n) 0 (compatible-child sought n stands c))
      ∙ sym (map-append (with_text texts) (id_here sought (out-Node n).kind) (ids_in (sought_in sought n) 0 (map ids_declared (out-Node n).children)))
      ∙ sym (ap (λ f. map (with_text texts) (f sought)) (from_leaves_out (Sought → List DeclaredId) ids_step n))

  layer-declares : (n : Node) → AllDeclare (out-Node n).children → Declares n
  layer-declares n children stands sought c =
      ap (λ (z : Node). declarations z sought) (again-out context_of texts empty n stands)
      ∙ grown-found (old_of context_of texts n stands) (out-Node n).span (own_kind context_of texts n stands) (children_again context_of texts n stands) sought (apart n stands sought (is_name_part sought.part) refl c)
      ∙ parts-again n children stands sought c

  pub declares-again : (n : Node) → Declares n
  declares-again = ind-Node Declares (λ x y is.
      layer-declares (roll-Node x) (subst AllDeclare (ap (λ (z : Node-F Node). z.children) is ∙ sym (ap (λ (z : Node-F Node). z.children) (out-roll-Node x))) (all-declare y.children)))

  each-declares : (ns : List Node) → AllDeclare ns
  each-declares [] into stands i c = refl
  each-declares (n ∷ ns) into stands i c =
      ap₂ (λ (a rest : List Declaration). a ++ rest) (at-child n (declares-again n) (into i) (stands i) (c i)) (each-declares ns into stands (suc i) c)
      ∙ sym (map-append (with_text texts) (ids_at (into i) (ids_declared n)) (ids_in into (suc i) (map ids_declared ns)))

  -- and so do the parts of the node, before a shorthand is written out
  pub plain-declares : (n : Node) (stands : Standing) (sought : Sought) → Compatible sought stands
      → declarations (node_of (out-Node n).span (own_kind context_of texts n stands) (children_again context_of texts n stands)) sought ≡ map (with_text texts) (ids_declared n sought)
  plain-declares n stands sought c =
      declarations-of (out-Node n).span (own_kind context_of texts n stands) (children_again context_of texts n stands) sought
      ∙ parts-again n (each-declares (out-Node n).children) stands sought c
