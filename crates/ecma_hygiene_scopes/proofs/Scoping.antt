-- A node with other texts opens a scope where it did, with the final texts of what it declared.
use Rattle.std.proofs.Common.{◌≡◌, ℕ, zero, suc, Bool, true, false, not, cond, filter, List, [], ◌∷◌, ◌++◌, map, Option, Some, None, refl, sym, ap, ap₂, ◌∙◌}
use Rattle.std.proofs.lemmas.List.{map-append}
use Rattle.ecma_kind.specs.declared.kind.Kind.{Kind}
use Rattle.ecma_kind.specs.declared.kind.Kind.TheVariants as kind
use Rattle.ecma_kind.specs.declared.span.Span.{Span}
use Rattle.ecma_tree.specs.declared.node.Node.{Node, out-Node}
use Rattle.ecma_tree.specs.Nodes.{node_of}
use Rattle.ecma_tree.specs.Sorted.{is_absent}
use Rattle.ecma_scope.specs.declared.form.Declaration.{Declaration}
use Rattle.ecma_scope.specs.declared.form.Part.TheVariants as part
use Rattle.ecma_scope.specs.declared.form.Sought.{Sought}
use Rattle.ecma_scope.specs.declared.role.Role.{Role}
use Rattle.ecma_scope.specs.declared.role.Role.TheVariants as role
use Rattle.ecma_scope.specs.Declarations.{declarations, holds_vars, is_own, names, own_part, vars_of}
use Rattle.ecma_scope.specs.Resolved.{is_name}
use Rattle.ecma_scope.specs.Scopes.{is_ambient, is_there, opens, opens_by}
use Rattle.ecma_hygiene.specs.declared.spot.Standing.{Standing}
use Rattle.ecma_hygiene.specs.Ids.{is_name_part}
use Rattle.ecma_hygiene.specs.Renamed.{Texts, key_of, kind_is_absent, property_key, standing_in, two_names, with_default}
use Rattle.ecma_hygiene.proofs.Telling.{true-false}
use Rattle.ecma_hygiene_scopes.specs.DeclaredIds.{DeclaredId, ids_declared, scope_ids, with_text}
use Rattle.ecma_hygiene_scopes.specs.Laws.{ScopesDeclareFinalTexts}
use Rattle.ecma_hygiene_scopes.proofs.Declaring.{declares-again, plain-declares}
use Rattle.ecma_hygiene_scopes.proofs.Growing.{OldName, grown, grown_pattern}
use Rattle.ecma_hygiene_scopes.proofs.KindsTurned.{absent-same, holds-same, opens-same}
use Rattle.ecma_hygiene_scopes.proofs.Parts.{children-of, kind-of}
use Rattle.ecma_hygiene_scopes.proofs.Written.{again, again-out, all_again, children_again, old_of, own_kind}

-- ---- what a shorthand that is written out leaves of the kind of a node

module _ {A : Type 0} (f : Kind → A) where
  grown-pattern-kind : (old : OldName) (span : Span) (cs : List Node) → f kind.KeyValuePatProp ≡ f kind.AssignPatProp → f (out-Node (grown_pattern old span cs)).kind ≡ f kind.AssignPatProp
  grown-pattern-kind old span [] same = ap f (kind-of span kind.AssignPatProp [])
  grown-pattern-kind old span (a ∷ []) same = ap f (kind-of span kind.AssignPatProp (a ∷ []))
  grown-pattern-kind old span (a ∷ b ∷ []) same = ap f (kind-of span kind.KeyValuePatProp (key_of old ∷ with_default span a b ∷ [])) ∙ same
  grown-pattern-kind old span (a ∷ b ∷ c ∷ cs) same = ap f (kind-of span kind.AssignPatProp (a ∷ b ∷ c ∷ cs))

  -- a test that tells no name from a property, and no two properties of patterns
  pub grown-kind : (o : Option OldName) (span : Span) (k : Kind) (cs : List Node) → ((s : List ℕ) (c : ℕ) (b : Bool) → f kind.KeyValueProp ≡ f (kind.Ident s c b)) → f kind.KeyValuePatProp ≡ f kind.AssignPatProp
      → f (out-Node (grown o span k cs)).kind ≡ f k
  grown-kind None span k cs names patterns = ap f (kind-of span k cs)
  grown-kind (Some old) span (kind.Ident s c b) cs names patterns = ap f (kind-of span kind.KeyValueProp (property_key old ∷ node_of span (kind.Ident s c b) cs ∷ [])) ∙ names s c b
  grown-kind (Some old) span (kind.ImportNamedSpecifier t) cs names patterns = ap f (kind-of span (kind.ImportNamedSpecifier t) (two_names old cs))
  grown-kind (Some old) span (kind.ExportNamedSpecifier t) cs names patterns = ap f (kind-of span (kind.ExportNamedSpecifier t) (two_names old cs))
  grown-kind (Some old) span kind.AssignPatProp cs names patterns = grown-pattern-kind old span cs patterns
  grown-kind (Some old) span k cs names patterns = ap f (kind-of span k cs)

opens-of : (r : Role) (span : Span) (k : Kind) (cs : List Node) → opens r (node_of span k cs) ≡ opens_by r k (is_there cs 0)
opens-of r span k cs = ap₂ (λ (z : Kind) (zs : List Node). opens_by r z (is_there zs 0)) (kind-of span k cs) (children-of span k cs)

pattern-opens : (r : Role) (old : OldName) (span : Span) (cs : List Node) → opens r (grown_pattern old span cs) ≡ false
unfolding opens_by
pattern-opens r old span [] = opens-of r span kind.AssignPatProp []
pattern-opens r old span (a ∷ []) = opens-of r span kind.AssignPatProp (a ∷ [])
pattern-opens r old span (a ∷ b ∷ []) = opens-of r span kind.KeyValuePatProp (key_of old ∷ with_default span a b ∷ [])
pattern-opens r old span (a ∷ b ∷ c ∷ cs) = opens-of r span kind.AssignPatProp (a ∷ b ∷ c ∷ cs)

pub grown-opens : (r : Role) (o : Option OldName) (span : Span) (k : Kind) (cs : List Node) → opens r (grown o span k cs) ≡ opens_by r k (is_there cs 0)
unfolding opens_by
grown-opens r None span k cs = opens-of r span k cs
grown-opens r (Some old) span (kind.Ident s c b) cs = opens-of r span kind.KeyValueProp (property_key old ∷ node_of span (kind.Ident s c b) cs ∷ [])
grown-opens r (Some old) span (kind.ImportNamedSpecifier t) cs = opens-of r span (kind.ImportNamedSpecifier t) (two_names old cs)
grown-opens r (Some old) span (kind.ExportNamedSpecifier t) cs = opens-of r span (kind.ExportNamedSpecifier t) (two_names old cs)
grown-opens r (Some old) span kind.AssignPatProp cs = pattern-opens r old span cs
grown-opens r (Some old) span k cs = opens-of r span k cs

-- no part of a scope is a name
pub part-none : (r : Role) → is_name_part (own_part r) ≡ false
part-none role.Default = refl
part-none _ = refl

module _ (context_of : List ℕ → ℕ → ℕ) (texts : Texts) (empty : (text : List ℕ) → context_of text 0 ≡ 0) where
  pub absent-again : (n : Node) (stands : Standing) → kind_is_absent (again context_of texts n stands) ≡ kind_is_absent n
  absent-again n stands =
      ap kind_is_absent (again-out context_of texts empty n stands)
      ∙ grown-kind is_absent (old_of context_of texts n stands) (out-Node n).span (own_kind context_of texts n stands) (children_again context_of texts n stands) (λ s c b. refl) refl
      ∙ absent-same context_of texts (is_name stands.role) (out-Node n).kind

  pub there-again : (stands : ℕ → Standing) (k : ℕ) (xs : List Node) (i : ℕ) → is_there (all_again context_of texts stands k xs) i ≡ is_there xs i
  there-again stands k [] i = refl
  there-again stands k (x ∷ xs) zero = ap not (absent-again x (stands k))
  there-again stands k (x ∷ xs) (suc i) = there-again stands (suc k) xs i

  pub opens-again : (n : Node) (stands : Standing) (r : Role) → opens r (again context_of texts n stands) ≡ opens r n
  opens-again n stands r =
      ap (opens r) (again-out context_of texts empty n stands)
      ∙ grown-opens r (old_of context_of texts n stands) (out-Node n).span (own_kind context_of texts n stands) (children_again context_of texts n stands)
      ∙ opens-same context_of texts (is_name stands.role) r (out-Node n).kind _
      ∙ ap (opens_by r (out-Node n).kind) (there-again (standing_in stands n) 0 (out-Node n).children 0)

  pub holds-again : (n : Node) (stands : Standing) (r : Role) → holds_vars r (out-Node (again context_of texts n stands)).kind ≡ holds_vars r (out-Node n).kind
  unfolding holds_vars
  holds-again n stands r =
      ap (λ (z : Node). holds_vars r (out-Node z).kind) (again-out context_of texts empty n stands)
      ∙ grown-kind (holds_vars r) (old_of context_of texts n stands) (out-Node n).span (own_kind context_of texts n stands) (children_again context_of texts n stands) (λ s c b. refl) refl
      ∙ holds-same context_of texts (is_name stands.role) r (out-Node n).kind

  vars-by : (b : Bool) (ds : List Declaration) (ids : List DeclaredId) → ds ≡ map (with_text texts) ids → cond b ds [] ≡ map (with_text texts) (cond b ids [])
  vars-by true ds ids same = same
  vars-by false ds ids same = refl

  -- the names of its scope, before those go that are parameters
  pub all-names-again : (n : Node) (stands : Standing)
      → declarations (again context_of texts n stands) (record { part = own_part stands.role; stays = not (is_ambient stands.role) }) ++ vars_of stands.role (not (is_ambient stands.role)) (again context_of texts n stands)
      ≡ map (with_text texts) (scope_ids stands.role n)
  all-names-again n stands =
      let r : Role = stands.role in
      ap₂ (λ (a b : List Declaration). a ++ b)
      (declares-again context_of texts empty n stands (record { part = own_part r; stays = not (is_ambient r) }) (λ h. absurd (true-false h (part-none r))))
      (ap (λ (b : Bool). cond b (declarations (again context_of texts n stands) (record { part = part.Var; stays = not (is_ambient r) })) []) (holds-again n stands r)
      ∙ vars-by (holds_vars r (out-Node n).kind) _ _ (declares-again context_of texts empty n stands (record { part = part.Var; stays = not (is_ambient r) }) (λ h. absurd (true-false h refl))))
      ∙ sym (map-append (with_text texts) (ids_declared n (record { part = own_part r; stays = not (is_ambient r) })) (cond (holds_vars r (out-Node n).kind) (ids_declared n (record { part = part.Var; stays = not (is_ambient r) })) []))

  pub names-again : (n : Node) (stands : Standing) (around : List ℕ → Option Bool)
      → names stands.role around (again context_of texts n stands) ≡ filter (is_own stands.role around) (map (with_text texts) (scope_ids stands.role n))
  names-again n stands around = ap (filter (is_own stands.role around)) (all-names-again n stands)

  -- and so do its parts, before a shorthand is written out
  pub plain-names-again : (n : Node) (stands : Standing) (around : List ℕ → Option Bool)
      → names stands.role around (node_of (out-Node n).span (own_kind context_of texts n stands) (children_again context_of texts n stands)) ≡ filter (is_own stands.role around) (map (with_text texts) (scope_ids stands.role n))
  unfolding holds_vars
  plain-names-again n stands around =
      let r : Role = stands.role in
      let own : Sought = record { part = own_part r; stays = not (is_ambient r) } in
      let vars : Sought = record { part = part.Var; stays = not (is_ambient r) } in
      let plain : Node = node_of (out-Node n).span (own_kind context_of texts n stands) (children_again context_of texts n stands) in
      ap (filter (is_own r around))
      (ap₂ (λ (a b : List Declaration). a ++ b) (plain-declares context_of texts empty n stands own (λ h. absurd (true-false h (part-none r))))
      (ap (λ (b : Bool). cond b (declarations plain vars) [])
      (ap (holds_vars r) (kind-of (out-Node n).span (own_kind context_of texts n stands) (children_again context_of texts n stands)) ∙ holds-same context_of texts (is_name r) r (out-Node n).kind)
      ∙ vars-by (holds_vars r (out-Node n).kind) _ _ (plain-declares context_of texts empty n stands vars (λ h. absurd (true-false h refl))))
      ∙ sym (map-append (with_text texts) (ids_declared n own) (cond (holds_vars r (out-Node n).kind) (ids_declared n vars) [])))

pub scopes-declare : ScopesDeclareFinalTexts
scopes-declare texts node stands = record {
  opens = opens-again (λ sym ctxt. 0) texts (λ text. refl) node stands stands.role;
  declares = names-again (λ sym ctxt. 0) texts (λ text. refl) node stands;
}
