-- Around the body of a function or the block of a `catch` all that is declared stays, so what lasts of it states the same texts, but for those that go.
use Rattle.std.proofs.Common.{◌≡◌, ℕ, Bool, true, false, ◌||◌, not, cond, bytes_eq, filter, map, List, [], ◌∷◌, ◌++◌, Option, Some, None, refl, sym, ap, ◌∙◌, subst}
use Rattle.std.specs.List.{All}
use Rattle.std.proofs.lemmas.List.Elements.{All-append, All-head, All-nil, All-tail}
use Rattle.std.proofs.lemmas.Slice.Eq.{bytes_eq-Decides}
use Rattle.ecma_kind.specs.declared.kind.Kind.{Kind}
use Rattle.ecma_kind.specs.declared.kind.Kind.TheVariants as kind
use Rattle.ecma_tree.specs.declared.node.Node.{Node, out-Node}
use Rattle.ecma_tree.specs.Values.{is_value}
use Rattle.ecma_scope.specs.declared.form.Declaration.{Declaration}
use Rattle.ecma_scope.specs.declared.form.Form.{Form}
use Rattle.ecma_scope.specs.declared.form.Part.TheVariants as part
use Rattle.ecma_scope.specs.declared.form.Sought.{Sought}
use Rattle.ecma_scope.specs.declared.role.Role.{Role}
use Rattle.ecma_scope.specs.declared.role.Role.TheVariants as role
use Rattle.ecma_scope.specs.Declarations.{declares, holds_vars, is_own, is_stated, keeps, names, own_part, sought_in, stated}
use Rattle.ecma_scope.specs.Scopes.{is_ambient}
use Rattle.ecma_hygiene.proofs.Telling.{and-both, true-false}
use Rattle.ecma_hygiene_scopes.specs.DeclaredIds.{id_here, ids_declared, scope_ids}
use Rattle.ecma_hygiene_scopes.proofs.Passing.{map-all}
use Rattle.ecma_strip_scopes.proofs.ScopesSame.{goes}
use Rattle.ecma_strip_conflicts.proofs.Counted.{all-passed}
use Rattle.ecma_strip_conflicts.proofs.Fewer.{last}
use Rattle.ecma_strip_conflicts.proofs.HasParameters.{HasParameters}
use Rattle.ecma_strip_conflicts.proofs.Scope.{names-ids, plainly}
use Rattle.ecma_strip_conflicts.proofs.Unmerged.{Stays, good_at, names-stay, stays_named}

item-here : (s : Bool) (k : Kind) → id_here (record { part = part.Item; stays = s }) k ≡ []
item-here s (kind.Ident t c o) = refl
item-here s _ = refl

scope-here : (s : Bool) (k : Kind) → id_here (record { part = part.Scope; stays = s }) k ≡ []
scope-here s (kind.Ident t c o) = refl
scope-here s _ = refl

named-good : (f : Form) (o : Option Sought) → ((q : Sought) → o ≡ Some q → q ≡ record { part = part.Name f; stays = true }) → good_at stays_named o ≡ true
named-good f (Some q) is = ap stays_named (is q refl)
named-good f None is = refl

none-good : (o : Option Sought) → o ≡ None → good_at stays_named o ≡ true
none-good o is = ap (good_at stays_named) is

module _ (n : Node) (r : Role) (i : ℕ) (has : HasParameters r (out-Node n).kind i) (calm : is_ambient r ≡ false) where
  own-stays : (q : Role) → All Stays (ids_declared n (record { part = own_part q; stays = true }))
  unfolding sought_in
  own-stays role.Default = names-stay n (record { part = part.Item; stays = true }) (item-here true (out-Node n).kind) (λ j. none-good (sought_in (record { part = part.Item; stays = true }) n j) (has.items (is_value n) j))
  own-stays _ = names-stay n (record { part = part.Scope; stays = true }) (scope-here true (out-Node n).kind) (λ j. named-good has.declared_as (sought_in (record { part = part.Scope; stays = true }) n j) (has.seeks (is_value n) j))

  ids-stay : All Stays (scope_ids r n)
  ids-stay =
      subst (λ (b : Bool). All Stays (ids_declared n (record { part = own_part r; stays = not b }) ++ cond (holds_vars r (out-Node n).kind) (ids_declared n (record { part = part.Var; stays = not b })) [])) (sym calm)
      (subst (λ (b : Bool). All Stays (ids_declared n (record { part = own_part r; stays = true }) ++ cond b (ids_declared n (record { part = part.Var; stays = true })) [])) (sym has.holds)
      (All-append Stays (ids_declared n (record { part = own_part r; stays = true })) [] (own-stays r) (All-nil Stays)))

  pub body-stays : (around : List ℕ → Option Bool) → All (λ d. d.stays ≡ true) (names r around n)
  body-stays around =
      subst (λ (ds : List Declaration). All (λ d. d.stays ≡ true) (filter (is_own r around) ds)) (sym (names-ids r n))
      (all-passed (λ d. d.stays ≡ true) (is_own r around) (map plainly (scope_ids r n)) (map-all (λ d. d.stays ≡ true) plainly (scope_ids r n) ids-stay))

module _ (t : Bool) (text : List ℕ) (other : goes t text ≡ false) where
  lasts-by : (d : Declaration) → d.stays ≡ true → bytes_eq d.sym text ≡ true → last t d ≡ true
  lasts-by d is same = and-both (not (goes t d.sym)) d.stays (ap not (ap (goes t) ((bytes_eq-Decides d.sym text).0 same) ∙ other)) is

  declares-last : (ds : List Declaration) → All (λ d. d.stays ≡ true) ds → declares (filter (last t) ds) text ≡ declares ds text
  declares-last [] all = refl
  declares-last (d ∷ ds) all = by (last t d) (bytes_eq d.sym text) refl refl (declares-last ds (All-tail (λ d. d.stays ≡ true) d ds all))
    where
      by : (b c : Bool) → last t d ≡ b → bytes_eq d.sym text ≡ c → declares (filter (last t) ds) text ≡ declares ds text → declares (cond b (d ∷ filter (last t) ds) (filter (last t) ds)) text ≡ (c || declares ds text)
      by true c is same rec = (λ j. same j || rec j)
      by false false is same rec = rec
      by false true is same rec = absurd (true-false (lasts-by d (All-head (λ d. d.stays ≡ true) d ds all) same) is)

  states-by : (ds : List Declaration) → is_stated (stated ds text) ≡ declares ds text
  states-by ds = by (declares ds text)
    where
      by : (b : Bool) → is_stated (cond b (Some (keeps ds text)) None) ≡ b
      by true = refl
      by false = refl

  -- a text that stays is stated where it is
  pub states-last : (ds : List Declaration) → All (λ d. d.stays ≡ true) ds → is_stated (stated (filter (last t) ds) text) ≡ is_stated (stated ds text)
  states-last ds all = states-by (filter (last t) ds) ∙ declares-last ds all ∙ sym (states-by ds)
