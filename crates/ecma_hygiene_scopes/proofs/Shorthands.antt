-- Which nodes are shorthands that are written out.
use Rattle.std.proofs.Common.{◌≡◌, ℕ, ◌+◌, ◌==◌, Bool, true, false, ◌&&◌, not, cond, List, [], ◌∷◌, Option, Some, None, refl, sym, ap, ◌∙◌, subst}
use Rattle.ecma_kind.specs.declared.kind.Kind.{Kind}
use Rattle.ecma_kind.specs.declared.kind.Kind.TheVariants as kind
use Rattle.ecma_tree.specs.declared.node.Node.{Node, out-Node}
use Rattle.ecma_tree.specs.Sorted.{is_absent}
use Rattle.ecma_scope.specs.declared.role.Role.{Role}
use Rattle.ecma_scope.specs.declared.role.Role.TheVariants as role
use Rattle.ecma_scope.specs.Resolved.{context_count, is_name}
use Rattle.ecma_scope.specs.Scopes.{is_root, is_there, opens_by, passes_in_list, role_by}
use Rattle.ecma_hygiene.specs.declared.spot.Spot.{Spot}
use Rattle.ecma_hygiene.specs.declared.spot.Spot.TheVariants as spot
use Rattle.ecma_hygiene.specs.declared.spot.Standing.{Standing}
use Rattle.ecma_hygiene.specs.Renamed.{Texts, is_sourced, kind_is_absent, lone_name, old_name, shared_by, shorthand, spot_in, standing_in}
use Rattle.ecma_hygiene.proofs.Telling.{true-false}
use Rattle.ecma_hygiene_scopes.proofs.Declaring.{is_ident}
use Rattle.ecma_hygiene_scopes.proofs.Growing.{OldName}
use Rattle.ecma_hygiene_scopes.proofs.KindsTurned.{kind-same, opens-same, turned_kind}
use Rattle.ecma_hygiene_scopes.proofs.Resolving.{AbsentTakesNone, SecondAbsent, count_by, grown-count, is_specifier}
use Rattle.ecma_hygiene_scopes.proofs.Scoping.{absent-again}
use Rattle.ecma_hygiene_scopes.proofs.Written.{again, again-out, all_again, children_again, old_of, own_kind}

-- a property of an object is no name for others
abbrev pub Proper : Standing → Type 0
Proper stands = stands.spot ≡ spot.Property → is_name stands.role ≡ false

in-list : (r : Role) → is_name (passes_in_list r) ≡ false
in-list role.Sourced = refl
in-list role.Ambient = refl
in-list _ = refl

no-property : (b : Bool) → ◌≡◌ {A = Spot} (cond b spot.Properties spot.Elsewhere) spot.Property → ⊥
no-property true h = cc
no-property false h = cc

apart-spot : ◌≡◌ {A = Spot} spot.Elsewhere spot.Property → ⊥
apart-spot h = cc

proper-by : (s : Spot) (r : Role) (k : Kind) (sourced : Bool) (i : ℕ) → spot_in s k i ≡ spot.Property → is_name (role_by r k sourced i) ≡ false
unfolding role_by
proper-by s r kind.ObjectLit sourced i h = absurd (no-property (i == 0) h)
proper-by s r kind.List sourced i h = in-list r
proper-by s r _ sourced i h = absurd (apart-spot h)

pub proper-child : (stands : Standing) (n : Node) (i : ℕ) → Proper (standing_in stands n i)
proper-child stands n i h = proper-by stands.spot stands.role (out-Node n).kind (is_there (out-Node n).children 1) i h

no-old : (old : OldName) → ◌≡◌ {A = Option OldName} None (Some old) → ⊥
no-old old h = cc

module _ (context_of : List ℕ → ℕ → ℕ) (texts : Texts) (empty : (text : List ℕ) → context_of text 0 ≡ 0) where
  -- an identifier that is written out is a property, and so no name for others
  shared-ident : (stands : Standing) (at : Spot) (k : Kind) (named : Bool) (n : Node) (old : OldName) → stands.spot ≡ at → is_ident (turned_kind context_of texts named k) ≡ true
      → old_name texts (shared_by stands k n) ≡ Some old → stands.spot ≡ spot.Property
  unfolding shared_by
  shared-ident stands spot.Property (kind.Ident s c o) named n old is ident has = is
  shared-ident stands spot.Elsewhere (kind.Ident s c o) named n old is ident has = absurd (no-old old (sym (ap (λ (z : Spot). old_name texts (shorthand z n)) is) ∙ has))
  shared-ident stands spot.Properties (kind.Ident s c o) named n old is ident has = absurd (no-old old (sym (ap (λ (z : Spot). old_name texts (shorthand z n)) is) ∙ has))
  shared-ident stands at k named n old is ident has = absurd (true-false (sym (kind-same context_of texts is_ident (λ s t c d o. refl) named k) ∙ ident) refl)

  pub old-no-name : (n : Node) (stands : Standing) → Proper stands → (old : OldName) → old_of context_of texts n stands ≡ Some old → is_ident (own_kind context_of texts n stands) ≡ true → is_name stands.role ≡ false
  old-no-name n stands proper old has ident = proper (shared-ident stands stands.spot (out-Node n).kind (is_name stands.role) n old refl ident has)

  -- the second name of a specifier that is written out was not there
  lone-absent : (a b : Node) (t : Bool) (old : OldName) → kind_is_absent b ≡ t → old_name texts (cond t (Some a) None) ≡ Some old → kind_is_absent b ≡ true
  lone-absent a b true old is has = is
  lone-absent a b false old is has = absurd (no-old old has)

  lone-second : (stands : ℕ → Standing) (cs : List Node) (old : OldName) → old_name texts (lone_name cs) ≡ Some old → SecondAbsent (all_again context_of texts stands 0 cs)
  lone-second stands [] old has = tt
  lone-second stands (a ∷ []) old has = tt
  lone-second stands (a ∷ b ∷ []) old has = absent-again context_of texts empty b (stands 1) ∙ lone-absent a b (kind_is_absent b) old refl has
  lone-second stands (a ∷ b ∷ c ∷ cs) old has = tt

  unsourced : (t : Bool) (cs : List Node) (old : OldName) → old_name texts (cond t None (lone_name cs)) ≡ Some old → old_name texts (lone_name cs) ≡ Some old
  unsourced true cs old has = absurd (no-old old has)
  unsourced false cs old has = has

  second-by : (stands : Standing) (inner : ℕ → Standing) (k : Kind) (named : Bool) (n : Node) (old : OldName) → old_name texts (shared_by stands k n) ≡ Some old → is_specifier (turned_kind context_of texts named k) ≡ true
      → SecondAbsent (all_again context_of texts inner 0 (out-Node n).children)
  unfolding shared_by
  second-by stands inner (kind.ImportNamedSpecifier t) named n old has is = lone-second inner (out-Node n).children old has
  second-by stands inner (kind.ExportNamedSpecifier t) named n old has is = lone-second inner (out-Node n).children old (unsourced (is_sourced stands.role) (out-Node n).children old has)
  second-by stands inner k named n old has is = absurd (true-false (sym (kind-same context_of texts is_specifier (λ s t c d o. refl) named k) ∙ is) refl)

  pub old-second : (n : Node) (stands : Standing) (old : OldName) → old_of context_of texts n stands ≡ Some old → is_specifier (own_kind context_of texts n stands) ≡ true → SecondAbsent (children_again context_of texts n stands)
  old-second n stands old has is = second-by stands (standing_in stands n) (out-Node n).kind (is_name stands.role) n old has is

  -- what is not there takes no context
  shut : (r : Role) (k : Kind) (there : Bool) → is_absent k ≡ true → opens_by r k there ≡ false
  unfolding opens_by
  shut r kind.Absent there h = refl
  shut r k there h = absurd (true-false h refl)

  pub absent-none : (n : Node) (stands : Standing) → (kind_is_absent n ≡ true → (out-Node n).children ≡ []) → kind_is_absent (again context_of texts n stands) ≡ true → (r : Role) → context_count (again context_of texts n stands) r ≡ 0
  absent-none n stands leaf gone r =
      let k : Kind = own_kind context_of texts n stands in
      let cs : List Node = children_again context_of texts n stands in
      let was : kind_is_absent n ≡ true = sym (absent-again context_of texts empty n stands) ∙ gone in
      let none : cs ≡ [] = ap (all_again context_of texts (standing_in stands n) 0) (leaf was) in
      let closed : opens_by r k false ≡ false = opens-same context_of texts (is_name stands.role) r (out-Node n).kind false ∙ shut r (out-Node n).kind false was in
      ap (λ (z : Node). context_count z r) (again-out context_of texts empty n stands)
      ∙ grown-count r (old_of context_of texts n stands) (out-Node n).span k cs (subst AbsentTakesNone (sym none) tt) (old-second n stands)
      ∙ ap (count_by r k) none ∙ ap (λ (b : Bool). cond (b && not (is_root r)) 1 0 + 0) closed
