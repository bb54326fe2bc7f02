-- Which roles a node has where it may stand in parentheses: none that it looks at.
use Rattle.std.proofs.Common.{◌≡◌, ◌⊎◌, inl, inr, refl, ℕ, zero, suc, Bool, true, false, List, if◌then◌else◌}
use Rattle.std.specs.Prelude.{◌==◌}
use Rattle.ecma_kind.specs.declared.kind.Kind.{Kind}
use Rattle.ecma_kind.specs.declared.kind.Kind.TheVariants as kind
use Rattle.ecma_print.specs.declared.place.Spot.{Spot}
use Rattle.ecma_print.specs.declared.place.Begins.TheVariants.{ArrowBodyStart}
use Rattle.ecma_print.specs.Places.{beginning, free}
use Rattle.ecma_print.specs.Laid.{Laid}
use Rattle.ecma_print.specs.Levels.{in_parentheses}
use Rattle.ecma_print.specs.Spots.{first_spots, further_spot}
use Rattle.ecma_print_parentheses.proofs.Asking.{open_where_free}
use Rattle.ecma_scope.specs.declared.role.Role.{Role}
use Rattle.ecma_scope.specs.declared.role.Role.TheVariants as role
use Rattle.ecma_scope.specs.Scopes.{at_child, opens_by, role_by}
use Rattle.ecma_scope_congruence.proofs.Looking.{Quiet, spot_at}

-- an expression that does not look at its role
abbrev pub is_blind : Kind → Bool
is_blind kind.SeqExpr = true
is_blind (kind.AssignExpr op) = true
is_blind (kind.YieldExpr delegate) = true
is_blind kind.CondExpr = true
is_blind (kind.BinExpr op) = true
is_blind (kind.UnaryExpr op) = true
is_blind kind.AwaitExpr = true
is_blind (kind.UpdateExpr op prefix) = true
is_blind kind.CallExpr = true
is_blind (kind.OptChainExpr optional) = true
is_blind kind.NewExpr = true
is_blind (kind.Number number raw) = true
is_blind kind.ObjectLit = true
is_blind _ = false

-- a node that stands in parentheses there does not look at this role
abbrev pub Unseen : Role → Spot → Type 0
Unseen r spot = (r ≡ role.Plain) ⊎ ((k : Kind) (children : List Laid) → in_parentheses k children spot ≡ true → is_blind k ≡ true)

pub blind_role : (r : Role) (k : Kind) (sourced : Bool) (i : ℕ) → is_blind k ≡ true → role_by r k sourced i ≡ role.Plain
unfolding role_by
blind_role r kind.SeqExpr sourced i h = refl
blind_role r (kind.AssignExpr op) sourced i h = refl
blind_role r (kind.YieldExpr delegate) sourced i h = refl
blind_role r kind.CondExpr sourced i h = refl
blind_role r (kind.BinExpr op) sourced i h = refl
blind_role r (kind.UnaryExpr op) sourced i h = refl
blind_role r kind.AwaitExpr sourced i h = refl
blind_role r (kind.UpdateExpr op prefix) sourced i h = refl
blind_role r kind.CallExpr sourced i h = refl
blind_role r (kind.OptChainExpr optional) sourced i h = refl
blind_role r kind.NewExpr sourced i h = refl
blind_role r (kind.Number number raw) sourced i h = refl
blind_role r kind.ObjectLit sourced i h = refl
blind_role r _ sourced i h = absurd (cc)

pub blind_opens : (r : Role) (k : Kind) (named : Bool) → is_blind k ≡ true → opens_by r k named ≡ false
unfolding opens_by
blind_opens r kind.SeqExpr named h = refl
blind_opens r (kind.AssignExpr op) named h = refl
blind_opens r (kind.YieldExpr delegate) named h = refl
blind_opens r kind.CondExpr named h = refl
blind_opens r (kind.BinExpr op) named h = refl
blind_opens r (kind.UnaryExpr op) named h = refl
blind_opens r kind.AwaitExpr named h = refl
blind_opens r (kind.UpdateExpr op prefix) named h = refl
blind_opens r kind.CallExpr named h = refl
blind_opens r (kind.OptChainExpr optional) named h = refl
blind_opens r kind.NewExpr named h = refl
blind_opens r (kind.Number number raw) named h = refl
blind_opens r kind.ObjectLit named h = refl
blind_opens r _ named h = absurd (cc)

pub parentheses_role : (r : Role) (sourced : Bool) (i : ℕ) → role_by r kind.ParenExpr sourced i ≡ role.Plain
unfolding role_by
parentheses_role r sourced i = refl

pub parentheses_open_none : (r : Role) (named : Bool) → opens_by r kind.ParenExpr named ≡ false
unfolding opens_by
parentheses_open_none r named = refl

contradicted : {A : Type 0} (b : Bool) → b ≡ true → b ≡ false → A
contradicted true h k = cc
contradicted false h k = cc

unseen_where_quiet : (r : Role) (spot : Spot) → Quiet spot → Unseen r spot
unseen_where_quiet r spot quiet = inr (λ k children closed. contradicted (in_parentheses k children spot) closed (quiet k children))

unseen_if : (r : Role) (wanted i : ℕ) (spot : Spot) → Unseen r spot → Unseen (at_child r wanted i) spot
unseen_if r wanted i spot h = go (i == wanted)
  where
    go : (b : Bool) → Unseen (if b then r else role.Plain) spot
    go true = h
    go false = inl refl

closed_is_blind : (k : Kind) (children : List Laid) → in_parentheses k children (free 1) ≡ true → is_blind k ≡ true
closed_is_blind kind.SeqExpr children h = refl
closed_is_blind (kind.AssignExpr op) children h = refl
closed_is_blind (kind.YieldExpr delegate) children h = refl
closed_is_blind kind.CondExpr children h = refl
closed_is_blind (kind.BinExpr op) children h = refl
closed_is_blind (kind.UnaryExpr op) children h = refl
closed_is_blind kind.AwaitExpr children h = refl
closed_is_blind (kind.UpdateExpr op prefix) children h = refl
closed_is_blind kind.CallExpr children h = refl
closed_is_blind (kind.OptChainExpr optional) children h = refl
closed_is_blind kind.NewExpr children h = refl
closed_is_blind (kind.Number number raw) children h = refl
closed_is_blind kind.ObjectLit children h = refl
closed_is_blind _ children h = absurd (cc)

closed_in_arrow_is_blind : (without_in : Bool) (k : Kind) (children : List Laid) → in_parentheses k children (beginning 1 ArrowBodyStart without_in) ≡ true → is_blind k ≡ true
closed_in_arrow_is_blind without_in kind.SeqExpr children h = refl
closed_in_arrow_is_blind without_in (kind.AssignExpr op) children h = refl
closed_in_arrow_is_blind without_in (kind.YieldExpr delegate) children h = refl
closed_in_arrow_is_blind without_in kind.CondExpr children h = refl
closed_in_arrow_is_blind without_in (kind.BinExpr op) children h = refl
closed_in_arrow_is_blind without_in (kind.UnaryExpr op) children h = refl
closed_in_arrow_is_blind without_in kind.AwaitExpr children h = refl
closed_in_arrow_is_blind without_in (kind.UpdateExpr op prefix) children h = refl
closed_in_arrow_is_blind without_in kind.CallExpr children h = refl
closed_in_arrow_is_blind without_in (kind.OptChainExpr optional) children h = refl
closed_in_arrow_is_blind without_in kind.NewExpr children h = refl
closed_in_arrow_is_blind without_in (kind.Number number raw) children h = refl
closed_in_arrow_is_blind without_in kind.ObjectLit children h = refl
closed_in_arrow_is_blind without_in _ children h = absurd (cc)

unseen_in_list : (r : Role) (sourced : Bool) (spot : Spot) (i : ℕ) → Unseen r spot → Unseen (role_by r kind.List sourced i) spot
unfolding role_by
unseen_in_list role.Sourced sourced spot i h = h
unseen_in_list role.Ambient sourced spot i h = h
unseen_in_list _ sourced spot i h = inl refl

unseen_in_arrow : (is_async is_generator : Bool) (r : Role) (sourced : Bool) (children : List Laid) (spot : Spot) (i : ℕ)
    → Unseen (role_by r (kind.ArrowExpr is_async is_generator) sourced i) (spot_at (first_spots (kind.ArrowExpr is_async is_generator) children spot) (further_spot (kind.ArrowExpr is_async is_generator) spot) i)
unfolding role_by
unseen_in_arrow is_async is_generator r sourced children spot zero = inl refl
unseen_in_arrow is_async is_generator r sourced children spot (suc zero) = inr (closed_in_arrow_is_blind spot.without_in)
unseen_in_arrow is_async is_generator r sourced children spot (suc (suc i)) = unseen_where_quiet _ (free 0) open_where_free

unseen_in_catch : (r : Role) (sourced : Bool) (children : List Laid) (spot : Spot) (i : ℕ)
    → Unseen (role_by r kind.CatchClause sourced i) (spot_at (first_spots kind.CatchClause children spot) (further_spot kind.CatchClause spot) i)
unfolding role_by
unseen_in_catch r sourced children spot zero = inl refl
unseen_in_catch r sourced children spot (suc i) = unseen_where_quiet _ (free 0) open_where_free

-- so it is for the children of each kind
pub children_unseen : (r : Role) (k : Kind) (sourced : Bool) (children : List Laid) (spot : Spot) (i : ℕ) → Unseen r spot
    → Unseen (role_by r k sourced i) (spot_at (first_spots k children spot) (further_spot k spot) i)
unfolding role_by
children_unseen r kind.List sourced children spot i h = unseen_in_list r sourced spot i h
children_unseen r (kind.ArrowExpr is_async is_generator) sourced children spot i h = unseen_in_arrow is_async is_generator r sourced children spot i
children_unseen r kind.CatchClause sourced children spot i h = unseen_in_catch r sourced children spot i
children_unseen r kind.LabeledStmt sourced children spot i h = unseen_where_quiet _ (free 0) open_where_free
children_unseen r kind.BreakStmt sourced children spot i h = unseen_where_quiet _ (free 0) open_where_free
children_unseen r kind.ContinueStmt sourced children spot i h = unseen_where_quiet _ (free 0) open_where_free
children_unseen r (kind.ImportNamedSpecifier is_type_only) sourced children spot i h = unseen_where_quiet _ (free 0) open_where_free
children_unseen r (kind.ExportNamedSpecifier is_type_only) sourced children spot i h = unseen_where_quiet _ (free 0) open_where_free
children_unseen r kind.ExportNamespaceSpecifier sourced children spot i h = unseen_where_quiet _ (free 0) open_where_free
children_unseen r kind.ExportDefaultSpecifier sourced children spot i h = unseen_where_quiet _ (free 0) open_where_free
children_unseen r (kind.NamedExport type_only) sourced children spot i h = unseen_where_quiet _ (free 0) open_where_free
children_unseen r kind.ExportDefaultDecl sourced children spot i h = unseen_where_quiet _ (free 0) open_where_free
children_unseen r kind.ExportDecl sourced children spot i h = unseen_where_quiet _ (free 0) open_where_free
children_unseen r (kind.TsModuleDecl declare global) sourced children spot i h = unseen_where_quiet _ (free 0) open_where_free
children_unseen r (kind.TsNamespaceDecl declare global) sourced children spot i h = unseen_where_quiet _ (free 0) open_where_free
children_unseen r kind.TsModuleBlock sourced children spot i h = unseen_where_quiet _ (free 0) open_where_free
children_unseen r (kind.Function is_generator is_async) sourced children spot i h = unseen_if role.Body 1 i (free 1) (inr closed_is_blind)
children_unseen r (kind.Constructor accessibility is_optional) sourced children spot i h = unseen_if role.Body 2 i (free 1) (inr closed_is_blind)
children_unseen r kind.GetterProp sourced children spot i h = unseen_if role.Body 2 i (free 1) (inr closed_is_blind)
children_unseen r kind.SetterProp sourced children spot i h = unseen_if role.Body 3 i (free 1) (inr closed_is_blind)
children_unseen r kind.StaticBlock sourced children spot i h = inr closed_is_blind
children_unseen r _ sourced children spot i h = inl refl
