-- A `var` is resolved as it stands in the scope that it belongs to: no scope that it passes has its text.
use Rattle.std.proofs.Common.{◌≡◌, ℕ, ◌==◌, Bool, true, false, ◌&&◌, ◌||◌, not, cond, filter, List, [], ◌∷◌, ◌++◌, map, Option, Some, None, is_some, refl, sym, ap, ◌∙◌, subst, get_or}
use Rattle.std.specs.List.{All}
use Rattle.std.proofs.lemmas.List.Elements.{All-cons, All-head, All-nil, All-tail}
use Rattle.ecma_kind.specs.declared.kind.Kind.{Kind}
use Rattle.ecma_kind.specs.declared.kind.Kind.TheVariants as kind
use Rattle.ecma_kind.specs.declared.operators.VarDeclKind.TheVariants as var_kind
use Rattle.ecma_tree.specs.declared.node.Node.{Node, out-Node}
use Rattle.ecma_tree.specs.Values.{is_value_where}
use Rattle.ecma_scope.specs.declared.form.Declaration.{Declaration}
use Rattle.ecma_scope.specs.declared.form.Form.{Form}
use Rattle.ecma_scope.specs.declared.form.Form.TheVariants as form
use Rattle.ecma_scope.specs.declared.form.Part.{Part}
use Rattle.ecma_scope.specs.declared.form.Part.TheVariants as part
use Rattle.ecma_scope.specs.declared.form.Sought.{Sought}
use Rattle.ecma_scope.specs.declared.role.Role.{Role}
use Rattle.ecma_scope.specs.declared.role.Role.TheVariants as role
use Rattle.ecma_scope.specs.Conflicts.{clashing, is_catch, marked, may_not_meet, meeting, passing}
use Rattle.ecma_scope.specs.Declarations.{declarations, declares, holds_vars, in_scope, in_var, is_body, is_own as is_own_name, keeps, names, own_part, sought_in, stated}
use Rattle.ecma_scope.specs.Resolved.{Scope as Frame, innermost, resolved_at}
use Rattle.ecma_scope.specs.Scopes.{at_child, is_ambient, is_root, opens, opens_by, passes_ambient, passes_in_list, role_by}
use Rattle.ecma_hygiene.specs.Ids.{is_block}
use Rattle.ecma_hygiene.proofs.Telling.{true-false}
use Rattle.ecma_hygiene_scopes.specs.DeclaredIds.{DeclaredId, id_here, ids_declared, with_text}
use Rattle.ecma_hygiene_scopes.specs.Seats.{all_names}
use Rattle.ecma_hygiene_scopes.proofs.Clashes.{all-back, all-filter, counted, passes-none}
use Rattle.ecma_hygiene_scopes.proofs.Directly.{place_in}
use Rattle.ecma_hygiene_scopes.proofs.Forms.{Allowed, Formed, forms, forms-by, is_item_form}
use Rattle.ecma_hygiene_scopes.proofs.Goodness.{Good, frame_of, is_module_kind, own-clear}
use Rattle.ecma_hygiene_scopes.proofs.Sameness.{declares-ids, declares-resolved, no_text}
use Rattle.ecma_hygiene_scopes.proofs.Ways.{next_var}

-- ---- the roles that a `var` passes

abbrev pub passes : Role → Bool
passes role.Plain = true
passes role.Name = true
passes role.Sourced = true
passes role.CatchBody = true
passes _ = false

passes-list : (r : Role) → is_ambient r ≡ false → passes (passes_in_list r) ≡ true
passes-list role.Ambient h = absurd (true-false refl h)
passes-list role.Sourced h = refl
passes-list _ h = refl

passes-child : (r : Role) (wanted i : ℕ) → passes r ≡ true → passes (at_child r wanted i) ≡ true
passes-child r wanted i h = elim (i == wanted) as (λ b. passes (cond b r role.Plain) ≡ true) [ true ↦ h | false ↦ refl ]

pub var-role : (r : Role) (k : Kind) (sourced : Bool) (i : ℕ) → is_ambient r ≡ false → is_some (next_var k) ≡ true → passes (role_by r k sourced i) ≡ true
unfolding role_by
var-role r kind.List sourced i calm h = passes-list r calm
var-role r kind.TsModuleBlock sourced i calm h = ap (λ (b : Bool). passes (passes_ambient b)) calm
var-role r kind.ExportDecl sourced i calm h = ap (λ (b : Bool). passes (passes_ambient b)) calm
var-role r kind.LabeledStmt sourced i calm h = passes-child role.Name 0 i refl
var-role r kind.CatchClause sourced i calm h = passes-child role.CatchBody 1 i refl
var-role r (kind.VarDecl v d) sourced i calm h = refl
var-role r (kind.Module s) sourced i calm h = refl
var-role r (kind.Script s) sourced i calm h = refl
var-role r kind.BlockStmt sourced i calm h = refl
var-role r kind.IfStmt sourced i calm h = refl
var-role r kind.ForStmt sourced i calm h = refl
var-role r kind.ForInStmt sourced i calm h = refl
var-role r (kind.ForOfStmt a) sourced i calm h = refl
var-role r kind.WhileStmt sourced i calm h = refl
var-role r kind.DoWhileStmt sourced i calm h = refl
var-role r kind.TryStmt sourced i calm h = refl
var-role r kind.SwitchStmt sourced i calm h = refl
var-role r kind.SwitchCase sourced i calm h = refl
var-role r _ sourced i calm h = absurd (true-false h refl)

pub passes-calm : (r : Role) → passes r ≡ true → is_ambient r ≡ false
passes-calm role.Plain h = refl
passes-calm role.Ambient h = absurd (true-false h refl)
passes-calm _ h = refl

passes-body : (r : Role) → passes r ≡ true → is_body r ≡ false
passes-body role.Plain h = refl
passes-body role.Body h = absurd (true-false h refl)
passes-body role.StaticBody h = absurd (true-false h refl)
passes-body _ h = refl

passes-root : (r : Role) → passes r ≡ true → is_root r ≡ false
passes-root role.Plain h = refl
passes-root role.Root h = absurd (true-false h refl)
passes-root _ h = refl

passes-part : (r : Role) → passes r ≡ true → own_part r ≡ part.Scope
passes-part role.Plain h = refl
passes-part role.Default h = absurd (true-false h refl)
passes-part _ h = refl

passes-own : (r : Role) (around : List ℕ → Option Bool) (ds : List Declaration) → passes r ≡ true → filter (is_own_name r around) ds ≡ ds
passes-own role.Body around ds h = absurd (true-false h refl)
passes-own _ around ds h = every ds
  where
    every : (ds : List Declaration) → filter (λ d. true) ds ≡ ds
    every [] = refl
    every (d ∷ ds) = ap (λ (zs : List Declaration). d ∷ zs) (every ds)

holds-none : (r : Role) (k : Kind) → passes r ≡ true → is_module_kind k ≡ false → holds_vars r k ≡ false
unfolding holds_vars
holds-none r (kind.Module s) h other = absurd (true-false refl other)
holds-none r (kind.Script s) h other = absurd (true-false refl other)
holds-none r kind.TsModuleBlock h other = absurd (true-false refl other)
holds-none r kind.BlockStmt h other = passes-body r h
holds-none r _ h other = refl

-- ---- what is looked for where `var` is

pub data VarNext (o : Option Sought) : Type 0 where
  nothing : o ≡ None → VarNext o
  further : o ≡ Some (record { part = part.Var; stays = true }) → VarNext o
  pattern : (s : Bool) → o ≡ Some (record { part = part.Name form.Var; stays = s }) → VarNext o

pub var-nexts : (k : Kind) → VarNext (in_var true k)
unfolding in_var
var-nexts (kind.VarDecl var_kind.Var d) = pattern (not d) refl
var-nexts (kind.VarDecl _ d) = nothing refl
var-nexts kind.List = further refl
var-nexts (kind.Module s) = further refl
var-nexts (kind.Script s) = further refl
var-nexts kind.TsModuleBlock = further refl
var-nexts kind.ExportDecl = further refl
var-nexts kind.BlockStmt = further refl
var-nexts kind.IfStmt = further refl
var-nexts kind.ForStmt = further refl
var-nexts kind.ForInStmt = further refl
var-nexts (kind.ForOfStmt a) = further refl
var-nexts kind.WhileStmt = further refl
var-nexts kind.DoWhileStmt = further refl
var-nexts kind.LabeledStmt = further refl
var-nexts kind.TryStmt = further refl
var-nexts kind.CatchClause = further refl
var-nexts kind.SwitchStmt = further refl
var-nexts kind.SwitchCase = further refl
var-nexts _ = nothing refl

-- ---- the names of a scope that a `var` passes

abbrev is_meeting : Form → Bool
is_meeting g = is_item_form g || is_catch g

meets-by : (r : Role) (g : Form) → passes r ≡ true → is_meeting g ≡ true → may_not_meet r g form.Var ≡ true
meets-by r form.Import h is = refl
meets-by r form.Lexical h is = refl
meets-by r form.Class h is = refl
meets-by r form.Function h is = ap (λ (b : Bool). (not b || false) || ((false && false) || ((false && true) || (false && false)))) (passes-body r h)
meets-by r form.Enum h is = ap (λ (b : Bool). (not b || false) || ((false && false) || ((false && true) || (false && false)))) (passes-root r h)
meets-by r form.Namespace h is = ap (λ (b : Bool). (not b || false) || ((false && false) || ((false && true) || (false && false)))) (passes-root r h)
meets-by r form.Catch h is = refl
meets-by r _ h is = absurd (true-false is refl)

abbrev Meets : DeclaredId → Type 0
Meets d = is_meeting d.form ≡ true

item-meeting : (g : Form) → is_item_form g ≡ true → is_meeting g ≡ true
item-meeting g h = ap (λ (b : Bool). b || is_catch g) h

part-same : (p : Part) (s : Bool) (q : Sought) → ◌≡◌ {A = Option Sought} (Some (record { part = p; stays = s })) (Some q) → q.part ≡ p
part-same p s q h = cc

part-at : (b : Bool) (p : Part) (s : Bool) (q : Sought) → ◌≡◌ {A = Option Sought} (cond b (Some (record { part = p; stays = s })) None) (Some q) → q.part ≡ p
part-at true p s q h = part-same p s q h
part-at false p s q h = cc

-- the scopes that are lists of statements, and loops
abbrev is_list_scope : Kind → Bool
is_list_scope kind.BlockStmt = true
is_list_scope kind.SwitchStmt = true
is_list_scope kind.ForStmt = true
is_list_scope kind.ForInStmt = true
is_list_scope (kind.ForOfStmt a) = true
is_list_scope _ = false

list-items : (k : Kind) (s v : Bool) (i : ℕ) (q : Sought) → is_list_scope k ≡ true → in_scope s v k i ≡ Some q → q.part ≡ part.Item
unfolding in_scope
list-items kind.BlockStmt s v i q is h = part-same part.Item s q h
list-items kind.SwitchStmt s v i q is h = part-at (i == 1) part.Item s q h
list-items kind.ForStmt s v i q is h = part-at (i == 0) part.Item s q h
list-items kind.ForInStmt s v i q is h = part-at (i == 0) part.Item s q h
list-items (kind.ForOfStmt a) s v i q is h = part-at (i == 0) part.Item s q h
list-items _ s v i q is h = absurd (true-false is refl)

scope-here : (s : Bool) (k : Kind) → All (Formed part.Item) (id_here (record { part = part.Scope; stays = s }) k)
scope-here s (kind.Ident t c o) = All-nil (Formed part.Item)
scope-here s _ = All-nil (Formed part.Item)

pub list-forms : (m : Node) (s : Bool) → is_list_scope (out-Node m).kind ≡ true → All (Formed part.Item) (ids_declared m (record { part = part.Scope; stays = s }))
unfolding sought_in
list-forms m s is =
    forms-by m (record { part = part.Scope; stays = s }) part.Item (scope-here s (out-Node m).kind)
    (λ j found h g a. subst (λ p. Allowed p g) (list-items (out-Node m).kind s (is_value_where s m) j found is h) a)

list-meets : (m : Node) (s : Bool) → is_list_scope (out-Node m).kind ≡ true → All Meets (ids_declared m (record { part = part.Scope; stays = s }))
list-meets m s is = λ k d lt. item-meeting (get_or (ids_declared m (record { part = part.Scope; stays = s })) k d).form (list-forms m s is k d lt)

pub block-list : (k : Kind) → is_block k ≡ true → is_list_scope k ≡ true
block-list kind.BlockStmt h = refl
block-list _ h = absurd (true-false h refl)

catch-names : (s v : Bool) (i : ℕ) (q : Sought) → in_scope s v kind.CatchClause i ≡ Some q → q.part ≡ part.Name form.Catch
unfolding in_scope
catch-names s v i q h = part-at (i == 0) (part.Name form.Catch) s q h

catch-here : (s : Bool) (k : Kind) → All (Formed (part.Name form.Catch)) (id_here (record { part = part.Scope; stays = s }) k)
catch-here s (kind.Ident t c o) = All-nil (Formed (part.Name form.Catch))
catch-here s _ = All-nil (Formed (part.Name form.Catch))

catch-meets : (m : Node) (s : Bool) → (out-Node m).kind ≡ kind.CatchClause → All Meets (ids_declared m (record { part = part.Scope; stays = s }))
unfolding sought_in
catch-meets m s is = λ k d lt. ap is_meeting (forms-by m (record { part = part.Scope; stays = s }) (part.Name form.Catch) (catch-here s (out-Node m).kind)
    (λ j found h g a. subst (λ p. Allowed p g) (catch-names s (is_value_where s m) j found (ap (λ (z : Kind). in_scope s (is_value_where s m) z j) (sym is) ∙ h)) a) k d lt)

-- a list of statements, a loop, or the names that are caught
scope-meets : (m : Node) (r : Role) (s : Bool) (k : Kind) → (out-Node m).kind ≡ k → (there : Bool) → is_some (next_var k) ≡ true → opens_by r k there ≡ true → is_module_kind k ≡ false
    → All Meets (ids_declared m (record { part = part.Scope; stays = s }))
unfolding opens_by
scope-meets m r s kind.BlockStmt is there var opened other = list-meets m s (ap is_list_scope is)
scope-meets m r s kind.SwitchStmt is there var opened other = list-meets m s (ap is_list_scope is)
scope-meets m r s kind.ForStmt is there var opened other = list-meets m s (ap is_list_scope is)
scope-meets m r s kind.ForInStmt is there var opened other = list-meets m s (ap is_list_scope is)
scope-meets m r s (kind.ForOfStmt a) is there var opened other = list-meets m s (ap is_list_scope is)
scope-meets m r s kind.CatchClause is there var opened other = catch-meets m s is
scope-meets m r s (kind.Module x) is there var opened other = absurd (true-false refl other)
scope-meets m r s (kind.Script x) is there var opened other = absurd (true-false refl other)
scope-meets m r s kind.TsModuleBlock is there var opened other = absurd (true-false refl other)
scope-meets m r s (kind.VarDecl v d) is there var opened other = absurd (true-false opened refl)
scope-meets m r s kind.List is there var opened other = absurd (true-false opened refl)
scope-meets m r s kind.ExportDecl is there var opened other = absurd (true-false opened refl)
scope-meets m r s kind.IfStmt is there var opened other = absurd (true-false opened refl)
scope-meets m r s kind.WhileStmt is there var opened other = absurd (true-false opened refl)
scope-meets m r s kind.DoWhileStmt is there var opened other = absurd (true-false opened refl)
scope-meets m r s kind.LabeledStmt is there var opened other = absurd (true-false opened refl)
scope-meets m r s kind.TryStmt is there var opened other = absurd (true-false opened refl)
scope-meets m r s kind.SwitchCase is there var opened other = absurd (true-false opened refl)
scope-meets m r s _ is there var opened other = absurd (true-false var refl)

-- ---- lists

pub map-all : {X Y : Type 0} (P : Y → Type 0) (f : X → Y) (xs : List X) → All (λ x. P (f x)) xs → All P (map f xs)
map-all P f [] all = All-nil P
map-all P f (x ∷ xs) all = All-cons P (f x) (map f xs) (All-head (λ y. P (f y)) x xs all) (map-all P f xs (All-tail (λ y. P (f y)) x xs all))

pub all-map : {X Y : Type 0} (P : Y → Type 0) (f : X → Y) (xs : List X) → All P (map f xs) → All (λ x. P (f x)) xs
all-map P f [] all = All-nil (λ x. P (f x))
all-map P f (x ∷ xs) all = All-cons (λ y. P (f y)) x xs (All-head P (f x) (map f xs) all) (all-map P f xs (All-tail P (f x) (map f xs) all))

pub clear-cond : (b : Bool) (xs : List (List ℕ)) → b ≡ true → cond b xs [] ≡ [] → xs ≡ []
clear-cond true xs is h = h
clear-cond false xs is h = cc

module _ (unresolved top : ℕ) where
  abbrev pub vars : Sought
  vars = record { part = part.Var; stays = true }

  abbrev scope : Sought
  scope = record { part = part.Scope; stays = true }

  abbrev pub Clear : Frame → DeclaredId → Type 0
  Clear f d = d.stays ≡ true → f.states d.id.0 ≡ None

  module _ (m : Node) (r : Role) (frames : List Frame) (left : ℕ) (passed : passes r ≡ true) (other : is_module_kind (out-Node m).kind ≡ false) (good : Good m r (innermost frames))
      (var : is_some (next_var (out-Node m).kind) ≡ true) (opened : opens r m ≡ true) where
    abbrev around : List ℕ → Option Bool
    around = innermost frames

    all-same : all_names r m ≡ declarations m scope
    all-same =
        (λ j. declarations m (record { part = passes-part r passed j; stays = not (passes-calm r passed j) }) ++ cond (holds-none r (out-Node m).kind passed other j) (declarations m (record { part = part.Var; stays = not (is_ambient r) })) [])
        ∙ append-nothing (declarations m scope)
      where
        append-nothing : (xs : List Declaration) → xs ++ [] ≡ xs
        append-nothing [] = refl
        append-nothing (x ∷ xs) = ap (λ (zs : List Declaration). x ∷ zs) (append-nothing xs)

    names-same : names r around m ≡ declarations m scope
    names-same = passes-own r around (all_names r m) passed ∙ all-same

    abbrev passed_vars : List Declaration
    passed_vars = filter (λ d. d.stays) (declarations m vars)

    passing-same : passing r m ≡ passed_vars
    passing-same = (λ j. cond (holds-none r (out-Node m).kind passed other j) [] (filter (λ (d : Declaration). d.stays) (declarations m (record { part = part.Var; stays = not (passes-calm r passed j) }))))

    pub all-clear : All (Clear (frame_of top m r frames left)) (ids_declared (resolved_at unresolved top m (place_in unresolved top r frames) left) vars)
    all-clear =
        let meet : All (λ e. may_not_meet r e.form form.Var ≡ true) (declarations m scope) =
        subst (All (λ e. may_not_meet r e.form form.Var ≡ true)) (sym (declares-ids m scope))
        (map-all (λ e. may_not_meet r e.form form.Var ≡ true) (with_text no_text) (ids_declared m scope)
        (λ k d lt. meets-by r _ passed (scope-meets m r true (out-Node m).kind refl _ var opened other k d lt))) in
        let are : All (λ d. d.form ≡ form.Var) (declarations m vars) =
        subst (All (λ d. d.form ≡ form.Var)) (sym (declares-ids m vars)) (map-all (λ d. d.form ≡ form.Var) (with_text no_text) (ids_declared m vars) (forms m vars)) in
        let none : clashing r around [] (marked [] (counted r around (declarations m scope) passed_vars) ++ passed_vars) ≡ [] =
        (λ j. clashing r around [] (marked [] (counted r around (sym names-same j) (sym passing-same j)) ++ sym passing-same j))
        ∙ clear-cond (opens r m) (clashing r around [] (meeting r around m)) opened (own-clear m r around good) in
        let passed_form : All (λ d. d.form ≡ form.Var) passed_vars = all-filter (λ d. d.form ≡ form.Var) (λ d. d.stays) (declarations m vars) (λ k d lt stays. are k d lt) in
        let free : All (λ d. d.stays ≡ true → declares (declarations m scope) d.sym ≡ false) (declarations m vars) =
        all-back (λ d. declares (declarations m scope) d.sym ≡ false) (declarations m vars) (passes-none r around (declarations m scope) passed_vars none meet passed_form) in
        let ids : List DeclaredId = ids_declared (resolved_at unresolved top m (place_in unresolved top r frames) left) vars in
        let by_ids = all-map (λ d. d.stays ≡ true → declares (declarations m scope) d.sym ≡ false) (with_text no_text) ids
        (subst (All (λ d. d.stays ≡ true → declares (declarations m scope) d.sym ≡ false)) (declares-resolved unresolved top m (place_in unresolved top r frames) left vars) free) in
        λ k d lt stays. (λ j. stated (names-same j) (get_or ids k d).id.0) ∙ ap (λ (b : Bool). cond b (Some (keeps (declarations m scope) (get_or ids k d).id.0)) None) (by_ids k d lt stays)
