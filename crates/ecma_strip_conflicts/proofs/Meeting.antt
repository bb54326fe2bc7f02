-- Where nothing clashes in a scope, nothing clashes in it without types.
use Rattle.std.proofs.Common.{◌≡◌, inl, inr, ℕ, Bool, true, false, ◌&&◌, ◌||◌, not, cond, filter, map, List, [], ◌∷◌, ◌++◌, Option, None, refl, sym, ap, ap₂, ◌∙◌, subst, get_or}
use Rattle.std.specs.List.{All}
use Rattle.std.proofs.lemmas.List.Elements.{All-append, filter-append, All-cons, All-head, All-nil, All-tail}
use Rattle.ecma_kind.specs.Sorts.{is_expr}
use Rattle.ecma_kind.specs.declared.kind.Kind.{Kind}
use Rattle.ecma_kind.specs.declared.kind.Kind.TheVariants as kind
use Rattle.ecma_tree.specs.declared.node.Node.{Node, out-Node}
use Rattle.ecma_scope.specs.declared.form.Declaration.{Declaration}
use Rattle.ecma_scope.specs.declared.form.Form.{Form}
use Rattle.ecma_scope.specs.declared.form.Form.TheVariants as form
use Rattle.ecma_scope.specs.declared.form.Part.TheVariants as part
use Rattle.ecma_scope.specs.declared.form.Sought.{Sought}
use Rattle.ecma_scope.specs.declared.role.Role.{Role}
use Rattle.ecma_scope.specs.declared.role.Role.TheVariants as role
use Rattle.ecma_scope.specs.Conflicts.{clashing, has_parameters, is_further_out, is_lexical, mark, marked, meeting, merges, passing}
use Rattle.ecma_scope.specs.Declarations.{declarations, holds_vars, in_var, is_body, is_hoisted, is_own, is_stated, names, own_part, sought_in}
use Rattle.ecma_scope.specs.Scopes.{is_ambient, is_root, opens}
use Rattle.ecma_strip.specs.Stripping.{plain_kind}
use Rattle.ecma_hygiene.proofs.Telling.{and-left, and-right, or-first, true-false}
use Rattle.ecma_hygiene_scopes.specs.DeclaredIds.{DeclaredId, id_here, ids_declared, scope_ids}
use Rattle.ecma_hygiene_scopes.proofs.Forms.{forms}
use Rattle.ecma_hygiene_scopes.proofs.Passing.{map-all}
use Rattle.ecma_hygiene_scopes.proofs.Sameness.{declares-ids}
use Rattle.ecma_strip_scopes.specs.Apart.{is_free}
use Rattle.ecma_strip_scopes.proofs.Lasting.{lasting}
use Rattle.ecma_strip_scopes.proofs.RolesAlike.{Alike}
use Rattle.ecma_strip_scopes.proofs.ScopesDeclare.{vars-plain}
use Rattle.ecma_strip_scopes.proofs.ScopesSame.{goes}
use Rattle.ecma_strip_scopes.proofs.Standing.{silent}
use Rattle.ecma_strip_conflicts.proofs.Counted.{all-passed, counted, loose, passes-all}
use Rattle.ecma_strip_conflicts.proofs.Fewer.{Loose, clash-last, last, last-other, marked-last, meets_around}
use Rattle.ecma_strip_conflicts.proofs.Scope.{Near, agree-passed, conflict-more, expr-calm, is_calm, map-lasting, names-ids, near-alike, plainly, wider-after, wider-before}
use Rattle.ecma_strip_conflicts.proofs.Unmerged.{Raw, is_raw, raw, raw_part}

-- ---- an expression declares no `var`

pub var-expr : (s : Bool) (k : Kind) → is_expr k ≡ true → in_var s k ≡ None
unfolding in_var
var-expr s (kind.VarDecl v d) h = absurd (true-false h refl)
var-expr s kind.List h = absurd (true-false h refl)
var-expr s (kind.Module b) h = absurd (true-false h refl)
var-expr s (kind.Script b) h = absurd (true-false h refl)
var-expr s kind.TsModuleBlock h = absurd (true-false h refl)
var-expr s kind.ExportDecl h = absurd (true-false h refl)
var-expr s kind.BlockStmt h = absurd (true-false h refl)
var-expr s kind.IfStmt h = absurd (true-false h refl)
var-expr s kind.ForStmt h = absurd (true-false h refl)
var-expr s kind.ForInStmt h = absurd (true-false h refl)
var-expr s (kind.ForOfStmt a) h = absurd (true-false h refl)
var-expr s kind.WhileStmt h = absurd (true-false h refl)
var-expr s kind.DoWhileStmt h = absurd (true-false h refl)
var-expr s kind.LabeledStmt h = absurd (true-false h refl)
var-expr s kind.TryStmt h = absurd (true-false h refl)
var-expr s kind.CatchClause h = absurd (true-false h refl)
var-expr s kind.SwitchStmt h = absurd (true-false h refl)
var-expr s kind.SwitchCase h = absurd (true-false h refl)
var-expr s _ h = refl

var-here : (s : Bool) (k : Kind) → id_here (record { part = part.Var; stays = s }) k ≡ []
var-here s (kind.Ident t c o) = refl
var-here s _ = refl

pub expr-vars : (n : Node) (s : Bool) → is_expr (out-Node n).kind ≡ true → ids_declared n (record { part = part.Var; stays = s }) ≡ []
unfolding sought_in
expr-vars n s h = silent n (record { part = part.Var; stays = s }) (var-here s (out-Node n).kind) (λ j. var-expr s (out-Node n).kind h)

-- ---- what is a scope's own

own-same : (r : Role) (around around' : List ℕ → Option Bool) (d : Declaration) → (has_parameters r ≡ true → is_stated (around' d.sym) ≡ is_stated (around d.sym)) → is_own r around' d ≡ is_own r around d
own-same role.Body around around' d h = ap (λ (b : Bool). not (is_hoisted d.form && b)) (h refl)
own-same _ around around' d h = refl

unhoisted : (f : Form) → is_calm f ≡ true → is_hoisted f ≡ false
unhoisted form.Own h = refl
unhoisted form.Parameter h = refl
unhoisted _ h = absurd (true-false h refl)

calm-own : (q : Role) → is_free q ≡ true → (around' : List ℕ → Option Bool) (d : Declaration) → is_calm d.form ≡ true → is_own q around' d ≡ true
calm-own role.Plain free around' d h = refl
calm-own role.Body free around' d h = ap (λ (b : Bool). not (b && is_stated (around' d.sym))) (unhoisted d.form h)
calm-own _ free around' d h = absurd (true-false free refl)

meets-same : (r : Role) (around around' : List ℕ → Option Bool) (d : Declaration) → (has_parameters r ≡ true → is_stated (around' d.sym) ≡ is_stated (around d.sym)) → meets_around r around' d ≡ meets_around r around d
meets-same role.Body around around' d h = ap (λ (b : Bool). is_lexical role.Body d.form && b) (h refl)
meets-same role.CatchBody around around' d h = ap (λ (b : Bool). is_lexical role.CatchBody d.form && b) (h refl)
meets-same _ around around' d h = refl

calm-lexical : (f : Form) → is_calm f ≡ true → is_lexical role.Body f ≡ false
calm-lexical form.Own h = refl
calm-lexical form.Parameter h = refl
calm-lexical _ h = absurd (true-false h refl)

abbrev Unlexical : Declaration → Type 0
Unlexical d = is_lexical role.Body d.form ≡ false

marked-all : (earlier ds : List Declaration) → All Unlexical ds → All Unlexical (marked earlier ds)
marked-all earlier [] all = All-nil Unlexical
marked-all earlier (d ∷ ds) all =
    All-cons Unlexical (mark earlier d) (marked (earlier ++ mark earlier d ∷ []) ds) (by (merges earlier d)) (marked-all (earlier ++ mark earlier d ∷ []) ds (All-tail Unlexical d ds all))
  where
    by : (b : Bool) → Unlexical (cond b (record d { form = form.Merged }) d)
    by true = refl
    by false = All-head Unlexical d ds all

none-meets : (q : Role) → is_free q ≡ true → (around' : List ℕ → Option Bool) (d : Declaration) → Unlexical d → meets_around q around' d ≡ true → ⊥
none-meets role.Plain free around' d none h = true-false h refl
none-meets role.Body free around' d none h = true-false (and-left (is_lexical role.Body d.form) (is_stated (around' d.sym)) h) none
none-meets _ free around' d none h = true-false free refl

own-raw : (r : Role) → raw_part (own_part r) ≡ true
own-raw role.Default = refl
own-raw _ = refl

-- ---- a scope

-- with `t` of the texts that are no `this`
module _ (t : Bool) (n m : Node) (r q : Role) (around around' : List ℕ → Option Bool) (near : Near r q (out-Node n).kind) (kind_st : (out-Node m).kind ≡ plain_kind (out-Node n).kind)
    (agrees : has_parameters q ≡ true → (text : List ℕ) → goes t text ≡ false → is_stated (around' text) ≡ is_stated (around text)) (opened : opens r n ≡ true) (calm : is_ambient r ≡ false)
    (ids : scope_ids q m ≡ lasting t (scope_ids r n)) where
  abbrev k : Kind
  k = (out-Node n).kind

  abbrev all_ids : List DeclaredId
  all_ids = scope_ids r n

  abbrev all : List Declaration
  all = map plainly all_ids

  abbrev own : List Declaration
  own = filter (is_own r around) all

  calm-all : r ≡ role.Plain → is_expr k ≡ true → All (λ d. is_calm d.form ≡ true) all
  calm-all plain expr =
      map-all (λ d. is_calm d.form ≡ true) plainly all_ids
      (subst (λ (z : Role). All (λ (d : DeclaredId). is_calm d.form ≡ true) (scope_ids z n)) (sym plain) (expr-calm n expr (subst (λ (z : Role). opens z n ≡ true) plain opened)))

  own-agree : All (λ d. last t d ≡ true → is_own q around' d ≡ is_own r around d) all
  own-agree = elim near [
    | inl same ↦ λ i e lt stays. ap (λ (z : Role). is_own z around' (get_or all i e)) same
        ∙ own-same r around around' (get_or all i e) (λ body. agrees (ap has_parameters same ∙ body) (get_or all i e).sym (last-other t (get_or all i e) stays))
    | inr is ↦ λ i e lt stays. calm-own q is.1 around' (get_or all i e) (calm-all is.0 is.2 i e lt) ∙ sym (ap (λ (z : Role). is_own z around (get_or all i e)) is.0)
  ]

  own-names : names r around n ≡ own
  own-names = ap (filter (is_own r around)) (names-ids r n)

  -- it declares what lasts
  own-last : names q around' m ≡ filter (last t) own
  own-last =
      ap (filter (is_own q around')) (names-ids q m ∙ ap (map plainly) ids ∙ map-lasting t all_ids) ∙ agree-passed (is_own q around') (is_own r around) (last t) all own-agree

  pub names-last : names q around' m ≡ filter (last t) (names r around n)
  names-last = own-last ∙ sym (ap (filter (last t)) own-names)

  abbrev var : Bool → Sought
  var s = record { part = part.Var; stays = s }

  module _ (vars : holds_vars r k ≡ false → ids_declared m (var true) ≡ lasting t (ids_declared n (var true))) (safe : (is_root r || is_body r) ≡ true → holds_vars r k ≡ false → is_expr k ≡ true) where
    abbrev alike : Alike r q k
    alike = near-alike r q k near

    abbrev stay : Declaration → Bool
    stay d = d.stays

    abbrev passed : List Declaration
    passed = passing r n

    stays : (d : Declaration) → last t d ≡ true → d.stays ≡ true
    stays d = and-right (not (goes t d.sym)) d.stays

    passing-by : (b : Bool) → holds_vars r k ≡ b → cond b [] (filter stay (declarations m (var true))) ≡ filter (last t) (cond b [] (filter stay (declarations n (var true))))
    passing-by true is = refl
    passing-by false is =
        ap (filter stay) (declares-ids m (var true) ∙ ap (map plainly) (vars is) ∙ map-lasting t (ids_declared n (var true)) ∙ ap (filter (last t)) (sym (declares-ids n (var true))))
        ∙ wider-after stay (last t) stays (declarations n (var true))
        ∙ sym (wider-before stay (last t) stays (declarations n (var true)))

    -- what passes through it is what lasts of what passes
    passing-last : passing q m ≡ filter (last t) passed
    passing-last =
        (λ j. cond ((ap (holds_vars q) kind_st ∙ vars-plain q k ∙ alike.vars) j) [] (filter stay (declarations m (var (not ((alike.ambient ∙ calm) j))))))
        ∙ passing-by (holds_vars r k) refl
        ∙ sym (λ j. filter (last t) (cond (holds_vars r k) [] (filter stay (declarations n (var (not (calm j)))))))

    abbrev IsVar : Declaration → Type 0
    IsVar d = d.form ≡ form.Var

    passing-vars : All IsVar passed
    passing-vars = by (holds_vars r k)
      where
        are : All IsVar (declarations n (var (not (is_ambient r))))
        are = subst (All IsVar) (sym (declares-ids n (var (not (is_ambient r))))) (map-all IsVar plainly (ids_declared n (var (not (is_ambient r)))) (forms n (var (not (is_ambient r)))))

        by : (b : Bool) → All IsVar (cond b [] (filter stay (declarations n (var (not (is_ambient r))))))
        by true = All-nil IsVar
        by false = all-passed IsVar stay (declarations n (var (not (is_ambient r)))) are

    passing-none : (holds_vars r k ≡ false → is_expr k ≡ true) → passed ≡ []
    passing-none expr = by (holds_vars r k) refl
      where
        by : (b : Bool) → holds_vars r k ≡ b → cond b [] (filter stay (declarations n (var (not (is_ambient r))))) ≡ []
        by true is = refl
        by false is = ap (filter stay) (declares-ids n (var (not (is_ambient r))) ∙ ap (map plainly) (expr-vars n (not (is_ambient r)) (expr is)))

    abbrev among : List Declaration
    among = counted r around own passed

    raw-ids : All Raw all_ids
    raw-ids =
        let s : Bool = not (is_ambient r) in
        All-append Raw (ids_declared n (record { part = own_part r; stays = s })) (cond (holds_vars r k) (ids_declared n (var s)) []) (raw n (record { part = own_part r; stays = s }) (own-raw r)) (by (holds_vars r k))
      where
        by : (b : Bool) → All Raw (cond b (ids_declared n (var (not (is_ambient r)))) [])
        by true = raw n (var (not (is_ambient r))) refl
        by false = All-nil Raw

    module _ (clear : clashing r around [] (meeting r around n) ≡ []) where
      clear-own : clashing r around [] (marked [] among ++ passed) ≡ []
      clear-own = (λ j. clashing r around [] (marked [] (filter (λ d. d.stays || is_further_out r around passed d.sym) (sym own-names j)) ++ passed)) ∙ clear

      all-loose : All Loose among
      all-loose =
          loose r around own passed clear-own (all-passed (λ d. is_raw d.form ≡ true) (is_own r around) all (map-all (λ d. is_raw d.form ≡ true) plainly all_ids raw-ids)) (passes-all (is_own r around) all) passing-vars
          (λ h. passing-none (safe h))

      abbrev counts : Role → (List ℕ → Option Bool) → List Declaration → Declaration → Bool
      counts role around passed d = d.stays || is_further_out role around passed d.sym

      wider : (role : Role) (around : List ℕ → Option Bool) (passed : List Declaration) (d : Declaration) → last t d ≡ true → counts role around passed d ≡ true
      wider role around passed d lasts = or-first d.stays (is_further_out role around passed d.sym) (stays d lasts)

      meeting-last : meeting q around' m ≡ filter (last t) (marked [] among ++ passed)
      meeting-last =
          ap (λ (xs : List Declaration). marked [] (filter (counts q around' (passing q m)) xs) ++ passing q m) own-last
          ∙ ap (λ (xs : List Declaration). marked [] xs ++ passing q m)
          (wider-after (counts q around' (passing q m)) (last t) (wider q around' (passing q m)) own ∙ sym (wider-before (counts r around passed) (last t) (wider r around passed) own))
          ∙ ap₂ (λ (xs ys : List Declaration). xs ++ ys) (marked-last t [] [] among (λ text other. refl) all-loose) passing-last
          ∙ sym (filter-append (last t) (marked [] among) passed)

      abbrev Less : Declaration → Type 0
      Less d = last t d ≡ true → meets_around q around' d ≡ true → meets_around r around d ≡ true

      less : All Less (marked [] among ++ passed)
      less = elim near [
        | inl same ↦ λ i e lt lasts h. sym (meets-same r around around' (get_or (marked [] among ++ passed) i e)
            (λ body. agrees (ap has_parameters same ∙ body) (get_or (marked [] among ++ passed) i e).sym (last-other t (get_or (marked [] among ++ passed) i e) lasts)))
            ∙ ap (λ (z : Role). meets_around z around' (get_or (marked [] among ++ passed) i e)) (sym same) ∙ h
        | inr is ↦ All-append Less (marked [] among) passed
            (λ i e lt lasts h. absurd (none-meets q is.1 around' (get_or (marked [] among) i e) (marked-all [] among (unlexical is.0 is.2) i e lt) h))
            (subst (All Less) (sym (passing-none (λ h. is.2))) (All-nil Less))
      ]
        where
          unlexical : r ≡ role.Plain → is_expr k ≡ true → All Unlexical among
          unlexical plain expr =
              all-passed Unlexical (λ d. d.stays || is_further_out r around passed d.sym) own (all-passed Unlexical (is_own r around) all (λ i e lt. calm-lexical (get_or all i e).form (calm-all plain expr i e lt)))

      -- so it clashes nowhere
      pub scope-clear : clashing q around' [] (meeting q around' m) ≡ []
      scope-clear = ap (clashing q around' []) meeting-last ∙ clash-last t r q around around' (conflict-more r q k near) [] [] (marked [] among ++ passed) (λ d h. h) less clear-own
