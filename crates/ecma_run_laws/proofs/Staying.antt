-- A tree in which no name stands that goes stays as it is.
use Rattle.std.proofs.Common.{◌≡◌, ◌++◌, ◌&&◌, refl, sym, ap, ap₂, ◌∙◌, subst, List, [], ◌∷◌, map, filter, Bool, true, false, not, cond}
use Rattle.ecma_kind.specs.declared.kind.Kind.{Kind}
use Rattle.ecma_kind.specs.declared.kind.Kind.TheVariants as kind
use Rattle.ecma_kind.specs.declared.span.Span.{Span}
use Rattle.ecma_tree.specs.declared.node.Node.{Node, Node-F, fold-roll-Node, ind-Node, roll-Node, out-Node}
use Rattle.ecma_tree.specs.Nodes.{node_of}
use Rattle.ecma_runs.specs.State.{Id}
use Rattle.ecma_runs.specs.Meaning.{Meaning}
use Rattle.ecma_runs.specs.Declarations.{all_declared, declared_of, all_last_declared, last_declared_of, has_no_effect}
use Rattle.ecma_runs.specs.Evaluation.{role_by, no_effect, constant_meaning, set_export, meaning_by, meaning}
use Rattle.ecma_runs.proofs.Layer.{meaning-roll}
use Rattle.ecma_runs.proofs.Kept.{AllNodes}
use Rattle.ecma_runs.proofs.Standing.{Passes, passes_parts, NamesPass, declares}
use Rattle.ecma_run_laws.specs.Lessened.{are_gone, is_idle_declarator_by, declarator_goes, is_specifier_by, specifier_goes, is_idle_by, statement_goes, Lessened, fewer, left_of, lessened_step, lessened, without}
use Rattle.ecma_run_laws.proofs.Dropping.{stands}
use Rattle.ecma_run_laws.proofs.Standing.{each_of}

-- the ids that are declared in a tree stand in it
module _ (test : Id → Bool) where
  abbrev Stand : List Id → Type 0
  Stand ids = NamesPass test ids

  append : (xs ys : List Id) → Stand xs → Stand ys → Stand (xs ++ ys)
  append [] ys p q = q
  append (x ∷ xs) ys p q = (p.0, append xs ys p.1 q)

  -- what is declared in a node, and in what it does behind all items
  abbrev Declared : Meaning → Type 0
  Declared m = Stand m.declared × Stand m.last_declared

  -- what a part binds, and what is declared in it
  abbrev Part : Node → Type 0
  Part n = Stand (meaning n).names × Declared (meaning n)

  all_stand : (cs : List Node) → AllNodes Part cs → Stand (all_declared (map meaning cs))
  all_stand [] h = tt
  all_stand (n ∷ cs) h = append (meaning n).declared (all_declared (map meaning cs)) h.0.1.0 (all_stand cs h.1)

  role_declared : (k : Kind) (cs : List Node) → AllNodes Part cs → Stand (declared_of k (map meaning cs))
  role_declared (kind.VarDeclarator definite) (name ∷ init ∷ []) h = append _ _ h.0.0 (append _ _ h.0.1.0 h.1.0.1.0)
  role_declared kind.Param (pattern' ∷ []) h = append _ _ h.0.0 h.0.1.0
  role_declared (kind.TsParamProp accessibility is_override readonly) (pattern' ∷ []) h = append _ _ h.0.0 h.0.1.0
  role_declared (kind.ArrowExpr is_async is_generator) (parameters ∷ body ∷ types ∷ return_type ∷ []) h = append _ _ h.0.0 (append _ _ h.0.1.0 h.1.0.1.0)
  role_declared kind.SetterProp (key ∷ this_parameter ∷ parameter ∷ body ∷ []) h = append _ _ h.0.1.0 (append _ _ h.1.1.0.0 (append _ _ h.1.1.0.1.0 h.1.1.1.0.1.0))
  role_declared kind.CatchClause (parameter ∷ body ∷ []) h = append _ _ h.0.0 (append _ _ h.0.1.0 h.1.0.1.0)
  role_declared (kind.FnDecl false) (name ∷ function ∷ []) h = append _ _ h.0.0 h.1.0.1.0
  role_declared kind.FnExpr (name ∷ function ∷ []) h = append _ _ h.0.0 h.1.0.1.0
  role_declared (kind.ClassDecl false) (name ∷ class ∷ []) h = append _ _ h.0.0 h.1.0.1.0
  role_declared kind.ClassExpr (name ∷ class ∷ []) h = append _ _ h.0.0 h.1.0.1.0
  role_declared (kind.TsEnumDecl false is_const) (name ∷ members ∷ []) h = append _ _ h.0.0 h.1.0.1.0
  role_declared (kind.TsModuleDecl false global) (name ∷ body ∷ []) h = append _ _ h.0.0 h.1.0.1.0
  role_declared kind.ImportDefaultSpecifier (local ∷ []) h = h.0.0
  role_declared kind.ImportStarAsSpecifier (local ∷ []) h = h.0.0
  role_declared (kind.ImportNamedSpecifier false) (local ∷ name ∷ []) h = h.0.0
  role_declared (kind.TsTypeAliasDecl declare) cs h = tt
  role_declared kind.Absent cs h = tt
  role_declared kind.TsExportAssignment cs h = tt
  role_declared (kind.Module shebang) (body ∷ []) h = append _ _ h.0.1.0 h.0.1.1
  role_declared _ cs h = all_stand cs h

  all_last_stand : (cs : List Node) → AllNodes Part cs → Stand (all_last_declared (map meaning cs))
  all_last_stand [] h = tt
  all_last_stand (n ∷ cs) h = append (meaning n).last_declared (all_last_declared (map meaning cs)) h.0.1.1 (all_last_stand cs h.1)

  role_last : (k : Kind) (cs : List Node) → AllNodes Part cs → Stand (last_declared_of k (map meaning cs))
  role_last kind.List cs h = all_last_stand cs h
  role_last kind.TsExportAssignment (e ∷ []) h = h.0.1.0
  role_last _ cs h = tt

  either : (b : Bool) (m m' : Meaning) → Declared m → Declared m' → Declared (cond b m m')
  either true m m' p q = p
  either false m m' p q = q

  constant_declared : (n : Node) (name source : Meaning) → Stand name.names → Stand name.declared → Stand source.declared → Stand (constant_meaning n name source).declared
  constant_declared n name source names p q = append _ _ (append _ _ (append _ _ names (append _ _ (append _ _ p tt) q)) tt) tt

  layer_declared : (n : Node) (k : Kind) (cs : List Node) → AllNodes Part cs → Declared (meaning_by n k (map meaning cs))
  layer_declared n kind.ParenExpr (e ∷ []) h = h.0.1
  layer_declared n kind.TsAsExpr (e ∷ type ∷ []) h = h.0.1
  layer_declared n kind.TsTypeAssertion (e ∷ type ∷ []) h = h.0.1
  layer_declared n kind.TsConstAssertion (e ∷ []) h = h.0.1
  layer_declared n kind.TsNonNullExpr (e ∷ []) h = h.0.1
  layer_declared n kind.TsInstantiation (e ∷ types ∷ []) h = h.0.1
  layer_declared n kind.TsSatisfiesExpr (e ∷ type ∷ []) h = h.0.1
  layer_declared n kind.TsTypeAnn cs h = (tt, tt)
  layer_declared n kind.TsTypeParamDecl cs h = (tt, tt)
  layer_declared n kind.TsTypeParamInstantiation cs h = (tt, tt)
  layer_declared n kind.TsQualifiedName (left ∷ right ∷ []) h = (role_declared kind.MemberExpr (left ∷ right ∷ []) h, tt)
  layer_declared n (kind.TsImportEqualsDecl false false) (name ∷ source ∷ []) h = (constant_declared n (meaning name) (meaning source) h.0.0 h.0.1.0 h.1.0.1.0, tt)
  layer_declared n (kind.TsImportEqualsDecl true false) (name ∷ source ∷ []) h =
      either (meaning source).is_required (constant_meaning n (meaning name) (set_export n (meaning name) (meaning source))) (role_by n kind.ExportDecl (constant_meaning n (meaning name) (meaning source) ∷ []))
      (constant_declared n (meaning name) (set_export n (meaning name) (meaning source)) h.0.0 h.0.1.0 (append _ _ h.1.0.1.0 tt), tt)
      (append _ _ (constant_declared n (meaning name) (meaning source) h.0.0 h.0.1.0 h.1.0.1.0) tt, tt)
  layer_declared n (kind.TsEnumDecl false is_const) (name ∷ members ∷ []) h = (role_declared (kind.TsEnumDecl false is_const) (name ∷ members ∷ []) h, tt)
  layer_declared n kind.TsEnumMember (name ∷ init ∷ []) h = (role_declared kind.TsEnumMember (name ∷ init ∷ []) h, tt)
  layer_declared n k cs h = either (has_no_effect k (map meaning cs)) (no_effect n) (role_by n k (map meaning cs)) (tt, tt) (role_declared k cs h, role_last k cs h)

  DeclaredStand : Node → Type 0
  DeclaredStand n = Passes test n → Declared (meaning n)

  each_part : (cs : List Node) → AllNodes DeclaredStand cs → AllNodes (Passes test) cs → AllNodes Part cs
  unfolding DeclaredStand
  each_part [] all pass = tt
  each_part (n ∷ cs) all pass = (((declares test n pass.0).names, all.0 pass.0), each_part cs all.1 pass.1)

  declared_stand_if : (n : Node) → DeclaredStand n
  unfolding DeclaredStand
  declared_stand_if = ind-Node DeclaredStand (λ x y is pass.
      let t = passes_parts test x pass in
      subst Declared (sym (meaning-roll x))
      (layer_declared (roll-Node x) x.kind x.children (each_part x.children (subst (AllNodes DeclaredStand) (ap (λ z. z.children) is) (each_of y.children)) t.1)))

  pub declared_stand : (n : Node) → Passes test n → Stand (meaning n).declared
  unfolding DeclaredStand
  declared_stand n pass = (declared_stand_if n pass).0

module _ (gone : Id → Bool) where
  abbrev Stays : Node → Type 0
  Stays n = Passes (stands gone) n

  -- nothing goes

  both_not : (b : Bool) → not b ≡ true → b ≡ false
  both_not true h = absurd (cc)
  both_not false h = refl

  none_gone : (ids : List Id) → NamesPass (stands gone) ids → are_gone gone ids ≡ false
  none_gone [] h = refl
  none_gone (id ∷ ids) h = rw (both_not (gone id) h.0) refl

  and_false : (a b : Bool) → b ≡ false → a && b ≡ false
  and_false true b h = h
  and_false false b h = refl

  pub statement_stays : (n : Node) → Stays n → statement_goes gone n ≡ false
  statement_stays n h = and_false (is_idle_by gone (out-Node n).kind (out-Node n).children) (are_gone gone (meaning n).declared) (none_gone (meaning n).declared (declared_stand (stands gone) n h))

  pub declarator_stays : (n : Node) → Stays n → declarator_goes gone n ≡ false
  declarator_stays n h = and_false (is_idle_declarator_by (out-Node n).kind (out-Node n).children) (are_gone gone (meaning n).declared) (none_gone (meaning n).declared (declared_stand (stands gone) n h))

  pub specifier_stays : (n : Node) → Stays n → specifier_goes gone n ≡ false
  specifier_stays n h = and_false (is_specifier_by (out-Node n).kind (out-Node n).children) (are_gone gone (meaning n).declared) (none_gone (meaning n).declared (declared_stand (stands gone) n h))

  abbrev itself : Node → Lessened
  itself n = record { whole = n; less = n; statements = n; declarators = n; specifiers = n }

  all_less : (cs : List Node) → map (λ l. l.less) (map itself cs) ≡ cs
  all_less [] = refl
  all_less (n ∷ cs) = ap (λ rest. n ∷ rest) (all_less cs)

  all_whole : (cs : List Node) → map (λ l. l.whole) (map itself cs) ≡ cs
  all_whole [] = refl
  all_whole (n ∷ cs) = ap (λ rest. n ∷ rest) (all_whole cs)

  left_is : (k : Kind) (cs : List Node) → left_of k (map itself cs) ≡ cs
  left_is (kind.Module shebang) (body ∷ []) = refl
  left_is kind.BlockStmt (body ∷ []) = refl
  left_is (kind.VarDecl word false) (ds ∷ []) = refl
  left_is (kind.ImportDecl false) (ss ∷ source ∷ attributes ∷ []) = refl
  left_is k cs = all_less cs

  all_stay : (goes : Node → Bool) → ((n : Node) → Stays n → goes n ≡ false) → (cs : List Node) → AllNodes Stays cs → map (λ l. l.less) (filter (λ l. not (goes l.whole)) (map itself cs)) ≡ cs
  all_stay goes h [] stay = refl
  all_stay goes h (n ∷ cs) stay = rw (h n stay.0) (ap (λ rest. n ∷ rest) (all_stay goes h cs stay.1))

  fewer_is : (goes : Node → Bool) → ((n : Node) → Stays n → goes n ≡ false) → (span : Span) (k : Kind) (cs : List Node) → AllNodes Stays cs → fewer goes span k (map itself cs) (left_of k (map itself cs)) ≡ node_of span k cs
  fewer_is goes h span kind.List cs stay = ap (node_of span kind.List) (all_stay goes h cs stay)
  fewer_is goes h span k cs stay = ap (node_of span k) (left_is k cs)

  StaysItself : Node → Type 0
  StaysItself n = Stays n → lessened gone n ≡ itself n

  each_itself : (cs : List Node) → AllNodes StaysItself cs → AllNodes Stays cs → map (lessened gone) cs ≡ map itself cs
  unfolding StaysItself
  each_itself [] all stay = refl
  each_itself (n ∷ cs) all stay = ap₂ (λ a rest. a ∷ rest) (all.0 stay.0) (each_itself cs all.1 stay.1)

  step_itself : (x : Node-F Node) → AllNodes Stays x.children → lessened_step gone (record { span = x.span; kind = x.kind; children = map itself x.children }) ≡ itself (roll-Node x)
  step_itself x stay = λ i. record {
    whole = ap (node_of x.span x.kind) (all_whole x.children) i;
    less = ap (node_of x.span x.kind) (left_is x.kind x.children) i;
    statements = fewer_is (statement_goes gone) statement_stays x.span x.kind x.children stay i;
    declarators = fewer_is (declarator_goes gone) declarator_stays x.span x.kind x.children stay i;
    specifiers = fewer_is (specifier_goes gone) specifier_stays x.span x.kind x.children stay i;
  }

  stays_itself : (n : Node) → StaysItself n
  unfolding StaysItself
  stays_itself = ind-Node StaysItself (λ x y is stay.
      let t = passes_parts (stands gone) x stay in
      fold-roll-Node Lessened (lessened_step gone) x
      ∙ ap (λ cs. lessened_step gone (record { span = x.span; kind = x.kind; children = cs })) (each_itself x.children (subst (AllNodes StaysItself) (ap (λ z. z.children) is) (each_of y.children)) t.1)
      ∙ step_itself x t.1)

  pub all_stays : (n : Node) → Passes (stands gone) n → without gone n ≡ n
  unfolding StaysItself
  all_stays n stay = ap (λ l. l.less) (stays_itself n stay)
