-- What a node looks up is fewer where its children look up fewer; and then no more of it is caught.
use Rattle.std.proofs.Common.{◌≡◌, refl, sym, ap, ap₂, ◌∙◌, List, [], ◌∷◌, ◌++◌, map, Bool, true, false, cond, not, ◌&&◌, ◌||◌}
use Rattle.ecma_kind.specs.declared.kind.Kind.{Kind}
use Rattle.ecma_kind.specs.declared.kind.Kind.TheVariants as kind
use Rattle.ecma_hygiene.proofs.Telling.{and-both, and-left, and-right, or-first, or-second, true-false}
use Rattle.ecma_runs.specs.State.{Id, same_id}
use Rattle.ecma_runs.specs.Environment.{except, ids_of, is_among}
use Rattle.ecma_runs.specs.Meaning.{Meaning}
use Rattle.ecma_runs.specs.Declarations.{all_parameter_names, has_no_effect, parameter_names_of}
use Rattle.ecma_runs.specs.Sought.{Seeker, Sought, all_code_sought, all_sought, body_sought_of, code_sought_of, meanings, nothing_sought, outside_of, role_sought, sought_by, sought_by_body, sought_by_code, sought_of}
use Rattle.ecma_runs.specs.Meeting.{body_meets, catches_none, code_meets, function_meets, is_told, meets_by}
use Rattle.ecma_runs.proofs.Names.{same_id-equal, same_id-itself}
use Rattle.ecma_meeting_runs.proofs.Flags.{Flags, Told, effect-alike, news, olds}

-- ids among others

pub record Among (xs' xs : List Id) : Type 0 where
  pub each : (id : Id) → is_among id xs' ≡ true → is_among id xs ≡ true

pub among-itself : {xs : List Id} → Among xs xs
among-itself = record { each = λ id h. h }

pub among-equal : {xs' xs : List Id} → xs' ≡ xs → Among xs' xs
among-equal e = record { each = λ id h. ap (is_among id) (sym e) ∙ h }

pub among-none : {xs : List Id} → Among [] xs
among-none = record { each = λ id h. absurd (true-false h refl) }

left-or : (a b c : Bool) → (b ≡ true → c ≡ true) → (a || b) ≡ true → (a || c) ≡ true
left-or true b c f h = refl
left-or false b c f h = f h

in-left : (id : Id) (xs ys : List Id) → is_among id xs ≡ true → is_among id (xs ++ ys) ≡ true
in-left id [] ys h = absurd (true-false h refl)
in-left id (x ∷ xs) ys h = left-or (same_id x id) (is_among id xs) (is_among id (xs ++ ys)) (in-left id xs ys) h

in-right : (id : Id) (xs ys : List Id) → is_among id ys ≡ true → is_among id (xs ++ ys) ≡ true
in-right id [] ys h = h
in-right id (x ∷ xs) ys h = or-second (same_id x id) (is_among id (xs ++ ys)) (in-right id xs ys h)

pub among-left : {xs' xs : List Id} (ys : List Id) → Among xs' xs → Among xs' (xs ++ ys)
among-left {xs'} {xs} ys f = record { each = λ id h. in-left id xs ys (f.each id h) }

pub among-right : {xs' ys : List Id} (xs : List Id) → Among xs' ys → Among xs' (xs ++ ys)
among-right {xs'} {ys} xs f = record { each = λ id h. in-right id xs ys (f.each id h) }

joined : (id : Id) (xs ys zs : List Id) → (is_among id xs ≡ true → is_among id zs ≡ true) → (is_among id ys ≡ true → is_among id zs ≡ true) → is_among id (xs ++ ys) ≡ true → is_among id zs ≡ true
joined id [] ys zs f g h = g h
joined id (x ∷ xs) ys zs f g h = go (same_id x id) f (λ e. joined id xs ys zs e g) h
  where
    go : (b : Bool) → ((b || is_among id xs) ≡ true → is_among id zs ≡ true) → ((is_among id xs ≡ true → is_among id zs ≡ true) → is_among id (xs ++ ys) ≡ true → is_among id zs ≡ true) → (b || is_among id (xs ++ ys)) ≡ true
        → is_among id zs ≡ true
    go true f rec h = f refl
    go false f rec h = rec f h

pub among-join : {xs ys zs : List Id} → Among xs zs → Among ys zs → Among (xs ++ ys) zs
among-join {xs} {ys} {zs} f g = record { each = λ id h. joined id xs ys zs (f.each id) (g.each id) h }

pub among-both : {xs' xs ys' ys : List Id} → Among xs' xs → Among ys' ys → Among (xs' ++ ys') (xs ++ ys)
among-both {xs'} {xs} {ys'} {ys} f g = among-join (among-left ys f) (among-right xs g)

and-false : (a : Bool) → (a && false) ≡ false
and-false true = refl
and-false false = refl

-- what is left outside of a record is what is none of its names
left-outside : (id : Id) (ids xs : List Id) → is_among id (outside_of ids xs) ≡ (is_among id xs && not (is_among id ids))
left-outside id ids [] = refl
left-outside id ids (y ∷ ys) = step (left-outside id ids ys) (is_among y ids) refl (same_id y id) refl
  where
    named : same_id y id ≡ true → is_among id ids ≡ is_among y ids
    named e = ap (λ z. is_among z ids) (sym (same_id-equal y id e))

    step : is_among id (outside_of ids ys) ≡ (is_among id ys && not (is_among id ids)) → (p : Bool) → is_among y ids ≡ p → (q : Bool) → same_id y id ≡ q
        → is_among id (outside_of ids (y ∷ ys)) ≡ ((same_id y id || is_among id ys) && not (is_among id ids))
    step rec true e true f =
        let g : is_among id (outside_of ids (y ∷ ys)) ≡ is_among id (outside_of ids ys) = rw e refl in
        let out : not (is_among id ids) ≡ false = ap not (named f ∙ e) in
        g ∙ rec ∙ ap (λ z. is_among id ys && z) out ∙ and-false (is_among id ys) ∙ sym (ap (λ z. (same_id y id || is_among id ys) && z) out ∙ and-false (same_id y id || is_among id ys))
    step rec true e false f =
        let g : is_among id (outside_of ids (y ∷ ys)) ≡ is_among id (outside_of ids ys) = rw e refl in
        g ∙ rec ∙ ap (λ z. (z || is_among id ys) && not (is_among id ids)) (sym f)
    step rec false e true f =
        let g : is_among id (outside_of ids (y ∷ ys)) ≡ (same_id y id || is_among id (outside_of ids ys)) = rw e refl in
        g ∙ ap (λ z. z || is_among id (outside_of ids ys)) f ∙ sym (ap (λ z. (z || is_among id ys) && not (is_among id ids)) f ∙ ap not (named f ∙ e))
    step rec false e false f =
        let g : is_among id (outside_of ids (y ∷ ys)) ≡ (same_id y id || is_among id (outside_of ids ys)) = rw e refl in
        g ∙ ap (λ z. z || is_among id (outside_of ids ys)) f ∙ rec ∙ ap (λ z. (z || is_among id ys) && not (is_among id ids)) (sym f)

pub among-outside : {ids' ids xs' xs : List Id} → ids' ≡ ids → Among xs' xs → Among (outside_of ids' xs') (outside_of ids xs)
among-outside {ids'} {ids} {xs'} {xs} e f = record {
  each = λ id h.
      let t : is_among id xs' && not (is_among id ids') ≡ true = sym (left-outside id ids' xs') ∙ h in
      left-outside id ids xs ∙ and-both (is_among id xs) (not (is_among id ids)) (f.each id (and-left (is_among id xs') (not (is_among id ids')) t))
      (ap (λ z. not (is_among id z)) (sym e) ∙ and-right (is_among id xs') (not (is_among id ids')) t);
}

-- what meanings have alike that names are looked up by

pub record Alike (m' m : Meaning) : Type 0 where
  pub names : m'.names ≡ m.names
  pub default_names : m'.default_names ≡ m.default_names
  pub lexicals : m'.lexicals ≡ m.lexicals
  pub vars : m'.vars ≡ m.vars
  pub locals : m'.locals ≡ m.locals
  pub parameter_names : m'.parameter_names ≡ m.parameter_names
  pub declared : m'.declared ≡ m.declared
  pub flags : Flags m' m

-- and what is looked up is among the other

pub record Fewer (s' s : Sought) : Type 0 where
  pub sought : Among s'.sought s.sought
  pub code_sought : Among s'.code_sought s.code_sought
  pub body_sought : Among s'.body_sought s.body_sought

pub record Pair : Type 0 where
  pub first : Seeker
  pub second : Seeker
  pub alike : Alike second.meaning first.meaning
  pub fewer : Fewer second.seeks first.seeks

abbrev pub firsts : List Pair → List Seeker
firsts ps = map (λ p. p.first) ps

abbrev pub seconds : List Pair → List Seeker
seconds ps = map (λ p. p.second) ps

all-fewer : (ps : List Pair) → Among (all_sought (seconds ps)) (all_sought (firsts ps))
all-fewer [] = among-itself
all-fewer (p ∷ ps) = among-both p.fewer.sought (all-fewer ps)

all-code : (ps : List Pair) → Among (all_code_sought (seconds ps)) (all_code_sought (firsts ps))
all-code [] = among-itself
all-code (p ∷ ps) = among-both p.fewer.code_sought (all-code ps)

all-parameters : (ps : List Pair) → all_parameter_names (meanings (seconds ps)) ≡ all_parameter_names (meanings (firsts ps))
all-parameters [] = refl
all-parameters (p ∷ ps) = ap₂ (λ a b. a ++ b) p.alike.parameter_names (all-parameters ps)

parameters-alike : (k : Kind) (ps : List Pair) → parameter_names_of k (meanings (seconds ps)) ≡ parameter_names_of k (meanings (firsts ps))
parameters-alike (kind.Function false false) (parameters ∷ body ∷ types ∷ return_type ∷ []) = parameters.alike.names
parameters-alike (kind.ArrowExpr false false) (parameters ∷ body ∷ types ∷ return_type ∷ []) = parameters.alike.names
parameters-alike kind.SetterProp (key ∷ this_parameter ∷ parameter ∷ body ∷ []) = parameter.alike.names
parameters-alike (kind.Constructor accessibility is_optional) (key ∷ parameters ∷ body ∷ []) = parameters.alike.names
parameters-alike (kind.Class is_abstract) (super ∷ body ∷ types ∷ super_types ∷ implements ∷ []) = body.alike.parameter_names
parameters-alike kind.List ps = all-parameters ps
parameters-alike _ ps = refl

-- the names of a body with parameters of these names
own-alike : {names' names : List Id} (p : Pair) → names' ≡ names → ids_of (except names' p.second.meaning.locals) ≡ ids_of (except names p.first.meaning.locals)
own-alike p e = ap₂ (λ a b. ids_of (except a b)) e p.alike.locals

by-body : {names' names : List Id} (p : Pair) → names' ≡ names → Among (sought_by_body names' p.second) (sought_by_body names p.first)
by-body p e = among-outside (own-alike p e) p.fewer.body_sought

code-fewer : (k : Kind) (ps : List Pair) → Among (code_sought_of k (seconds ps)) (code_sought_of k (firsts ps))
code-fewer (kind.Function false false) (parameters ∷ body ∷ types ∷ return_type ∷ []) = among-both parameters.fewer.sought (by-body body parameters.alike.names)
code-fewer (kind.ArrowExpr false false) (parameters ∷ body ∷ types ∷ return_type ∷ []) = among-both parameters.fewer.sought (by-body body parameters.alike.names)
code-fewer kind.GetterProp (key ∷ type ∷ body ∷ []) = by-body {names' = []} {names = []} body refl
code-fewer kind.SetterProp (key ∷ this_parameter ∷ parameter ∷ body ∷ []) = among-both parameter.fewer.sought (by-body body parameter.alike.names)
code-fewer (kind.Constructor accessibility is_optional) (key ∷ parameters ∷ body ∷ []) = among-both parameters.fewer.sought (by-body body parameters.alike.names)
code-fewer (kind.Class is_abstract) (super ∷ body ∷ types ∷ super_types ∷ implements ∷ []) = body.fewer.code_sought
code-fewer kind.List ps = all-code ps
code-fewer _ ps = among-itself

by-code : (k : Kind) (ps : List Pair) → Among (sought_by_code k (seconds ps)) (sought_by_code k (firsts ps))
by-code k ps = among-outside (parameters-alike k ps) (code-fewer k ps)

sought-fewer : (k : Kind) (ps : List Pair) → Among (sought_of k (seconds ps)) (sought_of k (firsts ps))
sought-fewer (kind.Ident text ctxt optional) [] = among-itself
sought-fewer kind.BindingIdent (id ∷ annotation ∷ []) = among-both (among-equal id.alike.names) id.fewer.sought
sought-fewer kind.BlockStmt (statements ∷ []) = among-outside (ap ids_of statements.alike.lexicals) statements.fewer.sought
sought-fewer kind.ForStmt (init ∷ test ∷ update ∷ body ∷ []) = among-outside (ap ids_of init.alike.lexicals) (all-fewer (init ∷ test ∷ update ∷ body ∷ []))
sought-fewer kind.SwitchStmt (discriminant ∷ cases ∷ []) = among-both discriminant.fewer.sought (among-outside (ap ids_of cases.alike.lexicals) cases.fewer.sought)
sought-fewer kind.CatchClause (parameter ∷ body ∷ []) = among-outside parameter.alike.names (among-both parameter.fewer.sought body.fewer.sought)
sought-fewer kind.TsModuleBlock (items ∷ []) = among-outside (ap₂ (λ a b. ids_of (except [] (a ++ b))) items.alike.vars items.alike.lexicals) items.fewer.sought
sought-fewer (kind.FnDecl false) (name ∷ function ∷ []) = among-both (among-equal name.alike.names) function.fewer.sought
sought-fewer kind.FnExpr (name ∷ function ∷ []) = among-outside name.alike.names function.fewer.sought
sought-fewer (kind.ClassDecl false) (name ∷ class ∷ []) = among-both (among-equal name.alike.names) (among-outside name.alike.names class.fewer.sought)
sought-fewer kind.ClassExpr (name ∷ class ∷ []) = among-outside name.alike.names class.fewer.sought
sought-fewer (kind.Class is_abstract) (super ∷ body ∷ types ∷ super_types ∷ implements ∷ []) =
    among-both super.fewer.sought (among-both body.fewer.sought (by-code (kind.Class is_abstract) (super ∷ body ∷ types ∷ super_types ∷ implements ∷ [])))
sought-fewer (kind.Function is_async is_generator) ps = by-code (kind.Function is_async is_generator) ps
sought-fewer (kind.ArrowExpr is_async is_generator) ps = by-code (kind.ArrowExpr is_async is_generator) ps
sought-fewer kind.GetterProp (key ∷ type ∷ body ∷ []) = among-both key.fewer.sought (by-code kind.GetterProp (key ∷ type ∷ body ∷ []))
sought-fewer kind.SetterProp (key ∷ this_parameter ∷ parameter ∷ body ∷ []) = among-both key.fewer.sought (by-code kind.SetterProp (key ∷ this_parameter ∷ parameter ∷ body ∷ []))
sought-fewer kind.ExportDefaultExpr (e ∷ []) = later _ e.fewer.sought
  where
    later : (id : Id) {xs' xs : List Id} → Among xs' xs → Among (id ∷ xs') (id ∷ xs)
    later id {xs'} {xs} f = among-both {xs' = id ∷ []} {xs = id ∷ []} among-itself f
sought-fewer kind.ExportDefaultDecl (declaration ∷ []) = among-both (among-equal declaration.alike.default_names) declaration.fewer.sought
sought-fewer (kind.TsImportEqualsDecl is_export false) (name ∷ source ∷ []) = among-both (among-both (among-equal name.alike.names) name.fewer.sought) source.fewer.sought
sought-fewer (kind.Constructor accessibility is_optional) ps = among-itself
sought-fewer kind.BreakStmt ps = among-itself
sought-fewer kind.ContinueStmt ps = among-itself
sought-fewer (kind.ImportDecl type_only) ps = among-itself
sought-fewer (kind.TsTypeAliasDecl declare) ps = among-itself
sought-fewer (kind.Script shebang) ps = among-itself
sought-fewer kind.ForInStmt ps = among-itself
sought-fewer (kind.ForOfStmt is_await) ps = among-itself
sought-fewer kind.StaticBlock ps = among-itself
sought-fewer (kind.TsEnumDecl declare is_const) ps = among-itself
sought-fewer (kind.TsModuleDecl declare global) ps = among-itself
sought-fewer (kind.TsNamespaceDecl declare global) ps = among-itself
sought-fewer _ ps = all-fewer ps

body-fewer : (k : Kind) (ps : List Pair) → Among (body_sought_of k (seconds ps)) (body_sought_of k (firsts ps))
body-fewer kind.BlockStmt (statements ∷ []) = statements.fewer.sought
body-fewer k ps = sought-fewer k ps

role-fewer : (k : Kind) (ps : List Pair) → Fewer (role_sought k (seconds ps)) (role_sought k (firsts ps))
role-fewer k ps = record { sought = sought-fewer k ps; code_sought = code-fewer k ps; body_sought = body-fewer k ps }

-- what has no effect has none

abbrev told : Pair → Told
told p = record { first = p.first.meaning; second = p.second.meaning; flags = p.alike.flags }

old-meanings : (ps : List Pair) → meanings (firsts ps) ≡ olds (map told ps)
old-meanings [] = refl
old-meanings (p ∷ ps) = ap (λ rest. p.first.meaning ∷ rest) (old-meanings ps)

new-meanings : (ps : List Pair) → meanings (seconds ps) ≡ news (map told ps)
new-meanings [] = refl
new-meanings (p ∷ ps) = ap (λ rest. p.second.meaning ∷ rest) (new-meanings ps)

effects : (k : Kind) (ps : List Pair) → has_no_effect k (meanings (seconds ps)) ≡ has_no_effect k (meanings (firsts ps))
effects k ps = ap (has_no_effect k) (new-meanings ps) ∙ effect-alike k (map told ps) ∙ sym (ap (has_no_effect k) (old-meanings ps))

either-fewer : (b' b : Bool) {s' s : Sought} → b' ≡ b → Fewer s' s → Fewer (cond b' nothing_sought s') (cond b nothing_sought s)
either-fewer true true e f = record { sought = among-itself; code_sought = among-itself; body_sought = among-itself }
either-fewer false false e f = f
either-fewer true false e f = absurd (true-false refl e)
either-fewer false true e f = absurd (true-false e refl)

nothing-fewer : Fewer nothing_sought nothing_sought
nothing-fewer = record { sought = among-itself; code_sought = among-itself; body_sought = among-itself }

pub layer-fewer : (k : Kind) (ps : List Pair) → Fewer (sought_by k (seconds ps)) (sought_by k (firsts ps))
layer-fewer kind.ParenExpr (e ∷ []) = e.fewer
layer-fewer kind.TsAsExpr (e ∷ type ∷ []) = e.fewer
layer-fewer kind.TsTypeAssertion (e ∷ type ∷ []) = e.fewer
layer-fewer kind.TsConstAssertion (e ∷ []) = e.fewer
layer-fewer kind.TsNonNullExpr (e ∷ []) = e.fewer
layer-fewer kind.TsInstantiation (e ∷ types ∷ []) = e.fewer
layer-fewer kind.TsSatisfiesExpr (e ∷ type ∷ []) = e.fewer
layer-fewer kind.TsTypeAnn ps = nothing-fewer
layer-fewer kind.TsTypeParamDecl ps = nothing-fewer
layer-fewer kind.TsTypeParamInstantiation ps = nothing-fewer
layer-fewer k ps = either-fewer (has_no_effect k (meanings (seconds ps))) (has_no_effect k (meanings (firsts ps))) (effects k ps) (role-fewer k ps)

-- what is caught

module _ (to : Id → Id) where
  told-among : (ids xs : List Id) (id : Id) → catches_none to ids xs ≡ true → is_among id xs ≡ true → is_told to ids id ≡ true
  told-among ids [] id h among = absurd (cc)
  told-among ids (x ∷ xs) id h among = go (same_id x id) refl (told-among ids xs id (and-right (is_told to ids x) (catches_none to ids xs) h)) among
    where
      go : (b : Bool) → same_id x id ≡ b → (is_among id xs ≡ true → is_told to ids id ≡ true) → (b || is_among id xs) ≡ true → is_told to ids id ≡ true
      go true e rec among = ap (is_told to ids) (sym (same_id-equal x id e)) ∙ and-left (is_told to ids x) (catches_none to ids xs) h
      go false e rec among = rec among

  none-caught : (ids inner' inner : List Id) → ((id : Id) → is_among id inner' ≡ true → is_among id inner ≡ true) → catches_none to ids inner ≡ true → catches_none to ids inner' ≡ true
  none-caught ids [] inner f h = refl
  none-caught ids (y ∷ ys) inner f h =
      and-both (is_told to ids y) (catches_none to ids ys) (told-among ids inner y h (f y (or-first (same_id y y) (is_among y ys) (same_id-itself y))))
      (none-caught ids ys inner (λ id among. f id (or-second (same_id y id) (is_among id ys) among)) h)

  pub catches-fewer : {ids' ids inner' inner : List Id} → ids' ≡ ids → Among inner' inner → catches_none to ids inner ≡ true → catches_none to ids' inner' ≡ true
  catches-fewer {ids'} {ids} {inner'} {inner} e f h = none-caught ids' inner' inner f.each (ap (λ z. catches_none to z inner) e ∙ h)

  both-true : {a' a b' b : Bool} → (a ≡ true → a' ≡ true) → (b ≡ true → b' ≡ true) → (a && b) ≡ true → (a' && b') ≡ true
  both-true {a'} {a} {b'} {b} f g h = and-both a' b' (f (and-left a b h)) (g (and-right a b h))

  body-meets : {names' names : List Id} (p : Pair) → names' ≡ names → body_meets to names p.first ≡ true → body_meets to names' p.second ≡ true
  body-meets p e = both-true (catches-fewer (own-alike p e) p.fewer.body_sought) (catches-fewer e (among-equal (ap ids_of p.alike.locals)))

  code-meets : (k : Kind) (ps : List Pair) → code_meets to k (firsts ps) ≡ true → code_meets to k (seconds ps) ≡ true
  code-meets k ps = catches-fewer (parameters-alike k ps) (code-fewer k ps)

  function-meets : (ps : List Pair) → function_meets to (firsts ps) ≡ true → function_meets to (seconds ps) ≡ true
  function-meets [] h = refl
  function-meets (a ∷ []) h = refl
  function-meets (a ∷ b ∷ []) h = refl
  function-meets (a ∷ b ∷ d ∷ []) h = refl
  function-meets (parameters ∷ body ∷ types ∷ return_type ∷ []) h = body-meets body parameters.alike.names h
  function-meets (a ∷ b ∷ d ∷ e ∷ f ∷ ps) h = refl

  -- a name in a record of its own
  named-meets : (name inner : Pair) → catches_none to name.first.meaning.names (name.first.meaning.names ++ inner.first.seeks.sought) ≡ true
      → catches_none to name.second.meaning.names (name.second.meaning.names ++ inner.second.seeks.sought) ≡ true
  named-meets name inner = catches-fewer name.alike.names (among-both (among-equal name.alike.names) inner.fewer.sought)

  pub layer-meets : (k : Kind) (ps : List Pair) → meets_by to k (firsts ps) ≡ true → meets_by to k (seconds ps) ≡ true
  layer-meets (kind.Function false false) ps = both-true (code-meets (kind.Function false false) ps) (function-meets ps)
  layer-meets (kind.ArrowExpr false false) ps = both-true (code-meets (kind.ArrowExpr false false) ps) (function-meets ps)
  layer-meets kind.GetterProp (key ∷ type ∷ body ∷ []) = both-true (code-meets kind.GetterProp (key ∷ type ∷ body ∷ [])) (body-meets {names' = []} {names = []} body refl)
  layer-meets kind.SetterProp (key ∷ this_parameter ∷ parameter ∷ body ∷ []) = both-true (code-meets kind.SetterProp (key ∷ this_parameter ∷ parameter ∷ body ∷ [])) (body-meets body parameter.alike.names)
  layer-meets (kind.Constructor accessibility is_optional) (key ∷ parameters ∷ body ∷ []) = body-meets body parameters.alike.names
  layer-meets (kind.Class is_abstract) ps = code-meets (kind.Class is_abstract) ps
  layer-meets kind.BlockStmt (statements ∷ []) = catches-fewer (ap ids_of statements.alike.lexicals) statements.fewer.sought
  layer-meets kind.ForStmt (init ∷ test ∷ update ∷ body ∷ []) = catches-fewer (ap ids_of init.alike.lexicals) (all-fewer (init ∷ test ∷ update ∷ body ∷ []))
  layer-meets kind.SwitchStmt (discriminant ∷ cases ∷ []) = catches-fewer (ap ids_of cases.alike.lexicals) cases.fewer.sought
  layer-meets kind.CatchClause (parameter ∷ body ∷ []) = catches-fewer parameter.alike.names (among-both parameter.fewer.sought body.fewer.sought)
  layer-meets kind.TsModuleBlock (items ∷ []) = catches-fewer (ap₂ (λ a b. ids_of (except [] (a ++ b))) items.alike.vars items.alike.lexicals) items.fewer.sought
  layer-meets kind.FnExpr (name ∷ function ∷ []) = named-meets name function
  layer-meets (kind.ClassDecl false) (name ∷ class ∷ []) = named-meets name class
  layer-meets kind.ClassExpr (name ∷ class ∷ []) = named-meets name class
  layer-meets k ps = λ h. refl
