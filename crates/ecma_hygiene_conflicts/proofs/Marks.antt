-- Which forms may not meet, lists of declarations, and their marks.
use Rattle.std.proofs.Common.{◌≡◌, ◌⊎◌, inl, inr, ℕ, Bool, true, false, ◌&&◌, ◌||◌, not, cond, List, [], ◌∷◌, ◌++◌, Option, refl, sym, ap, ◌∙◌, bytes_eq}
use Rattle.std.specs.List.{list_any}
use Rattle.ecma_scope.specs.declared.form.Declaration.{Declaration}
use Rattle.ecma_scope.specs.declared.form.Form.{Form}
use Rattle.ecma_scope.specs.declared.form.Form.TheVariants as form
use Rattle.ecma_scope.specs.declared.role.Role.{Role}
use Rattle.ecma_scope.specs.declared.role.Role.TheVariants as role
use Rattle.ecma_scope.specs.Conflicts.{has_parameters, is_catch, is_lexical, is_parameter, is_var, mark, may_be_merged, may_merge, may_not_meet, merges}
use Rattle.ecma_scope.specs.Declarations.{is_hoisted, is_own, is_stated}
use Rattle.ecma_hygiene.specs.Ids.{is_function_body}
use Rattle.ecma_hygiene.proofs.Telling.{or-first, or-second, true-false}

-- ---- tests

pub and-none : (a : Bool) → (a && false) ≡ false
and-none true = refl
and-none false = refl

pub not-true : (b : Bool) → (b ≡ true → ⊥) → b ≡ false
not-true true h = absurd (h refl)
not-true false h = refl

pub or-either : (a b : Bool) → (a || b) ≡ true → (a ≡ true) ⊎ (b ≡ true)
or-either true b h = inl refl
or-either false b h = inr h

pub neither : (a b : Bool) → a ≡ false → b ≡ false → (a || b) ≡ false
neither a b h k = (λ j. h j || k j)

pub never : (f l s : Bool) → (f ≡ true → l ≡ true → s ≡ true → ⊥) → (f && (l && s)) ≡ false
never false l s h = refl
never true false s h = refl
never true true false h = refl
never true true true h = absurd (h refl refl refl)

-- a name of a scope is its own but where it is a parameter
pub own-is : (r : Role) (around : List ℕ → Option Bool) (d : Declaration) → is_own r around d ≡ not (is_function_body r && (is_hoisted d.form && is_stated (around d.sym)))
own-is role.Body around d = refl
own-is _ around d = refl

pub not-false : (b : Bool) → not b ≡ false → b ≡ true
not-false true h = refl
not-false false h = absurd (true-false refl h)

-- ---- forms

-- a form, or that of what merges
abbrev pub Below : Form → Form → Type 0
Below g f = (g ≡ f) ⊎ (g ≡ form.Merged)

pub hoisted-plain : (f : Form) → is_hoisted f ≡ true → is_parameter f ≡ false
hoisted-plain form.Parameter h = absurd (true-false h refl)
hoisted-plain _ h = refl

hoisted-stays : (f : Form) → is_hoisted f ≡ true → may_merge f ≡ false
hoisted-stays form.Enum h = absurd (true-false h refl)
hoisted-stays form.Namespace h = absurd (true-false h refl)
hoisted-stays _ h = refl

pub body-parameters : (r : Role) → is_function_body r ≡ true → has_parameters r ≡ true
body-parameters role.Body h = refl
body-parameters _ h = absurd (true-false h refl)

pub hoisted-lexical : (r : Role) (f : Form) → is_function_body r ≡ true → is_hoisted f ≡ true → is_lexical r f ≡ false
hoisted-lexical role.Body form.Var body h = refl
hoisted-lexical role.Body form.Function body h = refl
hoisted-lexical role.Body _ body h = absurd (true-false h refl)
hoisted-lexical _ f body h = absurd (true-false body refl)

module _ (r : Role) where
  pub lexical-more : (g f : Form) → Below g f → is_lexical r g ≡ true → is_lexical r f ≡ true
  lexical-more g f (inl same) h = ap (is_lexical r) (sym same) ∙ h
  lexical-more g f (inr merged) h = absurd (true-false h (ap (is_lexical r) merged))

  pub none-meet : (a b : Form) → is_lexical r a ≡ false → is_lexical r b ≡ false → (is_parameter a && is_parameter b) ≡ false → is_catch a ≡ false → is_catch b ≡ false → may_not_meet r a b ≡ false
  none-meet a b la lb p ca cb = (λ j. (la j || lb j) || (p j || ((ca j && is_var b) || (is_var a && cb j)))) ∙ and-none (is_var a)

  first-lexical : (a b : Form) → is_lexical r a ≡ true → may_not_meet r a b ≡ true
  first-lexical a b h = ap (λ (x : Bool). (x || is_lexical r b) || ((is_parameter a && is_parameter b) || ((is_catch a && is_var b) || (is_var a && is_catch b)))) h

  second-lexical : (a b : Form) → is_lexical r b ≡ true → may_not_meet r a b ≡ true
  second-lexical a b h = or-first (is_lexical r a || is_lexical r b) ((is_parameter a && is_parameter b) || ((is_catch a && is_var b) || (is_var a && is_catch b))) (or-second (is_lexical r a) (is_lexical r b) h)

  only-lexical : (l p c v : Bool) → ((l || false) || ((p && false) || ((c && false) || (v && false)))) ≡ true → l ≡ true
  only-lexical true p c v h = refl
  only-lexical false p c v h = absurd (true-false h (λ j. and-none p j || (and-none c j || and-none v j)))

  drop-none : (b : Bool) → (b || false) ≡ true → b ≡ true
  drop-none true h = refl
  drop-none false h = h

  pub more-meets : (a b f g : Form) → Below a f → Below b g → may_not_meet r a b ≡ true → may_not_meet r f g ≡ true
  more-meets a b f g (inl x) (inl y) h = (λ j. may_not_meet r (sym x j) (sym y j)) ∙ h
  more-meets a b f g (inr x) (inl y) h =
      second-lexical f g (ap (is_lexical r) (sym y) ∙ drop-none (is_lexical r b) (ap (λ (z : Form). may_not_meet r z b) (sym x) ∙ h))
  more-meets a b f g (inl x) (inr y) h =
      first-lexical f g (ap (is_lexical r) (sym x) ∙ only-lexical (is_lexical r a) (is_parameter a) (is_catch a) (is_var a) (ap (may_not_meet r a) (sym y) ∙ h))
  more-meets a b f g (inr x) (inr y) h = absurd (true-false h (λ j. may_not_meet r (x j) (y j)))

-- ---- lists

pub Any : (Declaration → Type 0) → List Declaration → Type 0
Any P [] = ⊥
Any P (x ∷ xs) = P x ⊎ Any P xs

pub any-more : (P : Declaration → Type 0) (xs ys : List Declaration) → Any P xs → Any P (xs ++ ys)
unfolding Any
any-more P [] ys h = absurd h
any-more P (x ∷ xs) ys (inl here) = inl here
any-more P (x ∷ xs) ys (inr later) = inr (any-more P xs ys later)

pub any-last : (P : Declaration → Type 0) (xs : List Declaration) (d : Declaration) → P d → Any P (xs ++ d ∷ [])
unfolding Any
any-last P [] d h = inl h
any-last P (x ∷ xs) d h = inr (any-last P xs d h)

pub any-holds : (P : Declaration → Type 0) (f : Declaration → Bool) (xs : List Declaration) → ((x : Declaration) → P x → f x ≡ true) → Any P xs → list_any f xs ≡ true
unfolding Any
any-holds P f [] each h = absurd h
any-holds P f (x ∷ xs) each (inl here) = or-first (f x) (list_any f xs) (each x here)
any-holds P f (x ∷ xs) each (inr later) = or-second (f x) (list_any f xs) (any-holds P f xs each later)

pub first-none : (b : Bool) (text : List ℕ) (rest : List (List ℕ)) → cond b (text ∷ []) [] ++ rest ≡ [] → b ≡ false
first-none true text rest h = cc
first-none false text rest h = refl

pub rest-none : (b : Bool) (text : List ℕ) (rest : List (List ℕ)) → cond b (text ∷ []) [] ++ rest ≡ [] → rest ≡ []
rest-none true text rest h = cc
rest-none false text rest h = h

pub both-none : (b : Bool) (text : List ℕ) (rest : List (List ℕ)) → b ≡ false → rest ≡ [] → cond b (text ∷ []) [] ++ rest ≡ []
both-none b text rest h k = (λ j. cond (h j) (text ∷ []) [] ++ k j)

-- ---- marks

pub mark-sym : (earlier : List Declaration) (d : Declaration) → (mark earlier d).sym ≡ d.sym
mark-sym earlier d = by (merges earlier d)
  where
    by : (b : Bool) → (cond b (record d { form = form.Merged }) d).sym ≡ d.sym
    by true = refl
    by false = refl

pub mark-uncaught : (earlier : List Declaration) (d : Declaration) → is_catch d.form ≡ false → is_catch (mark earlier d).form ≡ false
mark-uncaught earlier d h = by (merges earlier d)
  where
    by : (b : Bool) → is_catch (cond b (record d { form = form.Merged }) d).form ≡ false
    by true = refl
    by false = h

pub mark-below : (xs ys : List Declaration) (d e : Declaration) → d.form ≡ e.form → (merges ys e ≡ true → merges xs d ≡ true) → Below (mark xs d).form (mark ys e).form
mark-below xs ys d e same more = by (merges xs d) (merges ys e) refl refl
  where
    by : (a b : Bool) → merges xs d ≡ a → merges ys e ≡ b → Below (cond a (record d { form = form.Merged }) d).form (cond b (record e { form = form.Merged }) e).form
    by true b is also = inr refl
    by false true is also = absurd (true-false (more also) is)
    by false false is also = inl same

pub mark-hoisted : (earlier : List Declaration) (d : Declaration) → is_hoisted d.form ≡ true → mark earlier d ≡ d
mark-hoisted earlier d h = ap (λ (b : Bool). cond (b && list_any (λ e. bytes_eq e.sym d.sym && may_be_merged e.form) earlier) (record d { form = form.Merged }) d) (hoisted-stays d.form h)

pub below-merged : (g f : Form) → Below g f → may_be_merged f ≡ true → may_be_merged g ≡ true
below-merged g f (inl same) h = ap may_be_merged same ∙ h
below-merged g f (inr merged) h = ap may_be_merged merged
