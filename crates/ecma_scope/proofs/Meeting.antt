-- Where the first of the declarations before one stand that have its text decides where it clashes first.
use Rattle.std.proofs.Common.{◌≡◌, ℕ, ◌+◌, Bool, true, false, ◌&&◌, ◌||◌, cond, List, [], ◌∷◌, ◌++◌, take, Option, Some, refl, sym, ap, ap₂, ◌∙◌, slice_get, bytes_eq, max, if◌then◌else◌, map, filter}
use Rattle.std.proofs.lemmas.Slice.Eq.{bytes_eq-Decides}
use Rattle.ecma_tree.proofs.Items.{take-item}
use Rattle.ecma_scope.specs.declared.meetings.Met.{Met}
use Rattle.ecma_scope.specs.declared.form.Form.{Form}
use Rattle.ecma_scope.specs.declared.form.Declaration.{Declaration}
use Rattle.ecma_scope.specs.declared.role.Role.{Role}
use Rattle.ecma_scope.specs.Declarations.{is_stated}
use Rattle.ecma_scope.specs.Conflicts.{conflict, is_catch, has_parameters, is_lexical, is_parameter, is_var}
use Rattle.ecma_scope.specs.Meetings.{always, meets, met_of, with_form, clashes_first, first_of, first_that, hit, least, lesser, offset_of, only}
use Rattle.std.specs.Option.{option_map}
use Rattle.std.proofs.lemmas.List.{map-append}
use Rattle.std.proofs.lemmas.List.Elements.{filter-append}
use Rattle.ecma_scope.specs.declared.form.Located.{Located}
use Rattle.ecma_scope.specs.Clashes.{clash_offsets}
use Rattle.ecma_scope.proofs.Offsets.{least-append, least-later, lesser-none, lesser-swap, lesser-twice, lesser_assoc, only-none}

first-by : (b : Bool) (x : Located) (xs : List Located) → least (map offset_of (cond b (x ∷ xs) xs)) ≡ lesser (only b (Some x.at)) (least (map offset_of xs))
first-by true x xs = refl
first-by false x xs = refl

first-cons : (p : Located → Bool) (x : Located) (xs : List Located) → first_that p (x ∷ xs) ≡ lesser (only (p x) (Some x.at)) (first_that p xs)
first-cons p x xs = first-by (p x) x (filter p xs)

first-last : (p : Located → Bool) (xs : List Located) (x : Located) → first_that p (xs ++ x ∷ []) ≡ lesser (first_that p xs) (only (p x) (Some x.at))
first-last p xs x =
    ap (λ (ls : List Located). least (map offset_of ls)) (filter-append p xs (x ∷ []))
    ∙ ap least (map-append offset_of (filter p xs) (filter p (x ∷ [])))
    ∙ least-append (map offset_of (filter p xs)) (map offset_of (filter p (x ∷ [])))
    ∙ ap (lesser (first_that p xs)) (first-cons p x [] ∙ lesser-none (only (p x) (Some x.at)))

first_of-last : (test : Form → Bool) (ls : List Located) (l : Located) (text : List ℕ)
    → first_of test (ls ++ l ∷ []) text ≡ lesser (first_of test ls text) (only (bytes_eq l.declaration.sym text && test l.declaration.form) (Some l.at))
first_of-last test ls l text = first-last (λ (e : Located). bytes_eq e.declaration.sym text && test e.declaration.form) ls l

-- what was met of one text with one more, which has that text or not
unfoldable joined : Role → List Located → Located → List ℕ → Bool → Met
joined r ls l text same =
    record {
      any = lesser (first_of always ls text) (only (same && true) (Some l.at));
      lexical = lesser (first_of (is_lexical r) ls text) (only (same && is_lexical r l.declaration.form) (Some l.at));
      parameter = lesser (first_of is_parameter ls text) (only (same && is_parameter l.declaration.form) (Some l.at));
      caught = lesser (first_of is_catch ls text) (only (same && is_catch l.declaration.form) (Some l.at));
      var = lesser (first_of is_var ls text) (only (same && is_var l.declaration.form) (Some l.at));
    }

met_of-joined : (r : Role) (ls : List Located) (l : Located) (text : List ℕ) → met_of r (ls ++ l ∷ []) text ≡ joined r ls l text (bytes_eq l.declaration.sym text)
unfolding joined
met_of-joined r ls l text = (λ j. record {
  any = first_of-last always ls l text j;
  lexical = first_of-last (is_lexical r) ls l text j;
  parameter = first_of-last is_parameter ls l text j;
  caught = first_of-last is_catch ls l text j;
  var = first_of-last is_var ls l text j;
})

joined-meets : (r : Role) (ls : List Located) (l : Located) (text : List ℕ) (same : Bool) → bytes_eq l.declaration.sym text ≡ same → joined r ls l text same ≡ meets r (met_of r ls) l text
unfolding joined
joined-meets r ls l text false is =
    (λ j. record {
      any = lesser-none (first_of always ls text) j;
      lexical = lesser-none (first_of (is_lexical r) ls text) j;
      parameter = lesser-none (first_of is_parameter ls text) j;
      caught = lesser-none (first_of is_catch ls text) j;
      var = lesser-none (first_of is_var ls text) j;
    })
    ∙ (λ j. if sym is j then with_form r (met_of r ls l.declaration.sym) l.declaration.form l.at else met_of r ls text)
joined-meets r ls l text true is =
    let same : l.declaration.sym ≡ text = (bytes_eq-Decides l.declaration.sym text).0 is in
    (λ j. with_form r (met_of r ls (sym same j)) l.declaration.form l.at)
    ∙ (λ j. if sym is j then with_form r (met_of r ls l.declaration.sym) l.declaration.form l.at else met_of r ls text)

pub met-next : (r : Role) (met after : List ℕ → Met) (ls : List Located) (i : ℕ) (l : Located) → slice_get ls i ≡ Some l → ((text : List ℕ) → met text ≡ met_of r (take i ls) text)
    → ((text : List ℕ) → after text ≡ meets r met l text) → (text : List ℕ) → after text ≡ met_of r (take (i + 1) ls) text
met-next r met after ls i l at before adding text =
    adding text
    ∙ (λ j. if bytes_eq l.declaration.sym text then with_form r (before l.declaration.sym j) l.declaration.form l.at else before text j)
    ∙ sym (met_of-joined r (take i ls) l text ∙ joined-meets r (take i ls) l text (bytes_eq l.declaration.sym text) refl)
    ∙ ap (λ (z : List Located). met_of r z text) (sym (take-item ls i l at))

-- the first that is either of two is the first of the firsts, and a test of something else stands outside
either-side : (p q s : Bool) (x : ℕ) (a b : Option ℕ) → lesser (only (p && (q || s)) (Some x)) (lesser a b) ≡ lesser (lesser (only (p && q) (Some x)) a) (lesser (only (p && s) (Some x)) b)
either-side false q s x a b = refl
either-side true true true x a b = lesser-twice (Some x) a b
either-side true true false x a b = sym (lesser_assoc (Some x) a b)
either-side true false true x a b = lesser-swap (Some x) a b
either-side true false false x a b = refl

under : (p q c : Bool) (x : ℕ) (a : Option ℕ) → lesser (only (p && (q && c)) (Some x)) (only c a) ≡ only c (lesser (only (p && q) (Some x)) a)
under true true true x a = refl
under true true false x a = refl
under true false c x a = refl
under false q c x a = refl

constant : (p c : Bool) (x : ℕ) (a : Option ℕ) → lesser (only (p && c) (Some x)) (only c a) ≡ only c (lesser (only (p && true) (Some x)) a)
constant true true x a = refl
constant true false x a = refl
constant false c x a = refl

module _ (p : Located → Bool) where
  first-either : (q s : Located → Bool) (xs : List Located) → first_that (λ x. p x && (q x || s x)) xs ≡ lesser (first_that (λ x. p x && q x) xs) (first_that (λ x. p x && s x) xs)
  first-either q s [] = refl
  first-either q s (x ∷ xs) =
      first-cons (λ x. p x && (q x || s x)) x xs
      ∙ ap (lesser (only (p x && (q x || s x)) (Some x.at))) (first-either q s xs)
      ∙ either-side (p x) (q x) (s x) x.at (first_that (λ x. p x && q x) xs) (first_that (λ x. p x && s x) xs)
      ∙ (λ j. lesser (sym (first-cons (λ x. p x && q x) x xs) j) (sym (first-cons (λ x. p x && s x) x xs) j))

  first-under : (q : Located → Bool) (c : Bool) (xs : List Located) → first_that (λ x. p x && (q x && c)) xs ≡ only c (first_that (λ x. p x && q x) xs)
  first-under q c [] = sym (only-none c)
  first-under q c (x ∷ xs) =
      first-cons (λ x. p x && (q x && c)) x xs
      ∙ ap (lesser (only (p x && (q x && c)) (Some x.at))) (first-under q c xs)
      ∙ under (p x) (q x) c x.at (first_that (λ x. p x && q x) xs)
      ∙ ap (only c) (sym (first-cons (λ x. p x && q x) x xs))

  first-constant : (c : Bool) (xs : List Located) → first_that (λ x. p x && c) xs ≡ only c (first_that (λ x. p x && true) xs)
  first-constant c [] = sym (only-none c)
  first-constant c (x ∷ xs) =
      first-cons (λ x. p x && c) x xs
      ∙ ap (lesser (only (p x && c) (Some x.at))) (first-constant c xs)
      ∙ constant (p x) c x.at (first_that (λ x. p x && true) xs)
      ∙ ap (only c) (sym (first-cons (λ x. p x && true) x xs))

first-conflict : (r : Role) (ls : List Located) (d : Declaration) → first_that (λ e. conflict r e.declaration d) ls ≡ hit r (met_of r ls d.sym) d.form
first-conflict r ls d =
    let p : Located → Bool = λ e. bytes_eq e.declaration.sym d.sym in
    let caught : Located → Bool = λ e. is_catch e.declaration.form in
    let var : Located → Bool = λ e. is_var e.declaration.form in
    let parameter : Located → Bool = λ e. is_parameter e.declaration.form in
    let lexical : Located → Bool = λ e. is_lexical r e.declaration.form in
    let b : Bool = is_lexical r d.form in
    first-either p (λ e. lexical e || b) (λ e. (parameter e && is_parameter d.form) || ((caught e && is_var d.form) || (var e && is_catch d.form))) ls
    ∙ ap₂ lesser
    (first-either p lexical (λ e. b) ls ∙ ap (lesser (first_that (λ e. p e && lexical e) ls)) (first-constant p b ls))
    (first-either p (λ e. parameter e && is_parameter d.form) (λ e. (caught e && is_var d.form) || (var e && is_catch d.form)) ls
    ∙ ap₂ lesser (first-under p parameter (is_parameter d.form) ls)
    (first-either p (λ e. caught e && is_var d.form) (λ e. var e && is_catch d.form) ls
    ∙ ap₂ lesser (first-under p caught (is_var d.form) ls) (first-under p var (is_catch d.form) ls)))

own-first : (b : Bool) (at : ℕ) → least (if b then at ∷ [] else []) ≡ only b (Some at)
own-first true at = refl
own-first false at = refl

-- so it decides where it clashes first
pub clashes-met : (r : Role) (around : List ℕ → Option Bool) (ls : List Located) (l : Located) (met : Met) → met ≡ met_of r ls l.declaration.sym
    → least (clash_offsets r around ls l) ≡ clashes_first r around met l
clashes-met r around ls l met is =
    let own : Bool = has_parameters r && (is_lexical r l.declaration.form && is_stated (around l.declaration.sym)) in
    least-append (map (λ e. max e.at l.at) (filter (λ e. conflict r e.declaration l.declaration) ls)) (if own then l.at ∷ [] else [])
    ∙ ap₂ lesser
    (least-later l.at (filter (λ e. conflict r e.declaration l.declaration) ls) ∙ ap (option_map (λ z. max z l.at)) (first-conflict r ls l.declaration))
    (own-first own l.at)
    ∙ ap (λ (m : Met). clashes_first r around m l) (sym is)
