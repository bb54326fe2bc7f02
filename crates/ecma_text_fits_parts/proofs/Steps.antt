-- What stands next, and what is wanted behind it.
use Rattle.std.proofs.Common.{◌≡◌, inl, inr, Bool, true, false, ◌&&◌, ◌||◌, List, [], ◌∷◌, ◌++◌, append_assoc, refl, sym, subst}
use Rattle.std.proofs.lemmas.Bool.{and_parts}
use Rattle.ecma_tree.specs.declared.node.Node.{Node}
use Rattle.ecma_text_fits_parts.proofs.Grades.{Grade, Meets, expression, fits, fits_sound, last_part, text_part}
use Rattle.ecma_raw_roles.proofs.Walks.{not_true}
use Rattle.ecma_text_fits_parts.proofs.Wanted.{Each, Given, Some, Turns, Wanted, again, also, behind_text, done, each, either, ends, is_turns, is_whatever, never, one, passes, repeats, repeats_then, some, steps, turns, whatever}

-- in front of what is wanted then, these nodes are wanted now; and a test holds of what is wanted then
abbrev pub Leaves : (Wanted → Bool) → Wanted → List Node → Type 0
Leaves next w xs = (v : Wanted) × (next v ≡ true) × ((ys : List Node) → Given v ys → Given w (xs ++ ys))

pub also_parts : (b : Bool) (test : Unit {0} → Bool) → also b test ≡ true → (b ≡ true) × (test tt ≡ true)
also_parts true test h = (refl, h)
also_parts false test h = not_true h

pub one_true : {Q : Type 0} (a b : Bool) → (a || b) ≡ true → (a ≡ true → Q) → (b ≡ true → Q) → Q
one_true true b h f g = f refl
one_true false b h f g = g h

pub stays : (next : Wanted → Bool) (w : Wanted) → next w ≡ true → Leaves next w []
stays next w h = (w, h, λ ys g. g)

pub ends_given : (w : Wanted) → ends w ≡ true → Given w []
ends_given whatever h = tt
ends_given done h = tt
ends_given (each g) h = tt
ends_given (either v w) h = one_true (ends v) (ends w) h (λ e. inl (ends_given v e)) (λ e. inr (ends_given w e))
ends_given _ h = not_true h

-- one node, of a grade
abbrev pub IsOf : Grade → List Node → Type 0
IsOf g xs = (x : Node) × (xs ≡ x ∷ []) × Meets g x

one_in_front : (g : Grade) (w : Wanted) (xs ys : List Node) → IsOf g xs → Given w ys → Given (one g w) (xs ++ ys)
one_in_front g w xs ys u k = let e = u.1 in subst (λ zs. Given (one g w) (zs ++ ys)) (sym e) (u.2, k)

each_in_front : (g : Grade) (xs ys : List Node) → IsOf g xs → Each g ys → Each g (xs ++ ys)
each_in_front g xs ys u k = let e = u.1 in subst (λ zs. Each g (zs ++ ys)) (sym e) (u.2, k)

some_in_front : (g : Grade) (xs ys : List Node) → IsOf g xs → Each g ys → Some g (xs ++ ys)
some_in_front g xs ys u k = let e = u.1 in subst (λ zs. Some g (zs ++ ys)) (sym e) (u.2, k)

each_of_some : (g : Grade) (ys : List Node) → Some g ys → Each g ys
each_of_some g [] k = absurd k
each_of_some g (y ∷ ys) k = k

some_of_each : (g : Grade) (xs ys : List Node) → Each g (xs ++ ys) → Some g ys → Some g (xs ++ ys)
some_of_each g [] ys a k = k
some_of_each g (x ∷ xs) ys a k = a

last_turn : (xs ys : List Node) → IsOf last_part xs → Given done ys → Turns (xs ++ ys)
last_turn xs [] u k = let e = u.1 in subst (λ zs. Turns (zs ++ [])) (sym e) u.2
last_turn xs (y ∷ ys) u k = absurd k

next_turn : (xs ys : List Node) → IsOf text_part xs → Given behind_text ys → Turns (xs ++ ys)
next_turn xs [] u k = absurd k
next_turn xs (y ∷ ys) u k = let e = u.1 in subst (λ zs. Turns (zs ++ y ∷ ys)) (sym e) (u.2, k.0, k.1)

behind_turn : (xs ys : List Node) → IsOf expression xs → Turns ys → Given behind_text (xs ++ ys)
behind_turn xs ys u k = let e = u.1 in subst (λ zs. Given behind_text (zs ++ ys)) (sym e) (u.2, k)

left_leaves : (next : Wanted → Bool) (v w : Wanted) (xs : List Node) → Leaves next v xs → Leaves next (either v w) xs
left_leaves next v w xs r = (r.0, r.1, λ ys k. inl (r.2 ys k))

right_leaves : (next : Wanted → Bool) (v w : Wanted) (xs : List Node) → Leaves next w xs → Leaves next (either v w) xs
right_leaves next v w xs r = (r.0, r.1, λ ys k. inr (r.2 ys k))

pub steps_leave : (meets : Grade → Bool) (next : Wanted → Bool) (xs : List Node) → ((g : Grade) → meets g ≡ true → IsOf g xs) → (w : Wanted) → steps meets next w ≡ true → Leaves next w xs
steps_leave meets next xs m whatever h = (whatever, h, λ ys g. tt)
steps_leave meets next xs m (one g w) h = let p = also_parts (meets g) (λ u. next w) h in (w, p.1, λ ys k. one_in_front g w xs ys (m g p.0) k)
steps_leave meets next xs m (each g) h = let p = also_parts (meets g) (λ u. next (each g)) h in (each g, p.1, λ ys k. each_in_front g xs ys (m g p.0) k)
steps_leave meets next xs m (some g) h = let p = also_parts (meets g) (λ u. next (each g)) h in (each g, p.1, λ ys k. some_in_front g xs ys (m g p.0) k)
steps_leave meets next xs m (either v w) h =
    one_true (steps meets next v) (steps meets next w) h
    (λ e. left_leaves next v w xs (steps_leave meets next xs m v e))
    (λ e. right_leaves next v w xs (steps_leave meets next xs m w e))
steps_leave meets next xs m turns h =
    one_true (also (meets last_part) (λ u. next done)) (also (meets text_part) (λ u. next behind_text)) h
    (λ e. (let p = also_parts (meets last_part) (λ u. next done) e in (done, p.1, λ ys k. last_turn xs ys (m last_part p.0) k)))
    (λ e. (let p = also_parts (meets text_part) (λ u. next behind_text) e in (behind_text, p.1, λ ys k. next_turn xs ys (m text_part p.0) k)))
steps_leave meets next xs m behind_text h = let p = also_parts (meets expression) (λ u. next turns) h in (turns, p.1, λ ys k. behind_turn xs ys (m expression p.0) k)
steps_leave meets next xs m _ h = not_true h

-- one behind the other
pub leaves_both : (next : Wanted → Bool) (w v : Wanted) (xs ys : List Node) → ((zs : List Node) → Given v zs → Given w (xs ++ zs)) → Leaves next v ys → Leaves next w (xs ++ ys)
leaves_both next w v xs ys f r = (r.0, r.1, λ zs k. subst (Given w) (sym (append_assoc xs ys zs)) (f (ys ++ zs) (r.2 zs k)))

-- repetitions

each_wider : (g h : Grade) (xs : List Node) → fits g h ≡ true → Each g xs → Each h xs
each_wider g h [] e k = tt
each_wider g h (x ∷ xs) e k = (fits_sound g h x e k.0, each_wider g h xs e k.1)

again_given : (g : Grade) (v : Wanted) (xs : List Node) → again g v ≡ true → Each g xs → Given v xs
again_given g (each h) xs e k = each_wider g h xs e k
again_given g _ xs e k = not_true e

turns_given : (v : Wanted) (xs : List Node) → is_turns v ≡ true → Turns xs → Given v xs
turns_given turns xs e k = k
turns_given _ xs e k = not_true e

-- these may stand in front of what is wanted, as often as one likes
abbrev pub Closed : (List Node → Type 0) → Wanted → Type 0
Closed U w = (xs : List Node) → U xs → (ys : List Node) → Given w ys → Given w (xs ++ ys)

abbrev pub Repeated : (List Node → Type 0) → (Wanted → Bool) → Wanted → Type 0
Repeated U next w = (v : Wanted) × (next v ≡ true) × Closed U v × ((ys : List Node) → Given v ys → Given w ys)

module _ (once : (Wanted → Bool) → Wanted → Bool) (U : List Node → Type 0) (unit : (next : Wanted → Bool) (w : Wanted) → once next w ≡ true → (xs : List Node) → U xs → Leaves next w xs) where
  repeats_closed : (w : Wanted) → repeats once w ≡ true → Closed U w
  repeats_closed whatever h xs u ys k = tt
  repeats_closed (each g) h xs u ys k = let r = unit (again g) (each g) h xs u in r.2 ys (again_given g r.0 ys r.1 k)
  repeats_closed (some g) h xs u ys k =
      let r = unit (again g) (each g) h xs u in
      some_of_each g xs ys (r.2 ys (again_given g r.0 ys r.1 (each_of_some g ys k))) k
  repeats_closed turns h xs u ys k = let r = unit is_turns turns h xs u in r.2 ys (turns_given r.0 ys r.1 k)
  repeats_closed _ h xs u ys k = not_true h

  plainly : (next : Wanted → Bool) (w : Wanted) → (repeats once w && next w) ≡ true → Repeated U next w
  plainly next w h = let p = and_parts (repeats once w) (next w) h in (w, p.1, repeats_closed w p.0, λ ys k. k)

  pub repeats_leave : (next : Wanted → Bool) (w : Wanted) → repeats_then once next w ≡ true → Repeated U next w
  repeats_leave next (either v w) h =
      one_true (repeats_then once next v) (repeats_then once next w) h
      (λ e. (let r = repeats_leave next v e in (r.0, r.1, r.2, λ ys k. inl (r.3 ys k))))
      (λ e. (let r = repeats_leave next w e in (r.0, r.1, r.2, λ ys k. inr (r.3 ys k))))
  repeats_leave next w h = plainly next w h

-- parts

wider_of : (g h : Grade) (xs : List Node) → fits g h ≡ true → IsOf g xs → IsOf h xs
wider_of g h xs e u = (u.0, u.1, fits_sound g h u.0 e u.2)

pub passes_leave : (part : Wanted) (next : Wanted → Bool) (w : Wanted) → passes part next w ≡ true → (xs : List Node) → Given part xs → Leaves next w xs
passes_leave never next w h xs k = absurd k
passes_leave whatever next w h xs k = of_whatever w (also_parts (is_whatever w) (λ u. next w) h)
  where
    of_whatever : (w : Wanted) → (is_whatever w ≡ true) × (next w ≡ true) → Leaves next w xs
    of_whatever whatever p = (whatever, p.1, λ ys g. tt)
    of_whatever _ p = not_true p.0
passes_leave done next w h [] k = stays next w h
passes_leave done next w h (x ∷ xs) k = absurd k
passes_leave (one g part) next w h [] k = absurd k
passes_leave (one g part) next w h (x ∷ xs) k =
    let s = steps_leave (fits g) (passes part next) (x ∷ []) (λ j f. (x, refl, fits_sound g j x f k.0)) w h in
    leaves_both next w s.0 (x ∷ []) xs s.2 (passes_leave part next s.0 s.1 xs k.1)
passes_leave (each g) next w h xs k =
    let r = repeats_leave (λ later v. steps (fits g) later v) (IsOf g) (λ later v e ys u. steps_leave (fits g) later ys (λ j f. wider_of g j ys f u) v e) next w h in
    (r.0, r.1, λ ys given. r.3 (xs ++ ys) (all xs k r.0 r.2 ys given))
  where
    all : (xs : List Node) → Each g xs → (v : Wanted) → ((xs : List Node) → IsOf g xs → (ys : List Node) → Given v ys → Given v (xs ++ ys)) → (ys : List Node) → Given v ys → Given v (xs ++ ys)
    all [] k v closed ys given = given
    all (x ∷ xs) k v closed ys given = closed (x ∷ []) (x, refl, k.0) (xs ++ ys) (all xs k.1 v closed ys given)
passes_leave (either p q) next w h xs (inl k) = passes_leave p next w (and_parts (passes p next w) (passes q next w) h).0 xs k
passes_leave (either p q) next w h xs (inr k) = passes_leave q next w (and_parts (passes p next w) (passes q next w) h).1 xs k
passes_leave _ next w h xs k = not_true h
