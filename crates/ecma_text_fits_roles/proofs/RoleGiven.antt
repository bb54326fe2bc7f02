-- What meets an ask meets each wider one; nodes in front of others, repeated, and one by itself.
use Rattle.std.proofs.Common.{◌≡◌, ◌∙◌, inl, inr, ℕ, zero, suc, Bool, true, false, ◌&&◌, ◌||◌, nat_eq, List, [], ◌∷◌, ◌++◌, take, drop, Option, Some, None, refl, sym, ap, subst, arith}
use Rattle.ecma_kind.specs.declared.kind.Kind.{Kind}
use Rattle.ecma_kind.specs.declared.kind.Kind.TheVariants as kind
use Rattle.ecma_tree.specs.declared.node.Node.{Node, out-Node}
use Rattle.ecma_tree.specs.declared.node.Node.TheViews.{roll-out-Node}
use Rattle.ecma_tree.specs.Sorted.{is_absent}
use Rattle.ecma_grammar.specs.trees.Parts.{kind_of, in_front}
use Rattle.ecma_grammar.specs.trees.Chains.{steps}
use Rattle.ecma_fits.specs.declared.role.Role.{Role}
use Rattle.ecma_fits.specs.declared.role.Role.TheVariants as role
use Rattle.ecma_fits.specs.Roles.{is_binding, may_be, role_in}
use Rattle.ecma_lex.specs.Keys.{is_reserved}
use Rattle.ecma_raw_roles.specs.RawRoles.{HasRawRole, may_be_raw, raw_role_in, usual_role_in}
use Rattle.ecma_raw_roles.proofs.Walks.{not_true}
use Rattle.ecma_raw_roles.proofs.Placed.{Along, along_same, displaced_by, moved, placed, placed_parts, same_private}
use Rattle.ecma_text_fits_roles.proofs.RoleAsks.{Ask, Asked, Chained, Given, MeetAll, MeetEach, Meets, all_fit, all_given, any, at, before, behind, both, chain, each, each_fits, first, first_and_each, first_part, fits, free, is_annotated, is_free_role, is_loose, is_one, link, never, none_asked, of_many, of_one, perhaps, second_part, single, takes_defaulted, takes_patterns, takes_private, text_or_free, these, whatever, wider, with_default}

pub no : {A : Type 0} → false ≡ true → A
no h = cc

pub two : (a b : Bool) → (a && b) ≡ true → (a ≡ true) × (b ≡ true)
two true b h = (refl, h)
two false b h = no h

-- wider roles

or_true : {A : Type 0} (b : Bool) → (b || true) ≡ false → A
or_true true h = not_true (sym h)
or_true false h = not_true (sym h)

same_key : (k : Kind) (i : ℕ) → raw_role_in role.Free k i ≡ raw_role_in role.Key k i
unfolding raw_role_in usual_role_in role_in
same_key kind.List i = refl
same_key _ i = refl

same_this : (k : Kind) (i : ℕ) → raw_role_in role.Free k i ≡ raw_role_in role.NameOrThis k i
unfolding raw_role_in usual_role_in role_in
same_this kind.List i = refl
same_this _ i = refl

private_place : (k : Kind) → displaced_by role.Free k ≡ false → displaced_by role.Private k ≡ false
unfolding may_be may_be_raw
private_place (kind.Ident text ctxt optional) h = h
private_place (kind.TplElement raw cooked tail) h = h
private_place _ h = refl

key_place : (k : Kind) → displaced_by role.Free k ≡ false → displaced_by role.Key k ≡ false
unfolding may_be may_be_raw
key_place (kind.Ident text ctxt optional) h = refl
key_place (kind.TplElement raw cooked tail) h = h
key_place _ h = refl

this_name : (b c : Bool) → (b || false) ≡ false → ((b && c) || false) ≡ false
this_name true c h = not_true (sym h)
this_name false c h = refl

this_place : (k : Kind) → displaced_by role.Free k ≡ false → displaced_by role.NameOrThis k ≡ false
unfolding may_be may_be_raw
this_place (kind.Ident text ctxt optional) h = this_name _ _ h
this_place (kind.TplElement raw cooked tail) h = h
this_place _ h = refl

-- what is declared is a name, a pattern or missing

abbrev is_bound : Kind → Bool
is_bound k = is_binding k || is_absent k

declared_kind : (k : Kind) → displaced_by role.Declared k ≡ false → is_bound k ≡ true
unfolding may_be may_be_raw
declared_kind kind.BindingIdent h = refl
declared_kind (kind.ArrayPat optional) h = refl
declared_kind (kind.ObjectPat optional) h = refl
declared_kind kind.Absent h = refl
declared_kind (kind.TplElement raw None tail) h = not_true (sym h)
declared_kind (kind.TplElement raw (Some cooked) tail) h = not_true (sym h)
declared_kind (kind.Ident text ctxt optional) h = or_true (is_reserved text) h
declared_kind _ h = not_true (sym h)

bound_annotated : (k : Kind) → is_bound k ≡ true → is_annotated k ≡ true
bound_annotated kind.List h = not_true h
bound_annotated kind.KeyValuePatProp h = not_true h
bound_annotated kind.Param h = not_true h
bound_annotated kind.SetterProp h = not_true h
bound_annotated (kind.TsParamProp accessibility is_override readonly) h = not_true h
bound_annotated _ h = refl

bound_place : (r : Role) → takes_patterns r ≡ true → (k : Kind) → is_bound k ≡ true → displaced_by r k ≡ false
unfolding may_be may_be_raw
bound_place role.Declared t kind.BindingIdent h = refl
bound_place role.Declared t (kind.ArrayPat optional) h = refl
bound_place role.Declared t (kind.ObjectPat optional) h = refl
bound_place role.Declared t kind.Absent h = refl
bound_place role.DeclaredValue t kind.BindingIdent h = refl
bound_place role.DeclaredValue t (kind.ArrayPat optional) h = refl
bound_place role.DeclaredValue t (kind.ObjectPat optional) h = refl
bound_place role.DeclaredValue t kind.Absent h = refl
bound_place role.DeclaredElement t kind.BindingIdent h = refl
bound_place role.DeclaredElement t (kind.ArrayPat optional) h = refl
bound_place role.DeclaredElement t (kind.ObjectPat optional) h = refl
bound_place role.DeclaredElement t kind.Absent h = refl
bound_place role.Parameter t kind.BindingIdent h = refl
bound_place role.Parameter t (kind.ArrayPat optional) h = refl
bound_place role.Parameter t (kind.ObjectPat optional) h = refl
bound_place role.Parameter t kind.Absent h = refl
bound_place role.DefaultedParameter t kind.BindingIdent h = refl
bound_place role.DefaultedParameter t (kind.ArrayPat optional) h = refl
bound_place role.DefaultedParameter t (kind.ObjectPat optional) h = refl
bound_place role.DefaultedParameter t kind.Absent h = refl
bound_place role.Declared t _ h = not_true h
bound_place role.DeclaredValue t _ h = not_true h
bound_place role.DeclaredElement t _ h = not_true h
bound_place role.Parameter t _ h = not_true h
bound_place role.DefaultedParameter t _ h = not_true h
bound_place _ t k h = not_true t

same_value : (k : Kind) (i : ℕ) → raw_role_in role.Declared k i ≡ raw_role_in role.DeclaredValue k i
unfolding raw_role_in usual_role_in role_in
same_value kind.List i = refl
same_value _ i = refl

same_element : (k : Kind) (i : ℕ) → raw_role_in role.Declared k i ≡ raw_role_in role.DeclaredElement k i
unfolding raw_role_in usual_role_in role_in
same_element kind.List i = refl
same_element _ i = refl

same_defaulted : (k : Kind) (i : ℕ) → raw_role_in role.Declared k i ≡ raw_role_in role.DefaultedParameter k i
unfolding raw_role_in usual_role_in role_in
same_defaulted kind.List i = refl
same_defaulted _ i = refl

free_this : (n : Node) → HasRawRole role.Free n → HasRawRole role.NameOrThis n
free_this n h = moved n role.Free role.NameOrThis (this_place (kind_of n) (placed_parts n role.Free h).0) (same_this (kind_of n)) h

-- the name of a parameter may be `this`

later_role : (i : ℕ) → raw_role_in role.Declared kind.BindingIdent (suc i) ≡ raw_role_in role.Parameter kind.BindingIdent (suc i)
unfolding raw_role_in usual_role_in role_in
later_role i = let e : nat_eq (suc i) 0 ≡ false = grind arith in rw e refl

parameter_along : (k : Kind) → is_bound k ≡ true → (xs : List Node) → Along (raw_role_in role.Declared k) xs → Along (raw_role_in role.Parameter k) xs
unfolding raw_role_in usual_role_in role_in
parameter_along kind.BindingIdent b [] a = tt
parameter_along kind.BindingIdent b (x ∷ xs) a = (free_this x a.0, along_same _ _ xs (λ i. later_role i) a.1)
parameter_along (kind.ArrayPat optional) b xs a = a
parameter_along (kind.ObjectPat optional) b xs a = a
parameter_along kind.Absent b xs a = a
parameter_along _ b xs a = not_true b

declared_wider : (r : Role) → takes_patterns r ≡ true → (n : Node) → HasRawRole role.Declared n → HasRawRole r n
declared_wider r t n h =
    let w = placed_parts n role.Declared h in
    let b = declared_kind (kind_of n) w.0 in
    go r t (bound_place r t (kind_of n) b)
  where
    go : (r : Role) → takes_patterns r ≡ true → displaced_by r (kind_of n) ≡ false → HasRawRole r n
    go role.Declared t p = h
    go role.DeclaredValue t p = moved n role.Declared role.DeclaredValue p (same_value (kind_of n)) h
    go role.DeclaredElement t p = moved n role.Declared role.DeclaredElement p (same_element (kind_of n)) h
    go role.DefaultedParameter t p = moved n role.Declared role.DefaultedParameter p (same_defaulted (kind_of n)) h
    go role.Parameter t p =
        let x = out-Node n in
        let w = placed_parts n role.Declared h in
        subst (HasRawRole role.Parameter) (roll-out-Node n) (placed x.span x.kind x.children role.Parameter p (parameter_along x.kind (declared_kind x.kind w.0) x.children w.1))
    go _ t p = not_true t

free_wider : (r : Role) → is_loose r ≡ true → (n : Node) → HasRawRole role.Free n → HasRawRole r n
free_wider role.Free l n h = h
free_wider role.Private l n h = moved n role.Free role.Private (private_place (kind_of n) (placed_parts n role.Free h).0) (same_private (kind_of n)) h
free_wider role.Key l n h = moved n role.Free role.Key (key_place (kind_of n) (placed_parts n role.Free h).0) (same_key (kind_of n)) h
free_wider _ l n h = not_true l

private_wider : (r : Role) → takes_private r ≡ true → (n : Node) → HasRawRole role.Private n → HasRawRole r n
private_wider role.Private t n h = h
private_wider _ t n h = not_true t

defaulted_wider : (r : Role) → takes_defaulted r ≡ true → (n : Node) → HasRawRole role.DefaultedParameter n → HasRawRole r n
defaulted_wider role.DefaultedParameter t n h = h
defaulted_wider _ t n h = not_true t

pub is_wider : (p r : Role) (n : Node) → wider p r ≡ true → HasRawRole p n → HasRawRole r n
is_wider role.Free r n w h = free_wider r w n h
is_wider role.Declared r n w h = declared_wider r w n h
is_wider role.Private r n w h = private_wider r w n h
is_wider role.DefaultedParameter r n w h = defaulted_wider r w n h
is_wider _ r n w h = no w

is_free : (r : Role) → is_free_role r ≡ true → r ≡ role.Free
is_free role.Free h = refl
is_free _ h = no h

pub fits_sound : (p q : Ask) (n : Node) → fits p q ≡ true → Meets p n → Meets q n
fits_sound p any n h m = tt
fits_sound (at p) (at r) n h m = is_wider p r n h m
fits_sound (at p) (both r s) n h m = let w = two (wider p r) (wider p s) h in (is_wider p r n w.0 m, is_wider p s n w.1 m)
fits_sound (at role.Declared) (single r) n h m = (is_wider role.Declared r n h m, bound_annotated (kind_of n) (declared_kind (kind_of n) (placed_parts n role.Declared m).0))
fits_sound (before p q) (before r s) n h m =
    let w = two (is_free_role p && is_free_role q) (is_free_role r && is_free_role s) h in
    let a = two (is_free_role p) (is_free_role q) w.0 in
    let b = two (is_free_role r) (is_free_role s) w.1 in
    let first = is_free p a.0 ∙ sym (is_free r b.0) in
    let second = is_free q a.1 ∙ sym (is_free s b.1) in
    subst (λ z. Meets (before z s) n) first (subst (λ z. Meets (before p z) n) second m)
fits_sound link link n h m = m
fits_sound (at p) text_or_free n h m = inl (subst (λ r. HasRawRole r n) (is_free p h) m)
fits_sound _ _ n h m = no h

meet_wider : (ps qs : List Ask) (xs : List Node) → all_fit ps qs ≡ true → MeetAll ps xs → MeetAll qs xs
meet_wider [] [] [] h m = tt
meet_wider [] [] (x ∷ xs) h m = absurd m
meet_wider (p ∷ ps) (q ∷ qs) [] h m = absurd m
meet_wider (p ∷ ps) (q ∷ qs) (x ∷ xs) h m = let t = two (fits p q) (all_fit ps qs) h in (fits_sound p q x t.0 m.0, meet_wider ps qs xs t.1 m.1)
meet_wider [] (q ∷ qs) xs h m = no h
meet_wider (p ∷ ps) [] xs h m = no h

meet_each : (ps : List Ask) (q : Ask) (xs : List Node) → each_fits ps q ≡ true → MeetAll ps xs → MeetEach q xs
meet_each [] q [] h m = tt
meet_each [] q (x ∷ xs) h m = absurd m
meet_each (p ∷ ps) q [] h m = absurd m
meet_each (p ∷ ps) q (x ∷ xs) h m = let t = two (fits p q) (each_fits ps q) h in (fits_sound p q x t.0 m.0, meet_each ps q xs t.1 m.1)

each_wider : (p q : Ask) (xs : List Node) → fits p q ≡ true → MeetEach p xs → MeetEach q xs
each_wider p q [] h m = tt
each_wider p q (x ∷ xs) h m = (fits_sound p q x h m.0, each_wider p q xs h m.1)

one_wider : (p q : Ask) (xs : List Node) → fits p q ≡ true → MeetAll (p ∷ []) xs → MeetAll (q ∷ []) xs
one_wider p q [] h m = absurd m
one_wider p q (x ∷ []) h m = (fits_sound p q x h m.0, tt)
one_wider p q (x ∷ y ∷ ys) h m = absurd m.1

pub chain_of : (x : Node) → HasRawRole role.Free x → Chained (x ∷ [])
chain_of x h = (x, refl, h)

chain_one : (xs : List Node) → MeetAll (free ∷ []) xs → Chained xs
chain_one [] m = absurd m
chain_one (x ∷ []) m = chain_of x m.0
chain_one (x ∷ y ∷ ys) m = absurd m.1

pub given_wider : (p q : Asked) (xs : List Node) → all_given p q ≡ true → Given p xs → Given q xs
given_wider p whatever xs h m = tt
given_wider (these ps) (these qs) xs h m = meet_wider ps qs xs h m
given_wider (these ps) (each q) xs h m = meet_each ps q xs h m
given_wider (these (p ∷ ps)) (first_and_each q r) [] h m = absurd m
given_wider (these (p ∷ ps)) (first_and_each q r) (x ∷ xs) h m = let t = two (fits p q) (each_fits ps r) h in (fits_sound p q x t.0 m.0, meet_each ps r xs t.1 m.1)
given_wider (these (p ∷ [])) (with_default r s) xs h m = inl (one_wider p (both r s) xs h m)
given_wider (these (p ∷ [])) chain xs h m = chain_one xs (one_wider p free xs h m)
given_wider (these (p ∷ [])) (perhaps q) xs h m = inr (one_wider p q xs h m)
given_wider (each p) (each q) xs h m = each_wider p q xs h m
given_wider _ _ xs h m = no h

-- one behind the other

no_nodes : (xs ys : List Node) (q : Asked) → MeetAll [] xs → Given q ys → Given q (xs ++ ys)
no_nodes [] ys q m g = g
no_nodes (x ∷ xs) ys q m g = absurd m

meet_both : (n : ℕ) (qs : List Ask) (xs ys : List Node) → MeetAll (take n qs) xs → MeetAll (drop n qs) ys → MeetAll qs (xs ++ ys)
meet_both zero qs xs ys m k = no_nodes xs ys (these qs) m k
meet_both (suc n) [] xs ys m k = no_nodes xs ys (these []) m k
meet_both (suc n) (q ∷ qs) [] ys m k = absurd m
meet_both (suc n) (q ∷ qs) (x ∷ xs) ys m k = (m.0, meet_both n qs xs ys m.1 k)

each_both : (q : Ask) (xs ys : List Node) → MeetEach q xs → MeetEach q ys → MeetEach q (xs ++ ys)
each_both q [] ys m k = k
each_both q (x ∷ xs) ys m k = (m.0, each_both q xs ys m.1 k)

some_nodes : (q : Ask) (xs ys : List Node) → MeetAll (q ∷ []) xs → MeetAll [] ys → MeetAll (q ∷ []) (xs ++ ys)
some_nodes q [] ys m k = absurd m
some_nodes q (x ∷ []) [] m k = m
some_nodes q (x ∷ []) (y ∷ ys) m k = absurd k
some_nodes q (x ∷ y ∷ xs) ys m k = absurd m.1

first_both : (q r : Ask) (xs ys : List Node) → Given (first_and_each q r) xs → MeetEach r ys → Given (first_and_each q r) (xs ++ ys)
first_both q r [] ys m k = absurd m
first_both q r (x ∷ xs) ys m k = (m.0, each_both r xs ys m.1 k)

first_alone : (q : Ask) (xs ys : List Node) → Given (first q) xs → Given (first q) (xs ++ ys)
first_alone q [] ys m = absurd m
first_alone q (x ∷ xs) ys m = m

default_both : (r s : Role) (xs ys : List Node) → MeetAll (both r s ∷ []) xs → Given (perhaps (before s r)) ys → Given (with_default r s) (xs ++ ys)
default_both r s [] ys m k = absurd m
default_both r s (x ∷ []) ys m (inl e) = let is = e in rw is (inl m)
default_both r s (x ∷ []) ys m (inr k) = inr (m.0, k)
default_both r s (x ∷ y ∷ xs) ys m k = absurd m.1

steps_on : (xs ys : List Node) (o : Option Node) → steps in_front o (xs ++ ys) ≡ steps in_front (steps in_front o xs) ys
steps_on [] ys o = refl
steps_on (x ∷ xs) ys o = steps_on xs ys _

links_on : (y : Node) (ys : List Node) → HasRawRole role.Free y → MeetEach behind ys → (z : Node) × (steps in_front (Some y) ys ≡ Some z) × HasRawRole role.Free z
links_on y [] h m = (y, refl, h)
links_on y (n ∷ ns) h m = links_on (in_front y n) ns (m.0 y h) m.1

chain_both : (xs ys : List Node) → Chained xs → MeetEach behind ys → Chained (xs ++ ys)
chain_both xs ys c m =
    let t = links_on c.0 ys c.2 m in
    (t.0, steps_on xs ys None ∙ ap (λ o. steps in_front o ys) c.1 ∙ t.1, t.2)

pub given_both : (n : ℕ) (q : Asked) (xs ys : List Node) → Given (first_part n q) xs → Given (second_part n q) ys → Given q (xs ++ ys)
given_both n whatever xs ys m k = tt
given_both n never xs ys m k = absurd m
given_both n (these qs) xs ys m k = meet_both n qs xs ys m k
given_both zero (perhaps q) xs ys m k = no_nodes xs ys (perhaps q) m k
given_both (suc n) (perhaps q) xs ys m k = inr (some_nodes q xs ys m k)
given_both n (each q) xs ys m k = each_both q xs ys m k
given_both zero (first q) xs ys m k = no_nodes xs ys (first q) m k
given_both (suc n) (first q) xs ys m k = first_alone q xs ys m
given_both zero (first_and_each q r) xs ys m k = no_nodes xs ys (first_and_each q r) m k
given_both (suc n) (first_and_each q r) xs ys m k = first_both q r xs ys m k
given_both n (with_default r s) xs ys m k = default_both r s xs ys m k
given_both n chain xs ys m k = chain_both xs ys m k

-- none, repeated, and one

pub given_none : (q : Asked) → none_asked q ≡ true → Given q []
given_none whatever h = tt
given_none (these []) h = tt
given_none (perhaps q) h = inl refl
given_none (each q) h = tt
given_none _ h = no h

pub given_more : (q : Asked) (xs ys : List Node) → Given (of_many q) xs → Given q ys → Given q (xs ++ ys)
given_more whatever xs ys m k = tt
given_more (each q) xs ys m k = each_both q xs ys m k
given_more _ xs ys m k = absurd m

pub given_one : (q : Asked) (x : Node) → is_one q ≡ true → Meets (of_one q) x → Given q (x ∷ [])
given_one whatever x h m = tt
given_one (these (q ∷ [])) x h m = (m, tt)
given_one (perhaps q) x h m = inr (m, tt)
given_one (each q) x h m = (m, tt)
given_one (first q) x h m = m
given_one (first_and_each q r) x h m = (m, tt)
given_one (with_default r s) x h m = inl (m, tt)
given_one chain x h m = chain_of x m
given_one _ x h m = no h
