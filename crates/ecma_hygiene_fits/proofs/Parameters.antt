-- What is said of parameters is said of them with other texts, where none is `this`.
use Rattle.std.proofs.Common.{◌≡◌, ◌∙◌, ◌⊎◌, inl, inr, ℕ, zero, suc, Bool, true, false, not, ◌&&◌, bytes_eq, codes, List, [], ◌∷◌, length, replicate, Option, Some, None, refl, sym, ap, ap₂, slice_get, subst}
use Rattle.std.specs.List.{list_any}
use Rattle.std.proofs.lemmas.Bool.{false≢true, or_from, or_parts}
use Rattle.std.proofs.lemmas.Slice.Eq.{bytes_eq-Decides}
use Rattle.ecma_lex.specs.Keys.{is_reserved, reserved_words}
use Rattle.ecma_kind.specs.Sorts.{belongs}
use Rattle.ecma_kind.specs.declared.kind.Kind.{Kind}
use Rattle.ecma_kind.specs.declared.kind.Kind.TheVariants as kind
use Rattle.ecma_kind.specs.declared.operators.MethodKind.{MethodKind}
use Rattle.ecma_kind.specs.declared.operators.MethodKind.TheVariants.{Method, Getter, Setter}
use Rattle.ecma_kind.specs.declared.shapes.Shape.{Shape}
use Rattle.ecma_kind.specs.declared.shapes.Sort.{Sort}
use Rattle.ecma_kind.specs.declared.shapes.Sort.TheVariants as sort
use Rattle.ecma_tree.specs.declared.node.Node.{Node}
use Rattle.ecma_tree.specs.Laws.{HaveShapes}
use Rattle.ecma_tree.specs.Sorted.{HasShape, child_shapes, is_list, many, one}
use Rattle.ecma_rules.specs.Children.{children_of as items_of, holds_of, kind_of, is_present}
use Rattle.ecma_rules.specs.Lists.{is_rest_pattern}
use Rattle.ecma_rules.specs.Members.{behind_first, fits_kind, is_binding_name, is_empty_list, is_named_pattern, is_one_parameter, is_plain_parameter, is_this_by, is_this_parameter, is_this_pattern, takes_one, has_body}
use Rattle.ecma_hygiene.specs.declared.spot.Standing.{Standing}
use Rattle.ecma_hygiene.specs.Renamed.{Texts, standing_in, text_of}
use Rattle.ecma_hygiene_fits.specs.Unreserved.{AreUnreserved, IsUnreserved}
use Rattle.ecma_hygiene_fits.proofs.Becoming.{Quiet, all_become, become, child_same, children_stay, is_touched, kind_stays, stays_touched, present_quiet}
use Rattle.ecma_hygiene_fits.proofs.Everywhere.{Each, children_of}
use Rattle.ecma_hygiene_fits.proofs.Listed.{list_untouched}
use Rattle.ecma_hygiene_fits.proofs.Named.{child_unnamed}
use Rattle.ecma_hygiene_fits.proofs.Walk.{shape_parts}

-- ---- kinds

binding_quiet : Quiet false is_binding_name
unfolding is_touched
binding_quiet kind.BindingIdent t = cc
binding_quiet _ t = refl

pub rest_quiet : Quiet false is_rest_pattern
unfolding is_touched
rest_quiet kind.RestPat t = absurd (false≢true t)
rest_quiet _ t = refl

plain_quiet : (k : Kind) (n : Node) → is_touched k ≡ true → is_named_pattern k n ≡ false
unfolding is_touched
plain_quiet kind.BindingIdent n t = absurd (false≢true t)
plain_quiet kind.AssignPat n t = absurd (false≢true t)
plain_quiet _ n t = refl

this_quiet : (k : Kind) (n : Node) → is_touched k ≡ true → is_this_by k n ≡ false
unfolding is_touched
this_quiet kind.BindingIdent n t = absurd (false≢true t)
this_quiet _ n t = refl

pub param_untouched : (k : Kind) → belongs sort.Param k ≡ true → is_touched k ≡ false
unfolding is_touched
param_untouched kind.Param b = refl
param_untouched _ b = absurd (false≢true b)

pub params_untouched : (k : Kind) → belongs sort.ParamOrTsParamProp k ≡ true → is_touched k ≡ false
unfolding is_touched
params_untouched kind.Param b = refl
params_untouched (kind.TsParamProp accessibility is_override readonly) b = refl
params_untouched _ b = absurd (false≢true b)

only_list : (k : Kind) → is_list k ≡ true → k ≡ kind.List
only_list kind.List l = refl
only_list _ l = absurd (false≢true l)

-- ---- the name `this`

this_reserved : is_reserved (codes "this") ≡ true
unfolding is_reserved reserved_words
this_reserved = refl

not_reserved : (word : List ℕ) → is_reserved word ≡ false → bytes_eq word (codes "this") ≡ false
not_reserved word free = go (bytes_eq word (codes "this")) refl
  where
    go : (b : Bool) → bytes_eq word (codes "this") ≡ b → bytes_eq word (codes "this") ≡ false
    go false e = e
    go true e = absurd (false≢true (sym free ∙ (ap is_reserved ((bytes_eq-Decides word (codes "this")).0 e) ∙ this_reserved)))

-- what is so of each, and what follows of each
each_then : (P Q R : Node → Type 0) → ((c : Node) → P c → Q c → R c) → (cs : List Node) → Each P cs → Each Q cs → Each R cs
each_then P Q R f [] p q = tt
each_then P Q R f (c ∷ cs) p q = (f c p.0 q.0, each_then P Q R f cs p.1 q.1)

each_shaped : (σ : Sort) (m : ℕ) (cs : List Node) → HaveShapes (replicate m (one σ)) cs → Each (HasShape (one σ)) cs
each_shaped σ zero [] h = tt
each_shaped σ zero (c ∷ cs) h = absurd h
each_shaped σ (suc m) [] h = absurd h
each_shaped σ (suc m) (c ∷ cs) h = (h.0, each_shaped σ m cs h.1)

-- the items of a list
pub items_shaped : (σ : Sort) (l : Node) → HasShape (many σ) l → Each (HasShape (one σ)) (children_of l)
items_shaped σ l has =
    let t = shape_parts l (many σ) has in
    each_shaped σ (length (children_of l)) (children_of l) (subst (λ k. HaveShapes (child_shapes k (many σ) (length (children_of l))) (children_of l)) (only_list (kind_of l) t.0) t.1)

pub behind_none : (test : Node → Bool) (cs : List Node) → list_any test cs ≡ false → list_any test (behind_first cs) ≡ false
behind_none test [] h = h
behind_none test (c ∷ cs) h = (or_parts (test c) (list_any test cs) h).1

function_untouched : (k : Kind) → belongs sort.Function k ≡ true → is_touched k ≡ false
unfolding is_touched
function_untouched (kind.Function is_generator is_async) b = refl
function_untouched _ b = absurd (false≢true b)

module _ (texts : Texts) (unreserved : AreUnreserved texts) where
  not_this : (sym : List ℕ) (ctxt : ℕ) → bytes_eq sym (codes "this") ≡ false → bytes_eq (text_of texts (sym, ctxt)) (codes "this") ≡ false
  not_this text ctxt h = go (unreserved (text, ctxt))
    where
      go : (text_of texts (text, ctxt) ≡ text) ⊎ IsUnreserved (text_of texts (text, ctxt)) → bytes_eq (text_of texts (text, ctxt)) (codes "this") ≡ false
      go (inl same) = ap (λ z. bytes_eq z (codes "this")) same ∙ h
      go (inr u) = not_reserved (text_of texts (text, ctxt)) u.unreserved

  -- a name that is not `this` is not
  pub pattern_stays : (n : Node) → is_this_pattern n ≡ false → (stands : Standing) → is_this_pattern (become texts n stands) ≡ false
  pattern_stays n h stands = go (is_touched (kind_of n)) refl
    where
      by_kind : (k : Kind) → is_touched (kind_of n) ≡ false → is_this_by k n ≡ false → is_this_by k (become texts n stands) ≡ false
      by_kind kind.BindingIdent u h = child_unnamed (codes "this") texts not_this n stands u h
      by_kind _ u h = refl

      go : (t : Bool) → is_touched (kind_of n) ≡ t → is_this_pattern (become texts n stands) ≡ false
      go true t = this_quiet (kind_of (become texts n stands)) (become texts n stands) (stays_touched texts n stands t)
      go false u = ap (λ k. is_this_by k (become texts n stands)) (kind_stays texts n stands u) ∙ by_kind (kind_of n) u h

  pub plain_same : (n : Node) (stands : Standing) → is_plain_parameter (become texts n stands) ≡ is_plain_parameter n
  plain_same n stands = go (is_touched (kind_of n)) refl
    where
      by_kind : (k : Kind) → is_touched (kind_of n) ≡ false → is_named_pattern k (become texts n stands) ≡ is_named_pattern k n
      by_kind kind.BindingIdent u = refl
      by_kind kind.AssignPat u = child_same texts is_binding_name false binding_quiet n stands u 0
      by_kind _ u = refl

      go : (t : Bool) → is_touched (kind_of n) ≡ t → is_plain_parameter (become texts n stands) ≡ is_plain_parameter n
      go true t = plain_quiet (kind_of (become texts n stands)) (become texts n stands) (stays_touched texts n stands t) ∙ sym (plain_quiet (kind_of n) n t)
      go false u = ap (λ k. is_named_pattern k (become texts n stands)) (kind_stays texts n stands u) ∙ by_kind (kind_of n) u

  -- ---- where no name in a node is `this`

  module _ (Calm : Node → Type 0) (here : (n : Node) → Calm n → is_this_pattern n ≡ false) (below : (n : Node) → Calm n → Each Calm (children_of n)) where
    no_parameter : (n : Node) → Calm n → is_this_parameter n ≡ false
    no_parameter n calm = go (children_of n) (below n calm)
      where
        go : (cs : List Node) → Each Calm cs → holds_of is_this_pattern (slice_get cs 0) ≡ false
        go [] e = refl
        go (c ∷ cs) e = here c e.0

    none_becomes : (n : Node) → is_touched (kind_of n) ≡ false → Calm n → (stands : Standing) → is_this_parameter (become texts n stands) ≡ false
    none_becomes n u calm stands = ap (λ (z : List Node). holds_of is_this_pattern (slice_get z 0)) (children_stay texts n stands u) ∙ go (children_of n) (below n calm)
      where
        go : (cs : List Node) → Each Calm cs → holds_of is_this_pattern (slice_get (all_become texts (standing_in stands n) 0 cs) 0) ≡ false
        go [] e = refl
        go (c ∷ cs) e = pattern_stays c (here c e.0) (standing_in stands n 0)

    abbrev Never : (Node → Bool) → Node → Type 0
    Never test c = (stands : Standing) → test (become texts c stands) ≡ false

    never_any : (test : Node → Bool) (cs : List Node) → Each (Never test) cs → (stands : ℕ → Standing) (j : ℕ) → list_any test (all_become texts stands j cs) ≡ false
    never_any test [] e stands j = refl
    never_any test (c ∷ cs) e stands j = or_from (test (become texts c (stands j))) (list_any test (all_become texts stands (suc j) cs)) (e.0 (stands j)) (never_any test cs e.1 stands (suc j))

    -- neither is `this`, and both take one argument or neither does
    abbrev TakesAlike : Node → Type 0
    TakesAlike c = Never is_this_parameter c × (is_this_parameter c ≡ false) × ((stands : Standing) → takes_one (become texts c stands) ≡ takes_one c)

    takes_alike : (c : Node) → is_touched (kind_of c) ≡ false → Calm c → TakesAlike c
    takes_alike c u calm =
        let never = none_becomes c u calm in
        let free = no_parameter c calm in
        (never, free, λ stands. ap₂ (λ x y. not x && not y) (never stands ∙ sym free) (child_same texts is_rest_pattern false rest_quiet c stands u 0))

    one_same : (cs : List Node) → Each TakesAlike cs → (stands : ℕ → Standing) → is_one_parameter (all_become texts stands 0 cs) ≡ is_one_parameter cs
    one_same [] e stands = refl
    one_same (c ∷ []) e stands = e.0.2 (stands 0)
    one_same (c ∷ d ∷ []) e stands = ap (λ b. b && takes_one (become texts d (stands 1))) (e.0.0 (stands 0)) ∙ sym (ap (λ b. b && takes_one d) e.0.1)
    one_same (c ∷ d ∷ b ∷ cs) e stands = refl

    empty_same : (cs : List Node) (stands : ℕ → Standing) → is_empty_list (all_become texts stands 0 cs) ≡ is_empty_list cs
    empty_same [] stands = refl
    empty_same (c ∷ cs) stands = refl

    -- the child at an index, and what it becomes
    module _ (Q : Option Node → Option Node → Type 0) (o : Shape) (missing : Q None None) (there : (c : Node) → HasShape o c → Calm c → (stands : Standing) → Q (Some (become texts c stands)) (Some c)) where
      some_same : (s : Shape) → Some s ≡ Some o → s ≡ o
      some_same s e = cc

      pub child_met : (os : List Shape) (cs : List Node) → HaveShapes os cs → Each Calm cs → (i : ℕ) → slice_get os i ≡ Some o → (stands : ℕ → Standing) (j : ℕ)
          → Q (slice_get (all_become texts stands j cs) i) (slice_get cs i)
      child_met os [] has e i at stands j = missing
      child_met [] (c ∷ cs) has e i at stands j = absurd has
      child_met (s ∷ os) (c ∷ cs) has e zero at stands j = there c (subst (λ z. HasShape z c) (some_same s at) has.0) e.0 (stands j)
      child_met (s ∷ os) (c ∷ cs) has e (suc i) at stands j = child_met os cs has.1 e.1 i at stands (suc j)

    -- the parameters in a list
    module _ (σ : Sort) (untouched : (k : Kind) → belongs σ k ≡ true → is_touched k ≡ false) (l : Node) (has : HasShape (many σ) l) (calm : Calm l) where
      each_alike : Each TakesAlike (children_of l)
      each_alike =
          each_then (HasShape (one σ)) Calm TakesAlike (λ c h q. takes_alike c (untouched (kind_of c) (shape_parts c (one σ) h).0) q) (children_of l) (items_shaped σ l has) (below l calm)

      never_each : Each (Never is_this_parameter) (children_of l)
      never_each = each_then TakesAlike TakesAlike (Never is_this_parameter) (λ c p q. p.0) (children_of l) each_alike each_alike

      is_list_there : is_touched (kind_of l) ≡ false
      is_list_there = list_untouched (kind_of l) (shape_parts l (many σ) has).0

      pub no_this_in : (stands : Standing) → list_any is_this_parameter (children_of (become texts l stands)) ≡ false
      no_this_in stands =
          ap (λ (z : List Node). list_any is_this_parameter z) (children_stay texts l stands is_list_there) ∙ never_any is_this_parameter (children_of l) never_each (standing_in stands l) 0

      pub counts_in : (stands : Standing) →
          (is_one_parameter (children_of (become texts l stands)) ≡ is_one_parameter (children_of l)) × (is_empty_list (children_of (become texts l stands)) ≡ is_empty_list (children_of l))
      counts_in stands = (
        ap is_one_parameter (children_stay texts l stands is_list_there)
            ∙ one_same (children_of l) each_alike (standing_in stands l),
        ap is_empty_list (children_stay texts l stands is_list_there) ∙ empty_same (children_of l) (standing_in stands l),
      )

    -- patterns in a list
    pub no_pattern_in : (σ : Sort) (l : Node) → HasShape (many σ) l → Calm l → (stands : Standing) → list_any is_this_pattern (children_of (become texts l stands)) ≡ false
    no_pattern_in σ l has calm stands =
        ap (λ (z : List Node). list_any is_this_pattern z) (children_stay texts l stands (list_untouched (kind_of l) (shape_parts l (many σ) has).0))
        ∙ never_any is_this_pattern (children_of l) (each_then Calm Calm (Never is_this_pattern) (λ c p q stands. pattern_stays c (here c p) stands) (children_of l) (below l calm) (below l calm)) (standing_in stands l) 0

    -- ---- functions

    abbrev Counted : Option Node → Option Node → Type 0
    Counted d c = (is_one_parameter (items_of d) ≡ is_one_parameter (items_of c)) × (is_empty_list (items_of d) ≡ is_empty_list (items_of c))

    counted_by : (k : Kind) → belongs sort.Function k ≡ true → (s : Shape) (m : ℕ) (cs : List Node) → HaveShapes (child_shapes k s m) cs → Each Calm cs → (stands : ℕ → Standing)
        → Counted (slice_get (all_become texts stands 0 cs) 0) (slice_get cs 0)
    counted_by (kind.Function is_generator is_async) b s m cs has e stands =
        child_met Counted (many sort.Param) (refl, refl) (λ l h q st. counts_in sort.Param param_untouched l h q st) (child_shapes (kind.Function is_generator is_async) s m) cs has e 0 refl stands 0
    counted_by _ b s m cs has e stands = absurd (false≢true b)

    pub fits_same : (k : MethodKind) (f : Node) → HasShape (one sort.Function) f → Calm f → (stands : Standing) → fits_kind k (become texts f stands) ≡ fits_kind k f
    fits_same k f has calm stands = go k
      where
        parts : (belongs sort.Function (kind_of f) ≡ true) × HaveShapes (child_shapes (kind_of f) (one sort.Function) (length (children_of f))) (children_of f)
        parts = shape_parts f (one sort.Function) has

        counted : Counted (slice_get (all_become texts (standing_in stands f) 0 (children_of f)) 0) (slice_get (children_of f) 0)
        counted = counted_by (kind_of f) parts.0 (one sort.Function) (length (children_of f)) (children_of f) parts.1 (below f calm) (standing_in stands f)

        stay : children_of (become texts f stands) ≡ all_become texts (standing_in stands f) 0 (children_of f)
        stay = children_stay texts f stands (function_untouched (kind_of f) parts.0)

        go : (k : MethodKind) → fits_kind k (become texts f stands) ≡ fits_kind k f
        go Method = refl
        go Getter = ap (λ (z : List Node). is_empty_list (items_of (slice_get z 0))) stay ∙ counted.1
        go Setter = ap (λ (z : List Node). is_one_parameter (items_of (slice_get z 0))) stay ∙ counted.0

-- a function keeps its body
pub body_same : (texts : Texts) (f : Node) → HasShape (one sort.Function) f → (stands : Standing) → has_body (become texts f stands) ≡ has_body f
body_same texts f has stands = child_same texts is_present true present_quiet f stands (function_untouched (kind_of f) (shape_parts f (one sort.Function) has).0) 1
