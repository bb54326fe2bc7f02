-- What the children of a kind turn into.
use Rattle.std.proofs.Common.{◌≡◌, ℕ, zero, suc, Bool, true, false, ◌&&◌, ◌||◌, replicate, refl, sym, subst, ◌∙◌}
use Rattle.ecma_kind.specs.declared.operators.AssignOp.{AssignOp}
use Rattle.ecma_kind.specs.declared.operators.AssignOp.TheVariants.{Assign}
use Rattle.ecma_kind.specs.declared.kind.Kind.{Kind}
use Rattle.ecma_kind.specs.declared.kind.Kind.TheVariants as kind
use Rattle.ecma_kind.specs.declared.shapes.Count.{Count}
use Rattle.ecma_kind.specs.declared.shapes.Count.TheVariants.{One, Maybe, Many, MaybeMany, Holes}
use Rattle.ecma_kind.specs.declared.shapes.Shape.{Shape}
use Rattle.ecma_kind.specs.declared.shapes.Sort.{Sort}
use Rattle.ecma_kind.specs.declared.shapes.Sort.TheVariants as sort
use Rattle.ecma_tree.specs.Sorted.{child_shapes, item_count, item_shape, one}
use Rattle.ecma_rules.specs.declared.target.Target.{Target}
use Rattle.ecma_rules.specs.declared.target.Target.TheVariants as target
use Rattle.ecma_rules.specs.declared.standing.Around.{Around}
use Rattle.ecma_rules.specs.declared.standing.Standing.{Standing}
use Rattle.ecma_rules.specs.declared.standing.Standing.TheVariants as standing
use Rattle.ecma_rules.specs.Targets.{in_list, target_in}
use Rattle.ecma_rules.specs.Surroundings.{standing_by}
use Rattle.ecma_grammar_laws.specs.RawSorts as raw
use Rattle.ecma_grammar_laws.specs.RawSorts.{RawSort, RawShape, sorted, parameter, setter_parameter, allows_raw, belongs_raw, item_sort}
use Rattle.ecma_grammar_laws.proofs.RawShapes.{both}
use Rattle.ecma_grammar_laws.proofs.Asks.{same_count}
use Rattle.ecma_grammar_laws.proofs.Fits.{no, counts_same}
use Rattle.ecma_text_sorts.proofs.Turning.{all_turn, count_may, is_plain_standing, refined, stays_sort, turns, turns_to, wanted}
use Rattle.ecma_text_sorts.proofs.KindsTurned.{is_alone}

pub and_true : (a b : Bool) → a ≡ true → b ≡ true → (a && b) ≡ true
and_true true b h g = g
and_true false b h g = no h

-- lists

abbrev sort_turns : Target → Standing → RawSort → Sort → Bool
sort_turns t s x y = stays_sort t s x y || (turns_to t x y && is_plain_standing s)

same_counts : (c : Count) → (same_count (item_count c) (item_count c) && true) ≡ true
same_counts One = refl
same_counts Maybe = refl
same_counts Many = refl
same_counts MaybeMany = refl
same_counts Holes = refl

not_list : (t : Target) (x : RawSort) (y : Sort) → is_alone t ≡ true → turns_to t x y ≡ true → belongs_raw x kind.List ≡ false
not_list target.Free parameter sort.Pat a h = refl
not_list target.Free (sorted sort.ParamOrTsParamProp) sort.Param a h = refl
not_list target.Left (sorted sort.Expr) sort.AssignTarget a h = refl
not_list target.Simple (sorted sort.Expr) sort.AssignTarget a h = refl
not_list target.Simple (sorted sort.Expr) sort.Expr a h = refl
not_list target.Head (sorted sort.ForHead) sort.ForHead a h = refl
not_list target.Part (sorted sort.Expr) sort.Pat a h = refl
not_list target.Rest (sorted sort.Expr) sort.Pat a h = refl
not_list target.Name (sorted sort.Ident) sort.BindingIdent a h = refl
not_list target.Element (sorted sort.Expr) sort.Pat a h = refl
not_list target.Element (sorted sort.ExprOrSpread) sort.Pat a h = refl
not_list target.Property (sorted sort.PropOrSpread) sort.ObjectPatProp a h = refl
not_list target.Elements x y a h = no a
not_list target.Properties x y a h = no a
not_list _ _ _ a h = no h

elements_items : (x : RawSort) (y : Sort) → turns_to target.Elements x y ≡ true → turns_to target.Element (item_sort x) y ≡ true
elements_items (sorted sort.ExprOrSpread) sort.Pat h = refl
elements_items _ _ h = no h

properties_items : (x : RawSort) (y : Sort) → turns_to target.Properties x y ≡ true → turns_to target.Property (item_sort x) y ≡ true
properties_items (sorted sort.PropOrSpread) sort.ObjectPatProp h = refl
properties_items _ _ h = no h

-- whether an item turns as its list does
abbrev item_turns : Target → Standing → Count → RawSort → Sort → Bool
item_turns t s c x y = (same_count (item_count c) (item_count c) && count_may (in_list t) (item_count c)) && sort_turns (in_list t) s (item_sort x) y

free_item : (s : Standing) (c : Count) (x : RawSort) (y : Sort) → sort_turns target.Free s x y ≡ true → item_turns target.Free s c x y ≡ true
free_item s c (sorted x) y h = and_true (same_count (item_count c) (item_count c) && true) (sort_turns target.Free s (sorted x) y) (same_counts c) h
free_item s c parameter y h = and_true (same_count (item_count c) (item_count c) && true) (sort_turns target.Free s parameter y) (same_counts c) h
free_item s c setter_parameter y h = no h

element_item : (s : Standing) (c : Count) (x : RawSort) (y : Sort) → count_may target.Elements c ≡ true → sort_turns target.Elements s x y ≡ true → item_turns target.Elements s c x y ≡ true
element_item s Holes x y a h = let w = both (turns_to target.Elements x y) (is_plain_standing s) h in and_true (turns_to target.Element (item_sort x) y) (is_plain_standing s) (elements_items x y w.0) w.1
element_item s _ x y a h = no a

property_item : (s : Standing) (c : Count) (x : RawSort) (y : Sort) → count_may target.Properties c ≡ true → sort_turns target.Properties s x y ≡ true → item_turns target.Properties s c x y ≡ true
property_item s Many x y a h = let w = both (turns_to target.Properties x y) (is_plain_standing s) h in and_true (turns_to target.Property (item_sort x) y) (is_plain_standing s) (properties_items x y w.0) w.1
property_item s _ x y a h = no a

-- what is assigned to and turns alone is no list
alone : {A : Type 0} (t : Target) (s : Standing) (x : RawSort) (y : Sort) → is_alone t ≡ true → (turns_to t x y && is_plain_standing s) ≡ true → belongs_raw x kind.List ≡ true → A
alone t s x y a h b = let w = both (turns_to t x y) (is_plain_standing s) h in no (sym (not_list t x y a w.0) ∙ b)

item : (t : Target) (s : Standing) (c : Count) (x : RawSort) (y : Sort) → count_may t c ≡ true → sort_turns t s x y ≡ true → raw.allows_by c x kind.List ≡ true → item_turns t s c x y ≡ true
item target.Free s c x y a h b = free_item s c x y h
item target.Elements s c x y a h b = element_item s c x y a h
item target.Properties s c x y a h b = property_item s c x y a h
item target.Left s One x y a h b = alone target.Left s x y refl h b
item target.Simple s One x y a h b = alone target.Simple s x y refl h b
item target.Head s One x y a h b = alone target.Head s x y refl h b
item target.Part s One x y a h b = alone target.Part s x y refl h b
item target.Rest s One x y a h b = alone target.Rest s x y refl h b
item target.Name s One x y a h b = alone target.Name s x y refl h b
item target.Property s One x y a h b = alone target.Property s x y refl h b
item target.Element s One x y a h b = alone target.Element s x y refl h b
item target.Element s Maybe x y a h b = alone target.Element s x y refl h b
item _ s _ x y a h b = no a

item_turned : (t : Target) (s : Standing) (last : Bool) (r : RawShape) (o : Shape) → turns (record { target = t; standing = s; is_last = last }) r o ≡ true → allows_raw r kind.List ≡ true
    → turns (record { target = in_list t; standing = s; is_last = last }) (raw.item_shape r) (item_shape o) ≡ true
item_turned t s last r o h b =
    let w = both (same_count r.count o.count && count_may t r.count) (sort_turns t s r.sort o.sort) h in
    let v = both (same_count r.count o.count) (count_may t r.count) w.0 in
    subst (λ c. ((same_count (item_count r.count) (item_count c) && count_may (in_list t) (item_count r.count)) && sort_turns (in_list t) s (item_sort r.sort) o.sort) ≡ true)
    (counts_same r.count o.count v.0) (item t s r.count r.sort o.sort v.1 w.1 b)

-- as many, each of which turns
each_turns : (t : Target) (s : Standing) (last : ℕ → Bool) (r : RawShape) (o : Shape) → ((b : Bool) → turns (record { target = t; standing = s; is_last = b }) r o ≡ true) → (n : ℕ)
    → all_turn (λ i. record { target = t; standing = s; is_last = last i }) (replicate n r) (replicate n o) ≡ true
each_turns t s last r o h zero = refl
each_turns t s last r o h (suc n) =
    and_true (turns (record { target = t; standing = s; is_last = last 0 }) r o) (all_turn (λ i. record { target = t; standing = s; is_last = last (suc i) }) (replicate n r) (replicate n o))
    (h (last 0)) (each_turns t s (λ i. last (suc i)) r o h n)

-- what stands around the children of a node of a kind, of which those at 1 and 2 are there or not
abbrev pub inside : Target → Standing → Kind → Bool → Bool → (ℕ → Bool) → ℕ → Around
inside t s k first second last i = record { target = target_in t k i; standing = standing_by s k first second i; is_last = last i }

-- whether the children of a kind turn
abbrev children_turn : Target → Standing → RawShape → Shape → ℕ → Bool → Bool → (ℕ → Bool) → Kind → Bool
children_turn t s r o n first second last k = all_turn (inside t s k first second last) (refined k r n) (wanted t k o n)

-- the expressions of a sequence
sequence_turns : (last : ℕ → Bool) (r : RawShape) (o : Shape) (n : ℕ) → all_turn (λ i. record { target = target.Free; standing = standing.Plain; is_last = last i }) (refined kind.SeqExpr r n) (child_shapes kind.SeqExpr o n) ≡ true
sequence_turns last r o zero = refl
sequence_turns last r o (suc n) = each_turns target.Free standing.Plain last (raw.one (sorted sort.Expr)) (one sort.Expr) (λ b. refl) (suc n)

module _ (s : Standing) (r : RawShape) (o : Shape) (n : ℕ) (first second : Bool) (last : ℕ → Bool) where
  abbrev Turn : Target → Kind → Type 0
  Turn t k = children_turn t s r o n first second last k ≡ true

  assigned : (t : Target) (op : AssignOp) → Turn t (kind.AssignExpr op)
  unfolding target_in standing_by
  assigned target.Element Assign = refl
  assigned target.Element _ = refl
  assigned _ Assign = refl
  assigned _ _ = refl

  arrays_turn : (t : Target) → Turn t kind.ArrayLit
  unfolding target_in standing_by
  arrays_turn target.Free = refl
  arrays_turn _ = refl

  objects_turn : (t : Target) → Turn t kind.ObjectLit
  unfolding target_in standing_by
  objects_turn target.Free = refl
  objects_turn _ = refl

  spreads_turn : (t : Target) → Turn t kind.SpreadElement
  unfolding target_in standing_by
  spreads_turn target.Free = refl
  spreads_turn _ = refl

  values_turn : (t : Target) → Turn t kind.KeyValueProp
  unfolding target_in standing_by
  values_turn target.Free = refl
  values_turn _ = refl

  defaults_turn : (t : Target) → Turn t kind.AssignProp
  unfolding target_in standing_by
  defaults_turn target.Free = refl
  defaults_turn _ = refl

  pub children_turned : (t : Target) (k : Kind) → ((b : Bool) → turns (record { target = t; standing = s; is_last = b }) r o ≡ true) → allows_raw r k ≡ true → Turn t k
  unfolding target_in standing_by
  children_turned t kind.List h b = each_turns (in_list t) s last (raw.item_shape r) (item_shape o) (λ z. item_turned t s z r o (h z) b) n
  children_turned t kind.SeqExpr h b = sequence_turns last r o n
  children_turned t (kind.AssignExpr op) h b = assigned t op
  children_turned t kind.ArrayLit h b = arrays_turn t
  children_turned t kind.ObjectLit h b = objects_turn t
  children_turned t kind.SpreadElement h b = spreads_turn t
  children_turned t kind.KeyValueProp h b = values_turn t
  children_turned t kind.AssignProp h b = defaults_turn t
  children_turned t _ h b = refl
