-- Nothing belongs to nothing without types, where nothing did.
use Rattle.std.proofs.Common.{◌≡◌, ◌∙◌, ℕ, Bool, true, false, List, [], ◌∷◌, length, Option, Some, None, refl, sym, ap, subst, slice_get}
use Rattle.ecma_kind.specs.declared.kind.Kind.{Kind}
use Rattle.ecma_kind.specs.declared.kind.Kind.TheVariants as kind
use Rattle.ecma_kind.specs.declared.shapes.Shape.{Shape}
use Rattle.ecma_kind.specs.declared.shapes.Sort.TheVariants as sort
use Rattle.ecma_kind.specs.declared.span.Span.{Span}
use Rattle.ecma_tree.specs.declared.node.Node.{Node, Node-F}
use Rattle.ecma_tree.specs.declared.node.Node.TheViews.{out-roll-Node}
use Rattle.ecma_tree.specs.Nodes.{absent, dummy_span, node_of}
use Rattle.ecma_tree.specs.Sorted.{HasShape, child_shapes, is_list, one}
use Rattle.ecma_rules.specs.declared.strays.Strays.{Strays}
use Rattle.ecma_rules.specs.Children.{kind_of}
use Rattle.ecma_rules.specs.Failing.{failing_here}
use Rattle.ecma_rules.specs.Jumps.{Held, ends_jumps, held_behind, held_in, is_held_stray, is_stray_in, label_of, not_held, own_label, stray_here, text_by, text_of}
use Rattle.ecma_rules.specs.Strays.{in_named, is_stray, strays_in}
use Rattle.ecma_strip.specs.Stripping.{plain_children, plain_kind, stripped}
use Rattle.ecma_strip.proofs.Sorting.{list-kind}
use Rattle.ecma_strip_fits.specs.Laws.{StrippingKeepsStrays}
use Rattle.ecma_strip_fits.proofs.Classes.{class_of}
use Rattle.ecma_strip_fits.proofs.Classes.Class.{Usual, Wrapped}
use Rattle.ecma_strip_fits.proofs.ChildrenKept.{AsUsual, Plain, child_kept, maybe_usual, one_usual}
use Rattle.ecma_strip_fits.proofs.Walk.{Carries, children_of, kept, shape_parts, usual_kind}

pub kind_node : (span : Span) (k : Kind) (cs : List Node) → kind_of (node_of span k cs) ≡ k
kind_node span k cs = ap (λ (z : Node-F Node). z.kind) (out-roll-Node (record { span = span; kind = k; children = cs }))

pub not_failing : (b : Bool) (n : Node) → failing_here b n ≡ None → b ≡ false
not_failing true n h = cc
not_failing false n h = refl

pub none_failing : (b : Bool) (n : Node) → b ≡ false → failing_here b n ≡ None
none_failing b n h = ap (λ z. failing_here z n) h

-- ---- kinds

no_stray : (held : Held) (label : Option (List ℕ)) → (is_stray_in held kind.Absent label ≡ false) × (is_stray_in held kind.EmptyStmt label ≡ false) × (is_stray_in held kind.List label ≡ false)
unfolding is_stray_in is_stray
no_stray held label = (refl, refl, refl)

stray_plain : (held : Held) (label : Option (List ℕ)) → Plain Bool (λ k. is_stray_in held k label)
unfolding is_stray_in is_stray plain_kind
stray_plain held label kind.Absent = refl
stray_plain held label _ = refl

strays_plain : (s : Strays) (i : ℕ) → Plain Strays (λ k. strays_in s k i)
unfolding strays_in in_named plain_kind
strays_plain s i kind.Absent = refl
strays_plain s i _ = refl

ends_plain : Plain Bool ends_jumps
unfolding ends_jumps plain_kind
ends_plain kind.Absent = refl
ends_plain _ = refl

own_plain : (label : Option (List ℕ)) → Plain (Option (List ℕ)) (λ k. own_label k label)
unfolding plain_kind
own_plain label kind.Absent = refl
own_plain label _ = refl

text_plain : Plain (Option (List ℕ)) text_by
unfolding plain_kind
text_plain (kind.Ident text ctxt optional) = refl
text_plain _ = refl

-- an expression with a type round it stands as that does, and an item as its list does
wrapped_held : (k : Kind) → class_of k ≡ Wrapped → (held : Held) (label : Option (List ℕ)) → held_behind (strays_in held.strays k 0) (ends_jumps k) (own_label k label) held.labels ≡ held
unfolding class_of strays_in in_named ends_jumps
wrapped_held kind.TsTypeAssertion e held label = refl
wrapped_held kind.TsConstAssertion e held label = refl
wrapped_held kind.TsNonNullExpr e held label = refl
wrapped_held kind.TsAsExpr e held label = refl
wrapped_held kind.TsInstantiation e held label = refl
wrapped_held kind.TsSatisfiesExpr e held label = refl
wrapped_held _ e held label = cc

list_held : (held : Held) (i : ℕ) (label : Option (List ℕ)) → held_behind (strays_in held.strays kind.List i) (ends_jumps kind.List) (own_label kind.List label) held.labels ≡ held
unfolding strays_in in_named ends_jumps
list_held held i label = refl

item_held : (held : Held) (n : Node) (i : ℕ) → is_list (kind_of n) ≡ true → held_in held n i ≡ held
item_held held n i l = ap (λ k. held_behind (strays_in held.strays k i) (ends_jumps k) (own_label k (label_of n)) held.labels) (list-kind (kind_of n) l) ∙ list_held held i (label_of n)

-- ---- labels

-- a statement with a label, and a jump
is_labelled : Kind → Bool
is_labelled kind.LabeledStmt = true
is_labelled kind.BreakStmt = true
is_labelled kind.ContinueStmt = true
is_labelled _ = false

label_first : (k : Kind) → is_labelled k ≡ true → (cs : List Node) → slice_get (plain_children k cs) 0 ≡ slice_get cs 0
unfolding is_labelled plain_children
label_first kind.LabeledStmt l [] = refl
label_first kind.LabeledStmt l (c ∷ cs) = refl
label_first kind.BreakStmt l cs = refl
label_first kind.ContinueStmt l cs = refl
label_first _ l cs = cc

some_same : {X : Type 0} {x y : X} → Some x ≡ Some y → x ≡ y
some_same e = cc

label_usual : (k : Kind) → is_labelled k ≡ true → (s : Shape) (m : ℕ) (o : Shape) → slice_get (child_shapes k s m) 0 ≡ Some o → AsUsual o
unfolding is_labelled
label_usual kind.LabeledStmt l s m o at = subst AsUsual (some_same at) (one_usual sort.Ident refl)
label_usual kind.BreakStmt l s m o at = subst AsUsual (some_same at) (maybe_usual sort.Ident refl)
label_usual kind.ContinueStmt l s m o at = subst AsUsual (some_same at) (maybe_usual sort.Ident refl)
label_usual _ l s m o at = cc

module _ (n : Node) (s : Shape) (h : HasShape s n) (u : class_of (kind_of n) ≡ Usual) where
  label_kept : is_labelled (kind_of n) ≡ true → label_of (stripped n) ≡ label_of n
  label_kept l =
      child_kept n s h u 0 (label_first (kind_of n) l) (Option (List ℕ)) text_of (λ c o at has.
      ap text_by (usual_kind c (label_usual (kind_of n) l s (length (children_of n)) o at (kind_of c) (shape_parts c o has).0)) ∙ text_plain (kind_of c))

  -- only these look at it
  stray_by : (k : Kind) (held : Held) (a b : Option (List ℕ)) → (is_labelled k ≡ true → a ≡ b) → is_stray_in held k a ≡ is_stray_in held k b
  unfolding is_labelled is_stray_in
  stray_by kind.BreakStmt held a b same = ap (is_stray_in held kind.BreakStmt) (same refl)
  stray_by kind.ContinueStmt held a b same = ap (is_stray_in held kind.ContinueStmt) (same refl)
  stray_by _ held a b same = refl

  own_by : (k : Kind) (a b : Option (List ℕ)) → (is_labelled k ≡ true → a ≡ b) → own_label k a ≡ own_label k b
  unfolding is_labelled
  own_by kind.LabeledStmt a b same = same refl
  own_by _ a b same = refl

  stray_same : (held : Held) → is_held_stray held (stripped n) ≡ is_held_stray held n
  stray_same held =
      ap (λ k. is_stray_in held k (label_of (stripped n))) (usual_kind n u) ∙ stray_plain held (label_of (stripped n)) (kind_of n)
      ∙ stray_by (kind_of n) held (label_of (stripped n)) (label_of n) label_kept

  own_same : own_label (kind_of (stripped n)) (label_of (stripped n)) ≡ own_label (kind_of n) (label_of n)
  own_same =
      ap (λ k. own_label k (label_of (stripped n))) (usual_kind n u) ∙ own_plain (label_of (stripped n)) (kind_of n)
      ∙ own_by (kind_of n) (label_of (stripped n)) (label_of n) label_kept

  held_same : (held : Held) (i : ℕ) → held_in held (stripped n) i ≡ held_in held n i
  held_same held i = λ j.
      held_behind ((ap (λ k. strays_in held.strays k i) (usual_kind n u) ∙ strays_plain held.strays i (kind_of n)) j)
      ((ap ends_jumps (usual_kind n u) ∙ ends_plain (kind_of n)) j) (own_same j) held.labels

-- ---- the walk

abbrev Alike : Node → Shape → Held → Held → Type 0
Alike n s a b = a ≡ b

quiet : (a : Held) (n : Node) (k : Kind) → kind_of n ≡ k → is_stray_in a k (label_of n) ≡ false → stray_here a n ≡ None
quiet a n k is none = none_failing (is_held_stray a n) n (ap (λ z. is_stray_in a z (label_of n)) is ∙ none)

carries : Carries Held held_in stray_here stray_here Alike
carries = record {
  missing = λ n s z a t h r none. quiet a absent kind.Absent (kind_node dummy_span kind.Absent []) (no_stray a (label_of absent)).0;
  empty = λ n s z y u h r none i is span. (let a = held_in y (stripped n) i in quiet a (node_of span kind.EmptyStmt []) kind.EmptyStmt (kind_node span kind.EmptyStmt []) (no_stray a (label_of (node_of span kind.EmptyStmt []))).1);
  lone = λ n s z y u h r none i is. (let a = held_in y (stripped n) i in quiet a absent kind.Absent (kind_node dummy_span kind.Absent []) (no_stray a (label_of absent)).0);
  lists = λ n s z a l h r none span cs. quiet a (node_of span kind.List cs) kind.List (kind_node span kind.List cs) (no_stray a (label_of (node_of span kind.List cs))).2;
  under = λ n s a b w h r none e at has. wrapped_held (kind_of n) w a (label_of n) ∙ r;
  here = λ n s a b u h r none. none_failing (is_held_stray b (stripped n)) (stripped n)
      (stray_same n s h u b ∙ (ap (λ z. is_held_stray z n) (sym r) ∙ not_failing (is_held_stray a n) n none));
  items = λ n s a b l r m list c i j at last. item_held a n i l ∙ (r ∙ sym (item_held b m j list));
  below = λ n s a b u h r none c o i at shape. ap (λ z. held_in z n i) r ∙ sym (held_same n s h u b i);
}

pub keeps_strays : StrippingKeepsStrays
keeps_strays tree f =
    (kept Held held_in stray_here stray_here Alike carries tree (one sort.Module) not_held not_held f.sorted refl
    f.strays).0
