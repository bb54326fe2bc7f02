-- Where one node stands for one, what stays stays.
use Rattle.std.proofs.Common.{◌≡◌, ◌∙◌, ℕ, suc, Bool, true, false, ◌&&◌, ◌||◌, not, cond, refl, sym, ap, ap₂, subst, List, [], ◌∷◌, ◌++◌, map, length, Some, slice_get, get_or}
use Rattle.std.specs.List.{list_all}
use Rattle.ecma_kind.specs.Sorts.{belongs, is_type_wrapper}
use Rattle.ecma_kind.specs.declared.kind.Kind.{Kind}
use Rattle.ecma_kind.specs.declared.kind.Kind.TheVariants as kind
use Rattle.ecma_kind.specs.declared.shapes.Shape.{Shape}
use Rattle.ecma_kind.specs.declared.shapes.Sort.TheVariants as sort
use Rattle.ecma_kind.specs.declared.span.Span.{Span}
use Rattle.ecma_tree.specs.Laws.{HaveShapes}
use Rattle.ecma_tree.specs.Nodes.{node_of}
use Rattle.ecma_tree.specs.Sorted.{HasShape, child_shapes, is_list}
use Rattle.ecma_tree.specs.Values.{holds_ambient, is_function, is_value_where, value_by}
use Rattle.ecma_tree.specs.declared.node.Node.{Node, Node-F, out-Node}
use Rattle.ecma_tree.specs.declared.node.Node.TheViews.{out-roll-Node}
use Rattle.ecma_tree.proofs.ShapeLaws.{node_has_shape}
use Rattle.ecma_tree.proofs.Valuing.{is_value_where-roll}
use Rattle.ecma_strip.specs.Staying.{if_there, is_declared, is_empty_stmt, is_export, is_this, is_this_by, is_this_ident, specifier_stays, stays}
use Rattle.ecma_rewriting.specs.Laws.{children, items}
use Rattle.ecma_rewriting.specs.Rewriting.{Rewriting, becomes, only}
use Rattle.ecma_rewriting.proofs.Equations.{layer-other, list-kind, nodes_become}
use Rattle.ecma_strip_rewriting.specs.Commuting.{DoesElseNothing, of_staying}
use Rattle.ecma_strip_rewriting.specs.Remaining.{OneForOne, SaidAlike, Stands, StandsAlike, WhatStaysStays}
use Rattle.ecma_strip_rewriting.proofs.Commuting.{by-parts, wrapped-first}
use Rattle.ecma_strip_rewriting.proofs.Stays.{binding-parts, binding_by, declares, item_by, kind-roll, member_by, stays-roll, stays_by, this_by}

pub itself-alike : (n : Node) → SaidAlike n n
itself-alike n = record { value = λ staying. refl; declared = refl; this = refl; name = refl; stays = refl }

abbrev pub AllAlike : List Node → List Node → Type 0
AllAlike [] [] = Unit
AllAlike (c ∷ cs) (d ∷ ds) = SaidAlike c d × AllAlike cs ds
AllAlike _ _ = ⊥

values-alike : (staying : Bool) (cs ds : List Node) → AllAlike cs ds → map (is_value_where staying) ds ≡ map (is_value_where staying) cs
values-alike staying [] [] h = refl
values-alike staying [] (d ∷ ds) h = absurd h
values-alike staying (c ∷ cs) [] h = absurd h
values-alike staying (c ∷ cs) (d ∷ ds) h = ap₂ (λ a b. a ∷ b) (h.0.value staying) (values-alike staying cs ds h.1)

first-declared : (cs ds : List Node) → AllAlike cs ds → declares ds ≡ declares cs
first-declared [] [] h = refl
first-declared [] (d ∷ ds) h = absurd h
first-declared (c ∷ cs) [] h = absurd h
first-declared (c ∷ cs) (d ∷ ds) h = h.0.declared

first-this : (cs ds : List Node) → AllAlike cs ds → if_there (slice_get ds 0) is_this ≡ if_there (slice_get cs 0) is_this
first-this [] [] h = refl
first-this [] (d ∷ ds) h = absurd h
first-this (c ∷ cs) [] h = absurd h
first-this (c ∷ cs) (d ∷ ds) h = h.0.this

first-name : (cs ds : List Node) → AllAlike cs ds → binding_by kind.BindingIdent ds ≡ binding_by kind.BindingIdent cs
first-name [] [] h = refl
first-name [] (d ∷ ds) h = absurd h
first-name (c ∷ cs) [] h = absurd h
first-name (c ∷ cs) (d ∷ ds) h = h.0.name

-- ---- what is said of a node, by its kind and children

item-alike : (k : Kind) (cs ds : List Node) → AllAlike cs ds → item_by k ds ≡ item_by k cs
item-alike k cs ds h =
    ap₂ (λ (v : List Bool) (d : Bool). cond (is_empty_stmt k) true (cond (belongs sort.ModuleItem k) (value_by k v && not (cond (is_export k) d (is_declared k))) true)) (values-alike (not (holds_ambient k) && true) cs ds h) (first-declared cs ds h)

member-alike : (k : Kind) (cs ds : List Node) → AllAlike cs ds → member_by k ds ≡ member_by k cs
member-alike (kind.Constructor accessibility is_optional) cs ds h = ap (λ (v : List Bool). get_or v 2 false) (values-alike true cs ds h)
member-alike (kind.ClassMethod k modifiers) cs ds h = ap (λ (v : List Bool). not modifiers.is_abstract && get_or v 1 false) (values-alike true cs ds h)
member-alike (kind.PrivateMethod k modifiers) cs ds h = ap (λ (v : List Bool). not modifiers.is_abstract && get_or v 1 false) (values-alike true cs ds h)
member-alike _ cs ds h = refl

binding-alike : (k : Kind) (cs ds : List Node) → AllAlike cs ds → binding_by k ds ≡ binding_by k cs
binding-alike kind.BindingIdent cs ds h = first-name cs ds h
binding-alike _ cs ds h = refl

this-alike : (k : Kind) (cs ds : List Node) → AllAlike cs ds → this_by k ds ≡ this_by k cs
this-alike kind.Param cs ds h = first-this cs ds h
this-alike kind.BindingIdent cs ds h = first-name cs ds h
this-alike _ cs ds h = refl

stays-alike : (k : Kind) (cs ds : List Node) → AllAlike cs ds → stays_by k ds ≡ stays_by k cs
stays-alike k cs ds h =
    let item = item-alike k cs ds h in
    let member = member-alike k cs ds h in
    let this = this-alike k cs ds h in
    λ j. item j && member j && specifier_stays k && not (this j)

pub this-roll : (span : Span) (k : Kind) (cs : List Node) → is_this (node_of span k cs) ≡ binding_by k cs
this-roll span k cs =
    let n = node_of span k cs in
    ap (λ z. is_this_by z n) (kind-roll span k cs) ∙ binding-parts k n ∙ ap (λ (z : Node-F Node). binding_by k z.children) (out-roll-Node (record { span = span; kind = k; children = cs }))

-- a node over children of which the same is said
pub over-alike : (span : Span) (k : Kind) (cs ds : List Node) → AllAlike cs ds → SaidAlike (node_of span k cs) (node_of span k ds)
over-alike span k cs ds h =
    let kinds : (out-Node (node_of span k ds)).kind ≡ (out-Node (node_of span k cs)).kind = kind-roll span k ds ∙ sym (kind-roll span k cs) in
    record {
      value = λ staying.
          is_value_where-roll staying span k ds
          ∙ ap (λ (v : List Bool). (is_function k && not staying) || value_by k v) (values-alike (not (holds_ambient k) && staying) cs ds h) ∙ sym (is_value_where-roll staying span k cs);
      declared = ap is_declared kinds;
      this = this-roll span k ds ∙ binding-alike k cs ds h ∙ sym (this-roll span k cs);
      name = ap is_this_ident kinds;
      stays = stays-roll span k ds ∙ stays-alike k cs ds h ∙ sym (stays-roll span k cs);
    }

pub over-stands : (span : Span) (k : Kind) (cs ds : List Node) → AllAlike cs ds → StandsAlike (node_of span k cs) (node_of span k ds ∷ [])
over-stands span k cs ds h = record { one = refl; said = over-alike span k cs ds h }

-- ---- what becomes of a node

no-front : (e : Node) (es : List Node) → [] ≡ e ∷ es → ⊥
no-front e es h = cc

wrapped-one : (span : Span) (k : Kind) (rest l : List Node) → l ≡ only l ∷ [] → map (λ e. node_of span k (e ∷ rest)) l ≡ node_of span k (only l ∷ rest) ∷ []
wrapped-one span k rest l e = ap (map (λ e. node_of span k (e ∷ rest))) e

module _ {S : Type 0} (r : Rewriting S) where
  pub children-alike : (shapes : List Shape) (cs : List Node) → HaveShapes shapes cs → ((i : ℕ) (c : Node) → slice_get cs i ≡ Some c → Stands r c) → (seat : ℕ → S) (i : ℕ) → AllAlike cs (map only (children (of_staying r) seat i cs))
  children-alike [] [] h each seat i = tt
  children-alike [] (c ∷ cs) h each seat i = absurd h
  children-alike (u ∷ us) [] h each seat i = absurd h
  children-alike (u ∷ us) (c ∷ cs) h each seat i = ((each 0 c refl u h.0 (seat i)).said, children-alike us cs h.1 (λ j d at. each (suc j) d at) seat (suc i))

module _ {S : Type 0} (r : Rewriting S) (raw : S → Bool) (leaves : S → Kind → Bool) (acts : Kind → Bool) (does : DoesElseNothing r raw leaves acts) (one : OneForOne r raw acts) where
  abbrev T : Rewriting S
  T = of_staying r

  item : (b : Bool) (s : S) (c : Node) (cs : List Node) → StandsAlike c (becomes T s c) → ((s' : S) → AllAlike cs (items T s' cs)) → AllAlike (c ∷ cs) (cond b (becomes T s c ++ items T (r.next s c) cs) (r.unkept s c ++ items T s cs))
  item true s c cs h rest = subst (λ z. AllAlike (c ∷ cs) (z ++ items T (r.next s c) cs)) (sym h.one) (h.said, rest (r.next s c))
  item false s c cs h rest = subst (λ z. AllAlike (c ∷ cs) (z ++ items T s cs)) (sym (one.unkept s c)) (itself-alike c, rest s)

  items-alike : (shapes : List Shape) (cs : List Node) → HaveShapes shapes cs → ((i : ℕ) (c : Node) → slice_get cs i ≡ Some c → Stands r c) → (s : S) → AllAlike cs (items T s cs)
  items-alike [] [] h each s = tt
  items-alike [] (c ∷ cs) h each s = absurd h
  items-alike (u ∷ us) [] h each s = absurd h
  items-alike (u ∷ us) (c ∷ cs) h each s = item (stays c) s c cs (each 0 c refl u h.0 s) (items-alike us cs h.1 (λ j d at. each (suc j) d at))

  stands-first : (shapes : List Shape) (c : Node) (cs : List Node) → HaveShapes shapes (c ∷ cs) → Stands r c → (s : S) → StandsAlike c (becomes T s c)
  stands-first [] c cs h g s = absurd h
  stands-first (u ∷ us) c cs h g s = g u h.0 s

  wrapped-here : (s : S) (span : Span) (k : Kind) (t : Shape) (cs : List Node) → raw s ≡ false → is_type_wrapper k ≡ true → HaveShapes (child_shapes k t (length cs)) cs
      → ((i : ℕ) (c : Node) → slice_get cs i ≡ Some c → Stands r c) → let lists = children T (r.seat s k cs) 0 cs in r.here s span k cs lists ≡ node_of span k (map only lists) ∷ []
  wrapped-here s span k t [] w x h each = let front = wrapped-first span k [] t x h in absurd (no-front front.0 front.1 front.2)
  wrapped-here s span k t (c ∷ cs) w x h each =
      let seat = r.seat s k (c ∷ cs) in
      does.wrapped s span k (c ∷ cs) (becomes T (seat 0) c) (children T seat 1 cs) w x
      ∙ wrapped-one span k (map only (children T seat 1 cs)) (becomes T (seat 0) c) (stands-first (child_shapes k t (length (c ∷ cs))) c cs h (each 0 c refl) (seat 0)).one

  module _ (span : Span) (k : Kind) (cs : List Node) (each : (i : ℕ) (c : Node) → slice_get cs i ≡ Some c → Stands r c) (t : Shape) (has : HasShape t (node_of span k cs)) (s : S) where
    abbrev Alike : Kind → Type 0
    Alike l = StandsAlike (node_of span l cs) (becomes T s (node_of span l cs))

    have : HaveShapes (child_shapes k t (length cs)) cs
    have = ((node_has_shape span k cs t).0 has).1

    abbrev lists : List (List Node)
    lists = children T (r.seat s k cs) 0 cs

    as-list : is_list k ≡ true → Alike k
    as-list l =
        subst Alike (sym (list-kind k l))
        (subst (StandsAlike (node_of span kind.List cs)) (sym (nodes_become S T s span kind.List cs)) (over-stands span kind.List cs (items T s cs) (items-alike (child_shapes k t (length cs)) cs have each s)))

    written : (here : List Node) → is_list k ≡ false → r.here s span k cs lists ≡ here → StandsAlike (node_of span k cs) here → Alike k
    written here l e h = subst (StandsAlike (node_of span k cs)) (sym (nodes_become S T s span k cs ∙ layer-other T s span k cs l ∙ e)) h

    quietly : is_list k ≡ false → r.here s span k cs lists ≡ node_of span k (map only lists) ∷ [] → Alike k
    quietly l e = written (node_of span k (map only lists) ∷ []) l e (over-stands span k cs (map only lists) (children-alike r (child_shapes k t (length cs)) cs have each (r.seat s k cs) 0))

    by-left : (b : Bool) → is_list k ≡ false → r.here s span k cs lists ≡ cond b (node_of span k cs ∷ []) (node_of span k (map only lists) ∷ []) → Alike k
    by-left true l e = written (node_of span k cs ∷ []) l e (record { one = refl; said = itself-alike (node_of span k cs) })
    by-left false l e = quietly l e

    by-act : (b : Bool) → acts k ≡ b → raw s ≡ false → is_list k ≡ false → is_type_wrapper k ≡ false → Alike k
    by-act true a w l x = written (r.here s span k cs lists) l refl (one.acting s t span k cs w a l x has each)
    by-act false a w l x = by-left (leaves s k) l (does.quiet s span k cs lists w a l x)

    by-wrapper : (b : Bool) → is_type_wrapper k ≡ b → raw s ≡ false → is_list k ≡ false → Alike k
    by-wrapper true x w l = quietly l (wrapped-here s span k t cs w x have each)
    by-wrapper false x w l = by-act (acts k) refl w l x

    by-seat : (b : Bool) → raw s ≡ b → is_list k ≡ false → Alike k
    by-seat true w l = written (node_of span k cs ∷ []) l (does.raw_here s span k cs lists w) (record { one = refl; said = itself-alike (node_of span k cs) })
    by-seat false w l = by-wrapper (is_type_wrapper k) refl w l

    by-list : (b : Bool) → is_list k ≡ b → Alike k
    by-list true l = as-list l
    by-list false l = by-seat (raw s) refl l

  node-stands : (span : Span) (k : Kind) (cs : List Node) → ((i : ℕ) (c : Node) → slice_get cs i ≡ Some c → Stands r c) → Stands r (node_of span k cs)
  node-stands span k cs each t has s = by-list span k cs each t has s (is_list k) refl

  pub stands : (n : Node) → Stands r n
  stands = by-parts (Stands r) node-stands

pub what_stays_stays : (S : Type 0) → WhatStaysStays S
what_stays_stays S r raw leaves acts does one n t has h s =
    let alike = stands r raw leaves acts does one n t has s in
    ap (list_all stays) alike.one ∙ ap (λ b. b && true) (alike.said.stays ∙ h)
