-- Where a node stands in the finished tree, by where it stood in the raw one.
use Rattle.std.proofs.Common.{◌≡◌, ◌∙◌, ℕ, zero, suc, Bool, true, false, not, ◌&&◌, ◌||◌, ◌==◌, cond, List, [], ◌∷◌, map, length, refl, sym, ap, subst, slice_get}
use Rattle.ecma_kind.specs.Sorts.{belongs}
use Rattle.ecma_kind.specs.declared.span.Span.{Span}
use Rattle.ecma_kind.specs.declared.operators.AssignOp.{AssignOp}
use Rattle.ecma_kind.specs.declared.operators.AssignOp.TheVariants.{Assign}
use Rattle.ecma_kind.specs.declared.kind.Kind.{Kind}
use Rattle.ecma_kind.specs.declared.kind.Kind.TheVariants as kind
use Rattle.ecma_kind.specs.declared.shapes.Shape.{Shape}
use Rattle.ecma_kind.specs.declared.shapes.Sort.TheVariants as sort
use Rattle.ecma_tree.specs.declared.node.Node.{Node, Node-F, fold-roll-Node, out-Node, roll-Node}
use Rattle.ecma_tree.specs.declared.node.Node.TheViews.{roll-out-Node}
use Rattle.ecma_tree.specs.Nodes.{node_of}
use Rattle.ecma_tree.specs.Sorted.{HasShape, allows}
use Rattle.ecma_tree.proofs.ShapeLaws.{node_has_shape}
use Rattle.ecma_rules.specs.declared.target.Target.{Target}
use Rattle.ecma_rules.specs.declared.target.Target.TheVariants as target
use Rattle.ecma_rules.specs.declared.standing.Around.{Around}
use Rattle.ecma_rules.specs.Children.{is_present, kind_of, of_kind}
use Rattle.ecma_rules.specs.Finishing.{each_in, finished_at, finished_by, finished_step}
use Rattle.ecma_rules.specs.Lists.{last_by}
use Rattle.ecma_rules.specs.Rules.{fails_list, fails_member, fails_statement, fails_super, fails_target, is_misplaced}
use Rattle.ecma_rules.specs.Surroundings.{standing_by}
use Rattle.ecma_rules.specs.Targets.{first_is, is_literal, is_no_target, is_plain, is_plain_target, is_simple_target, is_stray_default, is_wrapper, simple_step, takes_patterns, target_in}
use Rattle.ecma_raw_roles.proofs.Walks.{not_true, kind_made}
use Rattle.ecma_fits.proofs.Walks.{neither}

-- what the rules still see of a target: literals and names in a pattern are turned, and nothing more is asked of them
abbrev pub shown : Target → Target
shown target.Left = target.Left
shown target.Simple = target.Simple
shown target.Head = target.Head
shown _ = target.Free

abbrev pub is_part : Target → Bool
is_part target.Part = true
is_part _ = false

-- what has to stand last, and what is as last as what holds it
abbrev pub keeps_last : Kind → Bool
keeps_last kind.RestPat = true
keeps_last kind.SpreadElement = true
keeps_last kind.List = true
keeps_last kind.Param = true
keeps_last (kind.TsParamProp accessibility is_override readonly) = true
keeps_last kind.AssignPat = true
keeps_last _ = false

-- a node of this kind stood so, and stands so in the finished tree
pub record Stands (was : Around) (k : Kind) (now : Around) : Type 0 where
  pub standing : now.standing ≡ was.standing
  pub target : now.target ≡ shown was.target
  pub last : is_part was.target ≡ false → keeps_last k ≡ true → now.is_last ≡ was.is_last

-- and so do these
abbrev pub AllStand : (ℕ → Around) → List Node → (ℕ → Around) → Type 0
AllStand was [] now = Unit {0}
AllStand was (n ∷ ns) now = Stands (was 0) (kind_of n) (now 0) × AllStand (λ i. was (suc i)) ns (λ i. now (suc i))

pub each_stands : (was : ℕ → Around) (ns : List Node) (now : ℕ → Around) → ((i : ℕ) (k : Kind) → Stands (was i) k (now i)) → AllStand was ns now
each_stands was [] now h = tt
each_stands was (n ∷ ns) now h = (h 0 (kind_of n), each_stands (λ i. was (suc i)) ns (λ i. now (suc i)) (λ i k. h (suc i) k))

-- what stands around the child at an index of a node of these parts
abbrev pub around_by : Around → Node-F Node → ℕ → Around
around_by a p i = record {
  target = target_in a.target p.kind i;
  standing = standing_by a.standing p.kind (of_kind is_present (slice_get p.children 1)) (of_kind is_present (slice_get p.children 2)) i;
  is_last = last_by a.is_last p.kind (length p.children) i;
}

-- kinds that are turned

abbrev pub is_element : Target → Bool
is_element target.Element = true
is_element _ = false

abbrev pub is_property : Target → Bool
is_property target.Property = true
is_property _ = false

abbrev pub binds : Target → Bool
binds target.Head = true
binds target.Part = true
binds target.Element = true
binds target.Rest = true
binds target.Name = true
binds target.Property = true
binds _ = false

abbrev pub turns : Target → Kind → Bool
turns t kind.ArrayLit = takes_patterns t
turns t kind.ObjectLit = takes_patterns t
turns t kind.SpreadElement = is_element t || is_property t
turns t kind.KeyValueProp = is_property t
turns t kind.AssignProp = is_property t
turns t (kind.AssignExpr op) = is_element t && is_plain op
turns t (kind.Ident text ctxt optional) = binds t
turns t _ = false

shown_child : (b : Bool) (r : Target) (x : Target) → x ≡ shown r → cond b x target.Free ≡ shown (cond b r target.Free)
shown_child true r x e = e
shown_child false r x e = refl

pub free_child : (b : Bool) (r : Target) → target.Free ≡ shown r → target.Free ≡ shown (cond b r target.Free)
free_child true r e = e
free_child false r e = refl

list_shown : (t : Target) (i : ℕ) → target_in (shown t) kind.List i ≡ shown (target_in t kind.List i)
unfolding target_in
list_shown target.Left i = refl
list_shown _ i = refl

array_shown : (t : Target) (i : ℕ) → takes_patterns t ≡ false → target_in (shown t) kind.ArrayLit i ≡ shown (target_in t kind.ArrayLit i)
unfolding target_in
array_shown target.Left i h = not_true (sym h)
array_shown target.Head i h = not_true (sym h)
array_shown target.Part i h = not_true (sym h)
array_shown target.Element i h = not_true (sym h)
array_shown _ i h = refl

object_shown : (t : Target) (i : ℕ) → takes_patterns t ≡ false → target_in (shown t) kind.ObjectLit i ≡ shown (target_in t kind.ObjectLit i)
unfolding target_in
object_shown target.Left i h = not_true (sym h)
object_shown target.Head i h = not_true (sym h)
object_shown target.Part i h = not_true (sym h)
object_shown target.Element i h = not_true (sym h)
object_shown _ i h = refl

spread_shown : (t : Target) (i : ℕ) → (is_element t || is_property t) ≡ false → target_in (shown t) kind.SpreadElement i ≡ shown (target_in t kind.SpreadElement i)
unfolding target_in
spread_shown target.Element i h = not_true (sym h)
spread_shown target.Property i h = not_true (sym h)
spread_shown _ i h = refl

value_shown : (t : Target) (i : ℕ) → is_property t ≡ false → target_in (shown t) kind.KeyValueProp i ≡ shown (target_in t kind.KeyValueProp i)
unfolding target_in
value_shown target.Property i h = not_true (sym h)
value_shown _ i h = shown_child (i == 1) target.Free target.Free refl

default_shown : (t : Target) (i : ℕ) → is_property t ≡ false → target_in (shown t) kind.AssignProp i ≡ shown (target_in t kind.AssignProp i)
unfolding target_in
default_shown target.Property i h = not_true (sym h)
default_shown _ i h = shown_child (i == 0) target.Free target.Free refl

assigned_shown : (t : Target) (op : AssignOp) (i : ℕ) → (is_element t && is_plain op) ≡ false → target_in (shown t) (kind.AssignExpr op) i ≡ shown (target_in t (kind.AssignExpr op) i)
unfolding target_in
assigned_shown target.Element Assign i h = not_true (sym h)
assigned_shown target.Element op i h = shown_child (i == 0) target.Simple target.Simple refl
assigned_shown t Assign i h = shown_child (i == 0) target.Left target.Left refl
assigned_shown t op i h = shown_child (i == 0) target.Simple target.Simple refl

-- what is asked of the children of a node that is not turned
pub target_shown : (t : Target) (k : Kind) (i : ℕ) → turns t k ≡ false → target_in (shown t) k i ≡ shown (target_in t k i)
unfolding target_in
target_shown t kind.List i h = list_shown t i
target_shown t kind.ArrayLit i h = array_shown t i h
target_shown t kind.ObjectLit i h = object_shown t i h
target_shown t kind.SpreadElement i h = spread_shown t i h
target_shown t kind.KeyValueProp i h = value_shown t i h
target_shown t kind.AssignProp i h = default_shown t i h
target_shown t (kind.AssignExpr op) i h = assigned_shown t op i h
target_shown t (kind.UpdateExpr op prefix) i h = refl
target_shown t kind.ForInStmt i h = shown_child (i == 0) target.Head target.Head refl
target_shown t (kind.ForOfStmt is_await) i h = shown_child (i == 0) target.Head target.Head refl
target_shown t _ i h = refl

pub last_alike : (k : Kind) (p q : Bool) (n i : ℕ) → (keeps_last k ≡ true → p ≡ q) → last_by p k n i ≡ last_by q k n i
unfolding last_by
last_alike kind.Param p q n i e = e refl
last_alike (kind.TsParamProp accessibility is_override readonly) p q n i e = e refl
last_alike kind.AssignPat p q n i e = e refl
last_alike _ p q n i e = refl

-- nodes that are finished

pub finished_parts : (x : Node-F Node) (t : Target) → finished_at (roll-Node x) t ≡ finished_by t (record { span = x.span; kind = x.kind; children = each_in (target_in t x.kind) (map finished_at x.children) })
finished_parts x t = ap (λ f. f t) (fold-roll-Node (Target → Node) finished_step x)

pub as_many : (target_of : ℕ → Target) (ns : List Node) → length (each_in target_of (map finished_at ns)) ≡ length ns
as_many target_of [] = refl
as_many target_of (n ∷ ns) = ap suc (as_many (λ i. target_of (suc i)) ns)

pub shape_allows : (n : Node) (o : Shape) → HasShape o n → allows o (kind_of n) ≡ true
shape_allows n o h =
    let x = out-Node n in
    ((node_has_shape x.span x.kind x.children o).0 (subst (HasShape o) (sym (roll-out-Node n)) h)).0

pub no_rest_expression : (k : Kind) → belongs sort.Expr k ≡ true → keeps_last k ≡ false
no_rest_expression kind.RestPat h = not_true h
no_rest_expression kind.SpreadElement h = not_true h
no_rest_expression kind.List h = not_true h
no_rest_expression kind.Param h = not_true h
no_rest_expression (kind.TsParamProp accessibility is_override readonly) h = not_true h
no_rest_expression kind.AssignPat h = not_true h
no_rest_expression _ h = refl

-- whether something stands there stays

present_made : (x : Node-F Node) (k : Kind) → is_present x.kind ≡ is_present k → is_present (kind_of (roll-Node x)) ≡ is_present k
present_made x k e = ap is_present (kind_made x) ∙ e

module _ (span : Span) (children : List Node) where
  abbrev parts : Kind → Node-F Node
  parts k = record { span = span; kind = k; children = children }

  abbrev Stays : Target → Kind → Type 0
  Stays t k = is_present (kind_of (finished_by t (parts k))) ≡ is_present k

  left_stays : (k : Kind) → Stays target.Left k
  left_stays kind.ArrayLit = present_made _ kind.ArrayLit refl
  left_stays kind.ObjectLit = present_made _ kind.ObjectLit refl
  left_stays k = present_made (parts k) k refl

  head_stays : (k : Kind) → Stays target.Head k
  head_stays (kind.Ident text ctxt optional) = present_made _ (kind.Ident text ctxt optional) refl
  head_stays kind.ArrayLit = present_made _ kind.ArrayLit refl
  head_stays kind.ObjectLit = present_made _ kind.ObjectLit refl
  head_stays k = present_made (parts k) k refl

  name_stays : (k : Kind) → Stays target.Name k
  name_stays (kind.Ident text ctxt optional) = present_made _ (kind.Ident text ctxt optional) refl
  name_stays k = present_made (parts k) k refl

  default_stays : (op : AssignOp) → Stays target.Element (kind.AssignExpr op)
  default_stays Assign = present_made _ (kind.AssignExpr Assign) refl
  default_stays op = present_made (parts (kind.AssignExpr op)) (kind.AssignExpr op) refl

  element_stays : (k : Kind) → Stays target.Element k
  element_stays kind.SpreadElement = present_made _ kind.SpreadElement refl
  element_stays (kind.AssignExpr op) = default_stays op
  element_stays (kind.Ident text ctxt optional) = head_stays (kind.Ident text ctxt optional)
  element_stays kind.ArrayLit = left_stays kind.ArrayLit
  element_stays kind.ObjectLit = left_stays kind.ObjectLit
  element_stays k = present_made (parts k) k refl

  property_stays : (k : Kind) → Stays target.Property k
  property_stays kind.KeyValueProp = present_made _ kind.KeyValueProp refl
  property_stays kind.AssignProp = present_made _ kind.AssignProp refl
  property_stays kind.SpreadElement = present_made _ kind.SpreadElement refl
  property_stays (kind.Ident text ctxt optional) = present_made _ (kind.Ident text ctxt optional) refl
  property_stays k = present_made (parts k) k refl

  presence_stays : (t : Target) (k : Kind) → Stays t k
  presence_stays target.Left k = left_stays k
  presence_stays target.Head k = head_stays k
  presence_stays target.Part k = head_stays k
  presence_stays target.Rest k = name_stays k
  presence_stays target.Name k = name_stays k
  presence_stays target.Element k = element_stays k
  presence_stays target.Property k = property_stays k
  presence_stays _ k = present_made (parts k) k refl

pub present_finished : (n : Node) (t : Target) → is_present (kind_of (finished_at n t)) ≡ is_present (kind_of n)
present_finished n t = subst (λ (m : Node). is_present (kind_of (finished_at m t)) ≡ is_present (kind_of m)) (roll-out-Node n) (of_parts (out-Node n))
  where
    of_parts : (x : Node-F Node) → is_present (kind_of (finished_at (roll-Node x) t)) ≡ is_present (kind_of (roll-Node x))
    of_parts x = ap (λ m. is_present (kind_of m)) (finished_parts x t) ∙ presence_stays x.span (each_in (target_in t x.kind) (map finished_at x.children)) t x.kind ∙ sym (ap is_present (kind_made x))

-- so does whether the child at an index is there
pub presence : (target_of : ℕ → Target) (ns : List Node) (i : ℕ) → of_kind is_present (slice_get (each_in target_of (map finished_at ns)) i) ≡ of_kind is_present (slice_get ns i)
presence target_of [] i = refl
presence target_of (n ∷ ns) zero = present_finished n (target_of 0)
presence target_of (n ∷ ns) (suc i) = presence (λ i. target_of (suc i)) ns i

-- a target in a pattern, whose default may stand behind it, is no rest

pub no_target_by : (x : Node-F Node) → is_no_target target.Part (roll-Node x) ≡ not (is_literal x.kind || (is_plain_target x.kind || (is_wrapper x.kind && first_is (map is_simple_target x.children))))
no_target_by x =
    ap (λ z. not (is_literal z || is_simple_target (roll-Node x))) (kind_made x)
    ∙ ap (λ z. not (is_literal x.kind || z)) (fold-roll-Node Bool simple_step x)

no_rest_target : (k : Kind) (inner : Bool) → not (is_literal k || (is_plain_target k || (is_wrapper k && inner))) ≡ false → keeps_last k ≡ false
no_rest_target kind.RestPat inner h = not_true (sym h)
no_rest_target kind.SpreadElement inner h = not_true (sym h)
no_rest_target kind.List inner h = not_true (sym h)
no_rest_target kind.Param inner h = not_true (sym h)
no_rest_target (kind.TsParamProp accessibility is_override readonly) inner h = not_true (sym h)
no_rest_target kind.AssignPat inner h = not_true (sym h)
no_rest_target _ inner h = refl

part_is_no_rest : (t : Target) (x : Node-F Node) → is_no_target t (roll-Node x) ≡ false → keeps_last x.kind ≡ true → is_part t ≡ false
part_is_no_rest target.Part x h keeps = not_true (sym (no_rest_target x.kind (first_is (map is_simple_target x.children)) (sym (no_target_by x) ∙ h)) ∙ keeps)
part_is_no_rest _ x h keeps = refl

-- what the rules say of a node that is not misplaced
pub record Kept (a : Around) (n : Node) : Type 0 where
  pub target : is_no_target a.target n ≡ false
  pub list : fails_list a n ≡ false
  pub member : fails_member a n ≡ false
  pub statement : fails_statement a n ≡ false

pub kept_rules : (a : Around) (n : Node) → is_misplaced a n ≡ false → Kept a n
unfolding is_misplaced
kept_rules a n h =
    let t = neither (fails_target a n) (fails_list a n || (fails_member a n || (fails_statement a n || fails_super a n))) h in
    let l = neither (fails_list a n) (fails_member a n || (fails_statement a n || fails_super a n)) t.1 in
    let m = neither (fails_member a n) (fails_statement a n || fails_super a n) l.1 in
    let s = neither (fails_statement a n) (fails_super a n) m.1 in
    record { target = (neither (is_no_target a.target n) (is_stray_default a.target n) t.0).0; list = l.0; member = m.0; statement = s.0 }

-- what has to stand last stands as last as it did
pub as_last : (was now : Around) (x : Node-F Node) → Stands was x.kind now → is_misplaced was (roll-Node x) ≡ false → keeps_last x.kind ≡ true → now.is_last ≡ was.is_last
as_last was now x stands fine keeps = stands.last (part_is_no_rest was.target x (kept_rules was (roll-Node x) fine).target keeps) keeps

-- the children of a node that is not turned stand as they did
pub same_children : (was now : Around) (span : Span) (k : Kind) (cs : List Node) → Stands was k now → turns was.target k ≡ false → is_misplaced was (node_of span k cs) ≡ false
    → let kids = each_in (target_in was.target k) (map finished_at cs) in AllStand (around_by was (record { span = span; kind = k; children = cs })) cs (around_by now (record { span = span; kind = k; children = kids }))
same_children was now span k cs stands stays fine =
    let x : Node-F Node = record { span = span; kind = k; children = cs } in
    let kids = each_in (target_in was.target k) (map finished_at cs) in
    let first = presence (target_in was.target k) cs 1 in
    let second = presence (target_in was.target k) cs 2 in
    let count = as_many (target_in was.target k) cs in
    each_stands (around_by was x) cs (around_by now (record { span = span; kind = k; children = kids })) (λ i c. record {
      standing = ap (λ z. standing_by z k (of_kind is_present (slice_get kids 1)) (of_kind is_present (slice_get kids 2)) i) stands.standing
          ∙ ap (λ z. standing_by was.standing k z (of_kind is_present (slice_get kids 2)) i) first
          ∙ ap (λ z. standing_by was.standing k (of_kind is_present (slice_get cs 1)) z i) second;
      target = ap (λ z. target_in z k i) stands.target ∙ target_shown was.target k i stays;
      last = λ part keeps. last_alike k now.is_last was.is_last (length kids) i (as_last was now x stands fine) ∙ ap (λ z. last_by was.is_last k z i) count;
    })
