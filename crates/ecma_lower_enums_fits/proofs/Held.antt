-- What belongs to nothing inside an enum's initialiser or a namespace: nothing does in what is written, where nothing did.
use Rattle.std.proofs.Common.{◌≡◌, ◌∙◌, ℕ, Bool, true, false, not, cond, codes, bytes_eq, ◌&&◌, ◌==◌, List, [], length, Option, Some, None, refl, sym, ap, ap₂, subst, slice_get}
use Rattle.std.specs.List.{list_any}
use Rattle.ecma_kind.specs.declared.ident.Ident.{Ident}
use Rattle.ecma_kind.specs.declared.kind.Kind.{Kind}
use Rattle.ecma_kind.specs.declared.kind.Kind.TheVariants as kind
use Rattle.ecma_kind.specs.declared.shapes.Shape.{Shape}
use Rattle.ecma_tree.specs.Sorted.{child_shapes, item_shape}
use Rattle.ecma_tree.specs.declared.node.Node.{Node}
use Rattle.ecma_rules.specs.declared.strays.Strays.{Strays}
use Rattle.ecma_rules.specs.Children.{kind_of}
use Rattle.ecma_rules.specs.Jumps.{Held, ends_jumps, held_behind, is_stray_in, is_stray_jump, label_of, labels_behind, not_held, own_label, text_by, text_of}
use Rattle.ecma_rules.specs.Strays.{all_held, as_name, at_child, in_arrow, in_field, in_function, in_loop, in_member, in_named, in_named_function, in_switch, is_new_target, is_stray, strays_in, with_home, without_home}
use Rattle.ecma_lower_enums.specs.declared.known.KnownEnums.{KnownEnums}
use Rattle.ecma_lower_enums.specs.declared.place.Place.{Place}
use Rattle.ecma_lower_enums.specs.declared.place.Place.TheVariants as place
use Rattle.ecma_lower_enums.specs.Places.{place_in}
use Rattle.ecma_lower_enums_sources.proofs.Alike.{other-kind}
use Rattle.ecma_lower_enums_sources.proofs.Relation.{Ones, Stands, children_of, is_members}
use Rattle.ecma_lower_enums_sources.proofs.Relation as relation
use Rattle.ecma_lower_enums_sources.proofs.Suiting.{child-calm, no}
use Rattle.ecma_lower_enums_fits.proofs.Making.{Kinds, Quiet, Seats, is_frame, is_read_frame}
use Rattle.ecma_lower_enums_fits.proofs.Passing.{Owed}
use Rattle.ecma_lower_enums_fits.proofs.Usable.{IsKey, IsUsable}
use Rattle.ecma_lower_enums_fits.proofs.Walks.{Passes, and-no, eased}

abbrev pub stray : Held → Kind → Node → Bool
stray held k n = is_stray_in held k (label_of n)

abbrev pub inside : Held → Kind → Node → ℕ → Held
inside held k n i = held_behind (strays_in held.strays k i) (ends_jumps k) (own_label k (label_of n)) held.labels

-- ---- fewer are strays

abbrev Le : Bool → Bool → Type 0
Le a b = b ≡ false → a ≡ false

pub record Fewer (v w : Strays) : Type 0 where
  pub held : Le v.held w.held
  pub receiver : Le v.receiver w.receiver
  pub arguments : Le v.arguments w.arguments
  pub home : Le v.home w.home
  pub awaiting : Le v.awaiting w.awaiting
  pub yielding : Le v.yielding w.yielding
  pub returning : Le v.returning w.returning
  pub breaking : Le v.breaking w.breaking
  pub continuing : Le v.continuing w.continuing

and-le : (a b c : Bool) → Le a b → Le (a && c) (b && c)
and-le a false c h g = ap (λ z. z && c) (h refl)
and-le a true c h g = ap (λ z. a && z) g ∙ and-no a

fewer-cond : (b : Bool) (v w v' w' : Strays) → Fewer v w → Fewer v' w' → Fewer (cond b v v') (cond b w w')
fewer-cond true v w v' w' h g = h
fewer-cond false v w v' w' h g = g

module _ (v w : Strays) (h : Fewer v w) where
  fewer-arrow : (is_async : Bool) → Fewer (in_arrow is_async v) (in_arrow is_async w)
  fewer-arrow is_async = record {
    held = h.held;
    receiver = h.receiver;
    arguments = h.arguments;
    home = h.home;
    awaiting = and-le v.held w.held (not is_async) h.held;
    yielding = h.held;
    returning = λ z. z;
    breaking = h.held;
    continuing = h.held;
  }

  fewer-function : (is_generator is_async : Bool) → Fewer (in_function is_generator is_async v) (in_function is_generator is_async w)
  fewer-function is_generator is_async = record {
    held = h.held;
    receiver = λ z. z;
    arguments = λ z. z;
    home = h.home;
    awaiting = and-le v.held w.held (not is_async) h.held;
    yielding = and-le v.held w.held (not is_generator) h.held;
    returning = λ z. z;
    breaking = h.held;
    continuing = h.held;
  }

  fewer-home : Fewer (with_home v) (with_home w)
  fewer-home = record {
    held = h.held;
    receiver = h.receiver;
    arguments = h.arguments;
    home = λ z. z;
    awaiting = h.awaiting;
    yielding = h.yielding;
    returning = h.returning;
    breaking = h.breaking;
    continuing = h.continuing;
  }

  fewer-homeless : Fewer (without_home v) (without_home w)
  fewer-homeless = record {
    held = h.held;
    receiver = h.receiver;
    arguments = h.arguments;
    home = h.held;
    awaiting = h.awaiting;
    yielding = h.yielding;
    returning = h.returning;
    breaking = h.breaking;
    continuing = h.continuing;
  }

  fewer-field : Fewer (in_field v) (in_field w)
  fewer-field = record {
    held = h.held;
    receiver = λ z. z;
    arguments = h.held;
    home = λ z. z;
    awaiting = h.held;
    yielding = h.held;
    returning = h.held;
    breaking = h.held;
    continuing = h.held;
  }

  fewer-loop : Fewer (in_loop v) (in_loop w)
  fewer-loop = record {
    held = h.held;
    receiver = h.receiver;
    arguments = h.arguments;
    home = h.home;
    awaiting = h.awaiting;
    yielding = h.yielding;
    returning = h.returning;
    breaking = λ z. z;
    continuing = λ z. z;
  }

  fewer-switch : Fewer (in_switch v) (in_switch w)
  fewer-switch = record {
    held = h.held;
    receiver = h.receiver;
    arguments = h.arguments;
    home = h.home;
    awaiting = h.awaiting;
    yielding = h.yielding;
    returning = h.returning;
    breaking = λ z. z;
    continuing = h.continuing;
  }

  fewer-name : Fewer (as_name v) (as_name w)
  fewer-name = record {
    held = h.held;
    receiver = h.receiver;
    arguments = λ z. z;
    home = h.home;
    awaiting = h.awaiting;
    yielding = h.yielding;
    returning = h.returning;
    breaking = h.breaking;
    continuing = h.continuing;
  }

fewer-all : (v : Strays) → Fewer v all_held
fewer-all v = record {
  held = λ z. no (sym z);
  receiver = λ z. no (sym z);
  arguments = λ z. no (sym z);
  home = λ z. no (sym z);
  awaiting = λ z. no (sym z);
  yielding = λ z. no (sym z);
  returning = λ z. no (sym z);
  breaking = λ z. no (sym z);
  continuing = λ z. no (sym z);
}

fewer-member : (v w : Strays) → Fewer v w → Fewer (in_member v) (in_member w)
fewer-member v w h = fewer-home (in_function false false v) (in_function false false w) (fewer-function v w h false false)

-- at the child that is meant, and at the others
fewer-at : (wanted i : ℕ) (v w v' w' : Strays) → Fewer v w → Fewer v' w' → Fewer (at_child wanted i v v') (at_child wanted i w w')
fewer-at wanted i v w v' w' h g = fewer-cond (i == wanted) v w v' w' h g

module _ (v w : Strays) (h : Fewer v w) (i : ℕ) where
  name-first : Fewer (at_child 0 i (as_name v) v) (at_child 0 i (as_name w) w)
  name-first = fewer-at 0 i (as_name v) (as_name w) v w (fewer-name v w h) h

  fewer-named : (k : Kind) → Fewer (in_named k i v) (in_named k i w)
  unfolding in_named
  fewer-named kind.BindingIdent = name-first
  fewer-named kind.LabeledStmt = name-first
  fewer-named kind.BreakStmt = fewer-name v w h
  fewer-named kind.ContinueStmt = fewer-name v w h
  fewer-named (kind.ClassDecl declare) = name-first
  fewer-named kind.ClassExpr = name-first
  fewer-named (kind.TsInterfaceDecl declare) = name-first
  fewer-named (kind.TsTypeAliasDecl declare) = name-first
  fewer-named (kind.TsEnumDecl declare is_const) = name-first
  fewer-named (kind.TsModuleDecl declare global) = name-first
  fewer-named (kind.TsNamespaceDecl declare global) = name-first
  fewer-named (kind.TsImportEqualsDecl is_export is_type_only) = name-first
  fewer-named (kind.ImportNamedSpecifier is_type_only) = fewer-name v w h
  fewer-named kind.ImportDefaultSpecifier = fewer-name v w h
  fewer-named kind.ImportStarAsSpecifier = fewer-name v w h
  fewer-named (kind.ExportNamedSpecifier is_type_only) = fewer-name v w h
  fewer-named kind.ExportNamespaceSpecifier = fewer-name v w h
  fewer-named kind.ExportDefaultSpecifier = fewer-name v w h
  fewer-named kind.TsNamespaceExportDecl = fewer-name v w h
  fewer-named _ = h

  named-function : Fewer (in_named_function i v) (in_named_function i w)
  named-function = fewer-cond (i == 1) (without_home v) (without_home w) (as_name v) (as_name w) (fewer-homeless v w h) (fewer-name v w h)

  with-home : Fewer (at_child 1 i (with_home v) v) (at_child 1 i (with_home w) w)
  with-home = fewer-at 1 i (with_home v) (with_home w) v w (fewer-home v w h) h

  behind-key : Fewer (at_child 0 i v (in_member v)) (at_child 0 i w (in_member w))
  behind-key = fewer-at 0 i v w (in_member v) (in_member w) h (fewer-member v w h)

  fields : Fewer (at_child 1 i (in_field v) v) (at_child 1 i (in_field w) w)
  fields = fewer-at 1 i (in_field v) (in_field w) v w (fewer-field v w h) h

  loop-at : (n : ℕ) → Fewer (at_child n i (in_loop v) v) (at_child n i (in_loop w) w)
  loop-at n = fewer-at n i (in_loop v) (in_loop w) v w (fewer-loop v w h) h

  pub fewer-in : (k : Kind) → Fewer (strays_in v k i) (strays_in w k i)
  unfolding strays_in
  fewer-in (kind.FnDecl declare) = named-function
  fewer-in kind.FnExpr = named-function
  fewer-in kind.MethodProp = with-home
  fewer-in (kind.ClassMethod k modifiers) = with-home
  fewer-in (kind.PrivateMethod k modifiers) = with-home
  fewer-in (kind.Function is_generator is_async) = fewer-function v w h is_generator is_async
  fewer-in (kind.ArrowExpr is_async is_generator) = fewer-arrow v w h is_async
  fewer-in (kind.Constructor accessibility is_optional) = behind-key
  fewer-in kind.GetterProp = behind-key
  fewer-in kind.SetterProp = behind-key
  fewer-in (kind.ClassProp modifiers readonly declare definite) = fields
  fewer-in (kind.PrivateProp modifiers readonly declare definite) = fields
  fewer-in kind.StaticBlock = fewer-field v w h
  fewer-in kind.ForStmt = loop-at 3
  fewer-in kind.ForInStmt = loop-at 2
  fewer-in (kind.ForOfStmt is_await) = loop-at 2
  fewer-in kind.WhileStmt = loop-at 1
  fewer-in kind.DoWhileStmt = loop-at 1
  fewer-in kind.SwitchStmt = fewer-at 1 i (in_switch v) (in_switch w) v w (fewer-switch v w h) h
  fewer-in kind.TsEnumMember = fewer-at 1 i all_held all_held (as_name v) (as_name w) (fewer-all all_held) (fewer-name v w h)
  fewer-in kind.TsModuleBlock = fewer-all all_held
  fewer-in k = fewer-named k

-- ---- a node whose kind stays

-- a node that has a label, or none
abbrev is_labeled : Kind → Bool
is_labeled kind.BreakStmt = true
is_labeled kind.ContinueStmt = true
is_labeled kind.LabeledStmt = true
is_labeled _ = false

jump-kept : (x y : Bool) (v w : Held) (l : Option (List ℕ)) → Le x y → Le v.strays.held w.strays.held → v.labels ≡ w.labels → is_stray_jump y w l ≡ false → is_stray_jump x v l ≡ false
jump-kept x y v w None le held e h = le h
jump-kept x y v w (Some label) le held e h =
    ap (λ z. v.strays.held && not (list_any (λ l. bytes_eq l label) z)) e ∙ and-le v.strays.held w.strays.held (not (list_any (λ l. bytes_eq l label) w.labels)) held h

kept : (v w : Held) (k : Kind) (l m : Option (List ℕ)) → Fewer v.strays w.strays → v.labels ≡ w.labels → (is_labeled k ≡ true → m ≡ l) → is_stray_in w k l ≡ false → is_stray_in v k m ≡ false
unfolding is_stray_in is_stray
kept v w kind.BreakStmt l m f e same h = ap (is_stray_jump v.strays.breaking v) (same refl) ∙ jump-kept v.strays.breaking w.strays.breaking v w l f.breaking f.held e h
kept v w kind.ContinueStmt l m f e same h = ap (is_stray_jump v.strays.continuing v) (same refl) ∙ jump-kept v.strays.continuing w.strays.continuing v w l f.continuing f.held e h
kept v w kind.ThisExpr l m f e same h = f.receiver h
kept v w (kind.MetaPropExpr k) l m f e same h = and-le v.strays.receiver w.strays.receiver (is_new_target k) f.receiver h
kept v w (kind.Ident text ctxt optional) l m f e same h = and-le v.strays.arguments w.strays.arguments (bytes_eq text (codes "arguments")) f.arguments h
kept v w kind.Super l m f e same h = f.home h
kept v w kind.AwaitExpr l m f e same h = f.awaiting h
kept v w (kind.ForOfStmt is_await) l m f e same h = and-le v.strays.awaiting w.strays.awaiting is_await f.awaiting h
kept v w (kind.YieldExpr delegate) l m f e same h = f.yielding h
kept v w kind.ReturnStmt l m f e same h = f.returning h
kept v w _ l m f e same h = refl

label-same : (k : Kind) (l m : Option (List ℕ)) → (is_labeled k ≡ true → m ≡ l) → own_label k m ≡ own_label k l
label-same kind.LabeledStmt l m same = same refl
label-same _ l m same = refl

-- ---- the same node

abbrev Eases : Held → Held → Type 0
Eases w v = Fewer v.strays w.strays × (v.labels ≡ w.labels)

abbrev pub Pass : Held → Node → Type 0
Pass = Passes Held stray inside

below : (w v : Held) (k : Kind) (a b : Node) (i : ℕ) → (is_labeled k ≡ true → label_of b ≡ label_of a) → Eases w v → Eases (inside w k a i) (inside v k b i)
below w v k a b i same e = (fewer-in v.strays w.strays e.0 i k, ap₂ (λ x y. labels_behind (ends_jumps k) x y) (label-same k (label_of a) (label_of b) same) e.1)

eased-here : (w v : Held) (k : Kind) (n : Node) → Eases w v → stray w k n ≡ false → stray v k n ≡ false
eased-here w v k n e h = kept v w k (label_of n) (label_of n) e.0 e.1 (λ z. refl) h

eases : (n : Node) (w v : Held) → Eases w v → Pass w n → Pass v n
eases n w v e h = eased Held stray inside Eases eased-here (λ x y k m i q. below x y k m m i (λ z. refl) q) n w v e h

-- ---- what is around both

-- in the list of an enum no label is around
abbrev pub Agree : Place → Shape → Held → Held → Type 0
Agree (place.Member skips) t w v = v.labels ≡ []
Agree _ t w v = Fewer v.strays w.strays × (v.labels ≡ w.labels)

agreed : (p : Place) (t : Shape) (w v : Held) → is_members p ≡ false → Agree p t w v → Eases w v
agreed (place.Member skips) t w v c g = no (sym c)
agreed _ t w v c g = g

agreeing : (p : Place) (t : Shape) (w v : Held) → is_members p ≡ false → Eases w v → Agree p t w v
agreeing (place.Member skips) t w v c g = no (sym c)
agreeing _ t w v c g = g

listed : (p : Place) (t u : Shape) (w v : Held) (a b : Node) (i j : ℕ) → Agree p t w v → Agree p u (inside w kind.List a i) (inside v kind.List b j)
unfolding strays_in in_named ends_jumps
listed (place.Member skips) t u w v a b i j g = g
listed _ t u w v a b i j g = g

-- ---- labels

module _ (enums : KnownEnums) (N : Ident → Type 0) (K : List ℕ → Type 0) where
  text-at : {f : ℕ → Place} {ts : List Shape} {cs ds : List Node} → Ones enums N K f ts cs ds → f 0 ≡ place.Other → text_of (slice_get ds 0) ≡ text_of (slice_get cs 0)
  text-at relation.none e = refl
  text-at (relation.more {t = t} {c = c} {d = d} o os) e = ap text_by (other-kind enums N K (subst (λ z. Stands enums N K z t c d) e o))

  labels : (p : Place) (t : Shape) (k : Kind) (a b : Node) → Ones enums N K (place_in enums.writes p k) (child_shapes k t (length (children_of a))) (children_of a) (children_of b) → is_labeled k ≡ true → label_of b ≡ label_of a
  unfolding place_in
  labels p t kind.BreakStmt a b os h = text-at os refl
  labels p t kind.ContinueStmt a b os h = text-at os refl
  labels p t kind.LabeledStmt a b os h = text-at os refl
  labels p t _ a b os h = no h

-- ---- made nodes

abbrev pub kinds : Kinds Held
kinds = record {
  usual = λ h. Unit;
  read = λ h. Unit;
  left = λ h. Unit;
  key = λ h. Unit;
  bound = λ h. Unit;
  parameter = λ h. Unit;
  parameter_name = λ h. Unit;
  body = λ h. h.labels ≡ [];
}

pub seats : Seats Held stray inside kinds
unfolding ends_jumps
seats = record {
  reads = λ a u. tt;
  items = λ a n i u. tt;
  statement = λ a n. tt;
  callee = λ a n. tt;
  arguments = λ a n. tt;
  type_arguments = λ a n. tt;
  function_name = λ a n. tt;
  function = λ a n. tt;
  parameters = λ a n. tt;
  body = λ a n. tt;
  type_parameters = λ a n. tt;
  result = λ a n. tt;
  parameter = λ a n. tt;
  parameter_name = λ a n h. tt;
  parameter_type = λ a n h. tt;
  bound_name = λ a n h. tt;
  bound_type = λ a n h. tt;
  left = λ a n. tt;
  right = λ a n. tt;
  object = λ a n. tt;
  property = λ a n. tt;
  computed = λ a n. tt;
  either = λ a n. tt;
  other = λ a n. tt;
  dividend = λ a n. tt;
  divisor = λ a n. tt;
  operand = λ a op n. tt;
  properties = λ a n. tt;
  statements = λ a n. tt;
  declarators = λ a word n. tt;
  binding = λ a n. tt;
  initial = λ a n. tt;
  exported = λ a n. tt;
  key = λ a n. tt;
  value = λ a n. tt;
  pattern_key = λ a n. tt;
  body_statement = λ a n b. b;
  body_left = λ a n b. b;
  body_property = λ a n b. b;
  body_computed = λ a n b. b;
}

frame-quiet : (a : Held) (k : Kind) (n : Node) → is_frame k ≡ true → stray a k n ≡ false
unfolding is_stray_in is_stray
frame-quiet a kind.BreakStmt n h = no h
frame-quiet a kind.ContinueStmt n h = no h
frame-quiet a kind.ThisExpr n h = no h
frame-quiet a (kind.MetaPropExpr k) n h = no h
frame-quiet a (kind.Ident text ctxt optional) n h = no h
frame-quiet a kind.Super n h = no h
frame-quiet a kind.AwaitExpr n h = no h
frame-quiet a (kind.ForOfStmt is_await) n h = no h
frame-quiet a (kind.YieldExpr delegate) n h = no h
frame-quiet a kind.ReturnStmt n h = no h
frame-quiet a _ n h = refl

read-quiet : (a : Held) (k : Kind) (n : Node) → is_read_frame k ≡ true → stray a k n ≡ false
unfolding is_stray_in is_stray
read-quiet a kind.MemberExpr n h = refl
read-quiet a (kind.BinExpr op) n h = refl
read-quiet a (kind.UnaryExpr op) n h = refl
read-quiet a _ n h = no h

name-quiet : (a : Held) (of : Ident) (n : Node) → IsUsable of → stray a (kind.Ident of.sym of.ctxt of.optional) n ≡ false
unfolding is_stray_in is_stray
name-quiet a of n h = ap (λ z. a.strays.arguments && z) h.other ∙ and-no a.strays.arguments

pub quiet : Quiet Held stray inside kinds IsUsable IsKey
unfolding is_stray_in is_stray
quiet = record {
  frame = λ a k n f u. frame-quiet a k n f;
  read = λ a k n f r. read-quiet a k n f;
  text = λ a t n r. refl;
  digits = λ a m n h r. refl;
  function = λ a n h u. refl;
  variables = λ a word n h u. refl;
  declared = λ a n h. refl;
  parameter = λ a n h. refl;
  name = λ a of n h u. name-quiet a of n h;
  parameter_name = λ a of n h i. name-quiet a of n h;
  target_name = λ a of n h s l. name-quiet a of n h;
  target_member = λ a n s l. refl;
  key = λ a t n h u. refl;
  property = λ a t n h y. refl;
  computed = λ a n y. refl;
}

-- ---- what is written

-- around what is made for an enum is what is around it
pub owed : (enums : KnownEnums) → Owed enums IsUsable IsKey Held stray inside kinds Agree
unfolding is_stray_in is_stray strays_in in_named ends_jumps
owed enums = record {
  left = λ p t w v n calm s has g h. eases n w v (agreed p t w v calm g) h;
  kept_here = λ p t w v a b calm s has l e at ones g h.
      let q = agreed p t w v calm g in
      kept v w (kind_of a) (label_of a) (label_of b) q.0 q.1 (labels enums IsUsable IsKey p t (kind_of a) a b ones) h;
  kept_below = λ p t w v a b calm s has l e at ones g h i u get.
      agreeing (place_in enums.writes p (kind_of a) i) u (inside w (kind_of a) a i) (inside v (kind_of a) b i) (child-calm enums.writes p t (kind_of a) i calm)
      (below w v (kind_of a) a b i (labels enums IsUsable IsKey p t (kind_of a) a b ones) (agreed p t w v calm g));
  listed_here = λ p t w v a b s has e f g h. refl;
  listed_below = λ p t w v a b s has e g long i j same. listed p t (item_shape t) w v a b i j g;
  read = λ t w v g. tt;
  target = λ t w v a s has is g h n simple. refl;
  property = λ t w v n g. refl;
  pattern = λ t w v a n s has e g. (refl, λ m simple. refl);
  default = λ t w v a n m s has e g first. (refl, (λ x simple. refl), g);
  item = λ at_top exported t w v g. tt;
  export = λ at_top t w v c g. g;
  members = λ at_top exported skips t w v c h g x1 x2 x3 x4 x5. refl;
  member = λ skips t w v g. (tt, g);
  init = λ w v c n b. (fewer-all v.strays, b);
}

-- nothing is held at the root
pub top : (t : Shape) → Agree place.Other t not_held not_held
top t = (
  record {
    held = λ z. z;
    receiver = λ z. z;
    arguments = λ z. z;
    home = λ z. z;
    awaiting = λ z. z;
    yielding = λ z. z;
    returning = λ z. z;
    breaking = λ z. z;
    continuing = λ z. z;
  },
  refl,
)
