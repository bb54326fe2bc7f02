-- No name is bound with a type round it in what is written, where none was.
use Rattle.std.proofs.Common.{◌≡◌, ◌∙◌, ◌⊎◌, inl, inr, ℕ, Bool, true, false, cond, ◌&&◌, ◌||◌, ◌==◌, List, map, Some, None, refl, sym, ap}
use Rattle.ecma_bind.specs.Binding.{binds, is_name_under_types, names_step}
use Rattle.ecma_kind.specs.Shapes.{field_shapes}
use Rattle.ecma_kind.specs.Sorts.{is_type_wrapper}
use Rattle.ecma_kind.specs.declared.kind.Kind.{Kind}
use Rattle.ecma_kind.specs.declared.kind.Kind.TheVariants as kind
use Rattle.ecma_kind.specs.declared.shapes.Shape.{Shape}
use Rattle.ecma_kind.specs.declared.shapes.Sort.TheVariants as sort
use Rattle.ecma_tree.specs.Sorted.{is_list, many, maybe, one}
use Rattle.ecma_tree.specs.declared.node.Node.{Node, fold_out-Node}
use Rattle.ecma_rules.specs.Children.{kind_of}
use Rattle.ecma_rules.specs.Targets.{first_is}
use Rattle.ecma_fits.specs.declared.role.Role.{Role}
use Rattle.ecma_fits.specs.declared.role.Role.TheVariants as role
use Rattle.ecma_fits.specs.declared.unfit.Where.{Where}
use Rattle.ecma_fits.specs.Fitting.{at_top}
use Rattle.ecma_fits.specs.Roles.{in_list, is_name, role_in}
use Rattle.ecma_lower_enums.specs.declared.known.KnownEnums.{KnownEnums}
use Rattle.ecma_lower_enums.specs.declared.place.Place.{Place}
use Rattle.ecma_lower_enums.specs.declared.place.Place.TheVariants as place
use Rattle.ecma_lower_enums.specs.Lowered.{known_enums}
use Rattle.ecma_lower_enums.specs.Places.{is_several, place_in}
use Rattle.ecma_lower_enums.specs.Writing.{is_enum_kind}
use Rattle.ecma_lower_enums_sources.proofs.Alike.{exchanged, is_left_out, is_said}
use Rattle.ecma_lower_enums_sources.proofs.Relating.{module-written}
use Rattle.ecma_lower_enums_sources.proofs.Relation.{Ones, Stands, children_of, is_read, is_target}
use Rattle.ecma_lower_enums_sources.proofs.Relation.{is_name as is_bare_name}
use Rattle.ecma_lower_enums_sources.proofs.Relation as relation
use Rattle.ecma_lower_enums_sources.proofs.SortsKept.{K, N, Q, facts}
use Rattle.ecma_lower_enums_sources.proofs.Suiting.{no}
use Rattle.ecma_lower_enums_sources.proofs.Trees.{anywhere}
use Rattle.ecma_lower_enums_fits.specs.Laws.{WritingEnumsKeepsPlainTargets}
use Rattle.ecma_lower_enums_fits.proofs.Agreeing.{inside}
use Rattle.ecma_lower_enums_fits.proofs.Making.{Kinds, Quiet, Seats, in_body, is_frame, is_read_frame}
use Rattle.ecma_lower_enums_fits.proofs.Passing.{Owed, stands-pass}
use Rattle.ecma_lower_enums_fits.proofs.Standing.{fields-single}
use Rattle.ecma_lower_enums_fits.proofs.Walks.{Passes, and-no, eased}

abbrev typed : Where → Kind → Node → Bool
typed w k n = binds w.role && (is_type_wrapper k && is_name_under_types n)

abbrev Pass : Where → Node → Type 0
Pass = Passes Where typed inside

unwrapped : (w : Where) (k : Kind) (n : Node) → is_type_wrapper k ≡ false → typed w k n ≡ false
unwrapped w k n h = ap (λ z. binds w.role && (z && is_name_under_types n)) h ∙ and-no (binds w.role)

-- ---- names

said-nameless : (k : Kind) → is_said k ≡ true → (is_name k ≡ false) × (is_type_wrapper k ≡ false)
said-nameless (kind.Str text raw) h = (refl, refl)
said-nameless (kind.Number n raw) h = (refl, refl)
said-nameless (kind.UnaryExpr op) h = (refl, refl)
said-nameless (kind.BinExpr op) h = (refl, refl)
said-nameless kind.MemberExpr h = (refl, refl)
said-nameless kind.KeyValueProp h = (refl, refl)
said-nameless kind.KeyValuePatProp h = (refl, refl)
said-nameless _ h = no h

or-nothing : (x : Bool) → (x || false) ≡ x
or-nothing true = refl
or-nothing false = refl

plain-name : (n : Node) → is_type_wrapper (kind_of n) ≡ false → is_name_under_types n ≡ is_name (kind_of n)
plain-name n h = fold_out-Node Bool names_step n ∙ (ap (λ z. is_name (kind_of n) || (z && first_is (map is_name_under_types (children_of n)))) h ∙ or-nothing (is_name (kind_of n)))

either-back : (a b x y : Bool) → (y ≡ true → x ≡ true) → (a || (b && y)) ≡ true → (a || (b && x)) ≡ true
either-back true b x y f h = refl
either-back false true x y f h = f h
either-back false false x y f h = h

module _ (enums : KnownEnums) where
  abbrev S : Place → Shape → Node → Node → Type 0
  S = Stands enums N K

  -- one node for another
  other-back : {p : Place} {t : Shape} {a b : Node} → S p t a b → is_type_wrapper (kind_of a) ≡ false → is_name_under_types b ≡ true → is_name_under_types a ≡ true
  other-back {p} {t} {a} {b} s w h = by (exchanged enums N K s)
    where
      by : (kind_of b ≡ kind_of a) ⊎ ((is_left_out (kind_of a) ≡ true) × (is_said (kind_of b) ≡ true)) → is_name_under_types a ≡ true
      by (inl e) = plain-name a w ∙ (ap is_name (sym e) ∙ (sym (plain-name b (ap is_type_wrapper e ∙ w)) ∙ h))
      by (inr x) = let parts = said-nameless (kind_of b) x.1 in no (sym (plain-name b parts.1 ∙ parts.0) ∙ h)

  read-unwrapped : (k : Kind) → is_read k ≡ true → is_type_wrapper k ≡ false
  read-unwrapped (kind.Ident text ctxt optional) h = refl
  read-unwrapped kind.MemberExpr h = refl
  read-unwrapped _ h = no h

  target-unwrapped : (k : Kind) → is_target k ≡ true → is_type_wrapper k ≡ false
  target-unwrapped (kind.Ident text ctxt optional) h = refl
  target-unwrapped kind.BindingIdent h = refl
  target-unwrapped _ h = no h

  name-unwrapped : (k : Kind) → is_bare_name k ≡ true → is_type_wrapper k ≡ false
  name-unwrapped (kind.Ident text ctxt optional) h = refl
  name-unwrapped _ h = no h

  -- what is written under types is a name only where a name stood there
  mutual
    name-back : {p : Place} {t : Shape} {a b : Node} → S p t a b → is_name_under_types b ≡ true → is_name_under_types a ≡ true
    name-back (relation.left has calm) h = h
    name-back {a = a} {b = b} (relation.kept has calm l e at ones) h =
        fold_out-Node Bool names_step a
        ∙ either-back (is_name (kind_of a)) (is_type_wrapper (kind_of a)) (first_is (map is_name_under_types (children_of a))) (first_is (map is_name_under_types (children_of b))) (first-back ones)
        (sym (ap (λ k. is_name k || (is_type_wrapper k && first_is (map is_name_under_types (children_of b)))) e) ∙ (sym (fold_out-Node Bool names_step b) ∙ h))
    name-back {b = b} (relation.listed has e f at items) h = no (sym (plain-name b (ap is_type_wrapper f) ∙ ap is_name f) ∙ h)
    name-back {a = a} (relation.read has suit is said) h = other-back (relation.read has suit is said) (read-unwrapped (kind_of a) is) h
    name-back {a = a} (relation.target of text has suit is n k) h = other-back (relation.target of text has suit is n k) (target-unwrapped (kind_of a) is) h
    name-back {a = a} (relation.short span text has suit is k said) h = other-back (relation.short span text has suit is k said) (name-unwrapped (kind_of a) is) h
    name-back {a = a} (relation.patterned span at of text has suit is get v n k) h = other-back (relation.patterned span at of text has suit is get v n k) (ap is_type_wrapper is) h

    first-back : {f : ℕ → Place} {ts : List Shape} {cs ds : List Node} → Ones enums N K f ts cs ds → first_is (map is_name_under_types ds) ≡ true → first_is (map is_name_under_types cs) ≡ true
    first-back relation.none h = h
    first-back (relation.more o os) h = name-back o h

-- ---- a node whose kind stays

typed-kept : (binds wrapped x y : Bool) → (y ≡ true → x ≡ true) → (binds && (wrapped && x)) ≡ false → (binds && (wrapped && y)) ≡ false
typed-kept true true x true f h = no (sym h ∙ f refl)
typed-kept true true x false f h = refl
typed-kept true false x y f h = refl
typed-kept false wrapped x y f h = refl

kept : (w v : Where) (k : Kind) (a b : Node) → v.role ≡ w.role → (is_name_under_types b ≡ true → is_name_under_types a ≡ true) → typed w k a ≡ false → typed v k b ≡ false
kept w v k a b r f h =
    ap (λ z. binds z && (is_type_wrapper k && is_name_under_types b)) r ∙ typed-kept (binds w.role) (is_type_wrapper k) (is_name_under_types a) (is_name_under_types b) f h

eases : (n : Node) (w v : Where) → v.role ≡ w.role → Pass w n → Pass v n
eases n w v r h = eased Where typed inside (λ x y. y.role ≡ x.role) (λ x y k m e q. kept x y k m m e (λ z. z) q) (λ x y k m i e. ap (λ z. role_in z k i) e) n w v r h

-- a statement of a list has a free role
pub record Agree (p : Place) (t : Shape) (w v : Where) : Type 0 where
  pub free : is_several p ≡ true → w.role ≡ role.Free
  pub role : v.role ≡ w.role

cond-single : (b : Bool) (x y : Place) → is_several x ≡ false → is_several y ≡ false → is_several (cond b x y) ≡ false
cond-single true x y h g = h
cond-single false x y h g = g

several-free : (writes : Bool) (p : Place) (k : Kind) (i : ℕ) (r : Role) → is_list k ≡ false → is_several (place_in writes p k i) ≡ true → role_in r k i ≡ role.Free
unfolding place_in role_in
several-free writes p kind.List i r l h = no (sym l)
several-free writes p kind.SeqExpr i r l h = refl
several-free writes p (kind.Module shebang) i r l h = refl
several-free writes p (kind.Script shebang) i r l h = refl
several-free writes p kind.BlockStmt i r l h = refl
several-free writes p kind.TsModuleBlock i r l h = refl
several-free writes p kind.SwitchCase i r l h = refl
several-free writes p kind.ExportDecl i r l h = refl
several-free writes p (kind.TsModuleDecl declare global) i r l h = refl
several-free writes p (kind.TsNamespaceDecl declare global) i r l h = refl
several-free writes p kind.ParenExpr i r l h = refl
several-free writes p (kind.UpdateExpr op prefix) i r l h = no h
several-free writes p (kind.UnaryExpr op) i r l h = refl
several-free writes p (kind.ArrowExpr is_async is_generator) i r l h = no (sym (cond-single (i == 1) place.Read place.Other refl refl) ∙ h)
several-free writes p kind.SetterProp i r l h = no (sym (cond-single (i == 1) place.Raw place.Other refl refl) ∙ h)
several-free writes p kind.TsTypeAssertion i r l h = refl
several-free writes p kind.TsConstAssertion i r l h = refl
several-free writes p kind.TsNonNullExpr i r l h = refl
several-free writes p kind.TsAsExpr i r l h = refl
several-free writes p kind.TsInstantiation i r l h = refl
several-free writes p kind.TsSatisfiesExpr i r l h = refl
several-free writes p k i r l h = no (sym (fields-single p (field_shapes k) i) ∙ h)

-- ---- made nodes

abbrev kinds : Kinds Where
kinds = record {
  usual = λ w. Unit;
  read = λ w. Unit;
  left = λ w. Unit;
  key = λ w. Unit;
  bound = λ w. Unit;
  parameter = λ w. Unit;
  parameter_name = λ w. Unit;
  body = λ w. Unit;
}

seats : Seats Where typed inside kinds
seats = record {
  reads = λ a u. tt;
  items = λ a n i u. tt;
  statement = λ a n. tt;
  callee = λ a n. tt;
  arguments = λ a n. tt;
  type_arguments = λ a n. tt;
  function_name = λ a n. tt;
  function = λ a n. tt;
  parameters = λ a n. tt;
  body = λ a n. tt;
  type_parameters = λ a n. tt;
  result = λ a n. tt;
  parameter = λ a n. tt;
  parameter_name = λ a n h. tt;
  parameter_type = λ a n h. tt;
  bound_name = λ a n h. tt;
  bound_type = λ a n h. tt;
  left = λ a n. tt;
  right = λ a n. tt;
  object = λ a n. tt;
  property = λ a n. tt;
  computed = λ a n. tt;
  either = λ a n. tt;
  other = λ a n. tt;
  dividend = λ a n. tt;
  divisor = λ a n. tt;
  operand = λ a op n. tt;
  properties = λ a n. tt;
  statements = λ a n. tt;
  declarators = λ a word n. tt;
  binding = λ a n. tt;
  initial = λ a n. tt;
  exported = λ a n. tt;
  key = λ a n. tt;
  value = λ a n. tt;
  pattern_key = λ a n. tt;
  body_statement = λ a n b. tt;
  body_left = λ a n b. tt;
  body_property = λ a n b. tt;
  body_computed = λ a n b. tt;
}

frame-unwrapped : (k : Kind) → is_frame k ≡ true → is_type_wrapper k ≡ false
frame-unwrapped kind.TsTypeAssertion h = no h
frame-unwrapped kind.TsConstAssertion h = no h
frame-unwrapped kind.TsNonNullExpr h = no h
frame-unwrapped kind.TsAsExpr h = no h
frame-unwrapped kind.TsInstantiation h = no h
frame-unwrapped kind.TsSatisfiesExpr h = no h
frame-unwrapped _ h = refl

read-frame : (k : Kind) → is_read_frame k ≡ true → is_type_wrapper k ≡ false
read-frame kind.MemberExpr h = refl
read-frame (kind.BinExpr op) h = refl
read-frame (kind.UnaryExpr op) h = refl
read-frame _ h = no h

quiet : Quiet Where typed inside kinds N K
quiet = record {
  frame = λ a k n f u. unwrapped a k n (frame-unwrapped k f);
  read = λ a k n f r. unwrapped a k n (read-frame k f);
  text = λ a t n r. unwrapped a (kind.Str t None) n refl;
  digits = λ a m n h r. unwrapped a (kind.Number (Some m) None) n refl;
  function = λ a n h u. unwrapped a (kind.Function false false) n refl;
  variables = λ a word n h u. unwrapped a (kind.VarDecl word false) n refl;
  declared = λ a n h. unwrapped a kind.BindingIdent n refl;
  parameter = λ a n h. unwrapped a kind.BindingIdent n refl;
  name = λ a of n h u. unwrapped a (kind.Ident of.sym of.ctxt of.optional) n refl;
  parameter_name = λ a of n h i. unwrapped a (kind.Ident of.sym of.ctxt of.optional) n refl;
  target_name = λ a of n h s l. unwrapped a (kind.Ident of.sym of.ctxt of.optional) n refl;
  target_member = λ a n s l. unwrapped a kind.MemberExpr n refl;
  key = λ a t n h u. unwrapped a (kind.IdentName t) n refl;
  property = λ a t n h y. unwrapped a (kind.IdentName t) n refl;
  computed = λ a n y. unwrapped a kind.ComputedPropName n refl;
}

-- ---- what is written

members-agree : (k : Kind) (top exported skips : Bool) (w v : Where) (c : Node) → is_enum_kind k ≡ true → (x1 x2 x3 x4 x5 : Node)
    → Agree (place.Member skips) (many sort.TsEnumMember) (inside w k c 1) (in_body Where typed inside kinds v x1 x2 x3 x4 x5)
unfolding role_in
members-agree (kind.TsEnumDecl declare is_const) top exported skips w v c h x1 x2 x3 x4 x5 = record { role = refl; free = λ z. refl }
members-agree _ top exported skips w v c h x1 x2 x3 x4 x5 = no h

owed : (enums : KnownEnums) → Owed enums N K Where typed inside kinds Agree
unfolding role_in
owed enums = record {
  left = λ p t w v n calm s has g h. eases n w v g.role h;
  kept_here = λ p t w v a b calm s has l e at ones g h. kept w v (kind_of a) a b g.role (name-back enums (relation.kept {p = p} {t = t} has calm l e at ones)) h;
  kept_below = λ p t w v a b calm s has l e at ones g h i u get.
      record { role = ap (λ z. role_in z (kind_of a) i) g.role; free = λ z. several-free enums.writes p (kind_of a) i w.role l z };
  listed_here = λ p t w v a b s has e f g h. unwrapped v kind.List b refl;
  listed_below = λ p t w v a b s has e g long i j same. record { role = ap in_list g.role; free = λ z. ap in_list (g.free z) };
  read = λ t w v g. tt;
  target = λ t w v a s has is g h n simple. unwrapped v kind.MemberExpr n refl;
  property = λ t w v n g. unwrapped v kind.KeyValueProp n refl;
  pattern = λ t w v a n s has e g. (unwrapped v kind.KeyValuePatProp n refl, λ m simple. unwrapped (inside v kind.KeyValuePatProp n 1) kind.MemberExpr m refl);
  default = λ t w v a n m s has e g first.
      let b = inside v kind.KeyValuePatProp n 1 in
      let agrees : Agree place.Read (maybe sort.Expr) (inside w kind.AssignPatProp a 1) (inside b kind.AssignPat m 1) = record { role = refl; free = λ z. refl } in
      (unwrapped b kind.AssignPat m refl, (λ x simple. unwrapped (inside b kind.AssignPat m 0) kind.MemberExpr x refl), agrees);
  item = λ top exported t w v g. tt;
  export = λ top t w v c g. record { role = g.role ∙ g.free refl; free = λ z. refl };
  members = λ top exported skips t w v c h g x1 x2 x3 x4 x5. members-agree (kind_of c) top exported skips w v c h x1 x2 x3 x4 x5;
  member = λ skips t w v g. (tt, tt);
  init = λ w v c n b. record { role = refl; free = λ z. refl };
}

pub writing_enums_keeps_plain_targets : WritingEnumsKeepsPlainTargets
writing_enums_keeps_plain_targets may_change keeps_constants members tree sorted h =
    let enums = known_enums may_change keeps_constants members tree in
    let stands = module-written enums N K Q (facts enums) tree (anywhere Q (λ n. tt) tree) sorted in
    let agree : Agree place.Other (one sort.Module) at_top at_top = record { role = refl; free = λ z. refl } in
    stands-pass enums N K Where typed inside kinds Agree (λ of x. tt) seats quiet (owed enums) stands refl at_top at_top agree h
