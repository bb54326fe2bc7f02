-- It is clear what each scope that stays declares without types, and none is ambient.
use Rattle.std.proofs.Common.{◌≡◌, ℕ, zero, suc, ◌+◌, ◌==◌, arith, Bool, true, false, ◌&&◌, not, cond, List, [], ◌∷◌, map, length, Some, refl, sym, ap, ◌∙◌, subst, if◌then◌else◌, slice_get}
use Rattle.std.specs.List.{All}
use Rattle.std.proofs.lemmas.List.Elements.{All-append, All-cons, All-nil}
use Rattle.ecma_kind.specs.Sorts.{belongs, is_type_wrapper}
use Rattle.ecma_kind.specs.declared.kind.Kind.{Kind}
use Rattle.ecma_kind.specs.declared.kind.Kind.TheVariants as kind
use Rattle.ecma_kind.specs.declared.shapes.Shape.{Shape}
use Rattle.ecma_kind.specs.declared.shapes.Sort.TheVariants as sort
use Rattle.ecma_tree.specs.declared.node.Node.{Node, Node-F, ind-Node, out-Node, roll-Node}
use Rattle.ecma_tree.specs.declared.node.Node.TheViews.{out-roll-Node}
use Rattle.ecma_tree.specs.Sorted.{HasShape, child_shapes, is_list, one}
use Rattle.ecma_fits.specs.declared.unfit.Where.{Where}
use Rattle.ecma_fits.specs.Fitting.{Fits, at_top, where_in}
use Rattle.ecma_scope.specs.declared.form.Part.TheVariants as part
use Rattle.ecma_scope.specs.declared.role.Role.{Role}
use Rattle.ecma_scope.specs.declared.role.Role.TheVariants as role
use Rattle.ecma_scope.specs.Declarations.{holds_vars, own_part}
use Rattle.ecma_scope.specs.Scopes.{at_child, is_ambient, is_default, is_there, of_exports, of_specifier, opens, passes_ambient, passes_in_list, role_by, role_in}
use Rattle.ecma_strip.specs.Staying.{stays}
use Rattle.ecma_hygiene.proofs.Telling.{true-false}
use Rattle.ecma_strip_scopes.specs.Apart.{IsClearSeat}
use Rattle.ecma_strip_scopes.specs.Staying.{staying_from, staying_seats}
use Rattle.ecma_strip_scopes.proofs.Going.{parts-have}
use Rattle.ecma_strip_scopes.proofs.KindsKept.{wrapper-opens}
use Rattle.ecma_strip_scopes.proofs.StayingSeats.{staying-out}
use Rattle.ecma_pipeline_runs.specs.Laws.{ModulesAreClear}
use Rattle.ecma_sources.specs.TypesAlone.{adds_types_alone}
use Rattle.ecma_pipeline_runs.proofs.Asking.{Asked, is_default_export}
use Rattle.ecma_pipeline_runs.proofs.Strays.{opener-other}
use Rattle.ecma_pipeline_runs.proofs.CalmRoles.{calm-role}
use Rattle.ecma_pipeline_runs.proofs.Clearing.{Stands, clears, stands-below}
use Rattle.ecma_pipeline_runs.proofs.Nodes.{StaysIn, none-some, not-lowered, some-same}
use Rattle.ecma_pipeline_runs.proofs.Remaining.{first_declared, remains_by}
use Rattle.ecma_pipeline_runs.proofs.UsualBodies.{fitting-bodies}
use Rattle.ecma_tree.specs.Values.{is_value}
use Rattle.ecma_fits.proofs.Clauses.{none_unfit}

-- ---- what is exported as the default

child-plain : (r : Role) (wanted i : ℕ) → is_default r ≡ false → is_default (at_child r wanted i) ≡ false
child-plain r wanted i h = by (i == wanted)
  where
    by : (b : Bool) → is_default (if b then r else role.Plain) ≡ false
    by true = h
    by false = refl

list-plain : (r : Role) → is_default (passes_in_list r) ≡ false
list-plain role.Sourced = refl
list-plain role.Ambient = refl
list-plain _ = refl

specifier-plain : (r : Role) (i : ℕ) → is_default (of_specifier r i) ≡ false
specifier-plain role.Sourced i = refl
specifier-plain _ i = child-plain role.Name 1 i refl

exports-plain : (sourced : Bool) (i : ℕ) → is_default (of_exports sourced i) ≡ false
exports-plain true i = child-plain role.Sourced 0 i refl
exports-plain false i = refl

ambient-plain : (b : Bool) → is_default (passes_ambient b) ≡ false
ambient-plain true = refl
ambient-plain false = refl

default-role : (r : Role) (k : Kind) (sourced : Bool) (i : ℕ) → is_default (role_by r k sourced i) ≡ true → is_default_export k ≡ true
unfolding role_by
default-role r kind.List sourced i h = absurd (true-false h (list-plain r))
default-role r kind.LabeledStmt sourced i h = absurd (true-false h (child-plain role.Name 0 i refl))
default-role r (kind.ImportNamedSpecifier t) sourced i h = absurd (true-false h (child-plain role.Name 1 i refl))
default-role r (kind.ExportNamedSpecifier t) sourced i h = absurd (true-false h (specifier-plain r i))
default-role r (kind.NamedExport t) sourced i h = absurd (true-false h (exports-plain sourced i))
default-role r (kind.Function g a) sourced i h = absurd (true-false h (child-plain role.Body 1 i refl))
default-role r (kind.ArrowExpr a g) sourced i h = absurd (true-false h (child-plain role.Body 1 i refl))
default-role r (kind.Constructor a o) sourced i h = absurd (true-false h (child-plain role.Body 2 i refl))
default-role r kind.GetterProp sourced i h = absurd (true-false h (child-plain role.Body 2 i refl))
default-role r kind.SetterProp sourced i h = absurd (true-false h (child-plain role.Body 3 i refl))
default-role r kind.CatchClause sourced i h = absurd (true-false h (child-plain role.CatchBody 1 i refl))
default-role r kind.ExportDefaultDecl sourced i h = refl
default-role r kind.ExportDecl sourced i h = absurd (true-false h (ambient-plain (is_ambient r)))
default-role r (kind.TsModuleDecl d g) sourced i h = absurd (true-false h (ambient-plain _))
default-role r (kind.TsNamespaceDecl d g) sourced i h = absurd (true-false h (ambient-plain _))
default-role r kind.TsModuleBlock sourced i h = absurd (true-false h (ambient-plain (is_ambient r)))
default-role r _ sourced i h = absurd (true-false h refl)

default-shape : (k : Kind) (s : Shape) (m i : ℕ) (o : Shape) → is_default_export k ≡ true → slice_get (child_shapes k s m) i ≡ Some o → one sort.DefaultDecl ≡ o
default-shape kind.ExportDefaultDecl s m zero o e at = some-same at
default-shape kind.ExportDefaultDecl s m (suc i) o e at = none-some at
default-shape _ s m i o e at = absurd (true-false e refl)

-- ---- a scope

default-remains : (k : Kind) (value ambient : Bool) → belongs sort.DefaultDecl k ≡ true → remains_by k value ambient ≡ true
default-remains kind.ClassExpr value ambient h = refl
default-remains kind.FnExpr value ambient h = refl
default-remains (kind.TsInterfaceDecl d) value ambient h = refl
default-remains _ value ambient h = absurd (true-false h refl)

holder-remains : (r : Role) (k : Kind) (value ambient : Bool) → holds_vars r k ≡ true → remains_by k value ambient ≡ true
unfolding holds_vars
holder-remains r (kind.Module x) value ambient h = refl
holder-remains r (kind.Script x) value ambient h = refl
holder-remains r kind.TsModuleBlock value ambient h = refl
holder-remains r kind.BlockStmt value ambient h = refl
holder-remains r _ value ambient h = absurd (true-false h refl)

unwrapped : (r : Role) (n : Node) (b : Bool) → is_type_wrapper (out-Node n).kind ≡ b → opens r n ≡ true → is_type_wrapper (out-Node n).kind ≡ false
unwrapped r n true is h = absurd (true-false h (wrapper-opens r (out-Node n).kind (is_there (out-Node n).children 0) is))
unwrapped r n false is h = is

own-asked : (r : Role) (n : Node) (s : Shape) (w : Where) → (is_default r ≡ true → belongs sort.DefaultDecl (out-Node n).kind ≡ true) → opens r n ≡ true → Asked (own_part r) n s w.role
own-asked role.Default n s w default h = default-remains (out-Node n).kind (is_value n) (first_declared (out-Node n).children) (default refl)
own-asked _ n s w default h = unwrapped _ n (is_type_wrapper (out-Node n).kind) refl h

seat-clear : (r : Role) (n : Node) (s : Shape) (w : Where) → Stands n s w → (is_default r ≡ true → belongs sort.DefaultDecl (out-Node n).kind ≡ true) → is_ambient r ≡ false → IsClearSeat true (record { role = r; node = n })
seat-clear r n s w is default calm h = (
  calm,
  record {
    own = clears n s w (record { part = own_part r; stays = true }) is (opener-other r n h) refl (own-asked r n s w default h);
    vars = λ v. clears n s w (record { part = part.Var; stays = true }) is (opener-other r n h) refl (holder-remains r (out-Node n).kind (is_value n) (first_declared (out-Node n).children) v);
  },
)

-- ---- all of them

abbrev SeatsClear : Node → Type 0
SeatsClear n = (s : Shape) (w : Where) (r : Role) → Stands n s w → (is_default r ≡ true → belongs sort.DefaultDecl (out-Node n).kind ≡ true) → is_ambient r ≡ false → All (IsClearSeat true) (staying_seats n r)

-- a child, which stands so, and which is a default where its role says so
record Child (c : Node) (r : Role) : Type 0 where
  shape : Shape
  place : Where
  stands : Stands c shape place
  default : is_default r ≡ true → belongs sort.DefaultDecl (out-Node c).kind ≡ true
  calm : is_ambient r ≡ false

abbrev AllClear : List Node → Type 0
AllClear cs = (list : Bool) (roles : ℕ → Role) (i : ℕ) → ((j : ℕ) (c : Node) → slice_get cs j ≡ Some c → (list ≡ true → stays c ≡ true) → Child c (roles (i + j))) → All (IsClearSeat true) (staying_from list roles i cs (map staying_seats cs))

none-more : (i : ℕ) → i + 0 ≡ i
none-more i = omega arith

one-more : (i j : ℕ) → i + suc j ≡ suc i + j
one-more i j = omega arith

front : (j : ℕ) → 0 + j ≡ j
front j = omega arith

there : (list st : Bool) → (list && not st) ≡ false → list ≡ true → st ≡ true
there true true h is = refl
there true false h is = absurd (true-false refl h)
there false st h is = absurd (true-false is refl)

-- what goes is passed over
unless-gone : (list : Bool) (n : Node) (r : Role) → ((list ≡ true → stays n ≡ true) → All (IsClearSeat true) (staying_seats n r)) → All (IsClearSeat true) (cond (list && not (stays n)) [] (staying_seats n r))
unless-gone list n r clear = by (list && not (stays n)) refl
  where
    by : (b : Bool) → (list && not (stays n)) ≡ b → All (IsClearSeat true) (cond b [] (staying_seats n r))
    by true gone = All-nil (IsClearSeat true)
    by false h = clear (there list (stays n) h)

all-clear : (ns : List ((n : Node) × SeatsClear n)) → AllClear (map (λ e. e.0) ns)
all-clear [] list roles i each = All-nil (IsClearSeat true)
all-clear (n ∷ ns) list roles i each =
    All-append (IsClearSeat true) (cond (list && not (stays n.0)) [] (staying_seats n.0 (roles i))) (staying_from list roles (suc i) (map (λ e. e.0) ns) (map staying_seats (map (λ e. e.0) ns)))
    (unless-gone list n.0 (roles i) (λ st. (let first : Child n.0 (roles i) = subst (λ (l : ℕ). Child n.0 (roles l)) (none-more i) (each 0 n.0 refl st) in n.1 first.shape first.place (roles i) first.stands first.default first.calm)))
    (all-clear ns list roles (suc i) (λ j c at st. subst (λ (l : ℕ). Child c (roles l)) (one-more i j) (each (suc j) c at st)))

layer-seats : (n : Node) → AllClear (out-Node n).children → SeatsClear n
layer-seats n children s w r is default calm =
    subst (All (IsClearSeat true)) (sym (staying-out n r))
    (All-cons (IsClearSeat true) (record { role = r; node = n }) (staying_from (is_list (out-Node n).kind) (role_in r n) 0 (out-Node n).children (map staying_seats (out-Node n).children)) (seat-clear r n s w is default calm)
    (children (is_list (out-Node n).kind) (role_in r n) 0 (λ j c at st. subst (λ (l : ℕ). Child c (role_in r n l)) (sym (front j)) (child j c at st))))
  where
    child : (j : ℕ) (c : Node) → slice_get (out-Node n).children j ≡ Some c → StaysIn (out-Node n).kind c → Child c (role_in r n j)
    child j c at st = let t = stands-below n s w is j c at st in record {
      shape = t.0;
      place = where_in w n j;
      stands = t.2;
      default = λ h. (let o : one sort.DefaultDecl ≡ t.0 = default-shape (out-Node n).kind s (length (out-Node n).children) j t.0 (default-role r (out-Node n).kind (is_there (out-Node n).children 1) j h) t.1 in
          (parts-have c (one sort.DefaultDecl) (subst (λ (z : Shape). HasShape z c) (sym o) t.2.has)).0);
      calm = calm-role r (out-Node n).kind (is_there (out-Node n).children 1) j calm (not-lowered n is.alone);
    }

seats-clear : (n : Node) → SeatsClear n
seats-clear = ind-Node SeatsClear (λ x y is.
    layer-seats (roll-Node x) (subst AllClear (ap (λ (z : Node-F Node). z.children) is ∙ sym (ap (λ (z : Node-F Node). z.children) (out-roll-Node x))) (all-clear y.children)))

pub module-stands : (tree : Node) → Fits tree → adds_types_alone tree ≡ true → Stands tree (one sort.Module) at_top
module-stands tree fits alone =
    let here = none_unfit tree fits in
    record { has = fits.sorted; fits = here; usual = fitting-bodies tree at_top here; alone = alone }

pub modules-are-clear : ModulesAreClear
modules-are-clear tree fits alone = seats-clear tree (one sort.Module) at_top role.Root (module-stands tree fits alone) (λ h. absurd (true-false h refl)) refl
