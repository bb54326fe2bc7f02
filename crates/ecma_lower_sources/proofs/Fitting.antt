-- A module that fits does with its assignments lowered; no name of it is long, and none is made but free names, where none was.
use Rattle.std.proofs.Common.{◌≡◌, ◌∙◌, ℕ, Bool, true, false, ◌&&◌, ◌||◌, not, codes, List, Option, refl, ap, eq-eqb}
use Rattle.std.specs.Option.{is_some}
use Rattle.ecma_config.specs.declared.config.TsImportExportAssignConfig.{TsImportExportAssignConfig}
use Rattle.ecma_bind.specs.Binding.{binds, is_name_under_types}
use Rattle.ecma_kind.specs.Sorts.{belongs, is_type_wrapper}
use Rattle.ecma_kind.specs.declared.kind.Kind.{Kind}
use Rattle.ecma_kind.specs.declared.kind.Kind.TheVariants as kind
use Rattle.ecma_kind.specs.declared.shapes.Sort.TheVariants as sort
use Rattle.ecma_kind.specs.declared.span.Span.{Span}
use Rattle.ecma_tree.specs.Sorted.{one}
use Rattle.ecma_tree.specs.declared.node.Node.{Node, out-Node}
use Rattle.ecma_leaves.specs.Words.{is_spelled}
use Rattle.ecma_rules.specs.declared.standing.Standing.TheVariants as standing
use Rattle.ecma_rules.specs.declared.target.Target.TheVariants as target
use Rattle.ecma_rules.specs.Children.{child_holds, has_child, items_at, kind_of}
use Rattle.ecma_rules.specs.Lists.{is_head, is_one_without_value, is_rest}
use Rattle.ecma_rules.specs.Members.{is_declaring, is_plain_parameter, is_property_kind, is_special_by, misfits_by, misplaces_this_by, second_by}
use Rattle.ecma_rules.specs.Statements.{is_body, is_declaration, is_exported, is_text}
use Rattle.ecma_rules.specs.Targets.{is_simple_target, is_variables}
use Rattle.ecma_fits.specs.declared.role.Role.TheVariants as role
use Rattle.ecma_fits.specs.declared.unfit.Where.{Where}
use Rattle.ecma_fits.specs.Branches.{is_choice, takes_else}
use Rattle.ecma_fits.specs.Chains.{is_loose_by}
use Rattle.ecma_fits.specs.Counts.{is_full_by}
use Rattle.ecma_fits.specs.Fitting.{Fits}
use Rattle.ecma_fits.specs.Members.{is_misread_by}
use Rattle.ecma_fits.specs.Roles.{is_tagged, is_wrong_name, may_be, takes}
use Rattle.ecma_fits.specs.Strays.{is_stray_target}
use Rattle.ecma_hygiene.specs.Sights.{stands_in_source}
use Rattle.ecma_hygiene_fits.specs.Placed.{NoneMadeBut, is_made_but}
use Rattle.ecma_hygiene_fits.specs.Spelled.{NoneLong, is_long}
use Rattle.ecma_strip_fits.specs.Targets.{HasPlainTargets}
use Rattle.ecma_strip_rewriting.proofs.PlainKinds.{no, shape-out}
use Rattle.ecma_lower_sources.proofs.Clauses.{Clause, NoneOf, at_place, by-kind, is_still, none-fails}
use Rattle.ecma_lower_sources.proofs.Modules.{Each, lowered_items, module_at}
use Rattle.ecma_lower_sources.proofs.Names.{exports-spelled, exports-unreserved, module-spelled, module-unreserved, require-spelled, require-unreserved}
use Rattle.ecma_lower_sources.proofs.Sorts.{items-sorted, module-sorted}
use Rattle.ecma_lower_sources.proofs.Strays.{no-stray}
use Rattle.ecma_lower_sources.proofs.Writes.{IsItem}

-- ---- tests that look at no free name

abbrev dangling : Where → Kind → Node → Bool
dangling w k n = is_choice k && (has_child n 2 && child_holds takes_else n 1)

pub branches : (free : ℕ) → Clause dangling free
branches free = by-kind dangling free none ((λ n. refl), (λ n. refl), (λ n. refl)) (λ n l m h. refl)
  where
    none : NoneOf dangling
    none kind.IfStmt n r t s l h = no h
    none _ n r t s l h = refl

abbrev loose : Where → Kind → Node → Bool
loose w k n = is_loose_by k n

pub chains : (free : ℕ) → Clause loose free
chains free = by-kind loose free none ((λ n. refl), (λ n. refl), (λ n. refl)) (λ n l m h. refl)
  where
    none : NoneOf loose
    none (kind.OptChainExpr optional) n r t s l h = no h
    none _ n r t s l h = refl

abbrev misread : Where → Kind → Node → Bool
misread w k n = is_misread_by k n

none-misread : NoneOf misread
unfolding is_misread_by
none-misread (kind.Constructor accessibility is_optional) n r t s l h = no h
none-misread (kind.ClassMethod m modifiers) n r t s l h = no h
none-misread (kind.PrivateMethod m modifiers) n r t s l h = no h
none-misread _ n r t s l h = refl

pub members : (free : ℕ) → Clause misread free
unfolding is_misread_by
members free = by-kind misread free none-misread ((λ n. refl), (λ n. refl), (λ n. refl)) (λ n l m h. refl)

abbrev stray_target : Where → Kind → Node → Bool
stray_target w k n = is_stray_target w.role w.arguments n

pub targets : (free : ℕ) → Clause stray_target free
targets free = by-kind stray_target free (λ k n r t s l h. refl) ((λ n. refl), (λ n. refl), (λ n. refl)) (λ n l m h. refl)

abbrev second : Where → Kind → Node → Bool
second w k n = is_some (second_by k n)

pub constructors : (free : ℕ) → Clause second free
constructors free = by-kind second free none ((λ n. refl), (λ n. refl), (λ n. refl)) (λ n l m h. refl)
  where
    none : NoneOf second
    none (kind.Class is_abstract) n r t s l h = no h
    none _ n r t s l h = refl

-- ---- tests of names

abbrev too_long : Where → Kind → Node → Bool
too_long w k n = is_long k

pub long : (free : ℕ) → Clause too_long free
long free = by-kind too_long free none ((λ n. refl), (λ n. refl), (λ n. refl)) (λ n l m h. refl)
  where
    none : NoneOf too_long
    none (kind.Ident text ctxt optional) n r t s l h = no h
    none _ n r t s l h = refl

abbrev other_made : ℕ → Where → Kind → Node → Bool
other_made free w k n = is_made_but free k (out-Node n).span

and-false : (b : Bool) → (b && false) ≡ false
and-false true = refl
and-false false = refl

-- a name of the context of free names is free
free-name : (free : ℕ) (text : List ℕ) (n : Node) → is_made_but free (kind.Ident text free false) (out-Node n).span ≡ false
free-name free text n =
    ap (λ b. not (stands_in_source (out-Node n).span) && not b) (eq-eqb free free refl) ∙ and-false (not (stands_in_source (out-Node n).span))

pub made : (free : ℕ) → Clause (other_made free) free
made free = by-kind (other_made free) free none ((λ n. free-name free (codes "require") n), (λ n. free-name free (codes "exports") n), (λ n. free-name free (codes "module") n)) (λ n l m h. refl)
  where
    none : NoneOf (other_made free)
    none (kind.Ident text ctxt optional) n r t s l h = no h
    none _ n r t s l h = refl

-- a name with a type round it, where names are bound
abbrev typed_target : Where → Kind → Node → Bool
typed_target w k n = binds w.role && (is_type_wrapper k && is_name_under_types n)

pub types : (free : ℕ) → Clause typed_target free
types free = by-kind typed_target free none ((λ n. refl), (λ n. refl), (λ n. refl)) (λ n l m h. refl)
  where
    plain : (k : Kind) → is_still k ≡ true → is_type_wrapper k ≡ false
    plain kind.TsTypeAssertion h = no h
    plain kind.TsConstAssertion h = no h
    plain kind.TsNonNullExpr h = no h
    plain kind.TsAsExpr h = no h
    plain kind.TsInstantiation h = no h
    plain kind.TsSatisfiesExpr h = no h
    plain _ h = refl

    none : NoneOf typed_target
    none k n r t s l h = ap (λ b. binds r && (b && is_name_under_types n)) (plain k h) ∙ and-false (binds r)

-- ---- parts

abbrev short : Where → Kind → Node → Bool
short w k n = not (is_full_by k n)

pub counts : (free : ℕ) → Clause short free
unfolding is_full_by
counts free = record {
  top = λ shebang n m h. refl;
  items = λ n l m h. refl;
  quiet = record {
    list = λ n. refl;
    missing = λ n. refl;
    declaration = λ n h. ap (λ b. not (not b)) h;
    variable = λ n. refl;
    binding = λ n. refl;
    exported = λ n. refl;
    statement = λ n. refl;
    assignment = λ n. refl;
    member = λ n. refl;
    assigned = λ n h. refl;
    call = λ n. refl;
    require = λ n. refl;
    exports = λ n. refl;
    module' = λ n. refl;
    exports_key = λ n. refl;
    key_of_name = λ text ctxt optional n m h. refl;
    own_key = λ text n h. refl;
  };
}

-- ---- roles

abbrev out_of_role : Where → Kind → Node → Bool
out_of_role w k n = is_wrong_name w.role k || not (may_be w.role k || (takes w.role k && is_simple_target n))

pub roles : (free : ℕ) → Clause out_of_role free
unfolding may_be takes
roles free = record {
  top = λ shebang n m h. refl;
  items = λ n l m h. refl;
  quiet = record {
    list = λ n. refl;
    missing = λ n. refl;
    declaration = λ n h. refl;
    variable = λ n. refl;
    binding = λ n. refl;
    exported = λ n. refl;
    statement = λ n. refl;
    assignment = λ n. refl;
    member = λ n. refl;
    assigned = λ n h. ap not h;
    call = λ n. refl;
    require = λ n. ap (λ b. b || false) require-unreserved;
    exports = λ n. ap (λ b. b || false) exports-unreserved;
    module' = λ n. ap (λ b. b || false) module-unreserved;
    exports_key = λ n. refl;
    key_of_name = λ text ctxt optional n m h. refl;
    own_key = λ text n h. refl;
  };
}

-- ---- leaves

abbrev misspelled : Where → Kind → Node → Bool
misspelled w k n = not (is_spelled (is_tagged w.role) k)

pub leaves : (free : ℕ) → Clause misspelled free
leaves free = record {
  top = λ shebang n m h. h;
  items = λ n l m h. refl;
  quiet = record {
    list = λ n. refl;
    missing = λ n. refl;
    declaration = λ n h. refl;
    variable = λ n. refl;
    binding = λ n. refl;
    exported = λ n. refl;
    statement = λ n. refl;
    assignment = λ n. refl;
    member = λ n. refl;
    assigned = λ n h. refl;
    call = λ n. refl;
    require = λ n. ap not require-spelled;
    exports = λ n. ap not exports-spelled;
    module' = λ n. ap not module-spelled;
    exports_key = λ n. ap not exports-spelled;
    key_of_name = λ text ctxt optional n m h. h;
    own_key = λ text n h. h;
  };
}

-- ---- context rules

abbrev breaks : Where → Kind → Node → Bool
breaks w k n =
    (((is_head w.around.target && is_variables k) && not (is_one_without_value (items_at n 0))) || (is_rest w.around.target k && not w.around.is_last))
    || (((is_property_kind k && not (is_declaring w.around.standing && child_holds is_plain_parameter n 0)) || (misfits_by k n || (is_special_by k n || misplaces_this_by k n)))
    || ((is_exported w.around.standing && is_text k) || (is_body w.around.standing && is_declaration k)))

-- an item is no rest
rest-last : (k : Kind) (l m : Bool) → belongs sort.ModuleItem k ≡ true → (is_rest target.Free k && not l) ≡ (is_rest target.Free k && not m)
rest-last kind.RestPat l m h = no h
rest-last _ l m h = refl

last-alike : (n : Node) (l m : Bool) → IsItem n
    → breaks (at_place role.Free target.Free standing.Plain l) (kind_of n) n
    ≡ breaks (at_place role.Free target.Free standing.Plain m) (kind_of n) n
last-alike n l m h =
    ap (λ (z : Bool).
    (false || z)
    || (((is_property_kind (kind_of n) && not (is_declaring standing.Plain && child_holds is_plain_parameter n 0)) || (misfits_by (kind_of n) n || (is_special_by (kind_of n) n || misplaces_this_by (kind_of n) n)))
    || ((is_exported standing.Plain && is_text (kind_of n)) || (is_body standing.Plain && is_declaration (kind_of n)))))
    (rest-last (kind_of n) l m (shape-out n (one sort.ModuleItem) h).0)

pub rules : (free : ℕ) → Clause breaks free
unfolding misfits_by misplaces_this_by is_declaration
rules free = record {
  top = λ shebang n m h. refl;
  items = last-alike;
  quiet = record {
    list = λ n. refl;
    missing = λ n. refl;
    declaration = λ n h. refl;
    variable = λ n. refl;
    binding = λ n. refl;
    exported = λ n. refl;
    statement = λ n. refl;
    assignment = λ n. refl;
    member = λ n. refl;
    assigned = λ n h. refl;
    call = λ n. refl;
    require = λ n. refl;
    exports = λ n. refl;
    module' = λ n. refl;
    exports_key = λ n. refl;
    key_of_name = λ text ctxt optional n m h. refl;
    own_key = λ text n h. refl;
  };
}

-- ---- the module

module _ (assign : TsImportExportAssignConfig) (free : ℕ) (span : Span) (shebang : Option (List ℕ)) (at : Span) (ns : List Node) (items : Each IsItem ns) where
  abbrev before : Node
  before = module_at span shebang at ns

  abbrev after : Node
  after = module_at span shebang at (lowered_items assign free ns)

  pub fits-lowered : Fits before → Fits after
  fits-lowered f = record {
    sorted = module-sorted span shebang at (lowered_items assign free ns) (items-sorted assign free ns items);
    counts = none-fails short free (counts free) assign span shebang at ns items f.counts;
    branches = none-fails dangling free (branches free) assign span shebang at ns items f.branches;
    chains = none-fails loose free (chains free) assign span shebang at ns items f.chains;
    members = none-fails misread free (members free) assign span shebang at ns items f.members;
    roles = none-fails out_of_role free (roles free) assign span shebang at ns items f.roles;
    targets = none-fails stray_target free (targets free) assign span shebang at ns items f.targets;
    rules = none-fails breaks free (rules free) assign span shebang at ns items f.rules;
    constructors = none-fails second free (constructors free) assign span shebang at ns items f.constructors;
    leaves = none-fails misspelled free (leaves free) assign span shebang at ns items f.leaves;
    strays = no-stray assign free span shebang at ns items f.strays;
  }

  pub short-lowered : NoneLong before → NoneLong after
  short-lowered h = none-fails too_long free (long free) assign span shebang at ns items h

  pub plain-lowered : HasPlainTargets before → HasPlainTargets after
  plain-lowered h = none-fails typed_target free (types free) assign span shebang at ns items h

  pub made-lowered : NoneMadeBut free before → NoneMadeBut free after
  made-lowered h = none-fails (other_made free) free (made free) assign span shebang at ns items h
