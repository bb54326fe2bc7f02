-- Finished trees that fit: what the grammar gives, and what keeps the context rules (docs/FITS.md).
use Rattle.std.specs.Prelude.{◌≡◌, ℕ, Bool, not, ◌||◌, Option, None}
use Rattle.ecma_kind.specs.declared.shapes.Sort.TheVariants as sort
use Rattle.ecma_tree.specs.declared.node.Node.{Node}
use Rattle.ecma_tree.specs.Sorted.{HasSort}
use Rattle.ecma_leaves.specs.Words.{is_spelled}
use Rattle.ecma_rules.specs.Children.{kind_of}
use Rattle.ecma_rules.specs.Failing.{failing_here, first_failing, least}
use Rattle.ecma_rules.specs.Jumps.{first_stray}
use Rattle.ecma_rules.specs.Members.{has_second_constructor, second_constructor}
use Rattle.ecma_rules.specs.Rules.{fails_list, fails_member, fails_statement}
use Rattle.ecma_rules.specs.Surroundings.{around_in, at_root}
use Rattle.ecma_fits.specs.declared.role.Role.TheVariants as role
use Rattle.ecma_fits.specs.declared.unfit.Where.{Where}
use Rattle.ecma_fits.specs.Roles.{is_out_of_role, is_tagged, role_in}
use Rattle.ecma_fits.specs.Counts.{is_short}
use Rattle.ecma_fits.specs.Branches.{is_dangling}
use Rattle.ecma_fits.specs.Chains.{is_loose}
use Rattle.ecma_fits.specs.Members.{is_misread}
use Rattle.ecma_fits.specs.Strays.{arguments_in, is_stray_target, not_held}

-- the context rules that read a finished tree as they read a raw one
abbrev pub breaks_rule : Where → Node → Bool
breaks_rule w node = fails_list w.around node || (fails_member w.around node || fails_statement w.around node)

abbrev pub where_in : Where → Node → ℕ → Where
where_in w node i =
    record { role = role_in w.role (kind_of node) i; around = around_in w.around node i; arguments = arguments_in w.arguments (kind_of node) i }

abbrev pub at_top : Where
at_top = record { role = role.Free; around = at_root; arguments = not_held }

-- no node of a tree fails a test of it and of where it stands
abbrev pub NoneFails : (Where → Node → Bool) → Node → Type 0
NoneFails fails tree = first_failing Where (λ w node. failing_here (fails w node) node) where_in tree at_top ≡ None

-- a leaf is not spelled as its terminal reads it, or says something else
abbrev pub is_misspelled : Where → Node → Bool
is_misspelled w node = not (is_spelled (is_tagged w.role) (kind_of node))

-- a module by its sorts, and no node of it fails a clause
pub record Fits (tree : Node) : Type 0 where
  -- each node has the sort that its parent asks for, from a module on
  pub sorted : HasSort sort.Module tree
  -- each has the parts that its production asks for
  pub counts : NoneFails (λ w node. is_short node) tree
  -- no `if` without `else` stands directly before an outer `else`
  pub branches : NoneFails (λ w node. is_dangling node) tree
  -- a link of an optional chain without its own `?.` stands behind a link
  pub chains : NoneFails (λ w node. is_loose node) tree
  -- a constructor is the member `constructor` that is not static, and no other is; no getter or setter of a class is a generator or async
  pub members : NoneFails (λ w node. is_misread node) tree
  -- each node may be what it is where it stands, and a reserved word names nothing
  pub roles : NoneFails (λ w node. is_out_of_role w.role node) tree
  -- no `arguments` is assigned to in a pattern that belongs to nothing inside an enum initialiser or a namespace body
  pub targets : NoneFails (λ w node. is_stray_target w.role w.arguments node) tree
  -- no node breaks a context rule that reads a finished tree as it reads a raw one
  pub rules : NoneFails breaks_rule tree
  -- no class has two constructors with bodies
  pub constructors : NoneFails (λ w node. has_second_constructor node) tree
  -- each leaf is spelled as its terminal reads it, and says what that says
  pub leaves : NoneFails is_misspelled tree
  -- nothing belongs to nothing inside an enum initialiser or a namespace body
  pub strays : first_stray tree ≡ None

-- the place that the code finds

-- no production gives such a node
abbrev pub is_misshapen : Node → Bool
is_misshapen node = is_short node || (is_dangling node || (is_loose node || is_misread node))

-- it does not stand where it may
abbrev pub is_misplaced : Where → Node → Bool
is_misplaced w node = is_out_of_role w.role node || (is_stray_target w.role w.arguments node || breaks_rule w node)

unfoldable pub is_unfit : Where → Node → Bool
is_unfit w node = is_misshapen node || (is_misplaced w node || not (is_spelled (is_tagged w.role) (kind_of node)))

-- the place of a node that is not what it has to be; or, in a class, that of its second constructor with a body
abbrev pub unfit_here : Where → Node → Option ℕ
unfit_here w node = least (failing_here (is_unfit w node) node) (second_constructor node)

abbrev pub first_unfit_in : Node → Where → Option ℕ
first_unfit_in = first_failing Where unfit_here where_in

-- the least place at which a node begins that is not what it has to be, or that belongs to nothing inside the enum initialiser or namespace
-- body around it; none where there is none
abbrev pub first_unfit : Node → Option ℕ
first_unfit tree = least (first_unfit_in tree at_top) (first_stray tree)
