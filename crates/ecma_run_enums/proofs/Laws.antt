-- The laws.
use Rattle.std.proofs.Common.{◌≡◌, refl, sym, ap, ap₂, ◌∙◌, List, [], ◌∷◌, Option, Some, None, Bool, true, false, not, ◌&&◌, ◌||◌, is_some}
use Rattle.std.proofs.lemmas.Bool.{false≢true}
use Rattle.ecma_kind.specs.declared.kind.Kind.{Kind}
use Rattle.ecma_kind.specs.declared.kind.Kind.TheVariants as kind
use Rattle.ecma_tree.specs.declared.node.Node.{Node}
use Rattle.ecma_runs.specs.State.{Id}
use Rattle.ecma_runs.specs.Enums.{Enums, Reading, Unknown, Constant, Expected, enum_of, is_enum, is_hidden, no_enums, reading}
use Rattle.ecma_run_enums.specs.Asking.{is_member, names_member, asks_by_name, is_known, are_none, knows_none, asks_as_enum, asks_here}
use Rattle.ecma_run_enums.specs.Laws.{UnaskedFactsDoNotMatter, NothingIsAskedOfNoEnums, UnnamedMembersDoNotMatter, WhatAsksNothingNamesNoMembers, NoNamesAreNoMembers}
use Rattle.ecma_run_enums.proofs.Two.{Two}
use Rattle.ecma_run_enums.proofs.Expressions.{Unnamed, Unasked}
use Rattle.ecma_run_enums.proofs.Nodes.{Silent}
use Rattle.ecma_run_enums.proofs.Asking.{both_true, answered_same, never_asks, less_asks}

-- ---- what the tests say of a node

neither_true : (a b : Bool) → a || b ≡ false → (a ≡ false) × (b ≡ false)
neither_true true b h = absurd (false≢true (sym h))
neither_true false b h = (refl, h)

none_is : {A : Type 0} (o : Option A) → is_some o ≡ false → o ≡ None
none_is None h = refl
none_is (Some a) h = absurd (false≢true (sym h))

unknown_is : (r : Reading) → is_known r ≡ false → r ≡ Unknown
unknown_is Unknown h = refl
unknown_is (Constant v) h = absurd (false≢true (sym h))
unknown_is (Expected v) h = absurd (false≢true (sym h))

empty_is : {A : Type 0} (as' : List A) → are_none as' ≡ true → as' ≡ []
empty_is [] h = refl
empty_is (a ∷ as') h = absurd (false≢true h)

enum_asks : (b c : Bool) → b && not c ≡ false → b ≡ true → c ≡ true
enum_asks b true h is = refl
enum_asks b false h is = absurd (false≢true (sym h ∙ ap (λ z. z && true) is))

-- of one of the two
pub record Quiet (enums : Enums) (node : Node) (k : Kind) : Type 0 where
  pub name : asks_by_name enums k ≡ false
  pub reads : reading enums node ≡ Unknown
  pub members : is_enum k ≡ true → enums.members ≡ []
  pub unwritten : is_enum k ≡ true → enums.unwritten ≡ []

quiet : (enums : Enums) (node : Node) (k : Kind) → asks_here enums k node ≡ false → Quiet enums node k
quiet enums node k h =
    let a = neither_true (asks_by_name enums k) (is_known (reading enums node) || asks_as_enum enums k) h in
    let b = neither_true (is_known (reading enums node)) (asks_as_enum enums k) a.1 in
    record {
      name = a.0;
      reads = unknown_is (reading enums node) b.0;
      members = λ is. empty_is enums.members (both_true (are_none enums.members) (are_none enums.unwritten) (enum_asks (is_enum k) (knows_none enums) b.1 is)).0;
      unwritten = λ is. empty_is enums.unwritten (both_true (are_none enums.members) (are_none enums.unwritten) (enum_asks (is_enum k) (knows_none enums) b.1 is)).1;
    }

module _ (t : Two) where
  unnamed : (id : Id) → is_member t.one id || is_hidden t.one id ≡ false → is_member t.other id || is_hidden t.other id ≡ false → Unnamed t id
  unnamed id h g =
      let a = neither_true (is_member t.one id) (is_hidden t.one id) h in
      let b = neither_true (is_member t.other id) (is_hidden t.other id) g in
      (none_is (enum_of id t.one.names) a.0, none_is (enum_of id t.other.names) b.0, a.1 ∙ sym b.1)

  quiet_name : (node : Node) (k : Kind) → asks_by_name t.one k ≡ false → asks_by_name t.other k ≡ false → Unasked t node kind.MemberExpr → Unasked t node k
  quiet_name node (kind.Ident sym' ctxt optional) h g reads = unnamed (record { sym = sym'; ctxt = ctxt }) h g
  quiet_name node kind.MemberExpr h g reads = reads
  quiet_name node k h g reads = tt

  silent : (node : Node) (k : Kind) → asks_here t.one k node ≡ false → asks_here t.other k node ≡ false → Silent t node k
  silent node k h g =
      let a = quiet t.one node k h in
      let b = quiet t.other node k g in
      let reads : Unasked t node kind.MemberExpr = a.reads ∙ sym b.reads in
      record { reads = reads; here = quiet_name node k a.name b.name reads; known = λ is. (a.members is ∙ sym (b.members is), a.unwritten is ∙ sym (b.unwritten is)) }

-- where no name is a member's

abbrev unnamed_in : Enums → Two
unnamed_in enums = record { one = enums; other = record enums { names = [] } }

plain_name : (enums : Enums) (node : Node) (k : Kind) → names_member enums k ≡ false → Unasked (unnamed_in enums) node k
plain_name enums node (kind.Ident sym' ctxt optional) h = (none_is (enum_of (record { sym = sym'; ctxt = ctxt }) enums.names) h, refl, refl)
plain_name enums node kind.MemberExpr h = refl
plain_name enums node k h = tt

plain : (enums : Enums) (node : Node) (k : Kind) → names_member enums k ≡ false → Silent (unnamed_in enums) node k
plain enums node k h = record { reads = refl; here = plain_name enums node k h; known = λ is. (refl, refl) }

-- ---- the laws

pub unasked_facts_do_not_matter : UnaskedFactsDoNotMatter
unasked_facts_do_not_matter enums other n h g = answered_same (record { one = enums; other = other }) (asks_here enums) (asks_here other) (silent (record { one = enums; other = other })) n h g

nothing_by_name : (b : Bool) (k : Kind) → asks_by_name (no_enums b) k ≡ false
nothing_by_name b (kind.Ident sym' ctxt optional) = refl
nothing_by_name b k = refl

and_false : (c : Bool) → c && false ≡ false
and_false true = refl
and_false false = refl

nothing_here : (b : Bool) (k : Kind) (n : Node) → asks_here (no_enums b) k n ≡ false
nothing_here b k n = ap₂ (λ p q. p || (false || q)) (nothing_by_name b k) (and_false (is_enum k))

pub nothing_is_asked_of_no_enums : NothingIsAskedOfNoEnums
nothing_is_asked_of_no_enums may_change n = never_asks (asks_here (no_enums may_change)) (nothing_here may_change) n

pub unnamed_members_do_not_matter : UnnamedMembersDoNotMatter
unnamed_members_do_not_matter enums n h = answered_same (unnamed_in enums) (λ k n. names_member enums k) (λ k n. names_member enums k) (λ node k a b. plain enums node k a) n h h

less_named : (enums : Enums) (k : Kind) → asks_by_name enums k ≡ false → names_member enums k ≡ false
less_named enums (kind.Ident sym' ctxt optional) h = (neither_true (is_member enums (record { sym = sym'; ctxt = ctxt })) (is_hidden enums (record { sym = sym'; ctxt = ctxt })) h).0
less_named enums k h = refl

pub what_asks_nothing_names_no_members : WhatAsksNothingNamesNoMembers
what_asks_nothing_names_no_members enums n = less_asks (asks_here enums) (λ k n. names_member enums k)
    (λ k n h. less_named enums k (neither_true (asks_by_name enums k) (is_known (reading enums n) || asks_as_enum enums k) h).0) n

no_member : (enums : Enums) → enums.names ≡ [] → (k : Kind) → names_member enums k ≡ false
no_member enums none (kind.Ident sym' ctxt optional) = ap (λ names. is_some (enum_of (record { sym = sym'; ctxt = ctxt }) names)) none
no_member enums none k = refl

pub no_names_are_no_members : NoNamesAreNoMembers
no_names_are_no_members enums n none = never_asks (λ k n. names_member enums k) (λ k n. no_member enums none k) n
