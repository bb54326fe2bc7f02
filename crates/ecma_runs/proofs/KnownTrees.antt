-- What is known of the enums of trees that stand in no text, by computing.
use Rattle.std.proofs.Common.{◌≡◌, refl, sym, ap, ap₂, ◌∙◌, ℕ, ◌++◌, ◌||◌, ◌&&◌, not, cond, List, [], ◌∷◌, map, filter, get_or, Option, Some, None, Bool, true, false, Result, Ok, Err, if◌then◌else◌, slice_get}
use Rattle.std.specs.List.{flat_map}
use Rattle.std.specs.Option.{option_map_or, option_and_then}
use Rattle.ecma_config.specs.declared.config.Config.{Config}
use Rattle.ecma_kind.specs.declared.kind.Kind.{Kind}
use Rattle.ecma_kind.specs.declared.kind.Kind.TheVariants as kind
use Rattle.ecma_kind.specs.Sorts.{belongs}
use Rattle.ecma_kind.specs.declared.shapes.Sort.TheVariants as sort
use Rattle.ecma_tree.specs.declared.node.Node.{Node, Node-F, fold-roll-Node, roll-Node, out-Node}
use Rattle.ecma_tree.specs.declared.node.Node.TheViews.{out-roll-Node}
use Rattle.ecma_tree.specs.Sorted.{is_absent}
use Rattle.ecma_tree.specs.Values.{holds_ambient, is_function, is_value_where, value_by as value_of_kind}
use Rattle.ecma_tree.proofs.Layers.{from_leaves-roll}
use Rattle.ecma_tree.proofs.Valuing.{is_value_where-roll}
use Rattle.ecma_strip.specs.Staying.{stays, if_there, member_stays_by, specifier_stays, is_empty_stmt, is_declared, is_export, is_this, is_this_by, is_this_ident, is_this_param, is_this_param_by}
use Rattle.ecma_enums.specs.declared.computer.EnumValueComputer.{EnumValueComputer}
use Rattle.ecma_enums.specs.declared.error.EnumError.{EnumError}
use Rattle.ecma_enums.specs.declared.value.TsEnumRecordValue.{TsEnumRecordValue}
use Rattle.ecma_enums.specs.declared.value.TsEnumRecordValue.TheVariants as value
use Rattle.ecma_enums.specs.Declarations.{name_text, automatic, member_name, member_value}
use Rattle.ecma_enums.specs.Declarations as declared
use Rattle.ecma_enums.specs.Folded.{answer, binary_by, number_or_beyond}
use Rattle.ecma_enums.specs.Folding.{Folding, kid, read_by, value_by, folding_by, folding, folded}
use Rattle.ecma_enums.specs.Keys.{items_at, key_at, key_by, key_under, plain_text, cooked_text}
use Rattle.ecma_enums.specs.Names.{Name, name_by, name_under, name_at}
use Rattle.ecma_enums.specs.Values.{increased}
use Rattle.ecma_enums.specs.Walks.{Walk, in_order, with_entry, refusing, in_enum, walk_by, walked, at_first, with_answer}
use Rattle.ecma_runs.specs.State.{Id}
use Rattle.ecma_runs.specs.Environment.{is_among}
use Rattle.ecma_runs.specs.Enums.{Enums, MemberName, id_of, ids_of_name, named_member, named_members, members_named_by, constant_enum_by, default_by, number_name_by, free_context_of, found_in, bare_by, bare_node, bare, enums_in, Reading, reading, reading_among, sought_by, sought_read}
use Rattle.ecma_enums.specs.KnownReads.{value_of, known_by, known_read}
use Rattle.ecma_runs.specs.Sources.{unsourced}
use Rattle.ecma_runs.specs.Exports.{local_ids}
use Rattle.ecma_runs.specs.Evaluation.{meaning}
use Rattle.ecma_runs.specs.Observation.{enums_of, exports_in}
use Rattle.ecma_runs.proofs.Trees.{Trees, End, Tree, node, nodes, module'}

abbrev Layer : Kind → Trees → Node-F Node
Layer k below = record { span = record { lo = 0; hi = 0 }; kind = k; children = nodes below }

abbrev top : Kind → Trees → Node
top k below = roll-Node (Layer k below)

-- what is asked of a node's layer
at : {A : Type 0} (ask : Node-F Node → A) (k : Kind) (below : Trees) → ask (out-Node (top k below)) ≡ ask (Layer k below)
at ask k below = ap ask (out-roll-Node (Layer k below))

-- ---- names and keys

abbrev pub names_of : Trees → List (Option Name)
names_of End = []
names_of (Tree k below beside) = name_by k (names_of below) ∷ names_of beside

names_nodes : (ts : Trees) → map name_under (nodes ts) ≡ names_of ts
unfolding name_under
names_nodes End = refl
names_nodes (Tree k below beside) =
    ap₂ (λ a l. a ∷ l) (from_leaves-roll (Option Name) (λ n kids. name_by (out-Node n).kind kids) (Layer k below)
    ∙ ap₂ (λ (z : Node-F Node) kids. name_by z.kind kids) (out-roll-Node (Layer k below)) (names_nodes below)) (names_nodes beside)

name_is : (i : ℕ) (k : Kind) (below : Trees) → name_at (top k below) i ≡ get_or (names_of below) i None
name_is i k below = at (λ z. get_or (map name_under z.children) i None) k below ∙ ap (λ l. get_or l i None) (names_nodes below)

-- the text of a template without expressions
abbrev template_text : Trees → List (Option (List ℕ)) → Option (List ℕ)
template_text (Tree kind.List End (Tree kind.List (Tree (kind.TplElement raw cooked tail) below End) End)) kids = cooked
template_text below kids = key_by kind.Tpl (top kind.Tpl below) kids

abbrev key_of : Kind → Trees → List (Option (List ℕ)) → Option (List ℕ)
key_of kind.Tpl below kids = template_text below kids
key_of k below kids = key_by k (top k below) kids

abbrev pub keys_of : Trees → List (Option (List ℕ))
keys_of End = []
keys_of (Tree k below beside) = key_of k below (keys_of below) ∷ keys_of beside

listed : (k : Kind) (below : Trees) (i : ℕ) (under : Trees) → slice_get (nodes below) i ≡ Some (top kind.List under) → items_at (top k below) i ≡ nodes under
listed k below i under is =
    at (λ z. option_map_or (λ list. (out-Node list).children) (slice_get z.children i) []) k below ∙ (ap (λ o. option_map_or (λ list. (out-Node list).children) o []) is ∙ at (λ z. z.children) kind.List under)

template_is : (below : Trees) (kids : List (Option (List ℕ))) → key_by kind.Tpl (top kind.Tpl below) kids ≡ template_text below kids
unfolding key_by
template_is (Tree kind.List End (Tree kind.List (Tree (kind.TplElement raw cooked tail) below End) End)) kids =
    let part : Trees = Tree (kind.TplElement raw cooked tail) below End in
    let ts : Trees = Tree kind.List End (Tree kind.List part End) in
    ap₂ plain_text (listed kind.Tpl ts 0 End refl) (listed kind.Tpl ts 1 part refl) ∙ at (λ z. cooked_text z.kind) (kind.TplElement raw cooked tail) below
template_is below kids = refl

key_is : (k : Kind) (below : Trees) (kids : List (Option (List ℕ))) → key_by k (top k below) kids ≡ key_of k below kids
key_is kind.Tpl below kids = template_is below kids
key_is k below kids = refl

keys_nodes : (ts : Trees) → map key_under (nodes ts) ≡ keys_of ts
unfolding key_under
keys_nodes End = refl
keys_nodes (Tree k below beside) =
    ap₂ (λ a l. a ∷ l) (from_leaves-roll (Option (List ℕ)) (λ n kids. key_by (out-Node n).kind n kids) (Layer k below)
    ∙ (ap₂ (λ (z : Node-F Node) kids. key_by z.kind (top k below) kids) (out-roll-Node (Layer k below)) (keys_nodes below) ∙ key_is k below (keys_of below))) (keys_nodes beside)

-- ---- what stays in lists

abbrev values_of : Bool → Trees → List Bool
values_of b End = []
values_of b (Tree k below beside) = ((is_function k && not b) || value_of_kind k (values_of (not (holds_ambient k) && b) below)) ∷ values_of b beside

values_nodes : (b : Bool) (ts : Trees) → map (is_value_where b) (nodes ts) ≡ values_of b ts
values_nodes b End = refl
values_nodes b (Tree k below beside) =
    ap₂ (λ a l. a ∷ l) (is_value_where-roll b (record { lo = 0; hi = 0 }) k (nodes below) ∙ ap (λ l. (is_function k && not b) || value_of_kind k l) (values_nodes (not (holds_ambient k) && b) below)) (values_nodes b beside)

-- a declaration that the first tree is
abbrev declares : Trees → Bool
declares End = false
declares (Tree k below beside) = is_declared k

declares_is : (ts : Trees) → if_there (slice_get (nodes ts) 0) (λ n. is_declared (out-Node n).kind) ≡ declares ts
declares_is End = refl
declares_is (Tree k below beside) = at (λ z. is_declared z.kind) k below

abbrev names_this : Trees → Bool
names_this End = false
names_this (Tree k below beside) = is_this_ident k

abbrev this_of : Kind → Trees → Bool
this_of kind.BindingIdent ts = names_this ts
this_of k ts = false

this_is : (k : Kind) (below : Trees) → is_this (top k below) ≡ this_of k below
this_is k below = at (λ z. is_this_by z.kind (top k below)) k below ∙ by k below
  where
    by : (k : Kind) (below : Trees) → is_this_by k (top k below) ≡ this_of k below
    by kind.BindingIdent End = at (λ z. if_there (slice_get z.children 0) (λ n. is_this_ident (out-Node n).kind)) kind.BindingIdent End
    by kind.BindingIdent (Tree k below beside) = at (λ z. if_there (slice_get z.children 0) (λ n. is_this_ident (out-Node n).kind)) kind.BindingIdent (Tree k below beside) ∙ at (λ z. is_this_ident z.kind) k below
    by k below = refl

abbrev first_this : Trees → Bool
first_this End = false
first_this (Tree k below beside) = this_of k below

abbrev this_parameter : Kind → Trees → Bool
this_parameter kind.Param ts = first_this ts
this_parameter k ts = this_of k ts

parameter_is : (k : Kind) (below : Trees) → is_this_param (top k below) ≡ this_parameter k below
parameter_is k below = at (λ z. is_this_param_by z.kind (top k below)) k below ∙ by k below
  where
    by : (k : Kind) (below : Trees) → is_this_param_by k (top k below) ≡ this_parameter k below
    by kind.Param End = at (λ z. if_there (slice_get z.children 0) is_this) kind.Param End
    by kind.Param (Tree k below beside) = at (λ z. if_there (slice_get z.children 0) is_this) kind.Param (Tree k below beside) ∙ this_is k below
    by k below = this_is k below

abbrev item_remains : Kind → Trees → Bool
item_remains k below =
    cond (is_empty_stmt k) true
    (cond (belongs sort.ModuleItem k) (((is_function k && not true) || value_of_kind k (values_of (not (holds_ambient k) && true) below)) && not (cond (is_export k) (declares below) (is_declared k))) true)

abbrev remains : Kind → Trees → Bool
remains k below = item_remains k below && member_stays_by k (top k below) && specifier_stays k && not (this_parameter k below)

remains_is : (k : Kind) (below : Trees) → stays (top k below) ≡ remains k below
unfolding stays
remains_is k below =
    let value : is_value_where true (top k below) ≡ (is_function k && not true) || value_of_kind k (values_of (not (holds_ambient k) && true) below) =
    is_value_where-roll true (record { lo = 0; hi = 0 }) k (nodes below) ∙ ap (λ l. (is_function k && not true) || value_of_kind k l) (values_nodes (not (holds_ambient k) && true) below) in
    at (λ z. (cond (is_empty_stmt z.kind) true (cond (belongs sort.ModuleItem z.kind) (is_value_where true (top k below) && not (cond (is_export z.kind) (if_there (slice_get z.children 0) (λ n. is_declared (out-Node n).kind)) (is_declared z.kind))) true))
    && member_stays_by z.kind (top k below) && specifier_stays z.kind && not (is_this_param (top k below))) k below
    ∙ (ap₂ (λ v d. (cond (is_empty_stmt k) true (cond (belongs sort.ModuleItem k) (v && not (cond (is_export k) d (is_declared k))) true)) && member_stays_by k (top k below) && specifier_stays k && not (is_this_param (top k below))) value (declares_is below)
    ∙ ap (λ t. item_remains k below && member_stays_by k (top k below) && specifier_stays k && not t) (parameter_is k below))

abbrev one_remains : Bool → Kind → Trees → Trees → Trees
one_remains true k below beside = Tree k below beside
one_remains false k below beside = beside

abbrev remaining : Trees → Trees
remaining End = End
remaining (Tree k below beside) = one_remains (remains k below) k below (remaining beside)

one_is : (b : Bool) (k : Kind) (below rest : Trees) → cond b (top k below ∷ nodes rest) (nodes rest) ≡ nodes (one_remains b k below rest)
one_is true k below rest = refl
one_is false k below rest = refl

remaining_is : (ts : Trees) → filter stays (nodes ts) ≡ nodes (remaining ts)
remaining_is End = refl
remaining_is (Tree k below beside) =
    ap₂ (λ b l. cond b (top k below ∷ l) l) (remains_is k below) (remaining_is beside) ∙ one_is (remains k below) k below (remaining beside)

-- ---- bare trees

-- a layer whose children are bare, before others
abbrev bared : Kind → Trees → Trees → Trees
bared kind.List ts beside = Tree kind.List (remaining ts) beside
bared kind.TsTypeAnn ts beside = Tree kind.Absent End beside
bared kind.TsTypeParamDecl ts beside = Tree kind.Absent End beside
bared kind.TsTypeParamInstantiation ts beside = Tree kind.Absent End beside
bared kind.TsAsExpr (Tree k below (Tree l under End)) beside = Tree k below beside
bared kind.TsTypeAssertion (Tree k below (Tree l under End)) beside = Tree k below beside
bared kind.TsConstAssertion (Tree k below End) beside = Tree k below beside
bared kind.TsNonNullExpr (Tree k below End) beside = Tree k below beside
bared kind.TsInstantiation (Tree k below (Tree l under End)) beside = Tree k below beside
bared kind.TsSatisfiesExpr (Tree k below (Tree l under End)) beside = Tree k below beside
bared k ts beside = Tree k ts beside

bared_is : (k : Kind) (ts beside : Trees) → bare_by k (nodes ts) (Layer k ts) ∷ nodes beside ≡ nodes (bared k ts beside)
bared_is kind.List ts beside = ap (λ l. roll-Node (record { span = record { lo = 0; hi = 0 }; kind = kind.List; children = l }) ∷ nodes beside) (remaining_is ts)
bared_is kind.TsAsExpr (Tree k below (Tree l under End)) beside = refl
bared_is kind.TsTypeAssertion (Tree k below (Tree l under End)) beside = refl
bared_is kind.TsConstAssertion (Tree k below End) beside = refl
bared_is kind.TsNonNullExpr (Tree k below End) beside = refl
bared_is kind.TsInstantiation (Tree k below (Tree l under End)) beside = refl
bared_is kind.TsSatisfiesExpr (Tree k below (Tree l under End)) beside = refl
bared_is k ts beside = refl

abbrev pub bares : Trees → Trees
bares End = End
bares (Tree k below beside) = bared (unsourced k) (bares below) (bares beside)

bares_nodes : (ts : Trees) → map bare (nodes ts) ≡ nodes (bares ts)
bares_nodes End = refl
bares_nodes (Tree k below beside) =
    ap₂ (λ a l. a ∷ l) (fold-roll-Node Node bare_node (Layer k below) ∙ ap (λ l. bare_by (unsourced k) l (record { span = record { lo = 0; hi = 0 }; kind = unsourced k; children = l })) (bares_nodes below)) (bares_nodes beside)
    ∙ bared_is (unsourced k) (bares below) (bares beside)

-- ---- what is constant

module _ (c : EnumValueComputer) where
  abbrev folding_on : Kind → Trees → List Folding → Folding
  folding_on (kind.Number number raw) below kids = record { value = number_or_beyond 0 number; items = map (λ (f : Folding). f.value) kids }
  folding_on kind.MemberExpr below kids = record { value = read_by c (get_or (names_of below) 0 None) (get_or (keys_of below) 1 None); items = map (λ (f : Folding). f.value) kids }
  folding_on (kind.BinExpr op) below kids = record { value = binary_by 0 op (kid kids 0).value (kid kids 1).value; items = map (λ (f : Folding). f.value) kids }
  folding_on k below kids = record { value = value_by c k (top k below) kids; items = map (λ (f : Folding). f.value) kids }

  abbrev foldings : Trees → List Folding
  foldings End = []
  foldings (Tree k below beside) = folding_on k below (foldings below) ∷ foldings beside

  folding_by_kind : (k : Kind) (below : Trees) (kids : List Folding) → record { value = value_by c k (top k below) kids; items = map (λ (f : Folding). f.value) kids } ≡ folding_on k below kids
  unfolding value_by
  folding_by_kind (kind.Number number raw) below kids = at (λ z. record { value = number_or_beyond z.span.lo number; items = map (λ (f : Folding). f.value) kids }) (kind.Number number raw) below
  folding_by_kind kind.MemberExpr below kids =
      ap₂ (λ name key. record { value = read_by c name key; items = map (λ (f : Folding). f.value) kids }) (name_is 0 kind.MemberExpr below)
      (at (λ z. get_or (map key_under z.children) 1 None) kind.MemberExpr below ∙ ap (λ l. get_or l 1 None) (keys_nodes below))
  folding_by_kind (kind.BinExpr op) below kids = at (λ z. record { value = binary_by z.span.lo op (kid kids 0).value (kid kids 1).value; items = map (λ (f : Folding). f.value) kids }) (kind.BinExpr op) below
  folding_by_kind k below kids = refl

  folding_is : (k : Kind) (below : Trees) (kids : List Folding) → folding_by c (top k below) kids ≡ folding_on k below kids
  folding_is k below kids = at (λ z. record { value = value_by c z.kind (top k below) kids; items = map (λ (f : Folding). f.value) kids }) k below ∙ folding_by_kind k below kids

  foldings_nodes : (ts : Trees) → map (folding c) (nodes ts) ≡ foldings ts
  unfolding folding
  foldings_nodes End = refl
  foldings_nodes (Tree k below beside) =
      ap₂ (λ a l. a ∷ l) (from_leaves-roll Folding (folding_by c) (Layer k below) ∙ (ap (folding_by c (top k below)) (foldings_nodes below) ∙ folding_is k below (foldings below))) (foldings_nodes beside)

  folded_is : (k : Kind) (below : Trees) → folded c (top k below) ≡ (folding_on k below (foldings below)).value
  unfolding folding
  folded_is k below = ap (λ (f : Folding). f.value) (from_leaves-roll Folding (folding_by c) (Layer k below) ∙ (ap (folding_by c (top k below)) (foldings_nodes below) ∙ folding_is k below (foldings below)))

  -- the value of a member with these children
  abbrev initialised : Option TsEnumRecordValue → Bool → Kind → Trees → Result TsEnumRecordValue EnumError
  initialised next true k below = automatic 0 next
  initialised next false k below = answer (folding_on k below (foldings below)).value

  abbrev member_on : Option TsEnumRecordValue → Trees → Result TsEnumRecordValue EnumError
  member_on next (Tree k below (Tree l under End)) = initialised next (is_absent l) l under
  member_on next ts = member_value c next (top kind.TsEnumMember ts)

  initialiser_is : (next : Option TsEnumRecordValue) (b : Bool) (k : Kind) (below : Trees)
      → declared.value_by c next 0 (if not b then Some (top k below) else None) ≡ initialised next b k below
  initialiser_is next true k below = refl
  initialiser_is next false k below = ap answer (folded_is k below)

  member_is : (next : Option TsEnumRecordValue) (ts : Trees) → member_value c next (top kind.TsEnumMember ts) ≡ member_on next ts
  member_is next (Tree k below (Tree l under End)) =
      at (λ z. declared.value_by c next z.span.lo (option_and_then declared.if_there (slice_get z.children 1))) kind.TsEnumMember (Tree k below (Tree l under End))
      ∙ (at (λ z. declared.value_by c next 0 (if not (is_absent z.kind) then Some (top l under) else None)) l under ∙ initialiser_is next (is_absent l) l under)
  member_is next End = refl
  member_is next (Tree k below End) = refl
  member_is next (Tree k below (Tree l under (Tree m far beside))) = refl

-- ---- the walk

abbrev text_of : Trees → List ℕ
text_of End = []
text_of (Tree k below beside) = name_text k

text_is : (ts : Trees) → member_name (top kind.TsEnumMember ts) ≡ text_of ts
text_is End = at (λ z. option_map_or (λ name. name_text (out-Node name).kind) (slice_get z.children 0) []) kind.TsEnumMember End
text_is (Tree k below beside) =
    at (λ z. option_map_or (λ name. name_text (out-Node name).kind) (slice_get z.children 0) []) kind.TsEnumMember (Tree k below beside) ∙ at (λ z. name_text z.kind) k below

abbrev value_named : List ℕ → TsEnumRecordValue → Walk
value_named name v ambient s =
    record s { computer = with_entry s.computer (record { key = record { enum_id = s.computer.enum_id; member_name = name }; value = v; is_const = s.is_const }); next = increased v }

abbrev answer_named : List ℕ → Result TsEnumRecordValue EnumError → Walk
answer_named name (Ok v) ambient s = value_named name v ambient s
answer_named name (Err e) ambient s = value_named name value.Opaque ambient (refusing e s)

abbrev walk_on : Kind → Trees → List Walk → Walk
walk_on (kind.TsEnumDecl declare is_const) below walks ambient s = if declare || ambient then s else in_enum (get_or (names_of below) 0 None) is_const walks s
walk_on kind.TsEnumMember below walks ambient s = in_order walks ambient (answer_named (text_of below) (member_on s.computer s.next below) ambient s)
walk_on k below walks ambient s = walk_by k (top k below) walks ambient s

abbrev walks : Trees → List Walk
walks End = []
walks (Tree k below beside) = walk_on k below (walks below) ∷ walks beside

abbrev answer_at : Node → Result TsEnumRecordValue EnumError → Walk
answer_at n r ambient s = with_answer n r s

answered : (n : Node) (name : List ℕ) (r : Result TsEnumRecordValue EnumError) → member_name n ≡ name → answer_at n r ≡ answer_named name r
answered n name (Ok v) is = λ i ambient s. value_named (is i) v ambient s
answered n name (Err e) is = λ i ambient s. value_named (is i) value.Opaque ambient (refusing e s)

walk_is : (k : Kind) (below : Trees) (ws : List Walk) → walk_by k (top k below) ws ≡ walk_on k below ws
unfolding walk_by
walk_is (kind.TsEnumDecl declare is_const) below ws = λ i ambient s. if declare || ambient then s else in_enum (name_is 0 (kind.TsEnumDecl declare is_const) below i) is_const ws s
walk_is kind.TsEnumMember below ws = λ i ambient s. in_order ws ambient
    ((ap (λ r. answer_at (top kind.TsEnumMember below) r ambient s) (member_is s.computer s.next below)
    ∙ ap (λ (w : Walk). w ambient s) (answered (top kind.TsEnumMember below) (text_of below) (member_on s.computer s.next below) (text_is below))) i)
walk_is k below ws = refl

walks_nodes : (ts : Trees) → map walked (nodes ts) ≡ walks ts
unfolding walked
walks_nodes End = refl
walks_nodes (Tree k below beside) =
    ap₂ (λ a l. a ∷ l) (from_leaves-roll Walk (λ n ws. walk_by (out-Node n).kind n ws) (Layer k below)
    ∙ (ap₂ (λ (z : Node-F Node) ws. walk_by z.kind (top k below) ws) (out-roll-Node (Layer k below)) (walks_nodes below) ∙ walk_is k below (walks below))) (walks_nodes beside)

-- ---- what is found

module _ (A : Type 0) (here : Kind → Node → List A) (there : Kind → Trees → List A) (same : (k : Kind) (below : Trees) → here k (top k below) ≡ there k below) where
  abbrev founds : Trees → List (List A)
  founds End = []
  founds (Tree k below beside) = (there k below ++ flat_map (λ items. items) (founds below)) ∷ founds beside

  founds_nodes : (ts : Trees) → map (found_in A here) (nodes ts) ≡ founds ts
  founds_nodes End = refl
  founds_nodes (Tree k below beside) =
      ap₂ (λ a l. a ∷ l) (from_leaves-roll (List A) (λ n kids. here (out-Node n).kind n ++ flat_map (λ items. items) kids) (Layer k below)
      ∙ ap₂ (λ items kids. items ++ flat_map (λ items. items) kids) (at (λ z. here z.kind (top k below)) k below ∙ same k below) (founds_nodes below)) (founds_nodes beside)

abbrev members_named : Id → Trees → List MemberName
members_named of End = []
members_named of (Tree k below beside) = named_member of (get_or (names_of below) 0 None) ++ members_named of beside

members_is : (of : Id) (ts : Trees) → named_members of (nodes ts) ≡ members_named of ts
members_is of End = refl
members_is of (Tree k below beside) = ap₂ (λ o l. named_member of o ++ l) (name_is 0 k below) (members_is of beside)

abbrev names_there : Kind → Trees → List MemberName
names_there (kind.TsEnumDecl false is_const) (Tree k below (Tree l under End)) = option_map_or (λ name. members_named (id_of name) under) (name_by k (names_of below)) []
names_there k ts = members_named_by k (top k ts)

named_all : (o : Option Name) (l : Kind) (under : Trees) → option_map_or (λ name. named_members (id_of name) (out-Node (top l under)).children) o [] ≡ option_map_or (λ name. members_named (id_of name) under) o []
named_all None l under = refl
named_all (Some name) l under = at (λ z. named_members (id_of name) z.children) l under ∙ members_is (id_of name) under

pub names_same : (k : Kind) (ts : Trees) → members_named_by k (top k ts) ≡ names_there k ts
names_same (kind.TsEnumDecl false is_const) (Tree k below (Tree l under End)) =
    let ts : Trees = Tree k below (Tree l under End) in
    ap (λ o. option_map_or (λ name. named_members (id_of name) (items_at (top (kind.TsEnumDecl false is_const) ts) 1)) o []) (name_is 0 (kind.TsEnumDecl false is_const) ts)
    ∙ (at (λ z. option_map_or (λ name. named_members (id_of name) (option_map_or (λ list. (out-Node list).children) (slice_get z.children 1) [])) (name_by k (names_of below)) []) (kind.TsEnumDecl false is_const) ts
    ∙ named_all (name_by k (names_of below)) l under)
names_same k ts = refl

abbrev constants_there : Kind → Trees → List Id
constants_there (kind.TsEnumDecl false true) ts = ids_of_name (get_or (names_of ts) 0 None)
constants_there k ts = []

pub constants_same : (k : Kind) (ts : Trees) → constant_enum_by k (top k ts) ≡ constants_there k ts
constants_same (kind.TsEnumDecl false true) ts = ap ids_of_name (name_is 0 (kind.TsEnumDecl false true) ts)
constants_same k ts = refl

abbrev defaults_there : Kind → Trees → List Id
defaults_there kind.ExportDefaultExpr ts = ids_of_name (get_or (names_of ts) 0 None)
defaults_there k ts = []

pub defaults_same : (k : Kind) (ts : Trees) → default_by k (top k ts) ≡ defaults_there k ts
defaults_same kind.ExportDefaultExpr ts = ap ids_of_name (name_is 0 kind.ExportDefaultExpr ts)
defaults_same k ts = refl

abbrev numbers_there : Kind → Trees → List Id
numbers_there k ts = number_name_by k (top k ts)

-- ---- the whole

abbrev first_of : {A : Type 0} → List (List A) → List A
first_of ls = get_or ls 0 []

abbrev first_walk : List Walk → Walk
first_walk ws = get_or ws 0 (λ ambient s. s)

-- of a bare tree
abbrev pub enums_on : Config → List Id → List Id → Trees → Enums
enums_on options declared exported ts = record {
  members = (first_walk (walks ts) false (at_first (free_context_of declared (first_of (founds Id number_name_by numbers_there (λ k below. refl) ts))))).computer.members;
  names = first_of (founds MemberName members_named_by names_there names_same ts);
  unwritten = filter (λ id. not (options.verbatim_module_syntax || is_among id (exported ++ first_of (founds Id default_by defaults_there defaults_same ts)))) (first_of (founds Id constant_enum_by constants_there constants_same ts));
  may_change = options.ts_enum_is_mutable;
}

found_first : (A : Type 0) (here : Kind → Node → List A) (there : Kind → Trees → List A) (same : (k : Kind) (below : Trees) → here k (top k below) ≡ there k below) (n : Node) (ts : Trees) → nodes ts ≡ n ∷ []
    → found_in A here n ≡ first_of (founds A here there same ts)
found_first A here there same n ts is = ap (λ l. first_of (map (found_in A here) l)) (sym is) ∙ ap first_of (founds_nodes A here there same ts)

enums_first : (options : Config) (declared exported : List Id) (n : Node) (ts : Trees) → nodes ts ≡ n ∷ [] → enums_in options declared exported n ≡ enums_on options declared exported ts
enums_first options declared exported n ts is =
    let walk : walked n ≡ first_walk (walks ts) = ap (λ l. first_walk (map walked l)) (sym is) ∙ ap first_walk (walks_nodes ts) in
    λ i. record {
      members = (walk i false (at_first (free_context_of declared (found_first Id number_name_by numbers_there (λ k below. refl) n ts is i)))).computer.members;
      names = found_first MemberName members_named_by names_there names_same n ts is i;
      unwritten = filter (λ id. not (options.verbatim_module_syntax || is_among id (exported ++ found_first Id default_by defaults_there defaults_same n ts is i))) (found_first Id constant_enum_by constants_there constants_same n ts is i);
      may_change = options.ts_enum_is_mutable;
    }

-- of a module with this body
abbrev pub enums_by : Config → List Id → List Id → Trees → Enums
enums_by options declared exported body = enums_on options declared exported (bares (Tree (kind.Module None) (Tree kind.List body End) End))

pub known_enums : (options : Config) (body : Trees) → enums_of options (module' body) ≡ enums_by options (meaning (module' body)).declared (local_ids (exports_in (module' body))) body
unfolding node
known_enums options body =
    enums_first options (meaning (module' body)).declared (local_ids (exports_in (module' body))) (bare (module' body)) (bares (Tree (kind.Module None) (Tree kind.List body End) End))
    (sym (bares_nodes (Tree (kind.Module None) (Tree kind.List body End) End)))

-- ---- reads

abbrev pub reading_on : Enums → Trees → Reading
reading_on enums ts =
    reading_among enums.members (value_of true enums.members (get_or (names_of ts) 0 None) (get_or (keys_of ts) 1 None)) (value_of enums.may_change enums.members (get_or (names_of ts) 0 None) (get_or (keys_of ts) 1 None))

read_by_parts : (k : Kind) (b : Bool) (enums : Enums) (ts : Trees)
    → value_of b enums.members (name_at (top k ts) 0) (key_at (top k ts) 1) ≡ value_of b enums.members (get_or (names_of ts) 0 None) (get_or (keys_of ts) 1 None)
read_by_parts k b enums ts =
    ap₂ (value_of b enums.members) (name_is 0 k ts) (at (λ z. get_or (map key_under z.children) 1 None) k ts ∙ ap (λ l. get_or l 1 None) (keys_nodes ts))

read_known : (b : Bool) (enums : Enums) (ts : Trees) → known_read b enums.members (top kind.MemberExpr ts) ≡ value_of b enums.members (get_or (names_of ts) 0 None) (get_or (keys_of ts) 1 None)
read_known b enums ts = at (λ z. known_by b enums.members z.kind (top kind.MemberExpr ts)) kind.MemberExpr ts ∙ read_by_parts kind.MemberExpr b enums ts

pub reading_node : (enums : Enums) (below : Trees) → reading enums (node kind.MemberExpr below) ≡ reading_on enums (bares below)
unfolding node
reading_node enums below =
    let is : bare (node kind.MemberExpr below) ≡ top kind.MemberExpr (bares below) = ap (λ l. get_or l 0 (top kind.Absent End)) (bares_nodes (Tree kind.MemberExpr below End)) in
    ap (λ n. reading_among enums.members (known_read true enums.members n) (sought_read enums.may_change enums.members n)) is
    ∙ ap₂ (reading_among enums.members) (read_known true enums (bares below)) (at (λ z. sought_by enums.may_change enums.members z.kind (top kind.MemberExpr (bares below))) kind.MemberExpr (bares below) ∙ read_by_parts kind.MemberExpr enums.may_change enums (bares below))

--   import a = E.A;
abbrev pub dotted_on : Enums → Trees → Reading
dotted_on enums ts = reading_among enums.members None (value_of enums.may_change enums.members (get_or (names_of ts) 0 None) (get_or (keys_of ts) 1 None))

pub dotted_node : (enums : Enums) (below : Trees) → reading enums (node kind.TsQualifiedName below) ≡ dotted_on enums (bares below)
unfolding node
dotted_node enums below =
    let is : bare (node kind.TsQualifiedName below) ≡ top kind.TsQualifiedName (bares below) = ap (λ l. get_or l 0 (top kind.Absent End)) (bares_nodes (Tree kind.TsQualifiedName below End)) in
    ap (λ n. reading_among enums.members (known_read true enums.members n) (sought_read enums.may_change enums.members n)) is
    ∙ ap₂ (reading_among enums.members) (at (λ z. known_by true enums.members z.kind (top kind.TsQualifiedName (bares below))) kind.TsQualifiedName (bares below))
    (at (λ z. sought_by enums.may_change enums.members z.kind (top kind.TsQualifiedName (bares below))) kind.TsQualifiedName (bares below) ∙ read_by_parts kind.TsQualifiedName enums.may_change enums (bares below))
