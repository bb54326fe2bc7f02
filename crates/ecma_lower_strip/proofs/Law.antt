-- Assignments are written before types are stripped or after.
use Rattle.std.proofs.Common.{◌≡◌, ◌∙◌, ℕ, ◌-◌, Bool, true, false, cond, codes, refl, sym, ap, ap₂, subst, List, [], ◌∷◌, map, filter, Option, Some, None}
use Rattle.std.specs.List.{list_any}
use Rattle.std.specs.Option.{option_map}
use Rattle.ecma_config.specs.declared.config.TsImportExportAssignConfig.{TsImportExportAssignConfig}
use Rattle.ecma_config.specs.declared.config.TsImportExportAssignConfig.TheVariants as way
use Rattle.ecma_kind.specs.declared.ident.Ident.{Ident}
use Rattle.ecma_kind.specs.declared.kind.Kind.TheVariants as kind
use Rattle.ecma_kind.specs.declared.operators.MetaPropKind.TheVariants.{ImportMeta}
use Rattle.ecma_kind.specs.declared.span.Span.{Span}
use Rattle.ecma_tree.specs.Idents.{ident_node}
use Rattle.ecma_tree.specs.Nodes.{absent, dummy_span, list_node, node_of}
use Rattle.ecma_tree.specs.Values.{value_by}
use Rattle.ecma_tree.specs.declared.node.Node.{Node, Node-F}
use Rattle.ecma_tree.specs.declared.node.Node.TheViews.{out-roll-Node}
use Rattle.ecma_utils.specs.Expressions.{call_of, key_of, member_of}
use Rattle.ecma_utils.specs.Quotes.{name_of, quoted_ident, text_of}
use Rattle.ecma_strip.specs.Staying.{is_declared, specifier_stays, stays}
use Rattle.ecma_strip.specs.Stripping.{plain, plain_children, plain_kind, stripped, without_empty}
use Rattle.ecma_strip_rewriting.specs.Commuting.{is_full}
use Rattle.ecma_strip_rewriting.proofs.Commuting.{stripped-absent}
use Rattle.ecma_strip_rewriting.proofs.PlainKinds.{full-roll, stripped-list, stripped-other}
use Rattle.ecma_strip_rewriting.proofs.Stays.{stays-roll}
use Rattle.ecma_lower.specs.declared.head.Head.{Head}
use Rattle.ecma_lower.specs.declared.names.Names.{Names}
use Rattle.ecma_lower.specs.declared.seat.Seat.TheVariants as seat
use Rattle.ecma_lower.specs.Assignments.{is_required_import}
use Rattle.ecma_lower.specs.Heads.{behind_directives, create_import, create_specifier, require_constant, url_of_module}
use Rattle.ecma_lower.specs.Items.{items_of}
use Rattle.ecma_lower.specs.Lowered.{headed, transformed}
use Rattle.ecma_lower.specs.Moving.{exports_last}
use Rattle.ecma_lower.specs.Names.{head_by, makes_require, names_of}
use Rattle.ecma_lower.specs.Writing.{with_assignments}
use Rattle.ecma_lower.proofs.Singles.{write}
use Rattle.ecma_lower_strip.specs.Converting.{lowered}
use Rattle.ecma_lower_strip.specs.Laws.{AssignmentsBeforeOrAfter, KeepsFront, in_front}
use Rattle.ecma_lower_strip.proofs.Items.{keeps, keeps-so}
use Rattle.ecma_lower_strip.proofs.Lists.{AreItems, bare, bare-is, bare-moved, bare-put, bare-requires, bare-written, front, front-bare-written, front-put, front-written, items-moved}
use Rattle.ecma_lower_strip.proofs.Modules.{as_list, as_module, module-form, module-in, module-items, module-written}
use Rattle.ecma_lower_strip.proofs.Plain.{PlainNames, constants, constants-last, is_front, plain-bound, plain-call, plain-constants, plain-key, plain-list, plain-member, plain-name, plain-node, plain-text}

-- ---- a module, by the list of its items

empty-roll : (place : Span) (ns : List Node) → without_empty (node_of place kind.List ns) ≡ node_of place kind.List (filter is_full ns)
empty-roll place ns = let parts : Node-F Node = record { span = place; kind = kind.List; children = ns } in ap (λ (z : Node-F Node). node_of z.span z.kind (filter is_full z.children)) (out-roll-Node parts)

-- the items behind their head, if they have one
abbrev with_front : Option Head → List Node → List Node
with_front None ns = ns
with_front (Some head) ns = behind_directives (create_import head.create) (behind_directives (require_constant head) ns)

module _ (span : Span) (shebang : Option (List ℕ)) (place : Span) where
  abbrev of_items : List Node → Node
  of_items = as_module span shebang place

  module-stripped : (ns : List Node) → stripped (of_items ns) ≡ of_items (bare ns)
  unfolding plain plain_kind plain_children
  module-stripped ns =
      stripped-other span (kind.Module shebang) (as_list span shebang place ns ∷ []) refl
      ∙ ap (λ z. node_of span (kind.Module shebang) (without_empty z ∷ [])) (stripped-list place ns)
      ∙ ap (λ z. node_of span (kind.Module shebang) (z ∷ [])) (empty-roll place (map stripped (filter stays ns)))
      ∙ ap of_items (bare-is ns)

  headed-module : (head : Option Head) (ns : List Node) → headed head (of_items ns) ≡ of_items (with_front head ns)
  headed-module None ns = refl
  headed-module (Some head) ns = module-in span shebang place (λ items. behind_directives (create_import head.create) (behind_directives (require_constant head) items)) ns

  transformed-module : (assign : TsImportExportAssignConfig) (unresolved : ℕ) (head : Option Head) (ns : List Node)
      → transformed assign unresolved head (of_items ns) ≡ of_items (with_front head (map (write (names_of assign unresolved head) seat.Item) (exports_last ns)))
  transformed-module assign unresolved head ns =
      let names = names_of assign unresolved head in
      ap (λ z. headed head (with_assignments names z)) (module-in span shebang place exports_last ns)
      ∙ ap (headed head) (module-written span shebang place names (exports_last ns))
      ∙ headed-module head (map (write names seat.Item) (exports_last ns))

  moved-front : (ns : List Node) → in_front (of_items ns) ≡ front (exports_last ns)
  moved-front ns = ap (λ z. front (items_of z)) (module-in span shebang place exports_last ns) ∙ ap front (module-items span shebang place (exports_last ns))

  makes-same : (assign : TsImportExportAssignConfig) (ns : List Node) → AreItems ns → makes_require assign (of_items (bare ns)) ≡ makes_require assign (of_items ns)
  makes-same way.NodeNext ns items = ap (list_any is_required_import) (module-items span shebang place (bare ns)) ∙ bare-requires ns items ∙ sym (ap (list_any is_required_import) (module-items span shebang place ns))
  makes-same _ ns items = refl

-- ---- the head

create-stays : (left : ℕ) → stays (create_specifier (head_by left).create) ≡ true
unfolding value_by is_declared specifier_stays
create-stays left = stays-roll dummy_span (kind.ImportNamedSpecifier false) (ident_node (head_by left).create ∷ name_of 0 dummy_span (codes "createRequire") ∷ [])

plain-specifier : (left : ℕ) → stripped (create_specifier (head_by left).create) ≡ create_specifier (head_by left).create
unfolding plain plain_kind plain_children
plain-specifier left =
    plain-node dummy_span (kind.ImportNamedSpecifier false) (ident_node (head_by left).create ∷ name_of 0 dummy_span (codes "createRequire") ∷ []) refl (λ ds. refl)
    ∙ ap₂ (λ a b. node_of dummy_span (kind.ImportNamedSpecifier false) (a ∷ b ∷ [])) (plain-name dummy_span (codes "_createRequire") left) (plain-name dummy_span (codes "createRequire") 0)

plain-import : (left : ℕ) → stripped (create_import (head_by left).create) ≡ create_import (head_by left).create
unfolding plain plain_kind plain_children
plain-import left =
    let specifier = create_specifier (head_by left).create in
    let text = text_of dummy_span (codes "module") in
    plain-node dummy_span (kind.ImportDecl false) (list_node (specifier ∷ []) ∷ text ∷ absent ∷ []) refl (λ ds. refl)
    ∙ ap (λ z. node_of dummy_span (kind.ImportDecl false) (z ∷ stripped text ∷ stripped absent ∷ [])) (plain-list specifier (create-stays left) ∙ ap (λ z. list_node (z ∷ [])) (plain-specifier left))
    ∙ ap₂ (λ a b. node_of dummy_span (kind.ImportDecl false) (list_node (specifier ∷ []) ∷ a ∷ b ∷ [])) (plain-text dummy_span (codes "module")) stripped-absent

import-stays : (left : ℕ) → stays (create_import (head_by left).create) ≡ true
unfolding value_by is_declared specifier_stays
import-stays left =
    stays-roll dummy_span (kind.ImportDecl false) (list_node (create_specifier (head_by left).create ∷ []) ∷ text_of dummy_span (codes "module") ∷ absent ∷ [])

import-full : (left : ℕ) → is_full (create_import (head_by left).create) ≡ true
import-full left =
    full-roll dummy_span (kind.ImportDecl false) (list_node (create_specifier (head_by left).create ∷ []) ∷ text_of dummy_span (codes "module") ∷ absent ∷ [])

import-kept : (left : ℕ) → keeps (create_import (head_by left).create) ≡ true
import-kept left = keeps-so (create_import (head_by left).create) (import-stays left) (ap is_full (plain-import left) ∙ import-full left)

url-stays : stays url_of_module ≡ true
unfolding value_by is_declared specifier_stays
url-stays = stays-roll dummy_span kind.MemberExpr (node_of dummy_span (kind.MetaPropExpr ImportMeta) [] ∷ key_of dummy_span (codes "url") ∷ [])

plain-url : stripped url_of_module ≡ url_of_module
unfolding plain plain_kind plain_children
plain-url =
    let meta = node_of dummy_span (kind.MetaPropExpr ImportMeta) [] in
    plain-member meta (key_of dummy_span (codes "url"))
    ∙ ap₂ member_of (plain-node dummy_span (kind.MetaPropExpr ImportMeta) [] refl (λ ds. refl)) (plain-key dummy_span (codes "url"))

plain-require : (left : ℕ) → stripped (require_constant (head_by left)) ≡ require_constant (head_by left)
plain-require left =
    let name = ident_node (head_by left).required in
    let create = ident_node (head_by left).create in
    let pattern = node_of dummy_span kind.BindingIdent (name ∷ absent ∷ []) in
    let call = call_of dummy_span create (url_of_module ∷ []) in
    plain-constants dummy_span pattern call
    ∙ ap₂ (constants dummy_span)
    (plain-bound dummy_span name ∙ ap (λ z. node_of dummy_span kind.BindingIdent (z ∷ absent ∷ [])) (plain-name dummy_span (codes "__require") (left - 1)))
    (plain-call create url_of_module url-stays ∙ ap₂ (λ a b. call_of dummy_span a (b ∷ [])) (plain-name dummy_span (codes "_createRequire") left) plain-url)

require-kept : (left : ℕ) → keeps (require_constant (head_by left)) ≡ true
require-kept left =
    let lasts = constants-last dummy_span (node_of dummy_span kind.BindingIdent (ident_node (head_by left).required ∷ absent ∷ [])) (call_of dummy_span (ident_node (head_by left).create) (url_of_module ∷ [])) in
    keeps-so (require_constant (head_by left)) lasts.stays (ap is_full (plain-require left) ∙ lasts.full)

require-behind : (left : ℕ) → is_front (require_constant (head_by left)) ≡ false
require-behind left =
    (constants-last dummy_span (node_of dummy_span kind.BindingIdent (ident_node (head_by left).required ∷ absent ∷ [])) (call_of dummy_span (ident_node (head_by left).create) (url_of_module ∷ []))).front

-- ---- items in their order, written and behind their head

abbrev made : ℕ → Bool → Option Head
made left b = cond b (Some (head_by left)) None

abbrev known : TsImportExportAssignConfig → ℕ → ℕ → Bool → Names
known assign unresolved left b = names_of assign unresolved (made left b)

ident-same : (f g : Ident) → Some f ≡ Some g → f ≡ g
ident-same f g e = cc

head-plain : (left : ℕ) (b : Bool) (f : Ident) → option_map (λ (h : Head). h.required) (made left b) ≡ Some f → f.optional ≡ false
head-plain left true f e = sym (ap (λ (z : Ident). z.optional) (ident-same (head_by left).required f e))
head-plain left false f e = cc

names-plain : (assign : TsImportExportAssignConfig) (unresolved left : ℕ) (b : Bool) → PlainNames (known assign unresolved left b)
names-plain way.Classic unresolved left b f e = sym (ap (λ (z : Ident). z.optional) (ident-same (quoted_ident unresolved dummy_span (codes "require")) f e))
names-plain way.Preserve unresolved left b f e = head-plain left b f e
names-plain way.NodeNext unresolved left b f e = head-plain left b f e
names-plain way.EsNext unresolved left b f e = head-plain left b f e

module _ (assign : TsImportExportAssignConfig) (unresolved left : ℕ) (ns : List Node) (items : AreItems ns) where
  abbrev ms : List Node
  ms = exports_last ns

  abbrev to : Bool → Node → Node
  to b = write (known assign unresolved left b) seat.Item

  -- without a head
  items-same : (b : Bool) → map (to b) (exports_last (bare ns)) ≡ bare (map (to b) ms)
  items-same b = ap (map (to b)) (sym (bare-moved ns items)) ∙ sym (bare-written (known assign unresolved left b) (names-plain assign unresolved left b) ms (items-moved ns items))

  -- as many directives stand in front of what is written without types as with them
  fronts-same : (b : Bool) → front (exports_last (bare ns)) ≡ front ms → front (bare (map (to b) ms)) ≡ front (map (to b) ms)
  fronts-same b f =
      let moved = items-moved ns items in
      let used = known assign unresolved left b in
      let plains = names-plain assign unresolved left b in
      ap front (bare-written used plains ms moved) ∙ front-bare-written used plains ms moved ∙ ap front (bare-moved ns items) ∙ f ∙ sym (front-written used plains ms moved)

  -- with one
  head-same : (zs : List Node) → front (bare zs) ≡ front zs → bare (with_front (Some (head_by left)) zs) ≡ with_front (Some (head_by left)) (bare zs)
  head-same zs f =
      let import = create_import (head_by left).create in
      let constant = require_constant (head_by left) in
      let inner = bare-put constant (plain-require left) (require-kept left) zs f in
      let outer-front = ap front inner ∙ front-put constant (bare zs) (require-behind left) ∙ f ∙ sym (front-put constant zs (require-behind left)) in
      bare-put import (plain-import left) (import-kept left) (behind_directives constant zs) outer-front ∙ ap (behind_directives import) inner

  all-same : (b : Bool) → (b ≡ true → front (exports_last (bare ns)) ≡ front ms)
      → with_front (made left b) (map (to b) (exports_last (bare ns))) ≡ bare (with_front (made left b) (map (to b) ms))
  all-same false f = items-same false
  all-same true f = ap (with_front (Some (head_by left))) (items-same true) ∙ sym (head-same (map (to true) ms) (fronts-same true (f refl)))

  module-law : (span : Span) (shebang : Option (List ℕ)) (place : Span) → KeepsFront assign (as_module span shebang place ns)
      → lowered assign unresolved left (stripped (as_module span shebang place ns)) ≡ stripped (lowered assign unresolved left (as_module span shebang place ns))
  module-law span shebang place keeps_front =
      let whole_of = as_module span shebang place in
      let b = makes_require assign (whole_of ns) in
      let head = made left b in
      let kept = λ (t : b ≡ true). sym (ap in_front (module-stripped span shebang place ns) ∙ moved-front span shebang place (bare ns)) ∙ keeps_front t ∙ moved-front span shebang place ns in
      ap (lowered assign unresolved left) (module-stripped span shebang place ns)
      ∙ ap (λ c. transformed assign unresolved (made left c) (whole_of (bare ns))) (makes-same span shebang place assign ns items)
      ∙ transformed-module span shebang place assign unresolved head (bare ns)
      ∙ ap whole_of (all-same b kept)
      ∙ sym (module-stripped span shebang place (with_front head (map (to b) ms)))
      ∙ ap stripped (sym (transformed-module span shebang place assign unresolved head ns))

pub assignments_before_or_after : AssignmentsBeforeOrAfter
assignments_before_or_after assign unresolved left tree h keeps_front =
    let form = module-form tree h in
    subst (λ z. KeepsFront assign z → lowered assign unresolved left (stripped z) ≡ stripped (lowered assign unresolved left z)) (sym form.4)
    (module-law assign unresolved left form.3 form.5 form.0 form.1 form.2) keeps_front
