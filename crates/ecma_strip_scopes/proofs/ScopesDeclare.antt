-- A scope declares without types what it declares as values that stay.
use Rattle.std.proofs.Common.{◌≡◌, Bool, true, false, not, cond, List, [], ◌++◌, map, refl, sym, ap, ap₂, ◌∙◌}
use Rattle.ecma_kind.specs.declared.kind.Kind.{Kind}
use Rattle.ecma_kind.specs.declared.kind.Kind.TheVariants as kind
use Rattle.ecma_kind.specs.declared.span.Span.{Span}
use Rattle.ecma_tree.specs.Nodes.{node_of}
use Rattle.ecma_tree.specs.declared.node.Node.{Node, out-Node}
use Rattle.ecma_scope.specs.declared.form.Part.TheVariants as part
use Rattle.ecma_scope.specs.declared.form.Sought.{Sought}
use Rattle.ecma_scope.specs.declared.role.Role.{Role}
use Rattle.ecma_scope.specs.Declarations.{holds_vars, own_part}
use Rattle.ecma_scope.specs.Scopes.{is_ambient, is_there, opens_by}
use Rattle.ecma_strip.specs.Stripping.{plain, plain_children, plain_kind, staying_nodes, stripped}
use Rattle.ecma_strip.proofs.Stripping.{stripped-out}
use Rattle.ecma_hygiene.proofs.Telling.{true-false}
use Rattle.ecma_hygiene_scopes.specs.DeclaredIds.{DeclaredId, ids_declared}
use Rattle.ecma_hygiene_scopes.proofs.Parts.{kind-of}
use Rattle.ecma_strip_scopes.specs.Laws.{ScopesDeclareWhatStays}
use Rattle.ecma_strip_scopes.specs.Standing.{is_clear}
use Rattle.ecma_strip_scopes.proofs.Declared.{what-stays-is-declared}
use Rattle.ecma_strip_scopes.proofs.Lasting.{lasting, lasting-append}

pub opened-plain : (r : Role) (k : Kind) (named : Bool) → opens_by r k named ≡ true → (span : Span) (cs : List Node) → plain span k cs ≡ node_of span (plain_kind k) (plain_children k cs)
unfolding opens_by plain
opened-plain r kind.TsTypeAnn named h span cs = absurd (true-false h refl)
opened-plain r kind.TsType named h span cs = absurd (true-false h refl)
opened-plain r kind.TsTypeParamDecl named h span cs = absurd (true-false h refl)
opened-plain r kind.TsTypeParamInstantiation named h span cs = absurd (true-false h refl)
opened-plain r kind.TsTypeAssertion named h span cs = absurd (true-false h refl)
opened-plain r kind.TsConstAssertion named h span cs = absurd (true-false h refl)
opened-plain r kind.TsNonNullExpr named h span cs = absurd (true-false h refl)
opened-plain r kind.TsAsExpr named h span cs = absurd (true-false h refl)
opened-plain r kind.TsInstantiation named h span cs = absurd (true-false h refl)
opened-plain r kind.TsSatisfiesExpr named h span cs = absurd (true-false h refl)
opened-plain r _ named h span cs = refl

pub vars-plain : (r : Role) (k : Kind) → holds_vars r (plain_kind k) ≡ holds_vars r k
unfolding plain_kind holds_vars
vars-plain r kind.BlockStmt = refl
vars-plain r _ = refl

cond-lasting : (t b : Bool) (xs ys : List DeclaredId) → (b ≡ true → xs ≡ lasting t ys) → cond b xs [] ≡ lasting t (cond b ys [])
cond-lasting t true xs ys h = h refl
cond-lasting t false xs ys h = refl

pub scopes-declare : ScopesDeclareWhatStays
scopes-declare t shape r n has opened calm clear =
    let m : Node = stripped n in
    let stays : Bool = not (is_ambient r) in
    let own : Sought = record { part = own_part r; stays = stays } in
    let var : Sought = record { part = part.Var; stays = stays } in
    let is : stays ≡ true = ap not calm in
    let cs : List Node = map stripped (staying_nodes (out-Node n).kind (out-Node n).children) in
    let kind_st : (out-Node m).kind ≡ plain_kind (out-Node n).kind = ap (λ (z : Node). (out-Node z).kind) (stripped-out n ∙ opened-plain r (out-Node n).kind (is_there (out-Node n).children 0) opened (out-Node n).span cs)
    ∙ kind-of (out-Node n).span (plain_kind (out-Node n).kind) (plain_children (out-Node n).kind cs) in
    ap₂ (λ (a b : List DeclaredId). a ++ b)
    (what-stays-is-declared t shape n own has is (ap (λ (b : Bool). is_clear t n (record { part = own_part r; stays = b })) is ∙ clear.own))
    (ap (λ (b : Bool). cond b (ids_declared m var) []) (ap (holds_vars r) kind_st ∙ vars-plain r (out-Node n).kind)
    ∙ cond-lasting t (holds_vars r (out-Node n).kind) (ids_declared m var) (ids_declared n var)
    (λ holds. what-stays-is-declared t shape n var has is (ap (λ (b : Bool). is_clear t n (record { part = part.Var; stays = b })) is ∙ clear.vars holds)))
    ∙ sym (lasting-append t (ids_declared n own) (cond (holds_vars r (out-Node n).kind) (ids_declared n var) []))
