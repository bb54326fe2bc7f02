-- The names of a node are among those that it looks up.
use Rattle.std.proofs.Common.{◌≡◌, refl, sym, ap, ◌∙◌, subst, List, [], ◌∷◌, ◌++◌, map, Bool, true, false, cond}
use Rattle.ecma_kind.specs.declared.kind.Kind.{Kind}
use Rattle.ecma_kind.specs.declared.kind.Kind.TheVariants as kind
use Rattle.ecma_tree.specs.declared.node.Node.{Node, Node-F, ind-Node, roll-Node}
use Rattle.ecma_hygiene.proofs.Telling.{true-false}
use Rattle.ecma_runs.specs.State.{Id}
use Rattle.ecma_runs.specs.Environment.{is_among}
use Rattle.ecma_runs.specs.Meaning.{Meaning}
use Rattle.ecma_runs.specs.Declarations.{all_names, has_no_effect}
use Rattle.ecma_runs.specs.Evaluation.{meaning, meaning_by, no_effect, role_by}
use Rattle.ecma_runs.specs.Sought.{Sought, all_sought, nothing_sought, role_sought, seeker, sought_by, sought_in}
use Rattle.ecma_runs.proofs.Layer.{meaning-roll}
use Rattle.ecma_runs.proofs.Seeking.{sought-roll}
use Rattle.ecma_hygiene_meeting.proofs.Among.{among-cases, among-left, among-right, either-of}

abbrev Named : Node → Type 0
Named n = (id : Id) → is_among id (meaning n).names ≡ true → is_among id (sought_in n).sought ≡ true

abbrev Children : Type 0
Children = List ((n : Node) × Named n)

abbrev nodes : Children → List Node
nodes ns = map (λ e. e.0) ns

first-named : (n : (n : Node) × Named n) (rest : List Id) (id : Id) → is_among id (meaning n.0).names ≡ true → is_among id ((sought_in n.0).sought ++ rest) ≡ true
first-named n rest id h = among-left id (sought_in n.0).sought rest (n.1 id h)

all-named : (ns : Children) (id : Id) → is_among id (all_names (map meaning (nodes ns))) ≡ true → is_among id (all_sought (map seeker (nodes ns))) ≡ true
all-named [] id h = h
all-named (n ∷ ns) id h =
    either-of (among-cases id (meaning n.0).names (all_names (map meaning (nodes ns))) h) (first-named n (all_sought (map seeker (nodes ns))) id)
    (λ g. among-right id (sought_in n.0).sought (all_sought (map seeker (nodes ns))) (all-named ns id g))

no-names : (b : Bool) (m m' : Meaning) → m.names ≡ [] → m'.names ≡ [] → (cond b m m').names ≡ []
no-names true m m' p q = p
no-names false m m' p q = q

-- what has an effect
effective : (b : Bool) (m m' : Meaning) (s : Sought) (id : Id) → m.names ≡ [] → (is_among id m'.names ≡ true → is_among id s.sought ≡ true) → is_among id (cond b m m').names ≡ true
    → is_among id (cond b nothing_sought s).sought ≡ true
effective true m m' s id none h e = absurd (true-false e (ap (is_among id) none))
effective false m m' s id none h e = h e

layer : (n : Node) (k : Kind) (ns : Children) (id : Id) → is_among id (meaning_by n k (map meaning (nodes ns))).names ≡ true → is_among id (sought_by k (map seeker (nodes ns))).sought ≡ true
layer n (kind.Ident text ctxt optional) [] id h = h
layer n (kind.Ident text ctxt optional) (x ∷ ns) id h = absurd (true-false h refl)
layer n kind.BindingIdent (name ∷ annotation ∷ []) id h = among-left id (meaning name.0).names (sought_in name.0).sought h
layer n (kind.VarDeclarator definite) (name ∷ init ∷ []) id h = first-named name _ id h
layer n kind.AssignPat (pattern' ∷ default ∷ []) id h = first-named pattern' _ id h
layer n (kind.ArrayPat optional) (elements ∷ type ∷ []) id h = first-named elements _ id h
layer n (kind.ObjectPat optional) (properties ∷ type ∷ []) id h = first-named properties _ id h
layer n kind.RestPat (pattern' ∷ type ∷ []) id h = first-named pattern' _ id h
layer n kind.KeyValuePatProp (key ∷ pattern' ∷ []) id h = among-right id (sought_in key.0).sought _ (first-named pattern' [] id h)
layer n kind.AssignPatProp (name ∷ default ∷ []) id h = first-named name _ id h
layer n kind.Param (pattern' ∷ []) id h =
    effective (meaning pattern'.0).is_this (no_effect n) (role_by n kind.Param (meaning pattern'.0 ∷ [])) (role_sought kind.Param (seeker pattern'.0 ∷ [])) id refl (first-named pattern' [] id) h
layer n (kind.TsParamProp accessibility is_override readonly) (pattern' ∷ []) id h = first-named pattern' [] id h
layer n kind.List ns id h = all-named ns id h
layer n kind.ParenExpr (e ∷ []) id h = e.1 id h
layer n kind.TsAsExpr (e ∷ type ∷ []) id h = e.1 id h
layer n kind.TsTypeAssertion (e ∷ type ∷ []) id h = e.1 id h
layer n kind.TsConstAssertion (e ∷ []) id h = e.1 id h
layer n kind.TsNonNullExpr (e ∷ []) id h = e.1 id h
layer n kind.TsInstantiation (e ∷ types ∷ []) id h = e.1 id h
layer n kind.TsSatisfiesExpr (e ∷ type ∷ []) id h = e.1 id h
layer n kind.TsQualifiedName (left ∷ right ∷ []) id h = absurd (true-false h refl)
layer n (kind.TsImportEqualsDecl false false) (name ∷ source ∷ []) id h = absurd (true-false h refl)
layer n (kind.TsImportEqualsDecl true false) (name ∷ source ∷ []) id h = absurd (true-false h (ap (is_among id) (no-names (meaning source.0).is_required _ _ refl refl)))
layer n (kind.TsEnumDecl false is_const) (name ∷ members ∷ []) id h = absurd (true-false h refl)
layer n kind.TsEnumMember (name ∷ init ∷ []) id h = absurd (true-false h refl)
layer n kind.TsTypeAnn ns id h = absurd (true-false h refl)
layer n kind.TsTypeParamDecl ns id h = absurd (true-false h refl)
layer n kind.TsTypeParamInstantiation ns id h = absurd (true-false h refl)
layer n k ns id h =
    let ms : List Meaning = map meaning (nodes ns) in absurd (true-false h (ap (is_among id) (no-names (has_no_effect k ms) (no_effect n) (role_by n k ms) refl refl)))

pub named : (n : Node) → Named n
named = ind-Node Named (λ x y is id h.
    let m : is_among id (meaning_by (roll-Node x) x.kind (map meaning x.children)).names ≡ true = ap (λ m. is_among id m.names) (sym (meaning-roll x)) ∙ h in
    ap (λ s. is_among id s.sought) (sought-roll x)
    ∙ subst (λ cs. is_among id (meaning_by (roll-Node x) x.kind (map meaning cs)).names ≡ true → is_among id (sought_by x.kind (map seeker cs)).sought ≡ true) (ap (λ (z : Node-F Node). z.children) is)
    (layer (roll-Node x) x.kind y.children id) m)
