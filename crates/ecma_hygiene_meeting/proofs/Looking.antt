-- What a node looks up is caught by no scope around, and in each record that it makes none is caught.
use Rattle.std.proofs.Common.{◌≡◌, inl, inr, refl, sym, ap, ◌∙◌, subst, ℕ, suc, List, [], ◌∷◌, ◌++◌, map, Option, Bool, true, false, cond, not, ◌&&◌, append-nil}
use Rattle.ecma_kind.specs.Sorts.{belongs}
use Rattle.ecma_kind.specs.declared.kind.Kind.{Kind}
use Rattle.ecma_kind.specs.declared.kind.Kind.TheVariants as kind
use Rattle.ecma_kind.specs.declared.shapes.Sort.TheVariants as sort
use Rattle.ecma_tree.specs.declared.node.Node.{Node, out-Node}
use Rattle.ecma_tree.specs.Sorted.{is_list}
use Rattle.ecma_scope.specs.declared.role.Role.{Role}
use Rattle.ecma_scope.specs.declared.role.Role.TheVariants as role
use Rattle.ecma_scope.specs.Declarations.{is_body}
use Rattle.ecma_scope.specs.Scopes.{covers, is_default, is_root, is_there, opens_by, role_by}
use Rattle.ecma_hygiene.specs.Ids.{Scope, innermost, is_block, is_body_block, is_function_body, is_own, nothing}
use Rattle.ecma_hygiene.specs.Renamed.{Texts}
use Rattle.ecma_hygiene.proofs.Telling.{and-both, and-left, or-left, or-right, or-second, true-false}
use Rattle.ecma_hygiene.proofs.Walking.{append-none}
use Rattle.ecma_runs.specs.State.{Id, default_name, Binding, same_id}
use Rattle.ecma_runs.specs.Environment.{except, ids_of, is_among}
use Rattle.ecma_runs.specs.Declarations.{all_parameter_names, has_no_effect, name_or_default}
use Rattle.ecma_runs.specs.Evaluation.{meaning, meaning_by, no_effect, role_by as role_meaning}
use Rattle.ecma_runs.specs.Meaning.{Meaning}
use Rattle.ecma_runs.specs.Sought.{Seeker, Sought, all_code_sought, all_sought, meanings, nothing_sought, outside_of, role_sought, seeker, sought_by, sought_by_body, sought_in, sought_of}
use Rattle.ecma_runs.specs.Meeting.{body_meets, catches_none, meets_by, met}
use Rattle.ecma_hygiene_meeting.specs.Records.{AreNoCode, HasMembers, IsBody, OneConstructor, declares_id, has_parts, has_record, is_constructor, record_names}
use Rattle.ecma_hygiene_meeting.specs.Texts.{KeepsFreeApart, TellsItsNames, sent, written}
use Rattle.ecma_hygiene_meeting.proofs.Among.{among-cases, among-one, and-false, and-true, catches-true, either-of, except-among, outside-both}
use Rattle.ecma_hygiene_meeting.proofs.Clear.{Known, StaysAt, Tells, catches-known, innermost-last, known-out, known-own, known-parameter, tells-child, tells-inner, tells-push}
use Rattle.ecma_hygiene_meeting.proofs.Naming.{named}
use Rattle.ecma_hygiene_meeting.proofs.Roles.{function-body, has_body, is_special, ordinary}

none-among : (b : Bool) (xs : List Id) (id : Id) → is_among id xs ≡ false → is_among id (cond b [] xs) ≡ false
none-among true xs id h = refl
none-among false xs id h = h

-- what has an effect
effective : (b : Bool) (s : Sought) (id : Id) → is_among id (cond b nothing_sought s).sought ≡ true → is_among id s.sought ≡ true
effective true s id h = absurd (true-false h refl)
effective false s id h = h

module _ (texts : Texts) (free : ℕ) (onto : ℕ → ℕ) (keeps : KeepsFreeApart onto free) (empty : StaysAt texts free 0) (own_free : StaysAt texts free free) where
  abbrev pub to : Id → Id
  to = sent onto texts

  abbrev pub K : List Scope → Id → Type 0
  K = Known texts free

  -- each of these ids is known in these scopes
  abbrev pub AllKnown : List Scope → List Id → Type 0
  AllKnown S ids = (id : Id) → is_among id ids ≡ true → K S id

  caught-none : (S : List Scope) → Tells texts free S → (ids inner : List Id) → AllKnown S ids → AllKnown S inner → catches_none to ids inner ≡ true
  caught-none = catches-known texts free onto keeps empty own_free

  both-known : (S : List Scope) (xs ys : List Id) → AllKnown S xs → AllKnown S ys → AllKnown S (xs ++ ys)
  both-known S xs ys f g id h = either-of (among-cases id xs ys h) (f id) (g id)

  none-known : (S : List Scope) → AllKnown S []
  none-known S id h = absurd (true-false h refl)

  -- a scope declares these names
  abbrev pub Declares : Scope → List Id → Type 0
  Declares own names = (id : Id) → declares_id own id ≡ is_among id names

  declared-known : (S : List Scope) (own : Scope) (names : List Id) → Declares own names → AllKnown (S ++ own ∷ []) names
  declared-known S own names is id h = known-own texts free S own id (is id ∙ h)

  -- what is looked up in it and is none of its names is known around it
  left-known : (S : List Scope) (own : Scope) (names inner : List Id) → Declares own names → AllKnown (S ++ own ∷ []) inner → AllKnown S (outside_of names inner)
  left-known S own names inner is f id h = let t = outside-both id names inner h in known-out texts free S own id (is id ∙ t.1) (f id t.0)

  all-out : (S : List Scope) (own : Scope) (b : Bool) (ids : List Id) → (b ≡ true → Declares own []) → AllKnown (cond b (S ++ own ∷ []) S) ids → AllKnown S ids
  all-out S own true ids none f id h = known-out texts free S own id (none refl id) (f id h)
  all-out S own false ids none f id h = f id h

  -- as the body of a function with parameters of these names
  pub record AsBody (S : List Scope) (names : List Id) (l : Seeker) : Type 0 where
    pub looks : AllKnown S (sought_by_body names l)
    pub meets : body_meets to names l ≡ true

  -- a scope with these names, in which what is looked up is known
  pub record Opened (S : List Scope) (names sought : List Id) : Type 0 where
    pub own : Scope
    pub tells : TellsItsNames texts own
    pub names_are : Declares own names
    pub looks : AllKnown (S ++ own ∷ []) sought

  -- what is shown of a node in a role and in scopes
  pub record Fine (r : Role) (S : List Scope) (n : Node) : Type 0 where
    pub looks : is_root r ≡ false → (is_body r && is_block (out-Node n).kind) ≡ false → AllKnown S (sought_in n).sought
    pub as_body : is_function_body r ≡ true → (names : List Id) → Declares (innermost S) names → AsBody S names (seeker n)
    pub as_constructor : is_constructor (out-Node n).kind ≡ true → Opened S (meaning n).parameter_names (sought_in n).code_sought
    pub as_members : is_list (out-Node n).kind ≡ true → OneConstructor (out-Node n).children → Opened S (meaning n).parameter_names (sought_in n).code_sought
    pub as_default : is_default r ≡ true → AllKnown S (meaning n).default_names
    pub meets : (met to n).meets ≡ true

  -- children, of which the first is the one at i
  abbrev pub Below : Role → List Scope → Scope → Bool → Kind → Bool → ℕ → List Node → Type 0
  Below r S own opened k there i [] = Unit {0}
  Below r S own opened k there i (c ∷ cs) = Fine (role_by r k there i) (cond (opened && covers r k i) (S ++ own ∷ []) S) c × Below r S own opened k there (suc i) cs

  -- a child in no role of its own
  plain : (S : List Scope) (c : Node) → Fine role.Plain S c → AllKnown S (sought_in c).sought
  plain S c fine = fine.looks refl refl

  plain-names : (S : List Scope) (c : Node) → Fine role.Plain S c → AllKnown S (meaning c).names
  plain-names S c fine id h = fine.looks refl refl id (named c id h)

  special-known : (r : Role) (S : List Scope) (c : Node) → is_special r ≡ false → Fine r S c → AllKnown S (sought_in c).sought
  special-known r S c h fine = fine.looks (or-left (is_root r) (is_body r) h) (ap (λ b. b && is_block (out-Node c).kind) (or-right (is_root r) (is_body r) h))

  no-code : (S : List Scope) (names sought : List Id) → names ≡ [] → sought ≡ [] → Opened S names sought
  no-code S names sought e f = record {
    own = nothing;
    tells = λ a b ea eb same. absurd (true-false ea refl);
    names_are = λ id. sym (ap (is_among id) e);
    looks = λ id h. absurd (true-false h (ap (is_among id) f));
  }

  none-code : (cs : List Node) → AreNoCode cs → (all_parameter_names (map meaning cs) ≡ []) × (all_code_sought (map seeker cs) ≡ [])
  none-code [] h = (refl, refl)
  none-code (c ∷ cs) h =
      let rest = none-code cs h.1 in
      (ap (λ z. z ++ all_parameter_names (map meaning cs)) h.0.0 ∙ rest.0, ap (λ z. z ++ all_code_sought (map seeker cs)) h.0.1 ∙ rest.1)

  module _ (r : Role) (S : List Scope) (own : Scope) (tells : Tells texts free S) where
    -- the code of a function: its parameters and its body
    module _ (names first : List Id) (b : Node) (own_names : TellsItsNames texts own) (is : Declares own names) (look : AllKnown (S ++ own ∷ []) first) (fine : Fine role.Body (S ++ own ∷ []) b) where
      called-body : AsBody (S ++ own ∷ []) names (seeker b)
      called-body = fine.as_body refl names (λ id. ap (λ z. declares_id z id) (innermost-last S own) ∙ is id)

      called-code : AllKnown (S ++ own ∷ []) (first ++ sought_by_body names (seeker b))
      called-code = both-known (S ++ own ∷ []) first (sought_by_body names (seeker b)) look called-body.looks

      called-catches : catches_none to names (first ++ sought_by_body names (seeker b)) ≡ true
      called-catches = caught-none (S ++ own ∷ []) (tells-push texts free S own tells own_names) names (first ++ sought_by_body names (seeker b)) (declared-known S own names is) called-code

      called-left : AllKnown S (outside_of names (first ++ sought_by_body names (seeker b)))
      called-left = left-known S own names (first ++ sought_by_body names (seeker b)) is called-code

    -- what children look up, where the scope declares nothing
    all-look : (k : Kind) (there opened : Bool) → has_body k ≡ false → (opened ≡ true → Declares own []) → (i : ℕ) (cs : List Node) → Below r S own opened k there i cs → AllKnown S (all_sought (map seeker cs))
    all-look k there opened e none i [] below = none-known S
    all-look k there opened e none i (c ∷ cs) below =
        both-known S (sought_in c).sought (all_sought (map seeker cs))
        (all-out S own (opened && covers r k i) (sought_in c).sought (λ h. none (and-left opened (covers r k i) h)) (special-known (role_by r k there i) _ c (ordinary r k there i e) below.0))
        (all-look k there opened e none (suc i) cs below.1)

    abbrev pub Agrees : Kind → List Node → Type 0
    Agrees k cs = has_record r k ≡ true → opens_by r k (is_there cs 0) ≡ true → Declares own (record_names r k (map meaning cs))

    abbrev pub OwnTold : Kind → List Node → Type 0
    OwnTold k cs = opens_by r k (is_there cs 0) ≡ true → TellsItsNames texts own

    abbrev pub Children : Kind → List Node → Type 0
    Children k cs = Below r S own (opens_by r k (is_there cs 0)) k (is_there cs 1) 0 cs

    abbrev pub Leaf : Kind → Type 0
    Leaf k = (text : List ℕ) (ctxt : ℕ) (optional : Bool) → k ≡ kind.Ident text ctxt optional → K S (record { sym = text; ctxt = ctxt })

    for-known : (init test update step : Node) → Below r S own true kind.ForStmt (is_there (init ∷ test ∷ update ∷ step ∷ []) 1) 0 (init ∷ test ∷ update ∷ step ∷ [])
        → AllKnown (S ++ own ∷ []) (all_sought (seeker init ∷ seeker test ∷ seeker update ∷ seeker step ∷ []))
    unfolding covers role_by
    for-known a b c d below =
        let T : List Scope = S ++ own ∷ [] in
        both-known T (sought_in a).sought (all_sought (seeker b ∷ seeker c ∷ seeker d ∷ [])) (plain T a below.0)
        (both-known T (sought_in b).sought (all_sought (seeker c ∷ seeker d ∷ [])) (plain T b below.1.0)
        (both-known T (sought_in c).sought (all_sought (seeker d ∷ [])) (plain T c below.1.1.0)
        (both-known T (sought_in d).sought [] (plain T d below.1.1.1.0) (none-known T))))

    known-if : (b : Bool) (id : Id) → (b ≡ true → declares_id own id ≡ false) → K (cond b (S ++ own ∷ []) S) id → K S id
    known-if true id none f = known-out texts free S own id (none refl) f
    known-if false id none f = f

    -- what a node looks up that has an effect
    looks-of : (k : Kind) (cs : List Node) → Agrees k cs → OwnTold k cs → Children k cs → Leaf k → HasMembers k cs → has_parts k cs ≡ true → is_root r ≡ false → (is_body r && is_block k) ≡ false
        → AllKnown S (sought_of k (map seeker cs))
    unfolding opens_by covers role_by
    looks-of (kind.Ident text ctxt optional) [] agree on below leaf m p root body = λ id h. subst (K S) (among-one (record { sym = text; ctxt = ctxt }) id h) (leaf text ctxt optional refl)
    looks-of kind.BindingIdent (name ∷ annotation ∷ []) agree on below leaf m p root body = both-known S (meaning name).names (sought_in name).sought (plain-names S name below.0) (plain S name below.0)
    looks-of kind.BlockStmt (statements ∷ []) agree on below leaf m p root body =
        let names : List Id = ids_of (meaning statements).lexicals in
        let all : List Id = ids_of ((meaning statements).vars ++ (meaning statements).lexicals) in
        left-known S own names (sought_in statements).sought (λ id. agree refl refl id ∙ ap (λ b. is_among id (cond b all names)) (sym (and-true (is_body r)) ∙ body)) (plain (S ++ own ∷ []) statements below.0)
    looks-of kind.ForStmt (init ∷ test ∷ update ∷ step ∷ []) agree on below leaf m p root body =
        left-known S own (ids_of (meaning init).lexicals) (all_sought (seeker init ∷ seeker test ∷ seeker update ∷ seeker step ∷ [])) (agree refl refl) (for-known init test update step below)
    looks-of kind.SwitchStmt (discriminant ∷ cases ∷ []) agree on below leaf m p root body =
        both-known S (sought_in discriminant).sought (outside_of (ids_of (meaning cases).lexicals) (sought_in cases).sought) (plain S discriminant below.0)
        (left-known S own (ids_of (meaning cases).lexicals) (sought_in cases).sought (agree refl refl) (plain (S ++ own ∷ []) cases below.1.0))
    looks-of kind.CatchClause (parameter ∷ block ∷ []) agree on below leaf m p root body =
        left-known S own (meaning parameter).names ((sought_in parameter).sought ++ (sought_in block).sought) (agree refl refl)
        (both-known (S ++ own ∷ []) (sought_in parameter).sought (sought_in block).sought (plain (S ++ own ∷ []) parameter below.0) (below.1.0.looks refl refl))
    looks-of kind.TsModuleBlock (items ∷ []) agree on below leaf m p root body =
        left-known S own (ids_of (except [] ((meaning items).vars ++ (meaning items).lexicals))) (sought_in items).sought (agree refl refl)
        (special-known _ (S ++ own ∷ []) items (ordinary r kind.TsModuleBlock (is_there (items ∷ []) 1) 0 refl) below.0)
    looks-of (kind.FnDecl false) (name ∷ function ∷ []) agree on below leaf m p root body =
        both-known S (meaning name).names (sought_in function).sought (plain-names S name below.0) (plain S function below.1.0)
    looks-of kind.FnExpr (name ∷ function ∷ []) agree on below leaf m p root body = λ id h.
        let t = outside-both id (meaning name).names (sought_in function).sought h in
        known-if (opens_by r kind.FnExpr (is_there (name ∷ function ∷ []) 0) && true) id (λ e. agree refl (and-left _ true e) id ∙ t.1) (plain _ function below.1.0 id t.0)
    looks-of (kind.ClassDecl false) (name ∷ class ∷ []) agree on below leaf m p root body =
        both-known S (meaning name).names (outside_of (meaning name).names (sought_in class).sought) (plain-names S name below.0)
        (λ id h. known-out texts free S own id (agree refl refl id) (plain (S ++ own ∷ []) class below.1.0 id (outside-both id (meaning name).names (sought_in class).sought h).0))
    looks-of kind.ClassExpr (name ∷ class ∷ []) agree on below leaf m p root body = λ id h.
        let t = outside-both id (meaning name).names (sought_in class).sought h in
        known-if (not (is_default r && false)) id (λ e. agree refl refl id ∙ none-among (is_default r) (meaning name).names id t.1) (plain _ class below.1.0 id t.0)
    looks-of (kind.Class is_abstract) (super ∷ members ∷ types ∷ super_types ∷ implements ∷ []) agree on below leaf m p root body =
        let code = below.1.0.as_members m.0 m.1 in
        both-known S (sought_in super).sought ((sought_in members).sought ++ outside_of (meaning members).parameter_names (sought_in members).code_sought) (plain S super below.0)
        (both-known S (sought_in members).sought (outside_of (meaning members).parameter_names (sought_in members).code_sought) (plain S members below.1.0)
        (left-known S code.own (meaning members).parameter_names (sought_in members).code_sought code.names_are code.looks))
    looks-of (kind.Function false false) (parameters ∷ block ∷ types ∷ return_type ∷ []) agree on below leaf m p root body =
        called-left (meaning parameters).names (sought_in parameters).sought block (on refl) (agree refl refl) (plain (S ++ own ∷ []) parameters below.0) below.1.0
    looks-of (kind.Function g a) cs agree on below leaf m p root body = none-known S
    looks-of (kind.ArrowExpr false false) (parameters ∷ block ∷ types ∷ return_type ∷ []) agree on below leaf m p root body =
        called-left (meaning parameters).names (sought_in parameters).sought block (on refl) (agree refl refl) (plain (S ++ own ∷ []) parameters below.0) below.1.0
    looks-of (kind.ArrowExpr a g) cs agree on below leaf m p root body = none-known S
    looks-of kind.GetterProp (key ∷ type ∷ block ∷ []) agree on below leaf m p root body =
        both-known S (sought_in key).sought (outside_of [] (sought_by_body [] (seeker block))) (plain S key below.0) (called-left [] [] block (on refl) (agree refl refl) (none-known (S ++ own ∷ [])) below.1.1.0)
    looks-of kind.GetterProp cs agree on below leaf m p root body = λ id h. absurd (true-false p refl)
    looks-of kind.SetterProp (key ∷ this_parameter ∷ parameter ∷ block ∷ []) agree on below leaf m p root body =
        both-known S (sought_in key).sought (outside_of (meaning parameter).names ((sought_in parameter).sought ++ sought_by_body (meaning parameter).names (seeker block))) (plain S key below.0)
        (called-left (meaning parameter).names (sought_in parameter).sought block (on refl) (agree refl refl) (plain (S ++ own ∷ []) parameter below.1.1.0) below.1.1.1.0)
    looks-of kind.SetterProp cs agree on below leaf m p root body = λ id h. absurd (true-false p refl)
    looks-of kind.ExportDefaultExpr (e ∷ []) agree on below leaf m p root body =
        both-known S (default_name ∷ []) (sought_in e).sought (λ id h. subst (K S) (among-one default_name id h) (inl refl))
        (subst (AllKnown S) (append-nil (sought_in e).sought) (all-look kind.ExportDefaultExpr (is_there (e ∷ []) 1) (opens_by r kind.ExportDefaultExpr (is_there (e ∷ []) 0)) refl (agree refl) 0 (e ∷ []) below))
    looks-of kind.ExportDefaultDecl (declaration ∷ []) agree on below leaf m p root body =
        both-known S (meaning declaration).default_names (sought_in declaration).sought (below.0.as_default refl) (below.0.looks refl refl)
    looks-of (kind.TsImportEqualsDecl is_export false) (name ∷ source ∷ []) agree on below leaf m p root body =
        both-known S ((meaning name).names ++ (sought_in name).sought) (sought_in source).sought
        (both-known S (meaning name).names (sought_in name).sought (plain-names S name below.0) (plain S name below.0)) (plain S source below.1.0)
    looks-of (kind.Constructor accessibility is_optional) cs agree on below leaf m p root body = none-known S
    looks-of kind.BreakStmt cs agree on below leaf m p root body = none-known S
    looks-of kind.ContinueStmt cs agree on below leaf m p root body = none-known S
    looks-of (kind.ImportDecl type_only) cs agree on below leaf m p root body = none-known S
    looks-of (kind.TsTypeAliasDecl declare) cs agree on below leaf m p root body = none-known S
    looks-of (kind.Module shebang) cs agree on below leaf m p root body = all-look (kind.Module shebang) (is_there cs 1) true refl (λ o. agree (ap not root) refl) 0 cs below
    looks-of (kind.Script shebang) cs agree on below leaf m p root body = none-known S
    looks-of kind.ForInStmt cs agree on below leaf m p root body = none-known S
    looks-of (kind.ForOfStmt is_await) cs agree on below leaf m p root body = none-known S
    looks-of kind.StaticBlock cs agree on below leaf m p root body = none-known S
    looks-of (kind.TsEnumDecl declare is_const) cs agree on below leaf m p root body = none-known S
    looks-of (kind.TsModuleDecl declare global) cs agree on below leaf m p root body = none-known S
    looks-of (kind.TsNamespaceDecl declare global) cs agree on below leaf m p root body = none-known S
    looks-of k cs agree on below leaf m p root body = all-look k (is_there cs 1) (opens_by r k (is_there cs 0)) refl (agree refl) 0 cs below

    -- and any node
    pub looks-by : (k : Kind) (cs : List Node) → Agrees k cs → OwnTold k cs → Children k cs → Leaf k → HasMembers k cs → has_parts k cs ≡ true → is_root r ≡ false → (is_body r && is_block k) ≡ false
        → AllKnown S (sought_by k (map seeker cs)).sought
    unfolding opens_by covers role_by
    looks-by kind.ParenExpr (e ∷ []) agree on below leaf m p root body = plain S e below.0
    looks-by kind.TsAsExpr (e ∷ type ∷ []) agree on below leaf m p root body = plain S e below.0
    looks-by kind.TsTypeAssertion (e ∷ type ∷ []) agree on below leaf m p root body = plain S e below.0
    looks-by kind.TsConstAssertion (e ∷ []) agree on below leaf m p root body = plain S e below.0
    looks-by kind.TsNonNullExpr (e ∷ []) agree on below leaf m p root body = plain S e below.0
    looks-by kind.TsInstantiation (e ∷ types ∷ []) agree on below leaf m p root body = plain S e below.0
    looks-by kind.TsSatisfiesExpr (e ∷ type ∷ []) agree on below leaf m p root body = plain S e below.0
    looks-by kind.TsTypeAnn cs agree on below leaf m p root body = none-known S
    looks-by kind.TsTypeParamDecl cs agree on below leaf m p root body = none-known S
    looks-by kind.TsTypeParamInstantiation cs agree on below leaf m p root body = none-known S
    looks-by k cs agree on below leaf m p root body = λ id h.
        looks-of k cs agree on below leaf m p root body id (effective (has_no_effect k (meanings (map seeker cs))) (role_sought k (map seeker cs)) id h)

    -- ---- default exports

    default-if : (b : Bool) → AllKnown S (cond b (default_name ∷ []) [])
    default-if true id h = subst (K S) (among-one default_name id h) (inl refl)
    default-if false id h = absurd (true-false h refl)

    named-known : (name : Node) → Fine role.Plain S name → AllKnown S (name_or_default (meaning name))
    named-known name fine = both-known S (cond (meaning name).is_absent (default_name ∷ []) []) (meaning name).names (default-if (meaning name).is_absent) (plain-names S name fine)

    if-effect : (n : Node) (k : Kind) (ms : List Meaning) (b : Bool) → AllKnown S (role_meaning n k ms).default_names → AllKnown S (cond b (no_effect n) (role_meaning n k ms)).default_names
    if-effect n k ms true known = none-known S
    if-effect n k ms false known = known

    function-scopes : (there b : Bool) → b ≡ true → cond ((there && not b) && true) (S ++ own ∷ []) S ≡ S
    function-scopes there b e = ap (λ z. cond ((there && not z) && true) (S ++ own ∷ []) S) e ∙ ap (λ z. cond (z && true) (S ++ own ∷ []) S) (and-false there)

    class-scopes : (b : Bool) → b ≡ true → cond (not (b && true)) (S ++ own ∷ []) S ≡ S
    class-scopes b e = ap (λ z. cond (not (z && true)) (S ++ own ∷ []) S) e

    -- a function or a class has its name around it
    pub default-by : (n : Node) (k : Kind) (cs : List Node) → Children k cs → is_default r ≡ true → belongs sort.DefaultDecl k ≡ true → AllKnown S (meaning_by n k (map meaning cs)).default_names
    unfolding opens_by covers role_by
    default-by n kind.FnExpr (name ∷ function ∷ []) below is e =
        if-effect n kind.FnExpr (meaning name ∷ meaning function ∷ []) (has_no_effect kind.FnExpr (meaning name ∷ meaning function ∷ []))
        (named-known name (subst (λ scopes. Fine role.Plain scopes name) (function-scopes (is_there (name ∷ function ∷ []) 0) (is_default r) is) below.0))
    default-by n kind.FnExpr cs below is e = none-known S
    default-by n kind.ClassExpr (name ∷ class ∷ []) below is e = named-known name (subst (λ scopes. Fine role.Plain scopes name) (class-scopes (is_default r) is) below.0)
    default-by n kind.ClassExpr cs below is e = none-known S
    default-by n (kind.TsInterfaceDecl declare) cs below is e = none-known S
    default-by n _ cs below is e = absurd (true-false e refl)

    -- ---- constructors

    if-there : (n : Node) (k : Kind) (cs : List Node) (b : Bool) → Opened S (role_meaning n k (map meaning cs)).parameter_names (role_sought k (map seeker cs)).code_sought
        → Opened S (cond b (no_effect n) (role_meaning n k (map meaning cs))).parameter_names (cond b nothing_sought (role_sought k (map seeker cs))).code_sought
    if-there n k cs true code = no-code S [] [] refl refl
    if-there n k cs false code = code

    pub constructor-by : (n : Node) (k : Kind) (cs : List Node) → Agrees k cs → OwnTold k cs → Children k cs → is_constructor k ≡ true
        → Opened S (meaning_by n k (map meaning cs)).parameter_names (sought_by k (map seeker cs)).code_sought
    unfolding opens_by covers role_by
    constructor-by n (kind.Constructor accessibility is_optional) (key ∷ parameters ∷ block ∷ []) agree on below e =
        if-there n (kind.Constructor accessibility is_optional) (key ∷ parameters ∷ block ∷ []) (meaning block).is_absent (record {
          own = own;
          tells = on refl;
          names_are = agree refl refl;
          looks = called-code (meaning parameters).names (sought_in parameters).sought block (on refl) (agree refl refl) (plain (S ++ own ∷ []) parameters below.1.0) below.1.1.0;
        })
    constructor-by n (kind.Constructor accessibility is_optional) cs agree on below e = no-code S [] [] refl refl
    constructor-by n _ cs agree on below e = absurd (true-false e refl)

    list-code : (there : Bool) (i : ℕ) (cs : List Node) → Below r S own false kind.List there i cs → OneConstructor cs → Opened S (all_parameter_names (map meaning cs)) (all_code_sought (map seeker cs))
    list-code there i [] below h = no-code S [] [] refl refl
    list-code there i (c ∷ cs) below (inl one) =
        let rest = list-code there (suc i) cs below.1 one.1 in
        record {
          own = rest.own;
          tells = rest.tells;
          names_are = λ id. rest.names_are id ∙ ap (λ z. is_among id (z ++ all_parameter_names (map meaning cs))) (sym one.0.0);
          looks = λ id h. rest.looks id (ap (λ z. is_among id (z ++ all_code_sought (map seeker cs))) (sym one.0.1) ∙ h);
        }
    list-code there i (c ∷ cs) below (inr one) =
        let code = below.0.as_constructor one.0 in
        let none = none-code cs one.1 in
        record {
          own = code.own;
          tells = code.tells;
          names_are = λ id. code.names_are id ∙ ap (is_among id) (sym (append-none (meaning c).parameter_names)) ∙ ap (λ z. is_among id ((meaning c).parameter_names ++ z)) (sym none.0);
          looks = λ id h. code.looks id (ap (is_among id) (sym (append-none (sought_in c).code_sought)) ∙ ap (λ z. is_among id ((sought_in c).code_sought ++ z)) (sym none.1) ∙ h);
        }

    pub members-by : (n : Node) (k : Kind) (cs : List Node) → Children k cs → is_list k ≡ true → OneConstructor cs → Opened S (meaning_by n k (map meaning cs)).parameter_names (sought_by k (map seeker cs)).code_sought
    unfolding opens_by
    members-by n kind.List cs below e one = list-code (is_there cs 1) 0 cs below one
    members-by n _ cs below e one = absurd (true-false e refl)

    -- ---- the module

    module-looks : (shebang : Option (List ℕ)) (there : Bool) (i : ℕ) (cs : List Node) → Below r S own true (kind.Module shebang) there i cs → AllKnown (S ++ own ∷ []) (all_sought (map seeker cs))
    unfolding covers role_by
    module-looks shebang there i [] below = none-known (S ++ own ∷ [])
    module-looks shebang there i (c ∷ cs) below =
        both-known (S ++ own ∷ []) (sought_in c).sought (all_sought (map seeker cs)) (plain (S ++ own ∷ []) c below.0) (module-looks shebang there (suc i) cs below.1)

    pub top-by : (k : Kind) (cs : List Node) → Children k cs → belongs sort.Module k ≡ true → AllKnown (S ++ own ∷ []) (sought_by k (map seeker cs)).sought
    unfolding opens_by
    top-by (kind.Module shebang) cs below e = module-looks shebang (is_there cs 1) 0 cs below
    top-by _ cs below e = absurd (true-false e refl)

    -- ---- a body

    -- of what a scope declares, with names that the parameters have
    abbrev pub RawAgrees : Kind → List Node → Type 0
    RawAgrees k cs = has_record r k ≡ true → opens_by r k (is_there cs 0) ≡ true → (id : Id) → declares_id own id ≡ is_among id (record_names r k (map meaning cs)) && is_own (is_body_block r k) (innermost S) (id.sym, id.ctxt)

    -- names of parameters and of the body are written as two
    abbrev pub ParametersTold : Kind → Type 0
    ParametersTold k = is_body_block r k ≡ true → (parameter name : Id) → declares_id (innermost S) parameter ≡ true → declares_id own name ≡ true → written texts parameter ≡ written texts name → ⊥

    pub simple : (k : Kind) (cs : List Node) → RawAgrees k cs → is_body_block r k ≡ false → Agrees k cs
    simple k cs raw e there o id =
        let names : List Id = record_names r k (map meaning cs) in
        raw there o id ∙ ap (λ b. is_among id names && is_own b (innermost S) (id.sym, id.ctxt)) e ∙ and-true (is_among id names)

    module _ (names : List Id) (bs : List Binding) (statements : Node) (own_names : TellsItsNames texts own) (is_names : Declares (innermost S) names) (is : Declares own (ids_of (except names bs)))
        (told : (parameter name : Id) → declares_id (innermost S) parameter ≡ true → declares_id own name ≡ true → written texts parameter ≡ written texts name → ⊥) (look : AllKnown (S ++ own ∷ []) (sought_in statements).sought) where
      local-told : (id other : Id) → is_among id (ids_of bs) ≡ true → is_among other names ≡ true → to other ≡ to id → (p : Bool) → is_among id names ≡ p → other ≡ id
      local-told id other i o e true h = tells-inner texts free S tells other id (is_names other ∙ o) (is_names id ∙ h) (ap (λ z. z.sym) e)
      local-told id other i o e false h =
          let declared : declares_id own id ≡ true = is id ∙ except-among id names bs ∙ and-both (is_among id (ids_of bs)) (not (is_among id names)) i (ap not h) in
          absurd (told other id (is_names other ∙ o) declared (ap (λ z. z.sym) e))

      block-meets : (catches_none to (ids_of (except names bs)) (sought_in statements).sought && catches_none to names (ids_of bs)) ≡ true
      block-meets =
          and-both (catches_none to (ids_of (except names bs)) (sought_in statements).sought) (catches_none to names (ids_of bs))
          (caught-none (S ++ own ∷ []) (tells-push texts free S own tells own_names) (ids_of (except names bs)) (sought_in statements).sought (declared-known S own (ids_of (except names bs)) is) look)
          (catches-true to names (ids_of bs) (λ id other i o e. local-told id other i o e (is_among id names) refl))

      block-looks : AllKnown S (outside_of (ids_of (except names bs)) (sought_in statements).sought)
      block-looks = left-known S own (ids_of (except names bs)) (sought_in statements).sought is look

    no-block-meets : (names sought : List Id) (locals : List Binding) → locals ≡ [] → (catches_none to (ids_of (except names locals)) sought && catches_none to names (ids_of locals)) ≡ true
    no-block-meets names sought locals e =
        subst (λ z. (catches_none to (ids_of (except names z)) sought && catches_none to names (ids_of z)) ≡ true) (sym e)
        (and-both (catches_none to [] sought) true (catches-true to [] sought (λ id other i o same. absurd (true-false o refl))) refl)

    pub body-by : (n : Node) (k : Kind) (cs : List Node) → seeker n ≡ record { meaning = meaning_by n k (map meaning cs); seeks = sought_by k (map seeker cs) } → RawAgrees k cs → OwnTold k cs → Children k cs → ParametersTold k
        → (is_block k ≡ false → AllKnown S (sought_in n).sought) → IsBody k cs n → is_function_body r ≡ true → (names : List Id) → Declares (innermost S) names → AsBody S names (seeker n)
    unfolding opens_by covers role_by
    body-by n kind.BlockStmt (statements ∷ []) same raw on below told looks is_body body names is_names =
        let bs : List Binding = (meaning statements).vars ++ (meaning statements).lexicals in
        let is : Declares own (ids_of (except names bs)) = λ id.
        raw refl refl id ∙ ap (λ b. is_among id (cond b (ids_of bs) (ids_of (meaning statements).lexicals)) && is_own (is_function_body r && true) (innermost S) (id.sym, id.ctxt)) (function-body r body)
        ∙ ap (λ b. is_among id (ids_of bs) && is_own (b && true) (innermost S) (id.sym, id.ctxt)) body
        ∙ ap (λ b. is_among id (ids_of bs) && not b) (is_names id) ∙ sym (except-among id names bs) in
        let apart = told (ap (λ b. b && true) body) in
        subst (AsBody S names) (sym same)
        (record { looks = block-looks names bs statements (on refl) is_names is apart (plain (S ++ own ∷ []) statements below.0); meets = block-meets names bs statements (on refl) is_names is apart (plain (S ++ own ∷ []) statements below.0) })
    body-by n k cs same raw on below told looks is_body body names is_names = record {
      looks = λ id h. looks is_body.0 id (ap (is_among id) (sym is_body.2) ∙ (outside-both id (ids_of (except names (meaning n).locals)) (sought_in n).body_sought h).0);
      meets = no-block-meets names (sought_in n).body_sought (meaning n).locals is_body.1;
    }

    -- ---- the records that a node makes

    -- the names that a block declares itself are known in it, also where they are names of parameters
    module _ (statements : Node) (told : ParametersTold kind.BlockStmt) where
      abbrev lexicals : List Id
      lexicals = ids_of (meaning statements).lexicals

      abbrev all_names : List Id
      all_names = ids_of ((meaning statements).vars ++ (meaning statements).lexicals)

      lexicals-among : (id : Id) (vars : List Binding) → is_among id lexicals ≡ true → is_among id (ids_of (vars ++ (meaning statements).lexicals)) ≡ true
      lexicals-among id [] h = h
      lexicals-among id (b ∷ vars) h = or-second (same_id b.id id) (is_among id (ids_of (vars ++ (meaning statements).lexicals))) (lexicals-among id vars h)

      in-names : (id : Id) → is_among id lexicals ≡ true → (b : Bool) → is_among id (cond b all_names lexicals) ≡ true
      in-names id i true = lexicals-among id (meaning statements).vars i
      in-names id i false = i

      abbrev HasNames : Id → Bool → Type 0
      HasNames id b = declares_id own id ≡ is_among id (cond (is_body r) all_names lexicals) && is_own (b && true) (innermost S) (id.sym, id.ctxt)

      block-by : (id : Id) → is_among id lexicals ≡ true → (b : Bool) → is_function_body r ≡ b → HasNames id b → (p : Bool) → declares_id (innermost S) id ≡ p → K (S ++ own ∷ []) id
      block-by id i false e is p f = known-own texts free S own id (is ∙ and-true (is_among id (cond (is_body r) all_names lexicals)) ∙ in-names id i (is_body r))
      block-by id i true e is false f =
          known-own texts free S own id (is ∙ and-both (is_among id (cond (is_body r) all_names lexicals)) (not (declares_id (innermost S) id)) (in-names id i (is_body r)) (ap not f))
      block-by id i true e is true f =
          known-parameter texts free S own id f (λ w. told (ap (λ b. b && true) e) id (record { sym = w.binding.0; ctxt = w.binding.1 }) f w.declared (sym w.is))

      block-known : ((id : Id) → HasNames id (is_function_body r)) → AllKnown (S ++ own ∷ []) lexicals
      block-known is id i = block-by id i (is_function_body r) refl (is id) (declares_id (innermost S) id) refl

    class-meets : (name class : Node) (b : Bool) → Declares own (cond b [] (meaning name).names) → TellsItsNames texts own → Fine role.Plain (cond (not (b && true)) (S ++ own ∷ []) S) name
        → Fine role.Plain (S ++ own ∷ []) class → catches_none to (meaning name).names ((meaning name).names ++ (sought_in class).sought) ≡ true
    class-meets name class true is own_names first second =
        caught-none S tells (meaning name).names ((meaning name).names ++ (sought_in class).sought) (plain-names S name first)
        (both-known S (meaning name).names (sought_in class).sought (plain-names S name first) (all-out S own true (sought_in class).sought (λ h. is) (plain (S ++ own ∷ []) class second)))
    class-meets name class false is own_names first second =
        let T : List Scope = S ++ own ∷ [] in
        caught-none T (tells-push texts free S own tells own_names) (meaning name).names ((meaning name).names ++ (sought_in class).sought) (plain-names T name first)
        (both-known T (meaning name).names (sought_in class).sought (plain-names T name first) (plain T class second))

    -- a class stands in its scope
    in-class : (b : Bool) (class : Node) → Fine role.Plain (cond (not (b && false)) (S ++ own ∷ []) S) class → Fine role.Plain (S ++ own ∷ []) class
    in-class true class fine = fine
    in-class false class fine = fine

    pub meets-of : (k : Kind) (cs : List Node) → RawAgrees k cs → OwnTold k cs → Children k cs → ParametersTold k → HasMembers k cs → meets_by to k (map seeker cs) ≡ true
    unfolding opens_by covers role_by
    meets-of (kind.Function false false) (parameters ∷ block ∷ types ∷ return_type ∷ []) raw on below told m =
        let agree = simple (kind.Function false false) (parameters ∷ block ∷ types ∷ return_type ∷ []) raw (and-false (is_function_body r)) in
        let names : List Id = (meaning parameters).names in
        let first : List Id = (sought_in parameters).sought in
        let look : AllKnown (S ++ own ∷ []) first = plain (S ++ own ∷ []) parameters below.0 in
        and-both (catches_none to names (first ++ sought_by_body names (seeker block))) (body_meets to names (seeker block))
        (called-catches names first block (on refl) (agree refl refl) look below.1.0) (called-body names first block (on refl) (agree refl refl) look below.1.0).meets
    meets-of (kind.Function g a) cs raw on below told m = refl
    meets-of (kind.ArrowExpr false false) (parameters ∷ block ∷ types ∷ return_type ∷ []) raw on below told m =
        let agree = simple (kind.ArrowExpr false false) (parameters ∷ block ∷ types ∷ return_type ∷ []) raw (and-false (is_function_body r)) in
        let names : List Id = (meaning parameters).names in
        let first : List Id = (sought_in parameters).sought in
        let look : AllKnown (S ++ own ∷ []) first = plain (S ++ own ∷ []) parameters below.0 in
        and-both (catches_none to names (first ++ sought_by_body names (seeker block))) (body_meets to names (seeker block))
        (called-catches names first block (on refl) (agree refl refl) look below.1.0) (called-body names first block (on refl) (agree refl refl) look below.1.0).meets
    meets-of (kind.ArrowExpr a g) cs raw on below told m = refl
    meets-of kind.GetterProp (key ∷ type ∷ block ∷ []) raw on below told m =
        let agree = simple kind.GetterProp (key ∷ type ∷ block ∷ []) raw (and-false (is_function_body r)) in
        and-both (catches_none to [] (sought_by_body [] (seeker block))) (body_meets to [] (seeker block))
        (called-catches [] [] block (on refl) (agree refl refl) (none-known (S ++ own ∷ [])) below.1.1.0) (called-body [] [] block (on refl) (agree refl refl) (none-known (S ++ own ∷ [])) below.1.1.0).meets
    meets-of kind.SetterProp (key ∷ this_parameter ∷ parameter ∷ block ∷ []) raw on below told m =
        let agree = simple kind.SetterProp (key ∷ this_parameter ∷ parameter ∷ block ∷ []) raw (and-false (is_function_body r)) in
        let names : List Id = (meaning parameter).names in
        let first : List Id = (sought_in parameter).sought in
        let look : AllKnown (S ++ own ∷ []) first = plain (S ++ own ∷ []) parameter below.1.1.0 in
        and-both (catches_none to names (first ++ sought_by_body names (seeker block))) (body_meets to names (seeker block))
        (called-catches names first block (on refl) (agree refl refl) look below.1.1.1.0) (called-body names first block (on refl) (agree refl refl) look below.1.1.1.0).meets
    meets-of (kind.Constructor accessibility is_optional) (key ∷ parameters ∷ block ∷ []) raw on below told m =
        let agree = simple (kind.Constructor accessibility is_optional) (key ∷ parameters ∷ block ∷ []) raw (and-false (is_function_body r)) in
        (called-body (meaning parameters).names (sought_in parameters).sought block (on refl) (agree refl refl) (plain (S ++ own ∷ []) parameters below.1.0) below.1.1.0).meets
    meets-of (kind.Class is_abstract) (super ∷ members ∷ types ∷ super_types ∷ implements ∷ []) raw on below told m =
        let code = below.1.0.as_members m.0 m.1 in
        caught-none (S ++ code.own ∷ []) (tells-push texts free S code.own tells code.tells) (meaning members).parameter_names (sought_in members).code_sought
        (declared-known S code.own (meaning members).parameter_names code.names_are) code.looks
    meets-of (kind.Class is_abstract) cs raw on below told m = refl
    meets-of kind.BlockStmt (statements ∷ []) raw on below told m =
        caught-none (S ++ own ∷ []) (tells-push texts free S own tells (on refl)) (ids_of (meaning statements).lexicals) (sought_in statements).sought
        (block-known statements told (raw refl refl)) (plain (S ++ own ∷ []) statements below.0)
    meets-of kind.ForStmt (init ∷ test ∷ update ∷ step ∷ []) raw on below told m =
        let agree = simple kind.ForStmt (init ∷ test ∷ update ∷ step ∷ []) raw (and-false (is_function_body r)) in
        caught-none (S ++ own ∷ []) (tells-push texts free S own tells (on refl)) (ids_of (meaning init).lexicals) (all_sought (seeker init ∷ seeker test ∷ seeker update ∷ seeker step ∷ []))
        (declared-known S own (ids_of (meaning init).lexicals) (agree refl refl))
        (for-known init test update step below)
    meets-of kind.SwitchStmt (discriminant ∷ cases ∷ []) raw on below told m =
        let agree = simple kind.SwitchStmt (discriminant ∷ cases ∷ []) raw (and-false (is_function_body r)) in
        caught-none (S ++ own ∷ []) (tells-push texts free S own tells (on refl)) (ids_of (meaning cases).lexicals) (sought_in cases).sought
        (declared-known S own (ids_of (meaning cases).lexicals) (agree refl refl)) (plain (S ++ own ∷ []) cases below.1.0)
    meets-of kind.CatchClause (parameter ∷ block ∷ []) raw on below told m =
        let agree = simple kind.CatchClause (parameter ∷ block ∷ []) raw (and-false (is_function_body r)) in
        let T : List Scope = S ++ own ∷ [] in
        caught-none T (tells-push texts free S own tells (on refl)) (meaning parameter).names ((sought_in parameter).sought ++ (sought_in block).sought)
        (declared-known S own (meaning parameter).names (agree refl refl))
        (both-known T (sought_in parameter).sought (sought_in block).sought (plain T parameter below.0) (below.1.0.looks refl refl))
    meets-of kind.TsModuleBlock (items ∷ []) raw on below told m =
        let agree = simple kind.TsModuleBlock (items ∷ []) raw (and-false (is_function_body r)) in
        let names : List Id = ids_of (except [] ((meaning items).vars ++ (meaning items).lexicals)) in
        caught-none (S ++ own ∷ []) (tells-push texts free S own tells (on refl)) names (sought_in items).sought (declared-known S own names (agree refl refl))
        (special-known _ (S ++ own ∷ []) items (ordinary r kind.TsModuleBlock (is_there (items ∷ []) 1) 0 refl) below.0)
    meets-of kind.FnExpr (name ∷ function ∷ []) raw on below told m =
        let b : Bool = opens_by r kind.FnExpr (is_there (name ∷ function ∷ []) 0) && true in
        let T : List Scope = cond b (S ++ own ∷ []) S in
        caught-none T (tells-child texts free b S own tells (λ e. on (and-left _ true e))) (meaning name).names ((meaning name).names ++ (sought_in function).sought) (plain-names T name below.0)
        (both-known T (meaning name).names (sought_in function).sought (plain-names T name below.0) (plain T function below.1.0))
    meets-of (kind.ClassDecl false) (name ∷ class ∷ []) raw on below told m =
        let agree = simple (kind.ClassDecl false) (name ∷ class ∷ []) raw (and-false (is_function_body r)) in
        class-meets name class true (agree refl refl) (on refl) below.0 below.1.0
    meets-of kind.ClassExpr (name ∷ class ∷ []) raw on below told m =
        let agree = simple kind.ClassExpr (name ∷ class ∷ []) raw (and-false (is_function_body r)) in
        class-meets name class (is_default r) (agree refl refl) (on refl) below.0 (in-class (is_default r) class below.1.0)
    meets-of k cs raw on below told m = refl
