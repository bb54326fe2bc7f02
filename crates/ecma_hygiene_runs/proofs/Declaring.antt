-- Each binding of a plain module is declared where the module runs.
use Rattle.std.proofs.Common.{◌≡◌, refl, sym, ap, ◌∙◌, subst, ℕ, suc, List, [], ◌∷◌, ◌++◌, map, length, Bool, true, false, cond, not, ◌&&◌, ◌||◌, eq-eqb, nat_eq, bytes_eq}
use Rattle.std.specs.List.{All, list_all, list_any}
use Rattle.std.proofs.lemmas.List.{append-nil}
use Rattle.std.proofs.lemmas.List.Elements.{All-append, All-cons, All-head, All-nil, All-tail}
use Rattle.ecma_kind.specs.declared.kind.Kind.{Kind}
use Rattle.ecma_kind.specs.declared.kind.Kind.TheVariants as kind
use Rattle.ecma_kind.specs.declared.shapes.Shape.{Shape}
use Rattle.ecma_kind.specs.declared.shapes.Sort.TheVariants as sort
use Rattle.ecma_kind.specs.declared.span.Span.{Span}
use Rattle.ecma_tree.specs.declared.node.Node.{Node, Node-F, fold-roll-Node, ind-Node, out-Node, roll-Node}
use Rattle.ecma_tree.specs.declared.node.Node.TheViews.{out-roll-Node}
use Rattle.ecma_tree.specs.Laws.{HaveShapes}
use Rattle.ecma_tree.specs.Sorted.{HasShape, allows, child_shapes, one}
use Rattle.ecma_scope.specs.declared.form.Sought.{Sought}
use Rattle.ecma_scope.specs.Resolved.{is_name}
use Rattle.ecma_scope.specs.Scopes.{opens}
use Rattle.ecma_hygiene.specs.declared.sight.Sight.{Sight}
use Rattle.ecma_hygiene.specs.Ids.{declares, is_name_part, scope_soughts, Id as HygieneId, same_id}
use Rattle.ecma_hygiene.specs.Sights.{Around, around_child, inner_soughts, nowhere, sight_by, sight_here, sights, sights_at}
use Rattle.ecma_hygiene.specs.Texts.{is_bound}
use Rattle.ecma_hygiene.specs.Walks.{gathered_from}
use Rattle.ecma_hygiene.proofs.Telling.{and-both, and-left, and-right, or-first, or-second, text-refl, true-false}
use Rattle.ecma_hygiene.proofs.Walking.{gathered-out}
use Rattle.ecma_hygiene_scopes.proofs.Membership.{id-same}
use Rattle.ecma_runs.specs.State.{Id}
use Rattle.ecma_runs.specs.Environment.{is_among}
use Rattle.ecma_runs.specs.Declarations.{has_no_effect}
use Rattle.ecma_runs.specs.Evaluation.{meaning, meaning_by, no_effect, role_by}
use Rattle.ecma_runs.proofs.Kept.{AllNodes}
use Rattle.ecma_runs.proofs.Layer.{meaning_out}
use Rattle.ecma_hygiene_runs.specs.Laws.{BindingsAreDeclared, PlainModulesAreResolved}
use Rattle.ecma_hygiene_runs.specs.OuterNames.{exports_import_by, has_no_exported_import, no_exported_import_step}
use Rattle.ecma_hygiene_runs.specs.Plain.{has_no_receiver, is_plain, is_plain_kind, plain_by, plain_step}
use Rattle.ecma_hygiene_runs.proofs.Covering.{Covered, Sub, cover, declared, is_last, layer, layer-covered, names, sub-join, sub-left, sub-none, sub-right, sub-same}
use Rattle.ecma_hygiene_runs.proofs.Last.{calm, inner-children, is_inner, last, lasts, layer_whole}
use Rattle.ecma_hygiene_runs.proofs.PlainEnums.{plain-lacks}
use Rattle.ecma_hygiene_runs.proofs.Seeking.{any_name, inner-name, may_name, soughts-name}
use Rattle.ecma_hygiene_runs.proofs.Sorted.{sorted_names_are_outer}
use Rattle.ecma_hygiene_runs.proofs.SortedNames.{shape_out}
use Rattle.ecma_tree.proofs.Layers.{from_leaves_out}

-- what a layer covers, its node does

paren-sub : (n e : Node) (named : Bool) → Sub (layer kind.ParenExpr (e ∷ []) named) ((meaning_by n kind.ParenExpr (map meaning (e ∷ []))).declared ++ cond named (meaning_by n kind.ParenExpr (map meaning (e ∷ []))).names [])
paren-sub n e true id h = sub-left (declared e) (names e) id (ap (is_among id) (sym (append-nil (declared e ++ []) ∙ append-nil (declared e))) ∙ h)
paren-sub n e false id h = ap (λ ids. is_among id (ids ++ [])) (sym (append-nil (declared e))) ∙ h

pub layer-sub : (n : Node) (k : Kind) (cs : List Node) (shape : Shape) (named : Bool) → is_plain_kind k ≡ true → has_no_effect k (map meaning cs) ≡ false → HaveShapes (child_shapes k shape (length cs)) cs
    → Sub (layer k cs named) ((meaning_by n k (map meaning cs)).declared ++ cond named (meaning_by n k (map meaning cs)).names [])
layer-sub n kind.ParenExpr (e ∷ []) shape named j f h = paren-sub n e named
layer-sub n kind.ParenExpr [] shape named j f h = absurd h
layer-sub n kind.ParenExpr (a ∷ b ∷ cs) shape named j f h = absurd h.1
layer-sub n kind.TsAsExpr cs shape named j f h = absurd (cc)
layer-sub n kind.TsTypeAssertion cs shape named j f h = absurd (cc)
layer-sub n kind.TsConstAssertion cs shape named j f h = absurd (cc)
layer-sub n kind.TsNonNullExpr cs shape named j f h = absurd (cc)
layer-sub n kind.TsInstantiation cs shape named j f h = absurd (cc)
layer-sub n kind.TsSatisfiesExpr cs shape named j f h = absurd (cc)
layer-sub n kind.TsTypeAnn cs shape named j f h = absurd (cc)
layer-sub n kind.TsTypeParamDecl cs shape named j f h = absurd (cc)
layer-sub n kind.TsTypeParamInstantiation cs shape named j f h = absurd (cc)
layer-sub n (kind.TsImportEqualsDecl x y) cs shape named j f h = absurd (cc)
layer-sub n (kind.TsEnumDecl x y) cs shape named j f h = absurd (cc)
layer-sub n kind.TsEnumMember cs shape named j f h = absurd (cc)
layer-sub n kind.TsQualifiedName (left ∷ right ∷ []) shape named j f h = sub-same (layer kind.TsQualifiedName (left ∷ right ∷ []) named) _ refl
layer-sub n k cs shape named j f h =
    sub-same (layer k cs named) _ (ap (λ b. (cond b (no_effect n) (role_by n k (map meaning cs))).declared ++ cond named (cond b (no_effect n) (role_by n k (map meaning cs))).names []) (sym f))

-- sights that declare

abbrev own_id : Sight → Id
own_id x = record { sym = x.id.0; ctxt = x.id.1 }

abbrev Declared : List Id → Sight → Type 0
Declared zs x = x.declares ≡ true → is_among (own_id x) zs ≡ true

all-sub : (zs ws : List Id) → Sub zs ws → (xs : List Sight) → All (Declared zs) xs → All (Declared ws) xs
all-sub zs ws f [] h = All-nil (Declared ws)
all-sub zs ws f (x ∷ xs) h = All-cons (Declared ws) x xs (λ d. f (own_id x) (All-head (Declared zs) x xs h d)) (all-sub zs ws f xs (All-tail (Declared zs) x xs h))

any-declares : (ss : List Sought) → list_any declares ss ≡ true → any_name ss ≡ true
any-declares [] h = h
any-declares (s ∷ ss) h = go (is_name_part s.part) refl (any-declares ss) h
  where
    go : (b : Bool) → is_name_part s.part ≡ b → (list_any declares ss ≡ true → any_name ss ≡ true) → (is_name_part s.part && s.stays) || list_any declares ss ≡ true → is_name_part s.part || any_name ss ≡ true
    go true e rec h = or-first (is_name_part s.part) (any_name ss) e
    go false e rec h = or-second (is_name_part s.part) (any_name ss) (rec (ap (λ b. (b && s.stays) || list_any declares ss) (sym e) ∙ h))

self-among : (id : Id) → is_among id (id ∷ []) ≡ true
self-among id = or-first _ false (and-both (bytes_eq id.sym id.sym) (nat_eq id.ctxt id.ctxt) (text-refl id.sym) (eq-eqb id.ctxt id.ctxt refl))

ident-declared : (n : Node) (text : List ℕ) (ctxt : ℕ) (optional : Bool) (cs : List Node) (shape : Shape) (b named : Bool) → HaveShapes (child_shapes (kind.Ident text ctxt optional) shape (length cs)) cs → (b ≡ true → named ≡ true) → b ≡ true
    → is_among (record { sym = text; ctxt = ctxt }) ((meaning_by n (kind.Ident text ctxt optional) (map meaning cs)).declared ++ cond named (meaning_by n (kind.Ident text ctxt optional) (map meaning cs)).names []) ≡ true
ident-declared n text ctxt optional [] shape b named h f e = ap (λ z. is_among (record { sym = text; ctxt = ctxt }) (cond z (record { sym = text; ctxt = ctxt } ∷ []) [])) (f e) ∙ self-among (record { sym = text; ctxt = ctxt })
ident-declared n text ctxt optional (c ∷ cs) shape b named h f e = absurd h

here-declared : (n : Node) (k : Kind) (cs : List Node) (shape : Shape) (other b named : Bool) (span : Span) → HaveShapes (child_shapes k shape (length cs)) cs → (b ≡ true → named ≡ true)
    → All (Declared ((meaning_by n k (map meaning cs)).declared ++ cond named (meaning_by n k (map meaning cs)).names [])) (sight_by other b span k)
here-declared n (kind.Ident text ctxt optional) cs shape false b named span h f =
    let zs = (meaning_by n (kind.Ident text ctxt optional) (map meaning cs)).declared ++ cond named (meaning_by n (kind.Ident text ctxt optional) (map meaning cs)).names [] in
    All-cons (Declared zs) _ [] (λ e. ident-declared n text ctxt optional cs shape b named h f e) (All-nil (Declared zs))
here-declared n (kind.Ident text ctxt optional) cs shape true b named span h f = All-nil (Declared _)
here-declared n _ cs shape true b named span h f = All-nil (Declared _)
here-declared n _ cs shape false b named span h f = All-nil (Declared _)

-- what a node covers, with what is declared behind all items
abbrev whole : Node → Bool → List Id
whole n named = cover n named ++ last n

abbrev Whole : Kind → Bool → List Id → ℕ → List Node → Type 0
Whole k named zs i [] = Unit {0}
Whole k named zs i (c ∷ cs) = Sub (whole c (may_name k i named)) zs × Whole k named zs (suc i) cs

whole-covered : (k : Kind) (named : Bool) (zs : List Id) (i : ℕ) (cs : List Node) → Covered k named zs i cs → AllNodes (λ c. Sub (last c) zs) cs → Whole k named zs i cs
whole-covered k named zs i [] h f = tt
whole-covered k named zs i (c ∷ cs) h f = (sub-join (cover c (may_name k i named)) (last c) zs h.0 f.0, whole-covered k named zs (suc i) cs h.1 f.1)

-- what is exported behind all items
last-whole : (n : Node) (k : Kind) (shape : Shape) (cs : List Node) (named : Bool) → is_last k ≡ true → HaveShapes (child_shapes k shape (length cs)) cs → Whole k named (layer_whole n k cs named) 0 cs
last-whole n kind.TsExportAssignment shape (e ∷ []) named is h =
    let zs = layer_whole n kind.TsExportAssignment (e ∷ []) named in
    (sub-join (declared e ++ []) (last e) zs (λ id i. sub-right (cond named [] []) (declared e) id (sub-same (declared e ++ []) (declared e) (append-nil (declared e)) id i)) (sub-none (last e) zs (calm e (one sort.Expr) refl h.0)), tt)
last-whole n kind.TsExportAssignment shape [] named is h = tt
last-whole n kind.TsExportAssignment shape (d ∷ e ∷ cs) named is h = absurd h.1
last-whole n _ shape cs named is h = absurd (cc)

abbrev Found : Node → Type 0
Found n = (s : Around) (named : Bool) (shape : Shape) → (any_name s.soughts ≡ true → named ≡ true) → is_inner shape ≡ true → HasShape shape n → is_plain n ≡ true → All (Declared (whole n named)) (sights_at n s)

abbrev FoundBelow : List Node → Type 0
FoundBelow cs = (shapes : List Shape) (around : ℕ → Around) (i : ℕ) (k : Kind) (named : Bool) (zs : List Id) → ((j : ℕ) → any_name (around j).soughts ≡ true → may_name k j named ≡ true)
    → list_all is_inner shapes ≡ true → HaveShapes shapes cs → list_all (λ b. b) (map is_plain cs) ≡ true → Whole k named zs i cs → All (Declared zs) (gathered_from Around Sight around i (map sights_at cs))

found-below : (ns : List ((n : Node) × Found n)) → FoundBelow (map (λ e. e.0) ns)
found-below [] shapes around i k named zs f inner h p c = All-nil (Declared zs)
found-below (n ∷ ns) [] around i k named zs f inner h p c = absurd h
found-below (n ∷ ns) (shape ∷ shapes) around i k named zs f inner h p c =
    let a = is_plain n.0 in
    let b = list_all (λ b. b) (map is_plain (map (λ e. e.0) ns)) in
    All-append (Declared zs) (sights_at n.0 (around i)) (gathered_from Around Sight around (suc i) (map sights_at (map (λ e. e.0) ns)))
    (all-sub (whole n.0 (may_name k i named)) zs c.0 (sights_at n.0 (around i)) (n.1 (around i) (may_name k i named) shape (f i) (and-left (is_inner shape) (list_all is_inner shapes) inner) h.0 (and-left a b p)))
    (found-below ns shapes around (suc i) k named zs f (and-right (is_inner shape) (list_all is_inner shapes) inner) h.1 (and-right a b p) c.1)

covered-sub : (k : Kind) (named : Bool) (zs ws : List Id) → Sub zs ws → (i : ℕ) (cs : List Node) → Covered k named zs i cs → Covered k named ws i cs
covered-sub k named zs ws f i [] h = tt
covered-sub k named zs ws f i (c ∷ cs) h = ((λ id e. f id (h.0 id e)), covered-sub k named zs ws f (suc i) cs h.1)

not-true : (b : Bool) → not b ≡ true → b ≡ false
not-true true h = absurd (cc)
not-true false h = refl

-- the children
whole-by : (n : Node) (k : Kind) (cs : List Node) (shape : Shape) (named : Bool) → is_inner shape ≡ true → allows shape k ≡ true → HaveShapes (child_shapes k shape (length cs)) cs → is_plain_kind k ≡ true
    → has_no_effect k (map meaning cs) ≡ false → has_no_receiver k cs ≡ true → Whole k named (layer_whole n k cs named) 0 cs
whole-by n k cs shape named inner a h own effect receiver = by (is_last k) refl
  where
    by : (b : Bool) → is_last k ≡ b → Whole k named (layer_whole n k cs named) 0 cs
    by true is = last-whole n k shape cs named is h
    by false is =
        let m = meaning_by n k (map meaning cs) in
        whole-covered k named (layer_whole n k cs named) 0 cs
        (covered-sub k named (layer k cs named) (layer_whole n k cs named) (λ id i. sub-left (m.declared ++ cond named m.names []) m.last_declared id (layer-sub n k cs shape named own effect h id i)) 0 cs
        (layer-covered k shape cs named own effect receiver h is))
        (lasts n k shape cs named inner a h)

below-by : (n : Node) (k : Kind) (cs : List Node) (shape : Shape) (named : Bool) (around : ℕ → Around) → FoundBelow cs → plain_by k cs ≡ true → is_inner shape ≡ true → allows shape k ≡ true
    → HaveShapes (child_shapes k shape (length cs)) cs → ((j : ℕ) → any_name (around j).soughts ≡ true → may_name k j named ≡ true) → list_all (λ b. b) (map is_plain cs) ≡ true
    → All (Declared (layer_whole n k cs named)) (gathered_from Around Sight around 0 (map sights_at cs))
below-by n k [] shape named around below p inner a h f all = All-nil (Declared _)
below-by n k (c ∷ cs) shape named around below p inner a h f all =
    let ms = map meaning (c ∷ cs) in
    let script = is_plain_kind k in
    let free = not (has_no_effect k ms) in
    let rest = and-right script (free && has_no_receiver k (c ∷ cs)) p in
    let effect = not-true (has_no_effect k ms) (and-left free (has_no_receiver k (c ∷ cs)) rest) in
    let own = and-left script (free && has_no_receiver k (c ∷ cs)) p in
    below (child_shapes k shape (length (c ∷ cs))) around 0 k named (layer_whole n k (c ∷ cs) named) f (inner-children k shape (length (c ∷ cs)) own inner) h all
    (whole-by n k (c ∷ cs) shape named inner a h own effect (and-right free (has_no_receiver k (c ∷ cs)) rest))

layer-found : (n : Node) → FoundBelow (out-Node n).children → Found n
layer-found n below s named shape f inner h p =
    let z = out-Node n in
    let t = shape_out shape n h in
    let a = plain_by z.kind z.children in
    let b = list_all (λ b. b) (map is_plain z.children) in
    let plain : a && b ≡ true = sym (from_leaves_out Bool plain_step n) ∙ p in
    let ms = map meaning z.children in
    let m = meaning_by n z.kind ms in
    let own = m.declared ++ cond named m.names [] in
    let zs = own ++ m.last_declared in
    let rest = gathered_from Around Sight (around_child s n) 0 (map sights_at z.children) in
    subst (λ m. All (Declared ((m.declared ++ cond named m.names []) ++ m.last_declared)) (sights_at n s)) (sym (meaning_out n))
    (subst (All (Declared zs)) (sym (gathered-out Around Sight sight_here around_child n s))
    (All-append (Declared zs) (sight_here s n) rest
    (all-sub own zs (sub-left own m.last_declared) (sight_here s n) (here-declared n z.kind z.children shape (is_name s.role) (list_any declares s.soughts) named z.span t.1 (λ e. f (any-declares s.soughts e))))
    (below-by n z.kind z.children shape named (around_child s n) below (and-left a b plain) inner t.0 t.1
    (λ j e. soughts-name (inner_soughts (opens s.role n) s.soughts (scope_soughts s.role z.kind)) n j named (λ q. inner-name (opens s.role n) s.soughts s.role z.kind named f q) e) (and-right a b plain))))

found : (n : Node) → Found n
found = ind-Node Found (λ x y is.
    layer-found (roll-Node x) (subst FoundBelow (ap (λ (z : Node-F Node). z.children) is ∙ sym (ap (λ (z : Node-F Node). z.children) (out-roll-Node x))) (found-below y.children)))

-- one that is bound is among them
bound-among : (zs : List Id) (id : HygieneId) (xs : List Sight) → All (Declared zs) xs → is_bound xs id ≡ true → is_among (record { sym = id.0; ctxt = id.1 }) zs ≡ true
bound-among zs id [] h e = absurd (true-false e refl)
bound-among zs id (x ∷ xs) h e = go (same_id x.id id && x.declares) refl (bound-among zs id xs (All-tail (Declared zs) x xs h)) e
  where
    go : (b : Bool) → same_id x.id id && x.declares ≡ b → (is_bound xs id ≡ true → is_among (record { sym = id.0; ctxt = id.1 }) zs ≡ true) → b || is_bound xs id ≡ true → is_among (record { sym = id.0; ctxt = id.1 }) zs ≡ true
    go true is rec e =
        subst (λ z. is_among (record { sym = z.0; ctxt = z.1 }) zs ≡ true) (id-same x.id id (and-left (same_id x.id id) x.declares is)) (All-head (Declared zs) x xs h (and-right (same_id x.id id) x.declares is))
    go false is rec e = rec e

pub bindings_are_declared : BindingsAreDeclared
bindings_are_declared tree h p id e =
    sub-join (cover tree false) (last tree) (declared tree) (sub-same (cover tree false) (declared tree) (append-nil (declared tree))) (sub-none (last tree) (declared tree) (calm tree (one sort.Module) refl h))
    (record { sym = id.0; ctxt = id.1 }) (bound-among (whole tree false) id (sights tree) (found tree nowhere false (one sort.Module) (λ f. f) refl h p) e)

-- a plain tree exports no import

unexported-by : (k : Kind) (cs : List Node) → plain_by k cs ≡ true → exports_import_by k ≡ false
unexported-by (kind.TsImportEqualsDecl true false) cs p = absurd (true-false p refl)
unexported-by _ cs p = refl

abbrev Unexported : Node → Type 0
Unexported n = is_plain n ≡ true → has_no_exported_import n ≡ true

all-unexported : (ns : List ((n : Node) × Unexported n)) → list_all (λ b. b) (map is_plain (map (λ e. e.0) ns)) ≡ true → list_all (λ b. b) (map has_no_exported_import (map (λ e. e.0) ns)) ≡ true
all-unexported [] p = refl
all-unexported (n ∷ ns) p =
    let a = is_plain n.0 in
    let b = list_all (λ b. b) (map is_plain (map (λ e. e.0) ns)) in
    and-both (has_no_exported_import n.0) (list_all (λ b. b) (map has_no_exported_import (map (λ e. e.0) ns))) (n.1 (and-left a b p)) (all-unexported ns (and-right a b p))

pub unexported : (n : Node) → Unexported n
unexported = ind-Node Unexported (λ x y is p.
    let a = plain_by x.kind x.children in
    let b = list_all (λ b. b) (map is_plain x.children) in
    let plain : a && b ≡ true = sym (ap (λ (z : Node-F Node). plain_by z.kind z.children && list_all (λ b. b) (map is_plain z.children)) (out-roll-Node x)) ∙ sym (from_leaves_out Bool plain_step (roll-Node x)) ∙ p in
    let below = subst (λ cs. list_all (λ b. b) (map is_plain cs) ≡ true → list_all (λ b. b) (map has_no_exported_import cs) ≡ true) (ap (λ (z : Node-F Node). z.children) is) (all-unexported y.children) in
    fold-roll-Node Bool no_exported_import_step x
    ∙ and-both (not (exports_import_by x.kind)) (list_all (λ b. b) (map has_no_exported_import x.children)) (ap not (unexported-by x.kind x.children (and-left a b plain))) (below (and-right a b plain)))

pub plain_modules_are_resolved : PlainModulesAreResolved
plain_modules_are_resolved tree h p o others =
    let sorted = sorted_names_are_outer tree h o (unexported tree p) in
    record {
      no_enums = plain-lacks tree p;
      named = sorted.named;
      keys = sorted.keys;
      bindings = λ id bound. (let other = others id bound in record { inner = other.0; declared = bindings_are_declared tree h p id bound; apart = other.1 });
    }
