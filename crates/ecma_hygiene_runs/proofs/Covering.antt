-- Each binding of a plain module is declared where the module runs: the names and what is declared of a node's parts are among those of the node.
use Rattle.std.proofs.Common.{◌≡◌, refl, sym, ap, ◌∙◌, subst, ℕ, suc, List, [], ◌∷◌, ◌++◌, map, length, Bool, true, false, cond, ◌||◌}
use Rattle.ecma_kind.specs.Sorts.{belongs}
use Rattle.ecma_kind.specs.declared.kind.Kind.{Kind}
use Rattle.ecma_kind.specs.declared.kind.Kind.TheVariants as kind
use Rattle.ecma_kind.specs.declared.shapes.Shape.{Shape}
use Rattle.ecma_kind.specs.declared.shapes.Sort.{Sort}
use Rattle.ecma_kind.specs.declared.shapes.Sort.TheVariants as sort
use Rattle.ecma_tree.specs.declared.node.Node.{Node, out-Node}
use Rattle.ecma_tree.specs.Laws.{HaveShapes}
use Rattle.ecma_tree.specs.Sorted.{HasShape, allows, child_shapes, is_absent, is_list, many, maybe, one}
use Rattle.ecma_hygiene.specs.Renamed.{kind_is_absent}
use Rattle.ecma_hygiene.proofs.Telling.{or-first, or-second, true-false}
use Rattle.ecma_runs.specs.State.{Id, same_id}
use Rattle.ecma_runs.specs.Environment.{is_among}
use Rattle.ecma_runs.specs.Meaning.{Meaning}
use Rattle.ecma_runs.specs.Declarations.{all_declared, all_names, declared_of, has_no_effect, names_of}
use Rattle.ecma_runs.specs.Evaluation.{meaning, meaning_by, no_effect, role_by}
use Rattle.ecma_runs.proofs.Kept.{AllNodes}
use Rattle.ecma_runs.proofs.Layer.{meaning_out}
use Rattle.ecma_hygiene_runs.specs.Plain.{has_no_receiver, is_plain_kind}
use Rattle.ecma_hygiene_runs.proofs.Seeking.{may_name}
use Rattle.ecma_hygiene_runs.proofs.SortedNames.{shape_out}

-- ids among others

abbrev pub Sub : List Id → List Id → Type 0
Sub xs ys = (id : Id) → is_among id xs ≡ true → is_among id ys ≡ true

pub sub-left : (xs ys : List Id) → Sub xs (xs ++ ys)
sub-left [] ys id h = absurd (cc)
sub-left (x ∷ xs) ys id h = go (same_id x id) (sub-left xs ys id) h
  where
    go : (b : Bool) → (is_among id xs ≡ true → is_among id (xs ++ ys) ≡ true) → b || is_among id xs ≡ true → b || is_among id (xs ++ ys) ≡ true
    go true rec h = refl
    go false rec h = rec h

pub sub-right : (xs ys : List Id) → Sub ys (xs ++ ys)
sub-right [] ys id h = h
sub-right (x ∷ xs) ys id h = or-second (same_id x id) (is_among id (xs ++ ys)) (sub-right xs ys id h)

pub sub-join : (xs ys zs : List Id) → Sub xs zs → Sub ys zs → Sub (xs ++ ys) zs
sub-join [] ys zs f g id h = g id h
sub-join (x ∷ xs) ys zs f g id h = go (same_id x id) refl (sub-join xs ys zs (λ id h. f id (or-second (same_id x id) (is_among id xs) h)) g id) h
  where
    go : (b : Bool) → same_id x id ≡ b → (is_among id (xs ++ ys) ≡ true → is_among id zs ≡ true) → b || is_among id (xs ++ ys) ≡ true → is_among id zs ≡ true
    go true e rec h = f id (or-first (same_id x id) (is_among id xs) e)
    go false e rec h = rec h

sub-then : (xs ys zs : List Id) → Sub xs ys → Sub ys zs → Sub xs zs
sub-then xs ys zs f g id h = g id (f id h)

sub-nil : (zs : List Id) → Sub [] zs
sub-nil zs id h = absurd (cc)

pub sub-same : (xs ys : List Id) → xs ≡ ys → Sub xs ys
sub-same xs ys e id h = ap (is_among id) (sym e) ∙ h

pub sub-none : (xs zs : List Id) → xs ≡ [] → Sub xs zs
sub-none xs zs e id h = absurd (true-false h (ap (is_among id) e))

-- what a node declares, and its names where it may have names that are declared

abbrev pub declared : Node → List Id
declared n = (meaning n).declared

abbrev pub names : Node → List Id
names n = (meaning n).names

abbrev pub cover : Node → Bool → List Id
cover n named = declared n ++ cond named (names n) []

cond-sub : (b : Bool) (xs zs : List Id) → (b ≡ true → Sub xs zs) → Sub (cond b xs []) zs
cond-sub true xs zs h = h refl
cond-sub false xs zs h = sub-nil zs

cover-sub : (c : Node) (b : Bool) (zs : List Id) → Sub (declared c) zs → (b ≡ true → Sub (names c) zs) → Sub (cover c b) zs
cover-sub c b zs f g = sub-join (declared c) (cond b (names c) []) zs f (cond-sub b (names c) zs g)

-- children, of which the first is the one at i
abbrev pub Covered : Kind → Bool → List Id → ℕ → List Node → Type 0
Covered k named zs i [] = Unit {0}
Covered k named zs i (c ∷ cs) = Sub (cover c (may_name k i named)) zs × Covered k named zs (suc i) cs

abbrev Unnamed : Kind → Bool → ℕ → List Node → Type 0
Unnamed k named i [] = Unit {0}
Unnamed k named i (c ∷ cs) = (may_name k i named ≡ false) × Unnamed k named (suc i) cs

all-unnamed : (k : Kind) (named : Bool) → ((i : ℕ) → may_name k i named ≡ false) → (i : ℕ) (cs : List Node) → Unnamed k named i cs
all-unnamed k named h i [] = tt
all-unnamed k named h i (c ∷ cs) = (h i, all-unnamed k named h (suc i) cs)

unnamed : (c : Node) (b : Bool) (zs : List Id) → b ≡ false → Sub (declared c) zs → Sub (cover c b) zs
unnamed c b zs e f = cover-sub c b zs f (λ is. absurd (true-false is e))

all-covered : (k : Kind) (named : Bool) (zs : List Id) (i : ℕ) (cs : List Node) → Unnamed k named i cs → AllNodes (λ c. Sub (declared c) zs) cs → Covered k named zs i cs
all-covered k named zs i [] h f = tt
all-covered k named zs i (c ∷ cs) h f = (unnamed c (may_name k i named) zs h.0 f.0, all-covered k named zs (suc i) cs h.1 f.1)

each-declared : (cs : List Node) (zs : List Id) → Sub (all_declared (map meaning cs)) zs → AllNodes (λ c. Sub (declared c) zs) cs
each-declared [] zs f = tt
each-declared (c ∷ cs) zs f =
    (λ id h. f id (sub-left (declared c) (all_declared (map meaning cs)) id h), each-declared cs zs (λ id h. f id (sub-right (declared c) (all_declared (map meaning cs)) id h)))

-- what declares nothing

alone-by : (n : Node) (k : Kind) (cs : List Node) → belongs sort.Ident k ≡ true → HaveShapes (child_shapes k (one sort.Ident) (length cs)) cs → (meaning_by n k (map meaning cs)).declared ≡ []
alone-by n (kind.Ident text ctxt optional) [] a h = refl
alone-by n (kind.Ident text ctxt optional) (c ∷ cs) a h = absurd h
alone-by n _ cs a h = absurd (cc)

ident-alone : (n : Node) → HasShape (one sort.Ident) n → declared n ≡ []
ident-alone n h = let s = shape_out (one sort.Ident) n h in ap (λ m. m.declared) (meaning_out n) ∙ alone-by n (out-Node n).kind (out-Node n).children s.0 s.1

maybe-ident : (n : Node) (k : Kind) (cs : List Node) → allows (maybe sort.Ident) k ≡ true → HaveShapes (child_shapes k (maybe sort.Ident) (length cs)) cs → (meaning_by n k (map meaning cs)).declared ≡ []
maybe-ident n kind.Absent cs a h = refl
maybe-ident n (kind.Ident text ctxt optional) [] a h = refl
maybe-ident n (kind.Ident text ctxt optional) (c ∷ cs) a h = absurd h
maybe-ident n _ cs a h = absurd (cc)

own-alone : (n : Node) → HasShape (maybe sort.Ident) n → declared n ≡ []
own-alone n h = let s = shape_out (maybe sort.Ident) n h in ap (λ m. m.declared) (meaning_out n) ∙ maybe-ident n (out-Node n).kind (out-Node n).children s.0 s.1

maybe-exported : (n : Node) (k : Kind) (cs : List Node) → allows (maybe sort.ModuleExportName) k ≡ true → HaveShapes (child_shapes k (maybe sort.ModuleExportName) (length cs)) cs → (meaning_by n k (map meaning cs)).declared ≡ []
maybe-exported n kind.Absent cs a h = refl
maybe-exported n (kind.Ident text ctxt optional) [] a h = refl
maybe-exported n (kind.Ident text ctxt optional) (c ∷ cs) a h = absurd h
maybe-exported n (kind.Str text raw) [] a h = refl
maybe-exported n (kind.Str text raw) (c ∷ cs) a h = absurd h
maybe-exported n _ cs a h = absurd (cc)

exported-alone : (n : Node) → HasShape (maybe sort.ModuleExportName) n → declared n ≡ []
exported-alone n h = let s = shape_out (maybe sort.ModuleExportName) n h in ap (λ m. m.declared) (meaning_out n) ∙ maybe-exported n (out-Node n).kind (out-Node n).children s.0 s.1

types-alone : (n : Node) → HasShape (maybe sort.TsTypeParamDecl) n → declared n ≡ []
types-alone n h = ap (λ m. m.declared) (meaning_out n) ∙ by (out-Node n).kind (out-Node n).children (shape_out (maybe sort.TsTypeParamDecl) n h).0
  where
    by : (k : Kind) (cs : List Node) → allows (maybe sort.TsTypeParamDecl) k ≡ true → (meaning_by n k (map meaning cs)).declared ≡ []
    by kind.Absent cs a = refl
    by kind.TsTypeParamDecl cs a = refl
    by _ cs a = absurd (cc)

type-alone : (n : Node) → HasShape (maybe sort.TsTypeAnn) n → declared n ≡ []
type-alone n h = ap (λ m. m.declared) (meaning_out n) ∙ by (out-Node n).kind (out-Node n).children (shape_out (maybe sort.TsTypeAnn) n h).0
  where
    by : (k : Kind) (cs : List Node) → allows (maybe sort.TsTypeAnn) k ≡ true → (meaning_by n k (map meaning cs)).declared ≡ []
    by kind.Absent cs a = refl
    by kind.TsTypeAnn cs a = refl
    by _ cs a = absurd (cc)

absent-alone : (n : Node) → kind_is_absent n ≡ true → declared n ≡ []
absent-alone n h = ap (λ m. m.declared) (meaning_out n) ∙ by (out-Node n).kind (out-Node n).children h
  where
    by : (k : Kind) (cs : List Node) → is_absent k ≡ true → (meaning_by n k (map meaning cs)).declared ≡ []
    by kind.Absent cs a = refl
    by _ cs a = absurd (cc)

-- the names of declarators and of parameters are declared

either-sub : (b : Bool) (m m' : Meaning) → Sub m.names m.declared → Sub m'.names m'.declared → Sub (cond b m m').names (cond b m m').declared
either-sub true m m' f g = f
either-sub false m m' f g = g

own-names : (n : Node) (k : Kind) (ms : List Meaning) → belongs sort.VarDeclarator k || belongs sort.ParamOrTsParamProp k ≡ true → Sub (meaning_by n k ms).names (meaning_by n k ms).declared
own-names n (kind.VarDeclarator d) (a ∷ b ∷ []) e = sub-left a.names (a.declared ++ b.declared)
own-names n (kind.VarDeclarator d) [] e = (λ id h. absurd (true-false h refl))
own-names n (kind.VarDeclarator d) (a ∷ []) e = (λ id h. absurd (true-false h refl))
own-names n (kind.VarDeclarator d) (a ∷ b ∷ c ∷ ms) e = (λ id h. absurd (true-false h refl))
own-names n kind.Param (a ∷ []) e = either-sub a.is_this (no_effect n) (role_by n kind.Param (a ∷ [])) ((λ id h. absurd (true-false h refl))) (sub-left a.names a.declared)
own-names n kind.Param [] e = (λ id h. absurd (true-false h refl))
own-names n kind.Param (a ∷ b ∷ ms) e = (λ id h. absurd (true-false h refl))
own-names n (kind.TsParamProp x y z) (a ∷ []) e = sub-left a.names a.declared
own-names n (kind.TsParamProp x y z) [] e = (λ id h. absurd (true-false h refl))
own-names n (kind.TsParamProp x y z) (a ∷ b ∷ ms) e = (λ id h. absurd (true-false h refl))
own-names n _ ms e = absurd (cc)

abbrev OwnNames : Node → Type 0
OwnNames n = Sub (names n) (declared n)

all-own-names : (cs : List Node) → AllNodes OwnNames cs → Sub (all_names (map meaning cs)) (all_declared (map meaning cs))
all-own-names [] h = sub-nil []
all-own-names (c ∷ cs) h =
    let rest = all_declared (map meaning cs) in
    sub-join (names c) (all_names (map meaning cs)) (declared c ++ rest) (λ id e. sub-left (declared c) rest id (h.0 id e)) (λ id e. sub-right (declared c) rest id (all-own-names cs h.1 id e))

list-names : (n : Node) (k : Kind) (cs : List Node) → is_list k ≡ true → AllNodes OwnNames cs → Sub (meaning_by n k (map meaning cs)).names (meaning_by n k (map meaning cs)).declared
list-names n kind.List cs e h = all-own-names cs h
list-names n _ cs e h = absurd (cc)

module _ (σ : Sort) (named : (k : Kind) → belongs σ k ≡ true → belongs sort.VarDeclarator k || belongs sort.ParamOrTsParamProp k ≡ true) where
  items-own : (cs : List Node) → HaveShapes (child_shapes kind.List (many σ) (length cs)) cs → AllNodes OwnNames cs
  items-own [] h = tt
  items-own (c ∷ cs) h =
      (subst (λ m. Sub m.names m.declared) (sym (meaning_out c)) (own-names c (out-Node c).kind (map meaning (out-Node c).children) (named (out-Node c).kind (shape_out (one σ) c h.0).0)), items-own cs h.1)

  shaped-own : (k : Kind) (cs : List Node) → is_list k ≡ true → HaveShapes (child_shapes k (many σ) (length cs)) cs → AllNodes OwnNames cs
  shaped-own kind.List cs e h = items-own cs h
  shaped-own _ cs e h = absurd (cc)

  list-own : (n : Node) → HasShape (many σ) n → Sub (names n) (declared n)
  list-own n h =
      let s = shape_out (many σ) n h in
      subst (λ m. Sub m.names m.declared) (sym (meaning_out n)) (list-names n (out-Node n).kind (out-Node n).children s.0 (shaped-own (out-Node n).kind (out-Node n).children s.0 s.1))

declarators : (n : Node) → HasShape (many sort.VarDeclarator) n → Sub (names n) (declared n)
declarators = list-own sort.VarDeclarator (λ k e. or-first (belongs sort.VarDeclarator k) (belongs sort.ParamOrTsParamProp k) e)

parameter-kind : (k : Kind) → belongs sort.Param k ≡ true → belongs sort.VarDeclarator k || belongs sort.ParamOrTsParamProp k ≡ true
parameter-kind kind.Param e = refl
parameter-kind _ e = absurd (cc)

parameters : (n : Node) → HasShape (many sort.Param) n → Sub (names n) (declared n)
parameters = list-own sort.Param parameter-kind

constructor-parameters : (n : Node) → HasShape (many sort.ParamOrTsParamProp) n → Sub (names n) (declared n)
constructor-parameters = list-own sort.ParamOrTsParamProp (λ k e. or-second (belongs sort.VarDeclarator k) (belongs sort.ParamOrTsParamProp k) e)

-- the layers

abbrev pub layer : Kind → List Node → Bool → List Id
layer k cs named = declared_of k (map meaning cs) ++ cond named (names_of k (map meaning cs)) []

named-names : (ds ns : List Id) (named : Bool) → named ≡ true → Sub ns (ds ++ cond named ns [])
named-names ds ns named e = subst (λ b. Sub ns (ds ++ cond b ns [])) (sym e) (sub-right ds ns)

list-covered : (cs : List Node) (named : Bool) (zs : List Id) (i : ℕ) → Sub (all_declared (map meaning cs)) zs → (named ≡ true → Sub (all_names (map meaning cs)) zs) → Covered kind.List named zs i cs
list-covered [] named zs i f g = tt
list-covered (c ∷ cs) named zs i f g = (
  cover-sub c named zs (λ id h. f id (sub-left (declared c) (all_declared (map meaning cs)) id h)) (λ e id h. g e id (sub-left (names c) (all_names (map meaning cs)) id h)),
  list-covered cs named zs (suc i) (λ id h. f id (sub-right (declared c) (all_declared (map meaning cs)) id h)) (λ e id h. g e id (sub-right (names c) (all_names (map meaning cs)) id h)),
)

-- what is done behind all items
abbrev pub is_last : Kind → Bool
is_last kind.TsExportAssignment = true
is_last _ = false

pub layer-covered : (k : Kind) (shape : Shape) (cs : List Node) (named : Bool) → is_plain_kind k ≡ true → has_no_effect k (map meaning cs) ≡ false → has_no_receiver k cs ≡ true
    → HaveShapes (child_shapes k shape (length cs)) cs → is_last k ≡ false → Covered k named (layer k cs named) 0 cs
layer-covered kind.TsAsExpr shape cs named j e r h u = absurd (cc)
layer-covered kind.TsTypeAssertion shape cs named j e r h u = absurd (cc)
layer-covered kind.TsConstAssertion shape cs named j e r h u = absurd (cc)
layer-covered kind.TsNonNullExpr shape cs named j e r h u = absurd (cc)
layer-covered kind.TsInstantiation shape cs named j e r h u = absurd (cc)
layer-covered kind.TsSatisfiesExpr shape cs named j e r h u = absurd (cc)
layer-covered kind.TsTypeAnn shape cs named j e r h u = absurd (cc)
layer-covered kind.TsTypeParamDecl shape cs named j e r h u = absurd (cc)
layer-covered kind.TsTypeParamInstantiation shape cs named j e r h u = absurd (cc)
layer-covered (kind.TsEnumDecl x y) shape cs named j e r h u = absurd (cc)
layer-covered kind.TsEnumMember shape cs named j e r h u = absurd (cc)
layer-covered (kind.TsModuleDecl x y) shape cs named j e r h u = absurd (cc)
layer-covered (kind.TsNamespaceDecl x y) shape cs named j e r h u = absurd (cc)
layer-covered (kind.TsImportEqualsDecl x y) shape cs named j e r h u = absurd (cc)
layer-covered kind.TsExportAssignment shape cs named j e r h u = absurd (true-false refl u)
layer-covered (kind.Module shebang) shape (body ∷ []) named j e r h u =
    let ds = declared body ++ (meaning body).last_declared in
    (unnamed body false (layer (kind.Module shebang) (body ∷ []) named) refl (λ id h. sub-left ds (cond named [] []) id (sub-left (declared body) (meaning body).last_declared id h)), tt)
layer-covered (kind.Module shebang) shape [] named j e r h u = tt
layer-covered (kind.Module shebang) shape (a₁ ∷ a₂ ∷ cs) named j e r h u = absurd h.1
layer-covered (kind.TsTypeAliasDecl x) shape cs named j e r h u = absurd (cc)
layer-covered (kind.FnDecl true) shape cs named j e r h u = absurd (cc)
layer-covered (kind.ClassDecl true) shape cs named j e r h u = absurd (cc)
layer-covered (kind.ImportNamedSpecifier true) shape cs named j e r h u = absurd (cc)
layer-covered kind.Absent shape [] named j e r h u = tt
layer-covered kind.Absent shape (a₃ ∷ cs) named j e r h u = absurd h
layer-covered kind.List shape cs named j e r h u =
    let ds = all_declared (map meaning cs) in
    let ns = all_names (map meaning cs) in
    list-covered cs named (ds ++ cond named ns []) 0 (sub-left ds (cond named ns [])) (λ is. named-names ds ns named is)
layer-covered (kind.VarDecl w d) shape (list ∷ []) named j e r h u =
    let h0 = h.0 in
    let k = kind.VarDecl w d in
    let cs = list ∷ [] in
    let ds = declared_of k (map meaning cs) in
    let ns = cond named (names_of k (map meaning cs)) [] in
    let zs = layer k cs named in
    (cover-sub list true zs (λ id h. sub-left ds ns id (sub-left (declared list) [] id h)) (λ is. sub-then (names list) (declared list) zs (declarators list h0) (λ id h. sub-left ds ns id (sub-left (declared list) [] id h))), tt)
layer-covered (kind.VarDecl w d) shape [] named j e r h u = tt
layer-covered (kind.VarDecl w d) shape (a₁ ∷ a₂ ∷ cs) named j e r h u = absurd h.1
layer-covered (kind.VarDeclarator d) shape (name ∷ init ∷ []) named j e r h u =
    let k = kind.VarDeclarator d in
    let cs = name ∷ init ∷ [] in
    let ds = declared_of k (map meaning cs) in
    let ns = cond named (names_of k (map meaning cs)) [] in
    let zs = layer k cs named in
    (cover-sub name named zs (λ id h. sub-left ds ns id (sub-right (names name) ((declared name) ++ (declared init)) id (sub-left (declared name) (declared init) id h))) (λ is. (λ id h. sub-left ds ns id (sub-left (names name) ((declared name) ++ (declared init)) id h))), (unnamed init false zs refl (λ id h. sub-left ds ns id (sub-right (names name) ((declared name) ++ (declared init)) id (sub-right (declared name) (declared init) id h))), tt))
layer-covered (kind.VarDeclarator d) shape [] named j e r h u = tt
layer-covered (kind.VarDeclarator d) shape (a₁ ∷ []) named j e r h u = absurd h.1
layer-covered (kind.VarDeclarator d) shape (a₁ ∷ a₂ ∷ a₃ ∷ cs) named j e r h u = absurd h.1.1
layer-covered kind.Param shape (p ∷ []) named j e r h u =
    let k = kind.Param in
    let cs = p ∷ [] in
    let ds = declared_of k (map meaning cs) in
    let ns = cond named (names_of k (map meaning cs)) [] in
    let zs = layer k cs named in
    (cover-sub p named zs (λ id h. sub-left ds ns id (sub-right (names p) (declared p) id h)) (λ is. (λ id h. sub-left ds ns id (sub-left (names p) (declared p) id h))), tt)
layer-covered kind.Param shape [] named j e r h u = tt
layer-covered kind.Param shape (a₁ ∷ a₂ ∷ cs) named j e r h u = absurd h.1
layer-covered (kind.TsParamProp x y z) shape (p ∷ []) named j e r h u =
    let k = kind.TsParamProp x y z in
    let cs = p ∷ [] in
    let ds = declared_of k (map meaning cs) in
    let ns = cond named (names_of k (map meaning cs)) [] in
    let zs = layer k cs named in
    (cover-sub p named zs (λ id h. sub-left ds ns id (sub-right (names p) (declared p) id h)) (λ is. (λ id h. sub-left ds ns id (sub-left (names p) (declared p) id h))), tt)
layer-covered (kind.TsParamProp x y z) shape [] named j e r h u = tt
layer-covered (kind.TsParamProp x y z) shape (a₁ ∷ a₂ ∷ cs) named j e r h u = absurd h.1
layer-covered (kind.ArrowExpr x y) shape (ps ∷ body ∷ types ∷ type ∷ []) named j e r h u =
    let k = kind.ArrowExpr x y in
    let cs = ps ∷ body ∷ types ∷ type ∷ [] in
    let ds = declared_of k (map meaning cs) in
    let ns = cond named (names_of k (map meaning cs)) [] in
    let zs = layer k cs named in
    (cover-sub ps true zs (λ id h. sub-left ds ns id (sub-right (names ps) ((declared ps) ++ (declared body)) id (sub-left (declared ps) (declared body) id h))) (λ is. (λ id h. sub-left ds ns id (sub-left (names ps) ((declared ps) ++ (declared body)) id h))), (unnamed body false zs refl (λ id h. sub-left ds ns id (sub-right (names ps) ((declared ps) ++ (declared body)) id (sub-right (declared ps) (declared body) id h))), (unnamed types false zs refl (sub-none _ zs (types-alone types h.1.1.0)), (unnamed type false zs refl (sub-none _ zs (type-alone type h.1.1.1.0)), tt))))
layer-covered (kind.ArrowExpr x y) shape [] named j e r h u = tt
layer-covered (kind.ArrowExpr x y) shape (a₁ ∷ []) named j e r h u = absurd h.1
layer-covered (kind.ArrowExpr x y) shape (a₁ ∷ a₂ ∷ []) named j e r h u = absurd h.1.1
layer-covered (kind.ArrowExpr x y) shape (a₁ ∷ a₂ ∷ a₃ ∷ []) named j e r h u = absurd h.1.1.1
layer-covered (kind.ArrowExpr x y) shape (a₁ ∷ a₂ ∷ a₃ ∷ a₄ ∷ a₅ ∷ cs) named j e r h u = absurd h.1.1.1.1
layer-covered kind.SetterProp shape (key ∷ this ∷ p ∷ body ∷ []) named j e r h u =
    let k = kind.SetterProp in
    let cs = key ∷ this ∷ p ∷ body ∷ [] in
    let ds = declared_of k (map meaning cs) in
    let ns = cond named (names_of k (map meaning cs)) [] in
    let zs = layer k cs named in
    (unnamed key false zs refl (λ id h. sub-left ds ns id (sub-left (declared key) ((names p) ++ ((declared p) ++ (declared body))) id h)), (unnamed this false zs refl (sub-none _ zs (absent-alone this r)), (cover-sub p true zs (λ id h. sub-left ds ns id (sub-right (declared key) ((names p) ++ ((declared p) ++ (declared body))) id (sub-right (names p) ((declared p) ++ (declared body)) id (sub-left (declared p) (declared body) id h)))) (λ is. (λ id h. sub-left ds ns id (sub-right (declared key) ((names p) ++ ((declared p) ++ (declared body))) id (sub-left (names p) ((declared p) ++ (declared body)) id h)))), (unnamed body false zs refl (λ id h. sub-left ds ns id (sub-right (declared key) ((names p) ++ ((declared p) ++ (declared body))) id (sub-right (names p) ((declared p) ++ (declared body)) id (sub-right (declared p) (declared body) id h)))), tt))))
layer-covered kind.SetterProp shape [] named j e r h u = tt
layer-covered kind.SetterProp shape (a₁ ∷ []) named j e r h u = absurd h.1
layer-covered kind.SetterProp shape (a₁ ∷ a₂ ∷ []) named j e r h u = absurd h.1.1
layer-covered kind.SetterProp shape (a₁ ∷ a₂ ∷ a₃ ∷ []) named j e r h u = absurd h.1.1.1
layer-covered kind.SetterProp shape (a₁ ∷ a₂ ∷ a₃ ∷ a₄ ∷ a₅ ∷ cs) named j e r h u = absurd h.1.1.1.1
layer-covered kind.CatchClause shape (p ∷ body ∷ []) named j e r h u =
    let k = kind.CatchClause in
    let cs = p ∷ body ∷ [] in
    let ds = declared_of k (map meaning cs) in
    let ns = cond named (names_of k (map meaning cs)) [] in
    let zs = layer k cs named in
    (cover-sub p true zs (λ id h. sub-left ds ns id (sub-right (names p) ((declared p) ++ (declared body)) id (sub-left (declared p) (declared body) id h))) (λ is. (λ id h. sub-left ds ns id (sub-left (names p) ((declared p) ++ (declared body)) id h))), (unnamed body false zs refl (λ id h. sub-left ds ns id (sub-right (names p) ((declared p) ++ (declared body)) id (sub-right (declared p) (declared body) id h))), tt))
layer-covered kind.CatchClause shape [] named j e r h u = tt
layer-covered kind.CatchClause shape (a₁ ∷ []) named j e r h u = absurd h.1
layer-covered kind.CatchClause shape (a₁ ∷ a₂ ∷ a₃ ∷ cs) named j e r h u = absurd h.1.1
layer-covered (kind.FnDecl false) shape (name ∷ function ∷ []) named j e r h u =
    let k = kind.FnDecl false in
    let cs = name ∷ function ∷ [] in
    let ds = declared_of k (map meaning cs) in
    let ns = cond named (names_of k (map meaning cs)) [] in
    let zs = layer k cs named in
    (cover-sub name true zs (sub-none _ zs (ident-alone name h.0)) (λ is. (λ id h. sub-left ds ns id (sub-left (names name) (declared function) id h))), (unnamed function false zs refl (λ id h. sub-left ds ns id (sub-right (names name) (declared function) id h)), tt))
layer-covered (kind.FnDecl false) shape [] named j e r h u = tt
layer-covered (kind.FnDecl false) shape (a₁ ∷ []) named j e r h u = absurd h.1
layer-covered (kind.FnDecl false) shape (a₁ ∷ a₂ ∷ a₃ ∷ cs) named j e r h u = absurd h.1.1
layer-covered kind.FnExpr shape (name ∷ function ∷ []) named j e r h u =
    let k = kind.FnExpr in
    let cs = name ∷ function ∷ [] in
    let ds = declared_of k (map meaning cs) in
    let ns = cond named (names_of k (map meaning cs)) [] in
    let zs = layer k cs named in
    (cover-sub name true zs (sub-none _ zs (own-alone name h.0)) (λ is. (λ id h. sub-left ds ns id (sub-left (names name) (declared function) id h))), (unnamed function false zs refl (λ id h. sub-left ds ns id (sub-right (names name) (declared function) id h)), tt))
layer-covered kind.FnExpr shape [] named j e r h u = tt
layer-covered kind.FnExpr shape (a₁ ∷ []) named j e r h u = absurd h.1
layer-covered kind.FnExpr shape (a₁ ∷ a₂ ∷ a₃ ∷ cs) named j e r h u = absurd h.1.1
layer-covered (kind.ClassDecl false) shape (name ∷ class ∷ []) named j e r h u =
    let k = kind.ClassDecl false in
    let cs = name ∷ class ∷ [] in
    let ds = declared_of k (map meaning cs) in
    let ns = cond named (names_of k (map meaning cs)) [] in
    let zs = layer k cs named in
    (cover-sub name true zs (sub-none _ zs (ident-alone name h.0)) (λ is. (λ id h. sub-left ds ns id (sub-left (names name) (declared class) id h))), (unnamed class false zs refl (λ id h. sub-left ds ns id (sub-right (names name) (declared class) id h)), tt))
layer-covered (kind.ClassDecl false) shape [] named j e r h u = tt
layer-covered (kind.ClassDecl false) shape (a₁ ∷ []) named j e r h u = absurd h.1
layer-covered (kind.ClassDecl false) shape (a₁ ∷ a₂ ∷ a₃ ∷ cs) named j e r h u = absurd h.1.1
layer-covered kind.ClassExpr shape (name ∷ class ∷ []) named j e r h u =
    let k = kind.ClassExpr in
    let cs = name ∷ class ∷ [] in
    let ds = declared_of k (map meaning cs) in
    let ns = cond named (names_of k (map meaning cs)) [] in
    let zs = layer k cs named in
    (cover-sub name true zs (sub-none _ zs (own-alone name h.0)) (λ is. (λ id h. sub-left ds ns id (sub-left (names name) (declared class) id h))), (unnamed class false zs refl (λ id h. sub-left ds ns id (sub-right (names name) (declared class) id h)), tt))
layer-covered kind.ClassExpr shape [] named j e r h u = tt
layer-covered kind.ClassExpr shape (a₁ ∷ []) named j e r h u = absurd h.1
layer-covered kind.ClassExpr shape (a₁ ∷ a₂ ∷ a₃ ∷ cs) named j e r h u = absurd h.1.1
layer-covered kind.ImportDefaultSpecifier shape (local ∷ []) named j e r h u =
    let k = kind.ImportDefaultSpecifier in
    let cs = local ∷ [] in
    let ds = declared_of k (map meaning cs) in
    let ns = cond named (names_of k (map meaning cs)) [] in
    let zs = layer k cs named in
    (cover-sub local true zs (sub-none _ zs (ident-alone local h.0)) (λ is. (λ id h. sub-left ds ns id h)), tt)
layer-covered kind.ImportDefaultSpecifier shape [] named j e r h u = tt
layer-covered kind.ImportDefaultSpecifier shape (a₁ ∷ a₂ ∷ cs) named j e r h u = absurd h.1
layer-covered kind.ImportStarAsSpecifier shape (local ∷ []) named j e r h u =
    let k = kind.ImportStarAsSpecifier in
    let cs = local ∷ [] in
    let ds = declared_of k (map meaning cs) in
    let ns = cond named (names_of k (map meaning cs)) [] in
    let zs = layer k cs named in
    (cover-sub local true zs (sub-none _ zs (ident-alone local h.0)) (λ is. (λ id h. sub-left ds ns id h)), tt)
layer-covered kind.ImportStarAsSpecifier shape [] named j e r h u = tt
layer-covered kind.ImportStarAsSpecifier shape (a₁ ∷ a₂ ∷ cs) named j e r h u = absurd h.1
layer-covered (kind.ImportNamedSpecifier false) shape (local ∷ name ∷ []) named j e r h u =
    let k = kind.ImportNamedSpecifier false in
    let cs = local ∷ name ∷ [] in
    let ds = declared_of k (map meaning cs) in
    let ns = cond named (names_of k (map meaning cs)) [] in
    let zs = layer k cs named in
    (cover-sub local true zs (sub-none _ zs (ident-alone local h.0)) (λ is. (λ id h. sub-left ds ns id h)), (unnamed name false zs refl (sub-none _ zs (exported-alone name h.1.0)), tt))
layer-covered (kind.ImportNamedSpecifier false) shape [] named j e r h u = tt
layer-covered (kind.ImportNamedSpecifier false) shape (a₁ ∷ []) named j e r h u = absurd h.1
layer-covered (kind.ImportNamedSpecifier false) shape (a₁ ∷ a₂ ∷ a₃ ∷ cs) named j e r h u = absurd h.1.1
layer-covered (kind.Function x y) shape (ps ∷ body ∷ types ∷ type ∷ []) named j e r h u =
    let h0 = h.0 in
    let k = kind.Function x y in
    let cs = ps ∷ body ∷ types ∷ type ∷ [] in
    let ds = declared_of k (map meaning cs) in
    let ns = cond named (names_of k (map meaning cs)) [] in
    let zs = layer k cs named in
    (cover-sub ps true zs (λ id h. sub-left ds ns id (sub-left (declared ps) ((declared body) ++ ((declared types) ++ ((declared type) ++ []))) id h)) (λ is. sub-then (names ps) (declared ps) zs (parameters ps h0) (λ id h. sub-left ds ns id (sub-left (declared ps) ((declared body) ++ ((declared types) ++ ((declared type) ++ []))) id h))), (unnamed body false zs refl (λ id h. sub-left ds ns id (sub-right (declared ps) ((declared body) ++ ((declared types) ++ ((declared type) ++ []))) id (sub-left (declared body) ((declared types) ++ ((declared type) ++ [])) id h))), (unnamed types false zs refl (λ id h. sub-left ds ns id (sub-right (declared ps) ((declared body) ++ ((declared types) ++ ((declared type) ++ []))) id (sub-right (declared body) ((declared types) ++ ((declared type) ++ [])) id (sub-left (declared types) ((declared type) ++ []) id h)))), (unnamed type false zs refl (λ id h. sub-left ds ns id (sub-right (declared ps) ((declared body) ++ ((declared types) ++ ((declared type) ++ []))) id (sub-right (declared body) ((declared types) ++ ((declared type) ++ [])) id (sub-right (declared types) ((declared type) ++ []) id (sub-left (declared type) [] id h))))), tt))))
layer-covered (kind.Function x y) shape [] named j e r h u = tt
layer-covered (kind.Function x y) shape (a₁ ∷ []) named j e r h u = absurd h.1
layer-covered (kind.Function x y) shape (a₁ ∷ a₂ ∷ []) named j e r h u = absurd h.1.1
layer-covered (kind.Function x y) shape (a₁ ∷ a₂ ∷ a₃ ∷ []) named j e r h u = absurd h.1.1.1
layer-covered (kind.Function x y) shape (a₁ ∷ a₂ ∷ a₃ ∷ a₄ ∷ a₅ ∷ cs) named j e r h u = absurd h.1.1.1.1
layer-covered (kind.Constructor x y) shape (key ∷ ps ∷ body ∷ []) named j e r h u =
    let h0 = h.1.0 in
    let k = kind.Constructor x y in
    let cs = key ∷ ps ∷ body ∷ [] in
    let ds = declared_of k (map meaning cs) in
    let ns = cond named (names_of k (map meaning cs)) [] in
    let zs = layer k cs named in
    (unnamed key false zs refl (λ id h. sub-left ds ns id (sub-left (declared key) ((declared ps) ++ ((declared body) ++ [])) id h)), (cover-sub ps true zs (λ id h. sub-left ds ns id (sub-right (declared key) ((declared ps) ++ ((declared body) ++ [])) id (sub-left (declared ps) ((declared body) ++ []) id h))) (λ is. sub-then (names ps) (declared ps) zs (constructor-parameters ps h0) (λ id h. sub-left ds ns id (sub-right (declared key) ((declared ps) ++ ((declared body) ++ [])) id (sub-left (declared ps) ((declared body) ++ []) id h)))), (unnamed body false zs refl (λ id h. sub-left ds ns id (sub-right (declared key) ((declared ps) ++ ((declared body) ++ [])) id (sub-right (declared ps) ((declared body) ++ []) id (sub-left (declared body) [] id h)))), tt)))
layer-covered (kind.Constructor x y) shape [] named j e r h u = tt
layer-covered (kind.Constructor x y) shape (a₁ ∷ []) named j e r h u = absurd h.1
layer-covered (kind.Constructor x y) shape (a₁ ∷ a₂ ∷ []) named j e r h u = absurd h.1.1
layer-covered (kind.Constructor x y) shape (a₁ ∷ a₂ ∷ a₃ ∷ a₄ ∷ cs) named j e r h u = absurd h.1.1.1
layer-covered kind.BindingIdent shape (p ∷ q ∷ []) named j e r h u =
    let k = kind.BindingIdent in
    let cs = p ∷ q ∷ [] in
    let ds = declared_of k (map meaning cs) in
    let ns = cond named (names_of k (map meaning cs)) [] in
    let zs = layer k cs named in
    (cover-sub p named zs (λ id h. sub-left ds ns id (sub-left (declared p) ((declared q) ++ []) id h)) (λ is. named-names ds (names p) named is), (unnamed q false zs refl (λ id h. sub-left ds ns id (sub-right (declared p) ((declared q) ++ []) id (sub-left (declared q) [] id h))), tt))
layer-covered kind.BindingIdent shape [] named j e r h u = tt
layer-covered kind.BindingIdent shape (a₁ ∷ []) named j e r h u = absurd h.1
layer-covered kind.BindingIdent shape (a₁ ∷ a₂ ∷ a₃ ∷ cs) named j e r h u = absurd h.1.1
layer-covered (kind.ArrayPat o) shape (p ∷ q ∷ []) named j e r h u =
    let k = kind.ArrayPat o in
    let cs = p ∷ q ∷ [] in
    let ds = declared_of k (map meaning cs) in
    let ns = cond named (names_of k (map meaning cs)) [] in
    let zs = layer k cs named in
    (cover-sub p named zs (λ id h. sub-left ds ns id (sub-left (declared p) ((declared q) ++ []) id h)) (λ is. named-names ds (names p) named is), (unnamed q false zs refl (λ id h. sub-left ds ns id (sub-right (declared p) ((declared q) ++ []) id (sub-left (declared q) [] id h))), tt))
layer-covered (kind.ArrayPat o) shape [] named j e r h u = tt
layer-covered (kind.ArrayPat o) shape (a₁ ∷ []) named j e r h u = absurd h.1
layer-covered (kind.ArrayPat o) shape (a₁ ∷ a₂ ∷ a₃ ∷ cs) named j e r h u = absurd h.1.1
layer-covered (kind.ObjectPat o) shape (p ∷ q ∷ []) named j e r h u =
    let k = kind.ObjectPat o in
    let cs = p ∷ q ∷ [] in
    let ds = declared_of k (map meaning cs) in
    let ns = cond named (names_of k (map meaning cs)) [] in
    let zs = layer k cs named in
    (cover-sub p named zs (λ id h. sub-left ds ns id (sub-left (declared p) ((declared q) ++ []) id h)) (λ is. named-names ds (names p) named is), (unnamed q false zs refl (λ id h. sub-left ds ns id (sub-right (declared p) ((declared q) ++ []) id (sub-left (declared q) [] id h))), tt))
layer-covered (kind.ObjectPat o) shape [] named j e r h u = tt
layer-covered (kind.ObjectPat o) shape (a₁ ∷ []) named j e r h u = absurd h.1
layer-covered (kind.ObjectPat o) shape (a₁ ∷ a₂ ∷ a₃ ∷ cs) named j e r h u = absurd h.1.1
layer-covered kind.RestPat shape (p ∷ q ∷ []) named j e r h u =
    let k = kind.RestPat in
    let cs = p ∷ q ∷ [] in
    let ds = declared_of k (map meaning cs) in
    let ns = cond named (names_of k (map meaning cs)) [] in
    let zs = layer k cs named in
    (cover-sub p named zs (λ id h. sub-left ds ns id (sub-left (declared p) ((declared q) ++ []) id h)) (λ is. named-names ds (names p) named is), (unnamed q false zs refl (λ id h. sub-left ds ns id (sub-right (declared p) ((declared q) ++ []) id (sub-left (declared q) [] id h))), tt))
layer-covered kind.RestPat shape [] named j e r h u = tt
layer-covered kind.RestPat shape (a₁ ∷ []) named j e r h u = absurd h.1
layer-covered kind.RestPat shape (a₁ ∷ a₂ ∷ a₃ ∷ cs) named j e r h u = absurd h.1.1
layer-covered kind.AssignPat shape (p ∷ q ∷ []) named j e r h u =
    let k = kind.AssignPat in
    let cs = p ∷ q ∷ [] in
    let ds = declared_of k (map meaning cs) in
    let ns = cond named (names_of k (map meaning cs)) [] in
    let zs = layer k cs named in
    (cover-sub p named zs (λ id h. sub-left ds ns id (sub-left (declared p) ((declared q) ++ []) id h)) (λ is. named-names ds (names p) named is), (unnamed q false zs refl (λ id h. sub-left ds ns id (sub-right (declared p) ((declared q) ++ []) id (sub-left (declared q) [] id h))), tt))
layer-covered kind.AssignPat shape [] named j e r h u = tt
layer-covered kind.AssignPat shape (a₁ ∷ []) named j e r h u = absurd h.1
layer-covered kind.AssignPat shape (a₁ ∷ a₂ ∷ a₃ ∷ cs) named j e r h u = absurd h.1.1
layer-covered kind.AssignPatProp shape (p ∷ q ∷ []) named j e r h u =
    let k = kind.AssignPatProp in
    let cs = p ∷ q ∷ [] in
    let ds = declared_of k (map meaning cs) in
    let ns = cond named (names_of k (map meaning cs)) [] in
    let zs = layer k cs named in
    (cover-sub p named zs (λ id h. sub-left ds ns id (sub-left (declared p) ((declared q) ++ []) id h)) (λ is. named-names ds (names p) named is), (unnamed q false zs refl (λ id h. sub-left ds ns id (sub-right (declared p) ((declared q) ++ []) id (sub-left (declared q) [] id h))), tt))
layer-covered kind.AssignPatProp shape [] named j e r h u = tt
layer-covered kind.AssignPatProp shape (a₁ ∷ []) named j e r h u = absurd h.1
layer-covered kind.AssignPatProp shape (a₁ ∷ a₂ ∷ a₃ ∷ cs) named j e r h u = absurd h.1.1
layer-covered kind.KeyValuePatProp shape (key ∷ p ∷ []) named j e r h u =
    let k = kind.KeyValuePatProp in
    let cs = key ∷ p ∷ [] in
    let ds = declared_of k (map meaning cs) in
    let ns = cond named (names_of k (map meaning cs)) [] in
    let zs = layer k cs named in
    (unnamed key false zs refl (λ id h. sub-left ds ns id (sub-left (declared key) ((declared p) ++ []) id h)), (cover-sub p named zs (λ id h. sub-left ds ns id (sub-right (declared key) ((declared p) ++ []) id (sub-left (declared p) [] id h))) (λ is. named-names ds (names p) named is), tt))
layer-covered kind.KeyValuePatProp shape [] named j e r h u = tt
layer-covered kind.KeyValuePatProp shape (a₁ ∷ []) named j e r h u = absurd h.1
layer-covered kind.KeyValuePatProp shape (a₁ ∷ a₂ ∷ a₃ ∷ cs) named j e r h u = absurd h.1.1
layer-covered k shape cs named j e r h u =
    all-covered k named (layer k cs named) 0 cs (all-unnamed k named (λ i. refl) 0 cs) (each-declared cs (layer k cs named) (sub-left (all_declared (map meaning cs)) (cond named (names_of k (map meaning cs)) [])))
