-- Of the members of a plain class that fits, one is a constructor with a body, or none is.
use Rattle.std.proofs.Common.{◌≡◌, ◌⊎◌, inl, inr, refl, ap, ◌∙◌, List, [], ◌∷◌, map, filter, length, replicate, is_some, slice_get, Bool, true, false, cond, not}
use Rattle.ecma_kind.specs.Sorts.{belongs}
use Rattle.ecma_kind.specs.declared.kind.Kind.{Kind}
use Rattle.ecma_kind.specs.declared.kind.Kind.TheVariants as kind
use Rattle.ecma_kind.specs.declared.shapes.Count.TheVariants as count
use Rattle.ecma_kind.specs.declared.shapes.Shape.{Shape}
use Rattle.ecma_kind.specs.declared.shapes.Sort.TheVariants as sort
use Rattle.ecma_tree.specs.declared.node.Node.{Node, out-Node}
use Rattle.ecma_tree.specs.Laws.{HaveShapes}
use Rattle.ecma_tree.specs.Sorted.{HasShape, child_shapes, is_absent, is_list, one, shape_of}
use Rattle.ecma_rules.specs.Children.{has_child, is_present, kind_of, of_kind}
use Rattle.ecma_rules.specs.Members.{is_constructor as is_constructor_kind, is_full_constructor, second_of}
use Rattle.ecma_hygiene.specs.Ids.{is_block}
use Rattle.ecma_hygiene.proofs.Telling.{and-both, and-left, true-false}
use Rattle.ecma_hygiene_runs.specs.Plain.{is_plain, plain_by}
use Rattle.ecma_runs.specs.Declarations.{has_no_effect}
use Rattle.ecma_runs.specs.Evaluation.{meaning, meaning_by, no_effect, role_by}
use Rattle.ecma_runs.specs.Meaning.{Meaning}
use Rattle.ecma_runs.specs.Sought.{Sought, meanings, nothing_sought, role_sought, seeker, sought_by}
use Rattle.ecma_runs.proofs.Layer.{meaning_out}
use Rattle.ecma_hygiene_meeting.specs.Records.{AreNoCode, IsNoCode, OneConstructor, is_constructor}
use Rattle.ecma_pipeline_meeting.proofs.Items.{body-there}
use Rattle.ecma_pipeline_meeting.proofs.Parts.{AllPlain, plain-effect, plain-head, plain-out, plain-tail}
use Rattle.ecma_pipeline_meeting.proofs.Patterns.{shape_out}
use Rattle.ecma_pipeline_meeting.proofs.Quiet.{sought_out}

-- ---- a constructor of a plain tree has a body

block-there : (k : Kind) → is_block k ≡ true → not (is_absent k) ≡ true
block-there kind.BlockStmt e = refl
block-there _ e = absurd (true-false e refl)

full-by : (n : Node) (k : Kind) (shape : Shape) (cs : List Node) → is_constructor k ≡ true → HaveShapes (child_shapes k shape (length cs)) cs → plain_by k cs ≡ true → (out-Node n).kind ≡ k → (out-Node n).children ≡ cs → is_full_constructor n ≡ true
full-by n (kind.Constructor a o) shape (key ∷ ps ∷ body ∷ []) e h p is are =
    let there : not (is_absent (out-Node body).kind) ≡ true =
    block-there (out-Node body).kind (body-there body h.1.1.0 (plain-effect (kind.Constructor a o) key (ps ∷ body ∷ []) p)) in
    and-both (is_constructor_kind (kind_of n)) (has_child n 2) (ap is_constructor_kind is) (ap (λ zs. of_kind is_present (slice_get zs 2)) are ∙ there)
full-by n (kind.Constructor a o) shape [] e h p is are = absurd h
full-by n (kind.Constructor a o) shape (b ∷ []) e h p is are = absurd h.1
full-by n (kind.Constructor a o) shape (b ∷ c ∷ []) e h p is are = absurd h.1.1
full-by n (kind.Constructor a o) shape (b ∷ c ∷ d ∷ f ∷ cs) e h p is are = absurd h.1.1.1
full-by n _ shape cs e h p is are = absurd (true-false e refl)

constructor-full : (c : Node) → HasShape (one sort.ClassMember) c → is_plain c ≡ true → is_constructor (out-Node c).kind ≡ true → is_full_constructor c ≡ true
constructor-full c h plain e = full-by c (out-Node c).kind (one sort.ClassMember) (out-Node c).children e (shape_out (one sort.ClassMember) c h).1 (plain-out c plain).0 refl refl

full-constructor : (k : Kind) → is_constructor_kind k ≡ true → is_constructor k ≡ true
full-constructor (kind.Constructor a o) e = refl
full-constructor _ e = absurd (true-false e refl)

-- ---- other members have no code with which something is constructed

either-names : (b : Bool) (n : Node) (m : Meaning) → m.parameter_names ≡ [] → (cond b (no_effect n) m).parameter_names ≡ []
either-names true n m h = refl
either-names false n m h = h

either-code : (b : Bool) (s : Sought) → s.code_sought ≡ [] → (cond b nothing_sought s).code_sought ≡ []
either-code true s h = refl
either-code false s h = h

no-names : (n : Node) (k : Kind) (cs : List Node) → belongs sort.ClassMember k ≡ true → is_constructor k ≡ false → (meaning_by n k (map meaning cs)).parameter_names ≡ []
no-names n (kind.Constructor a o) cs b e = absurd (true-false refl e)
no-names n (kind.ClassMethod s m) cs b e = either-names (has_no_effect (kind.ClassMethod s m) (map meaning cs)) n (role_by n (kind.ClassMethod s m) (map meaning cs)) refl
no-names n (kind.PrivateMethod s m) cs b e = either-names (has_no_effect (kind.PrivateMethod s m) (map meaning cs)) n (role_by n (kind.PrivateMethod s m) (map meaning cs)) refl
no-names n (kind.ClassProp m r d f) cs b e = either-names (has_no_effect (kind.ClassProp m r d f) (map meaning cs)) n (role_by n (kind.ClassProp m r d f) (map meaning cs)) refl
no-names n (kind.PrivateProp m r d f) cs b e = either-names (has_no_effect (kind.PrivateProp m r d f) (map meaning cs)) n (role_by n (kind.PrivateProp m r d f) (map meaning cs)) refl
no-names n (kind.TsIndexSignature r s) cs b e = refl
no-names n kind.EmptyStmt cs b e = refl
no-names n kind.StaticBlock cs b e = refl
no-names n _ cs b e = absurd (true-false b refl)

no-code : (k : Kind) (cs : List Node) → belongs sort.ClassMember k ≡ true → is_constructor k ≡ false → (sought_by k (map seeker cs)).code_sought ≡ []
no-code (kind.Constructor a o) cs b e = absurd (true-false refl e)
no-code (kind.ClassMethod s m) cs b e = either-code (has_no_effect (kind.ClassMethod s m) (meanings (map seeker cs))) (role_sought (kind.ClassMethod s m) (map seeker cs)) refl
no-code (kind.PrivateMethod s m) cs b e = either-code (has_no_effect (kind.PrivateMethod s m) (meanings (map seeker cs))) (role_sought (kind.PrivateMethod s m) (map seeker cs)) refl
no-code (kind.ClassProp m r d f) cs b e = either-code (has_no_effect (kind.ClassProp m r d f) (meanings (map seeker cs))) (role_sought (kind.ClassProp m r d f) (map seeker cs)) refl
no-code (kind.PrivateProp m r d f) cs b e = either-code (has_no_effect (kind.PrivateProp m r d f) (meanings (map seeker cs))) (role_sought (kind.PrivateProp m r d f) (map seeker cs)) refl
no-code (kind.TsIndexSignature r s) cs b e = refl
no-code kind.EmptyStmt cs b e = refl
no-code kind.StaticBlock cs b e = refl
no-code _ cs b e = absurd (true-false b refl)

other-member : (c : Node) → HasShape (one sort.ClassMember) c → is_constructor (out-Node c).kind ≡ false → IsNoCode c
other-member c h e =
    let a = (shape_out (one sort.ClassMember) c h).0 in
    (ap (λ m. m.parameter_names) (meaning_out c) ∙ no-names c (out-Node c).kind (out-Node c).children a e, ap (λ s. s.code_sought) (sought_out c) ∙ no-code (out-Node c).kind (out-Node c).children a e)

by-test : (b : Bool) → (b ≡ true → ⊥) → b ≡ false
by-test true f = absurd (f refl)
by-test false f = refl

-- what is no constructor with a body is none
other : (c : Node) → HasShape (one sort.ClassMember) c → is_plain c ≡ true → is_full_constructor c ≡ false → IsNoCode c
other c h plain e = other-member c h (by-test (is_constructor (out-Node c).kind) (λ is. true-false (constructor-full c h plain is) e))

-- ---- members

none-of : (cs : List Node) → HaveShapes (replicate (length cs) (one sort.ClassMember)) cs → AllPlain cs → filter is_full_constructor cs ≡ [] → AreNoCode cs
none-of [] h plain e = tt
none-of (c ∷ cs) h plain e = go (none-of cs h.1 (plain-tail c cs plain)) (is_full_constructor c) refl e
  where
    some : (x : Node) (xs : List Node) → ◌≡◌ {A = List Node} (x ∷ xs) [] → ⊥
    some x xs e = cc

    go : (filter is_full_constructor cs ≡ [] → AreNoCode cs) → (b : Bool) → is_full_constructor c ≡ b → cond b (c ∷ filter is_full_constructor cs) (filter is_full_constructor cs) ≡ [] → IsNoCode c × AreNoCode cs
    go rec true is e = absurd (some c (filter is_full_constructor cs) e)
    go rec false is e = (other c h.0 (plain-head c cs plain) is, rec e)

second-none : (x : Node) (xs : List Node) → is_some (second_of (x ∷ xs)) ≡ false → xs ≡ []
second-none x [] h = refl
second-none x (y ∷ ys) h = absurd (true-false refl h)

one-of : (cs : List Node) → HaveShapes (replicate (length cs) (one sort.ClassMember)) cs → AllPlain cs → is_some (second_of (filter is_full_constructor cs)) ≡ false → OneConstructor cs
one-of [] h plain e = tt
one-of (c ∷ cs) h plain e = go (one-of cs h.1 (plain-tail c cs plain)) (is_full_constructor c) refl e
  where
    go : (is_some (second_of (filter is_full_constructor cs)) ≡ false → OneConstructor cs) → (b : Bool) → is_full_constructor c ≡ b → is_some (second_of (cond b (c ∷ filter is_full_constructor cs) (filter is_full_constructor cs))) ≡ false → (IsNoCode c × OneConstructor cs) ⊎ ((is_constructor (out-Node c).kind ≡ true) × AreNoCode cs)
    go rec true is e =
        inr (full-constructor (out-Node c).kind (and-left (is_constructor_kind (kind_of c)) (has_child c 2) is), none-of cs h.1 (plain-tail c cs plain) (second-none c (filter is_full_constructor cs) e))
    go rec false is e = inl (other c h.0 (plain-head c cs plain) is, rec e)

members-by : (k : Kind) (cs : List Node) → is_list k ≡ true → HaveShapes (child_shapes k (shape_of count.Many sort.ClassMember) (length cs)) cs → AllPlain cs → is_some (second_of (filter is_full_constructor cs)) ≡ false → OneConstructor cs
members-by kind.List cs b h plain e = one-of cs h plain e
members-by _ cs b h plain e = absurd (true-false b refl)

pub members-are : (body : Node) → HasShape (shape_of count.Many sort.ClassMember) body → is_plain body ≡ true → is_some (second_of (filter is_full_constructor (out-Node body).children)) ≡ false
    → (is_list (out-Node body).kind ≡ true) × OneConstructor (out-Node body).children
members-are body h plain e =
    let s = shape_out (shape_of count.Many sort.ClassMember) body h in
    (s.0, members-by (out-Node body).kind (out-Node body).children s.0 s.1 (plain-out body plain).1 e)
