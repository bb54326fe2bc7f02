-- A walk that tells nothing of a tree tells nothing of what is written of it: what a walk owes for that.
use Rattle.std.proofs.Common.{◌≡◌, ◌∙◌, ℕ, suc, Bool, true, false, cond, List, [], ◌∷◌, length, Option, Some, None, refl, sym, ap, subst, slice_get}
use Rattle.ecma_kind.specs.declared.ident.Ident.{Ident}
use Rattle.ecma_kind.specs.declared.kind.Kind.{Kind}
use Rattle.ecma_kind.specs.declared.kind.Kind.TheVariants as kind
use Rattle.ecma_kind.specs.declared.operators.AssignOp.TheVariants.{Assign}
use Rattle.ecma_kind.specs.declared.shapes.Shape.{Shape}
use Rattle.ecma_kind.specs.declared.shapes.Sort.TheVariants as sort
use Rattle.ecma_kind.specs.declared.span.Span.{Span}
use Rattle.ecma_tree.specs.Idents.{ident_node}
use Rattle.ecma_tree.specs.Nodes.{dummy_span, node_of}
use Rattle.ecma_tree.specs.Sorted.{HasShape, child_shapes, is_absent, is_list, item_shape, many, maybe, one}
use Rattle.ecma_tree.specs.declared.node.Node.{Node, out-Node}
use Rattle.ecma_rules.specs.Children.{child_is, kind_of, of_kind}
use Rattle.ecma_rules.specs.Lists.{is_rest_pattern}
use Rattle.ecma_rules.specs.Targets.{is_simple_target}
use Rattle.ecma_strip_fits.proofs.Walk.{shape_parts}
use Rattle.ecma_utils.specs.Expressions.{key_of}
use Rattle.ecma_lower_enums.specs.declared.known.KnownEnums.{KnownEnums}
use Rattle.ecma_lower_enums.specs.declared.place.Place.{Place}
use Rattle.ecma_lower_enums.specs.declared.place.Place.TheVariants as place
use Rattle.ecma_lower_enums.specs.Forms.{member, member_in, part_statements}
use Rattle.ecma_lower_enums.specs.Known.{skips}
use Rattle.ecma_lower_enums.specs.Places.{is_several, place_in}
use Rattle.ecma_lower_enums.specs.Writing.{is_enum_kind, pair, with_default}
use Rattle.ecma_lower_enums_sources.proofs.Alike.{both-length, items-both, made-kind, part-several}
use Rattle.ecma_lower_enums_sources.proofs.Relation.{IfN, Items, Ones, Part, Said, Stands, children_of, is_members, is_target, suits}
use Rattle.ecma_lower_enums_sources.proofs.Relation as relation
use Rattle.ecma_lower_enums_sources.proofs.Suiting.{child-suits, items-suit, no}
use Rattle.ecma_lower_enums_fits.proofs.Making.{Holding, IfNamed, Inner, Kinds, Quiet, Seats, in_body, key-usual, member-passes, member-simple, member-told, members-pass, part-pass, value-told}
use Rattle.ecma_lower_enums_fits.proofs.Walks.{AllPass, PassWhere, Passes, append-pass, far, far-any, made-children, made-passes, pass-at, passes-below, passes-by, passes-here, spread, where-weaker}

-- what has a default is a member
member-first : (span : Span) (of : Ident) (text : List ℕ) (y : Node) → child_is is_rest_pattern (node_of span kind.AssignPat (member of text ∷ y ∷ [])) 0 ≡ false
member-first span of text y =
    ap (λ (z : List Node). of_kind is_rest_pattern (slice_get z 0)) (made-children span kind.AssignPat (member of text ∷ y ∷ []))
    ∙ ap is_rest_pattern (made-kind dummy_span kind.MemberExpr (ident_node of ∷ key_of dummy_span text ∷ []))

module _ (enums : KnownEnums) (N : Ident → Type 0) (K : List ℕ → Type 0) (A : Type 0) (test : A → Kind → Node → Bool) (inside : A → Kind → Node → ℕ → A) (kinds : Kinds A)
    (agree : Place → Shape → A → A → Type 0) where
  abbrev Pass : A → Node → Type 0
  Pass = Passes A test inside

  -- the children of a node whose kind stays
  abbrev pub Below : Place → Shape → Kind → Node → Node → Type 0
  Below p t k a b = Ones enums N K (place_in enums.writes p k) (child_shapes k t (length (children_of a))) (children_of a) (children_of b)

  -- a member may stand here
  abbrev pub TakesMember : A → Type 0
  TakesMember a = (n : Node) → is_simple_target n ≡ true → test a kind.MemberExpr n ≡ false

  -- what is around a node agrees with what is around that which is written of it
  pub record Owed : Type 0 where
    -- where it is the same node
    pub left : (p : Place) (t : Shape) (w v : A) (n : Node) → is_members p ≡ false → suits p t ≡ true → HasShape t n → agree p t w v → Pass w n → Pass v n
    -- where its kind stays
    pub kept_here : (p : Place) (t : Shape) (w v : A) (a b : Node) → is_members p ≡ false → suits p t ≡ true → HasShape t a → is_list (kind_of a) ≡ false → kind_of b ≡ kind_of a
        → (out-Node b).span ≡ (out-Node a).span → Below p t (kind_of a) a b → agree p t w v → test w (kind_of a) a ≡ false → test v (kind_of a) b ≡ false
    pub kept_below : (p : Place) (t : Shape) (w v : A) (a b : Node) → is_members p ≡ false → suits p t ≡ true → HasShape t a → is_list (kind_of a) ≡ false → kind_of b ≡ kind_of a
        → (out-Node b).span ≡ (out-Node a).span → Below p t (kind_of a) a b → agree p t w v → test w (kind_of a) a ≡ false → (i : ℕ) (u : Shape) → slice_get (child_shapes (kind_of a) t (length (children_of a))) i ≡ Some u
        → agree (place_in enums.writes p (kind_of a) i) u (inside w (kind_of a) a i) (inside v (kind_of a) b i)
    pub listed_here : (p : Place) (t : Shape) (w v : A) (a b : Node) → suits p t ≡ true → HasShape t a → kind_of a ≡ kind.List → kind_of b ≡ kind.List → agree p t w v → test w kind.List a ≡ false → test v kind.List b ≡ false
    pub listed_below : (p : Place) (t : Shape) (w v : A) (a b : Node) → suits p t ≡ true → HasShape t a → kind_of a ≡ kind.List → agree p t w v
        → (is_several p ≡ false → length (children_of b) ≡ length (children_of a)) → (i j : ℕ) → (is_several p ≡ false → i ≡ j)
        → agree p (item_shape t) (inside w kind.List a i) (inside v kind.List b j)
    -- where one node stands for another
    pub read : (t : Shape) (w v : A) → agree place.Read t w v → kinds.read v
    pub target : (t : Shape) (w v : A) (a : Node) → suits place.Target t ≡ true → HasShape t a → is_target (kind_of a) ≡ true → agree place.Target t w v → test w (kind_of a) a ≡ false → TakesMember v
    pub property : (t : Shape) (w v : A) (n : Node) → agree place.Property t w v → test v kind.KeyValueProp n ≡ false
    pub pattern : (t : Shape) (w v : A) (a n : Node) → suits place.Target t ≡ true → HasShape t a → kind_of a ≡ kind.AssignPatProp → agree place.Target t w v
        → (test v kind.KeyValuePatProp n ≡ false) × TakesMember (inside v kind.KeyValuePatProp n 1)
    pub default : (t : Shape) (w v : A) (a n m : Node) → suits place.Target t ≡ true → HasShape t a → kind_of a ≡ kind.AssignPatProp → agree place.Target t w v → child_is is_rest_pattern m 0 ≡ false
        → let b = inside v kind.KeyValuePatProp n 1 in
        (test b kind.AssignPat m ≡ false) × TakesMember (inside b kind.AssignPat m 0) × agree place.Read (maybe sort.Expr) (inside w kind.AssignPatProp a 1) (inside b kind.AssignPat m 1)
    -- where statements stand for an enum and its members
    pub item : (at_top exported : Bool) (t : Shape) (w v : A) → agree (place.Item at_top exported) t w v → kinds.usual v
    pub export : (at_top : Bool) (t : Shape) (w v : A) (c : Node) → agree (place.Item at_top false) t w v → agree (place.Item at_top true) (one sort.Decl) (inside w kind.ExportDecl c 0) v
    pub members : (at_top exported skips : Bool) (t : Shape) (w v : A) (c : Node) → is_enum_kind (kind_of c) ≡ true → agree (place.Item at_top exported) t w v → (x1 x2 x3 x4 x5 : Node)
        → agree (place.Member skips) (many sort.TsEnumMember) (inside w (kind_of c) c 1) (in_body A test inside kinds v x1 x2 x3 x4 x5)
    pub member : (skips : Bool) (t : Shape) (w v : A) → agree (place.Member skips) t w v → kinds.usual v × kinds.body v
    pub init : (w v : A) (c n : Node) → kinds.body v → agree place.Read (maybe sort.Expr) (inside w kind.TsEnumMember c 1) (inside v (kind.AssignExpr Assign) n 1)

  module _ (keyed : (of : Ident) → N of → K of.sym) (seats : Seats A test inside kinds) (quiet : Quiet A test inside kinds N K) (owed : Owed) where
    abbrev In : (A → Type 0) → List Node → Type 0
    In = PassWhere A test inside

    said-pass : {e : Node} (a : A) → Said enums N K e → kinds.read a → Pass a e
    said-pass {e} a (relation.value v is) r = value-told A test inside kinds N K keyed seats quiet v e is a r
    said-pass a (relation.named of text n k) r = member-told A test inside kinds N K keyed seats quiet of text n k a r

    member-pass : (a : A) (of : Ident) (text : List ℕ) → N of → K text → TakesMember a → Pass a (member of text)
    member-pass a of text n k takes =
        member-passes A test inside kinds N K keyed seats quiet a of text n k (takes (member of text) (member-simple dummy_span (ident_node of ∷ key_of dummy_span text ∷ [])))

    if-named : (o : Option Ident) → IfN enums N K o → IfNamed N o
    if-named None h = tt
    if-named (Some of) h = h

    -- a node with a member in the place of a name, and perhaps a default
    default-pass : (t : Shape) (w v : A) (a x y n : Node) (span : Span) (of : Ident) (text : List ℕ) → suits place.Target t ≡ true → HasShape t a → kind_of a ≡ kind.AssignPatProp → agree place.Target t w v → N of → K text
        → ((b : A) → agree place.Read (maybe sort.Expr) (inside w kind.AssignPatProp a 1) b → Pass b y) → Pass (inside v kind.KeyValuePatProp n 1) (with_default span (member of text) y)
    default-pass t w v a x y n span of text s has e g nm k value = by (is_absent (kind_of y))
      where
        b : A
        b = inside v kind.KeyValuePatProp n 1

        m : Node
        m = node_of span kind.AssignPat (member of text ∷ y ∷ [])

        by : (z : Bool) → Pass b (cond z (member of text) m)
        by true = member-pass b of text nm k (owed.pattern t w v a n s has e g).1
        by false =
            let d = owed.default t w v a n m s has e g (member-first span of text y) in
            made-passes A test inside span kind.AssignPat (member of text ∷ y ∷ []) b d.0 (member-pass (inside b kind.AssignPat m 0) of text nm k d.1, (value (inside b kind.AssignPat m 1) d.2, tt))

    module _ (span : Span) (text : List ℕ) (e : Node) where
      pair-pass : (v : A) → test v kind.KeyValueProp (pair span text e) ≡ false → K text → Said enums N K e → Pass v (pair span text e)
      pair-pass v h k said =
          let n = pair span text e in
          made-passes A test inside span kind.KeyValueProp (key_of span text ∷ e ∷ []) v h (
            key-usual A test inside kinds N K keyed seats quiet span text k (inside v kind.KeyValueProp n 0) (seats.key v n),
            (said-pass (inside v kind.KeyValueProp n 1) said (seats.reads (inside v kind.KeyValueProp n 1) (seats.value v n)), tt),
          )

    at-index : (f : ℕ → A) (ns : List Node) → AllPass A test inside f ns → (i : ℕ) (c : Node) → slice_get ns i ≡ Some c → Pass (f i) c
    at-index = pass-at A test inside

    -- the child of a node of a kind
    child-pass : (w : A) (c d : Node) (k : Kind) (i : ℕ) → kind_of c ≡ k → Pass w c → slice_get (children_of c) i ≡ Some d → Pass (inside w k c i) d
    child-pass w c d k i e h get =
        subst (λ z. Pass (inside w z c i) d) e (at-index (λ j. inside w (kind_of c) c j) (children_of c) (passes-below A test inside w c h) i d get)

    mutual
      pub stands-pass : {p : Place} {t : Shape} {a b : Node} → Stands enums N K p t a b → suits p t ≡ true → (w v : A) → agree p t w v → Pass w a → Pass v b
      stands-pass {p} {t} {a} (relation.left has calm) s w v g h = owed.left p t w v a calm s has g h
      stands-pass {p} {t} {a} {b} (relation.kept has calm l e at ones) s w v g h =
          let here = passes-here A test inside w a h in
          passes-by A test inside v b (subst (λ z. test v z b ≡ false) (sym e) (owed.kept_here p t w v a b calm s has l e at ones g here))
          (subst (λ z. AllPass A test inside (λ i. inside v z b i) (children_of b)) (sym e)
          (ones-pass ones (λ i u get. child-suits enums.writes p t (kind_of a) (length (children_of a)) i u l s (shape_parts a t has).0 get) (λ i. inside w (kind_of a) a i) (λ i. inside v (kind_of a) b i)
          (owed.kept_below p t w v a b calm s has l e at ones g here) (passes-below A test inside w a h)))
      stands-pass {p} {t} {a} {b} (relation.listed has e f at items) s w v g h =
          let here = subst (λ z. test w z a ≡ false) e (passes-here A test inside w a h) in
          let below = subst (λ z. AllPass A test inside (λ i. inside w z a i) (children_of a)) e (passes-below A test inside w a h) in
          passes-by A test inside v b (subst (λ z. test v z b ≡ false) (sym f) (owed.listed_here p t w v a b s has e f g here))
          (subst (λ z. AllPass A test inside (λ i. inside v z b i) (children_of b)) (sym f)
          (items-pass items (items-suit p t s) (λ i. inside w kind.List a i) (λ j. inside v kind.List b j)
          (owed.listed_below p t w v a b s has e g (λ z. both-length enums N K (items-both enums N K items z))) below))
      stands-pass {t = t} (relation.read has suit is said) s w v g h = said-pass v said (owed.read t w v g)
      stands-pass {t = t} {a = a} (relation.target of text has suit is n k) s w v g h = member-pass v of text n k (owed.target t w v a suit has is g (passes-here A test inside w a h))
      stands-pass {t = t} (relation.short {e = e} span text has suit is k said) s w v g h = pair-pass span text e v (owed.property t w v (pair span text e) g) k said
      stands-pass {t = t} {a = a} (relation.patterned {x = x} {y = y} span at of text has suit is get o n k) s w v g h =
          let cs = key_of at text ∷ with_default span (member of text) y ∷ [] in
          let m = node_of span kind.KeyValuePatProp cs in
          made-passes A test inside span kind.KeyValuePatProp cs v (owed.pattern t w v a m suit has is g).0 (
            key-usual A test inside kinds N K keyed seats quiet at text k (inside v kind.KeyValuePatProp m 0) (seats.pattern_key v m),
            (default-pass t w v a x y m span of text suit has is g n k (λ b q. stands-pass o refl (inside w kind.AssignPatProp a 1) b q (child-pass w a x kind.AssignPatProp 1 is h get)), tt),
          )

      ones-pass : {f : ℕ → Place} {ts : List Shape} {cs ds : List Node} → Ones enums N K f ts cs ds → ((i : ℕ) (u : Shape) → slice_get ts i ≡ Some u → suits (f i) u ≡ true) → (g h : ℕ → A)
          → ((i : ℕ) (u : Shape) → slice_get ts i ≡ Some u → agree (f i) u (g i) (h i)) → AllPass A test inside g cs → AllPass A test inside h ds
      ones-pass relation.none s g h same p = tt
      ones-pass (relation.more {t = t} o os) s g h same p = (
        stands-pass o (s 0 t refl) (g 0) (h 0) (same 0 t refl) p.0,
        ones-pass os (λ i u get. s (suc i) u get) (λ i. g (suc i)) (λ i. h (suc i)) (λ i u get. same (suc i) u get) p.1,
      )

      items-pass : {p : Place} {t : Shape} {cs ds : List Node} → Items enums N K p t cs ds → suits p t ≡ true → (g h : ℕ → A)
          → ((i j : ℕ) → (is_several p ≡ false → i ≡ j) → agree p t (g i) (h j)) → AllPass A test inside g cs → AllPass A test inside h ds
      items-pass relation.empty s g h same q = tt
      items-pass (relation.item o os) s g h same q = (
        stands-pass o s (g 0) (h 0) (same 0 0 (λ z. refl)) q.0,
        items-pass os s (λ i. g (suc i)) (λ j. h (suc j)) (λ i j z. same (suc i) (suc j) (λ x. ap suc (z x))) q.1,
      )
      items-pass {p} {t} (relation.part {l = l} {ds = ds} o os is) s g h same q =
          let any = λ (i j : ℕ). same i j (λ z. no (sym z ∙ part-several enums N K o)) in
          subst (AllPass A test inside h) (sym is)
          (append-pass A test inside l ds h (spread A test inside (agree p t (g 0)) l (part-passes o s (g 0) q.0) h (λ j. any 0 j))
          (items-pass os s (λ i. g (suc i)) (far l h) (λ i j z. far-any (agree p t (g (suc i))) l h (λ x. any (suc i) x) j) q.1))

      -- wherever what is around them agrees
      part-passes : {p : Place} {t : Shape} {c : Node} {l : List Node} → Part enums N K p t c l → suits p t ≡ true → (w : A) → Pass w c → In (agree p t w) l
      part-passes {t = t} (relation.enum {at_top = at_top} {exported = exported} {c = c} {list = list} {m = m} span part around has is here n x get o) s w h =
          where-weaker A test inside (Holding A test inside kinds m) (agree (place.Item at_top exported) t w)
          (λ a q. (
            owed.item at_top exported t w a q,
            λ x1 x2 x3 x4 x5. stands-pass o refl (inside w (kind_of c) c 1) (in_body A test inside kinds a x1 x2 x3 x4 x5)
                (owed.members at_top exported (skips enums part) t w a c is q x1 x2 x3 x4 x5) (child-pass w c list (kind_of c) 1 refl h get),
          ))
          (part_statements enums span part around m)
          (part-pass A test inside kinds N K keyed seats quiet enums span part around m n (if-named around.name x))
      part-passes {t = t} {l = l} (relation.export {at_top = at_top} {c = c} {d = d} has e get o) s w h =
          where-weaker A test inside (agree (place.Item at_top true) (one sort.Decl) (inside w kind.ExportDecl c 0)) (agree (place.Item at_top false) t w)
          (λ a q. owed.export at_top t w a c q) l (part-passes o refl (inside w kind.ExportDecl c 0) (child-pass w c d kind.ExportDecl 0 e h get))
      part-passes {t = t} (relation.member {skips = skips} {c = c} {init = init} {e = e} o span text has is get related x) s w h =
          where-weaker A test inside (Inner A test inside kinds) (agree (place.Member skips) t w) (λ a q. owed.member skips t w a q) (member_in enums skips o span text e)
          (members-pass A test inside kinds N K keyed seats quiet enums skips o span text e (if-named o x)
          (λ a n b. stands-pass related refl (inside w kind.TsEnumMember c 1) (inside a (kind.AssignExpr Assign) n 1) (owed.init w a c n b) (child-pass w c init kind.TsEnumMember 1 is h get)))
