-- What is extracted of an expression in which no name is that of a member of an enum does the same where no name at all is.
use Rattle.std.proofs.Common.{◌≡◌, refl, sym, ap, ◌∙◌, subst, List, [], ◌∷◌, ◌++◌, map, Bool, true, false, cond}
use Rattle.std.specs.List.{filter, flat_map}
use Rattle.std.proofs.lemmas.Bool.{false≢true}
use Rattle.ecma_kind.specs.declared.kind.Kind.{Kind}
use Rattle.ecma_kind.specs.declared.kind.Kind.TheVariants as kind
use Rattle.ecma_kind.specs.declared.operators.BinaryOp.{BinaryOp}
use Rattle.ecma_kind.specs.declared.operators.BinaryOp.TheVariants.{LogicalOr, LogicalAnd, NullishCoalescing}
use Rattle.ecma_kind.specs.declared.operators.UnaryOp.{UnaryOp}
use Rattle.ecma_kind.specs.declared.operators.UnaryOp.TheVariants as operator
use Rattle.ecma_kind.specs.declared.span.Span.{Span}
use Rattle.ecma_tree.specs.Nodes.{node_of}
use Rattle.ecma_tree.proofs.Layers.{from_leaves_out}
use Rattle.ecma_tree.specs.declared.node.Node.{Node, Node-F, roll-Node, out-Node, ind-Node}
use Rattle.ecma_tree.specs.declared.node.Node.TheViews.{out-roll-Node}
use Rattle.ecma_judge.specs.declared.ctx.ExprCtx.{ExprCtx}
use Rattle.ecma_judge.specs.Extraction.{extracted, extracted_by, given as left_of, way_by, part_way_by, name_way, unary_way, binary_way, array_way, object_way, new_way, has_spread, has_kept, is_name, makes_date, may_have_effects, kept_items, kept_list, kept_lists, kept}
use Rattle.ecma_judge.specs.Judged.{judged}
use Rattle.ecma_judge.specs.Parts.{passes_at}
use Rattle.ecma_runs.specs.Enums.{Enums}
use Rattle.ecma_runs.specs.Run.{◌>>=◌}
use Rattle.ecma_runs.specs.Meaning.{ExecutionContext, Meaning}
use Rattle.ecma_runs.specs.Expressions.{value_of}
use Rattle.ecma_runs.specs.Declarations.{has_no_effect}
use Rattle.ecma_runs.specs.Evaluation.{role_by, meaning}
use Rattle.ecma_runs.proofs.Layer.{meaning-roll}
use Rattle.ecma_run_enums.specs.Asking.{names_member, is_type_part, none_at, none_by, none_asks, names_no_members}
use Rattle.ecma_run_enums.proofs.Two.{Two, first, second, Part, meanings}
use Rattle.ecma_run_enums.proofs.Expressions.{value_same}
use Rattle.ecma_run_enums.proofs.Nodes.{Same, role_same}
use Rattle.ecma_run_enums.proofs.Asking.{Test, Asked, asked_type, asked_nothing, asked_all, asked, none_ask}
use Rattle.ecma_run_enums.proofs.Laws.{unnamed_members_do_not_matter}
use Rattle.ecma_extract_runs.specs.Evaluated.{evaluated}
use Rattle.ecma_extract_runs.specs.Fits.{is_list, is_item, lists_items, all_fit, fits_by, fits_step, fits}
use Rattle.ecma_extract_runs.proofs.Dates.{both_true}

-- ---- what is parted is no type and has effects, and so in each of its children no name is a member's

abbrev is_parted : Kind → Bool
is_parted (kind.UnaryExpr op) = true
is_parted (kind.BinExpr op) = true
is_parted kind.SeqExpr = true
is_parted kind.ParenExpr = true
is_parted kind.TsTypeAssertion = true
is_parted kind.TsConstAssertion = true
is_parted kind.TsNonNullExpr = true
is_parted kind.TsAsExpr = true
is_parted kind.TsInstantiation = true
is_parted kind.TsSatisfiesExpr = true
is_parted kind.Tpl = true
is_parted kind.ArrayLit = true
is_parted kind.ObjectLit = true
is_parted kind.List = true
is_parted kind.ComputedPropName = true
is_parted kind.KeyValueProp = true
is_parted kind.GetterProp = true
is_parted kind.SetterProp = true
is_parted kind.MethodProp = true
is_parted k = false

plainly : (k : Kind) (ms : List Meaning) → is_parted k ≡ true → (is_type_part k ≡ false) × (has_no_effect k ms ≡ false)
plainly (kind.UnaryExpr op) ms is = (refl, refl)
plainly (kind.BinExpr op) ms is = (refl, refl)
plainly kind.SeqExpr ms is = (refl, refl)
plainly kind.ParenExpr ms is = (refl, refl)
plainly kind.TsTypeAssertion ms is = (refl, refl)
plainly kind.TsConstAssertion ms is = (refl, refl)
plainly kind.TsNonNullExpr ms is = (refl, refl)
plainly kind.TsAsExpr ms is = (refl, refl)
plainly kind.TsInstantiation ms is = (refl, refl)
plainly kind.TsSatisfiesExpr ms is = (refl, refl)
plainly kind.Tpl ms is = (refl, refl)
plainly kind.ArrayLit ms is = (refl, refl)
plainly kind.ObjectLit ms is = (refl, refl)
plainly kind.List ms is = (refl, refl)
plainly kind.ComputedPropName ms is = (refl, refl)
plainly kind.KeyValueProp ms is = (refl, refl)
plainly kind.GetterProp ms is = (refl, refl)
plainly kind.SetterProp ms is = (refl, refl)
plainly kind.MethodProp ms is = (refl, refl)
plainly k ms is = absurd (false≢true is)

module _ (enums : Enums) where
  abbrev asks : Test
  asks k n = names_member enums k

  asks-out : (n : Node) → none_asks asks n ≡ none_at asks (out-Node n).kind (out-Node n).children n (map (none_asks asks) (out-Node n).children)
  asks-out n = from_leaves_out Bool (none_by asks) n

  below_asked : (n : Node) (k : Kind) (ns : List Node) → is_parted k ≡ true → Asked asks k ns n (map (none_asks asks) ns) → none_ask asks ns ≡ true
  below_asked n k ns is (asked_type a) = absurd (false≢true (sym (plainly k (map meaning ns) is).0 ∙ a))
  below_asked n k ns is (asked_nothing a) = absurd (false≢true (sym (plainly k (map meaning ns) is).1 ∙ a))
  below_asked n k ns is (asked_all q h) = h

  children_ask : (n : Node) (k : Kind) (ns : List Node) → (out-Node n).kind ≡ k → (out-Node n).children ≡ ns → is_parted k ≡ true → none_asks asks n ≡ true → none_ask asks ns ≡ true
  children_ask n k ns same shape is h =
      below_asked n k ns is (asked asks k ns n (map (none_asks asks) ns)
      (ap (λ l. none_at asks k l n (map (none_asks asks) l)) (sym shape) ∙ (ap (λ z. none_at asks z (out-Node n).children n (map (none_asks asks) (out-Node n).children)) (sym same) ∙ (sym (asks-out n) ∙ h))))

  -- what is known, and the same without names of members
  abbrev t : Two
  t = record { one = enums; other = record enums { names = [] } }

  -- ---- lists of expressions that give the same

  abbrev pub EachSame : List Node → Type 0
  EachSame [] = Unit {0}
  EachSame (n ∷ ns) = ((x : ExecutionContext) → (meaning n).value (first t x) ≡ (meaning n).value (second t x)) × EachSame ns

  pub evaluated_same : (ns : List Node) → EachSame ns → (x : ExecutionContext) → evaluated ns (first t x) ≡ evaluated ns (second t x)
  evaluated_same [] h x = refl
  evaluated_same (n ∷ ns) h x = λ i. h.0 x i >>= λ _. evaluated_same ns h.1 x i

  pub each_append : (ns ms : List Node) → EachSame ns → EachSame ms → EachSame (ns ++ ms)
  each_append [] ms h g = g
  each_append (n ∷ ns) ms h g = (h.0, each_append ns ms h.1 g)

  pub itself_same : (n : Node) → names_no_members enums n ≡ true → (x : ExecutionContext) → (meaning n).value (first t x) ≡ (meaning n).value (second t x)
  itself_same n h = (unnamed_members_do_not_matter enums n h).value

  -- ---- nodes that mean the same

  abbrev AllSame : List Node → Type 0
  AllSame [] = Unit {0}
  AllSame (n ∷ ns) = Same t (meaning n) × AllSame ns

  all_same : (ns : List Node) → none_ask asks ns ≡ true → AllSame ns
  all_same [] h = tt
  all_same (n ∷ ns) h = let a = both_true (none_asks asks n) (none_ask asks ns) h in (unnamed_members_do_not_matter enums n a.0, all_same ns a.1)

  cond_same : (b : Bool) (n : Node) (ns : List Node) → Same t (meaning n) → AllSame ns → AllSame (cond b (n ∷ ns) ns)
  cond_same true n ns h g = (h, g)
  cond_same false n ns h g = g

  filter_same : (p : Node → Bool) (ns : List Node) → AllSame ns → AllSame (filter p ns)
  filter_same p [] h = tt
  filter_same p (n ∷ ns) h = cond_same (p n) n (filter p ns) h.0 (filter_same p ns h.1)

  parts : (ns : List Node) → AllSame ns → List (Part t)
  parts [] h = []
  parts (n ∷ ns) h = (meaning n, h.0) ∷ parts ns h.1

  meanings_of_parts : (ns : List Node) (h : AllSame ns) → meanings t (parts ns h) ≡ map meaning ns
  unfolding parts
  meanings_of_parts [] h = refl
  meanings_of_parts (n ∷ ns) h = ap (λ l. meaning n ∷ l) (meanings_of_parts ns h.1)

  -- a list of such
  list_same : (span : Span) (ns : List Node) → AllSame ns → Same t (meaning (node_of span kind.List ns))
  list_same span ns h =
      subst (Same t) (sym (meaning-roll (record { span = span; kind = kind.List; children = ns })))
      (subst (λ ms. Same t (role_by (node_of span kind.List ns) kind.List ms)) (meanings_of_parts ns h) (role_same t (node_of span kind.List ns) kind.List (parts ns h) tt))

  -- ---- objects with those properties alone that have effects

  module _ (ctx : ExprCtx) where
    abbrev kept_value : Node → List Node → ExecutionContext → ExecutionContext → Type 0
    kept_value node lists x y = value_of node kind.ObjectLit (map meaning (kept_lists ctx lists)) x ≡ value_of node kind.ObjectLit (map meaning (kept_lists ctx lists)) y

    to_list : (k : Kind) → is_list k ≡ true → k ≡ kind.List
    to_list kind.List is = refl
    to_list k is = absurd (false≢true is)

    list_kept : (l : Node) → is_list (out-Node l).kind ≡ true → none_asks asks l ≡ true → Same t (meaning (kept_list ctx l))
    list_kept l is h =
        let same : (out-Node l).kind ≡ kind.List = to_list (out-Node l).kind is in
        let ns : List Node = (out-Node l).children in
        let all : AllSame ns = all_same ns (children_ask l kind.List ns same refl refl h) in
        subst (λ k. Same t (meaning (node_of (out-Node l).span k (kept_items ctx ns)))) (sym same) (list_same (out-Node l).span (kept_items ctx ns) (filter_same (may_have_effects ctx) ns all))

    object_kept : (node : Node) (lists : List Node) → lists_items lists ≡ true → none_ask asks lists ≡ true → (x : ExecutionContext) → kept_value node lists (first t x) (second t x)
    object_kept node [] f h x = refl
    object_kept node (l ∷ []) f h x =
        value_same t x node kind.ObjectLit ((meaning (kept_list ctx l), list_kept l (both_true (is_list (out-Node l).kind) (is_item l) f).0 (both_true (none_asks asks l) true h).0) ∷ []) tt
    object_kept node (l ∷ m ∷ ls) f h x = refl

    kept_same : (n : Node) → (out-Node n).kind ≡ kind.ObjectLit → lists_items (out-Node n).children ≡ true → none_ask asks (out-Node n).children ≡ true → EachSame (kept ctx n ∷ [])
    kept_same n same f h = (λ x. subst (λ k. (meaning (node_of (out-Node n).span k (kept_lists ctx (out-Node n).children))).value (first t x) ≡ (meaning (node_of (out-Node n).span k (kept_lists ctx (out-Node n).children))).value (second t x)) (sym same) (object_same x), tt)
      where
        object : Node
        object = node_of (out-Node n).span kind.ObjectLit (kept_lists ctx (out-Node n).children)

        object_same : (x : ExecutionContext) → (meaning object).value (first t x) ≡ (meaning object).value (second t x)
        object_same x =
            subst (λ (m : Meaning). m.value (first t x) ≡ m.value (second t x)) (sym (meaning-roll (record { span = (out-Node n).span; kind = kind.ObjectLit; children = kept_lists ctx (out-Node n).children })))
            (object_kept object (out-Node n).children f h x)

    -- ---- what is extracted

    abbrev Claim : Node → Type 0
    Claim n = fits n ≡ true → names_no_members enums n ≡ true → EachSame (extracted ctx n)

    abbrev Child : Type 0
    Child = (n : Node) × Claim n

    abbrev nodes : List Child → List Node
    nodes ps = map (λ (p : Child). p.0) ps

    abbrev keeps : List Child → List (List Node)
    keeps ps = map (extracted ctx) (nodes ps)

    all_parts : (ps : List Child) → all_fit (map fits (nodes ps)) ≡ true → none_ask asks (nodes ps) ≡ true → EachSame (flat_map (λ es. es) (keeps ps))
    all_parts [] f h = tt
    all_parts (p ∷ ps) f h =
        let a = both_true (fits p.0) (all_fit (map fits (nodes ps))) f in
        let b = both_true (none_asks asks p.0) (none_ask asks (nodes ps)) h in
        each_append (extracted ctx p.0) (flat_map (λ es. es) (keeps ps)) (p.1 a.0 b.0) (all_parts ps a.1 b.1)

    module _ (n : Node) (h : names_no_members enums n ≡ true) where
      whole : EachSame (n ∷ [])
      whole = (itself_same n h, tt)

      unary_left : (op : UnaryOp) (ps : List Child) → EachSame (flat_map (λ es. es) (keeps ps)) → EachSame (left_of ctx (unary_way op n) n (keeps ps))
      unary_left operator.Delete ps all = whole
      unary_left operator.TypeOf ps all = by (passes_at is_name 0 n) refl
        where
          by : (b : Bool) → passes_at is_name 0 n ≡ b → EachSame (left_of ctx (unary_way operator.TypeOf n) n (keeps ps))
          by true e = rw e tt
          by false e = rw e all
      unary_left op ps all = all

      binary_left : (op : BinaryOp) (ps : List Child) → EachSame (flat_map (λ es. es) (keeps ps)) → EachSame (left_of ctx (binary_way op) n (keeps ps))
      binary_left LogicalOr ps all = whole
      binary_left LogicalAnd ps all = whole
      binary_left NullishCoalescing ps all = whole
      binary_left op ps all = all

      name_left : (ps : List Child) (b : Bool) → (judged ctx n).effects ≡ b → EachSame (left_of ctx (name_way ctx n) n (keeps ps))
      name_left ps true e = rw e whole
      name_left ps false e = rw e tt

      new_left : (ps : List Child) (b : Bool) → makes_date ctx n ≡ b → EachSame (left_of ctx (new_way ctx n) n (keeps ps))
      new_left ps true e = rw e tt
      new_left ps false e = rw e whole

      array_left : (ps : List Child) → EachSame (flat_map (λ es. es) (keeps ps)) → (b : Bool) → passes_at has_spread 0 n ≡ b → EachSame (left_of ctx (array_way n) n (keeps ps))
      array_left ps all true e = rw e whole
      array_left ps all false e = rw e all

      object_left : (ps : List Child) → EachSame (flat_map (λ es. es) (keeps ps)) → EachSame (kept ctx n ∷ []) → (b : Bool) → passes_at has_kept 0 n ≡ b → EachSame (left_of ctx (object_way n) n (keeps ps))
      object_left ps all some true e = rw e some
      object_left ps all some false e = rw e all

      all_of : (k : Kind) (ps : List Child) → (out-Node n).kind ≡ k → (out-Node n).children ≡ nodes ps → is_parted k ≡ true → all_fit (map fits (nodes ps)) ≡ true → EachSame (flat_map (λ es. es) (keeps ps))
      all_of k ps same shape is f = all_parts ps f (children_ask n k (nodes ps) same shape is h)

      first_of : (k : Kind) (p : Child) (ps : List Child) → (out-Node n).kind ≡ k → (out-Node n).children ≡ nodes (p ∷ ps) → is_parted k ≡ true → fits p.0 ≡ true → EachSame (extracted ctx p.0)
      first_of k p ps same shape is f = p.1 f (both_true (none_asks asks p.0) (none_ask asks (nodes ps)) (children_ask n k (nodes (p ∷ ps)) same shape is h)).0

      object_of : (ps : List Child) → (out-Node n).kind ≡ kind.ObjectLit → (out-Node n).children ≡ nodes ps → lists_items (nodes ps) ≡ true → EachSame (kept ctx n ∷ [])
      object_of ps same shape f =
          kept_same n same (ap lists_items shape ∙ f) (children_ask n kind.ObjectLit (out-Node n).children same refl refl h)

      left_same : (k : Kind) (ps : List Child) → (out-Node n).kind ≡ k → (out-Node n).children ≡ nodes ps → fits_by k (nodes ps) (map fits (nodes ps)) ≡ true → EachSame (left_of ctx (way_by ctx k n) n (keeps ps))
      unfolding way_by part_way_by
      left_same (kind.Ident name ctxt optional) ps same shape f = name_left ps (judged ctx n).effects refl
      left_same (kind.Str value raw) ps same shape f = tt
      left_same (kind.Bool value) ps same shape f = tt
      left_same kind.Null ps same shape f = tt
      left_same (kind.Number value raw) ps same shape f = tt
      left_same (kind.BigInt value raw) ps same shape f = tt
      left_same (kind.Regex exp flags) ps same shape f = tt
      left_same kind.ThisExpr ps same shape f = tt
      left_same (kind.PrivateName name) ps same shape f = tt
      left_same kind.FnExpr ps same shape f = tt
      left_same (kind.ArrowExpr is_async is_generator) ps same shape f = tt
      left_same kind.Absent ps same shape f = tt
      left_same (kind.IdentName name) ps same shape f = tt
      left_same (kind.UnaryExpr op) ps same shape f = unary_left op ps (all_of (kind.UnaryExpr op) ps same shape refl f)
      left_same (kind.BinExpr op) ps same shape f = binary_left op ps (all_of (kind.BinExpr op) ps same shape refl f)
      left_same kind.SeqExpr ps same shape f = all_of kind.SeqExpr ps same shape refl f
      left_same kind.List ps same shape f = all_of kind.List ps same shape refl f
      left_same kind.ComputedPropName ps same shape f = all_of kind.ComputedPropName ps same shape refl f
      left_same kind.KeyValueProp ps same shape f = all_of kind.KeyValueProp ps same shape refl f
      left_same kind.ParenExpr [] same shape f = tt
      left_same kind.ParenExpr (e ∷ ps) same shape f = all_of kind.ParenExpr (e ∷ ps) same shape refl (both_true (is_item e.0) (all_fit (map fits (nodes (e ∷ ps)))) f).1
      left_same kind.TsAsExpr [] same shape f = tt
      left_same kind.TsAsExpr (e ∷ ps) same shape f = first_of kind.TsAsExpr e ps same shape refl (both_true (is_item e.0) (fits e.0) f).1
      left_same kind.TsTypeAssertion [] same shape f = tt
      left_same kind.TsTypeAssertion (e ∷ ps) same shape f = first_of kind.TsTypeAssertion e ps same shape refl (both_true (is_item e.0) (fits e.0) f).1
      left_same kind.TsConstAssertion [] same shape f = tt
      left_same kind.TsConstAssertion (e ∷ ps) same shape f = first_of kind.TsConstAssertion e ps same shape refl (both_true (is_item e.0) (fits e.0) f).1
      left_same kind.TsNonNullExpr [] same shape f = tt
      left_same kind.TsNonNullExpr (e ∷ ps) same shape f = first_of kind.TsNonNullExpr e ps same shape refl (both_true (is_item e.0) (fits e.0) f).1
      left_same kind.TsInstantiation [] same shape f = tt
      left_same kind.TsInstantiation (e ∷ ps) same shape f = first_of kind.TsInstantiation e ps same shape refl (both_true (is_item e.0) (fits e.0) f).1
      left_same kind.TsSatisfiesExpr [] same shape f = tt
      left_same kind.TsSatisfiesExpr (e ∷ ps) same shape f = first_of kind.TsSatisfiesExpr e ps same shape refl (both_true (is_item e.0) (fits e.0) f).1
      left_same kind.GetterProp [] same shape f = tt
      left_same kind.GetterProp (key ∷ ps) same shape f = first_of kind.GetterProp key ps same shape refl f
      left_same kind.SetterProp [] same shape f = tt
      left_same kind.SetterProp (key ∷ ps) same shape f = first_of kind.SetterProp key ps same shape refl f
      left_same kind.MethodProp [] same shape f = tt
      left_same kind.MethodProp (key ∷ ps) same shape f = first_of kind.MethodProp key ps same shape refl f
      left_same kind.Tpl [] same shape f = tt
      left_same kind.Tpl (e ∷ ps) same shape f =
          first_of kind.Tpl e ps same shape refl (both_true (fits e.0) (all_fit (map fits (nodes ps))) (both_true (lists_items (nodes (e ∷ ps))) (all_fit (map fits (nodes (e ∷ ps)))) f).1).0
      left_same kind.ArrayLit ps same shape f =
          array_left ps (all_of kind.ArrayLit ps same shape refl (both_true (lists_items (nodes ps)) (all_fit (map fits (nodes ps))) f).1) (passes_at has_spread 0 n) refl
      left_same kind.ObjectLit ps same shape f =
          let a = both_true (lists_items (nodes ps)) (all_fit (map fits (nodes ps))) f in
          object_left ps (all_of kind.ObjectLit ps same shape refl a.1) (object_of ps same shape a.0) (passes_at has_kept 0 n) refl
      left_same kind.NewExpr ps same shape f = new_left ps (makes_date ctx n) refl
      left_same k ps same shape f = whole

    extracted-out : (n : Node) → extracted ctx n ≡ left_of ctx (way_by ctx (out-Node n).kind n) n (map (extracted ctx) (out-Node n).children)
    unfolding extracted
    extracted-out n = from_leaves_out (List Node) (extracted_by ctx) n

    claim_by : (n : Node) (ps : List Child) → nodes ps ≡ (out-Node n).children → Claim n
    claim_by n ps same f h =
        let fit : fits_by (out-Node n).kind (nodes ps) (map fits (nodes ps)) ≡ true = ap (λ ns. fits_by (out-Node n).kind ns (map fits ns)) same ∙ (sym (from_leaves_out Bool fits_step n) ∙ f) in
        subst EachSame (ap (λ ns. left_of ctx (way_by ctx (out-Node n).kind n) n (map (extracted ctx) ns)) same ∙ sym (extracted-out n))
        (left_same n h (out-Node n).kind ps refl (sym same) fit)

    -- of what fits, where no name is a member's
    pub extracted_same : (n : Node) → Claim n
    extracted_same = ind-Node Claim (λ x y same. claim_by (roll-Node x) y.children (ap (λ z. z.children) same ∙ sym (ap (λ (z : Node-F Node). z.children) (out-roll-Node x))))
