-- What meets an ask meets each wider one.
use Rattle.std.proofs.Common.{◌≡◌, inr, ℕ, zero, suc, Bool, true, false, ◌&&◌, ◌||◌, length, refl, sym, ap, ap₂, subst}
use denote.Enum.Bare.{same_true}
use Rattle.ecma_kind.specs.Sorts.{is_expr, is_pattern, is_stmt, is_module_decl}
use Rattle.ecma_kind.specs.contracts.shapes.Sort as contracts_sort
use Rattle.ecma_kind.specs.contracts.shapes.Count as contracts_count
use Rattle.ecma_kind.specs.declared.kind.Kind.{Kind}
use Rattle.ecma_kind.specs.declared.kind.Kind.TheVariants as kind
use Rattle.ecma_kind.specs.declared.shapes.Count.{Count}
use Rattle.ecma_kind.specs.declared.shapes.Count.TheVariants.{One, Maybe}
use Rattle.ecma_kind.specs.declared.shapes.Sort.{Sort}
use Rattle.ecma_kind.specs.declared.shapes.Sort.TheVariants as sort
use Rattle.ecma_tree.specs.Sorted.{is_absent, is_list}
use Rattle.ecma_tree.specs.declared.node.Node.{Node}
use Rattle.ecma_grammar.specs.trees.Parts.{kind_of, children_of}
use Rattle.ecma_grammar_laws.specs.RawSorts.{RawSort, RawShape, HasRawShape, HasRawSort, allows_raw, belongs_raw, belongs_or_super, is_super, is_parameter_property, child_shapes_raw, field_shapes_raw, shape_of, sorted, parameter, setter_parameter, one, maybe}
use Rattle.ecma_grammar_laws.proofs.RawShapes.{HaveRaw, both, parts_of, from_parts}
use Rattle.ecma_grammar_laws.proofs.Asks.{Chained, expressions, patterns, entities, Ask, any, shape, pattern, behind, link, head_start, template_item, Meets, is_annotated, same_sort, same_count, within_expression, within_declaration, within_other, within, one_fits, same_raw_sort, shape_fits, same_chain, fits}

pub no : {A : Type 0} → false ≡ true → A
no h = cc

pub either_true : {A : Type 0} (x y : Bool) → (x ≡ true → A) → (y ≡ true → A) → (x || y) ≡ true → A
either_true true y f g h = f refl
either_true false y f g h = g h

pub or_left : (x y : Bool) → x ≡ true → (x || y) ≡ true
or_left true y h = refl
or_left false y h = no h

pub or_right : (x y : Bool) → y ≡ true → (x || y) ≡ true
or_right true y h = refl
or_right false y h = h

-- `super` may stand nowhere where no expression may
pub only_belongs : (x y : Bool) → (x || (y && false)) ≡ true → x ≡ true
only_belongs true y h = refl
only_belongs false true h = no h
only_belongs false false h = no h

pub sorts_same : (s t : Sort) → same_sort s t ≡ true → s ≡ t
sorts_same s t h = same_true contracts_sort.the_type tt s t h

pub counts_same : (s t : Count) → same_count s t ≡ true → s ≡ t
counts_same s t h = same_true contracts_count.the_type tt s t h

raw_sorts_same : (s t : RawSort) → same_raw_sort s t ≡ true → s ≡ t
raw_sorts_same (sorted s) (sorted t) h = ap sorted (sorts_same s t h)
raw_sorts_same parameter parameter h = refl
raw_sorts_same setter_parameter setter_parameter h = refl
raw_sorts_same _ _ h = no h

-- wider sorts

callee : (k : Kind) → belongs_or_super sort.Expr k ≡ true → belongs_or_super sort.Callee k ≡ true
callee kind.Super h = refl
callee kind.Import h = refl
callee _ h = h

element : (k : Kind) → belongs_or_super sort.Expr k ≡ true → belongs_or_super sort.ExprOrSpread k ≡ true
element kind.SpreadElement h = refl
element _ h = h

arrow_body : (k : Kind) → belongs_or_super sort.Expr k ≡ true → belongs_or_super sort.BlockStmtOrExpr k ≡ true
arrow_body kind.BlockStmt h = refl
arrow_body _ h = h

initializer : (k : Kind) → belongs_or_super sort.Expr k ≡ true → belongs_or_super sort.VarDeclOrExpr k ≡ true
initializer (kind.VarDecl _ _) h = refl
initializer _ h = h

grow : (x y z : Bool) → (x || z) ≡ true → ((x || y) || z) ≡ true
grow true y z h = refl
grow false true z h = refl
grow false false z h = h

loop_head : (k : Kind) → belongs_or_super sort.Expr k ≡ true → belongs_or_super sort.ForHead k ≡ true
loop_head (kind.VarDecl _ _) h = refl
loop_head k h = grow (is_expr k) (is_pattern k) (is_super k && true) h

expression_within : (t : Sort) (k : Kind) → within_expression t ≡ true → belongs_or_super sort.Expr k ≡ true → belongs_or_super t k ≡ true
expression_within sort.Callee k h b = callee k b
expression_within sort.ExprOrSpread k h b = element k b
expression_within sort.BlockStmtOrExpr k h b = arrow_body k b
expression_within sort.VarDeclOrExpr k h b = initializer k b
expression_within sort.ForHead k h b = loop_head k b
expression_within _ k h b = no h

statement : (k : Kind) → belongs_or_super sort.Decl k ≡ true → belongs_or_super sort.Stmt k ≡ true
statement kind.BlockStmt h = refl
statement kind.EmptyStmt h = refl
statement kind.DebuggerStmt h = refl
statement kind.ReturnStmt h = refl
statement kind.LabeledStmt h = refl
statement kind.BreakStmt h = refl
statement kind.ContinueStmt h = refl
statement kind.IfStmt h = refl
statement kind.SwitchStmt h = refl
statement kind.ThrowStmt h = refl
statement kind.TryStmt h = refl
statement kind.WhileStmt h = refl
statement kind.DoWhileStmt h = refl
statement kind.ForStmt h = refl
statement kind.ForInStmt h = refl
statement (kind.ForOfStmt _) h = refl
statement kind.ExprStmt h = refl
statement _ h = h

item : (k : Kind) → belongs_or_super sort.Stmt k ≡ true → belongs_or_super sort.ModuleItem k ≡ true
item k h = grow (is_stmt k) (is_module_decl k) (is_super k && false) h

declaration_within : (t : Sort) (k : Kind) → within_declaration t ≡ true → belongs_or_super sort.Decl k ≡ true → belongs_or_super t k ≡ true
declaration_within sort.Stmt k h b = statement k b
declaration_within sort.ModuleItem k h b = item k (statement k b)
declaration_within _ k h b = no h

reference : (k : Kind) → belongs_or_super sort.TsEntityName k ≡ true → belongs_or_super sort.TsModuleRef k ≡ true
reference (kind.Ident _ _ _) h = refl
reference kind.TsQualifiedName h = refl
reference kind.TsExternalModuleRef h = refl
reference _ h = h

other_within : (s t : Sort) (k : Kind) → within_other s t ≡ true → belongs_or_super s k ≡ true → belongs_or_super t k ≡ true
other_within sort.Expr t k h b = expression_within t k h b
other_within sort.Stmt t k h b = subst (λ x. belongs_or_super x k ≡ true) (sym (sorts_same t sort.ModuleItem h)) (item k b)
other_within sort.Decl t k h b = declaration_within t k h b
other_within sort.TsEntityName t k h b = subst (λ x. belongs_or_super x k ≡ true) (sym (sorts_same t sort.TsModuleRef h)) (reference k b)
other_within _ t k h b = no h

sorted_within : (s t : Sort) (k : Kind) → (same_sort s t || within_other s t) ≡ true → belongs_or_super s k ≡ true → belongs_or_super t k ≡ true
sorted_within s t k h b = either_true (same_sort s t) (within_other s t) (λ e. subst (λ x. belongs_or_super x k ≡ true) (sorts_same s t e) b) (λ e. other_within s t k e b) h

pub within_sound : (s t : RawSort) (k : Kind) → within s t ≡ true → belongs_raw s k ≡ true → belongs_raw t k ≡ true
within_sound (sorted s) (sorted t) k h b = sorted_within s t k h b
within_sound (sorted s) parameter k h b = or_left (belongs_or_super sort.Pat k) (is_parameter_property k) (subst (λ x. belongs_or_super x k ≡ true) (sorts_same s sort.Pat h) b)
within_sound parameter parameter k h b = b
within_sound _ _ k h b = no h

-- a list is of no such sort

no_list_sort : (s : Sort) → belongs_or_super s kind.List ≡ true → ⊥
no_list_sort sort.Program h = no h
no_list_sort _ h = no h

pub sorted_no_list : (s : Sort) (k : Kind) → belongs_or_super s k ≡ true → is_list k ≡ false
sorted_no_list s kind.List h = absurd (no_list_sort s h)
sorted_no_list s _ h = refl

within_no_list : (s t : RawSort) (k : Kind) → within s t ≡ true → belongs_raw s k ≡ true → is_list k ≡ false
within_no_list (sorted s) t k h b = sorted_no_list s k b
within_no_list parameter t kind.List h b = no b
within_no_list parameter t _ h b = refl
within_no_list setter_parameter t k h b = no h

-- only the children of a list depend on its shape
pub same_children : (k : Kind) (s t : RawShape) (n : ℕ) → is_list k ≡ false → child_shapes_raw k s n ≡ child_shapes_raw k t n
same_children kind.List s t n h = cc
same_children kind.SeqExpr s t zero h = refl
same_children kind.SeqExpr s t (suc n) h = refl
same_children _ s t n h = refl

-- a node of one shape has another that allows its kind
pub reshaped : (n : Node) (s t : RawShape) → is_list (kind_of n) ≡ false → allows_raw t (kind_of n) ≡ true → HasRawShape s n → HasRawShape t n
reshaped n s t l a h = from_parts n t a (subst (λ ss. HaveRaw ss (children_of n)) (same_children (kind_of n) s t (length (children_of n)) l) (parts_of n s h).1)

one_wider : (c : Count) (s t : RawSort) (n : Node) → one_fits One c ≡ true → within s t ≡ true → HasRawShape (one s) n → HasRawShape (shape_of c t) n
one_wider One s t n f h m =
    let b = (parts_of n (one s) m).0 in
    reshaped n (one s) (one t) (within_no_list s t (kind_of n) h b) (within_sound s t (kind_of n) h b) m
one_wider Maybe s t n f h m =
    let b = (parts_of n (one s) m).0 in
    reshaped n (one s) (maybe t) (within_no_list s t (kind_of n) h b) (or_right (is_absent (kind_of n)) (belongs_raw t (kind_of n)) (within_sound s t (kind_of n) h b)) m
one_wider _ s t n f h m = no f

wider_by : (c d : Count) (s t : RawSort) (n : Node) → one_fits c d ≡ true → within s t ≡ true → HasRawShape (shape_of c s) n → HasRawShape (shape_of d t) n
wider_by One d s t n f h m = one_wider d s t n f h m
wider_by _ d s t n f h m = no f

pub shape_fits_sound : (s t : RawShape) (n : Node) → shape_fits s t ≡ true → HasRawShape s n → HasRawShape t n
shape_fits_sound s t n h m =
    either_true (same_count s.count t.count && same_raw_sort s.sort t.sort) (one_fits s.count t.count && within s.sort t.sort)
    (λ e. (let w = both (same_count s.count t.count) (same_raw_sort s.sort t.sort) e in
    let is : s ≡ t = ap₂ shape_of (counts_same s.count t.count w.0) (raw_sorts_same s.sort t.sort w.1) in
    subst (λ x. HasRawShape x n) is m))
    (λ e. (let w = both (one_fits s.count t.count) (within s.sort t.sort) e in wider_by s.count t.count s.sort t.sort n w.0 w.1 m)) h

-- a pattern has that sort

annotated_allowed : (k : Kind) → is_annotated k ≡ true → belongs_or_super sort.Pat k ≡ true
annotated_allowed kind.BindingIdent h = refl
annotated_allowed (kind.ArrayPat _) h = refl
annotated_allowed (kind.ObjectPat _) h = refl
annotated_allowed kind.RestPat h = refl
annotated_allowed _ h = no h

annotated_children : (k : Kind) (s : RawShape) (n : ℕ) → is_annotated k ≡ true → child_shapes_raw k s n ≡ field_shapes_raw k 2
annotated_children kind.BindingIdent s n h = refl
annotated_children (kind.ArrayPat _) s n h = refl
annotated_children (kind.ObjectPat _) s n h = refl
annotated_children kind.RestPat s n h = refl
annotated_children _ s n h = no h

pub pattern_sorted : (n : Node) → Meets pattern n → HasRawSort sort.Pat n
pattern_sorted n m =
    from_parts n (one (sorted sort.Pat)) (annotated_allowed (kind_of n) m.0)
    (subst (λ ss. HaveRaw ss (children_of n)) (sym (annotated_children (kind_of n) (one (sorted sort.Pat)) (length (children_of n)) m.0)) m.1)

chains_same : (c d : Chained) → same_chain c d ≡ true → c ≡ d
chains_same expressions expressions h = refl
chains_same patterns patterns h = refl
chains_same entities entities h = refl
chains_same _ _ h = no h

pub fits_sound : (p q : Ask) (n : Node) → fits p q ≡ true → Meets p n → Meets q n
fits_sound p any n h m = tt
fits_sound (shape s) (shape t) n h m = shape_fits_sound s t n h m
fits_sound (shape s) head_start n h m =
    let e = shape_fits_sound s (one (sorted sort.Expr)) n h m in
    (shape_fits_sound (one (sorted sort.Expr)) (maybe (sorted sort.VarDeclOrExpr)) n refl e, shape_fits_sound (one (sorted sort.Expr)) (one (sorted sort.ForHead)) n refl e)
fits_sound (shape s) template_item n h m = inr (shape_fits_sound s (one (sorted sort.Expr)) n h m)
fits_sound pattern pattern n h m = m
fits_sound pattern (shape t) n h m = shape_fits_sound (one (sorted sort.Pat)) t n h (pattern_sorted n m)
fits_sound (behind c) (behind d) n h m = subst (λ x. Meets (behind x) n) (chains_same c d h) m
fits_sound link link n h m = m
fits_sound _ _ n h m = no h
