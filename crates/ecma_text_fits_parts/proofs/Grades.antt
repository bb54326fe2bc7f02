-- What is asked of a node that a grammar keeps: a grade.
use Rattle.std.proofs.Common.{◌≡◌, Bool, true, false, not, ◌&&◌, List, [], refl, sym, subst, slice_get}
use Rattle.std.specs.List.{list_all}
use Rattle.ecma_lex.specs.declared.tokens.Token.{Token}
use Rattle.ecma_kind.specs.declared.span.Span.{Span}
use Rattle.ecma_kind.specs.declared.kind.Kind.{Kind}
use Rattle.ecma_kind.specs.declared.kind.Kind.TheVariants as kind
use Rattle.ecma_tree.specs.declared.node.Node.{Node}
use Rattle.ecma_tree.specs.Nodes.{dummy_span, node_of}
use Rattle.ecma_tree.specs.Sorted.{is_absent, is_list}
use Rattle.ecma_grammar.specs.declared.production.Flag.{Flag}
use Rattle.ecma_grammar.specs.declared.production.Flag.TheVariants as flag
use Rattle.ecma_grammar.specs.declared.production.Leaf.{Leaf}
use Rattle.ecma_grammar.specs.declared.production.Leaf.TheVariants as leaf
use Rattle.ecma_grammar.specs.Made.{at_token}
use Rattle.ecma_grammar.specs.trees.Parts.{children_of, flag_node, from_to, kind_of}
use Rattle.ecma_rules.specs.Children.{is_present, of_kind}
use Rattle.ecma_rules.specs.Targets.{is_key_value}
use Rattle.ecma_fits.specs.Counts.{are, are_imports, is_attribute, is_attribute_key, is_default_import, is_empty, is_named_export, is_named_import, is_star_export, is_star_import, is_star_of, is_text}
use Rattle.ecma_text_leaves.proofs.Trees.{children_made, kind_made}
use Rattle.ecma_text_fits_parts.proofs.Sound.{Sound, are_attributes, is_base, is_method_pair, is_mild, is_pair, is_pattern, is_some, is_triple}
use Rattle.ecma_text_fits_parts.proofs.Throughout.{EachThroughout, Throughout, none, throughout}
use Rattle.ecma_raw_roles.proofs.Walks.{not_true}

pub data Grade : Type 0 where
  -- each node in it is sound; and it has a mild kind; that of a pattern; that of a link; that of its base; it is there and no text part; it is there; it is missing
  good mild pattern link base expression present absent : Grade
  -- a text part that is not the last, or the last
  text_part last_part : Grade
  -- a list with something in it; of imports; of exports by their names; of `* as a` alone
  filled imports named_exports star_exports : Grade
  -- kinds of imports and exports
  named_import star_import default_import named_export star_export : Grade
  -- attributes or nothing; a list of attributes; one; its key and its text
  attributes attribute_list attribute attribute_key a_text : Grade
  -- it is there, and its kind ends with no statement; the head of a loop; a member of a class before its modifiers
  closed head member : Grade

abbrev pub is_text_part : Bool → Kind → Bool
is_text_part false (kind.TplElement raw cooked tail) = not tail
is_text_part true (kind.TplElement raw cooked tail) = tail
is_text_part last _ = false

abbrev pub is_expression : Kind → Bool
is_expression kind.Absent = false
is_expression (kind.TplElement raw cooked tail) = false
is_expression _ = true

abbrev pub is_link : Kind → Bool
is_link (kind.OptChainExpr optional) = optional
is_link k = is_mild k

abbrev pub is_closed : Kind → Bool
is_closed kind.Absent = false
is_closed kind.IfStmt = false
is_closed kind.LabeledStmt = false
is_closed kind.WhileStmt = false
is_closed kind.ForStmt = false
is_closed kind.ForInStmt = false
is_closed (kind.ForOfStmt is_await) = false
is_closed _ = true

-- a loop without its body
abbrev pub is_head : Kind → List Node → Bool
is_head kind.ForStmt cs = is_triple cs
is_head kind.ForInStmt cs = is_pair cs
is_head (kind.ForOfStmt is_await) cs = is_pair cs
is_head _ cs = false

abbrev pub is_member : Kind → List Node → Bool
is_member (kind.ClassMethod k modifiers) cs = is_method_pair k cs
is_member (kind.PrivateMethod k modifiers) cs = is_method_pair k cs
is_member (kind.ClassProp modifiers readonly declare definite) cs = true
is_member (kind.PrivateProp modifiers readonly declare definite) cs = true
is_member _ cs = false

-- what a grade asks of a node in which each is sound, by its kind and its children
abbrev pub allowed : Grade → Kind → List Node → Bool
allowed mild k cs = is_mild k
allowed pattern k cs = is_pattern k
allowed link k cs = is_link k
allowed base k cs = is_base k
allowed expression k cs = is_expression k
allowed present k cs = is_present k
allowed absent k cs = is_absent k && is_empty cs
allowed text_part k cs = is_text_part false k
allowed last_part k cs = is_text_part true k
allowed filled k cs = is_some cs
allowed imports k cs = is_list k && are_imports cs
allowed named_exports k cs = is_list k && are is_named_export cs
allowed star_exports k cs = is_list k && is_star_of true cs
allowed named_import k cs = is_named_import k
allowed star_import k cs = is_star_import k
allowed default_import k cs = is_default_import k
allowed named_export k cs = is_named_export k
allowed star_export k cs = is_star_export k
allowed attributes k cs = are_attributes k cs
allowed attribute_list k cs = is_list k && list_all is_attribute cs
allowed attribute k cs = is_key_value k && (of_kind is_attribute_key (slice_get cs 0) && of_kind is_text (slice_get cs 1))
allowed attribute_key k cs = is_attribute_key k
allowed a_text k cs = is_text k
allowed closed k cs = is_closed k
allowed head k cs = is_head k cs
allowed _ k cs = true

abbrev pub Is : Grade → Node → Type 0
Is g n = Throughout Sound n × (allowed g (kind_of n) (children_of n) ≡ true)

abbrev pub IsMember : Node → Type 0
IsMember n = EachThroughout Sound (children_of n) × (is_member (kind_of n) (children_of n) ≡ true)

abbrev pub Meets : Grade → Node → Type 0
Meets member n = IsMember n
Meets g n = Is g n

abbrev pub is_member_grade : Grade → Bool
is_member_grade member = true
is_member_grade _ = false

pub meets : (g : Grade) (n : Node) → is_member_grade g ≡ false → Is g n → Meets g n
meets member n h x = not_true (sym h)
meets _ n h x = x

-- a node of these parts
pub node_meets : (g : Grade) (at : Span) (k : Kind) (cs : List Node) → is_member_grade g ≡ false → EachThroughout Sound cs → Sound k cs → allowed g k cs ≡ true → Meets g (node_of at k cs)
node_meets g at k cs m h s a =
    meets g (node_of at k cs) m
    (throughout at k s h, subst (λ j. allowed g j (children_of (node_of at k cs)) ≡ true) (sym (kind_made at k cs)) (subst (λ ds. allowed g k ds ≡ true) (sym (children_made at k cs)) a))

-- wider grades

abbrev pub fits : Grade → Grade → Bool
fits good good = true
fits mild good = true
fits mild mild = true
fits mild expression = true
fits mild present = true
fits link link = true
fits pattern good = true
fits pattern pattern = true
fits pattern mild = true
fits pattern expression = true
fits pattern present = true
fits expression good = true
fits expression expression = true
fits expression present = true
fits named_import named_import = true
fits named_export named_export = true
fits attribute attribute = true
fits closed closed = true
fits closed good = true
fits _ _ = false

pub mild_expression : (k : Kind) → is_mild k ≡ true → is_expression k ≡ true
mild_expression kind.Absent h = not_true h
mild_expression (kind.TplElement raw cooked tail) h = not_true h
mild_expression _ h = refl

pub expression_present : (k : Kind) → is_expression k ≡ true → is_present k ≡ true
expression_present kind.Absent h = not_true h
expression_present _ h = refl

pattern_mild : (k : Kind) → is_pattern k ≡ true → is_mild k ≡ true
pattern_mild kind.BindingIdent h = refl
pattern_mild (kind.ArrayPat optional) h = refl
pattern_mild (kind.ObjectPat optional) h = refl
pattern_mild kind.RestPat h = refl
pattern_mild _ h = not_true h

pub fits_sound : (g h : Grade) (n : Node) → fits g h ≡ true → Meets g n → Meets h n
fits_sound good good n e m = m
fits_sound mild good n e m = (m.0, refl)
fits_sound mild mild n e m = m
fits_sound mild expression n e m = (m.0, mild_expression (kind_of n) m.1)
fits_sound link link n e m = m
fits_sound mild present n e m = (m.0, expression_present (kind_of n) (mild_expression (kind_of n) m.1))
fits_sound pattern good n e m = (m.0, refl)
fits_sound pattern pattern n e m = m
fits_sound pattern mild n e m = (m.0, pattern_mild (kind_of n) m.1)
fits_sound pattern expression n e m = (m.0, mild_expression (kind_of n) (pattern_mild (kind_of n) m.1))
fits_sound pattern present n e m = (m.0, expression_present (kind_of n) (mild_expression (kind_of n) (pattern_mild (kind_of n) m.1)))
fits_sound expression good n e m = (m.0, refl)
fits_sound expression expression n e m = m
fits_sound expression present n e m = (m.0, expression_present (kind_of n) m.1)
fits_sound named_import named_import n e m = m
fits_sound named_export named_export n e m = m
fits_sound attribute attribute n e m = m
fits_sound closed closed n e m = m
fits_sound closed good n e m = (m.0, refl)
fits_sound _ _ n e m = not_true e

-- flags

abbrev pub flag_fits : Flag → Grade → Bool
flag_fits flag.Absent good = true
flag_fits flag.Absent absent = true
flag_fits flag.Absent attributes = true
flag_fits flag.Present good = true
flag_fits flag.Present present = true
flag_fits _ _ = false

pub flag_meets : (f : Flag) (g : Grade) → flag_fits f g ≡ true → Meets g (flag_node f)
flag_meets flag.Absent good h = node_meets good dummy_span kind.Absent [] refl none refl refl
flag_meets flag.Absent absent h = node_meets absent dummy_span kind.Absent [] refl none refl refl
flag_meets flag.Absent attributes h = node_meets attributes dummy_span kind.Absent [] refl none refl refl
flag_meets flag.Present good h = node_meets good (from_to 0 0) (kind.Bool true) [] refl none refl refl
flag_meets flag.Present present h = node_meets present (from_to 0 0) (kind.Bool true) [] refl none refl refl
flag_meets _ _ h = not_true h

-- leaves

abbrev pub leaf_part : Bool → Leaf → Bool
leaf_part false (leaf.TplElement wanted) = not wanted.last
leaf_part true (leaf.TplElement wanted) = wanted.last
leaf_part last _ = false

abbrev pub is_no_part : Leaf → Bool
is_no_part (leaf.TplElement wanted) = false
is_no_part _ = true

abbrev pub is_key_leaf : Leaf → Bool
is_key_leaf leaf.IdentName = true
is_key_leaf leaf.Str = true
is_key_leaf _ = false

abbrev pub is_text_leaf : Leaf → Bool
is_text_leaf leaf.Str = true
is_text_leaf _ = false

abbrev pub leaf_fits : Leaf → Grade → Bool
leaf_fits l good = true
leaf_fits l present = true
leaf_fits l expression = is_no_part l
leaf_fits l text_part = leaf_part false l
leaf_fits l last_part = leaf_part true l
leaf_fits l attribute_key = is_key_leaf l
leaf_fits l a_text = is_text_leaf l
leaf_fits l _ = false

-- what a leaf's kind is asked
pub record LeafKind (l : Leaf) (k : Kind) : Type 0 where
  pub sound : Sound k []
  pub present : is_present k ≡ true
  pub expression : is_no_part l ≡ true → is_expression k ≡ true
  pub part : leaf_part false l ≡ true → is_text_part false k ≡ true
  pub last : leaf_part true l ≡ true → is_text_part true k ≡ true
  pub key : is_key_leaf l ≡ true → is_attribute_key k ≡ true
  pub text : is_text_leaf l ≡ true → is_text k ≡ true

pub leaf_meets : (l : Leaf) (g : Grade) (t : Token) (k : Kind) → LeafKind l k → leaf_fits l g ≡ true → Meets g (at_token t k)
leaf_meets l good t k r h = node_meets good (from_to t.start t.next) k [] refl none r.sound refl
leaf_meets l present t k r h = node_meets present (from_to t.start t.next) k [] refl none r.sound r.present
leaf_meets l expression t k r h = node_meets expression (from_to t.start t.next) k [] refl none r.sound (r.expression h)
leaf_meets l text_part t k r h = node_meets text_part (from_to t.start t.next) k [] refl none r.sound (r.part h)
leaf_meets l last_part t k r h = node_meets last_part (from_to t.start t.next) k [] refl none r.sound (r.last h)
leaf_meets l attribute_key t k r h = node_meets attribute_key (from_to t.start t.next) k [] refl none r.sound (r.key h)
leaf_meets l a_text t k r h = node_meets a_text (from_to t.start t.next) k [] refl none r.sound (r.text h)
leaf_meets l _ t k r h = not_true h
