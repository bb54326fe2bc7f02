-- What the grammar gives every node, by its kind and its children, beyond their sorts.
use Rattle.std.proofs.Common.{◌≡◌, ℕ, Bool, true, false, not, ◌&&◌, ◌||◌, List, [], ◌∷◌, refl, slice_get}
use Rattle.std.specs.List.{list_all}
use Rattle.std.specs.Prelude.{slice_set}
use Rattle.ecma_kind.specs.declared.kind.Kind.{Kind}
use Rattle.ecma_kind.specs.declared.kind.Kind.TheVariants as kind
use Rattle.ecma_kind.specs.declared.operators.MethodKind.{MethodKind}
use Rattle.ecma_tree.specs.declared.node.Node.{Node}
use Rattle.ecma_tree.specs.Sorted.{is_absent, is_list}
use Rattle.ecma_grammar.specs.trees.Classes.{is_plain_function}
use Rattle.ecma_grammar.specs.trees.Functions.{questioned_kind}
use Rattle.ecma_grammar.specs.trees.Others.{declared_kind}
use Rattle.ecma_grammar.specs.trees.Parts.{children_of, kind_of}
use Rattle.ecma_rules.specs.Children.{children_of as items_of, is_present, of_kind}
use Rattle.ecma_rules.specs.Members.{is_constructor_key, is_method, is_special_function}
use Rattle.ecma_fits.specs.Branches.{takes_else}
use Rattle.ecma_fits.specs.Chains.{is_behind_chain}
use Rattle.ecma_fits.specs.Counts.{are_exports, are_imports, is_attribute, is_empty, is_whole_template}
use Rattle.ecma_raw_roles.proofs.Walks.{not_true}

abbrev pub items : List Node → ℕ → List Node
items cs i = items_of (slice_get cs i)

abbrev pub has : List Node → ℕ → Bool
has cs i = of_kind is_present (slice_get cs i)

abbrev pub is_some : List Node → Bool
is_some cs = not (is_empty cs)

-- two at least
abbrev pub are_several : List Node → Bool
are_several [] = false
are_several (x ∷ xs) = is_some xs

abbrev pub is_object : Kind → Bool
is_object kind.ObjectLit = true
is_object _ = false

abbrev pub is_list_of : (List Node → Bool) → Node → Bool
is_list_of test node = is_list (kind_of node) && test (children_of node)

-- attributes, or nothing

abbrev pub is_attribute_list : List Node → Bool
is_attribute_list (list ∷ []) = is_list_of (list_all is_attribute) list
is_attribute_list _ = false

abbrev pub are_attributes : Kind → List Node → Bool
are_attributes k cs = (is_absent k && is_empty cs) || (is_object k && is_attribute_list cs)

abbrev pub holds_with : Node → Bool
holds_with node = are_attributes (kind_of node) (children_of node)

-- templates, imports and exports

abbrev pub is_template : List Node → Bool
is_template (expressions ∷ parts ∷ []) = (is_list (kind_of expressions) && is_list (kind_of parts)) && is_whole_template (children_of expressions) (children_of parts)
is_template _ = false

abbrev pub is_import : List Node → Bool
is_import (names ∷ source ∷ with_them ∷ []) = is_list_of are_imports names && holds_with with_them
is_import _ = false

abbrev pub is_export : List Node → Bool
is_export (names ∷ source ∷ with_them ∷ []) = is_list_of (are_exports (is_present (kind_of source)) (is_present (kind_of with_them))) names && holds_with with_them
is_export _ = false

abbrev pub is_export_all : List Node → Bool
is_export_all (source ∷ with_them ∷ []) = holds_with with_them
is_export_all _ = false

abbrev pub is_function : Kind → Bool
is_function (kind.Function is_generator is_async) = true
is_function _ = false

-- a method `constructor` that is not static would be the constructor, unless it is a generator or async
abbrev pub may_be_named : MethodKind → Bool → Node → Node → Bool
may_be_named k is_static key function = is_static || (not (is_constructor_key (kind_of key)) || (not (is_method k) || is_special_function (kind_of function)))

-- a key and a function, which is no generator and not async in an accessor
abbrev pub is_method_pair : MethodKind → List Node → Bool
is_method_pair k (key ∷ function ∷ []) = is_function (kind_of function) && (is_method k || is_plain_function (kind_of function))
is_method_pair k _ = false

abbrev pub is_named_well : MethodKind → Bool → List Node → Bool
is_named_well k is_static (key ∷ function ∷ others) = may_be_named k is_static key function
is_named_well k is_static _ = false

abbrev pub is_pair : List Node → Bool
is_pair (a ∷ b ∷ []) = true
is_pair _ = false

abbrev pub is_triple : List Node → Bool
is_triple (a ∷ b ∷ c ∷ []) = true
is_triple _ = false

-- kinds of nodes that may get another first child; none of them is missing or a text part
abbrev pub is_mild : Kind → Bool
is_mild kind.Absent = false
is_mild (kind.TplElement raw cooked tail) = false
is_mild kind.Tpl = false
is_mild kind.SeqExpr = false
is_mild (kind.YieldExpr delegate) = false
is_mild (kind.ArrowExpr is_async is_generator) = false
is_mild kind.TryStmt = false
is_mild (kind.VarDecl k declare) = false
is_mild (kind.ImportDecl type_only) = false
is_mild (kind.NamedExport type_only) = false
is_mild (kind.ExportAll type_only) = false
is_mild (kind.Constructor accessibility is_optional) = false
is_mild (kind.ClassMethod k modifiers) = false
is_mild (kind.PrivateMethod k modifiers) = false
is_mild (kind.OptChainExpr optional) = false
is_mild kind.IfStmt = false
is_mild _ = true

-- what a link holds
abbrev pub is_base : Kind → Bool
is_base kind.MemberExpr = true
is_base kind.OptCall = true
is_base _ = false

pub base_mild : (k : Kind) → is_base k ≡ true → is_mild k ≡ true
base_mild kind.MemberExpr h = refl
base_mild kind.OptCall h = refl
base_mild _ h = not_true h

-- one base, behind a chain where the link has no `?.` of its own
abbrev pub is_linked : Bool → List Node → Bool
is_linked optional (base ∷ []) = is_base (kind_of base) && (optional || is_behind_chain base)
is_linked optional _ = false

-- no alternative, or a body that takes none
abbrev pub is_choice : List Node → Bool
is_choice (test ∷ body ∷ alternative ∷ []) = is_absent (kind_of alternative) || not (takes_else body)
is_choice _ = false

-- each node is so
abbrev pub is_sound : Kind → List Node → Bool
is_sound kind.Tpl cs = is_template cs
is_sound kind.SeqExpr cs = are_several cs
is_sound (kind.YieldExpr delegate) cs = has cs 0 || not delegate
is_sound (kind.ArrowExpr is_async is_generator) cs = not is_generator
is_sound kind.TryStmt cs = has cs 1 || has cs 2
is_sound (kind.VarDecl k declare) cs = not (is_empty (items cs 0))
is_sound (kind.ImportDecl type_only) cs = is_import cs
is_sound (kind.NamedExport type_only) cs = is_export cs
is_sound (kind.ExportAll type_only) cs = is_export_all cs
is_sound (kind.Constructor accessibility is_optional) cs = of_kind is_constructor_key (slice_get cs 0)
is_sound (kind.ClassMethod k modifiers) cs = is_method_pair k cs && is_named_well k modifiers.is_static cs
is_sound (kind.PrivateMethod k modifiers) cs = is_method_pair k cs
is_sound kind.MemberExpr cs = is_some cs
is_sound kind.CallExpr cs = is_triple cs
is_sound kind.TaggedTpl cs = is_triple cs
is_sound (kind.BinExpr op) cs = is_pair cs
is_sound (kind.OptChainExpr optional) cs = is_linked optional cs
is_sound kind.IfStmt cs = is_choice cs
is_sound _ cs = true

abbrev pub Sound : Kind → List Node → Type 0
Sound k cs = is_sound k cs ≡ true

pub set_pair : (cs : List Node) (x : Node) → is_pair cs ≡ true → is_pair (slice_set cs 0 x) ≡ true
set_pair (a ∷ b ∷ []) x h = refl
set_pair _ x h = not_true h

pub set_triple : (cs : List Node) (x : Node) → is_triple cs ≡ true → is_triple (slice_set cs 0 x) ≡ true
set_triple (a ∷ b ∷ c ∷ []) x h = refl
set_triple _ x h = not_true h

set_some : (cs : List Node) (x : Node) → is_some cs ≡ true → is_some (slice_set cs 0 x) ≡ true
set_some [] x h = h
set_some (c ∷ cs) x h = refl

pub or_first : (a b : Bool) → a ≡ true → (a || b) ≡ true
or_first a b h = rw h refl

pub or_second : (a b : Bool) → b ≡ true → (a || b) ≡ true
or_second true b h = refl
or_second false b h = h

-- another first child
pub mild_set : (k : Kind) (cs : List Node) (x : Node) → is_mild k ≡ true → Sound k cs → Sound k (slice_set cs 0 x)
mild_set kind.Absent cs x m h = not_true m
mild_set kind.Tpl cs x m h = not_true m
mild_set kind.SeqExpr cs x m h = not_true m
mild_set (kind.YieldExpr delegate) cs x m h = not_true m
mild_set (kind.ArrowExpr is_async is_generator) cs x m h = not_true m
mild_set kind.TryStmt cs x m h = not_true m
mild_set (kind.VarDecl k declare) cs x m h = not_true m
mild_set (kind.ImportDecl type_only) cs x m h = not_true m
mild_set (kind.NamedExport type_only) cs x m h = not_true m
mild_set (kind.ExportAll type_only) cs x m h = not_true m
mild_set (kind.Constructor accessibility is_optional) cs x m h = not_true m
mild_set (kind.ClassMethod k modifiers) cs x m h = not_true m
mild_set (kind.PrivateMethod k modifiers) cs x m h = not_true m
mild_set kind.MemberExpr cs x m h = set_some cs x h
mild_set kind.CallExpr cs x m h = set_triple cs x h
mild_set kind.TaggedTpl cs x m h = set_triple cs x h
mild_set (kind.BinExpr op) cs x m h = set_pair cs x h
mild_set (kind.OptChainExpr optional) cs x m h = not_true m
mild_set kind.IfStmt cs x m h = not_true m
mild_set _ cs x m h = refl

-- kinds of patterns, which have their annotation behind
abbrev pub is_pattern : Kind → Bool
is_pattern kind.BindingIdent = true
is_pattern (kind.ArrayPat optional) = true
is_pattern (kind.ObjectPat optional) = true
is_pattern kind.RestPat = true
is_pattern _ = false

pub questioned_sound : (optional : Bool) (k : Kind) (cs : List Node) → is_pattern k ≡ true → Sound (questioned_kind optional k) cs
questioned_sound optional kind.BindingIdent cs h = refl
questioned_sound optional (kind.ArrayPat before) cs h = refl
questioned_sound optional (kind.ObjectPat before) cs h = refl
questioned_sound optional kind.RestPat cs h = refl
questioned_sound optional _ cs h = not_true h

pub declared_sound : (k : Kind) (cs : List Node) → Sound k cs → Sound (declared_kind k) cs
declared_sound (kind.FnDecl declare) cs h = refl
declared_sound (kind.ClassDecl declare) cs h = refl
declared_sound (kind.VarDecl k declare) cs h = h
declared_sound (kind.TsInterfaceDecl declare) cs h = refl
declared_sound (kind.TsTypeAliasDecl declare) cs h = refl
declared_sound (kind.TsEnumDecl declare is_const) cs h = refl
declared_sound (kind.TsModuleDecl declare global) cs h = refl
declared_sound _ cs h = h
