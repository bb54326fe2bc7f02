-- What each form has to be given, so that what it makes has a grade.
use Rattle.std.proofs.Common.{Bool, true, false, ◌&&◌}
use Rattle.ecma_kind.specs.declared.kind.Kind.{Kind}
use Rattle.ecma_kind.specs.declared.kind.Kind.TheVariants as kind
use Rattle.ecma_kind.specs.declared.operators.MethodKind.{MethodKind}
use Rattle.ecma_kind.specs.declared.operators.MethodKind.TheVariants.{Method}
use Rattle.ecma_grammar.specs.declared.production.Form.{Form}
use Rattle.ecma_grammar.specs.declared.production.Form.TheVariants as form
use Rattle.ecma_grammar.specs.trees.Plain.{plain_kind}
use Rattle.ecma_rules.specs.Children.{is_present}
use Rattle.ecma_rules.specs.Targets.{is_key_value}
use Rattle.ecma_fits.specs.Counts.{is_default_import, is_named_export, is_named_import, is_star_export, is_star_import}
use Rattle.ecma_text_fits_parts.proofs.Grades.{Grade, a_text, absent, attribute, attribute_key, attribute_list, attributes, base, closed, default_import, expression, filled, good, head, imports, is_closed, is_expression, is_link, link, member, mild, named_export, named_exports, named_import, pattern, present, star_export, star_exports, star_import}
use Rattle.ecma_text_fits_parts.proofs.Sound.{is_base, is_mild, is_object, is_pattern}
use Rattle.ecma_text_fits_parts.proofs.Wanted.{Wanted, done, each, either, never, one, some, turns, whatever}

abbrev pub if_so : Bool → Wanted → Wanted
if_so true w = w
if_so false w = never

-- so many nodes in which all are sound

abbrev pub two : Wanted
two = one good (one good done)

abbrev pub three : Wanted
three = one good two

abbrev pub four : Wanted
four = one good three

abbrev pub five : Wanted
five = one good four

abbrev pub six : Wanted
six = one good five

abbrev pub seven : Wanted
seven = one good six

abbrev pub nine : Wanted
nine = one good (one good seven)

-- kinds that are sound whatever stands in them
abbrev pub is_quiet : Kind → Bool
is_quiet kind.TsType = true
is_quiet kind.TsTypeParamDecl = true
is_quiet kind.TsTypeParamInstantiation = true
is_quiet (kind.TsTypeAliasDecl declare) = true
is_quiet (kind.TsInterfaceDecl declare) = true
is_quiet kind.DoWhileStmt = true
is_quiet (kind.ImportNamedSpecifier is_type_only) = true
is_quiet kind.OptCall = true
is_quiet kind.FnExpr = true
is_quiet (kind.FnDecl declare) = true
is_quiet kind.MethodProp = true
is_quiet kind.ClassExpr = true
is_quiet (kind.ClassDecl declare) = true
is_quiet _ = false

-- nodes of a kind

abbrev pub try_parts : Wanted
try_parts = one good (either (one present (one good done)) (one good (one present done)))

abbrev pub import_parts : Wanted
import_parts = one imports (one good (one attributes done))

abbrev pub named_parts : Wanted
named_parts = one named_exports (either (one present (one attributes done)) (one good (one absent done)))

abbrev pub star_parts : Wanted
star_parts = one star_exports (one present (one attributes done))

abbrev pub kind_needs : Kind → Wanted
kind_needs kind.Absent = never
kind_needs kind.Tpl = never
kind_needs kind.SeqExpr = never
kind_needs kind.IfStmt = never
kind_needs (kind.YieldExpr delegate) = never
kind_needs (kind.ArrowExpr is_async is_generator) = never
kind_needs (kind.Constructor accessibility is_optional) = never
kind_needs (kind.ClassMethod k modifiers) = never
kind_needs (kind.PrivateMethod k modifiers) = never
kind_needs kind.TryStmt = try_parts
kind_needs (kind.VarDecl k declare) = one filled (each good)
kind_needs (kind.ImportDecl type_only) = import_parts
kind_needs (kind.NamedExport type_only) = either named_parts star_parts
kind_needs (kind.ExportAll type_only) = one good (one attributes done)
kind_needs kind.MemberExpr = one good (each good)
kind_needs kind.CallExpr = three
kind_needs kind.TaggedTpl = three
kind_needs (kind.BinExpr op) = two
kind_needs kind.WhileStmt = two
kind_needs kind.LabeledStmt = two
kind_needs (kind.ForOfStmt is_await) = three
kind_needs (kind.OptChainExpr optional) = if_so optional (one base done)
kind_needs _ = each good

abbrev pub head_needs : Kind → Wanted
head_needs kind.ForStmt = three
head_needs kind.ForInStmt = two
head_needs (kind.ForOfStmt is_await) = two
head_needs _ = never

abbrev pub node_needs : Kind → Grade → Wanted
node_needs k good = kind_needs k
node_needs k mild = if_so (is_mild k) (kind_needs k)
node_needs k pattern = if_so (is_pattern k) (kind_needs k)
node_needs k link = if_so (is_link k) (kind_needs k)
node_needs k base = if_so (is_base k) (kind_needs k)
node_needs k expression = if_so (is_expression k) (kind_needs k)
node_needs k present = if_so (is_present k) (kind_needs k)
node_needs k closed = if_so (is_closed k) (kind_needs k)
node_needs k head = head_needs k
node_needs k named_import = if_so (is_named_import k) (kind_needs k)
node_needs k star_import = if_so (is_star_import k) (kind_needs k)
node_needs k default_import = if_so (is_default_import k) (kind_needs k)
node_needs k named_export = if_so (is_named_export k) (kind_needs k)
node_needs k star_export = if_so (is_star_export k) (kind_needs k)
node_needs k attributes = if_so (is_object k) (one attribute_list done)
node_needs k attribute = if_so (is_key_value k) (one attribute_key (one a_text done))
node_needs k _ = never

abbrev pub bare_needs : Kind → Grade → Wanted
bare_needs k good = if_so (is_quiet k) whatever
bare_needs k _ = never

abbrev pub first_needs : Kind → Grade → Wanted
first_needs k good = if_so (is_quiet k) (one good whatever)
first_needs k closed = if_so (is_quiet k) (one good whatever)
first_needs k _ = never

abbrev pub swapped_needs : Kind → Grade → Wanted
swapped_needs k good = if_so (is_quiet k) (each good)
swapped_needs k closed = if_so (is_quiet k) (each good)
swapped_needs k base = if_so (is_quiet k && is_base k) (each good)
swapped_needs k named_import = if_so (is_quiet k && is_named_import k) (each good)
swapped_needs k _ = never

-- lists

abbrev pub stars_or_names : Wanted
stars_or_names = either (each named_import) (one star_import done)

abbrev pub list_needs : Grade → Wanted
list_needs good = each good
list_needs filled = one good (each good)
list_needs imports = either stars_or_names (one default_import stars_or_names)
list_needs named_exports = each named_export
list_needs star_exports = one star_export done
list_needs attribute_list = each attribute
list_needs _ = never

-- what is good, or an expression too
abbrev pub plainly : Grade → Wanted → Wanted
plainly good w = w
plainly _ w = never

abbrev pub usually : Grade → Wanted → Wanted
usually good w = w
usually expression w = w
usually _ w = never

-- and what ends with no statement too
abbrev pub firmly : Grade → Wanted → Wanted
firmly good w = w
firmly expression w = w
firmly closed w = w
firmly _ w = never

abbrev pub declared_needs : Grade → Wanted
declared_needs good = one good done
declared_needs closed = one closed done
declared_needs _ = never

abbrev pub namespace_needs : Grade → Wanted
namespace_needs good = each good
namespace_needs closed = one good (some good)
namespace_needs _ = never

abbrev pub chain_needs : Grade → Wanted
chain_needs good = one good (each mild)
chain_needs expression = one expression (each mild)
chain_needs head = one good (one head done)
chain_needs _ = never

-- members of classes

abbrev pub method_parts : MethodKind → Wanted
method_parts Method = nine
method_parts k = one absent (one absent seven)

abbrev pub before_modifiers : Grade → Wanted → Wanted
before_modifiers member w = w
before_modifiers _ w = never

-- what a form has to be given, where what it makes has to have a grade
abbrev pub needs : Form → Grade → Wanted
needs (form.Node p) g = node_needs (plain_kind p) g
needs (form.Bare p) g = bare_needs (plain_kind p) g
needs (form.First p) g = first_needs (plain_kind p) g
needs (form.Swapped p) g = swapped_needs (plain_kind p) g
needs form.List g = list_needs g
needs form.Elements g = plainly g (each good)
needs form.Sequence g = usually g (one expression (each expression))
needs form.Chain g = chain_needs g
needs form.Links g = usually g (one expression (each link))
needs form.Logical g = usually g (one expression (each mild))
needs form.Template g = usually g turns
needs form.Arrow g = usually g five
needs form.Yield g = usually g (either (one present (one expression done)) (one absent (one good done)))
needs form.New g = usually g (either done three)
needs form.Assertion g = usually g (either (one expression done) (one good (one expression done)))
needs form.Annotated g = plainly g (one pattern (one good (one good done)))
needs form.Declarator g = plainly g (one pattern three)
needs form.Param g = plainly g two
needs (form.Function p) g = if_so (is_quiet (plain_kind p)) (firmly g seven)
needs form.Getter g = plainly g five
needs form.Setter g = plainly g five
needs (form.Class p is_abstract) g = if_so (is_quiet (plain_kind p)) (firmly g six)
needs (form.Method k) g = before_modifiers g (method_parts k)
needs form.Field g = before_modifiers g five
needs form.Modified g = plainly g (one good (one member done))
needs form.IndexSignature g = plainly g three
needs (form.Signature k) g = never
needs form.NewSignature g = never
needs form.Headed g = plainly g (one head (one good done))
needs form.Declared g = declared_needs g
needs form.Namespace g = namespace_needs g
needs form.ImportEquals g = plainly g four
needs form.Module g = plainly g two
