-- Members, calls and constructions (ECMAScript, 13.3).
use Rattle.std.specs.Prelude.{true, false, codes}
use Rattle.ecma_grammar.specs.Grammar.{Grammar, nothing, same_line, keep, put, ◌▸◌, ◌//◌, ahead, marked, enter, build, word, punct, a, behind_word, behind_punct, maybe, commas, node, item, list}
use Rattle.ecma_grammar.specs.declared.production.Part.TheVariants as part
use Rattle.ecma_grammar.specs.declared.production.TokenKind.TheVariants as token
use Rattle.ecma_grammar.specs.declared.production.Leaf.TheVariants as leaf
use Rattle.ecma_grammar.specs.declared.production.Flag.TheVariants.{Absent}
use Rattle.ecma_grammar.specs.declared.production.Plain.TheVariants as plain
use Rattle.ecma_grammar.specs.declared.production.Form.TheVariants as form
use Rattle.ecma_grammar.specs.declared.production.Link.TheVariants as link
use Rattle.ecma_kind.specs.declared.operators.MetaPropKind.TheVariants.{ImportMeta}
use Rattle.ecma_grammar.specs.productions.Names.{expression}
use Rattle.ecma_grammar.specs.productions.Types.{type_param_instantiation, after_type_args}
use Rattle.ecma_grammar.specs.productions.Primary.{element, template, primary}

-- Args = '(' L('...'? Assign) ')'
--   f(a, ...b);
--   f(a, , b);   // refused
unfoldable pub arguments : Grammar
arguments = punct (codes "(") ▸ list (commas element) ▸ punct (codes ")")

-- CKey = Key / PrivName
--   a.class;
--   class A { #b; f() { return this.#b; } }
unfoldable pub chain_key : Grammar
chain_key = keep leaf.IdentName // keep leaf.PrivateName

-- '[' Expr ']'
--   a[b, c];
--   a[];   // refused
unfoldable pub index : Grammar
index = node plain.ComputedPropName (punct (codes "[") ▸ expression false ▸ punct (codes "]"))

-- a template begins there
--   a`b`;
--   a`b${c}d`;
unfoldable pub template_start : Grammar
template_start =
    a (token.Template (record { first = true; tagged = true; last = true })) // a (token.Template (record { first = true; tagged = true; last = false }))

-- 'import' '.' 'meta'
--   import.meta.url;
--   import.target;   // refused
unfoldable pub import_meta : Grammar
import_meta = node (plain.MetaPropExpr ImportMeta) (word (codes "import") ▸ punct (codes ".") ▸ word (codes "meta"))

-- 'super' before a member, or before a call
--   class A extends B { f() { return new super.g(); } }
--   class A extends B { constructor() { new super(); } }   // refused
unfoldable pub super_of_member : Grammar
super_of_member = keep leaf.Super ▸ ahead (punct (codes ".") ▸ a token.Key // punct (codes "["))

--   class A extends B { constructor() { super(); super.f(); } }
--   class A extends B { constructor() { super; } }   // refused
unfoldable pub super_of_link : Grammar
super_of_link = keep leaf.Super ▸ ahead (punct (codes "(") // punct (codes ".") ▸ a token.Key // punct (codes "["))

-- 'import' Args
--   import("m");
--   new import("m");   // refused
unfoldable pub import_call : Grammar
import_call = node plain.CallExpr (keep leaf.Import ▸ arguments ▸ put Absent)

-- New = 'new' '.' 'target' / 'new' callee [TypeArgs After] Args?
--   new A(b);
--   new A;
unfoldable pub construction : Grammar
construction = build form.New (behind_word (codes "new") part.New)

-- Link*, of which each stands one level deeper than the one before
--   a.b[c](d)?.e;
--   a!.b<T>(c);
unfoldable pub links : Grammar
links =
    behind_punct (codes ".") (part.Link link.Dot)
    // behind_punct (codes "?.") (part.Link link.Optional)
    // ahead (punct (codes "[")) ▸ enter (part.Link link.Bracket)
    // ahead (punct (codes "(")) ▸ enter (part.Link link.Call)
    // ahead template_start ▸ enter (part.Link link.Tagged)
    // marked (same_line ▸ behind_punct (codes "!") (part.Link link.NonNull))
    // marked (ahead (a token.LeftAngle) ▸ enter (part.Link link.Instantiation))
    // nothing

abbrev pub member_of : Grammar → Grammar
member_of key = item plain.MemberExpr key

--   a`b`;
--   a`\u`;   // an ill-formed escape, which may stand after a tag
unfoldable pub tagged_template : Grammar
tagged_template = item plain.TaggedTpl (put Absent ▸ template true)

abbrev pub non_null : Grammar
non_null = item plain.TsNonNullExpr nothing

-- '?.' (Args / '[' Expr ']' / T TypeArgs Args / CKey), after '?.'
--   a?.b; a?.[b]; a?.(b);
--   a?.`b`;   // refused
unfoldable pub optional_link : Grammar
optional_link =
    node (plain.OptChainExpr true)
    (item plain.OptCall (arguments ▸ put Absent)
    // member_of index
    // marked (build (form.Swapped plain.OptCall) (put Absent ▸ type_param_instantiation ▸ arguments))
    // member_of chain_key)

--   a.b;
unfoldable pub dot_body : Grammar
dot_body = member_of chain_key ▸ links

--   a?.b;
unfoldable pub optional_body : Grammar
optional_body = optional_link ▸ links

--   a[b];
unfoldable pub bracket_body : Grammar
bracket_body = member_of index ▸ links

--   a(b);
unfoldable pub call_body : Grammar
call_body = item plain.CallExpr (arguments ▸ put Absent) ▸ links

--   a`b`;
unfoldable pub tagged_body : Grammar
tagged_body = tagged_template ▸ links

--   a!.b;
unfoldable pub non_null_body : Grammar
non_null_body = non_null ▸ links

--   a<T>(b);
unfoldable pub instantiation_body : Grammar
instantiation_body = item plain.TsInstantiation (type_param_instantiation ▸ after_type_args) ▸ links

-- Chain = ('super' .. / 'import' '.' 'meta' / 'import' Args / New / Primary) Link*
--   this.a.b(c);
--   import("m").then(f);
unfoldable pub chain : Grammar
chain = build form.Links ((super_of_link // import_meta // import_call // construction // primary) ▸ links)

-- the links of the callee of `new`
--   new a.b[c](d);
--   new a().b;   // (new a()).b
unfoldable pub new_links : Grammar
new_links =
    behind_punct (codes ".") (part.NewLink link.Dot)
    // ahead (punct (codes "[")) ▸ enter (part.NewLink link.Bracket)
    // ahead template_start ▸ enter (part.NewLink link.Tagged)
    // marked (same_line ▸ behind_punct (codes "!") (part.NewLink link.NonNull))
    // nothing

--   new a.B();
unfoldable pub new_dot_body : Grammar
new_dot_body = member_of chain_key ▸ new_links

--   new a[b]();
unfoldable pub new_bracket_body : Grammar
new_bracket_body = member_of index ▸ new_links

--   new a`b`();
unfoldable pub new_tagged_body : Grammar
new_tagged_body = tagged_template ▸ new_links

--   new a!();
unfoldable pub new_non_null_body : Grammar
new_non_null_body = non_null ▸ new_links

-- what stands after `new`
--   new A<T>(b);
--   function F() { return new.target; }
unfoldable pub new_body : Grammar
new_body =
    punct (codes ".") ▸ word (codes "target")
    // build form.Links ((super_of_member // import_meta // construction // primary) ▸ new_links)
    ▸ maybe (marked (type_param_instantiation ▸ after_type_args)) ▸ maybe arguments
