-- Nodes as they are made of what was read.
use Rattle.std.specs.Prelude.{ℕ, List, [], take}
use Rattle.ecma_lex.specs.declared.tokens.Token.{Token}
use Rattle.ecma_kind.specs.declared.kind.Kind.{Kind}
use Rattle.ecma_tree.specs.declared.node.Node.{Node}
use Rattle.ecma_tree.specs.Nodes.{node_of, list_node}
use Rattle.ecma_grammar.specs.declared.production.Form.{Form}
use Rattle.ecma_grammar.specs.declared.production.Form.TheVariants as form
use Rattle.ecma_grammar.specs.trees.Plain.{plain_kind}
use Rattle.ecma_grammar.specs.trees.Parts.{from_to, framed}
use Rattle.ecma_grammar.specs.trees.Chains.{chained, logical, links, construction, template}
use Rattle.ecma_grammar.specs.trees.Functions.{annotated, declarator, parameter, function, arrow, yield_, getter, setter}
use Rattle.ecma_grammar.specs.trees.Classes.{class, method, field, member, index_signature, index_signature_with_types, type_signature, new_signature}
use Rattle.ecma_grammar.specs.trees.Others.{swapped, elements, sequence, headed, declared, namespace, import_equals, module_of, assertion}

-- a node that stands where a token stands
abbrev pub at_token : Token → Kind → Node
at_token token kind = node_of (from_to token.start token.next) kind []

abbrev pub Making : Type 0
Making = Form → ℕ → ℕ → List Node → Node

-- what a form makes of the nodes that were read, from a place to a place; types hold nothing
abbrev pub made : Making
made (form.Node k) lo hi xs = node_of (from_to lo hi) (plain_kind k) xs
made (form.Bare k) lo hi xs = node_of (from_to lo hi) (plain_kind k) []
made (form.First k) lo hi xs = node_of (from_to lo hi) (plain_kind k) (take 1 xs)
made (form.Swapped k) lo hi xs = node_of (from_to lo hi) (plain_kind k) (swapped xs)
made form.List lo hi xs = list_node xs
made form.Elements lo hi xs = list_node (elements xs)
made form.Sequence lo hi xs = sequence (from_to lo hi) xs
made form.Chain lo hi xs = chained xs
made form.Links lo hi xs = links xs
made form.Logical lo hi xs = logical xs
made form.Template lo hi xs = template (from_to lo hi) xs
made form.Arrow lo hi xs = framed 5 (arrow (from_to lo hi)) xs
made form.Yield lo hi xs = framed 2 (yield_ (from_to lo hi)) xs
made form.New lo hi xs = construction (from_to lo hi) xs
made form.Assertion lo hi xs = assertion (from_to lo hi) xs
made form.Annotated lo hi xs = framed 3 (annotated (from_to lo hi)) xs
made form.Declarator lo hi xs = framed 4 (declarator (from_to lo hi)) xs
made form.Param lo hi xs = framed 2 (parameter (from_to lo hi)) xs
made (form.Function k) lo hi xs = framed 7 (function (from_to lo hi) (plain_kind k)) xs
made form.Getter lo hi xs = framed 5 (getter (from_to lo hi)) xs
made form.Setter lo hi xs = framed 5 (setter (from_to lo hi)) xs
made (form.Class k is_abstract) lo hi xs = framed 6 (class (from_to lo hi) (plain_kind k) is_abstract) xs
made (form.Method k) lo hi xs = framed 9 (method (from_to lo hi) k) xs
made form.Field lo hi xs = framed 5 (field (from_to lo hi)) xs
made form.Modified lo hi xs = framed 2 (member (from_to lo hi)) xs
made form.IndexSignature lo hi xs = framed 3 (index_signature (from_to lo hi)) xs
made (form.Signature k) lo hi xs = framed 2 (type_signature (from_to lo hi) k) xs
made form.NewSignature lo hi xs = framed 2 (new_signature (from_to lo hi)) xs
made form.Headed lo hi xs = framed 2 (headed (from_to lo hi)) xs
made form.Declared lo hi xs = framed 1 (declared (from_to lo hi)) xs
made form.Namespace lo hi xs = namespace (from_to lo hi) xs
made form.ImportEquals lo hi xs = framed 4 (import_equals (from_to lo hi)) xs
made form.Module lo hi xs = framed 2 (module_of (from_to lo hi)) xs

-- the same, where types hold what was read in them: the context rules ask for it
abbrev pub made_with_types : Making
made_with_types (form.Bare k) lo hi xs = node_of (from_to lo hi) (plain_kind k) xs
made_with_types (form.First k) lo hi xs = node_of (from_to lo hi) (plain_kind k) xs
made_with_types form.IndexSignature lo hi xs = framed 3 (index_signature_with_types (from_to lo hi)) xs
made_with_types f lo hi xs = made f lo hi xs
