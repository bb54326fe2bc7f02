-- What each form makes of what it is given meets what is asked of it.
use Rattle.std.proofs.Common.{ℕ, List}
use Rattle.ecma_tree.specs.declared.node.Node.{Node}
use Rattle.ecma_grammar.specs.declared.production.Form.{Form}
use Rattle.ecma_grammar.specs.declared.production.Form.TheVariants as form
use Rattle.ecma_grammar.specs.trees.Plain.{plain_kind}
use Rattle.ecma_grammar.specs.trees.Parts.{from_to}
use Rattle.ecma_grammar.specs.Made.{made}
use Rattle.ecma_text_fits_roles.proofs.RoleAsks.{Ask, Given, Meets}
use Rattle.ecma_text_fits_roles.proofs.RoleNeeds.{needs}
use Rattle.ecma_text_fits_roles.proofs.RoleForms.{assertion_made, bare_made, chain_made, construction_made, elements_made, first_made, list_made, logical_made, namespace_made, sequence_made, template_made}
use Rattle.ecma_text_fits_roles.proofs.RoleLinks.{any_node_made, any_swapped_made, links_made}
use Rattle.ecma_text_fits_roles.proofs.RoleFunctions.{annotated_made, arrow_made, declarator_made, function_made, getter_made, parameter_made, setter_made, yield_made}
use Rattle.ecma_text_fits_roles.proofs.RoleClasses.{class_made, declared_made, field_made, headed_made, import_equals_made, method_made, modified_made, module_made, signature_made, type_signature_made}

pub form_made : (f : Form) (q : Ask) (lo hi : ℕ) (xs : List Node) → Given (needs f q) xs → Meets q (made f lo hi xs)
form_made (form.Node p) q lo hi xs g = any_node_made p q (from_to lo hi) xs g
form_made (form.Bare p) q lo hi xs g = bare_made (plain_kind p) q (from_to lo hi) xs g
form_made (form.First p) q lo hi xs g = first_made (plain_kind p) q (from_to lo hi) xs g
form_made (form.Swapped p) q lo hi xs g = any_swapped_made p q (from_to lo hi) xs g
form_made form.List q lo hi xs g = list_made q xs g
form_made form.Elements q lo hi xs g = elements_made q xs g
form_made form.Sequence q lo hi xs g = sequence_made q (from_to lo hi) xs g
form_made form.Chain q lo hi xs g = chain_made q xs g
form_made form.Links q lo hi xs g = links_made q xs g
form_made form.Logical q lo hi xs g = logical_made q xs g
form_made form.Template q lo hi xs g = template_made q (from_to lo hi) xs g
form_made form.Arrow q lo hi xs g = arrow_made q (from_to lo hi) xs g
form_made form.Yield q lo hi xs g = yield_made q (from_to lo hi) xs g
form_made form.New q lo hi xs g = construction_made q (from_to lo hi) xs g
form_made form.Assertion q lo hi xs g = assertion_made q (from_to lo hi) xs g
form_made form.Annotated q lo hi xs g = annotated_made q (from_to lo hi) xs g
form_made form.Declarator q lo hi xs g = declarator_made q (from_to lo hi) xs g
form_made form.Param q lo hi xs g = parameter_made q (from_to lo hi) xs g
form_made (form.Function p) q lo hi xs g = function_made p q (from_to lo hi) xs g
form_made form.Getter q lo hi xs g = getter_made q (from_to lo hi) xs g
form_made form.Setter q lo hi xs g = setter_made q (from_to lo hi) xs g
form_made (form.Class p is_abstract) q lo hi xs g = class_made p is_abstract q (from_to lo hi) xs g
form_made (form.Method k) q lo hi xs g = method_made k q (from_to lo hi) xs g
form_made form.Field q lo hi xs g = field_made q (from_to lo hi) xs g
form_made form.Modified q lo hi xs g = modified_made q (from_to lo hi) xs g
form_made form.IndexSignature q lo hi xs g = signature_made q (from_to lo hi) xs g
form_made (form.Signature k) q lo hi xs g = type_signature_made q _ xs g
form_made form.NewSignature q lo hi xs g = type_signature_made q _ xs g
form_made form.Headed q lo hi xs g = headed_made q (from_to lo hi) xs g
form_made form.Declared q lo hi xs g = declared_made q (from_to lo hi) xs g
form_made form.Namespace q lo hi xs g = namespace_made q (from_to lo hi) xs g
form_made form.ImportEquals q lo hi xs g = import_equals_made q (from_to lo hi) xs g
form_made form.Module q lo hi xs g = module_made q (from_to lo hi) xs g
