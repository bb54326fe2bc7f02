-- What each form makes of what it needs has the grade that is asked.
use Rattle.std.proofs.Common.{◌≡◌, true, refl, ℕ, Bool, List}
use Rattle.ecma_kind.specs.declared.span.Span.{Span}
use Rattle.ecma_kind.specs.declared.kind.Kind.{Kind}
use Rattle.ecma_tree.specs.declared.node.Node.{Node}
use Rattle.ecma_grammar.specs.declared.production.Plain.{Plain}
use Rattle.ecma_grammar.specs.declared.production.Form.{Form}
use Rattle.ecma_grammar.specs.declared.production.Form.TheVariants as form
use Rattle.ecma_grammar.specs.trees.Classes.{class}
use Rattle.ecma_grammar.specs.trees.Functions.{function}
use Rattle.ecma_grammar.specs.trees.Parts.{framed, from_to}
use Rattle.ecma_grammar.specs.trees.Plain.{plain_kind}
use Rattle.ecma_grammar.specs.Made.{made}
use Rattle.ecma_text_fits_parts.proofs.Grades.{Grade, IsMember, Meets, closed, expression, good, member}
use Rattle.ecma_text_fits_parts.proofs.MadeChains.{chain_made, links_made, logical_made, template_made}
use Rattle.ecma_text_fits_parts.proofs.MadeClasses.{class_is, field_made, method_made, modified_sound, signature_sound}
use Rattle.ecma_text_fits_parts.proofs.MadeFunctions.{Allowed, annotated_sound, arrow_is, assertion_is, construction_is, declarator_sound, declared_made, function_is, getter_sound, headed_sound, import_equals_sound, module_sound, namespace_is, parameter_sound, setter_sound, yield_is}
use Rattle.ecma_text_fits_parts.proofs.MadeLists.{elements_made, list_made, made_plainly, made_usually, sequence_made}
use Rattle.ecma_text_fits_parts.proofs.MadeNodes.{bare_made, first_made, given_so, node_made, quiet_closed, quiet_expression, swapped_made}
use Rattle.ecma_text_fits_parts.proofs.Needs.{before_modifiers, firmly, five, is_quiet, method_parts, needs, seven, six}
use Rattle.ecma_text_fits_parts.proofs.Wanted.{Given, Wanted}

made_member : (g : Grade) (n : Node) (w : Wanted) (xs : List Node) → (Given w xs → IsMember n) → Given (before_modifiers g w) xs → Meets g n
made_member member n w xs f k = f k
made_member _ n w xs f k = absurd k

firm : (k : Kind) → is_quiet k ≡ true → (g : Grade) (w : Wanted) (xs : List Node) → Given (firmly g w) xs → Allowed g k × Given w xs
firm k q good w xs r = ((refl, λ cs. refl), r)
firm k q expression w xs r = ((refl, λ cs. quiet_expression k q), r)
firm k q closed w xs r = ((refl, λ cs. quiet_closed k q), r)
firm k q _ w xs r = absurd r

function_made : (p : Plain) (g : Grade) (at : Span) (xs : List Node) → Given (needs (form.Function p) g) xs → Meets g (framed 7 (function at (plain_kind p)) xs)
function_made p g at xs k =
    let t = given_so (is_quiet (plain_kind p)) (firmly g seven) xs k in
    let f = firm (plain_kind p) t.0 g seven xs t.1 in
    function_is at (plain_kind p) g f.0 xs t.0 f.1

class_made : (p : Plain) (is_abstract : Bool) (g : Grade) (at : Span) (xs : List Node) → Given (needs (form.Class p is_abstract) g) xs → Meets g (framed 6 (class at (plain_kind p) is_abstract) xs)
class_made p is_abstract g at xs k =
    let t = given_so (is_quiet (plain_kind p)) (firmly g six) xs k in
    let f = firm (plain_kind p) t.0 g six xs t.1 in
    class_is at (plain_kind p) is_abstract g f.0 xs t.0 f.1

pub form_made : (f : Form) (g : Grade) (lo hi : ℕ) (xs : List Node) → Given (needs f g) xs → Meets g (made f lo hi xs)
form_made (form.Node p) g lo hi xs k = node_made (plain_kind p) g (from_to lo hi) xs k
form_made (form.Bare p) g lo hi xs k = bare_made (plain_kind p) g (from_to lo hi) xs k
form_made (form.First p) g lo hi xs k = first_made (plain_kind p) g (from_to lo hi) xs k
form_made (form.Swapped p) g lo hi xs k = swapped_made (plain_kind p) g (from_to lo hi) xs k
form_made form.List g lo hi xs k = list_made g xs k
form_made form.Elements g lo hi xs k = elements_made g xs k
form_made form.Sequence g lo hi xs k = sequence_made g (from_to lo hi) xs k
form_made form.Chain g lo hi xs k = chain_made g xs k
form_made form.Links g lo hi xs k = links_made g xs k
form_made form.Logical g lo hi xs k = logical_made g xs k
form_made form.Template g lo hi xs k = template_made g (from_to lo hi) xs k
form_made form.Arrow g lo hi xs k = made_usually g _ _ xs (arrow_is (from_to lo hi) xs) k
form_made form.Yield g lo hi xs k = made_usually g _ _ xs (yield_is (from_to lo hi) xs) k
form_made form.New g lo hi xs k = made_usually g _ _ xs (construction_is (from_to lo hi) xs) k
form_made form.Assertion g lo hi xs k = made_usually g _ _ xs (assertion_is (from_to lo hi) xs) k
form_made form.Annotated g lo hi xs k = made_plainly g _ _ xs (annotated_sound (from_to lo hi) xs) k
form_made form.Declarator g lo hi xs k = made_plainly g _ _ xs (declarator_sound (from_to lo hi) xs) k
form_made form.Param g lo hi xs k = made_plainly g _ _ xs (parameter_sound (from_to lo hi) xs) k
form_made (form.Function p) g lo hi xs k = function_made p g (from_to lo hi) xs k
form_made form.Getter g lo hi xs k = made_plainly g _ _ xs (getter_sound (from_to lo hi) xs) k
form_made form.Setter g lo hi xs k = made_plainly g _ _ xs (setter_sound (from_to lo hi) xs) k
form_made (form.Class p is_abstract) g lo hi xs k = class_made p is_abstract g (from_to lo hi) xs k
form_made (form.Method m) g lo hi xs k = made_member g _ (method_parts m) xs (method_made (from_to lo hi) m xs) k
form_made form.Field g lo hi xs k = made_member g _ five xs (field_made (from_to lo hi) xs) k
form_made form.Modified g lo hi xs k = made_plainly g _ _ xs (modified_sound (from_to lo hi) xs) k
form_made form.IndexSignature g lo hi xs k = made_plainly g _ _ xs (signature_sound (from_to lo hi) xs) k
form_made (form.Signature m) g lo hi xs k = absurd k
form_made form.NewSignature g lo hi xs k = absurd k
form_made form.Headed g lo hi xs k = made_plainly g _ _ xs (headed_sound (from_to lo hi) xs) k
form_made form.Declared g lo hi xs k = declared_made g (from_to lo hi) xs k
form_made form.Namespace g lo hi xs k = namespace_is g (from_to lo hi) xs k
form_made form.ImportEquals g lo hi xs k = made_plainly g _ _ xs (import_equals_sound (from_to lo hi) xs) k
form_made form.Module g lo hi xs k = made_plainly g _ _ xs (module_sound (from_to lo hi) xs) k
