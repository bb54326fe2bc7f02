-- The layout of functions, classes and their members, properties and patterns (ECMAScript, 13.2.5, 14.3.3, 15).
use Rattle.std.specs.Prelude.{ℕ, Bool, true, false, List, [], ◌∷◌, codes}
use Rattle.ecma_kind.specs.declared.kind.Kind.{Kind}
use Rattle.ecma_kind.specs.declared.kind.Kind.TheVariants.{FnExpr, ClassExpr, ArrowExpr, FnDecl, ClassDecl, Function, Param, Class, Constructor, TsParamProp, ClassMethod, PrivateMethod, ClassProp, PrivateProp, StaticBlock, KeyValueProp, AssignProp, GetterProp, SetterProp, MethodProp, ComputedPropName, BindingIdent, ArrayPat, ObjectPat, RestPat, AssignPat, KeyValuePatProp, AssignPatProp}
use Rattle.ecma_kind.specs.declared.operators.MethodKind.{MethodKind}
use Rattle.ecma_kind.specs.declared.operators.MethodKind.TheVariants.{Method, Getter, Setter}
use Rattle.ecma_print.specs.declared.place.Begins.TheVariants.{ArrowBodyStart}
use Rattle.ecma_print.specs.declared.place.Spot.{Spot}
use Rattle.ecma_print.specs.declared.place.Between.TheVariants.{Blank, Equals, Extends}
use Rattle.ecma_print.specs.declared.place.Place.{Place}
use Rattle.ecma_print.specs.declared.place.Place.TheVariants.{At, Within, FunctionHead, MethodHead, Block, Arguments, Braces, Brackets}
use Rattle.ecma_print.specs.Precedences as precedence
use Rattle.ecma_print.specs.Pieces.{Piece, nothing, say, ◌>>◌}
use Rattle.ecma_print.specs.Places.{free, beginning}
use Rattle.ecma_print.specs.Laid.{Laid}
use Rattle.ecma_print.specs.Lists.{first_in}

-- by itself, as a part of what stands around
abbrev pub plain : Place
plain = At (free precedence.assignment)

-- after a blank, if it is there
abbrev pub behind_blank : Place
behind_blank = Within Blank (free precedence.assignment)

-- what stands before the name of a function
abbrev pub function_head : Kind → List ℕ
function_head (Function false false) = codes "function"
function_head (Function true false) = codes "function*"
function_head (Function false true) = codes "async function"
function_head (Function true true) = codes "async function*"
function_head kind = []

-- what stands before the name of a method
abbrev pub method_head : Kind → List ℕ
method_head (Function false false) = []
method_head (Function true false) = codes "*"
method_head (Function false true) = codes "async "
method_head (Function true true) = codes "async *"
method_head kind = []

-- a function with the name that it may have
abbrev pub named_function : List Laid → Piece
named_function (name ∷ function ∷ []) = function.at FunctionHead >> name.at behind_blank >> function.at plain
named_function children = nothing

-- what stands after the name: parameters and body
abbrev pub function_rest : List Laid → Piece
function_rest (params ∷ body ∷ type_params ∷ return_type ∷ []) = params.at Arguments >> body.at behind_blank
function_rest children = nothing

abbrev pub async_word : Bool → List ℕ
async_word true = codes "async "
async_word false = []

abbrev pub arrow : Bool → List Laid → Spot → Piece
arrow is_async (params ∷ body ∷ type_params ∷ return_type ∷ []) spot =
    say (async_word is_async) >> params.at Arguments >> say (codes " => ")
    >> body.at (At (beginning precedence.assignment ArrowBodyStart spot.without_in))
arrow is_async children spot = nothing

abbrev pub named_class : List Laid → Piece
named_class (name ∷ body ∷ []) = say (codes "class") >> name.at behind_blank >> body.at plain
named_class children = nothing

-- what stands after the name: heritage and members
abbrev pub class_rest : List Laid → Piece
class_rest (super_class ∷ body ∷ type_params ∷ super_type_params ∷ interfaces ∷ []) =
    super_class.at (Within Extends (free precedence.left_hand_side)) >> say (codes " ") >> body.at Block
class_rest children = nothing

abbrev pub constructor : List Laid → Piece
constructor (key ∷ params ∷ body ∷ []) = key.at plain >> params.at Arguments >> body.at behind_blank
constructor children = nothing

abbrev pub static_word : Bool → List ℕ
static_word true = codes "static "
static_word false = []

abbrev pub accessor_word : MethodKind → List ℕ
accessor_word Method = []
accessor_word Getter = codes "get "
accessor_word Setter = codes "set "

abbrev pub class_method : MethodKind → Bool → List Laid → Piece
class_method kind is_static (key ∷ function ∷ []) = say (static_word is_static) >> say (accessor_word kind) >> function.at MethodHead >> key.at plain >> function.at plain
class_method kind is_static children = nothing

abbrev pub field : Bool → List Laid → Piece
field is_static (key ∷ value ∷ type_ann ∷ []) =
    say (static_word is_static) >> key.at plain >> value.at (Within Equals (free precedence.assignment)) >> say (codes ";")
field is_static children = nothing

abbrev pub static_block : List Laid → Piece
static_block (body ∷ []) = say (codes "static ") >> body.at plain
static_block children = nothing

abbrev pub key_value : List Laid → Piece
key_value (key ∷ value ∷ []) = key.at plain >> say (codes ": ") >> value.at plain
key_value children = nothing

-- a name or a pattern, and what it is without a value
abbrev pub with_default : List Laid → Piece
with_default (target ∷ value ∷ []) = target.at plain >> value.at (Within Equals (free precedence.assignment))
with_default children = nothing

abbrev pub getter : List Laid → Piece
getter (key ∷ type_ann ∷ body ∷ []) = say (codes "get ") >> key.at plain >> say (codes "()") >> body.at behind_blank
getter children = nothing

abbrev pub setter : List Laid → Piece
setter (key ∷ this_param ∷ param ∷ body ∷ []) = say (codes "set ") >> key.at plain >> say (codes "(") >> param.at plain >> say (codes ")") >> body.at behind_blank
setter children = nothing

abbrev pub method : List Laid → Piece
method (key ∷ function ∷ []) = function.at MethodHead >> key.at plain >> function.at plain
method children = nothing

-- in brackets; what stands in them has the precedence that the place asks for
abbrev pub computed : List Laid → Spot → Piece
computed (expression ∷ []) spot = say (codes "[") >> expression.at (At (free spot.level)) >> say (codes "]")
computed children spot = nothing

abbrev pub rest_pattern : List Laid → Piece
rest_pattern (pattern ∷ rest) = say (codes "...") >> pattern.at plain
rest_pattern [] = nothing

-- functions and classes; other nodes have no such text
abbrev pub function_text : Kind → List Laid → Spot → Piece
function_text FnExpr children spot = named_function children
function_text (FnDecl declare) children spot = named_function children
function_text (Function is_generator is_async) children spot = function_rest children
function_text (ArrowExpr is_async is_generator) children spot = arrow is_async children spot
function_text ClassExpr children spot = named_class children
function_text (ClassDecl declare) children spot = named_class children
function_text (Class is_abstract) children spot = class_rest children
function_text kind children spot = nothing

-- members of classes
abbrev pub class_member : Kind → List Laid → Piece
class_member (Constructor accessibility is_optional) children = constructor children
class_member (ClassMethod kind modifiers) children = class_method kind modifiers.is_static children
class_member (PrivateMethod kind modifiers) children = class_method kind modifiers.is_static children
class_member (ClassProp modifiers readonly declare definite) children = field modifiers.is_static children
class_member (PrivateProp modifiers readonly declare definite) children = field modifiers.is_static children
class_member StaticBlock children = static_block children
class_member kind children = nothing

-- properties of objects
abbrev pub property : Kind → List Laid → Spot → Piece
property KeyValueProp children spot = key_value children
property AssignProp children spot = with_default children
property GetterProp children spot = getter children
property SetterProp children spot = setter children
property MethodProp children spot = method children
property ComputedPropName children spot = computed children spot
property kind children spot = nothing

-- patterns and parameters
abbrev pub pattern : Kind → List Laid → Piece
pattern BindingIdent children = first_in plain children
pattern Param children = first_in plain children
pattern (TsParamProp accessibility is_override readonly) children = first_in plain children
pattern (ArrayPat optional) children = first_in Brackets children
pattern (ObjectPat optional) children = first_in Braces children
pattern RestPat children = rest_pattern children
pattern AssignPat children = with_default children
pattern KeyValuePatProp children = key_value children
pattern AssignPatProp children = with_default children
pattern kind children = nothing
