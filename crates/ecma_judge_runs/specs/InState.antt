-- The text and the Number of a value in a state, which has the elements of arrays.
use Rattle.std.specs.Prelude.{◌≡◌, ◌⊎◌, ℕ, Bool, true, false, List, [], ◌∷◌, ◌++◌, Option, Some, None, length, slice_get}
use Rattle.ecma_number.specs.StringToNumber.{text_number_of}
use Rattle.ecma_number.specs.declared.js_number.JsNumber.{JsNumber}
use Rattle.ecma_number.specs.declared.value.Value.TheVariants.{Known}
use Rattle.ecma_runs.specs.Values.{Value, Undefined, Null, Own}
use Rattle.ecma_runs.specs.State.{Array, Object, State}
use Rattle.ecma_runs.specs.Objects.{element_entries}
use Rattle.ecma_runs.specs.Operators.{number_from, text_from}

-- an array of these elements, as it is made (ECMAScript, 10.4.2.2 ArrayCreate); one that is not there is a hole
pub record IsArrayOf (elements : List (Option Value)) (o : Object) : Type 0 where
  pub entries : o.entries ≡ element_entries 0 elements
  pub extent : o.extent ≡ Array (length elements)

-- what adds nothing as an element
abbrev pub adds_nothing : Option Value → Bool
adds_nothing None = true
adds_nothing (Some Undefined) = true
adds_nothing (Some Null) = true
adds_nothing (Some v) = false

-- texts with commas (44) between them
abbrev pub behind_commas : List (List ℕ) → List ℕ
behind_commas [] = []
behind_commas (text ∷ texts) = 44 ∷ text ++ behind_commas texts

abbrev pub with_commas : List (List ℕ) → List ℕ
with_commas [] = []
with_commas (text ∷ texts) = text ++ behind_commas texts

-- the texts of elements (23.1.3.18 Array.prototype.join): of an array that of its elements. An array that holds itself has none.
pub data HaveTextsIn (s : State) : List (Option Value) → List (List ℕ) → Type 0 where
  none_left : HaveTextsIn s [] []
  empty_text : {element : Option Value} {elements : List (Option Value)} {texts : List (List ℕ)} → adds_nothing element ≡ true → HaveTextsIn s elements texts → HaveTextsIn s (element ∷ elements) ([] ∷ texts)
  own_text : {v : Value} {text : List ℕ} {elements : List (Option Value)} {texts : List (List ℕ)} → adds_nothing (Some v) ≡ false → text_from v ≡ Some text → HaveTextsIn s elements texts
      → HaveTextsIn s (Some v ∷ elements) (text ∷ texts)
  array_text : {place : ℕ} {o : Object} {inner elements : List (Option Value)} {parts texts : List (List ℕ)} → slice_get s.objects place ≡ Some o → IsArrayOf inner o → HaveTextsIn s inner parts
      → HaveTextsIn s elements texts → HaveTextsIn s (Some (Own place) ∷ elements) (with_commas parts ∷ texts)

-- an array whose elements have texts, with commas between these
pub record HasArrayText (s : State) (v : Value) (text : List ℕ) : Type 0 where
  pub place : ℕ
  pub is : v ≡ Own place
  pub object : Object
  pub at : slice_get s.objects place ≡ Some object
  pub elements : List (Option Value)
  pub array : IsArrayOf elements object
  pub parts : List (List ℕ)
  pub have : HaveTextsIn s elements parts
  pub joined : text ≡ with_commas parts

-- 7.1.17 ToString
abbrev pub HasTextIn : State → Value → List ℕ → Type 0
HasTextIn s v text = (text_from v ≡ Some text) ⊎ HasArrayText s v text

-- an array is the Number that its text is (7.1.4 ToNumber)
abbrev pub HasArrayNumber : State → Value → JsNumber → Type 0
HasArrayNumber s v number = (text : List ℕ) × HasArrayText s v text × (text_number_of text ≡ Known number)

-- the Number of a value: what the cast gives, unless that is open, and of an own object that of its text as an array
pub record HasNumberIn (s : State) (v : Value) (number : JsNumber) : Type 0 where
  pub itself : (n : JsNumber) → number_from v ≡ Some n → n ≡ number
  pub as_array : (place : ℕ) → v ≡ Own place → HasArrayNumber s v number
