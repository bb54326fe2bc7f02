-- The line that says why a run came to nothing.
use Rattle.std.specs.Prelude.{ℕ, List, [], ◌++◌, codes, decimal}
use Rattle.ts_to_js.specs.declared.error.TsError.{TsError}
use Rattle.ts_to_js.specs.declared.error.TsError.TheVariants as error

-- a line of two pieces
abbrev pub line : List ℕ → List ℕ → List ℕ
line head tail = head ++ (tail ++ codes "\n")

-- the name of a refusal, up to its place or name
abbrev pub fault_head : TsError → List ℕ
fault_head error.TooLong = codes "error: TooLong"
fault_head error.NotUtf8 = codes "error: NotUtf8"
fault_head (error.TooDeep at) = codes "error: TooDeep at "
fault_head (error.Syntax at) = codes "error: Syntax at "
fault_head error.Spent = codes "error: Spent"
fault_head (error.ExportAssignTwice at) = codes "error: ExportAssignTwice at "
fault_head (error.ImportAssign at) = codes "error: ImportAssign at "
fault_head (error.ExportAssign at) = codes "error: ExportAssign at "
fault_head (error.Redeclared name) = codes "error: Redeclared "
fault_head (error.ExportUnbound name) = codes "error: ExportUnbound "
fault_head (error.Captured name) = codes "error: Captured "
fault_head error.NoMemory = codes "error: NoMemory"

-- its place or name, if it has one
abbrev pub fault_tail : TsError → List ℕ
fault_tail (error.TooDeep at) = decimal at
fault_tail (error.Syntax at) = decimal at
fault_tail (error.ExportAssignTwice at) = decimal at
fault_tail (error.ImportAssign at) = decimal at
fault_tail (error.ExportAssign at) = decimal at
fault_tail (error.Redeclared name) = name
fault_tail (error.ExportUnbound name) = name
fault_tail (error.Captured name) = name
fault_tail refusal = []

abbrev pub fault_line : TsError → List ℕ
fault_line refusal = line (fault_head refusal) (fault_tail refusal)

-- the first word that is unknown or repeated
abbrev pub bad_word_line : List ℕ → List ℕ
bad_word_line word = line (codes "error: bad word ") word
