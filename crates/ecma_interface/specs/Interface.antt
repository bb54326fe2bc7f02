-- How a module stands to others: its imports (ECMAScript, 16.2.2), what it exports again, and its exported names (16.2.3).
use Rattle.std.specs.Prelude.{ℕ, List}

-- a key and a text behind `with`
--   import "m" with { type: "json" };
pub record Attribute : Type 0 where
  pub key : List ℕ
  pub value : List ℕ

-- 16.2.1.2 ModuleRequest Record: another module, by what its specifier says
pub record Request : Type 0 where
  pub source : List ℕ
  pub attributes : List Attribute

-- [[ImportName]] of an import: a name that the other module exports, or its namespace object
pub data Imported : Type 0 where
  ByName : List ℕ → Imported
  AsObject : Imported

-- 16.2.2 ImportEntry Record, and the text by which the local variable is known
--   import a, { b as c } from "m"; import * as d from "n";   // default as a, b as c; the object as d
pub record ImportEntry : Type 0 where
  pub imported : Imported
  pub local : List ℕ

-- an import declaration
pub record Import : Type 0 where
  pub request : Request
  pub entries : List ImportEntry

-- 16.2.3 ExportEntry Record of what is exported again: a name of the other module by a name, its namespace object by a name,
-- or all its names but `default`
--   export { a as b } from "m"; export * as c from "m"; export * from "m";
pub data Again : Type 0 where
  NameAs : List ℕ → List ℕ → Again
  ObjectAs : List ℕ → Again
  AllNames : Again

-- an export declaration with a specifier
pub record ReExport : Type 0 where
  pub request : Request
  pub entries : List Again

-- 16.2.3 ExportEntry Record of a name of the module itself, and the text by which its variable is known: `*default*` where that has no name
--   export let a; export { b as c }; export default 1;   // a for a, c for b, default for *default*
pub record Export : Type 0 where
  pub exported : List ℕ
  pub local : List ℕ

-- imports and what is exported again, in the order of the text; and the exported names
pub record Interface : Type 0 where
  pub imports : List Import
  pub re_exports : List ReExport
  pub exports : List Export
