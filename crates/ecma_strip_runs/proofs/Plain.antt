-- A kind without what its own data says of types means what it meant.
use Rattle.std.proofs.Common.{◌≡◌, refl, List, [], ◌∷◌, Bool, true, false, not, ◌&&◌}
use Rattle.ecma_kind.specs.declared.kind.Kind.{Kind}
use Rattle.ecma_kind.specs.declared.kind.Kind.TheVariants as kind
use Rattle.ecma_tree.specs.declared.node.Node.{Node}
use Rattle.ecma_runs.specs.Meaning.{Meaning}
use Rattle.ecma_runs.specs.Evaluation.{meaning_by}
use Rattle.ecma_strip.specs.Stripping.{plain_kind}

-- a member of a class that is neither abstract nor ambient
abbrev pub is_concrete : Kind → Bool
is_concrete (kind.ClassProp modifiers readonly declare definite) = not declare && not modifiers.is_abstract
is_concrete (kind.PrivateProp modifiers readonly declare definite) = not declare && not modifiers.is_abstract
is_concrete (kind.ClassMethod sort modifiers) = not modifiers.is_abstract
is_concrete (kind.PrivateMethod sort modifiers) = not modifiers.is_abstract
is_concrete k = true

pub plain_meaning : (n : Node) (k : Kind) (ms : List Meaning) → is_concrete k ≡ true → meaning_by n (plain_kind k) ms ≡ meaning_by n k ms
unfolding plain_kind
plain_meaning n (kind.Ident sym ctxt optional) [] h = refl
plain_meaning n (kind.Ident sym ctxt optional) (a ∷ ms) h = refl
plain_meaning n (kind.ArrayPat optional) [] h = refl
plain_meaning n (kind.ArrayPat optional) (a ∷ []) h = refl
plain_meaning n (kind.ArrayPat optional) (a ∷ b ∷ []) h = refl
plain_meaning n (kind.ArrayPat optional) (a ∷ b ∷ d ∷ ms) h = refl
plain_meaning n (kind.ObjectPat optional) [] h = refl
plain_meaning n (kind.ObjectPat optional) (a ∷ []) h = refl
plain_meaning n (kind.ObjectPat optional) (a ∷ b ∷ []) h = refl
plain_meaning n (kind.ObjectPat optional) (a ∷ b ∷ d ∷ ms) h = refl
plain_meaning n (kind.VarDeclarator definite) [] h = refl
plain_meaning n (kind.VarDeclarator definite) (a ∷ []) h = refl
plain_meaning n (kind.VarDeclarator definite) (a ∷ b ∷ []) h = refl
plain_meaning n (kind.VarDeclarator definite) (a ∷ b ∷ d ∷ ms) h = refl
plain_meaning n (kind.Class is_abstract) [] h = refl
plain_meaning n (kind.Class is_abstract) (a ∷ []) h = refl
plain_meaning n (kind.Class is_abstract) (a ∷ b ∷ []) h = refl
plain_meaning n (kind.Class is_abstract) (a ∷ b ∷ d ∷ []) h = refl
plain_meaning n (kind.Class is_abstract) (a ∷ b ∷ d ∷ e ∷ []) h = refl
plain_meaning n (kind.Class is_abstract) (a ∷ b ∷ d ∷ e ∷ f ∷ []) h = refl
plain_meaning n (kind.Class is_abstract) (a ∷ b ∷ d ∷ e ∷ f ∷ g ∷ ms) h = refl
plain_meaning n (kind.Constructor accessibility is_optional) [] h = refl
plain_meaning n (kind.Constructor accessibility is_optional) (a ∷ []) h = refl
plain_meaning n (kind.Constructor accessibility is_optional) (a ∷ b ∷ []) h = refl
plain_meaning n (kind.Constructor accessibility is_optional) (a ∷ b ∷ d ∷ []) h = refl
plain_meaning n (kind.Constructor accessibility is_optional) (a ∷ b ∷ d ∷ e ∷ ms) h = refl
plain_meaning n (kind.ClassMethod sort modifiers) ms h = method modifiers.is_abstract refl ms h
  where
    method : (b : Bool) → modifiers.is_abstract ≡ b → (ms : List Meaning) → not modifiers.is_abstract ≡ true
        → meaning_by n (plain_kind (kind.ClassMethod sort modifiers)) ms ≡ meaning_by n (kind.ClassMethod sort modifiers) ms
    method true e ms h = absurd (cc)
    method false e [] h = rw e refl
    method false e (a ∷ []) h = rw e refl
    method false e (a ∷ b ∷ []) h = rw e refl
    method false e (a ∷ b ∷ d ∷ ms) h = rw e refl
plain_meaning n (kind.PrivateMethod sort modifiers) ms h = method modifiers.is_abstract refl ms h
  where
    method : (b : Bool) → modifiers.is_abstract ≡ b → (ms : List Meaning) → not modifiers.is_abstract ≡ true
        → meaning_by n (plain_kind (kind.PrivateMethod sort modifiers)) ms ≡ meaning_by n (kind.PrivateMethod sort modifiers) ms
    method true e ms h = absurd (cc)
    method false e [] h = rw e refl
    method false e (a ∷ []) h = rw e refl
    method false e (a ∷ b ∷ []) h = rw e refl
    method false e (a ∷ b ∷ d ∷ ms) h = rw e refl
plain_meaning n (kind.ClassProp modifiers readonly true definite) ms h = absurd (cc)
plain_meaning n (kind.ClassProp modifiers readonly false definite) ms h = field modifiers.is_abstract refl ms h
  where
    field : (b : Bool) → modifiers.is_abstract ≡ b → (ms : List Meaning) → not modifiers.is_abstract ≡ true
        → meaning_by n (plain_kind (kind.ClassProp modifiers readonly false definite)) ms ≡ meaning_by n (kind.ClassProp modifiers readonly false definite) ms
    field true e ms h = absurd (cc)
    field false e [] h = rw e refl
    field false e (a ∷ []) h = rw e refl
    field false e (a ∷ b ∷ []) h = rw e refl
    field false e (a ∷ b ∷ d ∷ []) h = rw e refl
    field false e (a ∷ b ∷ d ∷ f ∷ ms) h = rw e refl
plain_meaning n (kind.PrivateProp modifiers readonly true definite) ms h = absurd (cc)
plain_meaning n (kind.PrivateProp modifiers readonly false definite) ms h = field modifiers.is_abstract refl ms h
  where
    field : (b : Bool) → modifiers.is_abstract ≡ b → (ms : List Meaning) → not modifiers.is_abstract ≡ true
        → meaning_by n (plain_kind (kind.PrivateProp modifiers readonly false definite)) ms ≡ meaning_by n (kind.PrivateProp modifiers readonly false definite) ms
    field true e ms h = absurd (cc)
    field false e [] h = rw e refl
    field false e (a ∷ []) h = rw e refl
    field false e (a ∷ b ∷ []) h = rw e refl
    field false e (a ∷ b ∷ d ∷ []) h = rw e refl
    field false e (a ∷ b ∷ d ∷ f ∷ ms) h = rw e refl
plain_meaning n _ ms h = refl
