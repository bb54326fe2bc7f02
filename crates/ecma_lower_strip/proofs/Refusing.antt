-- What is told of a program that is refused.
use Rattle.std.proofs.Common.{◌≡◌, ◌<◌, ℕ, None, Err, refl}
use Rattle.ecma_config.specs.declared.config.Config.{Config}
use Rattle.ecma_kind.specs.Sessions.{SessionState}
use Rattle.ecma_kind.specs.declared.error.PassError.{PassError}
use Rattle.ecma_kind.specs.declared.error.PassError.TheVariants as pass_error
use Rattle.ecma_tree.specs.declared.node.Node.{Node}
use Rattle.ecma_elide.specs.Elision.{elided}
use Rattle.ecma_lower_strip.specs.declared.error.TypeScriptError.{TypeScriptError}
use Rattle.ecma_lower_strip.specs.declared.error.TypeScriptError.TheVariants as error
use Rattle.ecma_lower_strip.specs.Converting.{drawn_in}
use Rattle.ecma_lower_strip.specs.Refusals.{IsRefusedFor, OnRefusal, Refuses, refusal_of_pass, refused}

-- what the checks tell
pub checked-refuses : (config : Config) (left : ℕ) (program : Node) (e : TypeScriptError) → IsRefusedFor config (elided config program) e → Refuses config left program e
checked-refuses config left program (error.Lower r) h = h
checked-refuses config left program (error.Scope r) h = h
checked-refuses config left program error.Spent h = absurd h
checked-refuses config left program error.NoMemory h = tt

pub checked-tree : (e : TypeScriptError) (tree other : Node) → tree ≡ other → OnRefusal (Err e) (tree ≡ other)
checked-tree (error.Lower r) tree other h = h
checked-tree (error.Scope r) tree other h = h
checked-tree error.Spent tree other h = tt
checked-tree error.NoMemory tree other h = tt

pub checked-session : (e : TypeScriptError) (session other : SessionState) → session ≡ other → OnRefusal (Err e) (session ≡ other)
checked-session (error.Lower r) session other h = h
checked-session (error.Scope r) session other h = h
checked-session error.Spent session other h = tt
checked-session error.NoMemory session other h = tt

-- what a pass tells that is run where nothing is refused
pub passing-refuses : (config : Config) (left : ℕ) (program : Node) (reason : PassError) → refused config program ≡ None → (reason ≡ pass_error.Spent → left < drawn_in config program)
    → Refuses config left program (refusal_of_pass reason)
passing-refuses config left program pass_error.Spent h short = (h, short refl)
passing-refuses config left program pass_error.NoMemory h short = tt

pub passing-tree : (reason : PassError) (tree other : Node) → OnRefusal (Err (refusal_of_pass reason)) (tree ≡ other)
passing-tree pass_error.Spent tree other = tt
passing-tree pass_error.NoMemory tree other = tt

pub passing-session : (reason : PassError) (session other : SessionState) → OnRefusal (Err (refusal_of_pass reason)) (session ≡ other)
passing-session pass_error.Spent session other = tt
passing-session pass_error.NoMemory session other = tt

pub ruleset refusing = (checked-refuses, checked-tree, checked-session, passing-refuses, passing-tree, passing-session)
