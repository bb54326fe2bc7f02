pub mod UnplacedLinks
pub mod UnplacedForms
pub mod Simulation
pub mod Undeclared
pub mod Sources
pub mod Imports
pub mod StatementForms
pub mod Exports
pub mod DefaultExports
pub mod ModuleAssignments
pub mod Modules
pub mod Whole
pub mod ModuleTrees
pub mod Hashbangs
pub mod Texts
pub mod Targets
pub mod Law
mod Samples
mod StatementSamples
mod FunctionSamples
mod MemberSamples
mod ObjectSamples
mod ChainSamples
mod ModuleSamples
