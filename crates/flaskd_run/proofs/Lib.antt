pub mod TopLemmas
pub mod PathLemmas
pub mod PlanLemmas
pub mod MadePolicy
pub mod MadeLemmas
