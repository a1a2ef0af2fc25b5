pub mod CutNames
pub mod FilePlans
pub mod PlanBounds
pub mod Reports
