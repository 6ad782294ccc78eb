pub mod Refusals
pub mod RefusalsCode
pub mod EnumerantsCode
