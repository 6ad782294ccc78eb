pub mod State
pub mod Calls
pub mod Rules
pub mod Contract
pub mod ContractCode
pub mod Settles
pub mod Examples
