pub mod AuditState
pub mod Codes
pub mod SoFar
pub mod inner
