pub mod AuditLemmas
pub mod LogLemmas
pub mod CallLemmas
