pub mod Claims
pub mod Systems
