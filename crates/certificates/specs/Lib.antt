pub mod Certificate
pub mod CertificateParts
pub mod CertificateText
pub mod Laws
