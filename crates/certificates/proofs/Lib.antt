pub mod CertificateLines
pub mod CertificateRead
pub mod CertificateWritten
pub mod WrittenCertificates
