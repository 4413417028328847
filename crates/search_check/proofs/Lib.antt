pub mod RunTexts
pub mod CertificateTexts
pub mod TextLines
pub mod SectionAdded
pub mod SectionsJoined
pub mod OwnLines
pub mod SameCases
