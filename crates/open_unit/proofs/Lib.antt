pub mod OtherFares
pub mod RoleLemmas
