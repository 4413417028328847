pub mod Judged
pub mod SameNames
pub mod SameRules
pub mod SameValues
