pub mod Growth
pub mod OneList
pub mod Stands
pub mod RuleTurns
pub mod UnitsAlone
pub mod Categories
pub mod FirstFindings
pub mod Spelling
