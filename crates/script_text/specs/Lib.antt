pub mod Numbers
pub mod Script
pub mod Laws
