pub mod OneText
pub mod TicketTexts
