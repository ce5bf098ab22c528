pub mod PrintedAlike
pub mod SlotTexts
