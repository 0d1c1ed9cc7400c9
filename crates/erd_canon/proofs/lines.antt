pub mod PlainWords
pub mod OptionWords
pub mod LineReadings
