pub mod RisingKeys
pub mod PartsInOrder
