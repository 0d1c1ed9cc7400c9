pub mod Refusing
pub mod FormLaws
