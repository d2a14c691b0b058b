pub mod Promises
pub mod Translations
