pub mod Modulo
pub mod Numbers
pub mod Order
pub mod Signs
pub mod Wholes
pub mod Words
