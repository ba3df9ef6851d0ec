pub mod Orders
pub mod Bytes
pub mod Codecs
pub mod Letters
pub mod PenElements
pub mod Numbers
pub mod Codes
pub mod Laws
