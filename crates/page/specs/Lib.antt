-- What the contracts of this crate cite.
pub mod Text
pub mod Form
pub mod Put
