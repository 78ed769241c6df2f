-- What the steps speak of besides the rules.
pub mod Items
