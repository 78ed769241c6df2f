-- What the items' part of the soundness check promises, and what each of its parts tells.
pub mod Items
pub mod Check
