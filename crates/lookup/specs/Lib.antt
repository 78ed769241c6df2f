-- The lookup by id. The layers above name `Promise` alone. What the code's contracts and proofs cite besides stands in `Inside`, where nothing opens or builds what the promise keeps shut.
pub mod Promise
pub mod Inside
mod Held
