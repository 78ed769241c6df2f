-- What an engine answers for what the plain history says, what the calls offered outside answer, and document 01's numbers for each case.
pub mod Numbers
pub mod Engine
pub mod Offered
