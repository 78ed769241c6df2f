-- The table's kind, the view of a table as regions, and which layer keeps which words.
pub mod Kind
pub mod Regions
pub mod Owners
