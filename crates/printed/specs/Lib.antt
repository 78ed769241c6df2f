-- What the batch printer prints.
pub mod Printed
