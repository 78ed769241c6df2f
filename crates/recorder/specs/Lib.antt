-- What the recorder promises, and a host that stores what it writes.
pub mod Record
pub mod Evening
