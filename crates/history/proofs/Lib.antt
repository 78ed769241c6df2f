-- The theorems over any history of calls. Demand 2: `History`, `Run`, `Day`; demand 3: `Shape`, `Bound`; `Sharing`; W-203: `Evicting`, nobody is pushed out in turn; W-202: `Evening`, what the recorder wrote replayed, and altered, and `InPieces`; where nothing is written: `Unaltered`; that the contracts say what these speak of: `Ties`; the whiteboard: `Cases`. Before them what they rest on.
pub mod Drawn
pub mod Call
pub mod History
pub mod Run
pub mod Day
pub mod Shape
pub mod Bound
pub mod Sharing
pub mod Evicting
pub mod Replay
pub mod Evening
pub mod InPieces
pub mod Unaltered
pub mod Ties
pub mod Cases
