pub mod App
pub mod Form
pub mod Rules
pub mod Usage
pub mod View
