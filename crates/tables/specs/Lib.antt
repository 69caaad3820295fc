-- Read in this order: Table, Places, Notices, Lent, Calls.
pub mod Table
pub mod Places
pub mod Notices
pub mod Lent
pub mod Calls
pub mod Options
