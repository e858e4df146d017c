-- Public contracts cite these. They are best read in this order.
pub mod ToolNames
pub mod Options
pub mod GivenOptions
pub mod HexDigits
pub mod Number
pub mod OptionTexts
pub mod DataOut
pub mod DataOutOptions
pub mod StartOptions
pub mod Requests
pub mod ParameterLists
pub mod ExitStatus
pub mod ShowKinds
-- Only private contracts cite these.
pub mod OptionTables
pub mod NumberList
