-- The request of the command line,
pub mod Options
pub mod Arguments
-- the run,
pub mod NewDisk
pub mod DiskInFile
pub mod PowerCycles
pub mod Reopened
-- the text of a disk that a file keeps,
pub mod ShownDisk
-- and why there is no script's status.
pub mod Stops
