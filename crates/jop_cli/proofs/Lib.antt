mod Checked
mod Constants
mod Due
mod DueKey
mod DueEmptied
pub mod Whole
mod Heard
mod Licensed
mod Keyed
mod Local
pub mod Opened
mod OwnLicences
mod Owned
mod Runs
mod Sessions
mod SyncCauses
mod SyncSides
mod Synced
mod Tidied
mod Two
mod Upgraded
