mod Example
mod Growth
mod Joins
mod Known
mod Landed
mod Law
mod Learning
mod Moved
mod Own
mod Places
mod Sessions
mod Trees
pub mod Written
pub mod Files
mod InTune
mod InTuneReads
mod InTunePuts
mod Redo
mod Alike
mod OneKind
pub mod UnderWay
mod Aside
mod Allowed
pub mod Walked
mod Upgrades
mod Histories
mod Unread
