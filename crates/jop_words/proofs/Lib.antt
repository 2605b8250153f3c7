mod Ids
mod Lines
