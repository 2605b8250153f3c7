mod Opened
mod Started
