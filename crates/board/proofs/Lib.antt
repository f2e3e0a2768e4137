mod Clearing
mod Kept
mod Outgoing
mod Refusals
