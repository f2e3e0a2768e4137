mod Found
mod Covered
mod Puts
