mod Turns
mod Apart
mod Membership
