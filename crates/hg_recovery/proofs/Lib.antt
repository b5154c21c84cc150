mod Feeding
mod Replaying
mod Stops
mod Folders
mod Taking
mod Next
mod Following
