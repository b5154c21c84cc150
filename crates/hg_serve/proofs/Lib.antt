mod Lists
mod Orders
mod Closings
mod Waits
mod Dones
