mod Showing
mod Harmless
mod Feeding
mod Steps
mod Paging
mod HeadsShown
