mod Lists
mod Copied
mod Shelves
mod PartGrowth
mod RunGrowth
