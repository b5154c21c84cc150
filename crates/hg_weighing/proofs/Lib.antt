mod Here
mod Weighings
