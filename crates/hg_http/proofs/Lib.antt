mod Pieces
mod Keys
mod Alone
mod Following
mod HookHeads
