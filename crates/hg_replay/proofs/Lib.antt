mod Sending
mod Items
mod Answered
mod Shortness
mod Replays
mod Growing
