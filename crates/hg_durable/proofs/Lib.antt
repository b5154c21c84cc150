mod Exchanges
mod Ends
