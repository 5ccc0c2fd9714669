mod KnownKeys
mod Lists
mod Placed
mod Places
