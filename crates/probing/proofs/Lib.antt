mod Units
mod Looks
mod Meets
